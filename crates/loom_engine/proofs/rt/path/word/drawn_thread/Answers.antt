use Rattle.std.proofs.Common.{Bool, true, false, ◌||◌, ◌≡◌, refl, ap, sym, ◌∙◌, Some, arith}
use Rattle.std.specs.Prelude.{cond}
use mir.Val.{bool_byte}
use Rattle.loom_engine.specs.Path.Words.{statuses_in}
use Rattle.loom_engine.proofs.Path.Nodes.First.{first_more, status_at}
use Rattle.loom_engine.proofs.rt.path.word.drawn_thread.Goals as goal

one_is : (b : Bool) → bool_byte b ≡ cond b 1 0
one_is true = refl
one_is false = refl

pub threads-preserved : goal.threads-preserved
threads-preserved c =
    first_more (statuses_in c.args.word) c.threads.place c.threads.thread c.threads.is_found c.status.result c.threads.invariant
    (status_at c.args.word c.threads.place (omega arith) ∙ ap Some (sym c.status.ensures))
    _ (ap (λ (b : Bool). c.threads.is_found || b) c.is_active-is_found.ensures) c.from-thread.result (c.from-thread.ensures ∙ one_is _)
