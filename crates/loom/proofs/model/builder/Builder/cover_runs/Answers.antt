use Rattle.std.proofs.Common.{◌≡◌, Bool, [], ap, sym, ◌∙◌}
use Rattle.loom_engine.specs.Covering.Kept.{Noted}
use Rattle.loom.proofs.ModelLemmas.CoverRounds.{no_cover_memory}
use Rattle.loom.proofs.model.builder.Builder.cover_runs.Goals as goal

pub cover_rounds-covered-requires-clause-none : goal.cover_rounds-covered-requires-clause-none
cover_rounds-covered-requires-clause-none g c =
    let e = c.in_ok-states.ensures in
    e ∙ ap (λ (b : Bool). let n : Noted _ _ = record { states = []; led_by = []; never = b } in n) (sym (ap (λ (n : Noted _ _). n.never) e))

pub cover_rounds-covered-requires-clause-known : goal.cover_rounds-covered-requires-clause-known
cover_rounds-covered-requires-clause-known g c = λ is. c.never_switches.ensures (sym (ap (λ (n : Noted _ _). n.never) c.in_ok-states.ensures) ∙ is)

pub returns-in_err-states-clause-errors : goal.returns-in_err-states-clause-errors
returns-in_err-states-clause-errors g c =
    no_cover_memory c.args.self.now (g.S.CheckpointStore.gives c.args.store.now) (c.args.receiver.now ≡ c.args.receiver.now) c.from_residual-in_err-states.result c.from_residual-in_err-states.ensures.1
