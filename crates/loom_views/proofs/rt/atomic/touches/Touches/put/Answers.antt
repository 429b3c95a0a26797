use Rattle.std.proofs.Common.{ap, sym, ◌∙◌, arith}
use Rattle.loom_views.specs.Atomic.Touches.{touch_in}
use Rattle.loom_views.proofs.Atomic.Touches.{padded_on, touch-at, touch_back}
use Rattle.loom_views.proofs.rt.atomic.touches.Touches.put.Goals as goal

pub invariant_of-self : goal.invariant_of-self
invariant_of-self c =
    let set_in = c.set-self-inside in
    padded_on set_in.result c.self.inside.word (omega arith) (λ t far. set_in.ensures.others t (λ e. absurd (omega (arith, e, far, c.requires.thread_in)))) c.self.invariant

pub returns-clause-put : goal.returns-clause-put
returns-clause-put c =
    let set_in = c.set-self-inside in
    touch-at set_in.result c.args.thread c.requires.thread_in ∙ ap touch_in (set_in.ensures.set ∙ c.unwrap_or.ensures) ∙ touch_back c.args.version c.requires.counted

pub returns-clause-others : goal.returns-clause-others
returns-clause-others c t l n =
    let set_in = c.set-self-inside in
    rw (← c.self.view_is) (touch-at set_in.result t l ∙ ap touch_in (set_in.ensures.others t n) ∙ sym (touch-at c.self.inside.word t l))
