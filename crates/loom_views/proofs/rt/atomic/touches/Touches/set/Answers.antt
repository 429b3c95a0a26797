use Rattle.std.proofs.Common.{arith}
use Rattle.loom_views.proofs.Atomic.Touches.{padded_on, touches_set}
use Rattle.loom_views.proofs.rt.atomic.touches.Touches.set.Goals as goal

pub invariant_of-self : goal.invariant_of-self
invariant_of-self c =
    let set_in = c.set-self-inside in
    padded_on set_in.result c.self.inside.word (omega arith) (λ t far. set_in.ensures.others t (λ e. absurd (omega (arith, e, far, c.requires.thread_in)))) c.self.invariant

pub returns : goal.returns
returns c =
    let set_in = c.set-self-inside in
    rw (← c.self.view_is) (touches_set c.self.inside.word set_in.result c.args.thread c.args.version c.requires.thread_in c.requires.counted set_in.ensures.set set_in.ensures.others)
