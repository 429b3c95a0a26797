use Rattle.loom_views.proofs.Atomic.Touches.{touch-found}
use Rattle.loom_views.proofs.rt.atomic.touches.Touches.is_one_in.Goals as goal

pub returns : goal.returns
returns c = rw (← c.self.view_is) (touch-found c.self.inside.word c.word.result c.args.view.now c.word.ensures.laid_out (λ t l. c.word.ensures.counted t) c.self.invariant c.are_larger.result c.are_larger.ensures)
