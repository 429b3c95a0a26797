use Rattle.loom_views.proofs.Ranks.{in_order}
use Rattle.loom_views.proofs.rt.views.Views.ranked.Goals as goal

pub returns-in-Some-2 : goal.returns-in-Some-2
returns-in-Some-2 c = in_order c.in-Some.ranks c.args.self.now c.in-Some-2.ranked (rw c.in-Some.is at c.in_ok-ranks.ensures) (rw c.in-Some-2.is at c.in_ok-ranked.ensures)
