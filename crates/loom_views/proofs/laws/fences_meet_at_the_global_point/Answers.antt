use Rattle.loom_views.proofs.Atomic.TableLaws.Meeting.{fences_meet_law}
use Rattle.loom_views.proofs.laws.fences_meet_at_the_global_point.Goals as goal

pub returns : goal.returns
returns c = fences_meet_law
