use Rattle.loom_views.proofs.Atomic.TableLaws.Racing.{racing_law}
use Rattle.loom_views.proofs.laws.accesses_out_of_view_race.Goals as goal

pub returns : goal.returns
returns c = racing_law
