use Rattle.loom_engine.proofs.Covering.Parts.{begun_law}
use Rattle.loom_engine.proofs.laws.cover.choices_lead_to_branch_points.Goals as goal

pub returns : goal.returns
returns g c = begun_law
