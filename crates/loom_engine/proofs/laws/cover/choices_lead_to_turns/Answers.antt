use Rattle.loom_engine.proofs.Covering.Turns.{schedule_law}
use Rattle.loom_engine.proofs.laws.cover.choices_lead_to_turns.Goals as goal

pub returns : goal.returns
returns g c = schedule_law
