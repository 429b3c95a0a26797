use Rattle.loom_engine.proofs.Covering.Between.{at_place}
use Rattle.loom_engine.proofs.rt.states.trails.choice_at.Goals as goal

pub returns : goal.returns
returns c = at_place c.args.made.now c.args.place _ c.requires
