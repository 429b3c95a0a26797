use Rattle.std.proofs.lemmas.Bool.Decides.{same_from_decides}
use Rattle.loom_engine.specs.Path.Same.{same_routes_tell}
use Rattle.loom_engine.proofs.rt.path.PathPartialEq.TheImpl.Goals as goal

pub eq-tells : goal.eq-tells
eq-tells c = same_from_decides c.result _ c.ensures (same_routes_tell c.args.self.now c.args.other.now)
