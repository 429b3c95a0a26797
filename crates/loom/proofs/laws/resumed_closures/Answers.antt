use Rattle.std.specs.Fn.{CalledAtMut}
use Rattle.loom.proofs.Closures.Together.{together_law}
use Rattle.loom.proofs.laws.resumed_closures.Goals as goal

pub returns : goal.returns
returns g c = together_law (CalledAtMut g.F.FnMut) g.V.Visitor.takes
