use Rattle.std.proofs.Common.{subst}
use Rattle.loom_views.specs.Versions.{IsCounted}
use Rattle.loom_views.proofs.Views.Lanes.{laid_out}
use Rattle.loom_views.proofs.rt.vv.VersionVec.word.Goals as goal

pub returns-clause-laid_out : goal.returns-clause-laid_out
returns-clause-laid_out c = rw (← c.self.view_is) (laid_out c.self.inside.word c.self.invariant.1)

pub returns-clause-counted : goal.returns-clause-counted
returns-clause-counted c = subst IsCounted c.self.view_is c.self.invariant.0
