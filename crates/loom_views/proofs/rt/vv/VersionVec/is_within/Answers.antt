use Rattle.loom_views.proofs.Views.VersionLists.{within-from_ahead, places-from_ahead}
use Rattle.loom_views.proofs.rt.vv.VersionVec.is_within.Goals as goal

pub returns-clause-test : goal.returns-clause-test
returns-clause-test c = within-from_ahead c.ahead.result c.is_none.result c.args.self.now c.args.other.now c.ahead.ensures c.is_none.ensures

pub returns-clause-componentwise : goal.returns-clause-componentwise
returns-clause-componentwise c = places-from_ahead c.ahead.result c.is_none.result c.args.self.now c.args.other.now c.ahead.ensures c.is_none.ensures
