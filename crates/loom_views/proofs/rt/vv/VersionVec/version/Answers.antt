use Rattle.std.proofs.Common.{get_or, sym, ap, ◌∙◌, arith}
use Rattle.loom_views.proofs.Views.Lanes.{counts-at, lane-counted}
use Rattle.loom_views.proofs.rt.vv.VersionVec.version.Goals as goal

pub returns-clause-value : goal.returns-clause-value
returns-clause-value c = c.get.ensures ∙ sym (counts-at c.self.inside.word c.args.thread c.requires) ∙ ap (λ l. get_or l c.args.thread 0) c.self.view_is

pub returns-clause-counted : goal.returns-clause-counted
returns-clause-counted c = omega (arith, c.get.ensures, lane-counted c.self.inside.word c.args.thread c.self.invariant.0 c.self.invariant.1)
