use Rattle.std.proofs.Common.{rules}
use Rattle.loom_views.proofs.rt.views.Views.fence.Goals as goal

pub returns-in-SeqCst : goal.returns-in-SeqCst
returns-in-SeqCst c = search rules
