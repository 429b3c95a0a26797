use Rattle.std.proofs.Common.{◌≡◌}
use Rattle.std.specs.Fn.{CalledAtMut}
use Rattle.loom_engine.specs.Path.Route.{at_rest}
use Rattle.loom_engine.specs.Trees.Meeting.{whole_search}
use Rattle.loom.specs.Model.Settings.{explores}
use Rattle.loom.specs.Runner.Check.{limits_of}
use Rattle.loom.specs.Runner.Recording.{Records}
use Rattle.loom.proofs.runner.recorded.covering.learning.learn.Given as goal

-- runs were made of the closure and recorded
abbrev pub invariant-searches : goal.invariant-searches
invariant-searches g l = record {
  callable : goal.F-IsAlwaysCallable g l.closure;
  rests : l.search.path ≡ at_rest (whole_search l.builder.max_branches) (explores l.builder) l.search.path.nodes;
  records : Records (CalledAtMut g.F.FnMut) (limits_of l.builder) l.fn.closure l.fn.recording l.closure l.recording;
}
