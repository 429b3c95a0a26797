use Rattle.std.proofs.Common.{IfSome, map}
use Rattle.loom.specs.Model.Covered.{CoveringAlone}
use Rattle.loom_examples.specs.Rows.Builder.{builder_of}
use Rattle.loom_examples.specs.Scripts.Running.{started}
use Rattle.loom_examples.specs.Scripts.Script.{next_of}
use Rattle.loom_examples.specs.Scripts.Written.{written}
use Rattle.loom_rows.proofs.measuring.cover.cover_often.Given as goal

-- the report kept is of a check of the body
abbrev pub invariant-loop : goal.invariant-loop
invariant-loop g l = IfSome l.found (CoveringAlone (record (builder_of l.body.settings) { snapshots = l.snapshots }) next_of (started (map written l.body.steps.now)))
