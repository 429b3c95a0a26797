use Rattle.std.proofs.Common.{IfSome, map}
use Rattle.loom_examples.specs.Rows.Builder.{builder_of}
use Rattle.loom_examples.specs.Rows.Printed.{ReportsScript}
use Rattle.loom_examples.specs.Scripts.Written.{written}
use Rattle.loom_rows.proofs.measuring.check_often.Given as goal

-- the report kept is of a check of the body
abbrev pub invariant-loop : goal.invariant-loop
invariant-loop g l = IfSome l.found (ReportsScript (map written l.body.steps.now) (builder_of l.body.settings))
