-- The rows stay.
use Rattle.std.proofs.Common.{◌≡◌}
use Rattle.loom_explain.proofs.picture.making.Rows.pass_to.Given as goal

abbrev pub invariant-loop-place : goal.invariant-loop-place
invariant-loop-place l = l.self.list.items ≡ l.initial.self.list.items
