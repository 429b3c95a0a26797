-- The rows tell what they told when the loop began.
use Rattle.loom_explain.specs.Rows.{StaysWhole, TellsSame}
use Rattle.loom_explain.proofs.picture.making.Rows.put_came.Given as goal

abbrev pub invariant-loop-place : goal.invariant-loop-place
invariant-loop-place l = TellsSame l.initial.self.list.items l.self.list.items × StaysWhole l.initial.self.list.items l.self.list.items
