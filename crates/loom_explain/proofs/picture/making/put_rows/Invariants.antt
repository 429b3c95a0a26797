-- Up to the place each event is shown or folded.
use Rattle.std.proofs.Common.{◌-◌, ◌≤◌, length, take}
use Rattle.loom_explain.specs.Pictures.{IsWhole, Tells}
use Rattle.loom_explain.proofs.picture.making.put_rows.Given as goal

abbrev pub invariant-loop-place : goal.invariant-loop-place
invariant-loop-place l = (l.place ≤ length l.events) × Tells 1 l.rows.list.items (take l.place l.events) × (length l.events ≤ l.most → IsWhole l.rows.list.items)

abbrev pub decreases-loop-place : goal.decreases-loop-place
decreases-loop-place l = length l.events - l.place
