-- The marks of the rows up to the place stand in the text.
use Rattle.std.proofs.Common.{map, string_bytes, take}
use Rattle.loom_explain.specs.Marks.{StandIn, mark_of}
use Rattle.loom_explain.proofs.picture.writing.write_rows.Given as goal

abbrev pub invariant-loop-place : goal.invariant-loop-place
invariant-loop-place l = StandIn (map (mark_of l.form) (take l.place l.rows)) (string_bytes l.out)
