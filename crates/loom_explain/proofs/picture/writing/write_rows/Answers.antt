use Rattle.std.proofs.Common.{string_bytes}
use Rattle.loom_explain.proofs.Standing.{stand_all, stand_next}
use Rattle.loom_explain.proofs.picture.writing.write_rows.Goals as goal

pub loop-place-preserved : goal.loop-place-preserved
loop-place-preserved c =
    stand_next c.args.form c.args.rows.now c.loop-place.place c.index-rows-place.result (string_bytes c.loop-place.out) (string_bytes c.put_row.new.out)
    c.loop-place-test.true c.index-rows-place.is c.loop-place.invariant c.in_ok-put_row.ensures

pub returns : goal.returns
returns c =
    stand_all c.args.form c.args.rows.now c.loop-place.place (string_bytes c.loop-place.out) (string_bytes c.push_str.new.self) c.args.end.now
    c.loop-place-test.false c.loop-place.invariant c.in_ok-push_str.ensures.bytes
