use Rattle.std.proofs.Common.{sym, arith}
use Rattle.loom_engine.specs.Path.Words.{bits, explores_in, readable_in}
use Rattle.loom_engine.proofs.Nodes.Nodes.Slots.{load_stays, load_last}
use Rattle.loom_engine.proofs.rt.path.word.is_read.Goals as goal

pub returns-then-not-explores : goal.returns-then-not-explores
returns-then-not-explores c = λ _.
    let w = c.args.word in
    load_stays (explores_in w) (readable_in w) (bits w 10 3) (sym c.if-not-explores.ensures)

pub returns : goal.returns
returns c = λ done.
    let w = c.args.word in
    load_last (explores_in w) (readable_in w) (bits w 10 3) c.requires (omega (arith, c.is_last.ensures done, c.position.ensures, c.slot_count.ensures))
