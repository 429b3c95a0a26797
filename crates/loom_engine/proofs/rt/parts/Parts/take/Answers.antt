use Rattle.std.proofs.Common.{◌<◌, Some, ap, sym, ◌∙◌, length, arith}
use Rattle.loom_engine.proofs.Parts.Keeping.{got_or}
use Rattle.loom_engine.proofs.rt.parts.Parts.take.Goals as goal

pub returns : goal.returns
returns c =
    let list = c.args.self.now.list in
    let low : c.args.number < length list.items = omega (arith, c.len.ensures, list.ok.0, c.if-number-len.false) in
    (c.index.result.now, got_or list.items c.args.number c.index.result.now low ∙ ap Some (sym c.index.ensures), c.in_ok-part.ensures)
