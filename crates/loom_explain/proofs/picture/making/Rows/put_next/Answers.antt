use Rattle.std.proofs.Common.{arith}
use Rattle.loom_explain.proofs.Telling.{folds_next}
use Rattle.loom_explain.proofs.picture.making.Rows.put_next.Goals as goal

pub returns-then-folded-gt0-clause-told : goal.returns-then-folded-gt0-clause-told
returns-then-folded-gt0-clause-told c =
    folds_next c.args.self.now.list.items c.fold.new.self.list.items c.args.events.now c.args.place c.folded_from-folded.result
    (omega (arith, c.requires, c.folded_from-folded.ensures.within)) c.in_ok-fold.ensures
