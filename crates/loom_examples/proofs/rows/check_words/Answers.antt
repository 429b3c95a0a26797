use Rattle.loom_examples.proofs.RowLemmas.Naming.{printed_meant}
use Rattle.loom_examples.proofs.rows.check_words.Goals as goal

pub returns-in-Some : goal.returns-in-Some
returns-in-Some g c =
    let m = rw c.in-Some.is at c.meant.ensures.row in
    printed_meant c.args.rows.now _ c.in-Some.row.now _ _ _ c.check_row.result m c.meant.ensures.file c.check_row.ensures
