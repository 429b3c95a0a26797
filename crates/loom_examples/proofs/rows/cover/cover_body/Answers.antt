use Rattle.std.proofs.Common.{inr}
use Rattle.loom_examples.proofs.rows.cover.cover_body.Goals as goal

pub returns-in_ok-tell_covered-in-Ok : goal.returns-in_ok-tell_covered-in-Ok
returns-in_ok-tell_covered-in-Ok g c =
    inr (c.in-Ok.covered, c.in-Ok.ensures, (g.O.Write.contents c.print_covered.new.out, c.in_ok-status-in-Ok.ensures, c.in_ok-tell_covered-in-Ok.ensures))
