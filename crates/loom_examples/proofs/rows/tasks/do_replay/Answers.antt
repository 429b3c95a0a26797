use Rattle.std.proofs.Common.{inr}
use Rattle.loom_examples.proofs.rows.tasks.do_replay.Goals as goal

pub returns-in_ok-explain_replay-in-Ok : goal.returns-in_ok-explain_replay-in-Ok
returns-in_ok-explain_replay-in-Ok g c =
    inr (c.in-Ok.replay, c.in-Ok.ensures.replays, (g.O.Write.contents c.print_replay.new.out, c.in_ok-status-in-Ok.ensures, c.in_ok-explain_replay-in-Ok.ensures))
