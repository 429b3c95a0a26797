use Rattle.loom.proofs.History.Turning.{reply_of}
use Rattle.loom.proofs.runner.history.last.reply_in.Goals as goal

pub returns : goal.returns
returns g c = reply_of (λ r. r.now) c.args.history.now c.in_ok-event.event.now c.args.thread c.reply_to.result c.in_ok-event.ensures.value c.reply_to.ensures
