use Rattle.std.proofs.Common.{◌∙◌, sym}
use Rattle.std.proofs.lemmas.Result.{err_from_is_err_and}
use Rattle.loom.proofs.RunnerLemmas.Asking.{stops_at_call, stops_at_fail}
use Rattle.loom.proofs.runner.handle.Handle.ask.Goals as goal

pub returns-in_err-reply-clause-stopped : goal.returns-in_err-reply-clause-stopped
returns-in_err-reply-clause-stopped g c =
    let p = err_from_is_err_and c.from_residual.result c.from_residual.ensures.1 in
    rw (p.1, p.2) (stops_at_call g.A.Answer.held c.args.request c.args.self.now.told c.call.new.self c.in_err-reply.field-0.0 c.in_err-reply.ensures.stopped)

pub returns-in-None-clause-stopped : goal.returns-in-None-clause-stopped
returns-in-None-clause-stopped g c =
    stops_at_fail g.A.Answer.held c.args.request c.args.self.now.told c.fail.new.self c.fail.result c.in_ok-reply.reply c.call.new.self.told c.in_ok-reply.ensures.live c.in_ok-reply.ensures.answered
    (sym c.from_reply.ensures ∙ c.in-None.is) c.fail.ensures.stopped
