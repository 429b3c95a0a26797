use Rattle.std.proofs.Common.{◌∙◌, subst}
use Rattle.std.specs.Fn.{CalledAtMut}
use Rattle.loom.specs.Runner.Handle.{Teller}
use Rattle.loom.proofs.runner.run.call_main.Goals as goal

pub returns-clause-called : goal.returns-clause-called
returns-clause-called g c =
    let handle = c.ask_closure-answer.new.handle in
    let closed = c.in_ok-told.ensures.told in
    record {
      handle = handle;
      answer = c.ask_closure-answer.result;
      call = subst (λ (h : Teller _). CalledAtMut g.F.FnMut c.args.closure.now h c.ask_closure-answer.result c.ask_closure-answer.new.closure handle) c.in_ok-handle.ensures.made c.ask_closure-answer.ensures.called;
      main = (closed.0, c.put_in_order.ensures ∙ closed.1, closed.2);
    }
