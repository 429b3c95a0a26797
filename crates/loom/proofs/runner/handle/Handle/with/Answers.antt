use Rattle.std.proofs.Common.{refl, inr}
use Rattle.std.proofs.lemmas.Result.{err_from_is_err_and}
use Rattle.loom.proofs.runner.handle.Handle.with.Goals as goal

pub returns-in_err-end-clause-stopped : goal.returns-in_err-end-clause-stopped
returns-in_err-end-clause-stopped g c =
    let p = err_from_is_err_and c.from_residual-in_err-end.result c.from_residual-in_err-end.ensures.1 in
    rw (p.1, p.2)
    (inr (record {
      guard = c.in_ok-pointer.pointer;
      left = c.in_ok-pointer.value;
      answer = c.look-answer.result;
      mid = c.get.new.self.told;
      taken = record { found = c.in_ok-pointer.value; taken = c.in_ok-pointer.ensures.tells; changed = (_, c.look-answer.ensures, refl) };
      kept = c.in_err-end.ensures.stopped;
    }))

pub returns-clause-within : goal.returns-clause-within
returns-clause-within g c = record {
  guard = c.in_ok-pointer.pointer;
  left = c.in_ok-pointer.value;
  mid = c.get.new.self.told;
  taken = record { found = c.in_ok-pointer.value; taken = c.in_ok-pointer.ensures.tells; changed = (_, c.look-answer.ensures, refl) };
  given = c.in_ok-end.ensures.tells;
}
