use Rattle.std.proofs.Common.{refl, inr}
use Rattle.std.proofs.lemmas.Result.{err_from_is_err_and}
use Rattle.loom.proofs.runner.handle.Handle.with_read.Goals as goal

pub returns-in_err-release_read-clause-stopped : goal.returns-in_err-release_read-clause-stopped
returns-in_err-release_read-clause-stopped g c =
    let p = err_from_is_err_and c.from_residual-in_err-release_read.result c.from_residual-in_err-release_read.ensures.1 in
    rw (p.1, p.2)
    (inr (record {
      guard = c.in_ok-guard.guard;
      left = c.in_ok-guard.value;
      answer = c.look-answer.result;
      mid = c.read.new.self.told;
      taken = record { found = c.in_ok-guard.value; taken = c.in_ok-guard.ensures.tells; changed = (_, c.look-answer.ensures, refl) };
      kept = c.in_err-release_read.ensures.stopped;
    }))

pub returns-clause-within : goal.returns-clause-within
returns-clause-within g c = record {
  guard = c.in_ok-guard.guard;
  left = c.in_ok-guard.value;
  mid = c.read.new.self.told;
  taken = record { found = c.in_ok-guard.value; taken = c.in_ok-guard.ensures.tells; changed = (_, c.look-answer.ensures, refl) };
  given = c.in_ok-release_read.ensures.tells;
}
