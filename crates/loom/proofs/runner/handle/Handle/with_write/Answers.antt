use Rattle.std.proofs.Common.{refl, inr}
use Rattle.std.proofs.lemmas.Result.{err_from_is_err_and}
use Rattle.loom.proofs.runner.handle.Handle.with_write.Goals as goal

pub returns-in_err-release_write-clause-stopped : goal.returns-in_err-release_write-clause-stopped
returns-in_err-release_write-clause-stopped g c =
    let p = err_from_is_err_and c.from_residual-in_err-release_write.result c.from_residual-in_err-release_write.ensures.1 in
    rw (p.1, p.2)
    (inr (record {
      guard = c.in_ok-guard.guard;
      left = _;
      answer = c.change-answer.result;
      mid = c.write.new.self.told;
      taken = record { found = c.in_ok-guard.value; taken = c.in_ok-guard.ensures.tells; changed = record { shown = _; shows = refl; left = _; met = c.change-answer.ensures; leaves = refl } };
      kept = c.in_err-release_write.ensures.stopped;
    }))

pub returns-clause-within : goal.returns-clause-within
returns-clause-within g c = record {
  guard = c.in_ok-guard.guard;
  left = _;
  mid = c.write.new.self.told;
  taken = record { found = c.in_ok-guard.value; taken = c.in_ok-guard.ensures.tells; changed = record { shown = _; shows = refl; left = _; met = c.change-answer.ensures; leaves = refl } };
  given = c.in_ok-release_write.ensures.tells;
}
