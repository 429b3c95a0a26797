use Rattle.std.proofs.Common.{refl, inr}
use Rattle.std.proofs.lemmas.Result.{err_from_is_err_and}
use Rattle.loom.proofs.runner.handle.Handle.with_lock.Goals as goal

pub returns-in_err-release-clause-stopped : goal.returns-in_err-release-clause-stopped
returns-in_err-release-clause-stopped g c =
    let p = err_from_is_err_and c.from_residual-in_err-release.result c.from_residual-in_err-release.ensures.1 in
    rw (p.1, p.2)
    (inr (record {
      guard = c.in_ok-guard.guard;
      left = _;
      answer = c.change-answer.result;
      mid = c.lock.new.self.told;
      taken = record {
        found = c.in_ok-guard.value;
        taken = c.in_ok-guard.ensures.tells;
        changed = record { shown = _; shows = refl; left = _; met = c.change-answer.ensures; leaves = refl };
      };
      kept = c.in_err-release.ensures.stopped;
    }))

pub returns-clause-within : goal.returns-clause-within
returns-clause-within g c = record {
  guard = c.in_ok-guard.guard;
  left = _;
  mid = c.lock.new.self.told;
  taken = record {
    found = c.in_ok-guard.value;
    taken = c.in_ok-guard.ensures.tells;
    changed = record { shown = _; shows = refl; left = _; met = c.change-answer.ensures; leaves = refl };
  };
  given = c.in_ok-release.ensures.tells;
}
