use Rattle.std.proofs.Common.{refl, inr}
use Rattle.std.proofs.lemmas.Result.{err_from_is_err_and}
use Rattle.loom.proofs.runner.handle.Handle.with_mut.Goals as goal

pub returns-in_err-end_mut-clause-stopped : goal.returns-in_err-end_mut-clause-stopped
returns-in_err-end_mut-clause-stopped g c =
    let p = err_from_is_err_and c.from_residual-in_err-end_mut.result c.from_residual-in_err-end_mut.ensures.1 in
    rw (p.1, p.2)
    (inr (record {
      guard = c.in_ok-pointer.pointer;
      left = _;
      answer = c.change-answer.result;
      mid = c.get_mut.new.self.told;
      taken = record {
        found = c.in_ok-pointer.value;
        taken = c.in_ok-pointer.ensures.tells;
        changed = record { shown = _; shows = refl; left = _; met = c.change-answer.ensures; leaves = refl };
      };
      kept = c.in_err-end_mut.ensures.stopped;
    }))

pub returns-clause-within : goal.returns-clause-within
returns-clause-within g c = record {
  guard = c.in_ok-pointer.pointer;
  left = _;
  mid = c.get_mut.new.self.told;
  taken = record {
    found = c.in_ok-pointer.value;
    taken = c.in_ok-pointer.ensures.tells;
    changed = record { shown = _; shows = refl; left = _; met = c.change-answer.ensures; leaves = refl };
  };
  given = c.in_ok-end_mut.ensures.tells;
}
