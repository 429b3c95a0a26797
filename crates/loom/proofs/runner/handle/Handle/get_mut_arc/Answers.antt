use Rattle.std.proofs.Common.{refl, inr}
use Rattle.std.proofs.lemmas.Result.{err_from_is_err_and}
use Rattle.loom.proofs.runner.handle.Handle.get_mut_arc.Goals as goal

pub returns-in_err-ask-clause-stopped : goal.returns-in_err-ask-clause-stopped
returns-in_err-ask-clause-stopped g c =
    let p = err_from_is_err_and c.from_residual-in_err-ask.result c.from_residual-in_err-ask.ensures.1 in
    rw (p.1, p.2)
    (inr (record {
      guard = tt;
      left = _;
      answer = c.change-answer.result;
      mid = c.ask.new.self.told;
      taken = record { found = c.in-Some.value; taken = rw c.get_mut.ensures at (rw c.in-Some.is at c.in_ok-alone.ensures.tells); changed = record { shown = _; shows = refl; left = _; met = c.change-answer.ensures; leaves = refl } };
      kept = rw c.put.ensures at c.in_err-ask.ensures.stopped;
    }))

pub returns-clause-within : goal.returns-clause-within
returns-clause-within g c = record {
  guard = tt;
  left = _;
  mid = c.ask.new.self.told;
  taken = record { found = c.in-Some.value; taken = rw c.get_mut.ensures at (rw c.in-Some.is at c.in_ok-alone.ensures.tells); changed = record { shown = _; shows = refl; left = _; met = c.change-answer.ensures; leaves = refl } };
  given = rw c.put.ensures at c.in_ok-ask.ensures.tells;
}
