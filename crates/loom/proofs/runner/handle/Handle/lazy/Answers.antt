use Rattle.std.proofs.Common.{refl, inr}
use Rattle.std.proofs.lemmas.Result.{err_from_is_err_and}
use Rattle.loom.proofs.runner.handle.Handle.lazy.Goals as goal

pub returns-in_err-stands-clause-stopped : goal.returns-in_err-stands-clause-stopped
returns-in_err-stands-clause-stopped g c =
    let p = err_from_is_err_and c.from_residual-in_err-stands.result c.from_residual-in_err-stands.ensures.1 in
    rw (p.1, p.2)
    (inr (record {
      made = c.make.result;
      mid = c.get_lazy.new.self.told;
      lacking = record { absent = rw c.in_default.is at c.in_ok-value.ensures.tells; is_made = c.make.ensures };
      stops = c.in_err-stands.ensures.stopped;
    }))

pub returns-clause-had : goal.returns-clause-had
returns-clause-had g c = inr (record {
  made = c.make.result;
  mid = c.get_lazy.new.self.told;
  answer = _;
  lacking = record { absent = rw c.in_default.is at c.in_ok-value.ensures.tells; is_made = c.make.ensures };
  gives = c.in_ok-stands.ensures.tells;
  answers = refl;
})
