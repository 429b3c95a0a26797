use Rattle.std.proofs.Common.{refl, inr}
use Rattle.std.proofs.lemmas.Result.{IfOk-weaker, IfErr-weaker}
use Rattle.loom.proofs.runner.handle.Handle.local.Goals as goal

pub returns-clause-had : goal.returns-clause-had
returns-clause-had g c =
    IfOk-weaker c.init_local.result _ _
    (λ x t. inr (record {
      made = c.make.result;
      mid = c.get_local.new.self.told;
      answer = record { 0 = x };
      lacking = record { absent = rw c.in_default.is at c.in_ok-value.ensures.tells; is_made = c.make.ensures };
      gives = t;
      answers = refl;
    }))
    c.init_local.ensures.tells

pub returns-clause-stopped : goal.returns-clause-stopped
returns-clause-stopped g c =
    IfErr-weaker c.init_local.result _ _
    (λ stop t. inr (record {
      made = c.make.result;
      mid = c.get_local.new.self.told;
      lacking = record { absent = rw c.in_default.is at c.in_ok-value.ensures.tells; is_made = c.make.ensures };
      stops = t;
    }))
    c.init_local.ensures.stopped
