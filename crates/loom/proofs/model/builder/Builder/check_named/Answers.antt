use Rattle.loom.proofs.model.builder.Builder.check_named.Goals as goal

pub returns-clause-checks : goal.returns-clause-checks
returns-clause-checks g c =
    rw c.into_files.ensures (record {
      reports = c.check_alone-answer.ensures.reports;
      orders = c.check_alone-answer.ensures.orders;
      refused = c.check_alone-answer.ensures.refused;
      errors = c.check_alone-answer.ensures.errors;
      left = c.check_alone-answer.ensures.left;
      faults = c.check_alone-answer.ensures.faults;
    })

pub returns-clause-changes : goal.returns-clause-changes
returns-clause-changes g c = rw c.into_files.ensures c.check_alone-answer.new.store.others
