use Rattle.loom_engine.specs.Runs.Body.{runs}
use Rattle.loom.specs.Model.Settings.{explores}
use Rattle.loom.proofs.ModelLemmas.Among.{among_named, among_none, changes_named, changes_none}
use Rattle.loom.proofs.ModelLemmas.Errors.{no_count}
use Rattle.loom.proofs.model.builder.Builder.check_among.Goals as goal

pub check_named-requires-clause-begins : goal.check_named-requires-clause-begins
check_named-requires-clause-begins g c = ∣ (λ third beside named text held. held) ∣₁

pub returns-in-Some-clause-checks : goal.returns-in-Some-clause-checks
returns-in-Some-clause-checks g c =
    let b = c.args.self.now in
    let tree = runs g.B.Body.next (explores b) b.max_threads b.max_steps c.args.body.now in
    among_named b tree c.in-Some.name (g.F.TextFiles.holds c.args.files) (g.F.TextFiles.holds c.check_named.result.1) _ _ c.check_named.result.0 c.in-Some.is
    (rw (c.among-store.ensures.files, c.among-store.ensures.named, c.as_str.ensures.value) at c.check_named.ensures.checks)

pub returns-in-Some-clause-changes : goal.returns-in-Some-clause-changes
returns-in-Some-clause-changes g c =
    changes_named c.args.self.now.checkpoint_file c.in-Some.name (g.F.TextFiles.holds c.args.files) (g.F.TextFiles.holds c.check_named.result.1) c.in-Some.is
    (rw (c.among-store.ensures.files, c.among-store.ensures.named, c.as_str.ensures.value) at c.check_named.ensures.changes)

pub returns-in-None-clause-checks : goal.returns-in-None-clause-checks
returns-in-None-clause-checks g c =
    let b = c.args.self.now in
    let tree = runs g.B.Body.next (explores b) b.max_threads b.max_steps c.args.body.now in
    among_none b tree (g.F.TextFiles.holds c.args.files) _ _ _ _ c.check_alone-answer.result c.in-None.is (no_count c.check_alone-answer.new.store) (record {
      reports = c.check_alone-answer.ensures.reports;
      orders = c.check_alone-answer.ensures.orders;
      refused = c.check_alone-answer.ensures.refused;
      errors = c.check_alone-answer.ensures.errors;
      left = c.check_alone-answer.ensures.left;
      faults = c.check_alone-answer.ensures.faults;
    })

pub returns-in-None-clause-changes : goal.returns-in-None-clause-changes
returns-in-None-clause-changes g c = changes_none c.args.self.now.checkpoint_file (g.F.TextFiles.holds c.args.files) c.in-None.is
