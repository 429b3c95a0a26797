use Rattle.std.proofs.Common.{arith, sym, ◌∙◌, ◌≡◌, true}
use Rattle.loom_engine.specs.Runs.Body.{runs}
use Rattle.loom_engine.proofs.Runs.Bodies.{run_tree_law}
use Rattle.loom.specs.Model.Rising.{is_complete}
use Rattle.loom.specs.Model.Settings.{explores}
use Rattle.loom.proofs.ModelLemmas.Bounds.{one_higher, rises_to}
use Rattle.loom.proofs.model.builder.Builder.check_rising.Goals.{then-bound-up_to-via-then-bound-up_to, then-bound-up_to-via-else-bound-up_to+then-not-is_complete}
use Rattle.loom.proofs.model.builder.Builder.check_rising.Goals as goal

pub returns-then-bound-up_to-clause-rises : goal.returns-then-bound-up_to-clause-rises
returns-then-bound-up_to-clause-rises g c =
    let b = c.args.self.now in
    let tree = runs g.B.Body.next (explores b) b.max_threads b.max_steps c.args.body.now in
    let sound = run_tree_law g.B.Body.next (explores b) b.max_threads b.max_steps c.args.body.now in
    let z = c.loop-report.invariant in
    let ends : is_complete c.in_ok-report.report ≡ true → c.loop-report.bound ≡ c.args.up_to = elim c.then-bound-up_to.branch [
      | then-bound-up_to-via-then-bound-up_to w ↦ (λ e. omega (arith, z.within, w.if-bound-up_to.true))
      | then-bound-up_to-via-else-bound-up_to+then-not-is_complete w ↦ (λ e. absurd (cc (e, w.is_complete.ensures, w.if-not-is_complete.true)))
    ] in
    rises_to b tree sound c.args.up_to c.loop-report.bound c.in_ok-report.report z.within z.lower c.in_ok-report.ensures.reports ends

pub loop-report-preserved : goal.loop-report-preserved
loop-report-preserved g c =
    let b = c.args.self.now in
    let tree = runs g.B.Body.next (explores b) b.max_threads b.max_steps c.args.body.now in
    let complete : is_complete c.in_ok-report.report ≡ true = sym c.is_complete.ensures ∙ c.if-not-is_complete.false in
    record {
      within = omega (arith, c.if-bound-up_to.false);
      lower = one_higher b tree c.loop-report.bound c.in_ok-report.report c.loop-report.invariant.lower complete c.in_ok-report.ensures.reports;
    }
