use Rattle.std.proofs.Common.{arith, sym, ◌∙◌, ◌≡◌, true}
use Rattle.std.specs.Fn.{CalledAtMut}
use Rattle.loom.specs.Model.Rising.{is_complete}
use Rattle.loom.proofs.Closures.Rising.{none_lower, one_higher}
use Rattle.loom.proofs.runner.rising.raise.Goals.{then-bound-up_to-via-then-bound-up_to, then-bound-up_to-via-else-bound-up_to+then-not-is_complete}
use Rattle.loom.proofs.runner.rising.raise.Goals as goal

pub loop-report-init : goal.loop-report-init
loop-report-init g c = record { callable = c.requires; within = omega arith; lower = none_lower (CalledAtMut g.F.FnMut) c.args.builder.now }

pub loop-report-preserved : goal.loop-report-preserved
loop-report-preserved g c =
    let complete : is_complete c.in_ok-report.report ≡ true = sym c.is_complete.ensures ∙ c.if-not-is_complete.false in
    record {
      callable = c.check_bounded.ensures.again;
      within = omega (arith, c.if-bound-up_to.false);
      lower = one_higher (CalledAtMut g.F.FnMut) c.args.builder.now c.loop-report.bound c.in_ok-report.report c.loop-report.invariant.lower complete c.in_ok-report.ensures.reports;
    }

pub returns-then-bound-up_to : goal.returns-then-bound-up_to
returns-then-bound-up_to g c =
    let z = c.loop-report.invariant in
    record {
      within = z.within;
      lower = z.lower;
      last = c.in_ok-report.ensures.reports;
      ends = elim c.then-bound-up_to.branch [
        | then-bound-up_to-via-then-bound-up_to w ↦ (λ e. omega (arith, z.within, w.if-bound-up_to.true))
        | then-bound-up_to-via-else-bound-up_to+then-not-is_complete w ↦ (λ e. absurd (cc (e, w.is_complete.ensures, w.if-not-is_complete.true)))
      ];
    }
