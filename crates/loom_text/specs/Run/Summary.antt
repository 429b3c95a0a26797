-- What the final states of a test say of its condition.
use Rattle.std.specs.Prelude.{ℕ, ◌==◌, cond}
use Rattle.loom.specs.declared.model.report.Report.{Report}
use Rattle.loom.specs.declared.model.report.Report.TheVariants.{Complete, Stopped, Failed}
use Rattle.loom.specs.declared.model.cover.Covered.{Covered}
use Rattle.loom.specs.declared.model.cover.Covered.TheVariants as covered
use Rattle.loom.specs.declared.model.walk.Walked.{Walked}
use Rattle.loom.specs.declared.model.walk.Walked.TheVariants as walked
use Rattle.loom_text.specs.declared.run.check.Outcome.{Outcome}
use Rattle.loom_text.specs.declared.run.cover.Covering.{Covering}
use Rattle.loom_text.specs.declared.run.summary.Observation.{Observation}
use Rattle.loom_text.specs.declared.run.summary.Observation.TheVariants.{Always, Sometimes, Never}
use Rattle.loom_text.specs.declared.run.summary.Reached.{Reached}
use Rattle.loom_text.specs.declared.run.summary.Reached.TheVariants as far
use Rattle.loom_text.specs.declared.run.summary.Summary.{Summary}
use Rattle.loom_text.specs.declared.run.summary.Verdict.{Verdict}
use Rattle.loom_text.specs.declared.run.summary.Verdict.TheVariants.{Ok, No, Undecided}
use Rattle.loom_text.specs.declared.run.walk.Seen.{Seen}
use Rattle.loom_text.specs.declared.test.Quantifier.{Quantifier}
use Rattle.loom_text.specs.declared.test.Quantifier.TheVariants.{Exists, NotExists, Forall}

abbrev pub observed : ℕ → ℕ → Observation
observed positive negative = cond (positive == 0) Never (cond (negative == 0) Always Sometimes)

abbrev pub reached_by : Report → Reached
reached_by (Complete runs) = far.All
reached_by (Stopped runs limit checkpoint) = far.Part
reached_by (Failed runs failure choices) = far.Failure

-- after a walk there may be more runs
abbrev pub walked_to : Walked → Reached
walked_to (walked.Made runs cut different) = far.Part
walked_to (walked.Failed runs cut failure choices) = far.Failure

-- what is covered stands for all runs
abbrev pub covered_to : Covered → Reached
covered_to (covered.Complete runs met states) = far.All
covered_to (covered.Livelock runs met states choices) = far.Failure
covered_to (covered.Stopped runs met states limit) = far.Part
covered_to (covered.Failed runs met states failure choices) = far.Failure

-- where the states don't decide, the check does if it has made all runs
abbrev pub open_verdict : Reached → Verdict → Verdict
open_verdict far.All verdict = verdict
open_verdict far.Part verdict = Undecided
open_verdict far.Failure verdict = No

abbrev pub decided : Reached → Verdict → Verdict
decided far.All verdict = verdict
decided far.Part verdict = verdict
decided far.Failure verdict = No

-- whether the test holds: one state can decide, and a failure always does
abbrev pub verdict_of : Quantifier → Reached → ℕ → ℕ → Verdict
verdict_of Exists reached positive negative = cond (positive == 0) (open_verdict reached No) (decided reached Ok)
verdict_of NotExists reached positive negative = cond (positive == 0) (open_verdict reached Ok) (decided reached No)
verdict_of Forall reached positive negative = cond (negative == 0) (open_verdict reached Ok) (decided reached No)

-- what was found of a test that asks so
abbrev pub summary_of : Quantifier → Outcome → Summary
summary_of quantifier outcome =
    let positive = outcome.counts.positive in
    let negative = outcome.counts.negative in
    record { positive = positive; negative = negative; observation = observed positive negative; verdict = verdict_of quantifier (reached_by outcome.report) positive negative }

-- what was seen of it in a walk
abbrev pub summary_seen : Quantifier → Seen → Summary
summary_seen quantifier seen =
    let positive = seen.counts.positive in
    let negative = seen.counts.negative in
    record { positive = positive; negative = negative; observation = observed positive negative; verdict = verdict_of quantifier (walked_to seen.walked) positive negative }

-- what a check that remembers states found of it
abbrev pub summary_covered : Quantifier → Covering → Summary
summary_covered quantifier found =
    let positive = found.counts.positive in
    let negative = found.counts.negative in
    record { positive = positive; negative = negative; observation = observed positive negative; verdict = verdict_of quantifier (covered_to found.covered) positive negative }
