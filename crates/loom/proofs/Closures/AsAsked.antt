-- Checks of closures as their builder asks: by calls, or by what was recorded.
use Rattle.std.proofs.Common.{◌≡◌, ℕ, List, true, false, Option, Result, Ok, Err, ap, subst}
use Rattle.std.specs.Prelude.{IfOk}
use Rattle.std.specs.declared.time.Duration.{Duration}
use Rattle.loom_objects.specs.declared.choice.Choice.{Choice}
use Rattle.loom.specs.declared.model.builder.Builder.{Builder}
use Rattle.loom.specs.declared.model.report.Report.{Report}
use Rattle.loom.specs.Model.Rising.{bounded}
use Rattle.loom.specs.Model.Settings.{defaults, explores}
use Rattle.loom.specs.declared.runner.defaults.NoVisitor.{NoVisitor}
use Rattle.loom.specs.declared.runner.stop.Stop.{Stop}
use Rattle.loom.specs.Runner.AsAsked.{ReportsAsAsked, ReportsAsAskedUnsaved}
use Rattle.loom.specs.Runner.Check.{Reports, ReportsUnsaved}
use Rattle.loom.specs.Runner.Expected.{ignores}
use Rattle.loom.specs.Runner.Handle.{Teller}
use Rattle.loom.specs.Runner.Recorded.{ReportsRecorded, runs_by}
use Rattle.loom.specs.Runner.Rising.{ReportsAt}
use Rattle.loom.proofs.Closures.Alone.{unkept}
use Rattle.loom.proofs.ModelLemmas.Unheard.{unkept_body}

module _ {D F V : Type 0} (called : F → Teller D → Result D Stop → F → Teller D → Type 0) (takes : V → List Choice → D → V → Type 0) (b : Builder) where
  module _ (f : F) (v v' : V) (gives holds : Option (List ℕ) → Type 0) (answered : Duration → Type 0) where
    -- a recorded check, where nothing is known of what the store holds
    unkept_recorded : (r : Report) → ReportsRecorded called takes b f v v' gives holds answered r → ReportsRecorded called takes b f v v' gives (λ text. Unit {0}) answered r
    unkept_recorded r z = record {
      real = z.real;
      after = z.after;
      made = z.made;
      as_body = λ does done. unkept_body takes v v' b (runs_by does (explores b) b.max_threads b.max_steps) gives holds answered r (z.as_body does done);
    }

  module _ {E : Type 0} (f : F) (v v' : V) (gives holds : Option (List ℕ) → Type 0) (answered : Duration → Type 0) where
    -- a check that recorded
    pub as_recorded : (answer : Result Report E) → b.recorded ≡ true → IfOk answer (ReportsRecorded called takes b f v v' gives holds answered) → IfOk answer (ReportsAsAsked called takes b f v v' gives holds answered)
    as_recorded (Ok r) on z = record { by_calls = λ off. absurd (cc (off, on)); by_recording = λ _. z }
    as_recorded (Err e) on z = z

    -- and one that didn't
    pub as_called : (answer : Result Report E) → b.recorded ≡ false → IfOk answer (Reports called takes b f v v' gives holds answered) → IfOk answer (ReportsAsAsked called takes b f v v' gives holds answered)
    as_called (Ok r) off z = record { by_calls = λ _. z; by_recording = λ on. absurd (cc (off, on)) }
    as_called (Err e) off z = z

    -- a check as it was asked for, where nothing is known of what the store holds
    pub asked_alone : (answer : Result Report E) → IfOk answer (ReportsAsAsked called takes b f v v' gives holds answered) → IfOk answer (ReportsAsAsked called takes b f v v' gives (λ text. Unit {0}) answered)
    asked_alone (Ok r) z = record {
      by_calls = λ off. unkept called takes b f v v' gives holds answered r (z.by_calls off);
      by_recording = λ on. unkept_recorded f v v' gives holds answered r (z.by_recording on);
    }
    asked_alone (Err e) z = z

-- by the defaults nothing is recorded
pub off_by_default : (b : Builder) → b ≡ defaults → b.recorded ≡ false
off_by_default b is = ap (λ (x : Builder). x.recorded) is

pub asked_by_default : {D F : Type 0} (called : F → Teller D → Result D Stop → F → Teller D → Type 0) (takes : NoVisitor → List Choice → D → NoVisitor → Type 0) (b : Builder) (f : F) (v v' : NoVisitor) {E : Type 0}
    (answer : Result Report E) → b ≡ defaults → IfOk answer (ReportsAsAskedUnsaved called takes b f v v') → IfOk answer (λ report. (w w' : NoVisitor) × ReportsUnsaved called takes defaults f w w' report)
asked_by_default called takes b f v v' (Ok r) is z = (v, v', subst (λ (x : Builder). ReportsUnsaved called takes x f v v' r) is (z.by_calls (off_by_default b is)))
asked_by_default called takes b f v v' (Err e) is z = z

-- a check with a bound
pub reports_at : {D F : Type 0} (called : F → Teller D → Result D Stop → F → Teller D → Type 0) (b : Builder) (bound : ℕ) (bounded_so : Builder) (f : F) (v v' : NoVisitor) {E : Type 0} (answer : Result Report E)
    → bounded_so ≡ bounded b bound → IfOk answer (ReportsAsAskedUnsaved called ignores bounded_so f v v') → IfOk answer (ReportsAt called b bound)
reports_at called b bound bounded_so f v v' (Ok r) is z = (f, v, v', subst (λ (x : Builder). ReportsAsAskedUnsaved called ignores x f v v' r) is z)
reports_at called b bound bounded_so f v v' (Err e) is z = z
