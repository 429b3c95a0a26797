-- Checks in which nobody is given the runs.
use Rattle.std.proofs.Common.{◌≡◌, ℕ, inl, inr, List, [], ◌∷◌, refl, ap}
use Rattle.std.specs.Prelude.{◌≢◌, ◌⊎◌, Option, Some, None, Result, Ok, Err, IfOk, IfErr}
use Rattle.std.specs.declared.time.Duration.{Duration}
use Rattle.loom_objects.specs.declared.choice.Choice.{Choice}
use Rattle.loom_objects.specs.Tree.Tree.{Tree}
use Rattle.loom_engine.specs.declared.rt.path.node.Node.{Node}
use Rattle.loom.specs.declared.model.builder.Builder.{Builder}
use Rattle.loom.specs.declared.model.error.CheckError.{CheckError}
use Rattle.loom.specs.declared.model.error.CheckError.TheVariants.{Store, Memory}
use Rattle.loom.specs.declared.model.report.Report.{Report}
use Rattle.loom.specs.declared.model.report.Report.TheVariants.{Complete, Stopped, Failed}
use Rattle.loom.specs.Model.Fresh.{Given}
use Rattle.loom.specs.Model.Check.{IsHeld, Reports, ReportsUnheard, Claims, gives_file}
use Rattle.loom.specs.Model.Refusals.{IsNoReport, IsRefusedBy}
use Rattle.loom.specs.Model.Settings.{defaults, tested}

given_unheard : {D : Type 0} (runs : List (List Choice × D)) → Given {V = Unit {0}} (λ old choices value new. Unit {0}) tt runs tt
given_unheard [] = refl
given_unheard (made ∷ runs) = (tt, tt, given_unheard runs)

module _ {V D : Type 0} (takes : V → List Choice → D → V → Type 0) (old new : V) (b : Builder) (tree : Tree D) (gives holds : Option (List ℕ) → Type 0) where
  unheard : (report : Report) → Reports takes old new b tree gives holds (λ time. time ≡ record { secs = 0; nanos = 0 }) report → ReportsUnheard b tree gives holds report
  unheard report z = record {
    text = z.text;
    gave = z.gave;
    path = z.path;
    reads = z.reads;
    runs = z.runs;
    given = record { given = given_unheard z.runs; counted = z.given.counted };
    says = z.says;
    limits = z.limits;
    placed = z.placed;
    held = z.held;
  }

  pub unheard_ok : (answer : Result Report CheckError) → IfOk answer (Reports takes old new b tree gives holds (λ time. time ≡ record { secs = 0; nanos = 0 }))
      → IfOk answer (ReportsUnheard b tree gives holds)
  unheard_ok (Ok report) z = unheard report z
  unheard_ok (Err e) z = z

-- ---- where nothing is known of what the store holds

module _ {D : Type 0} (b : Builder) (tree : Tree D) (holds : Option (List ℕ) → Type 0) (path : List Node) (runs : List (List Choice × D)) where
  says_unknown : (report : Report) → Claims b tree holds path runs report → Claims b tree (λ text. Unit {0}) path runs report
  says_unknown (Complete count) z = z
  says_unknown (Stopped count limit checkpoint) z = record { last = z.last; reads = z.reads; compact = z.compact; held = tt; goes_on = z.goes_on }
  says_unknown (Failed count failure choices) z = z

  held_unknown : IsHeld b tree holds path runs → IsHeld b tree (λ text. Unit {0}) path runs
  held_unknown z = record {
    text = z.text;
    held = tt;
    last = z.last;
    reads = z.reads;
    before = z.before;
    behind = z.behind;
    splits = z.splits;
    few = z.few;
    goes_on = z.goes_on;
  }

pub unkept_body : {V D : Type 0} (takes : V → List Choice → D → V → Type 0) (old new : V) (b : Builder) (tree : Tree D) (gives holds : Option (List ℕ) → Type 0) (answered : Duration → Type 0) (report : Report)
    → Reports takes old new b tree gives holds answered report → Reports takes old new b tree gives (λ text. Unit {0}) answered report
unkept_body takes old new b tree gives holds answered report z = record {
  text = z.text;
  gave = z.gave;
  path = z.path;
  reads = z.reads;
  runs = z.runs;
  given = z.given;
  says = says_unknown b tree holds z.path z.runs report z.says;
  limits = z.limits;
  placed = z.placed;
  held = held_unknown b tree holds z.path z.runs z.held;
}

pub unknown_ok : {D : Type 0} (b : Builder) (tree : Tree D) (gives holds : Option (List ℕ) → Type 0) (answer : Result Report CheckError) → IfOk answer (ReportsUnheard b tree gives holds)
    → IfOk answer (ReportsUnheard b tree gives (λ text. Unit {0}))
unknown_ok b tree gives holds (Ok report) z =
    unkept_body {V = Unit {0}} (λ old choices value new. Unit {0}) tt tt b tree gives holds (λ time. time ≡ record { secs = 0; nanos = 0 }) report z
unknown_ok b tree gives holds (Err e) z = z

pub unheard_errors : {A : Type 0} (b : Builder) (gives : Option (List ℕ) → Type 0) (no_run : Type 0) (answer : Result A CheckError) → IfErr answer (IsNoReport b gives no_run)
    → IfErr answer (IsNoReport b gives (Unit {0}))
unheard_errors b gives no_run (Ok report) z = z
unheard_errors b gives no_run (Err e) (inl z) = inl z
unheard_errors b gives no_run (Err e) (inr z) = inr (z.0, tt)

-- a check with the defaults has no text to refuse and no store
pub default_errors : {A : Type 0} (answer : Result A CheckError) → IfErr answer (IsNoReport defaults (gives_file None) (Unit {0})) → answer ≢ Err Store
    → IfErr answer (λ e. e ≡ Memory)
default_errors (Ok report) z other = z
default_errors (Err e) (inl (inl memory)) other = memory
default_errors (Err e) (inl (inr store)) other = absurd (other (ap Err store))
default_errors (Err e) (inr z) other = absurd (refused z.0)
  where
    refused : (tested defaults ≡ Err e) ⊎ IsRefusedBy defaults (gives_file None) e → ⊥
    refused (inl is) = (let fails : Ok tt ≡ Err e = is in cc fails)
    refused (inr r) = (let given : Some r.0 ≡ None = r.2 in cc given)
