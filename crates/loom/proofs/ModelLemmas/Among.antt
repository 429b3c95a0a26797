-- Checks whose file is one among files that hold texts, and among those of the host.
use Rattle.std.proofs.Common.{◌≡◌, ◌∙◌, ℕ, inl, refl, sym, subst}
use Rattle.std.specs.Prelude.{◌≢◌, List, Option, Some, None, String, Result, Err, string_bytes, IfOk, IfErr}
use Rattle.std.specs.declared.alloc.Global.{Global}
use Rattle.loom_objects.specs.Tree.Tree.{Tree}
use Rattle.loom.specs.declared.model.builder.Builder.{Builder}
use Rattle.loom.specs.declared.model.error.CheckError.{CheckError}
use Rattle.loom.specs.declared.model.error.CheckError.TheVariants.{Store}
use Rattle.loom.specs.declared.model.report.Report.{Report}
use Rattle.loom.specs.Model.Among.{ChangesOnly, ChecksAlone, ChecksAmong, Held, gives_among, holds_among}
use Rattle.loom.specs.Model.Check.{ReportsAlone, ReportsUnheard, gives_file}
use Rattle.loom.specs.Model.Refusals.{CountsFaults, IsNoReport}
use Rattle.loom.specs.Model.Stores.{KeepsThird, beside}
use Rattle.loom.proofs.ModelLemmas.Errors.{faultless, no_fault, on_error}
use Rattle.loom.proofs.ModelLemmas.Unheard.{unknown_ok}

-- the files of which none is named stay
pub changes_none : (file : Option (String Global)) (files : Held) → file ≡ None → ∥ ChangesOnly file files files ∥₁
changes_none file files is = subst (λ (f : Option (String Global)). ∥ ChangesOnly f files files ∥₁) (sym is) ∣ (λ name text held. held) ∣₁

pub changes_named : (file : Option (String Global)) (name : String Global) (old new : Held) → file ≡ Some name → ∥ KeepsThird (beside (string_bytes name)) (string_bytes name) old new ∥₁
    → ∥ ChangesOnly file old new ∥₁
changes_named file name old new is z = subst (λ (f : Option (String Global)). ∥ ChangesOnly f old new ∥₁) (sym is) z

module _ {D : Type 0} (b : Builder) (tree : Tree D) where
  -- the store is the file that the builder names
  pub among_named : (name : String Global) (old new : Held) (before after : ℕ) (answer : Result Report CheckError) → b.checkpoint_file ≡ Some name
      → ChecksAlone b tree (old (string_bytes name)) (old (string_bytes name)) (new (string_bytes name)) before after answer → ChecksAmong b tree old new before after answer
  among_named name old new before after answer is z =
      subst (λ (file : Option (String Global)). ChecksAlone b tree (gives_among file old) (holds_among file old) (holds_among file new) before after answer) (sym is) z

  -- it names none, and a store that gives no text counts no fault
  pub among_none : (files : Held) (held holds : Option (List ℕ) → Type 0) (count counted : ℕ) (answer : Result Report CheckError) → b.checkpoint_file ≡ None → counted ≡ 0
      → ChecksAlone b tree (λ text. text ≡ None) held holds 0 counted answer → ChecksAmong b tree files files count count answer
  among_none files held holds count counted answer is none z =
      subst (λ (file : Option (String Global)). ChecksAlone b tree (gives_among file files) (holds_among file files) (holds_among file files) count count answer) (sym is)
      (record {
        reports = unknown_ok b tree (λ text. text ≡ None) holds answer z.reports;
        orders = z.orders;
        refused = z.refused;
        errors = z.errors;
        left = on_error answer (inl (λ text held. held));
        faults = faultless answer count count (no_fault answer (subst (λ (n : ℕ). CountsFaults answer 0 n) none z.faults)) refl;
      })

-- ---- the host's files, of which nothing is known

gives_any : (file : Option (String Global)) (P : (Option (List ℕ) → Type 0) → Type 0) → P (gives_among file (λ name text. Unit {0})) → P (gives_file file)
gives_any None P z = z
gives_any (Some name) P z = z

module _ {D : Type 0} (b : Builder) (tree : Tree D) (count counted : ℕ) (answer : Result Report CheckError) where
  pub host_reports : ChecksAmong b tree (λ name text. Unit {0}) (λ name text. Unit {0}) count counted answer → IfOk answer (ReportsAlone b tree)
  host_reports z = gives_any b.checkpoint_file (λ gives. IfOk answer (ReportsUnheard b tree gives (λ text. Unit {0})))
      (unknown_ok b tree (gives_among b.checkpoint_file (λ name text. Unit {0})) (holds_among b.checkpoint_file (λ name text. Unit {0})) answer z.reports)

  pub host_errors : ChecksAmong b tree (λ name text. Unit {0}) (λ name text. Unit {0}) count counted answer → IfErr answer (IsNoReport b (gives_file b.checkpoint_file) (Unit {0}))
  host_errors z = gives_any b.checkpoint_file (λ gives. IfErr answer (IsNoReport b gives (Unit {0}))) z.errors

-- files of which none is used meet no fault
pub host_storeless : (answer : Result Report CheckError) (before after : ℕ) → before ≡ 0 → after ≡ before → CountsFaults answer before after → answer ≢ Err Store
host_storeless answer before after none same z =
    no_fault answer (subst (λ (n : ℕ). CountsFaults answer 0 n) (same ∙ none) (subst (λ (n : ℕ). CountsFaults answer n after) none z))
