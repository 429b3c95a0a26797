-- Checks with rising bounds on preemptions.
use Rattle.std.proofs.Common.{◌≡◌, ◌<◌, ◌≤◌, ◌+◌, ℕ, Bool, true, false, [], refl, ap, subst, inl, inr, arith}
use Rattle.std.specs.Prelude.{◌⊎◌, Some, None, Result, Ok, Err, IfErr, nat_lt}
use Rattle.loom_objects.specs.Tree.Tree.{Tree}
use Rattle.loom_engine.specs.Runs.Sound.{IsRunTree}
use Rattle.loom.proofs.ModelLemmas.Within.{no_failure_law}
use Rattle.loom_engine.specs.Trees.Marks.{marking}
use Rattle.loom_engine.proofs.Trees.Marks.{marking_law}
use Rattle.loom.specs.declared.model.builder.Builder.{Builder}
use Rattle.loom.specs.declared.model.error.CheckError.{CheckError}
use Rattle.loom.specs.declared.model.error.CheckError.TheVariants.{Memory}
use Rattle.loom.specs.declared.model.report.Report.{Report}
use Rattle.loom.specs.declared.model.report.Report.TheVariants.{Complete, Stopped, Failed}
use Rattle.loom.specs.Model.Check.{ReadsAs, ReportsAlone}
use Rattle.loom.specs.Model.Refusals.{CountsFaults, IsNoReport, IsRefusedBy}
use Rattle.loom.specs.Model.Stores.{HasRisen}
use Rattle.loom.specs.Model.Rising.{CompletesAt, NoFailureLaw, RisesTo, bounded, is_complete}
use Rattle.loom.specs.Model.Settings.{explores, search_of, tested}

pub none_within : {D : Type 0} → NoFailureLaw D
none_within b tree bound sound r z x failure h =
    no_failure_law (search_of (bounded b bound)) (marking (Some bound)) tree bound sound.sound (marking_law (Some bound)).0 r refl z.1.none_fails x failure h

module _ {D : Type 0} (b : Builder) (tree : Tree D) where
  -- no text was given, so the check began without nodes
  completes_at : (bound count : ℕ) → ReportsAlone (bounded b bound) tree (Complete count) → CompletesAt b tree bound
  completes_at bound count z =
      let fresh : z.path ≡ [] = subst (λ text. ReadsAs (search_of (bounded b bound)) (explores b) text z.path) z.gave z.reads in
      (z.runs, z.says.promise.fresh fresh)

  completes_if : (bound : ℕ) (report : Report) → is_complete report ≡ true → ReportsAlone (bounded b bound) tree report → CompletesAt b tree bound
  completes_if bound (Complete count) e z = completes_at bound count z
  completes_if bound (Stopped count limit checkpoint) e z = absurd (cc e)
  completes_if bound (Failed count failure choices) e z = absurd (cc e)

  -- the checks with all lower bounds were complete
  abbrev pub AreComplete : ℕ → Type 0
  AreComplete bound = (low : ℕ) → low < bound → CompletesAt b tree low

  pub none_lower : AreComplete 0
  none_lower low h = absurd (omega (arith, h))

  -- one more
  pub one_higher : (bound : ℕ) (report : Report) → AreComplete bound → is_complete report ≡ true → ReportsAlone (bounded b bound) tree report → AreComplete (bound + 1)
  one_higher bound report lower e z low h = go (nat_lt low bound) refl
    where
      go : (c : Bool) → nat_lt low bound ≡ c → CompletesAt b tree low
      go true f = lower low (grind arith)
      go false f = (let same : bound ≡ low = (grind arith) in subst (CompletesAt b tree) same (completes_if bound report e z))

-- ---- what is answered

module _ {D : Type 0} (b : Builder) (tree : Tree D) (sound : IsRunTree tree) where
  -- the last check ends it
  pub rises_to : (up_to bound : ℕ) (report : Report) → bound ≤ up_to → AreComplete b tree bound → ReportsAlone (bounded b bound) tree report
      → (is_complete report ≡ true → bound ≡ up_to) → RisesTo b tree up_to (record { bound = bound; report = report })
  rises_to up_to bound report within lower last ends = record {
    within = within;
    lower = lower;
    none_fails = λ whole low h. none_within b tree low sound whole (lower low h);
    last = last;
    ends = ends;
  }

-- ---- errors

not_risen : HasRisen 0 0 → ⊥
not_risen (inl h) = omega (arith, h)
not_risen (inr h) = omega (arith, h)

-- without a store memory is refused, or a setting
pub storeless : {A : Type 0} (b : Builder) (answer : Result A CheckError) → IfErr answer (IsNoReport b (λ text. text ≡ None) (Unit {0})) → CountsFaults answer 0 0
    → IfErr answer (λ e. (e ≡ Memory) ⊎ (tested b ≡ Err e))
storeless b (Ok a) z faults = z
storeless b (Err e) (inl (inl memory)) faults = inl memory
storeless b (Err e) (inl (inr store)) faults = absurd (not_risen (faults.0 (ap Err store)))
storeless b (Err e) (inr z) faults = go z.0
  where
    go : (tested b ≡ Err e) ⊎ IsRefusedBy b (λ text. text ≡ None) e → (e ≡ Memory) ⊎ (tested b ≡ Err e)
    go (inl refused) = inr refused
    go (inr r) = (let given : Some r.0 ≡ None = r.2 in absurd (cc given))
