-- Which errors of checks of closures come of those of settings, texts and stores, and whether the store met a fault.
use Rattle.std.proofs.Common.{◌≡◌, ◌⊎◌, ◌∙◌, ℕ, Bool, true, false, List, inl, inr, refl, sym, ap, subst, Option, Some, None, Result, Ok, Err, IfErr}
use Rattle.std.specs.Prelude.{◌≢◌, ⊤, cond}
use Rattle.std.specs.Result.{IsErrAnd}
use Rattle.loom.specs.declared.checkpoint.store.StoreError.{StoreError}
use Rattle.loom.specs.declared.checkpoint.store.StoreError.TheVariants as store
use Rattle.loom.specs.declared.model.builder.Builder.{Builder}
use Rattle.loom.specs.declared.model.error.CheckError.{CheckError}
use Rattle.loom.specs.declared.model.error.CheckError.TheVariants as why
use Rattle.loom.specs.Model.Refusals as model
use Rattle.loom.specs.Model.Refusals.{IsNoBeginning, of_store}
use Rattle.loom.specs.Model.Settings.{and_tested, tested, tested_bound}
use Rattle.loom.specs.Model.Stores.{HasRisen, IsCounted}
use Rattle.loom.specs.declared.runner.error.RunnerError.{RunnerError}
use Rattle.loom.specs.declared.runner.error.RunnerError.TheVariants as error
use Rattle.loom.specs.Runner.Errors.{of_check}
use Rattle.loom.specs.Runner.Refusals.{CountsFaults, IsNoSave}

-- what `?` makes of an error
pub made_error : {A : Type 0} (r : Result A RunnerError) (e : RunnerError) → IsErrAnd r (λ x. x ≡ e) → r ≡ Err e
made_error (Ok a) e is = absurd is
made_error (Err x) e is = ap Err is

-- want of memory is an error of its own, and each other error stays as it is
case_of : (e : CheckError) → ((e ≡ why.Memory) × (of_check e ≡ error.Memory)) ⊎ (of_check e ≡ error.Settings e)
case_of (why.MaxThreads given) = inr refl
case_of (why.MaxBranches given) = inr refl
case_of (why.PreemptionBound given) = inr refl
case_of why.CheckpointInterval = inr refl
case_of why.MaxSteps = inr refl
case_of (why.NotANumber variable) = inr refl
case_of why.NotJson = inr refl
case_of why.WrongShape = inr refl
case_of (why.WrongVersion version) = inr refl
case_of (why.OtherSettings setting) = inr refl
case_of (why.TooManyNodes count) = inr refl
case_of why.BadNode = inr refl
case_of why.Store = inr refl
case_of why.Memory = inl (refl, refl)

pub kept : (e : CheckError) → e ≢ why.Memory → of_check e ≡ error.Settings e
kept e other = go (case_of e)
  where
    go : ((e ≡ why.Memory) × (of_check e ≡ error.Memory)) ⊎ (of_check e ≡ error.Settings e) → of_check e ≡ error.Settings e
    go (inl z) = absurd (other z.0)
    go (inr is) = is

-- ---- settings

-- an error that no setting gives
module _ (x : CheckError) (threads : (n : ℕ) → why.MaxThreads n ≢ x) (branches : (n : ℕ) → why.MaxBranches n ≢ x) (bound : (n : ℕ) → why.PreemptionBound n ≢ x)
    (interval : why.CheckpointInterval ≢ x) (steps : why.MaxSteps ≢ x) where
  abbrev Is : Result ⊤ CheckError → Type 0
  Is r = r ≡ Err x

  other : (e : CheckError) → e ≢ x → Is (Err e) → ⊥
  other e not is = not (same is)
    where
      same : Is (Err e) → e ≡ x
      same h = cc h

  fine : Is (Ok tt) → ⊥
  fine is = cc is

  by_test : (c : Bool) (one rest : Result ⊤ CheckError) → (Is one → ⊥) → (Is rest → ⊥) → Is (cond c one rest) → ⊥
  by_test true one rest f g is = f is
  by_test false one rest f g is = g is

  by_both : (one rest : Result ⊤ CheckError) → (Is one → ⊥) → (Is rest → ⊥) → Is (and_tested one rest) → ⊥
  by_both (Ok z) rest f g is = g is
  by_both (Err e) rest f g is = f is

  by_bound : (o : Option ℕ) → Is (tested_bound o) → ⊥
  by_bound None = fine
  by_bound (Some n) = by_test _ (Err (why.PreemptionBound n)) (Ok tt) (other (why.PreemptionBound n) (bound n)) fine

  pub not_tested : (b : Builder) → tested b ≡ Err x → ⊥
  not_tested b =
      by_test _ (Err (why.MaxThreads b.max_threads)) _ (other (why.MaxThreads b.max_threads) (threads b.max_threads))
      (by_test _ (Err (why.MaxBranches b.max_branches)) _ (other (why.MaxBranches b.max_branches) (branches b.max_branches))
      (by_both (tested_bound b.preemption_bound) _ (by_bound b.preemption_bound)
      (by_test _ (Err why.CheckpointInterval) _ (other why.CheckpointInterval interval)
      (by_test _ (Err why.MaxSteps) (Ok tt) (other why.MaxSteps steps) fine))))

never_memory : (b : Builder) → tested b ≡ Err why.Memory → ⊥
never_memory = not_tested why.Memory (λ n e. cc e) (λ n e. cc e) (λ n e. cc e) (λ e. cc e) (λ e. cc e)

never_store : (b : Builder) → tested b ≡ Err why.Store → ⊥
never_store = not_tested why.Store (λ n e. cc e) (λ n e. cc e) (λ n e. cc e) (λ e. cc e) (λ e. cc e)

-- a setting out of range is named as it is
pub settings_so : (b : Builder) (e : CheckError) → tested b ≡ Err e → of_check e ≡ error.Settings e
settings_so b e out = kept e (λ memory. never_memory b (out ∙ ap Err memory))

-- and refuses the check
pub refused_so : {A : Type 0} (b : Builder) (r : Result A RunnerError) (e : CheckError) (P : Type 0) → IsErrAnd r (λ x. x ≡ of_check e) → tested b ≡ Err e → P
    → IfErr (tested b) (λ x. (r ≡ Err (error.Settings x)) × P)
refused_so b r e P is out p =
    subst (λ (t : Result ⊤ CheckError). IfErr t (λ x. (r ≡ Err (error.Settings x)) × P)) (sym out) (made_error r (of_check e) is ∙ ap Err (settings_so b e out), p)

pub refused_alone : {A : Type 0} (b : Builder) (r : Result A RunnerError) (e : CheckError) → IsErrAnd r (λ x. x ≡ of_check e) → tested b ≡ Err e
    → IfErr (tested b) (λ x. r ≡ Err (error.Settings x))
refused_alone b r e is out =
    subst (λ (t : Result ⊤ CheckError). IfErr t (λ x. r ≡ Err (error.Settings x))) (sym out) (made_error r (of_check e) is ∙ ap Err (settings_so b e out))

-- it is handed on
pub settings_on : {A : Type 0} (b : Builder) (r : Result A RunnerError) (e : CheckError) (P : RunnerError → Type 0) → IsErrAnd r (λ x. x ≡ of_check e) → tested b ≡ Err e → P (error.Settings e) → IfErr r P
settings_on b (Ok a) e P is out p = tt
settings_on b (Err x) e P is out p = subst P (sym (is ∙ settings_so b e out)) p

-- ---- faults

err_same : {A : Type 0} (r : Result A RunnerError) (e x : RunnerError) → r ≡ Err e → r ≡ Err x → e ≡ x
err_same r e x one two = cc (one, two)

-- only a fault of the store is named as one
store_so : (e : CheckError) → of_check e ≡ error.Settings why.Store → e ≡ why.Store
store_so e is = go (case_of e)
  where
    go : ((e ≡ why.Memory) × (of_check e ≡ error.Memory)) ⊎ (of_check e ≡ error.Settings e) → e ≡ why.Store
    go (inl z) = absurd (cc (is, z.1))
    go (inr same) = cc (is, same)

-- an error that is no fault of the store's counts none
pub no_fault : {A : Type 0} (r : Result A RunnerError) (e : RunnerError) (old new : ℕ) → r ≡ Err e → e ≢ error.Settings why.Store → new ≡ old → CountsFaults r old new
no_fault r e old new is not same = (λ store. absurd (not (err_same r e (error.Settings why.Store) is store)), λ other. same)

-- nor is want of memory one
pub memory_faultless : {A : Type 0} (r : Result A RunnerError) (old new : ℕ) → IsErrAnd r (λ x. x ≡ error.Memory) → new ≡ old → CountsFaults r old new
memory_faultless r old new is same = no_fault r error.Memory old new (made_error r error.Memory is) (λ e. cc e) same

pub settings_faultless : {A : Type 0} (b : Builder) (r : Result A RunnerError) (e : CheckError) (old new : ℕ) → IsErrAnd r (λ x. x ≡ of_check e) → tested b ≡ Err e → new ≡ old → CountsFaults r old new
settings_faultless b r e old new is out same =
    no_fault r (of_check e) old new (made_error r (of_check e) is) (λ store. never_store b (out ∙ ap Err (store_so e store))) same

-- an answer is no error
pub answered_faultless : {A : Type 0} (r : Result A RunnerError) (a : A) (old new : ℕ) → r ≡ Ok a → new ≡ old → CountsFaults r old new
answered_faultless r a old new is same = (λ store. absurd (cc (is, store)), λ other. same)

-- a check that didn't begin
pub counted_begin : {A B : Type 0} (answer : Result B CheckError) (r : Result A RunnerError) (e : CheckError) (old new : ℕ) → answer ≡ Err e → IsErrAnd r (λ x. x ≡ of_check e) → model.CountsFaults answer old new
    → CountsFaults r old new
counted_begin answer r e old new was is counts = (
  λ store. counts.0 (was ∙ ap Err (store_so e (err_same r (of_check e) (error.Settings why.Store) made store))),
  λ other. counts.1 (λ store. other (made ∙ ap Err (faulty (same store)))),
)
  where
    made : r ≡ Err (of_check e)
    made = made_error r (of_check e) is

    same : answer ≡ Err why.Store → e ≡ why.Store
    same store = cc (was, store)

    faulty : e ≡ why.Store → of_check e ≡ error.Settings why.Store
    faulty store = ap of_check store

-- a path that wasn't saved
pub counted_save : {A : Type 0} (r : Result A RunnerError) (e : StoreError) (first old new : ℕ) → old ≡ first → IsCounted old new e → IsErrAnd r (λ x. x ≡ of_check (of_store e)) → CountsFaults r first new
counted_save r store.Fault first old new same counted is = (λ _. subst (λ (n : ℕ). HasRisen n new) same counted, λ other. absurd (other (made_error r (error.Settings why.Store) is)))
counted_save r store.Memory first old new same counted is = no_fault r error.Memory first new (made_error r error.Memory is) (λ e. cc e) (counted ∙ same)

-- ---- why a path isn't read, or saved

pub no_save : (e : StoreError) (first old new : ℕ) → old ≡ first → IsCounted old new e → IsNoSave (HasRisen first new) (of_check (of_store e))
no_save store.Fault first old new same counted = inr (refl, subst (λ (n : ℕ). HasRisen n new) same counted)
no_save store.Memory first old new same counted = inl refl

pub no_beginning : {B : Type 0} (b : Builder) (gives : Option (List ℕ) → Type 0) (answer : Result B CheckError) (e : CheckError) (old new : ℕ) → answer ≡ Err e → model.CountsFaults answer old new
    → IsNoBeginning b gives e
    → IsNoSave (HasRisen old new) (of_check e) ⊎ ((x : CheckError) × (of_check e ≡ error.Settings x) × model.IsRefusedBy b gives x)
no_beginning b gives answer e old new was counts none = go (case_of e) none
  where
    go : ((e ≡ why.Memory) × (of_check e ≡ error.Memory)) ⊎ (of_check e ≡ error.Settings e) → IsNoBeginning b gives e
        → IsNoSave (HasRisen old new) (of_check e) ⊎ ((x : CheckError) × (of_check e ≡ error.Settings x) × model.IsRefusedBy b gives x)
    go (inl z) begun = inl (inl z.1)
    go (inr is) (inl (inl memory)) = inl (inl (ap of_check memory))
    go (inr is) (inl (inr faulty)) = inl (inr (ap of_check faulty, counts.0 (was ∙ ap Err faulty)))
    go (inr is) (inr refused) = inr (e, is, refused)
