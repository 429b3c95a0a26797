-- Which errors come, and whether the store met a fault.
use Rattle.std.proofs.Common.{◌≡◌, ℕ, inl, inr, refl, ap, sym, ◌∙◌, subst, arith}
use Rattle.std.specs.Option.{option_map_or}
use Rattle.std.specs.Result.{IfErr, IsErrAnd, OnErr}
use Rattle.std.specs.Prelude.{◌≢◌, List, Option, Some, None, Result, Ok, Err}
use Rattle.loom_engine.specs.declared.rt.path.checkpoint.error.PathError.{PathError}
use Rattle.loom_engine.specs.declared.rt.path.checkpoint.error.PathError.TheVariants as why
use Rattle.loom.specs.declared.checkpoint.store.StoreError.{StoreError}
use Rattle.loom.specs.declared.checkpoint.store.StoreError.TheVariants as store
use Rattle.loom.specs.Model.Stores.{HasRisen, IsCounted}
use Rattle.loom.specs.declared.model.error.CheckError.{CheckError}
use Rattle.loom.specs.declared.model.error.CheckError.TheVariants.{Store}
use Rattle.loom.specs.declared.model.builder.Builder.{Builder}
use Rattle.loom.specs.Model.Refusals.{CountsFaults, IsNoBeginning, IsNoReport, IsNoSave, of_path, of_store}

-- a call of the store failed
pub counted_error : {A : Type 0} (result : Result A CheckError) (e : StoreError) (old new : ℕ) → IsCounted old new e → result ≡ Err (of_store e) → CountsFaults result old new
counted_error result store.Fault old new h is = (λ _. h, λ other. absurd (other is))
counted_error result store.Memory old new h is = (λ e. absurd (cc (e, is)), λ _. h)

pub store_error : (e : StoreError) → IsNoSave (of_store e)
store_error store.Fault = inr refl
store_error store.Memory = inl refl

-- what `?` makes of a store's error
pub made_of_store : {A : Type 0} (result : Result A CheckError) (e : StoreError) → IsErrAnd result (λ x. x ≡ of_store e) → result ≡ Err (of_store e)
made_of_store (Ok a) e is = absurd is
made_of_store (Err x) e is = ap Err is

-- and by it there is no report
pub unreported : {A : Type 0} (b : Builder) (gives : Option (List ℕ) → Type 0) (no_run : Type 0) (result : Result A CheckError) (e : StoreError) → IsErrAnd result (λ x. x ≡ of_store e)
    → IfErr result (IsNoReport b gives no_run)
unreported b gives no_run (Ok a) e is = tt
unreported b gives no_run (Err x) e is = inl (subst IsNoSave (sym is) (store_error e))

-- no text is refused as a store's fault
pub text_uncounted : {A : Type 0} (result : Result A CheckError) (w : PathError) (old new : ℕ) → new ≡ old → result ≡ Err (of_path w) → CountsFaults result old new
text_uncounted result w old new same is = (λ e. absurd (differs w is e), λ _. same)
  where
    differs : (w : PathError) → result ≡ Err (of_path w) → result ≡ Err Store → ⊥
    differs why.NotJson is e = cc (is, e)
    differs why.WrongShape is e = cc (is, e)
    differs (why.WrongVersion version) is e = cc (is, e)
    differs (why.OtherSettings setting) is e = cc (is, e)
    differs (why.TooManyNodes count) is e = cc (is, e)
    differs why.BadNode is e = cc (is, e)
    differs (why.Memory r) is e = cc (is, e)

-- ---- what a check hands on

error_is : {A : Type 0} (result : Result A CheckError) (e other : CheckError) → result ≡ Err e → result ≡ Err other → e ≡ other
error_is result e other is also = cc

-- an error of a call is the check's, and nothing was counted before
pub handed_on : {A B : Type 0} (answer : Result A CheckError) (result : Result B CheckError) (e : CheckError) (first old new : ℕ) → old ≡ first → answer ≡ Err e → result ≡ Err e
    → CountsFaults answer old new → CountsFaults result first new
handed_on answer result e first old new same is also z = (
  λ store. subst (λ n. HasRisen n new) same (z.0 (is ∙ ap Err (error_is result e Store also store))),
  λ other. z.1 (λ store. other (also ∙ ap Err (error_is answer e Store is store))) ∙ same,
)

-- a call that succeeds has counted nothing
pub uncounted : {A : Type 0} (answer : Result A CheckError) (value : A) (old new : ℕ) → answer ≡ Ok value → CountsFaults answer old new → new ≡ old
uncounted answer value old new is z = z.1 (λ e. absurd (cc (is, e)))

-- what is no fault of the store is counted as none
pub faultless : {A : Type 0} (result : Result A CheckError) (old new : ℕ) → result ≢ Err Store → new ≡ old → CountsFaults result old new
faultless result old new none same = (λ store. absurd (none store), λ other. same)

pub no_beginning : (b : Builder) (gives : Option (List ℕ) → Type 0) (no_run : Type 0) (e : CheckError) → no_run → IsNoBeginning b gives e → IsNoReport b gives no_run e
no_beginning b gives no_run e none (inl z) = inl z
no_beginning b gives no_run e none (inr z) = inr (inr z, none)

-- a store in memory, or none, counts no fault
pub no_count : {S : Type 0} (store : Option S) → ◌≡◌ {A = ℕ} (option_map_or {T = S} {U = ℕ} (λ s. 0) store 0) 0
no_count None = refl
no_count (Some s) = refl

-- where nothing is counted no fault is reported
pub no_fault : {A : Type 0} (result : Result A CheckError) → CountsFaults result 0 0 → result ≢ Err Store
no_fault result z = λ is. go (z.0 is)
  where
    go : HasRisen 0 0 → ⊥
    go (inl less) = absurd (omega (arith, less))
    go (inr most) = absurd (omega (arith, most))

-- what holds anyway holds after an error
pub on_error : {A E P : Type 0} (result : Result A E) → P → OnErr result P
on_error (Ok a) p = tt
on_error (Err e) p = p
