-- The statuses of a schedule's threads, as a walk sees them.
use Rattle.std.proofs.Common.{◌≡◌, ℕ, zero, suc, ◌+◌, ◌<◌, Bool, true, false, List, [], ◌∷◌, map, Option, Some, None, refl, ap, sym, ◌∙◌, subst, arith}
use Rattle.std.specs.Prelude.{slice_get, slice_set, cond, IsSomeAnd}
use Rattle.std.specs.List.{position_from}
use Rattle.loom_objects.specs.declared.rt.schedule.Ability.TheVariants.{Able}
use Rattle.loom_engine.specs.Walk.Path.{Status as State, Closed, Skip as Skipped, Pending as ToTry, Active as Chosen, Visited as Tried}
use Rattle.loom_engine.specs.declared.rt.path.node.Status.{Status}
use Rattle.loom_engine.specs.declared.rt.path.node.Status.TheVariants.{Disabled, Skip, Yield, Pending, Active, Visited}
use Rattle.loom_engine.specs.Path.Nodes.{ability_of, state_of, state_at, is_active, is_pending, is_left}

-- ---- one status

pub active_is : (s : Status) → is_active s ≡ true → s ≡ Active
active_is Disabled h = absurd (cc h)
active_is Skip h = absurd (cc h)
active_is Yield h = absurd (cc h)
active_is Pending h = absurd (cc h)
active_is Active h = refl
active_is Visited h = absurd (cc h)

pub pending_is : (s : Status) → is_pending s ≡ true → s ≡ Pending
pending_is Disabled h = absurd (cc h)
pending_is Skip h = absurd (cc h)
pending_is Yield h = absurd (cc h)
pending_is Pending h = refl
pending_is Active h = absurd (cc h)
pending_is Visited h = absurd (cc h)

-- the option was neither chosen nor tried
abbrev pub is_open : State → Bool
is_open Closed = false
is_open Skipped = true
is_open ToTry = true
is_open Chosen = false
is_open Tried = false

pub open_is : (s : Status) → is_open (state_of s) ≡ is_left s
open_is Disabled = refl
open_is Skip = refl
open_is Yield = refl
open_is Pending = refl
open_is Active = refl
open_is Visited = refl

pub left_able : (s : Status) → is_left s ≡ true → ability_of s ≡ Able
left_able Disabled h = absurd (cc h)
left_able Skip h = refl
left_able Yield h = absurd (cc h)
left_able Pending h = refl
left_able Active h = refl
left_able Visited h = refl

-- ---- the status at a place

pub state_there : (statuses : List Status) (j : ℕ) (s : Status) → slice_get statuses j ≡ Some s → state_at statuses j ≡ state_of s
state_there [] j s h = absurd (cc h)
state_there (x ∷ statuses) zero s h = (let e : x ≡ s = cc h in ap state_of e)
state_there (x ∷ statuses) (suc j) s h = state_there statuses j s h

-- where the option is open the thread is left
pub left_there : (statuses : List Status) (j : ℕ) → is_open (state_at statuses j) ≡ true → (s : Status) × (slice_get statuses j ≡ Some s) × (is_left s ≡ true)
left_there [] j h = absurd (cc h)
left_there (x ∷ statuses) zero h = (x, refl, sym (open_is x) ∙ h)
left_there (x ∷ statuses) (suc j) h = left_there statuses j h

pub open_there : (statuses : List Status) (j : ℕ) (s : Status) → slice_get statuses j ≡ Some s → is_left s ≡ true → is_open (state_at statuses j) ≡ true
open_there statuses j s h l = ap is_open (state_there statuses j s h) ∙ open_is s ∙ l

-- as the code says it
pub some_left : (statuses : List Status) (j : ℕ) → IsSomeAnd (slice_get statuses j) (λ s. is_left s ≡ true) → (s : Status) × (slice_get statuses j ≡ Some s) × (is_left s ≡ true)
some_left statuses j h = go (slice_get statuses j) refl h
  where
    go : (o : Option Status) → slice_get statuses j ≡ o → IsSomeAnd o (λ s. is_left s ≡ true) → (s : Status) × (slice_get statuses j ≡ Some s) × (is_left s ≡ true)
    go None e f = absurd f
    go (Some s) e f = (s, e, f)

pub left_some : (statuses : List Status) (j : ℕ) (s : Status) → slice_get statuses j ≡ Some s → is_left s ≡ true → IsSomeAnd (slice_get statuses j) (λ s. is_left s ≡ true)
left_some statuses j s h l = subst (λ (o : Option Status). IsSomeAnd o (λ s. is_left s ≡ true)) (sym h) l

-- ---- a status that is set

pub get_put : (statuses : List Status) (i : ℕ) (s old : Status) → slice_get statuses i ≡ Some old → slice_get (slice_set statuses i s) i ≡ Some s
get_put [] i s old h = absurd (cc h)
get_put (x ∷ statuses) zero s old h = refl
get_put (x ∷ statuses) (suc i) s old h = get_put statuses i s old h

pub get_else : (statuses : List Status) (i j : ℕ) (s : Status) → (i ≡ j → ⊥) → slice_get (slice_set statuses i s) j ≡ slice_get statuses j
get_else [] i j s h = refl
get_else (x ∷ statuses) zero zero s h = absurd (h refl)
get_else (x ∷ statuses) zero (suc j) s h = refl
get_else (x ∷ statuses) (suc i) zero s h = refl
get_else (x ∷ statuses) (suc i) (suc j) s h = get_else statuses i j s (λ e. h (ap suc e))

pub state_put : (statuses : List Status) (i : ℕ) (s old : Status) → slice_get statuses i ≡ Some old → state_at (slice_set statuses i s) i ≡ state_of s
state_put statuses i s old h = state_there (slice_set statuses i s) i s (get_put statuses i s old h)

pub state_else : (statuses : List Status) (i j : ℕ) (s : Status) → (i ≡ j → ⊥) → state_at (slice_set statuses i s) j ≡ state_at statuses j
state_else [] i j s h = refl
state_else (x ∷ statuses) zero zero s h = absurd (h refl)
state_else (x ∷ statuses) zero (suc j) s h = refl
state_else (x ∷ statuses) (suc i) zero s h = refl
state_else (x ∷ statuses) (suc i) (suc j) s h = state_else statuses i j s (λ e. h (ap suc e))

-- the thread still offers what it did
pub offers_put : (statuses : List Status) (i : ℕ) (s old : Status) → slice_get statuses i ≡ Some old → ability_of s ≡ ability_of old → map ability_of (slice_set statuses i s) ≡ map ability_of statuses
offers_put [] i s old h e = refl
offers_put (x ∷ statuses) zero s old h e = (let f : x ≡ old = cc h in ap (λ a. a ∷ map ability_of statuses) (e ∙ ap ability_of (sym f)))
offers_put (x ∷ statuses) (suc i) s old h e = ap (λ l. ability_of x ∷ l) (offers_put statuses i s old h e)

-- ---- the first status that passes a test

pub record IsFirst (test : Status → Bool) (k : ℕ) (statuses : List Status) : Type 0 where
  pub it : Status
  pub here : slice_get statuses k ≡ Some it
  pub passes : test it ≡ true
  pub first : (j : ℕ) (s : Status) → j < k → slice_get statuses j ≡ Some s → test s ≡ false

first_on : (test : Status → Bool) (x : Status) (statuses : List Status) (k : ℕ) → test x ≡ false → IsFirst test k statuses → IsFirst test (suc k) (x ∷ statuses)
first_on test x statuses k e f = record { it = f.it; here = f.here; passes = f.passes; first = before }
  where
    before : (j : ℕ) (s : Status) → j < suc k → slice_get (x ∷ statuses) j ≡ Some s → test s ≡ false
    before zero s l h = (let g : x ≡ s = cc h in ap test (sym g) ∙ e)
    before (suc j) s l h = f.first j s (omega arith) h

pub first_found : (test : Status → Bool) (i : ℕ) (statuses : List Status) (k : ℕ) → position_from test i statuses ≡ Some k → (l : ℕ) × (k ≡ i + l) × IsFirst test l statuses
first_found test i [] k h = absurd (cc h)
first_found test i (x ∷ statuses) k h = go (test x) refl h (λ g. first_found test (i + 1) statuses k g)
  where
    go : (b : Bool) → test x ≡ b → cond b (Some i) (position_from test (i + 1) statuses) ≡ Some k
        → (position_from test (i + 1) statuses ≡ Some k → (l : ℕ) × (k ≡ i + 1 + l) × IsFirst test l statuses) → (l : ℕ) × (k ≡ i + l) × IsFirst test l (x ∷ statuses)
    go true e g ih = (let f : i ≡ k = cc g in (0, omega arith, record { it = x; here = refl; passes = e; first = λ j s l m. absurd (omega arith) }))
    go false e g ih = (let r = ih g in (suc r.0, omega (arith, r.1), first_on test x statuses r.0 e r.2))

pub first_is : (test : Status → Bool) (i : ℕ) (statuses : List Status) (k : ℕ) → IsFirst test k statuses → position_from test i statuses ≡ Some (i + k)
first_is test i [] k f = absurd (cc (f.here))
first_is test i (x ∷ statuses) zero f =
    let e : x ≡ f.it = cc (f.here) in
    let g : i ≡ i + 0 = omega arith in
    ap (λ b. cond b (Some i) (position_from test (i + 1) statuses)) (ap test e ∙ f.passes) ∙ ap Some g
first_is test i (x ∷ statuses) (suc k) f =
    let g : i + 1 + k ≡ i + suc k = omega arith in
    ap (λ b. cond b (Some i) (position_from test (i + 1) statuses)) (f.first 0 x (omega arith) refl)
    ∙ first_is test (i + 1) statuses k (record { it = f.it; here = f.here; passes = f.passes; first = λ j s l h. f.first (suc j) s (omega arith) h })
    ∙ ap Some g
