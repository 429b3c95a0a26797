-- Ways between states: what is set by them reaches an end, and where nothing more is set, nothing else does.
use Rattle.std.proofs.Common.{◌≡◌, ◌<◌, ◌≤◌, ◌⊎◌, ℕ, zero, suc, arith, Bool, true, false, List, [], ◌∷◌, ◌++◌, length, Option, Some, None, refl, ap, sym, ◌∙◌, subst, inl, inr}
use Rattle.std.specs.Prelude.{slice_get, slice_index_or, slice_set}
use native.Mathlib.Decide.{ℕ_discrete}
use Rattle.std.specs.List.{Contains}
use Rattle.std.proofs.lemmas.List.Elements.{Contains-append_cases}
use Rattle.loom_objects.specs.declared.choice.Choice.{Choice}
use Rattle.loom_engine.specs.declared.rt.states.ways.Way.{Way}
use Rattle.loom_engine.specs.Covering.Between.{AddsRun, AddsWithin, AreClosed, AreReaching, IsClosed, IsFirstLost, IsFirstUnset, IsSetBy, IsWithin, Leads, LeadsToSet, Passes, straight, through, unset}

-- ---- lists

pub within : {X : Type 0} (xs : List X) (k : ℕ) (x : X) → slice_get xs k ≡ Some x → k < length xs
within [] k x e = absurd (cc e)
within (y ∷ xs) zero x e = omega arith
within (y ∷ xs) (suc k) x e = let z : k < length xs = within xs k x e in omega arith

set_cases : (xs : List Bool) (k n : ℕ) (b : Bool) → slice_get (slice_set xs k true) n ≡ Some b → (n ≡ k) ⊎ (slice_get xs n ≡ Some b)
set_cases [] k n b e = inr e
set_cases (x ∷ xs) zero zero b e = inl refl
set_cases (x ∷ xs) zero (suc n) b e = inr e
set_cases (x ∷ xs) (suc k) zero b e = inr e
set_cases (x ∷ xs) (suc k) (suc n) b e = by (set_cases xs k n b e)
  where
    by : (n ≡ k) ⊎ (slice_get xs n ≡ Some b) → (suc n ≡ suc k) ⊎ (slice_get xs n ≡ Some b)
    by (inl i) = inl (ap suc i)
    by (inr i) = inr i

pub one_fewer : (xs : List Bool) (k : ℕ) → slice_get xs k ≡ Some false → suc (unset (slice_set xs k true)) ≡ unset xs
one_fewer [] k e = absurd (cc e)
one_fewer (true ∷ xs) zero e = absurd (cc e)
one_fewer (false ∷ xs) zero e = refl
one_fewer (true ∷ xs) (suc k) e = one_fewer xs k e
one_fewer (false ∷ xs) (suc k) e = ap suc (one_fewer xs k e)

-- ---- what is set

pub contains_at : {X : Type 0} (xs : List X) (k : ℕ) (x : X) → slice_get xs k ≡ Some x → Contains xs x
contains_at [] k x e = absurd (cc e)
contains_at (y ∷ xs) zero x e = (0, omega arith, cc e)
contains_at (y ∷ xs) (suc k) x e = let z = contains_at xs k x e in (suc z.0, omega (arith, z.1), z.2)

pub at_of : {X : Type 0} (xs : List X) (k : ℕ) (x : X) → k < length xs → slice_index_or xs k x ≡ x → slice_get xs k ≡ Some x
at_of [] k x l e = absurd (omega (arith, l))
at_of (y ∷ xs) zero x l e = ap Some e
at_of (y ∷ xs) (suc k) x l e = at_of xs k x (omega (arith, l)) e

pub at_place : {X : Type 0} (xs : List X) (k : ℕ) (d : X) → k < length xs → slice_get xs k ≡ Some (slice_index_or xs k d)
at_place [] k d l = absurd (omega (arith, l))
at_place (y ∷ xs) zero d l = refl
at_place (y ∷ xs) (suc k) d l = at_place xs k d (omega (arith, l))

module _ (ways : List Way) where
  pub set_reaches : (count : ℕ) (way : Way) (old new : List Bool) → length old ≡ count → Contains ways way → IsSetBy way old new → AreReaching ways count old → AreReaching ways count new
  set_reaches count way old new counted has is old_reach n e = by (set_cases old way.from n true (subst (λ (l : List Bool). slice_get l n ≡ Some true) is.is e))
    where
      from : (to : Option ℕ) → way.to ≡ to → LeadsToSet old to → n ≡ way.from → Leads ways count None n
      from None f leads i = straight n (way, has, sym i, f)
      from (Some next) f leads i = through n next (way, has, sym i, f) (subst (λ (k : ℕ). next < k) counted (within old next true leads)) (old_reach next leads)

      by : (n ≡ way.from) ⊎ (slice_get old n ≡ Some true) → Leads ways count None n
      by (inl i) = from way.to refl is.leads i
      by (inr f) = old_reach n f

  -- where nothing more is set, all that reaches an end is set
  pub all_set : (set : List Bool) → AreClosed set ways → (n : ℕ) → n < length set → Leads ways (length set) None n → slice_get set n ≡ Some true
  all_set set closed n l (straight _ (way, has, from, to)) =
      subst (λ (k : ℕ). slice_get set k ≡ Some true) from (closed way has (subst (LeadsToSet set) (sym to) tt) (subst (λ (k : ℕ). k < length set) (sym from) l))
  all_set set closed n l (through _ next (way, has, from, to) less on) =
      subst (λ (k : ℕ). slice_get set k ≡ Some true) from (closed way has (subst (LeadsToSet set) (sym to) (all_set set closed next less on)) (subst (λ (k : ℕ). k < length set) (sym from) l))

  -- so the first that is unset is the first that doesn't
  pub first_lost : (count : ℕ) (set : List Bool) (found : Option ℕ) → length set ≡ count → AreReaching ways count set → AreClosed set ways → IsFirstUnset set found → IsFirstLost ways count found
  first_lost count set None counted reach closed all = λ n l. reach n (all n (subst (λ (k : ℕ). n < k) (sym counted) l))
  first_lost count set (Some lost) counted reach closed (e, before) =
      let less : lost < length set = within set lost false e in
      (subst (λ (k : ℕ). lost < k) counted less, λ r. apart (all_set set closed lost less (subst (λ (k : ℕ). Leads ways k None lost) (sym counted) r)), λ n l. reach n (before n l))
    where
      apart : slice_get set lost ≡ Some true → ⊥
      apart f = cc (e, f)

-- ---- going over the ways once

-- This is set after the ways from this place on: of these each is closed, unless something was set.
pub record Spread (ways : List Way) (first set : List Bool) (left : ℕ) (changed : Bool) : Type 0 where
  pub inside : left ≤ length ways
  pub as_long : length set ≡ length first
  pub reaching : (count : ℕ) → length first ≡ count → AreReaching ways count first → AreReaching ways count set
  pub not_more : unset set ≤ unset first
  pub fewer : changed ≡ true → unset set < unset first
  pub closed : changed ≡ false → (k : ℕ) (way : Way) → left ≤ k → slice_get ways k ≡ Some way → IsClosed set way

set_length : (xs : List Bool) (k : ℕ) (b : Bool) → length (slice_set xs k b) ≡ length xs
set_length [] k b = refl
set_length (x ∷ xs) zero b = refl
set_length (x ∷ xs) (suc k) b = ap suc (set_length xs k b)

module _ (ways : List Way) (first : List Bool) where
  pub spread_starts : Spread ways first first (length ways) false
  spread_starts = record {
    inside = omega arith;
    as_long = refl;
    reaching = λ count e r. r;
    not_more = omega arith;
    fewer = λ e. absurd (cc e);
    closed = λ e k way l at. let z : k < length ways = within ways k way at in absurd (omega (arith, l));
  }

  module _ (set new : List Bool) (left : ℕ) (changed : Bool) (way : Way) (at : slice_get ways left ≡ Some way) (z : Spread ways first set (suc left) changed) where
    pub spread_sets : IsSetBy way set new → Spread ways first new left true
    spread_sets is =
        let fewer_now : suc (unset new) ≡ unset set = ap (λ (l : List Bool). suc (unset l)) is.is ∙ one_fewer set way.from is.was in
        let limit : unset set ≤ unset first = z.not_more in
        record {
          inside = let l : left < length ways = within ways left way at in omega arith;
          as_long = ap length is.is ∙ set_length set way.from true ∙ z.as_long;
          reaching = λ count e r. set_reaches ways count way set new (z.as_long ∙ e) (contains_at ways left way at) is (z.reaching count e r);
          not_more = omega arith;
          fewer = λ e. omega arith;
          closed = λ e. absurd (cc e);
        }

    pub spread_stays : new ≡ set → IsClosed set way → Spread ways first new left changed
    spread_stays same is = subst (λ (l : List Bool). Spread ways first l left changed) (sym same) (record {
      inside = let l : left < length ways = within ways left way at in omega arith;
      as_long = z.as_long;
      reaching = z.reaching;
      not_more = z.not_more;
      fewer = z.fewer;
      closed = λ e k one l there. by k one l there (z.closed e k one) (ℕ_discrete k left);
    })
      where
        by : (k : ℕ) (one : Way) → left ≤ k → slice_get ways k ≡ Some one → (suc left ≤ k → slice_get ways k ≡ Some one → IsClosed set one) → Dec (k ≡ left) → IsClosed set one
        by k one l there later (yes e) = let i : way ≡ one = cc (at, there, e) in subst (λ (x : Way). IsClosed set x) i is
        by k one l there later (no f) = later (omega (arith, l, f)) there

  pub spread_ends : (set : List Bool) → Spread ways first set 0 false → AreClosed set ways
  spread_ends set z way (k, l, e) = z.closed refl k way (omega arith) (at_of ways k way l e)

-- ---- ways that are added

one_of : {X : Type 0} (x y : X) → Contains (x ∷ []) y → y ≡ x
one_of x y (zero, l, e) = sym e
one_of x y (suc k, l, e) = absurd (omega (arith, l))

module _ (led_by : List (List Choice)) (made : List Choice) where
  pub adds_none : (ways : List Way) → AddsWithin led_by made ways ways
  adds_none ways way has = inl has

  pub adds_one : (ways : List Way) (new : Way) → IsWithin led_by made new → AddsWithin led_by made ways (ways ++ new ∷ [])
  adds_one ways new is way has = by (Contains-append_cases ways (new ∷ []) way has)
    where
      by : Contains ways way ⊎ Contains (new ∷ []) way → Contains ways way ⊎ IsWithin led_by made way
      by (inl h) = inl h
      by (inr h) = inr (subst (IsWithin led_by made) (sym (one_of new way h)) is)

  pub adds_more : (old mid new : List Way) → AddsWithin led_by made old mid → AddsWithin led_by made mid new → AddsWithin led_by made old new
  adds_more old mid new one two way has = by (two way has)
    where
      by : Contains mid way ⊎ IsWithin led_by made way → Contains old way ⊎ IsWithin led_by made way
      by (inl h) = one way h
      by (inr h) = inr h

  pub adds_run : (to : Option ℕ) (old mid : List Way) → AddsWithin led_by made old mid → AddsRun led_by made to old mid
  adds_run to old mid one way has = by (one way has)
    where
      by : Contains old way ⊎ IsWithin led_by made way → Contains old way ⊎ (Passes led_by made way.from × (way.to ≡ to)) ⊎ IsWithin led_by made way
      by (inl h) = inl h
      by (inr h) = inr (inr h)

  pub adds_last : (to : Option ℕ) (old mid : List Way) (new : Way) → AddsWithin led_by made old mid → Passes led_by made new.from → new.to ≡ to → AddsRun led_by made to old (mid ++ new ∷ [])
  adds_last to old mid new one passes is way has = by (Contains-append_cases mid (new ∷ []) way has)
    where
      by : Contains mid way ⊎ Contains (new ∷ []) way → Contains old way ⊎ (Passes led_by made way.from × (way.to ≡ to)) ⊎ IsWithin led_by made way
      by (inl h) = adds_run to old mid one way h
      by (inr h) = let e = one_of new way h in inr (inl (subst (λ (x : Way). Passes led_by made x.from) (sym e) passes, ap (λ (x : Way). x.to) e ∙ is))
