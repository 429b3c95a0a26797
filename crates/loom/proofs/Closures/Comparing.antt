-- Where a run is compared with the one before it.
use Rattle.std.proofs.Common.{◌≡◌, ◌<◌, ◌≤◌, ◌+◌, ◌↔◌, ◌∙◌, ℕ, List, [], ◌∷◌, length, Option, MatchOption, Some, None, get_or, inl, inr, refl, ap, sym, subst, add-one, arith}
use Rattle.std.specs.Prelude.{◌⊎◌, min, slice_get, zero, suc}
use Rattle.std.proofs.lemmas.Bool.{cases_lt}
use Rattle.std.proofs.lemmas.Option.{slice_get-get_or, slice_get_read, slice_get_within}
use Rattle.loom_objects.specs.declared.choice.Choice.{Choice}
use Rattle.loom_objects.specs.Operation.Bare.{bare_request}
use Rattle.loom.specs.declared.runner.error.Changed.{Changed}
use Rattle.loom.specs.declared.runner.history.event.Event.{Event}
use Rattle.loom.specs.Runner.Alike.{Agree, AreMet, Differ, IsSame, Shares, Trace, trace}
use Rattle.loom.specs.Runner.Comparing.{IsChangeAt, IsLike, IsOther}

-- ---- choices

-- no more than there are
shares_within : (n : ℕ) (cs ds : List Choice) → Shares n cs ds → (n ≤ length cs) × (n ≤ length ds)
shares_within zero cs ds s = (omega arith, omega arith)
shares_within (suc n) [] ds s = absurd s
shares_within (suc n) (c ∷ cs) [] s = absurd s
shares_within (suc n) (c ∷ cs) (d ∷ ds) s = let w = shares_within n cs ds s.1 in (omega (arith, w.0), omega (arith, w.1))

-- fewer are shared too
shares_fewer : (k n : ℕ) (cs ds : List Choice) → k ≤ n → Shares n cs ds → Shares k cs ds
shares_fewer zero n cs ds few s = tt
shares_fewer (suc k) zero cs ds few s = absurd (omega (arith, few))
shares_fewer (suc k) (suc n) [] ds few s = absurd s
shares_fewer (suc k) (suc n) (c ∷ cs) [] few s = absurd s
shares_fewer (suc k) (suc n) (c ∷ cs) (d ∷ ds) few s = (s.0, shares_fewer k n cs ds (omega (arith, few)) s.1)

-- one more is shared
shares_next : (n : ℕ) (cs ds : List Choice) (c d : Choice) → slice_get cs n ≡ Some c → slice_get ds n ≡ Some d → c ≡ d → Shares n cs ds → Shares (suc n) cs ds
shares_next n [] ds c d a b same s = cc a
shares_next n (x ∷ cs) [] c d a b same s = cc b
shares_next zero (x ∷ cs) (y ∷ ds) c d a b same s = (cc (a, b, same), tt)
shares_next (suc n) (x ∷ cs) (y ∷ ds) c d a b same s = (s.0, shares_next n cs ds c d a b same s.1)

-- the choice behind those that are shared is the same, if it is shared
shared_at : (n : ℕ) (cs ds : List Choice) (c d : Choice) → slice_get cs n ≡ Some c → slice_get ds n ≡ Some d → Shares (suc n) cs ds → c ≡ d
shared_at n [] ds c d a b s = cc a
shared_at n (x ∷ cs) [] c d a b s = cc b
shared_at zero (x ∷ cs) (y ∷ ds) c d a b s = cc (a, b, s.0)
shared_at (suc n) (x ∷ cs) (y ∷ ds) c d a b s = shared_at n cs ds c d a b s.1

pub one_more : (n : ℕ) (cs ds : List Choice) (x y : Choice) → n < length cs → n < length ds → get_or cs n x ≡ get_or ds n y → Shares n cs ds → Shares (n + 1) cs ds
one_more n cs ds x y in_c in_d same s =
    subst (λ (k : ℕ). Shares k cs ds) (sym (add-one n)) (shares_next n cs ds (get_or cs n x) (get_or ds n y) (slice_get-get_or cs n x in_c) (slice_get-get_or ds n y in_d) same s)

-- so many are shared, where the next ones differ
pub no_more : (n : ℕ) (cs ds : List Choice) (x y : Choice) → n < length cs → n < length ds → (get_or cs n x ≡ get_or ds n y → ⊥) → Shares n cs ds → (k : ℕ) → (k ≤ n) ↔ Shares k cs ds
no_more n cs ds x y in_c in_d differ s k = ((λ few. shares_fewer k n cs ds few s), go (cases_lt n k))
  where
    go : (n < k) ⊎ (k ≤ n) → Shares k cs ds → k ≤ n
    go (inr few) more = few
    go (inl many) more =
        absurd (differ (shared_at n cs ds (get_or cs n x) (get_or ds n y) (slice_get-get_or cs n x in_c) (slice_get-get_or ds n y in_d) (shares_fewer (suc n) k cs ds (omega (arith, many)) more)))

-- so many are shared, where one has no more
pub all_shared : (n : ℕ) (cs ds : List Choice) → n ≡ min (length cs) (length ds) → Shares n cs ds → (k : ℕ) → (k ≤ n) ↔ Shares k cs ds
all_shared n cs ds most s k = ((λ few. shares_fewer k n cs ds few s), (λ more. (let w = shares_within k cs ds more in omega (arith, w.0, w.1, most))))

-- ---- events

-- the nth event, as it was read
same_as : {D : Type 0} (xs : List (Event D)) (n : ℕ) (x d : Event D) → n < length xs → x ≡ get_or xs n x → slice_get xs n ≡ Some d → d ≡ x
same_as xs n x d inside read is = let r = slice_get_read xs (length xs) n x refl inside read in cc (r, is)

module _ {D : Type 0} (cs ds : List Choice) (old events : List (Event D)) where
  -- the nth events are alike
  pub like_at : (shared n : ℕ) (x y : Event D) → n < length old → n < length events → x ≡ get_or old n x → y ≡ get_or events n y → ((k : ℕ) → (k ≤ shared) ↔ Shares k cs ds) → IsLike shared x y
      → (d e : Event D) → AreMet (trace cs old) (trace ds events) n d e → IsSame d e
  like_at shared n x y in_x in_y is_x is_y shares like d e met =
      let a : d ≡ x = same_as old n x d in_x is_x met.old in
      let b : e ≡ y = same_as events n y e in_y is_y met.new in
      let few : d.choices_before ≤ shared = (shares d.choices_before).1 met.shared in
      subst (λ (u : Event D). IsSame u e) (sym a)
      (subst (λ (v : Event D). IsSame x v) (sym b)
      (like (ap (λ (v : Event D). v.choices_before) (sym b) ∙ (met.passed ∙ ap (λ (u : Event D). u.choices_before) a)) (subst (λ (u : Event D). u.choices_before ≤ shared) a few)))

  -- the first ones that aren't
  pub differ_at : (shared n : ℕ) (x y : Event D) → n < length old → n < length events → x ≡ get_or old n x → y ≡ get_or events n y → ((k : ℕ) → (k ≤ shared) ↔ Shares k cs ds) → IsOther shared x y
      → ((k : ℕ) → k < n → (d e : Event D) → AreMet (trace cs old) (trace ds events) k d e → IsSame d e) → Differ (trace cs old) (trace ds events) n
  differ_at shared n x y in_x in_y is_x is_y shares other before = record {
    old = x;
    new = y;
    met = record {
      old = slice_get_read old (length old) n x refl in_x is_x;
      new = slice_get_read events (length events) n y refl in_y is_y;
      passed = other.0;
      shared = (shares x.choices_before).0 other.1;
    };
    differ = other.2;
    first = λ k d e below met. before k below d e met;
  }

  -- all are alike
  pub all_alike : (most : ℕ) → most ≡ min (length old) (length events) → ((k : ℕ) → k < most → (d e : Event D) → AreMet (trace cs old) (trace ds events) k d e → IsSame d e)
      → Agree (trace cs old) (trace ds events)
  all_alike most is each n d e met = each n (omega (arith, is, slice_get_within old n d met.old, slice_get_within events n e met.new)) d e met

-- ---- the change

-- where runs differ each has an event
pub within : {D : Type 0} (before after : Trace D) (n : ℕ) → Differ before after n → (n < length before.events) × (n < length after.events)
within before after n differ = (slice_get_within before.events n differ.old differ.met.old, slice_get_within after.events n differ.new differ.met.new)

-- what is said of the events as they were read
pub change_at : {D : Type 0} (run n : ℕ) (old events : List (Event D)) (x y : Event D) (change : Changed) → n < length old → n < length events → x ≡ get_or old n x → y ≡ get_or events n y → change.run ≡ run
    → change.thread ≡ y.by → change.before ≡ bare_request x.op → change.now ≡ bare_request y.op → IsChangeAt run old events n change
change_at {D} run n old events x y change in_x in_y is_x is_y run_so thread before now d e was is =
    let a : x ≡ d = sym (same_as old n x d in_x is_x was) in
    let b : y ≡ e = sym (same_as events n y e in_y is_y is) in
    record {
      run_so = run_so;
      thread = thread ∙ ap (λ (v : Event D). v.by) b;
      before_so = before ∙ ap (λ (u : Event D). bare_request u.op) a;
      now_so = now ∙ ap (λ (v : Event D). bare_request v.op) b;
    }

-- what holds of two runs holds of the same ones
pub moved : {D : Type 0} (P : Trace D → Trace D → Type 0) (old old' new new' : Trace D) → old' ≡ old → new' ≡ new → P old' new' → P old new
moved P old old' new new' a b p = subst (λ (x : Trace _). P x new) a (subst (λ (y : Trace _). P old' y) b p)

pub none_gives : {A : Type 0} (o : Option A) (P : Type 0) (Q : A → Type 0) → MatchOption o P Q → o ≡ None → P
none_gives None P Q p is = p
none_gives (Some x) P Q p is = cc is
