-- First touches in a word.
use Rattle.std.proofs.Common.{zero, suc, ◌≡◌, ◌≢◌, ℕ, ◌/◌, ◌%◌, ◌^◌, ◌<◌, ◌≤◌, Bool, true, false, not, map, List, [], ◌∷◌, get_or, set, refl, sym, ap, ◌∙◌, arith, ⊎_elim, inl, inr, Option, Some, None}
use Rattle.std.specs.Prelude.{◌↔◌, IfSome, IsTrue, unwrap_or}
use Rattle.std.specs.List.{list_any}
use Rattle.std.proofs.lemmas.Bool.{cases_eq, cases_lt, eq-eqb, ne_eqb, leb-false, lt-leb, or_from, or_parts, true_from_ne_false}
use Rattle.loom_views.specs.Graph.{threads}
use Rattle.loom_views.specs.Lanes.{lane, counts_in, AreLarger, IsLaidOut}
use Rattle.loom_views.specs.Atomic.Ring.{is_version_seen, is_touch_in}
use Rattle.loom_views.specs.Atomic.Touches.{touch_in, touches_in, IsPadded}
use Rattle.loom_views.proofs.Views.Lanes.{counts_set, lane_above}

-- what is above the threads' lanes stays
pub padded_on : (word old : ℕ) → word < 2 ^ 128 → ((t : ℕ) → 5 ≤ t → lane word t ≡ lane old t) → IsPadded old → IsPadded word
padded_on word old h same p =
    let five : word / 2 ^ 80 % 2 ^ 16 ≡ old / 2 ^ 80 % 2 ^ 16 = same 5 (omega arith) in
    let six : word / 2 ^ 96 % 2 ^ 16 ≡ old / 2 ^ 96 % 2 ^ 16 = same 6 (omega arith) in
    let seven : word / 2 ^ 112 % 2 ^ 16 ≡ old / 2 ^ 112 % 2 ^ 16 = same 7 (omega arith) in
    omega (arith, h, p, five, six, seven)

map-set : (xs : List ℕ) (i v : ℕ) → map touch_in (set xs i v) ≡ set (map touch_in xs) i (touch_in v)
map-set [] i v = refl
map-set (x ∷ xs) zero v = refl
map-set (x ∷ xs) (suc i) v = ap (λ ys. touch_in x ∷ ys) (map-set xs i v)

pub version_in : (n : ℕ) → n ≤ 65534 → touch_in n ≡ Some n
version_in n l = rw (ne_eqb n 65535 (λ e. absurd (omega (arith, e, l)))) refl

-- what stands for a first touch, or for none, is read again
pub touch_back : (touch : Option ℕ) → IfSome touch (λ n. n ≤ 65534) → touch_in (unwrap_or touch 65535) ≡ touch
touch_back None l = refl
touch_back (Some n) l = version_in n l

pub touches_set : (old word i v : ℕ) → i < 5 → v ≤ 65534 → lane word i ≡ v → ((t : ℕ) → t ≢ i → lane word t ≡ lane old t) → touches_in word ≡ set (touches_in old) i (Some v)
touches_set old word i v l few e others =
    ap (map touch_in) (counts_set old word i v l e others) ∙ map-set (counts_in old) i v ∙ ap (set (touches_in old) i) (version_in v few)

-- the lanes of no thread
padded_at : (word t : ℕ) → IsPadded word → 5 ≤ t → t < 8 → lane word t ≡ 65535
padded_at word zero p l m = absurd (omega (arith, l))
padded_at word (suc zero) p l m = absurd (omega (arith, l))
padded_at word (suc (suc zero)) p l m = absurd (omega (arith, l))
padded_at word (suc (suc (suc zero))) p l m = absurd (omega (arith, l))
padded_at word (suc (suc (suc (suc zero)))) p l m = absurd (omega (arith, l))
padded_at word (suc (suc (suc (suc (suc zero))))) p l m = omega (arith, p)
padded_at word (suc (suc (suc (suc (suc (suc zero)))))) p l m = omega (arith, p)
padded_at word (suc (suc (suc (suc (suc (suc (suc zero))))))) p l m = omega (arith, p)
padded_at word (suc (suc (suc (suc (suc (suc (suc (suc t)))))))) p l m = absurd (omega (arith, m))

-- what is false of each of the five threads
at_five : (p : ℕ → Bool) → list_any p threads ≡ false → (t : ℕ) → t < 5 → p t ≡ false
at_five p h zero l = (or_parts (p 0) _ h).0
at_five p h (suc zero) l = (or_parts (p 1) _ (or_parts (p 0) _ h).1).0
at_five p h (suc (suc zero)) l = (or_parts (p 2) _ (or_parts (p 1) _ (or_parts (p 0) _ h).1).1).0
at_five p h (suc (suc (suc zero))) l = (or_parts (p 3) _ (or_parts (p 2) _ (or_parts (p 1) _ (or_parts (p 0) _ h).1).1).1).0
at_five p h (suc (suc (suc (suc zero)))) l = (or_parts (p 4) _ (or_parts (p 3) _ (or_parts (p 2) _ (or_parts (p 1) _ (or_parts (p 0) _ h).1).1).1).1).0
at_five p h (suc (suc (suc (suc (suc t))))) l = absurd (omega (arith, l))

none_at : (p : ℕ → Bool) → ((t : ℕ) → t < 5 → p t ≡ false) → list_any p threads ≡ false
none_at p h = or_from (p 0) _ (h 0 (omega arith)) (or_from (p 1) _ (h 1 (omega arith)) (or_from (p 2) _ (h 2 (omega arith)) (or_from (p 3) _ (h 3 (omega arith)) (or_from (p 4) _ (h 4 (omega arith)) refl))))

-- ---- whether a touch is in a view

later : (m n : ℕ) → n < m → is_version_seen (touch_in m) n ≡ false
later m n l = ⊎_elim
    (λ e. rw (eq-eqb m 65535 e) refl)
    (λ d. rw (ne_eqb m 65535 d) (lt-leb m n l))
    (cases_eq m 65535)

sooner : (m n : ℕ) → n ≤ 65534 → is_version_seen (touch_in m) n ≡ false → n < m
sooner m n few h = ⊎_elim
    (λ e. omega (arith, e, few))
    (λ d. leb-false m n (rw (ne_eqb m 65535 d) at h))
    (cases_eq m 65535)

-- the first touch of a thread, by its lane
pub touch-at : (word t : ℕ) → t < 5 → get_or (touches_in word) t None ≡ touch_in (lane word t)
touch-at word zero l = refl
touch-at word (suc zero) l = refl
touch-at word (suc (suc zero)) l = refl
touch-at word (suc (suc (suc zero))) l = refl
touch-at word (suc (suc (suc (suc zero)))) l = refl
touch-at word (suc (suc (suc (suc (suc t))))) l = absurd (omega arith)

module _ (word other : ℕ) (view : List ℕ) (laid : IsLaidOut view other) (counted : (t : ℕ) → t < 5 → get_or view t 0 ≤ 65534) (padded : IsPadded word) where
  abbrev seen_at : ℕ → Bool
  seen_at t = is_version_seen (get_or (touches_in word) t None) (get_or view t 0)

  unseen : AreLarger other word → (t : ℕ) → t < 5 → seen_at t ≡ false
  unseen larger t l =
      let at : lane other t ≡ get_or view t 0 = laid.counts t l in
      let more = larger t (omega (arith, l)) in
      rw (touch-at word t l) (later (lane word t) (get_or view t 0) (omega (arith, at, more)))

  far : (t : ℕ) → 5 ≤ t → t < 8 → lane other t < lane word t
  far t l m =
      let none : lane other t ≡ 0 = lane_above other t laid.rest l in
      let all : lane word t ≡ 65535 = padded_at word t padded l m in
      omega (arith, none, all)

  near : (t : ℕ) → t < 5 → seen_at t ≡ false → lane other t < lane word t
  near t l h =
      let at : lane other t ≡ get_or view t 0 = laid.counts t l in
      let less = sooner (lane word t) (get_or view t 0) (counted t l) (rw (touch-at word t l) at h) in
      omega (arith, at, less)

  all_larger : is_touch_in (touches_in word) view ≡ false → AreLarger other word
  all_larger h t l = elim (cases_lt t 5) [
    | inl few ↦ near t few (at_five seen_at h t few)
    | inr more ↦ far t more l
  ]

  pub touch-found : (result : Bool) → IsTrue result ↔ AreLarger other word → not result ≡ is_touch_in (touches_in word) view
  touch-found true h = sym (none_at seen_at (unseen (h.0 refl)))
  touch-found false h = sym (true_from_ne_false (is_touch_in (touches_in word) view) (λ e. absurd (cc (h.1 (all_larger e)))))
