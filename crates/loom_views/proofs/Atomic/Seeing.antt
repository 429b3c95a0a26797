-- Which slots a reader may choose, where each store that is seen keeps it from those below.
use Rattle.std.proofs.Common.{◌≡◌, ◌≢◌, ℕ, ◌+◌, ◌<◌, ◌≤◌, add-one, Bool, true, false, not, ◌&&◌, ◌||◌, min, List, length, get_or, refl, ap, sym, ◌∙◌, arith, subst, inl, inr, Option, Some, None}
use Rattle.std.specs.Prelude.{◌==◌, is_some}
use Rattle.std.specs.List.{list_any, filter}
use Rattle.std.specs.declared.sync.atomic.Ordering.{Ordering}
use Rattle.std.proofs.lemmas.Bool.{cases_eq, cases_lt, true≢false}
use Rattle.std.proofs.lemmas.Bool.Decides.{nat_tests}
use Rattle.std.proofs.lemmas.List.{get_or_past}
use Rattle.loom_views.specs.declared.rt.atomic.reader.Reader.{Reader}
use Rattle.loom_views.specs.declared.rt.atomic.reader.Reader.TheVariants.{Load}
use Rattle.loom_views.specs.declared.rt.atomic.Store.{Store}
use Rattle.loom_views.specs.declared.rt.atomic.State.{State}
use Rattle.loom_views.specs.declared.rt.synchronize.ThreadViews.{ThreadViews}
use Rattle.loom_views.specs.Orderings.{is_seq_cst}
use Rattle.loom_views.specs.Versions.{within}
use Rattle.loom_views.specs.Atomic.Slots.{upto, slot_set, readable_slots}
use Rattle.loom_views.specs.Atomic.History.{Scene, readable, fails_by_orders}
use Rattle.loom_views.specs.Atomic.Ring.{HaveOtherOrders, store_at, is_touch_in, is_version_before, is_order_below, is_slot_below, is_below_seen, is_same_slot, drops_store, drops_slot}
use Rattle.loom_views.specs.Atomic.Shown.{ShowsScene}
use Rattle.loom_views.proofs.Atomic.Choices.{readable-agree, readable-is, fails-is}
use Rattle.loom_views.proofs.Atomic.Loops.{any_upto-suc, any_upto-none}
use Rattle.loom_views.proofs.Atomic.SlotSets.{met-apart, set-is}

-- a load that isn't sequentially consistent, of a thread that hasn't yielded
never-before : (v : Option ℕ) → is_version_before v None ≡ false
never-before None = refl
never-before (Some m) = refl

passed-seen : (seen before both : Bool) → before ≡ false → (seen || before || (false && both)) ≡ seen
passed-seen true before both e = refl
passed-seen false before both e = rw e refl

pub by_sight : (t : ℕ) (views : ThreadViews) (order : Ordering) (i j : Store) → is_seq_cst order ≡ false → views.last_yield ≡ None
    → drops_store t views (Load order) i j ≡ (is_order_below i j && is_touch_in j.first_seen.versions views.present)
by_sight t views order i j e h =
    ap (λ b. is_order_below i j && b) (rw (e, h) (passed-seen (is_touch_in j.first_seen.versions views.present) _ (i.seq_cst && j.seq_cst) (never-before _)))

pub none_from : (o : Option ℕ) (is : Bool) → is_some o ≡ not is → is ≡ true → o ≡ None
none_from None is h e = refl
none_from (Some n) is h e = absurd (true≢false (h ∙ ap not e))

-- no two orders are equal, if none is equal to one in a lower slot
flipped : (a b : Bool) → (a && b) ≡ (b && a)
flipped true true = refl
flipped true false = refl
flipped false true = refl
flipped false false = refl

neither : (a : Bool) → (a && false) ≡ false
neither true = refl
neither false = refl

pub other_orders : (state : State) → ((i j : ℕ) → i < 7 → j < i → is_same_slot state i j ≡ false) → HaveOtherOrders state
other_orders state h i j l k = elim (cases_eq i j) [
  | inl e ↦ (let same : (i == j) ≡ true = grind (arith, nat_tests) in ap (λ b. not b && is_same_slot state i j) same)
  | inr d ↦ ap (λ b. not (i == j) && b) (unlike d) ∙ neither (not (i == j))
]
  where
    turned : is_same_slot state i j ≡ is_same_slot state j i
    turned = flipped (within (store_at state.stores i).order (store_at state.stores j).order) (within (store_at state.stores j).order (store_at state.stores i).order)

    unlike : i ≢ j → is_same_slot state i j ≡ false
    unlike d = elim (cases_lt i j) [
      | inl m ↦ turned ∙ h j i k m
      | inr m ↦ h i j l (omega arith)
    ]

-- one more store was looked at, which is seen, or isn't
any_upto-more : (p : ℕ → Bool) (n : ℕ) → list_any p (upto (n + 1)) ≡ (list_any p (upto n) || p n)
any_upto-more p n = rw add-one (any_upto-suc p n)

not-either : (a b : Bool) → (not a && not b) ≡ not (a || b)
not-either true b = refl
not-either false b = refl

unless-both : (a b : Bool) → (not b || not a) ≡ not (a && b)
unless-both true true = refl
unless-both true false = refl
unless-both false true = refl
unless-both false false = refl

pub more_seen : (stores : List Store) (view : List ℕ) (k j : ℕ) (left is_seen : Bool) → left ≡ not (list_any (is_below_seen stores view k) (upto j)) → is_seen ≡ is_touch_in (store_at stores j).first_seen.versions view
    → (left && (not is_seen || not (is_slot_below stores k j))) ≡ not (list_any (is_below_seen stores view k) (upto (j + 1)))
more_seen stores view k j left is_seen e seen =
    ap (λ b. left && b) (unless-both (is_slot_below stores k j) is_seen) ∙ ap (λ b. left && not (is_slot_below stores k j && b)) seen
    ∙ ap (λ b. b && not (is_below_seen stores view k j)) e ∙ not-either (list_any (is_below_seen stores view k) (upto j)) (is_below_seen stores view k j)
    ∙ ap not (sym (any_upto-more (is_below_seen stores view k) j))

-- the set, once each was looked at
pub full_set : (drops : ℕ → ℕ → Bool) (n : ℕ) (xs : List Bool) → 7 ≤ n → length xs ≡ 7 → ((k : ℕ) → k < 7 → get_or xs k false ≡ not (list_any (drops k) (upto 7))) → xs ≡ slot_set (readable_slots drops n)
full_set drops n xs full size h =
    let seven : 7 ≡ min n 7 = omega arith in
    subst (λ (m : ℕ). xs ≡ slot_set (filter (λ i. not (list_any (drops i) (upto m))) (upto m))) seven (set-is xs (λ i. not (list_any (drops i) (upto 7))) 7 (omega arith) size h (λ i b. get_or_past xs i false (omega (arith, size))))

-- these are the slots that the reader may choose, and no two orders are equal on the way
module _ (t : ℕ) (views : ThreadViews) (state : State) (reader : Reader) (l : t < 5) (s : Scene) (z : ShowsScene t s views state) where
  pub seen_readable : ((i j : Store) → drops_store t views reader i j ≡ (is_order_below i j && is_touch_in j.first_seen.versions views.present)) → HaveOtherOrders state
      → (xs : List Bool) → xs ≡ slot_set (readable_slots (is_below_seen state.stores views.present) state.count)
      → (xs ≡ slot_set (readable s.graph t s.thread reader s.history.stores)) × (fails_by_orders s.graph t s.thread reader s.history.stores ≡ false)
  seen_readable sight differ xs e = rw (sym (readable-is t s views state reader l z), sym (fails-is t s views state reader l z)) (
    e ∙ ap slot_set (readable-agree (is_below_seen state.stores views.present) (drops_slot state t views reader) state.count (λ i j a b a' b'. sym (sight (store_at state.stores i) (store_at state.stores j)))),
    any_upto-none _ (min state.count 7) (λ i a. any_upto-none _ (min state.count 7) (λ j b. met-apart (is_same_slot state) (drops_slot state t views reader) i j (differ i j (omega arith) (omega arith)))),
  )
