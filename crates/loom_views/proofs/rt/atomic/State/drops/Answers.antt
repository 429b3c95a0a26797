use Rattle.std.proofs.Common.{◌≡◌, ℕ, Bool, true, false, not, ◌&&◌, get_or, refl, ap, sym, ◌∙◌, arith, Option, Some, None}
use Rattle.std.specs.Prelude.{◌==◌}
use Rattle.std.specs.Option.{unwrap_or}
use Rattle.std.specs.declared.sync.atomic.Ordering.{Ordering}
use Rattle.std.proofs.lemmas.Bool.Decides.{nat_tests}
use Rattle.std.proofs.lemmas.List.{get_or_default}
use Rattle.loom_views.specs.declared.rt.atomic.reader.Reader.{Reader}
use Rattle.loom_views.specs.declared.rt.atomic.reader.Reader.TheVariants.{Load, Update}
use Rattle.loom_views.specs.declared.rt.atomic.Store.{Store}
use Rattle.loom_views.specs.Atomic.Readers.{load_order}
use Rattle.loom_views.specs.declared.rt.synchronize.ThreadViews.{ThreadViews}
use Rattle.loom_views.specs.Atomic.Ring.{blank_store, drops_store, is_order_below, is_order_same, is_passed, store_at}
use Rattle.loom_views.specs.Versions.{within}
use Rattle.loom_views.proofs.rt.atomic.State.drops.Goals as goal
use Rattle.loom_views.proofs.rt.atomic.State.drops.Goals.{then-i-j-via-then-i-j, then-i-j-via-else-i-j+then-not-is_within}

neither : (a : Bool) → (a && false) ≡ false
neither true = refl
neither false = refl

-- where the one order isn't inside the other, they aren't the same
not-same : (b : Bool) (i j : Store) → within j.order i.order ≡ false → (b && is_order_same i j) ≡ false
not-same b i j h = ap (λ x. b && (within i.order j.order && x)) h ∙ ap (λ x. b && x) (neither (within i.order j.order)) ∙ neither b

is-below : (i j : Store) → within i.order j.order ≡ true → within j.order i.order ≡ false → is_order_below i j ≡ true
is-below i j a b = ap (λ x. x && not (within j.order i.order)) a ∙ ap not b

-- a store isn't below itself
never-below : (i : Store) → is_order_below i i ≡ false
never-below i = apart (within i.order i.order)
  where
    apart : (a : Bool) → (a && not a) ≡ false
    apart true = refl
    apart false = refl

not-dropped : (t : ℕ) (views : ThreadViews) (reader : Reader) (i j : Store) → is_order_below i j ≡ false → false ≡ drops_store t views reader i j
not-dropped t views Update i j h = sym h
not-dropped t views (Load order) i j h = sym (ap (λ x. x && is_passed t views order i j) h)

-- a read-modify-write is kept from a store by each that is above it
update-drops : (t : ℕ) (views : ThreadViews) (reader : Reader) (i j : Store) → None ≡ load_order reader → is_order_below i j ≡ true → true ≡ drops_store t views reader i j
update-drops t views Update i j e b = sym b
update-drops t views (Load order) i j e b = cc

-- and a load where it passes the store by
load-drops : (t : ℕ) (views : ThreadViews) (reader : Reader) (order : Ordering) (i j : Store) → Some order ≡ load_order reader → is_order_below i j ≡ true → is_passed t views order i j ≡ drops_store t views reader i j
load-drops t views Update order i j e b = cc
load-drops t views (Load found) order i j e b =
    let same : order ≡ found = ap (λ (o : Option Ordering). unwrap_or o order) e in
    ap (λ o. is_passed t views o i j) same ∙ sym (ap (λ x. x && is_passed t views found i j) b)

pub returns-in-None : goal.returns-in-None
returns-in-None c =
    let i = store_at c.args.self.now.stores c.args.i in
    let j = store_at c.args.self.now.stores c.args.j in
    let item_i : get_or c.args.self.now.stores c.args.i c.index-self-i.result ≡ i = get_or_default c.args.self.now.stores c.args.i c.index-self-i.result blank_store (omega arith) in
    let item_j : get_or c.args.self.now.stores c.args.j c.index-self-j.result ≡ j = get_or_default c.args.self.now.stores c.args.j c.index-self-j.result blank_store (omega arith) in
    let a : within i.order j.order ≡ true = rw (← item_i, ← item_j) (sym c.is_within.ensures.test ∙ c.if-not-is_within.false) in
    let b : within j.order i.order ≡ false = rw (← item_i, ← item_j) (sym c.is_within-2.ensures.test ∙ c.if-is_within.false) in
    (update-drops c.args.thread c.args.views.now c.args.reader i j c.in-None.ensures (is-below i j a b), not-same (not (c.args.i == c.args.j)) i j b)

pub returns-in-Some : goal.returns-in-Some
returns-in-Some c =
    let i = store_at c.args.self.now.stores c.args.i in
    let j = store_at c.args.self.now.stores c.args.j in
    let item_i : get_or c.args.self.now.stores c.args.i c.index-self-i.result ≡ i = get_or_default c.args.self.now.stores c.args.i c.index-self-i.result blank_store (omega arith) in
    let item_j : get_or c.args.self.now.stores c.args.j c.index-self-j.result ≡ j = get_or_default c.args.self.now.stores c.args.j c.index-self-j.result blank_store (omega arith) in
    let a : within i.order j.order ≡ true = rw (← item_i, ← item_j) (sym c.is_within.ensures.test ∙ c.if-not-is_within.false) in
    let b : within j.order i.order ≡ false = rw (← item_i, ← item_j) (sym c.is_within-2.ensures.test ∙ c.if-is_within.false) in
    let passed : c.is_passed.result ≡ is_passed c.args.thread c.args.views.now c.in-Some.order i j = rw (← item_i, ← item_j) c.is_passed.ensures in
    (passed ∙ load-drops c.args.thread c.args.views.now c.args.reader c.in-Some.order i j c.in-Some.ensures (is-below i j a b), not-same (not (c.args.i == c.args.j)) i j b)

pub returns-then-i-j : goal.returns-then-i-j
returns-then-i-j c =
    let i = store_at c.args.self.now.stores c.args.i in
    let j = store_at c.args.self.now.stores c.args.j in
    elim c.then-i-j.branch [
      | then-i-j-via-then-i-j w ↦ (
          let one : (c.args.i == c.args.j) ≡ true = grind (arith, nat_tests) in
          let apart : is_order_below i j ≡ false = rw w.if-i-j.true (never-below j) in
          (not-dropped c.args.thread c.args.views.now c.args.reader i j apart, ap (λ x. not x && is_order_same i j) one)
          )
      | then-i-j-via-else-i-j+then-not-is_within w ↦ (
          let item_i : get_or c.args.self.now.stores c.args.i c.index-self-i.result ≡ i = get_or_default c.args.self.now.stores c.args.i c.index-self-i.result blank_store (omega arith) in
          let item_j : get_or c.args.self.now.stores c.args.j c.index-self-j.result ≡ j = get_or_default c.args.self.now.stores c.args.j c.index-self-j.result blank_store (omega arith) in
          let a : within i.order j.order ≡ false = rw (← item_i, ← item_j) (sym w.is_within.ensures.test ∙ w.if-not-is_within.true) in
          let apart : is_order_below i j ≡ false = ap (λ x. x && not (within j.order i.order)) a in
          (not-dropped c.args.thread c.args.views.now c.args.reader i j apart, ap (λ x. not (c.args.i == c.args.j) && (x && within j.order i.order)) a ∙ neither (not (c.args.i == c.args.j)))
          )
    ]
