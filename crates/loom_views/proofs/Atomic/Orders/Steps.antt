-- The steps of an atomic keep the orders of its kept stores apart.
use Rattle.std.proofs.Common.{zero, suc, ◌≡◌, ◌≢◌, ℕ, ◌+◌, ◌-◌, ◌<◌, ◌≤◌, Bool, true, false, not, min, ◌||◌, ◌&&◌, List, [], ◌∷◌, length, get_or, refl, ap, sym, ◌∙◌, arith, subst, ⊎_elim, Option, Some, None}
use Rattle.std.specs.Prelude.{◌==◌}
use Rattle.std.specs.List.{list_any}
use Rattle.std.specs.declared.sync.atomic.Ordering.{Ordering}
use Rattle.std.specs.declared.sync.atomic.Ordering.TheVariants.{Release}
use Rattle.std.proofs.lemmas.Bool.{cases_Bool, cases_eq, cases_lt, eq-eqb, false_from_ne_true, and_parts, and_from, or_left, true≢false, not-true}
use Rattle.std.proofs.lemmas.List.{get_or-set_same, get_or-set_other, length-set}
use Rattle.loom_views.specs.declared.rt.atomic.reader.Reader.{Reader}
use Rattle.loom_views.specs.declared.rt.atomic.reader.Reader.TheVariants.{Load, Update}
use Rattle.loom_views.specs.Graph.{Graph, reaches, inside}
use Rattle.loom_views.specs.Orderings.{is_seq_cst, is_acquire}
use Rattle.loom_views.specs.ThreadViews.{ThreadPoints}
use Rattle.loom_views.specs.Atomic.Touches.{untouched}
use Rattle.loom_views.specs.Atomic.Slots.{upto, slots, number_in_slot, has_order_of, has_equal_order_at}
use Rattle.loom_views.specs.Atomic.History.{StorePoints, Scene, blank, with_newest, has_same_order, has_same_order_in_slot, is_below, in_slot, touch, touch_of, is_seen, is_touch_before, drops, drops_in_slot, readable, fails_by_orders, graph_with_order, graph_with_start, scene_read, scene_loaded, scene_made, new_step}
use Rattle.loom_views.specs.Views.{has_slot}
use Rattle.loom_views.proofs.Views.Growth.{GrownBy, quiet}
use Rattle.loom_views.proofs.Atomic.Growth.{started-grown}
use Rattle.loom_views.proofs.Atomic.Loops.{any_upto-hit, any_upto-none}
use Rattle.loom_views.proofs.Atomic.SlotNumbers.{number-bound}
use Rattle.loom_views.proofs.Atomic.SlotSets.{has-below, has-beyond}
use Rattle.loom_views.proofs.Atomic.Reaching.Raising.{extends-grown}
use Rattle.loom_views.proofs.Atomic.Orders.Sets.{Holds, holds-inside, ranked-same}
use Rattle.loom_views.proofs.Atomic.Orders.Points.{IsKept, View, Raising, mark_of, IsUnder, AreApart, Fresh, inside-gives, apart-more, apart-extends}
use Rattle.loom_views.proofs.Atomic.Orders.Reading.{apart-read, fresh-kept}
use Rattle.loom_views.proofs.Atomic.Orders.Making.{apart-made, apart-first, fresh-acquired}

-- a slot that may be chosen: a store is kept there, and no store that the thread has seen is strictly above it
pub record IsFree (g : Graph) (stores : List StorePoints) (present slot : ℕ) : Type 0 where
  pub kept : IsKept stores slot
  pub free : (k : ℕ) → IsKept stores k → k ≢ slot → is_seen g (in_slot stores k) present ≡ true → inside g (in_slot stores slot).order (in_slot stores k).order ≡ true → inside g (in_slot stores k).order (in_slot stores slot).order ≡ true

-- a store that is seen and strictly above drops the one below
seen-drops : (g : Graph) (t : ℕ) (p : ThreadPoints) (reader : Reader) (i j : StorePoints) → is_seen g j p.present ≡ true → inside g i.order j.order ≡ true → inside g j.order i.order ≡ false → drops g t p reader i j ≡ true
unfolding drops is_below
seen-drops g t p Update i j s a b = and_from (inside g i.order j.order) (not (inside g j.order i.order)) a (ap not b)
seen-drops g t p (Load order) i j s a b =
    and_from (inside g i.order j.order && not (inside g j.order i.order)) (is_seen g j p.present || is_touch_before g t (touch_of i t) p.yielded || (is_seq_cst order && (i.seq_cst && j.seq_cst)))
    (and_from (inside g i.order j.order) (not (inside g j.order i.order)) a (ap not b))
    (or_left (is_seen g j p.present || is_touch_before g t (touch_of i t) p.yielded) (is_seq_cst order && (i.seq_cst && j.seq_cst)) (or_left (is_seen g j p.present) (is_touch_before g t (touch_of i t) p.yielded) s))

pub readable-free : (g : Graph) (t : ℕ) (p : ThreadPoints) (reader : Reader) (stores : List StorePoints) (slot : ℕ) → has_slot (readable g t p reader stores) slot ≡ true → IsFree g stores p.present slot
readable-free g t p reader stores slot h = ⊎_elim inner (λ b. absurd (true≢false (sym h ∙ has-beyond (λ i. not (list_any (drops_in_slot g t p reader stores i) (slots (length stores)))) (min (length stores) 7) slot b))) (cases_lt slot (min (length stores) 7))
  where
    inner : slot < min (length stores) 7 → IsFree g stores p.present slot
    inner b = record {
      kept = (omega arith, omega arith);
      free = λ k q n s a. ⊎_elim (λ e. e) (λ e. absurd (dropped k q s a e)) (cases_Bool (inside g (in_slot stores k).order (in_slot stores slot).order));
    }
      where
        passes : not (list_any (drops_in_slot g t p reader stores slot) (slots (length stores))) ≡ true
        passes = sym (has-below (λ i. not (list_any (drops_in_slot g t p reader stores i) (slots (length stores)))) (min (length stores) 7) slot b) ∙ h

        dropped : (k : ℕ) → IsKept stores k → is_seen g (in_slot stores k) p.present ≡ true → inside g (in_slot stores slot).order (in_slot stores k).order ≡ true → inside g (in_slot stores k).order (in_slot stores slot).order ≡ false → ⊥
        dropped k q s a e = true≢false
            (sym (any_upto-hit (drops_in_slot g t p reader stores slot) (min (length stores) 7) k (let u = q.0 in let w = q.1 in omega arith) (seen-drops g t p reader (in_slot stores slot) (in_slot stores k) s a e))
            ∙ not-true (list_any (drops_in_slot g t p reader stores slot) (slots (length stores))) passes)

-- what an atomic's step is to keep: the orders are apart, and the thread has just raised
abbrev pub Stands : (ℕ → Type 0) → ℕ → Scene → Type 0
Stands D t s = AreApart D s.graph s.history.stores × Fresh s.graph s.history.stores t s.thread.present

-- reading a store
pub stands-read : (D : ℕ → Type 0) (t : ℕ) (s : Scene) (slot : ℕ) → IsFree s.graph s.history.stores s.thread.present slot → Stands D t s → Stands D t (scene_read t s slot)
stands-read D t s slot f h = (apart-read D s.graph t s.history.stores s.thread.present slot f.kept h.0 f.free, fresh-kept D s.graph t s.history.stores s.thread.present slot f.kept h.0 f.free t s.thread.present h.1)

-- a load by an ordering
pub stands-loaded : (D : ℕ → Type 0) (t : ℕ) (s : Scene) (k : ℕ) (order : Ordering) → Stands D t s → Stands D t (scene_loaded s k order)
stands-loaded D t s k order h = ⊎_elim
    (λ e. rw e (apart-more D (record { after = s.thread.present ∷ k ∷ []; raises = None }) s.graph s.history.stores h.0, fresh-acquired D s.graph s.history.stores t s.thread.present k h.0 h.1))
    (λ e. rw e h)
    (cases_Bool (is_acquire order))

pub touched-first : (t a : ℕ) → t < 5 → touch_of (record { value = 0; order = 0; sync = 0; seq_cst = false; touched = touch untouched t a }) t ≡ Some a
touched-first zero a l = refl
touched-first (suc zero) a l = refl
touched-first (suc (suc zero)) a l = refl
touched-first (suc (suc (suc zero))) a l = refl
touched-first (suc (suc (suc (suc zero)))) a l = refl
touched-first (suc (suc (suc (suc (suc t))))) a l = absurd (omega arith)

-- what a store's synchronization point adds
pub made-grown : (t : ℕ) (s : Scene) (value : ℕ) (copied : Option ℕ) (order : Ordering) → GrownBy t (graph_with_order s.graph s.history.stores s.thread) (scene_made t s value copied order).graph
made-grown t s value copied order = quiet _ (started-grown t (graph_with_order s.graph s.history.stores s.thread) copied)

-- the store that is made
abbrev pub new_store : ℕ → Scene → ℕ → Option ℕ → Ordering → StorePoints
new_store t s value copied order = record { value = value; order = length s.graph; sync = length (graph_with_start (graph_with_order s.graph s.history.stores s.thread) copied); seq_cst = is_seq_cst order; touched = touch untouched t s.thread.present }

-- making a store
pub apart-stored : (D : ℕ → Type 0) (t : ℕ) (s : Scene) (value : ℕ) (copied : Option ℕ) (order : Ordering) → Stands D t s → AreApart D (scene_made t s value copied order).graph (scene_made t s value copied order).history.stores
apart-stored D t s value copied order h =
    apart-extends D (graph_with_order s.graph s.history.stores s.thread) (scene_made t s value copied order).graph (scene_made t s value copied order).history.stores (extends-grown (made-grown t s value copied order))
    (apart-made D s.graph s.history.stores t s.thread.present (new_store t s value copied order) h.0 h.1 refl (touched-first t s.thread.present h.1.thread))

pub apart-created : (D : ℕ → Type 0) → ((number : ℕ) → D number → ⊥) → (t : ℕ) (g : Graph) (p : ThreadPoints) (value : ℕ) → t < 5 → p.present < length g → AreApart D (new_step t g p value).graph (new_step t g p value).history.stores
apart-created D none t g p value l b =
    let s : Scene = record { graph = g; thread = p; history = record { stores = []; loads = []; stored = []; unsync_loads = []; mutations = p.present ∷ []; mutating = false } } in
    apart-extends D (graph_with_order g [] p) (new_step t g p value).graph (new_step t g p value).history.stores (extends-grown (made-grown t s value None Release))
    (apart-first D none g t p.present (new_store t s value None Release) l b refl (touched-first t p.present l))

-- a value is put into the newest store
module _ (D : ℕ → Type 0) (g : Graph) (stores : List StorePoints) (value : ℕ) (p : AreApart D g stores) where
  abbrev written : StorePoints
  written = record (get_or stores (length stores - 1) blank) { value = value }

  abbrev all : List StorePoints
  all = with_newest stores value

  as_many : length all ≡ length stores
  as_many = length-set stores (length stores - 1) written

  kept-before : (i : ℕ) → IsKept all i → IsKept stores i
  kept-before i q = (q.0, subst (λ n. i < n) as_many q.1)

  at-number : (m : ℕ) → m < length stores → ((get_or all m blank).order ≡ (get_or stores m blank).order) × ((get_or all m blank).touched ≡ (get_or stores m blank).touched)
  at-number m l = ⊎_elim
      (λ e. let d : get_or all m blank ≡ written = rw e (get_or-set_same stores (length stores - 1) written blank (omega arith)) in
      (ap (λ (store : StorePoints). store.order) d ∙ ap (λ k. (get_or stores k blank).order) (sym e), ap (λ (store : StorePoints). store.touched) d ∙ ap (λ k. (get_or stores k blank).touched) (sym e)))
      (λ n. let d : get_or all m blank ≡ get_or stores m blank = get_or-set_other stores (length stores - 1) m written blank n in
      (ap (λ (store : StorePoints). store.order) d, ap (λ (store : StorePoints). store.touched) d))
      (cases_eq m (length stores - 1))

  same-order : (i : ℕ) → IsKept all i → (in_slot all i).order ≡ (in_slot stores i).order
  same-order i q = ap (λ n. (get_or all (number_in_slot n i) blank).order) as_many ∙ (at-number (number_in_slot (length stores) i) (number-bound (length stores) i (kept-before i q).1)).0

  same-touched : (i : ℕ) → IsKept all i → (in_slot all i).touched ≡ (in_slot stores i).touched
  same-touched i q = ap (λ n. (get_or all (number_in_slot n i) blank).touched) as_many ∙ (at-number (number_in_slot (length stores) i) (number-bound (length stores) i (kept-before i q).1)).1

  same-view : (i x : ℕ) → IsKept all i → reaches g x (in_slot all i).order ≡ reaches g x (in_slot stores i).order
  same-view i x q = ap (λ k. reaches g x k) (same-order i q)

  own-same : (i : ℕ) → IsKept all i → (o : Option ℕ) → Holds o (View g stores i) → Holds o (View g all i)
  own-same i q None h = tt
  own-same i q (Some x) h = same-view i x q ∙ h

  kept-after : (i : ℕ) → IsKept stores i → IsKept all i
  kept-after i q = (q.0, subst (λ n. i < n) (sym as_many) q.1)

  under-newest : (number : ℕ) → IsUnder g stores number → IsUnder g all number
  under-newest number u = record {
    low = u.low;
    high = u.high;
    low_kept = kept-after u.low u.low_kept;
    high_kept = kept-after u.high u.high_kept;
    is = ap (λ n. number_in_slot n u.low) as_many ∙ u.is;
    newer = subst (λ n. number < number_in_slot n u.high) (sym as_many) u.newer;
    inner = ap (λ k. inside g k (in_slot all u.high).order) (same-order u.low (kept-after u.low u.low_kept)) ∙ ap (λ k. inside g (in_slot stores u.low).order k) (same-order u.high (kept-after u.high u.high_kept)) ∙ u.inner;
  }

  pub apart-newest : AreApart D g all
  apart-newest = record {
    author = p.author;
    point = p.point;
    authored = record {
      thread = λ i q. p.authored.thread i (kept-before i q);
      there = λ i q. p.authored.there i (kept-before i q);
      touch = λ i q. ap (λ ts. get_or ts (p.author i) None) (same-touched i q) ∙ p.authored.touch i (kept-before i q);
      made = λ i q. subst (λ k. k < length g) (sym (same-order i q)) (p.authored.made i (kept-before i q));
      own = λ i q. own-same i q (mark_of g p.author p.point i) (p.authored.own i (kept-before i q));
    };
    ranked = ranked-same (Raising g) (Raising g) (IsKept stores) (IsKept all) (mark_of g p.author p.point) (mark_of g p.author p.point) (View g stores) (View g all) p.ranked (record {
      kept = kept-before;
      marks = λ i q. refl;
      stays = λ i x q h. sym (same-view i x q) ∙ h;
      stood = λ i x q h. same-view i x q ∙ h;
      raising = λ x r. r;
      raised = λ i x q r h. r;
    });
    passed = λ number d. let q = p.passed number d in record {
      made = subst (λ n. number < n) (sym as_many) q.made;
      under = λ l. under-newest number (q.under (subst (λ n. n ≤ number + 7) as_many l));
    };
  }

-- of two kept stores whose orders are apart, not each one's is inside the other's
pub apart-differ : (D : ℕ → Type 0) (g : Graph) (stores : List StorePoints) (i j : ℕ) → AreApart D g stores → IsKept stores i → IsKept stores j → i ≢ j → has_same_order_in_slot g stores i j ≡ false
unfolding has_same_order
apart-differ D g stores i j p k l n = false_from_ne_true (inside g a b && inside g b a) (λ h. let q = and_parts (inside g a b) (inside g b a) h in p.ranked.apart i j k l n (carried i j k q.0) (carried j i l q.1))
  where
    a : ℕ
    a = (in_slot stores i).order

    b : ℕ
    b = (in_slot stores j).order

    carried : (m o : ℕ) → IsKept stores m → inside g (in_slot stores m).order (in_slot stores o).order ≡ true → Holds (mark_of g p.author p.point m) (View g stores o)
    carried m o q e = holds-inside (Raising g) (mark_of g p.author p.point m) (View g stores m) (View g stores o) (λ x f. p.ranked.marked m x q f) (λ x r h. inside-gives g (in_slot stores m).order (in_slot stores o).order x e r h) (p.authored.own m q)

-- so no choice fails by equal orders
pub never-fails : (D : ℕ → Type 0) (g : Graph) (t : ℕ) (o : ThreadPoints) (reader : Reader) (stores : List StorePoints) → AreApart D g stores → fails_by_orders g t o reader stores ≡ false
never-fails D g t o reader stores p = any_upto-none (has_equal_order_at (has_same_order_in_slot g stores) (drops_in_slot g t o reader stores) (length stores)) (min (length stores) 7) (λ i l.
    any_upto-none (has_order_of (has_same_order_in_slot g stores) (drops_in_slot g t o reader stores) i) (min (length stores) 7) (λ j m. none i j l m))
  where
    differ : (i j : ℕ) → i < min (length stores) 7 → j < min (length stores) 7 → (not (i == j) && has_same_order_in_slot g stores i j) ≡ false
    differ i j l m = ⊎_elim
        (λ e. ap (λ b. not b && has_same_order_in_slot g stores i j) (eq-eqb i j e))
        (λ n. ap (λ b. not (i == j) && b) (apart-differ D g stores i j p (omega arith, omega arith) (omega arith, omega arith) n) ∙ neither (not (i == j)))
        (cases_eq i j)
      where
        neither : (b : Bool) → (b && false) ≡ false
        neither true = refl
        neither false = refl

    none : (i j : ℕ) → i < min (length stores) 7 → j < min (length stores) 7 → has_order_of (has_same_order_in_slot g stores) (drops_in_slot g t o reader stores) i j ≡ false
    none i j l m = ap (λ b. b && not (list_any (drops_in_slot g t o reader stores i) (upto j))) (differ i j l m)
