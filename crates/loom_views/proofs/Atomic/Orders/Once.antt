-- In a run no two read-modify-writes of an atomic that succeed read the same store.
use Rattle.std.proofs.Common.{suc, ◌≡◌, ◌≢◌, ℕ, ◌+◌, ◌%◌, ◌<◌, ◌≤◌, true, false, not, min, List, [], ◌∷◌, ◌++◌, length, refl, ap, sym, ◌∙◌, arith, subst, ⊎_elim, Option, Some, None, Ok}
use Rattle.std.specs.Prelude.{IfOk, slice_set}
use Rattle.std.specs.List.{slice_get, list_any, AllByRecursion}
use Rattle.std.specs.declared.sync.atomic.Ordering.{Ordering}
use Rattle.std.proofs.lemmas.Bool.{cases_Bool, cases_eq, and_from, or_right, true≢false, false_from_ne_true, not-true}
use Rattle.std.proofs.lemmas.Option.{slice_get_within}
use Rattle.loom_views.specs.declared.rt.atomic.reader.Reader.TheVariants.{Update}
use Rattle.loom_views.specs.Graph.{Graph, reaches, raised, inside, moved, IsPresent}
use Rattle.loom_views.specs.Orderings.{is_acquire}
use Rattle.loom_views.specs.ThreadViews.{ThreadPoints, with_present, graph_after_raise}
use Rattle.loom_views.specs.Atomic.Slots.{slots, number_in_slot}
use Rattle.loom_views.specs.Atomic.History.{StorePoints, History, Scene, in_slot, last_raised, touch_of, is_seen, is_below, has_same_order, has_same_order_in_slot, drops, drops_in_slot, readable, seen_orders, graph_with_order, scene_read, scene_loaded, scene_made, graph_after_read, stores_after_read, slots_above, scene_recorded_load, scene_recorded_store, update_read_step, update_write_step}
use Rattle.loom_views.specs.Views.{Place, Meets, Keeps, Records, Points, Accessed, readable_by, has_slot, with_thread, scene_of, points_after_raise, points_after_update_read, points_after_update_write}
use Rattle.loom_views.specs.Laws.Moves.{Moves, acquire, release, join, yielding, spawn, fence, new_point, new_stamp, stamp, release_to_stamp, acquire_from_stamp, new_atomic, load, store, update, update_fail, unsync_load, with_mut, with_mut_end, new_cell, begin_read, end_read, begin_write, end_write}
use Rattle.loom_views.specs.Laws.Orders.{MayRead, ReadsReadable, number_kept, UpdatesFrom, OnceLaw}
use Rattle.loom_views.proofs.Views.Reaching.{reaches-itself}
use Rattle.loom_views.proofs.Views.Views.{reaching-inside, present-new}
use Rattle.loom_views.proofs.Views.Growth.{GrownBy, same, quiet, grown-joined, present-grown}
use Rattle.loom_views.proofs.Atomic.Growth.{raised-grown, read-length}
use Rattle.loom_views.proofs.Atomic.Loops.{any_upto-hit}
use Rattle.loom_views.proofs.Atomic.Reaching.Order.{all-at}
use Rattle.loom_views.proofs.Atomic.SlotNumbers.{number-bound, number-late, number-apart, number-new, number-old}
use Rattle.loom_views.proofs.Atomic.SlotSets.{has-below}
use Rattle.loom_views.proofs.Atomic.Table.Lists.{get-set_same}
use Rattle.loom_views.proofs.Atomic.Reaching.Raising.{extends-grown, Raised, raise-leads}
use Rattle.loom_views.proofs.Atomic.Reaching.Beginning.{if-passed, if-room}
use Rattle.loom_views.proofs.Atomic.Reaching.Moving.{from-ok, access-if}
use Rattle.loom_views.proofs.Atomic.Orders.Sets.{Holds}
use Rattle.loom_views.proofs.Atomic.Orders.Points.{IsKept, IsUnder, IsPassed, AreApart, Fresh, sooner, find-among, seen-by, apart-extends}
use Rattle.loom_views.proofs.Atomic.Orders.Reading.{seen-in, read-touched}
use Rattle.loom_views.proofs.Atomic.Orders.Making.{stays-old, apart-made, all-length, in-old, view-new}
use Rattle.loom_views.proofs.Atomic.Orders.Steps.{Stands, stands-loaded, apart-differ, made-grown, new_store, touched-first}
use Rattle.loom_views.proofs.Atomic.Orders.Moving.{Nothing, PlaceApart, Sound, JustRaised, apart-at, first, read-first, chosen-free, chosen-among, move-sound, leads-on, leads-sound}
use Rattle.loom_views.proofs.Atomic.Orders.Whole.{Whole, five-at, leads-whole, present-at, stores-in}

-- a read-modify-write that succeeds
record Updated (p q : Points) (n number : ℕ) : Type 0 where
  t : ℕ
  slot : ℕ
  value : ℕ
  order : Ordering
  raised : Points
  read : Accessed
  after : Accessed
  raises : points_after_raise p t ≡ Ok raised
  reads : points_after_update_read raised t n slot ≡ Ok read
  writes : points_after_update_write read.points t n slot value order ≡ Ok after
  to : q ≡ after.points
  may : MayRead raised t n Update slot
  is : number_kept (slice_get raised.places n) slot ≡ Some number

updated-of : (p q : Points) (m : Moves p q) (n number : ℕ) → ReadsReadable p q m → UpdatesFrom p q m n number → Updated p q n number
updated-of p _ (acquire t m) n number k u = absurd u
updated-of p _ (release t m order) n number k u = absurd u
updated-of p _ (join t w) n number k u = absurd u
updated-of p _ (yielding t) n number k u = absurd u
updated-of p _ (spawn t after e) n number k u = absurd u
updated-of p _ (fence t order raised e) n number k u = absurd u
updated-of p _ new_point n number k u = absurd u
updated-of p _ new_stamp n number k u = absurd u
updated-of p _ (stamp m w) n number k u = absurd u
updated-of p _ (release_to_stamp t m order) n number k u = absurd u
updated-of p _ (acquire_from_stamp t m) n number k u = absurd u
updated-of p _ (new_atomic t value) n number k u = absurd u
updated-of p _ (load t m slot order raised after d e) n number k u = absurd u
updated-of p _ (store t m value order raised after d e) n number k u = absurd u
updated-of p _ (update t m slot value order raised read after c d e) n number k u = subst (λ w. Updated p after.points w number) u.0 (record { t = t; slot = slot; value = value; order = order; raised = raised; read = read; after = after; raises = c; reads = d; writes = e; to = refl; may = k; is = u.1 })
updated-of p _ (update_fail t m slot order raised read c d) n number k u = absurd u
updated-of p _ (unsync_load t m after e) n number k u = absurd u
updated-of p _ (with_mut t m after e) n number k u = absurd u
updated-of p _ (with_mut_end t m value after e) n number k u = absurd u
updated-of p _ (new_cell t) n number k u = absurd u
updated-of p _ (begin_read t m raised after d e) n number k u = absurd u
updated-of p _ (end_read t m after e) n number k u = absurd u
updated-of p _ (begin_write t m raised after d e) n number k u = absurd u
updated-of p _ (end_write t m after e) n number k u = absurd u

-- a read-modify-write may choose no slot whose store is below a kept one
undropped : (g : Graph) (t : ℕ) (o : ThreadPoints) (stores : List StorePoints) (slot : ℕ) → IsKept stores slot → has_slot (readable g t o Update stores) slot ≡ true → (k : ℕ) → IsKept stores k → is_below g (in_slot stores slot) (in_slot stores k) ≡ false
unfolding drops
undropped g t o stores slot kept h k q = false_from_ne_true (is_below g (in_slot stores slot) (in_slot stores k)) (λ e. true≢false
    (sym (any_upto-hit (drops_in_slot g t o Update stores slot) (min (length stores) 7) k (let u = q.0 in let w = q.1 in omega arith) e) ∙ not-true (list_any (drops_in_slot g t o Update stores slot) (slots (length stores))) passes))
  where
    passes : not (list_any (drops_in_slot g t o Update stores slot) (slots (length stores))) ≡ true
    passes = sym (has-below (λ i. not (list_any (drops_in_slot g t o Update stores i) (slots (length stores)))) (min (length stores) 7) slot (let u = kept.0 in let w = kept.1 in omega arith)) ∙ h

below-from : (g : Graph) (i j : StorePoints) → inside g i.order j.order ≡ true → inside g j.order i.order ≡ false → is_below g i j ≡ true
unfolding is_below
below-from g i j a b = and_from (inside g i.order j.order) (not (inside g j.order i.order)) a (ap not b)

one-way : (g : Graph) (stores : List StorePoints) (i j : ℕ) → has_same_order_in_slot g stores i j ≡ false → inside g (in_slot stores i).order (in_slot stores j).order ≡ true → inside g (in_slot stores j).order (in_slot stores i).order ≡ false
unfolding has_same_order
one-way g stores i j e a = false_from_ne_true (inside g (in_slot stores j).order (in_slot stores i).order) (λ b. true≢false (sym (and_from (inside g (in_slot stores i).order (in_slot stores j).order) (inside g (in_slot stores j).order (in_slot stores i).order) a b) ∙ e))

-- a store that has been passed isn't read again
passed-unread : (D : ℕ → Type 0) (g : Graph) (t : ℕ) (o : ThreadPoints) (stores : List StorePoints) (slot : ℕ) → AreApart D g stores → IsKept stores slot → D (number_in_slot (length stores) slot) → has_slot (readable g t o Update stores) slot ≡ true → ⊥
passed-unread D g t o stores slot p kept d h = met ((p.passed number d).under (number-late (length stores) slot kept.1))
  where
    number : ℕ
    number = number_in_slot (length stores) slot

    met : IsUnder g stores number → ⊥
    met u = true≢false (sym (below-from g (in_slot stores slot) (in_slot stores u.high) inner (one-way g stores slot u.high (apart-differ D g stores slot u.high p kept u.high_kept other) inner)) ∙ undropped g t o stores slot kept h u.high u.high_kept)
      where
        same : u.low ≡ slot
        same = ⊎_elim (λ e. e) (λ n. absurd (number-apart (length stores) u.low slot u.low_kept.0 kept.0 n u.is)) (cases_eq u.low slot)

        inner : inside g (in_slot stores slot).order (in_slot stores u.high).order ≡ true
        inner = subst (λ i. inside g (in_slot stores i).order (in_slot stores u.high).order ≡ true) same u.inner

        other : slot ≢ u.high
        other e = let n = subst (λ i. number < number_in_slot (length stores) i) (sym e) u.newer in omega arith

-- thread t touched the store in a slot, and all that it raised has come to its present point
record Touched (g : Graph) (stores : List StorePoints) (t a slot : ℕ) : Type 0 where
  kept : IsKept stores slot
  at : ℕ
  touch : touch_of (in_slot stores slot) t ≡ Some at
  present : IsPresent g t a

present-all : (g : Graph) (t k : ℕ) → IsPresent g t k → AllByRecursion (λ i. reaches g i k ≡ true) (raised g t)
unfolding IsPresent
present-all g t k h = h

touched-seen : (g : Graph) (stores : List StorePoints) (t a slot : ℕ) → t < 5 → Touched g stores t a slot → is_seen g (in_slot stores slot) a ≡ true
touched-seen g stores t a slot l h = seen-by g (in_slot stores slot) t h.at a l h.touch (come (last_raised g t h.at) refl)
  where
    come : (o : Option ℕ) → last_raised g t h.at ≡ o → Holds o (λ x. reaches g x a ≡ true)
    come None e = tt
    come (Some x) e = all-at (λ i. reaches g i a ≡ true) (raised g t) x (present-all g t a h.present) (find-among (λ i. reaches g i h.at) x (raised g t) e)

-- it acquires
touched-loaded : (t : ℕ) (s : Scene) (k : ℕ) (order : Ordering) (slot : ℕ) → Touched s.graph s.history.stores t s.thread.present slot → Touched (scene_loaded s k order).graph (scene_loaded s k order).history.stores t (scene_loaded s k order).thread.present slot
touched-loaded t s k order slot h = ⊎_elim
    (λ e. rw e (record { kept = h.kept; at = h.at; touch = h.touch; present = present-new (k ∷ []) None s.graph t s.thread.present h.present }))
    (λ e. rw e h)
    (cases_Bool (is_acquire order))

-- other stores have been passed
marked : (D E : ℕ → Type 0) (g : Graph) (stores : List StorePoints) → AreApart D g stores → ((number : ℕ) → E number → IsPassed g stores number) → AreApart E g stores
marked D E g stores p h = record { author = p.author; point = p.point; authored = p.authored; ranked = p.ranked; passed = h }

-- a store that is made once the thread has touched another passes that one
module _ (D : ℕ → Type 0) (g : Graph) (stores : List StorePoints) (t a : ℕ) (made : StorePoints) (p : AreApart D g stores) (f : Fresh g stores t a)
    (order : made.order ≡ length g) (touched : touch_of made t ≡ Some a) (slot : ℕ) (h : Touched g stores t a slot) where
  abbrev all : List StorePoints
  all = stores ++ made ∷ []

  abbrev after : Graph
  after = moved g (a ∷ seen_orders g stores a None)

  abbrev number : ℕ
  number = number_in_slot (length stores) slot

  many : length all ≡ suc (length stores)
  many = all-length D g stores t a made p f order touched

  grown-kept : (i : ℕ) → IsKept stores i → IsKept all i
  grown-kept i q = (q.0, subst (λ m. i < m) (sym many) (sooner i (length stores) q.1))

  new-kept : IsKept all (length stores % 7)
  new-kept = (omega arith, subst (λ m. length stores % 7 < m) (sym many) (omega arith))

  reaching : reaches after (in_slot stores slot).order (in_slot all (length stores % 7)).order ≡ true
  reaching = view-new D g stores t a made p f order touched (length stores % 7) (in_slot stores slot).order refl (p.authored.made slot h.kept)
      ∙ or_right (reaches g (in_slot stores slot).order a) (list_any (λ m. reaches g (in_slot stores slot).order m) (seen_orders g stores a None))
      (seen-in g stores a None slot (in_slot stores slot).order h.kept (touched-seen g stores t a slot f.thread h) (reaches-itself g (in_slot stores slot).order (p.authored.made slot h.kept)))

  under-new : suc (length stores) ≤ number + 7 → IsUnder after all number
  under-new l = record {
    low = slot;
    high = length stores % 7;
    low_kept = grown-kept slot h.kept;
    high_kept = new-kept;
    is = ap (λ n. number_in_slot n slot) many ∙ number-old (length stores) slot h.kept.0 h.kept.1 apart;
    newer = subst (λ n. number < n) (sym (ap (λ n. number_in_slot n (length stores % 7)) many ∙ number-new (length stores))) (number-bound (length stores) slot h.kept.1);
    inner = ap (λ k. inside after k (in_slot all (length stores % 7)).order) (ap (λ (other : StorePoints). other.order) (in-old D g stores t a made p f order touched slot apart (grown-kept slot h.kept))) ∙ reaching-inside after (in_slot stores slot).order (in_slot all (length stores % 7)).order reaching;
  }
    where
      apart : slot ≢ length stores % 7
      apart = stays-old (length stores) slot h.kept.0 h.kept.1 l

  passed-made : IsPassed after all number
  passed-made = record {
    made = subst (λ n. number < n) (sym many) (sooner number (length stores) (number-bound (length stores) slot h.kept.1));
    under = λ l. under-new (subst (λ n. n ≤ number + 7) many l);
  }

  apart-passed : AreApart (λ m. m ≡ number) after all
  apart-passed = marked D (λ m. m ≡ number) after all (apart-made D g stores t a made p f order touched) (λ m e. subst (IsPassed after all) (sym e) passed-made)

-- what a store of a read-modify-write passes
stored-passed : (D : ℕ → Type 0) (t : ℕ) (s : Scene) (value : ℕ) (copied : Option ℕ) (order : Ordering) (slot : ℕ) → Stands D t s → Touched s.graph s.history.stores t s.thread.present slot → IsPassed (scene_made t s value copied order).graph (scene_made t s value copied order).history.stores (number_in_slot (length s.history.stores) slot)
stored-passed D t s value copied order slot h k =
    let all = apart-extends (λ m. m ≡ number_in_slot (length s.history.stores) slot) (graph_with_order s.graph s.history.stores s.thread) (scene_made t s value copied order).graph (scene_made t s value copied order).history.stores (extends-grown (made-grown t s value copied order))
    (apart-passed D s.graph s.history.stores t s.thread.present (new_store t s value copied order) h.0 h.1 refl (touched-first t s.thread.present h.1.thread) slot k) in
    all.passed (number_in_slot (length s.history.stores) slot) refl

-- thread t has touched the store of this number of atomic n
abbrev TouchedAt : Points → ℕ → ℕ → ℕ → ℕ → Type 0
TouchedAt p t n slot number = (own : ThreadPoints) (history : History) → slice_get p.threads t ≡ Some own → slice_get p.places n ≡ Some (Keeps history) → Touched p.graph history.stores t own.present slot × (number_in_slot (length history.stores) slot ≡ number)

-- the store of this number of atomic n has been passed
record PassedAt (p : Points) (n number : ℕ) : Type 0 where
  history : History
  is : slice_get p.places n ≡ Some (Keeps history)
  passed : IsPassed p.graph history.stores number

abbrev PresentAt : Points → ℕ → Type 0
PresentAt p t = (own : ThreadPoints) → slice_get p.threads t ≡ Some own → IsPresent p.graph t own.present

abbrev FiveAt : Points → ℕ → ℕ → Type 0
FiveAt p n slot = (history : History) → slice_get p.places n ≡ Some (Keeps history) → IsKept history.stores slot → length (in_slot history.stores slot).touched ≡ 5

keeps-same : (a b : History) → ◌≡◌ {A = Option Place} (Some (Keeps a)) (Some (Keeps b)) → a ≡ b
keeps-same a b q = cc

numbered : (p : Points) (n slot number : ℕ) (history : History) → slice_get p.places n ≡ Some (Keeps history) → number_kept (slice_get p.places n) slot ≡ Some number → number_in_slot (length history.stores) slot ≡ number
numbered p n slot number history e is = one (sym (ap (λ o. number_kept o slot) e) ∙ is)
  where
    one : Some (number_in_slot (length history.stores) slot) ≡ Some number → number_in_slot (length history.stores) slot ≡ number
    one q = cc

-- a thread raises and reads for a read-modify-write
module _ (p raised : Points) (t n slot number : ℕ) (sound : Sound Nothing p) (z : Whole p) (e : points_after_raise p t ≡ Ok raised) (may : MayRead raised t n Update slot) (is : number_kept (slice_get raised.places n) slot ≡ Some number) where
  raised-sound : Sound Nothing raised
  raised-sound = first Nothing p raised t sound e

  led : Raised p raised t
  led = raise-leads p raised t e

  in-five : t < 5
  in-five = let a = led.there in let b = sound.five in omega arith

  present-raised : PresentAt raised t
  present-raised = rw led.to at
    where
      new : ThreadPoints
      new = with_present p.graph led.own

      at : PresentAt (with_thread p t (graph_after_raise p.graph led.own t) new) t
      at own d =
          let there : slice_get (slice_set p.threads t new) t ≡ Some new = get-set_same p.threads t new led.there in
          let same_one : own ≡ new = cc in
          rw same_one (present-new [] (Some t) p.graph t led.own.present (present-at p z t led.own led.is))

  five-raised : FiveAt raised n slot
  five-raised = rw led.to at
    where
      at : FiveAt (with_thread p t (graph_after_raise p.graph led.own t) (with_present p.graph led.own)) n slot
      at history d k = five-at history.stores (number_in_slot (length history.stores) slot) (number-bound (length history.stores) slot k.1) (stores-in p z n history d).1

  touched-read : (own : ThreadPoints) (history : History) → slice_get raised.threads t ≡ Some own → slice_get raised.places n ≡ Some (Keeps history) → Touched (scene_read t (scene_recorded_load (scene_of raised own history)) slot).graph (scene_read t (scene_recorded_load (scene_of raised own history)) slot).history.stores t own.present slot
  touched-read own history d q =
      let free = chosen-free raised t n Update slot own history d q may in
      let touch = read-touched (Nothing n) raised.graph t history.stores own.present slot free.kept (apart-at Nothing raised raised-sound n history q) free.free (subst (λ m. t < m) (sym (five-raised history q free.kept)) in-five) in
      record {
        kept = (free.kept.0, subst (λ m. slot < m) (sym (read-length t (scene_recorded_load (scene_of raised own history)) slot)) free.kept.1);
        at = touch.0;
        touch = touch.1;
        present = present-grown (quiet_grown own history) t own.present (λ w. let l = in-five in omega arith) (present-raised own d);
      }
    where
      quiet_grown : (own : ThreadPoints) (history : History) → GrownBy 5 raised.graph (scene_read t (scene_recorded_load (scene_of raised own history)) slot).graph
      quiet_grown own history = grown-joined (quiet _ same) (raised-grown 5 (length raised.graph) (record { graph = graph_after_read raised.graph history.stores own.present slot; stores = stores_after_read raised.graph t history.stores own.present slot }) (slots_above raised.graph history.stores slot))

  read-touches : IfOk (points_after_update_read raised t n slot) (λ after. TouchedAt after.points t n slot number)
  read-touches = access-if raised raised-sound.five (λ after. TouchedAt after.points t n slot number) t n (λ s. update_read_step t s slot) (λ own history d q.
      let s = scene_of raised own history in
      let last = scene_read t (scene_recorded_load s) slot in
      let there : slice_get (slice_set raised.threads t own) t ≡ Some own = get-set_same raised.threads t own (slice_get_within raised.threads t own d) in
      let stood : slice_get (slice_set raised.places n (Keeps last.history)) n ≡ Some (Keeps last.history) = get-set_same raised.places n (Keeps last.history) (slice_get_within raised.places n (Keeps history) q) in
      if-passed _ s (history.mutations ∷ []) _ raised t n (λ other kept d' q'.
      let same_one : other ≡ own = cc in
      let same_history : kept ≡ last.history = keeps-same kept last.history (sym q' ∙ stood) in
      rw (same_one, same_history) (touched-read own history d q, ap (λ m. number_in_slot m slot) (read-length t (scene_recorded_load s) slot) ∙ numbered raised n slot number history q is)))

-- and writes
write-passes : (p : Points) (t n slot number value : ℕ) (order : Ordering) → Sound Nothing p → JustRaised p t n → TouchedAt p t n slot number → IfOk (points_after_update_write p t n slot value order) (λ after. PassedAt after.points n number)
write-passes p t n slot number value order h f touches = access-if p h.five (λ after. PassedAt after.points n number) t n (λ s. update_write_step t s slot value order) (λ own history d e.
    let s = scene_of p own history in
    let sync = (in_slot history.stores slot).sync in
    let loaded = scene_loaded (scene_recorded_store s) sync order in
    let last = scene_made t loaded value (Some sync) order in
    let before = touches own history d e in
    let stands = stands-loaded (Nothing n) t (scene_recorded_store s) sync order (apart-at Nothing p h n history e, f own history d e) in
    let stood : slice_get (slice_set p.places n (Keeps last.history)) n ≡ Some (Keeps last.history) = get-set_same p.places n (Keeps last.history) (slice_get_within p.places n (Keeps history) e) in
    if-passed _ s (history.mutations ∷ history.unsync_loads ∷ []) _ p t n (if-room _ s _ p t n (record {
      history = last.history;
      is = stood;
      passed = subst (IsPassed last.graph last.history.stores) before.1 (stored-passed (Nothing n) t loaded value (Some sync) order slot stands (touched-loaded t (scene_recorded_store s) sync order slot before.0));
    })))

-- the one store of the one atomic
abbrev OneStore : ℕ → ℕ → ℕ → ℕ → Type 0
OneStore n number m k = (m ≡ n) × (k ≡ number)

-- that it has been passed is kept from there on
sound-passed : (p : Points) (n number : ℕ) → Sound Nothing p → PassedAt p n number → Sound (OneStore n number) p
sound-passed p n number h a = record { five = h.five; there = h.there; apart = λ m. at m (slice_get p.places m) refl (h.apart m) }
  where
    another : (m : ℕ) (o : Option Place) → slice_get p.places m ≡ o → ((history : History) → o ≡ Some (Keeps history) → ⊥) → m ≡ n → ⊥
    another m o e d w = d a.history (sym e ∙ ap (slice_get p.places) w ∙ a.is)

    at : (m : ℕ) (o : Option Place) → slice_get p.places m ≡ o → PlaceApart Nothing p.graph m o → PlaceApart (OneStore n number) p.graph m o
    at m None e q = λ k d. another m None e (λ history w. cc) d.0
    at m (Some (Meets j)) e q = λ k d. another m (Some (Meets j)) e (λ history w. cc) d.0
    at m (Some (Records cell)) e q = λ k d. another m (Some (Records cell)) e (λ history w. cc) d.0
    at m (Some (Keeps history)) e q = marked (Nothing m) (OneStore n number m) p.graph history.stores q (λ k d.
        let one : a.history ≡ history = keeps-same a.history history (sym a.is ∙ ap (slice_get p.places) (sym d.0) ∙ e) in
        subst (IsPassed p.graph history.stores) (sym d.1) (subst (λ (kept : History). IsPassed p.graph kept.stores number) one a.passed))

-- what a read-modify-write that succeeds leaves
updated-passed : (p q : Points) (n number : ℕ) → Sound Nothing p → Whole p → (a : Updated p q n number) → PassedAt q n number
updated-passed p q n number h z a =
    let k = read-first Nothing p a.raised a.t h a.raises n a.slot a.read a.may a.reads in
    let touches = from-ok (λ (after : Accessed). TouchedAt after.points a.t n a.slot number) (points_after_update_read a.raised a.t n a.slot) a.read a.reads (read-touches p a.raised a.t n a.slot number h z a.raises a.may a.is) in
    rw a.to (from-ok (λ (after : Accessed). PassedAt after.points n number) (points_after_update_write a.read.points a.t n a.slot a.value a.order) a.after a.writes (write-passes a.read.points a.t n a.slot number a.value a.order k.0 k.1 touches))

-- and a store that has been passed it doesn't read
unread : (p q : Points) (n number : ℕ) → Sound (OneStore n number) p → Updated p q n number → ⊥
unread p q n number h a = go (slice_get a.raised.threads a.t) (slice_get a.raised.places n) refl refl a.may.offered a.is
  where
    go : (o : Option ThreadPoints) (w : Option Place) → slice_get a.raised.threads a.t ≡ o → slice_get a.raised.places n ≡ w → readable_by a.raised a.t Update o w ≡ Ok a.may.slots → number_kept w a.slot ≡ Some number → ⊥
    go None w d e r i = cc
    go (Some own) None d e r i = cc
    go (Some own) (Some (Meets k)) d e r i = cc
    go (Some own) (Some (Records cell)) d e r i = cc
    go (Some own) (Some (Keeps history)) d e r i =
        let raised_sound = first (OneStore n number) p a.raised a.t h a.raises in
        let free = chosen-free a.raised a.t n Update a.slot own history d e a.may in
        passed-unread (OneStore n number n) a.raised.graph a.t own history.stores a.slot (apart-at (OneStore n number) a.raised raised_sound n history e) free.kept (refl, numbered a.raised n a.slot number history e a.is) (chosen-among a.raised a.t n Update a.slot own history d e a.may)

pub once_law : OnceLaw
once_law p q r s one two n number l k u on k' u' =
    let h = leads-sound p l in
    let passed = updated-passed p q n number h (leads-whole p l) (updated-of p q one n number k u) in
    unread r s n number (leads-on (OneStore n number) q r (sound-passed q n number (move-sound Nothing p q h one k) passed) on) (updated-of r s two n number k' u')
