-- Views in the order of other ones.
use Rattle.std.proofs.Common.{◌≡◌, ℕ, List, refl, ap₂, sym, ◌∙◌, Option, Some, None}
use Rattle.std.specs.Prelude.{nat_le, slice_get, slice_index_or}
use Rattle.loom_views.specs.declared.rt.atomic.State.{State}
use Rattle.loom_views.specs.declared.rt.atomic.Store.{Store}
use Rattle.loom_views.specs.declared.rt.synchronize.ThreadViews.{ThreadViews}
use Rattle.loom_views.specs.declared.rt.views.Kept.{Kept}
use Rattle.loom_views.specs.declared.rt.views.Kept.TheVariants.{Point, Atomic, Cell}
use Rattle.loom_views.specs.declared.rt.views.Views.{Views}
use Rattle.loom_views.specs.Atomic.Ring.{store_at}
use Rattle.loom_views.specs.InOrder.{IsRising, PairsVectors, PairsCounts, PairsThreads, PairsStores, PairsStates, PairsPlaces, PairsAt, PairsViews, IsInOrder}

-- ---- what is in the order of the same

-- the first counts of two pairs with the same second one
abbrev pub Through : (ℕ → ℕ → ℕ → Type 0) → (ℕ → ℕ → ℕ → Type 0) → ℕ → ℕ → ℕ → Type 0
Through R S t a b = (c : ℕ) × R t a c × S t b c

module _ (R S : ℕ → ℕ → ℕ → Type 0) where
  pub through_rising : IsRising R → IsRising S → IsRising (Through R S)
  through_rising r s t a b c d (m, e, f) (n, g, h) = r t a m c n e g ∙ sym (s t b m d n f h)

  through_vectors : (vs ws us : List ℕ) → PairsVectors R vs us → PairsVectors S ws us → PairsVectors (Through R S) vs ws
  through_vectors vs ws us e f t l = (slice_index_or us t 0, e t l, f t l)

  through_counts : (t : ℕ) (o u x : Option ℕ) → PairsCounts R t o x → PairsCounts S t u x → PairsCounts (Through R S) t o u
  through_counts t None None x e f = tt
  through_counts t None (Some b) None e f = absurd f
  through_counts t None (Some b) (Some c) e f = absurd e
  through_counts t (Some a) u None e f = absurd e
  through_counts t (Some a) None (Some c) e f = absurd f
  through_counts t (Some a) (Some b) (Some c) e f = (c, e, f)

  through_threads : (t : ℕ) (v w u : ThreadViews) → PairsThreads R t v u → PairsThreads S t w u → PairsThreads (Through R S) t v w
  through_threads t v w u e f = record {
    present = through_vectors v.present w.present u.present e.present f.present;
    released = through_vectors v.released w.released u.released e.released f.released;
    last_yield = through_counts t v.last_yield w.last_yield u.last_yield e.last_yield f.last_yield;
  }

  through_stores : (v w u : Store) → PairsStores R v u → PairsStores S w u → PairsStores (Through R S) v w
  through_stores v w u e f = record {
    value = e.value ∙ sym f.value;
    order = through_vectors v.order w.order u.order e.order f.order;
    sync = through_vectors v.sync w.sync u.sync e.sync f.sync;
    seq_cst = e.seq_cst ∙ sym f.seq_cst;
    first_seen = λ t l. through_counts t (slice_index_or v.first_seen.versions t None) (slice_index_or w.first_seen.versions t None) (slice_index_or u.first_seen.versions t None) (e.first_seen t l) (f.first_seen t l);
  }

  through_states : (v w u : State) → PairsStates R v u → PairsStates S w u → PairsStates (Through R S) v w
  through_states v w u e f = record {
    loaded_at = through_vectors v.loaded_at w.loaded_at u.loaded_at e.loaded_at f.loaded_at;
    stored_at = through_vectors v.stored_at w.stored_at u.stored_at e.stored_at f.stored_at;
    unsync_loaded_at = through_vectors v.unsync_loaded_at w.unsync_loaded_at u.unsync_loaded_at e.unsync_loaded_at f.unsync_loaded_at;
    unsync_mut_at = through_vectors v.unsync_mut_at w.unsync_mut_at u.unsync_mut_at e.unsync_mut_at f.unsync_mut_at;
    is_mutating = e.is_mutating ∙ sym f.is_mutating;
    stores = λ i l. through_stores (store_at v.stores i) (store_at w.stores i) (store_at u.stores i) (e.stores i l) (f.stores i l);
    count = e.count ∙ sym f.count;
  }

  through_places : (v w u : Kept) → PairsPlaces R v u → PairsPlaces S w u → PairsPlaces (Through R S) v w
  through_places (Point v) (Point w) (Point u) e f = through_vectors v w u e f
  through_places (Atomic v) (Atomic w) (Atomic u) e f = through_states v w u e f
  through_places (Cell v) (Cell w) (Cell u) e f = record { reads = through_vectors v.reads w.reads u.reads e.reads f.reads; writes = through_vectors v.writes w.writes u.writes e.writes f.writes }
  through_places (Point v) w (Atomic u) e f = absurd e
  through_places (Point v) w (Cell u) e f = absurd e
  through_places (Point v) (Atomic w) (Point u) e f = absurd f
  through_places (Point v) (Cell w) (Point u) e f = absurd f
  through_places (Atomic v) w (Point u) e f = absurd e
  through_places (Atomic v) w (Cell u) e f = absurd e
  through_places (Atomic v) (Point w) (Atomic u) e f = absurd f
  through_places (Atomic v) (Cell w) (Atomic u) e f = absurd f
  through_places (Cell v) w (Point u) e f = absurd e
  through_places (Cell v) w (Atomic u) e f = absurd e
  through_places (Cell v) (Point w) (Cell u) e f = absurd f
  through_places (Cell v) (Atomic w) (Cell u) e f = absurd f

  through_at : {X : Type 0} (P Q T : X → X → Type 0) → ((v w u : X) → P v u → Q w u → T v w) → (v w u : Option X) → PairsAt R P v u → PairsAt S Q w u → PairsAt (Through R S) T v w
  through_at P Q T h None None u e f = tt
  through_at P Q T h None (Some w) None e f = absurd f
  through_at P Q T h None (Some w) (Some u) e f = absurd e
  through_at P Q T h (Some v) w None e f = absurd e
  through_at P Q T h (Some v) None (Some u) e f = absurd f
  through_at P Q T h (Some v) (Some w) (Some u) e f = h v w u e f

  pub through_views : (v w u : Views) → PairsViews R v u → PairsViews S w u → PairsViews (Through R S) v w
  through_views v w u e f = record {
    none = λ t l. (0, e.none t l, f.none t l);
    threads = λ t l. through_at (PairsThreads R t) (PairsThreads S t) (PairsThreads (Through R S) t) (through_threads t) (slice_get v.threads t) (slice_get w.threads t) (slice_get u.threads t) (e.threads t l) (f.threads t l);
    count = e.count ∙ sym f.count;
    places = record { count = e.places.count ∙ sym f.places.count; each = λ n. through_at (PairsPlaces R) (PairsPlaces S) (PairsPlaces (Through R S)) through_places (slice_get v.places n) (slice_get w.places n) (slice_get u.places n) (e.places.each n) (f.places.each n) };
    stamps = record { count = e.stamps.count ∙ sym f.stamps.count; each = λ m. through_at (PairsVectors R) (PairsVectors S) (PairsVectors (Through R S)) through_vectors (slice_get v.stamps m) (slice_get w.stamps m) (slice_get u.stamps m) (e.stamps.each m) (f.stamps.each m) };
    global = through_vectors v.global w.global u.global e.global f.global;
  }

-- ---- views are in their own order

module _ (R : ℕ → ℕ → ℕ → Type 0) (itself : (t a : ℕ) → R t a a) where
  counts_themselves : (t : ℕ) (o : Option ℕ) → PairsCounts R t o o
  counts_themselves t None = tt
  counts_themselves t (Some a) = itself t a

  threads_themselves : (t : ℕ) (v : ThreadViews) → PairsThreads R t v v
  threads_themselves t v = record { present = λ u l. itself u (slice_index_or v.present u 0); released = λ u l. itself u (slice_index_or v.released u 0); last_yield = counts_themselves t v.last_yield }

  stores_themselves : (v : Store) → PairsStores R v v
  stores_themselves v = record {
    value = refl;
    order = λ u l. itself u (slice_index_or v.order u 0);
    sync = λ u l. itself u (slice_index_or v.sync u 0);
    seq_cst = refl;
    first_seen = λ t l. counts_themselves t (slice_index_or v.first_seen.versions t None);
  }

  places_themselves : (v : Kept) → PairsPlaces R v v
  places_themselves (Point v) = λ u l. itself u (slice_index_or v u 0)
  places_themselves (Atomic v) = record {
    loaded_at = λ u l. itself u (slice_index_or v.loaded_at u 0);
    stored_at = λ u l. itself u (slice_index_or v.stored_at u 0);
    unsync_loaded_at = λ u l. itself u (slice_index_or v.unsync_loaded_at u 0);
    unsync_mut_at = λ u l. itself u (slice_index_or v.unsync_mut_at u 0);
    is_mutating = refl;
    stores = λ i l. stores_themselves (store_at v.stores i);
    count = refl;
  }
  places_themselves (Cell v) = record { reads = λ u l. itself u (slice_index_or v.reads u 0); writes = λ u l. itself u (slice_index_or v.writes u 0) }

  at_themselves : {X : Type 0} (P : X → X → Type 0) → ((v : X) → P v v) → (o : Option X) → PairsAt R P o o
  at_themselves P h None = tt
  at_themselves P h (Some v) = h v

  views_themselves : (v : Views) → PairsViews R v v
  views_themselves v = record {
    none = λ t l. itself t 0;
    threads = λ t l. at_themselves (PairsThreads R t) (threads_themselves t) (slice_get v.threads t);
    count = refl;
    places = record { count = refl; each = λ n. at_themselves (PairsPlaces R) places_themselves (slice_get v.places n) };
    stamps = record { count = refl; each = λ m. at_themselves (PairsVectors R) (λ vs u l. itself u (slice_index_or vs u 0)) (slice_get v.stamps m) };
    global = λ u l. itself u (slice_index_or v.global u 0);
  }

-- each count has itself for its rank
abbrev own_rank : ℕ → ℕ → Option ℕ
own_rank t a = Some a

pub in_order_itself : (v : Views) → IsInOrder v v
in_order_itself v = record {
  rank = own_rank;
  rising = λ t a b c d e f. let m : a ≡ b = cc e in let n : c ≡ d = cc f in ap₂ nat_le m n;
  views = views_themselves (λ t a b. own_rank t a ≡ Some b) (λ t a. refl) v;
}
