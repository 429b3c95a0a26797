-- Views that are others with their counts in the same order: so rules see the same of both.
use Rattle.std.specs.Prelude.{ℕ, ◌≡◌, ◌<◌, nat_le, List, [], length, slice_get, slice_index, slice_index_or, Option, Some, None, if◌then◌else◌}
use Rattle.loom_views.specs.declared.rt.atomic.State.{State}
use Rattle.loom_views.specs.declared.rt.atomic.Store.{Store}
use Rattle.loom_views.specs.declared.rt.cell.AccessRecords.{AccessRecords}
use Rattle.loom_views.specs.declared.rt.synchronize.ThreadViews.{ThreadViews}
use Rattle.loom_views.specs.declared.rt.views.Kept.{Kept}
use Rattle.loom_views.specs.declared.rt.views.Kept.TheVariants.{Point, Atomic, Cell}
use Rattle.loom_views.specs.declared.rt.views.Views.{Views}
use Rattle.loom_views.specs.Atomic.Ring.{store_at}
use Rattle.loom_views.specs.Limits.{highest_version}

-- Pairs of counts rise where for each thread, of two of them, the one has no larger first count than the other just where it has no
-- larger second one.
abbrev pub IsRising : (ℕ → ℕ → ℕ → Type 0) → Type 0
IsRising R = (t a b c d : ℕ) → R t a b → R t c d → nat_le a c ≡ nat_le b d

-- Each count of the one pairs with the count in its place in the other.
module _ (R : ℕ → ℕ → ℕ → Type 0) where
  abbrev pub PairsVectors : List ℕ → List ℕ → Type 0
  PairsVectors vs ws = (t : ℕ) → t < 5 → R t (slice_index vs t) (slice_index ws t)

  abbrev pub PairsCounts : ℕ → Option ℕ → Option ℕ → Type 0
  PairsCounts t None None = Unit {0}
  PairsCounts t None (Some b) = ⊥
  PairsCounts t (Some a) None = ⊥
  PairsCounts t (Some a) (Some b) = R t a b

  pub record PairsThreads (t : ℕ) (v w : ThreadViews) : Type 0 where
    pub present : PairsVectors v.present w.present
    pub released : PairsVectors v.released w.released
    pub last_yield : PairsCounts t v.last_yield w.last_yield

  -- of a store's first touches
  abbrev pub PairsTouches : List (Option ℕ) → List (Option ℕ) → Type 0
  PairsTouches vs ws = (t : ℕ) → t < 5 → PairsCounts t (slice_index_or vs t None) (slice_index_or ws t None)

  pub record PairsStores (v w : Store) : Type 0 where
    pub value : v.value ≡ w.value
    pub order : PairsVectors v.order w.order
    pub sync : PairsVectors v.sync w.sync
    pub seq_cst : v.seq_cst ≡ w.seq_cst
    pub first_seen : PairsTouches v.first_seen.versions w.first_seen.versions

  pub record PairsStates (v w : State) : Type 0 where
    pub loaded_at : PairsVectors v.loaded_at w.loaded_at
    pub stored_at : PairsVectors v.stored_at w.stored_at
    pub unsync_loaded_at : PairsVectors v.unsync_loaded_at w.unsync_loaded_at
    pub unsync_mut_at : PairsVectors v.unsync_mut_at w.unsync_mut_at
    pub is_mutating : v.is_mutating ≡ w.is_mutating
    pub stores : (i : ℕ) → i < 7 → PairsStores (store_at v.stores i) (store_at w.stores i)
    pub count : v.count ≡ w.count

  pub record PairsRecords (v w : AccessRecords) : Type 0 where
    pub reads : PairsVectors v.reads w.reads
    pub writes : PairsVectors v.writes w.writes

  abbrev pub PairsPlaces : Kept → Kept → Type 0
  PairsPlaces (Point v) (Point w) = PairsVectors v w
  PairsPlaces (Point v) (Atomic w) = ⊥
  PairsPlaces (Point v) (Cell w) = ⊥
  PairsPlaces (Atomic v) (Point w) = ⊥
  PairsPlaces (Atomic v) (Atomic w) = PairsStates v w
  PairsPlaces (Atomic v) (Cell w) = ⊥
  PairsPlaces (Cell v) (Point w) = ⊥
  PairsPlaces (Cell v) (Atomic w) = ⊥
  PairsPlaces (Cell v) (Cell w) = PairsRecords v w

  -- both are there, or neither is
  abbrev pub PairsAt : {X : Type 0} → (X → X → Type 0) → Option X → Option X → Type 0
  PairsAt Pairs None None = Unit {0}
  PairsAt Pairs None (Some w) = ⊥
  PairsAt Pairs (Some v) None = ⊥
  PairsAt Pairs (Some v) (Some w) = Pairs v w

  -- as many, one beside the other
  pub record PairAll {X : Type 0} (Pairs : X → X → Type 0) (vs ws : List X) : Type 0 where
    pub count : length vs ≡ length ws
    pub each : (n : ℕ) → PairsAt Pairs (slice_get vs n) (slice_get ws n)

  pub record PairsViews (v w : Views) : Type 0 where
    pub none : (t : ℕ) → t < 5 → R t 0 0
    pub threads : (t : ℕ) → t < 5 → PairsAt (PairsThreads t) (slice_get v.threads t) (slice_get w.threads t)
    pub count : v.count ≡ w.count
    pub places : PairAll PairsPlaces v.places w.places
    pub stamps : PairAll PairsVectors v.stamps w.stamps
    pub global : PairsVectors v.global w.global

-- The other one has the counts of the first by their ranks, which are in the same order.
pub record IsInOrder (v w : Views) : Type 0 where
  pub rank : ℕ → ℕ → Option ℕ
  pub rising : IsRising (λ t a b. rank t a ≡ Some b)
  pub views : PairsViews (λ t a b. rank t a ≡ Some b) v w

-- of one thread's counts, those that have ranks have them in their order
abbrev pub AreRising : List (Option ℕ) → Type 0
AreRising ranks = (a b c d : ℕ) → slice_get ranks a ≡ Some (Some b) → slice_get ranks c ≡ Some (Some d) → nat_le a c ≡ nat_le b d

-- each of their ranks is below this one
abbrev pub AreBelow : ℕ → List (Option ℕ) → Type 0
AreBelow next ranks = (a b : ℕ) → slice_get ranks a ≡ Some (Some b) → b < next

-- the rank that a number stands for: none, where it is more than any rank
abbrev pub rank_of : ℕ → Option ℕ
rank_of n = if nat_le n highest_version then Some n else None

-- the ranks of each thread's counts, of those that have one, by the counts
abbrev pub rank_in : Option (Option ℕ) → Option ℕ
rank_in None = None
rank_in (Some rank) = rank

abbrev pub rank_at : List (List (Option ℕ)) → ℕ → ℕ → Option ℕ
rank_at ranks t count = rank_in (slice_get (slice_index_or ranks t []) count)

-- a count pairs with its rank
abbrev pub Ranked : List (List (Option ℕ)) → ℕ → ℕ → ℕ → Type 0
Ranked ranks t a b = rank_at ranks t a ≡ Some b
