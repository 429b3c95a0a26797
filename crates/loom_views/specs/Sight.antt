-- What rules see of points: for each thread, which of two spots is reached by more of the points that raise its version.
use Rattle.std.specs.Prelude.{ℕ, ◌+◌, ◌==◌, ◌&&◌, ◌⊎◌, nat_le, nat_lt, Bool, true, cond, List, [], ◌∷◌, length, slice_get, slice_index_or, Option, Some, None, is_some}
use mathlib.Core.Logic.{inl, inr}
use Rattle.std.specs.List.{list_any, list_all}
use Rattle.std.specs.Option.{option_map, option_map_or}
use Rattle.loom_views.specs.Graph.{Graph, threads, reaches, raised, count}
use Rattle.loom_views.specs.ThreadViews.{ThreadPoints}
use Rattle.loom_views.specs.CellAccesses.{Accesses}
use Rattle.loom_views.specs.Atomic.History.{StorePoints, History, blank, touch_of}
use Rattle.loom_views.specs.Views.{Place, Meets, Keeps, Records, Points}

-- ---- spots, where points are

pub data ThreadSpot : Type 0 where
  Present : ThreadSpot
  Released : ThreadSpot
  Yielded : ThreadSpot

pub data StoreSpot : Type 0 where
  Order : StoreSpot
  Sync : StoreSpot
  -- its first touch by this thread
  Touch : ℕ → StoreSpot

pub data HistorySpot : Type 0 where
  Loads : HistorySpot
  Stored : HistorySpot
  UnsyncLoads : HistorySpot
  Mutations : HistorySpot
  OfStore : ℕ → StoreSpot → HistorySpot

pub data CellSpot : Type 0 where
  Reads : CellSpot
  Writes : CellSpot

-- no point, the first and the global point, and those of threads, of objects and of stamps
pub data Spot : Type 0 where
  Nowhere : Spot
  First : Spot
  Global : Spot
  OfThread : ℕ → ThreadSpot → Spot
  OfPoint : ℕ → Spot
  OfAtomic : ℕ → HistorySpot → Spot
  OfCell : ℕ → CellSpot → Spot
  OfStamp : ℕ → Spot

-- a point that thread u alone looks at
abbrev pub owned : ℕ → ℕ → Option ℕ → List ℕ
owned u t None = []
owned u t (Some k) = cond (u == t) (k ∷ []) []

-- the points at a spot, as far as thread t's versions go
abbrev pub thread_points : ℕ → ℕ → ThreadSpot → ThreadPoints → List ℕ
thread_points t u Present own = own.present ∷ []
thread_points t u Released own = own.released ∷ []
thread_points t u Yielded own = owned u t own.yielded

abbrev pub store_points : ℕ → StoreSpot → StorePoints → List ℕ
store_points t Order store = store.order ∷ []
store_points t Sync store = store.sync ∷ []
store_points t (Touch u) store = owned u t (touch_of store u)

-- of its stores an atomic keeps the last seven, by their numbers
abbrev pub history_points : ℕ → HistorySpot → History → List ℕ
history_points t Loads h = h.loads
history_points t Stored h = h.stored
history_points t UnsyncLoads h = h.unsync_loads
history_points t Mutations h = h.mutations
history_points t (OfStore n spot) h = cond (nat_le (length h.stores) (n + 7)) (store_points t spot (slice_index_or h.stores n blank)) []

abbrev pub cell_points : CellSpot → Accesses → List ℕ
cell_points Reads cell = cell.reads
cell_points Writes cell = cell.writes

abbrev pub at_point : Option Place → List ℕ
at_point None = []
at_point (Some (Meets k)) = k ∷ []
at_point (Some (Keeps history)) = []
at_point (Some (Records cell)) = []

abbrev pub at_atomic : (History → List ℕ) → Option Place → List ℕ
at_atomic f None = []
at_atomic f (Some (Meets k)) = []
at_atomic f (Some (Keeps history)) = f history
at_atomic f (Some (Records cell)) = []

abbrev pub at_cell : (Accesses → List ℕ) → Option Place → List ℕ
at_cell f None = []
at_cell f (Some (Meets k)) = []
at_cell f (Some (Keeps history)) = []
at_cell f (Some (Records cell)) = f cell

abbrev pub points_at : Points → ℕ → Spot → List ℕ
points_at p t Nowhere = []
points_at p t First = 0 ∷ []
points_at p t Global = p.global ∷ []
points_at p t (OfThread u spot) = option_map_or (thread_points t u spot) (slice_get p.threads u) []
points_at p t (OfPoint n) = at_point (slice_get p.places n)
points_at p t (OfAtomic n spot) = at_atomic (history_points t spot) (slice_get p.places n)
points_at p t (OfCell n spot) = at_cell (cell_points spot) (slice_get p.places n)
points_at p t (OfStamp m) = option_map_or (λ k. k ∷ []) (slice_get p.stamps m) []

-- ---- what is seen of them

-- how many of the points that raise thread t reach one of these
unfoldable pub number : Graph → List ℕ → ℕ → ℕ
number g ks t = count (λ i. list_any (λ k. reaches g i k) ks) (raised g t)

-- whether one of these is the point that will be made after n others
abbrev pub awaits : Graph → List ℕ → ℕ → Bool
awaits g ks n = list_any (λ k. k == n + length g) ks

-- of a store
pub record SeenStore : Type 0 where
  pub value : ℕ
  pub seq_cst : Bool
  pub touches : ℕ
  pub touched : ℕ → Bool

abbrev pub seen_store : StorePoints → SeenStore
seen_store store = record { value = store.value; seq_cst = store.seq_cst; touches = length store.touched; touched = λ t. nat_lt t 5 && is_some (touch_of store t) }

-- of an atomic: how many stores it has had, and the last seven by their numbers
pub record SeenHistory : Type 0 where
  pub count : ℕ
  pub stores : ℕ → Option SeenStore
  pub mutating : Bool

abbrev pub seen_history : History → SeenHistory
seen_history h =
    record {
      count = length h.stores;
      stores = λ n. cond (nat_le (length h.stores) (n + 7)) (Some (seen_store (slice_index_or h.stores n blank))) None;
      mutating = h.mutating;
    }

-- of an object
pub data SeenPlace : Type 0 where
  SeenPoint : SeenPlace
  SeenAtomic : SeenHistory → SeenPlace
  SeenCell : SeenPlace

abbrev pub seen_place : Place → SeenPlace
seen_place (Meets k) = SeenPoint
seen_place (Keeps history) = SeenAtomic (seen_history history)
seen_place (Records cell) = SeenCell

-- Of a whole run: its threads, and which of them have yielded, its objects and its stamps. And of any two spots, for each thread, whether
-- there are no more of its versions at the first than at the second: so its versions are seen by their order alone.
pub record Sight : Type 0 where
  pub threads : ℕ
  pub yielded : ℕ → Option Bool
  pub places : ℕ
  pub place : ℕ → Option SeenPlace
  pub stamps : ℕ
  pub order : ℕ → Spot → Spot → Bool
  pub awaits : ℕ → Spot → ℕ → Bool

abbrev pub sight : Points → Sight
sight p =
    record {
      threads = length p.threads;
      yielded = λ t. option_map (λ own. is_some own.yielded) (slice_get p.threads t);
      places = length p.places;
      place = λ n. option_map seen_place (slice_get p.places n);
      stamps = length p.stamps;
      order = λ t one other. nat_lt t 5 && nat_le (number p.graph (points_at p t one) t) (number p.graph (points_at p t other) t);
      awaits = λ t spot n. nat_lt t 5 && awaits p.graph (points_at p t spot) n;
    }

-- ---- runs

-- each point of the list is reached from those behind it
abbrev pub is_chain : Graph → List ℕ → Bool
is_chain g [] = true
is_chain g (x ∷ xs) = list_all (λ i. reaches g i x) xs && is_chain g xs

-- all that a thread has raised reaches its present point, and one that isn't there has raised nothing
abbrev pub stands : Graph → ℕ → Option ThreadPoints → Bool
stands g t None = length (raised g t) == 0
stands g t (Some own) = number g (own.present ∷ []) t == length (raised g t)

-- so it is of the points of each run, and what a thread has raised is a chain
unfoldable pub are_of_run : Points → Bool
are_of_run p = list_all (λ t. is_chain p.graph (raised p.graph t) && stands p.graph t (slice_get p.threads t)) threads

-- What is seen of points; of more than five threads, and of points that aren't those of a run, they are seen themselves.
abbrev pub seen : Points → Sight ⊎ Points
seen p = cond (nat_le (length p.threads) 5 && are_of_run p) (inl (sight p)) (inr p)
