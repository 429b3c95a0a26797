-- What is kept in vectors shows the points of the graph.
use Rattle.std.specs.Prelude.{ℕ, ◌<◌, ◌≡◌, length, slice_index_or, None, Result, Ok, Err}
use Rattle.loom_views.specs.declared.rt.failure.FailureKind.{FailureKind}
use Rattle.loom_views.specs.declared.rt.atomic.Store.{Store}
use Rattle.loom_views.specs.declared.rt.atomic.State.{State}
use Rattle.loom_views.specs.declared.rt.synchronize.ThreadViews.{ThreadViews}
use Rattle.loom_views.specs.Graph.{Graph, Shows, IsChained, IsPresent}
use Rattle.loom_views.specs.ThreadViews.{ShowsTouch, ShowsThread}
pub use Rattle.loom_views.specs.AccessRecords.{ShowsRecord}
use Rattle.loom_views.specs.Atomic.History.{StorePoints, History, Scene, Answer, in_slot, touch_of}
use Rattle.loom_views.specs.Atomic.Ring.{store_at}

-- what is kept of a store
pub record ShowsStore (g : Graph) (points : StorePoints) (store : Store) : Type 0 where
  pub value : points.value ≡ store.value
  pub order : Shows g points.order store.order
  pub sync : Shows g points.sync store.sync
  pub seq_cst : points.seq_cst ≡ store.seq_cst
  pub five : length points.touched ≡ 5
  pub five_kept : length store.first_seen.versions ≡ 5
  pub touched : (t : ℕ) → t < 5 → ShowsTouch g t (touch_of points t) (slice_index_or store.first_seen.versions t None)

-- what is kept of an atomic: its last seven stores, and the records of its accesses
pub record ShowsState (g : Graph) (h : History) (state : State) : Type 0 where
  pub count : length h.stores ≡ state.count
  pub ring : length state.stores ≡ 7
  pub stores : (i : ℕ) → i < 7 → i < length h.stores → ShowsStore g (in_slot h.stores i) (store_at state.stores i)
  pub loads : ShowsRecord g h.loads state.loaded_at
  pub stored : ShowsRecord g h.stored state.stored_at
  pub unsync_loads : ShowsRecord g h.unsync_loads state.unsync_loaded_at
  pub mutations : ShowsRecord g h.mutations state.unsync_mut_at
  pub mutating : h.mutating ≡ state.is_mutating

-- thread t's views and what is kept of the atomic show a scene of a graph that moves made
pub record ShowsScene (t : ℕ) (s : Scene) (views : ThreadViews) (kept : State) : Type 0 where
  pub chained : IsChained s.graph
  pub present : IsPresent s.graph t s.thread.present
  pub thread : ShowsThread s.graph t s.thread views
  pub history : ShowsState s.graph s.history kept

-- an access answers as the scene's step does, and shows the scene that it leads to
abbrev pub AnswersAs : ℕ → Result Answer FailureKind → Result ℕ FailureKind → ThreadViews → State → Type 0
AnswersAs t (Ok answer) result views state = (result ≡ Ok answer.value) × ShowsScene t answer.scene views state
AnswersAs t (Err kind) result views state = result ≡ Err kind

-- an access that answers no value ends as the scene's step does, and shows the scene that it leads to
abbrev pub FinishesAs : ℕ → Result Answer FailureKind → Result (Unit {0}) FailureKind → ThreadViews → State → Type 0
FinishesAs t (Ok answer) result views state = (result ≡ Ok tt) × ShowsScene t answer.scene views state
FinishesAs t (Err kind) result views state = result ≡ Err kind
