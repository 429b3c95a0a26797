-- A graph grows by a thread's accesses to an atomic, and what is kept of an atomic keeps being shown.
use Rattle.std.proofs.Common.{zero, suc, ◌≡◌, ℕ, List, [], ◌∷◌, length, set, get_or, refl, ◌∙◌, ⊎_elim, Option, Some, None}
use Rattle.std.proofs.lemmas.Bool.{cases_Bool}
use Rattle.std.proofs.lemmas.List.{length-set}
use Rattle.std.specs.declared.sync.atomic.Ordering.{Ordering}
use Rattle.loom_views.specs.declared.rt.atomic.State.{State}
use Rattle.loom_views.specs.Graph.{Graph}
use Rattle.loom_views.specs.Orderings.{is_acquire}
use Rattle.loom_views.specs.Atomic.Slots.{number_in_slot}
use Rattle.loom_views.specs.Atomic.History.{History, StorePoints, Ordered, Scene, blank, in_slot, touch, graph_after_read, stores_after_read, slots_above, order_raised, orders_raised, scene_raised, scene_read, scene_loaded, scene_made, graph_with_order, graph_with_start}
use Rattle.loom_views.specs.Atomic.Shown.{ShowsState}
use Rattle.loom_views.proofs.Views.Growth.{GrownBy, same, quiet, raising, grown-joined}
use Rattle.loom_views.proofs.Atomic.Shown.{state-old}

pub state-grown : {t : ℕ} {g g' : Graph} → GrownBy t g g' → (h : History) (state : State) → ShowsState g h state → ShowsState g' h state
state-grown same h state s = s
state-grown (quiet {g' = g'} js r) h state s = state-old (record { after = js; raises = None }) g' h state (state-grown r h state s)
state-grown {t} (raising {g' = g'} js r) h state s = state-old (record { after = js; raises = Some t }) g' h state (state-grown r h state s)

-- the steps of an atomic
pub scene_raised-grown : (t : ℕ) (s : Scene) → GrownBy t s.graph (scene_raised t s).graph
scene_raised-grown t s = raising (s.thread.present ∷ []) same

pub raised-grown : (t k : ℕ) (o : Ordered) (is : List ℕ) → GrownBy t o.graph (orders_raised k o is).graph
raised-grown t k o [] = same
raised-grown t k o (i ∷ is) = grown-joined (quiet ((in_slot o.stores i).order ∷ k ∷ []) same) (raised-grown t k (order_raised k o i) is)

pub scene_read-grown : (t : ℕ) (s : Scene) (slot : ℕ) → GrownBy t s.graph (scene_read t s slot).graph
scene_read-grown t s slot = grown-joined (quiet _ same) (raised-grown t (length s.graph) (record { graph = graph_after_read s.graph s.history.stores s.thread.present slot; stores = stores_after_read s.graph t s.history.stores s.thread.present slot }) (slots_above s.graph s.history.stores slot))

pub raised-length : (k : ℕ) (o : Ordered) (is : List ℕ) → length (orders_raised k o is).stores ≡ length o.stores
raised-length k o [] = refl
raised-length k o (i ∷ is) = raised-length k (order_raised k o i) is ∙ length-set o.stores (number_in_slot (length o.stores) i) (record (in_slot o.stores i) { order = length o.graph })

-- a read makes no store
pub read-length : (t : ℕ) (s : Scene) (slot : ℕ) → length (scene_read t s slot).history.stores ≡ length s.history.stores
read-length t s slot =
    let read = in_slot s.history.stores slot in
    raised-length (length s.graph) (record { graph = graph_after_read s.graph s.history.stores s.thread.present slot; stores = stores_after_read s.graph t s.history.stores s.thread.present slot }) (slots_above s.graph s.history.stores slot)
    ∙ length-set s.history.stores (number_in_slot (length s.history.stores) slot) (record read { order = length s.graph; touched = touch read.touched t s.thread.present })

pub scene_loaded-grown : (t : ℕ) (s : Scene) (k : ℕ) (order : Ordering) → GrownBy t s.graph (scene_loaded s k order).graph
scene_loaded-grown t s k order = ⊎_elim (λ e. rw e (quiet (s.thread.present ∷ k ∷ []) same)) (λ e. rw e same) (cases_Bool (is_acquire order))

pub started-grown : (t : ℕ) (g : Graph) (copied : Option ℕ) → GrownBy t g (graph_with_start g copied)
started-grown t g None = quiet [] same
started-grown t g (Some k) = quiet (k ∷ []) same

pub scene_made-grown : (t : ℕ) (s : Scene) (value : ℕ) (copied : Option ℕ) (order : Ordering) → GrownBy t s.graph (scene_made t s value copied order).graph
scene_made-grown t s value copied order = quiet _ (grown-joined (quiet _ same) (started-grown t (graph_with_order s.graph s.history.stores s.thread) copied))

-- a read leaves each value
set-value : (stores : List StorePoints) (k m : ℕ) (y : StorePoints) → y.value ≡ (get_or stores k blank).value → (get_or (set stores k y) m blank).value ≡ (get_or stores m blank).value
set-value [] k m y e = refl
set-value (x ∷ stores) zero zero y e = e
set-value (x ∷ stores) zero (suc m) y e = refl
set-value (x ∷ stores) (suc k) zero y e = refl
set-value (x ∷ stores) (suc k) (suc m) y e = set-value stores k m y e

raised-value : (k : ℕ) (o : Ordered) (is : List ℕ) (m : ℕ) → (get_or (orders_raised k o is).stores m blank).value ≡ (get_or o.stores m blank).value
raised-value k o [] m = refl
raised-value k o (i ∷ is) m = raised-value k (order_raised k o i) is m ∙ set-value o.stores (number_in_slot (length o.stores) i) m (record (in_slot o.stores i) { order = length o.graph }) refl

pub read-value : (t : ℕ) (s : Scene) (slot m : ℕ) → (get_or (scene_read t s slot).history.stores m blank).value ≡ (get_or s.history.stores m blank).value
read-value t s slot m =
    let read = in_slot s.history.stores slot in
    raised-value (length s.graph) (record { graph = graph_after_read s.graph s.history.stores s.thread.present slot; stores = stores_after_read s.graph t s.history.stores s.thread.present slot }) (slots_above s.graph s.history.stores slot) m
    ∙ set-value s.history.stores (number_in_slot (length s.history.stores) slot) m (record read { order = length s.graph; touched = touch read.touched t s.thread.present }) refl
