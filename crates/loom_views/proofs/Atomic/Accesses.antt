-- Whole accesses of an atomic: what is kept in vectors answers as the scene's step does.
use Rattle.std.proofs.Common.{subst, ◌≡◌, ℕ, ◌+◌, ◌-◌, ◌%◌, set, ◌<◌, Bool, true, false, not, cond, ◌||◌, ◌&&◌, List, [], ◌∷◌, length, get_or, refl, ap, sym, ◌∙◌, arith, ⊎_elim, Option, Some, None, Result, Ok, Err}
use Rattle.std.specs.Prelude.{nat_lt, if◌then◌else◌}
use Rattle.std.proofs.lemmas.Bool.{cases_Bool, cases_eq}
use Rattle.std.specs.declared.sync.atomic.Ordering.{Ordering}
use Rattle.std.specs.declared.sync.atomic.Ordering.TheVariants.{Release}
use Rattle.loom_views.specs.declared.rt.failure.FailureKind.{FailureKind}
use Rattle.loom_views.specs.declared.rt.failure.FailureKind.TheVariants.{Race, OpenAccess, TooManyStores}
use Rattle.loom_views.specs.declared.rt.atomic.State.{State}
use Rattle.loom_views.specs.declared.rt.atomic.Store.{Store}
use Rattle.loom_views.specs.declared.rt.synchronize.ThreadViews.{ThreadViews}
use Rattle.loom_views.specs.Graph.{Point, Graph, Shows, IsChained, IsPresent}
use Rattle.loom_views.specs.Orderings.{is_acquire, is_release}
use Rattle.std.proofs.lemmas.List.{get_or-set_same, get_or-set_other, length-set}
use Rattle.loom_views.specs.Atomic.Slots.{number_in_slot}
use Rattle.loom_views.proofs.Atomic.SlotNumbers.{in_slot-set_same, in_slot-set_other}
use Rattle.loom_views.specs.Versions.{zeros, join, within}
use Rattle.loom_views.specs.ThreadViews.{ThreadPoints, ShowsThread, graph_after_load}
use Rattle.loom_views.specs.Atomic.History.{Scene, Answer, in_slot, seen_orders, graph_with_order, graph_with_start, races, scene_read, scene_loaded, scene_made, scene_recorded_load, scene_recorded_store, scene_recorded_unsync_load, scene_recorded_mutation, load_step, store_step, update_read_step, update_write_step, unsync_load_step, mutate_step, mutate_end_step, new_step, newest_value, new_history, with_newest, blank, StorePoints}
use Rattle.loom_views.specs.Atomic.Ring.{store_at, state_read, state_made, newest_slot, state_blank, blank_store}
use Rattle.loom_views.specs.Atomic.Shown.{ShowsStore, ShowsRecord, ShowsScene}
use Rattle.loom_views.proofs.Views.Views.{shows-old, shows-joined, chained-moved, present-new}
use Rattle.loom_views.proofs.Views.Records.{races-is, record-one, record-more}
use Rattle.loom_views.proofs.Views.ThreadMoves.{touch-old}
use Rattle.loom_views.proofs.Views.Growth.{shows-grown}
use Rattle.loom_views.proofs.Atomic.Growth.{scene_read-grown}
use Rattle.loom_views.proofs.Atomic.Reads.{scene_grown, scene_read-shown}
use Rattle.loom_views.proofs.Atomic.Shown.{ShowsStart, state-old, make-shown}
use Rattle.loom_views.proofs.Atomic.Vectors.{Accessed, views_loaded, load_now, store_now, load_passed, store_passed, update_read_now, update_read_passed, update_write_now, update_write_passed, unsync_load_now, value_passed, mutate_now, mutate_passed, mutate_end_now, ended, state_closed}

pub scene_loaded-shown : (t : ℕ) (s : Scene) (views : ThreadViews) (state : State) (k : ℕ) (sync : List ℕ) (order : Ordering) → Shows s.graph k sync → ShowsScene t s views state → ShowsScene t (scene_loaded s k order) (views_loaded views sync order) state
scene_loaded-shown t s views state k sync order q z = ⊎_elim yes no (cases_Bool (is_acquire order))
  where
    new : Point
    new = record { after = s.thread.present ∷ k ∷ []; raises = None }

    yes : is_acquire order ≡ true → ShowsScene t (scene_loaded s k order) (views_loaded views sync order) state
    yes e = rw e (record {
      chained = chained-moved s.graph (s.thread.present ∷ k ∷ []) z.chained;
      present = present-new (k ∷ []) None s.graph t s.thread.present z.present;
      thread = record {
        present = shows-joined s.graph s.thread.present k views.present sync z.chained z.thread.present q;
        released = shows-old new s.graph s.thread.released views.released z.thread.released;
        yielded = touch-old new s.graph t s.thread.yielded views.last_yield z.thread.yielded;
      };
      history = state-old new s.graph s.history state z.history;
    })

    no : is_acquire order ≡ false → ShowsScene t (scene_loaded s k order) (views_loaded views sync order) state
    no e = rw e z

pub scene_made-shown : (t : ℕ) (s : Scene) (views : ThreadViews) (state : State) (sync : List ℕ) (value : ℕ) (copied : Option ℕ) (order : Ordering) → t < 5 → ShowsStart s.graph copied sync → ShowsScene t s views state → ShowsScene t (scene_made t s value copied order) views (state_made state t views sync value order)
scene_made-shown t s views state sync value copied order l q z =
    let s1 : Scene = record s { graph = graph_with_order s.graph s.history.stores s.thread } in
    let z1 : ShowsScene t s1 views state = scene_grown t s views state (s.thread.present ∷ seen_orders s.graph s.history.stores s.thread.present None) z in
    let s2 : Scene = record s { graph = graph_with_start s1.graph copied } in
    let z2 : ShowsScene t s2 views state = started copied s1 z1 in
    let z3 = scene_grown t s2 views state (length s1.graph ∷ s.thread.released ∷ cond (is_release order) (s.thread.present ∷ []) []) z2 in
    record {
      chained = z3.chained;
      present = z3.present;
      thread = z3.thread;
      history = make-shown s.graph t s.thread views s.history state sync value copied order z.chained l z.thread z.history q;
    }
  where
    started : (o : Option ℕ) (s' : Scene) → ShowsScene t s' views state → ShowsScene t (record s' { graph = graph_with_start s'.graph o }) views state
    started None s' y = scene_grown t s' views state [] y
    started (Some k) s' y = scene_grown t s' views state (k ∷ []) y

-- the vector of a kind takes in one more access
pub recorded_load-shown : (t : ℕ) (s : Scene) (views : ThreadViews) (state : State) → ShowsScene t s views state → ShowsScene t (scene_recorded_load s) views (record state { loaded_at = join state.loaded_at views.present })
recorded_load-shown t s views state z = record {
  chained = z.chained;
  present = z.present;
  thread = z.thread;
  history = record {
    count = z.history.count;
    ring = z.history.ring;
    stores = z.history.stores;
    loads = record-more s.graph s.thread.present s.history.loads state.loaded_at views.present z.history.loads z.thread.present;
    stored = z.history.stored;
    unsync_loads = z.history.unsync_loads;
    mutations = z.history.mutations;
    mutating = z.history.mutating;
  };
}

pub recorded_store-shown : (t : ℕ) (s : Scene) (views : ThreadViews) (state : State) → ShowsScene t s views state → ShowsScene t (scene_recorded_store s) views (record state { stored_at = join state.stored_at views.present })
recorded_store-shown t s views state z = record {
  chained = z.chained;
  present = z.present;
  thread = z.thread;
  history = record {
    count = z.history.count;
    ring = z.history.ring;
    stores = z.history.stores;
    loads = z.history.loads;
    stored = record-more s.graph s.thread.present s.history.stored state.stored_at views.present z.history.stored z.thread.present;
    unsync_loads = z.history.unsync_loads;
    mutations = z.history.mutations;
    mutating = z.history.mutating;
  };
}

-- two outcomes that agree: the same failure, or the same value and a scene that is shown
abbrev pub Agrees : ℕ → Result Answer FailureKind → Result Accessed FailureKind → Type 0
Agrees t (Ok answer) (Ok accessed) = (answer.value ≡ accessed.value) × ShowsScene t answer.scene accessed.views accessed.state
Agrees t (Ok answer) (Err kind) = ⊥
Agrees t (Err kind) (Ok accessed) = ⊥
Agrees t (Err kind) (Err found) = found ≡ kind

-- the tests of an access agree, if the access does where they pass
pub tests-agree : (t : ℕ) (m m' r w : Bool) (passed : Result Answer FailureKind) (ok : Result State FailureKind) (after : Result State FailureKind → Result Accessed FailureKind) → m ≡ m' → w ≡ not r → after (Err OpenAccess) ≡ Err OpenAccess → after (Err Race) ≡ Err Race → Agrees t passed (after ok)
    → Agrees t (if m then Err OpenAccess else (if r then Err Race else passed)) (after (if m' then Err OpenAccess else (if w then ok else Err Race)))
tests-agree t m m' r w passed ok after e f a b h = ⊎_elim mutating (λ q. ⊎_elim (raced q) (clear q) (cases_Bool r)) (cases_Bool m)
  where
    mutating : m ≡ true → Agrees t (if m then Err OpenAccess else (if r then Err Race else passed)) (after (if m' then Err OpenAccess else (if w then ok else Err Race)))
    mutating q = rw (q, sym e ∙ q, a) refl

    raced : m ≡ false → r ≡ true → Agrees t (if m then Err OpenAccess else (if r then Err Race else passed)) (after (if m' then Err OpenAccess else (if w then ok else Err Race)))
    raced q u = rw (q, sym e ∙ q, f, u, b) refl

    clear : m ≡ false → r ≡ false → Agrees t (if m then Err OpenAccess else (if r then Err Race else passed)) (after (if m' then Err OpenAccess else (if w then ok else Err Race)))
    clear q u = rw (q, sym e ∙ q, f, u) h

room-agrees : (t : ℕ) (m m' : Bool) (A : Result Answer FailureKind) (B : Result Accessed FailureKind) → m' ≡ m → (m ≡ true → Agrees t A B) → Agrees t (if m then A else Err TooManyStores) (if m' then B else Err TooManyStores)
room-agrees t m m' A B e h = ⊎_elim (λ q. let e2 : m' ≡ true = e ∙ q in rw (e2, q) (h q)) (λ q. let e2 : m' ≡ false = e ∙ q in rw (e2, q) refl) (cases_Bool m)

neither-one : (a : Bool) → (not a && true) ≡ not (a || false)
neither-one true = refl
neither-one false = refl

neither-two : (a b : Bool) → (not a && (not b && true)) ≡ not (a || (b || false))
neither-two true b = refl
neither-two false true = refl
neither-two false false = refl

pub load-agrees : (t : ℕ) (s : Scene) (views : ThreadViews) (state : State) (slot : ℕ) (order : Ordering) → t < 5 → slot < 7 → slot < length s.history.stores → ShowsScene t s views state → Agrees t (load_step t s slot order) (load_now state t views slot order)
load-agrees t s views state slot order l b d z =
    tests-agree t s.history.mutating state.is_mutating _ _ _ (Ok state') (load_passed t views slot order) z.history.mutating inside_all refl refl
    ((z.history.stores slot b d).value, scene_loaded-shown t read views (state_read state' t views slot) (in_slot s.history.stores slot).sync (store_at state.stores slot).sync order sync_shown shown_read)
  where
    inside_all : (within state.unsync_mut_at views.present && true) ≡ not (races s.graph s.history.mutations s.thread.present || false)
    inside_all = rw (races-is s.graph s.thread.present s.history.mutations state.unsync_mut_at views.present z.chained z.history.mutations z.thread.present) (neither-one (races s.graph s.history.mutations s.thread.present))

    read : Scene
    read = scene_read t (scene_recorded_load s) slot

    state' : State
    state' = record state { loaded_at = join state.loaded_at views.present }

    shown_read : ShowsScene t read views (state_read state' t views slot)
    shown_read = scene_read-shown t (scene_recorded_load s) views state' slot l b d (recorded_load-shown t s views state z)

    sync_shown : Shows read.graph (in_slot s.history.stores slot).sync (store_at state.stores slot).sync
    sync_shown = shows-grown (scene_read-grown t (scene_recorded_load s) slot) (in_slot s.history.stores slot).sync (store_at state.stores slot).sync (z.history.stores slot b d).sync

pub store-agrees : (t : ℕ) (s : Scene) (views : ThreadViews) (state : State) (value : ℕ) (order : Ordering) → t < 5 → ShowsScene t s views state → Agrees t (store_step t s value order) (store_now state t views value order)
store-agrees t s views state value order l z =
    tests-agree t s.history.mutating state.is_mutating _ _ _ (Ok state') (store_passed t views value order) z.history.mutating inside_all refl refl
    (room-agrees t (nat_lt (length s.history.stores) 65535) (nat_lt state.count 65535) _ _ (ap (λ n. nat_lt n 65535) (sym z.history.count)) (λ _. (refl, scene_made-shown t (scene_recorded_store s) views state' zeros value None order l refl (recorded_store-shown t s views state z))))
  where
    state' : State
    state' = record state { stored_at = join state.stored_at views.present }

    inside_all : (within state.unsync_mut_at views.present && (within state.unsync_loaded_at views.present && true)) ≡ not (races s.graph s.history.mutations s.thread.present || (races s.graph s.history.unsync_loads s.thread.present || false))
    inside_all = rw (races-is s.graph s.thread.present s.history.mutations state.unsync_mut_at views.present z.chained z.history.mutations z.thread.present, races-is s.graph s.thread.present s.history.unsync_loads state.unsync_loaded_at views.present z.chained z.history.unsync_loads z.thread.present) (neither-two (races s.graph s.history.mutations s.thread.present) (races s.graph s.history.unsync_loads s.thread.present))

pub update_read-agrees : (t : ℕ) (s : Scene) (views : ThreadViews) (state : State) (slot : ℕ) → t < 5 → slot < 7 → slot < length s.history.stores → ShowsScene t s views state → Agrees t (update_read_step t s slot) (update_read_now state t views slot)
update_read-agrees t s views state slot l b d z =
    tests-agree t s.history.mutating state.is_mutating _ _ _ (Ok state') (update_read_passed t views slot) z.history.mutating inside_all refl refl
    ((z.history.stores slot b d).value, scene_read-shown t (scene_recorded_load s) views state' slot l b d (recorded_load-shown t s views state z))
  where
    inside_all : (within state.unsync_mut_at views.present && true) ≡ not (races s.graph s.history.mutations s.thread.present || false)
    inside_all = rw (races-is s.graph s.thread.present s.history.mutations state.unsync_mut_at views.present z.chained z.history.mutations z.thread.present) (neither-one (races s.graph s.history.mutations s.thread.present))

    state' : State
    state' = record state { loaded_at = join state.loaded_at views.present }

-- where a point stands after a load
load-kept : (g : Graph) (p : ThreadPoints) (k j : ℕ) (order : Ordering) (vs : List ℕ) → Shows g j vs → Shows (graph_after_load g p k order) j vs
load-kept g p k j order vs h = ⊎_elim (λ e. rw e (shows-old (record { after = p.present ∷ k ∷ []; raises = None }) g j vs h)) (λ e. rw e h) (cases_Bool (is_acquire order))

pub update_write-agrees : (t : ℕ) (s : Scene) (views : ThreadViews) (state : State) (slot value : ℕ) (success : Ordering) → t < 5 → slot < 7 → slot < length s.history.stores → ShowsScene t s views state → Agrees t (update_write_step t s slot value success) (update_write_now state t views slot value success)
update_write-agrees t s views state slot value success l b d z =
    tests-agree t s.history.mutating state.is_mutating _ _ _ (Ok state') (update_write_passed t views slot value success) z.history.mutating inside_all refl refl
    (room-agrees t (nat_lt (length s.history.stores) 65535) (nat_lt state.count 65535) _ _ (ap (λ n. nat_lt n 65535) (sym z.history.count)) (λ _. (
      refl,
      scene_made-shown t loaded (views_loaded views sync success) state' sync value (Some k) success l
          (load-kept s.graph s.thread k k success sync (z.history.stores slot b d).sync)
          (scene_loaded-shown t (scene_recorded_store s) views state' k sync success (z.history.stores slot b d).sync (recorded_store-shown t s views state z)),
    )))
  where
    state' : State
    state' = record state { stored_at = join state.stored_at views.present }

    k : ℕ
    k = (in_slot s.history.stores slot).sync

    sync : List ℕ
    sync = (store_at state.stores slot).sync

    loaded : Scene
    loaded = scene_loaded (scene_recorded_store s) k success

    inside_all : (within state.unsync_mut_at views.present && (within state.unsync_loaded_at views.present && true)) ≡ not (races s.graph s.history.mutations s.thread.present || (races s.graph s.history.unsync_loads s.thread.present || false))
    inside_all = rw (races-is s.graph s.thread.present s.history.mutations state.unsync_mut_at views.present z.chained z.history.mutations z.thread.present, races-is s.graph s.thread.present s.history.unsync_loads state.unsync_loaded_at views.present z.chained z.history.unsync_loads z.thread.present) (neither-two (races s.graph s.history.mutations s.thread.present) (races s.graph s.history.unsync_loads s.thread.present))

neither-four : (a b c d : Bool) → (not a && (not b && (not c && (not d && true)))) ≡ not (a || (b || (c || (d || false))))
neither-four true b c d = refl
neither-four false true c d = refl
neither-four false false true d = refl
neither-four false false false true = refl
neither-four false false false false = refl

-- the newest store is in the newest slot
newest-number : (n : ℕ) → 0 < n → number_in_slot n ((n + 6) % 7) ≡ n - 1
unfolding number_in_slot
newest-number n h = omega arith

newest-slot : (n : ℕ) → 0 < n → (n + 6) % 7 < n
newest-slot n h = omega arith

newest-shown : (s : Scene) (t : ℕ) (views : ThreadViews) (state : State) → 0 < length s.history.stores → ShowsScene t s views state → newest_value s.history.stores ≡ (store_at state.stores (newest_slot state)).value
newest-shown s t views state h z =
    let n = length s.history.stores in
    let shown = z.history.stores ((n + 6) % 7) (omega arith) (newest-slot n h) in
    ap (λ i. (get_or s.history.stores i blank).value) (sym (newest-number n h)) ∙ shown.value ∙ ap (λ m. (store_at state.stores ((m + 6) % 7)).value) z.history.count

recorded_unsync_load-shown : (t : ℕ) (s : Scene) (views : ThreadViews) (state : State) → ShowsScene t s views state → ShowsScene t (scene_recorded_unsync_load s) views (record state { unsync_loaded_at = join state.unsync_loaded_at views.present })
recorded_unsync_load-shown t s views state z = record {
  chained = z.chained;
  present = z.present;
  thread = z.thread;
  history = record {
    count = z.history.count;
    ring = z.history.ring;
    stores = z.history.stores;
    loads = z.history.loads;
    stored = z.history.stored;
    unsync_loads = record-more s.graph s.thread.present s.history.unsync_loads state.unsync_loaded_at views.present z.history.unsync_loads z.thread.present;
    mutations = z.history.mutations;
    mutating = z.history.mutating;
  };
}

recorded_mutation-shown : (t : ℕ) (s : Scene) (views : ThreadViews) (state : State) → ShowsScene t s views state → ShowsScene t (scene_recorded_mutation s) views (record state { unsync_mut_at = join state.unsync_mut_at views.present })
recorded_mutation-shown t s views state z = record {
  chained = z.chained;
  present = z.present;
  thread = z.thread;
  history = record {
    count = z.history.count;
    ring = z.history.ring;
    stores = z.history.stores;
    loads = z.history.loads;
    stored = z.history.stored;
    unsync_loads = z.history.unsync_loads;
    mutations = record-more s.graph s.thread.present s.history.mutations state.unsync_mut_at views.present z.history.mutations z.thread.present;
    mutating = z.history.mutating;
  };
}

pub unsync_load-agrees : (t : ℕ) (s : Scene) (views : ThreadViews) (state : State) → 0 < length s.history.stores → ShowsScene t s views state → Agrees t (unsync_load_step s) (unsync_load_now state views)
unsync_load-agrees t s views state h z =
    tests-agree t s.history.mutating state.is_mutating _ _ _ (Ok (record state { unsync_loaded_at = join state.unsync_loaded_at views.present })) (value_passed views) z.history.mutating inside_all refl refl
    (newest-shown s t views state h z, recorded_unsync_load-shown t s views state z)
  where
    inside_all : (within state.unsync_mut_at views.present && (within state.stored_at views.present && true)) ≡ not (races s.graph s.history.mutations s.thread.present || (races s.graph s.history.stored s.thread.present || false))
    inside_all = rw (races-is s.graph s.thread.present s.history.mutations state.unsync_mut_at views.present z.chained z.history.mutations z.thread.present, races-is s.graph s.thread.present s.history.stored state.stored_at views.present z.chained z.history.stored z.thread.present) (neither-two (races s.graph s.history.mutations s.thread.present) (races s.graph s.history.stored s.thread.present))

all_inside : (t : ℕ) (s : Scene) (views : ThreadViews) (state : State) → ShowsScene t s views state → (within state.loaded_at views.present && (within state.unsync_loaded_at views.present && (within state.stored_at views.present && (within state.unsync_mut_at views.present && true)))) ≡ not (races s.graph s.history.loads s.thread.present || (races s.graph s.history.unsync_loads s.thread.present || (races s.graph s.history.stored s.thread.present || (races s.graph s.history.mutations s.thread.present || false))))
all_inside t s views state z =
    rw (
      races-is s.graph s.thread.present s.history.loads state.loaded_at views.present z.chained z.history.loads z.thread.present,
      races-is s.graph s.thread.present s.history.unsync_loads state.unsync_loaded_at views.present z.chained z.history.unsync_loads z.thread.present,
      races-is s.graph s.thread.present s.history.stored state.stored_at views.present z.chained z.history.stored z.thread.present,
      races-is s.graph s.thread.present s.history.mutations state.unsync_mut_at views.present z.chained z.history.mutations z.thread.present,
    )
    (neither-four (races s.graph s.history.loads s.thread.present) (races s.graph s.history.unsync_loads s.thread.present) (races s.graph s.history.stored s.thread.present) (races s.graph s.history.mutations s.thread.present))

pub mutate-agrees : (t : ℕ) (s : Scene) (views : ThreadViews) (state : State) → 0 < length s.history.stores → ShowsScene t s views state → Agrees t (mutate_step s) (mutate_now state views)
mutate-agrees t s views state h z =
    tests-agree t s.history.mutating state.is_mutating _ _ _ (Ok state') (mutate_passed views) z.history.mutating (all_inside t s views state z) refl refl (newest-shown s t views state h z, opened)
  where
    state' : State
    state' = record state { unsync_mut_at = join state.unsync_mut_at views.present }

    recorded : ShowsScene t (scene_recorded_mutation s) views state'
    recorded = recorded_mutation-shown t s views state z

    opened : ShowsScene t (record (scene_recorded_mutation s) { history = record (scene_recorded_mutation s).history { mutating = true } }) views (record state' { is_mutating = true })
    opened = record {
      chained = recorded.chained;
      present = recorded.present;
      thread = recorded.thread;
      history = record {
        count = recorded.history.count;
        ring = recorded.history.ring;
        stores = recorded.history.stores;
        loads = recorded.history.loads;
        stored = recorded.history.stored;
        unsync_loads = recorded.history.unsync_loads;
        mutations = recorded.history.mutations;
        mutating = refl;
      };
    }

-- another store in a slot
replaced-shown : (g : Graph) (stores : List StorePoints) (kept : List Store) (slot : ℕ) (st : StorePoints) (st' : Store) (i : ℕ) → slot < 7 → slot < length stores → length kept ≡ 7 → ShowsStore g st st' → i < 7 → ShowsStore g (in_slot stores i) (store_at kept i) → ShowsStore g (in_slot (set stores (number_in_slot (length stores) slot) st) i) (store_at (set kept slot st') i)
replaced-shown g stores kept slot st st' i a b e h c o = ⊎_elim
    (λ q. rw (q, in_slot-set_same stores st slot b, get_or-set_same kept slot st' blank_store (omega arith)) h)
    (λ q. rw (in_slot-set_other stores st slot i a c q, get_or-set_other kept slot i st' blank_store q) o)
    (cases_eq i slot)

-- a value put into the newest store
pub closed-shown : (t : ℕ) (s : Scene) (views : ThreadViews) (state : State) (value : ℕ) → 0 < length s.history.stores → ShowsScene t s views state → ShowsScene t (record s { history = record s.history { mutating = false; stores = with_newest s.history.stores value } }) views (state_closed state value)
closed-shown t s views state value h z = record {
  chained = z.chained;
  present = z.present;
  thread = z.thread;
  history = record {
    count = length-set s.history.stores (length s.history.stores - 1) newest ∙ z.history.count;
    ring = length-set state.stores (newest_slot state) newest_kept ∙ z.history.ring;
    stores = λ i a b. at_slot i a (let q : i < length (with_newest s.history.stores value) = b in omega (arith, length-set s.history.stores (length s.history.stores - 1) newest));
    loads = z.history.loads;
    stored = z.history.stored;
    unsync_loads = z.history.unsync_loads;
    mutations = z.history.mutations;
    mutating = refl;
  };
}
  where
    newest : StorePoints
    newest = record (get_or s.history.stores (length s.history.stores - 1) blank) { value = value }

    newest_kept : Store
    newest_kept = record (store_at state.stores (newest_slot state)) { value = value }

    P : ℕ → ℕ → ℕ → Type 0
    P i m k = ShowsStore s.graph (in_slot (set s.history.stores m (record (get_or s.history.stores m blank) { value = value })) i) (store_at (set state.stores k (record (store_at state.stores k) { value = value })) i)

    at_slot : (i : ℕ) → i < 7 → i < length s.history.stores → P i (length s.history.stores - 1) (newest_slot state)
    at_slot i a b =
        let n = length s.history.stores in
        let slot = (n + 6) % 7 in
        let before = z.history.stores slot (omega arith) (newest-slot n h) in
        let placed : P i (number_in_slot n slot) slot = replaced-shown s.graph s.history.stores state.stores slot (record (in_slot s.history.stores slot) { value = value }) (record (store_at state.stores slot) { value = value }) i (omega arith) (newest-slot n h) z.history.ring (record { value = refl; order = before.order; sync = before.sync; seq_cst = before.seq_cst; five = before.five; five_kept = before.five_kept; touched = before.touched }) a (z.history.stores i a b) in
        subst (λ k. P i (n - 1) k) (ap (λ m. (m + 6) % 7) z.history.count) (subst (λ m. P i m slot) (newest-number n h) placed)

pub mutate_end-agrees : (t : ℕ) (s : Scene) (views : ThreadViews) (state : State) (value : ℕ) → 0 < length s.history.stores → ShowsScene t s views state → Agrees t (mutate_end_step s value) (mutate_end_now state views value)
mutate_end-agrees t s views state value h z =
    let closed = record s { history = record s.history { mutating = false; stores = with_newest s.history.stores value } } in
    let shown = closed-shown t s views state value h z in
    tests-agree t false false _ _ _ (Ok (record (state_closed state value) { unsync_mut_at = join state.unsync_mut_at views.present })) (ended views value) refl (all_inside t closed views (state_closed state value) shown) refl refl
    (refl, recorded_mutation-shown t closed views (state_closed state value) shown)

-- a new atomic
pub new-shown : (t : ℕ) (g : Graph) (p : ThreadPoints) (views : ThreadViews) (stores : List Store) (value : ℕ) → t < 5 → length stores ≡ 7 → IsChained g → IsPresent g t p.present → ShowsThread g t p views → ShowsScene t (new_step t g p value) views (state_made (state_blank views.present stores) t views zeros value Release)
new-shown t g p views stores value l e c i th =
    let s : Scene = record { graph = g; thread = p; history = new_history p.present } in
    let none : ShowsRecord g [] zeros = record { made = tt; joined = refl } in
    let z : ShowsScene t s views (state_blank views.present stores) = record {
      chained = c;
      present = i;
      thread = th;
      history = record {
        count = refl;
        ring = e;
        stores = λ i a b. absurd (omega arith);
        loads = none;
        stored = none;
        unsync_loads = none;
        mutations = record-one g p.present views.present th.present;
        mutating = refl;
      };
    } in
    scene_made-shown t s views (state_blank views.present stores) zeros value None Release l refl z
