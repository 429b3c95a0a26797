-- Read-modify-writes of an atomic of a run, and the accesses that don't synchronize.
use Rattle.std.proofs.Common.{◌≡◌, ℕ, ◌-◌, ◌<◌, Bool, true, false, List, [], ◌∷◌, length, get_or, set, subst, ap, sym, ◌∙◌, Some, Result, Ok, Err, OnErr}
use Rattle.std.specs.Prelude.{nat_lt, if◌then◌else◌}
use Rattle.std.specs.List.{slice_get}
use Rattle.std.specs.declared.sync.atomic.Ordering.{Ordering}
use Rattle.std.proofs.lemmas.List.{length-set, set-get_or}
use Rattle.loom_views.specs.declared.rt.atomic.State.{State}
use Rattle.loom_views.specs.declared.rt.failure.FailureKind.{FailureKind}
use Rattle.loom_views.specs.declared.rt.failure.FailureKind.TheVariants.{TooManyStores}
use Rattle.loom_views.specs.declared.rt.synchronize.ThreadViews.{ThreadViews}
use Rattle.loom_views.specs.declared.rt.views.Kept.{Kept}
use Rattle.loom_views.specs.declared.rt.views.Kept.TheVariants.{Atomic}
use Rattle.loom_views.specs.declared.rt.views.Views.{Views}
use Rattle.loom_views.specs.Atomic.History.{Scene, Answer, in_slot, blank, scene_read, scene_loaded, scene_made, scene_recorded_load, scene_recorded_store, update_read_step, update_write_step, update_fail_step, unsync_load_step, mutate_step, with_newest, mutate_end_step}
use Rattle.loom_views.specs.Atomic.Shown.{ShowsScene, AnswersAs, FinishesAs}
use Rattle.loom_views.specs.Views.{Keeps, Points, ShowsViews, LoadsAs, StoresAs, IsSlotKept, scene_of, access, points_after_update_read, points_after_update_write, points_after_update_fail, points_after_unsync_load, points_after_with_mut, points_after_with_mut_end}
use Rattle.loom_views.proofs.Views.Growth.{same, grown-joined}
use Rattle.loom_views.proofs.Atomic.Growth.{read-length, scene_read-grown, scene_loaded-grown, scene_made-grown}
use Rattle.loom_views.proofs.Atomic.Table.Lists.{set-same}
use Rattle.loom_views.proofs.Atomic.Table.Carried.{found, found_atomic, thread-stepped}
use Rattle.loom_views.proofs.Atomic.Table.Accesses.{LeadsTo, Grows, HasStore, conflicts-leads, some-pushed, scene-shown, answers-stepped, finishes-stepped}

-- a step keeps what an access of an atomic of a run is to keep: its graph grows by thread t alone, and its atomic has a store
pub record IsKeeping (t : ℕ) (step : Scene → Result Answer FailureKind) : Type 0 where
  pub grows : (s : Scene) → LeadsTo (Grows t s.graph) (step s)
  pub stores : (s : Scene) → HasStore s → LeadsTo HasStore (step s)

-- the store that is read is written in its place
read-stores : (t : ℕ) (s : Scene) (slot : ℕ) → HasStore s → HasStore (scene_read t s slot)
read-stores t s slot h = subst (λ n. 0 < n) (sym (read-length t s slot)) h

room-leads : (P : Scene → Type 0) (a : Bool) (made : Result Answer FailureKind) → LeadsTo P made → LeadsTo P (if a then made else Err TooManyStores)
room-leads P true made m = m
room-leads P false made m = tt

update_read-keeps : (t slot : ℕ) → IsKeeping t (λ s. update_read_step t s slot)
update_read-keeps t slot = record {
  grows = λ s. conflicts-leads (Grows t s.graph) s (s.history.mutations ∷ []) _ (scene_read-grown t (scene_recorded_load s) slot);
  stores = λ s h. conflicts-leads HasStore s (s.history.mutations ∷ []) _ (read-stores t (scene_recorded_load s) slot h);
}

update_write-keeps : (t slot value : ℕ) (success : Ordering) → IsKeeping t (λ s. update_write_step t s slot value success)
update_write-keeps t slot value success = record {
  grows = λ s. let k = (in_slot s.history.stores slot).sync in leads (Grows t s.graph) s (grown-joined (scene_loaded-grown t (scene_recorded_store s) k success) (scene_made-grown t (scene_loaded (scene_recorded_store s) k success) value (Some k) success));
  stores = λ s h. leads HasStore s (some-pushed s.history.stores _);
}
  where
    leads : (P : Scene → Type 0) (s : Scene) → P (scene_made t (scene_loaded (scene_recorded_store s) (in_slot s.history.stores slot).sync success) value (Some (in_slot s.history.stores slot).sync) success) → LeadsTo P (update_write_step t s slot value success)
    leads P s h = conflicts-leads P s (s.history.mutations ∷ s.history.unsync_loads ∷ []) _ (room-leads P (nat_lt (length s.history.stores) 65535) (Ok (record { scene = scene_made t (scene_loaded (scene_recorded_store s) (in_slot s.history.stores slot).sync success) value (Some (in_slot s.history.stores slot).sync) success; value = value })) h)

unsync_load-keeps : (t : ℕ) → IsKeeping t unsync_load_step
unsync_load-keeps t = record {
  grows = λ s. conflicts-leads (Grows t s.graph) s (s.history.mutations ∷ s.history.stored ∷ []) _ same;
  stores = λ s h. conflicts-leads HasStore s (s.history.mutations ∷ s.history.stored ∷ []) _ h;
}

mutate-keeps : (t : ℕ) → IsKeeping t mutate_step
mutate-keeps t = record {
  grows = λ s. conflicts-leads (Grows t s.graph) s (s.history.loads ∷ s.history.unsync_loads ∷ s.history.stored ∷ s.history.mutations ∷ []) _ same;
  stores = λ s h. conflicts-leads HasStore s (s.history.loads ∷ s.history.unsync_loads ∷ s.history.stored ∷ s.history.mutations ∷ []) _ h;
}

mutate_end-keeps : (t value : ℕ) → IsKeeping t (λ s. mutate_end_step s value)
mutate_end-keeps t value = record {
  grows = λ s. conflicts-leads (Grows t s.graph) (closed s) (s.history.loads ∷ s.history.unsync_loads ∷ s.history.stored ∷ s.history.mutations ∷ []) _ same;
  stores = λ s h. conflicts-leads HasStore (closed s) (s.history.loads ∷ s.history.unsync_loads ∷ s.history.stored ∷ s.history.mutations ∷ []) _ (subst (λ n. 0 < n) (sym (length-set s.history.stores (length s.history.stores - 1) (record (get_or s.history.stores (length s.history.stores - 1) blank) { value = value }))) h);
}
  where
    closed : Scene → Scene
    closed s = record s { history = record s.history { mutating = false; stores = with_newest s.history.stores value } }

module _ (p : Points) (v : Views) (t n : ℕ) (d : ThreadViews) (state : State) (l : t < v.count) (m : t < 5) (kept : slice_get v.places n ≡ Some (Atomic state)) (z : ShowsViews p v) where
  -- what is asked of a call on the atomic, of each scene that thread t and the atomic make
  abbrev Answering : (step : Scene → Result Answer FailureKind) → Result ℕ FailureKind → ThreadViews → State → Type 0
  Answering step result views new = (s : Scene) → ShowsScene t s (get_or v.threads t d) state → slice_get p.places n ≡ Some (Keeps s.history) → HasStore s → AnswersAs t (step s) result views new

  abbrev Finishing : (step : Scene → Result Answer FailureKind) → Result (Unit {0}) FailureKind → ThreadViews → State → Type 0
  Finishing step result views new = (s : Scene) → ShowsScene t s (get_or v.threads t d) state → slice_get p.places n ≡ Some (Keeps s.history) → HasStore s → FinishesAs t (step s) result views new

  -- an access that answers a value, and one that answers none
  access-answers : (step : Scene → Result Answer FailureKind) (result : Result ℕ FailureKind) (views : ThreadViews) (new : State) → IsKeeping t step → Answering step result views new → LoadsAs (access p t n step) result (record v { threads = set v.threads t views; places = set v.places n (Atomic new) })
  access-answers step result views new k answers =
      let f = found p v t d l m z in
      let o = found_atomic p v n state kept z in
      let s = scene_of p f.own o.history in
      rw (f.is, o.is) (answers-stepped p v t n d state l m kept z (step s) result views new (k.grows s) (k.stores s o.some) (answers s (scene-shown p v t n d state l m kept z f o) o.is o.some))

  access-finishes : (step : Scene → Result Answer FailureKind) (result : Result (Unit {0}) FailureKind) (views : ThreadViews) (new : State) → IsKeeping t step → Finishing step result views new → StoresAs (access p t n step) result (record v { threads = set v.threads t views; places = set v.places n (Atomic new) })
  access-finishes step result views new k finishes =
      let f = found p v t d l m z in
      let o = found_atomic p v n state kept z in
      let s = scene_of p f.own o.history in
      rw (f.is, o.is) (finishes-stepped p v t n d state l m kept z (step s) result views new (k.grows s) (k.stores s o.some) (finishes s (scene-shown p v t n d state l m kept z f o) o.is o.some))

  -- the same where the thread's views stay as they were
  access-answers_still : (step : Scene → Result Answer FailureKind) (result : Result ℕ FailureKind) (new : State) → IsKeeping t step → Answering step result (get_or v.threads t d) new → LoadsAs (access p t n step) result (record v { places = set v.places n (Atomic new) })
  access-answers_still step result new k answers = subst (λ (kepts : List ThreadViews). LoadsAs (access p t n step) result (record v { threads = kepts; places = set v.places n (Atomic new) })) (set-get_or v.threads t d) (access-answers step result (get_or v.threads t d) new k answers)

  access-finishes_still : (step : Scene → Result Answer FailureKind) (result : Result (Unit {0}) FailureKind) (new : State) → IsKeeping t step → Finishing step result (get_or v.threads t d) new → StoresAs (access p t n step) result (record v { places = set v.places n (Atomic new) })
  access-finishes_still step result new k finishes = subst (λ (kepts : List ThreadViews). StoresAs (access p t n step) result (record v { threads = kepts; places = set v.places n (Atomic new) })) (set-get_or v.threads t d) (access-finishes step result (get_or v.threads t d) new k finishes)

  -- a slot in which a store of the atomic is kept
  slot-kept : (slot : ℕ) (s : Scene) → slice_get p.places n ≡ Some (Keeps s.history) → IsSlotKept (slice_get p.places n) slot → slot < length s.history.stores
  slot-kept slot s e b = let within = rw e at b in within.1

  pub update_read-moved : (slot : ℕ) (result : Result ℕ FailureKind) (new : State) → ((s : Scene) → ShowsScene t s (get_or v.threads t d) state → slot < length s.history.stores → AnswersAs t (update_read_step t s slot) result (get_or v.threads t d) new) → IsSlotKept (slice_get p.places n) slot → LoadsAs (points_after_update_read p t n slot) result (record v { places = set v.places n (Atomic new) })
  update_read-moved slot result new answers b = access-answers_still (λ s. update_read_step t s slot) result new (update_read-keeps t slot) (λ s y e h. answers s y (slot-kept slot s e b))

  pub update_write-moved : (slot value : ℕ) (success : Ordering) (result : Result (Unit {0}) FailureKind) (views : ThreadViews) (new : State) → ((s : Scene) → ShowsScene t s (get_or v.threads t d) state → slot < length s.history.stores → FinishesAs t (update_write_step t s slot value success) result views new) → IsSlotKept (slice_get p.places n) slot → StoresAs (points_after_update_write p t n slot value success) result (record v { threads = set v.threads t views; places = set v.places n (Atomic new) })
  update_write-moved slot value success result views new finishes b = access-finishes (λ s. update_write_step t s slot value success) result views new (update_write-keeps t slot value success) (λ s y e h. finishes s y (slot-kept slot s e b))

  pub update_fail-moved : (slot : ℕ) (failure : Ordering) (views : ThreadViews) → ((u : ℕ) (s : Scene) → ShowsScene u s (get_or v.threads t d) state → slot < length s.history.stores → ShowsScene u (update_fail_step s slot failure) views state) → IsSlotKept (slice_get p.places n) slot → ShowsViews (points_after_update_fail p t n slot failure) (record v { threads = set v.threads t views })
  update_fail-moved slot failure views shown b =
      let f = found p v t d l m z in
      let o = found_atomic p v n state kept z in
      let s = scene_of p f.own o.history in
      let after = update_fail_step s slot failure in
      let y = shown t s (scene-shown p v t n d state l m kept z f o) (slot-kept slot s o.is b) in
      rw (f.is, o.is) (thread-stepped p v t after.graph after.thread views f.there (scene_loaded-grown t s (in_slot o.history.stores slot).sync failure) y.chained y.present y.thread z)

  pub unsync_load-moved : (result : Result ℕ FailureKind) (new : State) → ((u : ℕ) (s : Scene) → ShowsScene u s (get_or v.threads t d) state → 0 < length s.history.stores → AnswersAs u (unsync_load_step s) result (get_or v.threads t d) new) → LoadsAs (points_after_unsync_load p t n) result (record v { places = set v.places n (Atomic new) })
  unsync_load-moved result new answers = access-answers_still unsync_load_step result new (unsync_load-keeps t) (λ s y e h. answers t s y h)

  pub with_mut-moved : (result : Result ℕ FailureKind) (new : State) → ((u : ℕ) (s : Scene) → ShowsScene u s (get_or v.threads t d) state → 0 < length s.history.stores → AnswersAs u (mutate_step s) result (get_or v.threads t d) new) → LoadsAs (points_after_with_mut p t n) result (record v { places = set v.places n (Atomic new) })
  with_mut-moved result new answers = access-answers_still mutate_step result new (mutate-keeps t) (λ s y e h. answers t s y h)

  pub with_mut_end-moved : (value : ℕ) (result : Result (Unit {0}) FailureKind) (new : State) → ((u : ℕ) (s : Scene) → ShowsScene u s (get_or v.threads t d) state → 0 < length s.history.stores → FinishesAs u (mutate_end_step s value) result (get_or v.threads t d) new) → StoresAs (points_after_with_mut_end p t n value) result (record v { places = set v.places n (Atomic new) })
  with_mut_end-moved value result new finishes = access-finishes_still (λ s. mutate_end_step s value) result new (mutate_end-keeps t value) (λ s y e h. finishes t s y h)

-- an access that fails leaves what is kept as it was
pub kept-unchanged : {A : Type 0} (v : Views) (n : ℕ) (state new : State) (result : Result A FailureKind) → slice_get v.places n ≡ Some (Atomic state) → OnErr result (new ≡ state) → OnErr result (◌≡◌ {A = Views} (record v { places = set v.places n (Atomic new) }) v)
kept-unchanged v n state new (Ok x) e h = tt
kept-unchanged v n state new (Err kind) e h = ap (λ (s : State). record v { places = set v.places n (Atomic s) }) h ∙ ap (λ (xs : List Kept). record v { places = xs }) (set-same v.places n (Atomic state) e)

pub all-unchanged : {A : Type 0} (v : Views) (t n : ℕ) (d views : ThreadViews) (state new : State) (result : Result A FailureKind) → slice_get v.places n ≡ Some (Atomic state) → OnErr result (new ≡ state) → OnErr result (views ≡ get_or v.threads t d) → OnErr result (◌≡◌ {A = Views} (record v { threads = set v.threads t views; places = set v.places n (Atomic new) }) v)
all-unchanged {A} v t n d views state new (Ok x) e h k = tt
all-unchanged {A} v t n d views state new (Err kind) e h k =
    ap (λ (own : ThreadViews). record v { threads = set v.threads t own; places = set v.places n (Atomic new) }) k
    ∙ ap (λ (xs : List ThreadViews). record v { threads = xs; places = set v.places n (Atomic new) }) (set-get_or v.threads t d)
    ∙ kept-unchanged {A = A} v n state new (Err kind) e h

-- an object that is written in its place
pub place-unchanged : (v : Views) (n : ℕ) (kept : Kept) → slice_get v.places n ≡ Some kept → ◌≡◌ {A = Views} (record v { places = set v.places n kept }) v
place-unchanged v n kept e = ap (λ (xs : List Kept). record v { places = xs }) (set-same v.places n kept e)
