-- The accesses of an atomic of a run.
use Rattle.std.proofs.Common.{◌≡◌, ℕ, ◌<◌, Bool, true, false, List, [], ◌∷◌, ◌++◌, length, get_or, set, subst, ap, sym, ◌∙◌, arith, ⊎_elim, Option, Some, None, Result, Ok, Err}
use Rattle.std.specs.Prelude.{IsTrue, MatchResult, nat_lt, ◌==◌, if◌then◌else◌}
use Rattle.std.specs.List.{slice_get, list_any, AllByRecursion}
use Rattle.std.specs.declared.sync.atomic.Ordering.{Ordering}
use Rattle.std.specs.declared.sync.atomic.Ordering.TheVariants.{Release}
use Rattle.std.proofs.lemmas.Bool.{or_cases, eqb-true, false≢true}
use Rattle.std.proofs.lemmas.List.{length-set, set-get_or}
use Rattle.std.proofs.lemmas.Option.{slice_get_within}
use Rattle.loom_views.specs.declared.rt.atomic.reader.Reader.{Reader}
use Rattle.loom_views.specs.declared.rt.atomic.State.{State}
use Rattle.loom_views.specs.declared.rt.failure.FailureKind.{FailureKind}
use Rattle.loom_views.specs.declared.rt.failure.FailureKind.TheVariants.{OrdersEqual, Race, OpenAccess, TooManyStores}
use Rattle.loom_views.specs.declared.rt.synchronize.ThreadViews.{ThreadViews}
use Rattle.loom_views.specs.declared.rt.views.Kept.TheVariants.{Atomic}
use Rattle.loom_views.specs.declared.rt.views.Views.{Views}
use Rattle.loom_views.specs.Graph.{Graph, IsChained, IsPresent}
use Rattle.loom_views.specs.ThreadViews.{ThreadPoints, ShowsThread}
use Rattle.loom_views.specs.Atomic.History.{History, Scene, Answer, in_slot, races, new_history, new_step, conflicts, load_step, store_step, readable, fails_by_orders, drops_in_slot, scene_read, scene_loaded, scene_made, scene_recorded_load, scene_recorded_store, StorePoints}
use Rattle.loom_views.specs.Atomic.Shown.{ShowsScene, AnswersAs, FinishesAs}
use Rattle.loom_views.specs.Views.{Place, Meets, Keeps, Records, has_slot, readable_by, Points, ShowsViews, LoadsAs, StoresAs, OffersAs, IsSlotKept, scene_of, points_of, accessed, slot_set, points_with_atomic, points_after_load, points_after_store, readable_slots_of}
use Rattle.loom_views.proofs.Atomic.Choices.{readable-bounds}
use Rattle.loom_views.proofs.Views.Growth.{GrownBy, shows-grown, grown-joined}
use Rattle.loom_views.proofs.Atomic.Growth.{read-length, scene_read-grown, scene_loaded-grown, scene_made-grown}
use Rattle.loom_views.proofs.Atomic.Table.Carried.{Found, found, FoundAtomic, found_atomic, threads-set, places-set, places-grown, stamps-grown, place-added}

-- what holds of the scene that an access leads to, if it leads to one
abbrev pub LeadsTo : (Scene → Type 0) → Result Answer FailureKind → Type 0
LeadsTo P (Ok answer) = P answer.scene
LeadsTo P (Err kind) = Unit {0}

-- its graph has grown by thread t alone
abbrev pub Grows : ℕ → Graph → Scene → Type 0
Grows t g s = GrownBy t g s.graph

-- its atomic has a store
abbrev pub HasStore : Scene → Type 0
HasStore s = 0 < length s.history.stores

pub conflicts-leads : (P : Scene → Type 0) (s : Scene) (kinds : List (List ℕ)) (passed : Result Answer FailureKind) → LeadsTo P passed → LeadsTo P (conflicts s kinds passed)
conflicts-leads P s kinds passed h = tested s.history.mutating (list_any (λ points. races s.graph points s.thread.present) kinds)
  where
    tested : (a b : Bool) → LeadsTo P (if a then Err OpenAccess else (if b then Err Race else passed))
    tested true b = tt
    tested false true = tt
    tested false false = h

-- what holds of the scene that a load leads to where its tests pass
load-leads : (P : Scene → Type 0) (t : ℕ) (s : Scene) (slot : ℕ) (order : Ordering) → P (scene_loaded (scene_read t (scene_recorded_load s) slot) (in_slot s.history.stores slot).sync order) → LeadsTo P (load_step t s slot order)
load-leads P t s slot order h = conflicts-leads P s (s.history.mutations ∷ []) _ h

-- what holds of the scene that a store leads to where its tests pass
store-leads : (P : Scene → Type 0) (t : ℕ) (s : Scene) (value : ℕ) (order : Ordering) → P (scene_made t (scene_recorded_store s) value None order) → LeadsTo P (store_step t s value order)
store-leads P t s value order h = conflicts-leads P s (s.history.mutations ∷ s.history.unsync_loads ∷ []) _ (roomy (nat_lt (length s.history.stores) 65535) (Ok (record { scene = scene_made t (scene_recorded_store s) value None order; value = value })) h)
  where
    roomy : (a : Bool) (made : Result Answer FailureKind) → LeadsTo P made → LeadsTo P (if a then made else Err TooManyStores)
    roomy true made m = m
    roomy false made m = tt

pub load-grows : (t : ℕ) (s : Scene) (slot : ℕ) (order : Ordering) → LeadsTo (Grows t s.graph) (load_step t s slot order)
load-grows t s slot order =
    let k = (in_slot s.history.stores slot).sync in
    load-leads (Grows t s.graph) t s slot order (grown-joined (scene_read-grown t (scene_recorded_load s) slot) (scene_loaded-grown t (scene_read t (scene_recorded_load s) slot) k order))

pub load-stores : (t : ℕ) (s : Scene) (slot : ℕ) (order : Ordering) → HasStore s → LeadsTo HasStore (load_step t s slot order)
load-stores t s slot order h = load-leads HasStore t s slot order (subst (λ n. 0 < n) (sym (read-length t (scene_recorded_load s) slot)) h)

pub store-grows : (t : ℕ) (s : Scene) (value : ℕ) (order : Ordering) → LeadsTo (Grows t s.graph) (store_step t s value order)
store-grows t s value order = store-leads (Grows t s.graph) t s value order (scene_made-grown t (scene_recorded_store s) value None order)

pub some-pushed : (stores : List StorePoints) (store : StorePoints) → 0 < length (stores ++ store ∷ [])
some-pushed [] store = omega arith
some-pushed (other ∷ stores) store = omega arith

some-made : (t : ℕ) (s : Scene) (value : ℕ) (order : Ordering) → HasStore (scene_made t s value None order)
some-made t s value order = some-pushed s.history.stores _

pub store-stores : (t : ℕ) (s : Scene) (value : ℕ) (order : Ordering) → LeadsTo HasStore (store_step t s value order)
store-stores t s value order = store-leads HasStore t s value order (some-made t (scene_recorded_store s) value order)

module _ (p : Points) (v : Views) (t n : ℕ) (d : ThreadViews) (state : State) (l : t < v.count) (m : t < 5) (kept : slice_get v.places n ≡ Some (Atomic state)) (z : ShowsViews p v) where
  -- the scene that thread t and atomic n make
  pub scene-shown : (f : Found p t (get_or v.threads t d)) (o : FoundAtomic p n state) → ShowsScene t (scene_of p f.own o.history) (get_or v.threads t d) state
  scene-shown f o = record { chained = z.chained; present = f.present; thread = f.shown; history = o.shown }

  -- the scene that an access leads to is shown within the run
  pub scene-stepped : (s : Scene) (views : ThreadViews) (new : State) → Grows t p.graph s → HasStore s → ShowsScene t s views new → ShowsViews (points_of p t n s) (record v { threads = set v.threads t views; places = set v.places n (Atomic new) })
  scene-stepped s views new r h y =
      let f = found p v t d l m z in
      let o = found_atomic p v n state kept z in
      let five = z.five in
      let most = z.most in
      record {
        chained = y.chained;
        count = length-set p.threads t s.thread ∙ z.count;
        most = omega (arith, length-set p.threads t s.thread);
        five = length-set v.threads t views ∙ z.five;
        threads = threads-set r p.threads v.threads s.thread views f.there (omega arith) z.threads y.present y.thread;
        places = places-set s.graph p.places v.places n (Keeps s.history) (Atomic new) (slice_get_within p.places n (Keeps o.history) o.is) (slice_get_within v.places n (Atomic state) kept) (places-grown r p.places v.places z.places) (y.history, h);
        stamps = stamps-grown r p.stamps v.stamps z.stamps;
        global = shows-grown r p.global v.global z.global;
      }

  pub answers-stepped : (step : Result Answer FailureKind) (result : Result ℕ FailureKind) (views : ThreadViews) (new : State) → LeadsTo (Grows t p.graph) step → LeadsTo HasStore step → AnswersAs t step result views new → LoadsAs (accessed p t n step) result (record v { threads = set v.threads t views; places = set v.places n (Atomic new) })
  answers-stepped (Ok answer) result views new r h a = (a.0, scene-stepped answer.scene views new r h a.1)
  answers-stepped (Err kind) result views new r h a = a

  pub finishes-stepped : (step : Result Answer FailureKind) (result : Result (Unit {0}) FailureKind) (views : ThreadViews) (new : State) → LeadsTo (Grows t p.graph) step → LeadsTo HasStore step → FinishesAs t step result views new → StoresAs (accessed p t n step) result (record v { threads = set v.threads t views; places = set v.places n (Atomic new) })
  finishes-stepped (Ok answer) result views new r h a = (a.0, scene-stepped answer.scene views new r h a.1)
  finishes-stepped (Err kind) result views new r h a = a

  pub load-moved : (slot : ℕ) (order : Ordering) (result : Result ℕ FailureKind) (views : ThreadViews) (new : State) → ((s : Scene) → ShowsScene t s (get_or v.threads t d) state → slot < length s.history.stores → AnswersAs t (load_step t s slot order) result views new) → IsSlotKept (slice_get p.places n) slot → LoadsAs (points_after_load p t n slot order) result (record v { threads = set v.threads t views; places = set v.places n (Atomic new) })
  load-moved slot order result views new answers b =
      let f = found p v t d l m z in
      let o = found_atomic p v n state kept z in
      let s = scene_of p f.own o.history in
      let within = rw o.is at b in
      rw (f.is, o.is) (answers-stepped (load_step t s slot order) result views new (load-grows t s slot order) (load-stores t s slot order o.some) (answers s (scene-shown f o) within.1))

  pub store-moved : (value : ℕ) (order : Ordering) (result : Result (Unit {0}) FailureKind) (new : State) → ((s : Scene) → ShowsScene t s (get_or v.threads t d) state → FinishesAs t (store_step t s value order) result (get_or v.threads t d) new) → StoresAs (points_after_store p t n value order) result (record v { places = set v.places n (Atomic new) })
  store-moved value order result new finishes =
      let f = found p v t d l m z in
      let o = found_atomic p v n state kept z in
      let s = scene_of p f.own o.history in
      rw (f.is, o.is) (subst (λ (kepts : List ThreadViews). StoresAs (accessed p t n (store_step t s value order)) result (record v { threads = kepts; places = set v.places n (Atomic new) })) (set-get_or v.threads t d)
      (finishes-stepped (store_step t s value order) result (get_or v.threads t d) new (store-grows t s value order) (store-stores t s value order) (finishes s (scene-shown f o))))

  pub offers-readable : (reader : Reader) (result : Result (List Bool) FailureKind) → ((s : Scene) → ShowsScene t s (get_or v.threads t d) state → MatchResult result (λ set. (set ≡ slot_set (readable s.graph t s.thread reader s.history.stores)) × (fails_by_orders s.graph t s.thread reader s.history.stores ≡ false)) (λ kind. (kind ≡ OrdersEqual) × IsTrue (fails_by_orders s.graph t s.thread reader s.history.stores))) → OffersAs (readable_slots_of p t n reader) result
  offers-readable reader (Ok set) offers =
      let f = found p v t d l m z in
      let o = found_atomic p v n state kept z in
      let h = offers (scene_of p f.own o.history) (scene-shown f o) in
      rw (f.is, o.is, h.1) (ap Ok h.0)
  offers-readable reader (Err kind) refuses =
      let f = found p v t d l m z in
      let o = found_atomic p v n state kept z in
      let h = refuses (scene_of p f.own o.history) (scene-shown f o) in
      rw (f.is, o.is, h.1) (ap Err h.0)

pub atomic-added : (p : Points) (v : Views) (t value : ℕ) (d : ThreadViews) (state : State) → t < v.count → t < 5 → ShowsViews p v → ((g : Graph) (own : ThreadPoints) → IsChained g → IsPresent g t own.present → ShowsThread g t own (get_or v.threads t d) → ShowsScene t (new_step t g own value) (get_or v.threads t d) state) → ShowsViews (points_with_atomic p t value) (record v { places = v.places ++ Atomic state ∷ [] })
atomic-added p v t value d state l m z made =
    let f = found p v t d l m z in
    let s : Scene = record { graph = p.graph; thread = f.own; history = new_history f.own.present } in
    let y = made p.graph f.own z.chained f.present f.shown in
    rw f.is (place-added p v (scene_made 5 s value None Release).graph (Keeps (new_step t p.graph f.own value).history) (Atomic state) (scene_made-grown 5 s value None Release) y.chained (y.history, some-made t s value Release) z)

member-at : (P : ℕ → Type 0) (xs : List ℕ) (i : ℕ) → AllByRecursion P xs → list_any (λ j. j == i) xs ≡ true → P i
member-at P [] i h e = absurd (false≢true e)
member-at P (x ∷ xs) i h e = ⊎_elim (λ q. subst P (eqb-true x i q) h.0) (λ q. member-at P xs i h.1 q) (or_cases (x == i) (list_any (λ j. j == i) xs) e)

-- each slot that may be chosen keeps a store
pub readable-kept : (p : Points) (t n : ℕ) (reader : Reader) (slots : List ℕ) (i : ℕ) → readable_slots_of p t n reader ≡ Ok slots → has_slot slots i ≡ true → IsSlotKept (slice_get p.places n) i
readable-kept p t n reader slots i e h = go (slice_get p.threads t) (slice_get p.places n) e
  where
    chosen : (g : Graph) (own : ThreadPoints) (history : History) (fails : Bool) → ◌≡◌ {A = Result (List ℕ) FailureKind} (if fails then Err OrdersEqual else Ok (readable g t own reader history.stores)) (Ok slots) → (i < 7) × (i < length history.stores)
    chosen g own history true q = absurd (cc)
    chosen g own history false q =
        let s : readable g t own reader history.stores ≡ slots = cc in
        member-at (λ k. (k < 7) × (k < length history.stores)) slots i (subst (AllByRecursion (λ k. (k < 7) × (k < length history.stores))) s (readable-bounds (drops_in_slot g t own reader history.stores) (length history.stores))) h

    go : (o : Option ThreadPoints) (q : Option Place) → readable_by p t reader o q ≡ Ok slots → IsSlotKept q i
    go o None b = tt
    go o (Some (Meets k)) b = tt
    go o (Some (Records cell)) b = tt
    go None (Some (Keeps history)) b = absurd (cc)
    go (Some own) (Some (Keeps history)) b = chosen p.graph own history (fails_by_orders p.graph t own reader history.stores) b
