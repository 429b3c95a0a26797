-- Accesses of an atomic, and acquire fences: the same is answered and seen of what they lead to.
use Rattle.std.proofs.Common.{◌≡◌, ℕ, ◌<◌, Bool, true, false, ◌||◌, List, [], ◌∷◌, ◌++◌, length, set, refl, ap, ap₂, ◌∙◌, Option, Some, None, Result, Ok, Err}
use Rattle.std.specs.Prelude.{nat_lt, slice_get, if◌then◌else◌}
use Rattle.std.specs.List.{flat_map, list_any}
use Rattle.std.specs.declared.sync.atomic.Ordering.{Ordering}
use Rattle.std.specs.declared.sync.atomic.Ordering.TheVariants.{Relaxed, Release, Acquire, AcqRel, SeqCst}
use Rattle.loom_views.specs.declared.rt.atomic.reader.Reader.{Reader}
use Rattle.loom_views.specs.declared.rt.failure.FailureKind.{FailureKind}
use Rattle.loom_views.specs.declared.rt.failure.FailureKind.TheVariants.{OpenAccess, OrdersEqual, Race, TooManyStores}
use Rattle.loom_views.specs.Graph.{Graph}
use Rattle.loom_views.specs.Limits.{most_stores}
use Rattle.loom_views.specs.Orderings.{is_acquire}
use Rattle.loom_views.specs.AccessRecords.{races}
use Rattle.loom_views.specs.ThreadViews.{ThreadPoints}
use Rattle.loom_views.specs.Atomic.History.{StorePoints, History, Scene, Answer, in_slot, readable, fails_by_orders, after_read, graph_after_make, stores_after_make, conflicts, scene_read, scene_loaded, scene_made, scene_recorded_load, scene_recorded_store, scene_recorded_unsync_load, scene_recorded_mutation, load_step, with_room, store_step, update_read_step, update_write_step, update_fail_step, newest_value, with_newest, unsync_load_step, mutate_step, mutate_end_step, new_history, new_step}
use Rattle.loom_views.specs.Atomic.Fences.{Standing, after_stores}
use Rattle.loom_views.specs.Views.{Keeps, Points, Accessed, scene_of, points_of, accessed, access_by, access, add_atomic_by, points_with_atomic, points_after_load, points_after_store, points_after_update_read, points_after_update_write, update_fail_by, points_after_update_fail, points_after_unsync_load, points_after_with_mut, points_after_with_mut_end, stores_at, acquire_fence_by, points_after_acquire_fence, points_after_fence, points_after_release_fence, readable_by, readable_slots_of}
use Rattle.loom_views.specs.InOrder.{IsRising}
use Rattle.loom_views.proofs.Sight.Fronts.{SameFront, Later, BothQuiet, both_quiet_itself, both_quiet_then, both_quiet_step, step as step_front, appended, races_same}
use Rattle.loom_views.proofs.Sight.Shapes.{Both, no_one, both, SameThread, SameStores, SameHistory, same_atomic, Same, acting, by_place, by_thread, front_later, thread_later, history_later, points_later, thread_set, place_set, place_added}
use Rattle.loom_views.proofs.Sight.Moves.{thread_moved, release_fence_same, meet_same}
use Rattle.loom_views.proofs.Sight.Stores.{after_read_same, make_same, in_slot_same, newest_same, with_newest_same, none_stored, readable_same, fails_same, SameStanding, after_stores_same, places_stores}

module _ (R : ℕ → ℕ → ℕ → Type 0) (rising : IsRising R) where
  -- the same is seen of the scenes to which two accesses have come
  pub record SameScene (g h : Graph) (t : ℕ) (s u : Scene) : Type 0 where
    pub later : Later R g h s.graph u.graph
    pub quiet : BothQuiet g h s.graph u.graph
    pub none : SameFront R s.graph u.graph [] []
    pub thread : SameThread R s.graph u.graph t s.thread u.thread
    pub history : SameHistory R s.graph u.graph s.history u.history

  -- both answer the same value, or fail alike
  abbrev pub AnswersSame : Graph → Graph → ℕ → Result Answer FailureKind → Result Answer FailureKind → Type 0
  AnswersSame g h t (Ok a) (Ok b) = (a.value ≡ b.value) × SameScene g h t a.scene b.scene
  AnswersSame g h t (Ok a) (Err kind) = ⊥
  AnswersSame g h t (Err kind) (Ok b) = ⊥
  AnswersSame g h t (Err kind) (Err other) = kind ≡ other

  abbrev pub AccessSame : Result Accessed FailureKind → Result Accessed FailureKind → Type 0
  AccessSame (Ok a) (Ok b) = (a.value ≡ b.value) × Same R a.points b.points
  AccessSame (Ok a) (Err kind) = ⊥
  AccessSame (Err kind) (Ok b) = ⊥
  AccessSame (Err kind) (Err other) = kind ≡ other

  module _ (g h : Graph) (t : ℕ) (l : t < 5) where
    -- ---- what scenes come to

    loaded_when : (c : Bool) (s u : Scene) (k m : ℕ) → SameScene g h t s u → SameFront R s.graph u.graph (k ∷ []) (m ∷ [])
        → SameScene g h t (record s { graph = if c then record { after = s.thread.present ∷ k ∷ []; raises = None } ∷ s.graph else s.graph; thread = if c then record s.thread { present = length s.graph } else s.thread })
        (record u { graph = if c then record { after = u.thread.present ∷ m ∷ []; raises = None } ∷ u.graph else u.graph; thread = if c then record u.thread { present = length u.graph } else u.thread })
    loaded_when false s u k m i f = i
    loaded_when true s u k m i f =
        let j : SameFront R s.graph u.graph (s.thread.present ∷ k ∷ []) (u.thread.present ∷ m ∷ []) = appended R rising s.graph u.graph (s.thread.present ∷ []) (k ∷ []) (u.thread.present ∷ []) (m ∷ []) i.thread.present f in
        let g' : Graph = record { after = s.thread.present ∷ k ∷ []; raises = None } ∷ s.graph in
        let h' : Graph = record { after = u.thread.present ∷ m ∷ []; raises = None } ∷ u.graph in
        let later : Later R s.graph u.graph g' h' = step_front R rising s.graph u.graph (s.thread.present ∷ k ∷ []) (u.thread.present ∷ m ∷ []) j in
        record {
          later = λ a b ks ms q. later a b ks ms (i.later a b ks ms q);
          quiet = both_quiet_then g h s.graph u.graph g' h' i.quiet (both_quiet_step s.graph u.graph (s.thread.present ∷ k ∷ []) (u.thread.present ∷ m ∷ []));
          none = front_later R s.graph u.graph g' h' later [] [] i.none;
          thread = thread_moved R rising s.graph u.graph i.none t s.thread u.thread k m l i.thread f;
          history = history_later R s.graph u.graph g' h' later s.history u.history i.history;
        }

    loaded_same : (s u : Scene) (k m : ℕ) (order : Ordering) → SameScene g h t s u → SameFront R s.graph u.graph (k ∷ []) (m ∷ []) → SameScene g h t (scene_loaded s k order) (scene_loaded u m order)
    loaded_same s u k m order i f = loaded_when (is_acquire order) s u k m i f

    -- other stores, in graphs that have grown
    with_stores : (s u : Scene) (g' h' : Graph) (xs ys : List StorePoints) → SameScene g h t s u → Later R s.graph u.graph g' h' → BothQuiet s.graph u.graph g' h' → SameFront R g' h' [] [] → SameStores R g' h' xs ys
        → SameScene g h t (record s { graph = g'; history = record s.history { stores = xs } }) (record u { graph = h'; history = record u.history { stores = ys } })
    with_stores s u g' h' xs ys i later quiet none r =
        let old : SameHistory R g' h' s.history u.history = history_later R s.graph u.graph g' h' later s.history u.history i.history in
        record {
          later = λ a b ks ms q. later a b ks ms (i.later a b ks ms q);
          quiet = both_quiet_then g h s.graph u.graph g' h' i.quiet quiet;
          none = none;
          thread = thread_later R s.graph u.graph g' h' later quiet t s.thread u.thread l i.thread;
          history = record { stores = r; loads = old.loads; stored = old.stored; unsync_loads = old.unsync_loads; mutations = old.mutations; mutating = old.mutating };
        }

    read_same : (s u : Scene) (slot : ℕ) → SameScene g h t s u → SameScene g h t (scene_read t s slot) (scene_read t u slot)
    read_same s u slot i =
        let r = after_read_same R rising s.graph u.graph t s.history.stores u.history.stores s.thread.present u.thread.present slot l i.none i.history.stores i.thread.present in
        with_stores s u (after_read s.graph t s.history.stores s.thread.present slot).graph (after_read u.graph t u.history.stores u.thread.present slot).graph
        (after_read s.graph t s.history.stores s.thread.present slot).stores (after_read u.graph t u.history.stores u.thread.present slot).stores i r.later r.quiet r.none r.stores

    made_same : (s u : Scene) (value : ℕ) (c d : Option ℕ) (order : Ordering) → SameScene g h t s u → Both (λ k m. SameFront R s.graph u.graph (k ∷ []) (m ∷ [])) c d → SameScene g h t (scene_made t s value c order) (scene_made t u value d order)
    made_same s u value c d order i f =
        let r = make_same R rising s.graph u.graph t s.history.stores u.history.stores s.thread u.thread value order l i.none i.history.stores i.thread c d f in
        with_stores s u (graph_after_make s.graph s.history.stores s.thread c order) (graph_after_make u.graph u.history.stores u.thread d order)
        (stores_after_make s.graph t s.history.stores s.thread value c order) (stores_after_make u.graph t u.history.stores u.thread value d order) i r.later r.quiet r.none r.stores

    with_history : (s u : Scene) (a b : History) → SameScene g h t s u → SameHistory R s.graph u.graph a b → SameScene g h t (record s { history = a }) (record u { history = b })
    with_history s u a b i r = record { later = i.later; quiet = i.quiet; none = i.none; thread = i.thread; history = r }

    load_recorded : (s u : Scene) → SameScene g h t s u → SameScene g h t (scene_recorded_load s) (scene_recorded_load u)
    load_recorded s u i =
        let r = i.history in
        with_history s u (record s.history { loads = s.history.loads ++ s.thread.present ∷ [] }) (record u.history { loads = u.history.loads ++ u.thread.present ∷ [] }) i
        (record { stores = r.stores; loads = appended R rising s.graph u.graph s.history.loads (s.thread.present ∷ []) u.history.loads (u.thread.present ∷ []) r.loads i.thread.present; stored = r.stored; unsync_loads = r.unsync_loads; mutations = r.mutations; mutating = r.mutating })

    store_recorded : (s u : Scene) → SameScene g h t s u → SameScene g h t (scene_recorded_store s) (scene_recorded_store u)
    store_recorded s u i =
        let r = i.history in
        with_history s u (record s.history { stored = s.history.stored ++ s.thread.present ∷ [] }) (record u.history { stored = u.history.stored ++ u.thread.present ∷ [] }) i
        (record { stores = r.stores; loads = r.loads; stored = appended R rising s.graph u.graph s.history.stored (s.thread.present ∷ []) u.history.stored (u.thread.present ∷ []) r.stored i.thread.present; unsync_loads = r.unsync_loads; mutations = r.mutations; mutating = r.mutating })

    unsync_load_recorded : (s u : Scene) → SameScene g h t s u → SameScene g h t (scene_recorded_unsync_load s) (scene_recorded_unsync_load u)
    unsync_load_recorded s u i =
        let r = i.history in
        with_history s u (record s.history { unsync_loads = s.history.unsync_loads ++ s.thread.present ∷ [] }) (record u.history { unsync_loads = u.history.unsync_loads ++ u.thread.present ∷ [] }) i
        (record { stores = r.stores; loads = r.loads; stored = r.stored; unsync_loads = appended R rising s.graph u.graph s.history.unsync_loads (s.thread.present ∷ []) u.history.unsync_loads (u.thread.present ∷ []) r.unsync_loads i.thread.present; mutations = r.mutations; mutating = r.mutating })

    -- a mutation, which is open then or isn't
    mutation_recorded : (s u : Scene) (c : Bool) → SameScene g h t s u
        → SameScene g h t (record s { history = record s.history { mutations = s.history.mutations ++ s.thread.present ∷ []; mutating = c } }) (record u { history = record u.history { mutations = u.history.mutations ++ u.thread.present ∷ []; mutating = c } })
    mutation_recorded s u c i =
        let r = i.history in
        with_history s u (record s.history { mutations = s.history.mutations ++ s.thread.present ∷ []; mutating = c }) (record u.history { mutations = u.history.mutations ++ u.thread.present ∷ []; mutating = c }) i
        (record { stores = r.stores; loads = r.loads; stored = r.stored; unsync_loads = r.unsync_loads; mutations = appended R rising s.graph u.graph s.history.mutations (s.thread.present ∷ []) u.history.mutations (u.thread.present ∷ []) r.mutations i.thread.present; mutating = refl })

    -- ---- tests

    tested : (a b c d : Bool) (x y : Result Answer FailureKind) → a ≡ b → c ≡ d → AnswersSame g h t x y → AnswersSame g h t (if a then Err OpenAccess else (if c then Err Race else x)) (if b then Err OpenAccess else (if d then Err Race else y))
    tested true true c d x y e f r = refl
    tested true false c d x y e f r = absurd (cc e)
    tested false true c d x y e f r = absurd (cc e)
    tested false false true true x y e f r = refl
    tested false false true false x y e f r = absurd (cc f)
    tested false false false true x y e f r = absurd (cc f)
    tested false false false false x y e f r = r

    -- kinds of accesses of which the same is seen
    abbrev KindsSame : Scene → Scene → List (List ℕ) → List (List ℕ) → Type 0
    KindsSame s u [] [] = Unit {0}
    KindsSame s u [] (y ∷ ys) = ⊥
    KindsSame s u (x ∷ xs) [] = ⊥
    KindsSame s u (x ∷ xs) (y ∷ ys) = SameFront R s.graph u.graph x y × KindsSame s u xs ys

    race_same : (s u : Scene) (xs ys : List (List ℕ)) → SameScene g h t s u → KindsSame s u xs ys → list_any (λ points. races s.graph points s.thread.present) xs ≡ list_any (λ points. races u.graph points u.thread.present) ys
    race_same s u [] [] i f = refl
    race_same s u [] (y ∷ ys) i f = absurd f
    race_same s u (x ∷ xs) [] i f = absurd f
    race_same s u (x ∷ xs) (y ∷ ys) i f =
        ap (λ b. b || list_any (λ points. races s.graph points s.thread.present) xs) (races_same R rising s.graph u.graph x y s.thread.present u.thread.present f.0 i.thread.present)
        ∙ ap (λ b. races u.graph y u.thread.present || b) (race_same s u xs ys i f.1)

    conflicts_same : (s u : Scene) (xs ys : List (List ℕ)) (x y : Result Answer FailureKind) → SameScene g h t s u → KindsSame s u xs ys → AnswersSame g h t x y → AnswersSame g h t (conflicts s xs x) (conflicts u ys y)
    conflicts_same s u xs ys x y i f r =
        tested s.history.mutating u.history.mutating (list_any (λ points. races s.graph points s.thread.present) xs) (list_any (λ points. races u.graph points u.thread.present) ys) x y i.history.mutating (race_same s u xs ys i f) r

    room_when : (a b : Bool) (x y : Result Answer FailureKind) → a ≡ b → AnswersSame g h t x y → AnswersSame g h t (if a then x else Err TooManyStores) (if b then y else Err TooManyStores)
    room_when true true x y e r = r
    room_when true false x y e r = absurd (cc e)
    room_when false true x y e r = absurd (cc e)
    room_when false false x y e r = refl

    room_same : (s u : Scene) (x y : Result Answer FailureKind) → SameScene g h t s u → AnswersSame g h t x y → AnswersSame g h t (with_room s x) (with_room u y)
    room_same s u x y i r = room_when (nat_lt (length s.history.stores) most_stores) (nat_lt (length u.history.stores) most_stores) x y (ap (λ n. nat_lt n most_stores) i.history.stores.count) r

    -- ---- accesses

    abbrev slot_store : Scene → ℕ → StorePoints
    slot_store s slot = in_slot s.history.stores slot

    load_step_same : (s u : Scene) (slot : ℕ) (order : Ordering) → SameScene g h t s u → AnswersSame g h t (load_step t s slot order) (load_step t u slot order)
    load_step_same s u slot order i =
        let read = in_slot_same R rising s.graph u.graph s.history.stores u.history.stores i.history.stores slot in
        let after = read_same (scene_recorded_load s) (scene_recorded_load u) slot (load_recorded s u i) in
        let r = after_read_same R rising s.graph u.graph t s.history.stores u.history.stores s.thread.present u.thread.present slot l i.none i.history.stores i.thread.present in
        let sync : SameFront R (scene_read t (scene_recorded_load s) slot).graph (scene_read t (scene_recorded_load u) slot).graph ((slot_store s slot).sync ∷ []) ((slot_store u slot).sync ∷ []) =
        front_later R s.graph u.graph (scene_read t (scene_recorded_load s) slot).graph (scene_read t (scene_recorded_load u) slot).graph r.later ((slot_store s slot).sync ∷ []) ((slot_store u slot).sync ∷ []) read.sync in
        conflicts_same s u (s.history.mutations ∷ []) (u.history.mutations ∷ [])
        (Ok (record { scene = scene_loaded (scene_read t (scene_recorded_load s) slot) (slot_store s slot).sync order; value = (slot_store s slot).value })) (Ok (record { scene = scene_loaded (scene_read t (scene_recorded_load u) slot) (slot_store u slot).sync order; value = (slot_store u slot).value }))
        i (i.history.mutations, tt)
        (read.value, loaded_same (scene_read t (scene_recorded_load s) slot) (scene_read t (scene_recorded_load u) slot) (slot_store s slot).sync (slot_store u slot).sync order after sync)

    store_step_same : (s u : Scene) (value : ℕ) (order : Ordering) → SameScene g h t s u → AnswersSame g h t (store_step t s value order) (store_step t u value order)
    store_step_same s u value order i =
        conflicts_same s u (s.history.mutations ∷ s.history.unsync_loads ∷ []) (u.history.mutations ∷ u.history.unsync_loads ∷ [])
        (with_room s (Ok (record { scene = scene_made t (scene_recorded_store s) value None order; value = value }))) (with_room u (Ok (record { scene = scene_made t (scene_recorded_store u) value None order; value = value })))
        i (i.history.mutations, (i.history.unsync_loads, tt))
        (room_same s u (Ok (record { scene = scene_made t (scene_recorded_store s) value None order; value = value })) (Ok (record { scene = scene_made t (scene_recorded_store u) value None order; value = value })) i
        (refl, made_same (scene_recorded_store s) (scene_recorded_store u) value None None order (store_recorded s u i) no_one))

    update_read_step_same : (s u : Scene) (slot : ℕ) → SameScene g h t s u → AnswersSame g h t (update_read_step t s slot) (update_read_step t u slot)
    update_read_step_same s u slot i =
        let read = in_slot_same R rising s.graph u.graph s.history.stores u.history.stores i.history.stores slot in
        conflicts_same s u (s.history.mutations ∷ []) (u.history.mutations ∷ [])
        (Ok (record { scene = scene_read t (scene_recorded_load s) slot; value = (slot_store s slot).value })) (Ok (record { scene = scene_read t (scene_recorded_load u) slot; value = (slot_store u slot).value }))
        i (i.history.mutations, tt) (read.value, read_same (scene_recorded_load s) (scene_recorded_load u) slot (load_recorded s u i))

    loaded_front : (s u : Scene) (k m : ℕ) (order : Ordering) → SameScene g h t s u → SameFront R s.graph u.graph (k ∷ []) (m ∷ []) → SameFront R (scene_loaded s k order).graph (scene_loaded u m order).graph (k ∷ []) (m ∷ [])
    loaded_front s u k m order i f = when (is_acquire order)
      where
        when : (c : Bool) → SameFront R (if c then record { after = s.thread.present ∷ k ∷ []; raises = None } ∷ s.graph else s.graph) (if c then record { after = u.thread.present ∷ m ∷ []; raises = None } ∷ u.graph else u.graph) (k ∷ []) (m ∷ [])
        when false = f
        when true =
            let j : SameFront R s.graph u.graph (s.thread.present ∷ k ∷ []) (u.thread.present ∷ m ∷ []) = appended R rising s.graph u.graph (s.thread.present ∷ []) (k ∷ []) (u.thread.present ∷ []) (m ∷ []) i.thread.present f in
            front_later R s.graph u.graph (record { after = s.thread.present ∷ k ∷ []; raises = None } ∷ s.graph) (record { after = u.thread.present ∷ m ∷ []; raises = None } ∷ u.graph) (step_front R rising s.graph u.graph (s.thread.present ∷ k ∷ []) (u.thread.present ∷ m ∷ []) j) (k ∷ []) (m ∷ []) f

    update_write_step_same : (s u : Scene) (slot value : ℕ) (order : Ordering) → SameScene g h t s u → AnswersSame g h t (update_write_step t s slot value order) (update_write_step t u slot value order)
    update_write_step_same s u slot value order i =
        let read = in_slot_same R rising s.graph u.graph s.history.stores u.history.stores i.history.stores slot in
        let k : ℕ = (slot_store s slot).sync in
        let m : ℕ = (slot_store u slot).sync in
        let loaded = loaded_same (scene_recorded_store s) (scene_recorded_store u) k m order (store_recorded s u i) read.sync in
        let f = loaded_front (scene_recorded_store s) (scene_recorded_store u) k m order (store_recorded s u i) read.sync in
        conflicts_same s u (s.history.mutations ∷ s.history.unsync_loads ∷ []) (u.history.mutations ∷ u.history.unsync_loads ∷ [])
        (with_room s (Ok (record { scene = scene_made t (scene_loaded (scene_recorded_store s) k order) value (Some k) order; value = value }))) (with_room u (Ok (record { scene = scene_made t (scene_loaded (scene_recorded_store u) m order) value (Some m) order; value = value })))
        i (i.history.mutations, (i.history.unsync_loads, tt))
        (room_same s u (Ok (record { scene = scene_made t (scene_loaded (scene_recorded_store s) k order) value (Some k) order; value = value })) (Ok (record { scene = scene_made t (scene_loaded (scene_recorded_store u) m order) value (Some m) order; value = value })) i
        (refl, made_same (scene_loaded (scene_recorded_store s) k order) (scene_loaded (scene_recorded_store u) m order) value (Some k) (Some m) order loaded (both k m f)))

    unsync_load_step_same : (s u : Scene) → SameScene g h t s u → AnswersSame g h t (unsync_load_step s) (unsync_load_step u)
    unsync_load_step_same s u i =
        conflicts_same s u (s.history.mutations ∷ s.history.stored ∷ []) (u.history.mutations ∷ u.history.stored ∷ [])
        (Ok (record { scene = scene_recorded_unsync_load s; value = newest_value s.history.stores })) (Ok (record { scene = scene_recorded_unsync_load u; value = newest_value u.history.stores }))
        i (i.history.mutations, (i.history.stored, tt)) ((newest_same R rising s.graph u.graph s.history.stores u.history.stores i.history.stores).value, unsync_load_recorded s u i)

    abbrev all_kinds : Scene → List (List ℕ)
    all_kinds s = s.history.loads ∷ s.history.unsync_loads ∷ s.history.stored ∷ s.history.mutations ∷ []

    all_kinds_same : (s u : Scene) → SameScene g h t s u → KindsSame s u (all_kinds s) (all_kinds u)
    all_kinds_same s u i = (i.history.loads, (i.history.unsync_loads, (i.history.stored, (i.history.mutations, tt))))

    mutate_step_same : (s u : Scene) → SameScene g h t s u → AnswersSame g h t (mutate_step s) (mutate_step u)
    mutate_step_same s u i =
        conflicts_same s u (all_kinds s) (all_kinds u)
        (Ok (record { scene = record s { history = record s.history { mutations = s.history.mutations ++ s.thread.present ∷ []; mutating = true } }; value = newest_value s.history.stores }))
        (Ok (record { scene = record u { history = record u.history { mutations = u.history.mutations ++ u.thread.present ∷ []; mutating = true } }; value = newest_value u.history.stores }))
        i (all_kinds_same s u i) ((newest_same R rising s.graph u.graph s.history.stores u.history.stores i.history.stores).value, mutation_recorded s u true i)

    abbrev closed : Scene → ℕ → Scene
    closed s value = record s { history = record s.history { mutating = false; stores = with_newest s.history.stores value } }

    closed_same : (s u : Scene) (value : ℕ) → SameScene g h t s u → SameScene g h t (closed s value) (closed u value)
    closed_same s u value i =
        let r = i.history in
        with_history s u (record s.history { mutating = false; stores = with_newest s.history.stores value }) (record u.history { mutating = false; stores = with_newest u.history.stores value }) i
        (record { stores = with_newest_same R rising s.graph u.graph s.history.stores u.history.stores value r.stores; loads = r.loads; stored = r.stored; unsync_loads = r.unsync_loads; mutations = r.mutations; mutating = refl })

    mutate_end_step_same : (s u : Scene) (value : ℕ) → SameScene g h t s u → AnswersSame g h t (mutate_end_step s value) (mutate_end_step u value)
    mutate_end_step_same s u value i =
        let c = closed_same s u value i in
        conflicts_same (closed s value) (closed u value) (all_kinds s) (all_kinds u)
        (Ok (record { scene = scene_recorded_mutation (closed s value); value = value })) (Ok (record { scene = scene_recorded_mutation (closed u value); value = value }))
        c (all_kinds_same s u i) (refl, mutation_recorded (closed s value) (closed u value) false c)

  -- ---- of a whole run

  module _ (p q : Points) (s : Same R p q) where
    scene_same : (t : ℕ) (a b : ThreadPoints) (x y : History) → SameThread R p.graph q.graph t a b → SameHistory R p.graph q.graph x y → SameScene p.graph q.graph t (scene_of p a x) (scene_of q b y)
    scene_same t a b x y r f = record { later = λ u k ks ms e. e; quiet = both_quiet_itself p.graph q.graph; none = s.none; thread = r; history = f }

    points_of_same : (t n : ℕ) (x y : Scene) → SameScene p.graph q.graph t x y → Same R (points_of p t n x) (points_of q t n y)
    points_of_same t n x y r =
        let grown = points_later R p q x.graph y.graph r.later r.quiet s in
        let moved = thread_set R (record p { graph = x.graph }) (record q { graph = y.graph }) grown t x.thread y.thread r.thread in
        place_set R (record p { graph = x.graph; threads = set p.threads t x.thread }) (record q { graph = y.graph; threads = set q.threads t y.thread }) moved n (Keeps x.history) (Keeps y.history) (same_atomic x.history y.history r.history)

    accessed_same : (t n : ℕ) (x y : Result Answer FailureKind) → AnswersSame p.graph q.graph t x y → AccessSame (accessed p t n x) (accessed q t n y)
    accessed_same t n (Ok a) (Ok b) r = (r.0, points_of_same t n a.scene b.scene r.1)
    accessed_same t n (Ok a) (Err kind) r = absurd r
    accessed_same t n (Err kind) (Ok b) r = absurd r
    accessed_same t n (Err kind) (Err other) r = r

    access_same : (t n : ℕ) (step : Scene → Result Answer FailureKind) → ((x y : Scene) → t < 5 → SameScene p.graph q.graph t x y → AnswersSame p.graph q.graph t (step x) (step y)) → AccessSame (access p t n step) (access q t n step)
    access_same t n step steps =
        by_thread R p.graph q.graph t (λ o u. AccessSame (access_by p t n step o (slice_get p.places n)) (access_by q t n step u (slice_get q.places n))) refl
        (λ a b l r. by_place R p.graph q.graph (λ o u. AccessSame (access_by p t n step (Some a) o) (access_by q t n step (Some b) u)) refl (λ k m f. refl)
        (λ x y f. accessed_same t n (step (scene_of p a x)) (step (scene_of q b y)) (steps (scene_of p a x) (scene_of q b y) l (scene_same t a b x y r f))) (λ x y f i. refl) (slice_get p.places n) (slice_get q.places n) (s.place n))
        (slice_get p.threads t) (slice_get q.threads t) (acting R p q s t)

    pub load_same : (t n slot : ℕ) (order : Ordering) → AccessSame (points_after_load p t n slot order) (points_after_load q t n slot order)
    load_same t n slot order = access_same t n (λ x. load_step t x slot order) (λ x y l i. load_step_same p.graph q.graph t l x y slot order i)

    pub store_same : (t n value : ℕ) (order : Ordering) → AccessSame (points_after_store p t n value order) (points_after_store q t n value order)
    store_same t n value order = access_same t n (λ x. store_step t x value order) (λ x y l i. store_step_same p.graph q.graph t l x y value order i)

    pub update_read_same : (t n slot : ℕ) → AccessSame (points_after_update_read p t n slot) (points_after_update_read q t n slot)
    update_read_same t n slot = access_same t n (λ x. update_read_step t x slot) (λ x y l i. update_read_step_same p.graph q.graph t l x y slot i)

    pub update_write_same : (t n slot value : ℕ) (order : Ordering) → AccessSame (points_after_update_write p t n slot value order) (points_after_update_write q t n slot value order)
    update_write_same t n slot value order = access_same t n (λ x. update_write_step t x slot value order) (λ x y l i. update_write_step_same p.graph q.graph t l x y slot value order i)

    pub unsync_load_same : (t n : ℕ) → AccessSame (points_after_unsync_load p t n) (points_after_unsync_load q t n)
    unsync_load_same t n = access_same t n unsync_load_step (λ x y l i. unsync_load_step_same p.graph q.graph t l x y i)

    pub mutate_same : (t n : ℕ) → AccessSame (points_after_with_mut p t n) (points_after_with_mut q t n)
    mutate_same t n = access_same t n mutate_step (λ x y l i. mutate_step_same p.graph q.graph t l x y i)

    pub mutate_end_same : (t n value : ℕ) → AccessSame (points_after_with_mut_end p t n value) (points_after_with_mut_end q t n value)
    mutate_end_same t n value = access_same t n (λ x. mutate_end_step x value) (λ x y l i. mutate_end_step_same p.graph q.graph t l x y value i)

    pub update_fail_same : (t n slot : ℕ) (order : Ordering) → Same R (points_after_update_fail p t n slot order) (points_after_update_fail q t n slot order)
    update_fail_same t n slot order =
        by_thread R p.graph q.graph t (λ o u. Same R (update_fail_by p t slot order o (slice_get p.places n)) (update_fail_by q t slot order u (slice_get q.places n))) s
        (λ a b l r. by_place R p.graph q.graph (λ o u. Same R (update_fail_by p t slot order (Some a) o) (update_fail_by q t slot order (Some b) u)) s (λ k m f. s)
        (λ x y f. failed t slot order a b x y l r f) (λ x y f i. s) (slice_get p.places n) (slice_get q.places n) (s.place n))
        (slice_get p.threads t) (slice_get q.threads t) (acting R p q s t)
      where
        failed : (t slot : ℕ) (order : Ordering) (a b : ThreadPoints) (x y : History) → t < 5 → SameThread R p.graph q.graph t a b → SameHistory R p.graph q.graph x y → Same R (update_fail_by p t slot order (Some a) (Some (Keeps x))) (update_fail_by q t slot order (Some b) (Some (Keeps y)))
        failed t slot order a b x y l r f =
            let read = in_slot_same R rising p.graph q.graph x.stores y.stores f.stores slot in
            let i = loaded_same p.graph q.graph t l (scene_of p a x) (scene_of q b y) (in_slot x.stores slot).sync (in_slot y.stores slot).sync order (scene_same t a b x y r f) read.sync in
            let one : Scene = update_fail_step (scene_of p a x) slot order in
            let two : Scene = update_fail_step (scene_of q b y) slot order in
            thread_set R (record p { graph = one.graph }) (record q { graph = two.graph }) (points_later R p q one.graph two.graph i.later i.quiet s) t one.thread two.thread i.thread

    -- a new atomic
    pub atomic_same : (t value : ℕ) → Same R (points_with_atomic p t value) (points_with_atomic q t value)
    atomic_same t value =
        by_thread R p.graph q.graph t (λ o u. Same R (add_atomic_by p t value o) (add_atomic_by q t value u)) s
        (λ a b l r. added t value a b l r) (slice_get p.threads t) (slice_get q.threads t) (acting R p q s t)
      where
        added : (t value : ℕ) (a b : ThreadPoints) → t < 5 → SameThread R p.graph q.graph t a b → Same R (add_atomic_by p t value (Some a)) (add_atomic_by q t value (Some b))
        added t value a b l r =
            let x : History = new_history a.present in
            let y : History = new_history b.present in
            let i : SameScene p.graph q.graph t (record { graph = p.graph; thread = a; history = x }) (record { graph = q.graph; thread = b; history = y }) =
            record { later = λ u k ks ms e. e; quiet = both_quiet_itself p.graph q.graph; none = s.none; thread = r; history = record { stores = none_stored R rising p.graph q.graph s.first; loads = s.none; stored = s.none; unsync_loads = s.none; mutations = r.present; mutating = refl } } in
            let one : Scene = new_step t p.graph a value in
            let two : Scene = new_step t q.graph b value in
            let j : SameScene p.graph q.graph t one two = made_same p.graph q.graph t l (record { graph = p.graph; thread = a; history = x }) (record { graph = q.graph; thread = b; history = y }) value None None Release i no_one in
            place_added R (record p { graph = one.graph }) (record q { graph = two.graph }) (points_later R p q one.graph two.graph j.later j.quiet s) (Keeps one.history) (Keeps two.history) (same_atomic one.history two.history j.history)

    -- ---- which slots may be read

    offered : (c d : Bool) (x y : List ℕ) → c ≡ d → x ≡ y → (if c then Err OrdersEqual else Ok x) ≡ (if d then Err OrdersEqual else Ok y)
    offered c d x y e f = ap₂ (λ b z. if b then Err OrdersEqual else Ok z) e f

    pub readable_slots_same : (t n : ℕ) (reader : Reader) → readable_slots_of p t n reader ≡ readable_slots_of q t n reader
    readable_slots_same t n reader =
        by_thread R p.graph q.graph t (λ o u. readable_by p t reader o (slice_get p.places n) ≡ readable_by q t reader u (slice_get q.places n)) refl
        (λ a b l r. by_place R p.graph q.graph (λ o u. readable_by p t reader (Some a) o ≡ readable_by q t reader (Some b) u) refl (λ k m f. refl)
        (λ x y f. offered (fails_by_orders p.graph t a reader x.stores) (fails_by_orders q.graph t b reader y.stores) (readable p.graph t a reader x.stores) (readable q.graph t b reader y.stores)
        (fails_same R rising p.graph q.graph t a b reader x.stores y.stores l r f.stores) (readable_same R rising p.graph q.graph t a b reader x.stores y.stores l r f.stores))
        (λ x y f i. refl) (slice_get p.places n) (slice_get q.places n) (s.place n))
        (slice_get p.threads t) (slice_get q.threads t) (acting R p q s t)

    -- ---- fences

    pub acquire_fence_same : (t : ℕ) → Same R (points_after_acquire_fence p t) (points_after_acquire_fence q t)
    acquire_fence_same t =
        by_thread R p.graph q.graph t (λ o u. Same R (acquire_fence_by p t o) (acquire_fence_by q t u)) s (λ a b l r. fenced t a b l r) (slice_get p.threads t) (slice_get q.threads t) (acting R p q s t)
      where
        fenced : (t : ℕ) (a b : ThreadPoints) → t < 5 → SameThread R p.graph q.graph t a b → Same R (acquire_fence_by p t (Some a)) (acquire_fence_by q t (Some b))
        fenced t a b l r =
            let one : Standing = after_stores (record { graph = p.graph; thread = a }) (flat_map stores_at p.places) in
            let two : Standing = after_stores (record { graph = q.graph; thread = b }) (flat_map stores_at q.places) in
            let i : SameStanding R rising p.graph q.graph t one two = after_stores_same R rising p.graph q.graph t l (flat_map stores_at p.places) (flat_map stores_at q.places) (record { graph = p.graph; thread = a }) (record { graph = q.graph; thread = b })
            (record { later = λ u k ks ms e. e; quiet = both_quiet_itself p.graph q.graph; none = s.none; thread = r }) (places_stores R rising p.graph q.graph p.places q.places s.places s.place) in
            thread_set R (record p { graph = one.graph }) (record q { graph = two.graph }) (points_later R p q one.graph two.graph i.later i.quiet s) t one.thread two.thread i.thread

  pub fence_same : (p q : Points) → Same R p q → (t : ℕ) (order : Ordering) → Same R (points_after_fence p t order) (points_after_fence q t order)
  fence_same p q s t Relaxed = s
  fence_same p q s t Acquire = acquire_fence_same p q s t
  fence_same p q s t Release = release_fence_same R rising p q s t
  fence_same p q s t AcqRel = release_fence_same R rising (points_after_acquire_fence p t) (points_after_acquire_fence q t) (acquire_fence_same p q s t) t
  fence_same p q s t SeqCst =
      let one = acquire_fence_same p q s t in
      let two = release_fence_same R rising (points_after_acquire_fence p t) (points_after_acquire_fence q t) one t in
      meet_same R rising (points_after_release_fence (points_after_acquire_fence p t) t) (points_after_release_fence (points_after_acquire_fence q t) t) two t
