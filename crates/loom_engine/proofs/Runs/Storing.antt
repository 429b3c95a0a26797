-- What moves do to the values of an atomic's stores.
use Rattle.std.proofs.Common.{◌≡◌, ◌≢◌, ℕ, zero, suc, Bool, true, false, List, [], ◌∷◌, ◌++◌, map, length, Option, Some, None, refl, ap, sym, subst, ◌∙◌}
use Rattle.std.proofs.lemmas.Bool.{eq-eqb, eqb-true}
use Rattle.std.proofs.lemmas.Option.{slice_get_within}
use Rattle.std.specs.Prelude.{◌-◌, ◌==◌, cond, if◌then◌else◌, nat_le, nat_lt, slice_get, slice_index_or, slice_set, IfOk, Result, Ok, Err}
use Rattle.std.specs.List.{list_any}
use Rattle.std.specs.declared.sync.atomic.Ordering.{Ordering}
use Rattle.std.specs.declared.sync.atomic.Ordering.TheVariants.{Relaxed, Release, Acquire, AcqRel, SeqCst}
use Rattle.loom_views.specs.AccessRecords.{races}
use Rattle.loom_views.specs.CellAccesses.{Accesses, read_step, write_step}
use Rattle.loom_views.specs.Graph.{Graph, raised}
use Rattle.loom_views.specs.Limits.{most_stores}
use Rattle.loom_views.specs.ThreadViews.{ThreadPoints}
use Rattle.loom_views.specs.Atomic.History.{Answer, History, Ordered, Scene, StorePoints, after_read, blank, conflicts, graph_after_read, load_step, mutate_end_step, mutate_step, order_raised, orders_raised, slots_above, stores_after_read, with_newest, store_step, unsync_load_step, update_read_step, update_write_step, with_room}
use Rattle.loom_views.specs.Laws.Moves.{Moves, acquire, release, join, yielding, spawn, fence, new_point, new_stamp, stamp, release_to_stamp, acquire_from_stamp, new_atomic, load, store, update, update_fail, unsync_load, with_mut, with_mut_end, new_cell, begin_read, end_read, begin_write, end_write}
use Rattle.loom_views.specs.Views.{Accessed, Keeps, Meets, Place, Points, Records, access, access_by, accessed, acquire_by, acquire_fence_by, add_cell_by, fence_by, join_by, meet_by, points_after_acquire_fence, points_after_fence, points_after_load, points_after_raise, points_after_read, points_after_release_fence, points_after_spawn, points_after_store, points_after_unsync_load, points_after_update_fail, points_after_update_read, points_after_update_write, points_after_with_mut, points_after_with_mut_end, points_after_write, points_of, record_by, recorded, release_by, scene_of, spawn_by, stamp_acquire_by, stamp_by, stamp_release_by, update_fail_by, yield_by}
use Rattle.loom_views.specs.declared.rt.failure.FailureKind.{FailureKind}
use Rattle.loom_views.specs.declared.rt.failure.FailureKind.TheVariants.{OpenAccess, Race, TooManyStores, TooManyThreads, TooManyVersions}
use Rattle.loom_views.proofs.Atomic.Reaching.Moving.{from-ok}
use Rattle.loom_views.proofs.Atomic.Reaching.Raising.{raise-leads}
use Rattle.loom_views.proofs.Atomic.Table.Lists.{get-set_other, get-set_same}
use Rattle.loom_engine.specs.Runs.Stores.{values_of, with_last}
use Rattle.loom_engine.proofs.Runs.Pointing.{Does, Fencing, MayBy, Reading, Storing}

pub nothing_more : {A : Type 0} (xs : List A) → xs ++ [] ≡ xs
nothing_more [] = refl
nothing_more (x ∷ xs) = ap (λ list. x ∷ list) (nothing_more xs)

-- ---- places

-- the object in one place becomes another one that has these values more
set_more : (places : List Place) (m n : ℕ) (x y : Place) (more : List ℕ) → slice_get places m ≡ Some y → values_of (Some x) ≡ values_of (Some y) ++ more
    → values_of (slice_get (slice_set places m x) n) ≡ values_of (slice_get places n) ++ cond (m == n) more []
set_more places m n x y more there h = by_test (m == n) refl
  where
    by_test : (b : Bool) → (m == n) ≡ b → values_of (slice_get (slice_set places m x) n) ≡ values_of (slice_get places n) ++ cond b more []
    by_test true e =
        let same : m ≡ n = eqb-true m n e in
        let at : values_of (slice_get (slice_set places m x) m) ≡ values_of (slice_get places m) ++ more =
        ap values_of (get-set_same places m x (slice_get_within places m y there)) ∙ (h ∙ ap (λ o. values_of o ++ more) (sym there)) in
        subst (λ i. values_of (slice_get (slice_set places m x) i) ≡ values_of (slice_get places i) ++ more) same at
    by_test false e =
        let off : n ≢ m = λ s. let own : (m == n) ≡ true = eq-eqb m n (sym s) in absurd (cc (own, e)) in
        ap values_of (get-set_other places m n x off) ∙ sym (nothing_more (values_of (slice_get places n)))

-- no value more
none_more : (b : Bool) (xs ys : List ℕ) → ys ≡ xs ++ cond b [] [] → ys ≡ xs
none_more true xs ys e = e ∙ nothing_more xs
none_more false xs ys e = e ∙ nothing_more xs

set_values : (places : List Place) (m n : ℕ) (x y : Place) → slice_get places m ≡ Some y → values_of (Some x) ≡ values_of (Some y) → values_of (slice_get (slice_set places m x) n) ≡ values_of (slice_get places n)
set_values places m n x y there h = none_more (m == n) _ _ (set_more places m n x y [] there (h ∙ sym (nothing_more (values_of (Some y)))))

more_values : (places : List Place) (n : ℕ) (x : Place) → values_of (Some x) ≡ [] → values_of (slice_get (places ++ x ∷ []) n) ≡ values_of (slice_get places n)
more_values [] zero x h = h
more_values [] (suc n) x h = refl
more_values (y ∷ places) zero x h = refl
more_values (y ∷ places) (suc n) x h = more_values places n x h

-- ---- accesses

map_set : (stores : List StorePoints) (k : ℕ) (y : StorePoints) → y.value ≡ (slice_index_or stores k blank).value → map (λ (store : StorePoints). store.value) (slice_set stores k y) ≡ map (λ (store : StorePoints). store.value) stores
map_set [] k y e = refl
map_set (x ∷ stores) zero y e = ap (λ v. v ∷ map (λ (store : StorePoints). store.value) stores) e
map_set (x ∷ stores) (suc k) y e = ap (λ list. x.value ∷ list) (map_set stores k y e)

map_more : (stores : List StorePoints) (y : StorePoints) → map (λ (store : StorePoints). store.value) (stores ++ y ∷ []) ≡ map (λ (store : StorePoints). store.value) stores ++ y.value ∷ []
map_more [] y = refl
map_more (x ∷ stores) y = ap (λ list. x.value ∷ list) (map_more stores y)

-- where orders move the values stay
raised_values : (k : ℕ) (o : Ordered) (is : List ℕ) → map (λ (store : StorePoints). store.value) (orders_raised k o is).stores ≡ map (λ (store : StorePoints). store.value) o.stores
raised_values k o [] = refl
raised_values k o (i ∷ is) = raised_values k (order_raised k o i) is ∙ map_set o.stores _ _ refl

-- and so where a store is read
read_values : (g : Graph) (t : ℕ) (stores : List StorePoints) (a slot : ℕ) → map (λ (store : StorePoints). store.value) (after_read g t stores a slot).stores ≡ map (λ (store : StorePoints). store.value) stores
read_values g t stores a slot =
    raised_values (length g) (record { graph = graph_after_read g stores a slot; stores = stores_after_read g t stores a slot }) (slots_above g stores slot) ∙ map_set stores _ _ refl

-- an access whose tests pass answers what it is to answer
passes : (s : Scene) (kinds : List (List ℕ)) (passed answer : Answer) → conflicts s kinds (Ok passed) ≡ Ok answer → passed ≡ answer
passes s kinds passed answer = tested s.history.mutating (list_any (λ points. races s.graph points s.thread.present) kinds)
  where
    tested : (a b : Bool) → ◌≡◌ {A = Result Answer FailureKind} (if a then Err OpenAccess else (if b then Err Race else Ok passed)) (Ok answer) → passed ≡ answer
    tested true b e = absurd (cc e)
    tested false true e = absurd (cc e)
    tested false false e = cc e

makes : (s : Scene) (kinds : List (List ℕ)) (passed answer : Answer) → conflicts s kinds (with_room s (Ok passed)) ≡ Ok answer → passed ≡ answer
makes s kinds passed answer = tested s.history.mutating (list_any (λ points. races s.graph points s.thread.present) kinds) (nat_lt (length s.history.stores) most_stores)
  where
    tested : (a b c : Bool) → ◌≡◌ {A = Result Answer FailureKind} (if a then Err OpenAccess else (if b then Err Race else (if c then Ok passed else Err TooManyStores))) (Ok answer) → passed ≡ answer
    tested true b c e = absurd (cc e)
    tested false true c e = absurd (cc e)
    tested false false true e = cc e
    tested false false false e = absurd (cc e)

-- what a step of an access adds to the values of the history
abbrev Adds : (Scene → Result Answer FailureKind) → List ℕ → Type 0
Adds step more = (s : Scene) (answer : Answer) → step s ≡ Ok answer → map (λ (store : StorePoints). store.value) answer.scene.history.stores ≡ map (λ (store : StorePoints). store.value) s.history.stores ++ more

access_values : (p : Points) (t m n : ℕ) (step : Scene → Result Answer FailureKind) (more : List ℕ) → Adds step more → (after : Accessed) → access p t m step ≡ Ok after
    → values_of (slice_get after.points.places n) ≡ values_of (slice_get p.places n) ++ cond (m == n) more []
access_values p t m n step more adds after = go (slice_get p.threads t) (slice_get p.places m) refl
  where
    led : (history : History) (own : ThreadPoints) → slice_get p.places m ≡ Some (Keeps history) → (r : Result Answer FailureKind) → step (scene_of p own history) ≡ r → accessed p t m r ≡ Ok after
        → values_of (slice_get after.points.places n) ≡ values_of (slice_get p.places n) ++ cond (m == n) more []
    led history own there (Err kind) f e = absurd (cc e)
    led history own there (Ok answer) f e =
        let to : record { points = points_of p t m answer.scene; value = answer.value } ≡ after = cc e in
        subst (λ (a : Accessed). values_of (slice_get a.points.places n) ≡ values_of (slice_get p.places n) ++ cond (m == n) more []) to
        (set_more p.places m n (Keeps answer.scene.history) (Keeps history) more there (adds (scene_of p own history) answer f))

    go : (o : Option ThreadPoints) (q : Option Place) → slice_get p.places m ≡ q → access_by p t m step o q ≡ Ok after → values_of (slice_get after.points.places n) ≡ values_of (slice_get p.places n) ++ cond (m == n) more []
    go None q there e = absurd (cc e)
    go (Some own) None there e = absurd (cc e)
    go (Some own) (Some (Meets k)) there e = absurd (cc e)
    go (Some own) (Some (Records cell)) there e = absurd (cc e)
    go (Some own) (Some (Keeps history)) there e = led history own there (step (scene_of p own history)) refl e

as_were : (s : Scene) (stores : List StorePoints) → map (λ (store : StorePoints). store.value) stores ≡ map (λ (store : StorePoints). store.value) s.history.stores
    → map (λ (store : StorePoints). store.value) stores ≡ map (λ (store : StorePoints). store.value) s.history.stores ++ []
as_were s stores e = e ∙ sym (nothing_more _)

of_answer : (passed answer : Answer) (values : List ℕ) → passed ≡ answer → map (λ (store : StorePoints). store.value) passed.scene.history.stores ≡ values → map (λ (store : StorePoints). store.value) answer.scene.history.stores ≡ values
of_answer passed answer values e h = subst (λ (a : Answer). map (λ (store : StorePoints). store.value) a.scene.history.stores ≡ values) e h

pub load_values : (p : Points) (t m n slot : ℕ) (order : Ordering) (after : Accessed) → points_after_load p t m slot order ≡ Ok after → values_of (slice_get after.points.places n) ≡ values_of (slice_get p.places n)
load_values p t m n slot order after e =
    none_more (m == n) _ _ (access_values p t m n (λ s. load_step t s slot order) []
    (λ s answer f. of_answer _ answer _ (passes s (s.history.mutations ∷ []) _ answer f) (as_were s _ (read_values s.graph t s.history.stores s.thread.present slot))) after e)

pub update_read_values : (p : Points) (t m n slot : ℕ) (after : Accessed) → points_after_update_read p t m slot ≡ Ok after → values_of (slice_get after.points.places n) ≡ values_of (slice_get p.places n)
update_read_values p t m n slot after e =
    none_more (m == n) _ _ (access_values p t m n (λ s. update_read_step t s slot) []
    (λ s answer f. of_answer _ answer _ (passes s (s.history.mutations ∷ []) _ answer f) (as_were s _ (read_values s.graph t s.history.stores s.thread.present slot))) after e)

pub unsync_load_values : (p : Points) (t m n : ℕ) (after : Accessed) → points_after_unsync_load p t m ≡ Ok after → values_of (slice_get after.points.places n) ≡ values_of (slice_get p.places n)
unsync_load_values p t m n after e =
    none_more (m == n) _ _ (access_values p t m n unsync_load_step [] (λ s answer f. of_answer _ answer _ (passes s (s.history.mutations ∷ s.history.stored ∷ []) _ answer f) (as_were s _ refl)) after e)

pub with_mut_values : (p : Points) (t m n : ℕ) (after : Accessed) → points_after_with_mut p t m ≡ Ok after → values_of (slice_get after.points.places n) ≡ values_of (slice_get p.places n)
with_mut_values p t m n after e =
    none_more (m == n) _ _ (access_values p t m n mutate_step []
    (λ s answer f. of_answer _ answer _ (passes s (s.history.loads ∷ s.history.unsync_loads ∷ s.history.stored ∷ s.history.mutations ∷ []) _ answer f) (as_were s _ refl)) after e)

pub store_values : (p : Points) (t m n value : ℕ) (order : Ordering) (after : Accessed) → points_after_store p t m value order ≡ Ok after
    → values_of (slice_get after.points.places n) ≡ values_of (slice_get p.places n) ++ cond (m == n) (value ∷ []) []
store_values p t m n value order after e =
    access_values p t m n (λ s. store_step t s value order) (value ∷ []) (λ s answer f. of_answer _ answer _ (makes s (s.history.mutations ∷ s.history.unsync_loads ∷ []) _ answer f) (map_more s.history.stores _)) after e

pub update_write_values : (p : Points) (t m n slot value : ℕ) (order : Ordering) (after : Accessed) → points_after_update_write p t m slot value order ≡ Ok after
    → values_of (slice_get after.points.places n) ≡ values_of (slice_get p.places n) ++ cond (m == n) (value ∷ []) []
update_write_values p t m n slot value order after e =
    access_values p t m n (λ s. update_write_step t s slot value order) (value ∷ []) (λ s answer f. of_answer _ answer _ (makes s (s.history.mutations ∷ s.history.unsync_loads ∷ []) _ answer f) (map_more s.history.stores _)) after e

pub raise_values : (p q : Points) (t n : ℕ) → points_after_raise p t ≡ Ok q → values_of (slice_get q.places n) ≡ values_of (slice_get p.places n)
raise_values p q t n e = ap (λ (z : Points). values_of (slice_get z.places n)) (raise-leads p q t e).to

-- the object in one place becomes another one
set_put : (places : List Place) (m n : ℕ) (x y : Place) → slice_get places m ≡ Some y → values_of (slice_get (slice_set places m x) n) ≡ cond (m == n) (values_of (Some x)) (values_of (slice_get places n))
set_put places m n x y there = by_test (m == n) refl
  where
    by_test : (b : Bool) → (m == n) ≡ b → values_of (slice_get (slice_set places m x) n) ≡ cond b (values_of (Some x)) (values_of (slice_get places n))
    by_test true e =
        let same : m ≡ n = eqb-true m n e in
        subst (λ i. values_of (slice_get (slice_set places m x) i) ≡ values_of (Some x)) same (ap values_of (get-set_same places m x (slice_get_within places m y there)))
    by_test false e = let off : n ≢ m = λ s. let own : (m == n) ≡ true = eq-eqb m n (sym s) in absurd (cc (own, e)) in ap values_of (get-set_other places m n x off)

map_put : (stores : List StorePoints) (k : ℕ) (y : StorePoints) → map (λ (store : StorePoints). store.value) (slice_set stores k y) ≡ slice_set (map (λ (store : StorePoints). store.value) stores) k y.value
map_put [] k y = refl
map_put (x ∷ stores) zero y = refl
map_put (x ∷ stores) (suc k) y = ap (λ list. x.value ∷ list) (map_put stores k y)

map_length : (stores : List StorePoints) → length (map (λ (store : StorePoints). store.value) stores) ≡ length stores
map_length [] = refl
map_length (x ∷ stores) = ap suc (map_length stores)

pub with_mut_end_values : (p : Points) (t m n value : ℕ) (after : Accessed) → points_after_with_mut_end p t m value ≡ Ok after
    → values_of (slice_get after.points.places n) ≡ cond (m == n) (with_last value (values_of (slice_get p.places n))) (values_of (slice_get p.places n))
with_mut_end_values p t m n value after = go (slice_get p.threads t) (slice_get p.places m) refl
  where
    Ended : Points → Type 0
    Ended q = values_of (slice_get q.places n) ≡ cond (m == n) (with_last value (values_of (slice_get p.places n))) (values_of (slice_get p.places n))

    -- what is there is this atomic
    of_history : (history : History) → slice_get p.places m ≡ Some (Keeps history) → (b : Bool) → (m == n) ≡ b
        → cond b (with_last value (values_of (Some (Keeps history)))) (values_of (slice_get p.places n)) ≡ cond b (with_last value (values_of (slice_get p.places n))) (values_of (slice_get p.places n))
    of_history history there false e = refl
    of_history history there true e =
        let same : m ≡ n = eqb-true m n e in
        let here : slice_get p.places n ≡ Some (Keeps history) = subst (λ i. slice_get p.places i ≡ Some (Keeps history)) same there in ap (λ o. with_last value (values_of o)) (sym here)

    led : (history : History) (own : ThreadPoints) → slice_get p.places m ≡ Some (Keeps history) → (r : Result Answer FailureKind) → mutate_end_step (scene_of p own history) value ≡ r → accessed p t m r ≡ Ok after → Ended after.points
    led history own there (Err kind) f e = absurd (cc e)
    led history own there (Ok answer) f e =
        let to : record { points = points_of p t m answer.scene; value = answer.value } ≡ after = cc e in
        let closed : Scene = record (scene_of p own history) { history = record history { mutating = false; stores = with_newest history.stores value } } in
        let values : values_of (Some (Keeps answer.scene.history)) ≡ with_last value (values_of (Some (Keeps history))) =
        of_answer _ answer _ (passes closed (history.loads ∷ history.unsync_loads ∷ history.stored ∷ history.mutations ∷ []) _ answer f)
        (map_put history.stores (length history.stores - 1) _ ∙ ap (λ k. slice_set (map (λ (store : StorePoints). store.value) history.stores) (k - 1) value) (sym (map_length history.stores))) in
        subst (λ (a : Accessed). Ended a.points) to
        (set_put p.places m n (Keeps answer.scene.history) (Keeps history) there
        ∙ (ap (λ list. cond (m == n) list (values_of (slice_get p.places n))) values ∙ of_history history there (m == n) refl))

    go : (o : Option ThreadPoints) (q : Option Place) → slice_get p.places m ≡ q → access_by p t m (λ s. mutate_end_step s value) o q ≡ Ok after → Ended after.points
    go None q there e = absurd (cc e)
    go (Some own) None there e = absurd (cc e)
    go (Some own) (Some (Meets k)) there e = absurd (cc e)
    go (Some own) (Some (Records cell)) there e = absurd (cc e)
    go (Some own) (Some (Keeps history)) there e = led history own there (mutate_end_step (scene_of p own history) value) refl e

-- ---- other moves: the values of object n stay

module _ (n : ℕ) (p : Points) where
  abbrev pub Stays : Points → Type 0
  Stays q = values_of (slice_get q.places n) ≡ values_of (slice_get p.places n)

  acquire_stays : (t : ℕ) (o : Option ThreadPoints) (q : Option Place) → Stays (acquire_by p t o q)
  acquire_stays t None q = refl
  acquire_stays t (Some own) None = refl
  acquire_stays t (Some own) (Some (Meets k)) = refl
  acquire_stays t (Some own) (Some (Keeps history)) = refl
  acquire_stays t (Some own) (Some (Records cell)) = refl

  release_stays : (m : ℕ) (order : Ordering) (o : Option ThreadPoints) (q : Option Place) → slice_get p.places m ≡ q → Stays (release_by p m order o q)
  release_stays m order None q e = refl
  release_stays m order (Some own) None e = refl
  release_stays m order (Some own) (Some (Meets k)) e = set_values p.places m n (Meets (length p.graph)) (Meets k) e refl
  release_stays m order (Some own) (Some (Keeps history)) e = refl
  release_stays m order (Some own) (Some (Records cell)) e = refl

  yield_stays : (t : ℕ) (o : Option ThreadPoints) → Stays (yield_by p t o)
  yield_stays t None = refl
  yield_stays t (Some own) = refl

  release_fence_stays : (t : ℕ) (o : Option ThreadPoints) → Stays (fence_by p t o)
  release_fence_stays t None = refl
  release_fence_stays t (Some own) = refl

  acquire_fence_stays : (t : ℕ) (o : Option ThreadPoints) → Stays (acquire_fence_by p t o)
  acquire_fence_stays t None = refl
  acquire_fence_stays t (Some own) = refl

  meet_stays : (t : ℕ) (o : Option ThreadPoints) → Stays (meet_by p t o)
  meet_stays t None = refl
  meet_stays t (Some own) = refl

  spawn_stays : (t : ℕ) (o : Option ThreadPoints) → IfOk (spawn_by p t o) Stays
  spawn_stays t None = tt
  spawn_stays t (Some own) = tested (nat_le 5 (length p.threads)) (nat_lt (length (raised p.graph t)) 65534) _ refl
    where
      tested : (a b : Bool) (after : Points) → Stays after → IfOk (if a then Err TooManyThreads else (if b then Ok after else Err TooManyVersions)) Stays
      tested true b after h = tt
      tested false true after h = h
      tested false false after h = tt

  stamp_stays : (m : ℕ) (q : Option Place) → Stays (stamp_by p m q)
  stamp_stays m None = refl
  stamp_stays m (Some (Meets k)) = refl
  stamp_stays m (Some (Keeps history)) = refl
  stamp_stays m (Some (Records cell)) = refl

  stamp_release_stays : (m : ℕ) (order : Ordering) (o : Option ThreadPoints) (q : Option ℕ) → Stays (stamp_release_by p m order o q)
  stamp_release_stays m order None q = refl
  stamp_release_stays m order (Some own) None = refl
  stamp_release_stays m order (Some own) (Some k) = refl

  stamp_acquire_stays : (t : ℕ) (o : Option ThreadPoints) (q : Option ℕ) → Stays (stamp_acquire_by p t o q)
  stamp_acquire_stays t None q = refl
  stamp_acquire_stays t (Some own) None = refl
  stamp_acquire_stays t (Some own) (Some k) = refl

  join_stays : (t : ℕ) (o q : Option ThreadPoints) → Stays (join_by p t o q)
  join_stays t None q = refl
  join_stays t (Some own) None = refl
  join_stays t (Some own) (Some other) = refl

  update_fail_stays : (t slot : ℕ) (order : Ordering) (o : Option ThreadPoints) (q : Option Place) → Stays (update_fail_by p t slot order o q)
  update_fail_stays t slot order None q = refl
  update_fail_stays t slot order (Some own) None = refl
  update_fail_stays t slot order (Some own) (Some (Meets k)) = refl
  update_fail_stays t slot order (Some own) (Some (Keeps history)) = refl
  update_fail_stays t slot order (Some own) (Some (Records cell)) = refl

  cell_stays : (o : Option ThreadPoints) → Stays (add_cell_by p o)
  cell_stays None = refl
  cell_stays (Some own) = more_values p.places n _ refl

  record_stays : (m : ℕ) (step : Graph → ℕ → Accesses → Result Accesses FailureKind) (o : Option ThreadPoints) (q : Option Place) → slice_get p.places m ≡ q → IfOk (record_by p m step o q) Stays
  record_stays m step None q e = tt
  record_stays m step (Some own) None e = tt
  record_stays m step (Some own) (Some (Meets k)) e = tt
  record_stays m step (Some own) (Some (Keeps history)) e = tt
  record_stays m step (Some own) (Some (Records cell)) e = led (step p.graph own.present cell)
    where
      led : (r : Result Accesses FailureKind) → IfOk (recorded p m r) Stays
      led (Ok after) = set_values p.places m n (Records after) (Records cell) e refl
      led (Err kind) = tt

  read_stays : (t m : ℕ) (q : Points) → points_after_read p t m ≡ Ok q → Stays q
  read_stays t m q e = from-ok Stays (points_after_read p t m) q e (record_stays m read_step (slice_get p.threads t) (slice_get p.places m) refl)

  write_stays : (t m : ℕ) (q : Points) → points_after_write p t m ≡ Ok q → Stays q
  write_stays t m q e = from-ok Stays (points_after_write p t m) q e (record_stays m write_step (slice_get p.threads t) (slice_get p.places m) refl)

fence_stays : (n : ℕ) (p : Points) (t : ℕ) (order : Ordering) → Stays n p (points_after_fence p t order)
fence_stays n p t Relaxed = refl
fence_stays n p t Acquire = acquire_fence_stays n p t (slice_get p.threads t)
fence_stays n p t Release = release_fence_stays n p t (slice_get p.threads t)
fence_stays n p t AcqRel =
    let one = points_after_acquire_fence p t in release_fence_stays n one t (slice_get one.threads t) ∙ acquire_fence_stays n p t (slice_get p.threads t)
fence_stays n p t SeqCst =
    let one = points_after_acquire_fence p t in
    let two = points_after_release_fence one t in
    meet_stays n two t (slice_get two.threads t) ∙ (release_fence_stays n one t (slice_get one.threads t) ∙ acquire_fence_stays n p t (slice_get p.threads t))

pub update_fail_values : (p : Points) (t m n slot : ℕ) (order : Ordering) → Stays n p (points_after_update_fail p t m slot order)
update_fail_values p t m n slot order = update_fail_stays n p t slot order (slice_get p.threads t) (slice_get p.places m)

-- all but what makes a store
abbrev pub NoStore : Does → Type 0
NoStore (Fencing order) = Unit {0}
NoStore Storing = ⊥
NoStore (Reading raised t n reads slot) = Unit {0}

pub move_values : (n : ℕ) (p q : Points) (move : Moves p q) → MayBy NoStore move → Stays n p q
move_values n p q (acquire t m) may = acquire_stays n p t (slice_get p.threads t) (slice_get p.places m)
move_values n p q (release t m order) may = release_stays n p m order (slice_get p.threads t) (slice_get p.places m) refl
move_values n p q (join t u) may = join_stays n p t (slice_get p.threads t) (slice_get p.threads u)
move_values n p q (yielding t) may = yield_stays n p t (slice_get p.threads t)
move_values n p q (spawn t after e) may = from-ok (Stays n p) (points_after_spawn p t) after e (spawn_stays n p t (slice_get p.threads t))
move_values n p q (fence t order raised e) may = fence_stays n raised t order ∙ raise_values p raised t n e
move_values n p q new_point may = more_values p.places n _ refl
move_values n p q new_stamp may = refl
move_values n p q (stamp k m) may = stamp_stays n p m (slice_get p.places k)
move_values n p q (release_to_stamp t m order) may = stamp_release_stays n p m order (slice_get p.threads t) (slice_get p.stamps m)
move_values n p q (acquire_from_stamp t m) may = stamp_acquire_stays n p t (slice_get p.threads t) (slice_get p.stamps m)
move_values n p q (new_atomic t value) may = absurd may
move_values n p q (load t m slot order raised after e f) may = load_values raised t m n slot order after f ∙ raise_values p raised t n e
move_values n p q (store t m value order raised after e f) may = absurd may
move_values n p q (update t m slot value order raised read after e f g) may = absurd may.0
move_values n p q (update_fail t m slot order raised read e f) may =
    update_fail_values read.points t m n slot order ∙ (update_read_values raised t m n slot read f ∙ raise_values p raised t n e)
move_values n p q (unsync_load t m after e) may = unsync_load_values p t m n after e
move_values n p q (with_mut t m after e) may = with_mut_values p t m n after e
move_values n p q (with_mut_end t m value after e) may = absurd may
move_values n p q (new_cell t) may = cell_stays n p (slice_get p.threads t)
move_values n p q (begin_read t m raised after e f) may = read_stays n raised t m after f ∙ raise_values p raised t n e
move_values n p q (end_read t m after e) may = read_stays n p t m after e
move_values n p q (begin_write t m raised after e f) may = write_stays n raised t m after f ∙ raise_values p raised t n e
move_values n p q (end_write t m after e) may = write_stays n p t m after e
