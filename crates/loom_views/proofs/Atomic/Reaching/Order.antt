-- What runs keep: every point and record; and so an access that passes is reached by those that it conflicts with.
use Rattle.std.proofs.Common.{◌≡◌, ℕ, Bool, true, false, not, ◌||◌, List, [], ◌∷◌, ◌++◌, refl, ap, sym, ◌∙◌, arith, subst, ⊎_elim, inl, inr, Option, Some, None, Result, Ok, Err}
use Rattle.std.specs.Prelude.{IfOk, ◌↔◌, ◌⊎◌, ◌==◌, if◌then◌else◌}
use Rattle.std.specs.List.{slice_get, list_any, AllByRecursion}
use Rattle.std.proofs.lemmas.Bool.{cases_Bool, eqb-true, true≢false, false≢true, or_cases, or_left, or_right}
use Rattle.std.proofs.lemmas.List.Folds.{Any-from_list_any, list_any-from_Any, list_any-append}
use Rattle.loom_views.specs.declared.rt.failure.FailureKind.{FailureKind}
use Rattle.loom_views.specs.declared.rt.failure.FailureKind.TheVariants.{Race, OpenAccess}
use Rattle.loom_views.specs.Graph.{Graph, is_among, inside, reaches}
use Rattle.loom_views.specs.ThreadViews.{ThreadPoints}
use Rattle.loom_views.specs.AccessRecords.{races}
use Rattle.loom_views.specs.Atomic.History.{Answer, History, Scene, conflicts, unsync_load_step, mutate_step, mutate_end_step, scene_recorded_mutation, with_newest}
use Rattle.loom_views.specs.CellAccesses.{Accesses, read_step, write_step}
use Rattle.loom_views.specs.Views.{Place, Meets, Keeps, Records, Points, opening, scene_of, access, access_by, accessed, recorded, record_by, points_after_read, points_after_write, points_after_unsync_load, points_after_with_mut, points_after_with_mut_end}
use Rattle.loom_views.specs.Laws.Views.{HasOutside}
use Rattle.loom_views.specs.Laws.Moves.{Leads, AddingLaw, RecordedLaw, HasUnreached, BesideLaw, ReachesIfPassed, OrderLaw}
use Rattle.loom_views.specs.Laws.Reaching.{is_raising, reads_of, writes_of, loads_of, stored_of}
use Rattle.loom_views.proofs.Atomic.TableLaws.Racing.{not-is, races-outside, outside-races}
use Rattle.loom_views.proofs.Atomic.Reaching.Raising.{extends-itself, staying_law, passes-member, raising-extends}
use Rattle.loom_views.proofs.Atomic.Reaching.Adding.{Adds, MoreRaising}
use Rattle.loom_views.proofs.Atomic.Reaching.Moving.{leads-add}

pub adding_law : AddingLaw
adding_law p q five l =
    let h = leads-add p q five l in
    record {
      graph = h.graph;
      reads = λ n. ((h.places n).reads.more, (h.places n).reads.is);
      writes = λ n. ((h.places n).writes.more, (h.places n).writes.is);
      loads = λ n. ((h.places n).loads.more, (h.places n).loads.is);
      stored = λ n. ((h.places n).stored.more, (h.places n).stored.is);
    }

pub all-at : (P : ℕ → Type 0) (xs : List ℕ) (k : ℕ) → AllByRecursion P xs → is_among k xs ≡ true → P k
all-at P [] k h e = absurd (false≢true e)
all-at P (x ∷ xs) k h e = ⊎_elim (λ q. subst P (eqb-true x k q) h.0) (λ q. all-at P xs k h.1 q) (or_cases (x == k) (is_among k xs) e)

-- what was recorded from the start raises
from-start : (g : Graph) (xs : List ℕ) → MoreRaising g [] xs → AllByRecursion (λ k. is_raising g k ≡ true) xs
from-start g xs h = rw h.is h.raise

module _ (p : Points) (l : Leads opening p) where
  from-opening : Adds opening p
  from-opening = leads-add opening p (omega arith) l

  loads-raise : (n : ℕ) → AllByRecursion (λ k. is_raising p.graph k ≡ true) (loads_of (slice_get p.places n))
  loads-raise n = from-start p.graph (loads_of (slice_get p.places n)) (from-opening.places n).loads

  stored-raise : (n : ℕ) → AllByRecursion (λ k. is_raising p.graph k ≡ true) (stored_of (slice_get p.places n))
  stored-raise n = from-start p.graph (stored_of (slice_get p.places n)) (from-opening.places n).stored

pub recorded_law : RecordedLaw
recorded_law p n k l e = staying_law p.graph p.graph k (extends-itself p.graph) (⊎_elim
    (λ q. all-at (λ k. is_raising p.graph k ≡ true) (loads_of (slice_get p.places n)) k (loads-raise p l n) q)
    (λ q. all-at (λ k. is_raising p.graph k ≡ true) (stored_of (slice_get p.places n)) k (stored-raise p l n) q)
    (or_cases (is_among k (loads_of (slice_get p.places n))) (is_among k (stored_of (slice_get p.places n))) e))

-- of points that raise, containment is reaching
unreached-is : (g : Graph) (points : List ℕ) (a : ℕ) → AllByRecursion (λ k. is_raising g k ≡ true) points → list_any (λ k. not (inside g k a)) points ≡ list_any (λ k. not (reaches g k a)) points
unreached-is g [] a h = refl
unreached-is g (k ∷ points) a h = let known = staying_law g g k (extends-itself g) h.0 in rw (known.reaching a, unreached-is g points a h.1) refl

races-unreached : (g : Graph) (points : List ℕ) (a : ℕ) → AllByRecursion (λ k. is_raising g k ≡ true) points → races g points a ≡ true → HasUnreached g points a
unfolding races
races-unreached g points a h e =
    let found = Any-from_list_any (λ k. not (reaches g k a)) points (sym (unreached-is g points a h) ∙ e) in
    (found.0, found.1, found.2, found.3, not-is (reaches g found.1 a) false found.4)

unreached-races : (g : Graph) (points : List ℕ) (a : ℕ) → AllByRecursion (λ k. is_raising g k ≡ true) points → HasUnreached g points a → races g points a ≡ true
unfolding races
unreached-races g points a r h = unreached-is g points a r ∙ list_any-from_Any (λ k. not (reaches g k a)) points (h.0, h.1, h.2, h.3, ap not h.4)

-- what a test decides is when an access of an atomic fails
tested : (p : Points) (t n : ℕ) (b : Bool) (answer : Answer) → (accessed p t n (if b then Err Race else Ok answer) ≡ Err Race) ↔ (b ≡ true)
tested p t n true answer = (λ e. refl, λ x. refl)
tested p t n false answer = (λ e. absurd (cc), λ x. absurd (false≢true x))

iff-joined : {A B C : Type 0} → (A ↔ B) → (B ↔ C) → (A ↔ C)
iff-joined f g = (λ a. g.0 (f.0 a), λ c. f.1 (g.1 c))

-- either of two tests
either : (a b : Bool) {A B : Type 0} → ((a ≡ true) ↔ A) → ((b ≡ true) ↔ B) → ((a || b) ≡ true) ↔ (A ⊎ B)
either a b f g = (λ e. ⊎_elim (λ q. inl (f.0 q)) (λ q. inr (g.0 q)) (or_cases a b e), λ h. ⊎_elim (λ q. or_left a b (f.1 q)) (λ q. or_right a b (g.1 q)) h)

-- the tests in the order in which an access makes them
two-turned : (a b : Bool) → (a || (b || false)) ≡ (b || a)
two-turned true true = refl
two-turned true false = refl
two-turned false true = refl
two-turned false false = refl

four-turned : (a b c d : Bool) → (a || (b || (c || (d || false)))) ≡ ((c || d) || (a || b))
four-turned true b true d = refl
four-turned true b false true = refl
four-turned true b false false = refl
four-turned false true true d = refl
four-turned false true false true = refl
four-turned false true false false = refl
four-turned false false true d = refl
four-turned false false false true = refl
four-turned false false false false = refl

pub beside_law : BesideLaw
beside_law p t n own history l e f closed =
    let g = p.graph in
    let a = own.present in
    let loads : AllByRecursion (λ k. is_raising g k ≡ true) history.loads = subst (λ (o : Option Place). AllByRecursion (λ k. is_raising g k ≡ true) (loads_of o)) f (loads-raise p l n) in
    let stored : AllByRecursion (λ k. is_raising g k ≡ true) history.stored = subst (λ (o : Option Place). AllByRecursion (λ k. is_raising g k ≡ true) (stored_of o)) f (stored-raise p l n) in
    let by_store : (races g history.stored a ≡ true) ↔ HasUnreached g history.stored a = (races-unreached g history.stored a stored, unreached-races g history.stored a stored) in
    let by_load : (races g history.loads a ≡ true) ↔ HasUnreached g history.loads a = (races-unreached g history.loads a loads, unreached-races g history.loads a loads) in
    let by_mutation : (races g history.mutations a ≡ true) ↔ HasOutside g history.mutations a = (races-outside g history.mutations a, outside-races g history.mutations a) in
    let by_unsync : (races g history.unsync_loads a ≡ true) ↔ HasOutside g history.unsync_loads a = (races-outside g history.unsync_loads a, outside-races g history.unsync_loads a) in
    record {
      unsync_load = rw (e, f, closed) (rw (two-turned (races g history.mutations a) (races g history.stored a)) (iff-joined (tested p t n (races g history.stored a || races g history.mutations a) _) (either (races g history.stored a) (races g history.mutations a) by_store by_mutation)));
      with_mut = rw (e, f, closed) (rw (four-turned (races g history.loads a) (races g history.unsync_loads a) (races g history.stored a) (races g history.mutations a)) (iff-joined (tested p t n ((races g history.stored a || races g history.mutations a) || (races g history.loads a || races g history.unsync_loads a)) _) (either (races g history.stored a || races g history.mutations a) (races g history.loads a || races g history.unsync_loads a) (either (races g history.stored a) (races g history.mutations a) by_store by_mutation) (either (races g history.loads a) (races g history.unsync_loads a) by_load by_unsync))));
    }

-- where nothing races, each recorded view is inside
none-outside : (g : Graph) (points : List ℕ) (a k : ℕ) → races g points a ≡ false → is_among k points ≡ true → inside g k a ≡ true
unfolding races
none-outside g points a k e h = ⊎_elim
    (λ q. q)
    (λ q. absurd (true≢false (sym (passes-member (λ i. not (inside g i a)) points k h (ap not q)) ∙ e)))
    (cases_Bool (inside g k a))

among-more : (xs ys : List ℕ) (k : ℕ) → is_among k xs ≡ true → is_among k (xs ++ ys) ≡ true
among-more xs ys k h = list_any-append (λ i. i == k) xs ys ∙ or_left (is_among k xs) (is_among k ys) h

or-none : (a b : Bool) → (a || b) ≡ false → (a ≡ false) × (b ≡ false)
or-none true b e = absurd (true≢false e)
or-none false b e = (refl, e)

-- point k raises in the later graph, and is recorded of object n
module _ (p : Points) (u n k : ℕ) (r : is_raising p.graph k ≡ true) where
  abbrev Passes : (o : Option ThreadPoints) → Result Points FailureKind → Type 0
  Passes o result = IfOk result (λ _. (own : ThreadPoints) → o ≡ Some own → reaches p.graph k own.present ≡ true)

  by-step : (step : Graph → ℕ → Accesses → Result Accesses FailureKind) → ((a : ℕ) (cell : Accesses) → slice_get p.places n ≡ Some (Records cell) → IfOk (step p.graph a cell) (λ _. inside p.graph k a ≡ true)) → ReachesIfPassed p u k (record_by p n step (slice_get p.threads u) (slice_get p.places n))
  by-step step h = go (slice_get p.threads u) (slice_get p.places n) refl
    where
      led : (own : ThreadPoints) (result : Result Accesses FailureKind) → IfOk result (λ _. inside p.graph k own.present ≡ true) → Passes (Some own) (recorded p n result)
      led own (Ok after) i = λ other e. let d : other ≡ own = cc in let known = staying_law p.graph p.graph k (extends-itself p.graph) r in rw d (sym (known.reaching own.present) ∙ i)
      led own (Err kind) i = tt

      go : (o : Option ThreadPoints) (q : Option Place) → slice_get p.places n ≡ q → Passes o (record_by p n step o q)
      go None q e = tt
      go (Some own) None e = tt
      go (Some own) (Some (Meets j)) e = tt
      go (Some own) (Some (Keeps history)) e = tt
      go (Some own) (Some (Records cell)) e = led own (step p.graph own.present cell) (h own.present cell e)

  after-write : is_among k (writes_of (slice_get p.places n)) ≡ true → ReachesIfPassed p u k (points_after_read p u n)
  after-write h = by-step read_step (λ a cell e. tried a cell (rw e at h) (races p.graph cell.writes a) refl)
    where
      tried : (a : ℕ) (cell : Accesses) → is_among k cell.writes ≡ true → (b : Bool) → races p.graph cell.writes a ≡ b → IfOk (if b then Err Race else Ok (record cell { reads = cell.reads ++ a ∷ [] })) (λ _. inside p.graph k a ≡ true)
      tried a cell m true e = tt
      tried a cell m false e = none-outside p.graph cell.writes a k e m

  after-either : (is_among k (writes_of (slice_get p.places n)) || is_among k (reads_of (slice_get p.places n))) ≡ true → ReachesIfPassed p u k (points_after_write p u n)
  after-either h = by-step write_step (λ a cell e. tried a cell (rw e at h) (races p.graph cell.writes a || races p.graph cell.reads a) refl)
    where
      tried : (a : ℕ) (cell : Accesses) → (is_among k cell.writes || is_among k cell.reads) ≡ true → (b : Bool) → (races p.graph cell.writes a || races p.graph cell.reads a) ≡ b → IfOk (if b then Err Race else Ok (record cell { writes = cell.writes ++ a ∷ [] })) (λ _. inside p.graph k a ≡ true)
      tried a cell m true e = tt
      tried a cell m false e =
          let both = or-none (races p.graph cell.writes a) (races p.graph cell.reads a) e in
          ⊎_elim (none-outside p.graph cell.writes a k both.0) (none-outside p.graph cell.reads a k both.1) (or_cases (is_among k cell.writes) (is_among k cell.reads) m)

  -- the same of an atomic
  by-access : (step : Scene → Result Answer FailureKind) → ((own : ThreadPoints) (history : History) → slice_get p.places n ≡ Some (Keeps history) → IfOk (step (scene_of p own history)) (λ _. inside p.graph k own.present ≡ true)) → ReachesIfPassed p u k (access p u n step)
  by-access step h = go (slice_get p.threads u) (slice_get p.places n) refl
    where
      led : (own : ThreadPoints) (result : Result Answer FailureKind) → IfOk result (λ _. inside p.graph k own.present ≡ true) → IfOk (accessed p u n result) (λ _. (other : ThreadPoints) → Some own ≡ Some other → reaches p.graph k other.present ≡ true)
      led own (Ok answer) i = λ other e. let d : other ≡ own = cc in let known = staying_law p.graph p.graph k (extends-itself p.graph) r in rw d (sym (known.reaching own.present) ∙ i)
      led own (Err kind) i = tt

      go : (o : Option ThreadPoints) (q : Option Place) → slice_get p.places n ≡ q → IfOk (access_by p u n step o q) (λ _. (own : ThreadPoints) → o ≡ Some own → reaches p.graph k own.present ≡ true)
      go None q e = tt
      go (Some own) None e = tt
      go (Some own) (Some (Meets j)) e = tt
      go (Some own) (Some (Records cell)) e = tt
      go (Some own) (Some (Keeps history)) e = led own (step (scene_of p own history)) (h own history e)

  -- its tests find a point of a kind that it conflicts with
  by-tests : (a : ℕ) (s : Scene) (kinds : List (List ℕ)) (passed : Result Answer FailureKind) (points : List ℕ) → s.graph ≡ p.graph → s.thread.present ≡ a → is_among k points ≡ true → (list_any (λ points. races s.graph points s.thread.present) kinds ≡ false → races s.graph points s.thread.present ≡ false) → IfOk (conflicts s kinds passed) (λ _. inside p.graph k a ≡ true)
  by-tests a s kinds passed points g e m h = tried s.history.mutating (list_any (λ points. races s.graph points s.thread.present) kinds) refl
    where
      given : (result : Result Answer FailureKind) → inside p.graph k a ≡ true → IfOk result (λ _. inside p.graph k a ≡ true)
      given (Ok answer) i = i
      given (Err kind) i = tt

      tried : (b c : Bool) → list_any (λ points. races s.graph points s.thread.present) kinds ≡ c → IfOk (if b then Err OpenAccess else (if c then Err Race else passed)) (λ _. inside p.graph k a ≡ true)
      tried true c f = tt
      tried false true f = tt
      tried false false f = given passed (subst (λ (w : Graph). inside w k a ≡ true) g (subst (λ b. inside s.graph k b ≡ true) e (none-outside s.graph points s.thread.present k (h f) m)))

  unsync-after-store : is_among k (stored_of (slice_get p.places n)) ≡ true → ReachesIfPassed p u k (points_after_unsync_load p u n)
  unsync-after-store h = by-access unsync_load_step (λ own history e. by-tests own.present (scene_of p own history) (history.mutations ∷ history.stored ∷ []) _ history.stored refl refl (rw e at h)
      (λ f. (or-none _ _ (or-none (races p.graph history.mutations own.present) _ f).1).0))

  -- a mutation conflicts with all kinds
  by-all : (own : ThreadPoints) (history : History) (s : Scene) (passed : Result Answer FailureKind) → s.graph ≡ p.graph → s.thread.present ≡ own.present → (is_among k history.stored || is_among k history.loads) ≡ true → IfOk (conflicts s (history.loads ∷ history.unsync_loads ∷ history.stored ∷ history.mutations ∷ []) passed) (λ _. inside p.graph k own.present ≡ true)
  by-all own history s passed g e m = ⊎_elim
      (λ q. by-tests own.present s (history.loads ∷ history.unsync_loads ∷ history.stored ∷ history.mutations ∷ []) passed history.stored g e q (λ f. (or-none _ _ (or-none _ _ (or-none (races s.graph history.loads s.thread.present) _ f).1).1).0))
      (λ q. by-tests own.present s (history.loads ∷ history.unsync_loads ∷ history.stored ∷ history.mutations ∷ []) passed history.loads g e q (λ f. (or-none (races s.graph history.loads s.thread.present) _ f).0))
      (or_cases (is_among k history.stored) (is_among k history.loads) m)

  mut-after : (is_among k (stored_of (slice_get p.places n)) || is_among k (loads_of (slice_get p.places n))) ≡ true → ReachesIfPassed p u k (points_after_with_mut p u n)
  mut-after h = by-access mutate_step (λ own history e. by-all own history (scene_of p own history) _ refl refl (rw e at h))

  mut_end-after : (value : ℕ) → (is_among k (stored_of (slice_get p.places n)) || is_among k (loads_of (slice_get p.places n))) ≡ true → ReachesIfPassed p u k (points_after_with_mut_end p u n value)
  mut_end-after value h = by-access (λ s. mutate_end_step s value) (λ own history e.
      let s = scene_of p own history in
      let closed : Scene = record s { history = record s.history { mutating = false; stores = with_newest history.stores value } } in
      by-all own history closed (Ok (record { scene = scene_recorded_mutation closed; value = value })) refl refl (rw e at h))

pub order_law : OrderLaw
order_law p q u n k five r l =
    let adds = leads-add p q five l in
    let raises = raising-extends p.graph q.graph k adds.graph r in
    let place = adds.places n in
    let wrote : is_among k (writes_of (slice_get p.places n)) ≡ true → is_among k (writes_of (slice_get q.places n)) ≡ true = (λ h. rw place.writes.is (among-more (writes_of (slice_get p.places n)) place.writes.more k h)) in
    let read : is_among k (reads_of (slice_get p.places n)) ≡ true → is_among k (reads_of (slice_get q.places n)) ≡ true = (λ h. rw place.reads.is (among-more (reads_of (slice_get p.places n)) place.reads.more k h)) in
    let stored : is_among k (stored_of (slice_get p.places n)) ≡ true → is_among k (stored_of (slice_get q.places n)) ≡ true = (λ h. rw place.stored.is (among-more (stored_of (slice_get p.places n)) place.stored.more k h)) in
    let loaded : is_among k (loads_of (slice_get p.places n)) ≡ true → is_among k (loads_of (slice_get q.places n)) ≡ true = (λ h. rw place.loads.is (among-more (loads_of (slice_get p.places n)) place.loads.more k h)) in
    let writes = writes_of (slice_get q.places n) in
    let reads = reads_of (slice_get q.places n) in
    let stores = stored_of (slice_get q.places n) in
    let loads = loads_of (slice_get q.places n) in
    record {
      write_read = λ h. after-write q u n k raises (wrote h);
      write_write = λ h. after-either q u n k raises (or_left (is_among k writes) (is_among k reads) (wrote h));
      read_write = λ h. after-either q u n k raises (or_right (is_among k writes) (is_among k reads) (read h));
      store_unsync_load = λ h. unsync-after-store q u n k raises (stored h);
      store_with_mut = λ h. mut-after q u n k raises (or_left (is_among k stores) (is_among k loads) (stored h));
      load_with_mut = λ h. mut-after q u n k raises (or_right (is_among k stores) (is_among k loads) (loaded h));
      store_with_mut_end = λ value h. mut_end-after q u n k raises value (or_left (is_among k stores) (is_among k loads) (stored h));
      load_with_mut_end = λ value h. mut_end-after q u n k raises value (or_right (is_among k stores) (is_among k loads) (loaded h));
    }
