-- Moves of threads, and of the points at which they synchronize: the same is seen of what they lead to.
use Rattle.std.proofs.Common.{suc, ◌≡◌, ℕ, ◌+◌, ◌<◌, ◌≤◌, Bool, true, false, ◌||◌, List, [], ◌∷◌, ◌++◌, length, set, refl, ap, sym, ◌∙◌, arith, subst, subst₂, ◌⊎◌, inl, inr, ⊎_elim, Option, Some, None, Result, Ok, Err}
use Rattle.std.specs.Prelude.{nat_lt, nat_le, slice_get, if◌then◌else◌}
use Rattle.std.specs.declared.sync.atomic.Ordering.{Ordering}
use Rattle.std.proofs.lemmas.Bool.{cases_Bool, cases_eq, cases_lt, leb-false, eq-eqb, ne_eqb}
use Rattle.std.proofs.lemmas.List.{length-set, length_push}
use Rattle.std.proofs.lemmas.Option.{slice_get_past}
use Rattle.loom_views.specs.declared.rt.failure.FailureKind.{FailureKind}
use Rattle.loom_views.specs.declared.rt.failure.FailureKind.TheVariants.{Race, TooManyThreads, TooManyVersions}
use Rattle.loom_views.specs.AccessRecords.{races}
use Rattle.loom_views.specs.CellAccesses.{Accesses, new_accesses, read_step, write_step}
use Rattle.loom_views.specs.Graph.{Graph, raised, raises_version}
use Rattle.loom_views.specs.Limits.{highest_version}
use Rattle.loom_views.specs.Orderings.{is_release}
use Rattle.loom_views.specs.Sight.{number}
use Rattle.loom_views.specs.ThreadViews.{ThreadPoints, with_present, graph_after_raise, graph_after_acquire, graph_after_release, graph_after_release_fence, graph_after_store, graph_after_spawn, child_points, parent_points}
use Rattle.loom_views.specs.Views.{Meets, Records, Points, with_thread, raise_by, points_after_raise, acquire_by, points_after_acquire, release_by, points_after_release, fence_by, points_after_release_fence, yield_by, points_after_yield, points_with_point, points_with_stamp, stamp_by, points_after_stamp, stamp_release_by, points_after_stamp_release, stamp_acquire_by, points_after_stamp_acquire, spawn_by, points_after_spawn, join_by, points_after_join, add_cell_by, points_with_cell, record_by, recorded, points_after_read, points_after_write, with_global, meet_by, points_after_meet_global}
use Rattle.loom_views.proofs.Atomic.Table.Lists.{get-set_same, get-set_other, get-append_same, get-append_other}
use Rattle.loom_views.proofs.Views.Views.{raised-no}
use Rattle.loom_views.specs.InOrder.{IsRising}
use Rattle.loom_views.proofs.Sight.Fronts.{SameFront, no_touch, both_touch, Later, Raises, step, raise_step, next_point, appended, races_same, number_most, quiet_step, both_quiet_step, full_later, full_new, full_raised, full_beside}
use Rattle.loom_views.proofs.Sight.Shapes.{is_there, Both, no_one, both, both_more, SameThread, same_point, same_cell, SameStamp, Same, acting, by_place, by_thread, front_later, touch_later, thread_later, points_later, threads_later, thread_set, place_set, place_added, stamp_set, stamp_added, global_set}

module _ (R : ℕ → ℕ → ℕ → Type 0) (rising : IsRising R) where
  -- both lead to points of which the same is seen, or fail alike
  abbrev pub MovesSame : Result Points FailureKind → Result Points FailureKind → Type 0
  MovesSame (Ok p) (Ok q) = Same R p q
  MovesSame (Ok p) (Err kind) = ⊥
  MovesSame (Err kind) (Ok q) = ⊥
  MovesSame (Err kind) (Err other) = kind ≡ other

  -- ---- one more point in both graphs

  module _ (g h : Graph) (none : SameFront R g h [] []) where
    -- the new point
    pub made : (js ls : List ℕ) → SameFront R g h js ls → SameFront R (record { after = js; raises = None } ∷ g) (record { after = ls; raises = None } ∷ h) (length g ∷ []) (length h ∷ [])
    made js ls j t l = step R rising g h js ls j t l (length g ∷ []) (length h ∷ []) (next_point R rising g h none t l)

    -- the new point, which raises a thread
    made_raising : (js ls : List ℕ) (t : ℕ) → SameFront R g h js ls → Raises R g h js ls t → SameFront R (record { after = js; raises = Some t } ∷ g) (record { after = ls; raises = Some t } ∷ h) (length g ∷ []) (length h ∷ [])
    made_raising js ls t j raises u l = raise_step R rising g h js ls t j raises u l (length g ∷ []) (length h ∷ []) (next_point R rising g h none u l)

    pub present_when : (b : Bool) (k m : ℕ) → SameFront R g h (k ∷ []) (m ∷ []) → SameFront R g h (if b then k ∷ [] else []) (if b then m ∷ [] else [])
    present_when true k m s = s
    present_when false k m s = none

    -- what a store's point comes after
    pub stored : (a b : ThreadPoints) (k m : ℕ) (order : Ordering) → SameFront R g h (a.present ∷ []) (b.present ∷ []) → SameFront R g h (a.released ∷ []) (b.released ∷ []) → SameFront R g h (k ∷ []) (m ∷ [])
        → SameFront R g h (k ∷ a.released ∷ (if is_release order then a.present ∷ [] else [])) (m ∷ b.released ∷ (if is_release order then b.present ∷ [] else []))
    stored a b k m order s r f =
        appended R rising g h (k ∷ []) (a.released ∷ (if is_release order then a.present ∷ [] else [])) (m ∷ []) (b.released ∷ (if is_release order then b.present ∷ [] else [])) f
        (appended R rising g h (a.released ∷ []) (if is_release order then a.present ∷ [] else []) (b.released ∷ []) (if is_release order then b.present ∷ [] else []) r (present_when (is_release order) a.present b.present s))

    -- a thread's present point comes after itself and another point
    pub thread_moved : (t : ℕ) (a b : ThreadPoints) (k m : ℕ) → t < 5 → SameThread R g h t a b → SameFront R g h (k ∷ []) (m ∷ [])
        → SameThread R (graph_after_acquire g a k) (graph_after_acquire h b m) t (with_present g a) (with_present h b)
    thread_moved t a b k m l s f =
        let j : SameFront R g h (a.present ∷ k ∷ []) (b.present ∷ m ∷ []) = appended R rising g h (a.present ∷ []) (k ∷ []) (b.present ∷ []) (m ∷ []) s.present f in
        let later : Later R g h (graph_after_acquire g a k) (graph_after_acquire h b m) = step R rising g h (a.present ∷ k ∷ []) (b.present ∷ m ∷ []) j in
        record {
          present = made (a.present ∷ k ∷ []) (b.present ∷ m ∷ []) j;
          released = front_later R g h (graph_after_acquire g a k) (graph_after_acquire h b m) later (a.released ∷ []) (b.released ∷ []) s.released;
          yielded = touch_later R g h (graph_after_acquire g a k) (graph_after_acquire h b m) later t a.yielded b.yielded l s.yielded;
          full = full_new g t a.present (k ∷ []) s.full;
          full_too = full_new h t b.present (m ∷ []) s.full_too;
        }

  module _ (p q : Points) (s : Same R p q) where
    -- the points of both runs with one more point in their graphs
    pub one_more : (js ls : List ℕ) → SameFront R p.graph q.graph js ls → Same R (record p { graph = record { after = js; raises = None } ∷ p.graph }) (record q { graph = record { after = ls; raises = None } ∷ q.graph })
    one_more js ls j = points_later R p q (record { after = js; raises = None } ∷ p.graph) (record { after = ls; raises = None } ∷ q.graph) (step R rising p.graph q.graph js ls j) (both_quiet_step p.graph q.graph js ls) s

    two_fronts : (k i m j : ℕ) → SameFront R p.graph q.graph (k ∷ []) (m ∷ []) → SameFront R p.graph q.graph (i ∷ []) (j ∷ []) → SameFront R p.graph q.graph (k ∷ i ∷ []) (m ∷ j ∷ [])
    two_fronts k i m j a b = appended R rising p.graph q.graph (k ∷ []) (i ∷ []) (m ∷ []) (j ∷ []) a b

    pub moved_after : (t : ℕ) (a b : ThreadPoints) (k m : ℕ) → t < 5 → SameThread R p.graph q.graph t a b → SameFront R p.graph q.graph (k ∷ []) (m ∷ [])
        → Same R (with_thread p t (graph_after_acquire p.graph a k) (with_present p.graph a)) (with_thread q t (graph_after_acquire q.graph b m) (with_present q.graph b))
    moved_after t a b k m l r f =
        thread_set R (record p { graph = graph_after_acquire p.graph a k }) (record q { graph = graph_after_acquire q.graph b m }) (one_more (a.present ∷ k ∷ []) (b.present ∷ m ∷ []) (two_fronts a.present k b.present m r.present f))
        t (with_present p.graph a) (with_present q.graph b) (thread_moved p.graph q.graph s.none t a b k m l r f)

    pub acquire_same : (t n : ℕ) → Same R (points_after_acquire p t n) (points_after_acquire q t n)
    acquire_same t n =
        by_thread R p.graph q.graph t (λ o u. Same R (acquire_by p t o (slice_get p.places n)) (acquire_by q t u (slice_get q.places n))) s
        (λ a b l r. by_place R p.graph q.graph (λ o u. Same R (acquire_by p t (Some a) o) (acquire_by q t (Some b) u)) s (λ k m f. moved_after t a b k m l r f) (λ x y f. s) (λ x y f i. s) (slice_get p.places n) (slice_get q.places n) (s.place n))
        (slice_get p.threads t) (slice_get q.threads t) (acting R p q s t)

    released_at : (n : ℕ) (order : Ordering) (t : ℕ) (a b : ThreadPoints) (k m : ℕ) → SameThread R p.graph q.graph t a b → SameFront R p.graph q.graph (k ∷ []) (m ∷ []) → Same R (release_by p n order (Some a) (Some (Meets k))) (release_by q n order (Some b) (Some (Meets m)))
    released_at n order t a b k m r f =
        let j = stored p.graph q.graph s.none a b k m order r.present r.released f in
        place_set R (record p { graph = graph_after_store p.graph a k order }) (record q { graph = graph_after_store q.graph b m order })
        (one_more (k ∷ a.released ∷ (if is_release order then a.present ∷ [] else [])) (m ∷ b.released ∷ (if is_release order then b.present ∷ [] else [])) j)
        n (Meets (length p.graph)) (Meets (length q.graph))
        (same_point (length p.graph) (length q.graph) (made p.graph q.graph s.none (k ∷ a.released ∷ (if is_release order then a.present ∷ [] else [])) (m ∷ b.released ∷ (if is_release order then b.present ∷ [] else [])) j))

    pub release_same : (t n : ℕ) (order : Ordering) → Same R (points_after_release p t n order) (points_after_release q t n order)
    release_same t n order =
        by_thread R p.graph q.graph t (λ o u. Same R (release_by p n order o (slice_get p.places n)) (release_by q n order u (slice_get q.places n))) s
        (λ a b l r. by_place R p.graph q.graph (λ o u. Same R (release_by p n order (Some a) o) (release_by q n order (Some b) u)) s (λ k m f. released_at n order t a b k m r f) (λ x y f. s) (λ x y f i. s) (slice_get p.places n) (slice_get q.places n) (s.place n))
        (slice_get p.threads t) (slice_get q.threads t) (acting R p q s t)

    fenced : (t : ℕ) (a b : ThreadPoints) → t < 5 → SameThread R p.graph q.graph t a b → Same R (fence_by p t (Some a)) (fence_by q t (Some b))
    fenced t a b l r =
        let j = two_fronts a.released a.present b.released b.present r.released r.present in
        let later : Later R p.graph q.graph (graph_after_release_fence p.graph a) (graph_after_release_fence q.graph b) = step R rising p.graph q.graph (a.released ∷ a.present ∷ []) (b.released ∷ b.present ∷ []) j in
        thread_set R (record p { graph = graph_after_release_fence p.graph a }) (record q { graph = graph_after_release_fence q.graph b }) (one_more (a.released ∷ a.present ∷ []) (b.released ∷ b.present ∷ []) j)
        t (record a { released = length p.graph }) (record b { released = length q.graph })
        (record {
          present = front_later R p.graph q.graph (graph_after_release_fence p.graph a) (graph_after_release_fence q.graph b) later (a.present ∷ []) (b.present ∷ []) r.present;
          released = made p.graph q.graph s.none (a.released ∷ a.present ∷ []) (b.released ∷ b.present ∷ []) j;
          yielded = touch_later R p.graph q.graph (graph_after_release_fence p.graph a) (graph_after_release_fence q.graph b) later t a.yielded b.yielded l r.yielded;
          full = full_later p.graph (graph_after_release_fence p.graph a) (quiet_step p.graph (a.released ∷ a.present ∷ [])) t a.present r.full;
          full_too = full_later q.graph (graph_after_release_fence q.graph b) (quiet_step q.graph (b.released ∷ b.present ∷ [])) t b.present r.full_too;
        })

    pub release_fence_same : (t : ℕ) → Same R (points_after_release_fence p t) (points_after_release_fence q t)
    release_fence_same t = by_thread R p.graph q.graph t (λ o u. Same R (fence_by p t o) (fence_by q t u)) s (λ a b l r. fenced t a b l r) (slice_get p.threads t) (slice_get q.threads t) (acting R p q s t)

    pub yield_same : (t : ℕ) → Same R (points_after_yield p t) (points_after_yield q t)
    yield_same t =
        by_thread R p.graph q.graph t (λ o u. Same R (yield_by p t o) (yield_by q t u)) s
        (λ a b l r. thread_set R p q s t (record a { yielded = Some a.present }) (record b { yielded = Some b.present }) (record { present = r.present; released = r.released; yielded = both_touch a.present b.present (r.present t l); full = r.full; full_too = r.full_too }))
        (slice_get p.threads t) (slice_get q.threads t) (acting R p q s t)

    pub point_same : Same R (points_with_point p) (points_with_point q)
    point_same =
        place_added R (record p { graph = record { after = []; raises = None } ∷ p.graph }) (record q { graph = record { after = []; raises = None } ∷ q.graph }) (one_more [] [] s.none)
        (Meets (length p.graph)) (Meets (length q.graph)) (same_point (length p.graph) (length q.graph) (made p.graph q.graph s.none [] [] s.none))

    pub stamp_same : Same R (points_with_stamp p) (points_with_stamp q)
    stamp_same =
        stamp_added R (record p { graph = record { after = []; raises = None } ∷ p.graph }) (record q { graph = record { after = []; raises = None } ∷ q.graph }) (one_more [] [] s.none)
        (length p.graph) (length q.graph) (made p.graph q.graph s.none [] [] s.none)

    pub stamped_same : (n m : ℕ) → Same R (points_after_stamp p n m) (points_after_stamp q n m)
    stamped_same n m =
        by_place R p.graph q.graph (λ o u. Same R (stamp_by p m o) (stamp_by q m u)) s (λ k i f. stamp_set R p q s m k i f) (λ x y f. s) (λ x y f i. s) (slice_get p.places n) (slice_get q.places n) (s.place n)

    -- what holds of a stamp that is in both runs or in neither
    by_stamp : (P : Option ℕ → Option ℕ → Type 0) → P None None → ((k m : ℕ) → SameFront R p.graph q.graph (k ∷ []) (m ∷ []) → P (Some k) (Some m)) → (o u : Option ℕ) → Both (SameStamp R p.graph q.graph) o u → P o u
    by_stamp P none some None None no_one = none
    by_stamp P none some (Some k) (Some m) (both _ _ f) = some k m f
    by_stamp P none some None (Some m) f = elim f [ ]
    by_stamp P none some (Some k) None f = elim f [ ]

    stamp_released_at : (m : ℕ) (order : Ordering) (t : ℕ) (a b : ThreadPoints) (k n : ℕ) → SameThread R p.graph q.graph t a b → SameFront R p.graph q.graph (k ∷ []) (n ∷ []) → Same R (stamp_release_by p m order (Some a) (Some k)) (stamp_release_by q m order (Some b) (Some n))
    stamp_released_at m order t a b k n r f =
        let j = stored p.graph q.graph s.none a b k n order r.present r.released f in
        stamp_set R (record p { graph = graph_after_store p.graph a k order }) (record q { graph = graph_after_store q.graph b n order })
        (one_more (k ∷ a.released ∷ (if is_release order then a.present ∷ [] else [])) (n ∷ b.released ∷ (if is_release order then b.present ∷ [] else [])) j)
        m (length p.graph) (length q.graph)
        (made p.graph q.graph s.none (k ∷ a.released ∷ (if is_release order then a.present ∷ [] else [])) (n ∷ b.released ∷ (if is_release order then b.present ∷ [] else [])) j)

    pub stamp_release_same : (t m : ℕ) (order : Ordering) → Same R (points_after_stamp_release p t m order) (points_after_stamp_release q t m order)
    stamp_release_same t m order =
        by_thread R p.graph q.graph t (λ o u. Same R (stamp_release_by p m order o (slice_get p.stamps m)) (stamp_release_by q m order u (slice_get q.stamps m))) s
        (λ a b l r. by_stamp (λ o u. Same R (stamp_release_by p m order (Some a) o) (stamp_release_by q m order (Some b) u)) s (λ k n f. stamp_released_at m order t a b k n r f) (slice_get p.stamps m) (slice_get q.stamps m) (s.stamp m))
        (slice_get p.threads t) (slice_get q.threads t) (acting R p q s t)

    pub stamp_acquire_same : (t m : ℕ) → Same R (points_after_stamp_acquire p t m) (points_after_stamp_acquire q t m)
    stamp_acquire_same t m =
        by_thread R p.graph q.graph t (λ o u. Same R (stamp_acquire_by p t o (slice_get p.stamps m)) (stamp_acquire_by q t u (slice_get q.stamps m))) s
        (λ a b l r. by_stamp (λ o u. Same R (stamp_acquire_by p t (Some a) o) (stamp_acquire_by q t (Some b) u)) s (λ k n f. moved_after t a b k n l r f) (slice_get p.stamps m) (slice_get q.stamps m) (s.stamp m))
        (slice_get p.threads t) (slice_get q.threads t) (acting R p q s t)

    pub join_same : (t u : ℕ) → Same R (points_after_join p t u) (points_after_join q t u)
    join_same t u =
        by_thread R p.graph q.graph t (λ o x. Same R (join_by p t o (slice_get p.threads u)) (join_by q t x (slice_get q.threads u))) s
        (λ a b l r. by_thread R p.graph q.graph u (λ o x. Same R (join_by p t (Some a) o) (join_by q t (Some b) x)) s (λ c d i f. moved_after t a b c.present d.present l r f.present) (slice_get p.threads u) (slice_get q.threads u) (acting R p q s u))
        (slice_get p.threads t) (slice_get q.threads t) (acting R p q s t)

    -- the global point comes after a present point
    global_moved : (a b : ThreadPoints) → SameFront R p.graph q.graph (a.present ∷ []) (b.present ∷ []) → Same R (with_global p a) (with_global q b)
    global_moved a b f =
        let j = two_fronts p.global a.present q.global b.present s.global f in
        global_set R (record p { graph = graph_after_release p.graph a p.global }) (record q { graph = graph_after_release q.graph b q.global }) (one_more (p.global ∷ a.present ∷ []) (q.global ∷ b.present ∷ []) j)
        (length p.graph) (length q.graph) (made p.graph q.graph s.none (p.global ∷ a.present ∷ []) (q.global ∷ b.present ∷ []) j)

  -- ---- raising

  -- thread u's points, once thread t, which is another one, has raised
  other_raised : (g h : Graph) (js ls : List ℕ) (t u : ℕ) (a b : ThreadPoints) → (t ≡ u → ⊥) → u < 5 → Later R g h (record { after = js; raises = Some t } ∷ g) (record { after = ls; raises = Some t } ∷ h) → SameThread R g h u a b
      → SameThread R (record { after = js; raises = Some t } ∷ g) (record { after = ls; raises = Some t } ∷ h) u a b
  other_raised g h js ls t u a b n l later s =
      let one : Graph = record { after = js; raises = Some t } ∷ g in
      let two : Graph = record { after = ls; raises = Some t } ∷ h in
      record {
        present = front_later R g h one two later (a.present ∷ []) (b.present ∷ []) s.present;
        released = front_later R g h one two later (a.released ∷ []) (b.released ∷ []) s.released;
        yielded = touch_later R g h one two later u a.yielded b.yielded l s.yielded;
        full = full_beside (record { after = js; raises = Some t }) g u a.present (ne_eqb t u n) s.full;
        full_too = full_beside (record { after = ls; raises = Some t }) h u b.present (ne_eqb t u n) s.full_too;
      }

  -- thread t's points, once it has raised
  self_raised : (g h : Graph) (js ls : List ℕ) (t : ℕ) (a b : ThreadPoints) → t < 5 → SameFront R g h [] [] → (j : SameFront R g h js ls) (raises : Raises R g h js ls t) → SameThread R g h t a b
      → SameThread R (record { after = js; raises = Some t } ∷ g) (record { after = ls; raises = Some t } ∷ h) t (record a { present = length g }) (record b { present = length h })
  self_raised g h js ls t a b l none j raises s =
      let one : Graph = record { after = js; raises = Some t } ∷ g in
      let two : Graph = record { after = ls; raises = Some t } ∷ h in
      let later : Later R g h one two = raise_step R rising g h js ls t j raises in
      record {
        present = made_raising g h none js ls t j raises;
        released = front_later R g h one two later (a.released ∷ []) (b.released ∷ []) s.released;
        yielded = touch_later R g h one two later t a.yielded b.yielded l s.yielded;
        full = full_raised g t js (Some t) (none t l).chain (eq-eqb t t refl) raises.full;
        full_too = full_raised h t ls (Some t) (none t l).chain_too (eq-eqb t t refl) raises.full_too;
      }

  -- both lead to points of which the same is seen, or fail alike; but each may find that there are too many versions
  abbrev pub RaisesSame : Result Points FailureKind → Result Points FailureKind → Type 0
  RaisesSame (Ok p) (Ok q) = Same R p q
  RaisesSame (Ok p) (Err kind) = kind ≡ TooManyVersions
  RaisesSame (Err kind) (Ok q) = kind ≡ TooManyVersions
  RaisesSame (Err kind) (Err other) = (kind ≡ other) ⊎ (kind ≡ TooManyVersions) ⊎ (other ≡ TooManyVersions)

  if_raised : (x y : Bool) (p q : Points) → Same R p q → RaisesSame (if x then Ok p else Err TooManyVersions) (if y then Ok q else Err TooManyVersions)
  if_raised true true p q s = s
  if_raised true false p q s = refl
  if_raised false true p q s = refl
  if_raised false false p q s = inl refl

  module _ (p q : Points) (s : Same R p q) (t : ℕ) (a b : ThreadPoints) (l : t < 5) (there : slice_get p.threads t ≡ Some a) (there_too : slice_get q.threads t ≡ Some b) (r : SameThread R p.graph q.graph t a b)
      (next : R t (suc (length (raised p.graph t))) (suc (length (raised q.graph t)))) where
    raises_so : Raises R p.graph q.graph (a.present ∷ []) (b.present ∷ []) t
    raises_so = record { full = r.full; full_too = r.full_too; next = next }

    raised_so : Same R (with_thread p t (graph_after_raise p.graph a t) (with_present p.graph a)) (with_thread q t (graph_after_raise q.graph b t) (with_present q.graph b))
    raised_so =
        let g : Graph = graph_after_raise p.graph a t in
        let h : Graph = graph_after_raise q.graph b t in
        let later : Later R p.graph q.graph g h = raise_step R rising p.graph q.graph (a.present ∷ []) (b.present ∷ []) t r.present raises_so in
        let few = s.few in
        let e = length-set p.threads t (with_present p.graph a) in
        threads_later R p q g h (set p.threads t (with_present p.graph a)) (set q.threads t (with_present q.graph b)) later s (omega arith)
        (length-set p.threads t (with_present p.graph a) ∙ s.threads ∙ sym (length-set q.threads t (with_present q.graph b)))
        (λ u i. at u i (cases_eq u t)) absent
      where
        later_so : Later R p.graph q.graph (graph_after_raise p.graph a t) (graph_after_raise q.graph b t)
        later_so = raise_step R rising p.graph q.graph (a.present ∷ []) (b.present ∷ []) t r.present raises_so

        at : (u : ℕ) → u < 5 → ((u ≡ t) ⊎ (u ≡ t → ⊥)) → Both (SameThread R (graph_after_raise p.graph a t) (graph_after_raise q.graph b t) u) (slice_get (set p.threads t (with_present p.graph a)) u) (slice_get (set q.threads t (with_present q.graph b)) u)
        at u i (inl e) =
            subst (λ v. Both (SameThread R (graph_after_raise p.graph a t) (graph_after_raise q.graph b t) v) (slice_get (set p.threads t (with_present p.graph a)) v) (slice_get (set q.threads t (with_present q.graph b)) v)) (sym e)
            (rw (get-set_same p.threads t (with_present p.graph a) (is_there p.threads t a there), get-set_same q.threads t (with_present q.graph b) (is_there q.threads t b there_too))
            (both (with_present p.graph a) (with_present q.graph b) (self_raised p.graph q.graph (a.present ∷ []) (b.present ∷ []) t a b l s.none r.present raises_so r)))
        at u i (inr n) =
            rw (get-set_other p.threads t u (with_present p.graph a) n, get-set_other q.threads t u (with_present q.graph b) n)
            (both_more (SameThread R p.graph q.graph u) (SameThread R (graph_after_raise p.graph a t) (graph_after_raise q.graph b t) u) (slice_get p.threads u) (slice_get q.threads u)
            (λ x y z. other_raised p.graph q.graph (a.present ∷ []) (b.present ∷ []) t u x y (λ f. n (sym f)) i later_so z) (s.thread u i))

        absent : (u : ℕ) → u < 5 → length (set p.threads t (with_present p.graph a)) ≤ u → (raised (graph_after_raise p.graph a t) u ≡ []) × (raised (graph_after_raise q.graph b t) u ≡ [])
        absent u i k =
            let e = length-set p.threads t (with_present p.graph a) in
            let m = is_there p.threads t a there in
            let apart : raises_version (Some t) u ≡ false = ne_eqb t u (λ (f : t ≡ u). absurd (omega arith)) in
            let old = s.absent u i (omega arith) in
            (raised-no (record { after = a.present ∷ []; raises = Some t }) p.graph u apart ∙ old.0, raised-no (record { after = b.present ∷ []; raises = Some t }) q.graph u apart ∙ old.1)

  -- what holds of a thread that is in both runs or in neither, by where it is
  by_there : (p q : Points) → Same R p q → (t : ℕ) (P : Option ThreadPoints → Option ThreadPoints → Type 0) → P None None
      → ((a b : ThreadPoints) → t < 5 → slice_get p.threads t ≡ Some a → slice_get q.threads t ≡ Some b → SameThread R p.graph q.graph t a b → P (Some a) (Some b)) → P (slice_get p.threads t) (slice_get q.threads t)
  by_there p q s t P none some =
      by_thread R p.graph q.graph t (λ o u. slice_get p.threads t ≡ o → slice_get q.threads t ≡ u → P o u) (λ e f. none) (λ a b l r e f. some a b l e f r) (slice_get p.threads t) (slice_get q.threads t) (acting R p q s t) refl refl

  -- one more raise of each thread than in the two runs is a pair in both
  abbrev pub HasNext : Points → Points → Type 0
  HasNext p q = (t : ℕ) → t < 5 → R t (suc (length (raised p.graph t))) (suc (length (raised q.graph t)))

  pub raise_same : (p q : Points) → Same R p q → HasNext p q → (t : ℕ) → RaisesSame (points_after_raise p t) (points_after_raise q t)
  raise_same p q s next t =
      by_there p q s t (λ o u. RaisesSame (raise_by p t o) (raise_by q t u)) (inl refl)
      (λ a b l there there_too r. if_raised (nat_lt (length (raised p.graph t)) highest_version) (nat_lt (length (raised q.graph t)) highest_version)
      (with_thread p t (graph_after_raise p.graph a t) (with_present p.graph a)) (with_thread q t (graph_after_raise q.graph b t) (with_present q.graph b)) (raised_so p q s t a b l there there_too r (next t l)))

  -- ---- spawning: the graphs with a child, and then the parent's raise; the child's points and the parent's in them

  module _ (p q : Points) (s : Same R p q) (t : ℕ) (a b : ThreadPoints) (l : t < 5) (there : slice_get p.threads t ≡ Some a) (there_too : slice_get q.threads t ≡ Some b) (r : SameThread R p.graph q.graph t a b)
      (next : HasNext p q) (room : length p.threads < 5) where
    -- the child
    abbrev c : ℕ
    c = length p.threads

    none_raised : (raised p.graph c ≡ []) × (raised q.graph c ≡ [])
    none_raised = s.absent c room (omega arith)

    parent : t < c
    parent = is_there p.threads t a there

    abbrev g₁ : Graph
    g₁ = record { after = []; raises = None } ∷ p.graph

    abbrev h₁ : Graph
    h₁ = record { after = []; raises = None } ∷ q.graph

    s₁ : Same R (record p { graph = g₁ }) (record q { graph = h₁ })
    s₁ = one_more p q s [] [] s.none

    -- the released point of the child
    start₁ : SameFront R g₁ h₁ (length p.graph ∷ []) (length q.graph ∷ [])
    start₁ = made p.graph q.graph s.none [] [] s.none

    r₁ : SameThread R g₁ h₁ t a b
    r₁ = thread_later R p.graph q.graph g₁ h₁ (step R rising p.graph q.graph [] [] s.none) (both_quiet_step p.graph q.graph [] []) t a b l r

    one₁ : (u : ℕ) → raised g₁ u ≡ raised p.graph u
    one₁ u = raised-no (record { after = []; raises = None }) p.graph u refl

    two₁ : (u : ℕ) → raised h₁ u ≡ raised q.graph u
    two₁ u = raised-no (record { after = []; raises = None }) q.graph u refl

    abbrev g₂ : Graph
    g₂ = record { after = a.present ∷ []; raises = Some c } ∷ g₁

    abbrev h₂ : Graph
    h₂ = record { after = b.present ∷ []; raises = Some c } ∷ h₁

    -- nobody has raised the child, so all that have reach any point
    unraised : (f : Graph) (k : ℕ) → raised f c ≡ [] → number f (k ∷ []) c ≡ length (raised f c)
    unraised f k e = let few = number_most f (k ∷ []) c in let n = ap (λ (xs : List ℕ). length xs) e in omega arith

    raises₂ : Raises R g₁ h₁ (a.present ∷ []) (b.present ∷ []) c
    raises₂ = record {
      full = unraised g₁ a.present (one₁ c ∙ none_raised.0);
      full_too = unraised h₁ b.present (two₁ c ∙ none_raised.1);
      next = subst₂ (λ n m. R c (suc n) (suc m)) (sym (ap length (one₁ c))) (sym (ap length (two₁ c))) (next c room);
    }

    later₂ : Later R g₁ h₁ g₂ h₂
    later₂ = raise_step R rising g₁ h₁ (a.present ∷ []) (b.present ∷ []) c r₁.present raises₂

    present₂ : SameFront R g₂ h₂ (length g₁ ∷ []) (length h₁ ∷ [])
    present₂ = made_raising g₁ h₁ s₁.none (a.present ∷ []) (b.present ∷ []) c r₁.present raises₂

    none₂ : SameFront R g₂ h₂ [] []
    none₂ = front_later R g₁ h₁ g₂ h₂ later₂ [] [] s₁.none

    beside : (u : ℕ) → u < c → (c ≡ u → ⊥)
    beside u i e = absurd (omega arith)

    r₂ : SameThread R g₂ h₂ t a b
    r₂ = other_raised g₁ h₁ (a.present ∷ []) (b.present ∷ []) c t a b (beside t parent) l later₂ r₁

    one₂ : (u : ℕ) → (c ≡ u → ⊥) → raised g₂ u ≡ raised p.graph u
    one₂ u n = raised-no (record { after = a.present ∷ []; raises = Some c }) g₁ u (ne_eqb c u n) ∙ one₁ u

    two₂ : (u : ℕ) → (c ≡ u → ⊥) → raised h₂ u ≡ raised q.graph u
    two₂ u n = raised-no (record { after = b.present ∷ []; raises = Some c }) h₁ u (ne_eqb c u n) ∙ two₁ u

    abbrev g₃ : Graph
    g₃ = record { after = a.present ∷ []; raises = Some t } ∷ g₂

    abbrev h₃ : Graph
    h₃ = record { after = b.present ∷ []; raises = Some t } ∷ h₂

    raises₃ : Raises R g₂ h₂ (a.present ∷ []) (b.present ∷ []) t
    raises₃ = record {
      full = r₂.full;
      full_too = r₂.full_too;
      next = subst₂ (λ n m. R t (suc n) (suc m)) (sym (ap length (one₂ t (beside t parent)))) (sym (ap length (two₂ t (beside t parent)))) (next t l);
    }

    later₃ : Later R g₂ h₂ g₃ h₃
    later₃ = raise_step R rising g₂ h₂ (a.present ∷ []) (b.present ∷ []) t r₂.present raises₃

    all₃ : Later R p.graph q.graph g₃ h₃
    all₃ u i ks ms e = later₃ u i ks ms (later₂ u i ks ms (step R rising p.graph q.graph [] [] s.none u i ks ms e))

    parent₃ : SameThread R g₃ h₃ t (parent_points p.graph a) (parent_points q.graph b)
    parent₃ = self_raised g₂ h₂ (a.present ∷ []) (b.present ∷ []) t a b l none₂ r₂.present raises₃ r₂

    child₂ : SameThread R g₂ h₂ c (child_points p.graph) (child_points q.graph)
    child₂ = record {
      present = present₂;
      released = front_later R g₁ h₁ g₂ h₂ later₂ (length p.graph ∷ []) (length q.graph ∷ []) start₁;
      yielded = no_touch;
      full = full_raised g₁ c (a.present ∷ []) (Some c) (s₁.none c room).chain (eq-eqb c c refl) raises₂.full;
      full_too = full_raised h₁ c (b.present ∷ []) (Some c) (s₁.none c room).chain_too (eq-eqb c c refl) raises₂.full_too;
    }

    child₃ : SameThread R g₃ h₃ c (child_points p.graph) (child_points q.graph)
    child₃ = other_raised g₂ h₂ (a.present ∷ []) (b.present ∷ []) t c (child_points p.graph) (child_points q.graph) (λ e. absurd (omega (arith, parent))) room later₃ child₂

    -- the others
    other₃ : (u : ℕ) (x y : ThreadPoints) → u < 5 → u < c → (u ≡ t → ⊥) → SameThread R p.graph q.graph u x y → SameThread R g₃ h₃ u x y
    other₃ u x y i k n z =
        other_raised g₂ h₂ (a.present ∷ []) (b.present ∷ []) t u x y (λ e. n (sym e)) i later₃
        (other_raised g₁ h₁ (a.present ∷ []) (b.present ∷ []) c u x y (beside u k) i later₂
        (thread_later R p.graph q.graph g₁ h₁ (step R rising p.graph q.graph [] [] s.none) (both_quiet_step p.graph q.graph [] []) u x y i z))

    abbrev xs₃ : List ThreadPoints
    xs₃ = set p.threads t (parent_points p.graph a)

    abbrev ys₃ : List ThreadPoints
    ys₃ = set q.threads t (parent_points q.graph b)

    set₃ : length xs₃ ≡ length ys₃
    set₃ = length-set p.threads t (parent_points p.graph a) ∙ s.threads ∙ sym (length-set q.threads t (parent_points q.graph b))

    at_old : (u : ℕ) → u < 5 → u < c → ((u ≡ t) ⊎ (u ≡ t → ⊥)) → Both (SameThread R g₃ h₃ u) (slice_get xs₃ u) (slice_get ys₃ u)
    at_old u i k (inl e) =
        subst (λ v. Both (SameThread R g₃ h₃ v) (slice_get xs₃ v) (slice_get ys₃ v)) (sym e)
        (rw (get-set_same p.threads t (parent_points p.graph a) parent, get-set_same q.threads t (parent_points q.graph b) (is_there q.threads t b there_too)) (both (parent_points p.graph a) (parent_points q.graph b) parent₃))
    at_old u i k (inr n) =
        rw (get-set_other p.threads t u (parent_points p.graph a) n, get-set_other q.threads t u (parent_points q.graph b) n)
        (both_more (SameThread R p.graph q.graph u) (SameThread R g₃ h₃ u) (slice_get p.threads u) (slice_get q.threads u) (λ x y z. other₃ u x y i k n z) (s.thread u i))

    at_new : (u : ℕ) → u < 5 → ((u ≡ c) ⊎ (u ≡ c → ⊥)) → Both (SameThread R g₃ h₃ u) (slice_get (xs₃ ++ child_points p.graph ∷ []) u) (slice_get (ys₃ ++ child_points q.graph ∷ []) u)
    at_new u i (inl e) =
        let n = length-set p.threads t (parent_points p.graph a) in
        rw (get-append_same xs₃ u (child_points p.graph) (omega arith), get-append_same ys₃ u (child_points q.graph) (let m = set₃ in omega arith))
        (subst (λ v. Both (SameThread R g₃ h₃ v) (Some (child_points p.graph)) (Some (child_points q.graph))) (sym e) (both (child_points p.graph) (child_points q.graph) child₃))
    at_new u i (inr n) =
        let m = length-set p.threads t (parent_points p.graph a) in
        rw (get-append_other xs₃ u (child_points p.graph) (λ e. n (omega arith)), get-append_other ys₃ u (child_points q.graph) (λ e. n (let k = set₃ in omega arith)))
        (⊎_elim
        (λ (k : u < c). at_old u i k (cases_eq u t))
        (λ (k : c ≤ u). let j : length p.threads ≤ u = k in rw (slice_get_past xs₃ u (omega arith), slice_get_past ys₃ u (let k = set₃ in omega arith)) no_one)
        (cases_lt u c))

    spawned : Same R (record p { graph = graph_after_spawn p.graph a t c; threads = xs₃ ++ child_points p.graph ∷ [] }) (record q { graph = graph_after_spawn q.graph b t c; threads = ys₃ ++ child_points q.graph ∷ [] })
    spawned =
        let n = length-set p.threads t (parent_points p.graph a) in
        let m = length_push xs₃ (child_points p.graph) in
        threads_later R p q g₃ h₃ (xs₃ ++ child_points p.graph ∷ []) (ys₃ ++ child_points q.graph ∷ []) all₃ s (omega arith)
        (length_push xs₃ (child_points p.graph) ∙ ap (λ k. k + 1) set₃ ∙ sym (length_push ys₃ (child_points q.graph)))
        (λ u i. at_new u i (cases_eq u c)) absent
      where
        absent : (u : ℕ) → u < 5 → length (xs₃ ++ child_points p.graph ∷ []) ≤ u → (raised g₃ u ≡ []) × (raised h₃ u ≡ [])
        absent u i k =
            let n = length-set p.threads t (parent_points p.graph a) in
            let m = length_push xs₃ (child_points p.graph) in
            let before = parent in
            let apart : raises_version (Some t) u ≡ false = ne_eqb t u (λ (f : t ≡ u). absurd (omega arith)) in
            let old = s.absent u i (omega arith) in
            (raised-no (record { after = a.present ∷ []; raises = Some t }) g₂ u apart ∙ one₂ u (λ (f : c ≡ u). absurd (omega arith)) ∙ old.0, raised-no (record { after = b.present ∷ []; raises = Some t }) h₂ u apart ∙ two₂ u (λ (f : c ≡ u). absurd (omega arith)) ∙ old.1)

  pub spawn_same : (p q : Points) → Same R p q → HasNext p q → (t : ℕ) → RaisesSame (points_after_spawn p t) (points_after_spawn q t)
  spawn_same p q s next t =
      by_there p q s t (λ o u. RaisesSame (spawn_by p t o) (spawn_by q t u)) (inl refl)
      (λ a b l there there_too r. subst (λ n. RaisesSame (spawn_by p t (Some a)) (if nat_le 5 n then Err TooManyThreads
      else (if nat_lt (length (raised q.graph t)) highest_version then Ok (record q { graph = graph_after_spawn q.graph b t n; threads = set q.threads t (parent_points q.graph b) ++ child_points q.graph ∷ [] }) else Err TooManyVersions))) s.threads
      (by a b l there there_too r (cases_Bool (nat_le 5 (length p.threads)))))
    where
      by : (a b : ThreadPoints) → t < 5 → slice_get p.threads t ≡ Some a → slice_get q.threads t ≡ Some b → SameThread R p.graph q.graph t a b → ((nat_le 5 (length p.threads) ≡ true) ⊎ (nat_le 5 (length p.threads) ≡ false))
          → RaisesSame (spawn_by p t (Some a)) (if nat_le 5 (length p.threads) then Err TooManyThreads
          else (if nat_lt (length (raised q.graph t)) highest_version then Ok (record q { graph = graph_after_spawn q.graph b t (length p.threads); threads = set q.threads t (parent_points q.graph b) ++ child_points q.graph ∷ [] }) else Err TooManyVersions))
      by a b l there there_too r (inl e) = rw e (inl refl)
      by a b l there there_too r (inr e) = rw e (if_raised (nat_lt (length (raised p.graph t)) highest_version) (nat_lt (length (raised q.graph t)) highest_version)
          (record p { graph = graph_after_spawn p.graph a t (length p.threads); threads = set p.threads t (parent_points p.graph a) ++ child_points p.graph ∷ [] })
          (record q { graph = graph_after_spawn q.graph b t (length p.threads); threads = set q.threads t (parent_points q.graph b) ++ child_points q.graph ∷ [] })
          (spawned p q s t a b l there there_too r next (leb-false 5 (length p.threads) e)))

  pub meet_same : (p q : Points) → Same R p q → (t : ℕ) → Same R (points_after_meet_global p t) (points_after_meet_global q t)
  meet_same p q s t =
      by_thread R p.graph q.graph t (λ o u. Same R (meet_by p t o) (meet_by q t u)) s
      (λ a b l r. global_moved (with_thread p t (graph_after_acquire p.graph a p.global) (with_present p.graph a)) (with_thread q t (graph_after_acquire q.graph b q.global) (with_present q.graph b))
      (moved_after p q s t a b p.global q.global l r s.global) (with_present p.graph a) (with_present q.graph b) (thread_moved p.graph q.graph s.none t a b p.global q.global l r s.global).present)
      (slice_get p.threads t) (slice_get q.threads t) (acting R p q s t)

  -- ---- cells

  module _ (p q : Points) (s : Same R p q) where
    pub cell_same : (t : ℕ) → Same R (points_with_cell p t) (points_with_cell q t)
    cell_same t =
        by_thread R p.graph q.graph t (λ o u. Same R (add_cell_by p o) (add_cell_by q u)) s
        (λ a b l r. place_added R p q s (Records (new_accesses a.present)) (Records (new_accesses b.present)) (same_cell (new_accesses a.present) (new_accesses b.present) r.present r.present))
        (slice_get p.threads t) (slice_get q.threads t) (acting R p q s t)

    -- two records of accesses that a step led to, or failures
    abbrev RecordsSame : Result Accesses FailureKind → Result Accesses FailureKind → Type 0
    RecordsSame (Ok x) (Ok y) = SameFront R p.graph q.graph x.reads y.reads × SameFront R p.graph q.graph x.writes y.writes
    RecordsSame (Ok x) (Err kind) = ⊥
    RecordsSame (Err kind) (Ok y) = ⊥
    RecordsSame (Err kind) (Err other) = kind ≡ other

    recorded_same : (n : ℕ) (x y : Result Accesses FailureKind) → RecordsSame x y → MovesSame (recorded p n x) (recorded q n y)
    recorded_same n (Ok x) (Ok y) f = place_set R p q s n (Records x) (Records y) (same_cell x y f.0 f.1)
    recorded_same n (Ok x) (Err kind) f = absurd f
    recorded_same n (Err kind) (Ok y) f = absurd f
    recorded_same n (Err kind) (Err other) f = f

    record_same : (t n : ℕ) (step : Graph → ℕ → Accesses → Result Accesses FailureKind)
        → ((a b : ThreadPoints) (x y : Accesses) → SameThread R p.graph q.graph t a b → SameFront R p.graph q.graph x.reads y.reads → SameFront R p.graph q.graph x.writes y.writes → RecordsSame (step p.graph a.present x) (step q.graph b.present y))
        → MovesSame (record_by p n step (slice_get p.threads t) (slice_get p.places n)) (record_by q n step (slice_get q.threads t) (slice_get q.places n))
    record_same t n step steps =
        by_thread R p.graph q.graph t (λ o u. MovesSame (record_by p n step o (slice_get p.places n)) (record_by q n step u (slice_get q.places n))) refl
        (λ a b l r. by_place R p.graph q.graph (λ o u. MovesSame (record_by p n step (Some a) o) (record_by q n step (Some b) u)) refl (λ k m f. refl) (λ x y f. refl)
        (λ x y f i. recorded_same n (step p.graph a.present x) (step q.graph b.present y) (steps a b x y r f i)) (slice_get p.places n) (slice_get q.places n) (s.place n))
        (slice_get p.threads t) (slice_get q.threads t) (acting R p q s t)

    raced_when : (x y : Bool) (a b : Accesses) → x ≡ y → SameFront R p.graph q.graph a.reads b.reads → SameFront R p.graph q.graph a.writes b.writes → RecordsSame (if x then Err Race else Ok a) (if y then Err Race else Ok b)
    raced_when true true a b e f i = refl
    raced_when true false a b e f i = absurd (cc e)
    raced_when false true a b e f i = absurd (cc e)
    raced_when false false a b e f i = (f, i)

    pub read_same : (t n : ℕ) → MovesSame (points_after_read p t n) (points_after_read q t n)
    read_same t n = record_same t n read_step (λ a b x y r f i.
        raced_when (races p.graph x.writes a.present) (races q.graph y.writes b.present) (record x { reads = x.reads ++ a.present ∷ [] }) (record y { reads = y.reads ++ b.present ∷ [] })
        (races_same R rising p.graph q.graph x.writes y.writes a.present b.present i r.present) (appended R rising p.graph q.graph x.reads (a.present ∷ []) y.reads (b.present ∷ []) f r.present) i)

    pub write_same : (t n : ℕ) → MovesSame (points_after_write p t n) (points_after_write q t n)
    write_same t n = record_same t n write_step (λ a b x y r f i.
        raced_when (races p.graph x.writes a.present || races p.graph x.reads a.present) (races q.graph y.writes b.present || races q.graph y.reads b.present) (record x { writes = x.writes ++ a.present ∷ [] }) (record y { writes = y.writes ++ b.present ∷ [] })
        (ap (λ c. c || races p.graph x.reads a.present) (races_same R rising p.graph q.graph x.writes y.writes a.present b.present i r.present) ∙ ap (λ c. races q.graph y.writes b.present || c) (races_same R rising p.graph q.graph x.reads y.reads a.present b.present f r.present))
        f (appended R rising p.graph q.graph x.writes (a.present ∷ []) y.writes (b.present ∷ []) i r.present))
