-- The opening, and a thread that spawns another one.
use Rattle.std.proofs.Common.{zero, suc, subst, ◌≡◌, ℕ, ◌+◌, ◌<◌, ◌≤◌, ◌≢◌, true, false, List, [], ◌∷◌, ◌++◌, length, get_or, set, refl, sym, ◌∙◌, arith, ⊎_elim, Some, None, Ok, Err}
use Rattle.std.specs.Prelude.{nat_lt, nat_le}
use Rattle.std.specs.List.{slice_get}
use Rattle.std.proofs.lemmas.Bool.{lt-ltb, le-ltb, lt-leb, cases_eq, ne_eqb}
use Rattle.std.proofs.lemmas.List.{length-set, length-append}
use Rattle.std.proofs.lemmas.Option.{slice_get_past}
use Rattle.loom_views.specs.declared.rt.failure.FailureKind.TheVariants.{TooManyVersions}
use Rattle.loom_views.specs.declared.rt.synchronize.ThreadViews.{ThreadViews}
use Rattle.loom_views.specs.declared.rt.views.Views.{Views}
use Rattle.loom_views.specs.Graph.{Point, Graph, raised, IsChained, IsPresent, moved}
use Rattle.loom_views.specs.ThreadViews.{ThreadPoints, ShowsThread, graph_with_child, graph_after_spawn, child_points, parent_points}
use Rattle.loom_views.specs.Versions.{zeros}
use Rattle.loom_views.specs.Views.{Points, ShowsThreadAt, ShowsThreads, ShowsViews, MovesAs, opening, points_after_spawn}
use Rattle.loom_views.proofs.Views.Views.{chained-moved, chained-raising, present-old, present-new, shows-old, shows-start, raised-no}
use Rattle.loom_views.proofs.Views.ThreadMoves.{child-chained}
use Rattle.loom_views.proofs.Views.Growth.{GrownBy, same, quiet, raising, shows-grown, present-grown}
use Rattle.loom_views.proofs.Atomic.Table.Lists.{get-set_same, get-set_other, get-append_same, get-append_other}
use Rattle.loom_views.proofs.Atomic.Table.Carried.{found, thread_at-grown, places-grown, stamps-grown}

-- where a thread has raised nothing, every point is its present one
none-present : (g : Graph) (t k : ℕ) → raised g t ≡ [] → IsPresent g t k
unfolding IsPresent
none-present g t k e = rw e tt

none-chained : IsChained []
unfolding IsChained raised
none-chained = λ t. tt

none-raised : (t : ℕ) → raised [] t ≡ []
unfolding raised
none-raised t = refl

start : Point
start = record { after = []; raises = None }

-- main's points, and then all
abbrev mains : Graph
mains = moved (moved [] []) []

abbrev first : Graph
first = moved mains []

first-raised : (t : ℕ) → raised first t ≡ []
unfolding start
first-raised t = raised-no start mains t refl ∙ raised-no start (moved [] []) t refl ∙ raised-no start [] t refl ∙ none-raised t

-- main alone
pub opening-shown : ShowsViews opening (let views : ThreadViews = record { present = zeros; released = zeros; last_yield = None } in record { threads = views ∷ views ∷ views ∷ views ∷ views ∷ []; count = 1; places = []; stamps = []; global = zeros })
unfolding start
opening-shown = record {
  chained = chained-moved mains [] chained;
  count = refl;
  most = omega arith;
  five = refl;
  threads = threads;
  places = λ n. tt;
  stamps = record { count = refl; each = λ m. tt };
  global = shows-start mains chained;
}
  where
    one : IsChained (moved [] [])
    one = chained-moved [] [] none-chained

    chained : IsChained mains
    chained = chained-moved (moved [] []) [] one

    views : ThreadViews
    views = record { present = zeros; released = zeros; last_yield = None }

    threads : ShowsThreads first (child_points [] ∷ []) (views ∷ views ∷ views ∷ views ∷ views ∷ [])
    threads zero l = (
      none-present first 0 1 (first-raised 0),
      record {
        present = shows-old start mains 1 zeros (shows-start (moved [] []) one);
        released = shows-old start mains 0 zeros (shows-old start (moved [] []) 0 zeros (shows-start [] none-chained));
        yielded = tt;
      },
    )
    threads (suc t) l = first-raised (suc t)

-- the points and views of a run in which thread t has spawned the next one
module _ (p : Points) (v : Views) (t : ℕ) (own : ThreadPoints) (views child : ThreadViews) (few : v.count < 5) (there : t < v.count) (z : ShowsViews p v) (none : raised p.graph v.count ≡ []) (present : IsPresent p.graph t own.present) (new : ShowsThread (graph_after_spawn p.graph own t v.count) v.count (child_points p.graph) child) (parent : ShowsThread (graph_after_spawn p.graph own t v.count) t (parent_points p.graph own) views) where
  abbrev with_child : Graph
  with_child = graph_with_child p.graph own v.count

  abbrev after : Graph
  after = graph_after_spawn p.graph own t v.count

  abbrev parents : List ThreadPoints
  parents = set p.threads t (parent_points p.graph own)

  abbrev parents_views : List ThreadViews
  parents_views = set v.threads t views

  abbrev IsShownAt : ℕ → Type 0
  IsShownAt u = ShowsThreadAt after u (slice_get (parents ++ child_points p.graph ∷ []) u) (slice_get (set parents_views v.count child) u)

  apart : v.count ≢ t
  apart = omega arith

  one : GrownBy v.count p.graph with_child
  one = raising (own.present ∷ []) (quiet [] same)

  two : GrownBy t with_child after
  two = raising (own.present ∷ []) same

  -- all threads are there, before the child
  parents-count : length parents ≡ v.count
  parents-count = length-set p.threads t (parent_points p.graph own) ∙ z.count

  still_present : IsPresent with_child t own.present
  still_present = present-grown one t own.present apart present

  shown_at-child : IsShownAt v.count
  unfolding start
  shown_at-child =
      let five = z.five in
      let raising_child = present-new [] (Some v.count) (moved p.graph []) v.count own.present (none-present (moved p.graph []) v.count own.present (raised-no start p.graph v.count refl ∙ none)) in
      rw (get-append_same parents v.count (child_points p.graph) (sym parents-count), get-set_same parents_views v.count child (omega (arith, length-set v.threads t views)))
      (present-old (record { after = own.present ∷ []; raises = Some t }) with_child v.count (suc (length p.graph)) (ne_eqb t v.count (λ e. apart (sym e))) raising_child, new)

  shown_at-before : (u : ℕ) → u ≢ v.count → ShowsThreadAt after u (slice_get parents u) (slice_get parents_views u) → IsShownAt u
  shown_at-before u a h = rw (get-append_other parents u (child_points p.graph) (λ e. a (e ∙ parents-count)), get-set_other parents_views v.count u child a) h

  shown_at-parent : IsShownAt t
  shown_at-parent =
      let five = z.five in
      let count = z.count in
      shown_at-before t (λ e. apart (sym e)) (rw (get-set_same p.threads t (parent_points p.graph own) (omega arith), get-set_same v.threads t views (omega arith)) (present-new [] (Some t) with_child t own.present still_present, parent))

  shown_at-other : (u : ℕ) → u < 5 → u ≢ v.count → u ≢ t → IsShownAt u
  shown_at-other u h a b =
      let carried = thread_at-grown two u (λ e. b (sym e)) (slice_get p.threads u) (slice_get v.threads u) (thread_at-grown one u (λ e. a (sym e)) (slice_get p.threads u) (slice_get v.threads u) (z.threads u h)) in
      shown_at-before u a (rw (get-set_other p.threads t u (parent_points p.graph own) b, get-set_other v.threads t u views b) carried)

  pub spawned-shown : ShowsViews (record p { graph = graph_after_spawn p.graph own t v.count; threads = set p.threads t (parent_points p.graph own) ++ child_points p.graph ∷ [] }) (record v { threads = set (set v.threads t views) v.count child; count = v.count + 1 })
  spawned-shown =
      let count = parents-count in
      record {
        chained = chained-raising with_child own.present t [] (child-chained p.graph own v.count z.chained none) still_present;
        count = length-append parents (child_points p.graph ∷ []) ∙ omega arith;
        most = omega (arith, length-append parents (child_points p.graph ∷ []));
        five = length-set parents_views v.count child ∙ length-set v.threads t views ∙ z.five;
        threads = λ u h. ⊎_elim (λ e. subst IsShownAt (sym e) shown_at-child) (λ a. ⊎_elim (λ e. subst IsShownAt (sym e) shown_at-parent) (shown_at-other u h a) (cases_eq u t)) (cases_eq u v.count);
        places = places-grown two p.places v.places (places-grown one p.places v.places z.places);
        stamps = stamps-grown two p.stamps v.stamps (stamps-grown one p.stamps v.stamps z.stamps);
        global = shows-grown two p.global v.global (shows-grown one p.global v.global z.global);
      }

module _ (p : Points) (v : Views) (t : ℕ) (d : ThreadViews) (l : t < v.count) (m : t < 5) (z : ShowsViews p v) where
  -- the thread that comes next has raised nothing
  child-none : v.count < 5 → raised p.graph v.count ≡ []
  child-none few =
      let h = z.threads v.count few in
      let count = z.count in
      let e = slice_get_past p.threads v.count (omega arith) in
      rw e at h

  -- the thread may raise no more
  full-refused : v.count < 5 → 65534 ≤ length (raised p.graph t) → MovesAs (points_after_spawn p t) (Err TooManyVersions) v
  full-refused few b =
      let f = found p v t d l m z in
      let room : nat_le 5 v.count ≡ false = lt-leb 5 v.count few in
      let full : nat_lt (length (raised p.graph t)) 65534 ≡ false = le-ltb (length (raised p.graph t)) 65534 b in
      rw (f.is, z.count, room, full) refl

  pub spawn-unmade : v.count < 5 → ((g : Graph) (own : ThreadPoints) → IsChained g → raised g v.count ≡ [] → IsPresent g t own.present → ShowsThread g t own (get_or v.threads t d) → 65534 ≤ length (raised g t)) → MovesAs (points_after_spawn p t) (Err TooManyVersions) v
  spawn-unmade few full = let f = found p v t d l m z in full-refused few (full p.graph f.own z.chained (child-none few) f.present f.shown)

  pub spawn-moved : (child views : ThreadViews) → v.count < 5 → ((g : Graph) (own : ThreadPoints) → IsChained g → raised g v.count ≡ [] → IsPresent g t own.present → ShowsThread g t own (get_or v.threads t d) → length (raised g t) < 65534) → ((g : Graph) (own : ThreadPoints) → IsChained g → raised g v.count ≡ [] → IsPresent g t own.present → ShowsThread g t own (get_or v.threads t d) → ShowsThread (graph_after_spawn g own t v.count) v.count (child_points g) child × ShowsThread (graph_after_spawn g own t v.count) t (parent_points g own) views)
      → MovesAs (points_after_spawn p t) (Ok tt) (record v { threads = set (set v.threads t views) v.count child; count = v.count + 1 })
  spawn-moved child views few room shown =
      let f = found p v t d l m z in
      let none = child-none few in
      let s = shown p.graph f.own z.chained none f.present f.shown in
      let fewer : nat_le 5 v.count ≡ false = lt-leb 5 v.count few in
      let free : nat_lt (length (raised p.graph t)) 65534 ≡ true = lt-ltb (length (raised p.graph t)) 65534 (room p.graph f.own z.chained none f.present f.shown) in
      rw (f.is, z.count, fewer, free) (refl, spawned-shown p v t f.own views child few l z none f.present s.0 s.1)
