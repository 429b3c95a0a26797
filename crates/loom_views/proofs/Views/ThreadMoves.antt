-- A thread's views show its points through its moves.
use Rattle.std.proofs.Common.{suc, ◌≡◌, ℕ, ◌<◌, List, [], ◌∷◌, length, get_or, refl, ap, sym, ◌∙◌, arith, ⊎_elim, Option, Some, None}
use Rattle.std.specs.Prelude.{if◌then◌else◌}
use Rattle.std.proofs.lemmas.Bool.{cases_Bool}
use Rattle.loom_views.specs.declared.rt.synchronize.ThreadViews.{ThreadViews}
use Rattle.loom_views.specs.Graph.{Point, Graph, reaches, raised, count, version, Shows, IsChained, IsPresent, moved}
use Rattle.std.specs.declared.sync.atomic.Ordering.{Ordering}
use Rattle.loom_views.specs.Orderings.{is_acquire}
use Rattle.loom_views.specs.Versions.{zeros, join, raised_at}
use Rattle.loom_views.specs.ThreadViews.{ThreadPoints, ShowsTouch, ShowsThread, with_present, graph_after_raise, graph_after_acquire, graph_after_release_fence, graph_with_child, graph_after_spawn, child_points, parent_points, graph_after_load, thread_after_load}
use Rattle.loom_views.proofs.Views.Views.{version-old, shows-old, shows-raised, shows-joined, shows-start, chained-moved, chained-raising, raised-no, version-present}
use Rattle.loom_views.proofs.Views.Counted.{counts-at}

pub touch-old : (p : Point) (g : Graph) (t : ℕ) (o v : Option ℕ) → ShowsTouch g t o v → ShowsTouch (p ∷ g) t o v
touch-old p g t None None h = tt
touch-old p g t None (Some n) h = absurd h
touch-old p g t (Some k) None h = absurd h
touch-old p g t (Some k) (Some n) h = (let b = h.0 in omega arith, h.1 ∙ sym (version-old p g k t h.0))

pub thread-old : (p : Point) (g : Graph) (t : ℕ) (points : ThreadPoints) (views : ThreadViews) → ShowsThread g t points views → ShowsThread (p ∷ g) t points views
thread-old p g t points views h = record {
  present = shows-old p g points.present views.present h.present;
  released = shows-old p g points.released views.released h.released;
  yielded = touch-old p g t points.yielded views.last_yield h.yielded;
}

pub own-version : (g : Graph) (t k : ℕ) (vs : List ℕ) → t < 5 → IsPresent g t k → Shows g k vs → get_or vs t 0 ≡ length (raised g t)
own-version g t k vs l i s = ap (λ ws. get_or ws t 0) s.counted ∙ counts-at g k t l ∙ version-present g t k i

version-none : (g : Graph) (t k : ℕ) → raised g t ≡ [] → version g k t ≡ 0
unfolding version
version-none g t k e = ap (λ (is : List ℕ). count (λ i. reaches g i k) is) e

pub no-version : (g : Graph) (t k : ℕ) (vs : List ℕ) → t < 5 → raised g t ≡ [] → Shows g k vs → get_or vs t 0 ≡ 0
no-version g t k vs l e s = ap (λ ws. get_or ws t 0) s.counted ∙ counts-at g k t l ∙ version-none g t k e

pub raise-shown : (g : Graph) (t : ℕ) (p : ThreadPoints) (views : ThreadViews) → t < 5 → IsChained g → ShowsThread g t p views → ShowsThread (graph_after_raise g p t) t (with_present g p) (record views { present = raised_at views.present t })
raise-shown g t p views l c h =
    let new : Point = record { after = p.present ∷ []; raises = Some t } in
    record {
      present = shows-raised g p.present t views.present c l h.present;
      released = shows-old new g p.released views.released h.released;
      yielded = touch-old new g t p.yielded views.last_yield h.yielded;
    }

pub acquire-shown : (g : Graph) (t : ℕ) (p : ThreadPoints) (views : ThreadViews) (k : ℕ) (view : List ℕ) → IsChained g → ShowsThread g t p views → Shows g k view → ShowsThread (graph_after_acquire g p k) t (with_present g p) (record views { present = join views.present view })
acquire-shown g t p views k view c h s =
    let new : Point = record { after = p.present ∷ k ∷ []; raises = None } in
    record {
      present = shows-joined g p.present k views.present view c h.present s;
      released = shows-old new g p.released views.released h.released;
      yielded = touch-old new g t p.yielded views.last_yield h.yielded;
    }

pub release_fence-shown : (g : Graph) (t : ℕ) (p : ThreadPoints) (views : ThreadViews) → IsChained g → ShowsThread g t p views → ShowsThread (graph_after_release_fence g p) t (record p { released = length g }) (record views { released = join views.released views.present })
release_fence-shown g t p views c h =
    let new : Point = record { after = p.released ∷ p.present ∷ []; raises = None } in
    record {
      present = shows-old new g p.present views.present h.present;
      released = shows-joined g p.released p.present views.released views.present c h.released h.present;
      yielded = touch-old new g t p.yielded views.last_yield h.yielded;
    }

-- a thread that has raised nothing has every point as its present one
present-none : (g : Graph) (t k : ℕ) → raised g t ≡ [] → IsPresent g t k
unfolding IsPresent
present-none g t k e = rw e tt

pub child-chained : (g : Graph) (p : ThreadPoints) (child : ℕ) → IsChained g → raised g child ≡ [] → IsChained (graph_with_child g p child)
child-chained g p child c e = chained-raising (moved g []) p.present child [] (chained-moved g [] c) (present-none (moved g []) child p.present (raised-no (record { after = []; raises = None }) g child refl ∙ e))

module _ (g : Graph) (t child : ℕ) (p : ThreadPoints) (views : ThreadViews) (l : t < 5) (m : child < 5) (c : IsChained g) (e : raised g child ≡ []) (h : ShowsThread g t p views) where
  first : Point
  first = record { after = []; raises = None }

  second : Point
  second = record { after = p.present ∷ []; raises = Some child }

  third : Point
  third = record { after = p.present ∷ []; raises = Some t }

  pub child-shown : ShowsThread (graph_after_spawn g p t child) child (child_points g) (record { present = raised_at views.present child; released = zeros; last_yield = None })
  unfolding first second third
  child-shown = record {
    present = shows-old third (graph_with_child g p child) (suc (length g)) (raised_at views.present child) (shows-raised (moved g []) p.present child views.present (chained-moved g [] c) m (shows-old first g p.present views.present h.present));
    released = shows-old third (graph_with_child g p child) (length g) zeros (shows-old second (moved g []) (length g) zeros (shows-start g c));
    yielded = tt;
  }

  pub parent-shown : ShowsThread (graph_after_spawn g p t child) t (parent_points g p) (record views { present = raised_at views.present t })
  unfolding first second third
  parent-shown = raise-shown (graph_with_child g p child) t p views l (child-chained g p child c e) (thread-old second (moved g []) t p views (thread-old first g t p views h))

pub load-shown : (g : Graph) (t : ℕ) (p : ThreadPoints) (views : ThreadViews) (k : ℕ) (view : List ℕ) (order : Ordering) → IsChained g → ShowsThread g t p views → Shows g k view → ShowsThread (graph_after_load g p k order) t (thread_after_load g p order) (record views { present = if is_acquire order then join views.present view else views.present })
load-shown g t p views k view order c h s = ⊎_elim (λ e. rw e (acquire-shown g t p views k view c h s)) (λ e. rw e h) (cases_Bool (is_acquire order))
