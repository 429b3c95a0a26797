-- Sequentially consistent fences meet at the global point.
use Rattle.std.proofs.Common.{suc, ◌≡◌, ℕ, ◌<◌, true, false, [], ◌∷◌, length, get_or, ◌∙◌, arith, Some, None}
use Rattle.std.specs.Prelude.{◌==◌}
use Rattle.std.specs.List.{slice_get, flat_map}
use Rattle.std.proofs.lemmas.Bool.{or_left, or_right}
use Rattle.std.proofs.lemmas.List.{length-set}
use Rattle.std.proofs.lemmas.Option.{slice_get-get_or}
use Rattle.loom_views.specs.Graph.{Point, reaches}
use Rattle.loom_views.specs.ThreadViews.{ThreadPoints, with_present, graph_after_release_fence, child_points}
use Rattle.loom_views.specs.Atomic.Fences.{Standing, after_stores}
use Rattle.loom_views.specs.Views.{Points, with_thread, stores_at, points_after_meet_global}
use Rattle.loom_views.specs.Laws.Views.{MeetsGlobal, FencingLaw}
use Rattle.loom_views.proofs.Views.Reaching.{reaches-new, reaches-old, reaches-itself}
use Rattle.loom_views.proofs.Views.Growth.{quiet, shows-grown}
use Rattle.loom_views.proofs.Atomic.Table.Lists.{get-set_same}
use Rattle.loom_views.proofs.Atomic.Table.Fences.{after_stores-grown}

-- a meeting at the global point
meets : (p : Points) (t : ℕ) (own : ThreadPoints) → slice_get p.threads t ≡ Some own → t < length p.threads → p.global < length p.graph → MeetsGlobal p (points_after_meet_global p t) t
meets p t own e l b =
    let g = p.graph in
    let joined : Point = record { after = own.present ∷ p.global ∷ []; raises = None } in
    let met : Point = record { after = p.global ∷ length g ∷ []; raises = None } in
    let new : ThreadPoints = with_present g own in
    let brought : reaches (joined ∷ g) p.global (length g) ≡ true = reaches-new joined g p.global ∙ or_right (p.global == length g) _ (or_right (reaches g p.global own.present) _ (or_left (reaches g p.global p.global) false (reaches-itself g p.global b))) in
    let left : reaches (met ∷ joined ∷ g) (length g) (suc (length g)) ≡ true = reaches-new met (joined ∷ g) (length g) ∙ or_right (length g == suc (length g)) _ (or_right (reaches (joined ∷ g) (length g) p.global) _ (or_left (reaches (joined ∷ g) (length g) (length g)) false (reaches-itself (joined ∷ g) (length g) (omega arith)))) in
    rw e (record {
      own = new;
      is = get-set_same p.threads t new l;
      brought = reaches-old met (joined ∷ g) p.global (length g) (omega arith) ∙ brought;
      left = left;
    })

pub fences_meet_law : FencingLaw
fences_meet_law p v t z l =
    let own = get_or p.threads t (child_points []) in
    let there = slice_get-get_or p.threads t (child_points []) l in
    let start : Standing = record { graph = p.graph; thread = own } in
    let fence = after_stores start (flat_map stores_at p.places) in
    let one : Points = with_thread p t fence.graph fence.thread in
    let here : slice_get one.threads t ≡ Some fence.thread = get-set_same p.threads t fence.thread l in
    let m : t < length one.threads = omega (arith, length-set p.threads t fence.thread) in
    let released : ThreadPoints = record fence.thread { released = length fence.graph } in
    let two : Points = with_thread one t (graph_after_release_fence fence.graph fence.thread) released in
    let grown = shows-grown (quiet (fence.thread.released ∷ fence.thread.present ∷ []) (after_stores-grown t start (flat_map stores_at p.places))) p.global v.global z.global in
    let met : MeetsGlobal two (points_after_meet_global two t) t = meets two t released (get-set_same one.threads t released m) (omega (arith, length-set one.threads t released)) grown.made in
    rw (there, here) (record { own = met.own; is = met.is; brought = met.brought; left = met.left })
