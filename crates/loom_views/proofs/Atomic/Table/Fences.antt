-- Fences of a run: through all its objects, and the global point.
use Rattle.std.proofs.Common.{suc, ◌≡◌, ℕ, ◌+◌, ◌<◌, List, [], ◌∷◌, ◌++◌, length, take, get_or, set, refl, ap, ◌∙◌, arith, ⊎_elim, Some, None}
use Rattle.std.specs.List.{slice_get, flat_map}
use Rattle.std.proofs.lemmas.Bool.{cases_Bool}
use Rattle.std.proofs.lemmas.List.{take_more, take_all}
use Rattle.std.proofs.lemmas.List.Concat.{flat_map-append}
use Rattle.std.proofs.lemmas.Option.{slice_get_within, get_or_from_slice_get}
use Rattle.loom_views.specs.declared.rt.atomic.State.{State}
use Rattle.loom_views.specs.declared.rt.synchronize.ThreadViews.{ThreadViews}
use Rattle.loom_views.specs.declared.rt.views.Kept.{Kept}
use Rattle.loom_views.specs.declared.rt.views.Kept.TheVariants.{Atomic}
use Rattle.loom_views.specs.declared.rt.views.Views.{Views}
use Rattle.loom_views.specs.Graph.{Graph, Shows, IsChained, IsPresent}
use Rattle.loom_views.specs.ThreadViews.{ThreadPoints, ShowsThread, with_present, graph_after_acquire}
use Rattle.loom_views.specs.Versions.{join}
use Rattle.loom_views.specs.Atomic.History.{StorePoints, Scene, is_seen}
use Rattle.loom_views.specs.Atomic.Fences.{Standing, after_store, after_stores, acquire_fence_step}
use Rattle.loom_views.specs.Atomic.Shown.{ShowsScene}
use Rattle.loom_views.specs.Views.{Place, Keeps, Points, ShowsPlaces, ShowsViews, stores_at, points_after_acquire_fence, points_after_meet_global}
use Rattle.loom_views.proofs.Views.Views.{chained-moved, present-new, shows-joined}
use Rattle.loom_views.proofs.Views.Growth.{GrownBy, same, quiet, grown-joined}
use Rattle.loom_views.proofs.Atomic.Growth.{state-grown}
use Rattle.loom_views.proofs.Atomic.Fences.{after_stores-append}
use Rattle.loom_views.proofs.Atomic.Table.Carried.{found, found_atomic, thread-stepped, global-stepped}
use Rattle.loom_views.proofs.Atomic.Table.Others.{other, other-stored}

-- thread t's views show where it stands
pub record ShowsStanding (t : ℕ) (s : Standing) (views : ThreadViews) : Type 0 where
  pub chained : IsChained s.graph
  pub present : IsPresent s.graph t s.thread.present
  pub thread : ShowsThread s.graph t s.thread views

-- a fence grows the graph by points that raise no thread
after_store-grown : (t : ℕ) (s : Standing) (store : StorePoints) → GrownBy t s.graph (after_store s store).graph
after_store-grown t s store = ⊎_elim (λ e. rw e (quiet (s.thread.present ∷ store.sync ∷ []) same)) (λ e. rw e same) (cases_Bool (is_seen s.graph store s.thread.present))

pub after_stores-grown : (t : ℕ) (s : Standing) (stores : List StorePoints) → GrownBy t s.graph (after_stores s stores).graph
after_stores-grown t s [] = same
after_stores-grown t s (store ∷ stores) = grown-joined (after_store-grown t s store) (after_stores-grown t (after_store s store) stores)

-- as many objects are kept as there are
places-length : (g : Graph) (places : List Place) (kept : List Kept) → ShowsPlaces g places kept → length places ≡ length kept
places-length g [] [] h = refl
places-length g [] (k ∷ kept) h = absurd (h 0)
places-length g (p ∷ places) [] h = absurd (h 0)
places-length g (p ∷ places) (k ∷ kept) h = ap suc (places-length g places kept (λ n. h (suc n)))

-- where thread t stands once its fence has reached object n
abbrev pub fenced : Points → ThreadPoints → ℕ → Standing
fenced p own n = after_stores (record { graph = p.graph; thread = own }) (flat_map stores_at (take n p.places))

-- what holds of a thread's views as its fence has reached object n
abbrev pub IsFenced : Views → ℕ → ThreadViews → ThreadViews → ℕ → Type 0
IsFenced v t before views n = (p : Points) (own : ThreadPoints) → ShowsViews p v → IsPresent p.graph t own.present → ShowsThread p.graph t own before → ShowsStanding t (fenced p own n) views

-- the stores of one more object
fenced-more : (p : Points) (own : ThreadPoints) (n : ℕ) (place : Place) → slice_get p.places n ≡ Some place → fenced p own (n + 1) ≡ after_stores (fenced p own n) (stores_at place)
fenced-more p own n place e =
    let start : Standing = record { graph = p.graph; thread = own } in
    let taken : take (n + 1) p.places ≡ take n p.places ++ place ∷ [] = take_more p.places n place (slice_get_within p.places n place e) ∙ ap (λ q. take n p.places ++ q ∷ []) (get_or_from_slice_get p.places n place place e) in
    ap (λ (places : List Place). after_stores start (flat_map stores_at places)) taken
    ∙ ap (after_stores start) (flat_map-append stores_at (take n p.places) (place ∷ []))
    ∙ after_stores-append start (flat_map stores_at (take n p.places)) (stores_at place ++ [])
    ∙ ap (after_stores (fenced p own n)) (append-none (stores_at place))
  where
    append-none : (xs : List StorePoints) → xs ++ [] ≡ xs
    append-none [] = refl
    append-none (x ∷ xs) = ap (λ ys. x ∷ ys) (append-none xs)

-- an atomic comes next, or another object
pub fenced-atomic : (v : Views) (t : ℕ) (before views after : ThreadViews) (n : ℕ) (state : State) → slice_get v.places n ≡ Some (Atomic state) → ((u : ℕ) (s : Scene) → ShowsScene u s views state → ShowsScene u (acquire_fence_step s) after state) → IsFenced v t before views n → IsFenced v t before after (n + 1)
fenced-atomic v t before views after n state kept step h = λ p own z i s.
    let o = found_atomic p v n state kept z in
    let now = h p own z i s in
    let at = fenced p own n in
    let scene : Scene = record { graph = at.graph; thread = at.thread; history = o.history } in
    let shown : ShowsScene t scene views state = record { chained = now.chained; present = now.present; thread = now.thread; history = state-grown (after_stores-grown t (record { graph = p.graph; thread = own }) (flat_map stores_at (take n p.places))) o.history state o.shown } in
    let y = step t scene shown in
    rw (fenced-more p own n (Keeps o.history) o.is) (record { chained = y.chained; present = y.present; thread = y.thread })

pub fenced-other : (v : Views) (t : ℕ) (before views : ThreadViews) (n : ℕ) (kept : Kept) → slice_get v.places n ≡ Some kept → ((state : State) → kept ≡ Atomic state → ⊥) → IsFenced v t before views n → IsFenced v t before views (n + 1)
fenced-other v t before views n kept e d h = λ p own z i s.
    let o = other p v n kept e z in
    rw (fenced-more p own n o.place o.is, other-stored p v t n kept e z d o.place o.shown) (h p own z i s)

module _ (p : Points) (v : Views) (t : ℕ) (d : ThreadViews) (l : t < v.count) (m : t < 5) (z : ShowsViews p v) where
  pub acquire_fence-moved : (views : ThreadViews) → IsFenced v t (get_or v.threads t d) views (length v.places) → ShowsViews (points_after_acquire_fence p t) (record v { threads = set v.threads t views })
  acquire_fence-moved views h =
      let f = found p v t d l m z in
      let start : Standing = record { graph = p.graph; thread = f.own } in
      let after = after_stores start (flat_map stores_at p.places) in
      let all : take (length v.places) p.places ≡ p.places = let e = places-length p.graph p.places v.places z.places in take_all (length v.places) p.places (omega arith) in
      let y : ShowsStanding t after views = rw all at (h p f.own z f.present f.shown) in
      rw f.is (thread-stepped p v t after.graph after.thread views f.there (after_stores-grown t start (flat_map stores_at p.places)) y.chained y.present y.thread z)

  pub meet_global-moved : (views : ThreadViews) (view : List ℕ) → ((g : Graph) (own : ThreadPoints) (k : ℕ) → IsChained g → ShowsThread g t own (get_or v.threads t d) → Shows g k v.global → ShowsThread (graph_after_acquire g own k) t (with_present g own) views) → view ≡ join v.global views.present → ShowsViews (points_after_meet_global p t) (record v { threads = set v.threads t views; global = view })
  meet_global-moved views view shown e =
      let f = found p v t d l m z in
      let g = graph_after_acquire p.graph f.own p.global in
      let chained = chained-moved p.graph (f.own.present ∷ p.global ∷ []) z.chained in
      let own = shown p.graph f.own p.global z.chained f.shown z.global in
      let y = thread-stepped p v t g (with_present p.graph f.own) views f.there (quiet (f.own.present ∷ p.global ∷ []) same) chained (present-new (p.global ∷ []) None p.graph t f.own.present f.present) own z in
      rw (f.is, e) (global-stepped _ _ _ (length g) (join v.global views.present) (quiet (p.global ∷ length p.graph ∷ []) same) (chained-moved g (p.global ∷ length p.graph ∷ []) chained) (shows-joined g p.global (length p.graph) v.global views.present chained y.global own.present) y)
