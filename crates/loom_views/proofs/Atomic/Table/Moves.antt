-- The moves of threads, and of objects that threads synchronize at.
use Rattle.std.proofs.Common.{◌≡◌, ℕ, ◌<◌, ◌≤◌, true, List, [], ◌∷◌, ◌++◌, length, get_or, set, refl, ap, ◌∙◌, arith, Option, Some, None, Ok}
use Rattle.std.specs.Prelude.{nat_lt}
use Rattle.std.specs.List.{slice_get}
use Rattle.std.specs.declared.sync.atomic.Ordering.{Ordering}
use Rattle.std.proofs.lemmas.Bool.{lt-ltb}
use Rattle.std.proofs.lemmas.Option.{slice_get_within, slice_get_past}
use Rattle.loom_views.specs.declared.rt.synchronize.ThreadViews.{ThreadViews}
use Rattle.loom_views.specs.declared.rt.views.Kept.TheVariants.{Point}
use Rattle.loom_views.specs.declared.rt.views.Views.{Views}
use Rattle.loom_views.specs.Graph.{Graph, Shows, version, raised, IsChained, IsPresent}
use Rattle.loom_views.specs.ThreadViews.{ThreadPoints, ShowsThread, with_present, graph_after_raise, graph_after_acquire, graph_after_release_fence, graph_after_store}
use Rattle.loom_views.specs.Versions.{zeros}
use Rattle.loom_views.specs.Views.{Place, Meets, Keeps, Records, Points, ShowsPlaceAt, ShowsViews, MovesAs, stamp_by, points_after_raise, points_after_acquire, points_after_release, points_after_release_fence, points_after_yield, points_with_point, points_with_stamp, points_after_stamp, points_after_stamp_release, points_after_stamp_acquire, points_after_join}
use Rattle.loom_views.proofs.Views.Views.{chained-moved, chained-raising, present-old, present-new, shows-start}
use Rattle.loom_views.proofs.Views.Counted.{counts-at}
use Rattle.loom_views.proofs.Views.Growth.{same, quiet, raising}
use Rattle.loom_views.proofs.Atomic.Table.Lists.{set-past}
use Rattle.loom_views.proofs.Atomic.Table.Carried.{found, found_point, found_stamp, thread-stepped, place-stepped, place-added, stamp-stepped, stamp-more}

module _ (p : Points) (v : Views) (t : ℕ) (d : ThreadViews) (l : t < v.count) (m : t < 5) (z : ShowsViews p v) where
  pub raise-moved : (views : ThreadViews) → ((g : Graph) (own : ThreadPoints) → IsChained g → ShowsThread g t own (get_or v.threads t d) → ShowsThread (graph_after_raise g own t) t (with_present g own) views) → ((g : Graph) (own : ThreadPoints) → IsPresent g t own.present → ShowsThread g t own (get_or v.threads t d) → length (raised g t) < 65534) → MovesAs (points_after_raise p t) (Ok tt) (record v { threads = set v.threads t views })
  raise-moved views shown room =
      let f = found p v t d l m z in
      let e : nat_lt (length (raised p.graph t)) 65534 ≡ true = lt-ltb (length (raised p.graph t)) 65534 (room p.graph f.own f.present f.shown) in
      rw (f.is, e) (refl, thread-stepped p v t (graph_after_raise p.graph f.own t) (with_present p.graph f.own) views f.there (raising (f.own.present ∷ []) same) (chained-raising p.graph f.own.present t [] z.chained f.present) (present-new [] (Some t) p.graph t f.own.present f.present) (shown p.graph f.own z.chained f.shown) z)

  pub acquire-moved : (n : ℕ) (view : List ℕ) (views : ThreadViews) → slice_get v.places n ≡ Some (Point view) → ((g : Graph) (own : ThreadPoints) (k : ℕ) → IsChained g → ShowsThread g t own (get_or v.threads t d) → Shows g k view → ShowsThread (graph_after_acquire g own k) t (with_present g own) views) → ShowsViews (points_after_acquire p t n) (record v { threads = set v.threads t views })
  acquire-moved n view views kept shown =
      let f = found p v t d l m z in
      let o = found_point p v n view kept z in
      rw (f.is, o.is) (thread-stepped p v t (graph_after_acquire p.graph f.own o.point) (with_present p.graph f.own) views f.there (quiet (f.own.present ∷ o.point ∷ []) same) (chained-moved p.graph (f.own.present ∷ o.point ∷ []) z.chained) (present-new (o.point ∷ []) None p.graph t f.own.present f.present) (shown p.graph f.own o.point z.chained f.shown o.shown) z)

  pub release-moved : (n : ℕ) (order : Ordering) (view new : List ℕ) → slice_get v.places n ≡ Some (Point view) → ((g : Graph) (own : ThreadPoints) (k : ℕ) → IsChained g → ShowsThread g t own (get_or v.threads t d) → Shows g k view → Shows (graph_after_store g own k order) (length g) new) → ShowsViews (points_after_release p t n order) (record v { places = set v.places n (Point new) })
  release-moved n order view new kept shown =
      let f = found p v t d l m z in
      let o = found_point p v n view kept z in
      rw (f.is, o.is) (place-stepped p v n (graph_after_store p.graph f.own o.point order) (Meets (length p.graph)) (Point new) (slice_get_within p.places n (Meets o.point) o.is) (slice_get_within v.places n (Point view) kept) (quiet _ same) (chained-moved p.graph _ z.chained) (shown p.graph f.own o.point z.chained f.shown o.shown) z)

  pub stamp_release-moved : (n : ℕ) (order : Ordering) (view new : List ℕ) → slice_get v.stamps n ≡ Some view → ((g : Graph) (own : ThreadPoints) (k : ℕ) → IsChained g → ShowsThread g t own (get_or v.threads t d) → Shows g k view → Shows (graph_after_store g own k order) (length g) new) → ShowsViews (points_after_stamp_release p t n order) (record v { stamps = set v.stamps n new })
  stamp_release-moved n order view new kept shown =
      let f = found p v t d l m z in
      let o = found_stamp p v n view kept z in
      rw (f.is, o.is) (stamp-stepped p v n (graph_after_store p.graph f.own o.point order) (length p.graph) new (slice_get_within v.stamps n view kept) (quiet _ same) (chained-moved p.graph _ z.chained) (shown p.graph f.own o.point z.chained f.shown o.shown) z)

  pub stamp_acquire-moved : (n : ℕ) (view : List ℕ) (views : ThreadViews) → slice_get v.stamps n ≡ Some view → ((g : Graph) (own : ThreadPoints) (k : ℕ) → IsChained g → ShowsThread g t own (get_or v.threads t d) → Shows g k view → ShowsThread (graph_after_acquire g own k) t (with_present g own) views) → ShowsViews (points_after_stamp_acquire p t n) (record v { threads = set v.threads t views })
  stamp_acquire-moved n view views kept shown =
      let f = found p v t d l m z in
      let o = found_stamp p v n view kept z in
      rw (f.is, o.is) (thread-stepped p v t (graph_after_acquire p.graph f.own o.point) (with_present p.graph f.own) views f.there (quiet (f.own.present ∷ o.point ∷ []) same) (chained-moved p.graph (f.own.present ∷ o.point ∷ []) z.chained) (present-new (o.point ∷ []) None p.graph t f.own.present f.present) (shown p.graph f.own o.point z.chained f.shown o.shown) z)

  pub fence-moved : (views : ThreadViews) → ((g : Graph) (own : ThreadPoints) → IsChained g → ShowsThread g t own (get_or v.threads t d) → ShowsThread (graph_after_release_fence g own) t (record own { released = length g }) views) → ShowsViews (points_after_release_fence p t) (record v { threads = set v.threads t views })
  fence-moved views shown =
      let f = found p v t d l m z in
      rw f.is (thread-stepped p v t (graph_after_release_fence p.graph f.own) (record f.own { released = length p.graph }) views f.there (quiet (f.own.released ∷ f.own.present ∷ []) same) (chained-moved p.graph (f.own.released ∷ f.own.present ∷ []) z.chained) (present-old (record { after = f.own.released ∷ f.own.present ∷ []; raises = None }) p.graph t f.own.present refl f.present) (shown p.graph f.own z.chained f.shown) z)

  pub yield-moved : (n : ℕ) → n ≡ get_or (get_or v.threads t d).present t 0 → ShowsViews (points_after_yield p t) (record v { threads = set v.threads t (record (get_or v.threads t d) { last_yield = Some n }) })
  yield-moved n e =
      let f = found p v t d l m z in
      let own : get_or (get_or v.threads t d).present t 0 ≡ version p.graph f.own.present t = ap (λ ws. get_or ws t 0) f.shown.present.counted ∙ counts-at p.graph f.own.present t m in
      rw f.is (thread-stepped p v t p.graph (record f.own { yielded = Some f.own.present }) (record (get_or v.threads t d) { last_yield = Some n }) f.there same z.chained f.present (record { present = f.shown.present; released = f.shown.released; yielded = (f.shown.present.made, e ∙ own) }) z)

  pub join-moved : (u : ℕ) (b : ThreadViews) (views : ThreadViews) → u < v.count → u < 5 → ((g : Graph) (own : ThreadPoints) (k : ℕ) → IsChained g → ShowsThread g t own (get_or v.threads t d) → Shows g k (get_or v.threads u b).present → ShowsThread (graph_after_acquire g own k) t (with_present g own) views) → ShowsViews (points_after_join p t u) (record v { threads = set v.threads t views })
  join-moved u b views h i shown =
      let f = found p v t d l m z in
      let o = found p v u b h i z in
      rw (f.is, o.is) (thread-stepped p v t (graph_after_acquire p.graph f.own o.own.present) (with_present p.graph f.own) views f.there (quiet (f.own.present ∷ o.own.present ∷ []) same) (chained-moved p.graph (f.own.present ∷ o.own.present ∷ []) z.chained) (present-new (o.own.present ∷ []) None p.graph t f.own.present f.present) (shown p.graph f.own o.own.present z.chained f.shown o.shown.present) z)

-- a stamp of an object that threads synchronize at
pub stamp-moved : (p : Points) (v : Views) (n m : ℕ) (view : List ℕ) → slice_get v.places n ≡ Some (Point view) → m < length v.stamps → ShowsViews p v → ShowsViews (points_after_stamp p n m) (record v { stamps = set v.stamps m view })
stamp-moved p v n m view kept l z =
    let o = found_point p v n view kept z in
    rw o.is (stamp-stepped p v m p.graph o.point view l same z.chained o.shown z)

-- nothing happens where there is no such object, or no such stamp
pub stamp-no_place : (p : Points) (v : Views) (n m : ℕ) → length v.places ≤ n → ShowsViews p v → ShowsViews (points_after_stamp p n m) v
stamp-no_place p v n m l z = let h = z.places n in rw (none (slice_get p.places n) (rw (slice_get_past v.places n l) at h)) z
  where
    none : (o : Option Place) → ShowsPlaceAt p.graph o None → o ≡ None
    none None h = refl
    none (Some place) h = absurd h

pub stamp-no_stamp : (p : Points) (v : Views) (n m : ℕ) → length v.stamps ≤ m → ShowsViews p v → ShowsViews (points_after_stamp p n m) v
stamp-no_stamp p v n m l z = go (slice_get p.places n)
  where
    go : (o : Option Place) → ShowsViews (stamp_by p m o) v
    go None = z
    go (Some (Keeps history)) = z
    go (Some (Records cell)) = z
    go (Some (Meets k)) = let count = z.stamps.count in rw (set-past p.stamps m k (omega arith)) z

pub stamp-added : (p : Points) (v : Views) → ShowsViews p v → ShowsViews (points_with_stamp p) (record v { stamps = v.stamps ++ zeros ∷ [] })
stamp-added p v z = stamp-more p v _ (length p.graph) zeros (quiet [] same) (chained-moved p.graph [] z.chained) (shows-start p.graph z.chained) z

pub point-added : (p : Points) (v : Views) → ShowsViews p v → ShowsViews (points_with_point p) (record v { places = v.places ++ Point zeros ∷ [] })
point-added p v z = place-added p v _ (Meets (length p.graph)) (Point zeros) (quiet [] same) (chained-moved p.graph [] z.chained) (shows-start p.graph z.chained) z
