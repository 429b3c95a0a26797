-- The accesses of a cell of a run.
use Rattle.std.proofs.Common.{◌≡◌, ℕ, ◌<◌, List, [], ◌∷◌, ◌++◌, get_or, set, ap, ◌∙◌, Some, Result, Ok, Err}
use Rattle.std.specs.Prelude.{OnErr}
use Rattle.std.specs.List.{slice_get}
use Rattle.std.proofs.lemmas.Option.{slice_get_within}
use Rattle.loom_views.specs.declared.rt.cell.AccessRecords.{AccessRecords}
use Rattle.loom_views.specs.declared.rt.failure.FailureKind.{FailureKind}
use Rattle.loom_views.specs.declared.rt.synchronize.ThreadViews.{ThreadViews}
use Rattle.loom_views.specs.declared.rt.views.Kept.{Kept}
use Rattle.loom_views.specs.declared.rt.views.Kept.TheVariants.{Cell}
use Rattle.loom_views.specs.declared.rt.views.Views.{Views}
use Rattle.loom_views.specs.Graph.{Graph, Shows, IsChained}
use Rattle.loom_views.specs.CellAccesses.{Accesses, new_accesses, ShowsAccesses, RecordsAs}
use Rattle.loom_views.specs.Views.{Records, Points, ShowsViews, MovesAs, record_by, recorded, points_with_cell}
use Rattle.loom_views.proofs.Views.Growth.{same}
use Rattle.loom_views.proofs.Atomic.Table.Lists.{set-same}
use Rattle.loom_views.proofs.Atomic.Table.Carried.{found, found_cell, place-stepped, place-added}

pub cell-added : (p : Points) (v : Views) (t : ℕ) (d : ThreadViews) (records : AccessRecords) → t < v.count → t < 5 → ShowsViews p v → ((g : Graph) (present : ℕ) → Shows g present (get_or v.threads t d).present → ShowsAccesses g (new_accesses present) records) → ShowsViews (points_with_cell p t) (record v { places = v.places ++ Cell records ∷ [] })
cell-added p v t d records l m z made =
    let f = found p v t d l m z in
    rw f.is (place-added p v p.graph (Records (new_accesses f.own.present)) (Cell records) same z.chained (made p.graph f.own.present f.shown.present) z)

module _ (p : Points) (v : Views) (t n : ℕ) (d : ThreadViews) (records : AccessRecords) (l : t < v.count) (m : t < 5) (kept : slice_get v.places n ≡ Some (Cell records)) (z : ShowsViews p v) where
  -- an access that is recorded
  pub access-recorded : (step : Graph → ℕ → Accesses → Result Accesses FailureKind) (result : Result (Unit {0}) FailureKind) (new : AccessRecords) → ((g : Graph) (present : ℕ) (cell : Accesses) → IsChained g → Shows g present (get_or v.threads t d).present → ShowsAccesses g cell records → RecordsAs g (step g present cell) result new) → MovesAs (record_by p n step (slice_get p.threads t) (slice_get p.places n)) result (record v { places = set v.places n (Cell new) })
  access-recorded step result new answers =
      let f = found p v t d l m z in
      let o = found_cell p v n records kept z in
      rw (f.is, o.is) (stepped o.cell o.is (step p.graph f.own.present o.cell) (answers p.graph f.own.present o.cell z.chained f.shown.present o.shown))
    where
      stepped : (cell : Accesses) → slice_get p.places n ≡ Some (Records cell) → (after : Result Accesses FailureKind) → RecordsAs p.graph after result new → MovesAs (recorded p n after) result (record v { places = set v.places n (Cell new) })
      stepped cell e (Ok after) h = (h.0, place-stepped p v n p.graph (Records after) (Cell new) (slice_get_within p.places n (Records cell) e) (slice_get_within v.places n (Cell records) kept) same z.chained h.1 z)
      stepped cell e (Err kind) h = h

-- an access that fails leaves what is kept as it was
pub records-unchanged : {A : Type 0} (v : Views) (n : ℕ) (records new : AccessRecords) (result : Result A FailureKind) → slice_get v.places n ≡ Some (Cell records) → OnErr result (new ≡ records) → OnErr result (◌≡◌ {A = Views} (record v { places = set v.places n (Cell new) }) v)
records-unchanged v n records new (Ok x) e h = tt
records-unchanged v n records new (Err kind) e h = ap (λ (s : AccessRecords). record v { places = set v.places n (Cell s) }) h ∙ ap (λ (xs : List Kept). record v { places = xs }) (set-same v.places n (Cell records) e)
