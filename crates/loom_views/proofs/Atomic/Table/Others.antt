-- Calls on an object of another kind: they are a misuse, or do nothing.
use Rattle.std.proofs.Common.{◌≡◌, ℕ, List, [], set, refl, Option, Some, None, Result, Err}
use Rattle.std.specs.List.{slice_get}
use Rattle.std.specs.declared.sync.atomic.Ordering.{Ordering}
use Rattle.loom_views.specs.declared.rt.atomic.State.{State}
use Rattle.loom_views.specs.declared.rt.cell.AccessRecords.{AccessRecords}
use Rattle.loom_views.specs.declared.rt.failure.FailureKind.{FailureKind}
use Rattle.loom_views.specs.declared.rt.failure.FailureKind.TheVariants.{Misuse}
use Rattle.loom_views.specs.declared.rt.views.Kept.{Kept}
use Rattle.loom_views.specs.declared.rt.views.Kept.TheVariants.{Point, Atomic, Cell}
use Rattle.loom_views.specs.declared.rt.views.Views.{Views}
use Rattle.loom_views.specs.Graph.{Graph}
use Rattle.loom_views.specs.ThreadViews.{ThreadPoints}
use Rattle.loom_views.specs.Atomic.History.{History, Scene, Answer}
use Rattle.loom_views.specs.CellAccesses.{Accesses}
use Rattle.loom_views.specs.Views.{Place, Meets, Keeps, Records, Points, ShowsPlace, ShowsPlaceAt, ShowsViews, MovesAs, LoadsAs, StoresAs, access, access_by, record_by, release_by, points_after_release, stores_at}
use Rattle.loom_views.proofs.Atomic.Table.Lists.{set-same}

-- what is kept of an object shows what it has
pub record Other (p : Points) (n : ℕ) (kept : Kept) : Type 0 where
  pub place : Place
  pub is : slice_get p.places n ≡ Some place
  pub shown : ShowsPlace p.graph place kept

pub other : (p : Points) (v : Views) (n : ℕ) (kept : Kept) → slice_get v.places n ≡ Some kept → ShowsViews p v → Other p n kept
other p v n kept e z = let h = z.places n in go (slice_get p.places n) refl (rw e at h)
  where
    go : (o : Option Place) → slice_get p.places n ≡ o → ShowsPlaceAt p.graph o (Some kept) → Other p n kept
    go None q h = absurd h
    go (Some place) q h = record { place = place; is = q; shown = h }

-- what is kept is of another kind, so the object is
no_point : (g : Graph) (k : ℕ) (kept : Kept) → ((view : List ℕ) → kept ≡ Point view → ⊥) → ShowsPlace g (Meets k) kept → ⊥
no_point g k (Point view) d h = d view refl
no_point g k (Atomic state) d h = h
no_point g k (Cell records) d h = h

no_atomic : (g : Graph) (history : History) (kept : Kept) → ((state : State) → kept ≡ Atomic state → ⊥) → ShowsPlace g (Keeps history) kept → ⊥
no_atomic g history (Point view) d h = h
no_atomic g history (Atomic state) d h = d state refl
no_atomic g history (Cell records) d h = h

no_cell : (g : Graph) (cell : Accesses) (kept : Kept) → ((records : AccessRecords) → kept ≡ Cell records → ⊥) → ShowsPlace g (Records cell) kept → ⊥
no_cell g cell (Point view) d h = h
no_cell g cell (Atomic state) d h = h
no_cell g cell (Cell records) d h = d records refl

module _ (p : Points) (v : Views) (t n : ℕ) (kept : Kept) (e : slice_get v.places n ≡ Some kept) (z : ShowsViews p v) where
  pub other-released : ((view : List ℕ) → kept ≡ Point view → ⊥) → (order : Ordering) → ShowsViews (points_after_release p t n order) (record v { places = set v.places n kept })
  other-released d order =
      let o = other p v n kept e z in
      rw (set-same v.places n kept e, o.is) (go (slice_get p.threads t) o.place o.shown)
    where
      go : (q : Option ThreadPoints) (place : Place) → ShowsPlace p.graph place kept → ShowsViews (release_by p n order q (Some place)) v
      go None place h = z
      go (Some own) (Meets k) h = absurd (no_point p.graph k kept d h)
      go (Some own) (Keeps history) h = z
      go (Some own) (Records cell) h = z

  -- an access of what is no atomic
  module _ (d : (state : State) → kept ≡ Atomic state → ⊥) where
    misused : (step : Scene → Result Answer FailureKind) → access p t n step ≡ Err Misuse
    misused step = let o = other p v n kept e z in rw o.is (go (slice_get p.threads t) o.place o.shown)
      where
        go : (q : Option ThreadPoints) (place : Place) → ShowsPlace p.graph place kept → access_by p t n step q (Some place) ≡ Err Misuse
        go None place h = refl
        go (Some own) (Meets k) h = refl
        go (Some own) (Keeps history) h = absurd (no_atomic p.graph history kept d h)
        go (Some own) (Records cell) h = refl

    pub other-loads : (step : Scene → Result Answer FailureKind) (new : Views) → LoadsAs (access p t n step) (Err Misuse) new
    other-loads step new = rw (misused step) refl

    pub other-stores : (step : Scene → Result Answer FailureKind) (new : Views) → StoresAs (access p t n step) (Err Misuse) new
    other-stores step new = rw (misused step) refl

    -- it has no stores
    pub other-stored : (place : Place) → ShowsPlace p.graph place kept → stores_at place ≡ []
    other-stored (Meets k) h = refl
    other-stored (Keeps history) h = absurd (no_atomic p.graph history kept d h)
    other-stored (Records cell) h = refl

  -- an access of what is no cell
  pub other-records : ((records : AccessRecords) → kept ≡ Cell records → ⊥) → (step : Graph → ℕ → Accesses → Result Accesses FailureKind) (new : Views) → MovesAs (record_by p n step (slice_get p.threads t) (slice_get p.places n)) (Err Misuse) new
  other-records d step new = let o = other p v n kept e z in rw o.is (go (slice_get p.threads t) o.place o.shown)
    where
      go : (q : Option ThreadPoints) (place : Place) → ShowsPlace p.graph place kept → MovesAs (record_by p n step q (Some place)) (Err Misuse) new
      go None place h = refl
      go (Some own) (Meets k) h = refl
      go (Some own) (Keeps history) h = refl
      go (Some own) (Records cell) h = absurd (no_cell p.graph cell kept d h)
