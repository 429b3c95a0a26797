-- A read-modify-write by the slot that was chosen.
use Rattle.std.proofs.Common.{◌≡◌, ℕ, refl, subst}
use Rattle.std.specs.Prelude.{◌==◌, true, slice_get, Ok, Err, Result}
use Rattle.std.specs.declared.sync.atomic.Ordering.{Ordering}
use Rattle.loom_views.specs.Changes.{fit}
use Rattle.loom_views.specs.Views.{Points, Accessed, ShowsViews, StoresAs, LoadsAs, IsSlotKept, points_after_update_read, points_after_update_write, points_after_update_fail}
use Rattle.loom_views.specs.declared.rt.failure.FailureKind.{FailureKind}
use Rattle.loom_views.specs.declared.rt.views.Views.{Views}
use Rattle.loom_views.proofs.Atomic.Table.Kept.{reading_keeps_slots_law}
use Rattle.loom_objects.specs.declared.operation.Exchange.{Exchange}
use Rattle.loom_objects.specs.declared.rt.atomic.Atomic.{Atomic}
use Rattle.loom_objects.specs.Rules.Atomic.{exchanges}
use Rattle.loom_objects.specs.Rules.Moves.{an_atomic}
use Rattle.loom_objects.specs.Scene.Stage.{Stage, world_of, Comes}
use Rattle.loom_objects.specs.World.{World}

stored : (r : Result Accessed FailureKind) (v : Views) → StoresAs r (Ok tt) v → (a : Accessed) × (r ≡ Ok a) × ShowsViews a.points v
stored (Ok a) v h = (a, refl, h.1)
stored (Err kind) v h = absurd (cc)

stored_not : (r : Result Accessed FailureKind) (v : Views) (kind : FailureKind) → StoresAs r (Err kind) v → r ≡ Err kind
stored_not (Ok a) v kind h = let e = h.0 in absurd (cc)
stored_not (Err other) v kind h = cc

loaded : (r : Result Accessed FailureKind) (value : ℕ) (v : Views) → LoadsAs r (Ok value) v → (a : Accessed) × (r ≡ Ok a) × (value ≡ a.value) × ShowsViews a.points v
loaded (Ok a) value v h = let e = h.0 in (a, refl, cc, h.1)
loaded (Err kind) value v h = absurd (cc)

-- a rule reads for a read-modify-write from the slot, and goes on by what it has read
module _ {A D : Type 0} (rule : World D → Result (A × World D) FailureKind) (old mid new : Stage D) (n slot read : ℕ) (stays : mid.active ≡ old.active)
    (get : (p : Points) → ShowsViews p old.views → IsSlotKept (slice_get p.places n) slot → LoadsAs (points_after_update_read p old.active n slot) (Ok read) mid.views) where
  -- the points after the read, which keep the slot
  read_at : (p : Points) → ShowsViews p old.views → IsSlotKept (slice_get p.places n) slot
      → (a : Accessed) × (points_after_update_read p old.active n slot ≡ Ok a) × (read ≡ a.value) × ShowsViews a.points mid.views × IsSlotKept (slice_get a.points.places n) slot
  read_at p shown kept =
      let a = loaded (points_after_update_read p old.active n slot) read mid.views (get p shown kept) in
      (a.0, a.1, a.2, a.3, reading_keeps_slots_law p old.active n slot a.0 a.1 kept)

  -- what it does, where the slot keeps a store
  abbrev pub DoesKept : Result A FailureKind → Type 0
  DoesKept result = (p : Points) → (left : ℕ) → ShowsViews p old.views → IsSlotKept (slice_get p.places n) slot → Comes p left (rule (world_of p left old)) result new

  module _ (value : ℕ) (order : Ordering) where
    -- it writes
    pub writes_on : (a : A)
        → ((p : Points) → ShowsViews p mid.views → IsSlotKept (slice_get p.places n) slot → StoresAs (points_after_update_write p mid.active n slot value order) (Ok tt) new.views)
        → ((p : Points) (left : ℕ) (got put : Accessed) → points_after_update_read p old.active n slot ≡ Ok got → read ≡ got.value
        → points_after_update_write got.points old.active n slot value order ≡ Ok put → rule (world_of p left old) ≡ Ok (a, world_of put.points left new))
        → DoesKept (Ok a)
    writes_on a puts same = λ p left shown kept.
        let got = read_at p shown kept in
        let put = stored (points_after_update_write got.0.points mid.active n slot value order) new.views (puts got.0.points got.3 got.4) in
        rw (same p left got.0 put.0 got.1 got.2 (subst (λ (t : ℕ). points_after_update_write got.0.points t n slot value order ≡ Ok put.0) stays put.1)) (refl, put.2)

    -- its write fails
    pub write_fails : (kind : FailureKind) (after : Views)
        → ((p : Points) → ShowsViews p mid.views → IsSlotKept (slice_get p.places n) slot → StoresAs (points_after_update_write p mid.active n slot value order) (Err kind) after)
        → ((p : Points) (left : ℕ) (got : Accessed) → points_after_update_read p old.active n slot ≡ Ok got → read ≡ got.value
        → points_after_update_write got.points old.active n slot value order ≡ Err kind → rule (world_of p left old) ≡ Err kind)
        → DoesKept (Err kind)
    write_fails kind after puts same = λ p left shown kept.
        let got = read_at p shown kept in
        let failed = stored_not (points_after_update_write got.0.points mid.active n slot value order) after kind (puts got.0.points got.3 got.4) in
        same p left got.0 got.1 got.2 (subst (λ (t : ℕ). points_after_update_write got.0.points t n slot value order ≡ Err kind) stays failed)

  -- it ends with what it has read
  pub ends_there : (failure : Ordering) (a : A)
      → ((p : Points) → ShowsViews p mid.views → IsSlotKept (slice_get p.places n) slot → ShowsViews (points_after_update_fail p mid.active n slot failure) new.views)
      → ((p : Points) (left : ℕ) (got : Accessed) → points_after_update_read p old.active n slot ≡ Ok got → read ≡ got.value
      → rule (world_of p left old) ≡ Ok (a, world_of (points_after_update_fail got.points old.active n slot failure) left new))
      → DoesKept (Ok a)
  ends_there failure a ends same = λ p left shown kept.
      let got = read_at p shown kept in
      let shows = subst (λ (t : ℕ). ShowsViews (points_after_update_fail got.0.points t n slot failure) new.views) stays (ends got.0.points got.3 got.4) in
      rw (same p left got.0 got.1 got.2) (refl, shows)

-- a compare-exchange that has read the value that it expects, and whose write fails
pub exchange_fails : {D : Type 0} (n : ℕ) (exchange : Exchange) (slot : ℕ) (w : World D) (atomic : Atomic) (got : Accessed) (new : ℕ) (kind : FailureKind)
    → an_atomic n w ≡ Ok atomic → points_after_update_read w.points w.active n slot ≡ Ok got → (got.value == fit atomic.numbers exchange.expected) ≡ true → new ≡ fit atomic.numbers exchange.new
    → points_after_update_write got.points w.active n slot new exchange.success ≡ Err kind → exchanges n exchange slot w ≡ Err kind
exchange_fails n exchange slot w atomic got new kind at reads expected is writes =
    rw (at, reads, expected, ← is, writes) refl
