-- What a choice of slots offers, and what a load answers.
use Rattle.std.proofs.Common.{◌≡◌, ◌≢◌, ℕ, ◌<◌, Bool, true, false, List, [], ◌∷◌, length, refl, Option, Some, None, Result, Ok, Err}
use Rattle.std.specs.Prelude.{if◌then◌else◌}
use Rattle.std.specs.List.{slice_get, list_any}
use Rattle.loom_views.specs.declared.rt.failure.FailureKind.{FailureKind}
use Rattle.loom_views.specs.declared.rt.failure.FailureKind.TheVariants.{OrdersEqual, Race, OpenAccess}
use Rattle.loom_views.specs.declared.rt.views.Kept.{Kept}
use Rattle.loom_views.specs.declared.rt.views.Kept.TheVariants.{Point, Atomic, Cell}
use Rattle.loom_views.specs.declared.rt.views.Views.{Views}
use Rattle.loom_views.specs.Atomic.Slots.{number_in_slot}
use Rattle.loom_views.specs.ThreadViews.{ThreadPoints}
use Rattle.loom_views.specs.AccessRecords.{races}
use Rattle.loom_views.specs.Atomic.History.{History, Answer, Scene, conflicts, load_step, update_read_step, readable, fails_by_orders}
use Rattle.loom_views.specs.Views.{Place, Meets, Keeps, Records, Points, Accessed, ShowsPlaceAt, ShowsViews, IsSlotKept, scene_of, accessed, access_by, readable_by}
use Rattle.loom_views.specs.Laws.Views.{OfferingLaw, LoadingLaw, UpdatingLaw, ReadsOneOfTheLast}
use Rattle.loom_views.proofs.Atomic.SlotNumbers.{number-bound, number-late}
use Rattle.loom_views.proofs.Atomic.SomeReadable.{some-readable}

-- an atomic of a run has a store
pub atomic-stored : (p : Points) (v : Views) (n : ℕ) (history : History) → ShowsViews p v → slice_get p.places n ≡ Some (Keeps history) → 0 < length history.stores
atomic-stored p v n history z e = let h = z.places n in go (slice_get v.places n) (rw e at h)
  where
    go : (o : Option Kept) → ShowsPlaceAt p.graph (Some (Keeps history)) o → 0 < length history.stores
    go None h = absurd h
    go (Some (Point view)) h = absurd h
    go (Some (Atomic state)) h = h.1
    go (Some (Cell records)) h = absurd h

pub some_slot_is_offered_law : OfferingLaw
some_slot_is_offered_law p v t n reader z = go (slice_get p.threads t) (slice_get p.places n) refl
  where
    chosen : (fails : Bool) (slots : List ℕ) → slots ≢ [] → ◌≡◌ {A = Result (List ℕ) FailureKind} (if fails then Err OrdersEqual else Ok slots) (Ok []) → ⊥
    chosen true slots d e = cc
    chosen false slots d e = d cc

    go : (o : Option ThreadPoints) (q : Option Place) → slice_get p.places n ≡ q → readable_by p t reader o q ≡ Ok [] → ⊥
    go None q a e = cc
    go (Some own) None a e = cc
    go (Some own) (Some (Meets k)) a e = cc
    go (Some own) (Some (Records cell)) a e = cc
    go (Some own) (Some (Keeps history)) a e = chosen (fails_by_orders p.graph t own reader history.stores) (readable p.graph t own reader history.stores) (some-readable p.graph t own reader history.stores (atomic-stored p v n history z a)) e

-- an access whose tests pass answers what it is to answer
passed-value : (s : Scene) (kinds : List (List ℕ)) (passed : Answer) (p : Points) (t n : ℕ) (after : Accessed) → accessed p t n (conflicts s kinds (Ok passed)) ≡ Ok after → passed.value ≡ after.value
passed-value s kinds passed p t n after = tested s.history.mutating (list_any (λ points. races s.graph points s.thread.present) kinds)
  where
    tested : (a b : Bool) → accessed p t n (if a then Err OpenAccess else (if b then Err Race else Ok passed)) ≡ Ok after → passed.value ≡ after.value
    tested true b e = absurd (cc)
    tested false true e = absurd (cc)
    tested false false e = cc

pub loads_read_kept_stores_law : LoadingLaw
loads_read_kept_stores_law p t n slot order after = go (slice_get p.threads t) (slice_get p.places n)
  where
    go : (o : Option ThreadPoints) (q : Option Place) → access_by p t n (λ s. load_step t s slot order) o q ≡ Ok after → IsSlotKept q slot → ReadsOneOfTheLast q after.value
    go None q e b = absurd (cc)
    go (Some own) None e b = absurd (cc)
    go (Some own) (Some (Meets k)) e b = absurd (cc)
    go (Some own) (Some (Records cell)) e b = absurd (cc)
    go (Some own) (Some (Keeps history)) e b = record {
      history = history;
      number = number_in_slot (length history.stores) slot;
      is = refl;
      made = number-bound (length history.stores) slot b.1;
      late = number-late (length history.stores) slot b.1;
      value = passed-value (scene_of p own history) (history.mutations ∷ []) _ p t n after e;
    }

pub updates_read_kept_stores_law : UpdatingLaw
updates_read_kept_stores_law p t n slot after = go (slice_get p.threads t) (slice_get p.places n)
  where
    go : (o : Option ThreadPoints) (q : Option Place) → access_by p t n (λ s. update_read_step t s slot) o q ≡ Ok after → IsSlotKept q slot → ReadsOneOfTheLast q after.value
    go None q e b = absurd (cc)
    go (Some own) None e b = absurd (cc)
    go (Some own) (Some (Meets k)) e b = absurd (cc)
    go (Some own) (Some (Records cell)) e b = absurd (cc)
    go (Some own) (Some (Keeps history)) e b = record {
      history = history;
      number = number_in_slot (length history.stores) slot;
      is = refl;
      made = number-bound (length history.stores) slot b.1;
      late = number-late (length history.stores) slot b.1;
      value = passed-value (scene_of p own history) (history.mutations ∷ []) _ p t n after e;
    }
