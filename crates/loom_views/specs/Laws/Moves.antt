-- What may happen to the points of a run: the moves of its operations, one after another, and what they keep.
use Rattle.std.specs.Prelude.{ℕ, ◌≡◌, ◌≤◌, ◌||◌, ◌↔◌, ◌⊎◌, false, IsTrue, IfOk, List, ◌++◌, length, slice_get, Option, Some, Result, Ok, Err}
use Rattle.std.specs.List.{Any}
use Rattle.std.specs.declared.sync.atomic.Ordering.{Ordering}
use Rattle.loom_views.specs.declared.rt.failure.FailureKind.{FailureKind}
use Rattle.loom_views.specs.declared.rt.failure.FailureKind.TheVariants.{Race}
use Rattle.loom_views.specs.Graph.{Graph, is_among, reaches}
use Rattle.loom_views.specs.ThreadViews.{ThreadPoints}
use Rattle.loom_views.specs.Atomic.History.{History}
use Rattle.loom_views.specs.Views.{Place, Keeps, Points, Accessed, opening, points_after_raise, points_after_acquire, points_after_release, points_after_yield, points_with_point, points_with_stamp, points_after_stamp, points_after_stamp_release, points_after_stamp_acquire, points_with_atomic, points_after_spawn, points_after_join, points_after_load, points_after_store, points_after_update_read, points_after_update_write, points_after_update_fail, points_after_unsync_load, points_after_with_mut, points_after_with_mut_end, points_with_cell, points_after_read, points_after_write, points_after_fence}
use Rattle.loom_views.specs.Laws.Views.{HasOutside}
use Rattle.loom_views.specs.Laws.Reaching.{Extends, IsKnownByReaching, is_raising, reads_of, writes_of, loads_of, stored_of}

-- what one operation of a thread does to the points, or a part of one: what raises does so first
pub data Moves (p : Points) : Points → Type 0 where
  acquire : (t n : ℕ) → Moves p (points_after_acquire p t n)
  release : (t n : ℕ) (order : Ordering) → Moves p (points_after_release p t n order)
  join : (t u : ℕ) → Moves p (points_after_join p t u)
  yielding : (t : ℕ) → Moves p (points_after_yield p t)
  spawn : (t : ℕ) (after : Points) → points_after_spawn p t ≡ Ok after → Moves p after
  fence : (t : ℕ) (order : Ordering) (raised : Points) → points_after_raise p t ≡ Ok raised → Moves p (points_after_fence raised t order)
  new_point : Moves p (points_with_point p)
  new_stamp : Moves p (points_with_stamp p)
  stamp : (n m : ℕ) → Moves p (points_after_stamp p n m)
  release_to_stamp : (t m : ℕ) (order : Ordering) → Moves p (points_after_stamp_release p t m order)
  acquire_from_stamp : (t m : ℕ) → Moves p (points_after_stamp_acquire p t m)
  new_atomic : (t value : ℕ) → Moves p (points_with_atomic p t value)
  load : (t n slot : ℕ) (order : Ordering) (raised : Points) (after : Accessed) → points_after_raise p t ≡ Ok raised → points_after_load raised t n slot order ≡ Ok after → Moves p after.points
  store : (t n value : ℕ) (order : Ordering) (raised : Points) (after : Accessed) → points_after_raise p t ≡ Ok raised → points_after_store raised t n value order ≡ Ok after → Moves p after.points
  update : (t n slot value : ℕ) (order : Ordering) (raised : Points) (read after : Accessed) → points_after_raise p t ≡ Ok raised → points_after_update_read raised t n slot ≡ Ok read → points_after_update_write read.points t n slot value order ≡ Ok after → Moves p after.points
  update_fail : (t n slot : ℕ) (order : Ordering) (raised : Points) (read : Accessed) → points_after_raise p t ≡ Ok raised → points_after_update_read raised t n slot ≡ Ok read → Moves p (points_after_update_fail read.points t n slot order)
  unsync_load : (t n : ℕ) (after : Accessed) → points_after_unsync_load p t n ≡ Ok after → Moves p after.points
  with_mut : (t n : ℕ) (after : Accessed) → points_after_with_mut p t n ≡ Ok after → Moves p after.points
  with_mut_end : (t n value : ℕ) (after : Accessed) → points_after_with_mut_end p t n value ≡ Ok after → Moves p after.points
  new_cell : (t : ℕ) → Moves p (points_with_cell p t)
  begin_read : (t n : ℕ) (raised after : Points) → points_after_raise p t ≡ Ok raised → points_after_read raised t n ≡ Ok after → Moves p after
  end_read : (t n : ℕ) (after : Points) → points_after_read p t n ≡ Ok after → Moves p after
  begin_write : (t n : ℕ) (raised after : Points) → points_after_raise p t ≡ Ok raised → points_after_write raised t n ≡ Ok after → Moves p after
  end_write : (t n : ℕ) (after : Points) → points_after_write p t n ≡ Ok after → Moves p after

-- some moves, or none, lead from these points to those
pub data Leads (p : Points) : Points → Type 0 where
  none : Leads p p
  later : (q r : Points) → Leads p q → Moves q r → Leads p r

-- what is recorded of one kind of accesses stays recorded
abbrev pub StaysRecorded : (Option Place → List ℕ) → Points → Points → Type 0
StaysRecorded of before after = (n : ℕ) → (more : List ℕ) × (of (slice_get after.places n) ≡ of (slice_get before.places n) ++ more)

-- the later points are the earlier ones and more, and more is recorded
pub record OnlyAdds (before after : Points) : Type 0 where
  pub graph : Extends before.graph after.graph
  pub reads : StaysRecorded reads_of before after
  pub writes : StaysRecorded writes_of before after
  pub loads : StaysRecorded loads_of before after
  pub stored : StaysRecorded stored_of before after

-- moves take away no point, and forget no access. There are five threads at most
abbrev pub AddingLaw : Type 0
AddingLaw = (p q : Points) → length p.threads ≤ 5 → Leads p q → OnlyAdds p q

-- in a run each point that is recorded of a load or a store raises
abbrev pub RecordedLaw : Type 0
RecordedLaw = (p : Points) (n k : ℕ) → Leads opening p → IsTrue (is_among k (loads_of (slice_get p.places n)) || is_among k (stored_of (slice_get p.places n))) → IsKnownByReaching p.graph k

-- some of these points doesn't reach the present one
abbrev pub HasUnreached : Graph → List ℕ → ℕ → Type 0
HasUnreached g points present = Any (λ k. reaches g k present ≡ false) points

-- an `unsync_load` is a race just where some store doesn't reach the thread's present point or the view of some mutation isn't
-- inside its view, and a mutation just where that is so, or some load doesn't reach it or the view of some `unsync_load` isn't inside
pub record RacesBeside (p : Points) (t n present : ℕ) (history : History) : Type 0 where
  pub unsync_load : (points_after_unsync_load p t n ≡ Err Race) ↔ (HasUnreached p.graph history.stored present ⊎ HasOutside p.graph history.mutations present)
  pub with_mut : (points_after_with_mut p t n ≡ Err Race) ↔ ((HasUnreached p.graph history.stored present ⊎ HasOutside p.graph history.mutations present) ⊎ (HasUnreached p.graph history.loads present ⊎ HasOutside p.graph history.unsync_loads present))

-- that is so in a run wherever there are the thread and the atomic, and no mutation is open
abbrev pub BesideLaw : Type 0
BesideLaw = (p : Points) (t n : ℕ) (own : ThreadPoints) (history : History) → Leads opening p → slice_get p.threads t ≡ Some own → slice_get p.places n ≡ Some (Keeps history) → history.mutating ≡ false → RacesBeside p t n own.present history

-- if thread u's access passes, point k reaches its present point
abbrev pub ReachesIfPassed : {A : Type 0} → Points → ℕ → ℕ → Result A FailureKind → Type 0
ReachesIfPassed p u k result = IfOk result (λ _. (own : ThreadPoints) → slice_get p.threads u ≡ Some own → IsTrue (reaches p.graph k own.present))

-- point k is recorded of object n by the earlier points, and thread u makes an access of it by the later ones
pub record ReachesLater (earlier later : Points) (u n k : ℕ) : Type 0 where
  pub write_read : IsTrue (is_among k (writes_of (slice_get earlier.places n))) → ReachesIfPassed later u k (points_after_read later u n)
  pub write_write : IsTrue (is_among k (writes_of (slice_get earlier.places n))) → ReachesIfPassed later u k (points_after_write later u n)
  pub read_write : IsTrue (is_among k (reads_of (slice_get earlier.places n))) → ReachesIfPassed later u k (points_after_write later u n)
  pub store_unsync_load : IsTrue (is_among k (stored_of (slice_get earlier.places n))) → ReachesIfPassed later u k (points_after_unsync_load later u n)
  pub store_with_mut : IsTrue (is_among k (stored_of (slice_get earlier.places n))) → ReachesIfPassed later u k (points_after_with_mut later u n)
  pub load_with_mut : IsTrue (is_among k (loads_of (slice_get earlier.places n))) → ReachesIfPassed later u k (points_after_with_mut later u n)
  pub store_with_mut_end : (value : ℕ) → IsTrue (is_among k (stored_of (slice_get earlier.places n))) → ReachesIfPassed later u k (points_after_with_mut_end later u n value)
  pub load_with_mut_end : (value : ℕ) → IsTrue (is_among k (loads_of (slice_get earlier.places n))) → ReachesIfPassed later u k (points_after_with_mut_end later u n value)

-- a point that raises and is recorded of an access reaches, whatever moves come between, each later access that conflicts with that
-- one and passes. There are five threads at most
abbrev pub OrderLaw : Type 0
OrderLaw = (earlier later : Points) (u n k : ℕ) → length earlier.threads ≤ 5 → IsTrue (is_raising earlier.graph k) → Leads earlier later → ReachesLater earlier later u n k
