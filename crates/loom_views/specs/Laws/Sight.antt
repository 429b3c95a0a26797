-- What is seen of points tells what comes of each move of them.
use Rattle.std.specs.Prelude.{ℕ, ◌≡◌, ◌⊎◌, length, Result, Ok, Err}
use Rattle.std.specs.declared.sync.atomic.Ordering.{Ordering}
use Rattle.loom_views.specs.declared.rt.atomic.reader.Reader.{Reader}
use Rattle.loom_views.specs.declared.rt.failure.FailureKind.{FailureKind}
use Rattle.loom_views.specs.declared.rt.failure.FailureKind.TheVariants.{TooManyVersions}
use Rattle.loom_views.specs.declared.rt.views.Views.{Views}
use Rattle.loom_views.specs.InOrder.{IsInOrder}
use Rattle.loom_views.specs.Laws.Moves.{Leads}
use Rattle.loom_views.specs.Sight.{seen}
use Rattle.loom_views.specs.Views.{Accessed, Points, ShowsViews, opening, points_after_acquire, points_after_fence, points_after_join, points_after_load, points_after_raise, points_after_read, points_after_release, points_after_spawn, points_after_stamp, points_after_stamp_acquire, points_after_stamp_release, points_after_store, points_after_unsync_load, points_after_update_fail, points_after_update_read, points_after_update_write, points_after_with_mut, points_after_with_mut_end, points_after_write, points_after_yield, points_with_atomic, points_with_cell, points_with_point, points_with_stamp, readable_slots_of}

-- two moves that raise versions lead to points of which the same is seen, or fail alike; but each may find that there are too many
abbrev pub RaisesAlike : Result Points FailureKind → Result Points FailureKind → Type 0
RaisesAlike (Ok p) (Ok q) = seen p ≡ seen q
RaisesAlike (Ok p) (Err kind) = kind ≡ TooManyVersions
RaisesAlike (Err kind) (Ok q) = kind ≡ TooManyVersions
RaisesAlike (Err kind) (Err other) = (kind ≡ other) ⊎ (kind ≡ TooManyVersions) ⊎ (other ≡ TooManyVersions)

-- two moves lead to points of which the same is seen, or fail alike
abbrev pub MovesAlike : Result Points FailureKind → Result Points FailureKind → Type 0
MovesAlike (Ok p) (Ok q) = seen p ≡ seen q
MovesAlike (Ok p) (Err kind) = ⊥
MovesAlike (Err kind) (Ok q) = ⊥
MovesAlike (Err kind) (Err other) = kind ≡ other

-- two accesses answer the same value, and lead to points of which the same is seen, or fail alike
abbrev pub AccessesAlike : Result Accessed FailureKind → Result Accessed FailureKind → Type 0
AccessesAlike (Ok a) (Ok b) = (a.value ≡ b.value) × (seen a.points ≡ seen b.points)
AccessesAlike (Ok a) (Err kind) = ⊥
AccessesAlike (Err kind) (Ok b) = ⊥
AccessesAlike (Err kind) (Err other) = kind ≡ other

-- Where the same is seen of p and of q, each move answers the same, and the same is seen of the points that it leads to.
pub record SightLaw : Type 0 where
  pub stamps : (p q : Points) → seen p ≡ seen q → length p.stamps ≡ length q.stamps
  pub raise : (p q : Points) (t : ℕ) → seen p ≡ seen q → RaisesAlike (points_after_raise p t) (points_after_raise q t)
  pub spawn : (p q : Points) (t : ℕ) → seen p ≡ seen q → RaisesAlike (points_after_spawn p t) (points_after_spawn q t)
  pub acquire : (p q : Points) (t n : ℕ) → seen p ≡ seen q → seen (points_after_acquire p t n) ≡ seen (points_after_acquire q t n)
  pub release : (p q : Points) (t n : ℕ) (order : Ordering) → seen p ≡ seen q → seen (points_after_release p t n order) ≡ seen (points_after_release q t n order)
  pub fence : (p q : Points) (t : ℕ) (order : Ordering) → seen p ≡ seen q → seen (points_after_fence p t order) ≡ seen (points_after_fence q t order)
  pub join : (p q : Points) (t u : ℕ) → seen p ≡ seen q → seen (points_after_join p t u) ≡ seen (points_after_join q t u)
  pub yield : (p q : Points) (t : ℕ) → seen p ≡ seen q → seen (points_after_yield p t) ≡ seen (points_after_yield q t)
  -- points of objects, and stamps
  pub point : (p q : Points) → seen p ≡ seen q → seen (points_with_point p) ≡ seen (points_with_point q)
  pub stamp : (p q : Points) → seen p ≡ seen q → seen (points_with_stamp p) ≡ seen (points_with_stamp q)
  pub stamped : (p q : Points) (n m : ℕ) → seen p ≡ seen q → seen (points_after_stamp p n m) ≡ seen (points_after_stamp q n m)
  pub stamp_release : (p q : Points) (t m : ℕ) (order : Ordering) → seen p ≡ seen q → seen (points_after_stamp_release p t m order) ≡ seen (points_after_stamp_release q t m order)
  pub stamp_acquire : (p q : Points) (t m : ℕ) → seen p ≡ seen q → seen (points_after_stamp_acquire p t m) ≡ seen (points_after_stamp_acquire q t m)
  -- atomics
  pub atomic : (p q : Points) (t value : ℕ) → seen p ≡ seen q → seen (points_with_atomic p t value) ≡ seen (points_with_atomic q t value)
  pub readable : (p q : Points) (t n : ℕ) (reader : Reader) → seen p ≡ seen q → readable_slots_of p t n reader ≡ readable_slots_of q t n reader
  pub load : (p q : Points) (t n slot : ℕ) (order : Ordering) → seen p ≡ seen q → AccessesAlike (points_after_load p t n slot order) (points_after_load q t n slot order)
  pub store : (p q : Points) (t n value : ℕ) (order : Ordering) → seen p ≡ seen q → AccessesAlike (points_after_store p t n value order) (points_after_store q t n value order)
  pub update_read : (p q : Points) (t n slot : ℕ) → seen p ≡ seen q → AccessesAlike (points_after_update_read p t n slot) (points_after_update_read q t n slot)
  pub update_write : (p q : Points) (t n slot value : ℕ) (order : Ordering) → seen p ≡ seen q → AccessesAlike (points_after_update_write p t n slot value order) (points_after_update_write q t n slot value order)
  pub update_fail : (p q : Points) (t n slot : ℕ) (order : Ordering) → seen p ≡ seen q → seen (points_after_update_fail p t n slot order) ≡ seen (points_after_update_fail q t n slot order)
  pub unsync_load : (p q : Points) (t n : ℕ) → seen p ≡ seen q → AccessesAlike (points_after_unsync_load p t n) (points_after_unsync_load q t n)
  pub with_mut : (p q : Points) (t n : ℕ) → seen p ≡ seen q → AccessesAlike (points_after_with_mut p t n) (points_after_with_mut q t n)
  pub with_mut_end : (p q : Points) (t n value : ℕ) → seen p ≡ seen q → AccessesAlike (points_after_with_mut_end p t n value) (points_after_with_mut_end q t n value)
  -- cells
  pub cell : (p q : Points) (t : ℕ) → seen p ≡ seen q → seen (points_with_cell p t) ≡ seen (points_with_cell q t)
  pub read : (p q : Points) (t n : ℕ) → seen p ≡ seen q → MovesAlike (points_after_read p t n) (points_after_read q t n)
  pub write : (p q : Points) (t n : ℕ) → seen p ≡ seen q → MovesAlike (points_after_write p t n) (points_after_write q t n)

-- Where what is kept of two runs is in the order of the same views, the same is seen of the points that it shows.
abbrev pub ShownLaw : Type 0
ShownLaw = (p q : Points) (v w views : Views) → Leads opening p → Leads opening q → ShowsViews p v → ShowsViews q w → IsInOrder v views → IsInOrder w views → seen p ≡ seen q
