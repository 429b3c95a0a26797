-- What has to be seen of points, so that each move of them answers alike.
use Rattle.std.specs.Prelude.{ℕ, ◌≡◌, Bool, true, false, List, length, Result}
use Rattle.std.specs.declared.sync.atomic.Ordering.{Ordering}
use Rattle.loom_views.specs.declared.rt.atomic.reader.Reader.{Reader}
use Rattle.loom_views.specs.declared.rt.failure.FailureKind.{FailureKind}
use Rattle.loom_views.specs.declared.rt.failure.FailureKind.TheVariants.{TooManySteps}
use Rattle.loom_views.specs.Versions.{zeros}
use Rattle.loom_views.specs.Views.{Accessed, Points, opening, points_after_acquire, points_after_fence, points_after_join, points_after_load, points_after_raise, points_after_read, points_after_release, points_after_spawn, points_after_stamp, points_after_stamp_acquire, points_after_stamp_release, points_after_store, points_after_unsync_load, points_after_update_fail, points_after_update_read, points_after_update_write, points_after_with_mut, points_after_with_mut_end, points_after_write, points_after_yield, points_with_atomic, points_with_cell, points_with_point, points_with_stamp, readable_slots_of}
use Rattle.loom_objects.specs.Tree.Tree.{came}
use Rattle.loom_objects.specs.World.{World}
use Rattle.loom_engine.specs.Covering.Alike.{AreAlike}
use Rattle.loom_engine.specs.Covering.States.{LooksSame, TellsFuture}

module _ {V : Type 0} (limits : FailureKind → Bool) (seen : Points → V) where
  abbrev pub SeenSame : Points → Points → Type 0
  SeenSame p q = seen p ≡ seen q

  -- the same value, and points of which the same is seen
  abbrev pub ValuesSame : Accessed → Accessed → Type 0
  ValuesSame a b = (a.value ≡ b.value) × (seen a.points ≡ seen b.points)

  -- two moves give points of which the same is seen, or fail alike, limits aside
  abbrev pub MovesAlike : Result Points FailureKind → Result Points FailureKind → Type 0
  MovesAlike r s = AreAlike limits SeenSame (came r) (came s)

  abbrev pub AccessesAlike : Result Accessed FailureKind → Result Accessed FailureKind → Type 0
  AccessesAlike r s = AreAlike limits ValuesSame (came r) (came s)

  abbrev pub SlotsAlike : Result (List ℕ) FailureKind → Result (List ℕ) FailureKind → Type 0
  SlotsAlike r s = AreAlike limits (λ (a b : List ℕ). a ≡ b) (came r) (came s)

  -- What is seen of points tells what comes of each move of them: where the same is seen of p and of q, a move answers the same, and
  -- the same is seen of the points that it leads to.
  pub record TellsMoves : Type 0 where
    pub stamps : (p q : Points) → seen p ≡ seen q → length p.stamps ≡ length q.stamps
    pub raise : (p q : Points) (t : ℕ) → seen p ≡ seen q → MovesAlike (points_after_raise p t) (points_after_raise q t)
    pub spawn : (p q : Points) (t : ℕ) → seen p ≡ seen q → MovesAlike (points_after_spawn p t) (points_after_spawn q t)
    pub acquire : (p q : Points) (t n : ℕ) → seen p ≡ seen q → seen (points_after_acquire p t n) ≡ seen (points_after_acquire q t n)
    pub release : (p q : Points) (t n : ℕ) (order : Ordering) → seen p ≡ seen q → seen (points_after_release p t n order) ≡ seen (points_after_release q t n order)
    pub fence : (p q : Points) (t : ℕ) (order : Ordering) → seen p ≡ seen q → seen (points_after_fence p t order) ≡ seen (points_after_fence q t order)
    pub join : (p q : Points) (t u : ℕ) → seen p ≡ seen q → seen (points_after_join p t u) ≡ seen (points_after_join q t u)
    pub yield : (p q : Points) (t : ℕ) → seen p ≡ seen q → seen (points_after_yield p t) ≡ seen (points_after_yield q t)
    -- points of objects, and stamps
    pub point : (p q : Points) → seen p ≡ seen q → seen (points_with_point p) ≡ seen (points_with_point q)
    pub stamp : (p q : Points) → seen p ≡ seen q → seen (points_with_stamp p) ≡ seen (points_with_stamp q)
    pub stamped : (p q : Points) (n m : ℕ) → seen p ≡ seen q → seen (points_after_stamp p n m) ≡ seen (points_after_stamp q n m)
    pub stamp_release : (p q : Points) (t m : ℕ) (order : Ordering) → seen p ≡ seen q → seen (points_after_stamp_release p t m order) ≡ seen (points_after_stamp_release q t m order)
    pub stamp_acquire : (p q : Points) (t m : ℕ) → seen p ≡ seen q → seen (points_after_stamp_acquire p t m) ≡ seen (points_after_stamp_acquire q t m)
    -- atomics
    pub atomic : (p q : Points) (t value : ℕ) → seen p ≡ seen q → seen (points_with_atomic p t value) ≡ seen (points_with_atomic q t value)
    pub readable : (p q : Points) (t n : ℕ) (reader : Reader) → seen p ≡ seen q → SlotsAlike (readable_slots_of p t n reader) (readable_slots_of q t n reader)
    pub load : (p q : Points) (t n slot : ℕ) (order : Ordering) → seen p ≡ seen q → AccessesAlike (points_after_load p t n slot order) (points_after_load q t n slot order)
    pub store : (p q : Points) (t n value : ℕ) (order : Ordering) → seen p ≡ seen q → AccessesAlike (points_after_store p t n value order) (points_after_store q t n value order)
    pub update_read : (p q : Points) (t n slot : ℕ) → seen p ≡ seen q → AccessesAlike (points_after_update_read p t n slot) (points_after_update_read q t n slot)
    pub update_write : (p q : Points) (t n slot value : ℕ) (order : Ordering) → seen p ≡ seen q → AccessesAlike (points_after_update_write p t n slot value order) (points_after_update_write q t n slot value order)
    pub update_fail : (p q : Points) (t n slot : ℕ) (order : Ordering) → seen p ≡ seen q → seen (points_after_update_fail p t n slot order) ≡ seen (points_after_update_fail q t n slot order)
    pub unsync_load : (p q : Points) (t n : ℕ) → seen p ≡ seen q → AccessesAlike (points_after_unsync_load p t n) (points_after_unsync_load q t n)
    pub with_mut : (p q : Points) (t n : ℕ) → seen p ≡ seen q → AccessesAlike (points_after_with_mut p t n) (points_after_with_mut q t n)
    pub with_mut_end : (p q : Points) (t n value : ℕ) → seen p ≡ seen q → AccessesAlike (points_after_with_mut_end p t n value) (points_after_with_mut_end q t n value)
    -- cells
    pub cell : (p q : Points) (t : ℕ) → seen p ≡ seen q → seen (points_with_cell p t) ≡ seen (points_with_cell q t)
    pub read : (p q : Points) (t n : ℕ) → seen p ≡ seen q → MovesAlike (points_after_read p t n) (points_after_read q t n)
    pub write : (p q : Points) (t n : ℕ) → seen p ≡ seen q → MovesAlike (points_after_write p t n) (points_after_write q t n)

-- The points themselves tell their moves.
abbrev pub ThemselvesLaw : Type 0
ThemselvesLaw = (limits : FailureKind → Bool) → TellsMoves limits (λ (p : Points). p)

-- The machine's state, with what is seen of its points in their place, and without how many operations may still be handed over.
pub record Sight (D V : Type 0) : Type 0 where
  pub rest : World D
  pub points : V

abbrev pub sight : {D V : Type 0} → (Points → V) → World D → Sight D V
sight seen w = record { rest = record w { points = opening; steps_left = 0 }; points = seen w.points }

-- Where what is seen of points tells their moves, the state with that in place of the points tells the future: rules look at points by
-- moves alone. Too many operations is a limit.
abbrev pub PointsLaw : Type 0 → Type 0 → Type 0
PointsLaw D V = (limits : FailureKind → Bool) (seen : Points → V) → limits TooManySteps ≡ true → TellsMoves limits seen
    → TellsFuture limits (λ explores (w : World D). sight seen w) (LooksSame (λ explores (w : World D). sight seen w))

-- how often threads have yielded, or nothing of it
abbrev pub yields_seen : Bool → List ℕ → List ℕ
yields_seen true yields = zeros
yields_seen false yields = yields

-- the state without how often threads have yielded, where the search explores: only a default thread depends on it
abbrev pub without_yields : {D : Type 0} → Bool → World D → World D
without_yields explores w = record w { yields = yields_seen explores w.yields }

-- How often threads have yielded may be left out where the search explores, of a body that never switches that.
abbrev pub YieldsLaw : Type 0 → Type 0 → Type 0
YieldsLaw D V = (limits : FailureKind → Bool) (seen : Points → V) → limits TooManySteps ≡ true → TellsMoves limits seen
    → TellsFuture limits (λ explores (w : World D). sight seen (without_yields explores w)) (LooksSame (λ explores (w : World D). sight seen (without_yields explores w)))
