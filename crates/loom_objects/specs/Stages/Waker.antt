-- Wakers of a future.
-- Parts of what is done with a waker or with a place for one.
use Rattle.std.specs.Prelude.{ℕ, nat_lt, List, Option, Some, None, Result, Ok, ◌-◌, ◌==◌, ⊤}
use Rattle.loom_views.specs.declared.rt.failure.FailureKind.{FailureKind}
use Rattle.loom_views.specs.declared.rt.failure.FailureKind.TheVariants.{Misuse}
use Rattle.loom_objects.specs.declared.rt.object.Object.{Object}
use Rattle.loom_objects.specs.declared.rt.waker.Wakers.{Wakers}
use Rattle.loom_objects.specs.Scene.Lookup.{wakers_at}
use Rattle.loom_objects.specs.Rules.Rule.{◌>>=◌, check}
use Rattle.loom_objects.specs.declared.rt.run.Passed.{Passed}
use Rattle.loom_objects.specs.declared.rt.atomic_waker.AtomicWaker.{AtomicWaker}
use Rattle.loom_objects.specs.Rules.Moves.{an_atomic_waker, releases}
use Rattle.loom_objects.specs.Rules.Waker.{acquires_if, frees_place, holds_place, some_wakers, takes_place as place_taken, with_wakers}
use Rattle.loom_objects.specs.World.{World}

module _ {D : Type 0} where
  -- the wakers of this number, of which there is one at least
  abbrev pub wakers_left : ℕ → List (Object D) → Result Wakers FailureKind
  wakers_left c objects = do
    wakers ← wakers_at c objects
    _ ← check (nat_lt 0 wakers.count) Misuse
    Ok wakers

  -- a future has a waker left
  abbrev pub has_waker : Option ℕ → List (Object D) → Result ⊤ FailureKind
  has_waker None objects = Ok tt
  has_waker (Some c) objects = do
    _ ← wakers_left c objects
    Ok tt

module _ {D : Type 0} where
  -- the count is one less, and the thread releases to it; who drops the last waker acquires
  abbrev pub forgets : ℕ → World D → Result (⊤ × World D) FailureKind
  forgets c w = do
    wakers ← some_wakers c w
    Ok (tt, acquires_if (wakers.count == 1) c (releases c (with_wakers c (record wakers { count = wakers.count - 1 }) w)))

  -- the place is there, and its lock is held from now on, or given free
  abbrev pub holds : ℕ → AtomicWaker → World D → Result (⊤ × World D) FailureKind
  holds p place w = do
    _ ← an_atomic_waker p w
    Ok (tt, holds_place p place w)

  abbrev pub frees : ℕ → AtomicWaker → World D → Result (⊤ × World D) FailureKind
  frees p place w = do
    _ ← an_atomic_waker p w
    Ok (tt, frees_place p place w)

  -- the waker takes the place, which is there
  abbrev pub takes_place : ℕ → ℕ → AtomicWaker → World D → Result (Passed D × World D) FailureKind
  takes_place p c place w = do
    _ ← an_atomic_waker p w
    place_taken p c place place.waker w
