-- What threads offer to a schedule, and how one is chosen.
use Rattle.std.specs.Prelude.{ℕ, List, [], ◌∷◌, map, Option, Some, None, Result, Ok, slice_get, slice_index, slice_set}
use Rattle.loom_views.specs.declared.rt.failure.FailureKind.{FailureKind}
use Rattle.loom_views.specs.declared.rt.failure.FailureKind.TheVariants.{Misuse}
use Rattle.loom_objects.specs.declared.rt.schedule.Ability.{Ability}
use Rattle.loom_objects.specs.declared.rt.schedule.Ability.TheVariants as ability
use Rattle.loom_objects.specs.declared.rt.schedule.Ability.TheVariants.{Able, Unable}
use Rattle.loom_objects.specs.Schedule.Defaults.{default_thread}
use Rattle.loom_objects.specs.declared.rt.schedule.Offers.{Offers}
use Rattle.loom_objects.specs.declared.rt.thread.State.{State}
use Rattle.loom_objects.specs.declared.rt.thread.State.TheVariants.{Runnable, Blocked, Parked, Sleeping, Yielding, Ended}
use Rattle.loom_objects.specs.declared.rt.thread.Task.{Task}
use Rattle.loom_objects.specs.declared.rt.thread.Task.TheVariants.{Body}
use Rattle.loom_objects.specs.declared.rt.thread.Thread.{Thread}
use Rattle.loom_objects.specs.Rules.Moves.{with_active}
use Rattle.loom_objects.specs.Rules.Rule.{◌>>=◌, found}
use Rattle.loom_objects.specs.World.{World}

abbrev pub ability_of : State → Ability
ability_of Runnable = Able
ability_of Yielding = ability.Yielding
ability_of Blocked = Unable
ability_of Parked = Unable
ability_of Sleeping = Unable
ability_of Ended = Unable

-- Standings: what each thread's state lets it do, and how often it has yielded.

abbrev pub ability_in : Ability × ℕ → Ability
ability_in standing = standing.0

-- the default thread can go on
abbrev pub with_able : Option ℕ → List Ability → List Ability
with_able None abilities = abilities
with_able (Some t) abilities = slice_set abilities t Able

-- what threads with these standings offer to a schedule, while this one is active
abbrev pub offers_of : ℕ → List (Ability × ℕ) → Offers
offers_of active standings = record {
  default = default_thread active standings;
  abilities = with_able (default_thread active standings) (map ability_in standings);
}

-- a thread that has yielded can go on again
abbrev pub again : State → State
again Yielding = Runnable
again Runnable = Runnable
again Blocked = Blocked
again Parked = Parked
again Sleeping = Sleeping
again Ended = Ended

module _ {D : Type 0} where
  -- a thread that has yielded so often, as a schedule sees it: what its state lets it do comes first
  abbrev pub standing_of : ℕ → Option (Thread D) → Ability × ℕ
  standing_of yields None = (Unable, yields)
  standing_of yields (Some thread) = (ability_of thread.state, yields)

  abbrev pub standing_at : List ℕ → List (Thread D) → ℕ → Ability × ℕ
  standing_at yields threads t = standing_of (slice_index yields t) (slice_get threads t)

  -- the five threads
  abbrev pub standings : World D → List (Ability × ℕ)
  standings w = map (standing_at w.yields w.threads) (0 ∷ 1 ∷ 2 ∷ 3 ∷ 4 ∷ [])

  -- what they offer to a schedule
  abbrev pub offers : World D → Offers
  offers w = offers_of w.active (standings w)

  abbrev pub runs_again : Thread D → Thread D
  runs_again thread = record thread { state = again thread.state }

  -- each thread that has yielded can go on again
  abbrev pub all_run : World D → World D
  all_run w = record w { threads = map runs_again w.threads }

  -- thread t is chosen: it stays in its state, and each other one that has yielded can go on again; it has nothing pending any
  -- more, and what it had is to take effect
  abbrev pub chooses : ℕ → World D → Result (Task D × World D) FailureKind
  chooses t w = do
    thread ← found (slice_get w.threads t) Misuse
    Ok (thread.task, with_active (record thread { task = Body }) (all_run (record w { active = t })))
