-- The state of the machine.
use Rattle.std.specs.Prelude.{ℕ, false, List, [], ◌∷◌, Option, Some, None}
use Rattle.loom_objects.specs.declared.operation.Name.{Name}
use Rattle.loom_views.specs.Versions.{zeros}
use Rattle.loom_views.specs.Views.{Points, opening as first_points}
use Rattle.loom_objects.specs.declared.operation.Lazy.{Lazy}
use Rattle.loom_objects.specs.declared.rt.object.Object.{Object}
use Rattle.loom_objects.specs.declared.rt.thread.Thread.{Thread}
use Rattle.loom_objects.specs.declared.rt.thread.State.TheVariants.{Runnable}
use Rattle.loom_objects.specs.declared.rt.thread.Phase.TheVariants.{Working}
use Rattle.loom_objects.specs.declared.rt.thread.Task.TheVariants.{Body, Start}

-- the most threads that a run may have, main included
abbrev pub MAX_THREADS : ℕ
MAX_THREADS = 5

-- the threads, main first, and the objects, both in order of creation; the points of views, of each thread and of each
-- object by its number; the values that were made once, in the order made; the thread whose turn it is; how often each of five threads has
-- yielded; how many operations may still be handed over, and how many threads there may be
pub record World (D : Type 0) : Type 0 where
  pub threads : List (Thread D)
  pub objects : List (Object D)
  pub points : Points
  pub lazies : List (Lazy D)
  pub active : ℕ
  pub yields : List ℕ
  pub steps_left : ℕ
  pub max_threads : ℕ

module _ {D : Type 0} where
  -- main, before its first operation
  abbrev pub main_thread : Thread D
  main_thread = record { state = Runnable; phase = Working; task = Body; notifier = None; result = None; has_token = false; name = None; keys = []; locals = [] }

  -- a thread that was spawned, with this name or none, and with a notifier of its own
  abbrev pub child_thread : Option Name → ℕ → Thread D
  child_thread name notifier = record { state = Runnable; phase = Working; task = Start; notifier = Some notifier; result = None; has_token = false; name = name; keys = []; locals = [] }

  -- main is about to hand over its first operation
  abbrev pub opening : ℕ → ℕ → World D
  opening max_threads max_steps = record { threads = main_thread ∷ []; objects = []; points = first_points; lazies = []; active = 0; yields = zeros; steps_left = max_steps; max_threads = max_threads }
