-- The scripts of the rows about runs that explore from somewhere on, or up to somewhere.
use Rattle.std.specs.Prelude.{List, [], ◌∷◌, codes}
use Rattle.loom_objects.specs.declared.operation.ExploreOp.TheVariants as explore
use Rattle.loom_objects.specs.declared.operation.MutexOp.TheVariants as mutex
use Rattle.loom_objects.specs.declared.operation.ThreadOp.TheVariants as threads
use Rattle.loom_objects.specs.declared.operation.Request.TheVariants as op
use Rattle.loom_examples.specs.Scripts.Written.{Written, Do, Label, SpawnAt}
use Rattle.loom_examples.specs.declared.scripts.step.Value.TheVariants.{Plain}
use Rattle.loom_examples.specs.Rows.Steps.{exit, end}

abbrev pub finish : Written
finish = Do 0 (op.Thread (threads.Finish (Plain 7)))

abbrev pub child_finish : Written
child_finish = Do 0 (op.Thread (threads.Finish (Plain 3)))

-- Main stops exploring, and then locks a mutex beside a thread that does nothing but end.
abbrev pub stop_exploring : List Written
stop_exploring =
    Do 0 (op.Explore explore.StopExploring) ∷ Do 0 (op.Mutex (mutex.New (Plain 0))) ∷
    SpawnAt 1 (codes "child") ∷ Do 0 (op.Mutex (mutex.Lock 0)) ∷ Do 0 (op.Mutex (mutex.Release 0 (Plain 0))) ∷
    finish ∷ exit ∷ end ∷ Label (codes "child") ∷ child_finish ∷ exit ∷ end ∷ []

-- Main stops exploring twice.
abbrev pub stop_exploring_twice : List Written
stop_exploring_twice =
    Do 0 (op.Explore explore.StopExploring) ∷ Do 0 (op.Explore explore.StopExploring) ∷ []

-- The first one, but main ends exploring for the run, which neither `explore` nor `stop_exploring` changes.
abbrev pub skip_branch : List Written
skip_branch =
    Do 0 (op.Explore explore.SkipBranch) ∷ Do 0 (op.Explore explore.Explore) ∷
    Do 0 (op.Explore explore.StopExploring) ∷ Do 0 (op.Mutex (mutex.New (Plain 0))) ∷
    SpawnAt 1 (codes "child") ∷ Do 0 (op.Mutex (mutex.Lock 0)) ∷ Do 0 (op.Mutex (mutex.Release 0 (Plain 0))) ∷
    finish ∷ exit ∷ end ∷ Label (codes "child") ∷ child_finish ∷ exit ∷ end ∷ []

-- The first one, but main begins to explore.
abbrev pub explore_first : List Written
explore_first =
    Do 0 (op.Explore explore.Explore) ∷ Do 0 (op.Mutex (mutex.New (Plain 0))) ∷ SpawnAt 1 (codes "child") ∷
    Do 0 (op.Mutex (mutex.Lock 0)) ∷ Do 0 (op.Mutex (mutex.Release 0 (Plain 0))) ∷ finish ∷ exit ∷ end ∷
    Label (codes "child") ∷ child_finish ∷ exit ∷ end ∷ []
