-- The first scripts: one thread or two, and a mutex.
use Rattle.std.specs.Prelude.{List, [], ◌∷◌, codes}
use Rattle.loom_objects.specs.declared.operation.MutexOp.TheVariants as mutex
use Rattle.loom_objects.specs.declared.operation.ThreadOp.TheVariants as threads
use Rattle.loom_objects.specs.declared.operation.Request.TheVariants as op
use Rattle.loom_examples.specs.Scripts.Written.{Written, Do, Label, JumpTo, SpawnAt}
use Rattle.loom_examples.specs.declared.scripts.step.Value.TheVariants.{Plain}
use Rattle.loom_examples.specs.Rows.Meanings.{Named}
use Rattle.loom_examples.specs.Rows.Settings.{script, whole, limited, short}
use Rattle.loom_examples.specs.Rows.Steps.{exit, end}

-- Main finishes, exits and ends.
abbrev pub finish_only : List Written
finish_only =
    Do 0 (op.Thread (threads.Finish (Plain 7))) ∷ exit ∷ end ∷ []

-- Main spawns a thread, which does nothing but end.
abbrev pub spawn_only : List Written
spawn_only =
    SpawnAt 0 (codes "child") ∷ Do 0 (op.Thread (threads.Finish (Plain 7))) ∷ exit ∷ end ∷
    Label (codes "child") ∷ Do 0 (op.Thread (threads.Finish (Plain 3))) ∷ exit ∷ end ∷ []

-- Main locks a mutex beside a thread that does nothing but end.
abbrev pub lock_beside : List Written
lock_beside =
    Do 0 (op.Mutex (mutex.New (Plain 0))) ∷ SpawnAt 1 (codes "child") ∷ Do 0 (op.Mutex (mutex.Lock 0)) ∷
    Do 0 (op.Mutex (mutex.Release 0 (Plain 0))) ∷ Do 0 (op.Thread (threads.Finish (Plain 7))) ∷ exit ∷ end ∷
    Label (codes "child") ∷ Do 0 (op.Thread (threads.Finish (Plain 3))) ∷ exit ∷ end ∷ []

-- Main makes mutexes without end.
abbrev pub mutex_forever : List Written
mutex_forever =
    Label (codes "again") ∷ Do 0 (op.Mutex (mutex.New (Plain 0))) ∷ JumpTo (codes "again") ∷ []

-- of one thread or two, and a mutex
abbrev pub few_thread_rows : List Named
few_thread_rows =
    script (codes "finish_only") finish_only ∷ script (codes "spawn_only") spawn_only ∷
    whole (codes "lock_beside") lock_beside ∷ script (codes "lock_beside_reduced") lock_beside ∷
    limited (codes "lock_beside_two") lock_beside ∷ short (codes "mutex_forever") mutex_forever ∷ []
