-- The scripts of the rows about values that threads have for themselves, and values that are made once a run.
use Rattle.std.specs.Prelude.{List, [], ◌∷◌, codes}
use Rattle.loom_objects.specs.declared.operation.LazyOp.TheVariants as lazy
use Rattle.loom_objects.specs.declared.operation.LocalOp.TheVariants as local
use Rattle.loom_objects.specs.declared.operation.ThreadOp.TheVariants as threads
use Rattle.loom_objects.specs.declared.operation.Request.TheVariants as op
use Rattle.loom_examples.specs.Scripts.Written.{Written, Do, Label, UnlessTo, SpawnAt}
use Rattle.loom_examples.specs.declared.scripts.step.Value.TheVariants.{Plain, Held}
use Rattle.loom_examples.specs.Rows.Steps.{exit, end, fail}

abbrev pub finish : Written
finish = Do 0 (op.Thread (threads.Finish (Plain 7)))

-- Main asserts that a value isn't made yet, that it is 5 once it is made so, and that it is given back with its key.
abbrev pub lazy_once : List Written
lazy_once =
    Do 0 (op.Lazy (lazy.Get 1)) ∷ UnlessTo 3 1 (codes "wrong") ∷ Do 0 (op.Lazy (lazy.Init 1 (Plain 5))) ∷
    UnlessTo 0 5 (codes "wrong") ∷ Do 1 (op.Lazy (lazy.Get 1)) ∷ UnlessTo 1 5 (codes "wrong") ∷
    Do 2 (op.Thread (threads.Finish (Held 1))) ∷ UnlessTo 2 115 (codes "wrong") ∷ exit ∷ end ∷
    Label (codes "wrong") ∷ fail ∷ []

-- A thread that main doesn't join asks for a value that is made once (loom's `tests/atomic.rs`).
abbrev pub lazy_late : List Written
lazy_late =
    SpawnAt 0 (codes "child") ∷ finish ∷ exit ∷ end ∷ Label (codes "child") ∷ Do 0 (op.Lazy (lazy.Get 1)) ∷
    finish ∷ exit ∷ end ∷ []

-- Main makes two values of one key.
abbrev pub local_twice : List Written
local_twice =
    Do 0 (op.Local (local.Init 1 (Plain 5))) ∷ Do 0 (op.Local (local.Init 1 (Plain 6))) ∷ []

-- Main asks for a value that it gave back.
abbrev pub local_gone : List Written
local_gone =
    Do 0 (op.Local (local.Init 1 (Plain 5))) ∷ finish ∷ exit ∷ Do 0 (op.Local (local.With 1)) ∷ []

-- The one before by the call that may fail, and main asserts that it does.
abbrev pub local_access_error : List Written
local_access_error =
    Do 0 (op.Local (local.Init 1 (Plain 5))) ∷ finish ∷ exit ∷ Do 0 (op.Local (local.TryWith 1)) ∷
    UnlessTo 3 2 (codes "wrong") ∷ end ∷ Label (codes "wrong") ∷ fail ∷ []

-- Main makes a value of key 2 and then one of key 1, and asserts that it has them back in this order.
abbrev pub local_order : List Written
local_order =
    Do 0 (op.Local (local.Init 2 (Plain 5))) ∷ Do 0 (op.Local (local.Init 1 (Plain 6))) ∷ finish ∷ exit ∷
    UnlessTo 0 12516 (codes "wrong") ∷ end ∷ Label (codes "wrong") ∷ fail ∷ []
