-- How a question ends: with an answer that its reply holds, or a stop.
pub use Rattle.loom_ops.specs.Answers.{alone_in, as_loaded, given_in, left_in, channel_in, sent_in, received_in, tried_receive_in, drained_in, done_in, guard_in, tried_in, waited_in, tried_read_in, tried_write_in, present_in, tried_local_in, standing_in, taken_in, joined_in, loaded_in, exchanged_in}
use Rattle.std.specs.Prelude.{◌≡◌, ◌⊎◌, ⊤, true, List, [], ◌∷◌, ◌++◌, Option, Some, None, Result, Ok, Err}
use Rattle.loom_objects.specs.declared.operation.Request.{Request}
use Rattle.loom_objects.specs.declared.operation.Reply.{Reply}
use Rattle.loom.specs.declared.runner.stop.Stop.{Stop}
use Rattle.loom.specs.declared.runner.history.event.Entry.{Entry}
use Rattle.loom.specs.Runner.Histories.{entry}
use Rattle.loom.specs.Runner.Handle.{Teller, ByStop, all_answered, failing, handed, with_open}

module _ {D A : Type 0} (held : Reply D → Option A) (op : Request D ⊤) where
  -- no stop came before, the operation was handed over, and its reply holds the answer
  abbrev pub Tells : List (Entry D) → List (Entry D) → A → Type 0
  Tells old new answer = (reply : Reply D) × (held reply ≡ Some answer) × (new ≡ old ++ entry op (Some reply) ∷ []) × (all_answered old ≡ true)

  -- its reply holds no such answer, and `fail` is handed over behind it
  pub record IsRefused (old new : List (Entry D)) : Type 0 where
    pub reply : Reply D
    pub holds_none : held reply ≡ None
    pub live : all_answered old ≡ true
    pub told : new ≡ (old ++ entry op (Some reply) ∷ []) ++ entry failing None ∷ []

  -- A stop, and no answer: the list ends in the operation that was first answered by a stop, which is this one, an earlier one or that
  -- `fail`. For want of memory the run is given up.
  abbrev pub Stops : List (Entry D) → Teller D → Stop → Type 0
  Stops old new stop = ByStop stop ((new.told ≡ with_open old (handed op)) ⊎ IsRefused old new.told) (new.starved ≡ true)

-- the answer is a stop, and the list ends in `fail`, or in an earlier operation that was answered by a stop
abbrev pub Fails : {D A : Type 0} → List (Entry D) → Teller D → Result A Stop → Type 0
Fails old new (Ok answer) = ⊥
Fails old new (Err stop) = ByStop stop (new.told ≡ with_open old failing) (new.starved ≡ true)
