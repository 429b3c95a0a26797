-- What a listener has heard of a run.
use Rattle.std.specs.Prelude.{ℕ, ◌≡◌, ⊤, List, [], ◌∷◌}
use Rattle.loom_objects.specs.Operation.Labelled.{Op}
use Rattle.loom_objects.specs.declared.operation.Reply.{Reply}
use Rattle.loom_explain.specs.declared.event.Event.{Event}

module _ {L : Type 0} (takes_reply : L → Reply ⊤ → L → Type 0) (takes_op : L → ℕ → Op ⊤ ⊤ → ℕ → L → Type 0) where
  -- an event: the reply, and then the operation
  abbrev pub HasHeardOne : L → Event → L → Type 0
  HasHeardOne old event new = (mid : L) × takes_reply old event.told mid × takes_op mid event.thread event.op event.choices_before new

  -- these events, one after another
  abbrev pub HasHeard : L → List Event → L → Type 0
  HasHeard old [] new = new ≡ old
  HasHeard old (event ∷ events) new = (mid : L) × HasHeardOne old event mid × HasHeard mid events new
