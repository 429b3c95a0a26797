-- The runs of a body: what its threads hand over, one operation after another.
use Rattle.std.specs.Prelude.{Bool, ℕ, zero, suc, List, [], ◌∷◌, ◌++◌, Option, Some, None, slice_get, slice_set}
use Rattle.loom_views.specs.declared.rt.failure.FailureKind.TheVariants.{TooManySteps, Misuse}
use Rattle.loom_objects.specs.Operation.Labelled.{Op}
use Rattle.loom_objects.specs.declared.operation.Reply.{Reply}
use Rattle.loom_objects.specs.declared.operation.Reply.TheVariants as reply
use Rattle.loom_objects.specs.declared.operation.Turn.{Turn}
use Rattle.loom_objects.specs.declared.operation.Turn.TheVariants as turn
use Rattle.loom_objects.specs.Operation.Plain.{plain, started}
use Rattle.loom_objects.specs.Tree.Tree.{Tree, Gives, Fails, ◌>>=◌, found}
use Rattle.loom_engine.specs.Runs.Course.{Course, opening}
use Rattle.loom_engine.specs.Runs.Machine.{submit}

-- what a body means: from its state and a reply, its next state and operation
abbrev pub Meaning : Type 0 → Type 0 → Type 0
Meaning D S = S → Reply D → S × Op D S

abbrev pub with_child : {S : Type 0} → List S → Option S → List S
with_child bodies None = bodies
with_child bodies (Some child) = bodies ++ child ∷ []

-- goes on with the thread whose turn it is and its reply, or ends with main's result
abbrev pub at_turn : {D R : Type 0} → (ℕ → Reply D → R) → (D → R) → Turn D → R
at_turn go stop (turn.Reply thread answer) = go thread answer
at_turn go stop (turn.Start thread) = go thread reply.Start
at_turn go stop (turn.Ended value) = stop value

module _ {D S : Type 0} where
  -- what comes after the body of a thread has handed over its operation and is in its next state
  abbrev pub handed : (List S → Course D → ℕ → Reply D → Tree D) → List S → Course D → ℕ → S × Op D S → Tree D
  handed rest bodies c thread (after, op) = do
    turned ← submit (plain op) c
    at_turn (rest (with_child (slice_set bodies thread after) (started op)) turned.1) (λ value. Gives value) turned.0

  -- The thread gets the reply, and its body hands over its next operation, and so on to the run's end, with main's
  -- result. What is started is a thread more. The number bounds the operations to come.
  unfoldable pub play : Meaning D S → ℕ → List S → Course D → ℕ → Reply D → Tree D
  play next zero bodies c thread answer = Fails TooManySteps
  play next (suc left) bodies c thread answer = do
    body ← found (slice_get bodies thread) Misuse
    handed (play next left) bodies c thread (next body answer)

  -- all runs of a body, as a tree; they begin to explore, or don't
  abbrev pub runs : Meaning D S → Bool → ℕ → ℕ → S → Tree D
  runs next explores max_threads max_steps body = play next (suc max_steps) (body ∷ []) (opening explores max_threads max_steps) 0 reply.Start
