-- The runs of a body are a sound tree, which asks nothing after a schedule without a default thread.
use Rattle.std.proofs.Common.{ℕ, zero, suc, List, Option, Some, None}
use Rattle.std.specs.Prelude.{slice_get}
use Rattle.loom_views.specs.declared.rt.failure.FailureKind.{FailureKind}
use Rattle.loom_views.specs.declared.rt.failure.FailureKind.TheVariants.{Misuse, TooManySteps}
use Rattle.loom_objects.specs.declared.operation.Reply.{Reply}
use Rattle.loom_objects.specs.declared.operation.Turn.{Turn}
use Rattle.loom_objects.specs.declared.operation.Turn.TheVariants as turn
use Rattle.loom_objects.specs.Operation.Plain.{plain}
use Rattle.loom_objects.specs.Tree.Tree.{Tree, Gives, ◌>>=◌, found}
use Rattle.loom_engine.specs.Runs.Course.{Course}
use Rattle.loom_engine.specs.Runs.Machine.{submit}
use Rattle.loom_engine.specs.Runs.Body.{Meaning, at_turn, play}
use Rattle.loom_engine.specs.Runs.Sound.{IsRunTree, RunTreeLaw, UnchosenLaw}
use Rattle.loom_engine.specs.Trees.Sound.{IsFair, IsQuiet, EndsUnchosen}
use Rattle.loom_engine.proofs.Runs.Events.{IsGoing, IsOver, failing_run, found_run, event_then, event_unchosen}
use Rattle.loom_engine.proofs.Runs.Steps.{submit_event}

module _ {D R : Type 0} where
  turn_run : (turn : Turn D) (c : Course D) (go : ℕ → Reply D → Tree R) (stop : D → Tree R) → ((thread : ℕ) (answer : Reply D) → IsRunTree (go thread answer)) → IsGoing (turn, c) → IsRunTree (at_turn go stop turn)
  turn_run (turn.Reply thread answer) c go stop h going = h thread answer
  turn_run (turn.Start thread) c go stop h going = h thread _
  turn_run (turn.Ended value) c go stop h going = absurd going

  turn_unchosen : (turn : Turn D) (c : Course D) (go : ℕ → Reply D → Tree R) (stop : D → Tree R) → ((thread : ℕ) (answer : Reply D) → EndsUnchosen (go thread answer)) → IsGoing (turn, c)
      → EndsUnchosen (at_turn go stop turn)
  turn_unchosen (turn.Reply thread answer) c go stop h going = h thread answer
  turn_unchosen (turn.Start thread) c go stop h going = h thread _
  turn_unchosen (turn.Ended value) c go stop h going = absurd going

found_unchosen : {A R : Type 0} (o : Option A) (kind : FailureKind) (next : A → Tree R) → ((a : A) → EndsUnchosen (next a)) → EndsUnchosen (found o kind >>= next)
found_unchosen None kind next h = tt
found_unchosen (Some a) kind next h = h a

turn_rests : {D : Type 0} (turn : Turn D) (c : Course D) (go : ℕ → Reply D → Tree D) → IsOver (turn, c) → IsQuiet (at_turn go (λ value. Gives value) turn) × IsFair (at_turn go (λ value. Gives value) turn)
turn_rests (turn.Reply thread answer) c go over = absurd over
turn_rests (turn.Start thread) c go over = absurd over
turn_rests (turn.Ended value) c go over = (tt, tt)

module _ {D S : Type 0} (next : Meaning D S) where
  play_run : (left : ℕ) (bodies : List S) (c : Course D) (thread : ℕ) (answer : Reply D) → IsRunTree (play next left bodies c thread answer)
  unfolding play
  play_run zero bodies c thread answer = failing_run TooManySteps (λ e. cc)
  play_run (suc left) bodies c thread answer =
      found_run (slice_get bodies thread) Misuse _ (λ e. cc)
      (λ body. event_then _ (submit (plain (next body answer).1) c) (submit_event (plain (next body answer).1) c)
      (λ turned going. turn_run turned.0 turned.1 _ _ (λ t r. play_run left _ turned.1 t r) going)
      (λ turned over. turn_rests turned.0 turned.1 _ over))

  play_unchosen : (left : ℕ) (bodies : List S) (c : Course D) (thread : ℕ) (answer : Reply D) → EndsUnchosen (play next left bodies c thread answer)
  unfolding play
  play_unchosen zero bodies c thread answer = tt
  play_unchosen (suc left) bodies c thread answer =
      found_unchosen (slice_get bodies thread) Misuse _
      (λ body. event_unchosen _ (submit (plain (next body answer).1) c) (submit_event (plain (next body answer).1) c)
      (λ turned going. turn_unchosen turned.0 turned.1 _ _ (λ t r. play_unchosen left _ turned.1 t r) going)
      (λ turned over. turn_rests turned.0 turned.1 _ over))

pub run_tree_law : {D S : Type 0} → RunTreeLaw D S
run_tree_law next explores max_threads max_steps body = play_run next _ _ _ _ _

pub unchosen_law : {D S : Type 0} → UnchosenLaw D S
unchosen_law next explores max_threads max_steps body = play_unchosen next _ _ _ _ _
