-- How a story ends.
use Rattle.std.proofs.Common.{◌≡◌, ℕ, zero, suc, List, [], ◌∷◌, refl, sym, ◌∙◌}
use Rattle.std.specs.Prelude.{Option, Some, None, Ok, Err, slice_get, slice_set}
use Rattle.loom_views.specs.declared.rt.failure.FailureKind.TheVariants.{Misuse}
use Rattle.loom_objects.specs.Operation.Labelled.{Op}
use Rattle.loom_objects.specs.declared.operation.Reply.{Reply}
use Rattle.loom_objects.specs.declared.operation.Reply.TheVariants as reply
use Rattle.loom_objects.specs.declared.operation.Turn.{Turn}
use Rattle.loom_objects.specs.declared.operation.Turn.TheVariants as turn
use Rattle.loom_objects.specs.Operation.Plain.{plain, started}
use Rattle.loom_objects.specs.Tree.Tree.{Gives, ◌>>=◌, found}
use Rattle.loom_engine.specs.Trees.Drive.{Trail, drive}
use Rattle.loom_engine.specs.Trees.Marks.{marking}
use Rattle.loom_engine.specs.Trees.Meeting.{Settings}
use Rattle.loom_engine.proofs.Trees.Binding.{drive_bind, onward}
use Rattle.loom_engine.specs.Runs.Course.{Course, opening}
use Rattle.loom_engine.specs.Runs.Machine.{submit}
use Rattle.loom_engine.specs.Runs.Body.{Meaning, at_turn, handed, play, with_child}
use Rattle.loom.specs.Model.Run.{Outcome}
use Rattle.loom.specs.Explain.Story.{StoryLaw, by_body, goes_on, hands_over, story}

module _ {D S : Type 0} (s : Settings) (next : Meaning D S) where
  -- from here on the story ends as the tree of runs does
  Comes : ℕ → Type 0
  Comes left = (bodies : List S) (c : Course D) (path : Trail) (thread : ℕ) (answer : Reply D)
      → (story s next left bodies c path thread answer).comes ≡ drive s (marking s.bound) (play next left bodies c thread answer) path

  goes_to : (left : ℕ) (bodies : List S) (d : Outcome (Turn D × Course D)) → Comes left
      → (goes_on (story s next left bodies) d).comes ≡ onward s (marking s.bound) (λ turned. at_turn (play next left bodies turned.1) (λ value. Gives value) turned.0) d
  unfolding Comes
  goes_to left bodies (Ok (turn.Reply thread answer, c), path) ih = ih bodies c path thread answer
  goes_to left bodies (Ok (turn.Start thread, c), path) ih = ih bodies c path thread reply.Start
  goes_to left bodies (Ok (turn.Ended value, c), path) ih = refl
  goes_to left bodies (Err kind, path) ih = refl

  hands_to : (left : ℕ) (bodies : List S) (c : Course D) (path : Trail) (thread : ℕ) (answer : Reply D) (stepped : S × Op D S) → Comes left
      → (hands_over s (story s next left) bodies c path thread answer stepped).comes ≡ drive s (marking s.bound) (handed (play next left) bodies c thread stepped) path
  hands_to left bodies c path thread answer (after, op) ih =
      let rest = with_child (slice_set bodies thread after) (started op) in
      goes_to left rest (drive s (marking s.bound) (submit (plain op) c) path) ih
      ∙ sym (drive_bind s (marking s.bound) (submit (plain op) c) (λ turned. at_turn (play next left rest turned.1) (λ value. Gives value) turned.0) path)

  by_body_to : (left : ℕ) (bodies : List S) (c : Course D) (path : Trail) (thread : ℕ) (answer : Reply D) (there : Option S) → Comes left
      → (by_body (λ body. hands_over s (story s next left) bodies c path thread answer (next body answer)) path there).comes
      ≡ drive s (marking s.bound) (found there Misuse >>= (λ body. handed (play next left) bodies c thread (next body answer))) path
  by_body_to left bodies c path thread answer None ih = refl
  by_body_to left bodies c path thread answer (Some body) ih = hands_to left bodies c path thread answer (next body answer) ih

  comes : (left : ℕ) → Comes left
  unfolding Comes story play
  comes zero bodies c path thread answer = refl
  comes (suc left) bodies c path thread answer = by_body_to left bodies c path thread answer (slice_get bodies thread) (comes left)

pub story_law : {D S : Type 0} → StoryLaw D S
unfolding Comes
story_law s next explores max_threads max_steps body path = comes s next (suc max_steps) (body ∷ []) (opening explores max_threads max_steps) path 0 reply.Start
