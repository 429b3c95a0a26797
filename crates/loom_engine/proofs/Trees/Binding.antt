-- A path drives through one tree and then through another.
use Rattle.std.proofs.Common.{◌≡◌, Bool, true, false, refl, ap, ◌∙◌}
use Rattle.std.specs.Prelude.{cond, Result, Ok, Err}
use Rattle.loom_views.specs.declared.rt.failure.FailureKind.{FailureKind}
use Rattle.loom_views.specs.declared.rt.failure.FailureKind.TheVariants.{NotDeterministic}
use Rattle.loom_objects.specs.declared.choice.Choice.{Choice}
use Rattle.loom_objects.specs.Tree.Tree.{Tree, Gives, Fails, Closes, Asks, ◌>>=◌}
use Rattle.loom_engine.specs.Trees.Meeting.{Settings, Marking}
use Rattle.loom_engine.specs.Trees.Drive.{Trail, Answer, branch, backtrack, is_used_up, drive, drive_on}

module _ {A B : Type 0} (s : Settings) (adds : Marking) where
  -- from the one tree's outcome the path goes on through the other
  abbrev pub onward : (A → Tree B) → Result A FailureKind × Trail → Result B FailureKind × Trail
  onward next (Ok a, path) = drive s adds (next a) path
  onward next (Err kind, path) = (Err kind, path)

  closes_on : (b : Bool) (next : A → Tree B) (d : Result A FailureKind × Trail) (e : Result B FailureKind × Trail) (path : Trail) → e ≡ onward next d
      → cond b e (Err NotDeterministic, path) ≡ onward next (cond b d (Err NotDeterministic, path))
  closes_on true next d e path h = h
  closes_on false next d e path h = refl

  asks_on : (next : A → Tree B) (branches : Choice → Tree A) (answer : Answer)
      → ((choice : Choice) (after : Trail) → drive s adds (branches choice >>= next) after ≡ onward next (drive s adds (branches choice) after))
      → drive_on (λ choice after. drive s adds (branches choice >>= next) after) answer ≡ onward next (drive_on (λ choice after. drive s adds (branches choice) after) answer)
  asks_on next branches (Ok choice, after) ih = ih choice after
  asks_on next branches (Err kind, after) ih = refl

  pub drive_bind : (t : Tree A) (next : A → Tree B) (path : Trail) → drive s adds (t >>= next) path ≡ onward next (drive s adds t path)
  drive_bind (Gives a) next path = refl
  drive_bind (Fails kind) next path = refl
  drive_bind (Closes rest) next path = closes_on (is_used_up path) next (drive s adds rest path) (drive s adds (rest >>= next) path) path (drive_bind rest next path)
  drive_bind (Asks question branches) next path =
      asks_on next branches (branch s (backtrack s adds path question) question) (λ choice after. drive_bind (branches choice) next after)

  pub drive_then : (t : Tree A) (next : A → Tree B) (path after : Trail) (a : A) → drive s adds t path ≡ (Ok a, after) → drive s adds (t >>= next) path ≡ drive s adds (next a) after
  drive_then t next path after a e = drive_bind t next path ∙ ap (onward next) e

  pub drive_fails : (t : Tree A) (next : A → Tree B) (path after : Trail) (kind : FailureKind) → drive s adds t path ≡ (Err kind, after) → drive s adds (t >>= next) path ≡ (Err kind, after)
  drive_fails t next path after kind e = drive_bind t next path ∙ ap (onward next) e
