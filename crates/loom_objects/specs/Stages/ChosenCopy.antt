-- When the chosen thread gets a copy of data, for which memory may be refused: it takes a read-write lock to read.
use Rattle.std.specs.Prelude.{ℕ, ◌≡◌, Bool, false, Option, Some, None, Result, Ok}
use Rattle.loom_views.specs.Views.{Points, ShowsViews}
use Rattle.loom_views.specs.declared.rt.failure.FailureKind.{FailureKind}
use Rattle.loom_objects.specs.declared.operation.Reply.TheVariants.{ReadLocked}
use Rattle.loom_objects.specs.declared.operation.Turn.TheVariants as turn
use Rattle.loom_objects.specs.declared.rt.run.Passed.{Passed}
use Rattle.loom_objects.specs.declared.rt.run.Passed.TheVariants as passed
use Rattle.loom_objects.specs.declared.rt.run.Resumed.{Resumed}
use Rattle.loom_objects.specs.declared.rt.run.Resumed.TheVariants as resumed
use Rattle.loom_objects.specs.declared.rt.thread.Task.{Task}
use Rattle.loom_objects.specs.declared.rt.thread.Task.TheVariants.{Claim}
use Rattle.loom_objects.specs.declared.rt.thread.Thread.{Thread}
use Rattle.loom_objects.specs.Rules.RwLock.{is_reading}
use Rattle.loom_objects.specs.Scene.Stage.{Stage, world_of}
use Rattle.loom_objects.specs.Tree.Tree.{Tree, Gives}
use Rattle.loom_objects.specs.World.{World}
use Rattle.loom_objects.specs.Stages.LockCopy.{answer_of}

module _ {D : Type 0} where
  -- from each state that the scene shows, the rule answers that a reader gets a copy of a lock's data
  abbrev pub TellsCopy : (World D → Result (Resumed D × World D) FailureKind) → Stage D → Type 0
  TellsCopy rule old =
      (p : Points) → (left : ℕ) → ShowsViews p old.views
      → (reader n : ℕ) × (copy : D) × (answer_of (rule (world_of p left old)) ≡ Ok (resumed.Passed (passed.Turn (turn.Reply reader (ReadLocked n copy)))))

  -- the tree ends with a reader who gets a copy of a lock's data
  abbrev pub GivesCopy : Tree (Passed D × World D) → Type 0
  GivesCopy tree = (reader n : ℕ) × (copy : D) × (after : World D) × (tree ≡ Gives (passed.Turn (turn.Reply reader (ReadLocked n copy)), after))

  -- what is pending reads a lock's data
  abbrev pub reads : Task D → Bool
  reads (Claim claim n) = is_reading claim
  reads _ = false

  -- what a thread has pending, if there is one, reads a lock's data
  abbrev pub reads_at : Option (Thread D) → Bool
  reads_at None = false
  reads_at (Some thread) = reads thread.task
