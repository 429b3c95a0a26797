-- The steps of the machine, as trees: where an access reads, which store it reads is asked.
use Rattle.std.specs.Prelude.{ℕ, Bool, List, [], ◌∷◌, ⊤}
use Rattle.loom_views.specs.declared.rt.failure.FailureKind.TheVariants.{Misuse, NotDeterministic}
use Rattle.loom_objects.specs.declared.choice.Choice.{Choice}
use Rattle.loom_objects.specs.declared.choice.Choice.TheVariants as choice
use Rattle.loom_objects.specs.declared.operation.Request.{Request}
use Rattle.loom_objects.specs.declared.operation.Reply.{Reply}
use Rattle.loom_objects.specs.declared.operation.Turn.{Turn}
use Rattle.loom_objects.specs.declared.operation.Turn.TheVariants as turn
use Rattle.loom_objects.specs.declared.rt.run.Entry.{Entry}
use Rattle.loom_objects.specs.declared.rt.run.Loading.{Loading}
use Rattle.loom_objects.specs.declared.rt.run.Passed.{Passed}
use Rattle.loom_objects.specs.declared.rt.run.Passed.TheVariants as passed
use Rattle.loom_objects.specs.declared.rt.run.Resumed.{Resumed}
use Rattle.loom_objects.specs.declared.rt.run.Resumed.TheVariants as resumed
use Rattle.loom_objects.specs.Rules.Atomic.{reads}
use Rattle.loom_objects.specs.Rules.Tables.{counted, chosen}
use Rattle.loom_objects.specs.Rules.Ending.{end_of}
use Rattle.loom_objects.specs.Rules.Notify.{enters_wait as entered}
use Rattle.loom_objects.specs.Tree.Question.{WhichStore}
use Rattle.loom_objects.specs.Tree.Stores.{slots}
use Rattle.loom_objects.specs.Tree.Tree.{Tree, Gives, Fails, Asks, ◌>>=◌, came}
use Rattle.loom_objects.specs.World.{World}

-- the slot that was chosen; nothing else is asked for
abbrev pub slot_of : Choice → Tree ℕ
slot_of (choice.Load slot) = Gives slot
slot_of (choice.Thread t) = Fails NotDeterministic
slot_of (choice.Spurious answer) = Fails NotDeterministic

abbrev pub asks_slot : Bool → List ℕ → Tree ℕ
asks_slot exploring [] = Fails Misuse
asks_slot exploring (lowest ∷ others) = Asks (WhichStore exploring lowest others) slot_of

-- the run asks which of the stores is read that may be; a run's atomics always have one
abbrev pub asks_store : Bool → List Bool → Tree ℕ
asks_store exploring readable = asks_slot exploring (slots readable)

module _ {D : Type 0} where
  -- what an operation does up to its branch point, or all of it, where it has none
  abbrev pub begins : Request D ⊤ → World D → Tree (Entry D × World D)
  begins todo w = came (counted todo w)

  -- once it is known whether the active thread wakes from notifier n without a notification
  abbrev pub enters_wait : Bool → ℕ → World D → Tree (⊤ × World D)
  enters_wait is_spurious n w = came (entered is_spurious n w)

  -- the active thread gets the reply
  abbrev pub told : Reply D × World D → Tree (Turn D × World D)
  told (reply, w) = Gives (turn.Reply w.active reply, w)

  -- with this turn the operation has passed
  abbrev pub turned : Turn D × World D → Tree (Passed D × World D)
  turned (turn, w) = Gives (passed.Turn turn, w)

  -- an access goes on by the slot that is read
  abbrev pub read_slot : Loading → World D → ℕ → Tree (Turn D × World D)
  read_slot load w slot = came (reads load.access w slot) >>= told

  -- an access goes on by the slot that is chosen
  abbrev pub read_by : Loading → World D → Choice → Tree (Turn D × World D)
  read_by load w choice = slot_of choice >>= read_slot load w

  -- an access that reads asks which store; all else has passed
  abbrev pub asked : Bool → Resumed D × World D → Tree (Passed D × World D)
  asked exploring (resumed.Passed passed, w) = Gives (passed, w)
  asked exploring (resumed.Load load, w) = do
    slot ← asks_store exploring load.readable
    turn ← read_slot load w slot
    turned turn

  -- thread t is chosen, and what it has pending takes effect: a thread has its turn, or this one reaches another branch point;
  -- where a store is to be chosen the search explores or doesn't
  abbrev pub resumes : Bool → ℕ → World D → Tree (Passed D × World D)
  resumes exploring t w = came (chosen t w) >>= asked exploring

  -- the run ends, with main's result
  abbrev pub ends : World D → Tree (Turn D × World D)
  ends w = came (end_of w)
