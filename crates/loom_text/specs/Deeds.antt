-- Statements without their lines, wherever their parts lie.
use Rattle.std.specs.Prelude.{ℕ, List, [], ◌∷◌, Option}
use Rattle.std.specs.Option.{option_map}
use Rattle.std.specs.declared.sync.atomic.Ordering.{Ordering}
use Rattle.loom_text.specs.declared.test.Action.{Action, Row_of-Statement, end_of-Statement, more_of-Statement}
use Rattle.loom_text.specs.declared.test.Action.TheVariants as actions
use Rattle.loom_text.specs.declared.test.Statement.{Statement}
use Rattle.loom_text.specs.Expressions.{Phrase, phrase}

mutual
  pub data Deed : Type 0 where
    Declared : ℕ → Option Phrase → Deed
    Assigned : ℕ → Phrase → Deed
    Written : ℕ → Phrase → Deed
    Stored : ℕ → Phrase → Ordering → Deed
    Evaluated : Phrase → Deed
    Fenced : Ordering → Deed
    Chosen : Phrase → Deeds → Deeds → Deed
    Repeated : Phrase → Deeds → Deed
    RepeatedLate : Deeds → Phrase → Deed
    Held : Deeds → Deed
    Locked : ℕ → Deed
    Unlocked : ℕ → Deed
    Waited : ℕ → ℕ → Deed
    Signalled : ℕ → Deed
    Broadcasted : ℕ → Deed
    Yielded : Deed
    Asserted : Phrase → Deed

  -- none, or some and one more behind them
  pub data Deeds : Type 0 where
    Nothing : Deeds
    Then : Deeds → Deed → Deeds

abbrev mutual
  pub deed : Action → Deed
  deed (actions.Declare register value) = Declared register (option_map phrase value)
  deed (actions.Assign register value) = Assigned register (phrase value)
  deed (actions.Write location value) = Written location (phrase value)
  deed (actions.Store location value order) = Stored location (phrase value) order
  deed (actions.Evaluate expression) = Evaluated (phrase expression)
  deed (actions.Fence order) = Fenced order
  deed (actions.If' condition shape first shape' otherwise) = Chosen (phrase condition) (deeds_in Nothing first) (deeds_in Nothing otherwise)
  deed (actions.While' condition shape body) = Repeated (phrase condition) (deeds_in Nothing body)
  deed (actions.DoWhile' shape body condition) = RepeatedLate (deeds_in Nothing body) (phrase condition)
  deed (actions.Block' shape body) = Held (deeds_in Nothing body)
  deed (actions.Lock mutex) = Locked mutex
  deed (actions.Unlock mutex) = Unlocked mutex
  deed (actions.Wait condvar mutex) = Waited condvar mutex
  deed (actions.Signal condvar) = Signalled condvar
  deed (actions.Broadcast condvar) = Broadcasted condvar
  deed actions.Yield = Yielded
  deed (actions.Assert expression) = Asserted (phrase expression)

  pub deeds_in : {m : _} → Deeds → Row_of-Statement m → Deeds
  deeds_in done end_of-Statement = done
  deeds_in done (more_of-Statement line action rest) = deeds_in (Then done (deed action)) rest

-- these statements behind others
abbrev pub deeds_behind : Deeds → List Statement → Deeds
deeds_behind done [] = done
deeds_behind done (statement ∷ statements) = deeds_behind (Then done (deed statement.action)) statements

abbrev pub deeds : List Statement → Deeds
deeds = deeds_behind Nothing
