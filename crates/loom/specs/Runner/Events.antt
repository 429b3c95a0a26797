-- The events of a run, and the told list of each thread: its operations, with the replies to them.
use Rattle.std.specs.Prelude.{ℕ, ◌≡◌, ◌<◌, ◌≤◌, ◌-◌, ◌+◌, ◌==◌, ◌&&◌, ◌⊎◌, ⊤, Bool, true, false, cond, List, [], ◌∷◌, ◌++◌, length, Option, Some, None, Result, Ok, Err, slice_index, slice_get}
use Rattle.loom_views.specs.declared.rt.failure.FailureKind.TheVariants.{Misuse}
use Rattle.loom_objects.specs.declared.failure.Failure.{Failure}
use Rattle.loom_objects.specs.declared.label.Label.{Label}
use Rattle.loom_objects.specs.declared.operation.Request.{Request}
use Rattle.loom_objects.specs.declared.operation.Request.TheVariants as request
use Rattle.loom_objects.specs.declared.operation.Reply.{Reply}
use Rattle.loom_objects.specs.declared.operation.Reply.TheVariants.{Spawned}
use Rattle.loom_objects.specs.declared.operation.ThreadOp.TheVariants as thread
use Rattle.loom_objects.specs.declared.operation.Turn.{Turn}
use Rattle.loom_objects.specs.declared.operation.Turn.TheVariants as turn
use Rattle.loom_objects.specs.declared.failure.Stop.{Stop as Halt}
use Rattle.loom_objects.specs.declared.failure.Stop.TheVariants as halt
use Rattle.loom.specs.declared.runner.stop.Stop.{Stop}
use Rattle.loom.specs.declared.runner.stop.Stop.TheVariants as stop
use Rattle.loom.specs.declared.runner.history.event.Event.{Event}
use Rattle.loom.specs.declared.runner.history.event.Entry.{Entry}

-- what an operation is answered after the end of a run
abbrev pub misuse : Failure
misuse = record { kind = Misuse; location = None }

abbrev pub or_else : {A : Type 0} → Option A → Option A → Option A
or_else (Some x) y = Some x
or_else None y = y

-- Why a run of so many threads has no event more: memory was refused, or the thread whose turn it is isn't there.
abbrev pub IsNotAdded : ℕ → ℕ → Stop → Type 0
IsNotAdded turn threads (stop.Failure failure) = (failure ≡ misuse) × (threads ≤ turn)
IsNotAdded turn threads stop.Memory = Unit {0}
IsNotAdded turn threads stop.Refused = ⊥

module _ {D : Type 0} where
  -- ---- what an outcome says

  -- what the machine answers
  abbrev pub answered : Result (Turn D) Failure → Result (Turn D) Halt
  answered (Ok turn) = Ok turn
  answered (Err failure) = Err (halt.Failure failure)

  -- the reply to the thread
  abbrev pub replied : ℕ → Result (Turn D) Failure → Option (Reply D)
  replied n (Ok (turn.Reply k reply)) = cond (k == n) (Some reply) None
  replied n (Ok (turn.Start k)) = None
  replied n (Ok (turn.Ended value)) = None
  replied n (Err failure) = None

  -- whose turn comes: the thread's that is replied to, or starts
  abbrev pub next_turn : Result (Turn D) Failure → Option ℕ
  next_turn (Ok (turn.Reply k reply)) = Some k
  next_turn (Ok (turn.Start k)) = Some k
  next_turn (Ok (turn.Ended value)) = None
  next_turn (Err failure) = None

  -- the thread that starts
  abbrev pub starting : Result (Turn D) Failure → Option ℕ
  starting (Ok (turn.Reply k reply)) = None
  starting (Ok (turn.Start k)) = Some k
  starting (Ok (turn.Ended value)) = None
  starting (Err failure) = None

  -- main's result, where the run has ended
  abbrev pub ended : Result (Turn D) Failure → Option D
  ended (Ok (turn.Reply k reply)) = None
  ended (Ok (turn.Start k)) = None
  ended (Ok (turn.Ended value)) = Some value
  ended (Err failure) = None

  -- why the run failed
  abbrev pub failing : Result (Turn D) Failure → Option Failure
  failing (Ok turn) = None
  failing (Err failure) = Some failure

  -- what each further operation is answered
  abbrev pub end_after : Result (Turn D) Failure → Option Failure
  end_after (Ok (turn.Reply k reply)) = None
  end_after (Ok (turn.Start k)) = None
  end_after (Ok (turn.Ended value)) = Some misuse
  end_after (Err failure) = Some failure

  abbrev pub made_in : Reply D → ℕ
  made_in (Spawned thread name notifier) = 1
  made_in _ = 0

  -- how many threads were made
  abbrev pub made_by : Result (Turn D) Failure → ℕ
  made_by (Ok (turn.Reply k reply)) = made_in reply
  made_by (Ok (turn.Start k)) = 0
  made_by (Ok (turn.Ended value)) = 0
  made_by (Err failure) = 0

  -- ---- what a history says

  abbrev pub last_event : List (Event D) → Option (Event D)
  last_event es = slice_get es (length es - 1)

  abbrev pub outcome_by : {A : Type 0} → (Result (Turn D) Failure → Option A) → Option (Event D) → Option A
  outcome_by of None = None
  outcome_by of (Some e) = of e.outcome

  abbrev pub ended_by : Option (Event D) → Option D
  ended_by event = outcome_by ended event

  abbrev pub failed_by : Option (Event D) → Option Failure
  failed_by event = outcome_by failing event

  -- whose turn it is by the last event
  abbrev pub turn_in : List (Event D) → Option ℕ
  turn_in es = outcome_by next_turn (last_event es)

  -- the thread that starts by it
  abbrev pub start_in : List (Event D) → Option ℕ
  start_in es = outcome_by starting (last_event es)

  -- the reply to the thread in it
  abbrev pub reply_in : ℕ → List (Event D) → Option (Reply D)
  reply_in n es = outcome_by (replied n) (last_event es)

  -- what a thread is answered by it: its reply, or that there is none, or memory for a copy was refused
  abbrev pub IsReplied : ℕ → List (Event D) → Result (Reply D) Stop → Type 0
  IsReplied n es (Ok reply) = reply_in n es ≡ Some reply
  IsReplied n es (Err (stop.Failure failure)) = (failure ≡ misuse) × (reply_in n es ≡ None)
  IsReplied n es (Err stop.Memory) = Unit {0}
  IsReplied n es (Err stop.Refused) = ⊥

  -- what each further operation is answered, once the run is over
  abbrev pub end_in : List (Event D) → Option Failure
  end_in es = outcome_by end_after (last_event es)

  -- how many operations the thread has handed over
  abbrev pub calls : ℕ → List (Event D) → ℕ
  calls n [] = 0
  calls n (e ∷ es) = cond (e.by == n) 1 0 + calls n es

  -- how many threads were made beside main
  abbrev pub made : List (Event D) → ℕ
  made [] = 0
  made (e ∷ es) = made_by e.outcome + made es

  -- the counts are those of the history
  abbrev pub Counted : List ℕ → List (Event D) → Type 0
  Counted counts history = (n : ℕ) → slice_index counts n ≡ calls n history

  -- there is a count for each thread, of its operations
  pub record IsCounted (counts : List ℕ) (history : List (Event D)) : Type 0 where
    pub threads : length counts ≡ 1 + made history
    pub counted : Counted counts history

  -- the history goes on by one event: what a machine did with this operation, of this label, by the thread whose turn it was, once
  -- so many choices were made
  pub record IsAdded {M : Type 0} (turn passed : M → ℕ) (happens : M → Request D ⊤ → Result (Turn D) Halt → M → Type 0) (old : M) (op : Request D ⊤) (label : Option Label) (new : M) (before after : List (Event D)) : Type 0 where
    pub event : Event D
    pub asked : event.op ≡ op
    pub labelled : event.label ≡ label
    pub active : event.by ≡ turn old
    pub choices : event.choices_before ≡ passed old
    pub happens_so : happens old op (answered event.outcome) new
    pub history : after ≡ before ++ event ∷ []

  -- where nothing was added the machine has stayed, or memory was refused in it
  abbrev pub HasStayed : {M : Type 0} → (M → Request D ⊤ → Result (Turn D) Halt → M → Type 0) → M → Request D ⊤ → M → Type 0
  HasStayed happens old op new = (new ≡ old) ⊎ happens old op (Err halt.Memory) new

  -- ---- told lists

  -- the first reply to the thread
  abbrev pub answer : ℕ → List (Event D) → Option (Reply D)
  answer n [] = None
  answer n (e ∷ es) = or_else (replied n e.outcome) (answer n es)

  -- an entry of a thread's list: each of its operations but the last one
  abbrev pub is_listed : Request D ⊤ → Bool
  is_listed (request.Thread thread.End) = false
  is_listed _ = true

  -- an operation of the thread, and an entry of its list
  abbrev pub is_own : ℕ → Event D → Bool
  is_own n e = (e.by == n) && is_listed e.op

  abbrev pub entry : Request D ⊤ → Option (Reply D) → Entry D
  entry op reply = record { op = op; reply = reply }

  -- the thread's part of a history: its operations, each with the reply that answered it
  abbrev pub part : ℕ → List (Event D) → List (Entry D)
  part n [] = []
  part n (e ∷ es) = cond (is_own n e) (entry e.op (answer n (e ∷ es)) ∷ part n es) (part n es)

-- the told list of one thread
pub record Share (D : Type 0) : Type 0 where
  pub thread : ℕ
  pub entries : List (Entry D)

abbrev pub share : {D : Type 0} → ℕ → List (Entry D) → Share D
share n es = record { thread = n; entries = es }

-- there is a list for each thread, its part of the history
pub record AreShares {D : Type 0} (told : List (Share D)) (history : List (Event D)) : Type 0 where
  pub one_each : length told ≡ 1 + made history
  pub parts : (n : ℕ) → n < 1 + made history → slice_get told n ≡ Some (share n (part n history))
