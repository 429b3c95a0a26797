-- What one operation that is handed over may lead to.
use Rattle.std.proofs.Common.{◌≡◌, ◌≢◌, Bool, true, false, Option, Some, None, subst}
use Rattle.std.specs.Prelude.{⊤}
use Rattle.loom_views.specs.declared.rt.failure.FailureKind.{FailureKind}
use Rattle.loom_views.specs.declared.rt.failure.FailureKind.TheVariants.{NotDeterministic}
use Rattle.loom_objects.specs.declared.choice.Choice.{Choice}
use Rattle.loom_objects.specs.declared.choice.Choice.TheVariants.{Thread}
use Rattle.loom_objects.specs.declared.operation.Turn.{Turn}
use Rattle.loom_objects.specs.declared.operation.Turn.TheVariants.{Reply, Start, Ended}
use Rattle.loom_objects.specs.declared.rt.run.Passed.{Passed}
use Rattle.loom_objects.specs.declared.rt.run.Passed.TheVariants as passed
use Rattle.loom_objects.specs.Tree.Question.{Question, Among, made_of}
use Rattle.loom_objects.specs.Tree.Sound.{IsSound}
use Rattle.loom_objects.specs.Tree.Tree.{Tree, Gives, Fails, Closes, Asks, ◌>>=◌, check, found}
use Rattle.loom_engine.specs.Trees.Sound.{IsClosing, IsQuiet, IsFair, EndsUnchosen}
use Rattle.loom_engine.proofs.Trees.Machines.{sound_default}
use Rattle.loom_engine.specs.Runs.Sound.{IsRunTree}

-- It settles without a choice: it gives such a value, or it fails, but not because a path does not meet it.
pub data Settles {A : Type 0} (P : A → Type 0) : Tree A → Type 0 where
  settles_at : (value : A) → P value → Settles P (Gives value)
  fails_by_itself : (kind : FailureKind) → kind ≢ NotDeterministic → Settles P (Fails kind)

abbrev pub Anything : {A : Type 0} → A → Type 0
Anything value = Unit {0}

module _ {A B : Type 0} {P : B → Type 0} where
  pub found_settles : (o : Option A) (kind : FailureKind) (next : A → Tree B) → kind ≢ NotDeterministic → ((a : A) → Settles P (next a)) → Settles P (found o kind >>= next)
  found_settles None kind next fair h = fails_by_itself kind fair
  found_settles (Some a) kind next fair h = h a

  pub then_settles : {Q : A → Type 0} (tree : Tree A) (next : A → Tree B) → Settles Q tree → ((a : A) → Q a → Settles P (next a)) → Settles P (tree >>= next)
  then_settles tree next (settles_at a q) h = h a q
  then_settles tree next (fails_by_itself kind fair) h = fails_by_itself kind fair

pub check_settles : {B : Type 0} {P : B → Type 0} (passes : Bool) (kind : FailureKind) (next : ⊤ → Tree B) → kind ≢ NotDeterministic → Settles P (next tt) → Settles P (check passes kind >>= next)
check_settles true kind next fair h = h
check_settles false kind next fair h = fails_by_itself kind fair

-- whatever is chosen, it ends a run only where the run is over
abbrev pub StaysOpen : {A : Type 0} → (A → Type 0) → Tree A → Type 0
StaysOpen Goes (Gives value) = Goes value
StaysOpen Goes (Fails kind) = Unit {0}
StaysOpen Goes (Closes rest) = Unit {0}
StaysOpen Goes (Asks question branches) = (choice : Choice) → StaysOpen Goes (branches choice)

-- no thread goes on there: the run is over, or fails
abbrev pub IsShut : {A : Type 0} → Tree A → Type 0
IsShut (Gives value) = ⊥
IsShut (Fails kind) = Unit {0}
IsShut (Closes rest) = Unit {0}
IsShut (Asks question branches) = ⊥

pub shut_then : {A B : Type 0} (tree : Tree A) (next : A → Tree B) → IsShut tree → IsShut (tree >>= next)
shut_then (Gives value) next h = absurd h
shut_then (Fails kind) next h = tt
shut_then (Closes rest) next h = tt
shut_then (Asks question branches) next h = absurd h

-- An event: it ends a run only where the run is over, and then asks nothing. Its questions are sound. By options it meets no
-- failure that is a path's. Without a default no thread goes on.
pub data EventOf {A : Type 0} (Goes Over : A → Type 0) : Tree A → Type 0 where
  goes : (value : A) → Goes value → EventOf Goes Over (Gives value)
  fails : (kind : FailureKind) → kind ≢ NotDeterministic → EventOf Goes Over (Fails kind)
  closes : (rest : Tree A) → Settles Over rest → EventOf Goes Over (Closes rest)
  asks : (question : Question) (branches : Choice → Tree A) → IsSound question
      → ((choice : Choice) → Among choice (made_of question).options → EventOf Goes Over (branches choice)) → ((choice : Choice) → StaysOpen Goes (branches choice))
      → ((made_of question).default ≡ Thread None → IsShut (branches (Thread None))) → EventOf Goes Over (Asks question branches)

module _ {A : Type 0} {Goes Over : A → Type 0} where
  pub going_event : (tree : Tree A) → Settles Goes tree → EventOf Goes Over tree
  going_event tree (settles_at value h) = goes value h
  going_event tree (fails_by_itself kind fair) = fails kind fair

  pub event_open : (tree : Tree A) → EventOf Goes Over tree → StaysOpen Goes tree
  event_open tree (goes value h) = h
  event_open tree (fails kind fair) = tt
  event_open tree (closes rest h) = tt
  event_open tree (asks question branches sound options opens shut) = opens

  pub then_event : {B : Type 0} {Q : B → Type 0} (tree : Tree B) (next : B → Tree A) → Settles Q tree → ((b : B) → Q b → EventOf Goes Over (next b)) → EventOf Goes Over (tree >>= next)
  then_event tree next (settles_at b q) h = h b q
  then_event tree next (fails_by_itself kind fair) h = fails kind fair

  pub check_event : (passes : Bool) (kind : FailureKind) (next : ⊤ → Tree A) → kind ≢ NotDeterministic → EventOf Goes Over (next tt) → EventOf Goes Over (check passes kind >>= next)
  check_event true kind next fair h = h
  check_event false kind next fair h = fails kind fair

-- an event, and another from what it gives
module _ {A B : Type 0} {Goes Over : A → Type 0} {Goes' Over' : B → Type 0} (next : A → Tree B) (onward : (a : A) → Goes a → EventOf Goes' Over' (next a)) (rests : (a : A) → Over a → Settles Over' (next a)) where
  stays_open : (tree : Tree A) → StaysOpen Goes tree → StaysOpen Goes' (tree >>= next)
  stays_open (Gives a) opens = event_open (next a) (onward a opens)
  stays_open (Fails kind) opens = tt
  stays_open (Closes rest) opens = tt
  stays_open (Asks question branches) opens = λ choice. stays_open (branches choice) (opens choice)

  pub event_after : (tree : Tree A) → EventOf Goes Over tree → EventOf Goes' Over' (tree >>= next)
  event_after tree (goes a h) = onward a h
  event_after tree (fails kind fair) = fails kind fair
  event_after tree (closes rest h) = closes (rest >>= next) (then_settles rest next h rests)
  event_after tree (asks question branches sound options opens shut) =
      asks question _ sound (λ choice a. event_after (branches choice) (options choice a)) (λ choice. stays_open (branches choice) (opens choice))
      (λ none. shut_then (branches (Thread None)) next (shut none))

module _ {D : Type 0} where
  -- with this turn a thread goes on
  abbrev pub IsOn : Turn D → Type 0
  IsOn (Reply thread reply) = Unit {0}
  IsOn (Start thread) = Unit {0}
  IsOn (Ended value) = ⊥

  -- with this turn the run is over
  abbrev pub IsLast : Turn D → Type 0
  IsLast (Reply thread reply) = ⊥
  IsLast (Start thread) = ⊥
  IsLast (Ended value) = Unit {0}

  abbrev pub PassesOn : Passed D → Type 0
  PassesOn (passed.Turn turn) = IsOn turn
  PassesOn passed.AtBranch = Unit {0}

  abbrev pub PassesLast : Passed D → Type 0
  PassesLast (passed.Turn turn) = IsLast turn
  PassesLast passed.AtBranch = ⊥

-- of a turn, and the state beside it, whatever that is
module _ {D W : Type 0} where
  -- a thread goes on
  abbrev pub IsGoing : Turn D × W → Type 0
  IsGoing turned = IsOn turned.0

  -- the run is over
  abbrev pub IsOver : Turn D × W → Type 0
  IsOver turned = IsLast turned.0

  abbrev pub IsOpen : Tree (Turn D × W) → Type 0
  IsOpen tree = StaysOpen IsGoing tree

  -- an event up to a turn
  abbrev pub IsEvent : Tree (Turn D × W) → Type 0
  IsEvent tree = EventOf IsGoing IsOver tree

  -- a thread goes on, or one reaches another branch point
  abbrev pub GoesOn : Passed D × W → Type 0
  GoesOn after = PassesOn after.0

  abbrev pub HasEnded : Passed D × W → Type 0
  HasEnded after = PassesLast after.0

  -- an event up to a turn or another branch point
  abbrev pub IsPass : Tree (Passed D × W) → Type 0
  IsPass tree = EventOf GoesOn HasEnded tree

  abbrev pub turned : Turn D × W → Tree (Passed D × W)
  turned (turn, w) = Gives (passed.Turn turn, w)

  pub turned_pass : (tree : Tree (Turn D × W)) → IsEvent tree → IsPass (tree >>= turned)
  turned_pass tree event = event_after turned (λ (turn, w) h. goes _ h) (λ (turn, w) h. settles_at _ h) tree event

-- ---- what comes after an event

pub failing_run : {R : Type 0} (kind : FailureKind) → kind ≢ NotDeterministic → IsRunTree {A = R} (Fails kind)
failing_run kind fair = record { sound = tt; closing = tt; fair = fair }

pub found_run : {A R : Type 0} (o : Option A) (kind : FailureKind) (next : A → Tree R) → kind ≢ NotDeterministic → ((a : A) → IsRunTree (next a)) → IsRunTree (found o kind >>= next)
found_run None kind next fair h = failing_run kind fair
found_run (Some a) kind next fair h = h a

module _ {D R W : Type 0} (next : Turn D × W → Tree R) where
  -- where the run is over it asks nothing more, and fails no more because of a path
  abbrev pub RestsAfter : Type 0
  RestsAfter = (turned : Turn D × W) → IsOver turned → IsQuiet (next turned) × IsFair (next turned)

  over_then : (tree : Tree (Turn D × W)) → Settles IsOver tree → RestsAfter → IsQuiet (tree >>= next) × IsFair (tree >>= next)
  over_then tree (settles_at turned h) rests = rests turned h
  over_then tree (fails_by_itself kind fair) rests = (tt, fair)

  open_then : (tree : Tree (Turn D × W)) → IsOpen tree → ((turned : Turn D × W) → IsGoing turned → IsClosing (next turned)) → IsClosing (tree >>= next)
  open_then (Gives turned) opens goes_on = goes_on turned opens
  open_then (Fails kind) opens goes_on = tt
  open_then (Closes rest) opens goes_on = tt
  open_then (Asks question branches) opens goes_on = λ choice. open_then (branches choice) (opens choice) goes_on

  pub event_then : (tree : Tree (Turn D × W)) → IsEvent tree → ((turned : Turn D × W) → IsGoing turned → IsRunTree (next turned)) → RestsAfter → IsRunTree (tree >>= next)
  event_then tree (goes turned h) goes_on rests = goes_on turned h
  event_then tree (fails kind fair) goes_on rests = failing_run kind fair
  event_then tree (closes rest h) goes_on rests =
      let r : IsQuiet (rest >>= next) × IsFair (rest >>= next) = over_then rest h rests in
      record { sound = r.0; closing = tt; fair = r.1 }
  event_then tree (asks question branches sound options opens shut) goes_on rests = record {
    sound = (sound, λ choice a. (event_then (branches choice) (options choice a) goes_on rests).sound);
    closing = λ choice. open_then (branches choice) (opens choice) (λ turned h. (goes_on turned h).closing);
    fair = λ choice a. (event_then (branches choice) (options choice a) goes_on rests).fair;
  }

  quiet_then : (tree : Tree (Turn D × W)) → IsEvent tree → IsShut tree → RestsAfter → IsQuiet (tree >>= next)
  quiet_then tree (goes turned h) shut rests = absurd shut
  quiet_then tree (fails kind fair) shut rests = tt
  quiet_then tree (closes rest h) shut rests = (over_then rest h rests).0
  quiet_then tree (asks question branches sound options opens only) shut rests = absurd shut

  pub event_unchosen : (tree : Tree (Turn D × W)) → IsEvent tree → ((turned : Turn D × W) → IsGoing turned → EndsUnchosen (next turned)) → RestsAfter → EndsUnchosen (tree >>= next)
  event_unchosen tree (goes turned h) goes_on rests = goes_on turned h
  event_unchosen tree (fails kind fair) goes_on rests = tt
  event_unchosen tree (closes rest h) goes_on rests = tt
  event_unchosen tree (asks question branches sound options opens shut) goes_on rests = (
    λ none. quiet_then (branches (Thread None)) (options (Thread None) (subst (λ o. Among o (made_of question).options) none (sound_default question sound))) (shut none) rests,
    λ choice a. event_unchosen (branches choice) (options choice a) goes_on rests,
  )
