-- States of a body's runs: what is kept of where a run stands, so that equal states have equal futures.
use Rattle.std.specs.Prelude.{ℕ, ◌≡◌, Bool, true, false, List, [], length, Option, Result, Ok, Err, ⊤, ◌⊎◌}
use Rattle.std.specs.Option.{option_map}
use Rattle.loom_views.specs.declared.rt.failure.FailureKind.{FailureKind}
use Rattle.loom_views.specs.declared.rt.failure.FailureKind.TheVariants.{TooManySteps, TooManyVersions}
use Rattle.loom_objects.specs.declared.choice.Choice.{Choice}
use Rattle.loom_objects.specs.declared.operation.Reply.{Reply}
use Rattle.loom_objects.specs.declared.operation.Request.{Request}
use Rattle.loom_objects.specs.declared.operation.Turn.{Turn}
use Rattle.loom_objects.specs.declared.operation.Turn.TheVariants.{Ended}
use Rattle.loom_objects.specs.declared.rt.exploring.Exploring.{Exploring}
use Rattle.loom_objects.specs.Exploring.{is_on, is_switch}
use Rattle.loom_objects.specs.Rules.Ending.{all_ended, end_of}
use Rattle.loom_objects.specs.Rules.Steps.{begins, enters_wait, resumes}
use Rattle.loom_objects.specs.Rules.Uses.{use_at}
use Rattle.loom_objects.specs.Schedule.Offers.{offers}
use Rattle.loom_objects.specs.Tree.Asked.{which_thread}
use Rattle.loom_objects.specs.Tree.Question.{made_of}
use Rattle.loom_objects.specs.World.{World, opening as first_world}
use Rattle.loom_engine.specs.Runs.Body.{Meaning, runs}
use Rattle.loom_engine.specs.Trees.Meeting.{Marking}
use Rattle.loom_engine.specs.Trees.Machines.{IsMarking}
use Rattle.loom_engine.specs.Walk.Path.{Stored}
use Rattle.loom_engine.specs.Covering.World.{world_of}
use Rattle.loom_engine.specs.Covering.Sound.{OffersSame, IsSound}
use Rattle.loom_engine.specs.Covering.Covered.{Covers}
use Rattle.loom_engine.specs.Covering.Cut.{Checks}
use Rattle.loom_engine.specs.Covering.Alike.{AreAlike}
use Rattle.loom_engine.specs.Covering.Moments.{Moment, Stand, first_stand, stand_after}

-- A state: what the bodies keep, what is seen of the machine's state, whether the search explores, how many branch points more the
-- operation at hand may reach, and of how many threads there are accesses in order.
pub record State (S K : Type 0) : Type 0 where
  pub bodies : List S
  pub seen : K
  pub exploring : Exploring
  pub more : ℕ
  pub ordered : ℕ

module _ {D S K : Type 0} (look : Bool → World D → K) where
  abbrev pub state_of : Moment D S → State S K
  state_of m = record { bodies = m.bodies; seen = look (is_on m.course.exploring) m.course.world; exploring = m.course.exploring; more = m.more; ordered = length m.course.order.threads }

  -- the state at the last schedule, and the choices since then
  abbrev pub seen_in : Stand D S → Option (State S K) × List Choice
  seen_in s = (option_map state_of s.last, s.since)

  -- the state of a body's run after these choices
  abbrev pub state_after : Meaning D S → Bool → ℕ → ℕ → S → List Choice → Option (State S K) × List Choice
  state_after next explores max_threads max_steps body c = seen_in (stand_after next (first_stand next explores max_threads max_steps body) c)

-- the same is answered, and the states of the machine are alike
abbrev pub BothAlike : {A D : Type 0} → (World D → World D → Type 0) → A × World D → A × World D → Type 0
BothAlike Alike (a, w) (b, v) = (a ≡ b) × Alike w v

abbrev pub turn_of : {D : Type 0} → Result (Turn D × World D) FailureKind → Result (Turn D) FailureKind
turn_of (Ok (turn, w)) = Ok turn
turn_of (Err kind) = Err kind

-- how a run ends, but for the state after that
abbrev pub end_alone : {D : Type 0} → World D → Result (Turn D) FailureKind
end_alone w = turn_of (end_of w)

-- both runs end with the same result, or fail alike
abbrev pub EndsAlike : {D : Type 0} → (FailureKind → Bool) → Result (Turn D) FailureKind → Result (Turn D) FailureKind → Type 0
EndsAlike {D} limits (Ok a) (Ok b) = (value : D) × (a ≡ Ended value) × (b ≡ Ended value)
EndsAlike limits (Ok a) (Err kind) = limits kind ≡ true
EndsAlike limits (Err kind) (Ok b) = limits kind ≡ true
EndsAlike limits (Err kind) (Err other) = (kind ≡ other) ⊎ (limits kind ≡ true) ⊎ (limits other ≡ true)

-- What is seen of the machine's state at a schedule, where the search explores or doesn't, tells all that comes of it: each step
-- answers alike, limits aside. Between schedules states are alike in a finer sense, which tells whose turn it is, and may be another
-- one where the search explores.
pub record TellsFuture {D K : Type 0} (limits : FailureKind → Bool) (look : Bool → World D → K) (Alike : Bool → World D → World D → Type 0) : Type 0 where
  pub threads : (explores : Bool) (w v : World D) → Alike explores w v → length w.threads ≡ length v.threads
  pub active : (explores : Bool) (w v : World D) → Alike explores w v → w.active ≡ v.active
  pub looks : (explores : Bool) (w v : World D) → Alike explores w v → look explores w ≡ look explores v
  pub begins : (explores : Bool) (todo : Request D ⊤) (w v : World D) → Alike explores w v → AreAlike limits (BothAlike (Alike explores)) (begins todo w) (begins todo v)
  pub waits : (explores is_spurious : Bool) (n : ℕ) (w v : World D) → Alike explores w v → AreAlike limits (BothAlike (Alike explores)) (enters_wait is_spurious n w) (enters_wait is_spurious n v)
  pub resumes : (explores : Bool) (t : ℕ) (w v : World D) → look explores w ≡ look explores v → AreAlike limits (BothAlike (Alike explores)) (resumes explores t w) (resumes explores t v)
  pub ends : (explores : Bool) (w v : World D) → look explores w ≡ look explores v → EndsAlike limits (end_alone w) (end_alone v)
  pub all_ended : (explores : Bool) (w v : World D) → look explores w ≡ look explores v → all_ended w ≡ all_ended v
  pub uses : (explores : Bool) (w v : World D) → look explores w ≡ look explores v → (t : ℕ) → use_at w.threads t ≡ use_at v.threads t
  pub offers : (explores : Bool) (w v : World D) → look explores w ≡ look explores v → OffersSame (made_of (which_thread explores (offers w) [])) (made_of (which_thread explores (offers v) []))

-- the limits of length are among these
pub record AreLimits (limits : FailureKind → Bool) : Type 0 where
  pub steps : limits TooManySteps ≡ true
  pub versions : limits TooManyVersions ≡ true

-- the same is seen of both, where the search explores or doesn't
abbrev pub LooksSame : {D F : Type 0} → (Bool → World D → F) → Bool → World D → World D → Type 0
LooksSame between explores w v = between explores w ≡ between explores v

-- The body never switches whether the search explores, or states that are alike where it does are so where it doesn't.
abbrev pub KeepsAlike : {D S : Type 0} → Meaning D S → (Bool → World D → World D → Type 0) → Type 0
KeepsAlike {D} {S} next Alike = (state : S) (answer : Reply D)
    → ((explores to : Bool) (w v : World D) → Alike explores w v → Alike to w v) ⊎ (is_switch (next state answer).1.request ≡ false)

-- Where what is seen tells the future (at schedules by look, between them by between), equal states have equal futures, however many
-- operations the bodies may hand over, and whatever they do; they switch whether the search explores only where as much is seen then.
abbrev pub StatesLaw : Type 0 → Type 0 → Type 0 → Type 0 → Type 0
StatesLaw D S K F = (limits : FailureKind → Bool) (look : Bool → World D → K) (between : Bool → World D → F) (next : Meaning D S) (explores : Bool) (max_threads max_steps steps_too : ℕ) (body : S)
    → AreLimits limits → TellsFuture limits look (LooksSame between) → KeepsAlike next (LooksSame between)
    → ((explores : Bool) → LooksSame between explores (first_world max_threads max_steps) (first_world max_threads steps_too))
    → IsSound limits (world_of (runs next explores max_threads max_steps body)) (world_of (runs next explores max_threads steps_too body)) (state_after look next explores max_threads max_steps body)
    (state_after look next explores max_threads steps_too body)

-- So a complete check of a body's runs that are cut off at states that were noted has covered each of its runs, those of more
-- operations too: each fails by a limit, or has the result of a run that the visitor was given.
abbrev pub CoveredBodyLaw : Type 0 → Type 0 → Type 0 → Type 0 → Type 0
CoveredBodyLaw D S K F = (limits : FailureKind → Bool) (look : Bool → World D → K) (between : Bool → World D → F) (next : Meaning D S) (explores : Bool) (max_threads max_steps steps_too room : ℕ) (adds : Marking)
    (body : S) (left : List (List Stored)) (given : List (List Choice × D)) → AreLimits limits → TellsFuture limits look (LooksSame between)
    → KeepsAlike next (LooksSame between) → ((explores : Bool) → LooksSame between explores (first_world max_threads max_steps) (first_world max_threads steps_too))
    → IsMarking adds → Checks room adds (runs next explores max_threads max_steps body) (state_after look next explores max_threads max_steps body) left [] left given
    → Covers limits (world_of (runs next explores max_threads max_steps body)) (world_of (runs next explores max_threads steps_too body)) given
