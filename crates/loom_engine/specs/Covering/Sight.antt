-- What has to be kept of a body's state: of its points what is seen of them; whose turn it is where the search doesn't explore; and how often
-- threads have yielded, but where the search explores and the body is known never to switch that.
use Rattle.std.specs.Prelude.{ℕ, ◌≡◌, Bool, true, false, List, [], ◌⊎◌}
use Rattle.loom_views.specs.declared.rt.failure.FailureKind.{FailureKind}
use Rattle.loom_views.specs.declared.rt.failure.FailureKind.TheVariants.{TooManyVersions}
use Rattle.loom_views.specs.Sight.{Sight as SightOfPoints, seen}
use Rattle.loom_views.specs.Views.{Points}
use Rattle.loom_objects.specs.declared.choice.Choice.{Choice}
use Rattle.loom_objects.specs.Operation.Switching.{NeverSwitches}
use Rattle.loom_objects.specs.World.{World}
use Rattle.loom_engine.specs.Runs.Body.{Meaning, runs}
use Rattle.loom_engine.specs.Trees.Meeting.{Marking}
use Rattle.loom_engine.specs.Trees.Machines.{IsMarking}
use Rattle.loom_engine.specs.Walk.Path.{Stored}
use Rattle.loom_engine.specs.Covering.World.{world_of}
use Rattle.loom_engine.specs.Covering.Covered.{Covers}
use Rattle.loom_engine.specs.Covering.Cut.{Checks}
use Rattle.loom_engine.specs.Covering.Ways.{CanEnd, HaveWays}
use Rattle.loom_engine.specs.Covering.Points.{TellsMoves, Sight, sight, without_yields}
use Rattle.loom_engine.specs.Covering.Seen.{without_turn}
use Rattle.loom_engine.specs.Covering.States.{AreLimits, state_after}

-- What is seen of points, which the views that are kept of them say, tells their moves. How often a thread has raised its version isn't
-- seen, so that there may be too many versions is a limit.
abbrev pub SightMovesLaw : Type 0
SightMovesLaw = (limits : FailureKind → Bool) → limits TooManyVersions ≡ true → TellsMoves limits seen

-- what is seen of the machine's state at a schedule, of a body that is known never to switch whether the search explores, or of any
abbrev pub seen_by : {D : Type 0} → Bool → Bool → World D → Sight D (SightOfPoints ⊎ Points)
seen_by true explores w = sight seen (without_yields explores (without_turn explores w))
seen_by false explores w = sight seen (without_turn explores w)

-- it is known only where it is so
abbrev pub IsKnown : {D S : Type 0} → Bool → Meaning D S → S → Type 0
IsKnown never next body = never ≡ true → NeverSwitches next body

-- A complete check of a body whose runs are cut off where they meet a state of which the same is seen has covered each of its runs,
-- those of more operations too: each fails by a limit of length, or has the result of a run that the visitor was given.
abbrev pub SeenBodyLaw : Type 0 → Type 0 → Type 0
SeenBodyLaw D S = (never : Bool) (limits : FailureKind → Bool) (next : Meaning D S) (explores : Bool) (max_threads max_steps steps_too room : ℕ) (adds : Marking) (body : S) (left : List (List Stored)) (given : List (List Choice × D))
    → IsKnown never next body → AreLimits limits → IsMarking adds
    → Checks room adds (runs next explores max_threads max_steps body) (state_after (seen_by never) next explores max_threads max_steps body) left [] left given
    → Covers limits (world_of (runs next explores max_threads max_steps body)) (world_of (runs next explores max_threads steps_too body)) given

-- Where besides each node of its runs has a way from its state to an end, the body's runs can end, whatever number of operations its
-- threads may hand over.
abbrev pub BodyEndsLaw : Type 0 → Type 0 → Type 0
BodyEndsLaw D S = (never : Bool) (limits : FailureKind → Bool) (next : Meaning D S) (explores : Bool) (max_threads max_steps room : ℕ) (adds : Marking) (body : S) (left : List (List Stored)) (given : List (List Choice × D))
    → IsKnown never next body → AreLimits limits → IsMarking adds
    → Checks room adds (runs next explores max_threads max_steps body) (state_after (seen_by never) next explores max_threads max_steps body) left [] left given
    → HaveWays (world_of (runs next explores max_threads max_steps body)) (state_after (seen_by never) next explores max_threads max_steps body) left given
    → CanEnd limits (λ steps. world_of (runs next explores max_threads steps body))
