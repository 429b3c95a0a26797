-- What a check by several workers promises. A list of parts that has come from the beginning of a search, with the runs that were made
-- before, comes by further runs to another list (`HasGoneOn`). The visitors of the parts were given these runs, and were joined
-- (`AreJoined`). Where no part is left the runs made are all that are reachable, each once (`IsComplete`), in whatever order.
use Rattle.std.specs.Prelude.{ℕ, ◌≡◌, ◌<◌, ◌≤◌, List, [], ◌++◌, Some, Ok, Err, length}
use Rattle.std.specs.declared.time.Duration.{Duration}
use Rattle.loom_views.specs.declared.rt.failure.FailureKind.{FailureKind}
use Rattle.loom_objects.specs.declared.choice.Choice.{Choice}
use Rattle.loom_objects.specs.Tree.Tree.{Tree}
use Rattle.loom_engine.specs.Walk.Runs.{Reachable}
use Rattle.loom_engine.specs.Walk.Lists.{Member}
use Rattle.loom_engine.specs.Trees.Outcomes.{outcome, AreRuns, choices_made}
use Rattle.loom_engine.specs.Parts.Keeping.{IsAt, HasMadeAll}
use Rattle.loom_engine.specs.declared.rt.parts.Parts.{Parts}
use Rattle.loom.specs.declared.model.builder.Builder.{Builder}
use Rattle.loom.specs.declared.model.Limit.TheVariants.{Permutations, Duration as Lasting}
use Rattle.loom.specs.declared.runner.parallel.Found.{Found}
use Rattle.loom.specs.declared.runner.parallel.Found.TheVariants.{Complete, Stopped, Failed}
use Rattle.loom.specs.Model.Check.{HasLasted}
use Rattle.loom.specs.Model.Fresh.{machine}
use Rattle.loom.specs.Model.Parts.{GivenBack}
use Rattle.loom.specs.Model.Settings.{most_runs, search_of}

-- ---- visitors

-- Visitors were joined, one after another. Each was new, and then was given some runs. All of these are in one list, the newest first.
pub data AreJoined {G V D : Type 0} (takes : V → List Choice → D → V → Type 0) (is_new : V → Type 0) (joins : G → V → G → Type 0) (old : G) : List (List Choice × D) → G → Type 0 where
  none : AreJoined takes is_new joins old [] old
  one_more : (runs more : List (List Choice × D)) (before after : G) (first last : V) → AreJoined takes is_new joins old runs before → is_new first → GivenBack takes first more last
      → joins before last after → AreJoined takes is_new joins old (more ++ runs) after

-- ---- runs

module _ {D : Type 0} (b : Builder) (tree : Tree D) where
  -- After these runs, a run with these choices ends in that failure: it is reachable, wasn't made, and its choices lead to the
  -- failure again.
  pub record FailsSo (made : List (List Choice)) (failure : FailureKind) (failing : List Choice) : Type 0 where
    pub reachable : Reachable (machine (search_of b) tree) failing
    pub unmade : Member failing made → ⊥
    pub fails : outcome (search_of b).max_branches tree failing ≡ Some (Err failure)

module _ {G V D : Type 0} (takes : V → List Choice → D → V → Type 0) (is_new : V → Type 0) (joins : G → V → G → Type 0) (b : Builder) (tree : Tree D) (made : List (List Choice)) (old later : G)
    (parts : Parts) where
  -- After the runs that had been made so many more were made, which the joined visitors were given, and the search has reached these parts.
  pub record HasGoneOn (count : ℕ) : Type 0 where
    pub runs : List (List Choice × D)
    pub joined : AreJoined takes is_new joins old runs later
    pub counted : length runs ≡ count
    pub are_runs : AreRuns (search_of b).max_branches tree runs
    pub comes : IsAt (machine (search_of b) tree) (choices_made runs ++ made) parts

  -- With those before, these are all runs that are reachable, each once. Where none had been made before no reachable run fails.
  pub record IsComplete (count : ℕ) : Type 0 where
    pub gone : HasGoneOn count
    pub all : HasMadeAll (machine (search_of b) tree) (choices_made gone.runs ++ made)
    pub none_fails : made ≡ [] → (x : List Choice) → Reachable (machine (search_of b) tree) x → (value : D) × (outcome (search_of b).max_branches tree x ≡ Some (Ok value))

  -- then a run of a part that is left has failed
  pub record HasFailed (count : ℕ) (failure : FailureKind) (failing : List Choice) : Type 0 where
    pub gone : HasGoneOn count
    pub so : FailsSo b tree (choices_made gone.runs ++ made) failure failing

  abbrev pub Claims : Found → Type 0
  Claims (Complete count) = IsComplete count
  Claims (Stopped count limit) = HasGoneOn count
  Claims (Failed count failure choices) = HasFailed count failure.kind choices.items

-- No more runs are counted than there may be, and a limit stops a check only where it is reached.
abbrev pub StopsBy : (Duration → Type 0) → Builder → Found → Type 0
StopsBy answered b (Complete count) = count ≤ most_runs b
StopsBy answered b (Stopped count Permutations) = count ≡ most_runs b
StopsBy answered b (Stopped count Lasting) = (count < most_runs b) × HasLasted answered b.max_duration
StopsBy answered b (Failed count failure choices) = count ≤ most_runs b

-- What was found from one list of parts on, up to another: of whatever runs were made before the first one.
abbrev pub Finds : {G V D : Type 0} → (V → List Choice → D → V → Type 0) → (V → Type 0) → (G → V → G → Type 0) → Builder → Tree D → (Duration → Type 0) → Parts → Parts → G → G → Found → Type 0
Finds takes is_new joins b tree answered before after old later found =
    StopsBy answered b found × ((made : List (List Choice)) → IsAt (machine (search_of b) tree) made before → Claims takes is_new joins b tree made old later after found)
