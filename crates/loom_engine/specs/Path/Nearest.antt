-- The nearest schedule that explores.
use Rattle.std.specs.Prelude.{ℕ, suc, ◌≡◌, true, List, [], ◌∷◌, map, Option, Some, None, slice_get, IsSomeAnd}
use Rattle.loom_objects.specs.declared.choice.Choice.{Choice}
use Rattle.loom_objects.specs.Tree.Question.{Made}
use Rattle.loom_engine.specs.Walk.Machine.{is_thread}
use Rattle.loom_engine.specs.Trees.Drive.{pass_of}
use Rattle.loom_engine.specs.Trees.Marks.{schedules_down, from_exploring}
use Rattle.loom_engine.specs.Path.Nodes.{stored}
use Rattle.loom_engine.specs.declared.rt.path.node.Node.{Node}

-- the nodes that were passed, with their choices
abbrev pub passes_in : List Node → List (Made × Choice)
passes_in nodes = map pass_of (stored nodes)

-- a schedule was passed at this place
abbrev pub IsScheduleAt : List (Made × Choice) → ℕ → Type 0
IsScheduleAt passes k = IsSomeAnd (slice_get passes k) (λ pass. is_thread pass.0.default ≡ true)

-- the place of the nearest schedule that explores, from this place down, with the schedules before it
abbrev pub IsNearest : List (Made × Choice) → ℕ → Option ℕ → Type 0
IsNearest passes place None = from_exploring (schedules_down 0 (suc place) passes []) ≡ []
IsNearest passes place (Some k) =
    (pass : Made × Choice) × (slice_get passes k ≡ Some pass) × (is_thread pass.0.default ≡ true)
    × (from_exploring (schedules_down 0 (suc place) passes []) ≡ (k, pass.0, pass.1) ∷ schedules_down 0 k passes [])
