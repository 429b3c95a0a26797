-- A small tree of runs, and the rounds that a path makes of it.
use Rattle.std.specs.Prelude.{ℕ, zero, suc, ◌≡◌, true, false, List, [], ◌∷◌, Some, None}
use Rattle.loom_objects.specs.declared.choice.Choice.{Choice}
use Rattle.loom_objects.specs.declared.choice.Choice.TheVariants.{Thread, Spurious}
use Rattle.loom_engine.specs.Walk.Path.{Stored, choices, step}
use Rattle.loom_objects.specs.declared.rt.schedule.Ability.TheVariants.{Able, Unable}
use Rattle.loom_objects.specs.Tree.Question.{Question, WhichThread, WhetherSpurious}
use Rattle.loom_objects.specs.Tree.Tree.{Tree, Gives, Closes, Asks}
use Rattle.loom_engine.specs.Trees.Sound.{IsSoundTree}
use Rattle.loom_engine.specs.Trees.Meeting.{Settings, Marking}
use Rattle.loom_engine.specs.Trees.Drive.{drive, at_start}

-- the first thread asks for a spurious wake-up, the second ends
abbrev pub after_choice : Choice → Tree ℕ
after_choice (Thread (Some zero)) = Asks (WhetherSpurious true) (λ answer. Closes (Gives 1))
after_choice _ = Closes (Gives 2)

abbrev pub two_threads : Question
two_threads = WhichThread true (record { default = Some 0; abilities = Able ∷ Able ∷ Unable ∷ Unable ∷ Unable ∷ []; unordered = [] })

abbrev pub small : Tree ℕ
small = Asks two_threads after_choice

abbrev pub no_marking : Marking
no_marking passes question k o = false

abbrev pub runs_by : Settings → Tree ℕ → ℕ → List Stored → List (List Choice)
runs_by s tree zero p = []
runs_by s tree (suc k) p =
    choices (drive s no_marking tree (at_start p)).1.nodes
    ∷ elim (step (drive s no_marking tree (at_start p)).1.nodes) [ None ↦ [] | Some later ↦ runs_by s tree k later ]

-- There are sound trees, and rounds make their runs in order.
abbrev pub ExampleLaw : Type 0
ExampleLaw =
    IsSoundTree small
    × (runs_by (record { reduce = false; bound = None; max_branches = 5 }) small 9 []
    ≡ (Thread (Some 0) ∷ Spurious false ∷ []) ∷ (Thread (Some 0) ∷ Spurious true ∷ []) ∷ (Thread (Some 1) ∷ []) ∷ [])
