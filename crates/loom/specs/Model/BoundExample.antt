-- A run without a preemption that only a bound of 1 makes.
use Rattle.std.specs.Prelude.{ℕ, zero, suc, ◌≡◌, true, [], ◌∷◌, Some, Err}
use Rattle.loom_views.specs.declared.rt.failure.FailureKind.TheVariants.{Assertion}
use Rattle.loom_objects.specs.declared.choice.Choice.{Choice}
use Rattle.loom_objects.specs.declared.choice.Choice.TheVariants.{Thread}
use Rattle.loom_objects.specs.declared.rt.schedule.Ability.TheVariants.{Able, Unable}
use Rattle.loom_objects.specs.Tree.Question.{Question, WhichThread}
use Rattle.loom_objects.specs.Tree.Tree.{Tree, Gives, Fails, Closes, Asks}
use Rattle.loom_engine.specs.Trees.Example.{runs_by}
use Rattle.loom_engine.specs.Trees.Meeting.{count}
use Rattle.loom_engine.specs.Trees.Outcomes.{outcome, passed}
use Rattle.loom_engine.specs.Trees.Sound.{IsSoundTree}
use Rattle.loom.specs.Model.Within.{whole_below}

abbrev pub t : ℕ → Choice
t k = Thread (Some k)

-- main alone can go on
abbrev pub main_first : Question
main_first = WhichThread true (record { default = Some 0; abilities = Able ∷ Unable ∷ Unable ∷ Unable ∷ Unable ∷ []; unordered = [] })

-- then it waits, and each of two others can go on
abbrev pub main_waits : Question
main_waits = WhichThread true (record { default = Some 1; abilities = Unable ∷ Able ∷ Able ∷ Unable ∷ Unable ∷ []; unordered = [] })

-- where thread 1 is passed over the run fails
abbrev pub in_turn : Choice → Tree ℕ
in_turn (Thread (Some (suc zero))) = Closes (Gives 1)
in_turn _ = Fails Assertion

abbrev pub waiting : Tree ℕ
waiting = Asks main_first (λ choice. Asks main_waits in_turn)

-- The failing run leaves no thread that could have gone on. The bound 0 leaves it out, and the bound 1 doesn't.
pub record ExampleLaw : Type 0 where
  pub sound : IsSoundTree waiting
  pub fails : outcome 5 waiting (t 0 ∷ t 2 ∷ []) ≡ Some (Err Assertion)
  -- whatever came after it would count none either
  pub no_preemption : count (passed waiting (t 0 ∷ t 2 ∷ [])) ≡ 0
  pub at_0 : runs_by (whole_below 5 0) waiting 9 [] ≡ (t 0 ∷ t 1 ∷ []) ∷ []
  pub at_1 : runs_by (whole_below 5 1) waiting 9 [] ≡ (t 0 ∷ t 1 ∷ []) ∷ (t 0 ∷ t 2 ∷ []) ∷ []
