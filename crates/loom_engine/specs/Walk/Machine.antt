-- What a walk knows of the runs that it explores: which node a run meets after the choices that it has made.
use Rattle.std.specs.Prelude.{ℕ, zero, suc, Bool, true, false, List, [], ◌∷◌, ◌++◌, Option, Some, None}
use Rattle.loom_objects.specs.declared.choice.Choice.{Choice}
use Rattle.loom_objects.specs.declared.choice.Choice.TheVariants.{Thread, Load, Spurious}
use Rattle.loom_objects.specs.Tree.Question.{Made}

-- node: the node that a run meets after these choices, or None where it is over.
-- every: whether each option of that node is to be tried: at a load or a spurious wake-up always; at a schedule where
-- the search isn't reduced and the node explores and its preemption count is below the bound, or there is no bound.
-- marks r k o: the run r, which is over, marks the option o at its node k.
-- fails: whether the run ends in a failure.
pub record Machine : Type 0 where
  pub limit : ℕ
  pub reduce : Bool
  pub node : List Choice → Option Made
  pub every : List Choice → Bool
  pub marks : List Choice → ℕ → Choice → Bool
  pub fails : List Choice → Bool

abbrev pub is_thread : Choice → Bool
is_thread (Thread t) = true
is_thread (Load slot) = false
is_thread (Spurious yes_or_no) = false

-- c, and the default at each node after it, as far as the fuel goes
unfoldable pub extend : Machine → ℕ → List Choice → List Choice
extend m zero c = c
extend m (suc fuel) c = elim (m.node c) [ None ↦ c | Some n ↦ extend m fuel (c ++ n.default ∷ []) ]

-- the run that makes these choices and then takes defaults
unfoldable pub run : Machine → List Choice → List Choice
run m c = extend m m.limit c
