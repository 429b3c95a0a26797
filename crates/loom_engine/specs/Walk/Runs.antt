-- Which runs are to be made.
use Rattle.std.specs.Prelude.{◌≡◌, ◌≢◌, true, List, [], ◌∷◌, ◌++◌, length, Some, ◌⊎◌}
use Rattle.loom_objects.specs.declared.choice.Choice.{Choice}
use Rattle.loom_objects.specs.Tree.Question.{Made, Among}
use Rattle.loom_engine.specs.Walk.Machine.{Machine, run}

-- The run r calls for another: at a node that explores, after the choices before it, the option o in place of r's.
-- Each other option where every one is to be tried; else, in a reduced search, those that r marks there and that are
-- not the default.
pub record Alternative (m : Machine) (r before : List Choice) (o : Choice) : Type 0 where
  pub chosen : Choice
  pub after : List Choice
  pub made : Made
  pub splits : r ≡ before ++ chosen ∷ after
  pub met : m.node before ≡ Some made
  pub exploring : made.exploring ≡ true
  pub option : Among o made.options
  pub other : o ≢ chosen
  pub called : (m.every before ≡ true) ⊎ ((m.reduce ≡ true) × (m.marks r (length before) o ≡ true) × (o ≢ made.default))

-- the least set of runs that holds the default run and with each run its alternatives
pub data Reachable (m : Machine) : List Choice → Type 0 where
  by_default : Reachable m (run m [])
  by_alternative : (r before : List Choice) (o : Choice) → Reachable m r → Alternative m r before o → Reachable m (run m (before ++ o ∷ []))
