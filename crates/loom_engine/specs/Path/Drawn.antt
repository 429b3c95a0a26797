-- A run whose choices are drawn as it meets them, seen as a run along a path that was given them before.
use Rattle.std.specs.Prelude.{◌≡◌, ◌≢◌, false, List, [], length, Result, Err}
use Rattle.loom_objects.specs.declared.choice.Choice.{Choice}
use Rattle.loom_objects.specs.declared.failure.Stop.{Stop}
use Rattle.loom_objects.specs.declared.failure.Stop.TheVariants.{Memory}
use Rattle.loom_objects.specs.Tree.Question.{Question}
use Rattle.loom_engine.specs.Walk.Lists.{Begins}
use Rattle.loom_engine.specs.Path.Route.{Route, chosen, Decides}

-- the path, if it had been given these choices
abbrev pub led_by : List Choice → Route → Route
led_by given route = record route { given = given }

-- the run has passed all nodes that there are, nothing is given for those that come, and the search makes no marks
abbrev pub IsDrawn : Route → Type 0
IsDrawn route = (length route.nodes ≡ route.position) × (route.given ≡ []) × (route.search.reduce ≡ false)

-- the run has made these choices, and maybe more
abbrev pub MakesMore : Route → Route → Type 0
MakesMore old new = Begins (chosen old) (chosen new)

module _ {A : Type 0} (choice : A → Choice) where
  -- Memory aside, the path decides as it does when it was given choices that begin with those which the run has made now.
  abbrev pub Draws : Route → Question → Result A Stop → Route → Type 0
  Draws old question result new = result ≢ Err Memory → (given : List Choice) → Begins (chosen new) given → Decides choice (led_by given old) question result (led_by given new)
