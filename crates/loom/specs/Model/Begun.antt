-- How a check begins.
use Rattle.std.specs.Prelude.{◌≡◌, ℕ, Bool, List, Option}
use Rattle.loom_engine.specs.Trees.Meeting.{Settings}
use Rattle.loom_engine.specs.Path.Route.{Route, at_rest}
use Rattle.loom.specs.Model.StoredText.{ReadsAs}

-- the path rests, and is that of the text that the store gave
pub record IsBegun (s : Settings) (explores : Bool) (gives holds : Option (List ℕ) → Type 0) (path : Route) : Type 0 where
  pub rests : path ≡ at_rest s explores path.nodes
  pub text : Option (List ℕ)
  pub gave : gives text
  pub held : holds text
  pub reads : ReadsAs s explores text path.nodes
