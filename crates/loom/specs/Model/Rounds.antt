-- How a round of a check goes.
use Rattle.std.specs.Prelude.{◌≡◌, Bool, true, false, List, Result, Ok, Err}
use Rattle.loom_objects.specs.declared.choice.Choice.{Choice}
use Rattle.loom_objects.specs.declared.failure.Failure.{Failure}
use Rattle.loom_engine.specs.Path.Route.{Route, at_rest, chosen, Steps}
use Rattle.loom.specs.declared.model.rounds.Round.{Round}
use Rattle.loom.specs.declared.model.rounds.Round.TheVariants.{Next, Last, Failed}

module _ {V D : Type 0} (comes : Route → Result D Failure → Route → Type 0) (takes : V → List Choice → D → V → Type 0) (old : Route) (receiver : V) where
  -- the run along the path ended with a value, which the receiver was given, and then the path stepped to the next, or to none
  pub record HasEnded (on : Bool) (new : Route) (later : V) : Type 0 where
    pub value : D
    pub after : Route
    pub came : comes old (Ok value) after
    pub took : takes receiver (chosen after) value later
    pub steps : Steps after.nodes on new.nodes
    pub rests : new ≡ at_rest old.search old.explores new.nodes

  -- how a round went
  abbrev pub ComesTo : Round → Route → V → Type 0
  ComesTo Next new later = HasEnded true new later
  ComesTo Last new later = HasEnded false new later
  ComesTo (Failed failure choices) new later = (after : Route) × comes old (Err failure) after × (choices.items ≡ chosen after) × (later ≡ receiver)
