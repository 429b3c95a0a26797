-- What an operation makes of a run whose choices are drawn.
use Rattle.std.specs.Prelude.{◌≡◌, List, Option, Some, None, Result, Ok, Err, ⊤}
use Rattle.loom_objects.specs.declared.choice.Choice.{Choice}
use Rattle.loom_objects.specs.declared.failure.Stop.{Stop}
use Rattle.loom_objects.specs.declared.operation.Request.{Request}
use Rattle.loom_objects.specs.declared.operation.Turn.{Turn}
use Rattle.loom_objects.specs.declared.operation.Turn.TheVariants.{Reply, Start, Ended}
use Rattle.loom_objects.specs.declared.rt.run.Passed.{Passed}
use Rattle.loom_objects.specs.declared.rt.run.Passed.TheVariants as passed
use Rattle.loom_objects.specs.Tree.Tree.{Tree}
use Rattle.loom_engine.specs.declared.rt.execution.Progress.{Progress}
use Rattle.loom_engine.specs.Execution.{ExecutionState, Along, over_after}
use Rattle.loom_engine.specs.Path.Drawn.{led_by}
use Rattle.loom_engine.specs.Path.Route.{Route, chosen}
use Rattle.loom_engine.specs.Runs.Course.{Course}
use Rattle.loom_engine.specs.Runs.Machine.{submit}
use Rattle.loom_engine.specs.Walk.Lists.{Begins}

module _ {D : Type 0} where
  -- the choices that may be given at the beginning: while the run goes on those that it has made and any others, and once it is over
  -- just those that it has made
  abbrev pub Leads : Result (Turn D) Stop → Route → List Choice → Type 0
  Leads (Ok (Reply thread answer)) new given = Begins (chosen new) given
  Leads (Ok (Start thread)) new given = Begins (chosen new) given
  Leads (Ok (Ended value)) new given = given ≡ chosen new
  Leads (Err stop) new given = given ≡ chosen new

  abbrev pub LeadsOn : Result (Passed D) Stop → Route → List Choice → Type 0
  LeadsOn (Ok (passed.Turn turn)) new given = Leads (Ok turn) new given
  LeadsOn (Ok passed.AtBranch) new given = Begins (chosen new) given
  LeadsOn (Err stop) new given = given ≡ chosen new

  -- what the code did by choices that were drawn is what the rule's tree does along the path that was given them
  abbrev pub AlongDrawn : {A : Type 0} → (Result A Stop → Route → List Choice → Type 0) → (Course D → Tree (A × Course D)) → Progress D → Route → Result A Stop → Progress D → Route → Type 0
  AlongDrawn leads rule old path result new after = (given : List Choice) → leads result after given → Along rule old (led_by given path) result new (led_by given after)

  abbrev pub SubmitsDrawnAt : Option Stop → ExecutionState D → Request D ⊤ → Route → Result (Turn D) Stop → ExecutionState D → Route → Type 0
  SubmitsDrawnAt None old op path answer new after = AlongDrawn Leads (submit op) old.run path answer new.run after × (new.over ≡ over_after answer)
  SubmitsDrawnAt (Some stop) old op path answer new after = (answer ≡ Err stop) × (new ≡ old) × (after ≡ path)

  -- An operation that the active thread hands over, up to the next turn. Once the run is over it is the same answer again, and nothing
  -- changes.
  abbrev pub SubmitsDrawn : ExecutionState D → Request D ⊤ → Route → Result (Turn D) Stop → ExecutionState D → Route → Type 0
  SubmitsDrawn old op path answer new after = SubmitsDrawnAt old.over old op path answer new after
