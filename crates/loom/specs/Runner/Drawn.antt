-- A run of threads whose choices are drawn as it reaches them, told as a run along a path that was given them before.
use Rattle.std.specs.Prelude.{ℕ, ◌≡◌, ⊤, Bool, true, false, List, Option, Some, None, Result}
use Rattle.loom_objects.specs.declared.choice.Choice.{Choice}
use Rattle.loom_objects.specs.declared.failure.Failure.{Failure}
use Rattle.loom_objects.specs.declared.failure.Stop.{Stop as Halt}
use Rattle.loom_objects.specs.declared.label.Label.{Label}
use Rattle.loom_objects.specs.declared.operation.Request.{Request}
use Rattle.loom_objects.specs.declared.operation.Turn.{Turn}
use Rattle.loom_engine.specs.declared.rt.execution.Limits.{Limits}
use Rattle.loom_engine.specs.Drawing.{SubmitsDrawn}
use Rattle.loom_engine.specs.Path.Drawn.{IsDrawn, MakesMore, led_by}
use Rattle.loom_engine.specs.Path.Route.{Route, IsSameSearch, chosen}
use Rattle.loom_engine.specs.Walk.Lists.{Begins}
use Rattle.loom.specs.declared.runner.stop.Stop.{Stop}
use Rattle.loom.specs.declared.runner.history.event.Event.{Event}
use Rattle.loom.specs.Runner.Histories.{Adds, Handed, IsHistory, Kept, Log, Moment, Settles, Share, active_at, end_in, passed_at}

-- where a run is, and whether its choices are drawn
pub record Spot (D : Type 0) : Type 0 where
  pub moment : Moment D
  pub drawn : Bool

-- The choices that such a run might have been given before: while it goes on those that it has made and any others, and once it is over
-- just those that it has made.
abbrev pub MayLead : Option Failure → Route → List Choice → Type 0
MayLead None route given = Begins (chosen route) given
MayLead (Some failure) route given = given ≡ chosen route

module _ {D : Type 0} where
  -- whose turn it is, and how many choices were made
  abbrev pub turn_of : Spot D → ℕ
  turn_of s = active_at s.moment

  abbrev pub passed_of : Spot D → ℕ
  passed_of s = passed_at s.moment

  -- the moment, if the path had been given these choices
  abbrev pub led : List Choice → Moment D → Moment D
  led given m = record m { route = led_by given m.route }

  -- and the run, which follows its path then
  abbrev pub led_log : List Choice → Log D → Log D
  led_log given log = record log { began = led_by given log.began; now = led given log.now; drawn = false }

  -- ---- one operation

  abbrev pub HandedBy : Bool → Moment D → Request D ⊤ → Result (Turn D) Halt → Moment D → Type 0
  HandedBy false m op answer n = Handed m op answer n
  HandedBy true m op answer n = SubmitsDrawn m.state op m.route answer n.state n.route × IsSameSearch m.route n.route × MakesMore m.route n.route × IsDrawn n.route

  -- what a call of the machine says of it: choices are drawn afterwards as before
  abbrev pub HandedAt : Spot D → Request D ⊤ → Result (Turn D) Halt → Spot D → Type 0
  HandedAt s op answer t = HandedBy s.drawn s.moment op answer t.moment × (t.drawn ≡ s.drawn)

  -- the run goes on, and has passed all of its path where choices are drawn
  abbrev pub GoesOn : Spot D → Type 0
  GoesOn s = (s.moment.state.over ≡ None) × (s.drawn ≡ true → IsDrawn s.moment.route)

  -- ---- the state that threads share

  -- Where choices are drawn the history is as it is where the path was given any that might have been given.
  pub record KeptDrawn (limits : Limits) (began : Route) (history : List (Event D)) (spoiled : Option Stop) (now : Moment D) : Type 0 where
    pub drawn : spoiled ≡ None → IsDrawn now.route
    pub leads : (given : List Choice) → MayLead (end_in history) now.route given → Kept limits (led_by given began) history spoiled (led given now)

  abbrev pub KeptBy : Bool → Limits → Route → List (Event D) → Option Stop → Moment D → Type 0
  KeptBy false limits began history spoiled now = Kept limits began history spoiled now
  KeptBy true limits began history spoiled now = KeptDrawn limits began history spoiled now

  -- the history leads from where the run began to where it is, as it does where the path was given the choices
  abbrev pub LeadsBy : Bool → Log D → Type 0
  LeadsBy false log = IsHistory log.limits log.began log.history log.now
  LeadsBy true log = (given : List Choice) → MayLead (end_in log.history) log.now.route given → IsHistory log.limits (led_by given log.began) log.history (led given log.now)

  -- it goes on by one event, as it does there
  abbrev pub AddsBy : Bool → Log D → Request D ⊤ → Option Label → Log D → Type 0
  AddsBy false log op label log' = Adds log op label log'
  AddsBy true log op label log' = (given : List Choice) → MayLead (end_in log'.history) log'.now.route given → Adds (led_log given log) op label (led_log given log')

  -- the run began so and drew its choices, and each thread's operations and replies are its part of the history
  pub record SettlesDrawn (log : Log D) (began : Route) (limits : Limits) (told : List (Share D)) : Type 0 where
    pub draws : log.drawn ≡ true
    pub settles : Settles (record log { drawn = false }) began limits told
