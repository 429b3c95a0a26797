-- What is promised of one run. It is what a call of the closure and its handle's `close` make under the lock (`MadeBy`). Its history
-- is one of the machine, from the path with which it began, and each thread's operations and replies are its part of it (`Settled`). If it
-- ended, the visitor is given it, with its history's choices and result (`Given`).
use Rattle.std.specs.Prelude.{◌≡◌, List, Some, Result}
use Rattle.loom_objects.specs.declared.choice.Choice.{Choice}
use Rattle.loom_engine.specs.declared.rt.execution.Limits.{Limits}
use Rattle.loom_engine.specs.Path.Route.{Route, chosen}
use Rattle.loom.specs.declared.runner.stop.Stop.{Stop}
use Rattle.loom.specs.Runner.Histories.{Log, Share, IsHistory, Settles, last_event, ended_by}
use Rattle.loom.specs.Runner.Handle.{Teller, Leading, Closes, newcomer}

-- a run that was made: where it began, the state at its end, its threads' told lists, and main's handle and answer
pub record Made (D : Type 0) : Type 0 where
  pub began : Route
  pub log : Log D
  pub told : List (Share D)
  pub handle : Teller D
  pub answer : Result D Stop

-- Its history is one of the machine from its beginning, each thread's operations and replies are its part, and main's part is what its
-- closure and `close` left.
pub record Settled {D : Type 0} (limits : Limits) (m : Made D) : Type 0 where
  pub settles : Settles m.log m.began limits m.told
  pub history : IsHistory limits m.began m.log.history m.log.now
  pub main : Leading m.handle.thread m.told (Closes m.handle.told m.answer)

module _ {D F V : Type 0} (called : F → Teller D → Result D Stop → F → Teller D → Type 0) (takes : V → List Choice → D → V → Type 0) (limits : Limits) where
  -- a call of the closure on main's handle has made this run
  pub record MadeBy (f : F) (m : Made D) (f' : F) : Type 0 where
    pub call : called f (newcomer 0) m.answer f' m.handle
    pub settled : Settled limits m

  -- and the visitor was given it, with the history's choices and result
  pub record Given (f : F) (v : V) (m : Made D) (f' : F) (v' : V) : Type 0 where
    pub made : MadeBy f m f'
    pub value : D
    pub ended : ended_by (last_event m.log.history) ≡ Some value
    pub taken : takes v (chosen m.log.now.route) value v'
