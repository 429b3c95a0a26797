use Rattle.std.proofs.Common.{◌≡◌, ◌++◌, ◌∷◌, []}
use Rattle.loom.specs.Runner.Explained.{told_events}
use Rattle.loom.proofs.Closures.Explaining.{told_all, told_on}
use Rattle.loom.proofs.runner.history.telling.told_events.Goals as goal

pub loop-first-preserved : goal.loop-first-preserved
loop-first-preserved g c =
    let items : c.push.new.self.items ≡ c.loop-first.events.items ++ c.told_event.result ∷ [] = c.in_ok-push.ensures.items in
    told_on (told_events c.args.history.now) c.loop-first.events.items c.push.new.self.items c.loop-first.told c.in_ok-told.told c.in-Some.first.now c.loop-first.rest.now c.in-Some.tail.now c.told_event.result
    items c.told_event.ensures c.in_ok-told.ensures c.in-Some.ensures.cases.0 c.loop-first.invariant

pub returns : goal.returns
returns g c = told_all (told_events c.args.history.now) c.loop-first.events.items c.loop-first.told c.loop-first.rest.now c.in_default.ensures.cases c.loop-first.invariant
