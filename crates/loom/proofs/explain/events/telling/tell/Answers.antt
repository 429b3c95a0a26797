use Rattle.loom_engine.specs.Path.Route.{trail}
use Rattle.loom.specs.Explain.Story.{story_of}
use Rattle.loom.specs.declared.model.run.Ending.TheVariants.{Ended, Failed}
use Rattle.loom.proofs.ExplainLemmas.Keeping.{told}
use Rattle.loom.proofs.explain.events.telling.tell.Goals as goal

pub returns-in-Ended-clause-told : goal.returns-in-Ended-clause-told
returns-in-Ended-clause-told g c =
    let story = story_of c.args.path.now.search g.B.Body.next c.args.path.now.explores c.args.limits.max_threads c.args.limits.max_steps c.args.body.now (trail c.args.path.now) in
    let heard = rw c.in-Ended.is at c.in_ok-run.ensures.heard in
    (_, told story c.new-teller.result c.run.new.listener (Ended c.in-Ended.field-0) c.run.new.path c.new-teller.ensures heard)

pub returns-clause-told : goal.returns-clause-told
returns-clause-told g c =
    let story = story_of c.args.path.now.search g.B.Body.next c.args.path.now.explores c.args.limits.max_threads c.args.limits.max_steps c.args.body.now (trail c.args.path.now) in
    let heard = rw c.in-Failed.is at c.in_ok-run.ensures.heard in
    told story c.new-teller.result c.run.new.listener (Failed c.in-Failed.failure) c.run.new.path c.new-teller.ensures heard
