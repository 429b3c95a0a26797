use Rattle.std.proofs.Common.{ap, subst, sym, ◌∙◌}
use Rattle.loom_engine.specs.Walk.Path.{choose}
use Rattle.loom_engine.specs.Path.Nodes.{seen_schedule}
use Rattle.loom_objects.specs.declared.choice.Choice.TheVariants.{Thread}
use Rattle.loom_engine.specs.declared.rt.path.node.Node.TheVariants as node
use Rattle.loom_engine.specs.Parts.Openings.{IsOpen}
use Rattle.loom_engine.proofs.Parts.Options.{thread_left, no_thread_open}
use Rattle.loom_engine.proofs.rt.path.opening.schedule_at.Goals as goal

pub choose-requires-clause-left : goal.choose-requires-clause-left
choose-requires-clause-left c =
    thread_left c.args.schedule.now c.in-Some.thread (subst (λ t. IsOpen (node.Schedule c.args.schedule.now) (Thread t)) c.in-Some.is c.requires.open)

pub returns-in-None : goal.returns-in-None
returns-in-None c = absurd (no_thread_open c.args.schedule.now (subst (λ t. IsOpen (node.Schedule c.args.schedule.now) (Thread t)) c.in-None.is c.requires.open))

pub returns-in-Some-clause-chosen : goal.returns-in-Some-clause-chosen
returns-in-Some-clause-chosen c = c.choose.ensures.chosen ∙ ap (λ t. choose (seen_schedule c.args.schedule.now) (Thread t)) (sym c.in-Some.is)
