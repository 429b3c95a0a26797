use Rattle.std.proofs.Common.{[], Bool, Some, ap, sym, ◌∙◌}
use Rattle.loom_objects.specs.declared.choice.Choice.{Choice}
use Rattle.loom_objects.specs.Exploring.{is_on}
use Rattle.loom_objects.specs.Tree.Asked.{which_thread}
use Rattle.loom_objects.specs.Tree.Question.{made_of}
use Rattle.loom_engine.specs.Path.Nodes.{seen_schedule}
use Rattle.loom_engine.specs.Trees.Drive.{new_node}
use Rattle.loom_engine.proofs.Path.Drawing.{at_its_choice, new_present}
use Rattle.loom_engine.proofs.rt.path.Path.drawn_schedule.Goals as goal

pub returns-clause-made : goal.returns-clause-made
returns-clause-made g c = λ places.
    let present : Choice = (seen_schedule c.schedule_drawn.result.0).present in
    at_its_choice c.tries_each-every.result (made_of (which_thread c.is_exploring-exploring.result c.args.offers.now places)) _ (seen_schedule c.schedule_drawn.result.0) (c.schedule_drawn.ensures.made places)
    ∙ ap (λ (b : Bool). new_node c.tries_each-every.result (made_of (which_thread b c.args.offers.now places)) (Some present)) c.is_exploring-exploring.ensures
    ∙ ap (λ (b : Bool). new_node b (made_of (which_thread (is_on c.args.self.now.exploring) c.args.offers.now places)) (Some present)) (c.tries_each-every.ensures c.args.offers.now places)

pub returns-clause-present : goal.returns-clause-present
returns-clause-present g c =
    sym (new_present c.tries_each-every.result (made_of (which_thread c.is_exploring-exploring.result c.args.offers.now [])) _ (seen_schedule c.schedule_drawn.result.0) (c.schedule_drawn.ensures.made []))
