use Rattle.std.proofs.Common.{Bool, Some, None, ap, ◌∙◌}
use Rattle.loom_objects.specs.Tree.Question.{made_of}
use Rattle.loom_objects.specs.Tree.Asked.{which_thread}
use Rattle.loom_objects.specs.Exploring.{is_on}
use Rattle.loom_engine.specs.Trees.Drive.{new_node}
use Rattle.loom_engine.proofs.rt.path.Path.new_schedule.Goals as goal

pub returns-in-Some-clause-made : goal.returns-in-Some-clause-made
returns-in-Some-clause-made c = λ places.
    c.schedule_at.ensures.made places
    ∙ ap (λ (b : Bool). new_node c.tries_each-every.result (made_of (which_thread b c.args.offers.now places)) (Some c.in-Some.choice)) c.is_exploring-exploring.ensures
    ∙ ap (λ (b : Bool). new_node b (made_of (which_thread (is_on c.args.self.now.exploring) c.args.offers.now places)) (Some c.in-Some.choice)) (c.tries_each-every.ensures c.args.offers.now places)
    ∙ ap (new_node _ (made_of (which_thread (is_on c.args.self.now.exploring) c.args.offers.now places))) c.in-Some.ensures

pub returns-in-None-clause-made : goal.returns-in-None-clause-made
returns-in-None-clause-made c = λ places.
    ap Some (c.schedule.ensures.made places)
    ∙ ap (λ (b : Bool). new_node c.tries_each-every.result (made_of (which_thread b c.args.offers.now places)) None) c.is_exploring-exploring.ensures
    ∙ ap (λ (b : Bool). new_node b (made_of (which_thread (is_on c.args.self.now.exploring) c.args.offers.now places)) None) (c.tries_each-every.ensures c.args.offers.now places)
    ∙ ap (new_node _ (made_of (which_thread (is_on c.args.self.now.exploring) c.args.offers.now places))) c.in-None.ensures
