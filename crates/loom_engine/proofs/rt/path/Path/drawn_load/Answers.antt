use Rattle.std.proofs.Common.{Bool, true, Some, ap, sym, ◌∙◌}
use Rattle.loom_objects.specs.Tree.Question.{made_of}
use Rattle.loom_objects.specs.Tree.Stores.{which_store}
use Rattle.loom_engine.specs.Path.Nodes.{seen_load}
use Rattle.loom_engine.specs.Trees.Drive.{new_node}
use Rattle.loom_engine.proofs.Path.Drawing.{at_its_choice, new_present}
use Rattle.loom_engine.proofs.rt.path.Path.drawn_load.Goals as goal

pub returns-then-exploring-clause-made : goal.returns-then-exploring-clause-made
returns-then-exploring-clause-made g c =
    at_its_choice true (made_of (which_store c.is_exploring-exploring.result c.args.readable.now)) _ (seen_load c.load_drawn.result.0) c.load_drawn.ensures.made
    ∙ ap (λ (b : Bool). new_node true (made_of (which_store b c.args.readable.now)) (Some (seen_load c.load_drawn.result.0).present)) c.is_exploring-exploring.ensures

pub returns-then-exploring-clause-present : goal.returns-then-exploring-clause-present
returns-then-exploring-clause-present g c =
    sym (new_present true (made_of (which_store c.is_exploring-exploring.result c.args.readable.now)) _ (seen_load c.load_drawn.result.0) c.load_drawn.ensures.made)
