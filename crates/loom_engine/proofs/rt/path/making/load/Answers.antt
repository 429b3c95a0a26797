use Rattle.loom_objects.specs.Tree.Stores.{slots}
use Rattle.loom_engine.proofs.Nodes.Nodes.Slots.{some_slot, load_fresh}
use Rattle.loom_engine.proofs.rt.path.making.load.Goals as goal

pub returns-clause-made : goal.returns-clause-made
returns-clause-made c = load_fresh c.args.exploring (slots c.args.readable.now) (some_slot c.args.readable.now c.requires.some)

pub returns-clause-well : goal.returns-clause-well
returns-clause-well c = some_slot c.args.readable.now c.requires.some
