use Rattle.loom_engine.specs.contracts.rt.path.Path.{the_view}
use Rattle.loom_engine.proofs.Parts.Branching.{some_well}
use Rattle.loom_engine.proofs.rt.path.Path.well_node.Goals as goal

pub returns-clause-well : goal.returns-clause-well
returns-clause-well c = some_well (the_view c.self.inside) c.args.self.now c.args.place c.node.result c.self.view_is c.node.ensures c.self.invariant.2
