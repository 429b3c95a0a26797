use Rattle.std.proofs.Common.{arith}
use Rattle.loom_engine.specs.contracts.rt.path.Path.{the_view}
use Rattle.loom_engine.proofs.Parts.Branching.{opens_inside, branch_place}
use Rattle.loom_engine.proofs.rt.path.Path.key.Goals as goal

pub choices_at-requires : goal.choices_at-requires
choices_at-requires c =
    let opens = opens_inside (the_view c.self.inside) c.args.self.now c.args.opening.now c.self.view_is c.requires in
    omega (arith, branch_place c.self.inside.nodes.list c.args.opening.now opens)
