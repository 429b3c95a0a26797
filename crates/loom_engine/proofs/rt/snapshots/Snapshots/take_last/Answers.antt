use Rattle.std.proofs.Common.{length, sym, ◌∙◌}
use Rattle.loom_engine.specs.Snapshots.{Fits}
use Rattle.loom_engine.proofs.Snapshots.{all_at, first_of, last_there}
use Rattle.loom_engine.proofs.rt.snapshots.Snapshots.take_last.Goals as goal

pub move_into-left-requires : goal.move_into-left-requires
move_into-left-requires g c =
    let there = last_there c.args.self.now c.pop.new.self.items c.in-Some.last (sym c.self.view_is ∙ c.in-Some.ensures.items) in
    all_at (Fits c.args.path.now) c.args.self.now (length c.pop.new.self.items) c.in-Some.last there c.requires

pub returns-clause-goes : goal.returns-clause-goes
returns-clause-goes g c = (
  length c.pop.new.self.items,
  c.in-Some.last,
  last_there c.args.self.now c.pop.new.self.items c.in-Some.last (sym c.self.view_is ∙ c.in-Some.ensures.items),
  c.move_into-left.ensures.goes,
)

pub returns-clause-fewer : goal.returns-clause-fewer
returns-clause-fewer g c = (length c.pop.new.self.items, first_of c.args.self.now c.pop.new.self.items _ (sym c.self.view_is ∙ c.in-Some.ensures.items))

pub returns-in_default-clause-fewer : goal.returns-in_default-clause-fewer
returns-in_default-clause-fewer g c = (length c.pop.new.self.items, first_of c.args.self.now c.pop.new.self.items _ (sym c.self.view_is ∙ c.pop.ensures.items))

pub returns-clause-same : goal.returns-clause-same
returns-clause-same g c = c.move_into-left.ensures.same
