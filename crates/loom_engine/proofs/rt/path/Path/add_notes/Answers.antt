use Rattle.std.proofs.Common.{sym, ◌∙◌}
use Rattle.loom_engine.proofs.Parts.Gathering.{adds_there}
use Rattle.loom_engine.proofs.rt.path.Path.add_notes.Goals as goal

pub returns-in-Some : goal.returns-in-Some
returns-in-Some c =
    adds_there c.add_openings.result c.args.place c.args.self.now.nodes c.in-Some.node c.args.list.now.items c.add_openings.new.list.items (sym c.in-Some.ensures.found)
    (sym c.is_schedule.ensures ∙ c.if-is_schedule.true) c.add_openings.ensures
