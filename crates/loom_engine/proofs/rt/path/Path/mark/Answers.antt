use Rattle.std.proofs.Common.{inl, inr, sym, ◌∙◌}
use Rattle.loom_engine.specs.Path.Route.{Route}
use Rattle.loom_engine.specs.contracts.rt.path.Path.{the_view}
use Rattle.loom_engine.proofs.Path.Marking.Threads.{none_nearest, nearest_schedule, first_alone, switch_passed, first_and_switch, bounded, unbounded}
use Rattle.loom_engine.proofs.rt.path.Path.mark.Goals as goal

pub returns-in_default : goal.returns-in_default
returns-in_default c = none_nearest c.args.self.now c.args.place c.args.thread c.in_default.ensures

pub add-switch-requires : goal.add-switch-requires
add-switch-requires c = nearest_schedule c.args.self.now c.args.place c.args.thread c.in-Some.nearest c.in-Some.ensures

pub add-requires : goal.add-requires
add-requires c =
    switch_passed c.args.self.now c.args.place c.args.thread c.in-Some.nearest c.in-Some-switch.switch c.add-switch.new.self c.in-Some-switch.ensures.added (sym c.in-Some-switch.ensures.switch)

pub returns-in-Some-switch : goal.returns-in-Some-switch
returns-in-Some-switch c =
    let old : Route = c.args.self.now in
    let b = bounded old c.add-switch.new.self (the_view c.self.inside) c.self.view_is c.add-switch.ensures.added.1 (sym c.is_some.ensures ∙ c.if-is_some.true) in
    first_and_switch old c.args.place c.args.thread c.in-Some.nearest c.in-Some-switch.switch b.0 c.add-switch.new.self c.add.new.self c.in-Some.ensures b.1 (sym c.in-Some-switch.ensures.switch)
    c.in-Some-switch.ensures.added c.add.ensures.added

pub returns-in_default-switch : goal.returns-in_default-switch
returns-in_default-switch c =
    first_alone c.args.self.now c.args.place c.args.thread c.in-Some.nearest c.add-switch.new.self c.in-Some.ensures (inr (sym c.add-switch.ensures.switch ∙ c.in_default-switch.is)) c.add-switch.ensures.added

pub returns-else-is_some : goal.returns-else-is_some
returns-else-is_some c =
    let old : Route = c.args.self.now in
    first_alone old c.args.place c.args.thread c.in-Some.nearest c.add-switch.new.self c.in-Some.ensures
    (inl (unbounded old c.add-switch.new.self (the_view c.self.inside) c.self.view_is c.add-switch.ensures.added.1 (sym c.is_some.ensures ∙ c.if-is_some.false))) c.add-switch.ensures.added
