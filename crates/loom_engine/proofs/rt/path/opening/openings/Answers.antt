use Rattle.loom_engine.proofs.Parts.Options.{passed_none, gone_on, passed_one, passed_all, fewer_left}
use Rattle.loom_engine.proofs.rt.path.opening.openings.Goals as goal

pub options-init : goal.options-init
options-init c = passed_none c.args.node.now c.requires c.new-list.result.items c.new-list.ensures.items

pub advance-requires : goal.advance-requires
advance-requires c = c.options.invariant.well

pub returns-then-not-advance : goal.returns-then-not-advance
returns-then-not-advance c = passed_all c.args.node.now c.options.last c.options.list.items c.options.invariant c.if-not-advance.ensures.advances.0

pub with_choice_of-requires-clause-goes_on : goal.with_choice_of-requires-clause-goes_on
with_choice_of-requires-clause-goes_on c =
    gone_on c.args.node.now c.options.last c.advance.new.self c.options.list.items c.options.invariant c.if-not-advance.ensures.advances c.advance.ensures.rests c.advance.ensures.noted

pub options-preserved : goal.options-preserved
options-preserved c =
    passed_one c.args.node.now c.options.last c.advance.new.self c.with_choice_of.result c.options.list.items c.push.new.self.items c.options.invariant c.if-not-advance.ensures.advances
    c.advance.ensures.rests c.advance.ensures.noted c.with_choice_of.ensures c.in_ok-push.ensures.items

pub options-smaller : goal.options-smaller
options-smaller c = fewer_left c.options.last c.advance.new.self c.options.invariant.well c.if-not-advance.ensures.advances
