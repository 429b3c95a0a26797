use Rattle.std.proofs.Common.{◌≡◌, Some, None, [], true, false, refl, ap, sym, ◌∙◌}
use Rattle.std.specs.Prelude.{slice_get, IsSomeAnd}
use Rattle.std.specs.Option.{option_map}
use Rattle.loom_objects.specs.declared.choice.Choice.TheVariants.{Thread}
use Rattle.loom_engine.specs.Path.Nodes.{seen_schedule, is_left}
use Rattle.loom_engine.proofs.Nodes.Nodes.Statuses.{some_left, left_some}
use Rattle.loom_engine.proofs.Path.Nodes.Given.{at_default, at_other, at_none}
use Rattle.loom_engine.proofs.rt.path.making.schedule_at.Goals as goal

pub returns-in_default-clause-made : goal.returns-in_default-clause-made
returns-in_default-clause-made c = λ places.
    at_none c.args.exploring c.args.every c.schedule-schedule.result c.args.offers.now c.requires (c.schedule-schedule.ensures.made []) c.args.choice
    (λ e. c.in_default.not-Thread _ e) (λ k s e _ _. c.in_default.not-Thread _ e)

pub returns-then-is_same_thread-clause-made : goal.returns-then-is_same_thread-clause-made
returns-then-is_same_thread-clause-made c = λ places.
    at_default c.args.exploring c.args.every c.schedule-schedule.result c.args.offers.now c.requires (c.schedule-schedule.ensures.made []) c.args.choice
    (c.in-Thread.is ∙ ap Thread (c.if-is_same_thread.ensures.0 refl))

pub returns-in_err-thread-clause-made : goal.returns-in_err-thread-clause-made
returns-in_err-thread-clause-made c = λ places.
    let none : c.in-Thread.thread ≡ None = c.in_err-thread.was in
    ap (option_map seen_schedule) c.from_residual.ensures
    ∙ at_none c.args.exploring c.args.every c.schedule-schedule.result c.args.offers.now c.requires (c.schedule-schedule.ensures.made []) c.args.choice
    (λ e. let other : false ≡ true = c.if-is_same_thread.ensures.1 (cc (e, c.in-Thread.is)) in cc other) (λ k s e _ _. cc (e, c.in-Thread.is, none))

pub returns-then-not-may_choose-clause-made : goal.returns-then-not-may_choose-clause-made
returns-then-not-may_choose-clause-made c = λ places.
    let statuses = c.schedule-schedule.result.statuses in
    let thread = c.in_ok-thread.thread in
    let some : c.in-Thread.thread ≡ Some thread = c.in_ok-thread.was in
    let no : IsSomeAnd (slice_get statuses thread) (λ s. is_left s ≡ true) → false ≡ true = c.if-not-may_choose.ensures.1 in
    at_none c.args.exploring c.args.every c.schedule-schedule.result c.args.offers.now c.requires (c.schedule-schedule.ensures.made []) c.args.choice
    (λ e. let other : false ≡ true = c.if-is_same_thread.ensures.1 (cc (e, c.in-Thread.is)) in cc other)
    (λ k s e h l. let place : k ≡ thread = cc (e, c.in-Thread.is, some) in let other = no (left_some statuses thread s (ap (slice_get statuses) (sym place) ∙ h) l) in cc other)

pub returns-clause-made : goal.returns-clause-made
returns-clause-made c = λ places.
    let some : c.in-Thread.thread ≡ Some c.in_ok-thread.thread = c.in_ok-thread.was in
    let left = some_left c.schedule-schedule.result.statuses c.in_ok-thread.thread (c.if-not-may_choose.ensures.0 refl) in
    ap Some c.choose.ensures.chosen
    ∙ at_other c.args.exploring c.args.every c.schedule-schedule.result c.args.offers.now c.requires (c.schedule-schedule.ensures.made []) c.args.choice c.in_ok-thread.thread left.0
    (c.in-Thread.is ∙ ap Thread some) left.1 left.2
