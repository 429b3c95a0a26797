use Rattle.std.proofs.Common.{sym, ◌∙◌, ap}
use Rattle.loom.specs.Runner.Histories.{Log, end_in}
use Rattle.loom.proofs.RunnerLemmas.Leading.{kept_after, adds_after, drawn_after, goes_after, live_if, none_holds, none_is, goes_on_by, ends_by}
use Rattle.loom.proofs.runner.turns.Turns.submit.Goals as goal

pub returns-then-is_some-2-clause-adds : goal.returns-then-is_some-2-clause-adds
returns-then-is_some-2-clause-adds g c = λ fresh live.
    absurd (ends_by c.self.inside.history c.end.result c.is_some-2.result c.end.ensures c.is_some-2.ensures c.if-is_some-2.true (ap (λ (l : Log _). end_in l.history) c.self.view_is ∙ live))

pub add-self-inside-requires-after_bounds : goal.add-self-inside-requires-after_bounds
add-self-inside-requires-after_bounds g c = λ κs inner.
    live_if c.self.inside.limits c.self.inside.began c.self.inside.history c.self.inside.spoiled c.self.inside.place c.self.invariant (none_is c.self.inside.spoiled (sym c.is_some.ensures ∙ c.if-is_some.false))
    (goes_on_by c.self.inside.history c.end.result c.is_some-2.result c.end.ensures c.is_some-2.ensures c.if-is_some-2.false)

pub invariant_of-self : goal.invariant_of-self
invariant_of-self g c =
    kept_after c.self.inside.limits c.self.inside.began c.self.inside.history c.add-self-inside.new.self c.args.op c.args.label c.self.inside.place c.add-self-inside.new.machine c.self.inside.spoiled
    c.add-self-inside.result (none_is c.self.inside.spoiled (sym c.is_some.ensures ∙ c.if-is_some.false))
    (goes_on_by c.self.inside.history c.end.result c.is_some-2.result c.end.ensures c.is_some-2.ensures c.if-is_some-2.false) c.self.invariant
    (goes_after c.self.inside.limits c.self.inside.began c.self.inside.history c.add-self-inside.new.self c.self.inside.spoiled c.add-self-inside.result c.self.inside.place c.add-self-inside.new.machine c.args.op c.args.label
    c.end.result c.is_some.result c.is_some-2.result c.self.invariant c.is_some.ensures c.if-is_some.false c.end.ensures c.is_some-2.ensures c.if-is_some-2.false c.add-self-inside.ensures.added)

pub returns-clause-over : goal.returns-clause-over
returns-clause-over g c =
    none_holds (end_in c.args.self.now.history) _
    (sym (ap (λ (l : Log _). end_in l.history) c.self.view_is) ∙ goes_on_by c.self.inside.history c.end.result c.is_some-2.result c.end.ensures c.is_some-2.ensures c.if-is_some-2.false)

pub returns-clause-spoiled : goal.returns-clause-spoiled
returns-clause-spoiled g c =
    none_holds c.args.self.now.spoiled _ (sym (ap (λ (l : Log _). l.spoiled) c.self.view_is) ∙ none_is c.self.inside.spoiled (sym c.is_some.ensures ∙ c.if-is_some.false))

pub returns-clause-adds : goal.returns-clause-adds
returns-clause-adds g c none live =
    rw (← c.self.view_is) (adds_after _ _ c.args.op c.args.label c.add-self-inside.result
    (goes_after c.self.inside.limits c.self.inside.began c.self.inside.history c.add-self-inside.new.self c.self.inside.spoiled c.add-self-inside.result c.self.inside.place c.add-self-inside.new.machine c.args.op c.args.label
    c.end.result c.is_some.result c.is_some-2.result c.self.invariant c.is_some.ensures c.if-is_some.false c.end.ensures c.is_some-2.ensures c.if-is_some-2.false c.add-self-inside.ensures.added)
    c.add-self-inside.ensures.stopped)

pub returns-then-is_some-2-clause-why : goal.returns-then-is_some-2-clause-why
returns-then-is_some-2-clause-why g c = λ fresh live.
    absurd (ends_by c.self.inside.history c.end.result c.is_some-2.result c.end.ensures c.is_some-2.ensures c.if-is_some-2.true (ap (λ (l : Log _). end_in l.history) c.self.view_is ∙ live))

pub returns-clause-why : goal.returns-clause-why
returns-clause-why g c none live = rw (← c.self.view_is) c.add-self-inside.ensures.why

pub returns-clause-drawn : goal.returns-clause-drawn
returns-clause-drawn g c =
    rw (← c.self.view_is) (drawn_after c.self.inside.place c.add-self-inside.new.machine c.args.op c.args.label c.self.inside.history c.add-self-inside.new.self c.add-self-inside.result
    (goes_after c.self.inside.limits c.self.inside.began c.self.inside.history c.add-self-inside.new.self c.self.inside.spoiled c.add-self-inside.result c.self.inside.place c.add-self-inside.new.machine c.args.op c.args.label
    c.end.result c.is_some.result c.is_some-2.result c.self.invariant c.is_some.ensures c.if-is_some.false c.end.ensures c.is_some-2.ensures c.if-is_some-2.false c.add-self-inside.ensures.added)
    c.add-self-inside.ensures.stays)
