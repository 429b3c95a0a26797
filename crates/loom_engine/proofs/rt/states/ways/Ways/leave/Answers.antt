use Rattle.std.proofs.Common.{length, ap, sym, ◌∙◌, append-nil, arith}
use Rattle.loom_engine.proofs.Covering.Whole.{ends_none, ends_some, leaves_none, leaving_starts}
use Rattle.loom_engine.proofs.rt.states.ways.Ways.leave.Goals as goal

pub leaving-init : goal.leaving-init
leaving-init c = leaving_starts c.args.led_by.now c.args.made.now c.args.self.now

pub returns-then-is_some : goal.returns-then-is_some
returns-then-is_some c =
    ends_some c.args.led_by.now c.args.made.now c.args.self.now c.leaving.self c.last_passed.result c.leaving.invariant c.last_passed.ensures (sym c.is_some.ensures ∙ c.if-is_some.true)

pub leaving-preserved : goal.leaving-preserved
leaving-preserved c =
    leaves_none c.args.led_by.now c.args.made.now c.args.self.now c.leaving.self _ c.last_passed.result c.in-Some.field-0 c.leaving.invariant c.last_passed.ensures (sym c.is_some.ensures ∙ c.if-is_some.false)
    (ap (λ t. t.ways) c.self.view_is) (sym (ap (λ t. t.passed) c.self.view_is) ∙ c.in-Some.ensures.items)

pub returns-in-None : goal.returns-in-None
returns-in-None c =
    ends_none c.args.led_by.now c.args.made.now c.args.self.now c.leaving.self _ c.leaving.invariant (ap (λ t. t.ways) c.self.view_is)
    (sym (ap (λ t. t.passed) c.self.view_is) ∙ c.in-None.ensures.items ∙ append-nil c.pop.new.self.items) (omega (arith, c.in-None.ensures.cases.0, c.self.inside.passed.ok.0, ap (λ t. length t.passed) c.self.view_is))
