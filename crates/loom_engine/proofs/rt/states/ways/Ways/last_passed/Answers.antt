use Rattle.std.proofs.Common.{◌≡◌, ◌-◌, length, ap, sym, ◌∙◌, subst, None, Some}
use Rattle.std.specs.Prelude.{slice_get}
use Rattle.loom_engine.proofs.Covering.Whole.{last_refused, last_told, no_last_told}
use Rattle.loom_engine.proofs.rt.states.ways.Ways.last_passed.Goals as goal

pub returns-then-passes : goal.returns-then-passes
returns-then-passes c =
    let list = c.deref.ensures.value ∙ ap (λ t. t.passed) c.self.view_is in
    last_told c.args.led_by.now c.args.made.now c.args.self.now.passed c.in-Some.last.now (subst (λ l. slice_get l (length l - 1) ≡ Some c.in-Some.last.now) list (sym c.in-Some.ensures.value)) (c.passes.ensures.0 c.if-passes.true)

pub returns-else-passes : goal.returns-else-passes
returns-else-passes c =
    let list = c.deref.ensures.value ∙ ap (λ t. t.passed) c.self.view_is in
    last_refused c.args.led_by.now c.args.made.now c.args.self.now.passed c.in-Some.last.now (subst (λ l. slice_get l (length l - 1) ≡ Some c.in-Some.last.now) list (sym c.in-Some.ensures.value))
    (λ p. cc (c.passes.ensures.1 p, c.if-passes.false))

pub returns-in-None : goal.returns-in-None
returns-in-None c =
    let list = c.deref.ensures.value ∙ ap (λ t. t.passed) c.self.view_is in
    no_last_told c.args.led_by.now c.args.made.now c.args.self.now.passed (subst (λ l. slice_get l (length l - 1) ≡ None) list (sym c.in-None.ensures.value))
