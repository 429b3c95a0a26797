use Rattle.std.proofs.Common.{◌≡◌, ◌-◌, length, ap, sym, ◌∙◌, subst, None, Some}
use Rattle.std.specs.Prelude.{slice_get}
use Rattle.loom_engine.proofs.Covering.Whole.{last_refused, last_told, no_last_told}
use Rattle.loom_engine.proofs.rt.states.ways.Ways.last_on_way.Goals as goal

pub returns-then-is_on_way : goal.returns-then-is_on_way
returns-then-is_on_way c = λ there is.
    let list = c.deref.ensures.value ∙ ap (λ t. t.passed) c.self.view_is in
    last_told c.args.led_by.now there c.args.self.now.passed c.in-Some.last.now (subst (λ l. slice_get l (length l - 1) ≡ Some c.in-Some.last.now) list (sym c.in-Some.ensures.value)) ((c.is_on_way.ensures there is).0 c.if-is_on_way.true)

pub returns-else-is_on_way : goal.returns-else-is_on_way
returns-else-is_on_way c = λ there is.
    let list = c.deref.ensures.value ∙ ap (λ t. t.passed) c.self.view_is in
    last_refused c.args.led_by.now there c.args.self.now.passed c.in-Some.last.now (subst (λ l. slice_get l (length l - 1) ≡ Some c.in-Some.last.now) list (sym c.in-Some.ensures.value))
    (λ p. cc ((c.is_on_way.ensures there is).1 p, c.if-is_on_way.false))

pub returns-in-None : goal.returns-in-None
returns-in-None c = λ there is.
    let list = c.deref.ensures.value ∙ ap (λ t. t.passed) c.self.view_is in
    no_last_told c.args.led_by.now there c.args.self.now.passed (subst (λ l. slice_get l (length l - 1) ≡ None) list (sym c.in-None.ensures.value))
