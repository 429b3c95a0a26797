use Rattle.std.proofs.Common.{◌≡◌, ◌≤◌, ◌+◌, ◌++◌, ◌∷◌, [], suc, length, ap, sym, ◌∙◌, subst, refl, arith}
use Rattle.loom_engine.specs.Covering.Between.{AddsRun, AddsWithin}
use Rattle.loom_engine.proofs.Covering.Between.{adds_last, adds_more, adds_none}
use Rattle.loom_engine.proofs.Covering.Whole.{Passing, ends_nowhere, ends_there, passing_on, passing_starts}
use Rattle.loom_engine.proofs.rt.states.ways.Ways.add_run.Goals as goal

pub returns-in_ok-push-in-Some-clause-adds : goal.returns-in_ok-push-in-Some-clause-adds
returns-in_ok-push-in-Some-clause-adds c =
    let led_by = c.args.led_by.now in
    let made = c.args.made.now in
    let grown : c.push.new.self.items ≡ c.loop-number.self.ways ++ record { from = c.in-Some.from; to = c.args.to } ∷ [] =
    c.in_ok-push-in-Some.ensures.items ∙ ap (λ t. t.ways ++ record { from = c.in-Some.from; to = c.args.to } ∷ []) c.self.view_is in
    subst (λ l. AddsRun led_by made c.args.to c.args.self.now.ways l) (sym grown)
    (adds_last led_by made c.args.to c.args.self.now.ways c.loop-number.self.ways (record { from = c.in-Some.from; to = c.args.to }) c.loop-number.invariant.ways c.in-Some.ensures.1 refl)

pub loop-number-init : goal.loop-number-init
loop-number-init c =
    let led_by = c.args.led_by.now in
    let made = c.args.made.now in
    let old = c.args.self.now in
    record {
      ways = subst (λ l. AddsWithin led_by made old.ways l) (sym c.leave.ensures.ways) (adds_none led_by made old.ways);
      passing = passing_starts led_by made c.args.first c.args.first old c.leave.new.self (omega arith) c.leave.ensures;
    }

pub loop-number-preserved : goal.loop-number-preserved
loop-number-preserved c =
    let led_by = c.args.led_by.now in
    let made = c.args.made.now in
    let old = c.args.self.now in
    let mid = c.loop-number.self in
    let z = c.loop-number.invariant in
    let one : suc c.loop-number.number ≡ c.loop-number.number + 1 = omega arith in
    record {
      ways = adds_more led_by made old.ways mid.ways c.pass.new.self.ways z.ways c.in_ok-pass.ensures.adds;
      passing = subst (λ k. Passing led_by made c.args.first k old c.pass.new.self) one (passing_on led_by made c.args.first c.loop-number.number old mid c.pass.new.self (omega arith) z.passing c.in_ok-pass.ensures.on);
    }

pub returns-in_ok-push-in-Some-clause-whole : goal.returns-in_ok-push-in-Some-clause-whole
returns-in_ok-push-in-Some-clause-whole c = λ ready.
    let led_by = c.args.led_by.now in
    let made = c.args.made.now in
    let old = c.args.self.now in
    let mid = c.loop-number.self in
    let low : c.args.first ≤ length led_by = ready.low in
    let over : c.loop-number.number ≡ length led_by = omega (arith, c.loop-number.auto.number-end, c.len-count.ensures) in
    ends_there led_by made c.args.first c.in-Some.from c.args.to old mid c.push.new.self.items c.self.inside.passed.items (subst (λ k. Passing led_by made c.args.first k old mid) over c.loop-number.invariant.passing) c.in-Some.ensures
    (c.in_ok-push-in-Some.ensures.items ∙ ap (λ t. t.ways ++ record { from = c.in-Some.from; to = c.args.to } ∷ []) c.self.view_is) (ap (λ t. t.passed) c.self.view_is) ready

pub returns-in-None-clause-whole : goal.returns-in-None-clause-whole
returns-in-None-clause-whole c = λ ready.
    let led_by = c.args.led_by.now in
    let made = c.args.made.now in
    let old = c.args.self.now in
    let mid = c.loop-number.self in
    let low : c.args.first ≤ length led_by = ready.low in
    let over : c.loop-number.number ≡ length led_by = omega (arith, c.loop-number.auto.number-end, c.len-count.ensures) in
    ends_nowhere led_by made c.args.first c.args.to old mid (subst (λ k. Passing led_by made c.args.first k old mid) over c.loop-number.invariant.passing) (rw c.in-None.is at c.last_passed.ensures) ready
