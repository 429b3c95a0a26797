use Rattle.std.proofs.Common.{refl, sym, ◌∙◌}
use Rattle.loom_objects.proofs.Dependence.Asked.{unordered-is}
use Rattle.loom_objects.proofs.rt.dependence.Dependence.unordered_by.Goals as goal

pub returns-then-is_within : goal.returns-then-is_within
returns-then-is_within c = λ o z. let a = unordered-is o c.args.self.now c.args.thread c.in_ok-used.used c.at.result.now c.in_ok-access.access c.at.ensures (sym c.last_before.ensures ∙ c.in_ok-access.was) z in rw (c.in_ok-used.was, a, sym c.is_within.ensures.test ∙ c.if-is_within.true) refl

pub returns-else-is_within : goal.returns-else-is_within
returns-else-is_within c = λ o z. let a = unordered-is o c.args.self.now c.args.thread c.in_ok-used.used c.at.result.now c.in_ok-access.access c.at.ensures (sym c.last_before.ensures ∙ c.in_ok-access.was) z in rw (c.in_ok-used.was, a, sym c.is_within.ensures.test ∙ c.if-is_within.false) refl
