use Rattle.std.proofs.Common.{◌∙◌, ap, ap₂, inl, inr, refl, rules, subst, Option}
use Rattle.loom_objects.specs.declared.failure.Failure.{Failure}
use Rattle.loom.specs.Runner.Alike.{Agree, Says, trace}
use Rattle.loom.specs.Runner.Comparing.{IsParted}
use Rattle.loom.proofs.Closures.Alike.{says_at}
use Rattle.loom.proofs.Closures.Comparing.{moved, none_gives, within}
use Rattle.loom.proofs.runner.last_run.LastRun.compare.Goals as goal

pub returns-then-is_parted-clause-like : goal.returns-then-is_parted-clause-like
returns-then-is_parted-clause-like g c = inl (subst (λ (o : Option Failure). IsParted o) c.failure.ensures (c.if-is_parted.ensures.0 (search rules)))

pub returns-in_default-clause-like : goal.returns-in_default-clause-like
returns-in_default-clause-like g c =
    inr (moved Agree c.args.self.now (trace c.as_slice.result.now c.as_slice-before.result.now) (trace c.args.choices.now c.args.turns.now.history) (trace c.args.choices.now c.events-events.result.now)
    (ap₂ trace c.as_slice.ensures.value c.as_slice-before.ensures.value ∙ c.self.view_is) (ap (trace c.args.choices.now) c.events-events.ensures) (none_gives c.first_change.result _ _ c.first_change.ensures c.in_default.is))

pub make_change-requires : goal.make_change-requires
make_change-requires g c =
    let inside =
    within (trace c.as_slice.result.now c.as_slice-before.result.now) (trace c.args.choices.now c.events-events.result.now) c.in-Some.place c.in-Some.ensures in
    record { old = inside.0; events = inside.1 }

pub returns-in-Ok-clause-errors : goal.returns-in-Ok-clause-errors
returns-in-Ok-clause-errors g c =
    let said =
    says_at (trace c.as_slice.result.now c.as_slice-before.result.now) (trace c.args.choices.now c.events-events.result.now) c.in-Some.place c.args.number c.in-Ok.change c.in-Some.ensures c.in-Ok.ensures in
    let says =
    moved (λ a b. Says a b c.in-Ok.change) c.args.self.now (trace c.as_slice.result.now c.as_slice-before.result.now) (trace c.args.choices.now c.args.turns.now.history) (trace c.args.choices.now c.events-events.result.now)
    (ap₂ trace c.as_slice.ensures.value c.as_slice-before.ensures.value ∙ c.self.view_is) (ap (trace c.args.choices.now) c.events-events.ensures) said.0 in
    inr (c.in-Ok.change, refl, says, said.1)
