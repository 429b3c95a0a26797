use Rattle.std.proofs.Common.{◌∙◌, Bool, ap, refl, subst, sym}
use Rattle.std.specs.Prelude.{IfOk}
use Rattle.loom_objects.specs.Exploring.{initially}
use Rattle.loom.specs.Model.Run.{IsLocated}
use Rattle.loom.proofs.model.builder.Builder.run.Goals as goal

pub run-requires-clause-starts : goal.run-requires-clause-starts
run-requires-clause-starts g c = (c.requires.starts.0, refl, c.requires.starts.2 ∙ ap initially (sym c.requires.starts.1))

pub returns-then-self-clause-located : goal.returns-then-self-clause-located
returns-then-self-clause-located g c = subst (λ (keeps : Bool). IfOk c.run.result (IsLocated keeps)) (sym c.if-self.true) c.run.ensures.located

pub returns-else-self-clause-located : goal.returns-else-self-clause-located
returns-else-self-clause-located g c = subst (λ (keeps : Bool). IfOk c.run-else-self.result (IsLocated keeps)) (sym c.if-self.false) c.run-else-self.ensures.located
