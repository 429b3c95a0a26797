use Rattle.std.proofs.Common.{◌≡◌, ℕ, true, subst}
use Rattle.loom.specs.Model.Different.{Counted, Notes}
use Rattle.loom.proofs.ModelLemmas.Noting.{unsaid}
use Rattle.loom.proofs.model.different.Different.note_run.Goals as goal

pub returns-then-self : goal.returns-then-self
returns-then-self c = unsaid _ _ _ (subst (λ (d : Counted). d.is_left_out ≡ true) c.self.view_is c.if-self.true)

pub returns : goal.returns
returns c = subst (λ (h : ℕ). Notes h c.args.self.now c.note.new.self) c.hash_along.ensures c.note.ensures
