use Rattle.std.proofs.Common.{◌≡◌, ◌∙◌, ℕ, false, List, ap, sym, subst}
use Rattle.loom.specs.Model.Different.{Counted}
use Rattle.loom.proofs.ModelLemmas.Noting.{IsJoining, joining_end, joining_on, joining_start}
use Rattle.loom.proofs.model.different.Different.join.Goals as goal

pub hashes-init : goal.hashes-init
hashes-init c =
    let all : c.into_iter-hash-iterator.result ≡ c.args.other.hashes = c.into_iter-hash-iterator.ensures.into_iter_gives ∙ c.iter-hash-items.ensures.rest ∙ ap (λ (d : Counted). d.hashes) c.other.view_is in
    subst (λ (rest : List ℕ). IsJoining c.args.other c.args.self.now c.args.self.now rest) (sym all) (joining_start c.args.other c.args.self.now)

pub hashes-preserved : goal.hashes-preserved
hashes-preserved c =
    joining_on c.args.other c.args.self.now c.hashes.self c.note.new.self c.in-Some.hash.now c.next.new.self
    (subst (λ (rest : List ℕ). IsJoining c.args.other c.args.self.now c.hashes.self rest) c.in-Some.ensures.steps c.hashes.invariant) c.note.ensures

pub returns : goal.returns
returns c =
    joining_end c.args.other c.args.self.now c.hashes.self (subst (λ (rest : List ℕ). IsJoining c.args.other c.args.self.now c.hashes.self rest) c.in-None.ensures.steps.0 c.hashes.invariant)
    (subst (λ (d : Counted). d.is_left_out ≡ false) c.other.view_is c.if-other.false)
