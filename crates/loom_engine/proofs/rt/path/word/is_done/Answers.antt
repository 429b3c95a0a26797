use Rattle.std.proofs.Common.{◌≡◌, ℕ, Bool, true, false, not, is_some, Option, Some, None, refl, sym, subst, ap, ◌∙◌}
use Rattle.std.specs.Prelude.{IsTrue}
use Rattle.std.specs.List.{position_from}
use Rattle.loom_engine.specs.Walk.Path.{advance}
use Rattle.loom_engine.specs.declared.rt.path.node.Places.{Places}
use Rattle.loom_engine.specs.Path.Nodes.{is_pending, seen, IsWell}
use Rattle.loom_engine.specs.Path.Words.{bits, kind_in, explores_in, first_of, statuses_in}
use Rattle.loom_engine.proofs.Nodes.Nodes.Choosing.{ends_here}
use Rattle.loom_engine.proofs.rt.path.word.is_done.Goals as goal

none_is : (o : Option ℕ) (r : Bool) → is_some o ≡ not r → IsTrue r → o ≡ None
none_is None r h t = refl
none_is (Some x) r h t = (let e : true ≡ false = h ∙ ap not t in absurd (cc e))

pub returns-in-0 : goal.returns-in-0
returns-in-0 c = λ done places.
    let word = c.args.word in
    let none : position_from is_pending 0 (statuses_in word) ≡ None = sym c.pending.ensures ∙ none_is c.pending.result c.is_none.result c.is_none.ensures done in
    ap (λ k. advance (seen (kind_in k word places))) (sym c.bits.ensures ∙ c.in-0.is) ∙ ends_here (first_of (bits word 3 3)) (explores_in word) (statuses_in word) none

pub is_read-requires : goal.is_read-requires
is_read-requires c =
    let word = c.args.word in
    let places : Places = record { switch = None; nearest = None } in
    (subst (λ (k : ℕ). IsWell (kind_in k word places)) (sym c.bits.ensures ∙ c.in-1.is) (c.requires places)).0

pub returns-in-1 : goal.returns-in-1
returns-in-1 c = λ done places.
    let word = c.args.word in
    ap (λ k. advance (seen (kind_in k word places))) (sym c.bits.ensures ∙ c.in-1.is) ∙ c.is_read.ensures done
