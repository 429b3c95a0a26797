use Rattle.std.proofs.Common.{◌≡◌, ◌∙◌, ◌∷◌, ◌++◌, [], ℕ, List, Bool, true, false, Option, Some, None, nat_eq, cond, ap, sym}
use Rattle.std.specs.List.{list_any}
use Rattle.loom_text.proofs.HeadSteps.{parameter_as}
use Rattle.loom_text.proofs.ReadingSteps.{stops_none}
use Rattle.loom_text.specs.declared.read.symbol.Symbol.TheVariants as signs
use Rattle.loom_text.specs.Heads.{Passing, placed}
use Rattle.loom_text.specs.Statements.{kind_at}
use Rattle.loom_text.specs.Tokens.{Left, is_next, left}
use Rattle.loom_text.proofs.read.parser.Parser.parameter.Goals as goal

pub returns-then-contains : goal.returns-then-contains
returns-then-contains c =
    let numbers = c.args.parameters.now.items in
    let kind : kind_at (left c.args.self.now) ≡ Some (Some c.in-Some.kind, left c.kind.new.self) = rw c.in-Some.is at c.in_ok-kind.ensures in
    let one_star : is_next signs.Star (left c.expect.new.self) ≡ false = sym c.sees.ensures ∙ c.if-sees.false in
    let no_bracket : is_next signs.OpenBracket (left c.name.new.self) ≡ false = sym c.sees-2.ensures ∙ c.if-sees-2.false in
    let again : true ≡ list_any (λ number. nat_eq number c.in_ok-location.location) numbers = rw c.deref.ensures.value at c.if-contains.ensures.value in
    let made : Bool → Option (Passing × Left) = λ b. cond b None (Some ((numbers ++ c.in_ok-location.location ∷ [], placed c.place.new.self), left c.name.new.self)) in
    stops_none c.at.result _ (parameter_as numbers (placed c.args.places.now) (placed c.place.new.self) (left c.args.self.now) (left c.kind.new.self) (left c.expect.new.self) (left c.name.new.self)
    c.in-Some.kind c.in_ok-name.name.spelling.now c.in_ok-location.location kind c.in_ok-expect.ensures one_star c.in_ok-name.ensures no_bracket c.in_ok-location.ensures ∙ ap made (sym again))

pub returns : goal.returns
returns c =
    let numbers = c.args.parameters.now.items in
    let kind : kind_at (left c.args.self.now) ≡ Some (Some c.in-Some.kind, left c.kind.new.self) = rw c.in-Some.is at c.in_ok-kind.ensures in
    let one_star : is_next signs.Star (left c.expect.new.self) ≡ false = sym c.sees.ensures ∙ c.if-sees.false in
    let no_bracket : is_next signs.OpenBracket (left c.name.new.self) ≡ false = sym c.sees-2.ensures ∙ c.if-sees-2.false in
    let new : false ≡ list_any (λ number. nat_eq number c.in_ok-location.location) numbers = rw c.deref.ensures.value at c.if-contains.ensures.value in
    let made : Bool → Option (Passing × Left) = λ b. cond b None (Some ((numbers ++ c.in_ok-location.location ∷ [], placed c.place.new.self), left c.name.new.self)) in
    let whole : List ℕ → Option (Passing × Left) = λ ns. Some ((ns, placed c.place.new.self), left c.name.new.self) in
    parameter_as numbers (placed c.args.places.now) (placed c.place.new.self) (left c.args.self.now) (left c.kind.new.self) (left c.expect.new.self) (left c.name.new.self)
    c.in-Some.kind c.in_ok-name.name.spelling.now c.in_ok-location.location kind c.in_ok-expect.ensures one_star c.in_ok-name.ensures no_bracket c.in_ok-location.ensures
    ∙ ap made (sym new) ∙ ap whole (sym c.in_ok-push.ensures.items)
