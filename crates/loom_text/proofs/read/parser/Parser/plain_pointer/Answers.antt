use Rattle.std.proofs.Common.{◌≡◌, ◌∙◌, ℕ, Option, true, false, is_some, ap, sym, arith}
use Rattle.loom_text.proofs.ExpressionSteps.{plain_as}
use Rattle.loom_text.specs.contracts.read.token.TokenKindPartialEq.TheImpl as same
use Rattle.loom_text.specs.declared.read.token.TokenKind.TheVariants as kinds
use Rattle.loom_text.specs.Known.{known, named_in}
use Rattle.loom_text.specs.Tokens.{left, spelled}
use Rattle.loom_text.proofs.read.parser.Parser.plain_pointer.Goals as goal

pub returns : goal.returns
returns c =
    let scope = known c.args.scope.now in
    let token = spelled c.peek-token.result in
    let name : (same.ghosts).eq token.0 kinds.Name ≡ true = grind (arith, c.ne.ensures, c.if-ne.false) in
    let free : is_some (named_in scope.registers token.1) ≡ false = ap (λ (o : Option ℕ). is_some o) (sym c.register_of.ensures) ∙ sym c.is_some.ensures ∙ c.if-is_some.false in
    c.plain_of.ensures ∙ sym (plain_as scope (left c.args.self.now) token c.peek-token.ensures name free)
