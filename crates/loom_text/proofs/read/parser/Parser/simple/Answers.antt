use Rattle.std.proofs.Common.{◌≡◌, ◌∙◌, ap, sym}
use Rattle.loom_text.proofs.StatementSteps.{nothing_held}
use Rattle.loom_text.specs.declared.read.symbol.Symbol.{Symbol}
use Rattle.loom_text.specs.declared.read.symbol.Symbol.TheVariants as signs
use Rattle.loom_text.specs.declared.read.token.TokenKind.TheVariants as kinds
use Rattle.loom_text.specs.Known.{known}
use Rattle.loom_text.specs.Tokens.{Spelled, left, next}
use Rattle.loom_text.proofs.read.parser.Parser.simple.Goals as goal

pub returns-in-Symbol-Semicolon : goal.returns-in-Symbol-Semicolon
returns-in-Symbol-Semicolon c =
    let seen : c.peek-token.result.kind ≡ (next (left c.args.self.now)).0 = ap (λ (s : Spelled). s.0) c.peek-token.ensures in
    let which : c.in-Symbol-Semicolon.field-0 ≡ signs.Semicolon = rw c.in-Symbol-Semicolon.is at c.in-Symbol-Semicolon.field-0-is in
    let kind : (next (left c.args.self.now)).0 ≡ kinds.Symbol signs.Semicolon = sym seen ∙ (c.in-Symbol-Semicolon.is ∙ ap (λ (s : Symbol). kinds.Symbol s) which) in
    nothing_held (known c.args.scope.now) (left c.args.self.now) c.new.result kind c.new.ensures.items
