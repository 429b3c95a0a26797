use Rattle.std.proofs.Common.{◌≡◌, Some, refl}
use Rattle.std.specs.Option.{option_and_then}
use Rattle.loom_text.specs.Spelling.{binary_text, operator_of, symbol_of, unary_of, unary_text}
use Rattle.loom_text.specs.declared.test.BinaryOperator.{BinaryOperator}
use Rattle.loom_text.specs.declared.test.BinaryOperator.TheVariants as binary
use Rattle.loom_text.specs.declared.test.UnaryOperator.{UnaryOperator}
use Rattle.loom_text.specs.declared.test.UnaryOperator.TheVariants as unary
use Rattle.loom_text.proofs.laws.operators_read_back.Goals as goal

between : (operator : BinaryOperator) → option_and_then operator_of (symbol_of (binary_text operator)) ≡ Some operator
unfolding symbol_of
between binary.Or = refl
between binary.And = refl
between binary.BitOr = refl
between binary.BitXor = refl
between binary.BitAnd = refl
between binary.Eq = refl
between binary.Ne = refl
between binary.Lt = refl
between binary.Le = refl
between binary.Gt = refl
between binary.Ge = refl
between binary.Shl = refl
between binary.Shr = refl
between binary.Add = refl
between binary.Sub = refl
between binary.Mul = refl
between binary.Div = refl
between binary.Rem = refl

before : (operator : UnaryOperator) → option_and_then unary_of (symbol_of (unary_text operator)) ≡ Some operator
unfolding symbol_of
before unary.Neg = refl
before unary.Not = refl
before unary.BitNot = refl

pub returns : goal.returns
returns c = (between, before)
