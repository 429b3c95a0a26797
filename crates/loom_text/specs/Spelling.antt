-- How signs and words are spelled, and which sign or word is read as which operator or order.
use Rattle.std.specs.Prelude.{ℕ, ◌≡◌, List, [], ◌∷◌, Option, Some, None, map, codes, if◌then◌else◌}
use Rattle.std.specs.Option.{option_and_then}
use Rattle.std.specs.Str.{bytes_eq}
use Rattle.loom_text.specs.declared.read.symbol.Symbol.{Symbol}
use Rattle.loom_text.specs.declared.read.symbol.Symbol.TheVariants as signs
use Rattle.loom_text.specs.declared.read.symbol.TheConstants.{SYMBOLS}
use Rattle.loom_text.specs.declared.read.word.Word.{Word}
use Rattle.loom_text.specs.declared.read.word.Word.TheVariants as words
use Rattle.loom_text.specs.declared.read.word.TheConstants.{WORDS}
use Rattle.loom_text.specs.declared.test.BinaryOperator.{BinaryOperator}
use Rattle.loom_text.specs.declared.test.BinaryOperator.TheVariants as binary
use Rattle.loom_text.specs.declared.test.UnaryOperator.{UnaryOperator}
use Rattle.loom_text.specs.declared.test.UnaryOperator.TheVariants as unary
use Rattle.std.specs.declared.sync.atomic.Ordering.{Ordering}
use Rattle.std.specs.declared.sync.atomic.Ordering.TheVariants as orders

-- the first row of the table that has this spelling
abbrev pub listed : {A : Type 0} → List (List ℕ × A) → List ℕ → Option A
listed [] spelling = None
listed (row ∷ rows) spelling = if bytes_eq row.0 spelling then Some row.1 else listed rows spelling

unfoldable pub symbol_of : List ℕ → Option Symbol
symbol_of = listed (map (λ row. (row.0.now, row.1)) SYMBOLS)

unfoldable pub word_of : List ℕ → Option Word
word_of = listed (map (λ row. (row.0.now, row.1)) WORDS)

-- the operator that a sign stands for between two expressions
abbrev pub operator_of : Symbol → Option BinaryOperator
operator_of signs.Either = Some binary.Or
operator_of signs.Both = Some binary.And
operator_of signs.Bar = Some binary.BitOr
operator_of signs.Caret = Some binary.BitXor
operator_of signs.Ampersand = Some binary.BitAnd
operator_of signs.Equal = Some binary.Eq
operator_of signs.NotEqual = Some binary.Ne
operator_of signs.Less = Some binary.Lt
operator_of signs.AtMost = Some binary.Le
operator_of signs.Greater = Some binary.Gt
operator_of signs.AtLeast = Some binary.Ge
operator_of signs.ShiftLeft = Some binary.Shl
operator_of signs.ShiftRight = Some binary.Shr
operator_of signs.Plus = Some binary.Add
operator_of signs.Minus = Some binary.Sub
operator_of signs.Star = Some binary.Mul
operator_of signs.Slash = Some binary.Div
operator_of signs.Percent = Some binary.Rem
operator_of _ = None

-- and before one
abbrev pub unary_of : Symbol → Option UnaryOperator
unary_of signs.Minus = Some unary.Neg
unary_of signs.Exclamation = Some unary.Not
unary_of signs.Tilde = Some unary.BitNot
unary_of _ = None

-- how an operator is written
abbrev pub binary_text : BinaryOperator → List ℕ
binary_text binary.Or = codes "||"
binary_text binary.And = codes "&&"
binary_text binary.BitOr = codes "|"
binary_text binary.BitXor = codes "^"
binary_text binary.BitAnd = codes "&"
binary_text binary.Eq = codes "=="
binary_text binary.Ne = codes "!="
binary_text binary.Lt = codes "<"
binary_text binary.Le = codes "<="
binary_text binary.Gt = codes ">"
binary_text binary.Ge = codes ">="
binary_text binary.Shl = codes "<<"
binary_text binary.Shr = codes ">>"
binary_text binary.Add = codes "+"
binary_text binary.Sub = codes "-"
binary_text binary.Mul = codes "*"
binary_text binary.Div = codes "/"
binary_text binary.Rem = codes "%"

abbrev pub unary_text : UnaryOperator → List ℕ
unary_text unary.Neg = codes "-"
unary_text unary.Not = codes "!"
unary_text unary.BitNot = codes "~"

-- how an order is written
abbrev pub order_text : Ordering → List ℕ
order_text orders.Relaxed = codes "memory_order_relaxed"
order_text orders.Acquire = codes "memory_order_acquire"
order_text orders.Release = codes "memory_order_release"
order_text orders.AcqRel = codes "memory_order_acq_rel"
order_text orders.SeqCst = codes "memory_order_seq_cst"

-- what is written for an operator or an order is one sign or word, which is read as that operator or order
abbrev pub OperatorsReadBack : Type 0
OperatorsReadBack =
    ((operator : BinaryOperator) → option_and_then operator_of (symbol_of (binary_text operator)) ≡ Some operator)
    × ((operator : UnaryOperator) → option_and_then unary_of (symbol_of (unary_text operator)) ≡ Some operator)

abbrev pub OrdersReadBack : Type 0
OrdersReadBack = (order : Ordering) → word_of (order_text order) ≡ Some (words.Order order)

-- how a sign is spelled
abbrev pub symbol_text : Symbol → List ℕ
symbol_text signs.OpenParenthesis = codes "("
symbol_text signs.CloseParenthesis = codes ")"
symbol_text signs.OpenBrace = codes "{"
symbol_text signs.CloseBrace = codes "}"
symbol_text signs.OpenBracket = codes "["
symbol_text signs.CloseBracket = codes "]"
symbol_text signs.Semicolon = codes ";"
symbol_text signs.Comma = codes ","
symbol_text signs.Colon = codes ":"
symbol_text signs.Question = codes "?"
symbol_text signs.Assign = codes "="
symbol_text signs.Equal = codes "=="
symbol_text signs.NotEqual = codes "!="
symbol_text signs.Less = codes "<"
symbol_text signs.AtMost = codes "<="
symbol_text signs.Greater = codes ">"
symbol_text signs.AtLeast = codes ">="
symbol_text signs.ShiftLeft = codes "<<"
symbol_text signs.ShiftRight = codes ">>"
symbol_text signs.Plus = codes "+"
symbol_text signs.Minus = codes "-"
symbol_text signs.Star = codes "*"
symbol_text signs.Slash = codes "/"
symbol_text signs.Percent = codes "%"
symbol_text signs.Ampersand = codes "&"
symbol_text signs.Both = codes "&&"
symbol_text signs.Bar = codes "|"
symbol_text signs.Either = codes "||"
symbol_text signs.Caret = codes "^"
symbol_text signs.Exclamation = codes "!"
symbol_text signs.Tilde = codes "~"
symbol_text signs.Conjunction = codes "/\\"
symbol_text signs.Disjunction = codes "\\/"
