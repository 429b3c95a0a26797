-- How expressions are read.
use Rattle.std.specs.Prelude.{ℕ, ℤ, pos, zero, suc, ◌+◌, ◌*◌, ◌&&◌, nat_lt, List, Bool, true, false, Option, Some, None, is_some, cond, if◌then◌else◌}
use Rattle.std.specs.Int.{from_bool}
use Rattle.std.specs.declared.sync.atomic.Ordering.{Ordering}
use Rattle.std.specs.declared.sync.atomic.Ordering.TheVariants as orders
use Rattle.loom_text.specs.contracts.read.symbol.SymbolPartialEq.TheImpl as same_signs
use Rattle.loom_text.specs.contracts.read.token.TokenKindPartialEq.TheImpl as same
use Rattle.loom_text.specs.declared.read.lexer.TheConstants.{LARGEST_NUMBER}
use Rattle.loom_text.specs.declared.read.parser.TheConstants.{MAX_DEPTH, MAX_OPERATORS}
use Rattle.loom_text.specs.declared.read.symbol.Symbol.{Symbol}
use Rattle.loom_text.specs.declared.read.symbol.Symbol.TheVariants as signs
use Rattle.loom_text.specs.declared.read.token.TokenKind.{TokenKind}
use Rattle.loom_text.specs.declared.read.token.TokenKind.TheVariants as kinds
use Rattle.loom_text.specs.declared.read.word.Function.{Function}
use Rattle.loom_text.specs.declared.read.word.Function.TheVariants as functions
use Rattle.loom_text.specs.declared.read.word.Word.TheVariants as words
use Rattle.loom_text.specs.declared.test.BinaryOperator.{BinaryOperator}
use Rattle.loom_text.specs.declared.test.BinaryOperator.TheVariants as binary
use Rattle.loom_text.specs.declared.test.Expected.{Expected}
use Rattle.loom_text.specs.declared.test.Expected.TheVariants as expected
use Rattle.loom_text.specs.declared.test.Expression.{Expression}
use Rattle.loom_text.specs.declared.test.Expression.TheVariants as expressions
use Rattle.loom_text.specs.declared.test.FetchOperator.{FetchOperator}
use Rattle.loom_text.specs.declared.test.Kind.{Kind}
use Rattle.loom_text.specs.declared.test.Kind.TheVariants as location_kinds
use Rattle.loom_text.specs.declared.test.Strength.{Strength}
use Rattle.loom_text.specs.declared.test.UnaryOperator.{UnaryOperator}
use Rattle.loom_text.specs.Known.{Known, named_in, number_of, parameter_in}
use Rattle.loom_text.specs.Spelling.{operator_of, unary_of}
use Rattle.loom_text.specs.Tokens.{Left, ◌>>=◌, after_sign, constant_at, counted, is_next, name_at, next, passed}

-- an expression, wherever its parts lie
pub data Phrase : Type 0 where
  Constant : ℤ → Phrase
  OfRegister : ℕ → Phrase
  Pointed : ℕ → Phrase
  Signed : UnaryOperator → Phrase → Phrase
  Between : BinaryOperator → Phrase → Phrase → Phrase
  Loaded : ℕ → Ordering → Phrase
  Exchanged : ℕ → Phrase → Ordering → Phrase
  Fetched : FetchOperator → ℕ → Phrase → Ordering → Phrase
  Compared : Strength → ℕ → Phrase → Phrase → Ordering → Ordering → Phrase
  ComparedRegister : Strength → ℕ → ℕ → Phrase → Ordering → Ordering → Phrase
  ComparedPlain : Strength → ℕ → ℕ → Phrase → Ordering → Ordering → Phrase
  Tried : ℕ → Phrase

-- what a compare-exchange compares with
pub data Comparand : Type 0 where
  ByValue : Phrase → Comparand
  ByRegister : ℕ → Comparand
  ByPlain : ℕ → Comparand

abbrev pub comparing : Strength → ℕ → Comparand → Phrase → Ordering → Ordering → Phrase
comparing strength location (ByValue value) new success failure = Compared strength location value new success failure
comparing strength location (ByRegister register) new success failure = ComparedRegister strength location register new success failure
comparing strength location (ByPlain plain) new success failure = ComparedPlain strength location plain new success failure

abbrev mutual
  pub phrase : Expression → Phrase
  phrase (expressions.Number value) = Constant value
  phrase (expressions.Register register) = OfRegister register
  phrase (expressions.Read location) = Pointed location
  phrase (expressions.Unary' operator p operand) = Signed operator (phrase operand)
  phrase (expressions.Binary' operator p left q right) = Between operator (phrase left) (phrase right)
  phrase (expressions.Load location order) = Loaded location order
  phrase (expressions.Exchange' location p value order) = Exchanged location (phrase value) order
  phrase (expressions.Fetch' operator location p value order) = Fetched operator location (phrase value) order
  phrase (expressions.CompareExchange' strength location compared p value success failure) =
      comparing strength location (comparand compared) (phrase value) success failure
  phrase (expressions.TryLock mutex) = Tried mutex

  pub comparand : Expected → Comparand
  comparand (expected.Value' p value) = ByValue (phrase value)
  comparand (expected.Register register) = ByRegister register
  comparand (expected.Plain plain) = ByPlain plain

-- ---- names

-- the parameter of this name and kind
abbrev pub parameter_named : Known → Kind → List ℕ → Option ℕ
parameter_named scope kind name =
    if is_some (named_in scope.registers name) then None
    else number_of kind (parameter_in scope.locations name)

unfoldable pub location_at : Known → Kind → Left → Option (ℕ × Left)
location_at scope kind left =
    if is_next signs.Ampersand left then None
    else (name_at left >>= λ name. parameter_named scope kind name.0 >>= λ location. Some (location, name.1))

-- what follows a star
unfoldable pub pointed_at : Known → Left → Option (ℕ × Left)
pointed_at scope left = if is_next signs.Star left then None else location_at scope location_kinds.Plain left

-- a name that was read, as a register
abbrev pub register_from : Known → List ℕ → Left → Option ℕ
register_from scope name left = if is_next signs.OpenParenthesis left then None else named_in scope.registers name

-- the plain int to which the next token points
unfoldable pub plain_at : Known → Left → Option ℕ
plain_at scope left = if (same.ghosts).eq (next left).0 kinds.Name then parameter_named scope location_kinds.Plain (next left).1 else None

-- ---- the arguments of a call that has so many

abbrev pub orders_of : Bool → ℕ
orders_of explicit = cond explicit 1 0

abbrev pub arguments_of : Function → Bool → ℕ
arguments_of functions.Load explicit = 1 + orders_of explicit
arguments_of functions.Store explicit = 2 + orders_of explicit
arguments_of functions.Exchange explicit = 2 + orders_of explicit
arguments_of (functions.Fetch operator) explicit = 2 + orders_of explicit
arguments_of (functions.CompareExchange strength) explicit = 3 + 2 * orders_of explicit
arguments_of functions.Wait explicit = 2
arguments_of functions.Fence explicit = 1
arguments_of functions.Lock explicit = 1
arguments_of functions.Unlock explicit = 1
arguments_of functions.TryLock explicit = 1
arguments_of functions.Signal explicit = 1
arguments_of functions.Broadcast explicit = 1
arguments_of functions.Assert explicit = 1
arguments_of functions.Yield explicit = 0

unfoldable pub begin_arguments_at : ℕ → Left → Option Left
begin_arguments_at count left =
    after_sign signs.OpenParenthesis left >>= λ left.
    if nat_lt 0 count && is_next signs.CloseParenthesis left then None else Some left

unfoldable pub next_argument_at : Left → Option Left
next_argument_at left = if is_next signs.CloseParenthesis left then None else after_sign signs.Comma left

unfoldable pub end_arguments_at : Left → Option Left
end_arguments_at left = if is_next signs.Comma left then None else after_sign signs.CloseParenthesis left

unfoldable pub first_location_at : Known → ℕ → Kind → Left → Option (ℕ × Left)
first_location_at scope count kind left = begin_arguments_at count left >>= λ left. location_at scope kind left

abbrev pub order_from : TokenKind → Left → Option (Ordering × Left)
order_from (kinds.Word (words.Order order)) left = Some (order, left)
order_from _ left = None

unfoldable pub order_at : Bool → Left → Option (Ordering × Left)
order_at explicit left =
    if explicit then (next_argument_at left >>= λ left. order_from (next left).0 (passed left)) else Some (orders.SeqCst, left)

abbrev pub for_a_load : Ordering → Bool
for_a_load orders.Relaxed = true
for_a_load orders.Acquire = true
for_a_load orders.SeqCst = true
for_a_load orders.Release = false
for_a_load orders.AcqRel = false

unfoldable pub load_order_at : Bool → Left → Option (Ordering × Left)
load_order_at explicit left = order_at explicit left >>= λ order. if for_a_load order.0 then Some order else None

-- ---- parts of expressions, by how deep they may be nested

abbrev pub Reads : Type 0
Reads = Left → Option (Phrase × Left)

-- what is read at one depth: with an operator before it or none, and with operators between that bind at least so strongly
pub record Readers : Type 0 where
  pub one : Reads
  pub many : ℕ → Reads

-- a further argument
unfoldable pub argument_at : Readers → Left → Option (Phrase × Left)
argument_at readers left = next_argument_at left >>= λ left. readers.many 1 left

abbrev pub by_value : Readers → Option ℕ → Left → Option (Comparand × Left)
by_value readers (Some location) left = Some (ByPlain location, passed left)
by_value readers None left = readers.many 1 left >>= λ value. Some (ByValue value.0, value.1)

unfoldable pub compared_at : Known → Readers → Left → Option (Comparand × Left)
compared_at scope readers left =
    next_argument_at left >>= λ left.
    if is_next signs.Ampersand left
    then (name_at (passed left) >>= λ name. register_from scope name.0 name.1 >>= λ register. Some (ByRegister register, name.1))
    else by_value readers (plain_at scope left) left

unfoldable pub exchange_at : Known → Readers → ℕ → Bool → Left → Option (Phrase × Left)
exchange_at scope readers count explicit left =
    first_location_at scope count location_kinds.Atomic left >>= λ location.
    argument_at readers location.1 >>= λ value.
    order_at explicit value.1 >>= λ order.
    Some (Exchanged location.0 value.0 order.0, order.1)

unfoldable pub fetch_at : Known → Readers → FetchOperator → ℕ → Bool → Left → Option (Phrase × Left)
fetch_at scope readers operator count explicit left =
    first_location_at scope count location_kinds.Atomic left >>= λ location.
    argument_at readers location.1 >>= λ value.
    order_at explicit value.1 >>= λ order.
    Some (Fetched operator location.0 value.0 order.0, order.1)

unfoldable pub compare_exchange_at : Known → Readers → Strength → ℕ → Bool → Left → Option (Phrase × Left)
compare_exchange_at scope readers strength count explicit left =
    first_location_at scope count location_kinds.Atomic left >>= λ location.
    compared_at scope readers location.1 >>= λ compared.
    argument_at readers compared.1 >>= λ value.
    order_at explicit value.1 >>= λ success.
    load_order_at explicit success.1 >>= λ failure.
    Some (comparing strength location.0 compared.0 value.0 success.0 failure.0, failure.1)

abbrev pub arguments_at : Known → Readers → Function → ℕ → Bool → Left → Option (Phrase × Left)
arguments_at scope readers functions.Load count explicit left =
    first_location_at scope count location_kinds.Atomic left >>= λ location.
    load_order_at explicit location.1 >>= λ order.
    Some (Loaded location.0 order.0, order.1)
arguments_at scope readers functions.Exchange count explicit left = exchange_at scope readers count explicit left
arguments_at scope readers (functions.Fetch operator) count explicit left = fetch_at scope readers operator count explicit left
arguments_at scope readers (functions.CompareExchange strength) count explicit left = compare_exchange_at scope readers strength count explicit left
arguments_at scope readers functions.TryLock count explicit left =
    first_location_at scope count location_kinds.Mutex left >>= λ location. Some (Tried location.0, location.1)
arguments_at scope readers _ count explicit left = None

-- a call that has a value
unfoldable pub call_at : Known → Readers → Function → Bool → Left → Option (Phrase × Left)
call_at scope readers function explicit left =
    arguments_at scope readers function (arguments_of function explicit) explicit left >>= λ call.
    end_arguments_at call.1 >>= λ left.
    Some (call.0, left)

-- a type after a parenthesis is a cast
abbrev pub is_type : TokenKind → Bool
is_type (kinds.Word (words.«Type» kind)) = true
is_type (kinds.Word words.Qualifier) = true
is_type (kinds.Word words.OtherType) = true
is_type (kinds.Word words.Void) = true
is_type _ = false

-- what is in parentheses, behind the first
unfoldable pub enclosed_with : Option Readers → Reads
enclosed_with inside left =
    if is_type (next left).0 then None
    else (inside >>= λ inside.
    inside.many 1 left >>= λ read.
    after_sign signs.CloseParenthesis read.1 >>= λ left.
    Some (read.0, left))

-- a number, a name, a call or parentheses
abbrev pub primary_from : Known → Option Readers → TokenKind → List ℕ → Left → Left → Option (Phrase × Left)
primary_from scope inside (kinds.Number number) spelling behind left = constant_at left >>= λ value. Some (Constant value.0, value.1)
primary_from scope inside (kinds.Word (words.Status busy)) spelling behind left = Some (Constant (pos (from_bool busy)), behind)
primary_from scope inside kinds.Name spelling behind left = register_from scope spelling behind >>= λ register. Some (OfRegister register, behind)
primary_from scope inside (kinds.Word (words.Function function explicit)) spelling behind left =
    inside >>= λ inside. call_at scope inside function explicit behind
primary_from scope inside (kinds.Symbol signs.OpenParenthesis) spelling behind left = enclosed_with inside behind
primary_from scope inside _ spelling behind left = None

unfoldable pub primary_with : Known → Option Readers → Reads
primary_with scope inside left = primary_from scope inside (next left).0 (next left).1 (passed left) left

-- a sign, and what follows it
unfoldable pub signed_as : Option Readers → UnaryOperator → Reads
signed_as inside operator left = inside >>= λ inside. inside.one (passed left) >>= λ operand. Some (Signed operator operand.0, operand.1)

abbrev pub signed_with : Known → Option Readers → Option UnaryOperator → Reads
signed_with scope inside None left = primary_with scope inside left
signed_with scope inside (Some operator) left = signed_as inside operator left

-- the least int, whose digits alone are too large for one
abbrev pub is_least : Symbol → Left → Bool
is_least symbol behind = (same_signs.ghosts).eq symbol signs.Minus && (same.ghosts).eq (next behind).0 (kinds.Number LARGEST_NUMBER)

abbrev pub one_from : Known → Option Readers → TokenKind → Reads
one_from scope inside (kinds.Symbol symbol) left =
    if (same_signs.ghosts).eq symbol signs.Ampersand then None
    else (if (same_signs.ghosts).eq symbol signs.Star
    then (pointed_at scope (passed left) >>= λ location. Some (Pointed location.0, location.1))
    else (if is_least symbol (passed left)
    then (constant_at left >>= λ value. Some (Constant value.0, value.1))
    else signed_with scope inside (unary_of symbol) left))
one_from scope inside _ left = primary_with scope inside left

unfoldable pub one_with : Known → Option Readers → Reads
one_with scope inside left = one_from scope inside (next left).0 left

-- how strongly an operator binds
abbrev pub binds : BinaryOperator → ℕ
binds binary.Or = 1
binds binary.And = 2
binds binary.BitOr = 3
binds binary.BitXor = 4
binds binary.BitAnd = 5
binds binary.Eq = 6
binds binary.Ne = 6
binds binary.Lt = 7
binds binary.Le = 7
binds binary.Gt = 7
binds binary.Ge = 7
binds binary.Shl = 8
binds binary.Shr = 8
binds binary.Add = 9
binds binary.Sub = 9
binds binary.Mul = 10
binds binary.Div = 10
binds binary.Rem = 10

-- the operator that a token is, if it binds at least so strongly
abbrev pub operator_from : ℕ → TokenKind → Option BinaryOperator
operator_from lowest (kinds.Symbol symbol) = operator_of symbol >>= λ operator. if nat_lt (binds operator) lowest then None else Some operator
operator_from lowest _ = None

unfoldable pub operator_at : ℕ → Left → Option BinaryOperator
operator_at lowest left = operator_from lowest (next left).0

-- the operators behind what was read, so many at most, joined from the left
abbrev pub by_operator : Option Readers → (Phrase → Reads) → Phrase → Option BinaryOperator → Reads
by_operator inside others read None left = Some (read, left)
by_operator inside others read (Some operator) left =
    counted left >>= λ left.
    inside >>= λ inside.
    inside.many (binds operator + 1) (passed left) >>= λ right.
    others (Between operator read right.0) right.1

unfoldable pub operators_at : Option Readers → ℕ → ℕ → Phrase → Reads
operators_at inside lowest zero read left = None
operators_at inside lowest (suc n) read left = by_operator inside (operators_at inside lowest n) read (operator_at lowest left) left

unfoldable pub many_with : Known → Option Readers → ℕ → Reads
many_with scope inside lowest left = one_with scope inside left >>= λ first. operators_at inside lowest (MAX_OPERATORS + 1) first.0 first.1

-- at this depth, with parts that may be so deep in it
unfoldable pub readers : Known → ℕ → Readers
readers scope zero = record { one = one_with scope None; many = many_with scope None }
readers scope (suc depth) = record { one = one_with scope (Some (readers scope depth)); many = many_with scope (Some (readers scope depth)) }

-- what may be inside
unfoldable pub inside : Known → ℕ → Option Readers
inside scope zero = None
inside scope (suc depth) = Some (readers scope depth)

-- a whole expression
unfoldable pub expression_at : Known → Left → Option (Phrase × Left)
expression_at scope left = many_with scope (inside scope MAX_DEPTH) 1 (left.0, 0)
