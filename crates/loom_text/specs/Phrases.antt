-- Which tokens an expression is written as, and that reading them gives it again.
use Rattle.std.specs.Prelude.{ℕ, ℤ, pos, negsuc, suc, ◌≡◌, ◌+◌, ◌<◌, ◌≤◌, ◌^◌, nat_lt, max, List, [], ◌∷◌, ◌++◌, Bool, true, false, Some, None, slice_get, codes, if◌then◌else◌}
use Rattle.std.specs.Option.{unwrap_or}
use Rattle.std.specs.declared.sync.atomic.Ordering.{Ordering}
use Rattle.loom_text.specs.declared.read.parser.TheConstants.{MAX_DEPTH, MAX_OPERATORS}
use Rattle.loom_text.specs.declared.read.symbol.Symbol.{Symbol}
use Rattle.loom_text.specs.declared.read.symbol.Symbol.TheVariants as signs
use Rattle.loom_text.specs.declared.read.word.Function.{Function}
use Rattle.loom_text.specs.declared.read.word.Function.TheVariants as functions
use Rattle.loom_text.specs.declared.read.word.Word.TheVariants as words
use Rattle.loom_text.specs.declared.test.BinaryOperator.{BinaryOperator}
use Rattle.loom_text.specs.declared.test.BinaryOperator.TheVariants as binary
use Rattle.loom_text.specs.declared.test.FetchOperator.{FetchOperator}
use Rattle.loom_text.specs.declared.test.FetchOperator.TheVariants as fetch
use Rattle.loom_text.specs.declared.test.Kind.TheVariants as location_kinds
use Rattle.loom_text.specs.declared.test.Strength.{Strength}
use Rattle.loom_text.specs.declared.test.Strength.TheVariants as strengths
use Rattle.loom_text.specs.declared.test.UnaryOperator.{UnaryOperator}
use Rattle.loom_text.specs.declared.test.UnaryOperator.TheVariants as unary
use Rattle.loom_text.specs.Expressions.{Phrase, Constant, OfRegister, Pointed, Signed, Between, Loaded, Exchanged, Fetched, Compared, ComparedRegister, ComparedPlain, Tried, binds, expression_at, for_a_load, operator_at, parameter_named}
use Rattle.loom_text.specs.Known.{Known, name_of, named_in}
use Rattle.loom_text.specs.Printing.{in_parentheses, name, printed_value, sign}
use Rattle.loom_text.specs.Readable.{word}
use Rattle.loom_text.specs.Spelling.{order_text}
use Rattle.loom_text.specs.Tokens.{Spelled, is_next}

abbrev pub unary_sign : UnaryOperator → Symbol
unary_sign unary.Neg = signs.Minus
unary_sign unary.Not = signs.Exclamation
unary_sign unary.BitNot = signs.Tilde

abbrev pub binary_sign : BinaryOperator → Symbol
binary_sign binary.Or = signs.Either
binary_sign binary.And = signs.Both
binary_sign binary.BitOr = signs.Bar
binary_sign binary.BitXor = signs.Caret
binary_sign binary.BitAnd = signs.Ampersand
binary_sign binary.Eq = signs.Equal
binary_sign binary.Ne = signs.NotEqual
binary_sign binary.Lt = signs.Less
binary_sign binary.Le = signs.AtMost
binary_sign binary.Gt = signs.Greater
binary_sign binary.Ge = signs.AtLeast
binary_sign binary.Shl = signs.ShiftLeft
binary_sign binary.Shr = signs.ShiftRight
binary_sign binary.Add = signs.Plus
binary_sign binary.Sub = signs.Minus
binary_sign binary.Mul = signs.Star
binary_sign binary.Div = signs.Slash
binary_sign binary.Rem = signs.Percent

abbrev pub fetch_text : FetchOperator → List ℕ
fetch_text fetch.Add = codes "atomic_fetch_add_explicit"
fetch_text fetch.Sub = codes "atomic_fetch_sub_explicit"
fetch_text fetch.Or = codes "atomic_fetch_or_explicit"
fetch_text fetch.Xor = codes "atomic_fetch_xor_explicit"
fetch_text fetch.And = codes "atomic_fetch_and_explicit"

abbrev pub compare_text : Strength → List ℕ
compare_text strengths.Strong = codes "atomic_compare_exchange_strong_explicit"
compare_text strengths.Weak = codes "atomic_compare_exchange_weak_explicit"

abbrev pub register_name_in : Known → ℕ → List ℕ
register_name_in scope register = unwrap_or (slice_get scope.registers register) (codes "?")

abbrev pub location_token : Known → ℕ → Spelled
location_token scope location = name (name_of scope.locations location)

-- a call's name and its parenthesis
abbrev pub calling : Function → Bool → List ℕ → List Spelled → List Spelled
calling function explicit spelling tokens = word (words.Function function explicit) spelling ∷ sign signs.OpenParenthesis ∷ tokens

abbrev pub comma_order : Ordering → List Spelled → List Spelled
comma_order order behind = sign signs.Comma ∷ word (words.Order order) (order_text order) ∷ behind

abbrev pub closing : List Spelled
closing = sign signs.CloseParenthesis ∷ []

-- The expression, in parentheses where it binds less strongly than so: an operator as `binds` says, a sign before it 11.
unfoldable pub printed_phrase : Known → ℕ → Phrase → List Spelled
printed_phrase scope lowest (Constant value) = printed_value value
printed_phrase scope lowest (OfRegister register) = name (register_name_in scope register) ∷ []
printed_phrase scope lowest (Pointed location) = sign signs.Star ∷ location_token scope location ∷ []
printed_phrase scope lowest (Signed operator operand) =
    in_parentheses (nat_lt 11 lowest) (sign (unary_sign operator) ∷ printed_phrase scope 11 operand)
printed_phrase scope lowest (Between operator left right) =
    in_parentheses (nat_lt (binds operator) lowest)
    (printed_phrase scope (binds operator) left ++ (sign (binary_sign operator) ∷ printed_phrase scope (binds operator + 1) right))
printed_phrase scope lowest (Loaded location order) =
    calling functions.Load true (codes "atomic_load_explicit") (location_token scope location ∷ comma_order order closing)
printed_phrase scope lowest (Exchanged location value order) =
    calling functions.Exchange true (codes "atomic_exchange_explicit")
    (location_token scope location ∷ sign signs.Comma ∷ (printed_phrase scope 1 value ++ comma_order order closing))
printed_phrase scope lowest (Fetched operator location value order) =
    calling (functions.Fetch operator) true (fetch_text operator)
    (location_token scope location ∷ sign signs.Comma ∷ (printed_phrase scope 1 value ++ comma_order order closing))
printed_phrase scope lowest (Compared strength location compared value success failure) =
    calling (functions.CompareExchange strength) true (compare_text strength)
    (location_token scope location ∷ sign signs.Comma ∷ (printed_phrase scope 1 compared
    ++ (sign signs.Comma ∷ (printed_phrase scope 1 value ++ comma_order success (comma_order failure closing)))))
printed_phrase scope lowest (ComparedRegister strength location register value success failure) =
    calling (functions.CompareExchange strength) true (compare_text strength)
    (location_token scope location ∷ sign signs.Comma ∷ sign signs.Ampersand ∷ name (register_name_in scope register)
    ∷ sign signs.Comma ∷ (printed_phrase scope 1 value ++ comma_order success (comma_order failure closing)))
printed_phrase scope lowest (ComparedPlain strength location plain value success failure) =
    calling (functions.CompareExchange strength) true (compare_text strength)
    (location_token scope location ∷ sign signs.Comma ∷ location_token scope plain
    ∷ sign signs.Comma ∷ (printed_phrase scope 1 value ++ comma_order success (comma_order failure closing)))
printed_phrase scope lowest (Tried mutex) =
    calling functions.TryLock false (codes "mtx_trylock") (location_token scope mutex ∷ closing)

-- ---- what can be read

-- a number without a sign, or the least int
abbrev pub IsConstant : ℤ → Type 0
IsConstant (pos n) = n < 2 ^ 31
IsConstant (negsuc n) = suc n ≡ 2 ^ 31

-- its name leads to it
abbrev pub IsFoundRegister : Known → ℕ → Type 0
IsFoundRegister scope register = named_in scope.registers (register_name_in scope register) ≡ Some register

abbrev pub IsAtomic : Known → ℕ → Type 0
IsAtomic scope location = parameter_named scope location_kinds.Atomic (name_of scope.locations location) ≡ Some location

-- each name leads to what it names, and each order is one that its operation may have
abbrev pub IsWritablePhrase : Known → Phrase → Type 0
IsWritablePhrase scope (Constant value) = IsConstant value
IsWritablePhrase scope (OfRegister register) = IsFoundRegister scope register
IsWritablePhrase scope (Pointed location) = parameter_named scope location_kinds.Plain (name_of scope.locations location) ≡ Some location
IsWritablePhrase scope (Signed operator operand) = IsWritablePhrase scope operand
IsWritablePhrase scope (Between operator left right) = IsWritablePhrase scope left × IsWritablePhrase scope right
IsWritablePhrase scope (Loaded location order) = IsAtomic scope location × (for_a_load order ≡ true)
IsWritablePhrase scope (Exchanged location value order) = IsAtomic scope location × IsWritablePhrase scope value
IsWritablePhrase scope (Fetched operator location value order) = IsAtomic scope location × IsWritablePhrase scope value
IsWritablePhrase scope (Compared strength location compared value success failure) =
    IsAtomic scope location × IsWritablePhrase scope compared × IsWritablePhrase scope value × (for_a_load failure ≡ true)
IsWritablePhrase scope (ComparedRegister strength location register value success failure) =
    IsAtomic scope location × IsFoundRegister scope register × IsWritablePhrase scope value × (for_a_load failure ≡ true)
IsWritablePhrase scope (ComparedPlain strength location plain value success failure) =
    IsAtomic scope location × (parameter_named scope location_kinds.Plain (name_of scope.locations plain) ≡ Some plain) × IsWritablePhrase scope value × (for_a_load failure ≡ true)
IsWritablePhrase scope (Tried mutex) = parameter_named scope location_kinds.Mutex (name_of scope.locations mutex) ≡ Some mutex

-- how many operators are between two expressions
abbrev pub operators : Phrase → ℕ
operators (Constant value) = 0
operators (OfRegister register) = 0
operators (Pointed location) = 0
operators (Signed operator operand) = operators operand
operators (Between operator left right) = operators left + 1 + operators right
operators (Loaded location order) = 0
operators (Exchanged location value order) = operators value
operators (Fetched operator location value order) = operators value
operators (Compared strength location compared value success failure) = operators compared + operators value
operators (ComparedRegister strength location register value success failure) = operators value
operators (ComparedPlain strength location plain value success failure) = operators value
operators (Tried mutex) = 0

-- how many signs, right operands, calls and parentheses are in one another, where it is written so
abbrev pub phrase_depth : ℕ → Phrase → ℕ
phrase_depth lowest (Constant value) = 0
phrase_depth lowest (OfRegister register) = 0
phrase_depth lowest (Pointed location) = 0
phrase_depth lowest (Signed operator operand) = (if nat_lt 11 lowest then 1 else 0) + (1 + phrase_depth 11 operand)
phrase_depth lowest (Between operator left right) =
    (if nat_lt (binds operator) lowest then 1 else 0) + max (phrase_depth (binds operator) left) (1 + phrase_depth (binds operator + 1) right)
phrase_depth lowest (Loaded location order) = 1
phrase_depth lowest (Exchanged location value order) = 1 + phrase_depth 1 value
phrase_depth lowest (Fetched operator location value order) = 1 + phrase_depth 1 value
phrase_depth lowest (Compared strength location compared value success failure) = 1 + max (phrase_depth 1 compared) (phrase_depth 1 value)
phrase_depth lowest (ComparedRegister strength location register value success failure) = 1 + phrase_depth 1 value
phrase_depth lowest (ComparedPlain strength location plain value success failure) = 1 + phrase_depth 1 value
phrase_depth lowest (Tried mutex) = 1

-- what is written of it is read: it isn't deeper or longer than what is read
pub record PhraseCanBeRead (scope : Known) (phrase : Phrase) : Type 0 where
  pub writable : IsWritablePhrase scope phrase
  pub few : operators phrase ≤ MAX_OPERATORS
  pub shallow : phrase_depth 1 phrase ≤ MAX_DEPTH

-- What is written of an expression is read as that expression, whatever follows it that doesn't go on with it.
abbrev pub ExpressionsReadBack : Type 0
ExpressionsReadBack = (scope : Known) (phrase : Phrase) (behind : List Spelled) (count : ℕ) → PhraseCanBeRead scope phrase
    → is_next signs.OpenParenthesis (behind, 0) ≡ false → operator_at 1 (behind, 0) ≡ None
    → expression_at scope (printed_phrase scope 1 phrase ++ behind, count) ≡ Some (phrase, (behind, operators phrase))
