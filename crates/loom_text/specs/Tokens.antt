-- The tokens that are left to read, and what reading one of them gives.
use Rattle.std.specs.Prelude.{ℕ, ℤ, pos, negsuc, zero, suc, ◌≡◌, ◌+◌, ◌^◌, nat_lt, List, [], ◌∷◌, Bool, Option, Some, None, Result, Ok, Err, map, if◌then◌else◌}
use Rattle.loom_text.specs.contracts.read.token.TokenKindPartialEq.TheImpl as same
use Rattle.loom_text.specs.declared.read.parser.Parser.{Parser}
use Rattle.loom_text.specs.declared.read.parser.TheConstants.{MAX_OPERATORS}
use Rattle.loom_text.specs.declared.read.stop.Stop.{Stop}
use Rattle.loom_text.specs.declared.read.stop.Stop.TheVariants as stops
use Rattle.loom_text.specs.declared.read.symbol.Symbol.{Symbol}
use Rattle.loom_text.specs.declared.read.symbol.Symbol.TheVariants as signs
use Rattle.loom_text.specs.declared.read.token.Token.{Token}
use Rattle.loom_text.specs.declared.read.token.TokenKind.{TokenKind}
use Rattle.loom_text.specs.declared.read.token.TokenKind.TheVariants as kinds

-- a token without its place: what it is, and how it is spelled
abbrev pub Spelled : Type 0
Spelled = TokenKind × List ℕ

abbrev pub spelled : Token → Spelled
spelled token = (token.kind, token.spelling.now)

-- the tokens that are left, and how many operators or comparisons were counted before them
abbrev pub Left : Type 0
Left = List Spelled × ℕ

abbrev pub left : Parser → Left
left parser = (map spelled parser.rest.now, parser.operators)

-- the first of them, which is the end where none is left
abbrev pub first : List Spelled → Spelled
first [] = (kinds.End, [])
first (token ∷ tokens) = token

abbrev pub others : List Spelled → List Spelled
others [] = []
others (token ∷ tokens) = tokens

abbrev pub next : Left → Spelled
next left = first left.0

-- what is left behind the next token
abbrev pub passed : Left → Left
passed left = (others left.0, left.1)

abbrev pub is_next : Symbol → Left → Bool
is_next symbol left = (same.ghosts).eq (next left).0 (kinds.Symbol symbol)

-- What a function returned, seen by view, is what reading gives. Where it stops at a place, reading gives nothing. Memory may run out.
abbrev pub Stops : {Y : Type 0} → Stop → Option Y → Type 0
Stops (stops.At problem start end) read = read ≡ None
Stops stops.Memory read = Unit {0}

abbrev pub Gives : {X Y : Type 0} → (X → Y) → Result X Stop → Option Y → Type 0
Gives view (Ok x) read = read ≡ Some (view x)
Gives view (Err e) read = Stops e read

infixl 10 ◌>>=◌
abbrev pub ◌>>=◌ : {A B : Type 0} → Option A → (A → Option B) → Option B
None >>= f = None
(Some x) >>= f = f x

-- a sign
abbrev pub after_sign : Symbol → Left → Option Left
after_sign symbol left = if is_next symbol left then Some (passed left) else None

-- a name
abbrev pub name_at : Left → Option (List ℕ × Left)
name_at left = if (same.ghosts).eq (next left).0 kinds.Name then Some ((next left).1, passed left) else None

-- one more operator or comparison
abbrev pub counted : Left → Option Left
counted left = if nat_lt left.1 MAX_OPERATORS then Some (left.0, left.1 + 1) else None

abbrev pub negated : ℕ → ℤ
negated zero = pos 0
negated (suc n) = negsuc n

-- the value of a number, with a minus or without one, if it is an int
abbrev pub value_of : ℕ → Bool → Option ℤ
value_of number negative = if negative
    then (if nat_lt (2 ^ 31) number then None else Some (negated number))
    else (if nat_lt number (2 ^ 31) then Some (pos number) else None)

abbrev pub number_at : Bool → TokenKind → Left → Option (ℤ × Left)
number_at negative (kinds.Number number) left = value_of number negative >>= λ value. Some (value, left)
number_at negative _ left = None

-- a number, which may have a minus
unfoldable pub constant_at : Left → Option (ℤ × Left)
constant_at left =
    let negative = is_next signs.Minus left in
    let digits = if negative then passed left else left in
    number_at negative (next digits).0 (passed digits)
