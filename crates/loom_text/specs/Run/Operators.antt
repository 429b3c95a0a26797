-- What C's operators make of two numbers. A number is the 32 bits of an int: those from 2 ^ 31 on stand for the negative ones.
use Rattle.std.specs.Prelude.{ℕ, ◌+◌, ◌-◌, ◌*◌, ◌/◌, ◌%◌, ◌^◌, ◌==◌, Bool, not, cond, nat_lt, bit_and, bit_or, bit_xor}
use Rattle.loom_text.specs.declared.run.operators.Operator.{Operator}
use Rattle.loom_text.specs.declared.run.operators.Operator.TheVariants.{Add, Sub, Mul, Div, Rem, BitAnd, BitOr, BitXor, Shl, Shr, Eq, Ne, Lt, Le}

-- a truth value as a number
abbrev pub truth : Bool → ℕ
truth holds = cond holds 1 0

abbrev pub is_negative : ℕ → Bool
is_negative n = not (nat_lt n (2 ^ 31))

-- 0 less the number
abbrev pub negated : ℕ → ℕ
negated n = (2 ^ 32 - n) % 2 ^ 32

-- the number without its sign
abbrev pub size : ℕ → ℕ
size n = cond (is_negative n) (negated n) n

-- where the signs are the same the number, and else its negative
abbrev pub signed : Bool → ℕ → ℕ
signed same n = cond same n (negated n)

abbrev pub same_sign : ℕ → ℕ → Bool
same_sign a b = cond (is_negative a) (is_negative b) (not (is_negative b))

-- the order of ints: negative ones come first
abbrev pub is_less : ℕ → ℕ → Bool
is_less a b = cond (same_sign a b) (nat_lt a b) (is_negative a)

-- rounded towards 0; by 0 it is 0
abbrev pub quotient : ℕ → ℕ → ℕ
quotient a b = cond (size b == 0) 0 (signed (same_sign a b) (size a / size b))

-- with the sign of the first; by 0 it is the first
abbrev pub remainder : ℕ → ℕ → ℕ
remainder a b = cond (size b == 0) a (signed (not (is_negative a)) (size a % size b))

abbrev pub shifted_left : ℕ → ℕ → ℕ
shifted_left n by = (n * 2 ^ (by % 32)) % 2 ^ 32

-- with copies of the sign
abbrev pub shifted_right : ℕ → ℕ → ℕ
shifted_right n by = cond (is_negative n) (2 ^ 32 - 1 - (2 ^ 32 - 1 - n) / 2 ^ (by % 32)) (n / 2 ^ (by % 32))

abbrev pub applied : Operator → ℕ → ℕ → ℕ
applied Add a b = (a + b) % 2 ^ 32
applied Sub a b = (a + (2 ^ 32 - b)) % 2 ^ 32
applied Mul a b = (a * b) % 2 ^ 32
applied Div a b = quotient a b
applied Rem a b = remainder a b
applied BitAnd a b = bit_and a b
applied BitOr a b = bit_or a b
applied BitXor a b = bit_xor a b
applied Shl a b = shifted_left a b
applied Shr a b = shifted_right a b
applied Eq a b = truth (a == b)
applied Ne a b = truth (not (a == b))
applied Lt a b = truth (is_less a b)
applied Le a b = truth (not (is_less b a))
