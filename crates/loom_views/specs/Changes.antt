-- What read-modify-writes make of a number, which is kept in 64 bits.
use Rattle.std.specs.Prelude.{ℕ, ◌+◌, ◌-◌, ◌%◌, ◌^◌, ◌==◌, Bool, not, nat_lt, if◌then◌else◌, bit_and, bit_or, bit_xor, int_lt}
use Rattle.std.specs.Int.{cast_signed, cast_unsigned, w8, w16, w32, w64}
use Rattle.loom_views.specs.declared.rt.num.change.Change.{Change}
use Rattle.loom_views.specs.declared.rt.num.change.Change.TheVariants.{Swap, Add, Sub, And, Nand, Or, Xor, Max, Min}
use Rattle.loom_views.specs.declared.rt.num.Numbers.{Numbers}
use Rattle.loom_views.specs.declared.rt.num.Numbers.TheVariants as of

-- 64 bits cast to the type, and back to 64 bits
abbrev pub fit : Numbers → ℕ → ℕ
fit of.Bool bits = if not (bits == 0) then 1 else 0
fit of.U8 bits = bits % 2 ^ 8
fit of.U16 bits = bits % 2 ^ 16
fit of.U32 bits = bits % 2 ^ 32
fit of.U64 bits = bits
fit of.I8 bits = cast_unsigned w64 (cast_signed w8 (bits % 2 ^ 8))
fit of.I16 bits = cast_unsigned w64 (cast_signed w16 (bits % 2 ^ 16))
fit of.I32 bits = cast_unsigned w64 (cast_signed w32 (bits % 2 ^ 32))
fit of.I64 bits = bits

-- the bits of the type that are not in the number
abbrev pub complement : Numbers → ℕ → ℕ
complement of.Bool number = if number == 0 then 1 else 0
complement numbers number = fit numbers (2 ^ 64 - 1 - number)

-- the order of the type
abbrev pub is_less : Numbers → ℕ → ℕ → Bool
is_less of.I8 one other = int_lt (cast_signed w64 one) (cast_signed w64 other)
is_less of.I16 one other = int_lt (cast_signed w64 one) (cast_signed w64 other)
is_less of.I32 one other = int_lt (cast_signed w64 one) (cast_signed w64 other)
is_less of.I64 one other = int_lt (cast_signed w64 one) (cast_signed w64 other)
is_less _ one other = nat_lt one other

-- the larger one of the two
abbrev pub larger : Numbers → ℕ → ℕ → ℕ
larger numbers one other = if is_less numbers one other then other else one

-- the smaller one of the two
abbrev pub smaller : Numbers → ℕ → ℕ → ℕ
smaller numbers one other = if is_less numbers other one then other else one

-- the number that takes the place of the one that was read. The other number is cast to the type first
abbrev pub changed : Numbers → Change → ℕ → ℕ
changed numbers (Swap number) read = fit numbers number
changed numbers (Add number) read = fit numbers ((read + fit numbers number) % 2 ^ 64)
changed numbers (Sub number) read = fit numbers ((read + 2 ^ 64 - fit numbers number) % 2 ^ 64)
changed numbers (And number) read = fit numbers (bit_and read (fit numbers number))
changed numbers (Nand number) read = complement numbers (bit_and read (fit numbers number))
changed numbers (Or number) read = fit numbers (bit_or read (fit numbers number))
changed numbers (Xor number) read = fit numbers (bit_xor read (fit numbers number))
changed numbers (Max number) read = larger numbers read (fit numbers number)
changed numbers (Min number) read = smaller numbers read (fit numbers number)
