-- Numbers as the `u64` in which an atomic keeps them.
use Rattle.std.specs.Prelude.{ℕ, suc, ◌≡◌, ◌<◌, ◌^◌, ◌%◌, ◌-◌, Bool, true, false, if◌then◌else◌, not, ◌==◌, ℤ, pos, negsuc, FitsSigned}
use Rattle.std.specs.Int.{cast_signed, cast_unsigned, w8, w16, w32, w64}
use Rattle.std.proofs.Common.{refl, ap, ◌∙◌, arith, to_z-of_z, mod-eq_of_lt}

-- a truth value by 1 and 0
pub bool_trip : (b : Bool) → not ((if b then 1 else 0) == 0) ≡ b
bool_trip true = refl
bool_trip false = refl

-- a number of 64 bits as itself
pub same_trip : (n : ℕ) → n ≡ n
same_trip n = refl

-- a number of k bits by its lowest k bits
pub unsigned_trip : (n k : ℕ) → n < 2 ^ k → n % 2 ^ k ≡ n
unsigned_trip n k h = mod-eq_of_lt h

-- a signed number of 8 bits by its two's complement
pub trip8 : (z : ℤ) → FitsSigned w8 z → cast_signed w8 (cast_unsigned w64 z % 2 ^ 8) ≡ z
trip8 (pos n) h = let f = h.sfits in ap (cast_signed w8) (let e : n % 2 ^ 8 ≡ n = omega arith in e) ∙ to_z-of_z h
trip8 (negsuc n) h = let f = h.sfits in ap (cast_signed w8) (let e : (2 ^ 64 - suc n) % 2 ^ 8 ≡ 2 ^ 8 - suc n = omega arith in e) ∙ to_z-of_z h

-- one of 16 bits
pub trip16 : (z : ℤ) → FitsSigned w16 z → cast_signed w16 (cast_unsigned w64 z % 2 ^ 16) ≡ z
trip16 (pos n) h = let f = h.sfits in ap (cast_signed w16) (let e : n % 2 ^ 16 ≡ n = omega arith in e) ∙ to_z-of_z h
trip16 (negsuc n) h = let f = h.sfits in ap (cast_signed w16) (let e : (2 ^ 64 - suc n) % 2 ^ 16 ≡ 2 ^ 16 - suc n = omega arith in e) ∙ to_z-of_z h

-- one of 32 bits
pub trip32 : (z : ℤ) → FitsSigned w32 z → cast_signed w32 (cast_unsigned w64 z % 2 ^ 32) ≡ z
trip32 (pos n) h = let f = h.sfits in ap (cast_signed w32) (let e : n % 2 ^ 32 ≡ n = omega arith in e) ∙ to_z-of_z h
trip32 (negsuc n) h = let f = h.sfits in ap (cast_signed w32) (let e : (2 ^ 64 - suc n) % 2 ^ 32 ≡ 2 ^ 32 - suc n = omega arith in e) ∙ to_z-of_z h

-- one of 64 bits
pub trip64 : (z : ℤ) → FitsSigned w64 z → cast_signed w64 (cast_unsigned w64 z) ≡ z
trip64 z h = to_z-of_z h
