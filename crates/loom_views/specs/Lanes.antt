-- A word of 128 bits as eight lanes of 16 bits: lane t is the bits 16 t to 16 t + 15.
use Rattle.std.specs.Prelude.{ℕ, ◌≡◌, ◌+◌, ◌*◌, ◌/◌, ◌%◌, ◌^◌, ◌<◌, ◌≤◌, List, [], ◌∷◌, slice_index}
use Rattle.std.specs.Int.RustNames.{bit_xor}
use Rattle.std.proofs.Common.{arith}

-- the number in lane t
abbrev pub lane : ℕ → ℕ → ℕ
lane word t = word / 2 ^ (16 * t) % 2 ^ 16

-- the numbers in all lanes, the lowest first
abbrev pub lanes_in : ℕ → List ℕ
lanes_in word = lane word 0 ∷ lane word 1 ∷ lane word 2 ∷ lane word 3 ∷ lane word 4 ∷ lane word 5 ∷ lane word 6 ∷ lane word 7 ∷ []

-- those in the lanes of the five threads
abbrev pub counts_in : ℕ → List ℕ
counts_in word = lane word 0 ∷ lane word 1 ∷ lane word 2 ∷ lane word 3 ∷ lane word 4 ∷ []

-- the word with these numbers in its lanes
abbrev pub word_of : List ℕ → ℕ
word_of [] = 0
word_of (v ∷ vs) = v + 2 ^ 16 * word_of vs

-- a word with no bit above the threads' lanes is known by their counts
pub word_of-counts_in : (word : ℕ) → word < 2 ^ 80 → word_of (counts_in word) ≡ word
word_of-counts_in word h = omega arith

-- the layout of counts in a word: thread t's are the bits 16 t to 16 t + 15, and the bits from 80 on are zero
pub record IsLaidOut (vs : List ℕ) (word : ℕ) : Type 0 where
  pub counts : (t : ℕ) → t < 5 → word / 2 ^ (16 * t) % 2 ^ 16 ≡ slice_index vs t
  pub rest : word < 2 ^ 80

-- lane t is the lowest of which the other word has the larger number
pub record IsFirstLarger (word other t : ℕ) : Type 0 where
  pub larger : lane word t < lane other t
  pub first : (k : ℕ) → k < t → lane other k ≤ lane word k

-- in each lane the other word has the larger number
abbrev pub AreLarger : ℕ → ℕ → Type 0
AreLarger word other = (t : ℕ) → t < 8 → lane word t < lane other t

-- a number of 64 bits that depends on a word alone
abbrev pub word_digest : ℕ → ℕ
word_digest word = bit_xor (word % 2 ^ 64) (word / 2 ^ 64 * 15485907386658061715 % 2 ^ 64)
