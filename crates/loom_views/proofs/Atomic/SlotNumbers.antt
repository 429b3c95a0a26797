-- Which store is in which slot.
use Rattle.std.proofs.Common.{suc, ◌≡◌, ℕ, ◌+◌, ◌%◌, ◌<◌, ◌≤◌, ◌≢◌, List, [], ◌∷◌, ◌++◌, length, ◌∙◌, arith, set, length-append}
use Rattle.std.proofs.lemmas.List.{get_or-set_same, get_or-set_other, get_or_append_left, length-set}
use Rattle.std.proofs.Math.Seq.{get_or-append_seam}
use Rattle.loom_views.specs.Atomic.Slots.{number_in_slot}
use Rattle.loom_views.specs.Atomic.History.{StorePoints, in_slot, blank}

pub number-bound : (n slot : ℕ) → slot < n → number_in_slot n slot < n
unfolding number_in_slot
number-bound n slot h = omega arith

-- it is one of the last seven
pub number-late : (n slot : ℕ) → slot < n → n ≤ number_in_slot n slot + 7
unfolding number_in_slot
number-late n slot h = omega arith

pub number-apart : (n i j : ℕ) → i < 7 → j < 7 → i ≢ j → number_in_slot n i ≢ number_in_slot n j
unfolding number_in_slot
number-apart n i j a b h = omega arith

pub number-new : (n : ℕ) → number_in_slot (suc n) (n % 7) ≡ n
unfolding number_in_slot
number-new n = omega arith

pub number-old : (n i : ℕ) → i < 7 → i < n → i ≢ n % 7 → number_in_slot (suc n) i ≡ number_in_slot n i
unfolding number_in_slot
number-old n i a b h = omega arith

length-pushed : (stores : List StorePoints) (st : StorePoints) → length (stores ++ st ∷ []) ≡ suc (length stores)
length-pushed stores st = length-append stores (st ∷ []) ∙ omega arith

pub in_slot-new : (stores : List StorePoints) (st : StorePoints) → in_slot (stores ++ st ∷ []) (length stores % 7) ≡ st
in_slot-new stores st = rw (length-pushed stores st, number-new (length stores)) (get_or-append_seam stores st [] blank)

pub in_slot-old : (stores : List StorePoints) (st : StorePoints) (i : ℕ) → i < 7 → i < length stores → i ≢ length stores % 7 → in_slot (stores ++ st ∷ []) i ≡ in_slot stores i
in_slot-old stores st i a b h = rw (length-pushed stores st, number-old (length stores) i a b h) (get_or_append_left stores (st ∷ []) blank (number_in_slot (length stores) i) (number-bound (length stores) i b))

pub in_slot-set_same : (stores : List StorePoints) (st : StorePoints) (i : ℕ) → i < length stores → in_slot (set stores (number_in_slot (length stores) i) st) i ≡ st
in_slot-set_same stores st i a = rw (length-set stores (number_in_slot (length stores) i) st) (get_or-set_same stores (number_in_slot (length stores) i) st blank (number-bound (length stores) i a))

pub in_slot-set_other : (stores : List StorePoints) (st : StorePoints) (i j : ℕ) → i < 7 → j < 7 → j ≢ i → in_slot (set stores (number_in_slot (length stores) i) st) j ≡ in_slot stores j
in_slot-set_other stores st i j a b h = rw (length-set stores (number_in_slot (length stores) i) st) (get_or-set_other stores (number_in_slot (length stores) i) (number_in_slot (length stores) j) st blank (number-apart (length stores) j i b a h))
