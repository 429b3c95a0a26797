-- The numbers below a bound, and which slots a reader may choose.
use Rattle.std.specs.Prelude.{ℕ, zero, suc, ◌+◌, ◌-◌, ◌*◌, ◌/◌, Bool, false, not, ◌&&◌, ◌==◌, min, List, [], ◌∷◌, ◌++◌, map, Option, Some, None}
use Rattle.std.specs.List.{list_any, filter}

-- the numbers below n, in rising order
abbrev pub upto : ℕ → List ℕ
upto zero = []
upto (suc n) = upto n ++ n ∷ []

-- the slots in which the last seven of n stores are kept
abbrev pub slots : ℕ → List ℕ
slots n = upto (min n 7)

-- the last of n stores whose number, modulo seven, is the slot
unfoldable pub number_in_slot : ℕ → ℕ → ℕ
number_in_slot n slot = slot + 7 * ((n - 1 - slot) / 7)

-- a slot that is left out
abbrev pub is_left_out : Option ℕ → ℕ → Bool
is_left_out None i = false
is_left_out (Some slot) i = i == slot

-- `drops i j`: the store in slot j keeps a reader from choosing slot i
-- the slots that no slot drops
abbrev pub readable_slots : (ℕ → ℕ → Bool) → ℕ → List ℕ
readable_slots drops n = filter (λ i. not (list_any (drops i) (slots n))) (slots n)

-- `same i j`: two slots have equal orders
-- slot i has the order of another slot j, and no slot before j drops i
abbrev pub has_order_of : (ℕ → ℕ → Bool) → (ℕ → ℕ → Bool) → ℕ → ℕ → Bool
has_order_of same drops i j = (not (i == j) && same i j) && not (list_any (drops i) (upto j))

-- slot i has the order of some other slot, before any slot drops it
abbrev pub has_equal_order_at : (ℕ → ℕ → Bool) → (ℕ → ℕ → Bool) → ℕ → ℕ → Bool
has_equal_order_at same drops n i = list_any (has_order_of same drops i) (slots n)

-- some slot does
abbrev pub has_equal_orders : (ℕ → ℕ → Bool) → (ℕ → ℕ → Bool) → ℕ → Bool
has_equal_orders same drops n = list_any (has_equal_order_at same drops n) (slots n)

-- whether a list has the slot
abbrev pub has_slot : List ℕ → ℕ → Bool
has_slot slots i = list_any (λ j. j == i) slots

-- the set of the slots in a list: whether it has slot 0, slot 1 and so on
abbrev pub slot_set : List ℕ → List Bool
slot_set slots = map (has_slot slots) (0 ∷ 1 ∷ 2 ∷ 3 ∷ 4 ∷ 5 ∷ 6 ∷ [])
