-- Which store a load reads, as a question.
use Rattle.std.specs.Prelude.{ℕ, suc, Bool, true, false, List, [], ◌∷◌}
use Rattle.loom_objects.specs.Tree.Question.{Question, WhichStore}

-- the slots from number k on that are in the set
abbrev pub slots_from : ℕ → List Bool → List ℕ
slots_from k [] = []
slots_from k (true ∷ readable) = k ∷ slots_from (suc k) readable
slots_from k (false ∷ readable) = slots_from (suc k) readable

-- the slots in the set, in rising order
abbrev pub slots : List Bool → List ℕ
slots readable = slots_from 0 readable

-- which of these stores is read, the lowest one by itself; a load has one at least
abbrev pub asked_store : Bool → List ℕ → Question
asked_store exploring [] = WhichStore exploring 0 []
asked_store exploring (lowest ∷ others) = WhichStore exploring lowest others

-- a load, while these of the slots may be read
abbrev pub which_store : Bool → List Bool → Question
which_store exploring readable = asked_store exploring (slots readable)
