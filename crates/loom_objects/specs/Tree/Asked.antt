-- The questions of a schedule, and of a thread that may wake without a notification.
use Rattle.std.specs.Prelude.{ℕ, suc, List, [], ◌∷◌, Bool, Option, Some, None}
use Rattle.loom_objects.specs.declared.rt.schedule.Offers.{Offers}
use Rattle.loom_objects.specs.Tree.Question.{Question, WhichThread, WhetherSpurious}

-- the pairs of a place and a thread, from thread t on, of the places that there are
abbrev pub pairs_from : ℕ → List (Option ℕ) → List (ℕ × ℕ)
pairs_from t [] = []
pairs_from t (None ∷ places) = pairs_from (suc t) places
pairs_from t (Some place ∷ places) = (place, t) ∷ pairs_from (suc t) places

-- for each thread, in order, the place where the access was made that it isn't ordered after, if there is one
abbrev pub pairs : List (Option ℕ) → List (ℕ × ℕ)
pairs places = pairs_from 0 places

-- a schedule, where the search explores or doesn't, while the threads offer this, and are about to make accesses that aren't
-- ordered after those at these places
abbrev pub which_thread : Bool → Offers → List (Option ℕ) → Question
which_thread exploring offers places = WhichThread exploring (record { default = offers.default; abilities = offers.abilities; unordered = pairs places })

-- whether a thread wakes without a notification
abbrev pub whether_spurious : Bool → Question
whether_spurious exploring = WhetherSpurious exploring
