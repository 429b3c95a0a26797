-- The final states of a test: lists of numbers, one for each term of the layout.
use Rattle.std.specs.Prelude.{ℕ, suc, ◌+◌, ◌==◌, Bool, true, false, not, ◌&&◌, ◌||◌, cond, List, [], ◌∷◌, take, Option, Some, None}
use Rattle.std.specs.Int.{cast_unsigned, w32}
use Rattle.loom_text.specs.declared.run.layout.Layout.{Layout}
use Rattle.loom_text.specs.declared.test.Condition.{Condition}
use Rattle.loom_text.specs.declared.test.Condition.TheVariants.{Equal, Not', And', Or'}
use Rattle.loom_text.specs.declared.test.Term.{Term}
use Rattle.loom_text.specs.declared.test.Term.TheVariants.{Register, Location}
use Rattle.loom_text.specs.declared.test.Test.{Test}
use Rattle.loom_text.specs.Run.Counted.{Counted, Tallied}
use Rattle.loom_text.specs.Run.Operators.{is_less}

-- the same register, or the same location
abbrev pub is_term : Term → Term → Bool
is_term (Register t r) (Register t' r') = (t == t') && (r == r')
is_term (Register t r) (Location x) = false
is_term (Location x) (Register t r) = false
is_term (Location x) (Location x') = x == x'

-- the number of a term, where the numbers belong to these terms
abbrev pub number_of : List Term → Term → List ℕ → ℕ
number_of [] term numbers = 0
number_of (first ∷ terms) term [] = 0
number_of (first ∷ terms) term (n ∷ numbers) = cond (is_term first term) n (number_of terms term numbers)

-- a final state with these numbers meets the condition
abbrev pub meets : Condition → List Term → List ℕ → Bool
meets (Equal term n) terms numbers = number_of terms term numbers == cast_unsigned w32 n
meets (Not' p condition) terms numbers = not (meets condition terms numbers)
meets (And' p one q other) terms numbers = meets one terms numbers && meets other terms numbers
meets (Or' p one q other) terms numbers = meets one terms numbers || meets other terms numbers

abbrev pub lets_through : Option Condition → List Term → List ℕ → Bool
lets_through None terms numbers = true
lets_through (Some filter) terms numbers = meets filter terms numbers

-- the filter, if there is one, lets the final state through
abbrev pub counts : Test → Layout → List ℕ → Bool
counts test layout numbers = lets_through test.filter layout.terms.items numbers

abbrev pub is_same : List ℕ → List ℕ → Bool
is_same [] [] = true
is_same [] (n ∷ other) = false
is_same (m ∷ one) [] = false
is_same (m ∷ one) (n ∷ other) = (m == n) && is_same one other

-- the one state is shown before the other: by their first numbers that differ, as ints
abbrev pub is_before : List ℕ → List ℕ → Bool
is_before one [] = false
is_before [] (n ∷ other) = true
is_before (m ∷ one) (n ∷ other) = cond (m == n) (is_before one other) (is_less m n)

-- one run ended with these numbers
abbrev pub once : List ℕ → Counted
once numbers = record { numbers = numbers; runs = 1 }

abbrev pub more_often : ℕ → Counted → Counted
more_often count state = record state { runs = state.runs + count }

-- runs more, so many as the one state has, ended with its numbers
abbrev pub put : Counted → List Counted → List Counted
put more [] = more ∷ []
put more (state ∷ states) =
    cond (is_before state.numbers more.numbers) (state ∷ put more states)
    (cond (is_same state.numbers more.numbers) (more_often more.runs state ∷ states) (more ∷ state ∷ states))

-- one run more ended with these numbers
abbrev pub added : List ℕ → List Counted → List Counted
added numbers states = put (once numbers) states

-- how many states are shown before one with these numbers
abbrev pub place_in : List ℕ → List Counted → ℕ
place_in numbers [] = 0
place_in numbers (state ∷ states) = cond (is_before state.numbers numbers) (suc (place_in numbers states)) 0

abbrev pub tallied : Test → Layout → List Counted → ℕ → ℕ → Tallied
tallied test layout states positive negative = record { test = test; layout = layout; states = states; positive = positive; negative = negative }

-- before any run
abbrev pub nothing_told : Test → Layout → Tallied
nothing_told test layout = tallied test layout [] 0 0

-- the result of main meets the test's condition
abbrev pub is_positive : Test → Layout → List ℕ → Bool
is_positive test layout numbers = meets test.condition layout.terms.items numbers

-- runs more ended with the result of main that the state has, which counts
abbrev pub counted : Tallied → Counted → Tallied
counted t more = record t {
  states = put (record more { numbers = take t.layout.shown more.numbers }) t.states;
  positive = t.positive + cond (is_positive t.test t.layout more.numbers) more.runs 0;
  negative = t.negative + cond (not (is_positive t.test t.layout more.numbers)) more.runs 0;
}

-- runs more ended with the result that the state has
abbrev pub told_more : Tallied → Counted → Tallied
told_more t more = cond (counts t.test t.layout more.numbers) (counted t more) t

-- a run more ended with this result
abbrev pub told : Tallied → List ℕ → Tallied
told t numbers = told_more t (once numbers)

-- runs more ended with the results that these states have
abbrev pub told_each : Tallied → List Counted → Tallied
told_each t [] = t
told_each t (more ∷ states) = told_each (told_more t more) states

-- runs with these results
abbrev pub told_all : Tallied → List (List ℕ) → Tallied
told_all t [] = t
told_all t (numbers ∷ results) = told_all (told t numbers) results
