-- What a schedule marks at the nodes before it, where accesses aren't ordered.
use Rattle.std.specs.Prelude.{ℕ, zero, suc, Bool, true, false, not, ◌&&◌, ◌||◌, eqb, cond, List, [], ◌∷◌, Option, Some, None, slice_get}
use Rattle.loom_objects.specs.declared.choice.Choice.{Choice}
use Rattle.loom_objects.specs.declared.choice.Choice.TheVariants.{Thread}
use Rattle.loom_objects.specs.declared.rt.schedule.Ability.{Ability}
use Rattle.loom_objects.specs.declared.rt.schedule.Ability.TheVariants.{Able, Yielding, Unable}
use Rattle.loom_objects.specs.Tree.Question.{Made, Question, WhichThread, WhichStore, WhetherSpurious}
use Rattle.loom_engine.specs.Walk.Machine.{is_thread}
use Rattle.loom_engine.specs.Walk.Choices.{same, pick}
use Rattle.loom_engine.specs.Trees.Meeting.{Marking, count, front_of}

-- a schedule that was passed, and its place
abbrev pub Place : Type 0
Place = ℕ × Made × Choice

-- the schedules among so many nodes, the last first
abbrev pub schedules_down : ℕ → ℕ → List (Made × Choice) → List Place → List Place
schedules_down i zero passes found = found
schedules_down i (suc left) [] found = found
schedules_down i (suc left) (pass ∷ passes) found = schedules_down (suc i) left passes (cond (is_thread pass.0.default) ((i, pass.0, pass.1) ∷ found) found)

-- from the first that explores on
abbrev pub from_exploring : List Place → List Place
from_exploring [] = []
from_exploring (c ∷ places) = cond c.1.exploring (c ∷ places) (from_exploring places)

-- the nearest that explores and chose another thread than the one before it, or else the first of all, if it explores
abbrev pub switching : List Place → List ℕ
switching [] = []
switching (c ∷ []) = cond c.1.exploring (c.0 ∷ []) []
switching (c ∷ p ∷ places) = cond (c.1.exploring && pick (same c.2 p.2) false true) (c.0 ∷ []) (switching (p ∷ places))

-- the nearest, and under a bound another one before it
abbrev pub added_from : Option ℕ → List Place → List ℕ
added_from bound [] = []
added_from None (c ∷ places) = c.0 ∷ []
added_from (Some bound) (c ∷ places) = c.0 ∷ switching places

-- where a thread is added for an access that was made at this node
abbrev pub added_at : Option ℕ → List (Made × Choice) → ℕ → List ℕ
added_at bound passes n = added_from bound (from_exploring (schedules_down 0 (suc n) passes []))

abbrev pub is_in : ℕ → List ℕ → Bool
is_in k [] = false
is_in k (n ∷ rest) = eqb k n || is_in k rest

-- the thread can't go on there, and doesn't yield
abbrev pub is_unable : Option Ability → Bool
is_unable None = false
is_unable (Some Able) = false
is_unable (Some Yielding) = false
is_unable (Some Unable) = true

abbrev pub is_disabled : Made → ℕ → Bool
is_disabled n t = is_unable (slice_get n.offers t)

-- Adding a thread at a node marks it, or each option where it is disabled.
abbrev pub adds_there : Option (Made × Choice) → ℕ → Choice → Bool
adds_there None t o = false
adds_there (Some pass) t o = pass.0.exploring && (is_disabled pass.0 t || pick (same o (Thread (Some t))) true false)

abbrev pub adds_any : Option ℕ → List (Made × Choice) → ℕ → Choice → List (ℕ × ℕ) → Bool
adds_any bound passes k o [] = false
adds_any bound passes k o (pair ∷ pairs) = (is_in k (added_at bound passes pair.0) && adds_there (slice_get passes k) pair.1 o) || adds_any bound passes k o pairs

abbrev pub unordered_in : Question → List (ℕ × ℕ)
unordered_in (WhichThread exploring standing) = standing.unordered
unordered_in (WhichStore exploring lowest others) = []
unordered_in (WhetherSpurious exploring) = []

abbrev pub is_off_bound : Option ℕ → ℕ → Bool
is_off_bound None n = true
is_off_bound (Some bound) n = not (eqb n bound)

-- nothing is added where the count is the bound
abbrev pub marking : Option ℕ → Marking
marking bound passes question k o = is_off_bound bound (count (front_of k passes)) && adds_any bound passes k o (unordered_in question)
