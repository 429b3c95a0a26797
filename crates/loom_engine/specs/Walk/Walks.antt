-- A walk: rounds from a path to the next, each of which makes one run.
use Rattle.std.specs.Prelude.{ℕ, zero, suc, ◌+◌, ◌*◌, ◌^◌, ◌<◌, ◌≡◌, Bool, true, false, List, [], ◌∷◌, ◌++◌, Option, Some, None, ◌⊎◌, ◌↔◌}
use Rattle.loom_objects.specs.declared.choice.Choice.{Choice}
use Rattle.loom_objects.specs.Tree.Question.{Made}
use Rattle.loom_engine.specs.Walk.Machine.{Machine, run}
use Rattle.loom_engine.specs.Walk.Sound.{IsMachine}
use Rattle.loom_engine.specs.Walk.Runs.{Alternative, Reachable}
use Rattle.loom_engine.specs.Walk.Path.{Status, Visited, Stored, choices, IsResting, Rest, next}
use Rattle.loom_engine.specs.Walk.Lists.{Member, Each, IsWalkList, IsInOrder, IsAllowed}

-- the run that the path p leads to
abbrev pub run_of : Machine → List Stored → List Choice
run_of m p = run m (choices p)

-- rounds from one path to another, with the runs that they made, none of which failed
pub data Rounds (m : Machine) : List Stored → List (List Choice) → List Stored → Type 0 where
  stay : (p : List Stored) → Rounds m p [] p
  go_on : (p p' last : List Stored) (list : List (List Choice)) → m.fails (run_of m p) ≡ false → next m p ≡ Some p' → Rounds m p' list last → Rounds m p (run_of m p ∷ list) last

-- rounds from a path up to the one after which nothing is left, with the runs that they made, none of which failed
pub data Completes (m : Machine) : List Stored → List (List Choice) → Type 0 where
  last_round : (p : List Stored) → m.fails (run_of m p) ≡ false → next m p ≡ None → Completes m p (run_of m p ∷ [])
  one_round : (p p' : List Stored) (list : List (List Choice)) → m.fails (run_of m p) ≡ false → next m p ≡ Some p' → Completes m p' list → Completes m p (run_of m p ∷ list)

-- Rounds go on where others stopped.
abbrev pub JoinLaw : Type 0
JoinLaw = (m : Machine) (p p' : List Stored) (list more : List (List Choice)) → Rounds m p list p'
    → ((last : List Stored) → Rounds m p' more last → Rounds m p (list ++ more) last) × (Completes m p' more → Completes m p (list ++ more))

-- what a round does to what is left
abbrev pub LeavesRest : Machine → List Stored → Option (List Stored) → Type 0
LeavesRest m p None = (x : List Choice) → Rest m p x ↔ (x ≡ run_of m p)
LeavesRest m p (Some p') =
    IsResting m p' × ((x : List Choice) → Rest m p x ↔ ((x ≡ run_of m p) ⊎ Rest m p' x)) × (Rest m p' (run_of m p) → ⊥)

-- What is left from a path is its run and, apart from it, what is left from the next path, if there is one.
abbrev pub RoundLaw : Type 0
RoundLaw = (m : Machine) (p : List Stored) → IsMachine m → IsResting m p → LeavesRest m p (next m p)

-- what rounds that were stopped leave
pub record IsStopped (m : Machine) (p : List Stored) (list : List (List Choice)) (p' : List Stored) : Type 0 where
  pub resting : IsResting m p'
  pub parts : (x : List Choice) → Rest m p x ↔ (Member x list ⊎ Rest m p' x)
  pub apart : (x : List Choice) → Member x list → Rest m p' x → ⊥
  pub sound : Each (λ x. m.fails x ≡ false) list
  -- the run that comes next, failing or not, was left from the start
  pub next_run : Rest m p (run_of m p')
  pub resumed : (more : List (List Choice)) → Completes m p' more → IsWalkList (Rest m p) (list ++ more)

-- Rounds up to the last make a walk list of what is left from the path, and no run of it fails.
abbrev pub CompleteLaw : Type 0
CompleteLaw = (m : Machine) (p : List Stored) (list : List (List Choice)) → IsMachine m → IsResting m p → Completes m p list
    → IsWalkList (Rest m p) list × ((x : List Choice) → Rest m p x → m.fails x ≡ false)

-- Rounds that were stopped have made a part of what is left from the path, and what is left from the path that they
-- reached is the other part.
abbrev pub StoppedLaw : Type 0
StoppedLaw = (m : Machine) (p p' : List Stored) (list : List (List Choice)) → IsMachine m → IsResting m p → Rounds m p list p' → IsStopped m p list p'

-- From a path without nodes what is left is the least set of runs that holds the default run and with each run its alternatives.
abbrev pub FreshLaw : Type 0
FreshLaw = (m : Machine) → IsMachine m → IsResting m [] × ((x : List Choice) → Rest m [] x ↔ Reachable m x)

-- What is reachable is the least: whatever set, given by a test, holds the default run and with each run its alternatives
-- holds each run that is reachable.
abbrev pub LeastLaw : Type 0
LeastLaw = (m : Machine) (holds : List Choice → Bool) → holds (run m []) ≡ true
    → ((r before : List Choice) (o : Choice) → holds r ≡ true → Alternative m r before o → holds (run m (before ++ o ∷ [])) ≡ true)
    → (x : List Choice) → Reachable m x → holds x ≡ true

-- the search isn't reduced or bounded, and explores throughout
pub record ExploresAll (m : Machine) : Type 0 where
  pub whole : m.reduce ≡ false
  pub exploring : (c : List Choice) (n : Made) → IsAllowed m c → m.node c ≡ Some n → n.exploring ≡ true
  pub every : (c : List Choice) (n : Made) → IsAllowed m c → m.node c ≡ Some n → m.every c ≡ true

-- In a search that isn't reduced or bounded and explores throughout, each run is reachable: each that follows allowed
-- choices and then takes defaults, which is each list of allowed choices after which the run is over.
abbrev pub EveryRunLaw : Type 0
EveryRunLaw = (m : Machine) → IsMachine m → ExploresAll m
    → ((x : List Choice) → Reachable m x ↔ ((c : List Choice) × IsAllowed m c × (x ≡ run m c)))
    × ((x : List Choice) → Reachable m x ↔ (IsAllowed m x × (m.node x ≡ None)))

-- how many options of the node were tried
abbrev pub visited_in : (Choice → Status) → List Choice → ℕ
visited_in status [] = 0
visited_in status (o ∷ os) = elim (status o) [ Visited ↦ suc (visited_in status os) | _ ↦ visited_in status os ]

-- the options tried at each node as digits in base 8, so many of them, the first node's first
unfoldable pub digits : ℕ → List Stored → ℕ
digits zero p = 0
digits (suc k) [] = 0
digits (suc k) (n ∷ p) = visited_in n.status n.made.options * 8 ^ k + digits k p

-- how far a walk has come
abbrev pub progress : Machine → List Stored → ℕ
progress m p = digits m.limit p

-- Each round makes progress, of which there is an end. So a walk reaches its last round, or a run that fails.
abbrev pub EndsLaw : Type 0
EndsLaw = (m : Machine) (p : List Stored) → IsMachine m → IsResting m p
    → (progress m p < 8 ^ m.limit)
    × ((p' : List Stored) → next m p ≡ Some p' → progress m p < progress m p')
    × (((list : List (List Choice)) × Completes m p list)
    ⊎ ((list : List (List Choice)) × (p' : List Stored) × Rounds m p list p' × (m.fails (run_of m p') ≡ true)))

-- In a search that isn't reduced the list of a walk from a path without nodes is ordered by the first difference.
abbrev pub OrderLaw : Type 0
OrderLaw = (m : Machine) (list : List (List Choice)) → IsMachine m → m.reduce ≡ false → Completes m [] list → IsInOrder m list
