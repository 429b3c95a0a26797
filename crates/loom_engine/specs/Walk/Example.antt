-- A machine with two threads: the first makes a lock, starts the second, takes the lock and gives it back; the second
-- ends at once.
use Rattle.std.specs.Prelude.{ℕ, zero, suc, ◌≡◌, Bool, true, false, List, [], ◌∷◌, Option, Some, None}
use Rattle.loom_objects.specs.declared.choice.Choice.{Choice}
use Rattle.loom_objects.specs.declared.choice.Choice.TheVariants.{Thread, Load, Spurious}
use Rattle.loom_objects.specs.Tree.Question.{Made}
use Rattle.loom_engine.specs.Walk.Machine.{Machine}
use Rattle.loom_engine.specs.Walk.Sound.{IsMachine}
use Rattle.loom_engine.specs.Walk.Path.{Stored, next}
use Rattle.loom_engine.specs.Walk.Walks.{run_of}

abbrev pub t : ℕ → Choice
t k = Thread (Some k)

abbrev pub nobody : Choice
nobody = Thread None

abbrev pub schedule : Choice → List Choice → Option Made
schedule default options = Some (record { exploring = true; default = default; options = options; offers = [] })

-- in the order of the choices: the first thread's number, or 5 for none
abbrev pub met_after : List ℕ → Option Made
met_after [] = schedule (t 0) (t 0 ∷ t 1 ∷ [])
met_after (zero ∷ []) = schedule (t 1) (t 1 ∷ [])
met_after (zero ∷ suc zero ∷ []) = schedule (t 1) (t 1 ∷ [])
met_after (zero ∷ suc zero ∷ suc zero ∷ []) = schedule nobody (nobody ∷ [])
met_after (suc zero ∷ []) = schedule (t 1) (t 0 ∷ t 1 ∷ [])
met_after (suc zero ∷ suc zero ∷ []) = schedule (t 0) (t 0 ∷ [])
met_after (suc zero ∷ suc zero ∷ zero ∷ []) = schedule nobody (nobody ∷ [])
met_after (suc zero ∷ zero ∷ []) = schedule (t 1) (t 1 ∷ [])
met_after (suc zero ∷ zero ∷ suc zero ∷ []) = schedule nobody (nobody ∷ [])
met_after _ = None

abbrev pub number : Choice → ℕ
number (Thread None) = 5
number (Thread (Some k)) = k
number (Load k) = 6
number (Spurious b) = 6

abbrev pub numbers : List Choice → List ℕ
numbers [] = []
numbers (c ∷ cs) = number c ∷ numbers cs

abbrev pub lock_beside : Bool → Machine
lock_beside reduce = record {
  limit = 4;
  reduce = reduce;
  node = λ c. met_after (numbers c);
  every = λ c. elim reduce [ true ↦ false | false ↦ true ];
  marks = λ r k o. false;
  fails = λ r. false;
}

-- the runs of so many rounds
abbrev pub runs_by : Machine → ℕ → List Stored → List (List Choice)
runs_by m zero p = []
runs_by m (suc k) p = run_of m p ∷ elim (next m p) [ None ↦ [] | Some later ↦ runs_by m k later ]

-- A machine whose runs meet one schedule of two threads, and are over.
abbrev pub one_choice : List Choice → Option Made
one_choice [] = schedule (t 0) (t 0 ∷ t 1 ∷ [])
one_choice (c ∷ cs) = None

abbrev pub two_ways : Machine
two_ways = record { limit = 1; reduce = false; node = one_choice; every = λ c. true; marks = λ r k o. false; fails = λ r. false }

-- the first run marks the second thread at the first node
abbrev pub first_marks : List ℕ → ℕ → ℕ → Bool
first_marks (zero ∷ r) zero (suc zero) = true
first_marks _ _ _ = false

abbrev pub marked_beside : Machine
marked_beside = record (lock_beside true) { marks = λ r k o. first_marks (numbers r) k (number o) }

-- There are machines, and a walk over one makes its runs: two ways in their order, and the three runs of two threads
-- beside a lock, or one where the search is reduced, or two where a mark is made.
abbrev pub ExampleLaw : Type 0
ExampleLaw =
    IsMachine two_ways
    × (runs_by two_ways 9 [] ≡ (t 0 ∷ []) ∷ (t 1 ∷ []) ∷ [])
    × (runs_by (lock_beside false) 9 [] ≡ (t 0 ∷ t 1 ∷ t 1 ∷ nobody ∷ []) ∷ (t 1 ∷ t 1 ∷ t 0 ∷ nobody ∷ []) ∷ (t 1 ∷ t 0 ∷ t 1 ∷ nobody ∷ []) ∷ [])
    × (runs_by (lock_beside true) 9 [] ≡ (t 0 ∷ t 1 ∷ t 1 ∷ nobody ∷ []) ∷ [])
    × (runs_by marked_beside 9 [] ≡ (t 0 ∷ t 1 ∷ t 1 ∷ nobody ∷ []) ∷ (t 1 ∷ t 1 ∷ t 0 ∷ nobody ∷ []) ∷ [])
