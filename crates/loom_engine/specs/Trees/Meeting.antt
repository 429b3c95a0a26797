-- A tree of runs as the machine that a walk explores.
use Rattle.std.specs.Prelude.{ℕ, zero, suc, Bool, true, false, not, ◌&&◌, ◌||◌, cond, List, [], ◌∷◌, ◌++◌, Option, Some, None, nat_lt}
use Rattle.loom_objects.specs.declared.choice.Choice.{Choice}
use Rattle.loom_objects.specs.Tree.Question.{Made, Question, made_of}
use Rattle.loom_engine.specs.Walk.Machine.{Machine, is_thread}
use Rattle.loom_engine.specs.Walk.Choices.{same, pick}
use Rattle.loom_objects.specs.Tree.Tree.{Tree, Gives, Fails, Closes, Asks}
use Rattle.loom_engine.specs.Trees.Outcomes.{met, outcome, passed, is_failure}

-- whether the search is reduced, the bound on preemptions, and the largest number of nodes
pub record Settings : Type 0 where
  pub reduce : Bool
  pub bound : Option ℕ
  pub max_branches : ℕ

-- each option is to be tried, without a bound on preemptions
abbrev pub whole_search : ℕ → Settings
whole_search max_branches = record { reduce = false; bound = None; max_branches = max_branches }

-- ---- preemptions

-- the count of the next schedule, and what the last one chose
pub record Tally : Type 0 where
  pub next : ℕ
  pub last : Option Choice

abbrev pub start : Tally
start = record { next = 0; last = None }

abbrev pub is_last : Option Choice → Choice → Bool
is_last None default = true
is_last (Some last) default = pick (same last default) true false

-- It passes over the default where that is the thread that the schedule before chose, or where it is the first schedule.
abbrev pub preempts : Option Choice → Choice → Choice → Bool
preempts last default chosen = pick (same chosen default) false (is_last last default)

abbrev pub tally_thread : Tally → Choice → Choice → Tally
tally_thread t default chosen = record { next = cond (preempts t.last default chosen) (suc t.next) t.next; last = Some chosen }

-- only schedules count
abbrev pub tally_one : Tally → Made × Choice → Tally
tally_one t pass = cond (is_thread pass.0.default) (tally_thread t pass.0.default pass.1) t

abbrev pub tally : Tally → List (Made × Choice) → Tally
tally t [] = t
tally t (pass ∷ passes) = tally (tally_one t pass) passes

-- the preemption count of a schedule after these nodes and choices
abbrev pub count : List (Made × Choice) → ℕ
count passes = (tally start passes).next

abbrev pub is_below : Option ℕ → ℕ → Bool
is_below None n = true
is_below (Some bound) n = nat_lt n bound

-- Each option is to be tried at a load and a spurious wake-up. At a schedule, where the search isn't reduced, the run
-- explores, and the count is below the bound, if there is one.
abbrev pub every_at : Settings → List (Made × Choice) → Made → Bool
every_at s passes n = cond (is_thread n.default) (not s.reduce && n.exploring && is_below s.bound (count passes)) true

abbrev pub every_met : Settings → List (Made × Choice) → Option Made → Bool
every_met s passes None = false
every_met s passes (Some n) = every_at s passes n

-- ---- marks

-- Where a run that has passed these nodes asks this: whether it marks the option at the node of that number.
abbrev pub Marking : Type 0
Marking = List (Made × Choice) → Question → ℕ → Choice → Bool

abbrev pub front_of : ℕ → List (Made × Choice) → List (Made × Choice)
front_of zero passes = []
front_of (suc k) [] = []
front_of (suc k) (pass ∷ passes) = pass ∷ front_of k passes

-- what was marked before, and what is marked now
abbrev pub marked_too : (ℕ → Choice → Bool) → (ℕ → Choice → Bool) → ℕ → Choice → Bool
marked_too more marks k o = more k o || marks k o

-- the marks at the end of a run that has these choices still to make
abbrev pub marks_of : {A : Type 0} → Marking → (ℕ → Choice → Bool) → List (Made × Choice) → Tree A → List Choice → ℕ → Choice → Bool
marks_of adds marks passes (Gives value) c = marks
marks_of adds marks passes (Fails failure) c = marks
marks_of adds marks passes (Closes rest) c = marks
marks_of adds marks passes (Asks question branch) [] = marked_too (adds passes question) marks
marks_of adds marks passes (Asks question branch) (x ∷ c) = marks_of adds (marked_too (adds passes question) marks) (passes ++ (made_of question, x) ∷ []) (branch x) c

abbrev pub no_marks : ℕ → Choice → Bool
no_marks k o = false

-- ---- the machine

abbrev pub machine_of : {A : Type 0} → Settings → Marking → Tree A → Machine
machine_of s adds tree = record {
  limit = s.max_branches;
  reduce = s.reduce;
  node = met s.max_branches tree;
  every = λ c. every_met s (passed tree c) (met s.max_branches tree c);
  marks = marks_of adds no_marks [] tree;
  fails = λ c. is_failure (outcome s.max_branches tree c);
}
