-- What a test names, and what it may name in its condition.
use Rattle.std.specs.Prelude.{ℕ, ◌≢◌, ◌<◌, ◌≤◌, List, Option, length, All, AllPairs, IfSome, MatchOption, position, slice_get, String, string_bytes}
use Rattle.std.specs.Str.{bytes_eq}
use Rattle.std.specs.declared.alloc.Global.{Global}
use Rattle.loom_text.specs.declared.test.Kind.{Kind}
use Rattle.loom_text.specs.declared.test.Kind.TheVariants.{Atomic, Plain, Mutex, Condvar}
use Rattle.loom_text.specs.declared.test.Location.{Location}
use Rattle.loom_text.specs.declared.test.Thread.{Thread}
use Rattle.loom_text.specs.declared.test.Term.{Term}
use Rattle.loom_text.specs.declared.test.Term.TheVariants as terms
use Rattle.loom_text.specs.declared.test.Condition.{Condition}
use Rattle.loom_text.specs.declared.test.Condition.TheVariants.{Equal, Not', And', Or'}
use Rattle.loom_text.specs.declared.test.Test.{Test}
use Rattle.loom_text.specs.declared.test.TheConstants.{MAX_TEST_THREADS}

-- a final state has a value of an `int` and of an `atomic_int`
abbrev pub HasValue : Kind → Type 0
HasValue Atomic = Unit {0}
HasValue Plain = Unit {0}
HasValue Mutex = ⊥
HasValue Condvar = ⊥

-- a register of one of the threads, or one of the locations, which has a value
abbrev pub IsTermOf : List Location → List Thread → Term → Type 0
IsTermOf locations threads (terms.Register thread register) =
    MatchOption (slice_get threads thread) ⊥ (λ found. register < length found.registers.items)
IsTermOf locations threads (terms.Location number) =
    MatchOption (slice_get locations number) ⊥ (λ found. HasValue found.kind)

-- each of its terms is one
abbrev pub IsConditionOf : List Location → List Thread → Condition → Type 0
IsConditionOf locations threads (Equal term value) = IsTermOf locations threads term
IsConditionOf locations threads (Not' p inner) = IsConditionOf locations threads inner
IsConditionOf locations threads (And' p left q right) =
    IsConditionOf locations threads left × IsConditionOf locations threads right
IsConditionOf locations threads (Or' p left q right) =
    IsConditionOf locations threads left × IsConditionOf locations threads right

-- the number of the location, or of the register, of this name
abbrev pub location_named : List Location → List ℕ → Option ℕ
location_named locations name = position (λ location. bytes_eq (string_bytes location.name) name) locations

abbrev pub register_named : List (String Global) → List ℕ → Option ℕ
register_named registers name = position (λ register. bytes_eq (string_bytes register) name) registers

-- no two locations have one name, and no two registers of a thread
abbrev pub LocationsDiffer : List Location → Type 0
LocationsDiffer locations = AllPairs (λ x y. string_bytes x.name ≢ string_bytes y.name) locations

abbrev pub RegistersDiffer : Thread → Type 0
RegistersDiffer thread = AllPairs (λ x y. string_bytes x ≢ string_bytes y) thread.registers.items

-- a test has threads, as many as the machine has at most, and what it asks of the final states is of the test
pub record IsNamed (test : Test) : Type 0 where
  pub some : 1 ≤ length test.threads.items
  pub few : length test.threads.items ≤ MAX_TEST_THREADS
  pub locations : LocationsDiffer test.locations.items
  pub registers : All RegistersDiffer test.threads.items
  pub listed : All (IsTermOf test.locations.items test.threads.items) test.listed.items
  pub filter : IfSome test.filter (IsConditionOf test.locations.items test.threads.items)
  pub condition : IsConditionOf test.locations.items test.threads.items test.condition
