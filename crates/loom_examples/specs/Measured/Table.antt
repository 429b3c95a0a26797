-- The table of the bodies that are measured: each name, the steps that it means, how they are checked, and how often.
use Rattle.std.specs.Prelude.{ℕ, true, false, List, [], ◌∷◌, ◌++◌, Option, Some, None, codes}
use Rattle.std.specs.List.{find}
use Rattle.std.specs.Str.{bytes_eq}
use Rattle.loom_examples.specs.Scripts.Written.{Written}
use Rattle.loom_examples.specs.Measured.Body.{Named, measured, search, many}
use Rattle.loom_examples.specs.Rows.Scripts.Atomics.{three_adds, acq_rel}
use Rattle.loom_examples.specs.Rows.Scripts.First.{two_mutexes_deadlock}
use Rattle.loom_examples.specs.Rows.Scripts.Measured.{store_buffering, locks_in_turn, writers_beside_a_reader, wait_and_notify, three_threads, long_line, long_line_10000, long_turn}
use Rattle.loom_examples.specs.declared.measured.Measured.{Measured}

-- a body by six searches: not reduced and reduced, without a bound and with the bounds 1 and 2
abbrev pub six : List ℕ → List Written → ℕ → List Named
six name steps checks =
    measured name steps checks (search 1000 false None) ∷
    measured (name ++ codes " bound 1") steps checks (search 1000 false (Some 1)) ∷
    measured (name ++ codes " bound 2") steps checks (search 1000 false (Some 2)) ∷
    measured (name ++ codes " reduced") steps checks (search 1000 true None) ∷
    measured (name ++ codes " reduced bound 1") steps checks (search 1000 true (Some 1)) ∷
    measured (name ++ codes " reduced bound 2") steps checks (search 1000 true (Some 2)) ∷ []

-- stores and loads
abbrev pub store_bufferings : List Named
store_bufferings = six (codes "store_buffering") store_buffering 1000

-- locks in the same order
abbrev pub locks_in_turns : List Named
locks_in_turns = six (codes "locks_in_turn") locks_in_turn 1000

-- a read-write lock
abbrev pub writers : List Named
writers = six (codes "writers_beside_a_reader") writers_beside_a_reader 100

-- a condition variable
abbrev pub waits : List Named
waits = six (codes "wait_and_notify") wait_and_notify 1000

-- three threads over atomics
abbrev pub threes : List Named
threes = six (codes "three_threads") three_threads 1

-- three threads that add to one atomic
abbrev pub adds : List Named
adds = six (codes "three_adds") three_adds 1

-- a deadlock
abbrev pub crosswise : List Named
crosswise = six (codes "locks_crosswise") two_mutexes_deadlock 1000

-- threads that wait for flags
abbrev pub flags : List Named
flags = six (codes "acq_rel") acq_rel 1

-- long runs
abbrev pub long : List Named
long =
    measured (codes "long_line") long_line 10000 (search 100000 true None) ∷
    measured (codes "long_line_10000") long_line_10000 1000 (search 100000 true None) ∷
    measured (codes "long_turn reduced") long_turn 1 (search 100000 true None) ∷
    measured (codes "long_turn reduced bound 0") long_turn 1000 (search 100000 true (Some 0)) ∷
    measured (codes "long_turn reduced bound 1") long_turn 1 (search 100000 true (Some 1)) ∷ []

-- all of it
abbrev pub all : List Named
all = store_bufferings ++ locks_in_turns ++ writers ++ waits ++ threes ++ adds ++ crosswise ++ flags ++ many ++ long

-- what a name means: the first body of the list that has it
abbrev pub body_of : List Measured → List ℕ → Option Measured
body_of bodies name = find (λ body. bytes_eq body.name.now name) bodies
