-- A check of a tree of runs whose runs may be cut off.
use Rattle.std.specs.Prelude.{◌≤◌, take, length, ◌≡◌, Bool, true, false, cond, List, [], ◌∷◌, ◌++◌, Option, Some, None, Ok, Err, ℕ, Result}
use Rattle.loom_objects.specs.declared.choice.Choice.{Choice}
use Rattle.loom_objects.specs.Tree.Tree.{Tree, Gives, Fails, Closes, Asks, ◌>>=◌}
use Rattle.loom_engine.specs.Walk.Path.{Stored, choices, node_at, IsResting, step}
use Rattle.loom_engine.specs.Walk.Driven.{IsOneOf}
use Rattle.loom_engine.specs.Trees.Meeting.{Marking, whole_search, machine_of}
use Rattle.loom_engine.specs.Trees.Machines.{IsMarking}
use Rattle.loom_engine.specs.Trees.Outcomes.{outcome}
use Rattle.loom_engine.specs.Trees.Sound.{IsSoundTree}
use Rattle.loom_engine.specs.Trees.Drive.{Trail, drive, at_start}
use Rattle.loom_views.specs.declared.rt.failure.FailureKind.{FailureKind}
use Rattle.loom_engine.specs.Covering.World.{World, Ends, world_of}
use Rattle.loom_engine.specs.Covering.Sound.{IsSound}
use Rattle.loom_engine.specs.Covering.Covered.{Covers}

-- the tree after these choices, which gives None where the test says so in place of a question
abbrev pub cut : {A : Type 0} → (List Choice → Bool) → List Choice → Tree A → Tree (Option A)
cut stop c (Gives value) = Gives (Some value)
cut stop c (Fails failure) = Fails failure
cut stop c (Closes rest) = Closes (cut stop c rest)
cut stop c (Asks question branches) = cond (stop c) (Gives None) (Asks question (λ x. cut stop (c ++ x ∷ []) (branches x)))

-- the runs that the visitor is given, with one that gave a value, or was cut off
abbrev pub with_run : {A : Type 0} → List Choice → Option A → List (List Choice × A) → List (List Choice × A)
with_run c None runs = runs
with_run c (Some value) runs = (c, value) ∷ runs

-- a run has a node whose state is the one after c
abbrev pub IsNoted : {K : Type 0} → (List Choice → K) → List (List Stored) → List Choice → Type 0
IsNoted key left c = (y : List Stored) × IsOneOf y left × (b : List Choice) × (n : Stored) × (node_at y b ≡ Some n) × (key b ≡ key c)

-- a run along the path is cut off past its nodes alone, and only where the state was noted at a node of these runs
pub record IsStop {K : Type 0} (key : List Choice → K) (left : List (List Stored)) (p : List Stored) (stop : List Choice → Bool) : Type 0 where
  pub past : (before : List Choice) (n : Stored) → node_at p before ≡ Some n → stop before ≡ false
  pub noted : (c : List Choice) → stop c ≡ true → IsNoted key left c

module _ {A K : Type 0} (room : ℕ) (adds : Marking) (tree : Tree A) (key : List Choice → K) (all : List (List Stored)) where
  -- rounds from a path up to the one after which no step is left, with the paths that the runs left, and those that the visitor
  -- was given; all are the paths that runs of the whole check left
  pub data Checks : List Stored → List (List Stored) → List (List Choice × A) → Type 0 where
    last_check : (p : List Stored) (stop : List Choice → Bool) (came : Option A) (path : Trail) → IsStop key all p stop
        → drive (whole_search room) adds (cut stop [] tree) (at_start p) ≡ (Ok came, path) → step path.nodes ≡ None
        → Checks p (path.nodes ∷ []) (with_run (choices path.nodes) came [])
    one_check : (p later : List Stored) (stop : List Choice → Bool) (came : Option A) (path : Trail) (left : List (List Stored)) (runs : List (List Choice × A)) → IsStop key all p stop
        → drive (whole_search room) adds (cut stop [] tree) (at_start p) ≡ (Ok came, path) → step path.nodes ≡ Some later → Checks later left runs
        → Checks p (path.nodes ∷ left) (with_run (choices path.nodes) came runs)

-- A complete check that begins with a path without nodes has covered each run of the tree, however many nodes it meets, and each
-- run of another world in which runs have the same states.
abbrev pub CheckLaw : Type 0 → Type 0 → Type 0
CheckLaw A K = (limits : FailureKind → Bool) (v : World A) (room : ℕ) (adds : Marking) (tree : Tree A) (key other : List Choice → K) (left : List (List Stored)) (runs : List (List Choice × A)) → IsSoundTree tree
    → IsMarking adds → Ends v → IsSound limits (world_of tree) v key other → Checks room adds tree key left [] left runs → Covers limits (world_of tree) v runs

-- Where the run along a path fails, its choices lead to that failure, whatever was cut off.
abbrev pub FailLaw : Type 0 → Type 0
FailLaw A = (room : ℕ) (adds : Marking) (tree : Tree A) (p : List Stored) (stop : List Choice → Bool) (failure : FailureKind) (path : Trail) → IsSoundTree tree → IsMarking adds
    → IsResting (machine_of (whole_search room) adds tree) p → ((before : List Choice) (n : Stored) → node_at p before ≡ Some n → stop before ≡ false)
    → drive (whole_search room) adds (cut stop [] tree) (at_start p) ≡ (Err failure, path) → outcome room tree (choices path.nodes) ≡ Some (Err failure)

module _ {A K : Type 0} (room : ℕ) (adds : Marking) (tree : Tree A) (key : List Choice → K) where
  -- rounds from a path without nodes, with the paths that the runs left, and those that the visitor was given, up to the path that
  -- comes next; a state was noted at a node of a run before, or of the same run
  pub data Begun : List (List Stored) → List (List Choice × A) → List Stored → Type 0 where
    none_yet : Begun [] [] []
    one_more : (left : List (List Stored)) (runs : List (List Choice × A)) (p later : List Stored) (stop : List Choice → Bool) (came : Option A) (path : Trail) → Begun left runs p
        → IsStop key (left ++ path.nodes ∷ []) p stop → drive (whole_search room) adds (cut stop [] tree) (at_start p) ≡ (Ok came, path) → step path.nodes ≡ Some later
        → Begun (left ++ path.nodes ∷ []) (runs ++ with_run (choices path.nodes) came []) later

-- The rounds so far and those that are left are one check, whether these are cut off by what all rounds noted, or by what a part of
-- them did. So what was noted may be forgotten: then more runs are made.
abbrev pub JoinedLaw : Type 0 → Type 0 → Type 0
JoinedLaw A K = (room : ℕ) (adds : Marking) (tree : Tree A) (key : List Choice → K) (left rest known : List (List Stored)) (runs more : List (List Choice × A)) (p : List Stored)
    → Begun room adds tree key left runs p → ((y : List Stored) → IsOneOf y known → IsOneOf y (left ++ rest)) → Checks room adds tree key known p rest more
    → Checks room adds tree key (left ++ rest) [] (left ++ rest) (runs ++ more)

-- the choices that a path has passed
abbrev pub passed : Trail → List Choice
passed path = choices (take path.position path.nodes)

-- What comes after a drive through the first of two trees that are cut: the drive through the second, unless it failed or was cut off.
abbrev pub onward : {A B : Type 0} → ℕ → Marking → (List Choice → Bool) → (A → Tree B) → Result (Option A) FailureKind × Trail → Result (Option B) FailureKind × Trail
onward room adds stop next (Ok (Some a), after) = drive (whole_search room) adds (cut stop (passed after) (next a)) after
onward room adds stop next (Ok None, after) = (Ok None, after)
onward room adds stop next (Err failure, after) = (Err failure, after)

-- A path drives through the one tree and then the other, each cut by the choices that were passed.
abbrev pub ThenLaw : Type 0 → Type 0 → Type 0
ThenLaw A B = (room : ℕ) (adds : Marking) (stop : List Choice → Bool) (t : Tree A) (next : A → Tree B) (path : Trail) → path.position ≤ length path.nodes
    → drive (whole_search room) adds (cut stop (passed path) (t >>= next)) path ≡ onward room adds stop next (drive (whole_search room) adds (cut stop (passed path) t) path)
