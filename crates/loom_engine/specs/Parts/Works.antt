-- A search in parts as a program goes about it: its parts are paths with floors, its runs make all of their marks as ever, and
-- what is noted is what is to be tried below a floor.
use Rattle.std.specs.Prelude.{◌≡◌, true, false, List, [], ◌∷◌, ◌++◌, map, take, length, Some, None, ◌⊎◌, ◌↔◌}
use Rattle.loom_objects.specs.declared.choice.Choice.{Choice}
use Rattle.loom_engine.specs.Walk.Machine.{Machine, is_thread}
use Rattle.loom_engine.specs.Walk.Sound.{IsMachine}
use Rattle.loom_engine.specs.Walk.Runs.{Reachable}
use Rattle.loom_engine.specs.Walk.Path.{Pending, Stored, node_at, IsAtRest, after_run}
use Rattle.loom_engine.specs.Walk.Walks.{run_of}
use Rattle.loom_engine.specs.Walk.Lists.{Member, IsOnce}
use Rattle.loom_engine.specs.Parts.Cuts.{Part, IsIn, IsBelow, AreTaken, AreOpen, IsWithout, Search}
use Rattle.loom_engine.specs.Parts.Floors.{seal_to, step_above, branch_off, end_with}

-- a part as the walk's rules see it
abbrev pub view : Part → Part
view q = record { base = q.base; path = seal_to (length q.base) q.path }

-- a thread that is to be tried at a schedule below the floor
pub record IsNotedIn (b : List Choice) (p : List Stored) (k : List Choice) : Type 0 where
  pub before : List Choice
  pub option : Choice
  pub node : Stored
  pub splits : k ≡ before ++ option ∷ []
  pub low : IsBelow before b
  pub stands : node_at p before ≡ Some node
  pub exploring : node.made.exploring ≡ true
  pub thread : is_thread node.made.default ≡ true
  pub pending : node.status option ≡ Pending

-- the notes with those in the path; one that was handed out may be left out
pub record Gathers (b : List Choice) (p : List Stored) (issued notes more : List (List Choice)) : Type 0 where
  pub only : (k : List Choice) → Member k more → Member k notes ⊎ IsNotedIn b p k
  pub old : (k : List Choice) → Member k notes → Member k more ⊎ Member k issued
  pub each : (k : List Choice) → IsNotedIn b p k → Member k more ⊎ Member k issued

-- how far such a search may be: the runs made, the parts, the paths of the parts that are done, what was handed out, and what is noted
pub data Work (m : Machine) : List (List Choice) → List Part → List Part → List (List Choice) → List (List Choice) → Type 0 where
  begin : Work m [] (record { base = []; path = [] } ∷ []) [] [] []
  turn : (made : List (List Choice)) (front back : List Part) (q : Part) (spent : List Part) (issued notes : List (List Choice)) → Work m made (front ++ q ∷ back) spent issued notes
      → Work m made (q ∷ front ++ back) spent issued notes
  -- a run, and a step above the floor
  one_run : (made : List (List Choice)) (b : List Choice) (p q : List Stored) (parts spent : List Part) (issued notes more : List (List Choice))
      → Work m made (record { base = b; path = p } ∷ parts) spent issued notes → step_above (length b) (after_run m p) ≡ Some q → Gathers b (after_run m p) issued notes more
      → Work m (run_of m p ∷ made) (record { base = b; path = q } ∷ parts) spent issued more
  -- the last one, after which the nodes below the floor are kept for what was noted there
  last_run : (made : List (List Choice)) (b : List Choice) (p : List Stored) (parts spent : List Part) (issued notes more : List (List Choice))
      → Work m made (record { base = b; path = p } ∷ parts) spent issued notes → step_above (length b) (after_run m p) ≡ None → Gathers b (after_run m p) issued notes more
      → Work m (run_of m p ∷ made) parts (record { base = b; path = take (length b) (after_run m p) } ∷ spent) issued more
  -- the floor is raised by one, and the path stays as it is
  raise : (made : List (List Choice)) (b : List Choice) (p : List Stored) (n : Stored) (parts spent : List Part) (issued notes taken open_ones : List (List Choice))
      → Work m made (record { base = b; path = p } ∷ parts) spent issued notes → node_at p b ≡ Some n → AreTaken b n taken → AreOpen b n open_ones
      → Work m made (record { base = b ++ n.present ∷ []; path = p } ∷ parts) spent (taken ++ issued) (open_ones ++ notes)
  -- an option that is noted, and is in some path below its floor, becomes a part
  hand_out : (made : List (List Choice)) (source : Part) (before : List Choice) (n : Stored) (o : Choice) (parts spent : List Part) (issued notes less : List (List Choice))
      → Work m made parts spent issued notes → IsIn source parts ⊎ IsIn source spent → IsBelow before source.base → node_at source.path before ≡ Some n → n.made.exploring ≡ true
      → n.status o ≡ Pending → Member (before ++ o ∷ []) notes → (Member (before ++ o ∷ []) issued → ⊥) → IsWithout (before ++ o ∷ []) notes less
      → Work m made (record { base = before ++ o ∷ []; path = branch_off (length before) o source.path } ∷ parts) spent ((before ++ o ∷ []) ∷ issued) less
  -- At a load or a spurious wake-up any node at rest serves that was made alike and has the option as its choice, whatever it says
  -- of the others: a load's node can't leave one slot out.
  hand_out_value : (made : List (List Choice)) (source : Part) (before : List Choice) (n next : Stored) (parts spent : List Part) (issued notes less : List (List Choice))
      → Work m made parts spent issued notes → IsIn source parts ⊎ IsIn source spent → IsBelow before source.base → node_at source.path before ≡ Some n
      → is_thread n.made.default ≡ false → next.made ≡ n.made → IsAtRest next → Member (before ++ next.present ∷ []) notes → (Member (before ++ next.present ∷ []) issued → ⊥)
      → IsWithout (before ++ next.present ∷ []) notes less
      → Work m made (record { base = before ++ next.present ∷ []; path = end_with (length before) next source.path } ∷ parts) spent ((before ++ next.present ∷ []) ∷ issued) less
  drop_note : (made : List (List Choice)) (k : List Choice) (parts spent : List Part) (issued notes less : List (List Choice)) → Work m made parts spent issued notes → Member k issued
      → IsWithout k notes less → Work m made parts spent issued less

-- It is a search in parts, so it makes no run twice and none that isn't reachable, and when it is over it has made all that are.
abbrev pub WorkLaw : Type 0
WorkLaw = (m : Machine) (made : List (List Choice)) (parts spent : List Part) (issued notes : List (List Choice)) → IsMachine m → Work m made parts spent issued notes
    → Search m made (map view parts) issued notes × IsOnce made × ((x : List Choice) → Member x made → Reachable m x)
    × (parts ≡ [] → notes ≡ [] → (x : List Choice) → Reachable m x ↔ Member x made)
