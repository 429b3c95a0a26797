-- The path while a run is under way.
use Rattle.std.specs.Prelude.{ℕ, zero, suc, ◌<◌, ◌≡◌, ◌≢◌, Bool, true, false, ◌&&◌, ◌||◌, List, [], ◌∷◌, ◌++◌, length, Some, None}
use Rattle.loom_objects.specs.declared.choice.Choice.{Choice}
use Rattle.loom_objects.specs.Tree.Question.{Made}
use Rattle.loom_engine.specs.Walk.Machine.{Machine, run}
use Rattle.loom_engine.specs.Walk.Sound.{IsMachine}
use Rattle.loom_engine.specs.Walk.Path.{Stored, choices, node_at, fresh, mark_status, after_run}

-- marks that are made at the nodes from number k on: what they mark at a node is to be tried there if it was skipped
abbrev pub mark_with : (ℕ → Choice → Bool) → ℕ → List Stored → List Stored
mark_with marks k [] = []
mark_with marks k (n ∷ p) = record n { status = λ o. mark_status (marks k o) (n.status o) } ∷ mark_with marks (suc k) p

-- The run that follows the path p has made the choices c and the marks so far, and the path is q now.
pub data IsUnderWay (m : Machine) (p : List Stored) : List Choice → (ℕ → Choice → Bool) → List Stored → Type 0 where
  begins : IsUnderWay m p [] (λ k o. false) p
  -- it follows a stored node, which is the one that it meets
  follows : (c : List Choice) (marks : ℕ → Choice → Bool) (q : List Stored) (n : Stored) → IsUnderWay m p c marks q → node_at q c ≡ Some n → m.node c ≡ Some n.made
      → IsUnderWay m p (c ++ n.present ∷ []) marks q
  -- past the last node it makes one, and takes the default
  makes : (c : List Choice) (marks : ℕ → Choice → Bool) (q : List Stored) (n : Made) → IsUnderWay m p c marks q → c ≡ choices q → m.node c ≡ Some n
      → IsUnderWay m p (c ++ n.default ∷ []) marks (q ++ fresh (m.every c) n ∷ [])
  -- it makes marks at nodes that it has met
  marks_more : (c : List Choice) (marks more : ℕ → Choice → Bool) (q : List Stored) → IsUnderWay m p c marks q → ((k : ℕ) (o : Choice) → more k o ≡ true → k < length c)
      → IsUnderWay m p c (λ k o. more k o || marks k o) (mark_with more zero q)

-- the nodes of the path are those that the machine meets
abbrev pub Meets : Machine → List Stored → Type 0
Meets m p = (before : List Choice) (n : Stored) → node_at p before ≡ Some n → m.node before ≡ Some n.made

-- The machine meets the path's nodes up to the one after these choices, which isn't the one that it meets there, if it
-- meets any.
pub record IsPartedAt (m : Machine) (p : List Stored) (c : List Choice) : Type 0 where
  pub before : (front : List Choice) (x : Choice) (rest : List Choice) (n : Stored) → c ≡ front ++ x ∷ rest → node_at p front ≡ Some n → m.node front ≡ Some n.made
  pub node : Stored
  pub stands : node_at p c ≡ Some node
  pub other : m.node c ≢ Some node.made

-- When a run is over and no stored node is left over, it was the path's run, it met each of the path's nodes, and with
-- the marks that the machine says it has left the path as it is to be after the run.
abbrev pub OverLaw : Type 0
OverLaw = (m : Machine) (p q : List Stored) (c : List Choice) (marks : ℕ → Choice → Bool) → IsMachine m → IsUnderWay m p c marks q → m.node c ≡ None → c ≡ choices q
    → Meets m p × (c ≡ run m (choices p))
    × (((k : ℕ) (o : Choice) → k < length c → marks k o ≡ (m.reduce && m.marks c k o)) → q ≡ after_run m p)

-- Where the path's nodes are those that the machine meets, a run that follows it meets them, and none is left over.
abbrev pub MeetingLaw : Type 0
MeetingLaw = (m : Machine) (p q : List Stored) (c : List Choice) (marks : ℕ → Choice → Bool) → Meets m p → IsUnderWay m p c marks q
    → ((n : Stored) → node_at q c ≡ Some n → m.node c ≡ Some n.made) × (m.node c ≡ None → c ≡ choices q)
