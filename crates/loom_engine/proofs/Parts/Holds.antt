-- What always holds of a search in parts.
use Rattle.std.proofs.Common.{◌≡◌, ◌⊎◌, true, List, [], ◌∷◌, ◌++◌, Some}
use Rattle.loom_objects.specs.declared.choice.Choice.{Choice}
use Rattle.loom_objects.specs.Tree.Question.{Made, Among}
use Rattle.loom_engine.specs.Walk.Machine.{Machine, run}
use Rattle.loom_engine.specs.Walk.Runs.{Alternative, Reachable}
use Rattle.loom_engine.specs.Walk.Path.{Skip, Pending, Stored, choices, node_at, Rest}
use Rattle.loom_engine.specs.Walk.Walks.{run_of}
use Rattle.loom_engine.specs.Walk.Lists.{Member, IsOnce}
use Rattle.loom_engine.specs.Parts.Cuts.{Part, IsIn, IsPart, IsTried}
use Rattle.loom_engine.proofs.Parts.Lists.{TwoStarts, are_same, is_shorter, is_longer, two_starts, bases}

-- the run was made, or is the next one of a part
pub data Done (m : Machine) (made : List (List Choice)) (parts : List Part) (x : List Choice) : Type 0 where
  is_made : Member x made → Done m made parts x
  is_path : (q : Part) → IsIn q parts → x ≡ run_of m q.path → Done m made parts x

-- or it is listed: an option of a part's node is to be tried, or is noted
pub data Known (m : Machine) (made : List (List Choice)) (parts : List Part) (notes : List (List Choice)) (x : List Choice) : Type 0 where
  is_done : Done m made parts x → Known m made parts notes x
  is_open : (q : Part) (before : List Choice) (n : Stored) (o : Choice) → IsIn q parts → node_at q.path before ≡ Some n → n.made.exploring ≡ true → n.status o ≡ Pending
      → x ≡ run m (before ++ o ∷ []) → Known m made parts notes x
  is_noted : (k : List Choice) → Member k notes → x ≡ run m k → Known m made parts notes x

-- what holds of one part, where Had are runs that are made or come next
pub record Keeps (m : Machine) (made issued : List (List Choice)) (Had : List Choice → Type 0) (b : List Choice) (p : List Stored) : Type 0 where
  pub part : IsPart m b p
  -- each choice along the base was handed out, and none past it
  pub fixed : (before : List Choice) (c : Choice) (e : List Choice) → b ≡ before ++ c ∷ e → Member (before ++ c ∷ []) issued
  pub frontier : (o : Choice) (e : List Choice) → Member (b ++ o ∷ e) issued → ⊥
  -- where a run that was made passes a node above the floor, it took a choice that is tried there; none begins as the path
  pub tried : (before : List Choice) (n : Stored) → node_at p before ≡ Some n → (f : List Choice) → before ≡ b ++ f
      → (x : List Choice) → Member x made → (c : Choice) (e : List Choice) → x ≡ before ++ c ∷ e → IsTried n c
  pub new : (x : List Choice) → Member x made → (e : List Choice) → x ≡ choices p ++ e → ⊥
  -- what is tried was had
  pub had : (before : List Choice) (n : Stored) → node_at p before ≡ Some n → (f : List Choice) → before ≡ b ++ f → (o : Choice) → IsTried n o → Had (run m (before ++ o ∷ []))
  pub skipped : (before : List Choice) (n : Stored) (o : Choice) → node_at p before ≡ Some n → n.status o ≡ Skip → m.every before ≡ true → ⊥
  pub rest : (x : List Choice) → Rest m p x → Reachable m x

pub record IsNote (m : Machine) (issued : List (List Choice)) (k : List Choice) : Type 0 where
  pub before : List Choice
  pub option : Choice
  pub other : Choice
  pub splits : k ≡ before ++ option ∷ []
  pub trunk : Member (before ++ other ∷ []) issued
  pub reachable : Reachable m (run m k)

pub record Holds (m : Machine) (made : List (List Choice)) (parts : List Part) (issued notes : List (List Choice)) : Type 0 where
  pub kept : (q : Part) → IsIn q parts → Keeps m made issued (Done m made parts) q.base q.path
  pub bases_once : IsOnce (bases parts)
  -- where a run that was made passes a node of the trunk, it took a choice that was handed out
  pub passed : (x : List Choice) → Member x made → (before : List Choice) (c : Choice) (e : List Choice) (o : Choice) → x ≡ before ++ c ∷ e
      → Member (before ++ o ∷ []) issued → Member (before ++ c ∷ []) issued
  pub noted : (k : List Choice) → Member k notes → IsNote m issued k
  pub closed : (before : List Choice) (c : Choice) (e : List Choice) → Member (before ++ c ∷ e) issued → Member (before ++ c ∷ []) issued
  pub once : IsOnce made
  pub sound : (x : List Choice) → Member x made → Reachable m x
  pub issued_had : (k : List Choice) → Member k issued → Done m made parts (run m k)
  pub every : (before : List Choice) (c : Choice) (n : Made) (o : Choice) → Member (before ++ c ∷ []) issued → m.node before ≡ Some n → n.exploring ≡ true → m.every before ≡ true
      → Among o n.options → Member (before ++ o ∷ []) issued ⊎ Member (before ++ o ∷ []) notes
  -- what the runs made call for is known
  pub calls : (r : List Choice) → Member r made → (before : List Choice) (o : Choice) → Alternative m r before o → Known m made parts notes (run m (before ++ o ∷ []))
  pub begun : Done m made parts (run m [])

-- two parts with a run in common have one base
pub one_base : (m : Machine) (made issued : List (List Choice)) (Had : List Choice → Type 0) (b d : List Choice) (p q : List Stored) → Keeps m made issued Had b p → Keeps m made issued Had d q
    → (e f : List Choice) → b ++ e ≡ d ++ f → b ≡ d
one_base m made issued Had b d p q h k e f i = go (two_starts b e d f i)
  where
    go : TwoStarts b d → b ≡ d
    go (are_same j) = j
    go (is_shorter c g j) = absurd (h.frontier c [] (k.fixed b c g j))
    go (is_longer c g j) = absurd (k.frontier c [] (h.fixed d c g j))

-- nothing that was handed out goes on past the base
pub none_past : (m : Machine) (made issued : List (List Choice)) (Had : List Choice → Type 0) (b : List Choice) (p : List Stored) → Keeps m made issued Had b p
    → (f : List Choice) (o : Choice) → Member (b ++ (f ++ o ∷ [])) issued → ⊥
none_past m made issued Had b p h [] o i = h.frontier o [] i
none_past m made issued Had b p h (c ∷ f) o i = h.frontier c (f ++ o ∷ []) i

-- more is handed out, and more was had
pub keeps_wider : (m : Machine) (made issued more : List (List Choice)) (Had D : List Choice → Type 0) (b : List Choice) (p : List Stored) → Keeps m made issued Had b p
    → ((k : List Choice) → Member k issued → Member k more) → ((o : Choice) (e : List Choice) → Member (b ++ o ∷ e) more → ⊥) → ((x : List Choice) → Had x → D x) → Keeps m made more D b p
keeps_wider m made issued more Had D b p k wider frontier old = record {
  part = k.part;
  fixed = λ before c e i. wider (before ++ c ∷ []) (k.fixed before c e i);
  frontier = frontier;
  tried = k.tried;
  new = k.new;
  had = λ before n g f i o t. old (run m (before ++ o ∷ [])) (k.had before n g f i o t);
  skipped = k.skipped;
  rest = k.rest;
}
