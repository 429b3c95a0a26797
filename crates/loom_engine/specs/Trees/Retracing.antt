-- Runs that go on from where an earlier run was: a path that begins as that one's did needn't be driven through the tree from its
-- beginning.
use Rattle.std.specs.Prelude.{ℕ, ◌≡◌, List, [], ◌∷◌, length}
use Rattle.loom_objects.specs.Tree.Tree.{Tree}
use Rattle.loom_engine.specs.Walk.Path.{Stored}
use Rattle.loom_engine.specs.Trees.Meeting.{Settings, Marking}
use Rattle.loom_engine.specs.Trees.Drive.{Trail, drive}

-- a node later on: it was made so, and the choice is the same
pub record IsLater (n m : Stored) : Type 0 where
  pub made : m.made ≡ n.made
  pub present : m.present ≡ n.present

-- the path begins with these nodes, as they are later on
abbrev pub BeginsWith : List Stored → List Stored → Type 0
BeginsWith [] nodes = Unit {0}
BeginsWith (n ∷ front) [] = ⊥
BeginsWith (n ∷ front) (m ∷ nodes) = IsLater n m × BeginsWith front nodes

-- the path when so many of its nodes were passed
abbrev pub standing_at : ℕ → Trail → Trail
standing_at k path = record path { position = k }

-- By these nodes the tree leads to the rest: from its beginning a path that begins with them drives through the tree as it drives from
-- there through the rest.
abbrev pub LeadsBy : {A : Type 0} → Settings → Marking → Tree A → List Stored → Tree A → Type 0
LeadsBy s adds tree front rest = (path : Trail) → BeginsWith front path.nodes → drive s adds tree (standing_at 0 path) ≡ drive s adds rest (standing_at (length front) path)
