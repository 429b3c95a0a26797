-- What was tried at a node of a path is made no more: choices that go on from it so are off.
use Rattle.std.proofs.Common.{◌≡◌, ◌⊎◌, List, ◌∷◌, ◌++◌, Some, refl, ap, sym, ◌∙◌, inl, inr, append_assoc}
use Rattle.loom_objects.specs.declared.choice.Choice.{Choice}
use Rattle.loom_engine.specs.Walk.Path.{Visited, Skip, IsAtRest, Status, Stored, choices, choose, node_at}
use Rattle.loom_engine.specs.Walk.Driven.{IsLeftBy}
use Rattle.loom_engine.specs.Covering.UnderWay.{HasNode}
use Rattle.loom_engine.proofs.Walk.Lists.{TwoSplits, chooses_node, earlier, later, node_chooses, same_place, two_splits}
use Rattle.loom_engine.proofs.Walk.Statuses.{Chosen, chosen_cases, is_next, is_other, was_present}
use Rattle.loom_engine.proofs.Walk.Stepping.{IsStep}

pub record IsOff (p : List Stored) (c : List Choice) : Type 0 where
  pub before : List Choice
  pub option : Choice
  pub after : List Choice
  pub node : Stored
  pub splits : c ≡ before ++ option ∷ after
  pub at : node_at p before ≡ Some node
  pub visited : node.status option ≡ Visited

-- a path at rest doesn't go so
pub off_apart : (p : List Stored) → ((before : List Choice) (n : Stored) → node_at p before ≡ Some n → IsAtRest n) → (c rest : List Choice) → IsOff p c → choices p ≡ c ++ rest → ⊥
off_apart p rests c rest off e =
    let z = chooses_node p off.before off.option (off.after ++ rest) (e ∙ ap (λ (l : List Choice). l ++ rest) off.splits ∙ append_assoc off.before (off.option ∷ off.after) rest) in
    let same : z.0 ≡ off.node = cc (z.1, off.at) in
    cc (off.visited, (rests off.before z.0 z.1).active, ap z.0.status z.2, ap (λ (n : Stored). n.status off.option) same)

-- a run keeps the nodes of its path, and what was tried there
module _ (p q : List Stored) (left_by : IsLeftBy p q) where
  pub node_kept : (c : List Choice) → HasNode p c → HasNode q c
  node_kept c has = let z = left_by.kept c has.node has.at in record { node = z.0; at = z.1 }

  pub off_kept : (c : List Choice) → IsOff p c → IsOff q c
  off_kept c off =
      let z = left_by.kept off.before off.node off.at in
      record { before = off.before; option = off.option; after = off.after; node = z.0; splits = off.splits; at = z.1; visited = z.4 off.option (λ e. apart e off.visited) ∙ off.visited }
    where
      apart : {s : Status} → s ≡ Skip → s ≡ Visited → ⊥
      apart e f = cc (e, f)

-- a step leaves a node, or goes on below another choice before it
module _ (q later_on : List Stored) (branch : List Choice) (n : Stored) (o : Choice) (s : IsStep q later_on branch n o) where
  was_off : (choose n o).status n.present ≡ Visited
  was_off = by (chosen_cases n o n.present)
    where
      by : Chosen n o n.present ((choose n o).status n.present) → (choose n o).status n.present ≡ Visited
      by (was_present e f) = f
      by (is_next f e g) = absurd (f refl)
      by (is_other f e g) = absurd (f refl)

  pub below_off : (c f : List Choice) → c ≡ branch ++ n.present ∷ f → IsOff later_on c
  below_off c f e = record { before = branch; option = n.present; after = f; node = choose n o; splits = e; at = s.here; visited = was_off }

  pub node_stepped : (c : List Choice) → HasNode q c → HasNode later_on c ⊎ IsOff later_on c
  node_stepped c has = by (two_splits c has.node.present a.0 branch n.present b.0 (sym a.1 ∙ b.1))
    where
      a : (after : List Choice) × (choices q ≡ c ++ has.node.present ∷ after)
      a = node_chooses q c has.node has.at

      b : (after : List Choice) × (choices q ≡ branch ++ n.present ∷ after)
      b = node_chooses q branch n s.at

      by : TwoSplits c has.node.present a.0 branch n.present b.0 → HasNode later_on c ⊎ IsOff later_on c
      by (earlier f i j) = inl (record { node = has.node; at = s.above c has.node.present f i ∙ has.at })
      by (same_place i j l) = inl (record { node = choose n o; at = ap (node_at later_on) i ∙ s.here })
      by (later f i j) = inr (below_off c f i)

  pub off_stepped : (c : List Choice) → IsOff q c → IsOff later_on c
  off_stepped c off = by (two_splits off.before off.node.present a.0 branch n.present b.0 (sym a.1 ∙ b.1))
    where
      a : (after : List Choice) × (choices q ≡ off.before ++ off.node.present ∷ after)
      a = node_chooses q off.before off.node off.at

      b : (after : List Choice) × (choices q ≡ branch ++ n.present ∷ after)
      b = node_chooses q branch n s.at

      still : off.before ≡ branch → Chosen n o off.option ((choose n o).status off.option) → (choose n o).status off.option ≡ Visited
      still i (was_present e f) = f
      still i (is_next f e g) = let same : off.node ≡ n = cc (off.at, s.at, ap (node_at q) i) in absurd (cc (off.visited, s.pending, ap off.node.status e, ap (λ (x : Stored). x.status o) same))
      still i (is_other f e g) = let same : off.node ≡ n = cc (off.at, s.at, ap (node_at q) i) in g ∙ ap (λ (x : Stored). x.status off.option) (sym same) ∙ off.visited

      by : TwoSplits off.before off.node.present a.0 branch n.present b.0 → IsOff later_on c
      by (earlier f i j) = record { before = off.before; option = off.option; after = off.after; node = off.node; splits = off.splits; at = s.above off.before off.node.present f i ∙ off.at; visited = off.visited }
      by (same_place i j l) =
          record { before = off.before; option = off.option; after = off.after; node = choose n o; splits = off.splits; at = ap (node_at later_on) i ∙ s.here; visited = still i (chosen_cases n o off.option) }
      by (later f i j) = below_off c (f ++ off.option ∷ off.after) (off.splits ∙ ap (λ (l : List Choice). l ++ off.option ∷ off.after) i ∙ append_assoc branch (n.present ∷ f) (off.option ∷ off.after))
