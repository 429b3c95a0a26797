-- The last node above the floor goes on, or is dropped.
use Rattle.std.proofs.Common.{◌≡◌, ◌≤◌, ℕ, zero, suc, List, [], ◌∷◌, length, take, get_or, slice_set, Option, Some, None, refl, ap, sym, ◌∙◌, arith}
use Rattle.std.specs.Prelude.{slice_get, IsSomeAnd}
use Rattle.loom_engine.specs.Walk.Path.{Stored, advance, step}
use Rattle.loom_engine.specs.declared.rt.path.node.Node.{Node}
use Rattle.loom_engine.specs.Path.Nodes.{seen, stored}
use Rattle.loom_engine.proofs.Nodes.Nodes.Fronts.{step_moved, step_dropped, step_done, step_empty}
use Rattle.loom_engine.specs.Parts.Floors.{step_above}

on_top : Stored → Option (List Stored) → Option (List Stored)
on_top n s = elim s [ Some deeper ↦ Some (n ∷ deeper) | None ↦ None ]

on_top_is : (k : ℕ) (n : Stored) (p : List Stored) → step_above (suc k) (n ∷ p) ≡ on_top n (step_above k p)
unfolding step_above on_top
on_top_is k n p = refl

floor_is : (p : List Stored) → step_above zero p ≡ step p
unfolding step_above
floor_is p = refl

pub above_moved : (k : ℕ) (nodes : List Node) (i : ℕ) (n next : Node) → k ≤ i → suc i ≡ length nodes → n ≡ get_or nodes i n → advance (seen n) ≡ Some (seen next)
    → step_above k (stored nodes) ≡ Some (stored (slice_set nodes i next))
unfolding on_top
above_moved zero nodes i n next l h e a = floor_is (stored nodes) ∙ step_moved nodes i n next h e a
above_moved (suc k) [] i n next l h e a = absurd (omega arith)
above_moved (suc k) (x ∷ nodes) zero n next l h e a = absurd (omega arith)
above_moved (suc k) (x ∷ nodes) (suc i) n next l h e a = on_top_is k (seen x) (stored nodes) ∙ ap (on_top (seen x)) (above_moved k nodes i n next (omega arith) (omega arith) e a)

pub above_dropped : (k : ℕ) (nodes : List Node) (i : ℕ) (n : Node) → k ≤ i → suc i ≡ length nodes → n ≡ get_or nodes i n → advance (seen n) ≡ None
    → step_above k (stored nodes) ≡ step_above k (stored (take i nodes))
above_dropped zero nodes i n l h e a = floor_is (stored nodes) ∙ step_dropped nodes i n h e a ∙ sym (floor_is (stored (take i nodes)))
above_dropped (suc k) [] i n l h e a = absurd (omega arith)
above_dropped (suc k) (x ∷ nodes) zero n l h e a = absurd (omega arith)
above_dropped (suc k) (x ∷ nodes) (suc i) n l h e a =
    on_top_is k (seen x) (stored nodes) ∙ ap (on_top (seen x)) (above_dropped k nodes i n (omega arith) (omega arith) e a)
    ∙ sym (on_top_is k (seen x) (stored (take i nodes)))

pub above_done : (k : ℕ) (nodes : List Node) (i : ℕ) → k ≤ i → suc i ≡ length nodes → IsSomeAnd (slice_get (stored nodes) i) (λ n. advance n ≡ None)
    → step_above k (stored nodes) ≡ step_above k (stored (take i nodes))
above_done zero nodes i l h a = floor_is (stored nodes) ∙ step_done nodes i h a ∙ sym (floor_is (stored (take i nodes)))
above_done (suc k) [] i l h a = absurd (omega arith)
above_done (suc k) (x ∷ nodes) zero l h a = absurd (omega arith)
above_done (suc k) (x ∷ nodes) (suc i) l h a =
    on_top_is k (seen x) (stored nodes) ∙ ap (on_top (seen x)) (above_done k nodes i (omega arith) (omega arith) a)
    ∙ sym (on_top_is k (seen x) (stored (take i nodes)))

pub above_none : (k : ℕ) (nodes : List Node) → length nodes ≤ k → step_above k (stored nodes) ≡ None
unfolding on_top step_above
above_none zero [] h = step_empty [] refl
above_none zero (x ∷ nodes) h = absurd (omega arith)
above_none (suc k) [] h = refl
above_none (suc k) (x ∷ nodes) h = on_top_is k (seen x) (stored nodes) ∙ ap (on_top (seen x)) (above_none k nodes (omega arith))

pub front_same : (k : ℕ) (nodes : List Node) (i : ℕ) → k ≤ i → take k (take i nodes) ≡ take k nodes
front_same zero nodes i l = refl
front_same (suc k) nodes zero l = absurd (omega arith)
front_same (suc k) [] (suc i) l = refl
front_same (suc k) (x ∷ nodes) (suc i) l = ap (λ t. x ∷ t) (front_same k nodes i (omega arith))

pub whole_front : (k : ℕ) (nodes : List Node) → length nodes ≤ k → take k nodes ≡ nodes
whole_front zero [] h = refl
whole_front zero (x ∷ nodes) h = absurd (omega arith)
whole_front (suc k) [] h = refl
whole_front (suc k) (x ∷ nodes) h = ap (λ t. x ∷ t) (whole_front k nodes (omega arith))
