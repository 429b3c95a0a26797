-- The last node of a path goes on, or is dropped.
use Rattle.std.proofs.Common.{◌≡◌, ◌≢◌, ◌≤◌, ℕ, zero, suc, List, [], ◌∷◌, length, take, get_or, slice_set, Option, Some, None, true, false, nat_eq, ◌-◌, refl, ap, sym, ◌∙◌, subst, arith}
use Rattle.std.specs.Prelude.{slice_get, IsSomeAnd}
use Rattle.std.proofs.lemmas.Bool.{eqb-true, eqb-false}
use Rattle.loom_engine.specs.Walk.Path.{Stored, advance, step}
use Rattle.loom_engine.specs.declared.rt.path.node.Node.{Node}
use Rattle.loom_engine.specs.Path.Nodes.{seen, IsWell, AreWell}
use Rattle.loom_engine.specs.Path.Nodes.{stored}

-- ---- the nodes are at rest

pub well_last : (nodes : List Node) (i : ℕ) (n : Node) → suc i ≡ length nodes → n ≡ get_or nodes i n → AreWell nodes → IsWell n
well_last [] i n h e w = absurd (omega arith)
well_last (x ∷ nodes) zero n h e w = subst IsWell (sym e) w.0
well_last (x ∷ nodes) (suc i) n h e w = well_last nodes i n (omega arith) e w.1

pub well_set : (nodes : List Node) (i : ℕ) (n : Node) → AreWell nodes → IsWell n → AreWell (slice_set nodes i n)
well_set [] i n w v = tt
well_set (x ∷ nodes) zero n w v = (v, w.1)
well_set (x ∷ nodes) (suc i) n w v = (w.0, well_set nodes i n w.1 v)

pub well_front : (nodes : List Node) (i : ℕ) → AreWell nodes → AreWell (take i nodes)
well_front nodes zero w = tt
well_front [] (suc i) w = tt
well_front (x ∷ nodes) (suc i) w = (w.0, well_front nodes i w.1)

-- ---- how many there are

pub fewer_front : (nodes : List Node) (i : ℕ) → length (take i nodes) ≤ length nodes
fewer_front nodes zero = omega arith
fewer_front [] (suc i) = omega arith
fewer_front (x ∷ nodes) (suc i) = omega (arith, fewer_front nodes i)

-- ---- the step

under : Stored → Option (List Stored) → Option (List Stored)
under n s = elim s [ Some deeper ↦ Some (n ∷ deeper) | None ↦ elim (advance n) [ None ↦ None | Some later ↦ Some (later ∷ []) ] ]

under_is : (n : Stored) (p : List Stored) → step (n ∷ p) ≡ under n (step p)
unfolding step under
under_is n p = refl

lone : (n : Stored) (s : Option Stored) → advance n ≡ s → step (n ∷ []) ≡ elim s [ None ↦ None | Some later ↦ Some (later ∷ []) ]
unfolding step
lone n s h = ap one h
  where
    one : Option Stored → Option (List Stored)
    one a = elim a [ None ↦ None | Some later ↦ Some (later ∷ []) ]

-- the last node goes on
pub step_moved : (nodes : List Node) (i : ℕ) (n next : Node) → suc i ≡ length nodes → n ≡ get_or nodes i n → advance (seen n) ≡ Some (seen next)
    → step (stored nodes) ≡ Some (stored (slice_set nodes i next))
unfolding step under
step_moved [] i n next h e a = absurd (omega arith)
step_moved (x ∷ []) zero n next h e a = lone (seen x) (Some (seen next)) (ap (λ (k : Node). advance (seen k)) (sym e) ∙ a)
step_moved (x ∷ y ∷ nodes) zero n next h e a = absurd (omega arith)
step_moved (x ∷ nodes) (suc i) n next h e a = under_is (seen x) (stored nodes) ∙ ap (under (seen x)) (step_moved nodes i n next (omega arith) e a)

-- the last node can't, and the rest goes on without it
pub step_dropped : (nodes : List Node) (i : ℕ) (n : Node) → suc i ≡ length nodes → n ≡ get_or nodes i n → advance (seen n) ≡ None
    → step (stored nodes) ≡ step (stored (take i nodes))
unfolding step under
step_dropped [] i n h e a = absurd (omega arith)
step_dropped (x ∷ []) zero n h e a = lone (seen x) None (ap (λ (k : Node). advance (seen k)) (sym e) ∙ a)
step_dropped (x ∷ y ∷ nodes) zero n h e a = absurd (omega arith)
step_dropped (x ∷ nodes) (suc i) n h e a =
    under_is (seen x) (stored nodes) ∙ ap (under (seen x)) (step_dropped nodes i n (omega arith) e a) ∙ sym (under_is (seen x) (stored (take i nodes)))

pub step_done : (nodes : List Node) (i : ℕ) → suc i ≡ length nodes → IsSomeAnd (slice_get (stored nodes) i) (λ n. advance n ≡ None)
    → step (stored nodes) ≡ step (stored (take i nodes))
unfolding step under
step_done [] i h a = absurd (omega arith)
step_done (x ∷ []) zero h a = lone (seen x) None a
step_done (x ∷ y ∷ nodes) zero h a = absurd (omega arith)
step_done (x ∷ nodes) (suc i) h a = under_is (seen x) (stored nodes) ∙ ap (under (seen x)) (step_done nodes i (omega arith) a) ∙ sym (under_is (seen x) (stored (take i nodes)))

pub step_empty : (nodes : List Node) → length nodes ≡ 0 → step (stored nodes) ≡ None
unfolding step
step_empty [] h = refl
step_empty (x ∷ nodes) h = absurd (omega arith)

-- ---- the place of the last node

pub has_last : (nodes : List Node) (k : ℕ) → k ≡ length nodes → false ≡ nat_eq k 0 → suc (k - 1) ≡ length nodes
has_last nodes k e h = (let some : k ≢ 0 = eqb-false k 0 (sym h) in omega arith)

pub has_none : (nodes : List Node) (k : ℕ) → k ≡ length nodes → true ≡ nat_eq k 0 → length nodes ≡ 0
has_none nodes k e h = sym e ∙ eqb-true k 0 (sym h)
