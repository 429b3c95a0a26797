-- The notes of a path's schedules, as its nodes change.
use Rattle.std.proofs.Common.{◌≡◌, ◌≤◌, ◌<◌, ◌+◌, ℕ, zero, suc, Bool, false, List, [], ◌∷◌, ◌++◌, length, map, take, get_or, slice_set, Option, Some, None, ◌⊎◌, inl, inr, refl, ap, sym, ◌∙◌, subst, arith}
use Rattle.std.specs.Prelude.{slice_get, IsSomeAnd}
use Rattle.loom_objects.specs.declared.choice.Choice.{Choice}
use Rattle.loom_objects.specs.Tree.Question.{Made, made_of}
use Rattle.loom_objects.specs.Tree.Stores.{asked_store}
use Rattle.loom_engine.specs.Walk.Machine.{is_thread}
use Rattle.loom_engine.specs.Walk.Path.{Stored}
use Rattle.loom_engine.specs.Trees.Drive.{pass_of}
use Rattle.loom_engine.specs.declared.rt.path.node.Node.{Node}
use Rattle.loom_engine.specs.declared.rt.path.node.Tally.{Tally}
use Rattle.loom_engine.specs.Path.Nodes.{seen}
use Rattle.loom_engine.specs.Path.Tallies.{passes_to, IsNoted, IsNotedAt, AreNoted, IsValueAt, Tallies, IsTally}
use Rattle.loom_engine.proofs.Nodes.Tallies.{count_within, untallied}

-- ---- what the first nodes pass

pub passes_length : (k : ℕ) (nodes : List Node) → k ≤ length nodes → length (passes_to k nodes) ≡ k
passes_length zero nodes h = refl
passes_length (suc k) [] h = absurd (omega arith)
passes_length (suc k) (n ∷ nodes) h = ap suc (passes_length k nodes (omega arith))

pub passes_more : (k : ℕ) (nodes more : List Node) → k ≤ length nodes → passes_to k (nodes ++ more) ≡ passes_to k nodes
passes_more zero nodes more h = refl
passes_more (suc k) [] more h = absurd (omega arith)
passes_more (suc k) (n ∷ nodes) more h = ap (λ l. pass_of (seen n) ∷ l) (passes_more k nodes more (omega arith))

pub passes_front : (k i : ℕ) (nodes : List Node) → k ≤ i → passes_to k (take i nodes) ≡ passes_to k nodes
passes_front zero i nodes h = refl
passes_front (suc k) zero nodes h = absurd (omega arith)
passes_front (suc k) (suc i) [] h = refl
passes_front (suc k) (suc i) (n ∷ nodes) h = ap (λ l. pass_of (seen n) ∷ l) (passes_front k i nodes (omega arith))

pub passes_set : (k i : ℕ) (nodes : List Node) (x : Node) → k ≤ i → passes_to k (slice_set nodes i x) ≡ passes_to k nodes
passes_set zero i nodes x h = refl
passes_set (suc k) i [] x h = refl
passes_set (suc k) zero (n ∷ nodes) x h = absurd (omega arith)
passes_set (suc k) (suc i) (n ∷ nodes) x h = ap (λ l. pass_of (seen n) ∷ l) (passes_set k i nodes x (omega arith))

pub passes_next : (k : ℕ) (nodes : List Node) (n : Stored) → slice_get (map seen nodes) k ≡ Some n → passes_to (suc k) nodes ≡ passes_to k nodes ++ pass_of n ∷ []
passes_next k [] n h = absurd (cc h)
passes_next zero (x ∷ nodes) n h = (let e : seen x ≡ n = cc h in ap (λ (s : Stored). pass_of s ∷ []) e)
passes_next (suc k) (x ∷ nodes) n h = ap (λ l. pass_of (seen x) ∷ l) (passes_next k nodes n h)

-- ---- the node at a place

pub stored_node : (nodes : List Node) (k : ℕ) (n : Node) → slice_get nodes k ≡ Some n → slice_get (map seen nodes) k ≡ Some (seen n)
stored_node [] k n h = absurd (cc h)
stored_node (x ∷ nodes) zero n h = (let e : x ≡ n = cc h in ap (λ (m : Node). Some (seen m)) e)
stored_node (x ∷ nodes) (suc k) n h = stored_node nodes k n h

pub node_within : (nodes : List Node) (k : ℕ) (n : Node) → slice_get nodes k ≡ Some n → k < length nodes
node_within [] k n h = absurd (cc h)
node_within (x ∷ nodes) zero n h = omega arith
node_within (x ∷ nodes) (suc k) n h = omega (arith, node_within nodes k n h)

pub node_at : (nodes : List Node) (k : ℕ) (n : Node) → k < length nodes → n ≡ get_or nodes k n → slice_get nodes k ≡ Some n
node_at [] k n h e = absurd (omega arith)
node_at (x ∷ nodes) zero n h e = ap Some (sym e)
node_at (x ∷ nodes) (suc k) n h e = node_at nodes k n (omega arith) e

pub node_last : (nodes : List Node) (k : ℕ) (n : Node) → k ≡ length nodes → slice_get (nodes ++ n ∷ []) k ≡ Some n
node_last [] zero n h = refl
node_last [] (suc k) n h = absurd (omega arith)
node_last (x ∷ nodes) zero n h = absurd (omega arith)
node_last (x ∷ nodes) (suc k) n h = node_last nodes k n (omega arith)

get_more : (nodes : List Node) (x : Node) (k : ℕ) (n : Node) → slice_get (nodes ++ x ∷ []) k ≡ Some n → (slice_get nodes k ≡ Some n) ⊎ ((k ≡ length nodes) × (x ≡ n))
get_more [] x zero n h = inr (refl, cc h)
get_more [] x (suc k) n h = absurd (cc h)
get_more (y ∷ nodes) x zero n h = inl h
get_more (y ∷ nodes) x (suc k) n h = elim (get_more nodes x k n h) [ inl e ↦ inl e | inr e ↦ inr (omega (arith, e.0), e.1) ]

get_front : (nodes : List Node) (i k : ℕ) (n : Node) → slice_get (take i nodes) k ≡ Some n → (k < i) × (slice_get nodes k ≡ Some n)
get_front nodes zero k n h = absurd (cc h)
get_front [] (suc i) k n h = absurd (cc h)
get_front (x ∷ nodes) (suc i) zero n h = (omega arith, h)
get_front (x ∷ nodes) (suc i) (suc k) n h = (let z = get_front nodes i k n h in (omega (arith, z.0), z.1))

get_set : (nodes : List Node) (i : ℕ) (x : Node) (k : ℕ) (n : Node) → slice_get (slice_set nodes i x) k ≡ Some n → (slice_get nodes k ≡ Some n) ⊎ ((k ≡ i) × (x ≡ n))
get_set [] i x k n h = absurd (cc h)
get_set (y ∷ nodes) zero x zero n h = inr (refl, cc h)
get_set (y ∷ nodes) zero x (suc k) n h = inl h
get_set (y ∷ nodes) (suc i) x zero n h = inl h
get_set (y ∷ nodes) (suc i) x (suc k) n h = elim (get_set nodes i x k n h) [ inl e ↦ inl e | inr e ↦ inr (ap suc e.0, e.1) ]

-- ---- the notes

-- a node more at the end
pub noted_more : (nodes : List Node) (x : Node) → AreNoted nodes → IsNotedAt nodes (length nodes) x → AreNoted (nodes ++ x ∷ [])
noted_more nodes x noted here k n h = elim (get_more nodes x k n h) [
  | inl e ↦ (let within : k ≤ length nodes = omega (arith, node_within nodes k n e) in subst (λ l. IsNoted k l n) (sym (passes_more k nodes (x ∷ []) within)) (noted k n e))
  | inr e ↦
      (let place : k ≡ length nodes = e.0 in let within : k ≤ length nodes = omega arith in
      subst (λ l. IsNoted k l n) (sym (passes_more k nodes (x ∷ []) within))
      (subst (λ (m : Node). IsNoted k (passes_to k nodes) m) e.1 (subst (λ j. IsNoted j (passes_to j nodes) x) (sym place) here)))
]

-- the first nodes
pub noted_front : (nodes : List Node) (i : ℕ) → AreNoted nodes → AreNoted (take i nodes)
noted_front nodes i noted k n h =
    let e = get_front nodes i k n h in
    let before : k ≤ i = omega (arith, e.0) in
    subst (λ l. IsNoted k l n) (sym (passes_front k i nodes before)) (noted k n e.1)

-- the last node changes, but not what it notes
pub noted_set : (nodes : List Node) (i : ℕ) (old x : Node) → suc i ≡ length nodes → old ≡ get_or nodes i old → AreNoted nodes
    → ((k : ℕ) (passes : List (Made × Choice)) → IsNoted k passes old → IsNoted k passes x) → AreNoted (slice_set nodes i x)
noted_set nodes i old x last there noted keeps k n h = elim (get_set nodes i x k n h) [
  | inl e ↦ (let before : k ≤ i = omega (arith, node_within nodes k n e) in subst (λ l. IsNoted k l n) (sym (passes_set k i nodes x before)) (noted k n e))
  | inr e ↦
      (let place : k ≡ i = e.0 in let before : k ≤ i = omega arith in
      let was : slice_get nodes k ≡ Some old = ap (slice_get nodes) place ∙ node_at nodes i old (omega arith) there in
      subst (λ l. IsNoted k l n) (sym (passes_set k i nodes x before)) (subst (λ (m : Node). IsNoted k (passes_to k nodes) m) e.1 (keeps k (passes_to k nodes) (noted k old was))))
]

-- ---- the tally of the run

-- a run without nodes to pass
pub tally_start : (nodes : List Node) (t : Tally) → Tallies 0 [] t → IsTally nodes 0 t
tally_start nodes t h = h

-- a node more at the end
pub tally_kept : (nodes : List Node) (x : Node) (k : ℕ) (t : Tally) → k ≤ length nodes → IsTally nodes k t → IsTally (nodes ++ x ∷ []) k t
tally_kept nodes x k t h held = subst (λ l. Tallies k l t) (sym (passes_more k nodes (x ∷ []) h)) held

-- the count fits
pub tally_within : (nodes : List Node) (k : ℕ) (t : Tally) → k ≤ length nodes → IsTally nodes k t → t.preemptions ≤ k
tally_within nodes k t h held = omega (arith, held.0, count_within (passes_to k nodes), passes_length k nodes h)

-- a node is passed
pub tally_on : (nodes : List Node) (k : ℕ) (n : Stored) (t : Tally) → slice_get (map seen nodes) k ≡ Some n → Tallies (k + 1) (passes_to k nodes ++ pass_of n ∷ []) t → IsTally nodes (k + 1) t
tally_on nodes k n t h held =
    let next : suc k ≡ k + 1 = omega arith in
    subst (λ l. Tallies (k + 1) l t) (sym (ap (λ j. passes_to j nodes) (sym next) ∙ passes_next k nodes n h)) held

-- which is no schedule
pub tally_value : (nodes : List Node) (k : ℕ) (t : Tally) → k ≤ length nodes → IsValueAt nodes k → IsTally nodes k t → IsTally nodes (k + 1) t
tally_value nodes k t h value held = go (slice_get (map seen nodes) k) refl value
  where
    go : (o : Option Stored) → slice_get (map seen nodes) k ≡ o → IsSomeAnd o (λ n. is_thread n.made.default ≡ false) → IsTally nodes (k + 1) t
    go None e f = absurd f
    go (Some n) e f =
        let next : suc k ≡ k + 1 = omega arith in
        tally_on nodes k n t e (subst (λ j. Tallies j (passes_to k nodes ++ pass_of n ∷ []) t) next (untallied k (passes_to k nodes) (pass_of n) (passes_length k nodes h) t held f))

-- ---- nodes that are no schedules

pub value_here : (nodes : List Node) (k : ℕ) (n : Node) → slice_get nodes k ≡ Some n → is_thread (seen n).made.default ≡ false → IsValueAt nodes k
value_here nodes k n h f = subst (λ (o : Option Stored). IsSomeAnd o (λ n. is_thread n.made.default ≡ false)) (sym (stored_node nodes k n h)) f

pub store_value : (exploring : Bool) (xs : List ℕ) → is_thread (made_of (asked_store exploring xs)).default ≡ false
store_value exploring [] = refl
store_value exploring (x ∷ xs) = refl

pub value_within : (nodes : List Node) (k : ℕ) → IsValueAt nodes k → k < length nodes
value_within [] k h = absurd h
value_within (x ∷ nodes) zero h = omega arith
value_within (x ∷ nodes) (suc k) h = omega (arith, value_within nodes k h)
