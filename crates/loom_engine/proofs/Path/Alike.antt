-- The notes of a path's schedules follow from the rest of its nodes.
use Rattle.std.proofs.Common.{◌≡◌, ◌≤◌, ◌+◌, ℕ, suc, List, [], ◌∷◌, ◌++◌, length, map, take, get_or, Option, Some, refl, ap, ap₂, sym, ◌∙◌, subst, arith}
use Rattle.std.specs.Prelude.{slice_get}
use Rattle.std.proofs.lemmas.List.{map-append, take_more}
use Rattle.loom_objects.specs.declared.choice.Choice.{Choice}
use Rattle.loom_objects.specs.Tree.Question.{Made}
use Rattle.loom_engine.specs.declared.rt.path.node.Node.{Node}
use Rattle.loom_engine.specs.declared.rt.path.node.Node.TheVariants as node
use Rattle.loom_engine.specs.declared.rt.path.node.Schedule.{Schedule}
use Rattle.loom_engine.specs.Path.Tallies.{passes_to, IsNoted, AreNoted}
use Rattle.loom_engine.specs.Path.WellFormed.{unnoted, bare, AreAlike}
use Rattle.loom_engine.proofs.Nodes.Notes.{passes_more}

-- a schedule with these notes
abbrev with_notes : ℕ → Option ℕ → Option ℕ → Schedule → Schedule
with_notes preemptions switch nearest n = record n { preemptions = preemptions; switch = switch; nearest = nearest }

schedules_same : (n m : Schedule) → node.Schedule (unnoted n.first n.exploring n.statuses) ≡ node.Schedule (unnoted m.first m.exploring m.statuses)
    → n.preemptions ≡ m.preemptions → n.switch ≡ m.switch → n.nearest ≡ m.nearest → n ≡ m
schedules_same n m e count switch nearest =
    let plain : unnoted n.first n.exploring n.statuses ≡ unnoted m.first m.exploring m.statuses = cc e in
    ap (λ p. with_notes p n.switch n.nearest (unnoted n.first n.exploring n.statuses)) count
    ∙ ap (λ (w : Option ℕ). with_notes m.preemptions w n.nearest (unnoted n.first n.exploring n.statuses)) switch
    ∙ ap (λ (x : Option ℕ). with_notes m.preemptions m.switch x (unnoted n.first n.exploring n.statuses)) nearest
    ∙ ap (with_notes m.preemptions m.switch m.nearest) plain

-- two nodes that note the same, and are the same but for that
same_notes : (k : ℕ) (passes : List (Made × Choice)) (n m : Node) → bare n ≡ bare m → IsNoted k passes n → IsNoted k passes m → n ≡ m
same_notes k passes (node.Schedule n) (node.Schedule m) e a b = ap node.Schedule (schedules_same n m e (a.0 ∙ sym b.0) (a.1 ∙ sym b.1) (a.2 ∙ sym b.2))
same_notes k passes (node.Schedule n) (node.Load m) e a b = absurd (cc e)
same_notes k passes (node.Schedule n) (node.Spurious m) e a b = absurd (cc e)
same_notes k passes (node.Load n) (node.Schedule m) e a b = absurd (cc e)
same_notes k passes (node.Load n) (node.Load m) e a b = e
same_notes k passes (node.Load n) (node.Spurious m) e a b = absurd (cc e)
same_notes k passes (node.Spurious n) (node.Schedule m) e a b = absurd (cc e)
same_notes k passes (node.Spurious n) (node.Load m) e a b = absurd (cc e)
same_notes k passes (node.Spurious n) (node.Spurious m) e a b = e

get_end : (front : List Node) (x : Node) (xs : List Node) → slice_get (front ++ x ∷ xs) (length front) ≡ Some x
get_end [] x xs = refl
get_end (y ∷ front) x xs = get_end front x xs

regrouped : (front : List Node) (x : Node) (xs : List Node) → front ++ x ∷ xs ≡ (front ++ x ∷ []) ++ xs
regrouped [] x xs = refl
regrouped (y ∷ front) x xs = ap (λ l. y ∷ l) (regrouped front x xs)

-- what the node behind these notes
noted_there : (front : List Node) (x : Node) (xs : List Node) → AreNoted (front ++ x ∷ xs) → IsNoted (length front) (passes_to (length front) front) x
noted_there front x xs noted =
    let within : length front ≤ length front = omega arith in
    subst (λ l. IsNoted (length front) l x) (passes_more (length front) front (x ∷ xs) within) (noted (length front) x (get_end front x xs))

same_after : (front xs ys : List Node) → AreNoted (front ++ xs) → AreNoted (front ++ ys) → AreAlike xs ys → xs ≡ ys
same_after front [] [] a b e = refl
same_after front [] (y ∷ ys) a b e = absurd (cc e)
same_after front (x ∷ xs) [] a b e = absurd (cc e)
same_after front (x ∷ xs) (y ∷ ys) a b e =
    let first : bare x ≡ bare y = cc e in
    let others : map bare xs ≡ map bare ys = cc e in
    let is : x ≡ y = same_notes (length front) (passes_to (length front) front) x y first (noted_there front x xs a) (noted_there front y ys b) in
    let later = same_after (front ++ x ∷ []) xs ys (subst AreNoted (regrouped front x xs) a) (subst AreNoted (ap (λ (z : Node). front ++ z ∷ ys) (sym is) ∙ regrouped front x ys) b) others in
    ap₂ (λ (z : Node) (l : List Node). z ∷ l) is later

pub alike_same : (xs ys : List Node) → AreNoted xs → AreNoted ys → AreAlike xs ys → xs ≡ ys
alike_same xs ys a b e = same_after [] xs ys a b e

-- one node more is alike
pub alike_more : (xs ys : List Node) (x y : Node) (i : ℕ) → suc i ≤ length ys → y ≡ get_or ys i y → bare x ≡ bare y → AreAlike xs (take i ys) → AreAlike (xs ++ x ∷ []) (take (i + 1) ys)
alike_more xs ys x y i below at same so_far = rw (take_more ys i y below, ← at, map-append, map-append, so_far, same) refl
