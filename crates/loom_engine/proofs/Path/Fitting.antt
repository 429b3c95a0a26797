-- A word holds each node that a run has made.
use Rattle.std.proofs.Common.{◌≡◌, ◌≤◌, ◌<◌, ℕ, zero, suc, true, false, Bool, List, [], ◌∷◌, length, Option, Some, None, refl, inl, inr, arith}
use Rattle.std.specs.Prelude.{IfSome}
use Rattle.std.proofs.lemmas.Bool.{cases_lt}
use Rattle.loom_objects.specs.Tree.Stores.{slots_from}
use Rattle.loom_engine.specs.Walk.Path.{Closed, Active as Chosen, Visited as Tried, IsAtRest}
use Rattle.loom_engine.specs.declared.rt.path.node.Status.{Status}
use Rattle.loom_engine.specs.declared.rt.path.node.Node.{Node}
use Rattle.loom_engine.specs.declared.rt.path.node.Node.TheVariants as node
use Rattle.loom_engine.specs.Path.Nodes.{state_at, seen_threads, IsWell}
use Rattle.loom_engine.specs.Path.Words.{IsFit}

-- past the last thread there is no option
state_far : (l : List Status) (k : ℕ) → length l ≤ k → state_at l k ≡ Closed
state_far [] k h = refl
state_far (s ∷ l) zero h = absurd (omega arith)
state_far (s ∷ l) (suc k) h = state_far l k (omega arith)

default_fits : (first : Option ℕ) (l : List Status) → length l ≡ 5 → IsAtRest (seen_threads first true l) → IfSome first (λ thread. thread < 7)
default_fits None l h r = tt
default_fits (Some k) l h r = elim (cases_lt k 7) [
  | inl below ↦ below
  | inr far ↦ (let none : state_at l k ≡ Closed = state_far l k (omega arith) in elim r.default [
    | inl e ↦ (let is : state_at l k ≡ Chosen = e in absurd (cc (is, none)))
    | inr e ↦ (let is : state_at l k ≡ Tried = e in absurd (cc (is, none)))
  ])
]

slots_few : (l : List Bool) (k : ℕ) → length (slots_from k l) ≤ length l
slots_few [] k = omega arith
slots_few (true ∷ l) k = omega (arith, slots_few l (suc k))
slots_few (false ∷ l) k = omega (arith, slots_few l (suc k))

pub well_fit : (n : Node) → IsWell n → IsFit n
well_fit (node.Schedule n) w = (w.1, default_fits n.first n.statuses w.1 w.0)
well_fit (node.Load n) w = (w.1, omega (arith, w.0, w.1, slots_few n.readable 0))
well_fit (node.Spurious n) w = tt
