-- What a script's thread goes on to, where its step starts a thread.
use Rattle.std.specs.Prelude.{ℕ, None, Some, Result, Ok, IfOk, slice_get}
use Rattle.std.proofs.Common.{◌≡◌, refl, sym, ap, ◌∙◌, subst}
use Rattle.loom_objects.specs.Operation.Labelled.{Op, bare}
use Rattle.loom_objects.specs.declared.operation.Reply.{Reply}
use Rattle.loom_objects.specs.declared.operation.Request.{Request}
use Rattle.loom_objects.specs.declared.operation.Request.TheVariants as op
use Rattle.loom_objects.specs.declared.operation.ThreadOp.TheVariants.{Spawn}
use Rattle.loom_examples.specs.declared.scripts.step.Step.{Step}
use Rattle.loom_examples.specs.declared.scripts.step.Step.TheVariants as step
use Rattle.loom_examples.specs.Scripts.Running.{Running, landing, named_place, place_of, spawned}
use Rattle.loom_examples.specs.Scripts.Script.{fetched_after, next_of, spawn_at, step_operation}
use Rattle.loom_examples.specs.Scripts.Slots.{kept}
use Rattle.loom_examples.specs.Scripts.Written.{SpawnAt, written}

-- what such a step asks for, where the thread is behind it, is what comes next
pub spawns : {E : Type 0} (s behind : Running) (answer : Reply ℕ) (at_place : Step) (slot : ℕ) (name : _) (place start : ℕ) (asked : Request ℕ Running) (made : Result (Op ℕ Running) E)
    → behind ≡ fetched_after s answer → at_place ≡ step.SpawnAt slot name
    → Some (written at_place) ≡ slice_get s.steps place → place ≡ landing s.steps (kept s.state answer)
    → start ≡ named_place s.steps (slice_get s.steps place)
    → asked ≡ op.Thread (Spawn (spawned behind start) None) → made ≡ Ok (bare asked)
    → IfOk made (λ op. (behind, op) ≡ next_of s answer)
spawns s behind answer at_place slot name place start asked made after read at lands starts asks gives =
    let is : written at_place ≡ SpawnAt slot name.now = ap written read in
    let Next = λ (t : Running) (op : Op ℕ Running). ◌≡◌ {A = Running × Op ℕ Running} (t, op) (next_of s answer) in
    let after_it = fetched_after s answer in
    let asks_for : asked ≡ spawn_at behind name.now =
    asks ∙ ap (λ (n : ℕ). op.Thread (Spawn (spawned behind n) None))
    (starts ∙ ap (named_place s.steps) (sym at ∙ ap Some is) ∙ ap (λ (t : Running). place_of t.steps name.now) (sym after)) in
    let known : ◌≡◌ {A = Running × Op ℕ Running} (after_it, bare (spawn_at after_it name.now)) (next_of s answer) =
    subst (λ o. ◌≡◌ {A = Running × Op ℕ Running} (after_it, bare (spawn_at after_it name.now)) (after_it, step_operation after_it o))
    (subst (λ x. Some x ≡ slice_get s.steps (landing s.steps (kept s.state answer))) is (at ∙ ap (slice_get s.steps) lands)) refl in
    subst (λ m. IfOk m (λ op. Next behind op)) (sym gives)
    (subst (λ r. Next behind (bare r)) (sym asks_for) (subst (λ t. Next t (bare (spawn_at t name.now))) (sym after) known))
