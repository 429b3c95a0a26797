-- What is done to counted references keeps locks sound.
use Rattle.std.proofs.Common.{◌≡◌, ℕ, Bool, Option, Some, None, refl}
use Rattle.std.specs.Prelude.{◌==◌, ◌-◌, ◌^◌, true, false, nat_lt, Ok, Err}
use Rattle.loom_views.specs.declared.rt.failure.FailureKind.TheVariants.{Misuse, TooManySteps}
use Rattle.loom_objects.specs.declared.operation.ArcOp.{ArcOp}
use Rattle.loom_objects.specs.declared.operation.ArcOp.TheVariants as arc_op
use Rattle.loom_objects.specs.declared.rt.arc.Arc.{Arc}
use Rattle.loom_objects.specs.declared.rt.thread.Counting.{Counting}
use Rattle.loom_objects.specs.declared.rt.thread.Counting.TheVariants as counting
use Rattle.loom_objects.specs.declared.rt.thread.Task.{Task}
use Rattle.loom_objects.specs.Rules.Arc.{arc_begins, comes_to, counts, decrements, drops_last, is_free, may_grow, sole_value, tries_unwrap, unwraps_if, with_arc, with_one_fewer}
use Rattle.loom_objects.specs.Lent.{value_in}
use Rattle.loom_objects.specs.Rules.Moves.{acquires, an_arc, is_number, releases}
use Rattle.loom_objects.specs.World.{World}
use Rattle.loom_engine.proofs.Runs.Fairness.{IsFairResult, either}
use Rattle.loom_objects.specs.declared.rt.thread.Task.TheVariants as task
use Rattle.loom_engine.proofs.Runs.States.{freed_by, pends_ready}
use Rattle.loom_engine.proofs.Runs.Ruling.{Keeping, arc_fair, chained, check_keeping, fair_keeping, found_keeping, misuse, new_keeping, set_keeping}

module _ {D : Type 0} where
  grows_fair : (arc : Arc D) → IsFairResult (may_grow arc)
  grows_fair arc = either (is_free arc) _ (Err Misuse) (either (nat_lt arc.count (2 ^ 64 - 1)) (Ok tt) (Err TooManySteps) tt (λ e. cc)) misuse

  sole_fair : (arc : Arc D) → IsFairResult (sole_value arc)
  sole_fair arc = either (is_free arc) (Ok _) (Err Misuse) tt misuse

  drops_keeping : (value : Option D) (n : ℕ) (w : World D) → Keeping w (drops_last value n w)
  drops_keeping None n w = λ out k. k
  drops_keeping (Some value) n w = λ out k. k

  decrements_keeping : (n : ℕ) (w : World D) → Keeping w (decrements n w)
  decrements_keeping n w =
      fair_keeping (an_arc n w) _ w (arc_fair n w) (λ arc. fair_keeping (sole_value arc) _ w (sole_fair arc) (λ value.
      let released = releases n (with_arc n (with_one_fewer arc) w) in chained w released _ (λ out k. set_keeping w n _ tt out k) (drops_keeping value n released)))

  pub counts_keeping : (todo : Counting) (n : ℕ) (w : World D) → Keeping w (counts todo n w)
  counts_keeping counting.Clone n w = fair_keeping (an_arc n w) _ w (arc_fair n w) (λ arc. fair_keeping (may_grow arc) _ w (grows_fair arc) (λ u out k. set_keeping w n _ tt out k))
  counts_keeping counting.Drop n w = decrements_keeping n w
  counts_keeping counting.GetMut n w = fair_keeping (an_arc n w) _ w (arc_fair n w) (λ arc. fair_keeping (sole_value arc) _ w (sole_fair arc) (λ value out k. set_keeping w n _ tt out k))
  counts_keeping counting.Unwrap n w = fair_keeping (an_arc n w) _ w (arc_fair n w) (λ arc. check_keeping (arc.count == 1) Misuse _ w misuse (λ e. decrements_keeping n w))
  counts_keeping counting.StrongCount n w = fair_keeping (an_arc n w) _ w (arc_fair n w) (λ arc. check_keeping (is_free arc) Misuse _ w misuse (λ e out k. k))

  unwraps_if_keeping : (is_alone : Bool) (n : ℕ) (w : World D) → Keeping w (unwraps_if is_alone n w)
  unwraps_if_keeping false n w = λ out k. k
  unwraps_if_keeping true n w = λ out k. pends_ready (task.Count counting.Unwrap n) false refl k

  pub tries_unwrap_keeping : (n : ℕ) (w : World D) → Keeping w (tries_unwrap n w)
  tries_unwrap_keeping n w =
      fair_keeping (an_arc n w) _ w (arc_fair n w) (λ arc. check_keeping (is_free arc) Misuse _ w misuse (λ e.
      let acquired = acquires n w in chained w acquired _ (λ out k. k) (unwraps_if_keeping (arc.count == 1) n acquired)))

  comes_to_keeping : (todo : Task D) (n : ℕ) (w : World D) → freed_by todo ≡ None → Keeping w (comes_to todo n w)
  comes_to_keeping todo n w h = fair_keeping (an_arc n w) _ w (arc_fair n w) (λ arc. check_keeping (nat_lt 0 arc.count) Misuse _ w misuse (λ e out k. pends_ready todo false h k))

  pub arc_begins_keeping : (todo : ArcOp D) (w : World D) → Keeping w (arc_begins todo w)
  arc_begins_keeping (arc_op.New value) w = λ out k. new_keeping w _ tt out k
  arc_begins_keeping (arc_op.Get n) w =
      fair_keeping (an_arc n w) _ w (arc_fair n w) (λ arc. check_keeping (is_free arc) Misuse _ w misuse (λ e. found_keeping (value_in arc.content) Misuse _ w misuse (λ value f out k. k)))
  arc_begins_keeping (arc_op.Put n value) w =
      fair_keeping (an_arc n w) _ w (arc_fair n w) (λ arc. check_keeping (is_number arc.content.lent w.active) Misuse _ w misuse (λ e out k. set_keeping w n _ tt out k))
  arc_begins_keeping (arc_op.Clone n) w = comes_to_keeping _ n w refl
  arc_begins_keeping (arc_op.Drop n) w = comes_to_keeping _ n w refl
  arc_begins_keeping (arc_op.GetMut n) w = comes_to_keeping _ n w refl
  arc_begins_keeping (arc_op.StrongCount n) w = comes_to_keeping _ n w refl
  arc_begins_keeping (arc_op.TryUnwrap n) w = comes_to_keeping _ n w refl
