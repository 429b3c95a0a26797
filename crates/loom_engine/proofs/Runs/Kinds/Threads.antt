-- What threads do keeps locks sound.
use Rattle.std.proofs.Common.{◌≡◌, ℕ, Bool, length, Option, Some, None, refl, subst, sym}
use Rattle.std.specs.Prelude.{true, false, not, slice_get, nat_lt, is_none, ⊤}
use Rattle.loom_views.specs.declared.rt.failure.FailureKind.TheVariants.{Misuse, TooManyThreads}
use Rattle.loom_views.specs.Views.{points_after_spawn}
use Rattle.loom_objects.specs.declared.operation.ThreadOp.{ThreadOp}
use Rattle.loom_objects.specs.declared.operation.ThreadOp.TheVariants as thread_op
use Rattle.loom_objects.specs.declared.operation.Name.{Name}
use Rattle.loom_objects.specs.declared.rt.thread.Phase.TheVariants.{Finished, Exited, Over}
use Rattle.loom_objects.specs.declared.rt.thread.Task.TheVariants as task
use Rattle.loom_objects.specs.Rules.Moves.{a_notify, at_phase, changes_active, takes_result, unparks, yields, having, with_token, in_state, unparked, unparked_from}
use Rattle.loom_objects.specs.Rules.Notify.{notify}
use Rattle.loom_objects.specs.Rules.Thread.{child_finish, end, exit, finish, finish_as, has_own, is_exited, is_finished, join, join_begins, parks_unless, spawn, thread_begins, unpark, without_locals}
use Rattle.loom_objects.specs.Rules.Locals.{is_working}
use Rattle.loom_objects.specs.World.{World}
use Rattle.loom_engine.proofs.Runs.Fairness.{spawn_fair}
use Rattle.loom_engine.proofs.Runs.Kinds.Notifiers.{notify_keeping, yields_keeping}
use Rattle.loom_objects.specs.declared.rt.thread.State.{State}
use Rattle.loom_objects.specs.declared.rt.thread.Thread.{Thread}
use Rattle.loom_objects.specs.declared.rt.thread.State.TheVariants.{Parked, Ended, Runnable, Blocked, Sleeping, Yielding}
use Rattle.loom_engine.proofs.Runs.States.{changed_ready, freed_at, freed_by, more_anew, more_ready, pends_ready, ready_by_threads, rests_ready, set_anew}
use Rattle.loom_engine.proofs.Runs.Ruling.{Keeping, chained, check_keeping, fair_keeping, found_keeping, misuse, notifier_fair, set_keeping, then_keeping}

module _ {D : Type 0} where
  spawn_keeping : (name : Option Name) (w : World D) → Keeping w (spawn name w)
  spawn_keeping name w =
      check_keeping (nat_lt (length w.threads) w.max_threads) TooManyThreads _ w (λ e. cc)
      (λ e. fair_keeping (points_after_spawn w.points w.active) _ w (spawn_fair w.points w.active) (λ points out k. more_ready _ tt (ready_by_threads _ (more_anew w.threads _ refl) k)))

  join_begins_keeping : (t n : ℕ) (w : World D) → Keeping w (join_begins t n w)
  join_begins_keeping t n w =
      check_keeping (has_own (slice_get w.threads t) n) Misuse _ w misuse (λ e. fair_keeping (a_notify n w) _ w (notifier_fair n w)
      (λ notifier. check_keeping (is_none notifier.waiter) Misuse _ w misuse (λ f out k. pends_ready (task.Join t n) (not notifier.notified) refl (set_keeping w n _ tt out k))))

  pub takes_result_keeping : (t : ℕ) (w : World D) → Keeping w (takes_result t w)
  takes_result_keeping t w = found_keeping (slice_get w.threads t) Misuse _ w misuse (λ thread e. found_keeping thread.result Misuse _ w misuse (λ value f out k. ready_by_threads _ (set_anew w.threads t _ (λ m i. subst (λ o. freed_at o ≡ Some m) (sym e) i)) k))

  pub join_keeping : (t n : ℕ) (w : World D) → Keeping w (join t n w)
  join_keeping t n w =
      fair_keeping (a_notify n w) _ w (notifier_fair n w) (λ notifier. check_keeping notifier.notified Misuse _ w misuse
      (λ e. then_keeping (takes_result t w) _ w (takes_result_keeping t w) (λ taken out k. set_keeping taken.1 n _ tt out k)))

  finish_as_keeping : (notifier : Option ℕ) (value : D) (w : World D) → Keeping w (finish_as notifier value w)
  finish_as_keeping None value w = λ out k. changed_ready (having value) w.active (λ t m i. i) k
  finish_as_keeping (Some n) value w = λ out k. pends_ready (task.Finish n value) false refl k

  finish_keeping : (value : D) (w : World D) → Keeping w (finish value w)
  finish_keeping value w =
      found_keeping (slice_get w.threads w.active) Misuse _ w misuse (λ thread e. check_keeping (is_working thread.phase) Misuse _ w misuse (λ f.
      let finished = changes_active (at_phase Finished) w in chained w finished _ (λ out k. changed_ready (at_phase Finished) w.active (λ t m i. i) k) (finish_as_keeping thread.notifier value finished)))

  pub child_finish_keeping : (n : ℕ) (value : D) (w : World D) → Keeping w (child_finish n value w)
  child_finish_keeping n value w = then_keeping (notify n w) _ w (notify_keeping n w) (λ after out k. changed_ready (having value) after.1.active (λ t m i. i) k)

  exit_keeping : (w : World D) → Keeping w (exit w)
  exit_keeping w = found_keeping (slice_get w.threads w.active) Misuse _ w misuse (λ thread e. check_keeping (is_finished thread.phase) Misuse _ w misuse (λ f out k.
      changed_ready without_locals w.active (λ t m i. i) (changed_ready (at_phase Exited) w.active (λ t m i. i) k)))

  end_keeping : (w : World D) → Keeping w (end w)
  end_keeping w = found_keeping (slice_get w.threads w.active) Misuse _ w misuse (λ thread e. check_keeping (is_exited thread.phase) Misuse _ w misuse (λ f out k.
      changed_ready (in_state Ended) w.active (λ t m i. i) (changed_ready (at_phase Over) w.active (λ t m i. i) k)))

  parks_unless_keeping : (has_token : Bool) (w : World D) → Keeping w (parks_unless has_token w)
  parks_unless_keeping true w = λ out k. changed_ready (with_token false) w.active (λ t m i. i) k
  parks_unless_keeping false w = λ out k. rests_ready Parked task.Continue refl k

  unparked_off : (state : State) (thread : Thread D) (m : ℕ) → freed_by (unparked_from state thread).task ≡ Some m → freed_by thread.task ≡ Some m
  unparked_off Parked thread m e = e
  unparked_off Ended thread m e = e
  unparked_off Runnable thread m e = e
  unparked_off Blocked thread m e = e
  unparked_off Sleeping thread m e = e
  unparked_off Yielding thread m e = e

  unpark_keeping : (t : ℕ) (w : World D) → Keeping w (unpark t w)
  unpark_keeping t w = then_keeping (unparks t w) _ w (found_keeping (slice_get w.threads t) Misuse _ w misuse (λ thread e out k. changed_ready unparked t (λ u m i. unparked_off u.state u m i) k)) (λ given out k. k)

  pub thread_begins_keeping : (todo : ThreadOp D ⊤) (w : World D) → Keeping w (thread_begins todo w)
  thread_begins_keeping (thread_op.Spawn body name) w = spawn_keeping name w
  thread_begins_keeping (thread_op.Join t n) w = join_begins_keeping t n w
  thread_begins_keeping thread_op.Current w = found_keeping (slice_get w.threads w.active) Misuse _ w misuse (λ thread e out k. k)
  thread_begins_keeping thread_op.Park w = found_keeping (slice_get w.threads w.active) Misuse _ w misuse (λ thread e. parks_unless_keeping thread.has_token w)
  thread_begins_keeping (thread_op.Unpark t) w = unpark_keeping t w
  thread_begins_keeping thread_op.Yield w = then_keeping (yields task.Continue w) _ w (yields_keeping task.Continue w refl) (λ yielded out k. k)
  thread_begins_keeping (thread_op.Finish value) w = finish_keeping value w
  thread_begins_keeping thread_op.Exit w = exit_keeping w
  thread_begins_keeping thread_op.End w = end_keeping w
