-- What is done to notifiers, and a yield, keeps locks sound.
use Rattle.std.proofs.Common.{◌≡◌, ℕ, Bool, None, Some, refl}
use Rattle.std.specs.Prelude.{◌-◌, ◌^◌, true, false, not, slice_get, slice_index, nat_lt, Option}
use Rattle.loom_views.specs.declared.rt.failure.FailureKind.TheVariants.{Misuse, SecondWaiter, TooManySteps}
use Rattle.loom_objects.specs.declared.operation.NotifyOp.{NotifyOp}
use Rattle.loom_objects.specs.declared.operation.NotifyOp.TheVariants as notify_op
use Rattle.loom_objects.specs.declared.rt.notify.Notify.{Notify}
use Rattle.loom_objects.specs.declared.rt.notify.Spurious.TheVariants.{Waking as AboutToWake}
use Rattle.loom_objects.specs.declared.rt.thread.Task.{Task}
use Rattle.loom_objects.specs.declared.rt.thread.Task.TheVariants as task
use Rattle.loom_objects.specs.Rules.Moves.{a_notify, a_wakers, some_wakers, yields, yielded}
use Rattle.loom_objects.specs.Rules.Notify as notifiers
use Rattle.loom_objects.specs.Rules.Notify.{awaits, comes_to_wait, enters_wait, has_waker, is_alone, is_for_waits, may_be_spurious, notify_begins, notifies, notify, notify_one_begins, waits_or_rouses, wakes_early, with_notify}
use Rattle.loom_objects.specs.World.{World}
use Rattle.loom_objects.specs.declared.rt.thread.State.TheVariants.{Runnable}
use Rattle.loom_engine.proofs.Runs.States.{changed_ready, freed_by, pending_ready, pends_ready}
use Rattle.loom_engine.proofs.Runs.Events.{Anything}
use Rattle.loom_engine.proofs.Runs.Fairness.{IsFairResult}
use Rattle.loom_engine.proofs.Runs.Ruling.{Keeping, answer_fairly, chained, check_fairly, check_keeping, fair_keeping, fair_of, found_keeping, misuse, new_keeping, notifier_fair, set_keeping, then_keeping, wakers_fair}

module _ {D : Type 0} where
  pub notify_keeping : (n : ℕ) (w : World D) → Keeping w (notify n w)
  notify_keeping n w = fair_keeping (a_notify n w) _ w (notifier_fair n w) (λ notifier out k. pending_ready n Runnable (set_keeping w n _ tt out k))

  comes_to_wait_keeping : (may_be : Bool) (n : ℕ) (notifier : Notify) (w : World D) → Keeping w (comes_to_wait may_be n notifier w)
  comes_to_wait_keeping true n notifier w = λ out k. k
  comes_to_wait_keeping false n notifier w = λ out k. pends_ready (task.Await n) (not notifier.notified) refl (set_keeping w n _ tt out k)

  pub wait_begins_keeping : (n : ℕ) (w : World D) → Keeping w (notifiers.wait_begins n w)
  wait_begins_keeping n w =
      fair_keeping (a_notify n w) _ w (notifier_fair n w) (λ notifier. check_keeping (is_for_waits notifier.spurious) Misuse _ w misuse
      (λ e. check_keeping (is_alone w.active notifier) SecondWaiter _ w (λ f. cc) (λ f. comes_to_wait_keeping (may_be_spurious notifier.spurious) n notifier w)))

  notify_one_begins_keeping : (n : ℕ) (w : World D) → Keeping w (notify_one_begins n w)
  notify_one_begins_keeping n w =
      fair_keeping (a_notify n w) _ w (notifier_fair n w) (λ notifier. check_keeping (is_for_waits notifier.spurious) Misuse _ w misuse (λ e out k. pends_ready (task.Notify n) false refl k))

  pub notifier_begins_keeping : (todo : NotifyOp) (w : World D) → Keeping w (notify_begins todo w)
  notifier_begins_keeping notify_op.New w = λ out k. new_keeping w _ tt out k
  notifier_begins_keeping (notify_op.Notify n) w = notify_one_begins_keeping n w
  notifier_begins_keeping (notify_op.Wait n) w = wait_begins_keeping n w

  pub yields_keeping : (todo : Task D) (w : World D) → freed_by todo ≡ None → Keeping w (yields todo w)
  yields_keeping todo w h =
      found_keeping (slice_get w.threads w.active) Misuse _ w misuse (λ thread e. check_keeping (nat_lt (slice_index w.yields w.active) (2 ^ 64 - 1)) TooManySteps _ w (λ f. cc) (λ f out k. changed_ready (yielded todo) w.active (λ t m i. absurd (cc (h, i))) k))

  waits_or_rouses_keeping : (is_spurious : Bool) (n : ℕ) (notifier : Notify) (w : World D) → Keeping w (waits_or_rouses is_spurious n notifier w)
  waits_or_rouses_keeping true n notifier w =
      let waking = with_notify n (record notifier { spurious = AboutToWake w.active }) w in
      chained w waking _ (λ out k. set_keeping w n _ tt out k) (yields_keeping (task.Rouse n) waking refl)
  waits_or_rouses_keeping false n notifier w = λ out k. pends_ready (task.Await n) (not notifier.notified) refl (set_keeping w n _ tt out k)

  pub enters_wait_keeping : (is_spurious : Bool) (n : ℕ) (w : World D) → Keeping w (enters_wait is_spurious n w)
  enters_wait_keeping is_spurious n w = fair_keeping (a_notify n w) _ w (notifier_fair n w) (λ notifier. waits_or_rouses_keeping is_spurious n notifier w)

  pub notifies_keeping : (n : ℕ) (w : World D) → Keeping w (notifies n w)
  notifies_keeping n w = then_keeping (notify n w) _ w (notify_keeping n w) (λ after out k. k)

  pub some_fair : (c : ℕ) (w : World D) → IsFairResult (some_wakers c w)
  some_fair c w = fair_of Anything _ (answer_fairly Anything (a_wakers c w) _ (wakers_fair c w) (λ wakers. check_fairly Anything (nat_lt 0 wakers.count) Misuse _ misuse (λ e. tt)))

  has_waker_fair : (wakers : Option ℕ) (w : World D) → IsFairResult (has_waker wakers w)
  has_waker_fair None w = tt
  has_waker_fair (Some c) w = fair_of Anything _ (answer_fairly Anything (some_wakers c w) _ (some_fair c w) (λ wakers. tt))

  pub awaits_keeping : (n : ℕ) (w : World D) → Keeping w (awaits n w)
  awaits_keeping n w =
      fair_keeping (a_notify n w) _ w (notifier_fair n w) (λ notifier. fair_keeping (has_waker notifier.wakers w) _ w (has_waker_fair notifier.wakers w)
      (λ u. check_keeping notifier.notified Misuse _ w misuse (λ e out k. set_keeping w n _ tt out k)))

  pub wakes_early_keeping : (n : ℕ) (w : World D) → Keeping w (wakes_early n w)
  wakes_early_keeping n w =
      fair_keeping (a_notify n w) _ w (notifier_fair n w) (λ notifier. fair_keeping (has_waker notifier.wakers w) _ w (has_waker_fair notifier.wakers w) (λ u out k. set_keeping w n _ tt out k))
