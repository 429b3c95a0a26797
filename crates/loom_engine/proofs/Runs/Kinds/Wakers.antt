-- What is done to wakers and to places for wakers keeps locks sound.
use Rattle.std.proofs.Common.{◌≡◌, ℕ, Bool, length, Option, Some, None, refl}
use Rattle.std.specs.Prelude.{◌==◌, ◌+◌, ◌-◌, true, false, is_none, is_some, nat_lt}
use Rattle.loom_views.specs.declared.rt.failure.FailureKind.TheVariants.{Misuse, TooManySteps}
use Rattle.loom_views.specs.Limits.{highest_count}
use Rattle.loom_objects.specs.declared.operation.AtomicWakerOp.{AtomicWakerOp}
use Rattle.loom_objects.specs.declared.operation.AtomicWakerOp.TheVariants as place_op
use Rattle.loom_objects.specs.declared.operation.WakerOp.{WakerOp}
use Rattle.loom_objects.specs.declared.operation.WakerOp.TheVariants as waker_op
use Rattle.loom_objects.specs.declared.rt.object.Object.TheVariants as object
use Rattle.loom_objects.specs.declared.rt.atomic_waker.AtomicWaker.{AtomicWaker}
use Rattle.loom_objects.specs.declared.rt.notify.Spurious.TheVariants.{NotYet}
use Rattle.loom_objects.specs.declared.rt.waker.Wakers.{Wakers}
use Rattle.loom_objects.specs.declared.rt.thread.AfterDrop.{AfterDrop}
use Rattle.loom_objects.specs.declared.rt.thread.AfterDrop.TheVariants as dropped
use Rattle.loom_objects.specs.declared.rt.thread.AfterWake.{AfterWake}
use Rattle.loom_objects.specs.declared.rt.thread.AfterWake.TheVariants as woken
use Rattle.loom_objects.specs.declared.rt.thread.State.TheVariants.{Blocked, Runnable}
use Rattle.loom_objects.specs.declared.rt.thread.Taking.{Taking}
use Rattle.loom_objects.specs.declared.rt.thread.Taking.TheVariants as taking
use Rattle.loom_objects.specs.declared.rt.thread.Task.{Task}
use Rattle.loom_objects.specs.declared.rt.thread.Task.TheVariants as task
use Rattle.loom_objects.specs.Rules.Moves.{an_atomic_waker, a_wakers, releases, with_new, yields}
use Rattle.loom_objects.specs.Rules.Notify.{notify}
use Rattle.loom_objects.specs.Rules.Waker.{acquires_if, after_clone, after_drop, after_wake, clones_waker, drops_waker, frees_place, has_taken, holds_place, atomic_waker_begins, registers, registers_if, some_wakers, take_begins, takes_place, takes_waker, wake_begins, waker_begins, waker_pends, wakes_by, with_wakers}
use Rattle.loom_objects.specs.World.{World}
use Rattle.loom_engine.proofs.Runs.Kinds.Notifiers.{notify_keeping, some_fair, wait_begins_keeping, yields_keeping}
use Rattle.loom_engine.proofs.Runs.States.{Aim, Ready, freed_by, pending_ready, pends_ready}
use Rattle.loom_engine.proofs.Runs.Ruling.{Keeping, chained, check_keeping, fair_keeping, misuse, new_keeping, place_fair, set_keeping, then_keeping, wakers_fair}

module _ {D : Type 0} where
  -- ---- a future's notifier, and its wakers

  waker_pends_keeping : (todo : Task D) (c : ℕ) (w : World D) → freed_by todo ≡ None → Keeping w (waker_pends todo c w)
  waker_pends_keeping todo c w h = fair_keeping (some_wakers c w) _ w (some_fair c w) (λ wakers out k. pends_ready todo false h k)

  wake_begins_keeping : (after : AfterWake) (c : ℕ) (w : World D) → Keeping w (wake_begins after c w)
  wake_begins_keeping after c w = fair_keeping (some_wakers c w) _ w (some_fair c w) (λ wakers out k. pends_ready (task.WakeBy wakers.notifier c after) false refl k)

  pub waker_begins_keeping : (todo : WakerOp) (w : World D) → Keeping w (waker_begins todo w)
  waker_begins_keeping waker_op.New w =
      let notifier = object.Notify (record { notified = false; waiter = None; spurious = NotYet; wakers = Some (length w.objects + 1) }) in
      λ out k. new_keeping (with_new notifier w) (object.Wakers (record { notifier = length w.objects; count = 1 })) tt out (new_keeping w notifier tt out k)
  waker_begins_keeping (waker_op.Wait c) w = fair_keeping (some_wakers c w) _ w (some_fair c w) (λ wakers. wait_begins_keeping wakers.notifier w)
  waker_begins_keeping (waker_op.Finish c) w = waker_pends_keeping (task.DropWaker c dropped.Done) c w refl
  waker_begins_keeping (waker_op.Clone c) w = waker_pends_keeping (task.CloneWaker c None) c w refl
  waker_begins_keeping (waker_op.Wake c) w = wake_begins_keeping (woken.Drop dropped.Done) c w
  waker_begins_keeping (waker_op.WakeByRef c) w = wake_begins_keeping woken.Done c w
  waker_begins_keeping (waker_op.Drop c) w = waker_pends_keeping (task.DropWaker c dropped.Done) c w refl

  -- ---- places for wakers

  take_begins_keeping : (by : Taking) (p : ℕ) (w : World D) → Keeping w (take_begins by p w)
  take_begins_keeping by p w = fair_keeping (an_atomic_waker p w) _ w (place_fair p w) (λ place out k. pends_ready (task.TakeWaker by p) (is_some place.holder) refl k)

  pub place_begins_keeping : (todo : AtomicWakerOp) (w : World D) → Keeping w (atomic_waker_begins todo w)
  place_begins_keeping place_op.New w = λ out k. new_keeping w _ tt out k
  place_begins_keeping (place_op.Register p c) w = fair_keeping (an_atomic_waker p w) _ w (place_fair p w) (λ place. waker_pends_keeping (task.Register p c) c w refl)
  place_begins_keeping (place_op.RegisterByRef p c) w = fair_keeping (an_atomic_waker p w) _ w (place_fair p w) (λ place. waker_pends_keeping (task.CloneWaker c (Some p)) c w refl)
  place_begins_keeping (place_op.Wake p) w = take_begins_keeping taking.Wake p w
  place_begins_keeping (place_op.TakeWaker p) w = take_begins_keeping taking.Answer p w
  place_begins_keeping (place_op.Drop p) w = fair_keeping (an_atomic_waker p w) _ w (place_fair p w) (λ place out k. set_keeping w p _ tt out k)

  -- ---- once the thread is chosen

  holds_ready : (p : ℕ) (place : AtomicWaker) (w : World D) (out : Aim) → Ready out w → Ready out (holds_place p place w)
  holds_ready p place w out k = pending_ready p Blocked (set_keeping w p _ tt out k)

  frees_ready : (p : ℕ) (place : AtomicWaker) (w : World D) (out : Aim) → Ready out w → Ready out (frees_place p place w)
  frees_ready p place w out k = pending_ready p Runnable (set_keeping w p _ tt out k)

  after_wake_keeping : (after : AfterWake) (c : ℕ) (w : World D) → Keeping w (after_wake after c w)
  after_wake_keeping woken.Done c w = λ out k. k
  after_wake_keeping (woken.Drop after) c w = λ out k. pends_ready (task.DropWaker c after) false refl k

  pub wakes_by_keeping : (n c : ℕ) (after : AfterWake) (w : World D) → Keeping w (wakes_by n c after w)
  wakes_by_keeping n c after w =
      fair_keeping (some_wakers c w) _ w (some_fair c w) (λ wakers. then_keeping (notify n w) _ w (notify_keeping n w) (λ notified. after_wake_keeping after c notified.1))

  after_clone_keeping : (place : Option ℕ) (c : ℕ) (w : World D) → Keeping w (after_clone place c w)
  after_clone_keeping None c w = λ out k. k
  after_clone_keeping (Some p) c w = λ out k. pends_ready (task.Register p c) false refl k

  pub clones_waker_keeping : (c : ℕ) (place : Option ℕ) (w : World D) → Keeping w (clones_waker c place w)
  clones_waker_keeping c place w =
      fair_keeping (some_wakers c w) _ w (some_fair c w) (λ wakers. check_keeping (nat_lt wakers.count highest_count) TooManySteps _ w (λ e. cc) (λ e.
      let cloned = with_wakers c (record wakers { count = wakers.count + 1 }) w in chained w cloned _ (λ out k. set_keeping w c _ tt out k) (after_clone_keeping place c cloned)))

  after_drop_keeping : (after : AfterDrop) (w : World D) → Keeping w (after_drop after w)
  after_drop_keeping dropped.Done w = λ out k. k
  after_drop_keeping dropped.Yield w = then_keeping (yields task.Continue w) _ w (yields_keeping task.Continue w refl) (λ yielded out k. k)
  after_drop_keeping (dropped.Free p) w = fair_keeping (an_atomic_waker p w) _ w (place_fair p w) (λ place out k. frees_ready p place w out k)

  acquires_if_ready : (is_last : Bool) (c : ℕ) (w : World D) (out : Aim) → Ready out w → Ready out (acquires_if is_last c w)
  acquires_if_ready true c w out k = k
  acquires_if_ready false c w out k = k

  pub drops_waker_keeping : (c : ℕ) (after : AfterDrop) (w : World D) → Keeping w (drops_waker c after w)
  drops_waker_keeping c after w =
      fair_keeping (some_wakers c w) _ w (some_fair c w) (λ wakers.
      let released = releases c (with_wakers c (record wakers { count = wakers.count - 1 }) w) in
      let dropped = acquires_if (wakers.count == 1) c released in
      chained w dropped _ (λ out k. acquires_if_ready (wakers.count == 1) c released out (set_keeping w c _ tt out k)) (after_drop_keeping after dropped))

  takes_place_keeping : (p c : ℕ) (place : AtomicWaker) (old : Option ℕ) (w : World D) → Keeping w (takes_place p c place old w)
  takes_place_keeping p c place None w = λ out k. frees_ready p (record place { waker = Some c }) (holds_place p place w) out (holds_ready p place w out k)
  takes_place_keeping p c place (Some old) w = λ out k. pends_ready (task.DropWaker old (dropped.Free p)) false refl (holds_ready p (record place { waker = Some c }) w out k)

  registers_if_keeping : (is_free : Bool) (p c : ℕ) (place : AtomicWaker) (wakers : Wakers) (w : World D) → Keeping w (registers_if is_free p c place wakers w)
  registers_if_keeping true p c place wakers w = takes_place_keeping p c place place.waker w
  registers_if_keeping false p c place wakers w = λ out k. pends_ready (task.WakeBy wakers.notifier c (woken.Drop dropped.Yield)) false refl k

  pub registers_keeping : (p c : ℕ) (w : World D) → Keeping w (registers p c w)
  registers_keeping p c w =
      fair_keeping (an_atomic_waker p w) _ w (place_fair p w) (λ place. fair_keeping (some_wakers c w) _ w (some_fair c w) (λ wakers. registers_if_keeping (is_none place.holder) p c place wakers w))

  has_taken_keeping : (by : Taking) (waker : Option ℕ) (w : World D) → Keeping w (has_taken by waker w)
  has_taken_keeping taking.Answer waker w = λ out k. k
  has_taken_keeping taking.Wake None w = λ out k. k
  has_taken_keeping taking.Wake (Some c) w =
      fair_keeping (a_wakers c w) _ w (wakers_fair c w) (λ wakers out k. pends_ready (task.WakeBy wakers.notifier c (woken.Drop dropped.Done)) false refl k)

  pub takes_waker_keeping : (by : Taking) (p : ℕ) (w : World D) → Keeping w (takes_waker by p w)
  takes_waker_keeping by p w =
      fair_keeping (an_atomic_waker p w) _ w (place_fair p w) (λ place. check_keeping (is_none place.holder) Misuse _ w misuse (λ e.
      let held = holds_place p place w in
      let free = frees_place p (record place { waker = None }) held in
      chained w free _ (λ out k. frees_ready p (record place { waker = None }) held out (holds_ready p place w out k)) (has_taken_keeping by place.waker free)))
