-- What notifiers do.
use Rattle.std.specs.Prelude.{ℕ, ◌==◌, ◌&&◌, Bool, true, false, not, length, Option, Some, None, ⊤, Result, Ok}
use Rattle.loom_views.specs.declared.rt.failure.FailureKind.{FailureKind}
use Rattle.loom_views.specs.declared.rt.failure.FailureKind.TheVariants.{Misuse, SecondWaiter}
use Rattle.loom_objects.specs.declared.operation.NotifyOp.{NotifyOp}
use Rattle.loom_objects.specs.declared.operation.NotifyOp.TheVariants as notify_op
use Rattle.loom_objects.specs.declared.operation.Reply.{Reply}
use Rattle.loom_objects.specs.declared.operation.Reply.TheVariants as reply
use Rattle.loom_objects.specs.declared.rt.object.Object.TheVariants as object
use Rattle.loom_objects.specs.declared.rt.notify.Notify.{Notify}
use Rattle.loom_objects.specs.declared.rt.notify.Spurious.{Spurious}
use Rattle.loom_objects.specs.declared.rt.notify.Spurious.TheVariants.{Never, NotYet, Waking, Over}
use Rattle.loom_objects.specs.declared.rt.run.Entry.{Entry}
use Rattle.loom_objects.specs.declared.rt.run.Entry.TheVariants as entry
use Rattle.loom_objects.specs.declared.rt.thread.Task.TheVariants as task
use Rattle.loom_objects.specs.Rules.Rule.{◌>>=◌, check}
use Rattle.loom_objects.specs.World.{World}
use Rattle.loom_objects.specs.Rules.Moves.{a_notify, some_wakers, acquires, releases, joins_view, with_object, with_new, wakes_pending, pends, yields}

-- the thread is another one
abbrev pub is_other : ℕ → Option ℕ → Bool
is_other t None = false
is_other t (Some u) = not (u == t)

-- who has woken without a notification, and wasn't told yet
abbrev pub rousing : Spurious → Option ℕ
rousing (Waking t) = Some t
rousing _ = None

-- no other thread is inside a wait on it
abbrev pub is_alone : ℕ → Notify → Bool
is_alone t notifier = not (is_other t notifier.waiter) && not (is_other t (rousing notifier.spurious))

-- bodies wait on it; a `join` doesn't
abbrev pub is_for_waits : Spurious → Bool
is_for_waits Never = false
is_for_waits _ = true

-- a thread may wake from it without a notification: once in a run
abbrev pub may_be_spurious : Spurious → Bool
may_be_spurious NotYet = true
may_be_spurious _ = false

module _ {D : Type 0} where
  abbrev pub with_notify : ℕ → Notify → World D → World D
  with_notify n notifier w = with_object n (object.Notify notifier) w

  -- the active thread releases and notifies; who waits takes in its view, and is woken
  abbrev pub notify : ℕ → World D → Result (⊤ × World D) FailureKind
  notify n w = do
    notifier ← a_notify n w
    Ok (tt, wakes_pending n (joins_view notifier.waiter (releases n (with_notify n (record notifier { notified = true }) w))))

  -- a notifier on which bodies wait
  abbrev pub notify_new : World D → Result (Entry D × World D) FailureKind
  notify_new w = Ok (entry.Answered (reply.Notify (length w.objects)), with_new (object.Notify (record { notified = false; waiter = None; spurious = NotYet; wakers = None })) w)

  abbrev pub notify_one_begins : ℕ → World D → Result (Entry D × World D) FailureKind
  notify_one_begins n w = do
    notifier ← a_notify n w
    _ ← check (is_for_waits notifier.spurious) Misuse
    Ok (entry.AtBranch, pends (task.Notify n) false w)

  -- the thread waits, and is blocked unless the notifier is notified at this moment
  abbrev pub waits_on : ℕ → Notify → World D → World D
  waits_on n notifier w = pends (task.Await n) (not notifier.notified) (with_notify n (record notifier { waiter = Some w.active }) w)

  abbrev pub comes_to_wait : Bool → ℕ → Notify → World D → Result (Entry D × World D) FailureKind
  comes_to_wait true n notifier w = Ok (entry.Spurious n, w)
  comes_to_wait false n notifier w = Ok (entry.AtBranch, waits_on n notifier w)

  -- one thread waits at a time; where it may wake without a notification, whether it does is asked first
  abbrev pub wait_begins : ℕ → World D → Result (Entry D × World D) FailureKind
  wait_begins n w = do
    notifier ← a_notify n w
    _ ← check (is_for_waits notifier.spurious) Misuse
    _ ← check (is_alone w.active notifier) SecondWaiter
    comes_to_wait (may_be_spurious notifier.spurious) n notifier w

  abbrev pub notify_begins : NotifyOp → World D → Result (Entry D × World D) FailureKind
  notify_begins notify_op.New w = notify_new w
  notify_begins (notify_op.Notify n) w = notify_one_begins n w
  notify_begins (notify_op.Wait n) w = wait_begins n w

  -- ---- once it is known whether the thread wakes without a notification: then it yields, and else it waits

  abbrev pub waits_or_rouses : Bool → ℕ → Notify → World D → Result (⊤ × World D) FailureKind
  waits_or_rouses true n notifier w = yields (task.Rouse n) (with_notify n (record notifier { spurious = Waking w.active }) w)
  waits_or_rouses false n notifier w = Ok (tt, waits_on n notifier w)

  abbrev pub enters_wait : Bool → ℕ → World D → Result (⊤ × World D) FailureKind
  enters_wait is_spurious n w = do
    notifier ← a_notify n w
    waits_or_rouses is_spurious n notifier w

  -- ---- once the thread is chosen

  abbrev pub notifies : ℕ → World D → Result (Reply D × World D) FailureKind
  notifies n w = do
    after ← notify n w
    Ok (reply.Done, after.1)

  -- a future has a waker left
  abbrev pub has_waker : Option ℕ → World D → Result ⊤ FailureKind
  has_waker None w = Ok tt
  has_waker (Some c) w = do
    _ ← some_wakers c w
    Ok tt

  -- The thread acquires, and the notifier isn't notified any more. A future's notifier is there while a waker of it is left.
  abbrev pub awaits : ℕ → World D → Result (Reply D × World D) FailureKind
  awaits n w = do
    notifier ← a_notify n w
    _ ← has_waker notifier.wakers w
    _ ← check notifier.notified Misuse
    Ok (reply.Done, acquires n (with_notify n (record notifier { notified = false; waiter = None }) w))

  abbrev pub wakes_early : ℕ → World D → Result (Reply D × World D) FailureKind
  wakes_early n w = do
    notifier ← a_notify n w
    _ ← has_waker notifier.wakers w
    Ok (reply.Done, with_notify n (record notifier { spurious = Over }) w)

-- memory may be refused where a notifier is made
abbrev pub needs_memory : NotifyOp → Bool
needs_memory notify_op.New = true
needs_memory _ = false
