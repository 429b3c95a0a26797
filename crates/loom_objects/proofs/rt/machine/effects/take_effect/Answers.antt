use Rattle.std.proofs.Common.{refl}
use Rattle.loom_objects.specs.Rules.Mpsc.{drains, receives, sends}
use Rattle.loom_objects.specs.Rules.Condvar.{falls_asleep, wakes}
use Rattle.loom_objects.specs.Rules.Arc.{counts, tries_unwrap}
use Rattle.loom_objects.specs.Rules.Mutex.{lock, try_lock}
use Rattle.loom_objects.specs.Rules.Notify.{notifies, awaits, wakes_early}
use Rattle.loom_objects.specs.Rules.RwLock.{claims}
use Rattle.loom_objects.specs.Rules.Thread.{join, child_finish}
use Rattle.loom_objects.specs.Rules.Waker.{clones_waker, drops_waker, registers, takes_waker, wakes_by}
use Rattle.loom_objects.proofs.Machine.Replying.{on_err, passes, tells, tells_copy, told_kept, told_slot}
use Rattle.loom_objects.proofs.rt.machine.effects.take_effect.Goals as goal
use Rattle.loom_objects.proofs.rt.machine.effects.take_effect.Goals.{in-Body, in-Continue, in-Claim+in_ok-answer-in-Claim, in-Lock, in-TryLock, in-Wake, in-Notify, in-Await, in-Rouse, in-Count, in-Join, in-Finish, in-Send, in-Receive}

pub returns-in-Wait-clause-does : goal.returns-in-Wait-clause-does
returns-in-Wait-clause-does g c = rw (c.in-Wait.is, c.passed-in-Wait.ensures) (passes (falls_asleep c.in-Wait.locking c.in-Wait.condvar c.in-Wait.mutex c.in-Wait.value) c.args.scene.now c.fall_asleep.new.scene c.fall_asleep.result c.fall_asleep.ensures)

pub returns-in-TryUnwrap-clause-does : goal.returns-in-TryUnwrap-clause-does
returns-in-TryUnwrap-clause-does g c = rw (c.in-TryUnwrap.is, c.passed-in-TryUnwrap.ensures) (passes (tries_unwrap c.in-TryUnwrap.arc) c.args.scene.now c.try_unwrap.new.scene c.try_unwrap.result c.try_unwrap.ensures)

pub returns-in-Drain-clause-does : goal.returns-in-Drain-clause-does
returns-in-Drain-clause-does g c = rw (c.in-Drain.is, c.passed-in-Drain.ensures) (passes (drains c.in-Drain.channel c.in-Drain.taken) c.args.scene.now c.drain.new.scene c.drain.result c.drain.ensures)

pub returns-in-WakeBy-clause-does : goal.returns-in-WakeBy-clause-does
returns-in-WakeBy-clause-does g c = rw (c.in-WakeBy.is, c.passed-in-WakeBy.ensures) (passes (wakes_by c.in-WakeBy.notifier c.in-WakeBy.waker c.in-WakeBy.after) c.args.scene.now c.wake_by.new.scene c.wake_by.result c.wake_by.ensures)

pub returns-in-CloneWaker-clause-does : goal.returns-in-CloneWaker-clause-does
returns-in-CloneWaker-clause-does g c = rw (c.in-CloneWaker.is, c.passed-in-CloneWaker.ensures) (passes (clones_waker c.in-CloneWaker.waker c.in-CloneWaker.place) c.args.scene.now c.clone_waker.new.scene c.clone_waker.result c.clone_waker.ensures)

pub returns-in-DropWaker-clause-does : goal.returns-in-DropWaker-clause-does
returns-in-DropWaker-clause-does g c = rw (c.in-DropWaker.is, c.passed-in-DropWaker.ensures) (passes (drops_waker c.in-DropWaker.waker c.in-DropWaker.after) c.args.scene.now c.drop_waker.new.scene c.drop_waker.result c.drop_waker.ensures)

pub returns-in-Register-clause-does : goal.returns-in-Register-clause-does
returns-in-Register-clause-does g c = rw (c.in-Register.is, c.passed-in-Register.ensures) (passes (registers c.in-Register.place c.in-Register.waker) c.args.scene.now c.register.new.scene c.register.result c.register.ensures)

pub returns-in-TakeWaker-clause-does : goal.returns-in-TakeWaker-clause-does
returns-in-TakeWaker-clause-does g c = rw (c.in-TakeWaker.is, c.passed-in-TakeWaker.ensures) (passes (takes_waker c.in-TakeWaker.taking c.in-TakeWaker.place) c.args.scene.now c.take_waker.new.scene c.take_waker.result c.take_waker.ensures)

pub returns-in_err-answer-in-Claim-clause-growth : goal.returns-in_err-answer-in-Claim-clause-growth
returns-in_err-answer-in-Claim-clause-growth g c =
    rw c.in-Claim.is (on_err c.from_residual.result (tells_copy c.in-Claim.lock (claims c.in-Claim.claim c.in-Claim.lock) c.args.scene.now c.in_err-answer-in-Claim.ensures.growth))

pub returns-clause-does : goal.returns-clause-does
returns-clause-does g c =
    rw c.replied.ensures (elim c.match-task.branch [
      | in-Body w ↦ rw (w.in-Body.is, w.answer-is) (λ p left shown. refl)
      | in-Continue w ↦ rw (w.in-Continue.is, w.answer-is, w.scene-is) (λ p left shown. (refl, shown))
      | in-Claim+in_ok-answer-in-Claim w ↦ rw (w.in-Claim.is, w.answer-is, w.scene-is) (tells (claims w.in-Claim.claim w.in-Claim.lock) c.args.scene.now w.claim.new.scene _ w.in_ok-answer-in-Claim.ensures.does)
      | in-Lock w ↦ rw (w.in-Lock.is, w.answer-is, w.scene-is) (tells (lock w.in-Lock.locking w.in-Lock.mutex) c.args.scene.now w.lock-answer.new.scene w.lock-answer.result w.lock-answer.ensures)
      | in-TryLock w ↦ rw (w.in-TryLock.is, w.answer-is, w.scene-is) (tells (try_lock w.in-TryLock.mutex) c.args.scene.now w.try_lock-answer.new.scene w.try_lock-answer.result w.try_lock-answer.ensures)
      | in-Wake w ↦ rw (w.in-Wake.is, w.answer-is, w.scene-is) (tells (wakes w.in-Wake.waking w.in-Wake.condvar) c.args.scene.now w.wake-answer.new.scene w.wake-answer.result w.wake-answer.ensures)
      | in-Notify w ↦ rw (w.in-Notify.is, w.answer-is, w.scene-is) (tells (notifies w.in-Notify.notifier) c.args.scene.now w.notify_one-answer.new.scene w.notify_one-answer.result w.notify_one-answer.ensures)
      | in-Await w ↦ rw (w.in-Await.is, w.answer-is, w.scene-is) (tells (awaits w.in-Await.notifier) c.args.scene.now w.await_notified-answer.new.scene w.await_notified-answer.result w.await_notified-answer.ensures)
      | in-Rouse w ↦ rw (w.in-Rouse.is, w.answer-is, w.scene-is) (tells (wakes_early w.in-Rouse.notifier) c.args.scene.now w.wake_early-answer.new.scene w.wake_early-answer.result w.wake_early-answer.ensures)
      | in-Count w ↦ rw (w.in-Count.is, w.answer-is, w.scene-is) (tells (counts w.in-Count.counting w.in-Count.arc) c.args.scene.now w.count-answer.new.scene w.count-answer.result w.count-answer.ensures)
      | in-Join w ↦ rw (w.in-Join.is, w.answer-is, w.scene-is) (tells (join w.in-Join.thread w.in-Join.notifier) c.args.scene.now w.join-answer.new.scene w.join-answer.result w.join-answer.ensures)
      | in-Finish w ↦ rw (w.in-Finish.is, w.answer-is, w.scene-is) (tells (child_finish w.in-Finish.notifier w.in-Finish.value) c.args.scene.now w.child_finish-answer.new.scene w.child_finish-answer.result w.child_finish-answer.ensures)
      | in-Send w ↦ rw (w.in-Send.is, w.answer-is, w.scene-is) (tells (sends w.in-Send.channel w.in-Send.sent) c.args.scene.now w.send-answer.new.scene w.send-answer.result w.send-answer.ensures)
      | in-Receive w ↦ rw (w.in-Receive.is, w.answer-is, w.scene-is) (tells (receives w.in-Receive.receiving w.in-Receive.channel) c.args.scene.now w.receive-answer.new.scene w.receive-answer.result w.receive-answer.ensures)
    ])

pub returns-clause-slot : goal.returns-clause-slot
returns-clause-slot g c = rw c.replied.ensures (told_slot _ _)

pub returns-clause-kept : goal.returns-clause-kept
returns-clause-kept g c = λ p shown. rw c.replied.ensures (told_kept p _ _)
