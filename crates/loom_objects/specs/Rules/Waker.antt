-- What wakers of futures and places for wakers do.
use Rattle.std.specs.Prelude.{ℕ, ◌+◌, ◌-◌, ◌==◌, Bool, true, false, nat_lt, length, is_none, is_some, Option, Some, None, Result, Ok}
use Rattle.loom_views.specs.declared.rt.failure.FailureKind.{FailureKind}
use Rattle.loom_views.specs.declared.rt.failure.FailureKind.TheVariants.{Misuse, TooManySteps}
use Rattle.loom_views.specs.Limits.{highest_count}
use Rattle.loom_objects.specs.declared.operation.AtomicWakerOp.{AtomicWakerOp}
use Rattle.loom_objects.specs.declared.operation.AtomicWakerOp.TheVariants as place_op
use Rattle.loom_objects.specs.declared.operation.WakerOp.{WakerOp}
use Rattle.loom_objects.specs.declared.operation.WakerOp.TheVariants as waker_op
use Rattle.loom_objects.specs.declared.operation.Reply.{Reply}
use Rattle.loom_objects.specs.declared.operation.Reply.TheVariants as reply
use Rattle.loom_objects.specs.declared.operation.Turn.TheVariants as turn
use Rattle.loom_objects.specs.declared.rt.object.Object.TheVariants as object
use Rattle.loom_objects.specs.declared.rt.run.Entry.{Entry}
use Rattle.loom_objects.specs.declared.rt.run.Entry.TheVariants.{Answered, AtBranch}
use Rattle.loom_objects.specs.declared.rt.run.Passed.{Passed}
use Rattle.loom_objects.specs.declared.rt.run.Passed.TheVariants as passed
use Rattle.loom_objects.specs.declared.rt.atomic_waker.AtomicWaker.{AtomicWaker}
use Rattle.loom_objects.specs.declared.rt.notify.Spurious.TheVariants.{NotYet}
use Rattle.loom_objects.specs.declared.rt.waker.Wakers.{Wakers}
use Rattle.loom_objects.specs.declared.rt.thread.AfterDrop.{AfterDrop}
use Rattle.loom_objects.specs.declared.rt.thread.AfterDrop.TheVariants as dropped
use Rattle.loom_objects.specs.declared.rt.thread.AfterWake.{AfterWake}
use Rattle.loom_objects.specs.declared.rt.thread.AfterWake.TheVariants as woken
use Rattle.loom_objects.specs.declared.rt.thread.Taking.{Taking}
use Rattle.loom_objects.specs.declared.rt.thread.Taking.TheVariants as taking
use Rattle.loom_objects.specs.declared.rt.thread.Task.{Task}
use Rattle.loom_objects.specs.declared.rt.thread.Task.TheVariants as task
use Rattle.loom_objects.specs.Rules.Notify.{notify, wait_begins}
use Rattle.loom_objects.specs.Rules.Rule.{◌>>=◌, check}
use Rattle.loom_objects.specs.World.{World}
pub use Rattle.loom_objects.specs.Rules.Moves.{some_wakers}
use Rattle.loom_objects.specs.Rules.Moves.{an_atomic_waker, a_wakers, acquires, blocks_pending, pends, releases, wakes_pending, with_new, with_object, yields}

module _ {D : Type 0} where
  abbrev pub with_wakers : ℕ → Wakers → World D → World D
  with_wakers c wakers w = with_object c (object.Wakers wakers) w

  abbrev pub with_atomic_waker : ℕ → AtomicWaker → World D → World D
  with_atomic_waker p place w = with_object p (object.AtomicWaker place) w

  -- the operation has passed with this reply
  abbrev pub answered : Reply D → World D → Result (Passed D × World D) FailureKind
  answered reply w = Ok (passed.Turn (turn.Reply w.active reply), w)

  -- the thread reaches another branch point, where this is pending
  abbrev pub pends_next : Task D → Bool → World D → Result (Passed D × World D) FailureKind
  pends_next todo is_blocked w = Ok (passed.AtBranch, pends todo is_blocked w)

  -- ---- a future's notifier, and its wakers

  -- a notifier, and after it the count of its wakers
  abbrev pub block_on_new : World D → Result (Entry D × World D) FailureKind
  block_on_new w = Ok (
    Answered (reply.BlockOn (length w.objects + 1)),
    with_new (object.Wakers (record { notifier = length w.objects; count = 1 })) (with_new (object.Notify (record { notified = false; waiter = None; spurious = NotYet; wakers = Some (length w.objects + 1) })) w),
  )

  abbrev pub block_on_wait : ℕ → World D → Result (Entry D × World D) FailureKind
  block_on_wait c w = do
    wakers ← some_wakers c w
    wait_begins wakers.notifier w

  -- at any other operation the thread reaches a branch point, where this is pending
  abbrev pub waker_pends : Task D → ℕ → World D → Result (Entry D × World D) FailureKind
  waker_pends todo c w = do
    _ ← some_wakers c w
    Ok (AtBranch, pends todo false w)

  abbrev pub wake_begins : AfterWake → ℕ → World D → Result (Entry D × World D) FailureKind
  wake_begins after c w = do
    wakers ← some_wakers c w
    Ok (AtBranch, pends (task.WakeBy wakers.notifier c after) false w)

  abbrev pub waker_begins : WakerOp → World D → Result (Entry D × World D) FailureKind
  waker_begins waker_op.New w = block_on_new w
  waker_begins (waker_op.Wait c) w = block_on_wait c w
  waker_begins (waker_op.Finish c) w = waker_pends (task.DropWaker c dropped.Done) c w
  waker_begins (waker_op.Clone c) w = waker_pends (task.CloneWaker c None) c w
  waker_begins (waker_op.Wake c) w = wake_begins (woken.Drop dropped.Done) c w
  waker_begins (waker_op.WakeByRef c) w = wake_begins woken.Done c w
  waker_begins (waker_op.Drop c) w = waker_pends (task.DropWaker c dropped.Done) c w

  -- ---- places for wakers

  abbrev pub atomic_waker_new : World D → Result (Entry D × World D) FailureKind
  atomic_waker_new w = Ok (Answered (reply.AtomicWaker (length w.objects)), with_new (object.AtomicWaker (record { holder = None; waker = None })) w)

  abbrev pub register_begins : ℕ → ℕ → World D → Result (Entry D × World D) FailureKind
  register_begins p c w = do
    _ ← an_atomic_waker p w
    waker_pends (task.Register p c) c w

  -- a clone of the waker is made first
  abbrev pub register_by_ref_begins : ℕ → ℕ → World D → Result (Entry D × World D) FailureKind
  register_by_ref_begins p c w = do
    _ ← an_atomic_waker p w
    waker_pends (task.CloneWaker c (Some p)) c w

  -- the thread is blocked while another one holds the lock
  abbrev pub take_begins : Taking → ℕ → World D → Result (Entry D × World D) FailureKind
  take_begins by p w = do
    place ← an_atomic_waker p w
    Ok (AtBranch, pends (task.TakeWaker by p) (is_some place.holder) w)

  abbrev pub waker_reply : Option ℕ → Reply D
  waker_reply None = reply.NoWaker
  waker_reply (Some c) = reply.Waker c

  -- the waker that is left comes back
  abbrev pub atomic_waker_drop : ℕ → World D → Result (Entry D × World D) FailureKind
  atomic_waker_drop p w = do
    place ← an_atomic_waker p w
    Ok (Answered (waker_reply place.waker), with_atomic_waker p (record place { waker = None }) w)

  abbrev pub atomic_waker_begins : AtomicWakerOp → World D → Result (Entry D × World D) FailureKind
  atomic_waker_begins place_op.New w = atomic_waker_new w
  atomic_waker_begins (place_op.Register p c) w = register_begins p c w
  atomic_waker_begins (place_op.RegisterByRef p c) w = register_by_ref_begins p c w
  atomic_waker_begins (place_op.Wake p) w = take_begins taking.Wake p w
  atomic_waker_begins (place_op.TakeWaker p) w = take_begins taking.Answer p w
  atomic_waker_begins (place_op.Drop p) w = atomic_waker_drop p w

  -- ---- once the thread is chosen

  -- the lock is held from now on, and given free
  abbrev pub holds_place : ℕ → AtomicWaker → World D → World D
  holds_place p place w = blocks_pending p (acquires p (with_atomic_waker p (record place { holder = Some w.active }) w))

  abbrev pub frees_place : ℕ → AtomicWaker → World D → World D
  frees_place p place w = wakes_pending p (releases p (with_atomic_waker p (record place { holder = None }) w))

  -- a waker wakes: it notifies, and then may be dropped
  abbrev pub after_wake : AfterWake → ℕ → World D → Result (Passed D × World D) FailureKind
  after_wake woken.Done c w = answered reply.Done w
  after_wake (woken.Drop after) c w = pends_next (task.DropWaker c after) false w

  abbrev pub wakes_by : ℕ → ℕ → AfterWake → World D → Result (Passed D × World D) FailureKind
  wakes_by n c after w = do
    _ ← some_wakers c w
    notified ← notify n w
    after_wake after c notified.1

  -- one waker more; a run ends before there are 2^64, since each is an operation
  abbrev pub after_clone : Option ℕ → ℕ → World D → Result (Passed D × World D) FailureKind
  after_clone None c w = answered reply.Done w
  after_clone (Some p) c w = pends_next (task.Register p c) false w

  abbrev pub clones_waker : ℕ → Option ℕ → World D → Result (Passed D × World D) FailureKind
  clones_waker c place w = do
    wakers ← some_wakers c w
    _ ← check (nat_lt wakers.count highest_count) TooManySteps
    after_clone place c (with_wakers c (record wakers { count = wakers.count + 1 }) w)

  -- what comes after a waker was dropped
  abbrev pub after_drop : AfterDrop → World D → Result (Passed D × World D) FailureKind
  after_drop dropped.Done w = answered reply.Done w
  after_drop dropped.Yield w = do
    yielded ← yields task.Continue w
    Ok (passed.AtBranch, yielded.1)
  after_drop (dropped.Free p) w = do
    place ← an_atomic_waker p w
    answered reply.Done (frees_place p place w)

  -- who drops the last one acquires
  abbrev pub acquires_if : Bool → ℕ → World D → World D
  acquires_if true c w = acquires c w
  acquires_if false c w = w

  -- the thread releases to the count that it makes one less
  abbrev pub drops_waker : ℕ → AfterDrop → World D → Result (Passed D × World D) FailureKind
  drops_waker c after w = do
    wakers ← some_wakers c w
    after_drop after (acquires_if (wakers.count == 1) c (releases c (with_wakers c (record wakers { count = wakers.count - 1 }) w)))

  -- Where another thread holds the lock the waker wakes and is dropped, and the thread yields. Else it takes the place: an old
  -- one is dropped under the lock, which is then given free.
  abbrev pub takes_place : ℕ → ℕ → AtomicWaker → Option ℕ → World D → Result (Passed D × World D) FailureKind
  takes_place p c place None w = answered reply.Done (frees_place p (record place { waker = Some c }) (holds_place p place w))
  takes_place p c place (Some old) w = pends_next (task.DropWaker old (dropped.Free p)) false (holds_place p (record place { waker = Some c }) w)

  abbrev pub registers_if : Bool → ℕ → ℕ → AtomicWaker → Wakers → World D → Result (Passed D × World D) FailureKind
  registers_if true p c place wakers w = takes_place p c place place.waker w
  registers_if false p c place wakers w = pends_next (task.WakeBy wakers.notifier c (woken.Drop dropped.Yield)) false w

  abbrev pub registers : ℕ → ℕ → World D → Result (Passed D × World D) FailureKind
  registers p c w = do
    place ← an_atomic_waker p w
    wakers ← some_wakers c w
    registers_if (is_none place.holder) p c place wakers w

  -- what a thread does with the waker that it has taken out; that one is left is tested when it wakes
  abbrev pub has_taken : Taking → Option ℕ → World D → Result (Passed D × World D) FailureKind
  has_taken taking.Answer waker w = answered (waker_reply waker) w
  has_taken taking.Wake None w = answered reply.Done w
  has_taken taking.Wake (Some c) w = do
    wakers ← a_wakers c w
    pends_next (task.WakeBy wakers.notifier c (woken.Drop dropped.Done)) false w

  -- the lock is taken, the waker is taken out, and the lock is given free
  abbrev pub takes_waker : Taking → ℕ → World D → Result (Passed D × World D) FailureKind
  takes_waker by p w = do
    place ← an_atomic_waker p w
    _ ← check (is_none place.holder) Misuse
    has_taken by place.waker (frees_place p (record place { waker = None }) (holds_place p place w))

-- memory may be refused where a notifier and its count are made
abbrev pub waker_needs_memory : WakerOp → Bool
waker_needs_memory waker_op.New = true
waker_needs_memory _ = false

-- or a place for wakers
abbrev pub atomic_waker_needs_memory : AtomicWakerOp → Bool
atomic_waker_needs_memory place_op.New = true
atomic_waker_needs_memory _ = false
