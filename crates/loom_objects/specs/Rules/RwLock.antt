-- What read-write locks do.
use Rattle.std.specs.Prelude.{ℕ, List, ◌+◌, ◌-◌, ◌&&◌, ◌||◌, Bool, true, false, not, nat_lt, cond, [], ◌∷◌, length, is_none, is_some, slice_get, slice_set, Option, Some, None, Result, Ok, Err}
use Rattle.std.specs.List.{list_all}
use Rattle.loom_views.specs.declared.rt.failure.FailureKind.{FailureKind}
use Rattle.loom_views.specs.declared.rt.failure.FailureKind.TheVariants.{Misuse, TooManySteps}
use Rattle.loom_views.specs.Limits.{highest_count}
use Rattle.loom_objects.specs.declared.operation.RwLockOp.{RwLockOp}
use Rattle.loom_objects.specs.declared.operation.RwLockOp.TheVariants as lock_op
use Rattle.loom_objects.specs.declared.operation.Reply.{Reply}
use Rattle.loom_objects.specs.declared.operation.Reply.TheVariants as reply
use Rattle.loom_objects.specs.declared.rt.object.Object.{Object}
use Rattle.loom_objects.specs.declared.rt.object.Object.TheVariants as object
use Rattle.loom_objects.specs.declared.rt.rwlock.RwLock.{RwLock}
use Rattle.loom_objects.specs.declared.rt.run.Entry.{Entry}
use Rattle.loom_objects.specs.declared.rt.run.Entry.TheVariants.{Answered, AtBranch}
use Rattle.loom_objects.specs.declared.rt.thread.Claim.{Claim}
use Rattle.loom_objects.specs.declared.rt.thread.Claim.TheVariants.{Read, TryRead, Write, TryWrite}
use Rattle.loom_objects.specs.declared.rt.thread.Task.TheVariants as task
use Rattle.loom_objects.specs.Rules.Cell.{count_of, is_zero}
use Rattle.loom_objects.specs.Rules.Rule.{◌>>=◌, check, found}
use Rattle.loom_objects.specs.World.{World}
use Rattle.loom_objects.specs.Scene.Lookup.{rwlock_at}
use Rattle.loom_objects.specs.Lent.{kept, value_in, handed_out, handed_back, lent_to, put_back, taken_apart}
use Rattle.loom_objects.specs.Rules.Moves.{a_rwlock, acquires, releases, with_object, with_new, is_number, wakes_if, wakes_pending, blocks_pending, blocks_writers, pends}

-- a thread that takes a lock so waits for it
abbrev pub waits : Claim → Bool
waits Read = true
waits TryRead = false
waits Write = true
waits TryWrite = false

-- a thread that takes a lock so reads
abbrev pub is_reading : Claim → Bool
is_reading Read = true
is_reading TryRead = true
is_reading Write = false
is_reading TryWrite = false

module _ {D : Type 0} where
  abbrev pub new_lock : D → RwLock D
  new_lock value = record { content = kept value; readers = 0 ∷ 0 ∷ 0 ∷ 0 ∷ 0 ∷ []; writer = None }

  -- how many guards for reading the thread has
  abbrev pub guards_of : ℕ → RwLock D → ℕ
  guards_of t lock = count_of (slice_get lock.readers t)

  abbrev pub with_guards : ℕ → ℕ → RwLock D → RwLock D
  with_guards t count lock = record lock { readers = slice_set lock.readers t count }

  -- a guard of the thread for reading has ended
  abbrev pub with_one_fewer : ℕ → RwLock D → RwLock D
  with_one_fewer t lock = with_guards t (guards_of t lock - 1) lock

  abbrev pub is_unread : RwLock D → Bool
  is_unread lock = list_all is_zero lock.readers

  -- a thread writes or some read
  abbrev pub is_held : RwLock D → Bool
  is_held lock = is_some lock.writer || not (is_unread lock)

  -- the data of a lock that nobody holds, unless it is out
  abbrev pub unlocked_value : RwLock D → Option D
  unlocked_value lock = cond (is_held lock) None (value_in lock.content)

  -- a thread that takes the lock so can't have it now
  abbrev pub is_refused : Claim → RwLock D → Bool
  is_refused Read lock = is_some lock.writer
  is_refused TryRead lock = is_some lock.writer
  is_refused Write lock = is_held lock
  is_refused TryWrite lock = is_held lock

  abbrev pub with_rwlock : ℕ → RwLock D → World D → World D
  with_rwlock n lock w = with_object n (object.RwLock lock) w

  -- a lock that nobody holds
  abbrev pub rwlock_new : D → World D → Result (Entry D × World D) FailureKind
  rwlock_new value w = Ok (Answered (reply.RwLock (length w.objects)), with_new (object.RwLock (new_lock value)) w)

  -- the thread reaches a branch point, and is blocked there while it waits for the lock
  abbrev pub claim_begins : Claim → ℕ → World D → Result (Entry D × World D) FailureKind
  claim_begins claim n w = do
    lock ← a_rwlock n w
    Ok (AtBranch, pends (task.Claim claim n) (waits claim && is_refused claim lock) w)

  -- The thread has one guard more, acquires and has a copy; who is pending to write is blocked. A run ends before it has
  -- 2^64 guards, since each is an operation
  abbrev pub reads_lock : ℕ → RwLock D → World D → Result (Reply D × World D) FailureKind
  reads_lock n lock w = do
    value ← found (value_in lock.content) Misuse
    _ ← check (nat_lt (guards_of w.active lock) highest_count) TooManySteps
    Ok (reply.ReadLocked n value, blocks_writers n (acquires n (with_rwlock n (with_guards w.active (guards_of w.active lock + 1) lock) w)))

  -- the thread acquires and has the data; who is pending on the lock is blocked
  abbrev pub writes_lock : ℕ → RwLock D → World D → Result (Reply D × World D) FailureKind
  writes_lock n lock w = do
    value ← found (value_in lock.content) Misuse
    Ok (reply.WriteLocked n value, blocks_pending n (acquires n (with_rwlock n (record lock { writer = Some w.active; content = handed_out lock.content }) w)))

  abbrev pub takes : Claim → ℕ → RwLock D → World D → Result (Reply D × World D) FailureKind
  takes Read n lock w = reads_lock n lock w
  takes TryRead n lock w = reads_lock n lock w
  takes Write n lock w = writes_lock n lock w
  takes TryWrite n lock w = writes_lock n lock w

  -- who waits isn't chosen while the lock is refused
  abbrev pub refusal : Claim → Result (Reply D) FailureKind
  refusal Read = Err Misuse
  refusal TryRead = Ok reply.WouldBlock
  refusal Write = Err Misuse
  refusal TryWrite = Ok reply.WouldBlock

  abbrev pub refused : Claim → World D → Result (Reply D × World D) FailureKind
  refused claim w = do
    answer ← refusal claim
    Ok (answer, w)

  abbrev pub takes_unless : Bool → Claim → ℕ → RwLock D → World D → Result (Reply D × World D) FailureKind
  takes_unless true claim n lock w = refused claim w
  takes_unless false claim n lock w = takes claim n lock w

  -- the thread takes the lock so
  abbrev pub claims : Claim → ℕ → World D → Result (Reply D × World D) FailureKind
  claims claim n w = do
    lock ← a_rwlock n w
    _ ← check (is_none lock.content.lent) Misuse
    takes_unless (is_refused claim lock) claim n lock w

  -- a guard of the thread ends, and it releases; where none is left, who is pending on the lock is woken
  abbrev pub read_release : ℕ → World D → Result (Entry D × World D) FailureKind
  read_release n w = do
    lock ← a_rwlock n w
    _ ← check (nat_lt 0 (guards_of w.active lock)) Misuse
    let left = with_one_fewer w.active lock
    Ok (Answered reply.Done, wakes_if (is_unread left) n (releases n (with_rwlock n left w)))

  -- only its writer frees it, with its data, and releases; who is pending on it is woken
  abbrev pub write_release : ℕ → D → World D → Result (Entry D × World D) FailureKind
  write_release n value w = do
    lock ← a_rwlock n w
    _ ← check (is_number lock.writer w.active) Misuse
    Ok (Answered reply.Done, wakes_pending n (releases n (with_rwlock n (record lock { writer = None; content = handed_back value lock.content }) w)))

  -- the data of a lock that nobody holds goes out
  abbrev pub rwlock_get_mut : ℕ → World D → Result (Entry D × World D) FailureKind
  rwlock_get_mut n w = do
    lock ← a_rwlock n w
    value ← found (unlocked_value lock) Misuse
    Ok (Answered (reply.Data value), with_rwlock n (record lock { content = lent_to w.active lock.content }) w)

  -- the thread that has it out puts some back
  abbrev pub rwlock_put : ℕ → D → World D → Result (Entry D × World D) FailureKind
  rwlock_put n value w = do
    lock ← a_rwlock n w
    _ ← check (is_number lock.content.lent w.active) Misuse
    Ok (Answered reply.Done, with_rwlock n (record lock { content = put_back value lock.content }) w)

  -- the data of a lock that nobody holds, after which it is taken apart
  abbrev pub rwlock_into_inner : ℕ → World D → Result (Entry D × World D) FailureKind
  rwlock_into_inner n w = do
    lock ← a_rwlock n w
    value ← found (unlocked_value lock) Misuse
    Ok (Answered (reply.Data value), with_rwlock n (record lock { content = taken_apart lock.content }) w)

  abbrev pub rwlock_begins : RwLockOp D → World D → Result (Entry D × World D) FailureKind
  rwlock_begins (lock_op.New value) w = rwlock_new value w
  rwlock_begins (lock_op.Read n) w = claim_begins Read n w
  rwlock_begins (lock_op.TryRead n) w = claim_begins TryRead n w
  rwlock_begins (lock_op.ReadRelease n) w = read_release n w
  rwlock_begins (lock_op.Write n) w = claim_begins Write n w
  rwlock_begins (lock_op.TryWrite n) w = claim_begins TryWrite n w
  rwlock_begins (lock_op.WriteRelease n value) w = write_release n value w
  rwlock_begins (lock_op.GetMut n) w = rwlock_get_mut n w
  rwlock_begins (lock_op.Put n value) w = rwlock_put n value w
  rwlock_begins (lock_op.IntoInner n) w = rwlock_into_inner n w

  -- ---- what the code calls

  -- whether no guard is left then; none where the thread has none to end
  abbrev pub unread_after : ℕ → RwLock D → Option Bool
  unread_after t lock = cond (nat_lt 0 (guards_of t lock)) (Some (is_unread (with_one_fewer t lock))) None

  -- whether the lock of this number is refused; a misuse while its data is out without a guard
  abbrev pub refused_at : Claim → ℕ → List (Object D) → Result Bool FailureKind
  refused_at claim n objects = do
    lock ← rwlock_at n objects
    _ ← check (is_none lock.content.lent) Misuse
    Ok (is_refused claim lock)

  -- the thread has so many guards, acquires and has this copy; who is pending to write is blocked
  abbrev pub guards : ℕ → ℕ → D → World D → Result (Reply D × World D) FailureKind
  guards n count value w = do
    lock ← a_rwlock n w
    Ok (reply.ReadLocked n value, blocks_writers n (acquires n (with_rwlock n (with_guards w.active count lock) w)))

  -- a lock that isn't refused is taken to read
  abbrev pub reads_at : ℕ → World D → Result (Reply D × World D) FailureKind
  reads_at n w = do
    lock ← a_rwlock n w
    reads_lock n lock w

  -- a lock that isn't refused is taken to write
  abbrev pub writes_at : ℕ → World D → Result (Reply D × World D) FailureKind
  writes_at n w = do
    lock ← a_rwlock n w
    writes_lock n lock w

  -- memory may be refused where a read-write lock is made
  abbrev pub needs_memory : RwLockOp D → Bool
  needs_memory (lock_op.New value) = true
  needs_memory _ = false
