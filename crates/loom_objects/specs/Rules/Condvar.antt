-- What condition variables do.
use Rattle.std.specs.Prelude.{ℕ, Bool, false, nat_lt, List, [], ◌∷◌, ◌++◌, length, take, drop, is_some, true, Result, Ok, Err, ⊤}
use Rattle.loom_views.specs.declared.rt.failure.FailureKind.{FailureKind}
use Rattle.loom_views.specs.declared.rt.failure.FailureKind.TheVariants.{Misuse}
use Rattle.loom_objects.specs.declared.operation.CondvarOp.{CondvarOp}
use Rattle.loom_objects.specs.declared.operation.CondvarOp.TheVariants.{New, Wait, WaitTimeout, NotifyOne, NotifyAll}
use Rattle.loom_objects.specs.declared.operation.Reply.{Reply}
use Rattle.loom_objects.specs.declared.operation.Reply.TheVariants as reply
use Rattle.loom_objects.specs.declared.rt.object.Object.TheVariants as object
use Rattle.loom_objects.specs.declared.rt.run.Entry.{Entry}
use Rattle.loom_objects.specs.declared.rt.run.Entry.TheVariants.{Answered, AtBranch}
use Rattle.loom_objects.specs.declared.rt.run.Passed.{Passed}
use Rattle.loom_objects.specs.declared.rt.run.Passed.TheVariants as passed
use Rattle.loom_objects.specs.declared.rt.thread.Locking.{Locking}
use Rattle.loom_objects.specs.declared.rt.thread.Locking.TheVariants.{Untimed, Timed}
use Rattle.loom_objects.specs.declared.rt.thread.State.TheVariants.{Sleeping}
use Rattle.loom_objects.specs.declared.rt.thread.Task.TheVariants as task
use Rattle.loom_objects.specs.declared.rt.thread.Waking.{Waking}
use Rattle.loom_objects.specs.declared.rt.thread.Waking.TheVariants.{One, All}
use Rattle.loom_objects.specs.declared.rt.condvar.Condvar.{Condvar}
use Rattle.loom_objects.specs.declared.rt.mutex.Mutex.{Mutex}
use Rattle.loom_objects.specs.Rules.Mutex.{frees}
use Rattle.loom_objects.specs.Rules.Rule.{◌>>=◌, check}
use Rattle.loom_objects.specs.World.{World, MAX_THREADS}
use Rattle.loom_objects.specs.Rules.Moves.{a_condvar, a_mutex, is_number, pends, rouses, rests, rouses_all, with_new, with_object}

-- who is woken, and who waits on
abbrev pub woken_by : Waking → List ℕ → List ℕ
woken_by One waiters = take 1 waiters
woken_by All waiters = waiters

abbrev pub left_by : Waking → List ℕ → List ℕ
left_by One waiters = drop 1 waiters
left_by All waiters = []

-- a condition variable on which these threads wait, the one that came first first
abbrev pub waited_on_by : List ℕ → Condvar
waited_on_by waiters = record { waiters = record { items = waiters } }

module _ {D : Type 0} where
  -- on the condition variable of this number these threads wait now
  abbrev pub with_waiters : ℕ → List ℕ → World D → World D
  with_waiters n waiters w = with_object n (object.Condvar (waited_on_by waiters)) w

  -- a condition variable on which no thread waits
  abbrev pub condvar_new : World D → Result (Entry D × World D) FailureKind
  condvar_new w = Ok (Answered (reply.Condvar (length w.objects)), with_new (object.Condvar (waited_on_by [])) w)

  -- a thread that holds the mutex reaches a branch point
  abbrev pub wait_begins : Locking → ℕ → ℕ → D → World D → Result (Entry D × World D) FailureKind
  wait_begins locking n m value w = do
    _ ← a_condvar n w
    mutex ← a_mutex m w
    _ ← check (is_number mutex.holder w.active) Misuse
    Ok (AtBranch, pends (task.Wait locking n m value) false w)

  abbrev pub wake_begins : Waking → ℕ → World D → Result (Entry D × World D) FailureKind
  wake_begins waking n w = do
    _ ← a_condvar n w
    Ok (AtBranch, pends (task.Wake waking n) false w)

  abbrev pub condvar_begins : CondvarOp D → World D → Result (Entry D × World D) FailureKind
  condvar_begins New w = condvar_new w
  condvar_begins (Wait n m value) w = wait_begins Untimed n m value w
  condvar_begins (WaitTimeout n m value) w = wait_begins Timed n m value w
  condvar_begins (NotifyOne n) w = wake_begins One n w
  condvar_begins (NotifyAll n) w = wake_begins All n w

  -- ---- once the thread is chosen

  -- The first stage of a wait: the thread is the last waiter, gives the mutex free, and sleeps. No more threads wait than there
  -- are, five.
  abbrev pub falls_asleep : Locking → ℕ → ℕ → D → World D → Result (Passed D × World D) FailureKind
  falls_asleep locking n m value w = do
    condvar ← a_condvar n w
    _ ← check (nat_lt (length condvar.waiters.items) MAX_THREADS) Misuse
    freed ← frees m value (with_waiters n (condvar.waiters.items ++ w.active ∷ []) w)
    Ok (passed.AtBranch, rests Sleeping (task.Relock locking m) freed.1)

  -- it is a mutex, which a thread holds
  abbrev pub is_locked : Result (Mutex D) FailureKind → Bool
  is_locked (Ok mutex) = is_some mutex.holder
  is_locked (Err kind) = false

  -- the second one: it was woken, and comes to the mutex, as a thread that locks it
  abbrev pub relocks : Locking → ℕ → World D → Result (Passed D × World D) FailureKind
  relocks locking m w = do
    Ok (passed.AtBranch, pends (task.Lock locking m) (is_locked (a_mutex m w)) w)

  -- the first waiter, or all of them, leave and are woken, in order
  abbrev pub wakes : Waking → ℕ → World D → Result (Reply D × World D) FailureKind
  wakes waking n w = do
    condvar ← a_condvar n w
    Ok (reply.Done, rouses_all (woken_by waking condvar.waiters.items) (with_waiters n (left_by waking condvar.waiters.items) w))

  -- ---- what the code calls

  -- one thread goes on
  abbrev pub rouse : ℕ → World D → Result (⊤ × World D) FailureKind
  rouse t w = Ok (tt, rouses t w)

  abbrev pub rouse_all : List ℕ → World D → Result (⊤ × World D) FailureKind
  rouse_all threads w = Ok (tt, rouses_all threads w)

  -- memory may be refused where a condition variable is made
  abbrev pub needs_memory : CondvarOp D → Bool
  needs_memory New = true
  needs_memory _ = false
