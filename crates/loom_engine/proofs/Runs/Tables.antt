-- The tables of the machine keep locks sound, and fail by themselves, but for a choice of a store.
use Rattle.std.proofs.Common.{◌≡◌, ℕ, Bool, List, [], ◌∷◌, Option, Some, None, subst, sym}
use Rattle.std.specs.Prelude.{◌-◌, true, false, if◌then◌else◌, slice_get, nat_lt, Result, Ok, Err, ⊤}
use Rattle.loom_views.specs.declared.rt.failure.FailureKind.{FailureKind}
use Rattle.loom_views.specs.declared.rt.failure.FailureKind.TheVariants.{LeakArc, LeakMessages, LeakTrack, Misuse, TooManySteps}
use Rattle.loom_objects.specs.declared.operation.Request.{Request}
use Rattle.loom_objects.specs.declared.operation.Request.TheVariants as op
use Rattle.loom_objects.specs.declared.operation.Turn.{Turn}
use Rattle.loom_objects.specs.declared.rt.object.Object.{Object}
use Rattle.loom_objects.specs.declared.rt.object.Object.TheVariants as object
use Rattle.loom_objects.specs.declared.rt.thread.Task.{Task}
use Rattle.loom_objects.specs.declared.operation.MutexOp.TheVariants as mutex_op
use Rattle.loom_objects.specs.Rules.Tables.{chosen, counted, takes_effect}
use Rattle.loom_objects.specs.Rules.Ending.{end_of}
use Rattle.loom_objects.specs.Rules.Leaks.{check_leak, first_leak, first_of, is_none_left, leak_of}
use Rattle.loom_objects.specs.Rules.Moves.{takes_result}
use Rattle.loom_objects.specs.Schedule.Offers.{chooses}
use Rattle.loom_objects.specs.World.{World}
use Rattle.loom_engine.proofs.Runs.Fairness.{IsFairResult, IsMet, IsOwn, then_by}
use Rattle.loom_engine.proofs.Runs.Kinds.Mutexes.{get_mut_opening, into_inner_opening}
use Rattle.loom_objects.specs.declared.rt.run.Resumed.{Resumed}
use Rattle.loom_engine.specs.Runs.Histories.{returned_by, opened_by}
use Rattle.loom_objects.specs.Rules.Mutex.{mutex_get_mut, mutex_into_inner}
use Rattle.loom_objects.specs.Rules.RwLock.{rwlock_get_mut, rwlock_into_inner}
use Rattle.loom_objects.specs.declared.operation.RwLockOp.TheVariants as lock_op
use Rattle.loom_engine.proofs.Runs.Kinds.RwLocks.{get_mut_opening as rwlock_get_mut_opening, into_inner_opening as rwlock_into_inner_opening}
use Rattle.loom_engine.proofs.Runs.States.{Aim, Kept, Out, Ready, TurnTo, chosen_ready, freed_at, freed_by, kept_by_threads, set_anew}
use Rattle.loom_engine.proofs.Runs.Ruling.{Entering, Fairly, Freely, Opening, ResumedTo, Resuming, answer_fairly, check_fairly, found_fairly, freely, misuse, then_fairly}
use Rattle.loom_engine.proofs.Runs.Kinds.{begins_entering, effect_resuming}

abbrev pub IsFairLeak : Option FailureKind → Type 0
IsFairLeak None = Unit {0}
IsFairLeak (Some kind) = IsOwn kind

fair_if : (b : Bool) (one other : Option FailureKind) → IsFairLeak one → IsFairLeak other → IsFairLeak (if b then one else other)
fair_if true one other h i = h
fair_if false one other h i = i

first_of_fair : (one other : Option FailureKind) → IsFairLeak one → IsFairLeak other → IsFairLeak (first_of one other)
first_of_fair None other h i = i
first_of_fair (Some kind) other h i = h

check_leak_fair : (leak : Option FailureKind) → IsFairLeak leak → IsFairResult (check_leak leak)
check_leak_fair None h = tt
check_leak_fair (Some kind) h = h

module _ {D : Type 0} where
  -- a state that differs just in how many operations are left
  abbrev pub one_fewer : World D → World D
  one_fewer w = record w { steps_left = w.steps_left - 1 }

  pub counted_entering : (todo : Request D ⊤) (w : World D) → Fairly (Entering (returned_by todo) w) (counted todo w)
  counted_entering todo w = check_fairly (Entering (returned_by todo) w) (nat_lt 0 w.steps_left) TooManySteps _ (λ e. cc) (λ e. begins_entering todo (one_fewer w))

  -- the data of a lock is taken out at once
  pub counted_opening : (todo : Request D ⊤) (n : ℕ) (w : World D) → opened_by todo ≡ Some n → Fairly (Opening n w) (counted todo w)
  counted_opening (op.Mutex (mutex_op.GetMut m)) n w e = check_fairly (Opening n w) (nat_lt 0 w.steps_left) TooManySteps _ (λ f. cc) (λ f. get_mut_of m n (cc e))
    where
      get_mut_of : (m n : ℕ) → m ≡ n → Fairly (Opening n w) (mutex_get_mut m (one_fewer w))
      get_mut_of m n same = subst (λ i. Fairly (Opening i w) (mutex_get_mut m (one_fewer w))) same (get_mut_opening m (one_fewer w))
  counted_opening (op.Mutex (mutex_op.IntoInner m)) n w e = check_fairly (Opening n w) (nat_lt 0 w.steps_left) TooManySteps _ (λ f. cc) (λ f. into_inner_of m n (cc e))
    where
      into_inner_of : (m n : ℕ) → m ≡ n → Fairly (Opening n w) (mutex_into_inner m (one_fewer w))
      into_inner_of m n same = subst (λ i. Fairly (Opening i w) (mutex_into_inner m (one_fewer w))) same (into_inner_opening m (one_fewer w))
  counted_opening (op.RwLock (lock_op.GetMut m)) n w e = check_fairly (Opening n w) (nat_lt 0 w.steps_left) TooManySteps _ (λ f. cc) (λ f. get_mut_of m n (cc e))
    where
      get_mut_of : (m n : ℕ) → m ≡ n → Fairly (Opening n w) (rwlock_get_mut m (one_fewer w))
      get_mut_of m n same = subst (λ i. Fairly (Opening i w) (rwlock_get_mut m (one_fewer w))) same (rwlock_get_mut_opening m (one_fewer w))
  counted_opening (op.RwLock (lock_op.IntoInner m)) n w e = check_fairly (Opening n w) (nat_lt 0 w.steps_left) TooManySteps _ (λ f. cc) (λ f. into_inner_of m n (cc e))
    where
      into_inner_of : (m n : ℕ) → m ≡ n → Fairly (Opening n w) (rwlock_into_inner m (one_fewer w))
      into_inner_of m n same = subst (λ i. Fairly (Opening i w) (rwlock_into_inner m (one_fewer w))) same (rwlock_into_inner_opening m (one_fewer w))
  counted_opening _ n w e = absurd (cc e)

  -- ---- once the thread is chosen

  -- a thread is chosen, and what it had pending takes effect
  abbrev pub Choosing : World D → Resumed D × World D → Type 0
  Choosing w answered = (out : Aim) → Kept out w → ResumedTo out answered

  -- the state in which it has its turn, and what it had pending
  abbrev pub Chosen : World D → Task D × World D → Type 0
  Chosen w answered = (out : Aim) → Kept out w → ((m : ℕ) → out ≡ Out m → freed_by answered.0 ≡ Some m → ⊥) × Ready out answered.1

  pub chosen_choosing : (t : ℕ) (w : World D) → Freely (Choosing w) (chosen t w)
  chosen_choosing t w =
      then_by IsMet (Chosen w) (Choosing w) (chooses t w) _ (freely (Chosen w) (chooses t w) (found_fairly (Chosen w) (slice_get w.threads t) Misuse _ misuse (λ thread e out k.
      ((λ m o f. k.unfreed t m o (subst (λ x. freed_at x ≡ Some m) (sym e) f)), chosen_ready t thread w k))))
      (λ answered h. onward answered.0 answered.1 h (takes_effect answered.0 answered.1) (effect_resuming answered.0 answered.1))
    where
      onward : (todo : Task D) (v : World D) → Chosen w (todo, v) → (r : Result (Resumed D × World D) FailureKind) → Freely (Resuming (freed_by todo) v) r → Freely (Choosing w) r
      onward todo v h (Ok answered) resuming = λ out k. resuming out (h out k).0 (h out k).1
      onward todo v h (Err kind) fair = fair

  -- a leak is a failure of its own
  leak_fair : (object : Object D) → IsFairLeak (leak_of object)
  leak_fair (object.Arc arc) = fair_if (nat_lt 0 arc.count) (Some LeakArc) None (λ e. cc) tt
  leak_fair (object.Track track) = fair_if track.content.is_taken None (Some LeakTrack) tt (λ e. cc)
  leak_fair (object.Channel channel) = fair_if (is_none_left channel.messages) None (Some LeakMessages) tt (λ e. cc)
  leak_fair (object.Wakers wakers) = fair_if (nat_lt 0 wakers.count) (Some LeakArc) None (λ e. cc) tt
  leak_fair _ = tt

  first_fair : (objects : List (Object D)) → IsFairLeak (first_leak objects)
  first_fair [] = tt
  first_fair (x ∷ xs) = first_of_fair (leak_of x) (first_leak xs) (leak_fair x) (first_fair xs)

  -- the run is over
  abbrev pub Ending : World D → Turn D × World D → Type 0
  Ending w answered = (out : Aim) → Kept out w → TurnTo out answered

  abbrev pub Remaining : World D → D × World D → Type 0
  Remaining w taken = (out : Aim) → Kept out w → Kept out taken.1

  taken_fairly : (w : World D) → Fairly (Remaining w) (takes_result 0 w)
  taken_fairly w = found_fairly (Remaining w) (slice_get w.threads 0) Misuse _ misuse (λ thread e. found_fairly (Remaining w) thread.result Misuse _ misuse (λ value f out k.
      kept_by_threads _ (set_anew w.threads 0 _ (λ m i. subst (λ o. freed_at o ≡ Some m) (sym e) i)) k))

  pub end_ending : (w : World D) → Fairly (Ending w) (end_of w)
  end_ending w =
      answer_fairly (Ending w) (check_leak (first_leak w.objects)) _ (check_leak_fair (first_leak w.objects) (first_fair w.objects)) (λ u.
      then_fairly (Remaining w) (Ending w) (takes_result 0 w) _ (taken_fairly w) (λ taken h. h))
