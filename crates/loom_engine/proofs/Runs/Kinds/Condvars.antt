-- What is done to condition variables keeps locks sound.
use Rattle.std.proofs.Common.{◌≡◌, ℕ, List, [], ◌∷◌, ◌++◌, length, Option, Some, None, refl, subst, sym, ap, eqb-true}
use Rattle.std.specs.Prelude.{true, false, nat_lt}
use Rattle.loom_views.specs.declared.rt.failure.FailureKind.TheVariants.{Misuse}
use Rattle.loom_objects.specs.declared.operation.CondvarOp.{CondvarOp}
use Rattle.loom_objects.specs.declared.operation.CondvarOp.TheVariants as condvar_op
use Rattle.loom_objects.specs.declared.rt.thread.Locking.{Locking}
use Rattle.loom_objects.specs.declared.rt.thread.Locking.TheVariants.{Untimed, Timed}
use Rattle.loom_objects.specs.declared.rt.thread.Task.TheVariants as task
use Rattle.loom_objects.specs.declared.rt.thread.Waking.{Waking as Wakes}
use Rattle.loom_objects.specs.declared.rt.thread.Waking.TheVariants.{One, All}
use Rattle.loom_objects.specs.Rules.Condvar as condvars
use Rattle.loom_objects.specs.Rules.Condvar.{condvar_begins, falls_asleep, left_by, relocks, wake_begins, wakes, with_waiters, woken_by, is_locked}
use Rattle.loom_objects.specs.Rules.Mutex.{frees}
use Rattle.loom_objects.specs.Rules.Moves.{a_condvar, is_number, rouses, rouses_all, running, a_mutex}
use Rattle.loom_objects.specs.World.{World, MAX_THREADS}
use Rattle.loom_engine.proofs.Runs.Kinds.Mutexes.{frees_keeping}
use Rattle.loom_objects.specs.declared.rt.thread.State.TheVariants.{Sleeping}
use Rattle.loom_engine.specs.Runs.Histories.{returned_by_condvar}
use Rattle.loom_engine.proofs.Runs.States.{Aim, IsHeldBy, ObjectAt, Ready, changed_ready, pends_ready, rests_ready, waits_kept}
use Rattle.loom_engine.proofs.Runs.Ruling.{Entering, Fairly, Keeping, OnwardBut, PassingBut, answer_fairly, check_fairly, condvar_fair, fair_keeping, misuse, mutex_fairly, new_keeping, set_keeping, then_fairly}
use Rattle.loom_engine.proofs.Runs.Replies.{enters, wake_begins_quiet, Unswitched, unswitched}
use Rattle.loom_engine.proofs.Runs.Answering.{Answers}
use Rattle.loom_objects.specs.Rules.Rule.{check}

is_its_number : (o : Option ℕ) (n : ℕ) → is_number o n ≡ true → o ≡ Some n
is_its_number None n h = absurd (cc h)
is_its_number (Some m) n h = ap Some (eqb-true m n h)

module _ {D : Type 0} where
  -- who waits holds the mutex, and is about to give it free, if it isn't the one that is followed
  wait_entering : (locking : Locking) (n m : ℕ) (value : D) (w : World D) → Fairly (Entering (Some m) w) (condvars.wait_begins locking n m value w)
  wait_entering locking n m value w =
      answer_fairly (Entering (Some m) w) (a_condvar n w) _ (condvar_fair n w) (λ condvar. mutex_fairly (Entering (Some m) w) m w _ (λ mutex there s.
      check_fairly (Entering (Some m) w) (is_number mutex.holder w.active) Misuse _ misuse (λ e out other k.
      waits_kept out m (task.Wait locking n m value) false w refl (λ o. other m o refl) (subst (ObjectAt (IsHeldBy w.active)) (sym there) (is_its_number mutex.holder w.active e)) k)))

  wake_begins_keeping : (waking : Wakes) (n : ℕ) (w : World D) → Keeping w (wake_begins waking n w)
  wake_begins_keeping waking n w = fair_keeping (a_condvar n w) _ w (condvar_fair n w) (λ condvar out k. pends_ready (task.Wake waking n) false refl k)

  pub falls_asleep_keeping : (locking : Locking) (n m : ℕ) (value : D) (w : World D) → Fairly (PassingBut m w) (falls_asleep locking n m value w)
  falls_asleep_keeping locking n m value w =
      answer_fairly (PassingBut m w) (a_condvar n w) _ (condvar_fair n w) (λ condvar. check_fairly (PassingBut m w) (nat_lt (length condvar.waiters.items) MAX_THREADS) Misuse _ misuse (λ e.
      let queued = with_waiters n (condvar.waiters.items ++ w.active ∷ []) w in
      then_fairly (OnwardBut m queued) (PassingBut m w) (frees m value queued) _ (frees_keeping m value queued)
      (λ freed onward out other k. rests_ready Sleeping (task.Relock locking m) refl (onward out other (set_keeping w n _ tt out k)))))

  pub relocks_keeping : (locking : Locking) (m : ℕ) (w : World D) → Keeping w (relocks locking m w)
  relocks_keeping locking m w = λ out k. pends_ready (task.Lock locking m) (is_locked (a_mutex m w)) refl k

  rouses_kept : (threads : List ℕ) (w : World D) (out : Aim) → Ready out w → Ready out (rouses_all threads w)
  rouses_kept [] w out k = k
  rouses_kept (t ∷ threads) w out k = rouses_kept threads (rouses t w) out (changed_ready running t (λ thread m e. e) k)

  pub wakes_keeping : (waking : Wakes) (n : ℕ) (w : World D) → Keeping w (wakes waking n w)
  wakes_keeping waking n w =
      fair_keeping (a_condvar n w) _ w (condvar_fair n w) (λ condvar out k.
      rouses_kept (woken_by waking condvar.waiters.items) (with_waiters n (left_by waking condvar.waiters.items) w) out (set_keeping w n _ tt out k))

  pub condvar_begins_entering : (todo : CondvarOp D) (w : World D) → Fairly (Entering (returned_by_condvar todo) w) (condvar_begins todo w)
  condvar_begins_entering condvar_op.New w = λ out other k. (new_keeping w _ tt out k, λ n e. absurd (cc e))
  condvar_begins_entering (condvar_op.Wait n m value) w = wait_entering Untimed n m value w
  condvar_begins_entering (condvar_op.WaitTimeout n m value) w = wait_entering Timed n m value w
  condvar_begins_entering (condvar_op.NotifyOne n) w = enters w None _ (wake_begins_keeping One n w) (wake_begins_quiet One n w)
  condvar_begins_entering (condvar_op.NotifyAll n) w = enters w None _ (wake_begins_keeping All n w) (wake_begins_quiet All n w)

  wait_unswitched : (locking : Locking) (n m : ℕ) (value : D) (w : World D) → Answers Unswitched (condvars.wait_begins locking n m value w)
  wait_unswitched locking n m value w = unswitched (a_condvar n w) _ (λ condvar. unswitched (a_mutex m w) _ (λ mutex. unswitched (check (is_number mutex.holder w.active) Misuse) _ (λ u. tt)))

  pub condvar_unswitched : (todo : CondvarOp D) (w : World D) → Answers Unswitched (condvar_begins todo w)
  condvar_unswitched condvar_op.New w = tt
  condvar_unswitched (condvar_op.Wait n m value) w = wait_unswitched Untimed n m value w
  condvar_unswitched (condvar_op.WaitTimeout n m value) w = wait_unswitched Timed n m value w
  condvar_unswitched (condvar_op.NotifyOne n) w = unswitched (a_condvar n w) _ (λ condvar. tt)
  condvar_unswitched (condvar_op.NotifyAll n) w = unswitched (a_condvar n w) _ (λ condvar. tt)
