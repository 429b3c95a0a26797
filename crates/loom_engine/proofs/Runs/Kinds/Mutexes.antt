-- What is done to mutexes keeps locks sound.
use Rattle.std.proofs.Common.{◌≡◌, ℕ, Bool, Option, Some, None, refl, subst, eqb-true}
use Rattle.std.specs.Prelude.{true, false, cond, slice_get, is_none, is_some, Result, Ok, Err}
use Rattle.loom_views.specs.declared.rt.failure.FailureKind.{FailureKind}
use Rattle.loom_views.specs.declared.rt.failure.FailureKind.TheVariants.{Misuse}
use Rattle.loom_objects.specs.declared.operation.MutexOp.{MutexOp}
use Rattle.loom_objects.specs.declared.operation.MutexOp.TheVariants as mutex_op
use Rattle.loom_objects.specs.declared.rt.object.Object.TheVariants as object
use Rattle.loom_objects.specs.declared.rt.thread.Locking.{Locking}
use Rattle.loom_objects.specs.declared.rt.thread.Locking.TheVariants.{Untimed, Timed}
use Rattle.loom_objects.specs.Lent.{handed_out, lent_to, taken_apart}
use Rattle.loom_objects.specs.Rules.Mutex.{free_value, lock, locks_unless, try_lock, frees, mutex_get_mut, mutex_put, mutex_into_inner, mutex_begins, lock_begins, try_lock_begins, locked_reply, with_mutex}
use Rattle.loom_objects.specs.Rules.Moves.{is_number, blocks_pending, acquires, a_mutex}
use Rattle.loom_objects.specs.World.{World}
use Rattle.loom_engine.proofs.Runs.Keeping.{OneAtMost, IsSoundMutex}
use Rattle.loom_engine.specs.Runs.Histories.{locked_by, returned_by_mutex}
use Rattle.loom_objects.specs.declared.rt.thread.State.TheVariants.{Runnable, Blocked}
use Rattle.loom_objects.specs.declared.rt.thread.Task.TheVariants as task
use Rattle.loom_objects.specs.declared.rt.run.Entry.{Entry}
use Rattle.loom_objects.specs.declared.rt.run.Entry.TheVariants.{Answered, AtBranch, Explores, Spurious as AtSpurious}
use Rattle.loom_engine.proofs.Runs.States.{IsHeldBy, Ready, Taken, freed_at, holds_there, mutex_ready, pending_ready, pends_ready, taken_out}
use Rattle.loom_engine.proofs.Runs.Ruling.{Entering, Fairly, Keeping, Onward, OnwardBut, Opening, Telling, check_fairly, found_fairly, misuse, mutex_fairly, new_keeping, then_fairly}
use Rattle.loom_engine.proofs.Runs.Replies.{after, enters, Unswitched, unswitched}
use Rattle.loom_engine.proofs.Runs.Answering.{Answers}
use Rattle.loom_objects.specs.Rules.Rule.{check, found}

-- who holds what the active thread holds is that thread
held_by_active : (active t : ℕ) (holder : Option ℕ) → is_number holder active ≡ true → holder ≡ Some t → t ≡ active
held_by_active active t None h e = absurd (cc e)
held_by_active active t (Some u) h e = let same : u ≡ active = eqb-true u active h in cc (e, same)

module _ {D : Type 0} where
  -- data that is free is neither held nor out
  free_alone : (F : Option ℕ → Option ℕ → Type 0) (is_taken : Bool) (holder : Option ℕ) (inside : Option D) (lent : Option ℕ) (value : D)
      → cond (is_none holder) (cond is_taken None inside) None ≡ Some value → OneAtMost holder inside lent → F None None → F holder lent
  free_alone F is_taken (Some t) inside lent value h s f = absurd (cc h)
  free_alone F true None inside lent value h s f = absurd (cc h)
  free_alone F false None None lent value h s f = absurd (cc h)
  free_alone F false None (Some v) None value h s f = f
  free_alone F false None (Some v) (Some u) value h s f = absurd s

  -- data that is held isn't out
  held_alone : (t : ℕ) (holder : Option ℕ) (inside : Option D) (lent : Option ℕ) (value : D) → is_number holder t ≡ true → OneAtMost holder inside lent → OneAtMost {A = ℕ} None (Some value) lent
  held_alone t None inside lent value h s = absurd (cc h)
  held_alone t (Some u) None None value h s = tt
  held_alone t (Some u) None (Some v) value h s = absurd s
  held_alone t (Some u) (Some inside) lent value h s = absurd s

  -- data that is out isn't held
  lent_alone : (t : ℕ) (holder : Option ℕ) (inside : Option D) (lent : Option ℕ) (value : D) → is_number lent t ≡ true → OneAtMost holder inside lent → OneAtMost {C = ℕ} holder (Some value) None
  lent_alone t holder inside None value h s = absurd (cc h)
  lent_alone t None inside (Some u) value h s = tt
  lent_alone t (Some v) None (Some u) value h s = absurd s
  lent_alone t (Some v) (Some inside) (Some u) value h s = absurd s

  locked_number : (locking : Locking) (n : ℕ) (value : D) (m : ℕ) → locked_by (locked_reply locking n value) ≡ Some m → n ≡ m
  locked_number Untimed n value m e = cc e
  locked_number Timed n value m e = cc e

  pub lock_telling : (locking : Locking) (n : ℕ) (w : World D) → Fairly (Telling w) (lock locking n w)
  lock_telling locking n w =
      mutex_fairly (Telling w) n w _ (λ mutex there s. found_fairly (Telling w) (free_value mutex) Misuse _ misuse (λ value free out k.
      let left = record mutex { holder = Some w.active; content = handed_out mutex.content } in
      let alone : IsSoundMutex left =
      free_alone (λ holder lent. OneAtMost {B = D} (Some w.active) None lent) mutex.content.is_taken mutex.holder mutex.content.value mutex.content.lent value free (s k.kept.sound) tt in
      let taken : Ready out (with_mutex n left w) × Taken out n (with_mutex n left w) = taken_out out n w mutex left value there free alone refl k in (
        pending_ready n Blocked taken.0,
        λ m e. subst (λ i. Taken out i (blocks_pending n (acquires n (with_mutex n left w)))) (locked_number locking n value m e) (λ f. ((taken.1 f).0, pending_ready n Blocked (taken.1 f).1)),
      )))

  locks_unless_telling : (is_held : Bool) (n : ℕ) (w : World D) → Fairly (Telling w) (locks_unless is_held n w)
  locks_unless_telling true n w = λ out k. (k, λ m e. absurd (cc e))
  locks_unless_telling false n w = lock_telling Untimed n w

  pub try_lock_telling : (n : ℕ) (w : World D) → Fairly (Telling w) (try_lock n w)
  try_lock_telling n w =
      mutex_fairly (Telling w) n w _ (λ mutex there s. check_fairly (Telling w) (is_none mutex.content.lent) Misuse _ misuse (λ e. locks_unless_telling (is_some mutex.holder) n w))

  -- who holds the mutex gives it free, if it isn't the one that is followed
  pub frees_keeping : (n : ℕ) (value : D) (w : World D) → Fairly (OnwardBut n w) (frees n value w)
  frees_keeping n value w =
      mutex_fairly (OnwardBut n w) n w _ (λ mutex there s. check_fairly (OnwardBut n w) (is_number mutex.holder w.active) Misuse _ misuse (λ e out other k.
      pending_ready n Runnable (mutex_ready n _ (held_alone w.active mutex.holder mutex.content.value mutex.content.lent value e (s k.kept.sound)) (λ o. absurd (other o))
      (λ f t h. let same : t ≡ w.active = held_by_active w.active t mutex.holder e (holds_there (IsHeldBy t) w.objects n (object.Mutex mutex) there (k.kept.held f t n h)) in
      absurd (k.idle f n (subst (λ u. freed_at (slice_get w.threads u) ≡ Some n) same h))) k)))

  pub get_mut_opening : (n : ℕ) (w : World D) → Fairly (Opening n w) (mutex_get_mut n w)
  get_mut_opening n w =
      mutex_fairly (Opening n w) n w _ (λ mutex there s. found_fairly (Opening n w) (free_value mutex) Misuse _ misuse (λ value free out k. (
        refl,
        taken_out out n w mutex (record mutex { content = lent_to w.active mutex.content }) value there free
            (free_alone (λ holder lent. OneAtMost {B = D} holder None (Some w.active)) mutex.content.is_taken mutex.holder mutex.content.value mutex.content.lent value free (s k.kept.sound) tt) refl k,
      )))

  put_entering : (n : ℕ) (value : D) (w : World D) → Fairly (Entering (Some n) w) (mutex_put n value w)
  put_entering n value w =
      mutex_fairly (Entering (Some n) w) n w _ (λ mutex there s. check_fairly (Entering (Some n) w) (is_number mutex.content.lent w.active) Misuse _ misuse (λ e out other k. (
        mutex_ready n _ (lent_alone w.active mutex.holder mutex.content.value mutex.content.lent value e (s k.kept.sound)) (λ o. absurd (other n o refl))
            (λ f t h. holds_there (IsHeldBy t) w.objects n (object.Mutex mutex) there (k.kept.held f t n h)) k,
        λ m i. absurd (cc i),
      )))

  pub into_inner_opening : (n : ℕ) (w : World D) → Fairly (Opening n w) (mutex_into_inner n w)
  into_inner_opening n w =
      mutex_fairly (Opening n w) n w _ (λ mutex there s. found_fairly (Opening n w) (free_value mutex) Misuse _ misuse (λ value free out k. (
        refl,
        taken_out out n w mutex (record mutex { content = taken_apart mutex.content }) value there free
            (free_alone (λ holder lent. OneAtMost {B = D} holder None lent) mutex.content.is_taken mutex.holder mutex.content.value mutex.content.lent value free (s k.kept.sound) tt) refl k,
      )))

  lock_begins_keeping : (n : ℕ) (w : World D) → Keeping w (lock_begins n w)
  lock_begins_keeping n w = mutex_fairly (Onward w) n w _ (λ mutex there s out k. pends_ready (task.Lock Untimed n) (is_some mutex.holder) refl k)

  try_lock_begins_keeping : (n : ℕ) (w : World D) → Keeping w (try_lock_begins n w)
  try_lock_begins_keeping n w = mutex_fairly (Onward w) n w _ (λ mutex there s out k. pends_ready (task.TryLock n) false refl k)

  -- data that is taken out at once is in no lock's reply
  pub opening_enters : (n : ℕ) (w : World D) (r : Result (Entry D × World D) FailureKind) → Fairly (Opening n w) r → Fairly (Entering None w) r
  opening_enters n w (Ok (Answered reply, v)) h = λ out other k. ((h out k).1.0, λ m e. absurd (cc ((h out k).0, e)))
  opening_enters n w (Ok (AtBranch, v)) h = λ out other k. absurd (h out k)
  opening_enters n w (Ok (AtSpurious m, v)) h = λ out other k. absurd (h out k)
  opening_enters n w (Ok (Explores todo, v)) h = λ out other k. absurd (h out k)
  opening_enters n w (Err kind) h = h

  pub mutex_begins_entering : (todo : MutexOp D) (w : World D) → Fairly (Entering (returned_by_mutex todo) w) (mutex_begins todo w)
  mutex_begins_entering (mutex_op.New value) w = λ out other k. (new_keeping w _ tt out k, λ m e. absurd (cc e))
  mutex_begins_entering (mutex_op.Lock n) w = enters w None _ (lock_begins_keeping n w) (after (a_mutex n w) _ (λ mutex. tt))
  mutex_begins_entering (mutex_op.TryLock n) w = enters w None _ (try_lock_begins_keeping n w) (after (a_mutex n w) _ (λ mutex. tt))
  mutex_begins_entering (mutex_op.Release n value) w =
      then_fairly (OnwardBut n w) (Entering (Some n) w) (frees n value w) _ (frees_keeping n value w) (λ freed onward out other k. (onward out (λ e. other n e refl) k, λ m e. absurd (cc e)))
  mutex_begins_entering (mutex_op.GetMut n) w = opening_enters n w _ (get_mut_opening n w)
  mutex_begins_entering (mutex_op.Put n value) w = put_entering n value w
  mutex_begins_entering (mutex_op.IntoInner n) w = opening_enters n w _ (into_inner_opening n w)

  pub mutex_unswitched : (todo : MutexOp D) (w : World D) → Answers Unswitched (mutex_begins todo w)
  mutex_unswitched (mutex_op.New value) w = tt
  mutex_unswitched (mutex_op.Lock n) w = unswitched (a_mutex n w) _ (λ mutex. tt)
  mutex_unswitched (mutex_op.TryLock n) w = unswitched (a_mutex n w) _ (λ mutex. tt)
  mutex_unswitched (mutex_op.Release n value) w = unswitched (frees n value w) _ (λ freed. tt)
  mutex_unswitched (mutex_op.GetMut n) w = unswitched (a_mutex n w) _ (λ mutex. unswitched (found (free_value mutex) Misuse) _ (λ value. tt))
  mutex_unswitched (mutex_op.Put n value) w = unswitched (a_mutex n w) _ (λ mutex. unswitched (check (is_number mutex.content.lent w.active) Misuse) _ (λ u. tt))
  mutex_unswitched (mutex_op.IntoInner n) w = unswitched (a_mutex n w) _ (λ mutex. unswitched (found (free_value mutex) Misuse) _ (λ value. tt))
