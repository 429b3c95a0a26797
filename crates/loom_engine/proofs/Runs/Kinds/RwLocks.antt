-- What is done to read-write locks keeps locks sound, and gives the data of one that is out to no thread.
use Rattle.std.proofs.Common.{◌≡◌, ℕ, zero, suc, Bool, List, [], ◌∷◌, Option, Some, None, refl, subst}
use Rattle.std.specs.Prelude.{◌-◌, ◌^◌, ◌||◌, true, false, not, cond, slice_get, nat_lt, is_none, is_some, ◌&&◌}
use Rattle.std.specs.List.{list_all}
use Rattle.std.proofs.Math.Dec.{eqb-suc-zero}
use Rattle.loom_views.specs.declared.rt.failure.FailureKind.TheVariants.{Misuse, TooManySteps}
use Rattle.loom_objects.specs.declared.operation.RwLockOp.{RwLockOp}
use Rattle.loom_objects.specs.declared.operation.RwLockOp.TheVariants as lock_op
use Rattle.loom_objects.specs.declared.rt.rwlock.RwLock.{RwLock}
use Rattle.loom_objects.specs.declared.rt.thread.Claim.{Claim}
use Rattle.loom_objects.specs.declared.rt.thread.Claim.TheVariants.{Read, TryRead, Write, TryWrite}
use Rattle.loom_objects.specs.Rules.Cell.{count_of, is_zero}
use Rattle.loom_objects.specs.Lent.{value_in}
use Rattle.loom_objects.specs.Rules.RwLock.{claims, guards_of, is_held, is_refused, is_unread, read_release, reads_lock, refused, rwlock_begins, rwlock_get_mut, rwlock_into_inner, rwlock_put, takes, takes_unless, unlocked_value, with_one_fewer, with_rwlock, write_release, writes_lock, claim_begins, waits}
use Rattle.loom_objects.specs.Rules.Moves.{acquires, blocks_pending, is_number, wakes_if}
use Rattle.loom_objects.specs.World.{World}
use Rattle.loom_engine.specs.Runs.Histories.{returned_by_rwlock}
use Rattle.loom_engine.proofs.Runs.Keeping.{WritesAlone}
use Rattle.loom_objects.specs.declared.rt.thread.State.TheVariants.{Runnable, Blocked}
use Rattle.loom_objects.specs.declared.rt.thread.Task.TheVariants as task
use Rattle.loom_objects.specs.declared.rt.object.Object.TheVariants as object
use Rattle.loom_objects.specs.Lent.{handed_out, lent_to, taken_apart}
use Rattle.loom_engine.proofs.Runs.Kinds.Mutexes.{opening_enters}
use Rattle.loom_engine.proofs.Runs.Replies.{enters, rwlock_quiet}
use Rattle.loom_engine.proofs.Runs.States.{Aim, IsEmpty, Out, Ready, Taken, holds_there, pending_ready, pends_ready, rwlock_ready, writing_ready, written_out}
use Rattle.loom_engine.proofs.Runs.Ruling.{Entering, Fairly, Keeping, Onward, Opening, Telling, check_fairly, found_fairly, misuse, new_keeping, rwlock_fairly}

-- who has a guard reads
reads_some : (readers : List ℕ) (t : ℕ) → nat_lt 0 (count_of (slice_get readers t)) ≡ true → list_all is_zero readers ≡ true → ⊥
reads_some [] t h i = absurd (cc h)
reads_some (zero ∷ readers) zero h i = absurd (cc h)
reads_some (suc count ∷ readers) zero h i = absurd (cc (i, eqb-suc-zero count))
reads_some (zero ∷ readers) (suc t) h i = reads_some readers t h i
reads_some (suc count ∷ readers) (suc t) h i = absurd (cc (i, eqb-suc-zero count))

module _ {D : Type 0} where
  unwritten : (writer : Option ℕ) (unread : Bool) (value : Option D) (lent : Option ℕ) → is_some writer ≡ false → WritesAlone writer unread value lent
  unwritten None unread value lent h = tt
  unwritten (Some t) unread value lent h = absurd (cc h)

  -- where some read nobody writes
  read_unwritten : (writer : Option ℕ) (unread is_unread : Bool) (value : Option D) (lent : Option ℕ) → (unread ≡ true → ⊥) → WritesAlone writer unread value lent → WritesAlone writer is_unread value lent
  read_unwritten None unread is_unread value lent h s = tt
  read_unwritten (Some t) unread is_unread None None h s = absurd (h s)
  read_unwritten (Some t) unread is_unread None (Some u) h s = absurd s
  read_unwritten (Some t) unread is_unread (Some v) lent h s = absurd s

  -- where nobody holds it a thread may write
  writes_first : (t : ℕ) (writer : Option ℕ) (unread : Bool) (inside : Option D) (lent : Option ℕ) → inside ≡ None → (is_some writer || not unread) ≡ false → is_none lent ≡ true → WritesAlone (Some t) unread inside lent
  writes_first t writer unread (Some v) lent e h i = absurd (cc e)
  writes_first t (Some u) unread None lent e h i = absurd (cc h)
  writes_first t None false None lent e h i = absurd (cc h)
  writes_first t None true None (Some u) e h i = absurd (cc i)
  writes_first t None true None None e h i = refl

  -- nobody writes where data is free
  unlocked_unwritten : (writer : Option ℕ) (unread : Bool) (inside : Option D) (lent : Option ℕ) (value : D) → cond (is_some writer || not unread) None inside ≡ Some value → WritesAlone {D = D} writer unread None lent
  unlocked_unwritten (Some t) unread inside lent value h = absurd (cc h)
  unlocked_unwritten None unread inside lent value h = tt

  -- nor where it is out
  lent_unwritten : (t : ℕ) (writer : Option ℕ) (unread : Bool) (inside : Option D) (lent : Option ℕ) (value : D) → is_number lent t ≡ true → WritesAlone writer unread inside lent → WritesAlone writer unread (Some value) None
  lent_unwritten t writer unread inside None value h s = absurd (cc h)
  lent_unwritten t None unread inside (Some u) value h s = tt
  lent_unwritten t (Some v) unread None (Some u) value h s = absurd s
  lent_unwritten t (Some v) unread (Some inside) (Some u) value h s = absurd s

  -- data of a lock that nobody holds is in
  unlocked_inside : (is_held : Bool) (inside : Option D) (value : D) → cond is_held None inside ≡ Some value → inside ≡ Some value
  unlocked_inside true inside value h = absurd (cc h)
  unlocked_inside false inside value h = h

  -- a lock that is out keeps no data
  still_out : (out : Aim) (n : ℕ) (w : World D) (lock : RwLock D) → slice_get w.objects n ≡ Some (object.RwLock lock) → Ready out w → out ≡ Out n → IsEmpty (object.RwLock lock)
  still_out out n w lock there k o = holds_there IsEmpty w.objects n (object.RwLock lock) there (k.kept.empty n o)

  reads_telling : (n : ℕ) (lock : RwLock D) (w : World D) → slice_get w.objects n ≡ Some (object.RwLock lock) → is_some lock.writer ≡ false → Fairly (Telling w) (reads_lock n lock w)
  reads_telling n lock w there h =
      found_fairly (Telling w) (value_in lock.content) Misuse _ misuse (λ value e. check_fairly (Telling w) (nat_lt (guards_of w.active lock) (2 ^ 64 - 1)) TooManySteps _ (λ f. cc) (λ i out k. (
        writing_ready n Blocked (rwlock_ready n lock _ there (unwritten lock.writer _ lock.content.value lock.content.lent h) (still_out out n w lock there k) k),
        λ m f. absurd (cc f),
      )))

  writes_telling : (n : ℕ) (lock : RwLock D) (w : World D) → slice_get w.objects n ≡ Some (object.RwLock lock) → is_held lock ≡ false → is_none lock.content.lent ≡ true → Fairly (Telling w) (writes_lock n lock w)
  writes_telling n lock w there h i =
      found_fairly (Telling w) (value_in lock.content) Misuse _ misuse (λ value inside out k.
      let left = record lock { writer = Some w.active; content = handed_out lock.content } in
      let taken : Ready out (with_rwlock n left w) × Taken out n (with_rwlock n left w) =
      written_out out n w lock left value there inside (writes_first w.active lock.writer (is_unread lock) None lock.content.lent refl h i) refl k in (
        pending_ready n Blocked taken.0,
        λ m f. let same : n ≡ m = cc f in subst (λ j. Taken out j (blocks_pending n (acquires n (with_rwlock n left w)))) same (λ g. ((taken.1 g).0, pending_ready n Blocked (taken.1 g).1)),
      ))

  takes_telling : (claim : Claim) (n : ℕ) (lock : RwLock D) (w : World D) → slice_get w.objects n ≡ Some (object.RwLock lock) → is_none lock.content.lent ≡ true → is_refused claim lock ≡ false → Fairly (Telling w) (takes claim n lock w)
  takes_telling Read n lock w there i h = reads_telling n lock w there h
  takes_telling TryRead n lock w there i h = reads_telling n lock w there h
  takes_telling Write n lock w there i h = writes_telling n lock w there h i
  takes_telling TryWrite n lock w there i h = writes_telling n lock w there h i

  refused_telling : (claim : Claim) (w : World D) → Fairly (Telling w) (refused claim w)
  refused_telling Read w = misuse
  refused_telling TryRead w = λ out k. (k, λ n e. absurd (cc e))
  refused_telling Write w = misuse
  refused_telling TryWrite w = λ out k. (k, λ n e. absurd (cc e))

  takes_unless_telling : (claim : Claim) (n : ℕ) (lock : RwLock D) (w : World D) → slice_get w.objects n ≡ Some (object.RwLock lock) → is_none lock.content.lent ≡ true
      → (refuses : Bool) → is_refused claim lock ≡ refuses → Fairly (Telling w) (takes_unless refuses claim n lock w)
  takes_unless_telling claim n lock w there i true h = refused_telling claim w
  takes_unless_telling claim n lock w there i false h = takes_telling claim n lock w there i h

  pub claims_telling : (claim : Claim) (n : ℕ) (w : World D) → Fairly (Telling w) (claims claim n w)
  claims_telling claim n w =
      rwlock_fairly (Telling w) n w _ (λ lock there s. check_fairly (Telling w) (is_none lock.content.lent) Misuse _ misuse (λ e. takes_unless_telling claim n lock w there e (is_refused claim lock) refl))

  wakes_if_kept : (is_free : Bool) (n : ℕ) (w : World D) (out : Aim) → Ready out w → Ready out (wakes_if is_free n w)
  wakes_if_kept true n w out k = pending_ready n Runnable k
  wakes_if_kept false n w out k = k

  read_release_keeping : (n : ℕ) (w : World D) → Keeping w (read_release n w)
  read_release_keeping n w =
      rwlock_fairly (Onward w) n w _ (λ lock there s. check_fairly (Onward w) (nat_lt 0 (guards_of w.active lock)) Misuse _ misuse (λ e out k.
      wakes_if_kept (is_unread (with_one_fewer w.active lock)) n _ out (rwlock_ready n lock _ there
      (read_unwritten lock.writer (is_unread lock) _ lock.content.value lock.content.lent (reads_some lock.readers w.active e) (s k.kept.sound)) (still_out out n w lock there k) k)))

  pub get_mut_opening : (n : ℕ) (w : World D) → Fairly (Opening n w) (rwlock_get_mut n w)
  get_mut_opening n w =
      rwlock_fairly (Opening n w) n w _ (λ lock there s. found_fairly (Opening n w) (unlocked_value lock) Misuse _ misuse (λ value e out k. (
        refl,
        written_out out n w lock (record lock { content = lent_to w.active lock.content }) value there (unlocked_inside (is_held lock) (value_in lock.content) value e)
            (unlocked_unwritten lock.writer (is_unread lock) (value_in lock.content) (Some w.active) value e) refl k,
      )))

  put_entering : (n : ℕ) (value : D) (w : World D) → Fairly (Entering (Some n) w) (rwlock_put n value w)
  put_entering n value w =
      rwlock_fairly (Entering (Some n) w) n w _ (λ lock there s. check_fairly (Entering (Some n) w) (is_number lock.content.lent w.active) Misuse _ misuse (λ e out other k. (
        rwlock_ready n lock _ there (lent_unwritten w.active lock.writer (is_unread lock) lock.content.value lock.content.lent value e (s k.kept.sound)) (λ o. absurd (other n o refl)) k,
        λ m i. absurd (cc i),
      )))

  pub into_inner_opening : (n : ℕ) (w : World D) → Fairly (Opening n w) (rwlock_into_inner n w)
  into_inner_opening n w =
      rwlock_fairly (Opening n w) n w _ (λ lock there s. found_fairly (Opening n w) (unlocked_value lock) Misuse _ misuse (λ value e out k. (
        refl,
        written_out out n w lock (record lock { content = taken_apart lock.content }) value there (unlocked_inside (is_held lock) (value_in lock.content) value e)
            (unlocked_unwritten lock.writer (is_unread lock) (value_in lock.content) lock.content.lent value e) refl k,
      )))

  write_release_entering : (n : ℕ) (value : D) (w : World D) → Fairly (Entering (Some n) w) (write_release n value w)
  write_release_entering n value w =
      rwlock_fairly (Entering (Some n) w) n w _ (λ lock there s. check_fairly (Entering (Some n) w) (is_number lock.writer w.active) Misuse _ misuse (λ e out other k. (
        pending_ready n Runnable (rwlock_ready n lock _ there tt (λ o. absurd (other n o refl)) k),
        λ m i. absurd (cc i),
      )))

  claim_keeping : (claim : Claim) (n : ℕ) (w : World D) → Keeping w (claim_begins claim n w)
  claim_keeping claim n w = rwlock_fairly (Onward w) n w _ (λ lock there s out k. pends_ready (task.Claim claim n) (waits claim && is_refused claim lock) refl k)

  -- one that gives no data back
  keeps_on : (todo : RwLockOp D) (w : World D) → Keeping w (rwlock_begins todo w) → Fairly (Entering None w) (rwlock_begins todo w)
  keeps_on todo w kept = enters w None _ kept (rwlock_quiet todo w)

  pub rwlock_begins_entering : (todo : RwLockOp D) (w : World D) → Fairly (Entering (returned_by_rwlock todo) w) (rwlock_begins todo w)
  rwlock_begins_entering (lock_op.New value) w = λ out other k. (new_keeping w _ tt out k, λ m e. absurd (cc e))
  rwlock_begins_entering (lock_op.Read n) w = keeps_on (lock_op.Read n) w (claim_keeping Read n w)
  rwlock_begins_entering (lock_op.TryRead n) w = keeps_on (lock_op.TryRead n) w (claim_keeping TryRead n w)
  rwlock_begins_entering (lock_op.ReadRelease n) w = keeps_on (lock_op.ReadRelease n) w (read_release_keeping n w)
  rwlock_begins_entering (lock_op.Write n) w = keeps_on (lock_op.Write n) w (claim_keeping Write n w)
  rwlock_begins_entering (lock_op.TryWrite n) w = keeps_on (lock_op.TryWrite n) w (claim_keeping TryWrite n w)
  rwlock_begins_entering (lock_op.WriteRelease n value) w = write_release_entering n value w
  rwlock_begins_entering (lock_op.GetMut n) w = opening_enters n w _ (get_mut_opening n w)
  rwlock_begins_entering (lock_op.Put n value) w = put_entering n value w
  rwlock_begins_entering (lock_op.IntoInner n) w = opening_enters n w _ (into_inner_opening n w)
