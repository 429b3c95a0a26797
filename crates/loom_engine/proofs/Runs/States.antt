-- What holds in each state of the machine: locks are sound, who is about to wait on a condition variable holds the mutex, and a
-- lock whose data is out keeps none.
use Rattle.std.proofs.Common.{◌≡◌, ℕ, zero, suc, Bool, true, false, List, [], ◌∷◌, ◌++◌, Option, Some, None, refl, ap, subst, sym}
use Rattle.std.specs.Prelude.{cond, is_none, map, slice_get, slice_set}
use Rattle.loom_objects.specs.declared.operation.Reply.{Reply}
use Rattle.loom_objects.specs.declared.operation.Turn.{Turn}
use Rattle.loom_objects.specs.declared.operation.Turn.TheVariants as turn
use Rattle.loom_objects.specs.declared.rt.object.Object.{Object}
use Rattle.loom_objects.specs.declared.rt.object.Object.TheVariants as object
use Rattle.loom_objects.specs.declared.rt.mutex.Mutex.{Mutex}
use Rattle.loom_objects.specs.declared.rt.rwlock.RwLock.{RwLock}
use Rattle.loom_objects.specs.declared.rt.thread.State.{State}
use Rattle.loom_objects.specs.declared.rt.thread.Task.{Task}
use Rattle.loom_objects.specs.declared.rt.thread.Task.TheVariants as task
use Rattle.loom_objects.specs.declared.rt.thread.Thread.{Thread}
use Rattle.loom_objects.specs.Rules.Moves.{changed_at, with_thread, pending, resting, pending_with, receiving_with, writing_with, is_number, pends, received_from, target, with_active, written}
use Rattle.loom_objects.specs.Lent.{value_in}
use Rattle.loom_objects.specs.Rules.Mutex.{free_value, with_mutex}
use Rattle.loom_objects.specs.Rules.RwLock.{with_rwlock}
use Rattle.loom_objects.specs.Schedule.Offers.{all_run, runs_again}
use Rattle.loom_objects.specs.World.{World}
use Rattle.loom_engine.specs.Runs.Histories.{locked_by}
use Rattle.loom_engine.proofs.Runs.Keeping.{AreSound, IsSoundLock, IsSoundMutex, IsSoundRwLock, set_sound, more_sound}

-- What is followed: that locks are sound; who holds mutexes, too; and that the data of this lock is out, as well.
pub data Aim : Type 0 where
  Soundness Holding : Aim
  Out : ℕ → Aim

-- it is followed who holds mutexes
abbrev pub Follows : Aim → Type 0
Follows Soundness = ⊥
Follows Holding = Unit {0}
Follows (Out n) = Unit {0}

module _ {D : Type 0} where
  -- the mutex that a thread gives free once it is chosen: it is about to wait on a condition variable
  abbrev pub freed_by : Task D → Option ℕ
  freed_by (task.Wait locking n m value) = Some m
  freed_by _ = None

  abbrev pub freed_at : Option (Thread D) → Option ℕ
  freed_at None = None
  freed_at (Some thread) = freed_by thread.task

  -- an object is there, and this holds of it
  abbrev pub ObjectAt : (Object D → Type 0) → Option (Object D) → Type 0
  ObjectAt P None = ⊥
  ObjectAt P (Some x) = P x

  -- the thread holds it if it is a mutex, and it is no read-write lock
  abbrev pub IsHeldBy : ℕ → Object D → Type 0
  IsHeldBy t (object.Mutex mutex) = mutex.holder ≡ Some t
  IsHeldBy t (object.RwLock lock) = ⊥
  IsHeldBy t _ = Unit {0}

  -- it keeps no data if it is a lock
  abbrev pub IsEmpty : Object D → Type 0
  IsEmpty (object.Mutex mutex) = mutex.content.value ≡ None
  IsEmpty (object.RwLock lock) = lock.content.value ≡ None
  IsEmpty _ = Unit {0}

  -- In a state: locks are sound, and who is about to wait holds the mutex. A lock that is followed as out keeps no data, and no
  -- thread is about to give it free.
  pub record IsKept (out : Aim) (objects : List (Object D)) (threads : List (Thread D)) : Type 0 where
    pub sound : AreSound objects
    pub held : Follows out → (t m : ℕ) → freed_at (slice_get threads t) ≡ Some m → ObjectAt (IsHeldBy t) (slice_get objects m)
    pub empty : (n : ℕ) → out ≡ Out n → ObjectAt IsEmpty (slice_get objects n)
    pub unfreed : (t n : ℕ) → out ≡ Out n → freed_at (slice_get threads t) ≡ Some n → ⊥

  -- and the active thread isn't about to wait
  pub record IsReady (out : Aim) (objects : List (Object D)) (threads : List (Thread D)) (active : ℕ) : Type 0 where
    pub kept : IsKept out objects threads
    pub idle : Follows out → (m : ℕ) → freed_at (slice_get threads active) ≡ Some m → ⊥

  abbrev pub Kept : Aim → World D → Type 0
  Kept out w = IsKept out w.objects w.threads

  abbrev pub Ready : Aim → World D → Type 0
  Ready out w = IsReady out w.objects w.threads w.active

  -- the lock was not the one that was out, and is now
  abbrev pub Taken : Aim → ℕ → World D → Type 0
  Taken out n w = Follows out → (out ≡ Out n → ⊥) × Ready (Out n) w

  -- a thread has its turn: if it is given the data of a mutex, that is out from now on
  abbrev pub TurnTo : Aim → Turn D × World D → Type 0
  TurnTo out (turn.Reply t reply, w) = Ready out w × ((n : ℕ) → locked_by reply ≡ Some n → Taken out n w)
  TurnTo out (turn.Start t, w) = Ready out w
  TurnTo out (turn.Ended value, w) = Kept out w

  -- the same of a reply
  abbrev pub Told : Aim → Reply D × World D → Type 0
  Told out (reply, w) = Ready out w × ((n : ℕ) → locked_by reply ≡ Some n → Taken out n w)

  -- ---- threads

  -- no thread is about to wait that wasn't before
  abbrev pub NoneWaitsAnew : List (Thread D) → List (Thread D) → Type 0
  NoneWaitsAnew threads later = (t m : ℕ) → freed_at (slice_get later t) ≡ Some m → freed_at (slice_get threads t) ≡ Some m

  abbrev pub StaysOff : (Thread D → Thread D) → Type 0
  StaysOff change = (thread : Thread D) (m : ℕ) → freed_by (change thread).task ≡ Some m → freed_by thread.task ≡ Some m

  pub kept_by_threads : {out : Aim} {objects : List (Object D)} {threads : List (Thread D)} (later : List (Thread D)) → NoneWaitsAnew threads later → IsKept out objects threads → IsKept out objects later
  kept_by_threads later fewer k = record {
    sound = k.sound;
    held = λ f t m e. k.held f t m (fewer t m e);
    empty = k.empty;
    unfreed = λ t n e f. k.unfreed t n e (fewer t n f);
  }

  pub ready_by_threads : {out : Aim} {objects : List (Object D)} {threads : List (Thread D)} {active : ℕ} (later : List (Thread D)) → NoneWaitsAnew threads later
      → IsReady out objects threads active → IsReady out objects later active
  ready_by_threads {active = active} later fewer k = record { kept = kept_by_threads later fewer k.kept; idle = λ f m e. k.idle f m (fewer active m e) }

  -- what holds of each thread and the mutex that it is about to give free holds so where one thread is another
  pub set_waiting : (P : ℕ → ℕ → Type 0) (threads : List (Thread D)) (t : ℕ) (thread : Thread D) → ((m : ℕ) → freed_by thread.task ≡ Some m → P t m)
      → ((u m : ℕ) → freed_at (slice_get threads u) ≡ Some m → P u m) → (u m : ℕ) → freed_at (slice_get (slice_set threads t thread) u) ≡ Some m → P u m
  set_waiting P [] t thread h old u m e = old u m e
  set_waiting P (x ∷ threads) zero thread h old zero m e = h m e
  set_waiting P (x ∷ threads) zero thread h old (suc u) m e = old (suc u) m e
  set_waiting P (x ∷ threads) (suc t) thread h old zero m e = old zero m e
  set_waiting P (x ∷ threads) (suc t) thread h old (suc u) m e = set_waiting (λ v. P (suc v)) threads t thread h (λ v. old (suc v)) u m e

  -- a thread that has become so isn't about to wait
  pub set_idle : (threads : List (Thread D)) (t : ℕ) (thread : Thread D) → freed_by thread.task ≡ None → (m : ℕ) → freed_at (slice_get (slice_set threads t thread) t) ≡ Some m → ⊥
  set_idle [] t thread h m e = cc e
  set_idle (x ∷ threads) zero thread h m e = cc (h, e)
  set_idle (x ∷ threads) (suc t) thread h m e = set_idle threads t thread h m e

  pub set_anew : (threads : List (Thread D)) (t : ℕ) (thread : Thread D) → ((m : ℕ) → freed_by thread.task ≡ Some m → freed_at (slice_get threads t) ≡ Some m) → NoneWaitsAnew threads (slice_set threads t thread)
  set_anew threads t thread h = set_waiting (λ u m. freed_at (slice_get threads u) ≡ Some m) threads t thread h (λ u m e. e)

  pub with_anew : (change : Thread D → Thread D) (t : ℕ) (threads : List (Thread D)) → StaysOff change → NoneWaitsAnew threads (with_thread change t threads)
  with_anew change t threads h = by_thread (slice_get threads t) (λ m e. e)
    where
      by_thread : (o : Option (Thread D)) → ((m : ℕ) → freed_at o ≡ Some m → freed_at (slice_get threads t) ≡ Some m) → NoneWaitsAnew threads (changed_at change t o threads)
      by_thread None found = λ u m e. e
      by_thread (Some thread) found = set_anew threads t (change thread) (λ m e. found m (h thread m e))

  pub map_anew : (change : Thread D → Thread D) (threads : List (Thread D)) → StaysOff change → NoneWaitsAnew threads (map change threads)
  map_anew change [] h t m e = e
  map_anew change (x ∷ threads) h zero m e = h x m e
  map_anew change (x ∷ threads) h (suc t) m e = map_anew change threads h t m e

  pub more_anew : (threads : List (Thread D)) (child : Thread D) → freed_by child.task ≡ None → NoneWaitsAnew threads (threads ++ child ∷ [])
  more_anew [] child h zero m e = absurd (cc (h, e))
  more_anew [] child h (suc t) m e = e
  more_anew (x ∷ threads) child h zero m e = e
  more_anew (x ∷ threads) child h (suc t) m e = more_anew threads child h t m e

  state_off : (is_pending : Bool) (state : State) (thread : Thread D) (m : ℕ) → freed_by (cond is_pending (record thread { state = state }) thread).task ≡ Some m → freed_by thread.task ≡ Some m
  state_off true state thread m e = e
  state_off false state thread m e = e

  -- the active thread, or another one, is changed so, and isn't about to wait by that
  pub changed_ready : {out : Aim} {objects : List (Object D)} {threads : List (Thread D)} {active : ℕ} (change : Thread D → Thread D) (t : ℕ) → StaysOff change
      → IsReady out objects threads active → IsReady out objects (with_thread change t threads) active
  changed_ready {threads = threads} change t h k = ready_by_threads _ (with_anew change t threads h) k

  -- it reaches a branch point, and then isn't to wait
  pub pends_ready : {out : Aim} {objects : List (Object D)} {threads : List (Thread D)} {active : ℕ} (todo : Task D) (is_blocked : Bool) → freed_by todo ≡ None
      → IsReady out objects threads active → IsReady out objects (with_thread (pending todo is_blocked) active threads) active
  pends_ready {active = active} todo is_blocked h k = changed_ready (pending todo is_blocked) active (λ thread m e. absurd (cc (h, e))) k

  pub rests_ready : {out : Aim} {objects : List (Object D)} {threads : List (Thread D)} {active : ℕ} (state : State) (todo : Task D) → freed_by todo ≡ None
      → IsReady out objects threads active → IsReady out objects (with_thread (resting state todo) active threads) active
  rests_ready {active = active} state todo h k = changed_ready (resting state todo) active (λ thread m e. absurd (cc (h, e))) k

  -- who is pending on an object gets a state
  pub pending_ready : {out : Aim} {objects : List (Object D)} {threads : List (Thread D)} {active : ℕ} (n : ℕ) (state : State)
      → IsReady out objects threads active → IsReady out objects (map (pending_with n state) threads) active
  pending_ready {threads = threads} n state k =
      ready_by_threads _ (map_anew (pending_with n state) threads (λ thread m e. state_off (is_number (target thread.task) n) state thread m e)) k

  pub writing_ready : {out : Aim} {objects : List (Object D)} {threads : List (Thread D)} {active : ℕ} (n : ℕ) (state : State)
      → IsReady out objects threads active → IsReady out objects (map (writing_with n state) threads) active
  writing_ready {threads = threads} n state k =
      ready_by_threads _ (map_anew (writing_with n state) threads (λ thread m e. state_off (is_number (written thread.task) n) state thread m e)) k

  pub receiving_ready : {out : Aim} {objects : List (Object D)} {threads : List (Thread D)} {active : ℕ} (n : ℕ) (state : State)
      → IsReady out objects threads active → IsReady out objects (map (receiving_with n state) threads) active
  receiving_ready {threads = threads} n state k =
      ready_by_threads _ (map_anew (receiving_with n state) threads (λ thread m e. state_off (is_number (received_from thread.task) n) state thread m e)) k

  -- the active thread is about to wait, and holds a mutex that isn't followed
  pub waits_kept : (out : Aim) (m : ℕ) (todo : Task D) (is_blocked : Bool) (w : World D) → freed_by todo ≡ Some m → (out ≡ Out m → ⊥) → ObjectAt (IsHeldBy w.active) (slice_get w.objects m)
      → Ready out w → Kept out (pends todo is_blocked w)
  waits_kept out m todo is_blocked w frees other holds k = record {
    sound = k.kept.sound;
    held = λ f. waiting_so (λ t i. ObjectAt (IsHeldBy t) (slice_get w.objects i)) holds (k.kept.held f);
    empty = k.kept.empty;
    unfreed = λ t n e f. waiting_so (λ u i. out ≡ Out i → ⊥) other (λ u i g h. k.kept.unfreed u i h g) t n f e;
  }
    where
      waiting_so : (P : ℕ → ℕ → Type 0) → P w.active m → ((t i : ℕ) → freed_at (slice_get w.threads t) ≡ Some i → P t i)
          → (t i : ℕ) → freed_at (slice_get (pends todo is_blocked w).threads t) ≡ Some i → P t i
      waiting_so P here old = by_thread (slice_get w.threads w.active)
        where
          by_thread : (o : Option (Thread D)) → (t i : ℕ) → freed_at (slice_get (changed_at (pending todo is_blocked) w.active o w.threads) t) ≡ Some i → P t i
          by_thread None = old
          by_thread (Some thread) = set_waiting P w.threads w.active (pending todo is_blocked thread) (λ i e. let same : m ≡ i = cc (frees, e) in subst (P w.active) same here) old

  -- ---- objects

  set_at : (P : Object D → Type 0) (objects : List (Object D)) (n m : ℕ) (x : Object D) → (n ≡ m → P x) → ObjectAt P (slice_get objects m) → ObjectAt P (slice_get (slice_set objects n x) m)
  set_at P [] n m x h p = p
  set_at P (y ∷ objects) zero zero x h p = h refl
  set_at P (y ∷ objects) zero (suc m) x h p = p
  set_at P (y ∷ objects) (suc n) zero x h p = p
  set_at P (y ∷ objects) (suc n) (suc m) x h p = set_at P objects n m x (λ e. h (ap suc e)) p

  set_here : (P Q : Object D → Type 0) (objects : List (Object D)) (n : ℕ) (x : Object D) → P x → ObjectAt Q (slice_get objects n) → ObjectAt P (slice_get (slice_set objects n x) n)
  set_here P Q [] n x h q = absurd q
  set_here P Q (y ∷ objects) zero x h q = h
  set_here P Q (y ∷ objects) (suc n) x h q = set_here P Q objects n x h q

  more_at : (P : Object D → Type 0) (objects : List (Object D)) (m : ℕ) (x : Object D) → ObjectAt P (slice_get objects m) → ObjectAt P (slice_get (objects ++ x ∷ []) m)
  more_at P [] m x p = absurd p
  more_at P (y ∷ objects) zero x p = p
  more_at P (y ∷ objects) (suc m) x p = more_at P objects m x p

  -- it is no lock
  abbrev pub IsSettled : Object D → Type 0
  IsSettled (object.Mutex mutex) = ⊥
  IsSettled (object.RwLock lock) = ⊥
  IsSettled _ = Unit {0}

  settled_sound : (x : Object D) → IsSettled x → IsSoundLock x
  settled_sound (object.Mutex mutex) s = absurd s
  settled_sound (object.RwLock lock) s = absurd s
  settled_sound _ s = tt

  settled_held : (t : ℕ) (x : Object D) → IsSettled x → IsHeldBy t x
  settled_held t (object.Mutex mutex) s = absurd s
  settled_held t (object.RwLock lock) s = absurd s
  settled_held t _ s = tt

  settled_empty : (x : Object D) → IsSettled x → IsEmpty x
  settled_empty (object.Mutex mutex) s = absurd s
  settled_empty (object.RwLock lock) s = absurd s
  settled_empty _ s = tt

  -- of the object that is there
  pub holds_there : (P : Object D → Type 0) (objects : List (Object D)) (n : ℕ) (x : Object D) → slice_get objects n ≡ Some x → ObjectAt P (slice_get objects n) → P x
  holds_there P objects n x e p = subst (ObjectAt P) e p

  module _ {out : Aim} {objects : List (Object D)} {threads : List (Thread D)} {active : ℕ} where
    pub set_ready : (n : ℕ) (x : Object D) → IsSettled x → IsReady out objects threads active → IsReady out (slice_set objects n x) threads active
    set_ready n x s k = record {
      kept = record {
        sound = set_sound objects n x k.kept.sound (settled_sound x s);
        held = λ f t m e. set_at (IsHeldBy t) objects n m x (λ g. settled_held t x s) (k.kept.held f t m e);
        empty = λ m e. set_at IsEmpty objects n m x (λ f. settled_empty x s) (k.kept.empty m e);
        unfreed = k.kept.unfreed;
      };
      idle = k.idle;
    }

    pub more_ready : (x : Object D) → IsSoundLock x → IsReady out objects threads active → IsReady out (objects ++ x ∷ []) threads active
    more_ready x s k = record {
      kept = record {
        sound = more_sound objects x k.kept.sound s;
        held = λ f t m e. more_at (IsHeldBy t) objects m x (k.kept.held f t m e);
        empty = λ m e. more_at IsEmpty objects m x (k.kept.empty m e);
        unfreed = k.kept.unfreed;
      };
      idle = k.idle;
    }

    -- a mutex of this number: one that is out keeps no data, and who is about to wait for it holds it
    pub mutex_ready : (n : ℕ) (mutex : Mutex D) → IsSoundMutex mutex → (out ≡ Out n → IsEmpty (object.Mutex mutex)) → (Follows out → (t : ℕ) → freed_at (slice_get threads t) ≡ Some n → IsHeldBy t (object.Mutex mutex))
        → IsReady out objects threads active → IsReady out (slice_set objects n (object.Mutex mutex)) threads active
    mutex_ready n mutex s is_empty is_held k = record {
      kept = record {
        sound = set_sound objects n (object.Mutex mutex) k.kept.sound s;
        held = λ f t m e. set_at (IsHeldBy t) objects n m (object.Mutex mutex) (λ g. is_held f t (cc (e, g))) (k.kept.held f t m e);
        empty = λ m e. set_at IsEmpty objects n m (object.Mutex mutex) (λ f. is_empty (cc (e, f))) (k.kept.empty m e);
        unfreed = k.kept.unfreed;
      };
      idle = k.idle;
    }

    -- a read-write lock in the place of one, which nobody is about to give free as a mutex: one that is out keeps no data
    pub rwlock_ready : (n : ℕ) (before lock : RwLock D) → slice_get objects n ≡ Some (object.RwLock before) → IsSoundRwLock lock → (out ≡ Out n → IsEmpty (object.RwLock lock))
        → IsReady out objects threads active → IsReady out (slice_set objects n (object.RwLock lock)) threads active
    rwlock_ready n before lock there s is_empty k = record {
      kept = record {
        sound = set_sound objects n (object.RwLock lock) k.kept.sound s;
        held = λ f t m e. set_at (IsHeldBy t) objects n m (object.RwLock lock) (λ g. holds_there (IsHeldBy t) objects n (object.RwLock before) there (k.kept.held f t n (cc (e, g)))) (k.kept.held f t m e);
        empty = λ m e. set_at IsEmpty objects n m (object.RwLock lock) (λ f. is_empty (cc (e, f))) (k.kept.empty m e);
        unfreed = k.kept.unfreed;
      };
      idle = k.idle;
    }

  -- another lock is followed: it keeps no data, and nobody is about to give it free
  follows : {out : Aim} {objects : List (Object D)} {threads : List (Thread D)} {active : ℕ} (n : ℕ) → ObjectAt IsEmpty (slice_get objects n)
      → ((t : ℕ) → freed_at (slice_get threads t) ≡ Some n → ⊥) → Follows out → IsReady out objects threads active → IsReady (Out n) objects threads active
  follows {objects = objects} {threads = threads} n is_empty unfreed following k = record {
    kept = record {
      sound = k.kept.sound;
      held = λ f. k.kept.held following;
      empty = λ m e. let same : n ≡ m = cc e in subst (λ i. ObjectAt IsEmpty (slice_get objects i)) same is_empty;
      unfreed = λ t m e f. unfreed t (cc (e, f));
    };
    idle = λ f. k.idle following;
  }

  -- data that is free is in, and nobody holds it
  free_unheld : (is_taken : Bool) (holder : Option ℕ) (inside : Option D) (value : D) (t : ℕ) → cond (is_none holder) (cond is_taken None inside) None ≡ Some value → holder ≡ Some t → ⊥
  free_unheld is_taken None inside value t h e = cc e
  free_unheld is_taken (Some u) inside value t h e = cc h

  free_inside : (is_taken : Bool) (holder : Option ℕ) (inside : Option D) (value : D) → cond (is_none holder) (cond is_taken None inside) None ≡ Some value → inside ≡ None → ⊥
  free_inside is_taken (Some u) inside value h e = cc h
  free_inside true None inside value h e = cc h
  free_inside false None inside value h e = cc (h, e)

  -- the free data of a mutex is taken out of it
  pub taken_out : (out : Aim) (n : ℕ) (w : World D) (mutex left : Mutex D) (value : D) → slice_get w.objects n ≡ Some (object.Mutex mutex) → free_value mutex ≡ Some value
      → IsSoundMutex left → IsEmpty (object.Mutex left) → Ready out w → Ready out (with_mutex n left w) × Taken out n (with_mutex n left w)
  taken_out out n w mutex left value there free s is_empty k =
      let unfreed : Follows out → (t : ℕ) → freed_at (slice_get w.threads t) ≡ Some n → ⊥ =
      λ f t h. free_unheld mutex.content.is_taken mutex.holder mutex.content.value value t free (holds_there (IsHeldBy t) w.objects n (object.Mutex mutex) there (k.kept.held f t n h)) in
      let after : Ready out (with_mutex n left w) = mutex_ready n left s (λ h. is_empty) (λ f t h. absurd (unfreed f t h)) k in
      let here : ObjectAt IsEmpty (slice_get (with_mutex n left w).objects n) =
      set_here IsEmpty (λ (x : Object D). Unit {0}) w.objects n (object.Mutex left) is_empty (subst (ObjectAt (λ (x : Object D). Unit {0})) (sym there) tt) in
      (after, λ f. ((λ h. free_inside mutex.content.is_taken mutex.holder mutex.content.value value free (holds_there IsEmpty w.objects n (object.Mutex mutex) there (k.kept.empty n h))), follows n here (unfreed f) f after))

  -- data that is in
  value_inside : (is_taken : Bool) (inside : Option D) (value : D) → cond is_taken None inside ≡ Some value → inside ≡ None → ⊥
  value_inside true inside value h e = cc h
  value_inside false inside value h e = cc (h, e)

  -- the data of a read-write lock is taken out of it
  pub written_out : (out : Aim) (n : ℕ) (w : World D) (lock left : RwLock D) (value : D) → slice_get w.objects n ≡ Some (object.RwLock lock) → value_in lock.content ≡ Some value
      → IsSoundRwLock left → IsEmpty (object.RwLock left) → Ready out w → Ready out (with_rwlock n left w) × Taken out n (with_rwlock n left w)
  written_out out n w lock left value there inside s is_empty k =
      let unfreed : Follows out → (t : ℕ) → freed_at (slice_get w.threads t) ≡ Some n → ⊥ = λ f t h. holds_there (IsHeldBy t) w.objects n (object.RwLock lock) there (k.kept.held f t n h) in
      let after : Ready out (with_rwlock n left w) = rwlock_ready n lock left there s (λ h. is_empty) k in
      let here : ObjectAt IsEmpty (slice_get (with_rwlock n left w).objects n) =
      set_here IsEmpty (λ (x : Object D). Unit {0}) w.objects n (object.RwLock left) is_empty (subst (ObjectAt (λ (x : Object D). Unit {0})) (sym there) tt) in
      (after, λ f. ((λ h. value_inside lock.content.is_taken lock.content.value value inside (holds_there IsEmpty w.objects n (object.RwLock lock) there (k.kept.empty n h))), follows n here (unfreed f) f after))

  -- ---- a thread that is chosen

  -- the state in which this thread, of this number, has its turn
  abbrev pub chosen_in : ℕ → Thread D → World D → World D
  chosen_in t thread w = with_active (record thread { task = task.Body }) (all_run (record w { active = t }))

  pub chosen_ready : {out : Aim} (t : ℕ) (thread : Thread D) (w : World D) → Kept out w → Ready out (chosen_in t thread w)
  chosen_ready t thread w k =
      let running = map runs_again w.threads in
      let body = record thread { task = task.Body } in
      let fewer : NoneWaitsAnew w.threads (slice_set running t body) =
      λ u m e. map_anew runs_again w.threads (λ other i f. f) u m (set_anew running t body (λ i f. absurd (cc f)) u m e) in
      record { kept = kept_by_threads _ fewer k; idle = λ f. set_idle running t body refl }
