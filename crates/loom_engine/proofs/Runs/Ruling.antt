-- What each rule keeps, from each state of the machine: sound locks stay sound, and it fails by itself.
use Rattle.std.proofs.Common.{◌≡◌, ℕ, Bool, Option, Some, None, refl}
use Rattle.std.specs.Prelude.{true, false, cond, slice_get, Result, Ok, Err, ⊤}
use Rattle.loom_views.specs.declared.rt.failure.FailureKind.{FailureKind}
use Rattle.loom_views.specs.declared.rt.failure.FailureKind.TheVariants.{Misuse}
use Rattle.loom_objects.specs.declared.operation.Reply.{Reply}
use Rattle.loom_objects.specs.declared.rt.object.Object.{Object}
use Rattle.loom_objects.specs.declared.rt.object.Object.TheVariants as object
use Rattle.loom_objects.specs.declared.rt.mutex.Mutex.{Mutex}
use Rattle.loom_objects.specs.declared.rt.rwlock.RwLock.{RwLock}
use Rattle.loom_objects.specs.declared.rt.run.Entry.{Entry}
use Rattle.loom_objects.specs.declared.rt.run.Entry.TheVariants.{Answered, AtBranch, Explores, Spurious as AtSpurious}
use Rattle.loom_objects.specs.declared.rt.run.Passed.{Passed}
use Rattle.loom_objects.specs.declared.rt.run.Passed.TheVariants as passed
use Rattle.loom_objects.specs.declared.rt.run.Resumed.{Resumed}
use Rattle.loom_objects.specs.declared.rt.run.Resumed.TheVariants as resumed
use Rattle.loom_objects.specs.Scene.Lookup.{looked_up, atomic_in, mutex_in, rwlock_in, condvar_in, notify_in, cell_in, arc_in, track_in, channel_in, wakers_in, atomic_waker_in}
use Rattle.loom_objects.specs.Rules.Moves.{a_mutex, a_rwlock, an_atomic, a_condvar, a_notify, a_cell, an_arc, a_track, a_channel, a_wakers, an_atomic_waker, with_new, with_object}
use Rattle.loom_objects.specs.Rules.Rule.{◌>>=◌, check, found}
use Rattle.loom_objects.specs.World.{World}
use Rattle.loom_engine.specs.Runs.Histories.{locked_by}
use Rattle.loom_engine.proofs.Runs.Fairness.{AnswersBy, IsFairResult, IsMet, IsOwn, failing_so, own_met}
use Rattle.loom_engine.proofs.Runs.Keeping.{AreSound, SoundAt, IsSoundLock, IsSoundMutex, IsSoundRwLock, get_sound}
use Rattle.loom_engine.proofs.Runs.States.{Aim, IsSettled, Kept, Out, Ready, Taken, Told, TurnTo, more_ready, set_ready}
use Rattle.loom_objects.specs.Rules.Mutex.{lock}

pub misuse : IsOwn Misuse
misuse e = cc

whole_fair : {B : Type 0} (is_taken : Bool) (b : B) → IsFairResult {A = B} (cond is_taken (Err Misuse) (Ok b))
whole_fair true b = misuse
whole_fair false b = tt

-- this holds of what it gives, and it fails by itself
abbrev pub Fairly : {A : Type 0} → (A → Type 0) → Result A FailureKind → Type 0
Fairly P r = AnswersBy IsOwn P r

-- this holds of what it gives, and it doesn't fail because a path isn't met
abbrev pub Freely : {A : Type 0} → (A → Type 0) → Result A FailureKind → Type 0
Freely P r = AnswersBy IsMet P r

pub freely : {A : Type 0} (P : A → Type 0) (r : Result A FailureKind) → Fairly P r → Freely P r
freely P r h = failing_so IsOwn IsMet P r own_met h

pub fair_of : {A : Type 0} (P : A → Type 0) (r : Result A FailureKind) → Fairly P r → IsFairResult r
fair_of P (Ok answered) h = tt
fair_of P (Err kind) h = h

pub check_fairly : {A : Type 0} (P : A → Type 0) (passes : Bool) (kind : FailureKind) (next : ⊤ → Result A FailureKind) → IsOwn kind
    → (passes ≡ true → Fairly P (next tt)) → Fairly P (check passes kind >>= next)
check_fairly P true kind next fair h = h refl
check_fairly P false kind next fair h = fair

pub found_fairly : {A B : Type 0} (P : A → Type 0) (o : Option B) (kind : FailureKind) (next : B → Result A FailureKind) → IsOwn kind
    → ((b : B) → o ≡ Some b → Fairly P (next b)) → Fairly P (found o kind >>= next)
found_fairly P None kind next fair h = fair
found_fairly P (Some b) kind next fair h = h b refl

pub then_fairly : {A B : Type 0} (Q : B → Type 0) (P : A → Type 0) (r : Result B FailureKind) (next : B → Result A FailureKind) → Fairly Q r
    → ((b : B) → Q b → Fairly P (next b)) → Fairly P (r >>= next)
then_fairly Q P (Ok b) next q h = h b q
then_fairly Q P (Err kind) next q h = q

pub answer_fairly : {A B : Type 0} (P : A → Type 0) (r : Result B FailureKind) (next : B → Result A FailureKind) → IsFairResult r
    → ((b : B) → Fairly P (next b)) → Fairly P (r >>= next)
answer_fairly P (Ok b) next fair h = h b
answer_fairly P (Err kind) next fair h = fair

module _ {D : Type 0} where
  -- what holds in a state holds where the rule leads, whichever mutex is followed
  abbrev pub Onward : {A : Type 0} → World D → A × World D → Type 0
  Onward w answered = (out : Aim) → Ready out w → Ready out answered.1

  -- the same unless this mutex is followed as out
  abbrev pub OnwardBut : {A : Type 0} → ℕ → World D → A × World D → Type 0
  OnwardBut m w answered = (out : Aim) → (out ≡ Out m → ⊥) → Ready out w → Ready out answered.1

  -- and if the thread's reply is the data of a mutex, that is out from now on
  abbrev pub Telling : World D → Reply D × World D → Type 0
  Telling w answered = (out : Aim) → Ready out w → Told out answered

  -- the active thread's reply where it has no branch point, or the state in which it reaches one or switches the search
  abbrev pub Entered : Aim → Entry D × World D → Type 0
  Entered out (Answered reply, w) = Told out (reply, w)
  Entered out (AtBranch, w) = Kept out w
  Entered out (AtSpurious n, w) = Ready out w
  Entered out (Explores todo, w) = Ready out w

  -- from a state where it hands an operation over, unless that gives back the mutex that is followed
  abbrev pub Entering : Option ℕ → World D → Entry D × World D → Type 0
  Entering returned w answered = (out : Aim) → ((m : ℕ) → out ≡ Out m → returned ≡ Some m → ⊥) → Ready out w → Entered out answered

  -- the active thread is given the data of this mutex at once, which is out from now on
  abbrev pub Opened : Aim → ℕ → Entry D × World D → Type 0
  Opened out n (Answered reply, w) = (locked_by reply ≡ None) × (Ready out w × Taken out n w)
  Opened out n (AtBranch, w) = ⊥
  Opened out n (AtSpurious m, w) = ⊥
  Opened out n (Explores todo, w) = ⊥

  abbrev pub Opening : ℕ → World D → Entry D × World D → Type 0
  Opening n w answered = (out : Aim) → Ready out w → Opened out n answered

  -- a thread has its turn, or one reaches another branch point
  abbrev pub PassedTo : Aim → Passed D × World D → Type 0
  PassedTo out (passed.Turn turn, w) = TurnTo out (turn, w)
  PassedTo out (passed.AtBranch, w) = Ready out w

  abbrev pub PassingBut : ℕ → World D → Passed D × World D → Type 0
  PassingBut m w answered = (out : Aim) → (out ≡ Out m → ⊥) → Ready out w → PassedTo out answered

  abbrev pub ResumedTo : Aim → Resumed D × World D → Type 0
  ResumedTo out (resumed.Passed passed, w) = PassedTo out (passed, w)
  ResumedTo out (resumed.Load load, w) = Ready out w

  -- what was pending takes effect, unless it gives free the mutex that is followed
  abbrev pub Resuming : Option ℕ → World D → Resumed D × World D → Type 0
  Resuming freed w answered = (out : Aim) → ((m : ℕ) → out ≡ Out m → freed ≡ Some m → ⊥) → Ready out w → ResumedTo out answered

  -- what a rule leads to from this state
  abbrev pub Keeping : {A : Type 0} → World D → Result (A × World D) FailureKind → Type 0
  Keeping w r = Fairly (Onward w) r

  -- it goes on with what is found there
  pub found_keeping : {A B : Type 0} (o : Option B) (kind : FailureKind) (next : B → Result (A × World D) FailureKind) (w : World D) → IsOwn kind
      → ((b : B) → o ≡ Some b → Keeping w (next b)) → Keeping w (found o kind >>= next)
  found_keeping None kind next w fair h = fair
  found_keeping (Some b) kind next w fair h = h b refl

  -- it goes on where the test passes
  pub check_keeping : {A : Type 0} (passes : Bool) (kind : FailureKind) (next : ⊤ → Result (A × World D) FailureKind) (w : World D) → IsOwn kind
      → (passes ≡ true → Keeping w (next tt)) → Keeping w (check passes kind >>= next)
  check_keeping true kind next w fair h = h refl
  check_keeping false kind next w fair h = fair

  -- it goes on with what is answered beside the state
  pub fair_keeping : {A B : Type 0} (r : Result B FailureKind) (next : B → Result (A × World D) FailureKind) (w : World D) → IsFairResult r
      → ((b : B) → Keeping w (next b)) → Keeping w (r >>= next)
  fair_keeping (Ok b) next w fair h = h b
  fair_keeping (Err kind) next w fair h = fair

  pub chained : {A : Type 0} (w v : World D) (r : Result (A × World D) FailureKind) → ((out : Aim) → Ready out w → Ready out v) → Keeping v r → Keeping w r
  chained w v (Ok answered) h kept = λ out k. kept out (h out k)
  chained w v (Err kind) h fair = fair

  -- it goes on from the state that another one leads to
  pub then_keeping : {A B : Type 0} (r : Result (B × World D) FailureKind) (next : B × World D → Result (A × World D) FailureKind) (w : World D) → Keeping w r
      → ((answered : B × World D) → Keeping answered.1 (next answered)) → Keeping w (r >>= next)
  then_keeping (Ok answered) next w kept h = chained w answered.1 (next answered) kept (h answered)
  then_keeping (Err kind) next w fair h = fair

  -- the same of a move that answers nothing
  pub moved_keeping : {A : Type 0} (r : Result (World D) FailureKind) (next : World D → Result (A × World D) FailureKind) (w : World D) → IsFairResult r
      → ((v : World D) → r ≡ Ok v → Keeping w (next v)) → Keeping w (r >>= next)
  moved_keeping (Ok v) next w fair h = h v refl
  moved_keeping (Err kind) next w fair h = fair

  -- ---- objects by their numbers

  pub atomic_fair : (n : ℕ) (w : World D) → IsFairResult (an_atomic n w)
  atomic_fair n w = by_object (slice_get w.objects n)
    where
      by_object : (o : Option (Object D)) → IsFairResult (looked_up atomic_in o)
      by_object None = misuse
      by_object (Some (object.Atomic atomic)) = whole_fair atomic.is_taken atomic
      by_object (Some _) = misuse

  pub condvar_fair : (n : ℕ) (w : World D) → IsFairResult (a_condvar n w)
  condvar_fair n w = by_object (slice_get w.objects n)
    where
      by_object : (o : Option (Object D)) → IsFairResult (looked_up condvar_in o)
      by_object None = misuse
      by_object (Some (object.Condvar condvar)) = tt
      by_object (Some _) = misuse

  pub notifier_fair : (n : ℕ) (w : World D) → IsFairResult (a_notify n w)
  notifier_fair n w = by_object (slice_get w.objects n)
    where
      by_object : (o : Option (Object D)) → IsFairResult (looked_up notify_in o)
      by_object None = misuse
      by_object (Some (object.Notify notifier)) = tt
      by_object (Some _) = misuse

  pub cell_fair : (n : ℕ) (w : World D) → IsFairResult (a_cell n w)
  cell_fair n w = by_object (slice_get w.objects n)
    where
      by_object : (o : Option (Object D)) → IsFairResult (looked_up cell_in o)
      by_object None = misuse
      by_object (Some (object.Cell cell)) = whole_fair cell.content.is_taken cell
      by_object (Some _) = misuse

  pub arc_fair : (n : ℕ) (w : World D) → IsFairResult (an_arc n w)
  arc_fair n w = by_object (slice_get w.objects n)
    where
      by_object : (o : Option (Object D)) → IsFairResult (looked_up arc_in o)
      by_object None = misuse
      by_object (Some (object.Arc arc)) = tt
      by_object (Some _) = misuse

  pub track_fair : (n : ℕ) (w : World D) → IsFairResult (a_track n w)
  track_fair n w = by_object (slice_get w.objects n)
    where
      by_object : (o : Option (Object D)) → IsFairResult (looked_up track_in o)
      by_object None = misuse
      by_object (Some (object.Track track)) = tt
      by_object (Some _) = misuse

  pub channel_fair : (n : ℕ) (w : World D) → IsFairResult (a_channel n w)
  channel_fair n w = by_object (slice_get w.objects n)
    where
      by_object : (o : Option (Object D)) → IsFairResult (looked_up channel_in o)
      by_object None = misuse
      by_object (Some (object.Channel channel)) = tt
      by_object (Some _) = misuse

  pub wakers_fair : (n : ℕ) (w : World D) → IsFairResult (a_wakers n w)
  wakers_fair n w = by_object (slice_get w.objects n)
    where
      by_object : (o : Option (Object D)) → IsFairResult (looked_up wakers_in o)
      by_object None = misuse
      by_object (Some (object.Wakers wakers)) = tt
      by_object (Some _) = misuse

  pub place_fair : (n : ℕ) (w : World D) → IsFairResult (an_atomic_waker n w)
  place_fair n w = by_object (slice_get w.objects n)
    where
      by_object : (o : Option (Object D)) → IsFairResult (looked_up atomic_waker_in o)
      by_object None = misuse
      by_object (Some (object.AtomicWaker place)) = tt
      by_object (Some _) = misuse

  -- the mutex of this number is there, and is a sound one
  pub mutex_fairly : {A : Type 0} (P : A → Type 0) (n : ℕ) (w : World D) (next : Mutex D → Result A FailureKind)
      → ((mutex : Mutex D) → slice_get w.objects n ≡ Some (object.Mutex mutex) → (AreSound w.objects → IsSoundMutex mutex) → Fairly P (next mutex)) → Fairly P (a_mutex n w >>= next)
  mutex_fairly {A} P n w next h = by_object (slice_get w.objects n) refl (get_sound w.objects n)
    where
      by_whole : (is_taken : Bool) (mutex : Mutex D) → slice_get w.objects n ≡ Some (object.Mutex mutex) → (AreSound w.objects → IsSoundMutex mutex) → Fairly P (◌>>=◌ {B = A} (cond is_taken (Err Misuse) (Ok mutex)) next)
      by_whole true mutex e s = misuse
      by_whole false mutex e s = h mutex e s

      by_object : (o : Option (Object D)) → slice_get w.objects n ≡ o → (AreSound w.objects → SoundAt o) → Fairly P (◌>>=◌ {B = A} (looked_up mutex_in o) next)
      by_object None e s = misuse
      by_object (Some (object.Mutex mutex)) e s = by_whole mutex.content.is_taken mutex e s
      by_object (Some _) e s = misuse

  -- the same of a read-write lock
  pub rwlock_fairly : {A : Type 0} (P : A → Type 0) (n : ℕ) (w : World D) (next : RwLock D → Result A FailureKind)
      → ((lock : RwLock D) → slice_get w.objects n ≡ Some (object.RwLock lock) → (AreSound w.objects → IsSoundRwLock lock) → Fairly P (next lock)) → Fairly P (a_rwlock n w >>= next)
  rwlock_fairly {A} P n w next h = by_object (slice_get w.objects n) refl (get_sound w.objects n)
    where
      by_whole : (is_taken : Bool) (lock : RwLock D) → slice_get w.objects n ≡ Some (object.RwLock lock) → (AreSound w.objects → IsSoundRwLock lock) → Fairly P (◌>>=◌ {B = A} (cond is_taken (Err Misuse) (Ok lock)) next)
      by_whole true lock e s = misuse
      by_whole false lock e s = h lock e s

      by_object : (o : Option (Object D)) → slice_get w.objects n ≡ o → (AreSound w.objects → SoundAt o) → Fairly P (◌>>=◌ {B = A} (looked_up rwlock_in o) next)
      by_object None e s = misuse
      by_object (Some (object.RwLock lock)) e s = by_whole lock.content.is_taken lock e s
      by_object (Some _) e s = misuse

  -- an object that is no lock, and a new object
  pub set_keeping : (w : World D) (n : ℕ) (x : Object D) → IsSettled x → (out : Aim) → Ready out w → Ready out (with_object n x w)
  set_keeping w n x s out k = set_ready n x s k

  pub new_keeping : (w : World D) (x : Object D) → IsSoundLock x → (out : Aim) → Ready out w → Ready out (with_new x w)
  new_keeping w x s out k = more_ready x s k
