-- What holds of every value that a tree gives. And sound locks: more than exclusive ones, so that each operation keeps them.
use Rattle.std.proofs.Common.{◌≡◌, ℕ, zero, suc, Bool, true, false, List, [], ◌∷◌, ◌++◌, Option, Some, None, refl, subst}
use Rattle.std.specs.Prelude.{◌&&◌, not, is_some, slice_get, slice_set, ⊤}
use Rattle.std.specs.List.{list_all}
use Rattle.loom_views.specs.declared.rt.failure.FailureKind.{FailureKind}
use Rattle.loom_objects.specs.declared.choice.Choice.{Choice}
use Rattle.loom_objects.specs.declared.rt.object.Object.{Object}
use Rattle.loom_objects.specs.declared.rt.object.Object.TheVariants as object
use Rattle.loom_objects.specs.declared.rt.mutex.Mutex.{Mutex}
use Rattle.loom_objects.specs.declared.rt.rwlock.RwLock.{RwLock}
use Rattle.loom_objects.specs.Tree.Question.{Question}
use Rattle.loom_objects.specs.Rules.RwLock.{is_unread}
use Rattle.loom_objects.specs.Tree.Tree.{Tree, Gives, Fails, Closes, Asks, ◌>>=◌, check, found}
use Rattle.loom_engine.specs.Runs.Histories.{ComesBy, is_exclusive}

-- ---- trees

-- whatever is chosen, this holds of what it gives
pub data Keeps {A : Type 0} (P : A → Type 0) : Tree A → Type 0 where
  gives : (value : A) → P value → Keeps P (Gives value)
  fails : (kind : FailureKind) → Keeps P (Fails kind)
  closes : (rest : Tree A) → Keeps P rest → Keeps P (Closes rest)
  asks : (question : Question) (branches : Choice → Tree A) → ((choice : Choice) → Keeps P (branches choice)) → Keeps P (Asks question branches)

module _ {A : Type 0} {P : A → Type 0} where
  -- so it holds of each value that the tree gives by some choices
  pub kept_value : (tree : Tree A) (choices : List Choice) (a : A) → Keeps P tree → ComesBy tree choices a → P a
  kept_value tree [] a (gives value h) comes = subst P comes h
  kept_value tree (choice ∷ choices) a (gives value h) comes = absurd comes
  kept_value tree choices a (fails kind) comes = absurd comes
  kept_value tree choices a (closes rest h) comes = kept_value rest choices a h comes
  kept_value tree [] a (asks question branches h) comes = absurd comes
  kept_value tree (choice ∷ choices) a (asks question branches h) comes = kept_value (branches choice) choices a (h choice) comes

module _ {A B : Type 0} {P : B → Type 0} where
  pub then_keeps : {Q : A → Type 0} (tree : Tree A) (next : A → Tree B) → Keeps Q tree → ((a : A) → Q a → Keeps P (next a)) → Keeps P (tree >>= next)
  then_keeps tree next (gives a q) h = h a q
  then_keeps tree next (fails kind) h = fails kind
  then_keeps tree next (closes rest k) h = closes _ (then_keeps rest next k h)
  then_keeps tree next (asks question branches k) h = asks question _ (λ choice. then_keeps (branches choice) next (k choice) h)

  pub found_keeps : (o : Option A) (kind : FailureKind) (next : A → Tree B) → ((a : A) → o ≡ Some a → Keeps P (next a)) → Keeps P (found o kind >>= next)
  found_keeps None kind next h = fails kind
  found_keeps (Some a) kind next h = h a refl

pub check_keeps : {B : Type 0} {P : B → Type 0} (passes : Bool) (kind : FailureKind) (next : ⊤ → Tree B) → (passes ≡ true → Keeps P (next tt)) → Keeps P (check passes kind >>= next)
check_keeps true kind next h = h refl
check_keeps false kind next h = fails kind

-- ---- locks

-- of the three one is there at most
abbrev pub OneAtMost : {A B C : Type 0} → Option A → Option B → Option C → Type 0
OneAtMost None None c = Unit {0}
OneAtMost None (Some b) None = Unit {0}
OneAtMost None (Some b) (Some c) = ⊥
OneAtMost (Some a) None None = Unit {0}
OneAtMost (Some a) None (Some c) = ⊥
OneAtMost (Some a) (Some b) c = ⊥

-- who writes is alone: nobody reads, no data is in it, and none is out without being held
abbrev pub WritesAlone : {D : Type 0} → Option ℕ → Bool → Option D → Option ℕ → Type 0
WritesAlone None is_unread value lent = Unit {0}
WritesAlone (Some t) is_unread None None = is_unread ≡ true
WritesAlone (Some t) is_unread None (Some u) = ⊥
WritesAlone (Some t) is_unread (Some v) lent = ⊥

both_true : (b c : Bool) → b ≡ true → c ≡ true → (b && c) ≡ true
both_true b c h i = cc (h, i)

module _ {D : Type 0} where
  abbrev pub IsSoundMutex : Mutex D → Type 0
  IsSoundMutex mutex = OneAtMost mutex.holder mutex.content.value mutex.content.lent

  abbrev pub IsSoundRwLock : RwLock D → Type 0
  IsSoundRwLock lock = WritesAlone lock.writer (is_unread lock) lock.content.value lock.content.lent

  abbrev pub IsSoundLock : Object D → Type 0
  IsSoundLock (object.Mutex mutex) = IsSoundMutex mutex
  IsSoundLock (object.RwLock lock) = IsSoundRwLock lock
  IsSoundLock _ = Unit {0}

  abbrev pub AreSound : List (Object D) → Type 0
  AreSound [] = Unit {0}
  AreSound (x ∷ objects) = IsSoundLock x × AreSound objects

  abbrev pub SoundAt : Option (Object D) → Type 0
  SoundAt None = Unit {0}
  SoundAt (Some x) = IsSoundLock x

  -- ---- in a list

  pub get_sound : (objects : List (Object D)) (n : ℕ) → AreSound objects → SoundAt (slice_get objects n)
  get_sound [] n k = tt
  get_sound (x ∷ objects) zero k = k.0
  get_sound (x ∷ objects) (suc n) k = get_sound objects n k.1

  pub set_sound : (objects : List (Object D)) (n : ℕ) (x : Object D) → AreSound objects → IsSoundLock x → AreSound (slice_set objects n x)
  set_sound [] n x k s = tt
  set_sound (y ∷ objects) zero x k s = (s, k.1)
  set_sound (y ∷ objects) (suc n) x k s = (k.0, set_sound objects n x k.1 s)

  pub more_sound : (objects : List (Object D)) (x : Object D) → AreSound objects → IsSoundLock x → AreSound (objects ++ x ∷ [])
  more_sound [] x k s = (s, tt)
  more_sound (y ∷ objects) x k s = (k.0, more_sound objects x k.1 s)

  -- ---- sound locks are exclusive

  mutex_exclusive : (holder : Option ℕ) (value : Option D) (lent : Option ℕ) → OneAtMost holder value lent → not (is_some holder && is_some value) ≡ true
  mutex_exclusive None value lent s = refl
  mutex_exclusive (Some t) None lent s = refl
  mutex_exclusive (Some t) (Some v) lent s = absurd s

  rwlock_exclusive : (writer : Option ℕ) (unread : Bool) (value : Option D) (lent : Option ℕ)
      → WritesAlone writer unread value lent → (not (is_some writer && not unread) && not (is_some writer && is_some value)) ≡ true
  rwlock_exclusive None unread value lent s = refl
  rwlock_exclusive (Some t) true None lent s = refl
  rwlock_exclusive (Some t) false None None s = absurd (cc s)
  rwlock_exclusive (Some t) false None (Some u) s = absurd s
  rwlock_exclusive (Some t) unread (Some v) lent s = absurd s

  sound_exclusive : (x : Object D) → IsSoundLock x → is_exclusive x ≡ true
  sound_exclusive (object.Mutex mutex) s = mutex_exclusive mutex.holder mutex.content.value mutex.content.lent s
  sound_exclusive (object.RwLock lock) s = rwlock_exclusive lock.writer (is_unread lock) lock.content.value lock.content.lent s
  sound_exclusive _ s = refl

  pub all_exclusive : (objects : List (Object D)) → AreSound objects → list_all is_exclusive objects ≡ true
  all_exclusive [] k = refl
  all_exclusive (x ∷ objects) k = both_true _ _ (sound_exclusive x k.0) (all_exclusive objects k.1)
