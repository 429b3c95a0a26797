-- A property of states that moves keep which do nothing to channels, to values that are made once, and to a thread's result.
use Rattle.std.proofs.Common.{◌≡◌, ℕ, zero, suc, Bool, true, false, List, [], ◌∷◌, ◌++◌, map, Option, Some, None, refl}
use Rattle.std.specs.Prelude.{cond, is_some, slice_get, slice_set}
use Rattle.loom_views.specs.Views.{Points}
use Rattle.loom_objects.specs.declared.operation.Message.{Message}
use Rattle.loom_objects.specs.declared.rt.object.Object.{Object}
use Rattle.loom_objects.specs.declared.rt.object.Object.TheVariants as object
use Rattle.loom_objects.specs.declared.rt.thread.State.{State}
use Rattle.loom_objects.specs.declared.rt.thread.State.TheVariants.{Blocked, Ended, Parked, Runnable, Sleeping, Yielding}
use Rattle.loom_objects.specs.declared.rt.thread.Task.{Task}
use Rattle.loom_objects.specs.declared.rt.thread.Task.TheVariants as task
use Rattle.loom_objects.specs.declared.rt.thread.Thread.{Thread}
use Rattle.loom_objects.specs.Rules.Moves.{changes_active, unparked_from, with_object, with_points, with_thread}
use Rattle.loom_objects.specs.Rules.Locals.{is_working}
use Rattle.loom_objects.specs.World.{World}

-- What a thread is about to do to a channel. A message that is sent is a list of its own.
pub data Doing (D : Type 0) : Type 0 where
  Sends : ℕ → List (List D) → Doing D
  Receives Drains : ℕ → Doing D

module _ {D : Type 0} where
  abbrev pub value_of : Message D → List D
  value_of message = message.value

  abbrev pub doing : Task D → Option (Doing D)
  doing (task.Send n sent) = Some (Sends n (map value_of sent))
  doing (task.Receive receiving n) = Some (Receives n)
  doing (task.Drain n taken) = Some (Drains n)
  doing _ = None

  -- who has this pending is about to do something to a channel, or to access an atomic
  abbrev pub is_calling : Task D → Bool
  is_calling (task.Send n sent) = true
  is_calling (task.Receive receiving n) = true
  is_calling (task.Drain n taken) = true
  is_calling (task.Access access) = true
  is_calling _ = false

  pub not_calling : (todo : Task D) → is_calling todo ≡ false → doing todo ≡ None
  not_calling (task.Send n sent) e = absurd (cc e)
  not_calling (task.Receive receiving n) e = absurd (cc e)
  not_calling (task.Drain n taken) e = absurd (cc e)
  not_calling _ e = refl

  -- it is no channel
  abbrev pub IsAway : Object D → Type 0
  IsAway (object.Channel channel) = ⊥
  IsAway _ = Unit {0}

  abbrev pub AwayAt : Option (Object D) → Type 0
  AwayAt None = ⊥
  AwayAt (Some x) = IsAway x

  -- a thread has become another one, which works no longer than it did, and is about to do the same
  pub record IsSame (before after : Thread D) : Type 0 where
    pub shut : is_working after.phase ≡ true → is_working before.phase ≡ true
    pub own : after.notifier ≡ before.notifier
    pub same : after.task ≡ before.task

  -- the same of one that is about to do nothing to a channel, nor to access an atomic
  pub record IsIdle (before after : Thread D) : Type 0 where
    pub shut : is_working after.phase ≡ true → is_working before.phase ≡ true
    pub own : after.notifier ≡ before.notifier
    pub idle : is_calling after.task ≡ false

  abbrev pub HasNotifier : Thread D → Type 0
  HasNotifier thread = is_some thread.notifier ≡ true

  -- it is as it was
  pub unchanged : (thread : Thread D) → IsSame thread thread
  unchanged thread = record { shut = λ e. e; own = refl; same = refl }

  pub stated : (is_meant : Bool) (state : State) (thread : Thread D) → IsSame thread (cond is_meant (record thread { state = state }) thread)
  stated true state thread = record { shut = λ e. e; own = refl; same = refl }
  stated false state thread = unchanged thread

  pub unparked_same : (state : State) (thread : Thread D) → IsSame thread (unparked_from state thread)
  unparked_same Parked thread = record { shut = λ e. e; own = refl; same = refl }
  unparked_same Ended thread = unchanged thread
  unparked_same Runnable thread = record { shut = λ e. e; own = refl; same = refl }
  unparked_same Blocked thread = record { shut = λ e. e; own = refl; same = refl }
  unparked_same Sleeping thread = record { shut = λ e. e; own = refl; same = refl }
  unparked_same Yielding thread = record { shut = λ e. e; own = refl; same = refl }

  -- this property of states is kept where nothing is done to channels, to values that are made once, and to results
  pub record KeptByMoves (R : World D → Type 0) : Type 0 where
    pub points : (p : Points) (w : World D) → R w → R (with_points p w)
    pub yields : (yields : List ℕ) (w : World D) → R w → R (record w { yields = yields })
    pub object : (n : ℕ) (x : Object D) (w : World D) → AwayAt (slice_get w.objects n) → IsAway x → R w → R (with_object n x w)
    pub made : (x : Object D) (w : World D) → IsAway x → R w → R (record w { objects = w.objects ++ x ∷ [] })
    pub changed : (change : Thread D → Thread D) (t : ℕ) (w : World D) → ((thread : Thread D) → IsSame thread (change thread)) → R w → R (record w { threads = with_thread change t w.threads })
    pub turned : (change : Thread D → Thread D) (w : World D) → ((thread : Thread D) → IsIdle thread (change thread)) → R w → R (changes_active change w)
    pub each : (change : Thread D → Thread D) (w : World D) → ((thread : Thread D) → IsSame thread (change thread)) → R w → R (record w { threads = map change w.threads })
    pub child : (thread : Thread D) (w : World D) → HasNotifier thread → is_calling thread.task ≡ false → R w → R (record w { threads = w.threads ++ thread ∷ [] })

  -- an object that is no channel is there, whatever takes another's place
  pub set_away : (objects : List (Object D)) (m n : ℕ) (x : Object D) → IsAway x → AwayAt (slice_get objects n) → AwayAt (slice_get (slice_set objects m x) n)
  set_away [] m n x h there = there
  set_away (y ∷ objects) zero zero x h there = h
  set_away (y ∷ objects) zero (suc n) x h there = there
  set_away (y ∷ objects) (suc m) zero x h there = there
  set_away (y ∷ objects) (suc m) (suc n) x h there = set_away objects m n x h there
