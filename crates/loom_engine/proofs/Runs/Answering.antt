-- What a rule without a choice answers.
use Rattle.std.proofs.Common.{◌≡◌, ℕ, Bool, List, [], ◌∷◌, ◌++◌, length, Option, Some, None, refl}
use Rattle.std.specs.Prelude.{◌==◌, true, false, is_none, nat_lt, Result, Ok, Err}
use Rattle.loom_views.specs.declared.rt.failure.FailureKind.{FailureKind}
use Rattle.loom_views.specs.declared.rt.failure.FailureKind.TheVariants.{Misuse, TooManySteps}
use Rattle.loom_views.specs.Limits.{highest_count}
use Rattle.loom_views.specs.Atomic.Slots.{slot_set}
use Rattle.loom_views.specs.Views.{readable_slots_of}
use Rattle.loom_views.specs.declared.rt.atomic.reader.Reader.{Reader}
use Rattle.loom_views.specs.declared.rt.atomic.reader.Reader.TheVariants as reader
use Rattle.loom_objects.specs.declared.operation.AtomicOp.{AtomicOp}
use Rattle.loom_objects.specs.declared.operation.AtomicOp.TheVariants as atomic_op
use Rattle.loom_objects.specs.declared.operation.Message.{Message}
use Rattle.loom_objects.specs.declared.operation.Reply.{Reply}
use Rattle.loom_objects.specs.declared.operation.Turn.TheVariants as turn
use Rattle.loom_objects.specs.declared.rt.run.Passed.{Passed}
use Rattle.loom_objects.specs.declared.rt.run.Passed.TheVariants as passed
use Rattle.loom_objects.specs.declared.rt.run.Resumed.{Resumed}
use Rattle.loom_objects.specs.declared.rt.run.Resumed.TheVariants as resumed
use Rattle.loom_objects.specs.declared.rt.atomic_waker.AtomicWaker.{AtomicWaker}
use Rattle.loom_objects.specs.declared.rt.mpsc.Channel.{Channel}
use Rattle.loom_objects.specs.declared.rt.waker.Wakers.{Wakers}
use Rattle.loom_objects.specs.declared.rt.thread.AfterDrop.{AfterDrop}
use Rattle.loom_objects.specs.declared.rt.thread.AfterDrop.TheVariants as dropped
use Rattle.loom_objects.specs.declared.rt.thread.AfterWake.{AfterWake}
use Rattle.loom_objects.specs.declared.rt.thread.AfterWake.TheVariants as woken
use Rattle.loom_objects.specs.declared.rt.thread.Locking.{Locking}
use Rattle.loom_objects.specs.declared.rt.thread.Taking.{Taking}
use Rattle.loom_objects.specs.declared.rt.thread.Taking.TheVariants as taking
use Rattle.loom_objects.specs.declared.rt.thread.Task.TheVariants as task
use Rattle.loom_objects.specs.Rules.Atomic.{accesses, opens, some_slot}
use Rattle.loom_objects.specs.Rules.Mpsc.{by_receiver, drains, drains_from, drains_on, fits_behind, takes}
use Rattle.loom_objects.specs.Rules.Condvar.{falls_asleep, with_waiters}
use Rattle.loom_objects.specs.Rules.Arc.{is_free, tries_unwrap, unwraps_if}
use Rattle.loom_objects.specs.Rules.Ending.{end_of}
use Rattle.loom_objects.specs.Rules.Leaks.{check_leak, first_leak, is_none_left}
use Rattle.loom_objects.specs.Rules.Mutex.{frees}
use Rattle.loom_objects.specs.Rules.Moves.{a_condvar, a_wakers, an_atomic_waker, acquires, an_arc, an_atomic, raises, takes_result, yields}
use Rattle.loom_objects.specs.Rules.Notify.{notify}
use Rattle.loom_objects.specs.Rules.Replied.{gone, replied}
use Rattle.loom_objects.specs.Rules.Waker.{after_clone, after_drop, after_wake, clones_waker, drops_waker, has_taken, registers, registers_if, some_wakers, takes_place, takes_waker, waker_reply, wakes_by}
use Rattle.loom_objects.specs.World.{World, MAX_THREADS}
use Rattle.loom_objects.specs.Rules.Rule.{◌>>=◌, check}
use Rattle.loom_engine.specs.Runs.Histories.{locked_by}
use Rattle.loom_engine.proofs.Runs.Events.{Anything, IsOver}

-- it goes on: the active thread gets a reply, which is no data of a mutex
abbrev pub GoesQuietly : {D : Type 0} → Passed D × World D → Type 0
GoesQuietly (passed.Turn (turn.Reply t reply), w) = (t ≡ w.active) × (locked_by reply ≡ None)
GoesQuietly (passed.Turn (turn.Start t), w) = ⊥
GoesQuietly (passed.Turn (turn.Ended value), w) = ⊥
GoesQuietly (passed.AtBranch, w) = Unit {0}

-- this holds of what it gives
abbrev pub Answers : {A : Type 0} → (A → Type 0) → Result A FailureKind → Type 0
Answers P (Ok answered) = P answered
Answers P (Err kind) = Unit {0}

pub anything : {A : Type 0} (r : Result A FailureKind) → Answers Anything r
anything (Ok answered) = tt
anything (Err kind) = tt

pub answers_then : {A B : Type 0} (P : A → Type 0) (r : Result B FailureKind) (next : B → Result A FailureKind) → ((b : B) → Answers P (next b)) → Answers P (r >>= next)
answers_then P (Ok b) next h = h b
answers_then P (Err kind) next h = tt

pub then_quietly : {D B : Type 0} (r : Result B FailureKind) (next : B → Result (Passed D × World D) FailureKind) → ((b : B) → Answers GoesQuietly (next b)) → Answers GoesQuietly (r >>= next)
then_quietly r next h = answers_then GoesQuietly r next h

pub waker_reply_quiet : (D : Type 0) (waker : Option ℕ) → locked_by {D = D} (waker_reply waker) ≡ None
waker_reply_quiet D None = refl
waker_reply_quiet D (Some c) = refl

module _ {D : Type 0} where
  abbrev pub PassesActive : Passed D × World D → Type 0
  PassesActive (passed.Turn (turn.Reply t reply), w) = t ≡ w.active
  PassesActive (passed.Turn (turn.Start t), w) = t ≡ w.active
  PassesActive (passed.Turn (turn.Ended value), w) = ⊥
  PassesActive (passed.AtBranch, w) = Unit {0}

  -- the active thread has its turn, if one has, or an access asks for one of seven slots
  abbrev pub TellsActive : Resumed D × World D → Type 0
  TellsActive (resumed.Passed passed, w) = PassesActive (passed, w)
  TellsActive (resumed.Load load, w) = length load.readable ≡ 7

  pub told : (r : Result (Reply D × World D) FailureKind) → Answers TellsActive (r >>= replied)
  told (Ok (reply, w)) = refl
  told (Err kind) = tt

  pub by_passing : (r : Result (Passed D × World D) FailureKind) → Answers PassesActive r → Answers TellsActive (r >>= gone)
  by_passing (Ok (passed, w)) h = h
  by_passing (Err kind) h = tt

  pub by_quiet : (r : Result (Passed D × World D) FailureKind) → Answers GoesQuietly r → Answers TellsActive (r >>= gone)
  by_quiet (Ok (passed.Turn (turn.Reply t reply), w)) h = h.0
  by_quiet (Ok (passed.Turn (turn.Start t), w)) h = absurd h
  by_quiet (Ok (passed.Turn (turn.Ended value), w)) h = absurd h
  by_quiet (Ok (passed.AtBranch, w)) h = tt
  by_quiet (Err kind) h = tt

  opens_tells : (n : ℕ) (reader : Reader) (access : AtomicOp) (w : World D) → Answers TellsActive (opens n reader access w)
  opens_tells n reader access w =
      answers_then TellsActive (raises w) _ (λ v. answers_then TellsActive (an_atomic n v) _ (λ atomic. answers_then TellsActive (readable_slots_of v.points v.active n reader) _ (λ readable.
      answers_then TellsActive (check (some_slot (slot_set readable)) Misuse) _ (λ u. refl))))

  pub accesses_tells : (access : AtomicOp) (w : World D) → Answers TellsActive (accesses access w)
  accesses_tells (atomic_op.Store n value order) w = told _
  accesses_tells (atomic_op.Load n order) w = opens_tells n (reader.Load order) (atomic_op.Load n order) w
  accesses_tells (atomic_op.Update n change order) w = opens_tells n reader.Update (atomic_op.Update n change order) w
  accesses_tells (atomic_op.CompareExchange n exchange) w = opens_tells n reader.Update (atomic_op.CompareExchange n exchange) w
  accesses_tells (atomic_op.CompareAndSwap n expected new order) w = opens_tells n reader.Update (atomic_op.CompareAndSwap n expected new order) w
  accesses_tells (atomic_op.New numbers value) w = tt
  accesses_tells (atomic_op.UnsyncLoad n) w = tt
  accesses_tells (atomic_op.IntoInner n) w = tt
  accesses_tells (atomic_op.WithMut n) w = tt
  accesses_tells (atomic_op.WithMutEnd n value) w = tt

  pub falls_asleep_passes : (locking : Locking) (n m : ℕ) (value : D) (w : World D) → Answers PassesActive (falls_asleep locking n m value w)
  falls_asleep_passes locking n m value w =
      answers_then PassesActive (a_condvar n w) _ (λ condvar. answers_then PassesActive (check (nat_lt (length condvar.waiters.items) MAX_THREADS) Misuse) _ (λ u.
      answers_then PassesActive (frees m value (with_waiters n (condvar.waiters.items ++ w.active ∷ []) w)) _ (λ freed. tt)))

  unwraps_passes : (is_alone : Bool) (n : ℕ) (w : World D) → Answers PassesActive (unwraps_if is_alone n w)
  unwraps_passes false n w = refl
  unwraps_passes true n w = tt

  pub tries_unwrap_passes : (n : ℕ) (w : World D) → Answers PassesActive (tries_unwrap n w)
  tries_unwrap_passes n w = answers_then PassesActive (an_arc n w) _ (λ arc. answers_then PassesActive (check (is_free arc) Misuse) _ (λ u. unwraps_passes (arc.count == 1) n (acquires n w)))

  -- ---- what is left in a channel

  drains_on_goes : (is_last : Bool) (n : ℕ) (taken : List D) (w : World D) → Answers GoesQuietly (drains_on is_last n taken w)
  drains_on_goes true n taken w = then_quietly (by_receiver n w) _ (λ channel. (refl, refl))
  drains_on_goes false n taken w = tt

  drains_from_goes : (n : ℕ) (taken : List D) (channel : Channel D) (messages : List (Message D)) (w : World D) → Answers GoesQuietly (drains_from n taken channel messages w)
  drains_from_goes n taken channel [] w = drains_on_goes true n taken w
  drains_from_goes n taken channel (message ∷ rest) w =
      then_quietly (check (fits_behind taken message.value) TooManySteps) _ (λ u. drains_on_goes (is_none_left rest) n (taken ++ message.value) (takes n channel message rest w))

  pub drains_goes : (n : ℕ) (taken : List D) (w : World D) → Answers GoesQuietly (drains n taken w)
  drains_goes n taken w = then_quietly (by_receiver n w) _ (λ channel. drains_from_goes n taken channel channel.messages w)

  -- ---- wakers, and places for them

  after_wake_goes : (after : AfterWake) (c : ℕ) (w : World D) → Answers GoesQuietly (after_wake after c w)
  after_wake_goes woken.Done c w = (refl, refl)
  after_wake_goes (woken.Drop after) c w = tt

  pub wakes_by_goes : (n c : ℕ) (after : AfterWake) (w : World D) → Answers GoesQuietly (wakes_by n c after w)
  wakes_by_goes n c after w = then_quietly (some_wakers c w) _ (λ wakers. then_quietly (notify n w) _ (λ notified. after_wake_goes after c notified.1))

  after_clone_goes : (place : Option ℕ) (c : ℕ) (w : World D) → Answers GoesQuietly (after_clone place c w)
  after_clone_goes None c w = (refl, refl)
  after_clone_goes (Some p) c w = tt

  pub clones_waker_goes : (c : ℕ) (place : Option ℕ) (w : World D) → Answers GoesQuietly (clones_waker c place w)
  clones_waker_goes c place w =
      then_quietly (some_wakers c w) _ (λ wakers. then_quietly (check (nat_lt wakers.count highest_count) TooManySteps) _ (λ u. after_clone_goes place c _))

  after_drop_goes : (after : AfterDrop) (w : World D) → Answers GoesQuietly (after_drop after w)
  after_drop_goes dropped.Done w = (refl, refl)
  after_drop_goes dropped.Yield w = then_quietly (yields task.Continue w) _ (λ yielded. tt)
  after_drop_goes (dropped.Free p) w = then_quietly (an_atomic_waker p w) _ (λ place. (refl, refl))

  pub drops_waker_goes : (c : ℕ) (after : AfterDrop) (w : World D) → Answers GoesQuietly (drops_waker c after w)
  drops_waker_goes c after w = then_quietly (some_wakers c w) _ (λ wakers. after_drop_goes after _)

  takes_place_goes : (p c : ℕ) (place : AtomicWaker) (old : Option ℕ) (w : World D) → Answers GoesQuietly (takes_place p c place old w)
  takes_place_goes p c place None w = (refl, refl)
  takes_place_goes p c place (Some old) w = tt

  registers_if_goes : (is_free : Bool) (p c : ℕ) (place : AtomicWaker) (wakers : Wakers) (w : World D) → Answers GoesQuietly (registers_if is_free p c place wakers w)
  registers_if_goes true p c place wakers w = takes_place_goes p c place place.waker w
  registers_if_goes false p c place wakers w = tt

  pub registers_goes : (p c : ℕ) (w : World D) → Answers GoesQuietly (registers p c w)
  registers_goes p c w = then_quietly (an_atomic_waker p w) _ (λ place. then_quietly (some_wakers c w) _ (λ wakers. registers_if_goes (is_none place.holder) p c place wakers w))

  has_taken_goes : (by : Taking) (waker : Option ℕ) (w : World D) → Answers GoesQuietly (has_taken by waker w)
  has_taken_goes taking.Answer waker w = (refl, waker_reply_quiet D waker)
  has_taken_goes taking.Wake None w = (refl, refl)
  has_taken_goes taking.Wake (Some c) w = then_quietly (a_wakers c w) _ (λ wakers. tt)

  pub takes_waker_goes : (by : Taking) (p : ℕ) (w : World D) → Answers GoesQuietly (takes_waker by p w)
  takes_waker_goes by p w = then_quietly (an_atomic_waker p w) _ (λ place. then_quietly (check (is_none place.holder) Misuse) _ (λ u. has_taken_goes by place.waker _))

  -- a run ends where it is over
  pub end_over : (w : World D) → Answers IsOver (end_of w)
  end_over w = answers_then IsOver (check_leak (first_leak w.objects)) _ (λ u. answers_then IsOver (takes_result 0 w) _ (λ taken. tt))
