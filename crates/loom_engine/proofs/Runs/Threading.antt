-- A property of the threads alone that the active thread's own changes keep is kept by every rule.
use Rattle.std.proofs.Common.{◌≡◌, refl, ℕ, Bool, true, false, List, [], ◌∷◌, ◌++◌, length, Option, Some, None}
use Rattle.std.specs.Prelude.{◌==◌, ◌-◌, ◌&&◌, nat_lt, Result, ⊤}
use Rattle.loom_views.specs.Limits.{highest_count}
use Rattle.loom_views.specs.declared.rt.failure.FailureKind.{FailureKind}
use Rattle.loom_views.specs.declared.rt.failure.FailureKind.TheVariants.{LazyShutdown, Misuse, TooManySteps}
use Rattle.loom_objects.specs.declared.operation.ChannelOp.{ChannelOp}
use Rattle.loom_objects.specs.declared.operation.ChannelOp.TheVariants as channel_op
use Rattle.loom_objects.specs.declared.operation.Lazy.{Lazy}
use Rattle.loom_objects.specs.declared.operation.LazyOp.{LazyOp}
use Rattle.loom_objects.specs.declared.operation.LazyOp.TheVariants as lazy_op
use Rattle.loom_objects.specs.declared.operation.Message.{Message}
use Rattle.loom_objects.specs.declared.operation.AtomicOp.{AtomicOp}
use Rattle.loom_objects.specs.declared.operation.Request.{Request}
use Rattle.loom_objects.specs.declared.operation.Request.TheVariants as op
use Rattle.loom_objects.specs.declared.rt.mpsc.Channel.{Channel}
use Rattle.loom_objects.specs.declared.rt.object.Object.{Object}
use Rattle.loom_objects.specs.declared.rt.thread.Phase.TheVariants.{Finished}
use Rattle.loom_objects.specs.declared.rt.thread.Receiving.{Receiving}
use Rattle.loom_objects.specs.declared.rt.thread.State.TheVariants.{Blocked, Runnable}
use Rattle.loom_objects.specs.declared.rt.thread.Task.{Task}
use Rattle.loom_objects.specs.declared.rt.thread.Task.TheVariants as task
use Rattle.loom_objects.specs.declared.rt.thread.Thread.{Thread}
use Rattle.loom_objects.specs.Rules.Ending.{end_of}
use Rattle.loom_objects.specs.Rules.Leaks.{check_leak, first_leak, is_none_left}
use Rattle.loom_objects.specs.Rules.Locals.{are_open, is_working, lazy_at, lazy_begins, makes_lazy, reads_lazy}
use Rattle.loom_objects.specs.Rules.Moves.{active_thread, at_phase, changes_active, having, is_number, pending_with, pends, received_from, receiving_with, releases, releases_to_stamp, stamps, target, wakes_if, with_object, with_stamp}
use Rattle.loom_objects.specs.Rules.Mpsc.{blocks_if, by_receiver, by_sender, channel_begins, delivers, drains, drains_from, drains_if, drains_on, first_of, fits_behind, receives, receives_from, sends, takes, tries_recv}
use Rattle.loom_objects.specs.Rules.Rule.{◌>>=◌, check, found}
use Rattle.loom_objects.specs.Rules.Tables.{counted, takes_effect}
use Rattle.loom_objects.specs.Rules.Thread.{finish, finish_as}
use Rattle.loom_objects.specs.World.{World}
use Rattle.loom_engine.specs.Runs.Stores.{access_in_task}
use Rattle.loom_engine.proofs.Runs.Answering.{Answers, answers_then}
use Rattle.loom_engine.proofs.Runs.Kept.{KeptByMoves, stated}
use Rattle.loom_engine.proofs.Runs.Kinds.{begins_moves, effect_moves}
use Rattle.loom_engine.proofs.Runs.Moving.{Within, takes_result_moves}

-- It is kept where the active thread is changed but for what it has pending, where it is about to do anything but an access of an
-- atomic, and whatever objects and values there are.
pub record KeptByThreads {D : Type 0} (R : World D → Type 0) : Type 0 where
  pub moves : KeptByMoves R
  pub active : (change : Thread D → Thread D) (w : World D) → ((thread : Thread D) → (change thread).task ≡ thread.task) → R w → R (changes_active change w)
  pub pending : (todo : Task D) (is_blocked : Bool) (w : World D) → access_in_task todo ≡ None → R w → R (pends todo is_blocked w)
  pub object : (n : ℕ) (x : Object D) (w : World D) → R w → R (with_object n x w)
  pub made : (x : Object D) (w : World D) → R w → R (record w { objects = w.objects ++ x ∷ [] })
  pub lazies : (lazies : List (Lazy D)) (w : World D) → R w → R (record w { lazies = lazies })
  pub steps : (left : ℕ) (w : World D) → R w → R (record w { steps_left = left })

module _ {D : Type 0} (R : World D → Type 0) (k : KeptByThreads R) where
  onward : {A B : Type 0} (r : Result B FailureKind) (next : B → Result (A × World D) FailureKind) → ((b : B) → Answers (Within R) (next b)) → Answers (Within R) (r >>= next)
  onward r next h = answers_then (Within R) r next h

  releases_on : (n : ℕ) (w : World D) → R w → R (releases n w)
  releases_on n w s = k.moves.points _ w s

  stamped_on : (w : World D) → R w → R (with_stamp w)
  stamped_on w s = k.moves.points _ w s

  stamps_on : (n m : ℕ) (w : World D) → R w → R (stamps n m w)
  stamps_on n m w s = k.moves.points _ w s

  to_stamp_on : (m : ℕ) (w : World D) → R w → R (releases_to_stamp m w)
  to_stamp_on m w s = k.moves.points _ w s

  -- ---- channels

  wakes_on : (wakes : Bool) (n : ℕ) (w : World D) → R w → R (wakes_if wakes n w)
  wakes_on true n w s = k.moves.each (pending_with n Runnable) w (λ thread. stated (is_number (target thread.task) n) Runnable thread) s
  wakes_on false n w s = s

  blocks_on : (blocks : Bool) (n : ℕ) (w : World D) → R w → R (blocks_if blocks n w)
  blocks_on true n w s = k.moves.each (receiving_with n Blocked) w (λ thread. stated (is_number (received_from thread.task) n) Blocked thread) s
  blocks_on false n w s = s

  tries_on : (is_empty : Bool) (n : ℕ) (w : World D) → R w → Answers (Within R) (tries_recv is_empty n w)
  tries_on true n w s = s
  tries_on false n w s = k.pending _ false w refl s

  drains_if_on : (is_some_left : Bool) (channel : Channel D) (n : ℕ) (w : World D) → R w → Answers (Within R) (drains_if is_some_left channel n w)
  drains_if_on true channel n w s = k.pending _ false w refl s
  drains_if_on false channel n w s = k.object n _ w s

  channel_on : (todo : ChannelOp D) (w : World D) → R w → Answers (Within R) (channel_begins todo w)
  channel_on channel_op.New w s = k.moves.points _ _ (k.made _ w s)
  channel_on (channel_op.Send n value) w s = onward (by_sender n w) _ (λ channel. k.pending _ false _ refl (stamped_on w s))
  channel_on (channel_op.Recv n) w s = onward (by_receiver n w) _ (λ channel. k.pending _ _ w refl s)
  channel_on (channel_op.TryRecv n) w s = onward (by_receiver n w) _ (λ channel. tries_on (is_none_left channel.messages) n w s)
  channel_on (channel_op.CloneSender n) w s = onward (by_sender n w) _ (λ channel. onward (check (nat_lt channel.senders highest_count) TooManySteps) _ (λ u. k.object n _ w s))
  channel_on (channel_op.DropSender n) w s = onward (by_sender n w) _ (λ channel. wakes_on (channel.senders == 1) n _ (k.object n _ w s))
  channel_on (channel_op.DropReceiver n) w s = onward (by_receiver n w) _ (λ channel. drains_if_on (nat_lt 0 (length channel.messages)) channel n w s)

  delivers_on : (has_receiver : Bool) (channel : Channel D) (n : ℕ) (sent : List (Message D)) (message : Message D) (w : World D) → R w → Answers (Within R) (delivers has_receiver channel n sent message w)
  delivers_on false channel n sent message w s = onward (found (first_of message.value) Misuse) _ (λ value. s)
  delivers_on true channel n sent message w s =
      onward (check (fits_behind channel.messages sent) TooManySteps) _ (λ u. wakes_on (is_none_left channel.messages) n _ (stamps_on n message.stamp _ (releases_on n _ (k.object n _ w s))))

  sends_on : (n : ℕ) (sent : List (Message D)) (w : World D) → R w → Answers (Within R) (sends n sent w)
  sends_on n sent w s = onward (by_sender n w) _ (λ channel. onward (found (first_of sent) Misuse) _ (λ message. delivers_on channel.has_receiver channel n sent message w s))

  takes_on : (n : ℕ) (channel : Channel D) (message : Message D) (rest : List (Message D)) (w : World D) → R w → R (takes n channel message rest w)
  takes_on n channel message rest w s = blocks_on (is_none_left rest && nat_lt 0 channel.senders) n _ (k.moves.points _ _ (k.object n _ w s))

  receives_from_on : (by : Receiving) (n : ℕ) (channel : Channel D) (messages : List (Message D)) (w : World D) → R w → Answers (Within R) (receives_from by n channel messages w)
  receives_from_on by n channel [] w s = s
  receives_from_on by n channel (message ∷ rest) w s = onward (found (first_of message.value) Misuse) _ (λ value. takes_on n channel message rest w s)

  receives_on : (by : Receiving) (n : ℕ) (w : World D) → R w → Answers (Within R) (receives by n w)
  receives_on by n w s = onward (by_receiver n w) _ (λ channel. receives_from_on by n channel channel.messages w s)

  drains_on_on : (is_last : Bool) (n : ℕ) (taken : List D) (w : World D) → R w → Answers (Within R) (drains_on is_last n taken w)
  drains_on_on true n taken w s = onward (by_receiver n w) _ (λ channel. k.object n _ w s)
  drains_on_on false n taken w s = k.pending _ false w refl s

  drains_from_on : (n : ℕ) (taken : List D) (channel : Channel D) (messages : List (Message D)) (w : World D) → R w → Answers (Within R) (drains_from n taken channel messages w)
  drains_from_on n taken channel [] w s = drains_on_on true n taken w s
  drains_from_on n taken channel (message ∷ rest) w s =
      onward (check (fits_behind taken message.value) TooManySteps) _ (λ u. drains_on_on (is_none_left rest) n (taken ++ message.value) _ (takes_on n channel message rest w s))

  drains_through : (n : ℕ) (taken : List D) (w : World D) → R w → Answers (Within R) (drains n taken w)
  drains_through n taken w s = onward (by_receiver n w) _ (λ channel. drains_from_on n taken channel channel.messages w s)

  -- ---- values that are made once

  makes_on : (key : ℕ) (value : D) (lazy : Option (Lazy D)) (w : World D) → R w → Answers (Within R) (makes_lazy key value lazy w)
  makes_on key value None w s = to_stamp_on (length w.points.stamps) _ (stamped_on _ (k.lazies _ w s))
  makes_on key value (Some lazy) w s = k.moves.points _ w s

  reads_on : (lazy : Option (Lazy D)) (w : World D) → R w → Answers (Within R) (reads_lazy lazy w)
  reads_on None w s = s
  reads_on (Some lazy) w s = k.moves.points _ w s

  lazy_on : (todo : LazyOp D) (w : World D) → R w → Answers (Within R) (lazy_begins todo w)
  lazy_on (lazy_op.Get key) w s = onward (check (are_open w) LazyShutdown) _ (λ u. reads_on (lazy_at key w) w s)
  lazy_on (lazy_op.Init key value) w s = onward (check (are_open w) LazyShutdown) _ (λ u. makes_on key value (lazy_at key w) w s)

  -- ---- a thread's result

  finish_as_on : (notifier : Option ℕ) (value : D) (w : World D) → R w → Answers (Within R) (finish_as notifier value w)
  finish_as_on None value w s = k.lazies [] _ (k.active (having value) w (λ thread. refl) s)
  finish_as_on (Some n) value w s = k.pending _ false w refl s

  finish_on : (value : D) (w : World D) → R w → Answers (Within R) (finish value w)
  finish_on value w s = onward (active_thread w) _ (λ thread. onward (check (is_working thread.phase) Misuse) _ (λ u. finish_as_on thread.notifier value _ (k.active (at_phase Finished) w (λ thread. refl) s)))

  -- ---- each operation, and each effect

  -- that an access is pending is said by the property
  pub counted_on : (todo : Request D ⊤) (w : World D) → ((asked : AtomicOp) (v : World D) → todo ≡ op.Atomic asked → R v → R (pends (task.Access asked) false v)) → R w → Answers (Within R) (counted todo w)
  counted_on todo w a s =
      let fewer : World D = record w { steps_left = w.steps_left - 1 } in
      let t : R fewer = k.steps (w.steps_left - 1) w s in
      onward (check (nat_lt 0 w.steps_left) TooManySteps) _ (λ u. begins_moves R k.moves todo fewer (λ asked e. a asked fewer e) (λ value. finish_on value fewer t) (λ asked e. channel_on asked fewer t) (λ asked. lazy_on asked fewer t) t)

  pub effect_on : (todo : Task D) (w : World D) → R w → Answers (Within R) (takes_effect todo w)
  effect_on todo w s = effect_moves R k.moves todo w (λ n sent e. sends_on n sent w s) (λ by n e. receives_on by n w s) (λ n taken e. drains_through n taken w s) s

  pub end_on : (w : World D) → R w → Answers (Within R) (end_of w)
  end_on w s = onward (check_leak (first_leak w.objects)) _ (λ u. takes_result_moves R k.moves 0 w _ s (λ value threads r. r))
