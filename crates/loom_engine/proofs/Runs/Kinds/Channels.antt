-- What is done to channels keeps locks sound.
use Rattle.std.proofs.Common.{ℕ, Bool, List, [], ◌∷◌, ◌++◌, refl}
use Rattle.std.specs.Prelude.{◌==◌, ◌&&◌, true, false, length, nat_lt}
use Rattle.loom_views.specs.declared.rt.failure.FailureKind.TheVariants.{Misuse, TooManySteps}
use Rattle.loom_views.specs.Limits.{highest_count}
use Rattle.loom_objects.specs.declared.operation.ChannelOp.{ChannelOp}
use Rattle.loom_objects.specs.declared.operation.ChannelOp.TheVariants as channel_op
use Rattle.loom_objects.specs.declared.operation.Message.{Message}
use Rattle.loom_objects.specs.declared.rt.mpsc.Channel.{Channel}
use Rattle.loom_objects.specs.declared.rt.thread.Receiving.{Receiving}
use Rattle.loom_objects.specs.declared.rt.thread.Receiving.TheVariants as receiving
use Rattle.loom_objects.specs.declared.rt.thread.State.TheVariants.{Blocked, Runnable}
use Rattle.loom_objects.specs.declared.rt.thread.Task.TheVariants as task
use Rattle.loom_objects.specs.Rules.Mpsc.{blocks_if, by_receiver, by_sender, channel_begins, delivers, drains, drains_from, drains_if, drains_on, first_of, fits_behind, receives, receives_from, sends, takes, tries_recv}
use Rattle.loom_objects.specs.Rules.Leaks.{is_none_left}
use Rattle.loom_objects.specs.Rules.Moves.{a_channel, wakes_if}
use Rattle.loom_objects.specs.World.{World}
use Rattle.loom_engine.proofs.Runs.Events.{Anything}
use Rattle.loom_engine.proofs.Runs.Fairness.{IsFairResult}
use Rattle.loom_engine.proofs.Runs.States.{Aim, Ready, pending_ready, pends_ready, receiving_ready}
use Rattle.loom_engine.proofs.Runs.Ruling.{Keeping, answer_fairly, chained, channel_fair, check_fairly, check_keeping, fair_keeping, fair_of, found_keeping, misuse, new_keeping, set_keeping}

module _ {D : Type 0} where
  sender_fair : (n : ℕ) (w : World D) → IsFairResult (by_sender n w)
  sender_fair n w = fair_of Anything _ (answer_fairly Anything (a_channel n w) _ (channel_fair n w) (λ channel. check_fairly Anything (nat_lt 0 channel.senders) Misuse _ misuse (λ e. tt)))

  receiver_fair : (n : ℕ) (w : World D) → IsFairResult (by_receiver n w)
  receiver_fair n w = fair_of Anything _ (answer_fairly Anything (a_channel n w) _ (channel_fair n w) (λ channel. check_fairly Anything channel.has_receiver Misuse _ misuse (λ e. tt)))

  wakes_if_ready : (wakes : Bool) (n : ℕ) (w : World D) (out : Aim) → Ready out w → Ready out (wakes_if wakes n w)
  wakes_if_ready true n w out k = pending_ready n Runnable k
  wakes_if_ready false n w out k = k

  blocks_if_ready : (blocks : Bool) (n : ℕ) (w : World D) (out : Aim) → Ready out w → Ready out (blocks_if blocks n w)
  blocks_if_ready true n w out k = receiving_ready n Blocked k
  blocks_if_ready false n w out k = k

  tries_recv_keeping : (is_empty : Bool) (n : ℕ) (w : World D) → Keeping w (tries_recv is_empty n w)
  tries_recv_keeping true n w = λ out k. k
  tries_recv_keeping false n w = λ out k. pends_ready (task.Receive receiving.TryRecv n) false refl k

  drains_if_keeping : (is_some_left : Bool) (channel : Channel D) (n : ℕ) (w : World D) → Keeping w (drains_if is_some_left channel n w)
  drains_if_keeping true channel n w = λ out k. pends_ready (task.Drain n []) false refl k
  drains_if_keeping false channel n w = λ out k. set_keeping w n _ tt out k

  pub channel_begins_keeping : (todo : ChannelOp D) (w : World D) → Keeping w (channel_begins todo w)
  channel_begins_keeping channel_op.New w = λ out k. new_keeping w _ tt out k
  channel_begins_keeping (channel_op.Send n value) w =
      fair_keeping (by_sender n w) _ w (sender_fair n w) (λ channel out k. pends_ready (task.Send n (record { value = value ∷ []; stamp = length w.points.stamps } ∷ [])) false refl k)
  channel_begins_keeping (channel_op.Recv n) w =
      fair_keeping (by_receiver n w) _ w (receiver_fair n w) (λ channel out k. pends_ready (task.Receive receiving.Recv n) (is_none_left channel.messages && nat_lt 0 channel.senders) refl k)
  channel_begins_keeping (channel_op.TryRecv n) w = fair_keeping (by_receiver n w) _ w (receiver_fair n w) (λ channel. tries_recv_keeping (is_none_left channel.messages) n w)
  channel_begins_keeping (channel_op.CloneSender n) w =
      fair_keeping (by_sender n w) _ w (sender_fair n w) (λ channel. check_keeping (nat_lt channel.senders highest_count) TooManySteps _ w (λ e. cc) (λ e out k. set_keeping w n _ tt out k))
  channel_begins_keeping (channel_op.DropSender n) w =
      fair_keeping (by_sender n w) _ w (sender_fair n w) (λ channel out k. wakes_if_ready (channel.senders == 1) n _ out (set_keeping w n _ tt out k))
  channel_begins_keeping (channel_op.DropReceiver n) w =
      fair_keeping (by_receiver n w) _ w (receiver_fair n w) (λ channel. drains_if_keeping (nat_lt 0 (length channel.messages)) channel n w)

  -- ---- once the thread is chosen

  delivers_keeping : (has_receiver : Bool) (channel : Channel D) (n : ℕ) (sent : List (Message D)) (message : Message D) (w : World D) → Keeping w (delivers has_receiver channel n sent message w)
  delivers_keeping false channel n sent message w = found_keeping (first_of message.value) Misuse _ w misuse (λ value e out k. k)
  delivers_keeping true channel n sent message w =
      check_keeping (fits_behind channel.messages sent) TooManySteps _ w (λ e. cc) (λ e out k. wakes_if_ready (is_none_left channel.messages) n _ out (set_keeping w n _ tt out k))

  pub sends_keeping : (n : ℕ) (sent : List (Message D)) (w : World D) → Keeping w (sends n sent w)
  sends_keeping n sent w =
      fair_keeping (by_sender n w) _ w (sender_fair n w) (λ channel. found_keeping (first_of sent) Misuse _ w misuse (λ message e. delivers_keeping channel.has_receiver channel n sent message w))

  takes_ready : (n : ℕ) (channel : Channel D) (message : Message D) (rest : List (Message D)) (w : World D) (out : Aim) → Ready out w → Ready out (takes n channel message rest w)
  takes_ready n channel message rest w out k = blocks_if_ready (is_none_left rest && nat_lt 0 channel.senders) n _ out (set_keeping w n _ tt out k)

  receives_from_keeping : (by : Receiving) (n : ℕ) (channel : Channel D) (messages : List (Message D)) (w : World D) → Keeping w (receives_from by n channel messages w)
  receives_from_keeping by n channel [] w = λ out k. k
  receives_from_keeping by n channel (message ∷ rest) w = found_keeping (first_of message.value) Misuse _ w misuse (λ value e out k. takes_ready n channel message rest w out k)

  pub receives_keeping : (by : Receiving) (n : ℕ) (w : World D) → Keeping w (receives by n w)
  receives_keeping by n w = fair_keeping (by_receiver n w) _ w (receiver_fair n w) (λ channel. receives_from_keeping by n channel channel.messages w)

  drains_on_keeping : (is_last : Bool) (n : ℕ) (taken : List D) (w : World D) → Keeping w (drains_on is_last n taken w)
  drains_on_keeping true n taken w = fair_keeping (by_receiver n w) _ w (receiver_fair n w) (λ channel out k. set_keeping w n _ tt out k)
  drains_on_keeping false n taken w = λ out k. pends_ready (task.Drain n taken) false refl k

  drains_from_keeping : (n : ℕ) (taken : List D) (channel : Channel D) (messages : List (Message D)) (w : World D) → Keeping w (drains_from n taken channel messages w)
  drains_from_keeping n taken channel [] w = drains_on_keeping true n taken w
  drains_from_keeping n taken channel (message ∷ rest) w =
      check_keeping (fits_behind taken message.value) TooManySteps _ w (λ e. cc) (λ e.
      let after = takes n channel message rest w in chained w after _ (takes_ready n channel message rest w) (drains_on_keeping (is_none_left rest) n (taken ++ message.value) after))

  pub drains_keeping : (n : ℕ) (taken : List D) (w : World D) → Keeping w (drains n taken w)
  drains_keeping n taken w = fair_keeping (by_receiver n w) _ w (receiver_fair n w) (λ channel. drains_from_keeping n taken channel channel.messages w)
