-- What channels do.
use Rattle.std.specs.Prelude.{ℕ, ◌+◌, ◌-◌, ◌^◌, ◌==◌, ◌&&◌, ◌++◌, Bool, true, false, nat_lt, List, [], ◌∷◌, length, Option, Some, None, Result, Ok}
use Rattle.loom_views.specs.declared.rt.failure.FailureKind.{FailureKind}
use Rattle.loom_views.specs.declared.rt.failure.FailureKind.TheVariants.{Misuse, TooManySteps}
use Rattle.loom_views.specs.Limits.{highest_count}
use Rattle.loom_objects.specs.declared.operation.ChannelOp.{ChannelOp}
use Rattle.loom_objects.specs.declared.operation.ChannelOp.TheVariants.{New, Send, Recv, TryRecv, CloneSender, DropSender, DropReceiver}
use Rattle.loom_objects.specs.declared.operation.Message.{Message}
use Rattle.loom_objects.specs.declared.operation.Reply.{Reply}
use Rattle.loom_objects.specs.declared.operation.Reply.TheVariants as reply
use Rattle.loom_objects.specs.declared.operation.Turn.TheVariants as turn
use Rattle.loom_objects.specs.declared.rt.object.Object.TheVariants as object
use Rattle.loom_objects.specs.declared.rt.run.Entry.{Entry}
use Rattle.loom_objects.specs.declared.rt.run.Entry.TheVariants.{Answered, AtBranch}
use Rattle.loom_objects.specs.declared.rt.run.Passed.{Passed}
use Rattle.loom_objects.specs.declared.rt.run.Passed.TheVariants as passed
use Rattle.loom_objects.specs.declared.rt.mpsc.Channel.{Channel}
use Rattle.loom_objects.specs.declared.rt.thread.Receiving.{Receiving}
use Rattle.loom_objects.specs.declared.rt.thread.Receiving.TheVariants as receiving
use Rattle.loom_objects.specs.declared.rt.thread.Task.TheVariants as task
use Rattle.loom_objects.specs.Rules.Leaks.{is_none_left}
use Rattle.loom_objects.specs.Rules.Rule.{◌>>=◌, check, found}
use Rattle.loom_objects.specs.World.{World}
use Rattle.loom_objects.specs.Rules.Moves.{a_channel, acquires_from_stamp, blocks_receivers, pends, releases, stamps, wakes_if, with_new, with_object, with_stamp}

abbrev pub first_of : {A : Type 0} → List A → Option A
first_of [] = None
first_of (a ∷ rest) = Some a

-- a run ends before there are 2^63 messages, since each is an operation
abbrev pub fits_behind : {A B : Type 0} → List A → List B → Bool
fits_behind list more = nat_lt (length list + length more) (2 ^ 63)

module _ {D : Type 0} where
  abbrev pub with_channel : ℕ → Channel D → World D → World D
  with_channel n channel w = with_object n (object.Channel channel) w

  -- the channel, while a sender is left, and while its receiver is
  abbrev pub by_sender : ℕ → World D → Result (Channel D) FailureKind
  by_sender n w = do
    channel ← a_channel n w
    _ ← check (nat_lt 0 channel.senders) Misuse
    Ok channel

  abbrev pub by_receiver : ℕ → World D → Result (Channel D) FailureKind
  by_receiver n w = do
    channel ← a_channel n w
    _ ← check channel.has_receiver Misuse
    Ok channel

  -- one sender, and the receiver
  abbrev pub channel_new : World D → Result (Entry D × World D) FailureKind
  channel_new w = Ok (Answered (reply.Channel (length w.objects)), with_new (object.Channel (record { senders = 1; has_receiver = true; messages = [] })) w)

  -- The message has its stamp from now on.
  abbrev pub send_begins : ℕ → D → World D → Result (Entry D × World D) FailureKind
  send_begins n value w = do
    _ ← by_sender n w
    Ok (AtBranch, pends (task.Send n (record { value = value ∷ []; stamp = length w.points.stamps } ∷ [])) false (with_stamp w))

  -- who receives is blocked while there is no message and a sender is left
  abbrev pub recv_begins : ℕ → World D → Result (Entry D × World D) FailureKind
  recv_begins n w = do
    channel ← by_receiver n w
    Ok (AtBranch, pends (task.Receive receiving.Recv n) (is_none_left channel.messages && nat_lt 0 channel.senders) w)

  -- without a message there is no branch point
  abbrev pub tries_recv : Bool → ℕ → World D → Result (Entry D × World D) FailureKind
  tries_recv true n w = Ok (Answered reply.Empty, w)
  tries_recv false n w = Ok (AtBranch, pends (task.Receive receiving.TryRecv n) false w)

  abbrev pub try_recv_begins : ℕ → World D → Result (Entry D × World D) FailureKind
  try_recv_begins n w = do
    channel ← by_receiver n w
    tries_recv (is_none_left channel.messages) n w

  abbrev pub sender_clone : ℕ → World D → Result (Entry D × World D) FailureKind
  sender_clone n w = do
    channel ← by_sender n w
    _ ← check (nat_lt channel.senders highest_count) TooManySteps
    Ok (Answered reply.Done, with_channel n (record channel { senders = channel.senders + 1 }) w)

  -- with the last one who is pending is woken
  abbrev pub sender_drop : ℕ → World D → Result (Entry D × World D) FailureKind
  sender_drop n w = do
    channel ← by_sender n w
    Ok (Answered reply.Done, wakes_if (channel.senders == 1) n (with_channel n (record channel { senders = channel.senders - 1 }) w))

  -- the receiver is gone
  abbrev pub without_receiver : ℕ → Channel D → World D → World D
  without_receiver n channel w = with_channel n (record channel { has_receiver = false }) w

  abbrev pub drains_if : Bool → Channel D → ℕ → World D → Result (Entry D × World D) FailureKind
  drains_if true channel n w = Ok (AtBranch, pends (task.Drain n []) false w)
  drains_if false channel n w = Ok (Answered (reply.Messages []), without_receiver n channel w)

  -- there is a branch point for each message that is left
  abbrev pub receiver_drop : ℕ → World D → Result (Entry D × World D) FailureKind
  receiver_drop n w = do
    channel ← by_receiver n w
    drains_if (nat_lt 0 (length channel.messages)) channel n w

  abbrev pub channel_begins : ChannelOp D → World D → Result (Entry D × World D) FailureKind
  channel_begins New w = channel_new w
  channel_begins (Send n value) w = send_begins n value w
  channel_begins (Recv n) w = recv_begins n w
  channel_begins (TryRecv n) w = try_recv_begins n w
  channel_begins (CloneSender n) w = sender_clone n w
  channel_begins (DropSender n) w = sender_drop n w
  channel_begins (DropReceiver n) w = receiver_drop n w

  -- ---- once the thread is chosen

  -- The thread releases to the channel's point, and the message keeps that point. It goes last; where it is the only one, who is
  -- pending is woken.
  abbrev pub delivers : Bool → Channel D → ℕ → List (Message D) → Message D → World D → Result (Reply D × World D) FailureKind
  delivers false channel n sent message w = do
    value ← found (first_of message.value) Misuse
    Ok (reply.SendError value, w)
  delivers true channel n sent message w = do
    _ ← check (fits_behind channel.messages sent) TooManySteps
    Ok (reply.Done, wakes_if (is_none_left channel.messages) n (stamps n message.stamp (releases n (with_channel n (record channel { messages = channel.messages ++ sent }) w))))

  -- without a receiver the message comes back
  abbrev pub sends : ℕ → List (Message D) → World D → Result (Reply D × World D) FailureKind
  sends n sent w = do
    channel ← by_sender n w
    message ← found (first_of sent) Misuse
    delivers channel.has_receiver channel n sent message w

  abbrev pub blocks_if : Bool → ℕ → World D → World D
  blocks_if true n w = blocks_receivers n w
  blocks_if false n w = w

  -- The thread acquires from the message's point, and has the message. Who else is to receive is blocked, if none is left and a
  -- sender is.
  abbrev pub takes : ℕ → Channel D → Message D → List (Message D) → World D → World D
  takes n channel message rest w =
      blocks_if (is_none_left rest && nat_lt 0 channel.senders) n (acquires_from_stamp message.stamp (with_channel n (record channel { messages = rest }) w))

  -- what a receive says where there is no message, and no sender
  abbrev pub none_left : Receiving → Reply D
  none_left receiving.Recv = reply.RecvError
  none_left receiving.TryRecv = reply.Disconnected

  abbrev pub receives_from : Receiving → ℕ → Channel D → List (Message D) → World D → Result (Reply D × World D) FailureKind
  receives_from by n channel [] w = Ok (none_left by, w)
  receives_from by n channel (message ∷ rest) w = do
    value ← found (first_of message.value) Misuse
    Ok (reply.Data value, takes n channel message rest w)

  abbrev pub receives : Receiving → ℕ → World D → Result (Reply D × World D) FailureKind
  receives by n w = do
    channel ← by_receiver n w
    receives_from by n channel channel.messages w

  -- with the last message the receiver is gone; else there is another branch point
  abbrev pub drains_on : Bool → ℕ → List D → World D → Result (Passed D × World D) FailureKind
  drains_on true n taken w = do
    channel ← by_receiver n w
    Ok (passed.Turn (turn.Reply w.active (reply.Messages taken)), without_receiver n channel w)
  drains_on false n taken w = Ok (passed.AtBranch, pends (task.Drain n taken) false w)

  abbrev pub drains_from : ℕ → List D → Channel D → List (Message D) → World D → Result (Passed D × World D) FailureKind
  drains_from n taken channel [] w = drains_on true n taken w
  drains_from n taken channel (message ∷ rest) w = do
    _ ← check (fits_behind taken message.value) TooManySteps
    drains_on (is_none_left rest) n (taken ++ message.value) (takes n channel message rest w)

  -- one message of those that the receiver leaves
  abbrev pub drains : ℕ → List D → World D → Result (Passed D × World D) FailureKind
  drains n taken w = do
    channel ← by_receiver n w
    drains_from n taken channel channel.messages w

  -- memory may be refused where a channel is made, and for a message
  abbrev pub needs_memory : ChannelOp D → Bool
  needs_memory New = true
  needs_memory (Send n value) = true
  needs_memory _ = false
