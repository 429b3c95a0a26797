-- The first message of a channel is taken, and put to those that were taken before.
-- Parts of what is done with a channel: a message is taken, and then the channel is looked at again.
use Rattle.std.specs.Prelude.{ℕ, ◌++◌, List, [], ◌∷◌, Option, Some, None, Result, Ok, nat_lt, ⊤}
use Rattle.loom_views.specs.declared.rt.failure.FailureKind.{FailureKind}
use Rattle.loom_views.specs.declared.rt.failure.FailureKind.TheVariants.{TooManySteps, Misuse}
use Rattle.loom_objects.specs.declared.operation.Message.{Message}
use Rattle.loom_objects.specs.declared.rt.mpsc.Channel.{Channel}
use Rattle.loom_objects.specs.Rules.Mpsc.{by_receiver, fits_behind, takes, drains_on, first_of}
use Rattle.loom_objects.specs.Rules.Rule.{◌>>=◌, check, found}
use Rattle.loom_objects.specs.World.{World}
use Rattle.loom_objects.specs.declared.operation.Reply.{Reply}
use Rattle.loom_objects.specs.declared.operation.Reply.TheVariants as reply
use Rattle.loom_objects.specs.declared.rt.object.Object.{Object}
use Rattle.loom_objects.specs.declared.rt.run.Passed.{Passed}
use Rattle.loom_objects.specs.Rules.Leaks.{is_none_left}
use Rattle.loom_objects.specs.Scene.Lookup.{channel_at}

module _ {D : Type 0} where
  abbrev pub takes_from : ℕ → Channel D → List (Message D) → World D → Result (Option (Message D) × World D) FailureKind
  takes_from n channel [] w = Ok (None, w)
  takes_from n channel (message ∷ rest) w = Ok (Some message, takes n channel message rest w)

  -- the first message, from whose point the thread acquires
  abbrev pub takes_first : ℕ → World D → Result (Option (Message D) × World D) FailureKind
  takes_first n w = do
    channel ← by_receiver n w
    takes_from n channel channel.messages w

  -- what a message holds goes behind the values that were taken
  abbrev pub gathers : List D → Option (Message D) → Result (List D) FailureKind
  gathers taken None = Ok taken
  gathers taken (Some message) = do
    _ ← check (fits_behind taken message.value) TooManySteps
    Ok (taken ++ message.value)

module _ {D : Type 0} where
  -- a sender of channel n is left
  abbrev pub has_sender : ℕ → List (Object D) → Result ⊤ FailureKind
  has_sender n objects = do
    channel ← channel_at n objects
    check (nat_lt 0 channel.senders) Misuse

  -- the stamp of the message that is sent
  abbrev pub first_stamp : List (Message D) → Result ℕ FailureKind
  first_stamp sent = do
    message ← found (first_of sent) Misuse
    Ok message.stamp

  -- what a message holds
  abbrev pub content : Message D → Result D FailureKind
  content message = found (first_of message.value) Misuse

  -- what it holds, where nobody receives
  abbrev pub gives_back : List (Message D) → Result (Reply D) FailureKind
  gives_back sent = do
    message ← found (first_of sent) Misuse
    value ← content message
    Ok (reply.SendError value)

  -- without another message the receiver is gone; else there is another branch point
  abbrev pub goes_on : ℕ → List D → World D → Result (Passed D × World D) FailureKind
  goes_on n taken w = do
    channel ← by_receiver n w
    drains_on (is_none_left channel.messages) n taken w
