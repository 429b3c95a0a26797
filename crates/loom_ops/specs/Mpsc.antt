-- The ends of channels that replies hold.
use Rattle.std.specs.Prelude.{Option, Some, None}
use Rattle.loom_objects.specs.declared.operation.Reply.{Reply}
use Rattle.loom_objects.specs.declared.operation.Reply.TheVariants.{Channel as ChannelMade}
use Rattle.loom_ops.specs.declared.sync.mpsc.Receiver.{Receiver}
use Rattle.loom_ops.specs.declared.sync.mpsc.Sender.{Sender}

module _ {D : Type 0} where
  -- the sender of the channel that was made
  abbrev pub sender_handle : Reply D → Option Sender
  sender_handle (ChannelMade number) = Some (record { number = number })
  sender_handle _ = None

  -- its receiver
  abbrev pub receiver_handle : Reply D → Option Receiver
  receiver_handle (ChannelMade number) = Some (record { number = number })
  receiver_handle _ = None
