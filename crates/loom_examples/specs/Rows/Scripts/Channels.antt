-- The scripts of the rows about channels.
use Rattle.std.specs.Prelude.{List, [], ◌∷◌, Some, codes}
use Rattle.loom_objects.specs.declared.operation.ChannelOp.TheVariants as channel
use Rattle.loom_objects.specs.declared.operation.ThreadOp.TheVariants as threads
use Rattle.loom_objects.specs.declared.operation.Request.TheVariants as op
use Rattle.loom_objects.specs.Text.{first_text}
use Rattle.loom_examples.specs.Scripts.Written.{Written, Do, Label, JumpTo, UnlessTo, SpawnAt}
use Rattle.loom_examples.specs.declared.scripts.step.Value.TheVariants.{Plain, Held, Both}
use Rattle.loom_examples.specs.Rows.Steps.{exit, end, fail}

abbrev pub finish : Written
finish = Do 0 (op.Thread (threads.Finish (Plain 7)))

-- Main sends 5, receives it, drops both ends, and finishes with what it received.
abbrev pub send_then_recv : List Written
send_then_recv =
    Do 0 (op.Channel channel.New) ∷ Do 0 (op.Channel (channel.Send 0 (Plain 5))) ∷
    Do 0 (op.Channel (channel.Recv 0)) ∷ Do 1 (op.Channel (channel.DropSender 0)) ∷
    Do 1 (op.Channel (channel.DropReceiver 0)) ∷ Do 0 (op.Thread (threads.Finish (Held 0))) ∷ exit ∷ end ∷ []

-- Main drops the only sender, and asserts that nothing can be received then.
abbrev pub recv_after_drop : List Written
recv_after_drop =
    Do 0 (op.Channel channel.New) ∷ Do 0 (op.Channel (channel.DropSender 0)) ∷
    Do 0 (op.Channel (channel.Recv 0)) ∷ UnlessTo 3 2 (codes "wrong") ∷
    Do 1 (op.Channel (channel.DropReceiver 0)) ∷ finish ∷ exit ∷ end ∷ Label (codes "wrong") ∷ fail ∷ []

-- Two threads each send a number, 5 and 6. Main receives twice, and finishes with ten times the first number and the second
-- (loom's `tests/mpsc.rs`).
abbrev pub commutative_senders : List Written
commutative_senders =
    Do 0 (op.Channel channel.New) ∷ Do 0 (op.Channel (channel.CloneSender 0)) ∷ SpawnAt 1 (codes "first") ∷
    SpawnAt 2 (codes "second") ∷ Do 0 (op.Channel (channel.Recv 0)) ∷ Do 1 (op.Channel (channel.Recv 0)) ∷
    Do 2 (op.Channel (channel.DropReceiver 0)) ∷ Do 0 (op.Thread (threads.Finish (Both 0 1))) ∷ exit ∷ end ∷
    Label (codes "first") ∷ Do 0 (op.Channel (channel.Send 0 (Plain 5))) ∷ Label (codes "again") ∷
    Do 0 (op.Channel (channel.DropSender 0)) ∷ finish ∷ exit ∷ end ∷ Label (codes "second") ∷
    Do 0 (op.Channel (channel.Send 0 (Plain 6))) ∷ JumpTo (codes "again") ∷ []

-- The one before, but main asserts that the first number is 5 (loom's `tests/mpsc.rs`).
abbrev pub non_commutative_senders1 : List Written
non_commutative_senders1 =
    Do 0 (op.Channel channel.New) ∷ Do 0 (op.Channel (channel.CloneSender 0)) ∷ SpawnAt 1 (codes "first") ∷
    SpawnAt 2 (codes "second") ∷ Do 0 (op.Channel (channel.Recv 0)) ∷ UnlessTo 0 5 (codes "wrong") ∷
    Do 1 (op.Channel (channel.Recv 0)) ∷ Do 2 (op.Channel (channel.DropReceiver 0)) ∷ finish ∷ exit ∷ end ∷
    Label (codes "wrong") ∷ fail ∷ Label (codes "first") ∷ Do 0 (op.Channel (channel.Send 0 (Plain 5))) ∷
    Label (codes "again") ∷ Do 0 (op.Channel (channel.DropSender 0)) ∷ finish ∷ exit ∷ end ∷
    Label (codes "second") ∷ Do 0 (op.Channel (channel.Send 0 (Plain 6))) ∷ JumpTo (codes "again") ∷ []

-- Main asserts that a new channel is empty, and drops both ends.
abbrev pub try_recv_empty : List Written
try_recv_empty =
    Do 0 (op.Channel channel.New) ∷ Do 0 (op.Channel (channel.TryRecv 0)) ∷ UnlessTo 3 1 (codes "wrong") ∷
    Do 0 (op.Channel (channel.DropSender 0)) ∷ Do 0 (op.Channel (channel.DropReceiver 0)) ∷ finish ∷ exit ∷
    end ∷ Label (codes "wrong") ∷ fail ∷ []

-- Main sends 1 and 2, asserts that it receives the 1, and that the receiver has the 2 alone when it is dropped (loom's
-- `tests/mpsc.rs`).
abbrev pub drop_receiver : List Written
drop_receiver =
    Do 0 (op.Channel channel.New) ∷ Do 0 (op.Channel (channel.Send 0 (Plain 1))) ∷
    Do 0 (op.Channel (channel.Send 0 (Plain 2))) ∷ Do 0 (op.Channel (channel.Recv 0)) ∷
    UnlessTo 0 1 (codes "wrong") ∷ Do 1 (op.Channel (channel.DropReceiver 0)) ∷ UnlessTo 1 12 (codes "wrong") ∷
    Do 0 (op.Channel (channel.DropSender 0)) ∷ finish ∷ exit ∷ end ∷ Label (codes "wrong") ∷ fail ∷ []

-- Main sends a number, and ends.
abbrev pub message_left : List Written
message_left =
    Do 0 (op.Channel channel.New) ∷ Do 0 (op.Channel (channel.Send 0 (Plain 5))) ∷ finish ∷ exit ∷ end ∷ []

-- Main drops the receiver, and asserts that the 5 that it sends then comes back.
abbrev pub send_late : List Written
send_late =
    Do 0 (op.Channel channel.New) ∷ Do 0 (op.Channel (channel.DropReceiver 0)) ∷
    Do 0 (op.Channel (channel.Send 0 (Plain 5))) ∷ UnlessTo 3 5 (codes "wrong") ∷
    Do 0 (op.Channel (channel.DropSender 0)) ∷ finish ∷ exit ∷ end ∷ Label (codes "wrong") ∷ fail ∷ []

-- Main spawns a thread with a name, which sends the name, and finishes with what it receives (loom's `tests/thread_api.rs`).
abbrev pub name_sent : List Written
name_sent =
    Do 0 (op.Channel channel.New) ∷
    Do 1 (op.Thread (threads.Spawn 8 (Some (record { text = first_text (codes "foobar") })))) ∷
    Do 0 (op.Channel (channel.Recv 0)) ∷ Do 1 (op.Thread (threads.Join 1 1)) ∷
    Do 1 (op.Channel (channel.DropReceiver 0)) ∷ Do 0 (op.Thread (threads.Finish (Held 0))) ∷ exit ∷ end ∷
    Do 2 (op.Thread threads.Current) ∷ Do 0 (op.Channel (channel.Send 0 (Held 2))) ∷
    Do 0 (op.Channel (channel.DropSender 0)) ∷ finish ∷ exit ∷ end ∷ []
