use Rattle.loom_objects.proofs.rt.mpsc.channel_begins.Goals as goal

pub returns-in_ok-channel_new-in-New-clause-does : goal.returns-in_ok-channel_new-in-New-clause-does
returns-in_ok-channel_new-in-New-clause-does g c = rw c.in-New.is c.in_ok-channel_new-in-New.ensures

pub returns-in-Send-clause-does : goal.returns-in-Send-clause-does
returns-in-Send-clause-does g c = rw c.in-Send.is c.send_begins.ensures

pub returns-in-Recv-clause-does : goal.returns-in-Recv-clause-does
returns-in-Recv-clause-does g c = rw c.in-Recv.is c.recv_begins.ensures

pub returns-in-TryRecv-clause-does : goal.returns-in-TryRecv-clause-does
returns-in-TryRecv-clause-does g c = rw c.in-TryRecv.is c.try_recv_begins.ensures

pub returns-in-CloneSender-clause-does : goal.returns-in-CloneSender-clause-does
returns-in-CloneSender-clause-does g c = rw c.in-CloneSender.is c.sender_clone.ensures

pub returns-in-DropSender-clause-does : goal.returns-in-DropSender-clause-does
returns-in-DropSender-clause-does g c = rw c.in-DropSender.is c.sender_drop.ensures

pub returns-in-DropReceiver-clause-does : goal.returns-in-DropReceiver-clause-does
returns-in-DropReceiver-clause-does g c = rw c.in-DropReceiver.is c.receiver_drop.ensures
