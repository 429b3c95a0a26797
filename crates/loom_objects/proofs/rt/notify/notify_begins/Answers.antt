use Rattle.loom_objects.proofs.rt.notify.notify_begins.Goals as goal

pub returns-in_ok-notify_new-in-New-clause-does : goal.returns-in_ok-notify_new-in-New-clause-does
returns-in_ok-notify_new-in-New-clause-does g c = rw c.in-New.is c.in_ok-notify_new-in-New.ensures

pub returns-in-Notify-clause-does : goal.returns-in-Notify-clause-does
returns-in-Notify-clause-does g c = rw c.in-Notify.is c.notify_one_begins.ensures

pub returns-in-Wait-clause-does : goal.returns-in-Wait-clause-does
returns-in-Wait-clause-does g c = rw c.in-Wait.is c.wait_begins.ensures
