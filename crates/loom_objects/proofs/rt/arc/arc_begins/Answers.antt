use Rattle.loom_objects.proofs.rt.arc.arc_begins.Goals as goal

pub returns-in_ok-arc_new-in-New-clause-does : goal.returns-in_ok-arc_new-in-New-clause-does
returns-in_ok-arc_new-in-New-clause-does g c = rw c.in-New.is c.in_ok-arc_new-in-New.ensures

pub returns-in-Get-clause-does : goal.returns-in-Get-clause-does
returns-in-Get-clause-does g c = rw (c.in-Get.is, c.memory_outside.ensures) c.arc_get.ensures

pub returns-in-Put-clause-does : goal.returns-in-Put-clause-does
returns-in-Put-clause-does g c = rw c.in-Put.is c.arc_put.ensures

pub returns-in-Clone-clause-does : goal.returns-in-Clone-clause-does
returns-in-Clone-clause-does g c = rw c.in-Clone.is c.count_begins.ensures

pub returns-in-Drop-clause-does : goal.returns-in-Drop-clause-does
returns-in-Drop-clause-does g c = rw c.in-Drop.is c.count_begins-in-Drop.ensures

pub returns-in-GetMut-clause-does : goal.returns-in-GetMut-clause-does
returns-in-GetMut-clause-does g c = rw c.in-GetMut.is c.count_begins-in-GetMut.ensures

pub returns-in-StrongCount-clause-does : goal.returns-in-StrongCount-clause-does
returns-in-StrongCount-clause-does g c = rw c.in-StrongCount.is c.count_begins-in-StrongCount.ensures

pub returns-in-TryUnwrap-clause-does : goal.returns-in-TryUnwrap-clause-does
returns-in-TryUnwrap-clause-does g c = rw c.in-TryUnwrap.is c.unwrap_begins.ensures
