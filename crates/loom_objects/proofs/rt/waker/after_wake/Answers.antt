use Rattle.loom_objects.proofs.rt.waker.after_wake.Goals as goal

pub returns-in-Done : goal.returns-in-Done
returns-in-Done g c = rw c.in-Done.is c.answered.ensures

pub returns-in-Drop : goal.returns-in-Drop
returns-in-Drop g c = rw c.in-Drop.is c.pend_next.ensures
