use Rattle.loom_objects.proofs.rt.arc.count.Goals as goal

pub returns-in-Clone : goal.returns-in-Clone
returns-in-Clone g c = rw c.in-Clone.is c.increment.ensures

pub returns-in-Drop : goal.returns-in-Drop
returns-in-Drop g c = rw c.in-Drop.is c.decrement.ensures

pub returns-in-GetMut : goal.returns-in-GetMut
returns-in-GetMut g c = rw c.in-GetMut.is c.take_out.ensures

pub returns-in-Unwrap : goal.returns-in-Unwrap
returns-in-Unwrap g c = rw c.in-Unwrap.is c.unwrap.ensures

pub returns-in-StrongCount : goal.returns-in-StrongCount
returns-in-StrongCount g c = rw c.in-StrongCount.is c.tell_count.ensures
