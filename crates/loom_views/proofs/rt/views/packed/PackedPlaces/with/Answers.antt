use Rattle.loom_views.proofs.rt.views.packed.PackedPlaces.with.Goals as goal

pub returns-in-Point : goal.returns-in-Point
returns-in-Point c = rw c.in-Point.is (rw c.self.view_is at c.with_other.ensures)

pub returns-in-Cell : goal.returns-in-Cell
returns-in-Cell c = rw c.in-Cell.is (rw c.self.view_is at c.with_other-in-Cell.ensures)

pub returns-in-Atomic : goal.returns-in-Atomic
returns-in-Atomic c = rw c.in-Atomic.is (rw c.self.view_is at c.with_atomic.ensures)
