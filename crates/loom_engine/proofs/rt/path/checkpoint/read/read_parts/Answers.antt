use Rattle.std.proofs.Common.{refl}
use Rattle.loom_engine.specs.Checkpoint.Reader.{shape_of}
use Rattle.loom_engine.proofs.rt.path.checkpoint.read.read_parts.Goals as goal

pub returns-in_err-preemption_bound : goal.returns-in_err-preemption_bound
unfolding shape_of
returns-in_err-preemption_bound c = rw (c.from_residual-in_err-preemption_bound.ensures, ← c.in_ok-as_object.ensures, ← c.iter-members.ensures.rest, c.in_ok-exploring.ensures, c.in_ok-nodes.ensures, c.in_ok-order.ensures, c.in_err-preemption_bound.ensures) refl

pub returns-in_err-reduce : goal.returns-in_err-reduce
unfolding shape_of
returns-in_err-reduce c = rw (c.from_residual-in_err-reduce.ensures, ← c.in_ok-as_object.ensures, ← c.iter-members.ensures.rest, c.in_ok-exploring.ensures, c.in_ok-nodes.ensures, c.in_ok-order.ensures, c.in_ok-preemption_bound.ensures, c.in_err-reduce.ensures) refl

pub returns-in_err-version : goal.returns-in_err-version
unfolding shape_of
returns-in_err-version c = rw (c.from_residual-in_err-version.ensures, ← c.in_ok-as_object.ensures, ← c.iter-members.ensures.rest, c.in_ok-exploring.ensures, c.in_ok-nodes.ensures, c.in_ok-order.ensures, c.in_ok-preemption_bound.ensures, c.in_ok-reduce.ensures, c.in_err-version.ensures) refl

pub returns-then-not-is_end : goal.returns-then-not-is_end
unfolding shape_of
returns-then-not-is_end c = rw (← c.in_ok-as_object.ensures, ← c.iter-members.ensures.rest, c.in_ok-exploring.ensures, c.in_ok-nodes.ensures, c.in_ok-order.ensures, c.in_ok-preemption_bound.ensures, c.in_ok-reduce.ensures, c.in_ok-version.ensures, ← c.if-not-is_end.ensures) refl

pub returns : goal.returns
unfolding shape_of
returns c = rw (← c.in_ok-as_object.ensures, ← c.iter-members.ensures.rest, c.in_ok-exploring.ensures, c.in_ok-nodes.ensures, c.in_ok-order.ensures, c.in_ok-preemption_bound.ensures, c.in_ok-reduce.ensures, c.in_ok-version.ensures, ← c.if-not-is_end.ensures) refl
