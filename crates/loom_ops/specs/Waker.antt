-- The wakers, their notifiers, and the atomic wakers that replies hold.
use Rattle.std.specs.Prelude.{Option, Some, None}
use Rattle.loom_objects.specs.declared.operation.Reply.{Reply}
use Rattle.loom_objects.specs.declared.operation.Reply.TheVariants.{AtomicWaker as AtomicWakerMade, BlockOn as BlockOnMade, Waker as WakerTaken}
use Rattle.loom_ops.specs.declared.future.atomic_waker.AtomicWaker.{AtomicWaker}
use Rattle.loom_ops.specs.declared.future.BlockOn.{BlockOn}
use Rattle.loom_ops.specs.declared.future.Waker.{Waker}

module _ {D : Type 0} where
  -- what was made to drive a future
  abbrev pub block_on_handle : Reply D → Option BlockOn
  block_on_handle (BlockOnMade number) = Some (record { number = number })
  block_on_handle _ = None

  -- the waker that was taken out of its place, or the one that is lent
  abbrev pub waker_handle : Reply D → Option Waker
  waker_handle (BlockOnMade number) = Some (record { number = number })
  waker_handle (WakerTaken number) = Some (record { number = number })
  waker_handle _ = None

  -- the atomic waker that was made
  abbrev pub atomic_waker_handle : Reply D → Option AtomicWaker
  atomic_waker_handle (AtomicWakerMade number) = Some (record { number = number })
  atomic_waker_handle _ = None
