-- Which atomic an operation is on.
use Rattle.std.specs.Prelude.{ℕ, Option, Some, None}
use Rattle.loom_objects.specs.declared.operation.AtomicOp.{AtomicOp}
use Rattle.loom_objects.specs.declared.operation.AtomicOp.TheVariants.{New, Load, Store, Update, CompareExchange, CompareAndSwap, UnsyncLoad, IntoInner, WithMut, WithMutEnd}

-- the number of the atomic that it is an operation of
abbrev pub accessed : AtomicOp → Option ℕ
accessed (New numbers value) = None
accessed (Load n order) = Some n
accessed (Store n value order) = Some n
accessed (Update n change order) = Some n
accessed (CompareExchange n exchange) = Some n
accessed (CompareAndSwap n expected new order) = Some n
accessed (UnsyncLoad n) = Some n
accessed (IntoInner n) = Some n
accessed (WithMut n) = Some n
accessed (WithMutEnd n value) = Some n
