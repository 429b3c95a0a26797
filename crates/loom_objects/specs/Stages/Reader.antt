-- How an access reads.
use Rattle.loom_views.specs.declared.rt.atomic.reader.Reader.{Reader}
use Rattle.loom_views.specs.declared.rt.atomic.reader.Reader.TheVariants as reader
use Rattle.loom_objects.specs.declared.operation.AtomicOp.{AtomicOp}
use Rattle.loom_objects.specs.declared.operation.AtomicOp.TheVariants.{New, Load, Store, Update, CompareExchange, CompareAndSwap, UnsyncLoad, IntoInner, WithMut, WithMutEnd}

-- a load reads by its ordering, and another access for a read-modify-write
abbrev pub reader_of : AtomicOp → Reader
reader_of (Load n order) = reader.Load order
reader_of (New numbers value) = reader.Update
reader_of (Store n value order) = reader.Update
reader_of (Update n change order) = reader.Update
reader_of (CompareExchange n exchange) = reader.Update
reader_of (CompareAndSwap n expected new order) = reader.Update
reader_of (UnsyncLoad n) = reader.Update
reader_of (IntoInner n) = reader.Update
reader_of (WithMut n) = reader.Update
reader_of (WithMutEnd n value) = reader.Update
