-- What the threads of the spin lock do: from what a thread awaits and a reply, what it awaits next and its operation.
use Rattle.std.specs.Prelude.{ℕ, ◌+◌, ◌%◌, ◌^◌, ◌==◌, Bool, not, Option, Some, None, Result, Ok, Err}
use Rattle.std.specs.Option.{option_map}
use Rattle.std.specs.declared.sync.atomic.Ordering.{Ordering}
use Rattle.std.specs.declared.sync.atomic.Ordering.TheVariants.{Acquire, Relaxed}
use Rattle.loom_views.specs.declared.rt.num.Numbers.TheVariants as numbers
use Rattle.loom_objects.specs.declared.operation.AtomicOp.TheVariants as atomic
use Rattle.loom_objects.specs.declared.operation.CellOp.TheVariants as cells
use Rattle.loom_objects.specs.declared.operation.Request.TheVariants.{Atomic as OnAtomic, Cell as OnCell, Thread as OnThread, Fail}
use Rattle.loom_objects.specs.declared.operation.Reply.{Reply}
use Rattle.loom_objects.specs.declared.operation.ThreadOp.TheVariants.{Spawn}
use Rattle.loom_objects.specs.Operation.Labelled.{Op, bare}
use Rattle.loom_ops.specs.Atomic.{atomic_handle, exchange, exchanged_in}
use Rattle.loom_ops.specs.Cell.{unsafe_cell_handle, writer_taken}
use Rattle.loom_ops.specs.Thread.{leave, yielding}
use Rattle.loom_ops.specs.declared.cell.MutPtr.{MutPtr}
use Rattle.loom_ops.specs.declared.cell.UnsafeCell.{UnsafeCell}
use Rattle.loom_ops.specs.declared.sync.atomic.Atomic.{Atomic}
use Rattle.loom_ops.specs.declared.thread.Leaving.TheVariants as left
use Rattle.loom_examples.specs.declared.bodies.spin.Awaits.{Awaits}
use Rattle.loom_examples.specs.declared.bodies.spin.Awaits.TheVariants.{Main, TheFlag, TheCell, Trying, TheLock, TheNumber, Written, Leaving}
use Rattle.loom_examples.specs.declared.bodies.spin.Spin.{Spin}

-- main before its first operation
abbrev pub begun : Ordering → Spin
begun release = record { release = release; awaits = Main }

abbrev pub Turn : Type 0
Turn = Option (Awaits × Op ℕ Spin)

-- the cell was made: another thread begins beside main
abbrev pub spawns : Spin → Awaits → Awaits × Op ℕ Spin
spawns s awaits = (awaits, bare (OnThread (Spawn (record s { awaits = awaits }) None)))

-- where the flag was false the thread has the lock, and else it lets others go first
abbrev pub tried : Atomic Bool → UnsafeCell → Result Bool Bool → Awaits × Op ℕ Spin
tried flag cell (Ok old) = (TheNumber flag, bare (OnCell (cells.Write cell.number)))
tried flag cell (Err old) = (Trying flag cell, yielding)

-- the next number takes the place of the one in the cell
abbrev pub counts : Atomic Bool → MutPtr × ℕ → Awaits × Op ℕ Spin
counts flag found = (Written flag, bare (OnCell (cells.WriteEnd found.0.number ((found.1 + 1) % 2 ^ 64))))

abbrev pub turn : Spin → Awaits → Reply ℕ → Turn
turn s Main reply = Some (TheFlag, bare (OnAtomic (atomic.New numbers.Bool 0)))
turn s TheFlag reply = option_map (λ flag. (TheCell flag, bare (OnCell (cells.New 0)))) (atomic_handle reply)
turn s (TheCell flag) reply = option_map (λ cell. spawns s (Trying flag cell)) (unsafe_cell_handle reply)
turn s (Trying flag cell) reply = Some (TheLock flag cell, exchange flag.number 0 1 Acquire Relaxed)
turn s (TheLock flag cell) reply = option_map (tried flag cell) (exchanged_in (λ n. not (n == 0)) reply)
turn s (TheNumber flag) reply = option_map (counts flag) (writer_taken reply)
turn s (Written flag) reply = Some (Leaving left.Finish, bare (OnAtomic (atomic.Store flag.number 0 s.release)))
turn s (Leaving leaving) reply = let next = leave 0 leaving in Some (Leaving next.0, next.1)

abbrev pub resumed : Spin → Turn → Spin × Op ℕ Spin
resumed s None = (s, bare Fail)
resumed s (Some next) = (record s { awaits = next.0 }, next.1)

-- a thread's meaning
abbrev pub next_of : Spin → Reply ℕ → Spin × Op ℕ Spin
next_of s reply = resumed s (turn s s.awaits reply)
