-- The cells that replies hold.
use Rattle.std.specs.Prelude.{Option, Some, None}
use Rattle.loom_objects.specs.declared.operation.Reply.{Reply}
use Rattle.loom_objects.specs.declared.operation.Reply.TheVariants.{Cell as CellMade, Reading, Writing}
use Rattle.loom_ops.specs.declared.cell.Cell.{Cell}
use Rattle.loom_ops.specs.declared.cell.ConstPtr.{ConstPtr}
use Rattle.loom_ops.specs.declared.cell.MutPtr.{MutPtr}
use Rattle.loom_ops.specs.declared.cell.UnsafeCell.{UnsafeCell}

module _ {D : Type 0} where
  -- the cell that was made, by the handle of accesses that stay open
  abbrev pub unsafe_cell_handle : Reply D → Option UnsafeCell
  unsafe_cell_handle (CellMade number) = Some (record { number = number })
  unsafe_cell_handle _ = None

  -- the cell that was made, by the handle of accesses that end at once
  abbrev pub cell_handle : Reply D → Option Cell
  cell_handle (CellMade number) = Some (record { number = number })
  cell_handle _ = None

  -- the cell that the thread reads from now on
  abbrev pub reader_handle : Reply D → Option ConstPtr
  reader_handle (Reading number value) = Some (record { number = number })
  reader_handle _ = None

  -- the cell that the thread writes from now on
  abbrev pub writer_handle : Reply D → Option MutPtr
  writer_handle (Writing number value) = Some (record { number = number })
  writer_handle _ = None

  -- the data that it writes
  abbrev pub written_in : Reply D → Option D
  written_in (Writing number value) = Some value
  written_in _ = None

  -- the cell that the thread reads from now on, and a copy of its data
  abbrev pub reader_taken : Reply D → Option (ConstPtr × D)
  reader_taken (Reading number value) = Some (record { number = number }, value)
  reader_taken _ = None

  -- the cell that the thread writes from now on, and its data
  abbrev pub writer_taken : Reply D → Option (MutPtr × D)
  writer_taken (Writing number value) = Some (record { number = number }, value)
  writer_taken _ = None
