-- What cells do.
use Rattle.std.specs.Prelude.{ℕ, ◌+◌, ◌-◌, ◌==◌, ◌&&◌, Bool, true, false, nat_lt, [], ◌∷◌, ◌++◌, length, is_none, slice_get, slice_set, if◌then◌else◌, Option, Some, None, Result, Ok, Err, ⊤}
use Rattle.std.specs.List.{list_all}
use Rattle.loom_views.specs.Views.{points_with_cell, points_after_read, points_after_write}
use Rattle.loom_views.specs.declared.rt.failure.FailureKind.{FailureKind}
use Rattle.loom_views.specs.declared.rt.failure.FailureKind.TheVariants.{Misuse, OpenAccess, TooManySteps}
use Rattle.loom_views.specs.Limits.{highest_count}
use Rattle.loom_objects.specs.declared.operation.CellOp.{CellOp}
use Rattle.loom_objects.specs.declared.operation.CellOp.TheVariants.{New, Read, ReadEnd, Deref, Write, WriteEnd, IntoInner, Get, Replace, Swap}
use Rattle.loom_objects.specs.declared.operation.Reply.TheVariants as reply
use Rattle.loom_objects.specs.declared.rt.object.Object.TheVariants as object
use Rattle.loom_objects.specs.declared.rt.run.Entry.{Entry}
use Rattle.loom_objects.specs.declared.rt.run.Entry.TheVariants.{Answered}
use Rattle.loom_objects.specs.declared.rt.cell.Cell.{Cell}
use Rattle.loom_objects.specs.Lent.{kept, value_in, taken_apart}
use Rattle.loom_objects.specs.Rules.Rule.{◌>>=◌, check, found}
use Rattle.loom_objects.specs.World.{World}
use Rattle.loom_objects.specs.Rules.Moves.{a_cell, is_number, raises, with_object, with_points}

abbrev pub count_of : Option ℕ → ℕ
count_of None = 0
count_of (Some count) = count

abbrev pub is_zero : ℕ → Bool
is_zero count = count == 0

module _ {D : Type 0} where
  -- how many reads the thread has open
  abbrev pub reads_open : ℕ → Cell D → ℕ
  reads_open t cell = count_of (slice_get cell.readers t)

  -- the thread has this many open
  abbrev pub with_reads : ℕ → ℕ → Cell D → Cell D
  with_reads t count cell = record cell { readers = slice_set cell.readers t count }

  abbrev pub is_unread : Cell D → Bool
  is_unread cell = list_all is_zero cell.readers

  -- no thread has it open
  abbrev pub is_free : Cell D → Bool
  is_free cell = is_none cell.content.lent && is_unread cell

  -- it holds this now, and this thread has it open for writing, which has its data out
  abbrev pub holding : Option D → Option ℕ → Cell D → Cell D
  holding value writer cell = record cell { content = record cell.content { value = value; lent = writer } }

  -- the data, if no thread has the cell open
  abbrev pub data_left : Cell D → Result D FailureKind
  data_left cell = if is_free cell then found (value_in cell.content) Misuse else Err OpenAccess

  abbrev pub new_cell : D → Cell D
  new_cell value = record { content = kept value; readers = 0 ∷ 0 ∷ 0 ∷ 0 ∷ 0 ∷ [] }

  -- the cell of this number is now so
  abbrev pub with_cell : ℕ → Cell D → World D → World D
  with_cell n cell w = with_object n (object.Cell cell) w

  -- the active thread reads the cell, which is recorded
  abbrev pub records_read : ℕ → World D → Result (World D) FailureKind
  records_read n w = do
    points ← points_after_read w.points w.active n
    Ok (with_points points w)

  -- it writes the cell
  abbrev pub records_write : ℕ → World D → Result (World D) FailureKind
  records_write n w = do
    points ← points_after_write w.points w.active n
    Ok (with_points points w)

  -- a new cell with this data, whose number is how many objects there were
  abbrev pub cell_new : D → World D → Result (Entry D × World D) FailureKind
  cell_new value w =
      Ok (Answered (reply.Cell (length w.objects)), with_points (points_with_cell w.points w.active) (record w { objects = w.objects ++ object.Cell (new_cell value) ∷ [] }))

  -- the thread raises and reads, and has one read more open. A run ends before it has 2^64, since each is an operation
  abbrev pub cell_read : ℕ → World D → Result (Entry D × World D) FailureKind
  cell_read n w = do
    cell ← a_cell n w
    raised ← raises w
    _ ← check (is_none cell.content.lent) OpenAccess
    read ← records_read n raised
    value ← found (value_in cell.content) Misuse
    _ ← check (nat_lt (reads_open w.active cell) highest_count) TooManySteps
    Ok (Answered (reply.Reading n value), with_cell n (with_reads w.active (reads_open w.active cell + 1) cell) read)

  -- a read of the thread ends
  abbrev pub cell_read_end : ℕ → World D → Result (Entry D × World D) FailureKind
  cell_read_end n w = do
    cell ← a_cell n w
    _ ← check (nat_lt 0 (reads_open w.active cell)) Misuse
    _ ← check (is_none cell.content.lent) OpenAccess
    read ← records_read n w
    Ok (Answered reply.Done, with_cell n (with_reads w.active (reads_open w.active cell - 1) cell) read)

  -- another copy, in a read of the thread
  abbrev pub cell_deref : ℕ → World D → Result (Entry D × World D) FailureKind
  cell_deref n w = do
    cell ← a_cell n w
    _ ← check (nat_lt 0 (reads_open w.active cell)) Misuse
    value ← found (value_in cell.content) Misuse
    Ok (Answered (reply.Data value), w)

  -- the thread raises and writes, and the data goes out
  abbrev pub cell_write : ℕ → World D → Result (Entry D × World D) FailureKind
  cell_write n w = do
    cell ← a_cell n w
    raised ← raises w
    _ ← check (is_free cell) OpenAccess
    written ← records_write n raised
    value ← found (value_in cell.content) Misuse
    Ok (Answered (reply.Writing n value), with_cell n (holding None (Some w.active) cell) written)

  -- the thread that has the data out puts some back
  abbrev pub cell_write_end : ℕ → D → World D → Result (Entry D × World D) FailureKind
  cell_write_end n value w = do
    cell ← a_cell n w
    _ ← check (is_number cell.content.lent w.active) Misuse
    _ ← check (is_unread cell) OpenAccess
    written ← records_write n w
    Ok (Answered reply.Done, with_cell n (holding (Some value) None cell) written)

  -- the data, after which the cell is taken apart
  abbrev pub cell_into_inner : ℕ → World D → Result (Entry D × World D) FailureKind
  cell_into_inner n w = do
    cell ← a_cell n w
    value ← data_left cell
    Ok (Answered (reply.Data value), with_cell n (record cell { content = taken_apart cell.content }) w)

  -- a read that begins and ends
  abbrev pub cell_get : ℕ → World D → Result (Entry D × World D) FailureKind
  cell_get n w = do
    cell ← a_cell n w
    raised ← raises w
    _ ← check (is_none cell.content.lent) OpenAccess
    read ← records_read n raised
    value ← found (value_in cell.content) Misuse
    ended ← records_read n read
    Ok (Answered (reply.Data value), ended)

  -- a write that begins and ends
  abbrev pub cell_replace : ℕ → D → World D → Result (Entry D × World D) FailureKind
  cell_replace n new w = do
    cell ← a_cell n w
    raised ← raises w
    _ ← check (is_free cell) OpenAccess
    written ← records_write n raised
    value ← found (value_in cell.content) Misuse
    ended ← records_write n written
    Ok (Answered (reply.Data value), with_cell n (holding (Some new) None cell) ended)

  -- a read begins: the thread raises, and no thread writes the cell
  abbrev pub opens_read : ℕ → World D → Result (⊤ × World D) FailureKind
  opens_read n w = do
    cell ← a_cell n w
    raised ← raises w
    _ ← check (is_none cell.content.lent) OpenAccess
    read ← records_read n raised
    Ok (tt, read)

  -- a write begins: the thread raises, and no thread has the cell open
  abbrev pub opens_write : ℕ → World D → Result (⊤ × World D) FailureKind
  opens_write n w = do
    cell ← a_cell n w
    raised ← raises w
    _ ← check (is_free cell) OpenAccess
    written ← records_write n raised
    Ok (tt, written)

  -- the writes of both cells end, the later one first, and each holds what the other one held
  abbrev pub exchanges_cells : ℕ → ℕ → World D → Result (Entry D × World D) FailureKind
  exchanges_cells n m w = do
    one ← a_cell n w
    other ← a_cell m w
    of_one ← found (value_in one.content) Misuse
    of_other ← found (value_in other.content) Misuse
    written ← records_write m w
    ended ← records_write n written
    Ok (Answered reply.Done, with_cell n (holding (Some of_other) None one) (with_cell m (holding (Some of_one) None other) ended))

  -- a cell keeps its data, where it is both
  abbrev pub swap_if : Bool → ℕ → ℕ → World D → Result (Entry D × World D) FailureKind
  swap_if true n m w = Ok (Answered reply.Done, w)
  swap_if false n m w = do
    opened ← opens_write n w
    both ← opens_write m opened.1
    exchanges_cells n m both.1

  -- two cells exchange their data, by a write of each
  abbrev pub cell_swap : ℕ → ℕ → World D → Result (Entry D × World D) FailureKind
  cell_swap n m w = do
    _ ← a_cell n w
    _ ← a_cell m w
    swap_if (n == m) n m w

  abbrev pub cell_begins : CellOp D → World D → Result (Entry D × World D) FailureKind
  cell_begins (New value) w = cell_new value w
  cell_begins (Read n) w = cell_read n w
  cell_begins (ReadEnd n) w = cell_read_end n w
  cell_begins (Deref n) w = cell_deref n w
  cell_begins (Write n) w = cell_write n w
  cell_begins (WriteEnd n value) w = cell_write_end n value w
  cell_begins (IntoInner n) w = cell_into_inner n w
  cell_begins (Get n) w = cell_get n w
  cell_begins (Replace n new) w = cell_replace n new w
  cell_begins (Swap n m) w = cell_swap n m w

  -- memory may be refused where a cell is made, or data is copied
  abbrev pub needs_memory : CellOp D → Bool
  needs_memory (New value) = true
  needs_memory (Read n) = true
  needs_memory (Deref n) = true
  needs_memory (Get n) = true
  needs_memory _ = false
