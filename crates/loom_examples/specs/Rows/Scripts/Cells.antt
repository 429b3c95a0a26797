-- The scripts of the rows about cells, counted references and tracked values.
use Rattle.std.specs.Prelude.{List, [], ◌∷◌, codes}
use Rattle.std.specs.declared.sync.atomic.Ordering.TheVariants.{Release, Acquire}
use Rattle.loom_views.specs.declared.rt.num.Numbers.TheVariants as numbers
use Rattle.loom_objects.specs.declared.operation.ArcOp.TheVariants as arc
use Rattle.loom_objects.specs.declared.operation.AtomicOp.TheVariants as atomic
use Rattle.loom_objects.specs.declared.operation.CellOp.TheVariants as cell
use Rattle.loom_objects.specs.declared.operation.ThreadOp.TheVariants as threads
use Rattle.loom_objects.specs.declared.operation.TrackOp.TheVariants as track
use Rattle.loom_objects.specs.declared.operation.Request.TheVariants as op
use Rattle.loom_examples.specs.Scripts.Written.{Written, Do, Label, UnlessTo, SpawnAt}
use Rattle.loom_examples.specs.declared.scripts.step.Value.TheVariants.{Plain, Held, Next}
use Rattle.loom_examples.specs.Rows.Steps.{exit, end, fail}

-- A thread writes a cell and releases that by an atomic. Main reads the cell where it acquires that, before and after it joins
-- the thread, and asserts what it reads (loom's `tests/unsafe_cell.rs`).
abbrev pub atomic_causality_success : List Written
atomic_causality_success =
    Do 0 (op.Cell (cell.New (Plain 0))) ∷ Do 1 (op.Atomic (atomic.New numbers.U64 0)) ∷
    SpawnAt 2 (codes "child") ∷ Do 0 (op.Atomic (atomic.Load 1 Acquire)) ∷ UnlessTo 0 1 (codes "join") ∷
    Do 1 (op.Cell (cell.Read 0)) ∷ UnlessTo 1 123 (codes "wrong") ∷ Do 0 (op.Cell (cell.ReadEnd 0)) ∷
    Label (codes "join") ∷ Do 2 (op.Thread (threads.Join 2 2)) ∷ Do 0 (op.Atomic (atomic.Load 1 Acquire)) ∷
    UnlessTo 0 1 (codes "finish") ∷ Do 1 (op.Cell (cell.Read 0)) ∷ UnlessTo 1 123 (codes "wrong") ∷
    Do 0 (op.Cell (cell.ReadEnd 0)) ∷ Label (codes "finish") ∷ Do 0 (op.Thread (threads.Finish (Plain 0))) ∷
    exit ∷ end ∷ Label (codes "wrong") ∷ fail ∷ Label (codes "child") ∷ Do 0 (op.Cell (cell.Write 0)) ∷
    Do 0 (op.Cell (cell.WriteEnd 0 (Plain 123))) ∷ Do 0 (op.Atomic (atomic.Store 1 1 Release)) ∷
    Do 0 (op.Thread (threads.Finish (Plain 0))) ∷ exit ∷ end ∷ []

-- The one before, but main reads the cell without looking at the atomic (loom's `tests/unsafe_cell.rs`).
abbrev pub atomic_causality_fail : List Written
atomic_causality_fail =
    Do 0 (op.Cell (cell.New (Plain 0))) ∷ Do 1 (op.Atomic (atomic.New numbers.U64 0)) ∷
    SpawnAt 2 (codes "child") ∷ Do 1 (op.Cell (cell.Read 0)) ∷ UnlessTo 1 123 (codes "wrong") ∷
    Do 0 (op.Cell (cell.ReadEnd 0)) ∷ Do 2 (op.Thread (threads.Join 2 2)) ∷ Do 1 (op.Cell (cell.Read 0)) ∷
    UnlessTo 1 123 (codes "wrong") ∷ Do 0 (op.Cell (cell.ReadEnd 0)) ∷
    Do 0 (op.Thread (threads.Finish (Plain 0))) ∷ exit ∷ end ∷ Label (codes "wrong") ∷ fail ∷
    Label (codes "child") ∷ Do 0 (op.Cell (cell.Write 0)) ∷ Do 0 (op.Cell (cell.WriteEnd 0 (Plain 123))) ∷
    Do 0 (op.Atomic (atomic.Store 1 1 Release)) ∷ Do 0 (op.Thread (threads.Finish (Plain 0))) ∷ exit ∷ end ∷ []

-- Main and a thread both write a cell (loom's `tests/unsafe_cell.rs`).
abbrev pub unsafe_cell_race_mut_mut_1 : List Written
unsafe_cell_race_mut_mut_1 =
    Do 0 (op.Cell (cell.New (Plain 1))) ∷ SpawnAt 1 (codes "child") ∷ Do 0 (op.Cell (cell.Write 0)) ∷
    Do 0 (op.Cell (cell.WriteEnd 0 (Next 0))) ∷ Do 1 (op.Thread (threads.Join 1 1)) ∷
    Do 0 (op.Cell (cell.Write 0)) ∷ Do 0 (op.Cell (cell.WriteEnd 0 (Next 0))) ∷ UnlessTo 0 3 (codes "wrong") ∷
    Do 0 (op.Thread (threads.Finish (Plain 0))) ∷ exit ∷ end ∷ Label (codes "wrong") ∷ fail ∷
    Label (codes "child") ∷ Do 0 (op.Cell (cell.Write 0)) ∷ Do 0 (op.Cell (cell.WriteEnd 0 (Next 0))) ∷
    Do 0 (op.Thread (threads.Finish (Plain 0))) ∷ exit ∷ end ∷ []

-- Two threads both write a cell (loom's `tests/unsafe_cell.rs`).
abbrev pub unsafe_cell_race_mut_mut_2 : List Written
unsafe_cell_race_mut_mut_2 =
    Do 0 (op.Cell (cell.New (Plain 1))) ∷ SpawnAt 1 (codes "child") ∷ SpawnAt 2 (codes "child") ∷
    Do 1 (op.Thread (threads.Join 1 1)) ∷ Do 1 (op.Thread (threads.Join 2 2)) ∷ Do 0 (op.Cell (cell.Write 0)) ∷
    Do 0 (op.Cell (cell.WriteEnd 0 (Next 0))) ∷ UnlessTo 0 3 (codes "wrong") ∷
    Do 0 (op.Thread (threads.Finish (Plain 0))) ∷ exit ∷ end ∷ Label (codes "wrong") ∷ fail ∷
    Label (codes "child") ∷ Do 0 (op.Cell (cell.Write 0)) ∷ Do 0 (op.Cell (cell.WriteEnd 0 (Next 0))) ∷
    Do 0 (op.Thread (threads.Finish (Plain 0))) ∷ exit ∷ end ∷ []

-- A thread writes a cell that main reads (loom's `tests/unsafe_cell.rs`).
abbrev pub unsafe_cell_race_mut_immut_1 : List Written
unsafe_cell_race_mut_immut_1 =
    Do 0 (op.Cell (cell.New (Plain 1))) ∷ SpawnAt 1 (codes "child") ∷ Do 0 (op.Cell (cell.Read 0)) ∷
    Do 0 (op.Cell (cell.ReadEnd 0)) ∷ Do 1 (op.Thread (threads.Join 1 1)) ∷ Do 0 (op.Cell (cell.Write 0)) ∷
    Do 0 (op.Cell (cell.WriteEnd 0 (Next 0))) ∷ UnlessTo 0 2 (codes "wrong") ∷
    Do 0 (op.Thread (threads.Finish (Plain 0))) ∷ exit ∷ end ∷ Label (codes "wrong") ∷ fail ∷
    Label (codes "child") ∷ Do 0 (op.Cell (cell.Write 0)) ∷ Do 0 (op.Cell (cell.WriteEnd 0 (Next 0))) ∷
    UnlessTo 0 1 (codes "wrong") ∷ Do 0 (op.Thread (threads.Finish (Plain 0))) ∷ exit ∷ end ∷ []

-- A thread reads a cell that main writes (loom's `tests/unsafe_cell.rs`).
abbrev pub unsafe_cell_race_mut_immut_2 : List Written
unsafe_cell_race_mut_immut_2 =
    Do 0 (op.Cell (cell.New (Plain 1))) ∷ SpawnAt 1 (codes "child") ∷ Do 0 (op.Cell (cell.Write 0)) ∷
    Do 0 (op.Cell (cell.WriteEnd 0 (Next 0))) ∷ UnlessTo 0 1 (codes "wrong") ∷
    Do 1 (op.Thread (threads.Join 1 1)) ∷ Do 0 (op.Cell (cell.Write 0)) ∷
    Do 0 (op.Cell (cell.WriteEnd 0 (Next 0))) ∷ UnlessTo 0 2 (codes "wrong") ∷
    Do 0 (op.Thread (threads.Finish (Plain 0))) ∷ exit ∷ end ∷ Label (codes "wrong") ∷ fail ∷
    Label (codes "child") ∷ Do 0 (op.Cell (cell.Read 0)) ∷ Do 0 (op.Cell (cell.ReadEnd 0)) ∷
    Do 0 (op.Thread (threads.Finish (Plain 0))) ∷ exit ∷ end ∷ []

-- The first of two threads writes a cell that the second one reads (loom's `tests/unsafe_cell.rs`).
abbrev pub unsafe_cell_race_mut_immut_3 : List Written
unsafe_cell_race_mut_immut_3 =
    Do 0 (op.Cell (cell.New (Plain 1))) ∷ SpawnAt 1 (codes "first") ∷ SpawnAt 2 (codes "second") ∷
    Do 1 (op.Thread (threads.Join 1 1)) ∷ Do 1 (op.Thread (threads.Join 2 2)) ∷ Do 0 (op.Cell (cell.Write 0)) ∷
    Do 0 (op.Cell (cell.WriteEnd 0 (Next 0))) ∷ UnlessTo 0 2 (codes "wrong") ∷
    Do 0 (op.Thread (threads.Finish (Plain 0))) ∷ exit ∷ end ∷ Label (codes "wrong") ∷ fail ∷
    Label (codes "first") ∷ Do 0 (op.Cell (cell.Write 0)) ∷ Do 0 (op.Cell (cell.WriteEnd 0 (Next 0))) ∷
    UnlessTo 0 1 (codes "wrong") ∷ Do 0 (op.Thread (threads.Finish (Plain 0))) ∷ exit ∷ end ∷
    Label (codes "second") ∷ Do 0 (op.Cell (cell.Read 0)) ∷ Do 0 (op.Cell (cell.ReadEnd 0)) ∷
    Do 0 (op.Thread (threads.Finish (Plain 0))) ∷ exit ∷ end ∷ []

-- The second of two threads writes a cell that the first one reads (loom's `tests/unsafe_cell.rs`).
abbrev pub unsafe_cell_race_mut_immut_4 : List Written
unsafe_cell_race_mut_immut_4 =
    Do 0 (op.Cell (cell.New (Plain 1))) ∷ SpawnAt 1 (codes "first") ∷ SpawnAt 2 (codes "second") ∷
    Do 1 (op.Thread (threads.Join 1 1)) ∷ Do 1 (op.Thread (threads.Join 2 2)) ∷ Do 0 (op.Cell (cell.Write 0)) ∷
    Do 0 (op.Cell (cell.WriteEnd 0 (Next 0))) ∷ UnlessTo 0 2 (codes "wrong") ∷
    Do 0 (op.Thread (threads.Finish (Plain 0))) ∷ exit ∷ end ∷ Label (codes "wrong") ∷ fail ∷
    Label (codes "first") ∷ Do 0 (op.Cell (cell.Read 0)) ∷ Do 0 (op.Cell (cell.ReadEnd 0)) ∷
    Do 0 (op.Thread (threads.Finish (Plain 0))) ∷ exit ∷ end ∷ Label (codes "second") ∷
    Do 0 (op.Cell (cell.Write 0)) ∷ Do 0 (op.Cell (cell.WriteEnd 0 (Next 0))) ∷ UnlessTo 0 1 (codes "wrong") ∷
    Do 0 (op.Thread (threads.Finish (Plain 0))) ∷ exit ∷ end ∷ []

-- The one before, where the second one reads it before it writes (loom's `tests/unsafe_cell.rs`).
abbrev pub unsafe_cell_race_mut_immut_5 : List Written
unsafe_cell_race_mut_immut_5 =
    Do 0 (op.Cell (cell.New (Plain 1))) ∷ SpawnAt 1 (codes "first") ∷ SpawnAt 2 (codes "second") ∷
    Do 1 (op.Thread (threads.Join 1 1)) ∷ Do 1 (op.Thread (threads.Join 2 2)) ∷ Do 0 (op.Cell (cell.Write 0)) ∷
    Do 0 (op.Cell (cell.WriteEnd 0 (Next 0))) ∷ UnlessTo 0 2 (codes "wrong") ∷
    Do 0 (op.Thread (threads.Finish (Plain 0))) ∷ exit ∷ end ∷ Label (codes "wrong") ∷ fail ∷
    Label (codes "first") ∷ Do 0 (op.Cell (cell.Read 0)) ∷ Do 0 (op.Cell (cell.ReadEnd 0)) ∷
    Do 0 (op.Thread (threads.Finish (Plain 0))) ∷ exit ∷ end ∷ Label (codes "second") ∷
    Do 0 (op.Cell (cell.Read 0)) ∷ Do 0 (op.Cell (cell.ReadEnd 0)) ∷ UnlessTo 0 1 (codes "wrong") ∷
    Do 0 (op.Cell (cell.Write 0)) ∷ Do 0 (op.Cell (cell.WriteEnd 0 (Next 0))) ∷ UnlessTo 0 1 (codes "wrong") ∷
    Do 0 (op.Thread (threads.Finish (Plain 0))) ∷ exit ∷ end ∷ []

-- Main writes a cell, then a thread, which it joins, and then main again (loom's `tests/unsafe_cell.rs`).
abbrev pub unsafe_cell_ok_1 : List Written
unsafe_cell_ok_1 =
    Do 0 (op.Cell (cell.New (Plain 1))) ∷ Do 0 (op.Cell (cell.Write 0)) ∷
    Do 0 (op.Cell (cell.WriteEnd 0 (Next 0))) ∷ UnlessTo 0 1 (codes "wrong") ∷ SpawnAt 1 (codes "child") ∷
    Do 1 (op.Thread (threads.Join 1 1)) ∷ Do 0 (op.Cell (cell.Write 0)) ∷
    Do 0 (op.Cell (cell.WriteEnd 0 (Next 0))) ∷ UnlessTo 0 3 (codes "wrong") ∷
    Do 0 (op.Thread (threads.Finish (Plain 0))) ∷ exit ∷ end ∷ Label (codes "wrong") ∷ fail ∷
    Label (codes "child") ∷ Do 0 (op.Cell (cell.Write 0)) ∷ Do 0 (op.Cell (cell.WriteEnd 0 (Next 0))) ∷
    UnlessTo 0 2 (codes "wrong") ∷ Do 0 (op.Thread (threads.Finish (Plain 0))) ∷ exit ∷ end ∷ []

-- The one before, where each of them reads the cell first (loom's `tests/unsafe_cell.rs`).
abbrev pub unsafe_cell_ok_2 : List Written
unsafe_cell_ok_2 =
    Do 0 (op.Cell (cell.New (Plain 1))) ∷ Do 0 (op.Cell (cell.Read 0)) ∷ Do 0 (op.Cell (cell.ReadEnd 0)) ∷
    UnlessTo 0 1 (codes "wrong") ∷ Do 0 (op.Cell (cell.Write 0)) ∷ Do 0 (op.Cell (cell.WriteEnd 0 (Next 0))) ∷
    UnlessTo 0 1 (codes "wrong") ∷ SpawnAt 1 (codes "child") ∷ Do 1 (op.Thread (threads.Join 1 1)) ∷
    Do 0 (op.Cell (cell.Read 0)) ∷ Do 0 (op.Cell (cell.ReadEnd 0)) ∷ UnlessTo 0 3 (codes "wrong") ∷
    Do 0 (op.Cell (cell.Write 0)) ∷ Do 0 (op.Cell (cell.WriteEnd 0 (Next 0))) ∷ UnlessTo 0 3 (codes "wrong") ∷
    Do 0 (op.Thread (threads.Finish (Plain 0))) ∷ exit ∷ end ∷ Label (codes "wrong") ∷ fail ∷
    Label (codes "child") ∷ Do 0 (op.Cell (cell.Read 0)) ∷ Do 0 (op.Cell (cell.ReadEnd 0)) ∷
    UnlessTo 0 2 (codes "wrong") ∷ Do 0 (op.Cell (cell.Write 0)) ∷ Do 0 (op.Cell (cell.WriteEnd 0 (Next 0))) ∷
    UnlessTo 0 2 (codes "wrong") ∷ Do 0 (op.Thread (threads.Finish (Plain 0))) ∷ exit ∷ end ∷ []

-- Main, a thread and a thread of that one read a cell. Main writes it after they were joined (loom's `tests/unsafe_cell.rs`).
abbrev pub unsafe_cell_ok_3 : List Written
unsafe_cell_ok_3 =
    Do 0 (op.Cell (cell.New (Plain 1))) ∷ SpawnAt 1 (codes "first") ∷ Do 0 (op.Cell (cell.Read 0)) ∷
    Do 0 (op.Cell (cell.ReadEnd 0)) ∷ UnlessTo 0 1 (codes "wrong") ∷ Do 1 (op.Thread (threads.Join 1 1)) ∷
    Do 0 (op.Cell (cell.Write 0)) ∷ Do 0 (op.Cell (cell.WriteEnd 0 (Next 0))) ∷ UnlessTo 0 1 (codes "wrong") ∷
    Do 0 (op.Thread (threads.Finish (Plain 0))) ∷ exit ∷ end ∷ Label (codes "wrong") ∷ fail ∷
    Label (codes "first") ∷ Do 0 (op.Cell (cell.Read 0)) ∷ Do 0 (op.Cell (cell.ReadEnd 0)) ∷
    UnlessTo 0 1 (codes "wrong") ∷ SpawnAt 1 (codes "second") ∷ Do 0 (op.Cell (cell.Read 0)) ∷
    Do 0 (op.Cell (cell.ReadEnd 0)) ∷ UnlessTo 0 1 (codes "wrong") ∷ Do 1 (op.Thread (threads.Join 1 1)) ∷
    Do 0 (op.Thread (threads.Finish (Plain 0))) ∷ exit ∷ end ∷ Label (codes "second") ∷
    Do 0 (op.Cell (cell.Read 0)) ∷ Do 0 (op.Cell (cell.ReadEnd 0)) ∷ UnlessTo 0 1 (codes "wrong") ∷
    Do 0 (op.Thread (threads.Finish (Plain 0))) ∷ exit ∷ end ∷ []

-- A thread writes a cell after it released an atomic. Main writes the cell where it acquires that (loom's `tests/unsafe_cell.rs`).
abbrev pub unsafe_cell_access_after_sync : List Written
unsafe_cell_access_after_sync =
    Do 0 (op.Atomic (atomic.New numbers.U64 0)) ∷ Do 1 (op.Cell (cell.New (Plain 0))) ∷
    SpawnAt 2 (codes "child") ∷ Do 0 (op.Atomic (atomic.Load 0 Acquire)) ∷ UnlessTo 0 1 (codes "finish") ∷
    Do 1 (op.Cell (cell.Write 1)) ∷ Do 0 (op.Cell (cell.WriteEnd 1 (Plain 2))) ∷ Label (codes "finish") ∷
    Do 0 (op.Thread (threads.Finish (Plain 0))) ∷ exit ∷ end ∷ Label (codes "child") ∷
    Do 0 (op.Atomic (atomic.Store 0 1 Release)) ∷ Do 1 (op.Cell (cell.Write 1)) ∷
    Do 0 (op.Cell (cell.WriteEnd 1 (Plain 1))) ∷ Do 0 (op.Thread (threads.Finish (Plain 0))) ∷ exit ∷ end ∷ []

-- Main reads a cell while it writes it.
abbrev pub read_in_write : List Written
read_in_write =
    Do 0 (op.Cell (cell.New (Plain 0))) ∷ Do 0 (op.Cell (cell.Write 0)) ∷ Do 0 (op.Cell (cell.Read 0)) ∷
    Do 0 (op.Cell (cell.ReadEnd 0)) ∷ Do 0 (op.Cell (cell.WriteEnd 0 (Plain 1))) ∷
    Do 0 (op.Thread (threads.Finish (Plain 0))) ∷ exit ∷ end ∷ []

-- Main makes a counted reference and doesn't drop it (loom's `tests/arc.rs`).
abbrev pub detect_mem_leak : List Written
detect_mem_leak =
    Do 0 (op.Arc (arc.New (Plain 0))) ∷ Do 0 (op.Thread (threads.Finish (Plain 0))) ∷ exit ∷ end ∷ []

-- Main makes a counted reference and clones it, asserts that there are two, and drops both. It finishes with the value.
abbrev pub arc_count : List Written
arc_count =
    Do 0 (op.Arc (arc.New (Plain 7))) ∷ Do 0 (op.Arc (arc.Clone 0)) ∷ Do 0 (op.Arc (arc.StrongCount 0)) ∷
    UnlessTo 0 2 (codes "wrong") ∷ Do 1 (op.Arc (arc.Drop 0)) ∷ Do 1 (op.Arc (arc.Drop 0)) ∷
    Do 0 (op.Thread (threads.Finish (Held 1))) ∷ exit ∷ end ∷ Label (codes "wrong") ∷ fail ∷ []

-- Main makes a counted reference, takes it apart, and finishes with the value.
abbrev pub arc_unwrap : List Written
arc_unwrap =
    Do 0 (op.Arc (arc.New (Plain 7))) ∷ Do 0 (op.Arc (arc.TryUnwrap 0)) ∷
    Do 0 (op.Thread (threads.Finish (Held 0))) ∷ exit ∷ end ∷ []

-- Main makes a tracked value and then a counted reference, and drops neither.
abbrev pub track_then_arc : List Written
track_then_arc =
    Do 0 (op.Track (track.New (Plain 0))) ∷ Do 1 (op.Arc (arc.New (Plain 0))) ∷
    Do 0 (op.Thread (threads.Finish (Plain 0))) ∷ exit ∷ end ∷ []

-- Main makes a counted reference and then a tracked value, and drops neither.
abbrev pub arc_then_track : List Written
arc_then_track =
    Do 0 (op.Arc (arc.New (Plain 0))) ∷ Do 1 (op.Track (track.New (Plain 0))) ∷
    Do 0 (op.Thread (threads.Finish (Plain 0))) ∷ exit ∷ end ∷ []
