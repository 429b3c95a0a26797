-- The accesses of a cell, by points of the graph.
use Rattle.std.specs.Prelude.{ℕ, ◌≡◌, ◌||◌, if◌then◌else◌, List, [], ◌∷◌, ◌++◌, Result, Ok, Err}
use Rattle.loom_views.specs.declared.rt.cell.AccessRecords.{AccessRecords}
use Rattle.loom_views.specs.declared.rt.failure.FailureKind.{FailureKind}
use Rattle.loom_views.specs.declared.rt.failure.FailureKind.TheVariants.{Race}
use Rattle.loom_views.specs.Graph.{Graph}
use Rattle.loom_views.specs.AccessRecords.{races, ShowsRecord}

-- the present points of the threads at their reads of a cell, and at their writes
pub record Accesses : Type 0 where
  pub reads : List ℕ
  pub writes : List ℕ

-- a new cell counts as read and written at the point at which it is made
abbrev pub new_accesses : ℕ → Accesses
new_accesses present = record { reads = present ∷ []; writes = present ∷ [] }

-- a read conflicts with the writes
abbrev pub read_step : Graph → ℕ → Accesses → Result Accesses FailureKind
read_step g present cell = if races g cell.writes present then Err Race else Ok (record cell { reads = cell.reads ++ present ∷ [] })

-- a write conflicts with the writes and the reads
abbrev pub write_step : Graph → ℕ → Accesses → Result Accesses FailureKind
write_step g present cell = if races g cell.writes present || races g cell.reads present then Err Race else Ok (record cell { writes = cell.writes ++ present ∷ [] })

-- what is kept of a cell: the joined views of its reads, and those of its writes
pub record ShowsAccesses (g : Graph) (cell : Accesses) (kept : AccessRecords) : Type 0 where
  pub reads : ShowsRecord g cell.reads kept.reads
  pub writes : ShowsRecord g cell.writes kept.writes

-- an access answers as its step does, and what is kept shows the accesses that it leads to
abbrev pub RecordsAs : Graph → Result Accesses FailureKind → Result (Unit {0}) FailureKind → AccessRecords → Type 0
RecordsAs g (Ok after) result kept = (result ≡ Ok tt) × ShowsAccesses g after kept
RecordsAs g (Err kind) result kept = result ≡ Err kind
