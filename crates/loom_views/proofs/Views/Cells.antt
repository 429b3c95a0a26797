-- The accesses of a cell: what is kept in vectors answers as the steps do.
use Rattle.std.proofs.Common.{◌≡◌, ℕ, Bool, true, false, not, List, refl, sym, ◌∙◌, Ok, Err}
use Rattle.loom_views.specs.declared.rt.cell.AccessRecords.{AccessRecords}
use Rattle.loom_views.specs.declared.rt.failure.FailureKind.TheVariants.{Race}
use Rattle.loom_views.specs.Graph.{Graph, Shows, IsChained}
use Rattle.loom_views.specs.Versions.{join, within}
use Rattle.loom_views.specs.AccessRecords.{races}
use Rattle.loom_views.specs.CellAccesses.{Accesses, new_accesses, read_step, write_step, ShowsAccesses, RecordsAs}
use Rattle.loom_views.proofs.Views.Records.{races-is, record-one, record-more}
use Rattle.loom_views.proofs.Views.Growth.{GrownBy, record-grown}

pub accesses-grown : {t : ℕ} {g g' : Graph} → GrownBy t g g' → (cell : Accesses) (kept : AccessRecords) → ShowsAccesses g cell kept → ShowsAccesses g' cell kept
accesses-grown r cell kept h = record { reads = record-grown r cell.reads kept.reads h.reads; writes = record-grown r cell.writes kept.writes h.writes }

-- a new cell's records are the view of the point at which it is made
pub new-shown : (g : Graph) (present : ℕ) (ws : List ℕ) → Shows g present ws → ShowsAccesses g (new_accesses present) (record { reads = ws; writes = ws })
new-shown g present ws s = record { reads = record-one g present ws s; writes = record-one g present ws s }

-- a test in vectors is the opposite of one by points
passes : (a b : Bool) → a ≡ not b → a ≡ true → b ≡ false
passes a true e h = sym h ∙ e
passes a false e h = refl

fails : (a b : Bool) → a ≡ not b → a ≡ false → b ≡ true
fails a true e h = refl
fails a false e h = sym h ∙ e

module _ (g : Graph) (present : ℕ) (cell : Accesses) (kept : AccessRecords) (ws : List ℕ) (c : IsChained g) (s : Shows g present ws) (z : ShowsAccesses g cell kept) where
  writes-inside : within kept.writes ws ≡ true → races g cell.writes present ≡ false
  writes-inside e = passes (within kept.writes ws) (races g cell.writes present) (races-is g present cell.writes kept.writes ws c z.writes s) e

  reads-inside : within kept.reads ws ≡ true → races g cell.reads present ≡ false
  reads-inside e = passes (within kept.reads ws) (races g cell.reads present) (races-is g present cell.reads kept.reads ws c z.reads s) e

  writes-outside : within kept.writes ws ≡ false → races g cell.writes present ≡ true
  writes-outside e = fails (within kept.writes ws) (races g cell.writes present) (races-is g present cell.writes kept.writes ws c z.writes s) e

  reads-outside : within kept.reads ws ≡ false → races g cell.reads present ≡ true
  reads-outside e = fails (within kept.reads ws) (races g cell.reads present) (races-is g present cell.reads kept.reads ws c z.reads s) e

  pub read-raced : within kept.writes ws ≡ false → RecordsAs g (read_step g present cell) (Err Race) kept
  read-raced e = rw (writes-outside e) refl

  pub read-recorded : within kept.writes ws ≡ true → RecordsAs g (read_step g present cell) (Ok tt) (record kept { reads = join kept.reads ws })
  read-recorded e = rw (writes-inside e) (refl, record { reads = record-more g present cell.reads kept.reads ws z.reads s; writes = z.writes })

  pub write-raced_with_write : within kept.writes ws ≡ false → RecordsAs g (write_step g present cell) (Err Race) kept
  write-raced_with_write e = rw (writes-outside e) refl

  pub write-raced_with_read : within kept.writes ws ≡ true → within kept.reads ws ≡ false → RecordsAs g (write_step g present cell) (Err Race) kept
  write-raced_with_read e f = rw (writes-inside e, reads-outside f) refl

  pub write-recorded : within kept.writes ws ≡ true → within kept.reads ws ≡ true → RecordsAs g (write_step g present cell) (Ok tt) (record kept { writes = join kept.writes ws })
  write-recorded e f = rw (writes-inside e, reads-inside f) (refl, record { reads = z.reads; writes = record-more g present cell.writes kept.writes ws z.writes s })
