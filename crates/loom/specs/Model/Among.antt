-- What a check promises whose file is one among files that hold texts, in which nobody is given the runs and no time passes.
use Rattle.std.specs.Prelude.{ℕ, ◌≡◌, List, Option, Some, None, Result, Err, String, string_bytes, IfOk, IfErr, OnErr}
use Rattle.std.specs.declared.alloc.Global.{Global}
use Rattle.loom_objects.specs.Tree.Tree.{Tree}
use Rattle.loom.specs.declared.model.builder.Builder.{Builder}
use Rattle.loom.specs.declared.model.error.CheckError.{CheckError}
use Rattle.loom.specs.declared.model.report.Report.{Report}
use Rattle.loom.specs.Model.Settings.{tested}
use Rattle.loom.specs.Model.Check.{MeetsNoEqualOrders, ReportsUnheard}
use Rattle.loom.specs.Model.Refusals.{CountsFaults, IsNoReport, StillHolds}
use Rattle.loom.specs.Model.Stores.{KeepsFiles, KeepsThird, beside}

-- Before the check the store may give and hold what these say, and has counted so many faults; after it, it may hold that, and has
-- counted so many.
pub record ChecksAlone {D : Type 0} (b : Builder) (tree : Tree D) (gives held holds : Option (List ℕ) → Type 0) (before after : ℕ) (answer : Result Report CheckError) : Type 0 where
  pub reports : IfOk answer (ReportsUnheard b tree gives holds)
  pub orders : IfOk answer MeetsNoEqualOrders
  -- the first setting out of range is refused
  pub refused : IfErr (tested b) (λ e. answer ≡ Err e)
  -- each error comes from what it names
  pub errors : IfErr answer (IsNoReport b gives (Unit {0}))
  pub left : OnErr answer (StillHolds b tree gives held holds)
  -- the error `Store` comes exactly where the store met a fault
  pub faults : CountsFaults answer before after

-- ---- files

-- what files may hold, by their names
abbrev pub Held : Type 1
Held = List ℕ → Option (List ℕ) → Type 0

-- the text that the file of this name may give; without a name no text
abbrev pub gives_among : Option (String Global) → Held → Option (List ℕ) → Type 0
gives_among None held text = text ≡ None
gives_among (Some name) held text = held (string_bytes name) text

-- what it may hold; without a name nothing is known
abbrev pub holds_among : Option (String Global) → Held → Option (List ℕ) → Type 0
holds_among None held text = Unit {0}
holds_among (Some name) held text = held (string_bytes name) text

-- The store is the file that the builder names, among files that may hold this before the check, and that after it.
abbrev pub ChecksAmong : {D : Type 0} → Builder → Tree D → Held → Held → ℕ → ℕ → Result Report CheckError → Type 0
ChecksAmong b tree old new before after answer =
    ChecksAlone b tree (gives_among b.checkpoint_file old) (holds_among b.checkpoint_file old) (holds_among b.checkpoint_file new) before after answer

-- No file changes but that of this name and the one beside it; without a name none does.
abbrev pub ChangesOnly : Option (String Global) → Held → Held → Type 0
ChangesOnly None old new = KeepsFiles old new
ChangesOnly (Some name) old new = KeepsThird (beside (string_bytes name)) (string_bytes name) old new
