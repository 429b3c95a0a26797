-- Why a check gives no report, and what a store may hold then.
use Rattle.std.specs.Prelude.{ℕ, ◌≡◌, ◌≢◌, ◌⊎◌, List, Option, Some, Result, Err}
use Rattle.loom_objects.specs.declared.choice.Choice.{Choice}
use Rattle.loom_objects.specs.Tree.Tree.{Tree}
use Rattle.loom_engine.specs.declared.rt.path.node.Node.{Node}
use Rattle.loom_engine.specs.declared.rt.parts.error.PartsError.{PartsError}
use Rattle.loom_engine.specs.declared.rt.parts.error.PartsError.TheVariants as parts
use Rattle.loom_engine.specs.declared.rt.path.checkpoint.error.PathError.{PathError}
use Rattle.loom_engine.specs.declared.rt.path.checkpoint.error.PathError.TheVariants as why
use Rattle.loom_engine.specs.Checkpoint.Accepted.{IsRefusedText}
use Rattle.loom_engine.specs.Parts.Keeping.{IsOtherSearch}
use Rattle.loom_engine.specs.Path.Route.{Route}
use Rattle.loom.specs.declared.checkpoint.store.StoreError.{StoreError}
use Rattle.loom.specs.declared.checkpoint.store.StoreError.TheVariants as store
use Rattle.loom.specs.Model.Stores.{HasRisen, Keeps}
use Rattle.loom.specs.declared.model.builder.Builder.{Builder}
use Rattle.loom.specs.declared.model.error.CheckError.{CheckError}
use Rattle.loom.specs.declared.model.error.CheckError.TheVariants.{NotJson, WrongShape, WrongVersion, OtherSettings, TooManyNodes, BadNode, Store, Memory}
use Rattle.loom.specs.Model.Settings.{explores, search_of, tested}
use Rattle.loom.specs.Model.StoredText.{ReadsAs}
use Rattle.loom.specs.Model.Check.{IsHeld}

abbrev pub of_path : PathError → CheckError
of_path why.NotJson = NotJson
of_path why.WrongShape = WrongShape
of_path (why.WrongVersion version) = WrongVersion version
of_path (why.OtherSettings setting) = OtherSettings setting
of_path (why.TooManyNodes count) = TooManyNodes count
of_path why.BadNode = BadNode
of_path (why.Memory e) = Memory

abbrev pub of_parts : PartsError → CheckError
of_parts parts.NotJson = NotJson
of_parts parts.WrongFormat = WrongShape
of_parts (parts.WrongVersion version) = WrongVersion version
of_parts parts.WrongShape = WrongShape
of_parts (parts.Path why) = of_path why
of_parts (parts.WrongFloor floor) = BadNode
of_parts parts.BadOption = BadNode
of_parts (parts.Memory e) = Memory

abbrev pub of_store : StoreError → CheckError
of_store store.Fault = Store
of_store store.Memory = Memory

-- Error 13 comes exactly where the store's count of faults has risen in this check.
abbrev pub CountsFaults : {A : Type 0} → Result A CheckError → ℕ → ℕ → Type 0
CountsFaults result old new = (result ≡ Err Store → HasRisen old new) × (result ≢ Err Store → new ≡ old)

-- the store gave a text that is refused as the error says
abbrev pub IsRefusedBy : Builder → (Option (List ℕ) → Type 0) → CheckError → Type 0
IsRefusedBy b gives e = (text : List ℕ) × (why : PathError) × gives (Some text) × IsRefusedText (search_of b) (explores b) text why × (e ≡ of_path why)

-- memory was refused, or the store met a fault
abbrev pub IsNoSave : CheckError → Type 0
IsNoSave e = (e ≡ Memory) ⊎ (e ≡ Store)

-- or the text was refused
abbrev pub IsNoBeginning : Builder → (Option (List ℕ) → Type 0) → CheckError → Type 0
IsNoBeginning b gives e = IsNoSave e ⊎ IsRefusedBy b gives e

-- Memory was refused, or the store met a fault; or a setting is out of range or the store's text was refused, and no run was
-- made.
abbrev pub IsNoReport : Builder → (Option (List ℕ) → Type 0) → Type 0 → CheckError → Type 0
IsNoReport b gives no_run e = IsNoSave e ⊎ (((tested b ≡ Err e) ⊎ IsRefusedBy b gives e) × no_run)

-- ---- stores

-- Where a check ends by an error after it began with a path, what a store may hold is what `IsHeld` says, after some runs.
pub record HeldBack {D : Type 0} (b : Builder) (tree : Tree D) (gives holds : Option (List ℕ) → Type 0) : Type 0 where
  pub text : Option (List ℕ)
  pub gave : gives text
  pub path : List Node
  pub reads : ReadsAs (search_of b) (explores b) text path
  pub runs : List (List Choice × D)
  pub held : IsHeld b tree holds path runs

-- After an error a store may hold what it held before the check, or a text of a path that the check has reached.
abbrev pub StillHolds : {D : Type 0} → Builder → Tree D → (Option (List ℕ) → Type 0) → (Option (List ℕ) → Type 0) → (Option (List ℕ) → Type 0) → Type 0
StillHolds b tree gives old new = Keeps old new ⊎ HeldBack b tree gives new

-- ---- parts of a search

-- the path is of another search than this builder's, as the error says
abbrev pub IsOtherPart : Builder → Route → CheckError → Type 0
IsOtherPart b path e = (why : PathError) × IsOtherSearch (search_of b) (explores b) path why × (e ≡ of_path why)
