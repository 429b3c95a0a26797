-- What a covering check reads and saves, and why it gives no report.
use Rattle.std.specs.Prelude.{ℕ, ◌≡◌, ◌+◌, ◌⊎◌, List, Option, Some, Err}
use Rattle.serde_json.specs.Written.{compact_text}
use Rattle.loom_objects.specs.declared.choice.Choice.{Choice}
use Rattle.loom_engine.specs.Path.Route.{Route, at_rest, stored}
use Rattle.loom_engine.specs.Path.WellFormed.{AreAtRest}
use Rattle.loom_engine.specs.Runs.Body.{Meaning}
use Rattle.loom_engine.specs.Trees.Meeting.{whole_search}
use Rattle.loom_engine.specs.declared.rt.path.node.Node.{Node}
use Rattle.loom_engine.specs.declared.rt.path.checkpoint.error.PathError.{PathError}
use Rattle.loom.specs.declared.model.builder.Builder.{Builder}
use Rattle.loom.specs.declared.model.error.CheckError.{CheckError}
use Rattle.loom.specs.Model.CoverText.{CoverReadsAs, IsCoverTextOf, IsNoCoverText, cover_data}
use Rattle.loom.specs.Model.Covered.{HaveComeTo, IsHeld}
use Rattle.loom.specs.Model.Refusals.{IsNoSave, of_path}
use Rattle.loom.specs.Model.Settings.{explores, tested}
use Rattle.loom.specs.Model.Stores.{Keeps}

-- ---- beginnings

-- the path rests, and is that of the text that the store gave
pub record IsCoverBegun (b : Builder) (gives holds : Option (List ℕ) → Type 0) (path : Route) : Type 0 where
  pub rests : path ≡ at_rest (whole_search b.max_branches) (explores b) path.nodes
  pub text : Option (List ℕ)
  pub gave : gives text
  pub held : holds text
  pub reads : CoverReadsAs (whole_search b.max_branches) (explores b) text path.nodes

-- ---- saves

-- the store may hold the text of the path, which reads as that where its nodes rest
pub record IsCoverSaved (path : Route) (holds : Option (List ℕ) → Type 0) (text : List ℕ) : Type 0 where
  pub held : holds (Some text)
  pub compact : text ≡ compact_text (cover_data path.search path.explores path.nodes)
  pub reads : AreAtRest (stored path.nodes) → IsCoverTextOf path.search path.explores text path.nodes

-- There was time: what the store may hold stays as it is. Or the path was saved.
abbrev pub IsCoverKept : ℕ → ℕ → Route → (Option (List ℕ) → Type 0) → (Option (List ℕ) → Type 0) → ℕ → Type 0
IsCoverKept interval until path old new left = ((left + 1 ≡ until) × Keeps old new) ⊎ ((left + 1 ≡ interval) × ((text : List ℕ) × IsCoverSaved path new text))

-- ---- errors

-- the store gave a text that is refused as the error says
abbrev pub IsRefusedBy : Builder → (Option (List ℕ) → Type 0) → CheckError → Type 0
IsRefusedBy b gives e = (text : List ℕ) × (why : PathError) × gives (Some text) × IsNoCoverText (whole_search b.max_branches) (explores b) text why × (e ≡ of_path why)

-- memory was refused, the store met a fault, or its text was refused
abbrev pub IsNoBeginning : Builder → (Option (List ℕ) → Type 0) → CheckError → Type 0
IsNoBeginning b gives e = IsNoSave e ⊎ IsRefusedBy b gives e

-- Memory was refused, or the store met a fault; or a setting is out of range or the store's text was refused, and no run was made.
abbrev pub IsNoReport : Builder → (Option (List ℕ) → Type 0) → Type 0 → CheckError → Type 0
IsNoReport b gives no_run e = IsNoSave e ⊎ (((tested b ≡ Err e) ⊎ IsRefusedBy b gives e) × no_run)

-- Where a check ends by an error after it began with a path, what a store may hold is what `IsHeld` says, after some runs.
pub record HeldBack {D S : Type 0} (b : Builder) (next : Meaning D S) (body : S) (gives holds : Option (List ℕ) → Type 0) : Type 0 where
  pub text : Option (List ℕ)
  pub gave : gives text
  pub path : List Node
  pub reads : CoverReadsAs (whole_search b.max_branches) (explores b) text path
  pub given : List (List Choice × D)
  pub held : (before : List (List Choice × D)) → HaveComeTo b next body path before → IsHeld b next body holds before given

-- After an error a store may hold what it held before, or a text of a path to which the check has come.
abbrev pub StillHolds : {D S : Type 0} → Builder → Meaning D S → S → (Option (List ℕ) → Type 0) → (Option (List ℕ) → Type 0) → (Option (List ℕ) → Type 0) → Type 0
StillHolds b next body gives old new = Keeps old new ⊎ HeldBack b next body gives new
