-- What the calls of a store of checkpoints do.
use Rattle.std.specs.Prelude.{ℕ, ◌≡◌, ◌≢◌, ◌<◌, ◌⊎◌, ◌^◌, ◌-◌, List, ◌++◌, codes, Option, Some, Result, Ok, Err, Vec}
use Rattle.std.specs.Option.{option_map}
use Rattle.std.specs.declared.alloc.Global.{Global}
use Rattle.loom.specs.declared.checkpoint.store.StoreError.{StoreError}
use Rattle.loom.specs.declared.checkpoint.store.StoreError.TheVariants.{Fault, Memory}

-- the bytes of a text, if there is one
abbrev pub text_in : Option (Vec ℕ Global) → Option (List ℕ)
text_in text = option_map (λ t. t.items) text

-- what may be held stays as it is
abbrev pub Keeps : (Option (List ℕ) → Type 0) → (Option (List ℕ) → Type 0) → Type 0
Keeps old new = (text : Option (List ℕ)) → old text → new text

-- a count of faults has risen, or is as high as it can be
abbrev pub HasRisen : ℕ → ℕ → Type 0
HasRisen old new = (old < new) ⊎ (new ≡ 2 ^ 64 - 1)

-- a fault raises the count, and nothing else changes it
abbrev pub IsCounted : ℕ → ℕ → StoreError → Type 0
IsCounted old new Fault = HasRisen old new
IsCounted old new Memory = new ≡ old

abbrev pub Counts : {A : Type 0} → Result A StoreError → ℕ → ℕ → Type 0
Counts (Ok answer) old new = new ≡ old
Counts (Err e) old new = IsCounted old new e

-- ---- files by name, which may hold texts

-- what each file may hold stays as it is
abbrev pub KeepsFiles : (List ℕ → Option (List ℕ) → Type 0) → (List ℕ → Option (List ℕ) → Type 0) → Type 0
KeepsFiles old new = (name : List ℕ) → Keeps (old name) (new name)

-- so does what each but this one may hold
abbrev pub KeepsOthers : List ℕ → (List ℕ → Option (List ℕ) → Type 0) → (List ℕ → Option (List ℕ) → Type 0) → Type 0
KeepsOthers name old new = (other : List ℕ) → other ≢ name → Keeps (old other) (new other)

-- and what each but these two may hold
abbrev pub KeepsThird : List ℕ → List ℕ → (List ℕ → Option (List ℕ) → Type 0) → (List ℕ → Option (List ℕ) → Type 0) → Type 0
KeepsThird one two old new = (third : List ℕ) → third ≢ one → third ≢ two → Keeps (old third) (new third)

-- the text of one file is that of the other now
abbrev pub Moves : List ℕ → List ℕ → (List ℕ → Option (List ℕ) → Type 0) → (List ℕ → Option (List ℕ) → Type 0) → Type 0
Moves from to old new = ((text : List ℕ) → old from (Some text) → new to (Some text)) × KeepsThird from to old new

-- the name of the file beside one, into which a text is written first
abbrev pub beside : List ℕ → List ℕ
beside name = name ++ codes ".new"
