-- How the rows of a picture go on while they are made.
use Rattle.std.specs.Prelude.{ℕ, suc, ◌≡◌, List, [], ◌∷◌, ◌++◌, length}
use Rattle.loom_explain.specs.declared.event.Event.{Event}
use Rattle.loom_explain.specs.declared.picture.Row.{Row}
use Rattle.loom_explain.specs.Pictures.{IsWhole, Tells}

-- the new rows tell what the old ones tell
abbrev pub TellsSame : List Row → List Row → Type 0
TellsSame old new = (events : List Event) → Tells 1 old events → Tells 1 new events

-- they tell the event of this number besides
abbrev pub TellsOn : ℕ → Event → List Row → List Row → Type 0
TellsOn number event old new = (events : List Event) → number ≡ suc (length events) → Tells 1 old events → Tells 1 new (events ++ event ∷ [])

-- they fold so many events besides
abbrev pub FoldsOn : ℕ → List Row → List Row → Type 0
FoldsOn count old new = (events more : List Event) → length more ≡ count → Tells 1 old events → Tells 1 new (events ++ more)

-- nothing more is folded
abbrev pub StaysWhole : List Row → List Row → Type 0
StaysWhole old new = IsWhole old → IsWhole new

-- the text goes on with something that has this mark
abbrev pub GoesOnWith : List ℕ → List ℕ → List ℕ → Type 0
GoesOnWith mark old new = (before : List ℕ) × ((after : List ℕ) × (new ≡ old ++ (before ++ (mark ++ after))))
