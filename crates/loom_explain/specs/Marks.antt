-- What the text of a picture has of each row: a mark, by which its events can be found again.
use Rattle.std.specs.Prelude.{ℕ, ◌≡◌, List, [], ◌∷◌, ◌++◌, map, codes, decimal}
use Rattle.loom_explain.specs.declared.event.Event.{Event}
use Rattle.loom_explain.specs.declared.picture.Form.{Form}
use Rattle.loom_explain.specs.declared.picture.Form.TheVariants.{Svg, Mermaid, Json}
use Rattle.loom_explain.specs.declared.picture.Row.{Row}
use Rattle.loom_explain.specs.declared.picture.Row.TheVariants.{Told, Came, Folded}
use Rattle.loom_explain.specs.Pictures.{Tells}

-- the mark of an event, by its number, and but in an SVG by its thread
abbrev pub told_mark : Form → ℕ → ℕ → List ℕ
told_mark Svg event thread = codes "data-event=\"" ++ decimal event ++ codes "\""
told_mark Mermaid event thread = codes "Note over t" ++ decimal thread ++ codes ": " ++ decimal event ++ codes " "
told_mark Json event thread = codes "\"event\":" ++ decimal event ++ codes ",\"thread\":" ++ decimal thread

-- the mark of a fold, by how many events it has
abbrev pub folded_mark : Form → ℕ → List ℕ
folded_mark Svg count = codes "data-folded=\"" ++ decimal count ++ codes "\""
folded_mark Mermaid count = codes ": events not drawn: " ++ decimal count
folded_mark Json count = codes "\"folded\":" ++ decimal count

-- the mark of a row; what came of an event has none
abbrev pub mark_of : Form → Row → List ℕ
mark_of form (Told shown) = told_mark form shown.event shown.thread
mark_of form (Came shown) = []
mark_of form (Folded count) = folded_mark form count

-- these stand in the text, one behind the other
abbrev pub StandIn : List (List ℕ) → List ℕ → Type 0
StandIn [] text = Unit {0}
StandIn (mark ∷ marks) text = (before : List ℕ) × ((after : List ℕ) × ((text ≡ before ++ (mark ++ after)) × StandIn marks after))

-- the text of this form has the marks of rows that tell these events
abbrev pub Draws : Form → List Event → List ℕ → Type 0
Draws form events text = (rows : List Row) × (Tells 1 rows events × StandIn (map (mark_of form) rows) text)
