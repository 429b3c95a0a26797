-- Which events the rows of a picture tell.
use Rattle.std.specs.Prelude.{ℕ, suc, ◌≡◌, ◌+◌, ◌≤◌, List, [], ◌∷◌, length, drop}
use Rattle.loom_explain.specs.declared.event.Event.{Event}
use Rattle.loom_explain.specs.declared.picture.Row.{Row}
use Rattle.loom_explain.specs.declared.picture.Row.TheVariants.{Told, Came, Folded}

-- The rows tell these events, each once and in order, of which the first has this number. A row of an event has its number and its
-- thread; a row of what came of one tells no event; and where events are folded, the row says how many they are.
abbrev pub Tells : ℕ → List Row → List Event → Type 0
Tells number [] [] = Unit {0}
Tells number [] (event ∷ events) = ⊥
Tells number (Told shown ∷ rows) [] = ⊥
Tells number (Told shown ∷ rows) (event ∷ events) = (shown.event ≡ number) × (shown.thread ≡ event.thread) × Tells (suc number) rows events
Tells number (Came shown ∷ rows) events = Tells number rows events
Tells number (Folded count ∷ rows) events = (count ≤ length events) × Tells (number + count) rows (drop count events)

-- no events are folded
abbrev pub IsWhole : List Row → Type 0
IsWhole [] = Unit {0}
IsWhole (Told shown ∷ rows) = IsWhole rows
IsWhole (Came shown ∷ rows) = IsWhole rows
IsWhole (Folded count ∷ rows) = ⊥
