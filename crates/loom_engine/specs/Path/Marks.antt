-- What the marks of a schedule do to a path, one thread after the other.
use Rattle.std.specs.Prelude.{ℕ, ◌≡◌, Bool, ◌&&◌, eqb, List, [], ◌∷◌, Option, slice_get}
use Rattle.loom_objects.specs.declared.choice.Choice.{Choice}
use Rattle.loom_objects.specs.Tree.Question.{Made}
use Rattle.loom_engine.specs.Walk.UnderWay.{mark_with}
use Rattle.loom_engine.specs.Trees.Drive.{passes_of}
use Rattle.loom_engine.specs.Trees.Marks.{adds_there, adds_any, is_off_bound}
use Rattle.loom_engine.specs.Trees.Meeting.{count, front_of}
use Rattle.loom_engine.specs.Path.Route.{Route, stored, trail}
pub use Rattle.loom_engine.specs.Path.Nearest.{passes_in, IsScheduleAt, IsNearest}

-- the marks for these pairs of a place and a thread
abbrev pub marks_for : Option ℕ → List (Made × Choice) → List (ℕ × ℕ) → ℕ → Choice → Bool
marks_for bound passes pairs k o = is_off_bound bound (count (front_of k passes)) && adds_any bound passes k o pairs

-- the marks where a thread is added at one place
abbrev pub marks_at : Option ℕ → List (Made × Choice) → ℕ → ℕ → ℕ → Choice → Bool
marks_at bound passes place thread k o = is_off_bound bound (count (front_of k passes)) && (eqb k place && adds_there (slice_get passes k) thread o)

-- these marks were made, and nothing else changed
abbrev pub IsMarked : Route → (ℕ → Choice → Bool) → Route → Type 0
IsMarked old marks new = (stored new.nodes ≡ mark_with marks 0 (stored old.nodes)) × (new ≡ record old { nodes = new.nodes })

-- the thread was added at this place
abbrev pub Adds : Route → ℕ → ℕ → Route → Type 0
Adds old place thread new = IsMarked old (marks_at old.search.bound (passes_of (trail old)) place thread) new

-- the thread was added for the access that was made at this place
abbrev pub Marks : Route → ℕ → ℕ → Route → Type 0
Marks old place thread new = IsMarked old (marks_for old.search.bound (passes_of (trail old)) ((place, thread) ∷ [])) new
