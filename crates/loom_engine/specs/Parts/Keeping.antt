-- What a program's list of parts is to a search in parts.
use Rattle.std.specs.Prelude.{ℕ, ◌≡◌, ◌≤◌, ◌<◌, ◌+◌, ◌-◌, ◌^◌, min, Bool, true, false, List, [], ◌∷◌, ◌++◌, map, length, ◌⊎◌, ◌↔◌, slice_get, Option, Some, None, Vec}
use Rattle.std.specs.declared.alloc.Global.{Global}
use Rattle.loom_objects.specs.declared.choice.Choice.{Choice}
use Rattle.loom_engine.specs.Walk.Machine.{Machine}
use Rattle.loom_engine.specs.Walk.Sound.{IsMachine}
use Rattle.loom_engine.specs.Walk.Runs.{Reachable}
use Rattle.loom_engine.specs.Walk.Path.{Stored, IsResting}
use Rattle.loom_engine.specs.Walk.Lists.{Member, IsOnce}
use Rattle.loom_engine.specs.Parts.Cuts.{Part, IsIn, IsBelow, IsWithout}
use Rattle.loom_engine.specs.Parts.Works.{Work}
use Rattle.loom_engine.specs.Parts.Slices.{Slice, Ended}
use Rattle.loom_engine.specs.Parts.Openings.{chosen_to, key_at, EachOpening}
use Rattle.loom_engine.specs.Path.Nodes.{stored}
use Rattle.loom_engine.specs.Path.Route.{Route}
use Rattle.loom_engine.specs.Trees.Meeting.{Settings}
use Rattle.loom_engine.specs.Checkpoint.Accepted.{DiffersIn}
use Rattle.loom_engine.specs.Checkpoint.Grammar.{order_rule}
use Rattle.loom_engine.specs.declared.rt.path.checkpoint.error.PathError.{PathError}
use Rattle.loom_engine.specs.declared.rt.path.checkpoint.error.PathError.TheVariants.{NotJson, WrongShape, WrongVersion, OtherSettings, TooManyNodes, BadNode, Memory}
use Rattle.loom_engine.specs.declared.rt.path.node.Node.{Node}
use Rattle.loom_engine.specs.declared.rt.path.opening.Opening.{Opening}
use Rattle.loom_engine.specs.declared.rt.parts.Part.{Part as Kept}
use Rattle.loom_engine.specs.declared.rt.parts.Parts.{Parts}

-- the part as the rules see it
abbrev pub part_of : Kept → Part
part_of q = record { base = q.base.items; path = stored q.path.nodes }

-- the parts, the last one first
abbrev pub views_onto : List Kept → List Part → List Part
views_onto [] later = later
views_onto (q ∷ list) later = views_onto list (part_of q ∷ later)

abbrev pub views : List Kept → List Part
views list = views_onto list []

abbrev pub choices_of : Vec Choice Global → List Choice
choices_of key = key.items

-- the options handed out, the last one first
abbrev pub keys_onto : List (Vec Choice Global) → List (List Choice) → List (List Choice)
keys_onto [] later = later
keys_onto (k ∷ trunk) later = keys_onto trunk (k.items ∷ later)

abbrev pub keys : List (Vec Choice Global) → List (List Choice)
keys trunk = keys_onto trunk []

-- a search that has made these runs has these parts, and nothing is noted
abbrev pub IsAt : Machine → List (List Choice) → Parts → Type 0
IsAt m made parts = (spent : List Part) × Work m made (views parts.list.items) spent (keys parts.trunk.items) []

-- a plain search has made these runs and come to this path: some of them, or none yet
abbrev pub HasComeTo : Machine → List (List Choice) → List Stored → Type 0
HasComeTo m runs p = ((runs ≡ []) × (p ≡ [])) ⊎ Slice m 0 [] runs p

-- the runs are those that are reachable, each once
abbrev pub HasMadeAll : Machine → List (List Choice) → Type 0
HasMadeAll m made = IsOnce made × ((x : List Choice) → Reachable m x ↔ Member x made)

-- However a program's list of parts has come about, no run was made twice, each is reachable, and each part's path is one of the
-- machine's. Where no part is left the runs made are all that are reachable.
abbrev pub PartsLaw : Type 0
PartsLaw = (m : Machine) (made : List (List Choice)) (parts : Parts) → IsMachine m → IsAt m made parts
    → IsOnce made × ((x : List Choice) → Member x made → Reachable m x)
    × ((number : ℕ) (q : Kept) → slice_get parts.list.items number ≡ Some q → IsResting m (stored q.path.nodes))
    × (parts.list.items ≡ [] → HasMadeAll m made)

-- ---- to take a part, and to give it back

abbrev pub IsCopy : Kept → Kept → Type 0
IsCopy q copy = (copy.base.items ≡ q.base.items) × (copy.path ≡ q.path) × (copy.is_done ≡ q.is_done) × (copy.runs ≡ q.runs)

-- a copy of the part of this number, or there is none
abbrev pub Takes : Parts → ℕ → Option Kept → Type 0
Takes parts number None = length parts.list.items ≤ number
Takes parts number (Some copy) = (q : Kept) × (slice_get parts.list.items number ≡ Some q) × IsCopy q copy

-- the part of this number has this base
abbrev pub IsBaseOf : List Kept → List Choice → ℕ → Type 0
IsBaseOf list base number = (q : Kept) × (slice_get list number ≡ Some q) × (q.base.items ≡ base)

-- some runs of a part have left its path so: there are more, or the last one was among them
abbrev pub Leaves : Machine → Part → List (List Choice) → Bool → List Stored → Type 0
Leaves m q runs false p = Slice m (length q.base) q.path runs p
Leaves m q runs true p = Ended m (length q.base) q.path runs p

-- Where some runs of the listed part with its base have left it so, they are made, and the new list is the search's.
abbrev pub GivesBack : Parts → Kept → Parts → Bool → Type 0
GivesBack old part new false = (new ≡ old) × ((number : ℕ) → IsBaseOf old.list.items part.base.items number → ⊥)
GivesBack old part new true =
    (m : Machine) (made runs : List (List Choice)) (number : ℕ) (q : Kept) → IsMachine m → IsAt m made old → slice_get old.list.items number ≡ Some q → q.base.items ≡ part.base.items
    → Leaves m (part_of q) runs part.is_done (stored part.path.nodes) → IsAt m (runs ++ made) new

-- the runs of the part that is given back count, and the search stays
abbrev pub Counts : Parts → Kept → Parts → Bool → Type 0
Counts old part new false = new ≡ old
Counts old part new true = (new.runs ≡ min (old.runs + part.runs) (2 ^ 64 - 1)) × (new.search ≡ old.search)

-- each part with another base stays as it is
abbrev pub KeepsOthers : List Kept → List Choice → List Kept → Type 0
KeepsOthers old base new = (number : ℕ) (q : Kept) → slice_get old number ≡ Some q → (q.base.items ≡ base → ⊥) → (place : ℕ) × (slice_get new place ≡ Some q)

-- no run counts, and the search stays
abbrev pub CountsNone : Parts → Parts → Type 0
CountsNone old new = (new.runs ≡ old.runs) × (new.search ≡ old.search)

-- the search goes on with other parts, and no run is made
abbrev pub Cuts : Parts → Parts → Type 0
Cuts old new = (m : Machine) (made : List (List Choice)) → IsMachine m → IsAt m made old → IsAt m made new

-- ---- to hand options out

-- the path of some part that is out, or is done
pub record Stands (out spent : List Part) (nodes : List Node) (source : Part) : Type 0 where
  pub known : IsIn source out ⊎ IsIn source spent
  pub path : source.path ≡ stored nodes

-- the opening's option has been handed out, and its note is done with
abbrev pub HandsOut : Parts → Parts → List Node → Opening → Type 0
HandsOut old new nodes opening = (m : Machine) (made : List (List Choice)) (out spent : List Part) (source : Part) (notes less : List (List Choice))
    → Work m made (out ++ views old.list.items) spent (keys old.trunk.items) notes → Stands out spent nodes source → IsBelow (chosen_to opening.place nodes) source.base
    → Member (key_at nodes opening) notes → IsWithout (key_at nodes opening) notes less
    → Work m made (out ++ views new.list.items) spent (keys new.trunk.items) less

-- parts were added behind those that were there
abbrev pub AddsParts : Parts → Parts → Type 0
AddsParts old new = ((more : List Kept) × (new.list.items ≡ old.list.items ++ more)) × CountsNone old new

abbrev pub HandsOutEach : Parts → Parts → List Node → List Opening → Type 0
HandsOutEach old new nodes list = (m : Machine) (made : List (List Choice)) (out spent : List Part) (source : Part)
    → Work m made (out ++ views old.list.items) spent (keys old.trunk.items) (map (key_at nodes) list) → Stands out spent nodes source
    → EachOpening (λ opening. IsBelow (chosen_to opening.place nodes) source.base) list
    → Work m made (out ++ views new.list.items) spent (keys new.trunk.items) []

-- the keys of these options before others, the last one first
abbrev pub issued_onto : List Choice → List Choice → List (List Choice) → List (List Choice)
issued_onto base [] later = later
issued_onto base (o ∷ list) later = issued_onto base list ((base ++ o ∷ []) ∷ later)

-- these options were handed out too, and the parts are the same
abbrev pub Issues : Parts → Parts → List Choice → List Choice → Type 0
Issues old new base list = (new.list ≡ old.list) × (keys new.trunk.items ≡ issued_onto base list (keys old.trunk.items)) × CountsNone old new

-- ---- to work on a part

-- why a path is not taken up by such a search
abbrev pub IsOtherSearch : Settings → Bool → Route → PathError → Type 0
IsOtherSearch s explores path (OtherSettings setting) = DiffersIn s explores path.explores order_rule path.search.bound path.search.reduce setting
IsOtherSearch s explores path (TooManyNodes count) = (count ≡ length path.nodes) × (s.max_branches < count)
IsOtherSearch s explores path (Memory e) = Unit {0}
IsOtherSearch s explores path NotJson = ⊥
IsOtherSearch s explores path WrongShape = ⊥
IsOtherSearch s explores path (WrongVersion version) = ⊥
IsOtherSearch s explores path BadNode = ⊥
