-- The options that are to be tried at the nodes of a path, as a program collects them: each as the node that is there when it is
-- the choice.
use Rattle.std.specs.Prelude.{ℕ, ◌≡◌, ◌<◌, Bool, true, false, List, [], ◌∷◌, ◌++◌, map, take, Some, None, slice_get, ◌⊎◌}
use Rattle.loom_objects.specs.declared.choice.Choice.{Choice}
use Rattle.loom_objects.specs.Tree.Question.{Made}
use Rattle.loom_engine.specs.Walk.Machine.{is_thread}
use Rattle.loom_engine.specs.Walk.Path.{Pending, IsAtRest, choose}
use Rattle.loom_engine.specs.Parts.Floors.{step_above}
use Rattle.loom_engine.specs.Path.Nodes.{seen, stored, IsWell}
use Rattle.loom_engine.specs.Path.Tallies.{IsNoted}
use Rattle.loom_engine.specs.declared.rt.path.node.Node.{Node}
use Rattle.loom_engine.specs.declared.rt.path.opening.Opening.{Opening}

-- the option is to be tried at the node
abbrev pub IsOpen : Node → Choice → Type 0
IsOpen n o = ((seen n).made.exploring ≡ true) × ((seen n).status o ≡ Pending)

-- another node at rest that was made alike, with the same notes, whose choice is to be tried at the node
pub record HasGoneOn (n next : Node) : Type 0 where
  pub opened : IsOpen n (seen next).present
  pub made : (seen next).made ≡ (seen n).made
  pub rests : IsAtRest (seen next)
  pub well : IsWell next
  pub noted : (place : ℕ) (passes : List (Made × Choice)) → IsNoted place passes n → IsNoted place passes next

-- It is the node at this option. A schedule has just changed its choice.
pub record OpensAs (n : Node) (o : Choice) (next : Node) : Type 0 where
  pub gone_on : HasGoneOn n next
  pub present : (seen next).present ≡ o
  pub schedule : is_thread (seen n).made.default ≡ true → seen next ≡ choose (seen n) o

abbrev pub Opens : Node → Node → Type 0
Opens n next = OpensAs n (seen next).present next

abbrev pub EachNode : (Node → Type 0) → List Node → Type 0
EachNode P [] = Unit {0}
EachNode P (n ∷ nodes) = P n × EachNode P nodes

-- the option is the choice of one of the nodes
abbrev pub IsChosen : Choice → List Node → Type 0
IsChosen o [] = ⊥
IsChosen o (n ∷ nodes) = ((seen n).present ≡ o) ⊎ IsChosen o nodes

-- these are the options that are to be tried at the node
pub record AreOpenings (n : Node) (list : List Node) : Type 0 where
  pub each : EachNode (Opens n) list
  pub all : (o : Choice) → IsOpen n o → IsChosen o list

-- ---- openings of a path

-- the choices at the first nodes, so many of them
abbrev pub chosen_to : ℕ → List Node → List Choice
chosen_to k nodes = map (λ (n : Node). (seen n).present) (take k nodes)

-- the choices before the option, and itself
abbrev pub key_at : List Node → Opening → List Choice
key_at nodes opening = chosen_to opening.place nodes ++ (seen opening.node).present ∷ []

-- the option is to be tried at the node of its place
abbrev pub OpensAt : List Node → Opening → Type 0
OpensAt nodes opening = (n : Node) × (slice_get nodes opening.place ≡ Some n) × Opens n opening.node

abbrev pub EachOpening : (Opening → Type 0) → List Opening → Type 0
EachOpening P [] = Unit {0}
EachOpening P (opening ∷ list) = P opening × EachOpening P list

-- the option at this place is one of the list
abbrev pub IsListed : ℕ → Choice → List Opening → Type 0
IsListed place o [] = ⊥
IsListed place o (opening ∷ list) = ((opening.place ≡ place) × ((seen opening.node).present ≡ o)) ⊎ IsListed place o list

-- it is a schedule, below the floor
abbrev pub IsLow : ℕ → List Node → Opening → Type 0
IsLow floor nodes opening = (opening.place < floor) × (n : Node) × (slice_get nodes opening.place ≡ Some n) × (is_thread (seen n).made.default ≡ true)

-- these are the threads that are to be tried at the schedules below the floor
pub record AreLow (floor : ℕ) (nodes : List Node) (list : List Opening) : Type 0 where
  pub each : EachOpening (λ opening. OpensAt nodes opening × IsLow floor nodes opening) list
  pub all : (place : ℕ) (n : Node) (o : Choice) → place < floor → slice_get nodes place ≡ Some n → is_thread (seen n).made.default ≡ true → IsOpen n o → IsListed place o list

-- the openings of the node were added, which is at this place
abbrev pub at_place : ℕ → Node → Opening
at_place place node = record { place = place; node = node }

abbrev pub Adds : ℕ → Node → List Opening → List Opening → Type 0
Adds place n old new = (list : List Node) × AreOpenings n list × (new ≡ old ++ map (at_place place) list)

-- those of the node at this place were added, if it is a schedule
pub data AddsLow (place : ℕ) (nodes : List Node) (old new : List Opening) : Type 0 where
  none_there : ((n : Node) → slice_get nodes place ≡ Some n → is_thread (seen n).made.default ≡ true → ⊥) → new ≡ old → AddsLow place nodes old new
  some_there : (n : Node) → slice_get nodes place ≡ Some n → is_thread (seen n).made.default ≡ true → Adds place n old new → AddsLow place nodes old new

-- the deepest node above the floor went on, or none can, and those below the floor are left
abbrev pub StepsAbove : ℕ → List Node → Bool → List Node → Type 0
StepsAbove k old true new = step_above k (stored old) ≡ Some (stored new)
StepsAbove k old false new = (step_above k (stored old) ≡ None) × (new ≡ take k old)
