-- A node as a word of 64 bits. The lowest two say of which kind it is, the next one whether the run explores there:
--
--     schedule   0   3 to 5 the default thread, 7 for none; 6 to 20 five statuses; 32 to 63 how many preemptions the run counts
--     load       1   3 to 9 which of the seven slots may be read; 10 to 12 the place of the choice among them
--     spurious   2   3 the choice
--
-- All other bits are zero. What is a list, as the statuses are, has its first part lowest.
use Rattle.std.specs.Prelude.{ℕ, zero, suc, ◌≡◌, ◌+◌, ◌*◌, ◌/◌, ◌%◌, ◌^◌, ◌<◌, ◌≤◌, ◌⊎◌, Bool, true, false, List, [], ◌∷◌, length, map, Option, Some, None, IfSome}
use Rattle.loom_objects.specs.declared.choice.Choice.{Choice}
use Rattle.loom_engine.specs.Path.Nodes.{seen}
use Rattle.loom_engine.specs.declared.rt.path.node.Status.{Status}
use Rattle.loom_engine.specs.declared.rt.path.node.Status.TheVariants.{Disabled, Skip, Yield, Pending, Active, Visited}
use Rattle.loom_engine.specs.declared.rt.path.node.Node.{Node}
use Rattle.loom_engine.specs.declared.rt.path.node.Node.TheVariants as node
use Rattle.loom_engine.specs.declared.rt.path.node.Schedule.{Schedule}
use Rattle.loom_engine.specs.declared.rt.path.node.Load.{Load}
use Rattle.loom_engine.specs.declared.rt.path.node.Spurious.{Spurious}
use Rattle.loom_engine.specs.declared.rt.path.node.Places.{Places}

-- ---- the layout

-- the number of a status, of three bits
abbrev pub status_number : Status → ℕ
status_number Disabled = 0
status_number Skip = 1
status_number Yield = 2
status_number Pending = 3
status_number Active = 4
status_number Visited = 5

-- the number of a default thread, of three bits
abbrev pub first_number : Option ℕ → ℕ
first_number None = 7
first_number (Some thread) = thread

abbrev pub bit : Bool → ℕ
bit true = 1
bit false = 0

-- numbers of so many bits beside each other
abbrev pub beside : ℕ → List ℕ → ℕ
beside count [] = 0
beside count (v ∷ vs) = v + 2 ^ count * beside count vs

-- the word that a node is
abbrev pub word_of : Node → ℕ
word_of (node.Schedule n) = 0 + 2 ^ 2 * bit n.exploring + 2 ^ 3 * first_number n.first + 2 ^ 6 * beside 3 (map status_number n.statuses) + 2 ^ 32 * n.preemptions
word_of (node.Load n) = 1 + 2 ^ 2 * bit n.exploring + 2 ^ 3 * beside 1 (map bit n.readable) + 2 ^ 10 * n.position
word_of (node.Spurious n) = 2 + 2 ^ 2 * bit n.exploring + 2 ^ 3 * bit n.answer

-- a node that a word can hold
abbrev pub IsFit : Node → Type 0
IsFit (node.Schedule n) = (length n.statuses ≡ 5) × IfSome n.first (λ thread. thread < 7)
IsFit (node.Load n) = (length n.readable ≡ 7) × (n.position < 8)
IsFit (node.Spurious n) = Unit {0}

-- ---- the fields

-- so many bits of a word, from this one on
abbrev pub bits : ℕ → ℕ → ℕ → ℕ
bits word low count = word / 2 ^ low % 2 ^ count

-- The number is in these bits now: it is read there, nothing else has changed, and so it has taken the place of what was there.
pub record IsSet (low count number old new : ℕ) : Type 0 where
  pub read : bits new low count ≡ number
  pub others : (k n : ℕ) → (k + n ≤ low) ⊎ (low + count ≤ k) → bits new k n ≡ bits old k n
  pub sum : new + bits old low count * 2 ^ low ≡ old + number * 2 ^ low

-- ---- a word, read

abbrev pub status_of : ℕ → Status
status_of zero = Disabled
status_of (suc zero) = Skip
status_of (suc (suc zero)) = Yield
status_of (suc (suc (suc zero))) = Pending
status_of (suc (suc (suc (suc zero)))) = Active
status_of (suc (suc (suc (suc (suc n))))) = Visited

abbrev pub first_of : ℕ → Option ℕ
first_of zero = Some 0
first_of (suc zero) = Some 1
first_of (suc (suc zero)) = Some 2
first_of (suc (suc (suc zero))) = Some 3
first_of (suc (suc (suc (suc zero)))) = Some 4
first_of (suc (suc (suc (suc (suc zero))))) = Some 5
first_of (suc (suc (suc (suc (suc (suc zero)))))) = Some 6
first_of (suc (suc (suc (suc (suc (suc (suc n))))))) = None

abbrev pub is_one : ℕ → Bool
is_one zero = false
is_one (suc n) = true

abbrev pub explores_in : ℕ → Bool
explores_in word = is_one (bits word 2 1)

abbrev pub status_in : ℕ → ℕ → Status
status_in word thread = status_of (bits word (6 + 3 * thread) 3)

abbrev pub statuses_in : ℕ → List Status
statuses_in word = status_in word 0 ∷ status_in word 1 ∷ status_in word 2 ∷ status_in word 3 ∷ status_in word 4 ∷ []

abbrev pub may_read_in : ℕ → ℕ → Bool
may_read_in word slot = is_one (bits word (3 + slot) 1)

abbrev pub readable_in : ℕ → List Bool
readable_in word =
    may_read_in word 0 ∷ may_read_in word 1 ∷ may_read_in word 2 ∷ may_read_in word 3 ∷ may_read_in word 4 ∷ may_read_in word 5 ∷ may_read_in word 6 ∷ []

abbrev pub schedule_in : ℕ → Places → Schedule
schedule_in word places = record {
  preemptions = bits word 32 32;
  switch = places.switch;
  nearest = places.nearest;
  first = first_of (bits word 3 3);
  exploring = explores_in word;
  statuses = statuses_in word;
}

abbrev pub load_in : ℕ → Load
load_in word = record { exploring = explores_in word; readable = readable_in word; position = bits word 10 3 }

abbrev pub spurious_in : ℕ → Spurious
spurious_in word = record { exploring = explores_in word; answer = is_one (bits word 3 1) }

abbrev pub kind_in : ℕ → ℕ → Places → Node
kind_in zero word places = node.Schedule (schedule_in word places)
kind_in (suc zero) word places = node.Load (load_in word)
kind_in (suc (suc n)) word places = node.Spurious (spurious_in word)

-- the node that a word is, with the places beside it
abbrev pub node_in : ℕ → Places → Node
node_in word places = kind_in (bits word 0 2) word places

-- what was chosen at the node that a word is, whatever is noted beside it
abbrev pub choice_in : ℕ → Choice
choice_in word = (seen (node_in word (record { switch = None; nearest = None }))).present

-- the places that a node notes beside its word
abbrev pub places_of : Node → Places
places_of (node.Schedule n) = record { switch = n.switch; nearest = n.nearest }
places_of (node.Load n) = record { switch = None; nearest = None }
places_of (node.Spurious n) = record { switch = None; nearest = None }

-- the nodes that words are
abbrev pub nodes_in : List ℕ → List Places → List Node
nodes_in [] places = []
nodes_in (w ∷ ws) [] = []
nodes_in (w ∷ ws) (p ∷ ps) = node_in w p ∷ nodes_in ws ps

-- each word is laid out as its node, with places beside it
abbrev pub AreLaidOut : List ℕ → List Places → Type 0
AreLaidOut [] [] = Unit {0}
AreLaidOut [] (p ∷ ps) = ⊥
AreLaidOut (w ∷ ws) [] = ⊥
AreLaidOut (w ∷ ws) (p ∷ ps) = (word_of (node_in w p) ≡ w) × AreLaidOut ws ps
