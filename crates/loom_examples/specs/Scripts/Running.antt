-- A thread of a script: its steps, and how far it is.
use Rattle.std.specs.Prelude.{ℕ, ◌+◌, ◌==◌, Bool, false, List, [], ◌∷◌, length, position, Option, Some, None, slice_get, cond}
use Rattle.std.specs.Str.{bytes_eq}
use Rattle.loom_examples.specs.declared.scripts.state.Handle.TheVariants.{Empty}
use Rattle.loom_examples.specs.declared.scripts.state.State.{State}
use Rattle.loom_examples.specs.Scripts.Written.{Written, Do, Labelled, Store, Label, JumpTo, IfTo, UnlessTo, SpawnAt}
use Rattle.loom_examples.specs.Scripts.Slots.{held}

pub record Running : Type 0 where
  pub steps : List Written
  pub state : State

-- at the first step, without handles, and with 0 in the four registers
abbrev pub at_first : State
at_first = record {
  at = 0;
  keep = 0;
  registers = 0 ∷ 0 ∷ 0 ∷ 0 ∷ [];
  slots = Empty ∷ Empty ∷ Empty ∷ Empty ∷ Empty ∷ Empty ∷ Empty ∷ Empty ∷ [];
}

-- a thread at its script's first step
abbrev pub started : List Written → Running
started steps = record { steps = steps; state = at_first }

-- how far a thread is that is spawned at this step: it has the numbers and handles of its spawner
abbrev pub child : State → ℕ → State
child s at = record s { at = at; keep = 0 }

abbrev pub spawned : Running → ℕ → Running
spawned s at = record s { state = child s.state at }

-- the step is the label of this name
abbrev pub is_label : List ℕ → Written → Bool
is_label name (Do keep made) = false
is_label name (Labelled keep made called) = false
is_label name (Store slot value order) = false
is_label name (Label label) = bytes_eq label name
is_label name (JumpTo other) = false
is_label name (IfTo register n other) = false
is_label name (UnlessTo register n other) = false
is_label name (SpawnAt slot other) = false

-- where the first label of this name is
abbrev pub label_at : List Written → List ℕ → Option ℕ
label_at steps name = position (is_label name) steps

abbrev pub or_end : Option ℕ → List Written → ℕ
or_end None steps = length steps
or_end (Some place) steps = place

-- where the first label of this name is; without one, the steps' end
abbrev pub place_of : List Written → List ℕ → ℕ
place_of steps name = or_end (label_at steps name) steps

-- where the label is that the step names; where it names none, the steps' end
abbrev pub named_place : List Written → Option Written → ℕ
named_place steps (Some (JumpTo name)) = place_of steps name
named_place steps (Some (IfTo register n name)) = place_of steps name
named_place steps (Some (UnlessTo register n name)) = place_of steps name
named_place steps (Some (SpawnAt slot name)) = place_of steps name
named_place steps step = length steps

-- where it goes on from this step: a jump makes no operation
abbrev pub goes_on_at : List Written → State → Written → ℕ
goes_on_at steps s (Do keep made) = s.at
goes_on_at steps s (Labelled keep made called) = s.at
goes_on_at steps s (Store slot value order) = s.at
goes_on_at steps s (Label label) = s.at
goes_on_at steps s (JumpTo name) = place_of steps name
goes_on_at steps s (IfTo register n name) = cond (held s register == n) (place_of steps name) (s.at + 1)
goes_on_at steps s (UnlessTo register n name) = cond (held s register == n) (s.at + 1) (place_of steps name)
goes_on_at steps s (SpawnAt slot name) = s.at

abbrev pub behind_label : ℕ → Option Written → ℕ
behind_label place None = place
behind_label place (Some (Do keep made)) = place
behind_label place (Some (Labelled keep made called)) = place
behind_label place (Some (Store slot value order)) = place
behind_label place (Some (Label label)) = place + 1
behind_label place (Some (JumpTo name)) = place
behind_label place (Some (IfTo register n name)) = place
behind_label place (Some (UnlessTo register n name)) = place
behind_label place (Some (SpawnAt slot name)) = place

-- the next place, if a label stands at this one
abbrev pub past_label : List Written → ℕ → ℕ
past_label steps place = behind_label place (slice_get steps place)

abbrev pub landing_from : List Written → State → Option Written → ℕ
landing_from steps s None = s.at
landing_from steps s (Some step) = past_label steps (goes_on_at steps s step)

-- where the next step is, behind a jump and a label
abbrev pub landing : List Written → State → ℕ
landing steps s = landing_from steps s (slice_get steps s.at)

-- the slot, or the register, in which the step keeps its reply
abbrev pub keep_of : Written → ℕ
keep_of (Do keep made) = keep
keep_of (Labelled keep made called) = keep
keep_of (Store slot value order) = 0
keep_of (Label label) = 0
keep_of (JumpTo name) = 0
keep_of (IfTo register n name) = 0
keep_of (UnlessTo register n name) = 0
keep_of (SpawnAt slot name) = slot

abbrev pub behind : State → ℕ → Option Written → State
behind s place None = s
behind s place (Some step) = record s { at = place + 1; keep = keep_of step }

-- behind the next step
abbrev pub fetched : List Written → State → State
fetched steps s = behind s (landing steps s) (slice_get steps (landing steps s))
