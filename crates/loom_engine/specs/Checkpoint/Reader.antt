-- What the reader finds in a JSON value, step by step.
use Rattle.std.specs.Prelude.{ℕ, zero, suc, Bool, true, false, ◌&&◌, ◌==◌, nat_lt, if◌then◌else◌, List, [], ◌∷◌, length, codes, Option, Some, None, option_map, option_and_then}
use Rattle.std.specs.Str.{bytes_eq}
use Rattle.serde_json.specs.Data.{Data, null, boolean, number, string, array, object, Items, no_items, item, Members, member, no_members}
use Rattle.serde_json.specs.Find.{as_bool, as_number, as_u64, as_str, as_array, as_object}
use Rattle.loom_engine.specs.declared.rt.path.node.Status.{Status}
use Rattle.loom_engine.specs.declared.rt.path.node.Status.TheVariants.{Disabled, Skip, Yield, Pending, Active, Visited}
use Rattle.loom_engine.specs.declared.rt.path.node.Node.{Node}
use Rattle.loom_engine.specs.declared.rt.path.node.Node.TheVariants.{Schedule, Load, Spurious}
use Rattle.loom_engine.specs.Path.WellFormed.{is_well_formed_schedule, is_well_formed_load, is_well_formed_spurious, unnoted}

infixl 10 ◌>>=◌
abbrev pub ◌>>=◌ : {A B : Type 0} → Option A → (A → Option B) → Option B
o >>= f = option_and_then f o

abbrev pub or_else : {A : Type 0} → Option A → Option A → Option A
or_else None other = other
or_else (Some x) other = Some x

-- what f gives at each element, where it gives something at all of them
abbrev pub each : {A B : Type 0} → (A → Option B) → List A → Option (List B)
each f [] = Some []
each f (x ∷ xs) = option_and_then (λ y. option_map (λ ys. y ∷ ys) (each f xs)) (f x)

abbrev pub list_of : Items → List Data
list_of no_items = []
list_of (item d ds) = d ∷ list_of ds

abbrev pub as_whole : Data → Option ℕ
as_whole d = option_and_then as_u64 (as_number d)

abbrev pub as_list : Data → Option (List Data)
as_list d = option_map list_of (as_array d)

-- the number, or none for null
abbrev pub as_whole_or_null : Data → Option (Option ℕ)
as_whole_or_null null = Some None
as_whole_or_null (boolean b) = None
as_whole_or_null (number n) = option_map Some (as_u64 n)
as_whole_or_null (string s) = None
as_whole_or_null (array ds) = None
as_whole_or_null (object ms) = None

-- ---- members in order

abbrev pub ends : Members → Bool
ends no_members = true
ends (member k d ms) = false

-- the value of the first member, where its key is this one, and the members after it
abbrev pub expected : List ℕ → Members → Option (Data × Members)
expected key no_members = None
expected key (member k d ms) = if bytes_eq k key then Some (d, ms) else None

-- that value, read as f does, and the members after it
unfoldable pub taken : {A : Type 0} → (Data → Option A) → List ℕ → Members → Option (A × Members)
taken f key ms = do
  found ← expected key ms
  value ← f found.0
  Some (value, found.1)

-- ---- nodes

abbrev pub status_named : List ℕ → Option Status
status_named s =
    if bytes_eq s (codes "Disabled") then Some Disabled else
    (if bytes_eq s (codes "Skip") then Some Skip else
    (if bytes_eq s (codes "Yield") then Some Yield else
    (if bytes_eq s (codes "Pending") then Some Pending else
    (if bytes_eq s (codes "Active") then Some Active else
    (if bytes_eq s (codes "Visited") then Some Visited else None)))))

unfoldable pub status_of : Data → Option Status
status_of d = option_and_then status_named (as_str d)

unfoldable pub statuses_of : List Data → Option (List Status)
statuses_of ds = if length ds == 5 then each status_of ds else None

abbrev pub is_number : ℕ → Option ℕ → Bool
is_number n None = false
is_number n (Some m) = m == n

-- whether the first of these is the number of the slot
abbrev pub begins_with : ℕ → List Data → Bool
begins_with slot [] = false
begins_with slot (d ∷ ds) = is_number slot (as_whole d)

abbrev pub rest_of : List Data → List Data
rest_of [] = []
rest_of (d ∷ ds) = ds

-- The marks of `count` slots from `slot` on, of which these are the rising numbers; none where they are not.
unfoldable pub marks_of : ℕ → ℕ → List Data → Option (List Bool)
marks_of zero slot [] = Some []
marks_of zero slot (d ∷ ds) = None
marks_of (suc count) slot ds =
    if begins_with slot ds then option_map (λ bs. true ∷ bs) (marks_of count (suc slot) (rest_of ds)) else option_map (λ bs. false ∷ bs) (marks_of count (suc slot) ds)

abbrev pub new_schedule : ℕ → Bool → List Status → Node
new_schedule first exploring statuses = Schedule (unnoted (Some first) exploring statuses)

abbrev pub new_load : Bool → List Bool → ℕ → Node
new_load exploring readable position = Load (record { exploring = exploring; readable = readable; position = position })

abbrev pub new_spurious : Bool → Bool → Node
new_spurious exploring answer = Spurious (record { exploring = exploring; answer = answer })

unfoldable pub schedule_of : Members → Option Node
schedule_of ms = do
  exploring ← taken as_bool (codes "exploring") ms
  first ← taken as_whole (codes "first") exploring.1
  schedule ← taken as_list (codes "schedule") first.1
  statuses ← statuses_of schedule.0
  if ends schedule.1 && nat_lt first.0 5 && is_well_formed_schedule first.0 exploring.0 statuses then Some (new_schedule first.0 exploring.0 statuses) else None

unfoldable pub load_of : Members → Option Node
load_of ms = do
  at ← taken as_whole (codes "at") ms
  exploring ← taken as_bool (codes "exploring") at.1
  load ← taken as_list (codes "load") exploring.1
  readable ← marks_of 7 0 load.0
  if ends load.1 && nat_lt at.0 7 && is_well_formed_load exploring.0 readable at.0 then Some (new_load exploring.0 readable at.0) else None

unfoldable pub spurious_of : Members → Option Node
spurious_of ms = do
  exploring ← taken as_bool (codes "exploring") ms
  answer ← taken as_bool (codes "spurious") exploring.1
  if ends answer.1 && is_well_formed_spurious exploring.0 answer.0 then Some (new_spurious exploring.0 answer.0) else None

unfoldable pub node_of : Data → Option Node
node_of d = do
  ms ← as_object d
  or_else (schedule_of ms) (or_else (load_of ms) (spurious_of ms))

-- ---- the whole

pub record Shape : Type 0 where
  pub exploring : Bool
  pub nodes : List Data
  pub order : List ℕ
  pub preemption_bound : Option ℕ
  pub reduce : Bool
  pub version : ℕ

unfoldable pub shape_of : Data → Option Shape
shape_of d = do
  ms ← as_object d
  exploring ← taken as_bool (codes "exploring") ms
  nodes ← taken as_list (codes "nodes") exploring.1
  order ← taken as_str (codes "order") nodes.1
  bound ← taken as_whole_or_null (codes "preemption_bound") order.1
  reduce ← taken as_bool (codes "reduce") bound.1
  version ← taken as_whole (codes "version") reduce.1
  if ends version.1 then Some (record { exploring = exploring.0; nodes = nodes.0; order = order.0; preemption_bound = bound.0; reduce = reduce.0; version = version.0 }) else None
