-- What the reader finds in the JSON values of parts, step by step.
use Rattle.std.specs.Prelude.{ℕ, Bool, nat_lt, if◌then◌else◌, List, [], ◌∷◌, codes, Option, Some, None, option_and_then}
use Rattle.serde_json.specs.Data.{Data, null, boolean, number, string, array, object}
use Rattle.serde_json.specs.Find.{get, as_bool, as_u64, as_str, as_object}
use Rattle.loom_objects.specs.declared.choice.Choice.{Choice}
use Rattle.loom_objects.specs.declared.choice.Choice.TheVariants.{Thread, Load, Spurious}
use Rattle.loom_engine.specs.Checkpoint.Reader.{◌>>=◌, as_whole, as_list, each, ends, taken}

-- the text that an object has as its format
abbrev pub format_of : Data → Option (List ℕ)
format_of d = option_and_then as_str (get (codes "format") d)

-- the value, whatever it is
abbrev pub as_it_is : Data → Option Data
as_it_is d = Some d

-- the number, where it is below the limit
abbrev pub number_below : ℕ → Option ℕ → Option ℕ
number_below limit None = None
number_below limit (Some n) = if nat_lt n limit then Some n else None

abbrev pub thread_at : Option ℕ → Option Choice
thread_at None = None
thread_at (Some n) = Some (Thread (Some n))

abbrev pub slot_at : Option ℕ → Option Choice
slot_at None = None
slot_at (Some n) = Some (Load n)

abbrev pub slot_in : Option (List Data) → Option Choice
slot_in None = None
slot_in (Some []) = None
slot_in (Some (d ∷ [])) = slot_at (number_below 7 (as_whole d))
slot_in (Some (d ∷ e ∷ ds)) = None

abbrev pub choice_at : Data → Option Choice
choice_at null = Some (Thread None)
choice_at (boolean answer) = Some (Spurious answer)
choice_at (number n) = thread_at (number_below 5 (as_u64 n))
choice_at (string s) = None
choice_at (array ds) = slot_in (as_list (array ds))
choice_at (object ms) = None

abbrev pub choices_at : Option (List Data) → Option (List Choice)
choices_at None = None
choices_at (Some ds) = each choice_at ds

abbrev pub key_at : Data → Option (List Choice)
key_at d = choices_at (as_list d)

pub record Item : Type 0 where
  pub done : Bool
  pub floor : ℕ
  pub path : Data
  pub runs : ℕ

unfoldable pub item_of : Data → Option Item
item_of d = do
  ms ← as_object d
  done ← taken as_bool (codes "done") ms
  floor ← taken as_whole (codes "floor") done.1
  path ← taken as_it_is (codes "path") floor.1
  runs ← taken as_whole (codes "runs") path.1
  if ends runs.1 then Some (record { done = done.0; floor = floor.0; path = path.0; runs = runs.0 }) else None

pub record Single : Type 0 where
  pub format : List ℕ
  pub part : Data
  pub version : ℕ

unfoldable pub single_of : Data → Option Single
single_of d = do
  ms ← as_object d
  format ← taken as_str (codes "format") ms
  part ← taken as_it_is (codes "part") format.1
  version ← taken as_whole (codes "version") part.1
  if ends version.1 then Some (record { format = format.0; part = part.0; version = version.0 }) else None

pub record Listed : Type 0 where
  pub format : List ℕ
  pub parts : List Data
  pub runs : ℕ
  pub search : Data
  pub trunk : List Data
  pub version : ℕ

unfoldable pub listed_of : Data → Option Listed
listed_of d = do
  ms ← as_object d
  format ← taken as_str (codes "format") ms
  parts ← taken as_list (codes "parts") format.1
  runs ← taken as_whole (codes "runs") parts.1
  search ← taken as_it_is (codes "search") runs.1
  trunk ← taken as_list (codes "trunk") search.1
  version ← taken as_whole (codes "version") trunk.1
  if ends version.1 then Some (record { format = format.0; parts = parts.0; runs = runs.0; search = search.0; trunk = trunk.0; version = version.0 }) else None
