-- What the words of the program mean, and which of them are options.
use Rattle.std.specs.Prelude.{ℕ, ◌+◌, ◌==◌, List, [], ◌∷◌, length, drop, codes, nat_eq, Option, Some, None, Bool, true, ◌&&◌, ◌||◌}
use Rattle.std.specs.List.{find, list_any, starts_with}
use Rattle.std.specs.Str.{bytes_eq}
use Rattle.loom_examples.specs.declared.rows.Row.{Row}

-- the file that words name: the second of two
abbrev pub file_in : List (List ℕ) → Option (List ℕ)
file_in (name ∷ file ∷ []) = Some file
file_in words = None

-- what a name means: the first row of the list that has it
abbrev pub row_of : List Row → List ℕ → Option Row
row_of rows name = find (λ row. bytes_eq row.name.now name) rows

-- what words mean: the first of one or two words is a name, and nothing else means a row
abbrev pub meant_by : List Row → List (List ℕ) → Option Row
meant_by rows (name ∷ []) = row_of rows name
meant_by rows (name ∷ file ∷ []) = row_of rows name
meant_by rows words = None

-- the names of the program's options
abbrev pub option_names : List (List ℕ)
option_names =
    codes "help" ∷ codes "explain" ∷ codes "svg" ∷ codes "mermaid" ∷ codes "replay" ∷ codes "rising" ∷ codes "walk" ∷ codes "walk-depth" ∷ codes "cover" ∷ codes "states" ∷ codes "snapshots" ∷ codes "recorded" ∷ codes "shorten" ∷ codes "jobs" ∷ codes "split" ∷ codes "part" ∷ codes "gather" ∷ codes "json" ∷ codes "list" ∷ codes "tour" ∷
    codes "measure" ∷ codes "max-threads" ∷ codes "max-branches" ∷ codes "max-steps" ∷ codes "max-permutations" ∷
    codes "max-duration" ∷ codes "preemption-bound" ∷ codes "checkpoint-interval" ∷ codes "reduce" ∷
    codes "no-reduce" ∷ codes "explicit-explore" ∷ []

abbrev pub begins_with : List ℕ → List ℕ → Bool
begins_with front word = starts_with nat_eq word front

-- what can follow an option's name: nothing, or a value behind `=`
abbrev pub ends_name : List ℕ → Bool
ends_name [] = true
ends_name (sign ∷ value) = sign == 61

-- the word is the option of this name: `--name`, or `--name=` and a value
abbrev pub is_named : List ℕ → List ℕ → Bool
is_named word name = begins_with (codes "--") word && begins_with name (drop 2 word) && ends_name (drop (2 + length name) word)

-- The word is an option: one of these names, `-h` for the help, or `--`, behind which no word is an option.
abbrev pub is_option : List ℕ → Bool
is_option word = bytes_eq word (codes "-h") || bytes_eq word (codes "--") || list_any (is_named word) option_names
