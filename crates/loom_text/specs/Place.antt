-- Places of a text.
use Rattle.std.specs.Prelude.{ℕ, ◌≡◌, ◌+◌, ◌≤◌, ◌==◌, Bool, if◌then◌else◌, List, length, take, fold, count_by}
use Rattle.loom_text.specs.declared.error.Place.{Place}
use Rattle.loom_text.specs.declared.error.ReadError.{ReadError}
use Rattle.loom_text.specs.declared.error.ReadError.TheVariants.{Wrong, Memory}

-- a byte that ends a line
abbrev pub is_newline : ℕ → Bool
is_newline byte = byte == 10

-- the line of what follows these bytes, from 1
abbrev pub line_behind : List ℕ → ℕ
line_behind before = count_by is_newline before + 1

-- the column, which is 1 behind the end of a line, and one more behind any other byte
abbrev pub next_column : ℕ → ℕ → ℕ
next_column column byte = if is_newline byte then 1 else column + 1

abbrev pub column_behind : List ℕ → ℕ
column_behind before = fold next_column 1 before

-- it begins and ends in the text, or at its end, and its line and column are those of its beginning
pub record IsPlaceOf (text : List ℕ) (place : Place) : Type 0 where
  pub ordered : place.start ≤ place.end
  pub within : place.end ≤ length text
  pub line : place.line ≡ line_behind (take place.start text)
  pub column : place.column ≡ column_behind (take place.start text)

-- an error is a mistake at a place of the text, or that memory was refused
abbrev pub IsPlaced : List ℕ → ReadError → Type 0
IsPlaced text (Wrong mistake) = IsPlaceOf text mistake.place
IsPlaced text Memory = Unit {0}
