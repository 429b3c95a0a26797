-- How a test's locations and threads are read, and a whole test.
use Rattle.std.specs.Prelude.{ℕ, ℤ, pos, zero, suc, ◌+◌, ◌&&◌, ◌||◌, ◌==◌, nat_eq, nat_lt, not, List, [], ◌∷◌, ◌++◌, length, map, Bool, true, false, Option, Some, None, is_none, is_some, set, slice_get, string_bytes, if◌then◌else◌}
use Rattle.std.specs.Char.{is_ascii_digit}
use Rattle.std.specs.List.{list_any, position}
use Rattle.std.specs.Option.{unwrap_or}
use Rattle.std.specs.Ordering.{int_eq}
use Rattle.std.specs.Str.{bytes_eq, is_utf8}
use Rattle.loom_text.specs.contracts.read.token.TokenKindPartialEq.TheImpl as same
use Rattle.loom_text.specs.contracts.test.KindPartialEq.TheImpl as same_kinds
use Rattle.loom_text.specs.declared.read.parser.TheConstants.{MAX_DEPTH}
use Rattle.loom_text.specs.declared.read.places.Places.{Places}
use Rattle.loom_text.specs.declared.read.places.TheConstants.{MAX_LOCATIONS}
use Rattle.loom_text.specs.declared.read.symbol.Symbol.TheVariants as signs
use Rattle.loom_text.specs.declared.read.token.TokenKind.{TokenKind}
use Rattle.loom_text.specs.declared.read.token.TokenKind.TheVariants as kinds
use Rattle.loom_text.specs.declared.read.word.Word.TheVariants as words
use Rattle.loom_text.specs.declared.test.Kind.{Kind}
use Rattle.loom_text.specs.declared.test.Kind.TheVariants as location_kinds
use Rattle.loom_text.specs.declared.test.TheConstants.{MAX_TEST_THREADS}
use Rattle.loom_text.specs.declared.test.Test.{Test}
use Rattle.loom_text.specs.declared.test.Thread.{Thread}
use Rattle.loom_text.specs.Deeds.{Deeds, deeds}
use Rattle.loom_text.specs.Known.{Located, Names, located, location_in, parameters_of, registers_of}
use Rattle.loom_text.specs.Question.{Asked, is_word, question_at}
use Rattle.loom_text.specs.Readable.{asked_of}
use Rattle.loom_text.specs.Statements.{Standing, block_with, kind_at, statement_at}
use Rattle.loom_text.specs.Tokens.{Left, Spelled, ◌>>=◌, after_sign, constant_at, is_next, name_at, next, passed}

-- ---- locations

-- the locations so far, and for each whether the text has said of what kind it is
pub record Placed : Type 0 where
  pub locations : List Located
  pub typed : List Bool

abbrev pub placed : Places → Placed
placed places = record {
  locations = map located places.locations.items;
  typed = places.typed.items;
}

abbrev pub nowhere : Placed
nowhere = record { locations = []; typed = [] }

-- a location of a new name: an `int`, where the text doesn't say of what kind it is
unfoldable pub location_declared : List ℕ → Option Kind → ℤ → Placed → Option (ℕ × Placed)
location_declared name kind value placed =
    if nat_lt (length placed.locations) MAX_LOCATIONS && is_utf8 name
    then Some (
      length placed.locations,
      record {
        locations = placed.locations ++ record { name = name; kind = unwrap_or kind location_kinds.Plain; value = value } ∷ [];
        typed = placed.typed ++ is_some kind ∷ [];
      },
    )
    else None

abbrev pub with_kind : ℕ → Kind → List Located → List Located
with_kind number kind [] = []
with_kind zero kind (location ∷ locations) = record location { kind = kind } ∷ locations
with_kind (suc number) kind (location ∷ locations) = location ∷ with_kind number kind locations

-- the location has this kind from here on
abbrev pub kind_said : ℕ → Kind → Placed → Placed
kind_said number kind placed = record {
  locations = with_kind number kind placed.locations;
  typed = set placed.typed number true;
}

-- what has no value
abbrev pub is_lock : Kind → Bool
is_lock location_kinds.Atomic = false
is_lock location_kinds.Plain = false
is_lock location_kinds.Mutex = true
is_lock location_kinds.Condvar = true

-- A location that the text names again. A kind that was said is its kind, and what has a value is no lock.
abbrev pub agreed_as : ℕ → Kind → Placed → Option Located → Option Placed
agreed_as number kind placed None = None
agreed_as number kind placed (Some location) =
    if unwrap_or (slice_get placed.typed number) false && not ((same_kinds.ghosts).eq location.kind kind) then None
    else (if not (int_eq location.value (pos 0)) && is_lock kind then None else Some (kind_said number kind placed))

unfoldable pub agreed : ℕ → Kind → Placed → Option Placed
agreed number kind placed = agreed_as number kind placed (slice_get placed.locations number)

-- the location that has this name, or a new one
abbrev pub placed_as : List ℕ → Kind → Option ℕ → Placed → Option (ℕ × Placed)
placed_as name kind (Some number) placed = agreed number kind placed >>= λ placed. Some (number, placed)
placed_as name kind None placed = location_declared name (Some kind) (pos 0) placed

-- ---- the initial state

-- a name that may be in brackets
unfoldable pub initial_name_at : Left → Option (List ℕ × Left)
initial_name_at left =
    if is_next signs.Star left then None
    else (let brackets = is_next signs.OpenBracket left in
    name_at (if brackets then passed left else left) >>= λ name.
    if brackets then (after_sign signs.CloseBracket name.1 >>= λ left. Some (name.0, left))
    else (if is_next signs.OpenBracket name.1 then None else Some name))

-- a register's name begins so, and has no place here
abbrev pub is_number : TokenKind → Bool
is_number (kinds.Number number) = true
is_number _ = false

abbrev pub holds_lock : Option Kind → Bool
holds_lock None = false
holds_lock (Some kind) = is_lock kind

-- `= 1`, or nothing behind a name with a type
unfoldable pub initial_number_at : Option Kind → Bool → Left → Option (ℤ × Left)
initial_number_at kind pointer left =
    if is_next signs.Assign left
    then (if pointer || holds_lock kind then None else constant_at (passed left))
    else (if is_some kind then Some (pos 0, left) else None)

-- `x = 1`, `[x] = 1`, `int x`, `int x = 1` or `int *x`
unfoldable pub initial_value_at : Placed → Left → Option (Placed × Left)
initial_value_at placed left =
    kind_at left >>= λ kind.
    let pointer = is_some kind.0 && is_next signs.Star kind.1 in
    initial_name_at (if pointer then passed kind.1 else kind.1) >>= λ name.
    if is_some (location_in placed.locations name.0) then None
    else (initial_number_at kind.0 pointer name.1 >>= λ value.
    location_declared name.0 kind.0 value.0 placed >>= λ more.
    Some (more.1, value.1))

-- a semicolon alone, or a value with a semicolon behind it unless it is the last
unfoldable pub initial_part_at : Placed → Left → Option (Placed × Left)
initial_part_at placed left =
    if is_next signs.Semicolon left then Some (placed, passed left)
    else (initial_value_at placed left >>= λ read.
    if is_next signs.CloseBrace read.1 then Some read
    else (after_sign signs.Semicolon read.1 >>= λ left. Some (read.0, left)))

-- so many at most, up to a brace
unfoldable pub initial_parts_at : ℕ → Placed → Left → Option (Placed × Left)
initial_parts_at zero placed left = None
initial_parts_at (suc n) placed left =
    if is_next signs.CloseBrace left then Some (placed, passed left)
    else (initial_part_at placed left >>= λ read. initial_parts_at n read.0 read.1)

unfoldable pub initial_at : Placed → Left → Option (Placed × Left)
initial_at placed left = after_sign signs.OpenBrace left >>= λ left. initial_parts_at (length left.0) placed left

-- ---- parameters

-- the locations that the thread is passed so far, by their numbers, and all locations
abbrev pub Passing : Type 0
Passing = List ℕ × Placed

abbrev pub passed_kind : Option Kind → Left → Option (Kind × Left)
passed_kind None left = None
passed_kind (Some kind) left = Some (kind, left)

-- `atomic_int* x` and the like
unfoldable pub parameter_at : Passing → Left → Option (Passing × Left)
parameter_at passing left =
    kind_at left >>= λ found.
    passed_kind found.0 found.1 >>= λ kind.
    after_sign signs.Star kind.1 >>= λ left.
    if is_next signs.Star left then None
    else (name_at left >>= λ name.
    if is_next signs.OpenBracket name.1 then None
    else (placed_as name.0 kind.0 (location_in passing.1.locations name.0) passing.1 >>= λ location.
    if list_any (λ number. nat_eq number location.0) passing.0 then None
    else Some ((passing.0 ++ location.0 ∷ [], location.1), name.1)))

-- so many at most, with commas between them, and the parenthesis behind them
unfoldable pub parameters_at : ℕ → Passing → Left → Option (Passing × Left)
parameters_at zero passing left = None
parameters_at (suc n) passing left =
    parameter_at passing left >>= λ read.
    if is_next signs.Comma read.1 then parameters_at n read.0 (passed read.1)
    else (after_sign signs.CloseParenthesis read.1 >>= λ left. Some (read.0, left))

-- `void` may stand for none
abbrev pub without_void : Left → Left
without_void left = if is_word words.Void left && is_next signs.CloseParenthesis (passed left) then passed left else left

unfoldable pub all_parameters_at : Placed → Left → Option (Passing × Left)
all_parameters_at placed left =
    let from = without_void left in
    if is_next signs.CloseParenthesis from then Some (([], placed), passed from)
    else parameters_at (length from.0) ([], placed) from

-- ---- threads

-- a thread without lines, wherever its parts lie
pub record Strand : Type 0 where
  pub parameters : List ℕ
  pub registers : Names
  pub body : Deeds

abbrev pub strand : Thread → Strand
strand thread = record {
  parameters = thread.parameters.items;
  registers = registers_of thread;
  body = deeds thread.body.items;
}

-- where its statements begin
abbrev pub beginning : Passing → Left → Standing
beginning passing left = record {
  left = left;
  known = record { locations = parameters_of passing.1.locations passing.0; registers = [] };
  open_registers = [];
}

-- what follows the thread's name
unfoldable pub thread_at : Placed → Left → Option (Strand × Placed × Left)
thread_at placed left =
    after_sign signs.OpenParenthesis left >>= λ left.
    all_parameters_at placed left >>= λ passing.
    block_with (statement_at MAX_DEPTH) (beginning passing.0 passing.1) >>= λ body.
    Some (record { parameters = passing.0.0; registers = body.1.known.registers; body = body.0 }, passing.0.1, body.1.left)

-- the first byte that is no digit
abbrev pub first_other : List ℕ → Option ℕ
first_other = position (λ byte. not (is_ascii_digit byte))

-- digits, and nothing else
abbrev pub are_digits : List ℕ → Bool
are_digits bytes = not (length bytes == 0) && is_none (first_other bytes)

-- `P` and digits
abbrev pub names_thread : List ℕ → Bool
names_thread [] = false
names_thread (first ∷ digits) = nat_eq first 80 && are_digits digits

abbrev pub is_thread_name : Spelled → Bool
is_thread_name token = (same.ghosts).eq token.0 kinds.Name && names_thread token.1

-- the name of the thread of this number, of one digit
abbrev pub thread_name : ℕ → List ℕ
thread_name number = 80 ∷ (48 + number) ∷ []

abbrev pub is_thread : ℕ → Spelled → Bool
is_thread number token = (same.ghosts).eq token.0 kinds.Name && bytes_eq token.1 (thread_name number)

-- the first one has to be there
abbrev pub threads_end : ℕ → Left → Bool
threads_end number left = nat_lt 0 number && not (is_thread_name (next left))

abbrev pub numbered_thread_at : ℕ → Placed → Left → Option (Strand × Placed × Left)
numbered_thread_at number placed left = if is_thread number (next left) then thread_at placed (passed left) else None

-- so many more at most, the next one of this number
unfoldable pub threads_at : ℕ → ℕ → List Strand → Placed → Left → Option (List Strand × Placed × Left)
threads_at zero number strands placed left = if is_thread_name (next left) then None else Some (strands, placed, left)
threads_at (suc n) number strands placed left =
    if threads_end number left then Some (strands, placed, left)
    else (numbered_thread_at number placed left >>= λ read. threads_at n (number + 1) (strands ++ read.0 ∷ []) read.1 read.2)

-- ---- the whole test

-- `C` and the test's name
unfoldable pub head_at : Left → Option (List ℕ × Left)
head_at left =
    if is_word words.Language left && ((same.ghosts).eq (next (passed left)).0 kinds.TestName && is_utf8 (next (passed left)).1)
    then Some ((next (passed left)).1, passed (passed left))
    else None

-- a test without lines, wherever its parts lie
pub record Whole : Type 0 where
  pub name : List ℕ
  pub locations : List Located
  pub threads : List Strand
  pub asked : Asked

abbrev pub whole : Test → Whole
whole test = record {
  name = string_bytes test.name;
  locations = map located test.locations.items;
  threads = map strand test.threads.items;
  asked = asked_of test;
}

abbrev pub names_of : List Strand → List Names
names_of = map (λ strand. strand.registers)

unfoldable pub test_at : Left → Option Whole
test_at left =
    head_at left >>= λ name.
    initial_at nowhere name.1 >>= λ initial.
    threads_at MAX_TEST_THREADS 0 [] initial.0 initial.1 >>= λ threads.
    question_at threads.1.locations (names_of threads.0) threads.2 >>= λ asked.
    Some (record { name = name.0; locations = threads.1.locations; threads = threads.0; asked = asked })
