-- Which tokens a whole test is written as, and that reading them gives it again.
use Rattle.std.specs.Prelude.{ℕ, ℤ, ◌≡◌, ◌+◌, List, [], ◌∷◌, ◌++◌, Option, Some, None, codes, slice_get}
use Rattle.loom_text.specs.declared.read.symbol.Symbol.TheVariants as signs
use Rattle.loom_text.specs.declared.read.token.TokenKind.TheVariants as kinds
use Rattle.loom_text.specs.declared.read.word.Word.TheVariants as words
use Rattle.loom_text.specs.declared.test.Kind.{Kind}
use Rattle.loom_text.specs.declared.test.Kind.TheVariants as location_kinds
use Rattle.loom_text.specs.declared.test.Test.{Test}
use Rattle.loom_text.specs.Blocks.{in_braces, printed_deeds, semicolon}
use Rattle.loom_text.specs.Heads.{Strand, Whole, names_of, test_at, thread_name, whole}
use Rattle.loom_text.specs.Known.{Known, Located, parameters_of}
use Rattle.loom_text.specs.Printing.{name, printed_value, sign}
use Rattle.loom_text.specs.Readable.{printed_question, word}
use Rattle.loom_text.specs.Tokens.{Left, Spelled}

abbrev pub kind_text : Kind → List ℕ
kind_text location_kinds.Atomic = codes "atomic_int"
kind_text location_kinds.Plain = codes "int"
kind_text location_kinds.Mutex = codes "mtx_t"
kind_text location_kinds.Condvar = codes "cnd_t"

abbrev pub kind_token : Kind → Spelled
kind_token kind = word (words.«Type» kind) (kind_text kind)

-- ---- the initial state

-- a lock and a condition variable have no value
abbrev pub printed_initial : Kind → ℤ → List Spelled
printed_initial location_kinds.Atomic value = sign signs.Assign ∷ (printed_value value ++ semicolon)
printed_initial location_kinds.Plain value = sign signs.Assign ∷ (printed_value value ++ semicolon)
printed_initial location_kinds.Mutex value = semicolon
printed_initial location_kinds.Condvar value = semicolon

abbrev pub printed_location : Located → List Spelled
printed_location location = kind_token location.kind ∷ name location.name ∷ printed_initial location.kind location.value

abbrev pub printed_locations : List Located → List Spelled
printed_locations [] = []
printed_locations (location ∷ locations) = printed_location location ++ printed_locations locations

-- ---- threads

abbrev pub parameter_tokens : Option Located → List Spelled
parameter_tokens None = kind_token location_kinds.Plain ∷ sign signs.Star ∷ name (codes "?") ∷ []
parameter_tokens (Some location) = kind_token location.kind ∷ sign signs.Star ∷ name location.name ∷ []

abbrev pub printed_parameter : List Located → ℕ → List Spelled
printed_parameter locations number = parameter_tokens (slice_get locations number)

-- with commas before them
abbrev pub further_parameters : List Located → List ℕ → List Spelled
further_parameters locations [] = []
further_parameters locations (number ∷ numbers) = sign signs.Comma ∷ (printed_parameter locations number ++ further_parameters locations numbers)

abbrev pub printed_parameters : List Located → List ℕ → List Spelled
printed_parameters locations [] = []
printed_parameters locations (number ∷ numbers) = printed_parameter locations number ++ further_parameters locations numbers

-- what it may name at its end
abbrev pub names_in : List Located → Strand → Known
names_in locations strand = record { locations = parameters_of locations strand.parameters; registers = strand.registers }

-- behind its name
abbrev pub printed_strand : List Located → Strand → List Spelled
printed_strand locations strand =
    sign signs.OpenParenthesis ∷ (printed_parameters locations strand.parameters
    ++ (sign signs.CloseParenthesis ∷ in_braces (printed_deeds (names_in locations strand) strand.body)))

-- from this number on
abbrev pub printed_threads : List Located → ℕ → List Strand → List Spelled
printed_threads locations number [] = []
printed_threads locations number (strand ∷ strands) = name (thread_name number) ∷ (printed_strand locations strand ++ printed_threads locations (number + 1) strands)

-- ---- the whole

abbrev pub printed_whole : Whole → List Spelled
printed_whole whole =
    word words.Language (codes "C") ∷ (kinds.TestName, whole.name) ∷ sign signs.OpenBrace ∷ (printed_locations whole.locations
    ++ (sign signs.CloseBrace ∷ (printed_threads whole.locations 0 whole.threads ++ printed_question whole.locations (names_of whole.threads) whole.asked)))

-- it is what reading some tokens gives
abbrev pub IsRead : Test → Type 0
IsRead test = (left : Left) × (test_at left ≡ Some (whole test))

-- What is written of a test that was read is read as the same test.
abbrev pub TestsReadBack : Type 0
TestsReadBack = (left : Left) (read : Whole) (count : ℕ) → test_at left ≡ Some read → test_at (printed_whole read, count) ≡ Some read
