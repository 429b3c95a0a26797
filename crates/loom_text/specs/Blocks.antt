-- Which tokens statements are written as, and that reading them gives them again.
use Rattle.std.specs.Prelude.{ℕ, ◌≡◌, List, [], ◌∷◌, ◌++◌, true, false, Option, Some, None, codes}
use Rattle.loom_text.specs.declared.read.parser.TheConstants.{MAX_DEPTH}
use Rattle.loom_text.specs.declared.read.symbol.Symbol.TheVariants as signs
use Rattle.loom_text.specs.declared.read.word.Function.{Function}
use Rattle.loom_text.specs.declared.read.word.Function.TheVariants as functions
use Rattle.loom_text.specs.declared.read.word.Word.TheVariants as words
use Rattle.loom_text.specs.declared.test.Kind.TheVariants as location_kinds
use Rattle.loom_text.specs.Deeds.{Deed, Declared, Assigned, Written, Stored, Evaluated, Fenced, Chosen, Repeated, RepeatedLate, Held, Locked, Unlocked, Waited, Signalled, Broadcasted, Yielded, Asserted, Deeds, Nothing, Then}
use Rattle.loom_text.specs.Expressions.{Phrase}
use Rattle.loom_text.specs.Known.{Known}
use Rattle.loom_text.specs.Phrases.{calling, closing, comma_order, location_token, printed_phrase, register_name_in}
use Rattle.loom_text.specs.Printing.{name, sign}
use Rattle.loom_text.specs.Readable.{word}
use Rattle.loom_text.specs.Spelling.{order_text}
use Rattle.loom_text.specs.Statements.{Standing, block_with, moved, statement_at}
use Rattle.loom_text.specs.Tokens.{Spelled}

abbrev pub semicolon : List Spelled
semicolon = sign signs.Semicolon ∷ []

-- what is assigned, up to the semicolon
abbrev pub given : Known → Phrase → List Spelled
given known value = sign signs.Assign ∷ (printed_phrase known 1 value ++ semicolon)

abbrev pub given_or_not : Known → Option Phrase → List Spelled
given_or_not known None = semicolon
given_or_not known (Some value) = given known value

-- an expression in parentheses
abbrev pub tested : Known → Phrase → List Spelled
tested known condition = sign signs.OpenParenthesis ∷ (printed_phrase known 1 condition ++ closing)

abbrev pub in_braces : List Spelled → List Spelled
in_braces tokens = sign signs.OpenBrace ∷ (tokens ++ sign signs.CloseBrace ∷ [])

-- a call of one location
abbrev pub calling_of : Known → Function → List ℕ → ℕ → List Spelled
calling_of known function spelling location = calling function false spelling (location_token known location ∷ (closing ++ semicolon))

unfoldable mutual
  -- names are those that are known at the end
  pub printed_deed : Known → Deed → List Spelled
  printed_deed known (Declared register value) = word (words.«Type» location_kinds.Plain) (codes "int") ∷ name (register_name_in known register) ∷ given_or_not known value
  printed_deed known (Assigned register value) = name (register_name_in known register) ∷ given known value
  printed_deed known (Written location value) = sign signs.Star ∷ location_token known location ∷ given known value
  printed_deed known (Stored location value order) =
      calling functions.Store true (codes "atomic_store_explicit")
      (location_token known location ∷ sign signs.Comma ∷ (printed_phrase known 1 value ++ comma_order order (closing ++ semicolon)))
  printed_deed known (Evaluated call) = printed_phrase known 1 call ++ semicolon
  printed_deed known (Fenced order) = calling functions.Fence false (codes "atomic_thread_fence") (word (words.Order order) (order_text order) ∷ (closing ++ semicolon))
  printed_deed known (Chosen condition first otherwise) =
      word words.If (codes "if") ∷ (tested known condition ++ (in_braces (printed_deeds known first) ++ printed_otherwise known otherwise))
  printed_deed known (Repeated condition body) = word words.While (codes "while") ∷ (tested known condition ++ in_braces (printed_deeds known body))
  printed_deed known (RepeatedLate body condition) =
      word words.Do (codes "do") ∷ (in_braces (printed_deeds known body) ++ (word words.While (codes "while") ∷ (tested known condition ++ semicolon)))
  printed_deed known (Held Nothing) = semicolon
  printed_deed known (Held (Then deeds deed)) = in_braces (printed_deeds known deeds ++ printed_deed known deed)
  printed_deed known (Locked mutex) = calling_of known functions.Lock (codes "mtx_lock") mutex
  printed_deed known (Unlocked mutex) = calling_of known functions.Unlock (codes "mtx_unlock") mutex
  printed_deed known (Waited condvar mutex) =
      calling functions.Wait false (codes "cnd_wait") (location_token known condvar ∷ sign signs.Comma ∷ location_token known mutex ∷ (closing ++ semicolon))
  printed_deed known (Signalled condvar) = calling_of known functions.Signal (codes "cnd_signal") condvar
  printed_deed known (Broadcasted condvar) = calling_of known functions.Broadcast (codes "cnd_broadcast") condvar
  printed_deed known Yielded = calling functions.Yield false (codes "thrd_yield") (closing ++ semicolon)
  printed_deed known (Asserted condition) = word (words.Function functions.Assert false) (codes "assert") ∷ (tested known condition ++ semicolon)

  pub printed_otherwise : Known → Deeds → List Spelled
  printed_otherwise known Nothing = []
  printed_otherwise known (Then deeds deed) = word words.Else (codes "else") ∷ in_braces (printed_deeds known deeds ++ printed_deed known deed)

  pub printed_deeds : Known → Deeds → List Spelled
  printed_deeds known Nothing = []
  printed_deeds known (Then deeds deed) = printed_deeds known deeds ++ printed_deed known deed

-- What is written of statements that were read is read as the same.
abbrev pub BlocksReadBack : Type 0
BlocksReadBack = (standing : Standing) (read : Deeds × Standing) (behind : List Spelled) (count : ℕ)
    → block_with (statement_at MAX_DEPTH) standing ≡ Some read
    → (after : ℕ) × (block_with (statement_at MAX_DEPTH) (moved (in_braces (printed_deeds read.1.known read.0) ++ behind, count) standing) ≡ Some (read.0, moved (behind, after) read.1))
