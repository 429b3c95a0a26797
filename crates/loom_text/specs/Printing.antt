-- Which tokens a condition is written as, and that reading them gives it again.
use Rattle.std.specs.Prelude.{ℕ, ℤ, pos, negsuc, suc, ◌≡◌, ◌+◌, ◌<◌, ◌≤◌, ◌^◌, ◌==◌, nat_lt, max, List, [], ◌∷◌, ◌++◌, length, map, Bool, true, false, Option, Some, None, slice_get, codes, if◌then◌else◌}
use Rattle.std.specs.Fmt.{decimal}
use Rattle.std.specs.List.{flat_map}
use Rattle.std.specs.Option.{option_and_then, option_map, unwrap_or}
use Rattle.loom_text.specs.declared.read.parser.TheConstants.{MAX_DEPTH, MAX_OPERATORS}
use Rattle.loom_text.specs.declared.read.symbol.Symbol.{Symbol}
use Rattle.loom_text.specs.declared.read.symbol.Symbol.TheVariants as signs
use Rattle.loom_text.specs.declared.read.token.TokenKind.{TokenKind}
use Rattle.loom_text.specs.declared.read.token.TokenKind.TheVariants as kinds
use Rattle.loom_text.specs.declared.test.Quantifier.{Quantifier}
use Rattle.loom_text.specs.declared.test.Quantifier.TheVariants as quantifiers
use Rattle.loom_text.specs.declared.test.Term.{Term}
use Rattle.loom_text.specs.declared.test.Term.TheVariants as terms
use Rattle.loom_text.specs.declared.test.Test.{Test}
use Rattle.loom_text.specs.Known.{Located, Names, located, registers_of}
use Rattle.loom_text.specs.Conditions.{Formula, Equals, Denied, Both, Either, condition_at, formula, location_term, register_term}
use Rattle.loom_text.specs.Spelling.{symbol_text}
use Rattle.loom_text.specs.Tokens.{Spelled, is_next}

abbrev pub sign : Symbol → Spelled
sign symbol = (kinds.Symbol symbol, symbol_text symbol)

abbrev pub number : ℕ → Spelled
number n = (kinds.Number n, decimal n)

abbrev pub name : List ℕ → Spelled
name spelling = (kinds.Name, spelling)

-- the name of a location, and of a register of a thread, or `?` where the number is none's
abbrev pub location_name : List Located → ℕ → List ℕ
location_name locations place = unwrap_or (option_map (λ location. location.name) (slice_get locations place)) (codes "?")

abbrev pub register_name : List Names → ℕ → ℕ → List ℕ
register_name threads thread register =
    unwrap_or (option_and_then (λ registers. slice_get registers register) (slice_get threads thread)) (codes "?")

abbrev pub printed_term : List Located → List Names → Term → List Spelled
printed_term locations threads (terms.Register thread register) = number thread ∷ sign signs.Colon ∷ name (register_name threads thread register) ∷ []
printed_term locations threads (terms.Location place) = sign signs.OpenBracket ∷ name (location_name locations place) ∷ sign signs.CloseBracket ∷ []

abbrev pub printed_value : ℤ → List Spelled
printed_value (pos n) = number n ∷ []
printed_value (negsuc n) = sign signs.Minus ∷ number (suc n) ∷ []

abbrev pub in_parentheses : Bool → List Spelled → List Spelled
in_parentheses true tokens = sign signs.OpenParenthesis ∷ (tokens ++ sign signs.CloseParenthesis ∷ [])
in_parentheses false tokens = tokens

-- The condition, in parentheses where it binds less strongly than so: 1 is `\/`, 2 is `/\` and 3 is `~`.
unfoldable pub printed : List Located → List Names → ℕ → Formula → List Spelled
printed locations threads lowest (Equals term value) = printed_term locations threads term ++ (sign signs.Assign ∷ printed_value value)
printed locations threads lowest (Denied inner) = sign signs.Tilde ∷ printed locations threads 3 inner
printed locations threads lowest (Both left right) =
    in_parentheses (nat_lt 2 lowest) (printed locations threads 2 left ++ (sign signs.Conjunction ∷ printed locations threads 3 right))
printed locations threads lowest (Either left right) =
    in_parentheses (nat_lt 1 lowest) (printed locations threads 1 left ++ (sign signs.Disjunction ∷ printed locations threads 2 right))

-- `/\` and `\/` are written between blanks
abbrev pub has_blanks : TokenKind → Bool
has_blanks (kinds.Symbol signs.Conjunction) = true
has_blanks (kinds.Symbol signs.Disjunction) = true
has_blanks _ = false

abbrev pub token_text : Spelled → List ℕ
token_text token = if has_blanks token.0 then codes " " ++ token.1 ++ codes " " else token.1

abbrev pub text_of : List Spelled → List ℕ
text_of = flat_map token_text

abbrev pub quantifier_text : Quantifier → List ℕ
quantifier_text quantifiers.Exists = codes "exists"
quantifier_text quantifiers.NotExists = codes "~exists"
quantifier_text quantifiers.Forall = codes "forall"

abbrev pub terms_text : List Located → List Names → List Term → List ℕ
terms_text locations threads terms = codes "locations [" ++ flat_map (λ term. text_of (printed_term locations threads term) ++ codes ";") terms ++ codes "]\n"

abbrev pub listed_text : List Located → List Names → List Term → List ℕ
listed_text locations threads terms = if length terms == 0 then codes "" else terms_text locations threads terms

abbrev pub filter_text : List Located → List Names → Option Formula → List ℕ
filter_text locations threads None = codes ""
filter_text locations threads (Some filter) = codes "filter " ++ text_of (printed locations threads 1 filter) ++ codes "\n"

-- what a test names, wherever the names lie
abbrev pub places_in : Test → List Located
places_in test = map located test.locations.items

abbrev pub threads_in : Test → List Names
threads_in test = map registers_of test.threads.items

-- what is asked of the final states, as it is written at the end
abbrev pub question_text : Test → List ℕ
question_text test =
    listed_text (places_in test) (threads_in test) test.listed.items
    ++ filter_text (places_in test) (threads_in test) (option_map formula test.filter)
    ++ quantifier_text test.quantifier ++ codes " " ++ text_of (printed (places_in test) (threads_in test) 1 (formula test.condition)) ++ codes "\n"

-- its name leads to it
abbrev pub IsFound : List Located → List Names → Term → Type 0
IsFound locations threads (terms.Register thread register) = register_term threads thread (register_name threads thread register) ≡ Some (terms.Register thread register)
IsFound locations threads (terms.Location place) = location_term locations (location_name locations place) ≡ Some (terms.Location place)

abbrev pub IsInt : ℤ → Type 0
IsInt (pos n) = n < 2 ^ 31
IsInt (negsuc n) = n < 2 ^ 31

-- each of its terms is found by its name, and each of its values is an int
abbrev pub IsWritable : List Located → List Names → Formula → Type 0
IsWritable locations threads (Equals term value) = IsFound locations threads term × IsInt value
IsWritable locations threads (Denied inner) = IsWritable locations threads inner
IsWritable locations threads (Both left right) = IsWritable locations threads left × IsWritable locations threads right
IsWritable locations threads (Either left right) = IsWritable locations threads left × IsWritable locations threads right

abbrev pub comparisons : Formula → ℕ
comparisons (Equals term value) = 1
comparisons (Denied inner) = comparisons inner
comparisons (Both left right) = comparisons left + comparisons right
comparisons (Either left right) = comparisons left + comparisons right

-- how many `~` and parentheses are in one another, where it is written so
abbrev pub depth : ℕ → Formula → ℕ
depth lowest (Equals term value) = 0
depth lowest (Denied inner) = 1 + depth 3 inner
depth lowest (Both left right) = (if nat_lt 2 lowest then 1 else 0) + max (depth 2 left) (depth 3 right)
depth lowest (Either left right) = (if nat_lt 1 lowest then 1 else 0) + max (depth 1 left) (depth 2 right)

abbrev pub HasInts : Formula → Type 0
HasInts (Equals term value) = IsInt value
HasInts (Denied inner) = HasInts inner
HasInts (Both left right) = HasInts left × HasInts right
HasInts (Either left right) = HasInts left × HasInts right

-- it isn't deeper or longer than what is read, and its values are ints
abbrev pub FitsReader : Formula → Type 0
FitsReader formula = (depth 1 formula ≤ MAX_DEPTH) × (comparisons formula ≤ MAX_OPERATORS) × HasInts formula

-- what is written of it is read
abbrev pub CanBeRead : List Located → List Names → Formula → Type 0
CanBeRead locations threads formula = IsWritable locations threads formula × (comparisons formula ≤ MAX_OPERATORS) × (depth 1 formula ≤ MAX_DEPTH)

-- What is written of a condition is read as that condition, whatever follows it that doesn't go on with it.
abbrev pub ConditionsReadBack : Type 0
ConditionsReadBack = (locations : List Located) (threads : List Names) (formula : Formula) (behind : List Spelled) (count : ℕ)
    → CanBeRead locations threads formula
    → is_next signs.Conjunction (behind, 0) ≡ false → is_next signs.Disjunction (behind, 0) ≡ false
    → condition_at locations threads (printed locations threads 1 formula ++ behind, count) ≡ Some (formula, (behind, comparisons formula))
