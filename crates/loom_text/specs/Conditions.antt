-- How conditions are read.
use Rattle.std.specs.Prelude.{ℕ, ℤ, zero, suc, ◌+◌, List, Option, Some, None, map, slice_get, if◌then◌else◌}
use Rattle.loom_text.specs.declared.read.conditions.Names.{Names as Naming}
use Rattle.loom_text.specs.declared.read.parser.TheConstants.{MAX_DEPTH, MAX_OPERATORS}
use Rattle.loom_text.specs.declared.read.symbol.Symbol.{Symbol}
use Rattle.loom_text.specs.declared.read.symbol.Symbol.TheVariants as signs
use Rattle.loom_text.specs.declared.read.token.TokenKind.{TokenKind}
use Rattle.loom_text.specs.declared.read.token.TokenKind.TheVariants as kinds
use Rattle.loom_text.specs.declared.test.Condition.{Condition}
use Rattle.loom_text.specs.declared.test.Condition.TheVariants.{Equal, Not', And', Or'}
use Rattle.loom_text.specs.declared.test.Kind.{Kind}
use Rattle.loom_text.specs.declared.test.Kind.TheVariants.{Atomic, Plain, Mutex, Condvar}
use Rattle.loom_text.specs.declared.test.Term.{Term}
use Rattle.loom_text.specs.declared.test.Term.TheVariants as terms
use Rattle.loom_text.specs.Known.{Located, Names, located, location_in, named_in, registers_of}
use Rattle.loom_text.specs.Tokens.{Left, ◌>>=◌, after_sign, constant_at, counted, is_next, name_at, next, passed}

-- what may be named, wherever the names lie
abbrev pub places_of : Naming → List Located
places_of names = map located names.locations.now

abbrev pub threads_of : Naming → List Names
threads_of names = map registers_of names.threads.now

-- a condition, wherever its parts lie
pub data Formula : Type 0 where
  Equals : Term → ℤ → Formula
  Denied : Formula → Formula
  Both : Formula → Formula → Formula
  Either : Formula → Formula → Formula

abbrev pub formula : Condition → Formula
formula (Equal term value) = Equals term value
formula (Not' p inner) = Denied (formula inner)
formula (And' p left q right) = Both (formula left) (formula right)
formula (Or' p left q right) = Either (formula left) (formula right)

-- only an `int` and an `atomic_int` have values
abbrev pub has_value : Kind → ℕ → Option Term
has_value Atomic number = Some (terms.Location number)
has_value Plain number = Some (terms.Location number)
has_value Mutex number = None
has_value Condvar number = None

abbrev pub location_term : List Located → List ℕ → Option Term
location_term locations name =
    location_in locations name >>= λ number.
    slice_get locations number >>= λ location.
    has_value location.kind number

abbrev pub register_term : List Names → ℕ → List ℕ → Option Term
register_term threads thread name =
    slice_get threads thread >>= λ registers.
    named_in registers name >>= λ register.
    Some (terms.Register thread register)

-- `0:r0`, `x` or `[x]`
abbrev pub term_from : List Located → List Names → TokenKind → List ℕ → Left → Option (Term × Left)
term_from locations threads (kinds.Number thread) spelling left =
    after_sign signs.Colon left >>= λ left.
    name_at left >>= λ name.
    register_term threads thread name.0 >>= λ term.
    Some (term, name.1)
term_from locations threads kinds.Name spelling left =
    if is_next signs.OpenBracket left then None
    else (location_term locations spelling >>= λ term. Some (term, left))
term_from locations threads (kinds.Symbol signs.OpenBracket) spelling left =
    name_at left >>= λ name.
    after_sign signs.CloseBracket name.1 >>= λ left.
    location_term locations name.0 >>= λ term.
    Some (term, left)
term_from locations threads _ spelling left = None

unfoldable pub term_at : List Located → List Names → Left → Option (Term × Left)
term_at locations threads left = term_from locations threads (next left).0 (next left).1 (passed left)

-- `0:r0=1` and the like
unfoldable pub comparison_at : List Located → List Names → Left → Option (Formula × Left)
comparison_at locations threads left =
    counted left >>= λ left.
    term_at locations threads left >>= λ term.
    after_sign signs.Assign term.1 >>= λ left.
    constant_at left >>= λ value.
    Some (Equals term.0 value.0, value.1)

-- further parts, each behind the sign, joined from the left
unfoldable pub joined_at : Symbol → (Formula → Formula → Formula) → (Left → Option (Formula × Left)) → ℕ → Formula → Left → Option (Formula × Left)
joined_at sign join part zero read left = None
joined_at sign join part (suc n) read left =
    if is_next sign left
    then (part (passed left) >>= λ more. joined_at sign join part n (join read more.0) more.1)
    else Some (read, left)

-- `/\` binds more strongly than `\/`
unfoldable pub conjunction_of : (Left → Option (Formula × Left)) → Left → Option (Formula × Left)
conjunction_of part left = part left >>= λ read. joined_at signs.Conjunction Both part (MAX_OPERATORS + 1) read.0 read.1

unfoldable pub disjunction_of : (Left → Option (Formula × Left)) → Left → Option (Formula × Left)
disjunction_of part left =
    conjunction_of part left >>= λ read. joined_at signs.Disjunction Either (conjunction_of part) (MAX_OPERATORS + 1) read.0 read.1

-- `~` and a part, a condition in parentheses, or a comparison, with so many of the first two in one another
unfoldable pub part_at : List Located → List Names → ℕ → Left → Option (Formula × Left)
part_at locations threads zero left =
    if is_next signs.Tilde left then None
    else (if is_next signs.OpenParenthesis left then None else comparison_at locations threads left)
part_at locations threads (suc depth) left =
    if is_next signs.Tilde left
    then (part_at locations threads depth (passed left) >>= λ read. Some (Denied read.0, read.1))
    else (if is_next signs.OpenParenthesis left
    then (disjunction_of (part_at locations threads depth) (passed left) >>= λ read.
    after_sign signs.CloseParenthesis read.1 >>= λ left.
    Some (read.0, left))
    else comparison_at locations threads left)

-- a whole condition
unfoldable pub condition_at : List Located → List Names → Left → Option (Formula × Left)
condition_at locations threads left = disjunction_of (part_at locations threads MAX_DEPTH) (left.0, 0)
