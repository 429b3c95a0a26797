-- What is written of an expression is read as that expression.
use Rattle.std.proofs.Common.{◌≡◌, ℕ, ℤ, pos, negsuc, zero, suc, ◌-◌, ◌+◌, ◌≤◌, ◌<◌, ◌^◌, nat_lt, nat_eq, max, List, [], ◌∷◌, ◌++◌, Bool, true, false, Option, Some, None, refl, sym, ap, cond, subst, ◌∙◌, inl, inr, append_assoc, add_assoc, zero-add, arith}
use Rattle.std.proofs.lemmas.Bool.{cases_Bool, lt-ltb, le-ltb, ltb-true, ltb-false, false_from_ne_true, eqb-true}
use Rattle.std.specs.declared.sync.atomic.Ordering.{Ordering}
use Rattle.loom_text.specs.contracts.read.token.TokenKindPartialEq.TheImpl as same
use Rattle.loom_text.specs.declared.read.lexer.TheConstants.{LARGEST_NUMBER}
use Rattle.loom_text.specs.declared.read.symbol.Symbol.TheVariants as signs
use Rattle.loom_text.specs.declared.read.token.TokenKind.TheVariants as kinds
use Rattle.loom_text.specs.declared.read.word.Function.{Function}
use Rattle.loom_text.specs.declared.read.word.Function.TheVariants as functions
use Rattle.loom_text.specs.declared.read.word.Word.TheVariants as words
use Rattle.loom_text.specs.declared.test.BinaryOperator.{BinaryOperator}
use Rattle.loom_text.specs.declared.test.BinaryOperator.TheVariants as binary
use Rattle.loom_text.specs.declared.test.Kind.TheVariants as location_kinds
use Rattle.loom_text.specs.declared.test.UnaryOperator.{UnaryOperator}
use Rattle.loom_text.specs.declared.test.UnaryOperator.TheVariants as unary
use Rattle.loom_text.specs.declared.test.Strength.{Strength}
use Rattle.loom_text.specs.declared.test.FetchOperator.{FetchOperator}
use Rattle.loom_text.specs.Expressions.{Phrase, Constant, OfRegister, Pointed, Signed, Between, Loaded, Exchanged, Fetched, Compared, ComparedRegister, ComparedPlain, Tried, Readers, argument_at, begin_arguments_at, binds, by_operator, call_at, compare_exchange_at, compared_at, enclosed_with, end_arguments_at, exchange_at, expression_at, fetch_at, first_location_at, for_a_load, inside, is_type, load_order_at, location_at, many_with, next_argument_at, one_with, operator_at, parameter_named, operators_at, order_at, plain_at, pointed_at, primary_with, readers, signed_as}
use Rattle.loom_text.specs.Known.{Known, name_of}
use Rattle.loom_text.specs.Phrases.{ExpressionsReadBack, IsAtomic, IsConstant, IsFoundRegister, IsWritablePhrase, binary_sign, closing, comma_order, location_token, operators, phrase_depth, printed_phrase, register_name_in, unary_sign}
use Rattle.loom_text.specs.Printing.{in_parentheses, name, printed_value, sign}
use Rattle.loom_text.specs.Readable.{word}
use Rattle.loom_text.specs.Spelling.{operator_of}
use Rattle.loom_text.specs.Tokens.{Left, Spelled, ◌>>=◌, constant_at, counted, first, is_next, next, passed}
use Rattle.loom_text.proofs.ConditionsAgain.{constant_again}
use Rattle.loom_text.proofs.ExpressionSteps.{many_is, one_is}

-- ---- readers at a depth

many_from : (scope : Known) (d lowest : ℕ) (left : Left) → (readers scope d).many lowest left ≡ ((readers scope d).one left >>= λ first. operators_at (inside scope d) lowest 257 first.0 first.1)
unfolding readers inside many_with
many_from scope zero lowest left = refl
many_from scope (suc d) lowest left = refl

-- what was read alone, and then with operators behind it
from_one : (scope : Known) (d lowest : ℕ) (left behind : Left) (f : Phrase) → (readers scope d).one left ≡ Some (f, behind)
    → (readers scope d).many lowest left ≡ operators_at (inside scope d) lowest 257 f behind
from_one scope d lowest left behind f h =
    many_from scope d lowest left ∙ ap (λ (o : Option (Phrase × Left)). o >>= λ first. operators_at (inside scope d) lowest 257 first.0 first.1) h

-- ---- operators

no_operator : (inside : Option Readers) (lowest n m : ℕ) (f : Phrase) (left : Left) → n ≡ suc m → operator_at lowest left ≡ None → operators_at inside lowest n f left ≡ Some (f, left)
unfolding operators_at
no_operator inside lowest n m f left k h =
    ap (λ (n : ℕ). operators_at inside lowest n f left) k ∙ ap (λ (o : Option BinaryOperator). by_operator inside (operators_at inside lowest m) f o left) h

another_operator : (r : Readers) (lowest n m : ℕ) (operator : BinaryOperator) (f g : Phrase) (left more behind : Left) → n ≡ suc m → operator_at lowest left ≡ Some operator
    → counted left ≡ Some more → r.many (binds operator + 1) (passed more) ≡ Some (g, behind)
    → operators_at (Some r) lowest n f left ≡ operators_at (Some r) lowest m (Between operator f g) behind
unfolding operators_at
another_operator r lowest n m operator f g left more behind k h few read =
    ap (λ (n : ℕ). operators_at (Some r) lowest n f left) k
    ∙ ap (λ (o : Option BinaryOperator). by_operator (Some r) (operators_at (Some r) lowest m) f o left) h
    ∙ ap (λ (o : Option Left). o >>= λ left. r.many (binds operator + 1) (passed left) >>= λ right. operators_at (Some r) lowest m (Between operator f right.0) right.1) few
    ∙ ap (λ (o : Option (Phrase × Left)). o >>= λ right. operators_at (Some r) lowest m (Between operator f right.0) right.1) read

-- the sign of an operator is that operator's
abbrev if_as_strong : ℕ → BinaryOperator → Option BinaryOperator
if_as_strong lowest operator = cond (nat_lt (binds operator) lowest) None (Some operator)

own_sign : (operator : BinaryOperator) → operator_of (binary_sign operator) ≡ Some operator
own_sign binary.Or = refl
own_sign binary.And = refl
own_sign binary.BitOr = refl
own_sign binary.BitXor = refl
own_sign binary.BitAnd = refl
own_sign binary.Eq = refl
own_sign binary.Ne = refl
own_sign binary.Lt = refl
own_sign binary.Le = refl
own_sign binary.Gt = refl
own_sign binary.Ge = refl
own_sign binary.Shl = refl
own_sign binary.Shr = refl
own_sign binary.Add = refl
own_sign binary.Sub = refl
own_sign binary.Mul = refl
own_sign binary.Div = refl
own_sign binary.Rem = refl

pub bounds : (operator : BinaryOperator) → (1 ≤ binds operator) × (binds operator ≤ 10)
bounds binary.Or = (omega arith, omega arith)
bounds binary.And = (omega arith, omega arith)
bounds binary.BitOr = (omega arith, omega arith)
bounds binary.BitXor = (omega arith, omega arith)
bounds binary.BitAnd = (omega arith, omega arith)
bounds binary.Eq = (omega arith, omega arith)
bounds binary.Ne = (omega arith, omega arith)
bounds binary.Lt = (omega arith, omega arith)
bounds binary.Le = (omega arith, omega arith)
bounds binary.Gt = (omega arith, omega arith)
bounds binary.Ge = (omega arith, omega arith)
bounds binary.Shl = (omega arith, omega arith)
bounds binary.Shr = (omega arith, omega arith)
bounds binary.Add = (omega arith, omega arith)
bounds binary.Sub = (omega arith, omega arith)
bounds binary.Mul = (omega arith, omega arith)
bounds binary.Div = (omega arith, omega arith)
bounds binary.Rem = (omega arith, omega arith)

is_operator : (lowest : ℕ) (operator : BinaryOperator) (tokens : List Spelled) (c : ℕ) → lowest ≤ binds operator → operator_at lowest (sign (binary_sign operator) ∷ tokens, c) ≡ Some operator
unfolding operator_at
is_operator lowest operator tokens c le =
    ap (λ (o : Option BinaryOperator). o >>= λ operator. if_as_strong lowest operator) (own_sign operator)
    ∙ ap (λ (b : Bool). cond b None (Some operator)) (le-ltb (binds operator) lowest le)

is_weaker : (high : ℕ) (operator : BinaryOperator) (tokens : List Spelled) (c : ℕ) → binds operator < high → operator_at high (sign (binary_sign operator) ∷ tokens, c) ≡ None
unfolding operator_at
is_weaker high operator tokens c lt =
    ap (λ (o : Option BinaryOperator). o >>= λ operator. if_as_strong high operator) (own_sign operator)
    ∙ ap (λ (b : Bool). cond b None (Some operator)) (lt-ltb (binds operator) high lt)

-- where none binds so strongly, none binds more strongly
weaker_still : (low high : ℕ) (operator : BinaryOperator) → low ≤ high → if_as_strong low operator ≡ None → if_as_strong high operator ≡ None
weaker_still low high operator le h = elim (cases_Bool (nat_lt (binds operator) low)) [
  | inl e ↦ let lt = ltb-true (binds operator) low e in ap (λ (b : Bool). cond b None (Some operator)) (lt-ltb (binds operator) high (omega (arith, lt, le)))
  | inr e ↦ absurd (some_none operator (rw e at h))
]
  where
    some_none : (operator : BinaryOperator) → Some operator ≡ None → ⊥
    some_none operator h = cc

none_of : (low high : ℕ) (o : Option BinaryOperator) → low ≤ high → (o >>= λ operator. if_as_strong low operator) ≡ None → (o >>= λ operator. if_as_strong high operator) ≡ None
none_of low high None le h = refl
none_of low high (Some operator) le h = weaker_still low high operator le h

none_above : (low high : ℕ) (token : Spelled) (tokens : List Spelled) (c : ℕ) → low ≤ high → operator_at low (token ∷ tokens, c) ≡ None → operator_at high (token ∷ tokens, c) ≡ None
unfolding operator_at
none_above low high (kinds.Symbol symbol, spelling) tokens c le h = none_of low high (operator_of symbol) le h
none_above low high (kinds.TestName, spelling) tokens c le h = refl
none_above low high (kinds.Name, spelling) tokens c le h = refl
none_above low high (kinds.Word w, spelling) tokens c le h = refl
none_above low high (kinds.Number n, spelling) tokens c le h = refl
none_above low high (kinds.Wrong problem, spelling) tokens c le h = refl
none_above low high (kinds.End, spelling) tokens c le h = refl

none_above_all : (low high : ℕ) (tokens : List Spelled) (c : ℕ) → low ≤ high → operator_at low (tokens, c) ≡ None → operator_at high (tokens, c) ≡ None
unfolding operator_at
none_above_all low high [] c le h = refl
none_above_all low high (token ∷ tokens) c le h = none_above low high token tokens c le h

-- ---- what an expression begins with

-- what holds of each token with which an expression may begin
record Starts (scope : Known) (P : Spelled → Type 0) : Type 0 where
  numbers : (n : ℕ) (spelling : List ℕ) → n < 2 ^ 31 → P (kinds.Number n, spelling)
  parenthesis : P (sign signs.OpenParenthesis)
  minus : P (sign signs.Minus)
  star : P (sign signs.Star)
  one : (operator : UnaryOperator) → P (sign (unary_sign operator))
  calls : (function : Function) (explicit : Bool) (spelling : List ℕ) → P (kinds.Word (words.Function function explicit), spelling)
  names : (register : ℕ) → IsFoundRegister scope register → P (name (register_name_in scope register))

module _ (scope : Known) (P : Spelled → Type 0) (starts : Starts scope P) where
  abbrev Begins : List Spelled → Type 0
  Begins [] = ⊥
  Begins (token ∷ tokens) = P token

  goes_on : (tokens behind : List Spelled) → Begins tokens → Begins (tokens ++ behind)
  goes_on [] behind h = absurd h
  goes_on (token ∷ tokens) behind h = h

  enclosed : (b : Bool) (tokens : List Spelled) → Begins tokens → Begins (in_parentheses b tokens)
  enclosed true tokens h = starts.parenthesis
  enclosed false tokens h = h

  begins : (f : Phrase) (level : ℕ) → IsWritablePhrase scope f → Begins (printed_phrase scope level f)
  unfolding printed_phrase
  begins (Constant (pos n)) level h = starts.numbers n _ h
  begins (Constant (negsuc n)) level h = starts.minus
  begins (OfRegister register) level h = starts.names register h
  begins (Pointed location) level h = starts.star
  begins (Signed operator operand) level h = enclosed (nat_lt 11 level) (sign (unary_sign operator) ∷ printed_phrase scope 11 operand) (starts.one operator)
  begins (Between operator left right) level h =
      enclosed (nat_lt (binds operator) level) (printed_phrase scope (binds operator) left ++ (sign (binary_sign operator) ∷ printed_phrase scope (binds operator + 1) right))
      (goes_on (printed_phrase scope (binds operator) left) (sign (binary_sign operator) ∷ printed_phrase scope (binds operator + 1) right) (begins left (binds operator) h.0))
  begins (Loaded location order) level h = starts.calls _ _ _
  begins (Exchanged location value order) level h = starts.calls _ _ _
  begins (Fetched operator location value order) level h = starts.calls _ _ _
  begins (Compared strength location compared value success failure) level h = starts.calls _ _ _
  begins (ComparedRegister strength location register value success failure) level h = starts.calls _ _ _
  begins (ComparedPlain strength location plain value success failure) level h = starts.calls _ _ _
  begins (Tried mutex) level h = starts.calls _ _ _

  first_of : (tokens behind : List Spelled) → Begins tokens → P (first (tokens ++ behind))
  first_of [] behind h = absurd h
  first_of (token ∷ tokens) behind h = h

  begins_with : (f : Phrase) (level : ℕ) (behind : List Spelled) → IsWritablePhrase scope f → P (first (printed_phrase scope level f ++ behind))
  begins_with f level behind h = first_of (printed_phrase scope level f) behind (begins f level h)

-- it is no cast
not_type : (scope : Known) (f : Phrase) (level c : ℕ) (behind : List Spelled) → IsWritablePhrase scope f → is_type (next (printed_phrase scope level f ++ behind, c)).0 ≡ false
not_type scope f level c behind h =
    begins_with scope (λ token. is_type token.0 ≡ false) (record {
      numbers = λ n s lt. refl;
      parenthesis = refl;
      minus = refl;
      star = refl;
      one = λ operator. refl;
      calls = λ function explicit s. refl;
      names = λ register found. refl;
    }) f level behind h

-- a sign before it isn't that of the least int
not_largest : (n : ℕ) → n < 2 ^ 31 → nat_eq n (2 ^ 31) ≡ false
not_largest n lt = false_from_ne_true (nat_eq n (2 ^ 31)) (λ e. absurd (omega (arith, lt, eqb-true n (2 ^ 31) e)))

not_least : (scope : Known) (f : Phrase) (level c : ℕ) (behind : List Spelled) → IsWritablePhrase scope f
    → (same.ghosts).eq (next (printed_phrase scope level f ++ behind, c)).0 (kinds.Number LARGEST_NUMBER) ≡ false
not_least scope f level c behind h =
    begins_with scope (λ token. (same.ghosts).eq token.0 (kinds.Number LARGEST_NUMBER) ≡ false) (record {
      numbers = λ n s lt. not_largest n lt;
      parenthesis = refl;
      minus = refl;
      star = refl;
      one = λ operator. refl;
      calls = λ function explicit s. refl;
      names = λ register found. refl;
    }) f level behind h

-- it is no register's place, and no plain int's pointer
no_ampersand : (operator : UnaryOperator) → (same.ghosts).eq (kinds.Symbol (unary_sign operator)) (kinds.Symbol signs.Ampersand) ≡ false
no_ampersand unary.Neg = refl
no_ampersand unary.Not = refl
no_ampersand unary.BitNot = refl

not_place : (scope : Known) (f : Phrase) (level c : ℕ) (behind : List Spelled) → IsWritablePhrase scope f → is_next signs.Ampersand (printed_phrase scope level f ++ behind, c) ≡ false
not_place scope f level c behind h =
    begins_with scope (λ token. (same.ghosts).eq token.0 (kinds.Symbol signs.Ampersand) ≡ false) (record {
      numbers = λ n s lt. refl;
      parenthesis = refl;
      minus = refl;
      star = refl;
      one = no_ampersand;
      calls = λ function explicit s. refl;
      names = λ register found. refl;
    }) f level behind h

abbrev no_plain : Known → Spelled → Type 0
no_plain scope token = cond ((same.ghosts).eq token.0 kinds.Name) (parameter_named scope location_kinds.Plain token.1) None ≡ None

no_pointer : (scope : Known) (register : ℕ) → IsFoundRegister scope register → no_plain scope (name (register_name_in scope register))
no_pointer scope register found = rw found refl

not_plain : (scope : Known) (f : Phrase) (level c : ℕ) (behind : List Spelled) → IsWritablePhrase scope f → plain_at scope (printed_phrase scope level f ++ behind, c) ≡ None
unfolding plain_at
not_plain scope f level c behind h =
    begins_with scope (no_plain scope) (record {
      numbers = λ n s lt. refl;
      parenthesis = refl;
      minus = refl;
      star = refl;
      one = λ operator. refl;
      calls = λ function explicit s. refl;
      names = no_pointer scope;
    }) f level behind h

-- ---- what is read of each expression

abbrev pub OneAgain : Known → Phrase → Type 0
OneAgain scope f = (d c : ℕ) (behind : List Spelled) → phrase_depth 11 f ≤ d → c + operators f ≤ 256 → is_next signs.OpenParenthesis (behind, 0) ≡ false
    → (readers scope d).one (printed_phrase scope 11 f ++ behind, c) ≡ Some (f, (behind, c + operators f))

-- how many operators are joined from the left, where it is written so
abbrev pub spine : ℕ → Phrase → ℕ
spine level (Between operator left right) = cond (nat_lt (binds operator) level) 0 (spine (binds operator) left + 1)
spine level (Constant value) = 0
spine level (OfRegister register) = 0
spine level (Pointed location) = 0
spine level (Signed operator operand) = 0
spine level (Loaded location order) = 0
spine level (Exchanged location value order) = 0
spine level (Fetched operator location value order) = 0
spine level (Compared strength location compared value success failure) = 0
spine level (ComparedRegister strength location register value success failure) = 0
spine level (ComparedPlain strength location plain value success failure) = 0
spine level (Tried mutex) = 0

abbrev pub ManyAgain : Known → Phrase → Type 0
ManyAgain scope f = (level lowest d c : ℕ) (behind : List Spelled) → lowest ≤ level → level ≤ 11 → phrase_depth level f ≤ d → c + operators f ≤ 256
    → is_next signs.OpenParenthesis (behind, 0) ≡ false → operator_at (level + 1) (behind, 0) ≡ None
    → (readers scope d).many lowest (printed_phrase scope level f ++ behind, c) ≡ operators_at (inside scope d) lowest (257 - spine level f) f (behind, c + operators f)

few_joined : (level : ℕ) (f : Phrase) → spine level f ≤ operators f
few_joined level (Constant value) = omega arith
few_joined level (OfRegister register) = omega arith
few_joined level (Pointed location) = omega arith
few_joined level (Signed operator operand) = omega arith
few_joined level (Between operator left right) = let rest = few_joined (binds operator) left in elim (cases_Bool (nat_lt (binds operator) level)) [
  | inl e ↦ rw e (omega arith)
  | inr e ↦ rw e (omega (arith, rest))
]
few_joined level (Loaded location order) = omega arith
few_joined level (Exchanged location value order) = omega arith
few_joined level (Fetched operator location value order) = omega arith
few_joined level (Compared strength location compared value success failure) = omega arith
few_joined level (ComparedRegister strength location register value success failure) = omega arith
few_joined level (ComparedPlain strength location plain value success failure) = omega arith
few_joined level (Tried mutex) = omega arith

-- whole, where no operator follows
many_ends : (scope : Known) (f : Phrase) → ManyAgain scope f → (level d c : ℕ) (behind : List Spelled) → level ≤ 11 → phrase_depth level f ≤ d → c + operators f ≤ 256
    → is_next signs.OpenParenthesis (behind, 0) ≡ false → operator_at level (behind, 0) ≡ None
    → (readers scope d).many level (printed_phrase scope level f ++ behind, c) ≡ Some (f, (behind, c + operators f))
unfolding operator_at
many_ends scope f again level d c behind small deep many off last =
    let few = few_joined level f in
    again level level d c behind (omega arith) small deep many off (none_above_all level (level + 1) behind 0 (omega arith) last)
    ∙ no_operator (inside scope d) level (257 - spine level f) (256 - spine level f) f (behind, c + operators f) (omega (arith, few, many)) last

-- ---- each

-- where it is written alike at each level
many_of_one : (scope : Known) (f : Phrase) → ((level : ℕ) → level ≤ 11 → printed_phrase scope level f ≡ printed_phrase scope 11 f) → ((level : ℕ) → level ≤ 11 → phrase_depth level f ≡ phrase_depth 11 f)
    → ((level : ℕ) → spine level f ≡ 0) → OneAgain scope f → ManyAgain scope f
many_of_one scope f alike depth_alike none one level lowest d c behind le small deep many off last =
    ap (λ (ts : List Spelled). (readers scope d).many lowest (ts ++ behind, c)) (alike level small)
    ∙ from_one scope d lowest (printed_phrase scope 11 f ++ behind, c) (behind, c + operators f) f (one d c behind (omega (arith, deep, depth_alike level small)) many off)
    ∙ ap (λ (n : ℕ). operators_at (inside scope d) lowest (257 - n) f (behind, c + operators f)) (sym (none level))

constant_one : (scope : Known) (o : Option Readers) (value : ℤ) (c : ℕ) (behind : List Spelled) → IsConstant value → one_with scope o (printed_value value ++ behind, c) ≡ Some (Constant value, (behind, c))
unfolding one_with primary_with constant_at
constant_one scope o (pos n) c behind h = ap (λ (o : Option (ℤ × Left)). o >>= λ value. Some (Constant value.0, value.1)) (constant_again (pos n) c behind h)
constant_one scope o (negsuc n) c behind h =
    let e : 2147483647 ≡ n = omega (arith, h) in
    subst (λ (n : ℕ). one_with scope o (printed_value (negsuc n) ++ behind, c) ≡ Some (Constant (negsuc n), (behind, c))) e refl

register_one : (scope : Known) (o : Option Readers) (register c : ℕ) (behind : List Spelled) → IsFoundRegister scope register → is_next signs.OpenParenthesis (behind, 0) ≡ false
    → one_with scope o (name (register_name_in scope register) ∷ behind, c) ≡ Some (OfRegister register, (behind, c))
unfolding one_with primary_with
register_one scope o register c behind found off = rw (off, found) refl

pointed_one : (scope : Known) (o : Option Readers) (location c : ℕ) (behind : List Spelled) → parameter_named scope location_kinds.Plain (name_of scope.locations location) ≡ Some location
    → one_with scope o (sign signs.Star ∷ location_token scope location ∷ behind, c) ≡ Some (Pointed location, (behind, c))
unfolding one_with pointed_at location_at
pointed_one scope o location c behind found = rw found refl

signed_one : (scope : Known) (r : Readers) (operator : UnaryOperator) (f : Phrase) (tokens behind : List Spelled) (c n : ℕ)
    → (same.ghosts).eq (next (tokens ++ behind, c)).0 (kinds.Number LARGEST_NUMBER) ≡ false → r.one (tokens ++ behind, c) ≡ Some (f, (behind, n))
    → one_with scope (Some r) (sign (unary_sign operator) ∷ (tokens ++ behind), c) ≡ Some (Signed operator f, (behind, n))
unfolding one_with signed_as
signed_one scope r unary.Not f tokens behind c n other h = ap (λ (o : Option (Phrase × Left)). o >>= λ operand. Some (Signed unary.Not operand.0, operand.1)) h
signed_one scope r unary.BitNot f tokens behind c n other h = ap (λ (o : Option (Phrase × Left)). o >>= λ operand. Some (Signed unary.BitNot operand.0, operand.1)) h
signed_one scope r unary.Neg f tokens behind c n other h = rw (other, h) refl

enclosed_one : (scope : Known) (r : Readers) (f : Phrase) (tokens behind : List Spelled) (c n : ℕ)
    → is_type (next (tokens ++ (sign signs.CloseParenthesis ∷ behind), c)).0 ≡ false → r.many 1 (tokens ++ (sign signs.CloseParenthesis ∷ behind), c) ≡ Some (f, (sign signs.CloseParenthesis ∷ behind, n))
    → one_with scope (Some r) ((sign signs.OpenParenthesis ∷ (tokens ++ closing)) ++ behind, c) ≡ Some (f, (behind, n))
unfolding one_with primary_with enclosed_with
enclosed_one scope r f tokens behind c n other h =
    let regrouped : (tokens ++ closing) ++ behind ≡ tokens ++ (sign signs.CloseParenthesis ∷ behind) = append_assoc tokens closing behind in
    ap (λ (ts : List Spelled). one_with scope (Some r) (sign signs.OpenParenthesis ∷ ts, c)) regrouped ∙ rw (other, h) refl

-- ---- an operator between two

abbrev body : Known → BinaryOperator → Phrase → Phrase → List Spelled
body scope operator l r = printed_phrase scope (binds operator) l ++ (sign (binary_sign operator) ∷ printed_phrase scope (binds operator + 1) r)

no_open : (operator : BinaryOperator) → (same.ghosts).eq (kinds.Symbol (binary_sign operator)) (kinds.Symbol signs.OpenParenthesis) ≡ false
no_open binary.Or = refl
no_open binary.And = refl
no_open binary.BitOr = refl
no_open binary.BitXor = refl
no_open binary.BitAnd = refl
no_open binary.Eq = refl
no_open binary.Ne = refl
no_open binary.Lt = refl
no_open binary.Le = refl
no_open binary.Gt = refl
no_open binary.Ge = refl
no_open binary.Shl = refl
no_open binary.Shr = refl
no_open binary.Add = refl
no_open binary.Sub = refl
no_open binary.Mul = refl
no_open binary.Div = refl
no_open binary.Rem = refl

between_plain : (scope : Known) (operator : BinaryOperator) (l r : Phrase) → ManyAgain scope l → ManyAgain scope r → (lowest d c : ℕ) (behind : List Spelled) → lowest ≤ binds operator
    → max (phrase_depth (binds operator) l) (1 + phrase_depth (binds operator + 1) r) ≤ d → c + operators (Between operator l r) ≤ 256
    → is_next signs.OpenParenthesis (behind, 0) ≡ false → operator_at (binds operator + 1) (behind, 0) ≡ None
    → (readers scope d).many lowest (body scope operator l r ++ behind, c)
    ≡ operators_at (inside scope d) lowest (257 - (spine (binds operator) l + 1)) (Between operator l r) (behind, c + operators (Between operator l r))
unfolding inside
between_plain scope operator l r again again' lowest zero c behind le deep many off last = absurd (omega (arith, deep))
between_plain scope operator l r again again' lowest (suc d) c behind le deep many off last =
    let b = binds operator in
    let more = sign (binary_sign operator) ∷ (printed_phrase scope (b + 1) r ++ behind) in
    let bound = bounds operator in
    let few = few_joined b l in
    let regrouped : body scope operator l r ++ behind ≡ printed_phrase scope b l ++ more = append_assoc (printed_phrase scope b l) (sign (binary_sign operator) ∷ printed_phrase scope (b + 1) r) behind in
    let enough : counted (more, c + operators l) ≡ Some (more, c + operators l + 1) = ap (λ (b : Bool). cond b (Some (more, c + operators l + 1)) None) (lt-ltb (c + operators l) 256 (omega (arith, many))) in
    let first = again b lowest (suc d) c more le (omega (arith, bound)) (omega (arith, deep)) (omega (arith, many)) (no_open operator) (is_weaker (b + 1) operator (printed_phrase scope (b + 1) r ++ behind) 0 (omega arith)) in
    let second = many_ends scope r again' (b + 1) d (c + operators l + 1) behind (omega (arith, bound)) (omega (arith, deep)) (omega (arith, many)) off last in
    ap (λ (ts : List Spelled). (readers scope (suc d)).many lowest (ts, c)) regrouped
    ∙ first
    ∙ another_operator (readers scope d) lowest (257 - spine b l) (257 - (spine b l + 1)) operator l r (more, c + operators l) (more, c + operators l + 1) (behind, c + operators l + 1 + operators r)
    (omega (arith, few, many)) (is_operator lowest operator (printed_phrase scope (b + 1) r ++ behind) (c + operators l) le) enough second
    ∙ ap (λ (n : ℕ). operators_at (Some (readers scope d)) lowest (257 - (spine b l + 1)) (Between operator l r) (behind, n)) (regroup c (operators l) (operators r))
  where
    regroup : (c m n : ℕ) → c + m + 1 + n ≡ c + (m + 1 + n)
    regroup c m n = omega arith

between_one : (scope : Known) (operator : BinaryOperator) (l r : Phrase) → IsWritablePhrase scope (Between operator l r) → ManyAgain scope l → ManyAgain scope r → OneAgain scope (Between operator l r)
unfolding printed_phrase inside operator_at
between_one scope operator l r h again again' d c behind deep many off =
    let bound = bounds operator in
    let strong : nat_lt (binds operator) 11 ≡ true = lt-ltb (binds operator) 11 (omega (arith, bound)) in
    let deeper : 1 + max (phrase_depth (binds operator) l) (1 + phrase_depth (binds operator + 1) r) ≤ d = rw strong at deep in
    ap (λ (b : Bool). (readers scope d).one (in_parentheses b (body scope operator l r) ++ behind, c)) strong ∙ enclosed_at d deeper
  where
    body_type : (behind : List Spelled) → is_type (next (body scope operator l r ++ behind, c)).0 ≡ false
    body_type behind =
        ap (λ (ts : List Spelled). is_type (next (ts, c)).0) (append_assoc (printed_phrase scope (binds operator) l) (sign (binary_sign operator) ∷ printed_phrase scope (binds operator + 1) r) behind)
        ∙ not_type scope l (binds operator) c ((sign (binary_sign operator) ∷ printed_phrase scope (binds operator + 1) r) ++ behind) h.0

    enclosed_at : (d : ℕ) → 1 + max (phrase_depth (binds operator) l) (1 + phrase_depth (binds operator + 1) r) ≤ d
        → (readers scope d).one ((sign signs.OpenParenthesis ∷ (body scope operator l r ++ closing)) ++ behind, c) ≡ Some (Between operator l r, (behind, c + operators (Between operator l r)))
    enclosed_at zero deep = absurd (omega (arith, deep))
    enclosed_at (suc d) deep =
        let close = sign signs.CloseParenthesis ∷ behind in
        let bound = bounds operator in
        let few = few_joined (binds operator) l in
        let whole = between_plain scope operator l r again again' 1 d c close bound.0 (omega (arith, deep)) many refl refl
        ∙ no_operator (inside scope d) 1 (257 - (spine (binds operator) l + 1)) (256 - (spine (binds operator) l + 1)) (Between operator l r) (close, c + operators (Between operator l r)) (omega (arith, few, many)) refl in
        one_is scope (suc d) ((sign signs.OpenParenthesis ∷ (body scope operator l r ++ closing)) ++ behind, c)
        ∙ enclosed_one scope (readers scope d) (Between operator l r) (body scope operator l r) behind c (c + operators (Between operator l r)) (body_type close) whole

-- in parentheses or not
between_many : (scope : Known) (operator : BinaryOperator) (l r : Phrase) → ManyAgain scope l → ManyAgain scope r → OneAgain scope (Between operator l r) → ManyAgain scope (Between operator l r)
unfolding printed_phrase
between_many scope operator l r again again' one level lowest d c behind le small deep many off last = elim (cases_Bool (nat_lt (binds operator) level)) [
  | inl e ↦
      let bound = bounds operator in
      let strong : nat_lt (binds operator) 11 ≡ true = lt-ltb (binds operator) 11 (omega (arith, bound)) in
      let deep' : phrase_depth 11 (Between operator l r) ≤ d = rw strong (rw e at deep) in
      let alike : printed_phrase scope level (Between operator l r) ≡ printed_phrase scope 11 (Between operator l r) = ap (λ (b : Bool). in_parentheses b (body scope operator l r)) (e ∙ sym strong) in
      ap (λ (ts : List Spelled). (readers scope d).many lowest (ts ++ behind, c)) alike
      ∙ from_one scope d lowest (printed_phrase scope 11 (Between operator l r) ++ behind, c) (behind, c + operators (Between operator l r)) (Between operator l r) (one d c behind deep' many off)
      ∙ ap (λ (b : Bool). operators_at (inside scope d) lowest (257 - cond b 0 (spine (binds operator) l + 1)) (Between operator l r) (behind, c + operators (Between operator l r))) (sym e)
  | inr e ↦
      let weak = ltb-false (binds operator) level e in
      let shallow = rw e at deep in
      let deep' : max (phrase_depth (binds operator) l) (1 + phrase_depth (binds operator + 1) r) ≤ d = omega (arith, shallow) in
      ap (λ (b : Bool). (readers scope d).many lowest (in_parentheses b (body scope operator l r) ++ behind, c)) e
      ∙ between_plain scope operator l r again again' lowest d c behind (omega (arith, le, weak)) deep' many off (none_above_all (level + 1) (binds operator + 1) behind 0 (omega (arith, weak)) last)
      ∙ ap (λ (b : Bool). operators_at (inside scope d) lowest (257 - cond b 0 (spine (binds operator) l + 1)) (Between operator l r) (behind, c + operators (Between operator l r))) (sym e)
]

-- ---- calls

pub called : (scope : Known) (d : ℕ) (function : Function) (explicit : Bool) (spelling : List ℕ) (tokens : List Spelled) (c : ℕ)
    → (readers scope (suc d)).one (word (words.Function function explicit) spelling ∷ tokens, c) ≡ call_at scope (readers scope d) function explicit (tokens, c)
unfolding readers one_with primary_with
called scope d function explicit spelling tokens c = refl

loaded_again : (scope : Known) (r : Readers) (location : ℕ) (order : Ordering) (c : ℕ) (behind : List Spelled) → IsAtomic scope location → for_a_load order ≡ true
    → call_at scope r functions.Load true (sign signs.OpenParenthesis ∷ location_token scope location ∷ (comma_order order closing ++ behind), c) ≡ Some (Loaded location order, (behind, c))
unfolding call_at first_location_at begin_arguments_at location_at load_order_at order_at next_argument_at end_arguments_at
loaded_again scope r location order c behind found ok = rw (found, ok) refl

tried_again : (scope : Known) (r : Readers) (mutex c : ℕ) (behind : List Spelled) → parameter_named scope location_kinds.Mutex (name_of scope.locations mutex) ≡ Some mutex
    → call_at scope r functions.TryLock false (sign signs.OpenParenthesis ∷ location_token scope mutex ∷ (closing ++ behind), c) ≡ Some (Tried mutex, (behind, c))
unfolding call_at first_location_at begin_arguments_at location_at end_arguments_at
tried_again scope r mutex c behind found = rw found refl

exchanged_again : (scope : Known) (r : Readers) (location : ℕ) (v : Phrase) (order : Ordering) (tokens behind : List Spelled) (c n : ℕ) → IsAtomic scope location
    → r.many 1 (tokens ++ comma_order order (closing ++ behind), c) ≡ Some (v, (comma_order order (closing ++ behind), n))
    → call_at scope r functions.Exchange true (sign signs.OpenParenthesis ∷ location_token scope location ∷ sign signs.Comma ∷ ((tokens ++ comma_order order closing) ++ behind), c)
    ≡ Some (Exchanged location v order, (behind, n))
unfolding call_at exchange_at first_location_at begin_arguments_at location_at argument_at order_at next_argument_at end_arguments_at
exchanged_again scope r location v order tokens behind c n found h =
    ap (λ (ts : List Spelled). call_at scope r functions.Exchange true (sign signs.OpenParenthesis ∷ location_token scope location ∷ sign signs.Comma ∷ ts, c)) (append_assoc tokens (comma_order order closing) behind)
    ∙ rw (found, h) refl

fetched_again : (scope : Known) (r : Readers) (operator : FetchOperator) (location : ℕ) (v : Phrase) (order : Ordering) (tokens behind : List Spelled) (c n : ℕ) → IsAtomic scope location
    → r.many 1 (tokens ++ comma_order order (closing ++ behind), c) ≡ Some (v, (comma_order order (closing ++ behind), n))
    → call_at scope r (functions.Fetch operator) true (sign signs.OpenParenthesis ∷ location_token scope location ∷ sign signs.Comma ∷ ((tokens ++ comma_order order closing) ++ behind), c)
    ≡ Some (Fetched operator location v order, (behind, n))
unfolding call_at fetch_at first_location_at begin_arguments_at location_at argument_at order_at next_argument_at end_arguments_at
fetched_again scope r operator location v order tokens behind c n found h =
    ap (λ (ts : List Spelled). call_at scope r (functions.Fetch operator) true (sign signs.OpenParenthesis ∷ location_token scope location ∷ sign signs.Comma ∷ ts, c)) (append_assoc tokens (comma_order order closing) behind)
    ∙ rw (found, h) refl

-- the orders of a compare-exchange
abbrev two_orders : Ordering → Ordering → List Spelled → List Spelled
two_orders success failure behind = comma_order success (comma_order failure behind)

compared_again : (scope : Known) (r : Readers) (strength : Strength) (location : ℕ) (v w : Phrase) (success failure : Ordering) (first second behind : List Spelled) (c n m : ℕ) → IsAtomic scope location → for_a_load failure ≡ true
    → is_next signs.Ampersand (first ++ (sign signs.Comma ∷ (second ++ two_orders success failure (closing ++ behind))), c) ≡ false
    → plain_at scope (first ++ (sign signs.Comma ∷ (second ++ two_orders success failure (closing ++ behind))), c) ≡ None
    → r.many 1 (first ++ (sign signs.Comma ∷ (second ++ two_orders success failure (closing ++ behind))), c) ≡ Some (v, (sign signs.Comma ∷ (second ++ two_orders success failure (closing ++ behind)), n))
    → r.many 1 (second ++ two_orders success failure (closing ++ behind), n) ≡ Some (w, (two_orders success failure (closing ++ behind), m))
    → call_at scope r (functions.CompareExchange strength) true
    (sign signs.OpenParenthesis ∷ location_token scope location ∷ sign signs.Comma ∷ ((first ++ (sign signs.Comma ∷ (second ++ two_orders success failure closing))) ++ behind), c)
    ≡ Some (Compared strength location v w success failure, (behind, m))
unfolding call_at compare_exchange_at first_location_at begin_arguments_at location_at compared_at argument_at load_order_at order_at next_argument_at end_arguments_at
compared_again scope r strength location v w success failure first second behind c n m found ok place plain h i =
    let regrouped : (first ++ (sign signs.Comma ∷ (second ++ two_orders success failure closing))) ++ behind ≡ first ++ (sign signs.Comma ∷ (second ++ two_orders success failure (closing ++ behind))) =
    append_assoc first (sign signs.Comma ∷ (second ++ two_orders success failure closing)) behind
    ∙ ap (λ (ts : List Spelled). first ++ (sign signs.Comma ∷ ts)) (append_assoc second (two_orders success failure closing) behind) in
    ap (λ (ts : List Spelled). call_at scope r (functions.CompareExchange strength) true (sign signs.OpenParenthesis ∷ location_token scope location ∷ sign signs.Comma ∷ ts, c)) regrouped
    ∙ rw (found, place, plain, h, i, ok) refl

compared_register_again : (scope : Known) (r : Readers) (strength : Strength) (location register : ℕ) (w : Phrase) (success failure : Ordering) (tokens behind : List Spelled) (c n : ℕ) → IsAtomic scope location
    → IsFoundRegister scope register → for_a_load failure ≡ true
    → r.many 1 (tokens ++ two_orders success failure (closing ++ behind), c) ≡ Some (w, (two_orders success failure (closing ++ behind), n))
    → call_at scope r (functions.CompareExchange strength) true
    (sign signs.OpenParenthesis ∷ location_token scope location ∷ sign signs.Comma ∷ sign signs.Ampersand ∷ name (register_name_in scope register) ∷ sign signs.Comma ∷ ((tokens ++ two_orders success failure closing) ++ behind), c)
    ≡ Some (ComparedRegister strength location register w success failure, (behind, n))
unfolding call_at compare_exchange_at first_location_at begin_arguments_at location_at compared_at argument_at load_order_at order_at next_argument_at end_arguments_at
compared_register_again scope r strength location register w success failure tokens behind c n found of_register ok h =
    ap (λ (ts : List Spelled). call_at scope r (functions.CompareExchange strength) true
    (sign signs.OpenParenthesis ∷ location_token scope location ∷ sign signs.Comma ∷ sign signs.Ampersand ∷ name (register_name_in scope register) ∷ sign signs.Comma ∷ ts, c)) (append_assoc tokens (two_orders success failure closing) behind)
    ∙ rw (found, of_register, h, ok) refl

compared_plain_again : (scope : Known) (r : Readers) (strength : Strength) (location plain : ℕ) (w : Phrase) (success failure : Ordering) (tokens behind : List Spelled) (c n : ℕ) → IsAtomic scope location
    → parameter_named scope location_kinds.Plain (name_of scope.locations plain) ≡ Some plain → for_a_load failure ≡ true
    → r.many 1 (tokens ++ two_orders success failure (closing ++ behind), c) ≡ Some (w, (two_orders success failure (closing ++ behind), n))
    → call_at scope r (functions.CompareExchange strength) true
    (sign signs.OpenParenthesis ∷ location_token scope location ∷ sign signs.Comma ∷ location_token scope plain ∷ sign signs.Comma ∷ ((tokens ++ two_orders success failure closing) ++ behind), c)
    ≡ Some (ComparedPlain strength location plain w success failure, (behind, n))
unfolding call_at compare_exchange_at first_location_at begin_arguments_at location_at compared_at plain_at argument_at load_order_at order_at next_argument_at end_arguments_at
compared_plain_again scope r strength location plain w success failure tokens behind c n found pointed ok h =
    ap (λ (ts : List Spelled). call_at scope r (functions.CompareExchange strength) true
    (sign signs.OpenParenthesis ∷ location_token scope location ∷ sign signs.Comma ∷ location_token scope plain ∷ sign signs.Comma ∷ ts, c)) (append_assoc tokens (two_orders success failure closing) behind)
    ∙ rw (found, pointed, h, ok) refl

-- ---- all

-- an argument, up to a comma
argument : (scope : Known) (v : Phrase) → ManyAgain scope v → (d c : ℕ) (behind : List Spelled) → phrase_depth 1 v ≤ d → c + operators v ≤ 256
    → (readers scope d).many 1 (printed_phrase scope 1 v ++ (sign signs.Comma ∷ behind), c) ≡ Some (v, (sign signs.Comma ∷ behind, c + operators v))
unfolding operator_at
argument scope v again d c behind deep many = many_ends scope v again 1 d c (sign signs.Comma ∷ behind) (omega arith) deep many refl refl

-- where no operator is counted
none_counted : (f : Phrase) (behind : List Spelled) (c : ℕ) → ◌≡◌ {A = Option (Phrase × Left)} (Some (f, (behind, c))) (Some (f, (behind, c + 0)))
none_counted f behind c = let at : ℕ → Option (Phrase × Left) = λ n. Some (f, (behind, n)) in ap at (plus_none c)
  where
    plus_none : (c : ℕ) → c ≡ c + 0
    plus_none c = omega arith

-- ---- by depth

signed_again : (scope : Known) (operator : UnaryOperator) (f : Phrase) → IsWritablePhrase scope f → OneAgain scope f → OneAgain scope (Signed operator f)
unfolding printed_phrase inside
signed_again scope operator f h one zero c behind deep many off = absurd (omega (arith, deep))
signed_again scope operator f h one (suc d) c behind deep many off =
    one_is scope (suc d) (sign (unary_sign operator) ∷ (printed_phrase scope 11 f ++ behind), c)
    ∙ signed_one scope (readers scope d) operator f (printed_phrase scope 11 f) behind c (c + operators f) (not_least scope f 11 c behind h) (one d c behind (omega (arith, deep)) many off)

loaded_one : (scope : Known) (location : ℕ) (order : Ordering) → IsWritablePhrase scope (Loaded location order) → OneAgain scope (Loaded location order)
unfolding printed_phrase
loaded_one scope location order h zero c behind deep many off = absurd (omega (arith, deep))
loaded_one scope location order h (suc d) c behind deep many off =
    called scope d functions.Load true _ _ c ∙ loaded_again scope (readers scope d) location order c behind h.0 h.1 ∙ none_counted (Loaded location order) behind c

tried_one : (scope : Known) (mutex : ℕ) → IsWritablePhrase scope (Tried mutex) → OneAgain scope (Tried mutex)
unfolding printed_phrase
tried_one scope mutex h zero c behind deep many off = absurd (omega (arith, deep))
tried_one scope mutex h (suc d) c behind deep many off = called scope d functions.TryLock false _ _ c ∙ tried_again scope (readers scope d) mutex c behind h ∙ none_counted (Tried mutex) behind c

exchanged_one : (scope : Known) (location : ℕ) (v : Phrase) (order : Ordering) → IsWritablePhrase scope (Exchanged location v order) → ManyAgain scope v → OneAgain scope (Exchanged location v order)
unfolding printed_phrase
exchanged_one scope location v order h again zero c behind deep many off = absurd (omega (arith, deep))
exchanged_one scope location v order h again (suc d) c behind deep many off =
    called scope d functions.Exchange true _ _ c
    ∙ exchanged_again scope (readers scope d) location v order (printed_phrase scope 1 v) behind c (c + operators v) h.0 (argument scope v again d c _ (omega (arith, deep)) many)

fetched_one : (scope : Known) (operator : FetchOperator) (location : ℕ) (v : Phrase) (order : Ordering) → IsWritablePhrase scope (Fetched operator location v order) → ManyAgain scope v
    → OneAgain scope (Fetched operator location v order)
unfolding printed_phrase
fetched_one scope operator location v order h again zero c behind deep many off = absurd (omega (arith, deep))
fetched_one scope operator location v order h again (suc d) c behind deep many off =
    called scope d (functions.Fetch operator) true _ _ c
    ∙ fetched_again scope (readers scope d) operator location v order (printed_phrase scope 1 v) behind c (c + operators v) h.0 (argument scope v again d c _ (omega (arith, deep)) many)

compared_one : (scope : Known) (strength : Strength) (location : ℕ) (v w : Phrase) (success failure : Ordering) → IsWritablePhrase scope (Compared strength location v w success failure) → ManyAgain scope v → ManyAgain scope w
    → OneAgain scope (Compared strength location v w success failure)
unfolding printed_phrase
compared_one scope strength location v w success failure h again again' zero c behind deep many off = absurd (omega (arith, deep))
compared_one scope strength location v w success failure h again again' (suc d) c behind deep many off =
    let more = sign signs.Comma ∷ (printed_phrase scope 1 w ++ two_orders success failure (closing ++ behind)) in
    called scope d (functions.CompareExchange strength) true _ _ c
    ∙ compared_again scope (readers scope d) strength location v w success failure (printed_phrase scope 1 v) (printed_phrase scope 1 w) behind c (c + operators v) (c + operators v + operators w) h.0 h.3
    (not_place scope v 1 c more h.1) (not_plain scope v 1 c more h.1) (argument scope v again d c _ (omega (arith, deep)) (omega (arith, many)))
    (argument scope w again' d (c + operators v) _ (omega (arith, deep)) (omega (arith, many)))
    ∙ ap (λ (n : ℕ). Some (Compared strength location v w success failure, (behind, n))) (add_assoc c (operators v) (operators w))

compared_register_one : (scope : Known) (strength : Strength) (location register : ℕ) (w : Phrase) (success failure : Ordering) → IsWritablePhrase scope (ComparedRegister strength location register w success failure) → ManyAgain scope w
    → OneAgain scope (ComparedRegister strength location register w success failure)
unfolding printed_phrase
compared_register_one scope strength location register w success failure h again zero c behind deep many off = absurd (omega (arith, deep))
compared_register_one scope strength location register w success failure h again (suc d) c behind deep many off =
    called scope d (functions.CompareExchange strength) true _ _ c
    ∙ compared_register_again scope (readers scope d) strength location register w success failure (printed_phrase scope 1 w) behind c (c + operators w) h.0 h.1 h.3 (argument scope w again d c _ (omega (arith, deep)) many)

compared_plain_one : (scope : Known) (strength : Strength) (location plain : ℕ) (w : Phrase) (success failure : Ordering) → IsWritablePhrase scope (ComparedPlain strength location plain w success failure) → ManyAgain scope w
    → OneAgain scope (ComparedPlain strength location plain w success failure)
unfolding printed_phrase
compared_plain_one scope strength location plain w success failure h again zero c behind deep many off = absurd (omega (arith, deep))
compared_plain_one scope strength location plain w success failure h again (suc d) c behind deep many off =
    called scope d (functions.CompareExchange strength) true _ _ c
    ∙ compared_plain_again scope (readers scope d) strength location plain w success failure (printed_phrase scope 1 w) behind c (c + operators w) h.0 h.1 h.3 (argument scope w again d c _ (omega (arith, deep)) many)

pub again_of : (scope : Known) (f : Phrase) → IsWritablePhrase scope f → OneAgain scope f × ManyAgain scope f
unfolding printed_phrase
again_of scope (Constant value) h =
    let one : OneAgain scope (Constant value) = λ d c behind deep many off. one_is scope d (printed_value value ++ behind, c) ∙ constant_one scope (inside scope d) value c behind h ∙ none_counted (Constant value) behind c in
    (one, many_of_one scope (Constant value) (λ level le. refl) (λ level le. refl) (λ level. refl) one)
again_of scope (OfRegister register) h =
    let one : OneAgain scope (OfRegister register) = λ d c behind deep many off.
    one_is scope d (name (register_name_in scope register) ∷ behind, c) ∙ register_one scope (inside scope d) register c behind h off ∙ none_counted (OfRegister register) behind c in
    (one, many_of_one scope (OfRegister register) (λ level le. refl) (λ level le. refl) (λ level. refl) one)
again_of scope (Pointed location) h =
    let one : OneAgain scope (Pointed location) = λ d c behind deep many off.
    one_is scope d (sign signs.Star ∷ location_token scope location ∷ behind, c) ∙ pointed_one scope (inside scope d) location c behind h ∙ none_counted (Pointed location) behind c in
    (one, many_of_one scope (Pointed location) (λ level le. refl) (λ level le. refl) (λ level. refl) one)
again_of scope (Signed operator operand) h =
    let one = signed_again scope operator operand h (again_of scope operand h).0 in (
      one,
      many_of_one scope (Signed operator operand) (λ level le. ap (λ (b : Bool). in_parentheses b (sign (unary_sign operator) ∷ printed_phrase scope 11 operand)) (le-ltb 11 level le))
          (λ level le. ap (λ (b : Bool). cond b 1 0 + (1 + phrase_depth 11 operand)) (le-ltb 11 level le)) (λ level. refl) one,
    )
again_of scope (Between operator l r) h =
    let many_l = (again_of scope l h.0).1 in
    let many_r = (again_of scope r h.1).1 in
    let one = between_one scope operator l r h many_l many_r in
    (one, between_many scope operator l r many_l many_r one)
again_of scope (Loaded location order) h =
    let one = loaded_one scope location order h in
    (one, many_of_one scope (Loaded location order) (λ level le. refl) (λ level le. refl) (λ level. refl) one)
again_of scope (Exchanged location v order) h =
    let one = exchanged_one scope location v order h (again_of scope v h.1).1 in
    (one, many_of_one scope (Exchanged location v order) (λ level le. refl) (λ level le. refl) (λ level. refl) one)
again_of scope (Fetched operator location v order) h =
    let one = fetched_one scope operator location v order h (again_of scope v h.1).1 in
    (one, many_of_one scope (Fetched operator location v order) (λ level le. refl) (λ level le. refl) (λ level. refl) one)
again_of scope (Compared strength location v w success failure) h =
    let one = compared_one scope strength location v w success failure h (again_of scope v h.1).1 (again_of scope w h.2).1 in
    (one, many_of_one scope (Compared strength location v w success failure) (λ level le. refl) (λ level le. refl) (λ level. refl) one)
again_of scope (ComparedRegister strength location register w success failure) h =
    let one = compared_register_one scope strength location register w success failure h (again_of scope w h.2).1 in
    (one, many_of_one scope (ComparedRegister strength location register w success failure) (λ level le. refl) (λ level le. refl) (λ level. refl) one)
again_of scope (ComparedPlain strength location plain w success failure) h =
    let one = compared_plain_one scope strength location plain w success failure h (again_of scope w h.2).1 in
    (one, many_of_one scope (ComparedPlain strength location plain w success failure) (λ level le. refl) (λ level le. refl) (λ level. refl) one)
again_of scope (Tried mutex) h =
    let one = tried_one scope mutex h in
    (one, many_of_one scope (Tried mutex) (λ level le. refl) (λ level le. refl) (λ level. refl) one)

pub expressions_read_back : ExpressionsReadBack
unfolding expression_at
expressions_read_back scope f behind count h off last =
    sym (many_is scope 64 1 (printed_phrase scope 1 f ++ behind, 0))
    ∙ many_ends scope f (again_of scope f h.writable).1 1 64 0 behind (omega arith) h.shallow (omega (arith, h.few)) off last
    ∙ ap (λ (n : ℕ). Some (f, (behind, n))) (zero-add (operators f))
