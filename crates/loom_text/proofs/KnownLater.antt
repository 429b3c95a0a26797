-- What is written with the names that are known at the end is what would be written where it stands.
use Rattle.std.proofs.Common.{◌≡◌, ℕ, zero, suc, ◌+◌, ◌<◌, nat_lt, List, [], ◌∷◌, ◌++◌, length, Bool, true, false, Option, Some, None, codes, refl, sym, ap, subst, ◌∙◌, append_assoc, arith}
use Rattle.std.proofs.lemmas.Bool.{ltb-true}
use Rattle.std.proofs.lemmas.List.{append-nil}
use Rattle.std.proofs.lemmas.Option.{cond_some}
use Rattle.std.specs.List.{position_or_len, slice_get}
use Rattle.std.specs.Option.{unwrap_or}
use Rattle.std.specs.Str.{bytes_eq}
use Rattle.loom_text.specs.declared.read.symbol.Symbol.TheVariants as signs
use Rattle.loom_text.specs.Expressions.{Phrase, Constant, OfRegister, Pointed, Signed, Between, Loaded, Exchanged, Fetched, Compared, ComparedRegister, ComparedPlain, Tried, binds, expression_at, operator_at}
use Rattle.loom_text.specs.Known.{Known, named_in}
use Rattle.loom_text.specs.Phrases.{IsFoundRegister, IsWritablePhrase, binary_sign, calling, closing, comma_order, compare_text, fetch_text, location_token, operators, printed_phrase, register_name_in, unary_sign}
use Rattle.loom_text.specs.Printing.{in_parentheses, name, sign}
use Rattle.loom_text.specs.Tokens.{Left, Spelled, is_next}
use Rattle.loom_text.specs.declared.read.word.Function.TheVariants as functions
use Rattle.loom_text.proofs.ExpressionsAgain.{expressions_read_back}
use Rattle.loom_text.proofs.ExpressionsFit.{expression_can_be_read}

-- ---- names that are known later

abbrev extended : Known → List (List ℕ) → Known
extended known more = record known { registers = known.registers ++ more }

abbrev pub Extends : Known → Known → Type 0
Extends early late = (more : List (List ℕ)) × (late ≡ extended early more)

pub extends_itself : (known : Known) → Extends known known
extends_itself known = ([], ap (λ (rs : List (List ℕ)). record known { registers = rs }) (sym (append-nil known.registers)))

pub extends_on : (early middle late : Known) → Extends early middle → Extends middle late → Extends early late
extends_on early middle late e f = (
  e.0 ++ f.0,
  f.1 ∙ ap (λ (k : Known). extended k f.0) e.1 ∙ ap (λ (rs : List (List ℕ)). record early { registers = rs }) (append_assoc early.registers e.0 f.0),
)

-- ---- a register's name stays

front : {X : Type 0} (xs ys : List X) (n : ℕ) → n < length xs → slice_get (xs ++ ys) n ≡ slice_get xs n
front [] ys n lt = absurd (omega (arith, lt))
front (x ∷ xs) ys zero lt = refl
front (x ∷ xs) ys (suc n) lt = front xs ys n (omega (arith, lt))

pub within : (names : List (List ℕ)) (spelling : List ℕ) (n : ℕ) → named_in names spelling ≡ Some n → n < length names
within names spelling n h =
    let p : List ℕ → Bool = λ other. bytes_eq other spelling in
    let found = cond_some (nat_lt (position_or_len p names) (length names)) (position_or_len p names) n h in
    let lt = ltb-true (position_or_len p names) (length names) found.0 in
    subst (λ (m : ℕ). m < length names) found.1 lt

pub name_stays : (known : Known) (more : List (List ℕ)) (register : ℕ) → register < length known.registers → register_name_in (extended known more) register ≡ register_name_in known register
name_stays known more register lt = ap (λ (o : Option (List ℕ)). unwrap_or o (codes "?")) (front known.registers more register lt)

pub found_stays : (known : Known) (more : List (List ℕ)) (register : ℕ) → IsFoundRegister known register → register_name_in (extended known more) register ≡ register_name_in known register
found_stays known more register found = name_stays known more register (within known.registers (register_name_in known register) register found)

-- ---- an expression is written alike

module _ (known : Known) (more : List (List ℕ)) where
  alike : (level : ℕ) (f : Phrase) → IsWritablePhrase known f → printed_phrase (extended known more) level f ≡ printed_phrase known level f
  unfolding printed_phrase
  alike level (Constant value) h = refl
  alike level (OfRegister register) h = ap (λ (n : List ℕ). name n ∷ []) (found_stays known more register h)
  alike level (Pointed location) h = refl
  alike level (Signed operator operand) h = ap (λ (ts : List Spelled). in_parentheses (nat_lt 11 level) (sign (unary_sign operator) ∷ ts)) (alike 11 operand h)
  alike level (Between operator left right) h =
      ap (λ (ts : List Spelled). in_parentheses (nat_lt (binds operator) level) (ts ++ (sign (binary_sign operator) ∷ printed_phrase (extended known more) (binds operator + 1) right))) (alike (binds operator) left h.0)
      ∙ ap (λ (ts : List Spelled). in_parentheses (nat_lt (binds operator) level) (printed_phrase known (binds operator) left ++ (sign (binary_sign operator) ∷ ts))) (alike (binds operator + 1) right h.1)
  alike level (Loaded location order) h = refl
  alike level (Exchanged location value order) h =
      ap (λ (ts : List Spelled). calling functions.Exchange true (codes "atomic_exchange_explicit") (location_token known location ∷ sign signs.Comma ∷ (ts ++ comma_order order closing))) (alike 1 value h.1)
  alike level (Fetched operator location value order) h =
      ap (λ (ts : List Spelled). calling (functions.Fetch operator) true (fetch_text operator) (location_token known location ∷ sign signs.Comma ∷ (ts ++ comma_order order closing))) (alike 1 value h.1)
  alike level (Compared strength location compared value success failure) h =
      ap (λ (ts : List Spelled). calling (functions.CompareExchange strength) true (compare_text strength)
      (location_token known location ∷ sign signs.Comma ∷ (ts ++ (sign signs.Comma ∷ (printed_phrase (extended known more) 1 value ++ comma_order success (comma_order failure closing)))))) (alike 1 compared h.1)
      ∙ ap (λ (ts : List Spelled). calling (functions.CompareExchange strength) true (compare_text strength)
      (location_token known location ∷ sign signs.Comma ∷ (printed_phrase known 1 compared ++ (sign signs.Comma ∷ (ts ++ comma_order success (comma_order failure closing)))))) (alike 1 value h.2)
  alike level (ComparedRegister strength location register value success failure) h =
      ap (λ (n : List ℕ). calling (functions.CompareExchange strength) true (compare_text strength)
      (location_token known location ∷ sign signs.Comma ∷ sign signs.Ampersand ∷ name n ∷ sign signs.Comma ∷ (printed_phrase (extended known more) 1 value ++ comma_order success (comma_order failure closing)))) (found_stays known more register h.1)
      ∙ ap (λ (ts : List Spelled). calling (functions.CompareExchange strength) true (compare_text strength)
      (location_token known location ∷ sign signs.Comma ∷ sign signs.Ampersand ∷ name (register_name_in known register) ∷ sign signs.Comma ∷ (ts ++ comma_order success (comma_order failure closing)))) (alike 1 value h.2)
  alike level (ComparedPlain strength location plain value success failure) h =
      ap (λ (ts : List Spelled). calling (functions.CompareExchange strength) true (compare_text strength)
      (location_token known location ∷ sign signs.Comma ∷ location_token known plain ∷ sign signs.Comma ∷ (ts ++ comma_order success (comma_order failure closing)))) (alike 1 value h.2)
  alike level (Tried mutex) h = refl

pub written_alike : (early late : Known) → Extends early late → (level : ℕ) (f : Phrase) → IsWritablePhrase early f → printed_phrase late level f ≡ printed_phrase early level f
written_alike early late e level f h = ap (λ (k : Known). printed_phrase k level f) e.1 ∙ alike early e.0 level f h

-- ---- an expression that was read is read again

pub expression_again : (early late : Known) → Extends early late → (left : Left) (read : Phrase × Left) → expression_at early left ≡ Some read
    → (c : ℕ) (behind : List Spelled) → is_next signs.OpenParenthesis (behind, 0) ≡ false → operator_at 1 (behind, 0) ≡ None
    → expression_at early (printed_phrase late 1 read.0 ++ behind, c) ≡ Some (read.0, (behind, operators read.0))
expression_again early late e left read h c behind off last =
    let can = expression_can_be_read early left read h in
    ap (λ (ts : List Spelled). expression_at early (ts ++ behind, c)) (written_alike early late e 1 read.0 can.writable) ∙ expressions_read_back early read.0 behind c can off last
