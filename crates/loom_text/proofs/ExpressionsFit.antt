-- What is read of an expression can be written so that it is read again.
use Rattle.std.proofs.Common.{◌≡◌, ℕ, ℤ, pos, zero, suc, ◌+◌, ◌≤◌, ◌<◌, ◌^◌, ◌⊎◌, nat_lt, List, Bool, true, false, Option, Some, None, Result, Ok, Err, IfOk, cond, codes, refl, sym, ap, subst, ◌∙◌, inl, inr, arith}
use Rattle.std.proofs.lemmas.Bool.{cases_Bool, and_parts, lt-ltb, le-ltb, ltb-true, ltb-false, eqb-true}
use Rattle.std.proofs.lemmas.List.Quantifiers.{position-Some}
use Rattle.std.proofs.lemmas.Option.{cond_some, none-some, same_Some, slice_get_cases}
use Rattle.std.proofs.lemmas.Slice.Eq.{bytes_eq-Decides}
use Rattle.std.specs.Int.{from_bool}
use Rattle.std.specs.List.{position}
use Rattle.std.specs.Option.{option_and_then, option_flatten, option_map, unwrap_or}
use Rattle.std.specs.declared.sync.atomic.Ordering.{Ordering}
use Rattle.std.specs.declared.sync.atomic.Ordering.TheVariants as orders
use Rattle.loom_text.specs.contracts.read.symbol.SymbolPartialEq.TheImpl as same_signs
use Rattle.loom_text.specs.contracts.read.token.TokenKindPartialEq.TheImpl as same
use Rattle.loom_text.specs.contracts.test.KindPartialEq.TheImpl as same_kinds
use Rattle.loom_text.specs.declared.read.lexer.TheConstants.{LARGEST_NUMBER}
use Rattle.loom_text.specs.declared.read.stop.Stop.{Stop}
use Rattle.loom_text.specs.declared.read.symbol.Symbol.{Symbol}
use Rattle.loom_text.specs.declared.read.symbol.Symbol.TheVariants as signs
use Rattle.loom_text.specs.declared.read.token.TokenKind.{TokenKind}
use Rattle.loom_text.specs.declared.read.token.TokenKind.TheVariants as kinds
use Rattle.loom_text.specs.declared.read.word.Function.{Function}
use Rattle.loom_text.specs.declared.read.word.Function.TheVariants as functions
use Rattle.loom_text.specs.declared.read.word.Word.TheVariants as words
use Rattle.loom_text.specs.declared.test.BinaryOperator.{BinaryOperator}
use Rattle.loom_text.specs.declared.test.Expression.{Expression}
use Rattle.loom_text.specs.declared.test.FetchOperator.{FetchOperator}
use Rattle.loom_text.specs.declared.test.Kind.{Kind}
use Rattle.loom_text.specs.declared.test.Kind.TheVariants as location_kinds
use Rattle.loom_text.specs.declared.test.Strength.{Strength}
use Rattle.loom_text.specs.declared.test.UnaryOperator.{UnaryOperator}
use Rattle.loom_text.specs.Expressions.{Phrase, Constant, OfRegister, Pointed, Signed, Between, Loaded, Exchanged, Fetched, Compared, ComparedRegister, ComparedPlain, Tried, Comparand, ByValue, ByRegister, ByPlain, Readers, argument_at, arguments_at, arguments_of, begin_arguments_at, binds, by_operator, by_value, call_at, compare_exchange_at, compared_at, comparing, enclosed_with, end_arguments_at, exchange_at, expression_at, fetch_at, first_location_at, for_a_load, inside, is_least, load_order_at, location_at, many_with, next_argument_at, one_from, one_with, operator_at, operator_from, operators_at, order_at, order_from, parameter_named, phrase, plain_at, pointed_at, primary_from, primary_with, readers, register_from, signed_as, signed_with}
use Rattle.loom_text.specs.Known.{Known, Located, has_name, name_of, named_in, number_of, numbered, parameter_in, parameter_numbered}
use Rattle.loom_text.specs.Phrases.{IsAtomic, IsConstant, IsFoundRegister, IsWritablePhrase, PhraseCanBeRead, operators, phrase_depth, register_name_in}
use Rattle.loom_text.specs.Spelling.{operator_of, unary_of}
use Rattle.loom_text.specs.Tokens.{Gives, Left, ◌>>=◌, after_sign, constant_at, counted, is_next, name_at, negated, next, number_at, passed, value_of}
use Rattle.loom_text.proofs.ConditionsFit.{after_sign_counts, bind_some, else_some, name_counts}
use Rattle.loom_text.proofs.ExpressionsAgain.{bounds}
use Rattle.loom_text.proofs.ExpressionSteps.{many_is}
use Rattle.loom_text.proofs.NameLemmas.{named_so}

-- ---- what is known of what was read, at this level and depth, behind so many operators
pub record Fits (scope : Known) (level d c : ℕ) (f : Phrase) (n : ℕ) : Type 0 where
  pub shallow : phrase_depth level f ≤ d
  pub count : n ≡ c + operators f
  pub few : c ≤ 256 → n ≤ 256
  pub writable : IsWritablePhrase scope f

-- ---- operators

-- the operator that was found binds so strongly, and no more strongly than one may that is found
found_as : (lowest : ℕ) (o : Option BinaryOperator) (operator : BinaryOperator) → (o >>= λ operator. cond (nat_lt (binds operator) lowest) None (Some operator)) ≡ Some operator → (o ≡ Some operator) × (lowest ≤ binds operator)
found_as lowest None operator h = absurd (none-some operator h)
found_as lowest (Some found) operator h = elim (cases_Bool (nat_lt (binds found) lowest)) [
  | inl e ↦ absurd (none-some operator (rw e at h))
  | inr e ↦
      let same : found ≡ operator = same_Some found operator (rw e at h) in
      let strong = ltb-false (binds found) lowest e in
      (ap (λ (x : BinaryOperator). Some x) same, subst (λ (x : BinaryOperator). lowest ≤ binds x) same strong)
]

not_above : (high : ℕ) (o : Option BinaryOperator) (operator : BinaryOperator) → o ≡ Some operator → (o >>= λ operator. cond (nat_lt (binds operator) high) None (Some operator)) ≡ None → binds operator < high
not_above high o operator is none =
    let h : cond (nat_lt (binds operator) high) None (Some operator) ≡ None =
    sym (ap (λ (x : Option BinaryOperator). x >>= λ operator. cond (nat_lt (binds operator) high) None (Some operator)) is) ∙ none in
    elim (cases_Bool (nat_lt (binds operator) high)) [
      | inl e ↦ ltb-true (binds operator) high e
      | inr e ↦ absurd (none-some operator (sym (rw e at h)))
    ]

-- the sign that is next, as an operator
abbrev sign_of : TokenKind → Option BinaryOperator
sign_of (kinds.Symbol symbol) = operator_of symbol
sign_of kinds.TestName = None
sign_of kinds.Name = None
sign_of (kinds.Word w) = None
sign_of (kinds.Number n) = None
sign_of (kinds.Wrong problem) = None
sign_of kinds.End = None

abbrev if_as_strong : ℕ → BinaryOperator → Option BinaryOperator
if_as_strong lowest operator = cond (nat_lt (binds operator) lowest) None (Some operator)

from_sign : (lowest : ℕ) (kind : TokenKind) → operator_from lowest kind ≡ (sign_of kind >>= λ operator. if_as_strong lowest operator)
from_sign lowest (kinds.Symbol symbol) = refl
from_sign lowest kinds.TestName = refl
from_sign lowest kinds.Name = refl
from_sign lowest (kinds.Word w) = refl
from_sign lowest (kinds.Number n) = refl
from_sign lowest (kinds.Wrong problem) = refl
from_sign lowest kinds.End = refl

operator_is : (lowest : ℕ) (left : Left) → operator_at lowest left ≡ (sign_of (next left).0 >>= λ operator. if_as_strong lowest operator)
unfolding operator_at
operator_is lowest left = from_sign lowest (next left).0

-- the operator that is found where none was found that binds more strongly than so
next_operator : (lowest high : ℕ) (left : Left) (operator : BinaryOperator) → operator_at lowest left ≡ Some operator → operator_at high left ≡ None → (lowest ≤ binds operator) × (binds operator < high)
next_operator lowest high left operator h none =
    let found = found_as lowest (sign_of (next left).0) operator (sym (operator_is lowest left) ∙ h) in
    (found.1, not_above high (sign_of (next left).0) operator found.0 (sym (operator_is high left) ∙ none))

-- ---- operators that are joined

-- what a reader of operators gives, from this strength on
abbrev Whole : Known → ℕ → ℕ → Left → Phrase × Left → Type 0
Whole scope level d left x = Fits scope level d left.1 x.0 x.1.1 × (operator_at level x.1 ≡ None)

-- ---- what the readers one deeper give

pub record InnerFits (scope : Known) (d : ℕ) (r : Readers) : Type 0 where
  pub one : (left : Left) (x : Phrase × Left) → r.one left ≡ Some x → Fits scope 11 d left.1 x.0 x.1.1
  pub many : (level : ℕ) (left : Left) (x : Phrase × Left) → level ≤ 11 → r.many level left ≡ Some x → Whole scope level d left x

-- where there are some
abbrev InnerOf : Known → ℕ → Option Readers → Type 0
InnerOf scope d o = (r : Readers) → o ≡ Some r → (e : ℕ) × (d ≡ suc e) × InnerFits scope e r

-- ---- names

pub when_some : {A : Type 0} (b : Bool) (o : Option A) (y : A) → cond b o None ≡ Some y → (b ≡ true) × (o ≡ Some y)
when_some true o y h = (refl, h)
when_some false o y h = absurd (none-some y h)

pub register_spelled : (scope : Known) (spelling : List ℕ) (n : ℕ) → named_in scope.registers spelling ≡ Some n → register_name_in scope n ≡ spelling
register_spelled scope spelling n h = named_so scope.registers spelling n h

register_found : (scope : Known) (spelling : List ℕ) (n : ℕ) → named_in scope.registers spelling ≡ Some n → IsFoundRegister scope n
register_found scope spelling n h = subst (λ (s : List ℕ). named_in scope.registers s ≡ Some n) (sym (register_spelled scope spelling n h)) h

-- a parameter's name leads to it
location_spelled : (locations : List (Option Located)) (spelling : List ℕ) (found : ℕ × Kind) → parameter_in locations spelling ≡ Some found → name_of locations found.0 ≡ spelling
location_spelled locations spelling found h = there (position (has_name spelling) locations) refl h
  where
    named : (n : ℕ) (l : Option Located) → parameter_numbered locations n ≡ l → has_name spelling l ≡ true → numbered n l ≡ Some found → name_of locations found.0 ≡ spelling
    named n None e passes is = absurd (none-some found is)
    named n (Some l) e passes is =
        let same : n ≡ found.0 = ap (λ (x : ℕ × Kind). x.0) (same_Some (n, l.kind) found is) in
        subst (λ (m : ℕ). name_of locations m ≡ spelling) same
        (ap (λ (o : Option Located). unwrap_or (option_map (λ (l : Located). l.name) o) (codes "?")) e ∙ (bytes_eq-Decides l.name spelling).0 passes)

    there : (o : Option ℕ) → position (has_name spelling) locations ≡ o → option_and_then (λ n. numbered n (parameter_numbered locations n)) o ≡ Some found → name_of locations found.0 ≡ spelling
    there None e is = absurd (none-some found is)
    there (Some n) e is = elim (slice_get_cases locations n).1 [
      | inl (l, lt, e', here) ↦
          let passes = (position-Some (has_name spelling) locations n l e).1 in
          named n l (ap (λ (o : Option (Option Located)). option_flatten o) e') (ap (λ (x : Option Located). has_name spelling x) (sym here) ∙ passes)
          (ap (λ (o : Option (Option Located)). numbered n (option_flatten o)) (sym e') ∙ is)
      | inr (le, e') ↦ absurd (none-some found (sym (ap (λ (o : Option (Option Located)). numbered n (option_flatten o)) e') ∙ is))
    ]

parameter_found : (scope : Known) (kind : Kind) (spelling : List ℕ) (n : ℕ) → parameter_named scope kind spelling ≡ Some n → parameter_named scope kind (name_of scope.locations n) ≡ Some n
parameter_found scope kind spelling n h =
    let spelled = there (parameter_in scope.locations spelling) refl (else_some _ _ n h).1 in
    subst (λ (s : List ℕ). parameter_named scope kind s ≡ Some n) (sym spelled) h
  where
    there : (o : Option (ℕ × Kind)) → parameter_in scope.locations spelling ≡ o → number_of kind o ≡ Some n → name_of scope.locations n ≡ spelling
    there None p q = absurd (none-some n q)
    there (Some found) p q =
        let same = (cond_some ((same_kinds.ghosts).eq found.1 kind) found.0 n q).1 in
        subst (λ (m : ℕ). name_of scope.locations m ≡ spelling) same (location_spelled scope.locations spelling found p)

pub register_read : (scope : Known) (name : List ℕ) (left : Left) (n : ℕ) → register_from scope name left ≡ Some n → IsFoundRegister scope n
register_read scope name left n h = register_found scope name n (else_some _ _ n h).1

-- ---- arguments: none counts an operator

pub location_fits : (scope : Known) (kind : Kind) (left : Left) (x : ℕ × Left) → location_at scope kind left ≡ Some x → (x.1.1 ≡ left.1) × (parameter_named scope kind (name_of scope.locations x.0) ≡ Some x.0)
unfolding location_at
location_fits scope kind left x h =
    bind_some (name_at left) _ x (else_some _ _ x h).1 (λ name p q.
    bind_some (parameter_named scope kind name.0) _ x q (λ n p' q'.
    let e = same_Some (n, name.1) x q' in
    let P : ℕ × Left → Type 0 = λ y. (y.1.1 ≡ left.1) × (parameter_named scope kind (name_of scope.locations y.0) ≡ Some y.0) in
    subst P e (name_counts left name p, parameter_found scope kind name.0 n p')))

begin_counts : (count : ℕ) (left behind : Left) → begin_arguments_at count left ≡ Some behind → behind.1 ≡ left.1
unfolding begin_arguments_at
begin_counts count left behind h =
    bind_some (after_sign signs.OpenParenthesis left) _ behind h (λ l p q.
    sym (ap (λ (y : Left). y.1) (same_Some l behind (else_some _ _ behind q).1)) ∙ after_sign_counts signs.OpenParenthesis left l p)

pub first_fits : (scope : Known) (count : ℕ) (kind : Kind) (left : Left) (x : ℕ × Left) → first_location_at scope count kind left ≡ Some x
    → (x.1.1 ≡ left.1) × (parameter_named scope kind (name_of scope.locations x.0) ≡ Some x.0)
unfolding first_location_at
first_fits scope count kind left x h =
    bind_some (begin_arguments_at count left) _ x h (λ l p q.
    let found = location_fits scope kind l x q in
    (found.0 ∙ begin_counts count left l p, found.1))

next_counts : (left behind : Left) → next_argument_at left ≡ Some behind → behind.1 ≡ left.1
unfolding next_argument_at
next_counts left behind h = after_sign_counts signs.Comma left behind (else_some _ _ behind h).1

end_counts : (left behind : Left) → end_arguments_at left ≡ Some behind → behind.1 ≡ left.1
unfolding end_arguments_at
end_counts left behind h = after_sign_counts signs.CloseParenthesis left behind (else_some _ _ behind h).1

order_from_counts : (kind : TokenKind) (left : Left) (x : Ordering × Left) → order_from kind left ≡ Some x → x.1.1 ≡ left.1
order_from_counts (kinds.Word (words.Order order)) left x h = sym (ap (λ (y : Ordering × Left). y.1.1) (same_Some (order, left) x h))
order_from_counts _ left x h = absurd (none-some x h)

order_counts : (explicit : Bool) (left : Left) (x : Ordering × Left) → order_at explicit left ≡ Some x → x.1.1 ≡ left.1
unfolding order_at
order_counts false left x h = sym (ap (λ (y : Ordering × Left). y.1.1) (same_Some (orders.SeqCst, left) x h))
order_counts true left x h =
    bind_some (next_argument_at left) _ x h (λ l p q. order_from_counts (next l).0 (passed l) x q ∙ next_counts left l p)

load_order_fits : (explicit : Bool) (left : Left) (x : Ordering × Left) → load_order_at explicit left ≡ Some x → (x.1.1 ≡ left.1) × (for_a_load x.0 ≡ true)
unfolding load_order_at
load_order_fits explicit left x h =
    bind_some (order_at explicit left) _ x h (λ order p q.
    let some = cond_some (for_a_load order.0) order x q in
    let P : Ordering × Left → Type 0 = λ y. (y.1.1 ≡ left.1) × (for_a_load y.0 ≡ true) in
    subst P some.1 (order_counts explicit left order p, some.0))

module _ (scope : Known) (d : ℕ) (r : Readers) (inner : InnerFits scope d r) where
  argument_fits : (left : Left) (x : Phrase × Left) → argument_at r left ≡ Some x → Fits scope 1 d left.1 x.0 x.1.1
  unfolding argument_at
  argument_fits left x h =
      bind_some (next_argument_at left) _ x h (λ l p q.
      let whole = (inner.many 1 l x (omega arith) q).0 in
      let same = next_counts left l p in
      record {
        shallow = whole.shallow;
        count = omega (arith, whole.count, same);
        few = λ small. whole.few (omega (arith, small, same));
        writable = whole.writable;
      })

  exchange_fits : (count : ℕ) (explicit : Bool) (left : Left) (x : Phrase × Left) → exchange_at scope r count explicit left ≡ Some x → Fits scope 11 (suc d) left.1 x.0 x.1.1
  unfolding exchange_at
  exchange_fits count explicit left x h =
      bind_some (first_location_at scope count location_kinds.Atomic left) _ x h (λ location p q.
      bind_some (argument_at r location.1) _ x q (λ value p' q'.
      bind_some (order_at explicit value.1) _ x q' (λ order p'' q''.
      let first = first_fits scope count location_kinds.Atomic left location p in
      let v = argument_fits location.1 value p' in
      let last = order_counts explicit value.1 order p'' in
      let P : Phrase × Left → Type 0 = λ y. Fits scope 11 (suc d) left.1 y.0 y.1.1 in
      subst P (same_Some (Exchanged location.0 value.0 order.0, order.1) x q'') (record {
        shallow = omega (arith, v.shallow);
        count = omega (arith, last, v.count, first.0);
        few = λ small. let n = v.few (omega (arith, small, first.0)) in omega (arith, n, last);
        writable = (first.1, v.writable);
      }))))

  fetch_fits : (operator : FetchOperator) (count : ℕ) (explicit : Bool) (left : Left) (x : Phrase × Left) → fetch_at scope r operator count explicit left ≡ Some x → Fits scope 11 (suc d) left.1 x.0 x.1.1
  unfolding fetch_at
  fetch_fits operator count explicit left x h =
      bind_some (first_location_at scope count location_kinds.Atomic left) _ x h (λ location p q.
      bind_some (argument_at r location.1) _ x q (λ value p' q'.
      bind_some (order_at explicit value.1) _ x q' (λ order p'' q''.
      let first = first_fits scope count location_kinds.Atomic left location p in
      let v = argument_fits location.1 value p' in
      let last = order_counts explicit value.1 order p'' in
      let P : Phrase × Left → Type 0 = λ y. Fits scope 11 (suc d) left.1 y.0 y.1.1 in
      subst P (same_Some (Fetched operator location.0 value.0 order.0, order.1) x q'') (record {
        shallow = omega (arith, v.shallow);
        count = omega (arith, last, v.count, first.0);
        few = λ small. let n = v.few (omega (arith, small, first.0)) in omega (arith, n, last);
        writable = (first.1, v.writable);
      }))))

  -- what a compare-exchange compares with
  abbrev ComparandFits : ℕ → Comparand → ℕ → Type 0
  ComparandFits c (ByValue value) n = Fits scope 1 d c value n
  ComparandFits c (ByRegister register) n = (n ≡ c) × IsFoundRegister scope register
  ComparandFits c (ByPlain plain) n = (n ≡ c) × (parameter_named scope location_kinds.Plain (name_of scope.locations plain) ≡ Some plain)

  by_value_fits : (pointer : Option ℕ) (left : Left) (x : Comparand × Left) → plain_at scope left ≡ pointer → by_value r pointer left ≡ Some x → ComparandFits left.1 x.0 x.1.1
  unfolding plain_at
  by_value_fits (Some plain) left x e h =
      let P : Comparand × Left → Type 0 = λ y. ComparandFits left.1 y.0 y.1.1 in
      subst P (same_Some (ByPlain plain, passed left) x h) (refl, parameter_found scope location_kinds.Plain (next left).1 plain (when_some _ _ plain e).1)
  by_value_fits None left x e h =
      bind_some (r.many 1 left) _ x h (λ value p q.
      let P : Comparand × Left → Type 0 = λ y. ComparandFits left.1 y.0 y.1.1 in
      subst P (same_Some (ByValue value.0, value.1) x q) (inner.many 1 left value (omega arith) p).0)

  compared_fits : (left : Left) (x : Comparand × Left) → compared_at scope r left ≡ Some x → ComparandFits left.1 x.0 x.1.1
  unfolding compared_at
  compared_fits left x h =
      bind_some (next_argument_at left) _ x h (λ l p q.
      subst (λ (n : ℕ). ComparandFits n x.0 x.1.1) (next_counts left l p) (elim (cases_Bool (is_next signs.Ampersand l)) [
        | inl e ↦ bind_some (name_at (passed l)) _ x (rw e at q) (λ name p' q'.
            bind_some (register_from scope name.0 name.1) _ x q' (λ register p'' q''.
            let P : Comparand × Left → Type 0 = λ y. ComparandFits l.1 y.0 y.1.1 in
            subst P (same_Some (ByRegister register, name.1) x q'') (name_counts (passed l) name p', register_read scope name.0 name.1 register p'')))
        | inr e ↦ by_value_fits (plain_at scope l) l x refl (rw e at q)
      ]))

  -- with a value, and orders
  comparing_fits : (strength : Strength) (location : ℕ) (compared : Comparand) (value : Phrase) (success failure : Ordering) (c m n : ℕ) → IsAtomic scope location → ComparandFits c compared m → Fits scope 1 d m value n
      → for_a_load failure ≡ true → Fits scope 11 (suc d) c (comparing strength location compared value success failure) n
  comparing_fits strength location (ByValue first) value success failure c m n found f v ok = record {
    shallow = omega (arith, f.shallow, v.shallow);
    count = omega (arith, f.count, v.count);
    few = λ small. v.few (f.few small);
    writable = (found, f.writable, v.writable, ok);
  }
  comparing_fits strength location (ByRegister register) value success failure c m n found f v ok = record {
    shallow = omega (arith, v.shallow);
    count = omega (arith, f.0, v.count);
    few = λ small. v.few (omega (arith, small, f.0));
    writable = (found, f.1, v.writable, ok);
  }
  comparing_fits strength location (ByPlain plain) value success failure c m n found f v ok = record {
    shallow = omega (arith, v.shallow);
    count = omega (arith, f.0, v.count);
    few = λ small. v.few (omega (arith, small, f.0));
    writable = (found, f.1, v.writable, ok);
  }

  -- where nothing else was counted
  moved : (level e c c' n n' : ℕ) (f : Phrase) → c ≡ c' → n ≡ n' → Fits scope level e c f n → Fits scope level e c' f n'
  moved level e c c' n n' f p q h = subst (λ (c : ℕ). Fits scope level e c f n') p (subst (λ (n : ℕ). Fits scope level e c f n) q h)

  compare_exchange_fits : (strength : Strength) (count : ℕ) (explicit : Bool) (left : Left) (x : Phrase × Left) → compare_exchange_at scope r strength count explicit left ≡ Some x → Fits scope 11 (suc d) left.1 x.0 x.1.1
  unfolding compare_exchange_at
  compare_exchange_fits strength count explicit left x h =
      bind_some (first_location_at scope count location_kinds.Atomic left) _ x h (λ location p q.
      bind_some (compared_at scope r location.1) _ x q (λ compared p' q'.
      bind_some (argument_at r compared.1) _ x q' (λ value p'' q''.
      bind_some (order_at explicit value.1) _ x q'' (λ success p3 q3.
      bind_some (load_order_at explicit success.1) _ x q3 (λ failure p4 q4.
      let first = first_fits scope count location_kinds.Atomic left location p in
      let found = compared_fits location.1 compared p' in
      let v = argument_fits compared.1 value p'' in
      let last = load_order_fits explicit success.1 failure p4 in
      let whole = comparing_fits strength location.0 compared.0 value.0 success.0 failure.0 location.1.1 compared.1.1 value.1.1 first.1 found v last.1 in
      let P : Phrase × Left → Type 0 = λ y. Fits scope 11 (suc d) left.1 y.0 y.1.1 in
      subst P (same_Some (comparing strength location.0 compared.0 value.0 success.0 failure.0, failure.1) x q4)
      (moved 11 (suc d) location.1.1 left.1 value.1.1 failure.1.1 (comparing strength location.0 compared.0 value.0 success.0 failure.0) first.0 (sym (last.0 ∙ order_counts explicit value.1 success p3)) whole))))))

  pub call_fits : (function : Function) (count : ℕ) (explicit : Bool) (left : Left) (x : Phrase × Left) → arguments_at scope r function count explicit left ≡ Some x → Fits scope 11 (suc d) left.1 x.0 x.1.1
  call_fits functions.Load count explicit left x h =
      bind_some (first_location_at scope count location_kinds.Atomic left) _ x h (λ location p q.
      bind_some (load_order_at explicit location.1) _ x q (λ order p' q'.
      let first = first_fits scope count location_kinds.Atomic left location p in
      let last = load_order_fits explicit location.1 order p' in
      let P : Phrase × Left → Type 0 = λ y. Fits scope 11 (suc d) left.1 y.0 y.1.1 in
      subst P (same_Some (Loaded location.0 order.0, order.1) x q') (record {
        shallow = omega arith;
        count = omega (arith, last.0, first.0);
        few = λ small. omega (arith, small, last.0, first.0);
        writable = (first.1, last.1);
      })))
  call_fits functions.Exchange count explicit left x h = exchange_fits count explicit left x h
  call_fits (functions.Fetch operator) count explicit left x h = fetch_fits operator count explicit left x h
  call_fits (functions.CompareExchange strength) count explicit left x h = compare_exchange_fits strength count explicit left x h
  call_fits functions.TryLock count explicit left x h =
      bind_some (first_location_at scope count location_kinds.Mutex left) _ x h (λ location p q.
      let first = first_fits scope count location_kinds.Mutex left location p in
      let P : Phrase × Left → Type 0 = λ y. Fits scope 11 (suc d) left.1 y.0 y.1.1 in
      subst P (same_Some (Tried location.0, location.1) x q) (record {
        shallow = omega arith;
        count = omega (arith, first.0);
        few = λ small. omega (arith, small, first.0);
        writable = first.1;
      }))
  call_fits functions.Store count explicit left x h = absurd (none-some x h)
  call_fits functions.Fence count explicit left x h = absurd (none-some x h)
  call_fits functions.Lock count explicit left x h = absurd (none-some x h)
  call_fits functions.Unlock count explicit left x h = absurd (none-some x h)
  call_fits functions.Wait count explicit left x h = absurd (none-some x h)
  call_fits functions.Signal count explicit left x h = absurd (none-some x h)
  call_fits functions.Broadcast count explicit left x h = absurd (none-some x h)
  call_fits functions.Yield count explicit left x h = absurd (none-some x h)
  call_fits functions.Assert count explicit left x h = absurd (none-some x h)

  whole_call_fits : (function : Function) (explicit : Bool) (left : Left) (x : Phrase × Left) → call_at scope r function explicit left ≡ Some x → Fits scope 11 (suc d) left.1 x.0 x.1.1
  unfolding call_at
  whole_call_fits function explicit left x h =
      bind_some (arguments_at scope r function (arguments_of function explicit) explicit left) _ x h (λ call p q.
      bind_some (end_arguments_at call.1) _ x q (λ l p' q'.
      let P : Phrase × Left → Type 0 = λ y. Fits scope 11 (suc d) left.1 y.0 y.1.1 in
      subst P (same_Some (call.0, l) x q')
      (moved 11 (suc d) left.1 left.1 call.1.1 l.1 call.0 refl (sym (end_counts call.1 l p')) (call_fits function (arguments_of function explicit) explicit left call p))))

  -- in parentheses it may be deeper by one
  enclosed_depth : (f : Phrase) → phrase_depth 11 f ≤ 1 + phrase_depth 1 f
  enclosed_depth (Between operator left right) =
      let bound = bounds operator in
      rw (lt-ltb (binds operator) 11 (omega (arith, bound)), le-ltb (binds operator) 1 bound.0) (omega arith)
  enclosed_depth (Signed operator operand) = omega arith
  enclosed_depth (Constant value) = omega arith
  enclosed_depth (OfRegister register) = omega arith
  enclosed_depth (Pointed location) = omega arith
  enclosed_depth (Loaded location order) = omega arith
  enclosed_depth (Exchanged location value order) = omega arith
  enclosed_depth (Fetched operator location value order) = omega arith
  enclosed_depth (Compared strength location compared value success failure) = omega arith
  enclosed_depth (ComparedRegister strength location register value success failure) = omega arith
  enclosed_depth (ComparedPlain strength location plain value success failure) = omega arith
  enclosed_depth (Tried mutex) = omega arith

  enclosed_fits : (left : Left) (x : Phrase × Left) → enclosed_with (Some r) left ≡ Some x → Fits scope 11 (suc d) left.1 x.0 x.1.1
  unfolding enclosed_with
  enclosed_fits left x h =
      bind_some (r.many 1 left) _ x (else_some _ _ x h).1 (λ read p q.
      bind_some (after_sign signs.CloseParenthesis read.1) _ x q (λ l p' q'.
      let whole = (inner.many 1 left read (omega arith) p).0 in
      let less = enclosed_depth read.0 in
      let same = after_sign_counts signs.CloseParenthesis read.1 l p' in
      let P : Phrase × Left → Type 0 = λ y. Fits scope 11 (suc d) left.1 y.0 y.1.1 in
      subst P (same_Some (read.0, l) x q') (record {
        shallow = omega (arith, whole.shallow, less);
        count = same ∙ whole.count;
        few = λ small. let n = whole.few small in omega (arith, n, same);
        writable = whole.writable;
      })))

  signed_fits : (operator : UnaryOperator) (left : Left) (x : Phrase × Left) → signed_as (Some r) operator left ≡ Some x → Fits scope 11 (suc d) left.1 x.0 x.1.1
  unfolding signed_as
  signed_fits operator left x h =
      bind_some (r.one (passed left)) _ x h (λ operand p q.
      let whole = inner.one (passed left) operand p in
      let P : Phrase × Left → Type 0 = λ y. Fits scope 11 (suc d) left.1 y.0 y.1.1 in
      subst P (same_Some (Signed operator operand.0, operand.1) x q) (record {
        shallow = omega (arith, whole.shallow);
        count = whole.count;
        few = whole.few;
        writable = whole.writable;
      }))

-- ---- operators that are joined

-- in parentheses it is deepest
less_deep : (f : Phrase) (level : ℕ) → level ≤ 11 → phrase_depth level f ≤ phrase_depth 11 f
less_deep (Between operator left right) level le =
    let bound = bounds operator in
    rw (lt-ltb (binds operator) 11 (omega (arith, bound))) (elim (cases_Bool (nat_lt (binds operator) level)) [
      | inl e ↦ rw e (omega arith)
      | inr e ↦ rw e (omega arith)
    ])
less_deep (Signed operator operand) level le = rw (le-ltb 11 level le) (omega arith)
less_deep (Constant value) level le = omega arith
less_deep (OfRegister register) level le = omega arith
less_deep (Pointed location) level le = omega arith
less_deep (Loaded location order) level le = omega arith
less_deep (Exchanged location value order) level le = omega arith
less_deep (Fetched operator location value order) level le = omega arith
less_deep (Compared strength location compared value success failure) level le = omega arith
less_deep (ComparedRegister strength location register value success failure) level le = omega arith
less_deep (ComparedPlain strength location plain value success failure) level le = omega arith
less_deep (Tried mutex) level le = omega arith

none_of_them : (o : Option BinaryOperator) → (o >>= λ operator. if_as_strong 12 operator) ≡ None
none_of_them None = refl
none_of_them (Some operator) = let bound = bounds operator in ap (λ (b : Bool). cond b None (Some operator)) (lt-ltb (binds operator) 12 (omega (arith, bound)))

none_so_strong : (left : Left) → operator_at 12 left ≡ None
none_so_strong left = operator_is 12 left ∙ none_of_them (sign_of (next left).0)

module _ (scope : Known) (lowest d : ℕ) (o : Option Readers) (inner : InnerOf scope d o) where
  -- with so many operators at most; `strong` is how strongly the next one may bind
  abbrev Joined : ℕ → Type 0
  Joined n = (c strong : ℕ) (f : Phrase) (left : Left) (x : Phrase × Left) → lowest ≤ strong → ((level : ℕ) → level ≤ strong → phrase_depth level f ≤ d)
      → Fits scope lowest d c f left.1 → operator_at (strong + 1) left ≡ None → operators_at o lowest n f left ≡ Some x → Fits scope lowest d c x.0 x.1.1 × (operator_at lowest x.1 ≡ None)

  joined_depth : (operator : BinaryOperator) (f r : Phrase) (e level : ℕ) → level ≤ binds operator → phrase_depth (binds operator) f ≤ d → phrase_depth (binds operator + 1) r ≤ e → d ≡ suc e
      → phrase_depth level (Between operator f r) ≤ d
  joined_depth operator f r e level le first second is = rw (le-ltb (binds operator) level le) (omega (arith, first, second, is))

  another : (n : ℕ) → Joined n → (c strong : ℕ) (f : Phrase) (left : Left) (x : Phrase × Left) (operator : BinaryOperator) → operator_at lowest left ≡ Some operator → ((level : ℕ) → level ≤ strong → phrase_depth level f ≤ d)
      → Fits scope lowest d c f left.1 → operator_at (strong + 1) left ≡ None → by_operator o (operators_at o lowest n) f (Some operator) left ≡ Some x → Fits scope lowest d c x.0 x.1.1 × (operator_at lowest x.1 ≡ None)
  another n again c strong f left x operator e shallow fits none h =
      bind_some (counted left) _ x h (λ l p q.
      bind_some o _ x q (λ r p' q'.
      bind_some (r.many (binds operator + 1) (passed l)) _ x q' (λ right p'' q''.
      let between = next_operator lowest (strong + 1) left operator e none in
      let bound = bounds operator in
      let few = cond_some (nat_lt left.1 256) (left.0, left.1 + 1) l p in
      let below = ltb-true left.1 256 few.0 in
      let one : l.1 ≡ left.1 + 1 = sym (ap (λ (y : Left). y.1) few.1) in
      let within = inner r p' in
      let whole = within.2.many (binds operator + 1) (passed l) right (omega (arith, bound)) p'' in
      let first : phrase_depth (binds operator) f ≤ d = shallow (binds operator) (omega (arith, between)) in
      let joined : (level : ℕ) → level ≤ binds operator → phrase_depth level (Between operator f right.0) ≤ d =
      (λ level le. joined_depth operator f right.0 within.0 level le first whole.0.shallow within.1) in
      let more : Fits scope lowest d c (Between operator f right.0) right.1.1 = record {
        shallow = joined lowest between.0;
        count = omega (arith, fits.count, one, whole.0.count);
        few = λ small. whole.0.few (omega (arith, one, below));
        writable = (fits.writable, whole.0.writable);
      } in
      again c (binds operator) (Between operator f right.0) right.1 x between.0 joined more whole.1 q'')))

  one_step : (n : ℕ) → Joined n → (next : Option BinaryOperator) → (c strong : ℕ) (f : Phrase) (left : Left) (x : Phrase × Left) → operator_at lowest left ≡ next → ((level : ℕ) → level ≤ strong → phrase_depth level f ≤ d)
      → Fits scope lowest d c f left.1 → operator_at (strong + 1) left ≡ None → by_operator o (operators_at o lowest n) f next left ≡ Some x → Fits scope lowest d c x.0 x.1.1 × (operator_at lowest x.1 ≡ None)
  one_step n again None c strong f left x e shallow fits none h =
      let P : Phrase × Left → Type 0 = λ y. Fits scope lowest d c y.0 y.1.1 × (operator_at lowest y.1 ≡ None) in
      subst P (same_Some (f, left) x h) (fits, e)
  one_step n again (Some operator) c strong f left x e shallow fits none h = another n again c strong f left x operator e shallow fits none h

  joined_fits : (n : ℕ) → Joined n
  unfolding operators_at
  joined_fits zero c strong f left x low shallow fits none h = absurd (none-some x h)
  joined_fits (suc n) c strong f left x low shallow fits none h = one_step n (joined_fits n) (operator_at lowest left) c strong f left x refl shallow fits none h

  many_fits : ((left : Left) (x : Phrase × Left) → one_with scope o left ≡ Some x → Fits scope 11 d left.1 x.0 x.1.1) → lowest ≤ 11 → (left : Left) (x : Phrase × Left) → many_with scope o lowest left ≡ Some x
      → Whole scope lowest d left x
  unfolding many_with
  many_fits one small left x h =
      bind_some (one_with scope o left) _ x h (λ first p q.
      let fits = one left first p in
      let shallow : (level : ℕ) → level ≤ 11 → phrase_depth level first.0 ≤ d = (λ level le. let less = less_deep first.0 level le in omega (arith, less, fits.shallow)) in
      joined_fits 257 left.1 11 first.0 first.1 x small shallow (record { shallow = shallow lowest small; count = fits.count; few = fits.few; writable = fits.writable }) (none_so_strong first.1) q)

-- ---- one expression alone

-- a number without a minus
plain_constant : (left : Left) (n : ℕ) (x : ℤ × Left) → (next left).0 ≡ kinds.Number n → constant_at left ≡ Some x → (x.1.1 ≡ left.1) × IsConstant x.0
unfolding constant_at
plain_constant left n x e h =
    let positive : is_next signs.Minus left ≡ false = subst (λ (k : TokenKind). (same.ghosts).eq k (kinds.Symbol signs.Minus) ≡ false) (sym e) refl in
    let read : number_at false (next left).0 (passed left) ≡ Some x = rw positive at h in
    let digits : number_at false (kinds.Number n) (passed left) ≡ Some x = subst (λ (k : TokenKind). number_at false k (passed left) ≡ Some x) e read in
    bind_some (value_of n false) _ x digits (λ value p q.
    let small = cond_some (nat_lt n (2 ^ 31)) (pos n) value p in
    let P : ℤ × Left → Type 0 = λ y. (y.1.1 ≡ left.1) × IsConstant y.0 in
    subst P (same_Some (value, passed left) x q) (refl, subst IsConstant small.1 (ltb-true n (2 ^ 31) small.0)))

-- the least int
digits_least : (kind : TokenKind) (left : Left) (x : ℤ × Left) → (same.ghosts).eq kind (kinds.Number LARGEST_NUMBER) ≡ true → number_at true kind left ≡ Some x → (x.1.1 ≡ left.1) × IsConstant x.0
digits_least (kinds.Number n) left x l h =
    bind_some (value_of n true) _ x h (λ value p q.
    let is : n ≡ 2147483648 = eqb-true n 2147483648 l in
    let some = else_some (nat_lt (2 ^ 31) n) (Some (negated n)) value p in
    let v : negated n ≡ value = same_Some (negated n) value some.1 in
    let P : ℤ × Left → Type 0 = λ y. (y.1.1 ≡ left.1) × IsConstant y.0 in
    subst P (same_Some (value, left) x q) (refl, subst IsConstant v (subst (λ (m : ℕ). IsConstant (negated m)) (sym is) refl)))
digits_least (kinds.Symbol symbol) left x l h = absurd (none-some x h)
digits_least kinds.TestName left x l h = absurd (none-some x h)
digits_least kinds.Name left x l h = absurd (none-some x h)
digits_least (kinds.Word w) left x l h = absurd (none-some x h)
digits_least (kinds.Wrong problem) left x l h = absurd (none-some x h)
digits_least kinds.End left x l h = absurd (none-some x h)

least_constant : (left : Left) (symbol : Symbol) (x : ℤ × Left) → (next left).0 ≡ kinds.Symbol symbol → is_least symbol (passed left) ≡ true → constant_at left ≡ Some x → (x.1.1 ≡ left.1) × IsConstant x.0
unfolding constant_at
least_constant left symbol x e least h =
    let both = and_parts ((same_signs.ghosts).eq symbol signs.Minus) ((same.ghosts).eq (next (passed left)).0 (kinds.Number LARGEST_NUMBER)) least in
    let negative : is_next signs.Minus left ≡ true = subst (λ (k : TokenKind). (same.ghosts).eq k (kinds.Symbol signs.Minus) ≡ true) (sym e) both.0 in
    digits_least (next (passed left)).0 (passed (passed left)) x both.1 (rw negative at h)

choose : {A : Type 0} (b : Bool) (o p : Option A) (y : A) → cond b o p ≡ Some y → ((b ≡ true) × (o ≡ Some y)) ⊎ ((b ≡ false) × (p ≡ Some y))
choose true o p y h = inl (refl, h)
choose false o p y h = inr (refl, h)

option_cases : {A P : Type 0} (o : Option A) → ((a : A) → o ≡ Some a → P) → (o ≡ None → P) → P
option_cases None some none = none refl
option_cases (Some a) some none = some a refl

nothing_enclosed : (left : Left) (x : Phrase × Left) → enclosed_with None left ≡ Some x → ⊥
unfolding enclosed_with
nothing_enclosed left x h = none-some x (else_some _ None x h).1

nothing_signed : (operator : UnaryOperator) (left : Left) (x : Phrase × Left) → signed_as None operator left ≡ Some x → ⊥
unfolding signed_as
nothing_signed operator left x h = none-some x h

module _ (scope : Known) (d : ℕ) (o : Option Readers) (inner : InnerOf scope d o) where
  -- where the readers one deeper are there
  deeper_fits : (left behind : Left) (x : Phrase × Left) → behind.1 ≡ left.1 → ((e : ℕ) (r : Readers) → o ≡ Some r → InnerFits scope e r → Fits scope 11 (suc e) behind.1 x.0 x.1.1)
      → (r : Readers) → o ≡ Some r → Fits scope 11 d left.1 x.0 x.1.1
  deeper_fits left behind x same fits r p =
      let within = inner r p in
      let whole = fits within.0 r p within.2 in
      record {
        shallow = omega (arith, whole.shallow, within.1);
        count = omega (arith, whole.count, same);
        few = λ small. whole.few (omega (arith, small, same));
        writable = whole.writable;
      }

  constant_fits : (left : Left) (x : Phrase × Left) → ((v : ℤ × Left) → constant_at left ≡ Some v → (v.1.1 ≡ left.1) × IsConstant v.0) → (constant_at left >>= λ value. Some (Constant value.0, value.1)) ≡ Some x
      → Fits scope 11 d left.1 x.0 x.1.1
  constant_fits left x is h =
      bind_some (constant_at left) _ x h (λ value p q.
      let v = is value p in
      let P : Phrase × Left → Type 0 = λ y. Fits scope 11 d left.1 y.0 y.1.1 in
      subst P (same_Some (Constant value.0, value.1) x q) (record {
        shallow = omega arith;
        count = omega (arith, v.0);
        few = λ small. omega (arith, small, v.0);
        writable = v.1;
      }))

  status_fits : (busy : Bool) (left behind : Left) → behind.1 ≡ left.1 → Fits scope 11 d left.1 (Constant (pos (from_bool busy))) behind.1
  status_fits true left behind same = record { shallow = omega arith; count = omega (arith, same); few = λ small. omega (arith, small, same); writable = omega arith }
  status_fits false left behind same = record { shallow = omega arith; count = omega (arith, same); few = λ small. omega (arith, small, same); writable = omega arith }

  primary_fits : (kind : TokenKind) (spelling : List ℕ) (behind left : Left) (x : Phrase × Left) → (next left).0 ≡ kind → behind.1 ≡ left.1 → primary_from scope o kind spelling behind left ≡ Some x
      → Fits scope 11 d left.1 x.0 x.1.1
  primary_fits (kinds.Number n) spelling behind left x e same h = constant_fits left x (λ v p. plain_constant left n v e p) h
  primary_fits (kinds.Word (words.Status busy)) spelling behind left x e same h =
      let P : Phrase × Left → Type 0 = λ y. Fits scope 11 d left.1 y.0 y.1.1 in
      subst P (same_Some (Constant (pos (from_bool busy)), behind) x h) (status_fits busy left behind same)
  primary_fits kinds.Name spelling behind left x e same h =
      bind_some (register_from scope spelling behind) _ x h (λ register p q.
      let P : Phrase × Left → Type 0 = λ y. Fits scope 11 d left.1 y.0 y.1.1 in
      subst P (same_Some (OfRegister register, behind) x q) (record {
        shallow = omega arith;
        count = omega (arith, same);
        few = λ small. omega (arith, small, same);
        writable = register_read scope spelling behind register p;
      }))
  primary_fits (kinds.Word (words.Function function explicit)) spelling behind left x e same h =
      bind_some o _ x h (λ r p q.
      deeper_fits left behind x same (λ deep other p' fits.
      whole_call_fits scope deep other fits function explicit behind x (subst (λ (r : Readers). call_at scope r function explicit behind ≡ Some x) (same_Some r other (sym p ∙ p')) q)) r p)
  primary_fits (kinds.Symbol signs.OpenParenthesis) spelling behind left x e same h =
      option_cases o
      (λ r p. deeper_fits left behind x same (λ deep other p' fits.
      enclosed_fits scope deep other fits behind x (subst (λ (o : Option Readers). enclosed_with o behind ≡ Some x) p' h)) r p)
      (λ none. absurd (nothing_enclosed behind x (subst (λ (o : Option Readers). enclosed_with o behind ≡ Some x) none h)))
  primary_fits _ spelling behind left x e same h = absurd (none-some x h)

  sign_fits : (sign : Option UnaryOperator) (left : Left) (x : Phrase × Left) → signed_with scope o sign left ≡ Some x → Fits scope 11 d left.1 x.0 x.1.1
  unfolding primary_with
  sign_fits None left x h = primary_fits (next left).0 (next left).1 (passed left) left x refl refl h
  sign_fits (Some operator) left x h =
      option_cases o
      (λ r p. deeper_fits left left x refl (λ deep other p' fits.
      signed_fits scope deep other fits operator left x (subst (λ (o : Option Readers). signed_as o operator left ≡ Some x) p' h)) r p)
      (λ none. absurd (nothing_signed operator left x (subst (λ (o : Option Readers). signed_as o operator left ≡ Some x) none h)))

  pointed_fits : (left : Left) (x : Phrase × Left) → (pointed_at scope (passed left) >>= λ location. Some (Pointed location.0, location.1)) ≡ Some x → Fits scope 11 d left.1 x.0 x.1.1
  unfolding pointed_at
  pointed_fits left x h =
      bind_some (pointed_at scope (passed left)) _ x h (λ location p q.
      let found : (location.1.1 ≡ left.1) × (parameter_named scope location_kinds.Plain (name_of scope.locations location.0) ≡ Some location.0) =
      location_fits scope location_kinds.Plain (passed left) location (else_some _ _ location p).1 in
      let P : Phrase × Left → Type 0 = λ y. Fits scope 11 d left.1 y.0 y.1.1 in
      subst P (same_Some (Pointed location.0, location.1) x q) (record {
        shallow = omega arith;
        count = omega (arith, found.0);
        few = λ small. omega (arith, small, found.0);
        writable = found.1;
      }))

  symbol_fits : (symbol : Symbol) (left : Left) (x : Phrase × Left) → (next left).0 ≡ kinds.Symbol symbol → one_from scope o (kinds.Symbol symbol) left ≡ Some x → Fits scope 11 d left.1 x.0 x.1.1
  symbol_fits symbol left x e h =
      let other = else_some ((same_signs.ghosts).eq symbol signs.Ampersand) _ x h in
      elim (choose ((same_signs.ghosts).eq symbol signs.Star) _ _ x other.1) [
        | inl (s, p) ↦ pointed_fits left x p
        | inr (s, rest) ↦ elim (choose (is_least symbol (passed left)) _ _ x rest) [
          | inl (l, p) ↦ constant_fits left x (λ v p'. least_constant left symbol v e l p') p
          | inr (l, p) ↦ sign_fits (unary_of symbol) left x p
        ]
      ]

  kind_fits : (kind : TokenKind) (left : Left) (x : Phrase × Left) → (next left).0 ≡ kind → one_from scope o kind left ≡ Some x → Fits scope 11 d left.1 x.0 x.1.1
  unfolding primary_with
  kind_fits (kinds.Symbol symbol) left x e h = symbol_fits symbol left x e h
  kind_fits kinds.TestName left x e h = primary_fits (next left).0 (next left).1 (passed left) left x refl refl h
  kind_fits kinds.Name left x e h = primary_fits (next left).0 (next left).1 (passed left) left x refl refl h
  kind_fits (kinds.Word w) left x e h = primary_fits (next left).0 (next left).1 (passed left) left x refl refl h
  kind_fits (kinds.Number n) left x e h = primary_fits (next left).0 (next left).1 (passed left) left x refl refl h
  kind_fits (kinds.Wrong problem) left x e h = primary_fits (next left).0 (next left).1 (passed left) left x refl refl h
  kind_fits kinds.End left x e h = primary_fits (next left).0 (next left).1 (passed left) left x refl refl h

  one_fits : (left : Left) (x : Phrase × Left) → one_with scope o left ≡ Some x → Fits scope 11 d left.1 x.0 x.1.1
  unfolding one_with
  one_fits left x h = kind_fits (next left).0 left x refl h

-- ---- at each depth

no_inner : (scope : Known) (d : ℕ) → InnerOf scope d None
no_inner scope d r p = absurd (none-some r p)

pub readers_fit : (scope : Known) (d : ℕ) → InnerFits scope d (readers scope d)
unfolding readers
readers_fit scope zero =
    let one = one_fits scope 0 None (no_inner scope 0) in
    record { one = one; many = λ level left x small h. many_fits scope level 0 None (no_inner scope 0) one small left x h }
readers_fit scope (suc d) =
    let inner : InnerOf scope (suc d) (Some (readers scope d)) = (λ r p. (d, refl, subst (λ (r : Readers). InnerFits scope d r) (same_Some (readers scope d) r p) (readers_fit scope d))) in
    let one = one_fits scope (suc d) (Some (readers scope d)) inner in
    record { one = one; many = λ level left x small h. many_fits scope level (suc d) (Some (readers scope d)) inner one small left x h }

pub expression_can_be_read : (scope : Known) (left : Left) (x : Phrase × Left) → expression_at scope left ≡ Some x → PhraseCanBeRead scope x.0
unfolding expression_at
expression_can_be_read scope left x h =
    let fits = ((readers_fit scope 64).many 1 (left.0, 0) x (omega arith) (many_is scope 64 1 (left.0, 0) ∙ h)).0 in
    let few = fits.few (omega arith) in
    record { writable = fits.writable; few = omega (arith, fits.count, few); shallow = fits.shallow }

-- so it is where it is returned
pub expression_fits : (scope : Known) (left behind : Left) (result : Result Expression Stop) → left.1 ≡ 0
    → Gives (λ expression. (phrase expression, behind)) result (many_with scope (inside scope 64) 1 left) → IfOk result (λ expression. PhraseCanBeRead scope (phrase expression))
expression_fits scope left behind (Err e) none h = tt
expression_fits scope left behind (Ok expression) none h =
    let fits = ((readers_fit scope 64).many 1 left (phrase expression, behind) (omega arith) (many_is scope 64 1 left ∙ h)).0 in
    let few = fits.few (omega (arith, none)) in
    record { writable = fits.writable; few = omega (arith, fits.count, few, none); shallow = fits.shallow }
