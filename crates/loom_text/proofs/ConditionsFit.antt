-- What is read of a condition can be written so that it is read again.
use Rattle.std.proofs.Common.{◌≡◌, ℕ, ℤ, pos, zero, suc, ◌+◌, ◌≤◌, ◌^◌, nat_lt, List, Bool, true, false, Option, Some, None, Result, Ok, Err, IfOk, codes, cond, refl, sym, ap, subst, ◌∙◌, inl, inr, arith}
use Rattle.std.proofs.lemmas.Bool.{cases_Bool, ltb-true, ltb-false}
use Rattle.std.proofs.lemmas.Option.{cond_some, none-some, same_Some}
use Rattle.std.specs.List.{slice_get}
use Rattle.std.specs.Option.{option_and_then, unwrap_or}
use Rattle.loom_text.specs.declared.read.stop.Stop.{Stop}
use Rattle.loom_text.specs.declared.read.symbol.Symbol.{Symbol}
use Rattle.loom_text.specs.declared.read.symbol.Symbol.TheVariants as signs
use Rattle.loom_text.specs.declared.read.token.TokenKind.{TokenKind}
use Rattle.loom_text.specs.declared.read.token.TokenKind.TheVariants as kinds
use Rattle.loom_text.specs.declared.test.Condition.{Condition}
use Rattle.loom_text.specs.declared.test.Kind.{Kind}
use Rattle.loom_text.specs.declared.test.Kind.TheVariants.{Atomic, Plain, Mutex, Condvar}
use Rattle.loom_text.specs.declared.test.Term.{Term}
use Rattle.loom_text.specs.declared.test.Term.TheVariants as terms
use Rattle.loom_text.specs.Known.{Located, Names, location_in, named_in}
use Rattle.loom_text.specs.Conditions.{Formula, Equals, Denied, Both, Either, comparison_at, condition_at, conjunction_of, disjunction_of, formula, has_value, joined_at, location_term, part_at, register_term, term_at, term_from}
use Rattle.loom_text.specs.Printing.{CanBeRead, FitsReader, HasInts, IsFound, IsInt, IsWritable, comparisons, depth, location_name, register_name}
use Rattle.loom_text.specs.Tokens.{Gives, Left, ◌>>=◌, after_sign, constant_at, counted, is_next, name_at, negated, next, number_at, passed, value_of}
use Rattle.loom_text.proofs.NameLemmas.{named_so, spelled_so}

pub bind_some : {A B P : Type 0} (o : Option A) (f : A → Option B) (y : B) → (o >>= f) ≡ Some y → ((a : A) → o ≡ Some a → f a ≡ Some y → P) → P
bind_some None f y h k = absurd (none-some y h)
bind_some (Some a) f y h k = k a refl h

pub else_some : {A : Type 0} (b : Bool) (o : Option A) (y : A) → cond b None o ≡ Some y → (b ≡ false) × (o ≡ Some y)
else_some true o y h = absurd (none-some y h)
else_some false o y h = (refl, h)

-- ---- what the small readers count: nothing

pub after_sign_counts : (sign : Symbol) (left behind : Left) → after_sign sign left ≡ Some behind → behind.1 ≡ left.1
after_sign_counts sign left behind h = sym (ap (λ (l : Left). l.1) (cond_some (is_next sign left) (passed left) behind h).1)

pub name_counts : (left : Left) (x : List ℕ × Left) → name_at left ≡ Some x → x.1.1 ≡ left.1
name_counts left x h = sym (ap (λ (y : List ℕ × Left). y.1.1) (cond_some _ _ x h).1)

negated_int : (n : ℕ) → n ≤ 2 ^ 31 → IsInt (negated n)
negated_int zero h = omega arith
negated_int (suc n) h = omega (arith, h)

value_int : (n : ℕ) (negative : Bool) (value : ℤ) → value_of n negative ≡ Some value → IsInt value
value_int n true value h =
    let e = else_some (nat_lt (2 ^ 31) n) (Some (negated n)) value h in
    subst IsInt (same_Some (negated n) value e.1) (negated_int n (ltb-false (2 ^ 31) n e.0))
value_int n false value h =
    let e = cond_some (nat_lt n (2 ^ 31)) (pos n) value h in
    subst IsInt e.1 (ltb-true n (2 ^ 31) e.0)

number_fits : (negative : Bool) (kind : TokenKind) (left : Left) (x : ℤ × Left) → number_at negative kind left ≡ Some x → (x.1.1 ≡ left.1) × IsInt x.0
number_fits negative (kinds.Number n) left x h = bind_some (value_of n negative) (λ value. Some (value, left)) x h (λ value p q.
    let e = same_Some (value, left) x q in
    (sym (ap (λ (y : ℤ × Left). y.1.1) e), subst IsInt (ap (λ (y : ℤ × Left). y.0) e) (value_int n negative value p)))
number_fits negative _ left x h = absurd (none-some x h)

pub constant_fits : (left : Left) (x : ℤ × Left) → constant_at left ≡ Some x → (x.1.1 ≡ left.1) × IsInt x.0
unfolding constant_at
constant_fits left x h = elim (cases_Bool (is_next signs.Minus left)) [
  | inl e ↦ number_fits true (next (passed left)).0 (passed (passed left)) x (rw e at h)
  | inr e ↦ number_fits false (next left).0 (passed left) x (rw e at h)
]

-- ---- terms and parts

module _ (locations : List Located) (threads : List Names) where
  -- a term is found again by its name
  has_value_is : (kind : Kind) (n : ℕ) (term : Term) → has_value kind n ≡ Some term → terms.Location n ≡ term
  has_value_is Atomic n term h = same_Some (terms.Location n) term h
  has_value_is Plain n term h = same_Some (terms.Location n) term h
  has_value_is Mutex n term h = absurd (none-some term h)
  has_value_is Condvar n term h = absurd (none-some term h)

  location_found : (spelling : List ℕ) (term : Term) → location_term locations spelling ≡ Some term → IsFound locations threads term
  location_found spelling term h =
      bind_some (location_in locations spelling) _ term h (λ n p q.
      bind_some (slice_get locations n) _ term q (λ l p' q'.
      let is = has_value_is l.kind n term q' in
      let spelled : location_name locations n ≡ spelling = spelled_so (λ (l : Located). l.name) locations spelling n p in
      subst (λ (t : Term). IsFound locations threads t) is (ap (λ (s : List ℕ). location_term locations s) spelled ∙ h ∙ ap (λ (t : Term). Some t) (sym is))))

  register_found : (thread : ℕ) (spelling : List ℕ) (term : Term) → register_term threads thread spelling ≡ Some term → IsFound locations threads term
  register_found thread spelling term h =
      bind_some (slice_get threads thread) _ term h (λ registers p q.
      bind_some (named_in registers spelling) _ term q (λ register p' q'.
      let is = same_Some (terms.Register thread register) term q' in
      let spelled : register_name threads thread register ≡ spelling =
      ap (λ (o : Option Names). unwrap_or (option_and_then (λ registers. slice_get registers register) o) (codes "?")) p ∙ named_so registers spelling register p' in
      subst (λ (t : Term). IsFound locations threads t) is (ap (λ (s : List ℕ). register_term threads thread s) spelled ∙ h ∙ ap (λ (t : Term). Some t) (sym is))))

  abbrev TermFits : Left → Term × Left → Type 0
  TermFits left x = (x.1.1 ≡ left.1) × IsFound locations threads x.0

  term_from_fits : (kind : TokenKind) (spelling : List ℕ) (left : Left) (x : Term × Left) → term_from locations threads kind spelling left ≡ Some x → TermFits left x
  term_from_fits (kinds.Number n) spelling left x h =
      bind_some (after_sign signs.Colon left) _ x h (λ l p q.
      bind_some (name_at l) _ x q (λ name p' q'.
      bind_some (register_term threads n name.0) _ x q' (λ term p'' q''.
      subst (λ (y : Term × Left). TermFits left y) (same_Some (term, name.1) x q'') (name_counts l name p' ∙ after_sign_counts signs.Colon left l p, register_found n name.0 term p''))))
  term_from_fits kinds.Name spelling left x h =
      bind_some (location_term locations spelling) _ x (else_some _ _ x h).1 (λ term p q.
      subst (λ (y : Term × Left). TermFits left y) (same_Some (term, left) x q) (refl, location_found spelling term p))
  term_from_fits (kinds.Symbol signs.OpenBracket) spelling left x h =
      bind_some (name_at left) _ x h (λ name p q.
      bind_some (after_sign signs.CloseBracket name.1) _ x q (λ l p' q'.
      bind_some (location_term locations name.0) _ x q' (λ term p'' q''.
      subst (λ (y : Term × Left). TermFits left y) (same_Some (term, l) x q'') (after_sign_counts signs.CloseBracket name.1 l p' ∙ name_counts left name p, location_found name.0 term p''))))
  term_from_fits _ spelling left x h = absurd (none-some x h)

  pub term_fits : (left : Left) (x : Term × Left) → term_at locations threads left ≡ Some x → TermFits left x
  unfolding term_at
  term_fits left x h = term_from_fits (next left).0 (next left).1 (passed left) x h

  -- at this level, with so many comparisons before it, no deeper than so
  abbrev Fits : ℕ → ℕ → ℕ → Formula × Left → Type 0
  Fits level d c x = (depth level x.0 ≤ d) × (x.1.1 ≡ c + comparisons x.0) × (x.1.1 ≤ 256) × IsWritable locations threads x.0

  abbrev PartsFit : ℕ → ℕ → (Left → Option (Formula × Left)) → Type 0
  PartsFit level d part = (left : Left) (x : Formula × Left) → part left ≡ Some x → Fits level d left.1 x

  comparison_fits : (level d : ℕ) → PartsFit level d (comparison_at locations threads)
  unfolding comparison_at
  comparison_fits level d left x h =
      bind_some (counted left) _ x h (λ l p q.
      bind_some (term_at locations threads l) _ x q (λ term p' q'.
      bind_some (after_sign signs.Assign term.1) _ x q' (λ l' p'' q''.
      bind_some (constant_at l') _ x q'' (λ value p''' q'''.
      let few = cond_some (nat_lt left.1 256) (left.0, left.1 + 1) l p in
      let below = ltb-true left.1 256 few.0 in
      let one : l.1 ≡ left.1 + 1 = sym (ap (λ (y : Left). y.1) few.1) in
      let constant = constant_fits l' value p''' in
      let named = term_fits l term p' in
      let count : value.1.1 ≡ left.1 + 1 = constant.0 ∙ after_sign_counts signs.Assign term.1 l' p'' ∙ named.0 ∙ one in
      let P : Formula × Left → Type 0 = λ y. Fits level d left.1 y in
      subst P (same_Some (Equals term.0 value.0, value.1) x q''') (omega arith, count, omega (arith, count, below), (named.1, constant.1))))))

  joined_fits : (sign : Symbol) (join : Formula → Formula → Formula) (level inner d c : ℕ) (part : Left → Option (Formula × Left)) → PartsFit inner d part
      → ((f g : Formula) → depth level f ≤ d → depth inner g ≤ d → IsWritable locations threads f → IsWritable locations threads g → (depth level (join f g) ≤ d) × (comparisons (join f g) ≡ comparisons f + comparisons g) × IsWritable locations threads (join f g))
      → (n : ℕ) (f : Formula) (left : Left) (x : Formula × Left) → Fits level d c (f, left) → joined_at sign join part n f left ≡ Some x → Fits level d c x
  unfolding joined_at
  joined_fits sign join level inner d c part parts joins zero f left x fits h = absurd (none-some x h)
  joined_fits sign join level inner d c part parts joins (suc n) f left x fits h = elim (cases_Bool (is_next sign left)) [
    | inl e ↦ bind_some (part (passed left)) (λ more. joined_at sign join part n (join f more.0) more.1) x (rw e at h) (λ more p q.
        let m = parts (passed left) more p in
        let j = joins f more.0 fits.0 m.0 fits.3 m.3 in
        let counts : more.1.1 ≡ c + comparisons (join f more.0) = omega (arith, fits.1, m.1, j.1) in
        joined_fits sign join level inner d c part parts joins n (join f more.0) more.1 x (j.0, counts, m.2, j.2) q)
    | inr e ↦
        let P : Formula × Left → Type 0 = λ y. Fits level d c y in
        subst P (same_Some (f, left) x (rw e at h)) fits
  ]

  -- what binds more strongly has no more parentheses at a weaker level
  less_deep_2 : (f : Formula) → depth 2 f ≤ depth 3 f
  less_deep_2 (Equals term value) = omega arith
  less_deep_2 (Denied inner) = omega arith
  less_deep_2 (Both l r) = omega arith
  less_deep_2 (Either l r) = omega arith

  less_deep_1 : (f : Formula) → depth 1 f ≤ depth 2 f
  less_deep_1 (Equals term value) = omega arith
  less_deep_1 (Denied inner) = omega arith
  less_deep_1 (Both l r) = omega arith
  less_deep_1 (Either l r) = omega arith

  conjunction_fits : (d : ℕ) (part : Left → Option (Formula × Left)) → PartsFit 3 d part → PartsFit 2 d (conjunction_of part)
  unfolding conjunction_of
  conjunction_fits d part parts left x h =
      bind_some (part left) _ x h (λ first p q.
      let m = parts left first p in
      let less = less_deep_2 first.0 in
      joined_fits signs.Conjunction Both 2 3 d left.1 part parts (λ f g df dg i j. (omega (arith, df, dg), refl, (i, j)))
      257 first.0 first.1 x (omega (arith, m.0, less), m.1, m.2, m.3) q)

  disjunction_fits : (d : ℕ) (part : Left → Option (Formula × Left)) → PartsFit 3 d part → PartsFit 1 d (disjunction_of part)
  unfolding disjunction_of
  disjunction_fits d part parts left x h =
      bind_some (conjunction_of part left) _ x h (λ first p q.
      let m = conjunction_fits d part parts left first p in
      let less = less_deep_1 first.0 in
      joined_fits signs.Disjunction Either 1 2 d left.1 (conjunction_of part) (conjunction_fits d part parts) (λ f g df dg i j. (omega (arith, df, dg), refl, (i, j)))
      257 first.0 first.1 x (omega (arith, m.0, less), m.1, m.2, m.3) q)

  -- in parentheses it may be deeper by one
  enclosed_depth : (f : Formula) → depth 3 f ≤ 1 + depth 1 f
  enclosed_depth (Equals term value) = omega arith
  enclosed_depth (Denied inner) = omega arith
  enclosed_depth (Both l r) = omega arith
  enclosed_depth (Either l r) = omega arith

  part_fits : (d : ℕ) → PartsFit 3 d (part_at locations threads d)
  unfolding part_at
  part_fits zero left x h =
      let a = else_some (is_next signs.Tilde left) _ x h in
      let b = else_some (is_next signs.OpenParenthesis left) _ x a.1 in
      comparison_fits 3 0 left x b.1
  part_fits (suc d) left x h = elim (cases_Bool (is_next signs.Tilde left)) [
    | inl e ↦ bind_some (part_at locations threads d (passed left)) (λ read. Some (Denied read.0, read.1)) x (rw e at h) (λ read p q.
        let m = part_fits d (passed left) read p in
        let P : Formula × Left → Type 0 = λ y. Fits 3 (suc d) left.1 y in
        subst P (same_Some (Denied read.0, read.1) x q) (omega (arith, m.0), m.1, m.2, m.3))
    | inr e ↦ let h' = rw e at h in elim (cases_Bool (is_next signs.OpenParenthesis left)) [
      | inl i ↦ bind_some (disjunction_of (part_at locations threads d) (passed left)) (λ read. after_sign signs.CloseParenthesis read.1 >>= λ left. Some (read.0, left)) x (rw i at h') (λ read p q.
          bind_some (after_sign signs.CloseParenthesis read.1) (λ left. Some (read.0, left)) x q (λ l p' q'.
          let m = disjunction_fits d (part_at locations threads d) (part_fits d) (passed left) read p in
          let less = enclosed_depth read.0 in
          let count = after_sign_counts signs.CloseParenthesis read.1 l p' in
          let P : Formula × Left → Type 0 = λ y. Fits 3 (suc d) left.1 y in
          subst P (same_Some (read.0, l) x q') (omega (arith, m.0, less), count ∙ m.1, omega (arith, count, m.2), m.3)))
      | inr i ↦ comparison_fits 3 (suc d) left x (rw i at h')
    ]
  ]

-- it has ints then
has_ints : (locations : List Located) (threads : List Names) (f : Formula) → IsWritable locations threads f → HasInts f
has_ints locations threads (Equals term value) h = h.1
has_ints locations threads (Denied inner) h = has_ints locations threads inner h
has_ints locations threads (Both left right) h = (has_ints locations threads left h.0, has_ints locations threads right h.1)
has_ints locations threads (Either left right) h = (has_ints locations threads left h.0, has_ints locations threads right h.1)

-- a whole condition can be written so that it is read again
pub condition_can_be_read : (locations : List Located) (threads : List Names) (left : Left) (x : Formula × Left) → condition_at locations threads left ≡ Some x → CanBeRead locations threads x.0
unfolding condition_at
condition_can_be_read locations threads left x h =
    let m = disjunction_fits locations threads 64 (part_at locations threads 64) (part_fits locations threads 64) (left.0, 0) x h in
    (m.3, omega (arith, m.1, m.2), m.0)

-- so it does where it is returned
pub result_fits : (locations : List Located) (threads : List Names) (left behind : Left) (result : Result Condition Stop) → left.1 ≡ 0
    → Gives (λ condition. (formula condition, behind)) result (disjunction_of (part_at locations threads 64) left) → IfOk result (λ condition. FitsReader (formula condition))
result_fits locations threads left behind (Err e) none h = tt
result_fits locations threads left behind (Ok condition) none h =
    let m = disjunction_fits locations threads 64 (part_at locations threads 64) (part_fits locations threads 64) left (formula condition, behind) h in
    (m.0, omega (arith, m.1, m.2, none), has_ints locations threads (formula condition) m.3)
