-- The steps in which an expression is read.
use Rattle.std.proofs.Common.{◌≡◌, ℕ, zero, suc, ◌-◌, ◌+◌, ◌≤◌, ◌<◌, Bool, true, false, Option, Some, None, is_some, cond, refl, sym, ap, ◌∙◌, arith}
use Rattle.loom_text.specs.declared.read.stop.Stop.{Stop}
use Rattle.loom_text.specs.declared.read.stop.Stop.TheVariants as stops
use Rattle.loom_text.specs.declared.read.symbol.Symbol.TheVariants as signs
use Rattle.loom_text.specs.contracts.read.token.TokenKindPartialEq.TheImpl as same
use Rattle.loom_text.specs.declared.read.token.TokenKind.TheVariants as kinds
use Rattle.loom_text.specs.declared.test.Kind.TheVariants as location_kinds
use Rattle.loom_text.specs.declared.test.BinaryOperator.{BinaryOperator}
use Rattle.loom_text.specs.declared.test.UnaryOperator.{UnaryOperator}
use Rattle.loom_text.specs.Expressions.{Phrase, Between, Readers, Signed, binds, by_operator, enclosed_with, inside, is_type, many_with, one_with, operator_at, operators_at, parameter_named, plain_at, readers, signed_as}
use Rattle.loom_text.specs.Known.{Known, named_in, number_of, parameter_in}
use Rattle.loom_text.specs.Tokens.{Left, Spelled, Stops, ◌>>=◌, after_sign, counted, next, passed}
use Rattle.loom_text.proofs.ReadingSteps.{stops_none}

-- ---- readers at a depth

pub one_is : (scope : Known) (d : ℕ) (left : Left) → (readers scope d).one left ≡ one_with scope (inside scope d) left
unfolding readers inside
one_is scope zero left = refl
one_is scope (suc d) left = refl

pub many_is : (scope : Known) (d lowest : ℕ) (left : Left) → (readers scope d).many lowest left ≡ many_with scope (inside scope d) lowest left
unfolding readers inside
many_is scope zero lowest left = refl
many_is scope (suc d) lowest left = refl

pub one_deeper : (scope : Known) (i d : ℕ) → i + 1 ≡ d → inside scope d ≡ Some (readers scope i)
unfolding inside
one_deeper scope i d e = let k : d ≡ suc i = omega (arith, e) in ap (λ (n : ℕ). inside scope n) k

pub none_deeper : (scope : Known) (d : ℕ) → d ≡ 0 → inside scope d ≡ None
unfolding inside
none_deeper scope d e = ap (λ (n : ℕ). inside scope n) e

-- ---- operators

module _ (o : Option Readers) (lowest count i : ℕ) (read : Phrase) (left : Left) (total : Option (Phrase × Left)) (lt : i < count) (so_far : operators_at o lowest (count - i) read left ≡ total) where
  -- the step that is taken now
  step : by_operator o (operators_at o lowest (count - (i + 1))) read (operator_at lowest left) left ≡ total
  unfolding operators_at
  step =
      let k : count - i ≡ suc (count - (i + 1)) = omega (arith, lt) in
      sym (ap (λ (n : ℕ). operators_at o lowest n read left) k) ∙ so_far

  pub no_operator_more : operator_at lowest left ≡ None → total ≡ Some (read, left)
  no_operator_more h = sym step ∙ ap (λ (x : Option BinaryOperator). by_operator o (operators_at o lowest (count - (i + 1))) read x left) h

  module _ (operator : BinaryOperator) (h : operator_at lowest left ≡ Some operator) where
    found : (counted left >>= λ left. o >>= λ inside. inside.many (binds operator + 1) (passed left) >>= λ right.
        operators_at o lowest (count - (i + 1)) (Between operator read right.0) right.1) ≡ total
    found = sym (ap (λ (x : Option BinaryOperator). by_operator o (operators_at o lowest (count - (i + 1))) read x left) h) ∙ step

    pub uncounted : (e : Stop) → Stops e (counted left) → Stops e total
    uncounted stops.Memory s = tt
    uncounted (stops.At problem start end) s =
        sym found ∙ ap (λ (x : Option Left). x >>= λ left. o >>= λ inside. inside.many (binds operator + 1) (passed left) >>= λ right.
        operators_at o lowest (count - (i + 1)) (Between operator read right.0) right.1) s

    module _ (more : Left) (few : counted left ≡ Some more) where
      one_counted : (o >>= λ inside. inside.many (binds operator + 1) (passed more) >>= λ right. operators_at o lowest (count - (i + 1)) (Between operator read right.0) right.1) ≡ total
      one_counted =
          sym (ap (λ (x : Option Left). x >>= λ left. o >>= λ inside. inside.many (binds operator + 1) (passed left) >>= λ right.
          operators_at o lowest (count - (i + 1)) (Between operator read right.0) right.1) few) ∙ found

      pub too_deep_behind : o ≡ None → total ≡ None
      too_deep_behind none =
          sym one_counted ∙ ap (λ (x : Option Readers). x >>= λ inside. inside.many (binds operator + 1) (passed more) >>= λ right.
          operators_at o lowest (count - (i + 1)) (Between operator read right.0) right.1) none

      module _ (scope : Known) (i' n : ℕ) (within : o ≡ Some (readers scope i')) (strong : n ≡ binds operator) (l : Left) (moved : l ≡ passed more) where
        behind_it : (many_with scope (inside scope i') (n + 1) l >>= λ right. operators_at o lowest (count - (i + 1)) (Between operator read right.0) right.1) ≡ total
        behind_it =
            ap (λ (n : ℕ). many_with scope (inside scope i') (n + 1) l >>= λ right. operators_at o lowest (count - (i + 1)) (Between operator read right.0) right.1) strong
            ∙ ap (λ (l : Left). many_with scope (inside scope i') (binds operator + 1) l >>= λ right. operators_at o lowest (count - (i + 1)) (Between operator read right.0) right.1) moved
            ∙ sym (ap (λ (x : Option (Phrase × Left)). x >>= λ right. operators_at o lowest (count - (i + 1)) (Between operator read right.0) right.1) (many_is scope i' (binds operator + 1) (passed more)))
            ∙ sym (ap (λ (x : Option Readers). x >>= λ inside. inside.many (binds operator + 1) (passed more) >>= λ right.
            operators_at o lowest (count - (i + 1)) (Between operator read right.0) right.1) within) ∙ one_counted

        pub no_right : (e : Stop) → Stops e (many_with scope (inside scope i') (n + 1) l) → Stops e total
        no_right stops.Memory s = tt
        no_right (stops.At problem start end) s =
            sym behind_it ∙ ap (λ (x : Option (Phrase × Left)). x >>= λ right. operators_at o lowest (count - (i + 1)) (Between operator read right.0) right.1) s

        pub one_right : (right : Phrase) (behind : Left) → many_with scope (inside scope i') (n + 1) l ≡ Some (right, behind)
            → operators_at o lowest (count - (i + 1)) (Between operator read right) behind ≡ total
        one_right right behind s =
            sym (ap (λ (x : Option (Phrase × Left)). x >>= λ right. operators_at o lowest (count - (i + 1)) (Between operator read right.0) right.1) s) ∙ behind_it

pub too_many_operators : (o : Option Readers) (lowest count i : ℕ) (read : Phrase) (left : Left) (total : Option (Phrase × Left)) → count ≤ i → operators_at o lowest (count - i) read left ≡ total → total ≡ None
unfolding operators_at
too_many_operators o lowest count i read left total le so_far =
    let k : count - i ≡ 0 = omega (arith, le) in
    sym so_far ∙ ap (λ (n : ℕ). operators_at o lowest n read left) k

-- ---- what a function returns where a part isn't read

pub no_first : (e : Stop) (scope : Known) (o : Option Readers) (lowest : ℕ) (left : Left) → Stops e (one_with scope o left) → Stops e (many_with scope o lowest left)
unfolding many_with
no_first stops.Memory scope o lowest left h = tt
no_first (stops.At problem start end) scope o lowest left h = ap (λ (x : Option (Phrase × Left)). x >>= λ first. operators_at o lowest 257 first.0 first.1) h

pub some_first : (scope : Known) (o : Option Readers) (lowest : ℕ) (left behind : Left) (f : Phrase) → one_with scope o left ≡ Some (f, behind) → operators_at o lowest 257 f behind ≡ many_with scope o lowest left
unfolding many_with
some_first scope o lowest left behind f h = sym (ap (λ (x : Option (Phrase × Left)). x >>= λ first. operators_at o lowest 257 first.0 first.1) h)

-- ---- a sign

module _ (o : Option Readers) (operator : UnaryOperator) (left : Left) where
  pub not_signed : (e : Stop) → o ≡ None → Stops e (signed_as o operator left)
  unfolding signed_as
  not_signed e none = stops_none e (signed_as o operator left) (ap (λ (x : Option Readers). x >>= λ inside. inside.one (passed left) >>= λ operand. Some (Signed operator operand.0, operand.1)) none)

  module _ (scope : Known) (i : ℕ) (within : o ≡ Some (readers scope i)) (l : Left) (moved : l ≡ passed left) where
    signed_is : signed_as o operator left ≡ (one_with scope (inside scope i) l >>= λ operand. Some (Signed operator operand.0, operand.1))
    unfolding signed_as
    signed_is =
        ap (λ (x : Option Readers). x >>= λ inside. inside.one (passed left) >>= λ operand. Some (Signed operator operand.0, operand.1)) within
        ∙ ap (λ (x : Option (Phrase × Left)). x >>= λ operand. Some (Signed operator operand.0, operand.1)) (one_is scope i (passed left))
        ∙ ap (λ (l : Left). one_with scope (inside scope i) l >>= λ operand. Some (Signed operator operand.0, operand.1)) (sym moved)

    pub no_operand : (e : Stop) → Stops e (one_with scope (inside scope i) l) → Stops e (signed_as o operator left)
    no_operand stops.Memory s = tt
    no_operand (stops.At problem start end) s = signed_is ∙ ap (λ (x : Option (Phrase × Left)). x >>= λ operand. Some (Signed operator operand.0, operand.1)) s

    pub operand_read : (f : Phrase) (behind : Left) → one_with scope (inside scope i) l ≡ Some (f, behind) → signed_as o operator left ≡ Some (Signed operator f, behind)
    operand_read f behind s = signed_is ∙ ap (λ (x : Option (Phrase × Left)). x >>= λ operand. Some (Signed operator operand.0, operand.1)) s

-- ---- parentheses

abbrev closed : Option (Phrase × Left) → Option (Phrase × Left)
closed read = read >>= λ read. after_sign signs.CloseParenthesis read.1 >>= λ left. Some (read.0, left)

module _ (o : Option Readers) (left : Left) (no_cast : is_type (next left).0 ≡ false) where
  enclosed_is : enclosed_with o left ≡ (o >>= λ inside. closed (inside.many 1 left))
  unfolding enclosed_with
  enclosed_is = ap (λ (b : Bool). cond b None (o >>= λ inside. closed (inside.many 1 left))) no_cast

  pub not_enclosed : (e : Stop) → o ≡ None → Stops e (enclosed_with o left)
  not_enclosed e none = stops_none e (enclosed_with o left) (enclosed_is ∙ ap (λ (x : Option Readers). x >>= λ inside. closed (inside.many 1 left)) none)

  module _ (scope : Known) (i : ℕ) (within : o ≡ Some (readers scope i)) where
    inside_is : enclosed_with o left ≡ closed (many_with scope (inside scope i) 1 left)
    inside_is = enclosed_is ∙ ap (λ (x : Option Readers). x >>= λ inside. closed (inside.many 1 left)) within ∙ ap closed (many_is scope i 1 left)

    pub nothing_enclosed : (e : Stop) → Stops e (many_with scope (inside scope i) 1 left) → Stops e (enclosed_with o left)
    nothing_enclosed stops.Memory s = tt
    nothing_enclosed (stops.At problem start end) s = inside_is ∙ ap closed s

    module _ (f : Phrase) (middle : Left) (read : many_with scope (inside scope i) 1 left ≡ Some (f, middle)) where
      pub not_closed : (e : Stop) → Stops e (after_sign signs.CloseParenthesis middle) → Stops e (enclosed_with o left)
      not_closed stops.Memory s = tt
      not_closed (stops.At problem start end) s = inside_is ∙ ap closed read ∙ ap (λ (x : Option Left). x >>= λ left. Some (f, left)) s

      pub closed_as : (behind : Left) → after_sign signs.CloseParenthesis middle ≡ Some behind → enclosed_with o left ≡ Some (f, behind)
      closed_as behind s = inside_is ∙ ap closed read ∙ ap (λ (x : Option Left). x >>= λ left. Some (f, left)) s

-- ---- what a name points to

pub plain_as : (scope : Known) (left : Left) (token : Spelled) → token ≡ next left → (same.ghosts).eq token.0 kinds.Name ≡ true → is_some (named_in scope.registers token.1) ≡ false
    → plain_at scope left ≡ number_of location_kinds.Plain (parameter_in scope.locations token.1)
unfolding plain_at
plain_as scope left token e name free =
    ap (λ (t : Spelled). cond ((same.ghosts).eq t.0 kinds.Name) (parameter_named scope location_kinds.Plain t.1) None) (sym e)
    ∙ ap (λ (b : Bool). cond b (parameter_named scope location_kinds.Plain token.1) None) name
    ∙ ap (λ (b : Bool). cond b None (number_of location_kinds.Plain (parameter_in scope.locations token.1))) free
