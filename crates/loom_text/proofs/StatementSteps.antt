-- The steps in which statements are read.
use Rattle.std.proofs.Common.{◌≡◌, ℕ, zero, suc, ◌-◌, ◌+◌, ◌≤◌, ◌<◌, List, [], ◌∷◌, ◌++◌, Bool, true, false, Option, Some, None, cond, refl, sym, ap, ◌∙◌, arith, rules}
use Rattle.std.specs.declared.vec.Vec.{Vec}
use Rattle.std.specs.declared.alloc.Global.{Global}
use Rattle.loom_text.specs.declared.read.stop.Stop.{Stop}
use Rattle.loom_text.specs.declared.read.stop.Stop.TheVariants as stops
use Rattle.loom_text.specs.declared.read.symbol.Symbol.TheVariants as signs
use Rattle.loom_text.specs.declared.read.token.TokenKind.{TokenKind}
use Rattle.loom_text.specs.declared.read.token.TokenKind.TheVariants as kinds
use Rattle.loom_text.specs.declared.read.word.Function.{Function}
use Rattle.loom_text.specs.declared.test.Action.{Row_of-Statement, end_of-Statement, more_of-Statement, items-the_row-Statement, the_lemmas}
use Rattle.loom_text.specs.declared.test.Action.TheVariants as actions
use Rattle.loom_text.specs.declared.test.Expression.{Expression}
use Rattle.loom_text.specs.declared.test.Statement.{Statement}
use Rattle.loom_text.specs.Deeds.{Deed, Evaluated, Chosen, Repeated, RepeatedLate, Held, Deeds, Nothing, Then, deed, deeds, deeds_behind, deeds_in}
use Rattle.loom_text.specs.Expressions.{Phrase, Readers, arguments_at, phrase, readers}
use Rattle.loom_text.specs.Known.{Known}
use Rattle.loom_text.specs.Statements.{Adds, Standing, all_declared, declaration_at, evaluated_at, moved, simple_at, simple_from, statement_at, statement_with, statements_at, within}
use Rattle.loom_text.specs.Tokens.{Left, Stops, ◌>>=◌, after_sign, is_next, next, passed}
use Rattle.loom_text.proofs.ExpressionSteps.{one_deeper as expressions_deeper}

-- ---- depth

pub statement_is : (depth : ℕ) → statement_at depth ≡ statement_with (within depth)
unfolding statement_at within
statement_is zero = refl
statement_is (suc depth) = refl

pub one_deeper : (inside depth : ℕ) → inside + 1 ≡ depth → within depth ≡ Some (statement_at inside)
unfolding within
one_deeper inside depth e =
    let k : depth ≡ suc inside = omega (arith, e) in
    ap within k

pub none_deeper : (depth : ℕ) → depth ≡ 0 → within depth ≡ None
unfolding within
none_deeper depth e = ap within e

-- ---- what statements do

rows : (done : Deeds) (m : _) (k : Row_of-Statement m) → deeds_in done k ≡ deeds_behind done (items-the_row-Statement m k)
rows done m end_of-Statement = refl
rows done m (more_of-Statement line action rest) = rows (Then done (deed action)) _ rest

pub held : (body : Vec Statement Global) → deed (actions.Block body) ≡ Held (deeds body.items)
held body = search (rules, the_lemmas, rows)

pub chosen : (condition : Expression) (first otherwise : Vec Statement Global) → deed (actions.If condition first otherwise) ≡ Chosen (phrase condition) (deeds first.items) (deeds otherwise.items)
chosen condition first otherwise = search (rules, the_lemmas, rows)

pub repeated : (condition : Expression) (body : Vec Statement Global) → deed (actions.While condition body) ≡ Repeated (phrase condition) (deeds body.items)
repeated condition body = search (rules, the_lemmas, rows)

pub repeated_late : (body : Vec Statement Global) (condition : Expression) → deed (actions.DoWhile body condition) ≡ RepeatedLate (deeds body.items) (phrase condition)
repeated_late body condition = search (rules, the_lemmas, rows)

pub one_behind : (done : Deeds) (statements : List Statement) (statement : Statement) → deeds_behind done (statements ++ statement ∷ []) ≡ Then (deeds_behind done statements) (deed statement.action)
one_behind done [] statement = refl
one_behind done (first ∷ statements) statement = one_behind (Then done (deed first.action)) statements statement

pub nothing_held : (known : Known) (left : Left) (body : Vec Statement Global) → (next left).0 ≡ kinds.Symbol signs.Semicolon → body.items ≡ [] → simple_at known left ≡ Some (deed (actions.Block body), left)
unfolding simple_at
nothing_held known left body e empty =
    let none : deed (actions.Block body) ≡ Held Nothing = held body ∙ ap (λ (items : List Statement). Held (deeds items)) empty in
    ap (λ (kind : TokenKind). simple_from known kind (next left).1 (passed left) left) e ∙ ap (λ (d : Deed). Some (d, left)) (sym none)

-- ---- a call that has a value

module _ (known : Known) (i : ℕ) (function : Function) (count : ℕ) (explicit : Bool) (old new : Left) (deeper : i + 1 ≡ 64) (begun : new ≡ (old.0, 0)) where
  evaluated_is : evaluated_at known function count explicit old ≡ (arguments_at known (readers known i) function count explicit new >>= λ call. Some (Evaluated call.0, call.1))
  unfolding evaluated_at
  evaluated_is =
      ap (λ (o : Option Readers). o >>= λ readers. arguments_at known readers function count explicit (old.0, 0) >>= λ call. Some (Evaluated call.0, call.1)) (expressions_deeper known i 64 deeper)
      ∙ ap (λ (l : Left). arguments_at known (readers known i) function count explicit l >>= λ call. Some (Evaluated call.0, call.1)) (sym begun)

  pub not_evaluated : (e : Stop) → Stops e (arguments_at known (readers known i) function count explicit new) → Stops e (evaluated_at known function count explicit old)
  not_evaluated stops.Memory h = tt
  not_evaluated (stops.At problem start end) h = evaluated_is ∙ ap (λ (o : Option (Phrase × Left)). o >>= λ call. Some (Evaluated call.0, call.1)) h

  pub evaluated_as : (f : Phrase) (behind : Left) → arguments_at known (readers known i) function count explicit new ≡ Some (f, behind) → evaluated_at known function count explicit old ≡ Some (Evaluated f, behind)
  evaluated_as f behind h = evaluated_is ∙ ap (λ (o : Option (Phrase × Left)). o >>= λ call. Some (Evaluated call.0, call.1)) h

-- ---- statements up to a brace

module _ (one : Adds) (count i : ℕ) (done : Deeds) (old : Standing) (total : Option (Deeds × Standing)) (so_far : statements_at one (count - i) done old ≡ total) where
  pub over : count ≤ i → total ≡ None
  unfolding statements_at
  over le =
      let k : count - i ≡ 0 = omega (arith, le) in
      sym so_far ∙ ap (λ (n : ℕ). statements_at one n done old) k

  module _ (lt : i < count) where
    here : statements_at one (suc (count - (i + 1))) done old ≡ total
    here =
        let k : count - i ≡ suc (count - (i + 1)) = omega (arith, lt) in
        sym (ap (λ (n : ℕ). statements_at one n done old) k) ∙ so_far

    pub brace : is_next signs.CloseBrace old.left ≡ true → total ≡ Some (done, moved (passed old.left) old)
    unfolding statements_at
    brace h =
        sym here
        ∙ ap (λ (b : Bool). cond b (Some (done, moved (passed old.left) old)) (one done old >>= λ read. statements_at one (count - (i + 1)) read.0 read.1)) h

    module _ (no_brace : is_next signs.CloseBrace old.left ≡ false) where
      goes_on : total ≡ (one done old >>= λ read. statements_at one (count - (i + 1)) read.0 read.1)
      unfolding statements_at
      goes_on =
          sym here
          ∙ ap (λ (b : Bool). cond b (Some (done, moved (passed old.left) old)) (one done old >>= λ read. statements_at one (count - (i + 1)) read.0 read.1)) no_brace

      pub another : (more : Deeds) (new : Standing) → one done old ≡ Some (more, new) → statements_at one (count - (i + 1)) more new ≡ total
      another more new h = sym (goes_on ∙ ap (λ (o : Option (Deeds × Standing)). o >>= λ read. statements_at one (count - (i + 1)) read.0 read.1) h)

      pub no_statement : (e : Stop) → Stops e (one done old) → Stops e total
      no_statement stops.Memory h = tt
      no_statement (stops.At problem start end) h = goes_on ∙ ap (λ (o : Option (Deeds × Standing)). o >>= λ read. statements_at one (count - (i + 1)) read.0 read.1) h

-- ---- registers with commas between them

module _ (count i : ℕ) (done : Deeds) (old : Standing) (total : Option (Deeds × Standing)) (so_far : all_declared (count - i) done old ≡ total) where
  pub no_tokens : count ≤ i → total ≡ None
  unfolding all_declared
  no_tokens le =
      let k : count - i ≡ 0 = omega (arith, le) in
      sym so_far ∙ ap (λ (n : ℕ). all_declared n done old) k

  abbrev further : ℕ → Deed × Standing → Option (Deeds × Standing)
  further n declared =
      cond (is_next signs.Comma declared.1.left)
      (all_declared n (Then done declared.0) (moved (passed declared.1.left) declared.1))
      (after_sign signs.Semicolon declared.1.left >>= λ left. Some (Then done declared.0, moved left declared.1))

  module _ (lt : i < count) where
    declares : total ≡ (declaration_at old >>= λ declared. further (count - (i + 1)) declared)
    unfolding all_declared
    declares =
        let k : count - i ≡ suc (count - (i + 1)) = omega (arith, lt) in
        sym so_far ∙ ap (λ (n : ℕ). all_declared n done old) k

    pub not_declared : (e : Stop) → Stops e (declaration_at old) → Stops e total
    not_declared stops.Memory h = tt
    not_declared (stops.At problem start end) h = declares ∙ ap (λ (o : Option (Deed × Standing)). o >>= λ declared. further (count - (i + 1)) declared) h

    module _ (deed : Deed) (new : Standing) (declared : declaration_at old ≡ Some (deed, new)) where
      found : total ≡ further (count - (i + 1)) (deed, new)
      found = declares ∙ ap (λ (o : Option (Deed × Standing)). o >>= λ declared. further (count - (i + 1)) declared) declared

      pub one_more : is_next signs.Comma new.left ≡ true → all_declared (count - (i + 1)) (Then done deed) (moved (passed new.left) new) ≡ total
      one_more h =
          sym (found ∙ ap (λ (b : Bool). cond b (all_declared (count - (i + 1)) (Then done deed) (moved (passed new.left) new)) (after_sign signs.Semicolon new.left >>= λ left. Some (Then done deed, moved left new))) h)

      last : is_next signs.Comma new.left ≡ false → total ≡ (after_sign signs.Semicolon new.left >>= λ left. Some (Then done deed, moved left new))
      last h =
          found ∙ ap (λ (b : Bool). cond b (all_declared (count - (i + 1)) (Then done deed) (moved (passed new.left) new)) (after_sign signs.Semicolon new.left >>= λ left. Some (Then done deed, moved left new))) h

      module _ (no_comma : is_next signs.Comma new.left ≡ false) (middle : Left) (there : middle ≡ new.left) where
        ends : total ≡ (after_sign signs.Semicolon middle >>= λ left. Some (Then done deed, moved left new))
        ends = last no_comma ∙ ap (λ (l : Left). after_sign signs.Semicolon l >>= λ left. Some (Then done deed, moved left new)) (sym there)

        pub not_ended : (e : Stop) → Stops e (after_sign signs.Semicolon middle) → Stops e total
        not_ended stops.Memory h = tt
        not_ended (stops.At problem start end) h = ends ∙ ap (λ (o : Option Left). o >>= λ left. Some (Then done deed, moved left new)) h

        pub ended : (behind : Left) → after_sign signs.Semicolon middle ≡ Some behind → total ≡ Some (Then done deed, moved behind new)
        ended behind h = ends ∙ ap (λ (o : Option Left). o >>= λ left. Some (Then done deed, moved left new)) h
