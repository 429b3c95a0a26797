-- What is written of statements that were read is read as the same.
use Rattle.std.proofs.Common.{◌≡◌, ℕ, zero, suc, ◌+◌, ◌-◌, ◌≤◌, ◌<◌, List, [], ◌∷◌, ◌++◌, length, take, Bool, true, false, Option, Some, None, codes, cond, refl, sym, ap, subst, ◌∙◌, inl, inr, append_assoc, arith}
use Rattle.std.proofs.Math.Seq.{take-length}
use Rattle.std.proofs.lemmas.Bool.{cases_Bool}
use Rattle.std.proofs.lemmas.List.{length-append}
use Rattle.std.proofs.lemmas.Option.{cond_some, none-some, same_Some}
use Rattle.std.specs.List.{slice_get}
use Rattle.std.specs.Option.{unwrap_or}
use Rattle.loom_text.specs.contracts.read.token.TokenKindPartialEq.TheImpl as same
use Rattle.loom_text.specs.declared.read.symbol.Symbol.TheVariants as signs
use Rattle.loom_text.specs.declared.read.token.TokenKind.{TokenKind}
use Rattle.loom_text.specs.declared.read.token.TokenKind.TheVariants as kinds
use Rattle.loom_text.specs.declared.read.word.Function.{Function}
use Rattle.loom_text.specs.declared.read.word.Function.TheVariants as functions
use Rattle.loom_text.specs.declared.read.word.Word.TheVariants as words
use Rattle.loom_text.specs.declared.test.Kind.{Kind}
use Rattle.loom_text.specs.declared.test.Kind.TheVariants as location_kinds
use Rattle.loom_text.specs.Blocks.{BlocksReadBack, given, given_or_not, in_braces, printed_deed, printed_deeds, printed_otherwise, semicolon, tested}
use Rattle.loom_text.specs.Deeds.{Deed, Declared, Assigned, Written, Stored, Evaluated, Fenced, Chosen, Repeated, RepeatedLate, Held, Locked, Unlocked, Waited, Signalled, Broadcasted, Yielded, Asserted, Deeds, Nothing, Then}
use Rattle.loom_text.specs.Expressions.{Phrase, Constant, OfRegister, Pointed, Signed, Between, Loaded, Exchanged, Fetched, Compared, ComparedRegister, ComparedPlain, Tried, expression_at, inside, operator_at}
use Rattle.loom_text.specs.Known.{Known, named_in}
use Rattle.loom_text.specs.Phrases.{closing, operators, printed_phrase, register_name_in}
use Rattle.loom_text.specs.Printing.{name, sign}
use Rattle.loom_text.specs.Question.{is_word}
use Rattle.loom_text.specs.Readable.{word}
use Rattle.loom_text.specs.Statements.{Adds, Standing, action_from, action_with, all_declared, begins_declaration, block_with, branch_with, choice_with, closed, declaration_at, declarations_at, declarations_of, ended_at, kind_at, late_repetition_with, moved, otherwise_with, register_added, register_declared, register_for, repetition_with, simple_at, statement_at, statement_with, statements_at, tested_at, value_at, within}
use Rattle.loom_text.specs.Tokens.{Left, Spelled, ◌>>=◌, after_sign, is_next, name_at, next, passed}
use Rattle.loom_text.proofs.ConditionsFit.{bind_some, else_some}
use Rattle.loom_text.proofs.ReadingSteps.{then_some}
use Rattle.loom_text.proofs.ExpressionsFit.{register_spelled, when_some}
use Rattle.loom_text.proofs.KnownLater.{Extends, expression_again, extends_itself, extends_on, name_stays, within as name_within}
use Rattle.loom_text.proofs.SimpleAgain.{Again, IsCall, IsSimple, simple_again, value_again}
use Rattle.loom_text.proofs.StatementSteps.{statement_is}

-- ---- where reading stands, without what is left

abbrev pub Where : Type 0
Where = Known × List ℕ

abbrev pub place : Standing → Where
place standing = (standing.known, standing.open_registers)

abbrev pub standing_at : Where → Left → Standing
standing_at w left = record { left = left; known = w.0; open_registers = w.1 }

-- ---- one statement

-- it begins neither with a brace that closes nor with `else`
record Begins (tokens : List Spelled) : Type 0 where
  token : Spelled
  more : List Spelled
  are : tokens ≡ token ∷ more
  no_brace : (same.ghosts).eq token.0 (kinds.Symbol signs.CloseBrace) ≡ false
  no_else : (same.ghosts).eq token.0 (kinds.Word words.Else) ≡ false

-- What is written of it is read as it, at this depth, where reading stands so, and stands so then.
abbrev Once : ℕ → Where → Deed → Where → Type 0
Once d w deed v = (late : Known) → Extends v.0 late → Begins (printed_deed late deed)
    × ((c : ℕ) (behind : List Spelled) (done : Deeds) → is_word words.Else (behind, 0) ≡ false
    → (after : ℕ) × (statement_at d done (standing_at w (printed_deed late deed ++ behind, c)) ≡ Some (Then done deed, standing_at v (behind, after))))

-- what begins a statement that holds no others
record IsPlain (kind : TokenKind) : Type 0 where
  no_declaration : begins_declaration kind ≡ false
  ends : (o : Option Adds) (s : Standing) → action_from o kind s ≡ ended_at s
  no_brace : (same.ghosts).eq kind (kinds.Symbol signs.CloseBrace) ≡ false
  no_else : (same.ghosts).eq kind (kinds.Word words.Else) ≡ false

plainly : (d : ℕ) (w : Where) (done : Deeds) (token : Spelled) (more : List Spelled) (c : ℕ) (deed : Deed) (behind : Left) → IsPlain token.0
    → simple_at w.0 (token ∷ more, c) ≡ Some (deed, (sign signs.Semicolon ∷ behind.0, behind.1)) → statement_at d done (standing_at w (token ∷ more, c)) ≡ Some (Then done deed, standing_at w behind)
unfolding statement_with action_with ended_at
plainly d w done token more c deed behind plain h =
    ap (λ (a : Adds). a done (standing_at w (token ∷ more, c))) (statement_is d)
    ∙ ap (λ (b : Bool). cond b (declarations_at done (standing_at w (token ∷ more, c))) (action_from (within d) token.0 (standing_at w (token ∷ more, c)) >>= λ deed. Some (Then done deed.0, deed.1))) plain.no_declaration
    ∙ ap (λ (o : Option (Deed × Standing)). o >>= λ deed. Some (Then done deed.0, deed.1)) (plain.ends (within d) (standing_at w (token ∷ more, c)))
    ∙ rw h refl

-- how it begins where it is written
record Plainly (known : Known) (deed : Deed) : Type 0 where
  token : Spelled
  more : List Spelled
  are : printed_deed known deed ≡ token ∷ more
  plain : IsPlain token.0

plain_name : IsPlain kinds.Name
plain_name = record { no_declaration = refl; ends = λ o s. refl; no_brace = refl; no_else = refl }

plain_star : IsPlain (kinds.Symbol signs.Star)
plain_star = record { no_declaration = refl; ends = λ o s. refl; no_brace = refl; no_else = refl }

plain_semicolon : IsPlain (kinds.Symbol signs.Semicolon)
plain_semicolon = record { no_declaration = refl; ends = λ o s. refl; no_brace = refl; no_else = refl }

plain_call : (function : Function) (explicit : Bool) → IsPlain (kinds.Word (words.Function function explicit))
plain_call function explicit = record { no_declaration = refl; ends = λ o s. refl; no_brace = refl; no_else = refl }

plain_evaluated : (known : Known) (f : Phrase) → IsCall f → Plainly known (Evaluated f)
unfolding printed_deed printed_phrase
plain_evaluated known (Constant value) h = absurd h
plain_evaluated known (OfRegister register) h = absurd h
plain_evaluated known (Pointed location) h = absurd h
plain_evaluated known (Signed operator operand) h = absurd h
plain_evaluated known (Between operator left right) h = absurd h
plain_evaluated known (Loaded location order) h = record { token = _; more = _; are = refl; plain = plain_call functions.Load true }
plain_evaluated known (Exchanged location value order) h = record { token = _; more = _; are = refl; plain = plain_call functions.Exchange true }
plain_evaluated known (Fetched operator location value order) h = record { token = _; more = _; are = refl; plain = plain_call (functions.Fetch operator) true }
plain_evaluated known (Compared strength location compared value success failure) h = record { token = _; more = _; are = refl; plain = plain_call (functions.CompareExchange strength) true }
plain_evaluated known (ComparedRegister strength location register value success failure) h = record { token = _; more = _; are = refl; plain = plain_call (functions.CompareExchange strength) true }
plain_evaluated known (ComparedPlain strength location plain value success failure) h = record { token = _; more = _; are = refl; plain = plain_call (functions.CompareExchange strength) true }
plain_evaluated known (Tried mutex) h = record { token = _; more = _; are = refl; plain = plain_call functions.TryLock false }

plainly_written : (known : Known) (deed : Deed) → IsSimple deed → Plainly known deed
unfolding printed_deed
plainly_written known (Declared register value) h = absurd h
plainly_written known (Assigned register value) h = record { token = _; more = _; are = refl; plain = plain_name }
plainly_written known (Written location value) h = record { token = _; more = _; are = refl; plain = plain_star }
plainly_written known (Stored location value order) h = record { token = _; more = _; are = refl; plain = plain_call functions.Store true }
plainly_written known (Evaluated call) h = plain_evaluated known call h
plainly_written known (Fenced order) h = record { token = _; more = _; are = refl; plain = plain_call functions.Fence false }
plainly_written known (Chosen condition first otherwise) h = absurd h
plainly_written known (Repeated condition body) h = absurd h
plainly_written known (RepeatedLate body condition) h = absurd h
plainly_written known (Held Nothing) h = record { token = _; more = _; are = refl; plain = plain_semicolon }
plainly_written known (Held (Then deeds deed)) h = absurd h
plainly_written known (Locked mutex) h = record { token = _; more = _; are = refl; plain = plain_call functions.Lock false }
plainly_written known (Unlocked mutex) h = record { token = _; more = _; are = refl; plain = plain_call functions.Unlock false }
plainly_written known (Waited condvar mutex) h = record { token = _; more = _; are = refl; plain = plain_call functions.Wait false }
plainly_written known (Signalled condvar) h = record { token = _; more = _; are = refl; plain = plain_call functions.Signal false }
plainly_written known (Broadcasted condvar) h = record { token = _; more = _; are = refl; plain = plain_call functions.Broadcast false }
plainly_written known Yielded h = record { token = _; more = _; are = refl; plain = plain_call functions.Yield false }
plainly_written known (Asserted condition) h = record { token = _; more = _; are = refl; plain = plain_call functions.Assert false }

once_simply : (d : ℕ) (w : Where) (deed : Deed) → Again w.0 deed → Once d w deed w
once_simply d w deed again late e =
    let p = plainly_written late deed again.0 in (
      record { token = p.token; more = p.more; are = p.are; no_brace = p.plain.no_brace; no_else = p.plain.no_else },
      (λ c behind done off.
          let read = again.1 late e c behind in
          let again : simple_at w.0 (p.token ∷ (p.more ++ behind), c) ≡ Some (deed, (sign signs.Semicolon ∷ behind, read.0)) = ap (λ (ts : List Spelled). simple_at w.0 (ts ++ behind, c)) (sym p.are) ∙ read.1 in
          (read.0, ap (λ (ts : List Spelled). statement_at d done (standing_at w (ts ++ behind, c))) p.are ∙ plainly d w done p.token (p.more ++ behind) c deed (behind, read.0) p.plain again)),
    )

ended_once : (d : ℕ) (s : Standing) (x : Deed × Standing) → ended_at s ≡ Some x → Once d (place s) x.0 (place x.1) × Extends s.known x.1.known
unfolding ended_at simple_at
ended_once d s x h =
    bind_some (simple_at s.known s.left) _ x h (λ deed p q.
    bind_some (after_sign signs.Semicolon deed.1) _ x q (λ l p' q'.
    let again = simple_again s.known (next s.left).0 (next s.left).1 (passed s.left) s.left deed p in
    let P : Deed × Standing → Type 0 = λ y. Once d (place s) y.0 (place y.1) × Extends s.known y.1.known in
    subst P (same_Some (deed.0, moved l s) x q') (once_simply d (place s) deed.0 again, extends_itself s.known)))

-- ---- declarations

value_twice : (known late : Known) → Extends known late → (left : Left) (v : Option Phrase × Left) → value_at known left ≡ Some v → (c : ℕ) (behind : List Spelled)
    → (after : ℕ) × (value_at known (given_or_not late v.0 ++ behind, c) ≡ Some (v.0, (sign signs.Semicolon ∷ behind, after)))
unfolding value_at
value_twice known late e left v h c behind = elim (cases_Bool (is_next signs.Assign left)) [
  | inl found ↦ bind_some (expression_at known (passed left)) _ v (rw found at h) (λ f p q.
      let P : Option Phrase × Left → Type 0 = λ v. (after : ℕ) × (value_at known (given_or_not late v.0 ++ behind, c) ≡ Some (v.0, (sign signs.Semicolon ∷ behind, after))) in
      subst P (same_Some (Some f.0, f.1) v q) (
        operators f.0,
        ap (λ (ts : List Spelled). expression_at known (ts, c) >>= λ value. Some (Some value.0, value.1)) (append_assoc (printed_phrase late 1 f.0) semicolon behind)
            ∙ ap (λ (o : Option (Phrase × Left)). o >>= λ value. Some (Some value.0, value.1)) (value_again known late e (passed left) f p c behind),
      ))
  | inr other ↦
      let P : Option Phrase × Left → Type 0 = λ v. (after : ℕ) × (value_at known (given_or_not late v.0 ++ behind, c) ≡ Some (v.0, (sign signs.Semicolon ∷ behind, after))) in
      subst P (same_Some (None, left) v (rw other at h)) (c, refl)
]

no_bracket : (late : Known) (value : Option Phrase) (c : ℕ) (behind : List Spelled) → is_next signs.OpenBracket (given_or_not late value ++ behind, c) ≡ false
no_bracket late None c behind = refl
no_bracket late (Some value) c behind = refl

-- the name that is declared is that of the register
record Names (spelling : List ℕ) (known : Known) (register : ℕ) (now : Known) : Type 0 where
  named : register_name_in now register ≡ spelling
  there : register < length now.registers
  later : Extends known now

seam : (xs : List (List ℕ)) (x : List ℕ) → slice_get (xs ++ x ∷ []) (length xs) ≡ Some x
seam [] x = refl
seam (y ∷ xs) x = seam xs x

added_names : (spelling : List ℕ) (known : Known) (x : ℕ × Known) → register_added spelling known ≡ Some x → Names spelling known x.0 x.1
unfolding register_added
added_names spelling known x h =
    let more : List (List ℕ) = spelling ∷ [] in
    let now : Known = record known { registers = known.registers ++ more } in
    let made : ℕ × Known = (length known.registers, now) in
    let some = cond_some _ made x h in
    let len = length-append known.registers more in
    let P : ℕ × Known → Type 0 = λ y. Names spelling known y.0 y.1 in
    subst P some.1 (record {
      named = ap (λ (o : Option (List ℕ)). unwrap_or o (codes "?")) (seam known.registers spelling);
      there = omega (arith, len);
      later = (more, refl);
    })

found_names : (spelling : List ℕ) (known : Known) (found : Option ℕ) (x : ℕ × Known) → named_in known.registers spelling ≡ found → register_for spelling known found ≡ Some x → Names spelling known x.0 x.1
found_names spelling known None x e h = added_names spelling known x h
found_names spelling known (Some register) x e h =
    let P : ℕ × Known → Type 0 = λ y. Names spelling known y.0 y.1 in
    subst P (same_Some (register, known) x h) (record {
      named = register_spelled known spelling register e;
      there = name_within known.registers spelling register e;
      later = extends_itself known;
    })

declared_names : (spelling : List ℕ) (known : Known) (open_registers : List ℕ) (x : ℕ × Known × List ℕ) → register_declared spelling known open_registers ≡ Some x → Names spelling known x.0 x.1
unfolding register_declared
declared_names spelling known open_registers x h =
    bind_some (register_for spelling known (named_in known.registers spelling)) _ x (else_some _ _ x h).1 (λ register p q.
    let P : ℕ × Known × List ℕ → Type 0 = λ y. Names spelling known y.0 y.1 in
    subst P (same_Some (register.0, register.1, open_registers ++ register.0 ∷ []) x q) (found_names spelling known (named_in known.registers spelling) register refl p))

redeclared : (w : Where) (done : Deeds) (spelling : List ℕ) (tokens behind : List Spelled) (value : Option Phrase) (c after : ℕ) (r : ℕ × Known × List ℕ)
    → is_next signs.OpenBracket (tokens, c) ≡ false → value_at w.0 (tokens, c) ≡ Some (value, (sign signs.Semicolon ∷ behind, after)) → register_declared spelling w.0 w.1 ≡ Some r
    → declarations_at done (standing_at w (word (words.«Type» location_kinds.Plain) (codes "int") ∷ name spelling ∷ tokens, c)) ≡ Some (Then done (Declared r.0 value), standing_at (r.1, r.2) (behind, after))
unfolding declarations_at kind_at all_declared declaration_at
redeclared w done spelling tokens behind value c after r bracket given registered = rw (bracket, given, registered) refl

declared_once : (d : ℕ) (s : Standing) (x : Deed × Standing) → declaration_at s ≡ Some x → Once d (place s) x.0 (place x.1) × Extends s.known x.1.known
unfolding declaration_at printed_deed statement_with
declared_once d s x h =
    bind_some (name_at s.left) _ x (else_some _ _ x h).1 (λ spelled p q.
    bind_some (value_at s.known spelled.1) _ x (else_some _ _ x q).1 (λ value p' q'.
    bind_some (register_declared spelled.0 s.known s.open_registers) _ x q' (λ r p'' q''.
    let names = declared_names spelled.0 s.known s.open_registers r p'' in
    let P : Deed × Standing → Type 0 = λ y. Once d (place s) y.0 (place y.1) × Extends s.known y.1.known in
    let once : Once d (place s) (Declared r.0 value.0) (r.1, r.2) = (λ late e. (
      record { token = _; more = _; are = refl; no_brace = refl; no_else = refl },
      (λ c behind done off.
          let given = value_twice s.known late (extends_on s.known r.1 late names.later e) spelled.1 value p' c behind in
          let alike : register_name_in late r.0 ≡ spelled.0 = ap (λ (k : Known). register_name_in k r.0) e.1 ∙ name_stays r.1 e.0 r.0 names.there ∙ names.named in (
            given.0,
            ap (λ (n : List ℕ). statement_at d done (standing_at (place s) (word (words.«Type» location_kinds.Plain) (codes "int") ∷ name n ∷ (given_or_not late value.0 ++ behind), c))) alike
                ∙ ap (λ (a : Adds). a done (standing_at (place s) (word (words.«Type» location_kinds.Plain) (codes "int") ∷ name spelled.0 ∷ (given_or_not late value.0 ++ behind), c))) (statement_is d)
                ∙ redeclared (place s) done spelled.0 (given_or_not late value.0 ++ behind) behind value.0 c given.0 r (no_bracket late value.0 c behind) given.1 p'',
          )),
    )) in
    subst P (same_Some (Declared r.0 value.0, record { left = value.1; known = r.1; open_registers = r.2 }) x q'') (once, names.later))))

-- ---- several statements, one after another

abbrev Chain : ℕ → Where → Deeds → Where → Type 0
Chain d w Nothing u = w ≡ u
Chain d w (Then deeds deed) u = (v : Where) × Chain d w deeds v × Once d v deed u × Extends v.0 u.0

one_more : (d : ℕ) (w v u : Where) (deeds : Deeds) (deed : Deed) → Chain d w deeds v → Once d v deed u × Extends v.0 u.0 → Chain d w (Then deeds deed) u
one_more d w v u deeds deed chain once = (v, chain, once.0, once.1)

chain_extends : (d : ℕ) (deeds : Deeds) (w u : Where) → Chain d w deeds u → Extends w.0 u.0
chain_extends d Nothing w u chain = subst (λ (u : Where). Extends w.0 u.0) chain (extends_itself w.0)
chain_extends d (Then deeds deed) w u chain = extends_on w.0 chain.0.0 u.0 (chain_extends d deeds w chain.0 chain.1) chain.3

count : Deeds → ℕ
count Nothing = 0
count (Then deeds deed) = count deeds + 1

-- each has a token at least
some_tokens : (d : ℕ) (deeds : Deeds) (w u : Where) → Chain d w deeds u → (late : Known) → Extends u.0 late → count deeds ≤ length (printed_deeds late deeds)
unfolding printed_deeds count
some_tokens d Nothing w u chain late e = omega arith
some_tokens d (Then deeds deed) w u chain late e =
    let rest = some_tokens d deeds w chain.0 chain.1 late (extends_on chain.0.0 u.0 late chain.3 e) in
    let begins = (chain.2 late e).0 in
    let own : length (printed_deed late deed) ≡ 1 + length begins.more = ap (λ (ts : List Spelled). length ts) begins.are ∙ longer begins.token begins.more in
    let all = length-append (printed_deeds late deeds) (printed_deed late deed) in
    omega (arith, rest, own, all)
  where
    longer : (token : Spelled) (more : List Spelled) → length (token ∷ more) ≡ 1 + length more
    longer token more = omega arith

begins_not : (tokens : List Spelled) (begins : Begins tokens) (c : ℕ) (behind : List Spelled) → (is_next signs.CloseBrace (tokens ++ behind, c) ≡ false) × (is_word words.Else (tokens ++ behind, 0) ≡ false)
begins_not tokens begins c behind = (
  ap (λ (ts : List Spelled). is_next signs.CloseBrace (ts ++ behind, c)) begins.are ∙ begins.no_brace,
  ap (λ (ts : List Spelled). is_word words.Else (ts ++ behind, 0)) begins.are ∙ begins.no_else,
)

statements_step : (one : Adds) (n : ℕ) (done more : Deeds) (s t : Standing) → is_next signs.CloseBrace s.left ≡ false → one done s ≡ Some (more, t) → statements_at one (suc n) done s ≡ statements_at one n more t
unfolding statements_at
statements_step one n done more s t other h =
    ap (λ (b : Bool). cond b (Some (done, moved (passed s.left) s)) (one done s >>= λ read. statements_at one n read.0 read.1)) other
    ∙ ap (λ (o : Option (Deeds × Standing)). o >>= λ read. statements_at one n read.0 read.1) h

chain_read : (d : ℕ) (deeds : Deeds) (w u : Where) → Chain d w deeds u → (late : Known) → Extends u.0 late → (n c : ℕ) (behind : List Spelled) → is_word words.Else (behind, 0) ≡ false
    → (after : ℕ) × (statements_at (statement_at d) (n + count deeds) Nothing (standing_at w (printed_deeds late deeds ++ behind, c)) ≡ statements_at (statement_at d) n deeds (standing_at u (behind, after)))
unfolding printed_deeds count
chain_read d Nothing w u chain late e n c behind off = (
  c,
  ap (λ (k : ℕ). statements_at (statement_at d) k Nothing (standing_at w (behind, c))) (plus_none n)
      ∙ ap (λ (u : Where). statements_at (statement_at d) n Nothing (standing_at u (behind, c))) chain,
)
  where
    plus_none : (n : ℕ) → n + 0 ≡ n
    plus_none n = omega arith
chain_read d (Then deeds deed) w u chain late e n c behind off =
    let v = chain.0 in
    let once = chain.2 late e in
    let more = printed_deed late deed ++ behind in
    let first = chain_read d deeds w v chain.1 late (extends_on v.0 u.0 late chain.3 e) (suc n) c more (begins_not (printed_deed late deed) once.0 c behind).1 in
    let next = once.1 first.0 behind deeds off in (
      next.0,
      ap (λ (k : ℕ). statements_at (statement_at d) k Nothing (standing_at w ((printed_deeds late deeds ++ printed_deed late deed) ++ behind, c))) (regroup n (count deeds))
          ∙ ap (λ (ts : List Spelled). statements_at (statement_at d) (suc n + count deeds) Nothing (standing_at w (ts, c))) (append_assoc (printed_deeds late deeds) (printed_deed late deed) behind)
          ∙ first.1
          ∙ statements_step (statement_at d) n deeds (Then deeds deed) (standing_at v (more, first.0)) (standing_at u (behind, next.0)) (begins_not (printed_deed late deed) once.0 first.0 behind).0 next.1,
    )
  where
    regroup : (n k : ℕ) → n + (k + 1) ≡ suc n + k
    regroup n k = omega arith

-- ---- statements in braces

abbrev inner_end : Where → Where → Where
inner_end w u = (u.0, take (length w.1) u.1)

braces_again : (d : ℕ) (deeds : Deeds) (w u : Where) → Chain d w deeds u → (late : Known) → Extends u.0 late → (c : ℕ) (behind : List Spelled)
    → (after : ℕ) × (block_with (statement_at d) (standing_at w (in_braces (printed_deeds late deeds) ++ behind, c)) ≡ Some (deeds, standing_at (inner_end w u) (behind, after)))
unfolding block_with statements_at
braces_again d deeds w u chain late e c behind =
    let close = sign signs.CloseBrace ∷ behind in
    let tokens = printed_deeds late deeds in
    let some = some_tokens d deeds w u chain late e in
    let len = length-append tokens close in
    let long : length close ≡ 1 + length behind = longer (sign signs.CloseBrace) behind in
    let spare = length (tokens ++ close) - (count deeds + 1) in
    let enough : length (tokens ++ close) ≡ suc spare + count deeds = omega (arith, some, len, long) in
    let read = chain_read d deeds w u chain late e (suc spare) c close refl in
    let whole : statements_at (statement_at d) (length (tokens ++ close)) Nothing (standing_at w (tokens ++ close, c)) ≡ Some (deeds, standing_at u (behind, read.0)) =
    ap (λ (k : ℕ). statements_at (statement_at d) k Nothing (standing_at w (tokens ++ close, c))) enough ∙ read.1 ∙ at_brace (statement_at d) spare deeds (standing_at u (close, read.0)) refl in (
      read.0,
      ap (λ (ts : List Spelled). after_sign signs.OpenBrace (sign signs.OpenBrace ∷ ts, c) >>= λ left. statements_at (statement_at d) (length left.0) Nothing (standing_at w left) >>= λ read. Some (read.0, closed w.1 read.1))
          (append_assoc tokens (sign signs.CloseBrace ∷ []) behind)
          ∙ ap (λ (o : Option (Deeds × Standing)). o >>= λ read. Some (read.0, closed w.1 read.1)) whole,
    )
  where
    longer : (token : Spelled) (more : List Spelled) → length (token ∷ more) ≡ 1 + length more
    longer token more = omega arith

    at_brace : (one : Adds) (n : ℕ) (done : Deeds) (s : Standing) → is_next signs.CloseBrace s.left ≡ true → statements_at one (suc n) done s ≡ Some (done, moved (passed s.left) s)
    at_brace one n done s h = ap (λ (b : Bool). cond b (Some (done, moved (passed s.left) s)) (one done s >>= λ read. statements_at one n read.0 read.1)) h

-- What was read in braces, or alone: it is read again in braces.
record Twice (d : ℕ) (s : Standing) (x : Deeds × Standing) : Type 0 where
  later : Extends s.known x.1.known
  none : x.0 ≡ Nothing → place x.1 ≡ place s
  again : (late : Known) → Extends x.1.known late → (c : ℕ) (behind : List Spelled)
      → (after : ℕ) × (block_with (statement_at d) (standing_at (place s) (in_braces (printed_deeds late x.0) ++ behind, c)) ≡ Some (x.0, standing_at (place x.1) (behind, after)))

twice_closed : (d : ℕ) (s : Standing) (y : Deeds × Standing) → Chain d (place s) y.0 (place y.1) → Twice d s (y.0, closed s.open_registers y.1)
twice_closed d s y chain = record {
  later = chain_extends d y.0 (place s) (place y.1) chain;
  none = λ empty.
      let stays : place s ≡ place y.1 = subst (λ (deeds : Deeds). Chain d (place s) deeds (place y.1)) empty chain in
      let opened : List ℕ → Where = λ rs. (s.known, rs) in
      ap (λ (w : Where). inner_end (place s) w) (sym stays) ∙ ap opened (take-length s.open_registers);
  again = λ late e c behind. braces_again d y.0 (place s) (place y.1) chain late e c behind;
}

-- what a statement adds goes on with the chain
abbrev Continues : ℕ → Type 0
Continues d = (w : Where) (done : Deeds) (s : Standing) (x : Deeds × Standing) → Chain d w done (place s) → statement_at d done s ≡ Some x → Chain d w x.0 (place x.1)

module _ (d : ℕ) (continues : Continues d) where
  statements_chain : (n : ℕ) (w : Where) (done : Deeds) (s : Standing) (x : Deeds × Standing) → Chain d w done (place s) → statements_at (statement_at d) n done s ≡ Some x → Chain d w x.0 (place x.1)
  unfolding statements_at
  statements_chain zero w done s x chain h = absurd (none-some x h)
  statements_chain (suc n) w done s x chain h = elim (cases_Bool (is_next signs.CloseBrace s.left)) [
    | inl found ↦
        let P : Deeds × Standing → Type 0 = λ y. Chain d w y.0 (place y.1) in
        subst P (same_Some (done, moved (passed s.left) s) x (rw found at h)) chain
    | inr other ↦ bind_some (statement_at d done s) _ x (rw other at h) (λ read p q. statements_chain n w read.0 read.1 x (continues w done s read chain p) q)
  ]

  block_twice : (s : Standing) (x : Deeds × Standing) → block_with (statement_at d) s ≡ Some x → Twice d s x
  unfolding block_with
  block_twice s x h =
      bind_some (after_sign signs.OpenBrace s.left) _ x h (λ l p q.
      bind_some (statements_at (statement_at d) (length l.0) Nothing (moved l s)) _ x q (λ read p' q'.
      let chain = statements_chain (length l.0) (place s) Nothing (moved l s) read refl p' in
      subst (λ (y : Deeds × Standing). Twice d s y) (same_Some (read.0, closed s.open_registers read.1) x q') (twice_closed d s read chain)))

  branch_twice : (s : Standing) (x : Deeds × Standing) → branch_with (statement_at d) s ≡ Some x → Twice d s x
  unfolding branch_with
  branch_twice s x h = elim (cases_Bool (is_next signs.OpenBrace s.left)) [
    | inl found ↦ block_twice s x (rw found at h)
    | inr other ↦ bind_some (statement_at d Nothing s) _ x (rw other at h) (λ read p q.
        subst (λ (y : Deeds × Standing). Twice d s y) (same_Some (read.0, closed s.open_registers read.1) x q) (twice_closed d s read (continues (place s) Nothing s read refl p)))
  ]

  -- in braces it is a branch
  branch_again : (s : Standing) (x : Deeds × Standing) → Twice d s x → (late : Known) → Extends x.1.known late → (c : ℕ) (behind : List Spelled)
      → (after : ℕ) × (branch_with (statement_at d) (standing_at (place s) (in_braces (printed_deeds late x.0) ++ behind, c)) ≡ Some (x.0, standing_at (place x.1) (behind, after)))
  unfolding branch_with
  branch_again s x twice late e c behind = twice.again late e c behind

  -- ---- `else`

  record TwiceElse (s : Standing) (x : Deeds × Standing) : Type 0 where
    later : Extends s.known x.1.known
    again : (late : Known) → Extends x.1.known late → (c : ℕ) (behind : List Spelled) → is_word words.Else (behind, 0) ≡ false
        → (after : ℕ) × (otherwise_with (statement_at d) (standing_at (place s) (printed_otherwise late x.0 ++ behind, c)) ≡ Some (x.0, standing_at (place x.1) (behind, after)))

  without_else : (s : Standing) (c : ℕ) (behind : List Spelled) → is_word words.Else (behind, 0) ≡ false → otherwise_with (statement_at d) (standing_at (place s) (behind, c)) ≡ Some (Nothing, standing_at (place s) (behind, c))
  unfolding otherwise_with
  without_else s c behind off =
      ap (λ (b : Bool). cond b (branch_with (statement_at d) (standing_at (place s) (passed (behind, c)))) (Some (Nothing, standing_at (place s) (behind, c)))) off

  else_again : (deeds : Deeds) (s t : Standing) → Twice d s (deeds, t) → (late : Known) → Extends t.known late → (c : ℕ) (behind : List Spelled) → is_word words.Else (behind, 0) ≡ false
      → (after : ℕ) × (otherwise_with (statement_at d) (standing_at (place s) (printed_otherwise late deeds ++ behind, c)) ≡ Some (deeds, standing_at (place t) (behind, after)))
  unfolding otherwise_with printed_otherwise printed_deeds branch_with
  else_again Nothing s t twice late e c behind off = (
    c,
    let at_end : Where → Option (Deeds × Standing) = λ w. Some (Nothing, standing_at w (behind, c)) in without_else s c behind off ∙ ap at_end (sym (twice.none refl)),
  )
  else_again (Then deeds deed) s t twice late e c behind off = twice.again late e c behind

  otherwise_twice : (s : Standing) (x : Deeds × Standing) → otherwise_with (statement_at d) s ≡ Some x → TwiceElse s x
  unfolding otherwise_with printed_otherwise
  otherwise_twice s x h = elim (cases_Bool (is_word words.Else s.left)) [
    | inl found ↦
        let twice = branch_twice (moved (passed s.left) s) x (rw found at h) in
        record { later = twice.later; again = λ late e c behind off. else_again x.0 (moved (passed s.left) s) x.1 twice late e c behind off }
    | inr other ↦
        subst (λ (y : Deeds × Standing). TwiceElse s y) (same_Some (Nothing, s) x (rw other at h))
        (record { later = extends_itself s.known; again = λ late e c behind off. (c, without_else s c behind off) })
  ]

  -- ---- an expression in parentheses

  record TwiceTested (s : Standing) (x : Phrase × Standing) : Type 0 where
    stays : place x.1 ≡ place s
    again : (late : Known) → Extends s.known late → (c : ℕ) (behind : List Spelled)
        → tested_at (standing_at (place s) (tested late x.0 ++ behind, c)) ≡ Some (x.0, standing_at (place s) (behind, operators x.0))

  tested_twice : (s : Standing) (x : Phrase × Standing) → tested_at s ≡ Some x → TwiceTested s x
  unfolding tested_at operator_at
  tested_twice s x h =
      bind_some (after_sign signs.OpenParenthesis s.left) _ x h (λ l p q.
      bind_some (expression_at s.known l) _ x q (λ f p' q'.
      bind_some (after_sign signs.CloseParenthesis f.1) _ x q' (λ l' p'' q''.
      subst (λ (y : Phrase × Standing). TwiceTested s y) (same_Some (f.0, moved l' s) x q'') (record {
        stays = refl;
        again = λ late e c behind. tested_so s f.0 (printed_phrase late 1 f.0) behind c (operators f.0) (expression_again s.known late e l f p' c (closing ++ behind) refl refl);
      }))))
    where
      tested_so : (s : Standing) (f : Phrase) (tokens behind : List Spelled) (c n : ℕ) → expression_at s.known (tokens ++ (closing ++ behind), c) ≡ Some (f, (closing ++ behind, n))
          → tested_at (standing_at (place s) (sign signs.OpenParenthesis ∷ ((tokens ++ closing) ++ behind), c)) ≡ Some (f, standing_at (place s) (behind, n))
      tested_so s f tokens behind c n h = ap (λ (ts : List Spelled). tested_at (standing_at (place s) (sign signs.OpenParenthesis ∷ ts, c))) (append_assoc tokens closing behind) ∙ rw h refl

  -- ---- statements that hold others

  -- It is read again behind its first word, as what it is, and stands as it stood.
  record TwiceHeld (s : Standing) (x : Deed × Standing) (first : Spelled) : Type 0 where
    later : Extends s.known x.1.known
    begins : (late : Known) → (more : List Spelled) × (printed_deed late x.0 ≡ first ∷ more)
    again : (late : Known) → Extends x.1.known late → (c : ℕ) (behind : List Spelled) → is_word words.Else (behind, 0) ≡ false
        → (after : ℕ) × (action_with (Some (statement_at d)) (standing_at (place s) (printed_deed late x.0 ++ behind, c)) ≡ Some (x.0, standing_at (place x.1) (behind, after)))

  -- the three parts of a choice
  chosen_again : (s t u : Standing) (condition : Phrase) (first otherwise : Deeds) (v : Standing) → TwiceTested s (condition, t) → Twice d t (first, u) → TwiceElse u (otherwise, v)
      → TwiceHeld s (Chosen condition first otherwise, v) (word words.If (codes "if"))
  unfolding printed_deed action_with choice_with
  chosen_again s t u condition first otherwise v tested_ body rest = record {
    later = subst (λ (w : Where). Extends w.0 v.known) tested_.stays (extends_on t.known u.known v.known body.later rest.later);
    begins = λ late. (_, refl);
    again = λ late e c behind off.
        let alternative = printed_otherwise late otherwise ++ behind in
        let braces = in_braces (printed_deeds late first) ++ alternative in
        let from_t : Extends t.known late = extends_on t.known u.known late body.later (extends_on u.known v.known late rest.later e) in
        let from_s : Extends s.known late = subst (λ (w : Where). Extends w.0 late) tested_.stays from_t in
        let a = tested_.again late from_s c braces in
        let b = branch_again t (first, u) body late (extends_on u.known v.known late rest.later e) (operators condition) alternative in
        let b' : branch_with (statement_at d) (standing_at (place s) (braces, operators condition)) ≡ Some (first, standing_at (place u) (alternative, b.0)) =
        subst (λ (w : Where). branch_with (statement_at d) (standing_at w (braces, operators condition)) ≡ Some (first, standing_at (place u) (alternative, b.0))) tested_.stays b.1 in
        let f = rest.again late e b.0 behind off in
        let regrouped : (tested late condition ++ (in_braces (printed_deeds late first) ++ printed_otherwise late otherwise)) ++ behind ≡ tested late condition ++ braces =
        append_assoc (tested late condition) (in_braces (printed_deeds late first) ++ printed_otherwise late otherwise) behind
        ∙ ap (λ (ts : List Spelled). tested late condition ++ ts) (append_assoc (in_braces (printed_deeds late first)) (printed_otherwise late otherwise) behind) in
        let read : choice_with (statement_at d) (standing_at (place s) (tested late condition ++ braces, c)) ≡ Some (Chosen condition first otherwise, standing_at (place v) (behind, f.0)) =
        then_some (tested_at (standing_at (place s) (tested late condition ++ braces, c))) _ (condition, standing_at (place s) (braces, operators condition)) _ a
        (then_some (branch_with (statement_at d) (standing_at (place s) (braces, operators condition))) _ (first, standing_at (place u) (alternative, b.0)) _ b'
        (then_some (otherwise_with (statement_at d) (standing_at (place u) (alternative, b.0))) _ (otherwise, standing_at (place v) (behind, f.0)) _ f.1 refl)) in
        (f.0, ap (λ (ts : List Spelled). choice_with (statement_at d) (standing_at (place s) (ts, c))) regrouped ∙ read);
  }

  choice_twice : (s : Standing) (x : Deed × Standing) → choice_with (statement_at d) s ≡ Some x → TwiceHeld s x (word words.If (codes "if"))
  unfolding choice_with
  choice_twice s x h =
      bind_some (tested_at s) _ x h (λ condition p q.
      bind_some (branch_with (statement_at d) condition.1) _ x q (λ first p' q'.
      bind_some (otherwise_with (statement_at d) first.1) _ x q' (λ otherwise p'' q''.
      subst (λ (y : Deed × Standing). TwiceHeld s y (word words.If (codes "if"))) (same_Some (Chosen condition.0 first.0 otherwise.0, otherwise.1) x q'')
      (chosen_again s condition.1 first.1 condition.0 first.0 otherwise.0 otherwise.1 (tested_twice s condition p) (branch_twice condition.1 first p') (otherwise_twice first.1 otherwise p'')))))

  repeated_again : (s t u : Standing) (condition : Phrase) (body : Deeds) → TwiceTested s (condition, t) → Twice d t (body, u) → TwiceHeld s (Repeated condition body, u) (word words.While (codes "while"))
  unfolding printed_deed action_with repetition_with
  repeated_again s t u condition body tested_ twice = record {
    later = subst (λ (w : Where). Extends w.0 u.known) tested_.stays twice.later;
    begins = λ late. (_, refl);
    again = λ late e c behind off.
        let braces = in_braces (printed_deeds late body) ++ behind in
        let from_s : Extends s.known late = subst (λ (w : Where). Extends w.0 late) tested_.stays (extends_on t.known u.known late twice.later e) in
        let a = tested_.again late from_s c braces in
        let b = branch_again t (body, u) twice late e (operators condition) behind in
        let b' : branch_with (statement_at d) (standing_at (place s) (braces, operators condition)) ≡ Some (body, standing_at (place u) (behind, b.0)) =
        subst (λ (w : Where). branch_with (statement_at d) (standing_at w (braces, operators condition)) ≡ Some (body, standing_at (place u) (behind, b.0))) tested_.stays b.1 in
        let read : repetition_with (statement_at d) (standing_at (place s) (tested late condition ++ braces, c)) ≡ Some (Repeated condition body, standing_at (place u) (behind, b.0)) =
        then_some (tested_at (standing_at (place s) (tested late condition ++ braces, c))) _ (condition, standing_at (place s) (braces, operators condition)) _ a
        (then_some (branch_with (statement_at d) (standing_at (place s) (braces, operators condition))) _ (body, standing_at (place u) (behind, b.0)) _ b' refl) in
        (b.0, ap (λ (ts : List Spelled). repetition_with (statement_at d) (standing_at (place s) (ts, c))) (append_assoc (tested late condition) (in_braces (printed_deeds late body)) behind) ∙ read);
  }

  repetition_twice : (s : Standing) (x : Deed × Standing) → repetition_with (statement_at d) s ≡ Some x → TwiceHeld s x (word words.While (codes "while"))
  unfolding repetition_with
  repetition_twice s x h =
      bind_some (tested_at s) _ x h (λ condition p q.
      bind_some (branch_with (statement_at d) condition.1) _ x q (λ body p' q'.
      subst (λ (y : Deed × Standing). TwiceHeld s y (word words.While (codes "while"))) (same_Some (Repeated condition.0 body.0, body.1) x q')
      (repeated_again s condition.1 body.1 condition.0 body.0 (tested_twice s condition p) (branch_twice condition.1 body p'))))

  late_again : (s t : Standing) (condition : Phrase) (body : Deeds) (u : Standing) → Twice d s (body, t) → TwiceTested t (condition, u) → TwiceHeld s (RepeatedLate body condition, u) (word words.Do (codes "do"))
  unfolding printed_deed action_with late_repetition_with
  late_again s t condition body u twice tested_ = record {
    later = subst (λ (w : Where). Extends s.known w.0) (sym tested_.stays) twice.later;
    begins = λ late. (_, refl);
    again = λ late e c behind off.
        let ending = tested late condition ++ (sign signs.Semicolon ∷ behind) in
        let ending_so = word words.While (codes "while") ∷ ending in
        let from_t : Extends t.known late = subst (λ (w : Where). Extends w.0 late) tested_.stays e in
        let b = branch_again s (body, t) twice late from_t c ending_so in
        let a = tested_.again late from_t b.0 (sign signs.Semicolon ∷ behind) in
        let regrouped : (in_braces (printed_deeds late body) ++ (word words.While (codes "while") ∷ (tested late condition ++ semicolon))) ++ behind ≡ in_braces (printed_deeds late body) ++ ending_so =
        append_assoc (in_braces (printed_deeds late body)) (word words.While (codes "while") ∷ (tested late condition ++ semicolon)) behind
        ∙ ap (λ (ts : List Spelled). in_braces (printed_deeds late body) ++ (word words.While (codes "while") ∷ ts)) (append_assoc (tested late condition) semicolon behind) in
        let at_end : Where → Option (Deed × Standing) = λ w. Some (RepeatedLate body condition, standing_at w (behind, operators condition)) in
        let read : late_repetition_with (statement_at d) (standing_at (place s) (in_braces (printed_deeds late body) ++ ending_so, c)) ≡ at_end (place u) =
        then_some (branch_with (statement_at d) (standing_at (place s) (in_braces (printed_deeds late body) ++ ending_so, c))) _ (body, standing_at (place t) (ending_so, b.0)) _ b.1
        (then_some (tested_at (standing_at (place t) (ending, b.0))) _ (condition, standing_at (place t) (sign signs.Semicolon ∷ behind, operators condition)) _ a
        (ap at_end (sym tested_.stays))) in
        (operators condition, ap (λ (ts : List Spelled). late_repetition_with (statement_at d) (standing_at (place s) (ts, c))) regrouped ∙ read);
  }

  -- whatever is left
  retested : (s : Standing) (before behind : Left) (f : Phrase) (t : Standing) → TwiceTested (moved before s) (f, t) → TwiceTested s (f, moved behind t)
  retested s before behind f t tested_ = record { stays = tested_.stays; again = tested_.again }

  late_repetition_twice : (s : Standing) (x : Deed × Standing) → late_repetition_with (statement_at d) s ≡ Some x → TwiceHeld s x (word words.Do (codes "do"))
  unfolding late_repetition_with
  late_repetition_twice s x h =
      bind_some (branch_with (statement_at d) s) _ x h (λ body p q.
      let some = when_some (is_word words.While body.1.left) _ x q in
      bind_some (tested_at (moved (passed body.1.left) body.1)) _ x some.1 (λ condition p' q'.
      bind_some (after_sign signs.Semicolon condition.1.left) _ x q' (λ l p'' q''.
      subst (λ (y : Deed × Standing). TwiceHeld s y (word words.Do (codes "do"))) (same_Some (RepeatedLate body.0 condition.0, moved l condition.1) x q'')
      (late_again s body.1 condition.0 body.0 (moved l condition.1) (branch_twice s body p) (retested body.1 (passed body.1.left) l condition.0 condition.1 (tested_twice (moved (passed body.1.left) body.1) condition p'))))))

  -- a block that isn't empty is written in braces, and an empty one as `;`
  held_again : (s t : Standing) (body : Deeds) → Twice d s (body, t) → (late : Known) → Extends t.known late → (done : Deeds) (c : ℕ) (behind : List Spelled)
      → (after : ℕ) × (action_with (Some (statement_at d)) (standing_at (place s) (printed_deed late (Held body) ++ behind, c)) ≡ Some (Held body, standing_at (place t) (behind, after)))
  unfolding printed_deed printed_deeds action_with ended_at simple_at
  held_again s t Nothing twice late e done c behind = (c, ap (λ (w : Where). Some (Held Nothing, standing_at w (behind, c))) (sym (twice.none refl)))
  held_again s t (Then deeds deed) twice late e done c behind =
      let b = twice.again late e c behind in
      (b.0, ap (λ (o : Option (Deeds × Standing)). o >>= λ body. Some (Held body.0, body.1)) b.1)

  -- ---- a statement that holds others, as one more

  record NotPlain (kind : TokenKind) : Type 0 where
    no_declaration : begins_declaration kind ≡ false
    no_brace : (same.ghosts).eq kind (kinds.Symbol signs.CloseBrace) ≡ false
    no_else : (same.ghosts).eq kind (kinds.Word words.Else) ≡ false

  as_action : (done : Deeds) (s t : Standing) (deed : Deed) → begins_declaration (next s.left).0 ≡ false → action_with (Some (statement_at d)) s ≡ Some (deed, t) → statement_at (suc d) done s ≡ Some (Then done deed, t)
  unfolding statement_at statement_with
  as_action done s t deed other h =
      ap (λ (b : Bool). cond b (declarations_at done s) (action_with (Some (statement_at d)) s >>= λ deed. Some (Then done deed.0, deed.1))) other
      ∙ ap (λ (o : Option (Deed × Standing)). o >>= λ deed. Some (Then done deed.0, deed.1)) h

  once_held : (s : Standing) (x : Deed × Standing) (first : Spelled) → NotPlain first.0 → TwiceHeld s x first → Once (suc d) (place s) x.0 (place x.1) × Extends s.known x.1.known
  once_held s x first plain twice = (
    (λ late e.
        let b = twice.begins late in (
          record { token = first; more = b.0; are = b.1; no_brace = plain.no_brace; no_else = plain.no_else },
          (λ c behind done off.
              let a = twice.again late e c behind off in
              let other : begins_declaration (next (printed_deed late x.0 ++ behind, c)).0 ≡ false =
              ap (λ (ts : List Spelled). begins_declaration (next (ts ++ behind, c)).0) b.1 ∙ plain.no_declaration in
              (a.0, as_action done (standing_at (place s) (printed_deed late x.0 ++ behind, c)) (standing_at (place x.1) (behind, a.0)) x.0 other a.1)),
        )),
    twice.later,
  )

  once_block : (s t : Standing) (body : Deeds) → Twice d s (body, t) → Once (suc d) (place s) (Held body) (place t)
  unfolding printed_deed
  once_block s t Nothing twice late e = (
    record { token = sign signs.Semicolon; more = []; are = refl; no_brace = refl; no_else = refl },
    (λ c behind done off.
        let a = held_again s t Nothing twice late e done c behind in
        (a.0, as_action done (standing_at (place s) (semicolon ++ behind, c)) (standing_at (place t) (behind, a.0)) (Held Nothing) refl a.1)),
  )
  once_block s t (Then deeds deed) twice late e = (
    record { token = sign signs.OpenBrace; more = _; are = refl; no_brace = refl; no_else = refl },
    (λ c behind done off.
        let a = held_again s t (Then deeds deed) twice late e done c behind in
        (a.0, as_action done (standing_at (place s) (printed_deed late (Held (Then deeds deed)) ++ behind, c)) (standing_at (place t) (behind, a.0)) (Held (Then deeds deed)) refl a.1)),
  )

  action_once : (kind : TokenKind) (s : Standing) (x : Deed × Standing) → action_from (Some (statement_at d)) kind s ≡ Some x → Once (suc d) (place s) x.0 (place x.1) × Extends s.known x.1.known
  action_once (kinds.Word words.If) s x h =
      once_held (moved (passed s.left) s) x (word words.If (codes "if")) (record { no_declaration = refl; no_brace = refl; no_else = refl }) (choice_twice (moved (passed s.left) s) x h)
  action_once (kinds.Word words.While) s x h =
      once_held (moved (passed s.left) s) x (word words.While (codes "while")) (record { no_declaration = refl; no_brace = refl; no_else = refl }) (repetition_twice (moved (passed s.left) s) x h)
  action_once (kinds.Word words.Do) s x h =
      once_held (moved (passed s.left) s) x (word words.Do (codes "do")) (record { no_declaration = refl; no_brace = refl; no_else = refl }) (late_repetition_twice (moved (passed s.left) s) x h)
  action_once (kinds.Symbol signs.OpenBrace) s x h =
      bind_some (block_with (statement_at d) s) _ x h (λ body p q.
      let twice = block_twice s body p in
      let P : Deed × Standing → Type 0 = λ y. Once (suc d) (place s) y.0 (place y.1) × Extends s.known y.1.known in
      subst P (same_Some (Held body.0, body.1) x q) (once_block s body.1 body.0 twice, twice.later))
  action_once _ s x h = ended_once (suc d) s x h

-- ---- at each depth

declared_chain : (d n : ℕ) (w : Where) (done : Deeds) (s : Standing) (x : Deeds × Standing) → Chain d w done (place s) → all_declared n done s ≡ Some x → Chain d w x.0 (place x.1)
unfolding all_declared
declared_chain d zero w done s x chain h = absurd (none-some x h)
declared_chain d (suc n) w done s x chain h =
    bind_some (declaration_at s) _ x h (λ declared p q.
    let more = one_more d w (place s) (place declared.1) done declared.0 chain (declared_once d s declared p) in
    elim (cases_Bool (is_next signs.Comma declared.1.left)) [
      | inl found ↦ declared_chain d n w (Then done declared.0) (moved (passed declared.1.left) declared.1) x more (rw found at q)
      | inr other ↦ bind_some (after_sign signs.Semicolon declared.1.left) _ x (rw other at q) (λ l p' q'.
          let P : Deeds × Standing → Type 0 = λ y. Chain d w y.0 (place y.1) in
          subst P (same_Some (Then done declared.0, moved l declared.1) x q') more)
    ])

of_kind_chain : (d : ℕ) (kind : Option Kind) (left : Left) (w : Where) (done : Deeds) (s : Standing) (x : Deeds × Standing) → Chain d w done (place s) → declarations_of kind left done s ≡ Some x → Chain d w x.0 (place x.1)
of_kind_chain d (Some location_kinds.Plain) left w done s x chain h = declared_chain d (length left.0) w done (moved left s) x chain h
of_kind_chain d _ left w done s x chain h = absurd (none-some x h)

declarations_chain : (d : ℕ) (w : Where) (done : Deeds) (s : Standing) (x : Deeds × Standing) → Chain d w done (place s) → declarations_at done s ≡ Some x → Chain d w x.0 (place x.1)
unfolding declarations_at
declarations_chain d w done s x chain h = bind_some (kind_at s.left) _ x h (λ kind p q. of_kind_chain d kind.0 kind.1 w done s x chain q)

-- with nothing inside
action_alone : (kind : TokenKind) (s : Standing) (x : Deed × Standing) → action_from None kind s ≡ Some x → Once 0 (place s) x.0 (place x.1) × Extends s.known x.1.known
action_alone (kinds.Word words.If) s x h = absurd (none-some x h)
action_alone (kinds.Word words.While) s x h = absurd (none-some x h)
action_alone (kinds.Word words.Do) s x h = absurd (none-some x h)
action_alone (kinds.Symbol signs.OpenBrace) s x h = absurd (none-some x h)
action_alone _ s x h = ended_once 0 s x h

continues_with : (d : ℕ) (inside : Option Adds) → ((s : Standing) (x : Deed × Standing) → action_with inside s ≡ Some x → Once d (place s) x.0 (place x.1) × Extends s.known x.1.known)
    → (w : Where) (done : Deeds) (s : Standing) (x : Deeds × Standing) → Chain d w done (place s) → statement_with inside done s ≡ Some x → Chain d w x.0 (place x.1)
unfolding statement_with
continues_with d inside once w done s x chain h = elim (cases_Bool (begins_declaration (next s.left).0)) [
  | inl found ↦ declarations_chain d w done s x chain (rw found at h)
  | inr other ↦ bind_some (action_with inside s) _ x (rw other at h) (λ deed p q.
      let P : Deeds × Standing → Type 0 = λ y. Chain d w y.0 (place y.1) in
      subst P (same_Some (Then done deed.0, deed.1) x q) (one_more d w (place s) (place deed.1) done deed.0 chain (once s deed p)))
]

continues : (d : ℕ) → Continues d
unfolding statement_at action_with
continues zero w done s x chain h = continues_with 0 None (λ s x h. action_alone (next s.left).0 s x h) w done s x chain h
continues (suc d) w done s x chain h = continues_with (suc d) (Some (statement_at d)) (λ s x h. action_once d (continues d) (next s.left).0 s x h) w done s x chain h

pub blocks_read_back : BlocksReadBack
blocks_read_back standing read behind n h =
    let again = (block_twice 64 (continues 64) standing read h).again read.1.known (extends_itself read.1.known) n behind in
    (again.0, again.1)

-- at its end no name is forgotten
pub blocks_extend : (standing : Standing) (read : Deeds × Standing) → block_with (statement_at 64) standing ≡ Some read → Extends standing.known read.1.known
blocks_extend standing read h = (block_twice 64 (continues 64) standing read h).later
