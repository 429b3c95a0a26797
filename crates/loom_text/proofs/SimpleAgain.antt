-- What is written of a statement that holds no others is read as the same.
use Rattle.std.proofs.Common.{◌≡◌, ℕ, ◌+◌, ◌≤◌, List, ◌∷◌, ◌++◌, Bool, true, false, Option, Some, None, codes, refl, sym, ap, subst, ◌∙◌, append_assoc, arith}
use Rattle.std.proofs.lemmas.Bool.{false_from_ne_true}
use Rattle.std.proofs.lemmas.Option.{cond_some, none-some, same_Some}
use Rattle.std.specs.declared.sync.atomic.Ordering.{Ordering}
use Rattle.loom_text.specs.contracts.read.token.TokenKindPartialEq.TheImpl as same
use Rattle.loom_text.specs.declared.read.parser.TheConstants.{MAX_DEPTH, MAX_OPERATORS}
use Rattle.loom_text.specs.declared.read.symbol.Symbol.TheVariants as signs
use Rattle.loom_text.specs.declared.read.token.TokenKind.{TokenKind}
use Rattle.loom_text.specs.declared.read.token.TokenKind.TheVariants as kinds
use Rattle.loom_text.specs.declared.read.word.Function.{Function}
use Rattle.loom_text.specs.declared.read.word.Function.TheVariants as functions
use Rattle.loom_text.specs.declared.read.word.Word.TheVariants as words
use Rattle.loom_text.specs.declared.test.Kind.{Kind}
use Rattle.loom_text.specs.declared.test.Kind.TheVariants as location_kinds
use Rattle.loom_text.specs.declared.test.Strength.{Strength}
use Rattle.loom_text.specs.Blocks.{calling_of, printed_deed, semicolon}
use Rattle.loom_text.specs.Deeds.{Deed, Declared, Assigned, Written, Stored, Evaluated, Fenced, Chosen, Repeated, RepeatedLate, Held, Locked, Unlocked, Waited, Signalled, Broadcasted, Yielded, Asserted, Nothing, Then}
use Rattle.loom_text.specs.Expressions.{Phrase, Constant, OfRegister, Pointed, Signed, Between, Loaded, Exchanged, Fetched, Compared, ComparedRegister, ComparedPlain, Tried, Comparand, ByValue, ByRegister, ByPlain, Readers, argument_at, arguments_at, arguments_of, begin_arguments_at, call_at, compared_at, comparing, compare_exchange_at, end_arguments_at, exchange_at, expression_at, fetch_at, first_location_at, inside, load_order_at, location_at, next_argument_at, operator_at, order_at, order_from, parameter_named, many_with, one_from, one_with, operators_at, pointed_at, primary_from, primary_with, readers, register_from}
use Rattle.loom_text.specs.Known.{Known, name_of}
use Rattle.loom_text.specs.Phrases.{IsAtomic, IsFoundRegister, IsWritablePhrase, calling, closing, comma_order, location_token, operators, phrase_depth, printed_phrase, register_name_in}
use Rattle.loom_text.specs.Printing.{name, sign}
use Rattle.loom_text.specs.Readable.{word}
use Rattle.loom_text.specs.Statements.{assert_at, assignment_at, call_statement_at, effect_at, evaluated_at, fence_at, for_a_store, of_location, simple_at, simple_from, store_at, wait_at, write_at}
use Rattle.loom_text.specs.Tokens.{Left, Spelled, ◌>>=◌, after_sign, is_next, next, passed}
use Rattle.loom_text.proofs.ConditionsFit.{bind_some, else_some}
use Rattle.loom_text.proofs.ExpressionsAgain.{again_of, called}
use Rattle.loom_text.proofs.ExpressionsFit.{call_fits, location_fits, first_fits, readers_fit, register_read}
use Rattle.loom_text.proofs.KnownLater.{Extends, expression_again, found_stays, written_alike}

true_false : true ≡ false → ⊥
true_false h = cc

-- ---- statements that hold no others

-- a call
abbrev pub IsCall : Phrase → Type 0
IsCall (Constant value) = ⊥
IsCall (OfRegister register) = ⊥
IsCall (Pointed location) = ⊥
IsCall (Signed operator operand) = ⊥
IsCall (Between operator left right) = ⊥
IsCall (Loaded location order) = Unit {0}
IsCall (Exchanged location value order) = Unit {0}
IsCall (Fetched operator location value order) = Unit {0}
IsCall (Compared strength location compared value success failure) = Unit {0}
IsCall (ComparedRegister strength location register value success failure) = Unit {0}
IsCall (ComparedPlain strength location plain value success failure) = Unit {0}
IsCall (Tried mutex) = Unit {0}

-- it holds no others, and declares nothing
abbrev pub IsSimple : Deed → Type 0
IsSimple (Declared register value) = ⊥
IsSimple (Assigned register value) = Unit {0}
IsSimple (Written location value) = Unit {0}
IsSimple (Stored location value order) = Unit {0}
IsSimple (Evaluated call) = IsCall call
IsSimple (Fenced order) = Unit {0}
IsSimple (Chosen condition first otherwise) = ⊥
IsSimple (Repeated condition body) = ⊥
IsSimple (RepeatedLate body condition) = ⊥
IsSimple (Held Nothing) = Unit {0}
IsSimple (Held (Then deeds deed)) = ⊥
IsSimple (Locked mutex) = Unit {0}
IsSimple (Unlocked mutex) = Unit {0}
IsSimple (Waited condvar mutex) = Unit {0}
IsSimple (Signalled condvar) = Unit {0}
IsSimple (Broadcasted condvar) = Unit {0}
IsSimple Yielded = Unit {0}
IsSimple (Asserted condition) = Unit {0}

-- what is written of it is read as it, up to its semicolon
abbrev pub Rereads : Known → Deed → Type 0
Rereads known deed = (late : Known) → Extends known late → (c : ℕ) (behind : List Spelled)
    → (after : ℕ) × (simple_at known (printed_deed late deed ++ behind, c) ≡ Some (deed, (sign signs.Semicolon ∷ behind, after)))

abbrev pub Again : Known → Deed → Type 0
Again known deed = IsSimple deed × Rereads known deed

-- the names of a later time
register_late : (known late : Known) → Extends known late → (register : ℕ) → IsFoundRegister known register → register_name_in late register ≡ register_name_in known register
register_late known late e register found = ap (λ (k : Known). register_name_in k register) e.1 ∙ found_stays known e.0 register found

location_late : (known late : Known) → Extends known late → (location : ℕ) → location_token late location ≡ location_token known location
location_late known late e location = ap (λ (k : Known). location_token k location) e.1

-- an expression before its semicolon
pub value_again : (known late : Known) → Extends known late → (left : Left) (read : Phrase × Left) → expression_at known left ≡ Some read → (c : ℕ) (behind : List Spelled)
    → expression_at known (printed_phrase late 1 read.0 ++ (sign signs.Semicolon ∷ behind), c) ≡ Some (read.0, (sign signs.Semicolon ∷ behind, operators read.0))
unfolding operator_at
value_again known late e left read h c behind = expression_again known late e left read h c (sign signs.Semicolon ∷ behind) refl refl

-- ---- an assignment

assigned : (known : Known) (r : ℕ) (f : Phrase) (tokens behind : List Spelled) (c n : ℕ) → IsFoundRegister known r → expression_at known (tokens ++ (sign signs.Semicolon ∷ behind), c) ≡ Some (f, (sign signs.Semicolon ∷ behind, n))
    → simple_at known (name (register_name_in known r) ∷ sign signs.Assign ∷ ((tokens ++ semicolon) ++ behind), c) ≡ Some (Assigned r f, (sign signs.Semicolon ∷ behind, n))
unfolding simple_at assignment_at
assigned known r f tokens behind c n found h =
    ap (λ (ts : List Spelled). simple_at known (name (register_name_in known r) ∷ sign signs.Assign ∷ ts, c)) (append_assoc tokens semicolon behind) ∙ rw (found, h) refl

pub assignment_again : (known : Known) (spelling : List ℕ) (left : Left) (x : Deed × Left) → assignment_at known spelling left ≡ Some x → Again known x.0
unfolding assignment_at printed_deed
assignment_again known spelling left x h =
    bind_some (register_from known spelling left) _ x h (λ r p q.
    bind_some (after_sign signs.Assign left) _ x q (λ l p' q'.
    bind_some (expression_at known l) _ x q' (λ v p'' q''.
    let found = register_read known spelling left r p in
    let one : Again known (Assigned r v.0) = (
      tt,
      λ late e c behind. (
        operators v.0,
        ap (λ (n : List ℕ). simple_at known (name n ∷ sign signs.Assign ∷ ((printed_phrase late 1 v.0 ++ semicolon) ++ behind), c)) (register_late known late e r found)
            ∙ assigned known r v.0 (printed_phrase late 1 v.0) behind c (operators v.0) found (value_again known late e l v p'' c behind),
      ),
    ) in
    subst (λ (y : Deed × Left). Again known y.0) (same_Some (Assigned r v.0, v.1) x q'') one)))

-- ---- a write

written : (known : Known) (location : ℕ) (f : Phrase) (tokens behind : List Spelled) (c n : ℕ) → parameter_named known location_kinds.Plain (name_of known.locations location) ≡ Some location
    → expression_at known (tokens ++ (sign signs.Semicolon ∷ behind), c) ≡ Some (f, (sign signs.Semicolon ∷ behind, n))
    → simple_at known (sign signs.Star ∷ location_token known location ∷ sign signs.Assign ∷ ((tokens ++ semicolon) ++ behind), c) ≡ Some (Written location f, (sign signs.Semicolon ∷ behind, n))
unfolding simple_at write_at pointed_at location_at
written known location f tokens behind c n found h =
    ap (λ (ts : List Spelled). simple_at known (sign signs.Star ∷ location_token known location ∷ sign signs.Assign ∷ ts, c)) (append_assoc tokens semicolon behind) ∙ rw (found, h) refl

pub write_again : (known : Known) (left : Left) (x : Deed × Left) → write_at known left ≡ Some x → Again known x.0
unfolding write_at pointed_at printed_deed
write_again known left x h =
    bind_some (pointed_at known left) _ x h (λ location p q.
    bind_some (after_sign signs.Assign location.1) _ x q (λ l p' q'.
    bind_some (expression_at known l) _ x q' (λ v p'' q''.
    let found = (location_fits known location_kinds.Plain left location (else_some _ _ location p).1).1 in
    let one : Again known (Written location.0 v.0) = (
      tt,
      λ late e c behind. (
        operators v.0,
        ap (λ (t : Spelled). simple_at known (sign signs.Star ∷ t ∷ sign signs.Assign ∷ ((printed_phrase late 1 v.0 ++ semicolon) ++ behind), c)) (location_late known late e location.0)
            ∙ written known location.0 v.0 (printed_phrase late 1 v.0) behind c (operators v.0) found (value_again known late e l v p'' c behind),
      ),
    ) in
    subst (λ (y : Deed × Left). Again known y.0) (same_Some (Written location.0 v.0, v.1) x q'') one)))

-- ---- a store

stored : (known : Known) (location : ℕ) (f : Phrase) (order : Ordering) (tokens behind : List Spelled) (c n : ℕ) → IsAtomic known location → for_a_store order ≡ true
    → expression_at known (tokens ++ comma_order order (closing ++ (semicolon ++ behind)), c) ≡ Some (f, (comma_order order (closing ++ (semicolon ++ behind)), n))
    → simple_at known (calling functions.Store true (codes "atomic_store_explicit") (location_token known location ∷ sign signs.Comma ∷ ((tokens ++ comma_order order (closing ++ semicolon)) ++ behind)), c)
    ≡ Some (Stored location f order, (sign signs.Semicolon ∷ behind, n))
unfolding simple_at call_statement_at store_at first_location_at begin_arguments_at location_at next_argument_at order_at end_arguments_at
stored known location f order tokens behind c n found ok h =
    ap (λ (ts : List Spelled). simple_at known (calling functions.Store true (codes "atomic_store_explicit") (location_token known location ∷ sign signs.Comma ∷ ts), c)) (append_assoc tokens (comma_order order (closing ++ semicolon)) behind)
    ∙ rw (found, h, ok) refl

store_again : (known : Known) (count : ℕ) (explicit : Bool) (left : Left) (x : Deed × Left) → store_at known count explicit left ≡ Some x → Again known x.0
unfolding store_at printed_deed operator_at
store_again known count explicit left x h =
    bind_some (first_location_at known count location_kinds.Atomic left) _ x h (λ location p q.
    bind_some (next_argument_at location.1) _ x q (λ l p' q'.
    bind_some (expression_at known l) _ x q' (λ v p'' q''.
    bind_some (order_at explicit v.1) _ x q'' (λ order p3 q3.
    let found = (first_fits known count location_kinds.Atomic left location p).1 in
    let made : Deed × Left = (Stored location.0 v.0 order.0, order.1) in
    let some = cond_some (for_a_store order.0) made x q3 in
    let one : Again known (Stored location.0 v.0 order.0) = (
      tt,
      λ late e c behind. (
        operators v.0,
        ap (λ (t : Spelled). simple_at known (calling functions.Store true (codes "atomic_store_explicit") (t ∷ sign signs.Comma ∷ ((printed_phrase late 1 v.0 ++ comma_order order.0 (closing ++ semicolon)) ++ behind)), c)) (location_late known late e location.0)
            ∙ stored known location.0 v.0 order.0 (printed_phrase late 1 v.0) behind c (operators v.0) found some.0 (expression_again known late e l v p'' c (comma_order order.0 (closing ++ (semicolon ++ behind))) refl refl),
      ),
    ) in
    subst (λ (y : Deed × Left). Again known y.0) some.1 one))))

-- ---- other calls

fence_again : (known : Known) (count : ℕ) (left : Left) (x : Deed × Left) → fence_at count left ≡ Some x → Again known x.0
unfolding fence_at printed_deed simple_at call_statement_at begin_arguments_at end_arguments_at
fence_again known count left x h =
    bind_some (begin_arguments_at count left) _ x h (λ l p q.
    bind_some (order_from (next l).0 (passed l)) _ x q (λ order p' q'.
    let one : Again known (Fenced order.0) = (tt, λ late e c behind. (c, refl)) in
    subst (λ (y : Deed × Left). Again known y.0) (same_Some (Fenced order.0, order.1) x q') one))

wait_again : (known : Known) (count : ℕ) (left : Left) (x : Deed × Left) → wait_at known count left ≡ Some x → Again known x.0
unfolding wait_at printed_deed simple_at call_statement_at first_location_at begin_arguments_at location_at next_argument_at end_arguments_at
wait_again known count left x h =
    bind_some (first_location_at known count location_kinds.Condvar left) _ x h (λ condvar p q.
    bind_some (next_argument_at condvar.1) _ x q (λ l p' q'.
    bind_some (location_at known location_kinds.Mutex l) _ x q' (λ mutex p'' q''.
    let found = (first_fits known count location_kinds.Condvar left condvar p).1 in
    let found' = (location_fits known location_kinds.Mutex l mutex p'').1 in
    let one : Again known (Waited condvar.0 mutex.0) = (
      tt,
      λ late e c behind. (
        c,
        ap (λ (k : Known). simple_at known (calling functions.Wait false (codes "cnd_wait") (location_token k condvar.0 ∷ sign signs.Comma ∷ location_token k mutex.0 ∷ (closing ++ (semicolon ++ behind))), c)) e.1
            ∙ waited condvar.0 mutex.0 c behind found found',
      ),
    ) in
    subst (λ (y : Deed × Left). Again known y.0) (same_Some (Waited condvar.0 mutex.0, mutex.1) x q'') one)))
  where
    waited : (condvar mutex c : ℕ) (behind : List Spelled) → parameter_named known location_kinds.Condvar (name_of known.locations condvar) ≡ Some condvar
        → parameter_named known location_kinds.Mutex (name_of known.locations mutex) ≡ Some mutex
        → simple_at known (calling functions.Wait false (codes "cnd_wait") (location_token known condvar ∷ sign signs.Comma ∷ location_token known mutex ∷ (closing ++ (semicolon ++ behind))), c)
        ≡ Some (Waited condvar mutex, (sign signs.Semicolon ∷ behind, c))
    waited condvar mutex c behind found found' = rw (found, found') refl

-- an expression doesn't begin with a parenthesis that closes
closing_kind : (kind : TokenKind) → (same.ghosts).eq kind (kinds.Symbol signs.CloseParenthesis) ≡ true → kind ≡ kinds.Symbol signs.CloseParenthesis
closing_kind (kinds.Symbol signs.CloseParenthesis) h = refl
closing_kind _ h = absurd (true_false (sym h))

nothing_there : (known : Known) (left : Left) → (next left).0 ≡ kinds.Symbol signs.CloseParenthesis → expression_at known left ≡ None
unfolding expression_at many_with one_with primary_with
nothing_there known left e =
    let o = inside known MAX_DEPTH in
    let start : Left = (left.0, 0) in
    let none : one_with known o start ≡ None =
    ap (λ (kind : TokenKind). one_from known o kind start) e ∙ ap (λ (kind : TokenKind). primary_from known o kind (next start).1 (passed start) start) e in
    ap (λ (r : Option (Phrase × Left)). r >>= λ first. operators_at o 1 (MAX_OPERATORS + 1) first.0 first.1) none

not_closed : (known : Known) (left : Left) (x : Phrase × Left) → expression_at known left ≡ Some x → is_next signs.CloseParenthesis left ≡ false
not_closed known left x h = false_from_ne_true (is_next signs.CloseParenthesis left) (λ closed. none-some x (sym (nothing_there known left (closing_kind (next left).0 closed)) ∙ h))

assert_again : (known : Known) (count : ℕ) (left : Left) (x : Deed × Left) → assert_at known count left ≡ Some x → Again known x.0
unfolding assert_at printed_deed operator_at simple_at call_statement_at begin_arguments_at end_arguments_at
assert_again known count left x h =
    bind_some (begin_arguments_at count left) _ x h (λ l p q.
    bind_some (expression_at known l) _ x q (λ v p' q'.
    let one : Again known (Asserted v.0) = (
      tt,
      λ late e c behind.
          (operators v.0, asserted v.0 (printed_phrase late 1 v.0) behind c (operators v.0) (expression_again known late e l v p' c (closing ++ (semicolon ++ behind)) refl refl)),
    ) in
    subst (λ (y : Deed × Left). Again known y.0) (same_Some (Asserted v.0, v.1) x q') one))
  where
    asserted : (f : Phrase) (tokens behind : List Spelled) (c n : ℕ) → expression_at known (tokens ++ (closing ++ (semicolon ++ behind)), c) ≡ Some (f, (closing ++ (semicolon ++ behind), n))
        → simple_at known (calling functions.Assert false (codes "assert") (((tokens ++ closing) ++ semicolon) ++ behind), c) ≡ Some (Asserted f, (sign signs.Semicolon ∷ behind, n))
    asserted f tokens behind c n h =
        let regrouped : ((tokens ++ closing) ++ semicolon) ++ behind ≡ tokens ++ (closing ++ (semicolon ++ behind)) =
        append_assoc (tokens ++ closing) semicolon behind ∙ append_assoc tokens closing (semicolon ++ behind) in
        let open_still = not_closed known (tokens ++ (closing ++ (semicolon ++ behind)), c) _ h in
        ap (λ (ts : List Spelled). simple_at known (calling functions.Assert false (codes "assert") ts, c)) regrouped ∙ rw (open_still, h) refl

-- a call of one location
abbrev OfLocation : Known → Function → Kind → (ℕ → Deed) → List ℕ → Type 0
OfLocation known function kind deed spelling = (location c : ℕ) (behind : List Spelled) → parameter_named known kind (name_of known.locations location) ≡ Some location
    → simple_at known (calling_of known function spelling location ++ behind, c) ≡ Some (deed location, (sign signs.Semicolon ∷ behind, c))

locked : (known : Known) → OfLocation known functions.Lock location_kinds.Mutex Locked (codes "mtx_lock")
unfolding simple_at call_statement_at first_location_at begin_arguments_at location_at end_arguments_at
locked known location c behind found = rw found refl

unlocked : (known : Known) → OfLocation known functions.Unlock location_kinds.Mutex Unlocked (codes "mtx_unlock")
unfolding simple_at call_statement_at first_location_at begin_arguments_at location_at end_arguments_at
unlocked known location c behind found = rw found refl

signalled : (known : Known) → OfLocation known functions.Signal location_kinds.Condvar Signalled (codes "cnd_signal")
unfolding simple_at call_statement_at first_location_at begin_arguments_at location_at end_arguments_at
signalled known location c behind found = rw found refl

broadcasted : (known : Known) → OfLocation known functions.Broadcast location_kinds.Condvar Broadcasted (codes "cnd_broadcast")
unfolding simple_at call_statement_at first_location_at begin_arguments_at location_at end_arguments_at
broadcasted known location c behind found = rw found refl

of_location_again : (known : Known) (count : ℕ) (function : Function) (kind : Kind) (deed : ℕ → Deed) (spelling : List ℕ) (left : Left) (x : Deed × Left)
    → ((location : ℕ) → IsSimple (deed location)) → ((late : Known) (location : ℕ) → printed_deed late (deed location) ≡ calling_of late function spelling location) → OfLocation known function kind deed spelling
    → of_location known count kind deed left ≡ Some x → Again known x.0
of_location_again known count function kind deed spelling left x simple printed again h =
    bind_some (first_location_at known count kind left) _ x h (λ location p q.
    let found = (first_fits known count kind left location p).1 in
    let one : Again known (deed location.0) = (
      simple location.0,
      λ late e c behind. (
        c,
        ap (λ (ts : List Spelled). simple_at known (ts ++ behind, c)) (printed late location.0)
            ∙ ap (λ (k : Known). simple_at known (calling_of k function spelling location.0 ++ behind, c)) e.1
            ∙ again location.0 c behind found,
      ),
    ) in
    subst (λ (y : Deed × Left). Again known y.0) (same_Some (deed location.0, location.1) x q) one)

-- ---- a call that has a value

-- one that is evaluated where it is a statement
abbrev IsValue : Known → Function → Type 0
IsValue known function = (count : ℕ) (explicit : Bool) (left : Left) → effect_at known function count explicit left ≡ evaluated_at known function count explicit left

abbrev evaluated : Option (Phrase × Left) → Option (Deed × Left)
evaluated call = call >>= λ call. Some (Evaluated call.0, call.1)

ended : (call : Phrase × Left) (o : Option Left) → (o >>= λ left. Some (Evaluated call.0, left)) ≡ evaluated (o >>= λ left. Some (call.0, left))
ended call None = refl
ended call (Some left) = refl

regrouped : (o : Option (Phrase × Left)) → (evaluated o >>= λ deed. end_arguments_at deed.1 >>= λ left. Some (deed.0, left)) ≡ evaluated (o >>= λ call. end_arguments_at call.1 >>= λ left. Some (call.0, left))
regrouped None = refl
regrouped (Some call) = ended call (end_arguments_at call.1)

as_call : (known : Known) (function : Function) (explicit : Bool) (spelling : List ℕ) (tokens : List Spelled) (c : ℕ) → IsValue known function
    → simple_at known (word (words.Function function explicit) spelling ∷ tokens, c) ≡ evaluated (call_at known (readers known 63) function explicit (tokens, 0))
unfolding simple_at call_statement_at evaluated_at call_at inside
as_call known function explicit spelling tokens c value =
    ap (λ (o : Option (Deed × Left)). o >>= λ deed. end_arguments_at deed.1 >>= λ left. Some (deed.0, left)) (value (arguments_of function explicit) explicit (tokens, c))
    ∙ regrouped (arguments_at known (readers known 63) function (arguments_of function explicit) explicit (tokens, 0))

-- where it is written so
call_again : (known : Known) (f : Phrase) (function : Function) (explicit : Bool) (spelling : List ℕ) (rest : List Spelled) → IsValue known function
    → printed_phrase known 1 f ≡ word (words.Function function explicit) spelling ∷ rest → printed_phrase known 11 f ≡ word (words.Function function explicit) spelling ∷ rest
    → IsWritablePhrase known f → phrase_depth 11 f ≤ 64 → operators f ≤ 256 → Rereads known (Evaluated f)
unfolding printed_deed
call_again known f function explicit spelling rest value at_1 at_11 can deep few late e c behind =
    let more = sign signs.Semicolon ∷ behind in
    let one = (again_of known f can).0 64 0 more deep (omega (arith, few)) refl in (
      0 + operators f,
      ap (λ (ts : List Spelled). simple_at known ((ts ++ semicolon) ++ behind, c)) (written_alike known late e 1 f can ∙ at_1)
          ∙ ap (λ (ts : List Spelled). simple_at known (word (words.Function function explicit) spelling ∷ ts, c)) (append_assoc rest semicolon behind)
          ∙ as_call known function explicit spelling (rest ++ more) c value
          ∙ ap evaluated (sym (called known 63 function explicit spelling (rest ++ more) 0) ∙ ap (λ (ts : List Spelled). (readers known 64).one (ts ++ more, 0)) (sym at_11) ∙ one),
    )

evaluated_again : (known : Known) (f : Phrase) → IsCall f → IsWritablePhrase known f → phrase_depth 11 f ≤ 64 → operators f ≤ 256 → Again known (Evaluated f)
unfolding printed_phrase
evaluated_again known (Constant value) call can deep few = absurd call
evaluated_again known (OfRegister register) call can deep few = absurd call
evaluated_again known (Pointed location) call can deep few = absurd call
evaluated_again known (Signed operator operand) call can deep few = absurd call
evaluated_again known (Between operator left right) call can deep few = absurd call
evaluated_again known (Loaded location order) call can deep few = (tt, call_again known (Loaded location order) functions.Load true _ _ (λ n explicit left. refl) refl refl can deep few)
evaluated_again known (Exchanged location value order) call can deep few = (tt, call_again known (Exchanged location value order) functions.Exchange true _ _ (λ n explicit left. refl) refl refl can deep few)
evaluated_again known (Fetched operator location value order) call can deep few =
    (tt, call_again known (Fetched operator location value order) (functions.Fetch operator) true _ _ (λ n explicit left. refl) refl refl can deep few)
evaluated_again known (Compared strength location compared value success failure) call can deep few =
    (tt, call_again known (Compared strength location compared value success failure) (functions.CompareExchange strength) true _ _ (λ n explicit left. refl) refl refl can deep few)
evaluated_again known (ComparedRegister strength location register value success failure) call can deep few =
    (tt, call_again known (ComparedRegister strength location register value success failure) (functions.CompareExchange strength) true _ _ (λ n explicit left. refl) refl refl can deep few)
evaluated_again known (ComparedPlain strength location plain value success failure) call can deep few =
    (tt, call_again known (ComparedPlain strength location plain value success failure) (functions.CompareExchange strength) true _ _ (λ n explicit left. refl) refl refl can deep few)
evaluated_again known (Tried mutex) call can deep few = (tt, call_again known (Tried mutex) functions.TryLock false _ _ (λ n explicit left. refl) refl refl can deep few)

is_comparison : (strength : Strength) (location : ℕ) (compared : Comparand) (value : Phrase) (success failure : Ordering) → IsCall (comparing strength location compared value success failure)
is_comparison strength location (ByValue first) value success failure = tt
is_comparison strength location (ByRegister register) value success failure = tt
is_comparison strength location (ByPlain plain) value success failure = tt

is_call : (known : Known) (r : Readers) (function : Function) (count : ℕ) (explicit : Bool) (left : Left) (x : Phrase × Left) → arguments_at known r function count explicit left ≡ Some x → IsCall x.0
unfolding exchange_at fetch_at compare_exchange_at
is_call known r functions.Load count explicit left x h =
    bind_some (first_location_at known count location_kinds.Atomic left) _ x h (λ location p q.
    bind_some (load_order_at explicit location.1) _ x q (λ order p' q'. subst (λ (y : Phrase × Left). IsCall y.0) (same_Some (Loaded location.0 order.0, order.1) x q') tt))
is_call known r functions.Exchange count explicit left x h =
    bind_some (first_location_at known count location_kinds.Atomic left) _ x h (λ location p q.
    bind_some (argument_at r location.1) _ x q (λ value p' q'.
    bind_some (order_at explicit value.1) _ x q' (λ order p'' q''. subst (λ (y : Phrase × Left). IsCall y.0) (same_Some (Exchanged location.0 value.0 order.0, order.1) x q'') tt)))
is_call known r (functions.Fetch operator) count explicit left x h =
    bind_some (first_location_at known count location_kinds.Atomic left) _ x h (λ location p q.
    bind_some (argument_at r location.1) _ x q (λ value p' q'.
    bind_some (order_at explicit value.1) _ x q' (λ order p'' q''. subst (λ (y : Phrase × Left). IsCall y.0) (same_Some (Fetched operator location.0 value.0 order.0, order.1) x q'') tt)))
is_call known r (functions.CompareExchange strength) count explicit left x h =
    bind_some (first_location_at known count location_kinds.Atomic left) _ x h (λ location p q.
    bind_some (compared_at known r location.1) _ x q (λ compared p' q'.
    bind_some (argument_at r compared.1) _ x q' (λ value p'' q''.
    bind_some (order_at explicit value.1) _ x q'' (λ success p3 q3.
    bind_some (load_order_at explicit success.1) _ x q3 (λ failure p4 q4.
    subst (λ (y : Phrase × Left). IsCall y.0) (same_Some (comparing strength location.0 compared.0 value.0 success.0 failure.0, failure.1) x q4) (is_comparison strength location.0 compared.0 value.0 success.0 failure.0))))))
is_call known r functions.TryLock count explicit left x h =
    bind_some (first_location_at known count location_kinds.Mutex left) _ x h (λ location p q. subst (λ (y : Phrase × Left). IsCall y.0) (same_Some (Tried location.0, location.1) x q) tt)
is_call known r functions.Store count explicit left x h = absurd (none-some x h)
is_call known r functions.Fence count explicit left x h = absurd (none-some x h)
is_call known r functions.Lock count explicit left x h = absurd (none-some x h)
is_call known r functions.Unlock count explicit left x h = absurd (none-some x h)
is_call known r functions.Wait count explicit left x h = absurd (none-some x h)
is_call known r functions.Signal count explicit left x h = absurd (none-some x h)
is_call known r functions.Broadcast count explicit left x h = absurd (none-some x h)
is_call known r functions.Yield count explicit left x h = absurd (none-some x h)
is_call known r functions.Assert count explicit left x h = absurd (none-some x h)

value_call_again : (known : Known) (function : Function) (count : ℕ) (explicit : Bool) (left : Left) (x : Deed × Left) → evaluated_at known function count explicit left ≡ Some x → Again known x.0
unfolding evaluated_at inside
value_call_again known function count explicit left x h =
    bind_some (arguments_at known (readers known 63) function count explicit (left.0, 0)) _ x h (λ call p q.
    let fits = call_fits known 63 (readers known 63) (readers_fit known 63) function count explicit (left.0, 0) call p in
    let few = fits.few (omega arith) in
    let one = evaluated_again known call.0 (is_call known (readers known 63) function count explicit (left.0, 0) call p) fits.writable fits.shallow (omega (arith, fits.count, few)) in
    subst (λ (y : Deed × Left). Again known y.0) (same_Some (Evaluated call.0, call.1) x q) one)

effect_again : (known : Known) (function : Function) (count : ℕ) (explicit : Bool) (left : Left) (x : Deed × Left) → effect_at known function count explicit left ≡ Some x → Again known x.0
unfolding printed_deed simple_at call_statement_at begin_arguments_at end_arguments_at
effect_again known functions.Load count explicit left x h = value_call_again known functions.Load count explicit left x h
effect_again known functions.Exchange count explicit left x h = value_call_again known functions.Exchange count explicit left x h
effect_again known (functions.Fetch operator) count explicit left x h = value_call_again known (functions.Fetch operator) count explicit left x h
effect_again known (functions.CompareExchange strength) count explicit left x h = value_call_again known (functions.CompareExchange strength) count explicit left x h
effect_again known functions.TryLock count explicit left x h = value_call_again known functions.TryLock count explicit left x h
effect_again known functions.Store count explicit left x h = store_again known count explicit left x h
effect_again known functions.Fence count explicit left x h = fence_again known count left x h
effect_again known functions.Lock count explicit left x h = of_location_again known count functions.Lock location_kinds.Mutex Locked (codes "mtx_lock") left x (λ location. tt) (λ late location. refl) (locked known) h
effect_again known functions.Unlock count explicit left x h = of_location_again known count functions.Unlock location_kinds.Mutex Unlocked (codes "mtx_unlock") left x (λ location. tt) (λ late location. refl) (unlocked known) h
effect_again known functions.Wait count explicit left x h = wait_again known count left x h
effect_again known functions.Signal count explicit left x h = of_location_again known count functions.Signal location_kinds.Condvar Signalled (codes "cnd_signal") left x (λ location. tt) (λ late location. refl) (signalled known) h
effect_again known functions.Broadcast count explicit left x h =
    of_location_again known count functions.Broadcast location_kinds.Condvar Broadcasted (codes "cnd_broadcast") left x (λ location. tt) (λ late location. refl) (broadcasted known) h
effect_again known functions.Yield count explicit left x h =
    bind_some (begin_arguments_at count left) _ x h (λ l p q.
    let one : Again known Yielded = (tt, λ late e c behind. (c, refl)) in
    subst (λ (y : Deed × Left). Again known y.0) (same_Some (Yielded, l) x q) one)
effect_again known functions.Assert count explicit left x h = assert_again known count left x h

call_statement_again : (known : Known) (function : Function) (explicit : Bool) (left : Left) (x : Deed × Left) → call_statement_at known function explicit left ≡ Some x → Again known x.0
unfolding call_statement_at
call_statement_again known function explicit left x h =
    bind_some (effect_at known function (arguments_of function explicit) explicit left) _ x h (λ deed p q.
    bind_some (end_arguments_at deed.1) _ x q (λ l p' q'.
    subst (λ (y : Deed × Left). Again known y.0) (same_Some (deed.0, l) x q') (effect_again known function (arguments_of function explicit) explicit left deed p)))

pub simple_again : (known : Known) (kind : TokenKind) (spelling : List ℕ) (behind left : Left) (x : Deed × Left) → simple_from known kind spelling behind left ≡ Some x → Again known x.0
unfolding printed_deed simple_at
simple_again known (kinds.Symbol signs.Semicolon) spelling behind left x h =
    let one : Again known (Held Nothing) = (tt, λ late e c behind. (c, refl)) in
    subst (λ (y : Deed × Left). Again known y.0) (same_Some (Held Nothing, left) x h) one
simple_again known (kinds.Symbol signs.Star) spelling behind left x h = write_again known behind x h
simple_again known kinds.Name spelling behind left x h = assignment_again known spelling behind x h
simple_again known (kinds.Word (words.Function function explicit)) spelling behind left x h = call_statement_again known function explicit behind x h
simple_again known _ spelling behind left x h = absurd (none-some x h)
