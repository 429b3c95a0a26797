-- How statements are read.
use Rattle.std.specs.Prelude.{ℕ, zero, suc, ◌&&◌, ◌||◌, nat_eq, nat_lt, List, [], ◌∷◌, ◌++◌, length, take, Bool, true, false, Option, Some, None, is_some, if◌then◌else◌}
use Rattle.std.specs.List.{list_any}
use Rattle.std.specs.Str.{is_utf8}
use Rattle.std.specs.declared.sync.atomic.Ordering.{Ordering}
use Rattle.std.specs.declared.sync.atomic.Ordering.TheVariants as orders
use Rattle.loom_text.specs.declared.read.parser.Parser.{Parser}
use Rattle.loom_text.specs.declared.read.parser.TheConstants.{MAX_DEPTH}
use Rattle.loom_text.specs.declared.read.scope.Scope.{Scope}
use Rattle.loom_text.specs.declared.read.scope.TheConstants.{MAX_REGISTERS}
use Rattle.loom_text.specs.declared.read.symbol.Symbol.TheVariants as signs
use Rattle.loom_text.specs.declared.read.token.TokenKind.{TokenKind}
use Rattle.loom_text.specs.declared.read.token.TokenKind.TheVariants as kinds
use Rattle.loom_text.specs.declared.read.word.Function.{Function}
use Rattle.loom_text.specs.declared.read.word.Function.TheVariants as functions
use Rattle.loom_text.specs.declared.read.word.Word.TheVariants as words
use Rattle.loom_text.specs.declared.test.Kind.{Kind}
use Rattle.loom_text.specs.declared.test.Kind.TheVariants as location_kinds
use Rattle.loom_text.specs.Deeds.{Deed, Declared, Assigned, Written, Stored, Evaluated, Fenced, Chosen, Repeated, RepeatedLate, Held, Locked, Unlocked, Waited, Signalled, Broadcasted, Yielded, Asserted, Deeds, Nothing, Then}
use Rattle.loom_text.specs.Expressions.{Phrase, arguments_at, arguments_of, begin_arguments_at, end_arguments_at, expression_at, first_location_at, inside, location_at, next_argument_at, order_at, order_from, pointed_at, register_from}
use Rattle.loom_text.specs.Known.{Known, known, named_in, parameter_in}
use Rattle.loom_text.specs.Question.{is_word}
use Rattle.loom_text.specs.Tokens.{Left, Spelled, ◌>>=◌, after_sign, is_next, left, name_at, next, passed}

-- where reading stands: what is left, the names so far, and the registers that are declared in the blocks that are open
pub record Standing : Type 0 where
  pub left : Left
  pub known : Known
  pub open_registers : List ℕ

abbrev pub standing : Parser → Scope → Standing
standing parser scope = record {
  left = left parser;
  known = known scope;
  open_registers = scope.open.items;
}

abbrev pub moved : Left → Standing → Standing
moved left standing = record standing { left = left }

-- ---- statements that hold no others

-- `r = e` behind the name
unfoldable pub assignment_at : Known → List ℕ → Left → Option (Deed × Left)
assignment_at known name left =
    register_from known name left >>= λ register.
    after_sign signs.Assign left >>= λ left.
    expression_at known left >>= λ value.
    Some (Assigned register value.0, value.1)

-- `*p = e` behind the star
unfoldable pub write_at : Known → Left → Option (Deed × Left)
write_at known left =
    pointed_at known left >>= λ location.
    after_sign signs.Assign location.1 >>= λ left.
    expression_at known left >>= λ value.
    Some (Written location.0 value.0, value.1)

abbrev pub for_a_store : Ordering → Bool
for_a_store orders.Relaxed = true
for_a_store orders.Release = true
for_a_store orders.SeqCst = true
for_a_store orders.Acquire = false
for_a_store orders.AcqRel = false

unfoldable pub store_at : Known → ℕ → Bool → Left → Option (Deed × Left)
store_at known count explicit left =
    first_location_at known count location_kinds.Atomic left >>= λ location.
    next_argument_at location.1 >>= λ left.
    expression_at known left >>= λ value.
    order_at explicit value.1 >>= λ order.
    if for_a_store order.0 then Some (Stored location.0 value.0 order.0, order.1) else None

unfoldable pub fence_at : ℕ → Left → Option (Deed × Left)
fence_at count left =
    begin_arguments_at count left >>= λ left.
    order_from (next left).0 (passed left) >>= λ order.
    Some (Fenced order.0, order.1)

unfoldable pub wait_at : Known → ℕ → Left → Option (Deed × Left)
wait_at known count left =
    first_location_at known count location_kinds.Condvar left >>= λ condvar.
    next_argument_at condvar.1 >>= λ left.
    location_at known location_kinds.Mutex left >>= λ mutex.
    Some (Waited condvar.0 mutex.0, mutex.1)

unfoldable pub assert_at : Known → ℕ → Left → Option (Deed × Left)
assert_at known count left =
    begin_arguments_at count left >>= λ left.
    expression_at known left >>= λ asserted.
    Some (Asserted asserted.0, asserted.1)

-- a call for what it does to one location
abbrev pub of_location : Known → ℕ → Kind → (ℕ → Deed) → Left → Option (Deed × Left)
of_location known count kind deed left = first_location_at known count kind left >>= λ location. Some (deed location.0, location.1)

-- a call that has a value, for what it does
unfoldable pub evaluated_at : Known → Function → ℕ → Bool → Left → Option (Deed × Left)
evaluated_at known function count explicit left =
    inside known MAX_DEPTH >>= λ readers.
    arguments_at known readers function count explicit (left.0, 0) >>= λ call.
    Some (Evaluated call.0, call.1)

-- a call up to its last parenthesis, behind its name
abbrev pub effect_at : Known → Function → ℕ → Bool → Left → Option (Deed × Left)
effect_at known functions.Load count explicit left = evaluated_at known functions.Load count explicit left
effect_at known functions.Exchange count explicit left = evaluated_at known functions.Exchange count explicit left
effect_at known (functions.Fetch operator) count explicit left = evaluated_at known (functions.Fetch operator) count explicit left
effect_at known (functions.CompareExchange strength) count explicit left = evaluated_at known (functions.CompareExchange strength) count explicit left
effect_at known functions.TryLock count explicit left = evaluated_at known functions.TryLock count explicit left
effect_at known functions.Store count explicit left = store_at known count explicit left
effect_at known functions.Fence count explicit left = fence_at count left
effect_at known functions.Lock count explicit left = of_location known count location_kinds.Mutex Locked left
effect_at known functions.Unlock count explicit left = of_location known count location_kinds.Mutex Unlocked left
effect_at known functions.Wait count explicit left = wait_at known count left
effect_at known functions.Signal count explicit left = of_location known count location_kinds.Condvar Signalled left
effect_at known functions.Broadcast count explicit left = of_location known count location_kinds.Condvar Broadcasted left
effect_at known functions.Yield count explicit left = begin_arguments_at count left >>= λ left. Some (Yielded, left)
effect_at known functions.Assert count explicit left = assert_at known count left

unfoldable pub call_statement_at : Known → Function → Bool → Left → Option (Deed × Left)
call_statement_at known function explicit left =
    effect_at known function (arguments_of function explicit) explicit left >>= λ deed.
    end_arguments_at deed.1 >>= λ left.
    Some (deed.0, left)

-- a statement that ends with a semicolon, up to it
abbrev pub simple_from : Known → TokenKind → List ℕ → Left → Left → Option (Deed × Left)
simple_from known (kinds.Symbol signs.Semicolon) spelling behind left = Some (Held Nothing, left)
simple_from known (kinds.Symbol signs.Star) spelling behind left = write_at known behind
simple_from known kinds.Name spelling behind left = assignment_at known spelling behind
simple_from known (kinds.Word (words.Function function explicit)) spelling behind left = call_statement_at known function explicit behind
simple_from known _ spelling behind left = None

unfoldable pub simple_at : Known → Left → Option (Deed × Left)
simple_at known left = simple_from known (next left).0 (next left).1 (passed left) left

-- ---- declarations

-- `volatile` and `const` say nothing
abbrev pub is_qualifier : TokenKind → Bool
is_qualifier (kinds.Word words.Qualifier) = true
is_qualifier _ = false

abbrev pub unqualified : List Spelled → List Spelled
unqualified [] = []
unqualified (token ∷ tokens) = if is_qualifier token.0 then unqualified tokens else token ∷ tokens

-- a type, if one is next
abbrev pub kind_from : TokenKind → Left → Option (Option Kind × Left)
kind_from (kinds.Word (words.«Type» kind)) left = Some (Some kind, passed left)
kind_from (kinds.Word words.OtherType) left = None
kind_from (kinds.Word words.Void) left = None
kind_from _ left = Some (None, left)

unfoldable pub kind_at : Left → Option (Option Kind × Left)
kind_at left =
    let from : Left = (unqualified left.0, left.1) in
    kind_from (next from).0 from

abbrev pub is_among : List ℕ → Option ℕ → Bool
is_among numbers None = false
is_among numbers (Some number) = list_any (λ other. nat_eq other number) numbers

unfoldable pub register_added : List ℕ → Known → Option (ℕ × Known)
register_added name known =
    if nat_lt (length known.registers) MAX_REGISTERS && is_utf8 name
    then Some (length known.registers, record known { registers = known.registers ++ name ∷ [] })
    else None

-- the register that was found, or a new one
abbrev pub register_for : List ℕ → Known → Option ℕ → Option (ℕ × Known)
register_for name known (Some register) = Some (register, known)
register_for name known None = register_added name known

-- A name is declared once in the blocks that are open, and isn't a parameter's. Declared again elsewhere, it is the same register.
unfoldable pub register_declared : List ℕ → Known → List ℕ → Option (ℕ × Known × List ℕ)
register_declared name known open_registers =
    if is_some (parameter_in known.locations name) || is_among open_registers (named_in known.registers name) then None
    else (register_for name known (named_in known.registers name) >>= λ register.
    Some (register.0, register.1, open_registers ++ register.0 ∷ []))

-- what it is given, if it is given something
unfoldable pub value_at : Known → Left → Option (Option Phrase × Left)
value_at known left =
    if is_next signs.Assign left
    then (expression_at known (passed left) >>= λ value. Some (Some value.0, value.1))
    else Some (None, left)

unfoldable pub declaration_at : Standing → Option (Deed × Standing)
declaration_at standing =
    if is_next signs.Star standing.left then None
    else (name_at standing.left >>= λ name.
    if is_next signs.OpenBracket name.1 then None
    else (value_at standing.known name.1 >>= λ value.
    register_declared name.0 standing.known standing.open_registers >>= λ register.
    Some (Declared register.0 value.0, record { left = value.1; known = register.1; open_registers = register.2 })))

-- so many at most, with commas between them and a semicolon behind the last
unfoldable pub all_declared : ℕ → Deeds → Standing → Option (Deeds × Standing)
all_declared zero done standing = None
all_declared (suc n) done standing =
    declaration_at standing >>= λ declared.
    if is_next signs.Comma declared.1.left
    then all_declared n (Then done declared.0) (moved (passed declared.1.left) declared.1)
    else (after_sign signs.Semicolon declared.1.left >>= λ left. Some (Then done declared.0, moved left declared.1))

abbrev pub declarations_of : Option Kind → Left → Deeds → Standing → Option (Deeds × Standing)
declarations_of (Some location_kinds.Plain) left done standing = all_declared (length left.0) done (moved left standing)
declarations_of _ left done standing = None

unfoldable pub declarations_at : Deeds → Standing → Option (Deeds × Standing)
declarations_at done standing = kind_at standing.left >>= λ kind. declarations_of kind.0 kind.1 done standing

-- ---- statements in one another

-- what one statement, or one line of declarations, adds to the statements before it
abbrev pub Adds : Type 0
Adds = Deeds → Standing → Option (Deeds × Standing)

-- statements up to a brace, so many at most
unfoldable pub statements_at : Adds → ℕ → Adds
statements_at one zero done standing = None
statements_at one (suc n) done standing =
    if is_next signs.CloseBrace standing.left then Some (done, moved (passed standing.left) standing)
    else (one done standing >>= λ read. statements_at one n read.0 read.1)

-- at its end those registers are open that were open before it
abbrev pub closed : List ℕ → Standing → Standing
closed outer standing = record standing { open_registers = take (length outer) standing.open_registers }

abbrev pub Reads : Type 0
Reads = Standing → Option (Deeds × Standing)

unfoldable pub block_with : Adds → Reads
block_with one standing =
    after_sign signs.OpenBrace standing.left >>= λ left.
    statements_at one (length left.0) Nothing (moved left standing) >>= λ read.
    Some (read.0, closed standing.open_registers read.1)

-- statements in braces, or one alone
unfoldable pub branch_with : Adds → Reads
branch_with one standing =
    if is_next signs.OpenBrace standing.left then block_with one standing
    else (one Nothing standing >>= λ read. Some (read.0, closed standing.open_registers read.1))

-- an expression in parentheses
unfoldable pub tested_at : Standing → Option (Phrase × Standing)
tested_at standing =
    after_sign signs.OpenParenthesis standing.left >>= λ left.
    expression_at standing.known left >>= λ condition.
    after_sign signs.CloseParenthesis condition.1 >>= λ left.
    Some (condition.0, moved left standing)

unfoldable pub otherwise_with : Adds → Reads
otherwise_with one standing =
    if is_word words.Else standing.left then branch_with one (moved (passed standing.left) standing) else Some (Nothing, standing)

-- what follows `if`, `while` and `do`
unfoldable pub choice_with : Adds → Standing → Option (Deed × Standing)
choice_with one standing =
    tested_at standing >>= λ condition.
    branch_with one condition.1 >>= λ first.
    otherwise_with one first.1 >>= λ otherwise.
    Some (Chosen condition.0 first.0 otherwise.0, otherwise.1)

unfoldable pub repetition_with : Adds → Standing → Option (Deed × Standing)
repetition_with one standing =
    tested_at standing >>= λ condition.
    branch_with one condition.1 >>= λ body.
    Some (Repeated condition.0 body.0, body.1)

unfoldable pub late_repetition_with : Adds → Standing → Option (Deed × Standing)
late_repetition_with one standing =
    branch_with one standing >>= λ body.
    if is_word words.While body.1.left
    then (tested_at (moved (passed body.1.left) body.1) >>= λ condition.
    after_sign signs.Semicolon condition.1.left >>= λ left.
    Some (RepeatedLate body.0 condition.0, moved left condition.1))
    else None

unfoldable pub ended_at : Standing → Option (Deed × Standing)
ended_at standing =
    simple_at standing.known standing.left >>= λ deed.
    after_sign signs.Semicolon deed.1 >>= λ left.
    Some (deed.0, moved left standing)

-- what isn't a declaration
abbrev pub action_from : Option Adds → TokenKind → Standing → Option (Deed × Standing)
action_from inside (kinds.Word words.If) standing = inside >>= λ one. choice_with one (moved (passed standing.left) standing)
action_from inside (kinds.Word words.While) standing = inside >>= λ one. repetition_with one (moved (passed standing.left) standing)
action_from inside (kinds.Word words.Do) standing = inside >>= λ one. late_repetition_with one (moved (passed standing.left) standing)
action_from inside (kinds.Symbol signs.OpenBrace) standing = inside >>= λ one. block_with one standing >>= λ body. Some (Held body.0, body.1)
action_from inside _ standing = ended_at standing

unfoldable pub action_with : Option Adds → Standing → Option (Deed × Standing)
action_with inside standing = action_from inside (next standing.left).0 standing

abbrev pub begins_declaration : TokenKind → Bool
begins_declaration (kinds.Word (words.«Type» kind)) = true
begins_declaration (kinds.Word words.Qualifier) = true
begins_declaration _ = false

unfoldable pub statement_with : Option Adds → Adds
statement_with inside done standing =
    if begins_declaration (next standing.left).0 then declarations_at done standing
    else (action_with inside standing >>= λ deed. Some (Then done deed.0, deed.1))

-- with statements in it that are so deep in one another
unfoldable pub statement_at : ℕ → Adds
statement_at zero = statement_with None
statement_at (suc depth) = statement_with (Some (statement_at depth))

-- what may be inside
unfoldable pub within : ℕ → Option Adds
within zero = None
within (suc depth) = Some (statement_at depth)
