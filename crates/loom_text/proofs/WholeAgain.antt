-- What is written of a test that was read is read as the same test.
use Rattle.std.proofs.Common.{◌≡◌, ℕ, zero, suc, ◌+◌, ◌≤◌, ◌<◌, nat_lt, not, ◌&&◌, List, [], ◌∷◌, ◌++◌, length, Bool, true, false, Option, Some, None, codes, cond, refl, sym, ap, subst, ◌∙◌, inl, inr, append_assoc, append-nil, arith}
use Rattle.std.specs.Char.{is_ascii_digit}
use Rattle.std.specs.List.{slice_get}
use Rattle.std.specs.Str.{bytes_eq, is_utf8}
use Rattle.std.proofs.lemmas.Bool.{and_parts, cases_Bool, le-leb, lt-ltb, ltb-true}
use Rattle.std.proofs.lemmas.Option.{cond_some, same_Some}
use Rattle.std.proofs.lemmas.Slice.Eq.{bytes_eq-Decides}
use Rattle.loom_text.specs.declared.read.symbol.Symbol.TheVariants as signs
use Rattle.loom_text.specs.declared.read.token.TokenKind.TheVariants as kinds
use Rattle.loom_text.specs.declared.read.word.Word.TheVariants as words
use Rattle.loom_text.specs.declared.test.Quantifier.{Quantifier}
use Rattle.loom_text.specs.declared.test.Quantifier.TheVariants as quantifiers
use Rattle.loom_text.specs.declared.test.Term.{Term}
use Rattle.loom_text.specs.Blocks.{in_braces, printed_deeds}
use Rattle.loom_text.specs.Conditions.{Formula}
use Rattle.loom_text.specs.Deeds.{Deeds}
use Rattle.loom_text.specs.Heads.{Passing, Placed, Strand, Whole, all_parameters_at, beginning, head_at, initial_at, is_thread, is_thread_name, names_of, numbered_thread_at, names_thread, nowhere, test_at, thread_at, thread_name, threads_at}
use Rattle.loom_text.specs.Known.{Known, Located, Names, parameters_of, put_found}
use Rattle.loom_text.specs.Printing.{name, sign}
use Rattle.loom_text.specs.Question.{Asked, question_at}
use Rattle.loom_text.specs.Readable.{printed_question, word}
use Rattle.loom_text.specs.Statements.{Standing, block_with, moved, statement_at}
use Rattle.loom_text.specs.Tokens.{Left, Spelled, ◌>>=◌, after_sign, next, passed}
use Rattle.loom_text.specs.Whole.{TestsReadBack, names_in, printed_locations, printed_parameters, printed_strand, printed_threads, printed_whole}
use Rattle.loom_text.proofs.BlocksAgain.{blocks_extend, blocks_read_back}
use Rattle.loom_text.proofs.ConditionsFit.{bind_some, else_some}
use Rattle.loom_text.proofs.ExpressionsFit.{when_some}
use Rattle.loom_text.proofs.LocationsAgain.{EachThere, all_parameters_again, full, initial_again}
use Rattle.loom_text.proofs.PlacedRight.{AllPassed, EachSaid, Right, Stays, all_parameters_read, each_said_on, initial_right, stays_itself, stays_on}
use Rattle.loom_text.proofs.QuestionsAgain.{questions_read_back}
use Rattle.loom_text.proofs.QuestionsFit.{question_can_be_read}

-- ---- a thread

-- It is read again, once all locations are known, as they are in the end.
abbrev Again : Strand → Placed → Type 0
Again strand p = (end : Placed) → Right end → Stays p end → (c : ℕ) (behind : List Spelled)
    → (after : ℕ) × (thread_at (full end.locations) (printed_strand end.locations strand ++ behind, c) ≡ Some (strand, full end.locations, (behind, after)))

-- what a thread is passed is the same in the end
passed_alike : (p end : Placed) (numbers : List ℕ) → EachSaid p numbers → Stays p end → parameters_of p.locations numbers ≡ parameters_of end.locations numbers
passed_alike p end [] each stays = refl
passed_alike p end (n ∷ numbers) each stays =
    let said = each.0 in
    let there = stays n said.0 said.1 said.2 in
    ap (λ (o : Option Located). put_found n o (parameters_of p.locations numbers)) (said.1 ∙ sym there.0)
    ∙ ap (λ (xs : List (Option Located)). put_found n (slice_get end.locations n) xs) (passed_alike p end numbers each.1 stays)

all_there : (end : Placed) (right : Right end) (numbers : List ℕ) → EachSaid end numbers → EachThere end.locations right.each right.differ numbers
all_there end right [] each = tt
all_there end right (n ∷ numbers) each = ((each.0.0, each.0.1), all_there end right numbers each.1)

as_known : (known : Known) (xs : List (Option Located)) → known.locations ≡ xs → known ≡ record { locations = xs; registers = known.registers }
as_known known xs e = let with : List (Option Located) → Known = λ ls. record { locations = ls; registers = known.registers } in ap with e

thread_so : (p : Placed) (left middle behind : Left) (passing : Passing) (body : Deeds × Standing) → all_parameters_at p left ≡ Some (passing, middle) → block_with (statement_at 64) (beginning passing middle) ≡ Some body → body.1.left ≡ behind
    → thread_at p (sign signs.OpenParenthesis ∷ left.0, left.1) ≡ Some (record { parameters = passing.0; registers = body.1.known.registers; body = body.0 }, passing.1, behind)
unfolding thread_at
thread_so p left middle behind passing body first second last =
    let at_end : Left → Option (Strand × Placed × Left) = λ l. Some (record { parameters = passing.0; registers = body.1.known.registers; body = body.0 }, passing.1, l) in
    rw (first, second) (ap at_end last)

strand_again : (p : Placed) (passing : Passing) (left : Left) (body : Deeds × Standing) → AllPassed p passing → block_with (statement_at 64) (beginning passing left) ≡ Some body
    → Again (record { parameters = passing.0; registers = body.1.known.registers; body = body.0 }) passing.1
strand_again p passing left body all h end right stays c behind =
    let ls = end.locations in
    let numbers = passing.0 in
    let strand : Strand = record { parameters = numbers; registers = body.1.known.registers; body = body.0 } in
    let alike = passed_alike passing.1 end numbers all.said stays in
    let extends = blocks_extend (beginning passing left) body h in
    let known : body.1.known ≡ names_in ls strand = as_known body.1.known (parameters_of ls numbers) (ap (λ (k : Known). k.locations) extends.1 ∙ alike) in
    let braces = in_braces (printed_deeds (names_in ls strand) body.0) in
    let close = sign signs.CloseParenthesis ∷ (braces ++ behind) in
    let again = blocks_read_back (beginning passing left) body behind c h in
    let start : Standing → Type 0 = λ s. block_with (statement_at 64) s ≡ Some (body.0, moved (behind, again.0) body.1) in
    let begun : List (Option Located) → Standing = λ xs. record { left = (braces ++ behind, c); known = record { locations = xs; registers = [] }; open_registers = [] } in
    let block : start (begun (parameters_of ls numbers)) =
    subst (λ (xs : List (Option Located)). start (begun xs)) alike
    (subst (λ (k : Known). start (moved (in_braces (printed_deeds k body.0) ++ behind, c) (beginning passing left))) known again.1) in
    let parameters = all_parameters_again ls right.each right.differ numbers (all_there end right numbers (each_said_on passing.1 end numbers stays all.said)) all.apart c (braces ++ behind) in (
      again.0,
      ap (λ (ts : List Spelled). thread_at (full ls) (sign signs.OpenParenthesis ∷ ts, c)) (append_assoc (printed_parameters ls numbers) (sign signs.CloseParenthesis ∷ braces) behind)
          ∙ thread_so (full ls) (printed_parameters ls numbers ++ close, c) (braces ++ behind, c) (behind, again.0) (numbers, full ls) (body.0, moved (behind, again.0) body.1) parameters block refl,
    )

record ThreadRead (p : Placed) (x : Strand × Placed × Left) : Type 0 where
  again : Again x.0 x.1
  right : Right x.1
  stays : Stays p x.1

thread_read : (p : Placed) (left : Left) (x : Strand × Placed × Left) → Right p → thread_at p left ≡ Some x → ThreadRead p x
unfolding thread_at
thread_read p left x right h =
    bind_some (after_sign signs.OpenParenthesis left) _ x h (λ l p1 q1.
    bind_some (all_parameters_at p l) _ x q1 (λ passing p2 q2.
    bind_some (block_with (statement_at 64) (beginning passing.0 passing.1)) _ x q2 (λ body p3 q3.
    let all = all_parameters_read p l passing right p2 in
    subst (λ (y : Strand × Placed × Left). ThreadRead p y) (same_Some (record { parameters = passing.0.0; registers = body.1.known.registers; body = body.0 }, passing.0.1, body.1.left) x q3)
    (record { again = strand_again p passing.0 passing.1 body all p3; right = all.right; stays = all.stays }))))

-- ---- threads

abbrev EachAgain : List Strand → Placed → Type 0
EachAgain [] p = Unit {0}
EachAgain (strand ∷ strands) p = Again strand p × EachAgain strands p

again_on : (strand : Strand) (p q : Placed) → Stays p q → Again strand p → Again strand q
again_on strand p q stays again end right more = again end right (stays_on p q end stays more)

record ThreadsRead (done : List Strand) (p : Placed) (i n : ℕ) (x : List Strand × Placed × Left) : Type 0 where
  more : List Strand
  are : x.0 ≡ done ++ more
  few : length more ≤ n
  some : 1 ≤ i + n → 1 ≤ i + length more
  each : EachAgain more x.1
  right : Right x.1
  stays : Stays p x.1

no_more : (done : List Strand) (p : Placed) (i n : ℕ) (left : Left) → Right p → (1 ≤ i + n → 1 ≤ i) → ThreadsRead done p i n (done, p, left)
no_more done p i n left right some = record {
  more = [];
  are = sym (append-nil done);
  few = omega arith;
  some = λ h. let j = some h in omega (arith, j);
  each = tt;
  right = right;
  stays = stays_itself p;
}

one_before : (done : List Strand) (p : Placed) (i n : ℕ) (one : Strand × Placed × Left) (x : List Strand × Placed × Left) → ThreadRead p one → ThreadsRead (done ++ one.0 ∷ []) one.1 (i + 1) n x → ThreadsRead done p i (suc n) x
one_before done p i n one x read rest = record {
  more = one.0 ∷ rest.more;
  are = rest.are ∙ append_assoc done (one.0 ∷ []) rest.more;
  few = let few = rest.few in omega (arith, few, longer one.0 rest.more);
  some = λ h. omega (arith, longer one.0 rest.more);
  each = (again_on one.0 one.1 x.1 rest.stays read.again, rest.each);
  right = rest.right;
  stays = stays_on p one.1 x.1 read.stays rest.stays;
}
  where
    longer : (strand : Strand) (strands : List Strand) → length (strand ∷ strands) ≡ 1 + length strands
    longer strand strands = omega arith

threads_read : (n i : ℕ) (done : List Strand) (p : Placed) (left : Left) (x : List Strand × Placed × Left) → Right p → threads_at n i done p left ≡ Some x → ThreadsRead done p i n x
unfolding threads_at
threads_read zero i done p left x right h =
    let last = else_some (is_thread_name (next left)) _ x h in
    subst (λ (y : List Strand × Placed × Left). ThreadsRead done p i 0 y) (same_Some (done, p, left) x last.1) (no_more done p i 0 left right (λ h. omega (arith, h)))
threads_read (suc n) i done p left x right h = elim (cases_Bool (nat_lt 0 i && not (is_thread_name (next left)))) [
  | inl last ↦
      let some = ltb-true 0 i (and_parts (nat_lt 0 i) (not (is_thread_name (next left))) last).0 in
      subst (λ (y : List Strand × Placed × Left). ThreadsRead done p i (suc n) y) (same_Some (done, p, left) x (rw last at h)) (no_more done p i (suc n) left right (λ h. omega (arith, some)))
  | inr other ↦
      bind_some (numbered_thread_at i p left) _ x (rw other at h) (λ one p1 q1.
      let there = when_some (is_thread i (next left)) (thread_at p (passed left)) one p1 in
      let read = thread_read p (passed left) one right there.1 in
      one_before done p i n one x read (threads_read n (i + 1) (done ++ one.0 ∷ []) one.1 one.2 x read.right q1))
]

-- a name of one digit is a thread's
digit : (i : ℕ) → i < 10 → is_ascii_digit (48 + i) ≡ true
digit i lt = rw (le-leb 48 (48 + i) (omega arith), le-leb (48 + i) 57 (omega (arith, lt))) refl

named_so : (i : ℕ) → i < 10 → names_thread (thread_name i) ≡ true
named_so i lt = rw (digit i lt) refl

is_named : (i : ℕ) → bytes_eq (thread_name i) (thread_name i) ≡ true
is_named i = (bytes_eq-Decides (thread_name i) (thread_name i)).1 refl

threads_step : (n i : ℕ) (done : List Strand) (p : Placed) (rest : List Spelled) (c : ℕ) (one : Strand × Placed × Left) → i < 10 → thread_at p (rest, c) ≡ Some one
    → threads_at (suc n) i done p (name (thread_name i) ∷ rest, c) ≡ threads_at n (i + 1) (done ++ one.0 ∷ []) one.1 one.2
unfolding threads_at
threads_step n i done p rest c one lt h =
    let left : Left = (name (thread_name i) ∷ rest, c) in
    let goes_on : (nat_lt 0 i && not (is_thread_name (next left))) ≡ false = and_not (nat_lt 0 i) (is_thread_name (next left)) (named_so i lt) in
    ap (λ (b : Bool). cond b (Some (done, p, left)) (numbered_thread_at i p left >>= λ read. threads_at n (i + 1) (done ++ read.0 ∷ []) read.1 read.2)) goes_on
    ∙ ap (λ (b : Bool). cond b (thread_at p (rest, c)) None >>= λ read. threads_at n (i + 1) (done ++ read.0 ∷ []) read.1 read.2) (is_named i)
    ∙ ap (λ (o : Option (Strand × Placed × Left)). o >>= λ read. threads_at n (i + 1) (done ++ read.0 ∷ []) read.1 read.2) h
  where
    and_not : (a b : Bool) → b ≡ true → (a && not b) ≡ false
    and_not true b h = ap (λ (b : Bool). not b) h
    and_not false b h = refl

threads_again : (end : Placed) → Right end → (strands : List Strand) → EachAgain strands end → (n i : ℕ) (done : List Strand) → length strands ≤ n → 1 ≤ i + length strands → i + n ≤ 4
    → (c : ℕ) (behind : List Spelled) → is_thread_name (next (behind, 0)) ≡ false
    → (after : ℕ) × (threads_at n i done (full end.locations) (printed_threads end.locations i strands ++ behind, c) ≡ Some (done ++ strands, full end.locations, (behind, after)))
unfolding threads_at
threads_again end right [] each zero i done few some small c behind off = (
  c,
  let at_end : List Strand → Option (List Strand × Placed × Left) = λ ss. Some (ss, full end.locations, (behind, c)) in
      ap (λ (b : Bool). cond b None (Some (done, full end.locations, (behind, c)))) off ∙ ap at_end (sym (append-nil done)),
)
threads_again end right [] each (suc n) i done few some small c behind off = (
  c,
  let at_end : List Strand → Option (List Strand × Placed × Left) = λ ss. Some (ss, full end.locations, (behind, c)) in
      let last : (nat_lt 0 i && not (is_thread_name (next (behind, c)))) ≡ true = both (nat_lt 0 i) (is_thread_name (next (behind, 0))) (lt-ltb 0 i (omega (arith, some))) off in
      ap (λ (b : Bool). cond b (Some (done, full end.locations, (behind, c)))
      (numbered_thread_at i (full end.locations) (behind, c) >>= λ read. threads_at n (i + 1) (done ++ read.0 ∷ []) read.1 read.2)) last
      ∙ ap at_end (sym (append-nil done)),
)
  where
    both : (a b : Bool) → a ≡ true → b ≡ false → (a && not b) ≡ true
    both true b h i = ap (λ (b : Bool). not b) i
    both false b h i = h
threads_again end right (strand ∷ strands) each zero i done few some small c behind off = absurd (omega (arith, few))
threads_again end right (strand ∷ strands) each (suc n) i done few some small c behind off =
    let ls = end.locations in
    let rest = printed_threads ls (i + 1) strands ++ behind in
    let one = each.0 end right (stays_itself end) c rest in
    let more = threads_again end right strands each.1 n (i + 1) (done ++ strand ∷ []) (omega (arith, few, longer strand strands)) (omega arith) (omega (arith, small)) one.0 behind off in
    let at_end : List Strand → Option (List Strand × Placed × Left) = λ ss. Some (ss, full ls, (behind, more.0)) in (
      more.0,
      ap (λ (ts : List Spelled). threads_at (suc n) i done (full ls) (name (thread_name i) ∷ ts, c)) (append_assoc (printed_strand ls strand) (printed_threads ls (i + 1) strands) behind)
          ∙ threads_step n i done (full ls) (printed_strand ls strand ++ rest) c (strand, full ls, (rest, one.0)) (omega (arith, small)) one.1
          ∙ more.1 ∙ ap at_end (append_assoc done (strand ∷ []) strands),
    )
  where
    longer : (strand : Strand) (strands : List Strand) → length (strand ∷ strands) ≡ 1 + length strands
    longer strand strands = omega arith

-- ---- the whole

-- what follows the threads doesn't go on with them
question_begins : (locations : List Located) (threads : List Names) (listed : List Term) (filter : Option Formula) (quantifier : Quantifier) (condition : Formula)
    → is_thread_name (next (printed_question locations threads (record { listed = listed; filter = filter; quantifier = quantifier; condition = condition }), 0)) ≡ false
question_begins locations threads (term ∷ terms) filter quantifier condition = refl
question_begins locations threads [] (Some filter) quantifier condition = refl
question_begins locations threads [] None quantifiers.Exists condition = refl
question_begins locations threads [] None quantifiers.NotExists condition = refl
question_begins locations threads [] None quantifiers.Forall condition = refl

whole_so : (left first second third : Left) (spelling : List ℕ) (p q : Placed) (strands : List Strand) (asked : Asked) → head_at left ≡ Some (spelling, first) → initial_at nowhere first ≡ Some (p, second)
    → threads_at 4 0 [] p second ≡ Some (strands, q, third) → question_at q.locations (names_of strands) third ≡ Some asked
    → test_at left ≡ Some (record { name = spelling; locations = q.locations; threads = strands; asked = asked })
unfolding test_at
whole_so left first second third spelling p q strands asked head initial threads question = rw (head, initial, threads, question) refl

head_again : (spelling : List ℕ) (rest : List Spelled) (c : ℕ) → is_utf8 spelling ≡ true → head_at (word words.Language (codes "C") ∷ (kinds.TestName, spelling) ∷ rest, c) ≡ Some (spelling, (rest, c))
unfolding head_at
head_again spelling rest c text = rw text refl

head_text : (left : Left) (x : List ℕ × Left) → head_at left ≡ Some x → is_utf8 x.0 ≡ true
unfolding head_at
head_text left x h =
    let some = cond_some _ ((next (passed left)).1, passed (passed left)) x h in
    subst (λ (y : List ℕ × Left). is_utf8 y.0 ≡ true) some.1 (and_parts _ _ (and_parts _ _ some.0).1).1

written_again : (end : Placed) → Right end → (spelling : List ℕ) → is_utf8 spelling ≡ true → (strands : List Strand) → EachAgain strands end → length strands ≤ 4 → 1 ≤ length strands → (asked : Asked) (left : Left)
    → question_at end.locations (names_of strands) left ≡ Some asked → (count : ℕ)
    → test_at (printed_whole (record { name = spelling; locations = end.locations; threads = strands; asked = asked }), count) ≡ Some (record { name = spelling; locations = end.locations; threads = strands; asked = asked })
written_again end right spelling text strands each few some asked left h count =
    let ls = end.locations in
    let question = printed_question ls (names_of strands) asked in
    let threads = printed_threads ls 0 strands ++ question in
    let off = question_begins ls (names_of strands) asked.listed asked.filter asked.quantifier asked.condition in
    let again = threads_again end right strands each 4 0 [] few (omega (arith, some)) (omega arith) count question off in
    whole_so _ (sign signs.OpenBrace ∷ (printed_locations ls ++ (sign signs.CloseBrace ∷ threads)), count) (threads, count) (question, again.0) spelling (full ls) (full ls) strands asked
    (head_again spelling (sign signs.OpenBrace ∷ (printed_locations ls ++ (sign signs.CloseBrace ∷ threads))) count text)
    (initial_again end right count threads) again.1
    (questions_read_back ls (names_of strands) asked again.0 (question_can_be_read ls (names_of strands) left asked h))

pub tests_read_back : TestsReadBack
unfolding test_at
tests_read_back left whole count h =
    bind_some (head_at left) _ whole h (λ head p1 q1.
    bind_some (initial_at nowhere head.1) _ whole q1 (λ initial p2 q2.
    bind_some (threads_at 4 0 [] initial.0 initial.1) _ whole q2 (λ threads p3 q3.
    bind_some (question_at threads.1.locations (names_of threads.0) threads.2) _ whole q3 (λ asked p4 q4.
    let read = threads_read 4 0 [] initial.0 initial.1 threads (initial_right head.1 initial p2) p3 in
    let few = read.few in
    let some = read.some (omega arith) in
    let each : EachAgain threads.0 threads.1 = subst (λ (ss : List Strand). EachAgain ss threads.1) (sym read.are) read.each in
    let many : length threads.0 ≡ length read.more = ap (λ (ss : List Strand). length ss) read.are in
    subst (λ (w : Whole). test_at (printed_whole w, count) ≡ Some w) (same_Some (record { name = head.0; locations = threads.1.locations; threads = threads.0; asked = asked }) whole q4)
    (written_again threads.1 read.right head.0 (head_text left head p1) threads.0 each (omega (arith, few, many)) (omega (arith, some, many)) asked threads.2 p4 count)))))
