-- What is written of a test's locations, and of those that a thread is passed, is read as the same.
use Rattle.std.proofs.Common.{◌≡◌, ℕ, ℤ, pos, zero, suc, ◌+◌, ◌≤◌, ◌<◌, nat_eq, not, ◌&&◌, int_eq, set, map, List, [], ◌∷◌, ◌++◌, length, get_or, Bool, true, false, Option, Some, None, cond, refl, sym, ap, subst, ◌∙◌, inl, inr, append_assoc, append-nil, arith}
use Rattle.std.specs.List.{list_any, slice_get}
use Rattle.std.specs.Option.{unwrap_or}
use Rattle.std.specs.Str.{bytes_eq, is_utf8}
use Rattle.std.proofs.lemmas.Bool.{cases_Bool, false_from_ne_true, le-ltb, lt-ltb}
use Rattle.std.proofs.lemmas.List.{length-append, map-append}
use Rattle.std.proofs.lemmas.List.Sums.{position_or_len_is}
use Rattle.std.proofs.lemmas.Option.{same_Some}
use Rattle.std.proofs.lemmas.Slice.Eq.{bytes_eq-Decides}
use Rattle.loom_text.specs.contracts.test.KindPartialEq.TheImpl as same_kinds
use Rattle.loom_text.specs.declared.read.symbol.Symbol.TheVariants as signs
use Rattle.loom_text.specs.declared.test.Kind.{Kind}
use Rattle.loom_text.specs.declared.test.Kind.TheVariants as location_kinds
use Rattle.loom_text.specs.Blocks.{semicolon}
use Rattle.loom_text.specs.Heads.{Passing, Placed, agreed, agreed_as, all_parameters_at, initial_at, initial_name_at, initial_number_at, initial_part_at, initial_parts_at, initial_value_at, is_lock, kind_said, location_declared, nowhere, parameter_at, parameters_at, with_kind}
use Rattle.loom_text.specs.Known.{Located, location_in}
use Rattle.loom_text.specs.Printing.{IsInt, name, printed_value, sign}
use Rattle.loom_text.specs.Statements.{kind_at}
use Rattle.loom_text.specs.Tokens.{Left, Spelled, ◌>>=◌, after_sign, is_next, passed}
use Rattle.loom_text.specs.Whole.{further_parameters, kind_token, parameter_tokens, printed_initial, printed_locations, printed_parameter, printed_parameters}
use Rattle.loom_text.proofs.ConditionsAgain.{constant_again}
use Rattle.loom_text.proofs.NameLemmas.{leads}
use Rattle.loom_text.proofs.PlacedRight.{Apart, Differ, EachRight, IsRight, Right, each_at}

-- each location's kind is said
abbrev pub full : List Located → Placed
full locations = record { locations = locations; typed = map (λ location. true) locations }

-- ---- the initial state

-- no name before is this one's
new_name : (before : List Located) (l : Located) (behind : List Located) → Differ (before ++ l ∷ behind) → location_in before l.name ≡ None
new_name before l behind differ =
    let other : (k : ℕ) → k < length before → bytes_eq (get_or before k l).name l.name ≡ false =
    (λ k lt. false_from_ne_true (bytes_eq (get_or before k l).name l.name) (λ same.
    differ k (length before) l lt (within before l behind)
    (ap (λ (x : Located). x.name) (early before (l ∷ behind) k l lt) ∙ (bytes_eq-Decides (get_or before k l).name l.name).0 same ∙ ap (λ (x : Located). x.name) (sym (here before l behind l))))) in
    let place = position_or_len_is (λ (x : Located). bytes_eq x.name l.name) before (length before) l (omega arith) other (λ lt. absurd (omega (arith, lt))) in
    rw (place, le-ltb (length before) (length before) (omega arith)) refl
  where
    within : (xs : List Located) (x : Located) (ys : List Located) → length xs < length (xs ++ x ∷ ys)
    within [] x ys = omega arith
    within (y ∷ xs) x ys = let rest = within xs x ys in omega (arith, rest)

    early : (xs ys : List Located) (k : ℕ) (d : Located) → k < length xs → get_or (xs ++ ys) k d ≡ get_or xs k d
    early [] ys k d lt = absurd (omega (arith, lt))
    early (x ∷ xs) ys zero d lt = refl
    early (x ∷ xs) ys (suc k) d lt = early xs ys k d (omega (arith, lt))

    here : (xs : List Located) (x : Located) (ys : List Located) (d : Located) → get_or (xs ++ x ∷ ys) (length xs) d ≡ x
    here [] x ys d = refl
    here (y ∷ xs) x ys d = here xs x ys d

declared_again : (before : List Located) (spelling : List ℕ) (kind : Kind) (value : ℤ) → length before < 64 → is_utf8 spelling ≡ true
    → location_declared spelling (Some kind) value (full before) ≡ Some (length before, full (before ++ record { name = spelling; kind = kind; value = value } ∷ []))
unfolding location_declared
declared_again before spelling kind value few text =
    let l : Located = record { name = spelling; kind = kind; value = value } in
    let at_end : List Bool → Option (ℕ × Placed) = λ bs. Some (length before, record { locations = before ++ l ∷ []; typed = bs }) in
    rw (lt-ltb (length before) 64 few, text) (ap at_end (sym (map-append (λ (location : Located). true) before (l ∷ []))))

module _ (before : List Located) (spelling : List ℕ) (new : location_in before spelling ≡ None) (few : length before < 64) (text : is_utf8 spelling ≡ true) (rest : List Spelled) (c : ℕ) where
  with_value : (kind : Kind) (value : ℤ) → is_lock kind ≡ false → IsInt value
      → initial_part_at (full before) (kind_token kind ∷ name spelling ∷ sign signs.Assign ∷ ((printed_value value ++ semicolon) ++ rest), c)
      ≡ Some (full (before ++ record { name = spelling; kind = kind; value = value } ∷ []), (rest, c))
  unfolding initial_part_at initial_value_at kind_at initial_name_at initial_number_at
  with_value kind value plain int =
      ap (λ (ts : List Spelled). initial_part_at (full before) (kind_token kind ∷ name spelling ∷ sign signs.Assign ∷ ts, c)) (append_assoc (printed_value value) semicolon rest)
      ∙ rw (new, plain, constant_again value c (sign signs.Semicolon ∷ rest) int, declared_again before spelling kind value few text) refl

  without_value : (kind : Kind) → initial_part_at (full before) (kind_token kind ∷ name spelling ∷ sign signs.Semicolon ∷ rest, c)
      ≡ Some (full (before ++ record { name = spelling; kind = kind; value = pos 0 } ∷ []), (rest, c))
  unfolding initial_part_at initial_value_at kind_at initial_name_at initial_number_at
  without_value kind = rw (new, declared_again before spelling kind (pos 0) few text) refl

  part_again : (kind : Kind) (value : ℤ) → IsInt value → (is_lock kind ≡ true → value ≡ pos 0)
      → initial_part_at (full before) (kind_token kind ∷ name spelling ∷ (printed_initial kind value ++ rest), c)
      ≡ Some (full (before ++ record { name = spelling; kind = kind; value = value } ∷ []), (rest, c))
  part_again location_kinds.Atomic value int lock = with_value location_kinds.Atomic value refl int
  part_again location_kinds.Plain value int lock = with_value location_kinds.Plain value refl int
  part_again location_kinds.Mutex value int lock =
      without_value location_kinds.Mutex
      ∙ ap (λ (v : ℤ). Some (full (before ++ record { name = spelling; kind = location_kinds.Mutex; value = v } ∷ []), (rest, c))) (sym (lock refl))
  part_again location_kinds.Condvar value int lock =
      without_value location_kinds.Condvar
      ∙ ap (λ (v : ℤ). Some (full (before ++ record { name = spelling; kind = location_kinds.Condvar; value = v } ∷ []), (rest, c))) (sym (lock refl))

parts_step : (n : ℕ) (p q : Placed) (left behind : Left) → is_next signs.CloseBrace left ≡ false → initial_part_at p left ≡ Some (q, behind) → initial_parts_at (suc n) p left ≡ initial_parts_at n q behind
unfolding initial_parts_at
parts_step n p q left behind other h =
    ap (λ (b : Bool). cond b (Some (p, passed left)) (initial_part_at p left >>= λ read. initial_parts_at n read.0 read.1)) other
    ∙ ap (λ (o : Option (Placed × Left)). o >>= λ read. initial_parts_at n read.0 read.1) h

parts_again : (ls before : List Located) → EachRight ls → length (before ++ ls) ≤ 64 → Differ (before ++ ls) → (n : ℕ) → length ls < n → (c : ℕ) (behind : List Spelled)
    → initial_parts_at n (full before) (printed_locations ls ++ (sign signs.CloseBrace ∷ behind), c) ≡ Some (full (before ++ ls), (behind, c))
unfolding initial_parts_at
parts_again ls before each few differ zero lt c behind = absurd (omega (arith, lt))
parts_again [] before each few differ (suc n) lt c behind = ap (λ (xs : List Located). Some (full xs, (behind, c))) (sym (append-nil before))
parts_again (l ∷ ls) before each few differ (suc n) lt c behind =
    let rest = printed_locations ls ++ (sign signs.CloseBrace ∷ behind) in
    let right = each.0 in
    let many = length-append before (l ∷ ls) in
    let new = new_name before l ls differ in
    let one : initial_part_at (full before) (kind_token l.kind ∷ name l.name ∷ (printed_initial l.kind l.value ++ rest), c) ≡ Some (full (before ++ l ∷ []), (rest, c)) =
    part_again before l.name new (omega (arith, many, few, longer l ls)) right.text rest c l.kind l.value right.int right.lock in
    let regrouped : before ++ (l ∷ ls) ≡ (before ++ l ∷ []) ++ ls = sym (append_assoc before (l ∷ []) ls) in
    ap (λ (ts : List Spelled). initial_parts_at (suc n) (full before) (kind_token l.kind ∷ name l.name ∷ ts, c)) (append_assoc (printed_initial l.kind l.value) (printed_locations ls) (sign signs.CloseBrace ∷ behind))
    ∙ parts_step n (full before) (full (before ++ l ∷ [])) (kind_token l.kind ∷ name l.name ∷ (printed_initial l.kind l.value ++ rest), c) (rest, c) refl one
    ∙ parts_again ls (before ++ l ∷ []) each.1 (subst (λ (xs : List Located). length xs ≤ 64) regrouped few) (subst Differ regrouped differ) n (omega (arith, lt, longer l ls)) c behind
    ∙ ap (λ (xs : List Located). Some (full xs, (behind, c))) (sym regrouped)
  where
    longer : (l : Located) (ls : List Located) → length (l ∷ ls) ≡ 1 + length ls
    longer l ls = omega arith

-- each has a token at least
some_tokens : (ls : List Located) (behind : List Spelled) → length ls < length (printed_locations ls ++ (sign signs.CloseBrace ∷ behind))
some_tokens [] behind = omega arith
some_tokens (l ∷ ls) behind =
    let rest = some_tokens ls behind in
    let regrouped = ap (λ (ts : List Spelled). length ts) (append_assoc (printed_initial l.kind l.value) (printed_locations ls) (sign signs.CloseBrace ∷ behind)) in
    let many = length-append (printed_initial l.kind l.value) (printed_locations ls ++ (sign signs.CloseBrace ∷ behind)) in
    longer (printed_initial l.kind l.value) (printed_locations ls) (sign signs.CloseBrace ∷ behind) ls l rest many regrouped
  where
    longer : (first middle last : List Spelled) (ls : List Located) (l : Located) → length ls < length (middle ++ last) → length (first ++ (middle ++ last)) ≡ length first + length (middle ++ last)
        → length ((first ++ middle) ++ last) ≡ length (first ++ (middle ++ last)) → length (l ∷ ls) < length (kind_token l.kind ∷ name l.name ∷ ((first ++ middle) ++ last))
    longer first middle last ls l rest many regrouped = omega (arith, rest, many, regrouped)

pub initial_again : (p : Placed) → Right p → (c : ℕ) (behind : List Spelled)
    → initial_at nowhere (sign signs.OpenBrace ∷ (printed_locations p.locations ++ (sign signs.CloseBrace ∷ behind)), c) ≡ Some (full p.locations, (behind, c))
unfolding initial_at
initial_again p right c behind = parts_again p.locations [] right.each right.few right.differ (length (printed_locations p.locations ++ (sign signs.CloseBrace ∷ behind))) (some_tokens p.locations behind) c behind

-- ---- a location that is named again

same_itself : (kind : Kind) → (same_kinds.ghosts).eq kind kind ≡ true
same_itself location_kinds.Atomic = refl
same_itself location_kinds.Plain = refl
same_itself location_kinds.Mutex = refl
same_itself location_kinds.Condvar = refl

and_false : (a b : Bool) → b ≡ false → (a && b) ≡ false
and_false true b h = h
and_false false b h = refl

kind_stays : (n : ℕ) (ls : List Located) (l : Located) → slice_get ls n ≡ Some l → with_kind n l.kind ls ≡ ls
kind_stays n [] l h = refl
kind_stays zero (x ∷ ls) l h =
    let said : Kind → List Located = λ kind. record x { kind = kind } ∷ ls in
    ap said (ap (λ (y : Located). y.kind) (sym (same_Some x l h)))
kind_stays (suc n) (x ∷ ls) l h = ap (λ (xs : List Located). x ∷ xs) (kind_stays n ls l h)

said_stays : (ls : List Located) (n : ℕ) → set (map (λ (location : Located). true) ls) n true ≡ map (λ (location : Located). true) ls
said_stays [] n = refl
said_stays (x ∷ ls) zero = refl
said_stays (x ∷ ls) (suc n) = ap (λ (bs : List Bool). true ∷ bs) (said_stays ls n)

value_or_lock : (kind : Kind) (value : ℤ) → (is_lock kind ≡ true → value ≡ pos 0) → (not (int_eq value (pos 0)) && is_lock kind) ≡ false
value_or_lock kind value lock = elim (cases_Bool (is_lock kind)) [
  | inl locks ↦ ap (λ (v : ℤ). not (int_eq v (pos 0)) && is_lock kind) (lock locks)
  | inr plain ↦ and_false (not (int_eq value (pos 0))) (is_lock kind) plain
]

agreed_again : (ls : List Located) (n : ℕ) (l : Located) → slice_get ls n ≡ Some l → IsRight l → agreed n l.kind (full ls) ≡ Some (full ls)
unfolding agreed
agreed_again ls n l e right =
    let alike : (unwrap_or (slice_get (full ls).typed n) false && not ((same_kinds.ghosts).eq l.kind l.kind)) ≡ false =
    and_false (unwrap_or (slice_get (full ls).typed n) false) (not ((same_kinds.ghosts).eq l.kind l.kind)) (ap (λ (b : Bool). not b) (same_itself l.kind)) in
    let last : Option Placed = Some (kind_said n l.kind (full ls)) in
    let made : List Located → List Bool → Option Placed = λ xs bs. Some (record { locations = xs; typed = bs }) in
    ap (λ (o : Option Located). agreed_as n l.kind (full ls) o) e
    ∙ ap (λ (b : Bool). cond b None (cond (not (int_eq l.value (pos 0)) && is_lock l.kind) None last)) alike
    ∙ ap (λ (b : Bool). cond b None last) (value_or_lock l.kind l.value right.lock)
    ∙ ap (λ (xs : List Located). made xs (set (map (λ (location : Located). true) ls) n true)) (kind_stays n ls l e)
    ∙ ap (λ (bs : List Bool). made ls bs) (said_stays ls n)

-- ---- parameters

module _ (ls : List Located) (each : EachRight ls) (differ : Differ ls) where
  parameter_again : (done : List ℕ) (n : ℕ) (l : Located) → slice_get ls n ≡ Some l → list_any (λ other. nat_eq other n) done ≡ false → (c : ℕ) (behind : List Spelled) → is_next signs.OpenBracket (behind, c) ≡ false
      → parameter_at (done, full ls) (kind_token l.kind ∷ sign signs.Star ∷ name l.name ∷ behind, c) ≡ Some ((done ++ n ∷ [], full ls), (behind, c))
  unfolding parameter_at kind_at
  parameter_again done n l e apart c behind bracket =
      let found : location_in ls l.name ≡ Some n = leads (λ (x : Located). x.name) ls n l differ e in
      rw (bracket, found, agreed_again ls n l e (each_at ls n l each e), apart) refl

  -- those at these numbers
  abbrev pub EachThere : List ℕ → Type 0
  EachThere [] = Unit {0}
  EachThere (n ∷ ns) = ((l : Located) × (slice_get ls n ≡ Some l)) × EachThere ns

  parameters_step : (n : ℕ) (p q : Passing) (left behind : Left) → parameter_at p left ≡ Some (q, behind) → is_next signs.Comma behind ≡ true → parameters_at (suc n) p left ≡ parameters_at n q (passed behind)
  unfolding parameters_at
  parameters_step n p q left behind h comma =
      ap (λ (o : Option (Passing × Left)). o >>= λ read. cond (is_next signs.Comma read.1) (parameters_at n read.0 (passed read.1)) (after_sign signs.CloseParenthesis read.1 >>= λ left. Some (read.0, left))) h
      ∙ ap (λ (b : Bool). cond b (parameters_at n q (passed behind)) (after_sign signs.CloseParenthesis behind >>= λ left. Some (q, left))) comma

  parameters_end : (n : ℕ) (p q : Passing) (left : Left) (behind : List Spelled) (c : ℕ) → parameter_at p left ≡ Some (q, (sign signs.CloseParenthesis ∷ behind, c)) → parameters_at (suc n) p left ≡ Some (q, (behind, c))
  unfolding parameters_at
  parameters_end n p q left behind c h =
      ap (λ (o : Option (Passing × Left)). o >>= λ read. cond (is_next signs.Comma read.1) (parameters_at n read.0 (passed read.1)) (after_sign signs.CloseParenthesis read.1 >>= λ left. Some (read.0, left))) h

  parameters_again : (ns : List ℕ) (n : ℕ) (done : List ℕ) → EachThere (n ∷ ns) → Apart done (n ∷ ns) → (count : ℕ) → length ns < count → (c : ℕ) (behind : List Spelled)
      → parameters_at count (done, full ls) (printed_parameters ls (n ∷ ns) ++ (sign signs.CloseParenthesis ∷ behind), c) ≡ Some ((done ++ (n ∷ ns), full ls), (behind, c))
  parameters_again ns n done there apart zero lt c behind = absurd (omega (arith, lt))
  parameters_again [] n done there apart (suc count) lt c behind =
      let l = there.0.0 in
      ap (λ (o : Option Located). parameters_at (suc count) (done, full ls) ((parameter_tokens o ++ []) ++ (sign signs.CloseParenthesis ∷ behind), c)) there.0.1
      ∙ parameters_end count (done, full ls) (done ++ n ∷ [], full ls) (kind_token l.kind ∷ sign signs.Star ∷ name l.name ∷ sign signs.CloseParenthesis ∷ behind, c) behind c
      (parameter_again done n l there.0.1 apart.0 c (sign signs.CloseParenthesis ∷ behind) refl)
  parameters_again (m ∷ ns) n done there apart (suc count) lt c behind =
      let l = there.0.0 in
      let rest = printed_parameters ls (m ∷ ns) ++ (sign signs.CloseParenthesis ∷ behind) in
      ap (λ (o : Option Located). parameters_at (suc count) (done, full ls) ((parameter_tokens o ++ (sign signs.Comma ∷ printed_parameters ls (m ∷ ns))) ++ (sign signs.CloseParenthesis ∷ behind), c)) there.0.1
      ∙ parameters_step count (done, full ls) (done ++ n ∷ [], full ls) (kind_token l.kind ∷ sign signs.Star ∷ name l.name ∷ sign signs.Comma ∷ rest, c) (sign signs.Comma ∷ rest, c)
      (parameter_again done n l there.0.1 apart.0 c (sign signs.Comma ∷ rest) refl) refl
      ∙ parameters_again ns m (done ++ n ∷ []) there.1 apart.1 count (omega (arith, lt, longer m ns)) c behind
      ∙ ap (λ (xs : List ℕ). Some ((xs, full ls), (behind, c))) (append_assoc done (n ∷ []) (m ∷ ns))
    where
      longer : (m : ℕ) (ns : List ℕ) → length (m ∷ ns) ≡ 1 + length ns
      longer m ns = omega arith

  -- each has a token at least
  further_tokens : (ns : List ℕ) (behind : List Spelled) → length ns ≤ length (further_parameters ls ns ++ behind)
  further_tokens [] behind = omega arith
  further_tokens (n ∷ ns) behind =
      let rest = further_tokens ns behind in
      let regrouped = ap (λ (ts : List Spelled). length ts) (append_assoc (printed_parameter ls n) (further_parameters ls ns) behind) in
      let many = length-append (printed_parameter ls n) (further_parameters ls ns ++ behind) in
      longer (printed_parameter ls n) (further_parameters ls ns) behind ns n rest many regrouped
    where
      longer : (first middle last : List Spelled) (ns : List ℕ) (n : ℕ) → length ns ≤ length (middle ++ last) → length (first ++ (middle ++ last)) ≡ length first + length (middle ++ last)
          → length ((first ++ middle) ++ last) ≡ length (first ++ (middle ++ last)) → length (n ∷ ns) ≤ length (sign signs.Comma ∷ ((first ++ middle) ++ last))
      longer first middle last ns n rest many regrouped = omega (arith, rest, many, regrouped)

  pub all_parameters_again : (ns : List ℕ) → EachThere ns → Apart [] ns → (c : ℕ) (behind : List Spelled)
      → all_parameters_at (full ls) (printed_parameters ls ns ++ (sign signs.CloseParenthesis ∷ behind), c) ≡ Some ((ns, full ls), (behind, c))
  unfolding all_parameters_at
  all_parameters_again [] there apart c behind = refl
  all_parameters_again (n ∷ ns) there apart c behind =
      let l = there.0.0 in
      let close = sign signs.CloseParenthesis ∷ behind in
      let tokens : List Spelled = (parameter_tokens (Some l) ++ further_parameters ls ns) ++ close in
      let same : printed_parameters ls (n ∷ ns) ++ close ≡ tokens = ap (λ (o : Option Located). (parameter_tokens o ++ further_parameters ls ns) ++ close) there.0.1 in
      let enough : length ns < length tokens = many (further_parameters ls ns ++ close) ns l (further_tokens ns close) in
      ap (λ (ts : List Spelled). all_parameters_at (full ls) (ts, c)) same
      ∙ ap (λ (ts : List Spelled). parameters_at (length tokens) ([], full ls) (ts, c)) (sym same)
      ∙ parameters_again ns n [] there apart (length tokens) enough c behind
    where
      many : (rest : List Spelled) (ns : List ℕ) (l : Located) → length ns ≤ length rest → length ns < length (kind_token l.kind ∷ sign signs.Star ∷ name l.name ∷ rest)
      many rest ns l le = omega (arith, le)
