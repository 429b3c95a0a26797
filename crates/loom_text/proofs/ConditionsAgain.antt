-- What is written of a condition is read as that condition.
use Rattle.std.proofs.Common.{◌≡◌, ℕ, ℤ, pos, negsuc, zero, suc, ◌-◌, ◌+◌, ◌≤◌, ◌<◌, ◌^◌, List, [], ◌∷◌, ◌++◌, Bool, false, Option, Some, None, refl, sym, ap, cond, ◌∙◌, append_assoc, add_assoc, zero-add, arith}
use Rattle.std.proofs.lemmas.Bool.{lt-ltb, le-ltb}
use Rattle.loom_text.specs.declared.read.symbol.Symbol.TheVariants as signs
use Rattle.loom_text.specs.declared.test.Term.{Term}
use Rattle.loom_text.specs.declared.test.Term.TheVariants as terms
use Rattle.loom_text.specs.Known.{Located, Names}
use Rattle.loom_text.specs.Conditions.{Formula, Equals, Denied, Both, Either, comparison_at, condition_at, conjunction_of, disjunction_of, joined_at, part_at, term_at}
use Rattle.loom_text.specs.Printing.{ConditionsReadBack, IsFound, IsInt, IsWritable, comparisons, depth, printed, printed_term, printed_value, sign}
use Rattle.loom_text.proofs.ReadingSteps.{no_more, one_more}
use Rattle.loom_text.specs.Tokens.{Left, Spelled, ◌>>=◌, after_sign, constant_at, is_next}

-- ---- parts with signs between them

one_conjunct : (part : Left → Option (Formula × Left)) (left : Left) (f : Formula) (behind : Left) → part left ≡ Some (f, behind)
    → conjunction_of part left ≡ joined_at signs.Conjunction Both part 257 f behind
unfolding conjunction_of
one_conjunct part left f behind h = ap (λ (o : Option (Formula × Left)). o >>= λ read. joined_at signs.Conjunction Both part 257 read.0 read.1) h

one_disjunct : (part : Left → Option (Formula × Left)) (left : Left) (f : Formula) (behind : Left) → conjunction_of part left ≡ Some (f, behind)
    → disjunction_of part left ≡ joined_at signs.Disjunction Either (conjunction_of part) 257 f behind
unfolding disjunction_of
one_disjunct part left f behind h = ap (λ (o : Option (Formula × Left)). o >>= λ read. joined_at signs.Disjunction Either (conjunction_of part) 257 read.0 read.1) h

-- how many `/\`, and how many `\/`, are joined from the left
abbrev ands : Formula → ℕ
ands (Both left right) = ands left + 1
ands (Equals term value) = 0
ands (Denied inner) = 0
ands (Either left right) = 0

abbrev ors : Formula → ℕ
ors (Either left right) = ors left + 1
ors (Equals term value) = 0
ors (Denied inner) = 0
ors (Both left right) = 0

some_comparison : (f : Formula) → 1 ≤ comparisons f
some_comparison (Equals term value) = omega arith
some_comparison (Denied inner) = some_comparison inner
some_comparison (Both left right) = let l = some_comparison left in omega (arith, l)
some_comparison (Either left right) = let l = some_comparison left in omega (arith, l)

few_ands : (f : Formula) → ands f + 1 ≤ comparisons f
few_ands (Equals term value) = omega arith
few_ands (Denied inner) = some_comparison inner
few_ands (Both left right) = let l = few_ands left in let r = some_comparison right in omega (arith, l, r)
few_ands (Either left right) = let l = some_comparison left in omega (arith, l)

few_ors : (f : Formula) → ors f + 1 ≤ comparisons f
few_ors (Equals term value) = omega arith
few_ors (Denied inner) = some_comparison inner
few_ors (Both left right) = let l = some_comparison left in omega (arith, l)
few_ors (Either left right) = let l = few_ors left in let r = some_comparison right in omega (arith, l, r)

-- ---- what is read of a condition that is written at each level

abbrev PartAgain : List Located → List Names → Formula → Type 0
PartAgain locations threads f = (d c : ℕ) (behind : List Spelled) → depth 3 f ≤ d → c + comparisons f ≤ 256
    → part_at locations threads d (printed locations threads 3 f ++ behind, c) ≡ Some (f, (behind, c + comparisons f))

abbrev ConjunctionAgain : List Located → List Names → Formula → Type 0
ConjunctionAgain locations threads f = (d c : ℕ) (behind : List Spelled) → depth 2 f ≤ d → c + comparisons f ≤ 256
    → conjunction_of (part_at locations threads d) (printed locations threads 2 f ++ behind, c)
    ≡ joined_at signs.Conjunction Both (part_at locations threads d) (257 - ands f) f (behind, c + comparisons f)

abbrev DisjunctionAgain : List Located → List Names → Formula → Type 0
DisjunctionAgain locations threads f = (d c : ℕ) (behind : List Spelled) → depth 1 f ≤ d → c + comparisons f ≤ 256 → is_next signs.Conjunction (behind, 0) ≡ false
    → disjunction_of (part_at locations threads d) (printed locations threads 1 f ++ behind, c)
    ≡ joined_at signs.Disjunction Either (conjunction_of (part_at locations threads d)) (257 - ors f) f (behind, c + comparisons f)

-- what ends a conjunction is a disjunction's part
conjunction_ends : (locations : List Located) (threads : List Names) (f : Formula) → ConjunctionAgain locations threads f
    → (d c : ℕ) (behind : List Spelled) → depth 2 f ≤ d → c + comparisons f ≤ 256 → is_next signs.Conjunction (behind, 0) ≡ false
    → conjunction_of (part_at locations threads d) (printed locations threads 2 f ++ behind, c) ≡ Some (f, (behind, c + comparisons f))
conjunction_ends locations threads f again d c behind deep many off =
    let few = few_ands f in
    again d c behind deep many
    ∙ no_more signs.Conjunction Both (part_at locations threads d) (257 - ands f) (256 - ands f) f (behind, c + comparisons f) (omega (arith, few, many)) off

disjunction_ends : (locations : List Located) (threads : List Names) (f : Formula) → DisjunctionAgain locations threads f
    → (d c : ℕ) (behind : List Spelled) → depth 1 f ≤ d → c + comparisons f ≤ 256 → is_next signs.Conjunction (behind, 0) ≡ false → is_next signs.Disjunction (behind, 0) ≡ false
    → disjunction_of (part_at locations threads d) (printed locations threads 1 f ++ behind, c) ≡ Some (f, (behind, c + comparisons f))
disjunction_ends locations threads f again d c behind deep many off last =
    let few = few_ors f in
    again d c behind deep many off
    ∙ no_more signs.Disjunction Either (conjunction_of (part_at locations threads d)) (257 - ors f) (256 - ors f) f (behind, c + comparisons f) (omega (arith, few, many)) last

-- ---- parentheses

in_parentheses_again : (locations : List Located) (threads : List Names) (d c n : ℕ) (tokens behind : List Spelled) (f : Formula)
    → disjunction_of (part_at locations threads d) (tokens ++ (sign signs.CloseParenthesis ∷ behind), c) ≡ Some (f, (sign signs.CloseParenthesis ∷ behind, n))
    → part_at locations threads (suc d) ((sign signs.OpenParenthesis ∷ (tokens ++ sign signs.CloseParenthesis ∷ [])) ++ behind, c) ≡ Some (f, (behind, n))
unfolding part_at
in_parentheses_again locations threads d c n tokens behind f h =
    let regrouped : (tokens ++ (sign signs.CloseParenthesis ∷ [])) ++ behind ≡ tokens ++ (sign signs.CloseParenthesis ∷ behind) = append_assoc tokens (sign signs.CloseParenthesis ∷ []) behind in
    ap (λ (ts : List Spelled). part_at locations threads (suc d) (sign signs.OpenParenthesis ∷ ts, c)) regrouped
    ∙ ap (λ (o : Option (Formula × Left)). o >>= λ read. after_sign signs.CloseParenthesis read.1 >>= λ left. Some (read.0, left)) h

denied_again : (locations : List Located) (threads : List Names) (d c n : ℕ) (tokens behind : List Spelled) (f : Formula)
    → part_at locations threads d (tokens ++ behind, c) ≡ Some (f, (behind, n))
    → part_at locations threads (suc d) ((sign signs.Tilde ∷ tokens) ++ behind, c) ≡ Some (Denied f, (behind, n))
unfolding part_at
denied_again locations threads d c n tokens behind f h = ap (λ (o : Option (Formula × Left)). o >>= λ read. Some (Denied read.0, read.1)) h

-- ---- a comparison

pub term_again : (locations : List Located) (threads : List Names) (term : Term) (c : ℕ) (behind : List Spelled) → IsFound locations threads term
    → term_at locations threads (printed_term locations threads term ++ behind, c) ≡ Some (term, (behind, c))
unfolding term_at
term_again locations threads (terms.Register thread register) c behind found = ap (λ (o : Option Term). o >>= λ term. Some (term, (behind, c))) found
term_again locations threads (terms.Location place) c behind found = ap (λ (o : Option Term). o >>= λ term. Some (term, (behind, c))) found

pub constant_again : (value : ℤ) (c : ℕ) (behind : List Spelled) → IsInt value → constant_at (printed_value value ++ behind, c) ≡ Some (value, (behind, c))
unfolding constant_at
constant_again (pos n) c behind fits = ap (λ (b : Bool). cond b (Some (pos n)) None >>= λ value. Some (value, (behind, c))) (lt-ltb n (2 ^ 31) fits)
constant_again (negsuc n) c behind fits =
    let small : suc n ≤ 2 ^ 31 = omega (arith, fits) in
    ap (λ (b : Bool). cond b None (Some (negsuc n)) >>= λ value. Some (value, (behind, c))) (le-ltb (2 ^ 31) (suc n) small)

comparison_again : (locations : List Located) (threads : List Names) (term : Term) (value : ℤ) (c : ℕ) (behind : List Spelled) → IsFound locations threads term → IsInt value → c < 256
    → comparison_at locations threads (printed_term locations threads term ++ (sign signs.Assign ∷ printed_value value) ++ behind, c) ≡ Some (Equals term value, (behind, c + 1))
unfolding comparison_at
comparison_again locations threads term value c behind found fits few =
    let t = term_again locations threads term (c + 1) ((sign signs.Assign ∷ printed_value value) ++ behind) found in
    let v = constant_again value (c + 1) behind fits in
    let regrouped = append_assoc (printed_term locations threads term) (sign signs.Assign ∷ printed_value value) behind in
    ap (λ (ts : List Spelled). comparison_at locations threads (ts, c)) regrouped
    ∙ ap (λ (b : Bool). cond b (Some (printed_term locations threads term ++ ((sign signs.Assign ∷ printed_value value) ++ behind), c + 1)) None >>= λ left.
    term_at locations threads left >>= λ term.
    after_sign signs.Assign term.1 >>= λ left.
    constant_at left >>= λ value.
    Some (Equals term.0 value.0, value.1)) (lt-ltb c 256 few)
    ∙ ap (λ (o : Option (Term × Left)). o >>= λ term.
    after_sign signs.Assign term.1 >>= λ left.
    constant_at left >>= λ value.
    Some (Equals term.0 value.0, value.1)) t
    ∙ ap (λ (o : Option (ℤ × Left)). o >>= λ value. Some (Equals term value.0, value.1)) v

-- it is a part at each depth
equals_again : (locations : List Located) (threads : List Names) (term : Term) (value : ℤ) (d c : ℕ) (behind : List Spelled) → IsFound locations threads term → IsInt value → c + 1 ≤ 256
    → part_at locations threads d (printed_term locations threads term ++ (sign signs.Assign ∷ printed_value value) ++ behind, c) ≡ Some (Equals term value, (behind, c + 1))
unfolding part_at
equals_again locations threads (terms.Register thread register) value zero c behind found fits few = comparison_again locations threads (terms.Register thread register) value c behind found fits (omega (arith, few))
equals_again locations threads (terms.Register thread register) value (suc d) c behind found fits few = comparison_again locations threads (terms.Register thread register) value c behind found fits (omega (arith, few))
equals_again locations threads (terms.Location place) value zero c behind found fits few = comparison_again locations threads (terms.Location place) value c behind found fits (omega (arith, few))
equals_again locations threads (terms.Location place) value (suc d) c behind found fits few = comparison_again locations threads (terms.Location place) value c behind found fits (omega (arith, few))

-- ---- all

-- at each level
abbrev Again : List Located → List Names → Formula → Type 0
Again locations threads f = PartAgain locations threads f × ConjunctionAgain locations threads f × DisjunctionAgain locations threads f

-- what binds more strongly than `/\` and `\/` is written alike at each level
plain : (locations : List Located) (threads : List Names) (f : Formula) → printed locations threads 2 f ≡ printed locations threads 3 f → printed locations threads 1 f ≡ printed locations threads 3 f
    → depth 2 f ≡ depth 3 f → depth 1 f ≡ depth 3 f → ands f ≡ 0 → ors f ≡ 0 → PartAgain locations threads f → Again locations threads f
plain locations threads f p2 p1 d2 d1 a o again =
    let conjunct : ConjunctionAgain locations threads f = λ d c behind deep many.
    ap (λ (ts : List Spelled). conjunction_of (part_at locations threads d) (ts ++ behind, c)) p2
    ∙ one_conjunct (part_at locations threads d) (printed locations threads 3 f ++ behind, c) f (behind, c + comparisons f) (again d c behind (omega (arith, deep, d2)) many)
    ∙ ap (λ (n : ℕ). joined_at signs.Conjunction Both (part_at locations threads d) (257 - n) f (behind, c + comparisons f)) (sym a) in
    let disjunct : DisjunctionAgain locations threads f = λ d c behind deep many off.
    ap (λ (ts : List Spelled). disjunction_of (part_at locations threads d) (ts ++ behind, c)) (p1 ∙ sym p2)
    ∙ one_disjunct (part_at locations threads d) (printed locations threads 2 f ++ behind, c) f (behind, c + comparisons f)
    (conjunction_ends locations threads f conjunct d c behind (omega (arith, deep, d1, d2)) many off)
    ∙ ap (λ (n : ℕ). joined_at signs.Disjunction Either (conjunction_of (part_at locations threads d)) (257 - n) f (behind, c + comparisons f)) (sym o) in
    (again, conjunct, disjunct)

conjunction_again : (locations : List Located) (threads : List Names) (l r : Formula) → Again locations threads l → Again locations threads r → ConjunctionAgain locations threads (Both l r)
unfolding printed
conjunction_again locations threads l r again again' d c behind deep many =
    let few = few_ands l in
    let one = some_comparison r in
    let regrouped : (printed locations threads 2 l ++ (sign signs.Conjunction ∷ printed locations threads 3 r)) ++ behind ≡ printed locations threads 2 l ++ (sign signs.Conjunction ∷ (printed locations threads 3 r ++ behind)) =
    append_assoc (printed locations threads 2 l) (sign signs.Conjunction ∷ printed locations threads 3 r) behind in
    let first = again.1 d c (sign signs.Conjunction ∷ (printed locations threads 3 r ++ behind)) (omega (arith, deep)) (omega (arith, many)) in
    let second = again'.0 d (c + comparisons l) behind (omega (arith, deep)) (omega (arith, many)) in
    ap (λ (ts : List Spelled). conjunction_of (part_at locations threads d) (ts, c)) regrouped
    ∙ first
    ∙ one_more signs.Conjunction Both (part_at locations threads d) (257 - ands l) (257 - (ands l + 1)) l r
    (sign signs.Conjunction ∷ (printed locations threads 3 r ++ behind), c + comparisons l) (behind, c + comparisons l + comparisons r) (omega (arith, few, one, many)) refl second
    ∙ ap (λ (n : ℕ). joined_at signs.Conjunction Both (part_at locations threads d) (257 - (ands l + 1)) (Both l r) (behind, n)) (add_assoc c (comparisons l) (comparisons r))

disjunction_again : (locations : List Located) (threads : List Names) (l r : Formula) → Again locations threads l → Again locations threads r → DisjunctionAgain locations threads (Either l r)
unfolding printed
disjunction_again locations threads l r again again' d c behind deep many off =
    let few = few_ors l in
    let one = some_comparison r in
    let regrouped : (printed locations threads 1 l ++ (sign signs.Disjunction ∷ printed locations threads 2 r)) ++ behind ≡ printed locations threads 1 l ++ (sign signs.Disjunction ∷ (printed locations threads 2 r ++ behind)) =
    append_assoc (printed locations threads 1 l) (sign signs.Disjunction ∷ printed locations threads 2 r) behind in
    let first = again.2 d c (sign signs.Disjunction ∷ (printed locations threads 2 r ++ behind)) (omega (arith, deep)) (omega (arith, many)) refl in
    let second = conjunction_ends locations threads r again'.1 d (c + comparisons l) behind (omega (arith, deep)) (omega (arith, many)) off in
    ap (λ (ts : List Spelled). disjunction_of (part_at locations threads d) (ts, c)) regrouped
    ∙ first
    ∙ one_more signs.Disjunction Either (conjunction_of (part_at locations threads d)) (257 - ors l) (257 - (ors l + 1)) l r
    (sign signs.Disjunction ∷ (printed locations threads 2 r ++ behind), c + comparisons l) (behind, c + comparisons l + comparisons r) (omega (arith, few, one, many)) refl second
    ∙ ap (λ (n : ℕ). joined_at signs.Disjunction Either (conjunction_of (part_at locations threads d)) (257 - (ors l + 1)) (Either l r) (behind, n)) (add_assoc c (comparisons l) (comparisons r))

-- in parentheses
both_part : (locations : List Located) (threads : List Names) (l r : Formula) → DisjunctionAgain locations threads (Both l r) → PartAgain locations threads (Both l r)
unfolding printed
both_part locations threads l r again zero c behind deep many = absurd (omega (arith, deep))
both_part locations threads l r again (suc d) c behind deep many =
    in_parentheses_again locations threads d c _ _ behind (Both l r)
    (disjunction_ends locations threads (Both l r) again d c (sign signs.CloseParenthesis ∷ behind) (omega (arith, deep)) many refl refl)

either_part : (locations : List Located) (threads : List Names) (l r : Formula) → DisjunctionAgain locations threads (Either l r) → PartAgain locations threads (Either l r)
unfolding printed
either_part locations threads l r again zero c behind deep many = absurd (omega (arith, deep))
either_part locations threads l r again (suc d) c behind deep many =
    in_parentheses_again locations threads d c _ _ behind (Either l r)
    (disjunction_ends locations threads (Either l r) again d c (sign signs.CloseParenthesis ∷ behind) (omega (arith, deep)) many refl refl)

denied_part : (locations : List Located) (threads : List Names) (f : Formula) → PartAgain locations threads f → PartAgain locations threads (Denied f)
unfolding printed
denied_part locations threads f again zero c behind deep many = absurd (omega (arith, deep))
denied_part locations threads f again (suc d) c behind deep many =
    denied_again locations threads d c _ (printed locations threads 3 f) behind f (again d c behind (omega (arith, deep)) many)

both_disjunct : (locations : List Located) (threads : List Names) (l r : Formula) → ConjunctionAgain locations threads (Both l r) → DisjunctionAgain locations threads (Both l r)
unfolding printed
both_disjunct locations threads l r again d c behind deep many off =
    one_disjunct (part_at locations threads d) (printed locations threads 2 (Both l r) ++ behind, c) (Both l r) (behind, c + (comparisons l + comparisons r))
    (conjunction_ends locations threads (Both l r) again d c behind deep many off)

either_conjunct : (locations : List Located) (threads : List Names) (l r : Formula) → PartAgain locations threads (Either l r) → ConjunctionAgain locations threads (Either l r)
unfolding printed
either_conjunct locations threads l r again d c behind deep many =
    one_conjunct (part_at locations threads d) (printed locations threads 3 (Either l r) ++ behind, c) (Either l r) (behind, c + (comparisons l + comparisons r))
    (again d c behind deep many)

again_of : (locations : List Located) (threads : List Names) (f : Formula) → IsWritable locations threads f → Again locations threads f
unfolding printed
again_of locations threads (Equals term value) h = plain locations threads (Equals term value) refl refl refl refl refl refl
    (λ d c behind deep many. equals_again locations threads term value d c behind h.0 h.1 many)
again_of locations threads (Denied inner) h =
    let part : PartAgain locations threads (Denied inner) = denied_part locations threads inner (again_of locations threads inner h).0 in
    plain locations threads (Denied inner) refl refl refl refl refl refl part
again_of locations threads (Both l r) h =
    let conjunct = conjunction_again locations threads l r (again_of locations threads l h.0) (again_of locations threads r h.1) in
    let disjunct = both_disjunct locations threads l r conjunct in
    (both_part locations threads l r disjunct, conjunct, disjunct)
again_of locations threads (Either l r) h =
    let disjunct = disjunction_again locations threads l r (again_of locations threads l h.0) (again_of locations threads r h.1) in
    let part = either_part locations threads l r disjunct in
    (part, either_conjunct locations threads l r part, disjunct)

pub conditions_read_back : ConditionsReadBack
unfolding condition_at
conditions_read_back locations threads f behind count h off last =
    let few : comparisons f ≤ 256 = h.1 in
    disjunction_ends locations threads f (again_of locations threads f h.0).2 64 0 behind h.2 (omega (arith, few)) off last
    ∙ ap (λ (n : ℕ). Some (f, (behind, n))) (zero-add (comparisons f))
