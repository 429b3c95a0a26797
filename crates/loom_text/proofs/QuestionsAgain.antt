-- What is written of what follows the threads of a test is read as the same.
use Rattle.std.proofs.Common.{◌≡◌, ℕ, zero, suc, ◌≤◌, ◌<◌, List, [], ◌∷◌, ◌++◌, length, All, Bool, false, Option, Some, None, IfSome, cond, refl, sym, ap, ◌∙◌, append_assoc, append-nil, length-append, arith}
use Rattle.loom_text.specs.declared.read.symbol.Symbol.TheVariants as signs
use Rattle.loom_text.specs.declared.read.token.TokenKind.TheVariants as kinds
use Rattle.loom_text.specs.declared.read.word.Word.TheVariants as words
use Rattle.loom_text.specs.declared.test.Quantifier.{Quantifier}
use Rattle.loom_text.specs.declared.test.Quantifier.TheVariants as quantifiers
use Rattle.loom_text.specs.declared.test.Term.{Term}
use Rattle.loom_text.specs.declared.test.Term.TheVariants as terms
use Rattle.loom_text.specs.Known.{Located, Names}
use Rattle.loom_text.specs.Conditions.{Formula, condition_at, term_at}
use Rattle.loom_text.specs.Printing.{CanBeRead, IsFound, comparisons, printed, printed_term, sign}
use Rattle.loom_text.specs.Question.{filter_at, is_word, listed_at, listed_term_at, question_at, quantifier_at, terms_at}
use Rattle.loom_text.specs.Readable.{QuestionsReadBack, printed_filter, printed_listed, printed_quantifier, printed_question, printed_terms}
use Rattle.loom_text.specs.Tokens.{Left, Spelled, ◌>>=◌, after_sign, is_next, passed}
use Rattle.loom_text.proofs.ConditionsAgain.{conditions_read_back, term_again}
use Rattle.loom_text.proofs.ReadingSteps.{then_some}

-- ---- terms

no_bracket : (locations : List Located) (threads : List Names) (term : Term) (behind : List Spelled) (c : ℕ) → is_next signs.CloseBracket (printed_term locations threads term ++ behind, c) ≡ false
no_bracket locations threads (terms.Register thread register) behind c = refl
no_bracket locations threads (terms.Location place) behind c = refl

listed_term_again : (locations : List Located) (threads : List Names) (term : Term) (c : ℕ) (behind : List Spelled) → IsFound locations threads term
    → listed_term_at locations threads (printed_term locations threads term ++ (sign signs.Semicolon ∷ behind), c) ≡ Some (term, (behind, c))
unfolding listed_term_at
listed_term_again locations threads term c behind found =
    then_some (term_at locations threads (printed_term locations threads term ++ (sign signs.Semicolon ∷ behind), c))
    (λ (term : Term × Left). cond (is_next signs.CloseBracket term.1) (Some (term.0, term.1)) (after_sign signs.Semicolon term.1 >>= λ left. Some (term.0, left)))
    (term, (sign signs.Semicolon ∷ behind, c)) (term, (behind, c)) (term_again locations threads term c (sign signs.Semicolon ∷ behind) found) refl

-- one more term, where some may follow
term_more : (locations : List Located) (threads : List Names) (n : ℕ) (listed : List Term) (left behind : Left) (term : Term) → is_next signs.CloseBracket left ≡ false
    → listed_term_at locations threads left ≡ Some (term, behind) → terms_at locations threads (suc n) listed left ≡ terms_at locations threads n (listed ++ term ∷ []) behind
unfolding terms_at
term_more locations threads n listed left behind term more read =
    ap (λ (b : Bool). cond b (Some (listed, passed left)) (listed_term_at locations threads left >>= λ term. terms_at locations threads n (listed ++ term.0 ∷ []) term.1)) more
    ∙ ap (λ (o : Option (Term × Left)). o >>= λ term. terms_at locations threads n (listed ++ term.0 ∷ []) term.1) read

terms_end : (locations : List Located) (threads : List Names) (n : ℕ) (listed : List Term) (c : ℕ) (behind : List Spelled)
    → terms_at locations threads (suc n) listed (sign signs.CloseBracket ∷ behind, c) ≡ Some (listed, (behind, c))
unfolding terms_at
terms_end locations threads n listed c behind = refl

rest_found : (P : Term → Type 0) (term : Term) (terms : List Term) → All P (term ∷ terms) → All P terms
rest_found P term terms h k d lt = h (suc k) d (omega (arith, lt))

terms_again : (locations : List Located) (threads : List Names) (terms listed : List Term) (n c : ℕ) (behind : List Spelled) → length terms < n → All (IsFound locations threads) terms
    → terms_at locations threads n listed (printed_terms locations threads terms ++ (sign signs.CloseBracket ∷ behind), c) ≡ Some (listed ++ terms, (behind, c))
terms_again locations threads terms listed zero c behind lt found = absurd (omega (arith, lt))
terms_again locations threads [] listed (suc n) c behind lt found =
    terms_end locations threads n listed c behind ∙ ap (λ (ts : List Term). Some (ts, (behind, c))) (sym (append-nil listed))
terms_again locations threads (term ∷ terms) listed (suc n) c behind lt found =
    let others = printed_terms locations threads terms ++ (sign signs.CloseBracket ∷ behind) in
    let own = printed_term locations threads term in
    let regrouped : (((own ++ sign signs.Semicolon ∷ []) ++ printed_terms locations threads terms) ++ (sign signs.CloseBracket ∷ behind)) ≡ own ++ (sign signs.Semicolon ∷ others) =
    append_assoc (own ++ sign signs.Semicolon ∷ []) (printed_terms locations threads terms) (sign signs.CloseBracket ∷ behind) ∙ append_assoc own (sign signs.Semicolon ∷ []) others in
    ap (λ (ts : List Spelled). terms_at locations threads (suc n) listed (ts, c)) regrouped
    ∙ term_more locations threads n listed (own ++ (sign signs.Semicolon ∷ others), c) (others, c) term (no_bracket locations threads term (sign signs.Semicolon ∷ others) c)
    (listed_term_again locations threads term c others (found 0 term (omega arith)))
    ∙ terms_again locations threads terms (listed ++ term ∷ []) n c behind (omega (arith, lt)) (rest_found (IsFound locations threads) term terms found)
    ∙ ap (λ (ts : List Term). Some (ts, (behind, c))) (append_assoc listed (term ∷ []) terms)

-- each term has a token at least
some_tokens : (locations : List Located) (threads : List Names) (terms : List Term) → length terms ≤ length (printed_terms locations threads terms)
some_tokens locations threads [] = omega arith
some_tokens locations threads (term ∷ terms) =
    let rest = some_tokens locations threads terms in
    let own = length-append (printed_term locations threads term ++ sign signs.Semicolon ∷ []) (printed_terms locations threads terms) in
    let one = length-append (printed_term locations threads term) (sign signs.Semicolon ∷ []) in
    omega (arith, rest, own, one)

-- nothing is listed where another word follows
none_listed : (locations : List Located) (threads : List Names) (listed : List Term) (left : Left) → is_word words.Locations left ≡ false → listed_at locations threads listed left ≡ Some (listed, left)
unfolding listed_at
none_listed locations threads listed left other =
    ap (λ (b : Bool). cond b (after_sign signs.OpenBracket (passed left) >>= λ left. terms_at locations threads (length left.0) listed left) (Some (listed, left))) other

listed_again : (locations : List Located) (threads : List Names) (terms : List Term) (c : ℕ) (behind : List Spelled) → is_word words.Locations (behind, c) ≡ false → All (IsFound locations threads) terms
    → listed_at locations threads [] (printed_listed locations threads terms ++ behind, c) ≡ Some (terms, (behind, c))
unfolding listed_at
listed_again locations threads [] c behind other found = none_listed locations threads [] (behind, c) other
listed_again locations threads (term ∷ terms) c behind other found =
    let tokens = printed_terms locations threads (term ∷ terms) in
    let regrouped : (tokens ++ sign signs.CloseBracket ∷ []) ++ behind ≡ tokens ++ (sign signs.CloseBracket ∷ behind) = append_assoc tokens (sign signs.CloseBracket ∷ []) behind in
    let some = some_tokens locations threads (term ∷ terms) in
    let more = length-append tokens (sign signs.CloseBracket ∷ behind) in
    ap (λ (ts : List Spelled). terms_at locations threads (length ts) [] (ts, c)) regrouped
    ∙ terms_again locations threads (term ∷ terms) [] (length (tokens ++ (sign signs.CloseBracket ∷ behind))) c behind (omega (arith, some, more)) found

-- ---- the filter

none_filtered : (locations : List Located) (threads : List Names) (left : Left) → is_word words.Filter left ≡ false → filter_at locations threads left ≡ Some (None, left)
unfolding filter_at
none_filtered locations threads left other =
    ap (λ (b : Bool). cond b (condition_at locations threads (passed left) >>= λ read. Some (Some read.0, read.1)) (Some (None, left))) other

-- how many operators were counted
abbrev counted_in : ℕ → Option Formula → ℕ
counted_in c None = c
counted_in c (Some filter) = comparisons filter

filter_again : (locations : List Located) (threads : List Names) (filter : Option Formula) (c : ℕ) (behind : List Spelled)
    → is_word words.Filter (behind, c) ≡ false → is_next signs.Conjunction (behind, 0) ≡ false → is_next signs.Disjunction (behind, 0) ≡ false → IfSome filter (CanBeRead locations threads)
    → filter_at locations threads (printed_filter locations threads filter ++ behind, c) ≡ Some (filter, (behind, counted_in c filter))
unfolding filter_at
filter_again locations threads None c behind other off last h = none_filtered locations threads (behind, c) other
filter_again locations threads (Some filter) c behind other off last h =
    ap (λ (o : Option (Formula × Left)). o >>= λ read. Some (Some read.0, read.1)) (conditions_read_back locations threads filter behind c h off last)

-- ---- the quantifier

quantifier_again : (quantifier : Quantifier) (c : ℕ) (behind : List Spelled) → quantifier_at (printed_quantifier quantifier ++ behind, c) ≡ Some (quantifier, (behind, c))
unfolding quantifier_at
quantifier_again quantifiers.Exists c behind = refl
quantifier_again quantifiers.NotExists c behind = refl
quantifier_again quantifiers.Forall c behind = refl

-- what a quantifier begins with isn't
not_listed : (quantifier : Quantifier) (c : ℕ) (behind : List Spelled) → is_word words.Locations (printed_quantifier quantifier ++ behind, c) ≡ false
not_listed quantifiers.Exists c behind = refl
not_listed quantifiers.NotExists c behind = refl
not_listed quantifiers.Forall c behind = refl

not_filtered : (quantifier : Quantifier) (c : ℕ) (behind : List Spelled) → is_word words.Filter (printed_quantifier quantifier ++ behind, c) ≡ false
not_filtered quantifiers.Exists c behind = refl
not_filtered quantifiers.NotExists c behind = refl
not_filtered quantifiers.Forall c behind = refl

no_conjunction : (quantifier : Quantifier) (behind : List Spelled) → is_next signs.Conjunction (printed_quantifier quantifier ++ behind, 0) ≡ false
no_conjunction quantifiers.Exists behind = refl
no_conjunction quantifiers.NotExists behind = refl
no_conjunction quantifiers.Forall behind = refl

no_disjunction : (quantifier : Quantifier) (behind : List Spelled) → is_next signs.Disjunction (printed_quantifier quantifier ++ behind, 0) ≡ false
no_disjunction quantifiers.Exists behind = refl
no_disjunction quantifiers.NotExists behind = refl
no_disjunction quantifiers.Forall behind = refl

filter_not_listed : (locations : List Located) (threads : List Names) (filter : Option Formula) (quantifier : Quantifier) (c : ℕ) (behind : List Spelled)
    → is_word words.Locations (printed_filter locations threads filter ++ (printed_quantifier quantifier ++ behind), c) ≡ false
filter_not_listed locations threads None quantifier c behind = not_listed quantifier c behind
filter_not_listed locations threads (Some filter) quantifier c behind = refl

-- ---- all

pub questions_read_back : QuestionsReadBack
unfolding question_at
questions_read_back locations threads asked c h =
    let end : List Spelled = (kinds.End, []) ∷ [] in
    let behind = printed locations threads 1 asked.condition ++ end in
    let asking = printed_quantifier asked.quantifier ++ behind in
    let n = counted_in c asked.filter in
    then_some (listed_at locations threads [] (printed_question locations threads asked, c)) _ (asked.listed, (printed_filter locations threads asked.filter ++ asking, c)) asked
    (listed_again locations threads asked.listed c (printed_filter locations threads asked.filter ++ asking) (filter_not_listed locations threads asked.filter asked.quantifier c behind) h.listed)
    (then_some (filter_at locations threads (printed_filter locations threads asked.filter ++ asking, c)) _ (asked.filter, (asking, n)) asked
    (filter_again locations threads asked.filter c asking (not_filtered asked.quantifier c behind) (no_conjunction asked.quantifier behind) (no_disjunction asked.quantifier behind) h.filter)
    (then_some (listed_at locations threads asked.listed (asking, n)) _ (asked.listed, (asking, n)) asked (none_listed locations threads asked.listed (asking, n) (not_listed asked.quantifier n behind))
    (then_some (quantifier_at (asking, n)) _ (asked.quantifier, (behind, n)) asked (quantifier_again asked.quantifier n behind)
    (then_some (condition_at locations threads (behind, n)) _ (asked.condition, (end, comparisons asked.condition)) asked (conditions_read_back locations threads asked.condition end n h.condition refl refl)
    refl))))
