-- What is read of what follows the threads of a test can be written so that it is read again.
use Rattle.std.proofs.Common.{◌≡◌, ℕ, zero, suc, List, [], ◌∷◌, ◌++◌, length, All, Option, Some, None, IfSome, subst, inl, inr, arith}
use Rattle.std.proofs.lemmas.Bool.{cases_Bool}
use Rattle.std.proofs.lemmas.List.Elements.{All-push}
use Rattle.std.proofs.lemmas.Option.{cond_some, none-some, same_Some}
use Rattle.loom_text.specs.declared.read.symbol.Symbol.TheVariants as signs
use Rattle.loom_text.specs.declared.read.word.Word.TheVariants as words
use Rattle.loom_text.specs.declared.test.Term.{Term}
use Rattle.loom_text.specs.Conditions.{Formula, condition_at, term_at}
use Rattle.loom_text.specs.Known.{Located, Names}
use Rattle.loom_text.specs.Printing.{CanBeRead, IsFound}
use Rattle.loom_text.specs.Question.{Asked, filter_at, is_word, listed_at, listed_term_at, question_at, quantifier_at, terms_at}
use Rattle.loom_text.specs.Readable.{QuestionCanBeRead}
use Rattle.loom_text.specs.Tokens.{Left, after_sign, is_next, passed}
use Rattle.loom_text.proofs.ConditionsFit.{bind_some, condition_can_be_read, term_fits}

module _ (locations : List Located) (threads : List Names) where
  listed_term_found : (left : Left) (x : Term × Left) → listed_term_at locations threads left ≡ Some x → IsFound locations threads x.0
  unfolding listed_term_at
  listed_term_found left x h =
      bind_some (term_at locations threads left) _ x h (λ term p q.
      let found = (term_fits locations threads left term p).1 in
      elim (cases_Bool (is_next signs.CloseBracket term.1)) [
        | inl last ↦ subst (λ (y : Term × Left). IsFound locations threads y.0) (same_Some (term.0, term.1) x (rw last at q)) found
        | inr other ↦ bind_some (after_sign signs.Semicolon term.1) _ x (rw other at q) (λ l p' q'.
            subst (λ (y : Term × Left). IsFound locations threads y.0) (same_Some (term.0, l) x q') found)
      ])

  terms_found : (n : ℕ) (terms : List Term) (left : Left) (x : List Term × Left) → All (IsFound locations threads) terms → terms_at locations threads n terms left ≡ Some x → All (IsFound locations threads) x.0
  unfolding terms_at
  terms_found zero terms left x all h = absurd (none-some x h)
  terms_found (suc n) terms left x all h = elim (cases_Bool (is_next signs.CloseBracket left)) [
    | inl last ↦ subst (λ (y : List Term × Left). All (IsFound locations threads) y.0) (same_Some (terms, passed left) x (rw last at h)) all
    | inr other ↦ bind_some (listed_term_at locations threads left) _ x (rw other at h) (λ term p q.
        terms_found n (terms ++ term.0 ∷ []) term.1 x (All-push (IsFound locations threads) terms term.0 all (listed_term_found left term p)) q)
  ]

  listed_found : (terms : List Term) (left : Left) (x : List Term × Left) → All (IsFound locations threads) terms → listed_at locations threads terms left ≡ Some x → All (IsFound locations threads) x.0
  unfolding listed_at
  listed_found terms left x all h = elim (cases_Bool (is_word words.Locations left)) [
    | inl there ↦ bind_some (after_sign signs.OpenBracket (passed left)) _ x (rw there at h) (λ l p q. terms_found (length l.0) terms l x all q)
    | inr other ↦ subst (λ (y : List Term × Left). All (IsFound locations threads) y.0) (same_Some (terms, left) x (rw other at h)) all
  ]

  filter_found : (left : Left) (x : Option Formula × Left) → filter_at locations threads left ≡ Some x → IfSome x.0 (CanBeRead locations threads)
  unfolding filter_at
  filter_found left x h = elim (cases_Bool (is_word words.Filter left)) [
    | inl there ↦ bind_some (condition_at locations threads (passed left)) _ x (rw there at h) (λ read p q.
        subst (λ (y : Option Formula × Left). IfSome y.0 (CanBeRead locations threads)) (same_Some (Some read.0, read.1) x q) (condition_can_be_read locations threads (passed left) read p))
    | inr other ↦ subst (λ (y : Option Formula × Left). IfSome y.0 (CanBeRead locations threads)) (same_Some (None, left) x (rw other at h)) tt
  ]

  pub question_can_be_read : (left : Left) (x : Asked) → question_at locations threads left ≡ Some x → QuestionCanBeRead locations threads x
  unfolding question_at
  question_can_be_read left x h =
      bind_some (listed_at locations threads [] left) _ x h (λ first p q.
      bind_some (filter_at locations threads first.1) _ x q (λ filter p' q'.
      bind_some (listed_at locations threads first.0 filter.1) _ x q' (λ terms p'' q''.
      bind_some (quantifier_at terms.1) _ x q'' (λ quantifier p3 q3.
      bind_some (condition_at locations threads quantifier.1) _ x q3 (λ condition p4 q4.
      let none : All (IsFound locations threads) [] = (λ k d lt. absurd (omega (arith, lt))) in
      let made : Asked = record { listed = terms.0; filter = filter.0; quantifier = quantifier.0; condition = condition.0 } in
      subst (λ (y : Asked). QuestionCanBeRead locations threads y) (cond_some _ made x q4).1 (record {
        listed = listed_found first.0 filter.1 terms (listed_found [] left first none p) p'';
        filter = filter_found first.1 filter p';
        condition = condition_can_be_read locations threads quantifier.1 condition p4;
      }))))))
