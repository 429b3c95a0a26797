-- What follows the threads of a test, and how it is read.
use Rattle.std.specs.Prelude.{ℕ, zero, suc, ◌&&◌, List, [], ◌∷◌, ◌++◌, length, All, Bool, true, false, Option, Some, None, IfSome, if◌then◌else◌}
use Rattle.std.specs.Option.{option_map}
use Rattle.loom_text.specs.contracts.read.token.TokenKindPartialEq.TheImpl as same
use Rattle.loom_text.specs.declared.read.heads.Question.{Question}
use Rattle.loom_text.specs.declared.read.symbol.Symbol.TheVariants as signs
use Rattle.loom_text.specs.declared.read.token.TokenKind.{TokenKind}
use Rattle.loom_text.specs.declared.read.token.TokenKind.TheVariants as kinds
use Rattle.loom_text.specs.declared.read.word.Word.{Word}
use Rattle.loom_text.specs.declared.read.word.Word.TheVariants as words
use Rattle.loom_text.specs.declared.test.Location.{Location}
use Rattle.loom_text.specs.declared.test.Quantifier.{Quantifier}
use Rattle.loom_text.specs.declared.test.Quantifier.TheVariants as quantifiers
use Rattle.loom_text.specs.declared.test.Term.{Term}
use Rattle.loom_text.specs.declared.test.Thread.{Thread}
use Rattle.loom_text.specs.Known.{Located, Names}
use Rattle.loom_text.specs.Conditions.{Formula, condition_at, formula, term_at}
use Rattle.loom_text.specs.Named.{IsConditionOf, IsTermOf}
use Rattle.loom_text.specs.Printing.{FitsReader}
use Rattle.loom_text.specs.Tokens.{Left, ◌>>=◌, after_sign, is_next, next, passed}

-- what it asks of the final states is of these locations and threads, and isn't deeper or longer than what is read
pub record IsQuestionOf (locations : List Location) (threads : List Thread) (question : Question) : Type 0 where
  pub listed : All (IsTermOf locations threads) question.listed.items
  pub filter : IfSome question.filter (IsConditionOf locations threads)
  pub condition : IsConditionOf locations threads question.condition
  pub filter_fits : IfSome question.filter (λ filter. FitsReader (formula filter))
  pub condition_fits : FitsReader (formula question.condition)

-- it, wherever its parts lie
pub record Asked : Type 0 where
  pub listed : List Term
  pub filter : Option Formula
  pub quantifier : Quantifier
  pub condition : Formula

abbrev pub asked : Question → Asked
asked question = record {
  listed = question.listed.items;
  filter = option_map formula question.filter;
  quantifier = question.quantifier;
  condition = formula question.condition;
}

-- ---- how it is read

abbrev pub is_word : Word → Left → Bool
is_word word left = (same.ghosts).eq (next left).0 (kinds.Word word)

-- a term, with a semicolon behind it unless it is the last
unfoldable pub listed_term_at : List Located → List Names → Left → Option (Term × Left)
listed_term_at locations threads left =
    term_at locations threads left >>= λ term.
    if is_next signs.CloseBracket term.1 then Some (term.0, term.1)
    else (after_sign signs.Semicolon term.1 >>= λ left. Some (term.0, left))

-- terms up to a bracket, so many at most, behind those that are listed so far
unfoldable pub terms_at : List Located → List Names → ℕ → List Term → Left → Option (List Term × Left)
terms_at locations threads zero terms left = None
terms_at locations threads (suc n) terms left =
    if is_next signs.CloseBracket left then Some (terms, passed left)
    else (listed_term_at locations threads left >>= λ term. terms_at locations threads n (terms ++ term.0 ∷ []) term.1)

-- `locations [..]`, if it follows
unfoldable pub listed_at : List Located → List Names → List Term → Left → Option (List Term × Left)
listed_at locations threads terms left =
    if is_word words.Locations left
    then (after_sign signs.OpenBracket (passed left) >>= λ left. terms_at locations threads (length left.0) terms left)
    else Some (terms, left)

-- `filter` and a condition, if it follows
unfoldable pub filter_at : List Located → List Names → Left → Option (Option Formula × Left)
filter_at locations threads left =
    if is_word words.Filter left
    then (condition_at locations threads (passed left) >>= λ read. Some (Some read.0, read.1))
    else Some (None, left)

abbrev pub quantifier_from : Bool → TokenKind → Left → Option (Quantifier × Left)
quantifier_from true (kinds.Word words.Exists) left = Some (quantifiers.NotExists, left)
quantifier_from false (kinds.Word words.Exists) left = Some (quantifiers.Exists, left)
quantifier_from negated (kinds.Word words.Forall) left = Some (quantifiers.Forall, left)
quantifier_from negated _ left = None

unfoldable pub quantifier_at : Left → Option (Quantifier × Left)
quantifier_at left =
    let negated = is_next signs.Tilde left && is_word words.Exists (passed left) in
    let word = if negated then passed left else left in
    quantifier_from negated (next word).0 (passed word)

unfoldable pub question_at : List Located → List Names → Left → Option Asked
question_at locations threads left =
    listed_at locations threads [] left >>= λ first.
    filter_at locations threads first.1 >>= λ filter.
    listed_at locations threads first.0 filter.1 >>= λ terms.
    quantifier_at terms.1 >>= λ quantifier.
    condition_at locations threads quantifier.1 >>= λ condition.
    if (same.ghosts).eq (next condition.1).0 kinds.End
    then Some (record { listed = terms.0; filter = filter.0; quantifier = quantifier.0; condition = condition.0 })
    else None
