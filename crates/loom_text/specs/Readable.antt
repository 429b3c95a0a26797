-- Which tokens are written for what follows the threads of a test, and that reading them gives it again.
use Rattle.std.specs.Prelude.{ℕ, ◌≡◌, List, [], ◌∷◌, ◌++◌, All, Option, Some, None, IfSome, codes}
use Rattle.std.specs.List.{flat_map}
use Rattle.std.specs.Option.{option_map}
use Rattle.loom_text.specs.declared.read.symbol.Symbol.TheVariants as signs
use Rattle.loom_text.specs.declared.read.token.TokenKind.TheVariants as kinds
use Rattle.loom_text.specs.declared.read.word.Word.{Word}
use Rattle.loom_text.specs.declared.read.word.Word.TheVariants as words
use Rattle.loom_text.specs.declared.test.Quantifier.{Quantifier}
use Rattle.loom_text.specs.declared.test.Quantifier.TheVariants as quantifiers
use Rattle.loom_text.specs.declared.test.Term.{Term}
use Rattle.loom_text.specs.declared.test.Test.{Test}
use Rattle.loom_text.specs.Known.{Located, Names}
use Rattle.loom_text.specs.Conditions.{Formula, formula}
use Rattle.loom_text.specs.Printing.{CanBeRead, IsFound, places_in, printed, printed_term, sign, threads_in}
use Rattle.loom_text.specs.Question.{Asked, question_at}
use Rattle.loom_text.specs.Tokens.{Spelled}

abbrev pub word : Word → List ℕ → Spelled
word w spelling = (kinds.Word w, spelling)

-- each term with a semicolon behind it
abbrev pub printed_terms : List Located → List Names → List Term → List Spelled
printed_terms locations threads = flat_map (λ term. printed_term locations threads term ++ sign signs.Semicolon ∷ [])

abbrev pub printed_listed : List Located → List Names → List Term → List Spelled
printed_listed locations threads [] = []
printed_listed locations threads (term ∷ terms) =
    word words.Locations (codes "locations") ∷ sign signs.OpenBracket ∷ (printed_terms locations threads (term ∷ terms) ++ sign signs.CloseBracket ∷ [])

abbrev pub printed_filter : List Located → List Names → Option Formula → List Spelled
printed_filter locations threads None = []
printed_filter locations threads (Some filter) = word words.Filter (codes "filter") ∷ printed locations threads 1 filter

abbrev pub printed_quantifier : Quantifier → List Spelled
printed_quantifier quantifiers.Exists = word words.Exists (codes "exists") ∷ []
printed_quantifier quantifiers.NotExists = sign signs.Tilde ∷ word words.Exists (codes "exists") ∷ []
printed_quantifier quantifiers.Forall = word words.Forall (codes "forall") ∷ []

abbrev pub printed_question : List Located → List Names → Asked → List Spelled
printed_question locations threads asked =
    printed_listed locations threads asked.listed ++ (printed_filter locations threads asked.filter
    ++ (printed_quantifier asked.quantifier ++ (printed locations threads 1 asked.condition ++ (kinds.End, []) ∷ [])))

-- each name leads to what it names, and no condition is deeper or longer than what is read
pub record QuestionCanBeRead (locations : List Located) (threads : List Names) (asked : Asked) : Type 0 where
  pub listed : All (IsFound locations threads) asked.listed
  pub filter : IfSome asked.filter (CanBeRead locations threads)
  pub condition : CanBeRead locations threads asked.condition

abbrev pub asked_of : Test → Asked
asked_of test = record {
  listed = test.listed.items;
  filter = option_map formula test.filter;
  quantifier = test.quantifier;
  condition = formula test.condition;
}

-- what is written of what follows its threads is read
abbrev pub IsReadable : Test → Type 0
IsReadable test = QuestionCanBeRead (places_in test) (threads_in test) (asked_of test)

-- What is written of it is read as the same.
abbrev pub QuestionsReadBack : Type 0
QuestionsReadBack = (locations : List Located) (threads : List Names) (asked : Asked) (count : ℕ) → QuestionCanBeRead locations threads asked
    → question_at locations threads (printed_question locations threads asked, count) ≡ Some asked
