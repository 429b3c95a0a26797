-- The texts of a check's parts.
use Rattle.std.proofs.Common.{◌≡◌, ℕ, List, Some, sym, ◌∙◌, subst}
use Rattle.serde_json.specs.Data.{Data}
use Rattle.loom_engine.specs.Checkpoint.Accepted.{OfText}
use Rattle.loom_engine.specs.Parts.Texts.Accepted.{IsMemory, IsRefusedText}
use Rattle.loom_engine.specs.declared.rt.parts.error.PartsError.{PartsError}
use Rattle.loom_engine.specs.declared.rt.parts.error.PartsError.TheVariants.{NotJson, WrongFormat, WrongVersion, WrongShape, Path, WrongFloor, BadOption, Memory}

-- a text has one value
pub one_value : (P Q : Data → Type 0) (text : List ℕ) → ((d : Data) → P d → Q d → ⊥) → OfText text P → OfText text Q → ⊥
one_value P Q text never one other = never other.1.0 (subst P (some_same one.1.0 other.1.0 (sym one.1.1 ∙ other.1.1)) one.1.2) other.1.2
  where
    some_same : (a b : Data) → Some a ≡ Some b → a ≡ b
    some_same a b e = cc

-- a text that is refused isn't of a value that is none of those refused
pub refused_none : (P : Data → PartsError → Type 0) (Q : Data → Type 0) (text : List ℕ) → ((d : Data) (e : PartsError) → P d e → (IsMemory e → ⊥) → Q d → ⊥) → (why : PartsError) → IsRefusedText P text why → (IsMemory why → ⊥) → OfText text Q → ⊥
refused_none P Q text never NotJson why other (utf8, (d, is, q)) = cc (why utf8, is)
refused_none P Q text never WrongFormat why other of = one_value (λ d. P d WrongFormat) Q text (λ d p q. never d WrongFormat p other q) why of
refused_none P Q text never (WrongVersion version) why other of = one_value (λ d. P d (WrongVersion version)) Q text (λ d p q. never d (WrongVersion version) p other q) why of
refused_none P Q text never WrongShape why other of = one_value (λ d. P d WrongShape) Q text (λ d p q. never d WrongShape p other q) why of
refused_none P Q text never (Path e) why other of = one_value (λ d. P d (Path e)) Q text (λ d p q. never d (Path e) p other q) why of
refused_none P Q text never (WrongFloor floor) why other of = one_value (λ d. P d (WrongFloor floor)) Q text (λ d p q. never d (WrongFloor floor) p other q) why of
refused_none P Q text never BadOption why other of = one_value (λ d. P d BadOption) Q text (λ d p q. never d BadOption p other q) why of
refused_none P Q text never (Memory e) why other of = other tt
