-- What a text holds, and why one is refused.
use Rattle.std.proofs.Common.{◌≡◌, ℕ, List, sym, subst}
use Rattle.serde_json.specs.Data.{Data}
use Rattle.loom_engine.specs.Checkpoint.Accepted.{OfText}
use Rattle.loom_engine.specs.Parts.Texts.Accepted.{IsNoText, IsRefusedText}
use Rattle.loom_engine.specs.declared.rt.parts.error.PartsError.{PartsError}
use Rattle.loom_engine.specs.declared.rt.parts.error.PartsError.TheVariants.{NotJson, WrongFormat, WrongVersion, WrongShape, Path, WrongFloor, BadOption, Memory}

pub held : (P : Data → Type 0) (text : List ℕ) (v : Data) → OfText text (λ d. d ≡ v) → P v → OfText text P
held P text v h p = (h.0, (h.1.0, h.1.1, subst P (sym h.1.2) p))

pub refused_text : (P : Data → PartsError → Type 0) → ((d : Data) → P d NotJson → ⊥) → (text : List ℕ) (v : Data) → OfText text (λ d. d ≡ v) → (e : PartsError) → P v e → IsRefusedText P text e
refused_text P never text v h NotJson why = absurd (never v why)
refused_text P never text v h WrongFormat why = held (λ d. P d WrongFormat) text v h why
refused_text P never text v h (WrongVersion version) why = held (λ d. P d (WrongVersion version)) text v h why
refused_text P never text v h WrongShape why = held (λ d. P d WrongShape) text v h why
refused_text P never text v h (Path e) why = held (λ d. P d (Path e)) text v h why
refused_text P never text v h (WrongFloor floor) why = held (λ d. P d (WrongFloor floor)) text v h why
refused_text P never text v h BadOption why = held (λ d. P d BadOption) text v h why
refused_text P never text v h (Memory e) why = tt

pub no_text : (P : Data → PartsError → Type 0) (text : List ℕ) (e : PartsError) → IsNoText text e → IsRefusedText P text e
no_text P text NotJson why = why
no_text P text WrongFormat why = absurd why
no_text P text (WrongVersion version) why = absurd why
no_text P text WrongShape why = absurd why
no_text P text (Path e) why = absurd why
no_text P text (WrongFloor floor) why = absurd why
no_text P text BadOption why = absurd why
no_text P text (Memory e) why = tt
