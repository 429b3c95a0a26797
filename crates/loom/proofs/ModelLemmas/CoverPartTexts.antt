-- The texts of a covering search's parts.
use Rattle.std.proofs.Common.{◌≡◌, ◌≤◌, ℕ, Bool, List, false, codes, Some, refl, ap, sym, ◌∙◌, subst, inl, inr, arith}
use Rattle.serde_json.specs.Data.{Data, depth}
use Rattle.serde_json.specs.Written.{has_float}
use Rattle.loom_engine.specs.Checkpoint.Accepted.{IsMemory as IsMemoryOfPath, OfText}
use Rattle.loom_engine.specs.Parts.Texts.Accepted.{IsMemory, IsNoText, IsRefusedList, IsRefusedPart}
use Rattle.loom_engine.specs.Trees.Meeting.{Settings}
use Rattle.loom_engine.specs.declared.rt.parts.error.PartsError.{PartsError}
use Rattle.loom_engine.specs.declared.rt.parts.error.PartsError.TheVariants.{NotJson, WrongFormat, WrongVersion, WrongShape, Path, WrongFloor, BadOption, Memory}
use Rattle.loom_engine.specs.Parts.Texts.Grammar.{part_shape, part_data, list_shape, parts_data}
use Rattle.loom_engine.specs.declared.rt.parts.Part.{Part}
use Rattle.loom_engine.specs.declared.rt.parts.Parts.{Parts}
use Rattle.loom_engine.proofs.Parts.Texts.Plain.{part_plain, part_depth, parts_plain, parts_depth}
use Rattle.loom_engine.specs.declared.rt.path.checkpoint.error.PathError.{PathError}
use Rattle.loom_engine.specs.declared.rt.path.checkpoint.error.PathError.TheVariants as path
use Rattle.loom.specs.declared.model.error.CheckError.TheVariants as check
use Rattle.loom.specs.Model.Refusals.{of_parts, of_path}
use Rattle.loom.specs.Model.CoverText.{without_key}
use Rattle.loom.specs.Model.CoverPartText.{IsNoMet, PartsApartLaw, met_of, with_met}

module _ (q : Part) (met : ℕ) where
  pub part_says : met_of (with_met met (part_data q)) ≡ Some met
  unfolding part_shape
  part_says = refl

  pub part_besides : without_key (codes "met") (with_met met (part_data q)) ≡ part_data q
  unfolding part_shape
  part_besides = refl

  pub met_part_plain : has_float (with_met met (part_data q)) ≡ false
  unfolding part_shape
  met_part_plain = part_plain q

  pub met_part_depth : depth (with_met met (part_data q)) ≤ 127
  unfolding part_shape
  met_part_depth = let flat : depth (part_data q) ≤ 127 = part_depth q in omega (arith, flat)

module _ (p : Parts) (met : ℕ) where
  pub list_says : met_of (with_met met (parts_data p)) ≡ Some met
  unfolding list_shape
  list_says = refl

  pub list_besides : without_key (codes "met") (with_met met (parts_data p)) ≡ parts_data p
  unfolding list_shape
  list_besides = refl

  pub met_list_plain : has_float (with_met met (parts_data p)) ≡ false
  unfolding list_shape
  met_list_plain = parts_plain p

  pub met_list_depth : depth (with_met met (parts_data p)) ≤ 127
  unfolding list_shape
  met_list_depth = let flat : depth (parts_data p) ≤ 127 = parts_depth p in omega (arith, flat)

-- ---- texts

-- what holds of a text's value
pub value_is : (P : Data → Type 0) (text : List ℕ) (v : Data) → OfText text (λ d. d ≡ v) → OfText text P → P v
value_is P text v one other = subst P (some_same other.1.0 v (sym other.1.1 ∙ one.1.1 ∙ ap Some one.1.2)) other.1.2
  where
    some_same : (a b : Data) → Some a ≡ Some b → a ≡ b
    some_same a b e = cc

-- a text that is refused as none has no value
pub no_value : (P : Data → Type 0) (text : List ℕ) (why : PartsError) → IsNoText text why → (IsMemory why → ⊥) → OfText text P → ⊥
no_value P text NotJson none never (utf8, (d, is, p)) = cc (none utf8, is)
no_value P text WrongFormat none never of = none
no_value P text (WrongVersion version) none never of = none
no_value P text WrongShape none never of = none
no_value P text (Path e) none never of = none
no_value P text (WrongFloor floor) none never of = none
no_value P text BadOption none never of = none
no_value P text (Memory e) none never of = never tt

-- no value is refused as a text that is no JSON
pub part_is_json : (s : Settings) (explores : Bool) (d : Data) → IsNoMet (IsRefusedPart s explores) d NotJson → ⊥
part_is_json s explores d (inl (e, none)) = cc e
part_is_json s explores d (inr (met, says, why)) = why

pub list_is_json : (s : Settings) (explores : Bool) (d : Data) → IsNoMet (IsRefusedList s explores) d NotJson → ⊥
list_is_json s explores d (inl (e, none)) = cc e
list_is_json s explores d (inr (met, says, why)) = why

pub memory_of : (why : PartsError) → IsMemory why → of_parts why ≡ check.Memory
memory_of NotJson is = absurd is
memory_of WrongFormat is = absurd is
memory_of (WrongVersion version) is = absurd is
memory_of WrongShape is = absurd is
memory_of (Path e) is = memory_of_path e is
  where
    memory_of_path : (e : PathError) → IsMemoryOfPath e → of_path e ≡ check.Memory
    memory_of_path path.NotJson is = absurd is
    memory_of_path path.WrongShape is = absurd is
    memory_of_path (path.WrongVersion version) is = absurd is
    memory_of_path (path.OtherSettings setting) is = absurd is
    memory_of_path (path.TooManyNodes count) is = absurd is
    memory_of_path path.BadNode is = absurd is
    memory_of_path (path.Memory e) is = refl
memory_of (WrongFloor floor) is = absurd is
memory_of BadOption is = absurd is
memory_of (Memory e) is = refl

-- what holds of a search's settings
pub at_search : (P : Settings → Bool → Type 0) (s t : Settings) (x y : Bool) → s ≡ t → x ≡ y → P s x → P t y
at_search P s t x y e f h = subst (λ (z : Settings). P z y) e (subst (λ (z : Bool). P s z) f h)

pub parts_apart_law : PartsApartLaw
unfolding part_shape list_shape
parts_apart_law s explores met =
    (λ q. (λ part e. cc e, inl (refl, refl)), λ p. (λ parts runs search trunk e. cc e, inl (refl, refl)))
