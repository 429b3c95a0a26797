-- A text reads as a number, or doesn't.
use Rattle.std.proofs.lemmas.Bool.{lt-ltb, ltb-true}
use Rattle.std.proofs.Common.{◌≡◌, ◌<◌, ◌^◌, ℕ, Bool, true, false, List, [], ◌∷◌, length, refl, ap, ap₂, sym, ◌∙◌}
use Rattle.std.specs.Prelude.{◌&&◌, cond, nat_lt, Ok, Err}
use Rattle.std.specs.Str.Parse.{AllDigits, IsNumeral, digits_value, without_leading_plus}
use Rattle.std.specs.Char.{is_digit}
use Rattle.loom.specs.declared.model.error.CheckError.TheVariants.{NotANumber}
use Rattle.loom.specs.declared.model.error.Variable.{Variable}
use Rattle.loom.specs.Model.Environment.{are_digits, is_number, number_in}

both : (a b : Bool) → (a && b) ≡ true → (a ≡ true) × (b ≡ true)
both true true e = (refl, refl)
both true false e = absurd (cc e)
both false b e = absurd (cc e)

are_all : (ds : List ℕ) → AllDigits 10 ds → are_digits ds ≡ true
are_all [] h = refl
are_all (c ∷ cs) h = ap₂ (λ a b. a && b) (lt-ltb _ 10 h.0) (are_all cs h.1)

all_are : (ds : List ℕ) → are_digits ds ≡ true → AllDigits 10 ds
all_are [] e = tt
all_are (c ∷ cs) e =
    let z = both (is_digit c 10) (are_digits cs) e in
    (ltb-true _ 10 z.0, all_are cs z.1)

abbrev Reads : List ℕ → Type 0
Reads ds = IsNumeral 10 ds × (digits_value 10 ds < 2 ^ 64)

is_read : (ds : List ℕ) → Reads ds → is_number ds ≡ true
is_read ds h = ap₂ (λ a b. a && b) (ap₂ (λ a b. a && b) (lt-ltb 0 (length ds) h.0.0) (are_all ds h.0.1)) (lt-ltb (digits_value 10 ds) (2 ^ 64) h.1)

reads : (ds : List ℕ) → is_number ds ≡ true → Reads ds
reads ds e =
    let z = both (nat_lt 0 (length ds) && are_digits ds) (nat_lt (digits_value 10 ds) (2 ^ 64)) e in
    let d = both (nat_lt 0 (length ds)) (are_digits ds) z.0 in
    ((ltb-true 0 (length ds) d.0, all_are ds d.1), ltb-true (digits_value 10 ds) (2 ^ 64) z.1)

pub number_reads : (variable : Variable) (text : List ℕ) (n : ℕ) → Reads (without_leading_plus text) × (n ≡ digits_value 10 (without_leading_plus text)) → Ok n ≡ number_in variable text
number_reads variable text n h = ap Ok h.1 ∙ sym (ap (λ b. cond b (Ok (digits_value 10 (without_leading_plus text))) (Err (NotANumber variable))) (is_read (without_leading_plus text) h.0))

pub number_refused : (variable : Variable) (text : List ℕ) → (Reads (without_leading_plus text) → ⊥) → Err (NotANumber variable) ≡ number_in variable text
number_refused variable text refused = go (is_number (without_leading_plus text)) refl
  where
    go : (b : Bool) → is_number (without_leading_plus text) ≡ b → Err (NotANumber variable) ≡ number_in variable text
    go true e = absurd (refused (reads (without_leading_plus text) e))
    go false e = sym (ap (λ b. cond b (Ok (digits_value 10 (without_leading_plus text))) (Err (NotANumber variable))) e)
