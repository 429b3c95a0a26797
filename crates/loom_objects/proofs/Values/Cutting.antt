-- Where a text is cut, and what one shows.
use Rattle.std.proofs.Common.{◌≡◌, ℕ, suc, zero, ◌+◌, ◌-◌, ◌<◌, ◌≤◌, inl, inr, true, false, nat_lt, nat_le, List, [], ◌∷◌, length, take, drop, get_or, refl, sym, ap, ◌∙◌, subst, arith, le_refl, length-drop, take_all, drop-drop, get_or-drop}
use Rattle.std.proofs.lemmas.Bool.{cases_Bool, cond-true, cond-false, or_cases, or_left, or_right, and_from, and_left, and_right, ltb-true, leb-true, lt-ltb, le-leb, lt-leb, both_ways, false_from_ne_true, cases_lt}
use Rattle.std.proofs.lemmas.Str.{IsCharBoundary-start, IsCharBoundary-end, IsUtf8-from_is_utf8, is_utf8-from_IsUtf8}
use Rattle.std.specs.Str.{IsCharBoundary, IsUtf8}
use Rattle.loom_objects.specs.declared.text.Text.{Text}
use Rattle.loom_objects.specs.Text.{begins_char, cut_up_to, from_char, first_part, last_part, shown}

-- a place in front of a byte with which a character begins is one where a text may be cut
begins_boundary : (bytes : List ℕ) (i : ℕ) → i ≤ length bytes → begins_char (get_or bytes i 0) ≡ true → IsCharBoundary bytes i
begins_boundary bytes i h b =
    let byte = get_or bytes i 0 in (
      h,
      λ l high. elim (or_cases (nat_lt byte 128) (nat_le 192 byte) b) [
        | inl e ↦ omega (arith, high, ltb-true byte 128 e)
        | inr e ↦ leb-true 192 byte e
      ],
    )

boundary_begins : (bytes : List ℕ) (i : ℕ) → i < length bytes → IsCharBoundary bytes i → begins_char (get_or bytes i 0) ≡ true
boundary_begins bytes i h b =
    elim (cases_lt (get_or bytes i 0) 128) [ inl e ↦ or_left _ _ (lt-ltb _ _ e) | inr e ↦ or_right _ _ (le-leb _ _ (b.1 h e)) ]

-- the last place up to this one where a longer text may be cut
cut_is : (bytes : List ℕ) (limit place : ℕ) → limit < length bytes → place ≤ limit → IsCharBoundary bytes place
    → ((i : ℕ) → place < i → i ≤ limit → ¬ (IsCharBoundary bytes i)) → cut_up_to bytes limit ≡ place
cut_is bytes zero place within h b none = omega (arith, h)
cut_is bytes (suc limit) place within h b none =
    let whole : suc limit ≤ length bytes = omega (arith, within) in
    elim (cases_Bool (begins_char (get_or bytes (suc limit) 0))) [
      | inl e ↦ cond-true _ _ _ e ∙ elim (cases_lt place (suc limit)) [
        | inl l ↦ absurd (none (suc limit) l (le_refl _) (begins_boundary bytes (suc limit) whole e))
        | inr l ↦ omega (arith, h, l)
      ]
      | inr e ↦ cond-false _ _ _ e ∙ elim (cases_lt place (suc limit)) [
        | inl l ↦ cut_is bytes limit place (omega (arith, within)) (omega (arith, l)) b (λ i low high. none i low (omega (arith, high)))
        | inr l ↦
            let same : place ≡ suc limit = omega (arith, h, l) in
            absurd (both_ways _ e (boundary_begins bytes (suc limit) within (subst (IsCharBoundary bytes) same b)))
      ]
    ]

pub first_is : (bytes : List ℕ) (place : ℕ) → place ≤ 24 → IsCharBoundary bytes place → ((i : ℕ) → place < i → i ≤ 24 → ¬ (IsCharBoundary bytes i))
    → take place bytes ≡ first_part bytes
first_is bytes place h b none =
    elim (cases_lt 24 (length bytes)) [
      | inl long ↦ ap (λ n. take n bytes) (sym (cut_is bytes 24 place long h b none)) ∙ sym (cond-false _ _ _ (lt-leb (length bytes) 24 long))
      | inr short ↦
          let whole : length bytes ≤ place = elim (cases_lt place (length bytes)) [
            | inl l ↦ absurd (none (length bytes) l short (IsCharBoundary-end bytes))
            | inr l ↦ l
          ] in
          take_all place bytes whole ∙ sym (cond-true _ _ _ (le-leb (length bytes) 24 short))
    ]

-- what is left behind so many bytes with which none begins
from_is : (bytes : List ℕ) (count : ℕ) → count ≤ length bytes → ((i : ℕ) → i < count → begins_char (get_or bytes i 0) ≡ false)
    → (count < length bytes → begins_char (get_or bytes count 0) ≡ true) → from_char bytes ≡ drop count bytes
from_is [] zero h none one = refl
from_is [] (suc count) h none one = absurd (omega (arith, h))
from_is (byte ∷ bytes) zero h none one = cond-true _ _ _ (one (omega arith))
from_is (byte ∷ bytes) (suc count) h none one =
    cond-false _ _ _ (none 0 (omega arith))
    ∙ from_is bytes count (omega (arith, h)) (λ i l. none (suc i) (omega (arith, l))) (λ l. one (omega (arith, l)))

pub last_is : (bytes : List ℕ) (place : ℕ) → IsUtf8 bytes → length bytes - 24 ≤ place → IsCharBoundary bytes place
    → ((i : ℕ) → length bytes - 24 ≤ i → i < place → ¬ (IsCharBoundary bytes i)) → drop place bytes ≡ last_part bytes
last_is bytes place text h b none =
    elim (cases_lt 24 (length bytes)) [
      | inl long ↦
          let start = length bytes - 24 in
          let rest = drop start bytes in
          let count = place - start in
          let behind : start + count ≡ place = omega (arith, h) in
          let size : length rest ≡ length bytes - start = length-drop start bytes in
          let place_of : (i : ℕ) → get_or rest i 0 ≡ get_or bytes (start + i) 0 = λ i. get_or-drop start bytes i 0 in
          let left : from_char rest ≡ drop count rest = from_is rest count (omega (arith, size, behind, b.0)) (λ i l. false_from_ne_true _ (λ t.
          none (start + i) (omega arith) (omega (arith, l, behind))
          (begins_boundary bytes (start + i) (omega (arith, l, behind, b.0)) (ap begins_char (sym (place_of i)) ∙ t))))
          (λ l. ap begins_char (place_of count ∙ ap (λ n. get_or bytes n 0) behind)
          ∙ boundary_begins bytes place (omega (arith, l, size, behind)) b) in
          sym (cond-false _ _ _ (lt-leb (length bytes) 24 long) ∙ left ∙ drop-drop count start bytes ∙ ap (λ n. drop n bytes) behind)
      | inr short ↦
          let first : place ≡ 0 = elim (cases_lt 0 place) [
            | inl l ↦ absurd (none 0 (omega (arith, short)) l (IsCharBoundary-start bytes text))
            | inr l ↦ omega (arith, l)
          ] in
          ap (λ n. drop n bytes) first ∙ sym (cond-true _ _ _ (le-leb (length bytes) 24 short))
    ]

pub shown_whole : (t : Text) → t.len ≤ 24 → IsUtf8 (take t.len t.bytes) → shown t ≡ take t.len t.bytes
shown_whole t h text = cond-true _ _ _ (and_from _ _ (le-leb t.len 24 h) (is_utf8-from_IsUtf8 _ text))

pub shown_broken : (t : Text) → (IsUtf8 (take t.len t.bytes) → ⊥) → shown t ≡ []
shown_broken t broken = cond-false _ _ _ (and_right _ _ (false_from_ne_true _ (λ e. broken (IsUtf8-from_is_utf8 _ e))))

pub shown_long : (t : Text) → 24 < t.len → shown t ≡ []
shown_long t long = cond-false _ _ _ (and_left _ _ (lt-leb t.len 24 long))
