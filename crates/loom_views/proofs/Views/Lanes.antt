-- Words by their lanes.
use Rattle.std.proofs.Common.{zero, suc, ◌≡◌, ℕ, ◌+◌, ◌*◌, ◌/◌, ◌%◌, ◌^◌, ◌<◌, ◌≤◌, max, Bool, true, false, cond, eqb, ltb, map, replicate, Fits, w16, List, [], ◌∷◌, length, get_or, set, refl, sym, ap, ap₂, subst, ◌∙◌, arith, inl, inr, pow-add, pow_mono, pow-suc, mod-lt, div-lt_iff_lt-mul, div-add-mod', length-set, get_or-set_same, get_or-set_other, ext_get_or, Option, Some, None}
use Rattle.std.specs.Prelude.{◌≢◌, IsTrue, MatchOption}
use Rattle.std.specs.Int.{bit_at, trailing_zeros}
use lib.Bits.{bit_and}
use Rattle.std.proofs.Math.Nat.{div-div-eq-div-mul, div-eq_of_lt, zero-div, pow-zero}
use Rattle.std.proofs.lemmas.Bool.{and_parts, cases_lt, cases_eq, cond_both, false_from_ne_true, lt-ltb, ltb-true, ltb-false}
use Rattle.std.proofs.lemmas.Nat.Bits.{and_high, bit_at-trailing_zeros, bit_at-zero}
use Rattle.std.proofs.lemmas.Simd.{tops_compared, mask_l-mod, bit_mask_l, length-zip2}
use lib.Lanes.{Each1, zip2, number_l, digits_l, mask_l, sel_l, top}
use mir.Syntax.{w64}
use Rattle.loom_views.specs.Lanes.{word_digest, lane, lanes_in, word_of, word_of-counts_in, counts_in, AreLarger, IsLaidOut, IsFirstLarger}
use Rattle.loom_views.specs.Versions.{IsCounted, join, within, versions_eq, IsFirstAhead}
use Rattle.loom_views.proofs.Views.VersionLists.{same-places, within-from_places}

-- ---- the lanes of a word

lane-first : (v w : ℕ) → v < 2 ^ 16 → lane (v + 2 ^ 16 * w) 0 ≡ v
lane-first v w h = omega arith

lane-next : (v w t : ℕ) → v < 2 ^ 16 → lane (v + 2 ^ 16 * w) (suc t) ≡ lane w t
lane-next v w t h =
    let more : 16 * suc t ≡ 16 + 16 * t = omega arith in
    let p : 2 ^ (16 * suc t) ≡ 2 ^ 16 * 2 ^ (16 * t) = ap (λ n. 2 ^ n) more ∙ pow-add 2 16 (16 * t) in
    let e : (v + 2 ^ 16 * w) / 2 ^ 16 ≡ w = omega arith in
    ap (λ n. n % 2 ^ 16) (ap (λ n. (v + 2 ^ 16 * w) / n) p ∙ sym (div-div-eq-div-mul (v + 2 ^ 16 * w) (2 ^ 16) (2 ^ (16 * t))) ∙ ap (λ n. n / 2 ^ (16 * t)) e)

lane-word_of : (vs : List ℕ) → Each1 (Fits w16) vs → (t : ℕ) → lane (word_of vs) t ≡ get_or vs t 0
lane-word_of [] h t = ap (λ n. n % 2 ^ 16) (zero-div (2 ^ (16 * t)))
lane-word_of (v ∷ vs) h zero = lane-first v (word_of vs) h.0.fits
lane-word_of (v ∷ vs) h (suc t) = lane-next v (word_of vs) t h.0.fits ∙ lane-word_of vs h.1 t

-- the lanes of a word are the numbers that it was made of
lane-listed : (word : ℕ) (vs : List ℕ) → word_of vs ≡ word → Each1 (Fits w16) vs → (t : ℕ) → lane word t ≡ get_or vs t 0
lane-listed word vs e h t = ap (λ w. lane w t) (sym e) ∙ lane-word_of vs h t

-- five counts are those of their word
pub counts_of : (a b c d e : ℕ) → a < 2 ^ 16 → b < 2 ^ 16 → c < 2 ^ 16 → d < 2 ^ 16 → e < 2 ^ 16 → counts_in (word_of (a ∷ b ∷ c ∷ d ∷ e ∷ [])) ≡ a ∷ b ∷ c ∷ d ∷ e ∷ []
counts_of a b c d e j k l m n =
    let fits : Each1 (Fits w16) (a ∷ b ∷ c ∷ d ∷ e ∷ []) = (record { fits = j }, (record { fits = k }, (record { fits = l }, (record { fits = m }, (record { fits = n }, tt))))) in
    let at : (t : ℕ) → lane (word_of (a ∷ b ∷ c ∷ d ∷ e ∷ [])) t ≡ get_or (a ∷ b ∷ c ∷ d ∷ e ∷ []) t 0 = lane-word_of (a ∷ b ∷ c ∷ d ∷ e ∷ []) fits in
    λ i. at 0 i ∷ at 1 i ∷ at 2 i ∷ at 3 i ∷ at 4 i ∷ []

lane_far : (word t : ℕ) → word < 2 ^ 128 → 8 ≤ t → lane word t ≡ 0
lane_far word t h l =
    let far : 2 ^ 128 ≤ 2 ^ (16 * t) = pow_mono {i = 128} {j = 16 * t} (omega arith) in
    ap (λ n. n % 2 ^ 16) (div-eq_of_lt (omega (arith, far)))

lanes-at : (word t : ℕ) → word < 2 ^ 128 → get_or (lanes_in word) t 0 ≡ lane word t
lanes-at word zero h = refl
lanes-at word (suc zero) h = refl
lanes-at word (suc (suc zero)) h = refl
lanes-at word (suc (suc (suc zero))) h = refl
lanes-at word (suc (suc (suc (suc zero)))) h = refl
lanes-at word (suc (suc (suc (suc (suc zero))))) h = refl
lanes-at word (suc (suc (suc (suc (suc (suc zero)))))) h = refl
lanes-at word (suc (suc (suc (suc (suc (suc (suc zero))))))) h = refl
lanes-at word (suc (suc (suc (suc (suc (suc (suc (suc t)))))))) h = sym (lane_far word (suc (suc (suc (suc (suc (suc (suc (suc t)))))))) h (omega arith))

lane-fits : (word t : ℕ) → Fits w16 (lane word t)
lane-fits word t = record { fits = mod-lt (word / 2 ^ (16 * t)) (omega arith) }

lanes-fit : (word : ℕ) → Each1 (Fits w16) (lanes_in word)
lanes-fit word = (lane-fits word 0, (lane-fits word 1, (lane-fits word 2, (lane-fits word 3, (lane-fits word 4, (lane-fits word 5, (lane-fits word 6, (lane-fits word 7, tt))))))))

-- what is listed as the lanes of a word
pub listed : (word : ℕ) (xs : List ℕ) → word < 2 ^ 128 → xs ≡ lanes_in word → (t : ℕ) → lane word t ≡ get_or xs t 0
listed word xs h e t = sym (lanes-at word t h) ∙ ap (λ l. get_or l t 0) (sym e)

pub lane_above : (word t : ℕ) → word < 2 ^ 80 → 5 ≤ t → lane word t ≡ 0
lane_above word t h l =
    let far : 2 ^ 80 ≤ 2 ^ (16 * t) = pow_mono {i = 80} {j = 16 * t} (omega arith) in
    ap (λ n. n % 2 ^ 16) (div-eq_of_lt (omega (arith, far)))

-- ---- the number of a list of digits

number_of_digits : (p n x : ℕ) → 0 < p → x < p ^ n → number_l p (digits_l p n x) ≡ x
number_of_digits p zero x P h = omega (arith, pow-zero p)
number_of_digits p (suc n) x P h =
    let less : x / p < p ^ n = (div-lt_iff_lt-mul P).1 (rw (← pow-suc p n) h) in
    rw (number_of_digits p n (x / p) P less) (omega (arith, div-add-mod' x p))

word_of-number : (vs : List ℕ) → word_of vs ≡ number_l 65536 vs
word_of-number [] = refl
word_of-number (v ∷ vs) = ap (λ n. v + 65536 * n) (word_of-number vs)

number_l-lt : (vs : List ℕ) → Each1 (Fits w16) vs → number_l 65536 vs < 65536 ^ length vs
number_l-lt [] h = omega (arith, pow-zero 65536)
number_l-lt (v ∷ vs) h = omega (arith, pow-suc 65536 (length vs), h.0.fits, number_l-lt vs h.1)

digits-fit : (n x : ℕ) → Each1 (Fits w16) (digits_l 65536 n x)
digits-fit zero x = tt
digits-fit (suc n) x = (record { fits = mod-lt x (omega arith) }, digits-fit n (x / 65536))

digits-are : (word : ℕ) → word < 2 ^ 128 → digits_l 65536 8 word ≡ lanes_in word
digits-are word h =
    let ds = digits_l 65536 8 word in
    let e : word_of ds ≡ word = word_of-number ds ∙ number_of_digits 65536 8 word (omega arith) h in
    let at = λ (t : ℕ). sym (lane-listed word ds e (digits-fit 8 word) t) in
    λ i. at 0 i ∷ at 1 i ∷ at 2 i ∷ at 3 i ∷ at 4 i ∷ at 5 i ∷ at 6 i ∷ at 7 i ∷ []

-- two halves of a word, as eight lanes
pub lanes_of_halves : (word low high : ℕ) → word < 2 ^ 128 → low ≡ word % 2 ^ 64 → high ≡ word / 2 ^ 64
    → digits_l 65536 8 (number_l 256 (digits_l 256 16 (number_l (2 ^ 64) (low ∷ high ∷ [])))) ≡ lanes_in word
lanes_of_halves word low high h l u =
    let n : ℕ = low + 2 ^ 64 * (high + 2 ^ 64 * 0) in
    let e : n ≡ word = omega (arith, l, u) in
    ap (digits_l 65536 8) (ap (λ n. number_l 256 (digits_l 256 16 n)) e ∙ number_of_digits 256 16 word (omega arith) h) ∙ digits-are word h

-- and eight lanes as two halves
pub halves_of_lanes : (vs : List ℕ) → length vs ≡ 8 → Each1 (Fits w16) vs
    → let n = number_l 256 (digits_l 256 16 (number_l 65536 vs)) in n / 2 ^ 64 % 2 ^ 64 * 2 ^ 64 + n % 2 ^ 64 ≡ word_of vs
halves_of_lanes vs long h =
    let few : number_l 65536 vs < 2 ^ 128 = subst (λ k. number_l 65536 vs < 65536 ^ k) long (number_l-lt vs h) in
    let n : ℕ = number_l 65536 vs in
    let bytes : number_l 256 (digits_l 256 16 n) ≡ n = number_of_digits 256 16 n (omega arith) few in
    let whole : n / 2 ^ 64 % 2 ^ 64 * 2 ^ 64 + n % 2 ^ 64 ≡ n = omega (arith, few) in
    ap (λ n. n / 2 ^ 64 % 2 ^ 64 * 2 ^ 64 + n % 2 ^ 64) bytes ∙ whole ∙ sym (word_of-number vs)

-- ---- what is done lane by lane

at-zip2 : {B : Type 0} (f : ℕ → ℕ → B) (e : B) → f 0 0 ≡ e → (xs ys : List ℕ) → length xs ≡ length ys → (t : ℕ) → get_or (zip2 f xs ys) t e ≡ f (get_or xs t 0) (get_or ys t 0)
at-zip2 f e z [] [] l t = sym z
at-zip2 f e z [] (y ∷ ys) l t = absurd (omega arith)
at-zip2 f e z (x ∷ xs) [] l t = absurd (omega arith)
at-zip2 f e z (x ∷ xs) (y ∷ ys) l zero = refl
at-zip2 f e z (x ∷ xs) (y ∷ ys) l (suc t) = at-zip2 f e z xs ys (omega arith) t

larger_fits : (xs ys : List ℕ) → Each1 (Fits w16) xs → Each1 (Fits w16) ys → Each1 (Fits w16) (zip2 max xs ys)
larger_fits [] ys a b = tt
larger_fits (x ∷ xs) [] a b = tt
larger_fits (x ∷ xs) (y ∷ ys) a b = (record { fits = omega (arith, a.0.fits, b.0.fits) }, larger_fits xs ys a.1 b.1)

pub larger_at : (word other : ℕ) (xs ys : List ℕ) → word < 2 ^ 128 → other < 2 ^ 128 → xs ≡ lanes_in word → ys ≡ lanes_in other
    → (t : ℕ) → lane (word_of (zip2 max xs ys)) t ≡ max (lane word t) (lane other t)
larger_at word other xs ys h k e d t =
    ap₂ (λ us vs. lane (word_of (zip2 max us vs)) t) e d
    ∙ lane-word_of (zip2 max (lanes_in word) (lanes_in other)) (larger_fits (lanes_in word) (lanes_in other) (lanes-fit word) (lanes-fit other)) t
    ∙ at-zip2 max 0 refl (lanes_in word) (lanes_in other) refl t ∙ ap₂ max (lanes-at word t h) (lanes-at other t k)

-- a choice by a test, in each lane
pub chosen : (test : ℕ → ℕ → Bool) → ((a b : ℕ) → cond (test a b) b a ≡ max a b) → (xs ys : List ℕ) → length xs ≡ length ys → sel_l (zip2 test xs ys) ys xs ≡ zip2 max xs ys
chosen test is [] ys l = refl
chosen test is (x ∷ xs) [] l = absurd (omega arith)
chosen test is (x ∷ xs) (y ∷ ys) l = ap₂ (λ v vs. v ∷ vs) (is x y) (chosen test is xs ys (omega arith))

larger-chosen : (a b : ℕ) → cond (ltb a b) b a ≡ max a b
larger-chosen a b = cond_both (ltb a b) b a (λ x. x ≡ max a b) (λ e. omega (arith, ltb-true a b e)) (λ e. omega (arith, ltb-false a b e))

-- the choice by a comparison of lanes
pub larger_chosen : (xs ys : List ℕ) → length xs ≡ length ys → sel_l (map (top 15) (zip2 (λ a b. cond (ltb a b) 65535 0) xs ys)) ys xs ≡ zip2 max xs ys
larger_chosen xs ys l = ap (λ ms. sel_l ms ys xs) (tops_compared w16 ltb xs ys) ∙ chosen ltb larger-chosen xs ys l

set_fits : (xs : List ℕ) (i v : ℕ) → Fits w16 v → Each1 (Fits w16) xs → Each1 (Fits w16) (set xs i v)
set_fits [] i v f h = tt
set_fits (x ∷ xs) zero v f h = (f, h.1)
set_fits (x ∷ xs) (suc i) v f h = (h.0, set_fits xs i v f h.1)

pub set_at : (word : ℕ) (xs : List ℕ) (i v : ℕ) → word < 2 ^ 128 → xs ≡ lanes_in word → i < 8 → v < 2 ^ 16
    → (lane (word_of (set xs i v)) i ≡ v) × ((t : ℕ) → t ≢ i → lane (word_of (set xs i v)) t ≡ lane word t)
set_at word xs i v h e l fits =
    let vs = set (lanes_in word) i v in
    let at = λ (t : ℕ). ap (λ us. lane (word_of (set us i v)) t) e ∙ lane-word_of vs (set_fits (lanes_in word) i v (record { fits = fits }) (lanes-fit word)) t in
    (at i ∙ get_or-set_same (lanes_in word) i v 0 l, λ t o. at t ∙ get_or-set_other (lanes_in word) i t v 0 o ∙ lanes-at word t h)

-- ---- the lowest lane that is larger

abbrev flag : Bool → ℕ
flag b = cond b 1 0

flag-false : (b : Bool) → flag b ≡ 0 → b ≡ false
flag-false true e = absurd (omega (arith, e))
flag-false false e = refl

flag-true : (b : Bool) → flag b ≡ 1 → b ≡ true
flag-true true e = refl
flag-true false e = absurd (omega (arith, e))

-- the bits of a comparison
abbrev flags : List ℕ → List ℕ → ℕ
flags xs ys = mask_l (zip2 ltb xs ys)

pub flags_compared : (xs ys : List ℕ) → length xs ≡ 8 → length ys ≡ 8 → mask_l (map (top 15) (zip2 (λ a b. cond (ltb a b) 65535 0) xs ys)) % 2 ^ 64 ≡ flags xs ys
flags_compared xs ys f g =
    ap (λ l. mask_l l % 2 ^ 64) (tops_compared w16 ltb xs ys) ∙ mask_l-mod (zip2 ltb xs ys) 64 (omega (arith, length-zip2 ltb xs ys (f ∙ sym g)))

bit_at-flags : (xs ys : List ℕ) (t : ℕ) → length xs ≡ length ys → bit_at (flags xs ys) t ≡ flag (ltb (get_or xs t 0) (get_or ys t 0))
bit_at-flags xs ys t e = bit_mask_l (zip2 ltb xs ys) t ∙ ap flag (at-zip2 ltb false refl xs ys e t)

lower : (word other : ℕ) (xs ys : List ℕ) (t : ℕ) → length xs ≡ length ys → lane word t ≡ get_or xs t 0 → lane other t ≡ get_or ys t 0 → bit_at (flags xs ys) t ≡ 0 → lane other t ≤ lane word t
lower word other xs ys t e at bt z =
    let below = ltb-false (get_or xs t 0) (get_or ys t 0) (flag-false _ (sym (bit_at-flags xs ys t e) ∙ z)) in
    omega (arith, at, bt, below)

pub none_larger : (word other : ℕ) (xs ys : List ℕ) → word < 2 ^ 128 → other < 2 ^ 128 → xs ≡ lanes_in word → ys ≡ lanes_in other → flags xs ys ≡ 0 → (t : ℕ) → lane other t ≤ lane word t
none_larger word other xs ys h k e d z t =
    lower word other xs ys t (ap length e ∙ sym (ap length d)) (listed word xs h e t) (listed other ys k d t) (ap (λ n. bit_at n t) z ∙ bit_at-zero t)

pub some_larger : (word other : ℕ) (xs ys : List ℕ) (m : ℕ) → word < 2 ^ 128 → other < 2 ^ 128 → xs ≡ lanes_in word → ys ≡ lanes_in other
    → m ≡ flags xs ys → 0 < m → m < 2 ^ 64 → IsFirstLarger word other (trailing_zeros w64 m)
some_larger word other xs ys m h k e d is pos few =
    let z = trailing_zeros w64 m in
    let b = bit_at-trailing_zeros w64 m pos few in
    let long : length xs ≡ length ys = ap length e ∙ sym (ap length d) in
    let at = listed word xs h e in
    let bt = listed other ys k d in
    let bit = λ (t : ℕ). sym (ap (λ n. bit_at n t) is) in
    let above = ltb-true (get_or xs z 0) (get_or ys z 0) (flag-true _ (sym (bit_at-flags xs ys z long) ∙ bit z ∙ b.1)) in
    record {
      larger = omega (arith, at z, bt z, above);
      first = λ i l. lower word other xs ys i long (at i) (bt i) (bit i ∙ b.2 i l);
    }

-- each lane is larger just where all eight bits are one
ones : (t : ℕ) → t < 8 → bit_at 255 t ≡ 1
ones zero l = refl
ones (suc zero) l = refl
ones (suc (suc zero)) l = refl
ones (suc (suc (suc zero))) l = refl
ones (suc (suc (suc (suc zero)))) l = refl
ones (suc (suc (suc (suc (suc zero))))) l = refl
ones (suc (suc (suc (suc (suc (suc zero)))))) l = refl
ones (suc (suc (suc (suc (suc (suc (suc zero))))))) l = refl
ones (suc (suc (suc (suc (suc (suc (suc (suc t)))))))) l = absurd (omega arith)

pub all_flags : (word other : ℕ) (xs ys : List ℕ) → word < 2 ^ 128 → other < 2 ^ 128 → xs ≡ lanes_in word → ys ≡ lanes_in other → flags xs ys ≡ 255 → AreLarger word other
all_flags word other xs ys h k e d is t l =
    let at = listed word xs h e t in
    let bt = listed other ys k d t in
    let above = ltb-true (get_or xs t 0) (get_or ys t 0) (flag-true _ (sym (bit_at-flags xs ys t (ap length e ∙ sym (ap length d))) ∙ ap (λ n. bit_at n t) is ∙ ones t l)) in
    omega (arith, at, bt, above)

pub flags_all : (word other : ℕ) (xs ys : List ℕ) → xs ≡ lanes_in word → ys ≡ lanes_in other → AreLarger word other → flags xs ys ≡ 255
flags_all word other xs ys e d larger =
    let at = λ (t : ℕ) (l : t < 8). lt-ltb (lane word t) (lane other t) (larger t l) in
    let all : zip2 ltb (lanes_in word) (lanes_in other) ≡ true ∷ true ∷ true ∷ true ∷ true ∷ true ∷ true ∷ true ∷ [] =
    λ i. at 0 (omega arith) i ∷ at 1 (omega arith) i ∷ at 2 (omega arith) i ∷ at 3 (omega arith) i ∷ at 4 (omega arith) i ∷ at 5 (omega arith) i ∷ at 6 (omega arith) i ∷ at 7 (omega arith) i ∷ [] in
    ap₂ (λ us vs. flags us vs) e d ∙ ap mask_l all

-- ---- a word as five counts

pub counts-at : (word t : ℕ) → t < 5 → get_or (counts_in word) t 0 ≡ lane word t
counts-at word zero l = refl
counts-at word (suc zero) l = refl
counts-at word (suc (suc zero)) l = refl
counts-at word (suc (suc (suc zero))) l = refl
counts-at word (suc (suc (suc (suc zero)))) l = refl
counts-at word (suc (suc (suc (suc (suc t))))) l = absurd (omega arith)

pub laid_out : (word : ℕ) → word < 2 ^ 80 → IsLaidOut (counts_in word) word
laid_out word h = record {
  counts = λ t l. sym (counts-at word t l);
  rest = h;
}

counted-from : (word : ℕ) → ((t : ℕ) → lane word t ≤ 65534) → IsCounted (counts_in word)
counted-from word h zero = h 0
counted-from word h (suc zero) = h 1
counted-from word h (suc (suc zero)) = h 2
counted-from word h (suc (suc (suc zero))) = h 3
counted-from word h (suc (suc (suc (suc zero)))) = h 4
counted-from word h (suc (suc (suc (suc (suc t))))) = omega arith

pub lane-counted : (word t : ℕ) → IsCounted (counts_in word) → word < 2 ^ 80 → lane word t ≤ 65534
lane-counted word t c h = elim (cases_lt t 5) [
  | inl l ↦ (let at = counts-at word t l in let few = c t in omega arith)
  | inr l ↦ (let none = lane_above word t h l in omega arith)
]

-- what a word must meet
pub kept : (word : ℕ) → word < 2 ^ 128 → ((t : ℕ) → lane word t ≤ 65534) → ((t : ℕ) → 5 ≤ t → lane word t ≡ 0) → IsCounted (counts_in word) × (word < 2 ^ 80)
kept word h few above =
    let five : word / 2 ^ 80 % 2 ^ 16 ≡ 0 = above 5 (omega arith) in
    let six : word / 2 ^ 96 % 2 ^ 16 ≡ 0 = above 6 (omega arith) in
    let seven : word / 2 ^ 112 % 2 ^ 16 ≡ 0 = above 7 (omega arith) in
    (counted-from word few, omega arith)

pub joined_kept : (a b word : ℕ) → IsCounted (counts_in a) × (a < 2 ^ 80) → IsCounted (counts_in b) × (b < 2 ^ 80) → word < 2 ^ 128 → ((t : ℕ) → lane word t ≡ max (lane a t) (lane b t))
    → IsCounted (counts_in word) × (word < 2 ^ 80)
joined_kept a b word p q h e = kept word h
    (λ t. let at = e t in let l = lane-counted a t p.0 p.1 in let r = lane-counted b t q.0 q.1 in omega arith)
    (λ t far. e t ∙ ap₂ max (lane_above a t p.1 far) (lane_above b t q.1 far))

pub counts_joined : (a b word : ℕ) → ((t : ℕ) → lane word t ≡ max (lane a t) (lane b t)) → counts_in word ≡ join (counts_in a) (counts_in b)
counts_joined a b word e = λ i. e 0 i ∷ e 1 i ∷ e 2 i ∷ e 3 i ∷ e 4 i ∷ []

pub set_kept : (a word i v : ℕ) → IsCounted (counts_in a) × (a < 2 ^ 80) → word < 2 ^ 128 → i < 5 → v ≤ 65534 → lane word i ≡ v → ((t : ℕ) → t ≢ i → lane word t ≡ lane a t)
    → IsCounted (counts_in word) × (word < 2 ^ 80)
set_kept a word i v p h l few e others = kept word h
    (λ t. elim (cases_eq t i) [
      | inl s ↦ (let at = ap (lane word) s in omega arith)
      | inr o ↦ (let at = others t o in let old = lane-counted a t p.0 p.1 in omega arith)
    ])
    (λ t far. others t (λ s. absurd (omega arith)) ∙ lane_above a t p.1 far)

pub counts_set : (a word i v : ℕ) → i < 5 → lane word i ≡ v → ((t : ℕ) → t ≢ i → lane word t ≡ lane a t) → counts_in word ≡ set (counts_in a) i v
counts_set a word i v l e others =
    ext_get_or 0 (counts_in word) (set (counts_in a) i v) (sym (length-set (counts_in a) i v)) (λ t h. elim (cases_eq t i) [
      | inl s ↦ ap (λ k. get_or (counts_in word) k 0) s ∙ counts-at word i l ∙ e ∙ sym (get_or-set_same (counts_in a) i v 0 l) ∙ ap (λ k. get_or (set (counts_in a) i v) k 0) (sym s)
      | inr o ↦ counts-at word t h ∙ others t o ∙ sym (counts-at a t h) ∙ sym (get_or-set_other (counts_in a) i t v 0 o)
    ])

-- the first lane that is larger is the first thread that is ahead
pub ahead-is : (found : Option ℕ) (a b : ℕ) → b < 2 ^ 80 → MatchOption found ((t : ℕ) → lane b t ≤ lane a t) (IsFirstLarger a b)
    → MatchOption found (IsTrue (within (counts_in b) (counts_in a))) (IsFirstAhead (counts_in a) (counts_in b))
ahead-is None a b h f = within-from_places (counts_in b) (counts_in a) (omega arith) (λ t l. let below = f t in let at = counts-at a t l in let bt = counts-at b t l in omega arith)
ahead-is (Some t) a b h f = elim (cases_lt t 5) [
  | inl l ↦ record {
    is_thread = l;
    larger = let more = f.larger in let at = counts-at a t l in let bt = counts-at b t l in omega arith;
    first = λ k below. let less = f.first k below in let at = counts-at a k (omega arith) in let bt = counts-at b k (omega arith) in omega arith;
  }
  | inr far ↦ (let more = f.larger in let none = lane_above b t h far in absurd (omega arith))
]

-- ---- the larger numbers, if that holds

all_ones : (n : ℕ) → n < 2 ^ 16 → bit_and n 65535 ≡ n
all_ones n h = let e : bit_and n 65535 ≡ n / 1 % 65536 * 1 = and_high n 16 0 in omega (arith, e)

no_ones : (n : ℕ) → bit_and n 0 ≡ 0
no_ones n = let e : bit_and n 0 ≡ n / 1 % 1 * 1 = and_high n 0 0 in omega (arith, e)

all_kept : (word : ℕ) → zip2 bit_and (lanes_in word) (replicate 8 65535) ≡ lanes_in word
all_kept word =
    let at = λ (t : ℕ). all_ones (lane word t) (lane-fits word t).fits in
    λ i. at 0 i ∷ at 1 i ∷ at 2 i ∷ at 3 i ∷ at 4 i ∷ at 5 i ∷ at 6 i ∷ at 7 i ∷ []

none_kept : (word : ℕ) → zip2 bit_and (lanes_in word) (replicate 8 0) ≡ lanes_in 0
none_kept word =
    let at = λ (t : ℕ). no_ones (lane word t) in
    λ i. at 0 i ∷ at 1 i ∷ at 2 i ∷ at 3 i ∷ at 4 i ∷ at 5 i ∷ at 6 i ∷ at 7 i ∷ []

pub larger_if_at : (word other : ℕ) (xs ys : List ℕ) (holds : Bool) → word < 2 ^ 128 → other < 2 ^ 128 → xs ≡ lanes_in word → ys ≡ lanes_in other
    → (t : ℕ) → lane (word_of (zip2 max xs (zip2 bit_and ys (replicate 8 (cond holds 65535 0))))) t ≡ cond holds (max (lane word t) (lane other t)) (lane word t)
larger_if_at word other xs ys true h k e d t =
    ap (λ ms. lane (word_of (zip2 max xs ms)) t) (ap (λ us. zip2 bit_and us (replicate 8 65535)) d ∙ all_kept other)
    ∙ larger_at word other xs (lanes_in other) h k e refl t
larger_if_at word other xs ys false h k e d t =
    let none : lane 0 t ≡ 0 = ap (λ n. n % 2 ^ 16) (zero-div (2 ^ (16 * t))) in
    ap (λ ms. lane (word_of (zip2 max xs ms)) t) (ap (λ us. zip2 bit_and us (replicate 8 0)) d ∙ none_kept other)
    ∙ larger_at word 0 xs (lanes_in 0) h (omega arith) e refl t ∙ omega (arith, none)

pub counts_joined_if : (a b word : ℕ) (holds : Bool) → ((t : ℕ) → lane word t ≡ cond holds (max (lane a t) (lane b t)) (lane a t)) → counts_in word ≡ cond holds (join (counts_in a) (counts_in b)) (counts_in a)
counts_joined_if a b word true e = counts_joined a b word e
counts_joined_if a b word false e = λ i. e 0 i ∷ e 1 i ∷ e 2 i ∷ e 3 i ∷ e 4 i ∷ []

pub joined_if_kept : (a b word : ℕ) (holds : Bool) → IsCounted (counts_in a) × (a < 2 ^ 80) → IsCounted (counts_in b) × (b < 2 ^ 80) → word < 2 ^ 128 → ((t : ℕ) → lane word t ≡ cond holds (max (lane a t) (lane b t)) (lane a t))
    → IsCounted (counts_in word) × (word < 2 ^ 80)
joined_if_kept a b word true p q h e = joined_kept a b word p q h e
joined_if_kept a b word false p q h e = kept word h
    (λ t. let at = e t in let l = lane-counted a t p.0 p.1 in omega arith)
    (λ t far. e t ∙ lane_above a t p.1 far)

-- ---- a lane that is chosen

pub lane_chosen : (word i v : ℕ) → i < 8 → sel_l (zip2 eqb (0 ∷ 1 ∷ 2 ∷ 3 ∷ 4 ∷ 5 ∷ 6 ∷ 7 ∷ []) (replicate 8 i)) (replicate 8 v) (lanes_in word) ≡ set (lanes_in word) i v
lane_chosen word zero v l = refl
lane_chosen word (suc zero) v l = refl
lane_chosen word (suc (suc zero)) v l = refl
lane_chosen word (suc (suc (suc zero))) v l = refl
lane_chosen word (suc (suc (suc (suc zero)))) v l = refl
lane_chosen word (suc (suc (suc (suc (suc zero))))) v l = refl
lane_chosen word (suc (suc (suc (suc (suc (suc zero)))))) v l = refl
lane_chosen word (suc (suc (suc (suc (suc (suc (suc zero))))))) v l = refl
lane_chosen word (suc (suc (suc (suc (suc (suc (suc (suc i)))))))) v l = absurd (omega arith)

-- ---- a lane that is raised

kept_sum : (x : ℕ) → x < 2 ^ 16 → (x + 0) % 2 ^ 16 ≡ x
kept_sum x h = omega arith

kept_lane : (word t : ℕ) → (lane word t + 0) % 2 ^ 16 ≡ lane word t
kept_lane word t = kept_sum (lane word t) (lane-fits word t).fits

raised_sum : (x : ℕ) → x < 65535 → (x + 1) % 2 ^ 16 ≡ x + 1
raised_sum x h = omega arith

pub lane_raised : (word i : ℕ) → i < 8 → lane word i < 65535
    → zip2 (λ a b. (a + b) % 2 ^ 16) (lanes_in word) (sel_l (zip2 eqb (0 ∷ 1 ∷ 2 ∷ 3 ∷ 4 ∷ 5 ∷ 6 ∷ 7 ∷ []) (replicate 8 i)) (replicate 8 1) (replicate 8 0)) ≡ set (lanes_in word) i (lane word i + 1)
lane_raised word zero l h = let s = kept_lane word in λ j. raised_sum (lane word 0) h j ∷ s 1 j ∷ s 2 j ∷ s 3 j ∷ s 4 j ∷ s 5 j ∷ s 6 j ∷ s 7 j ∷ []
lane_raised word (suc zero) l h = let s = kept_lane word in λ j. s 0 j ∷ raised_sum (lane word 1) h j ∷ s 2 j ∷ s 3 j ∷ s 4 j ∷ s 5 j ∷ s 6 j ∷ s 7 j ∷ []
lane_raised word (suc (suc zero)) l h = let s = kept_lane word in λ j. s 0 j ∷ s 1 j ∷ raised_sum (lane word 2) h j ∷ s 3 j ∷ s 4 j ∷ s 5 j ∷ s 6 j ∷ s 7 j ∷ []
lane_raised word (suc (suc (suc zero))) l h = let s = kept_lane word in λ j. s 0 j ∷ s 1 j ∷ s 2 j ∷ raised_sum (lane word 3) h j ∷ s 4 j ∷ s 5 j ∷ s 6 j ∷ s 7 j ∷ []
lane_raised word (suc (suc (suc (suc zero)))) l h = let s = kept_lane word in λ j. s 0 j ∷ s 1 j ∷ s 2 j ∷ s 3 j ∷ raised_sum (lane word 4) h j ∷ s 5 j ∷ s 6 j ∷ s 7 j ∷ []
lane_raised word (suc (suc (suc (suc (suc zero))))) l h = let s = kept_lane word in λ j. s 0 j ∷ s 1 j ∷ s 2 j ∷ s 3 j ∷ s 4 j ∷ raised_sum (lane word 5) h j ∷ s 6 j ∷ s 7 j ∷ []
lane_raised word (suc (suc (suc (suc (suc (suc zero)))))) l h = let s = kept_lane word in λ j. s 0 j ∷ s 1 j ∷ s 2 j ∷ s 3 j ∷ s 4 j ∷ s 5 j ∷ raised_sum (lane word 6) h j ∷ s 7 j ∷ []
lane_raised word (suc (suc (suc (suc (suc (suc (suc zero))))))) l h = let s = kept_lane word in λ j. s 0 j ∷ s 1 j ∷ s 2 j ∷ s 3 j ∷ s 4 j ∷ s 5 j ∷ s 6 j ∷ raised_sum (lane word 7) h j ∷ []
lane_raised word (suc (suc (suc (suc (suc (suc (suc (suc i)))))))) l h = absurd (omega arith)

-- words with other lanes have other counts
other_words : (a b : ℕ) → a < 2 ^ 80 → b < 2 ^ 80 → a ≢ b → versions_eq (counts_in a) (counts_in b) ≡ false
other_words a b h k o = false_from_ne_true (versions_eq (counts_in a) (counts_in b)) (λ e.
    let p = and_parts (within (counts_in a) (counts_in b)) (within (counts_in b) (counts_in a)) e in
    o (sym (word_of-counts_in a h) ∙ ap word_of (same-places (counts_in a) (counts_in b) refl p.0 p.1) ∙ word_of-counts_in b k))

pub other_digests : (a b x y : ℕ) → a < 2 ^ 80 → b < 2 ^ 80 → x ≡ word_digest a → y ≡ word_digest b → x ≢ y → versions_eq (counts_in a) (counts_in b) ≡ false
other_digests a b x y h k e d o = other_words a b h k (λ q. o (e ∙ ap word_digest q ∙ sym d))
