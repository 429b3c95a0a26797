-- The version of each thread when it first touched a store, if it did; and how one word holds them.
use Rattle.std.specs.Prelude.{ℕ, ◌≡◌, ◌+◌, ◌-◌, ◌*◌, ◌/◌, ◌^◌, ◌==◌, cond, List, [], ◌∷◌, map, Option, Some, None}
use Rattle.std.proofs.Common.{refl, sym, ap, ◌∙◌, arith, ⊎_elim}
use Rattle.std.proofs.lemmas.Bool.{cases_eq, eq-eqb, ne_eqb}
use Rattle.loom_views.specs.Limits.{highest_version}
use Rattle.loom_views.specs.Lanes.{lane, counts_in, word_of as counts_word}

-- what is in the lane of a thread that hasn't touched the store: more than any version
abbrev pub no_version : ℕ
no_version = highest_version + 1

-- no first touch, for each thread
abbrev pub untouched : List (Option ℕ)
untouched = None ∷ None ∷ None ∷ None ∷ None ∷ []

-- the number in a lane is a version, or says that there is none
abbrev pub touch_in : ℕ → Option ℕ
touch_in n = cond (n == no_version) None (Some n)

-- the first touches in the lanes of the five threads
abbrev pub touches_in : ℕ → List (Option ℕ)
touches_in word = map touch_in (counts_in word)

-- all bits above the threads' lanes are one
abbrev pub IsPadded : ℕ → Type 0
IsPadded word = word / 2 ^ 80 ≡ 2 ^ 48 - 1

-- the number that stands for a first touch
abbrev pub number_of : Option ℕ → ℕ
number_of None = no_version
number_of (Some n) = n

-- the word with these first touches
abbrev pub word_of : List (Option ℕ) → ℕ
word_of touches = counts_word (map number_of touches) + 2 ^ 80 * (2 ^ 48 - 1)

number_back : (n : ℕ) → number_of (touch_in n) ≡ n
number_back n = ⊎_elim (λ e. rw (eq-eqb n no_version e) (sym e)) (λ d. rw (ne_eqb n no_version d) refl) (cases_eq n no_version)

-- a word that is padded so is known by its first touches
pub word_of-touches_in : (word : ℕ) → IsPadded word → word_of (touches_in word) ≡ word
word_of-touches_in word h =
    let back : map number_of (touches_in word) ≡ counts_in word =
    λ i. number_back (lane word 0) i ∷ number_back (lane word 1) i ∷ number_back (lane word 2) i ∷ number_back (lane word 3) i ∷ number_back (lane word 4) i ∷ [] in
    let whole : counts_word (counts_in word) + 2 ^ 80 * (2 ^ 48 - 1) ≡ word = omega (arith, h) in
    ap (λ vs. counts_word vs + 2 ^ 80 * (2 ^ 48 - 1)) back ∙ whole
