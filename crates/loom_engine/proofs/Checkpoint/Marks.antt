-- Reading the readable slots.
use Rattle.std.proofs.Common.{◌≡◌, ℕ, zero, suc, ◌+◌, ◌-◌, ◌<◌, ◌≤◌, Bool, true, false, if◌then◌else◌, List, [], ◌∷◌, ◌++◌, length, map, take, drop, set, Option, Some, None, option_map, refl, sym, ap, ◌∙◌, arith, add-one}
use Rattle.std.proofs.lemmas.Bool.{false≢true}
use Rattle.serde_json.specs.View.{view}
use Rattle.serde_json.specs.declared.value.Value.{Value}
use Rattle.loom_engine.specs.Checkpoint.Reader.{marks_of, begins_with, rest_of}

pub drop_past : {A : Type 0} (vs : List A) (place : ℕ) → length vs ≤ place → drop place vs ≡ []
drop_past [] zero h = refl
drop_past [] (suc n) h = refl
drop_past (v ∷ vs) zero h = absurd (omega arith)
drop_past (v ∷ vs) (suc n) h = drop_past vs n (omega arith)

-- a place further where one was found
abbrev pub after : Bool → ℕ → ℕ
after found place = if found then place + 1 else place

rest_of-drop : (vs : List Value) (place : ℕ) → rest_of (map view (drop place vs)) ≡ map view (drop (suc place) vs)
rest_of-drop [] zero = refl
rest_of-drop [] (suc n) = refl
rest_of-drop (v ∷ vs) zero = refl
rest_of-drop (v ∷ vs) (suc n) = rest_of-drop vs n

pub marks_step : (found : Bool) (count slot : ℕ) (vs : List Value) (place : ℕ) → begins_with slot (map view (drop place vs)) ≡ found
    → marks_of (suc count) slot (map view (drop place vs)) ≡ option_map (λ bs. found ∷ bs) (marks_of count (suc slot) (map view (drop (after found place) vs)))
unfolding marks_of
marks_step true count slot vs place e = rw (e, rest_of-drop vs place, add-one) refl
marks_step false count slot vs place e = rw e refl

take_more_set : (r : List Bool) (slot : ℕ) (b : Bool) (bs : List Bool) → slot < length r → take (suc slot) (set r slot b) ++ bs ≡ take slot r ++ b ∷ bs
take_more_set [] slot b bs h = absurd (omega arith)
take_more_set (x ∷ r) zero b bs h = refl
take_more_set (x ∷ r) (suc slot) b bs h = ap (λ l. x ∷ l) (take_more_set r slot b bs (omega arith))

regrouped : (r : List Bool) (slot : ℕ) (b : Bool) (o : Option (List Bool)) → slot < length r
    → option_map (λ bs. take slot r ++ bs) (option_map (λ bs. b ∷ bs) o) ≡ option_map (λ bs. take (slot + 1) (set r slot b) ++ bs) o
regrouped r slot b None h = refl
regrouped r slot b (Some bs) h = rw add-one (ap Some (sym (take_more_set r slot b bs h)))

-- what is left after one slot more
pub marks_more : (found : Bool) (r : List Bool) (slot place : ℕ) (vs : List Value) (whole : Option (List Bool)) → slot < 7 → slot < length r
    → begins_with slot (map view (drop place vs)) ≡ found
    → whole ≡ option_map (λ bs. take slot r ++ bs) (marks_of (7 - slot) slot (map view (drop place vs)))
    → whole ≡ option_map (λ bs. take (slot + 1) (set r slot found) ++ bs) (marks_of (7 - (slot + 1)) (slot + 1) (map view (drop (after found place) vs)))
marks_more found r slot place vs whole below within e same =
    let count : 7 - slot ≡ suc (7 - (slot + 1)) = omega arith in
    let now = marks_step found (7 - (slot + 1)) slot vs place e in
    same ∙ ap (λ n. option_map (λ bs. take slot r ++ bs) (marks_of n slot (map view (drop place vs)))) count
    ∙ ap (option_map (λ bs. take slot r ++ bs)) now
    ∙ regrouped r slot found _ within
    ∙ rw (sym (add-one slot)) refl

append_nothing : (r : List Bool) → r ++ [] ≡ r
append_nothing [] = refl
append_nothing (b ∷ r) = ap (λ l. b ∷ l) (append_nothing r)

take_whole : (r : List Bool) (n : ℕ) → length r ≡ n → take n r ≡ r
take_whole [] zero e = refl
take_whole [] (suc n) e = refl
take_whole (b ∷ r) zero e = absurd (omega arith)
take_whole (b ∷ r) (suc n) e = ap (λ l. b ∷ l) (take_whole r n (omega arith))

pub marks_all : (r : List Bool) (place : ℕ) (vs : List Value) (whole : Option (List Bool)) → length r ≡ 7 → length vs ≤ place
    → whole ≡ option_map (λ bs. take 7 r ++ bs) (marks_of (7 - 7) 7 (map view (drop place vs))) → Some r ≡ whole
unfolding marks_of
marks_all r place vs whole e past same = sym (same ∙ rw (drop_past vs place past) (ap Some (rw (take_whole r 7 e) (append_nothing r))))

nothing_more : (place : ℕ) (vs : List Value) → place < length vs → marks_of 0 7 (map view (drop place vs)) ≡ None
unfolding marks_of
nothing_more place [] below = absurd (omega arith)
nothing_more zero (v ∷ vs) below = refl
nothing_more (suc place) (v ∷ vs) below = nothing_more place vs (omega arith)

pub marks_left : (r : List Bool) (place : ℕ) (vs : List Value) (whole : Option (List Bool)) → place < length vs
    → whole ≡ option_map (λ bs. take 7 r ++ bs) (marks_of (7 - 7) 7 (map view (drop place vs))) → None ≡ whole
marks_left r place vs whole below same = sym (same ∙ ap (option_map (λ bs. take 7 r ++ bs)) (nothing_more place vs below))

pub begins_within : (vs : List Value) (place slot : ℕ) → begins_with slot (map view (drop place vs)) ≡ true → place < length vs
begins_within [] zero slot e = absurd (false≢true e)
begins_within [] (suc place) slot e = absurd (false≢true e)
begins_within (v ∷ vs) zero slot e = omega arith
begins_within (v ∷ vs) (suc place) slot e = omega (arith, begins_within vs place slot e)
