-- Names that differ, and what they lead to.
use Rattle.std.proofs.Common.{◌≡◌, ◌≢◌, ℕ, ◌+◌, ◌<◌, nat_lt, map, not, List, [], ◌∷◌, ◌++◌, length, get_or, Bool, true, false, Option, Some, None, cond, codes, inl, inr, refl, sym, ap, ◌∙◌, arith}
use Rattle.std.specs.List.{AllPairs, position, position_or_len, slice_get}
use Rattle.std.specs.Option.{option_map, unwrap_or}
use Rattle.std.specs.Prelude.{String, string_bytes}
use Rattle.std.specs.Str.{bytes_eq}
use Rattle.std.specs.declared.alloc.Global.{Global}
use Rattle.loom_text.specs.declared.test.Location.{Location}
use Rattle.loom_text.specs.declared.test.Thread.{Thread}
use Rattle.loom_text.specs.Known.{Located, located, location_in, named_in, registers_of, spellings}
use Rattle.loom_text.specs.Named.{location_named, register_named}
use Rattle.std.proofs.lemmas.Bool.{false_from_ne_true, lt-ltb, ltb-false, ltb-true}
use Rattle.std.proofs.lemmas.List.{length-map}
use Rattle.std.proofs.lemmas.List.Quantifiers.{all_pairs_push, position-Some}
use Rattle.std.proofs.lemmas.List.Sums.{fails_before_first, position_or_len_is}
use Rattle.std.proofs.lemmas.Option.{cond_some, get_or_from_slice_get, slice_get-map, slice_get_cases, slice_get_within}
use Rattle.std.proofs.lemmas.Slice.Eq.{bytes_eq-Decides}

true_false : true ≡ false → ⊥
true_false h = cc

some-none : {A : Type 0} (x : A) → Some x ≡ None → ⊥
some-none x h = cc

-- what isn't found is the name of none
not_found : (b : Bool) (n : ℕ) → cond b (Some n) None ≡ None → b ≡ false
not_found true n h = absurd (some-none n h)
not_found false n h = refl

eq_of : (xs ys : List ℕ) → xs ≡ ys → bytes_eq xs ys ≡ true
eq_of xs ys e = (bytes_eq-Decides xs ys).1 e

differ_of : (xs ys : List ℕ) → xs ≢ ys → bytes_eq xs ys ≡ false
differ_of xs ys e = false_from_ne_true (bytes_eq xs ys) (λ t. e ((bytes_eq-Decides xs ys).0 t))

pub no_such_name : {X : Type 0} (name_of : X → List ℕ) (xs : List X) (name : List ℕ) → position (λ x. bytes_eq (name_of x) name) xs ≡ None
    → (k : ℕ) (d : X) → k < length xs → name_of (get_or xs k d) ≢ name
no_such_name name_of xs name h k d lt e =
    let none = not_found _ _ h in
    let all = ltb-false _ _ none in
    let fails = fails_before_first (λ x. bytes_eq (name_of x) name) xs k d (omega (arith, lt, all)) in
    let passes = eq_of (name_of (get_or xs k d)) name e in
    true_false (sym passes ∙ fails)

-- the names of registers lead where their spellings do
place_alike : {X Y : Type 0} (f : X → Y) (p : Y → Bool) (xs : List X) → position_or_len p (map f xs) ≡ position_or_len (λ x. p (f x)) xs
place_alike f p [] = refl
place_alike f p (x ∷ xs) = ap (λ (n : ℕ). cond (not (p (f x))) (1 + n) 0) (place_alike f p xs)

pub named_alike : (registers : List (String Global)) (name : List ℕ) → register_named registers name ≡ named_in (spellings registers) name
named_alike registers name =
    let place : position_or_len (λ other. bytes_eq other name) (spellings registers) ≡ position_or_len (λ register. bytes_eq (string_bytes register) name) registers =
    place_alike (λ register. string_bytes register) (λ other. bytes_eq other name) registers in
    rw (place, length-map) refl

pub located_alike : (locations : List Location) (name : List ℕ) → location_named locations name ≡ location_in (map located locations) name
located_alike locations name =
    let place : position_or_len (λ (other : Located). bytes_eq other.name name) (map located locations) ≡ position_or_len (λ (location : Location). bytes_eq (string_bytes location.name) name) locations =
    place_alike located (λ (other : Located). bytes_eq other.name name) locations in
    rw (place, length-map) refl

-- another one is added, or isn't
pub differ_still : {X : Type 0} (R : X → X → Type 0) (b : Bool) (xs : List X) (y : X) → AllPairs R xs → ((k : ℕ) (d : X) → k < length xs → R (get_or xs k d) y) → AllPairs R (cond b (xs ++ y ∷ []) xs)
differ_still R true xs y differ other = all_pairs_push R xs y differ other
differ_still R false xs y differ other = differ

-- a name that is no other's leads to its place
pub leads : {X : Type 0} (name_of : X → List ℕ) (xs : List X) (k : ℕ) (x : X) → AllPairs (λ x y. name_of x ≢ name_of y) xs → slice_get xs k ≡ Some x
    → position (λ y. bytes_eq (name_of y) (name_of x)) xs ≡ Some k
leads name_of xs k x differ h =
    let within = slice_get_within xs k x h in
    let here = get_or_from_slice_get xs k x x h in
    let place = position_or_len_is (λ y. bytes_eq (name_of y) (name_of x)) xs k x (omega (arith, within))
    (λ i lt. differ_of (name_of (get_or xs i x)) (name_of x) (λ e. differ i k x lt within (e ∙ ap name_of (sym here))))
    (λ lt. eq_of (name_of (get_or xs k x)) (name_of x) (ap name_of here)) in
    rw (place, lt-ltb k (length xs) within) refl

pub leads_back : {X : Type 0} (name_of : X → List ℕ) (xs : List X) (k : ℕ) → AllPairs (λ x y. name_of x ≢ name_of y) xs → k < length xs
    → position (λ y. bytes_eq (name_of y) (unwrap_or (option_map name_of (slice_get xs k)) (codes "?"))) xs ≡ Some k
leads_back name_of xs k differ lt = elim (slice_get_cases xs k).1 [
  | inl (x, lt', e, here) ↦ rw e (leads name_of xs k x differ e)
  | inr (le, e) ↦ absurd (omega (arith, lt, le))
]

-- what lies at a number, by its spelling
pub location_there : (locations : List Location) (n : ℕ) → slice_get (map located locations) n ≡ option_map located (slice_get locations n)
location_there locations n = slice_get-map located locations n

pub register_there : (registers : List (String Global)) (n : ℕ) → slice_get (spellings registers) n ≡ option_map (λ name. string_bytes name) (slice_get registers n)
register_there registers n = slice_get-map (λ name. string_bytes name) registers n

pub thread_there : (threads : List Thread) (n : ℕ) → slice_get (map registers_of threads) n ≡ option_map registers_of (slice_get threads n)
thread_there threads n = slice_get-map registers_of threads n

-- the name that leads to a place is the name there
pub spelled_so : {X : Type 0} (name_of : X → List ℕ) (xs : List X) (name : List ℕ) (n : ℕ) → position (λ x. bytes_eq (name_of x) name) xs ≡ Some n
    → unwrap_or (option_map name_of (slice_get xs n)) (codes "?") ≡ name
spelled_so name_of xs name n h =
    let found = cond_some (nat_lt (position_or_len (λ x. bytes_eq (name_of x) name) xs) (length xs)) (position_or_len (λ x. bytes_eq (name_of x) name) xs) n h in
    let within = ltb-true (position_or_len (λ x. bytes_eq (name_of x) name) xs) (length xs) found.0 in
    elim (slice_get_cases xs n).1 [
      | inl (x, lt, e, here) ↦
          let passes = (position-Some (λ x. bytes_eq (name_of x) name) xs n x h).1 in
          rw e (ap name_of (sym here) ∙ (bytes_eq-Decides (name_of (get_or xs n x)) name).0 passes)
      | inr (le, e) ↦ absurd (omega (arith, within, found.1, le))
    ]

itself : (o : Option (List ℕ)) → option_map (λ (name : List ℕ). name) o ≡ o
itself None = refl
itself (Some name) = refl

pub named_so : (names : List (List ℕ)) (spelling : List ℕ) (n : ℕ) → named_in names spelling ≡ Some n → unwrap_or (slice_get names n) (codes "?") ≡ spelling
named_so names spelling n h = ap (λ (o : Option (List ℕ)). unwrap_or o (codes "?")) (sym (itself (slice_get names n))) ∙ spelled_so (λ (name : List ℕ). name) names spelling n h
