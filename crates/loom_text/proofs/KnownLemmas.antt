-- What leads to a location that a thread is passed.
use Rattle.std.proofs.Common.{◌≡◌, ◌≢◌, ℕ, zero, suc, ◌<◌, nat_eq, map, set, List, [], ◌∷◌, ◌++◌, ◌||◌, length, get_or, Bool, true, false, Option, Some, None, eq-eqb, refl, sym, ap, subst, ◌∙◌, inl, inr, arith}
use Rattle.std.specs.List.{AllPairs, list_any, position, slice_get}
use Rattle.std.specs.Option.{option_and_then, option_flatten, option_map}
use Rattle.std.specs.Prelude.{string_bytes}
use Rattle.std.specs.Str.{bytes_eq}
use Rattle.std.proofs.lemmas.Bool.{cases_Bool, cases_lt, eqb-true, false_from_ne_true, le-ltb, lt-ltb}
use Rattle.std.proofs.lemmas.List.{get_or-map, length-map}
use Rattle.std.proofs.lemmas.List.Quantifiers.{all_pairs_push, position-Some}
use Rattle.std.proofs.lemmas.List.Sums.{position_or_len_is}
use Rattle.std.proofs.lemmas.Option.{get_or_from_slice_get, none-some, same_Some, slice_get-map, slice_get_cases, slice_get_within}
use Rattle.std.proofs.lemmas.Slice.Eq.{bytes_eq-Decides}
use Rattle.loom_text.specs.declared.test.Kind.{Kind}
use Rattle.loom_text.specs.declared.test.Location.{Location}
use Rattle.loom_text.specs.Heads.{with_kind}
use Rattle.loom_text.specs.Known.{Located, has_name, located, location_in, numbered, parameter_numbered, parameter_in, parameters_of, put, put_found}
use Rattle.loom_text.specs.Named.{LocationsDiffer, location_named}
use Rattle.loom_text.proofs.NameLemmas.{located_alike, no_such_name}

true_false : true ≡ false → ⊥
true_false h = cc

-- ---- at each number

put_same : (n : ℕ) (l : Located) (xs : List (Option Located)) → parameter_numbered (put n l xs) n ≡ Some l
put_same zero l [] = refl
put_same zero l (x ∷ xs) = refl
put_same (suc n) l [] = put_same n l []
put_same (suc n) l (x ∷ xs) = put_same n l xs

put_other : (n : ℕ) (l : Located) (xs : List (Option Located)) (m : ℕ) → n ≢ m → parameter_numbered (put n l xs) m ≡ parameter_numbered xs m
put_other zero l [] zero ne = absurd (ne refl)
put_other zero l [] (suc m) ne = refl
put_other zero l (x ∷ xs) zero ne = absurd (ne refl)
put_other zero l (x ∷ xs) (suc m) ne = refl
put_other (suc n) l [] zero ne = refl
put_other (suc n) l [] (suc m) ne = put_other n l [] m (λ e. ne (ap (λ (k : ℕ). suc k) e))
put_other (suc n) l (x ∷ xs) zero ne = refl
put_other (suc n) l (x ∷ xs) (suc m) ne = put_other n l xs m (λ e. ne (ap (λ (k : ℕ). suc k) e))

-- either it is there as it is among the locations, or nothing is
self : (m : ℕ) → nat_eq m m ≡ true
self m = eq-eqb m m refl

unequal : (n m : ℕ) → nat_eq n m ≡ false → n ≢ m
unequal n m other is = true_false (sym (self m) ∙ ap (λ (k : ℕ). nat_eq k m) (sym is) ∙ other)

abbrev IsAt : List Located → List (Option Located) → ℕ → Type 0
IsAt ls xs m = (l : Located) → parameter_numbered xs m ≡ Some l → slice_get ls m ≡ Some l

at_most_found : (ls : List Located) (n : ℕ) (o : Option Located) (xs : List (Option Located)) (m : ℕ) → slice_get ls n ≡ o → IsAt ls xs m → IsAt ls (put_found n o xs) m
at_most_found ls n None xs m e rest l h = rest l h
at_most_found ls n (Some x) xs m e rest l h = elim (cases_Bool (nat_eq n m)) [
  | inl same ↦
      let is : n ≡ m = eqb-true n m same in
      subst (λ (k : ℕ). slice_get ls k ≡ Some l) is (e ∙ sym (put_same n x xs) ∙ ap (λ (k : ℕ). parameter_numbered (put n x xs) k) is ∙ h)
  | inr other ↦ rest l (sym (put_other n x xs m (unequal n m other)) ∙ h)
]

at_most : (ls : List Located) (numbers : List ℕ) (m : ℕ) → IsAt ls (parameters_of ls numbers) m
at_most ls [] m l h = absurd (none-some l h)
at_most ls (n ∷ numbers) m l h = at_most_found ls n (slice_get ls n) (parameters_of ls numbers) m refl (at_most ls numbers m) l h

or_parts : (a b : Bool) → (a || b) ≡ false → (a ≡ false) × (b ≡ false)
or_parts true b h = absurd (true_false h)
or_parts false b h = (refl, h)

or_other : (a b : Bool) → (a || b) ≡ true → a ≡ false → b ≡ true
or_other true b h other = absurd (true_false other)
or_other false b h other = h

still : (n : ℕ) (o : Option Located) (xs : List (Option Located)) (m : ℕ) (l : Located) → n ≢ m → parameter_numbered xs m ≡ Some l → parameter_numbered (put_found n o xs) m ≡ Some l
still n None xs m l ne h = h
still n (Some x) xs m l ne h = put_other n x xs m ne ∙ h

passed_found : (ls : List Located) (n : ℕ) (o : Option Located) (xs : List (Option Located)) (m : ℕ) (l : Located) → slice_get ls n ≡ o → slice_get ls m ≡ Some l → (nat_eq n m ≡ false → parameter_numbered xs m ≡ Some l)
    → parameter_numbered (put_found n o xs) m ≡ Some l
passed_found ls n o xs m l found e rest = elim (cases_Bool (nat_eq n m)) [
  | inl same ↦
      let is : n ≡ m = eqb-true n m same in
      let there : o ≡ Some l = sym found ∙ ap (λ (k : ℕ). slice_get ls k) is ∙ e in
      subst (λ (o : Option Located). parameter_numbered (put_found n o xs) m ≡ Some l) (sym there) (subst (λ (k : ℕ). parameter_numbered (put n l xs) k ≡ Some l) is (put_same n l xs))
  | inr other ↦ still n o xs m l (unequal n m other) (rest other)
]

passed_at : (ls : List Located) (numbers : List ℕ) (m : ℕ) (l : Located) → list_any (λ p. nat_eq p m) numbers ≡ true → slice_get ls m ≡ Some l → parameter_numbered (parameters_of ls numbers) m ≡ Some l
passed_at ls [] m l h e = absurd (true_false (sym h))
passed_at ls (n ∷ numbers) m l h e =
    passed_found ls n (slice_get ls n) (parameters_of ls numbers) m l refl e
    (λ other. passed_at ls numbers m l (or_other (nat_eq n m) (list_any (λ p. nat_eq p m) numbers) h other) e)

not_found : (n : ℕ) (o : Option Located) (xs : List (Option Located)) (m : ℕ) → n ≢ m → parameter_numbered xs m ≡ None → parameter_numbered (put_found n o xs) m ≡ None
not_found n None xs m ne h = h
not_found n (Some x) xs m ne h = put_other n x xs m ne ∙ h

not_passed_at : (ls : List Located) (numbers : List ℕ) (m : ℕ) → list_any (λ p. nat_eq p m) numbers ≡ false → parameter_numbered (parameters_of ls numbers) m ≡ None
not_passed_at ls [] m h = refl
not_passed_at ls (n ∷ numbers) m h =
    let parts = or_parts (nat_eq n m) (list_any (λ p. nat_eq p m) numbers) h in
    not_found n (slice_get ls n) (parameters_of ls numbers) m (unequal n m parts.0) (not_passed_at ls numbers m parts.1)

-- ---- by name

there : (xs : List (Option Located)) (k : ℕ) (o d : Option Located) → k < length xs → get_or xs k d ≡ o → parameter_numbered xs k ≡ o
there xs k o d lt h = elim (slice_get_cases xs k).1 [
  | inl (x, lt', e, here) ↦ ap (λ (o : Option (Option Located)). option_flatten o) e ∙ sym (get_or_from_slice_get xs k x d e) ∙ h
  | inr (le, e) ↦ absurd (omega (arith, lt, le))
]

-- what isn't named so among the locations isn't among the parameters
not_named : (ls : List Located) (numbers : List ℕ) (name : List ℕ) (k : ℕ) (d : Option Located) → k < length (parameters_of ls numbers)
    → ((l : Located) → slice_get ls k ≡ Some l → parameter_numbered (parameters_of ls numbers) k ≡ Some l → bytes_eq l.name name ≡ false) → has_name name (get_or (parameters_of ls numbers) k d) ≡ false
not_named ls numbers name k d lt other = go (get_or (parameters_of ls numbers) k d) refl
  where
    go : (o : Option Located) → get_or (parameters_of ls numbers) k d ≡ o → has_name name o ≡ false
    go None e = refl
    go (Some l) e = let here = there (parameters_of ls numbers) k (Some l) d lt e in other l (at_most ls numbers k l here) here

never : (p : Option Located → Bool) (xs : List (Option Located)) → ((k : ℕ) (d : Option Located) → k < length xs → p (get_or xs k d) ≡ false) → position p xs ≡ None
never p xs fails =
    let place = position_or_len_is p xs (length xs) None (omega arith) (λ k lt. fails k None lt) (λ lt. absurd (omega (arith, lt))) in
    rw (place, le-ltb (length xs) (length xs) (omega arith)) refl

module _ (ls : List Located) (numbers : List ℕ) (name : List ℕ) (differ : AllPairs (λ x y. x.name ≢ y.name) ls) where
  named_at : (n k : ℕ) (l : Located) → location_in ls name ≡ Some n → slice_get ls k ≡ Some l → bytes_eq l.name name ≡ true → k ≡ n
  named_at n k l h e named = elim (cases_lt k n) [
    | inl lt ↦
        let fails = (position-Some (λ (x : Located). bytes_eq x.name name) ls n l h).2 k lt in
        absurd (true_false (sym named ∙ ap (λ (x : Located). bytes_eq x.name name) (sym (get_or_from_slice_get ls k l l e)) ∙ fails))
    | inr le ↦ elim (cases_lt n k) [
      | inl lt ↦
          let first = position-Some (λ (x : Located). bytes_eq x.name name) ls n l h in
          let here = get_or_from_slice_get ls k l l e in
          absurd (differ n k l lt (slice_get_within ls k l e)
          ((bytes_eq-Decides (get_or ls n l).name name).0 first.1 ∙ sym ((bytes_eq-Decides l.name name).0 named) ∙ ap (λ (x : Located). x.name) (sym here)))
      | inr le' ↦ omega (arith, le, le')
    ]
  ]

  pub parameter_found : (n : ℕ) (l : Located) → location_in ls name ≡ Some n → slice_get ls n ≡ Some l → list_any (λ p. nat_eq p n) numbers ≡ true → parameter_in (parameters_of ls numbers) name ≡ Some (n, l.kind)
  parameter_found n l h e any =
      let here : parameter_numbered (parameters_of ls numbers) n ≡ Some l = passed_at ls numbers n l any e in
      let found = position-Some (λ (x : Located). bytes_eq x.name name) ls n l h in
      let named : bytes_eq l.name name ≡ true = ap (λ (x : Located). bytes_eq x.name name) (sym (get_or_from_slice_get ls n l l e)) ∙ found.1 in
      let within = long (parameters_of ls numbers) n l here in
      let place = position_or_len_is (has_name name) (parameters_of ls numbers) n None (omega (arith, within))
      (λ k lt. not_named ls numbers name k None (omega (arith, lt, within)) (λ l' e' h'. ap (λ (x : Located). bytes_eq x.name name) (sym (get_or_from_slice_get ls k l' l e')) ∙ found.2 k lt))
      (λ lt. ap (λ (o : Option Located). has_name name o) (at_place (parameters_of ls numbers) n l None here) ∙ named) in
      rw (place, lt-ltb n (length (parameters_of ls numbers)) within, here) refl
    where
      long : (xs : List (Option Located)) (n : ℕ) (l : Located) → parameter_numbered xs n ≡ Some l → n < length xs
      long xs n l h = elim (slice_get_cases xs n).1 [
        | inl (x, lt, e, here) ↦ lt
        | inr (le, e) ↦ absurd (none-some l (sym (ap (λ (o : Option (Option Located)). option_flatten o) e) ∙ h))
      ]

      at_place : (xs : List (Option Located)) (n : ℕ) (l : Located) (d : Option Located) → parameter_numbered xs n ≡ Some l → get_or xs n d ≡ Some l
      at_place xs n l d h = elim (slice_get_cases xs n).1 [
        | inl (x, lt, e, here) ↦ get_or_from_slice_get xs n x d e ∙ sym (ap (λ (o : Option (Option Located)). option_flatten o) e) ∙ h
        | inr (le, e) ↦ absurd (none-some l (sym (ap (λ (o : Option (Option Located)). option_flatten o) e) ∙ h))
      ]

  pub no_parameter : ((n : ℕ) (l : Located) → location_in ls name ≡ Some n → slice_get ls n ≡ Some l → list_any (λ p. nat_eq p n) numbers ≡ false) → parameter_in (parameters_of ls numbers) name ≡ None
  no_parameter none = ap (λ (o : Option ℕ). option_and_then (λ n. numbered n (parameter_numbered (parameters_of ls numbers) n)) o) (never (has_name name) (parameters_of ls numbers) (λ k d lt.
      not_named ls numbers name k d lt (λ l e h. false_from_ne_true (bytes_eq l.name name) (λ named.
      none-some l (sym (not_passed_at ls numbers k (leads k l e named)) ∙ h)))))
    where
      leads : (k : ℕ) (l : Located) → slice_get ls k ≡ Some l → bytes_eq l.name name ≡ true → list_any (λ p. nat_eq p k) numbers ≡ false
      leads k l e named = go (location_in ls name) refl
        where
          go : (o : Option ℕ) → location_in ls name ≡ o → list_any (λ p. nat_eq p k) numbers ≡ false
          go None e' = absurd (true_false (sym named ∙ ap (λ (x : Located). bytes_eq x.name name) (sym (get_or_from_slice_get ls k l l e)) ∙ unnamed e'))
            where
              unnamed : location_in ls name ≡ None → bytes_eq (get_or ls k l).name name ≡ false
              unnamed h = false_from_ne_true (bytes_eq (get_or ls k l).name name) (λ named.
                  no_such_name (λ (x : Located). x.name) ls name h k l (slice_get_within ls k l e) ((bytes_eq-Decides (get_or ls k l).name name).0 named))
          go (Some n) e' =
              let same = named_at n k l e' e named in
              subst (λ (m : ℕ). list_any (λ p. nat_eq p m) numbers ≡ false) (sym same) (none n l e' (subst (λ (m : ℕ). slice_get ls m ≡ Some l) same e))

-- ---- as the reader looks it up

differ_located : (locations : List Location) → LocationsDiffer locations → AllPairs (λ x y. x.name ≢ y.name) (map located locations)
differ_located locations differ i j d lt within same = elim (slice_get_cases locations j).1 [
  | inl (l, in_list, e, here) ↦
      differ i j l lt in_list
      (ap (λ (x : Located). x.name) (sym (get_or-map located locations i l d (omega (arith, lt, in_list)))) ∙ same ∙ ap (λ (x : Located). x.name) (get_or-map located locations j l d in_list))
  | inr (le, e) ↦ absurd (let len = length-map locations located in omega (arith, len, within, le))
]

module _ (locations : List Location) (numbers : List ℕ) (name : List ℕ) (differ : LocationsDiffer locations) where
  pub is_parameter : (n : ℕ) (l : Location) → location_named locations name ≡ Some n → slice_get locations n ≡ Some l → list_any (λ p. nat_eq p n) numbers ≡ true
      → parameter_in (parameters_of (map located locations) numbers) name ≡ Some (n, l.kind)
  is_parameter n l h e any =
      parameter_found (map located locations) numbers name (differ_located locations differ) n (located l) (sym (located_alike locations name) ∙ h)
      (slice_get-map located locations n ∙ ap (λ (o : Option Location). option_map located o) e) any

  pub not_passed : (n : ℕ) → location_named locations name ≡ Some n → list_any (λ p. nat_eq p n) numbers ≡ false → parameter_in (parameters_of (map located locations) numbers) name ≡ None
  not_passed n h other =
      no_parameter (map located locations) numbers name (differ_located locations differ) (λ m l e found.
      subst (λ (k : ℕ). list_any (λ p. nat_eq p k) numbers ≡ false) (same_Some n m (sym h ∙ located_alike locations name ∙ e)) other)

  pub not_declared : location_named locations name ≡ None → parameter_in (parameters_of (map located locations) numbers) name ≡ None
  not_declared h =
      no_parameter (map located locations) numbers name (differ_located locations differ) (λ m l e found. absurd (none-some m (sym h ∙ located_alike locations name ∙ e)))

-- another one, of a new name
pub differ_more : (others : List Location) (name : List ℕ) (location : Location) → LocationsDiffer others → location_in (map located others) name ≡ None → string_bytes location.name ≡ name
    → LocationsDiffer (others ++ location ∷ [])
differ_more others name location differ new spelled =
    all_pairs_push (λ (x y : Location). string_bytes x.name ≢ string_bytes y.name) others location differ
    (λ k d lt same. no_such_name (λ (x : Location). string_bytes x.name) others name (located_alike others name ∙ new) k d lt (same ∙ spelled))

-- what is set at a place, by its view
pub with_kind_as : (locations : List Location) (n : ℕ) (kind : Kind) (location : Location) → slice_get locations n ≡ Some location → map located (set locations n (record location { kind = kind })) ≡ with_kind n kind (map located locations)
with_kind_as [] n kind location h = refl
with_kind_as (l ∷ locations) zero kind location h = ap (λ (x : Location). located (record x { kind = kind }) ∷ map located locations) (sym (same_Some l location h))
with_kind_as (l ∷ locations) (suc n) kind location h = ap (λ (xs : List Located). located l ∷ xs) (with_kind_as locations n kind location h)
