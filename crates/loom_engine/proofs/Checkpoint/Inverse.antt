-- The reader undoes the writer, and gives nothing else.
use Rattle.std.proofs.Common.{◌≡◌, ℕ, zero, suc, ◌<◌, Bool, true, false, if◌then◌else◌, eqb, codes, List, [], ◌∷◌, length, map, Option, Some, None, option_and_then, ◌⊎◌, inl, inr, refl, sym, ap, ◌∙◌, arith, tests}
use Rattle.std.specs.Str.{bytes_eq}
use Rattle.std.proofs.lemmas.Bool.{false≢true, eqb-true, eq-eqb}
use Rattle.std.proofs.lemmas.Slice.Eq.{bytes_eq-Decides}
use Rattle.std.proofs.lemmas.List.{length-map}
use Rattle.serde_json.specs.Data.{unsigned, negative, float, Data, null, boolean, number, string, array, object, Members, no_members, member}
use Rattle.serde_json.specs.Find.{as_bool, as_str, as_object}
use Rattle.serde_json.specs.View.{items_of}
use Rattle.loom_engine.specs.declared.rt.path.node.Status.{Status}
use Rattle.loom_engine.specs.declared.rt.path.node.Status.TheVariants.{Disabled, Skip, Yield, Pending, Active, Visited}
use Rattle.loom_objects.specs.Tree.Stores.{slots_from}
use Rattle.loom_engine.specs.Checkpoint.Grammar.{whole, whole_or_null, list_data, status_data, status_text}
use Rattle.loom_engine.specs.Checkpoint.Reader.{each, list_of, as_whole, as_list, as_whole_or_null, ends, expected, taken, status_named, status_of, statuses_of, is_number, begins_with, rest_of, marks_of}
use Rattle.loom_engine.proofs.Checkpoint.Lists.{list_of-items_of, items_of-list_of}
use Rattle.loom_engine.proofs.Checkpoint.Chains.{with_step, step_gave, map_gave, test_passed}

-- ---- values

pub as_bool-gave : (d : Data) (b : Bool) → as_bool d ≡ Some b → d ≡ boolean b
as_bool-gave null b e = cc
as_bool-gave (boolean c) b e = let p : c ≡ b = cc in ap boolean p
as_bool-gave (number n) b e = cc
as_bool-gave (string s) b e = cc
as_bool-gave (array ds) b e = cc
as_bool-gave (object ms) b e = cc

pub as_whole-gave : (d : Data) (n : ℕ) → as_whole d ≡ Some n → d ≡ whole n
as_whole-gave null n e = cc
as_whole-gave (boolean c) n e = cc
as_whole-gave (number (unsigned m)) n e = let p : m ≡ n = cc in ap whole p
as_whole-gave (number (negative z)) n e = cc
as_whole-gave (number (float x)) n e = cc
as_whole-gave (string s) n e = cc
as_whole-gave (array ds) n e = cc
as_whole-gave (object ms) n e = cc

pub as_whole_or_null-gave : (d : Data) (o : Option ℕ) → as_whole_or_null d ≡ Some o → d ≡ whole_or_null o
as_whole_or_null-gave null o e = let p : None ≡ o = cc in ap whole_or_null p
as_whole_or_null-gave (boolean c) o e = cc
as_whole_or_null-gave (number (unsigned m)) o e = let p : Some m ≡ o = cc in ap whole_or_null p
as_whole_or_null-gave (number (negative z)) o e = cc
as_whole_or_null-gave (number (float x)) o e = cc
as_whole_or_null-gave (string s) o e = cc
as_whole_or_null-gave (array ds) o e = cc
as_whole_or_null-gave (object ms) o e = cc

pub as_whole_or_null-of : (o : Option ℕ) → as_whole_or_null (whole_or_null o) ≡ Some o
as_whole_or_null-of None = refl
as_whole_or_null-of (Some n) = refl

pub as_str-gave : (d : Data) (s : List ℕ) → as_str d ≡ Some s → d ≡ string s
as_str-gave null s e = cc
as_str-gave (boolean c) s e = cc
as_str-gave (number n) s e = cc
as_str-gave (string t) s e = let p : t ≡ s = cc in ap string p
as_str-gave (array ds) s e = cc
as_str-gave (object ms) s e = cc

pub as_list-gave : (d : Data) (l : List Data) → as_list d ≡ Some l → d ≡ list_data l
as_list-gave null l e = cc
as_list-gave (boolean c) l e = cc
as_list-gave (number n) l e = cc
as_list-gave (string s) l e = cc
as_list-gave (array ds) l e = let p : list_of ds ≡ l = cc in ap array (sym (items_of-list_of ds) ∙ ap items_of p)
as_list-gave (object ms) l e = cc

pub as_list-of : (l : List Data) → as_list (list_data l) ≡ Some l
as_list-of l = ap Some (list_of-items_of l)

pub as_object-gave : (d : Data) (ms : Members) → as_object d ≡ Some ms → d ≡ object ms
as_object-gave null ms e = cc
as_object-gave (boolean c) ms e = cc
as_object-gave (number n) ms e = cc
as_object-gave (string s) ms e = cc
as_object-gave (array ds) ms e = cc
as_object-gave (object ns) ms e = let p : ns ≡ ms = cc in ap object p

pub ends-gave : (ms : Members) → ends ms ≡ true → ms ≡ no_members
ends-gave no_members e = refl
ends-gave (member k d ms) e = absurd (false≢true e)

-- ---- members

expected-gave : (key : List ℕ) (ms rest : Members) (d : Data) → expected key ms ≡ Some (d, rest) → ms ≡ member key d rest
expected-gave key no_members rest d e = cc
expected-gave key (member k x ms) rest d e =
    let t = test_passed (bytes_eq k key) (x, ms) (d, rest) e in
    let same : k ≡ key = (bytes_eq-Decides k key).0 t.0 in
    rw (same, ap (λ p. p.0) t.1, ap (λ p. p.1) t.1) refl

some_same : {A : Type 0} (p q : A) → Some p ≡ Some q → p ≡ q
some_same p q e = cc

pub taken-gave : {A : Type 0} (f : Data → Option A) (key : List ℕ) (ms rest : Members) (a : A) → taken f key ms ≡ Some (a, rest) → (d : Data) × (ms ≡ member key d rest) × (f d ≡ Some a)
unfolding taken
taken-gave {A} f key ms rest a e =
    let s = step_gave (expected key ms) _ (a, rest) e in
    let t = step_gave (f s.0.0) _ (a, rest) s.2 in
    let p = some_same {A = A × Members} (t.0, s.0.1) (a, rest) t.2 in
    let found : f s.0.0 ≡ Some a = t.1 ∙ ap Some (ap (λ q. q.0) p) in
    (s.0.0, expected-gave key ms s.0.1 s.0.0 s.1 ∙ ap (member key s.0.0) (ap (λ q. q.1) p), found)

pub with_taken : {A B P : Type 0} (f : Data → Option A) (g : A → Data) (gave : (d : Data) (a : A) → f d ≡ Some a → d ≡ g a) (key : List ℕ) (ms : Members) (k : A × Members → Option B) (r : B)
    → option_and_then k (taken f key ms) ≡ Some r → ((a : A) (rest : Members) → ms ≡ member key (g a) rest → k (a, rest) ≡ Some r → P) → P
with_taken f g gave key ms k r e go =
    with_step (taken f key ms) k r e (λ p is e1.
    let t = taken-gave f key ms p.1 p.0 is in
    go p.0 p.1 (t.1 ∙ ap (λ d. member key d p.1) (gave t.0 p.0 t.2)) e1)

pub taken-of : {A : Type 0} (f : Data → Option A) (key : List ℕ) (d : Data) (rest : Members) (a : A) → f d ≡ Some a → taken f key (member key d rest) ≡ Some (a, rest)
unfolding taken
taken-of f key d rest a e = rw ((bytes_eq-Decides key key).1 refl, e) refl

-- ---- lists

pub each-of : {A B : Type 0} (f : A → Option B) (g : B → A) (inverse : (b : B) → f (g b) ≡ Some b) (bs : List B) → each f (map g bs) ≡ Some bs
each-of f g inverse [] = refl
each-of f g inverse (b ∷ bs) = rw (inverse b, each-of f g inverse bs) refl

cons_gave : {A B : Type 0} (g : B → A) (a : A) (b : B) (as' : List A) (ys bs : List B) → a ≡ g b → as' ≡ map g ys → b ∷ ys ≡ bs → a ∷ as' ≡ map g bs
cons_gave g a b as' ys bs e f h = rw (e, f) (ap (map g) h)

pub each-gave : {A B : Type 0} (f : A → Option B) (g : B → A) (gave : (a : A) (b : B) → f a ≡ Some b → a ≡ g b) (as' : List A) (bs : List B) → each f as' ≡ Some bs → as' ≡ map g bs
each-gave f g gave [] bs e = let p : [] ≡ bs = cc in ap (map g) p
each-gave f g gave (a ∷ as') bs e =
    let s = step_gave (f a) _ bs e in
    let t = map_gave (each f as') (λ ys. s.0 ∷ ys) bs s.2 in
    cons_gave g a s.0 as' t.0 bs (gave a s.0 s.1) (each-gave f g gave as' t.0 t.1) t.2

-- ---- statuses

pub status_of-of : (s : Status) → status_of (status_data s) ≡ Some s
unfolding status_of
status_of-of Disabled = refl
status_of-of Skip = refl
status_of-of Yield = refl
status_of-of Pending = refl
status_of-of Active = refl
status_of-of Visited = refl

named_gave : (t : List ℕ) (u : List ℕ) (b : Bool) (x s : Status) (other : Option Status) → bytes_eq t u ≡ b → (if b then Some x else other) ≡ Some s
    → ((t ≡ u) × (x ≡ s)) ⊎ (other ≡ Some s)
named_gave t u true x s other e h = let p : x ≡ s = cc in inl ((bytes_eq-Decides t u).0 e, p)
named_gave t u false x s other e h = inr h

status_named-gave : (t : List ℕ) (s : Status) → status_named t ≡ Some s → t ≡ status_text s
status_named-gave t s e =
    elim (named_gave t (codes "Disabled") _ Disabled s _ refl e) [
      | inl p ↦ p.0 ∙ ap status_text p.1
      | inr e1 ↦
          elim (named_gave t (codes "Skip") _ Skip s _ refl e1) [
            | inl p ↦ p.0 ∙ ap status_text p.1
            | inr e2 ↦
                elim (named_gave t (codes "Yield") _ Yield s _ refl e2) [
                  | inl p ↦ p.0 ∙ ap status_text p.1
                  | inr e3 ↦
                      elim (named_gave t (codes "Pending") _ Pending s _ refl e3) [
                        | inl p ↦ p.0 ∙ ap status_text p.1
                        | inr e4 ↦
                            elim (named_gave t (codes "Active") _ Active s _ refl e4) [
                              | inl p ↦ p.0 ∙ ap status_text p.1
                              | inr e5 ↦
                                  elim (named_gave t (codes "Visited") _ Visited s _ refl e5) [ inl p ↦ p.0 ∙ ap status_text p.1 | inr e6 ↦ cc ]
                            ]
                      ]
                ]
          ]
    ]

pub status_of-gave : (d : Data) (s : Status) → status_of d ≡ Some s → d ≡ status_data s
unfolding status_of
status_of-gave null s e = cc
status_of-gave (boolean c) s e = cc
status_of-gave (number n) s e = cc
status_of-gave (string t) s e = ap string (status_named-gave t s e)
status_of-gave (array ds) s e = cc
status_of-gave (object ms) s e = cc

guarded : {A : Type 0} (b : Bool) (o : Option A) (r : A) → (if b then o else None) ≡ Some r → o ≡ Some r
guarded true o r e = e
guarded false o r e = cc

pub statuses_of-of : (ss : List Status) → length ss ≡ 5 → statuses_of (map status_data ss) ≡ Some ss
unfolding statuses_of
statuses_of-of ss five = rw (length-map, five) (each-of status_of status_data status_of-of ss)

pub statuses_of-gave : (ds : List Data) (ss : List Status) → statuses_of ds ≡ Some ss → ds ≡ map status_data ss
unfolding statuses_of
statuses_of-gave ds ss e = each-gave status_of status_data status_of-gave ds ss (guarded (eqb (length ds) 5) _ ss e)

-- ---- slots

begins_with-same : (slot : ℕ) (ds : List Data) → begins_with slot (whole slot ∷ ds) ≡ true
begins_with-same slot ds = eq-eqb slot slot refl

begins_with-later : (bs : List Bool) (slot start : ℕ) → slot < start → begins_with slot (map whole (slots_from start bs)) ≡ false
begins_with-later [] slot start h = refl
begins_with-later (true ∷ bs) slot start h = search (arith, tests)
begins_with-later (false ∷ bs) slot start h = begins_with-later bs slot (suc start) (omega arith)

pub marks_of-of : (bs : List Bool) (start : ℕ) → marks_of (length bs) start (map whole (slots_from start bs)) ≡ Some bs
unfolding marks_of
marks_of-of [] start = refl
marks_of-of (true ∷ bs) start = rw (begins_with-same start (map whole (slots_from (suc start) bs)), marks_of-of bs (suc start)) refl
marks_of-of (false ∷ bs) start = rw (begins_with-later bs start (suc start) (omega arith), marks_of-of bs (suc start)) refl

number_gave : (slot : ℕ) (d : Data) (o : Option ℕ) → as_whole d ≡ o → is_number slot o ≡ true → d ≡ whole slot
number_gave slot d None e h = absurd (false≢true h)
number_gave slot d (Some m) e h = as_whole-gave d slot (e ∙ ap Some (eqb-true m slot h))

begins_gave : (slot : ℕ) (ds : List Data) → begins_with slot ds ≡ true → ds ≡ whole slot ∷ rest_of ds
begins_gave slot [] e = absurd (false≢true e)
begins_gave slot (d ∷ ds) e = ap (λ x. x ∷ ds) (number_gave slot d (as_whole d) refl e)

marks_of-branch : (b : Bool) (x y : Option (List Bool)) (bs : List Bool) → (if b then x else y) ≡ Some bs → ((b ≡ true) × (x ≡ Some bs)) ⊎ ((b ≡ false) × (y ≡ Some bs))
marks_of-branch true x y bs e = inl (refl, e)
marks_of-branch false x y bs e = inr (refl, e)

pub marks_of-gave : (count start : ℕ) (ds : List Data) (bs : List Bool) → marks_of count start ds ≡ Some bs → (ds ≡ map whole (slots_from start bs)) × (length bs ≡ count)
unfolding marks_of
marks_of-gave zero start [] bs e = let p : [] ≡ bs = cc in rw (← p) (refl, refl)
marks_of-gave zero start (d ∷ ds) bs e = cc
marks_of-gave (suc count) start ds bs e =
    elim (marks_of-branch (begins_with start ds) _ _ bs e) [
      | inl h ↦ let t = map_gave (marks_of count (suc start) (rest_of ds)) (λ l. true ∷ l) bs h.1 in
          let later = marks_of-gave count (suc start) (rest_of ds) t.0 t.1 in
          (begins_gave start ds h.0 ∙ ap (λ l. whole start ∷ l) later.0 ∙ ap (λ l. map whole (slots_from start l)) t.2, sym (ap length t.2) ∙ ap suc later.1)
      | inr h ↦ let t = map_gave (marks_of count (suc start) ds) (λ l. false ∷ l) bs h.1 in
          let later = marks_of-gave count (suc start) ds t.0 t.1 in
          (later.0 ∙ ap (λ l. map whole (slots_from start l)) t.2, sym (ap length t.2) ∙ ap suc later.1)
    ]
