-- The slots that may be read, as a list, and loads as a walk sees them.
use Rattle.std.proofs.Common.{◌≡◌, ◌<◌, ◌≤◌, ℕ, zero, suc, ◌+◌, Bool, true, false, List, [], ◌∷◌, length, map, take, slice_index, count_by, Some, None, refl, ap, ap₂, sym, ◌∙◌, subst, inl, inr, arith}
use Rattle.std.specs.Prelude.{slice_get, slice_index_or, IsTrue, ◌↔◌}
use Rattle.std.proofs.Math.Bool.{beq}
use lib.Pointwise.{pointwise}
use Rattle.std.specs.List.{Contains}
use Rattle.std.proofs.lemmas.Grind.{common_steps}
use Rattle.loom_objects.specs.declared.choice.Choice.{Choice}
use Rattle.loom_objects.specs.declared.choice.Choice.TheVariants.{Load}
use Rattle.loom_objects.specs.Tree.Question.{Made, Among, made_of}
use Rattle.loom_engine.specs.Walk.Path.{fresh, advance}
use Rattle.loom_engine.specs.Trees.Drive.{new_node}
use Rattle.loom_engine.specs.Path.Nodes.{in_turn}
use Rattle.loom_objects.specs.Tree.Stores.{slots_from, slots, asked_store}
use Rattle.loom_engine.proofs.Nodes.Nodes.Turns.{Distinct, get_among, turn_fresh, turn_given, not_given, turn_next, turn_last, turn_stays}

-- ---- the list

pub slots_counted : (readable : List Bool) (k : ℕ) → length (slots_from k readable) ≡ count_by (λ b. b) readable
slots_counted [] k = refl
slots_counted (true ∷ readable) k = grind (arith, common_steps, slots_counted readable (suc k))
slots_counted (false ∷ readable) k = grind (arith, common_steps, slots_counted readable (suc k))

some_from : (readable : List Bool) (k j : ℕ) → j < length readable → slice_index_or readable j true ≡ true → 0 < length (slots_from k readable)
some_from [] k j h e = absurd (omega arith)
some_from (true ∷ readable) k j h e = omega arith
some_from (false ∷ readable) k zero h e = absurd (cc e)
some_from (false ∷ readable) k (suc j) h e = some_from readable (suc k) j (omega arith) e

-- where some slot may be read there is a slot
pub some_slot : (readable : List Bool) → Contains readable true → 0 < length (slots readable)
some_slot readable h = some_from readable 0 h.0 h.1 h.2

-- the first slot from k on isn't below k
first_from : (readable : List Bool) (k x : ℕ) (rest : List ℕ) → x ∷ rest ≡ slots_from k readable → k ≤ x
first_from [] k x rest h = absurd (cc h)
first_from (true ∷ readable) k x rest h = (let e : x ≡ k = cc h in omega arith)
first_from (false ∷ readable) k x rest h = omega (arith, first_from readable (suc k) x rest h)

tail_of : {A : Type 0} (x y : A) (xs ys : List A) → x ∷ xs ≡ y ∷ ys → xs ≡ ys
tail_of x y xs ys e = cc e

-- the slots say which may be read
pub same_slots : (k : ℕ) (a b : List Bool) → length a ≡ length b → slots_from k a ≡ slots_from k b → a ≡ b
same_slots k [] [] h e = refl
same_slots k [] (y ∷ b) h e = absurd (omega arith)
same_slots k (x ∷ a) [] h e = absurd (omega arith)
same_slots k (true ∷ a) (true ∷ b) h e = ap (λ l. true ∷ l) (same_slots (suc k) a b (omega arith) (tail_of k k (slots_from (suc k) a) (slots_from (suc k) b) e))
same_slots k (true ∷ a) (false ∷ b) h e = absurd (omega (arith, first_from b (suc k) k (slots_from (suc k) a) e))
same_slots k (false ∷ a) (true ∷ b) h e = absurd (omega (arith, first_from a (suc k) k (slots_from (suc k) b) (sym e)))
same_slots k (false ∷ a) (false ∷ b) h e = ap (λ l. false ∷ l) (same_slots (suc k) a b (omega arith) e)

same_all : (a b : List Bool) → pointwise beq a b ≡ true → a ≡ b
same_all [] [] h = refl
same_all [] (y ∷ b) h = absurd (cc h)
same_all (x ∷ a) [] h = absurd (cc h)
same_all (true ∷ a) (true ∷ b) h = ap (λ l. true ∷ l) (same_all a b h)
same_all (true ∷ a) (false ∷ b) h = absurd (cc h)
same_all (false ∷ a) (true ∷ b) h = absurd (cc h)
same_all (false ∷ a) (false ∷ b) h = ap (λ l. false ∷ l) (same_all a b h)

all_same : (a : List Bool) → pointwise beq a a ≡ true
all_same [] = refl
all_same (true ∷ a) = all_same a
all_same (false ∷ a) = all_same a

-- the test whether the same slots may be read
pub same_flags : (a b : List Bool) (are : Bool) → are ≡ pointwise beq a b → IsTrue are ↔ (a ≡ b)
same_flags a b are e = (λ t. same_all a b (sym e ∙ true_of are t), λ f. subst IsTrue (sym (e ∙ ap (pointwise beq a) (sym f) ∙ all_same a)) refl)
  where
    true_of : (t : Bool) → IsTrue t → t ≡ true
    true_of true h = refl
    true_of false h = absurd (cc h)

-- ---- one slot

-- the place of a slot is the count of those below it
place_from : (readable : List Bool) (k j : ℕ) → slice_get readable j ≡ Some true → slice_get (slots_from k readable) (length (slots_from k (take j readable))) ≡ Some (k + j)
place_from [] k j h = absurd (cc h)
place_from (true ∷ readable) k zero h = ap Some (omega arith)
place_from (false ∷ readable) k zero h = absurd (cc h)
place_from (true ∷ readable) k (suc j) h = (let e : suc k + j ≡ k + suc j = omega arith in place_from readable (suc k) j h ∙ ap Some e)
place_from (false ∷ readable) k (suc j) h = (let e : suc k + j ≡ k + suc j = omega arith in place_from readable (suc k) j h ∙ ap Some e)

pub slot_place : (readable : List Bool) (j : ℕ) → slice_get readable j ≡ Some true → slice_get (slots readable) (length (slots (take j readable))) ≡ Some j
slot_place readable j h = place_from readable 0 j h ∙ ap Some (omega arith)

pub get_slot : (xs : List ℕ) (p x : ℕ) → slice_get xs p ≡ Some x → (p < length xs) × (slice_index xs p ≡ x)
get_slot [] p x h = absurd (cc h)
get_slot (y ∷ xs) zero x h = (omega arith, cc h)
get_slot (y ∷ xs) (suc p) x h = (let r = get_slot xs p x h in (omega (arith, r.0), r.1))

-- ---- as choices

loads : List ℕ → List Choice
loads xs = map (λ slot. Load slot) xs

among_from : (readable : List Bool) (k : ℕ) (o : Choice) → Among o (loads (slots_from k readable)) → (j : ℕ) × (o ≡ Load (k + j)) × (slice_get readable j ≡ Some true)
unfolding loads
among_from [] k o h = absurd h
among_from (true ∷ readable) k o (inl e) = (let f : k ≡ k + 0 = omega arith in (0, e ∙ ap (λ n. Load n) f, refl))
among_from (true ∷ readable) k o (inr h) = (let r = among_from readable (suc k) o h in let f : suc k + r.0 ≡ k + suc r.0 = omega arith in (suc r.0, r.1 ∙ ap (λ n. Load n) f, r.2))
among_from (false ∷ readable) k o h = (let r = among_from readable (suc k) o h in let f : suc k + r.0 ≡ k + suc r.0 = omega arith in (suc r.0, r.1 ∙ ap (λ n. Load n) f, r.2))

distinct_from : (readable : List Bool) (k : ℕ) → Distinct (loads (slots_from k readable))
unfolding loads Distinct
distinct_from [] k = tt
distinct_from (true ∷ readable) k = ((λ a. let r = among_from readable (suc k) (Load k) a in let e : k ≡ suc k + r.0 = cc (r.1) in omega arith), distinct_from readable (suc k))
distinct_from (false ∷ readable) k = distinct_from readable (suc k)

get_load : (xs : List ℕ) (p : ℕ) → p < length xs → slice_get (loads xs) p ≡ Some (Load (slice_index xs p))
unfolding loads
get_load [] p h = absurd (omega arith)
get_load (x ∷ xs) zero h = refl
get_load (x ∷ xs) (suc p) h = get_load xs p (omega arith)

get_past : (xs : List ℕ) (p : ℕ) → length xs ≤ p → slice_get (loads xs) p ≡ None
unfolding loads
get_past [] p h = refl
get_past (x ∷ xs) zero h = absurd (omega arith)
get_past (x ∷ xs) (suc p) h = get_past xs p (omega arith)

slot_among : (xs : List ℕ) (p x : ℕ) → slice_get xs p ≡ Some x → Among (Load x) (loads xs)
unfolding loads
slot_among [] p x h = absurd (cc h)
slot_among (y ∷ xs) zero x h = (let e : y ≡ x = cc h in inl (ap (λ n. Load n) (sym e)))
slot_among (y ∷ xs) (suc p) x h = inr (slot_among xs p x h)

loads_are : (xs ys : List ℕ) → loads xs ≡ loads ys → xs ≡ ys
unfolding loads
loads_are [] [] e = refl
loads_are [] (y ∷ ys) e = absurd (cc e)
loads_are (x ∷ xs) [] e = absurd (cc e)
loads_are (x ∷ xs) (y ∷ ys) e =
    let f : Load x ≡ Load y = cc e in
    let g : x ≡ y = cc f in
    ap₂ (λ (z : ℕ) (l : List ℕ). z ∷ l) g (loads_are xs ys (tail_of (Load x) (Load y) (loads xs) (loads ys) e))

-- ---- loads

-- the test whether the run explores in both or in neither
same_flag : (a b : Bool) → beq a b ≡ true → a ≡ b
same_flag true true h = refl
same_flag true false h = absurd (cc h)
same_flag false true h = absurd (cc h)
same_flag false false h = refl

-- a load has its slots for options
asked_loads : (exploring : Bool) (xs : List ℕ) → 0 < length xs → (made_of (asked_store exploring xs)).options ≡ loads xs
unfolding loads
asked_loads exploring [] h = absurd (omega arith)
asked_loads exploring (x ∷ xs) h = refl

module _ (exploring : Bool) where
  asked_explores : (xs : List ℕ) → (made_of (asked_store exploring xs)).exploring ≡ exploring
  asked_explores [] = refl
  asked_explores (x ∷ xs) = refl

  has_loads : (xs : List ℕ) → 0 < length xs → (made_of (asked_store exploring xs)).options ≡ loads xs
  has_loads = asked_loads exploring

  -- a new load stands at its lowest slot
  pub load_fresh : (xs : List ℕ) → 0 < length xs → in_turn (asked_store exploring xs) (Load (slice_index xs 0)) ≡ fresh true (made_of (asked_store exploring xs))
  load_fresh [] h = absurd (omega arith)
  load_fresh (x ∷ xs) h = turn_fresh exploring (Load x) (map (λ slot. Load slot) xs) []

  -- at a slot that was given
  pub load_given : (xs : List ℕ) (p x : ℕ) → slice_get xs p ≡ Some x
      → Some (in_turn (asked_store exploring xs) (Load (slice_index xs p))) ≡ new_node true (made_of (asked_store exploring xs)) (Some (Load x))
  unfolding loads
  load_given [] p x h = absurd (cc h)
  load_given (y ∷ xs) p x h =
      ap (λ (s : ℕ). Some (in_turn (asked_store exploring (y ∷ xs)) (Load s))) (get_slot (y ∷ xs) p x h).1
      ∙ turn_given exploring (Load y) (map (λ slot. Load slot) xs) [] (Load x) refl (slot_among (y ∷ xs) p x h)

  pub load_refused : (readable : List Bool) (o : Choice) → 0 < length (slots readable) → ((j : ℕ) → o ≡ Load j → slice_get readable j ≡ Some true → ⊥)
      → None ≡ new_node true (made_of (asked_store exploring (slots readable))) (Some o)
  load_refused readable o h f =
      not_given (made_of (asked_store exploring (slots readable))) o
      (λ a. let r = among_from readable 0 o (subst (Among o) (has_loads (slots readable) h) a) in let e : 0 + r.0 ≡ r.0 = omega arith in f r.0 (r.1 ∙ ap (λ n. Load n) e) r.2)

  -- the next slot
  pub load_next : (readable : List Bool) (p : ℕ) → exploring ≡ true → p + 1 < length (slots readable)
      → advance (in_turn (asked_store exploring (slots readable)) (Load (slice_index (slots readable) p)))
      ≡ Some (in_turn (asked_store exploring (slots readable)) (Load (slice_index (slots readable) (p + 1))))
  load_next readable p e h =
      let xs = slots readable in
      let n : Made = made_of (asked_store exploring xs) in
      let options : n.options ≡ loads xs = has_loads xs (omega arith) in
      let next : suc p ≡ p + 1 = omega arith in
      turn_next n p (Load (slice_index xs p)) (subst Distinct (sym options) (distinct_from readable 0)) (ap (λ l. slice_get l p) options ∙ get_load xs p (omega arith))
      (Load (slice_index xs (p + 1))) (asked_explores xs ∙ e) (ap₂ (λ (l : List Choice) (i : ℕ). slice_get l i) options next ∙ get_load xs (p + 1) h)

  -- no slot is next
  pub load_last : (readable : List Bool) (p : ℕ) → p < length (slots readable) → length (slots readable) ≤ p + 1
      → advance (in_turn (asked_store exploring (slots readable)) (Load (slice_index (slots readable) p))) ≡ None
  load_last readable p h g =
      let xs = slots readable in
      let n : Made = made_of (asked_store exploring xs) in
      let options : n.options ≡ loads xs = has_loads xs (omega arith) in
      turn_last n p (Load (slice_index xs p)) (subst Distinct (sym options) (distinct_from readable 0)) (ap (λ l. slice_get l p) options ∙ get_load xs p h)
      (ap (λ l. slice_get l (suc p)) options ∙ get_past xs (suc p) (omega arith))

  -- nor where the run doesn't explore
  pub load_stays : (readable : List Bool) (p : ℕ) → exploring ≡ false → advance (in_turn (asked_store exploring (slots readable)) (Load (slice_index (slots readable) p))) ≡ None
  load_stays readable p e =
      turn_stays (in_turn (asked_store exploring (slots readable)) (Load (slice_index (slots readable) p))) (asked_explores (slots readable) ∙ e)

  -- the load is the one that is asked for, if the same slots may be read
  pub load_meets : (asked : Bool) (readable other : List Bool) (are : Bool) → beq exploring asked ≡ true → 0 < length (slots readable) → 0 < length (slots other) → length readable ≡ length other
      → IsTrue are ↔ (readable ≡ other) → IsTrue are ↔ (made_of (asked_store exploring (slots readable)) ≡ made_of (asked_store asked (slots other)))
  load_meets asked readable other are e some others size test = (
    λ t. ap₂ (λ (b : Bool) (l : List Bool). made_of (asked_store b (slots l))) (same_flag exploring asked e) (test.0 t),
    λ f. test.1 (same_slots 0 readable other size (loads_are (slots readable) (slots other)
        (sym (has_loads (slots readable) some) ∙ ap (λ (n : Made). n.options) f ∙ asked_loads asked (slots other) others))),
  )

  -- the slot that the load reads may be read
  pub load_readable : (asked : Bool) (mine readable : List Bool) (p x : ℕ) → p < length (slots mine) → 0 < length (slots readable) → Load x ≡ Load (slice_index (slots mine) p)
      → made_of (asked_store exploring (slots mine)) ≡ made_of (asked_store asked (slots readable)) → slice_get readable x ≡ Some true
  load_readable asked mine readable p x h some e same =
      let there : slice_get (loads (slots mine)) p ≡ Some (Load x) = get_load (slots mine) p h ∙ ap Some (sym e) in
      let options : loads (slots mine) ≡ loads (slots readable) =
      sym (has_loads (slots mine) (omega arith)) ∙ ap (λ (n : Made). n.options) same ∙ asked_loads asked (slots readable) some in
      let r = among_from readable 0 (Load x) (subst (Among (Load x)) options (get_among (loads (slots mine)) p (Load x) there)) in
      let place : r.0 ≡ x = omega (arith, slot_is x (0 + r.0) r.1) in
      ap (slice_get readable) (sym place) ∙ r.2
    where
      slot_is : (x y : ℕ) → Load x ≡ Load y → x ≡ y
      slot_is x y e = cc e
