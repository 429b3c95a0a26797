-- A count of different runs: what it has where one more is noted, and what it tells of the runs.
use Rattle.std.proofs.Common.{◌≡◌, ◌≤◌, ◌∙◌, ◌⊎◌, ◌+◌, ℕ, zero, suc, inl, inr, Bool, true, false, cond, List, [], ◌∷◌, length, take, drop, refl, sym, ap, subst, IsTrue, nat_eq, arith}
use Rattle.std.specs.Prelude.{◌||◌, map, slice_get, Some}
use Rattle.std.specs.List.{AllByRecursion, IsDistinct, list_any}
use Rattle.std.specs.HashSet as bag
use Rattle.std.specs.HashSet.{HashSet}
use Rattle.std.proofs.lemmas.Cmp.{nat_eq_equiv}
use Rattle.std.proofs.lemmas.List.{at_drop_all}
use Rattle.std.proofs.lemmas.Map.Views.{exact_unsigned_eq}
use Rattle.loom_objects.specs.declared.choice.Choice.{Choice}
use Rattle.loom_engine.specs.Path.Route.{Route, chosen, stored}
use Rattle.loom_engine.specs.Walk.Lists.{Each, IsOnce, Member}
use Rattle.loom_engine.specs.Walk.Path.{Stored, choices}
use Rattle.loom.specs.Model.Different.{Adds, AllDifferentLaw, AreDifferent, Counted, Has, HasHash, IsCount, Notes, Tells, hash_from, hash_of, step}

-- ---- a hash along a path

along : (xs : List Choice) (place : ℕ) (x : Choice) (hash : ℕ) → slice_get xs place ≡ Some x → hash_from (step hash x) (drop (place + 1) xs) ≡ hash_from hash (drop place xs)
along [] place x hash e = absurd (cc e)
along (y ∷ xs) zero x hash e =
    let one : zero + 1 ≡ suc zero = omega arith in
    let same : x ≡ y = cc e in
    ap (λ (k : ℕ). hash_from (step hash x) (drop k (y ∷ xs))) one ∙ ap (λ (z : Choice). hash_from (step hash z) xs) same
along (y ∷ xs) (suc place) x hash e =
    let next : suc place + 1 ≡ suc (place + 1) = omega arith in
    ap (λ (k : ℕ). hash_from (step hash x) (drop k (y ∷ xs))) next ∙ along xs place x hash e

-- the hash of the choices up to a place takes in the next one
pub along_more : (xs : List Choice) (place : ℕ) (x : Choice) (hash next all : ℕ) → slice_get xs place ≡ Some x → next ≡ step hash x → hash_from hash (drop place xs) ≡ all → hash_from next (drop (place + 1) xs) ≡ all
along_more xs place x hash next all e is h = ap (λ (n : ℕ). hash_from n (drop (place + 1) xs)) is ∙ along xs place x hash e ∙ h

-- and at the end it is that of all
pub along_all : (xs : List Choice) (place hash all : ℕ) → length xs ≤ place → hash_from hash (drop place xs) ≡ all → hash ≡ all
along_all xs place hash all past h = sym (at_drop_all (hash_from hash) xs place past) ∙ h

first_choices : (n : ℕ) (nodes : List Stored) → length (choices (take n nodes)) ≤ n
first_choices zero nodes = omega arith
first_choices (suc n) [] = omega arith
first_choices (suc n) (x ∷ nodes) = let rest : length (choices (take n nodes)) ≤ n = first_choices n nodes in omega arith

-- a run has made no more choices than it has passed nodes
pub no_more_chosen : (route : Route) → length (chosen route) ≤ route.position
no_more_chosen route = first_choices route.position (stored route.nodes)

-- ---- one more

-- where the number is left out nothing is said
pub unsaid : (hash : ℕ) (old new : Counted) → new.is_left_out ≡ true → Notes hash old new
unsaid hash old new is = record { still = λ e. absurd (cc (is, e)); noted = λ e. absurd (cc (is, e)) }

either : (here there : Bool) → IsTrue (cond here true there) → (here ≡ true) ⊎ IsTrue there
either true there is = inl refl
either false there is = inr is

in_place : (here there : Bool) → here ≡ true → IsTrue (cond here true there)
in_place true there is = refl
in_place false there is = cc is

behind : (here there : Bool) → IsTrue there → IsTrue (cond here true there)
behind true there is = refl
behind false there is = is

-- the set has taken the hash in
pub noted_by : {S : Type 0} (old new : HashSet ℕ S) (hash : ℕ) (is_left_out : Bool) → bag.Updates nat_eq old new hash true
    → Notes hash (record { hashes = old.keys; is_left_out = is_left_out }) (record { hashes = new.keys; is_left_out = is_left_out })
noted_by old new hash is_left_out updates = record {
  still = λ told. told;
  noted = λ told h. (
    λ has. (elim (either (nat_eq hash h) (bag.contains nat_eq old h) (subst IsTrue (updates.0 h) has)) [
      | inl same ↦ inl (sym (exact_unsigned_eq hash h same))
      | inr had ↦ inr had
    ]),
    λ came. (elim came [
      | inl same ↦ subst IsTrue (sym (updates.0 h)) (in_place (nat_eq hash h) (bag.contains nat_eq old h) (subst (λ (k : ℕ). nat_eq hash k ≡ true) (sym same) (nat_eq_equiv.refl hash)))
      | inr had ↦ subst IsTrue (sym (updates.0 h)) (behind (nat_eq hash h) (bag.contains nat_eq old h) had)
    ]),
  );
}

-- ---- the runs

pub tells_none : (d : Counted) → d.hashes ≡ [] → Tells d []
tells_none d none told h = (λ has. absurd (cc (subst (λ (hashes : List ℕ). Has hashes h) none has)), λ has. absurd has.1)

pub tells_more : (d new : Counted) (x : List Choice) (lists : List (List Choice)) → Tells d lists → Notes (hash_of x) d new → Tells new (x ∷ lists)
tells_more d new x lists tells notes told h = (
  λ has. (elim ((notes.noted told h).0 has) [
    | inl is ↦ (x, inl refl, sym is)
    | inr had ↦ (let c = (tells (notes.still told) h).0 had in (c.0, inr c.1, c.2))
  ]),
  λ has. (elim has.1 [
    | inl same ↦ (notes.noted told h).1 (inl (sym has.2 ∙ ap hash_of same))
    | inr member ↦ (notes.noted told h).1 (inr ((tells (notes.still told) h).1 (has.0, member, has.2)))
  ]),
)

-- ---- different ones

here : (h : ℕ) (hashes : List ℕ) → Has (h ∷ hashes) h
here h hashes = subst (λ (b : Bool). IsTrue (b || list_any (nat_eq h) hashes)) (sym (nat_eq_equiv.refl h)) refl

later : (b : Bool) (there : Bool) → IsTrue there → IsTrue (b || there)
later true there is = refl
later false there is = is

here_or_later : (b : Bool) (there : Bool) → IsTrue (b || there) → (b ≡ true) ⊎ IsTrue there
here_or_later true there is = inl refl
here_or_later false there is = inr is

-- ---- another count's

-- these of the other's hashes are still to be noted
pub record IsJoining (other old d : Counted) (rest : List ℕ) : Type 0 where
  pub still : d.is_left_out ≡ false → old.is_left_out ≡ false
  pub known : d.is_left_out ≡ false → (h : ℕ) → Has d.hashes h → Has other.hashes h ⊎ Has old.hashes h
  pub among : (h : ℕ) → Has rest h → Has other.hashes h
  pub kept : d.is_left_out ≡ false → (h : ℕ) → Has old.hashes h → Has d.hashes h
  pub come : d.is_left_out ≡ false → (h : ℕ) → Has other.hashes h → Has d.hashes h ⊎ Has rest h

pub joining_start : (other old : Counted) → IsJoining other old old other.hashes
joining_start other old = record { still = λ told. told; known = λ told h has. inr has; among = λ h has. has; kept = λ told h has. has; come = λ told h has. inr has }

-- one more is noted
pub joining_on : (other old d new : Counted) (hash : ℕ) (rest : List ℕ) → IsJoining other old d (hash ∷ rest) → Notes hash d new → IsJoining other old new rest
joining_on other old d new hash rest z notes = record {
  still = λ told. z.still (notes.still told);
  known = λ told h has. (elim ((notes.noted told h).0 has) [
    | inl is ↦ inl (z.among h (subst (λ (k : ℕ). Has (hash ∷ rest) k) (sym is) (here hash rest)))
    | inr had ↦ z.known (notes.still told) h had
  ]);
  among = λ h has. z.among h (later (nat_eq h hash) (list_any (nat_eq h) rest) has);
  kept = λ told h has. (notes.noted told h).1 (inr (z.kept (notes.still told) h has));
  come = λ told h has. (elim (z.come (notes.still told) h has) [
    | inl had ↦ inl ((notes.noted told h).1 (inr had))
    | inr left ↦ (elim (here_or_later (nat_eq h hash) (list_any (nat_eq h) rest) left) [
      | inl is ↦ inl ((notes.noted told h).1 (inl (exact_unsigned_eq h hash is)))
      | inr more ↦ inr more
    ])
  ]);
}

-- all are
pub joining_end : (other old new : Counted) → IsJoining other old new [] → other.is_left_out ≡ false → Adds other old new
joining_end other old new z whole = record {
  still = λ told. (z.still told, whole);
  added = λ told h. (
    z.known told h,
    λ has. (elim has [
      | inl its ↦ (elim (z.come told h its) [
        | inl is ↦ is
        | inr none ↦ absurd (cc none)
      ])
      | inr was ↦ z.kept told h was
    ]),
  );
}

-- where the number is left out nothing is said
pub adds_unsaid : (other old new : Counted) → new.is_left_out ≡ true → Adds other old new
adds_unsaid other old new is = record { still = λ e. absurd (cc (is, e)); added = λ e. absurd (cc (is, e)) }

-- ---- picked

-- a list for each hash
pub record Picked (hashes : List ℕ) (lists : List (List Choice)) : Type 0 where
  pub some : List (List Choice)
  pub by : map hash_of some ≡ hashes
  pub among : Each (λ x. Member x lists) some

pick : (hashes : List ℕ) (lists : List (List Choice)) → ((h : ℕ) → Has hashes h → HasHash h lists) → Picked hashes lists
pick [] lists all = record { some = []; by = refl; among = tt }
pick (h ∷ hashes) lists all =
    let first = all h (here h hashes) in
    let rest = pick hashes lists (λ k has. all k (later (nat_eq k h) (list_any (nat_eq k) hashes) has)) in
    record { some = first.0 ∷ rest.some; by = ap (λ (k : ℕ). k ∷ map hash_of rest.some) first.2 ∙ ap (λ (ks : List ℕ). h ∷ ks) rest.by; among = (first.1, rest.among) }

-- a list among others has a hash among theirs
not_among : (h : ℕ) (x : List Choice) (some : List (List Choice)) → h ≡ hash_of x → AllByRecursion (λ k. nat_eq h k ≡ false) (map hash_of some) → Member x some → ⊥
not_among h x [] is all member = member
not_among h x (y ∷ some) is all (inl same) = cc (sym all.0 ∙ ap (nat_eq h) (sym (is ∙ ap hash_of same)) ∙ nat_eq_equiv.refl h)
not_among h x (y ∷ some) is all (inr member) = not_among h x some is all.1 member

once_by : (some : List (List Choice)) → IsDistinct nat_eq (map hash_of some) → IsOnce some
unfolding IsDistinct
once_by [] distinct = tt
once_by (x ∷ some) distinct = (not_among (hash_of x) x some refl distinct.0, once_by some distinct.1)

length_map : (some : List (List Choice)) → length (map hash_of some) ≡ length some
length_map [] = refl
length_map (x ∷ some) = ap suc (length_map some)

-- a hash among theirs is that of one of them
one_has : (h : ℕ) (some : List (List Choice)) → Has (map hash_of some) h → HasHash h some
one_has h [] has = absurd (cc has)
one_has h (x ∷ some) has = elim (here_or_later (nat_eq h (hash_of x)) (list_any (nat_eq h) (map hash_of some)) has) [
  | inl is ↦ (x, inl refl, sym (exact_unsigned_eq h (hash_of x) is))
  | inr is ↦ (let c = one_has h some is in (c.0, inr c.1, c.2))
]

each_of : (P : List Choice → Type 0) (lists : List (List Choice)) → ((x : List Choice) → Member x lists → P x) → Each P lists
each_of P [] h = tt
each_of P (x ∷ lists) h = (h x (inl refl), each_of P lists (λ y member. h y (inr member)))

each_at : (P : List Choice → Type 0) (lists : List (List Choice)) (x : List Choice) → Each P lists → Member x lists → P x
each_at P [] x each member = absurd member
each_at P (y ∷ lists) x each (inl same) = subst P (sym same) each.0
each_at P (y ∷ lists) x each (inr member) = each_at P lists x each.1 member

pub are_different : (d : Counted) (lists : List (List Choice)) (count : ℕ) → Tells d lists → IsCount d count → AreDifferent count lists
are_different d lists count tells is =
    let picked = pick d.hashes lists (λ h. (tells is.all h).0) in
    record {
      some = picked.some;
      counted = sym (length_map picked.some) ∙ ap length picked.by ∙ sym is.counted;
      once = once_by picked.some (subst (IsDistinct nat_eq) (sym picked.by) is.once);
      among = picked.among;
      hashed = each_of (λ x. HasHash (hash_of x) picked.some) lists
          (λ x member. one_has (hash_of x) picked.some (subst (λ (hashes : List ℕ). Has hashes (hash_of x)) (sym picked.by) ((tells is.all (hash_of x)).1 (x, member, refl))));
    }

pub all_different_law : AllDifferentLaw
all_different_law count lists told apart = each_of (λ x. Member x told.some) lists (λ x member.
    let y = each_at (λ z. HasHash (hash_of z) told.some) lists x told.hashed member in
    subst (λ (z : List Choice). Member z told.some) (apart y.0 x (each_at (λ z. Member z lists) told.some y.0 told.among y.1) member y.2) y.1)
