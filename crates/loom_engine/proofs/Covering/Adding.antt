-- States that are added to a table, which are those of another.
use Rattle.std.proofs.Common.{◌≡◌, ◌<◌, ◌+◌, ◌⊎◌, Bool, ℕ, zero, suc, min, arith, append_assoc, List, [], ◌∷◌, ◌++◌, length, map, take, drop, Option, Some, None, refl, ap, sym, ◌∙◌, subst, inl, inr, length-append, length-take, take-append-drop}
use Rattle.std.specs.List.{Contains}
use Rattle.std.specs.Prelude.{IfSome, SomeIff, slice_get}
use Rattle.loom_objects.specs.declared.choice.Choice.{Choice}
use Rattle.loom_engine.specs.Walk.Driven.{IsOneOf}
use Rattle.loom_engine.specs.Walk.Path.{Stored}
use Rattle.loom_engine.specs.declared.rt.states.State.{State as Kept}
use Rattle.loom_engine.specs.Covering.Kept.{AreKeptAfter, FindsOrNotes, IsKeptOf, Key, Noted, NotesAs, beside}
use Rattle.loom_engine.specs.Covering.Spread.{IsTableOf}
use Rattle.loom_engine.specs.Covering.UnderWay.{HasNode}

-- ---- lists

module _ {X : Type 0} where
  got_front : (xs ys : List X) (k : ℕ) (x : X) → slice_get xs k ≡ Some x → slice_get (xs ++ ys) k ≡ Some x
  got_front [] ys k x e = absurd (cc e)
  got_front (y ∷ xs) ys zero x e = e
  got_front (y ∷ xs) ys (suc k) x e = got_front xs ys k x e

  got_on : (xs ys : List X) (k n : ℕ) (x : X) → n ≡ length xs + k → slice_get ys k ≡ Some x → slice_get (xs ++ ys) n ≡ Some x
  got_on [] ys k n x i e = let s : k ≡ n = omega (arith, i) in subst (λ (m : ℕ). slice_get ys m ≡ Some x) s e
  got_on (y ∷ xs) ys k zero x i e = absurd (omega (arith, i))
  got_on (y ∷ xs) ys k (suc n) x i e = got_on xs ys k n x (omega (arith, i)) e

  got_behind : (xs ys : List X) (k : ℕ) (x : X) → slice_get ys k ≡ Some x → slice_get (xs ++ ys) (length xs + k) ≡ Some x
  got_behind xs ys k x e = got_on xs ys k (length xs + k) x refl e

  on_got : (xs ys : List X) (k n : ℕ) (x : X) → n ≡ length xs + k → slice_get (xs ++ ys) n ≡ Some x → slice_get ys k ≡ Some x
  on_got [] ys k n x i e = let s : n ≡ k = omega (arith, i) in subst (λ (m : ℕ). slice_get ys m ≡ Some x) s e
  on_got (y ∷ xs) ys k zero x i e = absurd (omega (arith, i))
  on_got (y ∷ xs) ys k (suc n) x i e = on_got xs ys k n x (omega (arith, i)) e

  behind_got : (xs ys : List X) (k : ℕ) (x : X) → slice_get (xs ++ ys) (length xs + k) ≡ Some x → slice_get ys k ≡ Some x
  behind_got xs ys k x e = on_got xs ys k (length xs + k) x refl e

  got_either : (xs ys : List X) (k : ℕ) (x : X) → slice_get (xs ++ ys) k ≡ Some x → (slice_get xs k ≡ Some x) ⊎ ((j : ℕ) × (k ≡ length xs + j) × (slice_get ys j ≡ Some x))
  got_either [] ys k x e = inr (k, omega arith, e)
  got_either (y ∷ xs) ys zero x e = inl e
  got_either (y ∷ xs) ys (suc k) x e = by (got_either xs ys k x e)
    where
      by : (slice_get xs k ≡ Some x) ⊎ ((j : ℕ) × (k ≡ length xs + j) × (slice_get ys j ≡ Some x)) → (slice_get (y ∷ xs) (suc k) ≡ Some x) ⊎ ((j : ℕ) × (suc k ≡ length (y ∷ xs) + j) × (slice_get ys j ≡ Some x))
      by (inl h) = inl h
      by (inr (j, i, h)) = inr (j, omega (arith, i), h)

  has_front : (xs ys : List X) (x : X) → Contains xs x → Contains (xs ++ ys) x
  has_front [] ys x (k, l, e) = absurd (omega (arith, l))
  has_front (y ∷ xs) ys x (zero, l, e) = (0, omega arith, e)
  has_front (y ∷ xs) ys x (suc k, l, e) = let z = has_front xs ys x (k, omega (arith, l), e) in (suc z.0, omega (arith, z.1), z.2)

  pub has_behind : (xs ys : List X) (x : X) → Contains ys x → Contains (xs ++ ys) x
  has_behind [] ys x h = h
  has_behind (y ∷ xs) ys x h = let z = has_behind xs ys x h in (suc z.0, omega (arith, z.1), z.2)

  pub has_either : (xs ys : List X) (x : X) → Contains (xs ++ ys) x → Contains xs x ⊎ Contains ys x
  has_either [] ys x h = inr h
  has_either (y ∷ xs) ys x (zero, l, e) = inl (0, omega arith, e)
  has_either (y ∷ xs) ys x (suc k, l, e) = further (has_either xs ys x (k, omega (arith, l), e))
    where
      further : Contains xs x ⊎ Contains ys x → Contains (y ∷ xs) x ⊎ Contains ys x
      further (inl (j, m, f)) = inl (suc j, omega (arith, m), f)
      further (inr h) = inr h

  -- what the first so many of a list are
  got_taken : (xs : List X) (n k : ℕ) → k < n → slice_get (take n xs) k ≡ slice_get xs k
  got_taken xs zero k l = absurd (omega (arith, l))
  got_taken [] (suc n) k l = refl
  got_taken (x ∷ xs) (suc n) zero l = refl
  got_taken (x ∷ xs) (suc n) (suc k) l = got_taken xs n k (omega (arith, l))

  taken_within : (xs : List X) (n k : ℕ) (x : X) → slice_get (take n xs) k ≡ Some x → k < n
  taken_within xs zero k x e = absurd (cc e)
  taken_within [] (suc n) k x e = absurd (cc e)
  taken_within (y ∷ xs) (suc n) zero x e = omega arith
  taken_within (y ∷ xs) (suc n) (suc k) x e = let l = taken_within xs n k x e in omega (arith, l)

  has_taken : (xs : List X) (n : ℕ) (x : X) → Contains (take n xs) x → Contains xs x
  has_taken xs n x h = subst (λ (l : List X). Contains l x) (take-append-drop n xs) (has_front (take n xs) (drop n xs) x h)

-- ---- tables

-- a table that is the same before and after notes the same
pub noted_so : {D S : Type 0} (old one two new : Noted D S) (state other : Kept D S) (c d : List Choice) → state ≡ other → c ≡ d → one ≡ old → new ≡ two → NotesAs state c one two → NotesAs other d old new
noted_so old one two new state other c d e f g h notes =
    subst (λ (n : Noted _ _). NotesAs other d old n) (sym h)
    (subst (λ (n : Noted _ _). NotesAs other d n two) g (subst (λ (s : Kept _ _). NotesAs s d one two) e (subst (λ (l : List Choice). NotesAs state l one two) f notes)))

-- ---- two tables, one behind the other

module _ {D S : Type 0} (key : List Choice → Key D S) (known : Noted D S) (kept : AreKeptAfter key known) where
  pub both_kept : (noted : Noted D S) → known.never ≡ noted.never → AreKeptAfter key noted → AreKeptAfter key (beside known noted)
  both_kept noted same others = record {
    counted = (let a = length-append known.led_by noted.led_by in let b = length-append known.states noted.states in omega (arith, a, b, kept.counted, others.counted));
    each = λ k x at. by k x (got_either known.states noted.states k x at);
  }
    where
      by : (k : ℕ) (x : Kept D S) → (slice_get known.states k ≡ Some x) ⊎ ((j : ℕ) × (k ≡ length known.states + j) × (slice_get noted.states j ≡ Some x)) → (c : List Choice) × (slice_get (known.led_by ++ noted.led_by) k ≡ Some c) × IsKeptOf noted.never x (key c)
      by k x (inl at) = let z = kept.each k x at in (z.0, got_front known.led_by noted.led_by k z.0 z.1, subst (λ (n : Bool). IsKeptOf n x (key z.0)) same z.2)
      by k x (inr (j, i, at)) =
          let z = others.each j x at in
          (z.0, ap (slice_get (known.led_by ++ noted.led_by)) (i ∙ ap (λ (n : ℕ). n + j) (sym kept.counted)) ∙ got_behind known.led_by noted.led_by j z.0 z.1, z.2)

  pub behind_kept : (noted : Noted D S) → AreKeptAfter key (beside known noted) → AreKeptAfter key noted
  behind_kept noted all = record {
    counted = (let a = length-append known.led_by noted.led_by in let b = length-append known.states noted.states in omega (arith, a, b, kept.counted, all.counted));
    each = λ j x at.
        let z = all.each (length known.states + j) x (got_behind known.states noted.states j x at) in
        (z.0, behind_got known.led_by noted.led_by j z.0 (ap (λ (n : ℕ). slice_get (known.led_by ++ noted.led_by) (n + j)) kept.counted ∙ z.1), z.2);
  }

module _ {D S : Type 0} (never : Bool) (key : List Choice → Key D S) (left : List (List Stored)) where
  -- the first so many of a table
  first_states : (noted : Noted D S) (count : ℕ) → IsTableOf never key left noted → IsTableOf never key left (record { states = take count noted.states; led_by = take count noted.led_by; never = noted.never })
  first_states noted count t = record {
    same = t.same;
    kept = record {
      counted = length-take count noted.led_by ∙ ap (λ (n : ℕ). min count n) t.kept.counted ∙ sym (length-take count noted.states);
      each = λ k x at.
          let low = taken_within noted.states count k x at in
          let z = t.kept.each k x (sym (got_taken noted.states count k low) ∙ at) in
          (z.0, got_taken noted.led_by count k low ∙ z.1, z.2);
    };
    nodes = λ c has. t.nodes c (has_taken noted.led_by count c has);
  }

  -- they are a table behind those of another one
  pub joined_states : (old other : Noted D S) (count : ℕ) (states : List (Kept D S)) (led_by : List (List Choice)) (known : Bool) → IsTableOf never key left old → IsTableOf never key left other → states ≡ old.states ++ take count other.states
      → led_by ≡ old.led_by ++ take count other.led_by → known ≡ old.never → IsTableOf never key left (record { states = states; led_by = led_by; never = known })
  joined_states old other count states led_by known t u e f same = record {
    same = same ∙ t.same;
    kept = record {
      counted = ap length f ∙ both.counted ∙ sym (ap length e);
      each = λ k x at.
          let z = both.each k x (ap (λ (l : List (Kept D S)). slice_get l k) (sym e) ∙ at) in
          (z.0, ap (λ (l : List (List Choice)). slice_get l k) f ∙ z.1, subst (λ (n : Bool). IsKeptOf n x (key z.0)) (u.same ∙ sym t.same ∙ sym same) z.2);
    };
    nodes = λ c has. by c (has_either old.led_by (take count other.led_by) c (subst (λ (l : List (List Choice)). Contains l c) f has));
  }
    where
      more : IsTableOf never key left (record { states = take count other.states; led_by = take count other.led_by; never = other.never })
      more = first_states other count u

      both : AreKeptAfter key (beside old (record { states = take count other.states; led_by = take count other.led_by; never = other.never }))
      both = both_kept key old t.kept (record { states = take count other.states; led_by = take count other.led_by; never = other.never }) (t.same ∙ sym u.same) more.kept

      by : (c : List Choice) → Contains old.led_by c ⊎ Contains (take count other.led_by) c → (q : List Stored) × IsOneOf q left × HasNode q c
      by c (inl h) = t.nodes c h
      by c (inr h) = more.nodes c h

-- the states after choices that led to them
pub key_from : {K : Type 0} (key : List Choice → K) (xs : List (List Choice)) (s : K) → Contains (map key xs) s → (c : List Choice) × Contains xs c × (key c ≡ s)
key_from key [] s (k, l, e) = absurd (omega (arith, l))
key_from key (x ∷ xs) s (zero, l, e) = (x, (0, omega arith, refl), e)
key_from key (x ∷ xs) s (suc k, l, e) = let z = key_from key xs s (k, omega (arith, l), e) in (z.0, (suc z.1.0, omega (arith, z.1.1), z.1.2), z.2)

-- a table is one of more paths too
pub table_wider : {D S : Type 0} (never : Bool) (key : List Choice → Key D S) (left more : List (List Stored)) (noted : Noted D S) → ((x : List Stored) → IsOneOf x left → IsOneOf x more) → IsTableOf never key left noted → IsTableOf never key more noted
table_wider never key left more noted sub t = record { same = t.same; kept = t.kept; nodes = λ c has. let z = t.nodes c has in (z.0, sub z.0 z.1, z.2) }

-- none is
pub table_none : {D S : Type 0} (never : Bool) (key : List Choice → Key D S) (left : List (List Stored)) (known : Bool) → known ≡ never → IsTableOf never key left (record { states = []; led_by = []; never = known })
table_none never key left known same = record { same = same; kept = record { counted = refl; each = λ k x at. absurd (cc at) }; nodes = λ c has. absurd (nothing c has) }
  where
    nothing : (c : List Choice) → Contains [] c → ⊥
    nothing c (k, l, e) = omega arith

-- ---- states of two tables

-- what the first of two lists has keeps its number
pub found_first : {X : Type 0} (xs ys : List X) (k : ℕ) (x : X) → slice_get xs k ≡ Some x → slice_get (xs ++ ys) k ≡ Some x
found_first = got_front

-- what the second has is behind the first, if a number counts so far
pub found_behind : {X : Type 0} (xs ys : List X) (n k : ℕ) (x : X) (P : Type 0) (found : Option ℕ) → n ≡ length xs → slice_get ys k ≡ Some x → SomeIff found P (n + k) → IfSome found (λ number. slice_get (xs ++ ys) number ≡ Some x)
found_behind xs ys n k x P None size at is = tt
found_behind xs ys n k x P (Some number) size at (few, is) = got_on xs ys k number x (is ∙ ap (λ (m : ℕ). m + k) size) at

-- what is noted in the second one is noted behind the first
pub notes_beside : {D S : Type 0} (known old new : Noted D S) (state : Kept D S) (c : List Choice) → NotesAs state c old new → NotesAs state c (beside known old) (beside known new)
notes_beside known old new state c (inl (states, led_by, same)) =
    inl (ap (λ (l : List (Kept _ _)). known.states ++ l) states ∙ sym (append_assoc known.states old.states (state ∷ [])), ap (λ (l : List (List Choice)). known.led_by ++ l) led_by ∙ sym (append_assoc known.led_by old.led_by (c ∷ [])), same)
notes_beside known old new state c (inr same) = inr (ap (beside known) same)

-- tables that are the same before and after
pub looked_so : {D S : Type 0} (known old one two new : Noted D S) (state : Bool → Kept D S) (c : List Choice) (found : Option ℕ) → one ≡ old → new ≡ two → FindsOrNotes (state one.never) c (beside known one) found (beside known two)
    → FindsOrNotes (state old.never) c (beside known old) found (beside known new)
looked_so known old one two new state c found e f h =
    subst (λ (n : Noted _ _). FindsOrNotes (state old.never) c (beside known old) found (beside known n)) (sym f) (subst (λ (n : Noted _ _). FindsOrNotes (state n.never) c (beside known n) found (beside known two)) e h)
