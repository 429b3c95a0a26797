-- What threads offer to a schedule: its default thread is able, and without one no thread is.
use Rattle.std.proofs.Common.{◌≡◌, ◌≢◌, ◌≤◌, ◌<◌, ℕ, zero, suc, ◌+◌, Bool, true, false, List, [], ◌∷◌, length, map, Option, Some, None, refl, ap, sym, ◌∙◌, subst, arith}
use Rattle.std.specs.Prelude.{cond, nat_lt, slice_get, slice_index, slice_set}
use Rattle.std.specs.List.{position_from}
use Rattle.loom_objects.specs.declared.rt.schedule.Ability.{Ability}
use Rattle.loom_objects.specs.declared.rt.schedule.Ability.TheVariants.{Able, Yielding, Unable}
use Rattle.loom_objects.specs.declared.rt.schedule.Offers.{Offers}
use Rattle.loom_objects.specs.Tree.Sound.{AreSoundOffers}
use Rattle.loom_objects.specs.declared.rt.thread.State.TheVariants.{Runnable}
use Rattle.loom_objects.specs.declared.rt.thread.Thread.{Thread}
use Rattle.loom_objects.specs.Schedule.Offers.{ability_of, ability_in, with_able, offers_of, standing_of, standing_at}
use Rattle.loom_objects.specs.Schedule.Defaults.{is_able, is_yielding, better, fewest, or_else, default_thread}

-- ---- what is found stands in the list

abbrev IsWithin : ℕ → Option (ℕ × ℕ) → Type 0
IsWithin n None = Unit {0}
IsWithin n (Some found) = found.0 < n

fewer_within : (n : ℕ) (b : Bool) (one other : ℕ × ℕ) → one.0 < n → other.0 < n → IsWithin n (Some (cond b one other))
fewer_within n true one other h i = h
fewer_within n false one other h i = i

better_within : (n : ℕ) (best : Option (ℕ × ℕ)) (t : ℕ) (standing : Ability × ℕ) → IsWithin n best → t < n → IsWithin n (better best t standing)
better_within n None t (Able, yields) h l = l
better_within n (Some (s, least)) t (Able, yields) h l = fewer_within n (nat_lt yields least) (t, yields) (s, least) l h
better_within n best t (Yielding, yields) h l = h
better_within n best t (Unable, yields) h l = h

fewest_within : (n : ℕ) (best : Option (ℕ × ℕ)) (t : ℕ) (standings : List (Ability × ℕ)) → IsWithin n best → t + length standings ≤ n → (k : ℕ) → fewest best t standings ≡ Some k → k < n
fewest_within n None t [] h l k e = absurd (cc e)
fewest_within n (Some found) t [] h l k e = let same : found.0 ≡ k = cc e in subst (λ (m : ℕ). m < n) same h
fewest_within n best t (standing ∷ rest) h l k e = fewest_within n (better best t standing) (suc t) rest (better_within n best t standing h (omega (arith, l))) (omega (arith, l)) k e

first_within : (t : ℕ) (standings : List (Ability × ℕ)) (k : ℕ) → position_from is_yielding t standings ≡ Some k → k < t + length standings
first_within t [] k e = absurd (cc e)
first_within t ((Yielding, yields) ∷ rest) k e = let same : t ≡ k = cc e in omega (arith, same)
first_within t ((Able, yields) ∷ rest) k e = let h = first_within (t + 1) rest k e in omega (arith, h)
first_within t ((Unable, yields) ∷ rest) k e = let h = first_within (t + 1) rest k e in omega (arith, h)

able_within : (standings : List (Ability × ℕ)) (k : ℕ) → is_able (slice_get standings k) ≡ true → k < length standings
able_within [] k e = absurd (cc e)
able_within (standing ∷ rest) zero e = omega arith
able_within (standing ∷ rest) (suc k) e = let h = able_within rest k e in omega (arith, h)

-- ---- where nothing is found

better_none : (best : Option (ℕ × ℕ)) (t : ℕ) (standing : Ability × ℕ) → better best t standing ≡ None → (best ≡ None) × (standing.0 ≢ Able)
better_none best t (Able, yields) e = absurd (cc e)
better_none best t (Yielding, yields) e = (e, λ f. cc f)
better_none best t (Unable, yields) e = (e, λ f. cc f)

fewest_none : (best : Option (ℕ × ℕ)) (t : ℕ) (standings : List (Ability × ℕ)) → fewest best t standings ≡ None → best ≡ None
fewest_none None t [] e = refl
fewest_none (Some found) t [] e = absurd (cc e)
fewest_none best t (standing ∷ rest) e = (better_none best t standing (fewest_none (better best t standing) (suc t) rest e)).0

none_able : (best : Option (ℕ × ℕ)) (t : ℕ) (standings : List (Ability × ℕ)) → fewest best t standings ≡ None → (k : ℕ) → slice_get (map ability_in standings) k ≢ Some Able
none_able best t [] e k f = cc f
none_able best t (standing ∷ rest) e zero f = let is : standing.0 ≡ Able = cc f in (better_none best t standing (fewest_none (better best t standing) (suc t) rest e)).1 is
none_able best t (standing ∷ rest) e (suc k) f = none_able (better best t standing) (suc t) rest e k f

-- ---- the default

set_there : (standings : List (Ability × ℕ)) (k : ℕ) → k < length standings → slice_get (slice_set (map ability_in standings) k Able) k ≡ Some Able
set_there [] k l = absurd (omega (arith, l))
set_there (standing ∷ rest) zero l = refl
set_there (standing ∷ rest) (suc k) l = set_there rest k (omega (arith, l))

abbrev IsSoundOf : List (Ability × ℕ) → Option ℕ → Type 0
IsSoundOf standings default = AreSoundOffers default (with_able default (map ability_in standings))

without_fewest : (standings : List (Ability × ℕ)) → fewest None 0 standings ≡ None → (first : Option ℕ) → position_from is_yielding 0 standings ≡ first → IsSoundOf standings first
without_fewest standings h None e = none_able None 0 standings h
without_fewest standings h (Some k) e = let l = first_within 0 standings k e in set_there standings k (omega (arith, l))

by_fewest : (standings : List (Ability × ℕ)) (least : Option ℕ) → fewest None 0 standings ≡ least → IsSoundOf standings (or_else least (position_from is_yielding 0 standings))
by_fewest standings None e = without_fewest standings e (position_from is_yielding 0 standings) refl
by_fewest standings (Some k) e = set_there standings k (fewest_within (length standings) None 0 standings tt (omega arith) k e)

by_active : (active : ℕ) (standings : List (Ability × ℕ)) (b : Bool) → is_able (slice_get standings active) ≡ b
    → IsSoundOf standings (cond b (Some active) (or_else (fewest None 0 standings) (position_from is_yielding 0 standings)))
by_active active standings true e = set_there standings active (able_within standings active e)
by_active active standings false e = by_fewest standings (fewest None 0 standings) refl

-- the default of what they offer is able, and without one no thread is
pub offers_sound : (active : ℕ) (standings : List (Ability × ℕ)) → AreSoundOffers (offers_of active standings).default (offers_of active standings).abilities
offers_sound active standings = by_active active standings (is_able (slice_get standings active)) refl

abbrev pub made : Option ℕ → List Ability → Offers
made default abilities = record { default = default; abilities = abilities }

-- the offers that are made of these parts
pub offered_as : (active : ℕ) (standings : List (Ability × ℕ)) (default : Option ℕ) (abilities able : List Ability) → default ≡ default_thread active standings → abilities ≡ map ability_in standings
    → able ≡ with_able default abilities → made default able ≡ offers_of active standings
offered_as active standings default abilities able e f g =
    ap (made default) (g ∙ ap (with_able default) f) ∙ ap (λ (d : Option ℕ). made d (with_able d (map ability_in standings))) e

-- ---- where the active thread can go on

set_same : (standings : List (Ability × ℕ)) (k : ℕ) → is_able (slice_get standings k) ≡ true → slice_set (map ability_in standings) k Able ≡ map ability_in standings
set_same [] k e = refl
set_same ((Able, yields) ∷ rest) zero e = refl
set_same ((Yielding, yields) ∷ rest) zero e = absurd (cc e)
set_same ((Unable, yields) ∷ rest) zero e = absurd (cc e)
set_same (standing ∷ rest) (suc k) e = ap (λ (l : List Ability). ability_in standing ∷ l) (set_same rest k e)

-- it is the default, and what the others can do is offered as it is
offered_by_active : (active : ℕ) (standings : List (Ability × ℕ)) → is_able (slice_get standings active) ≡ true → made (Some active) (map ability_in standings) ≡ offers_of active standings
offered_by_active active standings e =
    ap (made (Some active)) (sym (set_same standings active e))
    ∙ ap (λ (b : Bool). let d = cond b (Some active) (or_else (fewest None 0 standings) (position_from is_yielding 0 standings)) in made d (with_able d (map ability_in standings))) (sym e)

-- of five threads
able_active : {D : Type 0} (yields : List ℕ) (threads : List (Thread D)) (active : ℕ) (thread : Thread D) → active < 5 → slice_get threads active ≡ Some thread → thread.state ≡ Runnable
    → is_able (slice_get (map (standing_at yields threads) (0 ∷ 1 ∷ 2 ∷ 3 ∷ 4 ∷ [])) active) ≡ true
able_active yields threads zero thread l h r = ap (λ o. is_able (Some (standing_of (slice_index yields 0) o))) h ∙ ap (λ s. is_able (Some (ability_of s, slice_index yields 0))) r
able_active yields threads (suc zero) thread l h r = ap (λ o. is_able (Some (standing_of (slice_index yields 1) o))) h ∙ ap (λ s. is_able (Some (ability_of s, slice_index yields 1))) r
able_active yields threads (suc (suc zero)) thread l h r = ap (λ o. is_able (Some (standing_of (slice_index yields 2) o))) h ∙ ap (λ s. is_able (Some (ability_of s, slice_index yields 2))) r
able_active yields threads (suc (suc (suc zero))) thread l h r = ap (λ o. is_able (Some (standing_of (slice_index yields 3) o))) h ∙ ap (λ s. is_able (Some (ability_of s, slice_index yields 3))) r
able_active yields threads (suc (suc (suc (suc zero)))) thread l h r = ap (λ o. is_able (Some (standing_of (slice_index yields 4) o))) h ∙ ap (λ s. is_able (Some (ability_of s, slice_index yields 4))) r
able_active yields threads (suc (suc (suc (suc (suc k))))) thread l h r = absurd (omega arith)

-- what is offered then
pub offered_now : {D : Type 0} (yields : List ℕ) (threads : List (Thread D)) (active : ℕ) (thread : Thread D) (abilities : List Ability) → active < 5 → slice_get threads active ≡ Some thread → thread.state ≡ Runnable
    → abilities ≡ map ability_in (map (standing_at yields threads) (0 ∷ 1 ∷ 2 ∷ 3 ∷ 4 ∷ [])) → made (Some active) abilities ≡ offers_of active (map (standing_at yields threads) (0 ∷ 1 ∷ 2 ∷ 3 ∷ 4 ∷ []))
offered_now yields threads active thread abilities l h r e =
    ap (made (Some active)) e ∙ offered_by_active active (map (standing_at yields threads) (0 ∷ 1 ∷ 2 ∷ 3 ∷ 4 ∷ [])) (able_active yields threads active thread l h r)
