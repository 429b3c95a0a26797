-- A new schedule at a thread that was drawn: first its default is visited, and then the thread is the choice, which may be the default.
use Rattle.std.proofs.Common.{◌≡◌, ◌⊎◌, ◌<◌, ℕ, zero, suc, Bool, true, false, cond, List, [], ◌∷◌, length, get_or, map, Option, Some, None, inl, inr, refl, ap, sym, ◌∙◌, subst, arith}
use Rattle.std.specs.Prelude.{slice_get, slice_set, IfSome, IsSomeAnd}
use Rattle.loom_objects.specs.declared.choice.Choice.TheVariants.{Thread}
use Rattle.loom_objects.specs.declared.rt.schedule.Ability.{Ability}
use Rattle.loom_objects.specs.declared.rt.schedule.Ability.TheVariants.{Able}
use Rattle.loom_objects.specs.declared.rt.schedule.Offers.{Offers}
use Rattle.loom_objects.specs.Tree.Asked.{which_thread}
use Rattle.loom_objects.specs.Tree.Question.{made_of}
use Rattle.loom_objects.specs.Tree.Sound.{AreSoundOffers}
use Rattle.loom_engine.specs.declared.rt.path.node.Status.{Status}
use Rattle.loom_engine.specs.declared.rt.path.node.Status.TheVariants.{Active, Visited}
use Rattle.loom_engine.specs.declared.rt.path.node.Schedule.{Schedule}
use Rattle.loom_engine.specs.Path.Nodes.{active_thread, is_left, made_status, seen_threads, with_status}
use Rattle.loom_engine.specs.Trees.Drive.{new_node}
use Rattle.loom_engine.specs.Walk.Choices.{same}
use Rattle.loom_engine.specs.Walk.Path.{IsAtRest, Stored, fresh}
use Rattle.loom_engine.proofs.Nodes.Nodes.Choosing.{chosen_is, chosen_rests}
use Rattle.loom_engine.proofs.Nodes.Nodes.Statuses.{get_else, get_put}
use Rattle.std.proofs.lemmas.Bool.{false≢true}
use Rattle.std.proofs.lemmas.List.{length-set}
use Rattle.loom_engine.proofs.Path.Nodes.Given.{at_default, at_other}
use Rattle.loom_engine.proofs.Path.Nodes.Making.{fresh_rests, get_map, made_is}

set_twice : (l : List Status) (i : ℕ) (a b : Status) → slice_set (slice_set l i a) i b ≡ slice_set l i b
set_twice [] i a b = refl
set_twice (x ∷ l) zero a b = refl
set_twice (x ∷ l) (suc i) a b = ap (λ (r : List Status). x ∷ r) (set_twice l i a b)

with_twice : (o : Option ℕ) (a b : Status) (l : List Status) → with_status o b (with_status o a l) ≡ with_status o b l
with_twice None a b l = refl
with_twice (Some k) a b l = set_twice l k a b

-- a status among those with one that is set
status_other : (o : Option ℕ) (s : Status) (l : List Status) (k : ℕ) → (o ≡ Some k → ⊥) → slice_get (with_status o s l) k ≡ slice_get l k
status_other None s l k f = refl
status_other (Some j) s l k f = get_else l j k s (λ e. f (ap Some e))

status_same : (o : Option ℕ) (s old : Status) (l : List Status) (k : ℕ) → o ≡ Some k → slice_get l k ≡ Some old → slice_get (with_status o s l) k ≡ Some s
status_same o s old l k e h = ap (λ (p : Option ℕ). slice_get (with_status p s l) k) e ∙ get_put l k s old h

-- it is set, or isn't
pub status_set : (o : Option ℕ) (s old : Status) (l : List Status) (k : ℕ) (is : Bool) → (is ≡ true → o ≡ Some k) → (o ≡ Some k → is ≡ true) → slice_get l k ≡ Some old → slice_get (with_status o s l) k ≡ Some (cond is s old)
status_set o s old l k true given taken h = status_same o s old l k (given refl) h
status_set o s old l k false given taken h = status_other o s l k (λ e. absurd (false≢true (taken e))) ∙ h

pub stands : (l : List Status) (k : ℕ) (d : Status) → k < length l → slice_get l k ≡ Some (get_or l k d)
stands [] k d h = absurd (omega arith)
stands (x ∷ l) zero d h = refl
stands (x ∷ l) (suc k) d h = stands l k d (omega arith)

-- five statuses are those of a list of five
pub five_are : (l : List Status) (a b c d e : Status) → length l ≡ 5 → slice_get l 0 ≡ Some a → slice_get l 1 ≡ Some b → slice_get l 2 ≡ Some c → slice_get l 3 ≡ Some d → slice_get l 4 ≡ Some e → a ∷ b ∷ c ∷ d ∷ e ∷ [] ≡ l
five_are (v ∷ w ∷ x ∷ y ∷ z ∷ []) a b c d e h p q r s t = cc
five_are [] a b c d e h p q r s t = absurd (omega arith)
five_are (v ∷ []) a b c d e h p q r s t = absurd (omega arith)
five_are (v ∷ w ∷ []) a b c d e h p q r s t = absurd (omega arith)
five_are (v ∷ w ∷ x ∷ []) a b c d e h p q r s t = absurd (omega arith)
five_are (v ∷ w ∷ x ∷ y ∷ []) a b c d e h p q r s t = absurd (omega arith)
five_are (v ∷ w ∷ x ∷ y ∷ z ∷ u ∷ l) a b c d e h p q r s t = absurd (omega arith)

pub with_status-length : (o : Option ℕ) (s : Status) (l : List Status) → length (with_status o s l) ≡ length l
with_status-length None s l = refl
with_status-length (Some k) s l = length-set l k s

left_made : (every : Bool) → is_left (made_status every Able) ≡ true
left_made true = refl
left_made false = refl

-- the statuses at which this thread is the choice
abbrev pub drawn_statuses : Bool → Offers → Option ℕ → List Status
drawn_statuses every offers chosen = with_status chosen Active (with_status offers.default Visited (map (made_status every) offers.abilities))

-- the default, or a thread that can go on
abbrev pub IsOffered : Offers → Option ℕ → Type 0
IsOffered offers chosen = (chosen ≡ offers.default) ⊎ IsSomeAnd chosen (λ k. slice_get offers.abilities k ≡ Some Able)

there : (abilities : List Ability) (k : ℕ) (a : Ability) → slice_get abilities k ≡ Some a → k < length abilities
there [] k a h = absurd (cc h)
there (b ∷ abilities) zero a h = omega arith
there (b ∷ abilities) (suc k) a h = omega (arith, there abilities k a h)

-- it is one of five threads
pub offered_within : (offers : Offers) → AreSoundOffers offers.default offers.abilities → length offers.abilities ≡ 5 → (chosen : Option ℕ) → IsOffered offers chosen → IfSome chosen (λ k. k < 5)
offered_within offers sound size chosen (inl e) = subst (λ (o : Option ℕ). IfSome o (λ k. k < 5)) (sym e) (go offers.default sound)
  where
    go : (o : Option ℕ) → AreSoundOffers o offers.abilities → IfSome o (λ k. k < 5)
    go None h = tt
    go (Some k) h = omega (arith, there offers.abilities k Able h)
offered_within offers sound size None (inr h) = tt
offered_within offers sound size (Some k) (inr h) = omega (arith, there offers.abilities k Able h)

module _ (exploring every : Bool) (offers : Offers) (sound : AreSoundOffers offers.default offers.abilities) (size : length offers.abilities ≡ 5) where
  abbrev made : List Status
  made = map (made_status every) offers.abilities

  abbrev begun : List Status
  begun = with_status offers.default Active made

  abbrev node : Schedule
  node = record { preemptions = 0; switch = None; nearest = None; first = offers.default; exploring = exploring; statuses = begun }

  is_fresh : (e : Bool) → seen_threads offers.default e begun ≡ fresh every (made_of (which_thread e offers []))
  is_fresh e = made_is every e offers [] sound

  rests : IsAtRest (seen_threads offers.default true begun)
  rests = subst IsAtRest (sym (is_fresh true)) (fresh_rests every offers sound size)

  is_active : active_thread begun ≡ offers.default
  is_active = (let e : Thread (active_thread begun) ≡ Thread offers.default = ap (λ (s : Stored). s.present) (is_fresh true) ∙ sym (ap (λ (s : Stored). s.made.default) (is_fresh true)) in cc e)

  left_at : (k : ℕ) → (offers.default ≡ Some k → ⊥) → slice_get offers.abilities k ≡ Some Able → slice_get begun k ≡ Some (made_status every Able)
  left_at k f h = go offers.default sound f
    where
      go : (d : Option ℕ) → AreSoundOffers d offers.abilities → (d ≡ Some k → ⊥) → slice_get (with_status d Active made) k ≡ Some (made_status every Able)
      go None none g = absurd (none k h)
      go (Some d) able g = get_else made d k Active (λ e. g (ap Some e)) ∙ get_map every offers.abilities k Able h

  -- the default is the choice
  abbrev IsMade : Option ℕ → Type 0
  IsMade chosen =
      (Some (seen_threads offers.default exploring (drawn_statuses every offers chosen)) ≡ new_node every (made_of (which_thread exploring offers [])) (Some (Thread chosen)))
      × IsAtRest (seen_threads offers.default true (drawn_statuses every offers chosen))

  at_first : (chosen : Option ℕ) → chosen ≡ offers.default → IsMade chosen
  at_first chosen e =
      let is : drawn_statuses every offers chosen ≡ begun = ap (drawn_statuses every offers) e ∙ with_twice offers.default Visited Active made in (
        ap (λ (l : List Status). Some (seen_threads offers.default exploring l)) is ∙ at_default exploring every node offers sound (is_fresh exploring) (Thread chosen) (ap Thread e),
        subst (λ (l : List Status). IsAtRest (seen_threads offers.default true l)) (sym is) rests,
      )

  -- another thread is
  at_thread : (k : ℕ) → (offers.default ≡ Some k → ⊥) → slice_get offers.abilities k ≡ Some Able → IsMade (Some k)
  at_thread k f h =
      let there = left_at k f h in
      let left = left_made every in
      let is : drawn_statuses every offers (Some k) ≡ slice_set (with_status (active_thread begun) Visited begun) k Active =
      ap (λ (l : List Status). slice_set l k Active) (sym (with_twice offers.default Active Visited made))
      ∙ ap (λ (o : Option ℕ). slice_set (with_status o Visited begun) k Active) (sym is_active) in (
        ap (λ (l : List Status). Some (seen_threads offers.default exploring l)) is
            ∙ ap Some (chosen_is offers.default exploring begun k (made_status every Able) rests there left)
            ∙ at_other exploring every node offers sound (is_fresh exploring) (Thread (Some k)) k (made_status every Able) refl there left,
        subst IsAtRest (sym (ap (seen_threads offers.default true) is ∙ chosen_is offers.default true begun k (made_status every Able) rests there left))
            (chosen_rests offers.default begun k (made_status every Able) rests there left),
      )

  -- the schedule is the node that its choice makes, and it is at rest
  pub drawn_made : (chosen : Option ℕ) → IsOffered offers chosen → IsMade chosen
  drawn_made chosen (inl e) = at_first chosen e
  drawn_made None (inr h) = absurd h
  drawn_made (Some k) (inr h) = go (same (Thread (Some k)) (Thread offers.default))
    where
      go : Dec (Thread (Some k) ≡ Thread offers.default) → IsMade (Some k)
      go (yes e) = (let g : Some k ≡ offers.default = cc e in at_first (Some k) g)
      go (no f) = at_thread k (λ e. f (ap Thread (sym e))) h
