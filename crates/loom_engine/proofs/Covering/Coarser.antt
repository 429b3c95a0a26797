-- States that are told apart by less: where two were the same, they still are. So rounds by the ones are rounds by the others.
use Rattle.std.proofs.Common.{◌≡◌, ◌⊎◌, ℕ, Bool, true, false, List, [], ◌∷◌, Option, Some, None, Result, Ok, refl, ap, ap₂, sym, ◌∙◌, subst, inl, inr}
use Rattle.std.specs.List.{Contains}
use Rattle.std.specs.Option.{option_map}
use Rattle.std.specs.Prelude.{◌||◌, map}
use Rattle.loom_views.specs.Sight.{Sight as SightOfPoints}
use Rattle.loom_views.specs.Views.{Points}
use Rattle.loom_views.specs.declared.rt.failure.FailureKind.{FailureKind}
use Rattle.loom_objects.specs.declared.choice.Choice.{Choice}
use Rattle.loom_objects.specs.Exploring.{is_on}
use Rattle.loom_objects.specs.Tree.Tree.{Tree}
use Rattle.loom_engine.specs.Runs.Body.{Meaning}
use Rattle.loom_engine.specs.Trees.Drive.{Trail}
use Rattle.loom_engine.specs.Trees.Meeting.{Marking}
use Rattle.loom_engine.specs.Walk.Path.{Stored, choices}
use Rattle.loom_engine.specs.Covering.Between.{EndsAt}
use Rattle.loom_engine.specs.Covering.Kept.{Key}
use Rattle.loom_engine.specs.Covering.Moments.{Moment, Stand, first_stand, stand_after}
use Rattle.loom_engine.specs.Covering.Points.{Sight, without_yields, yields_seen}
use Rattle.loom_engine.specs.Covering.Seen.{without_turn}
use Rattle.loom_engine.specs.Covering.Sight.{IsKnown, seen_by}
use Rattle.loom_engine.specs.Covering.States.{State, seen_in, state_after, state_of}
use Rattle.loom_engine.specs.Covering.Table.{HasState, IsAlong, Notes, notes_more, notes_none}
use Rattle.loom_engine.proofs.Covering.UnderWay.{in_map, mapped}

-- ---- rounds

module _ {K J : Type 0} (key : List Choice → K) (other : List Choice → J) (g : K → J) (same : (c : List Choice) → g (key c) ≡ other c) where
  pub keys_coarser : (cs : List (List Choice)) → map g (map key cs) ≡ map other cs
  keys_coarser [] = refl
  keys_coarser (c ∷ cs) = ap₂ (λ (x : J) (l : List J). x ∷ l) (same c) (keys_coarser cs)

  in_coarser : (old : List K) (c : List Choice) → Contains old (key c) → Contains (map g old) (other c)
  in_coarser old c h = subst (Contains (map g old)) (same c) (in_map g old (key c) h)

  state_coarser : (p : List Stored) (s : K) → HasState key p s → HasState other p (g s)
  state_coarser p s (b, n, at, e) = (b, n, at, sym (same b) ∙ ap g e)

  pub ends_coarser : (led_by : List (List Choice)) (q : List Stored) (n : ℕ) → EndsAt key led_by q n → EndsAt other led_by q n
  ends_coarser led_by q n e = record { there = e.there; led = e.led; same = sym (same (choices q)) ∙ ap g e.same ∙ same e.there }

  module _ {A : Type 0} (room : ℕ) (adds : Marking) (tree : Tree A) where
    pub along_coarser : (old new : List K) (p : List Stored) (came : Result (Option A) FailureKind) (path : Trail) → IsAlong room adds tree key old p came path new → IsAlong room adds tree other (map g old) p came path (map g new)
    along_coarser old new p came path is = record {
      stop = is.stop;
      past = is.past;
      stops = λ c h. stops c (is.stops c h);
      notes = λ ended e s h. let z = mapped g new s h in subst (λ (x : J). Contains (map g old) x ⊎ HasState other path.nodes x) z.2 (notes z.0 (is.notes ended e z.0 z.1));
      comes = is.comes;
    }
      where
        stops : (c : List Choice) → Contains old (key c) ⊎ HasState key path.nodes (key c) → Contains (map g old) (other c) ⊎ HasState other path.nodes (other c)
        stops c (inl h) = inl (in_coarser old c h)
        stops c (inr h) = inr (subst (HasState other path.nodes) (same c) (state_coarser path.nodes (key c) h))

        notes : (s : K) → Contains old s ⊎ HasState key path.nodes s → Contains (map g old) (g s) ⊎ HasState other path.nodes (g s)
        notes s (inl h) = inl (in_map g old s h)
        notes s (inr h) = inr (state_coarser path.nodes s h)

    pub notes_coarser : (table : List K) (left : List (List Stored)) (given : List (List Choice × A)) (p : List Stored) → Notes room adds tree key table left given p → Notes room adds tree other (map g table) left given p
    notes_coarser [] [] [] [] notes_none = notes_none
    notes_coarser table left given p (notes_more old _ front first q _ came path notes along next) =
        notes_more (map g old) (map g table) front first q p came path (notes_coarser old front first q notes) (along_coarser old table q (Ok came) path along) next

-- ---- states without how often threads have yielded

yields_twice : (explores : Bool) (yields : List ℕ) → yields_seen explores (yields_seen explores yields) ≡ yields_seen explores yields
yields_twice true yields = refl
yields_twice false yields = refl

module _ {D S : Type 0} where
  drops : State S (Sight D (SightOfPoints ⊎ Points)) → State S (Sight D (SightOfPoints ⊎ Points))
  drops s = record s { seen = record s.seen { rest = without_yields (is_on s.exploring) s.seen.rest } }

  -- the state, as it is seen of a body that is known never to switch, or of any
  pub coarser : Bool → Key D S → Key D S
  coarser true (last, since) = (option_map drops last, since)
  coarser false k = k

  coarser_at : (x y : Bool) → (x ≡ true → y ≡ true) → (s : Stand D S) → coarser y (seen_in (seen_by x) s) ≡ seen_in (seen_by y) s
  unfolding coarser drops
  coarser_at false false h s = refl
  coarser_at true false h s = absurd (cc (h refl))
  coarser_at x true h s = by x s.last
    where
      one : (x : Bool) (m : Moment D S) → drops (state_of (seen_by x) m) ≡ state_of (seen_by true) m
      one true m =
          ap (λ (yields : List ℕ). let t = state_of (seen_by true) m in record t { seen = record t.seen { rest = record t.seen.rest { yields = yields } } })
          (yields_twice (is_on m.course.exploring) (without_turn (is_on m.course.exploring) m.course.world).yields)
      one false m = refl

      beside : Option (State S (Sight D (SightOfPoints ⊎ Points))) → Key D S
      beside last = (last, s.since)

      by : (x : Bool) (last : Option (Moment D S)) → beside (option_map drops (option_map (state_of (seen_by x)) last)) ≡ beside (option_map (state_of (seen_by true)) last)
      by x None = refl
      by x (Some m) = ap (λ (t : State S (Sight D (SightOfPoints ⊎ Points))). beside (Some t)) (one x m)

  module _ (next : Meaning D S) (explores : Bool) (max_threads max_steps : ℕ) (body : S) where
    pub key_coarser : (x y : Bool) → (x ≡ true → y ≡ true) → (c : List Choice) → coarser y (state_after (seen_by x) next explores max_threads max_steps body c) ≡ state_after (seen_by y) next explores max_threads max_steps body c
    key_coarser x y h c = coarser_at x y h (stand_after next (first_stand next explores max_threads max_steps body) c)

-- ---- what is known by one of two

pub known_left : (x y : Bool) → x ≡ true → (x || y) ≡ true
known_left true y e = refl
known_left false y e = absurd (cc e)

pub known_right : (x y : Bool) → y ≡ true → (x || y) ≡ true
known_right true y e = refl
known_right false y e = e

pub known_either : {D S : Type 0} (next : Meaning D S) (body : S) (x y : Bool) → IsKnown x next body → IsKnown y next body → IsKnown (x || y) next body
known_either next body true y k l = k
known_either next body false y k l = l
