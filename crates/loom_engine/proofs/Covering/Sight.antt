-- What is seen of points tells their moves, so that states of which the same is seen have equal futures.
use Rattle.std.proofs.Common.{◌≡◌, ℕ, Bool, true, false, List, [], ◌++◌, Option, Some, Result, Ok, Err, refl, ap, ◌∙◌, inl, inr, subst}
use Rattle.std.specs.Prelude.{◌⊎◌}
use Rattle.loom_views.specs.Sight.{Sight as SightOfPoints, seen}
use Rattle.loom_views.specs.Views.{Accessed, Points}
use Rattle.loom_views.specs.Laws.Sight.{RaisesAlike as RaiseAlike, MovesAlike as MoveAlike, AccessesAlike as AccessAlike}
use Rattle.loom_views.proofs.Sight.Tells.{sight_law}
use Rattle.loom_views.specs.declared.rt.failure.FailureKind.{FailureKind}
use Rattle.loom_views.specs.declared.rt.failure.FailureKind.TheVariants.{TooManyVersions}
use Rattle.loom_objects.specs.Operation.Switching.{NeverSwitches}
use Rattle.loom_objects.specs.Tree.Tree.{came}
use Rattle.loom_objects.specs.World.{World}
use Rattle.loom_engine.specs.Covering.Points.{AccessesAlike, MovesAlike, SlotsAlike, Sight, sight, without_yields}
use Rattle.loom_engine.specs.Covering.Seen.{without_active}
use Rattle.loom_engine.specs.Covering.Sight.{BodyEndsLaw, IsKnown, SightMovesLaw, SeenBodyLaw, seen_by}
use Rattle.loom_engine.specs.Covering.Sound.{IsSound}
use Rattle.loom_engine.specs.Covering.States.{AreLimits, State, TellsFuture, LooksSame, state_after}
use Rattle.loom_engine.specs.Covering.World.{World as BodyWorld, IsCalled, world_of}
use Rattle.loom_engine.specs.Covering.Cut.{Checks}
use Rattle.loom_engine.specs.Covering.Covered.{Covers, Remembers}
use Rattle.loom_engine.specs.Covering.Ways.{CanEnd, HaveWays}
use Rattle.loom_engine.specs.Runs.Body.{Meaning, runs}
use Rattle.loom_engine.specs.Trees.Machines.{IsMarking}
use Rattle.loom_engine.specs.Trees.Meeting.{Marking}
use Rattle.loom_engine.specs.Walk.Driven.{IsOneOf}
use Rattle.loom_engine.specs.Walk.Path.{Stored, node_at}
use Rattle.loom_objects.specs.declared.choice.Choice.{Choice}
use Rattle.loom_engine.proofs.Covering.Covered.{node_called}
use Rattle.loom_engine.proofs.Covering.Cut.{check_law, remembers}
use Rattle.loom_engine.proofs.Covering.Lost.{AreLost, never_ends}
use Rattle.loom_engine.proofs.Covering.Points.{points_law, yields_law}
use Rattle.loom_engine.proofs.Covering.Seen.{alike_self, turn_law}
use Rattle.loom_engine.proofs.Covering.States.{states_law}
use Rattle.loom_engine.proofs.Covering.Unswitched.{never_switches, runs_same, states_same, unswitched}
use Rattle.loom_engine.proofs.Covering.Ways.{can_end_law}
use Rattle.loom_engine.proofs.Covering.Worlds.{world_ends}
use Rattle.loom_engine.proofs.Runs.Bodies.{run_tree_law}

module _ (limits : FailureKind → Bool) where
  moves_so : (r s : Result Points FailureKind) → MoveAlike r s → MovesAlike limits seen r s
  moves_so (Ok p) (Ok q) h = h
  moves_so (Ok p) (Err kind) h = absurd h
  moves_so (Err kind) (Ok q) h = absurd h
  moves_so (Err kind) (Err other) h = inl h

  raises_so : limits TooManyVersions ≡ true → (r s : Result Points FailureKind) → RaiseAlike r s → MovesAlike limits seen r s
  raises_so l (Ok p) (Ok q) h = h
  raises_so l (Ok p) (Err kind) h = ap limits h ∙ l
  raises_so l (Err kind) (Ok q) h = ap limits h ∙ l
  raises_so l (Err kind) (Err other) (inl e) = inl e
  raises_so l (Err kind) (Err other) (inr (inl e)) = inr (inl (ap limits e ∙ l))
  raises_so l (Err kind) (Err other) (inr (inr e)) = inr (inr (ap limits e ∙ l))

  accesses_so : (r s : Result Accessed FailureKind) → AccessAlike r s → AccessesAlike limits seen r s
  accesses_so (Ok a) (Ok b) h = h
  accesses_so (Ok a) (Err kind) h = absurd h
  accesses_so (Err kind) (Ok b) h = absurd h
  accesses_so (Err kind) (Err other) h = inl h

  slots_so : (r s : Result (List ℕ) FailureKind) → r ≡ s → SlotsAlike limits seen r s
  slots_so r s e = subst (λ x. SlotsAlike limits seen r x) e (alike_self limits (λ (a b : List ℕ). a ≡ b) (λ a. refl) (came r))

pub sight_moves_law : SightMovesLaw
sight_moves_law limits versions = record {
  stamps = sight_law.stamps;
  raise = λ p q t e. raises_so limits versions _ _ (sight_law.raise p q t e);
  spawn = λ p q t e. raises_so limits versions _ _ (sight_law.spawn p q t e);
  acquire = sight_law.acquire;
  release = sight_law.release;
  fence = sight_law.fence;
  join = sight_law.join;
  yield = sight_law.yield;
  point = sight_law.point;
  stamp = sight_law.stamp;
  stamped = sight_law.stamped;
  stamp_release = sight_law.stamp_release;
  stamp_acquire = sight_law.stamp_acquire;
  atomic = sight_law.atomic;
  readable = λ p q t n reader e. slots_so limits _ _ (sight_law.readable p q t n reader e);
  load = λ p q t n slot order e. accesses_so limits _ _ (sight_law.load p q t n slot order e);
  store = λ p q t n value order e. accesses_so limits _ _ (sight_law.store p q t n value order e);
  update_read = λ p q t n slot e. accesses_so limits _ _ (sight_law.update_read p q t n slot e);
  update_write = λ p q t n slot value order e. accesses_so limits _ _ (sight_law.update_write p q t n slot value order e);
  update_fail = sight_law.update_fail;
  unsync_load = λ p q t n e. accesses_so limits _ _ (sight_law.unsync_load p q t n e);
  with_mut = λ p q t n e. accesses_so limits _ _ (sight_law.with_mut p q t n e);
  with_mut_end = λ p q t n value e. accesses_so limits _ _ (sight_law.with_mut_end p q t n value e);
  cell = sight_law.cell;
  read = λ p q t n e. moves_so limits _ _ (sight_law.read p q t n e);
  write = λ p q t n e. moves_so limits _ _ (sight_law.write p q t n e);
}

module _ {D : Type 0} where
  -- nobody's turn
  turnless : Sight D (SightOfPoints ⊎ Points) → Sight D (SightOfPoints ⊎ Points)
  turnless s = record { rest = without_active s.rest; points = s.points }

module _ {D : Type 0} (limits : FailureKind → Bool) (are : AreLimits limits) where
  seen_tells : TellsFuture limits (seen_by false) (LooksSame (λ explores (w : World D). sight seen w))
  unfolding turnless
  seen_tells =
      let tells : TellsFuture limits (λ explores (w : World D). sight seen w) (LooksSame (λ explores (w : World D). sight seen w)) = points_law limits seen are.steps (sight_moves_law limits are.versions) in
      turn_law limits (λ explores (w : World D). sight seen w) (λ explores (w : World D). sight seen w) tells (λ explores w v e. ap turnless e)

-- what is seen without how often threads have yielded tells the future of a body that never switches
module _ {D : Type 0} (limits : FailureKind → Bool) (are : AreLimits limits) where
  unyielding_tells : TellsFuture limits (seen_by true) (LooksSame (λ explores (w : World D). sight seen (without_yields explores w)))
  unfolding turnless
  unyielding_tells =
      let tells : TellsFuture limits (λ explores (w : World D). sight seen (without_yields explores w)) (LooksSame (λ explores (w : World D). sight seen (without_yields explores w))) = yields_law limits seen are.steps (sight_moves_law limits are.versions) in
      turn_law limits (λ explores (w : World D). sight seen (without_yields explores w)) (λ explores (w : World D). sight seen (without_yields explores w)) tells (λ explores w v e. ap turnless e)

module _ {D S : Type 0} (next : Meaning D S) (explores : Bool) (max_threads : ℕ) (body : S) where
  abbrev world : ℕ → BodyWorld D
  world steps = world_of (runs next explores max_threads steps body)

  abbrev Sound : (FailureKind → Bool) → (ℕ → BodyWorld D) → (ℕ → List Choice → Option (State S (Sight D (SightOfPoints ⊎ Points))) × List Choice) → ℕ → ℕ → Type 0
  Sound limits worlds keys one two = IsSound limits (worlds one) (worlds two) (keys one) (keys two)

  abbrev key : Bool → ℕ → List Choice → Option (State S (Sight D (SightOfPoints ⊎ Points))) × List Choice
  key never steps = state_after (seen_by never) next explores max_threads steps body

  module _ (limits : FailureKind → Bool) (are : AreLimits limits) (one two : ℕ) where
    -- of the body that fails in place of each switch
    failing_sound : Sound limits (λ steps. world_of (runs (unswitched next) explores max_threads steps body)) (λ steps. state_after (seen_by true) (unswitched next) explores max_threads steps body) one two
    failing_sound =
        states_law limits (seen_by true) (λ x (w : World D). sight seen (without_yields x w)) (unswitched next) explores max_threads one two body are (unyielding_tells limits are)
        (λ state answer. inr (never_switches next state answer)) (λ x. refl)

    -- so of one that never switches
    unyielding_sound : NeverSwitches next body → Sound limits world (key true) one two
    unyielding_sound never =
        subst (λ t. IsSound limits (world_of t) (world two) (key true one) (key true two)) (runs_same next body never explores max_threads one)
        (subst (λ t. IsSound limits (world_of (runs (unswitched next) explores max_threads one body)) (world_of t) (key true one) (key true two)) (runs_same next body never explores max_threads two)
        (subst (λ k. IsSound limits (world_of (runs (unswitched next) explores max_threads one body)) (world_of (runs (unswitched next) explores max_threads two body)) k (key true two)) (states_same next body never explores max_threads one (seen_by true))
        (subst (λ k. IsSound limits (world_of (runs (unswitched next) explores max_threads one body)) (world_of (runs (unswitched next) explores max_threads two body)) (state_after (seen_by true) (unswitched next) explores max_threads one body) k)
        (states_same next body never explores max_threads two (seen_by true)) failing_sound)))

    pub states_sound : (never : Bool) → IsKnown never next body → Sound limits world (key never) one two
    states_sound true known = unyielding_sound (known refl)
    states_sound false known =
        states_law limits (seen_by false) (λ x (w : World D). sight seen w) next explores max_threads one two body are (seen_tells limits are) (λ state answer. inl (λ x to w v e. e)) (λ x. refl)

  module _ (never : Bool) (known : IsKnown never next body) (max_steps room : ℕ) (adds : Marking) (left : List (List Stored)) (given : List (List Choice × D)) (marking : IsMarking adds)
      (checks : Checks room adds (runs next explores max_threads max_steps body) (key never max_steps) left [] left given) where
    covered_so : (limits : FailureKind → Bool) → AreLimits limits → (steps_too : ℕ) → Covers limits (world max_steps) (world steps_too) given
    covered_so limits are steps_too =
        check_law limits (world steps_too) room adds (runs next explores max_threads max_steps body) (key never max_steps) (key never steps_too) left given (run_tree_law next explores max_threads max_steps body).sound marking
        (world_ends (runs next explores max_threads steps_too body)) (states_sound limits are max_steps steps_too never known) checks

    remembered : Remembers (world max_steps) (key never max_steps) left given
    remembered = remembers room adds (runs next explores max_threads max_steps body) (run_tree_law next explores max_threads max_steps body).sound marking (key never max_steps) left left given checks refl

    ends_so : (limits : FailureKind → Bool) → AreLimits limits → HaveWays (world max_steps) (key never max_steps) left given → CanEnd limits world
    ends_so limits are have =
        can_end_law limits (world max_steps) world (key never max_steps) (key never) left given (world_ends (runs next explores max_threads max_steps body)) (λ steps. world_ends (runs next explores max_threads steps body))
        (λ steps. states_sound limits are max_steps steps never known) (λ one two. states_sound limits are one two never known) remembered have

    called_so : (q : List Stored) (c : List Choice) (n : Stored) → IsOneOf q left → node_at q c ≡ Some n → IsCalled (world max_steps) c
    called_so q c n i at =
        node_called (λ kind. true) (world max_steps) (world max_steps) (key never max_steps) (key never max_steps) left given (world_ends (runs next explores max_threads max_steps body)) (world_ends (runs next explores max_threads max_steps body))
        (states_sound (λ kind. true) (record { steps = refl; versions = refl }) max_steps max_steps never known) remembered q i c n at

    module _ (IsLost : List Choice → Type 0) (lost : AreLost (key never max_steps) left IsLost) where
      lost_so : (steps_too : ℕ) (c more : List Choice) (value : D) → IsLost c → IsCalled (world steps_too) (c ++ more) → (world steps_too).outcome (c ++ more) ≡ Some (Ok value) → ⊥
      lost_so steps_too c more value is called came =
          never_ends (λ kind. true) (world max_steps) (world steps_too) (key never max_steps) (key never steps_too) left given (world_ends (runs next explores max_threads max_steps body)) (world_ends (runs next explores max_threads steps_too body))
          (states_sound (λ kind. true) (record { steps = refl; versions = refl }) max_steps steps_too never known) remembered IsLost lost c more value is called came

pub seen_body_law : {D S : Type 0} → SeenBodyLaw D S
seen_body_law never limits next explores max_threads max_steps steps_too room adds body left given known are marking checks =
    covered_so next explores max_threads body never known max_steps room adds left given marking checks limits are steps_too

pub body_ends_law : {D S : Type 0} → BodyEndsLaw D S
body_ends_law never limits next explores max_threads max_steps room adds body left given known are marking checks have =
    ends_so next explores max_threads body never known max_steps room adds left given marking checks limits are have

-- a node of such a check's runs comes after choices that a run can make
pub body_called : {D S : Type 0} (never : Bool) (next : Meaning D S) (explores : Bool) (max_threads max_steps room : ℕ) (adds : Marking) (body : S) (left : List (List Stored)) (given : List (List Choice × D)) → IsKnown never next body → IsMarking adds
    → Checks room adds (runs next explores max_threads max_steps body) (state_after (seen_by never) next explores max_threads max_steps body) left [] left given
    → (q : List Stored) (c : List Choice) (n : Stored) → IsOneOf q left → node_at q c ≡ Some n → IsCalled (world_of (runs next explores max_threads max_steps body)) c
body_called never next explores max_threads max_steps room adds body left given known marking checks q c n i at =
    called_so next explores max_threads body never known max_steps room adds left given marking checks q c n i at

-- no run of the body ends that goes on from choices that are lost
pub body_lost : {D S : Type 0} (never : Bool) (next : Meaning D S) (explores : Bool) (max_threads max_steps room : ℕ) (adds : Marking) (body : S) (left : List (List Stored)) (given : List (List Choice × D)) → IsKnown never next body → IsMarking adds
    → Checks room adds (runs next explores max_threads max_steps body) (state_after (seen_by never) next explores max_threads max_steps body) left [] left given
    → (IsLost : List Choice → Type 0) → AreLost (state_after (seen_by never) next explores max_threads max_steps body) left IsLost → (steps_too : ℕ) (c more : List Choice) (value : D) → IsLost c
    → IsCalled (world_of (runs next explores max_threads steps_too body)) (c ++ more) → (world_of (runs next explores max_threads steps_too body)).outcome (c ++ more) ≡ Some (Ok value) → ⊥
body_lost never next explores max_threads max_steps room adds body left given known marking checks IsLost lost steps_too c more value is called came =
    lost_so next explores max_threads body never known max_steps room adds left given marking checks IsLost lost steps_too c more value is called came
