-- Rounds of a search of a body that notes states: each path that comes next rests, and where none is left each run is covered.
use Rattle.std.proofs.Common.{◌≡◌, ◌<◌, ℕ, Bool, List, [], ◌∷◌, ◌++◌, length, Option, Some, None, Result, Ok, Err}
use Rattle.loom_views.specs.declared.rt.failure.FailureKind.{FailureKind}
use Rattle.loom_objects.specs.declared.choice.Choice.{Choice}
use Rattle.loom_objects.specs.Tree.Tree.{Tree}
use Rattle.loom_engine.specs.Runs.Body.{Meaning, runs}
use Rattle.loom_engine.specs.Trees.Meeting.{Marking, machine_of, whole_search}
use Rattle.loom_engine.specs.Trees.Machines.{IsMarking}
use Rattle.loom_engine.specs.Trees.Outcomes.{outcome}
use Rattle.loom_engine.specs.Trees.Drive.{Trail, at_end}
use Rattle.loom_engine.specs.Trees.Sound.{IsSoundTree}
use Rattle.loom_engine.specs.Walk.Path.{IsAtRest, IsResting, Stored, choices, node_at, step}
use Rattle.loom_engine.specs.Walk.Driven.{IsLeftBy, IsOneOf}
use Rattle.loom_engine.specs.declared.rt.states.ways.Way.{Way}
use Rattle.loom_engine.specs.Covering.Between.{Leads}
use Rattle.loom_engine.specs.Covering.Covered.{Covers, IsGiven}
use Rattle.loom_engine.specs.Covering.Ways.{CanEnd, HasEnded}
use Rattle.loom_engine.specs.Covering.Cut.{with_run}
use Rattle.loom_engine.specs.Covering.Kept.{Key}
use Rattle.loom_engine.specs.Covering.Sight.{IsKnown, seen_by}
use Rattle.loom_engine.specs.Covering.States.{AreLimits, state_after}
use Rattle.loom_engine.specs.Covering.Table.{IsAlong, Notes, notes_more, notes_none}
use Rattle.loom_engine.specs.Covering.World.{IsCalled, world_of}
use Rattle.loom_engine.proofs.Covering.Cut.{in_world, later_rests, passed_to_end, round}
use Rattle.loom_engine.proofs.Covering.Leading.{AreMade, have_ways}
use Rattle.loom_engine.proofs.Covering.Lost.{AreLost}
use Rattle.loom_engine.proofs.Covering.Sight.{body_called, body_ends_law, body_lost, seen_body_law}
use Rattle.loom_engine.proofs.Covering.Table.{table_law}
use Rattle.loom_engine.proofs.Covering.Worlds.{world_ends}
use Rattle.loom_engine.proofs.Runs.Bodies.{run_tree_law}
use Rattle.loom_engine.proofs.Trees.Rounds.{empty_rests}

module _ {A K : Type 0} (room : ℕ) (adds : Marking) (tree : Tree A) (sound : IsSoundTree tree) (fair : IsMarking adds) (key : List Choice → K) where
  -- the path that comes next is one of the tree
  pub notes_rest : (table : List K) (left : List (List Stored)) (given : List (List Choice × A)) (p : List Stored) → Notes room adds tree key table left given p → IsResting (machine_of (whole_search room) adds tree) p
  notes_rest [] [] [] [] notes_none = empty_rests (machine_of (whole_search room) adds tree)
  notes_rest table left given p (notes_more old _ front first q _ came path notes along next) =
      later_rests room adds tree sound fair path.nodes p
      (round room adds tree sound fair along.stop q (Ok came) path (notes_rest old front first q notes) along.past along.comes).rests next

  module _ (old new : List K) (left : List (List Stored)) (given : List (List Choice × A)) (p : List Stored) (notes : Notes room adds tree key old left given p) where
    -- a run passes its path to the end
    pub all_passed : (came : Result (Option A) FailureKind) (path : Trail) → IsAlong room adds tree key old p came path new → path ≡ at_end path.nodes
    all_passed came path along = passed_to_end room adds tree sound fair along.stop p came path (notes_rest old left given p notes) along.past along.comes

    -- one that fails has the choices that lead to its failure
    pub fails_there : (kind : FailureKind) (path : Trail) → IsAlong room adds tree key old p (Err kind) path new → outcome room tree (choices path.nodes) ≡ Some (Err kind)
    fails_there kind path along = (round room adds tree sound fair along.stop p (Err kind) path (notes_rest old left given p notes) along.past along.comes).comes

    -- one that doesn't fail leaves a path that it made of its own, at rest
    pub left_there : (came : Option A) (path : Trail) → IsAlong room adds tree key old p (Ok came) path new → IsLeftBy p path.nodes
    left_there came path along = (round room adds tree sound fair along.stop p (Ok came) path (notes_rest old left given p notes) along.past along.comes).left_by

    pub rests_there : (came : Option A) (path : Trail) → IsAlong room adds tree key old p (Ok came) path new → (b : List Choice) (n : Stored) → node_at path.nodes b ≡ Some n → IsAtRest n
    rests_there came path along b n at = (round room adds tree sound fair along.stop p (Ok came) path (notes_rest old left given p notes) along.past along.comes).rests.rest b n at

    -- one that ended was given to the visitor, if this is among what it was given
    pub ended_there : (value : A) (path : Trail) → IsAlong room adds tree key old p (Ok (Some value)) path new → (lefts : List (List Stored)) (runs : List (List Choice × A)) → IsGiven (choices path.nodes) value runs
        → HasEnded (world_of tree) key lefts runs path.nodes
    ended_there value path along lefts runs was_given =
        let came : (world_of tree).outcome (choices path.nodes) ≡ Some (Ok value) =
        in_world room adds tree sound fair key lefts (choices path.nodes) value (round room adds tree sound fair along.stop p (Ok (Some value)) path (notes_rest old left given p notes) along.past along.comes).comes in
        record { value = value; over = world_ends tree (choices path.nodes) (Ok value) came; came = came; given = was_given }

module _ {D S : Type 0} (never : Bool) (next : Meaning D S) (explores : Bool) (max_threads max_steps room : ℕ) (adds : Marking) (fair : IsMarking adds) (body : S) (known : IsKnown never next body) where
  pub body_sound : IsSoundTree (runs next explores max_threads max_steps body)
  body_sound = (run_tree_law next explores max_threads max_steps body).sound

  -- where nothing is left each run is covered
  pub covers_all : (old new : List (Key D S)) (left : List (List Stored)) (given : List (List Choice × D)) (p : List Stored) (came : Option D) (path : Trail)
      → Notes room adds (runs next explores max_threads max_steps body) (state_after (seen_by never) next explores max_threads max_steps body) old left given p
      → IsAlong room adds (runs next explores max_threads max_steps body) (state_after (seen_by never) next explores max_threads max_steps body) old p (Ok came) path new → step path.nodes ≡ None
      → (limits : FailureKind → Bool) (steps_too : ℕ) → AreLimits limits
      → Covers limits (world_of (runs next explores max_threads max_steps body)) (world_of (runs next explores max_threads steps_too body)) (given ++ with_run (choices path.nodes) came [])
  covers_all old new left given p came path notes along none limits steps_too are =
      seen_body_law never limits next explores max_threads max_steps steps_too room adds body (left ++ path.nodes ∷ []) (given ++ with_run (choices path.nodes) came []) known are fair
      (table_law room adds (runs next explores max_threads max_steps body) (state_after (seen_by never) next explores max_threads max_steps body) old new left given p came path notes along none)

  -- and where each state that was noted reaches an end, its runs can end
  pub ends_all : (old new : List (Key D S)) (left : List (List Stored)) (given : List (List Choice × D)) (p : List Stored) (came : Option D) (path : Trail)
      → Notes room adds (runs next explores max_threads max_steps body) (state_after (seen_by never) next explores max_threads max_steps body) old left given p
      → IsAlong room adds (runs next explores max_threads max_steps body) (state_after (seen_by never) next explores max_threads max_steps body) old p (Ok came) path new → step path.nodes ≡ None
      → (led_by : List (List Choice)) (ways : List Way)
      → AreMade (world_of (runs next explores max_threads max_steps body)) (state_after (seen_by never) next explores max_threads max_steps body) (left ++ path.nodes ∷ []) (given ++ with_run (choices path.nodes) came []) led_by ways
      → ((n : ℕ) → n < length led_by → Leads ways (length led_by) None n) → (limits : FailureKind → Bool) → AreLimits limits → CanEnd limits (λ steps. world_of (runs next explores max_threads steps body))
  ends_all old new left given p came path notes along none led_by ways made reach limits are =
      body_ends_law never limits next explores max_threads max_steps room adds body (left ++ path.nodes ∷ []) (given ++ with_run (choices path.nodes) came []) known are fair
      (table_law room adds (runs next explores max_threads max_steps body) (state_after (seen_by never) next explores max_threads max_steps body) old new left given p came path notes along none)
      (have_ways (world_of (runs next explores max_threads max_steps body)) (state_after (seen_by never) next explores max_threads max_steps body) (left ++ path.nodes ∷ []) (given ++ with_run (choices path.nodes) came []) led_by ways made reach)

  -- the choices before a node are those that a run can make
  pub called_there : (old new : List (Key D S)) (left : List (List Stored)) (given : List (List Choice × D)) (p : List Stored) (came : Option D) (path : Trail)
      → Notes room adds (runs next explores max_threads max_steps body) (state_after (seen_by never) next explores max_threads max_steps body) old left given p
      → IsAlong room adds (runs next explores max_threads max_steps body) (state_after (seen_by never) next explores max_threads max_steps body) old p (Ok came) path new → step path.nodes ≡ None
      → (q : List Stored) (c : List Choice) (n : Stored) → IsOneOf q (left ++ path.nodes ∷ []) → node_at q c ≡ Some n → IsCalled (world_of (runs next explores max_threads max_steps body)) c
  called_there old new left given p came path notes along none q c n i at =
      body_called never next explores max_threads max_steps room adds body (left ++ path.nodes ∷ []) (given ++ with_run (choices path.nodes) came []) known fair
      (table_law room adds (runs next explores max_threads max_steps body) (state_after (seen_by never) next explores max_threads max_steps body) old new left given p came path notes along none) q c n i at

  -- no run ends that goes on from choices that are lost
  pub never_ends_there : (old new : List (Key D S)) (left : List (List Stored)) (given : List (List Choice × D)) (p : List Stored) (came : Option D) (path : Trail)
      → Notes room adds (runs next explores max_threads max_steps body) (state_after (seen_by never) next explores max_threads max_steps body) old left given p
      → IsAlong room adds (runs next explores max_threads max_steps body) (state_after (seen_by never) next explores max_threads max_steps body) old p (Ok came) path new → step path.nodes ≡ None
      → (IsLost : List Choice → Type 0) → AreLost (state_after (seen_by never) next explores max_threads max_steps body) (left ++ path.nodes ∷ []) IsLost → (steps_too : ℕ) (c more : List Choice) (value : D) → IsLost c
      → IsCalled (world_of (runs next explores max_threads steps_too body)) (c ++ more) → (world_of (runs next explores max_threads steps_too body)).outcome (c ++ more) ≡ Some (Ok value) → ⊥
  never_ends_there old new left given p came path notes along none IsLost lost steps_too c more value is called came_so =
      body_lost never next explores max_threads max_steps room adds body (left ++ path.nodes ∷ []) (given ++ with_run (choices path.nodes) came []) known fair
      (table_law room adds (runs next explores max_threads max_steps body) (state_after (seen_by never) next explores max_threads max_steps body) old new left given p came path notes along none) IsLost lost steps_too c more value is called came_so
