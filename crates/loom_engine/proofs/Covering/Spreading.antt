-- What a search has covered that is spread over parts, and what one of its runs adds to it.
use Rattle.std.proofs.Common.{◌≡◌, ◌⊎◌, ℕ, List, [], ◌∷◌, ◌++◌, Option, Some, Result, Ok, Err, refl, subst, inl, inr}
use Rattle.std.specs.List.{Contains}
use Rattle.loom_views.specs.declared.rt.failure.FailureKind.{FailureKind}
use Rattle.loom_objects.specs.declared.choice.Choice.{Choice}
use Rattle.loom_objects.specs.Tree.Tree.{Tree}
use Rattle.loom_engine.specs.Runs.Body.{runs}
use Rattle.loom_engine.specs.Trees.Drive.{Trail, at_end}
use Rattle.loom_engine.specs.Trees.Machines.{IsMarking}
use Rattle.loom_engine.specs.Trees.Meeting.{Marking, machine_of, whole_search}
use Rattle.loom_engine.specs.Trees.Outcomes.{outcome}
use Rattle.loom_engine.specs.Trees.Sound.{IsSoundTree}
use Rattle.loom_engine.specs.Walk.Driven.{IsLeftBy, IsOneOf}
use Rattle.loom_engine.specs.Walk.Machine.{Machine}
use Rattle.loom_engine.specs.Walk.Path.{Stored, choices}
use Rattle.loom_engine.specs.declared.rt.parts.Part.{Part as Kept}
use Rattle.loom_engine.specs.Parts.Keeping.{keys, part_of, views}
use Rattle.loom_engine.specs.Covering.Covered.{IsEnd, IsGiven, ended, met as was_met}
use Rattle.loom_engine.specs.Covering.Cut.{IsNoted, IsStop, with_run}
use Rattle.loom_engine.specs.Covering.Sight.{seen_by}
use Rattle.loom_engine.specs.Covering.Spread.{IsFull, SpreadBodyLaw, SpreadCoversLaw, SpreadLaw}
use Rattle.loom_engine.specs.Covering.States.{state_after}
use Rattle.loom_engine.specs.Covering.Table.{HasState, IsAlong}
use Rattle.loom_engine.specs.Covering.World.{World, world_of}
use Rattle.loom_engine.proofs.Covering.Covered.{cover_law}
use Rattle.loom_engine.proofs.Covering.Cut.{end_of, passed_to_end, round}
use Rattle.loom_engine.proofs.Covering.Sight.{states_sound}
use Rattle.loom_engine.proofs.Covering.Spread.{Holds, all_tried, holds}
use Rattle.loom_engine.proofs.Covering.Worlds.{met_more, world_ends}
use Rattle.loom_engine.specs.Parts.Floors.{step_above}
use Rattle.loom_engine.proofs.Covering.Left.{step_rests, step_skips_none}
use Rattle.loom_engine.proofs.Parts.Lows.{steps_above}
use Rattle.loom_engine.proofs.Parts.Giving.{same_part}
use Rattle.loom_engine.proofs.Parts.Lasting.{in_views}
use Rattle.loom_engine.proofs.Runs.Bodies.{run_tree_law}

-- ---- lists of parts

pub spread_law : SpreadLaw
spread_law m left parts at =
    let h = holds m left (views parts.list.items) at.0 (keys parts.trunk.items) [] at.1 in (
      (λ number q g. (h.kept (part_of q) (inl (in_views parts.list.items number q g))).full),
      (λ i j q d g k e. same_part parts.list.items [] i j q d h.bases_once g k e),
      λ e. all_tried m left at.0 (keys parts.trunk.items) (subst (λ (l : List Kept). Holds m left (views l) at.0 (keys parts.trunk.items) []) e h),
    )

pub spread_covers_law : {A K : Type 0} → SpreadCoversLaw A K
spread_covers_law limits v room adds tree key other left given parts sound_tree fair ends sound has none =
    let at = has.spread in
    let h = holds (machine_of (whole_search room) adds tree) left (views parts.list.items) at.0 (keys parts.trunk.items) [] at.1 in
    cover_law limits (world_of tree) v key other left given (world_ends tree) ends sound
    (record {
      driven = (spread_law (machine_of (whole_search room) adds tree) left parts at).2 none;
      tries = λ q i. (h.full q i).tries;
      meets = λ q i before n g. met_more room tree before n.made ((h.full q i).resting.meets before n g);
      ends = has.ends;
    })

pub spread_body_law : {D S : Type 0} → SpreadBodyLaw D S
spread_body_law never limits next explores max_threads max_steps steps_too room adds body left given parts known are fair has none =
    spread_covers_law limits (world_of (runs next explores max_threads steps_too body)) room adds (runs next explores max_threads max_steps body) (state_after (seen_by never) next explores max_threads max_steps body)
    (state_after (seen_by never) next explores max_threads steps_too body) left given parts (run_tree_law next explores max_threads max_steps body).sound fair (world_ends (runs next explores max_threads steps_too body))
    (states_sound next explores max_threads body limits are max_steps steps_too never known) has none

-- a path that goes on above a floor
pub full_step : (m : Machine) (k : ℕ) (q later : List Stored) → IsFull m q → step_above k q ≡ Some later → IsFull m later
full_step m k q later full s = let st = steps_above k q later s in record { resting = step_rests m q later st full.resting; tries = step_skips_none q later st full.tries }

-- ---- ends of runs

-- among more runs a run has ended so still
pub end_wider : {A K : Type 0} (w : World A) (key : List Choice → K) (left more : List (List Stored)) (runs given : List (List Choice × A)) → ((x : List Stored) → IsOneOf x left → IsOneOf x more)
    → ((c : List Choice) (value : A) → IsGiven c value runs → IsGiven c value given) → (q : List Stored) → IsEnd w key left runs q → IsEnd w key more given q
end_wider w key left more runs given sub all q (ended value none came g) = ended value none came (all (choices q) value g)
end_wider w key left more runs given sub all q (was_met n at y b k i node same) = was_met n at y b k (sub y i) node same

pub given_front : {A : Type 0} (c : List Choice) (value : A) (xs ys : List (List Choice × A)) → IsGiven c value xs → IsGiven c value (xs ++ ys)
given_front c value [] ys h = absurd h
given_front c value (x ∷ xs) ys (inl e) = inl e
given_front c value (x ∷ xs) ys (inr h) = inr (given_front c value xs ys h)

pub given_back : {A : Type 0} (c : List Choice) (value : A) (xs ys : List (List Choice × A)) → IsGiven c value ys → IsGiven c value (xs ++ ys)
given_back c value [] ys h = h
given_back c value (x ∷ xs) ys h = inr (given_back c value xs ys h)

-- ---- one run

module _ {A K : Type 0} (room : ℕ) (adds : Marking) (tree : Tree A) (sound : IsSoundTree tree) (fair : IsMarking adds) (key : List Choice → K) where
  -- each of these states is that of a node of these paths
  abbrev pub AreOfNodes : List K → List (List Stored) → Type 0
  AreOfNodes states left = (s : K) → Contains states s → (y : List Stored) × IsOneOf y left × HasState key y s

  module _ (old new : List K) (p : List Stored) (path : Trail) (full : IsFull (machine_of (whole_search room) adds tree) p) where
    -- it failed by these choices
    pub run_fails : (kind : FailureKind) → IsAlong room adds tree key old p (Err kind) path new → outcome room tree (choices path.nodes) ≡ Some (Err kind)
    run_fails kind along = (round room adds tree sound fair along.stop p (Err kind) path full.resting along.past along.comes).comes

    -- its path is passed to the end
    pub run_passes : (came : Result (Option A) FailureKind) → IsAlong room adds tree key old p came path new → path ≡ at_end path.nodes
    run_passes came along = passed_to_end room adds tree sound fair along.stop p came path full.resting along.past along.comes

    -- it ended, or was cut off in a state that was noted at a node of these paths or its own
    module _ (all : List (List Stored)) (of : AreOfNodes old all) (came : Option A) (along : IsAlong room adds tree key old p (Ok came) path new) where
      is_among : (s : K) → Contains old s ⊎ HasState key path.nodes s → (y : List Stored) × IsOneOf y (path.nodes ∷ all) × HasState key y s
      is_among s (inl t) = let y = of s t in (y.0, inr y.1, y.2)
      is_among s (inr h) = (path.nodes, inl refl, h)

      stops_so : IsStop key (path.nodes ∷ all) p along.stop
      stops_so = record { past = along.past; noted = λ c h. noted c (is_among (key c) (along.stops c h)) }
        where
          noted : (c : List Choice) → (y : List Stored) × IsOneOf y (path.nodes ∷ all) × HasState key y (key c) → IsNoted key (path.nodes ∷ all) c
          noted c (y, i, (b, n, at, e)) = (y, i, b, n, at, e)

      pub run_leaves : IsLeftBy p path.nodes × IsFull (machine_of (whole_search room) adds tree) path.nodes
      run_leaves =
          let r = round room adds tree sound fair along.stop p (Ok came) path full.resting along.past along.comes in
          (r.left_by, record { resting = r.rests; tries = r.skips_none full.tries })

      pub run_ends : (given : List (List Choice × A)) → IsEnd (world_of tree) key (path.nodes ∷ all) (with_run (choices path.nodes) came given) path.nodes
      run_ends given =
          end_of room adds tree sound fair key (path.nodes ∷ all) along.stop p path.nodes came given stops_so
          (round room adds tree sound fair along.stop p (Ok came) path full.resting along.past along.comes)

      pub run_notes : AreOfNodes new (path.nodes ∷ all)
      run_notes s t = is_among s (along.notes came refl s t)
