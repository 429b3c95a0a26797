-- A check under way that remembers states: its rounds so far, with the runs that its visitor was given.
use Rattle.std.proofs.Common.{◌≡◌, ◌<◌, ◌≤◌, ◌+◌, ◌⊎◌, ℕ, zero, suc, arith, Bool, true, false, List, [], ◌∷◌, ◌++◌, length, Option, Some, None, Result, Ok, Err, refl, ap, ap₂, sym, ◌∙◌, subst, inl, inr, append-nil, append_assoc, length-append}
use Rattle.std.specs.Prelude.{◌||◌, IfErr, IfOk, Vec, map, slice_get, slice_index_or}
use Rattle.serde_json.specs.Written.{compact_text}
use Rattle.std.specs.List.{Contains}
use Rattle.std.specs.declared.alloc.Global.{Global}
use Rattle.std.specs.declared.time.Duration.{Duration}
use Rattle.loom_views.specs.declared.rt.failure.FailureKind.{FailureKind}
use Rattle.loom_objects.specs.declared.choice.Choice.{Choice}
use Rattle.loom_objects.specs.declared.failure.Failure.{Failure}
use Rattle.loom_objects.specs.Tree.Tree.{Tree}
use Rattle.loom_engine.specs.declared.rt.path.node.Node.{Node}
use Rattle.loom_engine.specs.declared.rt.snapshots.Snapshot.{Snapshot}
use Rattle.loom_engine.specs.Runs.Body.{Meaning, runs}
use Rattle.loom_engine.specs.Trees.Drive.{Trail, at_end}
use Rattle.loom_engine.specs.Trees.Machines.{IsMarking}
use Rattle.loom_engine.specs.Trees.Marks.{marking}
use Rattle.loom_engine.specs.Trees.Meeting.{Settings, whole_search}
use Rattle.loom_engine.specs.Trees.Outcomes.{outcome}
use Rattle.loom_engine.specs.Trees.Sound.{EndsUnchosen, IsSoundTree}
use Rattle.loom_engine.specs.Walk.Path.{IsAtRest, Stored, choices, node_at, step}
use Rattle.loom_engine.specs.Walk.Driven.{IsLeftBy, IsOneOf}
use Rattle.loom_engine.specs.Walk.Lists.{Begins}
use Rattle.loom_engine.specs.Path.WellFormed.{AreAtRest}
use Rattle.loom_engine.specs.declared.rt.path.Search.{Search}
use Rattle.loom_engine.specs.Path.Route.{IsSameSearch, Route, at_rest, chosen, settings, stored, trail}
use Rattle.loom_engine.specs.Path.Steps.{Steps}
use Rattle.loom_engine.specs.Covering.Between.{AddsRun, IsReady, IsWhole, Leads, Tracks}
use Rattle.loom_engine.specs.Covering.Covered.{IsGiven}
use Rattle.loom_engine.specs.Covering.Cut.{with_run}
use Rattle.loom_engine.specs.Covering.Kept.{AreKeptAfter, Key, Noted, beside}
use Rattle.loom_engine.specs.Covering.Sight.{IsKnown, seen_by}
use Rattle.loom_engine.specs.Covering.States.{state_after}
use Rattle.loom_engine.specs.Covering.Table.{IsAlong, Notes, notes_more, notes_none}
use Rattle.loom_engine.specs.Covering.UnderWay.{HasNode}
use Rattle.loom_engine.specs.Covering.World.{IsCalled, world_of}
use Rattle.loom_engine.proofs.Covering.Coarser.{along_coarser, coarser, ends_coarser, key_coarser, keys_coarser, known_either, known_left, known_right, notes_coarser}
use Rattle.loom_engine.proofs.Covering.Kept.{has_at}
use Rattle.loom_engine.proofs.Covering.Leading.{AreMade, ComesTo, given_last, made_more, none_made, one_of_more, the_last}
use Rattle.loom_engine.proofs.Covering.Between.{at_place}
use Rattle.loom_engine.proofs.Covering.Lost.{AreLost}
use Rattle.loom_engine.proofs.Covering.Passing.{IsLost, LeadsAll, Passed, are_lost, is_ready, leads_all, passed_on}
use Rattle.loom_engine.proofs.Covering.Rounds.{all_passed, body_sound, called_there, covers_all, ended_there, ends_all, fails_there, left_there, never_ends_there, rests_there}
use Rattle.loom_engine.proofs.Runs.Bodies.{unchosen_law}
use Rattle.loom_engine.proofs.Trees.Marks.{marking_law}
use Rattle.loom.specs.declared.model.builder.Builder.{Builder}
use Rattle.loom.specs.declared.model.Limit.{Limit}
use Rattle.loom.specs.declared.model.cover.Covered.{Covered}
use Rattle.loom.specs.declared.model.cover.Covered.TheVariants.{Complete, Livelock, Stopped, Failed}
use Rattle.loom.specs.declared.model.cover.run.Ending.{Ending}
use Rattle.loom.specs.declared.model.cover.run.Ending.TheVariants as end
use Rattle.loom.specs.Model.CoverSnapshots.{AreLeft, AreLeftAfter}
use Rattle.loom.specs.Model.Cover.{AreNoted, EndsWith, Leaves, Meets, Noting, noting}
use Rattle.loom.specs.Model.Covered.{AllCanEnd, Claims, ClaimsTogether, Covering, CoveringAlone, FailsAlong, GoesOnLaw, HaveComeTo, IsCovered, IsHeld, IsPlaced, IsToldBy, NeverEnds, StopsBy, runs_in}
use Rattle.loom.specs.Model.CoverStores.{HeldBack, IsCoverBegun, IsCoverKept, IsCoverSaved, IsNoBeginning, IsNoReport}
use Rattle.loom.specs.Model.Refusals.{of_path}
use Rattle.loom.specs.declared.model.error.CheckError.{CheckError}
use Rattle.loom.specs.declared.model.error.CheckError.TheVariants.{Memory}
use Rattle.loom_engine.specs.declared.rt.path.checkpoint.error.PathError.{PathError}
use Rattle.std.specs.Result.{IsErrAnd}
use Rattle.loom.specs.Model.CoverText.{CoverReadsAs, IsCoverTextOf, IsNoCoverText, cover_data}
use Rattle.loom.specs.Model.Stores.{Keeps}
use Rattle.loom.specs.Model.Loop.{HasReached}
use Rattle.loom.specs.Model.Fresh.{Given}
use Rattle.loom.specs.Model.Settings.{explores}
use Rattle.loom.proofs.ModelLemmas.Checking.{given_more, one_longer, take_all}
use Rattle.loom.proofs.ModelLemmas.CoverFrom.{LieOff, has_behind, lost_among, notes_off, notes_well, off_new, off_still, one_behind, with_table}
use Rattle.loom.proofs.ModelLemmas.CoverTexts.{same_stored}

less_or_not : (a b : ℕ) → (a < b) ⊎ (b ≤ a)
less_or_not zero zero = inr (omega arith)
less_or_not zero (suc b) = inl (omega arith)
less_or_not (suc a) zero = inr (omega arith)
less_or_not (suc a) (suc b) = by (less_or_not a b)
  where
    by : (a < b) ⊎ (b ≤ a) → (suc a < suc b) ⊎ (suc b ≤ suc a)
    by (inl h) = inl (omega (arith, h))
    by (inr h) = inr (omega (arith, h))

nothing : {X : Type 0} (one : X) → Contains [] one → ⊥
nothing one (k, l, f) = omega arith

-- with the first runs come what one more is given
given_on : {D : Type 0} (before given : List (List Choice × D)) (c d : List Choice) (came : Option D) → d ≡ c → (before ++ given) ++ with_run c came [] ≡ before ++ (given ++ with_run d came [])
given_on before given c d came e = ap (λ (l : List Choice). (before ++ given) ++ with_run l came []) (sym e) ∙ append_assoc before given (with_run d came [])

module _ {V D S : Type 0} (b : Builder) (next : Meaning D S) (body : S) (takes : V → List Choice → D → V → Type 0) (old : V) where
  abbrev tree : Tree D
  tree = runs next (explores b) b.max_threads b.max_steps body

  -- the states, as they are seen of a body that is known never to switch whether the search explores, or of any
  abbrev key : Bool → List Choice → Key D S
  key known c = state_after (seen_by known) next (explores b) b.max_threads b.max_steps body c

  coarser_key : (one other : Bool) → (one ≡ true → other ≡ true) → (c : List Choice) → coarser other (key one c) ≡ key other c
  coarser_key one other h c = key_coarser next (explores b) b.max_threads b.max_steps body one other h c

  fair : IsMarking (marking None)
  fair = (marking_law None).0

  sound_tree : IsSoundTree tree
  sound_tree = body_sound false next (explores b) b.max_threads b.max_steps b.max_branches (marking None) fair body (λ is. absurd (cc is))

  shut : EndsUnchosen tree
  shut = unchosen_law next (explores b) b.max_threads b.max_steps body

  abbrev keys : Bool → Noted D S → List (Key D S)
  keys known noted = map (key known) noted.led_by

  -- each state that was noted was so at a node of one of these paths
  abbrev AreNodes : List (List Stored) → Noted D S → Type 0
  AreNodes left noted = (c : List Choice) → Contains noted.led_by c → (q : List Stored) × IsOneOf q left × HasNode q c

  -- none of these runs reaches where a state was noted
  abbrev AreApart : List (List Stored) → Noted D S → Type 0
  AreApart left noted = (c : List Choice) → Contains noted.led_by c → (x : List Stored) → IsOneOf x left → Begins c (choices x) → ⊥

  module _ (start : List Node) where
    -- The rounds so far with those of the checks before, which reached the path with which this one began. The states of all are told apart
    -- as they are where one of them knows that the body never switches, if one does.
    pub record Since (before : List (List Choice × D)) (came : HaveComeTo b next body start before) (never : Bool) (left : List (List Stored)) (given : List (List Choice × D)) (nodes : List Stored) (noted : Noted D S) (ways : Tracks) : Type 0 where
      pub table : List (Key D S)
      pub more : (s : Key D S) → Contains (keys (came.never || never) noted) s → Contains table s
      pub notes : Notes b.max_branches (marking None) tree (key (came.never || never)) table (came.left ++ left) (before ++ given) nodes
      pub made : AreMade (world_of tree) (key (came.never || never)) left given noted.led_by ways.ways
      pub passed : Passed (world_of tree) (key (came.never || never)) nodes left given noted.led_by ways
      pub off : LieOff came.left nodes
      pub apart : AreApart came.left noted

    -- the rounds so far, with the runs that the visitor was given
    pub record IsCovering (path : Route) (visitor : V) (count : ℕ) (noted : Noted D S) (ways : Tracks) : Type 0 where
      pub never : Bool
      pub is_never : noted.never ≡ never
      pub known : IsKnown never next body
      pub explained : AreKeptAfter (key noted.never) noted
      pub left : List (List Stored)
      pub given : List (List Choice × D)
      pub was_given : Given takes old given visitor
      pub counted : length given ≡ count
      pub nodes : AreNodes left noted
      pub rests : path ≡ at_rest (whole_search b.max_branches) (explores b) path.nodes
      pub since : (before : List (List Choice × D)) (came : HaveComeTo b next body start before) → Since before came never left given (stored path.nodes) noted ways

    -- from the beginning
    pub begun : start ≡ [] → HaveComeTo b next body start []
    begun e = record { never = false; known = λ is. absurd (cc is); kept = []; left = []; rounds = subst (λ (l : List Node). Notes b.max_branches (marking None) tree (key false) [] [] [] (stored l)) (sym e) notes_none }

    -- after a step the path rests again
    rests_on : (path after later : Route) → path ≡ at_rest (whole_search b.max_branches) (explores b) path.nodes → IsSameSearch path after → later ≡ at_rest after.search after.explores later.nodes
        → later ≡ at_rest (whole_search b.max_branches) (explores b) later.nodes
    rests_on path after later rests same e =
        e ∙ ap₂ (λ (s : Settings) (x : Bool). at_rest s x later.nodes) (same.0 ∙ ap (λ (p : Route). p.search) rests) (same.1 ∙ ap (λ (p : Route). p.explores) rests)

    start_passed : (never : Bool) → Passed (world_of tree) (key never) (stored start) [] [] [] (record { ways = []; passed = [] })
    start_passed never = record { made = λ q i. absurd i; noted = λ n c e. absurd (cc e); linked = tt; inside = λ n has. absurd (nothing n has); leads = λ q i. absurd i }

    pub covering_starts : (path : Route) (noted : Noted D S) (never : Bool) (ways : Tracks) → path ≡ at_rest (whole_search b.max_branches) (explores b) path.nodes → path.nodes ≡ start → noted ≡ record { states = []; led_by = []; never = never }
        → IsKnown never next body → ways ≡ record { ways = []; passed = [] } → IsCovering path old 0 noted ways
    covering_starts path noted never ways rests same none known no_ways =
        subst (λ (x : Noted D S). IsCovering path old 0 x ways) (sym none) (subst (λ (l : Tracks). IsCovering path old 0 (record { states = []; led_by = []; never = never }) l) (sym no_ways) begins)
      where
        begins_since : (before : List (List Choice × D)) (came : HaveComeTo b next body start before) → Since before came never [] [] (stored start) (record { states = []; led_by = []; never = never }) (record { ways = []; passed = [] })
        begins_since before came =
            let now : Bool = came.never || never in
            record {
              table = map (coarser now) came.kept;
              more = λ s h. absurd (nothing s h);
              notes = subst (λ (l : List (List Stored)). Notes b.max_branches (marking None) tree (key now) (map (coarser now) came.kept) l (before ++ []) (stored start)) (sym (append-nil came.left))
                  (subst (λ (l : List (List Choice × D)). Notes b.max_branches (marking None) tree (key now) (map (coarser now) came.kept) came.left l (stored start)) (sym (append-nil before))
                  (notes_coarser (key came.never) (key now) (coarser now) (coarser_key came.never now (known_left came.never never)) b.max_branches (marking None) tree came.kept came.left before (stored start) came.rounds));
              made = none_made (world_of tree) (key now) [];
              passed = start_passed now;
              off = notes_off b.max_branches tree sound_tree fair (key came.never) came.kept came.left before (stored start) came.rounds;
              apart = λ c has. absurd (nothing c has);
            }

        begins : IsCovering path old 0 (record { states = []; led_by = []; never = never }) (record { ways = []; passed = [] })
        begins = record {
          never = never;
          is_never = refl;
          known = known;
          explained = record { counted = refl; each = λ k one at. absurd (cc at) };
          left = [];
          given = [];
          was_given = refl;
          counted = refl;
          nodes = λ c has. absurd (nothing c has);
          rests = rests;
          since = λ before came.
              subst (λ (l : List Node). Since before came never [] [] (stored l) (record { states = []; led_by = []; never = never }) (record { ways = []; passed = [] })) (sym same) (begins_since before came);
        }

    -- the ways of a run were added
    pub record HasAdded (noted more : Noted D S) (made : List Choice) (to : Option ℕ) (ways grown : Tracks) : Type 0 where
      pub adds : AddsRun more.led_by made to ways.ways grown.ways
      pub whole : IsReady more.led_by made (length noted.states) ways → IsWhole more.led_by made (length noted.states) to ways grown

    -- ---- a run of a round

    -- it notes states along this path
    abbrev pub along : Route → Noted D S → Noting D S
    along path noted = record { room = b.max_branches; explores = explores b; max_threads = b.max_threads; max_steps = b.max_steps; body = body; path = stored path.nodes; old = noted }

    same_noting : (path : Route) (threads steps : ℕ) (noted : Noted D S) → threads ≡ b.max_threads → steps ≡ b.max_steps → path ≡ at_rest (whole_search b.max_branches) (explores b) path.nodes
        → noting threads steps body path noted ≡ along path noted
    same_noting path threads steps noted e f rests =
        ap (λ (r : Route). noting threads steps body r noted) rests
        ∙ ap (λ (n : ℕ). noting n steps body (at_rest (whole_search b.max_branches) (explores b) path.nodes) noted) e
        ∙ ap (λ (n : ℕ). noting b.max_threads n body (at_rest (whole_search b.max_branches) (explores b) path.nodes) noted) f

    pub ran_so : (path : Route) (threads steps : ℕ) (noted : Noted D S) (ending : Ending D) (after : Route) (more : Noted D S) → threads ≡ b.max_threads → steps ≡ b.max_steps
        → path ≡ at_rest (whole_search b.max_branches) (explores b) path.nodes → AreKeptAfter (key noted.never) noted
        → (AreNoted next (noting threads steps body path noted) → EndsWith next (noting threads steps body path noted) ending after more) → EndsWith next (along path noted) ending after more
    ran_so path threads steps noted ending after more e f rests are h =
        let same = same_noting path threads steps noted e f rests in
        subst (λ (r : Noting D S). EndsWith next r ending after more) same (h (subst (λ (r : Noting D S). AreNoted next r) (sym same) are))

    -- where no states are known besides
    pub ran_alone : (path : Route) (threads steps : ℕ) (known noted : Noted D S) (ending : Ending D) (after : Route) (more : Noted D S) → threads ≡ b.max_threads → steps ≡ b.max_steps
        → path ≡ at_rest (whole_search b.max_branches) (explores b) path.nodes → known ≡ record { states = []; led_by = []; never = false } → AreKeptAfter (key noted.never) noted
        → (AreNoted next (noting threads steps body path (beside known noted)) → EndsWith next (noting threads steps body path (beside known noted)) ending after (beside known more)) → EndsWith next (along path noted) ending after more
    ran_alone path threads steps known noted ending after more e f rests none are h =
        ran_so path threads steps noted ending after more e f rests are
        (subst (λ (k : Noted D S). AreNoted next (noting threads steps body path (beside k noted)) → EndsWith next (noting threads steps body path (beside k noted)) ending after (beside k more)) none h)

    -- and what is kept of runs may be gone on with after it
    pub left_after : (path : Route) (threads steps : ℕ) (known noted : Noted D S) (ending : Ending D) (after : Route) (list : List (Snapshot D S)) → threads ≡ b.max_threads → steps ≡ b.max_steps
        → path ≡ at_rest (whole_search b.max_branches) (explores b) path.nodes → known ≡ record { states = []; led_by = []; never = false } → AreKeptAfter (key noted.never) noted
        → (AreNoted next (noting threads steps body path (beside known noted)) → AreLeftAfter next path.search.max_branches path.explores threads steps body ending after.nodes list)
        → AreLeftAfter next b.max_branches (explores b) b.max_threads b.max_steps body ending after.nodes list
    left_after path threads steps known noted ending after list e f rests none are h =
        let same = same_noting path threads steps noted e f rests in
        let left_alone : (AreNoted next (noting threads steps body path noted) → AreLeftAfter next path.search.max_branches path.explores threads steps body ending after.nodes list) =
        subst (λ (k : Noted D S). AreNoted next (noting threads steps body path (beside k noted)) → AreLeftAfter next path.search.max_branches path.explores threads steps body ending after.nodes list) none h in
        subst (λ (r : Noting D S). AreLeftAfter next r.room r.explores r.max_threads r.max_steps body ending after.nodes list) same (left_alone (subst (λ (r : Noting D S). AreNoted next r) (sym same) are))

    -- before it they are those of its path
    pub left_before : (path : Route) (threads steps : ℕ) (noted : Noted D S) (list : List (Snapshot D S)) → threads ≡ b.max_threads → steps ≡ b.max_steps → path ≡ at_rest (whole_search b.max_branches) (explores b) path.nodes
        → AreLeft next b.max_branches (explores b) b.max_threads b.max_steps body path.nodes list → AreLeft next path.search.max_branches path.explores threads steps body path.nodes list
    left_before path threads steps noted list e f rests h =
        subst (λ (r : Noting D S). AreLeft next r.room r.explores r.max_threads r.max_steps body path.nodes list) (sym (same_noting path threads steps noted e f rests)) h

    -- ---- rounds

    module _ (path : Route) (visitor : V) (count : ℕ) (noted : Noted D S) (ways : Tracks) (z : IsCovering path visitor count noted ways) where
      -- the path is one with which a check may go on
      module _ (before : List (List Choice × D)) (came : HaveComeTo b next body start before) where
        -- what is known by this check, or by one before
        abbrev either_knows : Bool
        either_knows = came.never || z.never

        known_by_either : IsKnown either_knows next body
        known_by_either = known_either next body came.never z.never came.known z.known

        -- the states are told apart by no more than they are in this check alone
        coarser_by_either : (c : List Choice) → coarser either_knows (key noted.never c) ≡ key either_knows c
        coarser_by_either = coarser_key noted.never either_knows (λ e. known_right came.never z.never (sym z.is_never ∙ e))

        pub comes_here : HaveComeTo b next body path.nodes (before ++ z.given)
        comes_here = let w = z.since before came in record { never = either_knows; known = known_by_either; kept = w.table; left = came.left ++ z.left; rounds = w.notes }

        pub rests_here : AreAtRest (stored path.nodes)
        rests_here = let w = z.since before came in notes_well b.max_branches tree sound_tree fair (key either_knows) shut w.table (came.left ++ z.left) (before ++ z.given) (stored path.nodes) w.notes

        -- a run was made, and left the path and what was noted so
        module _ (after : Route) (new : List (Key D S)) where
          along_all : (ending : Result (Option D) FailureKind) → IsAlong b.max_branches (marking None) tree (key noted.never) (keys noted.never noted) (stored path.nodes) ending (trail after) new
              → IsAlong b.max_branches (marking None) tree (key either_knows) (z.since before came).table (stored path.nodes) ending (trail after) ((z.since before came).table ++ map (coarser either_knows) new)
          along_all ending is =
              with_table b.max_branches tree sound_tree fair (key either_knows) (keys either_knows noted) (z.since before came).table (map (coarser either_knows) new) (stored path.nodes) ending (trail after) (z.since before came).more
              (subst (λ (l : List (Key D S)). IsAlong b.max_branches (marking None) tree (key either_knows) l (stored path.nodes) ending (trail after) (map (coarser either_knows) new))
              (keys_coarser (key noted.never) (key either_knows) (coarser either_knows) coarser_by_either noted.led_by)
              (along_coarser (key noted.never) (key either_knows) (coarser either_knows) coarser_by_either b.max_branches (marking None) tree (keys noted.never noted) new (stored path.nodes) ending (trail after) is))

          -- its path was passed to the end
          pub chosen_all : (ending : Result (Option D) FailureKind) → IsAlong b.max_branches (marking None) tree (key noted.never) (keys noted.never noted) (stored path.nodes) ending (trail after) new → chosen after ≡ choices (stored after.nodes)
          chosen_all ending is =
              let w = z.since before came in
              let end : trail after ≡ at_end (stored after.nodes) =
              all_passed b.max_branches (marking None) tree sound_tree fair (key either_knows) w.table (w.table ++ map (coarser either_knows) new) (came.left ++ z.left) (before ++ z.given) (stored path.nodes) w.notes ending (trail after) (along_all ending is) in
              ap choices (take_all (stored after.nodes) after.position (ap (λ (t : Trail). t.position) end))

          -- it failed
          pub covering_fails : (kind : FailureKind) → IsAlong b.max_branches (marking None) tree (key noted.never) (keys noted.never noted) (stored path.nodes) (Err kind) (trail after) new → outcome b.max_branches tree (chosen after) ≡ Some (Err kind)
          covering_fails kind is =
              let w = z.since before came in
              ap (λ (c : List Choice). outcome b.max_branches tree c) (chosen_all (Err kind) is)
              ∙ fails_there b.max_branches (marking None) tree sound_tree fair (key either_knows) w.table (w.table ++ map (coarser either_knows) new) (came.left ++ z.left) (before ++ z.given) (stored path.nodes) w.notes kind (trail after) (along_all (Err kind) is)

      -- it ended or was given up, and its ways were added
      module _ (after : Route) (more : Noted D S) (ending : Option D) (left_so : Leaves next (along path noted) (Ok ending) after more) (to : Option ℕ) (made : List Choice) (is_made : made ≡ chosen after)
          (grown : Tracks) (added : HasAdded noted more made to ways grown) where
        abbrev now_left : List (List Stored)
        now_left = z.left ++ stored after.nodes ∷ []

        abbrev now_given : List (List Choice × D)
        now_given = z.given ++ with_run (chosen after) ending []

        all_nodes : AreNodes now_left more
        all_nodes c has = by (left_so.0.known c has)
          where
            by : Contains noted.led_by c ⊎ HasNode (stored after.nodes) c → (q : List Stored) × IsOneOf q (z.left ++ stored after.nodes ∷ []) × HasNode q c
            by (inl there) = let n = z.nodes c there in (n.0, one_of_more (world_of tree) (key z.never) (stored after.nodes) z.left n.0 n.1, n.2)
            by (inr there) = (stored after.nodes, the_last (world_of tree) (key z.never) (stored after.nodes) z.left, there)

        module _ (before : List (List Choice × D)) (came : HaveComeTo b next body start before)
            (comes : ComesTo (world_of tree) (key (either_knows before came)) (z.left ++ stored after.nodes ∷ []) (z.given ++ with_run (chosen after) ending []) more.led_by (stored after.nodes) to) where
          abbrev w : Since before came z.never z.left z.given (stored path.nodes) noted ways
          w = z.since before came

          -- what the run noted
          abbrev new_keys : List (Key D S)
          new_keys = map (coarser (either_knows before came)) (keys noted.never more)

          abbrev Along : List (Key D S) → List (Key D S) → Type 0
          Along table new = IsAlong b.max_branches (marking None) tree (key (either_knows before came)) table (stored path.nodes) (Ok ending) (trail after) new

          along_so : Along w.table (w.table ++ new_keys)
          along_so = along_all before came after (keys noted.never more) (Ok ending) left_so.1

          chosen_so : chosen after ≡ choices (stored after.nodes)
          chosen_so = chosen_all before came after (keys noted.never more) (Ok ending) left_so.1

          all_chosen : made ≡ choices (stored after.nodes)
          all_chosen = is_made ∙ chosen_so

          lefts_so : (came.left ++ z.left) ++ stored after.nodes ∷ [] ≡ came.left ++ now_left
          lefts_so = append_assoc came.left z.left (stored after.nodes ∷ [])

          givens_so : (before ++ z.given) ++ with_run (choices (stored after.nodes)) ending [] ≡ before ++ now_given
          givens_so = given_on before z.given (choices (stored after.nodes)) (chosen after) ending chosen_so

          all_made : AreMade (world_of tree) (key (either_knows before came)) now_left now_given more.led_by grown.ways
          all_made =
              made_more (world_of tree) (key (either_knows before came)) z.left z.given (with_run (chosen after) ending []) (stored after.nodes) noted.led_by more.led_by left_so.0.grows to comes ways.ways grown.ways
              (subst (λ (l : List Choice). AddsRun more.led_by l to ways.ways grown.ways) all_chosen added.adds) w.made

          -- what the path says of the run
          left_by : IsLeftBy (stored path.nodes) (stored after.nodes)
          left_by = left_there b.max_branches (marking None) tree sound_tree fair (key (either_knows before came)) w.table (w.table ++ new_keys) (came.left ++ z.left) (before ++ z.given) (stored path.nodes) w.notes ending (trail after) along_so

          rests_so : (c : List Choice) (n : Stored) → node_at (stored after.nodes) c ≡ Some n → IsAtRest n
          rests_so = rests_there b.max_branches (marking None) tree sound_tree fair (key (either_knows before came)) w.table (w.table ++ new_keys) (came.left ++ z.left) (before ++ z.given) (stored path.nodes) w.notes ending (trail after) along_so

          as_many : length noted.states ≡ length noted.led_by
          as_many = sym z.explained.counted

          whole : IsWhole more.led_by (choices (stored after.nodes)) (length noted.led_by) to ways grown
          whole =
              subst (λ (n : ℕ). IsReady more.led_by (choices (stored after.nodes)) n ways → IsWhole more.led_by (choices (stored after.nodes)) n to ways grown) as_many
              (subst (λ (l : List Choice). IsReady more.led_by l (length noted.states) ways → IsWhole more.led_by l (length noted.states) to ways grown) all_chosen added.whole)
              (is_ready (world_of tree) (key (either_knows before came)) (stored path.nodes) (stored after.nodes) z.left z.given (with_run (chosen after) ending []) noted.led_by more.led_by ways grown w.passed left_by rests_so left_so.0.grows left_so.0.later.there left_so.0.later.ordered)

          all_leads : (q : List Stored) → IsOneOf q now_left → LeadsAll (world_of tree) (key (either_knows before came)) now_left now_given more.led_by grown.ways q
          all_leads =
              leads_all (world_of tree) (key (either_knows before came)) (stored path.nodes) (stored after.nodes) z.left z.given (with_run (chosen after) ending []) noted.led_by more.led_by ways grown w.passed left_by rests_so left_so.0.grows left_so.0.later.there left_so.0.later.ordered to comes whole

          -- no earlier run reaches where a state was noted
          all_apart : AreApart came.left more
          all_apart c has x i begins = by has (less_or_not has.0 (length noted.led_by))
            where
              at : (has : Contains more.led_by c) → slice_get more.led_by has.0 ≡ Some c
              at (k, l, e) = at_place more.led_by k c l ∙ ap Some e

              by : (has : Contains more.led_by c) → (has.0 < length noted.led_by) ⊎ (length noted.led_by ≤ has.0) → ⊥
              by (k, l, e) (inl less) =
                  let here : slice_get noted.led_by k ≡ Some (slice_index_or noted.led_by k c) = at_place noted.led_by k c less in
                  let same : slice_index_or noted.led_by k c ≡ c = cc (left_so.0.grows k (slice_index_or noted.led_by k c) here, at (k, l, e)) in
                  w.apart c (k, less, same) x i begins
              by (k, l, e) (inr late) =
                  let n = left_so.0.later.there k c late (at (k, l, e)) in
                  off_new came.left (stored path.nodes) (stored after.nodes) left_by rests_so w.off c n.0 n.1 x i begins

          -- a step goes on
          since_on : (later : List Stored) → step (stored after.nodes) ≡ Some later → Since before came z.never now_left now_given later more grown
          since_on later steps = record {
            table = w.table ++ new_keys;
            more = λ s h.
                has_behind w.table new_keys s
                (subst (λ (l : List (Key D S)). Contains l s) (sym (keys_coarser (key noted.never) (key (either_knows before came)) (coarser (either_knows before came)) (coarser_by_either before came) more.led_by)) h);
            notes = subst (λ (l : List (List Stored)). Notes b.max_branches (marking None) tree (key (either_knows before came)) (w.table ++ new_keys) l (before ++ now_given) later) lefts_so
                (subst (λ (l : List (List Choice × D)). Notes b.max_branches (marking None) tree (key (either_knows before came)) (w.table ++ new_keys) ((came.left ++ z.left) ++ stored after.nodes ∷ []) l later) givens_so
                (notes_more w.table (w.table ++ new_keys) (came.left ++ z.left) (before ++ z.given) (stored path.nodes) later ending (trail after) w.notes along_so steps));
            made = all_made;
            passed =
                passed_on (world_of tree) (key (either_knows before came)) (stored path.nodes) (stored after.nodes) z.left z.given (with_run (chosen after) ending []) noted.led_by more.led_by ways grown w.passed left_by rests_so left_so.0.grows left_so.0.later.there left_so.0.later.ordered to comes whole later steps;
            off = off_still came.left (stored path.nodes) (stored after.nodes) later left_by steps w.off;
            apart = all_apart;
          }

          -- none is left
          module _ (none : step (stored after.nodes) ≡ None) where
            covering_ends : IsCovered b next body (before ++ now_given)
            covering_ends =
                subst (IsCovered b next body) givens_so
                (λ limits steps_too are.
                covers_all (either_knows before came) next (explores b) b.max_threads b.max_steps b.max_branches (marking None) fair body (known_by_either before came) w.table (w.table ++ new_keys) (came.left ++ z.left) (before ++ z.given) (stored path.nodes) ending (trail after) w.notes along_so none limits steps_too are)

            lost_called : (lost : ℕ) (c : List Choice) → slice_get more.led_by lost ≡ Some c → IsCalled (world_of tree) c
            lost_called lost c at =
                let n = all_nodes c (has_at more.led_by lost c at) in
                let among : IsOneOf n.0 ((came.left ++ z.left) ++ stored after.nodes ∷ []) = subst (IsOneOf n.0) (sym lefts_so) (one_behind n.0 came.left now_left n.1) in
                called_there (either_knows before came) next (explores b) b.max_threads b.max_steps b.max_branches (marking None) fair body (known_by_either before came) w.table (w.table ++ new_keys) (came.left ++ z.left) (before ++ z.given) (stored path.nodes) ending (trail after) w.notes along_so none n.0 c n.2.node among n.2.at

            -- no run goes on from there to an end
            lost_never : (lost : ℕ) (c : List Choice) → slice_get more.led_by lost ≡ Some c → (Leads grown.ways (length more.led_by) None lost → ⊥) → NeverEnds b next body (before ++ now_given) c
            lost_never lost c at none_reaches = record {
              called = lost_called lost c at;
              never = λ steps_too on value called came_so.
                  never_ends_there (either_knows before came) next (explores b) b.max_threads b.max_steps b.max_branches (marking None) fair body (known_by_either before came) w.table (w.table ++ new_keys) (came.left ++ z.left) (before ++ z.given) (stored path.nodes) ending (trail after) w.notes along_so none
                  (IsLost (world_of tree) (key (either_knows before came)) now_left now_given more.led_by grown.ways all_nodes all_leads)
                  (subst (λ (l : List (List Stored)). AreLost (key (either_knows before came)) l (IsLost (world_of tree) (key (either_knows before came)) now_left now_given more.led_by grown.ways all_nodes all_leads)) (sym lefts_so)
                  (lost_among (key (either_knows before came)) came.left now_left (IsLost (world_of tree) (key (either_knows before came)) now_left now_given more.led_by grown.ways all_nodes all_leads)
                  (are_lost (world_of tree) (key (either_knows before came)) now_left now_given more.led_by grown.ways all_nodes all_leads) (λ d is. all_apart d (has_at more.led_by is.0 d is.1))))
                  steps_too c on value (lost, at, none_reaches) called came_so;
            }

            -- what is claimed
            claims_so : (holds : Option (List ℕ) → Type 0) (covered : Covered) (now : ℕ) → IsToldBy grown.ways more.led_by now covered → ClaimsTogether b next body holds before now_given covered
            claims_so holds (Complete count met states) now (same, reach) = covering_ends
            claims_so holds (Livelock count met states list) now (same, lost, first, at) = (covering_ends, lost_never lost list.items at first.1)
            claims_so holds (Stopped count met states limit) now wrong = absurd wrong
            claims_so holds (Failed count met states failure list) now wrong = absurd wrong

        -- from the beginning its runs can end, where all states lead to an end
        module _ (e : start ≡ []) (comes : ComesTo (world_of tree) (key (either_knows [] (begun e))) (z.left ++ stored after.nodes ∷ []) (z.given ++ with_run (chosen after) ending []) more.led_by (stored after.nodes) to) (none : step (stored after.nodes) ≡ None) where
          all_can_end : ((n : ℕ) → n < length more.led_by → Leads grown.ways (length more.led_by) None n) → AllCanEnd b next body now_given
          unfolding begun
          all_can_end reach limits are =
              let w = z.since [] (begun e) in
              ends_all (either_knows [] (begun e)) next (explores b) b.max_threads b.max_steps b.max_branches (marking None) fair body (known_by_either [] (begun e)) w.table (w.table ++ new_keys [] (begun e) comes) z.left z.given (stored path.nodes) ending (trail after) w.notes (along_so [] (begun e) comes) none more.led_by grown.ways
              (subst (λ (l : List Choice). AreMade (world_of tree) (key (either_knows [] (begun e))) now_left (z.given ++ with_run l ending []) more.led_by grown.ways) (chosen_so [] (begun e) comes) (all_made [] (begun e) comes)) reach limits are

          fresh_so : (answered : Duration → Type 0) (holds : Option (List ℕ) → Type 0) (covered : Covered) (now : ℕ) → IsToldBy grown.ways more.led_by now covered → Claims b next body now_given answered covered
          fresh_so answered holds (Complete count met states) now (same, reach) = (covering_ends [] (begun e) comes none, all_can_end reach)
          fresh_so answered holds (Livelock count met states list) now (same, lost, first, at) = (covering_ends [] (begun e) comes none, lost_never [] (begun e) comes none lost list.items at first.1)
          fresh_so answered holds (Stopped count met states limit) now wrong = absurd wrong
          fresh_so answered holds (Failed count met states failure list) now wrong = absurd wrong

    -- ---- what the store holds

    -- what the store may hold is a text of a path to which the checks have come, so many runs ago at most
    pub record IsBehind (before given : List (List Choice × D)) (holds : Option (List ℕ) → Type 0) (most : ℕ) : Type 0 where
      pub text : Option (List ℕ)
      pub held : holds text
      pub last : List Node
      pub reads : CoverReadsAs (whole_search b.max_branches) (explores b) text last
      pub front : List (List Choice × D)
      pub behind : List (List Choice × D)
      pub splits : given ≡ front ++ behind
      pub few : length behind ≤ most
      pub goes_on : HaveComeTo b next body last (before ++ front)

    held_by : (before given : List (List Choice × D)) (holds : Option (List ℕ) → Type 0) (most : ℕ) → most ≤ b.checkpoint_interval → IsBehind before given holds most → IsHeld b next body holds before given
    held_by before given holds most within z = record {
      text = z.text;
      held = z.held;
      last = z.last;
      reads = z.reads;
      front = z.front;
      behind = z.behind;
      splits = z.splits;
      few = omega (arith, z.few, within);
      goes_on = z.goes_on;
    }

    -- no run is made meanwhile
    stays_behind : (before given : List (List Choice × D)) (holds now : Option (List ℕ) → Type 0) (most : ℕ) → Keeps holds now → IsBehind before given holds most → IsBehind before given now most
    stays_behind before given holds now most keeps z = record {
      text = z.text;
      held = keeps z.text z.held;
      last = z.last;
      reads = z.reads;
      front = z.front;
      behind = z.behind;
      splits = z.splits;
      few = z.few;
      goes_on = z.goes_on;
    }

    -- one run more is made
    falls_behind : (before given more : List (List Choice × D)) (holds : Option (List ℕ) → Type 0) (most : ℕ) → length more ≤ 1 → IsBehind before given holds most → IsBehind before (given ++ more) holds (most + 1)
    falls_behind before given more holds most one z = record {
      text = z.text;
      held = z.held;
      last = z.last;
      reads = z.reads;
      front = z.front;
      behind = z.behind ++ more;
      splits = ap (λ (l : List (List Choice × D)). l ++ more) z.splits ∙ append_assoc z.front z.behind more;
      few = omega (arith, one, z.few, length-append z.behind more);
      goes_on = z.goes_on;
    }

  one_at_most : (c : List Choice) (came : Option D) → length (with_run c came []) ≤ 1
  one_at_most c None = omega arith
  one_at_most c (Some value) = omega arith

  steps_so : (nodes later : List Node) (one other : Bool) → Steps nodes one later → one ≡ other → Steps nodes other later
  steps_so nodes later one other steps e = subst (λ (x : Bool). Steps nodes x later) e steps

  told_counts : (ways : Tracks) (led_by : List (List Choice)) (count : ℕ) (covered : Covered) (answered : Duration → Type 0) → IsToldBy ways.ways led_by count covered → (runs_in covered ≡ count) × StopsBy answered b covered × IsPlaced b covered
  told_counts ways led_by count (Complete number met states) answered (same, reach) = (same, tt, tt)
  told_counts ways led_by count (Livelock number met states choices) answered (same, lost, first, at) = (same, tt, tt)
  told_counts ways led_by count (Stopped number met states limit) answered wrong = absurd wrong
  told_counts ways led_by count (Failed number met states failure choices) answered wrong = absurd wrong

  module _ (gives : Option (List ℕ) → Type 0) where
    -- a check under way, whose store is so many runs behind at most
    pub record IsChecking (holds : Option (List ℕ) → Type 0) (path : Route) (visitor : V) (count most : ℕ) (noted : Noted D S) (ways : Tracks) : Type 0 where
      pub text : Option (List ℕ)
      pub gave : gives text
      pub start : List Node
      pub reads : CoverReadsAs (whole_search b.max_branches) (explores b) text start
      pub covering : IsCovering start path visitor count noted ways
      pub behind : (before : List (List Choice × D)) → HaveComeTo b next body start before → IsBehind start before covering.given holds most

    pub checking_starts : (holds : Option (List ℕ) → Type 0) (path : Route) (noted : Noted D S) (ways : Tracks) → IsCoverBegun b gives holds path → (never : Bool) → noted ≡ record { states = []; led_by = []; never = never } → IsKnown never next body → ways ≡ record { ways = []; passed = [] }
        → IsChecking holds path old 0 0 noted ways
    checking_starts holds path noted ways z never none known no_ways =
        let covering = covering_starts path.nodes path noted never ways z.rests refl none known no_ways in
        record {
          text = z.text;
          gave = z.gave;
          start = path.nodes;
          reads = z.reads;
          covering = covering;
          behind = λ before came. record {
            text = z.text;
            held = z.held;
            last = path.nodes;
            reads = z.reads;
            front = [];
            behind = covering.given;
            splits = refl;
            few = omega (arith, covering.counted);
            goes_on = subst (HaveComeTo b next body path.nodes) (sym (append-nil before)) came;
          };
        }

    module _ (holds : Option (List ℕ) → Type 0) (path : Route) (visitor : V) (count most : ℕ) (noted : Noted D S) (ways : Tracks) (z : IsChecking holds path visitor count most noted ways) where
      reads_here : (text : List ℕ) (now : Option (List ℕ) → Type 0) → IsCoverSaved path now text → (before : List (List Choice × D)) → HaveComeTo b next body z.start before
          → IsCoverTextOf (whole_search b.max_branches) (explores b) text path.nodes
      reads_here text now saved before came =
          subst (λ (p : Route). IsCoverTextOf p.search p.explores text path.nodes) z.covering.rests (saved.reads (rests_here z.start path visitor count noted ways z.covering before came))

      -- the path was saved
      saved_here : (now : Option (List ℕ) → Type 0) (text : List ℕ) → IsCoverSaved path now text → (before : List (List Choice × D)) → HaveComeTo b next body z.start before → IsBehind z.start before z.covering.given now 0
      saved_here now text saved before came = record {
        text = Some text;
        held = saved.held;
        last = path.nodes;
        reads = reads_here text now saved before came;
        front = z.covering.given;
        behind = [];
        splits = sym (append-nil z.covering.given);
        few = omega arith;
        goes_on = comes_here z.start path visitor count noted ways z.covering before came;
      }

      -- what the store may hold where the check ends here by an error
      pub checking_left : (now : Option (List ℕ) → Type 0) → most ≤ b.checkpoint_interval → Keeps holds now → HeldBack b next body gives now
      checking_left now few keeps = record {
        text = z.text;
        gave = z.gave;
        path = z.start;
        reads = z.reads;
        given = z.covering.given;
        held = λ before came. held_by z.start before z.covering.given now most few (stays_behind z.start before z.covering.given holds now most keeps (z.behind before came));
      }

      -- the path was saved, or there was time
      pub checking_kept : (now : Option (List ℕ) → Type 0) (until left : ℕ) → most + until ≤ b.checkpoint_interval → IsCoverKept b.checkpoint_interval until path holds now left
          → (late : ℕ) × IsChecking now path visitor count late noted ways × (late + left + 1 ≤ b.checkpoint_interval)
      checking_kept now until left few (inl kept) = (
        most,
        record {
          text = z.text;
          gave = z.gave;
          start = z.start;
          reads = z.reads;
          covering = z.covering;
          behind = λ before came. stays_behind z.start before z.covering.given holds now most kept.1 (z.behind before came);
        },
        omega (arith, few, kept.0),
      )
      checking_kept now until left few (inr saved) = (
        0,
        record {
          text = z.text;
          gave = z.gave;
          start = z.start;
          reads = z.reads;
          covering = z.covering;
          behind = saved_here now saved.1.0 saved.1.1;
        },
        omega (arith, saved.0),
      )

      -- or after the path was saved, or there was time
      pub left_late : (now : Option (List ℕ) → Type 0) (until left : ℕ) → most + until ≤ b.checkpoint_interval → IsCoverKept b.checkpoint_interval until path holds now left → HeldBack b next body gives now
      left_late now until left few (inl kept) = checking_left now (omega (arith, few)) kept.1
      left_late now until left few (inr saved) = record {
        text = z.text;
        gave = z.gave;
        path = z.start;
        reads = z.reads;
        given = z.covering.given;
        held = λ before came. held_by z.start before z.covering.given now 0 (omega arith) (saved_here now saved.1.0 saved.1.1 before came);
      }

      -- it is stopped before another run
      pub checking_stops : (now : Option (List ℕ) → Type 0) (text : List ℕ) → IsCoverSaved path now text → (met states : ℕ) (limit : Limit) (answered : Duration → Type 0) → HasReached answered b (count + met) (Some limit)
          → Covering takes old visitor b next body gives now answered (Stopped count met states limit)
      checking_stops now text saved met states limit answered h = record {
        text = z.text;
        gave = z.gave;
        path = z.start;
        reads = z.reads;
        given = z.covering.given;
        was_given = record { given = z.covering.was_given; counted = z.covering.counted };
        limits = h;
        placed = tt;
        fresh = λ e. h;
        together = λ before came. record {
          text = text;
          held = saved.held;
          last = path.nodes;
          reads = reads_here text now saved before came;
          compact = saved.compact ∙ ap (λ (p : Route). compact_text (cover_data p.search p.explores path.nodes)) z.covering.rests;
          goes_on = comes_here z.start path visitor count noted ways z.covering before came;
        };
        held = λ before came. held_by z.start before z.covering.given now 0 (omega arith) (saved_here now text saved before came);
      }

      module _ (few : most + 1 ≤ b.checkpoint_interval) (answered : Duration → Type 0) (after : Route) (more : Noted D S) (came : Ending D) (ran : EndsWith next (along z.start path noted) came after more) where
        -- its run failed
        pub checking_fails : (failure there : Failure) (list : Vec Choice Global) (met states : ℕ) → came ≡ end.Failed failure → FailsAlong b after failure.kind there list
            → Covering takes old visitor b next body gives holds answered (Failed count met states there list)
        checking_fails failure there list met states is fails =
            let left : Leaves next (along z.start path noted) (Err failure.kind) after more = subst (λ (x : Ending D). EndsWith next (along z.start path noted) x after more) is ran in
            let comes_so : (before : List (List Choice × D)) → HaveComeTo b next body z.start before → outcome b.max_branches tree list.items ≡ Some (Err there.kind) =
            λ before earlier.
            ap (λ (c : List Choice). outcome b.max_branches tree c) fails.list ∙ covering_fails z.start path visitor count noted ways z.covering before earlier after left.0 failure.kind left.1
            ∙ ap (λ (k : FailureKind). Some (Err k)) (sym fails.is) in
            record {
              text = z.text;
              gave = z.gave;
              path = z.start;
              reads = z.reads;
              given = z.covering.given;
              was_given = record { given = z.covering.was_given; counted = z.covering.counted };
              limits = tt;
              placed = fails.placed;
              fresh = λ e. comes_so [] (begun z.start e);
              together = λ before earlier. comes_so before earlier;
              held = λ before earlier. held_by z.start before z.covering.given holds most (omega (arith, few)) (z.behind before earlier);
            }

        -- it ended or was given up, and its ways were added; what a step makes of that
        module _ (new : V) (now : ℕ) (to : Option ℕ) (made : List Choice) (is_made : made ≡ chosen after) (grown : Tracks) (added : HasAdded z.start noted more made to ways grown) where
          pub record HasRun : Type 0 where
            pub on : (later : Route) (stepped : Bool) → Steps after.nodes stepped later.nodes → stepped ≡ true → later ≡ at_rest after.search after.explores later.nodes → IsSameSearch path after → IsChecking holds later new now (most + 1) more grown
            pub ends : (later : List Node) (stepped : Bool) (covered : Covered) → Steps after.nodes stepped later → stepped ≡ false → IsToldBy grown.ways more.led_by now covered → Covering takes old new b next body gives holds answered covered

          module _ (ending : Option D) (left_so : Leaves next (along z.start path noted) (Ok ending) after more) (given_now : Given takes old (z.covering.given ++ with_run (chosen after) ending []) new)
              (counted_now : length (z.covering.given ++ with_run (chosen after) ending []) ≡ now)
              (comes_now : (before : List (List Choice × D)) (earlier : HaveComeTo b next body z.start before) → ComesTo (world_of tree) (key (earlier.never || z.covering.never)) (z.covering.left ++ stored after.nodes ∷ []) (z.covering.given ++ with_run (chosen after) ending []) more.led_by (stored after.nodes) to) where
            behind_now : (before : List (List Choice × D)) → HaveComeTo b next body z.start before → IsBehind z.start before (z.covering.given ++ with_run (chosen after) ending []) holds (most + 1)
            behind_now before earlier = falls_behind z.start before z.covering.given (with_run (chosen after) ending []) holds most (one_at_most (chosen after) ending) (z.behind before earlier)

            has_run : HasRun
            has_run = record {
              on = λ later stepped steps e rests same. record {
                text = z.text;
                gave = z.gave;
                start = z.start;
                reads = z.reads;
                covering = record {
                  never = z.covering.never;
                  is_never = left_so.0.never ∙ z.covering.is_never;
                  known = z.covering.known;
                  explained = subst (λ (x : Bool). AreKeptAfter (key x) more) (sym left_so.0.never) left_so.0.explained;
                  left = z.covering.left ++ stored after.nodes ∷ [];
                  given = z.covering.given ++ with_run (chosen after) ending [];
                  was_given = given_now;
                  counted = counted_now;
                  nodes = all_nodes z.start path visitor count noted ways z.covering after more ending left_so to made is_made grown added;
                  rests = rests_on z.start path after later z.covering.rests same rests;
                  since = λ before earlier.
                      since_on z.start path visitor count noted ways z.covering after more ending left_so to made is_made grown added before earlier (comes_now before earlier) (stored later.nodes) (steps_so after.nodes later.nodes stepped true steps e);
                };
                behind = behind_now;
              };
              ends = λ later stepped covered steps e told.
                  let none = steps_so after.nodes later stepped false steps e in
                  let counts = told_counts grown more.led_by now covered answered told in
                  record {
                    text = z.text;
                    gave = z.gave;
                    path = z.start;
                    reads = z.reads;
                    given = z.covering.given ++ with_run (chosen after) ending [];
                    was_given = record { given = given_now; counted = counted_now ∙ sym counts.0 };
                    limits = counts.1;
                    placed = counts.2;
                    fresh = λ f.
                        fresh_so z.start path visitor count noted ways z.covering after more ending left_so to made is_made grown added f (comes_now [] (begun z.start f)) none answered holds covered now told;
                    together = λ before earlier.
                        claims_so z.start path visitor count noted ways z.covering after more ending left_so to made is_made grown added before earlier (comes_now before earlier) none holds covered now told;
                    held = λ before earlier. held_by z.start before (z.covering.given ++ with_run (chosen after) ending []) holds (most + 1) few (behind_now before earlier);
                  };
            }

          -- it ended
          module _ (value : D) (given_to : V) (is : came ≡ end.Ended value) (took : takes visitor (chosen after) value given_to) (same : new ≡ given_to) (one : now ≡ count + 1) (ended : to ≡ None) where
            pub run_ended : HasRun
            run_ended =
                has_run (Some value) (subst (λ (x : Ending D). EndsWith next (along z.start path noted) x after more) is ran)
                (subst (λ (v : V). Given takes old (z.covering.given ++ with_run (chosen after) (Some value) []) v) (sym same) (given_more takes old z.covering.given visitor given_to (chosen after) value z.covering.was_given took))
                (one_longer z.covering.given (chosen after, value) count z.covering.counted ∙ sym one)
                (λ before earlier.
                let left : Leaves next (along z.start path noted) (Ok (Some value)) after more = subst (λ (x : Ending D). EndsWith next (along z.start path noted) x after more) is ran in
                let w = z.covering.since before earlier in
                let all : chosen after ≡ choices (stored after.nodes) = chosen_all z.start path visitor count noted ways z.covering before earlier after (keys noted.never more) (Ok (Some value)) left.1 in
                let known : Bool = earlier.never || z.covering.never in
                subst
                (λ (t : Option ℕ). ComesTo (world_of tree) (key known) (z.covering.left ++ stored after.nodes ∷ []) (z.covering.given ++ with_run (chosen after) (Some value) []) more.led_by (stored after.nodes) t)
                (sym ended)
                (ended_there b.max_branches (marking None) tree sound_tree fair (key known) w.table (w.table ++ map (coarser known) (keys noted.never more)) (earlier.left ++ z.covering.left) (before ++ z.covering.given) (stored path.nodes) w.notes value (trail after)
                (along_all z.start path visitor count noted ways z.covering before earlier after (keys noted.never more) (Ok (Some value)) left.1) (z.covering.left ++ stored after.nodes ∷ []) (z.covering.given ++ with_run (chosen after) (Some value) [])
                (subst (λ (c : List Choice). IsGiven c value (z.covering.given ++ (chosen after, value) ∷ [])) all (given_last (world_of tree) (key known) (chosen after) value z.covering.given))))

          -- it was given up
          module _ (number : ℕ) (is : came ≡ end.Met number) (same : new ≡ visitor) (none : now ≡ count) (given_up : to ≡ Some number) where
            pub run_met : HasRun
            run_met =
                let left_off : Meets next (along z.start path noted) number after more = subst (λ (x : Ending D). EndsWith next (along z.start path noted) x after more) is ran in
                has_run None left_off.0
                (subst (λ (v : V). Given takes old (z.covering.given ++ []) v) (sym same) (subst (λ (l : List (List Choice × D)). Given takes old l visitor) (sym (append-nil z.covering.given)) z.covering.was_given))
                (ap length (append-nil z.covering.given) ∙ z.covering.counted ∙ sym none)
                (λ before earlier.
                let known : Bool = earlier.never || z.covering.never in
                subst (λ (t : Option ℕ). ComesTo (world_of tree) (key known) (z.covering.left ++ stored after.nodes ∷ []) (z.covering.given ++ []) more.led_by (stored after.nodes) t) (sym given_up)
                (ends_coarser (key noted.never) (key known) (coarser known) (coarser_by_either z.start path visitor count noted ways z.covering before earlier) more.led_by (stored after.nodes) number left_off.1))

-- how one begins
pub cover_begun : (b : Builder) (search : Search) (gives holds : Option (List ℕ) → Type 0) (path : Route) → settings search ≡ whole_search b.max_branches → search.explores ≡ explores b → (text : Option (List ℕ)) → gives text → holds text
    → path ≡ at_rest (settings search) search.explores path.nodes → CoverReadsAs (settings search) search.explores text path.nodes → IsCoverBegun b gives holds path
cover_begun b found gives holds path s e text gave held rests reads = record {
  rests = rests ∙ ap₂ (λ (k : Settings) (x : Bool). at_rest k x path.nodes) s e;
  text = text;
  gave = gave;
  held = held;
  reads = subst (λ (k : Settings). CoverReadsAs k (explores b) text path.nodes) s (subst (λ (x : Bool). CoverReadsAs (settings found) x text path.nodes) e reads);
}

-- or doesn't, since the text is refused
pub cover_refused : {A : Type 0} (b : Builder) (search : Search) (gives : Option (List ℕ) → Type 0) (result : Result A CheckError) (why : PathError) (text : List ℕ) → settings search ≡ whole_search b.max_branches → search.explores ≡ explores b → gives (Some text)
    → IsNoCoverText (settings search) search.explores text why → IsErrAnd result (λ e. e ≡ of_path why) → IfErr result (IsNoBeginning b gives)
cover_refused b found gives (Ok value) why text s e gave refused is = absurd is
cover_refused b found gives (Err error) why text s e gave refused is =
    inr (text, why, gave, subst (λ (k : Settings). IsNoCoverText k (explores b) text why) s (subst (λ (x : Bool). IsNoCoverText (settings found) x text why) e refused), is)

pub no_cover_beginning : {A : Type 0} (b : Builder) (gives : Option (List ℕ) → Type 0) (no_run : Type 0) (result : Result A CheckError) (e : CheckError) → no_run → IsNoBeginning b gives e → IsErrAnd result (λ x. x ≡ e) → IfErr result (IsNoReport b gives no_run)
no_cover_beginning b gives no_run (Ok value) e none not_begun is = tt
no_cover_beginning b gives no_run (Err x) e none not_begun is = by (subst (IsNoBeginning b gives) (sym is) not_begun)
  where
    by : IsNoBeginning b gives x → IsNoReport b gives no_run x
    by (inl no_save) = inl no_save
    by (inr refused) = inr (inr refused, none)

-- memory was refused
pub no_cover_memory : {A : Type 0} (b : Builder) (gives : Option (List ℕ) → Type 0) (no_run : Type 0) (result : Result A CheckError) → IsErrAnd result (λ e. e ≡ Memory) → IfErr result (IsNoReport b gives no_run)
no_cover_memory b gives no_run (Ok value) is = tt
no_cover_memory b gives no_run (Err e) is = inl (inl is)

-- where a check was stopped another one goes on
pub goes_on_law : {D S : Type 0} → GoesOnLaw D S
goes_on_law b next body text last path given one other came = record {
  never = came.never;
  known = came.known;
  kept = came.kept;
  left = came.left;
  rounds = subst (Notes b.max_branches (marking None) (runs next (explores b) b.max_threads b.max_steps body) (state_after (seen_by came.never) next (explores b) b.max_threads b.max_steps body) came.kept came.left given)
      (same_stored (whole_search b.max_branches) (explores b) text last path one other) came.rounds;
}

-- where no text was given the path has no nodes
pub no_text : (b : Builder) (text : Option (List ℕ)) (path : List Node) → text ≡ None → CoverReadsAs (whole_search b.max_branches) (explores b) text path → path ≡ []
no_text b text path e reads = subst (λ (t : Option (List ℕ)). CoverReadsAs (whole_search b.max_branches) (explores b) t path) e reads

-- nobody was given them, and there is no store
pub alone : {V D S E : Type 0} (takes : V → List Choice → D → V → Type 0) (old new : V) (b : Builder) (next : Meaning D S) (body : S) (gives holds : Option (List ℕ) → Type 0) (result : Result Covered E)
    → ((text : Option (List ℕ)) → gives text → text ≡ None) → IfOk result (Covering takes old new b next body gives holds (λ time. time ≡ record { secs = 0; nanos = 0 })) → IfOk result (CoveringAlone b next body)
alone takes old new b next body gives holds (Ok covered) none z = record { given = z.given; counted = z.was_given.counted; claims = z.fresh (no_text b z.text z.path (none z.text z.gave) z.reads) }
alone takes old new b next body gives holds (Err e) none z = tt
