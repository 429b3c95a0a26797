-- A part of a covering search under way: its runs, and those that its visitor was given.
use Rattle.std.proofs.Common.{◌≡◌, ◌⊎◌, ◌+◌, ℕ, zero, suc, arith, Bool, true, false, not, Vec, List, [], ◌∷◌, ◌++◌, length, take, map, Option, Some, None, Result, Ok, Err, refl, ap, ap₂, sym, ◌∙◌, subst, inl, inr}
use Rattle.std.specs.List.{Contains}
use Rattle.std.specs.declared.alloc.Global.{Global}
use Rattle.loom_views.specs.declared.rt.failure.FailureKind.{FailureKind}
use Rattle.loom_objects.specs.declared.choice.Choice.{Choice}
use Rattle.loom_objects.specs.declared.failure.Failure.{Failure}
use Rattle.loom_engine.specs.declared.rt.parts.Part.{Part}
use Rattle.loom_engine.specs.declared.rt.path.node.Node.{Node}
use Rattle.loom_engine.specs.Path.Nodes.{seen}
use Rattle.loom_engine.specs.Path.Route.{IsSameSearch, Route, at_rest, chosen, stored, trail}
use Rattle.loom_engine.specs.Parts.Openings.{StepsAbove}
use Rattle.loom_engine.specs.Runs.Body.{Meaning}
use Rattle.loom_engine.specs.Trees.Drive.{Trail, at_end}
use Rattle.loom_engine.specs.Trees.Machines.{IsMarking}
use Rattle.loom_engine.specs.Trees.Marks.{marking}
use Rattle.loom_engine.specs.Trees.Meeting.{Settings, whole_search}
use Rattle.loom_engine.specs.Trees.Outcomes.{outcome}
use Rattle.loom_engine.specs.Trees.Sound.{IsSoundTree}
use Rattle.loom_engine.specs.Walk.Driven.{IsLeftBy, IsOneOf}
use Rattle.loom_engine.specs.Walk.Path.{Stored, choices}
use Rattle.loom_engine.specs.Covering.Covered.{IsEnd, IsGiven}
use Rattle.loom_engine.specs.Covering.Cut.{with_run}
use Rattle.loom_engine.specs.Covering.Kept.{AreKeptAfter, Key, Noted, beside}
use Rattle.loom_engine.specs.Covering.Spread.{IsFull, LeadSo, Rounds, no_round, one_round}
use Rattle.loom_engine.specs.Covering.Table.{HasState, IsAlong}
use Rattle.loom_engine.specs.Covering.UnderWay.{HasNode}
use Rattle.loom_engine.specs.Covering.World.{world_of}
use Rattle.loom_engine.proofs.Covering.Adding.{behind_kept, both_kept, has_behind, has_either, key_from, table_none, table_wider}
use Rattle.loom_engine.proofs.Covering.Rounds.{body_sound}
use Rattle.loom_engine.proofs.Covering.Spreading.{AreOfNodes, end_wider, full_step, run_ends, run_fails, run_leaves, run_passes}
use Rattle.loom_engine.proofs.Trees.Marks.{marking_law}
use Rattle.loom.specs.declared.model.builder.Builder.{Builder}
use Rattle.loom.specs.declared.model.cover.part.Above.TheVariants as above
use Rattle.loom.specs.declared.model.cover.part.PartCovered.TheVariants.{Made, Failed}
use Rattle.loom.specs.declared.model.cover.part.Went.TheVariants as went
use Rattle.loom.specs.declared.model.cover.run.Ending.{Ending}
use Rattle.loom.specs.declared.model.cover.run.Ending.TheVariants as end
use Rattle.loom.specs.Model.Cover.{AreNoted, EndsWith, Leaves, Noting, noting}
use Rattle.loom.specs.Model.Covered.{FailsAlong, state_so}
use Rattle.loom.specs.Model.CoverParts.{BeginLaw, Covers, CoversAbove, FailsBy, ForgetLaw, GoesOn, HasGone, HaveMade, IsGoing, StepsSo, TakesIt, body_runs, cover_machine}
use Rattle.loom.specs.Model.Parts.{GivenBack}
use Rattle.loom.specs.Model.Settings.{explores}
use Rattle.loom.proofs.ModelLemmas.Checking.{take_all}

-- ---- steps

stored_front : (k : ℕ) (nodes : List Node) → stored (take k nodes) ≡ take k (stored nodes)
stored_front zero nodes = refl
stored_front (suc k) [] = refl
stored_front (suc k) (n ∷ nodes) = ap (λ t. seen n ∷ t) (stored_front k nodes)

pub steps_so : (floor : ℕ) (after later : List Node) (stepped : Bool) → StepsAbove floor after stepped later → StepsSo floor (stored after) (not stepped) (stored later)
steps_so floor after later true h = h
steps_so floor after later false h = (h.0, ap stored h.1 ∙ stored_front floor after)

one_front : (x : List Stored) (xs ys : List (List Stored)) → IsOneOf x xs → IsOneOf x (xs ++ ys)
one_front x [] ys i = absurd i
one_front x (y ∷ xs) ys (inl e) = inl e
one_front x (y ∷ xs) ys (inr i) = inr (one_front x xs ys i)

one_behind : (x : List Stored) (xs ys : List (List Stored)) → IsOneOf x ys → IsOneOf x (xs ++ ys)
one_behind x [] ys i = i
one_behind x (y ∷ xs) ys i = inr (one_behind x xs ys i)

-- ---- where a search stands

pub begin_law : {D S : Type 0} → BeginLaw D S
begin_law b next body never parts known spread = record {
  never = never;
  known = known;
  left = [];
  come = record { spread = spread (cover_machine b next body); ends = λ q i. absurd i };
  table = table_none never (state_so b next body never) [] never refl;
}

pub forget_law : {D S : Type 0} → ForgetLaw D S
forget_law b next body parts noted given h = record { never = h.never; known = h.known; left = h.left; come = h.come; table = table_none h.never (state_so b next body h.never) h.left noted.never h.table.same }

with_given : {D : Type 0} (c : List Choice) (came : Option D) (given : List (List Choice × D)) (d : List Choice) (value : D) → IsGiven d value given → IsGiven d value (with_run c came given)
with_given c None given d value h = h
with_given c (Some v) given d value h = inr h

module _ {D S : Type 0} (b : Builder) (next : Meaning D S) (body : S) where
  abbrev key : Bool → List Choice → Key D S
  key never c = state_so b next body never c

  fair : IsMarking (marking None)
  fair = (marking_law None).0

  sound_tree : IsSoundTree (body_runs b next body)
  sound_tree = body_sound false next (explores b) b.max_threads b.max_steps b.max_branches (marking None) fair body (λ is. absurd (cc is))

  -- ---- one run

  -- it notes states along this path
  abbrev pub going : Route → Noted D S → Noting D S
  going path noted = record { room = b.max_branches; explores = explores b; max_threads = b.max_threads; max_steps = b.max_steps; body = body; path = stored path.nodes; old = noted }

  same_going : (path : Route) (threads steps : ℕ) (noted : Noted D S) → threads ≡ b.max_threads → steps ≡ b.max_steps → path ≡ at_rest (whole_search b.max_branches) (explores b) path.nodes
      → noting threads steps body path noted ≡ going path noted
  same_going path threads steps noted e f rests =
      ap (λ (r : Route). noting threads steps body r noted) rests
      ∙ ap (λ (n : ℕ). noting n steps body (at_rest (whole_search b.max_branches) (explores b) path.nodes) noted) e
      ∙ ap (λ (n : ℕ). noting b.max_threads n body (at_rest (whole_search b.max_branches) (explores b) path.nodes) noted) f

  -- what is known of the body is what its own table says
  own : (known noted : Noted D S) (p : List Stored) (never : Bool) (all : List (List Stored)) → IsGoing b next body known noted p never all → IsGoing b next body known noted p noted.never all
  own known noted p never all is = subst (λ (n : Bool). IsGoing b next body known noted p n all) (sym is.noted_so.same) is

  module _ (known noted : Noted D S) (path : Route) (all : List (List Stored)) (is : IsGoing b next body known noted (stored path.nodes) noted.never all) where
    abbrev here : List Choice → Key D S
    here c = key noted.never c

    went_so : (threads steps : ℕ) (ending : Ending D) (after : Route) (more : Noted D S) → threads ≡ b.max_threads → steps ≡ b.max_steps → path ≡ at_rest (whole_search b.max_branches) (explores b) path.nodes
        → (AreNoted next (noting threads steps body path (beside known noted)) → EndsWith next (noting threads steps body path (beside known noted)) ending after (beside known more))
        → EndsWith next (going path (beside known noted)) ending after (beside known more)
    went_so threads steps ending after more e f rests h =
        let same = same_going path threads steps (beside known noted) e f rests in
        let kept : AreKeptAfter here (beside known noted) = both_kept here known is.known_so.kept noted is.known_so.same is.noted_so.kept in
        subst (λ (r : Noting D S). EndsWith next r ending after (beside known more)) same (h (subst (λ (r : Noting D S). AreNoted next r) (sym same) kept))

    -- what is known, and what was noted, is of nodes of these paths
    of_nodes : AreOfNodes b.max_branches (marking None) (body_runs b next body) sound_tree fair here (map here (beside known noted).led_by) all
    of_nodes s has = by (key_from here (known.led_by ++ noted.led_by) s has)
      where
        there : (c : List Choice) → here c ≡ s → (q : List Stored) × IsOneOf q all × HasNode q c → (y : List Stored) × IsOneOf y all × HasState here y s
        there c e (q, i, node) = (q, i, (c, node.node, node.at, e))

        by : (c : List Choice) × Contains (known.led_by ++ noted.led_by) c × (here c ≡ s) → (y : List Stored) × IsOneOf y all × HasState here y s
        by (c, h, e) = elim (has_either known.led_by noted.led_by c h) [ inl i ↦ there c e (is.known_so.nodes c i) | inr i ↦ there c e (is.noted_so.nodes c i) ]

    module _ (after : Route) where
      -- it passes its path to the end
      passes : (came : Result (Option D) FailureKind) (new : List (Key D S)) → IsAlong b.max_branches (marking None) (body_runs b next body) here (map here (beside known noted).led_by) (stored path.nodes) came (trail after) new → chosen after ≡ choices (stored after.nodes)
      passes came new along =
          let end : trail after ≡ at_end (stored after.nodes) = run_passes b.max_branches (marking None) (body_runs b next body) sound_tree fair here (map here (beside known noted).led_by) new (stored path.nodes) (trail after) is.full came along in
          ap choices (take_all (stored after.nodes) after.position (ap (λ (t : Trail). t.position) end))

      -- it failed
      fails_so : (more : Noted D S) (kind : FailureKind) → Leaves next (going path (beside known noted)) (Err kind) after (beside known more) → outcome b.max_branches (body_runs b next body) (chosen after) ≡ Some (Err kind)
      fails_so more kind left =
          ap (λ (c : List Choice). outcome b.max_branches (body_runs b next body) c) (passes (Err kind) left.0 left.1)
          ∙ run_fails b.max_branches (marking None) (body_runs b next body) sound_tree fair here (map here (beside known noted).led_by) left.0 (stored path.nodes) (trail after) is.full kind left.1

      -- it ended, or was given up
      module _ {V : Type 0} (takes : V → List Choice → D → V → Type 0) (old new : V) (floor : ℕ) (more : Noted D S) (came : Option D) (left : Leaves next (going path (beside known noted)) (Ok came) after (beside known more))
          (took : TakesIt takes old new b next body floor (stored path.nodes) (chosen after) came) (later : List Stored) (is_last : Bool) (steps : StepsSo floor (stored after.nodes) is_last later) where
        gone_so : HasGone takes old new b next body floor (stored path.nodes) noted.never all more came is_last later
        gone_so = record {
          left = stored after.nodes;
          left_by = leaves.0;
          full = leaves.1;
          steps = steps;
          took = subst (λ (c : List Choice). TakesIt takes old new b next body floor (stored path.nodes) c came) (passes (Ok came) (map here (beside known more).led_by) left.1) took;
          ends = run_ends b.max_branches (marking None) (body_runs b next body) sound_tree fair here (map here (beside known noted).led_by) (map here (beside known more).led_by) (stored path.nodes) (trail after) is.full all of_nodes came left.1;
          table = record {
            same = left.0.never;
            kept = behind_kept here known is.known_so.kept more left.0.explained;
            nodes = λ c has. nodes c (left.0.known c (has_behind known.led_by more.led_by c has));
          };
        }
          where
            leaves : IsLeftBy (stored path.nodes) (stored after.nodes) × IsFull (cover_machine b next body) (stored after.nodes)
            leaves = run_leaves b.max_branches (marking None) (body_runs b next body) sound_tree fair here (map here (beside known noted).led_by) (map here (beside known more).led_by) (stored path.nodes) (trail after) is.full all of_nodes came left.1

            one_more : (c : List Choice) → (q : List Stored) × IsOneOf q all × HasNode q c → (q : List Stored) × IsOneOf q (stored after.nodes ∷ all) × HasNode q c
            one_more c (q, i, node) = (q, inr i, node)

            nodes : (c : List Choice) → Contains (known.led_by ++ noted.led_by) c ⊎ HasNode (stored after.nodes) c → (q : List Stored) × IsOneOf q (stored after.nodes ∷ all) × HasNode q c
            nodes c (inr node) = (stored after.nodes, inl refl, node)
            nodes c (inl h) = elim (has_either known.led_by noted.led_by c h) [ inl i ↦ one_more c (is.known_so.nodes c i) | inr i ↦ one_more c (is.noted_so.nodes c i) ]

  -- ---- many runs

  module _ {V : Type 0} (takes : V → List Choice → D → V → Type 0) (old : V) (floor : ℕ) (start : List Stored) (known first : Noted D S) where
    -- the runs so far, and the path of the next one
    pub record IsUnderWay (path : Route) (visitor : V) (count met : ℕ) (noted : Noted D S) : Type 0 where
      pub rests : path ≡ at_rest (whole_search b.max_branches) (explores b) path.nodes
      pub made : (never : Bool) (all : List (List Stored)) → IsGoing b next body known first start never all → HaveMade takes old visitor b next body floor start never all noted count met false (stored path.nodes)
      pub full : (never : Bool) (all : List (List Stored)) → IsGoing b next body known first start never all → IsFull (cover_machine b next body) (stored path.nodes)

    pub way_starts : (path : Route) → path ≡ at_rest (whole_search b.max_branches) (explores b) path.nodes → stored path.nodes ≡ start → IsUnderWay path old 0 0 first
    way_starts path rests same = record {
      rests = rests;
      made = λ never all is. record {
        given = [];
        was_given = refl;
        counted = refl;
        left = [];
        begun = refl;
        lead = subst (λ (q : List Stored). Rounds (cover_machine b next body) floor start [] q) (sym same) no_round;
        ends = λ x i. absurd i;
        table = is.noted_so;
      };
      full = λ never all is. subst (IsFull (cover_machine b next body)) (sym same) is.full;
    }

    module _ (path : Route) (visitor : V) (count met : ℕ) (noted : Noted D S) (z : IsUnderWay path visitor count met noted) where
      -- the next run goes on so
      goes_on : (never : Bool) (all : List (List Stored)) (is : IsGoing b next body known first start never all) → IsGoing b next body known noted (stored path.nodes) never ((z.made never all is).left ++ all)
      goes_on never all is =
          let y = z.made never all is in
          record { full = z.full never all is; known_so = table_wider never (key never) all (y.left ++ all) known (λ x i. one_behind x y.left all i) is.known_so; noted_so = y.table }

      -- it made one more, which the visitor was given or wasn't
      module _ (new : V) (more : Noted D S) (came : Option D) (now given_up : ℕ) (later : List Stored) (is_last : Bool) (some : (value : D) → came ≡ Some value → (now ≡ count + 1) × (given_up ≡ met)) (none : came ≡ None → (now ≡ count) × (given_up ≡ met + 1)) where
        module _ (never : Bool) (all : List (List Stored)) (is : IsGoing b next body known first start never all) (g : HasGone takes visitor new b next body floor (stored path.nodes) never ((z.made never all is).left ++ all) more came is_last later) where
          given_on : (came : Option D) → TakesIt takes visitor new b next body floor (stored path.nodes) (choices g.left) came → GivenBack takes old (with_run (choices g.left) came (z.made never all is).given) new
          given_on None same = subst (λ (v : V). GivenBack takes old (z.made never all is).given v) (sym same) (z.made never all is).was_given
          given_on (Some value) took = (visitor, (z.made never all is).was_given, took)

          counts : (came : Option D) → ((value : D) → came ≡ Some value → (now ≡ count + 1) × (given_up ≡ met)) → (came ≡ None → (now ≡ count) × (given_up ≡ met + 1))
              → (length (with_run (choices g.left) came (z.made never all is).given) ≡ now) × (length (g.left ∷ (z.made never all is).left) ≡ now + given_up)
          counts None s n =
              let e = n refl in
              let a = (z.made never all is).counted in
              let i = (z.made never all is).begun in
              (a ∙ sym e.0, omega (arith, e.0, e.1, i))
          counts (Some value) s n =
              let e = s value refl in
              let a = (z.made never all is).counted in
              let i = (z.made never all is).begun in
              (omega (arith, e.0, a), omega (arith, e.0, e.1, i))

          lead_on : (is_last : Bool) → StepsSo floor g.left is_last later → LeadSo (cover_machine b next body) floor start (g.left ∷ (z.made never all is).left) is_last later
          lead_on false s = one_round (z.made never all is).left (stored path.nodes) g.left later (z.made never all is).lead g.left_by g.full s
          lead_on true s = record {
            earlier = (z.made never all is).left;
            before = stored path.nodes;
            last = g.left;
            rounds = (z.made never all is).lead;
            left_by = g.left_by;
            full = g.full;
            none = s.0;
            all = refl;
            stays = s.1;
          }

          ends_on : (x : List Stored) → IsOneOf x (g.left ∷ (z.made never all is).left) → IsEnd (world_of (body_runs b next body)) (state_so b next body never) ((g.left ∷ (z.made never all is).left) ++ all) (with_run (choices g.left) came (z.made never all is).given) x
          ends_on x (inl e) =
              subst (IsEnd (world_of (body_runs b next body)) (state_so b next body never) ((g.left ∷ (z.made never all is).left) ++ all) (with_run (choices g.left) came (z.made never all is).given)) (sym e) (g.ends (z.made never all is).given)
          ends_on x (inr i) =
              end_wider (world_of (body_runs b next body)) (state_so b next body never) ((z.made never all is).left ++ all) ((g.left ∷ (z.made never all is).left) ++ all) (z.made never all is).given (with_run (choices g.left) came (z.made never all is).given)
              (λ y j. inr j) (with_given (choices g.left) came (z.made never all is).given) x ((z.made never all is).ends x i)

          made_more : HaveMade takes old new b next body floor start never all more now given_up is_last later
          made_more = record {
            given = with_run (choices g.left) came (z.made never all is).given;
            was_given = given_on came g.took;
            counted = (counts came some none).0;
            left = g.left ∷ (z.made never all is).left;
            begun = (counts came some none).1;
            lead = lead_on is_last g.steps;
            ends = ends_on;
            table = g.table;
          }

        abbrev Each : Type 0
        Each = (never : Bool) (all : List (List Stored)) → IsGoing b next body known noted (stored path.nodes) never all → HasGone takes visitor new b next body floor (stored path.nodes) never all more came is_last later

        pub way_made : Each → (never : Bool) (all : List (List Stored)) → IsGoing b next body known first start never all → HaveMade takes old new b next body floor start never all more now given_up is_last later
        way_made each never all is = made_more never all is (each never ((z.made never all is).left ++ all) (goes_on never all is))

      pub way_on : (new : V) (more : Noted D S) (came : Option D) (now given_up : ℕ) (later : Route) → ((value : D) → came ≡ Some value → (now ≡ count + 1) × (given_up ≡ met)) → (came ≡ None → (now ≡ count) × (given_up ≡ met + 1))
          → later ≡ at_rest path.search path.explores later.nodes
          → ((never : Bool) (all : List (List Stored)) → IsGoing b next body known noted (stored path.nodes) never all → HasGone takes visitor new b next body floor (stored path.nodes) never all more came false (stored later.nodes))
          → IsUnderWay later new now given_up more
      way_on new more came now given_up later some none rests each = record {
        rests = rests ∙ ap₂ (λ k e. at_rest k e later.nodes) (ap (λ (p : Route). p.search) z.rests) (ap (λ (p : Route). p.explores) z.rests);
        made = λ never all is. way_made new more came now given_up (stored later.nodes) false some none each never all is;
        full = λ never all is. (let g = each never ((z.made never all is).left ++ all) (goes_on never all is) in full_step (cover_machine b next body) floor g.left (stored later.nodes) g.full g.steps);
      }

      -- it failed
      pub way_fails : (kind : FailureKind) (made : List Choice) → ((never : Bool) (all : List (List Stored)) → IsGoing b next body known noted (stored path.nodes) never all → FailsBy b next body kind made)
          → (never : Bool) (all : List (List Stored)) → IsGoing b next body known first start never all → FailsBy b next body kind made
      way_fails kind made each never all is = each never ((z.made never all is).left ++ all) (goes_on never all is)

      -- how far the runs are when one more was made, which may have been the last
      pub record HasCome (later : Route) (new : V) (now given_up : ℕ) (more : Noted D S) (is_last : Bool) : Type 0 where
        pub made : (never : Bool) (all : List (List Stored)) → IsGoing b next body known first start never all → HaveMade takes old new b next body floor start never all more now given_up is_last (stored later.nodes)
        pub goes : is_last ≡ false → IsUnderWay later new now given_up more

      pub come_so : (later : Route) (new : V) (now given_up : ℕ) (more : Noted D S) (is_last last : Bool) → is_last ≡ last → HasCome later new now given_up more is_last
          → (never : Bool) (all : List (List Stored)) → IsGoing b next body known first start never all → HaveMade takes old new b next body floor start never all more now given_up last (stored later.nodes)
      come_so later new now given_up more is_last last same come =
          subst (λ (x : Bool). (never : Bool) (all : List (List Stored)) → IsGoing b next body known first start never all → HaveMade takes old new b next body floor start never all more now given_up x (stored later.nodes)) same come.made

      pub way_ended : (later : Route) (new : V) (now given_up : ℕ) (more : Noted D S) (is_last last : Bool) → is_last ≡ last → now ≡ count + 1 → given_up ≡ met
          → GoesOn takes visitor new b next body known noted more floor path later (went.Ended last) → HasCome later new now given_up more is_last
      way_ended later new now given_up more is_last last is sum same h = subst (λ (x : Bool). HasCome later new now given_up more x) (sym is)
          (record {
            made = λ never all at. way_made new more (Some h.1.0) now given_up (stored later.nodes) last (λ value e. (sum, same)) (λ e. absurd (cc e)) h.1.1 never all at;
            goes = λ e.
                way_on new more (Some h.1.0) now given_up later (λ value f. (sum, same)) (λ f. absurd (cc f)) h.0
                (subst (λ (x : Bool). (never : Bool) (all : List (List Stored)) → IsGoing b next body known noted (stored path.nodes) never all → HasGone takes visitor new b next body floor (stored path.nodes) never all more (Some h.1.0) x (stored later.nodes)) e h.1.1);
          })

      pub way_met : (later : Route) (new : V) (now given_up : ℕ) (more : Noted D S) (is_last last : Bool) → is_last ≡ last → now ≡ count → given_up ≡ met + 1
          → GoesOn takes visitor new b next body known noted more floor path later (went.Met last) → HasCome later new now given_up more is_last
      way_met later new now given_up more is_last last is same sum h = subst (λ (x : Bool). HasCome later new now given_up more x) (sym is)
          (record {
            made = λ never all at. way_made new more None now given_up (stored later.nodes) last (λ value e. absurd (cc e)) (λ e. (same, sum)) h.1 never all at;
            goes = λ e.
                way_on new more None now given_up later (λ value f. absurd (cc f)) (λ f. (same, sum)) h.0
                (subst (λ (x : Bool). (never : Bool) (all : List (List Stored)) → IsGoing b next body known noted (stored path.nodes) never all → HasGone takes visitor new b next body floor (stored path.nodes) never all more None x (stored later.nodes)) e h.1);
          })

  -- ---- as the functions say it

  -- one run along a path
  module _ {V : Type 0} (takes : V → List Choice → D → V → Type 0) (old : V) (floor : ℕ) (known noted more : Noted D S) (path after : Route) (ending : Ending D) (threads steps : ℕ) (e : threads ≡ b.max_threads) (f : steps ≡ b.max_steps)
      (rests : path ≡ at_rest (whole_search b.max_branches) (explores b) path.nodes)
      (h : AreNoted next (noting threads steps body path (beside known noted)) → EndsWith next (noting threads steps body path (beside known noted)) ending after (beside known more)) where
    ends : (never : Bool) (all : List (List Stored)) → IsGoing b next body known noted (stored path.nodes) never all → (came : Ending D) → ending ≡ came → EndsWith next (going path (beside known noted)) came after (beside known more)
    ends never all is came same = subst (λ (x : Ending D). EndsWith next (going path (beside known noted)) x after (beside known more)) same (went_so known noted path all (own known noted (stored path.nodes) never all is) threads steps ending after more e f rests h)

    pub failed_goes : (failure told : Failure) (made : Vec Choice Global) → ending ≡ end.Failed failure → FailsAlong b after failure.kind told made → (new : V) (later : Route) → GoesOn takes old new b next body known noted more floor path later (went.Failed told made)
    failed_goes failure told made same along new later never all is =
        ap (λ (c : List Choice). outcome b.max_branches (body_runs b next body) c) along.list
        ∙ fails_so known noted path all (own known noted (stored path.nodes) never all is) after more failure.kind (ends never all is (end.Failed failure) same)
        ∙ ap (λ (k : FailureKind). Some (Err k)) (sym along.is)

    module _ (same : IsSameSearch path after) (later : Route) (stepped : Bool) (on : StepsAbove floor after.nodes stepped later.nodes) (rest : later ≡ at_rest after.search after.explores later.nodes) where
      rests_on : later ≡ at_rest path.search path.explores later.nodes
      rests_on = rest ∙ ap₂ (λ (s : Settings) (x : Bool). at_rest s x later.nodes) same.0 same.1

      gone : (new : V) (came : Option D) → ((never : Bool) (all : List (List Stored)) → IsGoing b next body known noted (stored path.nodes) never all → Leaves next (going path (beside known noted)) (Ok came) after (beside known more))
          → TakesIt takes old new b next body floor (stored path.nodes) (chosen after) came → (never : Bool) (all : List (List Stored)) → IsGoing b next body known noted (stored path.nodes) never all
          → HasGone takes old new b next body floor (stored path.nodes) never all more came (not stepped) (stored later.nodes)
      gone new came left took never all is =
          subst (λ (n : Bool). HasGone takes old new b next body floor (stored path.nodes) n all more came (not stepped) (stored later.nodes)) is.noted_so.same
          (gone_so known noted path all (own known noted (stored path.nodes) never all is) after takes old new floor more came (left never all is) took (stored later.nodes) (not stepped) (steps_so floor after.nodes later.nodes stepped on))

      pub ended_goes : (new : V) (value : D) → ending ≡ end.Ended value → takes old (chosen after) value new → GoesOn takes old new b next body known noted more floor path later (went.Ended (not stepped))
      ended_goes new value is took = (rests_on, (value, gone new (Some value) (λ never all at. ends never all at (end.Ended value) is) took))

      pub met_goes : (number : ℕ) → ending ≡ end.Met number → GoesOn takes old old b next body known noted more floor path later (went.Met (not stepped))
      met_goes number is = (rests_on, gone old None (λ never all at. (ends never all at (end.Met number) is).0) refl)

  -- a part that was worked on
  module _ {V : Type 0} (takes : V → List Choice → D → V → Type 0) (old new : V) (known noted more : Noted D S) (part : Part) (path after : Route) (floor : ℕ) (rests : path ≡ at_rest (whole_search b.max_branches) (explores b) part.path.nodes)
      (size : floor ≡ length part.base.items) (left : part.is_done ≡ false) where
    going_there : (never : Bool) (all : List (List Stored)) → IsGoing b next body known noted (stored part.path.nodes) never all → IsGoing b next body known noted (stored path.nodes) never all
    going_there never all is = subst (λ (r : Route). IsGoing b next body known noted (stored r.nodes) never all) (sym rests) is

    pub part_made : (count met : ℕ) (is_done : Bool) (later : Part) → CoversAbove takes old new b next body known noted more floor path after (above.Made count met is_done) → later.base ≡ part.base → later.path ≡ after → later.is_done ≡ is_done
        → Covers takes old new b next body known noted more part later (Made count met)
    part_made count met is_done later h base is done = (
      ap (λ (v : Vec Choice Global). v.items) base,
      inr (
        left,
        λ never all at.
            subst (λ (last : Bool). HaveMade takes old new b next body (length part.base.items) (stored part.path.nodes) never all more count met last (stored later.path.nodes)) (sym done)
            (subst (λ (r : Route). HaveMade takes old new b next body (length part.base.items) (stored part.path.nodes) never all more count met is_done (stored r.nodes)) (sym is)
            (subst (λ (k : ℕ). HaveMade takes old new b next body k (stored part.path.nodes) never all more count met is_done (stored after.nodes)) size
            (subst (λ (r : Route). HaveMade takes old new b next body floor (stored r.nodes) never all more count met is_done (stored after.nodes)) rests (h never all (going_there never all at))))),
      ),
    )

    pub part_fails : (count met : ℕ) (failure : Failure) (made : Vec Choice Global) (later : Part) → CoversAbove takes old new b next body known noted more floor path after (above.Failed count met failure made) → later ≡ part
        → Covers takes old new b next body known noted more part later (Failed count met failure made)
    part_fails count met failure made later h same = (same, left, λ never all at. h never all (going_there never all at))
