-- What each run of a chain did, and what it left to the next one.
use Rattle.std.proofs.Common.{◌≡◌, ℕ, Bool, List, [], ◌∷◌, length, take, Option, Some, refl, ap, ap₂, sym, ◌∙◌, subst, inl, inr}
use Rattle.std.specs.Prelude.{Result, Ok, Err}
use Rattle.loom_views.specs.declared.rt.failure.FailureKind.{FailureKind}
use Rattle.loom_objects.specs.declared.choice.Choice.{Choice}
use Rattle.loom_objects.specs.declared.failure.Failure.{Failure}
use Rattle.loom_engine.specs.Walk.Machine.{Machine}
use Rattle.loom_engine.specs.Walk.Sound.{IsMachine}
use Rattle.loom_engine.specs.Walk.Path.{Stored, choices, node_at, IsResting, step, next, after_run}
use Rattle.loom_engine.specs.Walk.Lists.{Begins}
use Rattle.loom_engine.specs.Walk.Walks.{LeavesRest}
use Rattle.loom_engine.specs.Walk.Driven.{IsLeftBy}
use Rattle.loom_engine.specs.Trees.Check.{FirstRun, all_met, told_apart, fails_early, makes_none, makes_one}
use Rattle.loom_engine.specs.Trees.Drive.{Trail, drive, at_start, at_end, IsDriven}
use Rattle.loom_engine.specs.Trees.Machines.{IsMarking}
use Rattle.loom_engine.specs.Trees.Marks.{marking}
use Rattle.loom_engine.specs.Trees.Meeting.{Settings, Marking}
use Rattle.loom_engine.specs.Trees.Resuming.{HasDefaults, HasFailedFrom}
use Rattle.loom_engine.proofs.Walk.Left.{run_begins}
use Rattle.loom_engine.proofs.Walk.Round.{round_law}
use Rattle.loom_engine.proofs.Trees.Driving.{drive_law}
use Rattle.loom_engine.proofs.Trees.Loading.{first_run_law}
use Rattle.loom_engine.proofs.Trees.Machines.{machine_law}
use Rattle.loom_engine.proofs.Trees.Marks.{marking_law}
use Rattle.loom_engine.proofs.Trees.Reporting.{search_law}
use Rattle.loom_engine.proofs.Trees.Resuming.{resting_size, failed_from_law}
use Rattle.loom_engine.proofs.Trees.Unchosen.{defaults_law}
use Rattle.loom_engine.specs.declared.rt.path.node.Node.{Node}
use Rattle.loom_engine.specs.Runs.Sound.{IsRunTree}
use Rattle.loom_engine.specs.Path.Route.{Route, at_rest, stored, trail}
use Rattle.loom_engine.specs.declared.rt.execution.Limits.{Limits}
use Rattle.loom.specs.Model.StoredText.{ReadsAs}
use Rattle.loom.specs.Runner.Histories.{IsHistory, first}
use Rattle.loom.specs.Runner.Chains.{Run, GoesTo, HasEnded, HasFailed, choices_of, tree_of, machine, Follow, IsAmong}
use Rattle.loom.proofs.ModelLemmas.Paths.{MayBegin, begins as read_well}
use Rattle.loom.proofs.RunnerLemmas.Driving.{EndsBy, ends_ended, ends_failed, handing_run, handing_unchosen, history_drives, leads_same}
use Rattle.loom.proofs.RunnerLemmas.Paths.{is_left_by, left_rests, after_is}
use Rattle.loom.proofs.RunnerLemmas.Trying.{SkipsOnly, left_skips, next_skips}

take_whole : {A : Type 0} (l : List A) → take (length l) l ≡ l
take_whole [] = refl
take_whole (x ∷ l) = ap (λ t. x ∷ t) (take_whole l)

pub no_node : (before : List Choice) (n : Stored) → node_at [] before ≡ Some n → ⊥
unfolding node_at
no_node before n h = cc h

module _ (s : Settings) (explores : Bool) where
  -- a path with which a run of the chain may begin
  pub record IsFine (path : Route) : Type 0 where
    pub rests : path ≡ at_rest s explores path.nodes
    pub well : MayBegin s (stored path.nodes)

  -- that of a store's text, or one without nodes
  pub read_fine : (text : Option (List ℕ)) (nodes : List Node) → ReadsAs s explores text nodes → IsFine (at_rest s explores nodes)
  read_fine text nodes reads = record { rests = refl; well = read_well s explores text nodes reads }

  abbrev adds : Marking
  adds = marking s.bound

  is_marking : IsMarking adds
  is_marking = (marking_law s.bound).0

  module _ {D : Type 0} (limits : Limits) (r : Run D) (fine : IsFine r.began) where
    abbrev pub m : Machine
    m = machine limits s r

    abbrev pub p : List Stored
    p = stored r.began.nodes

    abbrev pub q : List Stored
    q = stored r.now.route.nodes

    pub like_runs : IsRunTree (tree_of limits r)
    like_runs = handing_run _ _

    pub is_machine : IsMachine m
    is_machine = machine_law s adds (tree_of limits r) like_runs.sound is_marking

    drives : (result : Result D FailureKind) → IsHistory limits r.began r.history r.now → EndsBy r.history result → drive s adds (tree_of limits r) (at_start p) ≡ (result, trail r.now.route)
    drives result h ends =
        let same_start : trail r.began ≡ at_start p = ap trail fine.rests in
        ap (drive s adds (tree_of limits r)) (sym same_start) ∙ history_drives s limits r.began r.history r.now result (ap (λ (t : Route). t.search) fine.rests) h ends

    -- ---- a run that ended

    module _ (e : HasEnded limits r) where
      drives_ended : drive s adds (tree_of limits r) (at_start p) ≡ (Ok e.value, trail r.now.route)
      drives_ended = drives (Ok e.value) e.history (ends_ended r.history e.value e.ended)

      -- it met each node of its path
      pub rests : IsResting m p
      rests = go (first_run_law s adds (tree_of limits r) p like_runs.sound is_marking like_runs.closing fine.well.rest fine.well.size)
        where
          go : FirstRun s adds (tree_of limits r) p (drive s adds (tree_of limits r) (at_start p)) → IsResting m p
          go (all_met h) = h
          go (told_apart parted h) = absurd (cc (h, ap (λ (d : Result D FailureKind × Trail). d.0) drives_ended))
          go (fails_early parted failure h comes) = absurd (cc (h, ap (λ (d : Result D FailureKind × Trail). d.0) drives_ended))

      -- and left it as a walk does
      pub leaves : trail r.now.route ≡ at_end (after_run m p)
      leaves = go (drive_law s adds (tree_of limits r) p like_runs.sound is_marking rests)
        where
          go : IsDriven s adds (tree_of limits r) p → trail r.now.route ≡ at_end (after_run m p)
          go z = ap (λ (d : Result D FailureKind × Trail). d.1) (sym drives_ended ∙ z.drives)

      pub left_so : q ≡ after_run m p
      left_so = ap (λ (t : Trail). t.nodes) leaves

      pub chosen_so : choices_of r ≡ choices (after_run m p)
      chosen_so = ap (λ (t : Trail). choices (take t.position t.nodes)) leaves ∙ ap choices (take_whole (after_run m p))

      pub left_by : IsLeftBy p q
      left_by = subst (IsLeftBy p) (sym left_so) (is_left_by m is_machine p rests)

      pub begins : Begins (choices p) (choices_of r)
      begins = let b = run_begins m is_machine (choices p) in (b.0, chosen_so ∙ (after_is m is_machine p rests).whole ∙ b.1)

      -- where the search goes on
      module _ (later : Route) (goes : GoesTo r.now.route (Some later)) where
        pub steps : step q ≡ Some (stored later.nodes)
        steps = goes.0

        next_is : next m p ≡ Some (stored later.nodes)
        next_is = ap step (sym left_so) ∙ goes.0

        later_rests : IsResting m (stored later.nodes)
        later_rests = (subst (LeavesRest m p) next_is (round_law m p is_machine rests)).0

        same_search : (r.now.route.search ≡ s) × (r.now.route.explores ≡ explores)
        same_search =
            let same = leads_same (first e.history.start r.began) r.now r.history e.history.leads in
            (same.0 ∙ ap (λ (t : Route). t.search) fine.rests, same.1 ∙ ap (λ (t : Route). t.explores) fine.rests)

        -- it holds no schedule without a default
        later_defaults : HasDefaults (stored later.nodes)
        later_defaults =
            defaults_law s adds (tree_of limits r) p ((choices q, e.value) ∷ []) (stored later.nodes) (search_law s (tree_of limits r) like_runs.sound) (handing_unchosen _ _) rests fine.well.defaults
            (makes_one p (stored later.nodes) (stored later.nodes) e.value (trail r.now.route) [] drives_ended goes.0 (makes_none (stored later.nodes)))

        pub later_fine : IsFine later
        later_fine = record {
          rests = goes.1 ∙ ap₂ (λ (t : Settings) (b : Bool). at_rest t b later.nodes) same_search.0 same_search.1;
          well = record { rest = later_rests.rest; defaults = later_defaults; size = resting_size m (stored later.nodes) is_machine later_rests };
        }

        -- and leaves out no more than the path before it
        pub later_skips : (left_out : List Choice → Choice → Type 0) → SkipsOnly left_out s p → SkipsOnly left_out s (stored later.nodes)
        later_skips left_out only =
            next_skips s adds (tree_of limits r) left_out (after_run m p) (stored later.nodes) (left_rests m is_machine p rests) later_rests
            (left_skips s adds (tree_of limits r) left_out is_machine p rests only) next_is

    -- ---- a run that failed

    module _ (failure : Failure) (f : HasFailed limits r failure) where
      pub failed_from : HasFailedFrom s adds (tree_of limits r) p [] failure.kind (choices_of r)
      failed_from =
          failed_from_law s adds (tree_of limits r) p [] p failure.kind (trail r.now.route) (search_law s (tree_of limits r) like_runs.sound) like_runs.closing like_runs.fair
          fine.well.rest fine.well.size (makes_none p) (drives (Err failure.kind) f.history (ends_failed r.history failure f.failed))

  -- ---- chains

  module _ {D : Type 0} (limits : Limits) (start : Route) (good : IsFine start) where
    pub begins_fine : (runs : List (Run D)) (path : Route) → Follow limits start runs (Some path) → IsFine path
    begins_fine [] path h = let same : path ≡ start = cc h in subst IsFine (sym same) good
    begins_fine (r ∷ runs) path (before, ended, goes) = later_fine limits r (begins_fine runs r.began before) ended path goes

    pub begins_skips : (left_out : List Choice → Choice → Type 0) → SkipsOnly left_out s (stored start.nodes) → (runs : List (Run D)) (path : Route) → Follow limits start runs (Some path)
        → SkipsOnly left_out s (stored path.nodes)
    begins_skips left_out only [] path h = let same : path ≡ start = cc h in subst (λ (t : Route). SkipsOnly left_out s (stored t.nodes)) (sym same) only
    begins_skips left_out only (r ∷ runs) path (before, ended, goes) =
        later_skips limits r (begins_fine runs r.began before) ended path goes left_out (begins_skips left_out only runs r.began before)

    -- what is known of each run of a chain
    pub record IsKnown (left_out : List Choice → Choice → Type 0) (r : Run D) : Type 0 where
      pub fine : IsFine r.began
      pub only : SkipsOnly left_out s (stored r.began.nodes)
      pub ended : HasEnded limits r

    pub each_known : (left_out : List Choice → Choice → Type 0) → SkipsOnly left_out s (stored start.nodes) → (runs : List (Run D)) (later : Option Route) → Follow limits start runs later → (r : Run D) → IsAmong r runs
        → IsKnown left_out r
    each_known left_out only [] later h r among = absurd among
    each_known left_out only (x ∷ runs) later (before, ended, goes) r (inl e) =
        subst (IsKnown left_out) (sym e) (record { fine = begins_fine runs x.began before; only = begins_skips left_out only runs x.began before; ended = ended })
    each_known left_out only (x ∷ runs) later (before, ended, goes) r (inr among) = each_known left_out only runs (Some x.began) before r among
