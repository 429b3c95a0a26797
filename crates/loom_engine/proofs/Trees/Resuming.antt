-- A check that begins with a path: the outcome of its first run says whether the path is one of the tree's.
use Rattle.std.proofs.Common.{◌≡◌, ℕ, zero, suc, ◌<◌, ◌≤◌, List, [], ◌∷◌, ◌++◌, length, Some, refl, ap, sym, ◌∙◌, subst, inl, inr, arith}
use Rattle.std.proofs.Math.Nat.{lt_of_not-le}
use Rattle.std.proofs.Math.Seq.{take-length}
use Rattle.std.proofs.lemmas.List.{map-append}
use Rattle.std.specs.Prelude.{Result, Ok, Err}
use Rattle.loom_objects.specs.declared.choice.Choice.{Choice}
use Rattle.loom_objects.specs.Tree.Tree.{Tree}
use Rattle.loom_views.specs.declared.rt.failure.FailureKind.{FailureKind}
use Rattle.loom_engine.specs.Walk.Machine.{Machine}
use Rattle.loom_engine.specs.Walk.Sound.{IsMachine}
use Rattle.loom_engine.specs.Walk.Runs.{Reachable}
use Rattle.loom_engine.specs.Walk.Path.{Stored, choices, IsResting, Rest, by_path}
use Rattle.loom_engine.specs.Walk.Lists.{IsWalkList}
use Rattle.loom_engine.specs.Walk.UnderWay.{IsPartedAt}
use Rattle.loom_engine.specs.Walk.Walks.{run_of}
use Rattle.loom_engine.specs.Trees.Outcomes.{outcome, choices_made}
use Rattle.loom_engine.specs.Trees.Meeting.{Settings, Marking, machine_of}
use Rattle.loom_engine.specs.Trees.Drive.{Trail, drive, at_start}
use Rattle.loom_engine.specs.Trees.Check.{Makes, makes_none, makes_one, MakesAll, makes_last, makes_more, FirstRun, told_apart, all_met, fails_early as first_early}
use Rattle.loom_engine.specs.Trees.Reports.{IsSearch}
use Rattle.loom_engine.specs.Trees.Resuming.{AreAtRest, choices_passed, HasCompletedFrom, WasStoppedFrom, FailsItself, HasFailedFrom, own, differs, fails_early, CompleteFromLaw, StoppedFromLaw, FailedFromLaw, JoinedLaw, ResumedRunsLaw}
use Rattle.loom_engine.specs.Trees.Sound.{IsClosing, IsFair}
use Rattle.loom_engine.proofs.Walk.Lists.{chooses_node}
use Rattle.loom_engine.proofs.Walk.Round.{fresh_law as walk_fresh}
use Rattle.loom_engine.proofs.Walk.Together.{stopped_law as walk_stopped}
use Rattle.loom_engine.proofs.Walk.UnderWay.{parted_foreign}
use Rattle.loom_engine.proofs.Trees.Calm.{goes_from}
use Rattle.loom_engine.proofs.Trees.Checking.{part_of, complete_at}
use Rattle.loom_engine.proofs.Trees.Loading.{first_run_law}
use Rattle.loom_engine.proofs.Trees.Machines.{machine_law}
use Rattle.loom_engine.proofs.Trees.Replays.{whole_replay}
use Rattle.loom_engine.proofs.Trees.Reporting.{fails_fair}
use Rattle.loom_engine.proofs.Trees.Rounds.{driven, empty_rests}

-- ---- how many nodes a path has

-- a list at each of whose places there are fewer before it is no longer
within : (c : List Choice) (k : ℕ) → ((before : List Choice) (x : Choice) (after : List Choice) → c ≡ before ++ x ∷ after → length before < k) → length c ≤ k
within [] k h = omega arith
within (x ∷ c) zero h = absurd (omega (arith, h [] x c refl))
within (x ∷ c) (suc k) h = omega (arith, within c k (λ before y after e. omega (arith, h (x ∷ before) y after (ap (λ l. x ∷ l) e))))

length_choices : (p : List Stored) → length (choices p) ≡ length p
length_choices [] = refl
length_choices (n ∷ p) = ap suc (length_choices p)

-- the machine meets no more nodes than the limit
pub resting_size : (m : Machine) (p : List Stored) → IsMachine m → IsResting m p → length p ≤ m.limit
resting_size m p is rests = omega (arith, length_choices p, within (choices p) m.limit by_place)
  where
    by_place : (before : List Choice) (x : Choice) (after : List Choice) → choices p ≡ before ++ x ∷ after → length before < m.limit
    by_place before x after e =
        let z = chooses_node p before x after e in
        lt_of_not-le (λ h. cc (is.ends before h, rests.meets before z.0 z.1))

-- ---- rounds that go on

module _ {A : Type 0} (s : Settings) (adds : Marking) (tree : Tree A) where
  joined_part : (p middle last : List Stored) (runs more : List (List Choice × A)) → Makes s adds tree p runs middle → Makes s adds tree middle more last
      → Makes s adds tree p (runs ++ more) last
  joined_part p middle last runs more (makes_none _) made = made
  joined_part p middle last runs more (makes_one _ next _ value path others h e first) made =
      makes_one p next last value path (others ++ more) h e (joined_part next middle last others more first made)

  joined_all : (p middle : List Stored) (runs more : List (List Choice × A)) → Makes s adds tree p runs middle → MakesAll s adds tree middle more
      → MakesAll s adds tree p (runs ++ more)
  joined_all p middle runs more (makes_none _) made = made
  joined_all p middle runs more (makes_one _ next _ value path others h e first) made =
      makes_more p next value path (others ++ more) h e (joined_all next middle others more first made)

pub joined_law : {A : Type 0} → JoinedLaw A
joined_law s adds tree p middle runs more made = (λ last on. joined_part s adds tree p middle last runs more made on, λ on. joined_all s adds tree p middle runs more made on)

module _ {A : Type 0} (s : Settings) (adds : Marking) (tree : Tree A) (search : IsSearch s adds tree) where
  abbrev m : Machine
  m = machine_of s adds tree

  is : IsMachine (machine_of s adds tree)
  is = machine_law s adds tree search.sound search.marking

  -- what is left from a path that rounds from none came to is reachable
  resumed_at : (runs : List (List Choice × A)) (last : List Stored) (x : List Choice) → Makes s adds tree [] runs last → Rest m last x → Reachable m x
  resumed_at runs last x made left =
      let z = part_of s adds tree search.sound search.marking [] runs last (empty_rests m) made in
      ((walk_fresh m is).1 x).0 (((walk_stopped m [] last (choices_made runs) is (empty_rests m) z.rounds).parts x).1 (inr left))

  -- ---- a path that is one of the tree's

  module _ (p : List Stored) (rests : IsResting (machine_of s adds tree) p) where
    pub stopped_on : (runs : List (List Choice × A)) (last : List Stored) → Makes s adds tree p runs last → WasStoppedFrom s adds tree p runs last
    stopped_on runs last made =
        let z = part_of s adds tree search.sound search.marking p runs last rests made in
        let w = walk_stopped m p last (choices_made runs) is rests z.rounds in
        let g = goes_from m is p (choices_made runs) last rests z.rests z.rounds in
        record {
          are_runs = z.are_runs;
          began = inr rests;
          parts = w.parts;
          apart = w.apart;
          resumed = λ more on. subst (IsWalkList (Rest m p)) (map-append (λ made. made.0) runs more)
              (complete_at s adds tree search.sound search.marking p (runs ++ more) rests (joined_all s adds tree p last runs more made on)).walk;
          unfinished = λ r. (run_of m last, g.more, g.walk);
          at_rest = z.rests.rest;
          size = resting_size m last is z.rests;
        }

    pub failed_on : (runs : List (List Choice × A)) (last : List Stored) (failure : FailureKind) (path : Trail) → IsFair tree → Makes s adds tree p runs last
        → drive s adds tree (at_start last) ≡ (Err failure, path) → FailsItself s adds tree p runs failure (choices_passed path)
    failed_on runs last failure path fair made h =
        let z = part_of s adds tree search.sound search.marking p runs last rests made in
        let w = walk_stopped m p last (choices_made runs) is rests z.rounds in
        let g = goes_from m is p (choices_made runs) last rests z.rests z.rounds in
        let d = driven s adds tree search.sound search.marking last (Err failure) path z.rests h in
        let passed : choices_passed path ≡ choices path.nodes = ap choices_passed d.all_passed ∙ ap choices (take-length path.nodes) in
        let ran : run_of m last ≡ choices_passed path = sym d.is_run ∙ sym passed in
        let comes : outcome s.max_branches tree (choices_passed path) ≡ Some (Err failure) = ap (outcome s.max_branches tree) passed ∙ d.comes in
        record {
          of_tree = rests;
          are_runs = z.are_runs;
          left = subst (Rest m p) ran w.next_run;
          new = λ made. w.apart (choices_passed path) made (subst (Rest m last) ran by_path);
          more = g.more;
          walk = subst (λ r. IsWalkList (Rest m p) (choices_made runs ++ r ∷ g.more)) ran g.walk;
          fails = comes;
          own = fails_fair tree s.max_branches (choices_passed path) failure fair comes;
          replays = whole_replay tree s.max_branches (choices_passed path) (Err failure) search.sound comes;
        }

  -- ---- any path of nodes at rest

  module _ (shut : IsClosing tree) (p : List Stored) (rest : AreAtRest p) (size : length p ≤ s.max_branches) where
    first : FirstRun s adds tree p (drive s adds tree (at_start p))
    first = first_run_law s adds tree p search.sound search.marking shut rest size

    -- where its first run gave a value, it is one of the tree's
    of_tree : (value : A) (path : Trail) → drive s adds tree (at_start p) ≡ (Ok value, path) → IsResting m p
    of_tree value path h = go first
      where
        is_value : (drive s adds tree (at_start p)).0 ≡ Ok value
        is_value = ap (λ (d : Result A FailureKind × Trail). d.0) h

        go : FirstRun s adds tree p (drive s adds tree (at_start p)) → IsResting m p
        go (all_met r) = r
        go (told_apart apart e) = absurd (cc (is_value, e))
        go (first_early apart failure e f) = absurd (cc (is_value, e))

    of_all : (runs : List (List Choice × A)) → MakesAll s adds tree p runs → IsResting m p
    of_all runs (makes_last _ value path h e) = of_tree value path h
    of_all runs (makes_more _ later value path others h e on) = of_tree value path h

    complete_from : (runs : List (List Choice × A)) → MakesAll s adds tree p runs → HasCompletedFrom s adds tree p runs
    complete_from runs made =
        let rests = of_all runs made in
        record { of_tree = rests; complete = complete_at s adds tree search.sound search.marking p runs rests made }

    stopped_from : (runs : List (List Choice × A)) (last : List Stored) → Makes s adds tree p runs last → WasStoppedFrom s adds tree p runs last
    stopped_from runs last (makes_none _) = record {
      are_runs = tt;
      began = inl (refl, refl);
      parts = λ x. (λ h. inr h, λ h. elim h [ inl e ↦ absurd e | inr e ↦ e ]);
      apart = λ x h. absurd h;
      resumed = λ more on. (complete_from more on).complete.walk;
      unfinished = λ rests. (stopped_on p rests [] p (makes_none p)).unfinished rests;
      at_rest = rest;
      size = size;
    }
    stopped_from runs last (makes_one _ later _ value path others h e made) = stopped_on p (of_tree value path h) runs last (makes_one p later last value path others h e made)

    -- where its first run fails
    first_failed : (failure : FailureKind) (path : Trail) → IsFair tree → drive s adds tree (at_start p) ≡ (Err failure, path) → HasFailedFrom s adds tree p [] failure (choices_passed path)
    first_failed failure path fair h = go first
      where
        is_failure : (drive s adds tree (at_start p)).0 ≡ Err failure
        is_failure = ap (λ (d : Result A FailureKind × Trail). d.0) h

        parts : IsPartedAt m p (choices_passed (drive s adds tree (at_start p)).1) → IsPartedAt m p (choices_passed path)
        parts apart = subst (λ (d : Result A FailureKind × Trail). IsPartedAt m p (choices_passed d.1)) h apart

        foreign : IsPartedAt m p (choices_passed path) → IsResting m p → ⊥
        foreign apart rests = parted_foreign m p (choices_passed path) apart rests.meets

        go : FirstRun s adds tree p (drive s adds tree (at_start p)) → HasFailedFrom s adds tree p [] failure (choices_passed path)
        go (all_met r) = own (failed_on p r [] p failure path fair (makes_none p) h)
        go (told_apart apart e) = differs (record { first = refl; is = cc (is_failure, e); parted = parts apart; foreign = foreign (parts apart) })
        go (first_early apart kind e f) =
            let same : kind ≡ failure = cc (is_failure, e) in
            let comes : outcome s.max_branches tree (choices_passed path) ≡ Some (Err failure) =
            ap (λ (d : Result A FailureKind × Trail). outcome s.max_branches tree (choices_passed d.1)) (sym h) ∙ f ∙ ap (λ k. Some (Err k)) same in
            fails_early (record {
              first = refl;
              parted = parts apart;
              foreign = foreign (parts apart);
              fails = comes;
              own = fails_fair tree s.max_branches (choices_passed path) failure fair comes;
              replays = whole_replay tree s.max_branches (choices_passed path) (Err failure) search.sound comes;
            })

    failed_from : (runs : List (List Choice × A)) (last : List Stored) (failure : FailureKind) (path : Trail) → IsFair tree → Makes s adds tree p runs last
        → drive s adds tree (at_start last) ≡ (Err failure, path) → HasFailedFrom s adds tree p runs failure (choices_passed path)
    failed_from runs last failure path fair (makes_none _) h = first_failed failure path fair h
    failed_from runs last failure path fair (makes_one _ later _ value trail others g e made) h =
        own (failed_on p (of_tree value trail g) runs last failure path fair (makes_one p later last value trail others g e made) h)

module _ {A : Type 0} where
  pub complete_from_law : CompleteFromLaw A
  complete_from_law s adds tree p runs search shut rest size made = complete_from s adds tree search shut p rest size runs made

  pub stopped_from_law : StoppedFromLaw A
  stopped_from_law s adds tree p runs last search shut rest size made = stopped_from s adds tree search shut p rest size runs last made

  pub failed_from_law : FailedFromLaw A
  failed_from_law s adds tree p runs last failure path search shut fair rest size made h = failed_from s adds tree search shut p rest size runs last failure path fair made h

  pub resumed_runs_law : ResumedRunsLaw A
  resumed_runs_law s adds tree runs last search made x left = resumed_at s adds tree search runs last x made left
