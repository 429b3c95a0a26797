-- Rounds of drives and steps are a walk's rounds.
use Rattle.std.proofs.Common.{◌≡◌, ◌⊎◌, ℕ, zero, suc, true, false, List, [], ◌∷◌, ◌++◌, Some, None, refl, ap, sym, ◌∙◌, subst, inl, inr}
use Rattle.std.specs.Prelude.{Result, Ok, Err}
use Rattle.loom_objects.specs.declared.choice.Choice.{Choice}
use Rattle.loom_objects.specs.Tree.Question.{Made, Among, made_of}
use Rattle.loom_engine.specs.Walk.Machine.{Machine}
use Rattle.loom_engine.specs.Walk.Sound.{IsMachine}
use Rattle.loom_engine.specs.Walk.Runs.{Reachable}
use Rattle.loom_engine.specs.Walk.Choices.{among, pick}
use Rattle.loom_engine.specs.Walk.Path.{Stored, choices, IsResting, Rest, after_run, next, step}
use Rattle.loom_engine.specs.Walk.Walks.{run_of, Rounds, stay, go_on, Completes, last_round, one_round, LeavesRest}
use Rattle.loom_engine.specs.Walk.Lists.{Member, IsWalkList, IsAllowed}
use Rattle.loom_engine.proofs.Walk.Defaults.{over, run_is, ends_over, run_reached}
use Rattle.loom_engine.proofs.Walk.Together.{complete_law as walk_complete, stopped_law as walk_stopped}
use Rattle.loom_engine.proofs.Walk.Round.{round_law, fresh_law as walk_fresh}
use Rattle.loom_engine.proofs.Walk.Ends.{ends_law as walk_ends}
use Rattle.loom_engine.proofs.Walk.Order.{order_law as walk_order}
use Rattle.loom_views.specs.declared.rt.failure.FailureKind.{FailureKind}
use Rattle.loom_objects.specs.Tree.Tree.{Tree, Gives, Fails, Closes, Asks}
use Rattle.loom_engine.specs.Trees.Outcomes.{met, outcome, is_failure}
use Rattle.loom_engine.specs.Trees.Sound.{IsQuiet, IsSoundTree}
use Rattle.loom_engine.specs.Trees.Meeting.{Settings, Marking, machine_of}
use Rattle.loom_engine.specs.Trees.Machines.{IsMarking}
use Rattle.loom_engine.specs.Trees.Drive.{Trail, drive, at_start, at_end, IsDriven}
use Rattle.loom_engine.specs.Trees.Check.{Makes, makes_none, makes_one, MakesAll, makes_last, makes_more, IsComplete, IsPart, IsFailure, CompleteLaw, FreshLaw, PartLaw, FailureLaw, EndLaw}
use Rattle.loom_engine.specs.Trees.Outcomes.{IsRun, AreRuns, choices_made}
use Rattle.loom_engine.proofs.Trees.Machines.{machine_law}
use Rattle.loom_engine.proofs.Trees.Driving.{drive_law}

-- ---- what has an outcome is allowed

module _ {A : Type 0} where
  pub quiet_none : (sub : Tree A) (room : ℕ) (x : Choice) (c : List Choice) (o : Result A FailureKind) → IsQuiet sub → outcome room sub (x ∷ c) ≡ Some o → ⊥
  quiet_none (Gives value) room x c o h e = cc e
  quiet_none (Fails failure) room x c o h e = cc e
  quiet_none (Closes rest) room x c o h e = quiet_none rest room x c o h e
  quiet_none (Asks question branches) room x c o h e = absurd h

  Option_at : ℕ → Tree A → List Choice → Choice → Type 0
  Option_at room sub before x = (n : Made) × (met room sub before ≡ Some n) × Among x n.options

  outcome_allowed : (sub : Tree A) (room : ℕ) (before : List Choice) (x : Choice) (after : List Choice) (o : Result A FailureKind) → IsSoundTree sub
      → outcome room sub (before ++ x ∷ after) ≡ Some o → Option_at room sub before x
  unfolding Option_at
  outcome_allowed (Gives value) room [] x after o h e = absurd (cc e)
  outcome_allowed (Gives value) room (b ∷ before) x after o h e = absurd (cc e)
  outcome_allowed (Fails failure) room [] x after o h e = absurd (cc e)
  outcome_allowed (Fails failure) room (b ∷ before) x after o h e = absurd (cc e)
  outcome_allowed (Closes rest) room [] x after o h e = absurd (quiet_none rest room x after o h e)
  outcome_allowed (Closes rest) room (b ∷ before) x after o h e = absurd (quiet_none rest room b (before ++ x ∷ after) o h e)
  outcome_allowed (Asks question branches) zero [] x after o h e = absurd (cc e)
  outcome_allowed (Asks question branches) zero (b ∷ before) x after o h e = absurd (cc e)
  outcome_allowed (Asks question branches) (suc room) [] x after o h e = go (among x (made_of question).options) e
    where
      go : (d : Dec (Among x (made_of question).options)) → pick d (outcome room (branches x) after) None ≡ Some o
          → (n : Made) × (Some (made_of question) ≡ Some n) × Among x n.options
      go (yes a) f = (made_of question, refl, a)
      go (no g) f = absurd (cc f)
  outcome_allowed (Asks question branches) (suc room) (b ∷ before) x after o h e =
      go (among b (made_of question).options) e (λ a f. outcome_allowed (branches b) room before x after o (h.1 b a) f)
    where
      go : (d : Dec (Among b (made_of question).options)) → pick d (outcome room (branches b) (before ++ x ∷ after)) None ≡ Some o
          → (Among b (made_of question).options → outcome room (branches b) (before ++ x ∷ after) ≡ Some o → Option_at room (branches b) before x)
          → (n : Made) × (pick d (met room (branches b) before) None ≡ Some n) × Among x n.options
      go (yes a) f ih = ih a f
      go (no g) f ih = absurd (cc f)

  pub allowed_by : (s : Settings) (adds : Marking) (tree : Tree A) (c : List Choice) (o : Result A FailureKind) → IsSoundTree tree → outcome s.max_branches tree c ≡ Some o
      → IsAllowed (machine_of s adds tree) c
  unfolding Option_at
  allowed_by s adds tree c o sound e before x after h =
      outcome_allowed tree s.max_branches before x after o sound (ap (outcome s.max_branches tree) (sym h) ∙ e)

-- ---- rounds

module _ {A : Type 0} (s : Settings) (adds : Marking) (tree : Tree A) (sound : IsSoundTree tree) (fair : IsMarking adds) where
  abbrev m : Machine
  m = machine_of s adds tree

  is : IsMachine (machine_of s adds tree)
  is = machine_law s adds tree sound fair

  -- the outcome of a drive from a path at rest
  record Round (p : List Stored) (o : Result A FailureKind) (path : Trail) : Type 0 where
    leaves : path.nodes ≡ after_run m p
    is_run : choices path.nodes ≡ run_of m p
    comes : outcome s.max_branches tree (run_of m p) ≡ Some o

  round_of : (p : List Stored) (o : Result A FailureKind) (path : Trail) → IsResting m p → drive s adds tree (at_start p) ≡ (o, path) → Round p o path
  round_of p o path rests h = go (drive_law s adds tree p sound fair rests)
    where
      go : IsDriven s adds tree p → Round p o path
      go z =
          let e : (o, path) ≡ (z.comes, at_end (after_run m p)) = sym h ∙ z.drives in
          let nodes : path.nodes ≡ after_run m p = ap (λ (y : Result A FailureKind × Trail). y.1.nodes) e in
          let same : o ≡ z.comes = ap (λ (y : Result A FailureKind × Trail). y.0) e in
          record { leaves = nodes; is_run = ap choices nodes ∙ z.is_run; comes = z.outcome ∙ ap Some (sym same) }

  later_rests : (p later : List Stored) → IsResting m p → next m p ≡ Some later → IsResting m later
  later_rests p later rests e = (subst (LeavesRest m p) e (round_law m p is rests)).0

  -- a round without a failure
  record Good (p : List Stored) (value : A) (path : Trail) : Type 0 where
    fine : m.fails (run_of m p) ≡ false
    is_run : choices path.nodes ≡ run_of m p
    ran : IsRun s.max_branches tree (choices path.nodes, value)
    steps : step path.nodes ≡ next m p

  good_of : (p : List Stored) (value : A) (path : Trail) → IsResting m p → drive s adds tree (at_start p) ≡ (Ok value, path) → Good p value path
  good_of p value path rests h =
      let r = round_of p (Ok value) path rests h in
      record {
        fine = ap is_failure r.comes;
        is_run = r.is_run;
        ran = ap (outcome s.max_branches tree) r.is_run ∙ r.comes;
        steps = ap step r.leaves;
      }

  pub record Part (p : List Stored) (runs : List (List Choice × A)) (last : List Stored) : Type 0 where
    pub rounds : Rounds m p (choices_made runs) last
    pub are_runs : AreRuns s.max_branches tree runs
    pub rests : IsResting m last

  pub part_of : (p : List Stored) (runs : List (List Choice × A)) (last : List Stored) → IsResting m p → Makes s adds tree p runs last → Part p runs last
  part_of p runs last rests (makes_none _) = record { rounds = stay p; are_runs = tt; rests = rests }
  part_of p runs last rests (makes_one _ later _ value path others h e made) =
      let g = good_of p value path rests h in
      let e_next : next m p ≡ Some later = sym g.steps ∙ e in
      go g e_next (part_of later others last (later_rests p later rests e_next) made)
    where
      go : Good p value path → next m p ≡ Some later → Part later others last → Part p ((choices path.nodes, value) ∷ others) last
      go g f z = record {
        rounds = subst (λ c. Rounds m p (c ∷ choices_made others) last) (sym g.is_run) (go_on p later last (choices_made others) g.fine f z.rounds);
        are_runs = (g.ran, z.are_runs);
        rests = z.rests;
      }

  record Whole (p : List Stored) (runs : List (List Choice × A)) : Type 0 where
    rounds : Completes m p (choices_made runs)
    are_runs : AreRuns s.max_branches tree runs

  whole_of : (p : List Stored) (runs : List (List Choice × A)) → IsResting m p → MakesAll s adds tree p runs → Whole p runs
  whole_of p runs rests (makes_last _ value path h e) =
      let g = good_of p value path rests h in
      record {
        rounds = subst (λ c. Completes m p (c ∷ [])) (sym g.is_run) (last_round p g.fine (sym g.steps ∙ e));
        are_runs = (g.ran, tt);
      }
  whole_of p runs rests (makes_more _ later value path others h e made) =
      let g = good_of p value path rests h in
      let e_next : next m p ≡ Some later = sym g.steps ∙ e in
      go g e_next (whole_of later others (later_rests p later rests e_next) made)
    where
      go : Good p value path → next m p ≡ Some later → Whole later others → Whole p ((choices path.nodes, value) ∷ others)
      go g f z = record {
        rounds = subst (λ c. Completes m p (c ∷ choices_made others)) (sym g.is_run) (one_round p later (choices_made others) g.fine f z.rounds);
        are_runs = (g.ran, z.are_runs);
      }

  made_run : (runs : List (List Choice × A)) (x : List Choice) → AreRuns s.max_branches tree runs → Member x (choices_made runs)
      → (value : A) × (outcome s.max_branches tree x ≡ Some (Ok value))
  made_run [] x h e = absurd e
  made_run (made ∷ runs) x h (inl e) = (made.1, ap (outcome s.max_branches tree) e ∙ h.0)
  made_run (made ∷ runs) x h (inr e) = made_run runs x h.1 e

  pub complete_at : (p : List Stored) (runs : List (List Choice × A)) → IsResting m p → MakesAll s adds tree p runs → IsComplete s adds tree p runs
  complete_at p runs rests made =
      let z = whole_of p runs rests made in
      let w = walk_complete m p (choices_made runs) is rests z.rounds in
      record { are_runs = z.are_runs; walk = w.0; none_fails = λ x h. made_run runs x z.are_runs ((w.0.members x).0 h) }

  pub part_at : (p last : List Stored) (runs : List (List Choice × A)) → IsResting m p → Makes s adds tree p runs last → IsPart s adds tree p runs last
  part_at p last runs rests made =
      let z = part_of p runs last rests made in
      record { are_runs = z.are_runs; stopped = walk_stopped m p last (choices_made runs) is rests z.rounds }

  pub fresh_at : (runs : List (List Choice × A)) → MakesAll s adds tree [] runs
      → IsWalkList (Reachable m) (choices_made runs) × (s.reduce ≡ false → Rattle.loom_engine.specs.Walk.Lists.IsInOrder m (choices_made runs))
  fresh_at runs made =
      let f = walk_fresh m is in
      let z = whole_of [] runs f.0 made in
      let w = (walk_complete m [] (choices_made runs) is f.0 z.rounds).0 in (
        record {
          members = λ x. (λ h. (w.members x).0 ((f.1 x).1 h), λ h. (f.1 x).0 ((w.members x).1 h));
          once = w.once;
          together = w.together;
        },
        λ e. walk_order m (choices_made runs) is e z.rounds,
      )

  pub failure_at : (p last : List Stored) (runs : List (List Choice × A)) (failure : FailureKind) (path : Trail) → IsResting m p → Makes s adds tree p runs last
      → drive s adds tree (at_start last) ≡ (Err failure, path) → IsFailure s adds tree p failure (choices path.nodes)
  failure_at p last runs failure path rests made h =
      let z = part_of p runs last rests made in
      let r = round_of last (Err failure) path z.rests h in
      let comes : outcome s.max_branches tree (choices path.nodes) ≡ Some (Err failure) = ap (outcome s.max_branches tree) r.is_run ∙ r.comes in
      let ended : m.node (choices path.nodes) ≡ None = ap m.node r.is_run ∙ ends_over m (choices last) (run_of m last) (run_reached m is (choices last)) in
      record {
        outcome = comes;
        allowed = allowed_by s adds tree (choices path.nodes) (Err failure) sound comes;
        is_run = sym (run_is m is (choices path.nodes) (choices path.nodes) (over (choices path.nodes) ended));
        left = subst (Rest m p) (sym r.is_run) (walk_stopped m p last (choices_made runs) is rests z.rounds).next_run;
      }

  -- ---- the walk's rounds are drives

  -- a run that doesn't fail
  record Fine (p : List Stored) : Type 0 where
    value : A
    drives : drive s adds tree (at_start p) ≡ (Ok value, at_end (after_run m p))

  fine_of : (p : List Stored) → IsResting m p → m.fails (run_of m p) ≡ false → Fine p
  fine_of p rests h = go (drive_law s adds tree p sound fair rests)
    where
      by : (o : Result A FailureKind) → is_failure (Some o) ≡ false → drive s adds tree (at_start p) ≡ (o, at_end (after_run m p)) → Fine p
      by (Ok value) e f = record { value = value; drives = f }
      by (Err failure) e f = absurd (cc e)

      go : IsDriven s adds tree p → Fine p
      go z = by z.comes (ap is_failure (sym z.outcome) ∙ h) z.drives

  failing_of : (p : List Stored) → IsResting m p → m.fails (run_of m p) ≡ true → (failure : FailureKind) × (path : Trail) × (drive s adds tree (at_start p) ≡ (Err failure, path))
  failing_of p rests h = go (drive_law s adds tree p sound fair rests)
    where
      by : (o : Result A FailureKind) → is_failure (Some o) ≡ true → drive s adds tree (at_start p) ≡ (o, at_end (after_run m p))
          → (failure : FailureKind) × (path : Trail) × (drive s adds tree (at_start p) ≡ (Err failure, path))
      by (Ok value) e f = absurd (cc e)
      by (Err failure) e f = (failure, at_end (after_run m p), f)

      go : IsDriven s adds tree p → (failure : FailureKind) × (path : Trail) × (drive s adds tree (at_start p) ≡ (Err failure, path))
      go z = by z.comes (ap is_failure (sym z.outcome) ∙ h) z.drives

  all_by : (p : List Stored) (list : List (List Choice)) → IsResting m p → Completes m p list → (runs : List (List Choice × A)) × MakesAll s adds tree p runs
  all_by p list rests (last_round _ h e) =
      let f = fine_of p rests h in
      ((choices (after_run m p), f.value) ∷ [], makes_last p f.value (at_end (after_run m p)) f.drives e)
  all_by p list rests (one_round _ later others h e c) =
      go (fine_of p rests h) (all_by later others (later_rests p later rests e) c)
    where
      go : Fine p → (runs : List (List Choice × A)) × MakesAll s adds tree later runs → (runs : List (List Choice × A)) × MakesAll s adds tree p runs
      go f z = ((choices (after_run m p), f.value) ∷ z.0, makes_more p later f.value (at_end (after_run m p)) z.0 f.drives e z.1)

  record MadeUpTo (p last : List Stored) : Type 0 where
    runs : List (List Choice × A)
    makes : Makes s adds tree p runs last
    rests : IsResting m last

  up_to : (p : List Stored) (list : List (List Choice)) (last : List Stored) → IsResting m p → Rounds m p list last → MadeUpTo p last
  up_to p list last rests (stay _) = record { runs = []; makes = makes_none p; rests = rests }
  up_to p list last rests (go_on _ later _ others h e c) =
      go (fine_of p rests h) (up_to later others last (later_rests p later rests e) c)
    where
      go : Fine p → MadeUpTo later last → MadeUpTo p last
      go f z = record {
        runs = (choices (after_run m p), f.value) ∷ z.runs;
        makes = makes_one p later last f.value (at_end (after_run m p)) z.runs f.drives e z.makes;
        rests = z.rests;
      }

  pub end_at : (p : List Stored) → IsResting m p → ((runs : List (List Choice × A)) × MakesAll s adds tree p runs)
      ⊎ ((runs : List (List Choice × A)) × (last : List Stored) × Makes s adds tree p runs last × (failure : FailureKind) × (path : Trail) × (drive s adds tree (at_start last) ≡ (Err failure, path)))
  end_at p rests = elim (walk_ends m p is rests).2 [
    | inl z ↦ inl (all_by p z.0 rests z.1)
    | inr z ↦ inr (stops z.1 z.3 (up_to p z.0 z.1 rests z.2))
  ]
    where
      stops : (last : List Stored) → m.fails (run_of m last) ≡ true → MadeUpTo p last
          → (runs : List (List Choice × A)) × (last : List Stored) × Makes s adds tree p runs last × (failure : FailureKind) × (path : Trail) × (drive s adds tree (at_start last) ≡ (Err failure, path))
      stops last h y = let f = failing_of last y.rests h in (y.runs, last, y.makes, f.0, f.1, f.2)

module _ {A : Type 0} where
  pub complete_law : CompleteLaw A
  complete_law s adds tree p runs sound fair rests made = complete_at s adds tree sound fair p runs rests made

  pub fresh_law : FreshLaw A
  fresh_law s adds tree runs sound fair made = fresh_at s adds tree sound fair runs made

  pub part_law : PartLaw A
  part_law s adds tree p last runs sound fair rests made = part_at s adds tree sound fair p last runs rests made

  pub failure_law : FailureLaw A
  failure_law s adds tree p last runs failure path sound fair rests made h = failure_at s adds tree sound fair p last runs failure path rests made h

  pub end_law : EndLaw A
  end_law s adds tree p sound fair rests = end_at s adds tree sound fair p rests
