-- What a check from a path without nodes reports.
use Rattle.std.proofs.Common.{◌≡◌, ◌≢◌, ℕ, zero, suc, false, List, [], ◌∷◌, ◌++◌, Some, None, refl, sym, subst}
use Rattle.std.specs.Prelude.{Err}
use Rattle.loom_objects.specs.declared.choice.Choice.{Choice}
use Rattle.loom_objects.specs.Tree.Question.{Among, made_of}
use Rattle.loom_objects.specs.Tree.Tree.{Tree, Gives, Fails, Closes, Asks}
use Rattle.loom_views.specs.declared.rt.failure.FailureKind.{FailureKind}
use Rattle.loom_views.specs.declared.rt.failure.FailureKind.TheVariants.{NotDeterministic}
use Rattle.loom_engine.specs.Walk.Machine.{Machine}
use Rattle.loom_engine.specs.Walk.Runs.{Reachable}
use Rattle.loom_engine.specs.Walk.Choices.{among, pick}
use Rattle.loom_engine.specs.Walk.Path.{Stored, choices, Rest}
use Rattle.loom_engine.specs.Walk.Walks.{run_of}
use Rattle.loom_engine.specs.Walk.Lists.{IsWalkList, IsInOrder}
use Rattle.loom_engine.specs.Trees.Outcomes.{outcome}
use Rattle.loom_engine.specs.Trees.Meeting.{Settings, Marking, machine_of}
use Rattle.loom_engine.specs.Trees.Check.{Makes, MakesAll}
use Rattle.loom_engine.specs.Trees.Drive.{Trail, drive, at_start}
use Rattle.loom_engine.specs.Trees.Outcomes.{choices_made}
use Rattle.loom_engine.specs.Trees.Reported.{AreReachable, HasCompleted, WasStopped, HasFailed}
use Rattle.loom_engine.specs.Trees.Reports.{IsSearch, SearchLaw, CompleteReportLaw, StoppedReportLaw, FailedReportLaw}
use Rattle.loom_engine.specs.Trees.Sound.{IsFair}
use Rattle.loom_engine.proofs.Walk.Round.{fresh_law as walk_fresh}
use Rattle.loom_engine.proofs.Trees.Machines.{machine_law}
use Rattle.loom_engine.proofs.Trees.Counting.{every_run_law, bound_law}
use Rattle.loom_engine.proofs.Trees.Marks.{marking_law}
use Rattle.loom_engine.proofs.Trees.Calm.{Goes, goes_from}
use Rattle.loom_engine.proofs.Trees.Checking.{Part, part_of, complete_at, fresh_at, failure_at}
use Rattle.loom_engine.proofs.Trees.Replays.{whole_replay}
use Rattle.loom_engine.proofs.Trees.Rounds.{empty_rests, driven}

-- ---- reports

module _ {A : Type 0} where
  -- a run of a fair tree fails otherwise
  pub fails_fair : (sub : Tree A) (room : ℕ) (c : List Choice) (failure : FailureKind) → IsFair sub → outcome room sub c ≡ Some (Err failure) → failure ≢ NotDeterministic
  fails_fair (Gives value) room [] failure fair h = absurd (cc h)
  fails_fair (Gives value) room (x ∷ c) failure fair h = absurd (cc h)
  fails_fair (Fails kind) room [] failure fair h = λ e. fair (cc (h, e))
  fails_fair (Fails kind) room (x ∷ c) failure fair h = absurd (cc h)
  fails_fair (Closes rest) room c failure fair h = fails_fair rest room c failure fair h
  fails_fair (Asks question branches) zero [] failure fair h = λ e. cc (h, e)
  fails_fair (Asks question branches) (suc room) [] failure fair h = absurd (cc h)
  fails_fair (Asks question branches) zero (x ∷ c) failure fair h = absurd (cc h)
  fails_fair (Asks question branches) (suc room) (x ∷ c) failure fair h =
      go (among x (made_of question).options) h (λ a e. fails_fair (branches x) room c failure (fair x a) e)
    where
      go : (d : Dec (Among x (made_of question).options)) → pick d (outcome room (branches x) c) None ≡ Some (Err failure)
          → (Among x (made_of question).options → outcome room (branches x) c ≡ Some (Err failure) → failure ≢ NotDeterministic) → failure ≢ NotDeterministic
      go (yes a) e ih = ih a e
      go (no f) e ih = absurd (cc e)

-- schedules mark as a search is to
pub search_law : {A : Type 0} → SearchLaw A
search_law s tree sound = record { marking = (marking_law s.bound).0; below = (marking_law s.bound).1; sound = sound }

module _ {A : Type 0} (s : Settings) (adds : Marking) (tree : Tree A) (search : IsSearch s adds tree) where
  abbrev m : Machine
  m = machine_of s adds tree

  -- a walk list of the reachable runs is as a report says
  are_reachable : (list : List (List Choice)) → IsWalkList (Reachable m) list → (m.reduce ≡ false → IsInOrder m list) → AreReachable s adds tree list
  are_reachable list walk in_order = record {
    walk = walk;
    in_order = in_order;
    every_run = λ unreduced unbounded exploring. every_run_law s adds tree search.sound search.marking unreduced unbounded exploring;
    within_bound = λ bound e. bound_law s adds tree bound search.sound search.marking e (search.below bound e);
  }

  complete_at_end : (runs : List (List Choice × A)) → MakesAll s adds tree [] runs → HasCompleted s adds tree runs
  complete_at_end runs made =
      let f = walk_fresh m (machine_law s adds tree search.sound search.marking) in
      let z = complete_at s adds tree search.sound search.marking [] runs f.0 made in
      let w = fresh_at s adds tree search.sound search.marking runs made in
      record {
        are_runs = z.are_runs;
        all_runs = are_reachable (choices_made runs) w.0 w.1;
        none_fails = λ x h. z.none_fails x ((f.1 x).1 h);
      }

  part : (runs : List (List Choice × A)) (last : List Stored) → Makes s adds tree [] runs last → Part s adds tree search.sound search.marking [] runs last
  part runs last made = part_of s adds tree search.sound search.marking [] runs last (empty_rests m) made

  goes : (runs : List (List Choice × A)) (last : List Stored) → Makes s adds tree [] runs last → Goes m [] (choices_made runs) last
  goes runs last made =
      let z = part runs last made in
      goes_from m (machine_law s adds tree search.sound search.marking) [] (choices_made runs) last (empty_rests m) z.rests z.rounds

  -- what is left from no nodes is what is reachable
  all_reachable : (list : List (List Choice)) → IsWalkList (Rest m []) list → (m.reduce ≡ false → IsInOrder m list) → AreReachable s adds tree list
  all_reachable list walk in_order =
      let f = walk_fresh m (machine_law s adds tree search.sound search.marking) in
      are_reachable list
      (record { members = λ x. (λ h. (walk.members x).0 ((f.1 x).1 h), λ h. (f.1 x).0 ((walk.members x).1 h)); once = walk.once; together = walk.together })
      in_order

  stopped_at : (runs : List (List Choice × A)) (last : List Stored) → Makes s adds tree [] runs last → WasStopped s adds tree runs
  stopped_at runs last made =
      let g = goes runs last made in
      record {
        are_runs = (part runs last made).are_runs;
        more = run_of m last ∷ g.more;
        unfinished = λ e. cc e;
        all_runs = all_reachable (choices_made runs ++ run_of m last ∷ g.more) g.walk (g.in_order refl);
      }

  failed_at : (runs : List (List Choice × A)) (last : List Stored) (failure : FailureKind) (path : Trail) → IsFair tree → Makes s adds tree [] runs last
      → drive s adds tree (at_start last) ≡ (Err failure, path) → HasFailed s adds tree runs failure (choices path.nodes)
  failed_at runs last failure path fair made h =
      let z = part runs last made in
      let g = goes runs last made in
      let d = driven s adds tree search.sound search.marking last (Err failure) path z.rests h in
      let f = failure_at s adds tree search.sound search.marking [] last runs failure path (empty_rests m) made h in
      record {
        are_runs = z.are_runs;
        more = g.more;
        all_runs = subst (λ r. AreReachable s adds tree (choices_made runs ++ r ∷ g.more)) (sym d.is_run)
            (all_reachable (choices_made runs ++ run_of m last ∷ g.more) g.walk (g.in_order refl));
        reachable = ((walk_fresh m (machine_law s adds tree search.sound search.marking)).1 (choices path.nodes)).0 f.left;
        fails = f.outcome;
        own = fails_fair tree s.max_branches (choices path.nodes) failure fair f.outcome;
        replays = whole_replay tree s.max_branches (choices path.nodes) (Err failure) search.sound f.outcome;
      }

module _ {A : Type 0} where
  pub complete_report_law : CompleteReportLaw A
  complete_report_law s adds tree runs search made = complete_at_end s adds tree search runs made

  pub stopped_report_law : StoppedReportLaw A
  stopped_report_law s adds tree runs last search made = stopped_at s adds tree search runs last made

  pub failed_report_law : FailedReportLaw A
  failed_report_law s adds tree runs last failure path search fair made h = failed_at s adds tree search runs last failure path fair made h
