-- A part of a search of recorded closures under way: the runs that were made of the closure, and that all runs are those of each function
-- that does what was done in them.
use Rattle.std.proofs.Common.{◌≡◌, ◌+◌, ℕ, List, [], ◌∷◌, length, refl, sym, ap, ap₂, ◌∙◌, subst, inl}
use Rattle.std.specs.Prelude.{Bool, true, false, Result, Err, Vec}
use Rattle.std.specs.declared.alloc.Global.{Global}
use Rattle.loom_objects.specs.Exploring.{initially}
use Rattle.loom_objects.specs.Tree.Tree.{Tree}
use Rattle.loom_objects.specs.declared.choice.Choice.{Choice}
use Rattle.loom_objects.specs.declared.failure.Failure.{Failure}
use Rattle.loom_engine.specs.Path.Route.{IsAtStart, IsSameSearch, Route, at_rest}
use Rattle.loom_engine.specs.Runs.Sound.{IsRunTree}
use Rattle.loom_engine.specs.Trees.Meeting.{Settings}
use Rattle.loom_engine.specs.declared.rt.execution.Limits.{Limits}
use Rattle.loom_engine.specs.declared.rt.parts.Part.{Part}
use Rattle.loom_engine.proofs.Runs.Bodies.{run_tree_law}
use Rattle.loom.specs.declared.model.builder.Builder.{Builder}
use Rattle.loom.specs.declared.model.parts.Worked.TheVariants as worked
use Rattle.loom.specs.declared.model.rounds.Round.{Round}
use Rattle.loom.specs.declared.model.rounds.Round.TheVariants.{Next, Last}
use Rattle.loom.specs.declared.model.rounds.Round.TheVariants as round
use Rattle.loom.specs.declared.model.run.Ending.{Ending}
use Rattle.loom.specs.declared.model.run.Ending.TheVariants as ending
use Rattle.loom.specs.declared.runner.stop.Stop.{Stop}
use Rattle.loom.specs.Model.Loop.{Comes}
use Rattle.loom.specs.Model.Parts.{ComesToAbove, Works}
use Rattle.loom.specs.Model.Run.{IsLocated, RunsAlong}
use Rattle.loom.specs.Model.Settings.{explores, search_of}
use Rattle.loom.specs.Runner.Check.{limits_of}
use Rattle.loom.specs.Runner.Handle.{Teller}
use Rattle.loom.specs.Runner.Made.{Made}
use Rattle.loom.specs.Runner.Recorded.{AreDone, Function, HasMade, MayHaveMade, Word, WorksRecorded, by_function, runs_by}
use Rattle.loom.specs.Runner.Recording.{Answers, EndsAbove, IsTakenAbove, IsTrueOf, MakesRun}
use Rattle.loom.proofs.ModelLemmas.Parts.{IsWorking, working_ends, working_fails, working_on, working_start, working_stops}
use Rattle.loom.proofs.RunnerLemmas.Real.{done_before, done_more, made_more, with_more}

-- ---- one run, and the step of its path

module _ {D V : Type 0} (takes : V → List Choice → D → V → Type 0) (floor : ℕ) (tree : Tree D) (keeps : Bool) (old mid : Route) (same : IsSameSearch old mid) (v v' : V) (path' : Route) where
  rests_so : (value : D) (on : Bool) → IsTakenAbove takes floor value mid v on path' v' → path' ≡ at_rest old.search old.explores path'.nodes
  rests_so value on t = t.rests ∙ ap₂ (λ (s : Settings) (e : Bool). at_rest s e path'.nodes) same.0 same.1

  pub above_comes : (ending : Ending D) (round : Round) → RunsAlong tree old ending mid → IsLocated keeps ending → EndsAbove takes floor ending mid v round path' v' → ComesToAbove (Comes tree keeps) takes floor old v round path' v'
  above_comes (ending.Ended value) Next runs placed t = record { value = value; after = mid; came = runs; took = t.took; steps = t.steps; rests = rests_so value true t }
  above_comes (ending.Ended value) Last runs placed t = record { value = value; after = mid; came = runs; took = t.took; steps = t.steps; rests = rests_so value false t }
  above_comes (ending.Ended value) (round.Failed failure choices) runs placed t = absurd t
  above_comes (ending.Failed failure) (round.Failed found choices) runs placed t = (
    mid,
    subst (λ (f : Failure). Comes tree keeps old (Err f) mid) (sym t.0) (runs, placed),
    t.1,
    t.3,
  )
  above_comes (ending.Failed failure) Next runs placed t = absurd t
  above_comes (ending.Failed failure) Last runs placed t = absurd t

-- where it goes on the path rests
pub above_rests : {D V : Type 0} (takes : V → List Choice → D → V → Type 0) (floor : ℕ) (old mid : Route) → IsSameSearch old mid → (v v' : V) (path' : Route) (ending : Ending D)
    → EndsAbove takes floor ending mid v Next path' v' → path' ≡ at_rest old.search old.explores path'.nodes
above_rests takes floor old mid same v v' path' (ending.Ended value) t = t.rests ∙ ap₂ (λ (s : Settings) (e : Bool). at_rest s e path'.nodes) same.0 same.1
above_rests takes floor old mid same v v' path' (ending.Failed failure) t = absurd t

-- ---- a part under way

module _ {D F V : Type 0} (called : F → Teller D → Result D Stop → F → Teller D → Type 0) (takes : V → List Choice → D → V → Type 0) (b : Builder) (f0 : F) (v0 : V) (part : Part) where
  abbrev pub tree : Function D → Tree D
  tree does = runs_by does (explores b) b.max_threads b.max_steps

  abbrev pub sound : (does : Function D) → IsRunTree (tree does)
  sound does = run_tree_law (by_function does) (explores b) b.max_threads b.max_steps []

  -- the part is worked on as one of the body which this function is
  pub record IsKnownPart (does : Function D) (v : V) (recording : Answers D) (path : Route) (count : ℕ) : Type 0 where
    pub words : List (Word D)
    pub true_of : IsTrueOf does words recording
    pub working : IsWorking b (tree does) (sound does) part takes v0 path v count

  -- so many runs were made, some of them of the closure
  pub record IsRecordedPart (f : F) (v : V) (recording : Answers D) (path : Route) (count : ℕ) : Type 0 where
    pub rests : path ≡ at_rest (search_of b) (explores b) path.nodes
    pub real : List (Made D)
    pub made : HasMade called (limits_of b) f0 real f
    pub known : (does : Function D) → AreDone does real → IsKnownPart does v recording path count

  pub part_start : (path : Route) (recording : Answers D) → path ≡ at_rest (search_of b) (explores b) part.path.nodes → ((does : Function D) → IsTrueOf does ([] ∷ []) recording)
      → IsRecordedPart f0 v0 recording path 0
  part_start path recording e fresh = record {
    rests = e ∙ ap (λ (r : Route). at_rest (search_of b) (explores b) r.nodes) (sym e);
    real = [];
    made = refl;
    known = λ does done. record { words = [] ∷ []; true_of = fresh does; working = working_start b (tree does) (sound does) part takes v0 path e };
  }

  module _ (f : F) (v : V) (recording : Answers D) (path : Route) (count : ℕ) (z : IsRecordedPart f v recording path count) where
    -- a run may begin with the path
    pub part_starts : IsAtStart path.explores path
    part_starts =
        let is = z.rests in
        (ap (λ (p : Route). p.position) is, refl, ap (λ (p : Route). p.exploring) is ∙ sym (ap (λ (p : Route). initially p.explores) is))

    -- a run was made by the settings of the check, and ended so
    module _ (limits : Limits) (keeps : Bool) (same : limits ≡ limits_of b) (places : keeps ≡ b.location) (f' : F) (v' : V) (mid path' : Route) (recording' : Answers D) (e : Ending D)
        (m : MakesRun called limits keeps path f recording e mid f' recording') (r : Round) (t : EndsAbove takes (length part.base.items) e mid v r path' v') where
      all_made : HasMade called (limits_of b) f0 (with_more called limits m.real z.real) f'
      all_made = made_more called (limits_of b) f0 f f' z.real m.real z.made (subst (λ (l : Limits). MayHaveMade called l f m.real f') same m.made)

      module _ (does : Function D) (done : AreDone does (with_more called limits m.real z.real)) where
        before : IsKnownPart does v recording path count
        before = z.known does (done_before called limits does z.real m.real done)

        stays : (later : List (Word D)) × IsTrueOf does later recording'
        stays = m.stays does before.words before.true_of (done_more called limits does z.real m.real done)

        along : RunsAlong (tree does) path e mid
        along =
            subst (λ (x : Bool). RunsAlong (runs_by does x b.max_threads b.max_steps) path e mid) (ap (λ (p : Route). p.explores) z.rests)
            (subst (λ (l : Limits). RunsAlong (runs_by does path.explores l.max_threads l.max_steps) path e mid) same (m.known.along does stays.0 stays.1))

        comes : ComesToAbove (Comes (tree does) b.location) takes (length part.base.items) path v r path' v'
        comes =
            above_comes takes (length part.base.items) (tree does) b.location path mid m.known.same v v' path' e r along (subst (λ (k : Bool). IsLocated k e) places m.known.located) t

    module _ (limits : Limits) (keeps : Bool) (same : limits ≡ limits_of b) (places : keeps ≡ b.location) (f' : F) (v' : V) (mid path' : Route) (recording' : Answers D) (e : Ending D)
        (m : MakesRun called limits keeps path f recording e mid f' recording') where
      pub part_on : EndsAbove takes (length part.base.items) e mid v Next path' v' → IsRecordedPart f' v' recording' path' (count + 1)
      part_on t = record {
        rests =
            above_rests takes (length part.base.items) path mid m.known.same v v' path' e t
            ∙ ap₂ (λ (s : Settings) (x : Bool). at_rest s x path'.nodes) (ap (λ (p : Route). p.search) z.rests) (ap (λ (p : Route). p.explores) z.rests);
        real = with_more called limits m.real z.real;
        made = all_made limits keeps same places f' v' mid path' recording' e m Next t;
        known = λ does done.
            let k = before limits keeps same places f' v' mid path' recording' e m Next t does done in
            record {
              words = (stays limits keeps same places f' v' mid path' recording' e m Next t does done).0;
              true_of = (stays limits keeps same places f' v' mid path' recording' e m Next t does done).1;
              working = working_on b (tree does) (sound does) part takes v0 path v count k.working path' v' (comes limits keeps same places f' v' mid path' recording' e m Next t does done);
            };
      }

      pub part_ends : (later : Part) → EndsAbove takes (length part.base.items) e mid v Last path' v' → part.is_done ≡ false → later.base ≡ part.base → later.path ≡ path' → later.is_done ≡ true
          → WorksRecorded called takes b f0 v0 v' part later (worked.Made (count + 1))
      part_ends later t left base leads done_so = record {
        real = with_more called limits m.real z.real;
        after = f';
        made = all_made limits keeps same places f' v' mid path' recording' e m Last t;
        as_body = λ does done.
            let k = before limits keeps same places f' v' mid path' recording' e m Last t does done in
            working_ends b (tree does) (sound does) part takes v0 path v count k.working later path' v' (comes limits keeps same places f' v' mid path' recording' e m Last t does done) left base leads done_so;
      }

      pub part_fails : (failure : Failure) (choices : Vec Choice Global) → EndsAbove takes (length part.base.items) e mid v (round.Failed failure choices) path' v' → part.is_done ≡ false
          → WorksRecorded called takes b f0 v0 v' part part (worked.Failed count failure choices)
      part_fails failure choices t left = record {
        real = with_more called limits m.real z.real;
        after = f';
        made = all_made limits keeps same places f' v' mid path' recording' e m (round.Failed failure choices) t;
        as_body = λ does done.
            let k = before limits keeps same places f' v' mid path' recording' e m (round.Failed failure choices) t does done in
            let c = comes limits keeps same places f' v' mid path' recording' e m (round.Failed failure choices) t does done in
            subst (λ (x : V). Works takes v0 x b (tree does) part part (worked.Failed count failure choices)) (sym c.3)
            (working_fails b (tree does) (sound does) part takes v0 path v count k.working c.0 failure choices c.1.0 c.2 left);
      }

  pub part_stops : (f : F) (v : V) (recording : Answers D) (path : Route) (count : ℕ) (later : Part) → IsRecordedPart f v recording path (count + 1) → part.is_done ≡ false → later.base ≡ part.base → later.path ≡ path
      → later.is_done ≡ false → WorksRecorded called takes b f0 v0 v part later (worked.Made (count + 1))
  part_stops f v recording path count later z left base leads unfinished = record {
    real = z.real;
    after = f;
    made = z.made;
    as_body = λ does done. working_stops b (tree does) (sound does) part takes v0 later path v count (z.known does done).working left base leads unfinished;
  }

  -- nothing was left of it
  pub part_was_done : part.is_done ≡ true → WorksRecorded called takes b f0 v0 v0 part part (worked.Made 0)
  part_was_done done_so = record { real = []; after = f0; made = refl; as_body = λ does done. (refl, inl (done_so, refl, refl, refl)) }
