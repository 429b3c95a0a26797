-- A check of recorded closures under way: the runs that were made of the closure, and that all runs are those of each function that does
-- what was done in them.
use Rattle.std.proofs.Common.{◌≡◌, ◌+◌, ◌<◌, ◌≤◌, ℕ, List, [], ◌∷◌, refl, sym, ap, ap₂, ◌∙◌, subst, arith}
use Rattle.std.specs.Prelude.{Bool, true, false, IfOk, IfSome, Option, Some, None, Result, Ok, Err, String, Vec, string_bytes}
use Rattle.std.proofs.Common.{inl, inr}
use Rattle.std.specs.declared.alloc.Global.{Global}
use Rattle.std.specs.declared.time.Duration.{Duration}
use Rattle.loom_objects.specs.Exploring.{initially}
use Rattle.loom_objects.specs.Tree.Tree.{Tree}
use Rattle.loom_objects.specs.declared.choice.Choice.{Choice}
use Rattle.loom_objects.specs.declared.failure.Failure.{Failure}
use Rattle.loom_engine.specs.Path.Route.{IsAtStart, IsSameSearch, Route, at_rest}
use Rattle.loom_engine.specs.Runs.Sound.{IsRunTree}
use Rattle.loom_engine.specs.Trees.Sound.{EndsUnchosen}
use Rattle.loom_engine.specs.Trees.Meeting.{Settings}
use Rattle.loom_engine.specs.declared.rt.execution.Limits.{Limits}
use Rattle.loom_engine.proofs.Runs.Bodies.{run_tree_law, unchosen_law}
use Rattle.loom.specs.declared.model.builder.Builder.{Builder}
use Rattle.loom.specs.declared.model.Limit.{Limit}
use Rattle.loom.specs.declared.model.report.Report.TheVariants.{Complete, Stopped, Failed}
use Rattle.loom.specs.declared.model.rounds.Round.{Round}
use Rattle.loom.specs.declared.model.rounds.Round.TheVariants.{Next, Last}
use Rattle.loom.specs.declared.model.rounds.Round.TheVariants as round
use Rattle.loom.specs.declared.model.run.Ending.{Ending}
use Rattle.loom.specs.declared.model.run.Ending.TheVariants as ending
use Rattle.loom.specs.declared.runner.error.RunnerError.{RunnerError}
use Rattle.loom.specs.declared.runner.history.event.Event.{Event}
use Rattle.loom.specs.declared.runner.stop.Stop.{Stop}
use Rattle.loom.specs.declared.runner.stop.Stop.TheVariants as stop
use Rattle.loom.specs.Model.Begun.{IsBegun}
use Rattle.loom.specs.Model.Check.{StopsBy}
use Rattle.loom.specs.Model.Loop.{Comes}
use Rattle.loom.specs.Model.Rounds.{ComesTo}
use Rattle.loom.specs.Model.Run.{IsLocated, RunsAlong}
use Rattle.loom.specs.Model.Saving.{IsKept, IsSavedAs}
use Rattle.loom.specs.Model.Settings.{explores, most_runs, search_of}
use Rattle.loom.specs.Runner.Chains.{GoesTo}
use Rattle.loom.specs.Runner.Check.{limits_of}
use Rattle.loom.specs.Runner.Errors.{IsRefusedByHost, error_by}
use Rattle.loom.specs.Runner.Handle.{Teller}
use Rattle.loom.specs.Runner.Histories.{Log, Share}
use Rattle.loom.specs.Runner.Run.{Checked, WasCalled}
use Rattle.loom.specs.Runner.Made.{Made}
use Rattle.loom.specs.Runner.Recorded.{AreDone, Function, HasMade, HasMadeOne, IsDone, MayHaveMade, ReportsRecorded, Word, by_function, runs_by}
use Rattle.loom.specs.Runner.Recording.{Answers, EndsRound, GoesOn, HasRun, IsKnownRun, IsOfRun, IsTaken, IsTrueOf, MakesRound, MakesRun}
use Rattle.loom.proofs.ModelLemmas.Checking.{IsChecking, checking_start, checking_stops, round_on, round_ends, round_fails}
use Rattle.loom.proofs.ModelLemmas.Paths.{begins as read_well}
use Rattle.loom.proofs.RunnerLemmas.Following.{IsFine, later_fine}
use Rattle.loom.proofs.RunnerLemmas.Real.{done_before, done_more, made_more, with_more}

-- ---- one run, and the step of its path

module _ {D V : Type 0} (takes : V → List Choice → D → V → Type 0) where
  module _ (tree : Tree D) (keeps : Bool) (old mid : Route) (same : IsSameSearch old mid) (v v' : V) (path' : Route) where
    rests_so : (value : D) (on : Bool) → IsTaken takes value mid v on path' v' → path' ≡ at_rest old.search old.explores path'.nodes
    rests_so value on t = t.rests ∙ ap₂ (λ (s : Settings) (e : Bool). at_rest s e path'.nodes) same.0 same.1

    pub round_comes : (ending : Ending D) (round : Round) → RunsAlong tree old ending mid → IsLocated keeps ending → EndsRound takes ending mid v round path' v' → ComesTo (Comes tree keeps) takes old v round path' v'
    round_comes (ending.Ended value) Next runs placed t = record { value = value; after = mid; came = runs; took = t.took; steps = t.steps; rests = rests_so value true t }
    round_comes (ending.Ended value) Last runs placed t = record { value = value; after = mid; came = runs; took = t.took; steps = t.steps; rests = rests_so value false t }
    round_comes (ending.Ended value) (round.Failed failure choices) runs placed t = absurd t
    round_comes (ending.Failed failure) (round.Failed found choices) runs placed t = (
      mid,
      subst (λ (f : Failure). Comes tree keeps old (Err f) mid) (sym t.0) (runs, placed),
      t.1,
      t.3,
    )
    round_comes (ending.Failed failure) Next runs placed t = absurd t
    round_comes (ending.Failed failure) Last runs placed t = absurd t

  pub round_goes : (limits : Limits) (old mid path' : Route) (v v' : V) (ending : Ending D) (round : Round) → HasRun limits old ending mid → EndsRound takes ending mid v round path' v' → round ≡ Next
      → GoesOn D limits old path'
  round_goes limits old mid path' v v' (ending.Ended value) Next (r, is) t next = (r, is.began, is.ended, subst (λ (p : Route). GoesTo p (Some path')) (sym is.route) (t.steps, t.rests))
  round_goes limits old mid path' v v' (ending.Ended value) Last has t next = absurd (cc next)
  round_goes limits old mid path' v v' (ending.Ended value) (round.Failed failure choices) has t next = absurd t
  round_goes limits old mid path' v v' (ending.Failed failure) Next has t next = absurd t
  round_goes limits old mid path' v v' (ending.Failed failure) Last has t next = absurd t
  round_goes limits old mid path' v v' (ending.Failed failure) (round.Failed found choices) has t next = absurd (cc next)

-- ---- one run of the closure

module _ {D F : Type 0} (called : F → Teller D → Result D Stop → F → Teller D → Type 0) (limits : Limits) where
  -- a call of the closure has made it, if it was settled
  pub real_made : {E : Type 0} (f f' : F) (began : Route) (log : Log D) (told : List (Share D)) → WasCalled called f f' told → (result : Result (Vec (Event D) Global) E)
      → IfOk result (λ events. Checked limits began log told × (events.items ≡ log.history))
      → IfOk result (λ events. (m : Made D) × HasMadeOne called limits f m f' × (m.log.history ≡ events.items))
  real_made f f' began log told w (Ok events) z = (
    record { began = began; log = log; told = told; handle = w.handle; answer = w.answer },
    (w.call, record { settles = z.0.settles; history = z.0.history; main = w.main }),
    sym z.1,
  )
  real_made f f' began log told w (Err e) z = tt

-- ---- a run

-- by what is recorded
pub known_runs : {D : Type 0} (limits : Limits) (keeps : Bool) (recording : Answers D) (path path' : Route) (known : Option (Ending D))
    → ((does : Function D) (words : List (Word D)) → IsTrueOf does words recording → IfSome known (λ ending. RunsAlong (runs_by does path.explores limits.max_threads limits.max_steps) path ending path'))
    → IfSome known (λ ending. HasRun limits path ending path') → IfSome known (IsLocated keeps) → IsSameSearch path path' → IfSome known (λ ending. IsKnownRun limits keeps recording path ending path')
known_runs limits keeps recording path path' (Some ending) along history located same = record { along = along; history = history; located = located; same = same }
known_runs limits keeps recording path path' None along history located same = tt

-- it stays so where all is the same
module _ {D : Type 0} (ending : Ending D) (path' : Route) where
  pub same_run : (limits other : Limits) (keeps keep : Bool) (recording answers : Answers D) (path began : Route) → other ≡ limits → keep ≡ keeps → answers ≡ recording → began ≡ path
      → IsKnownRun other keep answers began ending path' → IsKnownRun limits keeps recording path ending path'
  same_run limits other keeps keep recording answers path began a b c d h =
      subst (λ (l : Limits). IsKnownRun l keeps recording path ending path') a
      (subst (λ (k : Bool). IsKnownRun other k recording path ending path') b
      (subst (λ (r : Answers D). IsKnownRun other keep r path ending path') c
      (subst (λ (p : Route). IsKnownRun other keep answers p ending path') d h)))

module _ {D F : Type 0} (called : F → Teller D → Result D Stop → F → Teller D → Type 0) (limits : Limits) (keeps : Bool) (path : Route) (f : F) (old : Answers D) (ending : Ending D) (path' : Route) (f' : F)
    (new : Answers D) where
  pub runs_known : f' ≡ f → new ≡ old → IsKnownRun limits keeps old path ending path' → MakesRun called limits keeps path f old ending path' f' new
  runs_known uncalled same known = record {
    real = None;
    made = uncalled;
    stays = λ does words z none. (words, subst (IsTrueOf does words) (sym same) z);
    known = subst (λ (r : Answers D). IsKnownRun limits keeps r path ending path') (sym same) known;
  }

  -- and after a run was made of the closure
  pub runs_real : (m : Made D) → HasMadeOne called limits f m f' → ((does : Function D) (words : List (Word D)) → IsTrueOf does words old → IsDone does m.log.history → (more : List (Word D)) × IsTrueOf does more new)
      → IsKnownRun limits keeps new path ending path' → MakesRun called limits keeps path f old ending path' f' new
  runs_real m made recorded known = record { real = Some m; made = made; stays = recorded; known = known }

-- and the round that comes of a run
pub makes_round : {D F V : Type 0} (called : F → Teller D → Result D Stop → F → Teller D → Type 0) (takes : V → List Choice → D → V → Type 0) (limits : Limits) (keeps : Bool) (path : Route) (f : F) (v : V)
    (old : Answers D) (ending : Ending D) (mid : Route) (round : Round) (path' : Route) (f' : F) (v' : V) (new : Answers D) → MakesRun called limits keeps path f old ending mid f' new
    → EndsRound takes ending mid v round path' v' → MakesRound called takes limits keeps path f v old round path' f' v' new
makes_round called takes limits keeps path f v old ending mid round path' f' v' new m t = record {
  real = m.real;
  made = m.made;
  stays = m.stays;
  known = λ does words z.
      round_comes takes (runs_by does path.explores limits.max_threads limits.max_steps) keeps path mid m.known.same v v' path' ending round (m.known.along does words z) m.known.located t;
}

-- ---- errors

pub by_host_alone : (e : RunnerError) → IsRefusedByHost e → IsOfRun e
by_host_alone e (inl memory) = λ why same. absurd (cc (memory, same))
by_host_alone e (inr refused) = λ why same. absurd (cc (refused, same))

pub stopped_alone : (stop : Stop) (e : RunnerError) → e ≡ error_by stop → IsOfRun e
stopped_alone (stop.Failure failure) e is = λ why same. absurd (cc (is, same))
stopped_alone stop.Memory e is = λ why same. absurd (cc (is, same))
stopped_alone stop.Refused e is = λ why same. absurd (cc (is, same))

-- ---- a check under way

module _ {D F V : Type 0} (called : F → Teller D → Result D Stop → F → Teller D → Type 0) (takes : V → List Choice → D → V → Type 0) (b : Builder) (gives : Option (List ℕ) → Type 0) (f0 : F) (v0 : V) where
  abbrev pub tree : Function D → Tree D
  tree does = runs_by does (explores b) b.max_threads b.max_steps

  abbrev pub sound : (does : Function D) → IsRunTree (tree does)
  sound does = run_tree_law (by_function does) (explores b) b.max_threads b.max_steps []

  abbrev pub shut : (does : Function D) → EndsUnchosen (tree does)
  shut does = unchosen_law (by_function does) (explores b) b.max_threads b.max_steps []

  -- the check is one of the body which this function is
  pub record IsKnown (does : Function D) (holds : Option (List ℕ) → Type 0) (v : V) (recording : Answers D) (path : Route) (count until : ℕ) : Type 0 where
    pub words : List (Word D)
    pub true_of : IsTrueOf does words recording
    pub most : ℕ
    pub few : most + until ≤ b.checkpoint_interval
    pub checking : IsChecking b (tree does) (sound does) (shut does) takes v0 gives holds path v count most

  -- so many runs were made, some of them of the closure
  pub record IsRecorded (holds : Option (List ℕ) → Type 0) (f : F) (v : V) (recording : Answers D) (path : Route) (count until : ℕ) : Type 0 where
    pub fine : IsFine (search_of b) (explores b) path
    pub real : List (Made D)
    pub made : HasMade called (limits_of b) f0 real f
    pub known : (does : Function D) → AreDone does real → IsKnown does holds v recording path count until

  pub recorded_start : (holds : Option (List ℕ) → Type 0) (recording : Answers D) (path : Route) (until : ℕ) → until ≤ b.checkpoint_interval → IsBegun (search_of b) (explores b) gives holds path
      → ((does : Function D) → IsTrueOf does ([] ∷ []) recording) → IsRecorded holds f0 v0 recording path 0 until
  recorded_start holds recording path until few z fresh = record {
    fine = record { rests = z.rests; well = read_well (search_of b) (explores b) z.text path.nodes z.reads };
    real = [];
    made = refl;
    known = λ does done. record {
      words = [] ∷ [];
      true_of = fresh does;
      most = 0;
      few = omega arith;
      checking = checking_start b (tree does) (sound does) (shut does) takes v0 gives holds path z;
    };
  }

  module _ (holds : Option (List ℕ) → Type 0) (f : F) (v : V) (recording : Answers D) (path : Route) (count until : ℕ) (z : IsRecorded holds f v recording path count until) where
    -- a run may begin with the path
    pub recorded_starts : IsAtStart path.explores path
    recorded_starts =
        let is = z.fine.rests in
        (ap (λ (p : Route). p.position) is, refl, ap (λ (p : Route). p.exploring) is ∙ sym (ap (λ (p : Route). initially p.explores) is))

    module _ (answered : Duration → Type 0) where
      pub recorded_stops : (now : Option (List ℕ) → Type 0) (limit : Limit) (checkpoint : String Global) → IsSavedAs path now (string_bytes checkpoint)
          → StopsBy answered b (Stopped count limit checkpoint) → ReportsRecorded called takes b f0 v0 v gives now answered (Stopped count limit checkpoint)
      recorded_stops now limit checkpoint saved stops = record {
        real = z.real;
        after = f;
        made = z.made;
        as_body = λ does done.
            let k = z.known does done in
            checking_stops b (tree does) (sound does) (shut does) takes v0 gives holds path v count k.most k.checking answered now limit checkpoint saved stops;
      }

    -- the path was saved, or there was time, and then a round was made
    module _ (now : Option (List ℕ) → Type 0) (left : ℕ) (kept : IsKept b.checkpoint_interval until path holds now left) (limits : Limits) (keeps : Bool) (same : limits ≡ limits_of b) (places : keeps ≡ b.location)
        (f' : F) (v' : V) (path' : Route) (recording' : Answers D) where
      -- by the settings of the check
      module _ (r : Round) (m : MakesRound called takes limits keeps path f v recording r path' f' v' recording') where
        all_made : HasMade called (limits_of b) f0 (with_more called limits m.real z.real) f'
        all_made = made_more called (limits_of b) f0 f f' z.real m.real z.made (subst (λ (l : Limits). MayHaveMade called l f m.real f') same m.made)

        module _ (does : Function D) (done : AreDone does (with_more called limits m.real z.real)) where
          before : IsKnown does holds v recording path count until
          before = z.known does (done_before called limits does z.real m.real done)

          stays : (later : List (Word D)) × IsTrueOf does later recording'
          stays = m.stays does before.words before.true_of (done_more called limits does z.real m.real done)

          came : ComesTo (Comes (runs_by does path.explores limits.max_threads limits.max_steps) keeps) takes path v r path' v'
          came = m.known does stays.0 stays.1

          comes : ComesTo (Comes (tree does) b.location) takes path v r path' v'
          comes =
              subst (λ (e : Bool). ComesTo (Comes (runs_by does e b.max_threads b.max_steps) b.location) takes path v r path' v') (ap (λ (p : Route). p.explores) z.fine.rests)
              (subst (λ (l : Limits). ComesTo (Comes (runs_by does path.explores l.max_threads l.max_steps) b.location) takes path v r path' v') same
              (subst (λ (k : Bool). ComesTo (Comes (runs_by does path.explores limits.max_threads limits.max_steps) k) takes path v r path' v') places came))

      pub recorded_on : MakesRound called takes limits keeps path f v recording Next path' f' v' recording' → GoesOn D limits path path' → IsRecorded now f' v' recording' path' (count + 1) left
      recorded_on m goes = record {
        fine =
            (let fine : IsFine (search_of b) (explores b) goes.0.began = subst (IsFine (search_of b) (explores b)) (sym goes.1) z.fine in
            later_fine (search_of b) (explores b) limits goes.0 fine goes.2 path' goes.3);
        real = with_more called limits m.real z.real;
        made = all_made Next m;
        known = λ does done.
            let k = before Next m does done in
            let on = round_on b (tree does) (sound does) (shut does) takes v0 gives holds now path v count k.most until left k.checking k.few kept path' v' (comes Next m does done) in
            record { words = (stays Next m does done).0; true_of = (stays Next m does done).1; most = on.0; few = on.2; checking = on.1 };
      }

      module _ (answered : Duration → Type 0) (within : count < most_runs b) where
        pub recorded_ends : MakesRound called takes limits keeps path f v recording Last path' f' v' recording' → ReportsRecorded called takes b f0 v0 v' gives now answered (Complete (count + 1))
        recorded_ends m = record {
          real = with_more called limits m.real z.real;
          after = f';
          made = all_made Last m;
          as_body = λ does done.
              let k = before Last m does done in
              round_ends b (tree does) (sound does) (shut does) takes v0 gives holds now path v count k.most until left k.checking k.few kept answered within path' v' (comes Last m does done);
        }

        pub recorded_fails : (failure : Failure) (choices : Vec Choice Global) → MakesRound called takes limits keeps path f v recording (round.Failed failure choices) path' f' v' recording'
            → ReportsRecorded called takes b f0 v0 v' gives now answered (Failed count failure choices)
        recorded_fails failure choices m = record {
          real = with_more called limits m.real z.real;
          after = f';
          made = all_made (round.Failed failure choices) m;
          as_body = λ does done.
              let k = before (round.Failed failure choices) m does done in
              round_fails b (tree does) (sound does) (shut does) takes v0 gives holds now path v count k.most until left k.checking k.few kept answered within failure choices path' v'
              (comes (round.Failed failure choices) m does done);
        }
