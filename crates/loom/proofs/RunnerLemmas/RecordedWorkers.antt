-- Several workers that make runs of what is recorded: a part under way, a turn, and what was found, turn after turn.
use Rattle.std.proofs.Common.{◌≡◌, ◌≤◌, ◌<◌, ◌+◌, ℕ, zero, suc, List, [], ◌∷◌, ◌++◌, length, refl, sym, ap, ap₂, ◌∙◌, subst, inl, inr, arith}
use Rattle.std.specs.Prelude.{◌⊎◌, Bool, true, false, Some, Result, Ok, Err, IfOk, Vec, max, slice_index_or}
use Rattle.std.specs.declared.alloc.Global.{Global}
use Rattle.std.specs.declared.time.Duration.{Duration}
use Rattle.loom_objects.specs.Exploring.{initially}
use Rattle.loom_objects.specs.Tree.Tree.{Tree}
use Rattle.loom_objects.specs.declared.choice.Choice.{Choice}
use Rattle.loom_objects.specs.declared.failure.Failure.{Failure}
use Rattle.loom_engine.specs.Path.Route.{IsAtStart, Route, at_rest}
use Rattle.loom_engine.specs.Parts.Keeping.{Cuts, HasMadeAll, IsAt}
use Rattle.loom_engine.specs.Runs.Sound.{IsRunTree}
use Rattle.loom_engine.specs.Trees.Meeting.{Settings}
use Rattle.loom_engine.specs.Walk.Machine.{Machine}
use Rattle.loom_engine.specs.Walk.Sound.{IsMachine}
use Rattle.loom_engine.specs.declared.rt.execution.Limits.{Limits}
use Rattle.loom_engine.specs.declared.rt.parts.Part.{Part}
use Rattle.loom_engine.specs.declared.rt.parts.Parts.{Parts}
use Rattle.loom_engine.proofs.Runs.Bodies.{run_tree_law}
use Rattle.loom.specs.declared.model.Limit.{Limit}
use Rattle.loom.specs.declared.model.builder.Builder.{Builder}
use Rattle.loom.specs.declared.model.error.CheckError.{CheckError}
use Rattle.loom.specs.declared.model.parts.Slice.{Slice}
use Rattle.loom.specs.declared.model.parts.Worked.{Worked}
use Rattle.loom.specs.declared.model.parts.Worked.TheVariants as worked
use Rattle.loom.specs.declared.model.rounds.Round.{Round}
use Rattle.loom.specs.declared.model.rounds.Round.TheVariants.{Next, Last}
use Rattle.loom.specs.declared.model.rounds.Round.TheVariants as round
use Rattle.loom.specs.declared.model.run.Ending.{Ending}
use Rattle.loom.specs.declared.runner.parallel.Found.TheVariants.{Complete, Stopped, Failed}
use Rattle.loom.specs.declared.runner.parallel.round.Done.{Done}
use Rattle.loom.specs.declared.runner.parallel.round.Job.{Job}
use Rattle.loom.specs.declared.runner.parallel.round.Lost.{Lost}
use Rattle.loom.specs.declared.runner.parallel.round.Turn.{Turn}
use Rattle.loom.specs.declared.runner.stop.Stop.{Stop}
use Rattle.loom.specs.Model.Loop.{Comes, HasReached}
use Rattle.loom.specs.Model.Parts.{ComesToAbove, IsWithin, Works}
use Rattle.loom.specs.Model.Settings.{explores, most_runs, search_of}
use Rattle.loom.specs.Runner.Check.{limits_of}
use Rattle.loom.specs.Runner.Handle.{Teller}
use Rattle.loom.specs.Runner.Made.{Made}
use Rattle.loom.specs.Runner.Recorded.{AreDone, FindsRecorded, Function, HasMade, MayHaveMade, Word, by_function, runs_by}
use Rattle.loom.specs.Runner.RecordedWorkers.{ArePlayed, IsKnownAbove, IsPlayed, TakesKnown}
use Rattle.loom.specs.Runner.Recording.{Answers, EndsAbove, IsKnownRun, IsTrueOf, MakesRun, Records, RecordsMore}
use Rattle.loom.specs.Runner.Workers.{AreHandedOut, IsAtMost, TakesBack}
use Rattle.loom.proofs.ModelLemmas.Parts.{IsWorking, working_ends, working_fails, working_on, working_start, working_stops}
use Rattle.loom.proofs.RunnerLemmas.Finding.{HasCome, come_cut, come_further, finds_complete, finds_failed, finds_stopped}
use Rattle.loom.proofs.RunnerLemmas.Real.{done_behind, done_first, made_all}
use Rattle.loom.proofs.RunnerLemmas.RecordedParts.{above_comes, above_rests}
use Rattle.loom.proofs.RunnerLemmas.Turns.{turn_may_be_taken}
use Rattle.loom.proofs.RunnerLemmas.Workers.{EachMayBeWorkedOn, gone_nowhere}

-- a run may begin with the path of a part
pub part_begins : (b : Builder) (path : Route) (part : Part) → path ≡ at_rest (search_of b) (explores b) part.path.nodes → IsAtStart path.explores path
part_begins b path part is = (ap (λ (p : Route). p.position) is, refl, ap (λ (p : Route). p.exploring) is ∙ sym (ap (λ (p : Route). initially p.explores) is))

-- ---- one run, and the step of its path

pub known_above : {D V : Type 0} (takes : V → List Choice → D → V → Type 0) (limits : Limits) (keeps : Bool) (recording : Answers D) (floor : ℕ) (path mid path' : Route) (v v' : V) (e : Ending D) (r : Round)
    → IsKnownRun limits keeps recording path e mid → EndsAbove takes floor e mid v r path' v' → IsKnownAbove takes limits keeps recording floor path v path' v' r
known_above takes limits keeps recording floor path mid path' v v' e r known ends = record {
  along = λ does words z.
      above_comes takes floor (runs_by does path.explores limits.max_threads limits.max_steps) keeps path mid known.same v v' path' e r (known.along does words z) known.located ends;
  rests = λ next. above_rests takes floor path mid known.same v v' path' e (subst (λ (x : Round). EndsAbove takes floor e mid v x path' v') next ends);
}

-- the trees of the functions
module _ {D : Type 0} (b : Builder) where
  abbrev pub tree : Function D → Tree D
  tree does = runs_by does (explores b) b.max_threads b.max_steps

  abbrev pub sound : (does : Function D) → IsRunTree (tree does)
  sound does = run_tree_law (by_function does) (explores b) b.max_threads b.max_steps []

-- ---- a part under way

module _ {D V : Type 0} (takes : V → List Choice → D → V → Type 0) (b : Builder) (v0 : V) (part : Part) (recording : Answers D) where
  -- so many runs of it were made
  pub record IsPlaying (v : V) (path : Route) (count : ℕ) : Type 0 where
    pub rests : path ≡ at_rest (search_of b) (explores b) path.nodes
    pub working : (does : Function D) (words : List (Word D)) → IsTrueOf does words recording → IsWorking b (tree b does) (sound b does) part takes v0 path v count

  -- what is promised of it
  abbrev pub HasPlayed : V → Part → Worked → Type 0
  HasPlayed v later w =
      (does : Function D) (words : List (Word D)) → IsTrueOf does words recording → (w ≡ worked.Made 0) ⊎ Works takes v0 v b (tree b does) part later w

  pub playing_start : (path : Route) → path ≡ at_rest (search_of b) (explores b) part.path.nodes → IsPlaying v0 path 0
  playing_start path e = record {
    rests = e ∙ ap (λ (r : Route). at_rest (search_of b) (explores b) r.nodes) (sym e);
    working = λ does words z. working_start b (tree b does) (sound b does) part takes v0 path e;
  }

  -- a run may begin with the path
  pub playing_starts : (v : V) (path : Route) (count : ℕ) → IsPlaying v path count → IsAtStart path.explores path
  playing_starts v path count z =
      let is = z.rests in
      (ap (λ (p : Route). p.position) is, refl, ap (λ (p : Route). p.exploring) is ∙ sym (ap (λ (p : Route). initially p.explores) is))

  -- a run more, by the settings of the check
  module _ (v : V) (path : Route) (count : ℕ) (z : IsPlaying v path count) (limits : Limits) (same : limits ≡ limits_of b) (v' : V) (path' : Route) where
    comes : (r : Round) → IsKnownAbove takes limits b.location recording (length part.base.items) path v path' v' r → (does : Function D) (words : List (Word D)) → IsTrueOf does words recording
        → ComesToAbove (Comes (tree b does) b.location) takes (length part.base.items) path v r path' v'
    comes r known does words y =
        subst (λ (e : Bool). ComesToAbove (Comes (runs_by does e b.max_threads b.max_steps) b.location) takes (length part.base.items) path v r path' v') (ap (λ (p : Route). p.explores) z.rests)
        (subst (λ (l : Limits). ComesToAbove (Comes (runs_by does path.explores l.max_threads l.max_steps) b.location) takes (length part.base.items) path v r path' v') same (known.along does words y))

    pub playing_on : IsKnownAbove takes limits b.location recording (length part.base.items) path v path' v' Next → IsPlaying v' path' (count + 1)
    playing_on known = record {
      rests = known.rests refl ∙ ap₂ (λ (s : Settings) (e : Bool). at_rest s e path'.nodes) (ap (λ (p : Route). p.search) z.rests) (ap (λ (p : Route). p.explores) z.rests);
      working = λ does words y. working_on b (tree b does) (sound b does) part takes v0 path v count (z.working does words y) path' v' (comes Next known does words y);
    }

    pub playing_ends : (later : Part) → IsKnownAbove takes limits b.location recording (length part.base.items) path v path' v' Last → part.is_done ≡ false → later.base ≡ part.base → later.path ≡ path'
        → later.is_done ≡ true → HasPlayed v' later (worked.Made (count + 1))
    playing_ends later known left base leads done = λ does words y.
        inr (working_ends b (tree b does) (sound b does) part takes v0 path v count (z.working does words y) later path' v' (comes Last known does words y) left base leads done)

    pub playing_fails : (failure : Failure) (choices : Vec Choice Global) → IsKnownAbove takes limits b.location recording (length part.base.items) path v path' v' (round.Failed failure choices)
        → part.is_done ≡ false → HasPlayed v' part (worked.Failed count failure choices)
    playing_fails failure choices known left = λ does words y.
        let c = comes (round.Failed failure choices) known does words y in
        inr
        (subst (λ (x : V). Works takes v0 x b (tree b does) part part (worked.Failed count failure choices)) (sym c.3)
        (working_fails b (tree b does) (sound b does) part takes v0 path v count (z.working does words y) c.0 failure choices c.1.0 c.2 left))

  -- it is left behind a run
  pub playing_stops : (v : V) (path : Route) (count : ℕ) (later : Part) → IsPlaying v path (count + 1) → part.is_done ≡ false → later.base ≡ part.base → later.path ≡ path → later.is_done ≡ false
      → HasPlayed v later (worked.Made (count + 1))
  playing_stops v path count later z left base leads unfinished = λ does words y.
      inr (working_stops b (tree b does) (sound b does) part takes v0 later path v count (z.working does words y) left base leads unfinished)

  -- or where the next one lacks an answer
  pub playing_lacks : (v : V) (path : Route) (count : ℕ) (later : Part) → IsPlaying v path count → part.is_done ≡ false → later.base ≡ part.base → later.path ≡ path → later.is_done ≡ false
      → HasPlayed v later (worked.Made count)
  playing_lacks v path zero later z left base leads unfinished = λ does words y. inl refl
  playing_lacks v path (suc count) later z left base leads unfinished =
      let more : count + 1 ≡ suc count = omega arith in
      subst (λ (n : ℕ). HasPlayed v later (worked.Made n)) more
      (playing_stops v path count later (subst (λ (n : ℕ). IsPlaying v path n) (sym more) z) left base leads unfinished)

  pub played_nothing : (v : V) (later : Part) → HasPlayed v later (worked.Made 0)
  played_nothing v later = λ does words y. inl refl

-- ---- each part

so_or_none : {P : Type 0} (w : Worked) → (w ≡ worked.Made 0) ⊎ P → (◌≡◌ {A = Result Worked CheckError} (Ok w) (Ok (worked.Made 0))) ⊎ P
so_or_none w (inl none) = inl (ap Ok none)
so_or_none w (inr is) = inr is

pub played_so : {V D : Type 0} (takes : V → List Choice → D → V → Type 0) (b : Builder) (recording : Answers D) (job : Job V) (part : Part) (v : V) (came : Result Worked CheckError) → part.base ≡ job.part.base
    → IfOk came (HasPlayed takes b job.visitor job.part recording v part) → IsPlayed takes b recording job (record { part = part; visitor = v; worked = came })
played_so takes b recording job part v (Ok w) base so = record {
  so = λ does words z. (ap (λ (l : Vec Choice Global). l.items) base, so_or_none w (so does words z));
}
played_so takes b recording job part v (Err e) base so = record { so = λ does words z. (ap (λ (l : Vec Choice Global). l.items) base, inr tt) }

pub within_so : (slice : Slice) (came : Result Worked CheckError) → IfOk came (IsWithin slice) → IsAtMost (max 1 slice.runs) came
within_so slice (Ok (worked.Made count)) h = h
within_so slice (Ok (worked.Failed count failure choices)) h = tt
within_so slice (Err e) h = tt

pub played_each : {V D : Type 0} (takes : V → List Choice → D → V → Type 0) (b : Builder) (recording : Answers D) (jobs : List (Job V)) (list : List (Done V)) → length list ≡ length jobs
    → ((i : ℕ) (d : Done V) → i < length jobs → (job : Job V) × ((other : Job V) → slice_index_or jobs i other ≡ job) × IsPlayed takes b recording job (slice_index_or list i d))
    → ArePlayed takes b recording jobs list
played_each takes b recording [] [] e f = tt
played_each takes b recording [] (x ∷ list) e f = absurd (omega arith)
played_each takes b recording (j ∷ jobs) [] e f = absurd (omega arith)
played_each takes b recording (j ∷ jobs) (x ∷ list) e f = (
  (let z = f 0 x (omega arith) in subst (λ (y : Job _). IsPlayed takes b recording y x) (sym (z.1 j)) z.2),
  played_each takes b recording jobs list (omega arith) (λ i d l. f (suc i) d (omega (arith, l))),
)

may_each : {V D : Type 0} (takes : V → List Choice → D → V → Type 0) (b : Builder) (recording : Answers D) (does : Function D) (words : List (Word D)) → IsTrueOf does words recording → (jobs : List (Job V))
    (list : List (Done V)) → ArePlayed takes b recording jobs list → EachMayBeWorkedOn takes b (runs_by does (explores b) b.max_threads b.max_steps) jobs list
may_each takes b recording does words z [] [] p = tt
may_each takes b recording does words z [] (x ∷ list) p = absurd p
may_each takes b recording does words z (j ∷ jobs) [] p = absurd p
may_each takes b recording does words z (j ∷ jobs) (x ∷ list) p = (p.0.so does words z, may_each takes b recording does words z jobs list p.1)

-- ---- a turn

pub turn_known : {G V D : Type 0} (takes : V → List Choice → D → V → Type 0) (is_new : V → Type 0) (joins : G → V → G → Type 0) (b : Builder) (recording : Answers D) (before after : Parts) (old later : G)
    (jobs : List (Job V)) (list : List (Done V)) (turn : Turn) → AreHandedOut is_new before.list.items 0 jobs → ArePlayed takes b recording jobs list
    → TakesBack takes is_new joins before after old later list turn → TakesKnown takes is_new joins b recording before after old later turn
turn_known takes is_new joins b recording before after old later jobs list turn h p t = λ does words z.
    turn_may_be_taken takes is_new joins b (tree b does) (sound b does) before after old later jobs list turn h (may_each takes b recording does words z jobs list p) t

-- ---- what was recorded before it

module _ {D F : Type 0} (called : F → Teller D → Result D Stop → F → Teller D → Type 0) where
  pub records_by : (limits l : Limits) (keeps : Bool) (path path' : Route) (f f' : F) (r r' : Answers D) (e : Ending D) → limits ≡ l → MakesRun called limits keeps path f r e path' f' r' → RecordsMore called l f r f' r'
  records_by limits l keeps path path' f f' r r' e same m = record {
    real = m.real;
    made = subst (λ (x : Limits). MayHaveMade called x f m.real f') same m.made;
    stays = m.stays;
  }

-- ---- a check under way

module _ {D F G V : Type 0} (called : F → Teller D → Result D Stop → F → Teller D → Type 0) (takes : V → List Choice → D → V → Type 0) (is_new : V → Type 0) (joins : G → V → G → Type 0) (b : Builder) (f0 : F)
    (before : Parts) (old : G) where
  -- the check is one of the body which this function is
  pub record IsKnownSearch (does : Function D) (recording : Answers D) (parts : Parts) (later : G) (count : ℕ) : Type 0 where
    pub words : List (Word D)
    pub true_of : IsTrueOf does words recording
    pub come : HasCome takes is_new joins b (tree b does) (sound b does) before old parts later count

  -- so many runs were made, some of them of the closure
  pub record IsFinding (f : F) (recording : Answers D) (parts : Parts) (later : G) (count : ℕ) : Type 0 where
    pub real : List (Made D)
    pub made : HasMade called (limits_of b) f0 real f
    pub known : (does : Function D) → AreDone does real → IsKnownSearch does recording parts later count

  pub finding_start : (recording : Answers D) → ((does : Function D) → IsTrueOf does ([] ∷ []) recording) → IsFinding f0 recording before old 0
  finding_start recording fresh = record {
    real = [];
    made = refl;
    known = λ does done. record {
      words = [] ∷ [];
      true_of = fresh does;
      come = λ made at. gone_nowhere takes is_new joins b (tree b does) made old before at;
    };
  }

  module _ (f : F) (recording : Answers D) (parts : Parts) (later : G) (count : ℕ) (z : IsFinding f recording parts later count) where
    module _ (answered : Duration → Type 0) (few : count ≤ most_runs b) where
      pub finding_complete : ((m : Machine) (made : List (List Choice)) → IsMachine m → IsAt m made parts → HasMadeAll m made)
          → FindsRecorded called takes is_new joins b f0 answered before parts old later (Complete count)
      finding_complete all = record {
        real = z.real;
        after = f;
        made = z.made;
        as_body = λ does done. finds_complete takes is_new joins b (tree b does) (sound b does) before old answered parts later count few (z.known does done).come all;
      }

      pub finding_stopped : (limit : Limit) → HasReached answered b count (Some limit) → FindsRecorded called takes is_new joins b f0 answered before parts old later (Stopped count limit)
      finding_stopped limit reached = record {
        real = z.real;
        after = f;
        made = z.made;
        as_body = λ does done. finds_stopped takes is_new joins b (tree b does) (sound b does) before old answered parts later count limit few (z.known does done).come reached;
      }

    -- a turn more, before which runs of the closure were recorded
    module _ (f' : F) (recording' : Answers D) (m : Records called (limits_of b) f recording f' recording') (parts' : Parts) (later' : G) (turn : Turn)
        (t : TakesKnown takes is_new joins b recording' parts parts' later later' turn) where
      all_made : HasMade called (limits_of b) f0 (m.real ++ z.real) f'
      all_made = made_all called (limits_of b) f0 f z.real z.made m.real f' m.made

      module _ (does : Function D) (done : AreDone does (m.real ++ z.real)) where
        here : IsKnownSearch does recording parts later count
        here = z.known does (done_behind does m.real z.real done)

        stays : (more : List (Word D)) × IsTrueOf does more recording'
        stays = m.stays does here.words here.true_of (done_first does m.real z.real done)

      pub finding_on : IsFinding f' recording' parts' later' (count + turn.runs)
      finding_on = record {
        real = m.real ++ z.real;
        made = all_made;
        known = λ does done. record {
          words = (stays does done).0;
          true_of = (stays does done).1;
          come =
              come_further takes is_new joins b (tree b does) (sound b does) before old parts parts' later later' count turn (here does done).come
              (t does (stays does done).0 (stays does done).1);
        };
      }

      pub finding_failed : (answered : Duration → Type 0) (lost : Lost) → count + turn.runs ≤ most_runs b → turn.lost ≡ Some lost
          → FindsRecorded called takes is_new joins b f0 answered before parts' old later' (Failed (count + turn.runs) lost.failure lost.choices)
      finding_failed answered lost few is = record {
        real = m.real ++ z.real;
        after = f';
        made = all_made;
        as_body = λ does done.
            finds_failed takes is_new joins b (tree b does) (sound b does) before old answered parts parts' later later' count turn lost few (here does done).come
            (t does (stays does done).0 (stays does done).1) is;
      }

  -- and its parts are cut
  pub finding_cut : (f : F) (recording : Answers D) (parts after : Parts) (later : G) (count : ℕ) → IsFinding f recording parts later count → Cuts parts after → IsFinding f recording after later count
  finding_cut f recording parts after later count z cut = record {
    real = z.real;
    made = z.made;
    known = λ does done.
        let k = z.known does done in
        record { words = k.words; true_of = k.true_of; come = come_cut takes is_new joins b (tree b does) (sound b does) before old parts after later count k.come cut };
  }
