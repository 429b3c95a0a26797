-- Runs of what is recorded that note states, and the checks of such runs.
use Rattle.std.proofs.Common.{◌≡◌, ◌≤◌, ◌+◌, ℕ, Bool, List, [], ◌∷◌, ◌++◌, map, refl, sym, ap, ap₂, ◌∙◌, subst, inl, inr, arith}
use Rattle.std.specs.Prelude.{⊤, IfOk, IfSome, OnErr, OnOk, Option, Some, None, Result, Ok, Err, option_map, slice_set}
use Rattle.std.proofs.lemmas.List.{map-append}
use Rattle.std.proofs.lemmas.Option.{get_or_from_slice_get, slice_get-map, slice_get_within}
use Rattle.std.specs.declared.time.Duration.{Duration}
use Rattle.loom_views.specs.declared.rt.views.Views.{Views}
use Rattle.loom_objects.specs.Operation.Labelled.{Op}
use Rattle.loom_objects.specs.Operation.Plain.{plain, started}
use Rattle.loom_objects.specs.declared.choice.Choice.{Choice}
use Rattle.loom_objects.specs.declared.failure.Stop.TheVariants.{Failure as Because, Memory}
use Rattle.loom_objects.specs.declared.operation.Request.{Request}
use Rattle.loom_objects.specs.declared.operation.Reply.{Reply}
use Rattle.loom_objects.specs.declared.operation.Turn.{Turn}
use Rattle.loom_engine.specs.declared.rt.execution.Limits.{Limits}
use Rattle.loom_engine.specs.declared.rt.execution.Progress.{Progress}
use Rattle.loom_engine.specs.declared.rt.states.State.{State as Kept}
use Rattle.loom_engine.specs.Covering.Between.{Tracks}
use Rattle.loom_engine.specs.Covering.Kept.{Noted, NotesAs, state_in}
use Rattle.loom_engine.specs.Execution.{ExecutionState}
use Rattle.loom_engine.specs.Path.Route.{IsAtStart, IsSameSearch, Route, at_rest, chosen}
use Rattle.loom_engine.specs.Runs.Body.{Meaning, with_child}
use Rattle.loom_engine.specs.Trees.Meeting.{Settings, whole_search}
use Rattle.loom_objects.specs.Exploring.{initially}
use Rattle.loom.specs.declared.model.builder.Builder.{Builder}
use Rattle.loom.specs.declared.model.cover.Covered.{Covered}
use Rattle.loom.specs.declared.model.cover.run.Ending.{Ending}
use Rattle.loom.specs.declared.model.cover.run.Found.{Found}
use Rattle.loom.specs.declared.model.cover.run.Found.TheVariants.{Known, New}
use Rattle.loom.specs.declared.model.cover.run.Halt.{Halt}
use Rattle.loom.specs.declared.model.cover.run.Halt.TheVariants as halt
use Rattle.loom.specs.declared.runner.stop.Stop.{Stop as RunStop}
use Rattle.loom.specs.Model.Cover.{ComesTo, EndsWith, IsEndBy, IsHanding, IsUnderWay, LooksUp, LooksUpRun, Noting, Passes}
use Rattle.loom.specs.Model.CoverStores.{IsCoverKept, StillHolds}
use Rattle.loom.specs.Model.Covered.{Covering}
use Rattle.loom.specs.Model.Settings.{explores}
use Rattle.loom.specs.Model.Stores.{Keeps}
use Rattle.loom.specs.Runner.Check.{limits_of}
use Rattle.loom.specs.Runner.Handle.{Teller}
use Rattle.loom.specs.Runner.Made.{Made}
use Rattle.loom.specs.Runner.Recorded.{CoversRecorded, Function, HasMadeOne, IsDone, StillHoldsRecorded, Word, begun_by, by_function, spawned, tells}
use Rattle.loom.specs.Runner.Recording.{Answers, AreAt, HandsOver, IsTrueOf, Records, RecordsMore, RecordsRun, all_told, told_at, told_in}
use Rattle.loom.proofs.ModelLemmas.CoverRounds.{IsChecking, checking_left, left_late}
use Rattle.loom.proofs.ModelLemmas.Covering.{ended_so, hands}
use Rattle.loom.proofs.ModelLemmas.Errors.{on_error}
use Rattle.loom.proofs.ModelLemmas.Handing.{IsHanded}
use Rattle.loom.proofs.RunnerLemmas.Recorded.{none_is_true, plain_starting, started_starting}
use Rattle.loom.proofs.RunnerLemmas.Real.{done_before, done_more, made_more, with_more}

-- ---- what is noted

module _ {D : Type 0} (words : List (Word D)) where
  -- what threads at these places were told
  told_there : (places : List ℕ) (told : List (Word D)) → AreAt words places told → map (told_at words) places ≡ told
  told_there [] [] z = refl
  told_there [] (w ∷ told) z = absurd z
  told_there (p ∷ places) [] z = absurd z
  told_there (p ∷ places) (w ∷ told) z = ap₂ (λ (x : Word D) (l : List (Word D)). x ∷ l) (get_or_from_slice_get words p w [] z.0) (told_there places told z.1)

  module _ (run : Progress D) (places : List ℕ) (told : List (Word D)) (at : AreAt words places told) where
    state_told : (never : Bool) (views : Views) → told_in words (state_in never run places views) ≡ state_in never run told views
    state_told never views = ap (λ (l : List (Word D)). state_in never run l views) (told_there places told at)

    notes_told : (never : Bool) (views : Views) (made : List Choice) (old new : Noted D ℕ) → NotesAs (state_in never run places views) made old new
        → NotesAs (state_in never run told views) made (all_told words old) (all_told words new)
    notes_told never views made old new (inl (states, led, same)) =
        inl (
          ap (map (told_in words)) states ∙ map-append (told_in words) old.states (state_in never run places views ∷ [])
              ∙ ap (λ (s : Kept D (Word D)). map (told_in words) old.states ++ s ∷ []) (state_told never views),
          led,
          same,
        )
    notes_told never views made old new (inr same) = inr (ap (all_told words) same)

    looks_told : (never : Bool) (views : Views) (path : Route) (old new : Noted D ℕ) (found : Found) → LooksUp (state_in never run places views) path old found new
        → LooksUp (state_in never run told views) path (all_told words old) found (all_told words new)
    looks_told never views path old new (Known number) (explores, used, at_number, same) = (
      explores,
      used,
      slice_get-map (told_in words) old.states number ∙ ap (option_map (told_in words)) at_number ∙ ap Some (state_told never views),
      ap (all_told words) same,
    )
    looks_told never views path old new New (inl (explores, used, notes)) = inl (explores, used, notes_told never views (chosen path) old new notes)
    looks_told never views path old new New (inr same) = inr (ap (all_told words) same)

    looks_so : (path : Route) (old new : Noted D ℕ) (found : Found) → LooksUpRun run places path old found new → LooksUpRun run told path (all_told words old) found (all_told words new)
    looks_so path old new found l = record { views = l.views; order = l.order; looks = looks_told old.never l.views path old new found l.looks }

  -- what comes of a branch point, where threads are at these places, and were told that
  pub passes_told : (places : List ℕ) (told : List (Word D)) → AreAt words places told → (old new : ExecutionState D) (path after : Route) (noted more : Noted D ℕ) (result : Result (Turn D) Halt)
      → Passes places old path noted result new after more → Passes told old path (all_told words noted) result new after (all_told words more)
  passes_told places told at old new path after noted more (Ok turn) (looked, event) = (looks_so old.run places told at path noted more New looked, event)
  passes_told places told at old new path after noted more (Err (halt.Met number)) (looked, same) = (looks_so old.run places told at path noted more (Known number) looked, same)
  passes_told places told at old new path after noted more (Err (halt.Stopped (Because failure))) event = event
  passes_told places told at old new path after noted more (Err (halt.Stopped Memory)) event = tt

-- ---- an operation

module _ {D : Type 0} (does : Function D) (words told : List (Word D)) (thread : ℕ) (answer : Reply D) (asked : Request D ⊤) (places : List ℕ) (h : HandsOver does words told thread answer asked places) where
  abbrev pub next_word : Word D
  next_word = tells answer ∷ h.word

  abbrev pub next_op : Op D (Word D)
  next_op = (by_function does h.word answer).1

  pub is_plain : asked ≡ plain next_op
  is_plain = sym (plain_starting (spawned ∷ next_word) (does next_word) ∙ h.asks)

  pub more_told : with_child (slice_set told thread next_word) (begun_by asked next_word) ≡ with_child (slice_set told thread next_word) (started next_op)
  more_told =
      ap (with_child (slice_set told thread next_word))
      (sym (started_starting (spawned ∷ next_word) (does next_word) ∙ ap (λ (o : Request D ⊤). begun_by o next_word) h.asks))

  -- the thread's body hands over what the function says
  pub hands_on : (run : Noting D (Word D)) (progress : Progress D) (path : Route) (noted : Noted D (Word D)) → IsUnderWay (by_function does) run told progress path thread answer noted
      → IsHanding (by_function does) run (slice_set told thread next_word) progress path next_op noted
  hands_on run progress path noted under =
      hands (by_function does) run told progress path thread answer noted under h.word next_word next_op handed
    where
      handed : IsHanded (by_function does) told thread answer h.word next_word next_op
      handed = record {
        within = slice_get_within told thread h.word h.at;
        at = sym (get_or_from_slice_get told thread h.word h.word h.at);
        step = refl;
      }

  -- and its event comes to what an operation comes to
  pub comes_on : (run : Noting D (Word D)) (progress progress' : Progress D) (path path' : Route) (noted noted' : Noted D (Word D)) (result : Result (Turn D) Halt)
      → IsUnderWay (by_function does) run told progress path thread answer noted
      → ((before now : List (Word D)) (run : Noting D (Word D)) (op : Op D (Word D)) → asked ≡ plain op → now ≡ with_child before (started op) → AreAt words places now
      → IsHanding (by_function does) run before progress path op noted → ComesTo (by_function does) run result now progress' path' noted')
      → ComesTo (by_function does) run result (with_child (slice_set told thread next_word) (begun_by asked next_word)) progress' path' noted'
  comes_on run progress progress' path path' noted noted' result under event =
      event (slice_set told thread next_word) (with_child (slice_set told thread next_word) (begun_by asked next_word)) run next_op is_plain more_told h.goes
      (hands_on run progress path noted under)

-- its end, if it has one
pub known_end_of : {D S E : Type 0} (next : Meaning D S) (run : Noting D S) (result : Result (Turn D) Halt) (known : Result (Option (Ending D)) E) (bodies : List S) (progress : Progress D) (path : Route) (noted : Noted D S)
    → IfOk known (λ k. IfSome k (IsEndBy result)) → ComesTo next run result bodies progress path noted → IfOk known (λ k. IfSome k (λ ending. EndsWith next run ending path noted))
known_end_of next run result (Ok (Some ending)) bodies progress path noted is came = ended_so next run result ending bodies progress path noted is came
known_end_of next run result (Ok None) bodies progress path noted is came = tt
known_end_of next run result (Err refused) bodies progress path noted is came = tt

-- ---- runs of the closure

module _ {D F : Type 0} (called : F → Teller D → Result D RunStop → F → Teller D → Type 0) (limits : Limits) where
  pub records_none : (f : F) (r : Answers D) → Records called limits f r f r
  records_none f r = record { real = []; made = refl; stays = λ does words z done. (words, z) }

  pub records_more : (f f' f'' : F) (r r' r'' : Answers D) → Records called limits f r f' r' → RecordsMore called limits f' r' f'' r'' → Records called limits f r f'' r''
  records_more f f' f'' r r' r'' all one = record {
    real = with_more called limits one.real all.real;
    made = made_more called limits f f' f'' all.real one.real all.made one.made;
    stays = λ does words z done.
        let before = all.stays does words z (done_before called limits does all.real one.real done) in
        one.stays does before.0 before.1 (done_more called limits does all.real one.real done);
  }

  pub records_no_more : (f f' : F) (r r' : Answers D) → f' ≡ f → r' ≡ r → RecordsMore called limits f r f' r'
  records_no_more f f' r r' same so = record { real = None; made = same; stays = λ does words z none. (words, subst (IsTrueOf does words) (sym so) z) }

  pub records_run : {E : Type 0} (f f' : F) (r r' : Answers D) (result : Result ⊤ E) (m : Made D) → HasMadeOne called limits f m f'
      → ((does : Function D) (words : List (Word D)) → IsTrueOf does words r → IsDone does m.log.history → OnOk result ((later : List (Word D)) × IsTrueOf does later r'))
      → IfOk result (λ none. RecordsRun called limits f r f' r')
  records_run f f' r r' (Ok none) m made stays = record { run = m; made = made; stays = stays }
  records_run f f' r r' (Err e) m made stays = tt

  pub records_one : (f f' : F) (r r' : Answers D) → RecordsRun called limits f r f' r' → RecordsMore called limits f r f' r'
  records_one f f' r r' one = record { real = Some one.run; made = one.made; stays = one.stays }

-- ---- the path

module _ (b : Builder) where
  -- it rests at its start
  abbrev pub Rests : Route → Type 0
  Rests path = path ≡ at_rest (whole_search b.max_branches) (explores b) path.nodes

  pub rests_fresh : (path : Route) → path ≡ at_rest (whole_search b.max_branches) (explores b) [] → Rests path
  rests_fresh path e = e ∙ ap (λ (r : Route). at_rest (whole_search b.max_branches) (explores b) r.nodes) (sym e)

  -- and again after a step
  pub rests_again : (path after later : Route) → Rests path → IsSameSearch path after → later ≡ at_rest after.search after.explores later.nodes → Rests later
  rests_again path after later rests same e =
      e ∙ ap₂ (λ (s : Settings) (x : Bool). at_rest s x later.nodes) (same.0 ∙ ap (λ (p : Route). p.search) rests) (same.1 ∙ ap (λ (p : Route). p.explores) rests)

  pub rests_start : (path : Route) → Rests path → IsAtStart path.explores path
  rests_start path rests =
      (ap (λ (r : Route). r.position) rests, refl, ap (λ (r : Route). r.exploring) rests ∙ ap (λ (e : Bool). initially e) (sym (ap (λ (r : Route). r.explores) rests)))

  pub rests_whole : (path : Route) → Rests path → path.search ≡ whole_search path.search.max_branches
  rests_whole path rests = ap (λ (r : Route). r.search) rests ∙ sym (ap (λ (r : Route). whole_search r.search.max_branches) rests)

-- ---- the check

-- what is found by a recording that began empty
pub covers_so : {D F V E : Type 0} (called : F → Teller D → Result D RunStop → F → Teller D → Type 0) (takes : V → List Choice → D → V → Type 0) (b : Builder) (f f' : F) (v v' : V) (gives holds : Option (List ℕ) → Type 0)
    (answered : Duration → Type 0) (r r' : Answers D) (result : Result Covered E) → r.answers ≡ [] → r.places ≡ 1 → Records called (limits_of b) f r f' r'
    → ((does : Function D) (words : List (Word D)) → IsTrueOf does words r' → IfOk result (Covering takes v v' b (by_function does) [] gives holds answered))
    → IfOk result (CoversRecorded called takes b f v v' gives holds answered)
covers_so called takes b f f' v v' gives holds answered r r' (Ok covered) none one records covers = record {
  real = records.real;
  after = f';
  made = records.made;
  as_body = λ does done.
      let later = records.stays does ([] ∷ []) (none_is_true does r none one) done in
      covers does later.0 later.1;
}
covers_so called takes b f f' v v' gives holds answered r r' (Err e) none one records covers = tt

-- ---- what the store may hold after an error

module _ {D V : Type 0} (b : Builder) (takes : V → List Choice → D → V → Type 0) (v0 : V) (gives : Option (List ℕ) → Type 0) (recording : Answers D) (holds : Option (List ℕ) → Type 0) (path : Route) (v : V)
    (count until : ℕ) (noted : Noted D ℕ) (ways : Tracks)
    (checking : (does : Function D) (words : List (Word D)) → IsTrueOf does words recording
    → (most : ℕ) × (most + until ≤ b.checkpoint_interval) × IsChecking b (by_function does) [] takes v0 gives holds path v count most (all_told words noted) ways)
    (first now : Option (List ℕ) → Type 0) where
  -- the path wasn't saved
  pub left_unsaved : {A E : Type 0} (result : Result A E) → Keeps holds now → (does : Function D) (words : List (Word D)) → IsTrueOf does words recording
      → OnErr result (StillHolds b (by_function does) [] gives first now)
  left_unsaved result keeps does words z =
      let c = checking does words z in
      on_error result (inr (checking_left b (by_function does) [] takes v0 gives holds path v count c.0 (all_told words noted) ways c.2 now (let few = c.1 in omega (arith, few)) keeps))

  -- or it was, or there was time
  pub left_behind : {A E : Type 0} (result : Result A E) (left : ℕ) → IsCoverKept b.checkpoint_interval until path holds now left → (does : Function D) (words : List (Word D)) → IsTrueOf does words recording
      → OnErr result (StillHolds b (by_function does) [] gives first now)
  left_behind result left kept does words z =
      let c = checking does words z in
      on_error result (inr (left_late b (by_function does) [] takes v0 gives holds path v count c.0 (all_told words noted) ways c.2 now until left c.1 kept))

module _ {D F : Type 0} (called : F → Teller D → Result D RunStop → F → Teller D → Type 0) (b : Builder) (f : F) (gives old : Option (List ℕ) → Type 0) where
  -- no run was recorded, and the store wasn't used
  pub still_held : StillHoldsRecorded called b f gives old old
  still_held = record { real = []; after = f; made = refl; as_body = λ does done. inl (λ text held. held) }

  -- by a recording that began empty
  pub held_so : {A E : Type 0} (f' : F) (new : Option (List ℕ) → Type 0) (r r' : Answers D) (result : Result A E) → r.answers ≡ [] → r.places ≡ 1 → Records called (limits_of b) f r f' r'
      → ((does : Function D) (words : List (Word D)) → IsTrueOf does words r' → OnErr result (StillHolds b (by_function does) [] gives old new)) → OnErr result (StillHoldsRecorded called b f gives old new)
  held_so f' new r r' (Ok a) none one records left = tt
  held_so f' new r r' (Err e) none one records left = record {
    real = records.real;
    after = f';
    made = records.made;
    as_body = λ does done.
        let later = records.stays does ([] ∷ []) (none_is_true does r none one) done in
        left does later.0 later.1;
  }
