-- A walk of a closure under way, and the runs that it makes.
use Rattle.std.proofs.Common.{◌≡◌, ◌≤◌, ◌<◌, ◌+◌, ◌-◌, ◌∙◌, ℕ, suc, inl, inr, Bool, true, List, [], ◌∷◌, length, refl, sym, ap, subst, arith, Option, None, Some, Result, Ok, Err, IfOk}
use Rattle.std.specs.Prelude.{IfSome, Vec}
use Rattle.std.specs.declared.alloc.Global.{Global}
use Rattle.std.specs.declared.time.Duration.{Duration}
use Rattle.loom_objects.specs.declared.choice.Choice.{Choice}
use Rattle.loom_objects.specs.declared.failure.Failure.{Failure}
use Rattle.loom_engine.specs.declared.rt.execution.Limits.{Limits}
use Rattle.loom_engine.specs.Path.Drawn.{led_by}
use Rattle.loom_engine.specs.Path.Route.{Route, chosen}
use Rattle.loom.specs.declared.model.builder.Builder.{Builder}
use Rattle.loom.specs.declared.model.walk.Walk.{Walk}
use Rattle.loom.specs.declared.model.walk.Walked.TheVariants as walked
use Rattle.loom.specs.Model.Check.{HasLasted}
use Rattle.loom.specs.Model.Different.{Counted, IsCount, Notes, Tells, TellsDifferent}
use Rattle.loom.specs.Model.Walking.{asked_runs}
use Rattle.loom.specs.declared.runner.drawn.DrawnEnd.{DrawnEnd}
use Rattle.loom.specs.declared.runner.drawn.DrawnEnd.TheVariants.{Ended, Cut, Failed}
use Rattle.loom.specs.declared.runner.error.RunnerError.{RunnerError}
use Rattle.loom.specs.declared.runner.error.RunnerError.TheVariants as error
use Rattle.loom.specs.declared.runner.stop.Stop.{Stop}
use Rattle.loom.specs.declared.runner.stop.Stop.TheVariants as stop
use Rattle.loom.specs.Runner.Check.{limits_of}
use Rattle.loom.specs.Runner.Drawn.{LeadsBy, SettlesDrawn, led_log}
use Rattle.loom.specs.Runner.Errors.{IsRefusedByHost, error_by}
use Rattle.loom.specs.Runner.Handle.{Teller, newcomer}
use Rattle.loom.specs.Runner.Histories.{Log, Settles, Share, end_in}
use Rattle.loom.specs.Runner.Made.{Made, MadeBy}
use Rattle.loom.specs.Runner.Replay.{following}
use Rattle.loom.specs.Runner.Run.{Checked, WasCalled}
use Rattle.loom.specs.Runner.Walking.{BreaksOff, HasGone, IsNoDrawnRun, IsNotJudgedDrawn, JudgedDrawn, Walks, WasDrawn, Went, begins, cuts, gives}
use Rattle.loom.proofs.ModelLemmas.Noting.{are_different, tells_more, tells_none}
use Rattle.loom.proofs.RunnerLemmas.Leading.{own_lead}
use Rattle.loom.proofs.RunnerLemmas.Made.{checked, made_by, made_of}

-- ---- the state at the end of a run

-- it is settled as where the path was given any choices
settled_led : {D : Type 0} (given : List Choice) (log : Log D) (began : Route) (limits : Limits) (told : List (Share D)) → SettlesDrawn log began limits told → Settles (led_log given log) (led_by given began) limits told
settled_led given log began limits told s = record {
  follows = refl;
  began_so = ap (led_by given) s.settles.began_so;
  limits_so = s.settles.limits_so;
  one_each = s.settles.one_each;
  parts = s.settles.parts;
}

-- and its history is that of the run by its own
pub checked_drawn : {D : Type 0} (limits : Limits) (began : Route) (log : Log D) (told : List (Share D)) → SettlesDrawn log began limits told → LeadsBy log.drawn log
    → Checked limits (led_by (chosen log.now.route) began) (led_log (chosen log.now.route) log) told
checked_drawn limits began log told s leads =
    let own = chosen log.now.route in
    let all : LeadsBy true log = subst (λ (drawn : Bool). LeadsBy drawn log) s.draws leads in
    checked limits (led_by own began) (led_log own log) told (settled_led own log began limits told s) (all own (own_lead (end_in log.history) log.now.route))

-- a run that was spoiled
pub spoiled_drawn : {D V : Type 0} (limits : Limits) (v : V) (began : Route) (log : Log D) (told : List (Share D)) (s : Stop) (e : RunnerError) → e ≡ error_by s → log.spoiled ≡ Some s
    → IsNotJudgedDrawn limits v began log told e v
spoiled_drawn limits v began log told (stop.Failure failure) e is spoiled = subst (λ (x : RunnerError). IsNotJudgedDrawn limits v began log told x v) (sym is) (inl (failure, spoiled), refl)
spoiled_drawn limits v began log told stop.Memory e is spoiled = subst (λ (x : RunnerError). IsNotJudgedDrawn limits v began log told x v) (sym is) (inl refl)
spoiled_drawn limits v began log told stop.Refused e is spoiled = subst (λ (x : RunnerError). IsNotJudgedDrawn limits v began log told x v) (sym is) refl

-- ---- one run

module _ {D F V : Type 0} (called : F → Teller D → Result D Stop → F → Teller D → Type 0) (takes : V → List Choice → D → V → Type 0) (limits : Limits) where
  module _ (f f' : F) (v v' : V) (path : Route) (log : Log D) (told : List (Share D)) (was : WasCalled called f f' told) where
    -- the run by its own choices
    abbrev own_run : Made D
    own_run = made_of called takes limits (led_by (chosen log.now.route) path) (led_log (chosen log.now.route) log) told was.handle was.answer

    made_so : Checked limits (led_by (chosen log.now.route) path) (led_log (chosen log.now.route) log) told → MadeBy called takes limits f own_run f'
    made_so checked = made_by called takes limits f f' (led_by (chosen log.now.route) path) (led_log (chosen log.now.route) log) told (newcomer 0) was.handle was.answer refl was.call was.main checked

    was_drawn : (end : DrawnEnd) → JudgedDrawn takes limits v path log told end v' → WasDrawn called takes limits f v path end f' v'
    was_drawn (Ended hash) j = (own_run, refl, j.2, record { made = made_so j.0; value = j.1.value; ended = j.1.ended; taken = j.1.taken })
    was_drawn Cut j = (own_run, refl, made_so j.0, j.1, j.2)
    was_drawn (Failed failure choices) j = (own_run, refl, made_so j.0, j.1, j.2, j.3)

    -- a call of the closure and the judgement make a run, unless there is an error
    pub run_drawn : {E : Type 0} (result : Result DrawnEnd E) → IfOk result (λ end. JudgedDrawn takes limits v path log told end v') → IfOk result (λ end. WasDrawn called takes limits f v path end f' v')
    run_drawn (Ok end) j = was_drawn end j
    run_drawn (Err e) j = tt

    -- what the state at its end gives no end of
    pub unjudged_drawn : (e : RunnerError) → IsNotJudgedDrawn limits v path log told e v' → IsNoDrawnRun called takes limits f v path e v'
    unjudged_drawn (error.Settings why) without = without
    unjudged_drawn (error.Changed change) without = without
    unjudged_drawn error.Refused without = without
    unjudged_drawn error.NotSettled without = (record { after = f'; log = log; told = told; call = was; unsettled = without.0 }, without.1)
    unjudged_drawn error.Memory (inl same) = inl same
    unjudged_drawn error.Memory (inr came) = inr (record { run = own_run; after = f'; by = refl; made = made_so came.0; value = came.1 })

  -- what the host has refused, where the visitor wasn't called
  pub refused_drawn : (f : F) (v : V) (path : Route) (e : RunnerError) → IsRefusedByHost e → IsNoDrawnRun called takes limits f v path e v
  refused_drawn f v path e (inl is) = subst (λ (x : RunnerError). IsNoDrawnRun called takes limits f v path x v) (sym is) (inl refl)
  refused_drawn f v path e (inr is) = subst (λ (x : RunnerError). IsNoDrawnRun called takes limits f v path x v) (sym is) refl

-- ---- runs one after another

module _ {D F V : Type 0} (called : F → Teller D → Result D Stop → F → Teller D → Type 0) (takes : V → List Choice → D → V → Type 0) (b : Builder) (f0 : F) (v0 : V) where
  -- of so many runs so many were cut; the visitor was given the others, and their hashes were noted
  pub record IsWalking (f : F) (v : V) (d : Counted) (number cut : ℕ) : Type 0 where
    pub lists : List (List Choice)
    pub went : Went called takes b f0 v0 lists cut f v
    pub tells : Tells d lists
    pub adds : length lists + cut ≡ number

  pub walking_start : (d : Counted) → d.hashes ≡ [] → IsWalking f0 v0 d 0 0
  walking_start d none = record { lists = []; went = begins; tells = tells_none d none; adds = refl }

  module _ (f : F) (v : V) (d : Counted) (number cut : ℕ) (z : IsWalking f v d number cut) where
    pub few_cut : cut ≤ number
    few_cut = omega (arith, z.adds)

    module _ (path : Route) (start : path ≡ following b []) where
      by_own : (m : Made D) → m.began ≡ led_by (chosen m.log.now.route) path → m.began ≡ following b (chosen m.log.now.route)
      by_own m began = began ∙ ap (led_by (chosen m.log.now.route)) start

      -- the visitor is given one more
      walking_on : (f' : F) (v' : V) (hash : ℕ) (noted : Counted) → WasDrawn called takes (limits_of b) f v path (Ended hash) f' v' → Notes hash d noted → IsWalking f' v' noted (number + 1) cut
      walking_on f' v' hash noted (m, began, is, given) notes = record {
        lists = chosen m.log.now.route ∷ z.lists;
        went = gives z.lists cut f f' v v' m z.went (by_own m began) given;
        tells = tells_more d noted (chosen m.log.now.route) z.lists z.tells (subst (λ (h : ℕ). Notes h d noted) is notes);
        adds = omega (arith, z.adds);
      }

      -- one more is cut
      walking_cut : (f' : F) (v' : V) → WasDrawn called takes (limits_of b) f v path Cut f' v' → IsWalking f' v' d (number + 1) (cut + 1)
      walking_cut f' v' (m, began, made, was, same) =
          let more : suc cut ≡ cut + 1 = omega arith in
          record {
            lists = z.lists;
            went = subst (λ (n : ℕ). Went called takes b f0 v0 z.lists n f' v') more
                (subst (λ (w : V). Went called takes b f0 v0 z.lists (suc cut) f' w) (sym same) (cuts z.lists cut f f' v m z.went (by_own m began) made was));
            tells = z.tells;
            adds = omega (arith, z.adds);
          }

      pub drawn_on : (f' : F) (v' : V) (end : DrawnEnd) (hash : ℕ) → WasDrawn called takes (limits_of b) f v path end f' v' → end ≡ Ended hash → (is : ℕ) → is ≡ cut → (noted : Counted) → Notes hash d noted
          → IsWalking f' v' noted (number + 1) is
      drawn_on f' v' end hash was ends is same noted notes =
          subst (λ (n : ℕ). IsWalking f' v' noted (number + 1) n) (sym same)
          (walking_on f' v' hash noted (subst (λ (e : DrawnEnd). WasDrawn called takes (limits_of b) f v path e f' v') ends was) notes)

      pub drawn_cut : (f' : F) (v' : V) (end : DrawnEnd) → WasDrawn called takes (limits_of b) f v path end f' v' → end ≡ Cut → (is : ℕ) → is ≡ cut + 1 → (noted : Counted) → noted ≡ d
          → IsWalking f' v' noted (number + 1) is
      drawn_cut f' v' end was ends is same noted unnoted =
          subst (λ (n : ℕ). IsWalking f' v' noted (number + 1) n) (sym same) (subst (λ (c : Counted). IsWalking f' v' c (number + 1) (cut + 1)) (sym unnoted)
          (walking_cut f' v' (subst (λ (e : DrawnEnd). WasDrawn called takes (limits_of b) f v path e f' v') ends was)))

      -- one failed
      walking_failed : (f' : F) (v' : V) (failure : Failure) (choices : Vec Choice Global) → WasDrawn called takes (limits_of b) f v path (Failed failure choices) f' v'
          → (walk : Walk) (answered : Duration → Type 0) (count : ℕ) → length z.lists ≡ count → number < asked_runs walk → Walks called takes b f0 v0 v' walk answered (walked.Failed count cut failure choices)
      walking_failed f' v' failure choices (m, began, made, failed, uncut, same) walk answered count left more = (
        record {
          lists = z.lists;
          counted = left;
          before = f;
          went = subst (λ (w : V). Went called takes b f0 v0 z.lists cut f w) (sym same) z.went;
          replays = (m, record { began = by_own m began ∙ ap (following b) (sym failed.1); after = f'; call = made.call; settled = made.settled }, failed.0, failed.1);
          uncut = uncut;
        },
        omega (arith, z.adds, left, more),
      )

      pub drawn_failed : (f' : F) (v' : V) (end : DrawnEnd) (failure : Failure) (choices : Vec Choice Global) → WasDrawn called takes (limits_of b) f v path end f' v' → end ≡ Failed failure choices
          → (walk : Walk) (answered : Duration → Type 0) (count : ℕ) → count ≡ number - cut → number < asked_runs walk → Walks called takes b f0 v0 v' walk answered (walked.Failed count cut failure choices)
      drawn_failed f' v' end failure choices was is walk answered count e more =
          walking_failed f' v' failure choices (subst (λ (e : DrawnEnd). WasDrawn called takes (limits_of b) f v path e f' v') is was) walk answered count (omega (arith, z.adds, e)) more

      -- or gave no end
      pub drawn_nothing : (v' : V) (e : RunnerError) (walk : Walk) → number < asked_runs walk → IsNoDrawnRun called takes (limits_of b) f v path e v' → BreaksOff called takes b walk f0 v0 v' e
      drawn_nothing v' e walk more without = record {
        lists = z.lists;
        cut = cut;
        few = omega (arith, z.adds, more);
        before = f;
        visitor = v;
        went = z.went;
        why = subst (λ (p : Route). IsNoDrawnRun called takes (limits_of b) f v p e v') start without;
      }

    -- these were the others, so many
    abbrev gone : (count : ℕ) → count ≡ number - cut → HasGone called takes b f0 v0 v count cut
    gone count e = let left : length z.lists ≡ count = omega (arith, z.adds, e) in record { lists = z.lists; counted = left; after = f; went = z.went }

    -- and so many of them differ
    told_so : (told : Option ℕ) → IfSome told (IsCount d) → TellsDifferent told z.lists
    told_so None is = tt
    told_so (Some count) is = are_different d z.lists count z.tells is

    pub walked_all : (walk : Walk) (answered : Duration → Type 0) (count : ℕ) (told : Option ℕ) → count ≡ number - cut → number ≡ asked_runs walk → IfSome told (IsCount d)
        → Walks called takes b f0 v0 v walk answered (walked.Made count cut told)
    walked_all walk answered count told e all is = (gone count e, told_so told is, inl (omega (arith, z.adds, e, all)))

    pub walked_up : (walk : Walk) (answered : Duration → Type 0) (count : ℕ) (told : Option ℕ) → count ≡ number - cut → number < asked_runs walk → IfSome told (IsCount d) → HasLasted answered b.max_duration
        → Walks called takes b f0 v0 v walk answered (walked.Made count cut told)
    walked_up walk answered count told e more is lasted = (gone count e, told_so told is, inr (omega (arith, z.adds, e, more), lasted))
