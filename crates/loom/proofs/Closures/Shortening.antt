-- A search for a shorter failure of a closure: the runs that it makes, and the shortest one so far.
use Rattle.std.proofs.Common.{◌≡◌, ◌≤◌, ◌+◌, ◌-◌, ◌∙◌, ◌⊎◌, ℕ, zero, suc, inl, inr, Bool, true, false, List, [], refl, sym, ap, subst, arith, Option, Some, None, Result, Ok, Err, IfOk}
use Rattle.std.specs.Prelude.{Vec, option_map, slice_get}
use Rattle.loom_objects.specs.declared.choice.Choice.{Choice}
use Rattle.loom_objects.specs.declared.failure.Failure.{Failure}
use Rattle.loom_engine.specs.declared.rt.execution.Limits.{Limits}
use Rattle.loom_engine.specs.Path.Drawn.{led_by}
use Rattle.loom_engine.specs.Path.Route.{Route, chosen}
use Rattle.loom_views.specs.declared.rt.failure.FailureKind.{FailureKind}
use Rattle.loom.specs.declared.model.builder.Builder.{Builder}
use Rattle.loom.specs.declared.model.shorten.Shortened.{Shortened}
use Rattle.loom.specs.declared.runner.error.RunnerError.{RunnerError}
use Rattle.loom.specs.declared.runner.shortening.Failing.{Failing}
use Rattle.loom.specs.declared.runner.stop.Stop.{Stop}
use Rattle.loom.specs.declared.runner.stop.Stop.TheVariants as stop
use Rattle.loom.specs.Runner.Alike.{Says, Trace, trace, trace_of}
use Rattle.loom.specs.Runner.Check.{limits_of}
use Rattle.loom.specs.Runner.Comparing.{IsRefusedOrSays}
use Rattle.loom.specs.Runner.Drawn.{LeadsBy}
use Rattle.loom.specs.Runner.Errors.{error_by}
use Rattle.loom.specs.Runner.Handle.{Teller}
use Rattle.loom.specs.Runner.Histories.{Log, Share, end_in}
use Rattle.loom.specs.Runner.Made.{Made}
use Rattle.loom.specs.Runner.Refusals.{IsOpenOrRefused}
use Rattle.loom.specs.Runner.Replay.{following}
use Rattle.loom.specs.Runner.Run.{WasCalled}
use Rattle.loom.specs.Runner.Shortening.{BreaksOff, FailsBy, Follows, IsFound, IsNotShortenedBy, IsOneOf, Runs, Shortens, more, none}
use Rattle.loom.specs.Runner.Trying.{EndsAs, HasMade, IsBetter, IsChecked, IsNoTry, IsNotTried, IsTried, IsUnderWay, IsUnsettledBy, LeavesUnsettled, SettlesBy, Tries, log_by, start_by}
use Rattle.loom.proofs.Closures.Walking.{checked_drawn}
use Rattle.loom.proofs.RunnerLemmas.Made.{checked}

-- ---- the state at the end of a run

module _ {D : Type 0} (limits : Limits) where
  pub checked_by : (drawn : Bool) (path : Route) (log : Log D) (told : List (Share D)) → SettlesBy drawn log path limits told → LeadsBy log.drawn log → IsChecked limits drawn path log told
  checked_by false path log told settles leads = checked limits path log told settles leads
  checked_by true path log told settles leads = checked_drawn limits path log told settles leads

  spoiled_unsettled : (drawn : Bool) (path : Route) (log : Log D) (told : List (Share D)) (failure : Failure) → log.spoiled ≡ Some (stop.Failure failure) → IsUnsettledBy drawn log path limits told
  spoiled_unsettled false path log told failure is = inl (failure, is)
  spoiled_unsettled true path log told failure is = inl (failure, is)

  pub unsettled_by : (drawn : Bool) (path : Route) (log : Log D) (told : List (Share D)) → (SettlesBy drawn log path limits told → ⊥) → IsUnsettledBy drawn log path limits told
  unsettled_by false path log told not = inr (inl not)
  unsettled_by true path log told not = inr (inl not)

  open_unsettled : (drawn : Bool) (path : Route) (log : Log D) (told : List (Share D)) → end_in log.history ≡ None → IsUnsettledBy drawn log path limits told
  open_unsettled false path log told still = inr (inr still)
  open_unsettled true path log told still = inr (inr still)

  module _ (drawn : Bool) (path : Route) (log : Log D) (told : List (Share D)) (last : Trace D) (number : ℕ) where
    -- a run that was spoiled
    pub spoiled_by : (s : Stop) (e : RunnerError) → e ≡ error_by s → log.spoiled ≡ Some s → IsNotTried limits drawn path log told last number e
    spoiled_by (stop.Failure failure) e is spoiled = inr (inl (is, spoiled_unsettled drawn path log told failure spoiled))
    spoiled_by stop.Memory e is spoiled = inl (inl is)
    spoiled_by stop.Refused e is spoiled = inl (inr is)

    -- one that isn't like another
    pub changed_by : (e : RunnerError) → IsChecked limits drawn path log told → IsRefusedOrSays last (trace_of log) number e → IsNotTried limits drawn path log told last number e
    changed_by e fine (inl memory) = inl (inl memory)
    changed_by e fine (inr (change, is, says, number_so)) = inr (inr (change, is, fine, says, number_so))

    -- one whose history has no end
    pub open_by : (e : RunnerError) → IsOpenOrRefused log e → IsNotTried limits drawn path log told last number e
    open_by e (inl host) = inl host
    open_by e (inr (is, still)) = inr (inl (is, open_unsettled drawn path log told still))

-- ---- one run

own_start : {D : Type 0} (drawn : Bool) (path : Route) (log : Log D) → start_by drawn path log ≡ start_by drawn path (log_by drawn log)
own_start false path log = refl
own_start true path log = refl

own_end : {D : Type 0} (drawn : Bool) (log : Log D) (end : Option Failing) → EndsAs log end → EndsAs (log_by drawn log) end
own_end false log None ends = ends
own_end false log (Some failing) ends = ends
own_end true log None ends = ends
own_end true log (Some failing) ends = ends

own_trace : {D : Type 0} (drawn : Bool) (log : Log D) → trace_of log ≡ trace_of (log_by drawn log)
own_trace false log = refl
own_trace true log = refl

module _ {D F : Type 0} (called : F → Teller D → Result D Stop → F → Teller D → Type 0) (limits : Limits) (drawn : Bool) (path : Route) (f f' : F) (log : Log D) (told : List (Share D)) (was : WasCalled called f f' told) where
  abbrev own_run : Made D
  own_run = record { began = start_by drawn path log; log = log_by drawn log; told = told; handle = was.handle; answer = was.answer }

  made_so : IsChecked limits drawn path log told → HasMade called limits drawn path f own_run f'
  made_so fine = record {
    began = own_start drawn path log;
    call = was.call;
    settled = record { settles = fine.settles; history = fine.history; main = was.main };
  }

  -- a call of the closure and the judgement make a run, unless there is an error
  pub run_tried : {E : Type 0} (result : Result (Option Failing) E) (last : Trace D) → IfOk result (λ end. IsTried limits drawn path log told end last) → IfOk result (λ end. Tries called limits drawn path f end f' last)
  run_tried (Ok end) last (fine, ends, kept) = (own_run, made_so fine, own_end drawn log end ends, kept ∙ own_trace drawn log)
  run_tried (Err e) last tried = tt

  left_by : (how : Bool) → IsUnsettledBy how log path limits told → LeavesUnsettled called limits drawn path f how
  left_by false unsettled = record { after = f'; log = log; told = told; call = was; unsettled = unsettled }
  left_by true unsettled = record { after = f'; log = log; told = told; call = was; unsettled = unsettled }

  pub run_not_tried : (last : Trace D) (number : ℕ) (e : RunnerError) → IsNotTried limits drawn path log told last number e → IsNoTry called limits drawn path f last number e
  run_not_tried last number e (inl host) = inl host
  run_not_tried last number e (inr (inl (is, unsettled))) = inr (inl (is, left_by drawn unsettled))
  run_not_tried last number e (inr (inr (change, is, fine, says, number_so))) = inr (inr (
    change,
    is,
    record {
      run = own_run;
      after = f';
      made = made_so fine;
      says = subst (λ (t : Trace D). Says last t change) (own_trace drawn log) says;
      number_so = number_so;
    },
  ))

-- ---- the first run

module _ {D F : Type 0} (called : F → Teller D → Result D Stop → F → Teller D → Type 0) (b : Builder) (f f' : F) (given : List Choice) (path : Route) (start : path ≡ following b given) (last : Trace D) where
  abbrev first_follows : (m : Made D) → HasMade called (limits_of b) false path f m f' → Follows called b f given m
  first_follows m made = record { began = made.began ∙ start; after = f'; call = made.call; settled = made.settled }

  first_ran : (m : Made D) → HasMade called (limits_of b) false path f m f' → Runs called b f 1 f'
  first_ran m made = more 0 f given m none (first_follows m made)

  abbrev first_of : (m : Made D) → HasMade called (limits_of b) false path f m f' → IsOneOf called b f 1 given m
  first_of m made = record { number = 0; few = omega arith; before = f; ran = none; made = first_follows m made }

  -- it ended with a result
  pub first_ended : (most : ℕ) (end : Option Failing) → end ≡ None → Tries called (limits_of b) false path f end f' last → Shortens called b f given most None
  first_ended most None is (m, made, ends, kept) = (m, first_follows m made, ends.0, ends.1)
  first_ended most (Some failing) is tries = cc is

  -- it failed, and the search begins with it
  pub first_under_way : (end : Option Failing) (first shortest : Failing) → end ≡ Some first → Tries called (limits_of b) false path f end f' last → shortest.failure ≡ first.failure → shortest.choices.items ≡ given
      → IsUnderWay called b f f' 1 shortest last
  first_under_way None first shortest is tries failure choices = cc is
  first_under_way (Some end) first shortest is (m, made, ends, kept) failure choices = record {
    ran = first_ran m made;
    run = m;
    one_of = subst (λ (cs : List Choice). IsOneOf called b f 1 cs m) (sym choices) (first_of m made);
    failed = ends.0 ∙ ap (option_map (λ (x : Failing). x.failure)) is ∙ ap Some (sym failure);
    newest = m;
    choices = given;
    is_last = record { one_of = first_of m made; last = refl };
    kept = kept;
  }

  pub first_fails : (end : Option Failing) (first : Failing) (kind : FailureKind) → end ≡ Some first → Tries called (limits_of b) false path f end f' last → kind ≡ first.failure.kind → FailsBy called b f given kind
  first_fails None first kind is tries same = cc is
  first_fails (Some end) first kind is (m, made, ends, kept) same = record {
    run = m;
    made = first_follows m made;
    failure = first.failure;
    failed = ends.0 ∙ ap (option_map (λ (x : Failing). x.failure)) is;
    kind_so = sym same;
  }

  -- it gave no end: it is the first one, and like any
  pub first_not_tried : (number : ℕ) (e : RunnerError) → last ≡ trace [] [] → IsNoTry called (limits_of b) false path f last number e → IsNotShortenedBy called b given f e
  first_not_tried number e fresh (inl host) = inl (inl host)
  first_not_tried number e fresh (inr (inl (is, unsettled))) = inl (inr (is, subst (λ (p : Route). LeavesUnsettled called (limits_of b) false p f false) start unsettled))
  first_not_tried number e fresh (inr (inr (change, is, other))) =
      let differ = other.says.differ in
      let nothing : slice_get [] other.says.place ≡ Some differ.old = subst (λ (t : Trace D). slice_get t.events other.says.place ≡ Some differ.old) fresh differ.met.old in
      absurd (cc nothing)

-- ---- the runs behind it

pub most_within : (most n : ℕ) → n ≡ most - 1 → (n + 1 ≡ 1) ⊎ (n + 1 ≤ most)
most_within zero n is = inl (omega (arith, is))
most_within (suc most) n is = inr (omega (arith, is))

module _ {D F : Type 0} (called : F → Teller D → Result D Stop → F → Teller D → Type 0) (b : Builder) (f0 f : F) (count : ℕ) (shortest : Failing) (last : Trace D) (z : IsUnderWay called b f0 f count shortest last) where
  -- one more of them
  one_more : (choices : List Choice) (m : Made D) (f' : F) (made : Follows called b f choices m) → made.after ≡ f' → Runs called b f0 (count + 1) f'
  one_more choices m f' made is =
      let counted : suc count ≡ count + 1 = omega arith in
      subst (λ (n : ℕ). Runs called b f0 n f') counted (subst (λ (g : F). Runs called b f0 (suc count) g) is (more count f choices m z.ran made))

  abbrev newest_of : (choices : List Choice) (m : Made D) → Follows called b f choices m → IsOneOf called b f0 (count + 1) choices m
  newest_of choices m made = record { number = count; few = omega arith; before = f; ran = z.ran; made = made }

  module _ (path : Route) (start : path ≡ following b []) where
    abbrev follows : (m : Made D) (f' : F) → HasMade called (limits_of b) true path f m f' → Follows called b f (chosen m.log.now.route) m
    follows m f' made = record { began = made.began ∙ ap (led_by (chosen m.log.now.route)) start; after = f'; call = made.call; settled = made.settled }

    pub goes_on : (f' : F) (tried : Option Failing) (new : Failing) (last' : Trace D) → Tries called (limits_of b) true path f tried f' last' → IsBetter shortest tried new → IsUnderWay called b f0 f' (count + 1) new last'
    goes_on f' tried new last' (m, made, ends, kept) (inl same) =
        let own = chosen m.log.now.route in
        let stays : IsUnderWay called b f0 f' (count + 1) shortest last' = record {
          ran = one_more own m f' (follows m f' made) refl;
          run = z.run;
          one_of = record { number = z.one_of.number; few = omega (arith, z.one_of.few); before = z.one_of.before; ran = z.one_of.ran; made = z.one_of.made };
          failed = z.failed;
          newest = m;
          choices = own;
          is_last = record { one_of = newest_of own m (follows m f' made); last = refl };
          kept = kept;
        } in
        subst (λ (s : Failing). IsUnderWay called b f0 f' (count + 1) s last') (sym same) stays
    goes_on f' tried new last' (m, made, ends, kept) (inr (is, kind)) =
        let own = chosen m.log.now.route in
        let end : EndsAs m.log (Some new) = subst (λ (o : Option Failing). EndsAs m.log o) is ends in
        record {
          ran = one_more own m f' (follows m f' made) refl;
          run = m;
          one_of = subst (λ (cs : List Choice). IsOneOf called b f0 (count + 1) cs m) (sym end.1) (newest_of own m (follows m f' made));
          failed = end.0;
          newest = m;
          choices = own;
          is_last = record { one_of = newest_of own m (follows m f' made); last = refl };
          kept = kept;
        }

    -- the next run gave no end
    pub breaks_off : (number : ℕ) (e : RunnerError) → number ≡ count + 1 → IsNoTry called (limits_of b) true path f last number e → BreaksOff called b f0 e
    breaks_off number e counted (inl host) = record { count = count; before = f; ran = z.ran; why = inl host }
    breaks_off number e counted (inr (inl (is, unsettled))) = record {
      count = count;
      before = f;
      ran = z.ran;
      why = inr (inl (is, subst (λ (p : Route). LeavesUnsettled called (limits_of b) true p f true) start unsettled));
    }
    breaks_off number e counted (inr (inr (change, is, other))) = record {
      count = count;
      before = f;
      ran = z.ran;
      why = inr (inr (
        change,
        is,
        record {
          earlier = z.newest;
          by = z.choices;
          is_last = z.is_last;
          run = other.run;
          choices = chosen other.run.log.now.route;
          made = follows other.run other.after other.made;
          says = subst (λ (t : Trace D). Says t (trace_of other.run.log) change) z.kept other.says;
          number = other.number_so ∙ counted;
        },
      ));
    }

  -- the search ends
  pub found_so : (most : ℕ) (found : Shortened) → found.failure ≡ shortest.failure → found.choices ≡ shortest.choices → found.runs ≡ count → (count ≡ 1) ⊎ (count ≤ most) → IsFound called b f0 most found
  found_so most found failure choices runs within = record {
    run = z.run;
    one_of = subst (λ (n : ℕ). IsOneOf called b f0 n found.choices.items z.run) (sym runs) (subst (λ (cs : List Choice). IsOneOf called b f0 count cs z.run) (sym (ap (λ (v : Vec Choice _). v.items) choices)) z.one_of);
    failed = z.failed ∙ ap Some (sym failure);
    after = f;
    counted = subst (λ (n : ℕ). Runs called b f0 n f) (sym runs) z.ran;
    within = subst (λ (n : ℕ). (n ≡ 1) ⊎ (n ≤ most)) (sym runs) within;
  }
