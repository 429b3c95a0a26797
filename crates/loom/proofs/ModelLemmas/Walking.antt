-- A walk under way, and the runs that it makes.
use Rattle.std.proofs.Common.{◌≡◌, ◌≤◌, ◌<◌, ◌+◌, ◌-◌, ℕ, zero, suc, inl, inr, Bool, false, List, [], ◌∷◌, refl, ap, ap₂, sym, ◌∙◌, subst, arith}
use Rattle.std.specs.Prelude.{Option, Some, None, Result, Ok, Err, IfOk, IfSome, Vec}
use Rattle.std.specs.declared.alloc.Global.{Global}
use Rattle.std.specs.declared.time.Duration.{Duration}
use Rattle.loom_views.specs.declared.rt.failure.FailureKind.{FailureKind}
use Rattle.loom_views.specs.declared.rt.failure.FailureKind.TheVariants.{NotDeterministic, OrdersEqual}
use Rattle.loom_objects.specs.declared.choice.Choice.{Choice}
use Rattle.loom_objects.specs.declared.failure.Failure.{Failure}
use Rattle.loom_objects.specs.Tree.Question.{Among, made_of}
use Rattle.loom_objects.specs.Tree.Tree.{Tree, Gives, Fails, Closes, Asks}
use Rattle.loom_engine.specs.Path.Drawn.{IsDrawn, led_by}
use Rattle.loom_engine.specs.Path.Route.{Route, at_rest, chosen}
use Rattle.loom_engine.specs.Runs.Sound.{IsRunTree}
use Rattle.loom_engine.specs.Trees.Meeting.{Settings, whole_search}
use Rattle.loom_engine.specs.Trees.Outcomes.{choices_made, outcome}
use Rattle.loom_engine.specs.Trees.Replay.{before, replayed}
use Rattle.loom_engine.specs.Trees.Sound.{IsSoundTree, NeverFails}
use Rattle.loom_engine.specs.Walk.Choices.{among, pick}
use Rattle.loom_engine.proofs.Trees.Failing.{no_such_failure_law}
use Rattle.loom.specs.declared.model.builder.Builder.{Builder}
use Rattle.loom.specs.declared.model.run.Ending.{Ending}
use Rattle.loom.specs.declared.model.run.Ending.TheVariants.{Ended, Failed}
use Rattle.loom.specs.declared.model.walk.Taken.TheVariants.{On, Failed as Told}
use Rattle.loom.specs.declared.model.walk.Walk.{Walk}
use Rattle.loom.specs.declared.model.walk.Walked.{Walked}
use Rattle.loom.specs.declared.model.walk.Walked.TheVariants as walked
use Rattle.loom.specs.Model.Check.{HasLasted}
use Rattle.loom.specs.Model.Different.{Counted, IsCount, Notes, Tells, TellsDifferent, hash_of}
use Rattle.loom.specs.Model.Fresh.{IsReplay}
use Rattle.loom.specs.Model.Run.{IsLocated}
use Rattle.loom.specs.Model.Walking.{EndsDrawn, HasGiven, IsDrawnRun, RunsDrawn, TakesRun, Walks, WalksNoEqualOrders, WalksNoting, asked_runs, is_cut}
use Rattle.loom.proofs.ModelLemmas.Noting.{are_different, tells_more, tells_none}
use Rattle.loom.proofs.ModelLemmas.Replaying.{replays}

module _ {D : Type 0} where
  -- choices that replay as they are lead to what they replay to
  pub leads_by : (room : ℕ) (tree : Tree D) (x : List Choice) (comes : Result D FailureKind) → replayed room tree x ≡ (x, comes) → outcome room tree x ≡ Some comes
  leads_by room (Gives value) [] comes e = ap (λ (r : List Choice × Result D FailureKind). Some r.1) e
  leads_by room (Gives value) (o ∷ x) comes e = absurd (cc (ap (λ (r : List Choice × Result D FailureKind). r.0) e))
  leads_by room (Fails kind) [] comes e = ap (λ (r : List Choice × Result D FailureKind). Some r.1) e
  leads_by room (Fails kind) (o ∷ x) comes e = absurd (cc (ap (λ (r : List Choice × Result D FailureKind). r.0) e))
  leads_by room (Closes rest) [] comes e = leads_by room rest [] comes e
  leads_by room (Closes rest) (o ∷ x) comes e = absurd (cc (ap (λ (r : List Choice × Result D FailureKind). r.0) e))
  leads_by zero (Asks question branches) [] comes e = ap (λ (r : List Choice × Result D FailureKind). Some r.1) e
  leads_by zero (Asks question branches) (o ∷ x) comes e = absurd (cc (ap (λ (r : List Choice × Result D FailureKind). r.0) e))
  leads_by (suc room) (Asks question branches) [] comes e = absurd (cc (ap (λ (r : List Choice × Result D FailureKind). r.0) e))
  leads_by (suc room) (Asks question branches) (o ∷ x) comes e = go (among o (made_of question).options) (leads_by room (branches o) x comes) e
    where
      go : (d : Dec (Among o (made_of question).options)) → (replayed room (branches o) x ≡ (x, comes) → outcome room (branches o) x ≡ Some comes)
          → pick d (before o (replayed room (branches o) x)) ([], Err NotDeterministic) ≡ (o ∷ x, comes) → pick d (outcome room (branches o) x) None ≡ Some comes
      go (yes a) rest e =
          let made : (replayed room (branches o) x).0 ≡ x = cc (ap (λ (r : List Choice × Result D FailureKind). r.0) e) in
          let came : (replayed room (branches o) x).1 ≡ comes = ap (λ (r : List Choice × Result D FailureKind). r.1) e in
          rest (ap₂ (λ (l : List Choice) (c : Result D FailureKind). (l, c)) made came)
      go (no f) rest e = absurd (cc (ap (λ (r : List Choice × Result D FailureKind). r.0) e))

  is_drawn : (max_branches : ℕ) (tree : Tree D) (x : List Choice) (comes : Result D FailureKind) → IsReplay max_branches tree x x comes → IsDrawnRun max_branches tree x comes
  is_drawn max_branches tree x comes r = record { leads = leads_by max_branches tree x comes r.replayed; replays = r.replayed }

  -- what was drawn ends as its choices do
  pub drawn_ends : {E : Type 0} (explores : Bool) (max_branches : ℕ) (tree : Tree D) (old new : Route) (answer : Result (Ending D) E) → IsRunTree tree
      → old ≡ at_rest (whole_search max_branches) explores [] → IfOk answer (λ ending. RunsDrawn tree old ending new) → IfOk answer (IsLocated false)
      → IfOk answer (EndsDrawn max_branches tree (chosen new))
  drawn_ends explores max_branches tree old new (Ok (Ended value)) sound e along located =
      is_drawn max_branches tree (chosen new) (Ok value)
      (replays explores max_branches tree (chosen new) (led_by (chosen new) old) (led_by (chosen new) new) (chosen new) (Ok value) sound (ap (led_by (chosen new)) e) along refl)
  drawn_ends explores max_branches tree old new (Ok (Failed failure)) sound e along located = (
    is_drawn max_branches tree (chosen new) (Err failure.kind)
        (replays explores max_branches tree (chosen new) (led_by (chosen new) old) (led_by (chosen new) new) (chosen new) (Err failure.kind) sound (ap (led_by (chosen new)) e) along refl),
    located refl,
  )
  drawn_ends explores max_branches tree old new (Err none) sound e along located = tt

  -- ---- runs one after another

  module _ {V : Type 0} (takes : V → List Choice → D → V → Type 0) (old : V) (b : Builder) (tree : Tree D) where
    -- of so many runs so many were cut; the visitor was given the others, and their hashes were noted
    pub record IsWalking (visitor : V) (d : Counted) (number cut : ℕ) : Type 0 where
      pub count : ℕ
      pub given : HasGiven takes old visitor b tree count
      pub tells : Tells d (choices_made given.runs)
      pub adds : count + cut ≡ number

    pub walking_start : (d : Counted) → d.hashes ≡ [] → IsWalking old d 0 0
    walking_start d none = record { count = 0; given = record { runs = []; given = refl; counted = refl; drawn = tt }; tells = tells_none d none; adds = refl }

    module _ (visitor : V) (d : Counted) (number cut : ℕ) (z : IsWalking visitor d number cut) where
      pub few_cut : cut ≤ number
      few_cut = omega (arith, z.adds)

      -- the visitor is given one more
      walking_on : (value : D) (choices : List Choice) (later : V) (noted : Counted) → IsDrawnRun b.max_branches tree choices (Ok value) → takes visitor choices value later → Notes (hash_of choices) d noted
          → IsWalking later noted (number + 1) cut
      walking_on value choices later noted drawn took notes = record {
        count = z.count + 1;
        given = record {
          runs = (choices, value) ∷ z.given.runs;
          given = (visitor, z.given.given, took);
          counted = omega (arith, z.given.counted);
          drawn = (drawn, z.given.drawn);
        };
        tells = tells_more d noted choices (choices_made z.given.runs) z.tells notes;
        adds = omega (arith, z.adds);
      }

      -- one more is cut
      walking_cut : IsWalking visitor d (number + 1) (cut + 1)
      walking_cut = record { count = z.count; given = z.given; tells = z.tells; adds = omega (arith, z.adds) }

      -- a run was taken
      pub taken_on : (later : V) (noted : Counted) (choices : List Choice) (ending : Ending D) (is : ℕ) → EndsDrawn b.max_branches tree choices ending
          → TakesRun takes visitor later d noted choices ending cut is On → IsWalking later noted (number + 1) is
      taken_on later noted choices (Ended value) is drawn took = subst (λ (n : ℕ). IsWalking later noted (number + 1) n) (sym took.2) (walking_on value choices later noted drawn took.0 took.1)
      taken_on later noted choices (Failed failure) is drawn took =
          subst (λ (n : ℕ). IsWalking later noted (number + 1) n) (sym took.2) (subst (λ (c : Counted). IsWalking later c (number + 1) (cut + 1)) (sym took.1)
          (subst (λ (v : V). IsWalking v d (number + 1) (cut + 1)) (sym took.0) walking_cut))

      -- or it failed
      pub taken_failed : (later : V) (noted : Counted) (choices : List Choice) (ending : Ending D) (is : ℕ) (kind : FailureKind) (failing : Vec Choice Global) → EndsDrawn b.max_branches tree choices ending
          → TakesRun takes visitor later d noted choices ending cut is (Told kind failing) → (walk : Walk) (answered : Duration → Type 0) (count : ℕ) (failure : Failure) → count ≡ number - cut → number < asked_runs walk
          → failure.kind ≡ kind → (b.location ≡ false → failure.location ≡ None) → WalksNoting takes old later b tree noted walk answered (walked.Failed count is failure failing)
      taken_failed later noted choices (Ended value) is kind failing drawn took walk answered count failure e more same placed = absurd took
      taken_failed later noted choices (Failed found) is kind failing drawn took walk answered count failure e more same placed =
          let left : z.count ≡ count = omega (arith, z.adds, e) in
          let kinds : found.kind ≡ failure.kind = sym (same ∙ took.2) in (
            subst (λ (v : V). HasGiven takes old v b tree count) (sym took.0) (subst (λ (n : ℕ). HasGiven takes old visitor b tree n) left z.given),
            omega (arith, z.adds, e, took.1, more),
            record {
              fails = subst (λ (l : List Choice). IsDrawnRun b.max_branches tree l (Err failure.kind)) (sym took.4)
                  (subst (λ (k : FailureKind). IsDrawnRun b.max_branches tree choices (Err k)) kinds drawn.0);
              uncut = subst (λ (k : FailureKind). is_cut k ≡ false) kinds took.3;
              placed = placed;
            },
          )

      -- these were the others, so many
      abbrev given_so : (count : ℕ) → count ≡ number - cut → HasGiven takes old visitor b tree count
      given_so count e =
          let same : z.count ≡ count = omega (arith, z.adds, e) in
          record { runs = z.given.runs; given = z.given.given; counted = z.given.counted ∙ same; drawn = z.given.drawn }

      pub walked_all : (walk : Walk) (answered : Duration → Type 0) (count : ℕ) (told : Option ℕ) → count ≡ number - cut → number ≡ asked_runs walk → IfSome told (IsCount d)
          → WalksNoting takes old visitor b tree d walk answered (walked.Made count cut told)
      walked_all walk answered count told e all is = (given_so count e, z.tells, is, inl (omega (arith, z.adds, e, all)))

      pub walked_up : (walk : Walk) (answered : Duration → Type 0) (count : ℕ) (told : Option ℕ) → count ≡ number - cut → number < asked_runs walk → IfSome told (IsCount d) → HasLasted answered b.max_duration
          → WalksNoting takes old visitor b tree d walk answered (walked.Made count cut told)
      walked_up walk answered count told e more is lasted = (given_so count e, z.tells, is, inr (omega (arith, z.adds, e, more), lasted))

-- so many of the noted runs differ
pub told_so : (d : Counted) (lists : List (List Choice)) (told : Option ℕ) → Tells d lists → IfSome told (IsCount d) → TellsDifferent told lists
told_so d lists None tells is = tt
told_so d lists (Some count) tells is = are_different d lists count tells is

-- what a walk reports besides what is noted
module _ {V D : Type 0} (takes : V → List Choice → D → V → Type 0) (old new : V) (b : Builder) (tree : Tree D) (d : Counted) (walk : Walk) (answered : Duration → Type 0) where
  pub walks_so : (report : Walked) → WalksNoting takes old new b tree d walk answered report → Walks takes old new b tree walk answered report
  walks_so (walked.Made runs cut different) w = (w.0, told_so d (choices_made w.0.runs) different w.1 w.2, w.3)
  walks_so (walked.Failed runs cut failure choices) w = w

pub at_rest_drawn : (max_branches : ℕ) (old new : Route) → new ≡ at_rest old.search old.explores [] → old.search ≡ whole_search max_branches → IsDrawn new
at_rest_drawn max_branches old new is same = subst IsDrawn (sym is) (refl, refl, ap (λ (s : Settings). s.reduce) same)

-- no run of a walk fails because two orders are equal
module _ {D V : Type 0} (tree : Tree D) (sound : IsSoundTree tree) (never : NeverFails OrdersEqual tree) (takes : V → List Choice → D → V → Type 0) (old new : V) (b : Builder) (walk : Walk) (answered : Duration → Type 0) where
  pub walks_unequal : (report : Walked) → Walks takes old new b tree walk answered report → WalksNoEqualOrders report
  walks_unequal (walked.Made runs cut different) w = tt
  walks_unequal (walked.Failed runs cut failure choices) w = λ is.
      (no_such_failure_law OrdersEqual b.max_branches tree (λ e. cc) (λ e. cc) sound never).leads choices.items (subst (λ (k : FailureKind). outcome b.max_branches tree choices.items ≡ Some (Err k)) is w.2.fails.leads)
