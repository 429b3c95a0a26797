-- A check under way: the runs that its visitor was given, what its store may hold, and what is known of them once it reports.
use Rattle.std.proofs.Common.{◌≡◌, ◌+◌, ◌<◌, ◌≤◌, ◌∙◌, ◌⊎◌, ℕ, false, List, [], ◌∷◌, length, refl, sym, ap, subst, inl, inr, Option, Some, None, Result, arith}
use Rattle.std.specs.Prelude.{string_bytes, String, Vec, IsSomeAnd}
use Rattle.std.specs.declared.alloc.Global.{Global}
use Rattle.std.specs.declared.time.Duration.{Duration}
use Rattle.serde_json.specs.Written.{compact_text}
use Rattle.loom_objects.specs.declared.choice.Choice.{Choice}
use Rattle.loom_objects.specs.declared.failure.Failure.{Failure}
use Rattle.loom_objects.specs.Exploring.{initially}
use Rattle.loom_engine.specs.Walk.Lists.{Member, IsOnce}
use Rattle.loom_engine.specs.Walk.Path.{Skip, Visited, Stored, node_at}
use Rattle.loom_engine.specs.Checkpoint.Grammar.{path_data}
use Rattle.loom_engine.specs.declared.rt.execution.Limits.{Limits}
use Rattle.loom_engine.specs.declared.rt.path.node.Node.{Node}
use Rattle.loom_engine.specs.Path.Route.{Route, IsAtStart, chosen, stored}
use Rattle.loom_engine.specs.Trees.Meeting.{Settings}
use Rattle.loom.specs.declared.model.builder.Builder.{Builder}
use Rattle.loom.specs.declared.model.Limit.{Limit}
use Rattle.loom.specs.declared.model.report.Report.TheVariants as report
use Rattle.loom.specs.Model.Begun.{IsBegun}
use Rattle.loom.specs.Model.Check.{StopsBy}
use Rattle.loom.specs.Model.Saving.{IsKept, IsSavedAs}
use Rattle.loom.specs.Model.Settings.{explores, most_runs, search_of}
use Rattle.loom.specs.Model.StoredText.{IsTextOf, ReadsAs}
use Rattle.loom.specs.Model.Stores.{Keeps}
use Rattle.loom.specs.declared.runner.stop.Stop.{Stop}
use Rattle.loom.specs.declared.runner.run_end.RunEnd.{RunEnd}
use Rattle.loom.specs.declared.runner.run_end.RunEnd.TheVariants.{Failed, Ended}
use Rattle.loom.specs.Runner.Histories.{last_event, failed_by}
use Rattle.loom.specs.Runner.Chains.{Follow, Run}
use Rattle.loom.specs.Runner.Chains as chains
use Rattle.loom.specs.Runner.Handle.{Teller}
use Rattle.loom.specs.Runner.Laws.{AllTried, AllTriedFrom, HadTried, IsTried}
use Rattle.loom.specs.Runner.Check.{Made, MadeBy, Given, Rounds, Makes, HasFailed, IsComplete, IsHeld, Reports, run_of, runs_of, lists_of, limits_of, path_of}
use Rattle.loom.specs.Runner.Refusals.{HeldBack}
use Rattle.loom.specs.Runner.Run.{WasMade}
use Rattle.loom.proofs.ModelLemmas.Paths.{MayBegin, begins as read_well}
use Rattle.loom.proofs.RunnerLemmas.Once.{once_law}
use Rattle.loom.proofs.RunnerLemmas.Alternatives.{alternatives_law}
use Rattle.loom.proofs.RunnerLemmas.Failing.{failure_law}
use Rattle.loom.proofs.RunnerLemmas.Following.{IsFine, later_fine, no_node}
use Rattle.loom.proofs.Closures.Making.{goes_on}

some_more : (n : ℕ) → 0 < n + 1
some_more n = omega arith

one_longer : {A : Type 0} (x : A) (l : List A) (n : ℕ) → length l ≡ n → length (x ∷ l) ≡ n + 1
one_longer x l n counted = omega (arith, counted)

-- a path without nodes had tried nothing
none_tried : (s : Settings) (before : List Choice) (o : Choice) → HadTried s [] before o → ⊥
none_tried s before o had = go (node_at [] before) refl had
  where
    go : (x : Option Stored) → node_at [] before ≡ x → IsSomeAnd x (λ (n : Stored). (n.status o ≡ Visited) ⊎ ((s.reduce ≡ false) × (n.status o ≡ Skip))) → ⊥
    go None at h = absurd h
    go (Some n) at h = no_node before n at

pub from_beginning : {D : Type 0} (limits : Limits) (s : Settings) (path : List Node) (runs : List (Run D)) → AllTriedFrom limits s path runs → path ≡ [] → AllTried limits s runs
from_beginning limits s path runs all none r among before o alt = go (all r among before o alt)
  where
    go : IsTried runs before o ⊎ HadTried s path before o → IsTried runs before o
    go (inl z) = z
    go (inr z) = absurd (none_tried s before o (subst (λ (nodes : List Node). HadTried s nodes before o) none z))

module _ {D F V : Type 0} (called : F → Teller D → Result D Stop → F → Teller D → Type 0) (takes : V → List Choice → D → V → Type 0) where
  -- the runs that were given follow one another by their histories alone
  pub follows : (limits : Limits) (path : Route) (f : F) (v : V) (ms : List (Made D)) (f' : F) (v' : V) (next : Option Route) → Rounds called takes limits path f v ms f' v' next
      → Follow limits path (runs_of ms) next
  follows limits path f v [] f' v' next rounds = rounds.2
  follows limits path f v (m ∷ ms) f' v' next (g, w, before, given, goes) =
      (follows limits path f v ms g w (Some m.began) before, record { history = given.made.settled.history; value = given.value; ended = given.ended }, goes)

  -- ---- what is known of the runs of a check that began with such a path

  module _ (b : Builder) (text : Option (List ℕ)) (path : List Node) (reads : ReadsAs (search_of b) (explores b) text path) (f : F) (v : V) (ms : List (Made D)) (f' : F) (v' : V) where
    once : (next : Option Route) → Makes called takes b path f v ms f' v' next → IsOnce (lists_of ms)
    once next made = (once_law (limits_of b) (search_of b) (explores b) text path (runs_of ms) next reads (follows (limits_of b) (path_of b path) f v ms f' v' next made)).0

    alternatives : Makes called takes b path f v ms f' v' None → AllTriedFrom (limits_of b) (search_of b) path (runs_of ms)
    alternatives made = alternatives_law (limits_of b) (search_of b) (explores b) text path (runs_of ms) reads (follows (limits_of b) (path_of b path) f v ms f' v' None made)

    completes : Makes called takes b path f v ms f' v' None → (count : ℕ) → 0 < count → IsComplete called takes b path f v ms f' v' count
    completes made count some = record { given = made; some = some; alternatives = alternatives made; fresh = from_beginning (limits_of b) (search_of b) path (runs_of ms) (alternatives made) }

    -- a run that fails behind them
    fails : (run : Made D) (after : F) (failure : Failure) (choices : List Choice) → Makes called takes b path f v ms f' v' (Some run.began) → MadeBy called takes (limits_of b) f' run after
        → failed_by (last_event run.log.history) ≡ Some failure → choices ≡ chosen run.log.now.route → HasFailed called takes b path f v ms after v' failure choices
    fails run after failure choices given made failed same =
        let follow = follows (limits_of b) (path_of b path) f v ms f' v' (Some run.began) given in
        let broke : chains.HasFailed (limits_of b) (run_of run) failure = record { history = made.settled.history; failed = failed } in
        let law = failure_law (limits_of b) (search_of b) (explores b) text path (runs_of ms) (run_of run) failure reads follow broke in
        let once = once_law (limits_of b) (search_of b) (explores b) text path (runs_of ms) (Some run.began) reads follow in
        record {
          run = run;
          before = f';
          given = given;
          made = made;
          failed = failed;
          choices_so = same;
          new = λ member. once.1 (run_of run) failure refl broke (subst (λ (l : List Choice). Member l (lists_of ms)) same member);
          so = law.0;
          not_first = λ none without. law.1 (ap runs_of none) without;
        }

  -- ---- a check under way

  module _ (b : Builder) (gives : Option (List ℕ) → Type 0) (f0 : F) (v0 : V) where
    -- The runs that were given so far, so many. The next one begins with this path. The store may be so many of them behind.
    pub record IsChecking (holds : Option (List ℕ) → Type 0) (f : F) (v : V) (path : Route) (count most : ℕ) : Type 0 where
      pub text : Option (List ℕ)
      pub gave : gives text
      pub start : List Node
      pub reads : ReadsAs (search_of b) (explores b) text start
      pub fine : IsFine (search_of b) (explores b) path
      pub runs : List (Made D)
      pub given : Makes called takes b start f0 v0 runs f v (Some path)
      pub counted : length runs ≡ count
      pub behind : IsHeld called takes b start holds f0 v0 runs most

    -- before the first one
    pub checking_start : (holds : Option (List ℕ) → Type 0) (path : Route) → IsBegun (search_of b) (explores b) gives holds path → IsChecking holds f0 v0 path 0 0
    checking_start holds path z = record {
      text = z.text;
      gave = z.gave;
      start = path.nodes;
      reads = z.reads;
      fine = record { rests = z.rests; well = read_well (search_of b) (explores b) z.text path.nodes z.reads };
      runs = [];
      given = (refl, refl, ap Some z.rests);
      counted = refl;
      behind = record {
        text = z.text;
        held = z.held;
        last = path.nodes;
        reads = z.reads;
        behind = [];
        before = [];
        splits = refl;
        few = omega arith;
        closure = f0;
        visitor = v0;
        given = (refl, refl, refl);
      };
    }

    -- the store is fewer runs behind than this
    held_within : (start : List Node) (holds : Option (List ℕ) → Type 0) (runs : List (Made D)) (most more : ℕ) → most ≤ more → IsHeld called takes b start holds f0 v0 runs most
        → IsHeld called takes b start holds f0 v0 runs more
    held_within start holds runs most more less z = record {
      text = z.text;
      held = z.held;
      last = z.last;
      reads = z.reads;
      behind = z.behind;
      before = z.before;
      splits = z.splits;
      few = omega (arith, z.few, less);
      closure = z.closure;
      visitor = z.visitor;
      given = z.given;
    }

    -- no run is made meanwhile
    stays_held : (start : List Node) (holds now : Option (List ℕ) → Type 0) (runs : List (Made D)) (most : ℕ) → Keeps holds now → IsHeld called takes b start holds f0 v0 runs most
        → IsHeld called takes b start now f0 v0 runs most
    stays_held start holds now runs most keeps z = record {
      text = z.text;
      held = keeps z.text z.held;
      last = z.last;
      reads = z.reads;
      behind = z.behind;
      before = z.before;
      splits = z.splits;
      few = z.few;
      closure = z.closure;
      visitor = z.visitor;
      given = z.given;
    }

    -- one run more is made
    falls_behind : (start : List Node) (holds : Option (List ℕ) → Type 0) (runs : List (Made D)) (most : ℕ) (m : Made D) → IsHeld called takes b start holds f0 v0 runs most
        → IsHeld called takes b start holds f0 v0 (m ∷ runs) (most + 1)
    falls_behind start holds runs most m z = record {
      text = z.text;
      held = z.held;
      last = z.last;
      reads = z.reads;
      behind = m ∷ z.behind;
      before = z.before;
      splits = ap (λ (l : List (Made D)). m ∷ l) z.splits;
      few = omega (arith, z.few);
      closure = z.closure;
      visitor = z.visitor;
      given = z.given;
    }

    module _ (holds : Option (List ℕ) → Type 0) (f : F) (v : V) (path : Route) (count most : ℕ) (z : IsChecking holds f v path count most) where
      -- a run may begin with the path
      pub checking_starts : IsAtStart path.explores path
      checking_starts =
          let is = z.fine.rests in
          (ap (λ (p : Route). p.position) is, refl, ap (λ (p : Route). p.exploring) is ∙ sym (ap (λ (p : Route). initially p.explores) is))

      pub checking_well : MayBegin (search_of b) (stored path.nodes)
      checking_well = z.fine.well

      -- the path is between two runs of the check
      given_so : Makes called takes b z.start f0 v0 z.runs f v (Some (path_of b path.nodes))
      given_so = subst (λ (p : Route). Makes called takes b z.start f0 v0 z.runs f v (Some p)) z.fine.rests z.given

      saved_here : (now : Option (List ℕ) → Type 0) (text : List ℕ) → IsSavedAs path now text → IsHeld called takes b z.start now f0 v0 z.runs 0
      saved_here now text h = record {
        text = Some text;
        held = h.held;
        last = path.nodes;
        reads = subst (λ (p : Route). IsTextOf p.search p.explores text path.nodes) z.fine.rests h.reads;
        behind = [];
        before = z.runs;
        splits = refl;
        few = omega arith;
        closure = f;
        visitor = v;
        given = given_so;
      }

      -- what the store may hold where the check ends here by an error
      pub checking_left : (now : Option (List ℕ) → Type 0) → most ≤ b.checkpoint_interval → Keeps holds now → HeldBack called takes b gives now f0 v0
      checking_left now few keeps = record {
        text = z.text;
        gave = z.gave;
        path = z.start;
        reads = z.reads;
        runs = z.runs;
        held = held_within z.start now z.runs most b.checkpoint_interval few (stays_held z.start holds now z.runs most keeps z.behind);
      }

      -- the path was saved, or there was time
      pub checking_kept : (now : Option (List ℕ) → Type 0) (until left : ℕ) → most + until ≤ b.checkpoint_interval → IsKept b.checkpoint_interval until path holds now left
          → (behind : ℕ) × IsChecking now f v path count behind × (behind + left + 1 ≤ b.checkpoint_interval)
      checking_kept now until left few (inl kept) = (
        most,
        record {
          text = z.text;
          gave = z.gave;
          start = z.start;
          reads = z.reads;
          fine = z.fine;
          runs = z.runs;
          given = z.given;
          counted = z.counted;
          behind = stays_held z.start holds now z.runs most kept.1 z.behind;
        },
        omega (arith, few, kept.0),
      )
      checking_kept now until left few (inr saved) = (
        0,
        record {
          text = z.text;
          gave = z.gave;
          start = z.start;
          reads = z.reads;
          fine = z.fine;
          runs = z.runs;
          given = z.given;
          counted = z.counted;
          behind = saved_here now saved.1.0 saved.1.1;
        },
        omega (arith, saved.0),
      )

      -- what one run more makes of the runs
      one_more : (m : Made D) (f' : F) (v' : V) (next : Option Route) → m.began ≡ path → Given called takes (limits_of b) f v m f' v' → chains.GoesTo m.log.now.route next
          → Makes called takes b z.start f0 v0 (m ∷ z.runs) f' v' next
      one_more m f' v' next began made goes = goes_on called takes (limits_of b) (path_of b z.start) path f0 f f' v0 v v' z.runs m next z.given began made goes

      -- the next one begins with this path
      pub checking_on : (f' : F) (v' : V) (next : Route) → WasMade called takes (limits_of b) f v path (Ended (Some next)) f' v' → IsChecking holds f' v' next (count + 1) (most + 1)
      checking_on f' v' next (m, began, one, goes) =
          let fine : IsFine (search_of b) (explores b) m.began = subst (IsFine (search_of b) (explores b)) (sym began) z.fine in
          let ended : chains.HasEnded (limits_of b) (run_of m) = record { history = one.made.settled.history; value = one.value; ended = one.ended } in
          record {
            text = z.text;
            gave = z.gave;
            start = z.start;
            reads = z.reads;
            fine = later_fine (search_of b) (explores b) (limits_of b) (run_of m) fine ended next goes;
            runs = m ∷ z.runs;
            given = one_more m f' v' (Some next) began one goes;
            counted = one_longer m z.runs count z.counted;
            behind = falls_behind z.start holds z.runs most m z.behind;
          }

      module _ (answered : Duration → Type 0) where
        -- it was the last one
        pub checking_ends : (f' : F) (v' : V) → most + 1 ≤ b.checkpoint_interval → count + 1 ≤ most_runs b → WasMade called takes (limits_of b) f v path (Ended None) f' v'
            → Reports called takes b f0 v0 v' gives holds answered (report.Complete (count + 1))
        checking_ends f' v' few within (m, began, one, goes) =
            let made = one_more m f' v' None began one goes in
            record {
              text = z.text;
              gave = z.gave;
              path = z.start;
              reads = z.reads;
              after = f';
              runs = m ∷ z.runs;
              counted = one_longer m z.runs count z.counted;
              once = once b z.text z.start z.reads f0 v0 (m ∷ z.runs) f' v' None made;
              says = completes b z.text z.start z.reads f0 v0 (m ∷ z.runs) f' v' made (count + 1) (some_more count);
              limits = within;
              held = held_within z.start holds (m ∷ z.runs) (most + 1) b.checkpoint_interval few (falls_behind z.start holds z.runs most m z.behind);
            }

        -- it has failed
        pub checking_fails : (f' : F) (v' : V) (failure : Failure) (choices : Vec Choice Global) → most ≤ b.checkpoint_interval → count < most_runs b
            → WasMade called takes (limits_of b) f v path (Failed failure choices) f' v' → Reports called takes b f0 v0 v' gives holds answered (report.Failed count failure choices)
        checking_fails f' v' failure choices few within (m, began, one, failed, same) =
            let before : Makes called takes b z.start f0 v0 z.runs f v (Some m.began) = subst (λ (r : Route). Makes called takes b z.start f0 v0 z.runs f v (Some r)) (sym began) z.given in
            let says = fails b z.text z.start z.reads f0 v0 z.runs f v m f' failure choices.items before one failed.0 failed.1 in
            record {
              text = z.text;
              gave = z.gave;
              path = z.start;
              reads = z.reads;
              after = f';
              runs = z.runs;
              counted = z.counted;
              once = once b z.text z.start z.reads f0 v0 z.runs f v (Some path) z.given;
              says = subst (λ (w : V). HasFailed called takes b z.start f0 v0 z.runs f' w failure choices.items) (sym same) says;
              limits = within;
              held = held_within z.start holds z.runs most b.checkpoint_interval few z.behind;
            }

        -- no further one is made, and the path was saved
        pub checking_stops : (now : Option (List ℕ) → Type 0) (limit : Limit) (checkpoint : String Global) → IsSavedAs path now (string_bytes checkpoint)
            → StopsBy answered b (report.Stopped count limit checkpoint) → Reports called takes b f0 v0 v gives now answered (report.Stopped count limit checkpoint)
        checking_stops now limit checkpoint saved stops = record {
          text = z.text;
          gave = z.gave;
          path = z.start;
          reads = z.reads;
          after = f;
          runs = z.runs;
          counted = z.counted;
          once = once b z.text z.start z.reads f0 v0 z.runs f v (Some path) z.given;
          says = record {
            last = path.nodes;
            given = given_so;
            reads = subst (λ (p : Route). IsTextOf p.search p.explores (string_bytes checkpoint) path.nodes) z.fine.rests saved.reads;
            compact = saved.compact ∙ ap (λ (p : Route). compact_text (path_data p.search p.explores path.nodes)) z.fine.rests;
            held = saved.held;
          };
          limits = stops;
          held = held_within z.start now z.runs 0 b.checkpoint_interval (omega arith) (saved_here now (string_bytes checkpoint) saved);
        }

    -- no limit was reached, and the path was saved, or there was time
    module _ (holds now : Option (List ℕ) → Type 0) (f : F) (v : V) (path : Route) (count most until left : ℕ) (z : IsChecking holds f v path count most) (few : most + until ≤ b.checkpoint_interval)
        (kept : IsKept b.checkpoint_interval until path holds now left) (f' : F) (v' : V) (end : RunEnd) (made : WasMade called takes (limits_of b) f v path end f' v') where
      behind_by : (behind : ℕ) × IsChecking now f v path count behind × (behind + left + 1 ≤ b.checkpoint_interval)
      behind_by = checking_kept holds f v path count most z now until left few kept

      made_as : (other : RunEnd) → end ≡ other → WasMade called takes (limits_of b) f v path other f' v'
      made_as other is = subst (λ (e : RunEnd). WasMade called takes (limits_of b) f v path e f' v') is made

      -- then a run ended, and there is another
      pub round_on : (next : Route) → end ≡ Ended (Some next) → (behind : ℕ) × IsChecking now f' v' next (count + 1) behind × (behind + left ≤ b.checkpoint_interval)
      round_on next is = (behind_by.0 + 1, checking_on now f v path count behind_by.0 behind_by.1 f' v' next (made_as (Ended (Some next)) is), omega (arith, behind_by.2))

      module _ (answered : Duration → Type 0) (within : count < most_runs b) where
        -- or it was the last one
        pub round_ends : end ≡ Ended None → Reports called takes b f0 v0 v' gives now answered (report.Complete (count + 1))
        round_ends is =
            checking_ends now f v path count behind_by.0 behind_by.1 answered f' v' (omega (arith, behind_by.2)) (omega (arith, within)) (made_as (Ended None) is)

        -- or it failed
        pub round_fails : (failure : Failure) (choices : Vec Choice Global) → end ≡ Failed failure choices → Reports called takes b f0 v0 v' gives now answered (report.Failed count failure choices)
        round_fails failure choices is =
            checking_fails now f v path count behind_by.0 behind_by.1 answered f' v' failure choices (omega (arith, behind_by.2)) within (made_as (Failed failure choices) is)
