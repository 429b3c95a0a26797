-- A check under way: rounds from the path with which it began, with the runs that its visitor was given.
use Rattle.std.proofs.Common.{◌≡◌, ◌+◌, ℕ, inl, inr, List, [], ◌∷◌, ◌++◌, length, take, refl, ap, ap₂, sym, ◌∙◌, subst, arith, append-nil, length-append}
use Rattle.std.proofs.lemmas.List.{append_assoc}
use Rattle.std.specs.Prelude.{◌≤◌, ◌<◌, Bool, true, false, Option, Some, None, Ok, Err, Result, String, Vec, string_bytes}
use Rattle.loom_views.specs.declared.rt.failure.FailureKind.{FailureKind}
use Rattle.loom_objects.specs.declared.choice.Choice.{Choice}
use Rattle.loom_objects.specs.Tree.Tree.{Tree}
use Rattle.loom_engine.specs.Walk.Path.{choices}
use Rattle.loom_engine.specs.Trees.Meeting.{Settings}
use Rattle.loom_engine.specs.Trees.Drive.{drive, at_start}
use Rattle.loom_engine.specs.Trees.Check.{Makes, makes_none}
use Rattle.loom_engine.specs.Trees.Marks.{marking}
use Rattle.loom_engine.specs.Trees.Sound.{EndsUnchosen}
use Rattle.loom_engine.specs.declared.rt.path.node.Node.{Node}
use Rattle.loom_engine.specs.Path.Route.{Route, IsAtStart, at_rest, stored, trail, chosen, drives}
use Rattle.loom_engine.specs.Runs.Sound.{IsRunTree}
use Rattle.loom.specs.Model.Stores.{Keeps}
use Rattle.loom_engine.proofs.Trees.Rounds.{another_round, final_round}
use Rattle.loom_objects.specs.declared.failure.Failure.{Failure}
use Rattle.serde_json.specs.Written.{compact_text}
use Rattle.loom_engine.specs.Checkpoint.Grammar.{path_data}
use Rattle.std.specs.declared.alloc.Global.{Global}
use Rattle.std.specs.declared.time.Duration.{Duration}
use Rattle.loom.specs.declared.model.builder.Builder.{Builder}
use Rattle.loom.specs.declared.model.Limit.{Limit}
use Rattle.loom.specs.declared.model.Limit.TheVariants.{Permutations, Duration as Lasting}
use Rattle.loom.specs.declared.model.report.Report.TheVariants.{Complete, Stopped, Failed}
use Rattle.loom.specs.Model.Fresh.{Given, WasGiven}
use Rattle.loom.specs.Model.Check.{IsTextOf, CompletesByRounds, GoesOnByRounds, Fails, IsHeld, ReadsAs, Reports, StopsBy}
use Rattle.loom.specs.declared.model.rounds.Round.TheVariants as round
use Rattle.loom.specs.Model.Rounds.{ComesTo, HasEnded}
use Rattle.loom.specs.Model.Begun.{IsBegun}
use Rattle.loom.specs.Model.Refusals.{HeldBack}
use Rattle.loom.specs.Model.Saving.{IsKept, IsLeft, IsSavedAs}
use Rattle.loom.specs.Model.Loop.{Comes, HasReached}
use Rattle.loom.specs.Model.Settings.{explores, most_runs, search_of}
use Rattle.loom.proofs.ModelLemmas.Paths.{MayBegin, begins, completes, goes_to, may_go_on, all_chosen, fails_there}

-- one run more was given
pub given_more : {V D : Type 0} (takes : V → List Choice → D → V → Type 0) (old : V) (runs : List (List Choice × D)) (mid new : V) (list : List Choice) (value : D)
    → Given takes old runs mid → takes mid list value new → Given takes old (runs ++ (list, value) ∷ []) new
given_more takes old [] mid new list value given more = (new, subst (λ v. takes v list value new) given more, refl)
given_more takes old (made ∷ runs) mid new list value given more =
    (given.0, given.1, given_more takes given.0 runs mid new list value given.2 more)

pub one_longer : {X : Type 0} (xs : List X) (x : X) (n : ℕ) → length xs ≡ n → length (xs ++ x ∷ []) ≡ n + 1
one_longer xs x n e = omega (arith, length-append xs (x ∷ []))

pub take_all : {X : Type 0} (xs : List X) (n : ℕ) → n ≡ length xs → take n xs ≡ xs
take_all xs n e = ap (λ k. take k xs) e ∙ whole xs
  where
    whole : {X : Type 0} (xs : List X) → take (length xs) xs ≡ xs
    whole [] = refl
    whole (x ∷ xs) = ap (λ l. x ∷ l) (whole xs)

module _ {D : Type 0} (b : Builder) (tree : Tree D) (sound : IsRunTree tree) (shut : EndsUnchosen tree) where
  abbrev s : Settings
  s = search_of b

  module _ {V : Type 0} (takes : V → List Choice → D → V → Type 0) (old : V) (start : List Node) where
    -- the rounds so far, with the runs that the visitor was given
    pub record IsWalking (path : Route) (visitor : V) (count : ℕ) : Type 0 where
      pub runs : List (List Choice × D)
      pub given : Given takes old runs visitor
      pub counted : length runs ≡ count
      pub makes : Makes (search_of b) (marking (search_of b).bound) tree (stored start) runs (stored path.nodes)
      pub rests : path ≡ at_rest (search_of b) (explores b) path.nodes

    abbrev pub walking_start : (path : Route) → path ≡ at_rest (search_of b) (explores b) path.nodes → path.nodes ≡ start → IsWalking path old 0
    walking_start path rests e = record {
      runs = [];
      given = refl;
      counted = refl;
      makes = subst (λ (nodes : List Node). Makes s (marking s.bound) tree (stored start) [] (stored nodes)) (sym e) (makes_none (stored start));
      rests = rests;
    }

    -- the drive of a path that rests
    pub driven : (path after : Route) (comes : Result D FailureKind) → path ≡ at_rest (search_of b) (explores b) path.nodes → drives tree path ≡ (comes, trail after)
        → drive s (marking s.bound) tree (at_start (stored path.nodes)) ≡ (comes, trail after)
    driven path after comes rests e = sym (ap (λ (p : Route). drives tree p) rests) ∙ e

    module _ (good : MayBegin (search_of b) (stored start)) where
      -- a check may begin where it is
      pub rests_well : (path : Route) (visitor : V) (count : ℕ) → IsWalking path visitor count → MayBegin (search_of b) (stored path.nodes)
      rests_well path visitor count z = may_go_on s tree sound start good shut z.runs (stored path.nodes) z.makes

      -- from there it is to go on
      pub stops_there : (path : Route) (visitor : V) (count : ℕ) (z : IsWalking path visitor count) → GoesOnByRounds (search_of b) tree start z.runs path.nodes
      stops_there path visitor count z = goes_to s tree sound start good z.runs path.nodes z.makes

      -- a run that ended, given to the visitor
      module _ (path : Route) (visitor : V) (count : ℕ) (z : IsWalking path visitor count) where
        pub ended : (on : Bool) (later : Route) (new : V) (h : HasEnded (Comes tree b.location) takes path visitor on later new) → chosen h.after ≡ choices (stored h.after.nodes)
        ended on later new h = all_chosen s tree sound start good z.runs (stored path.nodes) h.value (trail h.after) z.makes (driven path h.after (Ok h.value) z.rests h.came)

        pub more_given : (on : Bool) (later : Route) (new : V) (h : HasEnded (Comes tree b.location) takes path visitor on later new)
            → WasGiven takes old new (z.runs ++ (choices (stored h.after.nodes), h.value) ∷ []) (count + 1)
        more_given on later new h = record {
          given = given_more takes old z.runs visitor new (choices (stored h.after.nodes)) h.value z.given (subst (λ l. takes visitor l h.value new) (ended on later new h) h.took);
          counted = one_longer z.runs (choices (stored h.after.nodes), h.value) count z.counted;
        }

        -- and a step to the next one
        abbrev pub walking_on : (later : Route) (new : V) → HasEnded (Comes tree b.location) takes path visitor true later new → IsWalking later new (count + 1)
        walking_on later new h =
            let g = more_given true later new h in
            record {
              runs = z.runs ++ (choices (stored h.after.nodes), h.value) ∷ [];
              given = g.given;
              counted = g.counted;
              makes = another_round s (marking s.bound) tree (stored start) (stored path.nodes) (stored later.nodes) z.runs h.value (trail h.after) z.makes
                  (driven path h.after (Ok h.value) z.rests h.came) h.steps;
              rests = h.rests ∙ ap₂ (λ k e. at_rest k e later.nodes) (ap (λ (p : Route). p.search) z.rests) (ap (λ (p : Route). p.explores) z.rests);
            }

        -- the last run
        pub walking_ends : (later : Route) (new : V) → HasEnded (Comes tree b.location) takes path visitor false later new
            → (made : List Choice × D) × WasGiven takes old new (z.runs ++ made ∷ []) (count + 1) × CompletesByRounds (search_of b) tree start (z.runs ++ made ∷ [])
        walking_ends later new h = (
          (choices (stored h.after.nodes), h.value),
          more_given false later new h,
          completes s tree sound start (z.runs ++ (choices (stored h.after.nodes), h.value) ∷ []) good.rest good.size
              (final_round s (marking s.bound) tree (stored start) (stored path.nodes) z.runs h.value (trail h.after) z.makes (driven path h.after (Ok h.value) z.rests h.came) h.steps),
        )

        -- a run that fails
        pub walking_fails : (after : Route) (kind : FailureKind) → drives tree path ≡ (Err kind, trail after) → Fails (search_of b) tree start z.runs kind (chosen after)
        walking_fails after kind h = fails_there s tree sound start good z.runs (stored path.nodes) kind (trail after) z.makes (driven path after (Err kind) z.rests h)

  -- ---- what the store holds

  -- what the store may hold is a path that the check has reached, so many runs ago at most
  pub record IsBehind (start : List Node) (holds : Option (List ℕ) → Type 0) (runs : List (List Choice × D)) (most : ℕ) : Type 0 where
    pub text : Option (List ℕ)
    pub held : holds text
    pub last : List Node
    pub reads : ReadsAs (search_of b) (explores b) text last
    pub before : List (List Choice × D)
    pub behind : List (List Choice × D)
    pub splits : runs ≡ before ++ behind
    pub few : length behind ≤ most
    pub goes_on : GoesOnByRounds (search_of b) tree start before last

  held_by : (start : List Node) (holds : Option (List ℕ) → Type 0) (runs : List (List Choice × D)) (most : ℕ) → most ≤ b.checkpoint_interval → IsBehind start holds runs most
      → IsHeld b tree holds start runs
  held_by start holds runs most within z = record {
    text = z.text;
    held = z.held;
    last = z.last;
    reads = z.reads;
    before = z.before;
    behind = z.behind;
    splits = z.splits;
    few = omega (arith, z.few, within);
    goes_on = z.goes_on;
  }

  -- no run is made meanwhile
  stays_behind : (start : List Node) (holds now : Option (List ℕ) → Type 0) (runs : List (List Choice × D)) (most : ℕ) → Keeps holds now → IsBehind start holds runs most
      → IsBehind start now runs most
  stays_behind start holds now runs most keeps z = record {
    text = z.text;
    held = keeps z.text z.held;
    last = z.last;
    reads = z.reads;
    before = z.before;
    behind = z.behind;
    splits = z.splits;
    few = z.few;
    goes_on = z.goes_on;
  }

  -- one run more is made
  falls_behind : (start : List Node) (holds : Option (List ℕ) → Type 0) (runs : List (List Choice × D)) (most : ℕ) (made : List Choice × D) → IsBehind start holds runs most
      → IsBehind start holds (runs ++ made ∷ []) (most + 1)
  falls_behind start holds runs most made z = record {
    text = z.text;
    held = z.held;
    last = z.last;
    reads = z.reads;
    before = z.before;
    behind = z.behind ++ made ∷ [];
    splits = ap (λ (l : List (List Choice × D)). l ++ made ∷ []) z.splits ∙ append_assoc z.before z.behind (made ∷ []);
    few = omega (arith, z.few, length-append z.behind (made ∷ []));
    goes_on = z.goes_on;
  }

  -- ---- a check

  module _ {V : Type 0} (takes : V → List Choice → D → V → Type 0) (old : V) (gives : Option (List ℕ) → Type 0) where
    -- a check under way, whose store is so many runs behind at most
    pub record IsChecking (holds : Option (List ℕ) → Type 0) (path : Route) (visitor : V) (count most : ℕ) : Type 0 where
      pub text : Option (List ℕ)
      pub gave : gives text
      pub start : List Node
      pub reads : ReadsAs (search_of b) (explores b) text start
      pub walking : IsWalking takes old start path visitor count
      pub behind : IsBehind start holds walking.runs most

    pub checking_start : (holds : Option (List ℕ) → Type 0) (path : Route) → IsBegun (search_of b) (explores b) gives holds path → IsChecking holds path old 0 0
    checking_start holds path z =
        let good = begins s (explores b) z.text path.nodes z.reads in
        let w = walking_start takes old path.nodes path z.rests refl in
        record {
          text = z.text;
          gave = z.gave;
          start = path.nodes;
          reads = z.reads;
          walking = w;
          behind = record {
            text = z.text;
            held = z.held;
            last = path.nodes;
            reads = z.reads;
            before = [];
            behind = [];
            splits = refl;
            few = omega arith;
            goes_on = goes_to s tree sound path.nodes good [] path.nodes (makes_none (stored path.nodes));
          };
        }

    module _ (holds : Option (List ℕ) → Type 0) (path : Route) (visitor : V) (count most : ℕ) (z : IsChecking holds path visitor count most) where
      good : MayBegin (search_of b) (stored z.start)
      good = begins s (explores b) z.text z.start z.reads

      -- its path is at the start of a run
      pub checking_starts : IsAtStart (explores b) path
      checking_starts =
          let is = z.walking.rests in
          (ap (λ (p : Route). p.position) is, ap (λ (p : Route). p.explores) is, ap (λ (p : Route). p.exploring) is)

      -- a check may begin with its path
      pub checking_well : MayBegin (search_of b) (stored path.nodes)
      checking_well = rests_well takes old z.start good path visitor count z.walking

      saved_here : (now : Option (List ℕ) → Type 0) (text : List ℕ) → IsSavedAs path now text → IsBehind z.start now z.walking.runs 0
      saved_here now text h = record {
        text = Some text;
        held = h.held;
        last = path.nodes;
        reads = subst (λ (p : Route). IsTextOf p.search p.explores text path.nodes) z.walking.rests h.reads;
        before = z.walking.runs;
        behind = [];
        splits = sym (append-nil z.walking.runs);
        few = omega arith;
        goes_on = stops_there takes old z.start good path visitor count z.walking;
      }

      -- what the store may hold where the check ends here by an error
      pub checking_left : (now : Option (List ℕ) → Type 0) → most ≤ b.checkpoint_interval → IsLeft path holds now → HeldBack b tree gives now
      checking_left now few (inl keeps) = record {
        text = z.text;
        gave = z.gave;
        path = z.start;
        reads = z.reads;
        runs = z.walking.runs;
        held = held_by z.start now z.walking.runs most few (stays_behind z.start holds now z.walking.runs most keeps z.behind);
      }
      checking_left now few (inr saved) = record {
        text = z.text;
        gave = z.gave;
        path = z.start;
        reads = z.reads;
        runs = z.walking.runs;
        held = held_by z.start now z.walking.runs 0 (omega arith) (saved_here now saved.0 saved.1);
      }

      -- the path was saved, or there was time
      pub checking_kept : (now : Option (List ℕ) → Type 0) (until left : ℕ) → most + until ≤ b.checkpoint_interval → IsKept b.checkpoint_interval until path holds now left
          → (behind : ℕ) × IsChecking now path visitor count behind × (behind + left + 1 ≤ b.checkpoint_interval)
      checking_kept now until left few (inl kept) = (
        most,
        record {
          text = z.text;
          gave = z.gave;
          start = z.start;
          reads = z.reads;
          walking = z.walking;
          behind = stays_behind z.start holds now z.walking.runs most kept.1 z.behind;
        },
        omega (arith, few, kept.0),
      )
      checking_kept now until left few (inr saved) = (
        0,
        record {
          text = z.text;
          gave = z.gave;
          start = z.start;
          reads = z.reads;
          walking = z.walking;
          behind = saved_here now saved.1.0 saved.1.1;
        },
        omega (arith, saved.0),
      )

      -- a run more
      pub checking_on : (later : Route) (new : V) → HasEnded (Comes tree b.location) takes path visitor true later new → IsChecking holds later new (count + 1) (most + 1)
      checking_on later new h =
          let w = walking_on takes old z.start good path visitor count z.walking later new h in
          record {
            text = z.text;
            gave = z.gave;
            start = z.start;
            reads = z.reads;
            walking = w;
            behind = falls_behind z.start holds z.walking.runs most (choices (stored h.after.nodes), h.value) z.behind;
          }

      module _ (answered : Duration → Type 0) where
        pub checking_ends : (later : Route) (new : V) → most + 1 ≤ b.checkpoint_interval → count + 1 ≤ most_runs b → HasEnded (Comes tree b.location) takes path visitor false later new
            → Reports takes old new b tree gives holds answered (Complete (count + 1))
        checking_ends later new few limit h =
            let w = walking_ends takes old z.start good path visitor count z.walking later new h in
            record {
              text = z.text;
              gave = z.gave;
              path = z.start;
              reads = z.reads;
              runs = z.walking.runs ++ w.0 ∷ [];
              given = w.1;
              says = w.2;
              limits = limit;
              placed = tt;
              held = held_by z.start holds (z.walking.runs ++ w.0 ∷ []) (most + 1) few (falls_behind z.start holds z.walking.runs most w.0 z.behind);
            }

        pub checking_fails : (failure : Failure) (list : Vec Choice Global) (after : Route) → most ≤ b.checkpoint_interval → count < most_runs b
            → (b.location ≡ false → failure.location ≡ None) → drives tree path ≡ (Err failure.kind, trail after) → list.items ≡ chosen after → Reports takes old visitor b tree gives holds answered (Failed count failure list)
        checking_fails failure list after few limit placed h same = record {
          text = z.text;
          gave = z.gave;
          path = z.start;
          reads = z.reads;
          runs = z.walking.runs;
          given = record { given = z.walking.given; counted = z.walking.counted };
          says = subst (Fails (search_of b) tree z.start z.walking.runs failure.kind) (sym same)
              (walking_fails takes old z.start good path visitor count z.walking after failure.kind h);
          limits = limit;
          placed = placed;
          held = held_by z.start holds z.walking.runs most few z.behind;
        }

        -- what the path was saved as goes into the report
        pub checking_stops : (now : Option (List ℕ) → Type 0) (limit : Limit) (checkpoint : String Global) → IsSavedAs path now (string_bytes checkpoint)
            → StopsBy answered b (Stopped count limit checkpoint) → Reports takes old visitor b tree gives now answered (Stopped count limit checkpoint)
        checking_stops now limit checkpoint saved stops = record {
          text = z.text;
          gave = z.gave;
          path = z.start;
          reads = z.reads;
          runs = z.walking.runs;
          given = record { given = z.walking.given; counted = z.walking.counted };
          says = record {
            last = path.nodes;
            reads = subst (λ (p : Route). IsTextOf p.search p.explores (string_bytes checkpoint) path.nodes) z.walking.rests saved.reads;
            compact = saved.compact ∙ ap (λ (p : Route). compact_text (path_data p.search p.explores path.nodes)) z.walking.rests;
            held = saved.held;
            goes_on = stops_there takes old z.start good path visitor count z.walking;
          };
          limits = stops;
          placed = tt;
          held = held_by z.start now z.walking.runs 0 (omega arith) (saved_here now (string_bytes checkpoint) saved);
        }

    -- no limit was reached, and the path was saved, or there was time
    module _ (holds now : Option (List ℕ) → Type 0) (path : Route) (visitor : V) (count most until left : ℕ) (z : IsChecking holds path visitor count most)
        (few : most + until ≤ b.checkpoint_interval) (kept : IsKept b.checkpoint_interval until path holds now left) where
      behind_by : (behind : ℕ) × IsChecking now path visitor count behind × (behind + left + 1 ≤ b.checkpoint_interval)
      behind_by = checking_kept holds path visitor count most z now until left few kept

      -- then a run ended, and there is another
      pub round_on : (later : Route) (new : V) → HasEnded (Comes tree b.location) takes path visitor true later new
          → (behind : ℕ) × IsChecking now later new (count + 1) behind × (behind + left ≤ b.checkpoint_interval)
      round_on later new h = (behind_by.0 + 1, checking_on now path visitor count behind_by.0 behind_by.1 later new h, omega (arith, behind_by.2))

      module _ (answered : Duration → Type 0) (within : count < most_runs b) where
        -- or it was the last one
        pub round_ends : (later : Route) (new : V) → HasEnded (Comes tree b.location) takes path visitor false later new → Reports takes old new b tree gives now answered (Complete (count + 1))
        round_ends later new h =
            checking_ends now path visitor count behind_by.0 behind_by.1 answered later new (omega (arith, behind_by.2)) (omega (arith, within)) h

        -- or it failed
        pub round_fails : (failure : Failure) (list : Vec Choice Global) (later : Route) (new : V) → ComesTo (Comes tree b.location) takes path visitor (round.Failed failure list) later new
            → Reports takes old new b tree gives now answered (Failed count failure list)
        round_fails failure list later new h =
            subst (λ (v : V). Reports takes old v b tree gives now answered (Failed count failure list)) (sym h.3)
            (checking_fails now path visitor count behind_by.0 behind_by.1 answered failure list h.0 (omega (arith, behind_by.2)) within h.1.1 h.1.0 h.2)

-- the limit that was reached
pub reached_stops : (answered : Duration → Type 0) (b : Builder) (count : ℕ) (limit : Limit) (checkpoint : String Global) → count ≤ most_runs b
    → HasReached answered b count (Some limit) → StopsBy answered b (Stopped count limit checkpoint)
reached_stops answered b count Permutations checkpoint within full = omega (arith, within, full)
reached_stops answered b count Lasting checkpoint within lasted = (lasted.1, lasted.0)
