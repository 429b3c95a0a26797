-- What is known of rounds from a path on.
use Rattle.std.proofs.Math.Seq.{take-length}
use Rattle.std.proofs.Common.{◌≡◌, ℕ, suc, inl, inr, List, [], ◌∷◌, length, refl, ap, ap₂, sym, ◌∙◌, subst, arith}
use Rattle.std.specs.Prelude.{◌≤◌, ◌≢◌, ◌⊎◌, map, Some, None, Option, Ok, Err, Result, Bool}
use Rattle.loom_views.specs.declared.rt.failure.FailureKind.{FailureKind}
use Rattle.loom_objects.specs.declared.choice.Choice.{Choice}
use Rattle.loom_objects.specs.declared.choice.Choice.TheVariants.{Thread}
use Rattle.loom_objects.specs.Tree.Tree.{Tree}
use Rattle.loom_engine.specs.Walk.Path.{Stored, choices, node_at, IsResting, IsAtRest}
use Rattle.loom_engine.specs.Trees.Meeting.{Settings, machine_of}
use Rattle.loom_engine.specs.Trees.Drive.{Trail, drive, at_start}
use Rattle.loom_engine.specs.Trees.Check.{Makes, MakesAll, FirstRun, told_apart, all_met, fails_early}
use Rattle.loom_engine.specs.Trees.Marks.{marking}
use Rattle.loom_engine.specs.Trees.Reports.{IsSearch}
use Rattle.loom_engine.specs.Trees.Resuming.{AreAtRest, HasDefaults, WasStoppedFrom, choices_passed}
use Rattle.loom_engine.specs.Trees.Sound.{EndsUnchosen}
use Rattle.loom_engine.specs.declared.rt.path.node.Node.{Node}
use Rattle.loom_engine.specs.Path.Route.{Route, settings, stored}
use Rattle.loom_engine.specs.declared.rt.path.Search.{Search}
use Rattle.loom_engine.specs.Runs.Sound.{IsRunTree}
use Rattle.loom_engine.specs.Path.WellFormed.{AreWellFormed, AreAtRest as AllAtRest, AreAlike, bare}
use Rattle.loom_engine.specs.Path.Nodes.{seen}
use Rattle.loom_engine.specs.declared.rt.path.node.Node.TheVariants as node
use Rattle.loom_engine.proofs.Path.WellFormed.{formed_at_rest, formed_well}
use Rattle.loom_engine.specs.Checkpoint.Accepted.{IsPathOf}
use Rattle.loom_engine.proofs.Checkpoint.ShapeLaws.{same_nodes}
use Rattle.serde_json.specs.Data.{Data}
use Rattle.loom_engine.proofs.Walk.After.{node_in}
use Rattle.loom_engine.proofs.Trees.Loading.{first_run_law}
use Rattle.loom_engine.proofs.Trees.Rounds.{driven, next_driven}
use Rattle.loom_engine.proofs.Trees.Reporting.{search_law, complete_report_law, stopped_report_law, failed_report_law}
use Rattle.loom_engine.proofs.Trees.Resuming.{complete_from_law, stopped_from_law, failed_from_law, joined_law}
use Rattle.loom_engine.proofs.Trees.Unchosen.{defaults_law}
use Rattle.loom.specs.declared.model.builder.Builder.{Builder}
use Rattle.loom.specs.Model.Begun.{IsBegun}
use Rattle.loom.specs.Model.Settings.{explores, search_of}
use Rattle.loom.specs.Model.Fresh.{IsCompleteReport, IsStoppedReport, IsFailedReport}
use Rattle.loom.specs.Model.Check.{IsTextOf, CompletesByRounds, GoesOnByRounds, Fails, ReadsAs, AreTogether, ends, goes_on, TogetherLaw}

-- a check may begin with such a path
pub record MayBegin (s : Settings) (p : List Stored) : Type 0 where
  pub rest : AreAtRest p
  pub defaults : HasDefaults p
  pub size : length p ≤ s.max_branches

-- each of a list is so
abbrev Each : (Stored → Type 0) → List Stored → Type 0
Each P [] = Unit {0}
Each P (n ∷ p) = P n × Each P p

abbrev HasDefault : Stored → Type 0
HasDefault n = n.made.default ≢ Thread None

no_nodes : (s : Settings) → MayBegin s []
unfolding node_at
no_nodes s = record { rest = λ before n h. absurd (cc h); defaults = λ before n h. absurd (cc h); size = omega arith }

pub stored_length : (nodes : List Node) → length (stored nodes) ≡ length nodes
stored_length [] = refl
stored_length (n ∷ nodes) = ap suc (stored_length nodes)

-- what is at a place of a list is as each of the list is
there : (P : Stored → Type 0) (p : List Stored) (before : List Choice) (n : Stored) → Each P p → node_at p before ≡ Some n → P n
unfolding node_at
there P [] before n all h = absurd (cc h)
there P (m ∷ p) [] n all h = (let e : m ≡ n = cc h in subst P e all.0)
there P (m ∷ p) (c ∷ before) n all h = there P p before n all.1 (node_in m p c before n h).1

at_rest_there : (p : List Stored) → AllAtRest p → Each IsAtRest p × Each HasDefault p
at_rest_there [] all = (tt, tt)
at_rest_there (n ∷ p) all = (let z = at_rest_there p all.2 in ((all.0, z.0), (all.1, z.1)))

all_there : (p : List Stored) → AllAtRest p → AreAtRest p × HasDefaults p
all_there p all = (
  (λ before n h. there IsAtRest p before n (at_rest_there p all).0 h),
  (λ before n h. there HasDefault p before n (at_rest_there p all).1 h),
)

formed_begins : (s : Settings) (nodes : List Node) → AreWellFormed nodes → length nodes ≤ s.max_branches → MayBegin s (stored nodes)
formed_begins s nodes formed size =
    let z = all_there (stored nodes) ((formed_at_rest nodes (formed_well nodes formed)).0 formed) in
    record { rest = z.0; defaults = z.1; size = omega (arith, size, stored_length nodes) }

pub begins : (s : Settings) (explores : Bool) (text : Option (List ℕ)) (path : List Node) → ReadsAs s explores text path → MayBegin s (stored path)
begins s explores None path e = subst (λ (nodes : List Node). MayBegin s (stored nodes)) (sym e) (no_nodes s)
begins s explores (Some text) path z = formed_begins s path z.1.2.well_formed z.1.2.fits

-- the search is the one that the builder asks for
pub begun_by : (b : Builder) (search : Search) (gives holds : Option (List ℕ) → Type 0) (path : Route) → settings search ≡ search_of b → search.explores ≡ explores b
    → IsBegun (settings search) search.explores gives holds path → IsBegun (search_of b) (explores b) gives holds path
begun_by b search gives holds path same_settings same_start begun =
    subst (λ (k : Settings). IsBegun k (explores b) gives holds path) same_settings
    (subst (λ (on : Bool). IsBegun (settings search) on gives holds path) same_start begun)

module _ {D : Type 0} (s : Settings) (tree : Tree D) (sound : IsRunTree tree) where
  -- what the laws of reports rest on
  searches : IsSearch s (marking s.bound) tree
  searches = search_law s tree sound.sound

  fresh_complete : (runs : List (List Choice × D)) → MakesAll s (marking s.bound) tree [] runs → IsCompleteReport s tree runs
  fresh_complete runs made = complete_report_law s (marking s.bound) tree runs searches made

  fresh_stopped : (runs : List (List Choice × D)) (last : List Stored) → Makes s (marking s.bound) tree [] runs last → IsStoppedReport s tree runs
  fresh_stopped runs last made = stopped_report_law s (marking s.bound) tree runs last searches made

  -- a path that a run met from its first to its last node is one of the tree's
  met_by : (p : List Stored) → AreAtRest p → length p ≤ s.max_branches → (value : D) (path : Trail) → drive s (marking s.bound) tree (at_start p) ≡ (Ok value, path)
      → IsResting (machine_of s (marking s.bound) tree) p
  met_by p rest size value path h = go (first_run_law s (marking s.bound) tree p searches.sound searches.marking sound.closing rest size)
    where
      is_value : (drive s (marking s.bound) tree (at_start p)).0 ≡ Ok value
      is_value = ap (λ (d : Result D FailureKind × Trail). d.0) h

      go : FirstRun s (marking s.bound) tree p (drive s (marking s.bound) tree (at_start p)) → IsResting (machine_of s (marking s.bound) tree) p
      go (all_met r) = r
      go (told_apart parts e) = absurd (cc (is_value, e))
      go (fails_early parts failure e f) = absurd (cc (is_value, e))

  pub completes : (start : List Node) (runs : List (List Choice × D)) → AreAtRest (stored start) → length (stored start) ≤ s.max_branches
      → MakesAll s (marking s.bound) tree (stored start) runs → CompletesByRounds s tree start runs
  completes start runs rest size made = record {
    promise = record {
      complete = complete_from_law s (marking s.bound) tree (stored start) runs searches sound.closing rest size made;
      fresh = λ e. fresh_complete runs (subst (λ (nodes : List Node). MakesAll s (marking s.bound) tree (stored nodes) runs) e made);
    };
    rounds = made;
  }

  module _ (start : List Node) (good : MayBegin s (stored start)) where
    stopped : (runs : List (List Choice × D)) (last : List Stored) → Makes s (marking s.bound) tree (stored start) runs last
        → WasStoppedFrom s (marking s.bound) tree (stored start) runs last
    stopped runs last made = stopped_from_law s (marking s.bound) tree (stored start) runs last searches sound.closing good.rest good.size made

    pub goes_to : (runs : List (List Choice × D)) (last : List Node) → Makes s (marking s.bound) tree (stored start) runs (stored last) → GoesOnByRounds s tree start runs last
    goes_to runs last made = record {
      promise = record {
        stopped = stopped runs (stored last) made;
        fresh = λ e. fresh_stopped runs (stored last) (subst (λ (nodes : List Node). Makes s (marking s.bound) tree (stored nodes) runs (stored last)) e made);
      };
      rounds = made;
    }

    -- a check may go on where it is
    pub may_go_on : EndsUnchosen tree → (runs : List (List Choice × D)) (last : List Stored) → Makes s (marking s.bound) tree (stored start) runs last → MayBegin s last
    may_go_on shut runs last made =
        let z = stopped runs last made in
        record { rest = z.at_rest; defaults = go z.began; size = z.size }
      where
        go : ((runs ≡ []) × (last ≡ stored start)) ⊎ IsResting (machine_of s (marking s.bound) tree) (stored start) → HasDefaults last
        go (inl none) = subst HasDefaults (sym none.1) good.defaults
        go (inr rests) = defaults_law s (marking s.bound) tree (stored start) runs last searches shut rests good.defaults made

    -- the choices that a run has passed are all that its path has
    pub all_chosen : (runs : List (List Choice × D)) (last : List Stored) (value : D) (path : Trail) → Makes s (marking s.bound) tree (stored start) runs last
        → drive s (marking s.bound) tree (at_start last) ≡ (Ok value, path) → choices_passed path ≡ choices path.nodes
    all_chosen runs last value path made h =
        let z = stopped runs last made in
        let d = driven s (marking s.bound) tree searches.sound searches.marking last (Ok value) path (met_by last z.at_rest z.size value path h) h in
        ap choices_passed d.all_passed ∙ ap choices (take-length path.nodes)

    fresh_failed : (runs : List (List Choice × D)) (last : List Stored) (failure : FailureKind) (path : Trail) → start ≡ [] → Makes s (marking s.bound) tree (stored start) runs last
        → drive s (marking s.bound) tree (at_start last) ≡ (Err failure, path) → IsFailedReport s tree runs failure (choices_passed path)
    fresh_failed runs last failure path e made h =
        let first = subst (λ (nodes : List Node). Makes s (marking s.bound) tree (stored nodes) runs last) e made in
        let law = failed_report_law s (marking s.bound) tree runs last failure path searches sound.fair first h in
        let d = next_driven s (marking s.bound) tree searches.sound searches.marking last runs (Err failure) path first h in
        subst (IsFailedReport s tree runs failure) (sym (ap choices_passed d.all_passed ∙ ap choices (take-length path.nodes)))
        law

    pub fails_there : (runs : List (List Choice × D)) (last : List Stored) (failure : FailureKind) (path : Trail) → Makes s (marking s.bound) tree (stored start) runs last
        → drive s (marking s.bound) tree (at_start last) ≡ (Err failure, path) → Fails s tree start runs failure (choices_passed path)
    fails_there runs last failure path made h = record {
      failed = failed_from_law s (marking s.bound) tree (stored start) runs last failure path searches sound.closing sound.fair good.rest good.size made h;
      fresh = λ e. fresh_failed runs last failure path e made h;
    }

-- ---- nodes that are alike

seen_bare : (n : Node) → seen (bare n) ≡ seen n
seen_bare (node.Schedule n) = refl
seen_bare (node.Load n) = refl
seen_bare (node.Spurious n) = refl

stored_bare : (nodes : List Node) → stored (map bare nodes) ≡ stored nodes
stored_bare [] = refl
stored_bare (n ∷ nodes) = ap₂ (λ (m : Stored) (p : List Stored). m ∷ p) (seen_bare n) (stored_bare nodes)

-- a text has no two paths that a walk tells apart
pub same_stored : (s : Settings) (explores : Bool) (text : List ℕ) (nodes others : List Node) → IsTextOf s explores text nodes → IsTextOf s explores text others → stored nodes ≡ stored others
same_stored s explores text nodes others one other =
    let d : one.1.0 ≡ other.1.0 = some_same one.1.0 other.1.0 (sym one.1.1 ∙ other.1.1) in
    let alike : AreAlike nodes others = same_nodes s explores other.1.0 nodes others (subst (λ (d : Data). IsPathOf s explores d nodes) d one.1.2) other.1.2 in
    sym (stored_bare nodes) ∙ ap stored alike ∙ stored_bare others
  where
    some_same : (a b : Data) → Some a ≡ Some b → a ≡ b
    some_same a b e = cc

-- checks one after another are what one makes
made_together : {D : Type 0} (s : Settings) (tree : Tree D) (path : List Node) (runs : List (List Choice × D)) → AreTogether s tree path runs → MakesAll s (marking s.bound) tree (stored path) runs
made_together s tree path runs (ends _ _ done) = done.rounds
made_together s tree path runs (goes_on explores text _ last next first more z one other on) =
    (joined_law s (marking s.bound) tree (stored path) (stored last) first more z.rounds).1
    (subst (λ (p : List Stored). MakesAll s (marking s.bound) tree p more) (same_stored s explores text next last other one) (made_together s tree next more on))

pub together_law : {D : Type 0} → TogetherLaw D
together_law s explores tree text path runs sound reads z =
    let good = begins s explores text path reads in
    completes s tree sound path runs good.rest good.size (made_together s tree path runs z)
