-- Checks one after another are as one check.
use Rattle.std.proofs.Common.{◌≡◌, ◌∙◌, ◌⊎◌, Bool, false, List, [], ◌∷◌, ◌++◌, refl, sym, ap, ap₂, subst, Option, Some, None, Result, append-nil}
use Rattle.std.specs.Prelude.{IsSomeAnd}
use Rattle.loom_objects.specs.declared.choice.Choice.{Choice}
use Rattle.loom_engine.specs.Walk.Path.{Skip, Visited, Stored, node_at, step}
use Rattle.loom_engine.specs.declared.rt.execution.Limits.{Limits}
use Rattle.loom_engine.specs.declared.rt.path.node.Node.{Node}
use Rattle.loom_engine.specs.Path.Route.{Route, at_rest, stored}
use Rattle.loom_engine.specs.Trees.Meeting.{Settings}
use Rattle.loom.specs.declared.runner.stop.Stop.{Stop}
use Rattle.loom.specs.Runner.Chains.{Follow, GoesTo}
use Rattle.loom.specs.Runner.Handle.{Teller}
use Rattle.loom.specs.Runner.Laws.{AllTriedFrom, IsTried}
use Rattle.loom.specs.Runner.Check.{Made, AreTogether, begins, goes_on, TogetherLaw, runs_of}
use Rattle.loom.proofs.ModelLemmas.Paths.{MayBegin, same_stored, begins as read_well}
use Rattle.loom.proofs.RunnerLemmas.Alternatives.{all_tried}
use Rattle.loom.proofs.RunnerLemmas.Following.{IsFine}
use Rattle.loom.proofs.RunnerLemmas.Once.{once}
use Rattle.loom.proofs.Closures.Reporting.{follows, from_beginning}

module _ {D : Type 0} (limits : Limits) where
  -- runs that go on where others led
  joined : (start middle : Route) (runs more : List (Made D)) (next : Option Route) → Follow limits start (runs_of runs) (Some middle) → Follow limits middle (runs_of more) next
      → Follow limits start (runs_of (more ++ runs)) next
  joined start middle runs [] next before after = subst (Follow limits start (runs_of runs)) (sym after) before
  joined start middle runs (m ∷ more) next before (on, ended, goes) = (joined start middle runs more (Some m.began) before on, ended, goes)

  module _ (s : Settings) (explores : Bool) where
    -- a run leads to a path that a walk can't tell from the one to which it led
    leads_alike : (start : Route) (r : Made D) (runs : List (Made D)) (last first : List Node) → stored last ≡ stored first → Follow limits start (runs_of (r ∷ runs)) (Some (at_rest s explores last))
        → Follow limits start (runs_of (r ∷ runs)) (Some (at_rest s explores first))
    leads_alike start r runs last first same (before, ended, goes) = (before, ended, go)
      where
        go : GoesTo r.log.now.route (Some (at_rest s explores first))
        go = (
          subst (λ (p : List Stored). step (stored r.log.now.route.nodes) ≡ Some p) same goes.0,
          ap₂ (λ (t : Settings) (b : Bool). at_rest t b first) (ap (λ (p : Route). p.search) goes.1) (ap (λ (p : Route). p.explores) goes.1),
        )

    -- The runs of all checks follow one another from a path that a walk can't tell from the first one.
    pub record Follows (path : List Node) (runs : List (Made D)) (next : Option Route) : Type 0 where
      pub start : List Node
      pub same : stored start ≡ stored path
      pub follow : Follow limits (at_rest s explores start) (runs_of runs) next

    on_from : (path last first : List Node) (runs more : List (Made D)) (next : Option Route) → stored last ≡ stored first → Follows path runs (Some (at_rest s explores last))
        → Follow limits (at_rest s explores first) (runs_of more) next → Follows path (more ++ runs) next
    on_from path last first [] more next same z after =
        let is : at_rest s explores last ≡ at_rest s explores z.start = cc z.follow in
        subst (λ (runs : List (Made D)). Follows path runs next) (sym (append-nil more))
        (record { start = first; same = sym same ∙ ap (λ (p : Route). stored p.nodes) is ∙ z.same; follow = after })
    on_from path last first (r ∷ runs) more next same z after = record {
      start = z.start;
      same = z.same;
      follow = joined (at_rest s explores z.start) (at_rest s explores first) (r ∷ runs) more next (leads_alike (at_rest s explores z.start) r runs last first same z.follow) after;
    }

module _ {D F V : Type 0} (called : F → Teller D → Result D Stop → F → Teller D → Type 0) (takes : V → List Choice → D → V → Type 0) (limits : Limits) (s : Settings) (explores : Bool) (path : List Node) where
  all_follow : (all : List (Made D)) (next : Option Route) → AreTogether called takes limits s explores path all next → Follows limits s explores path all next
  all_follow runs next (begins f f' v v' _ _ rounds) = record { start = path; same = refl; follow = follows called takes limits (at_rest s explores path) f v runs f' v' next rounds }
  all_follow all next (goes_on text last first f f' v v' runs more _ before one other rounds) =
      on_from limits s explores path last first runs more next (same_stored s explores text last first one other) (all_follow runs (Some (at_rest s explores last)) before)
      (follows called takes limits (at_rest s explores first) f v more f' v' next rounds)

pub together_law : {D F V : Type 0} (called : F → Teller D → Result D Stop → F → Teller D → Type 0) (takes : V → List Choice → D → V → Type 0) → TogetherLaw called takes
together_law called takes limits s explores text path runs next reads together = (
  once limits s explores start fine (runs_of runs) next z.follow,
  λ none. let all = tried none in (all, from_beginning limits s path (runs_of runs) all),
)
  where
    z : Follows limits s explores path runs next
    z = all_follow called takes limits s explores path runs next together

    start : Route
    start = at_rest s explores z.start

    fine : IsFine s explores start
    fine = record { rests = refl; well = subst (MayBegin s) (sym z.same) (read_well s explores text path reads) }

    tried : next ≡ None → AllTriedFrom limits s path (runs_of runs)
    tried none r among before o alt =
        let h = subst (Follow limits start (runs_of runs)) none z.follow in
        subst (λ (p : List Stored). IsTried (runs_of runs) before o ⊎ IsSomeAnd (node_at p before) (λ n. (n.status o ≡ Visited) ⊎ ((s.reduce ≡ false) × (n.status o ≡ Skip)))) z.same
        (all_tried limits s explores start fine (runs_of runs) h r among before o alt)
