use Rattle.std.proofs.Common.{◌∙◌, ap}
use Rattle.loom_engine.specs.Path.Route.{Route, chosen}
use Rattle.loom_engine.specs.Runs.Body.{runs}
use Rattle.loom.specs.Model.Settings.{explores}
use Rattle.loom.proofs.ModelLemmas.Shortening.{better_fails}
use Rattle.loom.proofs.model.builder.Builder.shorten_from.Goals as goal

pub runs-init : goal.runs-init
runs-init g c = record {
  fails = c.requires.fails;
  search = ap (λ (r : Route). r.search) c.new-path.ensures ∙ c.drawn_search.ensures.settings;
  explores = ap (λ (r : Route). r.explores) c.new-path.ensures ∙ c.drawn_search.ensures.explores;
}

pub runs-preserved : goal.runs-preserved
runs-preserved g c =
    let b = c.args.self.now in
    let tree = runs g.B.Body.next (explores b) b.max_threads b.max_steps c.args.body.now in
    let drawn = rw c.in-Some.is at c.in_ok-found.ensures.drawn in
    record {
      fails = better_fails b.max_branches tree (chosen c.try_change.new.path) c.runs.shortest.choices.items c.in_ok-better.better.shortest.choices.items c.args.kind c.in-Some.tried.ending drawn
          c.runs.invariant.fails c.in_ok-better.ensures;
      search = c.try_change.ensures.search;
      explores = c.try_change.ensures.explores;
    }
