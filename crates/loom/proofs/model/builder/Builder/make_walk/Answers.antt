use Rattle.std.proofs.Common.{◌∙◌, ap, refl, arith}
use Rattle.loom_engine.specs.Path.Route.{Route, chosen}
use Rattle.loom_engine.specs.Runs.Body.{runs}
use Rattle.loom.specs.Model.Settings.{explores}
use Rattle.loom.proofs.ModelLemmas.Walking.{taken_failed, taken_on, walked_all, walked_up, walking_start}
use Rattle.loom.proofs.model.builder.Builder.make_walk.Goals as goal

pub walking-init : goal.walking-init
walking-init g c =
    let b = c.args.self.now in
    record {
      walking = walking_start g.V.Visitor.takes c.args.visitor.now b (runs g.B.Body.next (explores b) b.max_threads b.max_steps c.args.body.now) c.args.different.now c.requires.new;
      search = ap (λ (r : Route). r.search) c.new-path.ensures ∙ c.drawn_search.ensures.settings;
      explores = ap (λ (r : Route). r.explores) c.new-path.ensures ∙ c.drawn_search.ensures.explores;
    }

pub walking-preserved : goal.walking-preserved
walking-preserved g c =
    let b = c.args.self.now in
    let tree = runs g.B.Body.next (explores b) b.max_threads b.max_steps c.args.body.now in
    let took = rw c.in-On.is at c.in_ok-take_run.ensures in
    record {
      walking = taken_on g.V.Visitor.takes c.args.visitor.now b tree c.walking.visitor c.walking.different c.walking.number c.walking.cut c.walking.invariant.walking c.take_run.new.visitor
          c.take_run.new.different (chosen c.draw.new.path) c.in_ok-ending.ending c.take_run.new.cut c.in_ok-ending.ensures.drawn took;
      search = c.draw.ensures.search;
      explores = c.draw.ensures.explores;
    }

pub returns-then-is_up : goal.returns-then-is_up
returns-then-is_up g c =
    let b = c.args.self.now in
    let tree = runs g.B.Body.next (explores b) b.max_threads b.max_steps c.args.body.now in
    walked_up g.V.Visitor.takes c.args.visitor.now b tree c.walking.visitor c.walking.different c.walking.number c.walking.cut c.walking.invariant.walking c.args.walk
    (g.C.Clock.answered c.is_up.new.clock) _ c.count-told.result refl (omega (arith, c.runs-asked.ensures)) c.count-told.ensures (c.if-is_up.ensures refl)

pub returns-in-Failed : goal.returns-in-Failed
returns-in-Failed g c =
    let b = c.args.self.now in
    let tree = runs g.B.Body.next (explores b) b.max_threads b.max_steps c.args.body.now in
    let took = rw c.in-Failed.is at c.in_ok-take_run.ensures in
    taken_failed g.V.Visitor.takes c.args.visitor.now b tree c.walking.visitor c.walking.different c.walking.number c.walking.cut c.walking.invariant.walking c.take_run.new.visitor
    c.take_run.new.different (chosen c.draw.new.path) c.in_ok-ending.ending c.take_run.new.cut c.in-Failed.kind c.in-Failed.choices c.in_ok-ending.ensures.drawn took c.args.walk (g.C.Clock.answered c.is_up.new.clock) _ _ refl
    (omega (arith, c.runs-asked.ensures)) c.in_ok-placed-in-Failed.ensures.kind c.in_ok-placed-in-Failed.ensures.placed

pub returns : goal.returns
returns g c =
    let b = c.args.self.now in
    let tree = runs g.B.Body.next (explores b) b.max_threads b.max_steps c.args.body.now in
    walked_all g.V.Visitor.takes c.args.visitor.now b tree c.walking.visitor c.walking.different c.walking.number c.walking.cut c.walking.invariant.walking c.args.walk
    (g.C.Clock.answered c.walking.clock) _ c.count.result (omega (arith, c.runs-asked.ensures)) (omega (arith, c.runs-asked.ensures)) c.count.ensures
