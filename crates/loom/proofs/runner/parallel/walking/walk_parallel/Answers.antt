use Rattle.std.proofs.Common.{◌+◌, inl, inr, refl, arith}
use Rattle.loom_engine.specs.Runs.Body.{runs}
use Rattle.loom.specs.Model.Settings.{explores}
use Rattle.loom.specs.Runner.Legs.{asked_of}
use Rattle.loom.proofs.RunnerLemmas.Legs.{come_nowhere, made_within, walks_failed, walks_made}
use Rattle.loom.proofs.runner.parallel.walking.walk_parallel.Goals as goal

pub turns-init : goal.turns-init
turns-init g c =
    let b = c.args.builder.now in
    record {
      within = omega arith;
      come = come_nowhere g.V.Visitor.takes g.G.Visitors.is_new g.G.Visitors.joins c.args.visitors.now b (runs g.B.Body.next (explores b) b.max_threads b.max_steps c.args.body.now)
          (record { runs = 0; cut = 0; different = c.new.result }) refl c.new.ensures;
    }

pub returns-then-is_up-clause-walks : goal.returns-then-is_up-clause-walks
returns-then-is_up-clause-walks g c =
    let b = c.args.builder.now in
    walks_made g.V.Visitor.takes g.G.Visitors.is_new g.G.Visitors.joins c.args.visitors.now b (runs g.B.Body.next (explores b) b.max_threads b.max_steps c.args.body.now) c.turns.visitors c.turns.gone c.args.walk
    (g.C.Clock.answered c.is_up.new.clock) c.made.result c.turns.invariant.come c.made.ensures (inr ((let t = c.turns-test.true in let a = c.runs-asked.ensures in omega (arith, t, a)), c.if-is_up.ensures refl))

pub take_back-requires-clause-fits : goal.take_back-requires-clause-fits
take_back-requires-clause-fits g c =
    let b = c.args.builder.now in
    let m = made_within g.V.Visitor.takes b (runs g.B.Body.next (explores b) b.max_threads b.max_steps c.args.body.now) c.in_ok-legs.legs.items c.in_ok-done.done.items c.in_ok-done.ensures in
    let w = c.in_ok-legs.ensures.within in
    let t = c.turns-test.true in
    let f = c.runs-asked.type_inv in
    omega (arith, m, w, t, f)

pub returns-in-Some-clause-walks : goal.returns-in-Some-clause-walks
returns-in-Some-clause-walks g c =
    let b = c.args.builder.now in
    let tree = runs g.B.Body.next (explores b) b.max_threads b.max_steps c.args.body.now in
    let taken = rw c.in-Some.is at (c.in_ok-failed.ensures b tree c.args.visitors.now c.in_ok-legs.legs.items c.in_ok-legs.ensures.new c.in_ok-done.ensures c.turns.invariant.come) in
    walks_failed g.V.Visitor.takes g.G.Visitors.is_new g.G.Visitors.joins c.args.visitors.now b tree c.take_back.new.visitors c.take_back.new.gone c.args.walk (g.C.Clock.answered c.is_up.new.clock)
    (c.turns.gone.runs + c.turns.gone.cut + asked_of c.in_ok-legs.legs.items) c.in-Some.failed (let w = c.in_ok-legs.ensures.within in let t = c.turns-test.true in let a = c.runs-asked.ensures in omega (arith, w, t, a)) taken

pub turns-smaller : goal.turns-smaller
turns-smaller g c =
    let b = c.args.builder.now in
    let tree = runs g.B.Body.next (explores b) b.max_threads b.max_steps c.args.body.now in
    let taken = rw c.in_default.is at (c.in_ok-failed.ensures b tree c.args.visitors.now c.in_ok-legs.legs.items c.in_ok-legs.ensures.new c.in_ok-done.ensures c.turns.invariant.come) in
    let e = taken.1 in
    let o = c.in_ok-legs.ensures.on in
    let t = c.turns-test.true in
    let a = c.runs-asked.ensures in
    omega (arith, e, o, t, a)

pub turns-preserved : goal.turns-preserved
turns-preserved g c =
    let b = c.args.builder.now in
    let tree = runs g.B.Body.next (explores b) b.max_threads b.max_steps c.args.body.now in
    let taken = rw c.in_default.is at (c.in_ok-failed.ensures b tree c.args.visitors.now c.in_ok-legs.legs.items c.in_ok-legs.ensures.new c.in_ok-done.ensures c.turns.invariant.come) in
    record { within = (let e = taken.1 in let w = c.in_ok-legs.ensures.within in let t = c.turns-test.true in let a = c.runs-asked.ensures in omega (arith, e, w, t, a)); come = taken.0 }

pub returns-clause-walks : goal.returns-clause-walks
returns-clause-walks g c =
    let b = c.args.builder.now in
    walks_made g.V.Visitor.takes g.G.Visitors.is_new g.G.Visitors.joins c.args.visitors.now b (runs g.B.Body.next (explores b) b.max_threads b.max_steps c.args.body.now) c.turns.visitors c.turns.gone c.args.walk
    (g.C.Clock.answered c.turns.clock) c.made-2.result c.turns.invariant.come c.made-2.ensures
    (inl (let t = c.turns-test.false in let a = c.runs-asked.ensures in let w = c.turns.invariant.within in omega (arith, t, a, w)))
