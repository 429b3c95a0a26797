use Rattle.std.proofs.Common.{◌≤◌, ◌+◌, arith}
use Rattle.loom.specs.Model.Settings.{most_runs}
use Rattle.loom.proofs.RunnerLemmas.Covering.{come_cut, come_further, come_nowhere, finds_complete, finds_failed, finds_stopped}
use Rattle.loom.proofs.runner.parallel.covering.cover_parallel.Goals as goal

pub turns-init : goal.turns-init
turns-init g c = record {
  within = omega arith;
  fits = omega arith;
  come = come_nowhere g.V.Visitor.takes g.G.Visitors.is_new g.G.Visitors.joins c.args.builder.now g.B.Body.next c.args.body.now c.args.parts.now c.args.states.now c.args.visitors.now;
}

pub turns-preserved : goal.turns-preserved
turns-preserved g c =
    let b = c.args.builder.now in
    let z = c.turns.invariant in
    let takes = g.V.Visitor.takes in
    let is_new = g.G.Visitors.is_new in
    let joins = g.G.Visitors.joins in
    let turn = c.in_ok-turn.turn in
    let further =
    come_further takes is_new joins b g.B.Body.next c.args.body.now c.args.parts.now c.args.states.now c.args.visitors.now c.turns.parts c.make_turn.new.parts c.turns.states c.make_turn.new.states c.turns.visitors
    c.make_turn.new.visitors c.turns.runs turn z.come c.in_ok-turn.ensures.takes in
    record {
      within = (let l = c.in_ok-turn.ensures.within in let f = c.within-sharing.ensures.fits in let w = z.within in omega (arith, l, f, w));
      fits = (let l = c.in_ok-turn.ensures.within in let f = c.within-sharing.ensures.fits in let w = z.within in omega (arith, l, f, w));
      come = come_cut takes is_new joins b g.B.Body.next c.args.body.now c.args.parts.now c.args.states.now c.args.visitors.now c.make_turn.new.parts c.cut_up.new.parts c.make_turn.new.states c.make_turn.new.visitors _ further
          c.in_ok-cut_up.ensures.spreads;
    }

pub returns-then-is_over-clause-finds : goal.returns-then-is_over-clause-finds
returns-then-is_over-clause-finds g c =
    let z = c.turns.invariant in
    finds_complete g.V.Visitor.takes g.G.Visitors.is_new g.G.Visitors.joins c.args.builder.now g.B.Body.next c.args.body.now c.args.parts.now c.args.states.now c.args.visitors.now (g.C.Clock.answered c.turns.clock) c.turns.parts
    c.turns.states c.turns.visitors c.turns.runs c.turns.met c.len.result z.within z.come (c.is_over.ensures.none c.if-is_over.true)

pub returns-in-Some-reached-clause-finds : goal.returns-in-Some-reached-clause-finds
returns-in-Some-reached-clause-finds g c =
    let z = c.turns.invariant in
    finds_stopped g.V.Visitor.takes g.G.Visitors.is_new g.G.Visitors.joins c.args.builder.now g.B.Body.next c.args.body.now c.args.parts.now c.args.states.now c.args.visitors.now (g.C.Clock.answered c.reached.new.clock) c.turns.parts
    c.turns.states c.turns.visitors c.turns.runs c.turns.met c.len-in-Some-reached.result c.in-Some-reached.limit z.within z.come (rw c.in-Some-reached.is at c.reached.ensures.reached)

pub returns-in-Some-lost-clause-finds : goal.returns-in-Some-lost-clause-finds
returns-in-Some-lost-clause-finds g c =
    let b = c.args.builder.now in
    let z = c.turns.invariant in
    let turn = c.in_ok-turn.turn in
    let few : (c.turns.runs + turn.runs) + (c.turns.met + turn.met) ≤ most_runs b = (let l = c.in_ok-turn.ensures.within in let f = c.within-sharing.ensures.fits in let w = z.within in omega (arith, l, f, w)) in
    rw c.in-Some-lost.is
    (finds_failed g.V.Visitor.takes g.G.Visitors.is_new g.G.Visitors.joins b g.B.Body.next c.args.body.now c.args.parts.now c.args.states.now c.args.visitors.now (g.C.Clock.answered c.reached.new.clock) c.turns.parts
    c.make_turn.new.parts c.turns.states c.make_turn.new.states c.turns.visitors c.make_turn.new.visitors c.turns.runs (c.turns.met + turn.met) c.len-in-Some-lost.result turn c.in-Some-lost.lost few z.come
    c.in_ok-turn.ensures.takes c.in-Some-lost.is)
