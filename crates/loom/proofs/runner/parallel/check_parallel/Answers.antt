use Rattle.std.proofs.Common.{arith}
use Rattle.loom_engine.specs.Runs.Body.{runs}
use Rattle.loom_engine.proofs.Runs.Bodies.{run_tree_law}
use Rattle.loom.specs.Model.Settings.{explores}
use Rattle.loom.proofs.RunnerLemmas.Finding.{come_further, come_cut, finds_complete, finds_stopped, finds_failed}
use Rattle.loom.proofs.RunnerLemmas.Workers.{gone_nowhere}
use Rattle.loom.proofs.runner.parallel.check_parallel.Goals as goal

pub turns-init : goal.turns-init
turns-init g c =
    let b = c.args.builder.now in
    let tree = runs g.B.Body.next (explores b) b.max_threads b.max_steps c.args.body.now in
    record { within = omega arith; gone = λ made at. gone_nowhere g.V.Visitor.takes g.G.Visitors.is_new g.G.Visitors.joins b tree made c.args.visitors.now c.args.parts.now at }

pub turns-preserved : goal.turns-preserved
turns-preserved g c =
    let b = c.args.builder.now in
    let tree = runs g.B.Body.next (explores b) b.max_threads b.max_steps c.args.body.now in
    let sound = run_tree_law g.B.Body.next (explores b) b.max_threads b.max_steps c.args.body.now in
    let z = c.turns.invariant in
    let takes = g.V.Visitor.takes in
    let is_new = g.G.Visitors.is_new in
    let joins = g.G.Visitors.joins in
    let turn = c.in_ok-turn.turn in
    let further = come_further takes is_new joins b tree sound c.args.parts.now c.args.visitors.now c.turns.parts c.make_turn.new.parts c.turns.visitors c.make_turn.new.visitors c.turns.runs turn z.gone c.in_ok-turn.ensures.takes in
    record {
      within = (let l = c.in_ok-turn.ensures.within in let f = c.within-sharing.ensures.fits in let w = z.within in omega (arith, l, f, w));
      gone = come_cut takes is_new joins b tree sound c.args.parts.now c.args.visitors.now c.make_turn.new.parts c.cut_up.new.parts c.make_turn.new.visitors _ further c.in_ok-cut_up.ensures.cuts;
    }

pub returns-then-is_over-clause-finds : goal.returns-then-is_over-clause-finds
returns-then-is_over-clause-finds g c =
    let b = c.args.builder.now in
    let tree = runs g.B.Body.next (explores b) b.max_threads b.max_steps c.args.body.now in
    let sound = run_tree_law g.B.Body.next (explores b) b.max_threads b.max_steps c.args.body.now in
    let z = c.turns.invariant in
    finds_complete g.V.Visitor.takes g.G.Visitors.is_new g.G.Visitors.joins b tree sound c.args.parts.now c.args.visitors.now (g.C.Clock.answered c.turns.clock) c.turns.parts c.turns.visitors c.turns.runs z.within z.gone
    (c.is_over.ensures.all c.if-is_over.true)

pub returns-in-Some-reached-clause-finds : goal.returns-in-Some-reached-clause-finds
returns-in-Some-reached-clause-finds g c =
    let b = c.args.builder.now in
    let tree = runs g.B.Body.next (explores b) b.max_threads b.max_steps c.args.body.now in
    let sound = run_tree_law g.B.Body.next (explores b) b.max_threads b.max_steps c.args.body.now in
    let z = c.turns.invariant in
    finds_stopped g.V.Visitor.takes g.G.Visitors.is_new g.G.Visitors.joins b tree sound c.args.parts.now c.args.visitors.now (g.C.Clock.answered c.reached.new.clock) c.turns.parts c.turns.visitors c.turns.runs c.in-Some-reached.limit
    z.within z.gone (rw c.in-Some-reached.is at c.reached.ensures.reached)

pub returns-in-Some-lost-clause-finds : goal.returns-in-Some-lost-clause-finds
returns-in-Some-lost-clause-finds g c =
    let b = c.args.builder.now in
    let tree = runs g.B.Body.next (explores b) b.max_threads b.max_steps c.args.body.now in
    let sound = run_tree_law g.B.Body.next (explores b) b.max_threads b.max_steps c.args.body.now in
    let z = c.turns.invariant in
    let l = c.in_ok-turn.ensures.within in
    let f = c.within-sharing.ensures.fits in
    let w = z.within in
    rw c.in-Some-lost.is
    (finds_failed g.V.Visitor.takes g.G.Visitors.is_new g.G.Visitors.joins b tree sound c.args.parts.now c.args.visitors.now (g.C.Clock.answered c.reached.new.clock) c.turns.parts c.make_turn.new.parts c.turns.visitors
    c.make_turn.new.visitors c.turns.runs c.in_ok-turn.turn c.in-Some-lost.lost (omega (arith, l, f, w)) z.gone c.in_ok-turn.ensures.takes c.in-Some-lost.is)
