use Rattle.std.proofs.Common.{arith}
use Rattle.std.specs.Fn.{CalledAtMut}
use Rattle.loom.proofs.RunnerLemmas.RecordedWorkers.{finding_complete, finding_cut, finding_failed, finding_on, finding_start, finding_stopped}
use Rattle.loom.proofs.runner.recorded.workers.find_by.Goals as goal

pub turns-init : goal.turns-init
turns-init g c = record {
  callable = c.requires.callable;
  limits = c.requires.limits;
  within = omega arith;
  finding = finding_start (CalledAtMut g.F.FnMut) g.V.Visitor.takes g.G.Visitors.is_new g.G.Visitors.joins c.args.builder.now c.args.closure.now c.args.parts.now c.args.visitors.now c.args.recorder.now.recording c.requires.fresh;
}

pub turns-preserved : goal.turns-preserved
turns-preserved g c =
    let called = CalledAtMut g.F.FnMut in
    let takes = g.V.Visitor.takes in
    let is_new = g.G.Visitors.is_new in
    let joins = g.G.Visitors.joins in
    let b = c.args.builder.now in
    let f0 = c.args.closure.now in
    let before = c.args.parts.now in
    let old = c.args.visitors.now in
    let z = c.turns.invariant in
    let turn = c.in_ok-turn.turn in
    let on = finding_on called takes is_new joins b f0 before old c.turns.closure c.turns.recorder.recording c.turns.parts c.turns.visitors c.turns.runs z.finding c.make_turn.new.closure c.make_turn.new.recorder.recording
    c.in_ok-turn.ensures.records c.make_turn.new.parts c.make_turn.new.visitors turn c.in_ok-turn.ensures.takes in
    record {
      callable = c.make_turn.ensures.again;
      limits = c.make_turn.ensures.limits;
      within = (let l = c.in_ok-turn.ensures.within in let f = c.within-sharing.ensures.fits in let w = z.within in omega (arith, l, f, w));
      finding = finding_cut called takes is_new joins b f0 before old c.make_turn.new.closure c.make_turn.new.recorder.recording c.make_turn.new.parts c.cut_up.new.parts c.make_turn.new.visitors _ on c.in_ok-cut_up.ensures.cuts;
    }

pub returns-then-is_over : goal.returns-then-is_over
returns-then-is_over g c =
    let z = c.turns.invariant in
    finding_complete (CalledAtMut g.F.FnMut) g.V.Visitor.takes g.G.Visitors.is_new g.G.Visitors.joins c.args.builder.now c.args.closure.now c.args.parts.now c.args.visitors.now c.turns.closure c.turns.recorder.recording c.turns.parts
    c.turns.visitors c.turns.runs z.finding (g.C.Clock.answered c.turns.clock) z.within (c.is_over.ensures.all c.if-is_over.true)

pub returns-in-Some-reached : goal.returns-in-Some-reached
returns-in-Some-reached g c =
    let z = c.turns.invariant in
    finding_stopped (CalledAtMut g.F.FnMut) g.V.Visitor.takes g.G.Visitors.is_new g.G.Visitors.joins c.args.builder.now c.args.closure.now c.args.parts.now c.args.visitors.now c.turns.closure c.turns.recorder.recording c.turns.parts
    c.turns.visitors c.turns.runs z.finding (g.C.Clock.answered c.reached.new.clock) z.within c.in-Some-reached.limit (rw c.in-Some-reached.is at c.reached.ensures.reached)

pub returns-in-Some-lost : goal.returns-in-Some-lost
returns-in-Some-lost g c =
    let z = c.turns.invariant in
    let l = c.in_ok-turn.ensures.within in
    let f = c.within-sharing.ensures.fits in
    let w = z.within in
    rw c.in-Some-lost.is
    (finding_failed (CalledAtMut g.F.FnMut) g.V.Visitor.takes g.G.Visitors.is_new g.G.Visitors.joins c.args.builder.now c.args.closure.now c.args.parts.now c.args.visitors.now c.turns.closure c.turns.recorder.recording c.turns.parts
    c.turns.visitors c.turns.runs z.finding c.make_turn.new.closure c.make_turn.new.recorder.recording c.in_ok-turn.ensures.records c.make_turn.new.parts c.make_turn.new.visitors c.in_ok-turn.turn c.in_ok-turn.ensures.takes
    (g.C.Clock.answered c.reached.new.clock) c.in-Some-lost.lost (omega (arith, l, f, w)) c.in-Some-lost.is)
