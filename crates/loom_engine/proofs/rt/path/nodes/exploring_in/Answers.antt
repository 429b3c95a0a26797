use Rattle.std.proofs.Common.{◌≡◌, ◌-◌, suc, length, take, ap, subst, sym, ◌∙◌, arith}
use Rattle.std.specs.Prelude.{min, Some, None}
use Rattle.loom_engine.specs.Trees.Marks.{from_exploring}
use Rattle.std.proofs.lemmas.List.{length-map}
use Rattle.loom_engine.specs.Trees.Drive.{pass_of}
use Rattle.loom_engine.specs.Path.Nodes.{seen}
use Rattle.loom_engine.specs.Path.Nodes.{stored}
use Rattle.loom_engine.specs.Path.Nearest.{IsNearest, passes_in}
use Rattle.loom_engine.proofs.Nodes.Marking.Places.{down_within}
use Rattle.loom_engine.proofs.Nodes.Marking.Nearest.{front_length, front_got, got_node, explores_here, goes_past, goes_past_other, nearest_noted}
use Rattle.loom_engine.specs.declared.rt.path.node.Node.TheVariants as node
use Rattle.loom_engine.proofs.rt.path.nodes.exploring_in.Goals as goal

pub loop-left-init : goal.loop-left-init
loop-left-init c =
    let front = take c.args.passed c.args.nodes.now in
    let least : c.min-left.result ≡ min c.args.passed (suc c.args.place) = omega (arith, c.min-left.ensures, c.saturating_add.ensures, c.ranges.passed.fits, c.ranges.place.fits) in
    let more : c.args.passed ≡ length (passes_in front) = sym (length-map (stored front) pass_of ∙ length-map front seen ∙ front_length c.args.nodes.now c.args.passed c.requires.within) in
    record {
      within = omega (arith, least);
      same = ap from_exploring (down_within (suc c.args.place) c.min-left.result (passes_in front) (least ∙ ap (λ l. min l (suc c.args.place)) more));
    }

pub returns-then-schedule : goal.returns-then-schedule
returns-then-schedule c =
    let l = c.loop-left in
    let nodes = c.args.nodes.now in
    let long = front_length nodes c.args.passed c.requires.within in
    let is = front_got nodes c.args.passed (l.left - 1) c.get.result (omega (arith, c.loop-left-test.true, l.invariant.within)) c.get.ensures ∙ c.in-Schedule.is in
    explores_here (take c.args.passed nodes) c.args.place l.left c.get.result c.loop-left-test.true (omega (arith, l.invariant.within, long)) l.invariant.same c.in-Schedule.schedule is c.if-schedule.true

-- a schedule that doesn't explore notes the nearest before it
pub returns-in_err-schedule : goal.returns-in_err-schedule
returns-in_err-schedule c =
    let l = c.loop-left in
    let nodes = c.args.nodes.now in
    let front = take c.args.passed nodes in
    let s = c.in-Schedule.schedule in
    let long = front_length nodes c.args.passed c.requires.within in
    let is = front_got nodes c.args.passed (l.left - 1) c.get.result (omega (arith, c.loop-left-test.true, l.invariant.within)) c.get.ensures ∙ c.in-Schedule.is in
    let there = got_node front (l.left - 1) (node.Schedule s) c.get.result (omega (arith, c.loop-left-test.true, l.invariant.within, long)) is in
    subst (IsNearest (passes_in front) c.args.place) (sym c.from_residual.ensures)
    (nearest_noted front c.args.place (l.left - 1) s there c.requires.noted
    (goes_past front c.args.place l.left c.get.result c.loop-left-test.true (omega (arith, l.invariant.within, long)) l.invariant.same s is c.if-schedule.false) None c.in_err-schedule.was)

pub returns-in-Schedule : goal.returns-in-Schedule
returns-in-Schedule c =
    let l = c.loop-left in
    let nodes = c.args.nodes.now in
    let front = take c.args.passed nodes in
    let s = c.in-Schedule.schedule in
    let long = front_length nodes c.args.passed c.requires.within in
    let is = front_got nodes c.args.passed (l.left - 1) c.get.result (omega (arith, c.loop-left-test.true, l.invariant.within)) c.get.ensures ∙ c.in-Schedule.is in
    let there = got_node front (l.left - 1) (node.Schedule s) c.get.result (omega (arith, c.loop-left-test.true, l.invariant.within, long)) is in
    nearest_noted front c.args.place (l.left - 1) s there c.requires.noted
    (goes_past front c.args.place l.left c.get.result c.loop-left-test.true (omega (arith, l.invariant.within, long)) l.invariant.same s is c.if-schedule.false) (Some c.in_ok-schedule.field-0) c.in_ok-schedule.was

pub loop-left-preserved : goal.loop-left-preserved
loop-left-preserved c =
    let l = c.loop-left in
    let nodes = c.args.nodes.now in
    let front = take c.args.passed nodes in
    let long = front_length nodes c.args.passed c.requires.within in
    let is = front_got nodes c.args.passed (l.left - 1) c.get.result (omega (arith, c.loop-left-test.true, l.invariant.within)) c.get.ensures in
    record {
      within = omega arith;
      same = goes_past_other front c.args.place l.left c.get.result c.loop-left-test.true (omega (arith, l.invariant.within, long)) l.invariant.same (λ s e. c.in_default.not-Schedule s (sym is ∙ e));
    }
