use Rattle.std.proofs.Common.{refl, ◌∙◌, arith}
use Rattle.loom_engine.specs.Path.Drawn.{led_by}
use Rattle.loom_engine.specs.Path.Route.{chosen}
use Rattle.loom_engine.proofs.Execution.Drawing.{branch_drawn, more_by, stops_drawn, too_many_drawn, turn_drawn}
use Rattle.loom_engine.proofs.Execution.Growing.{left_start}
use Rattle.loom_engine.proofs.Path.Drawing.{begins_all}
use Rattle.loom_engine.proofs.rt.execution.drawing.schedule.Goals as goal

pub passes-init : goal.passes-init
passes-init g c = record {
  left = λ given b. left_start c.args.more c.args.run.now (led_by given c.args.path.now);
  made = begins_all (chosen c.args.path.now) (chosen c.args.path.now) refl;
  drawn = c.requires;
  same = ((refl, refl, refl), refl);
  steps = refl;
}

pub passes-preserved : goal.passes-preserved
passes-preserved g c =
    let l = c.passes in
    let i = l.invariant in
    let s = c.pass.ensures.same in
    record {
      left = branch_drawn c.args.more c.args.run.now c.args.path.now l.left l.run l.path i.left c.pass.new.run c.pass.new.path c.pass.ensures.more _ (omega (arith, c.if-left-eq0.false))
          (rw c.in-Ok-AtBranch.field-0-is at c.in-Ok-AtBranch.ensures.along) s c.pass.ensures.steps;
      made = more_by c.args.path.now l.path c.pass.new.path i.made c.pass.ensures.more;
      drawn = c.pass.ensures.drawn;
      same = ((s.0.0 ∙ i.same.0.0, s.0.1 ∙ i.same.0.1, s.0.2 ∙ i.same.0.2), s.1 ∙ i.same.1);
      steps = c.pass.ensures.steps ∙ i.steps;
    }

pub returns-in-Err-clause-along : goal.returns-in-Err-clause-along
returns-in-Err-clause-along g c =
    let l = c.passes in
    stops_drawn c.args.more c.args.run.now c.args.path.now l.left l.run l.path l.invariant.left c.pass.new.run c.pass.new.path c.pass.ensures.more c.in-Err.stop c.in-Err.ensures.along

pub returns-in-Ok-Turn-clause-along : goal.returns-in-Ok-Turn-clause-along
returns-in-Ok-Turn-clause-along g c =
    let l = c.passes in
    turn_drawn c.args.more c.args.run.now c.args.path.now l.left l.run l.path l.invariant.left c.pass.new.run c.pass.new.path c.pass.ensures.more c.in-Ok-Turn.turn
    (rw c.in-Ok-Turn.field-0-is at c.in-Ok-Turn.ensures.along)

pub returns-then-left-eq0-clause-along : goal.returns-then-left-eq0-clause-along
returns-then-left-eq0-clause-along g c =
    let l = c.passes in
    rw c.failed.ensures (
    too_many_drawn c.args.more c.args.run.now c.args.path.now l.left l.run l.path l.invariant.left c.pass.new.run c.pass.new.path c.pass.ensures.more (omega (arith, c.if-left-eq0.true))
    (rw c.in-Ok-AtBranch.field-0-is at c.in-Ok-AtBranch.ensures.along)
    )

pub returns-in-Err-clause-more : goal.returns-in-Err-clause-more
returns-in-Err-clause-more g c = more_by c.args.path.now c.passes.path c.pass.new.path c.passes.invariant.made c.pass.ensures.more

pub returns-in-Ok-Turn-clause-more : goal.returns-in-Ok-Turn-clause-more
returns-in-Ok-Turn-clause-more g c = more_by c.args.path.now c.passes.path c.pass.new.path c.passes.invariant.made c.pass.ensures.more

pub returns-then-left-eq0-clause-more : goal.returns-then-left-eq0-clause-more
returns-then-left-eq0-clause-more g c = more_by c.args.path.now c.passes.path c.pass.new.path c.passes.invariant.made c.pass.ensures.more
