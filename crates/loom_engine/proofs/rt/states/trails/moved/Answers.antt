use Rattle.std.proofs.Common.{◌≡◌, ◌<◌, ap, sym, ◌∙◌, arith}
use Rattle.loom_engine.specs.Covering.Trails.{moved}
use Rattle.loom_engine.proofs.Covering.Trails.{moved_on}
use Rattle.loom_engine.proofs.rt.states.trails.moved.Goals as goal

pub returns-then-number-eq0 : goal.returns-then-number-eq0
returns-then-number-eq0 c = let none : 0 ≡ c.args.number = omega arith in ap (moved c.args.offset) none

pub returns-in-Some : goal.returns-in-Some
returns-in-Some c = let some : 0 < c.args.number = omega arith in c.in-Some.ensures.1 ∙ sym (moved_on c.args.offset c.args.number some)
