use Rattle.std.proofs.Common.{◌≡◌, reverse, ap, ◌∙◌, arith}
use Rattle.loom_engine.proofs.Covering.Trails.{gathering_ends, gathering_on, gathering_starts}
use Rattle.loom_engine.proofs.rt.states.trails.gathered.Goals as goal

pub back-init : goal.back-init
back-init c = gathering_starts c.args.steps.now c.args.lead c.in_ok-list.list.items c.requires.lead c.in_ok-list.ensures.items

pub back-preserved : goal.back-preserved
back-preserved c =
    gathering_on c.args.steps.now c.args.lead c.back.at c.last_of-last.result c.back.list.items c.push.new.self.items c.back.invariant c.last_of-last.ensures c.in_ok-push.ensures.items

pub back-smaller : goal.back-smaller
back-smaller c = omega (arith, c.last_of-last.ensures.shorter)

pub returns : goal.returns
returns c =
    let none : c.back.at.len ≡ 0 = omega (arith, c.back-test.false) in
    c.in_ok-choices.ensures ∙ ap reverse c.as_slice.ensures.value ∙ gathering_ends c.args.steps.now c.args.lead c.back.at c.back.list.items c.back.invariant none
