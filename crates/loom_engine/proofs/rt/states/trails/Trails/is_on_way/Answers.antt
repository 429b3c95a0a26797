use Rattle.std.proofs.Common.{◌≡◌, ◌<◌, List, length, ap, subst, sym, ◌∙◌, arith}
use Rattle.std.specs.Prelude.{◌↔◌, IsTrue}
use Rattle.loom_objects.specs.declared.choice.Choice.{Choice}
use Rattle.loom_engine.specs.Covering.Between.{Passes}
use Rattle.loom_engine.specs.Covering.Trails.{choices_to}
use Rattle.loom_engine.proofs.Covering.Trails.{begins_so, list_there, lists_length, none_passed, passes_so}
use Rattle.loom_engine.proofs.rt.states.trails.Trails.is_on_way.Goals as goal

pub returns-then-number-len : goal.returns-then-number-len
returns-then-number-len c = λ there is.
    (λ t. absurd (cc t), λ p. absurd (none_passed c.self.inside.steps c.self.inside.leads c.args.self.now there c.args.number c.self.view_is (omega (arith, c.len.ensures)) p))

pub at-other-requires : goal.at-other-requires
at-other-requires c =
    let size = ap length (sym c.self.view_is) ∙ lists_length c.self.inside.steps c.self.inside.leads in
    let low : c.args.later < length c.args.self.now = c.requires in
    omega (arith, size, low)

pub is_front-requires-clause-one : goal.is_front-requires-clause-one
is_front-requires-clause-one c = c.self.invariant.each c.args.number c.at-one.result.now c.at-one.ensures

pub is_front-requires-clause-other : goal.is_front-requires-clause-other
is_front-requires-clause-other c = c.self.invariant.each c.args.later c.at-other.result.now c.at-other.ensures

pub returns : goal.returns
returns c = λ there is.
    let steps = c.self.inside.steps in
    let leads = c.self.inside.leads in
    let lists = c.args.self.now in
    let one = c.at-one.result.now in
    let whole = choices_to steps c.at-other.result.now.last in
    let here = list_there steps leads lists c.self.view_is c.args.later c.at-other.result.now c.at-other.ensures in
    let same : whole ≡ there = cc (here, is) in
    subst (λ (l : List Choice). IsTrue c.is_front.result ↔ Passes lists l c.args.number) same
    (λ t. passes_so steps leads lists c.self.view_is c.args.number one c.at-one.ensures whole (c.is_front.ensures.0 t), λ p. c.is_front.ensures.1 (begins_so steps leads lists c.self.view_is c.args.number one c.at-one.ensures whole p))
