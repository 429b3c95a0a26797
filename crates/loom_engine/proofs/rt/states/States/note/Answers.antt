use Rattle.std.proofs.Common.{◌≡◌, ◌∙◌, rules}
use Rattle.loom_engine.specs.Path.Route.{chosen}
use Rattle.loom_engine.specs.Covering.Kept.{state_in}
use Rattle.loom_engine.proofs.Covering.Adding.{noted_so}
use Rattle.loom_engine.proofs.rt.states.States.note.Goals as goal

pub returns : goal.returns
returns g c =
    let same = c.choices_along.ensures.same ∙ c.kept.ensures.same in
    let made : c.in_ok-choices.choices ≡ chosen c.args.path.now = search rules in
    noted_so c.args.self.now c.choices_along.new.self c.add.new.self c.keep_choices.new.self c.in_ok-state.state (state_in c.args.self.now.never c.args.execution.now.run c.args.bodies.now c.args.views.now) c.as_slice.result.now (chosen c.args.path.now)
    (search rules) (c.as_slice.ensures ∙ made) same c.keep_choices.ensures c.in_ok-add.ensures
