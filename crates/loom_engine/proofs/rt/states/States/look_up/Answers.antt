use Rattle.std.proofs.Common.{ap, subst, ◌∙◌}
use Rattle.loom_views.specs.InOrder.{IsInOrder}
use Rattle.loom_views.specs.declared.rt.views.Views.{Views}
use Rattle.loom_engine.specs.Covering.Kept.{state_in}
use Rattle.loom_engine.specs.Path.Route.{chosen}
use Rattle.loom_engine.proofs.Covering.Adding.{looked_so}
use Rattle.loom_engine.proofs.rt.states.States.look_up.Goals as goal

pub returns : goal.returns
returns g c = (
  c.in_ok-views.views,
  subst (λ (v : Views). IsInOrder v c.in_ok-views.views) (c.views.ensures ∙ ap (λ s. s.views) c.scene.ensures) c.in_ok-views.ensures,
  looked_so c.args.known.now c.args.self.now c.take_spare-spare.new.self c.find_or_note.new.self c.keep_spare.new.self (λ never. state_in never c.args.execution.now.run c.args.bodies.now c.in_ok-views.views)
      (chosen c.args.path.now) c.in_ok-found.found c.take_spare-spare.ensures c.keep_spare.ensures c.in_ok-found.ensures,
)
