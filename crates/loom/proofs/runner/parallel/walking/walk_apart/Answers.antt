use Rattle.std.proofs.Common.{ap, ap₂}
use Rattle.loom_engine.specs.Runs.Body.{runs}
use Rattle.loom.specs.declared.model.builder.Builder.{Builder}
use Rattle.loom.specs.Model.Settings.{explores}
use Rattle.loom.proofs.RunnerLemmas.Legs.{leg_made}
use Rattle.loom.proofs.runner.parallel.walking.walk_apart.Goals as goal

pub returns-clause-made : goal.returns-clause-made
returns-clause-made g c =
    let b = c.args.builder.now in
    let u = c.untimed-settings.result in
    let e = c.untimed-settings.ensures.same in
    leg_made g.V.Visitor.takes b u (runs g.B.Body.next (explores b) b.max_threads b.max_steps c.args.body.now) (runs g.B.Body.next (explores u) u.max_threads u.max_steps c.in_ok-own.own)
    (ap₂ (λ (s : Builder) (body : _). runs g.B.Body.next (explores s) s.max_threads s.max_steps body) e c.in_ok-own.ensures) (ap (λ (s : Builder). s.max_branches) e) (ap (λ (s : Builder). s.max_duration) e)
    (ap (λ (s : Builder). s.location) e) c.args.visitor.now c.walk_by.new.visitor c.walk_by.new.different c.args.walk _ c.in_ok-walked.walked c.in_ok-walked.ensures
