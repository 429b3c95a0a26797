use Rattle.std.proofs.Common.{◌≡◌, ap, rules}
use Rattle.std.specs.Option.{option_map}
use Rattle.std.specs.Prelude.{slice_get, Some}
use Rattle.loom_objects.specs.declared.rt.thread.Phase.TheVariants.{Exited}
use Rattle.loom_objects.specs.declared.rt.thread.Thread.{Thread}
use Rattle.loom_objects.specs.Rules.Moves.{at_phase, with_thread}
use Rattle.loom_objects.specs.Rules.Thread.{exit}
use Rattle.loom_objects.proofs.Scene.Showing.{keeps}
use Rattle.loom_objects.proofs.Stages.Changing.{changed_there}
use Rattle.loom_objects.proofs.rt.thread.life.exit.Goals as goal

pub returns : goal.returns
returns g c =
    let thread = c.active_thread.result.now in
    let there : slice_get c.args.scene.now.threads c.args.scene.now.active ≡ Some thread = c.active_thread.ensures in
    let again : slice_get (with_thread (at_phase Exited) c.args.scene.now.active c.args.scene.now.threads) c.args.scene.now.active ≡ Some (at_phase Exited thread) = changed_there (at_phase Exited) c.args.scene.now.active c.args.scene.now.threads thread there in
    let own : option_map (λ (t : Thread g.row.D.Denot). t.locals) (slice_get c.set_phase.new.self.threads c.set_phase.new.self.active) ≡ Some thread.locals = rw c.set_phase.ensures (ap (option_map (λ (t : Thread g.row.D.Denot). t.locals)) again) in
    let given : c.take_locals.result ≡ thread.locals = cc in
    keeps exit c.args.scene.now c.take_locals.new.self _ (search rules) (λ p left. search rules)
