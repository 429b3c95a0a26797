use Rattle.std.proofs.Common.{ap, rules}
use Rattle.loom_views.specs.Views.{points_after_acquire}
use Rattle.loom_objects.specs.Rules.Mutex.{lock}
use Rattle.loom_objects.specs.Scene.Stage.{Stage}
use Rattle.loom_objects.proofs.Scene.Showing.{gives}
use Rattle.loom_objects.proofs.rt.mutex.lock.Goals as goal

pub returns : goal.returns
returns g c =
    gives (lock c.args.locking c.args.number) _ _ _ c.acquire.new.self.views (λ p. points_after_acquire p c.args.scene.now.active c.args.number) (ap (λ (s : Stage g.row.D.Denot). s.views) c.block_pending.ensures) c.acquire.ensures.views (λ p left. search rules)
