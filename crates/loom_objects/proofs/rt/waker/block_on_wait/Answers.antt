use Rattle.std.proofs.Common.{rules}
use Rattle.loom_objects.specs.Rules.Notify.{wait_begins}
use Rattle.loom_objects.specs.Rules.Waker.{block_on_wait}
use Rattle.loom_objects.proofs.Scene.Showing.{does_as}
use Rattle.loom_objects.proofs.rt.waker.block_on_wait.Goals as goal

pub returns : goal.returns
returns g c = does_as (block_on_wait c.args.number) (wait_begins c.in_ok-wakers.wakers.notifier) c.args.scene.now c.wait_begins.new.scene c.wait_begins.result (λ p left. search rules) c.wait_begins.ensures
