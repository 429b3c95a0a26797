use Rattle.std.proofs.Common.{rules}
use Rattle.loom_objects.specs.Stages.Waker.{forgets}
use Rattle.loom_objects.specs.Rules.Rule.{◌>>=◌}
use Rattle.loom_objects.specs.Scene.Stage.{world_of}
use Rattle.loom_objects.specs.Rules.Waker.{after_drop, drops_waker}
use Rattle.loom_objects.proofs.Scene.Showing.{does_as, follows}
use Rattle.loom_objects.proofs.Stages.Going.{fails_first}
use Rattle.loom_objects.proofs.Threads.Holding.{forgot}
use Rattle.loom_objects.proofs.rt.waker.drop_waker.Goals as goal

pub returns-in_err-forget : goal.returns-in_err-forget
returns-in_err-forget g c =
    does_as (drops_waker c.args.number c.args.after) (λ w. forgets c.args.number w >>= (λ x. after_drop c.args.after x.1)) c.args.scene.now _ _ (λ p left. forgot c.args.number c.args.after (world_of p left c.args.scene.now))
    (fails_first (forgets c.args.number) (λ x. after_drop c.args.after x.1) c.args.scene.now c.forget.new.scene _ c.in_err-forget.field-0.0 _ (search rules) c.in_err-forget.ensures)

pub returns : goal.returns
returns g c =
    does_as (drops_waker c.args.number c.args.after) (λ w. forgets c.args.number w >>= (λ x. after_drop c.args.after x.1)) c.args.scene.now c.after_drop.new.scene c.after_drop.result (λ p left. forgot c.args.number c.args.after (world_of p left c.args.scene.now))
    (follows (forgets c.args.number) (λ x. after_drop c.args.after x.1) c.args.scene.now c.forget.new.scene c.after_drop.new.scene tt c.after_drop.result c.in_ok-forget.ensures c.after_drop.ensures)
