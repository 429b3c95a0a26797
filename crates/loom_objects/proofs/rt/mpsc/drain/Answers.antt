use Rattle.std.proofs.Common.{rules}
use Rattle.loom_objects.specs.Stages.Mpsc.{takes_first}
use Rattle.loom_objects.specs.Rules.Mpsc.{drains}
use Rattle.loom_objects.specs.Rules.Rule.{◌>>=◌}
use Rattle.loom_objects.specs.Scene.Stage.{world_of}
use Rattle.loom_objects.proofs.Scene.Showing.{does_as, follows}
use Rattle.loom_objects.proofs.Stages.Going.{fails_first}
use Rattle.loom_objects.proofs.Sync.Taking.{gathered, gathers_taken, goes_on_with, not_gathered}
use Rattle.loom_objects.proofs.rt.mpsc.drain.Goals as goal

pub returns-in_err-message : goal.returns-in_err-message
returns-in_err-message g c =
    does_as (drains c.args.number c.args.taken) (λ w. takes_first c.args.number w >>= gathers_taken c.args.number c.args.taken) c.args.scene.now _ _ (λ p left. gathered c.args.number c.args.taken (world_of p left c.args.scene.now))
    (fails_first (takes_first c.args.number) (gathers_taken c.args.number c.args.taken) c.args.scene.now c.take_first.new.scene _ c.in_err-message.field-0.0 _ (search rules) c.in_err-message.ensures)

pub returns-in_err-taken : goal.returns-in_err-taken
returns-in_err-taken g c =
    let scene = c.take_first.new.scene in
    does_as (drains c.args.number c.args.taken) (λ w. takes_first c.args.number w >>= gathers_taken c.args.number c.args.taken) c.args.scene.now _ _ (λ p left. gathered c.args.number c.args.taken (world_of p left c.args.scene.now))
    (follows (takes_first c.args.number) (gathers_taken c.args.number c.args.taken) c.args.scene.now scene scene c.in_ok-message.message _ c.in_ok-message.ensures
    (not_gathered c.args.number c.args.taken c.in_ok-message.message scene scene _ c.in_err-taken.field-0.0 (search rules) (search rules)))

pub returns : goal.returns
returns g c =
    let scene = c.take_first.new.scene in
    does_as (drains c.args.number c.args.taken) (λ w. takes_first c.args.number w >>= gathers_taken c.args.number c.args.taken) c.args.scene.now _ _ (λ p left. gathered c.args.number c.args.taken (world_of p left c.args.scene.now))
    (follows (takes_first c.args.number) (gathers_taken c.args.number c.args.taken) c.args.scene.now scene c.go_on.new.scene c.in_ok-message.message c.go_on.result c.in_ok-message.ensures
    (goes_on_with c.args.number c.args.taken c.in_ok-message.message scene c.go_on.new.scene c.go_on.result c.in_ok-taken.taken (search rules) c.go_on.ensures))
