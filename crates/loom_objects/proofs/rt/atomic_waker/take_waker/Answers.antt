use Rattle.std.proofs.Common.{rules}
use Rattle.std.specs.Prelude.{None}
use Rattle.loom_objects.specs.Stages.Waker.{frees, holds}
use Rattle.loom_objects.specs.Rules.Rule.{◌>>=◌}
use Rattle.loom_objects.specs.Scene.Stage.{world_of}
use Rattle.loom_objects.specs.Rules.Waker.{has_taken, takes_waker}
use Rattle.loom_objects.proofs.Scene.Showing.{does_as, follows}
use Rattle.loom_objects.proofs.Stages.Going.{fails_first}
use Rattle.loom_objects.proofs.Threads.Holding.{taken_out}
use Rattle.loom_objects.proofs.rt.atomic_waker.take_waker.Goals as goal

pub returns-in_err-hold_place : goal.returns-in_err-hold_place
returns-in_err-hold_place g c =
    let place = c.in_ok-place.field-0.now in
    does_as (takes_waker c.args.taking c.args.number) (λ w. holds c.args.number place w >>= (λ x. frees c.args.number (record place { waker = None }) x.1 >>= (λ y. has_taken c.args.taking place.waker y.1))) c.args.scene.now _ _ (λ p left. taken_out c.args.taking c.args.number place (world_of p left c.args.scene.now) (search rules) (search rules))
    (fails_first (holds c.args.number place) (λ x. frees c.args.number (record place { waker = None }) x.1 >>= (λ y. has_taken c.args.taking place.waker y.1)) c.args.scene.now c.hold_place.new.scene _ c.in_err-hold_place.field-0.0 _ (search rules) c.in_err-hold_place.ensures)

pub returns-in_err-free_place : goal.returns-in_err-free_place
returns-in_err-free_place g c =
    let place = c.in_ok-place.field-0.now in
    does_as (takes_waker c.args.taking c.args.number) (λ w. holds c.args.number place w >>= (λ x. frees c.args.number (record place { waker = None }) x.1 >>= (λ y. has_taken c.args.taking place.waker y.1))) c.args.scene.now _ _ (λ p left. taken_out c.args.taking c.args.number place (world_of p left c.args.scene.now) (search rules) (search rules))
    (follows (holds c.args.number place) (λ x. frees c.args.number (record place { waker = None }) x.1 >>= (λ y. has_taken c.args.taking place.waker y.1)) c.args.scene.now c.hold_place.new.scene _ tt _ c.in_ok-hold_place.ensures
    (fails_first (frees c.args.number (record place { waker = None })) (λ y. has_taken c.args.taking place.waker y.1) c.hold_place.new.scene c.free_place.new.scene _ c.in_err-free_place.field-0.0 _ (search rules) c.in_err-free_place.ensures))

pub returns : goal.returns
returns g c =
    let place = c.in_ok-place.field-0.now in
    does_as (takes_waker c.args.taking c.args.number) (λ w. holds c.args.number place w >>= (λ x. frees c.args.number (record place { waker = None }) x.1 >>= (λ y. has_taken c.args.taking place.waker y.1))) c.args.scene.now _ _ (λ p left. taken_out c.args.taking c.args.number place (world_of p left c.args.scene.now) (search rules) (search rules))
    (follows (holds c.args.number place) (λ x. frees c.args.number (record place { waker = None }) x.1 >>= (λ y. has_taken c.args.taking place.waker y.1)) c.args.scene.now c.hold_place.new.scene c.has_taken.new.scene tt c.has_taken.result c.in_ok-hold_place.ensures
    (follows (frees c.args.number (record place { waker = None })) (λ y. has_taken c.args.taking place.waker y.1) c.hold_place.new.scene c.free_place.new.scene c.has_taken.new.scene tt c.has_taken.result c.in_ok-free_place.ensures c.has_taken.ensures))
