use Rattle.std.proofs.Common.{rules}
use Rattle.std.specs.Prelude.{Ok, Some, false}
use Rattle.loom_objects.specs.Stages.Waker.{frees, holds, takes_place}
use Rattle.loom_objects.specs.declared.operation.Reply.TheVariants as reply
use Rattle.loom_objects.specs.declared.rt.thread.AfterDrop.TheVariants as dropped
use Rattle.loom_objects.specs.declared.rt.thread.Task.TheVariants as task
use Rattle.loom_objects.specs.Rules.Rule.{◌>>=◌}
use Rattle.loom_objects.specs.Scene.Stage.{world_of}
use Rattle.loom_objects.specs.Rules.Waker.{answered, pends_next}
use Rattle.loom_objects.proofs.Scene.Showing.{does_as, follows}
use Rattle.loom_objects.proofs.Stages.Going.{fails_first}
use Rattle.loom_objects.proofs.Threads.Holding.{taken_after, taken_free}
use Rattle.loom_objects.proofs.rt.atomic_waker.take_place.Goals as goal

pub returns-in_err-hold_place-in-None : goal.returns-in_err-hold_place-in-None
returns-in_err-hold_place-in-None g c =
    does_as (takes_place c.args.number c.args.wakers c.args.place) (λ w. holds c.args.number c.args.place w >>= (λ x. frees c.args.number (record c.args.place { waker = Some c.args.wakers }) x.1 >>= (λ y. answered reply.Done y.1))) c.args.scene.now _ _ (λ p left. taken_free c.args.number c.args.wakers c.args.place (world_of p left c.args.scene.now) c.in-None.is)
    (fails_first (holds c.args.number c.args.place) (λ x. frees c.args.number (record c.args.place { waker = Some c.args.wakers }) x.1 >>= (λ y. answered reply.Done y.1)) c.args.scene.now c.hold_place.new.scene _ c.in_err-hold_place-in-None.field-0.0 _ (search rules) c.in_err-hold_place-in-None.ensures)

pub returns-in_err-free_place-in-None : goal.returns-in_err-free_place-in-None
returns-in_err-free_place-in-None g c =
    does_as (takes_place c.args.number c.args.wakers c.args.place) (λ w. holds c.args.number c.args.place w >>= (λ x. frees c.args.number (record c.args.place { waker = Some c.args.wakers }) x.1 >>= (λ y. answered reply.Done y.1))) c.args.scene.now _ _ (λ p left. taken_free c.args.number c.args.wakers c.args.place (world_of p left c.args.scene.now) c.in-None.is)
    (follows (holds c.args.number c.args.place) (λ x. frees c.args.number (record c.args.place { waker = Some c.args.wakers }) x.1 >>= (λ y. answered reply.Done y.1)) c.args.scene.now c.hold_place.new.scene _ tt _ c.in_ok-hold_place-in-None.ensures
    (fails_first (frees c.args.number (record c.args.place { waker = Some c.args.wakers })) (λ y. answered reply.Done y.1) c.hold_place.new.scene c.free_place.new.scene _ c.in_err-free_place-in-None.field-0.0 _ (search rules) c.in_err-free_place-in-None.ensures))

pub returns-in_ok-free_place-in-None : goal.returns-in_ok-free_place-in-None
returns-in_ok-free_place-in-None g c =
    does_as (takes_place c.args.number c.args.wakers c.args.place) (λ w. holds c.args.number c.args.place w >>= (λ x. frees c.args.number (record c.args.place { waker = Some c.args.wakers }) x.1 >>= (λ y. answered reply.Done y.1))) c.args.scene.now c.free_place.new.scene (Ok c.answered.result) (λ p left. taken_free c.args.number c.args.wakers c.args.place (world_of p left c.args.scene.now) c.in-None.is)
    (follows (holds c.args.number c.args.place) (λ x. frees c.args.number (record c.args.place { waker = Some c.args.wakers }) x.1 >>= (λ y. answered reply.Done y.1)) c.args.scene.now c.hold_place.new.scene c.free_place.new.scene tt (Ok c.answered.result) c.in_ok-hold_place-in-None.ensures
    (follows (frees c.args.number (record c.args.place { waker = Some c.args.wakers })) (λ y. answered reply.Done y.1) c.hold_place.new.scene c.free_place.new.scene c.free_place.new.scene tt (Ok c.answered.result) c.in_ok-free_place-in-None.ensures c.answered.ensures))

pub returns-in_err-hold_place-in-Some : goal.returns-in_err-hold_place-in-Some
returns-in_err-hold_place-in-Some g c =
    does_as (takes_place c.args.number c.args.wakers c.args.place) (λ w. holds c.args.number (record c.args.place { waker = Some c.args.wakers }) w >>= (λ x. pends_next (task.DropWaker c.in-Some.old (dropped.Free c.args.number)) false x.1)) c.args.scene.now _ _ (λ p left. taken_after c.args.number c.args.wakers c.args.place (world_of p left c.args.scene.now) c.in-Some.old c.in-Some.is)
    (fails_first (holds c.args.number (record c.args.place { waker = Some c.args.wakers })) (λ x. pends_next (task.DropWaker c.in-Some.old (dropped.Free c.args.number)) false x.1) c.args.scene.now c.hold_place-in-Some.new.scene _ c.in_err-hold_place-in-Some.field-0.0 _ (search rules) c.in_err-hold_place-in-Some.ensures)

pub returns-in_ok-hold_place-in-Some : goal.returns-in_ok-hold_place-in-Some
returns-in_ok-hold_place-in-Some g c =
    does_as (takes_place c.args.number c.args.wakers c.args.place) (λ w. holds c.args.number (record c.args.place { waker = Some c.args.wakers }) w >>= (λ x. pends_next (task.DropWaker c.in-Some.old (dropped.Free c.args.number)) false x.1)) c.args.scene.now c.pend_next.new.scene (Ok c.pend_next.result) (λ p left. taken_after c.args.number c.args.wakers c.args.place (world_of p left c.args.scene.now) c.in-Some.old c.in-Some.is)
    (follows (holds c.args.number (record c.args.place { waker = Some c.args.wakers })) (λ x. pends_next (task.DropWaker c.in-Some.old (dropped.Free c.args.number)) false x.1) c.args.scene.now c.hold_place-in-Some.new.scene c.pend_next.new.scene tt (Ok c.pend_next.result) c.in_ok-hold_place-in-Some.ensures c.pend_next.ensures)
