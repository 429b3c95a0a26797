use Rattle.std.proofs.Common.{◌≡◌, ap, rules, subst}
use Rattle.std.specs.Prelude.{Ok, Result, false}
use Rattle.loom_views.specs.declared.rt.failure.FailureKind.{FailureKind}
use Rattle.loom_objects.specs.declared.operation.Reply.{Reply}
use Rattle.loom_objects.specs.declared.rt.waker.Wakers.{Wakers}
use Rattle.loom_objects.specs.declared.rt.thread.AfterDrop.TheVariants as dropped
use Rattle.loom_objects.specs.declared.rt.thread.AfterWake.TheVariants as woken
use Rattle.loom_objects.specs.declared.rt.thread.Task.TheVariants as task
use Rattle.loom_objects.specs.Rules.Rule.{◌>>=◌}
use Rattle.loom_objects.specs.Scene.Lookup.{wakers_at}
use Rattle.loom_objects.specs.Scene.Stage.{Does, world_of}
use Rattle.loom_objects.specs.Rules.Waker.{answered, has_taken, pends_next}
use Rattle.loom_objects.proofs.Scene.Showing.{does_as}
use Rattle.loom_objects.proofs.rt.atomic_waker.has_taken.Goals as goal

pub returns-in-Answer-default : goal.returns-in-Answer-default
returns-in-Answer-default g c =
    let scene = c.args.scene.now in
    let told = subst (λ (reply : Reply g.row.D.Denot). Does (answered reply) scene (Ok c.answered.result) scene) c.waker_reply.ensures c.answered.ensures in
    rw c.in-Answer-default.is-0 told

pub returns-in_ok-notifier-in-Wake-Some : goal.returns-in_ok-notifier-in-Wake-Some
returns-in_ok-notifier-in-Wake-Some g c =
    let number = c.in-Wake-Some.number in
    let own = c.in_ok-notifier-in-Wake-Some.field-0.now in
    let there : wakers_at number c.args.scene.now.objects ≡ Ok own = search rules in
    does_as (has_taken c.args.taking c.args.waker) (pends_next (task.WakeBy own.notifier number (woken.Drop dropped.Done)) false) c.args.scene.now c.pend_next.new.scene (Ok c.pend_next.result)
    (λ p left. rw (c.in-Wake-Some.is-0, c.in-Wake-Some.is-1)
    (ap (λ (r : Result Wakers FailureKind). r >>= (λ (wakers : Wakers). pends_next (task.WakeBy wakers.notifier number (woken.Drop dropped.Done)) false (world_of p left c.args.scene.now))) there))
    c.pend_next.ensures
