use Rattle.std.proofs.Common.{◌≡◌, ◌∙◌, ap, rules, sym}
use Rattle.std.specs.Prelude.{Bool, Ok, Result, false, is_none, true}
use Rattle.loom_objects.specs.Stages.Waker.{wakers_left}
use Rattle.loom_objects.specs.Stages.Waker.{takes_place}
use Rattle.loom_views.specs.declared.rt.failure.FailureKind.{FailureKind}
use Rattle.loom_objects.specs.declared.rt.atomic_waker.AtomicWaker.{AtomicWaker}
use Rattle.loom_objects.specs.declared.rt.thread.AfterDrop.TheVariants as dropped
use Rattle.loom_objects.specs.declared.rt.thread.AfterWake.TheVariants as woken
use Rattle.loom_objects.specs.declared.rt.thread.Task.TheVariants as task
use Rattle.loom_objects.specs.Scene.Lookup.{atomic_waker_at}
use Rattle.loom_objects.specs.Rules.Rule.{◌>>=◌}
use Rattle.loom_objects.specs.Scene.Stage.{world_of}
use Rattle.loom_objects.specs.Rules.Waker.{pends_next, registers, registers_if, takes_place as place_taken}
use Rattle.loom_objects.proofs.Scene.Showing.{does_as}
use Rattle.loom_objects.proofs.Threads.Holding.{registered}
use Rattle.loom_objects.proofs.rt.atomic_waker.register.Goals as goal

pub returns-then-is_some : goal.returns-then-is_some
returns-then-is_some g c =
    let scene = c.args.scene.now in
    let place = c.in_ok-place.field-0.now in
    let own = c.in_ok-own.own in
    let at : atomic_waker_at c.args.number scene.objects ≡ Ok place = search rules in
    let left_one : wakers_left c.args.wakers scene.objects ≡ Ok own = sym c.some_wakers.ensures ∙ c.in_ok-own.was in
    let is_held : is_none place.holder ≡ false = search rules in
    does_as (registers c.args.number c.args.wakers) (pends_next (task.WakeBy own.notifier c.args.wakers (woken.Drop dropped.Yield)) false) scene c.pend_next.new.scene (Ok c.pend_next.result)
    (λ p left. registered c.args.number c.args.wakers place own (world_of p left scene) at left_one
    ∙ ap (λ (is_free : Bool). registers_if is_free c.args.number c.args.wakers place own (world_of p left scene)) is_held)
    c.pend_next.ensures

pub returns : goal.returns
returns g c =
    let scene = c.args.scene.now in
    let place = c.in_ok-place.field-0.now in
    let own = c.in_ok-own.own in
    let at : atomic_waker_at c.args.number scene.objects ≡ Ok place = search rules in
    let left_one : wakers_left c.args.wakers scene.objects ≡ Ok own = sym c.some_wakers.ensures ∙ c.in_ok-own.was in
    let is_free : is_none place.holder ≡ true = search rules in
    does_as (registers c.args.number c.args.wakers) (takes_place c.args.number c.args.wakers place) scene c.take_place.new.scene c.take_place.result
    (λ p left. registered c.args.number c.args.wakers place own (world_of p left scene) at left_one
    ∙ ap (λ (free : Bool). registers_if free c.args.number c.args.wakers place own (world_of p left scene)) is_free
    ∙ sym (ap (λ (r : Result AtomicWaker FailureKind). r >>= (λ (there : AtomicWaker). place_taken c.args.number c.args.wakers place place.waker (world_of p left scene))) at))
    c.take_place.ensures
