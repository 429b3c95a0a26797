use Rattle.std.proofs.Common.{◌≡◌, rules}
use Rattle.std.specs.Prelude.{Ok}
use Rattle.loom_objects.specs.Stages.Waker.{frees}
use Rattle.loom_objects.specs.declared.operation.Reply.TheVariants as reply
use Rattle.loom_objects.specs.Scene.Lookup.{atomic_waker_at}
use Rattle.loom_objects.specs.Rules.Rule.{◌>>=◌}
use Rattle.loom_objects.specs.Scene.Stage.{world_of}
use Rattle.loom_objects.specs.Rules.Waker.{after_drop, answered}
use Rattle.loom_objects.proofs.Scene.Showing.{does_as, follows}
use Rattle.loom_objects.proofs.Threads.Holding.{freed_found}
use Rattle.loom_objects.proofs.rt.waker.after_drop.Goals as goal

pub returns-in_ok-free_place-in-Free : goal.returns-in_ok-free_place-in-Free
returns-in_ok-free_place-in-Free g c =
    let place = c.in_ok-place-in-Free.field-0.now in
    let at : atomic_waker_at c.in-Free.number c.args.scene.now.objects ≡ Ok place = search rules in
    does_as (after_drop c.args.after) (λ w. frees c.in-Free.number place w >>= (λ x. answered reply.Done x.1)) c.args.scene.now c.free_place.new.scene (Ok c.answered-in-Free.result)
    (λ p left. rw c.in-Free.is (freed_found c.in-Free.number place (answered reply.Done) (world_of p left c.args.scene.now) at))
    (follows (frees c.in-Free.number place) (λ x. answered reply.Done x.1) c.args.scene.now c.free_place.new.scene c.free_place.new.scene tt (Ok c.answered-in-Free.result) c.in_ok-free_place-in-Free.ensures c.answered-in-Free.ensures)
