use Rattle.std.proofs.Common.{◌≡◌, rules, refl, []}
use Rattle.std.specs.Prelude.{Ok, None, slice_set}
use Rattle.loom_objects.specs.declared.rt.object.Object.TheVariants as object
use Rattle.loom_objects.specs.Scene.Lookup.{channel_at}
use Rattle.loom_objects.specs.Stages.Mpsc.{takes_first}
use Rattle.loom_objects.proofs.Scene.Showing.{keeps}
use Rattle.loom_objects.proofs.Stages.Finding.{kept, none_there}
use Rattle.loom_objects.proofs.rt.mpsc.take_first.Goals as goal

pub returns-in-None : goal.returns-in-None
returns-in-None g c =
    let channel = c.in_ok-channel.channel.now in
    let at : channel_at c.args.number c.args.scene.now.objects ≡ Ok channel = search rules in
    let none : channel.messages ≡ [] = none_there channel.messages (search rules) in
    let same : c.take.new.self ≡ channel = search rules in
    let stays : slice_set c.args.scene.now.objects c.args.number (object.Channel c.take.new.self) ≡ c.args.scene.now.objects = rw same (kept c.args.scene.now.objects c.args.number channel at) in
    keeps (takes_first c.args.number) c.args.scene.now _ None refl (λ p left. search rules)

pub returns-after-is_waited_for : goal.returns-after-is_waited_for
returns-after-is_waited_for g c = search rules
