use Rattle.std.proofs.Common.{◌≡◌, ap, rules}
use Rattle.std.specs.Prelude.{Ok, slice_set}
use Rattle.loom_objects.specs.Stages.Mpsc.{goes_on}
use Rattle.loom_objects.specs.declared.rt.object.Object.TheVariants as object
use Rattle.loom_objects.specs.Scene.Lookup.{channel_at}
use Rattle.loom_objects.specs.Scene.Stage.{Stage}
use Rattle.loom_objects.proofs.Scene.Showing.{keeps}
use Rattle.loom_objects.proofs.Stages.Finding.{kept}
use Rattle.loom_objects.proofs.rt.mpsc.go_on.Goals as goal

pub returns : goal.returns
returns g c =
    let channel = c.in_ok-channel.channel.now in
    let at : channel_at c.args.number c.args.scene.now.objects ≡ Ok channel = search rules in
    let stays : slice_set c.args.scene.now.objects c.args.number (object.Channel channel) ≡ c.args.scene.now.objects = kept c.args.scene.now.objects c.args.number channel at in
    keeps (goes_on c.args.number c.args.taken) c.args.scene.now c.pend.new.self _ (ap (λ (s : Stage g.row.D.Denot). s.views) c.pend.ensures) (λ p left. search rules)
