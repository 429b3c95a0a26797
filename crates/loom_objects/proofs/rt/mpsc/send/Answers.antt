use Rattle.std.proofs.Common.{◌≡◌, rules, true, false}
use Rattle.std.specs.Prelude.{Ok, nat_lt}
use Rattle.loom_objects.specs.Stages.Mpsc.{gives_back}
use Rattle.loom_objects.specs.Rules.Mpsc.{sends}
use Rattle.loom_objects.specs.Scene.Lookup.{channel_at}
use Rattle.loom_objects.specs.Rules.Rule.{◌>>=◌}
use Rattle.loom_objects.specs.Scene.Stage.{world_of}
use Rattle.loom_objects.proofs.Scene.Showing.{does_as}
use Rattle.loom_objects.proofs.Stages.Finding.{kept}
use Rattle.loom_objects.proofs.Stages.Going.{by_answer}
use Rattle.loom_objects.proofs.Sync.Taking.{given_back}
use Rattle.loom_objects.proofs.rt.mpsc.send.Goals as goal

pub returns-then-not-channel : goal.returns-then-not-channel
returns-then-not-channel g c =
    let channel = c.in_ok-channel.channel.now in
    let at : channel_at c.args.number c.args.scene.now.objects ≡ Ok channel = search rules in
    let left_one : nat_lt 0 channel.senders ≡ true = search rules in
    let gone : channel.has_receiver ≡ false = search rules in
    rw (kept c.args.scene.now.objects c.args.number channel at, c.give_back.ensures)
    (does_as (sends c.args.number c.args.sent) (λ w. gives_back c.args.sent >>= (λ reply. Ok (reply, w))) c.args.scene.now c.args.scene.now (gives_back c.args.sent)
    (λ p left. rw (at, left_one, gone) (given_back c.args.sent (world_of p left c.args.scene.now)))
    (by_answer (gives_back c.args.sent) c.args.scene.now))
