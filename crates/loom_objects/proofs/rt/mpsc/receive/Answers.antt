use Rattle.std.proofs.Common.{◌≡◌, ◌∙◌, refl, rules, subst, sym}
use Rattle.std.specs.Prelude.{Ok, Option, Some, None}
use Rattle.loom_objects.specs.Stages.Mpsc.{content}
use Rattle.loom_objects.specs.Stages.Mpsc.{takes_first}
use Rattle.loom_objects.specs.declared.operation.Message.{Message}
use Rattle.loom_objects.specs.declared.operation.Reply.TheVariants as reply
use Rattle.loom_objects.specs.Rules.Mpsc.{receives}
use Rattle.loom_objects.specs.Rules.Rule.{◌>>=◌}
use Rattle.loom_objects.specs.Scene.Stage.{Does, world_of}
use Rattle.loom_objects.proofs.Scene.Showing.{does_as, follows, keeps}
use Rattle.loom_objects.proofs.Stages.Going.{fails_first}
use Rattle.loom_objects.proofs.Sync.Taking.{tells_taken, told, told_value}
use Rattle.loom_objects.proofs.rt.mpsc.receive.Goals as goal

pub returns-in_err-take_first : goal.returns-in_err-take_first
returns-in_err-take_first g c =
    does_as (receives c.args.receiving c.args.number) (λ w. takes_first c.args.number w >>= tells_taken c.args.receiving) c.args.scene.now _ _ (λ p left. told c.args.receiving c.args.number (world_of p left c.args.scene.now))
    (fails_first (takes_first c.args.number) (tells_taken c.args.receiving) c.args.scene.now c.take_first.new.scene _ c.in_err-take_first.field-0.0 _ (search rules) c.in_err-take_first.ensures)

pub returns-in-None : goal.returns-in-None
returns-in-None g c =
    let scene = c.take_first.new.scene in
    does_as (receives c.args.receiving c.args.number) (λ w. takes_first c.args.number w >>= tells_taken c.args.receiving) c.args.scene.now scene (Ok c.none_left.result) (λ p left. told c.args.receiving c.args.number (world_of p left c.args.scene.now))
    (follows (takes_first c.args.number) (tells_taken c.args.receiving) c.args.scene.now scene scene None (Ok c.none_left.result) (subst (λ (taken : Option (Message g.row.D.Denot)). Does (takes_first c.args.number) c.args.scene.now (Ok taken) scene) c.in-None.is c.in_ok-take_first.ensures)
    (keeps (λ w. tells_taken c.args.receiving (None, w)) scene scene c.none_left.result refl (λ p left. search rules)))

pub returns-in_ok-value-in-Some : goal.returns-in_ok-value-in-Some
returns-in_ok-value-in-Some g c =
    let scene = c.take_first.new.scene in
    let message = c.in-Some.message in
    let value = c.in_ok-value-in-Some.value in
    let held : content message ≡ Ok value = sym c.content.ensures ∙ c.in_ok-value-in-Some.was in
    does_as (receives c.args.receiving c.args.number) (λ w. takes_first c.args.number w >>= tells_taken c.args.receiving) c.args.scene.now scene (Ok (reply.Data value)) (λ p left. told c.args.receiving c.args.number (world_of p left c.args.scene.now))
    (follows (takes_first c.args.number) (tells_taken c.args.receiving) c.args.scene.now scene scene (Some message) (Ok (reply.Data value)) (subst (λ (taken : Option (Message g.row.D.Denot)). Does (takes_first c.args.number) c.args.scene.now (Ok taken) scene) c.in-Some.is c.in_ok-take_first.ensures)
    (told_value c.args.receiving message scene value held))
