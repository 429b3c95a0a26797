use Rattle.std.proofs.Common.{◌≡◌, ◌∙◌, None, Option, ap, refl, sym}
use Rattle.loom_objects.specs.Rules.Cell.{holding}
use Rattle.loom_objects.proofs.Scene.Showing.{keeps}
use Rattle.loom_objects.specs.Stages.CellSwap.{exchanges_data}
use Rattle.loom_objects.proofs.Cells.Changing.{ends_exchange}
use Rattle.loom_objects.proofs.rt.cell.exchange_data.Goals as goal

pub returns : goal.returns
returns g c =
    let one = c.in_ok-cell_mut.field-0.now in
    let two = c.in_ok-cell_mut-2.field-0.now in
    let again = c.in_ok-cell_mut-3.field-0.now in
    let other : c.exchange-value-2.new.self ≡ holding one.content.value None two =
    c.exchange-value-2.ensures.exchanged ∙ ap (λ (o : Option g.row.D.Denot). holding o None two) c.exchange-value.ensures.held in
    let in_again : c.exchange.new.self ≡ holding two.content.value None again =
    c.exchange.ensures.exchanged ∙ ap (λ (o : Option g.row.D.Denot). holding o None again) c.exchange-value-2.ensures.held in
    let ends = ends_exchange c.args.scene.now.objects c.args.number c.args.other c.requires one two again c.exchange-value.new.self c.exchange-value-2.new.self c.exchange.new.self
    c.in_ok-cell_mut.ensures.value c.exchange-value.ensures.exchanged c.in_ok-cell_mut-2.ensures.value other c.in_ok-cell_mut-3.ensures.value in_again in
    keeps (exchanges_data c.args.number c.args.other) c.args.scene.now _ _ refl (λ p left. rw (sym c.in_ok-cell_mut.ensures.value, ends.0, ends.1) refl)
