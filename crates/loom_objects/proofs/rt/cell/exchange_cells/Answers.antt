use Rattle.std.proofs.Common.{◌≡◌, false, rules, sym}
use Rattle.std.specs.Prelude.{is_none}
use Rattle.loom_objects.specs.Rules.Cell.{exchanges_cells}
use Rattle.loom_objects.specs.Lent.{value_in}
use Rattle.loom_objects.specs.Rules.Rule.{◌>>=◌}
use Rattle.loom_objects.specs.Scene.Stage.{world_of}
use Rattle.loom_objects.proofs.Scene.Showing.{does_as, follows}
use Rattle.loom_objects.proofs.Stages.Going.{fails_first}
use Rattle.loom_objects.specs.Stages.CellSwap.{exchanges_data, writes_both}
use Rattle.loom_objects.proofs.Cells.Changing.{writes_first}
use Rattle.loom_objects.proofs.rt.cell.exchange_cells.Goals as goal

pub returns-in_err-write_both : goal.returns-in_err-write_both
returns-in_err-write_both g c =
    let n = c.args.number in
    let m = c.args.other in
    let one = c.in_ok-one.one.now in
    let two = c.in_ok-two.two.now in
    let some : is_none (value_in one.content) ≡ false = search rules in
    let some_too : is_none (value_in two.content) ≡ false = search rules in
    does_as (exchanges_cells n m) (λ w. writes_both n m w >>= (λ x. exchanges_data n m x.1)) c.args.scene.now _ _
    (λ p left. writes_first n m (world_of p left c.args.scene.now) one two (sym c.in_ok-one.ensures) (sym c.in_ok-two.ensures) some some_too)
    (fails_first (writes_both n m) (λ x. exchanges_data n m x.1) c.args.scene.now c.write_both.new.scene _ c.in_err-write_both.field-0.0 _ (search rules) c.in_err-write_both.ensures)

pub returns : goal.returns
returns g c =
    let n = c.args.number in
    let m = c.args.other in
    let one = c.in_ok-one.one.now in
    let two = c.in_ok-two.two.now in
    let some : is_none (value_in one.content) ≡ false = search rules in
    let some_too : is_none (value_in two.content) ≡ false = search rules in
    does_as (exchanges_cells n m) (λ w. writes_both n m w >>= (λ x. exchanges_data n m x.1)) c.args.scene.now _ _
    (λ p left. writes_first n m (world_of p left c.args.scene.now) one two (sym c.in_ok-one.ensures) (sym c.in_ok-two.ensures) some some_too)
    (follows (writes_both n m) (λ x. exchanges_data n m x.1) c.args.scene.now c.write_both.new.scene c.exchange_data.new.scene tt c.exchange_data.result c.in_ok-write_both.ensures c.exchange_data.ensures)
