use Rattle.std.proofs.Common.{◌≡◌, List, length, ◌∙◌, arith}
use Rattle.loom_engine.specs.declared.rt.path.node.Status.{Status}
use Rattle.loom_engine.specs.declared.rt.path.node.Status.TheVariants.{Active, Visited}
use Rattle.loom_engine.specs.Path.Nodes.{with_status}
use Rattle.loom_engine.proofs.Path.Nodes.Drawing.{five_are, stands, with_status-length}
use Rattle.loom_engine.proofs.rt.path.making.drawn_statuses.Goals as goal

pub returns : goal.returns
returns c =
    let made : List Status = c.args.made.now in
    let size : length (with_status c.args.chosen Active (with_status c.args.default Visited made)) ≡ 5 =
    with_status-length c.args.chosen Active (with_status c.args.default Visited made) ∙ with_status-length c.args.default Visited made ∙ omega (arith, c.told-made) in
    five_are (with_status c.args.chosen Active (with_status c.args.default Visited made)) _ _ _ _ _ size
    (c.drawn_status.ensures made (stands made 0 _ (omega (arith, c.told-made))))
    (c.drawn_status-2.ensures made (stands made 1 _ (omega (arith, c.told-made))))
    (c.drawn_status-3.ensures made (stands made 2 _ (omega (arith, c.told-made))))
    (c.drawn_status-4.ensures made (stands made 3 _ (omega (arith, c.told-made))))
    (c.drawn_status-5.ensures made (stands made 4 _ (omega (arith, c.told-made))))
