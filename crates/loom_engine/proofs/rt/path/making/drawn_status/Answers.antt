use Rattle.std.proofs.Common.{Some, ap, sym, ◌∙◌}
use Rattle.loom_engine.specs.declared.rt.path.node.Status.TheVariants.{Active, Visited}
use Rattle.loom_engine.specs.Path.Nodes.{with_status}
use Rattle.loom_engine.proofs.Path.Nodes.Drawing.{status_set}
use Rattle.loom_engine.proofs.rt.path.making.drawn_status.Goals as goal

pub returns : goal.returns
returns c = λ made h.
    status_set c.args.chosen Active c.status_if-otherwise.result (with_status c.args.default Visited made) c.args.thread c.is_same_thread-2.result c.is_same_thread-2.ensures.0 c.is_same_thread-2.ensures.1
    (status_set c.args.default Visited c.args.status made c.args.thread c.is_same_thread.result c.is_same_thread.ensures.0 c.is_same_thread.ensures.1 h ∙ ap Some (sym c.status_if-otherwise.ensures))
    ∙ ap Some (sym c.status_if.ensures)
