use Rattle.std.proofs.Common.{◌≡◌, count_by, sym, ◌∙◌, rules}
use Rattle.loom_engine.proofs.Nodes.Nodes.Slots.{slots_counted}
use Rattle.loom_engine.proofs.rt.path.node.count_slots.Goals as goal

pub returns-clause-count : goal.returns-clause-count
returns-clause-count c =
    let count : c.count.result ≡ count_by (λ b. b) c.args.readable.now = search rules in
    count ∙ sym (slots_counted c.args.readable.now 0)
