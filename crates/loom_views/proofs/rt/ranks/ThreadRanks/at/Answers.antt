use Rattle.std.proofs.Common.{◌∙◌, ◌-◌, Some, ap, arith, rules}
use Rattle.loom_views.proofs.Ranks.{rank_first, rank_further}
use Rattle.loom_views.proofs.rt.ranks.ThreadRanks.at.Goals as goal

pub returns-then-count-lt-BITS-clause-ranked : goal.returns-then-count-lt-BITS-clause-ranked
returns-then-count-lt-BITS-clause-ranked c =
    rw (← c.self.view_is) (rank_first c.self.inside.first c.self.inside.further c.args.count _ (omega arith) (search rules) (omega arith))

pub returns-in-Some-clause-ranked : goal.returns-in-Some-clause-ranked
returns-in-Some-clause-ranked c =
    rw (← c.self.view_is) (rank_further c.self.inside.first c.self.inside.further c.args.count (c.args.count - 64) (Some c.in-Some.rank) (omega arith) (c.at.ensures ∙ ap Some c.in-Some.is))
