use Rattle.std.proofs.Common.{◌≡◌, drop}
use Rattle.loom_text.specs.Run.States.{tallied, told_each}
use Rattle.loom_text.proofs.run.tally.TallyVisitorsPartTally.join.Given as goal

-- the results from here on are left to be told
abbrev pub invariant-loop-result : goal.invariant-loop-result
invariant-loop-result g l =
    told_each (tallied l.fn.self.test.now l.fn.self.layout.now l.fn.self.counts.states.items l.fn.self.counts.positive l.fn.self.counts.negative) l.result-items
    ≡ told_each (tallied l.self.test.now l.self.layout.now l.self.counts.states.items l.self.counts.positive l.self.counts.negative) (drop l.result-index l.result-items)
