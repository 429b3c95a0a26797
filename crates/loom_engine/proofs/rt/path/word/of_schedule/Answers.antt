use Rattle.std.proofs.Common.{arith}
use Rattle.loom_engine.proofs.Path.Words.{bit_small, first_small, statuses_small}
use Rattle.loom_engine.proofs.rt.path.word.of_schedule.Goals as goal

pub set_statuses-word-requires : goal.set_statuses-word-requires
set_statuses-word-requires c =
    let n = c.args.schedule.now in
    omega (arith, bit_small n.exploring, first_small n.first c.requires.1, c.set_explores-word.ensures.sum, c.set_first-word.ensures.sum)

pub returns-clause-laid_out : goal.returns-clause-laid_out
returns-clause-laid_out c =
    let n = c.args.schedule.now in
    omega (arith, bit_small n.exploring, first_small n.first c.requires.1, statuses_small n.statuses c.requires.0, c.set_explores-word.ensures.sum, c.set_first-word.ensures.sum, c.set_statuses-word.ensures, c.set_preemptions.ensures.sum)
