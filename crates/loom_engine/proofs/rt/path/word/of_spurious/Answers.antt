use Rattle.std.proofs.Common.{arith}
use Rattle.loom_engine.proofs.Path.Words.{bit_small}
use Rattle.loom_engine.proofs.rt.path.word.of_spurious.Goals as goal

pub returns : goal.returns
returns c =
    let n = c.args.spurious.now in
    omega (arith, bit_small n.exploring, bit_small n.answer, c.set_explores-word.ensures.sum, c.set_answer.ensures.sum)
