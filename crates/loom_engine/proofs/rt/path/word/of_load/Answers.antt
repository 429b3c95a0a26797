use Rattle.std.proofs.Common.{arith}
use Rattle.loom_engine.proofs.Path.Words.{bit_small, slots_small}
use Rattle.loom_engine.proofs.rt.path.word.of_load.Goals as goal

pub set_readable-word-requires : goal.set_readable-word-requires
set_readable-word-requires c = omega (arith, bit_small c.args.load.now.exploring, c.set_explores-word.ensures.sum)

pub returns : goal.returns
returns c =
    let n = c.args.load.now in
    omega (arith, bit_small n.exploring, slots_small n.readable c.requires.0, c.requires.1, c.set_explores-word.ensures.sum, c.set_readable-word.ensures, c.set_position.ensures.sum)
