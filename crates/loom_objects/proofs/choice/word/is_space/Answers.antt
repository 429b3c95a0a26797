use Rattle.std.proofs.Common.{rules}
use Rattle.loom_objects.proofs.choice.word.is_space.Goals as goal

pub returns-else-byte-eq10 : goal.returns-else-byte-eq10
returns-else-byte-eq10 c = search rules
