use Rattle.std.proofs.Common.{option_map, sym, ap, ◌∙◌}
use Rattle.loom_engine.specs.Checkpoint.Reader.{list_of}
use Rattle.loom_engine.proofs.Checkpoint.Lists.{list_of_viewed}
use Rattle.loom_engine.proofs.rt.path.checkpoint.read.read_list.Goals as goal

pub returns : goal.returns
returns c = ap (option_map list_of) (sym c.as_array.ensures) ∙ list_of_viewed c.as_array.result
