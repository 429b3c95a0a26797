use Rattle.loom_text.proofs.LawLemmas.{not_before_itself}
use Rattle.loom_text.proofs.run.laws.none_is_before_itself.Goals as goal

pub returns : goal.returns
returns c = not_before_itself
