use Rattle.loom_text.proofs.LawLemmas.{never_law}
use Rattle.loom_text.proofs.run.laws.never_is_never.Goals as goal

pub returns : goal.returns
returns c = never_law
