use Rattle.std.proofs.Common.{ap, ◌∙◌, List, [], ◌++◌, ◌∷◌, length}
use Rattle.std.specs.Prelude.{None, Option, ℕ}
use Rattle.loom.proofs.runner.recorded.recording.Recording.new.Goals as goal

pub returns-clause-places : goal.returns-clause-places
returns-clause-places g c =
    ap length c.in_ok-push.ensures.items ∙ ap (λ (l : List (Option ℕ)). length (l ++ None ∷ [])) c.new-newest.ensures.items
