use Rattle.loom_views.proofs.Sight.Shown.{shown_law}
use Rattle.loom_views.proofs.laws.views_say_what_is_seen.Goals as goal

pub returns : goal.returns
returns c = shown_law
