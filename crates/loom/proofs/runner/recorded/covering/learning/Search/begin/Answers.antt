use Rattle.std.proofs.Common.{ap₂, ◌∙◌, []}
use Rattle.loom_engine.specs.Path.Route.{at_rest}
use Rattle.loom.proofs.RunnerLemmas.RecordedCover.{rests_fresh}
use Rattle.loom.proofs.runner.recorded.covering.learning.Search.begin.Goals as goal

pub returns : goal.returns
returns g c =
    rests_fresh c.args.builder.now c.new-path.result
    (c.new-path.ensures ∙ ap₂ (λ s e. at_rest s e []) c.path_search-settings.ensures.settings c.path_search-settings.ensures.explores)
