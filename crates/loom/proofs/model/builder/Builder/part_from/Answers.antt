use Rattle.std.proofs.Common.{Bool, sym, ◌∙◌}
use Rattle.loom_engine.specs.Parts.Texts.Accepted.{IsPartOf, IsRefusedPart}
use Rattle.loom_engine.specs.Path.Route.{settings}
use Rattle.loom_engine.specs.Trees.Meeting.{Settings}
use Rattle.loom_engine.specs.Checkpoint.Accepted.{OfText}
use Rattle.loom_engine.proofs.Parts.Texts.Listed.{refused-no_part}
use Rattle.loom.specs.Model.Settings.{explores, search_of}
use Rattle.loom.proofs.ModelLemmas.CoverPartTexts.{at_search, memory_of}
use Rattle.loom.proofs.ModelLemmas.PartTexts.{refused_none}
use Rattle.loom.proofs.model.builder.Builder.part_from.Goals as goal

pub returns-in-Err-clause-exact : goal.returns-in-Err-clause-exact
returns-in-Err-clause-exact c = λ fine never part of.
    let asked = c.search_settings.result in
    refused_none (IsRefusedPart (settings asked) asked.explores) (λ d. IsPartOf (settings asked) asked.explores d part) c.args.text.now
    (λ d e why other q. refused-no_part (settings asked) asked.explores d e why other part q) c.in-Err.why c.in-Err.ensures.err
    (λ is. never (c.refusal_of.ensures ∙ memory_of c.in-Err.why is))
    (at_search (λ (s : Settings) (x : Bool). OfText c.args.text.now (λ d. IsPartOf s x d part)) (search_of c.args.self.now) (settings asked) (explores c.args.self.now) asked.explores (sym c.search_settings.ensures.settings)
    (sym c.search_settings.ensures.explores) of)
