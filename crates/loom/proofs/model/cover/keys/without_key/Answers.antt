use Rattle.std.proofs.Common.{ap, sym, ◌∙◌}
use Rattle.serde_json.specs.Data.{object}
use Rattle.serde_json.specs.View.{view, members_view}
use Rattle.serde_json.proofs.Views.{view-Object}
use Rattle.loom.specs.Model.CoverText.{without_key}
use Rattle.loom.proofs.ModelLemmas.CoverTexts.{entry_out}
use Rattle.loom.proofs.model.cover.keys.without_key.Goals as goal

pub returns-in-Object : goal.returns-in-Object
returns-in-Object c =
    view-Object c.remove.new.self ∙ ap (λ es. object (members_view es)) c.remove.ensures.entries ∙ ap object (entry_out c.args.key.now c.in-Object.members.entries)
    ∙ ap (without_key c.args.key.now) (sym (ap view c.in-Object.is ∙ view-Object c.in-Object.members))
