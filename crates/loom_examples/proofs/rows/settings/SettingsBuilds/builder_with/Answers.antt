use Rattle.std.proofs.Common.{Some, ap, ◌∙◌}
use Rattle.loom.specs.declared.model.builder.Builder.{Builder}
use Rattle.loom_examples.proofs.rows.settings.SettingsBuilds.builder_with.Goals as goal
use Rattle.loom_examples.proofs.rows.settings.SettingsBuilds.builder_with.Goals.{in-Some+in_ok-checkpoint_file, in_default}

pub returns : goal.returns
returns c = elim c.match-file.branch [
  | in-Some+in_ok-checkpoint_file w ↦
      (let named = w.in_ok-checkpoint_file.ensures.named in
      rw w.in-Some.is (named.0, named.1, w.builder-is ∙ (named.2 ∙ ap (λ (b : Builder). record b { checkpoint_file = Some named.0 }) c.builder-builder.ensures)))
  | in_default w ↦ rw w.in_default.is (w.builder-is ∙ c.builder-builder.ensures)
]
