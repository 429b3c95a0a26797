use Rattle.std.proofs.Common.{refl, rules}
use Rattle.std.proofs.lemmas.Str.{IsUtf8-string_bytes}
use Rattle.loom_engine.specs.Path.Route.{stored}
use Rattle.loom_engine.specs.Checkpoint.Grammar.{path_data}
use Rattle.loom.proofs.Saving.Resting.{all_resting}
use Rattle.loom.proofs.model.saving.save.Goals as goal

pub returns-clause-saved : goal.returns-clause-saved
returns-clause-saved g c =
    let p = c.args.path.now in
    record {
      held = search rules;
      reads = (
        IsUtf8-string_bytes c.in-Ok.text,
        (
          path_data p.search p.explores p.nodes,
          rw c.in-Ok.is at c.to_text.ensures.reads_back,
          record { value = refl; fits = c.words-words.ensures.fits; well_formed = c.well_formed_rests.ensures.1 (all_resting (stored p.nodes) c.requires.rests c.requires.defaults) },
        ),
      );
      compact = rw c.in-Ok.is at c.to_text.ensures.text;
    }

pub returns-clause-faults : goal.returns-clause-faults
returns-clause-faults g c = c.in_ok-save.ensures.faults
