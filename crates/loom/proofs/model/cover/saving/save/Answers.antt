use Rattle.std.proofs.Common.{rules, string_bytes}
use Rattle.loom.proofs.model.cover.saving.save.Goals as goal

pub returns-clause-saved : goal.returns-clause-saved
returns-clause-saved g c = (
  string_bytes c.in-Ok.text,
  record {
    held = search rules;
    compact = rw c.in-Ok.is at c.to_text.ensures.text;
    reads = λ rests. (rw c.in-Ok.is at c.to_text.ensures.reads) (c.well_formed_rests.ensures.1 rests);
  },
)
