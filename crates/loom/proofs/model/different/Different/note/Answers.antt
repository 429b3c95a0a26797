use Rattle.std.proofs.Common.{refl}
use Rattle.loom.proofs.ModelLemmas.Noting.{noted_by, unsaid}
use Rattle.loom.proofs.model.different.Different.note.Goals as goal

pub returns-in-Ok : goal.returns-in-Ok
returns-in-Ok c = rw (← c.self.view_is) (noted_by c.self.inside.hashes c.insert.new.self c.args.hash c.self.inside.is_left_out c.in-Ok.ensures.updates)

pub returns-in-Err : goal.returns-in-Err
returns-in-Err c = unsaid _ _ _ refl
