use Rattle.std.proofs.Common.{arith}
use Rattle.std.proofs.lemmas.List.{get_or-set_same, get_or-set_other}
use Rattle.std.proofs.lemmas.Option.{get_or_from_slice_get}
use Rattle.loom_objects.specs.Dependence.Shown.{nothing}
use Rattle.loom_objects.proofs.rt.dependence.Dependence.note.Goals as goal

pub returns-then-used-len-clause-others : goal.returns-then-used-len-clause-others
returns-then-used-len-clause-others c = λ n h. get_or-set_other c.args.self.now.last c.args.used.object n c.note.new.self nothing h

pub returns-then-used-len-clause-noted : goal.returns-then-used-len-clause-noted
returns-then-used-len-clause-noted c = λ l asked. rw (get_or-set_same c.args.self.now.last c.args.used.object c.note.new.self nothing l, get_or_from_slice_get c.args.self.now.last c.args.used.object c.at_mut.result.now nothing c.at_mut.ensures.value) (c.note.ensures asked)

pub returns-else-used-len-clause-noted : goal.returns-else-used-len-clause-noted
returns-else-used-len-clause-noted c = λ l asked. absurd (omega (arith, l, c.len.ensures, c.if-used-len.false))
