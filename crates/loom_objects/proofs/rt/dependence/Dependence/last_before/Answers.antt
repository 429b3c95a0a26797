use Rattle.std.proofs.Common.{◌≡◌, None, refl, sym, ap, ◌∙◌, arith}
use Rattle.std.proofs.lemmas.List.{get_or_past}
use Rattle.std.proofs.lemmas.Option.{get_or_from_slice_get}
use Rattle.loom_objects.specs.declared.rt.dependence.Action.{Action}
use Rattle.loom_objects.specs.declared.rt.dependence.Action.TheVariants.{Read, Change, Increment, Decrement, Inspect, Send, Receive, Other}
use Rattle.loom_objects.specs.Dependence.Shown.{nothing, slot_of}
use Rattle.loom_objects.proofs.rt.dependence.Dependence.last_before.Goals as goal

none-kept : (action : Action) → None ≡ slot_of action nothing
none-kept Read = refl
none-kept Change = refl
none-kept Increment = refl
none-kept Decrement = refl
none-kept Inspect = refl
none-kept Send = refl
none-kept Receive = refl
none-kept Other = refl

pub returns-then-used-len : goal.returns-then-used-len
returns-then-used-len c = c.last_before.ensures ∙ ap (slot_of c.args.used.action) (sym (get_or_from_slice_get c.args.self.now.last c.args.used.object c.at.result.now nothing c.at.ensures))

pub returns-else-used-len : goal.returns-else-used-len
returns-else-used-len c = none-kept c.args.used.action ∙ ap (slot_of c.args.used.action) (sym (get_or_past c.args.self.now.last c.args.used.object nothing (omega (arith, c.len.ensures, c.if-used-len.false))))
