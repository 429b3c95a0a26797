use Rattle.std.proofs.Common.{◌∙◌, ap, sym}
use Rattle.loom_objects.specs.Rules.Locals.{value_of}
use Rattle.loom_objects.proofs.Scene.Keyed.{none_there, there_found, there_put, there_within}
use Rattle.loom_objects.proofs.rt.scene.values.put_in.Goals as goal

pub returns-in_err-place-clause-old : goal.returns-in_err-place-clause-old
returns-in_err-place-clause-old g c = c.from_residual.ensures ∙ sym (ap value_of (none_there c.args.key c.args.value c.args.locals.now c.in_err-place.ensures).0)

pub returns-in_err-place-clause-new : goal.returns-in_err-place-clause-new
returns-in_err-place-clause-new g c = sym (none_there c.args.key c.args.value c.args.locals.now c.in_err-place.ensures).1

pub at_mut-requires : goal.at_mut-requires
at_mut-requires g c = there_within c.args.key c.args.value c.args.locals.now c.in_ok-place.place c.in_ok-place.ensures

pub returns-clause-old : goal.returns-clause-old
returns-clause-old g c = rw (there_found c.args.key c.args.value c.args.locals.now c.in_ok-place.place c.in_ok-place.ensures c.at_mut.result.now c.at_mut.ensures.value) (cc c.replace.ensures.value)

pub returns-clause-new : goal.returns-clause-new
returns-clause-new g c = rw c.replace.ensures.after (there_put c.args.key c.args.value c.args.locals.now c.in_ok-place.place c.in_ok-place.ensures c.at_mut.result.now c.at_mut.ensures.value)
