use Rattle.std.proofs.Common.{◌≡◌, ◌∙◌, ap, sym, ℕ, Option, Some, None, arith}
use Rattle.std.proofs.lemmas.Grind.{common_steps}
use Rattle.std.proofs.lemmas.Option.{gets}
use Rattle.std.specs.List.{slice_get}
use Rattle.loom_text.specs.Named.{register_named}
use Rattle.loom_text.specs.declared.test.Term.{Term}
use Rattle.loom_text.specs.declared.test.Term.TheVariants as terms
use Rattle.loom_text.proofs.ReadingSteps.{stops_none}
use Rattle.loom_text.proofs.TermSteps.{is_register, no_register}
use Rattle.loom_text.proofs.read.conditions.register_term.Goals as goal

pub returns-in-None-clause-read : goal.returns-in-None-clause-read
returns-in-None-clause-read c =
    let there : slice_get c.args.names.threads.now c.args.number ≡ Some c.in-Some.found.now = grind (arith, common_steps, gets, c.try_from.ensures, c.in-Ok.ensures, c.in-Some.ensures.lookup, c.in-Some.found-is) in
    let none : register_named c.in-Some.found.now.registers.items c.args.name.spelling.now ≡ None = sym (rw c.deref.ensures.value at c.in-None.ensures.named) in
    stops_none c.at-in-None.result _ (no_register c.args.names.threads.now c.args.number c.args.name.spelling.now c.in-Some.found.now there none)

pub returns-in-Some-register_named-clause-read : goal.returns-in-Some-register_named-clause-read
returns-in-Some-register_named-clause-read c =
    let there : slice_get c.args.names.threads.now c.args.number ≡ Some c.in-Some.found.now = grind (arith, common_steps, gets, c.try_from.ensures, c.in-Ok.ensures, c.in-Some.ensures.lookup, c.in-Some.found-is) in
    let named : register_named c.in-Some.found.now.registers.items c.args.name.spelling.now ≡ Some c.in-Some-register_named.register = sym (rw c.deref.ensures.value at c.in-Some-register_named.ensures.named) in
    let same : c.args.number ≡ c.in-Ok.thread = grind (arith, c.try_from.ensures, c.in-Ok.ensures) in
    let made : ℕ → Option Term = λ n. Some (terms.Register n c.in-Some-register_named.register) in
    is_register c.args.names.threads.now c.args.number c.args.name.spelling.now c.in-Some.found.now there c.in-Some-register_named.register named ∙ ap made same
