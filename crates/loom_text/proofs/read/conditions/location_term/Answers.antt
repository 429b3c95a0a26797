use Rattle.std.proofs.Common.{◌≡◌, ◌∙◌, Some, None, subst, sym, arith}
use Rattle.std.proofs.lemmas.Grind.{common_steps}
use Rattle.std.proofs.lemmas.Option.{gets}
use Rattle.std.specs.List.{slice_get}
use Rattle.loom_text.specs.declared.test.Term.{Term}
use Rattle.loom_text.specs.Named.{IsTermOf, location_named}
use Rattle.loom_text.proofs.ReadingSteps.{stops_none}
use Rattle.loom_text.proofs.TermSteps.{looked_up_location, no_location}
use Rattle.loom_text.proofs.read.conditions.location_term.Goals as goal

pub returns-in_default-clause-read : goal.returns-in_default-clause-read
returns-in_default-clause-read c =
    let none : location_named c.args.names.locations.now c.args.name.spelling.now ≡ None = grind (arith, c.location_named.ensures.named, c.in_default.is) in
    stops_none c.at.result _ (no_location c.args.names.locations.now c.args.name.spelling.now none)

pub returns-in-None-clause-read : goal.returns-in-None-clause-read
returns-in-None-clause-read c =
    let locations = c.args.names.locations.now in
    let there : slice_get locations c.in-Some.number ≡ Some c.in-Some-get.found.now = grind (arith, common_steps, gets, c.in-Some-get.ensures.lookup, c.in-Some-get.found-is) in
    stops_none c.at-in-None.result _ (looked_up_location locations c.args.name.spelling.now c.in-Some.number c.in-Some-get.found.now (sym c.in-Some.ensures.named) there ∙ sym c.in-None.ensures.read)

pub returns-in-Some-value_term-clause-named : goal.returns-in-Some-value_term-clause-named
returns-in-Some-value_term-clause-named c =
    let locations = c.args.names.locations.now in
    let there : slice_get locations c.in-Some.number ≡ Some c.in-Some-get.found.now = grind (arith, common_steps, gets, c.in-Some-get.ensures.lookup, c.in-Some-get.found-is) in
    let is = c.in-Some-value_term.ensures.named in
    subst (λ (t : Term). IsTermOf locations c.args.names.threads.now t) (sym is.0) (rw there is.1)

pub returns-in-Some-value_term-clause-read : goal.returns-in-Some-value_term-clause-read
returns-in-Some-value_term-clause-read c =
    let locations = c.args.names.locations.now in
    let there : slice_get locations c.in-Some.number ≡ Some c.in-Some-get.found.now = grind (arith, common_steps, gets, c.in-Some-get.ensures.lookup, c.in-Some-get.found-is) in
    looked_up_location locations c.args.name.spelling.now c.in-Some.number c.in-Some-get.found.now (sym c.in-Some.ensures.named) there ∙ sym c.in-Some-value_term.ensures.read
