use Rattle.std.proofs.Common.{◌≡◌, Some, sym, arith}
use Rattle.std.proofs.lemmas.Option.{gets}
use Rattle.std.specs.List.{slice_get}
use Rattle.loom_text.specs.Named.{location_named}
use Rattle.loom_text.proofs.KnownLemmas.{is_parameter, not_passed}
use Rattle.loom_text.proofs.read.scope.Scope.parameter_of.Goals as goal

pub returns-then-contains : goal.returns-then-contains
returns-then-contains c =
    let scope = c.args.self.now in
    let named : location_named scope.locations.now c.args.token.spelling.now ≡ Some c.in_ok-number.number = sym c.in_ok-number.ensures.named in
    let there : slice_get scope.locations.now c.in_ok-number.number ≡ Some c.in_ok-location.location.now = grind (arith, gets, c.in_ok-location.ensures.lookup, c.in_ok-location.location-is) in
    sym (is_parameter scope.locations.now scope.parameters.now c.args.token.spelling.now scope.locations_differ c.in_ok-number.number c.in_ok-location.location.now named there (sym c.if-contains.ensures.value))

pub returns-else-contains : goal.returns-else-contains
returns-else-contains c =
    let scope = c.args.self.now in
    let named : location_named scope.locations.now c.args.token.spelling.now ≡ Some c.in_ok-number.number = sym c.in_ok-number.ensures.named in
    sym (not_passed scope.locations.now scope.parameters.now c.args.token.spelling.now scope.locations_differ c.in_ok-number.number named (sym c.if-contains.ensures.value))
