use Rattle.std.proofs.Common.{◌≡◌, ◌<◌, length, None, Some, refl, subst}
use Rattle.loom_engine.specs.Covering.Between.{IsFirstLost}
use Rattle.loom.proofs.model.cover.told.Goals as goal

pub returns-in-None : goal.returns-in-None
returns-in-None c = (refl, subst (λ n. IsFirstLost c.args.ways.now.ways n None) c.len-states.ensures (rw c.in-None.is at c.in_ok-first_lost.ensures))

pub choices-requires : goal.choices-requires
choices-requires c =
    let first : IsFirstLost c.args.ways.now.ways c.len-states.result (Some c.in-Some.lost) = rw c.in-Some.is at c.in_ok-first_lost.ensures in
    subst (λ n. c.in-Some.lost < n) c.len-states.ensures first.0

pub returns-in_ok-choices-in-Some : goal.returns-in_ok-choices-in-Some
returns-in_ok-choices-in-Some c =
    let first : IsFirstLost c.args.ways.now.ways c.len-states.result (Some c.in-Some.lost) = rw c.in-Some.is at c.in_ok-first_lost.ensures in
    (refl, c.in-Some.lost, subst (λ n. IsFirstLost c.args.ways.now.ways n (Some c.in-Some.lost)) c.len-states.ensures first, c.in_ok-choices-in-Some.ensures)
