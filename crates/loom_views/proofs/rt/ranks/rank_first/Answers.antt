use Rattle.std.proofs.Common.{arith, refl, ℕ}
use Rattle.std.proofs.lemmas.List.{length-set}
use Rattle.loom_views.proofs.Ranks.{first_next, none_first}
use Rattle.loom_views.proofs.rt.ranks.rank_first.Goals as goal

pub loop-count-init : goal.loop-count-init
loop-count-init c =
    let none = none_first 0 c.next_standing-count.result in
    rw c.requires.none (record { size = refl; few = omega arith; rising = none.0; below = none.1; before = none.2 })

pub loop-count-preserved : goal.loop-count-preserved
loop-count-preserved c =
    let h = c.loop-count.invariant in
    let at = c.loop-count in
    let more = first_next at.ranks _ at.count at.next c.next_standing-count-in-loop-count.result (omega arith) (omega arith) refl c.next_standing-count-in-loop-count.ensures h.rising h.below h.before in
    record { size = omega (arith, length-set {A = ℕ}); few = omega arith; rising = more.0; below = more.1; before = more.2 }
