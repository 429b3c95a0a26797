use Rattle.std.proofs.Common.{◌<◌, ◌∙◌, arith}
use Rattle.loom.proofs.RunnerLemmas.Made.{first_stays}
use Rattle.loom.proofs.runner.run.put_in_order.Goals as goal

pub loop-k-preserved : goal.loop-k-preserved
loop-k-preserved g c =
    let from : 0 < c.loop-k.k = omega arith in
    let place : 0 < c.place_of-place.result = omega (arith, c.place_of-place.ensures.from) in (
      first_stays _ _ c.loop-k.k c.place_of-place.result c.swap.ensures.items c.swap.ensures.by_index from place ∙ c.loop-k.invariant.0,
      c.swap.ensures.len ∙ c.loop-k.invariant.1,
    )
