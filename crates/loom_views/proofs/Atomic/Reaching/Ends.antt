-- The end of a read that doesn't reach a later write, by computation over the definitions.
use Rattle.std.proofs.Common.{refl}
use Rattle.loom_views.specs.Graph.{reaches, raised, inside}
use Rattle.loom_views.specs.AccessRecords.{races}
use Rattle.loom_views.specs.Laws.Ends.{beside_an_end, EndLaw}

pub end_law : EndLaw
unfolding beside_an_end races inside reaches raised
end_law = record { reads = refl; present = refl; raising = refl; reaching = refl; contained = refl; passes = refl }
