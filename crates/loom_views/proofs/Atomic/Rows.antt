-- What may be read in small histories, by computation.
use Rattle.std.proofs.Common.{refl}
use Rattle.loom_views.specs.Graph.{reaches, raised, version, counts, inside}
use Rattle.loom_views.specs.Atomic.Slots.{number_in_slot}
use Rattle.loom_views.specs.AccessRecords.{races}
use Rattle.loom_views.specs.Atomic.History.{is_seen, is_below, has_same_order, drops}
use Rattle.loom_views.specs.Laws.Examples.{start, main, after, value_of, made, stored, two, seven, child, parent, beside, ExampleLaw}

pub examples : ExampleLaw
unfolding start main after value_of made stored two seven child parent beside races inside reaches raised version counts drops is_below is_seen has_same_order number_in_slot
examples = record {
  newest_of_two = refl;
  newest_of_seven = refl;
  value_of_seven = refl;
  either_store = refl;
  no_equal_orders = refl;
  update_reads_newest = refl;
}
