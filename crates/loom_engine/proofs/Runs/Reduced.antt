-- The runs that a reduced search makes of small bodies.
use Rattle.std.proofs.Common.{refl}
use native.Mathlib.Decide.{ℕ_discrete}
use Rattle.loom_views.specs.AccessRecords.{races}
use Rattle.loom_views.specs.Atomic.History.{drops, is_below, is_seen, has_same_order}
use Rattle.loom_views.specs.Graph.{raised, reaches, inside, past}
use Rattle.loom_views.specs.Atomic.Slots.{number_in_slot}
use Rattle.loom_objects.specs.Dependence.Order.{comes_before}
use Rattle.loom_engine.specs.Trees.Comparing.{same_made, same_ability, same_choices, same_offers}
use Rattle.loom_engine.specs.Walk.Choices.{same, same_thread, same_flag, among}
use Rattle.loom_engine.specs.Walk.Path.{step}
use Rattle.loom_engine.specs.Runs.Machine.{schedule}
use Rattle.loom_engine.specs.Runs.ReducedExamples.{ReducedRowsLaw}
use Rattle.loom_engine.specs.Runs.Body.{play}

pub reduced_rows_law : ReducedRowsLaw
unfolding play schedule step raised reaches inside past comes_before drops is_below is_seen has_same_order races number_in_slot same same_thread same_flag among ℕ_discrete same_made same_ability same_choices same_offers
reduced_rows_law = record {
  nothing_shared = refl;
  nothing_shared_whole = refl;
  stores = refl;
  stores_at_0 = refl;
  stores_at_1 = refl;
  loads = refl;
  parent_first = refl;
  parked = refl;
  yielded = refl;
  places = refl;
  places_at_1 = refl;
  places_at_2 = refl;
  drops = refl;
  all_drops = refl;
  counts = refl;
  three = refl;
  three_at_1 = refl;
  three_at_2 = refl;
  joined = refl;
  joined_at_1 = refl;
}
