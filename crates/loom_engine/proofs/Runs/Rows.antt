-- The outcomes of the runs of small bodies.
use Rattle.std.proofs.Common.{refl}
use native.Mathlib.Decide.{ℕ_discrete}
use Rattle.loom_views.specs.AccessRecords.{races}
use Rattle.loom_views.specs.Atomic.History.{drops, is_below, is_seen, has_same_order}
use Rattle.loom_views.specs.Graph.{raised, reaches, inside}
use Rattle.loom_views.specs.Atomic.Slots.{number_in_slot}
use Rattle.loom_engine.specs.Runs.Machine.{schedule}
use Rattle.loom_engine.specs.Runs.Body.{play}
use Rattle.loom_engine.specs.Walk.Choices.{same, same_thread, same_flag, among}
use Rattle.loom_engine.specs.Runs.Examples.{RowsLaw, SharedRowsLaw}

pub rows_law : RowsLaw
unfolding play schedule raised same same_thread same_flag among ℕ_discrete
rows_law = record {
  main_first = refl;
  child_first = refl;
  child_begins = refl;
  cut_short = refl;
  not_an_option = refl;
  few_branches = refl;
  few_steps = refl;
  deadlock = refl;
  in_turn = refl;
}

pub shared_rows_law : SharedRowsLaw
unfolding play schedule raised reaches inside drops is_below is_seen has_same_order races number_in_slot same same_thread same_flag among ℕ_discrete
shared_rows_law = record {
  reads_first = refl;
  reads_first_late = refl;
  reads_second = refl;
  none_to_read = refl;
  joined = refl;
  not_yet = refl;
  read_after = refl;
  not_missed = refl;
  twice = refl;
}
