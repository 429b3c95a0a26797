-- A thread that is changed where it stands.
use Rattle.std.proofs.Common.{◌≡◌, ℕ}
use Rattle.std.proofs.lemmas.Option.{slice_get_within}
use Rattle.std.specs.Prelude.{List, slice_get, Some}
use Rattle.loom_views.proofs.Atomic.Table.Lists.{get-set_same}
use Rattle.loom_objects.specs.declared.rt.thread.Thread.{Thread}
use Rattle.loom_objects.specs.Rules.Moves.{with_thread}

pub changed_there : {D : Type 0} (change : Thread D → Thread D) (t : ℕ) (threads : List (Thread D)) (thread : Thread D) → slice_get threads t ≡ Some thread
    → slice_get (with_thread change t threads) t ≡ Some (change thread)
changed_there change t threads thread there = rw there (get-set_same threads t (change thread) (slice_get_within threads t thread there))
