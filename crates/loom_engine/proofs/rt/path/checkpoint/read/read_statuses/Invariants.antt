use Rattle.std.proofs.Common.{◌≡◌, ℕ, ◌<◌, length, get_or, Some}
use Rattle.loom_engine.specs.declared.rt.path.node.Status.{Status}
use Rattle.serde_json.specs.declared.value.Value.{Value}
use Rattle.serde_json.specs.View.{view}
use Rattle.loom_engine.specs.Checkpoint.Reader.{status_of}
use Rattle.loom_engine.proofs.rt.path.checkpoint.read.read_statuses.Given as goal

abbrev pub invariant-loop-thread : goal.invariant-loop-thread
invariant-loop-thread l = record {
  five : length l.statuses ≡ 5;
  done : (k : ℕ) (v : Value) (s : Status) → k < l.thread → status_of (view (get_or l.items.items k v)) ≡ Some (get_or l.statuses k s);
}
