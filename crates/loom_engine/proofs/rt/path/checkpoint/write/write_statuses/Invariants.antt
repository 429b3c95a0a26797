use Rattle.std.proofs.Common.{◌≡◌, map, take}
use Rattle.serde_json.specs.View.{view}
use Rattle.loom_engine.specs.Checkpoint.Grammar.{status_data}
use Rattle.loom_engine.proofs.rt.path.checkpoint.write.write_statuses.Given as goal

abbrev pub invariant-loop-status : goal.invariant-loop-status
invariant-loop-status l = map view l.items.items ≡ map status_data (take l.status-index l.statuses)
