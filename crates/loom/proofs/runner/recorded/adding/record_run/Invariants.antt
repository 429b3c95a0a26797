use Rattle.std.proofs.Common.{◌≤◌, List, length}
use Rattle.loom.specs.Runner.Recorded.{Does, Function, IsDone, Word}
use Rattle.loom.specs.Runner.Recording.{AreAt, IsTrueOf}
use Rattle.loom.proofs.runner.recorded.adding.record_run.Given as goal

-- a function of which the recording was true, and that does what is done in the run, does the rest of it, and the recording is true of it
abbrev pub invariant-loop-event : goal.invariant-loop-event
invariant-loop-event g l = record {
  within : length l.rest ≤ length l.events;
  recorded : (does : Function _) (words : List (Word _)) → IsTrueOf does words l.fn.recording → IsDone does l.events
      → (more : List (Word _)) × (told : List (Word _)) × IsTrueOf does more l.recording × AreAt more l.places.items told × Does does l.rest told l.thread l.reply;
}

abbrev pub decreases-loop-event : goal.decreases-loop-event
decreases-loop-event g l = length l.rest
