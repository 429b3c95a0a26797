use Rattle.loom.proofs.runner.recorded.recording.Recording.find.Given as goal

abbrev pub invariant-loop : goal.invariant-loop
invariant-loop g l = Unit {0}
