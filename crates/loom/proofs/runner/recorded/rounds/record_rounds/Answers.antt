use Rattle.std.proofs.Common.{◌∙◌, arith}
use Rattle.std.specs.Fn.{CalledAtMut}
use Rattle.loom.proofs.Closures.Erring.{counted_begin, counted_save, made_error, no_fault}
use Rattle.loom.proofs.ModelLemmas.Checking.{reached_stops}
use Rattle.loom.proofs.ModelLemmas.Errors.{uncounted}
use Rattle.loom.proofs.RunnerLemmas.Rounds.{recorded_ends, recorded_fails, recorded_on, recorded_start, recorded_starts, recorded_stops}
use Rattle.loom.proofs.runner.recorded.rounds.record_rounds.Goals as goal

pub loop-limit-init : goal.loop-limit-init
loop-limit-init g c = record {
  callable = c.requires.callable;
  interval = c.new-pace.ensures.interval;
  within = omega (arith, c.new-pace.ensures.runs);
  limits = c.requires.limits;
  locations = c.requires.locations;
  recorded = rw c.new-pace.ensures.runs
      (recorded_start (CalledAtMut g.F.FnMut) g.V.Visitor.takes c.args.builder.now (g.S.CheckpointStore.gives c.args.store.now) c.args.closure.now c.args.visitor.now (g.S.CheckpointStore.holds c.begin.new.store) c.args.recorder.now.recording c.in_ok-path.path c.new-pace.result.until_save (omega (arith, c.new-pace.ensures.until)) c.in_ok-path.ensures.begun c.requires.fresh);
  faultless = uncounted c.begin.result c.in_ok-path.path _ _ c.in_ok-path.was c.begin.ensures.faults;
}

pub stop-requires-clause-rests : goal.stop-requires-clause-rests
stop-requires-clause-rests g c = c.loop-limit.invariant.recorded.fine.well.rest

pub stop-requires-clause-defaults : goal.stop-requires-clause-defaults
stop-requires-clause-defaults g c = c.loop-limit.invariant.recorded.fine.well.defaults

pub keep-requires-clause-rests : goal.keep-requires-clause-rests
keep-requires-clause-rests g c = c.loop-limit.invariant.recorded.fine.well.rest

pub keep-requires-clause-defaults : goal.keep-requires-clause-defaults
keep-requires-clause-defaults g c = c.loop-limit.invariant.recorded.fine.well.defaults

pub make_round-requires-clause-starts : goal.make_round-requires-clause-starts
make_round-requires-clause-starts g c κs lives = let z = c.loop-limit.invariant in recorded_starts (CalledAtMut g.F.FnMut) g.V.Visitor.takes c.args.builder.now (g.S.CheckpointStore.gives c.args.store.now) c.args.closure.now c.args.visitor.now (g.S.CheckpointStore.holds c.loop-limit.store) c.loop-limit.closure c.loop-limit.visitor c.loop-limit.recorder.recording c.loop-limit.path c.loop-limit.pace.runs c.loop-limit.pace.until_save z.recorded

pub loop-limit-preserved : goal.loop-limit-preserved
loop-limit-preserved g c =
    let z = c.loop-limit.invariant in
    let kept = rw z.interval at c.in_ok-left.ensures.kept in
    let makes = rw c.in-Next.is at c.in_ok-round.ensures.makes in
    record {
      callable = c.make_round.ensures.again;
      interval = z.interval;
      within = omega (arith, c.in_default.ensures.reached);
      limits = c.make_round.ensures.limits ∙ z.limits;
      locations = c.make_round.ensures.locations ∙ z.locations;
      recorded = recorded_on (CalledAtMut g.F.FnMut) g.V.Visitor.takes c.args.builder.now (g.S.CheckpointStore.gives c.args.store.now) c.args.closure.now c.args.visitor.now (g.S.CheckpointStore.holds c.loop-limit.store) c.loop-limit.closure c.loop-limit.visitor c.loop-limit.recorder.recording c.loop-limit.path c.loop-limit.pace.runs c.loop-limit.pace.until_save z.recorded (g.S.CheckpointStore.holds c.keep.new.store) c.in_ok-left.left kept c.loop-limit.recorder.limits c.loop-limit.recorder.keeps_locations z.limits z.locations c.make_round.new.closure c.make_round.new.visitor c.make_round.new.path c.make_round.new.self.recording makes (c.in_ok-round.ensures.goes c.in-Next.is);
      faultless = c.in_ok-left.ensures.faults ∙ z.faultless;
    }

pub returns-in-Some-clause-reports : goal.returns-in-Some-clause-reports
returns-in-Some-clause-reports g c =
    let z = c.loop-limit.invariant in
    let answered = g.C.Clock.answered c.reached.new.clock in
    let stopped = c.in_ok-stop.ensures.stopped in
    rw stopped.2
    (recorded_stops (CalledAtMut g.F.FnMut) g.V.Visitor.takes c.args.builder.now (g.S.CheckpointStore.gives c.args.store.now) c.args.closure.now c.args.visitor.now (g.S.CheckpointStore.holds c.loop-limit.store) c.loop-limit.closure c.loop-limit.visitor c.loop-limit.recorder.recording c.loop-limit.path c.loop-limit.pace.runs c.loop-limit.pace.until_save z.recorded answered (g.S.CheckpointStore.holds c.stop.new.store) c.in-Some.limit stopped.0 stopped.1
    (reached_stops answered c.args.builder.now c.loop-limit.pace.runs c.in-Some.limit stopped.0 z.within c.in-Some.ensures.reached))

pub returns-in-Last-clause-reports : goal.returns-in-Last-clause-reports
returns-in-Last-clause-reports g c =
    let z = c.loop-limit.invariant in
    let kept = rw z.interval at c.in_ok-left.ensures.kept in
    let makes = rw c.in-Last.is at c.in_ok-round.ensures.makes in
    rw c.complete.ensures
    (recorded_ends (CalledAtMut g.F.FnMut) g.V.Visitor.takes c.args.builder.now (g.S.CheckpointStore.gives c.args.store.now) c.args.closure.now c.args.visitor.now (g.S.CheckpointStore.holds c.loop-limit.store) c.loop-limit.closure c.loop-limit.visitor c.loop-limit.recorder.recording c.loop-limit.path c.loop-limit.pace.runs c.loop-limit.pace.until_save z.recorded (g.S.CheckpointStore.holds c.keep.new.store) c.in_ok-left.left kept c.loop-limit.recorder.limits c.loop-limit.recorder.keeps_locations z.limits z.locations c.make_round.new.closure c.make_round.new.visitor c.make_round.new.path c.make_round.new.self.recording (g.C.Clock.answered c.reached.new.clock) c.in_default.ensures.reached makes)

pub returns-in-Failed-clause-reports : goal.returns-in-Failed-clause-reports
returns-in-Failed-clause-reports g c =
    let z = c.loop-limit.invariant in
    let kept = rw z.interval at c.in_ok-left.ensures.kept in
    let makes = rw c.in-Failed.is at c.in_ok-round.ensures.makes in
    recorded_fails (CalledAtMut g.F.FnMut) g.V.Visitor.takes c.args.builder.now (g.S.CheckpointStore.gives c.args.store.now) c.args.closure.now c.args.visitor.now (g.S.CheckpointStore.holds c.loop-limit.store) c.loop-limit.closure c.loop-limit.visitor c.loop-limit.recorder.recording c.loop-limit.path c.loop-limit.pace.runs c.loop-limit.pace.until_save z.recorded (g.S.CheckpointStore.holds c.keep.new.store) c.in_ok-left.left kept c.loop-limit.recorder.limits c.loop-limit.recorder.keeps_locations z.limits z.locations c.make_round.new.closure c.make_round.new.visitor c.make_round.new.path c.make_round.new.self.recording (g.C.Clock.answered c.reached.new.clock) c.in_default.ensures.reached c.in-Failed.failure c.in-Failed.choices makes

-- ---- errors

pub returns-in_err-path-clause-faults : goal.returns-in_err-path-clause-faults
returns-in_err-path-clause-faults g c = counted_begin c.begin.result c.from_residual.result c.in_err-path.field-0.0 _ _ c.in_err-path.was c.from_residual.ensures.1 c.begin.ensures.faults

pub returns-in_err-stop-clause-faults : goal.returns-in_err-stop-clause-faults
returns-in_err-stop-clause-faults g c =
    counted_save c.from_residual-in_err-stop.result c.in_err-stop.field-0.0 _ _ _ c.loop-limit.invariant.faultless c.in_err-stop.ensures.faults c.from_residual-in_err-stop.ensures.1

pub returns-in_err-left-clause-faults : goal.returns-in_err-left-clause-faults
returns-in_err-left-clause-faults g c =
    counted_save c.from_residual-in_err-left.result c.in_err-left.field-0.0 _ _ _ c.loop-limit.invariant.faultless c.in_err-left.ensures.faults c.from_residual-in_err-left.ensures.1

pub returns-in_err-round-clause-faults : goal.returns-in_err-round-clause-faults
returns-in_err-round-clause-faults g c =
    no_fault c.from_residual-in_err-round.result c.in_err-round.field-0.0 _ _ (made_error c.from_residual-in_err-round.result c.in_err-round.field-0.0 c.from_residual-in_err-round.ensures.1) (c.in_err-round.ensures.errors _)
    (c.in_ok-left.ensures.faults ∙ c.loop-limit.invariant.faultless)
