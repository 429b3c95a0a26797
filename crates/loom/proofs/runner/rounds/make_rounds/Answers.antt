use Rattle.std.proofs.Common.{◌∙◌, ◌+◌, None, Some, ap, inl, inr, refl, arith}
use Rattle.std.specs.Fn.{CalledAtMut}
use Rattle.loom.specs.Model.Stores.{HasRisen}
use Rattle.loom.specs.declared.runner.run_end.RunEnd.TheVariants.{Ended}
use Rattle.loom.specs.Runner.Check.{limits_of}
use Rattle.loom.specs.Runner.Errors.{of_check}
use Rattle.loom.specs.Model.Refusals.{of_store}
use Rattle.loom.proofs.Closures.Alike.{completes_alike, fails_alike, goes_on_alike, has_changed, no_change, no_end, none_yet, other_error, are_alike}
use Rattle.loom.proofs.Closures.Erring.{counted_begin, counted_save, no_beginning, no_save}
use Rattle.loom.proofs.Closures.Refusing.{breaks_off, handed_on, not_saved, run_faultless}
use Rattle.loom.proofs.Closures.Reporting.{checking_kept, checking_left, checking_start, checking_starts, checking_stops, checking_well, round_on, round_ends, round_fails}
use Rattle.loom.proofs.ModelLemmas.Checking.{reached_stops}
use Rattle.loom.proofs.ModelLemmas.Errors.{on_error, uncounted}
use Rattle.loom.proofs.runner.rounds.make_rounds.Goals as goal

pub loop-limit-init : goal.loop-limit-init
loop-limit-init g c = record {
  callable = c.requires.callable;
  most = 0;
  few = omega (arith, c.new-pace.ensures.until);
  interval = c.new-pace.ensures.interval;
  within = omega (arith, c.new-pace.ensures.runs);
  checking = rw c.new-pace.ensures.runs
      (checking_start (CalledAtMut g.F.FnMut) g.V.Visitor.takes c.args.builder.now (g.S.CheckpointStore.gives c.args.store.now) c.args.closure.now c.args.visitor.now (g.S.CheckpointStore.holds c.begin.new.store) c.in_ok-path.path c.in_ok-path.ensures.begun);
  alike = rw c.new-pace.ensures.runs (none_yet (CalledAtMut g.F.FnMut) g.V.Visitor.takes (limits_of c.args.builder.now) c.args.closure.now c.args.last.now c.requires.first);
  faultless = uncounted c.begin.result c.in_ok-path.path _ _ c.in_ok-path.was c.begin.ensures.faults;
}

pub stop-requires-clause-rests : goal.stop-requires-clause-rests
stop-requires-clause-rests g c =
    let z = c.loop-limit.invariant in
    (checking_well (CalledAtMut g.F.FnMut) g.V.Visitor.takes c.args.builder.now (g.S.CheckpointStore.gives c.args.store.now) c.args.closure.now c.args.visitor.now (g.S.CheckpointStore.holds c.loop-limit.store) c.loop-limit.closure c.loop-limit.visitor c.loop-limit.path c.loop-limit.pace.runs z.most z.checking).rest

pub stop-requires-clause-defaults : goal.stop-requires-clause-defaults
stop-requires-clause-defaults g c =
    let z = c.loop-limit.invariant in
    (checking_well (CalledAtMut g.F.FnMut) g.V.Visitor.takes c.args.builder.now (g.S.CheckpointStore.gives c.args.store.now) c.args.closure.now c.args.visitor.now (g.S.CheckpointStore.holds c.loop-limit.store) c.loop-limit.closure c.loop-limit.visitor c.loop-limit.path c.loop-limit.pace.runs z.most z.checking).defaults

pub keep-requires-clause-rests : goal.keep-requires-clause-rests
keep-requires-clause-rests g c =
    let z = c.loop-limit.invariant in
    (checking_well (CalledAtMut g.F.FnMut) g.V.Visitor.takes c.args.builder.now (g.S.CheckpointStore.gives c.args.store.now) c.args.closure.now c.args.visitor.now (g.S.CheckpointStore.holds c.loop-limit.store) c.loop-limit.closure c.loop-limit.visitor c.loop-limit.path c.loop-limit.pace.runs z.most z.checking).rest

pub keep-requires-clause-defaults : goal.keep-requires-clause-defaults
keep-requires-clause-defaults g c =
    let z = c.loop-limit.invariant in
    (checking_well (CalledAtMut g.F.FnMut) g.V.Visitor.takes c.args.builder.now (g.S.CheckpointStore.gives c.args.store.now) c.args.closure.now c.args.visitor.now (g.S.CheckpointStore.holds c.loop-limit.store) c.loop-limit.closure c.loop-limit.visitor c.loop-limit.path c.loop-limit.pace.runs z.most z.checking).defaults

pub make_next_run-requires-clause-starts : goal.make_next_run-requires-clause-starts
make_next_run-requires-clause-starts g c κs lives =
    let z = c.loop-limit.invariant in
    checking_starts (CalledAtMut g.F.FnMut) g.V.Visitor.takes c.args.builder.now (g.S.CheckpointStore.gives c.args.store.now) c.args.closure.now c.args.visitor.now (g.S.CheckpointStore.holds c.loop-limit.store) c.loop-limit.closure c.loop-limit.visitor c.loop-limit.path c.loop-limit.pace.runs z.most z.checking

-- ---- rounds

pub loop-limit-preserved : goal.loop-limit-preserved
loop-limit-preserved g c =
    let z = c.loop-limit.invariant in
    let kept = rw z.interval at c.in_ok-left.ensures.kept in
    let on = round_on (CalledAtMut g.F.FnMut) g.V.Visitor.takes c.args.builder.now (g.S.CheckpointStore.gives c.args.store.now) c.args.closure.now c.args.visitor.now (g.S.CheckpointStore.holds c.loop-limit.store) (g.S.CheckpointStore.holds c.keep.new.store) c.loop-limit.closure c.loop-limit.visitor c.loop-limit.path c.loop-limit.pace.runs z.most c.loop-limit.pace.until_save c.in_ok-left.left
    z.checking z.few kept c.make_next_run.new.closure c.make_next_run.new.visitor c.in_ok-end.end c.in_ok-end.ensures.made c.in-Ended-Some.next (c.in-Ended-Some.is ∙ ap Ended c.in-Ended-Some.field-0-is) in
    record {
      callable = c.make_next_run.ensures.again;
      most = on.0;
      few = on.2;
      interval = z.interval;
      within = omega (arith, c.in_default.ensures.reached);
      checking = on.1;
      alike =
          goes_on_alike (CalledAtMut g.F.FnMut) g.V.Visitor.takes (limits_of c.args.builder.now) z.alike c.make_next_run.new.closure c.make_next_run.new.last (Some c.in-Ended-Some.next) c.in_ok-end.end c.in_ok-end.ensures.next
          (c.in-Ended-Some.is ∙ ap Ended c.in-Ended-Some.field-0-is);
      faultless = c.in_ok-left.ensures.faults ∙ z.faultless;
    }

-- ---- reports

pub returns-in-Some-clause-reports : goal.returns-in-Some-clause-reports
returns-in-Some-clause-reports g c =
    let z = c.loop-limit.invariant in
    let answered = g.C.Clock.answered c.reached.new.clock in
    let stopped = c.in_ok-stop.ensures.stopped in
    rw stopped.2
    (checking_stops (CalledAtMut g.F.FnMut) g.V.Visitor.takes c.args.builder.now (g.S.CheckpointStore.gives c.args.store.now) c.args.closure.now c.args.visitor.now (g.S.CheckpointStore.holds c.loop-limit.store) c.loop-limit.closure c.loop-limit.visitor c.loop-limit.path c.loop-limit.pace.runs z.most z.checking answered (g.S.CheckpointStore.holds c.stop.new.store) c.in-Some.limit stopped.0 stopped.1
    (reached_stops answered c.args.builder.now c.loop-limit.pace.runs c.in-Some.limit stopped.0 z.within c.in-Some.ensures.reached))

pub returns-in-Ended-None-clause-reports : goal.returns-in-Ended-None-clause-reports
returns-in-Ended-None-clause-reports g c =
    let z = c.loop-limit.invariant in
    let kept = rw z.interval at c.in_ok-left.ensures.kept in
    rw c.complete.ensures
    (round_ends (CalledAtMut g.F.FnMut) g.V.Visitor.takes c.args.builder.now (g.S.CheckpointStore.gives c.args.store.now) c.args.closure.now c.args.visitor.now (g.S.CheckpointStore.holds c.loop-limit.store) (g.S.CheckpointStore.holds c.keep.new.store) c.loop-limit.closure c.loop-limit.visitor c.loop-limit.path c.loop-limit.pace.runs z.most c.loop-limit.pace.until_save c.in_ok-left.left
    z.checking z.few kept c.make_next_run.new.closure c.make_next_run.new.visitor c.in_ok-end.end c.in_ok-end.ensures.made (g.C.Clock.answered c.reached.new.clock) c.in_default.ensures.reached
    (c.in-Ended-None.is ∙ ap Ended c.in-Ended-None.field-0-is))

pub returns-in-Failed-clause-reports : goal.returns-in-Failed-clause-reports
returns-in-Failed-clause-reports g c =
    let z = c.loop-limit.invariant in
    let kept = rw z.interval at c.in_ok-left.ensures.kept in
    round_fails (CalledAtMut g.F.FnMut) g.V.Visitor.takes c.args.builder.now (g.S.CheckpointStore.gives c.args.store.now) c.args.closure.now c.args.visitor.now (g.S.CheckpointStore.holds c.loop-limit.store) (g.S.CheckpointStore.holds c.keep.new.store) c.loop-limit.closure c.loop-limit.visitor c.loop-limit.path c.loop-limit.pace.runs z.most c.loop-limit.pace.until_save c.in_ok-left.left
    z.checking z.few kept c.make_next_run.new.closure c.make_next_run.new.visitor c.in_ok-end.end c.in_ok-end.ensures.made (g.C.Clock.answered c.reached.new.clock) c.in_default.ensures.reached
    c.in-Failed.failure c.in-Failed.choices c.in-Failed.is

pub returns-in-Some-clause-alike : goal.returns-in-Some-clause-alike
returns-in-Some-clause-alike g c = rw c.in_ok-stop.ensures.stopped.2 (are_alike (CalledAtMut g.F.FnMut) g.V.Visitor.takes (limits_of c.args.builder.now) c.loop-limit.invariant.alike c.loop-limit.pace.runs refl)

pub returns-in-Ended-None-clause-alike : goal.returns-in-Ended-None-clause-alike
returns-in-Ended-None-clause-alike g c =
    rw c.complete.ensures
    (completes_alike (CalledAtMut g.F.FnMut) g.V.Visitor.takes (limits_of c.args.builder.now) c.loop-limit.invariant.alike c.make_next_run.new.closure c.make_next_run.new.last None c.in_ok-end.end c.in_ok-end.ensures.next
    (c.in-Ended-None.is ∙ ap Ended c.in-Ended-None.field-0-is))

pub returns-in-Failed-clause-alike : goal.returns-in-Failed-clause-alike
returns-in-Failed-clause-alike g c =
    fails_alike (CalledAtMut g.F.FnMut) g.V.Visitor.takes (limits_of c.args.builder.now) c.loop-limit.invariant.alike c.make_next_run.new.closure c.make_next_run.new.last c.in-Failed.failure c.in-Failed.choices c.in_ok-end.end
    c.in_ok-end.ensures.next c.in-Failed.is

-- ---- errors

pub returns-in_err-path-clause-changed : goal.returns-in_err-path-clause-changed
returns-in_err-path-clause-changed g c =
    handed_on c.from_residual.result (of_check c.in_err-path.field-0.0) _ c.from_residual.ensures.1
    (no_change (CalledAtMut g.F.FnMut) g.V.Visitor.takes (limits_of c.args.builder.now) c.args.closure.now (of_check c.in_err-path.field-0.0) (other_error c.in_err-path.field-0.0))

pub returns-in_err-stop-clause-changed : goal.returns-in_err-stop-clause-changed
returns-in_err-stop-clause-changed g c =
    handed_on c.from_residual-in_err-stop.result (of_check (of_store c.in_err-stop.field-0.0)) _ c.from_residual-in_err-stop.ensures.1
    (no_change (CalledAtMut g.F.FnMut) g.V.Visitor.takes (limits_of c.args.builder.now) c.args.closure.now (of_check (of_store c.in_err-stop.field-0.0)) (other_error (of_store c.in_err-stop.field-0.0)))

pub returns-in_err-left-clause-changed : goal.returns-in_err-left-clause-changed
returns-in_err-left-clause-changed g c =
    handed_on c.from_residual-in_err-left.result (of_check (of_store c.in_err-left.field-0.0)) _ c.from_residual-in_err-left.ensures.1
    (no_change (CalledAtMut g.F.FnMut) g.V.Visitor.takes (limits_of c.args.builder.now) c.args.closure.now (of_check (of_store c.in_err-left.field-0.0)) (other_error (of_store c.in_err-left.field-0.0)))

pub returns-in_err-end-clause-changed : goal.returns-in_err-end-clause-changed
returns-in_err-end-clause-changed g c =
    handed_on c.from_residual-in_err-end.result c.in_err-end.field-0.0 _ c.from_residual-in_err-end.ensures.1
    (has_changed (CalledAtMut g.F.FnMut) g.V.Visitor.takes (limits_of c.args.builder.now) c.loop-limit.invariant.alike c.loop-limit.visitor c.make_next_run.new.visitor c.loop-limit.path (c.loop-limit.pace.runs + 1) c.in_err-end.field-0.0 refl
    c.in_err-end.ensures.errors)

pub returns-in_err-path-clause-errors : goal.returns-in_err-path-clause-errors
returns-in_err-path-clause-errors g c =
    handed_on c.from_residual.result (of_check c.in_err-path.field-0.0) _ c.from_residual.ensures.1
    (inl (refl, no_beginning c.args.builder.now (g.S.CheckpointStore.gives c.args.store.now) c.begin.result c.in_err-path.field-0.0 _ _ c.in_err-path.was c.begin.ensures.faults c.in_err-path.ensures.errors))

pub returns-in_err-path-clause-left : goal.returns-in_err-path-clause-left
returns-in_err-path-clause-left g c = on_error c.from_residual.result (inl c.in_err-path.ensures.left)

pub returns-in_err-path-clause-faults : goal.returns-in_err-path-clause-faults
returns-in_err-path-clause-faults g c = counted_begin c.begin.result c.from_residual.result c.in_err-path.field-0.0 _ _ c.in_err-path.was c.from_residual.ensures.1 c.begin.ensures.faults

pub returns-in_err-stop-clause-errors : goal.returns-in_err-stop-clause-errors
returns-in_err-stop-clause-errors g c =
    let z = c.loop-limit.invariant in
    handed_on c.from_residual-in_err-stop.result (of_check (of_store c.in_err-stop.field-0.0)) _ c.from_residual-in_err-stop.ensures.1
    (not_saved (CalledAtMut g.F.FnMut) g.V.Visitor.takes c.args.builder.now (g.S.CheckpointStore.gives c.args.store.now) (HasRisen (g.S.CheckpointStore.fault_count c.args.store.now) (g.S.CheckpointStore.fault_count c.stop.new.store)) c.args.closure.now c.args.visitor.now (g.S.CheckpointStore.holds c.loop-limit.store) c.loop-limit.closure c.loop-limit.visitor c.loop-limit.path c.loop-limit.pace.runs z.most z.checking _ (no_save c.in_err-stop.field-0.0 _ _ _ z.faultless c.in_err-stop.ensures.faults))

pub returns-in_err-stop-clause-left : goal.returns-in_err-stop-clause-left
returns-in_err-stop-clause-left g c =
    let z = c.loop-limit.invariant in
    on_error c.from_residual-in_err-stop.result
    (inr (checking_left (CalledAtMut g.F.FnMut) g.V.Visitor.takes c.args.builder.now (g.S.CheckpointStore.gives c.args.store.now) c.args.closure.now c.args.visitor.now (g.S.CheckpointStore.holds c.loop-limit.store) c.loop-limit.closure c.loop-limit.visitor c.loop-limit.path c.loop-limit.pace.runs z.most z.checking (g.S.CheckpointStore.holds c.stop.new.store) (omega (arith, z.few)) c.in_err-stop.ensures.left))

pub returns-in_err-stop-clause-faults : goal.returns-in_err-stop-clause-faults
returns-in_err-stop-clause-faults g c =
    counted_save c.from_residual-in_err-stop.result c.in_err-stop.field-0.0 _ _ _ c.loop-limit.invariant.faultless c.in_err-stop.ensures.faults c.from_residual-in_err-stop.ensures.1

pub returns-in_err-left-clause-errors : goal.returns-in_err-left-clause-errors
returns-in_err-left-clause-errors g c =
    let z = c.loop-limit.invariant in
    handed_on c.from_residual-in_err-left.result (of_check (of_store c.in_err-left.field-0.0)) _ c.from_residual-in_err-left.ensures.1
    (not_saved (CalledAtMut g.F.FnMut) g.V.Visitor.takes c.args.builder.now (g.S.CheckpointStore.gives c.args.store.now) (HasRisen (g.S.CheckpointStore.fault_count c.args.store.now) (g.S.CheckpointStore.fault_count c.keep.new.store)) c.args.closure.now c.args.visitor.now (g.S.CheckpointStore.holds c.loop-limit.store) c.loop-limit.closure c.loop-limit.visitor c.loop-limit.path c.loop-limit.pace.runs z.most z.checking _ (no_save c.in_err-left.field-0.0 _ _ _ z.faultless c.in_err-left.ensures.faults))

pub returns-in_err-left-clause-left : goal.returns-in_err-left-clause-left
returns-in_err-left-clause-left g c =
    let z = c.loop-limit.invariant in
    on_error c.from_residual-in_err-left.result
    (inr (checking_left (CalledAtMut g.F.FnMut) g.V.Visitor.takes c.args.builder.now (g.S.CheckpointStore.gives c.args.store.now) c.args.closure.now c.args.visitor.now (g.S.CheckpointStore.holds c.loop-limit.store) c.loop-limit.closure c.loop-limit.visitor c.loop-limit.path c.loop-limit.pace.runs z.most z.checking (g.S.CheckpointStore.holds c.keep.new.store) (omega (arith, z.few)) c.in_err-left.ensures.left))

pub returns-in_err-left-clause-faults : goal.returns-in_err-left-clause-faults
returns-in_err-left-clause-faults g c =
    counted_save c.from_residual-in_err-left.result c.in_err-left.field-0.0 _ _ _ c.loop-limit.invariant.faultless c.in_err-left.ensures.faults c.from_residual-in_err-left.ensures.1

pub returns-in_err-end-clause-errors : goal.returns-in_err-end-clause-errors
returns-in_err-end-clause-errors g c =
    let z = c.loop-limit.invariant in
    let kept = rw z.interval at c.in_ok-left.ensures.kept in
    let now = checking_kept (CalledAtMut g.F.FnMut) g.V.Visitor.takes c.args.builder.now (g.S.CheckpointStore.gives c.args.store.now) c.args.closure.now c.args.visitor.now (g.S.CheckpointStore.holds c.loop-limit.store) c.loop-limit.closure c.loop-limit.visitor c.loop-limit.path c.loop-limit.pace.runs z.most z.checking (g.S.CheckpointStore.holds c.keep.new.store) c.loop-limit.pace.until_save c.in_ok-left.left z.few kept in
    handed_on c.from_residual-in_err-end.result c.in_err-end.field-0.0 _ c.from_residual-in_err-end.ensures.1
    (breaks_off (CalledAtMut g.F.FnMut) g.V.Visitor.takes c.args.builder.now (g.S.CheckpointStore.gives c.args.store.now) (HasRisen (g.S.CheckpointStore.fault_count c.args.store.now) (g.S.CheckpointStore.fault_count c.keep.new.store)) c.args.closure.now c.args.visitor.now (g.S.CheckpointStore.holds c.keep.new.store) c.loop-limit.closure c.loop-limit.visitor c.loop-limit.path c.loop-limit.pace.runs now.0 now.1 c.make_next_run.new.visitor c.in_err-end.field-0.0 c.in_default.ensures.reached
    (no_end (CalledAtMut g.F.FnMut) g.V.Visitor.takes (limits_of c.args.builder.now) c.loop-limit.closure c.loop-limit.visitor c.make_next_run.new.visitor c.loop-limit.path c.loop-limit.last (c.loop-limit.pace.runs + 1) c.in_err-end.field-0.0 c.in_err-end.ensures.errors))

pub returns-in_err-end-clause-left : goal.returns-in_err-end-clause-left
returns-in_err-end-clause-left g c =
    let z = c.loop-limit.invariant in
    let kept = rw z.interval at c.in_ok-left.ensures.kept in
    let now = checking_kept (CalledAtMut g.F.FnMut) g.V.Visitor.takes c.args.builder.now (g.S.CheckpointStore.gives c.args.store.now) c.args.closure.now c.args.visitor.now (g.S.CheckpointStore.holds c.loop-limit.store) c.loop-limit.closure c.loop-limit.visitor c.loop-limit.path c.loop-limit.pace.runs z.most z.checking (g.S.CheckpointStore.holds c.keep.new.store) c.loop-limit.pace.until_save c.in_ok-left.left z.few kept in
    on_error c.from_residual-in_err-end.result (inr (checking_left (CalledAtMut g.F.FnMut) g.V.Visitor.takes c.args.builder.now (g.S.CheckpointStore.gives c.args.store.now) c.args.closure.now c.args.visitor.now (g.S.CheckpointStore.holds c.keep.new.store) c.loop-limit.closure c.loop-limit.visitor c.loop-limit.path c.loop-limit.pace.runs now.0 now.1 (g.S.CheckpointStore.holds c.keep.new.store) (omega (arith, now.2)) (λ text held. held)))

pub returns-in_err-end-clause-faults : goal.returns-in_err-end-clause-faults
returns-in_err-end-clause-faults g c =
    run_faultless (CalledAtMut g.F.FnMut) g.V.Visitor.takes _ c.loop-limit.closure c.loop-limit.visitor c.make_next_run.new.visitor c.loop-limit.path c.from_residual-in_err-end.result c.in_err-end.field-0.0 _ _
    c.from_residual-in_err-end.ensures.1
    (no_end (CalledAtMut g.F.FnMut) g.V.Visitor.takes (limits_of c.args.builder.now) c.loop-limit.closure c.loop-limit.visitor c.make_next_run.new.visitor c.loop-limit.path c.loop-limit.last (c.loop-limit.pace.runs + 1) c.in_err-end.field-0.0 c.in_err-end.ensures.errors)
    (c.in_ok-left.ensures.faults ∙ c.loop-limit.invariant.faultless)
