use Rattle.std.proofs.Common.{ℕ, ◌∙◌, inl, inr, subst, arith}
use Rattle.loom_engine.specs.Runs.Body.{runs}
use Rattle.loom_engine.proofs.Runs.Bodies.{run_tree_law, unchosen_law}
use Rattle.loom.specs.Model.Refusals.{CountsFaults}
use Rattle.loom.specs.Model.Settings.{explores}
use Rattle.loom.proofs.ModelLemmas.Errors.{counted_error, made_of_store, on_error, uncounted, unreported}
use Rattle.loom.proofs.ModelLemmas.Checking.{checking_left, checking_start, checking_starts, checking_well, checking_stops, reached_stops, round_on, round_ends, round_fails}
use Rattle.loom.proofs.model.search.BodyRuns.make_rounds.Goals as goal

pub loop-limit-init : goal.loop-limit-init
loop-limit-init g c =
    let b = c.args.self.now.builder.now in
    let tree = runs g.B.Body.next (explores b) b.max_threads b.max_steps c.args.self.now.body.now in
    let sound = run_tree_law g.B.Body.next (explores b) b.max_threads b.max_steps c.args.self.now.body.now in
    let shut = unchosen_law g.B.Body.next (explores b) b.max_threads b.max_steps c.args.self.now.body.now in
    record {
      most = 0;
      few = omega (arith, c.new-pace.ensures.until);
      interval = c.new-pace.ensures.interval;
      within = omega (arith, c.new-pace.ensures.runs);
      checking = rw c.new-pace.ensures.runs
          (checking_start b tree sound shut g.R.Receiver.receives c.args.receiver.now (g.S.CheckpointStore.gives c.args.store.now)
          (g.S.CheckpointStore.holds c.begin.new.store) c.in_ok-path.path c.in_ok-path.ensures.begun);
      faultless = uncounted c.begin.result c.in_ok-path.path _ _ c.in_ok-path.was c.begin.ensures.faults;
    }

pub stop-requires-clause-rests : goal.stop-requires-clause-rests
stop-requires-clause-rests g c =
    let b = c.args.self.now.builder.now in
    let tree = runs g.B.Body.next (explores b) b.max_threads b.max_steps c.args.self.now.body.now in
    let sound = run_tree_law g.B.Body.next (explores b) b.max_threads b.max_steps c.args.self.now.body.now in
    let shut = unchosen_law g.B.Body.next (explores b) b.max_threads b.max_steps c.args.self.now.body.now in
    let z = c.loop-limit.invariant in
    (checking_well b tree sound shut g.R.Receiver.receives c.args.receiver.now (g.S.CheckpointStore.gives c.args.store.now)
    (g.S.CheckpointStore.holds c.loop-limit.store) c.loop-limit.path c.loop-limit.receiver c.loop-limit.pace.runs z.most z.checking).rest

pub stop-requires-clause-defaults : goal.stop-requires-clause-defaults
stop-requires-clause-defaults g c =
    let b = c.args.self.now.builder.now in
    let tree = runs g.B.Body.next (explores b) b.max_threads b.max_steps c.args.self.now.body.now in
    let sound = run_tree_law g.B.Body.next (explores b) b.max_threads b.max_steps c.args.self.now.body.now in
    let shut = unchosen_law g.B.Body.next (explores b) b.max_threads b.max_steps c.args.self.now.body.now in
    let z = c.loop-limit.invariant in
    (checking_well b tree sound shut g.R.Receiver.receives c.args.receiver.now (g.S.CheckpointStore.gives c.args.store.now)
    (g.S.CheckpointStore.holds c.loop-limit.store) c.loop-limit.path c.loop-limit.receiver c.loop-limit.pace.runs z.most z.checking).defaults

pub returns-in_err-stop-clause-faults : goal.returns-in_err-stop-clause-faults
returns-in_err-stop-clause-faults g c =
    let own = counted_error c.from_residual-in_err-stop.result c.in_err-stop.field-0.0 (g.S.CheckpointStore.fault_count c.loop-limit.store) (g.S.CheckpointStore.fault_count c.stop.new.store)
    c.in_err-stop.ensures.faults (made_of_store c.from_residual-in_err-stop.result c.in_err-stop.field-0.0 c.from_residual-in_err-stop.ensures.1) in
    subst (λ (n : ℕ). CountsFaults c.from_residual-in_err-stop.result n (g.S.CheckpointStore.fault_count c.stop.new.store)) c.loop-limit.invariant.faultless own

pub returns-in-Some-clause-reports : goal.returns-in-Some-clause-reports
returns-in-Some-clause-reports g c =
    let b = c.args.self.now.builder.now in
    let tree = runs g.B.Body.next (explores b) b.max_threads b.max_steps c.args.self.now.body.now in
    let sound = run_tree_law g.B.Body.next (explores b) b.max_threads b.max_steps c.args.self.now.body.now in
    let shut = unchosen_law g.B.Body.next (explores b) b.max_threads b.max_steps c.args.self.now.body.now in
    let z = c.loop-limit.invariant in
    let answered = g.C.Clock.answered c.reached.new.clock in
    let stopped = c.in_ok-stop.ensures.stopped in
    rw stopped.2
    (checking_stops b tree sound shut g.R.Receiver.receives c.args.receiver.now (g.S.CheckpointStore.gives c.args.store.now)
    (g.S.CheckpointStore.holds c.loop-limit.store) c.loop-limit.path c.loop-limit.receiver c.loop-limit.pace.runs z.most z.checking answered (g.S.CheckpointStore.holds c.stop.new.store)
    c.in-Some.limit stopped.0 stopped.1
    (reached_stops answered b c.loop-limit.pace.runs c.in-Some.limit stopped.0 z.within c.in-Some.ensures.reached))

pub save_and_run-requires-clause-starts : goal.save_and_run-requires-clause-starts
save_and_run-requires-clause-starts g c =
    let b = c.args.self.now.builder.now in
    let tree = runs g.B.Body.next (explores b) b.max_threads b.max_steps c.args.self.now.body.now in
    let sound = run_tree_law g.B.Body.next (explores b) b.max_threads b.max_steps c.args.self.now.body.now in
    let shut = unchosen_law g.B.Body.next (explores b) b.max_threads b.max_steps c.args.self.now.body.now in
    let z = c.loop-limit.invariant in
    checking_starts b tree sound shut g.R.Receiver.receives c.args.receiver.now (g.S.CheckpointStore.gives c.args.store.now)
    (g.S.CheckpointStore.holds c.loop-limit.store) c.loop-limit.path c.loop-limit.receiver c.loop-limit.pace.runs z.most z.checking

pub save_and_run-requires-clause-rests : goal.save_and_run-requires-clause-rests
save_and_run-requires-clause-rests g c =
    let b = c.args.self.now.builder.now in
    let tree = runs g.B.Body.next (explores b) b.max_threads b.max_steps c.args.self.now.body.now in
    let sound = run_tree_law g.B.Body.next (explores b) b.max_threads b.max_steps c.args.self.now.body.now in
    let shut = unchosen_law g.B.Body.next (explores b) b.max_threads b.max_steps c.args.self.now.body.now in
    let z = c.loop-limit.invariant in
    (checking_well b tree sound shut g.R.Receiver.receives c.args.receiver.now (g.S.CheckpointStore.gives c.args.store.now)
    (g.S.CheckpointStore.holds c.loop-limit.store) c.loop-limit.path c.loop-limit.receiver c.loop-limit.pace.runs z.most z.checking).rest

pub save_and_run-requires-clause-defaults : goal.save_and_run-requires-clause-defaults
save_and_run-requires-clause-defaults g c =
    let b = c.args.self.now.builder.now in
    let tree = runs g.B.Body.next (explores b) b.max_threads b.max_steps c.args.self.now.body.now in
    let sound = run_tree_law g.B.Body.next (explores b) b.max_threads b.max_steps c.args.self.now.body.now in
    let shut = unchosen_law g.B.Body.next (explores b) b.max_threads b.max_steps c.args.self.now.body.now in
    let z = c.loop-limit.invariant in
    (checking_well b tree sound shut g.R.Receiver.receives c.args.receiver.now (g.S.CheckpointStore.gives c.args.store.now)
    (g.S.CheckpointStore.holds c.loop-limit.store) c.loop-limit.path c.loop-limit.receiver c.loop-limit.pace.runs z.most z.checking).defaults

pub returns-in_err-save_and_run-clause-faults : goal.returns-in_err-save_and_run-clause-faults
returns-in_err-save_and_run-clause-faults g c =
    let own = counted_error c.from_residual-in_err-save_and_run.result c.in_err-save_and_run.field-0.0 (g.S.CheckpointStore.fault_count c.loop-limit.store) (g.S.CheckpointStore.fault_count c.save_and_run.new.store)
    c.in_err-save_and_run.ensures.faults (made_of_store c.from_residual-in_err-save_and_run.result c.in_err-save_and_run.field-0.0 c.from_residual-in_err-save_and_run.ensures.1) in
    subst (λ (n : ℕ). CountsFaults c.from_residual-in_err-save_and_run.result n (g.S.CheckpointStore.fault_count c.save_and_run.new.store)) c.loop-limit.invariant.faultless own

pub loop-limit-preserved : goal.loop-limit-preserved
loop-limit-preserved g c =
    let b = c.args.self.now.builder.now in
    let tree = runs g.B.Body.next (explores b) b.max_threads b.max_steps c.args.self.now.body.now in
    let sound = run_tree_law g.B.Body.next (explores b) b.max_threads b.max_steps c.args.self.now.body.now in
    let shut = unchosen_law g.B.Body.next (explores b) b.max_threads b.max_steps c.args.self.now.body.now in
    let z = c.loop-limit.invariant in
    let kept = rw z.interval at c.in_ok-save_and_run.ensures.kept in
    let comes = rw c.in-Next.is at c.in_ok-save_and_run.ensures.comes in
    let on = round_on b tree sound shut g.R.Receiver.receives c.args.receiver.now (g.S.CheckpointStore.gives c.args.store.now)
    (g.S.CheckpointStore.holds c.loop-limit.store) (g.S.CheckpointStore.holds c.save_and_run.new.store) c.loop-limit.path c.loop-limit.receiver c.loop-limit.pace.runs z.most c.loop-limit.pace.until_save c.save_and_run.new.pace.until_save
    z.checking z.few kept c.save_and_run.new.path c.save_and_run.new.receiver comes in
    record {
      most = on.0;
      few = on.2;
      interval = c.save_and_run.ensures.interval ∙ z.interval;
      within = omega (arith, c.in_default.ensures.reached, c.save_and_run.ensures.runs);
      checking = rw c.save_and_run.ensures.runs on.1;
      faultless = c.in_ok-save_and_run.ensures.faults ∙ z.faultless;
    }

pub returns-in-Last-clause-reports : goal.returns-in-Last-clause-reports
returns-in-Last-clause-reports g c =
    let b = c.args.self.now.builder.now in
    let tree = runs g.B.Body.next (explores b) b.max_threads b.max_steps c.args.self.now.body.now in
    let sound = run_tree_law g.B.Body.next (explores b) b.max_threads b.max_steps c.args.self.now.body.now in
    let shut = unchosen_law g.B.Body.next (explores b) b.max_threads b.max_steps c.args.self.now.body.now in
    let z = c.loop-limit.invariant in
    let kept = rw z.interval at c.in_ok-save_and_run.ensures.kept in
    let comes = rw c.in-Last.is at c.in_ok-save_and_run.ensures.comes in
    rw (c.complete.ensures, c.save_and_run.ensures.runs)
    (round_ends b tree sound shut g.R.Receiver.receives c.args.receiver.now (g.S.CheckpointStore.gives c.args.store.now)
    (g.S.CheckpointStore.holds c.loop-limit.store) (g.S.CheckpointStore.holds c.save_and_run.new.store) c.loop-limit.path c.loop-limit.receiver c.loop-limit.pace.runs z.most c.loop-limit.pace.until_save c.save_and_run.new.pace.until_save
    z.checking z.few kept
    (g.C.Clock.answered c.reached.new.clock) c.in_default.ensures.reached c.save_and_run.new.path c.save_and_run.new.receiver comes)

pub returns-in-Failed-clause-reports : goal.returns-in-Failed-clause-reports
returns-in-Failed-clause-reports g c =
    let b = c.args.self.now.builder.now in
    let tree = runs g.B.Body.next (explores b) b.max_threads b.max_steps c.args.self.now.body.now in
    let sound = run_tree_law g.B.Body.next (explores b) b.max_threads b.max_steps c.args.self.now.body.now in
    let shut = unchosen_law g.B.Body.next (explores b) b.max_threads b.max_steps c.args.self.now.body.now in
    let z = c.loop-limit.invariant in
    let kept = rw z.interval at c.in_ok-save_and_run.ensures.kept in
    let comes = rw c.in-Failed.is at c.in_ok-save_and_run.ensures.comes in
    rw c.save_and_run.ensures.runs
    (round_fails b tree sound shut g.R.Receiver.receives c.args.receiver.now (g.S.CheckpointStore.gives c.args.store.now)
    (g.S.CheckpointStore.holds c.loop-limit.store) (g.S.CheckpointStore.holds c.save_and_run.new.store) c.loop-limit.path c.loop-limit.receiver c.loop-limit.pace.runs z.most c.loop-limit.pace.until_save c.save_and_run.new.pace.until_save
    z.checking z.few kept
    (g.C.Clock.answered c.reached.new.clock) c.in_default.ensures.reached c.in-Failed.failure c.in-Failed.choices c.save_and_run.new.path c.save_and_run.new.receiver comes)

pub returns-in_err-stop-clause-errors : goal.returns-in_err-stop-clause-errors
returns-in_err-stop-clause-errors g c =
    unreported c.args.self.now.builder.now (g.S.CheckpointStore.gives c.args.store.now) _ c.from_residual-in_err-stop.result c.in_err-stop.field-0.0 c.from_residual-in_err-stop.ensures.1

pub returns-in_err-save_and_run-clause-errors : goal.returns-in_err-save_and_run-clause-errors
returns-in_err-save_and_run-clause-errors g c =
    unreported c.args.self.now.builder.now (g.S.CheckpointStore.gives c.args.store.now) _ c.from_residual-in_err-save_and_run.result c.in_err-save_and_run.field-0.0 c.from_residual-in_err-save_and_run.ensures.1

pub returns-in_err-stop-clause-left : goal.returns-in_err-stop-clause-left
returns-in_err-stop-clause-left g c =
    let b = c.args.self.now.builder.now in
    let tree = runs g.B.Body.next (explores b) b.max_threads b.max_steps c.args.self.now.body.now in
    let sound = run_tree_law g.B.Body.next (explores b) b.max_threads b.max_steps c.args.self.now.body.now in
    let shut = unchosen_law g.B.Body.next (explores b) b.max_threads b.max_steps c.args.self.now.body.now in
    let z = c.loop-limit.invariant in
    on_error c.from_residual-in_err-stop.result
    (inr (checking_left b tree sound shut g.R.Receiver.receives c.args.receiver.now (g.S.CheckpointStore.gives c.args.store.now)
    (g.S.CheckpointStore.holds c.loop-limit.store) c.loop-limit.path c.loop-limit.receiver c.loop-limit.pace.runs z.most z.checking (g.S.CheckpointStore.holds c.stop.new.store) (omega (arith, z.few))
    (inl c.in_err-stop.ensures.left)))

pub returns-in_err-save_and_run-clause-left : goal.returns-in_err-save_and_run-clause-left
returns-in_err-save_and_run-clause-left g c =
    let b = c.args.self.now.builder.now in
    let tree = runs g.B.Body.next (explores b) b.max_threads b.max_steps c.args.self.now.body.now in
    let sound = run_tree_law g.B.Body.next (explores b) b.max_threads b.max_steps c.args.self.now.body.now in
    let shut = unchosen_law g.B.Body.next (explores b) b.max_threads b.max_steps c.args.self.now.body.now in
    let z = c.loop-limit.invariant in
    on_error c.from_residual-in_err-save_and_run.result
    (inr (checking_left b tree sound shut g.R.Receiver.receives c.args.receiver.now (g.S.CheckpointStore.gives c.args.store.now)
    (g.S.CheckpointStore.holds c.loop-limit.store) c.loop-limit.path c.loop-limit.receiver c.loop-limit.pace.runs z.most z.checking (g.S.CheckpointStore.holds c.save_and_run.new.store) (omega (arith, z.few))
    c.in_err-save_and_run.ensures.left))
