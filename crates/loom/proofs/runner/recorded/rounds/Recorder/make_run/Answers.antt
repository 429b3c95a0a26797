use Rattle.std.proofs.Common.{◌≤◌, ◌∙◌, refl, subst, sym}
use Rattle.std.specs.Fn.{CalledAtMut}
use Rattle.loom_engine.specs.declared.rt.execution.Limits.{Limits}
use Rattle.loom.specs.Runner.Recorded.{HasMadeOne, IsDone}
use Rattle.loom.specs.Runner.Recording.{IsTrueOf}
use Rattle.loom.proofs.Closures.Refusing.{handed_on}
use Rattle.loom.proofs.RunnerLemmas.Rounds.{runs_known, runs_real, same_run}
use Rattle.loom.proofs.runner.recorded.rounds.Recorder.make_run.Goals as goal

pub returns-in-Some-clause-makes : goal.returns-in-Some-clause-makes
returns-in-Some-clause-makes g c =
    runs_known (CalledAtMut g.F.FnMut) c.args.self.now.limits c.args.self.now.keeps_locations c.args.path.now c.args.closure.now c.args.self.now.recording c.in-Some.known c.play-played.new.path c.args.closure.now
    c.play-played.new.self.recording refl c.play-played.ensures.recording (rw c.in-Some.is at c.in_ok-known.ensures.known)

pub returns-in-Some-2-clause-makes : goal.returns-in-Some-2-clause-makes
returns-in-Some-2-clause-makes g c =
    let run = c.in_ok-events.ensures.made in
    let known = rw c.in-Some-2.is at c.in_ok-made.ensures.known in
    runs_real (CalledAtMut g.F.FnMut) c.args.self.now.limits c.args.self.now.keeps_locations c.args.path.now c.args.closure.now c.args.self.now.recording c.in-Some-2.made c.play-again.new.path c.make_real_run.new.closure
    c.play-again.new.self.recording run.0
    (subst (λ (l : Limits). HasMadeOne (CalledAtMut g.F.FnMut) l c.args.closure.now run.0 c.make_real_run.new.closure) c.play-played.ensures.limits run.1)
    (λ does words z done.
    let room = c.in_ok-make_room.ensures.stays does words (subst (IsTrueOf does words) (sym c.play-played.ensures.recording) z) in
    let recorded = c.in_ok-record_run.ensures.recorded does room.0 room.1 (subst (IsDone does) (run.2 ∙ sym c.as_slice.ensures.value) done) in
    (recorded.0, subst (IsTrueOf does recorded.0) (sym c.play-again.ensures.recording) recorded.1))
    (same_run c.in-Some-2.made c.play-again.new.path c.args.self.now.limits c.play-played.new.self.limits c.args.self.now.keeps_locations
    c.play-played.new.self.keeps_locations c.play-again.new.self.recording c.record_run.new.recording c.args.path.now c.in-Ok.began
    c.play-played.ensures.limits c.play-played.ensures.locations (sym c.play-again.ensures.recording) c.in-Ok.ensures known)

pub returns-in_err-record_run-clause-errors : goal.returns-in_err-record_run-clause-errors
returns-in_err-record_run-clause-errors g c =
    handed_on c.from_residual-in_err-record_run.result c.in_err-record_run.field-0.0 _ c.from_residual-in_err-record_run.ensures.1 c.in_err-record_run.ensures.errors

pub play-again-requires-clause-some : goal.play-again-requires-clause-some
play-again-requires-clause-some g c κs lives = subst (λ (l : Limits). 1 ≤ l.max_threads) (sym c.play-played.ensures.limits) c.requires.some

pub play-again-requires-clause-few : goal.play-again-requires-clause-few
play-again-requires-clause-few g c κs lives = subst (λ (l : Limits). l.max_threads ≤ 5) (sym c.play-played.ensures.limits) c.requires.few
