use Rattle.std.proofs.Common.{◌≡◌, ◌+◌, ◌<◌, ◌≤◌, false, [], inl, arith, rules, ap, sym, ◌∙◌, subst, length}
use Rattle.std.proofs.lemmas.List.{length-map}
use Rattle.loom_engine.specs.Covering.Between.{AddsRun, IsReady, IsWhole}
use Rattle.loom_engine.specs.Path.Route.{Route, chosen}
use Rattle.loom.specs.Model.Covered.{IsToldBy}
use Rattle.loom.specs.Runner.Recorded.{by_function}
use Rattle.loom.specs.Runner.Recording.{all_told, told_in}
use Rattle.loom.proofs.Closures.Erring.{counted_begin, counted_save, made_error, memory_faultless, no_fault}
use Rattle.loom.proofs.ModelLemmas.CoverRounds.{HasAdded, HasRun, checking_fails, checking_kept, checking_starts, checking_stops, ran_so, run_ended, run_met}
use Rattle.loom.proofs.ModelLemmas.Errors.{on_error, uncounted}
use Rattle.loom.proofs.RunnerLemmas.RecordedCover.{left_behind, left_unsaved, rests_again, rests_start, rests_whole}
use Rattle.loom.proofs.runner.recorded.covering.cover_rounds.Goals.{in-Ended+in_ok-give-in-Ended, in-Met}
use Rattle.loom.proofs.runner.recorded.covering.cover_rounds.Goals as goal

pub loop-limit-init : goal.loop-limit-init
loop-limit-init g c = record {
  within = omega arith;
  rests = c.in_ok-path.ensures.begun.rests;
  checking = λ does words true. (
    0,
    omega (arith, c.requires.interval),
    checking_starts c.args.builder.now (by_function does) [] g.V.Visitor.takes c.args.visitor.now (g.S.CheckpointStore.gives c.args.store.now) (g.S.CheckpointStore.holds c.begin_cover.new.store) c.in_ok-path.path
        (all_told words c.args.states.now) c.new-ways.result c.in_ok-path.ensures.begun false (ap (all_told words) c.requires.none) (λ e. absurd (cc e)) c.new-ways.ensures,
  );
  faultless = uncounted c.begin_cover.result c.in_ok-path.path _ _ c.in_ok-path.was c.begin_cover.ensures.faults;
}

pub run_known-requires-clause-starts : goal.run_known-requires-clause-starts
run_known-requires-clause-starts g c κs lives = rests_start c.args.builder.now c.loop-limit.path c.loop-limit.invariant.rests

pub run_known-requires-clause-unguided : goal.run_known-requires-clause-unguided
run_known-requires-clause-unguided g c κs lives = ap (λ (r : Route). r.given) c.loop-limit.invariant.rests

pub run_known-requires-clause-whole : goal.run_known-requires-clause-whole
run_known-requires-clause-whole g c κs lives = rests_whole c.args.builder.now c.loop-limit.path c.loop-limit.invariant.rests

pub returns-in-Some-clause-covers : goal.returns-in-Some-clause-covers
returns-in-Some-clause-covers g c = λ does words true.
    let z = c.loop-limit.invariant.checking does words true in
    let saved = c.in_ok-save.ensures.saved in
    rw c.stopped.ensures
    (checking_stops c.args.builder.now (by_function does) [] g.V.Visitor.takes c.args.visitor.now (g.S.CheckpointStore.gives c.args.store.now) (g.S.CheckpointStore.holds c.loop-limit.store) c.loop-limit.path
    c.loop-limit.visitor c.loop-limit.runs z.0 (all_told words c.loop-limit.states) c.loop-limit.ways z.2 (g.S.CheckpointStore.holds c.save.new.store) saved.0 saved.1 c.loop-limit.met c.len.result c.in-Some.limit
    (g.C.Clock.answered c.reached.new.clock) c.in-Some.ensures.reached)

pub returns-in-Failed-clause-covers : goal.returns-in-Failed-clause-covers
returns-in-Failed-clause-covers g c = λ does words true.
    let b = c.args.builder.now in
    let next = by_function does in
    let takes = g.V.Visitor.takes in
    let v0 = c.args.visitor.now in
    let gives = g.S.CheckpointStore.gives c.args.store.now in
    let now = g.S.CheckpointStore.holds c.keep.new.store in
    let answered = g.C.Clock.answered c.reached.new.clock in
    let path = c.loop-limit.path in
    let visitor = c.loop-limit.visitor in
    let count = c.loop-limit.runs in
    let noted = all_told words c.loop-limit.states in
    let ways = c.loop-limit.ways in
    let after = c.run_known.new.path in
    let more = all_told words c.run_known.new.states in
    let came = c.in_ok-value.field-0 in
    let z = c.loop-limit.invariant.checking does words true in
    let kept = checking_kept b next [] takes v0 gives (g.S.CheckpointStore.holds c.loop-limit.store) path visitor count z.0 noted ways z.2 now c.loop-limit.until_save c.in_ok-until_save.until_save z.1 c.in_ok-until_save.ensures.kept in
    let here = kept.1 in
    let few : kept.0 + 1 ≤ b.checkpoint_interval = omega (arith, kept.2) in
    let ran = ran_so b next [] takes v0 here.start path c.limits.result.max_threads c.limits.result.max_steps noted came after more c.limits.ensures.threads c.limits.ensures.steps here.covering.rests here.covering.explained
    (c.in_ok-value.ensures.along does words true) in
    rw c.failed.ensures
    (checking_fails b next [] takes v0 gives now path visitor count kept.0 noted ways here few answered after more came ran c.in-Failed.failure
    c.in_ok-failing-in-Failed.failing.failure c.in_ok-failing-in-Failed.failing.choices c.loop-limit.met c.len-in-Failed.result c.in-Failed.is (c.in_ok-failing-in-Failed.ensures b))

pub returns-then-not-step-clause-covers : goal.returns-then-not-step-clause-covers
returns-then-not-step-clause-covers g c = λ does words true.
    let b = c.args.builder.now in
    let next = by_function does in
    let takes = g.V.Visitor.takes in
    let v0 = c.args.visitor.now in
    let gives = g.S.CheckpointStore.gives c.args.store.now in
    let now = g.S.CheckpointStore.holds c.keep.new.store in
    let answered = g.C.Clock.answered c.reached.new.clock in
    let path = c.loop-limit.path in
    let visitor = c.loop-limit.visitor in
    let count = c.loop-limit.runs in
    let noted = all_told words c.loop-limit.states in
    let ways = c.loop-limit.ways in
    let after = c.run_known.new.path in
    let more = all_told words c.run_known.new.states in
    let came = c.in_ok-value.field-0 in
    let z = c.loop-limit.invariant.checking does words true in
    let kept = checking_kept b next [] takes v0 gives (g.S.CheckpointStore.holds c.loop-limit.store) path visitor count z.0 noted ways z.2 now c.loop-limit.until_save c.in_ok-until_save.until_save z.1 c.in_ok-until_save.ensures.kept in
    let here = kept.1 in
    let few : kept.0 + 1 ≤ b.checkpoint_interval = omega (arith, kept.2) in
    let ran = ran_so b next [] takes v0 here.start path c.limits.result.max_threads c.limits.result.max_steps noted came after more c.limits.ensures.threads c.limits.ensures.steps here.covering.rests here.covering.explained
    (c.in_ok-value.ensures.along does words true) in
    let new = c.match-branch-5.visitor in
    let counted = c.match-branch-5.runs in
    let made = c.as_slice.result.now in
    let to = c.match-branch-5.to in
    let grown = c.add_run.new.self in
    let is_made : made ≡ chosen after = c.as_slice.ensures ∙ c.in_ok-choices.ensures in
    let number : c.len-noted.result ≡ length noted.states = c.len-noted.ensures ∙ sym (length-map c.loop-limit.states.states (told_in words)) in
    let added : HasAdded b next [] takes v0 here.start noted more made to ways grown =
    record {
      adds = subst (λ l. AddsRun l made to ways.ways grown.ways) c.led_by.ensures c.in_ok-add_run.ensures.adds;
      whole = subst (λ n. IsReady more.led_by made n ways → IsWhole more.led_by made n to ways grown) number
          (subst (λ l. IsReady l made c.len-noted.result ways → IsWhole l made c.len-noted.result to ways grown) c.led_by.ensures c.in_ok-add_run.ensures.whole);
    } in
    let has : HasRun b next [] takes v0 gives now path visitor count kept.0 noted ways here few answered after more came ran new counted to made is_made grown added =
    elim c.match-branch-5.branch [
      | in-Ended+in_ok-give-in-Ended w ↦
          run_ended b next [] takes v0 gives now path visitor count kept.0 noted ways here few answered after more came ran new counted to made is_made grown added
          w.in-Ended.value w.give.new.visitor w.in-Ended.is w.in_ok-give-in-Ended.ensures w.visitor-is w.runs-is w.to-is
      | in-Met w ↦
          run_met b next [] takes v0 gives now path visitor count kept.0 noted ways here few answered after more came ran new counted to made is_made grown added
          w.in-Met.number w.in-Met.is w.visitor-is w.runs-is w.to-is
    ] in
    has.ends c.step.new.self.nodes c.step.result c.in_ok-told.field-0 c.step.ensures.steps (search rules) (subst (λ l. IsToldBy grown.ways l counted c.in_ok-told.field-0) c.led_by-then-not-step.ensures c.in_ok-told.ensures)

pub loop-limit-preserved : goal.loop-limit-preserved
loop-limit-preserved g c =
    let fits : c.loop-limit.runs + c.loop-limit.met < 18446744073709551615 = c.in_default.ensures.fits (search rules) in
    let within : c.match-branch-5.runs + c.match-branch-5.met ≤ 18446744073709551615 = elim c.match-branch-5.branch [
      | in-Ended+in_ok-give-in-Ended w ↦ omega (arith, fits, w.runs-is, w.met-is)
      | in-Met w ↦ omega (arith, fits, w.runs-is, w.met-is)
    ] in
    record {
      within = within;
      rests = rests_again c.args.builder.now c.loop-limit.path c.run_known.new.path c.step.new.self c.loop-limit.invariant.rests c.run_known.ensures.same c.step.ensures.rest;
      checking = λ does words true.
          let b = c.args.builder.now in
          let next = by_function does in
          let takes = g.V.Visitor.takes in
          let v0 = c.args.visitor.now in
          let gives = g.S.CheckpointStore.gives c.args.store.now in
          let now = g.S.CheckpointStore.holds c.keep.new.store in
          let answered = g.C.Clock.answered c.reached.new.clock in
          let path = c.loop-limit.path in
          let visitor = c.loop-limit.visitor in
          let count = c.loop-limit.runs in
          let noted = all_told words c.loop-limit.states in
          let ways = c.loop-limit.ways in
          let after = c.run_known.new.path in
          let more = all_told words c.run_known.new.states in
          let came = c.in_ok-value.field-0 in
          let z = c.loop-limit.invariant.checking does words true in
          let kept = checking_kept b next [] takes v0 gives (g.S.CheckpointStore.holds c.loop-limit.store) path visitor count z.0 noted ways z.2 now c.loop-limit.until_save c.in_ok-until_save.until_save z.1 c.in_ok-until_save.ensures.kept in
          let here = kept.1 in
          let few : kept.0 + 1 ≤ b.checkpoint_interval = omega (arith, kept.2) in
          let ran = ran_so b next [] takes v0 here.start path c.limits.result.max_threads c.limits.result.max_steps noted came after more c.limits.ensures.threads c.limits.ensures.steps here.covering.rests here.covering.explained
          (c.in_ok-value.ensures.along does words true) in
          let new = c.match-branch-5.visitor in
          let counted = c.match-branch-5.runs in
          let made = c.as_slice.result.now in
          let to = c.match-branch-5.to in
          let grown = c.add_run.new.self in
          let is_made : made ≡ chosen after = c.as_slice.ensures ∙ c.in_ok-choices.ensures in
          let number : c.len-noted.result ≡ length noted.states = c.len-noted.ensures ∙ sym (length-map c.loop-limit.states.states (told_in words)) in
          let added : HasAdded b next [] takes v0 here.start noted more made to ways grown =
          record {
            adds = subst (λ l. AddsRun l made to ways.ways grown.ways) c.led_by.ensures c.in_ok-add_run.ensures.adds;
            whole = subst (λ n. IsReady more.led_by made n ways → IsWhole more.led_by made n to ways grown) number
                (subst (λ l. IsReady l made c.len-noted.result ways → IsWhole l made c.len-noted.result to ways grown) c.led_by.ensures c.in_ok-add_run.ensures.whole);
          } in
          let has : HasRun b next [] takes v0 gives now path visitor count kept.0 noted ways here few answered after more came ran new counted to made is_made grown added =
          elim c.match-branch-5.branch [
            | in-Ended+in_ok-give-in-Ended w ↦
                run_ended b next [] takes v0 gives now path visitor count kept.0 noted ways here few answered after more came ran new counted to made is_made grown added
                w.in-Ended.value w.give.new.visitor w.in-Ended.is w.in_ok-give-in-Ended.ensures w.visitor-is w.runs-is w.to-is
            | in-Met w ↦
                run_met b next [] takes v0 gives now path visitor count kept.0 noted ways here few answered after more came ran new counted to made is_made grown added
                w.in-Met.number w.in-Met.is w.visitor-is w.runs-is w.to-is
          ] in
          (kept.0 + 1, omega (arith, kept.2), has.on c.step.new.self c.step.result c.step.ensures.steps (search rules) c.step.ensures.rest c.run_known.ensures.same);
      faultless = c.in_ok-until_save.ensures.faults ∙ c.loop-limit.invariant.faultless;
    }

-- ---- errors

pub returns-in_err-path-clause-left : goal.returns-in_err-path-clause-left
returns-in_err-path-clause-left g c = λ does words true. on_error c.from_residual.result (inl c.in_err-path.ensures.left)

pub returns-in_err-path-clause-faults : goal.returns-in_err-path-clause-faults
returns-in_err-path-clause-faults g c =
    counted_begin c.begin_cover.result c.from_residual.result c.in_err-path.field-0.0 _ _ c.in_err-path.was c.from_residual.ensures.1 c.begin_cover.ensures.faults

pub returns-in_err-save-clause-left : goal.returns-in_err-save-clause-left
returns-in_err-save-clause-left g c =
    left_unsaved c.args.builder.now g.V.Visitor.takes c.args.visitor.now (g.S.CheckpointStore.gives c.args.store.now) c.args.recording.now (g.S.CheckpointStore.holds c.loop-limit.store) c.loop-limit.path c.loop-limit.visitor
    c.loop-limit.runs c.loop-limit.until_save c.loop-limit.states c.loop-limit.ways c.loop-limit.invariant.checking (g.S.CheckpointStore.holds c.args.store.now)
    (g.S.CheckpointStore.holds c.save.new.store) c.from_residual-in_err-save.result c.in_err-save.ensures.left

pub returns-in_err-save-clause-faults : goal.returns-in_err-save-clause-faults
returns-in_err-save-clause-faults g c =
    counted_save c.from_residual-in_err-save.result c.in_err-save.field-0.0 _ _ _ c.loop-limit.invariant.faultless c.in_err-save.ensures.faults c.from_residual-in_err-save.ensures.1

pub returns-in_err-until_save-clause-left : goal.returns-in_err-until_save-clause-left
returns-in_err-until_save-clause-left g c =
    left_unsaved c.args.builder.now g.V.Visitor.takes c.args.visitor.now (g.S.CheckpointStore.gives c.args.store.now) c.args.recording.now (g.S.CheckpointStore.holds c.loop-limit.store) c.loop-limit.path c.loop-limit.visitor
    c.loop-limit.runs c.loop-limit.until_save c.loop-limit.states c.loop-limit.ways c.loop-limit.invariant.checking (g.S.CheckpointStore.holds c.args.store.now)
    (g.S.CheckpointStore.holds c.keep.new.store) c.from_residual-in_err-until_save.result c.in_err-until_save.ensures.left

pub returns-in_err-until_save-clause-faults : goal.returns-in_err-until_save-clause-faults
returns-in_err-until_save-clause-faults g c =
    counted_save c.from_residual-in_err-until_save.result c.in_err-until_save.field-0.0 _ _ _ c.loop-limit.invariant.faultless c.in_err-until_save.ensures.faults c.from_residual-in_err-until_save.ensures.1

pub returns-in_err-value-clause-left : goal.returns-in_err-value-clause-left
returns-in_err-value-clause-left g c =
    left_behind c.args.builder.now g.V.Visitor.takes c.args.visitor.now (g.S.CheckpointStore.gives c.args.store.now) c.args.recording.now (g.S.CheckpointStore.holds c.loop-limit.store) c.loop-limit.path c.loop-limit.visitor
    c.loop-limit.runs c.loop-limit.until_save c.loop-limit.states c.loop-limit.ways c.loop-limit.invariant.checking (g.S.CheckpointStore.holds c.args.store.now)
    (g.S.CheckpointStore.holds c.keep.new.store) c.from_residual-in_err-value.result c.in_ok-until_save.until_save c.in_ok-until_save.ensures.kept

pub returns-in_err-value-clause-faults : goal.returns-in_err-value-clause-faults
returns-in_err-value-clause-faults g c =
    no_fault c.from_residual-in_err-value.result c.in_err-value.field-0.0 _ _ (made_error c.from_residual-in_err-value.result c.in_err-value.field-0.0 c.from_residual-in_err-value.ensures.1) (c.in_err-value.ensures.errors _)
    (c.in_ok-until_save.ensures.faults ∙ c.loop-limit.invariant.faultless)

pub returns-in_err-give-in-Ended-clause-left : goal.returns-in_err-give-in-Ended-clause-left
returns-in_err-give-in-Ended-clause-left g c =
    left_behind c.args.builder.now g.V.Visitor.takes c.args.visitor.now (g.S.CheckpointStore.gives c.args.store.now) c.args.recording.now (g.S.CheckpointStore.holds c.loop-limit.store) c.loop-limit.path c.loop-limit.visitor
    c.loop-limit.runs c.loop-limit.until_save c.loop-limit.states c.loop-limit.ways c.loop-limit.invariant.checking (g.S.CheckpointStore.holds c.args.store.now)
    (g.S.CheckpointStore.holds c.keep.new.store) c.from_residual-in_err-give-in-Ended.result c.in_ok-until_save.until_save c.in_ok-until_save.ensures.kept

pub returns-in_err-give-in-Ended-clause-faults : goal.returns-in_err-give-in-Ended-clause-faults
returns-in_err-give-in-Ended-clause-faults g c =
    memory_faultless c.from_residual-in_err-give-in-Ended.result _ _ c.from_residual-in_err-give-in-Ended.ensures.1 (c.in_ok-until_save.ensures.faults ∙ c.loop-limit.invariant.faultless)

pub returns-in_err-failing-in-Failed-clause-left : goal.returns-in_err-failing-in-Failed-clause-left
returns-in_err-failing-in-Failed-clause-left g c =
    left_behind c.args.builder.now g.V.Visitor.takes c.args.visitor.now (g.S.CheckpointStore.gives c.args.store.now) c.args.recording.now (g.S.CheckpointStore.holds c.loop-limit.store) c.loop-limit.path c.loop-limit.visitor
    c.loop-limit.runs c.loop-limit.until_save c.loop-limit.states c.loop-limit.ways c.loop-limit.invariant.checking (g.S.CheckpointStore.holds c.args.store.now)
    (g.S.CheckpointStore.holds c.keep.new.store) c.from_residual-in_err-failing-in-Failed.result c.in_ok-until_save.until_save c.in_ok-until_save.ensures.kept

pub returns-in_err-failing-in-Failed-clause-faults : goal.returns-in_err-failing-in-Failed-clause-faults
returns-in_err-failing-in-Failed-clause-faults g c =
    memory_faultless c.from_residual-in_err-failing-in-Failed.result _ _ c.from_residual-in_err-failing-in-Failed.ensures.1 (c.in_ok-until_save.ensures.faults ∙ c.loop-limit.invariant.faultless)

pub returns-in_err-choices-clause-left : goal.returns-in_err-choices-clause-left
returns-in_err-choices-clause-left g c =
    left_behind c.args.builder.now g.V.Visitor.takes c.args.visitor.now (g.S.CheckpointStore.gives c.args.store.now) c.args.recording.now (g.S.CheckpointStore.holds c.loop-limit.store) c.loop-limit.path c.loop-limit.visitor
    c.loop-limit.runs c.loop-limit.until_save c.loop-limit.states c.loop-limit.ways c.loop-limit.invariant.checking (g.S.CheckpointStore.holds c.args.store.now)
    (g.S.CheckpointStore.holds c.keep.new.store) c.from_residual-in_err-choices.result c.in_ok-until_save.until_save c.in_ok-until_save.ensures.kept

pub returns-in_err-choices-clause-faults : goal.returns-in_err-choices-clause-faults
returns-in_err-choices-clause-faults g c =
    memory_faultless c.from_residual-in_err-choices.result _ _ c.from_residual-in_err-choices.ensures.1 (c.in_ok-until_save.ensures.faults ∙ c.loop-limit.invariant.faultless)

pub returns-in_err-add_run-clause-left : goal.returns-in_err-add_run-clause-left
returns-in_err-add_run-clause-left g c =
    left_behind c.args.builder.now g.V.Visitor.takes c.args.visitor.now (g.S.CheckpointStore.gives c.args.store.now) c.args.recording.now (g.S.CheckpointStore.holds c.loop-limit.store) c.loop-limit.path c.loop-limit.visitor
    c.loop-limit.runs c.loop-limit.until_save c.loop-limit.states c.loop-limit.ways c.loop-limit.invariant.checking (g.S.CheckpointStore.holds c.args.store.now)
    (g.S.CheckpointStore.holds c.keep.new.store) c.from_residual-in_err-add_run.result c.in_ok-until_save.until_save c.in_ok-until_save.ensures.kept

pub returns-in_err-add_run-clause-faults : goal.returns-in_err-add_run-clause-faults
returns-in_err-add_run-clause-faults g c =
    memory_faultless c.from_residual-in_err-add_run.result _ _ c.from_residual-in_err-add_run.ensures.1 (c.in_ok-until_save.ensures.faults ∙ c.loop-limit.invariant.faultless)

pub returns-in_err-told-clause-left : goal.returns-in_err-told-clause-left
returns-in_err-told-clause-left g c =
    left_behind c.args.builder.now g.V.Visitor.takes c.args.visitor.now (g.S.CheckpointStore.gives c.args.store.now) c.args.recording.now (g.S.CheckpointStore.holds c.loop-limit.store) c.loop-limit.path c.loop-limit.visitor
    c.loop-limit.runs c.loop-limit.until_save c.loop-limit.states c.loop-limit.ways c.loop-limit.invariant.checking (g.S.CheckpointStore.holds c.args.store.now)
    (g.S.CheckpointStore.holds c.keep.new.store) c.from_residual-in_err-told.result c.in_ok-until_save.until_save c.in_ok-until_save.ensures.kept

pub returns-in_err-told-clause-faults : goal.returns-in_err-told-clause-faults
returns-in_err-told-clause-faults g c =
    memory_faultless c.from_residual-in_err-told.result _ _ c.from_residual-in_err-told.ensures.1 (c.in_ok-until_save.ensures.faults ∙ c.loop-limit.invariant.faultless)
