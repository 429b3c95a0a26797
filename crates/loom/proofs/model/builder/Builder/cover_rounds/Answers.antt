use Rattle.std.proofs.Common.{◌≡◌, ◌+◌, ◌<◌, ◌≤◌, inr, refl, arith, rules, ap, sym, ◌∙◌, subst}
use Rattle.loom_objects.specs.Exploring.{initially}
use Rattle.loom_engine.specs.Covering.Between.{AddsRun, IsReady, IsWhole}
use Rattle.loom_engine.specs.Path.Route.{Route, chosen}
use Rattle.loom_engine.specs.Trees.Meeting.{whole_search}
use Rattle.loom_objects.specs.declared.failure.Failure.{Failure}
use Rattle.loom.specs.declared.model.cover.run.Ending.TheVariants as end
use Rattle.loom.specs.Model.Covered.{IsToldBy}
use Rattle.loom.specs.Model.Settings.{explores}
use Rattle.loom.proofs.ModelLemmas.CoverRounds.{HasAdded, HasRun, checking_fails, checking_kept, checking_left, checking_starts, checking_stops, left_after, left_before, left_late, no_cover_beginning, ran_alone, run_ended, run_met}
use Rattle.loom.proofs.ModelLemmas.CoverSnapshots.{left_on, none_left}
use Rattle.loom.proofs.ModelLemmas.Errors.{on_error, uncounted}
use Rattle.loom.proofs.model.builder.Builder.cover_rounds.Goals.{in-Ended+in_ok-receive-in-Ended, in-Met}
use Rattle.loom.proofs.model.builder.Builder.cover_rounds.Goals as goal

pub returns-in_err-path-clause-errors : goal.returns-in_err-path-clause-errors
returns-in_err-path-clause-errors g c =
    no_cover_beginning c.args.self.now (g.S.CheckpointStore.gives c.args.store.now) (c.args.receiver.now ≡ c.args.receiver.now) c.from_residual.result c.in_err-path.field-0.0 refl c.in_err-path.ensures.errors c.from_residual.ensures.1

pub loop-limit-init : goal.loop-limit-init
loop-limit-init g c = record {
  most = 0;
  few = omega (arith, c.requires.interval);
  within = omega arith;
  checking =
      checking_starts c.args.self.now g.B.Body.next c.args.body.now g.R.Receiver.receives c.args.receiver.now (g.S.CheckpointStore.gives c.args.store.now) (g.S.CheckpointStore.holds c.begin_cover.new.store) c.in_ok-path.path
      c.args.states.now c.new-ways.result c.in_ok-path.ensures.begun c.args.states.now.never c.requires.none c.requires.known c.new-ways.ensures;
  left = none_left g.B.Body.next c.args.self.now.max_branches (explores c.args.self.now) c.args.self.now.max_threads c.args.self.now.max_steps c.args.body.now c.in_ok-path.path.nodes c.args.room.now.snapshots c.requires.anew;
  faultless = uncounted c.begin_cover.result c.in_ok-path.path _ _ c.in_ok-path.was c.begin_cover.ensures.faults;
}

pub run-requires-clause-starts : goal.run-requires-clause-starts
run-requires-clause-starts g c =
    let rests = c.loop-limit.invariant.checking.covering.rests in
    (ap (λ (r : Route). r.position) rests, refl, ap (λ (r : Route). r.exploring) rests ∙ ap (λ e. initially e) (sym (ap (λ (r : Route). r.explores) rests)))

pub run-requires-clause-unguided : goal.run-requires-clause-unguided
run-requires-clause-unguided g c = ap (λ (r : Route). r.given) c.loop-limit.invariant.checking.covering.rests

pub run-requires-clause-whole : goal.run-requires-clause-whole
run-requires-clause-whole g c =
    let rests = c.loop-limit.invariant.checking.covering.rests in
    ap (λ (r : Route). r.search) rests ∙ sym (ap (λ (r : Route). whole_search r.search.max_branches) rests)

pub run-requires-clause-left : goal.run-requires-clause-left
run-requires-clause-left g c =
    let z = c.loop-limit.invariant in
    left_before c.args.self.now g.B.Body.next c.args.body.now g.R.Receiver.receives c.args.receiver.now z.checking.start c.loop-limit.path c.limits.result.max_threads c.limits.result.max_steps c.loop-limit.states c.loop-limit.room.snapshots
    c.limits.ensures.threads c.limits.ensures.steps z.checking.covering.rests z.left

pub returns-in-Some-clause-covers : goal.returns-in-Some-clause-covers
returns-in-Some-clause-covers g c =
    let z = c.loop-limit.invariant in
    let saved = c.in_ok-save.ensures.saved in
    rw c.stopped.ensures
    (checking_stops c.args.self.now g.B.Body.next c.args.body.now g.R.Receiver.receives c.args.receiver.now (g.S.CheckpointStore.gives c.args.store.now) (g.S.CheckpointStore.holds c.loop-limit.store) c.loop-limit.path
    c.loop-limit.receiver c.loop-limit.runs z.most c.loop-limit.states c.loop-limit.ways z.checking (g.S.CheckpointStore.holds c.save.new.store) saved.0 saved.1 c.loop-limit.met c.len.result c.in-Some.limit
    (g.C.Clock.answered c.reached.new.clock) c.in-Some.ensures.reached)

pub returns-in_err-save-clause-left : goal.returns-in_err-save-clause-left
returns-in_err-save-clause-left g c =
    let z = c.loop-limit.invariant in
    on_error c.from_residual-in_err-save.result
    (inr (checking_left c.args.self.now g.B.Body.next c.args.body.now g.R.Receiver.receives c.args.receiver.now (g.S.CheckpointStore.gives c.args.store.now) (g.S.CheckpointStore.holds c.loop-limit.store) c.loop-limit.path
    c.loop-limit.receiver c.loop-limit.runs z.most c.loop-limit.states c.loop-limit.ways z.checking (g.S.CheckpointStore.holds c.save.new.store) (omega (arith, z.few)) c.in_err-save.ensures.left))

pub returns-in_err-until_save-clause-left : goal.returns-in_err-until_save-clause-left
returns-in_err-until_save-clause-left g c =
    let z = c.loop-limit.invariant in
    on_error c.from_residual-in_err-until_save.result
    (inr (checking_left c.args.self.now g.B.Body.next c.args.body.now g.R.Receiver.receives c.args.receiver.now (g.S.CheckpointStore.gives c.args.store.now) (g.S.CheckpointStore.holds c.loop-limit.store) c.loop-limit.path
    c.loop-limit.receiver c.loop-limit.runs z.most c.loop-limit.states c.loop-limit.ways z.checking (g.S.CheckpointStore.holds c.keep.new.store) (omega (arith, z.few)) c.in_err-until_save.ensures.left))

pub returns-in_err-value-clause-left : goal.returns-in_err-value-clause-left
returns-in_err-value-clause-left g c =
    let z = c.loop-limit.invariant in
    on_error c.from_residual-in_err-value.result
    (inr (left_late c.args.self.now g.B.Body.next c.args.body.now g.R.Receiver.receives c.args.receiver.now (g.S.CheckpointStore.gives c.args.store.now) (g.S.CheckpointStore.holds c.loop-limit.store) c.loop-limit.path
    c.loop-limit.receiver c.loop-limit.runs z.most c.loop-limit.states c.loop-limit.ways z.checking (g.S.CheckpointStore.holds c.keep.new.store) c.loop-limit.until_save c.in_ok-until_save.until_save z.few
    c.in_ok-until_save.ensures.kept))

pub returns-in_err-receive-in-Ended-clause-left : goal.returns-in_err-receive-in-Ended-clause-left
returns-in_err-receive-in-Ended-clause-left g c =
    let z = c.loop-limit.invariant in
    on_error c.from_residual-in_err-receive-in-Ended.result
    (inr (left_late c.args.self.now g.B.Body.next c.args.body.now g.R.Receiver.receives c.args.receiver.now (g.S.CheckpointStore.gives c.args.store.now) (g.S.CheckpointStore.holds c.loop-limit.store) c.loop-limit.path
    c.loop-limit.receiver c.loop-limit.runs z.most c.loop-limit.states c.loop-limit.ways z.checking (g.S.CheckpointStore.holds c.keep.new.store) c.loop-limit.until_save c.in_ok-until_save.until_save z.few
    c.in_ok-until_save.ensures.kept))

pub returns-in_err-failing-in-Failed-clause-left : goal.returns-in_err-failing-in-Failed-clause-left
returns-in_err-failing-in-Failed-clause-left g c =
    let z = c.loop-limit.invariant in
    on_error c.from_residual-in_err-failing-in-Failed.result
    (inr (left_late c.args.self.now g.B.Body.next c.args.body.now g.R.Receiver.receives c.args.receiver.now (g.S.CheckpointStore.gives c.args.store.now) (g.S.CheckpointStore.holds c.loop-limit.store) c.loop-limit.path
    c.loop-limit.receiver c.loop-limit.runs z.most c.loop-limit.states c.loop-limit.ways z.checking (g.S.CheckpointStore.holds c.keep.new.store) c.loop-limit.until_save c.in_ok-until_save.until_save z.few
    c.in_ok-until_save.ensures.kept))

pub returns-in_err-choices-clause-left : goal.returns-in_err-choices-clause-left
returns-in_err-choices-clause-left g c =
    let z = c.loop-limit.invariant in
    on_error c.from_residual-in_err-choices.result
    (inr (left_late c.args.self.now g.B.Body.next c.args.body.now g.R.Receiver.receives c.args.receiver.now (g.S.CheckpointStore.gives c.args.store.now) (g.S.CheckpointStore.holds c.loop-limit.store) c.loop-limit.path
    c.loop-limit.receiver c.loop-limit.runs z.most c.loop-limit.states c.loop-limit.ways z.checking (g.S.CheckpointStore.holds c.keep.new.store) c.loop-limit.until_save c.in_ok-until_save.until_save z.few
    c.in_ok-until_save.ensures.kept))

pub returns-in_err-add_run-clause-left : goal.returns-in_err-add_run-clause-left
returns-in_err-add_run-clause-left g c =
    let z = c.loop-limit.invariant in
    on_error c.from_residual-in_err-add_run.result
    (inr (left_late c.args.self.now g.B.Body.next c.args.body.now g.R.Receiver.receives c.args.receiver.now (g.S.CheckpointStore.gives c.args.store.now) (g.S.CheckpointStore.holds c.loop-limit.store) c.loop-limit.path
    c.loop-limit.receiver c.loop-limit.runs z.most c.loop-limit.states c.loop-limit.ways z.checking (g.S.CheckpointStore.holds c.keep.new.store) c.loop-limit.until_save c.in_ok-until_save.until_save z.few
    c.in_ok-until_save.ensures.kept))

pub returns-in_err-told-clause-left : goal.returns-in_err-told-clause-left
returns-in_err-told-clause-left g c =
    let z = c.loop-limit.invariant in
    on_error c.from_residual-in_err-told.result
    (inr (left_late c.args.self.now g.B.Body.next c.args.body.now g.R.Receiver.receives c.args.receiver.now (g.S.CheckpointStore.gives c.args.store.now) (g.S.CheckpointStore.holds c.loop-limit.store) c.loop-limit.path
    c.loop-limit.receiver c.loop-limit.runs z.most c.loop-limit.states c.loop-limit.ways z.checking (g.S.CheckpointStore.holds c.keep.new.store) c.loop-limit.until_save c.in_ok-until_save.until_save z.few
    c.in_ok-until_save.ensures.kept))

pub returns-in-Failed-clause-covers : goal.returns-in-Failed-clause-covers
returns-in-Failed-clause-covers g c =
    let b = c.args.self.now in
    let gives = g.S.CheckpointStore.gives c.args.store.now in
    let now = g.S.CheckpointStore.holds c.keep.new.store in
    let answered = g.C.Clock.answered c.reached.new.clock in
    let path = c.loop-limit.path in
    let visitor = c.loop-limit.receiver in
    let count = c.loop-limit.runs in
    let noted = c.loop-limit.states in
    let ways = c.loop-limit.ways in
    let after = c.run.new.path in
    let more = c.run.new.states in
    let came = c.in_ok-value.field-0 in
    let z = c.loop-limit.invariant in
    let kept = checking_kept b g.B.Body.next c.args.body.now g.R.Receiver.receives c.args.receiver.now gives (g.S.CheckpointStore.holds c.loop-limit.store) path visitor count z.most noted ways z.checking now
    c.loop-limit.until_save c.in_ok-until_save.until_save z.few c.in_ok-until_save.ensures.kept in
    let here = kept.1 in
    let few : kept.0 + 1 ≤ b.checkpoint_interval = omega (arith, kept.2) in
    let ran = ran_alone b g.B.Body.next c.args.body.now g.R.Receiver.receives c.args.receiver.now here.start path c.limits.result.max_threads c.limits.result.max_steps c.args.known.now noted came after more c.limits.ensures.threads
    c.limits.ensures.steps here.covering.rests c.requires.unknown here.covering.explained c.in_ok-value.ensures.along in
    rw c.failed.ensures
    (checking_fails b g.B.Body.next c.args.body.now g.R.Receiver.receives c.args.receiver.now gives now path visitor count kept.0 noted ways here few answered after more came ran c.in-Failed.failure
    c.in_ok-failing-in-Failed.failing.failure c.in_ok-failing-in-Failed.failing.choices c.loop-limit.met c.len-in-Failed.result c.in-Failed.is c.in_ok-failing-in-Failed.ensures)

pub returns-then-not-step-clause-covers : goal.returns-then-not-step-clause-covers
returns-then-not-step-clause-covers g c =
    let b = c.args.self.now in
    let gives = g.S.CheckpointStore.gives c.args.store.now in
    let now = g.S.CheckpointStore.holds c.keep.new.store in
    let answered = g.C.Clock.answered c.reached.new.clock in
    let path = c.loop-limit.path in
    let visitor = c.loop-limit.receiver in
    let count = c.loop-limit.runs in
    let noted = c.loop-limit.states in
    let ways = c.loop-limit.ways in
    let after = c.run.new.path in
    let more = c.run.new.states in
    let came = c.in_ok-value.field-0 in
    let z = c.loop-limit.invariant in
    let kept = checking_kept b g.B.Body.next c.args.body.now g.R.Receiver.receives c.args.receiver.now gives (g.S.CheckpointStore.holds c.loop-limit.store) path visitor count z.most noted ways z.checking now
    c.loop-limit.until_save c.in_ok-until_save.until_save z.few c.in_ok-until_save.ensures.kept in
    let here = kept.1 in
    let few : kept.0 + 1 ≤ b.checkpoint_interval = omega (arith, kept.2) in
    let ran = ran_alone b g.B.Body.next c.args.body.now g.R.Receiver.receives c.args.receiver.now here.start path c.limits.result.max_threads c.limits.result.max_steps c.args.known.now noted came after more c.limits.ensures.threads
    c.limits.ensures.steps here.covering.rests c.requires.unknown here.covering.explained c.in_ok-value.ensures.along in
    let new = c.match-branch-5.receiver in
    let counted = c.match-branch-5.runs in
    let made = c.as_slice.result.now in
    let to = c.match-branch-5.to in
    let grown = c.add_run.new.self in
    let is_made : made ≡ chosen after = c.as_slice.ensures ∙ c.in_ok-choices.ensures in
    let added : HasAdded b g.B.Body.next c.args.body.now g.R.Receiver.receives c.args.receiver.now here.start noted more made to ways grown =
    record {
      adds = subst (λ l. AddsRun l made to ways.ways grown.ways) c.led_by.ensures c.in_ok-add_run.ensures.adds;
      whole = subst (λ n. IsReady more.led_by made n ways → IsWhole more.led_by made n to ways grown) c.len-noted.ensures
          (subst (λ l. IsReady l made c.len-noted.result ways → IsWhole l made c.len-noted.result to ways grown) c.led_by.ensures c.in_ok-add_run.ensures.whole);
    } in
    let has : HasRun b g.B.Body.next c.args.body.now g.R.Receiver.receives c.args.receiver.now gives now path visitor count kept.0 noted ways here few answered after more came ran new counted to made is_made grown added =
    elim c.match-branch-5.branch [
      | in-Ended+in_ok-receive-in-Ended w ↦
          run_ended b g.B.Body.next c.args.body.now g.R.Receiver.receives c.args.receiver.now gives now path visitor count kept.0 noted ways here few answered after more came ran new counted to made is_made grown added
          w.in-Ended.value w.receive.new.self w.in-Ended.is w.in_ok-receive-in-Ended.ensures w.receiver-is w.runs-is w.to-is
      | in-Met w ↦
          run_met b g.B.Body.next c.args.body.now g.R.Receiver.receives c.args.receiver.now gives now path visitor count kept.0 noted ways here few answered after more came ran new counted to made is_made grown added
          w.in-Met.number w.in-Met.is w.receiver-is w.runs-is w.to-is
    ] in
    has.ends c.step.new.self.nodes c.step.result c.in_ok-told.field-0 c.step.ensures.steps (search rules) (subst (λ l. IsToldBy grown.ways l counted c.in_ok-told.field-0) c.led_by-then-not-step.ensures c.in_ok-told.ensures)

pub loop-limit-preserved : goal.loop-limit-preserved
loop-limit-preserved g c =
    let b = c.args.self.now in
    let gives = g.S.CheckpointStore.gives c.args.store.now in
    let now = g.S.CheckpointStore.holds c.keep.new.store in
    let answered = g.C.Clock.answered c.reached.new.clock in
    let path = c.loop-limit.path in
    let visitor = c.loop-limit.receiver in
    let count = c.loop-limit.runs in
    let noted = c.loop-limit.states in
    let ways = c.loop-limit.ways in
    let after = c.run.new.path in
    let more = c.run.new.states in
    let came = c.in_ok-value.field-0 in
    let z = c.loop-limit.invariant in
    let kept = checking_kept b g.B.Body.next c.args.body.now g.R.Receiver.receives c.args.receiver.now gives (g.S.CheckpointStore.holds c.loop-limit.store) path visitor count z.most noted ways z.checking now
    c.loop-limit.until_save c.in_ok-until_save.until_save z.few c.in_ok-until_save.ensures.kept in
    let here = kept.1 in
    let few : kept.0 + 1 ≤ b.checkpoint_interval = omega (arith, kept.2) in
    let ran = ran_alone b g.B.Body.next c.args.body.now g.R.Receiver.receives c.args.receiver.now here.start path c.limits.result.max_threads c.limits.result.max_steps c.args.known.now noted came after more c.limits.ensures.threads
    c.limits.ensures.steps here.covering.rests c.requires.unknown here.covering.explained c.in_ok-value.ensures.along in
    let new = c.match-branch-5.receiver in
    let counted = c.match-branch-5.runs in
    let made = c.as_slice.result.now in
    let to = c.match-branch-5.to in
    let grown = c.add_run.new.self in
    let is_made : made ≡ chosen after = c.as_slice.ensures ∙ c.in_ok-choices.ensures in
    let added : HasAdded b g.B.Body.next c.args.body.now g.R.Receiver.receives c.args.receiver.now here.start noted more made to ways grown =
    record {
      adds = subst (λ l. AddsRun l made to ways.ways grown.ways) c.led_by.ensures c.in_ok-add_run.ensures.adds;
      whole = subst (λ n. IsReady more.led_by made n ways → IsWhole more.led_by made n to ways grown) c.len-noted.ensures
          (subst (λ l. IsReady l made c.len-noted.result ways → IsWhole l made c.len-noted.result to ways grown) c.led_by.ensures c.in_ok-add_run.ensures.whole);
    } in
    let has : HasRun b g.B.Body.next c.args.body.now g.R.Receiver.receives c.args.receiver.now gives now path visitor count kept.0 noted ways here few answered after more came ran new counted to made is_made grown added =
    elim c.match-branch-5.branch [
      | in-Ended+in_ok-receive-in-Ended w ↦
          run_ended b g.B.Body.next c.args.body.now g.R.Receiver.receives c.args.receiver.now gives now path visitor count kept.0 noted ways here few answered after more came ran new counted to made is_made grown added
          w.in-Ended.value w.receive.new.self w.in-Ended.is w.in_ok-receive-in-Ended.ensures w.receiver-is w.runs-is w.to-is
      | in-Met w ↦
          run_met b g.B.Body.next c.args.body.now g.R.Receiver.receives c.args.receiver.now gives now path visitor count kept.0 noted ways here few answered after more came ran new counted to made is_made grown added
          w.in-Met.number w.in-Met.is w.receiver-is w.runs-is w.to-is
    ] in
    let fits : count + c.loop-limit.met < 18446744073709551615 = c.in_default.ensures.fits (search rules) in
    let within : counted + c.match-branch-5.met ≤ 18446744073709551615 = elim c.match-branch-5.branch [
      | in-Ended+in_ok-receive-in-Ended w ↦ omega (arith, fits, w.runs-is, w.met-is)
      | in-Met w ↦ omega (arith, fits, w.runs-is, w.met-is)
    ] in
    let well : (failure : Failure) → came ≡ end.Failed failure → ⊥ = λ failure is. elim c.match-branch-5.branch [
      | in-Ended+in_ok-receive-in-Ended w ↦ cc (w.in-Ended.is, is)
      | in-Met w ↦ cc (w.in-Met.is, is)
    ] in
    record {
      most = kept.0 + 1;
      few = omega (arith, kept.2);
      within = within;
      checking = has.on c.step.new.self c.step.result c.step.ensures.steps (search rules) c.step.ensures.rest c.run.ensures.same;
      left = left_on g.B.Body.next b.max_branches (explores b) b.max_threads b.max_steps c.args.body.now came after.nodes c.step.new.self.nodes c.run.new.room.snapshots c.step.result c.step.ensures.steps (search rules) well
          (left_after b g.B.Body.next c.args.body.now g.R.Receiver.receives c.args.receiver.now here.start path c.limits.result.max_threads c.limits.result.max_steps c.args.known.now noted came after c.run.new.room.snapshots c.limits.ensures.threads
          c.limits.ensures.steps here.covering.rests c.requires.unknown here.covering.explained c.in_ok-value.ensures.left);
      faultless = c.in_ok-until_save.ensures.faults ∙ z.faultless;
    }
