use Rattle.std.proofs.Common.{ap, sym, ◌∙◌, refl}
use Rattle.loom_objects.specs.Exploring.{initially}
use Rattle.loom_engine.specs.Path.Route.{Route}
use Rattle.loom_engine.specs.Trees.Meeting.{whole_search}
use Rattle.loom.proofs.ModelLemmas.CoverParts.{ended_goes, failed_goes, met_goes}
use Rattle.loom.proofs.ModelLemmas.CoverSnapshots.{none_left}
use Rattle.loom.proofs.model.builder.Builder.cover_run.Goals as goal

pub run-requires-clause-starts : goal.run-requires-clause-starts
run-requires-clause-starts g c =
    let rests = c.requires.starts in
    (ap (λ (r : Route). r.position) rests, refl, ap (λ (r : Route). r.exploring) rests ∙ ap (λ e. initially e) (sym (ap (λ (r : Route). r.explores) rests)))

pub run-requires-clause-unguided : goal.run-requires-clause-unguided
run-requires-clause-unguided g c = ap (λ (r : Route). r.given) c.requires.starts

pub run-requires-clause-whole : goal.run-requires-clause-whole
run-requires-clause-whole g c =
    let rests = c.requires.starts in
    ap (λ (r : Route). r.search) rests ∙ sym (ap (λ (r : Route). whole_search r.search.max_branches) rests)

pub run-requires-clause-left : goal.run-requires-clause-left
run-requires-clause-left g c =
    let path = c.args.path.now in
    none_left g.B.Body.next path.search.max_branches path.explores c.limits.result.max_threads c.limits.result.max_steps c.args.body.now path.nodes c.clear.new.self c.clear.ensures

pub returns-in_ok-run_along-in-Ended-clause-goes : goal.returns-in_ok-run_along-in-Ended-clause-goes
returns-in_ok-run_along-in-Ended-clause-goes g c =
    ended_goes c.args.self.now g.B.Body.next c.args.body.now g.V.Visitor.takes c.args.visitor.now c.args.floor c.args.known.now c.args.states.now c.run.new.states c.args.path.now c.run.new.path c.in_ok-value.field-0
    c.limits.result.max_threads c.limits.result.max_steps c.limits.ensures.threads c.limits.ensures.steps c.requires.starts c.in_ok-value.ensures.along c.run.ensures.same c.step_above-is_last.new.self c.step_above-is_last.result
    c.step_above-is_last.ensures.steps c.step_above-is_last.ensures.rest c.run_along.new.self c.in-Ended.value c.in-Ended.is c.in_ok-run_along-in-Ended.ensures

pub returns-in-Met-clause-goes : goal.returns-in-Met-clause-goes
returns-in-Met-clause-goes g c =
    met_goes c.args.self.now g.B.Body.next c.args.body.now g.V.Visitor.takes c.args.visitor.now c.args.floor c.args.known.now c.args.states.now c.run.new.states c.args.path.now c.run.new.path c.in_ok-value.field-0
    c.limits.result.max_threads c.limits.result.max_steps c.limits.ensures.threads c.limits.ensures.steps c.requires.starts c.in_ok-value.ensures.along c.run.ensures.same c.step_above-is_last-in-Met.new.self c.step_above-is_last-in-Met.result
    c.step_above-is_last-in-Met.ensures.steps c.step_above-is_last-in-Met.ensures.rest _ c.in-Met.is

pub returns-in_ok-failing-in-Failed-clause-goes : goal.returns-in_ok-failing-in-Failed-clause-goes
returns-in_ok-failing-in-Failed-clause-goes g c =
    failed_goes c.args.self.now g.B.Body.next c.args.body.now g.V.Visitor.takes c.args.visitor.now c.args.floor c.args.known.now c.args.states.now c.run.new.states c.args.path.now c.run.new.path c.in_ok-value.field-0
    c.limits.result.max_threads c.limits.result.max_steps c.limits.ensures.threads c.limits.ensures.steps c.requires.starts c.in_ok-value.ensures.along c.in-Failed.failure c.in_ok-failing-in-Failed.failing.failure
    c.in_ok-failing-in-Failed.failing.choices c.in-Failed.is c.in_ok-failing-in-Failed.ensures c.args.visitor.now c.run.new.path
