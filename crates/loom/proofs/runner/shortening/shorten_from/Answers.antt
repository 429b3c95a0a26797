use Rattle.std.proofs.Common.{◌≡◌, ◌∙◌, ◌+◌, Bool, [], ap, ap₂, inl, inr, refl, arith}
use Rattle.std.specs.Fn.{CalledAtMut}
use Rattle.loom_engine.specs.Path.Route.{at_rest}
use Rattle.loom_engine.specs.Trees.Meeting.{Settings}
use Rattle.loom.specs.declared.runner.shortening.Failing.{Failing}
use Rattle.loom.specs.Runner.Replay.{following}
use Rattle.loom.specs.Runner.Shortening.{BreaksOff}
use Rattle.loom.proofs.Closures.Refusing.{handed_on}
use Rattle.loom.proofs.Closures.Shortening.{breaks_off, found_so, goes_on, most_within}
use Rattle.loom.proofs.runner.shortening.shorten_from.Goals as goal

pub returns-in_err-change-clause-errors : goal.returns-in_err-change-clause-errors
returns-in_err-change-clause-errors g c = λ first z.
    let start : c.new-path.result ≡ following c.args.builder.now [] = c.new-path.ensures ∙ ap₂ (λ (s : Settings) (e : Bool). at_rest s e []) c.drawn_search.ensures.settings c.drawn_search.ensures.explores in
    handed_on c.from_residual.result c.in_err-change.field-0.0 (BreaksOff (CalledAtMut g.F.FnMut) c.args.builder.now first) c.from_residual.ensures.1
    (breaks_off (CalledAtMut g.F.FnMut) c.args.builder.now first c.runs.closure (c.runs.behind + 1) c.runs.shortest c.runs.last (c.runs.invariant.under_way first z) c.new-path.result start (c.runs.behind + 1 + 1)
    c.in_err-change.field-0.0 refl c.in_err-change.ensures.errors)

pub returns-in_default-clause-found : goal.returns-in_default-clause-found
returns-in_default-clause-found g c = λ first z.
    found_so (CalledAtMut g.F.FnMut) c.args.builder.now first c.runs.closure (c.runs.behind + 1) c.runs.shortest c.runs.last (c.runs.invariant.under_way first z) c.args.most_runs c.found.result c.found.ensures.failure
    c.found.ensures.choices c.found.ensures.runs (inr (omega (arith, c.saturating_sub-more.ensures)))

pub runs-preserved : goal.runs-preserved
runs-preserved g c =
    let start : c.new-path.result ≡ following c.args.builder.now [] = c.new-path.ensures ∙ ap₂ (λ (s : Settings) (e : Bool). at_rest s e []) c.drawn_search.ensures.settings c.drawn_search.ensures.explores in
    record {
      callable = c.try_change.ensures.again;
      kind = (elim c.better_of-better.ensures [ inl same ↦ ap (λ (x : Failing). x.failure.kind) same ∙ c.runs.invariant.kind | inr tried ↦ tried.1 ∙ c.runs.invariant.kind ]);
      under_way = λ first z.
          goes_on (CalledAtMut g.F.FnMut) c.args.builder.now first c.runs.closure (c.runs.behind + 1) c.runs.shortest c.runs.last (c.runs.invariant.under_way first z) c.new-path.result start c.try_change.new.closure
          c.in-Some.tried.failing c.better_of-better.result.shortest c.try_change.new.last (rw c.in-Some.is at c.in_ok-change.ensures.tried) c.better_of-better.ensures;
    }

pub returns-clause-found : goal.returns-clause-found
returns-clause-found g c = λ first z.
    found_so (CalledAtMut g.F.FnMut) c.args.builder.now first c.runs.closure (c.runs.behind + 1) c.runs.shortest c.runs.last (c.runs.invariant.under_way first z) c.args.most_runs c.found-2.result c.found-2.ensures.failure
    c.found-2.ensures.choices (omega (arith, c.found-2.ensures.runs)) (most_within c.args.most_runs c.runs.behind (omega (arith, c.saturating_sub-more.ensures)))
