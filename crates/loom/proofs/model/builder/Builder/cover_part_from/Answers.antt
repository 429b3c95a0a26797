use Rattle.std.proofs.Common.{Bool, sym, subst, inl, inr, ◌∙◌}
use Rattle.std.specs.Prelude.{IsOk, Result, ⊤}
use Rattle.std.proofs.lemmas.Result.{err_from_is_err_and}
use Rattle.loom_engine.specs.Path.Route.{settings}
use Rattle.loom_engine.specs.Trees.Meeting.{Settings, whole_search}
use Rattle.loom.specs.declared.model.error.CheckError.{CheckError}
use Rattle.loom.specs.Model.CoverPartText.{IsMetPart, IsNoMetPart}
use Rattle.loom.specs.Model.Settings.{explores}
use Rattle.loom.proofs.ModelLemmas.CoverPartTexts.{at_search, memory_of}
use Rattle.loom.proofs.model.builder.Builder.cover_part_from.Goals as goal

pub returns-in_err-test-clause-errors : goal.returns-in_err-test-clause-errors
returns-in_err-test-clause-errors c = let p = err_from_is_err_and c.from_residual.result c.from_residual.ensures.1 in rw (p.1, p.2) (inl (sym c.in_err-test.ensures.tested))

pub returns-in_err-test-clause-exact : goal.returns-in_err-test-clause-exact
returns-in_err-test-clause-exact c =
    let p = err_from_is_err_and c.from_residual.result c.from_residual.ensures.1 in
    rw (p.1, p.2) (λ fine never part met of. cc (subst (λ (r : Result ⊤ CheckError). IsOk r) (sym c.in_err-test.ensures.tested) fine))

pub returns-in-Ok-clause-ok : goal.returns-in-Ok-clause-ok
returns-in-Ok-clause-ok c =
    at_search (λ (s : Settings) (x : Bool). IsMetPart s x c.args.text.now c.in-Ok.read.0 c.in-Ok.read.1)
    (settings c.cover_search.result) (whole_search c.args.self.now.max_branches) c.cover_search.result.explores (explores c.args.self.now) c.cover_search.ensures.settings c.cover_search.ensures.explores c.in-Ok.ensures.ok

pub returns-in-Err-clause-errors : goal.returns-in-Err-clause-errors
returns-in-Err-clause-errors c = inr (
  c.in-Err.why,
  at_search (λ (s : Settings) (x : Bool). IsNoMetPart s x c.args.text.now c.in-Err.why) (settings c.cover_search.result) (whole_search c.args.self.now.max_branches) c.cover_search.result.explores (explores c.args.self.now) c.cover_search.ensures.settings
      c.cover_search.ensures.explores c.in-Err.ensures.err,
  c.refusal_of.ensures,
)

pub returns-in-Err-clause-exact : goal.returns-in-Err-clause-exact
returns-in-Err-clause-exact c = λ fine never part met of.
    c.in-Err.ensures.exact (λ is. never (c.refusal_of.ensures ∙ memory_of c.in-Err.why is)) part met
    (at_search (λ (s : Settings) (x : Bool). IsMetPart s x c.args.text.now part met) (whole_search c.args.self.now.max_branches) (settings c.cover_search.result) (explores c.args.self.now) c.cover_search.result.explores (sym c.cover_search.ensures.settings)
    (sym c.cover_search.ensures.explores) of)
