use Rattle.std.proofs.Common.{Bool, ◌≡◌, sym, subst, ◌∙◌, inl, inr, rules}
use Rattle.std.proofs.lemmas.Result.{err_from_is_err_and}
use Rattle.loom_engine.specs.Checkpoint.Accepted.{OfText}
use Rattle.loom_engine.specs.Parts.Texts.Accepted.{IsListOf, IsRefusedList, IsRefusedText}
use Rattle.loom_engine.specs.Path.Route.{settings}
use Rattle.loom_engine.specs.Trees.Meeting.{Settings}
use Rattle.loom_engine.specs.declared.rt.parts.error.PartsError.{PartsError}
use Rattle.loom_engine.specs.declared.rt.parts.error.PartsError.TheVariants.{WrongFormat}
use Rattle.loom_engine.specs.declared.rt.path.checkpoint.error.PathError.TheVariants as path
use Rattle.loom_engine.proofs.Parts.Texts.Listed.{none_refused}
use Rattle.loom.specs.Model.Settings.{explores, search_of}
use Rattle.loom.proofs.ModelLemmas.CoverPartTexts.{at_search, memory_of}
use Rattle.loom.proofs.ModelLemmas.PartTexts.{refused_none}
use Rattle.loom.proofs.model.builder.Builder.parts_from.Goals as goal

-- no list, and no path either
pub returns-in_err-path-in-Err-WrongFormat-clause-exact : goal.returns-in_err-path-in-Err-WrongFormat-clause-exact
returns-in_err-path-in-Err-WrongFormat-clause-exact c =
    let asked = c.search_settings.result in
    let no_list : IsRefusedText (IsRefusedList (settings asked) asked.explores) c.args.text.now WrongFormat = subst (λ (e : PartsError). IsRefusedText (IsRefusedList (settings asked) asked.explores) c.args.text.now e) c.in-Err-WrongFormat.field-0-is c.in-Err-WrongFormat.ensures.err in
    let p = err_from_is_err_and c.from_residual-in_err-path-in-Err-WrongFormat.result c.from_residual-in_err-path-in-Err-WrongFormat.ensures.1 in
    rw (p.1, p.2) (λ fine never parts of.
    refused_none (IsRefusedList (settings asked) asked.explores) (λ d. IsListOf (settings asked) asked.explores d parts) c.args.text.now
    (λ d e why other q. none_refused (settings asked) asked.explores d parts q e why other) WrongFormat no_list (λ m. m)
    (at_search (λ (s : Settings) (x : Bool). OfText c.args.text.now (λ d. IsListOf s x d parts)) (search_of c.args.self.now) (settings asked) (explores c.args.self.now) asked.explores (sym c.search_settings.ensures.settings)
    (sym c.search_settings.ensures.explores) of))

-- memory for the path's list is refused
pub returns-in_err-from_path-in-Err-WrongFormat-clause-errors : goal.returns-in_err-from_path-in-Err-WrongFormat-clause-errors
returns-in_err-from_path-in-Err-WrongFormat-clause-errors c =
    let asked = c.search_settings.result in
    let no_list : IsRefusedText (IsRefusedList (settings asked) asked.explores) c.args.text.now WrongFormat = subst (λ (e : PartsError). IsRefusedText (IsRefusedList (settings asked) asked.explores) c.args.text.now e) c.in-Err-WrongFormat.field-0-is c.in-Err-WrongFormat.ensures.err in
    let p = err_from_is_err_and c.from_residual-in_err-from_path-in-Err-WrongFormat.result c.from_residual-in_err-from_path-in-Err-WrongFormat.ensures.1 in
    rw (p.1) (inr (inr (
      at_search (λ (s : Settings) (x : Bool). IsRefusedText (IsRefusedList s x) c.args.text.now WrongFormat) (settings asked) (search_of c.args.self.now) asked.explores (explores c.args.self.now) c.search_settings.ensures.settings
          c.search_settings.ensures.explores no_list,
      (path.Memory c.in_err-from_path-in-Err-WrongFormat.field-0.0, tt, p.2),
    )))

-- a list's format, and refused
pub returns-in-Err : goal.returns-in-Err
returns-in-Err c =
    let asked = c.search_settings.result in
    let other : c.in-Err.why ≡ WrongFormat → ⊥ = λ e. search rules in
    record {
      refused = search rules;
      ok = tt;
      errors = inr (inl (
        c.in-Err.why,
        other,
        at_search (λ (s : Settings) (x : Bool). IsRefusedText (IsRefusedList s x) c.args.text.now c.in-Err.why) (settings asked) (search_of c.args.self.now) asked.explores (explores c.args.self.now) c.search_settings.ensures.settings
            c.search_settings.ensures.explores c.in-Err.ensures.err,
        c.refusal_of.ensures,
      ));
      exact = λ fine never parts of.
          refused_none (IsRefusedList (settings asked) asked.explores) (λ d. IsListOf (settings asked) asked.explores d parts) c.args.text.now
          (λ d e why other q. none_refused (settings asked) asked.explores d parts q e why other) c.in-Err.why c.in-Err.ensures.err
          (λ is. never (c.refusal_of.ensures ∙ memory_of c.in-Err.why is))
          (at_search (λ (s : Settings) (x : Bool). OfText c.args.text.now (λ d. IsListOf s x d parts)) (search_of c.args.self.now) (settings asked) (explores c.args.self.now) asked.explores (sym c.search_settings.ensures.settings)
          (sym c.search_settings.ensures.explores) of);
    }
