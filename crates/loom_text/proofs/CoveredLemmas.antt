-- What a complete check that remembers states says of each run.
use Rattle.std.proofs.Common.{◌≡◌, ℕ, ◌+◌, ◌<◌, ◌&&◌, true, false, List, [], ◌∷◌, map, take, Some, Ok, Err, refl, sym, ap, ◌∙◌, subst, ⊎_elim, inl, inr, arith}
use Rattle.loom_objects.specs.declared.choice.Choice.{Choice}
use Rattle.loom_views.specs.declared.rt.failure.FailureKind.{FailureKind}
use Rattle.loom_engine.specs.Covering.Covered.{IsGiven}
use Rattle.loom_engine.specs.Covering.States.{AreLimits}
use Rattle.loom_engine.specs.Covering.World.{IsCalled}
use Rattle.loom.specs.Model.Covered.{IsCovered}
use Rattle.loom.specs.declared.model.builder.Builder.{Builder}
use Rattle.loom_text.specs.declared.run.layout.Layout.{Layout}
use Rattle.loom_text.specs.declared.test.Test.{Test}
use Rattle.loom_text.specs.Run.Check.{tally_of}
use Rattle.loom_text.specs.Run.Counted.{Counted}
use Rattle.loom_text.specs.Run.Laws.{CoveredLaw, NoneMeets, is_length, runs_of, showing, world_by}
use Rattle.loom_text.specs.Run.Operators.{truth}
use Rattle.loom_text.specs.Run.Running.{Running}
use Rattle.loom_text.specs.Run.States.{counts, is_positive, is_same}
use Rattle.loom_text.specs.Run.Thread.{next_of}
use Rattle.loom_text.proofs.LawLemmas.{never_law, states_law}
use Rattle.loom_text.proofs.WholeLemmas.{shows_itself}

lengths : AreLimits is_length
lengths = record { steps = refl; versions = refl }

-- ---- a value that was given

module _ (test : Test) (layout : Layout) (made : List Choice) (value : List ℕ) where
  shown_given : (runs : List (List Choice × List ℕ)) → IsGiven made value runs → counts test layout value ≡ true → 0 < showing test layout (take layout.shown value) (map (λ run. run.1) runs)
  shown_given [] g h = absurd g
  shown_given (run ∷ runs) (inl e) h =
      let there = shows_itself test layout value h in
      subst (λ v. 0 < truth (counts test layout v && is_same (take layout.shown v) (take layout.shown value)) + showing test layout (take layout.shown value) (map (λ r. r.1) runs))
      e.1 (omega (arith, there))
  shown_given (run ∷ runs) (inr g) h = let rest = shown_given runs g h in omega (arith, rest)

  none_given : (runs : List (List Choice × List ℕ)) → IsGiven made value runs → NoneMeets test layout (map (λ run. run.1) runs) → counts test layout value ≡ true → is_positive test layout value ≡ false
  none_given [] g none h = absurd g
  none_given (run ∷ runs) (inl e) none h = subst (λ v. counts test layout v ≡ true → is_positive test layout v ≡ false) (sym e.1) none.0 h
  none_given (run ∷ runs) (inr g) none h = none_given runs g none.1 h

-- ---- the law

module _ (b : Builder) (main : Running) (made : List (List Choice × List ℕ)) (covers : IsCovered b next_of main made) where
  -- what a run comes to was given
  given_of : (steps : ℕ) (choices : List Choice) (numbers : List ℕ) → IsCalled (world_by b main steps) choices → (world_by b main steps).outcome choices ≡ Some (Ok numbers)
      → (run : List Choice) × IsGiven run numbers made
  given_of steps choices numbers called comes =
      ⊎_elim (λ stopped. absurd stopped)
      (λ (run, value, given, outcome, same).
      let both : value ≡ numbers = cc same in
      (run, subst (λ v. IsGiven run v made) both given))
      (covers is_length steps lengths choices (Ok numbers) called comes)

  too_long : (steps : ℕ) (choices : List Choice) (kind : FailureKind) → IsCalled (world_by b main steps) choices → (world_by b main steps).outcome choices ≡ Some (Err kind) → is_length kind ≡ true
  too_long steps choices kind called comes =
      ⊎_elim (λ stopped. stopped) (λ (run, value, given, outcome, same). absurd (cc same)) (covers is_length steps lengths choices (Err kind) called comes)

pub covered_law : CoveredLaw
covered_law b main test layout made counted covers are = record {
  long = too_long b main made covers;
  shown = λ steps choices numbers called comes h.
      let given = given_of b main made covers steps choices numbers called comes in
      let some = shown_given test layout given.0 numbers made given.1 h in
      let counted_so = states_law test layout (map (λ run. run.1) made) (take layout.shown numbers) in
      let same : runs_of (take layout.shown numbers) counted.states.items ≡ runs_of (take layout.shown numbers) (tally_of test layout (map (λ run. run.1) made)).states =
      ap (λ (xs : List Counted). runs_of (take layout.shown numbers) xs) are.states in
      rw (same, counted_so) some;
  never = λ none steps choices numbers called comes h.
      let given = given_of b main made covers steps choices numbers called comes in
      none_given test layout given.0 numbers made given.1 (never_law test layout (map (λ run. run.1) made) (sym are.positive ∙ none)) h;
}
