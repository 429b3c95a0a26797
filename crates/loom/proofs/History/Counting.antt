use Rattle.std.proofs.Common.{◌≡◌, ◌≤◌, ◌+◌, ℕ, zero, suc, Bool, true, false, cond, List, [], ◌∷◌, ◌++◌, ap, sym, ◌∙◌, refl, subst, length, arith, add_assoc, ◌==◌}
use Rattle.std.specs.Prelude.{slice_index, ⊤, Option, Result}
use Rattle.loom_objects.specs.declared.failure.Failure.{Failure}
use Rattle.loom_objects.specs.declared.label.Label.{Label}
use Rattle.loom_objects.specs.declared.failure.Stop.{Stop as Halt}
use Rattle.loom_objects.specs.declared.operation.Request.{Request}
use Rattle.loom_objects.specs.declared.operation.Turn.{Turn}
use Rattle.loom.specs.declared.runner.history.event.Event.{Event}
use Rattle.loom.specs.Runner.Events.{answered, calls, made, made_by, IsCounted, IsAdded}

calls_snoc : {D : Type 0} (n : ℕ) (es : List (Event D)) (e : Event D) → calls n (es ++ e ∷ []) ≡ calls n es + cond (e.by == n) 1 0
calls_snoc n [] e = omega arith
calls_snoc n (x ∷ xs) e = rw (calls_snoc n xs e) (sym (add_assoc (cond (x.by == n) 1 0) (calls n xs) (cond (e.by == n) 1 0)))

made_snoc : {D : Type 0} (es : List (Event D)) (e : Event D) → made (es ++ e ∷ []) ≡ made es + made_by e.outcome
made_snoc [] e = omega arith
made_snoc (x ∷ xs) e = rw (made_snoc xs e) (sym (add_assoc (made_by x.outcome) (made xs) (made_by e.outcome)))

one_or_none : (b : Bool) → cond b 1 0 ≤ 1
one_or_none true = omega arith
one_or_none false = omega arith

-- a thread has handed over no more operations than there are events
pub calls_most : {D : Type 0} (n : ℕ) (es : List (Event D)) → calls n es ≤ length es
calls_most n [] = omega arith
calls_most n (x ∷ xs) = omega (arith, calls_most n xs, one_or_none (x.by == n))

-- the counts of a history that is one event longer
pub counted_more : {D : Type 0} (old before new : List ℕ) (es mid es' : List (Event D)) (e : Event D) → before ≡ old → mid ≡ es → es' ≡ mid ++ e ∷ [] → IsCounted old es
    → length new ≡ length before + made_by e.outcome → ((n : ℕ) → slice_index new n ≡ slice_index before n + cond (e.by == n) 1 0) → IsCounted new es'
counted_more old before new es mid es' e same rest at is more f = record {
  threads = omega (arith, is.threads, more, made_snoc mid e, ap length same, ap made rest, ap made at);
  counted = λ n. f n ∙ (ap (λ xs. slice_index xs n + cond (e.by == n) 1 0) same ∙ (ap (λ k. k + cond (e.by == n) 1 0) (is.counted n ∙ ap (calls n) (sym rest)) ∙ (sym (calls_snoc n mid e) ∙ ap (calls n) (sym at))));
}

-- the same counts of the same history
pub counted_same : {D : Type 0} (old new : List ℕ) (es es' : List (Event D)) → new ≡ old → es' ≡ es → IsCounted old es → IsCounted new es'
counted_same old new es es' same rest is =
    let P : List ℕ → Type 0 = λ xs. IsCounted xs es' in
    let Q : List (Event _) → Type 0 = λ xs. IsCounted old xs in
    subst P (sym same) (subst Q (sym rest) is)

zeros : (n : ℕ) → slice_index (0 ∷ []) n ≡ 0
zeros zero = refl
zeros (suc n) = refl

-- before a run
pub counted_first : {D : Type 0} (counts : List ℕ) (es : List (Event D)) → counts ≡ 0 ∷ [] → es ≡ [] → IsCounted counts es
counted_first counts es one none = counted_same (0 ∷ []) counts [] es one none (record { threads = refl; counted = zeros })

-- what was added
pub added_so : {M D : Type 0} (turn passed : M → ℕ) (happens : M → Request D ⊤ → Result (Turn D) Halt → M → Type 0) (old : M) (op kept : Request D ⊤) (label : Option Label) (new : M) (before mid after : List (Event D)) (by choices : ℕ) (out : Result (Turn D) Failure)
    → by ≡ turn old → choices ≡ passed old → kept ≡ op → happens old op (answered out) new → mid ≡ before
    → after ≡ mid ++ record { by = by; op = kept; label = label; choices_before = choices; outcome = out } ∷ [] → IsAdded turn passed happens old op label new before after
added_so turn passed happens old op kept label new before mid after by choices out whose many same did rest at = record {
  event = record { by = by; op = kept; label = label; choices_before = choices; outcome = out };
  asked = same;
  labelled = refl;
  active = whose;
  choices = many;
  happens_so = did;
  history = at ∙ ap (λ es. es ++ record { by = by; op = kept; label = label; choices_before = choices; outcome = out } ∷ []) rest;
}
