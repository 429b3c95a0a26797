-- What bytes tell, they tell once.
use Rattle.std.proofs.Common.{ℕ, ◌≡◌, ◌++◌, List, [], ◌∷◌, length, arith, refl, ap, ◌∙◌, sym, subst}
use Rattle.std.proofs.Math.Seq.{take-append_seam, drop-append_seam}
use Rattle.std.proofs.lemmas.List.{append-nil}
use Rattle.std.proofs.lemmas.Option.{none-some}
use Rattle.std.specs.Prelude.{Option, Some, None, map, take, drop}
use Rattle.loom_examples.specs.declared.scripts.step.Step.{Step}
use Rattle.loom_examples.specs.Scripts.Code.{Tell, behind_first, first, step_of}
use Rattle.loom_examples.specs.Scripts.Written.{Written, written}

-- what follows a text of this size is no part of it
pub coded : (kind keep a b c size keep' a' b' c' : ℕ) (text : List ℕ) → keep ≡ keep' → a ≡ a' → b ≡ b' → c ≡ c' → size ≡ length text → (left : List ℕ)
    → (step_of kind keep a b c (take size (text ++ left)) ≡ step_of kind keep' a' b' c' text) × (drop size (text ++ left) ≡ left)
coded kind keep a b c size keep' a' b' c' text is_keep is_a is_b is_c is left = (
  ap (λ n. step_of kind n a b c (take size (text ++ left))) is_keep
      ∙ ap (λ n. step_of kind keep' n b c (take size (text ++ left))) is_a
      ∙ ap (λ n. step_of kind keep' a' n c (take size (text ++ left))) is_b
      ∙ ap (λ n. step_of kind keep' a' b' n (take size (text ++ left))) is_c
      ∙ ap (step_of kind keep' a' b' c') (ap (λ n. take n (text ++ left)) is ∙ take-append_seam text left),
  ap (λ n. drop n (text ++ left)) is ∙ drop-append_seam text left,
)

found_or : {A : Type 0} → A → Option A → A
found_or a None = a
found_or a (Some found) = found

-- the same bytes tell the same steps
pub told_once : (bytes : List ℕ) (steps others : List Written) → Tell bytes steps → Tell bytes others → steps ≡ others
unfolding found_or
told_once bytes [] [] none none' = refl
told_once bytes [] (other ∷ others) none told = absurd (none-some other (subst (λ bytes. first bytes ≡ Some other) none told.0))
told_once bytes (step ∷ steps) [] told none = absurd (none-some step (subst (λ bytes. first bytes ≡ Some step) none told.0))
told_once bytes (step ∷ steps) (other ∷ others) told again =
    ap (λ s. s ∷ steps) (ap (found_or step) (sym told.0 ∙ again.0)) ∙ ap (λ all. other ∷ all) (told_once (behind_first bytes) steps others told.1 again.1)

-- where nothing is left all is told
pub told_all : (bytes : List ℕ) (steps : List Written) (rest : List Step) → length rest ≡ 0 → ((left : List ℕ) → Tell left (map written rest) → Tell (bytes ++ left) steps) → Tell bytes steps
told_all bytes steps [] none all = subst (λ told. Tell told steps) (append-nil bytes) (all [] refl)
told_all bytes steps (step ∷ rest) none all = absurd (omega (arith, none))
