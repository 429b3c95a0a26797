-- What is found among steps is found among what is read of them.
use Rattle.std.proofs.Common.{ℕ, ◌≡◌, ◌+◌, List, [], ◌∷◌, Bool, map, length, refl, ap, sym, ◌∙◌, cond}
use Rattle.std.proofs.lemmas.List.{length-map}
use Rattle.std.proofs.lemmas.Option.{slice_get-map}
use Rattle.std.specs.Prelude.{Option, Some, None, not, nat_lt, slice_get}
use Rattle.std.specs.List.{position, position_or_len, prefix_len}
use Rattle.std.specs.Option.{option_map}
use Rattle.loom_examples.specs.declared.scripts.step.Step.{Step}
use Rattle.loom_examples.specs.Scripts.Running.{is_label, label_at, named_place, or_end, place_of}
use Rattle.loom_examples.specs.Scripts.Written.{Written, written}

module _ {A B : Type 0} (p : B → Bool) (f : A → B) where
  prefixes : (xs : List A) → prefix_len p (map f xs) ≡ prefix_len (λ x. p (f x)) xs
  prefixes [] = refl
  prefixes (x ∷ xs) = ap (λ n. cond (p (f x)) (1 + n) 0) (prefixes xs)

-- the first place at which one passes
positions : {A B : Type 0} (p : B → Bool) (f : A → B) (xs : List A) → position p (map f xs) ≡ position (λ x. p (f x)) xs
positions p f xs =
    ap (λ n. cond (nat_lt n (length (map f xs))) (Some n) None) (prefixes (λ y. not (p y)) f xs)
    ∙ ap (λ n. cond (nat_lt (position_or_len (λ x. p (f x)) xs) n) (Some (position_or_len (λ x. p (f x)) xs)) None) (length-map xs f)

-- where the label of this name is
label_stands : (steps : List Step) (name : List ℕ) (found : Option ℕ) → found ≡ position (λ step. is_label name (written step)) steps → found ≡ label_at (map written steps) name
label_stands steps name found e = e ∙ sym (positions (is_label name) written steps)

pub stands_at : (steps : List Step) (name : List ℕ) (place : ℕ) → Some place ≡ position (λ step. is_label name (written step)) steps → place ≡ place_of (map written steps) name
stands_at steps name place e = ap (λ found. or_end found (map written steps)) (label_stands steps name (Some place) e)

pub stands_nowhere : (steps : List Step) (name : List ℕ) → None ≡ position (λ step. is_label name (written step)) steps → length steps ≡ place_of (map written steps) name
stands_nowhere steps name e = sym (length-map steps written) ∙ ap (λ found. or_end found (map written steps)) (label_stands steps name None e)

-- the step at a place
pub reads : (steps : List Step) (place : ℕ) (found : Option Step) → found ≡ slice_get steps place → option_map written found ≡ slice_get (map written steps) place
reads steps place found e = ap (option_map written) e ∙ sym (slice_get-map written steps place)

both : (f : Written → ℕ) (steps : List Step) → map (λ step. f (written step)) steps ≡ map f (map written steps)
both f [] = refl
both f (step ∷ steps) = ap (λ rest. f (written step) ∷ rest) (both f steps)

-- where the labels are that steps name
pub names : (steps : List Step) (places : List ℕ) → places ≡ map (λ step. named_place (map written steps) (Some (written step))) steps
    → places ≡ map (λ step. named_place (map written steps) (Some step)) (map written steps)
names steps places e = e ∙ both (λ step. named_place (map written steps) (Some step)) steps
