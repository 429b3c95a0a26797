-- Choices can be told apart.
use Rattle.std.specs.Prelude.{ℕ, ◌≡◌, Bool, true, false, List, [], ◌∷◌, Option, Some, None}
use mathlib.Core.Logic.{inl, inr}
use mathlib.Core.Path.{ap, refl}
use native.Mathlib.Decide.{ℕ_discrete}
use Rattle.loom_objects.specs.declared.choice.Choice.{Choice}
use Rattle.loom_objects.specs.declared.choice.Choice.TheVariants.{Thread, Load, Spurious}
use Rattle.loom_objects.specs.Tree.Question.{Among}

abbrev pub pick : {A B : Type 0} → Dec A → B → B → B
pick (yes a) x y = x
pick (no a) x y = y

unfoldable pub same_flag : (a b : Bool) → Dec (a ≡ b)
same_flag true true = yes refl
same_flag true false = no (λ e. cc)
same_flag false true = no (λ e. cc)
same_flag false false = yes refl

unfoldable pub same_thread : (a b : Option ℕ) → Dec (a ≡ b)
same_thread None None = yes refl
same_thread None (Some b) = no (λ e. cc)
same_thread (Some a) None = no (λ e. cc)
same_thread (Some a) (Some b) = elim (ℕ_discrete a b) [ yes e ↦ yes (ap Some e) | no f ↦ no (λ e. f (cc)) ]

unfoldable pub same : (a b : Choice) → Dec (a ≡ b)
same (Thread a) (Thread b) = elim (same_thread a b) [ yes e ↦ yes (ap Thread e) | no f ↦ no (λ e. f (cc)) ]
same (Load a) (Load b) = elim (ℕ_discrete a b) [ yes e ↦ yes (ap Load e) | no f ↦ no (λ e. f (cc)) ]
same (Spurious a) (Spurious b) = elim (same_flag a b) [ yes e ↦ yes (ap Spurious e) | no f ↦ no (λ e. f (cc)) ]
same (Thread a) (Load b) = no (λ e. cc)
same (Thread a) (Spurious b) = no (λ e. cc)
same (Load a) (Thread b) = no (λ e. cc)
same (Load a) (Spurious b) = no (λ e. cc)
same (Spurious a) (Thread b) = no (λ e. cc)
same (Spurious a) (Load b) = no (λ e. cc)

unfoldable pub among : (o : Choice) (xs : List Choice) → Dec (Among o xs)
among o [] = no (λ a. elim a [ ])
among o (x ∷ xs) = elim (same o x) [ yes e ↦ yes (inl e) | no f ↦ elim (among o xs) [ yes a ↦ yes (inr a) | no g ↦ no (λ a. elim a [ inl e ↦ f e | inr b ↦ g b ]) ] ]
