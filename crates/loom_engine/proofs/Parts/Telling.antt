-- Lists of choices are compared exactly.
use Rattle.std.proofs.Common.{◌≡◌, Bool, false, List, Some, None, refl, ap}
use Rattle.std.specs.Prelude.{nat_eq}
use Rattle.std.specs.Bool.{Decides}
use Rattle.std.specs.Cmp.{unsigned_Decides, booleans_Decides}
use Rattle.std.specs.Cmp.Lexicographic.{pointwise, pointwise_decides}
use Rattle.std.specs.Option.{option_eq}
use Rattle.std.proofs.lemmas.Bool.Decides.{Decides-like}
use Rattle.loom_objects.specs.contracts.choice.ChoicePartialEq.TheImpl as choices
use Rattle.loom_objects.specs.declared.choice.Choice.{Choice}
use Rattle.loom_objects.specs.declared.choice.Choice.TheVariants as choice

abbrev Tells : {A : Type 0} → (A → A → Bool) → Type 0
Tells {A} test = (a b : A) → Decides (test a b) (a ≡ b)

within : {A B : Type 0} (f : A → B) {a b : A} {r : Bool} → (f a ≡ f b → a ≡ b) → Decides r (a ≡ b) → Decides r (f a ≡ f b)
within f {r = r} one d = Decides-like r (ap f) one d

apart : {A : Type 0} {a b : A} → (a ≡ b → ⊥) → Decides false (a ≡ b)
apart n = (λ t. absurd (cc t), λ s. absurd (n s))

numbers_tell : Tells (option_eq nat_eq)
numbers_tell None None = (λ t. refl, λ s. refl)
numbers_tell None (Some y) = apart (λ s. cc s)
numbers_tell (Some x) None = apart (λ s. cc s)
numbers_tell (Some x) (Some y) = within Some (λ s. cc s) (unsigned_Decides x y)

pub choices_tell : Tells (choices.ghosts).eq
choices_tell (choice.Thread a) (choice.Thread b) = within choice.Thread (λ s. cc s) (numbers_tell a b)
choices_tell (choice.Load a) (choice.Load b) = within choice.Load (λ s. cc s) (unsigned_Decides a b)
choices_tell (choice.Spurious a) (choice.Spurious b) = within choice.Spurious (λ s. cc s) (booleans_Decides a b)
choices_tell (choice.Thread a) (choice.Load b) = apart (λ s. cc s)
choices_tell (choice.Thread a) (choice.Spurious b) = apart (λ s. cc s)
choices_tell (choice.Load a) (choice.Thread b) = apart (λ s. cc s)
choices_tell (choice.Load a) (choice.Spurious b) = apart (λ s. cc s)
choices_tell (choice.Spurious a) (choice.Thread b) = apart (λ s. cc s)
choices_tell (choice.Spurious a) (choice.Load b) = apart (λ s. cc s)

pub lists_tell : (a b : List Choice) → Decides (pointwise (choices.ghosts).eq a b) (a ≡ b)
lists_tell = pointwise_decides choices_tell
