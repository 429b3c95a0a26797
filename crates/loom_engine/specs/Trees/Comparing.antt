-- Nodes as they are made can be told apart.
use Rattle.std.specs.Prelude.{◌≡◌, Bool, List, [], ◌∷◌}
use mathlib.Core.Path.{ap, refl, ◌∙◌}
use Rattle.loom_objects.specs.declared.choice.Choice.{Choice}
use Rattle.loom_objects.specs.declared.rt.schedule.Ability.{Ability}
use Rattle.loom_objects.specs.declared.rt.schedule.Ability.TheVariants.{Able, Yielding, Unable}
use Rattle.loom_objects.specs.Tree.Question.{Made}
use Rattle.loom_engine.specs.Walk.Choices.{same, same_flag}

unfoldable pub same_choices : (a b : List Choice) → Dec (a ≡ b)
same_choices [] [] = yes refl
same_choices [] (y ∷ b) = no (λ e. cc e)
same_choices (x ∷ a) [] = no (λ e. cc e)
same_choices (x ∷ a) (y ∷ b) = elim (same x y) [
  | yes e ↦ elim (same_choices a b) [ yes f ↦ yes (cc (e, f)) | no f ↦ no (λ g. f (cc g)) ]
  | no e ↦ no (λ g. e (cc g))
]

unfoldable pub same_ability : (a b : Ability) → Dec (a ≡ b)
same_ability Able Able = yes refl
same_ability Able Yielding = no (λ e. cc e)
same_ability Able Unable = no (λ e. cc e)
same_ability Yielding Able = no (λ e. cc e)
same_ability Yielding Yielding = yes refl
same_ability Yielding Unable = no (λ e. cc e)
same_ability Unable Able = no (λ e. cc e)
same_ability Unable Yielding = no (λ e. cc e)
same_ability Unable Unable = yes refl

unfoldable pub same_offers : (a b : List Ability) → Dec (a ≡ b)
same_offers [] [] = yes refl
same_offers [] (y ∷ b) = no (λ e. cc e)
same_offers (x ∷ a) [] = no (λ e. cc e)
same_offers (x ∷ a) (y ∷ b) = elim (same_ability x y) [
  | yes e ↦ elim (same_offers a b) [ yes f ↦ yes (cc (e, f)) | no f ↦ no (λ g. f (cc g)) ]
  | no e ↦ no (λ g. e (cc g))
]

abbrev made_with : Bool → Choice → List Choice → List Ability → Made
made_with exploring default options offers = record { exploring = exploring; default = default; options = options; offers = offers }

-- they agree in whether the run explores there, the default, the options, and what the threads offer
unfoldable pub same_made : (a b : Made) → Dec (a ≡ b)
same_made a b = elim (same_flag a.exploring b.exploring) [
  | no e ↦ no (λ g. e (cc g))
  | yes e ↦ elim (same a.default b.default) [
    | no f ↦ no (λ g. f (cc g))
    | yes f ↦ elim (same_choices a.options b.options) [
      | no h ↦ no (λ g. h (cc g))
      | yes h ↦ elim (same_offers a.offers b.offers) [
        | no i ↦ no (λ g. i (cc g))
        | yes i ↦ yes (
            ap (λ x. made_with x a.default a.options a.offers) e ∙ ap (λ x. made_with b.exploring x a.options a.offers) f
            ∙ ap (λ x. made_with b.exploring b.default x a.offers) h ∙ ap (λ x. made_with b.exploring b.default b.options x) i
            )
      ]
    ]
  ]
]
