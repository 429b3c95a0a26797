-- The default thread of a question is able, and without one no thread is.
use Rattle.std.proofs.Common.{◌≡◌, ◌≢◌, ◌≤◌, ℕ, Bool, List, length, Option, Some, None, subst}
use Rattle.std.specs.Prelude.{slice_get}
use Rattle.loom_objects.specs.declared.rt.schedule.Ability.{Ability}
use Rattle.loom_objects.specs.declared.rt.schedule.Ability.TheVariants.{Able}
use Rattle.loom_objects.specs.declared.rt.schedule.Offers.{Offers}
use Rattle.loom_objects.specs.Tree.Sound.{IsSound, IsSoundDefault, AreSoundOffers}
use Rattle.loom_objects.specs.Tree.Asked.{which_thread}

pub default_is_able : (default : Option ℕ) (abilities : List Ability) → AreSoundOffers default abilities → IsSoundDefault default abilities
default_is_able None abilities sound = tt
default_is_able (Some k) abilities sound = sound

pub none_is_able : (default : Option ℕ) (abilities : List Ability) → AreSoundOffers default abilities → default ≡ None → (j : ℕ) → slice_get abilities j ≢ Some Able
none_is_able default abilities sound none = subst (λ (o : Option ℕ). AreSoundOffers o abilities) none sound

-- the question which thread goes on is sound
pub which_is_sound : (exploring : Bool) (offers : Offers) (places : List (Option ℕ)) → AreSoundOffers offers.default offers.abilities → length offers.abilities ≤ 5 → IsSound (which_thread exploring offers places)
which_is_sound exploring offers places sound few = (default_is_able offers.default offers.abilities sound, few)
