-- Sound questions: what a schedule takes by itself is able, and there are few options.
use Rattle.std.specs.Prelude.{ℕ, ◌≡◌, ◌≢◌, ◌≤◌, List, length, Option, Some, None, slice_get}
use Rattle.loom_objects.specs.declared.rt.schedule.Ability.{Ability}
use Rattle.loom_objects.specs.declared.rt.schedule.Ability.TheVariants.{Able}
use Rattle.loom_objects.specs.Tree.Question.{Question, WhichThread, WhichStore, WhetherSpurious}

abbrev pub IsSoundDefault : Option ℕ → List Ability → Type 0
IsSoundDefault None abilities = Unit {0}
IsSoundDefault (Some k) abilities = slice_get abilities k ≡ Some Able

-- the default thread is able, and without one no thread is
abbrev pub AreSoundOffers : Option ℕ → List Ability → Type 0
AreSoundOffers None abilities = (k : ℕ) → slice_get abilities k ≢ Some Able
AreSoundOffers (Some k) abilities = slice_get abilities k ≡ Some Able

-- the default thread is able, there are at most five threads, and at most seven slots
abbrev pub IsSound : Question → Type 0
IsSound (WhichThread exploring standing) = IsSoundDefault standing.default standing.abilities × (length standing.abilities ≤ 5)
IsSound (WhichStore exploring lowest others) = length others ≤ 6
IsSound (WhetherSpurious exploring) = Unit {0}
