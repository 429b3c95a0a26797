-- What a run asks for: a thread, a store, or whether a thread wakes without a notification.
use Rattle.std.specs.Prelude.{ℕ, suc, ◌≡◌, Bool, true, false, List, [], ◌∷◌, map, ◌⊎◌, Option, Some, None}
use Rattle.loom_objects.specs.declared.choice.Choice.{Choice}
use Rattle.loom_objects.specs.declared.choice.Choice.TheVariants.{Thread, Load, Spurious}
use Rattle.loom_objects.specs.declared.rt.schedule.Ability.{Ability}
use Rattle.loom_objects.specs.declared.rt.schedule.Ability.TheVariants.{Able, Yielding, Unable}

-- A schedule as it is made: the default thread, what each thread offers (the default one is able), and the pairs of a
-- node and a thread that is about to make an access to an object that isn't ordered after the one made at the node
pub record Standing : Type 0 where
  pub default : Option ℕ
  pub abilities : List Ability
  pub unordered : List (ℕ × ℕ)

-- a question, and whether the run explores there; at a load the lowest slot that may be read, and the others
pub data Question : Type 0 where
  WhichThread : Bool → Standing → Question
  WhichStore : Bool → ℕ → List ℕ → Question
  WhetherSpurious : Bool → Question

-- A node as it is made: whether the run explores there, the choice that is taken by itself, the options, in the order of
-- threads or slots, or false before true, and at a schedule what each thread offers
pub record Made : Type 0 where
  pub exploring : Bool
  pub default : Choice
  pub options : List Choice
  pub offers : List Ability

-- the choice stands in the list
abbrev pub Among : Choice → List Choice → Type 0
Among o [] = ⊥
Among o (x ∷ xs) = (o ≡ x) ⊎ Among o xs

-- the options among the threads from number k on
abbrev pub able_threads : ℕ → List Ability → List Choice
able_threads k [] = []
able_threads k (Able ∷ rest) = Thread (Some k) ∷ able_threads (suc k) rest
able_threads k (Yielding ∷ rest) = able_threads (suc k) rest
able_threads k (Unable ∷ rest) = able_threads (suc k) rest

-- without a default none is the one option
abbrev pub thread_options : Option ℕ → List Ability → List Choice
thread_options None abilities = Thread None ∷ []
thread_options (Some k) abilities = able_threads 0 abilities

-- the node as the question makes it
abbrev pub made_of : Question → Made
made_of (WhichThread exploring standing) = record {
  exploring = exploring;
  default = Thread standing.default;
  options = thread_options standing.default standing.abilities;
  offers = standing.abilities;
}
made_of (WhichStore exploring lowest others) = record {
  exploring = exploring;
  default = Load lowest;
  options = Load lowest ∷ map (λ slot. Load slot) others;
  offers = [];
}
made_of (WhetherSpurious exploring) = record {
  exploring = exploring;
  default = Spurious false;
  options = Spurious false ∷ Spurious true ∷ [];
  offers = [];
}
