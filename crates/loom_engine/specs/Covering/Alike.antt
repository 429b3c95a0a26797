-- Trees that go on alike, limits aside.
use Rattle.std.specs.Prelude.{◌≡◌, Bool, true, ◌⊎◌}
use Rattle.loom_objects.specs.declared.choice.Choice.{Choice}
use Rattle.loom_objects.specs.Tree.Question.{Question, Among, made_of}
use Rattle.loom_objects.specs.Tree.Tree.{Tree, Gives, Fails, Closes, Asks}
use Rattle.loom_views.specs.declared.rt.failure.FailureKind.{FailureKind}
use Rattle.loom_engine.specs.Covering.Sound.{OffersSame}

module _ {A B : Type 0} (limits : FailureKind → Bool) (Same : A → B → Type 0) where
  abbrev pub GivesAlike : A → Tree B → Type 0
  GivesAlike a (Gives b) = Same a b
  GivesAlike a (Fails kind) = limits kind ≡ true
  GivesAlike a (Closes rest) = ⊥
  GivesAlike a (Asks question branches) = ⊥

  -- both fail so, or one of them fails by a limit
  abbrev pub FailsAlike : FailureKind → Tree B → Type 0
  FailsAlike kind (Fails other) = (kind ≡ other) ⊎ (limits kind ≡ true) ⊎ (limits other ≡ true)
  FailsAlike kind (Gives b) = limits kind ≡ true
  FailsAlike kind (Closes rest) = limits kind ≡ true
  FailsAlike kind (Asks question branches) = limits kind ≡ true

  abbrev pub ClosesAlike : (Tree B → Type 0) → Tree B → Type 0
  ClosesAlike Rest (Closes rest) = Rest rest
  ClosesAlike Rest (Fails kind) = limits kind ≡ true
  ClosesAlike Rest (Gives b) = ⊥
  ClosesAlike Rest (Asks question branches) = ⊥

  abbrev pub AsksAlike : Question → (Choice → Tree B → Type 0) → Tree B → Type 0
  AsksAlike asked Goes (Asks question branches) = OffersSame (made_of asked) (made_of question) × ((o : Choice) → Among o (made_of asked).options → Goes o (branches o))
  AsksAlike asked Goes (Fails kind) = limits kind ≡ true
  AsksAlike asked Goes (Gives b) = ⊥
  AsksAlike asked Goes (Closes rest) = ⊥

  -- By the same choices both give values that are the same in this sense, or fail alike, and offer the same on the way; but each
  -- may fail by a limit, wherever it is.
  abbrev pub AreAlike : Tree A → Tree B → Type 0
  AreAlike (Gives a) other = GivesAlike a other
  AreAlike (Fails kind) other = FailsAlike kind other
  AreAlike (Closes rest) other = ClosesAlike (AreAlike rest) other
  AreAlike (Asks question branches) other = AsksAlike question (λ o. AreAlike (branches o)) other
