-- What the runs of a tree do, however many nodes they may meet.
use Rattle.std.proofs.Common.{◌≡◌, ◌⊎◌, ℕ, zero, suc, Bool, true, false, ◌&&◌, not, cond, List, [], ◌∷◌, length, Option, Some, None, Err, Result, refl, ap, ◌∙◌, inl, inr}
use Rattle.loom_objects.specs.declared.choice.Choice.{Choice}
use Rattle.loom_objects.specs.Tree.Question.{Made, Among, made_of}
use Rattle.loom_objects.specs.Tree.Tree.{Tree, Gives, Fails, Closes, Asks}
use Rattle.loom_engine.specs.Walk.Machine.{Machine, is_thread}
use Rattle.loom_engine.specs.Walk.Choices.{among, pick}
use Rattle.loom_engine.specs.Trees.Meeting.{Marking, whole_search, machine_of, every_met}
use Rattle.loom_engine.specs.Trees.Outcomes.{met, outcome, passed}
use Rattle.loom_views.specs.declared.rt.failure.FailureKind.{FailureKind}
use Rattle.loom_views.specs.declared.rt.failure.FailureKind.TheVariants.{TooManyBranches}
use Rattle.loom_engine.specs.Covering.World.{Ends, world_of}

-- each option of a node that explores is to be tried
abbrev pub TriesAll : Machine → Type 0
TriesAll m = (c : List Choice) (n : Made) → m.node c ≡ Some n → n.exploring ≡ true → m.every c ≡ true

tries_at : (b x : Bool) → x ≡ true → cond b (not false && x && true) true ≡ true
tries_at true true h = refl
tries_at true false h = absurd (cc h)
tries_at false x h = refl

module _ {A : Type 0} where
  pub met_more : (room : ℕ) (tree : Tree A) (c : List Choice) (n : Made) → met room tree c ≡ Some n → met (suc (length c)) tree c ≡ Some n
  met_more room (Gives value) c n h = absurd (cc h)
  met_more room (Fails failure) c n h = absurd (cc h)
  met_more room (Closes rest) c n h = absurd (cc h)
  met_more zero (Asks question branch) c n h = absurd (cc h)
  met_more (suc room) (Asks question branch) [] n h = h
  met_more (suc room) (Asks question branch) (x ∷ c) n h = go (among x (made_of question).options) h (λ g. met_more room (branch x) c n g)
    where
      go : (d : Dec (Among x (made_of question).options)) → pick d (met room (branch x) c) None ≡ Some n → (met room (branch x) c ≡ Some n → met (suc (length c)) (branch x) c ≡ Some n)
          → pick d (met (suc (length c)) (branch x) c) None ≡ Some n
      go (yes a) g ih = ih g
      go (no f) g ih = absurd (cc g)

  pub outcome_more : (room : ℕ) (tree : Tree A) (c : List Choice) (r : Result A FailureKind) → outcome room tree c ≡ Some r
      → (r ≡ Err TooManyBranches) ⊎ (outcome (suc (length c)) tree c ≡ Some r)
  outcome_more room (Gives value) [] r h = inr h
  outcome_more room (Gives value) (x ∷ c) r h = absurd (cc h)
  outcome_more room (Fails failure) [] r h = inr h
  outcome_more room (Fails failure) (x ∷ c) r h = absurd (cc h)
  outcome_more room (Closes rest) c r h = outcome_more room rest c r h
  outcome_more zero (Asks question branch) [] r h = inl (cc h)
  outcome_more zero (Asks question branch) (x ∷ c) r h = absurd (cc h)
  outcome_more (suc room) (Asks question branch) [] r h = absurd (cc h)
  outcome_more (suc room) (Asks question branch) (x ∷ c) r h = go (among x (made_of question).options) h (λ g. outcome_more room (branch x) c r g)
    where
      go : (d : Dec (Among x (made_of question).options)) → pick d (outcome room (branch x) c) None ≡ Some r
          → (outcome room (branch x) c ≡ Some r → (r ≡ Err TooManyBranches) ⊎ (outcome (suc (length c)) (branch x) c ≡ Some r))
          → (r ≡ Err TooManyBranches) ⊎ (pick d (outcome (suc (length c)) (branch x) c) None ≡ Some r)
      go (yes a) g ih = ih g
      go (no f) g ih = absurd (cc g)

  pub ends_at : (room : ℕ) (tree : Tree A) (c : List Choice) (r : Result A FailureKind) → outcome room tree c ≡ Some r → met room tree c ≡ None
  ends_at room (Gives value) c r h = refl
  ends_at room (Fails failure) c r h = refl
  ends_at room (Closes rest) c r h = refl
  ends_at zero (Asks question branch) c r h = refl
  ends_at (suc room) (Asks question branch) [] r h = absurd (cc h)
  ends_at (suc room) (Asks question branch) (x ∷ c) r h = go (among x (made_of question).options) h (λ g. ends_at room (branch x) c r g)
    where
      go : (d : Dec (Among x (made_of question).options)) → pick d (outcome room (branch x) c) None ≡ Some r → (outcome room (branch x) c ≡ Some r → met room (branch x) c ≡ None)
          → pick d (met room (branch x) c) None ≡ None
      go (yes a) g ih = ih g
      go (no f) g ih = absurd (cc g)

  pub world_ends : (tree : Tree A) → Ends (world_of tree)
  world_ends tree c r h = ends_at (suc (length c)) tree c r h

  pub tries_all : (room : ℕ) (adds : Marking) (tree : Tree A) → TriesAll (machine_of (whole_search room) adds tree)
  tries_all room adds tree c n h ex = go (met room tree c) h
    where
      go : (x : Option Made) → x ≡ Some n → every_met (whole_search room) (passed tree c) x ≡ true
      go None g = absurd (cc g)
      go (Some k) g = let same_made : k ≡ n = cc g in tries_at (is_thread k.default) k.exploring (ap (λ (y : Made). y.exploring) same_made ∙ ex)
