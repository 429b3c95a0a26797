-- Where no run of a tree fails so, by options, no list of choices leads to such a failure, and none replays to it.
use Rattle.std.proofs.Common.{◌≡◌, ◌≢◌, ℕ, zero, suc, List, [], ◌∷◌, Some, None, sym}
use Rattle.std.specs.Prelude.{Option, Result, Err}
use Rattle.loom_views.specs.declared.rt.failure.FailureKind.{FailureKind}
use Rattle.loom_views.specs.declared.rt.failure.FailureKind.TheVariants.{NotDeterministic, TooManyBranches}
use Rattle.loom_objects.specs.declared.choice.Choice.{Choice}
use Rattle.loom_objects.specs.Tree.Question.{Among, made_of}
use Rattle.loom_objects.specs.Tree.Tree.{Tree, Gives, Fails, Closes, Asks}
use Rattle.loom_engine.specs.Walk.Choices.{among, pick}
use Rattle.loom_engine.specs.Trees.Outcomes.{outcome}
use Rattle.loom_engine.specs.Trees.Replay.{before, replayed}
use Rattle.loom_engine.specs.Trees.Replays.{NoSuchFailureLaw}
use Rattle.loom_engine.specs.Trees.Sound.{IsQuiet, IsSoundTree, NeverFails}
use Rattle.loom_engine.proofs.Trees.Machines.{sound_default}

module _ {A : Type 0} (kind : FailureKind) (few : kind ≢ TooManyBranches) where
  never_outcome : (room : ℕ) (tree : Tree A) (x : List Choice) → NeverFails kind tree → outcome room tree x ≡ Some (Err kind) → ⊥
  never_outcome room (Gives value) [] never e = cc e
  never_outcome room (Gives value) (o ∷ x) never e = cc e
  never_outcome room (Fails failure) [] never e = never (cc e)
  never_outcome room (Fails failure) (o ∷ x) never e = cc e
  never_outcome room (Closes rest) x never e = never_outcome room rest x never e
  never_outcome zero (Asks question branches) [] never e = let is : TooManyBranches ≡ kind = cc e in few (sym is)
  never_outcome (suc room) (Asks question branches) [] never e = cc e
  never_outcome zero (Asks question branches) (o ∷ x) never e = cc e
  never_outcome (suc room) (Asks question branches) (o ∷ x) never e = go (among o (made_of question).options) (λ a f. never_outcome room (branches o) x (never o a) f) e
    where
      go : (d : Dec (Among o (made_of question).options)) → (Among o (made_of question).options → outcome room (branches o) x ≡ Some (Err kind) → ⊥)
          → ◌≡◌ {A = Option (Result A FailureKind)} (pick d (outcome room (branches o) x) None) (Some (Err kind)) → ⊥
      go (yes a) h f = h a f
      go (no n) h f = cc f

  never_quiet : (room : ℕ) (tree : Tree A) → IsQuiet tree → NeverFails kind tree → (replayed room tree []).1 ≡ Err kind → ⊥
  never_quiet room (Gives value) quiet never e = cc e
  never_quiet room (Fails failure) quiet never e = never (cc e)
  never_quiet room (Closes rest) quiet never e = never_quiet room rest quiet never e
  never_quiet room (Asks question branches) quiet never e = absurd quiet

  never_replayed : kind ≢ NotDeterministic → (room : ℕ) (tree : Tree A) (given : List Choice) → IsSoundTree tree → NeverFails kind tree → (replayed room tree given).1 ≡ Err kind → ⊥
  never_replayed met room (Gives value) [] sound never e = cc e
  never_replayed met room (Gives value) (o ∷ given) sound never e = cc e
  never_replayed met room (Fails failure) given sound never e = never (cc e)
  never_replayed met room (Closes rest) [] sound never e = never_quiet room rest sound never e
  never_replayed met room (Closes rest) (o ∷ given) sound never e = let is : NotDeterministic ≡ kind = cc e in met (sym is)
  never_replayed met zero (Asks question branches) given sound never e = let is : TooManyBranches ≡ kind = cc e in few (sym is)
  never_replayed met (suc room) (Asks question branches) [] sound never e =
      let option = sound_default question sound.0 in
      never_replayed met room (branches (made_of question).default) [] (sound.1 (made_of question).default option) (never (made_of question).default option) e
  never_replayed met (suc room) (Asks question branches) (o ∷ given) sound never e =
      go (among o (made_of question).options) (λ a f. never_replayed met room (branches o) given (sound.1 o a) (never o a) f) e
    where
      go : (d : Dec (Among o (made_of question).options)) → (Among o (made_of question).options → (replayed room (branches o) given).1 ≡ Err kind → ⊥)
          → (pick d (before o (replayed room (branches o) given)) ([], Err NotDeterministic)).1 ≡ Err kind → ⊥
      go (yes a) h f = h a f
      go (no n) h f = let is : NotDeterministic ≡ kind = cc f in met (sym is)

pub no_such_failure_law : {A : Type 0} → NoSuchFailureLaw A
no_such_failure_law kind max_branches tree few met sound never = record {
  leads = λ x e. never_outcome kind few max_branches tree x never e;
  replays = λ given e. never_replayed kind few met max_branches tree given sound never e;
}
