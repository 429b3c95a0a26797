-- What holds of each body's tree of runs.
use Rattle.std.specs.Prelude.{ℕ, ◌≡◌, Bool, true, false}
use Rattle.loom_objects.specs.declared.operation.Reply.{Reply}
use Rattle.loom_objects.specs.Exploring.{is_switch}
use Rattle.loom_objects.specs.Tree.Tree.{Tree}
use Rattle.loom_engine.specs.Trees.Sound.{IsSoundTree, IsClosing, IsFair, EndsUnchosen}
use Rattle.loom_engine.specs.Trees.Exploring.{ExploresTree}
use Rattle.loom_engine.specs.Runs.Body.{Meaning, runs}

-- what holds of each body's tree of runs
pub record IsRunTree {A : Type 0} (tree : Tree A) : Type 0 where
  -- its questions have their default among their options
  pub sound : IsSoundTree tree
  -- it gives a value only where the run is over
  pub closing : IsClosing tree
  pub fair : IsFair tree

-- Each body's runs are such a tree, whatever the body means.
abbrev pub RunTreeLaw : Type 0 → Type 0 → Type 0
RunTreeLaw D S = (next : Meaning D S) (explores : Bool) (max_threads max_steps : ℕ) (body : S) → IsRunTree (runs next explores max_threads max_steps body)

-- A body that never switches explores at each node, where its runs begin so.
abbrev pub ExploresLaw : Type 0 → Type 0 → Type 0
ExploresLaw D S = (next : Meaning D S) (max_threads max_steps : ℕ) (body : S) → ((state : S) (reply : Reply D) → is_switch (next state reply).1.request ≡ false)
    → ExploresTree (runs next true max_threads max_steps body)

-- After a schedule without a default thread each body's runs ask nothing: they are over, or have failed.
abbrev pub UnchosenLaw : Type 0 → Type 0 → Type 0
UnchosenLaw D S = (next : Meaning D S) (explores : Bool) (max_threads max_steps : ℕ) (body : S) → EndsUnchosen (runs next explores max_threads max_steps body)
