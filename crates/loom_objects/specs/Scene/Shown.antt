-- Which state of the machine a run shows, and when the code does what a step of the machine says.
use Rattle.std.specs.Prelude.{ℕ, ◌≡◌, Bool, true, slice_get, Some, Result, Ok, Err}
use Rattle.loom_views.specs.Views.{ShowsViews}
use Rattle.loom_objects.specs.declared.failure.Stop.{Stop}
use Rattle.loom_objects.specs.declared.failure.Stop.TheVariants.{Failure, Memory}
use Rattle.loom_objects.specs.declared.rt.run.Loading.{Loading}
use Rattle.loom_objects.specs.declared.rt.run.Passed.{Passed}
use Rattle.loom_objects.specs.declared.rt.run.Resumed.{Resumed}
use Rattle.loom_objects.specs.declared.rt.run.Resumed.TheVariants as resumed
use Rattle.loom_objects.specs.declared.rt.run.RunState.{RunState}
use Rattle.loom_objects.specs.Operation.Accessed.{accessed}
use Rattle.loom_objects.specs.Tree.Stores.{asked_store, slots}
use Rattle.loom_objects.specs.Scene.Stage.{KeepsAt, world_of}
use Rattle.loom_objects.specs.Rules.Steps.{read_by, turned}
use Rattle.loom_objects.specs.Tree.Tree.{Tree, Gives, Fails, Asks, ◌>>=◌}
use Rattle.loom_objects.specs.World.{World}

module _ {D : Type 0} where
  -- The run shows this state of the machine: what it keeps of views shows the points, and all else is the same.
  pub record Shows (w : World D) (r : RunState D) : Type 0 where
    pub views : ShowsViews w.points r.scene.views
    pub rest : w ≡ world_of w.points r.steps_left r.scene

  -- The code came to what the tree gives, and then shows the state that the tree gives; or it failed as the tree does. Memory
  -- aside.
  abbrev pub Comes : {A : Type 0} → Tree (A × World D) → Result A Stop → RunState D → Type 0
  Comes tree (Ok a) new = (w : World D) × Shows w new × (tree ≡ Gives (a, w))
  Comes tree (Err (Failure failure)) new = tree ≡ Fails failure.kind
  Comes tree (Err Memory) new = Unit {0}

  -- what the code came to, and the state after it, is what the rule says of each state that was shown before it
  abbrev pub Does : {A : Type 0} → (World D → Tree (A × World D)) → RunState D → Result A Stop → RunState D → Type 0
  Does rule old result new = (w : World D) → Shows w old → Comes (rule w) result new

  -- each slot of the set keeps a store
  abbrev pub AreKept : Loading → World D → Type 0
  AreKept load w = (slot : ℕ) → slice_get load.readable slot ≡ Some true → KeepsAt w.points (accessed load.access) slot

  -- what the code came to for a thread that was chosen is what the tree says: a turn, another branch point, or the question which
  -- store an access reads
  abbrev pub Resumes : Bool → Tree (Passed D × World D) → Result (Resumed D) Stop → RunState D → Type 0
  Resumes exploring tree (Ok (resumed.Passed passed)) new = Comes tree (Ok passed) new
  Resumes exploring tree (Ok (resumed.Load load)) new =
      (w : World D) × Shows w new × AreKept load w × (tree ≡ Asks (asked_store exploring (slots load.readable)) (λ choice. read_by load w choice >>= turned))
  Resumes exploring tree (Err stop) new = Comes {A = Passed D} tree (Err stop) new
