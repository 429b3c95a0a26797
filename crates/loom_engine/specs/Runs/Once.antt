-- A lazy value is made once, over every history.
use Rattle.std.specs.Prelude.{ℕ, ◌≡◌, Bool, List, ◌∷◌, ◌++◌}
use Rattle.loom_objects.specs.declared.operation.LazyOp.TheVariants.{Init}
use Rattle.loom_objects.specs.declared.operation.Request.TheVariants.{Lazy}
use Rattle.loom_objects.specs.declared.operation.Reply.TheVariants.{Data}
use Rattle.loom_objects.specs.declared.operation.Turn.TheVariants.{Reply}
use Rattle.loom_engine.specs.Runs.Course.{opening}
use Rattle.loom_engine.specs.Runs.Histories.{Event, IsHistory}

-- The event makes the value of this key: a thread hands one over, and is told that it is the one, not that there was another.
abbrev pub Makes : {D : Type 0} → ℕ → Event D → Type 0
Makes {D} key event = (value : D) × ((t : ℕ) × ((event.op ≡ Lazy (Init key value)) × (event.turn ≡ Reply t (Data value))))

-- Over every history: no two events make the value of one key.
abbrev pub MadeOnceLaw : Type 0 → Type 0
MadeOnceLaw D = (explores : Bool) (max_threads max_steps key : ℕ) (before between after : List (Event D)) (first second : Event D)
    → IsHistory (opening explores max_threads max_steps) (before ++ first ∷ (between ++ second ∷ after))
    → Makes key first → Makes key second → ⊥
