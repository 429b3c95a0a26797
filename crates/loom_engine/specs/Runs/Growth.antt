-- What needs no memory makes nothing.
use Rattle.std.specs.Prelude.{◌≡◌, false, length, Ok, ⊤}
use Rattle.loom_objects.specs.declared.operation.Request.{Request}
use Rattle.loom_objects.specs.declared.rt.run.Entry.{Entry}
use Rattle.loom_objects.specs.Rules.Tables.{counted, needs_memory}
use Rattle.loom_objects.specs.World.{World}

-- as many threads, and as many objects
abbrev pub HasAsMany : {D : Type 0} → World D → World D → Type 0
HasAsMany w v = (length v.threads ≡ length w.threads) × (length v.objects ≡ length w.objects)

-- An operation that needs no memory makes no thread and no object when it is handed over.
abbrev pub GrowthLaw : Type 0 → Type 0
GrowthLaw D = (todo : Request D ⊤) (w : World D) (entry : Entry D) (v : World D) → needs_memory todo ≡ false → counted todo w ≡ Ok (entry, v) → HasAsMany w v
