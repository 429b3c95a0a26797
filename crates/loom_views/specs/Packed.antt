-- What is kept of objects, in little room: of each atomic its stores up to the last one that isn't empty, those of one atomic behind those
-- of the one before it.
use Rattle.std.specs.Prelude.{ℕ, ◌+◌, ◌-◌, false, List, [], ◌∷◌, ◌++◌, length, take, drop, replicate}
use Rattle.loom_views.specs.declared.rt.atomic.Head.{Head}
use Rattle.loom_views.specs.declared.rt.atomic.State.{State}
use Rattle.loom_views.specs.declared.rt.atomic.Store.{Store}
use Rattle.loom_views.specs.declared.rt.views.Kept.{Kept}
use Rattle.loom_views.specs.declared.rt.views.Kept.TheVariants as kept
use Rattle.loom_views.specs.declared.rt.views.packed.Packed.{Packed}
use Rattle.loom_views.specs.declared.rt.views.packed.Packed.TheVariants.{Point, Atomic, Cell}
use Rattle.loom_views.specs.Atomic.Touches.{untouched}
use Rattle.loom_views.specs.Versions.{zeros}

-- nothing is stored there
abbrev pub empty_store : Store
empty_store = record { value = 0; order = zeros; sync = zeros; first_seen = record { versions = untouched }; seq_cst = false }

-- the atomic with these stores, and no others
abbrev pub whole : Head → List Store → State
whole head stores = record {
  loaded_at = head.loaded_at;
  stored_at = head.stored_at;
  unsync_loaded_at = head.unsync_loaded_at;
  unsync_mut_at = head.unsync_mut_at;
  is_mutating = head.is_mutating;
  stores = stores ++ replicate (7 - length stores) empty_store;
  count = head.count;
}

-- how many stores all of them have
abbrev pub all_stores : List Packed → ℕ
all_stores [] = 0
all_stores (Point view ∷ list) = all_stores list
all_stores (Cell records ∷ list) = all_stores list
all_stores (Atomic head ∷ list) = head.kept + all_stores list

-- what is kept of one, with its stores
abbrev pub unpacked_one : Packed → List Store → Kept
unpacked_one (Point view) stores = kept.Point view
unpacked_one (Cell records) stores = kept.Cell records
unpacked_one (Atomic head) stores = kept.Atomic (whole head stores)

-- what is kept, with the stores of all of them
abbrev pub unpacked : List Packed → List Store → List Kept
unpacked [] stores = []
unpacked (Point view ∷ list) stores = kept.Point view ∷ unpacked list stores
unpacked (Cell records ∷ list) stores = kept.Cell records ∷ unpacked list stores
unpacked (Atomic head ∷ list) stores = kept.Atomic (whole head (take head.kept stores)) ∷ unpacked list (drop head.kept stores)
