-- What holds of the slots in which stores are kept.
use Rattle.std.specs.Prelude.{ℕ, ◌≡◌, true, List, slice_get, Some, Ok}
use Rattle.loom_views.specs.declared.rt.atomic.reader.Reader.{Reader}
use Rattle.loom_views.specs.Views.{Points, Accessed, IsSlotKept, readable_slots_of, slot_set, points_after_update_read}

-- in each slot that is offered a store is kept
abbrev pub KeepingLaw : Type 0
KeepingLaw = (p : Points) (t n : ℕ) (reader : Reader) (slots : List ℕ) (slot : ℕ) → readable_slots_of p t n reader ≡ Ok slots → slice_get (slot_set slots) slot ≡ Some true → IsSlotKept (slice_get p.places n) slot

-- once a slot in which a store is kept has been read, a store is kept in it still
abbrev pub SlotsStayLaw : Type 0
SlotsStayLaw = (p : Points) (t n slot : ℕ) (after : Accessed) → points_after_update_read p t n slot ≡ Ok after → IsSlotKept (slice_get p.places n) slot → IsSlotKept (slice_get after.points.places n) slot
