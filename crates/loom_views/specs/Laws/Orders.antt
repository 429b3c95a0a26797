-- Which stores a run reads: the orders of an atomic's kept stores differ, and no two read-modify-writes that succeed read the same one.
use Rattle.std.specs.Prelude.{ℕ, ◌<◌, ◌≡◌, ◌≢◌, false, IsTrue, List, ◌∷◌, length, slice_get, Option, Some, None, Ok, Err}
use Rattle.loom_views.specs.declared.rt.atomic.reader.Reader.{Reader}
use Rattle.loom_views.specs.declared.rt.atomic.reader.Reader.TheVariants.{Load, Update}
use Rattle.loom_views.specs.declared.rt.failure.FailureKind.TheVariants.{OrdersEqual}
use Rattle.loom_views.specs.ThreadViews.{ThreadPoints}
use Rattle.loom_views.specs.Atomic.Slots.{number_in_slot}
use Rattle.loom_views.specs.Atomic.History.{History, has_same_order_in_slot}
use Rattle.loom_views.specs.Views.{Place, Meets, Keeps, Records, Points, opening, has_slot, readable_slots_of, points_after_raise}
use Rattle.loom_views.specs.Laws.Moves.{Moves, acquire, release, join, yielding, spawn, fence, new_point, new_stamp, stamp, release_to_stamp, acquire_from_stamp, new_atomic, load, store, update, update_fail, unsync_load, with_mut, with_mut_end, new_cell, begin_read, end_read, begin_write, end_write}

-- the reader may choose the slot
pub record MayRead (p : Points) (t n : ℕ) (reader : Reader) (slot : ℕ) : Type 0 where
  pub slots : List ℕ
  pub offered : readable_slots_of p t n reader ≡ Ok slots
  pub among : IsTrue (has_slot slots slot)

-- a load, or a read-modify-write, reads from a slot that it may choose
abbrev pub ReadsReadable : (p q : Points) → Moves p q → Type 0
ReadsReadable p _ (acquire t n) = Unit {0}
ReadsReadable p _ (release t n order) = Unit {0}
ReadsReadable p _ (join t u) = Unit {0}
ReadsReadable p _ (yielding t) = Unit {0}
ReadsReadable p _ (spawn t after e) = Unit {0}
ReadsReadable p _ (fence t order raised e) = Unit {0}
ReadsReadable p _ new_point = Unit {0}
ReadsReadable p _ new_stamp = Unit {0}
ReadsReadable p _ (stamp n m) = Unit {0}
ReadsReadable p _ (release_to_stamp t m order) = Unit {0}
ReadsReadable p _ (acquire_from_stamp t m) = Unit {0}
ReadsReadable p _ (new_atomic t value) = Unit {0}
ReadsReadable p _ (load t n slot order raised after d e) = MayRead raised t n (Load order) slot
ReadsReadable p _ (store t n value order raised after d e) = Unit {0}
ReadsReadable p _ (update t n slot value order raised read after c d e) = MayRead raised t n Update slot
ReadsReadable p _ (update_fail t n slot order raised read c d) = MayRead raised t n Update slot
ReadsReadable p _ (unsync_load t n after e) = Unit {0}
ReadsReadable p _ (with_mut t n after e) = Unit {0}
ReadsReadable p _ (with_mut_end t n value after e) = Unit {0}
ReadsReadable p _ (new_cell t) = Unit {0}
ReadsReadable p _ (begin_read t n raised after d e) = Unit {0}
ReadsReadable p _ (end_read t n after e) = Unit {0}
ReadsReadable p _ (begin_write t n raised after d e) = Unit {0}
ReadsReadable p _ (end_write t n after e) = Unit {0}

-- some moves, or none, lead from these points to those, and read what may be read
pub data LeadsReadably (p : Points) : Points → Type 0 where
  none : LeadsReadably p p
  later : (q r : Points) → LeadsReadably p q → (m : Moves q r) → ReadsReadable q r m → LeadsReadably p r

-- of no two kept stores of an atomic is each one's order inside the other's
abbrev pub OrdersDiffer : Points → Type 0
OrdersDiffer p = (n i j : ℕ) (history : History) → slice_get p.places n ≡ Some (Keeps history) → i < 7 → i < length history.stores → j < 7 → j < length history.stores → i ≢ j → has_same_order_in_slot p.graph history.stores i j ≡ false

-- that is so in every run
abbrev pub ApartLaw : Type 0
ApartLaw = (p : Points) → LeadsReadably opening p → OrdersDiffer p

-- so in a run a reader that has raised its version isn't refused its choice by equal orders
abbrev pub NeverEqualLaw : Type 0
NeverEqualLaw = (p raised : Points) (t n : ℕ) (reader : Reader) → LeadsReadably opening p → points_after_raise p t ≡ Ok raised → readable_slots_of raised t n reader ≢ Err OrdersEqual

-- in a run a thread that has raised its version has a slot to choose, whatever the orders are
abbrev pub ChoosingLaw : Type 0
ChoosingLaw = (p raised : Points) (t n : ℕ) (reader : Reader) (own : ThreadPoints) (history : History) → LeadsReadably opening p → points_after_raise p t ≡ Ok raised → slice_get raised.threads t ≡ Some own → slice_get raised.places n ≡ Some (Keeps history)
    → (slot : ℕ) × (slots : List ℕ) × (readable_slots_of raised t n reader ≡ Ok (slot ∷ slots))

-- the number of the store that is kept in a slot, where the object is an atomic
abbrev pub number_kept : Option Place → ℕ → Option ℕ
number_kept None slot = None
number_kept (Some (Meets k)) slot = None
number_kept (Some (Records cell)) slot = None
number_kept (Some (Keeps history)) slot = Some (number_in_slot (length history.stores) slot)

-- the move is a read-modify-write of atomic n that succeeds, and it reads the store of this number
abbrev pub UpdatesFrom : (p q : Points) → Moves p q → ℕ → ℕ → Type 0
UpdatesFrom p _ (acquire t m) n number = ⊥
UpdatesFrom p _ (release t m order) n number = ⊥
UpdatesFrom p _ (join t u) n number = ⊥
UpdatesFrom p _ (yielding t) n number = ⊥
UpdatesFrom p _ (spawn t after e) n number = ⊥
UpdatesFrom p _ (fence t order raised e) n number = ⊥
UpdatesFrom p _ new_point n number = ⊥
UpdatesFrom p _ new_stamp n number = ⊥
UpdatesFrom p _ (stamp m k) n number = ⊥
UpdatesFrom p _ (release_to_stamp t m order) n number = ⊥
UpdatesFrom p _ (acquire_from_stamp t m) n number = ⊥
UpdatesFrom p _ (new_atomic t value) n number = ⊥
UpdatesFrom p _ (load t m slot order raised after d e) n number = ⊥
UpdatesFrom p _ (store t m value order raised after d e) n number = ⊥
UpdatesFrom p _ (update t m slot value order raised read after c d e) n number = (m ≡ n) × (number_kept (slice_get raised.places m) slot ≡ Some number)
UpdatesFrom p _ (update_fail t m slot order raised read c d) n number = ⊥
UpdatesFrom p _ (unsync_load t m after e) n number = ⊥
UpdatesFrom p _ (with_mut t m after e) n number = ⊥
UpdatesFrom p _ (with_mut_end t m value after e) n number = ⊥
UpdatesFrom p _ (new_cell t) n number = ⊥
UpdatesFrom p _ (begin_read t m raised after d e) n number = ⊥
UpdatesFrom p _ (end_read t m after e) n number = ⊥
UpdatesFrom p _ (begin_write t m raised after d e) n number = ⊥
UpdatesFrom p _ (end_write t m after e) n number = ⊥

-- in a run, once a read-modify-write of an atomic has succeeded, no later one of it that succeeds reads the same store
abbrev pub OnceLaw : Type 0
OnceLaw = (p q r s : Points) (first : Moves p q) (second : Moves r s) (n number : ℕ) → LeadsReadably opening p → ReadsReadable p q first → UpdatesFrom p q first n number → LeadsReadably q r → ReadsReadable r s second → UpdatesFrom r s second n number → ⊥
