-- What comes of an access that reads: the choice of its store, and a read-modify-write by the slot that was chosen.
use Rattle.std.proofs.Common.{◌≡◌, ℕ, zero, suc, ◌⊎◌, inl, inr, arith, refl, ap, sym, subst}
use Rattle.std.specs.Prelude.{true, false, List, [], ◌∷◌, Bool, slice_get, Option, Some, Ok, Err, Result}
use Rattle.std.specs.List.{Contains}
use Rattle.std.specs.declared.sync.atomic.Ordering.{Ordering}
use Rattle.loom_views.specs.Views.{Points, ShowsViews, MovesAs, OffersAs, slot_set, points_after_raise, readable_slots_of}
use Rattle.loom_views.specs.declared.rt.atomic.reader.Reader.{Reader}
use Rattle.loom_views.specs.declared.rt.num.change.Change.{Change}
use Rattle.loom_views.specs.declared.rt.failure.FailureKind.{FailureKind}
use Rattle.loom_views.specs.declared.rt.views.Views.{Views}
use Rattle.loom_views.proofs.Atomic.Table.Kept.{offered_slots_are_kept_law}
use Rattle.loom_objects.specs.declared.operation.AtomicOp.{AtomicOp}
use Rattle.loom_objects.specs.declared.operation.AtomicOp.TheVariants.{Load, Store, Update, CompareExchange, CompareAndSwap}
use Rattle.loom_objects.specs.declared.operation.Exchange.{Exchange}
use Rattle.loom_objects.specs.declared.rt.atomic.Atomic.{Atomic}
use Rattle.loom_objects.specs.declared.rt.run.Resumed.TheVariants as resumed
use Rattle.loom_objects.specs.Stages.Reader.{reader_of}
use Rattle.loom_objects.specs.Rules.Atomic.{access_begins, accesses, atomic_begins, opens, some_slot}
use Rattle.loom_objects.specs.Rules.Moves.{an_atomic, with_points}
use Rattle.loom_objects.specs.Operation.Accessed.{accessed}
use Rattle.loom_objects.specs.Rules.Rule.{◌>>=◌}
use Rattle.loom_objects.specs.Scene.Stage.{Stage, world_of, Comes, DoesAt, KeepsAt}
use Rattle.loom_objects.specs.World.{World}
use Rattle.loom_objects.proofs.Scene.Showing.{Leads}

-- ---- an access that waits for its turn

-- at each of these the thread reaches a branch point
pub comes_to_branch : {D : Type 0} (access : AtomicOp) (w : World D)
    → ((n : ℕ) × (order : Ordering) × (access ≡ Load n order)) ⊎ (((n : ℕ) × (value : ℕ) × (order : Ordering) × (access ≡ Store n value order))
    ⊎ (((n : ℕ) × (change : Change) × (order : Ordering) × (access ≡ Update n change order)) ⊎ (((n : ℕ) × (exchange : Exchange) × (access ≡ CompareExchange n exchange))
    ⊎ ((n : ℕ) × (expected : ℕ) × (new : ℕ) × (order : Ordering) × (access ≡ CompareAndSwap n expected new order)))))
    → atomic_begins access w ≡ access_begins access w
comes_to_branch access w (inl (n, order, e)) = rw e refl
comes_to_branch access w (inr (inl (n, value, order, e))) = rw e refl
comes_to_branch access w (inr (inr (inl (n, change, order, e)))) = rw e refl
comes_to_branch access w (inr (inr (inr (inl (n, exchange, e))))) = rw e refl
comes_to_branch access w (inr (inr (inr (inr (n, expected, new, order, e))))) = rw e refl

-- ---- which store is read

-- each of these opens, by how it reads
pub opens_by_reader : {D : Type 0} (access : AtomicOp) (n : ℕ) (w : World D)
    → ((order : Ordering) × (access ≡ Load n order)) ⊎ (((change : Change) × (order : Ordering) × (access ≡ Update n change order))
    ⊎ (((exchange : Exchange) × (access ≡ CompareExchange n exchange)) ⊎ ((expected : ℕ) × (new : ℕ) × (order : Ordering) × (access ≡ CompareAndSwap n expected new order))))
    → accesses access w ≡ opens n (reader_of access) access w
opens_by_reader access n w (inl (order, e)) = rw e refl
opens_by_reader access n w (inr (inl (change, order, e))) = rw e refl
opens_by_reader access n w (inr (inr (inl (exchange, e)))) = rw e refl
opens_by_reader access n w (inr (inr (inr (expected, new, order, e)))) = rw e refl

-- a set with a slot has one that may be read
pub some_is : (readable : List Bool) → Contains readable true → some_slot readable ≡ true
some_is [] h = let within = h.1 in absurd (omega arith)
some_is (true ∷ readable) h = refl
some_is (false ∷ readable) (zero, within, e) = absurd (cc)
some_is (false ∷ readable) (suc i, within, e) = some_is readable (i, omega arith, e)

moved : (r : Result Points FailureKind) (v : Views) → MovesAs r (Ok tt) v → (p : Points) × (r ≡ Ok p) × ShowsViews p v
moved (Ok p) v h = (p, refl, h.1)
moved (Err kind) v h = absurd (cc)

offered : (r : Result (List ℕ) FailureKind) (readable : List Bool) → OffersAs r (Ok readable) → (offers : List ℕ) × (r ≡ Ok offers) × (readable ≡ slot_set offers)
offered (Ok offers) readable h = (offers, refl, cc)
offered (Err kind) readable h = absurd (cc)

module _ (n t u : ℕ) (stays : u ≡ t) (reader : Reader) (readable : List Bool) (old new : Views)
    (offers : (p : Points) → ShowsViews p new → OffersAs (readable_slots_of p u n reader) (Ok readable)) where
  -- the thread raises, and then these slots may be read
  abbrev pub Opens : Points → Points → Type 0
  Opens p q = (points_after_raise p t ≡ Ok q) × ((slots : List ℕ) × (readable_slots_of q t n reader ≡ Ok slots) × (readable ≡ slot_set slots))

  pub leads_to_offers : ((p : Points) → ShowsViews p old → MovesAs (points_after_raise p t) (Ok tt) new) → Leads old new Opens
  leads_to_offers raise = λ p shown.
      let q = moved (points_after_raise p t) new (raise p shown) in
      let o = offered (readable_slots_of q.0 u n reader) readable (offers q.0 q.2) in
      (q.0, (q.1, (o.0, subst (λ (s : ℕ). readable_slots_of q.0 s n reader ≡ Ok o.0) stays o.1, o.2)), q.2)

  -- each of them keeps a store
  pub offers_kept : (access : AtomicOp) → accessed access ≡ Some n → (p : Points) → ShowsViews p new → (slot : ℕ) → slice_get readable slot ≡ Some true → KeepsAt p (accessed access) slot
  offers_kept access of p shown slot set =
      let o = offered (readable_slots_of p u n reader) readable (offers p shown) in
      subst (λ (m : Option ℕ). KeepsAt p m slot) (sym of)
      (offered_slots_are_kept_law p u n reader o.0 slot o.1 (subst (λ (set : List Bool). slice_get set slot ≡ Some true) o.2 set))

-- and so an access opens
pub opens_as : {D : Type 0} (n : ℕ) (reader : Reader) (access : AtomicOp) (w : World D) (q : Points) (atomic : Atomic) (slots : List ℕ) (readable : List Bool) → points_after_raise w.points w.active ≡ Ok q
    → an_atomic n w ≡ Ok atomic → readable_slots_of q w.active n reader ≡ Ok slots → readable ≡ slot_set slots → some_slot readable ≡ true
    → opens n reader access w ≡ Ok (resumed.Load (record { access = access; readable = readable }), with_points q w)
opens_as n reader access w q atomic slots readable raise at reads is some =
    rw (raise, at, reads, ← is, some) refl

-- ---- what the thread is told of it

-- the answer, told so
abbrev pub told_by : {A B : Type 0} → (A → B) → Result A FailureKind → Result B FailureKind
told_by f (Ok a) = Ok (f a)
told_by f (Err kind) = Err kind

module _ {A B D : Type 0} (f : A → B) where
  comes_told : (p : Points) (left : ℕ) (answer : Result (A × World D) FailureKind) (r : Result A FailureKind) (new : Stage D)
      → Comes p left answer r new → Comes p left (answer >>= (λ x. Ok (f x.0, x.1))) (told_by f r) new
  comes_told p left (Ok x) (Ok a) new h =
      let e = h.0 in
      let same : x ≡ (a, world_of x.1.points left new) = cc in
      (ap (λ (y : A × World D). Ok (f y.0, y.1)) same, h.1)
  comes_told p left (Ok x) (Err kind) new h = absurd (cc)
  comes_told p left (Err kind) (Ok a) new h = let e = h.0 in absurd (cc)
  comes_told p left (Err kind) (Err other) new h = let same : kind ≡ other = cc in ap Err same

  pub tells : (access : AtomicOp) (slot : ℕ) (rule : World D → Result (A × World D) FailureKind) (old new : Stage D) (r : Result A FailureKind)
      → DoesAt access slot rule old r new → DoesAt access slot (λ w. rule w >>= (λ x. Ok (f x.0, x.1))) old (told_by f r) new
  tells access slot rule old new r does = λ p left shown kept. comes_told p left (rule (world_of p left old)) r new (does p left shown kept)
