-- In a run the orders of an atomic's kept stores differ, and no reader is refused by equal ones.
use Rattle.std.proofs.Common.{◌≡◌, ◌≢◌, ℕ, Bool, true, false, refl, List, [], ◌∷◌, Option, Some, None, Result, Ok, Err}
use Rattle.std.specs.Prelude.{if◌then◌else◌}
use Rattle.std.specs.List.{slice_get}
use Rattle.loom_views.specs.declared.rt.failure.FailureKind.{FailureKind}
use Rattle.loom_views.specs.declared.rt.failure.FailureKind.TheVariants.{OrdersEqual}
use Rattle.loom_views.specs.ThreadViews.{ThreadPoints}
use Rattle.loom_views.specs.Atomic.History.{readable, fails_by_orders}
use Rattle.loom_views.specs.Views.{Place, Meets, Keeps, Records, readable_by, readable_slots_of}
use Rattle.loom_views.specs.Laws.Orders.{ApartLaw, NeverEqualLaw, ChoosingLaw}
use Rattle.loom_views.proofs.Atomic.SomeReadable.{some-readable}
use Rattle.loom_views.proofs.Atomic.Orders.Steps.{apart-differ, never-fails}
use Rattle.loom_views.proofs.Atomic.Orders.Moving.{Nothing, Sound, apart-at, first, leads-sound}
use Rattle.loom_views.proofs.Atomic.Orders.Whole.{leads-whole, raise-whole, stores-in}

pub apart_law : ApartLaw
apart_law p l n i j history e a b c d m = apart-differ (Nothing n) p.graph history.stores i j (apart-at Nothing p (leads-sound p l) n history e) (a, b) (c, d) m

pub never_equal_law : NeverEqualLaw
never_equal_law p raised t n reader l r = go (slice_get raised.threads t) (slice_get raised.places n) refl
  where
    sound : Sound Nothing raised
    sound = first Nothing p raised t (leads-sound p l) r

    tested : (a : Bool) (slots : List ℕ) → a ≡ false → ◌≡◌ {A = Result (List ℕ) FailureKind} (if a then Err OrdersEqual else Ok slots) (Err OrdersEqual) → ⊥
    tested true slots d e = cc
    tested false slots d e = cc

    go : (o : Option ThreadPoints) (q : Option Place) → slice_get raised.places n ≡ q → readable_by raised t reader o q ≡ Err OrdersEqual → ⊥
    go None q a e = cc
    go (Some own) None a e = cc
    go (Some own) (Some (Meets k)) a e = cc
    go (Some own) (Some (Records cell)) a e = cc
    go (Some own) (Some (Keeps history)) a e = tested (fails_by_orders raised.graph t own reader history.stores) (readable raised.graph t own reader history.stores) (never-fails (Nothing n) raised.graph t own reader history.stores (apart-at Nothing raised sound n history a)) e

pub choosing_law : ChoosingLaw
choosing_law p raised t n reader own history l r d e =
    let fails : fails_by_orders raised.graph t own reader history.stores ≡ false = never-fails (Nothing n) raised.graph t own reader history.stores (apart-at Nothing raised (first Nothing p raised t (leads-sound p l) r) n history e) in
    filled (readable raised.graph t own reader history.stores) (some-readable raised.graph t own reader history.stores (stores-in raised (raise-whole p raised t (leads-whole p l) r) n history e).0) (rw (d, e, fails) refl)
  where
    filled : (slots : List ℕ) → slots ≢ [] → readable_slots_of raised t n reader ≡ Ok slots → (slot : ℕ) × (rest : List ℕ) × (readable_slots_of raised t n reader ≡ Ok (slot ∷ rest))
    filled [] h q = absurd (h refl)
    filled (slot ∷ rest) h q = (slot, rest, q)
