-- The rules of the machine look at points by moves alone: where the same is seen of them, each rule answers alike.
use Rattle.std.proofs.Common.{◌≡◌, ℕ, Bool, true, false, List, [], ◌∷◌, Option, Some, None, refl, ap, sym, subst, inl}
use Rattle.std.specs.Prelude.{◌+◌, ◌==◌, not, nat_lt, is_none, slice_index, slice_set, Result, Ok, Err}
use Rattle.std.specs.declared.sync.atomic.Ordering.{Ordering}
use Rattle.loom_views.specs.Changes.{fit, changed}
use Rattle.loom_views.specs.Limits.{highest_count}
use Rattle.loom_views.specs.Views.{Accessed, Points, points_after_load, points_after_raise, points_after_read, points_after_store, points_after_unsync_load, points_after_update_read, points_after_update_write, points_after_with_mut, points_after_with_mut_end, points_after_write, readable_slots_of, points_after_join, slot_set}
use Rattle.loom_views.specs.declared.rt.atomic.reader.Reader.{Reader}
use Rattle.loom_views.specs.declared.rt.atomic.reader.Reader.TheVariants as reader
use Rattle.loom_views.specs.declared.rt.failure.FailureKind.{FailureKind}
use Rattle.loom_views.specs.declared.rt.failure.FailureKind.TheVariants.{Misuse, OpenAccess, RelaxedFence, TooManySteps}
use Rattle.loom_views.specs.declared.rt.num.change.Change.{Change}
use Rattle.loom_objects.specs.declared.operation.AtomicOp.{AtomicOp}
use Rattle.loom_objects.specs.declared.operation.AtomicOp.TheVariants as atomic_op
use Rattle.loom_objects.specs.declared.operation.Exchange.{Exchange}
use Rattle.loom_objects.specs.declared.operation.Reply.{Reply}
use Rattle.loom_objects.specs.declared.operation.Reply.TheVariants as reply
use Rattle.loom_objects.specs.declared.rt.run.Entry.TheVariants.{Answered}
use Rattle.loom_objects.specs.Operation.Accessed.{accessed}
use Rattle.loom_objects.specs.Rules.Atomic.{access_begins, accesses, atomic_begins, exchanges, exchanges_if, fence, is_relaxed, loads, opens, reads, some_slot, store, swap_of, tells_exchanged, tells_read, updates, writes}
use Rattle.loom_objects.specs.Rules.Cell.{cell_begins, data_left, exchanges_cells, is_free as is_free_cell, is_unread as is_unread_cell, opens_write, reads_open, records_read, records_write, swap_if}
use Rattle.loom_objects.specs.declared.operation.CellOp.{CellOp}
use Rattle.loom_objects.specs.declared.operation.CellOp.TheVariants as cell_op
use Rattle.loom_objects.specs.Rules.Moves.{a_cell, an_atomic, is_number, joined_points, raises, rouses, rouses_all, with_points}
use Rattle.loom_objects.specs.Rules.Replied.{replied}
use Rattle.loom_objects.specs.Rules.Rule.{◌>>=◌, check, found}
use Rattle.loom_objects.specs.Lent.{value_in}
use Rattle.loom_objects.specs.Tree.Tree.{came}
use Rattle.loom_objects.specs.World.{World}
use Rattle.loom_engine.specs.Covering.Alike.{AreAlike}
use Rattle.loom_engine.specs.Covering.Points.{AccessesAlike, MovesAlike, SlotsAlike, TellsMoves}
use Rattle.loom_engine.specs.Covering.States.{BothAlike}
use Rattle.loom_engine.proofs.Covering.Alike.{limit_left, limit_right}

pub joined_so : {V : Type 0} (limits : FailureKind → Bool) (seen : Points → V) → TellsMoves limits seen → (o : Option ℕ) (t : ℕ) (p q : Points) → seen p ≡ seen q
    → seen (joined_points o t p) ≡ seen (joined_points o t q)
joined_so limits seen tells None t p q e = e
joined_so limits seen tells (Some u) t p q e = tells.join p q u t e

-- what is seen of the yields tells what is seen once a thread has yielded once more
abbrev pub YieldsTell : (List ℕ → List ℕ) → Type 0
YieldsTell see = (a b : List ℕ) (t : ℕ) → see a ≡ see b → see (slice_set a t (slice_index a t + 1)) ≡ see (slice_set b t (slice_index b t + 1))

module _ {D V : Type 0} (limits : FailureKind → Bool) (seen : Points → V) (see : List ℕ → List ℕ) where
  -- the same state with other points, with so many operations left, and with other yields
  abbrev pub with_other : Points → ℕ → List ℕ → World D → World D
  with_other q k y w = record w { points = q; steps_left = k; yields = y }

  -- the same is seen of the points, and of the yields
  abbrev pub SeenSame : World D → Points → List ℕ → Type 0
  SeenSame w q y = (seen w.points ≡ seen q) × (see w.yields ≡ see y)

  abbrev pub Like : World D → World D → Type 0
  Like w v = (q : Points) × (k : ℕ) × (y : List ℕ) × SeenSame w q y × (v ≡ with_other q k y w)

  -- both answer the same, and lead to states that are like each other
  abbrev pub Follows : {A : Type 0} → Result (A × World D) FailureKind → Result (A × World D) FailureKind → Type 0
  Follows r s = AreAlike limits (BothAlike Like) (came r) (came s)

  abbrev pub FollowsAlone : Result (World D) FailureKind → Result (World D) FailureKind → Type 0
  FollowsAlone r s = AreAlike limits Like (came r) (came s)

  -- ---- one step and then another

  pub after : {A B : Type 0} (r : Result B FailureKind) (f g : B → Result (A × World D) FailureKind) → ((b : B) → Follows (f b) (g b)) → Follows (r >>= f) (r >>= g)
  after (Ok b) f g h = h b
  after (Err kind) f g h = inl refl

  pub after_alone : {B : Type 0} (r : Result B FailureKind) (f g : B → Result (World D) FailureKind) → ((b : B) → FollowsAlone (f b) (g b)) → FollowsAlone (r >>= f) (r >>= g)
  after_alone (Ok b) f g h = h b
  after_alone (Err kind) f g h = inl refl

  pub state_then : {A : Type 0} (r s : Result (World D) FailureKind) (f g : World D → Result (A × World D) FailureKind) → FollowsAlone r s
      → ((w : World D) (q : Points) (k : ℕ) (y : List ℕ) → SeenSame w q y → Follows (f w) (g (with_other q k y w))) → Follows (r >>= f) (s >>= g)
  state_then (Ok w) (Ok v) f g (q, k, y, e, i) h = subst (λ x. Follows (f w) (g x)) (sym i) (h w q k y e)
  state_then (Ok w) (Err kind) f g p h = limit_right limits (BothAlike Like) (came (f w)) kind p
  state_then (Err kind) (Ok v) f g p h = limit_left limits (BothAlike Like) kind (came (g v)) p
  state_then (Err kind) (Err other) f g p h = p

  pub answer_then : {A B : Type 0} (r s : Result (B × World D) FailureKind) (f g : B × World D → Result (A × World D) FailureKind) → Follows r s
      → ((b : B) (w : World D) (q : Points) (k : ℕ) (y : List ℕ) → SeenSame w q y → Follows (f (b, w)) (g (b, with_other q k y w))) → Follows (r >>= f) (s >>= g)
  answer_then (Ok (b, w)) (Ok (c, v)) f g (j, (q, k, y, e, i)) h = subst (λ x. Follows (f (b, w)) (g (c, x))) (sym i) (subst (λ x. Follows (f (b, w)) (g (x, with_other q k y w))) j (h b w q k y e))
  answer_then (Ok (b, w)) (Err kind) f g p h = limit_right limits (BothAlike Like) (came (f (b, w))) kind p
  answer_then (Err kind) (Ok (c, v)) f g p h = limit_left limits (BothAlike Like) kind (came (g (c, v))) p
  answer_then (Err kind) (Err other) f g p h = p

  pub points_then : {A : Type 0} (r s : Result Points FailureKind) (f g : Points → Result (A × World D) FailureKind) → MovesAlike limits seen r s
      → ((p q : Points) → seen p ≡ seen q → Follows (f p) (g q)) → Follows (r >>= f) (s >>= g)
  points_then (Ok p) (Ok q) f g i h = h p q i
  points_then (Ok p) (Err kind) f g i h = limit_right limits (BothAlike Like) (came (f p)) kind i
  points_then (Err kind) (Ok q) f g i h = limit_left limits (BothAlike Like) kind (came (g q)) i
  points_then (Err kind) (Err other) f g i h = i

  pub points_alone : (r s : Result Points FailureKind) (f g : Points → Result (World D) FailureKind) → MovesAlike limits seen r s
      → ((p q : Points) → seen p ≡ seen q → FollowsAlone (f p) (g q)) → FollowsAlone (r >>= f) (s >>= g)
  points_alone (Ok p) (Ok q) f g i h = h p q i
  points_alone (Ok p) (Err kind) f g i h = limit_right limits Like (came (f p)) kind i
  points_alone (Err kind) (Ok q) f g i h = limit_left limits Like kind (came (g q)) i
  points_alone (Err kind) (Err other) f g i h = i

  pub access_then : {A : Type 0} (r s : Result Accessed FailureKind) (f g : Accessed → Result (A × World D) FailureKind) → AccessesAlike limits seen r s
      → ((a b : Accessed) → a.value ≡ b.value → seen a.points ≡ seen b.points → Follows (f a) (g b)) → Follows (r >>= f) (s >>= g)
  access_then (Ok a) (Ok b) f g p h = h a b p.0 p.1
  access_then (Ok a) (Err kind) f g p h = limit_right limits (BothAlike Like) (came (f a)) kind p
  access_then (Err kind) (Ok b) f g p h = limit_left limits (BothAlike Like) kind (came (g b)) p
  access_then (Err kind) (Err other) f g p h = p

  pub access_alone : (r s : Result Accessed FailureKind) (f g : Accessed → Result (World D) FailureKind) → AccessesAlike limits seen r s
      → ((a b : Accessed) → seen a.points ≡ seen b.points → FollowsAlone (f a) (g b)) → FollowsAlone (r >>= f) (s >>= g)
  access_alone (Ok a) (Ok b) f g p h = h a b p.1
  access_alone (Ok a) (Err kind) f g p h = limit_right limits Like (came (f a)) kind p
  access_alone (Err kind) (Ok b) f g p h = limit_left limits Like kind (came (g b)) p
  access_alone (Err kind) (Err other) f g p h = p

  pub slots_then : {A : Type 0} (r s : Result (List ℕ) FailureKind) (f g : List ℕ → Result (A × World D) FailureKind) → SlotsAlike limits seen r s
      → ((slots : List ℕ) → Follows (f slots) (g slots)) → Follows (r >>= f) (s >>= g)
  slots_then (Ok a) (Ok b) f g p h = subst (λ x. Follows (f a) (g x)) p (h a)
  slots_then (Ok a) (Err kind) f g p h = limit_right limits (BothAlike Like) (came (f a)) kind p
  slots_then (Err kind) (Ok b) f g p h = limit_left limits (BothAlike Like) kind (came (g b)) p
  slots_then (Err kind) (Err other) f g p h = p

  module _ (tells : TellsMoves limits seen) where
    pub raises_so : (w : World D) (q : Points) (k : ℕ) (y : List ℕ) → SeenSame w q y → FollowsAlone (raises w) (raises (with_other q k y w))
    raises_so w q k y e = points_alone (points_after_raise w.points w.active) (points_after_raise q w.active) _ _ (tells.raise w.points q w.active e.0) (λ p r i. (r, k, y, (i, e.1), refl))

    pub rouses_so : (list : List ℕ) (w : World D) (q : Points) (k : ℕ) (y : List ℕ) → SeenSame w q y → Like (rouses_all list w) (rouses_all list (with_other q k y w))
    rouses_so [] w q k y e = (q, k, y, e, refl)
    rouses_so (t ∷ rest) w q k y e = rouses_so rest (rouses t w) (points_after_join q t w.active) k y (tells.join w.points q t w.active e.0, e.1)

    -- ---- atomics

    access_begins_so : (access : AtomicOp) (w : World D) (q : Points) (k : ℕ) (y : List ℕ) → SeenSame w q y → Follows (access_begins access w) (access_begins access (with_other q k y w))
    access_begins_so access w q k y e = after (found (accessed access) Misuse) _ _ (λ n. after (an_atomic n w) _ _ (λ atomic. (refl, (_, _, _, e, refl))))

    pub fence_so : (order : Ordering) (w : World D) (q : Points) (k : ℕ) (y : List ℕ) → SeenSame w q y → Follows (fence order w) (fence order (with_other q k y w))
    fence_so order w q k y e =
        state_then (raises w) (raises (with_other q k y w)) _ _ (raises_so w q k y e) (λ u p j z f. after (check (not (is_relaxed order)) RelaxedFence) _ _ (λ passes. (refl, (_, _, _, (tells.fence u.points p u.active order f.0, f.1), refl))))

    pub atomic_begins_so : (todo : AtomicOp) (w : World D) (q : Points) (k : ℕ) (y : List ℕ) → SeenSame w q y → Follows (atomic_begins todo w) (atomic_begins todo (with_other q k y w))
    atomic_begins_so (atomic_op.New numbers value) w q k y e = (refl, (_, _, _, (tells.atomic w.points q w.active (fit numbers value) e.0, e.1), refl))
    atomic_begins_so (atomic_op.UnsyncLoad n) w q k y e =
        after (an_atomic n w) _ _ (λ atomic. access_then (points_after_unsync_load w.points w.active n) (points_after_unsync_load q w.active n) _ _ (tells.unsync_load w.points q w.active n e.0)
        (λ a b i f. (ap (λ x. Answered (reply.Value x)) i, (_, _, _, (f, e.1), refl))))
    atomic_begins_so (atomic_op.IntoInner n) w q k y e =
        after (an_atomic n w) _ _ (λ atomic. access_then (points_after_unsync_load w.points w.active n) (points_after_unsync_load q w.active n) _ _ (tells.unsync_load w.points q w.active n e.0)
        (λ a b i f. (ap (λ x. Answered (reply.Value x)) i, (_, _, _, (f, e.1), refl))))
    atomic_begins_so (atomic_op.WithMut n) w q k y e =
        after (an_atomic n w) _ _ (λ atomic. access_then (points_after_with_mut w.points w.active n) (points_after_with_mut q w.active n) _ _ (tells.with_mut w.points q w.active n e.0)
        (λ a b i f. (ap (λ x. Answered (reply.Value x)) i, (_, _, _, (f, e.1), refl))))
    atomic_begins_so (atomic_op.WithMutEnd n value) w q k y e =
        after (an_atomic n w) _ _ (λ atomic. after (check (is_number atomic.opened w.active) Misuse) _ _ (λ passes.
        access_then (points_after_with_mut_end w.points w.active n (fit atomic.numbers value)) (points_after_with_mut_end q w.active n (fit atomic.numbers value)) _ _
        (tells.with_mut_end w.points q w.active n (fit atomic.numbers value) e.0) (λ a b i f. (refl, (_, _, _, (f, e.1), refl)))))
    atomic_begins_so (atomic_op.Load n order) w q k y e = access_begins_so (atomic_op.Load n order) w q k y e
    atomic_begins_so (atomic_op.Store n value order) w q k y e = access_begins_so (atomic_op.Store n value order) w q k y e
    atomic_begins_so (atomic_op.Update n change order) w q k y e = access_begins_so (atomic_op.Update n change order) w q k y e
    atomic_begins_so (atomic_op.CompareExchange n exchange) w q k y e = access_begins_so (atomic_op.CompareExchange n exchange) w q k y e
    atomic_begins_so (atomic_op.CompareAndSwap n expected new order) w q k y e = access_begins_so (atomic_op.CompareAndSwap n expected new order) w q k y e

    store_so : (n value : ℕ) (order : Ordering) (w : World D) (q : Points) (k : ℕ) (y : List ℕ) → SeenSame w q y → Follows (store n value order w) (store n value order (with_other q k y w))
    store_so n value order w q k y e =
        state_then (raises w) (raises (with_other q k y w)) _ _ (raises_so w q k y e) (λ u p j z f. after (an_atomic n u) _ _ (λ atomic.
        access_then (points_after_store u.points u.active n (fit atomic.numbers value) order) (points_after_store p u.active n (fit atomic.numbers value) order) _ _
        (tells.store u.points p u.active n (fit atomic.numbers value) order f.0) (λ a b i g. (refl, (_, _, _, (g, f.1), refl)))))

    opens_so : (n : ℕ) (reader : Reader) (access : AtomicOp) (w : World D) (q : Points) (k : ℕ) (y : List ℕ) → SeenSame w q y → Follows (opens n reader access w) (opens n reader access (with_other q k y w))
    opens_so n reader access w q k y e =
        state_then (raises w) (raises (with_other q k y w)) _ _ (raises_so w q k y e) (λ u p j z f. after (an_atomic n u) _ _ (λ atomic.
        slots_then (readable_slots_of u.points u.active n reader) (readable_slots_of p u.active n reader) _ _ (tells.readable u.points p u.active n reader f.0)
        (λ slots. after (check (some_slot (slot_set slots)) Misuse) _ _ (λ passes. (refl, (_, _, _, f, refl))))))

    loads_so : (n : ℕ) (order : Ordering) (slot : ℕ) (w : World D) (q : Points) (k : ℕ) (y : List ℕ) → SeenSame w q y → Follows (loads n order slot w) (loads n order slot (with_other q k y w))
    loads_so n order slot w q k y e =
        access_then (points_after_load w.points w.active n slot order) (points_after_load q w.active n slot order) _ _ (tells.load w.points q w.active n slot order e.0) (λ a b i f. (ap (λ x. reply.Value x) i, (_, _, _, (f, e.1), refl)))

    writes_so : (n value : ℕ) (order : Ordering) (slot : ℕ) (w : World D) (q : Points) (k : ℕ) (y : List ℕ) → SeenSame w q y → FollowsAlone (writes n value order slot w) (writes n value order slot (with_other q k y w))
    writes_so n value order slot w q k y e =
        access_alone (points_after_update_write w.points w.active n slot value order) (points_after_update_write q w.active n slot value order) _ _ (tells.update_write w.points q w.active n slot value order e.0)
        (λ a b f. (_, _, _, (f, e.1), refl))

    updates_so : (n : ℕ) (change : Change) (order : Ordering) (slot : ℕ) (w : World D) (q : Points) (k : ℕ) (y : List ℕ) → SeenSame w q y
        → Follows (updates n change order slot w) (updates n change order slot (with_other q k y w))
    updates_so n change order slot w q k y e =
        after (an_atomic n w) _ _ (λ atomic. access_then (points_after_update_read w.points w.active n slot) (points_after_update_read q w.active n slot) _ _ (tells.update_read w.points q w.active n slot e.0)
        (λ a b i f. state_then (writes n (fit atomic.numbers (changed atomic.numbers change a.value)) order slot (with_points a.points w)) (writes n (fit atomic.numbers (changed atomic.numbers change b.value)) order slot (with_points b.points (with_other q k y w))) _ _
        (subst (λ x. FollowsAlone (writes n (fit atomic.numbers (changed atomic.numbers change a.value)) order slot (with_points a.points w)) (writes n (fit atomic.numbers (changed atomic.numbers change x)) order slot (with_other b.points k y w))) i
        (writes_so n (fit atomic.numbers (changed atomic.numbers change a.value)) order slot (with_points a.points w) b.points k y (f, e.1)))
        (λ u p j z g. (ap (λ x. reply.Value x) i, (_, _, _, g, refl)))))

    exchanges_if_so : (is_expected : Bool) (n new : ℕ) (exchange : Exchange) (slot read : ℕ) (w : World D) (q : Points) (k : ℕ) (y : List ℕ) → SeenSame w q y
        → Follows (exchanges_if is_expected n new exchange slot read w) (exchanges_if is_expected n new exchange slot read (with_other q k y w))
    exchanges_if_so true n new exchange slot read w q k y e =
        state_then (writes n new exchange.success slot w) (writes n new exchange.success slot (with_other q k y w)) _ _ (writes_so n new exchange.success slot w q k y e) (λ u p j z f. (refl, (_, _, _, f, refl)))
    exchanges_if_so false n new exchange slot read w q k y e = (refl, (_, _, _, (tells.update_fail w.points q w.active n slot exchange.failure e.0, e.1), refl))

    exchanges_so : (n : ℕ) (exchange : Exchange) (slot : ℕ) (w : World D) (q : Points) (k : ℕ) (y : List ℕ) → SeenSame w q y → Follows (exchanges n exchange slot w) (exchanges n exchange slot (with_other q k y w))
    exchanges_so n exchange slot w q k y e =
        after (an_atomic n w) _ _ (λ atomic. access_then (points_after_update_read w.points w.active n slot) (points_after_update_read q w.active n slot) _ _ (tells.update_read w.points q w.active n slot e.0)
        (λ a b i f. subst (λ x. Follows (exchanges_if (a.value == fit atomic.numbers exchange.expected) n (fit atomic.numbers exchange.new) exchange slot a.value (with_points a.points w)) (exchanges_if (x == fit atomic.numbers exchange.expected) n (fit atomic.numbers exchange.new) exchange slot x (with_other b.points k y w))) i
        (exchanges_if_so (a.value == fit atomic.numbers exchange.expected) n (fit atomic.numbers exchange.new) exchange slot a.value (with_points a.points w) b.points k y (f, e.1))))

    pub reads_so : (access : AtomicOp) (slot : ℕ) (w : World D) (q : Points) (k : ℕ) (y : List ℕ) → SeenSame w q y → Follows (reads access w slot) (reads access (with_other q k y w) slot)
    reads_so (atomic_op.Load n order) slot w q k y e = loads_so n order slot w q k y e
    reads_so (atomic_op.Update n change order) slot w q k y e = updates_so n change order slot w q k y e
    reads_so (atomic_op.CompareExchange n exchange) slot w q k y e =
        answer_then (exchanges n exchange slot w) (exchanges n exchange slot (with_other q k y w)) tells_exchanged tells_exchanged (exchanges_so n exchange slot w q k y e) (λ answer u p j z f. (refl, (_, _, _, f, refl)))
    reads_so (atomic_op.CompareAndSwap n expected new order) slot w q k y e =
        answer_then (exchanges n (swap_of expected new order) slot w) (exchanges n (swap_of expected new order) slot (with_other q k y w)) tells_read tells_read (exchanges_so n (swap_of expected new order) slot w q k y e)
        (λ answer u p j z f. (refl, (_, _, _, f, refl)))
    reads_so (atomic_op.New numbers value) slot w q k y e = inl refl
    reads_so (atomic_op.Store n value order) slot w q k y e = inl refl
    reads_so (atomic_op.UnsyncLoad n) slot w q k y e = inl refl
    reads_so (atomic_op.IntoInner n) slot w q k y e = inl refl
    reads_so (atomic_op.WithMut n) slot w q k y e = inl refl
    reads_so (atomic_op.WithMutEnd n value) slot w q k y e = inl refl

    -- the active thread gets the reply
    pub replied_so : (r s : Result (Reply D × World D) FailureKind) → Follows r s → Follows (r >>= replied) (s >>= replied)
    replied_so r s h = answer_then r s replied replied h (λ answer u p j z f. (refl, (_, _, _, f, refl)))

    pub accesses_so : (access : AtomicOp) (w : World D) (q : Points) (k : ℕ) (y : List ℕ) → SeenSame w q y → Follows (accesses access w) (accesses access (with_other q k y w))
    accesses_so (atomic_op.Store n value order) w q k y e = replied_so (store n value order w) (store n value order (with_other q k y w)) (store_so n value order w q k y e)
    accesses_so (atomic_op.Load n order) w q k y e = opens_so n (reader.Load order) (atomic_op.Load n order) w q k y e
    accesses_so (atomic_op.Update n change order) w q k y e = opens_so n reader.Update (atomic_op.Update n change order) w q k y e
    accesses_so (atomic_op.CompareExchange n exchange) w q k y e = opens_so n reader.Update (atomic_op.CompareExchange n exchange) w q k y e
    accesses_so (atomic_op.CompareAndSwap n expected new order) w q k y e = opens_so n reader.Update (atomic_op.CompareAndSwap n expected new order) w q k y e
    accesses_so (atomic_op.New numbers value) w q k y e = inl refl
    accesses_so (atomic_op.UnsyncLoad n) w q k y e = inl refl
    accesses_so (atomic_op.IntoInner n) w q k y e = inl refl
    accesses_so (atomic_op.WithMut n) w q k y e = inl refl
    accesses_so (atomic_op.WithMutEnd n value) w q k y e = inl refl

    -- ---- cells

    records_read_so : (n : ℕ) (w : World D) (q : Points) (k : ℕ) (y : List ℕ) → SeenSame w q y → FollowsAlone (records_read n w) (records_read n (with_other q k y w))
    records_read_so n w q k y e = points_alone (points_after_read w.points w.active n) (points_after_read q w.active n) _ _ (tells.read w.points q w.active n e.0) (λ p r i. (r, k, y, (i, e.1), refl))

    records_write_so : (n : ℕ) (w : World D) (q : Points) (k : ℕ) (y : List ℕ) → SeenSame w q y → FollowsAlone (records_write n w) (records_write n (with_other q k y w))
    records_write_so n w q k y e = points_alone (points_after_write w.points w.active n) (points_after_write q w.active n) _ _ (tells.write w.points q w.active n e.0) (λ p r i. (r, k, y, (i, e.1), refl))

    opens_write_so : (n : ℕ) (w : World D) (q : Points) (k : ℕ) (y : List ℕ) → SeenSame w q y → Follows (opens_write n w) (opens_write n (with_other q k y w))
    opens_write_so n w q k y e =
        after (a_cell n w) _ _ (λ cell. state_then (raises w) (raises (with_other q k y w)) _ _ (raises_so w q k y e) (λ u p j z f. after (check (is_free_cell cell) OpenAccess) _ _ (λ passes.
        state_then (records_write n u) (records_write n (with_other p j z u)) _ _ (records_write_so n u p j z f) (λ x r i x' g. (refl, (_, _, _, g, refl))))))

    exchanges_cells_so : (n m : ℕ) (w : World D) (q : Points) (k : ℕ) (y : List ℕ) → SeenSame w q y → Follows (exchanges_cells n m w) (exchanges_cells n m (with_other q k y w))
    exchanges_cells_so n m w q k y e =
        after (a_cell n w) _ _ (λ one. after (a_cell m w) _ _ (λ other. after (found (value_in one.content) Misuse) _ _ (λ of_one. after (found (value_in other.content) Misuse) _ _ (λ of_other.
        state_then (records_write m w) (records_write m (with_other q k y w)) _ _ (records_write_so m w q k y e) (λ u p j z f.
        state_then (records_write n u) (records_write n (with_other p j z u)) _ _ (records_write_so n u p j z f) (λ x r i x' g. (refl, (_, _, _, g, refl))))))))

    swap_if_so : (is_same : Bool) (n m : ℕ) (w : World D) (q : Points) (k : ℕ) (y : List ℕ) → SeenSame w q y → Follows (swap_if is_same n m w) (swap_if is_same n m (with_other q k y w))
    swap_if_so true n m w q k y e = (refl, (_, _, _, e, refl))
    swap_if_so false n m w q k y e =
        answer_then (opens_write n w) (opens_write n (with_other q k y w)) _ _ (opens_write_so n w q k y e) (λ opened u p j z f.
        answer_then (opens_write m u) (opens_write m (with_other p j z u)) _ _ (opens_write_so m u p j z f) (λ both x r i x' g. exchanges_cells_so n m x r i x' g))

    pub cell_begins_so : (todo : CellOp D) (w : World D) (q : Points) (k : ℕ) (y : List ℕ) → SeenSame w q y → Follows (cell_begins todo w) (cell_begins todo (with_other q k y w))
    cell_begins_so (cell_op.New value) w q k y e = (refl, (_, _, _, (tells.cell w.points q w.active e.0, e.1), refl))
    cell_begins_so (cell_op.Read n) w q k y e =
        after (a_cell n w) _ _ (λ cell. state_then (raises w) (raises (with_other q k y w)) _ _ (raises_so w q k y e) (λ u p j z f. after (check (is_none cell.content.lent) OpenAccess) _ _ (λ passes.
        state_then (records_read n u) (records_read n (with_other p j z u)) _ _ (records_read_so n u p j z f) (λ x r i x' g. after (found (value_in cell.content) Misuse) _ _ (λ value.
        after (check (nat_lt (reads_open w.active cell) highest_count) TooManySteps) _ _ (λ few. (refl, (_, _, _, g, refl))))))))
    cell_begins_so (cell_op.ReadEnd n) w q k y e =
        after (a_cell n w) _ _ (λ cell. after (check (nat_lt 0 (reads_open w.active cell)) Misuse) _ _ (λ some. after (check (is_none cell.content.lent) OpenAccess) _ _ (λ passes.
        state_then (records_read n w) (records_read n (with_other q k y w)) _ _ (records_read_so n w q k y e) (λ x r i x' g. (refl, (_, _, _, g, refl))))))
    cell_begins_so (cell_op.Deref n) w q k y e =
        after (a_cell n w) _ _ (λ cell. after (check (nat_lt 0 (reads_open w.active cell)) Misuse) _ _ (λ some. after (found (value_in cell.content) Misuse) _ _ (λ value. (refl, (_, _, _, e, refl)))))
    cell_begins_so (cell_op.Write n) w q k y e =
        after (a_cell n w) _ _ (λ cell. state_then (raises w) (raises (with_other q k y w)) _ _ (raises_so w q k y e) (λ u p j z f. after (check (is_free_cell cell) OpenAccess) _ _ (λ passes.
        state_then (records_write n u) (records_write n (with_other p j z u)) _ _ (records_write_so n u p j z f) (λ x r i x' g. after (found (value_in cell.content) Misuse) _ _ (λ value. (refl, (_, _, _, g, refl)))))))
    cell_begins_so (cell_op.WriteEnd n value) w q k y e =
        after (a_cell n w) _ _ (λ cell. after (check (is_number cell.content.lent w.active) Misuse) _ _ (λ own. after (check (is_unread_cell cell) OpenAccess) _ _ (λ passes.
        state_then (records_write n w) (records_write n (with_other q k y w)) _ _ (records_write_so n w q k y e) (λ x r i x' g. (refl, (_, _, _, g, refl))))))
    cell_begins_so (cell_op.IntoInner n) w q k y e = after (a_cell n w) _ _ (λ cell. after (data_left cell) _ _ (λ value. (refl, (_, _, _, e, refl))))
    cell_begins_so (cell_op.Get n) w q k y e =
        after (a_cell n w) _ _ (λ cell. state_then (raises w) (raises (with_other q k y w)) _ _ (raises_so w q k y e) (λ u p j z f. after (check (is_none cell.content.lent) OpenAccess) _ _ (λ passes.
        state_then (records_read n u) (records_read n (with_other p j z u)) _ _ (records_read_so n u p j z f) (λ x r i x' g. after (found (value_in cell.content) Misuse) _ _ (λ value.
        state_then (records_read n x) (records_read n (with_other r i x' x)) _ _ (records_read_so n x r i x' g) (λ y s h y' l. (refl, (_, _, _, l, refl))))))))
    cell_begins_so (cell_op.Replace n new) w q k y e =
        after (a_cell n w) _ _ (λ cell. state_then (raises w) (raises (with_other q k y w)) _ _ (raises_so w q k y e) (λ u p j z f. after (check (is_free_cell cell) OpenAccess) _ _ (λ passes.
        state_then (records_write n u) (records_write n (with_other p j z u)) _ _ (records_write_so n u p j z f) (λ x r i x' g. after (found (value_in cell.content) Misuse) _ _ (λ value.
        state_then (records_write n x) (records_write n (with_other r i x' x)) _ _ (records_write_so n x r i x' g) (λ y s h y' l. (refl, (_, _, _, l, refl))))))))
    cell_begins_so (cell_op.Swap n m) w q k y e = after (a_cell n w) _ _ (λ one. after (a_cell m w) _ _ (λ other. swap_if_so (n == m) n m w q k y e))
