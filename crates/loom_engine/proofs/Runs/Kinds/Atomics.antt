-- What is done to atomics, and a fence, keeps locks sound. Which store is read is asked among seven slots at most.
use Rattle.std.proofs.Common.{◌≡◌, ◌≢◌, ℕ, Bool, List, refl, ap, inl, inr, None}
use Rattle.std.specs.Prelude.{◌==◌, true, false, not, Result, Ok, Err}
use Rattle.loom_views.specs.declared.rt.failure.FailureKind.{FailureKind}
use Rattle.loom_views.specs.declared.rt.failure.FailureKind.TheVariants.{Misuse, OrdersEqual, RelaxedFence}
use Rattle.std.specs.declared.sync.atomic.Ordering.{Ordering}
use Rattle.loom_views.specs.Changes.{fit, changed}
use Rattle.loom_views.specs.Atomic.Slots.{slot_set}
use Rattle.loom_views.specs.declared.rt.num.change.Change.{Change}
use Rattle.loom_views.specs.declared.rt.atomic.reader.Reader.{Reader}
use Rattle.loom_views.specs.Views.{Accessed, Points, points_after_load, points_after_raise, points_after_store, points_after_update_read, points_after_update_write, points_after_unsync_load, points_after_with_mut, points_after_with_mut_end, readable_slots_of}
use Rattle.loom_objects.specs.declared.operation.AtomicOp.{AtomicOp}
use Rattle.loom_objects.specs.declared.operation.AtomicOp.TheVariants as atomic_op
use Rattle.loom_objects.specs.declared.operation.Exchange.{Exchange}
use Rattle.loom_objects.specs.Rules.Atomic.{access_begins, atomic_begins, exchanges, exchanges_if, fence, is_relaxed, opens, reads, some_slot, store, swap_of, tells_exchanged, tells_read, updates, writes, accesses}
use Rattle.loom_objects.specs.Rules.Moves.{an_atomic, is_number, with_points}
use Rattle.loom_objects.specs.Operation.Accessed.{accessed}
use Rattle.loom_objects.specs.Rules.Rule.{◌>>=◌, check}
use Rattle.loom_objects.specs.World.{World}
use Rattle.loom_engine.proofs.Runs.Fairness.{AnswersBy, IsFairResult, IsMet, IsOfChoice, IsOwn, failing_so, of_choice_met, own_met, raise_fair, readable_fair, then_by, load_fair, store_fair, update_read_fair, update_write_fair, unsync_load_fair, with_mut_fair, with_mut_end_fair}
use Rattle.loom_engine.proofs.Runs.Raising.{raises_keeping}
use Rattle.loom_objects.specs.declared.rt.thread.Task.TheVariants as task
use Rattle.loom_engine.proofs.Runs.States.{pends_ready}
use Rattle.loom_engine.proofs.Runs.Ruling.{Keeping, atomic_fair, chained, check_keeping, fair_keeping, fair_of, found_keeping, freely, misuse, new_keeping, set_keeping, then_keeping, Freely, Onward, Resuming}
use Rattle.loom_engine.proofs.Runs.Events.{Anything}
use Rattle.loom_engine.proofs.Runs.Replies.{IsLoading, opens_loads, replied_resuming, store_quiet}
use Rattle.loom_engine.proofs.Runs.Answering.{Answers}
use Rattle.loom_objects.specs.declared.rt.run.Resumed.{Resumed}
use Rattle.loom_objects.specs.declared.rt.run.Resumed.TheVariants as resumed
use Rattle.loom_views.specs.declared.rt.atomic.reader.Reader.TheVariants as reader

module _ {D : Type 0} where
  read_fair : (n : ℕ) (w : World D) → IsFairResult (points_after_unsync_load w.points w.active n)
  read_fair n w = unsync_load_fair w.points w.active n

  access_begins_keeping : (access : AtomicOp) (w : World D) → Keeping w (access_begins access w)
  access_begins_keeping access w = found_keeping (accessed access) Misuse _ w misuse (λ n e. fair_keeping (an_atomic n w) _ w (atomic_fair n w) (λ atomic out k. pends_ready (task.Access access) false refl k))

  pub fence_keeping : (order : Ordering) (w : World D) → Keeping w (fence order w)
  fence_keeping order w = raises_keeping w _ (λ p. check_keeping (not (is_relaxed order)) RelaxedFence _ (with_points p w) (λ e. cc) (λ e out k. k))

  pub atomic_begins_keeping : (todo : AtomicOp) (w : World D) → Keeping w (atomic_begins todo w)
  atomic_begins_keeping (atomic_op.New numbers value) w = λ out k. new_keeping w _ tt out k
  atomic_begins_keeping (atomic_op.Load n order) w = access_begins_keeping (atomic_op.Load n order) w
  atomic_begins_keeping (atomic_op.Store n value order) w = access_begins_keeping (atomic_op.Store n value order) w
  atomic_begins_keeping (atomic_op.Update n change order) w = access_begins_keeping (atomic_op.Update n change order) w
  atomic_begins_keeping (atomic_op.CompareExchange n exchange) w = access_begins_keeping (atomic_op.CompareExchange n exchange) w
  atomic_begins_keeping (atomic_op.CompareAndSwap n expected new order) w = access_begins_keeping (atomic_op.CompareAndSwap n expected new order) w
  atomic_begins_keeping (atomic_op.UnsyncLoad n) w =
      fair_keeping (an_atomic n w) _ w (atomic_fair n w) (λ atomic. fair_keeping (points_after_unsync_load w.points w.active n) _ w (read_fair n w) (λ read out k. k))
  atomic_begins_keeping (atomic_op.IntoInner n) w =
      fair_keeping (an_atomic n w) _ w (atomic_fair n w) (λ atomic. fair_keeping (points_after_unsync_load w.points w.active n) _ w (read_fair n w) (λ read out k. set_keeping w n _ tt out k))
  atomic_begins_keeping (atomic_op.WithMut n) w =
      fair_keeping (an_atomic n w) _ w (atomic_fair n w) (λ atomic. fair_keeping (points_after_with_mut w.points w.active n) _ w (with_mut_fair w.points w.active n) (λ read out k. set_keeping w n _ tt out k))
  atomic_begins_keeping (atomic_op.WithMutEnd n value) w =
      fair_keeping (an_atomic n w) _ w (atomic_fair n w) (λ atomic. check_keeping (is_number atomic.opened w.active) Misuse _ w misuse (λ e.
      fair_keeping (points_after_with_mut_end w.points w.active n (fit atomic.numbers value)) _ w (with_mut_end_fair w.points w.active n (fit atomic.numbers value)) (λ stored out k. set_keeping w n _ tt out k)))

  -- ---- once the thread is chosen

  pub store_keeping : (n value : ℕ) (order : Ordering) (w : World D) → Keeping w (store n value order w)
  store_keeping n value order w =
      raises_keeping w _ (λ p. fair_keeping (an_atomic n (with_points p w)) _ w (atomic_fair n (with_points p w)) (λ atomic.
      fair_keeping (points_after_store p w.active n (fit atomic.numbers value) order) _ w (store_fair p w.active n (fit atomic.numbers value) order) (λ stored out k. k)))

  -- a choice of a store fails as that is said to
  pub opens_by : (F : FailureKind → Type 0) → ((kind : FailureKind) → IsOwn kind → F kind) → (n : ℕ) (reader : Reader) (access : AtomicOp) (w : World D)
      → ((p : Points) → points_after_raise w.points w.active ≡ Ok p → AnswersBy F Anything (readable_slots_of p w.active n reader)) → AnswersBy F (Onward w) (opens n reader access w)
  opens_by F own n reader access w readable = by_raise (points_after_raise w.points w.active) (raise_fair w.points w.active) readable
    where
      test : (p : Points) (slots : List ℕ) → AnswersBy F (Onward {A = Resumed D} w) (check (some_slot (slot_set slots)) Misuse >>= (λ u. Ok (resumed.Load (record { access = access; readable = slot_set slots }), with_points p w)))
      test p slots = failing_so IsOwn F (Onward {A = Resumed D} w) _ own (check_keeping (some_slot (slot_set slots)) Misuse _ w misuse (λ e out k. k))

      by_raise : (r : Result Points FailureKind) → IsFairResult r → ((p : Points) → r ≡ Ok p → AnswersBy F Anything (readable_slots_of p w.active n reader))
          → AnswersBy F (Onward {A = Resumed D} w) ((r >>= (λ p. Ok (with_points p w))) >>= (λ v. an_atomic n v >>= (λ atomic. readable_slots_of v.points v.active n reader >>= (λ slots.
          check (some_slot (slot_set slots)) Misuse >>= (λ u. Ok (resumed.Load (record { access = access; readable = slot_set slots }), v))))))
      by_raise (Ok p) fair h =
          then_by F (λ atomic. Unit {0}) (Onward w) (an_atomic n (with_points p w)) _ (failing_so IsOwn F (λ atomic. Unit {0}) _ own (atomic_fair n (with_points p w))) (λ atomic q.
          then_by F Anything (Onward w) (readable_slots_of p w.active n reader) _ (h p refl) (λ slots z. test p slots))
      by_raise (Err kind) fair h = own kind fair

  opens_freely : (n : ℕ) (reader : Reader) (access : AtomicOp) (w : World D) → Freely (Onward w) (opens n reader access w)
  opens_freely n reader access w =
      opens_by IsMet own_met n reader access w (λ p e. failing_so IsOfChoice IsMet Anything _ of_choice_met (readable_fair p w.active n reader))

  -- where no orders are equal it fails by itself
  pub opens_fair : (n : ℕ) (reader : Reader) (access : AtomicOp) (w : World D) → ((p : Points) → points_after_raise w.points w.active ≡ Ok p → readable_slots_of p w.active n reader ≢ Err OrdersEqual)
      → IsFairResult (opens n reader access w)
  opens_fair n reader access w unequal =
      fair_of (Onward w) _ (opens_by IsOwn (λ kind own. own) n reader access w (λ p e. by_readable (readable_slots_of p w.active n reader) (readable_fair p w.active n reader) (unequal p e)))
    where
      by_readable : (r : Result (List ℕ) FailureKind) → AnswersBy IsOfChoice (λ slots. Unit {0}) r → r ≢ Err OrdersEqual → AnswersBy IsOwn Anything r
      by_readable (Ok slots) h n = tt
      by_readable (Err kind) (inl own) n = own
      by_readable (Err kind) (inr e) n = absurd (n (ap Err e))

  writes_keeping : {A : Type 0} (n value : ℕ) (order : Ordering) (slot : ℕ) (w v : World D) (next : World D → Result (A × World D) FailureKind) → v.objects ≡ w.objects
      → ((p : Points) → Keeping w (next (with_points p v))) → Keeping w (writes n value order slot v >>= next)
  writes_keeping n value order slot w v next same h =
      by_written (points_after_update_write v.points v.active n slot value order) (update_write_fair v.points v.active n slot value order)
    where
      by_written : (r : Result Accessed FailureKind) → IsFairResult r → Keeping w ((r >>= (λ written. Ok (with_points written.points v))) >>= next)
      by_written (Ok written) fair = h written.points
      by_written (Err kind) fair = fair

  updates_keeping : (n : ℕ) (change : Change) (order : Ordering) (slot : ℕ) (w : World D) → Keeping w (updates n change order slot w)
  updates_keeping n change order slot w =
      fair_keeping (an_atomic n w) _ w (atomic_fair n w) (λ atomic. fair_keeping (points_after_update_read w.points w.active n slot) _ w (update_read_fair w.points w.active n slot) (λ read.
      writes_keeping n (fit atomic.numbers (changed atomic.numbers change read.value)) order slot w (with_points read.points w) _ refl (λ p out k. k)))

  exchanges_if_keeping : (is_same : Bool) (n new : ℕ) (exchange : Exchange) (slot read : ℕ) (w : World D) → Keeping w (exchanges_if is_same n new exchange slot read w)
  exchanges_if_keeping true n new exchange slot read w = writes_keeping n new exchange.success slot w w _ refl (λ p out k. k)
  exchanges_if_keeping false n new exchange slot read w = λ out k. k

  exchanges_keeping : (n : ℕ) (exchange : Exchange) (slot : ℕ) (w : World D) → Keeping w (exchanges n exchange slot w)
  exchanges_keeping n exchange slot w =
      fair_keeping (an_atomic n w) _ w (atomic_fair n w) (λ atomic. fair_keeping (points_after_update_read w.points w.active n slot) _ w (update_read_fair w.points w.active n slot) (λ read.
      let there = with_points read.points w in
      chained w there _ (λ out k. k) (exchanges_if_keeping (read.value == fit atomic.numbers exchange.expected) n (fit atomic.numbers exchange.new) exchange slot read.value there)))

  pub reads_keeping : (access : AtomicOp) (w : World D) (slot : ℕ) → Keeping w (reads access w slot)
  reads_keeping (atomic_op.Load n order) w slot =
      fair_keeping (points_after_load w.points w.active n slot order) _ w (load_fair w.points w.active n slot order) (λ loaded out k. k)
  reads_keeping (atomic_op.Update n change order) w slot = updates_keeping n change order slot w
  reads_keeping (atomic_op.CompareExchange n exchange) w slot = then_keeping (exchanges n exchange slot w) tells_exchanged w (exchanges_keeping n exchange slot w) (λ answered out k. k)
  reads_keeping (atomic_op.CompareAndSwap n expected new order) w slot =
      then_keeping (exchanges n (swap_of expected new order) slot w) tells_read w (exchanges_keeping n (swap_of expected new order) slot w) (λ answered out k. k)
  reads_keeping (atomic_op.New numbers value) w slot = misuse
  reads_keeping (atomic_op.Store n value order) w slot = misuse
  reads_keeping (atomic_op.UnsyncLoad n) w slot = misuse
  reads_keeping (atomic_op.IntoInner n) w slot = misuse
  reads_keeping (atomic_op.WithMut n) w slot = misuse
  reads_keeping (atomic_op.WithMutEnd n value) w slot = misuse

  opens_resuming : (n : ℕ) (reader : Reader) (access : AtomicOp) (w : World D) → Freely (Resuming None w) (opens n reader access w)
  opens_resuming n reader access w = loading (opens n reader access w) (opens_freely n reader access w) (opens_loads n reader access w)
    where
      loading : (r : Result (Resumed D × World D) FailureKind) → Freely (Onward w) r → Answers IsLoading r → Freely (Resuming None w) r
      loading (Ok (resumed.Load load, v)) kept loads = λ out other k. kept out k
      loading (Ok (resumed.Passed passed, v)) kept loads = absurd loads
      loading (Err kind) kept loads = kept

  pub accesses_resuming : (access : AtomicOp) (w : World D) → Freely (Resuming None w) (accesses access w)
  accesses_resuming (atomic_op.Store n value order) w = freely (Resuming None w) _ (replied_resuming (store n value order w) w (store_keeping n value order w) (store_quiet n value order w))
  accesses_resuming (atomic_op.Load n order) w = opens_resuming n (reader.Load order) (atomic_op.Load n order) w
  accesses_resuming (atomic_op.Update n change order) w = opens_resuming n reader.Update (atomic_op.Update n change order) w
  accesses_resuming (atomic_op.CompareExchange n exchange) w = opens_resuming n reader.Update (atomic_op.CompareExchange n exchange) w
  accesses_resuming (atomic_op.CompareAndSwap n expected new order) w = opens_resuming n reader.Update (atomic_op.CompareAndSwap n expected new order) w
  accesses_resuming (atomic_op.New numbers value) w = own_met Misuse misuse
  accesses_resuming (atomic_op.UnsyncLoad n) w = own_met Misuse misuse
  accesses_resuming (atomic_op.IntoInner n) w = own_met Misuse misuse
  accesses_resuming (atomic_op.WithMut n) w = own_met Misuse misuse
  accesses_resuming (atomic_op.WithMutEnd n value) w = own_met Misuse misuse
