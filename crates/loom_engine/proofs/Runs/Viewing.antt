-- The points of a run are those to which moves lead, and the global point is moved by sequentially consistent fences alone.
use Rattle.std.proofs.Common.{◌≡◌, ◌≢◌, ℕ, refl, ◌∙◌, ap}
use Rattle.std.specs.Prelude.{⊤}
use Rattle.std.specs.declared.sync.atomic.Ordering.TheVariants.{SeqCst}
use Rattle.loom_views.proofs.Atomic.Reaching.Moving.{from-ok}
use Rattle.loom_views.proofs.Atomic.TableLaws.Global.{global_stays_law}
use Rattle.loom_views.specs.Laws.Moves.{Leads, Moves, none, later, acquire, release, join, yielding, spawn, fence, new_point, new_stamp, stamp, release_to_stamp, acquire_from_stamp, new_atomic, load, store, update, update_fail, unsync_load, with_mut, with_mut_end, new_cell, begin_read, end_read, begin_write, end_write}
use Rattle.loom_views.specs.Laws.Views.{IsGlobalKept}
use Rattle.loom_views.specs.Views.{Accessed, Points, opening as first_points}
use Rattle.loom_objects.specs.declared.operation.AtomicOp.TheVariants as atomic_op
use Rattle.loom_objects.specs.declared.operation.Request.{Request}
use Rattle.loom_objects.specs.declared.operation.Request.TheVariants as op
use Rattle.loom_engine.specs.Runs.Course.{Course}
use Rattle.loom_engine.specs.Runs.Histories.{Event, Happens, IsReached, at_first, later as afterwards}
use Rattle.loom_engine.specs.Runs.Machine.{submit}
use Rattle.loom_engine.specs.Runs.Views.{GlobalPointLaw, MovesLaw}
use Rattle.loom_engine.proofs.Runs.Keeping.{kept_value}
use Rattle.loom_engine.proofs.Runs.Advancing.{event_points}
use Rattle.loom_engine.proofs.Runs.Pointing.{Does, Fencing, MayBegin, MayBy, Reading, Storing}

-- ---- moves lead on

pub leads_on : (p q r : Points) (move : Moves q r) → MayBy (λ does. Unit {0}) move → Leads p q → Leads p r
leads_on p q r move allowed leads = later q r leads move

module _ {D : Type 0} where
  pub any_op : (first : Points) (todo : Request D ⊤) → MayBegin D (Leads first) (λ does. Unit {0}) (leads_on first) todo
  any_op first (op.Atomic (atomic_op.New numbers value)) = tt
  any_op first (op.Atomic (atomic_op.WithMutEnd n value)) = tt
  any_op first (op.Fence order) = tt
  any_op first _ = tt

  pub event_leads : (first : Points) (c v : Course D) (event : Event D) → Leads first c.world.points → Happens c event v → Leads first v.world.points
  event_leads first c v event leads happens =
      kept_value (submit event.op c) event.choices (event.turn, v) (event_points D (Leads first) (λ does. Unit {0}) (leads_on first) (λ raised t n reads slot. tt) event.op c tt (any_op first event.op) leads) happens

  pub reached_leads : (max_threads max_steps : ℕ) (c : Course D) → IsReached max_threads max_steps c → Leads first_points c.world.points
  reached_leads max_threads max_steps c (at_first explores) = none
  reached_leads max_threads max_steps c (afterwards old event v reached happens) = event_leads first_points old v event (reached_leads max_threads max_steps old reached) happens

pub moves_law : {D : Type 0} → MovesLaw D
moves_law max_threads max_steps c v event reached happens = record {
  before = reached_leads max_threads max_steps c reached;
  on = event_leads c.world.points c v event none happens;
}

-- ---- the global point

-- all but sequentially consistent fences
abbrev pub NoSuchFence : Does → Type 0
NoSuchFence (Fencing order) = order ≢ SeqCst
NoSuchFence Storing = Unit {0}
NoSuchFence (Reading raised t n reads slot) = Unit {0}

-- a move that is no such fence leaves the global point where it was
move_stays : (p q : Points) (move : Moves p q) → MayBy NoSuchFence move → q.global ≡ p.global
move_stays p q (acquire t n) allowed = (global_stays_law p).acquire t n
move_stays p q (release t n order) allowed = (global_stays_law p).release t n order
move_stays p q (join t u) allowed = (global_stays_law p).join t u
move_stays p q (yielding t) allowed = (global_stays_law p).yielding t
move_stays p q (spawn t after e) allowed = from-ok (λ (r : Points). IsGlobalKept p r) _ after e ((global_stays_law p).spawn t)
move_stays p q (fence t order raised e) allowed =
    (global_stays_law raised).fence t order allowed ∙ from-ok (λ (r : Points). IsGlobalKept p r) _ raised e ((global_stays_law p).raise t)
move_stays p q new_point allowed = refl
move_stays p q new_stamp allowed = refl
move_stays p q (stamp n m) allowed = (global_stays_law p).stamp n m
move_stays p q (release_to_stamp t m order) allowed = (global_stays_law p).release_to_stamp t m order
move_stays p q (acquire_from_stamp t m) allowed = (global_stays_law p).acquire_from_stamp t m
move_stays p q (new_atomic t value) allowed = (global_stays_law p).new_atomic t value
move_stays p q (load t n slot order raised after e f) allowed =
    from-ok (λ (r : Accessed). IsGlobalKept raised r.points) _ after f ((global_stays_law raised).load t n slot order) ∙ from-ok (λ (r : Points). IsGlobalKept p r) _ raised e ((global_stays_law p).raise t)
move_stays p q (store t n value order raised after e f) allowed =
    from-ok (λ (r : Accessed). IsGlobalKept raised r.points) _ after f ((global_stays_law raised).store t n value order) ∙ from-ok (λ (r : Points). IsGlobalKept p r) _ raised e ((global_stays_law p).raise t)
move_stays p q (update t n slot value order raised read after e f g) allowed =
    from-ok (λ (r : Accessed). IsGlobalKept read.points r.points) _ after g ((global_stays_law read.points).update_write t n slot value order)
    ∙ (from-ok (λ (r : Accessed). IsGlobalKept raised r.points) _ read f ((global_stays_law raised).update_read t n slot) ∙ from-ok (λ (r : Points). IsGlobalKept p r) _ raised e ((global_stays_law p).raise t))
move_stays p q (update_fail t n slot order raised read e f) allowed =
    (global_stays_law read.points).update_fail t n slot order
    ∙ (from-ok (λ (r : Accessed). IsGlobalKept raised r.points) _ read f ((global_stays_law raised).update_read t n slot) ∙ from-ok (λ (r : Points). IsGlobalKept p r) _ raised e ((global_stays_law p).raise t))
move_stays p q (unsync_load t n after e) allowed = from-ok (λ (r : Accessed). IsGlobalKept p r.points) _ after e ((global_stays_law p).unsync_load t n)
move_stays p q (with_mut t n after e) allowed = from-ok (λ (r : Accessed). IsGlobalKept p r.points) _ after e ((global_stays_law p).with_mut t n)
move_stays p q (with_mut_end t n value after e) allowed = from-ok (λ (r : Accessed). IsGlobalKept p r.points) _ after e ((global_stays_law p).with_mut_end t n value)
move_stays p q (new_cell t) allowed = (global_stays_law p).new_cell t
move_stays p q (begin_read t n raised after e f) allowed =
    from-ok (λ (r : Points). IsGlobalKept raised r) _ after f ((global_stays_law raised).read t n) ∙ from-ok (λ (r : Points). IsGlobalKept p r) _ raised e ((global_stays_law p).raise t)
move_stays p q (end_read t n after e) allowed = from-ok (λ (r : Points). IsGlobalKept p r) _ after e ((global_stays_law p).read t n)
move_stays p q (begin_write t n raised after e f) allowed =
    from-ok (λ (r : Points). IsGlobalKept raised r) _ after f ((global_stays_law raised).write t n) ∙ from-ok (λ (r : Points). IsGlobalKept p r) _ raised e ((global_stays_law p).raise t)
move_stays p q (end_write t n after e) allowed = from-ok (λ (r : Points). IsGlobalKept p r) _ after e ((global_stays_law p).write t n)

stays_so : (g : ℕ) (p q : Points) (move : Moves p q) → MayBy NoSuchFence move → p.global ≡ g → q.global ≡ g
stays_so g p q move allowed e = move_stays p q move allowed ∙ e

module _ {D : Type 0} where
  no_such_fence : (g : ℕ) (todo : Request D ⊤) → todo ≢ op.Fence SeqCst → MayBegin D (λ p. p.global ≡ g) NoSuchFence (stays_so g) todo
  no_such_fence g (op.Atomic (atomic_op.New numbers value)) h = tt
  no_such_fence g (op.Atomic (atomic_op.WithMutEnd n value)) h = tt
  no_such_fence g (op.Fence order) h = λ e. h (ap op.Fence e)
  no_such_fence g _ h = tt

pub global_point_law : {D : Type 0} → GlobalPointLaw D
global_point_law {D} max_threads max_steps c v event reached happens h =
    kept_value (submit event.op c) event.choices (event.turn, v)
    (event_points D (λ p. p.global ≡ c.world.points.global) NoSuchFence (stays_so c.world.points.global) (λ raised t n reads slot. tt) event.op c tt (no_such_fence c.world.points.global event.op h) refl) happens
