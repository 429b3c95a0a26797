-- The points of a run are those to which moves lead that read what may be read. So no run fails because two orders are equal.
use Rattle.std.proofs.Common.{◌≡◌, ◌≢◌, ℕ, zero, suc, Bool, true, List, Option, Some, None, refl}
use Rattle.std.specs.Prelude.{◌-◌, nat_lt, slice_get, IsTrue, Result, Ok, Err, ⊤}
use Rattle.loom_views.specs.declared.rt.atomic.reader.Reader.{Reader}
use Rattle.loom_views.specs.declared.rt.atomic.reader.Reader.TheVariants as reader
use Rattle.loom_views.specs.declared.rt.failure.FailureKind.{FailureKind}
use Rattle.loom_views.specs.declared.rt.failure.FailureKind.TheVariants.{Misuse, OrdersEqual, TooManySteps}
use Rattle.loom_views.specs.Laws.Moves.{Moves, acquire, release, join, yielding, spawn, fence, new_point, new_stamp, stamp, release_to_stamp, acquire_from_stamp, new_atomic, load, store as stores, update, update_fail, unsync_load, with_mut, with_mut_end, new_cell, begin_read, end_read, begin_write, end_write}
use Rattle.loom_views.specs.Laws.Orders.{LeadsReadably, MayRead, ReadsReadable, none, later as further}
use Rattle.loom_views.specs.Views.{Points, has_slot, opening as first_points, points_after_raise, readable_slots_of, slot_set}
use Rattle.loom_views.proofs.Atomic.Orders.Differ.{apart_law, never_equal_law}
use Rattle.loom_objects.specs.declared.choice.Choice.{Choice}
use Rattle.loom_objects.specs.declared.operation.AtomicOp.{AtomicOp}
use Rattle.loom_objects.specs.declared.operation.AtomicOp.TheVariants as atomic_op
use Rattle.loom_objects.specs.declared.operation.Reply.{Reply}
use Rattle.loom_objects.specs.declared.operation.Request.{Request}
use Rattle.loom_objects.specs.declared.operation.Request.TheVariants as op
use Rattle.loom_objects.specs.declared.operation.Turn.{Turn}
use Rattle.loom_objects.specs.declared.operation.Turn.TheVariants as turn
use Rattle.loom_objects.specs.declared.rt.run.Entry.{Entry}
use Rattle.loom_objects.specs.declared.rt.run.Entry.TheVariants as entry
use Rattle.loom_objects.specs.declared.rt.run.Resumed.{Resumed}
use Rattle.loom_objects.specs.declared.rt.run.Resumed.TheVariants as resumed
use Rattle.loom_objects.specs.declared.rt.thread.Task.{Task}
use Rattle.loom_objects.specs.declared.rt.thread.Task.TheVariants as task
use Rattle.loom_objects.specs.Operation.Plain.{plain}
use Rattle.loom_objects.specs.Rules.Atomic.{accesses, reads, store}
use Rattle.loom_objects.specs.Rules.Ending.{end_of}
use Rattle.loom_objects.specs.Rules.Rule.{check}
use Rattle.loom_objects.specs.Rules.Tables.{chosen, counted, takes_effect}
use Rattle.loom_objects.specs.Schedule.Offers.{chooses}
use Rattle.loom_objects.specs.Tree.Tree.{Tree, Gives, ◌>>=◌, found}
use Rattle.loom_objects.specs.World.{World}
use Rattle.loom_engine.specs.Runs.Body.{Meaning, at_turn, play}
use Rattle.loom_engine.specs.Runs.Course.{Course}
use Rattle.loom_engine.specs.Runs.Histories.{Event}
use Rattle.loom_engine.specs.Runs.Loads.{Follows}
use Rattle.loom_engine.specs.Runs.Machine.{submit}
use Rattle.loom_engine.specs.Runs.Orders.{IsFollowed, OrdersLaw, ReadableMovesLaw, UnequalLaw, UnequalRunsLaw, at_first, later}
use Rattle.loom_engine.specs.Trees.Sound.{NeverFails}
use Rattle.loom_engine.proofs.Runs.Answering.{Answers, answers_then}
use Rattle.loom_engine.proofs.Runs.Carrying.{InWorld}
use Rattle.loom_engine.proofs.Runs.Fairness.{AnswersBy, IsFairResult, IsOwn, own_unequal, then_by}
use Rattle.loom_engine.proofs.Runs.Kinds.{begins_points, effect_fairly}
use Rattle.loom_engine.proofs.Runs.Kinds.Atomics.{opens_fair, reads_keeping, store_keeping}
use Rattle.loom_engine.proofs.Runs.Kinds.Notifiers.{enters_wait_keeping}
use Rattle.loom_engine.proofs.Runs.Lifting.{ReplyTo}
use Rattle.loom_engine.proofs.Runs.Offered.{EnteredSo, Offers, ResumedSo, asks, closes, event_offers_so, fails, gives, offered_value}
use Rattle.loom_engine.proofs.Runs.Advancing.{chosen_points}
use Rattle.loom_engine.proofs.Runs.Pointing.{Does, Fencing, MayBegin, MayBy, Reading, ResumedIf, Storing, end_points, enters_wait_points}
use Rattle.loom_engine.proofs.Runs.Replies.{replied_resuming, store_quiet}
use Rattle.loom_engine.proofs.Runs.Ruling.{Onward, Resuming, fair_of, found_fairly, misuse}
use Rattle.loom_engine.proofs.Runs.States.{freed_by}
use Rattle.loom_engine.proofs.Runs.Tables.{Ending, counted_entering, end_ending}
use Rattle.loom_engine.specs.Runs.Histories.{returned_by}
use Rattle.loom_engine.proofs.Runs.Ruling.{Entering}

-- ---- moves lead on, where what is read may be read

abbrev pub MayNow : Does → Type 0
MayNow (Fencing order) = Unit {0}
MayNow Storing = Unit {0}
MayNow (Reading raised t n reads_by slot) = MayRead raised t n reads_by slot

reads_so : (p q : Points) (move : Moves p q) → MayBy MayNow move → ReadsReadable p q move
reads_so p q (acquire t n) may = tt
reads_so p q (release t n order) may = tt
reads_so p q (join t u) may = tt
reads_so p q (yielding t) may = tt
reads_so p q (spawn t after e) may = tt
reads_so p q (fence t order raised e) may = tt
reads_so p q new_point may = tt
reads_so p q new_stamp may = tt
reads_so p q (stamp n m) may = tt
reads_so p q (release_to_stamp t m order) may = tt
reads_so p q (acquire_from_stamp t m) may = tt
reads_so p q (new_atomic t value) may = tt
reads_so p q (load t n slot order raised after d e) may = may
reads_so p q (stores t n value order raised after d e) may = tt
reads_so p q (update t n slot value order raised read after c d e) may = may.1
reads_so p q (update_fail t n slot order raised read c d) may = may
reads_so p q (unsync_load t n after e) may = tt
reads_so p q (with_mut t n after e) may = tt
reads_so p q (with_mut_end t n value after e) may = tt
reads_so p q (new_cell t) may = tt
reads_so p q (begin_read t n raised after d e) may = tt
reads_so p q (end_read t n after e) may = tt
reads_so p q (begin_write t n raised after d e) may = tt
reads_so p q (end_write t n after e) may = tt

pub led_on : (first p q : Points) (move : Moves p q) → MayBy MayNow move → LeadsReadably first p → LeadsReadably first q
led_on first p q move may leads = further p q leads move (reads_so p q move may)

pub led_joined : (first p q : Points) → LeadsReadably first p → LeadsReadably p q → LeadsReadably first q
led_joined first p q leads none = leads
led_joined first p q leads (further r q' on move may) = further r q (led_joined first p r leads on) move may

-- a slot that is offered is one of the list's
is_offered : (slots : List ℕ) (slot : ℕ) → slice_get (slot_set slots) slot ≡ Some true → IsTrue (has_slot slots slot)
is_offered slots zero e = cc
is_offered slots (suc zero) e = cc
is_offered slots (suc (suc zero)) e = cc
is_offered slots (suc (suc (suc zero))) e = cc
is_offered slots (suc (suc (suc (suc zero)))) e = cc
is_offered slots (suc (suc (suc (suc (suc zero))))) e = cc
is_offered slots (suc (suc (suc (suc (suc (suc zero)))))) e = cc
is_offered slots (suc (suc (suc (suc (suc (suc (suc slot))))))) e = absurd (cc e)

abbrev pub Offered : List Bool → ℕ → Type 0
Offered readable slot = slice_get readable slot ≡ Some true

pub may_read : (raised : Points) (t n : ℕ) (reads_by : Reader) (slots : List ℕ) (slot : ℕ) → readable_slots_of raised t n reads_by ≡ Ok slots → Offered (slot_set slots) slot → MayNow (Reading raised t n reads_by slot)
may_read raised t n reads_by slots slot e offered = record { slots = slots; offered = e; among = is_offered slots slot offered }

both : {A : Type 0} (P : A → Type 0) (r : Result A FailureKind) → Answers P r → IsFairResult r → AnswersBy IsOwn P r
both P (Ok a) h fair = h
both P (Err kind) h fair = fair

-- ---- events

-- from points to which such moves lead
module _ {D : Type 0} (first : Points) (start : LeadsReadably first_points first) where
  abbrev At : World D → Type 0
  At w = LeadsReadably first w.points

  abbrev In : {A : Type 0} → A × World D → Type 0
  In answered = LeadsReadably first answered.1.points

  unequal : (w : World D) (n : ℕ) (reads_by : Reader) → At w → (p : Points) → points_after_raise w.points w.active ≡ Ok p → readable_slots_of p w.active n reads_by ≢ Err OrdersEqual
  unequal w n reads_by s p e = never_equal_law w.points p w.active n reads_by (led_joined first_points first w.points start s) e

  access_own : (access : AtomicOp) (w : World D) → At w → IsFairResult (accesses access w)
  access_own (atomic_op.Store n value order) w s = fair_of (Resuming None w) _ (replied_resuming (store n value order w) w (store_keeping n value order w) (store_quiet n value order w))
  access_own (atomic_op.Load n order) w s = opens_fair n (reader.Load order) (atomic_op.Load n order) w (unequal w n (reader.Load order) s)
  access_own (atomic_op.Update n change order) w s = opens_fair n reader.Update (atomic_op.Update n change order) w (unequal w n reader.Update s)
  access_own (atomic_op.CompareExchange n exchange) w s = opens_fair n reader.Update (atomic_op.CompareExchange n exchange) w (unequal w n reader.Update s)
  access_own (atomic_op.CompareAndSwap n expected new order) w s = opens_fair n reader.Update (atomic_op.CompareAndSwap n expected new order) w (unequal w n reader.Update s)
  access_own (atomic_op.New numbers value) w s = misuse
  access_own (atomic_op.UnsyncLoad n) w s = misuse
  access_own (atomic_op.IntoInner n) w s = misuse
  access_own (atomic_op.WithMut n) w s = misuse
  access_own (atomic_op.WithMutEnd n value) w s = misuse

  effect_own : (todo : Task D) (w : World D) → At w → IsFairResult (takes_effect todo w)
  effect_own (task.Access access) w s = access_own access w s
  effect_own todo w s = fair_of (Resuming (freed_by todo) w) (takes_effect todo w) (effect_fairly todo w refl)

  chosen_own : (t : ℕ) (w : World D) → At w → IsFairResult (chosen t w)
  chosen_own t w s =
      then_by IsOwn (λ ready. At ready.1) (λ answered. Unit {0}) (chooses t w) _ (found_fairly (λ ready. At ready.1) (slice_get w.threads t) Misuse _ misuse (λ thread e. s)) (λ ready k. effect_own ready.0 ready.1 k)

  resumed_so : (t : ℕ) (r : Result (Resumed D × World D) FailureKind) → Answers (ResumedIf D (LeadsReadably first) MayNow (led_on first) Offered may_read) r → IsFairResult r → AnswersBy IsOwn (ResumedSo IsOwn (λ kind own. own) At (λ last. In) t) r
  resumed_so t (Ok (resumed.Passed passed, w)) h fair = h
  resumed_so t (Ok (resumed.Load loading, w)) h fair = λ slot may. both (ReplyTo At In) (reads loading.access w slot) (h slot may) (fair_of (Onward w) (reads loading.access w slot) (reads_keeping loading.access w slot))
  resumed_so t (Err kind) h fair = fair

  entered_so : (r : Result (Entry D × World D) FailureKind) → Answers In r → IsFairResult r → AnswersBy IsOwn (EnteredSo IsOwn (λ kind own. own) At (λ last. In)) r
  entered_so (Ok (entry.Answered reply, v)) h fair = h
  entered_so (Ok (entry.AtBranch, v)) h fair = h
  entered_so (Ok (entry.Spurious n, v)) h fair =
      λ is_spurious. both (λ after. At after.1) _ (enters_wait_points D (LeadsReadably first) MayNow (led_on first) is_spurious n v h) (fair_of (Onward v) _ (enters_wait_keeping is_spurious n v))
  entered_so (Ok (entry.Explores todo, v)) h fair = h
  entered_so (Err kind) h fair = fair

  any_op : (todo : Request D ⊤) → MayBegin D (LeadsReadably first) MayNow (led_on first) todo
  any_op (op.Atomic (atomic_op.New numbers value)) = tt
  any_op (op.Atomic (atomic_op.WithMutEnd n value)) = tt
  any_op (op.Fence order) = tt
  any_op _ = tt

  -- by options it leads to such points, or fails by itself
  event_led : (todo : Request D ⊤) (c : Course D) → At c.world → Offers IsOwn (λ last. InWorld In) None (submit todo c)
  event_led todo c s =
      event_offers_so IsOwn (λ kind own. own) At (λ last. In)
      (λ t w k. resumed_so t (chosen t w) (chosen_points D (LeadsReadably first) MayNow (led_on first) Offered may_read tt t w k) (chosen_own t w k))
      (λ w k. both In (end_of w) (end_points D (LeadsReadably first) MayNow (led_on first) w k) (fair_of (Ending w) _ (end_ending w))) todo c
      (entered_so (counted todo c.world)
      (answers_then In (check (nat_lt 0 c.world.steps_left) TooManySteps) _ (λ u. begins_points D (LeadsReadably first) MayNow (led_on first) todo (record c.world { steps_left = c.world.steps_left - 1 }) (any_op todo) s))
      (fair_of (Entering (returned_by todo) c.world) _ (counted_entering todo c.world)))

  pub follows_led : (c v : Course D) (event : Event D) → At c.world → Follows c event v → At v.world
  follows_led c v event s follows = offered_value None (submit event.op c) event.choices (event.turn, v) (event_led event.op c s) follows.options follows.happens

pub followed_led : {D : Type 0} (max_threads max_steps : ℕ) (c : Course D) → IsFollowed max_threads max_steps c → LeadsReadably first_points c.world.points
followed_led max_threads max_steps c (at_first explores) = none
followed_led max_threads max_steps c (later old event v followed follows) = follows_led first_points none old v event (followed_led max_threads max_steps old followed) follows

pub readable_moves_law : {D : Type 0} → ReadableMovesLaw D
readable_moves_law max_threads max_steps c v event followed follows =
    let before = followed_led max_threads max_steps c followed in
    record { before = before; on = follows_led c.world.points before c v event none follows }

pub orders_law : {D : Type 0} → OrdersLaw D
orders_law max_threads max_steps c followed = apart_law c.world.points (followed_led max_threads max_steps c followed)

-- ---- failures

module _ {A : Type 0} {P : Option Choice → A → Type 0} where
  never_so : (last : Option Choice) (tree : Tree A) → Offers IsOwn P last tree → NeverFails OrdersEqual tree
  never_so last tree (gives l a h) = tt
  never_so last tree (fails l kind own) = own_unequal kind own
  never_so last tree (closes l rest h) = never_so last rest h
  never_so last tree (asks l question branches h) = λ choice among. never_so (Some choice) (branches choice) (h choice among)

  then_never : {B : Type 0} (last : Option Choice) (tree : Tree A) (next : A → Tree B) → Offers IsOwn P last tree → ((now : Option Choice) (a : A) → P now a → NeverFails OrdersEqual (next a)) → NeverFails OrdersEqual (tree >>= next)
  then_never last tree next (gives l a h) k = k last a h
  then_never last tree next (fails l kind own) k = own_unequal kind own
  then_never last tree next (closes l rest h) k = then_never last rest next h k
  then_never last tree next (asks l question branches h) k = λ choice among. then_never (Some choice) (branches choice) next (h choice among) k

pub unequal_law : {D : Type 0} → UnequalLaw D
unequal_law max_threads max_steps c todo followed = never_so None (submit todo c) (event_led first_points none todo c (followed_led max_threads max_steps c followed))

found_never : {A B : Type 0} (o : Option A) (next : A → Tree B) → ((a : A) → NeverFails OrdersEqual (next a)) → NeverFails OrdersEqual (found o Misuse >>= next)
found_never None next h = λ e. cc
found_never (Some a) next h = h a

module _ {D S : Type 0} (next : Meaning D S) where
  play_never : (left : ℕ) (bodies : List S) (c : Course D) (thread : ℕ) (answer : Reply D) → LeadsReadably first_points c.world.points → NeverFails OrdersEqual (play next left bodies c thread answer)
  unfolding play
  play_never zero bodies c thread answer s = λ e. cc
  play_never (suc left) bodies c thread answer s =
      found_never (slice_get bodies thread) _
      (λ body. then_never None (submit (plain (next body answer).1) c) _ (event_led first_points none (plain (next body answer).1) c s)
      (λ now turned q. turn_never turned.0 _ (λ t told. play_never left _ turned.1 t told q)))
    where
      turn_never : (given : Turn D) (go : ℕ → Reply D → Tree D) → ((t : ℕ) (told : Reply D) → NeverFails OrdersEqual (go t told)) → NeverFails OrdersEqual (at_turn go (λ value. Gives value) given)
      turn_never (turn.Reply t told) go h = h t told
      turn_never (turn.Start t) go h = h t _
      turn_never (turn.Ended value) go h = tt

pub unequal_runs_law : {D S : Type 0} → UnequalRunsLaw D S
unequal_runs_law next explores max_threads max_steps body = play_never next _ _ _ _ _ none
