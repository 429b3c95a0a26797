-- In a run no two read-modify-writes of an atomic that succeed read the same store, and a thread always has a store to read.
use Rattle.std.proofs.Common.{◌≡◌, ◌≢◌, ◌⊎◌, ℕ, suc, Bool, true, false, List, [], ◌∷◌, ◌++◌, map, length, Option, Some, None, refl, ap, sym, subst, ◌∙◌, inl, inr}
use Rattle.std.specs.Prelude.{◌==◌, ◌-◌, nat_lt, slice_get, Result, Ok, Err, ⊤}
use Rattle.std.specs.declared.sync.atomic.Ordering.{Ordering}
use Rattle.loom_views.specs.Atomic.History.{History, StorePoints, update_read_step}
use Rattle.loom_views.specs.Atomic.Slots.{number_in_slot}
use Rattle.loom_views.specs.Changes.{changed, fit}
use Rattle.loom_views.specs.declared.rt.atomic.reader.Reader.{Reader}
use Rattle.loom_views.specs.declared.rt.atomic.reader.Reader.TheVariants as reader
use Rattle.loom_views.specs.declared.rt.failure.FailureKind.{FailureKind}
use Rattle.loom_views.specs.declared.rt.failure.FailureKind.TheVariants.{Misuse, TooManySteps}
use Rattle.loom_views.specs.declared.rt.num.change.Change.{Change}
use Rattle.loom_views.specs.declared.rt.num.Numbers.{Numbers}
use Rattle.loom_views.specs.Laws.Moves.{Moves, load as loads_move, new_atomic, store as stores_move, update, update_fail, with_mut_end}
use Rattle.loom_views.specs.Laws.Orders.{LeadsReadably, MayRead, ReadsReadable, UpdatesFrom, none, number_kept}
use Rattle.loom_views.specs.ThreadViews.{ThreadPoints}
use Rattle.loom_views.specs.Views.{Accessed, Keeps, Meets, Place, Points, Records, access_by, opening as first_points, points_after_load, points_after_raise, points_after_update_read, points_after_update_write, points_after_with_mut_end, readable_slots_of, slot_set}
use Rattle.loom_views.proofs.Atomic.Orders.Differ.{choosing_law}
use Rattle.loom_views.proofs.Atomic.Orders.Once.{once_law}
use Rattle.loom_objects.specs.declared.choice.Choice.{Choice}
use Rattle.loom_objects.specs.declared.choice.Choice.TheVariants as choice
use Rattle.loom_objects.specs.declared.operation.AtomicOp.{AtomicOp}
use Rattle.loom_objects.specs.declared.operation.AtomicOp.TheVariants as atomic_op
use Rattle.loom_objects.specs.declared.operation.Exchange.{Exchange}
use Rattle.loom_objects.specs.declared.operation.Reply.{Reply}
use Rattle.loom_objects.specs.declared.operation.Reply.TheVariants as reply
use Rattle.loom_objects.specs.declared.operation.Request.{Request}
use Rattle.loom_objects.specs.declared.operation.Request.TheVariants as op
use Rattle.loom_objects.specs.declared.operation.Turn.{Turn}
use Rattle.loom_objects.specs.declared.operation.Turn.TheVariants as turn
use Rattle.loom_objects.specs.declared.rt.run.Entry.{Entry}
use Rattle.loom_objects.specs.declared.rt.run.Entry.TheVariants as entry
use Rattle.loom_objects.specs.declared.rt.run.Passed.TheVariants as passed
use Rattle.loom_objects.specs.declared.rt.run.Resumed.{Resumed}
use Rattle.loom_objects.specs.declared.rt.run.Resumed.TheVariants as resumed
use Rattle.loom_objects.specs.declared.rt.thread.Task.{Task}
use Rattle.loom_objects.specs.declared.rt.thread.Task.TheVariants as task
use Rattle.loom_objects.specs.Rules.Atomic.{accesses, either_way, exchanges, exchanges_if, opens, reads, some_slot, store, swap_of, tells_read}
use Rattle.loom_objects.specs.Rules.Ending.{end_of}
use Rattle.loom_objects.specs.Rules.Moves.{an_atomic, is_number, with_points}
use Rattle.loom_objects.specs.Rules.Replied.{replied}
use Rattle.loom_objects.specs.Rules.Rule.{◌>>=◌, check, found}
use Rattle.loom_objects.specs.Rules.Tables.{chosen, counted, takes_effect}
use Rattle.loom_objects.specs.Schedule.Offers.{chooses}
use Rattle.loom_objects.specs.World.{World}
use Rattle.loom_engine.specs.Runs.Course.{Course, opening}
use Rattle.loom_engine.specs.Runs.Histories.{Event}
use Rattle.loom_engine.specs.Runs.Loads.{Follows}
use Rattle.loom_engine.specs.Runs.Machine.{submit}
use Rattle.loom_engine.specs.Runs.Orders.{GoesByOptions, OnceLaw, SlotLaw, UpdatesStore, at_once, on}
use Rattle.loom_engine.specs.Runs.Stores.{IsThreads, IsUnderWay, at_start, by_turn, puts_value, stored_in, values_of}
use Rattle.loom_engine.proofs.Runs.Answering.{Answers, answers_then}
use Rattle.loom_engine.proofs.Runs.Carrying.{InWorld}
use Rattle.loom_engine.proofs.Runs.Fairness.{AnswersBy}
use Rattle.loom_engine.proofs.Runs.Lifting.{ReplyTo}
use Rattle.loom_engine.proofs.Runs.Offered.{AnyWay, EnteredSo, Offers, ResumedSo, any_way, event_offers_so, last_of, offered_value}
use Rattle.loom_engine.proofs.Runs.Ordering.{MayNow, Offered, follows_led, followed_led, led_joined, led_on, may_read}
use Rattle.loom_engine.proofs.Runs.Kinds.{begins_points, effect_points}
use Rattle.loom_engine.proofs.Runs.Pointing.{Does, Fencing, MayBegin, MayBy, Reading, ResumedIf, Storing, answered, by_points, end_points, enters_wait_points}
use Rattle.loom_engine.proofs.Runs.Queues.{cond_off, decided}
use Rattle.loom_engine.proofs.Runs.Stored.{stores_law}
use Rattle.loom_engine.proofs.Runs.Storing.{NoStore, load_values, move_values, nothing_more, raise_values, update_fail_values, update_read_values, update_write_values}

pub slot_law : {D : Type 0} → SlotLaw D
slot_law max_threads max_steps t n reads_by c raised own history followed e there stands = choosing_law c.world.points raised t n reads_by own history (followed_led max_threads max_steps c followed) e there stands

-- ---- moves that make no store, and read what may be read

abbrev MayYet : Does → Type 0
MayYet (Fencing order) = Unit {0}
MayYet Storing = ⊥
MayYet (Reading raised t n reads_by slot) = MayRead raised t n reads_by slot

now_so : (p q : Points) (move : Moves p q) → MayBy MayYet move → MayBy MayNow move
now_so p q (loads_move t n slot order raised after d e) may = may
now_so p q (update t n slot value order raised read after c d e) may = (tt, may.1)
now_so p q (update_fail t n slot order raised read c d) may = may
now_so p q _ may = tt

none_so : (p q : Points) (move : Moves p q) → MayBy MayYet move → MayBy NoStore move
none_so p q (new_atomic t value) may = may
none_so p q (stores_move t n value order raised after d e) may = may
none_so p q (update t n slot value order raised read after c d e) may = (may.0, tt)
none_so p q (with_mut_end t n value after e) may = may
none_so p q _ may = tt

-- ---- the number of a store

map_length : (stores : List StorePoints) → length (map (λ (store : StorePoints). store.value) stores) ≡ length stores
map_length [] = refl
map_length (x ∷ stores) = ap suc (map_length stores)

-- a slot that kept a store of this number keeps it, where there are as many values
same_number : (history : History) (q : Option Place) (slot number : ℕ) → values_of (Some (Keeps history)) ≡ values_of q → number_kept q slot ≡ Some number → number_kept (Some (Keeps history)) slot ≡ Some number
same_number history None slot number e is = absurd (cc is)
same_number history (Some (Meets k)) slot number e is = absurd (cc is)
same_number history (Some (Records cell)) slot number e is = absurd (cc is)
same_number history (Some (Keeps old)) slot number e is =
    let many : length history.stores ≡ length old.stores = sym (map_length history.stores) ∙ (ap length e ∙ map_length old.stores) in
    ap (λ m. Some (number_in_slot m slot)) many ∙ is

-- an object of which a read-modify-write reads is an atomic
keeps_read : (p : Points) (t n slot : ℕ) (read : Accessed) → points_after_update_read p t n slot ≡ Ok read → (history : History) × (slice_get p.places n ≡ Some (Keeps history))
keeps_read p t n slot read = go (slice_get p.threads t) (slice_get p.places n)
  where
    go : (o : Option ThreadPoints) (q : Option Place) → access_by p t n (λ s. update_read_step t s slot) o q ≡ Ok read → (history : History) × (q ≡ Some (Keeps history))
    go None q e = absurd (cc e)
    go (Some own) None e = absurd (cc e)
    go (Some own) (Some (Meets k)) e = absurd (cc e)
    go (Some own) (Some (Records cell)) e = absurd (cc e)
    go (Some own) (Some (Keeps history)) e = (history, refl)

-- the moves from the first points on end with a read-modify-write of atomic n that succeeds and reads the store of this number
record EndsUpdating (first last : Points) (n number : ℕ) : Type 0 where
  before : Points
  led : LeadsReadably first before
  move : Moves before last
  readable : ReadsReadable before last move
  from : UpdatesFrom before last move n number

-- ---- one event, and atomic n

module _ {D : Type 0} (n : ℕ) (c : Course D) where
  abbrev SameAt : Points → Type 0
  SameAt p = values_of (slice_get p.places n) ≡ values_of (slice_get c.world.points.places n)

  -- no store was made yet, and what was read may be
  abbrev Yet : Points → Type 0
  Yet p = SameAt p × LeadsReadably c.world.points p

  yet_on : (p q : Points) (move : Moves p q) → MayBy MayYet move → Yet p → Yet q
  yet_on p q move may s = (move_values n p q move (none_so p q move may) ∙ s.0, led_on c.world.points p q move (now_so p q move may) s.1)

  abbrev At : World D → Type 0
  At w = Yet w.points

  abbrev In : {A : Type 0} → A × World D → Type 0
  In answered = Yet answered.1.points

  -- no store was made, or by the read-modify-write that read the slot
  abbrev By : ℕ → Points → Type 0
  By slot p = SameAt p ⊎ ((number : ℕ) → number_kept (slice_get c.world.points.places n) slot ≡ Some number → EndsUpdating c.world.points p n number)

  abbrev Done : ℕ → Result ℕ ℕ × World D → Type 0
  Done slot answered = By slot answered.1.points

  -- if a slot was chosen last
  abbrev TurnTo : Option Choice → Turn D × World D → Type 0
  TurnTo last answered =
      SameAt answered.1.points
      ⊎ ((slot number : ℕ) → last ≡ Some (choice.Load slot) → number_kept (slice_get c.world.points.places n) slot ≡ Some number → EndsUpdating c.world.points answered.1.points n number)

  -- once thread t is chosen
  abbrev Resumes : ℕ → Resumed D × World D → Type 0
  Resumes t = ResumedSo AnyWay (λ kind own. tt) At TurnTo t

  by_slot : (slot : ℕ) (told : Reply D) (w : World D) → By slot w.points → TurnTo (Some (choice.Load slot)) (turn.Reply w.active told, w)
  by_slot slot told w (inl same) = inl same
  by_slot slot told w (inr h) = inr (λ other number e is. let same : slot ≡ other = cc e in h number (subst (λ i. number_kept (slice_get c.world.points.places n) i ≡ Some number) (sym same) is))

  -- ---- an access that reads, from where its thread has raised

  module _ (w : World D) (raised : Points) (e : points_after_raise w.points w.active ≡ Ok raised) (s : Yet w.points) where
    raised_same : SameAt raised
    raised_same = raise_values w.points raised w.active n e ∙ s.0

    updates_by : (m slot value : ℕ) (order : Ordering) (read written : Accessed) → MayRead raised w.active m reader.Update slot → points_after_update_read raised w.active m slot ≡ Ok read
        → points_after_update_write read.points w.active m slot value order ≡ Ok written → By slot written.points
    updates_by m slot value order read written may f g = by_number (decided m n)
      where
        by_number : (m ≡ n) ⊎ (m ≡ n → ⊥) → By slot written.points
        by_number (inl same) = inr (λ number is. record {
          before = w.points;
          led = s.1;
          move = update w.active m slot value order raised read written e f g;
          readable = may;
          from = (same, subst (λ i. number_kept (slice_get raised.places i) slot ≡ Some number) (sym same) (kept number is));
        })
          where
            kept : (number : ℕ) → number_kept (slice_get c.world.points.places n) slot ≡ Some number → number_kept (slice_get raised.places n) slot ≡ Some number
            kept number is =
                let there = keeps_read raised w.active m slot read f in
                let here : slice_get raised.places n ≡ Some (Keeps there.0) = subst (λ i. slice_get raised.places i ≡ Some (Keeps there.0)) same there.1 in
                ap (λ o. number_kept o slot) here ∙ same_number there.0 (slice_get c.world.points.places n) slot number (ap values_of (sym here) ∙ raised_same) is
        by_number (inr off) = inl (
            update_write_values read.points w.active m n slot value order written g
            ∙ (ap (λ list. values_of (slice_get read.points.places n) ++ list) (cond_off m n (value ∷ []) [] off) ∙ nothing_more (values_of (slice_get read.points.places n)))
            ∙ (update_read_values raised w.active m n slot read f ∙ raised_same)
            )

    by_accessed : {A : Type 0} (Q : A → Type 0) (v : World D) (r : Result Accessed FailureKind) (next : World D → Result A FailureKind) → ((a : Accessed) → r ≡ Ok a → Answers Q (next (with_points a.points v)))
        → Answers Q ((r >>= (λ a. Ok (with_points a.points v))) >>= next)
    by_accessed Q v (Ok a) next h = h a refl
    by_accessed Q v (Err kind) next h = tt

    exchanges_by : (m slot : ℕ) (exchange : Exchange) → MayRead raised w.active m reader.Update slot → Answers (Done slot) (exchanges m exchange slot (with_points raised w))
    exchanges_by m slot exchange may =
        answers_then (Done slot) (an_atomic m (with_points raised w)) _ (λ atomic. answered (Done slot) (points_after_update_read raised w.active m slot) _ (λ read f.
        by_test atomic.numbers read f (read.value == fit atomic.numbers exchange.expected)))
      where
        by_test : (numbers : Numbers) (read : Accessed) → points_after_update_read raised w.active m slot ≡ Ok read → (b : Bool)
            → Answers (Done slot) (exchanges_if b m (fit numbers exchange.new) exchange slot read.value (with_points read.points w))
        by_test numbers read f true =
            by_accessed (Done slot) (with_points read.points w) (points_after_update_write read.points w.active m slot (fit numbers exchange.new) exchange.success) _ (λ written g.
            updates_by m slot (fit numbers exchange.new) exchange.success read written may f g)
        by_test numbers read f false = inl (update_fail_values read.points w.active m n slot exchange.failure ∙ (update_read_values raised w.active m n slot read f ∙ raised_same))

    told_exchanged : (slot : ℕ) (r : Result (Result ℕ ℕ × World D) FailureKind) → Answers (Done slot) r
        → Answers (ReplyTo At (TurnTo (Some (choice.Load slot)))) (r >>= (λ (answer, v). Ok (reply.Exchanged answer, v)))
    told_exchanged slot (Ok (answer, v)) h = by_slot slot (reply.Exchanged answer) v h
    told_exchanged slot (Err kind) h = tt

    told_read : (slot : ℕ) (r : Result (Result ℕ ℕ × World D) FailureKind) → Answers (Done slot) r → Answers (ReplyTo At (TurnTo (Some (choice.Load slot)))) (r >>= tells_read)
    told_read slot (Ok (answer, v)) h = by_slot slot (reply.Value (either_way answer)) v h
    told_read slot (Err kind) h = tt

    loads_by : (m slot : ℕ) (order : Ordering) → Answers (ReplyTo At (TurnTo (Some (choice.Load slot)))) (reads (atomic_op.Load m order) (with_points raised w) slot)
    loads_by m slot order = answered (ReplyTo At (TurnTo (Some (choice.Load slot)))) (points_after_load raised w.active m slot order) _ (λ loaded f. inl (load_values raised w.active m n slot order loaded f ∙ raised_same))

    changes_by : (m slot : ℕ) (change : Change) (order : Ordering) → MayRead raised w.active m reader.Update slot → Answers (ReplyTo At (TurnTo (Some (choice.Load slot)))) (reads (atomic_op.Update m change order) (with_points raised w) slot)
    changes_by m slot change order may =
        let Q : Reply D × World D → Type 0 = ReplyTo At (TurnTo (Some (choice.Load slot))) in
        answers_then Q (an_atomic m (with_points raised w)) _ (λ atomic. answered Q (points_after_update_read raised w.active m slot) _ (λ read f.
        let value = fit atomic.numbers (changed atomic.numbers change read.value) in
        by_accessed Q (with_points read.points w) (points_after_update_write read.points w.active m slot value order) _ (λ written g.
        by_slot slot (reply.Value read.value) (with_points written.points w) (updates_by m slot value order read written may f g))))

  -- a thread's access opens, up to the choice of a slot
  opens_by : (t m : ℕ) (reads_by : Reader) (access : AtomicOp) (w : World D)
      → ((raised : Points) → points_after_raise w.points w.active ≡ Ok raised → (slot : ℕ) → MayRead raised w.active m reads_by slot → Answers (ReplyTo At (TurnTo (Some (choice.Load slot)))) (reads access (with_points raised w) slot))
      → Answers (Resumes t) (opens m reads_by access w)
  opens_by t m reads_by access w h =
      by_points (Resumes t) w (points_after_raise w.points w.active) _ (λ raised e. answers_then (Resumes t) (an_atomic m (with_points raised w)) _ (λ atomic.
      answered (Resumes t) (readable_slots_of raised w.active m reads_by) _ (λ readable f. answers_then (Resumes t) (check (some_slot (slot_set readable)) Misuse) _ (λ u slot offered.
      any_way (ReplyTo At (TurnTo (Some (choice.Load slot)))) (reads access (with_points raised w) slot) (h raised e slot (may_read raised w.active m reads_by readable slot f offered))))))

  -- a store isn't a slot's
  stored_by_choice : (t : ℕ) (r : Result (Reply D × World D) FailureKind) → AnswersBy AnyWay (Resumes t) (r >>= replied)
  stored_by_choice t (Ok (told, w)) = inr (λ slot number e is. absurd (cc e))
  stored_by_choice t (Err kind) = tt

  access_by_slot : (t : ℕ) (access : AtomicOp) (w : World D) → At w → AnswersBy AnyWay (Resumes t) (accesses access w)
  access_by_slot t (atomic_op.Store m value order) w s = stored_by_choice t (store m value order w)
  access_by_slot t (atomic_op.Load m order) w s = any_way (Resumes t) _ (opens_by t m (reader.Load order) (atomic_op.Load m order) w (λ raised e slot may. loads_by w raised e s m slot order))
  access_by_slot t (atomic_op.Update m change order) w s = any_way (Resumes t) _ (opens_by t m reader.Update (atomic_op.Update m change order) w (λ raised e slot may. changes_by w raised e s m slot change order may))
  access_by_slot t (atomic_op.CompareExchange m exchange) w s =
      any_way (Resumes t) _ (opens_by t m reader.Update (atomic_op.CompareExchange m exchange) w (λ raised e slot may. told_exchanged w raised e s slot _ (exchanges_by w raised e s m slot exchange may)))
  access_by_slot t (atomic_op.CompareAndSwap m expected new order) w s =
      any_way (Resumes t) _ (opens_by t m reader.Update (atomic_op.CompareAndSwap m expected new order) w (λ raised e slot may. told_read w raised e s slot _ (exchanges_by w raised e s m slot (swap_of expected new order) may)))
  access_by_slot t (atomic_op.New numbers value) w s = tt
  access_by_slot t (atomic_op.UnsyncLoad m) w s = tt
  access_by_slot t (atomic_op.IntoInner m) w s = tt
  access_by_slot t (atomic_op.WithMut m) w s = tt
  access_by_slot t (atomic_op.WithMutEnd m value) w s = tt

  -- ---- what accesses no atomic

  quiet_reply : (last : Option Choice) (r : Result (Reply D × World D) FailureKind) → Answers (ReplyTo At In) r → AnswersBy AnyWay (ReplyTo At (TurnTo last)) r
  quiet_reply last (Ok (told, w)) h = inl h.0
  quiet_reply last (Err kind) h = tt

  quiet_resumes : (t : ℕ) (r : Result (Resumed D × World D) FailureKind) → Answers (ResumedIf D Yet MayYet yet_on Offered may_read) r → AnswersBy AnyWay (Resumes t) r
  quiet_resumes t (Ok (resumed.Passed (passed.Turn given), w)) h = inl h.0
  quiet_resumes t (Ok (resumed.Passed passed.AtBranch, w)) h = h
  quiet_resumes t (Ok (resumed.Load loading, w)) h = λ slot may. quiet_reply (Some (choice.Load slot)) (reads loading.access w slot) (h slot may)
  quiet_resumes t (Err kind) h = tt

  effect_by : (t : ℕ) (todo : Task D) (w : World D) → At w → AnswersBy AnyWay (Resumes t) (takes_effect todo w)
  effect_by t (task.Access access) w s = access_by_slot t access w s
  effect_by t todo w s = quiet_resumes t (takes_effect todo w) (effect_points D Yet MayYet yet_on Offered may_read todo w tt s)

  chosen_by : (t : ℕ) (w : World D) → At w → AnswersBy AnyWay (Resumes t) (chosen t w)
  chosen_by t w s = by_chosen (chooses t w) (answers_then In (found (slice_get w.threads t) Misuse) _ (λ thread. s))
    where
      by_chosen : (r : Result (Task D × World D) FailureKind) → Answers In r → AnswersBy AnyWay (Resumes t) (r >>= (λ ready. takes_effect ready.0 ready.1))
      by_chosen (Ok ready) h = effect_by t ready.0 ready.1 h
      by_chosen (Err kind) h = tt

  end_by : (w : World D) → At w → AnswersBy AnyWay (TurnTo (Some (choice.Thread None))) (end_of w)
  end_by w s = by_end (end_of w) (end_points D Yet MayYet yet_on w s)
    where
      by_end : (r : Result (Turn D × World D) FailureKind) → Answers In r → AnswersBy AnyWay (TurnTo (Some (choice.Thread None))) r
      by_end (Ok (given, v)) h = inl h.0
      by_end (Err kind) h = tt

  entered_by : (r : Result (Entry D × World D) FailureKind) → Answers In r → AnswersBy AnyWay (EnteredSo AnyWay (λ kind own. tt) At TurnTo) r
  entered_by (Ok (entry.Answered told, v)) h = inl h.0
  entered_by (Ok (entry.AtBranch, v)) h = h
  entered_by (Ok (entry.Spurious m, v)) h = λ is_spurious. any_way (λ after. At after.1) _ (enters_wait_points D Yet MayYet yet_on is_spurious m v h)
  entered_by (Ok (entry.Explores todo, v)) h = inl h.0
  entered_by (Err kind) h = tt

  puts_none : (todo : Request D ⊤) → puts_value todo ≡ false → MayBegin D Yet MayYet yet_on todo
  puts_none (op.Atomic (atomic_op.New numbers value)) h = absurd (cc h)
  puts_none (op.Atomic (atomic_op.WithMutEnd m value)) h = absurd (cc h)
  puts_none (op.Fence order) h = tt
  puts_none _ h = tt

  event_by : (todo : Request D ⊤) → puts_value todo ≡ false → Offers AnyWay (λ last. InWorld (TurnTo last)) None (submit todo c)
  event_by todo h =
      event_offers_so AnyWay (λ kind own. tt) At TurnTo chosen_by end_by todo c
      (entered_by (counted todo c.world)
      (answers_then In (check (nat_lt 0 c.world.steps_left) TooManySteps) _ (λ u. begins_points D Yet MayYet yet_on todo (record c.world { steps_left = c.world.steps_left - 1 }) (puts_none todo h) (refl, none))))

-- ---- events

module _ {D : Type 0} where
  abbrev Nowhere : World D → Type 0
  Nowhere w = ⊥

  abbrev Unchosen : Option Choice → Turn D × World D → Type 0
  Unchosen last answered = last ≡ None

  -- where an atomic is made, or a mutation ends, nothing is chosen
  abbrev Enters : Entry D × World D → Type 0
  Enters = EnteredSo AnyWay (λ kind own. tt) Nowhere Unchosen

  puts_begins : (todo : Request D ⊤) (c : Course D) → puts_value todo ≡ true → Answers Enters (counted todo c.world)
  puts_begins (op.Atomic (atomic_op.New numbers value)) c e = answers_then Enters (check (nat_lt 0 c.world.steps_left) TooManySteps) _ (λ u. refl)
  puts_begins (op.Atomic (atomic_op.WithMutEnd m value)) c e =
      let fewer : World D = record c.world { steps_left = c.world.steps_left - 1 } in
      answers_then Enters (check (nat_lt 0 c.world.steps_left) TooManySteps) _ (λ u. answers_then Enters (an_atomic m fewer) _ (λ atomic. answers_then Enters (check (is_number atomic.opened c.world.active) Misuse) _ (λ v.
      answers_then Enters (points_after_with_mut_end c.world.points c.world.active m (fit atomic.numbers value)) _ (λ stored. refl))))
  puts_begins todo c e = absurd (cc e)

  puts_unchosen : (todo : Request D ⊤) (c : Course D) → puts_value todo ≡ true → Offers AnyWay (λ last. InWorld (Unchosen last)) None (submit todo c)
  puts_unchosen todo c h =
      event_offers_so AnyWay (λ kind own. tt) Nowhere Unchosen (λ t w no. absurd no) (λ w no. absurd no) todo c (any_way Enters (counted todo c.world) (puts_begins todo c h))

last_chosen : (last : Option Choice) (before : List Choice) (slot : ℕ) → last_of last (before ++ choice.Load slot ∷ []) ≡ Some (choice.Load slot)
last_chosen last [] slot = refl
last_chosen last (o ∷ before) slot = last_chosen (Some o) before slot

no_more : (xs ys : List ℕ) → xs ≡ xs ++ ys → ys ≡ []
no_more [] ys e = sym e
no_more (x ∷ xs) ys e = no_more xs ys (cc e)

module _ {D : Type 0} where
  -- an event that tells of such a read-modify-write ends with its move
  ends_updating : (max_threads max_steps n number : ℕ) (c v : Course D) (event : Event D) → IsUnderWay max_threads max_steps c → Follows c event v → UpdatesStore n number c v event
      → EndsUpdating c.world.points v.world.points n number
  ends_updating max_threads max_steps n number c v event under follows u = by_kind (puts_value event.op) refl
    where
      last : last_of None event.choices ≡ Some (choice.Load u.slot)
      last = ap (last_of None) u.chosen ∙ last_chosen None u.before u.slot

      by_turn_to : TurnTo n c (last_of None event.choices) (event.turn, v.world) → puts_value event.op ≡ false → EndsUpdating c.world.points v.world.points n number
      by_turn_to (inl same) h =
          let law = stores_law max_threads max_steps n c v event u.atomic under follows.happens h u.stands in
          absurd (u.stores (no_more (values_of (slice_get c.world.points.places n)) _ (sym same ∙ law)))
      by_turn_to (inr updated) h = updated u.slot number last u.is

      by_kind : (b : Bool) → puts_value event.op ≡ b → EndsUpdating c.world.points v.world.points n number
      by_kind true h =
          let unchosen : last_of None event.choices ≡ None = offered_value None (submit event.op c) event.choices (event.turn, v) (puts_unchosen event.op c h) follows.options follows.happens in
          absurd (cc (last, unchosen))
      by_kind false h = by_turn_to (offered_value None (submit event.op c) event.choices (event.turn, v) (event_by n c event.op h) follows.options follows.happens) h

  -- ---- histories

  goes_under : (max_threads max_steps : ℕ) (c d : Course D) → IsUnderWay max_threads max_steps c → GoesByOptions c d → IsUnderWay max_threads max_steps d
  goes_under max_threads max_steps c d under at_once = under
  goes_under max_threads max_steps c d under (on u event v goes follows threads) = by_turn u event v (goes_under max_threads max_steps c u under goes) follows.happens threads

  goes_led : (c d : Course D) → LeadsReadably first_points c.world.points → GoesByOptions c d → LeadsReadably c.world.points d.world.points
  goes_led c d before at_once = none
  goes_led c d before (on u event v goes follows threads) = follows_led c.world.points before u v event (goes_led c u before goes) follows

  tells : (numbers : Numbers) (n : ℕ) (c : Course D) (event : Event D) (given : Turn D) → stored_in numbers n c event given ≢ [] → IsThreads given
  tells numbers n c event (turn.Reply t told) h = tt
  tells numbers n c event (turn.Start t) h = tt
  tells numbers n c event (turn.Ended value) h = h refl

pub once_over_histories : {D : Type 0} → OnceLaw D
once_over_histories {D} explores max_threads max_steps n number c u d v first second to_first follows one between follows_too two =
    let under = goes_under max_threads max_steps (opening explores max_threads max_steps) c (at_start explores) to_first in
    let led = goes_led (opening explores max_threads max_steps) c none to_first in
    let under_after = by_turn c first u under follows.happens (tells one.atomic.numbers n c first first.turn one.stores) in
    let led_after = follows_led first_points none c u first led follows in
    let a = ends_updating max_threads max_steps n number c u first under follows one in
    let b = ends_updating max_threads max_steps n number d v second (goes_under max_threads max_steps u d under_after between) follows_too two in
    once_law a.before u.world.points b.before v.world.points a.move b.move n number (led_joined first_points c.world.points a.before led a.led) a.readable a.from
    (led_joined u.world.points d.world.points b.before (goes_led u d led_after between) b.led) b.readable b.from
