-- Over every history the values of an atomic's stores are those that accesses stored.
use Rattle.std.proofs.Common.{◌≡◌, ◌⊎◌, ℕ, zero, suc, Bool, true, false, List, [], ◌∷◌, ◌++◌, map, Option, Some, None, refl, ap, sym, subst, ◌∙◌, inl, inr, eqb-true}
use Rattle.std.specs.Prelude.{◌==◌, ◌-◌, cond, nat_lt, slice_get, slice_set, Result, Ok, Err, ⊤}
use Rattle.std.specs.declared.sync.atomic.Ordering.{Ordering}
use Rattle.loom_views.specs.Atomic.Slots.{slot_set}
use Rattle.loom_views.specs.Changes.{changed, fit}
use Rattle.loom_views.specs.Laws.Moves.{Moves}
use Rattle.loom_views.specs.Views.{Accessed, Points, points_after_load, points_after_raise, points_after_store, points_after_unsync_load, points_after_update_read, points_after_update_write, points_after_with_mut, points_after_with_mut_end, readable_slots_of}
use Rattle.loom_views.specs.declared.rt.atomic.reader.Reader.{Reader}
use Rattle.loom_views.specs.declared.rt.atomic.reader.Reader.TheVariants as reader
use Rattle.loom_views.specs.declared.rt.failure.FailureKind.{FailureKind}
use Rattle.loom_views.specs.declared.rt.failure.FailureKind.TheVariants.{Misuse, TooManySteps}
use Rattle.loom_views.specs.declared.rt.num.Numbers.{Numbers}
use Rattle.loom_objects.specs.declared.operation.AtomicOp.{AtomicOp}
use Rattle.loom_objects.specs.declared.operation.AtomicOp.TheVariants as atomic_op
use Rattle.loom_objects.specs.declared.operation.Exchange.{Exchange}
use Rattle.loom_objects.specs.declared.operation.Reply.{Reply}
use Rattle.loom_objects.specs.declared.operation.Reply.TheVariants as reply
use Rattle.loom_objects.specs.declared.operation.Request.{Request}
use Rattle.loom_objects.specs.declared.operation.Request.TheVariants as op
use Rattle.loom_objects.specs.declared.operation.Turn.{Turn}
use Rattle.loom_objects.specs.declared.operation.Turn.TheVariants as turn
use Rattle.loom_objects.specs.declared.rt.atomic.Atomic.{Atomic}
use Rattle.loom_objects.specs.declared.rt.object.Object.{Object}
use Rattle.loom_objects.specs.declared.rt.object.Object.TheVariants as object
use Rattle.loom_objects.specs.declared.rt.run.Entry.{Entry}
use Rattle.loom_objects.specs.declared.rt.run.Entry.TheVariants as entry
use Rattle.loom_objects.specs.declared.rt.run.Passed.TheVariants as passed
use Rattle.loom_objects.specs.declared.rt.run.Resumed.{Resumed}
use Rattle.loom_objects.specs.declared.rt.run.Resumed.TheVariants as resumed
use Rattle.loom_objects.specs.declared.rt.thread.Task.{Task}
use Rattle.loom_objects.specs.declared.rt.thread.Task.TheVariants as task
use Rattle.loom_objects.specs.declared.rt.thread.Thread.{Thread}
use Rattle.loom_objects.specs.Rules.Atomic.{accesses, exchanges, exchanges_if, opens, reads, some_slot, store, swap_of, tells_read, with_atomic}
use Rattle.loom_objects.specs.Rules.Ending.{end_of}
use Rattle.loom_objects.specs.Rules.Moves.{an_atomic, changed_at, is_number, pending, with_points, with_thread}
use Rattle.loom_objects.specs.Rules.Notify.{enters_wait as entered}
use Rattle.loom_objects.specs.Rules.Replied.{replied}
use Rattle.loom_objects.specs.Rules.Rule.{◌>>=◌, check}
use Rattle.loom_objects.specs.Rules.Tables.{chosen, counted, op_begins, takes_effect}
use Rattle.loom_objects.specs.Scene.Lookup.{atomic_in, looked_up}
use Rattle.loom_objects.specs.Schedule.Offers.{runs_again}
use Rattle.loom_objects.specs.World.{World}
use Rattle.loom_engine.specs.Runs.Course.{Course}
use Rattle.loom_engine.specs.Runs.Histories.{ComesBy, Event, Happens, IsReached, at_first, later}
use Rattle.loom_engine.specs.Runs.Machine.{submit}
use Rattle.loom_engine.specs.Runs.Stores.{IsThreads, IsUnderWay, MutationLaw, StoresLaw, access_at, access_in, access_in_task, access_of, at_start, by_turn, puts_value, stored_by, stored_in, stored_where, values_of, with_last}
use Rattle.loom_engine.proofs.Runs.Answering.{Answers, TellsActive, answers_then, end_over}
use Rattle.loom_engine.proofs.Runs.Carrying.{InWorld}
use Rattle.loom_engine.proofs.Runs.Events.{IsOver}
use Rattle.loom_engine.proofs.Runs.Keeping.{Keeps, kept_value}
use Rattle.loom_engine.proofs.Runs.Kept.{is_calling}
use Rattle.loom_engine.proofs.Runs.Kinds.{begins_points, effect_tells}
use Rattle.loom_engine.proofs.Runs.Lifting.{EnteredTo, ReplyTo, ResumedTo, event_kept}
use Rattle.loom_engine.proofs.Runs.Loading.{There, chooses_of, here_task, map_task, off_task, reached_there, ready_at, task_at, with_task}
use Rattle.loom_engine.proofs.Runs.Moving.{Within, enters_wait_moves, reads_moves}
use Rattle.loom_engine.proofs.Runs.Advancing.{effect_any}
use Rattle.loom_engine.proofs.Runs.Pointing.{MayBegin, MayBy, MayTake, answered, by_points, end_points, enters_wait_points}
use Rattle.loom_engine.proofs.Runs.Queues.{cond_here, cond_off, decided, set_there}
use Rattle.loom_engine.proofs.Runs.Storing.{NoStore, load_values, move_values, nothing_more, raise_values, store_values, unsync_load_values, update_fail_values, update_read_values, update_write_values, with_mut_end_values, with_mut_values}
use Rattle.loom_engine.proofs.Runs.Threading.{KeptByThreads, counted_on, effect_on}

-- ---- what threads have pending

module _ {D : Type 0} where
  not_accessing : (todo : Task D) → is_calling todo ≡ false → access_in_task todo ≡ None
  not_accessing (task.Access access) e = absurd (cc e)
  not_accessing _ e = refl

  access_same : (o q : Option (Thread D)) → task_at o ≡ task_at q → access_at o ≡ access_at q
  access_same None None e = refl
  access_same None (Some thread) e = absurd (cc e)
  access_same (Some thread) None e = absurd (cc e)
  access_same (Some thread) (Some other) e = let same : thread.task ≡ other.task = cc e in ap access_in_task same

  set_access : (threads : List (Thread D)) (a v : ℕ) (before after : Thread D) → slice_get threads a ≡ Some before → access_in_task after.task ≡ access_in_task before.task
      → access_at (slice_get (slice_set threads a after) v) ≡ access_at (slice_get threads v)
  set_access [] a v before after e same = refl
  set_access (x ∷ threads) zero zero before after e same = let is : before ≡ x = cc e in same ∙ ap (λ (thread : Thread D). access_in_task thread.task) is
  set_access (x ∷ threads) zero (suc v) before after e same = refl
  set_access (x ∷ threads) (suc a) zero before after e same = refl
  set_access (x ∷ threads) (suc a) (suc v) before after e same = set_access threads a v before after e same

  turned_access : (change : Thread D → Thread D) (a v : ℕ) (threads : List (Thread D)) → ((thread : Thread D) → access_in_task (change thread).task ≡ None) → access_at (slice_get threads a) ≡ None
      → access_at (slice_get (with_thread change a threads) v) ≡ access_at (slice_get threads v)
  turned_access change a v threads quiet none = by_thread (slice_get threads a) refl none
    where
      by_thread : (o : Option (Thread D)) → slice_get threads a ≡ o → access_at o ≡ None → access_at (slice_get (changed_at change a o threads) v) ≡ access_at (slice_get threads v)
      by_thread None e h = refl
      by_thread (Some thread) e h = set_access threads a v thread (change thread) e (quiet thread ∙ sym h)

  more_access : (threads : List (Thread D)) (child : Thread D) (v : ℕ) → access_in_task child.task ≡ None → access_at (slice_get (threads ++ child ∷ []) v) ≡ access_at (slice_get threads v)
  more_access [] child zero e = e
  more_access [] child (suc v) e = refl
  more_access (x ∷ threads) child zero e = refl
  more_access (x ∷ threads) child (suc v) e = more_access threads child v e

  map_get : (change : Thread D → Thread D) (threads : List (Thread D)) (t : ℕ) (thread : Thread D) → slice_get threads t ≡ Some thread → slice_get (map change threads) t ≡ Some (change thread)
  map_get change [] t thread e = absurd (cc e)
  map_get change (x ∷ threads) zero thread e = let same : x ≡ thread = cc e in ap (λ y. Some (change y)) same
  map_get change (x ∷ threads) (suc t) thread e = map_get change threads t thread e

  -- a thread that is chosen accesses nothing any more
  set_body : (threads : List (Thread D)) (u : ℕ) (body : Thread D) → access_in_task body.task ≡ None → access_at (slice_get (slice_set threads u body) u) ≡ None
  set_body [] u body e = refl
  set_body (x ∷ threads) zero body e = e
  set_body (x ∷ threads) (suc u) body e = set_body threads u body e

  -- the atomic that was looked up is there
  atomic_there : (m : ℕ) (w : World D) (atomic : Atomic) → an_atomic m w ≡ Ok atomic → slice_get w.objects m ≡ Some (object.Atomic atomic)
  atomic_there m w atomic = by_object (slice_get w.objects m)
    where
      by_whole : (is_taken : Bool) (a : Atomic) → ◌≡◌ {A = Result Atomic FailureKind} (cond is_taken (Err Misuse) (Ok a)) (Ok atomic) → a ≡ atomic
      by_whole true a e = absurd (cc e)
      by_whole false a e = cc e

      by_object : (o : Option (Object D)) → looked_up atomic_in o ≡ Ok atomic → o ≡ Some (object.Atomic atomic)
      by_object None e = absurd (cc e)
      by_object (Some (object.Atomic a)) e = ap (λ x. Some (object.Atomic x)) (by_whole a.is_taken a e)
      by_object (Some _) e = absurd (cc e)

  none_stored : (numbers : Numbers) (n : ℕ) (o : Option AtomicOp) (told : Reply D) → o ≡ None → stored_where numbers n o told ≡ []
  none_stored numbers n None told e = refl
  none_stored numbers n (Some access) told e = absurd (cc e)

-- ---- one event, and atomic n

module _ {D : Type 0} (n : ℕ) (c : Course D) (event : Event D) where
  abbrev pub vs : List ℕ
  vs = values_of (slice_get c.world.points.places n)

  abbrev pub expected : ℕ → Option AtomicOp
  expected u = access_of c event u

  abbrev pub SameAt : Points → Type 0
  SameAt p = values_of (slice_get p.places n) ≡ vs

  same_so : (p q : Points) (move : Moves p q) → MayBy NoStore move → SameAt p → SameAt q
  same_so p q move may s = move_values n p q move may ∙ s

  -- the threads have pending what is expected
  abbrev pub Pending : World D → Type 0
  Pending w = (u : ℕ) → access_at (slice_get w.threads u) ≡ expected u

  -- and the active thread nothing
  abbrev pub Quiet : World D → Type 0
  Quiet w = Pending w × (expected w.active ≡ None)

  abbrev pub Idle : World D → Type 0
  Idle w = access_at (slice_get w.threads w.active) ≡ None

  quiet_by_threads : KeptByThreads Quiet
  quiet_by_threads = record {
    moves = record {
      points = λ p w s. s;
      yields = λ yields w s. s;
      object = λ m x w there away s. s;
      made = λ x w away s. s;
      changed = λ change u w same s. ((λ v. access_same _ _ (with_task change u v w.threads (λ thread. (same thread).same)) ∙ s.0 v), s.1);
      turned = λ change w idle s. ((λ v. turned_access change w.active v w.threads (λ thread. not_accessing (change thread).task (idle thread).idle) (s.0 w.active ∙ s.1) ∙ s.0 v), s.1);
      each = λ change w same s. ((λ v. access_same _ _ (map_task change v w.threads (λ thread. (same thread).same)) ∙ s.0 v), s.1);
      child = λ thread w h idle s. ((λ v. more_access w.threads thread v (not_accessing thread.task idle) ∙ s.0 v), s.1);
    };
    active = λ change w same s. ((λ v. access_same _ _ (with_task change w.active v w.threads same) ∙ s.0 v), s.1);
    pending = λ todo is_blocked w none s. ((λ v. turned_access (pending todo is_blocked) w.active v w.threads (λ thread. none) (s.0 w.active ∙ s.1) ∙ s.0 v), s.1);
    object = λ m x w s. s;
    made = λ x w s. s;
    lazies = λ lazies w s. s;
    steps = λ left w s. s;
  }

  abbrev pub Waits : World D → Type 0
  Waits w = Pending w × SameAt w.points

  -- what was stored by a turn, and the active thread is about to access nothing
  abbrev pub Stores : Turn D → World D → Type 0
  Stores given w = (atomic : Atomic) → slice_get w.objects n ≡ Some (object.Atomic atomic) → values_of (slice_get w.points.places n) ≡ vs ++ stored_in atomic.numbers n c event given

  abbrev pub Said : Turn D × World D → Type 0
  Said (turn.Reply t told, w) = Stores (turn.Reply t told) w × Idle w
  Said (turn.Start t, w) = Stores (turn.Start t) w × Idle w
  Said (turn.Ended value, w) = Stores (turn.Ended value) w

  nothing_stored : (given : Turn D) (w : World D) → SameAt w.points → ((numbers : Numbers) → stored_in numbers n c event given ≡ []) → Stores given w
  nothing_stored given w s none = λ atomic there. s ∙ (sym (nothing_more vs) ∙ ap (λ more. vs ++ more) (sym (none atomic.numbers)))

  quiet_reply : (told : Reply D) (w : World D) → Quiet w → SameAt w.points → Said (turn.Reply w.active told, w)
  quiet_reply told w q s = (nothing_stored (turn.Reply w.active told) w s (λ numbers. none_stored numbers n (expected w.active) told q.1), q.0 w.active ∙ q.1)

  -- ---- rules that access no atomic

  both_replies : (r : Result (Reply D × World D) FailureKind) → Answers (Within Quiet) r → Answers (ReplyTo (λ w. SameAt w.points) (λ answered. SameAt answered.1.points)) r → Answers (ReplyTo Waits Said) r
  both_replies (Ok (told, v)) q s = quiet_reply told v q s
  both_replies (Err kind) q s = tt

  both_waits : (r : Result (⊤ × World D) FailureKind) → Answers (Within Quiet) r → Answers (λ after. SameAt after.1.points) r → Answers (λ after. Waits after.1) r
  both_waits (Ok after) q s = (q.0, s)
  both_waits (Err kind) q s = tt

  both_entries : (r : Result (Entry D × World D) FailureKind) → Answers (Within Quiet) r → Answers (λ answered. SameAt answered.1.points) r → Answers (EnteredTo Waits Said) r
  both_entries (Ok (entry.Answered told, v)) q s = quiet_reply told v q s
  both_entries (Ok (entry.AtBranch, v)) q s = (q.0, s)
  both_entries (Ok (entry.Spurious m, v)) q s =
      λ is_spurious. both_waits (entered is_spurious m v) (enters_wait_moves Quiet quiet_by_threads.moves is_spurious m v q) (enters_wait_points D SameAt NoStore same_so is_spurious m v s)
  both_entries (Ok (entry.Explores todo, v)) q s = quiet_reply reply.Done v q s
  both_entries (Err kind) q s = tt

  both_resumed : (r : Result (Resumed D × World D) FailureKind) → Answers TellsActive r → Answers (Within Quiet) r
      → Answers (ResumedTo (λ w. SameAt w.points) (λ answered. SameAt answered.1.points)) r → Answers (ResumedTo Waits Said) r
  both_resumed (Ok (resumed.Passed (passed.Turn (turn.Reply u told)), v)) tells q s = subst (λ t. Said (turn.Reply t told, v)) (sym tells) (quiet_reply told v q s)
  both_resumed (Ok (resumed.Passed (passed.Turn (turn.Start u)), v)) tells q s = (nothing_stored (turn.Start u) v s (λ numbers. refl), q.0 v.active ∙ q.1)
  both_resumed (Ok (resumed.Passed (passed.Turn (turn.Ended value)), v)) tells q s = nothing_stored (turn.Ended value) v s (λ numbers. refl)
  both_resumed (Ok (resumed.Passed passed.AtBranch, v)) tells q s = (q.0, s)
  both_resumed (Ok (resumed.Load load, v)) tells q s = λ slot. both_replies (reads load.access v slot) (reads_moves Quiet quiet_by_threads.moves load.access v slot q) (s slot)
  both_resumed (Err kind) tells q s = tt

  quiet_effect : (todo : Task D) (w : World D) → MayTake D SameAt NoStore same_so todo → Quiet w → SameAt w.points → Answers (ResumedTo Waits Said) (takes_effect todo w)
  quiet_effect todo w may q s =
      both_resumed (takes_effect todo w) (effect_tells todo w) (effect_on Quiet quiet_by_threads todo w q) (effect_any D SameAt NoStore same_so (λ raised t m reads slot. tt) todo w may s)

  -- ---- an access of an atomic

  stores_so : (access : AtomicOp) (told : Reply D) (v : World D) (m : ℕ) (atomic : Atomic) (f : Numbers → List ℕ) → expected v.active ≡ Some access
      → ((numbers : Numbers) → stored_by numbers n access told ≡ cond (m == n) (f numbers) []) → slice_get v.objects m ≡ Some (object.Atomic atomic)
      → values_of (slice_get v.points.places n) ≡ vs ++ cond (m == n) (f atomic.numbers) [] → Stores (turn.Reply v.active told) v
  stores_so access told v m atomic f is by there h = λ other beside.
      h ∙ (ap (λ more. vs ++ more) (by_test (m == n) refl other beside ∙ sym (by other.numbers)) ∙ ap (λ o. vs ++ stored_where other.numbers n o told) (sym is))
    where
      by_test : (b : Bool) → (m == n) ≡ b → (other : Atomic) → slice_get v.objects n ≡ Some (object.Atomic other) → cond b (f atomic.numbers) [] ≡ cond b (f other.numbers) []
      by_test false e other beside = refl
      by_test true e other beside =
          let same : m ≡ n = eqb-true m n e in
          let here : slice_get v.objects n ≡ Some (object.Atomic atomic) = subst (λ i. slice_get v.objects i ≡ Some (object.Atomic atomic)) same there in
          let is_it : atomic ≡ other = cc (here, beside) in ap (λ (a : Atomic). f a.numbers) is_it

  stores_none : (access : AtomicOp) (told : Reply D) (v : World D) → expected v.active ≡ Some access → ((numbers : Numbers) → stored_by numbers n access told ≡ []) → SameAt v.points → Stores (turn.Reply v.active told) v
  stores_none access told v is none s = nothing_stored (turn.Reply v.active told) v s (λ numbers. ap (λ o. stored_where numbers n o told) is ∙ none numbers)

  by_reply : (r : Result (Reply D × World D) FailureKind) → Answers (ReplyTo Waits Said) r → Answers (ResumedTo Waits Said) (r >>= replied)
  by_reply (Ok (told, v)) h = h
  by_reply (Err kind) h = tt

  by_accessed : {A : Type 0} (Q : A → Type 0) (v : World D) (r : Result Accessed FailureKind) (next : World D → Result A FailureKind) → ((a : Accessed) → r ≡ Ok a → Answers Q (next (with_points a.points v)))
      → Answers Q ((r >>= (λ a. Ok (with_points a.points v))) >>= next)
  by_accessed Q v (Ok a) next h = h a refl
  by_accessed Q v (Err kind) next h = tt

  store_said : (m value : ℕ) (order : Ordering) (w : World D) → expected w.active ≡ Some (atomic_op.Store m value order) → Idle w → SameAt w.points → Answers (ReplyTo Waits Said) (store m value order w)
  store_said m value order w is idle s =
      by_points (ReplyTo Waits Said) w (points_after_raise w.points w.active) _ (λ raised e. answered (ReplyTo Waits Said) (an_atomic m (with_points raised w)) _ (λ atomic f.
      answered (ReplyTo Waits Said) (points_after_store raised w.active m (fit atomic.numbers value) order) _ (λ stored g. (
        stores_so (atomic_op.Store m value order) reply.Done (with_points stored.points w) m atomic (λ numbers. fit numbers value ∷ []) is (λ numbers. refl) (atomic_there m (with_points raised w) atomic f)
            (store_values raised w.active m n (fit atomic.numbers value) order stored g ∙ ap (λ list. list ++ cond (m == n) (fit atomic.numbers value ∷ []) []) (raise_values w.points raised w.active n e ∙ s)),
        idle,
      ))))

  -- one that reads, from where its thread has raised
  module _ (w : World D) (raised : Points) (e : points_after_raise w.points w.active ≡ Ok raised) (idle : Idle w) (s : SameAt w.points) where
    raised_same : SameAt raised
    raised_same = raise_values w.points raised w.active n e ∙ s

    -- what an exchange does
    abbrev Exchanged : ℕ → Exchange → Result ℕ ℕ × World D → Type 0
    Exchanged m exchange (Ok read, v) =
        (atomic : Atomic) × ((slice_get v.objects m ≡ Some (object.Atomic atomic)) × (((read == fit atomic.numbers exchange.expected) ≡ true)
        × ((values_of (slice_get v.points.places n) ≡ vs ++ cond (m == n) (fit atomic.numbers exchange.new ∷ []) []) × ((v.active ≡ w.active) × Idle v))))
    Exchanged m exchange (Err read, v) =
        (atomic : Atomic) × ((slice_get v.objects m ≡ Some (object.Atomic atomic)) × (((read == fit atomic.numbers exchange.expected) ≡ false) × (SameAt v.points × ((v.active ≡ w.active) × Idle v))))

    exchanged : (m slot : ℕ) (exchange : Exchange) → Answers (Exchanged m exchange) (exchanges m exchange slot (with_points raised w))
    exchanged m slot exchange =
        answered (Exchanged m exchange) (an_atomic m (with_points raised w)) _ (λ atomic f. answered (Exchanged m exchange) (points_after_update_read raised w.active m slot) _ (λ read g.
        by_test atomic f read g (read.value == fit atomic.numbers exchange.expected) refl))
      where
        by_test : (atomic : Atomic) → an_atomic m (with_points raised w) ≡ Ok atomic → (read : Accessed) → points_after_update_read raised w.active m slot ≡ Ok read
            → (b : Bool) → (read.value == fit atomic.numbers exchange.expected) ≡ b → Answers (Exchanged m exchange) (exchanges_if b m (fit atomic.numbers exchange.new) exchange slot read.value (with_points read.points w))
        by_test atomic f read g true b =
            by_accessed (Exchanged m exchange) (with_points read.points w) (points_after_update_write read.points w.active m slot (fit atomic.numbers exchange.new) exchange.success) _ (λ written h. (
              atomic,
              (
                atomic_there m (with_points raised w) atomic f,
                (
                  b,
                  (
                    update_write_values read.points w.active m n slot (fit atomic.numbers exchange.new) exchange.success written h
                        ∙ ap (λ list. list ++ cond (m == n) (fit atomic.numbers exchange.new ∷ []) []) (update_read_values raised w.active m n slot read g ∙ raised_same),
                    (refl, idle),
                  ),
                ),
              ),
            ))
        by_test atomic f read g false b = (
          atomic,
          (
            atomic_there m (with_points raised w) atomic f,
            (b, (update_fail_values read.points w.active m n slot exchange.failure ∙ (update_read_values raised w.active m n slot read g ∙ raised_same), (refl, idle))),
          ),
        )

    reads_said : (access : AtomicOp) (slot : ℕ) → expected w.active ≡ Some access → Answers (ReplyTo Waits Said) (reads access (with_points raised w) slot)
    reads_said (atomic_op.Load m order) slot is =
        answered (ReplyTo Waits Said) (points_after_load raised w.active m slot order) _ (λ loaded f.
        (stores_none (atomic_op.Load m order) (reply.Value loaded.value) (with_points loaded.points w) is (λ numbers. refl) (load_values raised w.active m n slot order loaded f ∙ raised_same), idle))
    reads_said (atomic_op.Update m change order) slot is =
        answered (ReplyTo Waits Said) (an_atomic m (with_points raised w)) _ (λ atomic f. answered (ReplyTo Waits Said) (points_after_update_read raised w.active m slot) _ (λ read g.
        let value = fit atomic.numbers (changed atomic.numbers change read.value) in
        by_accessed (ReplyTo Waits Said) (with_points read.points w) (points_after_update_write read.points w.active m slot value order) _ (λ written h. (
          stores_so (atomic_op.Update m change order) (reply.Value read.value) (with_points written.points w) m atomic (λ numbers. fit numbers (changed numbers change read.value) ∷ []) is (λ numbers. refl)
              (atomic_there m (with_points raised w) atomic f)
              (update_write_values read.points w.active m n slot value order written h ∙ ap (λ list. list ++ cond (m == n) (value ∷ []) []) (update_read_values raised w.active m n slot read g ∙ raised_same)),
          idle,
        ))))
    reads_said (atomic_op.CompareExchange m exchange) slot is = by_exchange (exchanges m exchange slot (with_points raised w)) (exchanged m slot exchange)
      where
        by_exchange : (r : Result (Result ℕ ℕ × World D) FailureKind) → Answers (Exchanged m exchange) r → Answers (ReplyTo Waits Said) (r >>= (λ (answer, v). Ok (reply.Exchanged answer, v)))
        by_exchange (Ok (Ok read, v)) (atomic, (there, (test, (h, (same, z))))) = (
          stores_so (atomic_op.CompareExchange m exchange) (reply.Exchanged (Ok read)) v m atomic (λ numbers. fit numbers exchange.new ∷ []) (ap expected same ∙ is) (λ numbers. refl) there h,
          z,
        )
        by_exchange (Ok (Err read, v)) (atomic, (there, (test, (h, (same, z))))) =
            (stores_none (atomic_op.CompareExchange m exchange) (reply.Exchanged (Err read)) v (ap expected same ∙ is) (λ numbers. refl) h, z)
        by_exchange (Err kind) h = tt
    reads_said (atomic_op.CompareAndSwap m expects new order) slot is = by_exchange (exchanges m (swap_of expects new order) slot (with_points raised w)) (exchanged m slot (swap_of expects new order))
      where
        if_equal : (b : Bool) (list : List ℕ) → b ≡ true → list ≡ cond b list []
        if_equal true list e = refl
        if_equal false list e = absurd (cc e)

        if_other : (b c : Bool) (list : List ℕ) → b ≡ false → [] ≡ cond c (cond b list []) []
        if_other true c list e = absurd (cc e)
        if_other false true list e = refl
        if_other false false list e = refl

        by_exchange : (r : Result (Result ℕ ℕ × World D) FailureKind) → Answers (Exchanged m (swap_of expects new order)) r → Answers (ReplyTo Waits Said) (r >>= tells_read)
        by_exchange (Ok (Ok read, v)) (atomic, (there, (test, (h, (same, z))))) = (
          stores_so (atomic_op.CompareAndSwap m expects new order) (reply.Value read) v m atomic (λ numbers. cond (read == fit numbers expects) (fit numbers new ∷ []) []) (ap expected same ∙ is) (λ numbers. refl) there
              (h ∙ ap (λ list. vs ++ cond (m == n) list []) (if_equal (read == fit atomic.numbers expects) (fit atomic.numbers new ∷ []) test)),
          z,
        )
        by_exchange (Ok (Err read, v)) (atomic, (there, (test, (h, (same, z))))) = (
          stores_so (atomic_op.CompareAndSwap m expects new order) (reply.Value read) v m atomic (λ numbers. cond (read == fit numbers expects) (fit numbers new ∷ []) []) (ap expected same ∙ is) (λ numbers. refl) there
              (h ∙ (sym (nothing_more vs) ∙ ap (λ list. vs ++ list) (if_other (read == fit atomic.numbers expects) (m == n) (fit atomic.numbers new ∷ []) test))),
          z,
        )
        by_exchange (Err kind) h = tt
    reads_said (atomic_op.New numbers value) slot is = tt
    reads_said (atomic_op.Store m value order) slot is = tt
    reads_said (atomic_op.UnsyncLoad m) slot is = tt
    reads_said (atomic_op.IntoInner m) slot is = tt
    reads_said (atomic_op.WithMut m) slot is = tt
    reads_said (atomic_op.WithMutEnd m value) slot is = tt

  opens_said : (m : ℕ) (reader : Reader) (access : AtomicOp) (w : World D) → expected w.active ≡ Some access → Idle w → SameAt w.points → Answers (ResumedTo Waits Said) (opens m reader access w)
  opens_said m reader access w is idle s =
      by_points (ResumedTo Waits Said) w (points_after_raise w.points w.active) _ (λ raised e. answers_then (ResumedTo Waits Said) (an_atomic m (with_points raised w)) _ (λ atomic.
      answers_then (ResumedTo Waits Said) (readable_slots_of raised w.active m reader) _ (λ readable. answers_then (ResumedTo Waits Said) (check (some_slot (slot_set readable)) Misuse) _ (λ u slot.
      reads_said w raised e idle s access slot is))))

  access_said : (access : AtomicOp) (w : World D) → expected w.active ≡ Some access → Idle w → SameAt w.points → Answers (ResumedTo Waits Said) (accesses access w)
  access_said (atomic_op.Store m value order) w is idle s = by_reply _ (store_said m value order w is idle s)
  access_said (atomic_op.Load m order) w is idle s = opens_said m (reader.Load order) (atomic_op.Load m order) w is idle s
  access_said (atomic_op.Update m change order) w is idle s = opens_said m reader.Update (atomic_op.Update m change order) w is idle s
  access_said (atomic_op.CompareExchange m exchange) w is idle s = opens_said m reader.Update (atomic_op.CompareExchange m exchange) w is idle s
  access_said (atomic_op.CompareAndSwap m expects new order) w is idle s = opens_said m reader.Update (atomic_op.CompareAndSwap m expects new order) w is idle s
  access_said (atomic_op.New numbers value) w is idle s = tt
  access_said (atomic_op.UnsyncLoad m) w is idle s = tt
  access_said (atomic_op.IntoInner m) w is idle s = tt
  access_said (atomic_op.WithMut m) w is idle s = tt
  access_said (atomic_op.WithMutEnd m value) w is idle s = tt

  -- ---- a thread is chosen

  by_task : (u : ℕ) (thread : Thread D) (w : World D) → slice_get w.threads u ≡ Some thread → Waits w → (todo : Task D) → thread.task ≡ todo → Answers (ResumedTo Waits Said) (takes_effect todo (ready_at u thread w))
  by_task u thread w e k (task.Access access) is =
      let here : access_at (slice_get w.threads u) ≡ Some access = ap access_at e ∙ ap access_in_task is in
      access_said access (ready_at u thread w) (sym (k.0 u) ∙ here) (set_body (map runs_again w.threads) u (record thread { task = task.Body }) refl) k.1
  by_task u thread w e k todo is = quiet_effect todo (ready_at u thread w) tt (is_quiet, sym (k.0 u) ∙ here) k.1
    where
      none : access_in_task thread.task ≡ None
      none = ap access_in_task is

      here : access_at (slice_get w.threads u) ≡ None
      here = ap access_at e ∙ none

      is_quiet : Pending (ready_at u thread w)
      is_quiet v =
          set_access (map runs_again w.threads) u v (runs_again thread) (record thread { task = task.Body }) (map_get runs_again w.threads u thread e) (sym none)
          ∙ (access_same _ _ (map_task runs_again v w.threads (λ other. refl)) ∙ k.0 v)

  chosen_said : (u : ℕ) (w : World D) → Waits w → Answers (ResumedTo Waits Said) (chosen u w)
  chosen_said u w k = by_thread (slice_get w.threads u) refl
    where
      by_thread : (o : Option (Thread D)) → slice_get w.threads u ≡ o → Answers (ResumedTo Waits Said) (chooses_of u w o >>= (λ taken. takes_effect taken.0 taken.1))
      by_thread None e = tt
      by_thread (Some thread) e = by_task u thread w e k thread.task refl

  end_said : (w : World D) → Waits w → Answers Said (end_of w)
  end_said w k = by_end (end_of w) (end_over w) (end_points D SameAt NoStore same_so w k.1)
    where
      by_end : (r : Result (Turn D × World D) FailureKind) → Answers IsOver r → Answers (λ answered. SameAt answered.1.points) r → Answers Said r
      by_end (Ok (turn.Ended value, v)) over s = nothing_stored (turn.Ended value) v s (λ numbers. refl)
      by_end (Ok (turn.Reply t told, v)) over s = absurd over
      by_end (Ok (turn.Start t, v)) over s = absurd over
      by_end (Err kind) over s = tt

  -- ---- the operation begins

  module _ (there : There c.world) (idle : Idle c.world) where
    own : (todo : Request D ⊤) → event.op ≡ todo → expected c.world.active ≡ access_in todo
    own todo is = cond_here c.world.active c.world.active (access_in event.op) (access_at (slice_get c.world.threads c.world.active)) refl ∙ ap access_in is

    others : (u : ℕ) → (u ≡ c.world.active → ⊥) → expected u ≡ access_at (slice_get c.world.threads u)
    others u off = cond_off u c.world.active (access_in event.op) (access_at (slice_get c.world.threads u)) off

    quiet_first : (todo : Request D ⊤) → event.op ≡ todo → access_in todo ≡ None → Quiet c.world
    quiet_first todo is none = ((λ u. by_number u (decided u c.world.active)), own todo is ∙ none)
      where
        by_number : (u : ℕ) → (u ≡ c.world.active) ⊎ (u ≡ c.world.active → ⊥) → access_at (slice_get c.world.threads u) ≡ expected u
        by_number u (inl same) = subst (λ i. access_at (slice_get c.world.threads i) ≡ expected i) (sym same) (idle ∙ sym (own todo is ∙ none))
        by_number u (inr off) = sym (others u off)

    waits_first : (access : AtomicOp) → event.op ≡ op.Atomic access → (u : ℕ) → access_at (slice_get (with_thread (pending (task.Access access) false) c.world.active c.world.threads) u) ≡ expected u
    waits_first access is u = by_number (decided u c.world.active)
      where
        by_number : (u ≡ c.world.active) ⊎ (u ≡ c.world.active → ⊥) → access_at (slice_get (with_thread (pending (task.Access access) false) c.world.active c.world.threads) u) ≡ expected u
        by_number (inl same) =
            let at : access_at (slice_get (with_thread (pending (task.Access access) false) c.world.active c.world.threads) c.world.active) ≡ Some access =
            of_task _ access (here_task (task.Access access) false c.world.threads c.world.active there) in
            subst (λ i. access_at (slice_get (with_thread (pending (task.Access access) false) c.world.active c.world.threads) i) ≡ expected i) (sym same) (at ∙ sym (own (op.Atomic access) is))
          where
            of_task : (o : Option (Thread D)) (access : AtomicOp) → task_at o ≡ Some (task.Access access) → access_at o ≡ Some access
            of_task None access e = absurd (cc e)
            of_task (Some thread) access e = let f : thread.task ≡ task.Access access = cc e in ap access_in_task f
        by_number (inr off) =
            access_same _ _ (off_task (pending (task.Access access) false) c.world.active u c.world.threads (λ e. off (sym e))) ∙ sym (others u off)

    abbrev fewer : World D
    fewer = record c.world { steps_left = c.world.steps_left - 1 }

    access_first : (access : AtomicOp) (m : ℕ) → event.op ≡ op.Atomic access → Answers (EnteredTo Waits Said) (an_atomic m fewer >>= (λ atomic. Ok (entry.AtBranch, record fewer { threads = with_thread (pending (task.Access access) false) c.world.active c.world.threads })))
    access_first access m is = answers_then (EnteredTo Waits Said) (an_atomic m fewer) _ (λ atomic. (waits_first access is, refl))

    at_once : (access : AtomicOp) (told : Reply D) (v : World D) → event.op ≡ op.Atomic access → ((numbers : Numbers) → stored_by numbers n access told ≡ []) → v.active ≡ c.world.active → SameAt v.points
        → Stores (turn.Reply v.active told) v
    at_once access told v is none same s = stores_none access told v (ap expected same ∙ own (op.Atomic access) is) none s

    atomic_first : (todo : AtomicOp) → event.op ≡ op.Atomic todo → puts_value event.op ≡ false → Answers (EnteredTo Waits Said) (op_begins (op.Atomic todo) fewer)
    atomic_first (atomic_op.New numbers value) is h = let f = subst (λ (o : Request D ⊤). puts_value o ≡ false) is h in absurd (cc f)
    atomic_first (atomic_op.WithMutEnd m value) is h = let f = subst (λ (o : Request D ⊤). puts_value o ≡ false) is h in absurd (cc f)
    atomic_first (atomic_op.Load m order) is h = access_first (atomic_op.Load m order) m is
    atomic_first (atomic_op.Store m value order) is h = access_first (atomic_op.Store m value order) m is
    atomic_first (atomic_op.Update m change order) is h = access_first (atomic_op.Update m change order) m is
    atomic_first (atomic_op.CompareExchange m exchange) is h = access_first (atomic_op.CompareExchange m exchange) m is
    atomic_first (atomic_op.CompareAndSwap m expects new order) is h = access_first (atomic_op.CompareAndSwap m expects new order) m is
    atomic_first (atomic_op.UnsyncLoad m) is h =
        answers_then (EnteredTo Waits Said) (an_atomic m fewer) _ (λ atomic. answered (EnteredTo Waits Said) (points_after_unsync_load c.world.points c.world.active m) _ (λ read e.
        (at_once (atomic_op.UnsyncLoad m) (reply.Value read.value) (with_points read.points fewer) is (λ numbers. refl) refl (unsync_load_values c.world.points c.world.active m n read e), idle)))
    atomic_first (atomic_op.IntoInner m) is h =
        answers_then (EnteredTo Waits Said) (an_atomic m fewer) _ (λ atomic. answered (EnteredTo Waits Said) (points_after_unsync_load c.world.points c.world.active m) _ (λ read e.
        (at_once (atomic_op.IntoInner m) (reply.Value read.value) (with_points read.points (with_atomic m (record atomic { is_taken = true }) fewer)) is (λ numbers. refl) refl (unsync_load_values c.world.points c.world.active m n read e), idle)))
    atomic_first (atomic_op.WithMut m) is h =
        answers_then (EnteredTo Waits Said) (an_atomic m fewer) _ (λ atomic. answered (EnteredTo Waits Said) (points_after_with_mut c.world.points c.world.active m) _ (λ read e.
        (at_once (atomic_op.WithMut m) (reply.Value read.value) (with_points read.points (with_atomic m (record atomic { opened = Some c.world.active }) fewer)) is (λ numbers. refl) refl (with_mut_values c.world.points c.world.active m n read e), idle)))

    quiet_begins : (todo : Request D ⊤) → event.op ≡ todo → access_in todo ≡ None → MayBegin D SameAt NoStore same_so todo → Answers (EnteredTo Waits Said) (counted todo c.world)
    quiet_begins todo is none may =
        both_entries (counted todo c.world)
        (counted_on Quiet quiet_by_threads todo c.world (λ asked v e h. let some : access_in todo ≡ Some asked = ap access_in e in absurd (cc (some, none))) (quiet_first todo is none))
        (answers_then (λ answered. SameAt answered.1.points) (check (nat_lt 0 c.world.steps_left) TooManySteps) _ (λ u. begins_points D SameAt NoStore same_so todo fewer may refl))

    first_said : (todo : Request D ⊤) → event.op ≡ todo → puts_value event.op ≡ false → Answers (EnteredTo Waits Said) (counted todo c.world)
    first_said (op.Atomic todo) is h = answers_then (EnteredTo Waits Said) (check (nat_lt 0 c.world.steps_left) TooManySteps) _ (λ u. atomic_first todo is h)
    first_said todo is h = quiet_begins todo is refl tt

    pub event_said : puts_value event.op ≡ false → Keeps (InWorld Said) (submit event.op c)
    event_said h = event_kept Waits Said chosen_said end_said event.op c (first_said event.op refl h)

  stores_of : (given : Turn D) (w : World D) → Said (given, w) → Stores given w
  stores_of (turn.Reply t told) w k = k.0
  stores_of (turn.Start t) w k = k.0
  stores_of (turn.Ended value) w k = k

  idle_of : (given : Turn D) (w : World D) → IsThreads given → Said (given, w) → Idle w
  idle_of (turn.Reply t told) w threads k = k.1
  idle_of (turn.Start t) w threads k = k.1
  idle_of (turn.Ended value) w threads k = absurd threads

-- ---- histories

module _ {D : Type 0} where
  -- the active thread is about to access nothing
  abbrev pub Rests : World D → Type 0
  Rests w = access_at (slice_get w.threads w.active) ≡ None

  abbrev pub Nowhere : World D → Type 0
  Nowhere w = ⊥

  -- where an atomic is made, or a mutation ends, threads stay as they are
  puts_rests : (todo : Request D ⊤) (c : Course D) → puts_value todo ≡ true → Rests c.world → Keeps (InWorld (Within {A = Turn D} Rests)) (submit todo c)
  puts_rests (op.Atomic (atomic_op.New numbers value)) c h k =
      event_kept Nowhere (Within {A = Turn D} Rests) (λ t w no. absurd no) (λ w no. absurd no) (op.Atomic (atomic_op.New numbers value)) c
      (answers_then (EnteredTo Nowhere (Within {A = Turn D} Rests)) (check (nat_lt 0 c.world.steps_left) TooManySteps) _ (λ u. k))
  puts_rests (op.Atomic (atomic_op.WithMutEnd m value)) c h k =
      let fewer : World D = record c.world { steps_left = c.world.steps_left - 1 } in
      let Q : Entry D × World D → Type 0 = EnteredTo Nowhere (Within {A = Turn D} Rests) in
      event_kept Nowhere (Within {A = Turn D} Rests) (λ t w no. absurd no) (λ w no. absurd no) (op.Atomic (atomic_op.WithMutEnd m value)) c
      (answers_then Q (check (nat_lt 0 c.world.steps_left) TooManySteps) _ (λ u. answers_then Q (an_atomic m fewer) _ (λ atomic. answers_then Q (check (is_number atomic.opened c.world.active) Misuse) _ (λ v.
      answers_then Q (points_after_with_mut_end c.world.points c.world.active m (fit atomic.numbers value)) _ (λ stored. k)))))
  puts_rests todo c h k = absurd (cc h)

  under_reached : (max_threads max_steps : ℕ) (c : Course D) → IsUnderWay max_threads max_steps c → IsReached max_threads max_steps c
  under_reached max_threads max_steps c (at_start explores) = at_first explores
  under_reached max_threads max_steps c (by_turn old event v under happens threads) = later old event v (under_reached max_threads max_steps old under) happens

  event_stores : (n : ℕ) (c v : Course D) (event : Event D) → There c.world → Rests c.world → puts_value event.op ≡ false → Happens c event v → Said n c event (event.turn, v.world)
  event_stores n c v event there rests h happens = kept_value (submit event.op c) event.choices (event.turn, v) (event_said n c event there rests h) happens

  under_rests : (max_threads max_steps : ℕ) (c : Course D) → IsUnderWay max_threads max_steps c → Rests c.world
  under_rests max_threads max_steps c (at_start explores) = refl
  under_rests max_threads max_steps c (by_turn old event v under happens threads) = by_kind (under_rests max_threads max_steps old under) (puts_value event.op) refl
    where
      there : There old.world
      there = reached_there max_threads max_steps old (under_reached max_threads max_steps old under)

      by_kind : Rests old.world → (b : Bool) → puts_value event.op ≡ b → Rests v.world
      by_kind rests true h = kept_value (submit event.op old) event.choices (event.turn, v) (puts_rests event.op old h rests) happens
      by_kind rests false h = idle_of 0 old event event.turn v.world threads (event_stores 0 old v event there rests h happens)

pub stores_law : {D : Type 0} → StoresLaw D
stores_law max_threads max_steps n c v event atomic under happens h beside =
    let there : There c.world = reached_there max_threads max_steps c (under_reached max_threads max_steps c under) in
    stores_of n c event event.turn v.world (event_stores n c v event there (under_rests max_threads max_steps c under) h happens) atomic beside

-- ---- the end of a mutation

module _ {D : Type 0} (m n value : ℕ) (c : Course D) where
  abbrev pub Ends : Turn D × World D → Type 0
  Ends answered =
      (atomic : Atomic) → slice_get answered.1.objects m ≡ Some (object.Atomic atomic)
      → values_of (slice_get answered.1.points.places n) ≡ cond (m == n) (with_last (fit atomic.numbers value) (values_of (slice_get c.world.points.places n))) (values_of (slice_get c.world.points.places n))

  mutation_ends : Keeps (InWorld Ends) (submit (op.Atomic (atomic_op.WithMutEnd m value)) c)
  mutation_ends =
      let fewer : World D = record c.world { steps_left = c.world.steps_left - 1 } in
      let Q : Entry D × World D → Type 0 = EnteredTo Nowhere Ends in
      event_kept Nowhere Ends (λ t w no. absurd no) (λ w no. absurd no) (op.Atomic (atomic_op.WithMutEnd m value)) c
      (answers_then Q (check (nat_lt 0 c.world.steps_left) TooManySteps) _ (λ u. answered Q (an_atomic m fewer) _ (λ atomic f. answers_then Q (check (is_number atomic.opened c.world.active) Misuse) _ (λ v.
      answered Q (points_after_with_mut_end c.world.points c.world.active m (fit atomic.numbers value)) _ (λ stored g other beside.
      let left : Atomic = record atomic { opened = None } in
      let there : slice_get (slice_set c.world.objects m (object.Atomic left)) m ≡ Some (object.Atomic left) = set_there c.world.objects m (object.Atomic left) (object.Atomic atomic) (atomic_there m fewer atomic f) in
      let is : left ≡ other = cc (there, beside) in
      subst (λ numbers. values_of (slice_get stored.points.places n)
      ≡ cond (m == n) (with_last (fit numbers value) (values_of (slice_get c.world.points.places n))) (values_of (slice_get c.world.points.places n))) (ap (λ (a : Atomic). a.numbers) is)
      (with_mut_end_values c.world.points c.world.active m n (fit atomic.numbers value) stored g))))))

pub mutation_law : {D : Type 0} → MutationLaw D
mutation_law max_threads max_steps m n value c v event atomic reached happens is_op there =
    kept_value (submit (op.Atomic (atomic_op.WithMutEnd m value)) c) event.choices (event.turn, v) (mutation_ends m n value c)
    (subst (λ o. ComesBy (submit o c) event.choices (event.turn, v)) is_op happens) atomic there
