-- A load gets the value of one of the last seven stores of its atomic.
use Rattle.std.proofs.Common.{◌≡◌, ◌⊎◌, ℕ, zero, suc, Bool, true, false, List, [], ◌∷◌, ◌++◌, map, length, Option, Some, None, refl, ap, sym, subst, ◌∙◌, inl, inr, arith}
use Rattle.std.proofs.lemmas.Option.{slice_get_within}
use Rattle.std.specs.Prelude.{if◌then◌else◌, is_some, nat_lt, slice_get, slice_index_or, slice_set, Result, Ok, Err, ⊤}
use Rattle.std.specs.List.{list_any}
use Rattle.std.specs.declared.sync.atomic.Ordering.{Ordering}
use Rattle.loom_views.specs.AccessRecords.{races}
use Rattle.loom_views.specs.Atomic.History.{Answer, History, Scene, blank, conflicts, in_slot, load_step, scene_loaded, scene_read, scene_recorded_load}
use Rattle.loom_views.specs.Atomic.Slots.{slot_set}
use Rattle.loom_views.specs.Laws.Views.{ReadsOneOfTheLast}
use Rattle.loom_views.specs.ThreadViews.{ThreadPoints}
use Rattle.loom_views.specs.Views.{Accessed, Keeps, Meets, Place, Points, Records, access_by, accessed, points_after_load, points_after_raise, points_of, readable_slots_of, scene_of}
use Rattle.loom_views.specs.declared.rt.atomic.reader.Reader.TheVariants as reader
use Rattle.loom_views.specs.declared.rt.failure.FailureKind.{FailureKind}
use Rattle.loom_views.specs.declared.rt.failure.FailureKind.TheVariants.{Misuse, OpenAccess, Race, TooManySteps}
use Rattle.loom_views.proofs.Atomic.Growth.{read-length, read-value}
use Rattle.loom_views.proofs.Atomic.Table.Kept.{offered_slots_are_kept_law}
use Rattle.loom_views.proofs.Atomic.Table.Lists.{get-set_other, get-set_same}
use Rattle.loom_views.proofs.Atomic.TableLaws.Offered.{loads_read_kept_stores_law}
use Rattle.loom_objects.specs.declared.operation.AtomicOp.TheVariants as atomic_op
use Rattle.loom_objects.specs.declared.operation.Reply.{Reply}
use Rattle.loom_objects.specs.declared.operation.Reply.TheVariants as reply
use Rattle.loom_objects.specs.declared.operation.Request.{Request}
use Rattle.loom_objects.specs.declared.operation.Request.TheVariants as op
use Rattle.loom_objects.specs.declared.operation.Turn.{Turn}
use Rattle.loom_objects.specs.declared.operation.Turn.TheVariants as turn
use Rattle.loom_objects.specs.declared.rt.run.Entry.{Entry}
use Rattle.loom_objects.specs.declared.rt.run.Entry.TheVariants as entry
use Rattle.loom_objects.specs.declared.rt.run.Passed.TheVariants as passed
use Rattle.loom_objects.specs.declared.rt.run.Resumed.{Resumed}
use Rattle.loom_objects.specs.declared.rt.run.Resumed.TheVariants as resumed
use Rattle.loom_objects.specs.declared.rt.thread.Task.{Task}
use Rattle.loom_objects.specs.declared.rt.thread.Task.TheVariants as task
use Rattle.loom_objects.specs.declared.rt.thread.Thread.{Thread}
use Rattle.loom_objects.specs.Rules.Atomic.{opens, reads, some_slot}
use Rattle.loom_objects.specs.Rules.Ending.{end_of}
use Rattle.loom_objects.specs.Rules.Leaks.{check_leak, first_leak}
use Rattle.loom_objects.specs.Rules.Moves.{an_atomic, changed_at, pending, takes_result, with_points, with_thread}
use Rattle.loom_objects.specs.Rules.Notify.{enters_wait as entered}
use Rattle.loom_objects.specs.Rules.Rule.{◌>>=◌, check, found}
use Rattle.loom_objects.specs.Rules.Tables.{chosen, counted, takes_effect}
use Rattle.loom_objects.specs.Schedule.Offers.{runs_again}
use Rattle.loom_objects.specs.World.{World}
use Rattle.loom_engine.specs.Runs.Course.{Course}
use Rattle.loom_engine.specs.Runs.Histories.{ComesBy, Event, IsReached, at_first, later}
use Rattle.loom_engine.specs.Runs.Loads.{AreOptions, Follows, IsOthers, IsTold, LoadLaw, afterwards, at_last}
use Rattle.loom_engine.specs.Runs.Machine.{submit}
use Rattle.loom_engine.proofs.Runs.Answering.{Answers, TellsActive, answers_then}
use Rattle.loom_engine.proofs.Runs.Carrying.{InWorld}
use Rattle.loom_engine.proofs.Runs.Keeping.{Keeps as KeepsAll, kept_value}
use Rattle.loom_engine.proofs.Runs.Kinds.{effect_tells}
use Rattle.loom_engine.proofs.Runs.Lifting.{EnteredTo, ReplyTo, ResumedTo, event_kept}
use Rattle.loom_engine.proofs.Runs.Moving.{Within, enters_wait_moves, reads_moves}
use Rattle.loom_engine.proofs.Runs.Offered.{AnyWay, Offers, ResumedBy, event_offers, offered_value}
use Rattle.loom_engine.proofs.Runs.Pointing.{answered, by_points}
use Rattle.loom_engine.proofs.Runs.Queues.{decided, map_there, more_there, set_stays, with_there}
use Rattle.loom_engine.proofs.Runs.Threading.{KeptByThreads, counted_on, effect_on, end_on}

-- ---- a load leaves the values of stores as they are

-- an access whose tests pass leads where it is to lead
passed_points : (s : Scene) (kinds : List (List ℕ)) (passed : Answer) (p : Points) (t n : ℕ) (after : Accessed) → accessed p t n (conflicts s kinds (Ok passed)) ≡ Ok after → after.points ≡ points_of p t n passed.scene
passed_points s kinds passed p t n after = tested s.history.mutating (list_any (λ points. races s.graph points s.thread.present) kinds)
  where
    tested : (a b : Bool) → accessed p t n (if a then Err OpenAccess else (if b then Err Race else Ok passed)) ≡ Ok after → after.points ≡ points_of p t n passed.scene
    tested true b e = absurd (cc e)
    tested false true e = absurd (cc e)
    tested false false e = let same : record { points = points_of p t n passed.scene; value = passed.value } ≡ after = cc e in ap (λ (a : Accessed). a.points) (sym same)

load_stays : (p : Points) (t n slot value : ℕ) (order : Ordering) (after : Accessed) → points_after_load p t n slot order ≡ Ok after → ReadsOneOfTheLast (slice_get p.places n) value
    → ReadsOneOfTheLast (slice_get after.points.places n) value
load_stays p t n slot value order after = go (slice_get p.threads t) (slice_get p.places n) refl
  where
    go : (o : Option ThreadPoints) (q : Option Place) → slice_get p.places n ≡ q → access_by p t n (λ s. load_step t s slot order) o q ≡ Ok after → ReadsOneOfTheLast q value
        → ReadsOneOfTheLast (slice_get after.points.places n) value
    go None q there e r = absurd (cc e)
    go (Some own) None there e r = absurd (cc e)
    go (Some own) (Some (Meets k)) there e r = absurd (cc e)
    go (Some own) (Some (Records cell)) there e r = absurd (cc e)
    go (Some own) (Some (Keeps history)) there e r =
        let s : Scene = scene_of p own history in
        let scene : Scene = scene_loaded (scene_read t (scene_recorded_load s) slot) (in_slot history.stores slot).sync order in
        let to : after.points ≡ points_of p t n scene = passed_points s (history.mutations ∷ []) _ p t n after e in
        let same : history ≡ r.history = cc (r.is) in
        let many : length scene.history.stores ≡ length r.history.stores = read-length t (scene_recorded_load s) slot ∙ ap (λ (h : History). length h.stores) same in
        let valued : (slice_index_or scene.history.stores r.number blank).value ≡ (slice_index_or history.stores r.number blank).value = read-value t (scene_recorded_load s) slot r.number in
        let were : (slice_index_or history.stores r.number blank).value ≡ value = subst (λ (h : History). (slice_index_or h.stores r.number blank).value ≡ value) (sym same) r.value in
        let made = r.made in let late = r.late in
        record {
          history = scene.history;
          number = r.number;
          is = ap (λ (q : Points). slice_get q.places n) to ∙ get-set_same p.places n (Keeps scene.history) (slice_get_within p.places n (Keeps history) there);
          made = omega arith;
          late = omega arith;
          value = valued ∙ were;
        }

-- ---- rules

pub answers_so : {A : Type 0} (P Q : A → Type 0) (r : Result A FailureKind) → ((a : A) → P a → Q a) → Answers P r → Answers Q r
answers_so P Q (Ok a) h s = h a s
answers_so P Q (Err kind) h s = tt

module _ {D : Type 0} where
  -- what thread t has pending, if it is there
  abbrev pub task_at : Option (Thread D) → Option (Task D)
  task_at None = None
  task_at (Some thread) = Some thread.task

  pub set_task : (threads : List (Thread D)) (u t : ℕ) (before after : Thread D) → slice_get threads u ≡ Some before → after.task ≡ before.task
      → task_at (slice_get (slice_set threads u after) t) ≡ task_at (slice_get threads t)
  set_task [] u t before after e same = refl
  set_task (x ∷ threads) zero zero before after e same = let is : before ≡ x = cc e in ap Some (same ∙ ap (λ (thread : Thread D). thread.task) is)
  set_task (x ∷ threads) zero (suc t) before after e same = refl
  set_task (x ∷ threads) (suc u) zero before after e same = refl
  set_task (x ∷ threads) (suc u) (suc t) before after e same = set_task threads u t before after e same

  pub with_task : (change : Thread D → Thread D) (u t : ℕ) (threads : List (Thread D)) → ((thread : Thread D) → (change thread).task ≡ thread.task)
      → task_at (slice_get (with_thread change u threads) t) ≡ task_at (slice_get threads t)
  with_task change u t threads same = by_thread (slice_get threads u) refl
    where
      by_thread : (o : Option (Thread D)) → slice_get threads u ≡ o → task_at (slice_get (changed_at change u o threads) t) ≡ task_at (slice_get threads t)
      by_thread None e = refl
      by_thread (Some thread) e = set_task threads u t thread (change thread) e (same thread)

  pub off_task : (change : Thread D → Thread D) (u t : ℕ) (threads : List (Thread D)) → (u ≡ t → ⊥) → task_at (slice_get (with_thread change u threads) t) ≡ task_at (slice_get threads t)
  off_task change u t threads off = by_thread (slice_get threads u)
    where
      by_thread : (o : Option (Thread D)) → task_at (slice_get (changed_at change u o threads) t) ≡ task_at (slice_get threads t)
      by_thread None = refl
      by_thread (Some thread) = ap task_at (get-set_other threads u t (change thread) (λ e. off (sym e)))

  pub map_task : (change : Thread D → Thread D) (t : ℕ) (threads : List (Thread D)) → ((thread : Thread D) → (change thread).task ≡ thread.task)
      → task_at (slice_get (map change threads) t) ≡ task_at (slice_get threads t)
  map_task change t [] same = refl
  map_task change zero (x ∷ threads) same = ap Some (same x)
  map_task change (suc t) (x ∷ threads) same = map_task change t threads same

  more_task : (threads : List (Thread D)) (child : Thread D) (t : ℕ) (mine : Task D) → task_at (slice_get threads t) ≡ Some mine → task_at (slice_get (threads ++ child ∷ []) t) ≡ Some mine
  more_task [] child t mine e = absurd (cc e)
  more_task (x ∷ threads) child zero mine e = e
  more_task (x ∷ threads) child (suc t) mine e = more_task threads child t mine e

  -- a thread that is there and reaches a branch point has that pending
  pub here_task : (todo : Task D) (is_blocked : Bool) (threads : List (Thread D)) (a : ℕ) → is_some (slice_get threads a) ≡ true → task_at (slice_get (with_thread (pending todo is_blocked) a threads) a) ≡ Some todo
  here_task todo is_blocked [] a e = absurd (cc e)
  here_task todo is_blocked (x ∷ threads) zero e = refl
  here_task todo is_blocked (x ∷ threads) (suc a) e = on_rest (slice_get threads a) (here_task todo is_blocked threads a e)
    where
      on_rest : (o : Option (Thread D)) → task_at (slice_get (changed_at (pending todo is_blocked) a o threads) a) ≡ Some todo
          → task_at (slice_get (changed_at (pending todo is_blocked) (suc a) o (x ∷ threads)) (suc a)) ≡ Some todo
      on_rest None h = h
      on_rest (Some thread) h = h

  -- ---- the active thread is there

  abbrev pub There : World D → Type 0
  There w = is_some (slice_get w.threads w.active) ≡ true

  there_by_threads : KeptByThreads There
  there_by_threads = record {
    moves = record {
      points = λ p w s. s;
      yields = λ yields w s. s;
      object = λ n x w there away s. s;
      made = λ x w away s. s;
      changed = λ change t w same s. with_there change t w.active w.threads s;
      turned = λ change w idle s. with_there change w.active w.active w.threads s;
      each = λ change w same s. map_there change w.threads w.active s;
      child = λ thread w h idle s. more_there w.threads thread w.active s;
    };
    active = λ change w same s. with_there change w.active w.active w.threads s;
    pending = λ todo is_blocked w none s. with_there (pending todo is_blocked) w.active w.active w.threads s;
    object = λ n x w s. s;
    made = λ x w s. s;
    lazies = λ lazies w s. s;
    steps = λ left w s. s;
  }

  there_reply : (r : Result (Reply D × World D) FailureKind) → Answers (Within There) r → Answers (ReplyTo There (Within There)) r
  there_reply (Ok (reply, v)) h = h
  there_reply (Err kind) h = tt

  there_entry : (r : Result (Entry D × World D) FailureKind) → Answers (Within There) r → Answers (EnteredTo There (Within There)) r
  there_entry (Ok (entry.Answered reply, v)) h = h
  there_entry (Ok (entry.AtBranch, v)) h = h
  there_entry (Ok (entry.Spurious n, v)) h = λ is_spurious. enters_wait_moves There there_by_threads.moves is_spurious n v h
  there_entry (Ok (entry.Explores todo, v)) h = h
  there_entry (Err kind) h = tt

  there_resumed : (r : Result (Resumed D × World D) FailureKind) → Answers (Within There) r → Answers (ResumedTo There (Within There)) r
  there_resumed (Ok (resumed.Passed (passed.Turn turn), v)) h = h
  there_resumed (Ok (resumed.Passed passed.AtBranch, v)) h = h
  there_resumed (Ok (resumed.Load load, v)) h = λ slot. there_reply (reads load.access v slot) (reads_moves There there_by_threads.moves load.access v slot h)
  there_resumed (Err kind) h = tt

  -- the state in which a thread that is chosen has its turn
  abbrev pub ready_at : ℕ → Thread D → World D → World D
  ready_at u thread w = record w { threads = slice_set (map runs_again w.threads) u (record thread { task = task.Body }); active = u }

  abbrev pub chooses_of : ℕ → World D → Option (Thread D) → Result (Task D × World D) FailureKind
  chooses_of u w o = found o Misuse >>= (λ thread. Ok (thread.task, ready_at u thread w))

  there_chosen : (u : ℕ) (w : World D) → There w → Answers (ResumedTo There (Within There)) (chosen u w)
  there_chosen u w s = by_thread (slice_get w.threads u) refl
    where
      by_thread : (o : Option (Thread D)) → slice_get w.threads u ≡ o
          → Answers (ResumedTo There (Within There)) (chooses_of u w o >>= (λ taken. takes_effect taken.0 taken.1))
      by_thread None e = tt
      by_thread (Some thread) e =
          let old : is_some (slice_get w.threads u) ≡ true = subst (λ o. is_some o ≡ true) (sym e) refl in
          there_resumed (takes_effect thread.task (ready_at u thread w)) (effect_on There there_by_threads thread.task (ready_at u thread w)
          (set_stays (map runs_again w.threads) u u (record thread { task = task.Body }) (map_there runs_again w.threads u old)))

  there_event : (todo : Request D ⊤) (c : Course D) → There c.world → KeepsAll (InWorld (Within There)) (submit todo c)
  there_event todo c s =
      event_kept There (Within There) there_chosen (λ w h. end_on There there_by_threads w h) todo c (there_entry (counted todo c.world) (counted_on There there_by_threads todo c.world (λ asked v e h. with_there (pending (task.Access asked) false) v.active v.active v.threads h) s))

  pub reached_there : (max_threads max_steps : ℕ) (c : Course D) → IsReached max_threads max_steps c → There c.world
  reached_there max_threads max_steps c (at_first explores) = refl
  reached_there max_threads max_steps c (later old event v reached happens) =
      kept_value (submit event.op old) event.choices (event.turn, v) (there_event event.op old (reached_there max_threads max_steps old reached)) happens

-- ---- what thread t has pending, while others have their turns

module _ {D : Type 0} (t n : ℕ) (order : Ordering) where
  abbrev pub Pending : World D → Type 0
  Pending w = task_at (slice_get w.threads t) ≡ Some (task.Access (atomic_op.Load n order))

  abbrev pub Apart : World D → Type 0
  Apart w = (w.active ≡ t → ⊥) × Pending w

  apart_by_threads : KeptByThreads Apart
  apart_by_threads = record {
    moves = record {
      points = λ p w s. s;
      yields = λ yields w s. s;
      object = λ m x w there away s. s;
      made = λ x w away s. s;
      changed = λ change u w same s. (s.0, with_task change u t w.threads (λ thread. (same thread).same) ∙ s.1);
      turned = λ change w idle s. (s.0, off_task change w.active t w.threads s.0 ∙ s.1);
      each = λ change w same s. (s.0, map_task change t w.threads (λ thread. (same thread).same) ∙ s.1);
      child = λ thread w h idle s. (s.0, more_task w.threads thread t (task.Access (atomic_op.Load n order)) s.1);
    };
    active = λ change w same s. (s.0, off_task change w.active t w.threads s.0 ∙ s.1);
    pending = λ todo is_blocked w none s. (s.0, off_task (pending todo is_blocked) w.active t w.threads s.0 ∙ s.1);
    object = λ m x w s. s;
    made = λ x w s. s;
    lazies = λ lazies w s. s;
    steps = λ left w s. s;
  }

  -- what holds where this is thread t's reply
  abbrev pub Claim : Reply D → World D → Type 0
  Claim told w = (value : ℕ) → told ≡ reply.Value value → ReadsOneOfTheLast (slice_get w.points.places n) value

  -- thread t has its turn, or it waits on
  abbrev pub Said : Turn D × World D → Type 0
  Said (turn.Reply u told, w) = (u ≡ t → Claim told w) × ((u ≡ t → ⊥) → Apart w)
  Said (turn.Start u, w) = (u ≡ t → ⊥) → Apart w
  Said (turn.Ended value, w) = Unit {0}

  apart_said : (told : Reply D) (w : World D) → Apart w → Said (turn.Reply w.active told, w)
  apart_said told w s = (λ e. absurd (s.0 e), λ off. s)

  apart_reply : (r : Result (Reply D × World D) FailureKind) → Answers (Within Apart) r → Answers (ReplyTo Pending Said) r
  apart_reply (Ok (told, v)) h = apart_said told v h
  apart_reply (Err kind) h = tt

  apart_entry : (r : Result (Entry D × World D) FailureKind) → Answers (Within Apart) r → Answers (EnteredTo Pending Said) r
  apart_entry (Ok (entry.Answered told, v)) h = apart_said told v h
  apart_entry (Ok (entry.AtBranch, v)) h = h.1
  apart_entry (Ok (entry.Spurious m, v)) h =
      λ is_spurious. answers_so (Within {A = ⊤} Apart) (λ after. Pending after.1) (entered is_spurious m v) (λ after s. s.1) (enters_wait_moves Apart apart_by_threads.moves is_spurious m v h)
  apart_entry (Ok (entry.Explores todo, v)) h = apart_said reply.Done v h
  apart_entry (Err kind) h = tt

  apart_resumed : (r : Result (Resumed D × World D) FailureKind) → Answers TellsActive r → Answers (Within Apart) r → Answers (ResumedBy Pending Said) r
  apart_resumed (Ok (resumed.Passed (passed.Turn (turn.Reply u told)), v)) tells h = (λ e. absurd (h.0 (sym tells ∙ e)), λ off. h)
  apart_resumed (Ok (resumed.Passed (passed.Turn (turn.Start u)), v)) tells h = λ off. h
  apart_resumed (Ok (resumed.Passed (passed.Turn (turn.Ended value)), v)) tells h = tt
  apart_resumed (Ok (resumed.Passed passed.AtBranch, v)) tells h = h.1
  apart_resumed (Ok (resumed.Load load, v)) tells h = λ slot may. apart_reply (reads load.access v slot) (reads_moves Apart apart_by_threads.moves load.access v slot h)
  apart_resumed (Err kind) tells h = tt

  -- the thread's load takes effect
  load_told : (w : World D) → w.active ≡ t → Answers (ResumedBy Pending Said) (opens n (reader.Load order) (atomic_op.Load n order) w)
  load_told w is_active =
      let Q : Resumed D × World D → Type 0 = ResumedBy Pending Said in
      by_points Q w (points_after_raise w.points w.active) _ (λ raised e. answers_then Q (an_atomic n (with_points raised w)) _ (λ atomic.
      answered Q (readable_slots_of raised w.active n (reader.Load order)) _ (λ readable f. answers_then Q (check (some_slot (slot_set readable)) Misuse) _ (λ u slot may.
      answered (ReplyTo Pending Said) (points_after_load raised w.active n slot order) _ (λ loaded g. (
        λ own value is.
            let same : loaded.value ≡ value = cc is in
            let kept = offered_slots_are_kept_law raised w.active n (reader.Load order) readable slot f may in
            subst (λ x. ReadsOneOfTheLast (slice_get loaded.points.places n) x) same
            (load_stays raised w.active n slot loaded.value order loaded g (loads_read_kept_stores_law raised w.active n slot order loaded g kept)),
        λ off. absurd (off is_active),
      ))))))

  load_chosen : (u : ℕ) (w : World D) → Pending w → Answers (ResumedBy Pending Said) (chosen u w)
  load_chosen u w k = by_thread (slice_get w.threads u) refl (decided u t)
    where
      by_thread : (o : Option (Thread D)) → slice_get w.threads u ≡ o → (u ≡ t) ⊎ (u ≡ t → ⊥)
          → Answers (ResumedBy Pending Said) (chooses_of u w o >>= (λ taken. takes_effect taken.0 taken.1))
      by_thread None e d = tt
      by_thread (Some thread) e (inl same) =
          let f : task_at (slice_get w.threads u) ≡ Some (task.Access (atomic_op.Load n order)) =
          subst (λ i. task_at (slice_get w.threads i) ≡ Some (task.Access (atomic_op.Load n order))) (sym same) k in
          let g : task_at (Some thread) ≡ Some (task.Access (atomic_op.Load n order)) = subst (λ o. task_at o ≡ Some (task.Access (atomic_op.Load n order))) e f in
          let is : thread.task ≡ task.Access (atomic_op.Load n order) = cc g in
          subst (λ todo. Answers (ResumedBy Pending Said) (takes_effect todo (ready_at u thread w))) (sym is) (load_told (ready_at u thread w) same)
      by_thread (Some thread) e (inr off) =
          let body : Thread D = record thread { task = task.Body } in
          let still : Pending (ready_at u thread w) = ap task_at (get-set_other (map runs_again w.threads) u t body (λ f. off (sym f))) ∙ (map_task runs_again t w.threads (λ other. refl) ∙ k) in
          apart_resumed (takes_effect thread.task (ready_at u thread w)) (effect_tells thread.task (ready_at u thread w))
          (effect_on Apart apart_by_threads thread.task (ready_at u thread w) (off, still))

  load_ends : (w : World D) → Pending w → Answers Said (end_of w)
  load_ends w k = answers_then Said (check_leak (first_leak w.objects)) _ (λ u. answers_then Said (takes_result 0 w) _ (λ taken. tt))

  -- an event of another thread, and the one that begins the load
  other_event : (todo : Request D ⊤) (c : Course D) → Apart c.world → Offers AnyWay (λ last. InWorld Said) None (submit todo c)
  other_event todo c s = event_offers Pending Said load_chosen load_ends todo c (apart_entry (counted todo c.world) (counted_on Apart apart_by_threads todo c.world (λ asked v e h. (h.0, off_task (pending (task.Access asked) false) v.active t v.threads h.0 ∙ h.1)) s))

  load_event : (c : Course D) → There c.world → c.world.active ≡ t → Offers AnyWay (λ last. InWorld Said) None (submit (op.Atomic (atomic_op.Load n order)) c)
  load_event c there is_active =
      event_offers Pending Said load_chosen load_ends (op.Atomic (atomic_op.Load n order)) c
      (answers_then (EnteredTo Pending Said) (check (nat_lt 0 c.world.steps_left) TooManySteps) _ (λ u. answers_then (EnteredTo Pending Said) (an_atomic n c.world) _ (λ atomic.
      subst (λ i. task_at (slice_get (with_thread (pending (task.Access (atomic_op.Load n order)) false) c.world.active c.world.threads) i) ≡ Some (task.Access (atomic_op.Load n order))) is_active
      (here_task (task.Access (atomic_op.Load n order)) false c.world.threads c.world.active there))))

  -- ---- histories

  told_so : (given : Turn D) (answer : Reply D) (v : World D) → given ≡ turn.Reply t answer → Said (given, v) → Claim answer v
  told_so given answer v e k = (subst (λ (turn : Turn D). Said (turn, v)) e k).0 refl

  waits_on : (given : Turn D) (v : World D) → IsOthers t given → Said (given, v) → Apart v
  waits_on (turn.Reply u told) v off k = k.1 off
  waits_on (turn.Start u) v off k = k off
  waits_on (turn.Ended value) v off k = absurd off

  rest_told : (answer : Reply D) (c : Course D) (events : List (Event D)) (v : Course D) → Apart c.world → IsTold t answer c events v → Claim answer v.world
  rest_told answer c events v s (at_last before event after follows is_turn) =
      told_so event.turn answer after.world is_turn (offered_value None (submit event.op before) event.choices (event.turn, after) (other_event event.op before s) follows.options follows.happens)
  rest_told answer c events v s (afterwards before event between more after follows off told) =
      rest_told answer between more after (waits_on event.turn between.world off (offered_value None (submit event.op before) event.choices (event.turn, between) (other_event event.op before s) follows.options follows.happens)) told

  first_said : (event : Event D) (c v : Course D) → There c.world → c.world.active ≡ t → event.op ≡ op.Atomic (atomic_op.Load n order) → Follows c event v → Said (event.turn, v.world)
  first_said event c v there is_active is_op follows =
      offered_value None (submit (op.Atomic (atomic_op.Load n order)) c) event.choices (event.turn, v) (load_event c there is_active)
      (subst (λ todo. AreOptions (submit todo c) event.choices) is_op follows.options) (subst (λ todo. ComesBy (submit todo c) event.choices (event.turn, v)) is_op follows.happens)

  load_claim : (answer : Reply D) (event : Event D) (events : List (Event D)) (c v : Course D) → There c.world → c.world.active ≡ t → event.op ≡ op.Atomic (atomic_op.Load n order)
      → IsTold t answer c (event ∷ events) v → Claim answer v.world
  load_claim answer event events c v there is_active is_op (at_last before one after follows is_turn) =
      told_so one.turn answer after.world is_turn (first_said one before after there is_active is_op follows)
  load_claim answer event events c v there is_active is_op (afterwards before one between more after follows off told) =
      rest_told answer between more after (waits_on one.turn between.world off (first_said one before between there is_active is_op follows)) told

pub load_law : {D : Type 0} → LoadLaw D
load_law max_threads max_steps n value order c v event events reached is_op told =
    load_claim c.world.active n order (reply.Value value) event events c v (reached_there max_threads max_steps c reached) refl is_op told value refl
