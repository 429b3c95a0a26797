-- A value that was made stands until main has finished, and then none is made.
use Rattle.std.proofs.Common.{◌≡◌, ℕ, zero, suc, Bool, true, false, List, [], ◌∷◌, ◌++◌, map, length, Option, Some, None, refl, ap, subst, sym}
use Rattle.std.proofs.lemmas.Bool.{eq-eqb}
use Rattle.std.specs.Prelude.{◌||◌, ◌&&◌, ◌==◌, ◌-◌, cond, is_some, nat_lt, not, slice_get, slice_set, Result, Ok, Err, ⊤}
use Rattle.std.specs.List.{find}
use Rattle.loom_views.specs.Limits.{highest_count}
use Rattle.loom_views.specs.declared.rt.failure.FailureKind.{FailureKind}
use Rattle.loom_views.specs.declared.rt.failure.FailureKind.TheVariants.{LazyShutdown, Misuse, TooManySteps}
use Rattle.loom_objects.specs.declared.operation.ChannelOp.{ChannelOp}
use Rattle.loom_objects.specs.declared.operation.ChannelOp.TheVariants as channel_op
use Rattle.loom_objects.specs.declared.operation.Lazy.{Lazy}
use Rattle.loom_objects.specs.declared.operation.LazyOp.{LazyOp}
use Rattle.loom_objects.specs.declared.operation.LazyOp.TheVariants as lazy_op
use Rattle.loom_objects.specs.declared.operation.Message.{Message}
use Rattle.loom_objects.specs.declared.operation.Request.{Request}
use Rattle.loom_objects.specs.declared.operation.Request.TheVariants as op
use Rattle.loom_objects.specs.declared.operation.Reply.{Reply}
use Rattle.loom_objects.specs.declared.operation.Reply.TheVariants as reply
use Rattle.loom_objects.specs.declared.operation.Turn.{Turn}
use Rattle.loom_objects.specs.declared.operation.Turn.TheVariants as turn
use Rattle.loom_objects.specs.declared.rt.run.Entry.{Entry}
use Rattle.loom_objects.specs.declared.rt.run.Entry.TheVariants as entry
use Rattle.loom_objects.specs.declared.rt.run.Passed.TheVariants as passed
use Rattle.loom_objects.specs.declared.rt.run.Resumed.{Resumed}
use Rattle.loom_objects.specs.declared.rt.run.Resumed.TheVariants as resumed
use Rattle.loom_objects.specs.declared.rt.mpsc.Channel.{Channel}
use Rattle.loom_objects.specs.declared.rt.thread.Phase.TheVariants.{Finished}
use Rattle.loom_objects.specs.declared.rt.thread.Receiving.{Receiving}
use Rattle.loom_objects.specs.declared.rt.thread.State.TheVariants.{Blocked, Runnable}
use Rattle.loom_objects.specs.declared.rt.thread.Task.{Task}
use Rattle.loom_objects.specs.declared.rt.thread.Task.TheVariants as task
use Rattle.loom_objects.specs.declared.rt.thread.Thread.{Thread}
use Rattle.loom_objects.specs.Rules.Atomic.{reads}
use Rattle.loom_objects.specs.Rules.Mpsc.{blocks_if, by_receiver, by_sender, channel_begins, delivers, drains, drains_from, drains_if, drains_on, first_of, fits_behind, receives, receives_from, sends, takes, tries_recv}
use Rattle.loom_objects.specs.Rules.Tables.{chosen, counted, takes_effect}
use Rattle.loom_objects.specs.Rules.Ending.{end_of}
use Rattle.loom_objects.specs.Rules.Leaks.{check_leak, first_leak, is_none_left}
use Rattle.loom_objects.specs.Rules.Moves.{at_phase, changed_at, having, is_number, pending, pending_with, received_from, receiving_with, target, wakes_if, with_thread}
use Rattle.loom_objects.specs.Rules.Rule.{◌>>=◌, check, found}
use Rattle.loom_objects.specs.Schedule.Offers.{chooses, runs_again}
use Rattle.loom_objects.specs.Rules.Thread.{finish, finish_as}
use Rattle.loom_objects.specs.Rules.Locals.{are_open, is_of, is_working, lazy_at, lazy_begins, main_works, makes_lazy, reads_lazy}
use Rattle.loom_objects.specs.World.{World}
use Rattle.loom_engine.specs.Runs.Course.{Course, opening}
use Rattle.loom_engine.specs.Runs.Histories.{ComesBy, Event, Happens, IsHistory}
use Rattle.loom_engine.specs.Runs.Machine.{submit}
use Rattle.loom_engine.specs.Runs.Once.{MadeOnceLaw, Makes}
use Rattle.loom_engine.proofs.Runs.Answering.{Answers, answers_then}
use Rattle.loom_engine.proofs.Runs.Carrying.{InWorld}
use Rattle.loom_engine.proofs.Runs.Keeping.{Keeps, kept_value}
use Rattle.loom_engine.proofs.Runs.Lifting.{EnteredTo, ReplyTo, ResumedTo, event_kept}
use Rattle.loom_engine.proofs.Runs.Kept.{HasNotifier, KeptByMoves, stated}
use Rattle.loom_engine.proofs.Runs.Kinds.{begins_moves, effect_moves}
use Rattle.loom_engine.proofs.Runs.Moving.{Within, enters_wait_moves, reads_moves, takes_result_moves}

-- ---- booleans

or_weaker : (x a b : Bool) → (a ≡ true → b ≡ true) → (x || not b) ≡ true → (x || not a) ≡ true
or_weaker true a b h e = refl
or_weaker false false b h e = refl
or_weaker false true true h e = absurd (cc e)
or_weaker false true false h e = absurd (cc (h refl))

or_more : (x y o : Bool) → (x ≡ true → y ≡ true) → (x || o) ≡ true → (y || o) ≡ true
or_more true true o h e = refl
or_more true false o h e = absurd (cc (h refl))
or_more false true o h e = refl
or_more false false o h e = e

or_first : (x o : Bool) → x ≡ true → (x || o) ≡ true
or_first true o h = refl
or_first false o h = absurd (cc h)

or_shut : (x b : Bool) → b ≡ false → (x || not b) ≡ true
or_shut true b h = refl
or_shut false false h = refl
or_shut false true h = absurd (cc h)

module _ {D : Type 0} where
  abbrev pub NotifierAt : Option (Thread D) → Type 0
  NotifierAt None = Unit {0}
  NotifierAt (Some thread) = HasNotifier thread

  -- The value of this key was made, or none is made any more, since main has finished. Each thread but main has a notifier.
  pub record IsMade (key : Option ℕ) (threads : List (Thread D)) (lazies : List (Lazy D)) : Type 0 where
    pub made : (n : ℕ) → key ≡ Some n → (is_some (find (is_of n) lazies) || not (main_works (slice_get threads 0))) ≡ true
    pub main : is_some (slice_get threads 0) ≡ true
    pub children : (t : ℕ) → NotifierAt (slice_get threads (suc t))

  abbrev pub Made : Option ℕ → World D → Type 0
  Made key w = IsMade key w.threads w.lazies

  -- ---- a thread that becomes another one

  set_works : (threads : List (Thread D)) (t : ℕ) (before after : Thread D) → slice_get threads t ≡ Some before → (is_working after.phase ≡ true → is_working before.phase ≡ true)
      → main_works (slice_get (slice_set threads t after) 0) ≡ true → main_works (slice_get threads 0) ≡ true
  set_works [] t before after there shut e = e
  set_works (x ∷ threads) zero before after there shut e = let same : before ≡ x = cc there in subst (λ thread. is_working thread.phase ≡ true) same (shut e)
  set_works (x ∷ threads) (suc t) before after there shut e = e

  set_main : (threads : List (Thread D)) (t : ℕ) (after : Thread D) → is_some (slice_get threads 0) ≡ true → is_some (slice_get (slice_set threads t after) 0) ≡ true
  set_main [] t after e = e
  set_main (x ∷ threads) zero after e = refl
  set_main (x ∷ threads) (suc t) after e = refl

  set_notifier : (threads : List (Thread D)) (t u : ℕ) (before after : Thread D) → slice_get threads t ≡ Some before → after.notifier ≡ before.notifier
      → NotifierAt (slice_get threads u) → NotifierAt (slice_get (slice_set threads t after) u)
  set_notifier [] t u before after there own h = h
  set_notifier (x ∷ threads) zero zero before after there own h =
      let same : x ≡ before = cc there in let kept : is_some before.notifier ≡ true = subst (λ thread. is_some thread.notifier ≡ true) same h in subst (λ o. is_some o ≡ true) (sym own) kept
  set_notifier (x ∷ threads) zero (suc u) before after there own h = h
  set_notifier (x ∷ threads) (suc t) zero before after there own h = h
  set_notifier (x ∷ threads) (suc t) (suc u) before after there own h = set_notifier threads t u before after there own h

  module _ {key : Option ℕ} {lazies : List (Lazy D)} where
    set_made : (threads : List (Thread D)) (t : ℕ) (before after : Thread D) → slice_get threads t ≡ Some before → (is_working after.phase ≡ true → is_working before.phase ≡ true)
        → after.notifier ≡ before.notifier → IsMade key threads lazies → IsMade key (slice_set threads t after) lazies
    set_made threads t before after there shut own k = record {
      made = λ n e. or_weaker _ _ _ (set_works threads t before after there shut) (k.made n e);
      main = set_main threads t after k.main;
      children = λ u. set_notifier threads t (suc u) before after there own (k.children u);
    }

    changed_made : (change : Thread D → Thread D) (t : ℕ) (threads : List (Thread D)) → ((thread : Thread D) → is_working (change thread).phase ≡ true → is_working thread.phase ≡ true)
        → ((thread : Thread D) → (change thread).notifier ≡ thread.notifier) → IsMade key threads lazies → IsMade key (with_thread change t threads) lazies
    changed_made change t threads shut own k = by_thread (slice_get threads t) refl
      where
        by_thread : (o : Option (Thread D)) → slice_get threads t ≡ o → IsMade key (changed_at change t o threads) lazies
        by_thread None e = k
        by_thread (Some thread) e = set_made threads t thread (change thread) e (shut thread) (own thread) k

    each_made : (change : Thread D → Thread D) (threads : List (Thread D)) → ((thread : Thread D) → is_working (change thread).phase ≡ true → is_working thread.phase ≡ true)
        → ((thread : Thread D) → (change thread).notifier ≡ thread.notifier) → IsMade key threads lazies → IsMade key (map change threads) lazies
    each_made change threads shut own k = record {
      made = λ n e. or_weaker _ _ _ (works threads) (k.made n e);
      main = some threads k.main;
      children = λ t. notified threads (suc t) (k.children t);
    }
      where
        works : (threads : List (Thread D)) → main_works (slice_get (map change threads) 0) ≡ true → main_works (slice_get threads 0) ≡ true
        works [] e = e
        works (x ∷ threads) e = shut x e

        some : (threads : List (Thread D)) → is_some (slice_get threads 0) ≡ true → is_some (slice_get (map change threads) 0) ≡ true
        some [] e = e
        some (x ∷ threads) e = refl

        notified : (threads : List (Thread D)) (t : ℕ) → NotifierAt (slice_get threads t) → NotifierAt (slice_get (map change threads) t)
        notified [] t h = h
        notified (x ∷ threads) zero h = subst (λ o. is_some o ≡ true) (sym (own x)) h
        notified (x ∷ threads) (suc t) h = notified threads t h

    child_made : (threads : List (Thread D)) (thread : Thread D) → HasNotifier thread → IsMade key threads lazies → IsMade key (threads ++ thread ∷ []) lazies
    child_made [] thread h k = absurd (cc k.main)
    child_made (x ∷ threads) thread h k = record { made = k.made; main = refl; children = λ t. more threads t (k.children t) }
      where
        more : (threads : List (Thread D)) (t : ℕ) → NotifierAt (slice_get threads t) → NotifierAt (slice_get (threads ++ thread ∷ []) t)
        more [] zero p = h
        more [] (suc t) p = tt
        more (x ∷ threads) zero p = p
        more (x ∷ threads) (suc t) p = more threads t p

  module _ (key : Option ℕ) where
    pub made_by_moves : KeptByMoves (Made key)
    made_by_moves = record {
      points = λ p w k. k;
      yields = λ yields w k. k;
      object = λ n x w there s k. k;
      made = λ x w s k. k;
      changed = λ change t w same k. changed_made change t w.threads (λ thread. (same thread).shut) (λ thread. (same thread).own) k;
      turned = λ change w idle k. changed_made change w.active w.threads (λ thread. (idle thread).shut) (λ thread. (idle thread).own) k;
      each = λ change w same k. each_made change w.threads (λ thread. (same thread).shut) (λ thread. (same thread).own) k;
      child = λ thread w h idle k. child_made w.threads thread h k;
    }

    onward : {A B : Type 0} (r : Result B FailureKind) (next : B → Result (A × World D) FailureKind) → ((b : B) → Answers (Within (Made key)) (next b)) → Answers (Within (Made key)) (r >>= next)
    onward r next h = answers_then (Within (Made key)) r next h

    -- ---- channels

    pends_made : (todo : Task D) (is_blocked : Bool) (w : World D) → Made key w → IsMade key (with_thread (pending todo is_blocked) w.active w.threads) w.lazies
    pends_made todo is_blocked w k = changed_made (pending todo is_blocked) w.active w.threads (λ thread e. e) (λ thread. refl) k

    wakes_made : (wakes : Bool) (n : ℕ) (w : World D) → Made key w → Made key (wakes_if wakes n w)
    wakes_made true n w k = each_made (pending_with n Runnable) w.threads (λ thread. (stated (is_number (target thread.task) n) Runnable thread).shut) (λ thread. (stated (is_number (target thread.task) n) Runnable thread).own) k
    wakes_made false n w k = k

    blocks_made : (blocks : Bool) (n : ℕ) (w : World D) → Made key w → Made key (blocks_if blocks n w)
    blocks_made true n w k = each_made (receiving_with n Blocked) w.threads (λ thread. (stated (is_number (received_from thread.task) n) Blocked thread).shut) (λ thread. (stated (is_number (received_from thread.task) n) Blocked thread).own) k
    blocks_made false n w k = k

    tries_made : (is_empty : Bool) (n : ℕ) (w : World D) → Made key w → Answers (Within (Made key)) (tries_recv is_empty n w)
    tries_made true n w k = k
    tries_made false n w k = pends_made _ false w k

    drains_if_made : (is_some_left : Bool) (channel : Channel D) (n : ℕ) (w : World D) → Made key w → Answers (Within (Made key)) (drains_if is_some_left channel n w)
    drains_if_made true channel n w k = pends_made _ false w k
    drains_if_made false channel n w k = k

    channel_made : (todo : ChannelOp D) (w : World D) → Made key w → Answers (Within (Made key)) (channel_begins todo w)
    channel_made channel_op.New w k = k
    channel_made (channel_op.Send n value) w k = onward (by_sender n w) _ (λ channel. pends_made _ false w k)
    channel_made (channel_op.Recv n) w k = onward (by_receiver n w) _ (λ channel. pends_made _ _ w k)
    channel_made (channel_op.TryRecv n) w k = onward (by_receiver n w) _ (λ channel. tries_made (is_none_left channel.messages) n w k)
    channel_made (channel_op.CloneSender n) w k = onward (by_sender n w) _ (λ channel. onward (check (nat_lt channel.senders highest_count) TooManySteps) _ (λ u. k))
    channel_made (channel_op.DropSender n) w k = onward (by_sender n w) _ (λ channel. wakes_made (channel.senders == 1) n _ k)
    channel_made (channel_op.DropReceiver n) w k = onward (by_receiver n w) _ (λ channel. drains_if_made (nat_lt 0 (length channel.messages)) channel n w k)

    delivers_made : (has_receiver : Bool) (channel : Channel D) (n : ℕ) (sent : List (Message D)) (message : Message D) (w : World D) → Made key w → Answers (Within (Made key)) (delivers has_receiver channel n sent message w)
    delivers_made false channel n sent message w k = onward (found (first_of message.value) Misuse) _ (λ value. k)
    delivers_made true channel n sent message w k = onward (check (fits_behind channel.messages sent) TooManySteps) _ (λ u. wakes_made (is_none_left channel.messages) n _ k)

    sends_made : (n : ℕ) (sent : List (Message D)) (w : World D) → Made key w → Answers (Within (Made key)) (sends n sent w)
    sends_made n sent w k = onward (by_sender n w) _ (λ channel. onward (found (first_of sent) Misuse) _ (λ message. delivers_made channel.has_receiver channel n sent message w k))

    takes_made : (n : ℕ) (channel : Channel D) (message : Message D) (rest : List (Message D)) (w : World D) → Made key w → Made key (takes n channel message rest w)
    takes_made n channel message rest w k = blocks_made (is_none_left rest && nat_lt 0 channel.senders) n _ k

    receives_from_made : (by : Receiving) (n : ℕ) (channel : Channel D) (messages : List (Message D)) (w : World D) → Made key w → Answers (Within (Made key)) (receives_from by n channel messages w)
    receives_from_made by n channel [] w k = k
    receives_from_made by n channel (message ∷ rest) w k = onward (found (first_of message.value) Misuse) _ (λ value. takes_made n channel message rest w k)

    receives_made : (by : Receiving) (n : ℕ) (w : World D) → Made key w → Answers (Within (Made key)) (receives by n w)
    receives_made by n w k = onward (by_receiver n w) _ (λ channel. receives_from_made by n channel channel.messages w k)

    drains_on_made : (is_last : Bool) (n : ℕ) (taken : List D) (w : World D) → Made key w → Answers (Within (Made key)) (drains_on is_last n taken w)
    drains_on_made true n taken w k = onward (by_receiver n w) _ (λ channel. k)
    drains_on_made false n taken w k = pends_made _ false w k

    drains_from_made : (n : ℕ) (taken : List D) (channel : Channel D) (messages : List (Message D)) (w : World D) → Made key w → Answers (Within (Made key)) (drains_from n taken channel messages w)
    drains_from_made n taken channel [] w k = drains_on_made true n taken w k
    drains_from_made n taken channel (message ∷ rest) w k =
        onward (check (fits_behind taken message.value) TooManySteps) _ (λ u. drains_on_made (is_none_left rest) n (taken ++ message.value) _ (takes_made n channel message rest w k))

    drains_made : (n : ℕ) (taken : List D) (w : World D) → Made key w → Answers (Within (Made key)) (drains n taken w)
    drains_made n taken w k = onward (by_receiver n w) _ (λ channel. drains_from_made n taken channel channel.messages w k)

    -- ---- values that are made once

    find_more : (test : Lazy D → Bool) (lazies more : List (Lazy D)) → is_some (find test lazies) ≡ true → is_some (find test (lazies ++ more)) ≡ true
    find_more test [] more e = absurd (cc e)
    find_more test (lazy ∷ lazies) more e = by_test (test lazy) e (find_more test lazies more)
      where
        by_test : (b : Bool) → is_some (cond b (Some lazy) (find test lazies)) ≡ true → (is_some (find test lazies) ≡ true → is_some (find test (lazies ++ more)) ≡ true)
            → is_some (cond b (Some lazy) (find test (lazies ++ more))) ≡ true
        by_test true h rest = refl
        by_test false h rest = rest h

    makes_made : (n : ℕ) (value : D) (lazy : Option (Lazy D)) (w : World D) → Made key w → Answers (Within (Made key)) (makes_lazy n value lazy w)
    makes_made n value None w k = record { made = λ m e. or_more _ _ _ (find_more (is_of m) w.lazies _) (k.made m e); main = k.main; children = k.children }
    makes_made n value (Some lazy) w k = k

    reads_made : (lazy : Option (Lazy D)) (w : World D) → Made key w → Answers (Within (Made key)) (reads_lazy lazy w)
    reads_made None w k = k
    reads_made (Some lazy) w k = k

    lazy_made : (todo : LazyOp D) (w : World D) → Made key w → Answers (Within (Made key)) (lazy_begins todo w)
    lazy_made (lazy_op.Get n) w k = onward (check (are_open w) LazyShutdown) _ (λ u. reads_made (lazy_at n w) w k)
    lazy_made (lazy_op.Init n value) w k = onward (check (are_open w) LazyShutdown) _ (λ u. makes_made n value (lazy_at n w) w k)

    -- ---- a thread's result: main is the one that has no notifier, and then works no more

    finished_main : (threads : List (Thread D)) (value : D) → is_some (slice_get threads 0) ≡ true → main_works (slice_get (with_thread (having value) 0 (with_thread (at_phase Finished) 0 threads)) 0) ≡ false
    finished_main [] value e = absurd (cc e)
    finished_main (x ∷ threads) value e = refl

    finish_made : (value : D) (w : World D) → Made key w → Answers (Within (Made key)) (finish value w)
    finish_made value w k = by_thread (slice_get w.threads w.active) refl
      where
        over : IsMade key (with_thread (at_phase Finished) w.active w.threads) w.lazies
        over = changed_made (at_phase Finished) w.active w.threads (λ thread e. absurd (cc e)) (λ thread. refl) k

        by_notifier : (thread : Thread D) → slice_get w.threads w.active ≡ Some thread → (notifier : Option ℕ) → thread.notifier ≡ notifier
            → Answers (Within (Made key)) (finish_as notifier value (record w { threads = with_thread (at_phase Finished) w.active w.threads }))
        by_notifier thread there (Some n) e = changed_made (pending (task.Finish n value) false) w.active (with_thread (at_phase Finished) w.active w.threads) (λ other f. f) (λ other. refl) over
        by_notifier thread there None e =
            let had : IsMade key (with_thread (having value) w.active (with_thread (at_phase Finished) w.active w.threads)) w.lazies = changed_made (having value) w.active (with_thread (at_phase Finished) w.active w.threads) (λ other f. f) (λ other. refl) over in
            let is_main : w.active ≡ 0 = main_alone w.active thread there e in
            record {
              made = λ n f. or_shut false (main_works (slice_get (with_thread (having value) w.active (with_thread (at_phase Finished) w.active w.threads)) 0))
                  (subst (λ t. main_works (slice_get (with_thread (having value) t (with_thread (at_phase Finished) t w.threads)) 0) ≡ false) (sym is_main) (finished_main w.threads value k.main));
              main = had.main;
              children = had.children;
            }
          where
            main_alone : (t : ℕ) (thread : Thread D) → slice_get w.threads t ≡ Some thread → thread.notifier ≡ None → t ≡ 0
            main_alone zero thread there none = refl
            main_alone (suc t) thread there none = let own : is_some thread.notifier ≡ true = subst NotifierAt there (k.children t) in absurd (cc (own, none))

        by_phase : (works : Bool) (thread : Thread D) → slice_get w.threads w.active ≡ Some thread
            → Answers (Within (Made key)) (check works Misuse >>= (λ u. finish_as thread.notifier value (record w { threads = with_thread (at_phase Finished) w.active w.threads })))
        by_phase true thread there = by_notifier thread there thread.notifier refl
        by_phase false thread there = tt

        by_thread : (o : Option (Thread D)) → slice_get w.threads w.active ≡ o
            → Answers (Within (Made key)) (found o Misuse >>= (λ thread. check (is_working thread.phase) Misuse >>= (λ u. finish_as thread.notifier value (record w { threads = with_thread (at_phase Finished) w.active w.threads }))))
        by_thread None e = tt
        by_thread (Some thread) e = by_phase (is_working thread.phase) thread e

    -- ---- events

    counted_made : (todo : Request D ⊤) (w : World D) → Made key w → Answers (Within (Made key)) (counted todo w)
    counted_made todo w k =
        let fewer = record w { steps_left = w.steps_left - 1 } in
        onward (check (nat_lt 0 w.steps_left) TooManySteps) _ (λ u. begins_moves (Made key) made_by_moves todo fewer (λ asked e s. pends_made (task.Access asked) false fewer s) (λ value. finish_made value fewer k) (λ asked e. channel_made asked fewer k) (λ asked. lazy_made asked fewer k) k)

    map_get : (change : Thread D → Thread D) (threads : List (Thread D)) (t : ℕ) (thread : Thread D) → slice_get threads t ≡ Some thread → slice_get (map change threads) t ≡ Some (change thread)
    map_get change [] t thread e = absurd (cc e)
    map_get change (x ∷ threads) zero thread e = let same : x ≡ thread = cc e in ap (λ y. Some (change y)) same
    map_get change (x ∷ threads) (suc t) thread e = map_get change threads t thread e

    effect_made : (todo : Task D) (w : World D) → Made key w → Answers (Within (Made key)) (takes_effect todo w)
    effect_made todo w k = effect_moves (Made key) made_by_moves todo w (λ n sent e. sends_made n sent w k) (λ by n e. receives_made by n w k) (λ n taken e. drains_made n taken w k) k

    found_made : {A B : Type 0} (o : Option B) (kind : FailureKind) (next : B → Result (A × World D) FailureKind) → ((b : B) → o ≡ Some b → Answers (Within (Made key)) (next b)) → Answers (Within (Made key)) (found o kind >>= next)
    found_made None kind next h = tt
    found_made (Some b) kind next h = h b refl

    chooses_made : (t : ℕ) (w : World D) → Made key w → Answers (Within {A = Task D} (Made key)) (chooses t w)
    chooses_made t w k =
        found_made (slice_get w.threads t) Misuse _ (λ thread there.
        set_made (map runs_again w.threads) t (runs_again thread) (record thread { task = task.Body }) (map_get runs_again w.threads t thread there) (λ e. e) refl
        (each_made runs_again w.threads (λ other e. e) (λ other. refl) k))

    chosen_made : (t : ℕ) (w : World D) → Made key w → Answers (Within (Made key)) (chosen t w)
    chosen_made t w k = by_chosen (chooses t w) (chooses_made t w k)
      where
        by_chosen : (r : Result (Task D × World D) FailureKind) → Answers (Within {A = Task D} (Made key)) r → Answers (Within (Made key)) (r >>= (λ taken. takes_effect taken.0 taken.1))
        by_chosen (Ok taken) h = effect_made taken.0 taken.1 h
        by_chosen (Err kind) h = tt

    end_made : (w : World D) → Made key w → Answers (Within (Made key)) (end_of w)
    end_made w k = onward (check_leak (first_leak w.objects)) _ (λ u. takes_result_moves (Made key) made_by_moves 0 w _ k (λ value threads r. r))

    -- ---- from one event to the next

    by_reply : (r : Result (Reply D × World D) FailureKind) → Answers (Within (Made key)) r → Answers (ReplyTo (Made key) (Within (Made key))) r
    by_reply (Ok (reply, v)) h = h
    by_reply (Err kind) h = tt

    by_entry : (r : Result (Entry D × World D) FailureKind) → Answers (Within (Made key)) r → Answers (EnteredTo (Made key) (Within (Made key))) r
    by_entry (Ok (entry.Answered reply, v)) h = h
    by_entry (Ok (entry.AtBranch, v)) h = h
    by_entry (Ok (entry.Spurious n, v)) h = λ is_spurious. enters_wait_moves (Made key) made_by_moves is_spurious n v h
    by_entry (Ok (entry.Explores todo, v)) h = h
    by_entry (Err kind) h = tt

    by_resumed : (r : Result (Resumed D × World D) FailureKind) → Answers (Within (Made key)) r → Answers (ResumedTo (Made key) (Within (Made key))) r
    by_resumed (Ok (resumed.Passed (passed.Turn turn), v)) h = h
    by_resumed (Ok (resumed.Passed passed.AtBranch, v)) h = h
    by_resumed (Ok (resumed.Load load, v)) h = λ slot. by_reply (reads load.access v slot) (reads_moves (Made key) made_by_moves load.access v slot h)
    by_resumed (Err kind) h = tt

    event_made : (todo : Request D ⊤) (c : Course D) → Made key c.world → Keeps (InWorld (Within (Made key))) (submit todo c)
    event_made todo c k =
        event_kept (Made key) (Within (Made key)) (λ t w h. by_resumed (chosen t w) (chosen_made t w h)) (λ w h. end_made w h) todo c
        (by_entry (counted todo c.world) (counted_made todo c.world k))

  -- ---- the event that makes a value, and no other

  -- what holds of a turn that says that the value was made
  abbrev pub Saying : (World D → Type 0) → Turn D × World D → Type 0
  Saying P answered = (t : ℕ) (value : D) → answered.0 ≡ turn.Reply t (reply.Data value) → P answered.1

  abbrev pub Nowhere : World D → Type 0
  Nowhere w = ⊥

  init_event : (P : World D → Type 0) (key : ℕ) (value : D) (c : Course D)
      → ((w : World D) → w.threads ≡ c.world.threads → w.lazies ≡ c.world.lazies → are_open w ≡ true → Answers (EnteredTo Nowhere (Saying P)) (makes_lazy key value (lazy_at key w) w))
      → Keeps (InWorld (Saying P)) (submit (op.Lazy (lazy_op.Init key value)) c)
  init_event P key value c h =
      event_kept Nowhere (Saying P) (λ t w k. absurd k) (λ w k. absurd k) (op.Lazy (lazy_op.Init key value)) c (by_steps (nat_lt 0 c.world.steps_left))
    where
      fewer : World D
      fewer = record c.world { steps_left = c.world.steps_left - 1 }

      by_open : (is_open : Bool) → are_open fewer ≡ is_open → Answers (EnteredTo Nowhere (Saying P)) (check is_open LazyShutdown >>= (λ u. makes_lazy key value (lazy_at key fewer) fewer))
      by_open true e = h fewer refl refl e
      by_open false e = tt

      by_steps : (has_steps : Bool) → Answers (EnteredTo Nowhere (Saying P)) (check has_steps TooManySteps >>= (λ u. lazy_begins (lazy_op.Init key value) fewer))
      by_steps true = by_open (are_open fewer) refl
      by_steps false = tt

  find_last : (key : ℕ) (lazies : List (Lazy D)) (lazy : Lazy D) → lazy.key ≡ key → is_some (find (is_of key) (lazies ++ lazy ∷ [])) ≡ true
  find_last key [] lazy e = by_test (lazy.key == key) (eq-eqb lazy.key key e)
    where
      by_test : (b : Bool) → b ≡ true → is_some (cond b (Some lazy) None) ≡ true
      by_test true h = refl
      by_test false h = absurd (cc h)
  find_last key (x ∷ lazies) lazy e = by_test (x.key == key) (find_last key lazies lazy e)
    where
      by_test : (b : Bool) → is_some (find (is_of key) (lazies ++ lazy ∷ [])) ≡ true → is_some (cond b (Some x) (find (is_of key) (lazies ++ lazy ∷ []))) ≡ true
      by_test true rest = refl
      by_test false rest = rest

  -- from there on it stands
  first_made : (key : ℕ) (event : Event D) (c v : Course D) → Made None c.world → Happens c event v → Makes key event → Made (Some key) v.world
  first_made key event c v k comes (value, (t, (is_op, is_turn))) =
      kept_value (submit (op.Lazy (lazy_op.Init key value)) c) event.choices (event.turn, v) (init_event (Made (Some key)) key value c made_so)
      (subst (λ todo. ComesBy (submit todo c) event.choices (event.turn, v)) is_op comes) t value is_turn
    where
      made_so : (w : World D) → w.threads ≡ c.world.threads → w.lazies ≡ c.world.lazies → are_open w ≡ true → Answers (EnteredTo Nowhere (Saying (Made (Some key)))) (makes_lazy key value (lazy_at key w) w)
      made_so w threads lazies is_open = by_lazy (lazy_at key w)
        where
          by_lazy : (lazy : Option (Lazy D)) → Answers (EnteredTo Nowhere (Saying (Made (Some key)))) (makes_lazy key value lazy w)
          by_lazy (Some lazy) = λ u told e. absurd (cc e)
          by_lazy None = λ u told e. record {
            made = λ n f.
                let lazy : Lazy D = record { key = key; value = value; stamp = length w.points.stamps } in
                let after : World D = record w { lazies = w.lazies ++ lazy ∷ [] } in
                let same : key ≡ n = cc f in subst (λ m. (is_some (lazy_at m after) || not (are_open after)) ≡ true) same (or_first _ _ (find_last key w.lazies lazy refl));
            main = subst (λ list. is_some (slice_get list 0) ≡ true) (sym threads) k.main;
            children = λ i. subst (λ list. NotifierAt (slice_get list (suc i))) (sym threads) (k.children i);
          }

  -- so no other event makes it
  not_again : (key : ℕ) (event : Event D) (c v : Course D) → Made (Some key) c.world → Happens c event v → Makes key event → ⊥
  not_again key event c v k comes (value, (t, (is_op, is_turn))) =
      kept_value (submit (op.Lazy (lazy_op.Init key value)) c) event.choices (event.turn, v) (init_event Nowhere key value c stood)
      (subst (λ todo. ComesBy (submit todo c) event.choices (event.turn, v)) is_op comes) t value is_turn
    where
      stood : (w : World D) → w.threads ≡ c.world.threads → w.lazies ≡ c.world.lazies → are_open w ≡ true → Answers (EnteredTo Nowhere (Saying Nowhere)) (makes_lazy key value (lazy_at key w) w)
      stood w threads lazies is_open = by_lazy (lazy_at key w) known
        where
          shut_out : (x o : Bool) → o ≡ true → (x || not o) ≡ true → x ≡ true
          shut_out true o e h = refl
          shut_out false true e h = absurd (cc h)
          shut_out false false e h = absurd (cc e)

          known : is_some (lazy_at key w) ≡ true
          known = shut_out _ (are_open w) is_open (subst (λ list. (is_some (find (is_of key) w.lazies) || not (main_works (slice_get list 0))) ≡ true) (sym threads)
              (subst (λ list. (is_some (find (is_of key) list) || not (main_works (slice_get c.world.threads 0))) ≡ true) (sym lazies) (k.made key refl)))

          by_lazy : (lazy : Option (Lazy D)) → is_some lazy ≡ true → Answers (EnteredTo Nowhere (Saying Nowhere)) (makes_lazy key value lazy w)
          by_lazy (Some lazy) e = λ u told f. cc f
          by_lazy None e = absurd (cc e)

  -- ---- histories

  made_until : (key : ℕ) (between after : List (Event D)) (second : Event D) (c : Course D) → Made (Some key) c.world → IsHistory c (between ++ second ∷ after) → Makes key second → ⊥
  made_until key [] after second c k history makes = not_again key second c history.0 k history.1.0 makes
  made_until key (event ∷ between) after second c k history makes =
      made_until key between after second history.0 (kept_value (submit event.op c) event.choices (event.turn, history.0) (event_made (Some key) event.op c k) history.1.0) history.1.1.1 makes

  from_opening : (key : ℕ) (before between after : List (Event D)) (first second : Event D) (c : Course D) → Made None c.world
      → IsHistory c (before ++ first ∷ (between ++ second ∷ after)) → Makes key first → Makes key second → ⊥
  from_opening key [] between after first second c k history makes again =
      made_until key between after second history.0 (first_made key first c history.0 k history.1.0 makes) history.1.1.1 again
  from_opening key (event ∷ before) between after first second c k history makes again =
      from_opening key before between after first second history.0 (kept_value (submit event.op c) event.choices (event.turn, history.0) (event_made None event.op c k) history.1.0) history.1.1.1 makes again

pub made_once : {D : Type 0} → MadeOnceLaw D
made_once {D} explores max_threads max_steps key before between after first second history makes again =
    from_opening key before between after first second (opening explores max_threads max_steps) (record { made = λ n e. absurd (cc e); main = refl; children = λ t. tt }) history makes again
