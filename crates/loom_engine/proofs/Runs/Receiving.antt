-- What each rule does to the values in a channel: one that is sent goes last, and the first one is received.
use Rattle.std.proofs.Common.{◌≡◌, ℕ, zero, suc, Bool, true, false, List, [], ◌∷◌, ◌++◌, map, length, Option, Some, None, refl, ap, subst, sym, inl, inr}
use Rattle.std.proofs.lemmas.List.{map-append}
use Rattle.std.specs.Prelude.{◌==◌, ◌+◌, ◌-◌, ◌⊎◌, ◌&&◌, cond, is_some, nat_lt, slice_get, slice_set, Result, Ok, Err, ⊤}
use Rattle.loom_views.specs.Limits.{highest_count}
use Rattle.loom_views.specs.declared.rt.failure.FailureKind.{FailureKind}
use Rattle.loom_views.specs.declared.rt.failure.FailureKind.TheVariants.{LazyShutdown, Misuse, TooManySteps}
use Rattle.loom_objects.specs.declared.operation.ChannelOp.{ChannelOp}
use Rattle.loom_objects.specs.declared.operation.ChannelOp.TheVariants as channel_op
use Rattle.loom_objects.specs.declared.operation.Lazy.{Lazy}
use Rattle.loom_objects.specs.declared.operation.LazyOp.{LazyOp}
use Rattle.loom_objects.specs.declared.operation.LazyOp.TheVariants as lazy_op
use Rattle.loom_objects.specs.declared.operation.Message.{Message}
use Rattle.loom_objects.specs.declared.operation.Request.{Request}
use Rattle.loom_objects.specs.declared.operation.Request.TheVariants as op
use Rattle.loom_objects.specs.declared.operation.Reply.{Reply}
use Rattle.loom_objects.specs.declared.operation.Reply.TheVariants as reply
use Rattle.loom_objects.specs.declared.operation.Turn.{Turn}
use Rattle.loom_objects.specs.declared.operation.Turn.TheVariants as turn
use Rattle.loom_objects.specs.declared.rt.object.Object.{Object}
use Rattle.loom_objects.specs.declared.rt.object.Object.TheVariants as object
use Rattle.loom_objects.specs.declared.rt.run.Entry.{Entry}
use Rattle.loom_objects.specs.declared.rt.run.Entry.TheVariants as entry
use Rattle.loom_objects.specs.declared.rt.run.Passed.{Passed}
use Rattle.loom_objects.specs.declared.rt.run.Passed.TheVariants as passed
use Rattle.loom_objects.specs.declared.rt.run.Resumed.{Resumed}
use Rattle.loom_objects.specs.declared.rt.run.Resumed.TheVariants as resumed
use Rattle.loom_objects.specs.declared.rt.mpsc.Channel.{Channel}
use Rattle.loom_objects.specs.declared.rt.thread.Phase.TheVariants.{Finished}
use Rattle.loom_objects.specs.declared.rt.thread.Receiving.{Receiving}
use Rattle.loom_objects.specs.declared.rt.thread.Receiving.TheVariants as receiving
use Rattle.loom_objects.specs.declared.rt.thread.State.TheVariants.{Blocked, Runnable}
use Rattle.loom_objects.specs.declared.rt.thread.Task.{Task}
use Rattle.loom_objects.specs.declared.rt.thread.Task.TheVariants as task
use Rattle.loom_objects.specs.declared.rt.thread.Thread.{Thread}
use Rattle.loom_objects.specs.Rules.Atomic.{reads}
use Rattle.loom_objects.specs.Rules.Mpsc.{blocks_if, channel_begins, delivers, drains, drains_from, drains_if, drains_on, first_of, fits_behind, none_left, receives, receives_from, sends, takes, tries_recv, with_channel}
use Rattle.loom_objects.specs.Rules.Tables.{chosen, op_begins, takes_effect}
use Rattle.loom_objects.specs.Rules.Ending.{end_of}
use Rattle.loom_objects.specs.Rules.Leaks.{check_leak, first_leak, is_none_left}
use Rattle.loom_objects.specs.Rules.Moves.{acquires_from_stamp, active_thread, at_phase, changed_at, changes_active, having, is_number, pending, pending_with, received_from, receiving_with, releases, stamps, takes_result, target, wakes_if, with_thread}
use Rattle.loom_objects.specs.Rules.Notify.{enters_wait as waits}
use Rattle.loom_objects.specs.Rules.Rule.{◌>>=◌, check, found}
use Rattle.loom_objects.specs.Schedule.Offers.{chooses, runs_again}
use Rattle.loom_objects.specs.Rules.Thread.{finish, finish_as}
use Rattle.loom_objects.specs.Rules.Replied.{gone, replied}
use Rattle.loom_objects.specs.Rules.Locals.{are_open, is_working, lazy_at, lazy_begins, makes_lazy, reads_lazy}
use Rattle.loom_objects.specs.World.{World}
use Rattle.loom_engine.specs.Runs.Course.{Course}
use Rattle.loom_engine.specs.Runs.Machine.{submit}
use Rattle.loom_engine.specs.Runs.Received.{IsReceived, IsSent, of_channel}
use Rattle.loom_engine.proofs.Runs.Answering.{Answers, TellsActive, answers_then}
use Rattle.loom_engine.proofs.Runs.Carrying.{InWorld}
use Rattle.loom_engine.proofs.Runs.Keeping.{Keeps}
use Rattle.loom_engine.proofs.Runs.Lifting.{EnteredTo, PassedTo, ReplyTo, ResumedTo, event_kept}
use Rattle.loom_engine.proofs.Runs.Kept.{Doing, Drains, Receives, Sends, doing, stated, value_of}
use Rattle.loom_engine.proofs.Runs.Kinds.{begins_moves, effect_moves, effect_tells}
use Rattle.loom_engine.proofs.Runs.Moving.{Within, enters_wait_moves, reads_moves}
use Rattle.loom_engine.proofs.Runs.Queues.{Held, IsHeld, Kind, cond_here, cond_off, decided, doing_at, doing_for, draining, drains_for, found_so, held_by_moves, held_turned, idles, kind_of, map_doing, map_there, more_same, receiver_so, receives_for, receiving_by, sender_so, sending, sends_for, set_doing_here, set_doing_off, set_off, set_same, set_stays, set_there, single, values_at}

module _ {D : Type 0} (n : ℕ) where
  -- what threads are about to do that have handed this over; the one whose turn it is has nothing pending
  abbrev pub except : ℕ → (ℕ → Option (ChannelOp D)) → ℕ → Option (Doing D)
  except a handed u = cond (u == a) None (doing_for (handed u))

  -- in between two operations
  abbrev pub Bound : List D → (ℕ → Option (ChannelOp D)) → ℕ → World D → Type 0
  Bound q handed a w = Held n q (except a handed) a w

  -- where a schedule is asked
  pub record IsAsked (q : List D) (handed : ℕ → Option (ChannelOp D)) (objects : List (Object D)) (threads : List (Thread D)) : Type 0 where
    pub queue : values_at (slice_get objects n) ≡ map single q
    pub pending : (u : ℕ) → doing_at (slice_get threads u) ≡ doing_for (handed u)

  abbrev pub Asked : List D → (ℕ → Option (ChannelOp D)) → World D → Type 0
  Asked q handed w = IsAsked q handed w.objects w.threads

  abbrev pub Goes : List D → (ℕ → Option (ChannelOp D)) → Turn D → World D → Type 0
  Goes q handed (turn.Reply t reply) w = Bound q handed t w
  Goes q handed (turn.Start t) w = Bound q handed t w
  Goes q handed (turn.Ended value) w = Unit {0}

  -- with this turn: a value that was sent is the last, one that was received was the first, and else the values are the same
  pub record IsAfter (q : List D) (handed : ℕ → Option (ChannelOp D)) (turned : Turn D) (w : World D) : Type 0 where
    pub sent : (t : ℕ) (value : D) → IsSent n handed t value turned → Bound (q ++ value ∷ []) handed t w
    pub received : (t : ℕ) (value : D) → IsReceived n handed t value turned → (rest : List D) × ((q ≡ value ∷ rest) × Bound rest handed t w)
    pub passed : ((t : ℕ) (value : D) → IsSent n handed t value turned → ⊥) → ((t : ℕ) (value : D) → IsReceived n handed t value turned → ⊥) → Goes q handed turned w

  abbrev pub After : List D → (ℕ → Option (ChannelOp D)) → Turn D × World D → Type 0
  After q handed answered = IsAfter q handed answered.0 answered.1

  wakes_bound : (q : List D) (expected : ℕ → Option (Doing D)) (a : ℕ) (wakes : Bool) (m : ℕ) (w : World D) → Held n q expected a w → Held n q expected a (wakes_if wakes m w)
  wakes_bound q expected a true m w k = (held_by_moves n q expected a).each (pending_with m Runnable) w (λ thread. stated (is_number (target thread.task) m) Runnable thread) k
  wakes_bound q expected a false m w k = k

  blocks_bound : (q : List D) (expected : ℕ → Option (Doing D)) (a : ℕ) (blocks : Bool) (m : ℕ) (w : World D) → Held n q expected a w → Held n q expected a (blocks_if blocks m w)
  blocks_bound q expected a true m w k = (held_by_moves n q expected a).each (receiving_with m Blocked) w (λ thread. stated (is_number (received_from thread.task) m) Blocked thread) k
  blocks_bound q expected a false m w k = k

  wakes_active : (wakes : Bool) (m : ℕ) (w : World D) → (wakes_if wakes m w).active ≡ w.active
  wakes_active true m w = refl
  wakes_active false m w = refl

  blocks_active : (blocks : Bool) (m : ℕ) (w : World D) → (blocks_if blocks m w).active ≡ w.active
  blocks_active true m w = refl
  blocks_active false m w = refl

  -- the first of the values in a channel
  split_queue : (front : List D) (others : List (List D)) (q : List D) → front ∷ others ≡ map single q → (x : D) × ((rest : List D) × ((q ≡ x ∷ rest) × ((front ≡ x ∷ []) × (others ≡ map single rest))))
  split_queue front others [] e = absurd (cc e)
  split_queue front others (x ∷ q) e = (x, (q, (refl, (cc e, cc e))))

  same_channel : (m : ℕ) (o : Option (ChannelOp D)) → (o ≡ Some (channel_op.Recv m)) ⊎ (o ≡ Some (channel_op.TryRecv m)) → (o ≡ Some (channel_op.Recv n)) ⊎ (o ≡ Some (channel_op.TryRecv n)) → m ≡ n
  same_channel m o (inl e) (inl f) = cc (e, f)
  same_channel m o (inl e) (inr f) = absurd (cc (e, f))
  same_channel m o (inr e) (inl f) = absurd (cc (e, f))
  same_channel m o (inr e) (inr f) = cc (e, f)

  module _ (q : List D) (handed : ℕ → Option (ChannelOp D)) where
    -- a thread gets a reply that says nothing of a channel
    told_other : (t : ℕ) (answer : Reply D) (w : World D) → (answer ≡ reply.Done → ⊥) → ((value : D) → answer ≡ reply.Data value → ⊥) → Bound q handed t w → IsAfter q handed (turn.Reply t answer) w
    told_other t answer w not_done no_data k = record {
      sent = λ u value s. absurd (not_done (cc s.1));
      received = λ u value s. absurd (no_data value (cc s.1));
      passed = λ a b. k;
    }

    -- or is no thread that sends or receives
    told_idle : (t : ℕ) (reply : Reply D) (w : World D) → doing_for (handed t) ≡ None → Bound q handed t w → IsAfter q handed (turn.Reply t reply) w
    told_idle t reply w idle k = record {
      sent = λ u value s. let same : t ≡ u = cc s.1 in absurd (no_sender u value s.0 (subst (λ i. doing_for (handed i) ≡ None) same idle));
      received = λ u value s. let same : t ≡ u = cc s.1 in absurd (no_receiver u s.0 (subst (λ i. doing_for (handed i) ≡ None) same idle));
      passed = λ a b. k;
    }
      where
        no_sender : (u : ℕ) (value : D) → handed u ≡ Some (channel_op.Send n value) → doing_for (handed u) ≡ None → ⊥
        no_sender u value e none = let busy : doing_for (handed u) ≡ Some (Sends n ((value ∷ []) ∷ [])) = ap doing_for e in absurd (cc (busy, none))

        no_receiver : (u : ℕ) → (handed u ≡ Some (channel_op.Recv n)) ⊎ (handed u ≡ Some (channel_op.TryRecv n)) → doing_for (handed u) ≡ None → ⊥
        no_receiver u (inl e) none = let busy : doing_for (handed u) ≡ Some (Receives n) = ap doing_for e in absurd (cc (busy, none))
        no_receiver u (inr e) none = let busy : doing_for (handed u) ≡ Some (Receives n) = ap doing_for e in absurd (cc (busy, none))

    started : (t : ℕ) (w : World D) → Bound q handed t w → IsAfter q handed (turn.Start t) w
    started t w k = record { sent = λ u value s. absurd (cc s.1); received = λ u value s. absurd (cc s.1); passed = λ a b. k }

    over : (value : D) (w : World D) → IsAfter q handed (turn.Ended value) w
    over value w = record { sent = λ u told s. absurd (cc s.1); received = λ u told s. absurd (cc s.1); passed = λ a b. tt }

    -- the thread whose turn it is, by the state
    by_active : (a : ℕ) (w : World D) → Bound q handed a w → Bound q handed w.active w
    by_active a w k = subst (λ t. Bound q handed t w) (sym k.own) k

    -- a thread that reaches a branch point with nothing to do to a channel
    asked_idle : (a : ℕ) (w : World D) → doing_for (handed a) ≡ None → Bound q handed a w → Asked q handed w
    asked_idle a w idle k = record { queue = k.queue; pending = λ u. by_number u (decided u a) }
      where
        by_number : (u : ℕ) → (u ≡ a) ⊎ (u ≡ a → ⊥) → doing_at (slice_get w.threads u) ≡ doing_for (handed u)
        by_number u (inl same) =
            let none : except a handed u ≡ None = cond_here u a None (doing_for (handed u)) same in
            let mine : doing_for (handed u) ≡ None = subst (λ t. doing_for (handed t) ≡ None) (sym same) idle in let f = k.pending u in cc (none, mine, f)
        by_number u (inr off) = let same : except a handed u ≡ doing_for (handed u) = cond_off u a None (doing_for (handed u)) off in let f = k.pending u in cc (same, f)

    -- one that reaches a branch point with what it has handed over
    pends_asked : (todo : Task D) (is_blocked : Bool) (a : ℕ) (w : World D) → doing todo ≡ doing_for (handed a) → Bound q handed a w
        → IsAsked q handed w.objects (with_thread (pending todo is_blocked) w.active w.threads)
    pends_asked todo is_blocked a w busy k = record { queue = k.queue; pending = λ u. by_number u (decided u w.active) }
      where
        here : (threads : List (Thread D)) (t : ℕ) → is_some (slice_get threads t) ≡ true → doing_at (slice_get (with_thread (pending todo is_blocked) t threads) t) ≡ doing todo
        here threads t e = by_thread (slice_get threads t) refl e
          where
            by_thread : (o : Option (Thread D)) → slice_get threads t ≡ o → is_some o ≡ true → doing_at (slice_get (changed_at (pending todo is_blocked) t o threads) t) ≡ doing todo
            by_thread None f g = absurd (cc g)
            by_thread (Some thread) f g = set_doing_here threads t thread (pending todo is_blocked thread) f

        off_there : (threads : List (Thread D)) (t u : ℕ) → (t ≡ u → ⊥) → doing_at (slice_get (with_thread (pending todo is_blocked) t threads) u) ≡ doing_at (slice_get threads u)
        off_there threads t u off = by_thread (slice_get threads t)
          where
            by_thread : (o : Option (Thread D)) → doing_at (slice_get (changed_at (pending todo is_blocked) t o threads) u) ≡ doing_at (slice_get threads u)
            by_thread None = refl
            by_thread (Some thread) = set_doing_off threads t u (pending todo is_blocked thread) off

        by_number : (u : ℕ) → (u ≡ w.active) ⊎ (u ≡ w.active → ⊥) → doing_at (slice_get (with_thread (pending todo is_blocked) w.active w.threads) u) ≡ doing_for (handed u)
        by_number u (inl same) =
            let stands : is_some (slice_get w.threads w.active) ≡ true = subst (λ t. is_some (slice_get w.threads t) ≡ true) (sym k.own) k.there in
            let e : doing_at (slice_get (with_thread (pending todo is_blocked) w.active w.threads) w.active) ≡ doing todo = here w.threads w.active stands in
            let mine : doing todo ≡ doing_for (handed w.active) = subst (λ t. doing todo ≡ doing_for (handed t)) (sym k.own) busy in
            let so : doing_at (slice_get (with_thread (pending todo is_blocked) w.active w.threads) w.active) ≡ doing_for (handed w.active) = cc (e, mine) in
            subst (λ t. doing_at (slice_get (with_thread (pending todo is_blocked) w.active w.threads) t) ≡ doing_for (handed t)) (sym same) so
        by_number u (inr off) =
            let e = off_there w.threads w.active u (λ f. off (sym f)) in
            let away : u ≡ a → ⊥ = λ f. off (let own = k.own in cc (f, own)) in
            let same : except a handed u ≡ doing_for (handed u) = cond_off u a None (doing_for (handed u)) away in let f = k.pending u in cc (e, same, f)

    -- ---- what is followed where it isn't asked of a channel

    replies_idle : (a : ℕ) (r : Result (Reply D × World D) FailureKind) → doing_for (handed a) ≡ None → Answers (Within (Bound q handed a)) r → Answers (ReplyTo (Asked q handed) (After q handed)) r
    replies_idle a (Ok (reply, v)) idle k = let active : doing_for (handed v.active) ≡ None = subst (λ t. doing_for (handed t) ≡ None) (sym k.own) idle in told_idle v.active reply v active (by_active a v k)
    replies_idle a (Err kind) idle k = tt

    resumed_idle : (a : ℕ) (r : Result (Resumed D × World D) FailureKind) → doing_for (handed a) ≡ None → Answers (Within (Bound q handed a)) r → Answers TellsActive r
        → Answers (ResumedTo (Asked q handed) (After q handed)) r
    resumed_idle a (Ok (resumed.Passed (passed.Turn (turn.Reply t reply)), v)) idle k tells =
        let own = k.own in let same : a ≡ t = cc (own, tells) in told_idle t reply v (subst (λ u. doing_for (handed u) ≡ None) same idle) (subst (λ u. Bound q handed u v) same k)
    resumed_idle a (Ok (resumed.Passed (passed.Turn (turn.Start t)), v)) idle k tells = let own = k.own in let same : a ≡ t = cc (own, tells) in started t v (subst (λ u. Bound q handed u v) same k)
    resumed_idle a (Ok (resumed.Passed (passed.Turn (turn.Ended value)), v)) idle k tells = absurd tells
    resumed_idle a (Ok (resumed.Passed passed.AtBranch, v)) idle k tells = asked_idle a v idle k
    resumed_idle a (Ok (resumed.Load load, v)) idle k tells =
        λ slot. replies_idle a (reads load.access v slot) idle (reads_moves (Bound q handed a) (held_by_moves n q (except a handed) a) load.access v slot k)
    resumed_idle a (Err kind) idle k tells = tt

    entered_idle : (a : ℕ) (r : Result (Entry D × World D) FailureKind) → doing_for (handed a) ≡ None → Answers (Within (Bound q handed a)) r → Answers (EnteredTo (Asked q handed) (After q handed)) r
    entered_idle a (Ok (entry.Answered reply, v)) idle k = let active : doing_for (handed v.active) ≡ None = subst (λ t. doing_for (handed t) ≡ None) (sym k.own) idle in told_idle v.active reply v active (by_active a v k)
    entered_idle a (Ok (entry.AtBranch, v)) idle k = asked_idle a v idle k
    entered_idle a (Ok (entry.Spurious m, v)) idle k = λ is_spurious. by_wait (waits is_spurious m v) (enters_wait_moves (Bound q handed a) (held_by_moves n q (except a handed) a) is_spurious m v k)
      where
        by_wait : (r : Result (⊤ × World D) FailureKind) → Answers (Within (Bound q handed a)) r → Answers (λ after. Asked q handed after.1) r
        by_wait (Ok after) h = asked_idle a after.1 idle h
        by_wait (Err kind) h = tt
    entered_idle a (Ok (entry.Explores todo, v)) idle k = let active : doing_for (handed v.active) ≡ None = subst (λ t. doing_for (handed t) ≡ None) (sym k.own) idle in told_idle v.active reply.Done v active (by_active a v k)
    entered_idle a (Err kind) idle k = tt

    -- ---- moves of channels

    -- a channel with the same messages, or another channel
    same_bound : (a m : ℕ) (channel after : Channel D) (w : World D) → slice_get w.objects m ≡ Some (object.Channel channel) → after.messages ≡ channel.messages
        → Bound q handed a w → Bound q handed a (with_channel m after w)
    same_bound a m channel after w there same k = record {
      queue =
          let e = set_same w.objects m n (object.Channel after) (subst (λ o. map value_of after.messages ≡ values_at o) (sym there) (ap (map value_of) same)) in
          let f = k.queue in cc (e, f);
      pending = k.pending;
      own = k.own;
      idle = k.idle;
      there = k.there;
    }

    off_bound : (a m : ℕ) (x : Object D) (w : World D) → (m ≡ n → ⊥) → Bound q handed a w → IsHeld n q (except a handed) a (slice_set w.objects m x) w.threads w.active
    off_bound a m x w off k = record {
      queue = let e = set_off w.objects m n x off in let f = k.queue in cc (e, f);
      pending = k.pending;
      own = k.own;
      idle = k.idle;
      there = k.there;
    }

    -- this channel, with other messages
    on_bound : (a m : ℕ) (channel after : Channel D) (w : World D) (values : List D) → slice_get w.objects m ≡ Some (object.Channel channel) → m ≡ n → map value_of after.messages ≡ map single values
        → Bound q handed a w → Held n values (except a handed) a (with_channel m after w)
    on_bound a m channel after w values there same e k = record {
      queue =
          let here : slice_get (slice_set w.objects m (object.Channel after)) m ≡ Some (object.Channel after) = set_there w.objects m (object.Channel after) (object.Channel channel) there in
          let known : values_at (slice_get (slice_set w.objects m (object.Channel after)) m) ≡ map single values = subst (λ o. values_at o ≡ map single values) (sym here) e in
          subst (λ i. values_at (slice_get (slice_set w.objects m (object.Channel after)) i) ≡ map single values) same known;
      pending = k.pending;
      own = k.own;
      idle = k.idle;
      there = k.there;
    }

    messages_are : (a m : ℕ) (channel : Channel D) (w : World D) → slice_get w.objects m ≡ Some (object.Channel channel) → m ≡ n → Bound q handed a w → map value_of channel.messages ≡ map single q
    messages_are a m channel w there same k = subst (λ o. values_at o ≡ map single q) there (subst (λ i. values_at (slice_get w.objects i) ≡ map single q) (sym same) k.queue)

    -- ---- a message is sent

    sent_after : (m : ℕ) (value : D) (t : ℕ) (w : World D) → handed t ≡ Some (channel_op.Send m value) → ((m ≡ n) → Bound (q ++ value ∷ []) handed t w) → ((m ≡ n → ⊥) → Bound q handed t w) → w.active ≡ t
        → IsAfter q handed (turn.Reply w.active reply.Done) w
    sent_after m value t w mine on off own = record {
      sent = λ u other s. let said : w.active ≡ u = cc s.1 in sent_so u other s.0 (cc (own, said));
      received = λ u other s. absurd (cc s.1);
      passed = λ none_sent none_received. by_number none_sent (decided m n);
    }
      where
        sent_so : (u : ℕ) (other : D) → handed u ≡ Some (channel_op.Send n other) → t ≡ u → Bound (q ++ other ∷ []) handed u w
        sent_so u other e same =
            let known : handed u ≡ Some (channel_op.Send m value) = subst (λ i. handed i ≡ Some (channel_op.Send m value)) same mine in
            let it : m ≡ n = cc (known, e) in let so : value ≡ other = cc (known, e) in
            subst (λ v. Bound (q ++ v ∷ []) handed u w) so (subst (λ i. Bound (q ++ value ∷ []) handed i w) same (on it))

        by_number : ((u : ℕ) (other : D) → IsSent n handed u other (turn.Reply w.active reply.Done) → ⊥) → (m ≡ n) ⊎ (m ≡ n → ⊥) → Bound q handed w.active w
        by_number none_sent (inl same) = absurd (none_sent t value (subst (λ i. handed t ≡ Some (channel_op.Send i value)) same mine, ap (λ i. turn.Reply i reply.Done) own))
        by_number none_sent (inr away) = subst (λ i. Bound q handed i w) (sym own) (off away)

    delivers_after : (has_receiver : Bool) (channel : Channel D) (m : ℕ) (sent : List (Message D)) (message : Message D) (t : ℕ) (w : World D) (value : D) → slice_get w.objects m ≡ Some (object.Channel channel)
        → handed t ≡ Some (channel_op.Send m value) → map value_of sent ≡ (value ∷ []) ∷ [] → Bound q handed t w → Answers (ReplyTo (Asked q handed) (After q handed)) (delivers has_receiver channel m sent message w)
    delivers_after false channel m sent message t w value there mine so k =
        answers_then (ReplyTo (Asked q handed) (After q handed)) (found (first_of message.value) Misuse) _ (λ back. told_other w.active (reply.SendError back) w (λ e. cc e) (λ v e. cc e) (by_active t w k))
    delivers_after true channel m sent message t w value there mine so k =
        answers_then (ReplyTo (Asked q handed) (After q handed)) (check (fits_behind channel.messages sent) TooManySteps) _ (λ u.
        let after : Channel D = record channel { messages = channel.messages ++ sent } in
        let base : World D = stamps m message.stamp (releases m (with_channel m after w)) in
        let active = wakes_active (is_none_left channel.messages) m base in
        let own = k.own in
        sent_after m value t (wakes_if (is_none_left channel.messages) m base) mine
        (λ same. wakes_bound (q ++ value ∷ []) (except t handed) t (is_none_left channel.messages) m base (on_bound t m channel after w (q ++ value ∷ []) there same (behind channel (messages_are t m channel w there same k)) k))
        (λ away. wakes_bound q (except t handed) t (is_none_left channel.messages) m base (off_bound t m (object.Channel after) w away k))
        (cc (active, own)))
      where
        behind : (channel : Channel D) → map value_of channel.messages ≡ map single q → map value_of (channel.messages ++ sent) ≡ map single (q ++ value ∷ [])
        behind channel e = let f = map-append value_of channel.messages sent in let g = map-append (single {D = D}) q (value ∷ []) in cc (e, f, g, so)

    sends_after : (m : ℕ) (sent : List (Message D)) (t : ℕ) (w : World D) (value : D) → handed t ≡ Some (channel_op.Send m value) → map value_of sent ≡ (value ∷ []) ∷ [] → Bound q handed t w
        → Answers (ReplyTo (Asked q handed) (After q handed)) (sends m sent w)
    sends_after m sent t w value mine so k =
        sender_so (ReplyTo (Asked q handed) (After q handed)) m w _ (λ channel there. answers_then (ReplyTo (Asked q handed) (After q handed)) (found (first_of sent) Misuse) _ (λ message.
        delivers_after channel.has_receiver channel m sent message t w value there mine so k))

    -- ---- a message is received

    received_after : (m : ℕ) (value : D) (t : ℕ) (w : World D) → (handed t ≡ Some (channel_op.Recv m)) ⊎ (handed t ≡ Some (channel_op.TryRecv m))
        → (m ≡ n → (rest : List D) × ((q ≡ value ∷ rest) × Bound rest handed t w)) → ((m ≡ n → ⊥) → Bound q handed t w) → w.active ≡ t → IsAfter q handed (turn.Reply w.active (reply.Data value)) w
    received_after m value t w mine on off own = record {
      sent = λ u other s. absurd (cc s.1);
      received = λ u other s. let said : w.active ≡ u = cc s.1 in let so : value ≡ other = cc s.1 in received_so u other s.0 (cc (own, said)) so;
      passed = λ none_sent none_received. by_number none_received (decided m n);
    }
      where
        received_so : (u : ℕ) (other : D) → (handed u ≡ Some (channel_op.Recv n)) ⊎ (handed u ≡ Some (channel_op.TryRecv n)) → t ≡ u → value ≡ other → (rest : List D) × ((q ≡ other ∷ rest) × Bound rest handed u w)
        received_so u other e same so =
            let it : m ≡ n = same_channel m (handed u) (subst (λ i. (handed i ≡ Some (channel_op.Recv m)) ⊎ (handed i ≡ Some (channel_op.TryRecv m))) same mine) e in
            let r = on it in (r.0, (subst (λ v. q ≡ v ∷ r.0) so r.1.0, subst (λ i. Bound r.0 handed i w) same r.1.1))

        by_number : ((u : ℕ) (other : D) → IsReceived n handed u other (turn.Reply w.active (reply.Data value)) → ⊥) → (m ≡ n) ⊎ (m ≡ n → ⊥) → Bound q handed w.active w
        by_number none_received (inl same) =
            absurd (none_received t value (subst (λ i. (handed t ≡ Some (channel_op.Recv i)) ⊎ (handed t ≡ Some (channel_op.TryRecv i))) same mine, ap (λ i. turn.Reply i (reply.Data value)) own))
        by_number none_received (inr away) = subst (λ i. Bound q handed i w) (sym own) (off away)

    none_left_told : (by : Receiving) (w : World D) → Bound q handed w.active w → IsAfter q handed (turn.Reply w.active (none_left by)) w
    none_left_told receiving.Recv w k = told_other w.active reply.RecvError w (λ e. cc e) (λ v e. cc e) k
    none_left_told receiving.TryRecv w k = told_other w.active reply.Disconnected w (λ e. cc e) (λ v e. cc e) k

    receives_from_after : (by : Receiving) (m : ℕ) (channel : Channel D) (messages : List (Message D)) (t : ℕ) (w : World D) → slice_get w.objects m ≡ Some (object.Channel channel) → channel.messages ≡ messages
        → (handed t ≡ Some (channel_op.Recv m)) ⊎ (handed t ≡ Some (channel_op.TryRecv m)) → Bound q handed t w → Answers (ReplyTo (Asked q handed) (After q handed)) (receives_from by m channel messages w)
    receives_from_after by m channel [] t w there e mine k = none_left_told by w (by_active t w k)
    receives_from_after by m channel (message ∷ rest) t w there e mine k =
        found_so (ReplyTo (Asked q handed) (After q handed)) (first_of message.value) Misuse _ (λ value f.
        let after : Channel D = record channel { messages = rest } in
        let base : World D = acquires_from_stamp message.stamp (with_channel m after w) in
        let blocks = is_none_left rest && nat_lt 0 channel.senders in
        let active = blocks_active blocks m base in
        let own = k.own in
        received_after m value t (blocks_if blocks m base) mine
        (λ same.
        let known : message.value ∷ map value_of rest ≡ map single q = subst (λ list. map value_of list ≡ map single q) e (messages_are t m channel w there same k) in
        let s = split_queue message.value (map value_of rest) q known in
        let it : s.0 ≡ value = first_is message.value s.0 value s.1.1.1.0 f in
        (s.1.0, (subst (λ v. q ≡ v ∷ s.1.0) it s.1.1.0, blocks_bound s.1.0 (except t handed) t blocks m base (on_bound t m channel after w s.1.0 there same s.1.1.1.1 k))))
        (λ away. blocks_bound q (except t handed) t blocks m base (off_bound t m (object.Channel after) w away k))
        (cc (active, own)))
      where
        first_is : (values : List D) (x value : D) → values ≡ x ∷ [] → first_of values ≡ Some value → x ≡ value
        first_is values x value e f = let g : first_of (x ∷ []) ≡ Some value = subst (λ list. first_of list ≡ Some value) e f in cc g

    receives_after : (by : Receiving) (m : ℕ) (t : ℕ) (w : World D) → (handed t ≡ Some (channel_op.Recv m)) ⊎ (handed t ≡ Some (channel_op.TryRecv m)) → Bound q handed t w
        → Answers (ReplyTo (Asked q handed) (After q handed)) (receives by m w)
    receives_after by m t w mine k = receiver_so (ReplyTo (Asked q handed) (After q handed)) m w _ (λ channel there. receives_from_after by m channel channel.messages t w there refl mine k)

    -- ---- the receiver of another channel is dropped

    drains_on_after : (is_last : Bool) (m : ℕ) (taken : List D) (t : ℕ) (w : World D) → handed t ≡ Some (channel_op.DropReceiver m) → (m ≡ n → ⊥) → Bound q handed t w
        → Answers (PassedTo (Asked q handed) (After q handed)) (drains_on is_last m taken w)
    drains_on_after true m taken t w mine away k =
        receiver_so (PassedTo (Asked q handed) (After q handed)) m w _ (λ channel there.
        let left : World D = with_channel m (record channel { has_receiver = false }) w in
        told_other w.active (reply.Messages taken) left (λ e. cc e) (λ v e. cc e) (by_active t left (off_bound t m _ w away k)))
    drains_on_after false m taken t w mine away k = pends_asked (task.Drain m taken) false t w (sym (ap doing_for mine)) k

    drains_from_after : (m : ℕ) (taken : List D) (channel : Channel D) (messages : List (Message D)) (t : ℕ) (w : World D) → handed t ≡ Some (channel_op.DropReceiver m) → (m ≡ n → ⊥) → Bound q handed t w
        → Answers (PassedTo (Asked q handed) (After q handed)) (drains_from m taken channel messages w)
    drains_from_after m taken channel [] t w mine away k = drains_on_after true m taken t w mine away k
    drains_from_after m taken channel (message ∷ rest) t w mine away k =
        answers_then (PassedTo (Asked q handed) (After q handed)) (check (fits_behind taken message.value) TooManySteps) _ (λ u.
        let after : Channel D = record channel { messages = rest } in
        let base : World D = acquires_from_stamp message.stamp (with_channel m after w) in
        let blocks = is_none_left rest && nat_lt 0 channel.senders in
        drains_on_after (is_none_left rest) m (taken ++ message.value) t (takes m channel message rest w) mine away (blocks_bound q (except t handed) t blocks m base (off_bound t m (object.Channel after) w away k)))

    drains_after : (m : ℕ) (taken : List D) (t : ℕ) (w : World D) → handed t ≡ Some (channel_op.DropReceiver m) → (m ≡ n → ⊥) → Bound q handed t w → Answers (PassedTo (Asked q handed) (After q handed)) (drains m taken w)
    drains_after m taken t w mine away k = receiver_so (PassedTo (Asked q handed) (After q handed)) m w _ (λ channel there. drains_from_after m taken channel channel.messages t w mine away k)

    -- ---- what was pending takes effect

    replied_after : (r : Result (Reply D × World D) FailureKind) → Answers (ReplyTo (Asked q handed) (After q handed)) r → Answers (ResumedTo (Asked q handed) (After q handed)) (r >>= replied)
    replied_after (Ok (reply, v)) h = h
    replied_after (Err kind) h = tt

    gone_after : (r : Result (Passed D × World D) FailureKind) → Answers (PassedTo (Asked q handed) (After q handed)) r → Answers (ResumedTo (Asked q handed) (After q handed)) (r >>= gone)
    gone_after (Ok (passed, v)) h = h
    gone_after (Err kind) h = tt

    module _ (never : (t : ℕ) → handed t ≡ Some (channel_op.DropReceiver n) → ⊥) where
      effect_after : (todo : Task D) (t : ℕ) (w : World D) → Kind todo → doing todo ≡ doing_for (handed t) → Bound q handed t w → Answers (ResumedTo (Asked q handed) (After q handed)) (takes_effect todo w)
      effect_after todo t w (sending m sent) e k = let s = sends_for m (map value_of sent) (handed t) e in replied_after _ (sends_after m sent t w s.0 s.1.0 s.1.1 k)
      effect_after todo t w (receiving_by by m) e k = replied_after _ (receives_after by m t w (receives_for m (handed t) e) k)
      effect_after todo t w (draining m taken) e k =
          let mine = drains_for m (handed t) e in gone_after _ (drains_after m taken t w mine (λ same. never t (subst (λ i. handed t ≡ Some (channel_op.DropReceiver i)) same mine)) k)
      effect_after todo t w (idles idle none) e k =
          let nothing_for : doing_for (handed t) ≡ None = cc (e, none) in
          resumed_idle t (takes_effect todo w) nothing_for
          (effect_moves (Bound q handed t) (held_by_moves n q (except t handed) t) todo w
          (λ m sent f. let busy : doing todo ≡ Some (Sends m (map value_of sent)) = ap doing f in absurd (cc (busy, none)))
          (λ by m f. let busy : doing todo ≡ Some (Receives m) = ap doing f in absurd (cc (busy, none)))
          (λ m taken f. let busy : doing todo ≡ Some (Drains m) = ap doing f in absurd (cc (busy, none))) k)
          (effect_tells todo w)

      -- the chosen thread has its turn, and nothing pending any more
      chosen_bound : (t : ℕ) (w : World D) (thread : Thread D) → slice_get w.threads t ≡ Some thread → Asked q handed w
          → IsHeld n q (except t handed) t w.objects (slice_set (map runs_again w.threads) t (record thread { task = task.Body })) t
      chosen_bound t w thread there k = record {
        queue = k.queue;
        pending = λ u. by_number u (decided u t);
        own = refl;
        idle = cond_here t t None (doing_for (handed t)) refl;
        there = set_stays (map runs_again w.threads) t t body (map_there runs_again w.threads t (subst (λ o. is_some o ≡ true) (sym there) refl));
      }
        where
          body : Thread D
          body = record thread { task = task.Body }

          by_number : (u : ℕ) → (u ≡ t) ⊎ (u ≡ t → ⊥) → doing_at (slice_get (slice_set (map runs_again w.threads) t body) u) ≡ except t handed u
          by_number u (inl same) =
              let e : except t handed u ≡ None = cond_here u t None (doing_for (handed u)) same in
              let f : doing_at (slice_get (slice_set (map runs_again w.threads) t body) u) ≡ None = subst (λ i. doing_at (slice_get (slice_set (map runs_again w.threads) t body) i) ≡ None) (sym same) (none_here (map runs_again w.threads) t) in cc (e, f)
            where
              none_here : (threads : List (Thread D)) (i : ℕ) → doing_at (slice_get (slice_set threads i body) i) ≡ None
              none_here [] i = refl
              none_here (x ∷ threads) zero = refl
              none_here (x ∷ threads) (suc i) = none_here threads i
          by_number u (inr off) =
              let e : except t handed u ≡ doing_for (handed u) = cond_off u t None (doing_for (handed u)) off in
              let f = set_doing_off (map runs_again w.threads) t u body (λ g. off (sym g)) in
              let h = map_doing runs_again w.threads (λ other. refl) u in
              let i = k.pending u in cc (e, f, h, i)

      chosen_after : (t : ℕ) (w : World D) → Asked q handed w → Answers (ResumedTo (Asked q handed) (After q handed)) (chosen t w)
      chosen_after t w k = by_chosen (chooses t w) (found_so Ready (slice_get w.threads t) Misuse _ (λ thread there. (is_doing thread there, chosen_bound t w thread there k)))
        where
          Ready : Task D × World D → Type 0
          Ready taken = (doing taken.0 ≡ doing_for (handed t)) × Bound q handed t taken.1

          is_doing : (thread : Thread D) → slice_get w.threads t ≡ Some thread → doing thread.task ≡ doing_for (handed t)
          is_doing thread there = subst (λ o. doing_at o ≡ doing_for (handed t)) there (k.pending t)

          by_chosen : (r : Result (Task D × World D) FailureKind) → Answers Ready r → Answers (ResumedTo (Asked q handed) (After q handed)) (r >>= (λ taken. takes_effect taken.0 taken.1))
          by_chosen (Ok taken) h = effect_after taken.0 t taken.1 (kind_of taken.0) h.0 h.1
          by_chosen (Err kind) h = tt

      end_after : (w : World D) → Answers (After q handed) (end_of w)
      end_after w = answers_then (After q handed) (check_leak (first_leak w.objects)) _ (λ u. answers_then (After q handed) (takes_result 0 w) _ (λ taken. over taken.0 taken.1))

      -- ---- an operation begins

      -- a channel operation, by the thread whose turn it is
      channel_after : (todo : ChannelOp D) (a : ℕ) (w : World D) → handed a ≡ Some todo → Bound q handed a w → Answers (EnteredTo (Asked q handed) (After q handed)) (channel_begins todo w)
      channel_after channel_op.New a w mine k =
          entered_idle a (channel_begins channel_op.New w) (ap doing_for mine) (record {
            queue = let e = more_same w.objects n (object.Channel (record { senders = 1; has_receiver = true; messages = [] })) refl in let f = k.queue in cc (e, f);
            pending = k.pending;
            own = k.own;
            idle = k.idle;
            there = k.there;
          })
      channel_after (channel_op.Send m value) a w mine k =
          sender_so (EnteredTo (Asked q handed) (After q handed)) m w _ (λ channel there. pends_asked (task.Send m (record { value = value ∷ []; stamp = length w.points.stamps } ∷ [])) false a w (sym (ap doing_for mine)) k)
      channel_after (channel_op.Recv m) a w mine k =
          receiver_so (EnteredTo (Asked q handed) (After q handed)) m w _ (λ channel there. pends_asked (task.Receive receiving.Recv m) (is_none_left channel.messages && nat_lt 0 channel.senders) a w (sym (ap doing_for mine)) k)
      channel_after (channel_op.TryRecv m) a w mine k = receiver_so (EnteredTo (Asked q handed) (After q handed)) m w _ (λ channel there. by_test (is_none_left channel.messages))
        where
          by_test : (is_empty : Bool) → Answers (EnteredTo (Asked q handed) (After q handed)) (tries_recv is_empty m w)
          by_test true = told_other w.active reply.Empty w (λ e. cc e) (λ v e. cc e) (by_active a w k)
          by_test false = pends_asked (task.Receive receiving.TryRecv m) false a w (sym (ap doing_for mine)) k
      channel_after (channel_op.CloneSender m) a w mine k =
          entered_idle a (channel_begins (channel_op.CloneSender m) w) (ap doing_for mine) (sender_so (Within (Bound q handed a)) m w _ (λ channel there.
          answers_then (Within (Bound q handed a)) (check (nat_lt channel.senders highest_count) TooManySteps) _ (λ u. same_bound a m channel (record channel { senders = channel.senders + 1 }) w there refl k)))
      channel_after (channel_op.DropSender m) a w mine k =
          entered_idle a (channel_begins (channel_op.DropSender m) w) (ap doing_for mine) (sender_so (Within (Bound q handed a)) m w _ (λ channel there.
          let left : World D = with_channel m (record channel { senders = channel.senders - 1 }) w in
          wakes_bound q (except a handed) a (channel.senders == 1) m left (same_bound a m channel (record channel { senders = channel.senders - 1 }) w there refl k)))
      channel_after (channel_op.DropReceiver m) a w mine k = receiver_so (EnteredTo (Asked q handed) (After q handed)) m w _ (λ channel there. by_test channel there (nat_lt 0 (length channel.messages)))
        where
          by_test : (channel : Channel D) → slice_get w.objects m ≡ Some (object.Channel channel) → (is_some_left : Bool) → Answers (EnteredTo (Asked q handed) (After q handed)) (drains_if is_some_left channel m w)
          by_test channel there true = pends_asked (task.Drain m []) false a w (sym (ap doing_for mine)) k
          by_test channel there false =
              let left : World D = with_channel m (record channel { has_receiver = false }) w in
              told_other w.active (reply.Messages []) left (λ e. cc e) (λ v e. cc e) (by_active a left (same_bound a m channel (record channel { has_receiver = false }) w there refl k))

      finish_bound : (value : D) (a : ℕ) (w : World D) → Bound q handed a w → Answers (Within (Bound q handed a)) (finish value w)
      finish_bound value a w k =
          answers_then (Within (Bound q handed a)) (active_thread w) _ (λ thread. answers_then (Within (Bound q handed a)) (check (is_working thread.phase) Misuse) _ (λ u.
          by_notifier thread.notifier (changes_active (at_phase Finished) w) ((held_by_moves n q (except a handed) a).changed (at_phase Finished) w.active w (λ other. record { shut = λ e. absurd (cc e); own = refl; same = refl }) k)))
        where
          by_notifier : (notifier : Option ℕ) (v : World D) → Bound q handed a v → Answers (Within (Bound q handed a)) (finish_as notifier value v)
          by_notifier None v s = (held_by_moves n q (except a handed) a).changed (having value) v.active v (λ other. record { shut = λ e. e; own = refl; same = refl }) s
          by_notifier (Some m) v s = (held_by_moves n q (except a handed) a).turned (pending (task.Finish m value) false) v (λ other. record { shut = λ e. e; own = refl; idle = refl }) s

      lazy_bound : (todo : LazyOp D) (a : ℕ) (w : World D) → Bound q handed a w → Answers (Within (Bound q handed a)) (lazy_begins todo w)
      lazy_bound (lazy_op.Get key) a w k = answers_then (Within (Bound q handed a)) (check (are_open w) LazyShutdown) _ (λ u. by_lazy (lazy_at key w))
        where
          by_lazy : (lazy : Option (Lazy D)) → Answers (Within (Bound q handed a)) (reads_lazy lazy w)
          by_lazy None = k
          by_lazy (Some lazy) = k
      lazy_bound (lazy_op.Init key value) a w k = answers_then (Within (Bound q handed a)) (check (are_open w) LazyShutdown) _ (λ u. by_lazy (lazy_at key w))
        where
          by_lazy : (lazy : Option (Lazy D)) → Answers (Within (Bound q handed a)) (makes_lazy key value lazy w)
          by_lazy None = k
          by_lazy (Some lazy) = k

      -- any other one
      ordinary_after : (todo : Request D ⊤) (a : ℕ) (w : World D) → of_channel todo ≡ None → handed a ≡ of_channel todo → Bound q handed a w → Answers (EnteredTo (Asked q handed) (After q handed)) (op_begins todo w)
      ordinary_after todo a w none mine k =
          let nothing_for : doing_for (handed a) ≡ None = subst (λ o. doing_for o ≡ None) (sym mine) (ap doing_for none) in
          entered_idle a (op_begins todo w) nothing_for (begins_moves (Bound q handed a) (held_by_moves n q (except a handed) a) todo w (λ asked e s. held_turned n q (except a handed) a (pending (task.Access asked) false) w (λ thread. refl) s) (λ value. finish_bound value a w k)
          (λ asked e. let busy : of_channel todo ≡ Some asked = ap of_channel e in absurd (cc (busy, none))) (λ asked. lazy_bound asked a w k) k)

      begins_after : (todo : Request D ⊤) (a : ℕ) (w : World D) → handed a ≡ of_channel todo → Bound q handed a w → Answers (EnteredTo (Asked q handed) (After q handed)) (op_begins todo w)
      begins_after (op.Channel todo) a w mine k = channel_after todo a w mine k
      begins_after todo a w mine k = ordinary_after todo a w refl mine k

      -- the active thread has handed over its operation
      pub event_after : (todo : Request D ⊤) (a : ℕ) (c : Course D) → handed a ≡ of_channel todo → Bound q handed a c.world → Keeps (InWorld (After q handed)) (submit todo c)
      event_after todo a c mine k =
          event_kept (Asked q handed) (After q handed) (λ t w h. chosen_after t w h) (λ w h. end_after w) todo c
          (answers_then (EnteredTo (Asked q handed) (After q handed)) (check (nat_lt 0 c.world.steps_left) TooManySteps) _ (λ u. begins_after todo a (record c.world { steps_left = c.world.steps_left - 1 }) mine k))
