-- The values in a channel, and what threads are about to do to it: what moves leave of both.
use Rattle.std.proofs.Common.{◌≡◌, ℕ, zero, suc, Bool, true, false, List, [], ◌∷◌, ◌++◌, map, Option, Some, None, refl, ap, subst, sym, inl, inr, eqb-true}
use Rattle.std.proofs.lemmas.Bool.{eq-eqb}
use Rattle.std.specs.Prelude.{◌==◌, ◌⊎◌, ◌||◌, cond, is_some, nat_lt, slice_get, slice_set, Result, Ok}
use Rattle.loom_views.specs.declared.rt.failure.FailureKind.{FailureKind}
use Rattle.loom_views.specs.declared.rt.failure.FailureKind.TheVariants.{Misuse}
use Rattle.loom_objects.specs.declared.operation.ChannelOp.{ChannelOp}
use Rattle.loom_objects.specs.declared.operation.ChannelOp.TheVariants as channel_op
use Rattle.loom_objects.specs.declared.operation.Message.{Message}
use Rattle.loom_objects.specs.declared.rt.object.Object.{Object}
use Rattle.loom_objects.specs.declared.rt.object.Object.TheVariants as object
use Rattle.loom_objects.specs.declared.rt.mpsc.Channel.{Channel}
use Rattle.loom_objects.specs.declared.rt.thread.Receiving.{Receiving}
use Rattle.loom_objects.specs.declared.rt.thread.Task.{Task}
use Rattle.loom_objects.specs.declared.rt.thread.Task.TheVariants as task
use Rattle.loom_objects.specs.declared.rt.thread.Thread.{Thread}
use Rattle.loom_objects.specs.Rules.Mpsc.{by_receiver, by_sender}
use Rattle.loom_objects.specs.Scene.Lookup.{channel_in, looked_up}
use Rattle.loom_objects.specs.Rules.Moves.{changed_at, with_thread, changes_active}
use Rattle.loom_objects.specs.Rules.Rule.{◌>>=◌, check, found}
use Rattle.loom_objects.specs.World.{World}
use Rattle.loom_engine.proofs.Runs.Answering.{Answers}
use Rattle.loom_engine.proofs.Runs.Kept.{AwayAt, Doing, Drains, IsAway, KeptByMoves, Receives, Sends, doing, not_calling, value_of}

-- of a test on all of a list
pub neither : (b c : Bool) → (b || c) ≡ false → (b ≡ false) × (c ≡ false)
neither true c e = absurd (cc e)
neither false c e = (refl, e)

-- it goes on with what is found there
pub found_so : {A B : Type 0} (P : A → Type 0) (o : Option B) (kind : FailureKind) (next : B → Result A FailureKind) → ((b : B) → o ≡ Some b → Answers P (next b)) → Answers P (found o kind >>= next)
found_so P None kind next h = tt
found_so P (Some b) kind next h = h b refl

-- ---- threads by their numbers

pub decided : (u a : ℕ) → (u ≡ a) ⊎ (u ≡ a → ⊥)
decided u a = by_test (u == a) refl
  where
    by_test : (b : Bool) → (u == a) ≡ b → (u ≡ a) ⊎ (u ≡ a → ⊥)
    by_test true e = inl (eqb-true u a e)
    by_test false e = inr (λ same. let own : (u == a) ≡ true = eq-eqb u a same in cc (e, own))

pub cond_here : {A : Type 0} (u a : ℕ) (one other : A) → u ≡ a → cond (u == a) one other ≡ one
cond_here u a one other same = by_test (u == a) (eq-eqb u a same)
  where
    by_test : (b : Bool) → b ≡ true → cond b one other ≡ one
    by_test true e = refl
    by_test false e = absurd (cc e)

pub cond_off : {A : Type 0} (u a : ℕ) (one other : A) → (u ≡ a → ⊥) → cond (u == a) one other ≡ other
cond_off u a one other off = by_test (u == a) refl
  where
    by_test : (b : Bool) → (u == a) ≡ b → cond b one other ≡ other
    by_test true e = absurd (off (eqb-true u a e))
    by_test false e = refl

module _ {D : Type 0} where
  -- ---- the messages of a channel

  abbrev pub single : D → List D
  single value = value ∷ []

  abbrev pub values_in : Object D → List (List D)
  values_in (object.Channel channel) = map value_of channel.messages
  values_in _ = []

  abbrev pub values_at : Option (Object D) → List (List D)
  values_at None = []
  values_at (Some x) = values_in x

  pub away_empty : (x : Object D) → IsAway x → values_in x ≡ []
  away_empty (object.Channel channel) h = absurd h
  away_empty _ h = refl

  pub set_same : (objects : List (Object D)) (m n : ℕ) (x : Object D) → values_in x ≡ values_at (slice_get objects m) → values_at (slice_get (slice_set objects m x) n) ≡ values_at (slice_get objects n)
  set_same [] m n x e = refl
  set_same (y ∷ objects) zero zero x e = e
  set_same (y ∷ objects) zero (suc n) x e = refl
  set_same (y ∷ objects) (suc m) zero x e = refl
  set_same (y ∷ objects) (suc m) (suc n) x e = set_same objects m n x e

  pub set_off : (objects : List (Object D)) (m n : ℕ) (x : Object D) → (m ≡ n → ⊥) → values_at (slice_get (slice_set objects m x) n) ≡ values_at (slice_get objects n)
  set_off [] m n x off = refl
  set_off (y ∷ objects) zero zero x off = absurd (off refl)
  set_off (y ∷ objects) zero (suc n) x off = refl
  set_off (y ∷ objects) (suc m) zero x off = refl
  set_off (y ∷ objects) (suc m) (suc n) x off = set_off objects m n x (λ e. off (ap suc e))

  pub set_there : (objects : List (Object D)) (n : ℕ) (x y : Object D) → slice_get objects n ≡ Some y → slice_get (slice_set objects n x) n ≡ Some x
  set_there [] n x y e = absurd (cc e)
  set_there (z ∷ objects) zero x y e = refl
  set_there (z ∷ objects) (suc n) x y e = set_there objects n x y e

  pub more_same : (objects : List (Object D)) (n : ℕ) (x : Object D) → values_in x ≡ [] → values_at (slice_get (objects ++ x ∷ []) n) ≡ values_at (slice_get objects n)
  more_same [] zero x e = e
  more_same [] (suc n) x e = refl
  more_same (y ∷ objects) zero x e = refl
  more_same (y ∷ objects) (suc n) x e = more_same objects n x e

  pub away_at : (o : Option (Object D)) → AwayAt o → values_at o ≡ []
  away_at None h = absurd h
  away_at (Some x) h = away_empty x h

  -- ---- what threads are about to do

  abbrev pub doing_at : Option (Thread D) → Option (Doing D)
  doing_at None = None
  doing_at (Some thread) = doing thread.task

  -- what a thread is about to do that has handed this over
  abbrev pub doing_for : Option (ChannelOp D) → Option (Doing D)
  doing_for None = None
  doing_for (Some channel_op.New) = None
  doing_for (Some (channel_op.Send m value)) = Some (Sends m ((value ∷ []) ∷ []))
  doing_for (Some (channel_op.Recv m)) = Some (Receives m)
  doing_for (Some (channel_op.TryRecv m)) = Some (Receives m)
  doing_for (Some (channel_op.CloneSender m)) = None
  doing_for (Some (channel_op.DropSender m)) = None
  doing_for (Some (channel_op.DropReceiver m)) = Some (Drains m)

  pub set_doing : (threads : List (Thread D)) (t u : ℕ) (after : Thread D) → doing after.task ≡ doing_at (slice_get threads t) → doing_at (slice_get (slice_set threads t after) u) ≡ doing_at (slice_get threads u)
  set_doing [] t u after e = refl
  set_doing (x ∷ threads) zero zero after e = e
  set_doing (x ∷ threads) zero (suc u) after e = refl
  set_doing (x ∷ threads) (suc t) zero after e = refl
  set_doing (x ∷ threads) (suc t) (suc u) after e = set_doing threads t u after e

  pub set_doing_off : (threads : List (Thread D)) (t u : ℕ) (after : Thread D) → (t ≡ u → ⊥) → doing_at (slice_get (slice_set threads t after) u) ≡ doing_at (slice_get threads u)
  set_doing_off [] t u after off = refl
  set_doing_off (x ∷ threads) zero zero after off = absurd (off refl)
  set_doing_off (x ∷ threads) zero (suc u) after off = refl
  set_doing_off (x ∷ threads) (suc t) zero after off = refl
  set_doing_off (x ∷ threads) (suc t) (suc u) after off = set_doing_off threads t u after (λ e. off (ap suc e))

  -- what the thread does that has become so, where there is one
  pub set_doing_here : (threads : List (Thread D)) (t : ℕ) (before after : Thread D) → slice_get threads t ≡ Some before → doing_at (slice_get (slice_set threads t after) t) ≡ doing after.task
  set_doing_here [] t before after e = absurd (cc e)
  set_doing_here (x ∷ threads) zero before after e = refl
  set_doing_here (x ∷ threads) (suc t) before after e = set_doing_here threads t before after e

  pub with_doing : (change : Thread D → Thread D) (t : ℕ) (threads : List (Thread D)) → ((thread : Thread D) → slice_get threads t ≡ Some thread → doing (change thread).task ≡ doing thread.task)
      → (u : ℕ) → doing_at (slice_get (with_thread change t threads) u) ≡ doing_at (slice_get threads u)
  with_doing change t threads same u = by_thread (slice_get threads t) refl
    where
      by_thread : (o : Option (Thread D)) → slice_get threads t ≡ o → doing_at (slice_get (changed_at change t o threads) u) ≡ doing_at (slice_get threads u)
      by_thread None e = refl
      by_thread (Some thread) e = set_doing threads t u (change thread) (subst (λ o. doing (change thread).task ≡ doing_at o) (sym e) (same thread e))

  pub map_doing : (change : Thread D → Thread D) (threads : List (Thread D)) → ((thread : Thread D) → doing (change thread).task ≡ doing thread.task)
      → (u : ℕ) → doing_at (slice_get (map change threads) u) ≡ doing_at (slice_get threads u)
  map_doing change [] same u = refl
  map_doing change (x ∷ threads) same zero = same x
  map_doing change (x ∷ threads) same (suc u) = map_doing change threads same u

  pub more_doing : (threads : List (Thread D)) (child : Thread D) → doing child.task ≡ None → (u : ℕ) → doing_at (slice_get (threads ++ child ∷ []) u) ≡ doing_at (slice_get threads u)
  more_doing [] child e zero = e
  more_doing [] child e (suc u) = refl
  more_doing (x ∷ threads) child e zero = refl
  more_doing (x ∷ threads) child e (suc u) = more_doing threads child e u

  -- a thread that is there stays

  pub set_stays : (threads : List (Thread D)) (t a : ℕ) (after : Thread D) → is_some (slice_get threads a) ≡ true → is_some (slice_get (slice_set threads t after) a) ≡ true
  set_stays [] t a after e = e
  set_stays (x ∷ threads) zero zero after e = refl
  set_stays (x ∷ threads) zero (suc a) after e = e
  set_stays (x ∷ threads) (suc t) zero after e = e
  set_stays (x ∷ threads) (suc t) (suc a) after e = set_stays threads t a after e

  pub with_there : (change : Thread D → Thread D) (t a : ℕ) (threads : List (Thread D)) → is_some (slice_get threads a) ≡ true → is_some (slice_get (with_thread change t threads) a) ≡ true
  with_there change t a threads e = by_thread (slice_get threads t)
    where
      by_thread : (o : Option (Thread D)) → is_some (slice_get (changed_at change t o threads) a) ≡ true
      by_thread None = e
      by_thread (Some thread) = set_stays threads t a (change thread) e

  pub map_there : (change : Thread D → Thread D) (threads : List (Thread D)) (a : ℕ) → is_some (slice_get threads a) ≡ true → is_some (slice_get (map change threads) a) ≡ true
  map_there change [] a e = e
  map_there change (x ∷ threads) zero e = refl
  map_there change (x ∷ threads) (suc a) e = map_there change threads a e

  pub more_there : (threads : List (Thread D)) (child : Thread D) (a : ℕ) → is_some (slice_get threads a) ≡ true → is_some (slice_get (threads ++ child ∷ []) a) ≡ true
  more_there [] child a e = absurd (cc e)
  more_there (x ∷ threads) child zero e = refl
  more_there (x ∷ threads) child (suc a) e = more_there threads child a e

  -- ---- what is followed: the values in channel n, and what threads are about to do

  pub record IsHeld (n : ℕ) (q : List D) (expected : ℕ → Option (Doing D)) (a : ℕ) (objects : List (Object D)) (threads : List (Thread D)) (active : ℕ) : Type 0 where
    pub queue : values_at (slice_get objects n) ≡ map single q
    pub pending : (u : ℕ) → doing_at (slice_get threads u) ≡ expected u
    pub own : active ≡ a
    pub idle : expected a ≡ None
    pub there : is_some (slice_get threads a) ≡ true

  abbrev pub Held : ℕ → List D → (ℕ → Option (Doing D)) → ℕ → World D → Type 0
  Held n q expected a w = IsHeld n q expected a w.objects w.threads w.active

  -- the active thread is changed, and isn't to do anything to a channel
  pub held_turned : (n : ℕ) (q : List D) (expected : ℕ → Option (Doing D)) (a : ℕ) (change : Thread D → Thread D) (w : World D) → ((thread : Thread D) → doing (change thread).task ≡ None)
      → Held n q expected a w → Held n q expected a (changes_active change w)
  held_turned n q expected a change w idle s = record {
    queue = s.queue;
    pending = λ u. let e = with_doing change w.active w.threads (λ thread there. is_idle thread there (change thread) (idle thread)) u in let f = s.pending u in cc (e, f);
    own = s.own;
    idle = s.idle;
    there = with_there change w.active a w.threads s.there;
  }
    where
      is_idle : (thread : Thread D) → slice_get w.threads w.active ≡ Some thread → (after : Thread D) → doing after.task ≡ None → doing after.task ≡ doing thread.task
      is_idle thread there after e =
          let here : doing_at (slice_get w.threads w.active) ≡ expected w.active = s.pending w.active in
          let none : expected w.active ≡ None = subst (λ t. expected t ≡ None) (sym s.own) s.idle in
          let so : doing thread.task ≡ expected w.active = subst (λ o. doing_at o ≡ expected w.active) there here in cc (e, none, so)

  pub held_by_moves : (n : ℕ) (q : List D) (expected : ℕ → Option (Doing D)) (a : ℕ) → KeptByMoves (Held n q expected a)
  held_by_moves n q expected a = record {
    points = λ p w s. s;
    yields = λ yields w s. s;
    object = λ m x w there h s. record {
      queue = let e = set_same w.objects m n x (cc (away_empty x h, away_at (slice_get w.objects m) there)) in let f = s.queue in cc (e, f);
      pending = s.pending;
      own = s.own;
      idle = s.idle;
      there = s.there;
    };
    made = λ x w h s. record {
      queue = let e = more_same w.objects n x (away_empty x h) in let f = s.queue in cc (e, f);
      pending = s.pending;
      own = s.own;
      idle = s.idle;
      there = s.there;
    };
    changed = λ change t w same s. record {
      queue = s.queue;
      pending = λ u. let e = with_doing change t w.threads (λ thread there. ap doing (same thread).same) u in let f = s.pending u in cc (e, f);
      own = s.own;
      idle = s.idle;
      there = with_there change t a w.threads s.there;
    };
    turned = λ change w idle s. held_turned n q expected a change w (λ thread. not_calling (change thread).task (idle thread).idle) s;
    each = λ change w same s. record {
      queue = s.queue;
      pending = λ u. let e = map_doing change w.threads (λ thread. ap doing (same thread).same) u in let f = s.pending u in cc (e, f);
      own = s.own;
      idle = s.idle;
      there = map_there change w.threads a s.there;
    };
    child = λ thread w h none s. record {
      queue = s.queue;
      pending = λ u. let e = more_doing w.threads thread (not_calling thread.task none) u in let f = s.pending u in cc (e, f);
      own = s.own;
      idle = s.idle;
      there = more_there w.threads thread a s.there;
    };
  }

-- what a thread has pending, as far as it is about a channel
pub data Kind {D : Type 0} : Task D → Type 0 where
  sending : (m : ℕ) (sent : List (Message D)) → Kind (task.Send m sent)
  receiving_by : (by : Receiving) (m : ℕ) → Kind (task.Receive by m)
  draining : (m : ℕ) (taken : List D) → Kind (task.Drain m taken)
  idles : (todo : Task D) → doing todo ≡ None → Kind todo

module _ {D : Type 0} where
  pub kind_of : (todo : Task D) → Kind todo
  kind_of (task.Send m sent) = sending m sent
  kind_of (task.Receive by m) = receiving_by by m
  kind_of (task.Drain m taken) = draining m taken
  kind_of _ = idles _ refl

  -- who is about to send has handed just that over, and so with receipts, and a receiver that is dropped
  pub sends_for : (m : ℕ) (values : List (List D)) (o : Option (ChannelOp D)) → Some (Sends m values) ≡ doing_for o → (value : D) × ((o ≡ Some (channel_op.Send m value)) × (values ≡ (value ∷ []) ∷ []))
  sends_for m values None e = absurd (cc e)
  sends_for m values (Some channel_op.New) e = absurd (cc e)
  sends_for m values (Some (channel_op.Send l value)) e = let same : m ≡ l = cc e in let so : values ≡ (value ∷ []) ∷ [] = cc e in (value, (ap (λ i. Some (channel_op.Send i value)) (sym same), so))
  sends_for m values (Some (channel_op.Recv l)) e = absurd (cc e)
  sends_for m values (Some (channel_op.TryRecv l)) e = absurd (cc e)
  sends_for m values (Some (channel_op.CloneSender l)) e = absurd (cc e)
  sends_for m values (Some (channel_op.DropSender l)) e = absurd (cc e)
  sends_for m values (Some (channel_op.DropReceiver l)) e = absurd (cc e)

  pub receives_for : (m : ℕ) (o : Option (ChannelOp D)) → Some (Receives m) ≡ doing_for o → (o ≡ Some (channel_op.Recv m)) ⊎ (o ≡ Some (channel_op.TryRecv m))
  receives_for m None e = absurd (cc e)
  receives_for m (Some channel_op.New) e = absurd (cc e)
  receives_for m (Some (channel_op.Send l value)) e = absurd (cc e)
  receives_for m (Some (channel_op.Recv l)) e = let same : m ≡ l = cc e in inl (ap (λ i. Some (channel_op.Recv i)) (sym same))
  receives_for m (Some (channel_op.TryRecv l)) e = let same : m ≡ l = cc e in inr (ap (λ i. Some (channel_op.TryRecv i)) (sym same))
  receives_for m (Some (channel_op.CloneSender l)) e = absurd (cc e)
  receives_for m (Some (channel_op.DropSender l)) e = absurd (cc e)
  receives_for m (Some (channel_op.DropReceiver l)) e = absurd (cc e)

  pub drains_for : (m : ℕ) (o : Option (ChannelOp D)) → Some (Drains m) ≡ doing_for o → o ≡ Some (channel_op.DropReceiver m)
  drains_for m None e = absurd (cc e)
  drains_for m (Some channel_op.New) e = absurd (cc e)
  drains_for m (Some (channel_op.Send l value)) e = absurd (cc e)
  drains_for m (Some (channel_op.Recv l)) e = absurd (cc e)
  drains_for m (Some (channel_op.TryRecv l)) e = absurd (cc e)
  drains_for m (Some (channel_op.CloneSender l)) e = absurd (cc e)
  drains_for m (Some (channel_op.DropSender l)) e = absurd (cc e)
  drains_for m (Some (channel_op.DropReceiver l)) e = let same : m ≡ l = cc e in ap (λ i. Some (channel_op.DropReceiver i)) (sym same)

  -- ---- looking a channel up

  pub at_channel : {A : Type 0} (P : A → Type 0) (passes : Channel D → Bool) (m : ℕ) (w : World D) (next : Channel D → Result A FailureKind)
      → ((channel : Channel D) → slice_get w.objects m ≡ Some (object.Channel channel) → Answers P (next channel))
      → Answers P ((looked_up channel_in (slice_get w.objects m) >>= (λ channel. check (passes channel) Misuse >>= (λ u. Ok channel))) >>= next)
  at_channel P passes m w next h = by_object (slice_get w.objects m) refl
    where
      by_test : (b : Bool) (channel : Channel D) → slice_get w.objects m ≡ Some (object.Channel channel) → Answers P ((check b Misuse >>= (λ u. Ok channel)) >>= next)
      by_test true channel e = h channel e
      by_test false channel e = tt

      by_object : (o : Option (Object D)) → slice_get w.objects m ≡ o → Answers P ((looked_up channel_in o >>= (λ channel. check (passes channel) Misuse >>= (λ u. Ok channel))) >>= next)
      by_object None e = tt
      by_object (Some (object.Channel channel)) e = by_test (passes channel) channel e
      by_object (Some _) e = tt

  pub sender_so : {A : Type 0} (P : A → Type 0) (m : ℕ) (w : World D) (next : Channel D → Result A FailureKind)
      → ((channel : Channel D) → slice_get w.objects m ≡ Some (object.Channel channel) → Answers P (next channel)) → Answers P (by_sender m w >>= next)
  sender_so P m w next h = at_channel P (λ channel. nat_lt 0 channel.senders) m w next h

  pub receiver_so : {A : Type 0} (P : A → Type 0) (m : ℕ) (w : World D) (next : Channel D → Result A FailureKind)
      → ((channel : Channel D) → slice_get w.objects m ≡ Some (object.Channel channel) → Answers P (next channel)) → Answers P (by_receiver m w >>= next)
  receiver_so P m w next h = at_channel P (λ channel. channel.has_receiver) m w next h
