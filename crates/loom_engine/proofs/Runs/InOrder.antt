-- Over every history, what is received from a channel is what was sent to it, in order.
use Rattle.std.proofs.Common.{◌≡◌, ℕ, zero, suc, Bool, true, false, List, [], ◌∷◌, ◌++◌, Option, Some, None, refl, ap, subst, sym, inl, inr, ◌∙◌}
use Rattle.std.proofs.lemmas.Bool.{eq-eqb}
use Rattle.std.proofs.lemmas.List.{append_assoc}
use Rattle.std.specs.Prelude.{◌==◌, ◌⊎◌, cond, slice_get, ⊤}
use Rattle.std.specs.List.{list_any}
use Rattle.loom_objects.specs.declared.operation.ChannelOp.{ChannelOp}
use Rattle.loom_objects.specs.declared.operation.ChannelOp.TheVariants as channel_op
use Rattle.loom_objects.specs.declared.operation.Request.{Request}
use Rattle.loom_objects.specs.declared.operation.Turn.{Turn}
use Rattle.loom_objects.specs.declared.operation.Turn.TheVariants as turn
use Rattle.loom_objects.specs.World.{World}
use Rattle.loom_engine.specs.Runs.Course.{Course, opening}
use Rattle.loom_engine.specs.Runs.Histories.{Event, Happens, IsHistory, MayFollow}
use Rattle.loom_engine.specs.Runs.Machine.{submit}
use Rattle.loom_engine.specs.Runs.Received.{InOrderLaw, IsLog, drops, drops_receiver, handed_by, nobody, nothing, of_channel, passes as goes_by, receives as takes_in, sends as puts_in, whose}
use Rattle.loom_engine.proofs.Runs.Keeping.{kept_value}
use Rattle.loom_engine.proofs.Runs.Queues.{cond_here, cond_off, decided, doing_at, doing_for, neither}
use Rattle.loom_engine.proofs.Runs.Receiving.{Bound, IsAfter, Goes, except, event_after}

module _ {D : Type 0} (n : ℕ) where
  -- what the other threads have handed over stays
  rebound : (q : List D) (handed : ℕ → Option (ChannelOp D)) (a : ℕ) (todo : Request D ⊤) (w : World D) → Bound n q handed a w → Bound n q (handed_by a todo handed) a w
  rebound q handed a todo w k = record {
    queue = k.queue;
    pending = λ u. by_number u (decided u a);
    own = k.own;
    idle = cond_here a a None (doing_for (handed_by a todo handed a)) refl;
    there = k.there;
  }
    where
      by_number : (u : ℕ) → (u ≡ a) ⊎ (u ≡ a → ⊥) → doing_at (slice_get w.threads u) ≡ except n a (handed_by a todo handed) u
      by_number u (inl same) =
          let e : except n a handed u ≡ None = cond_here u a None (doing_for (handed u)) same in
          let f : except n a (handed_by a todo handed) u ≡ None = cond_here u a None (doing_for (handed_by a todo handed u)) same in let g = k.pending u in cc (e, f, g)
      by_number u (inr off) =
          let e : except n a handed u ≡ doing_for (handed u) = cond_off u a None (doing_for (handed u)) off in
          let f : except n a (handed_by a todo handed) u ≡ doing_for (handed_by a todo handed u) = cond_off u a None (doing_for (handed_by a todo handed u)) off in
          let h : handed_by a todo handed u ≡ handed u = cond_off u a (of_channel todo) (handed u) off in
          let g = k.pending u in cc (e, f, g, h)

  drops_so : (o : Option (ChannelOp D)) → drops n o ≡ false → o ≡ Some (channel_op.DropReceiver n) → ⊥
  drops_so o e f =
      let g : drops {D = D} n (Some (channel_op.DropReceiver n)) ≡ false = subst (λ p. drops n p ≡ false) f e in
      let own : (n == n) ≡ true = eq-eqb n n refl in cc (g, own)

  never_by : (handed : ℕ → Option (ChannelOp D)) (a : ℕ) (todo : Request D ⊤) → ((t : ℕ) → handed t ≡ Some (channel_op.DropReceiver n) → ⊥) → drops n (of_channel todo) ≡ false
      → (t : ℕ) → handed_by a todo handed t ≡ Some (channel_op.DropReceiver n) → ⊥
  never_by handed a todo never e t f = by_number (decided t a)
    where
      by_number : (t ≡ a) ⊎ (t ≡ a → ⊥) → ⊥
      by_number (inl same) = let g : handed_by a todo handed t ≡ of_channel todo = cond_here t a (of_channel todo) (handed t) same in drops_so (of_channel todo) e (cc (f, g))
      by_number (inr off) = let g : handed_by a todo handed t ≡ handed t = cond_off t a (of_channel todo) (handed t) off in never t (cc (f, g))

  appended : (xs : List D) → xs ++ [] ≡ xs
  appended [] = refl
  appended (x ∷ xs) = ap (λ list. x ∷ list) (appended xs)

  -- what an event leads to
  stepped : (q : List D) (handed : ℕ → Option (ChannelOp D)) (a : ℕ) (c v : Course D) (event : Event D) → Bound n q handed a c.world
      → ((t : ℕ) → handed_by a event.op handed t ≡ Some (channel_op.DropReceiver n) → ⊥) → Happens c event v → IsAfter n q (handed_by a event.op handed) event.turn v.world
  stepped q handed a c v event k never comes =
      kept_value (submit event.op c) event.choices (event.turn, v)
      (event_after n q (handed_by a event.op handed) never event.op a c (cond_here a a (of_channel event.op) (handed a) refl) (rebound q handed a event.op c.world k)) comes

  -- the values that were received are the first of those that were there and were sent
  abbrev pub Left : List D → List D → List D → Type 0
  Left q sent received = (left : List D) × ((q ++ sent) ≡ (received ++ left))

  none_more : (q : List D) (handed : ℕ → Option (ChannelOp D)) (a : ℕ) (sent received : List D) → IsLog n handed a [] sent received → Left q sent received
  none_more q handed a sent received (nothing given active) = (q, appended q)

  passes_on : (q : List D) (handed : ℕ → Option (ChannelOp D)) (a : ℕ) (turned : Turn D) (v : World D) (events : List (Event D)) (sent received : List D) → Goes n q handed turned v → MayFollow turned events
      → IsLog n handed (whose a turned) events sent received → ((t : ℕ) → Bound n q handed t v → IsLog n handed t events sent received → Left q sent received) → Left q sent received
  passes_on q handed a (turn.Reply t reply) v events sent received k follows log f = f t k log
  passes_on q handed a (turn.Start t) v events sent received k follows log f = f t k log
  passes_on q handed a (turn.Ended value) v [] sent received k follows log f = none_more q handed a sent received log
  passes_on q handed a (turn.Ended value) v (event ∷ events) sent received k follows log f = absurd follows

  -- one event, and what holds of those that follow
  in_order_on : (q : List D) (handed : ℕ → Option (ChannelOp D)) (a : ℕ) (c : Course D) (event : Event D) (events : List (Event D)) (sent received : List D) → Bound n q handed a c.world
      → ((t : ℕ) → handed t ≡ Some (channel_op.DropReceiver n) → ⊥) → IsHistory c (event ∷ events) → list_any (drops_receiver n) (event ∷ events) ≡ false → IsLog n handed a (event ∷ events) sent received
      → ((q : List D) (handed : ℕ → Option (ChannelOp D)) (t : ℕ) (v : Course D) (sent received : List D) → Bound n q handed t v.world → ((u : ℕ) → handed u ≡ Some (channel_op.DropReceiver n) → ⊥)
      → IsHistory v events → list_any (drops_receiver n) events ≡ false → IsLog n handed t events sent received → Left q sent received) → Left q sent received
  in_order_on q handed a c event events sent received k never history stays (puts_in given active one more others told t value is_sent log) again =
      let both = neither (drops n (of_channel event.op)) (list_any (drops_receiver n) events) stays in
      let off = never_by handed a event.op never both.0 in
      let h = stepped q handed a c history.0 event k off history.1.0 in
      let r = again (q ++ value ∷ []) (handed_by a event.op handed) t history.0 others told (h.sent t value is_sent) off history.1.1.1 both.1 log in
      (r.0, sym (append_assoc q (value ∷ []) others) ∙ r.1)
  in_order_on q handed a c event events sent received k never history stays (takes_in given active one more others told t value is_received log) again =
      let both = neither (drops n (of_channel event.op)) (list_any (drops_receiver n) events) stays in
      let off = never_by handed a event.op never both.0 in
      let h = stepped q handed a c history.0 event k off history.1.0 in
      let s = h.received t value is_received in
      let r = again s.0 (handed_by a event.op handed) t history.0 others told s.1.1 off history.1.1.1 both.1 log in
      (r.0, subst (λ list. list ++ others ≡ value ∷ (told ++ r.0)) (sym s.1.0) (ap (λ list. value ∷ list) r.1))
  in_order_on q handed a c event events sent received k never history stays (goes_by given active one more others told none_sent none_received log) again =
      let both = neither (drops n (of_channel event.op)) (list_any (drops_receiver n) events) stays in
      let off = never_by handed a event.op never both.0 in
      let h = stepped q handed a c history.0 event k off history.1.0 in
      passes_on q (handed_by a event.op handed) a event.turn history.0.world events others told (h.passed none_sent none_received) history.1.1.0 log
      (λ t bound rest. again q (handed_by a event.op handed) t history.0 others told bound off history.1.1.1 both.1 rest)

  in_order_from : (q : List D) (handed : ℕ → Option (ChannelOp D)) (a : ℕ) (c : Course D) (events : List (Event D)) (sent received : List D) → Bound n q handed a c.world
      → ((t : ℕ) → handed t ≡ Some (channel_op.DropReceiver n) → ⊥) → IsHistory c events → list_any (drops_receiver n) events ≡ false → IsLog n handed a events sent received → Left q sent received
  in_order_from q handed a c [] sent received k never history stays log = none_more q handed a sent received log
  in_order_from q handed a c (event ∷ events) sent received k never history stays log =
      in_order_on q handed a c event events sent received k never history stays log
      (λ p given t v others told bound off later still rest. in_order_from p given t v events others told bound off later still rest)

  at_opening : (explores : Bool) (max_threads max_steps : ℕ) → Bound {D = D} n [] nobody 0 (opening explores max_threads max_steps).world
  at_opening explores max_threads max_steps = record { queue = refl; pending = by_number; own = refl; idle = refl; there = refl }
    where
      by_number : (u : ℕ) → doing_at (slice_get (opening {D = D} explores max_threads max_steps).world.threads u) ≡ except n 0 nobody u
      by_number zero = refl
      by_number (suc u) = none (suc u == 0)
        where
          none : (b : Bool) → None ≡ cond b None (doing_for {D = D} None)
          none true = refl
          none false = refl

pub in_order : {D : Type 0} → InOrderLaw D
in_order explores max_threads max_steps n events sent received history stays log =
    in_order_from n [] nobody 0 (opening explores max_threads max_steps) events sent received (at_opening n explores max_threads max_steps) (λ t e. cc e) history stays log
