-- What is received from a channel is what was sent to it, in order, over every history.
use Rattle.std.specs.Prelude.{ℕ, ◌≡◌, ◌==◌, ◌++◌, ◌⊎◌, Bool, false, cond, List, [], ◌∷◌, Option, Some, None, ⊤}
use Rattle.std.specs.List.{list_any}
use Rattle.loom_objects.specs.declared.operation.ChannelOp.{ChannelOp}
use Rattle.loom_objects.specs.declared.operation.ChannelOp.TheVariants.{New, Send, Recv, TryRecv, CloneSender, DropSender, DropReceiver}
use Rattle.loom_objects.specs.declared.operation.Request.{Request}
use Rattle.loom_objects.specs.declared.operation.Request.TheVariants as op
use Rattle.loom_objects.specs.declared.operation.Reply.TheVariants.{Data, Done}
use Rattle.loom_objects.specs.declared.operation.Turn.{Turn}
use Rattle.loom_objects.specs.declared.operation.Turn.TheVariants.{Reply, Start, Ended}
use Rattle.loom_engine.specs.Runs.Course.{opening}
use Rattle.loom_engine.specs.Runs.Histories.{Event, IsHistory}

module _ {D : Type 0} where
  -- what is done to a channel by the operation
  abbrev pub of_channel : Request D ⊤ → Option (ChannelOp D)
  of_channel (op.Channel todo) = Some todo
  of_channel _ = None

  -- What each thread has handed over last, if that is for a channel. Now this thread hands over the operation.
  abbrev pub handed_by : ℕ → Request D ⊤ → (ℕ → Option (ChannelOp D)) → ℕ → Option (ChannelOp D)
  handed_by active todo handed t = cond (t == active) (of_channel todo) (handed t)

  -- the thread whose turn it is then
  abbrev pub whose : ℕ → Turn D → ℕ
  whose active (Reply t reply) = t
  whose active (Start t) = t
  whose active (Ended value) = active

  -- by this turn a thread is told that it has sent the value to channel n
  abbrev pub IsSent : ℕ → (ℕ → Option (ChannelOp D)) → ℕ → D → Turn D → Type 0
  IsSent n handed t value turn = (handed t ≡ Some (Send n value)) × (turn ≡ Reply t Done)

  -- by this turn a thread is given the value that it has received from channel n
  abbrev pub IsReceived : ℕ → (ℕ → Option (ChannelOp D)) → ℕ → D → Turn D → Type 0
  IsReceived n handed t value turn = ((handed t ≡ Some (Recv n)) ⊎ (handed t ≡ Some (TryRecv n))) × (turn ≡ Reply t (Data value))

  -- By these events, in order, these values were sent to channel n, and these were received from it. The first event is of the
  -- thread that is active, and the threads have handed this over before.
  pub data IsLog (n : ℕ) : (ℕ → Option (ChannelOp D)) → ℕ → List (Event D) → List D → List D → Type 0 where
    nothing : (handed : ℕ → Option (ChannelOp D)) (active : ℕ) → IsLog n handed active [] [] []
    sends : (handed : ℕ → Option (ChannelOp D)) (active : ℕ) (event : Event D) (events : List (Event D)) (sent received : List D) (t : ℕ) (value : D)
        → IsSent n (handed_by active event.op handed) t value event.turn → IsLog n (handed_by active event.op handed) t events sent received
        → IsLog n handed active (event ∷ events) (value ∷ sent) received
    receives : (handed : ℕ → Option (ChannelOp D)) (active : ℕ) (event : Event D) (events : List (Event D)) (sent received : List D) (t : ℕ) (value : D)
        → IsReceived n (handed_by active event.op handed) t value event.turn → IsLog n (handed_by active event.op handed) t events sent received
        → IsLog n handed active (event ∷ events) sent (value ∷ received)
    passes : (handed : ℕ → Option (ChannelOp D)) (active : ℕ) (event : Event D) (events : List (Event D)) (sent received : List D)
        → ((t : ℕ) (value : D) → IsSent n (handed_by active event.op handed) t value event.turn → ⊥)
        → ((t : ℕ) (value : D) → IsReceived n (handed_by active event.op handed) t value event.turn → ⊥)
        → IsLog n (handed_by active event.op handed) (whose active event.turn) events sent received
        → IsLog n handed active (event ∷ events) sent received

  -- the receiver of channel n is dropped
  abbrev pub drops : ℕ → Option (ChannelOp D) → Bool
  drops n None = false
  drops n (Some (DropReceiver m)) = m == n
  drops n (Some New) = false
  drops n (Some (Send m value)) = false
  drops n (Some (Recv m)) = false
  drops n (Some (TryRecv m)) = false
  drops n (Some (CloneSender m)) = false
  drops n (Some (DropSender m)) = false

  abbrev pub drops_receiver : ℕ → Event D → Bool
  drops_receiver n event = drops n (of_channel event.op)

  -- no thread has handed anything over
  abbrev pub nobody : ℕ → Option (ChannelOp D)
  nobody t = None

-- Over every history, up to where its receiver is dropped: what was received from a channel are the first of the values that
-- were sent to it, in the order in which they were sent.
abbrev pub InOrderLaw : Type 0 → Type 0
InOrderLaw D = (explores : Bool) (max_threads max_steps n : ℕ) (events : List (Event D)) (sent received : List D)
    → IsHistory (opening explores max_threads max_steps) events → list_any (drops_receiver n) events ≡ false → IsLog n nobody 0 events sent received
    → (left : List D) × (sent ≡ received ++ left)
