-- What a thread's own values do, and values that are made once a run.
use Rattle.std.specs.Prelude.{ℕ, ◌==◌, ◌++◌, ◌∷◌, [], List, Bool, true, false, not, length, Option, Some, None, Result, Ok, Err, slice_get}
use Rattle.std.specs.List.{find, list_any}
use Rattle.loom_views.specs.declared.rt.failure.FailureKind.{FailureKind}
use Rattle.loom_views.specs.declared.rt.failure.FailureKind.TheVariants.{Misuse, KeyTaken, LazyShutdown, LocalGone}
use Rattle.loom_objects.specs.declared.operation.Keyed.{Keyed}
use Rattle.loom_objects.specs.declared.operation.Lazy.{Lazy}
use Rattle.loom_objects.specs.declared.operation.LazyOp.{LazyOp}
use Rattle.loom_objects.specs.declared.operation.LazyOp.TheVariants as lazy_op
use Rattle.loom_objects.specs.declared.operation.LocalOp.{LocalOp}
use Rattle.loom_objects.specs.declared.operation.LocalOp.TheVariants as local_op
use Rattle.loom_objects.specs.declared.operation.Reply.TheVariants as reply
use Rattle.loom_objects.specs.declared.rt.run.Entry.{Entry}
use Rattle.loom_objects.specs.declared.rt.run.Entry.TheVariants.{Answered}
use Rattle.loom_objects.specs.declared.rt.thread.Phase.{Phase}
use Rattle.loom_objects.specs.declared.rt.thread.Phase.TheVariants.{Working, Finished, Exited, Over}
use Rattle.loom_objects.specs.declared.rt.thread.Thread.{Thread}
use Rattle.loom_objects.specs.Rules.Rule.{◌>>=◌, check}
use Rattle.loom_objects.specs.World.{World}
use Rattle.loom_objects.specs.Rules.Moves.{active_thread, acquires_from_stamp, changes_active, releases_to_stamp, with_stamp}

-- ---- a thread's own values

abbrev pub is_key : ℕ → ℕ → Bool
is_key key other = other == key

abbrev pub is_working : Phase → Bool
is_working Working = true
is_working Finished = false
is_working Exited = false
is_working Over = false

module _ {D : Type 0} where
  abbrev pub has_key : ℕ → Keyed D → Bool
  has_key key local = local.key == key

  -- the value of this key, if there is one
  abbrev pub local_at : ℕ → Thread D → Option (Keyed D)
  local_at key thread = find (has_key key) thread.locals

  -- the value of this key in a thread, if there are both
  abbrev pub local_of : ℕ → Option (Thread D) → Option (Keyed D)
  local_of key None = None
  local_of key (Some thread) = local_at key thread

  abbrev pub value_of : Option (Keyed D) → Option D
  value_of None = None
  value_of (Some local) = Some local.value

  -- the key has or had a value
  abbrev pub is_taken : ℕ → Thread D → Bool
  is_taken key thread = list_any (is_key key) thread.keys

  -- without a value the key has none yet, or what it had was given back
  abbrev pub none_there : Result (Entry D × World D) FailureKind → Bool → World D → Result (Entry D × World D) FailureKind
  none_there gone true w = gone
  none_there gone false w = Ok (Answered reply.Absent, w)

  -- a copy of the value
  abbrev pub reads_local : Result (Entry D × World D) FailureKind → Bool → Option (Keyed D) → World D → Result (Entry D × World D) FailureKind
  reads_local gone was_there None w = none_there gone was_there w
  reads_local gone was_there (Some local) w = Ok (Answered (reply.Data local.value), w)

  abbrev pub local_or : Result (Entry D × World D) FailureKind → ℕ → World D → Result (Entry D × World D) FailureKind
  local_or gone key w = do
    thread ← active_thread w
    reads_local gone (is_taken key thread) (local_at key thread) w

  abbrev pub with_local : ℕ → D → Thread D → Thread D
  with_local key value thread = record thread { keys = thread.keys ++ key ∷ []; locals = thread.locals ++ record { key = key; value = value } ∷ [] }

  -- a key has one first value in a thread
  abbrev pub local_init : ℕ → D → World D → Result (Entry D × World D) FailureKind
  local_init key value w = do
    thread ← active_thread w
    _ ← check (not (is_taken key thread)) KeyTaken
    Ok (Answered (reply.Data value), changes_active (with_local key value) w)

  -- the values with another one of this key, in its place
  abbrev pub put_in : ℕ → D → List (Keyed D) → List (Keyed D)
  put_in key value [] = []
  put_in key value (local ∷ rest) = put_here (local.key == key) key value local rest (put_in key value rest)
    where
      put_here : Bool → ℕ → D → Keyed D → List (Keyed D) → List (Keyed D) → List (Keyed D)
      put_here true key value local rest changed = record local { value = value } ∷ rest
      put_here false key value local rest changed = local ∷ changed

  abbrev pub puts_local : ℕ → D → Option (Keyed D) → World D → Result (Entry D × World D) FailureKind
  puts_local key value None w = Err Misuse
  puts_local key value (Some local) w = Ok (Answered (reply.Data local.value), changes_active (λ thread. record thread { locals = put_in key value thread.locals }) w)

  -- the old one comes back
  abbrev pub local_put : ℕ → D → World D → Result (Entry D × World D) FailureKind
  local_put key value w = do
    thread ← active_thread w
    puts_local key value (local_at key thread) w

  abbrev pub local_begins : LocalOp D → World D → Result (Entry D × World D) FailureKind
  local_begins (local_op.With key) w = local_or (Err LocalGone) key w
  local_begins (local_op.TryWith key) w = local_or (Ok (Answered reply.AccessError, w)) key w
  local_begins (local_op.Init key value) w = local_init key value w
  local_begins (local_op.Put key value) w = local_put key value w

  -- memory may be refused where a value is made or copied
  abbrev pub local_needs_memory : LocalOp D → Bool
  local_needs_memory (local_op.With key) = true
  local_needs_memory (local_op.TryWith key) = true
  local_needs_memory (local_op.Init key value) = true
  local_needs_memory (local_op.Put key value) = false

  -- ---- values that are made once a run

  abbrev pub main_works : Option (Thread D) → Bool
  main_works None = false
  main_works (Some thread) = is_working thread.phase

  -- until main has finished they may be used
  abbrev pub are_open : World D → Bool
  are_open w = main_works (slice_get w.threads 0)

  abbrev pub is_of : ℕ → Lazy D → Bool
  is_of key lazy = lazy.key == key

  abbrev pub lazy_at : ℕ → World D → Option (Lazy D)
  lazy_at key w = find (is_of key) w.lazies

  -- a copy of the one that stands, once its maker's view was acquired
  abbrev pub reads_lazy : Option (Lazy D) → World D → Result (Entry D × World D) FailureKind
  reads_lazy None w = Ok (Answered reply.Absent, w)
  reads_lazy (Some lazy) w = Ok (Answered (reply.Data lazy.value), acquires_from_stamp lazy.stamp w)

  abbrev pub lazy_get : ℕ → World D → Result (Entry D × World D) FailureKind
  lazy_get key w = do
    _ ← check (are_open w) LazyShutdown
    reads_lazy (lazy_at key w) w

  abbrev pub with_lazy : ℕ → D → World D → World D
  with_lazy key value w = record w { lazies = w.lazies ++ record { key = key; value = value; stamp = length w.points.stamps } ∷ [] }

  -- one that is new is kept, and its maker releases to its stamp; else the one that stands is copied, and the value comes back
  abbrev pub makes_lazy : ℕ → D → Option (Lazy D) → World D → Result (Entry D × World D) FailureKind
  makes_lazy key value None w = Ok (Answered (reply.Data value), releases_to_stamp (length w.points.stamps) (with_stamp (with_lazy key value w)))
  makes_lazy key value (Some lazy) w = Ok (Answered (reply.Stood lazy.value value), acquires_from_stamp lazy.stamp w)

  abbrev pub lazy_init : ℕ → D → World D → Result (Entry D × World D) FailureKind
  lazy_init key value w = do
    _ ← check (are_open w) LazyShutdown
    makes_lazy key value (lazy_at key w) w

  abbrev pub lazy_begins : LazyOp D → World D → Result (Entry D × World D) FailureKind
  lazy_begins (lazy_op.Get key) w = lazy_get key w
  lazy_begins (lazy_op.Init key value) w = lazy_init key value w

  abbrev pub lazy_needs_memory : LazyOp D → Bool
  lazy_needs_memory (lazy_op.Get key) = true
  lazy_needs_memory (lazy_op.Init key value) = true
