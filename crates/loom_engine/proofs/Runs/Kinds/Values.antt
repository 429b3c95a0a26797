-- What is done to a thread's own values, and to values that are made once a run, keeps locks sound.
use Rattle.std.proofs.Common.{ℕ, Bool, Option, Some, None}
use Rattle.std.specs.Prelude.{true, false, not, slice_get, Result}
use Rattle.loom_views.specs.declared.rt.failure.FailureKind.{FailureKind}
use Rattle.loom_views.specs.declared.rt.failure.FailureKind.TheVariants.{KeyTaken, LazyShutdown, Misuse}
use Rattle.loom_objects.specs.declared.operation.Keyed.{Keyed}
use Rattle.loom_objects.specs.declared.operation.Lazy.{Lazy}
use Rattle.loom_objects.specs.declared.operation.LazyOp.{LazyOp}
use Rattle.loom_objects.specs.declared.operation.LazyOp.TheVariants as lazy_op
use Rattle.loom_objects.specs.declared.operation.LocalOp.{LocalOp}
use Rattle.loom_objects.specs.declared.operation.LocalOp.TheVariants as local_op
use Rattle.loom_objects.specs.declared.rt.run.Entry.{Entry}
use Rattle.loom_objects.specs.Rules.Locals.{are_open, is_taken, lazy_at, lazy_begins, local_at, local_begins, local_or, makes_lazy, none_there, puts_local, reads_lazy, reads_local, with_local}
use Rattle.loom_objects.specs.World.{World}
use Rattle.loom_engine.proofs.Runs.States.{changed_ready}
use Rattle.loom_engine.proofs.Runs.Ruling.{Keeping, check_keeping, found_keeping, misuse}

module _ {D : Type 0} where
  -- ---- a thread's own values

  none_there_keeping : (gone : Result (Entry D × World D) FailureKind) (was_there : Bool) (w : World D) → Keeping w gone → Keeping w (none_there gone was_there w)
  none_there_keeping gone true w h = h
  none_there_keeping gone false w h = λ out k. k

  reads_local_keeping : (gone : Result (Entry D × World D) FailureKind) (was_there : Bool) (local : Option (Keyed D)) (w : World D) → Keeping w gone → Keeping w (reads_local gone was_there local w)
  reads_local_keeping gone was_there None w h = none_there_keeping gone was_there w h
  reads_local_keeping gone was_there (Some local) w h = λ out k. k

  local_or_keeping : (gone : Result (Entry D × World D) FailureKind) (key : ℕ) (w : World D) → Keeping w gone → Keeping w (local_or gone key w)
  local_or_keeping gone key w h =
      found_keeping (slice_get w.threads w.active) Misuse _ w misuse (λ thread e. reads_local_keeping gone (is_taken key thread) (local_at key thread) w h)

  puts_local_keeping : (key : ℕ) (value : D) (local : Option (Keyed D)) (w : World D) → Keeping w (puts_local key value local w)
  puts_local_keeping key value None w = misuse
  puts_local_keeping key value (Some local) w = λ out k. changed_ready _ w.active (λ thread m e. e) k

  pub local_begins_keeping : (todo : LocalOp D) (w : World D) → Keeping w (local_begins todo w)
  local_begins_keeping (local_op.With key) w = local_or_keeping _ key w (λ e. cc)
  local_begins_keeping (local_op.TryWith key) w = local_or_keeping _ key w (λ out k. k)
  local_begins_keeping (local_op.Init key value) w =
      found_keeping (slice_get w.threads w.active) Misuse _ w misuse (λ thread e. check_keeping (not (is_taken key thread)) KeyTaken _ w (λ f. cc)
      (λ f out k. changed_ready (with_local key value) w.active (λ other m i. i) k))
  local_begins_keeping (local_op.Put key value) w = found_keeping (slice_get w.threads w.active) Misuse _ w misuse (λ thread e. puts_local_keeping key value (local_at key thread) w)

  -- ---- values that are made once a run

  reads_lazy_keeping : (lazy : Option (Lazy D)) (w : World D) → Keeping w (reads_lazy lazy w)
  reads_lazy_keeping None w = λ out k. k
  reads_lazy_keeping (Some lazy) w = λ out k. k

  makes_lazy_keeping : (key : ℕ) (value : D) (lazy : Option (Lazy D)) (w : World D) → Keeping w (makes_lazy key value lazy w)
  makes_lazy_keeping key value None w = λ out k. k
  makes_lazy_keeping key value (Some lazy) w = λ out k. k

  pub lazy_begins_keeping : (todo : LazyOp D) (w : World D) → Keeping w (lazy_begins todo w)
  lazy_begins_keeping (lazy_op.Get key) w = check_keeping (are_open w) LazyShutdown _ w (λ e. cc) (λ e. reads_lazy_keeping (lazy_at key w) w)
  lazy_begins_keeping (lazy_op.Init key value) w = check_keeping (are_open w) LazyShutdown _ w (λ e. cc) (λ e. makes_lazy_keeping key value (lazy_at key w) w)
