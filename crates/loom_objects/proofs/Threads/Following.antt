-- Effects that go on from another one.
use Rattle.std.proofs.Common.{◌≡◌, ℕ, refl}
use Rattle.std.specs.Prelude.{true, false, slice_get, slice_set, Option, Some, None, Result, Ok}
use Rattle.loom_views.specs.declared.rt.failure.FailureKind.{FailureKind}
use Rattle.loom_views.specs.declared.rt.failure.FailureKind.TheVariants.{Misuse}
use Rattle.loom_objects.specs.declared.operation.Reply.{Reply}
use Rattle.loom_objects.specs.declared.operation.Reply.TheVariants as reply
use Rattle.loom_objects.specs.declared.rt.object.Object.TheVariants as object
use Rattle.loom_objects.specs.declared.rt.notify.Notify.{Notify}
use Rattle.loom_objects.specs.declared.rt.thread.Thread.{Thread}
use Rattle.loom_objects.specs.Scene.Lookup.{notify_at}
use Rattle.loom_objects.specs.Rules.Moves.{acquires, takes_result}
use Rattle.loom_objects.specs.Rules.Notify.{with_notify}
use Rattle.loom_objects.specs.Rules.Rule.{◌>>=◌, found}
use Rattle.loom_objects.specs.Scene.Stage.{Stage, world_of, Does}
use Rattle.loom_objects.specs.Rules.Thread.{join}
use Rattle.loom_objects.specs.World.{World}
use Rattle.loom_objects.proofs.Scene.Showing.{does_from}

-- what is left of a join once its notifier isn't notified any more
abbrev pub has_taken : {D : Type 0} → ℕ → D × World D → Result (Reply D × World D) FailureKind
has_taken n taken = Ok (reply.Data taken.0, acquires n taken.1)

module _ {D : Type 0} (t n : ℕ) (notifier : Notify) where
  abbrev has_told : D × World D → Result (Reply D × World D) FailureKind
  has_told taken = Ok (reply.Data taken.0, acquires n (with_notify n notifier taken.1))

  abbrev without_result : Thread D → World D → D → Result (D × World D) FailureKind
  without_result thread w value = Ok (value, record w { threads = slice_set w.threads t (record thread { result = None }) })

  module _ (w : World D) where
    with_result : (thread : Thread D) (result : Option D)
        → ((found result Misuse >>= without_result thread w) >>= has_told) ≡ ((found result Misuse >>= without_result thread (with_notify n notifier w)) >>= has_taken n)
    with_result thread None = refl
    with_result thread (Some value) = refl

    with_joined : (joined : Option (Thread D))
        → ((found joined Misuse >>= (λ thread. found thread.result Misuse >>= without_result thread w)) >>= has_told)
        ≡ ((found joined Misuse >>= (λ thread. found thread.result Misuse >>= without_result thread (with_notify n notifier w))) >>= has_taken n)
    with_joined None = refl
    with_joined (Some thread) = with_result thread thread.result

    -- the notifier may be set before the result is taken
    told_before : (takes_result t w >>= has_told) ≡ (takes_result t (with_notify n notifier w) >>= has_taken n)
    told_before = with_joined (slice_get w.threads t)

module _ {D : Type 0} (t n : ℕ) (notifier : Notify) (old : Stage D) (at : notify_at n old.objects ≡ Ok notifier) (notified : notifier.notified ≡ true) where
  -- the notifier isn't notified any more
  abbrev pub settled : Stage D
  settled = record old { objects = slice_set old.objects n (object.Notify (record notifier { notified = false })) }

  pub joins : (new : Stage D) (result : Result (Reply D) FailureKind) → Does (λ w. takes_result t w >>= has_taken n) settled result new → Does (join t n) old result new
  joins new result does =
      does_from (join t n) (λ w. takes_result t w >>= has_taken n) old settled new result refl
      (λ p left. rw at (rw notified (told_before t n (record notifier { notified = false }) (world_of p left old))))
      does
