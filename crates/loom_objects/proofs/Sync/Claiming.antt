-- A read-write lock that isn't refused is taken.
use Rattle.std.proofs.Common.{◌≡◌, ◌∙◌, ℕ, ap, refl}
use Rattle.std.specs.Prelude.{Bool, true, false, is_none, Result, Ok, Err, IfOk, OnErr}
use Rattle.loom_views.specs.declared.rt.failure.FailureKind.{FailureKind}
use Rattle.loom_views.specs.declared.rt.failure.FailureKind.TheVariants.{Misuse}
use Rattle.loom_objects.specs.declared.operation.Reply.{Reply}
use Rattle.loom_objects.specs.declared.rt.rwlock.RwLock.{RwLock}
use Rattle.loom_objects.specs.declared.rt.thread.Claim.{Claim}
use Rattle.loom_objects.specs.declared.rt.thread.Claim.TheVariants.{Read, TryRead, Write, TryWrite}
use Rattle.loom_objects.specs.Rules.Moves.{a_rwlock}
use Rattle.loom_objects.specs.Rules.Rule.{◌>>=◌, check}
use Rattle.loom_objects.specs.Rules.RwLock.{claims, is_reading, is_refused, reads_at, refused_at, takes, takes_unless, writes_at}
use Rattle.loom_objects.specs.Scene.Stage.{Stage, world_of}
use Rattle.loom_objects.specs.World.{World}
use Rattle.loom_objects.specs.Stages.LockCopy.{answer_of, Copies}

-- what holds of a result where it is Ok
pub if_ok : {A E : Type 0} {P Q : A → Type 0} (r : Result A E) → ((a : A) → P a → Q a) → IfOk r P → IfOk r Q
if_ok (Ok a) f h = f a h
if_ok (Err e) f h = tt

module _ {D : Type 0} (claim : Claim) (n : ℕ) (w : World D) where
  by_lent : (lock : RwLock D) (is_in refused : Bool) → ◌>>=◌ {B = Bool} (check is_in Misuse) (λ passed. Ok refused) ≡ Ok false
      → ◌>>=◌ {B = Reply D × World D} (check is_in Misuse) (λ passed. takes_unless refused claim n lock w) ≡ takes claim n lock w
  by_lent lock false refused e = absurd (cc)
  by_lent lock true true e = absurd (cc)
  by_lent lock true false e = refl

  by_lock : (r : Result (RwLock D) FailureKind) → ◌>>=◌ {B = Bool} r (λ lock. check (is_none lock.content.lent) Misuse >>= (λ passed. Ok (is_refused claim lock))) ≡ Ok false
      → ◌>>=◌ {B = Reply D × World D} r (λ lock. check (is_none lock.content.lent) Misuse >>= (λ passed. takes_unless (is_refused claim lock) claim n lock w)) ≡ (r >>= (λ lock. takes claim n lock w))
  by_lock (Err kind) e = absurd (cc)
  by_lock (Ok lock) e = by_lent lock (is_none lock.content.lent) (is_refused claim lock) e

taken : {D : Type 0} (claim : Claim) (n : ℕ) (w : World D) → refused_at claim n w.objects ≡ Ok false → claims claim n w ≡ (a_rwlock n w >>= (λ lock. takes claim n lock w))
taken claim n w e = by_lock claim n w (a_rwlock n w) e

pub read_by : {D : Type 0} (claim : Claim) (n : ℕ) (w : World D) → is_reading claim ≡ true → refused_at claim n w.objects ≡ Ok false → claims claim n w ≡ reads_at n w
read_by Read n w is e = taken Read n w e
read_by TryRead n w is e = taken TryRead n w e
read_by Write n w is e = absurd (cc)
read_by TryWrite n w is e = absurd (cc)

pub written_by : {D : Type 0} (claim : Claim) (n : ℕ) (w : World D) → is_reading claim ≡ false → refused_at claim n w.objects ≡ Ok false → claims claim n w ≡ writes_at n w
written_by Read n w is e = absurd (cc)
written_by TryRead n w is e = absurd (cc)
written_by Write n w is e = taken Write n w e
written_by TryWrite n w is e = taken TryWrite n w e

-- a lock that isn't refused is taken to read by a copy, as the rule of readers says
pub copies_by : {D R E : Type 0} (claim : Claim) (n : ℕ) (old : Stage D) (r : Result R E) → is_reading claim ≡ true → refused_at claim n old.objects ≡ Ok false
    → OnErr r (Copies n (reads_at n) old) → OnErr r (Copies n (claims claim n) old)
copies_by claim n old (Ok a) is free h = h
copies_by claim n old (Err e) is free h = (h.0, λ p left. ap answer_of (read_by claim n (world_of p left old) is free) ∙ h.1 p left)
