-- A place is held, and given free; and what comes after.
use Rattle.std.proofs.Common.{◌≡◌, ◌∙◌, ℕ, ap, refl, sym}
use Rattle.std.specs.Prelude.{◌-◌, ◌==◌, Bool, true, false, is_none, Option, Some, None, Result, Ok, Err, ⊤}
use Rattle.loom_objects.specs.Stages.Waker.{wakers_left}
use Rattle.loom_objects.specs.Stages.Waker.{forgets, frees, holds, takes_place}
use Rattle.loom_views.specs.declared.rt.failure.FailureKind.{FailureKind}
use Rattle.loom_views.specs.declared.rt.failure.FailureKind.TheVariants.{Misuse}
use Rattle.loom_objects.specs.declared.operation.Reply.TheVariants as reply
use Rattle.loom_objects.specs.declared.rt.atomic_waker.AtomicWaker.{AtomicWaker}
use Rattle.loom_objects.specs.declared.rt.waker.Wakers.{Wakers}
use Rattle.loom_objects.specs.declared.rt.thread.AfterDrop.{AfterDrop}
use Rattle.loom_objects.specs.declared.rt.thread.AfterDrop.TheVariants as dropped
use Rattle.loom_objects.specs.declared.rt.thread.Taking.{Taking}
use Rattle.loom_objects.specs.declared.rt.thread.Task.TheVariants as task
use Rattle.loom_objects.specs.Rules.Moves.{an_atomic_waker, releases}
use Rattle.loom_objects.specs.Rules.Rule.{◌>>=◌, check}
use Rattle.loom_objects.specs.Rules.Waker.{acquires_if, after_drop, answered, drops_waker, frees_place, has_taken, holds_place, pends_next, registers, registers_if, some_wakers, takes_place as place_taken, takes_waker, with_wakers}
use Rattle.loom_objects.specs.World.{World}
use Rattle.loom_objects.proofs.Threads.Finding.{found_again}

module _ {A D X : Type 0} (next : World D → Result (A × World D) FailureKind) where
  -- in two steps
  pub in_two : (v : World D) (r : Result X FailureKind) → ◌>>=◌ {B = A × World D} r (λ there. next v) ≡ ◌>>=◌ {B = A × World D} (◌>>=◌ {B = ⊤ × World D} r (λ there. Ok (tt, v))) (λ x. next x.1)
  in_two v (Err kind) = refl
  in_two v (Ok there) = refl

module _ {A D : Type 0} (p : ℕ) (place freed : AtomicWaker) (next : World D → Result (A × World D) FailureKind) (w : World D) where
  -- a place that is there is held
  pub held : (an_atomic_waker p w >>= (λ there. next (holds_place p place w))) ≡ (holds p place w >>= (λ x. next x.1))
  held = in_two next (holds_place p place w) (an_atomic_waker p w)

  freed_then : (r : Result AtomicWaker FailureKind) → an_atomic_waker p w ≡ r
      → ◌>>=◌ {B = A × World D} r (λ there. next (frees_place p freed (holds_place p place w)))
      ≡ ◌>>=◌ {B = A × World D} (◌>>=◌ {B = ⊤ × World D} r (λ there. Ok (tt, holds_place p place w))) (λ x. frees p freed x.1 >>= (λ y. next y.1))
  freed_then (Err kind) e = refl
  freed_then (Ok there) e =
      ap (λ (r : Result AtomicWaker FailureKind). ◌>>=◌ {B = A × World D} (◌>>=◌ {B = ⊤ × World D} r (λ (found : AtomicWaker). Ok (tt, frees_place p freed (holds_place p place w)))) (λ y. next y.1))
      (sym (found_again w.objects p there (record place { holder = Some w.active }) e))

  -- and then given free
  pub held_and_freed : (an_atomic_waker p w >>= (λ there. next (frees_place p freed (holds_place p place w)))) ≡ (holds p place w >>= (λ x. frees p freed x.1 >>= (λ y. next y.1)))
  held_and_freed = freed_then (an_atomic_waker p w) refl

-- a place that was found is given free
pub freed_found : {A D : Type 0} (p : ℕ) (place : AtomicWaker) (next : World D → Result (A × World D) FailureKind) (w : World D) → an_atomic_waker p w ≡ Ok place
    → (an_atomic_waker p w >>= (λ found. next (frees_place p found w))) ≡ (frees p place w >>= (λ x. next x.1))
freed_found {A} {D} p place next w at =
    ap (λ (r : Result AtomicWaker FailureKind). r >>= (λ (found : AtomicWaker). next (frees_place p found w))) at
    ∙ sym (ap (λ (r : Result AtomicWaker FailureKind). ◌>>=◌ {B = ⊤ × World D} r (λ (there : AtomicWaker). Ok (tt, frees_place p place w)) >>= (λ x. next x.1)) at)

module _ {D : Type 0} (c : ℕ) (after : AfterDrop) (w : World D) where
  forgot_of : (r : Result Wakers FailureKind)
      → (r >>= (λ wakers. after_drop after (acquires_if (wakers.count == 1) c (releases c (with_wakers c (record wakers { count = wakers.count - 1 }) w)))))
      ≡ (◌>>=◌ {B = ⊤ × World D} r (λ wakers. Ok (tt, acquires_if (wakers.count == 1) c (releases c (with_wakers c (record wakers { count = wakers.count - 1 }) w)))) >>= (λ x. after_drop after x.1))
  forgot_of (Err kind) = refl
  forgot_of (Ok wakers) = refl

  -- a waker is dropped, and then comes what follows
  pub forgot : drops_waker c after w ≡ (forgets c w >>= (λ x. after_drop after x.1))
  forgot = forgot_of (some_wakers c w)

module _ {D : Type 0} (p c : ℕ) (place : AtomicWaker) (w : World D) where
  -- where no waker is in the place, a new one takes it
  pub taken_free : place.waker ≡ None → takes_place p c place w ≡ (holds p place w >>= (λ x. frees p (record place { waker = Some c }) x.1 >>= (λ y. answered reply.Done y.1)))
  taken_free e =
      ap (λ (waker : Option ℕ). an_atomic_waker p w >>= (λ there. place_taken p c place waker w)) e
      ∙ held_and_freed p place (record place { waker = Some c }) (answered reply.Done) w

  -- an old one is to be dropped then
  pub taken_after : (old : ℕ) → place.waker ≡ Some old
      → takes_place p c place w ≡ (holds p (record place { waker = Some c }) w >>= (λ x. pends_next (task.DropWaker old (dropped.Free p)) false x.1))
  taken_after old e =
      ap (λ (waker : Option ℕ). an_atomic_waker p w >>= (λ there. place_taken p c place waker w)) e
      ∙ held p (record place { waker = Some c }) (record place { waker = Some c }) (pends_next (task.DropWaker old (dropped.Free p)) false) w

module _ {D : Type 0} (by : Taking) (p : ℕ) (place : AtomicWaker) (w : World D) where
  -- what is in the place is taken out, where nobody holds the lock
  pub taken_out : an_atomic_waker p w ≡ Ok place → is_none place.holder ≡ true
      → takes_waker by p w ≡ (holds p place w >>= (λ x. frees p (record place { waker = None }) x.1 >>= (λ y. has_taken by place.waker y.1)))
  taken_out at free =
      ap (λ (r : Result AtomicWaker FailureKind). r >>= (λ (found : AtomicWaker). check (is_none found.holder) Misuse >>= (λ passed. has_taken by found.waker (frees_place p (record found { waker = None }) (holds_place p found w))))) at
      ∙ ap (λ (is_free : Bool). check is_free Misuse >>= (λ passed. has_taken by place.waker (frees_place p (record place { waker = None }) (holds_place p place w)))) free
      ∙ sym (ap (λ (r : Result AtomicWaker FailureKind). r >>= (λ (found : AtomicWaker). has_taken by place.waker (frees_place p (record place { waker = None }) (holds_place p place w)))) at)
      ∙ held_and_freed p place (record place { waker = None }) (has_taken by place.waker) w

-- a registration, once the place and the waker are found
pub registered : {D : Type 0} (p c : ℕ) (place : AtomicWaker) (own : Wakers) (w : World D) → an_atomic_waker p w ≡ Ok place → wakers_left c w.objects ≡ Ok own
    → registers p c w ≡ registers_if (is_none place.holder) p c place own w
registered p c place own w at own_at =
    ap (λ (r : Result AtomicWaker FailureKind). r >>= (λ (found : AtomicWaker). some_wakers c w >>= (λ wakers. registers_if (is_none found.holder) p c found wakers w))) at
    ∙ ap (λ (r : Result Wakers FailureKind). r >>= (λ (wakers : Wakers). registers_if (is_none place.holder) p c place wakers w)) own_at
