-- The points themselves tell their moves.
use Rattle.std.proofs.Common.{◌≡◌, ℕ, Bool, List, length, Result, refl, ap, subst}
use Rattle.loom_views.specs.Views.{Accessed, Points, points_after_acquire, points_after_fence, points_after_join, points_after_load, points_after_raise, points_after_read, points_after_release, points_after_spawn, points_after_stamp, points_after_stamp_acquire, points_after_stamp_release, points_after_store, points_after_unsync_load, points_after_update_fail, points_after_update_read, points_after_update_write, points_after_with_mut, points_after_with_mut_end, points_after_write, points_after_yield, points_with_atomic, points_with_cell, points_with_point, points_with_stamp, readable_slots_of}
use Rattle.loom_views.specs.declared.rt.failure.FailureKind.{FailureKind}
use Rattle.loom_objects.specs.Tree.Tree.{came}
use Rattle.loom_engine.specs.Covering.Points.{AccessesAlike, MovesAlike, SlotsAlike, ThemselvesLaw, ValuesSame}
use Rattle.loom_engine.proofs.Covering.Seen.{alike_self}

module _ (limits : FailureKind → Bool) where
  moves_self : (r : Result Points FailureKind) → MovesAlike limits (λ (p : Points). p) r r
  moves_self r = alike_self limits (λ (p q : Points). p ≡ q) (λ p. refl) (came r)

  accesses_self : (r : Result Accessed FailureKind) → AccessesAlike limits (λ (p : Points). p) r r
  accesses_self r = alike_self limits (ValuesSame limits (λ (p : Points). p)) (λ a. (refl, refl)) (came r)

  slots_self : (r : Result (List ℕ) FailureKind) → SlotsAlike limits (λ (p : Points). p) r r
  slots_self r = alike_self limits (λ (a b : List ℕ). a ≡ b) (λ a. refl) (came r)

pub themselves_law : ThemselvesLaw
themselves_law limits = record {
  stamps = λ p q e. ap (λ (x : Points). length x.stamps) e;
  raise = λ p q t e. subst (λ x. MovesAlike limits (λ (y : Points). y) (points_after_raise p t) (points_after_raise x t)) e (moves_self limits (points_after_raise p t));
  spawn = λ p q t e. subst (λ x. MovesAlike limits (λ (y : Points). y) (points_after_spawn p t) (points_after_spawn x t)) e (moves_self limits (points_after_spawn p t));
  acquire = λ p q t n e. ap (λ x. points_after_acquire x t n) e;
  release = λ p q t n order e. ap (λ x. points_after_release x t n order) e;
  fence = λ p q t order e. ap (λ x. points_after_fence x t order) e;
  join = λ p q t u e. ap (λ x. points_after_join x t u) e;
  yield = λ p q t e. ap (λ x. points_after_yield x t) e;
  point = λ p q e. ap (λ x. points_with_point x) e;
  stamp = λ p q e. ap (λ x. points_with_stamp x) e;
  stamped = λ p q n m e. ap (λ x. points_after_stamp x n m) e;
  stamp_release = λ p q t m order e. ap (λ x. points_after_stamp_release x t m order) e;
  stamp_acquire = λ p q t m e. ap (λ x. points_after_stamp_acquire x t m) e;
  atomic = λ p q t value e. ap (λ x. points_with_atomic x t value) e;
  readable = λ p q t n reader e. subst (λ x. SlotsAlike limits (λ (y : Points). y) (readable_slots_of p t n reader) (readable_slots_of x t n reader)) e (slots_self limits (readable_slots_of p t n reader));
  load = λ p q t n slot order e. subst (λ x. AccessesAlike limits (λ (y : Points). y) (points_after_load p t n slot order) (points_after_load x t n slot order)) e (accesses_self limits (points_after_load p t n slot order));
  store = λ p q t n value order e. subst (λ x. AccessesAlike limits (λ (y : Points). y) (points_after_store p t n value order) (points_after_store x t n value order)) e (accesses_self limits (points_after_store p t n value order));
  update_read = λ p q t n slot e. subst (λ x. AccessesAlike limits (λ (y : Points). y) (points_after_update_read p t n slot) (points_after_update_read x t n slot)) e (accesses_self limits (points_after_update_read p t n slot));
  update_write = λ p q t n slot value order e. subst (λ x. AccessesAlike limits (λ (y : Points). y) (points_after_update_write p t n slot value order) (points_after_update_write x t n slot value order)) e (accesses_self limits (points_after_update_write p t n slot value order));
  update_fail = λ p q t n slot order e. ap (λ x. points_after_update_fail x t n slot order) e;
  unsync_load = λ p q t n e. subst (λ x. AccessesAlike limits (λ (y : Points). y) (points_after_unsync_load p t n) (points_after_unsync_load x t n)) e (accesses_self limits (points_after_unsync_load p t n));
  with_mut = λ p q t n e. subst (λ x. AccessesAlike limits (λ (y : Points). y) (points_after_with_mut p t n) (points_after_with_mut x t n)) e (accesses_self limits (points_after_with_mut p t n));
  with_mut_end = λ p q t n value e. subst (λ x. AccessesAlike limits (λ (y : Points). y) (points_after_with_mut_end p t n value) (points_after_with_mut_end x t n value)) e (accesses_self limits (points_after_with_mut_end p t n value));
  cell = λ p q t e. ap (λ x. points_with_cell x t) e;
  read = λ p q t n e. subst (λ x. MovesAlike limits (λ (y : Points). y) (points_after_read p t n) (points_after_read x t n)) e (moves_self limits (points_after_read p t n));
  write = λ p q t n e. subst (λ x. MovesAlike limits (λ (y : Points). y) (points_after_write p t n) (points_after_write x t n)) e (moves_self limits (points_after_write p t n));
}
