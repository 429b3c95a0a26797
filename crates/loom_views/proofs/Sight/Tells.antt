-- What is seen of points tells what comes of each move.
use Rattle.std.proofs.Common.{◌≡◌, length, refl, ap, subst, inl, ⊎_elim, Result, Ok, Err}
use Rattle.loom_views.specs.declared.rt.failure.FailureKind.{FailureKind}
use Rattle.loom_views.specs.Sight.{seen}
use Rattle.loom_views.specs.Views.{Accessed, Points, points_after_acquire, points_after_fence, points_after_join, points_after_load, points_after_raise, points_after_read, points_after_release, points_after_spawn, points_after_stamp, points_after_stamp_acquire, points_after_stamp_release, points_after_store, points_after_unsync_load, points_after_update_fail, points_after_update_read, points_after_update_write, points_after_with_mut, points_after_with_mut_end, points_after_write, points_after_yield, points_with_atomic, points_with_cell, points_with_point, points_with_stamp, readable_slots_of}
use Rattle.loom_views.specs.Laws.Sight.{RaisesAlike, MovesAlike, AccessesAlike, SightLaw}
use Rattle.loom_views.specs.InOrder.{IsRising}
use Rattle.loom_views.proofs.Sight.Shapes.{Same}
use Rattle.loom_views.proofs.Sight.Spots.{Paired, paired_next, Pair, seen_from, seen_to}
use Rattle.loom_views.proofs.Sight.Moves.{MovesSame, RaisesSame, raise_same, spawn_same, acquire_same, release_same, join_same, yield_same, point_same, stamp_same, stamped_same, stamp_release_same, stamp_acquire_same, cell_same, read_same, write_same}
use Rattle.loom_views.proofs.Sight.Accesses.{AccessSame, load_same, store_same, update_read_same, update_write_same, update_fail_same, unsync_load_same, mutate_same, mutate_end_same, atomic_same, readable_slots_same, fence_same}

module _ (p q : Points) (e : seen p ≡ seen q) where
  by_pair : {X : Type 0} → (Pair p q → X) → (p ≡ q → X) → X
  by_pair f g = ⊎_elim f g (seen_from p q e)

  -- a function of points
  tells : (f : Points → Points) → ((rising : IsRising (Paired p q)) → Same (Paired p q) p q → Same (Paired p q) (f p) (f q)) → seen (f p) ≡ seen (f q)
  tells f h = by_pair (λ k. seen_to (Paired p q) k.rising (f p) (f q) (h k.rising k.same)) (λ i. ap (λ x. seen (f x)) i)

  moves_alike : (rising : IsRising (Paired p q)) (r s : Result Points FailureKind) → MovesSame (Paired p q) rising r s → MovesAlike r s
  moves_alike rising (Ok x) (Ok y) h = seen_to (Paired p q) rising x y h
  moves_alike rising (Ok x) (Err kind) h = absurd h
  moves_alike rising (Err kind) (Ok y) h = absurd h
  moves_alike rising (Err kind) (Err other) h = h

  raises_alike : (rising : IsRising (Paired p q)) (r s : Result Points FailureKind) → RaisesSame (Paired p q) rising r s → RaisesAlike r s
  raises_alike rising (Ok x) (Ok y) h = seen_to (Paired p q) rising x y h
  raises_alike rising (Ok x) (Err kind) h = h
  raises_alike rising (Err kind) (Ok y) h = h
  raises_alike rising (Err kind) (Err other) h = h

  accesses_alike : (rising : IsRising (Paired p q)) (r s : Result Accessed FailureKind) → AccessSame (Paired p q) rising r s → AccessesAlike r s
  accesses_alike rising (Ok a) (Ok b) h = (h.0, seen_to (Paired p q) rising a.points b.points h.1)
  accesses_alike rising (Ok a) (Err kind) h = absurd h
  accesses_alike rising (Err kind) (Ok b) h = absurd h
  accesses_alike rising (Err kind) (Err other) h = h

  move_itself : (r : Result Points FailureKind) → MovesAlike r r
  move_itself (Ok x) = refl
  move_itself (Err kind) = refl

  raise_itself : (r : Result Points FailureKind) → RaisesAlike r r
  raise_itself (Ok x) = refl
  raise_itself (Err kind) = inl refl

  access_itself : (r : Result Accessed FailureKind) → AccessesAlike r r
  access_itself (Ok a) = (refl, refl)
  access_itself (Err kind) = refl

  tells_move : (f : Points → Result Points FailureKind) → ((rising : IsRising (Paired p q)) → Same (Paired p q) p q → MovesSame (Paired p q) rising (f p) (f q)) → MovesAlike (f p) (f q)
  tells_move f h = by_pair (λ k. moves_alike k.rising (f p) (f q) (h k.rising k.same)) (λ i. subst (λ x. MovesAlike (f p) (f x)) i (move_itself (f p)))

  tells_raise : (f : Points → Result Points FailureKind) → ((rising : IsRising (Paired p q)) → Same (Paired p q) p q → RaisesSame (Paired p q) rising (f p) (f q)) → RaisesAlike (f p) (f q)
  tells_raise f h = by_pair (λ k. raises_alike k.rising (f p) (f q) (h k.rising k.same)) (λ i. subst (λ x. RaisesAlike (f p) (f x)) i (raise_itself (f p)))

  tells_access : (f : Points → Result Accessed FailureKind) → ((rising : IsRising (Paired p q)) → Same (Paired p q) p q → AccessSame (Paired p q) rising (f p) (f q)) → AccessesAlike (f p) (f q)
  tells_access f h = by_pair (λ k. accesses_alike k.rising (f p) (f q) (h k.rising k.same)) (λ i. subst (λ x. AccessesAlike (f p) (f x)) i (access_itself (f p)))

  tells_value : {X : Type 0} (f : Points → X) → ((rising : IsRising (Paired p q)) → Same (Paired p q) p q → f p ≡ f q) → f p ≡ f q
  tells_value {X} f h = by_pair (λ k. h k.rising k.same) (λ i. ap f i)

pub sight_law : SightLaw
sight_law = record {
  stamps = λ p q e. tells_value p q e (λ x. length x.stamps) (λ rising s. s.stamps);
  raise = λ p q t e. tells_raise p q e (λ x. points_after_raise x t) (λ rising s. raise_same (Paired p q) rising p q s (paired_next p q) t);
  spawn = λ p q t e. tells_raise p q e (λ x. points_after_spawn x t) (λ rising s. spawn_same (Paired p q) rising p q s (paired_next p q) t);
  acquire = λ p q t n e. tells p q e (λ x. points_after_acquire x t n) (λ rising s. acquire_same (Paired p q) rising p q s t n);
  release = λ p q t n order e. tells p q e (λ x. points_after_release x t n order) (λ rising s. release_same (Paired p q) rising p q s t n order);
  fence = λ p q t order e. tells p q e (λ x. points_after_fence x t order) (λ rising s. fence_same (Paired p q) rising p q s t order);
  join = λ p q t u e. tells p q e (λ x. points_after_join x t u) (λ rising s. join_same (Paired p q) rising p q s t u);
  yield = λ p q t e. tells p q e (λ x. points_after_yield x t) (λ rising s. yield_same (Paired p q) rising p q s t);
  point = λ p q e. tells p q e points_with_point (λ rising s. point_same (Paired p q) rising p q s);
  stamp = λ p q e. tells p q e points_with_stamp (λ rising s. stamp_same (Paired p q) rising p q s);
  stamped = λ p q n m e. tells p q e (λ x. points_after_stamp x n m) (λ rising s. stamped_same (Paired p q) rising p q s n m);
  stamp_release = λ p q t m order e. tells p q e (λ x. points_after_stamp_release x t m order) (λ rising s. stamp_release_same (Paired p q) rising p q s t m order);
  stamp_acquire = λ p q t m e. tells p q e (λ x. points_after_stamp_acquire x t m) (λ rising s. stamp_acquire_same (Paired p q) rising p q s t m);
  atomic = λ p q t value e. tells p q e (λ x. points_with_atomic x t value) (λ rising s. atomic_same (Paired p q) rising p q s t value);
  readable = λ p q t n reader e. tells_value p q e (λ x. readable_slots_of x t n reader) (λ rising s. readable_slots_same (Paired p q) rising p q s t n reader);
  load = λ p q t n slot order e. tells_access p q e (λ x. points_after_load x t n slot order) (λ rising s. load_same (Paired p q) rising p q s t n slot order);
  store = λ p q t n value order e. tells_access p q e (λ x. points_after_store x t n value order) (λ rising s. store_same (Paired p q) rising p q s t n value order);
  update_read = λ p q t n slot e. tells_access p q e (λ x. points_after_update_read x t n slot) (λ rising s. update_read_same (Paired p q) rising p q s t n slot);
  update_write = λ p q t n slot value order e. tells_access p q e (λ x. points_after_update_write x t n slot value order) (λ rising s. update_write_same (Paired p q) rising p q s t n slot value order);
  update_fail = λ p q t n slot order e. tells p q e (λ x. points_after_update_fail x t n slot order) (λ rising s. update_fail_same (Paired p q) rising p q s t n slot order);
  unsync_load = λ p q t n e. tells_access p q e (λ x. points_after_unsync_load x t n) (λ rising s. unsync_load_same (Paired p q) rising p q s t n);
  with_mut = λ p q t n e. tells_access p q e (λ x. points_after_with_mut x t n) (λ rising s. mutate_same (Paired p q) rising p q s t n);
  with_mut_end = λ p q t n value e. tells_access p q e (λ x. points_after_with_mut_end x t n value) (λ rising s. mutate_end_same (Paired p q) rising p q s t n value);
  cell = λ p q t e. tells p q e (λ x. points_with_cell x t) (λ rising s. cell_same (Paired p q) rising p q s t);
  read = λ p q t n e. tells_move p q e (λ x. points_after_read x t n) (λ rising s. read_same (Paired p q) rising p q s t n);
  write = λ p q t n e. tells_move p q e (λ x. points_after_write x t n) (λ rising s. write_same (Paired p q) rising p q s t n);
}
