-- A read of a cell whose end doesn't reach a later write, which passes all the same.
use Rattle.std.specs.Prelude.{◌≡◌, true, false, [], ◌∷◌, slice_get, is_ok, Some, Result, Ok, Err}
use Rattle.std.specs.Option.{option_map}
use Rattle.std.specs.declared.sync.atomic.Ordering.TheVariants.{Release}
use Rattle.loom_views.specs.declared.rt.failure.FailureKind.{FailureKind}
use Rattle.loom_views.specs.Graph.{reaches, inside}
use Rattle.loom_views.specs.Views.{Points, opening, points_after_raise, points_after_acquire, points_after_release, points_with_point, points_after_spawn, points_with_cell, points_after_read, points_after_write}
use Rattle.loom_views.specs.Laws.Reaching.{is_raising, reads_of}

abbrev pub then : {A B : Type 0} → Result A FailureKind → (A → Result B FailureKind) → Result B FailureKind
then (Ok x) next = next x
then (Err kind) next = Err kind

-- Main has a cell (0) and two mutexes (1, 2), and spawns a child. It begins a read, releases mutex 1, acquires from mutex 2, which
-- nobody has released, and ends the read. The child acquires from mutex 1, and raises
unfoldable pub beside_an_end : Result Points FailureKind
beside_an_end =
    then (points_after_spawn (points_with_point (points_with_point (points_with_cell opening 0))) 0) (λ spawned.
    then (points_after_raise spawned 0) (λ raised.
    then (points_after_read raised 0 0) (λ begun.
    then (points_after_read (points_after_acquire (points_after_release begun 0 1 Release) 0 2) 0 0) (λ ended.
    points_after_raise (points_after_acquire ended 1 1) 1))))

-- The cell was made at point 1, the read began at point 8, which raises, and ended at point 10, which doesn't. The child's
-- present point is 12. The begin reaches it, and the end doesn't, but its view is inside. So the child may write
pub record EndLaw : Type 0 where
  pub reads : then beside_an_end (λ p. Ok (reads_of (slice_get p.places 0))) ≡ Ok (1 ∷ 8 ∷ 10 ∷ [])
  pub present : then beside_an_end (λ p. Ok (option_map (λ own. own.present) (slice_get p.threads 1))) ≡ Ok (Some 12)
  pub raising : then beside_an_end (λ p. Ok (is_raising p.graph 8 ∷ is_raising p.graph 10 ∷ [])) ≡ Ok (true ∷ false ∷ [])
  pub reaching : then beside_an_end (λ p. Ok (reaches p.graph 8 12 ∷ reaches p.graph 10 12 ∷ [])) ≡ Ok (true ∷ false ∷ [])
  pub contained : then beside_an_end (λ p. Ok (inside p.graph 10 12)) ≡ Ok true
  pub passes : is_ok (then beside_an_end (λ p. points_after_write p 1 0)) ≡ true
