-- Which moves may be made, where some may be left out.
use Rattle.std.proofs.Common.{◌≡◌, ℕ, refl}
use Rattle.std.specs.Prelude.{Result, Ok, Err}
use Rattle.std.specs.declared.sync.atomic.Ordering.{Ordering}
use Rattle.loom_views.specs.Laws.Moves.{Moves, fence as fences, new_atomic, load, store as stores, update, update_fail, with_mut_end}
use Rattle.loom_views.specs.Views.{Points}
use Rattle.loom_views.specs.declared.rt.atomic.reader.Reader.{Reader}
use Rattle.loom_views.specs.declared.rt.atomic.reader.Reader.TheVariants as reader
use Rattle.loom_views.specs.declared.rt.failure.FailureKind.{FailureKind}
use Rattle.loom_objects.specs.Rules.Moves.{with_points}
use Rattle.loom_objects.specs.Rules.Rule.{◌>>=◌}
use Rattle.loom_objects.specs.World.{World}
use Rattle.loom_engine.proofs.Runs.Answering.{Answers}

-- what is answered is that, too
pub answered : {A B : Type 0} (Q : A → Type 0) (r : Result B FailureKind) (next : B → Result A FailureKind) → ((b : B) → r ≡ Ok b → Answers Q (next b)) → Answers Q (r >>= next)
answered Q (Ok b) next h = h b refl
answered Q (Err kind) next h = tt

-- only points change
pub by_points : {D A : Type 0} (Q : A → Type 0) (v : World D) (r : Result Points FailureKind) (next : World D → Result A FailureKind) → ((p : Points) → r ≡ Ok p → Answers Q (next (with_points p v)))
    → Answers Q ((r >>= (λ p. Ok (with_points p v))) >>= next)
by_points Q v (Ok p) next h = h p refl
by_points Q v (Err kind) next h = tt

-- a move that may be left out: a fence by some ordering, one that makes a store or changes its value, or a thread's read of the store
-- in a slot of an atomic, from these points
pub data Does : Type 0 where
  Fencing : Ordering → Does
  Storing : Does
  Reading : Points → ℕ → ℕ → Reader → ℕ → Does

-- if the move is such a one, it may be made
abbrev pub MayBy : (Does → Type 0) → {p q : Points} → Moves p q → Type 0
MayBy May (fences t order raised e) = May (Fencing order)
MayBy May (new_atomic t value) = May Storing
MayBy May (stores t n value order raised after e f) = May Storing
MayBy May (load t n slot order raised after e f) = May (Reading raised t n (reader.Load order) slot)
MayBy May (update t n slot value order raised read after e f g) = May Storing × May (Reading raised t n reader.Update slot)
MayBy May (update_fail t n slot order raised read e f) = May (Reading raised t n reader.Update slot)
MayBy May (with_mut_end t n value after e) = May Storing
MayBy May _ = Unit {0}
