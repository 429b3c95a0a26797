-- Runs that were made of a closure, one after another.
use Rattle.std.proofs.Common.{◌<◌, ℕ, zero, suc, List, [], ◌∷◌, ◌++◌, length, sym, subst, arith}
use Rattle.std.specs.Prelude.{IfSome, Option, Some, None, Result, slice_index_or}
use Rattle.loom_engine.specs.declared.rt.execution.Limits.{Limits}
use Rattle.loom.specs.declared.runner.stop.Stop.{Stop}
use Rattle.loom.specs.Runner.Handle.{Teller}
use Rattle.loom.specs.Runner.Made.{Made}
use Rattle.loom.specs.Runner.Recorded.{AreDone, Function, HasMade, IsDone, MayHaveMade}

module _ {D F : Type 0} (called : F → Teller D → Result D Stop → F → Teller D → Type 0) (limits : Limits) where
  abbrev pub with_more : Option (Made D) → List (Made D) → List (Made D)
  with_more None real = real
  with_more (Some m) real = m ∷ real

  pub made_more : (f0 f f' : F) (real : List (Made D)) (more : Option (Made D)) → HasMade called limits f0 real f → MayHaveMade called limits f more f' → HasMade called limits f0 (with_more more real) f'
  made_more f0 f f' real None made may = subst (λ (g : F). HasMade called limits f0 real g) (sym may) made
  made_more f0 f f' real (Some m) made may = (f, made, may)

  pub done_before : (does : Function D) (real : List (Made D)) (more : Option (Made D)) → AreDone does (with_more more real) → AreDone does real
  done_before does real None done = done
  done_before does real (Some m) done = λ k d l. done (suc k) d (omega arith)

  pub done_more : (does : Function D) (real : List (Made D)) (more : Option (Made D)) → AreDone does (with_more more real) → IfSome more (λ m. IsDone does m.log.history)
  done_more does real None done = tt
  done_more does real (Some m) done = done 0 m (omega arith)

  -- and more of them
  pub made_all : (f0 f : F) (real : List (Made D)) → HasMade called limits f0 real f → (more : List (Made D)) (f' : F) → HasMade called limits f more f' → HasMade called limits f0 (more ++ real) f'
  made_all f0 f real made [] f' same = subst (λ (g : F). HasMade called limits f0 real g) (sym same) made
  made_all f0 f real made (m ∷ more) f' (g, before, one) = (g, made_all f0 f real made more g before, one)

pub done_behind : {D : Type 0} (does : Function D) (more real : List (Made D)) → AreDone does (more ++ real) → AreDone does real
done_behind does [] real done = done
done_behind does (m ∷ more) real done = done_behind does more real (λ k d l. done (suc k) d (omega arith))

pub done_first : {D : Type 0} (does : Function D) (more real : List (Made D)) → AreDone does (more ++ real) → AreDone does more
done_first does [] real done = λ k d l. absurd (omega (arith, l))
done_first does (m ∷ more) real done = go (done_first does more real (λ j e h. done (suc j) e (omega (arith, h))))
  where
    go : AreDone does more → (k : ℕ) (d : Made _) → k < length (m ∷ more) → IsDone does (slice_index_or (m ∷ more) k d).log.history
    go rest zero d l = done 0 d (omega arith)
    go rest (suc k) d l = rest k d (omega (arith, l))
