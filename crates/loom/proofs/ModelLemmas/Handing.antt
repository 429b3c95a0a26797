-- An operation that a body hands over.
use Rattle.std.proofs.Common.{◌≡◌, ◌<◌, ℕ, zero, suc, List, [], ◌∷◌, length, get_or, sym, ◌∙◌, ap, subst, arith}
use Rattle.std.specs.Prelude.{Result, Option, Some, None, slice_get, ⊤}
use Rattle.loom_objects.specs.declared.failure.Stop.{Stop}
use Rattle.loom_objects.specs.Operation.Labelled.{Op}
use Rattle.loom_objects.specs.declared.operation.Request.{Request}
use Rattle.loom_objects.specs.declared.operation.Reply.{Reply}
use Rattle.loom_objects.specs.declared.operation.Turn.{Turn}
use Rattle.loom_engine.specs.Execution.{ExecutionState, Submits, SubmitsAt}
use Rattle.loom_engine.specs.Path.Route.{IsSameSearch, Route}
use Rattle.loom_engine.specs.Runs.Body.{Meaning}

pub slice_get_is : {A : Type 0} (xs : List A) (i : ℕ) (x : A) → i < length xs → x ≡ get_or xs i x → slice_get xs i ≡ Some x
slice_get_is [] i x l e = absurd (omega arith)
slice_get_is (y ∷ ys) zero x l e = ap Some (sym e)
slice_get_is (y ∷ ys) (suc i) x l e = slice_get_is ys i x (omega arith) e

-- the search stays the same over one stretch and then another
pub joined : (old mid new : Route) → IsSameSearch old mid → IsSameSearch mid new → IsSameSearch old new
joined old mid new one other = (other.0 ∙ one.0, other.1 ∙ one.1, other.2 ∙ one.2)

-- an operation is submitted to an execution that isn't over
pub before_the_end : {D : Type 0} (old new : ExecutionState D) (todo : Request D ⊤) (path path' : Route) (result : Result (Turn D) Stop) → old.over ≡ None
    → Submits old todo path result new path' → SubmitsAt None old todo path result new path'
before_the_end old new todo path path' result going event = subst (λ (over : Option Stop). SubmitsAt over old todo path result new path') going event

module _ {D S : Type 0} (next : Meaning D S) where
  -- the operation that the thread's body hands over
  pub record IsHanded (bodies : List S) (thread : ℕ) (answer : Reply D) (body after : S) (op : Op D S) : Type 0 where
    pub within : thread < length bodies
    pub at : body ≡ get_or bodies thread body
    pub step : (after, op) ≡ next body answer
