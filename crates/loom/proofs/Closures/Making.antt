-- The runs of a check go on by one more.
use Rattle.std.proofs.Common.{◌≡◌, ◌∷◌, List, sym, subst, Option, Some, Result, Ok, Err, IfErr}
use Rattle.loom_objects.specs.declared.choice.Choice.{Choice}
use Rattle.loom_engine.specs.declared.rt.execution.Limits.{Limits}
use Rattle.loom_engine.specs.Path.Route.{Route}
use Rattle.loom.specs.declared.runner.stop.Stop.{Stop}
use Rattle.loom.specs.Runner.Chains.{GoesTo}
use Rattle.loom.specs.Runner.Handle.{Teller}
use Rattle.loom.specs.Runner.Check.{Made, Given, Rounds}

-- a test that passed has refused nothing
pub not_refused : {A E : Type 0} (r : Result A E) (x : A) (P : E → Type 0) → Ok x ≡ r → IfErr r P
not_refused (Ok a) x P e = tt
not_refused (Err y) x P e = cc e

module _ {D F V : Type 0} (called : F → Teller D → Result D Stop → F → Teller D → Type 0) (takes : V → List Choice → D → V → Type 0) (limits : Limits) where
  -- the runs go on by one that began where the last one stepped to
  pub goes_on : (path began : Route) (f0 f f' : F) (v0 v v' : V) (ms : List (Made D)) (m : Made D) (next : Option Route) → Rounds called takes limits path f0 v0 ms f v (Some began) → m.began ≡ began
      → Given called takes limits f v m f' v' → GoesTo m.log.now.route next → Rounds called takes limits path f0 v0 (m ∷ ms) f' v' next
  goes_on path began f0 f f' v0 v v' ms m next rounds same given goes =
      (f, v, (let P : Route → Type 0 = λ r. Rounds called takes limits path f0 v0 ms f v (Some r) in subst P (sym same) rounds), given, goes)
