-- What is done with the nodes of a path, one after the other.
use Rattle.std.specs.Prelude.{ℕ, ◌≡◌, ◌≢◌, Bool, true, false, List, Some, None, slice_get, IsSomeAnd, Result, Ok, Err}
use Rattle.loom_views.specs.declared.rt.failure.FailureKind.TheVariants.{NotDeterministic}
use Rattle.loom_objects.specs.Tree.Question.{Made}
use Rattle.loom_objects.specs.declared.failure.Stop.{Stop}
use Rattle.loom_objects.specs.declared.failure.Stop.TheVariants.{Failure}
use Rattle.loom_engine.specs.Walk.Path.{step}
use Rattle.loom_engine.specs.declared.rt.path.node.Node.{Node}
use Rattle.loom_engine.specs.declared.rt.path.node.Node.TheVariants as node
use Rattle.loom_engine.specs.declared.rt.path.node.Schedule.{Schedule}
use Rattle.loom_engine.specs.Path.Nodes.{seen, seen_schedule, stored}

-- this schedule is at the place, made so; or a node that was made otherwise is there, and that is the failure
abbrev pub FindsSchedule : List Node → ℕ → Made → Result Schedule Stop → Type 0
FindsSchedule nodes k made (Ok schedule) = (slice_get nodes k ≡ Some (node.Schedule schedule)) × ((seen_schedule schedule).made ≡ made)
FindsSchedule nodes k made (Err stop) =
    (stop ≡ Failure (record { kind = NotDeterministic; location = None })) × IsSomeAnd (slice_get nodes k) (λ n. (seen n).made ≢ made)

-- the deepest node that can go on does, and what follows it is dropped; or no node can
abbrev pub Steps : List Node → Bool → List Node → Type 0
Steps old true new = step (stored old) ≡ Some (stored new)
Steps old false new = step (stored old) ≡ None
