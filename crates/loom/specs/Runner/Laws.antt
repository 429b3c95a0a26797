-- What is known of runs one after another that begin with a path: that of a store's text, or one without nodes.
use Rattle.std.specs.Prelude.{ℕ, ◌≡◌, ◌≢◌, ◌⊎◌, Bool, false, List, [], ◌∷◌, ◌++◌, Option, Some, None, map, Err, IsSomeAnd}
use Rattle.loom_views.specs.declared.rt.failure.FailureKind.TheVariants.{NotDeterministic}
use Rattle.loom_objects.specs.declared.choice.Choice.{Choice}
use Rattle.loom_objects.specs.declared.failure.Failure.{Failure}
use Rattle.loom_engine.specs.Walk.Lists.{Member, IsOnce, Begins}
use Rattle.loom_engine.specs.Walk.Path.{Skip, Visited, node_at}
use Rattle.loom_engine.specs.Walk.Runs.{Alternative}
use Rattle.loom_engine.specs.Walk.UnderWay.{IsPartedAt}
use Rattle.loom_engine.specs.Trees.Meeting.{Settings}
use Rattle.loom_engine.specs.Trees.Replay.{replayed}
use Rattle.loom_engine.specs.Path.Route.{Route, at_rest, stored}
use Rattle.loom_engine.specs.declared.rt.path.node.Node.{Node}
use Rattle.loom_engine.specs.declared.rt.execution.Limits.{Limits}
use Rattle.loom.specs.Model.StoredText.{ReadsAs}
use Rattle.loom.specs.Runner.Chains.{Run, choices_of, tree_of, machine, IsAmong, HasFailed, Follow}

-- No list of choices comes twice, and neither does that of a run that fails after them.
abbrev pub OnceLaw : Type 0 → Type 0
OnceLaw D = (limits : Limits) (s : Settings) (explores : Bool) (text : Option (List ℕ)) (path : List Node) (runs : List (Run D)) (next : Option Route)
    → ReadsAs s explores text path → Follow limits (at_rest s explores path) runs next
    → IsOnce (map choices_of runs)
    × ((r : Run D) (failure : Failure) → next ≡ Some r.began → HasFailed limits r failure → Member (choices_of r) (map choices_of runs) → ⊥)

-- some run begins with these choices and then the option
abbrev pub IsTried : {D : Type 0} → List (Run D) → List Choice → Choice → Type 0
IsTried runs before o = (x : Run _) × IsAmong x runs × Begins (before ++ o ∷ []) (choices_of x)

-- The path's node after these choices says that the option was tried; or, in a search that isn't reduced, that it isn't to be.
abbrev pub HadTried : Settings → List Node → List Choice → Choice → Type 0
HadTried s path before o = IsSomeAnd (node_at (stored path) before) (λ n. (n.status o ≡ Visited) ⊎ ((s.reduce ≡ false) × (n.status o ≡ Skip)))

-- For each run and each alternative that it calls for, some run begins with the choices of that alternative, up to and with the
-- changed one.
abbrev pub AllTried : {D : Type 0} → Limits → Settings → List (Run D) → Type 0
AllTried limits s runs = (r : Run _) → IsAmong r runs → (before : List Choice) (o : Choice) → Alternative (machine limits s r) (choices_of r) before o → IsTried runs before o

-- Or the path of these nodes had tried it.
abbrev pub AllTriedFrom : {D : Type 0} → Limits → Settings → List Node → List (Run D) → Type 0
AllTriedFrom limits s path runs =
    (r : Run _) → IsAmong r runs → (before : List Choice) (o : Choice) → Alternative (machine limits s r) (choices_of r) before o → IsTried runs before o ⊎ HadTried s path before o

-- Where nothing is left that the search tries, each alternative that a run calls for was tried, or the path with which the first run
-- began had tried it.
abbrev pub AlternativesLaw : Type 0 → Type 0
AlternativesLaw D = (limits : Limits) (s : Settings) (explores : Bool) (text : Option (List ℕ)) (path : List Node) (runs : List (Run D))
    → ReadsAs s explores text path → Follow limits (at_rest s explores path) runs None → AllTriedFrom limits s path runs

-- why a run failed
pub record FailsSo {D : Type 0} (limits : Limits) (s : Settings) (r : Run D) (failure : Failure) : Type 0 where
  -- As not deterministic only where it has passed these choices along the path with which it began, and the next node of that isn't
  -- the one that it met, if it met any: or it ended with nodes left over.
  pub differs : failure.kind ≡ NotDeterministic → IsPartedAt (machine limits s r) (stored r.began.nodes) (choices_of r)
  -- Else by itself: the machine that is handed its operations has that failure again by its choices.
  pub replays : failure.kind ≢ NotDeterministic → replayed s.max_branches (tree_of limits r) (choices_of r) ≡ (choices_of r, Err failure.kind)

-- A run after others that fails does so, and the first run never as not deterministic where the path has no nodes.
abbrev pub FailureLaw : Type 0 → Type 0
FailureLaw D = (limits : Limits) (s : Settings) (explores : Bool) (text : Option (List ℕ)) (path : List Node) (runs : List (Run D)) (r : Run D) (failure : Failure)
    → ReadsAs s explores text path → Follow limits (at_rest s explores path) runs (Some r.began) → HasFailed limits r failure
    → FailsSo limits s r failure × (runs ≡ [] → path ≡ [] → failure.kind ≢ NotDeterministic)
