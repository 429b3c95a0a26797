-- Nodes that are where another one is asked for.
use Rattle.std.proofs.Common.{◌≡◌, ◌≢◌, ℕ, Bool, true, List, Option, Some, ap, sym, subst}
use Rattle.std.specs.Prelude.{slice_get, IsSomeAnd}
use Rattle.loom_objects.specs.Tree.Asked.{which_thread}
use Rattle.loom_objects.specs.Tree.Question.{Made, made_of}
use Rattle.loom_objects.specs.declared.rt.schedule.Offers.{Offers}
use Rattle.loom_engine.specs.Walk.Machine.{is_thread}
use Rattle.loom_engine.specs.declared.rt.path.node.Node.{Node}
use Rattle.loom_engine.specs.declared.rt.path.node.Node.TheVariants as node
use Rattle.loom_engine.specs.declared.rt.path.node.Schedule.{Schedule}
use Rattle.loom_engine.specs.Path.Nodes.{seen}
use Rattle.loom_engine.proofs.Nodes.Marking.Nearest.{is_no_thread}

-- the node at this place was made otherwise
pub made_otherwise : (nodes : List Node) (k : ℕ) (n : Node) (made : Made) → slice_get nodes k ≡ Some n → ((seen n).made ≡ made → ⊥) → IsSomeAnd (slice_get nodes k) (λ m. (seen m).made ≢ made)
made_otherwise nodes k n made h f = subst (λ (o : Option Node). IsSomeAnd o (λ m. (seen m).made ≢ made)) (sym h) f

-- as is one that is no schedule, where a schedule is asked for
pub no_schedule : (nodes : List Node) (k : ℕ) (n : Node) (exploring : Bool) (offers : Offers) (places : List (Option ℕ)) → slice_get nodes k ≡ Some n
    → ((s : Schedule) → n ≡ node.Schedule s → ⊥) → IsSomeAnd (slice_get nodes k) (λ m. (seen m).made ≢ made_of (which_thread exploring offers places))
no_schedule nodes k n exploring offers places h f =
    made_otherwise nodes k n (made_of (which_thread exploring offers places)) h
    (λ e. let thread : is_thread (seen n).made.default ≡ true = ap (λ (m : Made). is_thread m.default) e in cc (thread, is_no_thread n f))
