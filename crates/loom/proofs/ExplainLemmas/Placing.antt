-- The place of a failure changes nothing of how a run ends.
use Rattle.std.proofs.Common.{List, refl}
use Rattle.loom_explain.specs.declared.event.Event.{Event}
use Rattle.loom_explain.specs.declared.event.End.{End}
use Rattle.loom_explain.specs.declared.event.End.TheVariants.{Ended, Failed}
use Rattle.loom_engine.specs.Runs.Body.{Meaning}
use Rattle.loom_objects.specs.declared.choice.Choice.{Choice}
use Rattle.loom.specs.declared.model.builder.Builder.{Builder}
use Rattle.loom.specs.Explain.Explains.{IsReplayTo}
use Rattle.loom.specs.Explain.Places.{IsPlaced, placed}

pub ends_placed : {D S : Type 0} (b : Builder) (next : Meaning D S) (body : S) (given made : List Choice) (events : List Event) (choices : List Choice) (end : End)
    → IsReplayTo b next body given made end → IsReplayTo b next body given made (placed events choices end)
ends_placed b next body given made events choices Ended z = z
ends_placed b next body given made events choices (Failed failure) z = z

pub is_placed : (events : List Event) (choices : List Choice) (end : End) → IsPlaced events choices (placed events choices end)
is_placed events choices Ended = tt
is_placed events choices (Failed failure) = refl
