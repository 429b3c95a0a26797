-- What is told of a run is told of the replay.
use Rattle.std.proofs.Common.{◌≡◌, List, [], length, refl, sym, ap, ◌∙◌}
use Rattle.std.specs.Prelude.{Result, Ok, Err}
use Rattle.loom_explain.specs.declared.event.End.{End}
use Rattle.loom_explain.specs.declared.event.End.TheVariants.{Ended, Failed}
use Rattle.loom_explain.specs.declared.event.Event.{Event}
use Rattle.loom.specs.Explain.Story.{EndsAs, Story}
use Rattle.loom.proofs.ExplainLemmas.Story.{story_law}
use Rattle.loom_objects.specs.declared.choice.Choice.{Choice}
use Rattle.loom_objects.specs.Tree.Tree.{Tree}
use Rattle.loom_engine.specs.Path.Route.{Route, at_rest, chosen, drives, stored, trail}
use Rattle.loom_engine.specs.Runs.Body.{Meaning, runs}
use Rattle.loom_engine.proofs.Runs.Bodies.{run_tree_law}
use Rattle.loom_views.specs.declared.rt.failure.FailureKind.{FailureKind}
use Rattle.loom_engine.specs.Walk.Path.{choices}
use Rattle.loom_engine.specs.Trees.Check.{following}
use Rattle.loom_engine.specs.Trees.Marks.{marking}
use Rattle.loom_engine.specs.Trees.Meeting.{whole_search}
use Rattle.loom_engine.proofs.Trees.Driving.{choices_size}
use Rattle.loom_engine.proofs.Trees.Replays.{replayed_as}
use Rattle.loom.specs.declared.model.builder.Builder.{Builder}
use Rattle.loom.specs.Model.Fresh.{IsReplay}
use Rattle.loom.specs.Explain.Explains.{IsReplayTo, told_run}
use Rattle.loom.specs.Model.Settings.{explores}
use Rattle.loom.proofs.ModelLemmas.Checking.{take_all}
use Rattle.loom.proofs.ModelLemmas.Paths.{stored_length}
use Rattle.loom.proofs.ModelLemmas.Replaying.{replays}

module _ {D S : Type 0} (b : Builder) (next : Meaning D S) (body : S) (given : List Choice) (made : List Choice) (after : Route) (same : made ≡ chosen after) where
  tree : Tree D
  tree = runs next (explores b) b.max_threads b.max_steps body

  -- the path that the run is to follow
  followed : Route
  followed = record (at_rest (whole_search b.max_branches) (explores b) []) { given = given }

  -- what is known of the run that was told
  pub record IsTold (list : List Event) (end : End) : Type 0 where
    pub events : list ≡ (told_run b next body given).events
    pub ends : IsReplayTo b next body given made end
    pub passed : length after.nodes ≡ length made

  driven : (events : List Event) (o : Result D FailureKind) → told_run b next body given ≡ record { events = events; comes = (o, trail after) } → drives tree followed ≡ (o, trail after)
  unfolding tree followed
  driven events o e =
      sym (story_law (whole_search b.max_branches) next (explores b) b.max_threads b.max_steps body (following given))
      ∙ ap (λ (story : Story D). story.comes) e

  replay : (events : List Event) (o : Result D FailureKind) → told_run b next body given ≡ record { events = events; comes = (o, trail after) } → IsReplay b.max_branches tree given made o
  unfolding followed tree
  replay events o e =
      replays (explores b) b.max_branches tree given followed after made o (run_tree_law next (explores b) b.max_threads b.max_steps body) refl (driven events o e) same

  -- the run has passed all its nodes
  all_passed : (events : List Event) (o : Result D FailureKind) → told_run b next body given ≡ record { events = events; comes = (o, trail after) } → length after.nodes ≡ length made
  unfolding followed
  all_passed events o e =
      let passed = replayed_as (whole_search b.max_branches) (marking (whole_search b.max_branches).bound) tree given o (trail after) (driven events o e) in
      sym (stored_length after.nodes) ∙ sym (choices_size (stored after.nodes)) ∙ ap (λ (l : List _). length (choices l)) (sym (take_all (stored after.nodes) after.position passed.1))
      ∙ ap length (sym same)

  pub told : (events : List Event) (end : End) → EndsAs (told_run b next body given) events end (trail after) → IsTold events end
  unfolding tree
  told events Ended (value, e) = record { events = sym (ap (λ (story : Story D). story.events) e); ends = (value, replay events (Ok value) e); passed = all_passed events (Ok value) e }
  told events (Failed failure) e = record { events = sym (ap (λ (story : Story D). story.events) e); ends = replay events (Err failure.kind) e; passed = all_passed events (Err failure.kind) e }
