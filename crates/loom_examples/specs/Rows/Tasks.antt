-- What is printed of a row besides the line of a check.
use Rattle.std.specs.Prelude.{ℕ, ◌≡◌, ◌++◌, Bool, false, List, [], Option, None, codes, decimal, length, map, ⊤}
use Rattle.std.specs.Io.KnownBytes.{Appends}
use Rattle.loom_views.specs.Failures.{number_of}
use Rattle.loom_objects.specs.declared.choice.Choice.{Choice}
use Rattle.loom_objects.specs.Tree.Tree.{Tree}
use Rattle.loom.specs.Model.ChoicesText.{others_text}
use Rattle.loom.specs.Model.Covered.{Claims, ClaimsTogether, HaveComeTo, runs_in}
use Rattle.loom.specs.Model.Fresh.{Replays}
use Rattle.loom.specs.Model.Check.{ReportsAlone}
use Rattle.loom.specs.Model.Rising.{RisesTo}
use Rattle.loom.specs.Model.Settings.{explores}
use Rattle.loom.specs.declared.model.builder.Builder.{Builder}
use Rattle.loom.specs.declared.model.cover.Covered.{Covered}
use Rattle.loom.specs.declared.model.Replay.{Replay}
use Rattle.loom.specs.declared.model.Replay.TheVariants as replay
use Rattle.loom.specs.declared.model.report.Report.{Report}
use Rattle.loom.specs.declared.model.rising.Risen.{Risen}
use Rattle.loom_engine.specs.Runs.Body.{Meaning, runs as runs_of}
use Rattle.loom_engine.specs.declared.rt.path.node.Node.{Node}
use Rattle.loom_examples.specs.Scripts.Running.{started}
use Rattle.loom_examples.specs.Scripts.Script as script
use Rattle.loom_examples.specs.Rows.Builder.{IsBuilder}
use Rattle.loom_examples.specs.Rows.Changes.{changed}
use Rattle.loom_examples.specs.Scripts.Written.{written}
use Rattle.loom_examples.specs.Rows.Line.{PrintedCovered, PrintedOf, report_text, status_of}
use Rattle.loom_examples.specs.Bodies.Updates as updates
use Rattle.loom_examples.specs.declared.rows.Checked.{Checked}
use Rattle.loom_examples.specs.declared.rows.Checked.TheVariants.{Script, Updater}
use Rattle.loom_examples.specs.declared.rows.changes.Changes.{Changes}
use Rattle.loom_examples.specs.declared.rows.settings.Settings.{Settings}
use Rattle.loom_examples.specs.declared.rows.tasks.Task.{Task}
use Rattle.loom_examples.specs.declared.rows.tasks.Task.TheVariants as task

-- ---- lines

abbrev pub risen_text : Risen → List ℕ
risen_text risen = codes "bound " ++ decimal risen.bound ++ codes " " ++ report_text risen.report

abbrev pub replay_text : Replay ℕ → List ℕ
replay_text (replay.Ended choices value) = codes "ended" ++ others_text choices.items
replay_text (replay.Failed failure choices) = codes "failed " ++ decimal (number_of failure.kind) ++ others_text choices.items

-- 1 where the run failed
abbrev pub replay_status : Replay ℕ → ℕ
replay_status (replay.Ended choices value) = 0
replay_status (replay.Failed failure choices) = 1

-- just this line was written, and the status is its own
abbrev pub PrintedRisen : Risen → Option (List ℕ) → Option (List ℕ) → ℕ → Type 0
PrintedRisen risen old new status = (status ≡ status_of risen.report) × Appends old new (risen_text risen ++ codes "\n")

abbrev pub PrintedReplay : Replay ℕ → Option (List ℕ) → Option (List ℕ) → ℕ → Type 0
PrintedReplay made old new status = (status ≡ replay_status made) × Appends old new (replay_text made ++ codes "\n")

-- nothing was written behind this, unless a failure is explained
abbrev pub IsBehind : Bool → Option (List ℕ) → Option (List ℕ) → Type 0
IsBehind explains mid new = explains ≡ false → new ≡ mid

-- ---- tasks

-- What was written is of a report that a check by this builder promises of the runs of this tree, or of what its checks with bounds
-- up to 3 find, or of a run by these choices.
abbrev pub PrintedBy : Task → Bool → Builder → Tree ℕ → Option (List ℕ) → Option (List ℕ) → ℕ → Type 0
PrintedBy task.Check explains b tree old new status =
    (report : Report) × ReportsAlone b tree report × ((mid : Option (List ℕ)) × PrintedOf report old mid status × IsBehind explains mid new)
PrintedBy task.Rise explains b tree old new status =
    (risen : Risen) × RisesTo b tree 3 risen × ((mid : Option (List ℕ)) × PrintedRisen risen old mid status × IsBehind explains mid new)
PrintedBy (task.Replay choices) explains b tree old new status =
    (made : Replay ℕ) × Replays b.max_branches tree choices.now made × ((mid : Option (List ℕ)) × PrintedReplay made old mid status × IsBehind explains mid new)

-- the runs of what is checked
abbrev pub tree_of : Checked → Builder → Tree ℕ
tree_of (Script steps) b = runs_of script.next_of (explores b) b.max_threads b.max_steps (started (map written steps.now))
tree_of (Updater one other) b = runs_of updates.next_of (explores b) b.max_threads b.max_steps (updates.begun one other)

-- what was written is of this task, done with what is checked, with these settings and this checkpoint file, if there is one
abbrev pub PrintedTask : Task → Bool → Checked → Settings → Option (List ℕ) → Option (List ℕ) → Option (List ℕ) → ℕ → Type 0
PrintedTask task explains checked settings file old new status =
    (b : Builder) × IsBuilder settings file b × PrintedBy task explains b (tree_of checked b) old new status

-- what was written is of this task, done by a builder in which the settings that the command line names are changed
abbrev pub PrintedChanged : Changes → Task → Bool → Checked → Settings → Option (List ℕ) → Option (List ℕ) → Option (List ℕ) → ℕ → Type 0
PrintedChanged changes task explains checked settings file old new status =
    (b : Builder) × IsBuilder settings file b × PrintedBy task explains (changed changes b) (tree_of checked (changed changes b)) old new status

-- ---- checks that remember states

-- What such a check by this builder, and by the host's clock, says of a body, and of the runs that ended: there are as many as it counts.
pub record CoversBody {S : Type 0} (b : Builder) (next : Meaning ℕ S) (body : S) (covered : Covered) : Type 0 where
  pub given : List (List Choice × ℕ)
  pub counted : length given ≡ runs_in covered
  -- the path with which it began, which has no nodes where there is no checkpoint file
  pub path : List Node
  pub unfiled : b.checkpoint_file ≡ None → path ≡ []
  pub fresh : path ≡ [] → Claims b next body given (λ time. ⊤) covered
  -- with the runs of the checks that had come to that path
  pub together : (before : List (List Choice × ℕ)) → HaveComeTo b next body path before → ClaimsTogether b next body (λ text. Unit {0}) before given covered

-- what was written is of such a check, and unless a failure is told nothing stands behind the line
abbrev pub PrintedCovering : {S : Type 0} → Bool → Builder → Meaning ℕ S → S → Option (List ℕ) → Option (List ℕ) → ℕ → Type 0
PrintedCovering tells b next body old new status =
    (covered : Covered) × CoversBody b next body covered × ((mid : Option (List ℕ)) × PrintedCovered covered old mid status × IsBehind tells mid new)

-- and of what is checked
abbrev pub PrintedCover : Bool → Checked → Builder → Option (List ℕ) → Option (List ℕ) → ℕ → Type 0
PrintedCover tells (Script steps) b = PrintedCovering tells b script.next_of (started (map written steps.now))
PrintedCover tells (Updater one other) b = PrintedCovering tells b updates.next_of (updates.begun one other)

-- what was written is of such a check by a builder of these settings and with this checkpoint file, if there is one, in which the settings
-- that the command line names are changed
abbrev pub PrintedCoverOf : Changes → Bool → Checked → Settings → Option (List ℕ) → Option (List ℕ) → Option (List ℕ) → ℕ → Type 0
PrintedCoverOf changes tells checked settings file old new status = (b : Builder) × IsBuilder settings file b × PrintedCover tells checked (changed changes b) old new status
