-- A path that drives through a tree keeps its nodes.
use Rattle.std.proofs.Common.{◌≡◌, ◌≤◌, ℕ, Bool, true, false, cond, length, Some, Result, Ok, Err, subst}
use Rattle.loom_views.specs.declared.rt.failure.FailureKind.{FailureKind}
use Rattle.loom_views.specs.declared.rt.failure.FailureKind.TheVariants.{NotDeterministic}
use Rattle.loom_objects.specs.declared.choice.Choice.{Choice}
use Rattle.loom_objects.specs.Tree.Question.{Question}
use Rattle.loom_objects.specs.Tree.Tree.{Tree, Gives, Fails, Closes, Asks}
use Rattle.loom_engine.specs.Walk.Path.{Stored, node_at}
use Rattle.loom_engine.specs.Trees.Meeting.{Marking, whole_search}
use Rattle.loom_engine.specs.Trees.Drive.{Answer, Trail, branch, drive, drive_on, is_used_up}
use Rattle.loom_engine.specs.Covering.Cut.{passed}
use Rattle.loom_engine.specs.Covering.Parts.{NodesLaw, StayThere}
use Rattle.loom_engine.proofs.Covering.Parts.{not_both, same_path}
use Rattle.loom_engine.proofs.Covering.Then.{GoesOn, answers_on}

module _ {A : Type 0} (room : ℕ) (adds : Marking) (x : A) (after : Trail) where
  used_so : (b : Bool) (path : Trail) (d : Result A FailureKind × Trail) → cond b d (Err NotDeterministic, path) ≡ (Ok x, after) → d ≡ (Ok x, after)
  used_so true path d e = e
  used_so false path d e = absurd (not_both NotDeterministic x path after e)

  chosen_so : (branches : Choice → Tree A) (path : Trail) (answer : Answer) → GoesOn path answer → drive_on (λ o mid. drive (whole_search room) adds (branches o) mid) answer ≡ (Ok x, after)
      → ((o : Choice) (mid : Trail) → mid.position ≤ length mid.nodes → drive (whole_search room) adds (branches o) mid ≡ (Ok x, after) → StayThere mid after) → StayThere path after
  chosen_so branches path (Err kind, mid) p e ih = absurd (not_both kind x mid after e)
  chosen_so branches path (Ok o, mid) p e ih = λ b n at. ih o mid p.within e b n (p.kept b n at)

  stays : (t : Tree A) (path : Trail) → path.position ≤ length path.nodes → drive (whole_search room) adds t path ≡ (Ok x, after) → StayThere path after
  stays (Gives a) path l e = λ b n at. subst (λ (p : Trail). node_at p.nodes b ≡ Some n) (same_path a x path after e) at
  stays (Fails kind) path l e = absurd (not_both kind x path after e)
  stays (Closes rest) path l e = stays rest path l (used_so (is_used_up path) path (drive (whole_search room) adds rest path) e)
  stays (Asks question branches) path l e = chosen_so branches path (branch (whole_search room) path question) (answers_on room path question l) e (λ o mid m d. stays (branches o) mid m d)

  first_node : (question : Question) (branches : Choice → Tree A) (path : Trail) → path.position ≤ length path.nodes → drive (whole_search room) adds (Asks question branches) path ≡ (Ok x, after)
      → (n : Stored) × (node_at after.nodes (passed path) ≡ Some n)
  first_node question branches path l e = by (branch (whole_search room) path question) (answers_on room path question l) e
    where
      by : (answer : Answer) → GoesOn path answer → drive_on (λ o mid. drive (whole_search room) adds (branches o) mid) answer ≡ (Ok x, after) → (n : Stored) × (node_at after.nodes (passed path) ≡ Some n)
      by (Err kind, mid) p d = absurd (not_both kind x mid after d)
      by (Ok o, mid) p d = (p.node, stays (branches o) mid p.within d (passed path) p.node p.at)

pub nodes_law : {A : Type 0} → NodesLaw A
nodes_law room adds = record { stay = λ t path after x l e. stays room adds x after t path l e; first = λ question branches path after x l e. first_node room adds x after question branches path l e }
