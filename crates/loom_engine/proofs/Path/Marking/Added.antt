-- A thread is added at a schedule of a path.
use Rattle.std.proofs.Common.{◌≡◌, ◌<◌, ℕ, Bool, true, false, length, get_or, Some, refl, ap, sym, ◌∙◌, subst, arith}
use Rattle.std.specs.Prelude.{slice_get, slice_set}
use Rattle.loom_engine.specs.Trees.Drive.{passes_of}
use Rattle.loom_engine.specs.Trees.Marks.{is_off_bound}
use Rattle.loom_engine.specs.Walk.UnderWay.{mark_with}
use Rattle.loom_engine.specs.declared.rt.path.node.Node.{Node}
use Rattle.loom_engine.specs.declared.rt.path.node.Node.TheVariants as node
use Rattle.loom_engine.specs.declared.rt.path.node.Schedule.{Schedule}
use Rattle.loom_engine.specs.Path.Nodes.{seen_schedule, mark_added, AreWell, IsWellSchedule}
use Rattle.loom_engine.specs.Path.Route.{Route, stored, trail}
use Rattle.loom_engine.specs.Path.Marks.{IsScheduleAt, Adds, marks_at}
use Rattle.loom_engine.specs.Path.Tallies.{last_switch, AreNoted}
use Rattle.loom_engine.proofs.Nodes.Marking.Nearest.{got_node, is_no_thread}
use Rattle.loom_engine.proofs.Path.Marking.Noted.{schedule_within, is_schedule, well_got, added_off, added_at_bound, switch_here}

-- a schedule that was passed is one of the nodes
pub passed_within : (p old : Route) → p ≡ old → (place : ℕ) → IsScheduleAt (passes_of (trail old)) place → place < length p.nodes
passed_within p old view place asked = (schedule_within p.position place p.nodes (subst (λ r. IsScheduleAt (passes_of (trail r)) place) (sym view) asked)).1

-- the path that is held, as its value, has a schedule at the place
module _ (p old : Route) (view : p ≡ old) (place : ℕ) (asked : IsScheduleAt (passes_of (trail old)) place) (got : Node) (value : got ≡ get_or p.nodes place got) where
  asked_here : IsScheduleAt (passes_of (trail p)) place
  asked_here = subst (λ r. IsScheduleAt (passes_of (trail r)) place) (sym view) asked

  within : (place < p.position) × (place < length p.nodes)
  within = schedule_within p.position place p.nodes asked_here

  there : (n : Node) → got ≡ n → slice_get p.nodes place ≡ Some n
  there n e = got_node p.nodes place n got within.1 (sym value ∙ e)

  pub nothing_else : ((s : Schedule) → got ≡ node.Schedule s → ⊥) → ⊥
  nothing_else f =
      let yes = is_schedule p.position place p.nodes got (there got refl) asked_here in
      let no = is_no_thread got f in
      cc (yes, no)

  module _ (s : Schedule) (is : got ≡ node.Schedule s) where
    pub here : slice_get p.nodes place ≡ Some (node.Schedule s)
    here = there (node.Schedule s) is

    pub rests : AreWell p.nodes → IsWellSchedule s
    rests w = (well_got p.nodes place (node.Schedule s) here w).0

    pub adds : (thread : ℕ) (new : Schedule) → AreNoted p.nodes
        → (is_off_bound p.search.bound s.preemptions ≡ true → seen_schedule new ≡ mark_added thread (seen_schedule s)) → (is_off_bound p.search.bound s.preemptions ≡ false → new ≡ s)
        → Adds old place thread (record old { nodes = slice_set p.nodes place (node.Schedule new) })
    adds thread new noted off on = subst (λ r. Adds r place thread (record r { nodes = slice_set p.nodes place (node.Schedule new) })) view (go (is_off_bound p.search.bound s.preemptions) refl, refl)
      where
        go : (b : Bool) → is_off_bound p.search.bound s.preemptions ≡ b
            → stored (slice_set p.nodes place (node.Schedule new)) ≡ mark_with (marks_at p.search.bound (passes_of (trail p)) place thread) 0 (stored p.nodes)
        go true f = added_off p.nodes p.position place thread p.search.bound s within.0 here (noted place (node.Schedule s) here).0 new f (off f)
        go false f = added_at_bound p.nodes p.position place thread p.search.bound s within.0 here (noted place (node.Schedule s) here).0 new f (on f)

    pub switch : AreNoted p.nodes → s.switch ≡ last_switch place (passes_of (trail old))
    switch noted =
        (noted place (node.Schedule s) here).1 ∙ switch_here p.nodes p.position place (let z = within.0 in omega arith) ∙ ap (λ r. last_switch place (passes_of (trail r))) view
