-- A schedule that has a thread added, among the nodes of a path.
use Rattle.std.proofs.Common.{◌≡◌, ◌≤◌, ◌<◌, ℕ, zero, suc, Bool, true, false, ◌&&◌, eqb, List, [], ◌∷◌, length, map, take, Option, Some, refl, ap, sym, ◌∙◌, subst, arith}
use Rattle.std.specs.Prelude.{slice_get, slice_set, IsSomeAnd}
use Rattle.std.specs.Option.{option_map}
use Rattle.loom_objects.specs.declared.choice.Choice.TheVariants.{Thread}
use native.Mathlib.Decide.{ℕ_discrete}
use mathlib.Core.Path.{fun_ext}
use Rattle.loom_objects.specs.declared.choice.Choice.{Choice}
use Rattle.loom_objects.specs.Tree.Question.{Made}
use Rattle.loom_engine.specs.Walk.Machine.{is_thread}
use Rattle.loom_engine.specs.Walk.UnderWay.{mark_with}
use Rattle.loom_engine.specs.Trees.Drive.{pass_of}
use Rattle.loom_engine.specs.Trees.Marks.{switching, adds_there, is_off_bound}
use Rattle.loom_engine.specs.Trees.Meeting.{count, front_of, start, tally}
use Rattle.loom_engine.specs.declared.rt.path.node.Node.{Node}
use Rattle.loom_engine.specs.declared.rt.path.node.Node.TheVariants as node
use Rattle.loom_engine.specs.declared.rt.path.node.Schedule.{Schedule}
use Rattle.loom_engine.specs.declared.rt.path.node.Tally.{Tally}
use Rattle.loom_engine.specs.Path.Nodes.{seen, seen_schedule, mark_added, IsWell, AreWell}
use Rattle.loom_engine.specs.Path.Route.{stored}
use Rattle.loom_engine.specs.Path.Marks.{IsScheduleAt, marks_at}
use Rattle.loom_engine.specs.Path.Tallies.{first_of, passes_to, last_exploring, last_switch, IsNotedAt, AreNoted, IsTally}
use Rattle.loom_engine.proofs.Path.Marking.Marked.{with_marks, unmarked_node, one_marked, elsewhere}
use Rattle.loom_engine.proofs.Nodes.Marking.Places.{down_front, front_passes}

-- ---- a node that is set

pub stored_set : (nodes : List Node) (k : ℕ) (n : Node) → stored (slice_set nodes k n) ≡ slice_set (stored nodes) k (seen n)
stored_set [] k n = refl
stored_set (x ∷ nodes) zero n = refl
stored_set (x ∷ nodes) (suc k) n = ap (λ l. seen x ∷ l) (stored_set nodes k n)

got_set : (nodes : List Node) (k : ℕ) (n old : Node) → slice_get nodes k ≡ Some old → slice_get (slice_set nodes k n) k ≡ Some n
got_set [] k n old h = absurd (cc h)
got_set (x ∷ nodes) zero n old h = refl
got_set (x ∷ nodes) (suc k) n old h = got_set nodes k n old h

got_else : (nodes : List Node) (k j : ℕ) (n : Node) → (k ≡ j → ⊥) → slice_get (slice_set nodes k n) j ≡ slice_get nodes j
got_else [] k j n h = refl
got_else (x ∷ nodes) zero zero n h = absurd (h refl)
got_else (x ∷ nodes) zero (suc j) n h = refl
got_else (x ∷ nodes) (suc k) zero n h = refl
got_else (x ∷ nodes) (suc k) (suc j) n h = got_else nodes k j n (λ e. h (ap suc e))

pub stored_get : (nodes : List Node) (k : ℕ) (n : Node) → slice_get nodes k ≡ Some n → slice_get (stored nodes) k ≡ Some (seen n)
stored_get [] k n h = absurd (cc h)
stored_get (x ∷ nodes) zero n h = let e : x ≡ n = cc h in ap (λ m. Some (seen m)) e
stored_get (x ∷ nodes) (suc k) n h = stored_get nodes k n h

pub passes_get : (p k : ℕ) (nodes : List Node) (n : Node) → k < p → slice_get nodes k ≡ Some n → slice_get (map pass_of (take p (stored nodes))) k ≡ Some (pass_of (seen n))
passes_get zero k nodes n l h = absurd (omega arith)
passes_get (suc p) k [] n l h = absurd (cc h)
passes_get (suc p) zero (x ∷ nodes) n l h = let e : x ≡ n = cc h in ap (λ m. Some (pass_of (seen m))) e
passes_get (suc p) (suc k) (x ∷ nodes) n l h = passes_get p k nodes n (omega arith) h

-- where what was made and chosen stays, so does what was passed
passes_set : (i k : ℕ) (nodes : List Node) (old n : Node) → slice_get nodes k ≡ Some old → pass_of (seen n) ≡ pass_of (seen old) → passes_to i (slice_set nodes k n) ≡ passes_to i nodes
passes_set zero k nodes old n h e = refl
passes_set (suc i) k [] old n h e = refl
passes_set (suc i) zero (x ∷ nodes) old n h e = let g : x ≡ old = cc h in ap (λ q. q ∷ passes_to i nodes) (e ∙ ap (λ m. pass_of (seen m)) (sym g))
passes_set (suc i) (suc k) (x ∷ nodes) old n h e = ap (λ l. pass_of (seen x) ∷ l) (passes_set i k nodes old n h e)

-- ---- a schedule that notes the same

module _ (nodes : List Node) (k : ℕ) (old new : Schedule) (here : slice_get nodes k ≡ Some (node.Schedule old)) (same : pass_of (seen_schedule new) ≡ pass_of (seen_schedule old)) where
  abbrev after : List Node
  after = slice_set nodes k (node.Schedule new)

  passes_after : (i : ℕ) → passes_to i after ≡ passes_to i nodes
  passes_after i = passes_set i k nodes (node.Schedule old) (node.Schedule new) here same

  noted_by : (i : ℕ) (n : Node) → IsNotedAt nodes i n → IsNotedAt after i n
  noted_by i (node.Schedule n) w = (w.0 ∙ sym (ap count (passes_after i)), w.1 ∙ sym (ap (last_switch i) (passes_after i)), w.2 ∙ sym (ap (last_exploring i) (passes_after i)))
  noted_by i (node.Load n) w = w
  noted_by i (node.Spurious n) w = w

  pub noted_set : (new.preemptions ≡ old.preemptions) × (new.switch ≡ old.switch) × (new.nearest ≡ old.nearest) → AreNoted nodes → AreNoted after
  noted_set kept w i n h = go (ℕ_discrete k i)
    where
      go : Dec (k ≡ i) → IsNotedAt after i n
      go (no f) = noted_by i n (w i n (sym (got_else nodes k i (node.Schedule new) f) ∙ h))
      go (yes e) =
          let is : node.Schedule new ≡ n = cc (got_set nodes k (node.Schedule new) (node.Schedule old) here, h, ap (slice_get after) e) in
          let it = w i (node.Schedule old) (ap (slice_get nodes) (sym e) ∙ here) in
          subst (IsNotedAt after i) is (noted_by i (node.Schedule new) (kept.0 ∙ it.0, kept.1 ∙ it.1, kept.2 ∙ it.2))

  pub tally_set : (p : ℕ) (t : Tally) → IsTally nodes p t → IsTally after p t
  tally_set p t w = subst (λ l. (t.preemptions ≡ count l) × (option_map Thread t.last ≡ (tally start l).last) × (t.switch ≡ last_switch p l) × (t.nearest ≡ last_exploring p l)) (sym (passes_after p)) w

-- ---- a thread that is added

eqb_same : (k : ℕ) → eqb k k ≡ true
eqb_same k = grind arith

module _ (nodes : List Node) (p k thread : ℕ) (bound : Option ℕ) (old : Schedule) (within : k < p) (here : slice_get nodes k ≡ Some (node.Schedule old))
    (counted : old.preemptions ≡ count (passes_to k nodes)) where
  abbrev passes : List (Made × Choice)
  passes = map pass_of (take p (stored nodes))

  abbrev marks : ℕ → Choice → Bool
  marks = marks_at bound passes k thread

  count_here : count (front_of k passes) ≡ old.preemptions
  count_here = ap count (sym (front_passes k p (stored nodes) (omega arith))) ∙ sym counted

  marks_here : (o : Choice) → marks k o ≡ (is_off_bound bound old.preemptions && adds_there (Some (pass_of (seen_schedule old))) thread o)
  marks_here o =
      ap (λ c. is_off_bound bound c && (eqb k k && adds_there (slice_get passes k) thread o)) count_here
      ∙ ap (λ b. is_off_bound bound old.preemptions && (b && adds_there (slice_get passes k) thread o)) (eqb_same k)
      ∙ ap (λ x. is_off_bound bound old.preemptions && adds_there x thread o) (passes_get p k nodes (node.Schedule old) within here)

  -- the nodes with the marked one are the marked nodes
  added_to : (new : Schedule) → seen_schedule new ≡ with_marks (marks k) (seen_schedule old) → stored (slice_set nodes k (node.Schedule new)) ≡ mark_with marks 0 (stored nodes)
  added_to new e =
      stored_set nodes k (node.Schedule new) ∙ ap (slice_set (stored nodes) k) e
      ∙ sym (one_marked marks k (stored nodes) (seen_schedule old) (stored_get nodes k (node.Schedule old) here) (λ i o f. elsewhere bound passes k thread i o f))

  pub added_off : (new : Schedule) → is_off_bound bound old.preemptions ≡ true → seen_schedule new ≡ mark_added thread (seen_schedule old)
      → stored (slice_set nodes k (node.Schedule new)) ≡ mark_with marks 0 (stored nodes)
  added_off new off e =
      added_to new (e ∙ ap (λ m. with_marks m (seen_schedule old)) (fun_ext (λ o. sym (marks_here o ∙ ap (λ b. b && adds_there (Some (pass_of (seen_schedule old))) thread o) off))))

  pub added_at_bound : (new : Schedule) → is_off_bound bound old.preemptions ≡ false → new ≡ old → stored (slice_set nodes k (node.Schedule new)) ≡ mark_with marks 0 (stored nodes)
  added_at_bound new off e =
      added_to new (ap seen_schedule e ∙ sym (unmarked_node (marks k) (seen_schedule old) (λ o. marks_here o ∙ ap (λ b. b && adds_there (Some (pass_of (seen_schedule old))) thread o) off)))

-- what the schedule notes is said of what was passed
pub switch_here : (nodes : List Node) (p k : ℕ) → k ≤ p → last_switch k (passes_to k nodes) ≡ last_switch k (map pass_of (take p (stored nodes)))
switch_here nodes p k h = ap (λ l. first_of (switching l)) (down_front 0 k p (stored nodes) [] h)

-- a schedule was passed there, so it is there
pub schedule_within : (p k : ℕ) (nodes : List Node) → IsScheduleAt (map pass_of (take p (stored nodes))) k → (k < p) × (k < length nodes)
schedule_within zero k nodes h = absurd h
schedule_within (suc p) k [] h = absurd h
schedule_within (suc p) zero (x ∷ nodes) h = (omega arith, omega arith)
schedule_within (suc p) (suc k) (x ∷ nodes) h = let z = schedule_within p k nodes h in (omega (arith, z.0), omega (arith, z.1))

pub is_schedule : (p k : ℕ) (nodes : List Node) (n : Node) → slice_get nodes k ≡ Some n → IsScheduleAt (map pass_of (take p (stored nodes))) k → is_thread (seen n).made.default ≡ true
is_schedule p k nodes n e h =
    subst (λ x. IsSomeAnd x (λ (pass : Made × Choice). is_thread pass.0.default ≡ true)) (passes_get p k nodes n (schedule_within p k nodes h).0 e) h

pub well_got : (nodes : List Node) (k : ℕ) (n : Node) → slice_get nodes k ≡ Some n → AreWell nodes → IsWell n
well_got [] k n h w = absurd (cc h)
well_got (x ∷ nodes) zero n h w = let e : x ≡ n = cc h in subst IsWell e w.0
well_got (x ∷ nodes) (suc k) n h w = well_got nodes k n h w.1

-- a schedule that has a thread added, or is as it was, is made and chosen as it was
pub same_pass : (bound : Option ℕ) (thread : ℕ) (old new : Schedule) → (is_off_bound bound old.preemptions ≡ true → seen_schedule new ≡ mark_added thread (seen_schedule old))
    → (is_off_bound bound old.preemptions ≡ false → new ≡ old) → pass_of (seen_schedule new) ≡ pass_of (seen_schedule old)
same_pass bound thread old new off on = go (is_off_bound bound old.preemptions) refl
  where
    go : (b : Bool) → is_off_bound bound old.preemptions ≡ b → pass_of (seen_schedule new) ≡ pass_of (seen_schedule old)
    go true e = ap pass_of (off e)
    go false e = ap (λ (s : Schedule). pass_of (seen_schedule s)) (on e)
