-- The path that a run leaves, and the one to which the search goes on from it.
use Rattle.std.proofs.Common.{◌≡◌, ◌≢◌, ◌⊎◌, Bool, ◌&&◌, List, [], ◌∷◌, ◌++◌, length, Some, refl, ap, sym, ◌∙◌, inl, inr, append_assoc}
use Rattle.loom_objects.specs.declared.choice.Choice.{Choice}
use Rattle.loom_objects.specs.Tree.Question.{Made}
use Rattle.loom_engine.specs.Walk.Machine.{Machine, run}
use Rattle.loom_engine.specs.Walk.Sound.{IsMachine}
use Rattle.loom_engine.specs.Walk.Path.{Status, Closed, Skip, Pending, Active, Visited, Stored, choices, node_at, IsAtRest, IsResting, first_status, mark_status, mark, choose, step, after_run}
use Rattle.loom_engine.specs.Walk.Lists.{Begins}
use Rattle.loom_engine.specs.Walk.Driven.{IsLeftBy}
use Rattle.loom_engine.proofs.Walk.Lists.{node_chooses, cancel_front, snoc_append}
use Rattle.loom_engine.proofs.Walk.Statuses.{was_visited, FirstStatus, is_default, is_pending, is_skipped, is_closed, fresh_cases, Chosen, was_present, is_next, is_other, chosen_cases}
use Rattle.loom_engine.proofs.Walk.After.{IsNodeAfter, was_there, is_new, IsAfter, after_run_is}
use Rattle.loom_engine.proofs.Walk.Resting.{after_resting}
use Rattle.loom_engine.proofs.Walk.Stepping.{Steps, step_some}
use Rattle.loom_engine.proofs.Walk.Left.{OldPlace, above_old, at_old, below_old, old_place}

-- ---- what a run of a machine leaves

kept_status : (b : Bool) (s : Status) → s ≢ Skip → mark_status b s ≡ s
kept_status b Closed h = refl
kept_status b Skip h = absurd (h refl)
kept_status b Pending h = refl
kept_status b Active h = refl
kept_status b Visited h = refl

none_visited : (every : Bool) (n : Made) (o : Choice) → first_status every n o ≡ Visited → ⊥
none_visited every n o h = go (fresh_cases every n o)
  where
    go : FirstStatus every n o (first_status every n o) → ⊥
    go (is_default e f) = cc (h, f)
    go (is_pending ne a e f) = cc (h, f)
    go (is_skipped ne a e f) = cc (h, f)
    go (is_closed ne na f) = cc (h, f)

module _ (m : Machine) (w : IsMachine m) (p : List Stored) (rests : IsResting m p) where
  abbrev pub left : List Stored
  left = after_run m p

  pub after_is : IsAfter m p left (run m (choices p))
  after_is = after_run_is m w p

  pub left_rests : IsResting m left
  left_rests = after_resting m w p left (run m (choices p)) rests after_is

  pub is_left_by : IsLeftBy p left
  is_left_by = record {
    kept = λ before n h. (mark m (run m (choices p)) (length before) n, after_is.kept before n h, refl, refl, λ o f. kept_status (m.reduce && m.marks (run m (choices p)) (length before) o) (n.status o) f);
    visited = λ before k o h e. visited before k o h e (after_is.each before k h);
    rest = left_rests.rest;
  }
    where
      visited : (before : List Choice) (k : Stored) (o : Choice) → node_at left before ≡ Some k → k.status o ≡ Visited → IsNodeAfter m p (run m (choices p)) before k
          → (n : Stored) × (node_at p before ≡ Some n) × (n.status o ≡ Visited)
      visited before k o h e (was_there n g f) =
          (n, g, was_visited (m.reduce && m.marks (run m (choices p)) (length before) o) (n.status o) (ap (λ (y : Stored). y.status o) (sym f) ∙ e))
      visited before k o h e (is_new made g met f d) =
          let z = was_visited (m.reduce && m.marks (run m (choices p)) (length before) o) (first_status (m.every before) made o) (ap (λ (y : Stored). y.status o) (sym f) ∙ e) in
          absurd (none_visited (m.every before) made o z)

-- ---- no run comes twice

-- A run with these choices was made: it went by an option of the path's that is visited now.
pub record WasMade (p : List Stored) (x : List Choice) : Type 0 where
  pub before : List Choice
  pub option : Choice
  pub node : Stored
  pub at : node_at p before ≡ Some node
  pub visited : node.status option ≡ Visited
  pub begins : Begins (before ++ option ∷ []) x

pub still_made : (p q : List Stored) (x : List Choice) → IsLeftBy p q → WasMade p x → WasMade q x
still_made p q x l z =
    let k = l.kept z.before z.node z.at in
    record { before = z.before; option = z.option; node = k.0; at = k.1; visited = k.4 z.option (λ e. cc (e, z.visited)) ∙ z.visited; begins = z.begins }

taken_visited : (n : Stored) (c : Choice) → (choose n c).status n.present ≡ Visited
taken_visited n c = go (chosen_cases n c n.present)
  where
    go : Chosen n c n.present ((choose n c).status n.present) → (choose n c).status n.present ≡ Visited
    go (was_present e f) = f
    go (is_next ne e f) = absurd (ne refl)
    go (is_other ne nor f) = absurd (ne refl)

-- x goes on from before by the option, and before is on the way by another node's choice
goes_by : (before branch e : List Choice) (c o : Choice) (x : List Choice) → before ≡ branch ++ c ∷ e → Begins (before ++ o ∷ []) x → Begins (branch ++ c ∷ []) x
goes_by before branch e c o x i (r, h) = (
  e ++ o ∷ r,
  h ∙ snoc_append before o r ∙ ap (λ l. l ++ o ∷ r) i ∙ append_assoc branch (c ∷ e) (o ∷ r) ∙ sym (snoc_append branch c (e ++ o ∷ r)),
)

-- what was made by a path was made by the next one
on_step : (q later : List Stored) (x : List Choice) → Steps q later → WasMade q x → WasMade later x
unfolding Steps
on_step q later x (branch, n, c, s) z = go (old_place q later branch n c s z.before z.node z.at)
  where
    here : z.before ≡ branch → z.node ≡ n → Chosen n c z.option ((choose n c).status z.option) → WasMade later x
    here i j (was_present f g) = record { before = z.before; option = z.option; node = choose n c; at = ap (node_at later) i ∙ s.here; visited = g; begins = z.begins }
    here i j (is_next ne f g) = absurd (cc (s.pending, z.visited, ap n.status f, ap (λ (y : Stored). y.status z.option) j))
    here i j (is_other ne nor g) = record {
      before = z.before;
      option = z.option;
      node = choose n c;
      at = ap (node_at later) i ∙ s.here;
      visited = g ∙ sym (ap (λ (y : Stored). y.status z.option) j) ∙ z.visited;
      begins = z.begins;
    }

    go : OldPlace later branch n z.before z.node → WasMade later x
    go (above_old g) = record { before = z.before; option = z.option; node = z.node; at = g; visited = z.visited; begins = z.begins }
    go (at_old i j) = here i j (chosen_cases n c z.option)
    go (below_old e i g) = record {
      before = branch;
      option = n.present;
      node = choose n c;
      at = s.here;
      visited = taken_visited n c;
      begins = goes_by z.before branch e n.present z.option x i z.begins;
    }

pub made_on : (q later : List Stored) (x : List Choice) → step q ≡ Some later → WasMade q x → WasMade later x
made_on q later x h z = on_step q later x (step_some q later h) z

-- and so was the run that left it
by_step : (q later : List Stored) → Steps q later → WasMade later (choices q)
unfolding Steps
by_step q later (branch, n, c, s) =
    let b = node_chooses q branch n s.at in
    record { before = branch; option = n.present; node = choose n c; at = s.here; visited = taken_visited n c; begins = (b.0, b.1 ∙ sym (snoc_append branch n.present b.0)) }

pub now_made : (q later : List Stored) → step q ≡ Some later → WasMade later (choices q)
now_made q later h = by_step q later (step_some q later h)

-- the choices go on from the path's, or stop on its way
abbrev pub IsOnPath : List Stored → List Choice → Type 0
IsOnPath p x = Begins (choices p) x ⊎ Begins x (choices p)

-- such a run wasn't made before
pub not_made : (p : List Stored) (x : List Choice) → ((before : List Choice) (n : Stored) → node_at p before ≡ Some n → IsAtRest n) → WasMade p x → IsOnPath p x → ⊥
not_made p x rests z on = by on
  where
    a : (after : List Choice) × (choices p ≡ z.before ++ z.node.present ∷ after)
    a = node_chooses p z.before z.node z.at

    x_is : x ≡ z.before ++ z.option ∷ z.begins.0
    x_is = z.begins.1 ∙ snoc_append z.before z.option z.begins.0

    not_same : (r s : List Choice) → z.before ++ z.option ∷ r ≡ z.before ++ z.node.present ∷ s → ⊥
    not_same r s e =
        let same_tail : ◌≡◌ {A = List Choice} (z.option ∷ r) (z.node.present ∷ s) = cancel_front z.before (z.option ∷ r) (z.node.present ∷ s) e in
        let same_option : z.option ≡ z.node.present = cc same_tail in
        cc (z.visited, (rests z.before z.node z.at).active, ap z.node.status same_option)

    by : IsOnPath p x → ⊥
    by (inl (r, e)) =
        not_same z.begins.0 (a.0 ++ r) (sym x_is ∙ e ∙ ap (λ l. l ++ r) a.1 ∙ append_assoc z.before (z.node.present ∷ a.0) r)
    by (inr (r, e)) =
        not_same (z.begins.0 ++ r) a.0 (sym (append_assoc z.before (z.option ∷ z.begins.0) r) ∙ ap (λ l. l ++ r) (sym x_is) ∙ sym e ∙ a.1)
