-- A path whose nodes leave no option out that was to be tried when they were made, but those that it had left out from the beginning.
use Rattle.std.proofs.Common.{◌≡◌, ◌≢◌, ◌⊎◌, ℕ, zero, suc, Bool, true, false, List, [], ◌∷◌, Option, Some, None, refl, ap, ap₂, sym, ◌∙◌, subst, inl, inr, length}
use Rattle.loom_objects.specs.declared.choice.Choice.{Choice}
use Rattle.loom_objects.specs.Tree.Question.{Made, Among, made_of}
use Rattle.loom_objects.specs.Tree.Tree.{Tree, Gives, Fails, Closes, Asks}
use Rattle.loom_engine.specs.Walk.Choices.{among, pick}
use Rattle.std.specs.Prelude.{cond, not, ◌&&◌}
use Rattle.loom_engine.specs.Walk.Machine.{Machine, is_thread, run}
use Rattle.loom_engine.specs.Walk.Sound.{IsMachine}
use Rattle.loom_engine.specs.Walk.Runs.{Alternative}
use Rattle.loom_engine.specs.Walk.Path.{Status, Closed, Skip, Pending, Active, Visited, Stored, choices, node_at, IsResting, first_status, choose, step, after_run}
use Rattle.loom_engine.specs.Walk.Driven.{ToBeTried, passes}
use Rattle.loom_engine.specs.Trees.Meeting.{Settings, Marking, every_at, every_met, machine_of}
use Rattle.loom_engine.specs.Trees.Outcomes.{met, passed}
use Rattle.loom_engine.specs.Trees.Resuming.{AreAtRest}
use Rattle.loom_engine.proofs.Walk.Lists.{chooses_node, node_on}
use Rattle.loom_engine.proofs.Walk.Statuses.{was_skip, FirstStatus, is_default, is_pending, is_skipped, is_closed, fresh_cases, Chosen, was_present, is_next, is_other, chosen_cases}
use Rattle.loom_engine.proofs.Walk.After.{node_in, IsNodeAfter, was_there, is_new, IsAfter}
use Rattle.loom_engine.proofs.Walk.Left.{NextPlace, above_next, at_next, next_place, no_mark_left}
use Rattle.loom_engine.proofs.Walk.Stepping.{Steps, step_some}
use Rattle.loom.proofs.RunnerLemmas.Paths.{after_is, left_rests}

-- ---- the nodes that choices pass are the path's

pick_in : {B : Type 0} (d : Dec B) (x : Option Made) (n : Made) → pick d x None ≡ Some n → x ≡ Some n
pick_in (yes a) x n h = h
pick_in (no f) x n h = absurd (cc h)

module _ {A : Type 0} where
  met_passes : (tree : Tree A) (room : ℕ) (p : List Stored) → ((before : List Choice) (n : Stored) → node_at p before ≡ Some n → met room tree before ≡ Some n.made)
      → (before : List Choice) (n : Stored) → node_at p before ≡ Some n → passed tree before ≡ passes p before
  unfolding node_at
  met_passes (Gives value) room p h before n at = absurd (cc (h before n at))
  met_passes (Fails failure) room p h before n at = absurd (cc (h before n at))
  met_passes (Closes rest) room p h before n at = absurd (cc (h before n at))
  met_passes (Asks question branches) zero p h before n at = absurd (cc (h before n at))
  met_passes (Asks question branches) (suc room) [] h before n at = absurd (cc at)
  met_passes (Asks question branches) (suc room) (x ∷ p) h [] n at = refl
  met_passes (Asks question branches) (suc room) (x ∷ p) h (c ∷ before) n at =
      let g = node_in x p c before n at in
      let first : made_of question ≡ x.made = cc (h [] x refl) in
      let rest = met_passes (branches c) room p (λ b k e. pick_in (among c (made_of question).options) _ _ (h (c ∷ b) k (node_on x p c b g.0 ∙ e))) before n g.1 in
      ap₂ (λ (u : Made × Choice) (l : List (Made × Choice)). u ∷ l) (ap₂ (λ (a : Made) (b : Choice). (a, b)) first g.0) rest

-- At a node where each option is to be tried these alone are skipped.
abbrev pub SkipsOnly : (List Choice → Choice → Type 0) → Settings → List Stored → Type 0
SkipsOnly left_out s p = (before : List Choice) (n : Stored) → node_at p before ≡ Some n → every_at s (passes p before) n.made ≡ true → (o : Choice) → n.status o ≡ Skip → left_out before o

-- this option is skipped at the path's node, in a search that isn't reduced
abbrev pub IsSkipped : Settings → List Stored → List Choice → Choice → Type 0
IsSkipped s p before o = (n : Stored) × (node_at p before ≡ Some n) × (s.reduce ≡ false) × (n.status o ≡ Skip)

where_true : (test x : Bool) → test ≡ true → cond test x true ≡ true → x ≡ true
where_true true x e h = h
where_true false x e h = absurd (cc e)

not_reduced : (reduce a b : Bool) → (not reduce && a && b) ≡ true → reduce ≡ false
not_reduced true a b h = absurd (cc h)
not_reduced false a b h = refl

-- A path at rest skips only what it skips in a search that isn't reduced.
pub skips_own : (s : Settings) (p : List Stored) → AreAtRest p → SkipsOnly (IsSkipped s p) s p
skips_own s p rests before n at every o skip = go (is_thread n.made.default) refl
  where
    go : (b : Bool) → is_thread n.made.default ≡ b → IsSkipped s p before o
    go true e = (n, at, not_reduced s.reduce n.made.exploring _ (where_true (is_thread n.made.default) _ e every), skip)
    go false e = absurd ((rests before n at).values e o skip)

fresh_tries : (every : Bool) (n : Made) (o : Choice) → every ≡ true → first_status every n o ≡ Skip → ⊥
fresh_tries every n o e h = go (fresh_cases every n o)
  where
    go : FirstStatus every n o (first_status every n o) → ⊥
    go (is_default f g) = cc (h, g)
    go (is_pending ne a f g) = cc (h, g)
    go (is_skipped ne a f g) = cc (e, f)
    go (is_closed ne na g) = cc (h, g)

module _ {A : Type 0} (s : Settings) (adds : Marking) (tree : Tree A) (left_out : List Choice → Choice → Type 0) where
  abbrev m : Machine
  m = machine_of s adds tree

  passes_of : (p : List Stored) → IsResting m p → (before : List Choice) (n : Stored) → node_at p before ≡ Some n → passed tree before ≡ passes p before
  passes_of p rests before n at = met_passes tree s.max_branches p rests.meets before n at

  -- what is to be tried at a node of the path
  every_is : (p : List Stored) → IsResting m p → (before : List Choice) (n : Stored) → node_at p before ≡ Some n → m.every before ≡ every_at s (passes p before) n.made
  every_is p rests before n at = ap (every_met s (passed tree before)) (rests.meets before n at) ∙ ap (λ l. every_at s l n.made) (passes_of p rests before n at)

  -- a run skips no others, if its path didn't
  pub left_skips : (w : IsMachine m) (p : List Stored) → IsResting m p → SkipsOnly left_out s p → SkipsOnly left_out s (after_run m p)
  left_skips w p rests only before k at every o skip = go (after.each before k at)
    where
      after : IsAfter m p (after_run m p) (run m (choices p))
      after = after_is m w p rests

      q_rests : IsResting m (after_run m p)
      q_rests = left_rests m w p rests

      by_every : m.every before ≡ true
      by_every = every_is (after_run m p) q_rests before k at ∙ every

      go : IsNodeAfter m p (run m (choices p)) before k → left_out before o
      go (was_there n g f) =
          let old : n.status o ≡ Skip = (was_skip _ (n.status o) (sym (ap (λ (y : Stored). y.status o) f) ∙ skip)).0 in
          only before n g (sym (every_is p rests before n g) ∙ by_every) o old
      go (is_new made g met f d) =
          let new : first_status (m.every before) made o ≡ Skip = (was_skip _ (first_status (m.every before) made o) (sym (ap (λ (y : Stored). y.status o) f) ∙ skip)).0 in
          absurd (fresh_tries (m.every before) made o by_every new)

  step_skips : (q later : List Stored) → IsResting m q → IsResting m later → SkipsOnly left_out s q → Steps q later → SkipsOnly left_out s later
  unfolding Steps
  step_skips q later rests later_rests only (branch, n, c, st) before y at every o skip = go (next_place q later branch n c st before y at)
    where
      by_every : m.every before ≡ true
      by_every = every_is later later_rests before y at ∙ every

      here : before ≡ branch → y ≡ choose n c → Chosen n c o ((choose n c).status o) → left_out before o
      here i j (was_present e f) = absurd (cc (f, skip, ap (λ (z : Stored). z.status o) j))
      here i j (is_next ne e f) = absurd (cc (f, skip, ap (λ (z : Stored). z.status o) j))
      here i j (is_other ne nor f) =
          subst (λ (b : List Choice). left_out b o) (sym i)
          (only branch n st.at (sym (every_is q rests branch n st.at) ∙ ap m.every (sym i) ∙ by_every) o (sym f ∙ sym (ap (λ (z : Stored). z.status o) j) ∙ skip))

      go : NextPlace q branch n c before y → left_out before o
      go (above_next g) = only before y g (sym (every_is q rests before y g) ∙ by_every) o skip
      go (at_next i j) = here i j (chosen_cases n c o)

  -- and neither does the path to which the search goes on
  pub next_skips : (q later : List Stored) → IsResting m q → IsResting m later → SkipsOnly left_out s q → step q ≡ Some later → SkipsOnly left_out s later
  next_skips q later rests later_rests only h = step_skips q later rests later_rests only (step_some q later h)

  -- this option is to be tried at the path's node, where the run explores
  pub record IsToBeTried (q : List Stored) (before : List Choice) (o : Choice) : Type 0 where
    pub node : Stored
    pub at : node_at q before ≡ Some node
    pub exploring : node.made.exploring ≡ true
    pub tried : ToBeTried (node.status o)

  -- an alternative of the run that is over is to be tried, or was left out
  pub alternative_tried : (w : IsMachine m) (p : List Stored) → IsResting m p → SkipsOnly left_out s p → (before : List Choice) (o : Choice) → Alternative m (choices (after_run m p)) before o
      → IsToBeTried (after_run m p) before o ⊎ left_out before o
  alternative_tried w p rests only before o alt = tried (found.0.status o) refl
    where
      q : List Stored
      q = after_run m p

      after : IsAfter m p q (run m (choices p))
      after = after_is m w p rests

      q_rests : IsResting m q
      q_rests = left_rests m w p rests

      found : (n : Stored) × (node_at q before ≡ Some n) × (n.present ≡ alt.chosen)
      found = chooses_node q before alt.chosen alt.after alt.splits

      same_made : alt.made ≡ found.0.made
      same_made = cc (alt.met, q_rests.meets before found.0 found.1)

      skipped : found.0.status o ≡ Skip → ((m.every before ≡ true) ⊎ ((m.reduce ≡ true) × (m.marks (choices q) (length before) o ≡ true) × (o ≢ alt.made.default))) → left_out before o
      skipped e (inl g) = left_skips w p rests only before found.0 found.1 (sym (every_is q q_rests before found.0 found.1) ∙ g) o e
      skipped e (inr g) = absurd (no_mark_left m p q (run m (choices p)) after before found.0 o found.1 e g.0 (subst (λ r. m.marks r (length before) o ≡ true) after.whole g.1))

      found_so : ToBeTried (found.0.status o) → IsToBeTried q before o
      found_so t = record { node = found.0; at = found.1; exploring = ap (λ (y : Made). y.exploring) (sym same_made) ∙ alt.exploring; tried = t }

      tried : (t : Status) → found.0.status o ≡ t → IsToBeTried q before o ⊎ left_out before o
      tried Closed e = absurd ((q_rests.rest before found.0 found.1).opened o (subst (λ (u : Made). Among o u.options) same_made alt.option) e)
      tried Skip e = inr (skipped e alt.called)
      tried Pending e = inl (found_so (inl e))
      tried Active e = inl (found_so (inr (inl e)))
      tried Visited e = inl (found_so (inr (inr e)))
