-- A part whose run is over, with the run's marks and its new nodes.
use Rattle.std.proofs.Common.{◌≡◌, ◌≢◌, ◌⊎◌, Bool, true, false, ◌&&◌, List, [], ◌∷◌, ◌++◌, length, Some, None, refl, ap, sym, ◌∙◌, subst, inl, inr, append_assoc}
use Rattle.loom_objects.specs.declared.choice.Choice.{Choice}
use Rattle.loom_objects.specs.Tree.Question.{Made, Among}
use Rattle.loom_engine.specs.Walk.Machine.{Machine, run}
use Rattle.loom_engine.specs.Walk.Sound.{IsMachine}
use Rattle.loom_engine.specs.Walk.Runs.{Alternative}
use Rattle.loom_engine.specs.Walk.Path.{Status, Closed, Skip, Pending, Active, Visited, Stored, choices, node_at, IsResting, first_status}
use Rattle.loom_engine.specs.Walk.Walks.{run_of}
use Rattle.loom_engine.specs.Walk.Lists.{Member}
use Rattle.loom_engine.proofs.Walk.Lists.{node_chooses, chooses_node}
use Rattle.loom_engine.proofs.Walk.Defaults.{run_is, one_default}
use Rattle.loom_engine.proofs.Walk.Statuses.{kept_active, kept_visited, was_active, was_visited, was_skip, was_pending, FirstStatus, is_default, is_pending, is_skipped, is_closed, fresh_cases}
use Rattle.loom_engine.proofs.Walk.After.{IsNodeAfter, was_there, is_new, IsAfter}
use Rattle.loom_engine.proofs.Walk.Left.{run_begins, no_mark_left}
use Rattle.loom_engine.proofs.Walk.Together.{TwoBeginnings, within, past, two_beginnings}
use Rattle.loom_engine.specs.Parts.Cuts.{IsBelow, IsPart, IsTried, AreNotes}
use Rattle.loom_engine.proofs.Parts.Lists.{same_next}
use Rattle.loom_engine.proofs.Parts.Holds.{Keeps}

abbrev pub IsTriedStatus : Status → Type 0
IsTriedStatus s = (s ≡ Active) ⊎ (s ≡ Visited)

module _ (m : Machine) (w : IsMachine m) (made issued : List (List Choice)) (Had : List Choice → Type 0) (b : List Choice) (p : List Stored) (here : Keeps m made issued Had b p)
    (q : List Stored) (r : List Choice) (a : IsAfter m p q r) (rest : IsResting m q) where
  pub its_run : run_of m p ≡ r
  its_run = run_is m w (choices p) r a.run

  pub run_on : (e : List Choice) × (r ≡ choices p ++ e)
  run_on = let z = run_begins m w (choices p) in (z.0, sym its_run ∙ z.1)

  pub run_in : (e : List Choice) × (r ≡ b ++ e)
  run_in = let y = here.part.begins in (y.0 ++ run_on.0, run_on.1 ∙ ap (λ t. t ++ run_on.0) y.1 ∙ append_assoc b y.0 run_on.0)

  -- the nodes along the base are in the path
  along : (before : List Choice) → IsBelow before b → (n : Stored) × (node_at p before ≡ Some n)
  along before (c, e, i) =
      let y = here.part.begins in
      let z = chooses_node p before c (e ++ y.0) (y.1 ∙ ap (λ t. t ++ y.0) i ∙ append_assoc before (c ∷ e) y.0) in
      (z.0, z.1)

  pub sealed_after : (before : List Choice) (x : Stored) (o : Choice) → node_at q before ≡ Some x → IsBelow before b → x.made.exploring ≡ true → (x.status o ≢ Pending) × (x.status o ≢ Skip)
  sealed_after before x o h low ex = go (a.each before x h)
    where
      go : IsNodeAfter m p r before x → (x.status o ≢ Pending) × (x.status o ≢ Skip)
      go (was_there n g f) =
          let s = here.part.sealed before n o g low (sym (ap (λ (y : Stored). y.made.exploring) f) ∙ ex) in (
            (λ e. elim (was_pending (m.reduce && m.marks r (length before) o) (n.status o) (sym (ap (λ (y : Stored). y.status o) f) ∙ e)) [ inl i ↦ s.0 i | inr i ↦ s.1 i.0 ]),
            λ e. s.1 (was_skip (m.reduce && m.marks r (length before) o) (n.status o) (sym (ap (λ (y : Stored). y.status o) f) ∙ e)).0,
          )
      go (is_new made_ g met f dr) = let z = along before low in absurd (cc (g, z.1))

  pub part_after : IsPart m b q
  part_after = record { resting = rest; begins = (run_in.0, a.whole ∙ run_in.1); sealed = sealed_after }

  -- a new node is past the path
  past_path : (before : List Choice) (x : Stored) → node_at q before ≡ Some x → node_at p before ≡ None → (f : List Choice) × (before ≡ choices p ++ f)
  past_path before x h g = go (two_beginnings (choices p) run_on.0 before x.present z.0 (sym run_on.1 ∙ sym a.whole ∙ z.1))
    where
      z : (after : List Choice) × (choices q ≡ before ++ x.present ∷ after)
      z = node_chooses q before x h

      go : TwoBeginnings (choices p) before x.present → (f : List Choice) × (before ≡ choices p ++ f)
      go (within f i) = (f, i)
      go (past f i) = let y = chooses_node p before x.present f i in absurd (cc (g, y.1))

  pub tried_after : (before : List Choice) (x : Stored) → node_at q before ≡ Some x → (f : List Choice) → before ≡ b ++ f
      → (y : List Choice) → Member y (r ∷ made) → (c : Choice) (e : List Choice) → y ≡ before ++ c ∷ e → IsTried x c
  tried_after before x h f i y (inl j) c e k =
      let z = node_chooses q before x h in
      let same_choice : c ≡ x.present = same_next before c x.present e z.0 (sym k ∙ j ∙ sym a.whole ∙ z.1) in
      inl (ap x.status same_choice ∙ (rest.rest before x h).active)
  tried_after before x h f i y (inr j) c e k = go (a.each before x h)
    where
      go : IsNodeAfter m p r before x → IsTried x c
      go (was_there n g l) =
          elim (here.tried before n g f i y j c e k) [
            | inl s ↦ inl (ap (λ (z : Stored). z.status c) l ∙ kept_active (m.reduce && m.marks r (length before) c) (n.status c) s)
            | inr s ↦ inr (ap (λ (z : Stored). z.status c) l ∙ kept_visited (m.reduce && m.marks r (length before) c) (n.status c) s)
          ]
      go (is_new made_ g met l dr) =
          let z = past_path before x h g in
          absurd (here.new y j (z.0 ++ c ∷ e) (k ∙ ap (λ t. t ++ c ∷ e) z.1 ∙ append_assoc (choices p) z.0 (c ∷ e)))

  pub skipped_after : (before : List Choice) (x : Stored) (o : Choice) → node_at q before ≡ Some x → x.status o ≡ Skip → m.every before ≡ true → ⊥
  skipped_after before x o h s ev = go (a.each before x h)
    where
      go : IsNodeAfter m p r before x → ⊥
      go (was_there n g f) = here.skipped before n o g (was_skip (m.reduce && m.marks r (length before) o) (n.status o) (sym (ap (λ (y : Stored). y.status o) f) ∙ s)).0 ev
      go (is_new made_ g met f dr) =
          fresh (was_skip (m.reduce && m.marks r (length before) o) (first_status (m.every before) made_ o) (sym (ap (λ (y : Stored). y.status o) f) ∙ s)).0
          (fresh_cases (m.every before) made_ o)
        where
          fresh : first_status (m.every before) made_ o ≡ Skip → FirstStatus (m.every before) made_ o (first_status (m.every before) made_ o) → ⊥
          fresh t (is_default e g) = cc (t, g)
          fresh t (is_pending nd am i g) = cc (t, g)
          fresh t (is_skipped nd am i g) = cc (i, ev)
          fresh t (is_closed nd na g) = cc (t, g)

  -- What is tried was had, or is the run that is over.
  pub had_after : (D : List Choice → Type 0) → D r → ((x : List Choice) → Had x → D x) → (before : List Choice) (x : Stored) → node_at q before ≡ Some x → (f : List Choice) → before ≡ b ++ f
      → (o : Choice) → IsTried x o → D (run m (before ++ o ∷ []))
  had_after D own old before x h f i o t = go (a.each before x h)
    where
      go : IsNodeAfter m p r before x → D (run m (before ++ o ∷ []))
      go (was_there n g l) =
          old (run m (before ++ o ∷ [])) (here.had before n g f i o (elim t [
            | inl s ↦ inl (was_active (m.reduce && m.marks r (length before) o) (n.status o) (sym (ap (λ (z : Stored). z.status o) l) ∙ s))
            | inr s ↦ inr (was_visited (m.reduce && m.marks r (length before) o) (n.status o) (sym (ap (λ (z : Stored). z.status o) l) ∙ s))
          ]))
      go (is_new made_ g met l dr) = fresh (fresh_cases (m.every before) made_ o) status
        where
          status : IsTriedStatus (first_status (m.every before) made_ o)
          status = elim t [
            | inl s ↦ inl (was_active (m.reduce && m.marks r (length before) o) (first_status (m.every before) made_ o) (sym (ap (λ (z : Stored). z.status o) l) ∙ s))
            | inr s ↦ inr (was_visited (m.reduce && m.marks r (length before) o) (first_status (m.every before) made_ o) (sym (ap (λ (z : Stored). z.status o) l) ∙ s))
          ]

          other : (s : Status) → (s ≡ Active → ⊥) → (s ≡ Visited → ⊥) → IsTriedStatus s → D (run m (before ++ o ∷ []))
          other s j k u = elim u [ inl e ↦ absurd (j e) | inr e ↦ absurd (k e) ]

          fresh : FirstStatus (m.every before) made_ o (first_status (m.every before) made_ o) → IsTriedStatus (first_status (m.every before) made_ o) → D (run m (before ++ o ∷ []))
          fresh (is_default e s) u =
              subst D (sym (ap (λ c. run m (before ++ c ∷ [])) e ∙ run_is m w (before ++ made_.default ∷ []) r (one_default m before r made_ dr met))) own
          fresh (is_pending nd am ev s) u = other (first_status (m.every before) made_ o) (λ e. cc (e, s)) (λ e. cc (e, s)) u
          fresh (is_skipped nd am ev s) u = other (first_status (m.every before) made_ o) (λ e. cc (e, s)) (λ e. cc (e, s)) u
          fresh (is_closed nd na s) u = other (first_status (m.every before) made_ o) (λ e. cc (e, s)) (λ e. cc (e, s)) u

  -- What the run calls for is had, or is to be tried in its path, or is noted, or was noted before.
  pub calls_after : (notes more : List (List Choice)) → AreNotes m b r issued notes more
      → ((before : List Choice) (c : Choice) (n : Made) (o : Choice) → Member (before ++ c ∷ []) issued → m.node before ≡ Some n → n.exploring ≡ true → m.every before ≡ true
      → Among o n.options → Member (before ++ o ∷ []) issued ⊎ Member (before ++ o ∷ []) notes)
      → (K : List Choice → Type 0) → K r → ((x : List Choice) → Had x → K x)
      → ((before : List Choice) (x : Stored) (o : Choice) → node_at q before ≡ Some x → x.made.exploring ≡ true → x.status o ≡ Pending → K (run m (before ++ o ∷ [])))
      → ((k : List Choice) → Member k more → K (run m k)) → ((k : List Choice) → Member k issued → K (run m k))
      → (before : List Choice) (o : Choice) → Alternative m r before o → K (run m (before ++ o ∷ []))
  calls_after notes more list every K own old pending by_note by_issued before o alt =
      place (two_beginnings b run_in.0 before alt.chosen alt.after (sym run_in.1 ∙ alt.splits))
    where
      below : IsBelow before b → (v : Bool) → m.every before ≡ v → K (run m (before ++ o ∷ []))
      below low true ev =
          elim (every before low.0 alt.made o (here.fixed before low.0 low.1 low.2) alt.met alt.exploring ev alt.option) [
            | inl i ↦ by_issued (before ++ o ∷ []) i
            | inr i ↦ elim (list.old (before ++ o ∷ []) i) [ inl j ↦ by_note (before ++ o ∷ []) j | inr j ↦ by_issued (before ++ o ∷ []) j ]
          ]
      below low false ev = elim (list.each before o low alt ev) [ inl i ↦ by_note (before ++ o ∷ []) i | inr i ↦ by_issued (before ++ o ∷ []) i ]

      found : (n : Stored) × (node_at q before ≡ Some n) × (n.present ≡ alt.chosen)
      found = chooses_node q before alt.chosen alt.after (a.whole ∙ alt.splits)

      x : Stored
      x = found.0

      at : node_at q before ≡ Some x
      at = found.1

      same_made : alt.made ≡ x.made
      same_made = cc (alt.met, rest.meets before x at)

      skip : x.status o ≡ Skip → ((m.every before ≡ true) ⊎ ((m.reduce ≡ true) × (m.marks r (length before) o ≡ true) × (o ≢ alt.made.default))) → ⊥
      skip s (inl e) = skipped_after before x o at s e
      skip s (inr e) = no_mark_left m p q r a before x o at s e.0 e.1

      by_status : (f : List Choice) → before ≡ b ++ f → (s : Status) → x.status o ≡ s → K (run m (before ++ o ∷ []))
      by_status f i Closed s = absurd ((rest.rest before x at).opened o (subst (λ (u : Made). Among o u.options) same_made alt.option) s)
      by_status f i Skip s = absurd (skip s alt.called)
      by_status f i Pending s = pending before x o at (sym (ap (λ (u : Made). u.exploring) same_made) ∙ alt.exploring) s
      by_status f i Active s = had_after K own old before x at f i o (inl s)
      by_status f i Visited s = had_after K own old before x at f i o (inr s)

      place : TwoBeginnings b before alt.chosen → K (run m (before ++ o ∷ []))
      place (within f i) = by_status f i (x.status o) refl
      place (past f i) = below (alt.chosen, f, i) (m.every before) refl
