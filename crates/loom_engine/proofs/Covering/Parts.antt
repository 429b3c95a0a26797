-- A path drives through a part of a run: the choices that it passes lead on.
use Rattle.std.proofs.Common.{◌≡◌, ◌≤◌, ◌⊎◌, ℕ, Bool, true, false, cond, List, [], ◌∷◌, ◌++◌, length, Option, Result, Ok, Err, ap, sym, ◌∙◌, subst, inl, inr, append-nil, append_assoc}
use Rattle.std.specs.Prelude.{⊤}
use Rattle.loom_views.specs.declared.rt.failure.FailureKind.{FailureKind}
use Rattle.loom_views.specs.declared.rt.failure.FailureKind.TheVariants.{NotDeterministic}
use Rattle.loom_objects.specs.declared.choice.Choice.{Choice}
use Rattle.loom_objects.specs.declared.choice.Choice.TheVariants as choice
use Rattle.loom_objects.specs.declared.operation.Reply.TheVariants as reply
use Rattle.loom_objects.specs.declared.operation.Request.{Request}
use Rattle.loom_objects.specs.declared.operation.Turn.TheVariants as turn
use Rattle.loom_objects.specs.declared.rt.exploring.Exploring.{Exploring}
use Rattle.loom_objects.specs.declared.rt.run.Entry.{Entry}
use Rattle.loom_objects.specs.declared.rt.run.Entry.TheVariants.{Answered, AtBranch, Explores, Spurious as AtSpurious}
use Rattle.loom_objects.specs.Exploring.{switched}
use Rattle.loom_objects.specs.Rules.Notify.{enters_wait as enters}
use Rattle.loom_objects.specs.Rules.Tables.{counted}
use Rattle.loom_objects.specs.Tree.Question.{Question}
use Rattle.loom_objects.specs.Tree.Tree.{Tree, Gives, Fails, Closes, Asks, ◌>>=◌, came}
use Rattle.loom_objects.specs.World.{World}
use Rattle.loom_engine.specs.declared.rt.execution.Begun.{Begun}
use Rattle.loom_engine.specs.declared.rt.execution.Begun.TheVariants as begun
use Rattle.loom_engine.specs.Begun.{answered, begins_at, comes_to, woken_at}
use Rattle.loom_engine.specs.Runs.Body.{Meaning}
use Rattle.loom_engine.specs.Runs.Course.{Course, carried, grown_from, one_passed}
use Rattle.loom_engine.specs.Trees.Meeting.{Marking, whole_search}
use Rattle.loom_engine.specs.Trees.Drive.{Answer, Trail, branch, drive, drive_on, is_used_up}
use Rattle.loom_engine.specs.Covering.Cut.{passed}
use Rattle.loom_engine.specs.Covering.Moments.{Moment, Next, settled}
use Rattle.loom_engine.specs.Covering.Parts.{BegunLaw, LeadsOn}
use Rattle.loom_engine.proofs.Covering.Then.{GoesOn, Passes, answers_on}

-- ---- a path's outcome

pub same_value : {X : Type 0} (a b : X) (p q : Trail) → ◌≡◌ {A = Result X FailureKind × Trail} (Ok a, p) (Ok b, q) → a ≡ b
same_value {X} a b p q e = let f : ◌≡◌ {A = Result X FailureKind} (Ok a) (Ok b) = ap (λ (d : Result X FailureKind × Trail). d.0) e in cc f

pub same_path : {X : Type 0} (a b : X) (p q : Trail) → ◌≡◌ {A = Result X FailureKind × Trail} (Ok a, p) (Ok b, q) → p ≡ q
same_path {X} a b p q e = ap (λ (d : Result X FailureKind × Trail). d.1) e

pub not_both : {X : Type 0} (kind : FailureKind) (b : X) (p q : Trail) → ◌≡◌ {A = Result X FailureKind × Trail} (Err kind, p) (Ok b, q) → ⊥
not_both {X} kind b p q e = let f : ◌≡◌ {A = Result X FailureKind} (Err kind) (Ok b) = ap (λ (d : Result X FailureKind × Trail). d.0) e in absurd (cc f)

-- what a tree gives where the run closes
module _ {A : Type 0} (P : A → Type 0) where
  abbrev pub AllGive : Tree A → Type 0
  AllGive (Gives a) = P a
  AllGive (Fails kind) = Unit {0}
  AllGive (Closes rest) = AllGive rest
  AllGive (Asks question branches) = (o : Choice) → AllGive (branches o)

  abbrev pub ClosesGive : Tree A → Type 0
  ClosesGive (Gives a) = Unit {0}
  ClosesGive (Fails kind) = Unit {0}
  ClosesGive (Closes rest) = AllGive rest
  ClosesGive (Asks question branches) = (o : Choice) → ClosesGive (branches o)

  module _ (room : ℕ) (adds : Marking) (x : A) (after : Trail) where
    used_by : (b : Bool) (path : Trail) (d : Result A FailureKind × Trail) → cond b d (Err NotDeterministic, path) ≡ (Ok x, after) → d ≡ (Ok x, after)
    used_by true path d e = e
    used_by false path d e = absurd (not_both NotDeterministic x path after e)

    answered_by : (branches : Choice → Tree A) (answer : Answer) → drive_on (λ o mid. drive (whole_search room) adds (branches o) mid) answer ≡ (Ok x, after)
        → ((o : Choice) (mid : Trail) → drive (whole_search room) adds (branches o) mid ≡ (Ok x, after) → P x) → P x
    answered_by branches (Ok o, mid) e ih = ih o mid e
    answered_by branches (Err kind, mid) e ih = absurd (not_both kind x mid after e)

    all_given : (t : Tree A) (path : Trail) → AllGive t → drive (whole_search room) adds t path ≡ (Ok x, after) → P x
    all_given (Gives a) path h e = subst P (same_value a x path after e) h
    all_given (Fails kind) path h e = absurd (not_both kind x path after e)
    all_given (Closes rest) path h e = all_given rest path h (used_by (is_used_up path) path (drive (whole_search room) adds rest path) e)
    all_given (Asks question branches) path h e = answered_by branches (branch (whole_search room) path question) e (λ o mid d. all_given (branches o) mid (h o) d)

  module _ {D S : Type 0} (next : Meaning D S) (room : ℕ) (adds : Marking) (onward : A → Tree (Next D S)) (x : A) (after : Trail) (last : Option (Moment D S)) where
    Leads : List Choice → Tree A → Trail → Type 0
    Leads since t path = LeadsOn next last since t onward path x after

    -- it has come there
    there : (since : List Choice) (a : A) (path : Trail) → path.position ≤ length path.nodes → a ≡ x → path ≡ after → Leads since (Gives a) path
    unfolding Leads
    there since a path l is at = record {
      within = subst (λ (p : Trail). p.position ≤ length p.nodes) at l;
      between = [];
      passes = ap passed (sym at) ∙ sym (append-nil (passed path));
      stands = ap (λ b. settled next last since (onward b)) is ∙ ap (λ l. settled next last l (onward x)) (sym (append-nil since));
    }

    -- one choice more
    one_on : (since : List Choice) (question : Question) (branches : Choice → Tree A) (o : Choice) (path mid : Trail) → Passes path o mid → Leads (since ++ o ∷ []) (branches o) mid → Leads since (Asks question branches) path
    unfolding Leads
    one_on since question branches o path mid p r = record {
      between = o ∷ r.between;
      within = r.within;
      passes = r.passes ∙ ap (λ l. l ++ r.between) p.choices ∙ append_assoc (passed path) (o ∷ []) r.between;
      stands = r.stands ∙ ap (λ l. settled next last l (onward x)) (append_assoc since (o ∷ []) r.between);
    }

    chosen_by : (since : List Choice) (question : Question) (branches : Choice → Tree A) (path : Trail) (answer : Answer) → GoesOn path answer → drive_on (λ o mid. drive (whole_search room) adds (branches o) mid) answer ≡ (Ok x, after)
        → ((o : Choice) (mid : Trail) → mid.position ≤ length mid.nodes → drive (whole_search room) adds (branches o) mid ≡ (Ok x, after) → P x ⊎ Leads (since ++ o ∷ []) (branches o) mid)
        → P x ⊎ Leads since (Asks question branches) path
    chosen_by since question branches path (Err kind, mid) p e ih = absurd (not_both kind x mid after e)
    chosen_by since question branches path (Ok o, mid) p e ih = by (ih o mid p.within e)
      where
        by : P x ⊎ Leads (since ++ o ∷ []) (branches o) mid → P x ⊎ Leads since (Asks question branches) path
        by (inl h) = inl h
        by (inr r) = inr (one_on since question branches o path mid p r)

    pub leads_on : (t : Tree A) (since : List Choice) (path : Trail) → path.position ≤ length path.nodes → ClosesGive t → drive (whole_search room) adds t path ≡ (Ok x, after) → P x ⊎ LeadsOn next last since t onward path x after
    unfolding Leads
    leads_on (Gives a) since path l h e = inr (there since a path l (same_value a x path after e) (same_path a x path after e))
    leads_on (Fails kind) since path l h e = absurd (not_both kind x path after e)
    leads_on (Closes rest) since path l h e = inl (all_given room adds x after rest path h (used_by room adds x after (is_used_up path) path (drive (whole_search room) adds rest path) e))
    leads_on (Asks question branches) since path l h e =
        chosen_by since question branches path (branch (whole_search room) path question) (answers_on room path question l) e (λ o mid m d. leads_on (branches o) (since ++ o ∷ []) mid m (h o) d)

-- ---- an operation that is begun doesn't close the run

abbrev pub NoMore : {A : Type 0} → A → Type 0
NoMore a = ⊥

module _ {D : Type 0} where
  woken_open : (n : ℕ) (c : Course D) (o : Choice) → ClosesGive {A = Begun D × Course D} NoMore (woken_at n c o)
  woken_open n c (choice.Thread t) = tt
  woken_open n c (choice.Load slot) = tt
  woken_open n c (choice.Spurious answer) = by (enters answer n c.world)
    where
      by : (r : Result (⊤ × World D) FailureKind) → ClosesGive {A = Begun D × Course D} NoMore (carried (one_passed c) (came r) >>= (λ after. Gives (begun.AtBranch, after.1)))
      by (Ok (u, w)) = tt
      by (Err kind) = tt

  switch_open : (c : Course D) (r : Result Exploring FailureKind) → ClosesGive {A = Begun D × Course D} NoMore ((came r >>= (λ exploring. Gives (turn.Reply c.world.active reply.Done, record c { exploring = exploring }))) >>= answered)
  switch_open c (Ok exploring) = tt
  switch_open c (Err kind) = tt

  comes_open : (entry : Entry D) (c : Course D) → ClosesGive {A = Begun D × Course D} NoMore (comes_to (entry, c))
  comes_open (Answered answer) c = tt
  comes_open AtBranch c = tt
  comes_open (AtSpurious n) c = woken_open n c
  comes_open (Explores todo) c = switch_open c (switched todo c.exploring)

  pub begins_open : (op : Request D ⊤) (c : Course D) → ClosesGive {A = Begun D × Course D} NoMore (begins_at op c)
  begins_open op c = by (counted op c.world)
    where
      by : (r : Result (Entry D × World D) FailureKind) → ClosesGive {A = Begun D × Course D} NoMore (carried c (came r) >>= (λ (entry, after). comes_to (entry, grown_from c.world after)))
      by (Ok (entry, w)) = comes_open entry (grown_from c.world (record c { world = w }))
      by (Err kind) = tt

pub begun_law : {D S : Type 0} → BegunLaw D S
begun_law {D} {S} room adds next last since op c onward path after came l e = by (leads_on NoMore next room adds onward came after last (begins_at op c) since path l (begins_open op c) e)
  where
    by : ⊥ ⊎ LeadsOn next last since (begins_at op c) onward path came after → LeadsOn next last since (begins_at op c) onward path came after
    by (inl h) = absurd h
    by (inr r) = r
