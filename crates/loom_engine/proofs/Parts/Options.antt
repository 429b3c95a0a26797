-- The options that are to be tried at a node are those to which it goes on.
use Rattle.std.proofs.Common.{◌≡◌, ◌⊎◌, ◌<◌, ◌-◌, ℕ, Bool, true, ◌||◌, List, [], ◌∷◌, ◌++◌, length, Option, Some, None, refl, ap, sym, ◌∙◌, subst, inl, inr, arith, tests, eq-eqb}
use Rattle.std.specs.Prelude.{slice_get, IsSomeAnd, nat_lt}
use Rattle.loom_objects.specs.declared.choice.Choice.{Choice}
use Rattle.loom_objects.specs.declared.choice.Choice.TheVariants as choice
use Rattle.loom_objects.specs.declared.choice.Choice.TheVariants.{Thread}
use Rattle.loom_objects.specs.Tree.Question.{Made, made_of}
use Rattle.loom_objects.specs.Tree.Stores.{slots, asked_store}
use Rattle.loom_engine.specs.Walk.Path.{Pending as ToTry, Visited as Tried, Stored, IsAtRest, advance, choose, first_pending}
use Rattle.loom_engine.specs.Walk.Walks.{visited_in}
use Rattle.loom_engine.specs.declared.rt.path.node.Node.{Node}
use Rattle.loom_engine.specs.declared.rt.path.node.Node.TheVariants as node
use Rattle.loom_engine.specs.declared.rt.path.node.Schedule.{Schedule}
use Rattle.loom_engine.specs.Path.Nodes.{seen, seen_schedule, seen_threads, thread_state, is_left, IsWell, IsWellSchedule}
use Rattle.loom_engine.specs.Path.Tallies.{IsNoted}
use Rattle.loom_engine.specs.Parts.Openings.{IsOpen, HasGoneOn, OpensAs, Opens, EachNode, IsChosen, AreOpenings}
use Rattle.loom_engine.proofs.Walk.Statuses.{Chosen as NowChosen, was_present, is_next, is_other, chosen_cases, nothing_pending, goes_to_pending, first_is_pending, true_both}
use Rattle.loom_engine.proofs.Walk.Resting.{choose_at_rest}
use Rattle.loom_engine.proofs.Walk.Ends.{visited_most, visited_more}
use Rattle.loom_engine.proofs.Nodes.Nodes.Statuses.{is_open, left_there, left_some}
use Rattle.loom_engine.proofs.Nodes.Marking.Nearest.{is_no_thread}
use Rattle.loom_engine.proofs.Path.WellFormed.{formed_resting}

-- ---- a node that explores is at rest

asked_explores : (exploring : Bool) (xs : List ℕ) → (made_of (asked_store exploring xs)).exploring ≡ exploring
asked_explores exploring [] = refl
asked_explores exploring (x ∷ xs) = refl

below : (a b : ℕ) → a < b → nat_lt a b ≡ true
below a b h = search (arith, tests)

either : (a b : Bool) → a ≡ true → (a || b) ≡ true
either a b h = rw h refl

pub well_rests : (n : Node) → IsWell n → (seen n).made.exploring ≡ true → IsAtRest (seen n)
well_rests (node.Schedule s) w e = subst (λ b. IsAtRest (seen_threads s.first b s.statuses)) (sym e) w.0
well_rests (node.Load n) w e =
    (formed_resting (node.Load n)
    (true_both _ _ (true_both _ _ (eq-eqb (length n.readable) 7 w.1) (below n.position (length (slots n.readable)) w.0)) (either n.exploring _ (sym (asked_explores n.exploring (slots n.readable)) ∙ e)))).1
well_rests (node.Spurious n) w e = (formed_resting (node.Spurious n) (either n.exploring _ e)).1

-- ---- the loop

pub record HasPassed (n last : Node) (list : List Node) : Type 0 where
  pub well : IsWell last
  pub made : (seen last).made ≡ (seen n).made
  pub noted : (place : ℕ) (passes : List (Made × Choice)) → IsNoted place passes n → IsNoted place passes last
  pub fewer : (o : Choice) → (seen last).status o ≡ ToTry → (seen n).status o ≡ ToTry
  pub each : EachNode (Opens n) list
  pub all : (o : Choice) → IsOpen n o → ((seen last).status o ≡ ToTry) ⊎ IsChosen o list

pub passed_none : (n : Node) → IsWell n → (list : List Node) → list ≡ [] → HasPassed n n list
passed_none n w list e = record {
  well = w;
  made = refl;
  noted = λ place passes h. h;
  fewer = λ o h. h;
  each = subst (EachNode (Opens n)) (sym e) tt;
  all = λ o h. inl h.1;
}

explores_too : (n last : Node) → (seen last).made ≡ (seen n).made → (seen n).made.exploring ≡ true → (seen last).made.exploring ≡ true
explores_too n last e h = ap (λ (u : Made). u.exploring) e ∙ h

pub gone_on : (n last next : Node) (list : List Node) → HasPassed n last list → advance (seen last) ≡ Some (seen next) → IsWell next
    → ((place : ℕ) (passes : List (Made × Choice)) → IsNoted place passes last → IsNoted place passes next) → HasGoneOn n next
gone_on n last next list h a well noted =
    let g = goes_to_pending (seen last) (seen next) a in
    let p = first_is_pending (seen last).status (seen last).made.options g.0 g.3 in
    let present : (seen next).present ≡ g.0 = ap (λ (x : Stored). x.present) g.1 in
    let made : (seen next).made ≡ (seen n).made = ap (λ (x : Stored). x.made) g.1 ∙ h.made in
    record {
      opened = (sym (ap (λ (u : Made). u.exploring) h.made) ∙ g.2, subst (λ o. (seen n).status o ≡ ToTry) (sym present) (h.fewer g.0 p.0));
      made = made;
      rests = subst IsAtRest (sym g.1) (choose_at_rest (seen last) g.0 (well_rests last h.well g.2) g.2 p.0);
      well = well;
      noted = λ place passes i. noted place passes (h.noted place passes i);
    }

each_more : (P : Node → Type 0) (list : List Node) (x : Node) → EachNode P list → P x → EachNode P (list ++ x ∷ [])
each_more P [] x h p = (p, tt)
each_more P (y ∷ list) x h p = (h.0, each_more P list x h.1 p)

chosen_before : (o : Choice) (list : List Node) (x : Node) → IsChosen o list → IsChosen o (list ++ x ∷ [])
chosen_before o [] x h = absurd h
chosen_before o (y ∷ list) x h = elim h [ inl e ↦ inl e | inr i ↦ inr (chosen_before o list x i) ]

chosen_last : (o : Choice) (list : List Node) (x : Node) → (seen x).present ≡ o → IsChosen o (list ++ x ∷ [])
chosen_last o [] x h = inl h
chosen_last o (y ∷ list) x h = inr (chosen_last o list x h)

pub passed_one : (n last next found : Node) (list more : List Node) → HasPassed n last list → advance (seen last) ≡ Some (seen next) → IsWell next
    → ((place : ℕ) (passes : List (Made × Choice)) → IsNoted place passes last → IsNoted place passes next) → OpensAs n (seen next).present found → more ≡ list ++ found ∷ []
    → HasPassed n next more
passed_one n last next found list more h a well noted opens e = record {
  well = well;
  made = ap (λ (x : Stored). x.made) g.1 ∙ h.made;
  noted = λ place passes i. noted place passes (h.noted place passes i);
  fewer = λ o i. h.fewer o (was o (subst (λ (x : Stored). x.status o ≡ ToTry) g.1 i) (chosen_cases (seen last) g.0 o));
  each = subst (EachNode (Opens n)) (sym e) (each_more (Opens n) list found h.each (subst (λ o. OpensAs n o found) (sym opens.present) opens));
  all = λ o i. subst (λ l. ((seen next).status o ≡ ToTry) ⊎ IsChosen o l) (sym e) (elim (h.all o i) [
    | inl p ↦ now o i p (chosen_cases (seen last) g.0 o)
    | inr p ↦ inr (chosen_before o list found p)
  ]);
}
  where
    g : (o : Choice) × (seen next ≡ choose (seen last) o) × ((seen last).made.exploring ≡ true) × (first_pending (seen last).status (seen last).made.options ≡ Some o)
    g = goes_to_pending (seen last) (seen next) a

    was : (o : Choice) → (choose (seen last) g.0).status o ≡ ToTry → NowChosen (seen last) g.0 o ((choose (seen last) g.0).status o) → (seen last).status o ≡ ToTry
    was o i (was_present f s) = absurd (cc (i, s))
    was o i (is_next k f s) = absurd (cc (i, s))
    was o i (is_other k f s) = sym s ∙ i

    now : (o : Choice) → IsOpen n o → (seen last).status o ≡ ToTry → NowChosen (seen last) g.0 o ((choose (seen last) g.0).status o) → ((seen next).status o ≡ ToTry) ⊎ IsChosen o (list ++ found ∷ [])
    now o i p (was_present f s) =
        let active = (well_rests last h.well g.2).active in
        absurd (cc (p, active, ap (seen last).status f))
    now o i p (is_next k f s) = inr (chosen_last o list found (opens.present ∙ ap (λ (x : Stored). x.present) g.1 ∙ sym f))
    now o i p (is_other k f s) = inl (ap (λ (x : Stored). x.status o) g.1 ∙ s ∙ p)

pub passed_all : (n last : Node) (list : List Node) → HasPassed n last list → advance (seen last) ≡ None → AreOpenings n list
passed_all n last list h a = record {
  each = h.each;
  all = λ o i. elim (h.all o i) [
    | inl p ↦ (let e = explores_too n last h.made i.0 in absurd (nothing_pending (seen last) (well_rests last h.well e) a e o p))
    | inr p ↦ p
  ];
}

-- how many options aren't visited yet
pub left_at : Node → ℕ
left_at n = length (seen n).made.options - visited_in (seen n).status (seen n).made.options

pub fewer_left : (last next : Node) → IsWell last → advance (seen last) ≡ Some (seen next) → left_at next < left_at last
unfolding left_at
fewer_left last next w a =
    let g = goes_to_pending (seen last) (seen next) a in
    let p = first_is_pending (seen last).status (seen last).made.options g.0 g.3 in
    let rest = well_rests last w g.2 in
    let active = rest.active in
    let more : visited_in (seen last).status (seen last).made.options < visited_in (choose (seen last) g.0).status (seen last).made.options =
    visited_more (seen last).status (choose (seen last) g.0).status (seen last).made.options (seen last).present
    (λ o v. kept g.0 o p.0 v (chosen_cases (seen last) g.0 o)) (rest.closed (seen last).present (λ e. cc (e, active))) active (present g.0 (chosen_cases (seen last) g.0 (seen last).present)) in
    let most = visited_most (choose (seen last) g.0).status (seen last).made.options in
    subst (λ (x : Stored). length x.made.options - visited_in x.status x.made.options < length (seen last).made.options - visited_in (seen last).status (seen last).made.options) (sym g.1)
    (omega (arith, more, most))
  where
    kept : (y o : Choice) → (seen last).status y ≡ ToTry → (seen last).status o ≡ Tried → NowChosen (seen last) y o ((choose (seen last) y).status o) → (choose (seen last) y).status o ≡ Tried
    kept y o p v (was_present f s) = s
    kept y o p v (is_next k f s) = (let e = ap (seen last).status f in absurd (cc (p, v, e)))
    kept y o p v (is_other k f s) = s ∙ v

    present : (y : Choice) → NowChosen (seen last) y (seen last).present ((choose (seen last) y).status (seen last).present) → (choose (seen last) y).status (seen last).present ≡ Tried
    present y (was_present f s) = s
    present y (is_next k f s) = absurd (k refl)
    present y (is_other k f s) = absurd (k refl)

-- ---- a schedule changes its choice

pub thread_left : (s : Schedule) (t : ℕ) → IsOpen (node.Schedule s) (Thread (Some t)) → IsSomeAnd (slice_get s.statuses t) (λ status. is_left status ≡ true)
thread_left s t h = (let z = left_there s.statuses t (ap is_open h.1) in left_some s.statuses t z.0 z.1 z.2)

pub no_thread_open : (s : Schedule) → IsOpen (node.Schedule s) (Thread None) → ⊥
no_thread_open s h = go s.first h.1
  where
    go : (first : Option ℕ) → thread_state first s.statuses (Thread None) ≡ ToTry → ⊥
    go None e = cc e
    go (Some k) e = cc e

pub schedule_opens : (n : Node) (s new : Schedule) (t : Option ℕ) (other : Node) → n ≡ node.Schedule s → IsWell n → HasGoneOn n other → (seen other).present ≡ Thread t
    → seen_schedule new ≡ choose (seen_schedule s) (Thread t) → IsWellSchedule new → length new.statuses ≡ 5
    → (new.preemptions ≡ s.preemptions) × (new.switch ≡ s.switch) × (new.nearest ≡ s.nearest) → OpensAs n (seen other).present (node.Schedule new)
schedule_opens n s new t other is w h present chosen rests five noted = record {
  gone_on = record {
    opened = subst (λ o. IsOpen n o) (sym at) h.opened;
    made = ap (λ (x : Stored). x.made) made;
    rests = subst IsAtRest (sym made) (choose_at_rest (seen n) (seen other).present (well_rests n w h.opened.0) h.opened.0 h.opened.1);
    well = (rests, five);
    noted = λ place passes i. keeps place passes (subst (λ (x : Node). IsNoted place passes x) is i);
  };
  present = at;
  schedule = λ _. made;
}
  where
    made : seen (node.Schedule new) ≡ choose (seen n) (seen other).present
    made = chosen ∙ ap (λ (x : Node). choose (seen x) (Thread t)) (sym is) ∙ ap (choose (seen n)) (sym present)

    at : (seen (node.Schedule new)).present ≡ (seen other).present
    at = ap (λ (x : Stored). x.present) made

    keeps : (place : ℕ) (passes : List (Made × Choice)) → IsNoted place passes (node.Schedule s) → IsNoted place passes (node.Schedule new)
    keeps place passes i = (noted.0 ∙ i.0, noted.1 ∙ i.1, noted.2 ∙ i.2)

-- another node is the one that it goes on to
pub value_opens : (n other : Node) → ((s : Schedule) → n ≡ node.Schedule s → ⊥) → HasGoneOn n other → OpensAs n (seen other).present other
value_opens n other f h = record { gone_on = h; present = refl; schedule = λ t. absurd (let e = is_no_thread n f in cc (e, t)) }

-- a schedule has no option but threads
pub only_threads : (n : Node) (s : Schedule) (o : Choice) → n ≡ node.Schedule s → IsOpen n o → ((t : Option ℕ) → o ≡ Thread t → ⊥) → ⊥
only_threads n s (Thread t) is h f = f t refl
only_threads n s (choice.Load slot) is h f = (let g = subst (λ (x : Node). IsOpen x (choice.Load slot)) is h in cc g.1)
only_threads n s (choice.Spurious answer) is h f = (let g = subst (λ (x : Node). IsOpen x (choice.Spurious answer)) is h in cc g.1)
