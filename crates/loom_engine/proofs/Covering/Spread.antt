-- A covering search that is spread over parts: each option that is to be tried was tried by a run, or is left to some part.
use Rattle.std.proofs.Common.{◌≡◌, ◌≢◌, ◌⊎◌, ◌≤◌, ℕ, zero, suc, true, false, List, [], ◌∷◌, ◌++◌, length, Option, Some, None, refl, ap, ap₂, sym, ◌∙◌, subst, inl, inr, arith, append_assoc, append-nil, length-append, take}
use Rattle.loom_objects.specs.declared.choice.Choice.{Choice}
use Rattle.loom_objects.specs.Tree.Question.{Among}
use Rattle.loom_engine.specs.Walk.Machine.{Machine, is_thread}
use Rattle.loom_engine.specs.Walk.Path.{Status, Closed, Skip, Pending, Active, Visited, Stored, choices, node_at, IsAtRest, choose, advance}
use Rattle.loom_engine.specs.Walk.Driven.{IsLeftBy, IsOneOf, ToBeTried}
use Rattle.loom_engine.specs.Walk.Lists.{Member, IsOnce, Begins}
use Rattle.loom_engine.proofs.Walk.Lists.{node_chooses, chooses_node, not_longer, cancel_front, snoc_append}
use Rattle.loom_engine.proofs.Walk.After.{node_in}
use Rattle.loom_engine.proofs.Walk.Statuses.{nothing_pending, Chosen, was_present, is_next, is_other, chosen_cases}
use Rattle.loom_engine.proofs.Walk.Stepping.{IsStep, Steps, step_none}
use Rattle.loom_engine.proofs.Walk.Left.{NextPlace, above_next, at_next, next_place, OldPlace, above_old, at_old, below_old, old_place}
use Rattle.loom_engine.proofs.Walk.Together.{TwoBeginnings, within, past, two_beginnings}
use Rattle.loom_engine.proofs.Trees.Rounds.{empty_rests}
use Rattle.loom_engine.specs.Parts.Cuts.{Part, IsIn, IsBelow, IsTried, AreTaken, AreOpen, IsWithout}
use Rattle.loom_engine.specs.Parts.Floors.{step_above, branch_off, end_with}
use Rattle.loom_engine.proofs.Parts.Floors.{BranchPlace, at_branch, on_branch, branch_place, branch_choices, branch_law, EndPlace, at_end, on_way, end_place, end_law}
use Rattle.loom_engine.proofs.Parts.Lists.{LastOption, is_last, is_before, last_option, not_nothing, in_front, in_back, in_either, bases, in_base, base_in, turned, turned_back, once_turned}
use Rattle.loom_engine.proofs.Parts.Lows.{steps_above, take_back, take_begins}
use Rattle.loom_engine.specs.Covering.Covered.{AreTried}
use Rattle.loom_engine.specs.Covering.Spread.{IsFull, Spread, begin, turn, one_run, last_run, raise, note, hand_out, hand_out_value, drop_note}
use Rattle.loom_engine.proofs.Covering.Left.{step_rests, step_skips_none, empty_skips_none}

-- ---- what is held

-- a run that was made begins so
abbrev pub WasMade : List (List Stored) → List Choice → Type 0
WasMade left k = (x : List Stored) × IsOneOf x left × Begins k (choices x)

-- or the next run of a part does
pub data IsBegun (left : List (List Stored)) (parts : List Part) (k : List Choice) : Type 0 where
  was_made : (x : List Stored) → IsOneOf x left → Begins k (choices x) → IsBegun left parts k
  comes_next : (q : Part) → IsIn q parts → Begins k (choices q.path) → IsBegun left parts k

-- or it is to be tried above a part's floor, or is to be handed out
pub data IsHeld (left : List (List Stored)) (parts : List Part) (notes : List (List Choice)) (k : List Choice) : Type 0 where
  is_begun : IsBegun left parts k → IsHeld left parts notes k
  is_open : (q : Part) (before f : List Choice) (n : Stored) (o : Choice) → IsIn q parts → node_at q.path before ≡ Some n → n.made.exploring ≡ true → n.status o ≡ Pending → before ≡ q.base ++ f
      → k ≡ before ++ o ∷ [] → IsHeld left parts notes k
  is_noted : Member k notes → IsHeld left parts notes k

-- each option of the path that is to be tried, or was, is held
abbrev pub Calls : (List Choice → Type 0) → List Stored → Type 0
Calls Held p = (before : List Choice) (n : Stored) (o : Choice) → node_at p before ≡ Some n → n.made.exploring ≡ true → ToBeTried (n.status o) → Held (before ++ o ∷ [])

-- what holds of a part's path, whether some of its runs are left or none
pub record Keeps (m : Machine) (issued : List (List Choice)) (b : List Choice) (p : List Stored) : Type 0 where
  pub full : IsFull m p
  pub begins : Begins b (choices p)
  -- each choice along the base was handed out
  pub fixed : (before : List Choice) (c : Choice) (e : List Choice) → b ≡ before ++ c ∷ e → Member (before ++ c ∷ []) issued

-- and of one of which some are
pub record Goes (left : List (List Stored)) (issued : List (List Choice)) (b : List Choice) (p : List Stored) : Type 0 where
  -- none was handed out past the base
  pub frontier : (o : Choice) (e : List Choice) → Member (b ++ o ∷ e) issued → ⊥
  -- what was tried above the floor was made
  pub visited : (before f : List Choice) (n : Stored) (o : Choice) → node_at p before ≡ Some n → before ≡ b ++ f → n.status o ≡ Visited → WasMade left (before ++ o ∷ [])

pub record Holds (m : Machine) (left : List (List Stored)) (parts spent : List Part) (issued notes : List (List Choice)) : Type 0 where
  pub kept : (q : Part) → IsIn q parts ⊎ IsIn q spent → Keeps m issued q.base q.path
  pub goes : (q : Part) → IsIn q parts → Goes left issued q.base q.path
  pub full : (x : List Stored) → IsOneOf x left → IsFull m x
  pub runs_call : (x : List Stored) → IsOneOf x left → Calls (IsHeld left parts notes) x
  pub parts_call : (q : Part) → IsIn q parts ⊎ IsIn q spent → Calls (IsHeld left parts notes) q.path
  pub bases_once : IsOnce (bases parts)
  pub closed : (before : List Choice) (c : Choice) (e : List Choice) → Member (before ++ c ∷ e) issued → Member (before ++ c ∷ []) issued
  pub issued_begun : (k : List Choice) → Member k issued → IsBegun left parts k
  pub begun : IsBegun left parts []

calls_more : (Held More : List Choice → Type 0) (p : List Stored) → ((k : List Choice) → Held k → More k) → Calls Held p → Calls More p
calls_more Held More p f h before n o at ex t = f (before ++ o ∷ []) (h before n o at ex t)

-- ---- paths

begins_further : (k x y : List Choice) → Begins k x → Begins x y → Begins k y
begins_further k x y g h = (g.0 ++ h.0, h.1 ∙ ap (λ t. t ++ h.0) g.1 ∙ append_assoc k g.0 h.0)

-- a path that chooses o at a node begins so
chooses_so : (q : List Stored) (before : List Choice) (n : Stored) (o : Choice) → node_at q before ≡ Some n → n.present ≡ o → Begins (before ++ o ∷ []) (choices q)
chooses_so q before n o h e = let b = node_chooses q before n h in (b.0, b.1 ∙ ap (λ u. before ++ u ∷ b.0) e ∙ sym (snoc_append before o b.0))

ends_in : (d : List Choice) → (d ≡ []) ⊎ ((f : List Choice) × (c : Choice) × (d ≡ f ++ c ∷ []))
ends_in [] = inl refl
ends_in (x ∷ d) = elim (ends_in d) [ inl e ↦ inr ([], x, ap (λ t. x ∷ t) e) | inr z ↦ inr (x ∷ z.0, z.1, ap (λ t. x ∷ t) z.2) ]

-- a run begins as the path that it followed
follows : (p q : List Stored) → IsLeftBy p q → Begins (choices p) (choices q)
follows p q l = go (ends_in (choices p))
  where
    go : (choices p ≡ []) ⊎ ((f : List Choice) × (c : Choice) × (choices p ≡ f ++ c ∷ [])) → Begins (choices p) (choices q)
    go (inl e) = (choices q, ap (λ t. t ++ choices q) (sym e))
    go (inr (f, c, e)) =
        let z = chooses_node p f c [] e in
        let k = l.kept f z.0 z.1 in
        let b = node_chooses q f k.0 k.1 in
        (b.0, b.1 ∙ ap (λ u. f ++ u ∷ b.0) (k.3 ∙ z.2) ∙ sym (snoc_append f c b.0) ∙ ap (λ t. t ++ b.0) (sym e))

-- a node that the path didn't have is past it
past_path : (p q : List Stored) → Begins (choices p) (choices q) → (before : List Choice) (n : Stored) → node_at q before ≡ Some n → node_at p before ≡ None → (f : List Choice) × (before ≡ choices p ++ f)
past_path p q g before n at none = go (two_beginnings (choices p) g.0 before n.present z.0 (sym g.1 ∙ z.1))
  where
    z : (after : List Choice) × (choices q ≡ before ++ n.present ∷ after)
    z = node_chooses q before n at

    go : TwoBeginnings (choices p) before n.present → (f : List Choice) × (before ≡ choices p ++ f)
    go (within f e) = (f, e)
    go (past f e) = let y = chooses_node p before n.present f e in let there = y.1 in absurd (cc (there, none))

-- where no node above the floor can go on none has anything pending
none_above : (k : ℕ) (q : List Stored) → step_above k q ≡ None → (before : List Choice) (n : Stored) → node_at q before ≡ Some n → k ≤ length before → advance n ≡ None
unfolding step_above node_at
none_above zero q h before n at l = step_none q h before n at
none_above (suc k) [] h before n at l = absurd (cc at)
none_above (suc k) (x ∷ q) h [] n at l = absurd (omega (arith, l))
none_above (suc k) (x ∷ q) h (c ∷ before) n at l = go (step_above k q) refl h (λ e. none_above k q e before n (node_in x q c before n at).1 (omega (arith, l)))
  where
    go : (s : Option (List Stored)) → step_above k q ≡ s → (◌≡◌ {A = Option (List Stored)} (elim s [ Some deeper ↦ Some (x ∷ deeper) | None ↦ None ]) None) → (step_above k q ≡ None → advance n ≡ None)
        → advance n ≡ None
    go None e g ih = ih e
    go (Some d) e g ih = absurd (cc g)

-- a step above the floor keeps the base
keeps_base : (b : List Choice) (q later : List Stored) → Begins b (choices q) → step_above (length b) q ≡ Some later → Begins b (choices later)
unfolding step_above
keeps_base [] q later h s = (choices later, refl)
keeps_base (c ∷ b) [] later h s = absurd (cc s)
keeps_base (c ∷ b) (n ∷ q) later h s = go (step_above (length b) q) refl s (λ d t. keeps_base b q d (h.0, cc (h.1)) t)
  where
    go : (x : Option (List Stored)) → step_above (length b) q ≡ x → elim x [ Some deeper ↦ Some (n ∷ deeper) | None ↦ None ] ≡ Some later
        → ((d : List Stored) → step_above (length b) q ≡ Some d → Begins b (choices d)) → Begins (c ∷ b) (choices later)
    go None t g ih = absurd (cc g)
    go (Some d) t g ih =
        let f : n ∷ d ≡ later = cc g in
        let first : n.present ≡ c = cc (h.1) in
        let z = ih d t in
        (z.0, ap choices (sym f) ∙ ap (λ x. n.present ∷ x) z.1 ∙ ap (λ x. x ∷ b ++ z.0) first)

is_active : (n : Stored) → IsAtRest n → (o : Choice) → o ≡ n.present → n.status o ≡ Active
is_active n rest o e = ap n.status e ∙ rest.active

-- ---- a run

module _ (m : Machine) (left : List (List Stored)) (b : List Choice) (p q : List Stored) (parts spent : List Part) (issued notes : List (List Choice))
    (h : Holds m left (record { base = b; path = p } ∷ parts) spent issued notes) (l : IsLeftBy p q) (full : IsFull m q) where
  here : Keeps m issued b p
  here = h.kept (record { base = b; path = p }) (inl (inl refl))

  along : Begins (choices p) (choices q)
  along = follows p q l

  based : Begins b (choices q)
  based = begins_further b (choices p) (choices q) here.begins along

  -- the parts that are left
  module _ (rest : List Part) (wide : (y : Part) → IsIn y parts → IsIn y rest)
      (opened : (before f : List Choice) (n : Stored) (o : Choice) → node_at q before ≡ Some n → n.made.exploring ≡ true → n.status o ≡ Pending → before ≡ b ++ f → IsHeld (q ∷ left) rest notes (before ++ o ∷ [])) where
    begun_on : (k : List Choice) → IsBegun left (record { base = b; path = p } ∷ parts) k → IsBegun (q ∷ left) rest k
    begun_on k (was_made x i g) = was_made x (inr i) g
    begun_on k (comes_next y (inl e) g) = was_made q (inl refl) (begins_further k (choices p) (choices q) (subst (λ (z : Part). Begins k (choices z.path)) e g) along)
    begun_on k (comes_next y (inr i) g) = comes_next y (wide y i) g

    held_on : (k : List Choice) → IsHeld left (record { base = b; path = p } ∷ parts) notes k → IsHeld (q ∷ left) rest notes k
    held_on k (is_begun g) = is_begun (begun_on k g)
    held_on k (is_open y before f n o (inl e) at ex pe base split) =
        let z = l.kept before n (ap (λ (x : Part). node_at x.path before) (sym e) ∙ at) in
        subst (IsHeld (q ∷ left) rest notes) (sym split)
        (opened before f z.0 o z.1 (ap (λ (x : _). x.exploring) z.2 ∙ ex) (z.4 o (λ s. cc (pe, s)) ∙ pe) (base ∙ ap (λ (x : Part). x.base ++ f) e))
    held_on k (is_open y before f n o (inr i) at ex pe base split) = is_open y before f n o (wide y i) at ex pe base split
    held_on k (is_noted i) = is_noted i

    -- what the run's path calls for is held
    new_calls : Calls (IsHeld (q ∷ left) rest notes) q
    new_calls before n o at ex (inr (inl e)) = is_begun (was_made q (inl refl) (chooses_so q before n o at (sym ((full.resting.rest before n at).one o e))))
    new_calls before n o at ex (inr (inr e)) =
        let z = l.visited before n o at e in
        let k = l.kept before z.0 z.1 in
        let same_node : k.0 ≡ n = cc (k.1, at) in
        held_on (before ++ o ∷ [])
        (h.parts_call (record { base = b; path = p }) (inl (inl refl)) before z.0 o z.1 (ap (λ (x : _). x.exploring) (sym k.2) ∙ ap (λ (x : Stored). x.made.exploring) same_node ∙ ex) (inr (inr z.2)))
    new_calls before n o at ex (inl e) = go (node_at p before) refl
      where
        go : (x : Option Stored) → node_at p before ≡ x → IsHeld (q ∷ left) rest notes (before ++ o ∷ [])
        go None none =
            let z = past_path p q along before n at none in
            let y = here.begins in
            opened before (y.0 ++ z.0) n o at ex e (z.1 ∙ ap (λ t. t ++ z.0) y.1 ∙ append_assoc b y.0 z.0)
        go (Some old) there =
            let k = l.kept before old there in
            let same_node : k.0 ≡ n = cc (k.1, at) in
            let explores : old.made.exploring ≡ true = ap (λ (x : _). x.exploring) (sym k.2) ∙ ap (λ (x : Stored). x.made.exploring) same_node ∙ ex in
            let unskipped : old.status o ≢ Skip = here.full.tries before old o there explores in
            held_on (before ++ o ∷ [])
            (h.parts_call (record { base = b; path = p }) (inl (inl refl)) before old o there explores (inl (sym (k.4 o unskipped) ∙ ap (λ (x : Stored). x.status o) same_node ∙ e)))

    full_on : (x : List Stored) → IsOneOf x (q ∷ left) → IsFull m x
    full_on x (inl e) = subst (IsFull m) (sym e) full
    full_on x (inr i) = h.full x i

    runs_call_on : (x : List Stored) → IsOneOf x (q ∷ left) → Calls (IsHeld (q ∷ left) rest notes) x
    runs_call_on x (inl e) = subst (λ t. Calls (IsHeld (q ∷ left) rest notes) t) (sym e) new_calls
    runs_call_on x (inr i) = calls_more (IsHeld left (record { base = b; path = p } ∷ parts) notes) (IsHeld (q ∷ left) rest notes) x held_on (h.runs_call x i)

    others_call : (y : Part) → IsIn y parts ⊎ IsIn y spent → Calls (IsHeld (q ∷ left) rest notes) y.path
    others_call y (inl i) = calls_more (IsHeld left (record { base = b; path = p } ∷ parts) notes) (IsHeld (q ∷ left) rest notes) y.path held_on (h.parts_call y (inl (inr i)))
    others_call y (inr i) = calls_more (IsHeld left (record { base = b; path = p } ∷ parts) notes) (IsHeld (q ∷ left) rest notes) y.path held_on (h.parts_call y (inr i))

  other_goes : (y : Part) → IsIn y parts → Goes (q ∷ left) issued y.base y.path
  other_goes y i =
      let g = h.goes y (inr i) in
      record { frontier = g.frontier; visited = λ before f n o at base v. let z = g.visited before f n o at base v in (z.0, inr z.1, z.2) }

  -- there is a next run
  module _ (later : List Stored) (stepped : step_above (length b) q ≡ Some later) (branch : List Choice) (k : Stored) (c : Choice) (s : IsStep q later branch k c) where
    opened_on : (before f : List Choice) (n : Stored) (o : Choice) → node_at q before ≡ Some n → n.made.exploring ≡ true → n.status o ≡ Pending → before ≡ b ++ f
        → IsHeld (q ∷ left) (record { base = b; path = later } ∷ parts) notes (before ++ o ∷ [])
    opened_on before f n o at ex pe base = go (old_place q later branch k c s before n at)
      where
        same : before ≡ branch → n ≡ k → Chosen k c o ((choose k c).status o) → IsHeld (q ∷ left) (record { base = b; path = later } ∷ parts) notes (before ++ o ∷ [])
        same i j (was_present d g) = absurd (cc (pe, is_active k (full.resting.rest branch k s.at) o d, ap (λ (z : Stored). z.status o) j))
        same i j (is_next d g u) =
            is_begun (comes_next (record { base = b; path = later }) (inl refl)
            ([], s.chosen ∙ ap₂ (λ (t : List Choice) (x : Choice). t ++ x ∷ []) (sym i) (sym g) ∙ sym (append-nil (before ++ o ∷ []))))
        same i j (is_other d g u) =
            is_open (record { base = b; path = later }) before f (choose k c) o (inl refl) (ap (node_at later) i ∙ s.here) s.exploring (u ∙ sym (ap (λ (z : Stored). z.status o) j) ∙ pe) base refl

        go : OldPlace later branch k before n → IsHeld (q ∷ left) (record { base = b; path = later } ∷ parts) notes (before ++ o ∷ [])
        go (above_old g) = is_open (record { base = b; path = later }) before f n o (inl refl) g ex pe base refl
        go (at_old i j) = same i j (chosen_cases k c o)
        go (below_old d i g) = absurd (nothing_pending n (full.resting.rest before n at) g ex o pe)

    abbrev Held : List Choice → Type 0
    Held = IsHeld (q ∷ left) (record { base = b; path = later } ∷ parts) notes

    later_calls : Calls (IsHeld (q ∷ left) (record { base = b; path = later } ∷ parts) notes) later
    later_calls before n o at ex t = go (next_place q later branch k c s before n at)
      where
        was_tried : n ≡ choose k c → Chosen k c o ((choose k c).status o) → ToBeTried (k.status o)
        was_tried j (was_present d g) = inr (inl (is_active k (full.resting.rest branch k s.at) o d))
        was_tried j (is_next d g u) = inl (ap k.status g ∙ s.pending)
        was_tried j (is_other d g u) = subst ToBeTried (ap (λ (z : Stored). z.status o) j ∙ u) t

        go : NextPlace q branch k c before n → IsHeld (q ∷ left) (record { base = b; path = later } ∷ parts) notes (before ++ o ∷ [])
        go (above_next g) = new_calls (record { base = b; path = later } ∷ parts) (λ y i. inr i) opened_on before n o g ex t
        go (at_next i j) =
            new_calls (record { base = b; path = later } ∷ parts) (λ y i. inr i) opened_on before k o (ap (node_at q) i ∙ s.at) s.exploring (was_tried j (chosen_cases k c o))

    later_goes : Goes (q ∷ left) issued b later
    later_goes = record { frontier = g.frontier; visited = λ before f n o at base v. seen before f n o base v (next_place q later branch k c s before n at) }
      where
        g : Goes left issued b p
        g = h.goes (record { base = b; path = p }) (inl refl)

        was : (before f : List Choice) (n : Stored) (o : Choice) → before ≡ b ++ f → node_at q before ≡ Some n → n.status o ≡ Visited → WasMade (q ∷ left) (before ++ o ∷ [])
        was before f n o base at v =
            let z = l.visited before n o at v in
            let y = g.visited before f z.0 o z.1 base z.2 in
            (y.0, inr y.1, y.2)

        seen : (before f : List Choice) (n : Stored) (o : Choice) → before ≡ b ++ f → n.status o ≡ Visited → NextPlace q branch k c before n → WasMade (q ∷ left) (before ++ o ∷ [])
        seen before f n o base v (above_next at) = was before f n o base at v
        seen before f n o base v (at_next i j) = by (chosen_cases k c o)
          where
            by : Chosen k c o ((choose k c).status o) → WasMade (q ∷ left) (before ++ o ∷ [])
            by (was_present d u) = (q, inl refl, chooses_so q before k o (ap (node_at q) i ∙ s.at) (sym d))
            by (is_next d e u) = absurd (cc (u, v, ap (λ (z : Stored). z.status o) j))
            by (is_other d e u) = was before f k o base (ap (node_at q) i ∙ s.at) (sym u ∙ sym (ap (λ (z : Stored). z.status o) j) ∙ v)

    later_kept : Steps q later → Keeps m issued b later
    later_kept st = record {
      full = record { resting = step_rests m q later st full.resting; tries = step_skips_none q later st full.tries };
      begins = keeps_base b q later based stepped;
      fixed = here.fixed;
    }

    after_one : Steps q later → Holds m (q ∷ left) (record { base = b; path = later } ∷ parts) spent issued notes
    after_one st = record {
      kept = λ y i. kept y i;
      goes = λ y i. goes y i;
      full = full_on (record { base = b; path = later } ∷ parts) (λ y i. inr i) opened_on;
      runs_call = runs_call_on (record { base = b; path = later } ∷ parts) (λ y i. inr i) opened_on;
      parts_call = λ y i. parts_call y i;
      bases_once = h.bases_once;
      closed = h.closed;
      issued_begun = λ x i. begun_on (record { base = b; path = later } ∷ parts) (λ y i. inr i) opened_on x (h.issued_begun x i);
      begun = begun_on (record { base = b; path = later } ∷ parts) (λ y i. inr i) opened_on [] h.begun;
    }
      where
        kept : (y : Part) → IsIn y (record { base = b; path = later } ∷ parts) ⊎ IsIn y spent → Keeps m issued y.base y.path
        kept y (inl (inl e)) = subst (λ (x : Part). Keeps m issued x.base x.path) (sym e) (later_kept st)
        kept y (inl (inr i)) = h.kept y (inl (inr i))
        kept y (inr i) = h.kept y (inr i)

        goes : (y : Part) → IsIn y (record { base = b; path = later } ∷ parts) → Goes (q ∷ left) issued y.base y.path
        goes y (inl e) = subst (λ (x : Part). Goes (q ∷ left) issued x.base x.path) (sym e) later_goes
        goes y (inr i) = other_goes y i

        parts_call : (y : Part) → IsIn y (record { base = b; path = later } ∷ parts) ⊎ IsIn y spent → Calls (IsHeld (q ∷ left) (record { base = b; path = later } ∷ parts) notes) y.path
        parts_call y (inl (inl e)) = subst (λ (x : Part). Calls (IsHeld (q ∷ left) (record { base = b; path = later } ∷ parts) notes) x.path) (sym e) later_calls
        parts_call y (inl (inr i)) = others_call (record { base = b; path = later } ∷ parts) (λ x j. inr j) opened_on y (inl i)
        parts_call y (inr i) = others_call (record { base = b; path = later } ∷ parts) (λ x j. inr j) opened_on y (inr i)

  -- or it was the last one
  module _ (none : step_above (length b) q ≡ None) where
    opened_none : (before f : List Choice) (n : Stored) (o : Choice) → node_at q before ≡ Some n → n.made.exploring ≡ true → n.status o ≡ Pending → before ≡ b ++ f → IsHeld (q ∷ left) parts notes (before ++ o ∷ [])
    opened_none before f n o at ex pe base =
        let size : length before ≡ length (b ++ f) = ap length base in
        let high : length b ≤ length before = omega (arith, size, length-append b f) in
        absurd (nothing_pending n (full.resting.rest before n at) (none_above (length b) q none before n at high) ex o pe)

    low_kept : Keeps m issued b (take (length b) q)
    low_kept = record {
      full = record {
        resting = record { meets = λ before n at. full.resting.meets before n (take_back (length b) q before n at); rest = λ before n at. full.resting.rest before n (take_back (length b) q before n at) };
        tries = λ before n o at. full.tries before n o (take_back (length b) q before n at);
      };
      begins = (let y = based in ([], take_begins b y.0 q y.1));
      fixed = here.fixed;
    }

    after_last : Holds m (q ∷ left) parts (record { base = b; path = take (length b) q } ∷ spent) issued notes
    after_last = record {
      kept = λ y i. kept y i;
      goes = other_goes;
      full = full_on parts (λ y i. i) opened_none;
      runs_call = runs_call_on parts (λ y i. i) opened_none;
      parts_call = λ y i. parts_call y i;
      bases_once = h.bases_once.1;
      closed = h.closed;
      issued_begun = λ x i. begun_on parts (λ y i. i) opened_none x (h.issued_begun x i);
      begun = begun_on parts (λ y i. i) opened_none [] h.begun;
    }
      where
        kept : (y : Part) → IsIn y parts ⊎ IsIn y (record { base = b; path = take (length b) q } ∷ spent) → Keeps m issued y.base y.path
        kept y (inl i) = h.kept y (inl (inr i))
        kept y (inr (inl e)) = subst (λ (x : Part). Keeps m issued x.base x.path) (sym e) low_kept
        kept y (inr (inr i)) = h.kept y (inr i)

        low_calls : Calls (IsHeld (q ∷ left) parts notes) (take (length b) q)
        low_calls before n o at ex t = new_calls parts (λ y i. i) opened_none before n o (take_back (length b) q before n at) ex t

        parts_call : (y : Part) → IsIn y parts ⊎ IsIn y (record { base = b; path = take (length b) q } ∷ spent) → Calls (IsHeld (q ∷ left) parts notes) y.path
        parts_call y (inl i) = others_call parts (λ x j. j) opened_none y (inl i)
        parts_call y (inr (inl e)) = subst (λ (x : Part). Calls (IsHeld (q ∷ left) parts notes) x.path) (sym e) low_calls
        parts_call y (inr (inr i)) = others_call parts (λ x j. j) opened_none y (inr i)

-- ---- the floor is raised

module _ (m : Machine) (left : List (List Stored)) (b : List Choice) (p : List Stored) (n : Stored) (parts spent : List Part) (issued notes taken opened : List (List Choice))
    (h : Holds m left (record { base = b; path = p } ∷ parts) spent issued notes) (at : node_at p b ≡ Some n) (t : AreTaken b n taken) (u : AreOpen b n opened) where
  abbrev raised : Part
  raised = record { base = b ++ n.present ∷ []; path = p }

  below : Keeps m issued b p
  below = h.kept (record { base = b; path = p }) (inl (inl refl))

  at_rest : IsAtRest n
  at_rest = below.full.resting.rest b n at

  begun_raised : (k : List Choice) → IsBegun left (record { base = b; path = p } ∷ parts) k → IsBegun left (record { base = b ++ n.present ∷ []; path = p } ∷ parts) k
  begun_raised k (was_made x i g) = was_made x i g
  begun_raised k (comes_next y (inl e) g) = comes_next (record { base = b ++ n.present ∷ []; path = p }) (inl refl) (subst (λ (z : Part). Begins k (choices z.path)) e g)
  begun_raised k (comes_next y (inr i) g) = comes_next y (inr i) g

  -- an option above the old floor is above the new one, or at the node that is fixed now
  open_raised : (before f : List Choice) (x : Stored) (o : Choice) → node_at p before ≡ Some x → x.made.exploring ≡ true → x.status o ≡ Pending → before ≡ b ++ f
      → IsHeld left (record { base = b ++ n.present ∷ []; path = p } ∷ parts) (opened ++ notes) (before ++ o ∷ [])
  open_raised before [] x o there ex pe base =
      let same : before ≡ b = base ∙ append-nil b in
      let same_node : x ≡ n = cc (there, at, ap (node_at p) same) in
      is_noted (in_front (before ++ o ∷ []) opened notes ((u (before ++ o ∷ [])).1 (o, ap (λ (d : List Choice). d ++ o ∷ []) same, sym (ap (λ (z : Stored). z.made.exploring) same_node) ∙ ex, sym (ap (λ (z : Stored). z.status o) same_node) ∙ pe)))
  open_raised before (c ∷ f) x o there ex pe base =
      let y = node_chooses p before x there in
      let z = node_chooses p b n at in
      let first : c ∷ f ++ x.present ∷ y.0 ≡ n.present ∷ z.0 =
      cancel_front b (c ∷ f ++ x.present ∷ y.0) (n.present ∷ z.0) (sym (append_assoc b (c ∷ f) (x.present ∷ y.0)) ∙ ap (λ (d : List Choice). d ++ x.present ∷ y.0) (sym base) ∙ sym y.1 ∙ z.1) in
      let same : c ≡ n.present = cc first in
      is_open (record { base = b ++ n.present ∷ []; path = p }) before f x o (inl refl) there ex pe (base ∙ ap (λ (d : Choice). b ++ d ∷ f) same ∙ sym (snoc_append b n.present f)) refl

  held_raised : (k : List Choice) → IsHeld left (record { base = b; path = p } ∷ parts) notes k → IsHeld left (record { base = b ++ n.present ∷ []; path = p } ∷ parts) (opened ++ notes) k
  held_raised k (is_begun g) = is_begun (begun_raised k g)
  held_raised k (is_open y before f x o (inl e) there ex pe base split) =
      subst (IsHeld left (record { base = b ++ n.present ∷ []; path = p } ∷ parts) (opened ++ notes)) (sym split)
      (open_raised before f x o (ap (λ (z : Part). node_at z.path before) (sym e) ∙ there) ex pe (base ∙ ap (λ (z : Part). z.base ++ f) e))
  held_raised k (is_open y before f x o (inr i) there ex pe base split) = is_open y before f x o (inr i) there ex pe base split
  held_raised k (is_noted i) = is_noted (in_back k opened notes i)

  is_taken : (o : Choice) → IsTried n o → (before : List Choice) (c : Choice) → before ≡ b → c ≡ o → Member (before ++ c ∷ []) (taken ++ issued)
  is_taken o tr before c e f = in_front (before ++ c ∷ []) taken issued ((t (before ++ c ∷ [])).1 (o, ap₂ (λ (d : List Choice) (x : Choice). d ++ x ∷ []) e f, tr))

  fixed_raised : (before : List Choice) (c : Choice) (e : List Choice) → LastOption b n.present before c e → Member (before ++ c ∷ []) (taken ++ issued)
  fixed_raised before c e (is_last i j k) = is_taken n.present (inl at_rest.active) before c i j
  fixed_raised before c e (is_before f i j) = in_back (before ++ c ∷ []) taken issued (below.fixed before c f i)

  frontier_raised : (o : Choice) (e : List Choice) → Member ((b ++ n.present ∷ []) ++ o ∷ e) (taken ++ issued) → ⊥
  frontier_raised o e i = elim (in_either ((b ++ n.present ∷ []) ++ o ∷ e) taken issued i) [
    | inl j ↦ let z = (t ((b ++ n.present ∷ []) ++ o ∷ e)).0 j in cc (cancel_front b (n.present ∷ o ∷ e) (z.0 ∷ []) (sym (snoc_append b n.present (o ∷ e)) ∙ z.1))
    | inr j ↦ (h.goes (record { base = b; path = p }) (inl refl)).frontier n.present (o ∷ e) (subst (λ z. Member z issued) (snoc_append b n.present (o ∷ e)) j)
  ]

  other_frontier : (x : Part) → IsIn x parts → (o : Choice) (e : List Choice) → Member (x.base ++ o ∷ e) (taken ++ issued) → ⊥
  other_frontier x i o e j = elim (in_either (x.base ++ o ∷ e) taken issued j) [
    | inl d ↦ (let z = (t (x.base ++ o ∷ e)).0 d in go (last_option b z.0 x.base o e (sym z.1)))
    | inr d ↦ (h.goes x (inr i)).frontier o e d
  ]
    where
      go : {c : Choice} → LastOption b c x.base o e → ⊥
      go (is_last f g d) = h.bases_once.0 (subst (λ z. Member z (bases parts)) f (in_base x parts i))
      go (is_before f g d) = (h.goes x (inr i)).frontier o [] (below.fixed x.base o f g)

  after_raise : Holds m left (record { base = b ++ n.present ∷ []; path = p } ∷ parts) spent (taken ++ issued) (opened ++ notes)
  after_raise = record {
    kept = λ x i. kept x i;
    goes = λ x i. goes x i;
    full = h.full;
    runs_call = λ x i. calls_more (IsHeld left (record { base = b; path = p } ∷ parts) notes) (IsHeld left (record { base = b ++ n.present ∷ []; path = p } ∷ parts) (opened ++ notes)) x held_raised (h.runs_call x i);
    parts_call = λ x i. parts_call x i;
    bases_once = (once, h.bases_once.1);
    closed = closed;
    issued_begun = λ k i. elim (in_either k taken issued i) [ inl j ↦ had k j | inr j ↦ begun_raised k (h.issued_begun k j) ];
    begun = begun_raised [] h.begun;
  }
    where
      wider : (x : Part) → Keeps m issued x.base x.path → Keeps m (taken ++ issued) x.base x.path
      wider x k = record { full = k.full; begins = k.begins; fixed = λ before c e g. in_back (before ++ c ∷ []) taken issued (k.fixed before c e g) }

      new : Keeps m (taken ++ issued) (b ++ n.present ∷ []) p
      new = record {
        full = below.full;
        begins = (let z = node_chooses p b n at in (z.0, z.1 ∙ sym (snoc_append b n.present z.0)));
        fixed = λ before c e g. fixed_raised before c e (last_option b n.present before c e g);
      }

      kept : (x : Part) → IsIn x (record { base = b ++ n.present ∷ []; path = p } ∷ parts) ⊎ IsIn x spent → Keeps m (taken ++ issued) x.base x.path
      kept x (inl (inl e)) = subst (λ (y : Part). Keeps m (taken ++ issued) y.base y.path) (sym e) new
      kept x (inl (inr i)) = wider x (h.kept x (inl (inr i)))
      kept x (inr i) = wider x (h.kept x (inr i))

      goes_new : Goes left (taken ++ issued) (b ++ n.present ∷ []) p
      goes_new = record {
        frontier = frontier_raised;
        visited = λ before f x o there base v. (h.goes (record { base = b; path = p }) (inl refl)).visited before (n.present ∷ f) x o there (base ∙ snoc_append b n.present f) v;
      }

      goes : (x : Part) → IsIn x (record { base = b ++ n.present ∷ []; path = p } ∷ parts) → Goes left (taken ++ issued) x.base x.path
      goes x (inl e) = subst (λ (y : Part). Goes left (taken ++ issued) y.base y.path) (sym e) goes_new
      goes x (inr i) = record { frontier = other_frontier x i; visited = (h.goes x (inr i)).visited }

      parts_call : (x : Part) → IsIn x (record { base = b ++ n.present ∷ []; path = p } ∷ parts) ⊎ IsIn x spent → Calls (IsHeld left (record { base = b ++ n.present ∷ []; path = p } ∷ parts) (opened ++ notes)) x.path
      parts_call x (inl (inl e)) =
          subst (λ (y : Part). Calls (IsHeld left (record { base = b ++ n.present ∷ []; path = p } ∷ parts) (opened ++ notes)) y.path) (sym e)
          (calls_more (IsHeld left (record { base = b; path = p } ∷ parts) notes) (IsHeld left (record { base = b ++ n.present ∷ []; path = p } ∷ parts) (opened ++ notes)) p held_raised
          (h.parts_call (record { base = b; path = p }) (inl (inl refl))))
      parts_call x (inl (inr i)) = calls_more (IsHeld left (record { base = b; path = p } ∷ parts) notes) (IsHeld left (record { base = b ++ n.present ∷ []; path = p } ∷ parts) (opened ++ notes)) x.path held_raised (h.parts_call x (inl (inr i)))
      parts_call x (inr i) = calls_more (IsHeld left (record { base = b; path = p } ∷ parts) notes) (IsHeld left (record { base = b ++ n.present ∷ []; path = p } ∷ parts) (opened ++ notes)) x.path held_raised (h.parts_call x (inr i))

      once : Member (b ++ n.present ∷ []) (bases parts) → ⊥
      once i =
          let z = base_in (b ++ n.present ∷ []) parts i in
          (h.goes (record { base = b; path = p }) (inl refl)).frontier n.present [] ((h.kept z.0 (inl (inr z.1))).fixed b n.present [] (sym z.2))

      closed : (before : List Choice) (c : Choice) (e : List Choice) → Member (before ++ c ∷ e) (taken ++ issued) → Member (before ++ c ∷ []) (taken ++ issued)
      closed before c e i = elim (in_either (before ++ c ∷ e) taken issued i) [
        | inl j ↦ (let z = (t (before ++ c ∷ e)).0 j in go z.0 z.2 (last_option b z.0 before c e (sym z.1)))
        | inr j ↦ in_back (before ++ c ∷ []) taken issued (h.closed before c e j)
      ]
        where
          go : (o : Choice) → IsTried n o → LastOption b o before c e → Member (before ++ c ∷ []) (taken ++ issued)
          go o tr (is_last f g d) = is_taken o tr before c f g
          go o tr (is_before f g d) = in_back (before ++ c ∷ []) taken issued (below.fixed before c f g)

      tried : (o : Choice) → IsTried n o → IsBegun left (record { base = b ++ n.present ∷ []; path = p } ∷ parts) (b ++ o ∷ [])
      tried o (inl a) = comes_next (record { base = b ++ n.present ∷ []; path = p }) (inl refl) (chooses_so p b n o at (sym (at_rest.one o a)))
      tried o (inr v) = let z = (h.goes (record { base = b; path = p }) (inl refl)).visited b [] n o at (sym (append-nil b)) v in was_made z.0 z.1 z.2

      had : (k : List Choice) → Member k taken → IsBegun left (record { base = b ++ n.present ∷ []; path = p } ∷ parts) k
      had k i = let z = (t k).0 i in subst (IsBegun left (record { base = b ++ n.present ∷ []; path = p } ∷ parts)) (sym z.1) (tried z.0 z.2)

-- ---- an option is handed out

module _ (m : Machine) (left : List (List Stored)) (source : Part) (before : List Choice) (o : Choice) (p : List Stored) (parts spent : List Part) (issued notes less : List (List Choice))
    (h : Holds m left parts spent issued notes) (is : IsIn source parts ⊎ IsIn source spent) (low : IsBelow before source.base) (unissued : Member (before ++ o ∷ []) issued → ⊥)
    (without : IsWithout (before ++ o ∷ []) notes less) (full : IsFull m p) (ends : choices p ≡ before ++ o ∷ []) (calls : Calls (IsHeld left parts notes) p) where
  begun_out : (k : List Choice) → IsBegun left parts k → IsBegun left (record { base = before ++ o ∷ []; path = p } ∷ parts) k
  begun_out k (was_made x i g) = was_made x i g
  begun_out k (comes_next y i g) = comes_next y (inr i) g

  it_comes : IsBegun left (record { base = before ++ o ∷ []; path = p } ∷ parts) (before ++ o ∷ [])
  it_comes = comes_next (record { base = before ++ o ∷ []; path = p }) (inl refl) ([], ends ∙ sym (append-nil (before ++ o ∷ [])))

  held_out : (k : List Choice) → IsHeld left parts notes k → IsHeld left (record { base = before ++ o ∷ []; path = p } ∷ parts) less k
  held_out k (is_begun g) = is_begun (begun_out k g)
  held_out k (is_open y d f x c i at ex pe base split) = is_open y d f x c (inr i) at ex pe base split
  held_out k (is_noted i) = elim ((without k).0 i) [
    | inl e ↦ is_begun (subst (IsBegun left (record { base = before ++ o ∷ []; path = p } ∷ parts)) (sym e) it_comes)
    | inr j ↦ is_noted j
  ]

  fixed_out : (d : List Choice) (c : Choice) (e : List Choice) → before ++ o ∷ [] ≡ d ++ c ∷ e → Member (d ++ c ∷ []) ((before ++ o ∷ []) ∷ issued)
  fixed_out d c e split = go (last_option before o d c e split)
    where
      go : LastOption before o d c e → Member (d ++ c ∷ []) ((before ++ o ∷ []) ∷ issued)
      go (is_last i j k) = inl (ap₂ (λ (t : List Choice) (x : Choice). t ++ x ∷ []) i j)
      go (is_before f i j) = inr ((h.kept source is).fixed d c (f ++ low.0 ∷ low.1) (low.2 ∙ ap (λ t. t ++ low.0 ∷ low.1) i ∙ append_assoc d (c ∷ f) (low.0 ∷ low.1)))

  frontier_out : (c : Choice) (e : List Choice) → Member ((before ++ o ∷ []) ++ c ∷ e) ((before ++ o ∷ []) ∷ issued) → ⊥
  frontier_out c e (inl j) = not_longer (before ++ o ∷ []) c e (sym j)
  frontier_out c e (inr j) = unissued (h.closed before o (c ∷ e) (subst (λ t. Member t issued) (snoc_append before o (c ∷ e)) j))

  -- nothing past the base of another part lies on the way to what is handed out
  others_out : (x : Part) → IsIn x parts → (c : Choice) (e : List Choice) → Member (x.base ++ c ∷ e) ((before ++ o ∷ []) ∷ issued) → ⊥
  others_out x i c e (inr j) = (h.goes x i).frontier c e j
  others_out x i c e (inl j) = go (last_option before o x.base c e (sym j))
    where
      stands : (a : Choice) (g : List Choice) → source.base ≡ x.base ++ a ∷ g → ⊥
      stands a g split = (h.goes x i).frontier a [] ((h.kept source is).fixed x.base a g split)

      go : LastOption before o x.base c e → ⊥
      go (is_last f g k) = stands low.0 low.1 (low.2 ∙ ap (λ t. t ++ low.0 ∷ low.1) (sym f))
      go (is_before f g k) = stands c (f ++ low.0 ∷ low.1) (low.2 ∙ ap (λ t. t ++ low.0 ∷ low.1) g ∙ append_assoc x.base (c ∷ f) (low.0 ∷ low.1))

  -- its path has no node past its base
  none_past : (d f : List Choice) (n : Stored) → node_at p d ≡ Some n → d ≡ (before ++ o ∷ []) ++ f → ⊥
  none_past d f n at base = by f base z.0 z.1
    where
      z : (after : List Choice) × (choices p ≡ d ++ n.present ∷ after)
      z = node_chooses p d n at

      by : (f : List Choice) → d ≡ (before ++ o ∷ []) ++ f → (after : List Choice) → choices p ≡ d ++ n.present ∷ after → ⊥
      by [] e after g = not_longer (before ++ o ∷ []) n.present after (sym ends ∙ g ∙ ap (λ t. t ++ n.present ∷ after) (e ∙ append-nil (before ++ o ∷ [])))
      by (c ∷ f) e after g =
          not_longer (before ++ o ∷ []) c (f ++ n.present ∷ after)
          (sym ends ∙ g ∙ ap (λ t. t ++ n.present ∷ after) e ∙ append_assoc (before ++ o ∷ []) (c ∷ f) (n.present ∷ after))

  after_out : Holds m left (record { base = before ++ o ∷ []; path = p } ∷ parts) spent ((before ++ o ∷ []) ∷ issued) less
  after_out = record {
    kept = λ x i. kept x i;
    goes = λ x i. goes x i;
    full = h.full;
    runs_call = λ x i. calls_more (IsHeld left parts notes) (IsHeld left (record { base = before ++ o ∷ []; path = p } ∷ parts) less) x held_out (h.runs_call x i);
    parts_call = λ x i. parts_call x i;
    bases_once = (once, h.bases_once);
    closed = λ d c e i. elim i [ inl j ↦ fixed_out d c e (sym j) | inr j ↦ inr (h.closed d c e j) ];
    issued_begun = λ k i. elim i [ inl e ↦ subst (IsBegun left (record { base = before ++ o ∷ []; path = p } ∷ parts)) (sym e) it_comes | inr j ↦ begun_out k (h.issued_begun k j) ];
    begun = begun_out [] h.begun;
  }
    where
      wider : (x : Part) → Keeps m issued x.base x.path → Keeps m ((before ++ o ∷ []) ∷ issued) x.base x.path
      wider x k = record { full = k.full; begins = k.begins; fixed = λ d c e g. inr (k.fixed d c e g) }

      new : Keeps m ((before ++ o ∷ []) ∷ issued) (before ++ o ∷ []) p
      new = record { full = full; begins = ([], ends ∙ sym (append-nil (before ++ o ∷ []))); fixed = fixed_out }

      kept : (x : Part) → IsIn x (record { base = before ++ o ∷ []; path = p } ∷ parts) ⊎ IsIn x spent → Keeps m ((before ++ o ∷ []) ∷ issued) x.base x.path
      kept x (inl (inl e)) = subst (λ (y : Part). Keeps m ((before ++ o ∷ []) ∷ issued) y.base y.path) (sym e) new
      kept x (inl (inr i)) = wider x (h.kept x (inl i))
      kept x (inr i) = wider x (h.kept x (inr i))

      goes_new : Goes left ((before ++ o ∷ []) ∷ issued) (before ++ o ∷ []) p
      goes_new = record { frontier = frontier_out; visited = λ d f n c at base v. absurd (none_past d f n at base) }

      goes : (x : Part) → IsIn x (record { base = before ++ o ∷ []; path = p } ∷ parts) → Goes left ((before ++ o ∷ []) ∷ issued) x.base x.path
      goes x (inl e) = subst (λ (y : Part). Goes left ((before ++ o ∷ []) ∷ issued) y.base y.path) (sym e) goes_new
      goes x (inr i) = record { frontier = others_out x i; visited = (h.goes x i).visited }

      parts_call : (x : Part) → IsIn x (record { base = before ++ o ∷ []; path = p } ∷ parts) ⊎ IsIn x spent → Calls (IsHeld left (record { base = before ++ o ∷ []; path = p } ∷ parts) less) x.path
      parts_call x (inl (inl e)) =
          subst (λ (y : Part). Calls (IsHeld left (record { base = before ++ o ∷ []; path = p } ∷ parts) less) y.path) (sym e)
          (calls_more (IsHeld left parts notes) (IsHeld left (record { base = before ++ o ∷ []; path = p } ∷ parts) less) p held_out calls)
      parts_call x (inl (inr i)) = calls_more (IsHeld left parts notes) (IsHeld left (record { base = before ++ o ∷ []; path = p } ∷ parts) less) x.path held_out (h.parts_call x (inl i))
      parts_call x (inr i) = calls_more (IsHeld left parts notes) (IsHeld left (record { base = before ++ o ∷ []; path = p } ∷ parts) less) x.path held_out (h.parts_call x (inr i))

      once : Member (before ++ o ∷ []) (bases parts) → ⊥
      once i = let z = base_in (before ++ o ∷ []) parts i in unissued ((h.kept z.0 (inl z.1)).fixed before o [] (sym z.2))

-- ---- what is handed out

module _ (m : Machine) (left : List (List Stored)) (source : Part) (before : List Choice) (n : Stored) (parts spent : List Part) (issued notes : List (List Choice))
    (h : Holds m left parts spent issued notes) (is : IsIn source parts ⊎ IsIn source spent) (at : node_at source.path before ≡ Some n) where
  there : Keeps m issued source.base source.path
  there = h.kept source is

  -- a thread
  module _ (o : Choice) (ex : n.made.exploring ≡ true) (pe : n.status o ≡ Pending) where
    branch_full : IsFull m (branch_off (length before) o source.path)
    branch_full = record {
      resting = (branch_law m source.path before n o there.full.resting at ex pe).0;
      tries = λ d x c g e. unskipped d x c e (branch_place source.path before n o at d x g);
    }
      where
        unskipped : (d : List Choice) (x : Stored) (c : Choice) → x.made.exploring ≡ true → BranchPlace source.path before n o d x → x.status c ≢ Skip
        unskipped d x c e (on_branch g) = there.full.tries d x c g e
        unskipped d x c e (at_branch i j) = λ s. by s (chosen_cases n o c)
          where
            by : x.status c ≡ Skip → Chosen n o c ((choose n o).status c) → ⊥
            by s (was_present f g) = cc (g, s, ap (λ (z : Stored). z.status c) j)
            by s (is_next f g k) = cc (k, s, ap (λ (z : Stored). z.status c) j)
            by s (is_other f g k) = there.full.tries before n c at ex (sym k ∙ sym (ap (λ (z : Stored). z.status c) j) ∙ s)

    branch_calls : Calls (IsHeld left parts notes) (branch_off (length before) o source.path)
    branch_calls d x c g e t = go (branch_place source.path before n o at d x g)
      where
        was : x ≡ choose n o → Chosen n o c ((choose n o).status c) → ToBeTried (n.status c)
        was j (was_present f i) = inr (inl (is_active n (there.full.resting.rest before n at) c f))
        was j (is_next f i k) = inl (ap n.status i ∙ pe)
        was j (is_other f i k) = subst ToBeTried (ap (λ (z : Stored). z.status c) j ∙ k) t

        go : BranchPlace source.path before n o d x → IsHeld left parts notes (d ++ c ∷ [])
        go (on_branch i) = h.parts_call source is d x c i e t
        go (at_branch i j) = h.parts_call source is d n c (ap (node_at source.path) i ∙ at) ex (was j (chosen_cases n o c))

  -- a value
  module _ (next : Stored) (value : is_thread n.made.default ≡ false) (made : next.made ≡ n.made) (rest : IsAtRest next) where
    end_full : IsFull m (end_with (length before) next source.path)
    end_full = record {
      resting = (end_law m source.path before n next there.full.resting at made rest).0;
      tries = λ d x c g e. unskipped d x c e (end_place source.path before n next at d x g);
    }
      where
        unskipped : (d : List Choice) (x : Stored) (c : Choice) → x.made.exploring ≡ true → EndPlace source.path before next d x → x.status c ≢ Skip
        unskipped d x c e (on_way g) = there.full.tries d x c g e
        unskipped d x c e (at_end i j) = λ s. rest.values (ap (λ (y : _). is_thread y.default) made ∙ value) c (sym (ap (λ (z : Stored). z.status c) j) ∙ s)

    end_calls : Calls (IsHeld left parts notes) (end_with (length before) next source.path)
    end_calls d x c g e t = go (end_place source.path before n next at d x g)
      where
        explores : x ≡ next → n.made.exploring ≡ true
        explores j = ap (λ (y : _). y.exploring) (sym made) ∙ ap (λ (z : Stored). z.made.exploring) (sym j) ∙ e

        not_closed : ToBeTried (x.status c) → x.status c ≡ Closed → ⊥
        not_closed (inl a) f = cc (a, f)
        not_closed (inr (inl a)) f = cc (a, f)
        not_closed (inr (inr a)) f = cc (a, f)

        tried_there : n.made.exploring ≡ true → (s : Status) → n.status c ≡ s → (n.status c ≡ Closed → ⊥) → ToBeTried (n.status c)
        tried_there i Closed f none = absurd (none f)
        tried_there i Skip f none = absurd (there.full.tries before n c at i f)
        tried_there i Pending f none = inl f
        tried_there i Active f none = inr (inl f)
        tried_there i Visited f none = inr (inr f)

        was : x ≡ next → ToBeTried (n.status c)
        was j =
            let option = rest.closed c (λ f. not_closed t (ap (λ (z : Stored). z.status c) j ∙ f)) in
            tried_there (explores j) (n.status c) refl ((there.full.resting.rest before n at).opened c (subst (λ (y : _). Among c y.options) made option))

        go : EndPlace source.path before next d x → IsHeld left parts notes (d ++ c ∷ [])
        go (on_way i) = h.parts_call source is d x c i e t
        go (at_end i j) = h.parts_call source is d n c (ap (node_at source.path) i ∙ at) (explores j) (was j)

-- ---- the other steps

after_note : (m : Machine) (left : List (List Stored)) (k : List Choice) (parts spent : List Part) (issued notes : List (List Choice)) → Holds m left parts spent issued notes → Holds m left parts spent issued (k ∷ notes)
after_note m left k parts spent issued notes h = record {
  kept = h.kept;
  goes = h.goes;
  full = h.full;
  runs_call = λ x i. calls_more (IsHeld left parts notes) (IsHeld left parts (k ∷ notes)) x more (h.runs_call x i);
  parts_call = λ x i. calls_more (IsHeld left parts notes) (IsHeld left parts (k ∷ notes)) x.path more (h.parts_call x i);
  bases_once = h.bases_once;
  closed = h.closed;
  issued_begun = h.issued_begun;
  begun = h.begun;
}
  where
    more : (x : List Choice) → IsHeld left parts notes x → IsHeld left parts (k ∷ notes) x
    more x (is_begun g) = is_begun g
    more x (is_open y before f n o i at ex pe base split) = is_open y before f n o i at ex pe base split
    more x (is_noted i) = is_noted (inr i)

after_drop : (m : Machine) (left : List (List Stored)) (k : List Choice) (parts spent : List Part) (issued notes less : List (List Choice)) → Holds m left parts spent issued notes → Member k issued
    → IsWithout k notes less → Holds m left parts spent issued less
after_drop m left k parts spent issued notes less h was_issued without = record {
  kept = h.kept;
  goes = h.goes;
  full = h.full;
  runs_call = λ x i. calls_more (IsHeld left parts notes) (IsHeld left parts less) x on (h.runs_call x i);
  parts_call = λ x i. calls_more (IsHeld left parts notes) (IsHeld left parts less) x.path on (h.parts_call x i);
  bases_once = h.bases_once;
  closed = h.closed;
  issued_begun = h.issued_begun;
  begun = h.begun;
}
  where
    on : (x : List Choice) → IsHeld left parts notes x → IsHeld left parts less x
    on x (is_begun g) = is_begun g
    on x (is_open y before f n o i at ex pe base split) = is_open y before f n o i at ex pe base split
    on x (is_noted i) = elim ((without x).0 i) [ inl e ↦ is_begun (subst (IsBegun left parts) (sym e) (h.issued_begun k was_issued)) | inr j ↦ is_noted j ]

after_turn : (m : Machine) (left : List (List Stored)) (front back : List Part) (q : Part) (spent : List Part) (issued notes : List (List Choice)) → Holds m left (front ++ q ∷ back) spent issued notes
    → Holds m left (q ∷ front ++ back) spent issued notes
after_turn m left front back q spent issued notes h = record {
  kept = λ x i. h.kept x (elim i [ inl j ↦ inl (turned x q front back j) | inr j ↦ inr j ]);
  goes = λ x i. h.goes x (turned x q front back i);
  full = h.full;
  runs_call = λ x i. calls_more (IsHeld left (front ++ q ∷ back) notes) (IsHeld left (q ∷ front ++ back) notes) x on (h.runs_call x i);
  parts_call = λ x i. calls_more (IsHeld left (front ++ q ∷ back) notes) (IsHeld left (q ∷ front ++ back) notes) x.path on (h.parts_call x (elim i [ inl j ↦ inl (turned x q front back j) | inr j ↦ inr j ]));
  bases_once = once_turned q front back h.bases_once;
  closed = h.closed;
  issued_begun = λ k i. begun k (h.issued_begun k i);
  begun = begun [] h.begun;
}
  where
    begun : (k : List Choice) → IsBegun left (front ++ q ∷ back) k → IsBegun left (q ∷ front ++ back) k
    begun k (was_made x i g) = was_made x i g
    begun k (comes_next y i g) = comes_next y (turned_back y q front back i) g

    on : (x : List Choice) → IsHeld left (front ++ q ∷ back) notes x → IsHeld left (q ∷ front ++ back) notes x
    on x (is_begun g) = is_begun (begun x g)
    on x (is_open y before f n o i at ex pe base split) = is_open y before f n o (turned_back y q front back i) at ex pe base split
    on x (is_noted i) = is_noted i

at_first : (m : Machine) → Holds m [] (record { base = []; path = [] } ∷ []) [] [] []
unfolding node_at
at_first m = record {
  kept = λ x i. kept x i;
  goes = λ x i. goes x i;
  full = λ x i. absurd i;
  runs_call = λ x i. absurd i;
  parts_call = λ x i. parts_call x i;
  bases_once = ((λ i. i), tt);
  closed = λ before c e i. i;
  issued_begun = λ k i. absurd i;
  begun = comes_next (record { base = []; path = [] }) (inl refl) ([], refl);
}
  where
    first : Keeps m [] [] []
    first = record { full = record { resting = empty_rests m; tries = empty_skips_none }; begins = ([], refl); fixed = λ before c e g. absurd (not_nothing before c e g) }

    kept : (x : Part) → IsIn x (record { base = []; path = [] } ∷ []) ⊎ IsIn x [] → Keeps m [] x.base x.path
    kept x (inl (inl e)) = subst (λ (y : Part). Keeps m [] y.base y.path) (sym e) first
    kept x (inl (inr i)) = absurd i
    kept x (inr i) = absurd i

    goes_first : Goes [] [] [] []
    goes_first = record { frontier = λ o e i. i; visited = λ before f n o at base v. absurd (cc at) }

    goes : (x : Part) → IsIn x (record { base = []; path = [] } ∷ []) → Goes [] [] x.base x.path
    goes x (inl e) = subst (λ (y : Part). Goes [] [] y.base y.path) (sym e) goes_first
    goes x (inr i) = absurd i

    calls_first : Calls (IsHeld [] (record { base = []; path = [] } ∷ []) []) []
    calls_first before n o at ex t = absurd (cc at)

    parts_call : (x : Part) → IsIn x (record { base = []; path = [] } ∷ []) ⊎ IsIn x [] → Calls (IsHeld [] (record { base = []; path = [] } ∷ []) []) x.path
    parts_call x (inl (inl e)) = subst (λ (y : Part). Calls (IsHeld [] (record { base = []; path = [] } ∷ []) []) y.path) (sym e) calls_first
    parts_call x (inl (inr i)) = absurd i
    parts_call x (inr i) = absurd i

-- ---- any steps

by_step : (m : Machine) (left : List (List Stored)) (b : List Choice) (p q later : List Stored) (parts spent : List Part) (issued notes : List (List Choice))
    → Holds m left (record { base = b; path = p } ∷ parts) spent issued notes → IsLeftBy p q → IsFull m q → step_above (length b) q ≡ Some later → Steps q later
    → Holds m (q ∷ left) (record { base = b; path = later } ∷ parts) spent issued notes
unfolding Steps
by_step m left b p q later parts spent issued notes h l full stepped (branch, k, c, s) =
    after_one m left b p q parts spent issued notes h l full later stepped branch k c s (branch, k, c, s)

pub holds : (m : Machine) (left : List (List Stored)) (parts spent : List Part) (issued notes : List (List Choice)) → Spread m left parts spent issued notes → Holds m left parts spent issued notes
holds m _ _ _ _ _ begin = at_first m
holds m left _ spent issued notes (turn _ front back q _ _ _ d) = after_turn m left front back q spent issued notes (holds m left (front ++ q ∷ back) spent issued notes d)
holds m _ _ spent issued notes (one_run left b p q later parts _ _ _ d l full s) =
    by_step m left b p q later parts spent issued notes (holds m left (record { base = b; path = p } ∷ parts) spent issued notes d) l full s (steps_above (length b) q later s)
holds m _ parts _ issued notes (last_run left b p q _ spent _ _ d l full s) =
    after_last m left b p q parts spent issued notes (holds m left (record { base = b; path = p } ∷ parts) spent issued notes d) l full s
holds m left _ spent _ _ (raise _ b p n parts _ issued notes taken opened d at t u) =
    after_raise m left b p n parts spent issued notes taken opened (holds m left (record { base = b; path = p } ∷ parts) spent issued notes d) at t u
holds m left parts spent issued _ (note _ k _ _ _ notes d) = after_note m left k parts spent issued notes (holds m left parts spent issued notes d)
holds m left _ spent _ less (hand_out _ source before n o parts _ issued notes _ d is low at ex pe i unissued without) =
    let h = holds m left parts spent issued notes d in
    after_out m left source before o (branch_off (length before) o source.path) parts spent issued notes less h is low unissued without
    (branch_full m left source before n parts spent issued notes h is at o ex pe) (branch_choices source.path before n o at) (branch_calls m left source before n parts spent issued notes h is at o ex pe)
holds m left _ spent _ less (hand_out_value _ source before n next parts _ issued notes _ d is low at value made rest i unissued without) =
    let h = holds m left parts spent issued notes d in
    after_out m left source before next.present (end_with (length before) next source.path) parts spent issued notes less h is low unissued without
    (end_full m left source before n parts spent issued notes h is at next value made rest) (end_law m source.path before n next (h.kept source is).full.resting at made rest).1
    (end_calls m left source before n parts spent issued notes h is at next value made rest)
holds m left parts spent issued less (drop_note _ k _ _ _ notes _ d i without) = after_drop m left k parts spent issued notes less (holds m left parts spent issued notes d) i without

-- ---- when no part is left

none_next : (left : List (List Stored)) (k : List Choice) → IsBegun left [] k → WasMade left k
none_next left k (was_made x i g) = (x, i, g)
none_next left k (comes_next y i g) = absurd i

none_held : (left : List (List Stored)) (k : List Choice) → IsHeld left [] [] k → WasMade left k
none_held left k (is_begun g) = none_next left k g
none_held left k (is_open y before f n o i at ex pe base split) = absurd i
none_held left k (is_noted i) = absurd i

pub all_tried : (m : Machine) (left : List (List Stored)) (spent : List Part) (issued : List (List Choice)) → Holds m left [] spent issued [] → AreTried left
all_tried m left spent issued h = record {
  some = (let z = none_next left [] h.begun in (z.0, z.1));
  rests = λ q i before n at. (h.full q i).resting.rest before n at;
  tried = λ q i before n o at ex t. none_held left (before ++ o ∷ []) (h.runs_call q i before n o at ex t);
}
