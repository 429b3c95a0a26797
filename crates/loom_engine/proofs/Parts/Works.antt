-- A program's search is a search in parts.
use Rattle.std.proofs.Common.{◌≡◌, ◌⊎◌, ◌↔◌, ◌≤◌, suc, true, List, [], ◌∷◌, ◌++◌, map, length, Some, None, refl, ap, sym, ◌∙◌, subst, inl, inr, arith, append-nil, length-append, false, append_assoc, take}
use Rattle.loom_objects.specs.declared.choice.Choice.{Choice}
use Rattle.loom_objects.specs.Tree.Question.{Made}
use Rattle.loom_engine.specs.Walk.Machine.{Machine, run, is_thread}
use Rattle.loom_engine.specs.Walk.Sound.{IsMachine}
use Rattle.loom_engine.specs.Walk.Path.{Pending, Stored, choices, node_at, IsAtRest, IsResting, choose, after_run, next}
use Rattle.loom_engine.specs.Walk.Walks.{run_of}
use Rattle.loom_engine.specs.Walk.Lists.{Member, IsOnce}
use Rattle.loom_engine.specs.Walk.Runs.{Reachable}
use Rattle.loom_engine.proofs.Walk.Lists.{node_chooses, snoc_append}
use Rattle.loom_engine.proofs.Walk.Statuses.{Chosen, was_present, is_next, is_other, chosen_cases}
use Rattle.loom_engine.proofs.Walk.After.{IsAfter, after_run_is}
use Rattle.loom_engine.proofs.Walk.Resting.{after_resting}
use Rattle.loom_engine.proofs.Walk.Stepping.{Steps}
use Rattle.loom_engine.proofs.Walk.Left.{next_resting}
use Rattle.loom_engine.proofs.Walk.Round.{fresh_law}
use Rattle.loom_engine.specs.Parts.Cuts.{Part, IsIn, IsBelow, IsPart, IsTried, AreNotes, AreTaken, AreOpen, IsWithout, Search}
use Rattle.loom_engine.specs.Parts.Cuts as cuts
use Rattle.loom_engine.specs.Parts.Floors.{seal_to, step_above, if_sealed, branch_off, end_with}
use Rattle.loom_engine.specs.Parts.Works.{view, IsNotedIn, Gathers, Work, begin, turn, one_run, last_run, raise, hand_out, hand_out_value, drop_note, WorkLaw}
use Rattle.loom_engine.proofs.Parts.Lists.{LastOption, is_last, is_before, last_option, turned, in_front, in_back}
use Rattle.loom_engine.proofs.Parts.Search.{search_holds, search_law}
use Rattle.loom_engine.proofs.Parts.Floors.{to_choices, floor_law, part_law, raise_law, branch_law, BranchPlace, at_branch, on_branch, branch_place, end_law, EndPlace, at_end, on_way, end_place}
use Rattle.loom_engine.proofs.Parts.Lows.{InOrder, more_issued, low_same, steps_above, below_length, noted_same, notes_are, order_after, order_taken}

record Goes (m : Machine) (made : List (List Choice)) (parts spent : List Part) (issued notes : List (List Choice)) : Type 0 where
  search : Search m made (map view parts) issued notes
  order : (q : Part) → IsIn q parts → InOrder m q.base q.path issued notes
  done : (q : Part) → IsIn q spent → InOrder m q.base q.path issued notes

path_length : (p : List Stored) → length (choices p) ≡ length p
path_length [] = refl
path_length (n ∷ p) = ap suc (path_length p)

no_shorter : (m : Machine) (b : List Choice) (p : List Stored) (issued notes : List (List Choice)) → InOrder m b p issued notes → length b ≤ length p
no_shorter m b p issued notes h =
    let y = h.begins in
    let l : length (choices p) ≡ length (b ++ y.0) = ap length y.1 in
    omega (arith, l, path_length p, length-append b y.0)

views_join : (front back : List Part) → map view (front ++ back) ≡ map view front ++ map view back
views_join [] back = refl
views_join (q ∷ front) back = ap (λ t. view q ∷ t) (views_join front back)

first_goes : (m : Machine) → IsMachine m → Goes m [] (record { base = []; path = [] } ∷ []) [] [] []
unfolding node_at
first_goes m w = record { search = cuts.begin; order = order; done = λ q i. absurd i }
  where
    first : InOrder m [] [] [] []
    first = record {
      resting = (fresh_law m w).0;
      begins = ([], refl);
      tried = λ before n o low at. absurd (cc at);
      noted = λ k i. (let z = i.stands in absurd (cc z));
    }

    order : (q : Part) → IsIn q (record { base = []; path = [] } ∷ []) → InOrder m q.base q.path [] []
    order q (inl e) = subst (λ (y : Part). InOrder m y.base y.path [] []) (sym e) first
    order q (inr i) = absurd i

-- a run of the first part
module _ (m : Machine) (w : IsMachine m) (made : List (List Choice)) (b : List Choice) (p : List Stored) (parts spent : List Part) (issued notes more : List (List Choice))
    (h : Goes m made (record { base = b; path = p } ∷ parts) spent issued notes) (gathers : Gathers b (after_run m p) issued notes more) where
  here : InOrder m b p issued notes
  here = h.order (record { base = b; path = p }) (inl refl)

  a : IsAfter m p (after_run m p) (run_of m p)
  a = after_run_is m w p

  rest : IsResting m (after_run m p)
  rest = after_resting m w p (after_run m p) (run_of m p) here.resting a

  same_run : run_of m (seal_to (length b) p) ≡ run_of m p
  same_run = ap (run m) (to_choices (length b) p)

  list : AreNotes m b (run_of m (seal_to (length b) p)) issued notes more
  list = subst (λ r. AreNotes m b r issued notes more) (sym same_run) (notes_are m w b p issued notes here (after_run m p) (run_of m p) a rest more gathers)

  ordered : InOrder m b (after_run m p) issued more
  ordered = order_after m w b p issued notes here (after_run m p) (run_of m p) a rest more gathers

  others : (q : Part) → InOrder m q.base q.path issued notes → InOrder m q.base q.path issued more
  others q o = more_issued m q.base q.path issued notes issued more o (λ k j. j) (λ k j. elim (gathers.old k j) [ inl i ↦ inr i | inr i ↦ inl i ])

  sealed_next : next m (seal_to (length b) p) ≡ if_sealed (length b) (step_above (length b) (after_run m p))
  sealed_next = floor_law m (length b) p (no_shorter m b p issued notes here)

  one_goes : (q : List Stored) → step_above (length b) (after_run m p) ≡ Some q → Goes m (run_of m p ∷ made) (record { base = b; path = q } ∷ parts) spent issued more
  unfolding Steps
  one_goes q s = record { search = search; order = order; done = λ x i. others x (h.done x i) }
    where
      search : Search m (run_of m p ∷ made) (record { base = b; path = seal_to (length b) q } ∷ map view parts) issued more
      search =
          subst (λ r. Search m (r ∷ made) (record { base = b; path = seal_to (length b) q } ∷ map view parts) issued more) same_run
          (cuts.one_run made b (seal_to (length b) p) (seal_to (length b) q) (map view parts) issued notes more h.search (sealed_next ∙ ap (if_sealed (length b)) s) list)

      begins : (e : List Choice) × (choices q ≡ b ++ e)
      begins =
          let z = ((search_holds m (run_of m p ∷ made) (record { base = b; path = seal_to (length b) q } ∷ map view parts) issued more w search).kept (record { base = b; path = seal_to (length b) q }) (inl refl)).part.begins in
          (z.0, sym (to_choices (length b) q) ∙ z.1)

      low : (before : List Choice) → IsBelow before b → node_at q before ≡ node_at (after_run m p) before
      low before l = low_same (length b) (after_run m p) q s before (below_length before b l)

      resting : Steps (after_run m p) q → IsResting m q
      resting (branch, n, o, t) = next_resting m w p (after_run m p) (run_of m p) a rest q branch n o t

      first : InOrder m b q issued more
      first = record {
        resting = resting (steps_above (length b) (after_run m p) q s);
        begins = begins;
        tried = λ before n o l at th t. ordered.tried before n o l (sym (low before l) ∙ at) th t;
        noted = λ k i. ordered.noted k (noted_same b (after_run m p) q low k i);
      }

      order : (x : Part) → IsIn x (record { base = b; path = q } ∷ parts) → InOrder m x.base x.path issued more
      order x (inl e) = subst (λ (y : Part). InOrder m y.base y.path issued more) (sym e) first
      order x (inr i) = others x (h.order x (inr i))

  last_goes : step_above (length b) (after_run m p) ≡ None → Goes m (run_of m p ∷ made) parts (record { base = b; path = take (length b) (after_run m p) } ∷ spent) issued more
  last_goes s = record { search = search; order = λ x i. others x (h.order x (inr i)); done = done }
    where
      search : Search m (run_of m p ∷ made) (map view parts) issued more
      search =
          subst (λ r. Search m (r ∷ made) (map view parts) issued more) same_run
          (cuts.last_run made b (seal_to (length b) p) (map view parts) issued notes more h.search (sealed_next ∙ ap (if_sealed (length b)) s) list)

      done : (x : Part) → IsIn x (record { base = b; path = take (length b) (after_run m p) } ∷ spent) → InOrder m x.base x.path issued more
      done x (inl e) = subst (λ (y : Part). InOrder m y.base y.path issued more) (sym e) (order_taken m b (after_run m p) issued more ordered)
      done x (inr i) = others x (h.done x i)

raise_goes : (m : Machine) (made : List (List Choice)) (b : List Choice) (p : List Stored) (n : Stored) (parts spent : List Part) (issued notes taken opened : List (List Choice))
    → Goes m made (record { base = b; path = p } ∷ parts) spent issued notes → node_at p b ≡ Some n → AreTaken b n taken → AreOpen b n opened
    → Goes m made (record { base = b ++ n.present ∷ []; path = p } ∷ parts) spent (taken ++ issued) (opened ++ notes)
raise_goes m made b p n parts spent issued notes taken opened h at t u = record { search = search; order = order; done = λ x i. others x (h.done x i) }
  where
    here : InOrder m b p issued notes
    here = h.order (record { base = b; path = p }) (inl refl)

    one_more : length (b ++ n.present ∷ []) ≡ suc (length b)
    one_more = omega (arith, length-append b (n.present ∷ []))

    search : Search m made (record { base = b ++ n.present ∷ []; path = seal_to (length (b ++ n.present ∷ [])) p } ∷ map view parts) (taken ++ issued) (opened ++ notes)
    search =
        subst (λ t. Search m made (record { base = b ++ n.present ∷ []; path = t } ∷ map view parts) (taken ++ issued) (opened ++ notes))
        ((raise_law b p n at).1 ∙ ap (λ k. seal_to k p) (sym one_more))
        (cuts.raise made b (seal_to (length b) p) n (map view parts) issued notes taken opened h.search (raise_law b p n at).0 t u)

    others : (q : Part) → InOrder m q.base q.path issued notes → InOrder m q.base q.path (taken ++ issued) (opened ++ notes)
    others q o = more_issued m q.base q.path issued notes (taken ++ issued) (opened ++ notes) o (λ k j. in_back k taken issued j) (λ k j. inr (in_back k opened notes j))

    raised : InOrder m (b ++ n.present ∷ []) p (taken ++ issued) (opened ++ notes)
    raised = record {
      resting = here.resting;
      begins = let z = node_chooses p b n at in (z.0, z.1 ∙ sym (snoc_append b n.present z.0));
      tried = λ before k o low g th tr. tried before k o g th tr low.0 low.1 (last_option b n.present before low.0 low.1 low.2);
      noted = λ k i. noted k i (last_option b n.present i.before i.low.0 i.low.1 i.low.2);
    }
      where
        tried : (before : List Choice) (k : Stored) (o : Choice) → node_at p before ≡ Some k → is_thread k.made.default ≡ true → IsTried k o → (c : Choice) (e : List Choice) → LastOption b n.present before c e
            → Member (before ++ o ∷ []) (taken ++ issued)
        tried before k o g th tr c e (is_last i j l) =
            let same_node : k ≡ n = cc (g, at, ap (node_at p) i) in
            in_front (before ++ o ∷ []) taken issued ((t (before ++ o ∷ [])).1 (o, ap (λ x. x ++ o ∷ []) i, subst (λ (x : Stored). IsTried x o) same_node tr))
        tried before k o g th tr c e (is_before f i j) = in_back (before ++ o ∷ []) taken issued (here.tried before k o (c, f, i) g th tr)

        noted : (k : List Choice) (i : IsNotedIn (b ++ n.present ∷ []) p k) → LastOption b n.present i.before i.low.0 i.low.1 → Member k (taken ++ issued) ⊎ Member k (opened ++ notes)
        noted k i (is_last f g l) =
            let same_node : i.node ≡ n = cc (i.stands, at, ap (node_at p) f) in
            inr (in_front k opened notes ((u k).1 (
              i.option,
              i.splits ∙ ap (λ x. x ++ i.option ∷ []) f,
              sym (ap (λ (x : Stored). x.made.exploring) same_node) ∙ i.exploring,
              sym (ap (λ (x : Stored). x.status i.option) same_node) ∙ i.pending,
            )))
        noted k i (is_before f g l) =
            elim (here.noted k (record {
              before = i.before;
              option = i.option;
              node = i.node;
              splits = i.splits;
              low = (i.low.0, f, g);
              stands = i.stands;
              exploring = i.exploring;
              thread = i.thread;
              pending = i.pending;
            })) [ inl j ↦ inl (in_back k taken issued j) | inr j ↦ inr (in_back k opened notes j) ]

    order : (x : Part) → IsIn x (record { base = b ++ n.present ∷ []; path = p } ∷ parts) → InOrder m x.base x.path (taken ++ issued) (opened ++ notes)
    order x (inl e) = subst (λ (y : Part). InOrder m y.base y.path (taken ++ issued) (opened ++ notes)) (sym e) raised
    order x (inr i) = others x (h.order x (inr i))

-- an option below the floor of a path becomes a part
module _ (m : Machine) (made : List (List Choice)) (source : Part) (before : List Choice) (n : Stored) (o : Choice) (parts spent : List Part) (issued notes less : List (List Choice))
    (h : Goes m made parts spent issued notes) (known : IsIn source parts ⊎ IsIn source spent) (low : IsBelow before source.base) (at : node_at source.path before ≡ Some n)
    (ex : n.made.exploring ≡ true) (pending : n.status o ≡ Pending) (without : IsWithout (before ++ o ∷ []) notes less) where
  from : InOrder m source.base source.path issued notes
  from = elim known [ inl i ↦ h.order source i | inr i ↦ h.done source i ]

  branched : IsResting m (branch_off (length before) o source.path) × (choices (branch_off (length before) o source.path) ≡ before ++ o ∷ [])
  branched = branch_law m source.path before n o from.resting at ex pending

  older_parts : (q : Part) → InOrder m q.base q.path issued notes → InOrder m q.base q.path ((before ++ o ∷ []) ∷ issued) less
  older_parts q i =
      more_issued m q.base q.path issued notes ((before ++ o ∷ []) ∷ issued) less i (λ k j. inr j) (λ k j. elim ((without k).0 j) [ inl e ↦ inl (inl e) | inr e ↦ inr e ])

  -- the nodes below the new part's floor are below the old one
  lower : (d : List Choice) → IsBelow d (before ++ o ∷ []) → IsBelow d source.base
  lower d (c, e, i) = go (last_option before o d c e i)
    where
      go : LastOption before o d c e → IsBelow d source.base
      go (is_last f g l) = subst (λ t. IsBelow t source.base) (sym f) low
      go (is_before f g l) = (c, f ++ low.0 ∷ low.1, low.2 ∙ ap (λ t. t ++ low.0 ∷ low.1) g ∙ past d c f)
        where
          past : (d : List Choice) (c : Choice) (f : List Choice) → (d ++ c ∷ f) ++ low.0 ∷ low.1 ≡ d ++ c ∷ (f ++ low.0 ∷ low.1)
          past [] c f = refl
          past (x ∷ d) c f = ap (λ t. x ∷ t) (past d c f)

  new : InOrder m (before ++ o ∷ []) (branch_off (length before) o source.path) ((before ++ o ∷ []) ∷ issued) less
  new = record {
    resting = branched.0;
    begins = ([], branched.1 ∙ sym (append-nil (before ++ o ∷ [])));
    tried = λ d y x l g th t. tried d y x l th t (branch_place source.path before n o at d y g);
    noted = λ k i. noted k i (branch_place source.path before n o at i.before i.node i.stands);
  }
    where
      tried : (d : List Choice) (y : Stored) (x : Choice) → IsBelow d (before ++ o ∷ []) → is_thread y.made.default ≡ true → IsTried y x → BranchPlace source.path before n o d y → Member (d ++ x ∷ []) ((before ++ o ∷ []) ∷ issued)
      tried d y x l th t (on_branch g) = inr (from.tried d y x (lower d l) g th t)
      tried d y x l th t (at_branch f g) = go (chosen_cases n o x)
        where
          older : IsTried n x → Member (d ++ x ∷ []) ((before ++ o ∷ []) ∷ issued)
          older u = inr (subst (λ k. Member (k ++ x ∷ []) issued) (sym f) (from.tried before n x low at (sym (ap (λ (z : Stored). is_thread z.made.default) g) ∙ th) u))

          go : Chosen n o x ((choose n o).status x) → Member (d ++ x ∷ []) ((before ++ o ∷ []) ∷ issued)
          go (was_present i j) = older (inl (ap n.status i ∙ (from.resting.rest before n at).active))
          go (is_next i j k) = inl (cc (f, j))
          go (is_other i j k) =
              older (elim t [ inl u ↦ inl (sym k ∙ sym (ap (λ (z : Stored). z.status x) g) ∙ u) | inr u ↦ inr (sym k ∙ sym (ap (λ (z : Stored). z.status x) g) ∙ u) ])

      place : (k : List Choice) → Member k issued ⊎ Member k notes → Member k ((before ++ o ∷ []) ∷ issued) ⊎ Member k less
      place k (inl j) = inl (inr j)
      place k (inr j) = elim ((without k).0 j) [ inl e ↦ inl (inl e) | inr e ↦ inr e ]

      noted : (k : List Choice) (i : IsNotedIn (before ++ o ∷ []) (branch_off (length before) o source.path) k) → BranchPlace source.path before n o i.before i.node
          → Member k ((before ++ o ∷ []) ∷ issued) ⊎ Member k less
      noted k i (on_branch g) =
          place k (from.noted k (record {
            before = i.before;
            option = i.option;
            node = i.node;
            splits = i.splits;
            low = lower i.before i.low;
            stands = g;
            exploring = i.exploring;
            thread = i.thread;
            pending = i.pending;
          }))
      noted k i (at_branch f g) = go (chosen_cases n o i.option)
        where
          stands : (choose n o).status i.option ≡ Pending
          stands = sym (ap (λ (z : Stored). z.status i.option) g) ∙ i.pending

          go : Chosen n o i.option ((choose n o).status i.option) → Member k ((before ++ o ∷ []) ∷ issued) ⊎ Member k less
          go (was_present u v) = absurd (cc (stands, v))
          go (is_next u v x) = absurd (cc (stands, x))
          go (is_other u v x) =
              place k (from.noted k (record {
                before = before;
                option = i.option;
                node = n;
                splits = i.splits ∙ ap (λ t. t ++ i.option ∷ []) f;
                low = low;
                stands = at;
                exploring = ex;
                thread = sym (ap (λ (z : Stored). is_thread z.made.default) g) ∙ i.thread;
                pending = sym x ∙ stands;
              }))

  hand_goes : Member (before ++ o ∷ []) notes → (Member (before ++ o ∷ []) issued → ⊥)
      → Goes m made (record { base = before ++ o ∷ []; path = branch_off (length before) o source.path } ∷ parts) spent ((before ++ o ∷ []) ∷ issued) less
  hand_goes is_note unissued = record { search = search; order = order; done = λ x i. older_parts x (h.done x i) }
    where
      part : IsPart m (before ++ o ∷ []) (seal_to (length (before ++ o ∷ [])) (branch_off (length before) o source.path))
      part = part_law m (before ++ o ∷ []) [] (branch_off (length before) o source.path) branched.0 (branched.1 ∙ sym (append-nil (before ++ o ∷ [])))

      search : Search m made (record { base = before ++ o ∷ []; path = seal_to (length (before ++ o ∷ [])) (branch_off (length before) o source.path) } ∷ map view parts) ((before ++ o ∷ []) ∷ issued) less
      search =
          cuts.hand_out made (before ++ o ∷ []) (seal_to (length (before ++ o ∷ [])) (branch_off (length before) o source.path)) (map view parts) issued notes less h.search is_note unissued part
          (to_choices (length (before ++ o ∷ [])) (branch_off (length before) o source.path) ∙ branched.1) without

      order : (x : Part) → IsIn x (record { base = before ++ o ∷ []; path = branch_off (length before) o source.path } ∷ parts) → InOrder m x.base x.path ((before ++ o ∷ []) ∷ issued) less
      order x (inl e) = subst (λ (y : Part). InOrder m y.base y.path ((before ++ o ∷ []) ∷ issued) less) (sym e) new
      order x (inr i) = older_parts x (h.order x i)

-- and one of a load or a spurious wake-up
below_lower : (before b : List Choice) (o : Choice) → IsBelow before b → (d : List Choice) → IsBelow d (before ++ o ∷ []) → IsBelow d b
below_lower before b o low d (c, e, i) = go (last_option before o d c e i)
  where
    go : LastOption before o d c e → IsBelow d b
    go (is_last f g l) = subst (λ t. IsBelow t b) (sym f) low
    go (is_before f g l) = (c, f ++ low.0 ∷ low.1, low.2 ∙ ap (λ t. t ++ low.0 ∷ low.1) g ∙ append_assoc d (c ∷ f) (low.0 ∷ low.1))

module _ (m : Machine) (made : List (List Choice)) (source : Part) (before : List Choice) (n next : Stored) (parts spent : List Part) (issued notes less : List (List Choice))
    (h : Goes m made parts spent issued notes) (known : IsIn source parts ⊎ IsIn source spent) (low : IsBelow before source.base) (at : node_at source.path before ≡ Some n)
    (value : is_thread n.made.default ≡ false) (alike : next.made ≡ n.made) (well : IsAtRest next) (without : IsWithout (before ++ next.present ∷ []) notes less) where
  comes_from : InOrder m source.base source.path issued notes
  comes_from = elim known [ inl i ↦ h.order source i | inr i ↦ h.done source i ]

  ended : IsResting m (end_with (length before) next source.path) × (choices (end_with (length before) next source.path) ≡ before ++ next.present ∷ [])
  ended = end_law m source.path before n next comes_from.resting at alike well

  others_keep : (q : Part) → InOrder m q.base q.path issued notes → InOrder m q.base q.path ((before ++ next.present ∷ []) ∷ issued) less
  others_keep q i =
      more_issued m q.base q.path issued notes ((before ++ next.present ∷ []) ∷ issued) less i (λ k j. inr j) (λ k j. elim ((without k).0 j) [ inl e ↦ inl (inl e) | inr e ↦ inr e ])

  no_thread : (y : Stored) → y ≡ next → is_thread y.made.default ≡ true → ⊥
  no_thread y f th = let e = ap (λ (z : Stored). is_thread z.made.default) f ∙ ap (λ (z : Made). is_thread z.default) alike ∙ value in cc (th, e)

  new_value : InOrder m (before ++ next.present ∷ []) (end_with (length before) next source.path) ((before ++ next.present ∷ []) ∷ issued) less
  new_value = record {
    resting = ended.0;
    begins = ([], ended.1 ∙ sym (append-nil (before ++ next.present ∷ [])));
    tried = λ d y x l g th t. tried d y x l th t (end_place source.path before n next at d y g);
    noted = λ k i. noted k i (end_place source.path before n next at i.before i.node i.stands);
  }
    where
      tried : (d : List Choice) (y : Stored) (x : Choice) → IsBelow d (before ++ next.present ∷ []) → is_thread y.made.default ≡ true → IsTried y x → EndPlace source.path before next d y
          → Member (d ++ x ∷ []) ((before ++ next.present ∷ []) ∷ issued)
      tried d y x l th t (at_end f g) = absurd (no_thread y g th)
      tried d y x l th t (on_way g) = inr (comes_from.tried d y x (below_lower before source.base next.present low d l) g th t)

      place : (k : List Choice) → Member k issued ⊎ Member k notes → Member k ((before ++ next.present ∷ []) ∷ issued) ⊎ Member k less
      place k (inl j) = inl (inr j)
      place k (inr j) = elim ((without k).0 j) [ inl e ↦ inl (inl e) | inr e ↦ inr e ]

      noted : (k : List Choice) (i : IsNotedIn (before ++ next.present ∷ []) (end_with (length before) next source.path) k) → EndPlace source.path before next i.before i.node
          → Member k ((before ++ next.present ∷ []) ∷ issued) ⊎ Member k less
      noted k i (at_end f g) = (let th = i.thread in absurd (no_thread i.node g th))
      noted k i (on_way g) =
          place k (comes_from.noted k (record {
            before = i.before;
            option = i.option;
            node = i.node;
            splits = i.splits;
            low = below_lower before source.base next.present low i.before i.low;
            stands = g;
            exploring = i.exploring;
            thread = i.thread;
            pending = i.pending;
          }))

  value_goes : Member (before ++ next.present ∷ []) notes → (Member (before ++ next.present ∷ []) issued → ⊥)
      → Goes m made (record { base = before ++ next.present ∷ []; path = end_with (length before) next source.path } ∷ parts) spent ((before ++ next.present ∷ []) ∷ issued) less
  value_goes is_note unissued = record { search = search; order = order; done = λ x i. others_keep x (h.done x i) }
    where
      part : IsPart m (before ++ next.present ∷ []) (seal_to (length (before ++ next.present ∷ [])) (end_with (length before) next source.path))
      part = part_law m (before ++ next.present ∷ []) [] (end_with (length before) next source.path) ended.0 (ended.1 ∙ sym (append-nil (before ++ next.present ∷ [])))

      search : Search m made (record { base = before ++ next.present ∷ []; path = seal_to (length (before ++ next.present ∷ [])) (end_with (length before) next source.path) } ∷ map view parts) ((before ++ next.present ∷ []) ∷ issued) less
      search =
          cuts.hand_out made (before ++ next.present ∷ []) (seal_to (length (before ++ next.present ∷ [])) (end_with (length before) next source.path)) (map view parts) issued notes less h.search is_note unissued part
          (to_choices (length (before ++ next.present ∷ [])) (end_with (length before) next source.path) ∙ ended.1) without

      order : (x : Part) → IsIn x (record { base = before ++ next.present ∷ []; path = end_with (length before) next source.path } ∷ parts) → InOrder m x.base x.path ((before ++ next.present ∷ []) ∷ issued) less
      order x (inl e) = subst (λ (y : Part). InOrder m y.base y.path ((before ++ next.present ∷ []) ∷ issued) less) (sym e) new_value
      order x (inr i) = others_keep x (h.order x i)

drop_goes : (m : Machine) (made : List (List Choice)) (k : List Choice) (parts spent : List Part) (issued notes less : List (List Choice)) → Goes m made parts spent issued notes → Member k issued
    → IsWithout k notes less → Goes m made parts spent issued less
drop_goes m made k parts spent issued notes less h i without = record {
  search = cuts.drop_note made k (map view parts) issued notes less h.search i without;
  order = λ x j. others x (h.order x j);
  done = λ x j. others x (h.done x j);
}
  where
    others : (q : Part) → InOrder m q.base q.path issued notes → InOrder m q.base q.path issued less
    others q o = more_issued m q.base q.path issued notes issued less o (λ j l. l) (λ j l. elim ((without j).0 l) [ inl e ↦ inl (subst (λ t. Member t issued) (sym e) i) | inr e ↦ inr e ])

turn_goes : (m : Machine) (made : List (List Choice)) (front back : List Part) (q : Part) (spent : List Part) (issued notes : List (List Choice)) → Goes m made (front ++ q ∷ back) spent issued notes
    → Goes m made (q ∷ front ++ back) spent issued notes
turn_goes m made front back q spent issued notes h = record {
  search = subst (λ t. Search m made (view q ∷ t) issued notes) (sym (views_join front back))
      (cuts.turn made (map view front) (map view back) (view q) issued notes (subst (λ t. Search m made t issued notes) (views_join front (q ∷ back)) h.search));
  order = λ x i. h.order x (turned x q front back i);
  done = h.done;
}

goes : (m : Machine) (made : List (List Choice)) (parts spent : List Part) (issued notes : List (List Choice)) → IsMachine m → Work m made parts spent issued notes
    → Goes m made parts spent issued notes
goes m made parts spent issued notes w begin = first_goes m w
goes m made parts spent issued notes w (turn _ front back q _ _ _ s) = turn_goes m made front back q spent issued notes (goes m made (front ++ q ∷ back) spent issued notes w s)
goes m made parts spent issued notes w (one_run made' b p q parts' _ _ notes' _ s t g) =
    one_goes m w made' b p parts' spent issued notes' notes (goes m made' (record { base = b; path = p } ∷ parts') spent issued notes' w s) g q t
goes m made parts spent issued notes w (last_run made' b p _ spent' _ notes' _ s t g) =
    last_goes m w made' b p parts spent' issued notes' notes (goes m made' (record { base = b; path = p } ∷ parts) spent' issued notes' w s) g t
goes m made parts spent issued notes w (raise _ b p n parts' _ issued' notes' taken opened s at t u) =
    raise_goes m made b p n parts' spent issued' notes' taken opened (goes m made (record { base = b; path = p } ∷ parts') spent issued' notes' w s) at t u
goes m made parts spent issued notes w (hand_out _ source before n o parts' _ issued' notes' _ s known low at ex pending is_note unissued without) =
    hand_goes m made source before n o parts' spent issued' notes' notes (goes m made parts' spent issued' notes' w s) known low at ex pending without is_note unissued
goes m made parts spent issued notes w (hand_out_value _ source before n next parts' _ issued' notes' _ s known low at value alike well is_note unissued without) =
    value_goes m made source before n next parts' spent issued' notes' notes (goes m made parts' spent issued' notes' w s) known low at value alike well without is_note unissued
goes m made parts spent issued notes w (drop_note _ k _ _ _ notes' _ s i without) =
    drop_goes m made k parts spent issued notes' notes (goes m made parts spent issued notes' w s) i without

pub work_law : WorkLaw
work_law m made parts spent issued notes w s =
    (search, law.0, law.1, λ e f. law.2 (ap (map view) e) f)
  where
    search : Search m made (map view parts) issued notes
    search = (goes m made parts spent issued notes w s).search

    law : IsOnce made × ((x : List Choice) → Member x made → Reachable m x) × (map view parts ≡ [] → notes ≡ [] → (x : List Choice) → Reachable m x ↔ Member x made)
    law = search_law m made (map view parts) issued notes w search

-- what holds below the floor of each part's path
pub order_of : (m : Machine) (made : List (List Choice)) (parts spent : List Part) (issued notes : List (List Choice)) → IsMachine m → Work m made parts spent issued notes
    → (q : Part) → IsIn q parts → InOrder m q.base q.path issued notes
order_of m made parts spent issued notes w s q i = (goes m made parts spent issued notes w s).order q i

pub done_order : (m : Machine) (made : List (List Choice)) (parts spent : List Part) (issued notes : List (List Choice)) → IsMachine m → Work m made parts spent issued notes
    → (q : Part) → IsIn q spent → InOrder m q.base q.path issued notes
done_order m made parts spent issued notes w s q i = (goes m made parts spent issued notes w s).done q i
