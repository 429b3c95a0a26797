-- What is left to be done from a path is what is left from it when its run is over.
use Rattle.std.proofs.Common.{◌≡◌, ◌≢◌, ◌⊎◌, Bool, true, false, cond, ◌&&◌, List, [], ◌∷◌, ◌++◌, length, Some, ap, sym, ◌∙◌, subst, inl, inr}
use Rattle.loom_objects.specs.declared.choice.Choice.{Choice}
use Rattle.loom_objects.specs.Tree.Question.{Made, Among}
use Rattle.loom_engine.specs.Walk.Machine.{Machine, run}
use Rattle.loom_engine.specs.Walk.Sound.{IsMachine}
use Rattle.loom_engine.specs.Walk.Runs.{Alternative}
use Rattle.loom_engine.specs.Walk.Path.{Status, Closed, Skip, Pending, Active, Visited, Stored, choices, IsAtRest, IsResting, IsBarred, IsLeftOut, node_at, first_status, mark_status, mark, Rest, by_path, by_pending, by_alternative}
use Rattle.loom_engine.proofs.Walk.Lists.{node_chooses}
use Rattle.loom_engine.proofs.Walk.Defaults.{over, run_is, ends_over, one_default}
use Rattle.loom_engine.proofs.Walk.Statuses.{both_true, kept_pending, was_pending, FirstStatus, is_default, is_pending, is_skipped, is_closed, fresh_cases, left_out, left_out_is, left_out_or_not}
use Rattle.loom_engine.proofs.Walk.After.{IsNodeAfter, was_there, is_new, IsAfter}

unmark_barred : (m : Machine) (b : Bool) (s : Status) → IsBarred m (mark_status (m.reduce && b) s) → IsBarred m s
unmark_barred m b Closed h = h
unmark_barred m b Skip h = go m.reduce b h
  where
    go : (a b : Bool) → IsBarred m (cond (a && b) Pending Skip) → m.reduce ≡ false
    go true true h = absurd h
    go true false h = h
    go false b h = h
unmark_barred m b Pending h = h
unmark_barred m b Active h = h
unmark_barred m b Visited h = h

mark_barred : (m : Machine) (b : Bool) (s : Status) → IsBarred m s → IsBarred m (mark_status (m.reduce && b) s)
mark_barred m b Closed h = h
mark_barred m b Skip h = go m.reduce h
  where
    go : (a : Bool) → a ≡ false → IsBarred m (cond (a && b) Pending Skip)
    go true e = absurd (cc e)
    go false e = h
mark_barred m b Pending h = h
mark_barred m b Active h = h
mark_barred m b Visited h = h

-- the run of the path that is over is the same run
pub same_run : (m : Machine) → IsMachine m → (p q : List Stored) (r : List Choice) → IsAfter m p q r → run m (choices q) ≡ run m (choices p)
same_run m w p q r a =
    ap (run m) a.whole ∙ run_is m w r r (over r (ends_over m (choices p) r a.run)) ∙ sym (run_is m w (choices p) r a.run)

pub own_run : (m : Machine) → IsMachine m → (p q : List Stored) (r : List Choice) → IsAfter m p q r → Rest m p r
own_run m w p q r a = subst (Rest m p) (run_is m w (choices p) r a.run) by_path

-- a new node leaves out only what its own run chose
new_barred : (m : Machine) (s before : List Choice) (o : Choice) (b : Bool) (made : Made) (t : Status) → Alternative m s before o → FirstStatus (m.every before) made o t
    → IsBarred m (mark_status (m.reduce && b) t) → o ≡ made.default
new_barred m s before o b made t alt (is_default e f) l = e
new_barred m s before o b made t alt (is_pending nd am ev f) l = absurd (subst (λ u. IsBarred m u) f (unmark_barred m b t l))
new_barred m s before o b made t alt (is_skipped nd am ev f) l = absurd (go alt.called)
  where
    not_reduced : m.reduce ≡ false
    not_reduced = subst (λ u. IsBarred m u) f (unmark_barred m b t l)

    go : ((m.every before ≡ true) ⊎ ((m.reduce ≡ true) × (m.marks s (length before) o ≡ true) × (o ≢ alt.made.default))) → ⊥
    go (inl e) = cc (e, ev)
    go (inr e) = cc (e.0, not_reduced)
new_barred m s before o b made t alt (is_closed nd na f) l = absurd (subst (λ u. IsBarred m u) f (unmark_barred m b t l))

alternative_after : (m : Machine) → IsMachine m → (p q : List Stored) (r : List Choice) → IsAfter m p q r
    → (s before : List Choice) (o : Choice) → Rest m q s → Alternative m s before o → (IsLeftOut m p before o → ⊥) → Rest m q (run m (before ++ o ∷ []))
alternative_after m w p q r a s before o d alt out = go (left_out_or_not m q before o)
  where
    at : (x : Stored) → IsBarred m (x.status o) → IsNodeAfter m p r before x → Rest m q (run m (before ++ o ∷ []))
    at x l (was_there n g f) =
        absurd (out (left_out m p before o n g (unmark_barred m (m.marks r (length before) o) (n.status o) (subst (λ (y : Stored). IsBarred m (y.status o)) f l))))
    at x l (is_new made g met f dr) =
        let e : o ≡ made.default = new_barred m s before o (m.marks r (length before) o) made (first_status (m.every before) made o) alt (fresh_cases (m.every before) made o)
        (subst (λ (y : Stored). IsBarred m (y.status o)) f l) in
        let same : run m (before ++ o ∷ []) ≡ r = ap (λ u. run m (before ++ u ∷ [])) e ∙ run_is m w (before ++ made.default ∷ []) r (one_default m before r made dr met) in
        subst (Rest m q) (same_run m w p q r a ∙ run_is m w (choices p) r a.run ∙ sym same) by_path

    go : Dec (IsLeftOut m q before o) → Rest m q (run m (before ++ o ∷ []))
    go (no f) = by_alternative s before o d alt f
    go (yes l) = let z = left_out_is m q before o l in at z.0 z.2 (a.each before z.0 z.1)

pub rest_after : (m : Machine) → IsMachine m → (p q : List Stored) (r : List Choice) → IsAfter m p q r → (x : List Choice) → Rest m p x → Rest m q x
rest_after m w p q r a x by_path = subst (Rest m q) (same_run m w p q r a) by_path
rest_after m w p q r a x (by_pending before n o h e s) = by_pending before (mark m r (length before) n) o (a.kept before n h) e (kept_pending (m.reduce && m.marks r (length before) o) (n.status o) s)
rest_after m w p q r a x (by_alternative s before o d alt out) = alternative_after m w p q r a s before o (rest_after m w p q r a s d) alt out

-- an option that the run's marks or a new node made pending is an alternative of the run
found_by_run : (m : Machine) → IsMachine m → (p q : List Stored) (r : List Choice) → IsResting m p → IsAfter m p q r
    → (before : List Choice) (x : Stored) (o : Choice) → node_at q before ≡ Some x → x.made.exploring ≡ true → x.status o ≡ Pending → Rest m p (run m (before ++ o ∷ []))
found_by_run m w p q r rest a before x o h ex pending = go (a.each before x h)
  where
    at : (after : List Choice) × (choices q ≡ before ++ x.present ∷ after)
    at = node_chooses q before x h

    splits : r ≡ before ++ x.present ∷ at.0
    splits = sym a.whole ∙ at.1

    go : IsNodeAfter m p r before x → Rest m p (run m (before ++ o ∷ []))
    go (was_there n g f) = old (was_pending (m.reduce && m.marks r (length before) o) (n.status o) (sym (ap (λ (y : Stored). y.status o) f) ∙ pending))
      where
        made_same : x.made ≡ n.made
        made_same = ap (λ (y : Stored). y.made) f

        explores : n.made.exploring ≡ true
        explores = sym (ap (λ (y : Made). y.exploring) made_same) ∙ ex

        present_same : x.present ≡ n.present
        present_same = ap (λ (y : Stored). y.present) f

        node : IsAtRest n
        node = rest.rest before n g

        not_default : n.status o ≡ Skip → o ≡ n.made.default → ⊥
        not_default s e = elim node.default [ inl d ↦ cc (s, d, ap n.status e) | inr d ↦ cc (s, d, ap n.status e) ]

        old : ((n.status o ≡ Pending) ⊎ ((n.status o ≡ Skip) × ((m.reduce && m.marks r (length before) o) ≡ true))) → Rest m p (run m (before ++ o ∷ []))
        old (inl s) = by_pending before n o g explores s
        old (inr s) =
            let b = both_true m.reduce (m.marks r (length before) o) s.1 in
            by_alternative r before o (own_run m w p q r a)
            (record {
              chosen = x.present;
              after = at.0;
              made = n.made;
              splits = splits;
              met = rest.meets before n g;
              exploring = explores;
              option = node.closed o (λ e. cc (s.0, e));
              other = λ e. cc (s.0, node.active, ap n.status (e ∙ present_same));
              called = inr (b.0, b.1, not_default s.0);
            })
            (λ l. let z = left_out_is m p before o l in
            let same_node : n ≡ z.0 = cc (g, z.1) in
            let bar : m.reduce ≡ false = subst (λ u. IsBarred m u) s.0 (subst (λ (y : Stored). IsBarred m (y.status o)) (sym same_node) z.2) in
            cc (bar, b.0))
    go (is_new made g met f dr) = new (was_pending (m.reduce && m.marks r (length before) o) (first_status (m.every before) made o) (sym (ap (λ (y : Stored). y.status o) f) ∙ pending)) (fresh_cases (m.every before) made o)
      where
        explores : made.exploring ≡ true
        explores = sym (ap (λ (y : Stored). y.made.exploring) f) ∙ ex

        present_same : x.present ≡ made.default
        present_same = ap (λ (y : Stored). y.present) f

        alternative : Among o made.options → (o ≡ made.default → ⊥) → ((m.every before ≡ true) ⊎ ((m.reduce ≡ true) × (m.marks r (length before) o ≡ true) × (o ≢ made.default)))
            → Rest m p (run m (before ++ o ∷ []))
        alternative am nd called =
            by_alternative r before o (own_run m w p q r a)
            (record {
              chosen = x.present;
              after = at.0;
              made = made;
              splits = splits;
              met = met;
              exploring = explores;
              option = am;
              other = λ e. nd (e ∙ present_same);
              called = called;
            })
            (λ l. let z = left_out_is m p before o l in cc (g, z.1))

        new : ((first_status (m.every before) made o ≡ Pending) ⊎ ((first_status (m.every before) made o ≡ Skip) × ((m.reduce && m.marks r (length before) o) ≡ true)))
            → FirstStatus (m.every before) made o (first_status (m.every before) made o) → Rest m p (run m (before ++ o ∷ []))
        new (inl s) (is_default e t) = absurd (cc (s, t))
        new (inl s) (is_pending nd am ev t) = alternative am nd (inl ev)
        new (inl s) (is_skipped nd am ev t) = absurd (cc (s, t))
        new (inl s) (is_closed nd na t) = absurd (cc (s, t))
        new (inr s) (is_default e t) = absurd (cc (s.0, t))
        new (inr s) (is_pending nd am ev t) = absurd (cc (s.0, t))
        new (inr s) (is_skipped nd am ev t) = let b = both_true m.reduce (m.marks r (length before) o) s.1 in alternative am nd (inr (b.0, b.1, nd))
        new (inr s) (is_closed nd na t) = absurd (cc (s.0, t))

alternative_before : (m : Machine) (p q : List Stored) (r : List Choice) → IsAfter m p q r
    → (s before : List Choice) (o : Choice) → Rest m p s → Alternative m s before o → (IsLeftOut m q before o → ⊥) → Rest m p (run m (before ++ o ∷ []))
alternative_before m p q r a s before o d alt out = go (left_out_or_not m p before o)
  where
    go : Dec (IsLeftOut m p before o) → Rest m p (run m (before ++ o ∷ []))
    go (no f) = by_alternative s before o d alt f
    go (yes l) =
        let z = left_out_is m p before o l in
        absurd (out (left_out m q before o (mark m r (length before) z.0) (a.kept before z.0 z.1) (mark_barred m (m.marks r (length before) o) (z.0.status o) z.2)))

pub rest_before : (m : Machine) → IsMachine m → (p q : List Stored) (r : List Choice) → IsResting m p → IsAfter m p q r → (x : List Choice) → Rest m q x → Rest m p x
rest_before m w p q r rest a x by_path = subst (Rest m p) (sym (same_run m w p q r a)) by_path
rest_before m w p q r rest a x (by_pending before n o h e s) = found_by_run m w p q r rest a before n o h e s
rest_before m w p q r rest a x (by_alternative s before o d alt out) = alternative_before m p q r a s before o (rest_before m w p q r rest a s d) alt out
