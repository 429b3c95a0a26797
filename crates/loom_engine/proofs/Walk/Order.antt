-- In a search that isn't reduced the runs of a walk from a path without nodes are in order.
use Rattle.std.proofs.Common.{◌≡◌, ◌⊎◌, Bool, true, false, ◌&&◌, List, [], ◌∷◌, ◌++◌, length, Some, refl, ap, sym, ◌∙◌, subst, inl, inr, append_assoc}
use Rattle.loom_objects.specs.declared.choice.Choice.{Choice}
use Rattle.loom_objects.specs.Tree.Question.{Made, Among}
use Rattle.loom_engine.specs.Walk.Machine.{Machine, run}
use Rattle.loom_engine.specs.Walk.Sound.{IsMachine}
use Rattle.loom_engine.specs.Walk.Runs.{Alternative}
use Rattle.loom_engine.specs.Walk.Path.{Status, Closed, Skip, Pending, Active, Visited, Stored, choices, IsAtRest, IsResting, IsBarred, IsLeftOut, node_at, next, after_run, first_status, choose, first_pending, Rest, by_path, by_pending, by_alternative}
use Rattle.loom_engine.specs.Walk.Walks.{run_of, Completes, last_round, one_round, LeavesRest, OrderLaw}
use Rattle.loom_engine.specs.Walk.Lists.{Member, Each, StandsBefore, ComesFirst, Precedes, IsInOrder}
use Rattle.loom_engine.proofs.Walk.Lists.{node_chooses, chooses_node, TwoSplits, earlier, same_place, later, two_splits}
use Rattle.loom_engine.proofs.Walk.Defaults.{over, run_is, ends_over}
use Rattle.loom_engine.proofs.Walk.Statuses.{left_out, was_pending, both_true, FirstStatus, is_default, is_pending, is_skipped, is_closed, fresh_cases, Chosen, was_present, is_next, is_other, chosen_cases}
use Rattle.loom_engine.proofs.Walk.After.{IsNodeAfter, was_there, is_new, IsAfter, after_run_is}
use Rattle.loom_engine.proofs.Walk.Resting.{after_resting}
use Rattle.loom_engine.proofs.Walk.Stepping.{IsStep, Steps, step_some}
use Rattle.loom_engine.proofs.Walk.Left.{run_begins_so, next_joined, NextPlace, above_next, at_next, next_place}
use Rattle.loom_engine.proofs.Walk.Round.{round_law, fresh_law}
use Rattle.loom_engine.proofs.Walk.Together.{complete_members, each_of}

-- what is pending at a node comes behind its present choice
pub IsNodeInOrder : Stored → Type 0
IsNodeInOrder n = (o : Choice) → n.status o ≡ Pending → ComesFirst n.made n.present o

pub ArePathInOrder : List Stored → Type 0
ArePathInOrder p = (before : List Choice) (n : Stored) → node_at p before ≡ Some n → (o : Choice) → n.status o ≡ Pending → ComesFirst n.made n.present o

-- a run that is left goes off the path at a node where its option is pending
Leaves : List Stored → List Choice → Type 0
Leaves q x = (before : List Choice) × (b : Choice) × (after : List Choice) × (n : Stored) × (x ≡ before ++ b ∷ after) × (node_at q before ≡ Some n) × (n.status b ≡ Pending)

open_is_pending : (m : Machine) → m.reduce ≡ false → (q : List Stored) → IsResting m q → (s before : List Choice) (o : Choice) (n : Stored) → node_at q before ≡ Some n
    → Alternative m s before o → (IsLeftOut m q before o → ⊥) → n.status o ≡ Pending
open_is_pending m whole q rest s before o n at alt out = go (n.status o) refl
  where
    same_made : alt.made ≡ n.made
    same_made = cc (alt.met, rest.meets before n at)

    bar : (t : Status) → n.status o ≡ t → IsBarred m t → ⊥
    bar t e l = out (left_out m q before o n at (subst (λ u. IsBarred m u) (sym e) l))

    go : (t : Status) → n.status o ≡ t → n.status o ≡ Pending
    go Closed e = absurd ((rest.rest before n at).opened o (subst (λ (u : Made). Among o u.options) same_made alt.option) e)
    go Skip e = absurd (bar Skip e whole)
    go Pending e = e
    go Active e = absurd (bar Active e tt)
    go Visited e = absurd (bar Visited e tt)

pending_leaves : (m : Machine) → IsMachine m → (q : List Stored) (before : List Choice) (o : Choice) (n : Stored) → node_at q before ≡ Some n → n.status o ≡ Pending → Leaves q (run m (before ++ o ∷ []))
unfolding Leaves
pending_leaves m w q before o n at e = let z = run_begins_so m w before o in (before, o, z.0, n, z.1, at, e)

run_or_leaves : (m : Machine) → IsMachine m → m.reduce ≡ false → (p q : List Stored) (r : List Choice) → IsAfter m p q r → IsResting m q → (x : List Choice) → Rest m q x → (x ≡ run m (choices q)) ⊎ Leaves q x
unfolding Leaves
run_or_leaves m w whole p q r a rest x by_path = inl refl
run_or_leaves m w whole p q r a rest x (by_pending before n o at ex e) = inr (pending_leaves m w q before o n at e)
run_or_leaves m w whole p q r a rest x (by_alternative s before o d alt out) = go (run_or_leaves m w whole p q r a rest s d)
  where
    on_path : (more : List Choice) → choices q ≡ before ++ alt.chosen ∷ more → (run m (before ++ o ∷ []) ≡ run m (choices q)) ⊎ Leaves q (run m (before ++ o ∷ []))
    on_path more g =
        let k = chooses_node q before alt.chosen more g in
        inr (pending_leaves m w q before o k.0 k.1 (open_is_pending m whole q rest s before o k.0 k.1 alt out))

    go : ((s ≡ run m (choices q)) ⊎ Leaves q s) → (run m (before ++ o ∷ []) ≡ run m (choices q)) ⊎ Leaves q (run m (before ++ o ∷ []))
    go (inl e) =
        let whole_run : choices q ≡ s = a.whole ∙ sym (e ∙ ap (run m) a.whole ∙ run_is m w r r (over r (ends_over m (choices p) r a.run))) in
        on_path alt.after (whole_run ∙ alt.splits)
    go (inr (b, c, after, n, splits, at, pending)) = place (two_splits before alt.chosen alt.after b c after (sym alt.splits ∙ splits))
      where
        z : (e : List Choice) × (run m (before ++ o ∷ []) ≡ before ++ o ∷ e)
        z = run_begins_so m w before o

        on : (choices_after : List Choice) × (choices q ≡ b ++ n.present ∷ choices_after)
        on = node_chooses q b n at

        place : TwoSplits before alt.chosen alt.after b c after → (run m (before ++ o ∷ []) ≡ run m (choices q)) ⊎ Leaves q (run m (before ++ o ∷ []))
        place (earlier f i j) = on_path (f ++ n.present ∷ on.0) (on.1 ∙ ap (λ u. u ++ n.present ∷ on.0) i ∙ append_assoc before (alt.chosen ∷ f) (n.present ∷ on.0))
        place (same_place i j k) =
            let here : node_at q before ≡ Some n = ap (node_at q) i ∙ at in
            inr (pending_leaves m w q before o n here (open_is_pending m whole q rest s before o n here alt out))
        place (later f i j) = inr (b, c, f ++ o ∷ z.0, n, z.1 ∙ ap (λ u. u ++ o ∷ z.0) i ∙ append_assoc b (c ∷ f) (o ∷ z.0), at, pending)

first_stands : (s : Choice → Status) (os : List Choice) (o c : Choice) → first_pending s os ≡ Some o → Among c os → s c ≡ Pending → (c ≡ o → ⊥) → StandsBefore o c os
first_stands s [] o c h am e f = elim am [ ]
first_stands s (x ∷ os) o c h am e f = go (s x) refl h am (λ g b. first_stands s os o c g b e f)
  where
    go : (t : Status) → s x ≡ t → (elim t [ Pending ↦ Some x | _ ↦ first_pending s os ]) ≡ Some o → ((c ≡ x) ⊎ Among c os)
        → (first_pending s os ≡ Some o → Among c os → StandsBefore o c os) → ((o ≡ x) × Among c os) ⊎ StandsBefore o c os
    go Pending g h (inl i) ih = absurd (f (cc (h, i)))
    go Pending g h (inr i) ih = inl (cc h, i)
    go Closed g h (inl i) ih = absurd (cc (g, e, ap s i))
    go Closed g h (inr i) ih = inr (ih h i)
    go Skip g h (inl i) ih = absurd (cc (g, e, ap s i))
    go Skip g h (inr i) ih = inr (ih h i)
    go Active g h (inl i) ih = absurd (cc (g, e, ap s i))
    go Active g h (inr i) ih = inr (ih h i)
    go Visited g h (inl i) ih = absurd (cc (g, e, ap s i))
    go Visited g h (inr i) ih = inr (ih h i)

after_in_order : (m : Machine) → m.reduce ≡ false → (p q : List Stored) (r : List Choice) → IsAfter m p q r → ArePathInOrder p → ArePathInOrder q
unfolding ArePathInOrder
after_in_order m whole p q r a order before x h o e = go (a.each before x h)
  where
    unmarked : (b : Bool) → (m.reduce && b) ≡ true → ⊥
    unmarked b g = cc ((both_true m.reduce b g).0, whole)

    go : IsNodeAfter m p r before x → ComesFirst x.made x.present o
    go (was_there n g f) = elim (was_pending (m.reduce && m.marks r (length before) o) (n.status o) (sym (ap (λ (y : Stored). y.status o) f) ∙ e)) [
      | inl d ↦ subst (λ (y : Stored). ComesFirst y.made y.present o) (sym f) (order before n g o d)
      | inr d ↦ absurd (unmarked (m.marks r (length before) o) d.1)
    ]
    go (is_new made g met f dr) = elim (was_pending (m.reduce && m.marks r (length before) o) (first_status (m.every before) made o) (sym (ap (λ (y : Stored). y.status o) f) ∙ e)) [
      | inl d ↦ subst (λ (y : Stored). ComesFirst y.made y.present o) (sym f) (new d (fresh_cases (m.every before) made o))
      | inr d ↦ absurd (unmarked (m.marks r (length before) o) d.1)
    ]
      where
        new : first_status (m.every before) made o ≡ Pending → FirstStatus (m.every before) made o (first_status (m.every before) made o) → ComesFirst made made.default o
        new d (is_default i j) = absurd (cc (d, j))
        new d (is_pending nd am ev j) = (nd, inl refl)
        new d (is_skipped nd am ev j) = absurd (cc (d, j))
        new d (is_closed nd na j) = absurd (cc (d, j))

next_in_order : (q next : List Stored) (branch : List Choice) (n : Stored) (o : Choice) → IsAtRest n → IsStep q next branch n o → ArePathInOrder q → ArePathInOrder next
unfolding ArePathInOrder
next_in_order q next branch n o rest s order before y h c e = go (next_place q next branch n o s before y h)
  where
    here : n.status c ≡ Pending → (c ≡ o → ⊥) → ComesFirst n.made o c
    here d f = (
      (λ g. elim rest.default [ inl i ↦ cc (d, i, ap n.status g) | inr i ↦ cc (d, i, ap n.status g) ]),
      inr (first_stands n.status n.made.options o c s.first (rest.closed c (λ g. cc (g, d))) d f),
    )

    at : y ≡ choose n o → Chosen n o c ((choose n o).status c) → ComesFirst n.made o c
    at f (was_present g i) = absurd (cc (e, i, ap (λ (z : Stored). z.status c) f))
    at f (is_next g i j) = absurd (cc (e, j, ap (λ (z : Stored). z.status c) f))
    at f (is_other g i j) = here (sym j ∙ sym (ap (λ (z : Stored). z.status c) f) ∙ e) i

    go : NextPlace q branch n o before y → ComesFirst y.made y.present c
    go (above_next g) = order before y g c e
    go (at_next i f) = subst (λ (z : Stored). ComesFirst z.made z.present c) (sym f) (at f (chosen_cases n o c))

precedes : (m : Machine) (q : List Stored) → IsResting m q → ArePathInOrder q → (r x : List Choice) → choices q ≡ r → Leaves q x → Precedes m r x
unfolding ArePathInOrder Leaves
precedes m q rest order r x whole (before, b, after, n, splits, at, pending) =
    let on = node_chooses q before n at in
    record {
      before = before;
      a = n.present;
      b = b;
      after_a = on.0;
      after_b = after;
      made = n.made;
      first = sym whole ∙ on.1;
      second = splits;
      differ = λ e. cc (pending, (rest.rest before n at).active, ap n.status e);
      met = rest.meets before n at;
      comes = order before n at b pending;
    }

complete_in_order : (m : Machine) → IsMachine m → m.reduce ≡ false → (p : List Stored) (list : List (List Choice)) → IsResting m p → ArePathInOrder p → Completes m p list → IsInOrder m list
unfolding Steps
complete_in_order m w whole p list rest order (last_round _ f h) = (tt, tt)
complete_in_order m w whole p list rest order (one_round _ p' list' f h c) =
    go (step_some (after_run m p) p' h) (λ o. complete_in_order m w whole p' list' i_rest o c)
  where
    i_rest : IsResting m p'
    i_rest = (subst (λ u. LeavesRest m p u) h (round_law m p w rest)).0

    apart : Rest m p' (run_of m p) → ⊥
    apart = (subst (λ u. LeavesRest m p u) h (round_law m p w rest)).2

    go : Steps (after_run m p) p' → (ArePathInOrder p' → IsInOrder m list') → Each (Precedes m (run_of m p)) list' × IsInOrder m list'
    go (branch, n, o, s) ih = (
      each_of (Precedes m (run_of m p)) list' (λ x k. first_of_two x (left_of x k)),
      ih (next_in_order q p' branch n o (after.rest branch n s.at) s q_order),
    )
      where
        q : List Stored
        q = after_run m p

        r : List Choice
        r = run_of m p

        a : IsAfter m p q r
        a = after_run_is m w p

        after : IsResting m q
        after = after_resting m w p q r rest a

        q_order : ArePathInOrder q
        q_order = after_in_order m whole p q r a order

        left_of : (x : List Choice) → Member x list' → Rest m p' x
        left_of x k = (complete_members m p' list' w i_rest c x).1 k

        first_of_two : (x : List Choice) → Rest m p' x → Precedes m r x
        first_of_two x d = elim (run_or_leaves m w whole p q r a after x (next_joined m w p q r a after p' branch n o s x d)) [
          | inl e ↦ absurd (apart (subst (Rest m p') (e ∙ ap (run m) a.whole ∙ run_is m w r r (over r (ends_over m (choices p) r a.run))) d))
          | inr l ↦ precedes m q after q_order r x a.whole l
        ]

pub order_law : OrderLaw
unfolding ArePathInOrder node_at
order_law m list w whole c = complete_in_order m w whole [] list (fresh_law m w).0 (λ before n h. absurd (cc h)) c
