-- What is left from a path is its run and, apart from it, what is left from the next path.
use Rattle.std.proofs.Common.{◌≡◌, ◌≢◌, ◌⊎◌, Bool, true, false, ◌&&◌, List, [], ◌∷◌, ◌++◌, length, Some, None, refl, ap, sym, ◌∙◌, subst, inl, inr, append_assoc}
use Rattle.loom_objects.specs.declared.choice.Choice.{Choice}
use Rattle.loom_objects.specs.Tree.Question.{Made, Among}
use Rattle.loom_engine.specs.Walk.Machine.{Machine, is_thread, run}
use Rattle.loom_engine.specs.Walk.Sound.{IsMachine}
use Rattle.loom_engine.specs.Walk.Runs.{Alternative}
use Rattle.loom_engine.specs.Walk.Path.{Status, Closed, Skip, Pending, Active, Visited, Stored, choices, IsAtRest, IsResting, IsBarred, IsLeftOut, node_at, first_status, choose, advance, step, Rest, by_path, by_pending, by_alternative}
use Rattle.loom_engine.proofs.Walk.Lists.{node_chooses, chooses_node, TwoSplits, earlier, same_place, later, two_splits, cancel_front, snoc_append}
use Rattle.loom_engine.proofs.Walk.Defaults.{over, run_reached, run_is, goes_on, ends_over}
use Rattle.loom_engine.proofs.Walk.Statuses.{true_both, was_skip, Chosen, was_present, is_next, is_other, chosen_cases, left_out, left_out_is, left_out_or_not, nothing_pending}
use Rattle.loom_engine.proofs.Walk.After.{IsNodeAfter, was_there, is_new, IsAfter}
use Rattle.loom_engine.proofs.Walk.Resting.{choose_at_rest}
use Rattle.loom_engine.proofs.Walk.Stepping.{IsStep, step_none}

-- a run begins with the choices that it was given
pub run_begins : (m : Machine) → IsMachine m → (c : List Choice) → (e : List Choice) × (run m c ≡ c ++ e)
run_begins m w c = goes_on m c (run m c) (run_reached m w c)

pub run_begins_so : (m : Machine) → IsMachine m → (before : List Choice) (o : Choice) → (e : List Choice) × (run m (before ++ o ∷ []) ≡ before ++ o ∷ e)
run_begins_so m w before o = let z = run_begins m w (before ++ o ∷ []) in (z.0, z.1 ∙ snoc_append before o z.0)

same_next : (xs : List Choice) (a b : Choice) (ys zs : List Choice) → xs ++ a ∷ ys ≡ xs ++ b ∷ zs → a ≡ b
same_next xs a b ys zs h = cc (cancel_front xs (a ∷ ys) (b ∷ zs) h)

one_node : (p : List Stored) (before : List Choice) (x y : Stored) → node_at p before ≡ Some x → node_at p before ≡ Some y → x ≡ y
one_node p before x y h g = cc (h, g)

-- No run that is left goes on from a node of the path by an option that was visited there.
pub never_again : (m : Machine) → IsMachine m → (p : List Stored) → IsResting m p → (branch : List Choice) (k : Stored) (c : Choice) → node_at p branch ≡ Some k → k.status c ≡ Visited
    → (x : List Choice) → Rest m p x → (e : List Choice) → x ≡ branch ++ c ∷ e → ⊥
never_again m w p rest branch k c at visited x by_path e h =
    let z = run_begins m w (choices p) in
    let b = node_chooses p branch k at in
    let same_choice : c ≡ k.present = same_next branch c k.present e (b.0 ++ z.0) (sym h ∙ z.1 ∙ ap (λ t. t ++ z.0) b.1 ∙ append_assoc branch (k.present ∷ b.0) z.0) in
    cc (visited, (rest.rest branch k at).active, ap k.status same_choice)
never_again m w p rest branch k c at visited x (by_pending before n o g ex s) e h =
    go (two_splits before o z.0 branch c e (sym z.1 ∙ h))
  where
    z : (e : List Choice) × (run m (before ++ o ∷ []) ≡ before ++ o ∷ e)
    z = run_begins_so m w before o

    b : (after : List Choice) × (choices p ≡ branch ++ k.present ∷ after)
    b = node_chooses p branch k at

    a : (after : List Choice) × (choices p ≡ before ++ n.present ∷ after)
    a = node_chooses p before n g

    go : TwoSplits before o z.0 branch c e → ⊥
    go (earlier f i j) =
        let same_choice : o ≡ n.present = same_next before o n.present (f ++ k.present ∷ b.0) a.0
        (sym (append_assoc before (o ∷ f) (k.present ∷ b.0)) ∙ ap (λ t. t ++ k.present ∷ b.0) (sym i) ∙ sym b.1 ∙ a.1) in
        cc (s, (rest.rest before n g).active, ap n.status same_choice)
    go (same_place i j l) =
        let same_node : n ≡ k = cc (g, at, ap (node_at p) i) in
        cc (s, visited, ap (λ (y : Stored). y.status o) same_node, ap k.status j)
    go (later f i j) =
        let same_choice : c ≡ k.present = same_next branch c k.present (f ++ n.present ∷ a.0) b.0
        (sym (append_assoc branch (c ∷ f) (n.present ∷ a.0)) ∙ ap (λ t. t ++ n.present ∷ a.0) (sym i) ∙ sym a.1 ∙ b.1) in
        cc (visited, (rest.rest branch k at).active, ap k.status same_choice)
never_again m w p rest branch k c at visited x (by_alternative s before o d alt out) e h =
    go (two_splits before o z.0 branch c e (sym z.1 ∙ h)) (λ f i. never_again m w p rest branch k c at visited s d f i)
  where
    z : (e : List Choice) × (run m (before ++ o ∷ []) ≡ before ++ o ∷ e)
    z = run_begins_so m w before o

    b : (after : List Choice) × (choices p ≡ branch ++ k.present ∷ after)
    b = node_chooses p branch k at

    go : TwoSplits before o z.0 branch c e → ((f : List Choice) → s ≡ branch ++ c ∷ f → ⊥) → ⊥
    go (earlier f i j) ih =
        let y = chooses_node p before o (f ++ k.present ∷ b.0) (b.1 ∙ ap (λ t. t ++ k.present ∷ b.0) i ∙ append_assoc before (o ∷ f) (k.present ∷ b.0)) in
        let active : y.0.status o ≡ Active = ap y.0.status (sym y.2) ∙ (rest.rest before y.0 y.1).active in
        out (left_out m p before o y.0 y.1 (subst (λ u. IsBarred m u) (sym active) tt))
    go (same_place i j l) ih =
        let gone : k.status o ≡ Visited = ap k.status j ∙ visited in
        out (left_out m p before o k (ap (node_at p) i ∙ at) (subst (λ u. IsBarred m u) (sym gone) tt))
    go (later f i j) ih =
        ih (f ++ alt.chosen ∷ alt.after) (alt.splits ∙ ap (λ t. t ++ alt.chosen ∷ alt.after) i ∙ append_assoc branch (c ∷ f) (alt.chosen ∷ alt.after))

-- where a node of the next path is
pub data NextPlace (q : List Stored) (branch : List Choice) (n : Stored) (o : Choice) (before : List Choice) (y : Stored) : Type 0 where
  above_next : node_at q before ≡ Some y → NextPlace q branch n o before y
  at_next : before ≡ branch → y ≡ choose n o → NextPlace q branch n o before y

pub next_place : (q next : List Stored) (branch : List Choice) (n : Stored) (o : Choice) → IsStep q next branch n o → (before : List Choice) (y : Stored) → node_at next before ≡ Some y
    → NextPlace q branch n o before y
next_place q next branch n o s before y h = go (two_splits before y.present a.0 branch o [] (sym a.1 ∙ s.chosen))
  where
    a : (after : List Choice) × (choices next ≡ before ++ y.present ∷ after)
    a = node_chooses next before y h

    go : TwoSplits before y.present a.0 branch o [] → NextPlace q branch n o before y
    go (earlier f i j) = above_next (sym (s.above before y.present f i) ∙ h)
    go (same_place i j l) = at_next i (cc (h, s.here, ap (node_at next) i))
    go (later f i j) = absurd (nothing f j)
      where
        nothing : (f : List Choice) → [] ≡ f ++ y.present ∷ a.0 → ⊥
        nothing [] g = cc g
        nothing (b ∷ f) g = cc g

-- where a node of the old path is
pub data OldPlace (next : List Stored) (branch : List Choice) (n : Stored) (before : List Choice) (y : Stored) : Type 0 where
  above_old : node_at next before ≡ Some y → OldPlace next branch n before y
  at_old : before ≡ branch → y ≡ n → OldPlace next branch n before y
  below_old : (e : List Choice) → before ≡ branch ++ n.present ∷ e → advance y ≡ None → OldPlace next branch n before y

pub old_place : (q next : List Stored) (branch : List Choice) (n : Stored) (o : Choice) → IsStep q next branch n o → (before : List Choice) (y : Stored) → node_at q before ≡ Some y
    → OldPlace next branch n before y
old_place q next branch n o s before y h = go (two_splits before y.present a.0 branch n.present b.0 (sym a.1 ∙ b.1))
  where
    a : (after : List Choice) × (choices q ≡ before ++ y.present ∷ after)
    a = node_chooses q before y h

    b : (after : List Choice) × (choices q ≡ branch ++ n.present ∷ after)
    b = node_chooses q branch n s.at

    go : TwoSplits before y.present a.0 branch n.present b.0 → OldPlace next branch n before y
    go (earlier f i j) = above_old (s.above before y.present f i ∙ h)
    go (same_place i j l) = at_old i (cc (h, s.at, ap (node_at q) i))
    go (later f i j) = below_old f i (s.below f y (ap (node_at q) (sym i) ∙ h))

-- a run that is over has left no mark out
pub no_mark_left : (m : Machine) (p q : List Stored) (r : List Choice) → IsAfter m p q r → (before : List Choice) (x : Stored) (o : Choice) → node_at q before ≡ Some x
    → x.status o ≡ Skip → m.reduce ≡ true → m.marks r (length before) o ≡ true → ⊥
no_mark_left m p q r a before x o h skip reduced marked = go (a.each before x h)
  where
    both : (m.reduce && m.marks r (length before) o) ≡ true
    both = true_both m.reduce (m.marks r (length before) o) reduced marked

    go : IsNodeAfter m p r before x → ⊥
    go (was_there n g f) = let z = was_skip (m.reduce && m.marks r (length before) o) (n.status o) (sym (ap (λ (y : Stored). y.status o) f) ∙ skip) in cc (z.1, both)
    go (is_new made g met f dr) =
        let z = was_skip (m.reduce && m.marks r (length before) o) (first_status (m.every before) made o) (sym (ap (λ (y : Stored). y.status o) f) ∙ skip) in cc (z.1, both)

-- an alternative of the run that is over, unless it is left out, is pending in the path
pub alternative_pending : (m : Machine) → IsMachine m → (p q : List Stored) (r : List Choice) → IsAfter m p q r → IsResting m q
    → (s before : List Choice) (o : Choice) → s ≡ r → Alternative m s before o → (IsLeftOut m q before o → ⊥) → (x : Stored) × (node_at q before ≡ Some x) × (x.made.exploring ≡ true) × (x.status o ≡ Pending)
alternative_pending m w p q r a rest s before o same_list alt out =
    (x, at, explores, pending (x.status o) refl)
  where
    found : (n : Stored) × (node_at q before ≡ Some n) × (n.present ≡ alt.chosen)
    found = chooses_node q before alt.chosen alt.after (a.whole ∙ sym same_list ∙ alt.splits)

    x : Stored
    x = found.0

    at : node_at q before ≡ Some x
    at = found.1

    node : IsAtRest x
    node = rest.rest before x at

    same_made : alt.made ≡ x.made
    same_made = cc (alt.met, rest.meets before x at)

    explores : x.made.exploring ≡ true
    explores = sym (ap (λ (y : Made). y.exploring) same_made) ∙ alt.exploring

    not_barred : (t : Status) → x.status o ≡ t → IsBarred m t → ⊥
    not_barred t e l = out (left_out m q before o x at (subst (λ u. IsBarred m u) (sym e) l))

    reduced : x.status o ≡ Skip → (b : Bool) → m.reduce ≡ b → m.reduce ≡ true
    reduced e true f = f
    reduced e false f = absurd (not_barred Skip e f)

    skipped : x.status o ≡ Skip → m.reduce ≡ true → ((m.every before ≡ true) ⊎ ((m.reduce ≡ true) × (m.marks s (length before) o ≡ true) × (o ≢ alt.made.default))) → ⊥
    skipped e f (inl g) = by_kind (is_thread x.made.default) refl
      where
        by_kind : (b : Bool) → is_thread x.made.default ≡ b → ⊥
        by_kind true t = let z = (w.full before x.made (rest.meets before x at) g t).0 in cc (z, f)
        by_kind false t = node.values t o e
    skipped e f (inr g) = no_mark_left m p q r a before x o at e f (subst (λ u. m.marks u (length before) o ≡ true) same_list g.1)

    pending : (t : Status) → x.status o ≡ t → x.status o ≡ Pending
    pending Closed e = absurd (node.opened o (subst (λ (u : Made). Among o u.options) same_made alt.option) e)
    pending Skip e = absurd (skipped e (reduced e m.reduce refl) alt.called)
    pending Pending e = e
    pending Active e = absurd (not_barred Active e tt)
    pending Visited e = absurd (not_barred Visited e tt)

-- where no node can go on, the run is all that was left
pub run_alone : (m : Machine) → IsMachine m → (p q : List Stored) (r : List Choice) → IsAfter m p q r → IsResting m q → step q ≡ None → (x : List Choice) → Rest m q x → x ≡ r
run_alone m w p q r a rest h x by_path = ap (run m) a.whole ∙ run_is m w r r (over r (ends_over m (choices p) r a.run))
run_alone m w p q r a rest h x (by_pending before n o g ex s) = absurd (nothing_pending n (rest.rest before n g) (step_none q h before n g) ex o s)
run_alone m w p q r a rest h x (by_alternative s before o d alt out) =
    let z = alternative_pending m w p q r a rest s before o (run_alone m w p q r a rest h s d) alt out in
    absurd (nothing_pending z.0 (rest.rest before z.0 z.1) (step_none q h before z.0 z.1) z.2 o z.3)

module _ (m : Machine) (w : IsMachine m) (p q : List Stored) (r : List Choice) (a : IsAfter m p q r) (rest : IsResting m q)
    (next : List Stored) (branch : List Choice) (n : Stored) (o : Choice) (s : IsStep q next branch n o) where
  pub next_resting : IsResting m next
  next_resting = record { meets = λ before y h. meets before y (next_place q next branch n o s before y h); rest = λ before y h. each before y (next_place q next branch n o s before y h) }
    where
      meets : (before : List Choice) (y : Stored) → NextPlace q branch n o before y → m.node before ≡ Some y.made
      meets before y (above_next h) = rest.meets before y h
      meets before y (at_next e f) = ap m.node e ∙ rest.meets branch n s.at ∙ ap (λ (z : Stored). Some z.made) (sym f)

      each : (before : List Choice) (y : Stored) → NextPlace q branch n o before y → IsAtRest y
      each before y (above_next h) = rest.rest before y h
      each before y (at_next e f) = subst IsAtRest (sym f) (choose_at_rest n o (rest.rest branch n s.at) s.exploring s.pending)

  next_run : run m (choices next) ≡ run m (branch ++ o ∷ [])
  next_run = ap (run m) s.chosen

  -- the option that was taken is visited from now on
  pub taken_visited : (choose n o).status n.present ≡ Visited
  taken_visited = go (chosen_cases n o n.present)
    where
      go : Chosen n o n.present ((choose n o).status n.present) → (choose n o).status n.present ≡ Visited
      go (was_present e f) = f
      go (is_next f e g) = absurd (f refl)
      go (is_other f e g) = absurd (f refl)

  -- what is pending in the old path is left from the next one
  pending_left : (before : List Choice) (y : Stored) (c : Choice) → node_at q before ≡ Some y → y.made.exploring ≡ true → y.status c ≡ Pending → Rest m next (run m (before ++ c ∷ []))
  pending_left before y c h ex t = go (old_place q next branch n o s before y h)
    where
      here : before ≡ branch → y ≡ n → Chosen n o c ((choose n o).status c) → Rest m next (run m (before ++ c ∷ []))
      here e f (was_present g i) = absurd (cc (t, (rest.rest branch n s.at).active, ap (λ (z : Stored). z.status c) f, ap n.status g))
      here e f (is_next g i j) = subst (Rest m next) (next_run ∙ ap (run m) (cc (e, i))) by_path
      here e f (is_other g i j) =
          subst (λ u. Rest m next (run m (u ++ c ∷ []))) (sym e)
          (by_pending branch (choose n o) c s.here s.exploring (j ∙ sym (ap (λ (z : Stored). z.status c) f) ∙ t))

      go : OldPlace next branch n before y → Rest m next (run m (before ++ c ∷ []))
      go (above_old g) = by_pending before y c g ex t
      go (at_old e f) = here e f (chosen_cases n o c)
      go (below_old e f g) = absurd (nothing_pending y (rest.rest before y h) g ex c t)

  alternative_left : (x before : List Choice) (c : Choice) → Rest m next x → Alternative m x before c → (IsLeftOut m q before c → ⊥) → Rest m next (run m (before ++ c ∷ []))
  alternative_left x before c d alt out = go (left_out_or_not m next before c)
    where
      here : (y : Stored) → IsBarred m (y.status c) → before ≡ branch → y ≡ choose n o → Chosen n o c ((choose n o).status c) → Rest m next (run m (before ++ c ∷ []))
      here y l e f (was_present g i) =
          let active : n.status c ≡ Active = ap n.status g ∙ (rest.rest branch n s.at).active in
          absurd (out (left_out m q before c n (ap (node_at q) e ∙ s.at) (subst (λ u. IsBarred m u) (sym active) tt)))
      here y l e f (is_next g i j) = subst (Rest m next) (next_run ∙ ap (run m) (cc (e, i))) by_path
      here y l e f (is_other g i j) =
          absurd (out (left_out m q before c n (ap (node_at q) e ∙ s.at) (subst (λ u. IsBarred m u) (ap (λ (z : Stored). z.status c) f ∙ j) l)))

      at : (y : Stored) → IsBarred m (y.status c) → NextPlace q branch n o before y → Rest m next (run m (before ++ c ∷ []))
      at y l (above_next h) = absurd (out (left_out m q before c y h l))
      at y l (at_next e f) = here y l e f (chosen_cases n o c)

      go : Dec (IsLeftOut m next before c) → Rest m next (run m (before ++ c ∷ []))
      go (no f) = by_alternative x before c d alt f
      go (yes l) = let z = left_out_is m next before c l in at z.0 z.2 (next_place q next branch n o s before z.0 z.1)

  pub run_or_next : (x : List Choice) → Rest m q x → (x ≡ r) ⊎ Rest m next x
  run_or_next x by_path = inl (ap (run m) a.whole ∙ run_is m w r r (over r (ends_over m (choices p) r a.run)))
  run_or_next x (by_pending before y c h ex t) = inr (pending_left before y c h ex t)
  run_or_next x (by_alternative z before c d alt out) = go (run_or_next z d)
    where
      go : (z ≡ r) ⊎ Rest m next z → (run m (before ++ c ∷ []) ≡ r) ⊎ Rest m next (run m (before ++ c ∷ []))
      go (inl e) = let y = alternative_pending m w p q r a rest z before c e alt out in inr (pending_left before y.0 c y.1 y.2 y.3)
      go (inr g) = inr (alternative_left z before c g alt out)

  alternative_joined : (x before : List Choice) (c : Choice) → Rest m next x → Rest m q x → Alternative m x before c → (IsLeftOut m next before c → ⊥) → Rest m q (run m (before ++ c ∷ []))
  alternative_joined x before c d ih alt out = go (left_out_or_not m q before c)
    where
      here : (y : Stored) → IsBarred m (y.status c) → before ≡ branch → y ≡ n → Chosen n o c ((choose n o).status c) → ⊥
      here y l e f (was_present g i) = out (left_out m next before c (choose n o) (ap (node_at next) e ∙ s.here) (subst (λ u. IsBarred m u) (sym i) tt))
      here y l e f (is_next g i j) = out (left_out m next before c (choose n o) (ap (node_at next) e ∙ s.here) (subst (λ u. IsBarred m u) (sym j) tt))
      here y l e f (is_other g i j) =
          out (left_out m next before c (choose n o) (ap (node_at next) e ∙ s.here) (subst (λ u. IsBarred m u) (ap (λ (z : Stored). z.status c) f ∙ sym j) l))

      at : (y : Stored) → IsBarred m (y.status c) → OldPlace next branch n before y → ⊥
      at y l (above_old h) = out (left_out m next before c y h l)
      at y l (at_old e f) = here y l e f (chosen_cases n o c)
      at y l (below_old e f g) =
          never_again m w next next_resting branch (choose n o) n.present s.here taken_visited x d (e ++ alt.chosen ∷ alt.after)
          (alt.splits ∙ ap (λ t. t ++ alt.chosen ∷ alt.after) f ∙ append_assoc branch (n.present ∷ e) (alt.chosen ∷ alt.after))

      go : Dec (IsLeftOut m q before c) → Rest m q (run m (before ++ c ∷ []))
      go (no f) = by_alternative x before c ih alt f
      go (yes l) = let z = left_out_is m q before c l in absurd (at z.0 z.2 (old_place q next branch n o s before z.0 z.1))

  pub next_joined : (x : List Choice) → Rest m next x → Rest m q x
  next_joined x by_path = subst (Rest m q) (sym next_run) (by_pending branch n o s.at s.exploring s.pending)
  next_joined x (by_pending before y c h ex t) = go (next_place q next branch n o s before y h)
    where
      here : before ≡ branch → y ≡ choose n o → Chosen n o c ((choose n o).status c) → Rest m q (run m (before ++ c ∷ []))
      here e f (was_present g i) = absurd (cc (t, i, ap (λ (z : Stored). z.status c) f))
      here e f (is_next g i j) = absurd (cc (t, j, ap (λ (z : Stored). z.status c) f))
      here e f (is_other g i j) = by_pending before n c (ap (node_at q) e ∙ s.at) s.exploring (sym j ∙ sym (ap (λ (z : Stored). z.status c) f) ∙ t)

      go : NextPlace q branch n o before y → Rest m q (run m (before ++ c ∷ []))
      go (above_next g) = by_pending before y c g ex t
      go (at_next e f) = here e f (chosen_cases n o c)
  next_joined x (by_alternative z before c d alt out) = alternative_joined z before c d (next_joined z d) alt out

  -- the run of the path is not left from the next one
  pub run_not_left : Rest m next r → ⊥
  run_not_left d =
      let b = node_chooses q branch n s.at in
      never_again m w next next_resting branch (choose n o) n.present s.here taken_visited r d b.0 (sym a.whole ∙ b.1)
