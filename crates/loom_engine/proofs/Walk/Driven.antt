-- A walk whose runs are made by others tries each option that is to be tried.
use Rattle.std.proofs.Common.{◌≡◌, ◌⊎◌, true, List, [], ◌∷◌, ◌++◌, Some, refl, ap, ap₂, sym, ◌∙◌, inl, inr, append_assoc, append-nil, Bool, Option, None, subst, ◌≢◌}
use Rattle.loom_objects.specs.declared.choice.Choice.{Choice}
use Rattle.loom_engine.specs.Walk.Path.{step, Skip, Pending, Visited, Stored, choices, node_at, IsAtRest, choose}
use Rattle.loom_objects.specs.Tree.Question.{Made}
use Rattle.loom_engine.specs.Walk.Lists.{Begins}
use Rattle.loom_engine.specs.Walk.Driven.{IsLeftBy, Driven, last_run, one_run, IsOneOf, ToBeTried, DrivenLaw, passes, HasNoSkip, MakesNoSkip, EachMakesNoSkip, last_makes, one_makes, NoSkipLaw}
use Rattle.loom_engine.proofs.Walk.Lists.{node_chooses, chooses_node, node_on, snoc_append, TwoSplits, earlier, same_place, later as behind, two_splits}
use Rattle.loom_engine.proofs.Walk.Statuses.{nothing_pending, Chosen, was_present, is_next, is_other, chosen_cases}
use Rattle.loom_engine.proofs.Walk.Stepping.{IsStep, Steps, step_some, step_none}
use Rattle.loom_engine.proofs.Walk.Left.{NextPlace, above_next, at_next, next_place, OldPlace, above_old, at_old, below_old, old_place}

Tries : List (List Stored) → List Choice → Choice → Type 0
Tries left before o = (x : List Stored) × IsOneOf x left × Begins (before ++ o ∷ []) (choices x)

-- a path that chooses o at a node begins so
chooses_so : (q : List Stored) (before : List Choice) (n : Stored) (o : Choice) → node_at q before ≡ Some n → n.present ≡ o → Begins (before ++ o ∷ []) (choices q)
chooses_so q before n o h e =
    let b = node_chooses q before n h in (b.0, b.1 ∙ ap (λ u. before ++ u ∷ b.0) e ∙ sym (snoc_append before o b.0))

-- the first run of a walk begins as its path does
first_tries : (p : List Stored) (left : List (List Stored)) → Driven p left → (before : List Choice) (n : Stored) (o : Choice) → node_at p before ≡ Some n → n.present ≡ o → Tries left before o
unfolding Tries
first_tries p left (last_run _ q l h) before n o g e = let k = l.kept before n g in (q, inl refl, chooses_so q before k.0 o k.1 (k.3 ∙ e))
first_tries p left (one_run _ q later rest l h d) before n o g e = let k = l.kept before n g in (q, inl refl, chooses_so q before k.0 o k.1 (k.3 ∙ e))

-- what is pending in the path that a run left is tried by a later run
after_step : (q later : List Stored) (rest : List (List Stored)) → ((before : List Choice) (k : Stored) → node_at q before ≡ Some k → IsAtRest k) → Steps q later → Driven later rest
    → (before : List Choice) (k : Stored) (o : Choice) → node_at q before ≡ Some k → k.made.exploring ≡ true → k.status o ≡ Pending
    → ((n : Stored) → node_at later before ≡ Some n → n.made.exploring ≡ true → n.status o ≡ Pending → Tries rest before o) → Tries rest before o
unfolding Steps
after_step q later rest w (branch, n, c, s) d before k o h ex e ih = go (old_place q later branch n c s before k h)
  where
    here : before ≡ branch → k ≡ n → Chosen n c o ((choose n c).status o) → Tries rest before o
    here i j (was_present f g) = absurd (cc (e, (w branch n s.at).active, ap (λ (z : Stored). z.status o) j, ap n.status f))
    here i j (is_next f g l) = first_tries later rest d before (choose n c) o (ap (node_at later) i ∙ s.here) (sym g)
    here i j (is_other f g l) = ih (choose n c) (ap (node_at later) i ∙ s.here) s.exploring (l ∙ sym (ap (λ (z : Stored). z.status o) j) ∙ e)

    go : OldPlace later branch n before k → Tries rest before o
    go (above_old g) = ih k g ex e
    go (at_old i j) = here i j (chosen_cases n c o)
    go (below_old f i g) = absurd (nothing_pending k (w before k h) g ex o e)

in_later : (q : List Stored) (rest : List (List Stored)) (before : List Choice) (o : Choice) → Tries rest before o → Tries (q ∷ rest) before o
unfolding Tries
in_later q rest before o z = (z.0, inr z.1, z.2)

-- what is pending in a path is tried by a run of the walk from it
pending_tried : (p : List Stored) (left : List (List Stored)) → Driven p left → (before : List Choice) (n : Stored) (o : Choice) → node_at p before ≡ Some n → n.made.exploring ≡ true
    → n.status o ≡ Pending → Tries left before o
pending_tried p left (last_run _ q l h) before n o g ex e =
    let k = l.kept before n g in
    absurd (nothing_pending k.0 (l.rest before k.0 k.1) (step_none q h before k.0 k.1) (ap (λ (y : _). y.exploring) k.2 ∙ ex) o (k.4 o (λ f. cc (e, f)) ∙ e))
pending_tried p left (one_run _ q later rest l h d) before n o g ex e =
    let k = l.kept before n g in
    in_later q rest before o
    (after_step q later rest l.rest (step_some q later h) d before k.0 o k.1 (ap (λ (y : _). y.exploring) k.2 ∙ ex) (k.4 o (λ f. cc (e, f)) ∙ e)
    (λ y i j f. pending_tried later rest d before y o i j f))

-- what a run took before is visited
later_visited : (seen : List Choice → Choice → Type 0) (p q later : List Stored) → IsLeftBy p q
    → ((before : List Choice) (n : Stored) (o : Choice) → node_at p before ≡ Some n → n.status o ≡ Visited → seen before o)
    → Steps q later → (before : List Choice) (y : Stored) (o : Choice) → node_at later before ≡ Some y → y.status o ≡ Visited
    → seen before o ⊎ Begins (before ++ o ∷ []) (choices q)
unfolding Steps
later_visited seen p q later l old (branch, n, c, s) before y o h e = go (next_place q later branch n c s before y h)
  where
    was : (k : Stored) → node_at q before ≡ Some k → k.status o ≡ Visited → seen before o ⊎ Begins (before ++ o ∷ []) (choices q)
    was k g f = let z = l.visited before k o g f in inl (old before z.0 o z.1 z.2)

    here : before ≡ branch → y ≡ choose n c → Chosen n c o ((choose n c).status o) → seen before o ⊎ Begins (before ++ o ∷ []) (choices q)
    here i j (was_present f g) = inr (chooses_so q before n o (ap (node_at q) i ∙ s.at) (sym f))
    here i j (is_next f g k) = absurd (cc (k, e, ap (λ (z : Stored). z.status o) j))
    here i j (is_other f g k) = was n (ap (node_at q) i ∙ s.at) (sym k ∙ sym (ap (λ (z : Stored). z.status o) j) ∙ e)

    go : NextPlace q branch n c before y → seen before o ⊎ Begins (before ++ o ∷ []) (choices q)
    go (above_next g) = was y g e
    go (at_next i j) = here i j (chosen_cases n c o)

each_tried : (seen : List Choice → Choice → Type 0) (p : List Stored) (left : List (List Stored)) → Driven p left
    → ((before : List Choice) (n : Stored) (o : Choice) → node_at p before ≡ Some n → n.status o ≡ Visited → seen before o)
    → (x : List Stored) → IsOneOf x left → (before : List Choice) (n : Stored) (o : Choice) → node_at x before ≡ Some n → n.made.exploring ≡ true → ToBeTried (n.status o)
    → seen before o ⊎ Tries left before o
unfolding Tries
each_tried seen p left (last_run _ q l h) old x (inr i) before n o g ex t = elim i [ ]
each_tried seen p left (last_run _ q l h) old x (inl i) before n o g ex t = go t
  where
    at : node_at q before ≡ Some n
    at = ap (λ y. node_at y before) (sym i) ∙ g

    go : ToBeTried (n.status o) → seen before o ⊎ Tries (q ∷ []) before o
    go (inl e) = absurd (nothing_pending n (l.rest before n at) (step_none q h before n at) ex o e)
    go (inr (inl e)) = inr (q, inl refl, chooses_so q before n o at (sym ((l.rest before n at).one o e)))
    go (inr (inr e)) = let z = l.visited before n o at e in inl (old before z.0 o z.1 z.2)
each_tried seen p left (one_run _ q later rest l h d) old x (inl i) before n o g ex t = go t
  where
    at : node_at q before ≡ Some n
    at = ap (λ y. node_at y before) (sym i) ∙ g

    go : ToBeTried (n.status o) → seen before o ⊎ Tries (q ∷ rest) before o
    go (inl e) =
        inr (in_later q rest before o (after_step q later rest l.rest (step_some q later h) d before n o at ex e (λ y i j f. pending_tried later rest d before y o i j f)))
    go (inr (inl e)) = inr (q, inl refl, chooses_so q before n o at (sym ((l.rest before n at).one o e)))
    go (inr (inr e)) = let z = l.visited before n o at e in inl (old before z.0 o z.1 z.2)
each_tried seen p left (one_run _ q later rest l h d) old x (inr i) before n o g ex t =
    go (each_tried (λ b c. seen b c ⊎ Begins (b ++ c ∷ []) (choices q)) later rest d (λ b y c k e. later_visited seen p q later l old (step_some q later h) b y c k e) x i before n o g ex t)
  where
    go : ((seen before o ⊎ Begins (before ++ o ∷ []) (choices q)) ⊎ Tries rest before o) → seen before o ⊎ Tries (q ∷ rest) before o
    go (inl (inl e)) = inl e
    go (inl (inr e)) = inr (q, inl refl, e)
    go (inr e) = inr (in_later q rest before o e)

pub driven_law : DrivenLaw
unfolding Tries node_at
driven_law left d q i before n o h ex t =
    elim (each_tried (λ b c. ⊥) [] left d (λ b y c k e. cc k) q i before n o h ex t) [ inl e ↦ absurd e | inr e ↦ e ]

-- two paths that have like nodes at each place before
Alike : List Stored → List Stored → List Choice → Type 0
Alike p q before = (pre : List Choice) (c : Choice) (e : List Choice) → before ≡ pre ++ c ∷ e
    → (n : Stored) × (k : Stored) × (node_at p pre ≡ Some n) × (node_at q pre ≡ Some k) × (k.made ≡ n.made) × (k.present ≡ n.present) × (c ≡ n.present)

passes_same : (p q : List Stored) (before : List Choice) → Alike p q before → passes p before ≡ passes q before
unfolding Alike node_at
passes_same [] [] before h = refl
passes_same [] (y ∷ q) [] h = refl
passes_same [] (y ∷ q) (c ∷ before) h = let z = h [] c before refl in absurd (cc (z.2))
passes_same (x ∷ p) [] [] h = refl
passes_same (x ∷ p) [] (c ∷ before) h = let z = h [] c before refl in absurd (cc (z.3))
passes_same (x ∷ p) (y ∷ q) [] h = refl
passes_same (x ∷ p) (y ∷ q) (c ∷ before) h = go (h [] c before refl) (λ a. passes_same p q before a)
  where
    go : ((n : Stored) × (k : Stored) × (Some x ≡ Some n) × (Some y ≡ Some k) × (k.made ≡ n.made) × (k.present ≡ n.present) × (c ≡ n.present)) → (Alike p q before → passes p before ≡ passes q before)
        → passes (x ∷ p) (c ∷ before) ≡ passes (y ∷ q) (c ∷ before)
    go (n, k, a, b, m, r, s) ih =
        let xn : x ≡ n = cc a in
        let yk : y ≡ k = cc b in
        let made : y.made ≡ x.made = ap (λ (z : Stored). z.made) yk ∙ m ∙ ap (λ (z : Stored). z.made) (sym xn) in
        let present : y.present ≡ x.present = ap (λ (z : Stored). z.present) yk ∙ r ∙ ap (λ (z : Stored). z.present) (sym xn) in
        let on_x : c ≡ x.present = s ∙ ap (λ (z : Stored). z.present) (sym xn) in
        let on_y : c ≡ y.present = on_x ∙ sym present in
        ap₂ (λ (u : Made × Choice) (t : List (Made × Choice)). u ∷ t) (ap₂ (λ u v. (u, v)) (sym made) (sym present))
        (ih (λ pre d e i. shift pre d on_x on_y (h (c ∷ pre) d e (ap (λ t. c ∷ t) i))))
      where
        shift : (pre : List Choice) (d : Choice) → c ≡ x.present → c ≡ y.present
            → ((n : Stored) × (k : Stored) × (node_at (x ∷ p) (c ∷ pre) ≡ Some n) × (node_at (y ∷ q) (c ∷ pre) ≡ Some k) × (k.made ≡ n.made) × (k.present ≡ n.present) × (d ≡ n.present))
            → (n : Stored) × (k : Stored) × (node_at p pre ≡ Some n) × (node_at q pre ≡ Some k) × (k.made ≡ n.made) × (k.present ≡ n.present) × (d ≡ n.present)
        shift pre d i j z = (z.0, z.1, sym (node_on x p c pre i) ∙ z.2, sym (node_on y q c pre j) ∙ z.3, z.4, z.5, z.6)

-- a node on the way to another
on_the_way : (p : List Stored) (before : List Choice) (n : Stored) → node_at p before ≡ Some n → (pre : List Choice) (c : Choice) (e : List Choice) → before ≡ pre ++ c ∷ e
    → (k : Stored) × (node_at p pre ≡ Some k) × (k.present ≡ c)
on_the_way p before n h pre c e i =
    let b = node_chooses p before n h in
    chooses_node p pre c (e ++ n.present ∷ b.0) (b.1 ∙ ap (λ u. u ++ n.present ∷ b.0) i ∙ append_assoc pre (c ∷ e) (n.present ∷ b.0))

passes_kept : (p q : List Stored) → IsLeftBy p q → (before : List Choice) (n : Stored) → node_at p before ≡ Some n → passes p before ≡ passes q before
unfolding Alike
passes_kept p q l before n h =
    passes_same p q before (λ pre c e i.
    let z = on_the_way p before n h pre c e i in
    let k = l.kept pre z.0 z.1 in (z.0, k.0, z.1, k.1, k.2, k.3, sym z.2))

passes_above : (q later : List Stored) (branch : List Choice) (n : Stored) (o : Choice) → IsStep q later branch n o → (before : List Choice) (y : Stored) → node_at later before ≡ Some y
    → ((f : List Choice) × (branch ≡ before ++ f)) → passes later before ≡ passes q before
unfolding Alike
passes_above q later branch n o s before y h f =
    passes_same later q before (λ pre c e i.
    let z = on_the_way later before y h pre c e i in
    let same_node : node_at later pre ≡ node_at q pre = s.above pre c (e ++ f.0) (f.1 ∙ ap (λ u. u ++ f.0) i ∙ append_assoc pre (c ∷ e) f.0) in
    (z.0, z.0, z.1, sym same_node ∙ z.1, refl, refl, sym z.2))

-- where a node of the next path stands, the choices before it lead to the branch
leads_on : (q later : List Stored) (branch : List Choice) (n : Stored) (o : Choice) → IsStep q later branch n o → (before : List Choice) (y : Stored) → node_at later before ≡ Some y
    → (f : List Choice) × (branch ≡ before ++ f)
leads_on q later branch n o s before y h = go (two_splits before y.present a.0 branch o [] (sym a.1 ∙ s.chosen))
  where
    a : (after : List Choice) × (choices later ≡ before ++ y.present ∷ after)
    a = node_chooses later before y h

    nothing : (f : List Choice) → [] ≡ f ++ y.present ∷ a.0 → ⊥
    nothing [] g = cc g
    nothing (b ∷ f) g = cc g

    go : TwoSplits before y.present a.0 branch o [] → (f : List Choice) × (branch ≡ before ++ f)
    go (earlier f i j) = (y.present ∷ f, i)
    go (same_place i j l) = ([], sym i ∙ sym (append-nil before))
    go (behind f i j) = absurd (nothing f j)

left_no_skip : (every : List (Made × Choice) → Bool) (p q : List Stored) → IsLeftBy p q → MakesNoSkip every p q → HasNoSkip every p → HasNoSkip every q
left_no_skip every p q l new old before k h e o skip = go (node_at p before) refl
  where
    go : (x : Option Stored) → node_at p before ≡ x → ⊥
    go None g = new before k h g e o skip
    go (Some n) g =
        let z = l.kept before n g in
        let same_node : z.0 ≡ k = cc (z.1, h) in
        let none : n.status o ≢ Skip = old before n g (ap every (passes_kept p q l before n g) ∙ e) o in
        none (sym (z.4 o none) ∙ ap (λ (y : Stored). y.status o) same_node ∙ skip)

step_no_skip : (every : List (Made × Choice) → Bool) (q later : List Stored) → Steps q later → HasNoSkip every q → HasNoSkip every later
unfolding Steps
step_no_skip every q later (branch, n, c, s) old before y h e o skip = go (next_place q later branch n c s before y h)
  where
    same_way : passes later before ≡ passes q before
    same_way = passes_above q later branch n c s before y h (leads_on q later branch n c s before y h)

    every_old : every (passes q before) ≡ true
    every_old = ap every (sym same_way) ∙ e

    here : before ≡ branch → y ≡ choose n c → Chosen n c o ((choose n c).status o) → ⊥
    here i j (was_present f g) = cc (g, skip, ap (λ (z : Stored). z.status o) j)
    here i j (is_next f g k) = cc (k, skip, ap (λ (z : Stored). z.status o) j)
    here i j (is_other f g k) = old before n (ap (node_at q) i ∙ s.at) every_old o (sym k ∙ sym (ap (λ (z : Stored). z.status o) j) ∙ skip)

    go : NextPlace q branch n c before y → ⊥
    go (above_next g) = old before y g every_old o skip
    go (at_next i j) = here i j (chosen_cases n c o)

one_later : (q a b : List Stored) → step q ≡ Some a → step q ≡ Some b → a ≡ b
one_later q a b h g = cc (h, g)

-- what the runs make is of the same rounds
rest_makes : (every : List (Made × Choice) → Bool) (p q later : List Stored) (rest : List (List Stored)) → step q ≡ Some later → EachMakesNoSkip every p (q ∷ rest) → MakesNoSkip every p q × ((x : List Stored) → IsOneOf x rest → EachMakesNoSkip every later rest)
rest_makes every p q later rest h (last_makes _ _ m) = (m, λ x i. elim i [ ])
rest_makes every p q later rest h (one_makes _ _ k _ m g e) = (m, λ x i. subst (λ u. EachMakesNoSkip every u rest) (one_later q k later g h) e)

last_one_makes : (every : List (Made × Choice) → Bool) (p q : List Stored) (rest : List (List Stored)) → EachMakesNoSkip every p (q ∷ rest) → MakesNoSkip every p q
last_one_makes every p q rest (last_makes _ _ m) = m
last_one_makes every p q rest (one_makes _ _ k _ m g e) = m

no_skip : (every : List (Made × Choice) → Bool) (p : List Stored) (left : List (List Stored)) → Driven p left → EachMakesNoSkip every p left → HasNoSkip every p → (x : List Stored) → IsOneOf x left → HasNoSkip every x
no_skip every p left (last_run _ q l h) m old x (inr i) = elim i [ ]
no_skip every p left (last_run _ q l h) m old x (inl i) = subst (HasNoSkip every) (sym i) (left_no_skip every p q l (last_one_makes every p q [] m) old)
no_skip every p left (one_run _ q later rest l h d) m old x (inl i) = subst (HasNoSkip every) (sym i) (left_no_skip every p q l (last_one_makes every p q rest m) old)
no_skip every p left (one_run _ q later rest l h d) m old x (inr i) =
    let z = rest_makes every p q later rest h m in
    no_skip every later rest d (z.1 x i) (step_no_skip every q later (step_some q later h) (left_no_skip every p q l z.0 old)) x i

pub no_skip_law : NoSkipLaw
unfolding node_at
no_skip_law every left d m q i = no_skip every [] left d m (λ before n h e o s. cc h) q i
