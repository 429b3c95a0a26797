-- Rounds from any path try each option that is to be tried, or the path had tried it.
use Rattle.std.proofs.Common.{◌≡◌, ◌⊎◌, true, List, [], ◌∷◌, ◌++◌, Some, refl, ap, sym, ◌∙◌, inl, inr}
use Rattle.loom_objects.specs.declared.choice.Choice.{Choice}
use Rattle.loom_engine.specs.Walk.Path.{Pending, Visited, Stored, choices, node_at, IsAtRest, choose}
use Rattle.loom_engine.specs.Walk.Lists.{Begins}
use Rattle.loom_engine.specs.Walk.Driven.{IsLeftBy, Driven, last_run, one_run, IsOneOf, ToBeTried}
use Rattle.loom_engine.proofs.Walk.Lists.{node_chooses, snoc_append}
use Rattle.loom_engine.proofs.Walk.Statuses.{nothing_pending, Chosen, was_present, is_next, is_other, chosen_cases}
use Rattle.loom_engine.proofs.Walk.Stepping.{Steps, step_some, step_none}
use Rattle.loom_engine.proofs.Walk.Left.{NextPlace, above_next, at_next, next_place, OldPlace, above_old, at_old, below_old, old_place}

-- some path of these chooses so
abbrev pub Tries : List (List Stored) → List Choice → Choice → Type 0
Tries left before o = (x : List Stored) × IsOneOf x left × Begins (before ++ o ∷ []) (choices x)

-- a path that chooses o at a node begins so
chooses_so : (q : List Stored) (before : List Choice) (n : Stored) (o : Choice) → node_at q before ≡ Some n → n.present ≡ o → Begins (before ++ o ∷ []) (choices q)
chooses_so q before n o h e =
    let b = node_chooses q before n h in (b.0, b.1 ∙ ap (λ u. before ++ u ∷ b.0) e ∙ sym (snoc_append before o b.0))

-- the first run of a walk begins as its path does
first_tries : (p : List Stored) (left : List (List Stored)) → Driven p left → (before : List Choice) (n : Stored) (o : Choice) → node_at p before ≡ Some n → n.present ≡ o → Tries left before o
first_tries p left (last_run _ q l h) before n o g e = let k = l.kept before n g in (q, inl refl, chooses_so q before k.0 o k.1 (k.3 ∙ e))
first_tries p left (one_run _ q later rest l h d) before n o g e = let k = l.kept before n g in (q, inl refl, chooses_so q before k.0 o k.1 (k.3 ∙ e))

-- what is pending in the path that a run left is tried by a later run
after_step : (q later : List Stored) (rest : List (List Stored)) → ((before : List Choice) (k : Stored) → node_at q before ≡ Some k → IsAtRest k) → Steps q later → Driven later rest
    → (before : List Choice) (k : Stored) (o : Choice) → node_at q before ≡ Some k → k.made.exploring ≡ true → k.status o ≡ Pending
    → ((n : Stored) → node_at later before ≡ Some n → n.made.exploring ≡ true → n.status o ≡ Pending → Tries rest before o) → Tries rest before o
unfolding Steps
after_step q later rest w (branch, n, c, s) d before k o h ex e ih = go (old_place q later branch n c s before k h)
  where
    here : before ≡ branch → k ≡ n → Chosen n c o ((choose n c).status o) → Tries rest before o
    here i j (was_present f g) = absurd (cc (e, (w branch n s.at).active, ap (λ (z : Stored). z.status o) j, ap n.status f))
    here i j (is_next f g l) = first_tries later rest d before (choose n c) o (ap (node_at later) i ∙ s.here) (sym g)
    here i j (is_other f g l) = ih (choose n c) (ap (node_at later) i ∙ s.here) s.exploring (l ∙ sym (ap (λ (z : Stored). z.status o) j) ∙ e)

    go : OldPlace later branch n before k → Tries rest before o
    go (above_old g) = ih k g ex e
    go (at_old i j) = here i j (chosen_cases n c o)
    go (below_old f i g) = absurd (nothing_pending k (w before k h) g ex o e)

in_later : (q : List Stored) (rest : List (List Stored)) (before : List Choice) (o : Choice) → Tries rest before o → Tries (q ∷ rest) before o
in_later q rest before o z = (z.0, inr z.1, z.2)

-- what is pending in a path is tried by a run of the walk from it
pending_tried : (p : List Stored) (left : List (List Stored)) → Driven p left → (before : List Choice) (n : Stored) (o : Choice) → node_at p before ≡ Some n → n.made.exploring ≡ true
    → n.status o ≡ Pending → Tries left before o
pending_tried p left (last_run _ q l h) before n o g ex e =
    let k = l.kept before n g in
    absurd (nothing_pending k.0 (l.rest before k.0 k.1) (step_none q h before k.0 k.1) (ap (λ (y : _). y.exploring) k.2 ∙ ex) o (k.4 o (λ f. cc (e, f)) ∙ e))
pending_tried p left (one_run _ q later rest l h d) before n o g ex e =
    let k = l.kept before n g in
    in_later q rest before o
    (after_step q later rest l.rest (step_some q later h) d before k.0 o k.1 (ap (λ (y : _). y.exploring) k.2 ∙ ex) (k.4 o (λ f. cc (e, f)) ∙ e)
    (λ y i j f. pending_tried later rest d before y o i j f))

-- what a run took before is visited
later_visited : (seen : List Choice → Choice → Type 0) (p q later : List Stored) → IsLeftBy p q
    → ((before : List Choice) (n : Stored) (o : Choice) → node_at p before ≡ Some n → n.status o ≡ Visited → seen before o)
    → Steps q later → (before : List Choice) (y : Stored) (o : Choice) → node_at later before ≡ Some y → y.status o ≡ Visited
    → seen before o ⊎ Begins (before ++ o ∷ []) (choices q)
unfolding Steps
later_visited seen p q later l old (branch, n, c, s) before y o h e = go (next_place q later branch n c s before y h)
  where
    was : (k : Stored) → node_at q before ≡ Some k → k.status o ≡ Visited → seen before o ⊎ Begins (before ++ o ∷ []) (choices q)
    was k g f = let z = l.visited before k o g f in inl (old before z.0 o z.1 z.2)

    here : before ≡ branch → y ≡ choose n c → Chosen n c o ((choose n c).status o) → seen before o ⊎ Begins (before ++ o ∷ []) (choices q)
    here i j (was_present f g) = inr (chooses_so q before n o (ap (node_at q) i ∙ s.at) (sym f))
    here i j (is_next f g k) = absurd (cc (k, e, ap (λ (z : Stored). z.status o) j))
    here i j (is_other f g k) = was n (ap (node_at q) i ∙ s.at) (sym k ∙ sym (ap (λ (z : Stored). z.status o) j) ∙ e)

    go : NextPlace q branch n c before y → seen before o ⊎ Begins (before ++ o ∷ []) (choices q)
    go (above_next g) = was y g e
    go (at_next i j) = here i j (chosen_cases n c o)

-- what is to be tried at a path of the walk is tried by a run, or was seen as tried where the walk began
pub each_tried : (seen : List Choice → Choice → Type 0) (p : List Stored) (left : List (List Stored)) → Driven p left
    → ((before : List Choice) (n : Stored) (o : Choice) → node_at p before ≡ Some n → n.status o ≡ Visited → seen before o)
    → (x : List Stored) → IsOneOf x left → (before : List Choice) (n : Stored) (o : Choice) → node_at x before ≡ Some n → n.made.exploring ≡ true → ToBeTried (n.status o)
    → seen before o ⊎ Tries left before o
each_tried seen p left (last_run _ q l h) old x (inr i) before n o g ex t = elim i [ ]
each_tried seen p left (last_run _ q l h) old x (inl i) before n o g ex t = go t
  where
    at : node_at q before ≡ Some n
    at = ap (λ y. node_at y before) (sym i) ∙ g

    go : ToBeTried (n.status o) → seen before o ⊎ Tries (q ∷ []) before o
    go (inl e) = absurd (nothing_pending n (l.rest before n at) (step_none q h before n at) ex o e)
    go (inr (inl e)) = inr (q, inl refl, chooses_so q before n o at (sym ((l.rest before n at).one o e)))
    go (inr (inr e)) = let z = l.visited before n o at e in inl (old before z.0 o z.1 z.2)
each_tried seen p left (one_run _ q later rest l h d) old x (inl i) before n o g ex t = go t
  where
    at : node_at q before ≡ Some n
    at = ap (λ y. node_at y before) (sym i) ∙ g

    go : ToBeTried (n.status o) → seen before o ⊎ Tries (q ∷ rest) before o
    go (inl e) =
        inr (in_later q rest before o (after_step q later rest l.rest (step_some q later h) d before n o at ex e (λ y i j f. pending_tried later rest d before y o i j f)))
    go (inr (inl e)) = inr (q, inl refl, chooses_so q before n o at (sym ((l.rest before n at).one o e)))
    go (inr (inr e)) = let z = l.visited before n o at e in inl (old before z.0 o z.1 z.2)
each_tried seen p left (one_run _ q later rest l h d) old x (inr i) before n o g ex t =
    go (each_tried (λ b c. seen b c ⊎ Begins (b ++ c ∷ []) (choices q)) later rest d (λ b y c k e. later_visited seen p q later l old (step_some q later h) b y c k e) x i before n o g ex t)
  where
    go : ((seen before o ⊎ Begins (before ++ o ∷ []) (choices q)) ⊎ Tries rest before o) → seen before o ⊎ Tries (q ∷ rest) before o
    go (inl (inl e)) = inl e
    go (inl (inr e)) = inr (q, inl refl, e)
    go (inr e) = inr (in_later q rest before o e)
