-- The path while a run is under way.
use Rattle.std.proofs.Common.{◌≡◌, ◌≢◌, ◌⊎◌, ℕ, zero, suc, ◌+◌, ◌<◌, ◌≤◌, Bool, true, false, ◌&&◌, ◌||◌, List, [], ◌∷◌, ◌++◌, length, Option, Some, None, refl, ap, ap₂, sym, ◌∙◌, subst, inl, inr, arith, append_assoc, append-nil, length-append}
use mathlib.Core.Path.{fun_ext}
use Rattle.loom_objects.specs.declared.choice.Choice.{Choice}
use Rattle.loom_objects.specs.Tree.Question.{Made}
use Rattle.loom_engine.specs.Walk.Machine.{Machine, run}
use Rattle.loom_engine.specs.Walk.Sound.{IsMachine}
use Rattle.loom_engine.specs.Walk.Path.{Status, Closed, Skip, Pending, Active, Visited, Stored, choices, node_at, new_nodes, fresh, mark, mark_all, mark_status, after_run}
use Rattle.loom_engine.specs.Walk.UnderWay.{mark_with, IsUnderWay, begins, follows, makes, marks_more, Meets, IsPartedAt, OverLaw, MeetingLaw}
use Rattle.loom_engine.proofs.Walk.Lists.{node_chooses, chooses_node, node_on, choices_append, snoc_append, TwoSplits, earlier, same_place, later, two_splits}
use Rattle.loom_engine.proofs.Walk.After.{node_in, append_there, append_back, new_choices}

-- the same without marks
data Unmarked (m : Machine) (p : List Stored) : List Choice → List Stored → Type 0 where
  starts : Unmarked m p [] p
  goes : (c : List Choice) (u : List Stored) (n : Stored) → Unmarked m p c u → node_at u c ≡ Some n → m.node c ≡ Some n.made → Unmarked m p (c ++ n.present ∷ []) u
  adds : (c : List Choice) (u : List Stored) (n : Made) → Unmarked m p c u → c ≡ choices u → m.node c ≡ Some n
      → Unmarked m p (c ++ n.default ∷ []) (u ++ fresh (m.every c) n ∷ [])

with_back : (marks : ℕ → Choice → Bool) (k : ℕ) (u : List Stored) (before : List Choice) (y : Stored) → node_at (mark_with marks k u) before ≡ Some y
    → (n : Stored) × (node_at u before ≡ Some n) × (y.made ≡ n.made) × (y.present ≡ n.present)
unfolding node_at
with_back marks k [] before y h = absurd (cc h)
with_back marks k (x ∷ u) [] y h = (x, refl, ap (λ (z : Stored). z.made) (back h), ap (λ (z : Stored). z.present) (back h))
  where
    back : Some (record x { status = λ o. mark_status (marks k o) (x.status o) }) ≡ Some y → y ≡ record x { status = λ o. mark_status (marks k o) (x.status o) }
    back h = cc h
with_back marks k (x ∷ u) (c ∷ before) y h =
    let g = node_in (record x { status = λ o. mark_status (marks k o) (x.status o) }) (mark_with marks (suc k) u) c before y h in
    let z = with_back marks (suc k) u before y g.1 in
    (z.0, node_on x u c before g.0 ∙ z.1, z.2, z.3)

with_choices : (marks : ℕ → Choice → Bool) (k : ℕ) (u : List Stored) → choices (mark_with marks k u) ≡ choices u
with_choices marks k [] = refl
with_choices marks k (x ∷ u) = ap (λ t. x.present ∷ t) (with_choices marks (suc k) u)

twice : (a b : Bool) (s : Status) → mark_status a (mark_status b s) ≡ mark_status (a || b) s
twice true true Closed = refl
twice true false Closed = refl
twice false b Closed = refl
twice true true Skip = refl
twice true false Skip = refl
twice false true Skip = refl
twice false false Skip = refl
twice a b Pending = refl
twice a b Active = refl
twice a b Visited = refl

-- marks that are made after others are made as one
pub with_twice : (more old : ℕ → Choice → Bool) (k : ℕ) (u : List Stored) → mark_with more k (mark_with old k u) ≡ mark_with (λ i o. more i o || old i o) k u
with_twice more old k [] = refl
with_twice more old k (x ∷ u) =
    ap₂ (λ (s : Choice → Status) (t : List Stored). record x { status = s } ∷ t) (fun_ext (λ o. twice (more k o) (old k o) (x.status o))) (with_twice more old (suc k) u)

none_status : (s : Status) → s ≡ mark_status false s
none_status Closed = refl
none_status Skip = refl
none_status Pending = refl
none_status Active = refl
none_status Visited = refl

-- no marks change nothing
pub with_none : (k : ℕ) (u : List Stored) → u ≡ mark_with (λ i o. false) k u
with_none k [] = refl
with_none k (x ∷ u) = ap₂ (λ (s : Choice → Status) (t : List Stored). record x { status = s } ∷ t) (fun_ext (λ o. none_status (x.status o))) (with_none (suc k) u)

-- marks that agree at the nodes are the same
pub with_same : (a b : ℕ → Choice → Bool) (k : ℕ) (u : List Stored) → ((i : ℕ) (o : Choice) → i < k + length u → a i o ≡ b i o) → mark_with a k u ≡ mark_with b k u
with_same a b k [] h = refl
with_same a b k (x ∷ u) h =
    ap₂ (λ (s : Choice → Status) (t : List Stored). record x { status = s } ∷ t) (fun_ext (λ o. ap (λ f. mark_status f (x.status o)) (h k o (omega arith))))
    (with_same a b (suc k) u (λ i o l. h i o (omega arith)))

-- a new node that has no marks is added after the marks are made
pub with_append : (a : ℕ → Choice → Bool) (k i : ℕ) (u : List Stored) (x : Stored) → i ≡ k + length u → ((o : Choice) → a i o ≡ false) → mark_with a k (u ++ x ∷ []) ≡ mark_with a k u ++ x ∷ []
with_append a k i [] x e h =
    let g : i ≡ k = omega arith in
    ap (λ (s : Choice → Status). record x { status = s } ∷ []) (fun_ext (λ o. ap (λ f. mark_status f (x.status o)) (sym (ap (λ j. a j o) g) ∙ h o) ∙ sym (none_status (x.status o))))
with_append a k i (y ∷ u) x e h = ap (λ t. record y { status = λ o. mark_status (a k o) (y.status o) } ∷ t) (with_append a (suc k) i u x (omega arith) h)

with_all : (m : Machine) (r : List Choice) (k : ℕ) (u : List Stored) → mark_with (λ i o. m.reduce && m.marks r i o) k u ≡ mark_all m r k u
with_all m r k [] = refl
with_all m r k (x ∷ u) = ap (λ t. mark m r k x ∷ t) (with_all m r (suc k) u)

length_choices : (p : List Stored) → length (choices p) ≡ length p
length_choices [] = refl
length_choices (n ∷ p) = ap suc (length_choices p)

-- the path without its marks
record Plain (m : Machine) (p : List Stored) (c : List Choice) (marks : ℕ → Choice → Bool) (q : List Stored) : Type 0 where
  u : List Stored
  plain : Unmarked m p c u
  is : q ≡ mark_with marks zero u
  early : (k : ℕ) (o : Choice) → marks k o ≡ true → k < length c

not_true : (b : Bool) → (b ≡ true → ⊥) → b ≡ false
not_true true h = absurd (h refl)
not_true false h = refl

either_true : (a b : Bool) → (a || b) ≡ true → (a ≡ true) ⊎ (b ≡ true)
either_true true b h = inl refl
either_true false b h = inr h

plain_of : (m : Machine) (p : List Stored) (c : List Choice) (t : ℕ → Choice → Bool) (q : List Stored) → IsUnderWay m p c t q → Plain m p c t q
plain_of m p c t q begins = record { u = p; plain = starts; is = with_none zero p; early = λ k o h. absurd (cc h) }
plain_of m p c t q (follows d _ _ n w h g) = go (plain_of m p d t q w)
  where
    go : Plain m p d t q → Plain m p (d ++ n.present ∷ []) t q
    go z =
        let b = with_back t zero z.u d n (subst (λ y. node_at y d ≡ Some n) z.is h) in
        record {
          u = z.u;
          plain = subst (λ y. Unmarked m p (d ++ y ∷ []) z.u) (sym b.3) (goes d z.u b.0 z.plain b.1 (g ∙ ap Some b.2));
          is = z.is;
          early = λ k o e. omega (arith, z.early k o e, length-append d (n.present ∷ []));
        }
plain_of m p c t q (makes d _ v n w h g) = go (plain_of m p d t v w)
  where
    go : Plain m p d t v → Plain m p (d ++ n.default ∷ []) t (v ++ fresh (m.every d) n ∷ [])
    go z =
        let same_choices : d ≡ choices z.u = h ∙ ap choices z.is ∙ with_choices t zero z.u in
        let size : length d ≡ length z.u = ap length same_choices ∙ length_choices z.u in
        record {
          u = z.u ++ fresh (m.every d) n ∷ [];
          plain = adds d z.u n z.plain same_choices g;
          is = ap (λ y. y ++ fresh (m.every d) n ∷ []) z.is
              ∙ sym (with_append t zero (length d) z.u (fresh (m.every d) n) (omega (arith, size)) (λ o. not_true (t (length d) o) (λ e. omega (arith, z.early (length d) o e))));
          early = λ k o e. omega (arith, z.early k o e, length-append d (n.default ∷ []));
        }
plain_of m p c t q (marks_more _ old more v w h) = go (plain_of m p c old v w)
  where
    go : Plain m p c old v → Plain m p c (λ k o. more k o || old k o) (mark_with more zero v)
    go z =
        record {
          u = z.u;
          plain = z.plain;
          is = ap (λ y. mark_with more zero y) z.is ∙ with_twice more old zero z.u;
          early = λ k o e. elim (either_true (more k o) (old k o) e) [ inl f ↦ h k o f | inr f ↦ z.early k o f ];
        }

-- the nodes that are made from c on
data Grown (m : Machine) : List Choice → List Stored → Type 0 where
  no_more : (c : List Choice) → m.node c ≡ None → Grown m c []
  one_more : (c : List Choice) (n : Made) (v : List Stored) → m.node c ≡ Some n → Grown m (c ++ n.default ∷ []) v → Grown m c (fresh (m.every c) n ∷ v)

grown_none : (m : Machine) (c : List Choice) (v : List Stored) → Grown m c v → m.node c ≡ None → v ≡ []
grown_none m c v (no_more _ e) h = refl
grown_none m c v (one_more _ n t e g) h = absurd (cc (e, h))

grown_some : (m : Machine) (c : List Choice) (v : List Stored) (n : Made) → Grown m c v → m.node c ≡ Some n → (t : List Stored) × (v ≡ fresh (m.every c) n ∷ t) × Grown m (c ++ n.default ∷ []) t
grown_some m c v n (no_more _ e) h = absurd (cc (e, h))
grown_some m c v n (one_more _ k t e g) h =
    let f : k ≡ n = cc (e, h) in
    (t, ap (λ (y : Made). fresh (m.every c) y ∷ t) f, subst (λ (y : Made). Grown m (c ++ y.default ∷ []) t) f g)

one_growth : (m : Machine) (c : List Choice) (v w : List Stored) → Grown m c v → Grown m c w → v ≡ w
one_growth m c v w (no_more _ e) g = sym (grown_none m c w g e)
one_growth m c v w (one_more _ n t e f) g =
    let z = grown_some m c w n g e in ap (λ y. fresh (m.every c) n ∷ y) (one_growth m (c ++ n.default ∷ []) t z.0 f z.2) ∙ sym z.1

grown_new : (m : Machine) → IsMachine m → (fuel : ℕ) (c : List Choice) → m.limit ≤ fuel + length c → Grown m c (new_nodes m fuel c)
unfolding new_nodes
grown_new m w zero c h = no_more c (w.ends c (omega arith))
grown_new m w (suc fuel) c h = go (m.node c) refl (λ d. grown_new m w fuel (c ++ d ∷ []) (omega (arith, length-append c (d ∷ []))))
  where
    go : (x : Option Made) → m.node c ≡ x → ((d : Choice) → Grown m (c ++ d ∷ []) (new_nodes m fuel (c ++ d ∷ [])))
        → Grown m c (elim x [ None ↦ [] | Some n ↦ fresh (m.every c) n ∷ new_nodes m fuel (c ++ n.default ∷ []) ])
    go None e ih = no_more c e
    go (Some n) e ih = one_more c n (new_nodes m fuel (c ++ n.default ∷ [])) e (ih n.default)

-- while nodes of the path are followed there are no new ones; then each was made past the last
data Stage (m : Machine) (p : List Stored) (c : List Choice) (u : List Stored) : Type 0 where
  following : (e : List Choice) → choices p ≡ c ++ e → u ≡ p → Stage m p c u
  growing : (w : List Stored) → u ≡ p ++ w → c ≡ choices u → ((v : List Stored) → Grown m c v → Grown m (choices p) (w ++ v)) → Stage m p c u

stage : (m : Machine) (p : List Stored) (c : List Choice) (u : List Stored) → Unmarked m p c u → Stage m p c u
stage m p c u starts = following (choices p) refl refl
stage m p c u (goes d _ n w h g) = go (stage m p d u w)
  where
    go : Stage m p d u → Stage m p (d ++ n.present ∷ []) u
    go (following e i j) =
        let b = node_chooses u d n h in
        following b.0 (sym (ap choices j) ∙ b.1 ∙ sym (snoc_append d n.present b.0)) j
    go (growing v i j k) =
        let b = node_chooses u d n h in absurd (not_longer_here b.0 (j ∙ b.1))
      where
        not_longer_here : (after : List Choice) → d ≡ d ++ n.present ∷ after → ⊥
        not_longer_here after e = omega (arith, ap length e, length-append d (n.present ∷ after))
stage m p c u (adds d v n w h g) = go (stage m p d v w)
  where
    grows : (a : List Stored) → v ≡ p ++ a → ((t : List Stored) → Grown m d t → Grown m (choices p) (a ++ t)) → Stage m p (d ++ n.default ∷ []) (v ++ fresh (m.every d) n ∷ [])
    grows a i k =
        growing (a ++ fresh (m.every d) n ∷ []) (ap (λ y. y ++ fresh (m.every d) n ∷ []) i ∙ append_assoc p a (fresh (m.every d) n ∷ []))
        (ap (λ y. y ++ n.default ∷ []) h ∙ sym (choices_append v (fresh (m.every d) n ∷ [])))
        (λ t f. subst (Grown m (choices p)) (sym (append_assoc a (fresh (m.every d) n ∷ []) t)) (k (fresh (m.every d) n ∷ t) (one_more d n t g f)))

    go : Stage m p d v → Stage m p (d ++ n.default ∷ []) (v ++ fresh (m.every d) n ∷ [])
    go (following e i j) =
        let whole : d ≡ choices p = h ∙ ap choices j in
        grows [] (j ∙ sym (append-nil p)) (λ t f. subst (λ y. Grown m y t) whole f)
    go (growing a i j k) = grows a i k

nothing_after : (a : List Choice) (x : Choice) (after : List Choice) → [] ≡ a ++ x ∷ after → ⊥
nothing_after [] x after h = cc h
nothing_after (b ∷ a) x after h = cc h

no_node_at_end : (u : List Stored) (c : List Choice) (n : Stored) → c ≡ choices u → node_at u c ≡ Some n → ⊥
no_node_at_end u c n h g = let b = node_chooses u c n g in omega (arith, ap length (h ∙ b.1), length-append c (n.present ∷ b.0))

last_node : (v : List Stored) (x : Stored) (c : List Choice) (n : Stored) → c ≡ choices v → node_at (v ++ x ∷ []) c ≡ Some n → x ≡ n
unfolding node_at
last_node v x c n h g = elim (append_back v (x ∷ []) c n g) [ inl f ↦ absurd (no_node_at_end v c n h f) | inr f ↦ go f.0 f.1 f.2 ]
  where
    go : (e : List Choice) → c ≡ choices v ++ e → node_at (x ∷ []) e ≡ Some n → x ≡ n
    go [] i j = cc j
    go (b ∷ e) i j = absurd (omega (arith, ap length (sym h ∙ i), length-append (choices v) (b ∷ e)))

-- each node that was passed is the one that the machine meets
passed : (m : Machine) (p : List Stored) (c : List Choice) (u : List Stored) → Unmarked m p c u → (before : List Choice) (x : Choice) (after : List Choice) (n : Stored) → c ≡ before ++ x ∷ after
    → node_at u before ≡ Some n → m.node before ≡ Some n.made
passed m p c u starts before x after n h g = absurd (nothing_after before x after h)
passed m p c u (goes d _ k w f e) before x after n h g =
    go (two_splits d k.present [] before x after h) (λ a i. passed m p d u w before x a n i g)
  where
    go : TwoSplits d k.present [] before x after → ((a : List Choice) → d ≡ before ++ x ∷ a → m.node before ≡ Some n.made) → m.node before ≡ Some n.made
    go (earlier a i j) ih = absurd (nothing_after a x after j)
    go (same_place i j l) ih =
        let same_node : k ≡ n = cc (f, g, ap (node_at u) i) in
        sym (ap m.node i) ∙ e ∙ ap (λ (y : Stored). Some y.made) same_node
    go (later a i j) ih = ih a i
passed m p c u (adds d v k w f e) before x after n h g =
    go (two_splits d k.default [] before x after h) (λ a i j. passed m p d v w before x a n i j)
  where
    go : TwoSplits d k.default [] before x after → ((a : List Choice) → d ≡ before ++ x ∷ a → node_at v before ≡ Some n → m.node before ≡ Some n.made) → m.node before ≡ Some n.made
    go (earlier a i j) ih = absurd (nothing_after a x after j)
    go (same_place i j l) ih =
        let same_node : fresh (m.every d) k ≡ n = last_node v (fresh (m.every d) k) d n f (ap (node_at (v ++ fresh (m.every d) k ∷ [])) i ∙ g) in
        sym (ap m.node i) ∙ e ∙ ap (λ (y : Stored). Some y.made) same_node
    go (later a i j) ih = elim (append_back v (fresh (m.every d) k ∷ []) before n g) [
      | inl l ↦ ih a i l
      | inr l ↦ absurd (omega (arith, ap length (sym f ∙ (i ∙ ap (λ y. y ++ x ∷ a) l.1)), length-append (choices v ++ l.0) (x ∷ a), length-append (choices v) l.0))
    ]

-- when the run is over the new nodes are those of the defaults
record Whole (m : Machine) (p : List Stored) (u : List Stored) : Type 0 where
  w : List Stored
  joined : u ≡ p ++ w
  grown : Grown m (choices p) w

whole_of : (m : Machine) (p : List Stored) (c : List Choice) (u : List Stored) → Stage m p c u → m.node c ≡ None → c ≡ choices u → Whole m p u
whole_of m p c u (following e i j) h g =
    record { w = []; joined = j ∙ sym (append-nil p); grown = subst (λ y. Grown m y []) (g ∙ ap choices j) (no_more c h) }
whole_of m p c u (growing w i j k) h g = record { w = w; joined = i; grown = subst (Grown m (choices p)) (append-nil w) (k [] (no_more c h)) }

pub over_law : OverLaw
unfolding run
over_law m p q c t w way h g = (meets, leads, left)
  where
    z : Plain m p c t q
    z = plain_of m p c t q way

    same_choices : c ≡ choices z.u
    same_choices = g ∙ ap choices z.is ∙ with_choices t zero z.u

    all : Whole m p z.u
    all = whole_of m p c z.u (stage m p c z.u z.plain) h same_choices

    same_new : all.w ≡ new_nodes m m.limit (choices p)
    same_new = one_growth m (choices p) all.w (new_nodes m m.limit (choices p)) all.grown (grown_new m w m.limit (choices p) (omega arith))

    whole : z.u ≡ p ++ new_nodes m m.limit (choices p)
    whole = all.joined ∙ ap (λ y. p ++ y) same_new

    leads : c ≡ run m (choices p)
    leads = same_choices ∙ ap choices whole ∙ choices_append p (new_nodes m m.limit (choices p)) ∙ new_choices m m.limit (choices p)

    size : length c ≡ length z.u
    size = ap length same_choices ∙ length_choices z.u

    meets : Meets m p
    meets before n e =
        let b = node_chooses p before n e in
        let there : node_at z.u before ≡ Some n = ap (λ y. node_at y before) all.joined ∙ append_there p all.w before n e in
        let splits : c ≡ before ++ n.present ∷ (b.0 ++ choices all.w) =
        same_choices ∙ ap choices all.joined ∙ choices_append p all.w ∙ ap (λ y. y ++ choices all.w) b.1 ∙ append_assoc before (n.present ∷ b.0) (choices all.w) in
        passed m p c z.u z.plain before n.present (b.0 ++ choices all.w) n splits there

    left : ((k : ℕ) (o : Choice) → k < length c → t k o ≡ (m.reduce && m.marks c k o)) → q ≡ after_run m p
    left e =
        z.is ∙ with_same t (λ k o. m.reduce && m.marks c k o) zero z.u (λ k o l. e k o (omega (arith, size, l))) ∙ with_all m c zero z.u
        ∙ ap₂ (λ r y. mark_all m r zero y) leads whole

pub meeting_law : MeetingLaw
meeting_law m p q c t meets way = (met, used)
  where
    z : Plain m p c t q
    z = plain_of m p c t q way

    here : (n : Stored) → node_at z.u c ≡ Some n → Stage m p c z.u → m.node c ≡ Some n.made
    here n h (following e i j) = meets c n (sym (ap (λ y. node_at y c) j) ∙ h)
    here n h (growing a i j k) = absurd (no_node_at_end z.u c n j h)

    met : (n : Stored) → node_at q c ≡ Some n → m.node c ≡ Some n.made
    met n h =
        let b = with_back t zero z.u c n (sym (ap (λ y. node_at y c) z.is) ∙ h) in
        here b.0 b.1 (stage m p c z.u z.plain) ∙ ap Some (sym b.2)

    end : m.node c ≡ None → Stage m p c z.u → c ≡ choices z.u
    end h (following [] i j) = sym (append-nil c) ∙ sym i ∙ ap choices (sym j)
    end h (following (x ∷ e) i j) = let b = chooses_node p c x e i in absurd (cc (h, meets c b.0 b.1))
    end h (growing a i j k) = j

    used : m.node c ≡ None → c ≡ choices q
    used h = end h (stage m p c z.u z.plain) ∙ sym (ap choices z.is ∙ with_choices t zero z.u)

-- where the path's next node isn't the one that the machine meets, the run parts from the path that it began with
pub parted : (m : Machine) (p q : List Stored) (c : List Choice) (t : ℕ → Choice → Bool) (n : Stored) → IsUnderWay m p c t q → node_at q c ≡ Some n → m.node c ≢ Some n.made → IsPartedAt m p c
parted m p q c t n way h other = go (plain_of m p c t q way)
  where
    go : Plain m p c t q → IsPartedAt m p c
    go z = by_stage (stage m p c z.u z.plain)
      where
        b : (k : Stored) × (node_at z.u c ≡ Some k) × (n.made ≡ k.made) × (n.present ≡ k.present)
        b = with_back t zero z.u c n (sym (ap (λ y. node_at y c) z.is) ∙ h)

        by_stage : Stage m p c z.u → IsPartedAt m p c
        by_stage (following e i j) = record {
          before = λ front x rest k f g. passed m p c z.u z.plain front x rest k f (ap (λ y. node_at y front) j ∙ g);
          node = b.0;
          stands = sym (ap (λ y. node_at y c) j) ∙ b.1;
          other = λ f. other (f ∙ ap Some (sym b.2));
        }
        by_stage (growing w i j k) = absurd (no_node_at_end z.u c b.0 j b.1)

-- it isn't one of the machine's
pub parted_foreign : (m : Machine) (p : List Stored) (c : List Choice) → IsPartedAt m p c → Meets m p → ⊥
parted_foreign m p c z meets = z.other (meets c z.node z.stands)
