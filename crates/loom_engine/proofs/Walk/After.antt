-- The path when its run is over: its own nodes with the run's marks, and then new ones.
use Rattle.std.proofs.Common.{◌≡◌, ◌⊎◌, ℕ, zero, suc, ◌+◌, List, [], ◌∷◌, ◌++◌, length, Option, Some, None, refl, ap, sym, ◌∙◌, subst, inl, inr, arith, append_assoc, append-nil}
use Rattle.loom_objects.specs.declared.choice.Choice.{Choice}
use Rattle.loom_engine.specs.Walk.Choices.{same, pick}
use Rattle.loom_objects.specs.Tree.Question.{Made}
use Rattle.loom_engine.specs.Walk.Machine.{Machine, extend, run}
use Rattle.loom_engine.specs.Walk.Sound.{IsMachine}
use Rattle.loom_engine.specs.Walk.Path.{Stored, choices, node_at, fresh, new_nodes, mark, mark_all, after_run}
use Rattle.loom_engine.proofs.Walk.Lists.{node_chooses, node_on, choices_append, snoc_append}
use Rattle.loom_engine.proofs.Walk.Defaults.{Defaults, run_reached, takes_default}

-- past its present choice
pub node_in : (n : Stored) (p : List Stored) (c : Choice) (before : List Choice) (x : Stored) → node_at (n ∷ p) (c ∷ before) ≡ Some x → (c ≡ n.present) × (node_at p before ≡ Some x)
unfolding node_at
node_in n p c before x h = go (same c n.present) h
  where
    go : (d : Dec (c ≡ n.present)) → pick d (node_at p before) None ≡ Some x → (c ≡ n.present) × (node_at p before ≡ Some x)
    go (yes e) g = (e, g)
    go (no f) g = absurd (cc g)

pub mark_there : (m : Machine) (r : List Choice) (k : ℕ) (p : List Stored) (before : List Choice) (n : Stored) (i : ℕ) → i ≡ k + length before → node_at p before ≡ Some n
    → node_at (mark_all m r k p) before ≡ Some (mark m r i n)
unfolding node_at
mark_there m r k [] before n i e h = absurd (cc h)
mark_there m r k (x ∷ p) [] n i e h = let g : k ≡ i = omega arith in let f : x ≡ n = cc h in rw (g, f) refl
mark_there m r k (x ∷ p) (c ∷ before) n i e h =
    let g = node_in x p c before n h in
    node_on (mark m r k x) (mark_all m r (suc k) p) c before g.0 ∙ mark_there m r (suc k) p before n i (omega arith) g.1

pub mark_back : (m : Machine) (r : List Choice) (k : ℕ) (p : List Stored) (before : List Choice) (y : Stored) (i : ℕ) → i ≡ k + length before → node_at (mark_all m r k p) before ≡ Some y
    → (n : Stored) × (node_at p before ≡ Some n) × (y ≡ mark m r i n)
unfolding node_at
mark_back m r k [] before y i e h = absurd (cc h)
mark_back m r k (x ∷ p) [] y i e h = let g : k ≡ i = omega arith in let f : mark m r k x ≡ y = cc h in (x, refl, sym f ∙ ap (λ j. mark m r j x) g)
mark_back m r k (x ∷ p) (c ∷ before) y i e h =
    let g = node_in (mark m r k x) (mark_all m r (suc k) p) c before y h in
    let z = mark_back m r (suc k) p before y i (omega arith) g.1 in
    (z.0, node_on x p c before g.0 ∙ z.1, z.2)

pub mark_choices : (m : Machine) (r : List Choice) (k : ℕ) (p : List Stored) → choices (mark_all m r k p) ≡ choices p
mark_choices m r k [] = refl
mark_choices m r k (x ∷ p) = ap (λ t. x.present ∷ t) (mark_choices m r (suc k) p)

pub append_there : (p q : List Stored) (before : List Choice) (n : Stored) → node_at p before ≡ Some n → node_at (p ++ q) before ≡ Some n
unfolding node_at
append_there [] q before n h = absurd (cc h)
append_there (x ∷ p) q [] n h = h
append_there (x ∷ p) q (c ∷ before) n h = let g = node_in x p c before n h in node_on x (p ++ q) c before g.0 ∙ append_there p q before n g.1

-- a node of two paths that are joined is one of the first, or one of the second after all of the first
Joined : List Stored → List Stored → List Choice → Stored → Type 0
Joined p q before n = (node_at p before ≡ Some n) ⊎ ((e : List Choice) × (before ≡ choices p ++ e) × (node_at q e ≡ Some n) × (node_at p before ≡ None))

joined_on : (x : Stored) (p q : List Stored) (c : Choice) (before : List Choice) (n : Stored) → c ≡ x.present → Joined p q before n → Joined (x ∷ p) q (c ∷ before) n
unfolding Joined
joined_on x p q c before n e (inl h) = inl (node_on x p c before e ∙ h)
joined_on x p q c before n e (inr h) = inr (h.0, cc (e, h.1), h.2, node_on x p c before e ∙ h.3)

joined : (p q : List Stored) (before : List Choice) (n : Stored) → node_at (p ++ q) before ≡ Some n → Joined p q before n
unfolding node_at Joined
joined [] q before n h = inr (before, refl, h, refl)
joined (x ∷ p) q [] n h = inl h
joined (x ∷ p) q (c ∷ before) n h = let g = node_in x (p ++ q) c before n h in joined_on x p q c before n g.0 (joined p q before n g.1)

pub append_back : (p q : List Stored) (before : List Choice) (n : Stored) → node_at (p ++ q) before ≡ Some n
    → (node_at p before ≡ Some n) ⊎ ((e : List Choice) × (before ≡ choices p ++ e) × (node_at q e ≡ Some n) × (node_at p before ≡ None))
unfolding Joined
append_back p q before n h = joined p q before n h

-- new nodes
pub new_choices : (m : Machine) (fuel : ℕ) (c : List Choice) → c ++ choices (new_nodes m fuel c) ≡ extend m fuel c
unfolding new_nodes extend
new_choices m zero c = append-nil c
new_choices m (suc fuel) c = go (m.node c) (λ d. new_choices m fuel (c ++ d ∷ []))
  where
    go : (x : Option Made) → ((d : Choice) → (c ++ d ∷ []) ++ choices (new_nodes m fuel (c ++ d ∷ [])) ≡ extend m fuel (c ++ d ∷ []))
        → c ++ choices (elim x [ None ↦ [] | Some n ↦ fresh (m.every c) n ∷ new_nodes m fuel (c ++ n.default ∷ []) ])
        ≡ elim x [ None ↦ c | Some n ↦ extend m fuel (c ++ n.default ∷ []) ]
    go None ih = append-nil c
    go (Some n) ih = sym (snoc_append c n.default (choices (new_nodes m fuel (c ++ n.default ∷ [])))) ∙ ih n.default

pub IsNewAt : Machine → List Choice → Stored → Type 0
IsNewAt m before x = (made : Made) × (m.node before ≡ Some made) × (x ≡ fresh (m.every before) made)

new_here : (m : Machine) (fuel : ℕ) (c : List Choice) (e : List Choice) (x : Stored) (made : Made) → m.node c ≡ Some made
    → node_at (fresh (m.every c) made ∷ new_nodes m fuel (c ++ made.default ∷ [])) e ≡ Some x
    → ((d : List Choice) → node_at (new_nodes m fuel (c ++ made.default ∷ [])) d ≡ Some x → IsNewAt m ((c ++ made.default ∷ []) ++ d) x)
    → IsNewAt m (c ++ e) x
unfolding node_at IsNewAt
new_here m fuel c [] x made h g ih =
    let f : fresh (m.every c) made ≡ x = cc g in
    let s : c ++ [] ≡ c = append-nil c in
    (made, ap m.node s ∙ h, sym f ∙ ap (λ u. fresh (m.every u) made) (sym s))
new_here m fuel c (d ∷ e) x made h g ih =
    let z = node_in (fresh (m.every c) made) (new_nodes m fuel (c ++ made.default ∷ [])) d e x g in
    subst (λ u. IsNewAt m u x) (snoc_append c made.default e ∙ ap (λ u. c ++ u ∷ e) (sym z.0)) (ih e z.1)

pub new_at : (m : Machine) (fuel : ℕ) (c e : List Choice) (x : Stored) → node_at (new_nodes m fuel c) e ≡ Some x → IsNewAt m (c ++ e) x
unfolding new_nodes node_at
new_at m zero c e x h = absurd (cc h)
new_at m (suc fuel) c e x h = go (m.node c) refl h (λ made d g. new_at m fuel (c ++ made.default ∷ []) d x g)
  where
    go : (o : Option Made) → m.node c ≡ o → node_at (elim o [ None ↦ [] | Some n ↦ fresh (m.every c) n ∷ new_nodes m fuel (c ++ n.default ∷ []) ]) e ≡ Some x
        → ((made : Made) (d : List Choice) → node_at (new_nodes m fuel (c ++ made.default ∷ [])) d ≡ Some x → IsNewAt m ((c ++ made.default ∷ []) ++ d) x)
        → IsNewAt m (c ++ e) x
    go None f g ih = absurd (cc g)
    go (Some made) f g ih = new_here m fuel c e x made f g (ih made)

-- what the path q is to the path p whose run r is over
pub data IsNodeAfter (m : Machine) (p : List Stored) (r before : List Choice) (x : Stored) : Type 0 where
  was_there : (n : Stored) → node_at p before ≡ Some n → x ≡ mark m r (length before) n → IsNodeAfter m p r before x
  is_new : (made : Made) → node_at p before ≡ None → m.node before ≡ Some made → x ≡ mark m r (length before) (fresh (m.every before) made) → Defaults m before r
      → IsNodeAfter m p r before x

pub record IsAfter (m : Machine) (p q : List Stored) (r : List Choice) : Type 0 where
  pub run : Defaults m (choices p) r
  pub whole : choices q ≡ r
  pub kept : (before : List Choice) (n : Stored) → node_at p before ≡ Some n → node_at q before ≡ Some (mark m r (length before) n)
  pub each : (before : List Choice) (x : Stored) → node_at q before ≡ Some x → IsNodeAfter m p r before x

after_choices : (m : Machine) (p : List Stored) → choices (after_run m p) ≡ run m (choices p)
unfolding run
after_choices m p =
    mark_choices m (run m (choices p)) zero (p ++ new_nodes m m.limit (choices p))
    ∙ choices_append p (new_nodes m m.limit (choices p)) ∙ new_choices m m.limit (choices p)

after_each : (m : Machine) → IsMachine m → (p : List Stored) (before : List Choice) (x : Stored) → node_at (after_run m p) before ≡ Some x
    → IsNodeAfter m p (run m (choices p)) before x
unfolding IsNewAt
after_each m w p before x h =
    let r = run m (choices p) in
    let z = mark_back m r zero (p ++ new_nodes m m.limit (choices p)) before x (length before) (omega arith) h in
    go z.0 z.2 (append_back p (new_nodes m m.limit (choices p)) before z.0 z.1)
  where
    go : (n : Stored) → x ≡ mark m (run m (choices p)) (length before) n
        → ((node_at p before ≡ Some n) ⊎ ((e : List Choice) × (before ≡ choices p ++ e) × (node_at (new_nodes m m.limit (choices p)) e ≡ Some n) × (node_at p before ≡ None)))
        → IsNodeAfter m p (run m (choices p)) before x
    go n f (inl g) = was_there n g f
    go n f (inr g) =
        let r = run m (choices p) in
        let d = run_reached m w (choices p) in
        let new = new_at m m.limit (choices p) g.0 n g.2 in
        let at = node_chooses (after_run m p) before x h in
        let splits : r ≡ choices p ++ (g.0 ++ x.present ∷ at.0) =
        sym (after_choices m p) ∙ at.1 ∙ ap (λ u. u ++ x.present ∷ at.0) g.1 ∙ append_assoc (choices p) g.0 (x.present ∷ at.0) in
        let place : choices p ++ g.0 ≡ before = sym g.1 in
        let t = takes_default m g.0 (choices p) r x.present at.0 d splits in
        is_new new.0 g.3 (ap m.node (sym place) ∙ new.1)
        (f ∙ ap (mark m r (length before)) (new.2 ∙ ap (λ u. fresh (m.every u) new.0) place))
        (subst (λ u. Defaults m u r) place t.3)

pub after_run_is : (m : Machine) → IsMachine m → (p : List Stored) → IsAfter m p (after_run m p) (run m (choices p))
after_run_is m w p = record {
  run = run_reached m w (choices p);
  whole = after_choices m p;
  kept = λ before n h. mark_there m (run m (choices p)) zero (p ++ new_nodes m m.limit (choices p)) before n (length before) (omega arith) (append_there p (new_nodes m m.limit (choices p)) before n h);
  each = λ before x h. after_each m w p before x h;
}
