-- The run that makes given choices and then takes defaults.
use Rattle.std.proofs.Common.{◌≡◌, ℕ, zero, suc, ◌+◌, ◌≤◌, List, [], ◌∷◌, ◌++◌, length, Option, Some, None, refl, ap, sym, ◌∙◌, subst, arith, append-nil, length-append}
use Rattle.loom_objects.specs.declared.choice.Choice.{Choice}
use Rattle.loom_objects.specs.Tree.Question.{Made}
use Rattle.loom_engine.specs.Walk.Machine.{Machine, extend, run}
use Rattle.loom_engine.specs.Walk.Sound.{IsMachine}
use Rattle.loom_engine.proofs.Walk.Lists.{cancel_front, not_longer, snoc_append}

-- r is reached from c by defaults alone
pub data Defaults (m : Machine) : List Choice → List Choice → Type 0 where
  over : (c : List Choice) → m.node c ≡ None → Defaults m c c
  on : (c r : List Choice) (n : Made) → m.node c ≡ Some n → Defaults m (c ++ n.default ∷ []) r → Defaults m c r

-- one step of extend
pub extend_over : (m : Machine) (fuel : ℕ) (c : List Choice) → m.node c ≡ None → extend m (suc fuel) c ≡ c
unfolding extend
extend_over m fuel c e = rw (e, extend) refl

pub extend_on : (m : Machine) (fuel : ℕ) (c : List Choice) (n : Made) → m.node c ≡ Some n → extend m (suc fuel) c ≡ extend m fuel (c ++ n.default ∷ [])
unfolding extend
extend_on m fuel c n e = rw (e, extend) refl

pub reached : (m : Machine) → IsMachine m → (fuel : ℕ) (c : List Choice) → m.limit ≤ fuel + length c → Defaults m c (extend m fuel c)
unfolding extend
reached m w zero c h = over c (w.ends c (omega arith))
reached m w (suc fuel) c h = go (m.node c) refl (λ d. reached m w fuel (c ++ d ∷ []) (omega (arith, length-append c (d ∷ []))))
  where
    go : (x : Option Made) → m.node c ≡ x → ((d : Choice) → Defaults m (c ++ d ∷ []) (extend m fuel (c ++ d ∷ [])))
        → Defaults m c (elim x [ None ↦ c | Some n ↦ extend m fuel (c ++ n.default ∷ []) ])
    go None e ih = over c e
    go (Some n) e ih = on c _ n e (ih n.default)

no_default : (m : Machine) (c s : List Choice) → Defaults m c s → m.node c ≡ None → c ≡ s
no_default m c s (over d e) h = refl
no_default m c s (on d t n e f) h = absurd (cc (e, h))

pub one_default : (m : Machine) (c s : List Choice) (n : Made) → Defaults m c s → m.node c ≡ Some n → Defaults m (c ++ n.default ∷ []) s
one_default m c s n (over d e) h = absurd (cc (e, h))
one_default m c s n (on d t k e f) h = let g : k ≡ n = cc (e, h) in subst (λ (x : Made). Defaults m (c ++ x.default ∷ []) s) g f

pub one_end : (m : Machine) (c r s : List Choice) → Defaults m c r → Defaults m c s → r ≡ s
one_end m c r s (over d e) g = no_default m c s g e
one_end m c r s (on d t n e f) g = one_end m (c ++ n.default ∷ []) r s f (one_default m c s n g e)

pub run_reached : (m : Machine) → IsMachine m → (c : List Choice) → Defaults m c (run m c)
unfolding run
run_reached m w c = reached m w m.limit c (omega arith)

-- a run that defaults reach from c is the run of c
pub run_is : (m : Machine) → IsMachine m → (c r : List Choice) → Defaults m c r → run m c ≡ r
run_is m w c r d = one_end m c (run m c) r (run_reached m w c) d

pub goes_on : (m : Machine) (c r : List Choice) → Defaults m c r → (e : List Choice) × (r ≡ c ++ e)
goes_on m c r (over d e) = ([], sym (append-nil c))
goes_on m c r (on d s n e f) = let h = goes_on m (c ++ n.default ∷ []) r f in (n.default ∷ h.0, h.1 ∙ snoc_append c n.default h.0)

pub ends_over : (m : Machine) (c r : List Choice) → Defaults m c r → m.node r ≡ None
ends_over m c r (over d e) = e
ends_over m c r (on d s n e f) = ends_over m (c ++ n.default ∷ []) r f

-- past c the run takes defaults
pub takes_default : (m : Machine) (e : List Choice) (c r : List Choice) (x : Choice) (f : List Choice) → Defaults m c r → r ≡ c ++ (e ++ x ∷ f)
    → (n : Made) × (m.node (c ++ e) ≡ Some n) × (x ≡ n.default) × Defaults m (c ++ e) r
takes_default m [] c r x f (over d g) h = absurd (not_longer c x f h)
takes_default m (y ∷ e) c r x f (over d g) h = absurd (not_longer c y (e ++ x ∷ f) h)
takes_default m [] c r x f (on d s n g k) h =
    let t = goes_on m (c ++ n.default ∷ []) r k in
    let q : x ∷ f ≡ n.default ∷ t.0 = cancel_front c (x ∷ f) (n.default ∷ t.0) (sym h ∙ (t.1 ∙ snoc_append c n.default t.0)) in
    (n, ap m.node (append-nil c) ∙ g, cc q, subst (λ z. Defaults m z r) (sym (append-nil c)) (on c r n g k))
takes_default m (y ∷ e) c r x f (on d s n g k) h =
    let t = goes_on m (c ++ n.default ∷ []) r k in
    let q : y ∷ (e ++ x ∷ f) ≡ n.default ∷ t.0 = cancel_front c (y ∷ (e ++ x ∷ f)) (n.default ∷ t.0) (sym h ∙ (t.1 ∙ snoc_append c n.default t.0)) in
    let same_first : y ≡ n.default = cc q in
    let z = takes_default m e (c ++ n.default ∷ []) r x f k (h ∙ (ap (λ u. c ++ u ∷ (e ++ x ∷ f)) same_first ∙ sym (snoc_append c n.default (e ++ x ∷ f)))) in
    let place : (c ++ n.default ∷ []) ++ e ≡ c ++ y ∷ e = snoc_append c n.default e ∙ ap (λ u. c ++ u ∷ e) (sym same_first) in
    (z.0, ap m.node (sym place) ∙ z.1, z.2, subst (λ u. Defaults m u r) place z.3)
