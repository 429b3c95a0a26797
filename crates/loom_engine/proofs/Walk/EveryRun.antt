-- In a search that isn't reduced or bounded each run is reachable.
use Rattle.std.proofs.Common.{◌≡◌, List, [], ◌∷◌, ◌++◌, Some, None, refl, ap, sym, ◌∙◌, subst, inl, append_assoc, append-nil}
use Rattle.loom_objects.specs.declared.choice.Choice.{Choice}
use Rattle.loom_engine.specs.Walk.Choices.{same}
use Rattle.loom_objects.specs.Tree.Question.{Made, Among}
use Rattle.loom_engine.specs.Walk.Machine.{Machine, run}
use Rattle.loom_engine.specs.Walk.Sound.{IsMachine}
use Rattle.loom_engine.specs.Walk.Runs.{Reachable, by_default, by_alternative}
use Rattle.loom_engine.specs.Walk.Walks.{ExploresAll, EveryRunLaw}
use Rattle.loom_engine.specs.Walk.Lists.{IsAllowed}
use Rattle.loom_engine.proofs.Walk.Lists.{snoc_append, TwoSplits, earlier, same_place, later, two_splits}
use Rattle.loom_engine.proofs.Walk.Defaults.{Defaults, over, run_reached, run_is, goes_on, ends_over, takes_default, one_default}
use Rattle.loom_engine.proofs.Walk.Together.{TwoBeginnings, within, past, two_beginnings}

-- a shorter beginning is allowed too
allowed_front : (m : Machine) (c e : List Choice) → IsAllowed m (c ++ e) → IsAllowed m c
allowed_front m c e h before o after g = h before o (after ++ e) (ap (λ t. t ++ e) g ∙ append_assoc before (o ∷ after) e)

allowed_empty : (m : Machine) → IsAllowed m []
allowed_empty m [] o after g = absurd (cc g)
allowed_empty m (b ∷ before) o after g = absurd (cc g)

allowed_snoc : (m : Machine) (c : List Choice) (o : Choice) (n : Made) → IsAllowed m c → m.node c ≡ Some n → Among o n.options → IsAllowed m (c ++ o ∷ [])
allowed_snoc m c o n h met am before x after g = go (two_splits c o [] before x after g)
  where
    go : TwoSplits c o [] before x after → (n : Made) × (m.node before ≡ Some n) × Among x n.options
    go (earlier e i j) = absurd (nothing e j)
      where
        nothing : (e : List Choice) → [] ≡ e ++ x ∷ after → ⊥
        nothing [] k = cc k
        nothing (b ∷ e) k = cc k
    go (same_place i j k) = (n, ap m.node (sym i) ∙ met, subst (λ u. Among u n.options) j am)
    go (later e i j) = h before x e i

-- a run is allowed if the choices that it was given are
run_allowed : (m : Machine) → IsMachine m → (c r : List Choice) → Defaults m c r → IsAllowed m c → IsAllowed m r
run_allowed m w c r d h before o after g = go (two_beginnings c z.0 before o after (sym z.1 ∙ g))
  where
    z : (e : List Choice) × (r ≡ c ++ e)
    z = goes_on m c r d

    at_default : (f : List Choice) → before ≡ c ++ f → (n : Made) × (m.node before ≡ Some n) × Among o n.options
    at_default f i =
        let t = takes_default m f c r o after d (g ∙ ap (λ u. u ++ o ∷ after) i ∙ append_assoc c f (o ∷ after)) in
        let met : m.node before ≡ Some t.0 = ap m.node i ∙ t.1 in
        (t.0, met, subst (λ u. Among u t.0.options) (sym t.2) (w.default before t.0 met))

    go : TwoBeginnings c before o → (n : Made) × (m.node before ≡ Some n) × Among o n.options
    go (within f i) = at_default f i
    go (past f i) = h before o f i

reachable_allowed : (m : Machine) → IsMachine m → (x : List Choice) → Reachable m x → (c : List Choice) × IsAllowed m c × (x ≡ run m c)
reachable_allowed m w x by_default = ([], allowed_empty m, refl)
reachable_allowed m w x (by_alternative r before o d alt) = go (reachable_allowed m w r d)
  where
    go : ((c : List Choice) × IsAllowed m c × (r ≡ run m c)) → (c : List Choice) × IsAllowed m c × (run m (before ++ o ∷ []) ≡ run m c)
    go (c, h, e) =
        let all : IsAllowed m r = subst (IsAllowed m) (sym e) (run_allowed m w c (run m c) (run_reached m w c) h) in (
          before ++ o ∷ [],
          allowed_snoc m before o alt.made (allowed_front m before (alt.chosen ∷ alt.after) (subst (IsAllowed m) alt.splits all)) alt.met alt.option,
          refl,
        )

-- another option at the end of allowed choices
reachable_snoc : (m : Machine) → IsMachine m → ExploresAll m → (c : List Choice) (o : Choice) (n : Made) → IsAllowed m c → m.node c ≡ Some n → Among o n.options
    → Reachable m (run m c) → Reachable m (run m (c ++ o ∷ []))
reachable_snoc m w x c o n h met am d = go (same o n.default)
  where
    on_default : Defaults m (c ++ n.default ∷ []) (run m c)
    on_default = one_default m c (run m c) n (run_reached m w c) met

    z : (e : List Choice) × (run m c ≡ (c ++ n.default ∷ []) ++ e)
    z = goes_on m (c ++ n.default ∷ []) (run m c) on_default

    go : Dec (o ≡ n.default) → Reachable m (run m (c ++ o ∷ []))
    go (yes e) = subst (Reachable m) (sym (ap (λ u. run m (c ++ u ∷ [])) e ∙ run_is m w (c ++ n.default ∷ []) (run m c) on_default)) d
    go (no f) =
        by_alternative (run m c) c o d
        (record {
          chosen = n.default;
          after = z.0;
          made = n;
          splits = z.1 ∙ snoc_append c n.default z.0;
          met = met;
          exploring = x.exploring c n h met;
          option = am;
          other = f;
          called = inl (x.every c n h met);
        })

allowed_wanted : (m : Machine) → IsMachine m → ExploresAll m → (more c : List Choice) → IsAllowed m (c ++ more) → Reachable m (run m c) → Reachable m (run m (c ++ more))
allowed_wanted m w x [] c h d = subst (λ u. Reachable m (run m u)) (sym (append-nil c)) d
allowed_wanted m w x (o ∷ more) c h d =
    let a = h c o more refl in
    let next : (c ++ o ∷ []) ++ more ≡ c ++ o ∷ more = snoc_append c o more in
    subst (λ u. Reachable m (run m u)) next
    (allowed_wanted m w x more (c ++ o ∷ []) (subst (IsAllowed m) (sym next) h)
    (reachable_snoc m w x c o a.0 (allowed_front m c (o ∷ more) h) a.1 a.2 d))

pub every_run_law : EveryRunLaw
every_run_law m w x = ((λ y. (reachable_allowed m w y, back y)), λ y. (complete y, λ h. subst (Reachable m) (run_is m w y y (over y h.1)) (reachable_run y h.0)))
  where
    reachable_run : (c : List Choice) → IsAllowed m c → Reachable m (run m c)
    reachable_run c h = allowed_wanted m w x c [] h by_default

    back : (y : List Choice) → ((c : List Choice) × IsAllowed m c × (y ≡ run m c)) → Reachable m y
    back y h = subst (Reachable m) (sym h.2) (reachable_run h.0 h.1)

    complete : (y : List Choice) → Reachable m y → IsAllowed m y × (m.node y ≡ None)
    complete y d =
        let z = reachable_allowed m w y d in (
          subst (IsAllowed m) (sym z.2) (run_allowed m w z.0 (run m z.0) (run_reached m w z.0) z.1),
          ap m.node z.2 ∙ ends_over m z.0 (run m z.0) (run_reached m w z.0),
        )
