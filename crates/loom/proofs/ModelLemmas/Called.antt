-- In a search that isn't reduced a run is reachable that passes over defaults only where that is called for.
use Rattle.std.proofs.Common.{◌≡◌, ◌≢◌, ◌⊎◌, true, false, List, [], ◌∷◌, ◌++◌, length, Some, None, refl, ap, sym, ◌∙◌, subst, inl, inr, append_assoc, append-nil}
use Rattle.loom_objects.specs.declared.choice.Choice.{Choice}
use Rattle.loom_objects.specs.Tree.Question.{Made, Among}
use Rattle.loom_engine.specs.Walk.Choices.{same}
use Rattle.loom_engine.specs.Walk.Machine.{Machine, run}
use Rattle.loom_engine.specs.Walk.Runs.{Reachable, by_default, by_alternative}
use Rattle.loom_engine.specs.Walk.Sound.{IsMachine}
use Rattle.loom_engine.proofs.Walk.Defaults.{Defaults, over, run_reached, run_is, goes_on, ends_over, takes_default, one_default}
use Rattle.loom_engine.proofs.Walk.Lists.{snoc_append, TwoSplits, earlier, same_place, later, two_splits}
use Rattle.loom_engine.proofs.Walk.Together.{TwoBeginnings, within, past, two_beginnings}
use Rattle.loom.specs.Model.Called.{IsCalled, CalledRunsLaw}

-- the choice is an option, and passes over a default only where that is called for
record May (m : Machine) (before : List Choice) (o : Choice) (n : Made) : Type 0 where
  option : Among o n.options
  called : o ≢ n.default → (n.exploring ≡ true) × (m.every before ≡ true)

abbrev Good : Machine → List Choice → Type 0
Good m c = (before : List Choice) (o : Choice) (after : List Choice) → c ≡ before ++ o ∷ after → (n : Made) × (m.node before ≡ Some n) × May m before o n

good_front : (m : Machine) (c e : List Choice) → Good m (c ++ e) → Good m c
good_front m c e h before o after g = h before o (after ++ e) (ap (λ t. t ++ e) g ∙ append_assoc before (o ∷ after) e)

good_empty : (m : Machine) → Good m []
good_empty m [] o after g = absurd (cc g)
good_empty m (b ∷ before) o after g = absurd (cc g)

good_snoc : (m : Machine) (c : List Choice) (o : Choice) (n : Made) → Good m c → m.node c ≡ Some n → May m c o n → Good m (c ++ o ∷ [])
good_snoc m c o n h met may before x after g = go (two_splits c o [] before x after g)
  where
    go : TwoSplits c o [] before x after → (n : Made) × (m.node before ≡ Some n) × May m before x n
    go (earlier e i j) = absurd (nothing e j)
      where
        nothing : (e : List Choice) → [] ≡ e ++ x ∷ after → ⊥
        nothing [] k = cc k
        nothing (b ∷ e) k = cc k
    go (same_place i j k) = (n, ap m.node (sym i) ∙ met, subst (λ b. May m b x n) i (subst (λ u. May m c u n) j may))
    go (later e i j) = h before x e i

-- a run is good if the choices that it was given are
run_good : (m : Machine) → IsMachine m → (c r : List Choice) → Defaults m c r → Good m c → Good m r
run_good m w c r d h before o after g = go (two_beginnings c z.0 before o after (sym z.1 ∙ g))
  where
    z : (e : List Choice) × (r ≡ c ++ e)
    z = goes_on m c r d

    at_default : (f : List Choice) → before ≡ c ++ f → (n : Made) × (m.node before ≡ Some n) × May m before o n
    at_default f i =
        let t = takes_default m f c r o after d (g ∙ ap (λ u. u ++ o ∷ after) i ∙ append_assoc c f (o ∷ after)) in
        let met : m.node before ≡ Some t.0 = ap m.node i ∙ t.1 in
        (t.0, met, record { option = subst (λ u. Among u t.0.options) (sym t.2) (w.default before t.0 met); called = λ other. absurd (other t.2) })

    go : TwoBeginnings c before o → (n : Made) × (m.node before ≡ Some n) × May m before o n
    go (within f i) = at_default f i
    go (past f i) = h before o f i

module _ (m : Machine) (w : IsMachine m) (whole : m.reduce ≡ false) where
  tried : (r before : List Choice) (o : Choice) (n : Made) → (m.every before ≡ true) ⊎ ((m.reduce ≡ true) × (m.marks r (length before) o ≡ true) × (o ≢ n.default))
      → m.every before ≡ true
  tried r before o n (inl e) = e
  tried r before o n (inr e) = absurd (cc (whole, e.0))

  reachable_good : (x : List Choice) → Reachable m x → (c : List Choice) × Good m c × (x ≡ run m c)
  reachable_good x by_default = ([], good_empty m, refl)
  reachable_good x (by_alternative r before o d alt) = go (reachable_good r d)
    where
      go : ((c : List Choice) × Good m c × (r ≡ run m c)) → (c : List Choice) × Good m c × (run m (before ++ o ∷ []) ≡ run m c)
      go (c, h, e) =
          let all : Good m r = subst (Good m) (sym e) (run_good m w c (run m c) (run_reached m w c) h) in (
            before ++ o ∷ [],
            good_snoc m before o alt.made (good_front m before (alt.chosen ∷ alt.after) (subst (Good m) alt.splits all)) alt.met
                (record { option = alt.option; called = λ other. (alt.exploring, tried r before o alt.made alt.called) }),
            refl,
          )

  -- another choice at the end
  reachable_snoc : (c : List Choice) (o : Choice) (n : Made) → m.node c ≡ Some n → May m c o n → Reachable m (run m c) → Reachable m (run m (c ++ o ∷ []))
  reachable_snoc c o n met may d = go (same o n.default)
    where
      on_default : Defaults m (c ++ n.default ∷ []) (run m c)
      on_default = one_default m c (run m c) n (run_reached m w c) met

      z : (e : List Choice) × (run m c ≡ (c ++ n.default ∷ []) ++ e)
      z = goes_on m (c ++ n.default ∷ []) (run m c) on_default

      go : Dec (o ≡ n.default) → Reachable m (run m (c ++ o ∷ []))
      go (yes e) = subst (Reachable m) (sym (ap (λ u. run m (c ++ u ∷ [])) e ∙ run_is m w (c ++ n.default ∷ []) (run m c) on_default)) d
      go (no f) =
          by_alternative (run m c) c o d
          (record {
            chosen = n.default;
            after = z.0;
            made = n;
            splits = z.1 ∙ snoc_append c n.default z.0;
            met = met;
            exploring = (may.called f).0;
            option = may.option;
            other = f;
            called = inl (may.called f).1;
          })

  good_reached : (more c : List Choice) → Good m (c ++ more) → Reachable m (run m c) → Reachable m (run m (c ++ more))
  good_reached [] c h d = subst (λ u. Reachable m (run m u)) (sym (append-nil c)) d
  good_reached (o ∷ more) c h d =
      let a = h c o more refl in
      let next : (c ++ o ∷ []) ++ more ≡ c ++ o ∷ more = snoc_append c o more in
      subst (λ u. Reachable m (run m u)) next
      (good_reached more (c ++ o ∷ []) (subst (Good m) (sym next) h) (reachable_snoc c o a.0 a.1 a.2 d))

  is_called : (x : List Choice) → Good m x → IsCalled m x
  is_called x h before o after n e met other =
      let t = h before o after e in
      let same_node : t.0 ≡ n = cc (t.1, met) in
      subst (λ (y : Made). (o ≢ y.default → (y.exploring ≡ true) × (m.every before ≡ true))) same_node t.2.called other

  good_run : (x : List Choice) → Reachable m x → Good m x × (m.node x ≡ None)
  good_run x d =
      let z = reachable_good x d in (
        subst (Good m) (sym z.2) (run_good m w z.0 (run m z.0) (run_reached m w z.0) z.1),
        ap m.node z.2 ∙ ends_over m z.0 (run m z.0) (run_reached m w z.0),
      )

  reaches : (x : List Choice) → Good m x → m.node x ≡ None → Reachable m x
  reaches x h e = subst (Reachable m) (run_is m w x x (over x e)) (good_reached x [] h by_default)

pub called_runs_law : CalledRunsLaw
called_runs_law m w whole x = (
  λ d. let z = good_run m w whole x d in (λ before o after e. let t = z.0 before o after e in (t.0, t.1, t.2.option), z.1, is_called m w whole x z.0),
  λ h. reaches m w whole x (λ before o after e. let t = h.0 before o after e in (t.0, t.1, record { option = t.2; called = λ other. h.2 before o after t.0 e t.1 other })) h.1,
)
