-- The floor of a part is raised.
use Rattle.std.proofs.Common.{◌≡◌, ◌≢◌, ◌⊎◌, true, List, [], ◌∷◌, ◌++◌, Some, refl, ap, sym, ◌∙◌, subst, inl, inr, append-nil}
use Rattle.loom_objects.specs.declared.choice.Choice.{Choice}
use Rattle.loom_objects.specs.Tree.Question.{Made, Among}
use Rattle.loom_engine.specs.Walk.Machine.{Machine, run}
use Rattle.loom_engine.specs.Walk.Runs.{Reachable}
use Rattle.loom_engine.specs.Walk.Path.{Status, Closed, Skip, Pending, Active, Visited, Stored, node_at, IsAtRest, by_pending}
use Rattle.loom_engine.specs.Walk.Walks.{run_of}
use Rattle.loom_engine.specs.Walk.Lists.{Member}
use Rattle.loom_engine.proofs.Walk.Lists.{node_chooses, not_longer, cancel_front, snoc_append}
use Rattle.loom_engine.specs.Parts.Cuts.{Part, IsIn, IsBelow, IsPart, IsTried, AreTaken, AreOpen, seal_at}
use Rattle.loom_engine.proofs.Parts.Lists.{LastOption, is_last, is_before, last_option, same_options, same_list, bases, in_base, base_in, in_front, in_back, in_either}
use Rattle.loom_engine.proofs.Parts.Holds.{Done, is_made, is_path, Known, is_done, is_open, is_noted, Keeps, IsNote, Holds, keeps_wider}
use Rattle.loom_engine.proofs.Parts.Sealing.{not_to_try, sealed_skip, seal_at_rest, seal_choices, SealedPlace, is_sealed, is_as_was, sealed_place, as_was, rest_unsealed}

module _ (m : Machine) (made : List (List Choice)) (b : List Choice) (p : List Stored) (n : Stored) (parts : List Part) (issued notes taken opened : List (List Choice))
    (h : Holds m made (record { base = b; path = p } ∷ parts) issued notes) (at : node_at p b ≡ Some n) (t : AreTaken b n taken) (u : AreOpen b n opened) where
  here : Keeps m made issued (Done m made (record { base = b; path = p } ∷ parts)) b p
  here = h.kept (record { base = b; path = p }) (inl refl)

  done_on : (x : List Choice) → Done m made (record { base = b; path = p } ∷ parts) x → Done m made (record { base = b ++ n.present ∷ []; path = seal_at b p } ∷ parts) x
  done_on x (is_made j) = is_made j
  done_on x (is_path y (inl e) f) =
      is_path (record { base = b ++ n.present ∷ []; path = seal_at b p }) (inl refl) (f ∙ ap (λ (z : Part). run_of m z.path) e ∙ ap (run m) (sym (seal_choices b p)))
  done_on x (is_path y (inr i) f) = is_path y (inr i) f

  is_taken : (o : Choice) → IsTried n o → (before : List Choice) (c : Choice) → before ≡ b → c ≡ o → Member (before ++ c ∷ []) (taken ++ issued)
  is_taken o tr before c e f = in_front (before ++ c ∷ []) taken issued ((t (before ++ c ∷ [])).1 (o, cc (e, f), tr))

  part_raised : IsPart m (b ++ n.present ∷ []) (seal_at b p)
  part_raised = record {
    resting = record { meets = λ before y g. meets before y (sealed_place b p n at before y g); rest = λ before y g. each before y (sealed_place b p n at before y g) };
    begins = let z = node_chooses p b n at in (z.0, seal_choices b p ∙ z.1 ∙ sym (snoc_append b n.present z.0));
    sealed = λ before y o g low ex. sealed before y o low ex (sealed_place b p n at before y g);
  }
    where
      meets : (before : List Choice) (y : Stored) → SealedPlace b p n before y → m.node before ≡ Some y.made
      meets before y (is_sealed e f) = ap m.node e ∙ here.part.resting.meets b n at ∙ ap (λ (z : Stored). Some z.made) (sym f)
      meets before y (is_as_was e f) = here.part.resting.meets before y f

      each : (before : List Choice) (y : Stored) → SealedPlace b p n before y → IsAtRest y
      each before y (is_sealed e f) = subst IsAtRest (sym f) (seal_at_rest n (here.part.resting.rest b n at))
      each before y (is_as_was e f) = here.part.resting.rest before y f

      sealed : (before : List Choice) (y : Stored) (o : Choice) → IsBelow before (b ++ n.present ∷ []) → y.made.exploring ≡ true → SealedPlace b p n before y
          → (y.status o ≢ Pending) × (y.status o ≢ Skip)
      sealed before y o low ex (is_sealed e f) =
          let z = not_to_try n o (sym (ap (λ (z : Stored). z.made.exploring) f) ∙ ex) in (
            (λ s. z.0 (sym (ap (λ (z : Stored). z.status o) f) ∙ s)),
            λ s. z.1 (sym (ap (λ (z : Stored). z.status o) f) ∙ s),
          )
      sealed before y o low ex (is_as_was e f) = go (last_option b n.present before low.0 low.1 low.2)
        where
          go : LastOption b n.present before low.0 low.1 → (y.status o ≢ Pending) × (y.status o ≢ Skip)
          go (is_last i j k) = absurd (e i)
          go (is_before g i j) = here.part.sealed before y o f (low.0, g, i) ex

  -- a node above the new floor is as it was
  above : (before : List Choice) (y : Stored) → node_at (seal_at b p) before ≡ Some y → (f : List Choice) → before ≡ (b ++ n.present ∷ []) ++ f → (node_at p before ≡ Some y) × (before ≡ b ++ n.present ∷ f)
  above before y g f i = (go (sealed_place b p n at before y g), i ∙ snoc_append b n.present f)
    where
      go : SealedPlace b p n before y → node_at p before ≡ Some y
      go (is_sealed e l) = absurd (not_longer b n.present f (sym e ∙ i ∙ snoc_append b n.present f))
      go (is_as_was e l) = l

  keeps_raised : Keeps m made (taken ++ issued) (Done m made (record { base = b ++ n.present ∷ []; path = seal_at b p } ∷ parts)) (b ++ n.present ∷ []) (seal_at b p)
  keeps_raised = record {
    part = part_raised;
    fixed = λ before c e i. fixed before c (last_option b n.present before c e i);
    frontier = frontier;
    tried = λ before y g f i x j c e k. let z = above before y g f i in here.tried before y z.0 (n.present ∷ f) z.1 x j c e k;
    new = λ x j e k. here.new x j e (k ∙ ap (λ z. z ++ e) (seal_choices b p));
    had = λ before y g f i o tr. let z = above before y g f i in done_on (run m (before ++ o ∷ [])) (here.had before y z.0 (n.present ∷ f) z.1 o tr);
    skipped = λ before y o g s ev. skipped before y o s ev (sealed_place b p n at before y g);
    rest = λ x d. here.rest x (rest_unsealed m b p n at x d);
  }
    where
      fixed : (before : List Choice) (c : Choice) {e : List Choice} → LastOption b n.present before c e → Member (before ++ c ∷ []) (taken ++ issued)
      fixed before c (is_last i j k) = is_taken n.present (inl (here.part.resting.rest b n at).active) before c i j
      fixed before c (is_before f i j) = in_back (before ++ c ∷ []) taken issued (here.fixed before c f i)

      frontier : (o : Choice) (e : List Choice) → Member ((b ++ n.present ∷ []) ++ o ∷ e) (taken ++ issued) → ⊥
      frontier o e i = elim (in_either ((b ++ n.present ∷ []) ++ o ∷ e) taken issued i) [
        | inl j ↦ let z = (t ((b ++ n.present ∷ []) ++ o ∷ e)).0 j in cc (cancel_front b (n.present ∷ o ∷ e) (z.0 ∷ []) (sym (snoc_append b n.present (o ∷ e)) ∙ z.1))
        | inr j ↦ here.frontier n.present (o ∷ e) (subst (λ z. Member z issued) (snoc_append b n.present (o ∷ e)) j)
      ]

      skipped : (before : List Choice) (y : Stored) (o : Choice) → y.status o ≡ Skip → m.every before ≡ true → SealedPlace b p n before y → ⊥
      skipped before y o s ev (is_sealed e f) = here.skipped b n o at (sealed_skip n o (sym (ap (λ (z : Stored). z.status o) f) ∙ s)) (ap m.every (sym e) ∙ ev)
      skipped before y o s ev (is_as_was e f) = here.skipped before y o f s ev

  other_raised : (x : Part) → IsIn x parts → Keeps m made (taken ++ issued) (Done m made (record { base = b ++ n.present ∷ []; path = seal_at b p } ∷ parts)) x.base x.path
  other_raised x i =
      keeps_wider m made issued (taken ++ issued) (Done m made (record { base = b; path = p } ∷ parts)) (Done m made (record { base = b ++ n.present ∷ []; path = seal_at b p } ∷ parts)) x.base x.path
      k (λ j g. in_back j taken issued g) frontier done_on
    where
      k : Keeps m made issued (Done m made (record { base = b; path = p } ∷ parts)) x.base x.path
      k = h.kept x (inr i)

      frontier : (o : Choice) (e : List Choice) → Member (x.base ++ o ∷ e) (taken ++ issued) → ⊥
      frontier o e j = elim (in_either (x.base ++ o ∷ e) taken issued j) [ inl l ↦ (let z = (t (x.base ++ o ∷ e)).0 l in go (last_option b z.0 x.base o e (sym z.1))) | inr l ↦ k.frontier o e l ]
        where
          go : {c : Choice} → LastOption b c x.base o e → ⊥
          go (is_last f g l) = h.bases_once.0 (subst (λ z. Member z (bases parts)) f (in_base x parts i))
          go (is_before f g l) = k.frontier o [] (here.fixed x.base o f g)

  known_on : (x : List Choice) → Known m made (record { base = b; path = p } ∷ parts) notes x
      → Known m made (record { base = b ++ n.present ∷ []; path = seal_at b p } ∷ parts) (opened ++ notes) x
  known_on x (is_done d) = is_done (done_on x d)
  known_on x (is_open y before k o (inl e) g ex s l) = go (same_list before b)
    where
      g' : node_at p before ≡ Some k
      g' = sym (ap (λ (z : Part). node_at z.path before) e) ∙ g

      go : Dec (before ≡ b) → Known m made (record { base = b ++ n.present ∷ []; path = seal_at b p } ∷ parts) (opened ++ notes) x
      go (yes f) =
          let same_node : k ≡ n = cc (g', at, ap (node_at p) f) in
          is_noted (b ++ o ∷ [])
          (in_front (b ++ o ∷ []) opened notes ((u (b ++ o ∷ [])).1 (
            o,
            refl,
            sym (ap (λ (z : Stored). z.made.exploring) same_node) ∙ ex,
            sym (ap (λ (z : Stored). z.status o) same_node) ∙ s,
          )))
          (l ∙ ap (λ z. run m (z ++ o ∷ [])) f)
      go (no f) = is_open (record { base = b ++ n.present ∷ []; path = seal_at b p }) before k o (inl refl) (as_was b p n at before k g' f) ex s l
  known_on x (is_open y before k o (inr i) g ex s l) = is_open y before k o (inr i) g ex s l
  known_on x (is_noted k j e) = is_noted k (in_back k opened notes j) e

  pub after_raise : Holds m made (record { base = b ++ n.present ∷ []; path = seal_at b p } ∷ parts) (taken ++ issued) (opened ++ notes)
  after_raise = record {
    kept = kept;
    bases_once = (once, h.bases_once.1);
    passed = passed;
    noted = λ k j. elim (in_either k opened notes j) [ inl i ↦ new_note k i | inr i ↦ old_note k (h.noted k i) ];
    closed = closed;
    once = h.once;
    sound = h.sound;
    issued_had = λ k j. elim (in_either k taken issued j) [ inl i ↦ had k i | inr i ↦ done_on (run m k) (h.issued_had k i) ];
    every = every;
    calls = λ r j before o alt. known_on (run m (before ++ o ∷ [])) (h.calls r j before o alt);
    begun = done_on (run m []) h.begun;
  }
    where
      kept : (x : Part) → IsIn x (record { base = b ++ n.present ∷ []; path = seal_at b p } ∷ parts)
          → Keeps m made (taken ++ issued) (Done m made (record { base = b ++ n.present ∷ []; path = seal_at b p } ∷ parts)) x.base x.path
      kept x (inl e) =
          subst (λ (y : Part). Keeps m made (taken ++ issued) (Done m made (record { base = b ++ n.present ∷ []; path = seal_at b p } ∷ parts)) y.base y.path) (sym e) keeps_raised
      kept x (inr i) = other_raised x i

      once : Member (b ++ n.present ∷ []) (bases parts) → ⊥
      once i = let z = base_in (b ++ n.present ∷ []) parts i in here.frontier n.present [] ((h.kept z.0 (inr z.1)).fixed b n.present [] (sym z.2))

      passed : (x : List Choice) → Member x made → (before : List Choice) (c : Choice) (e : List Choice) (o : Choice) → x ≡ before ++ c ∷ e
          → Member (before ++ o ∷ []) (taken ++ issued) → Member (before ++ c ∷ []) (taken ++ issued)
      passed x j before c e o k l = elim (in_either (before ++ o ∷ []) taken issued l) [
        | inl i ↦
            let z = (t (before ++ o ∷ [])).0 i in
            let f = (same_options before b o z.0 z.1).0 in
            is_taken c (here.tried before n (ap (node_at p) f ∙ at) [] (f ∙ sym (append-nil b)) x j c e k) before c f refl
        | inr i ↦ in_back (before ++ c ∷ []) taken issued (h.passed x j before c e o k i)
      ]

      new_note : (k : List Choice) → Member k opened → IsNote m (taken ++ issued) k
      new_note k i =
          let z = (u k).0 i in
          record {
            before = b;
            option = z.0;
            other = n.present;
            splits = z.1;
            trunk = is_taken n.present (inl (here.part.resting.rest b n at).active) b n.present refl refl;
            reachable = subst (λ y. Reachable m (run m y)) (sym z.1) (here.rest (run m (b ++ z.0 ∷ [])) (by_pending b n z.0 at z.2 z.3));
          }

      old_note : (k : List Choice) → IsNote m issued k → IsNote m (taken ++ issued) k
      old_note k i = record { before = i.before; option = i.option; other = i.other; splits = i.splits; trunk = in_back (i.before ++ i.other ∷ []) taken issued i.trunk; reachable = i.reachable }

      closed : (before : List Choice) (c : Choice) (e : List Choice) → Member (before ++ c ∷ e) (taken ++ issued) → Member (before ++ c ∷ []) (taken ++ issued)
      closed before c e i = elim (in_either (before ++ c ∷ e) taken issued i) [
        | inl j ↦ (let z = (t (before ++ c ∷ e)).0 j in go z.0 z.2 (last_option b z.0 before c e (sym z.1)))
        | inr j ↦ in_back (before ++ c ∷ []) taken issued (h.closed before c e j)
      ]
        where
          go : (o : Choice) → IsTried n o → LastOption b o before c e → Member (before ++ c ∷ []) (taken ++ issued)
          go o tr (is_last f g l) = is_taken o tr before c f g
          go o tr (is_before f g l) = in_back (before ++ c ∷ []) taken issued (here.fixed before c f g)

      had : (k : List Choice) → Member k taken → Done m made (record { base = b ++ n.present ∷ []; path = seal_at b p } ∷ parts) (run m k)
      had k i =
          let z = (t k).0 i in
          done_on (run m k) (subst (λ y. Done m made (record { base = b; path = p } ∷ parts) (run m y)) (sym z.1) (here.had b n at [] (sym (append-nil b)) z.0 z.2))

      every : (before : List Choice) (c : Choice) (x : Made) (o : Choice) → Member (before ++ c ∷ []) (taken ++ issued) → m.node before ≡ Some x → x.exploring ≡ true → m.every before ≡ true
          → Among o x.options → Member (before ++ o ∷ []) (taken ++ issued) ⊎ Member (before ++ o ∷ []) (opened ++ notes)
      every before c x o i g ex ev am = elim (in_either (before ++ c ∷ []) taken issued i) [
        | inl j ↦ (let z = (t (before ++ c ∷ [])).0 j in by_status (same_options before b c z.0 z.1).0 (n.status o) refl)
        | inr j ↦ elim (h.every before c x o j g ex ev am) [ inl k ↦ inl (in_back (before ++ o ∷ []) taken issued k) | inr k ↦ inr (in_back (before ++ o ∷ []) opened notes k) ]
      ]
        where
          by_status : before ≡ b → (s : Status) → n.status o ≡ s → Member (before ++ o ∷ []) (taken ++ issued) ⊎ Member (before ++ o ∷ []) (opened ++ notes)
          by_status f s l = status s l
            where
              same_made : x ≡ n.made
              same_made = cc (g, here.part.resting.meets b n at, ap m.node f)

              status : (s : Status) → n.status o ≡ s → Member (before ++ o ∷ []) (taken ++ issued) ⊎ Member (before ++ o ∷ []) (opened ++ notes)
              status Closed e = absurd ((here.part.resting.rest b n at).opened o (subst (λ (y : Made). Among o y.options) same_made am) e)
              status Skip e = absurd (here.skipped b n o at e (ap m.every (sym f) ∙ ev))
              status Pending e =
                  inr (in_front (before ++ o ∷ []) opened notes ((u (before ++ o ∷ [])).1 (o, ap (λ y. y ++ o ∷ []) f, sym (ap (λ (y : Made). y.exploring) same_made) ∙ ex, e)))
              status Active e = inl (is_taken o (inl e) before o f refl)
              status Visited e = inl (is_taken o (inr e) before o f refl)
