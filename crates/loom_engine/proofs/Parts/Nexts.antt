-- The next path of a part.
use Rattle.std.proofs.Common.{◌≡◌, ◌≢◌, true, List, [], ◌∷◌, ◌++◌, Some, ap, sym, ◌∙◌, subst, inl, inr, append_assoc}
use Rattle.loom_objects.specs.declared.choice.Choice.{Choice}
use Rattle.loom_engine.specs.Walk.Machine.{Machine, run}
use Rattle.loom_engine.specs.Walk.Sound.{IsMachine}
use Rattle.loom_engine.specs.Walk.Path.{Skip, Pending, Stored, choices, node_at, IsResting, choose}
use Rattle.loom_engine.specs.Walk.Walks.{run_of}
use Rattle.loom_engine.specs.Walk.Lists.{Member}
use Rattle.loom_engine.proofs.Walk.Lists.{node_chooses, not_longer, snoc_append}
use Rattle.loom_engine.proofs.Walk.Statuses.{Chosen, was_present, is_next, is_other, chosen_cases, nothing_pending}
use Rattle.loom_engine.proofs.Walk.After.{IsAfter}
use Rattle.loom_engine.proofs.Walk.Marked.{rest_before}
use Rattle.loom_engine.proofs.Walk.Stepping.{IsStep}
use Rattle.loom_engine.proofs.Walk.Left.{NextPlace, above_next, at_next, next_place, OldPlace, above_old, at_old, below_old, old_place, next_resting, next_joined}
use Rattle.loom_engine.proofs.Walk.Together.{TwoBeginnings, within, past, two_beginnings}
use Rattle.loom_engine.specs.Parts.Cuts.{IsBelow, IsPart, IsTried}
use Rattle.loom_engine.proofs.Parts.Holds.{Keeps}
use Rattle.loom_engine.proofs.Parts.Rounds.{IsTriedStatus, run_in, sealed_after, tried_after, skipped_after, had_after}

module _ (m : Machine) (w : IsMachine m) (made issued : List (List Choice)) (Had : List Choice → Type 0) (b : List Choice) (p : List Stored) (here : Keeps m made issued Had b p)
    (q : List Stored) (r : List Choice) (a : IsAfter m p q r) (rest : IsResting m q)
    (next : List Stored) (branch : List Choice) (n : Stored) (o : Choice) (s : IsStep q next branch n o) where
  -- the node that goes on is above the floor
  pub branch_above : (f : List Choice) × (branch ≡ b ++ f)
  branch_above = go (two_beginnings b y.0 branch n.present z.0 (sym y.1 ∙ sym a.whole ∙ z.1))
    where
      y : (e : List Choice) × (r ≡ b ++ e)
      y = run_in m w made issued Had b p here q r a rest

      z : (after : List Choice) × (choices q ≡ branch ++ n.present ∷ after)
      z = node_chooses q branch n s.at

      go : TwoBeginnings b branch n.present → (f : List Choice) × (branch ≡ b ++ f)
      go (within f i) = (f, i)
      go (past f i) = absurd ((sealed_after m w made issued Had b p here q r a rest branch n o s.at (n.present, f, i) s.exploring).0 s.pending)

  part_next : IsPart m b next
  part_next = record {
    resting = next_resting m w p q r a rest next branch n o s;
    begins = let f = branch_above in (f.0 ++ o ∷ [], s.chosen ∙ ap (λ t. t ++ o ∷ []) f.1 ∙ append_assoc b f.0 (o ∷ []));
    sealed = λ before y c h low ex. sealed before y c low ex (next_place q next branch n o s before y h);
  }
    where
      sealed : (before : List Choice) (y : Stored) (c : Choice) → IsBelow before b → y.made.exploring ≡ true → NextPlace q branch n o before y → (y.status c ≢ Pending) × (y.status c ≢ Skip)
      sealed before y c low ex (above_next g) = sealed_after m w made issued Had b p here q r a rest before y c g low ex
      sealed before y c low ex (at_next e f) =
          let z = branch_above in
          absurd (not_longer before low.0 (low.1 ++ z.0) (e ∙ z.1 ∙ ap (λ t. t ++ z.0) low.2 ∙ append_assoc before (low.0 ∷ low.1) z.0))

  tried_next : (before : List Choice) (y : Stored) → node_at next before ≡ Some y → (f : List Choice) → before ≡ b ++ f
      → (x : List Choice) → Member x (r ∷ made) → (c : Choice) (e : List Choice) → x ≡ before ++ c ∷ e → IsTried y c
  tried_next before y h f i x j c e k = go (next_place q next branch n o s before y h)
    where
      here_chosen : before ≡ branch → y ≡ choose n o → IsTried n c → Chosen n o c ((choose n o).status c) → IsTried y c
      here_chosen g l t (was_present u v) = inr (ap (λ (z : Stored). z.status c) l ∙ v)
      here_chosen g l t (is_next u v x_) = inl (ap (λ (z : Stored). z.status c) l ∙ x_)
      here_chosen g l t (is_other u v x_) =
          elim t [ inl d ↦ inl (ap (λ (z : Stored). z.status c) l ∙ x_ ∙ d) | inr d ↦ inr (ap (λ (z : Stored). z.status c) l ∙ x_ ∙ d) ]

      go : NextPlace q branch n o before y → IsTried y c
      go (above_next g) = tried_after m w made issued Had b p here q r a rest before y g f i x j c e k
      go (at_next g l) =
          here_chosen g l (tried_after m w made issued Had b p here q r a rest branch n s.at f (sym g ∙ i) x j c e (k ∙ ap (λ t. t ++ c ∷ e) g)) (chosen_cases n o c)

  not_pending_tried : IsTried n o → ⊥
  not_pending_tried t = elim t [ inl e ↦ cc (s.pending, e) | inr e ↦ cc (s.pending, e) ]

  new_next : (x : List Choice) → Member x (r ∷ made) → (e : List Choice) → x ≡ choices next ++ e → ⊥
  new_next x j e k =
      let f = branch_above in
      not_pending_tried (tried_after m w made issued Had b p here q r a rest branch n s.at f.0 f.1 x j o e (k ∙ ap (λ t. t ++ e) s.chosen ∙ snoc_append branch o e))

  skipped_next : (before : List Choice) (y : Stored) (c : Choice) → node_at next before ≡ Some y → y.status c ≡ Skip → m.every before ≡ true → ⊥
  skipped_next before y c h t ev = go (next_place q next branch n o s before y h)
    where
      chosen : before ≡ branch → (choose n o).status c ≡ Skip → Chosen n o c ((choose n o).status c) → ⊥
      chosen g l (was_present u v) = cc (l, v)
      chosen g l (is_next u v x_) = cc (l, x_)
      chosen g l (is_other u v x_) = skipped_after m w made issued Had b p here q r a rest branch n c s.at (sym x_ ∙ l) (ap m.every (sym g) ∙ ev)

      go : NextPlace q branch n o before y → ⊥
      go (above_next g) = skipped_after m w made issued Had b p here q r a rest before y c g t ev
      go (at_next g l) = chosen g (sym (ap (λ (z : Stored). z.status c) l) ∙ t) (chosen_cases n o c)

  pub next_leads : run_of m next ≡ run m (branch ++ o ∷ [])
  next_leads = ap (run m) s.chosen

  had_next : (D : List Choice → Type 0) → D r → ((x : List Choice) → Had x → D x) → D (run_of m next) → (before : List Choice) (y : Stored) → node_at next before ≡ Some y
      → (f : List Choice) → before ≡ b ++ f → (c : Choice) → IsTried y c → D (run m (before ++ c ∷ []))
  had_next D own old coming before y h f i c t = go (next_place q next branch n o s before y h)
    where
      chosen : before ≡ branch → IsTriedStatus ((choose n o).status c) → Chosen n o c ((choose n o).status c) → D (run m (branch ++ c ∷ []))
      chosen g u (was_present j k) =
          had_after m w made issued Had b p here q r a rest D own old branch n s.at f (sym g ∙ i) c (inl (ap n.status j ∙ (rest.rest branch n s.at).active))
      chosen g u (is_next j k l) = subst D (next_leads ∙ ap (λ z. run m (branch ++ z ∷ [])) (sym k)) coming
      chosen g u (is_other j k l) = had_after m w made issued Had b p here q r a rest D own old branch n s.at f (sym g ∙ i) c (elim u [ inl d ↦ inl (sym l ∙ d) | inr d ↦ inr (sym l ∙ d) ])

      go : NextPlace q branch n o before y → D (run m (before ++ c ∷ []))
      go (above_next g) = had_after m w made issued Had b p here q r a rest D own old before y g f i c t
      go (at_next g l) =
          subst (λ z. D (run m (z ++ c ∷ []))) (sym g)
          (chosen g (elim t [ inl d ↦ inl (sym (ap (λ (z : Stored). z.status c) l) ∙ d) | inr d ↦ inr (sym (ap (λ (z : Stored). z.status c) l) ∙ d) ]) (chosen_cases n o c))

  -- what is to be tried in the path that the run left is to be tried in the next one, or is its run
  pub pending_next : (K : List Choice → Type 0) → K (run_of m next)
      → ((before : List Choice) (y : Stored) (c : Choice) → node_at next before ≡ Some y → y.made.exploring ≡ true → y.status c ≡ Pending → K (run m (before ++ c ∷ [])))
      → (before : List Choice) (y : Stored) (c : Choice) → node_at q before ≡ Some y → y.made.exploring ≡ true → y.status c ≡ Pending → K (run m (before ++ c ∷ []))
  pending_next K coming pending before y c h ex t = go (old_place q next branch n o s before y h)
    where
      chosen : before ≡ branch → y ≡ n → Chosen n o c ((choose n o).status c) → K (run m (before ++ c ∷ []))
      chosen e f (was_present g i) = absurd (cc (t, (rest.rest branch n s.at).active, ap (λ (z : Stored). z.status c) f, ap n.status g))
      chosen e f (is_next g i j) = subst K (next_leads ∙ ap (run m) (cc (e, i))) coming
      chosen e f (is_other g i j) =
          subst (λ u. K (run m (u ++ c ∷ []))) (sym e) (pending branch (choose n o) c s.here s.exploring (j ∙ sym (ap (λ (z : Stored). z.status c) f) ∙ t))

      go : OldPlace next branch n before y → K (run m (before ++ c ∷ []))
      go (above_old g) = pending before y c g ex t
      go (at_old e f) = chosen e f (chosen_cases n o c)
      go (below_old e f g) = absurd (nothing_pending y (rest.rest before y h) g ex c t)

  pub keeps_next : IsResting m p → (D : List Choice → Type 0) → D r → ((x : List Choice) → Had x → D x) → D (run_of m next) → Keeps m (r ∷ made) issued D b next
  keeps_next before_rest D own old coming = record {
    part = part_next;
    fixed = here.fixed;
    frontier = here.frontier;
    tried = tried_next;
    new = new_next;
    had = had_next D own old coming;
    skipped = skipped_next;
    rest = λ x d. here.rest x (rest_before m w p q r before_rest a x (next_joined m w p q r a rest next branch n o s x d));
  }
