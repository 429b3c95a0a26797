-- No run that is reachable passes the bound.
use Rattle.std.proofs.Common.{◌≡◌, ◌≢◌, ◌⊎◌, ℕ, suc, ◌≤◌, Bool, true, false, List, [], ◌∷◌, ◌++◌, length, refl, ap, sym, ◌∙◌, subst, inl, inr, arith, append_assoc, append-nil, length-append, ◌+◌}
use Rattle.loom_objects.specs.declared.choice.Choice.{Choice}
use Rattle.loom_engine.specs.Walk.Machine.{Machine, is_thread, run}
use Rattle.loom_engine.specs.Walk.Sound.{IsMachine}
use Rattle.loom_engine.specs.Walk.Runs.{Reachable, by_default, by_alternative}
use Rattle.loom_engine.specs.Walk.Bound.{IsCount, BoundLaw}
use Rattle.loom_engine.proofs.Walk.Lists.{cancel_front, snoc_append}
use Rattle.loom_engine.proofs.Walk.Defaults.{Defaults, over, on, run_reached, goes_on}

-- of two beginnings of one list the one begins the other
data TwoFronts (b c : List Choice) : Type 0 where
  shorter : (f : List Choice) → c ≡ b ++ f → TwoFronts b c
  longer : (x : Choice) (f : List Choice) → b ≡ c ++ x ∷ f → TwoFronts b c

two_fronts : (b c rest e : List Choice) → b ++ rest ≡ c ++ e → TwoFronts b c
two_fronts [] c rest e h = shorter c refl
two_fronts (x ∷ b) [] rest e h = longer x b refl
two_fronts (x ∷ b) (y ∷ c) rest e h =
    let first : x ≡ y = cc h in
    let tail : b ++ rest ≡ c ++ e = cc h in
    elim (two_fronts b c rest e tail) [ shorter f g ↦ shorter f (cc (first, g)) | longer z f g ↦ longer z f (cc (first, g)) ]

module _ (m : Machine) (count : List Choice → ℕ) (bound : ℕ) (w : IsMachine m) (k : IsCount m count bound) where
  -- defaults add nothing
  along : (e c r rest : List Choice) → Defaults m c r → r ≡ (c ++ e) ++ rest → count (c ++ e) ≤ count c
  along [] c r rest d h = omega (arith, ap count (append-nil c))
  along (x ∷ e) c r rest (over _ g) h = absurd (omega (arith, ap length h, lengths))
    where
      lengths : length ((c ++ x ∷ e) ++ rest) ≡ length c + suc (length e + length rest)
      lengths = omega (arith, length-append (c ++ x ∷ e) rest, length-append c (x ∷ e))
  along (x ∷ e) c r rest (on _ s n g d) h =
      let z = goes_on m (c ++ n.default ∷ []) r d in
      let q : n.default ∷ z.0 ≡ x ∷ (e ++ rest) =
      cancel_front c (n.default ∷ z.0) (x ∷ (e ++ rest)) (sym (snoc_append c n.default z.0) ∙ sym z.1 ∙ h ∙ append_assoc c (x ∷ e) rest) in
      let same_first : x ≡ n.default = cc q in
      let place : (c ++ n.default ∷ []) ++ e ≡ c ++ x ∷ e = snoc_append c n.default e ∙ ap (λ u. c ++ u ∷ e) (sym same_first) in
      let ih = along e (c ++ n.default ∷ []) r rest d (h ∙ ap (λ u. u ++ rest) (sym place)) in
      omega (arith, ih, ap count place, k.by_default c n g)

  Within : List Choice → Type 0
  Within x = (before rest : List Choice) → x ≡ before ++ rest → count before ≤ bound

  -- a run is within the bound if the choices that it was given are
  run_within : (c : List Choice) → Within c → Within (run m c)
  unfolding Within
  run_within c h before rest e = go (two_fronts before c rest z.0 (sym e ∙ z.1))
    where
      z : (e : List Choice) × (run m c ≡ c ++ e)
      z = goes_on m c (run m c) (run_reached m w c)

      go : TwoFronts before c → count before ≤ bound
      go (shorter f g) = h before f g
      go (longer x f g) =
          omega (arith, along (x ∷ f) c (run m c) rest (run_reached m w c) (e ∙ ap (λ u. u ++ rest) g), ap count g, h c [] (sym (append-nil c)))

  snoc_within : (before : List Choice) (o : Choice) → Within before → count (before ++ o ∷ []) ≤ bound → Within (before ++ o ∷ [])
  unfolding Within
  snoc_within before o h last b rest e = go (two_fronts b before rest (o ∷ []) (sym e))
    where
      go : TwoFronts b before → count b ≤ bound
      go (shorter f g) = h b f g
      go (longer x f g) =
          let q : x ∷ (f ++ rest) ≡ o ∷ [] = cancel_front before (x ∷ (f ++ rest)) (o ∷ []) (sym (append_assoc before (x ∷ f) rest) ∙ ap (λ u. u ++ rest) (sym g) ∙ sym e) in
          omega (arith, last, ap count (g ∙ ap (λ u. before ++ u) (only f (cc q) (cc q))))
        where
          only : (f : List Choice) → x ≡ o → f ++ rest ≡ [] → x ∷ f ≡ o ∷ []
          only [] i j = ap (λ u. u ∷ []) i
          only (y ∷ f) i j = absurd (cc j)

  reachable_within : (x : List Choice) → Reachable m x → Within x
  unfolding Within
  reachable_within x by_default = run_within [] (λ before rest e. none before rest e)
    where
      none : (before rest : List Choice) → [] ≡ before ++ rest → count before ≤ bound
      none [] rest e = omega (arith, k.start)
      none (b ∷ before) rest e = absurd (cc e)
  reachable_within x (by_alternative r before o d alt) = go (reachable_within r d)
    where
      go : Within r → Within (run m (before ++ o ∷ []))
      go h = run_within (before ++ o ∷ []) (snoc_within before o (λ b rest e. h b (rest ++ alt.chosen ∷ alt.after)
          (alt.splits ∙ ap (λ u. u ++ alt.chosen ∷ alt.after) e ∙ append_assoc b rest (alt.chosen ∷ alt.after))) (last (is_thread alt.made.default) refl alt.called))
        where
          here : count before ≤ bound
          here = h before (alt.chosen ∷ alt.after) alt.splits

          last : (b : Bool) → is_thread alt.made.default ≡ b → ((m.every before ≡ true) ⊎ ((m.reduce ≡ true) × (m.marks r (length before) o ≡ true) × (o ≢ alt.made.default)))
              → count (before ++ o ∷ []) ≤ bound
          last false t c = omega (arith, here, k.by_value before alt.made o alt.met t)
          last true t (inl c) = omega (arith, k.by_thread before alt.made o alt.met, k.below before alt.made alt.met t c)
          last true t (inr c) =
              omega (
                arith,
                here,
                k.by_thread before alt.made o alt.met,
                k.marked before alt.chosen alt.after o (subst (λ u. m.marks u (length before) o ≡ true) alt.splits c.1),
              )

pub bound_law : BoundLaw
unfolding Within
bound_law m count bound w k x d before rest e = reachable_within m count bound w k x d before rest e
