-- A node of a path is sealed.
use Rattle.std.proofs.Common.{◌≡◌, ◌≢◌, Bool, true, false, cond, List, [], ◌∷◌, ◌++◌, Some, refl, ap, sym, ◌∙◌, subst, inl, inr}
use Rattle.loom_objects.specs.declared.choice.Choice.{Choice}
use Rattle.loom_engine.specs.Walk.Machine.{Machine, run}
use Rattle.loom_engine.specs.Walk.Path.{Status, Closed, Skip, Pending, Active, Visited, Stored, choices, node_at, IsAtRest, IsBarred, IsLeftOut, Rest, by_path, by_pending, by_alternative}
use Rattle.loom_engine.proofs.Walk.Lists.{node_on}
use Rattle.loom_engine.proofs.Walk.After.{node_in}
use Rattle.loom_engine.proofs.Walk.Statuses.{left_out, left_out_is}
use Rattle.loom_engine.specs.Parts.Cuts.{sealed_status, seal, seal_at}
use Rattle.loom_engine.proofs.Parts.Lists.{same_list}

-- what a seal leaves
was_active : (b : Bool) (s : Status) → cond b (sealed_status s) s ≡ Active → s ≡ Active
was_active false s h = h
was_active true Closed h = absurd (cc h)
was_active true Skip h = absurd (cc h)
was_active true Pending h = absurd (cc h)
was_active true Active h = refl
was_active true Visited h = absurd (cc h)

was_closed : (b : Bool) (s : Status) → cond b (sealed_status s) s ≡ Closed → s ≡ Closed
was_closed false s h = h
was_closed true Closed h = refl
was_closed true Skip h = absurd (cc h)
was_closed true Pending h = absurd (cc h)
was_closed true Active h = absurd (cc h)
was_closed true Visited h = absurd (cc h)

kept_closed : (b : Bool) (s : Status) → s ≡ Closed → cond b (sealed_status s) s ≡ Closed
kept_closed true s h = ap sealed_status h
kept_closed false s h = h

kept_active : (b : Bool) (s : Status) → s ≡ Active → cond b (sealed_status s) s ≡ Active
kept_active true s h = ap sealed_status h
kept_active false s h = h

kept_visited : (b : Bool) (s : Status) → s ≡ Visited → cond b (sealed_status s) s ≡ Visited
kept_visited true s h = ap sealed_status h
kept_visited false s h = h

never_skip : (b : Bool) (s : Status) → b ≡ true → cond b (sealed_status s) s ≡ Skip → ⊥
never_skip false s e h = cc e
never_skip true Closed e h = cc h
never_skip true Skip e h = cc h
never_skip true Pending e h = cc h
never_skip true Active e h = cc h
never_skip true Visited e h = cc h

never_pending : (b : Bool) (s : Status) → b ≡ true → cond b (sealed_status s) s ≡ Pending → ⊥
never_pending false s e h = cc e
never_pending true Closed e h = cc h
never_pending true Skip e h = cc h
never_pending true Pending e h = cc h
never_pending true Active e h = cc h
never_pending true Visited e h = cc h

was_skip : (b : Bool) (s : Status) → cond b (sealed_status s) s ≡ Skip → s ≡ Skip
was_skip false s h = h
was_skip true Closed h = absurd (cc h)
was_skip true Skip h = refl
was_skip true Pending h = absurd (cc h)
was_skip true Active h = absurd (cc h)
was_skip true Visited h = absurd (cc h)

still_barred : (m : Machine) (b : Bool) (s : Status) → IsBarred m s → IsBarred m (cond b (sealed_status s) s)
still_barred m false s h = h
still_barred m true Closed h = h
still_barred m true Skip h = tt
still_barred m true Pending h = absurd h
still_barred m true Active h = h
still_barred m true Visited h = h

pub not_to_try : (n : Stored) (o : Choice) → n.made.exploring ≡ true → ((seal n).status o ≢ Pending) × ((seal n).status o ≢ Skip)
not_to_try n o e = ((λ h. never_pending n.made.exploring (n.status o) e h), λ h. never_skip n.made.exploring (n.status o) e h)

pub sealed_skip : (n : Stored) (o : Choice) → (seal n).status o ≡ Skip → n.status o ≡ Skip
sealed_skip n o h = was_skip n.made.exploring (n.status o) h

pub sealed_bars : (m : Machine) (n : Stored) (o : Choice) → IsBarred m (n.status o) → IsBarred m ((seal n).status o)
sealed_bars m n o h = still_barred m n.made.exploring (n.status o) h

pub seal_at_rest : (n : Stored) → IsAtRest n → IsAtRest (seal n)
seal_at_rest n w = record {
  active = kept_active n.made.exploring (n.status n.present) w.active;
  one = λ o h. w.one o (was_active n.made.exploring (n.status o) h);
  default = elim w.default [
    | inl d ↦ inl (kept_active n.made.exploring (n.status n.made.default) d)
    | inr d ↦ inr (kept_visited n.made.exploring (n.status n.made.default) d)
  ];
  opened = λ o am h. w.opened o am (was_closed n.made.exploring (n.status o) h);
  closed = λ o h. w.closed o (λ e. h (kept_closed n.made.exploring (n.status o) e));
  values = λ t o h. w.values t o (was_skip n.made.exploring (n.status o) h);
  fixed = λ e. let f = w.fixed e in (f.0, (λ o h. f.1 o (unsealed n.made.exploring (n.status o) Visited e h)), λ t o h. f.2 t o (unsealed n.made.exploring (n.status o) Pending e h));
}
  where
    unsealed : (b : Bool) (s t : Status) → b ≡ false → cond b (sealed_status s) s ≡ t → s ≡ t
    unsealed false s t e h = h
    unsealed true s t e h = absurd (cc e)

-- where the nodes of the path stand
pub seal_choices : (b : List Choice) (p : List Stored) → choices (seal_at b p) ≡ choices p
seal_choices [] [] = refl
seal_choices (c ∷ b) [] = refl
seal_choices [] (n ∷ p) = refl
seal_choices (c ∷ b) (n ∷ p) = ap (λ t. n.present ∷ t) (seal_choices b p)

pub data SealedPlace (b : List Choice) (p : List Stored) (n : Stored) (before : List Choice) (y : Stored) : Type 0 where
  is_sealed : before ≡ b → y ≡ seal n → SealedPlace b p n before y
  is_as_was : (before ≡ b → ⊥) → node_at p before ≡ Some y → SealedPlace b p n before y

place_on : (x : Stored) (c : Choice) (b : List Choice) (p : List Stored) (n : Stored) (d : Choice) (before : List Choice) (y : Stored) → c ≡ x.present → d ≡ x.present
    → SealedPlace b p n before y → SealedPlace (c ∷ b) (x ∷ p) n (d ∷ before) y
place_on x c b p n d before y e f (is_sealed g h) = is_sealed (cc (e, f, g)) h
place_on x c b p n d before y e f (is_as_was g h) = is_as_was (λ i. g (cc i)) (node_on x p d before f ∙ h)

pub sealed_place : (b : List Choice) (p : List Stored) (n : Stored) → node_at p b ≡ Some n → (before : List Choice) (y : Stored) → node_at (seal_at b p) before ≡ Some y → SealedPlace b p n before y
unfolding node_at
sealed_place [] [] n h before y g = absurd (cc h)
sealed_place (c ∷ b) [] n h before y g = absurd (cc h)
sealed_place [] (x ∷ p) n h [] y g = let e : x ≡ n = cc h in is_sealed refl (subst (λ z. y ≡ seal z) e (cc g))
sealed_place [] (x ∷ p) n h (d ∷ before) y g = let z = node_in (seal x) p d before y g in is_as_was (λ i. cc i) (node_on x p d before z.0 ∙ z.1)
sealed_place (c ∷ b) (x ∷ p) n h [] y g = is_as_was (λ i. cc i) g
sealed_place (c ∷ b) (x ∷ p) n h (d ∷ before) y g =
    let i = node_in x p c b n h in
    let z = node_in x (seal_at b p) d before y g in
    place_on x c b p n d before y i.0 z.0 (sealed_place b p n i.1 before y z.1)

pub sealed_here : (b : List Choice) (p : List Stored) (n : Stored) → node_at p b ≡ Some n → node_at (seal_at b p) b ≡ Some (seal n)
unfolding node_at
sealed_here [] [] n h = absurd (cc h)
sealed_here (c ∷ b) [] n h = absurd (cc h)
sealed_here [] (x ∷ p) n h = let e : x ≡ n = cc h in ap (λ z. Some (seal z)) e
sealed_here (c ∷ b) (x ∷ p) n h = let i = node_in x p c b n h in node_on x (seal_at b p) c b i.0 ∙ sealed_here b p n i.1

pub as_was : (b : List Choice) (p : List Stored) (n : Stored) → node_at p b ≡ Some n → (before : List Choice) (y : Stored) → node_at p before ≡ Some y → (before ≡ b → ⊥)
    → node_at (seal_at b p) before ≡ Some y
unfolding node_at
as_was [] [] n h before y g f = absurd (cc g)
as_was (c ∷ b) [] n h before y g f = absurd (cc g)
as_was [] (x ∷ p) n h [] y g f = absurd (f refl)
as_was [] (x ∷ p) n h (d ∷ before) y g f = let z = node_in x p d before y g in node_on (seal x) p d before z.0 ∙ z.1
as_was (c ∷ b) (x ∷ p) n h [] y g f = g
as_was (c ∷ b) (x ∷ p) n h (d ∷ before) y g f =
    let i = node_in x p c b n h in
    let z = node_in x p d before y g in
    node_on x (seal_at b p) d before z.0 ∙ as_was b p n i.1 before y z.1 (λ e. f (cc (e, i.0, z.0)))

-- what is left from the sealed path was left from the path
pub rest_unsealed : (m : Machine) (b : List Choice) (p : List Stored) (n : Stored) → node_at p b ≡ Some n → (x : List Choice) → Rest m (seal_at b p) x → Rest m p x
rest_unsealed m b p n h x by_path = subst (λ t. Rest m p (run m t)) (sym (seal_choices b p)) by_path
rest_unsealed m b p n h x (by_pending before y o g ex s) = go (sealed_place b p n h before y g)
  where
    go : SealedPlace b p n before y → Rest m p (run m (before ++ o ∷ []))
    go (is_sealed e f) = absurd ((not_to_try n o (sym (ap (λ (z : Stored). z.made.exploring) f) ∙ ex)).0 (sym (ap (λ (z : Stored). z.status o) f) ∙ s))
    go (is_as_was e f) = by_pending before y o f ex s
rest_unsealed m b p n h x (by_alternative r before o d alt out) = by_alternative r before o (rest_unsealed m b p n h r d) alt still
  where
    still : IsLeftOut m p before o → ⊥
    still l = out (go (same_list before b))
      where
        z : (y : Stored) × (node_at p before ≡ Some y) × IsBarred m (y.status o)
        z = left_out_is m p before o l

        go : Dec (before ≡ b) → IsLeftOut m (seal_at b p) before o
        go (yes e) =
            let same_node : n ≡ z.0 = cc (h, z.1, ap (node_at p) e) in
            left_out m (seal_at b p) before o (seal n) (ap (node_at (seal_at b p)) e ∙ sealed_here b p n h)
            (sealed_bars m n o (subst (λ (y : Stored). IsBarred m (y.status o)) (sym same_node) z.2))
        go (no e) = left_out m (seal_at b p) before o z.0 (as_was b p n h before z.0 z.1 e) z.2
