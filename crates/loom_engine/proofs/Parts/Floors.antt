-- A path with a floor is a sealed path.
use Rattle.std.proofs.Common.{◌≡◌, ◌≢◌, ◌≤◌, ℕ, zero, suc, Bool, true, false, cond, ◌&&◌, List, [], ◌∷◌, ◌++◌, length, Option, Some, None, refl, ap, ap₂, sym, ◌∙◌, subst, arith}
use Rattle.loom_objects.specs.declared.choice.Choice.{Choice}
use Rattle.loom_engine.specs.Walk.Machine.{Machine, run}
use Rattle.loom_engine.specs.Walk.Path.{Status, Closed, Skip, Pending, Active, Visited, Stored, choices, node_at, IsAtRest, new_nodes, mark_status, mark, mark_all, first_pending, choose, advance, step, after_run}
use Rattle.loom_engine.proofs.Walk.Lists.{node_on}
use Rattle.loom_engine.proofs.Walk.After.{node_in}
use Rattle.loom_engine.proofs.Walk.Resting.{choose_at_rest}
use Rattle.loom_engine.specs.Parts.Cuts.{IsBelow, sealed_status, seal}
use Rattle.loom_engine.specs.Parts.Floors.{seal_to, step_above, if_sealed, branch_off, end_with, FloorLaw, PartLaw, RaiseLaw, BranchLaw, EndLaw}
use Rattle.loom_engine.proofs.Parts.Sealing.{not_to_try, seal_at_rest}

pub to_choices : (k : ℕ) (p : List Stored) → choices (seal_to k p) ≡ choices p
to_choices zero p = refl
to_choices (suc k) [] = refl
to_choices (suc k) (n ∷ p) = ap (λ t. n.present ∷ t) (to_choices k p)

to_front : (k : ℕ) (p q : List Stored) → k ≤ length p → seal_to k (p ++ q) ≡ seal_to k p ++ q
to_front zero p q h = refl
to_front (suc k) [] q h = absurd (omega arith)
to_front (suc k) (n ∷ p) q h = ap (λ t. seal n ∷ t) (to_front k p q (omega arith))

-- marks make nothing of a node that is sealed
mark_seal : (b e : Bool) (s : Status) → mark_status b (cond e (sealed_status s) s) ≡ cond e (sealed_status (mark_status b s)) (mark_status b s)
mark_seal b false s = refl
mark_seal b true Closed = refl
mark_seal true true Skip = refl
mark_seal false true Skip = refl
mark_seal b true Pending = refl
mark_seal b true Active = refl
mark_seal b true Visited = refl

mark_sealed : (m : Machine) (r : List Choice) (j : ℕ) (n : Stored) → mark m r j (seal n) ≡ seal (mark m r j n)
mark_sealed m r j n = λ i. record n { status = λ o. mark_seal (m.reduce && m.marks r j o) n.made.exploring (n.status o) i }

marked_sealed : (m : Machine) (r : List Choice) (j k : ℕ) (p : List Stored) → mark_all m r j (seal_to k p) ≡ seal_to k (mark_all m r j p)
marked_sealed m r j zero p = refl
marked_sealed m r j (suc k) [] = refl
marked_sealed m r j (suc k) (n ∷ p) = ap₂ (λ (x : Stored) (t : List Stored). x ∷ t) (mark_sealed m r j n) (marked_sealed m r (suc j) k p)

after_sealed : (m : Machine) (k : ℕ) (p : List Stored) → k ≤ length p → after_run m (seal_to k p) ≡ seal_to k (after_run m p)
after_sealed m k p h =
    ap (λ c. mark_all m (run m c) zero (seal_to k p ++ new_nodes m m.limit c)) (to_choices k p)
    ∙ ap (mark_all m (run m (choices p)) zero) (sym (to_front k p (new_nodes m m.limit (choices p)) h))
    ∙ marked_sealed m (run m (choices p)) zero k (p ++ new_nodes m m.limit (choices p))

-- a node that is sealed doesn't go on
none_to_try : (s : Choice → Status) (os : List Choice) → first_pending (λ o. sealed_status (s o)) os ≡ None
none_to_try s [] = refl
none_to_try s (o ∷ os) = go (s o) (none_to_try s os)
  where
    go : (t : Status) → first_pending (λ x. sealed_status (s x)) os ≡ None
        → (◌≡◌ {A = Option Choice} (elim (sealed_status t) [ Pending ↦ Some o | _ ↦ first_pending (λ x. sealed_status (s x)) os ]) None)
    go Closed ih = ih
    go Skip ih = ih
    go Pending ih = ih
    go Active ih = ih
    go Visited ih = ih

abbrev goes_to : Stored → Option Choice → Option Stored
goes_to n x = elim x [ None ↦ None | Some o ↦ Some (choose (seal n) o) ]

stays : (n : Stored) → advance (seal n) ≡ None
stays n = go n.made.exploring
  where
    go : (b : Bool) → (◌≡◌ {A = Option Stored} (cond b (goes_to n (first_pending (λ o. cond b (sealed_status (n.status o)) (n.status o)) n.made.options)) None) None)
    go true = ap (goes_to n) (none_to_try n.status n.made.options)
    go false = refl

step_sealed : (k : ℕ) (q : List Stored) → step (seal_to k q) ≡ if_sealed k (step_above k q)
unfolding step step_above
step_sealed zero q = go (step q)
  where
    go : (x : Option (List Stored)) → x ≡ if_sealed zero x
    go None = refl
    go (Some p) = refl
step_sealed (suc k) [] = refl
step_sealed (suc k) (n ∷ q) = go (step (seal_to k q)) (step_above k q) (advance (seal n)) (step_sealed k q) (stays n)
  where
    go : (x y : Option (List Stored)) (a : Option Stored) → x ≡ if_sealed k y → a ≡ None
        → elim x [ Some deeper ↦ Some (seal n ∷ deeper) | None ↦ elim a [ None ↦ None | Some next ↦ Some (next ∷ []) ] ] ≡ if_sealed (suc k) (elim y [ Some deeper ↦ Some (n ∷ deeper) | None ↦ None ])
    go x None a e f = rw (e, f) refl
    go x (Some deeper) a e f = rw e refl

pub floor_law : FloorLaw
floor_law m k p h = ap step (after_sealed m k p h) ∙ step_sealed k (after_run m p)

-- where the nodes stand
data ToPlace (b : List Choice) (p : List Stored) (before : List Choice) (y : Stored) : Type 0 where
  is_low : (n : Stored) → node_at p before ≡ Some n → y ≡ seal n → ToPlace b p before y
  is_high : (f : List Choice) → (IsBelow before b → ⊥) → node_at p before ≡ Some y → ToPlace b p before y

not_below_nothing : (before : List Choice) → IsBelow before [] → ⊥
not_below_nothing [] (c, e, h) = cc h
not_below_nothing (x ∷ before) (c, e, h) = cc h

below_on : (x : Choice) (before b : List Choice) (c : Choice) → IsBelow (x ∷ before) (c ∷ b) → IsBelow before b
below_on x before b c (d, e, h) = (d, e, cc h)

to_place : (b : List Choice) (p : List Stored) (before : List Choice) (y : Stored) → node_at (seal_to (length b) p) before ≡ Some y → ToPlace b p before y
unfolding node_at
to_place [] p before y g = is_high [] (not_below_nothing before) g
to_place (c ∷ b) [] before y g = absurd (cc g)
to_place (c ∷ b) (x ∷ p) [] y g = is_low x refl (sym (cc g))
to_place (c ∷ b) (x ∷ p) (d ∷ before) y g = go (to_place b p before y z.1)
  where
    z : (d ≡ x.present) × (node_at (seal_to (length b) p) before ≡ Some y)
    z = node_in (seal x) (seal_to (length b) p) d before y g

    go : ToPlace b p before y → ToPlace (c ∷ b) (x ∷ p) (d ∷ before) y
    go (is_low n h e) = is_low n (node_on x p d before z.0 ∙ h) e
    go (is_high f h e) = is_high f (λ i. h (below_on d before b c i)) (node_on x p d before z.0 ∙ e)

pub part_law : PartLaw
part_law m b e p rest h = record {
  resting = record { meets = λ before y g. meets before y (to_place b p before y g); rest = λ before y g. each before y (to_place b p before y g) };
  begins = (e, to_choices (length b) p ∙ h);
  sealed = λ before y o g low ex. sealed before y o low ex (to_place b p before y g);
}
  where
    meets : (before : List Choice) (y : Stored) → ToPlace b p before y → m.node before ≡ Some y.made
    meets before y (is_low n g f) = rest.meets before n g ∙ ap (λ (z : Stored). Some z.made) (sym f)
    meets before y (is_high f g i) = rest.meets before y i

    each : (before : List Choice) (y : Stored) → ToPlace b p before y → IsAtRest y
    each before y (is_low n g f) = subst IsAtRest (sym f) (seal_at_rest n (rest.rest before n g))
    each before y (is_high f g i) = rest.rest before y i

    sealed : (before : List Choice) (y : Stored) (o : Choice) → IsBelow before b → y.made.exploring ≡ true → ToPlace b p before y → (y.status o ≢ Pending) × (y.status o ≢ Skip)
    sealed before y o low ex (is_low n g f) =
        let z = not_to_try n o (sym (ap (λ (z : Stored). z.made.exploring) f) ∙ ex) in (
          (λ s. z.0 (sym (ap (λ (z : Stored). z.status o) f) ∙ s)),
          λ s. z.1 (sym (ap (λ (z : Stored). z.status o) f) ∙ s),
        )
    sealed before y o low ex (is_high f g i) = absurd (g low)

pub raise_law : RaiseLaw
unfolding node_at
raise_law [] [] n h = absurd (cc h)
raise_law [] (x ∷ p) n h = (h, refl)
raise_law (c ∷ b) [] n h = absurd (cc h)
raise_law (c ∷ b) (x ∷ p) n h =
    let z = node_in x p c b n h in
    let ih = raise_law b p n z.1 in
    (node_on (seal x) (seal_to (length b) p) c b z.0 ∙ ih.0, ap (λ t. seal x ∷ t) ih.1)

-- a path that branches off
pub data BranchPlace (p : List Stored) (before : List Choice) (n : Stored) (o : Choice) (d : List Choice) (y : Stored) : Type 0 where
  at_branch : d ≡ before → y ≡ choose n o → BranchPlace p before n o d y
  on_branch : node_at p d ≡ Some y → BranchPlace p before n o d y

pub branch_place : (p : List Stored) (before : List Choice) (n : Stored) (o : Choice) → node_at p before ≡ Some n → (d : List Choice) (y : Stored) → node_at (branch_off (length before) o p) d ≡ Some y
    → BranchPlace p before n o d y
unfolding node_at
branch_place [] before n o h d y g = absurd (cc h)
branch_place (x ∷ p) [] n o h [] y g = let e : x ≡ n = cc h in at_branch refl (sym (cc g) ∙ ap (λ z. choose z o) e)
branch_place (x ∷ p) [] n o h (c ∷ d) y g = let z = node_in (choose x o) [] c d y g in absurd (cc (z.1))
branch_place (x ∷ p) (b ∷ before) n o h [] y g = on_branch g
branch_place (x ∷ p) (b ∷ before) n o h (c ∷ d) y g = go (branch_place p before n o i.1 d y z.1)
  where
    i : (b ≡ x.present) × (node_at p before ≡ Some n)
    i = node_in x p b before n h

    z : (c ≡ x.present) × (node_at (branch_off (length before) o p) d ≡ Some y)
    z = node_in x (branch_off (length before) o p) c d y g

    go : BranchPlace p before n o d y → BranchPlace (x ∷ p) (b ∷ before) n o (c ∷ d) y
    go (at_branch e f) = at_branch (cc (e, i.0, z.0)) f
    go (on_branch e) = on_branch (node_on x p c d z.0 ∙ e)

pub branch_choices : (p : List Stored) (before : List Choice) (n : Stored) (o : Choice) → node_at p before ≡ Some n → choices (branch_off (length before) o p) ≡ before ++ o ∷ []
unfolding node_at
branch_choices [] before n o h = absurd (cc h)
branch_choices (x ∷ p) [] n o h = refl
branch_choices (x ∷ p) (b ∷ before) n o h =
    let i = node_in x p b before n h in
    ap₂ (λ (c : Choice) (t : List Choice). c ∷ t) (sym i.0) (branch_choices p before n o i.1)

pub branch_law : BranchLaw
branch_law m p before n o rest at ex pending = (
  record { meets = λ d y g. meets d y (branch_place p before n o at d y g); rest = λ d y g. each d y (branch_place p before n o at d y g) },
  branch_choices p before n o at,
)
  where
    meets : (d : List Choice) (y : Stored) → BranchPlace p before n o d y → m.node d ≡ Some y.made
    meets d y (at_branch e f) = ap m.node e ∙ rest.meets before n at ∙ ap (λ (z : Stored). Some z.made) (sym f)
    meets d y (on_branch e) = rest.meets d y e

    each : (d : List Choice) (y : Stored) → BranchPlace p before n o d y → IsAtRest y
    each d y (at_branch e f) = subst IsAtRest (sym f) (choose_at_rest n o (rest.rest before n at) ex pending)
    each d y (on_branch e) = rest.rest d y e

-- a path that ends with another node
pub data EndPlace (p : List Stored) (before : List Choice) (next : Stored) (d : List Choice) (y : Stored) : Type 0 where
  at_end : d ≡ before → y ≡ next → EndPlace p before next d y
  on_way : node_at p d ≡ Some y → EndPlace p before next d y

pub end_place : (p : List Stored) (before : List Choice) (n next : Stored) → node_at p before ≡ Some n → (d : List Choice) (y : Stored) → node_at (end_with (length before) next p) d ≡ Some y
    → EndPlace p before next d y
unfolding node_at
end_place [] before n next h d y g = absurd (cc h)
end_place (x ∷ p) [] n next h [] y g = at_end refl (sym (cc g))
end_place (x ∷ p) [] n next h (c ∷ d) y g = let z = node_in next [] c d y g in absurd (cc (z.1))
end_place (x ∷ p) (b ∷ before) n next h [] y g = on_way g
end_place (x ∷ p) (b ∷ before) n next h (c ∷ d) y g = go (end_place p before n next i.1 d y z.1)
  where
    i : (b ≡ x.present) × (node_at p before ≡ Some n)
    i = node_in x p b before n h

    z : (c ≡ x.present) × (node_at (end_with (length before) next p) d ≡ Some y)
    z = node_in x (end_with (length before) next p) c d y g

    go : EndPlace p before next d y → EndPlace (x ∷ p) (b ∷ before) next (c ∷ d) y
    go (at_end e f) = at_end (cc (e, i.0, z.0)) f
    go (on_way e) = on_way (node_on x p c d z.0 ∙ e)

end_choices : (p : List Stored) (before : List Choice) (n next : Stored) → node_at p before ≡ Some n → choices (end_with (length before) next p) ≡ before ++ next.present ∷ []
unfolding node_at
end_choices [] before n next h = absurd (cc h)
end_choices (x ∷ p) [] n next h = refl
end_choices (x ∷ p) (b ∷ before) n next h =
    let i = node_in x p b before n h in
    ap₂ (λ (c : Choice) (t : List Choice). c ∷ t) (sym i.0) (end_choices p before n next i.1)

pub end_law : EndLaw
end_law m p before n next rest at made well = (
  record { meets = λ d y g. meets d y (end_place p before n next at d y g); rest = λ d y g. each d y (end_place p before n next at d y g) },
  end_choices p before n next at,
)
  where
    meets : (d : List Choice) (y : Stored) → EndPlace p before next d y → m.node d ≡ Some y.made
    meets d y (at_end e f) = ap m.node e ∙ rest.meets before n at ∙ ap (λ t. Some t) (sym made) ∙ ap (λ (z : Stored). Some z.made) (sym f)
    meets d y (on_way e) = rest.meets d y e

    each : (d : List Choice) (y : Stored) → EndPlace p before next d y → IsAtRest y
    each d y (at_end e f) = subst IsAtRest (sym f) well
    each d y (on_way e) = rest.rest d y e
