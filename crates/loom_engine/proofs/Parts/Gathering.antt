-- What is collected of a path is what is noted in it.
use Rattle.std.proofs.Common.{◌≡◌, ◌<◌, ◌+◌, ℕ, zero, suc, true, List, [], ◌∷◌, ◌++◌, map, length, Some, refl, ap, ap₂, sym, ◌∙◌, subst, inl, inr, arith}
use Rattle.std.specs.Prelude.{slice_get, Result, Ok, Err, IfOk}
use native.Mathlib.Decide.{ℕ_discrete}
use Rattle.loom_objects.specs.declared.choice.Choice.{Choice}
use Rattle.loom_engine.specs.Walk.Machine.{is_thread}
use Rattle.loom_engine.specs.Walk.Path.{Stored, choices, node_at}
use Rattle.loom_engine.specs.Walk.Lists.{Member}
use Rattle.loom_engine.proofs.Walk.After.{node_in}
use Rattle.loom_engine.specs.declared.rt.path.node.Node.{Node}
use Rattle.loom_engine.specs.declared.rt.path.opening.Opening.{Opening}
use Rattle.loom_engine.specs.Path.Nodes.{seen, stored}
use Rattle.loom_engine.specs.Parts.Cuts.{IsBelow}
use Rattle.loom_engine.specs.Parts.Works.{IsNotedIn, Gathers}
use Rattle.loom_engine.specs.Parts.Openings.{IsOpen, Opens, OpensAt, EachNode, IsChosen, chosen_to, key_at, EachOpening, IsListed, IsLow, AreLow, at_place, Adds, AddsLow, none_there, some_there}
use Rattle.loom_engine.proofs.Parts.Lows.{below_length}
use Rattle.loom_engine.proofs.Parts.Keeping.{stands_at}

-- ---- the openings of one node

abbrev IsLowAt : ℕ → List Node → Opening → Type 0
IsLowAt floor nodes opening = OpensAt nodes opening × IsLow floor nodes opening

wider : (k : ℕ) (nodes : List Node) (list : List Opening) → EachOpening (IsLowAt k nodes) list → EachOpening (IsLowAt (k + 1) nodes) list
wider k nodes [] h = tt
wider k nodes (x ∷ list) h = ((h.0.0, ((let l = h.0.1.0 in omega (arith, l)), h.0.1.1, h.0.1.2, h.0.1.3)), wider k nodes list h.1)

each_join : (P : Opening → Type 0) (xs ys : List Opening) → EachOpening P xs → EachOpening P ys → EachOpening P (xs ++ ys)
each_join P [] ys h g = g
each_join P (x ∷ xs) ys h g = (h.0, each_join P xs ys h.1 g)

placed : (k : ℕ) (nodes : List Node) (n : Node) (list : List Node) → slice_get nodes k ≡ Some n → is_thread (seen n).made.default ≡ true → EachNode (Opens n) list
    → EachOpening (IsLowAt (k + 1) nodes) (map (at_place k) list)
placed k nodes n [] at t h = tt
placed k nodes n (x ∷ list) at t h = (((n, at, h.0), (omega arith, n, at, t)), placed k nodes n list at t h.1)

listed_front : (k : ℕ) (o : Choice) (xs ys : List Opening) → IsListed k o xs → IsListed k o (xs ++ ys)
listed_front k o [] ys h = absurd h
listed_front k o (x ∷ xs) ys h = elim h [ inl e ↦ inl e | inr i ↦ inr (listed_front k o xs ys i) ]

listed_back : (k : ℕ) (o : Choice) (xs ys : List Opening) → IsListed k o ys → IsListed k o (xs ++ ys)
listed_back k o [] ys h = h
listed_back k o (x ∷ xs) ys h = inr (listed_back k o xs ys h)

pub chosen_listed : (k : ℕ) (o : Choice) (list : List Node) → IsChosen o list → IsListed k o (map (at_place k) list)
chosen_listed k o [] h = absurd h
chosen_listed k o (x ∷ list) h = elim h [ inl e ↦ inl (refl, e) | inr i ↦ inr (chosen_listed k o list i) ]

pub low_none : (nodes : List Node) (list : List Opening) → list ≡ [] → AreLow 0 nodes list
low_none nodes list e = record { each = subst (EachOpening (IsLowAt 0 nodes)) (sym e) tt; all = λ place n o l. absurd (omega (arith, l)) }

pub low_more : (k : ℕ) (nodes : List Node) (old new : List Opening) → AreLow k nodes old → AddsLow k nodes old new → AreLow (k + 1) nodes new
low_more k nodes old new h (none_there f e) = record {
  each = subst (EachOpening (IsLowAt (k + 1) nodes)) (sym e) (wider k nodes old h.each);
  all = λ place n o l at t i. subst (IsListed place o) (sym e) (go place n o l at t i (ℕ_discrete place k));
}
  where
    go : (place : ℕ) (n : Node) (o : Choice) → place < k + 1 → slice_get nodes place ≡ Some n → is_thread (seen n).made.default ≡ true → IsOpen n o → Dec (place ≡ k) → IsListed place o old
    go place n o l at t i (yes g) = absurd (f n (ap (slice_get nodes) (sym g) ∙ at) t)
    go place n o l at t i (no g) = h.all place n o (omega (arith, l, g)) at t i
low_more k nodes old new h (some_there n at t (list, are, e)) = record {
  each = subst (EachOpening (IsLowAt (k + 1) nodes)) (sym e)
      (each_join (IsLowAt (k + 1) nodes) old (map (at_place k) list) (wider k nodes old h.each) (placed k nodes n list at t are.each));
  all = λ place x o l there u i. subst (IsListed place o) (sym e) (go place x o l there u i (ℕ_discrete place k));
}
  where
    go : (place : ℕ) (x : Node) (o : Choice) → place < k + 1 → slice_get nodes place ≡ Some x → is_thread (seen x).made.default ≡ true → IsOpen x o → Dec (place ≡ k)
        → IsListed place o (old ++ map (at_place k) list)
    go place x o l there u i (yes g) =
        let same_node : x ≡ n = cc (there, at, ap (slice_get nodes) g) in
        listed_back place o old (map (at_place k) list)
        (subst (λ j. IsListed j o (map (at_place k) list)) (sym g) (chosen_listed k o list (are.all o (subst (λ (y : Node). IsOpen y o) same_node i))))
    go place x o l there u i (no g) = listed_front place o old (map (at_place k) list) (h.all place x o (omega (arith, l, g)) there u i)

-- ---- keys

pub each_at : {P Q : Opening → Type 0} (list : List Opening) → ((opening : Opening) → P opening → Q opening) → EachOpening P list → EachOpening Q list
each_at [] f h = tt
each_at (x ∷ list) f h = (f x h.0, each_at list f h.1)

-- the choices at the first nodes of a path that begins with b
pub below_of : (b e : List Choice) (nodes : List Node) (k : ℕ) → choices (stored nodes) ≡ b ++ e → k < length b → IsBelow (chosen_to k nodes) b
below_of [] e nodes k h l = absurd (omega arith)
below_of (c ∷ b) e nodes zero h l = (c, b, refl)
below_of (c ∷ b) e [] (suc k) h l = absurd (cc h)
below_of (c ∷ b) e (n ∷ nodes) (suc k) h l =
    let z = below_of b e nodes k (cc h) (omega arith) in
    let first : c ≡ (seen n).present = cc h in
    (z.0, z.1, ap₂ (λ (x : Choice) (t : List Choice). x ∷ t) first z.2)

record IsKeyOf (P : Opening → Type 0) (nodes : List Node) (k : List Choice) : Type 0 where
  opening : Opening
  holds : P opening
  is_key : k ≡ key_at nodes opening

key_of : (P : Opening → Type 0) (nodes : List Node) (list : List Opening) (k : List Choice) → EachOpening P list → Member k (map (key_at nodes) list) → IsKeyOf P nodes k
key_of P nodes [] k e h = absurd h
key_of P nodes (x ∷ list) k e (inl f) = record { opening = x; holds = e.0; is_key = f }
key_of P nodes (x ∷ list) k e (inr h) = key_of P nodes list k e.1 h

pub of_key : (nodes : List Node) (list : List Opening) (place : ℕ) (o : Choice) → IsListed place o list → Member (chosen_to place nodes ++ o ∷ []) (map (key_at nodes) list)
of_key nodes [] place o h = absurd h
of_key nodes (x ∷ list) place o (inl e) = inl (ap₂ (λ (k : ℕ) (c : Choice). chosen_to k nodes ++ c ∷ []) (sym e.0) (sym e.1))
of_key nodes (x ∷ list) place o (inr h) = inr (of_key nodes list place o h)

-- the place of a node
pub record HasPlace (nodes : List Node) (before : List Choice) (x : Stored) : Type 0 where
  pub place : ℕ
  pub node : Node
  pub stands : slice_get nodes place ≡ Some node
  pub same : seen node ≡ x
  pub chosen : chosen_to place nodes ≡ before

pub has_place : (nodes : List Node) (before : List Choice) (x : Stored) → node_at (stored nodes) before ≡ Some x → HasPlace nodes before x
unfolding node_at
has_place [] before x h = absurd (cc h)
has_place (n ∷ nodes) [] x h = record { place = zero; node = n; stands = refl; same = cc h; chosen = refl }
has_place (n ∷ nodes) (c ∷ before) x h =
    let i = node_in (seen n) (stored nodes) c before x h in
    let z = has_place nodes before x i.1 in
    record { place = suc z.place; node = z.node; stands = z.stands; same = z.same; chosen = ap₂ (λ (a : Choice) (t : List Choice). a ∷ t) (sym i.0) z.chosen }

pub gathers_of : (b e : List Choice) (nodes : List Node) (list : List Opening) (issued : List (List Choice)) → choices (stored nodes) ≡ b ++ e → AreLow (length b) nodes list
    → Gathers b (stored nodes) issued [] (map (key_at nodes) list)
gathers_of b e nodes list issued h low =
    record { only = λ k j. inr (only k (key_of (IsLowAt (length b) nodes) nodes list k low.each j)); old = λ k j. absurd j; each = λ k i. inl (each k i (has_place nodes i.before i.node i.stands)) }
  where
    only : (k : List Choice) → IsKeyOf (IsLowAt (length b) nodes) nodes k → IsNotedIn b (stored nodes) k
    only k z =
        let n = z.holds.0.0 in
        let at = z.holds.0.1 in
        let opens = z.holds.0.2 in
        let same_node : z.holds.1.1 ≡ z.holds.0.0 = cc (z.holds.1.2, at) in
        record {
          before = chosen_to z.opening.place nodes;
          option = (seen z.opening.node).present;
          node = seen z.holds.0.0;
          splits = z.is_key;
          low = below_of b e nodes z.opening.place h z.holds.1.0;
          stands = (stands_at nodes z.opening.place z.holds.0.0 at).0;
          exploring = opens.gone_on.opened.0;
          thread = ap (λ (x : Node). is_thread (seen x).made.default) (sym same_node) ∙ z.holds.1.3;
          pending = opens.gone_on.opened.1;
        }

    each : (k : List Choice) (i : IsNotedIn b (stored nodes) k) → HasPlace nodes i.before i.node → Member k (map (key_at nodes) list)
    each k i z =
        let is_key : k ≡ chosen_to z.place nodes ++ i.option ∷ [] = i.splits ∙ ap (λ (d : List Choice). d ++ i.option ∷ []) (sym z.chosen) in
        subst (λ y. Member y (map (key_at nodes) list)) (sym is_key)
        (of_key nodes list z.place i.option (low.all z.place z.node i.option there z.stands (ap (λ (y : Stored). is_thread y.made.default) z.same ∙ i.thread)
        (ap (λ (y : Stored). y.made.exploring) z.same ∙ i.exploring, ap (λ (y : Stored). y.status i.option) z.same ∙ i.pending)))
      where
        there : z.place < length b
        there =
            let l = below_length i.before b i.low in
            let f = ap length z.chosen in
            let g = (stands_at nodes z.place z.node z.stands).1 in
            omega (arith, l, f, g)

-- what the openings of a schedule add
pub adds_there : {A E : Type 0} (r : Result A E) (place : ℕ) (nodes : List Node) (n : Node) (old new : List Opening) → slice_get nodes place ≡ Some n → is_thread (seen n).made.default ≡ true
    → IfOk r (λ _. Adds place n old new) → IfOk r (λ _. AddsLow place nodes old new)
adds_there (Ok u) place nodes n old new at t h = some_there n at t h
adds_there (Err e) place nodes n old new at t h = tt
