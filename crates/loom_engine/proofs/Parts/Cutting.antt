-- A part is cut: one more of its nodes is fixed.
use Rattle.std.proofs.Common.{◌≡◌, ◌⊎◌, ◌↔◌, ℕ, List, [], ◌∷◌, ◌++◌, map, remove, length, Some, Vec, refl, ap, ap₂, sym, ◌∙◌, subst, inl, inr, append_assoc, append-nil}
use Rattle.std.specs.Prelude.{slice_get}
use Rattle.std.specs.declared.alloc.Global.{Global}
use Rattle.loom_objects.specs.declared.choice.Choice.{Choice}
use Rattle.loom_objects.specs.Tree.Question.{Among as IsOption}
use Rattle.loom_engine.specs.Walk.Machine.{Machine}
use Rattle.loom_engine.specs.Walk.Sound.{IsMachine}
use Rattle.loom_engine.specs.Walk.Path.{Stored, choices, node_at}
use Rattle.loom_engine.specs.Walk.Lists.{Member}
use Rattle.loom_engine.specs.declared.rt.path.node.Node.{Node}
use Rattle.loom_engine.specs.declared.rt.parts.Part.{Part as Kept}
use Rattle.loom_engine.specs.Path.Nodes.{seen, stored}
use Rattle.loom_engine.specs.Parts.Cuts.{Part, IsBelow, IsTried, AreTaken, AreOpen}
use Rattle.loom_engine.specs.Parts.Works.{Work}
use Rattle.loom_engine.specs.Parts.Openings.{IsOpen, Opens, OpensAt, EachNode, AreOpenings, chosen_to, key_at, EachOpening, at_place}
use Rattle.loom_engine.specs.Parts.Keeping.{part_of, views, keys, issued_onto}
use Rattle.loom_engine.proofs.Parts.Works.{order_of}
use Rattle.loom_engine.proofs.Parts.Keeping.{AreSteps, spread_steps, stands_at, views_snoc, work_steps}
use Rattle.loom_engine.proofs.Parts.Gathering.{chosen_listed, of_key}
use Rattle.loom_engine.proofs.Parts.Giving.{Each, HandsEach, Now, fronted}
use Rattle.loom_engine.specs.Covering.Spread.{Spread}
use Rattle.loom_engine.proofs.Covering.Spread.{holds}

-- ---- what was tried

abbrev keys_of : List Choice → List Choice → List (List Choice)
keys_of b list = map (λ (o : Choice). b ++ o ∷ []) list

pub issued_join : (b list : List Choice) (later : List (List Choice)) → issued_onto b list later ≡ issued_onto b list [] ++ later
issued_join b [] later = refl
issued_join b (o ∷ list) later =
    issued_join b list ((b ++ o ∷ []) ∷ later)
    ∙ sym (append_assoc (issued_onto b list []) ((b ++ o ∷ []) ∷ []) later)
    ∙ ap (λ t. t ++ later) (sym (issued_join b list ((b ++ o ∷ []) ∷ [])))

into : (b list : List Choice) (later : List (List Choice)) (k : List Choice) → Member k (keys_of b list) ⊎ Member k later → Member k (issued_onto b list later)
into b [] later k h = elim h [ inl i ↦ absurd i | inr i ↦ i ]
into b (o ∷ list) later k h =
    into b list ((b ++ o ∷ []) ∷ later) k (elim h [ inl i ↦ elim i [ inl e ↦ inr (inl e) | inr j ↦ inl j ] | inr i ↦ inr (inr i) ])

out_of : (b list : List Choice) (later : List (List Choice)) (k : List Choice) → Member k (issued_onto b list later) → Member k (keys_of b list) ⊎ Member k later
out_of b [] later k h = inr h
out_of b (o ∷ list) later k h =
    elim (out_of b list ((b ++ o ∷ []) ∷ later) k h) [ inl i ↦ inl (inr i) | inr i ↦ elim i [ inl e ↦ inl (inl e) | inr j ↦ inr j ] ]

none_else : (b list : List Choice) (k : List Choice) → Member k (issued_onto b list []) → Member k (keys_of b list)
none_else b list k h = elim (out_of b list [] k h) [ inl i ↦ i | inr i ↦ absurd i ]

key_in : (b list : List Choice) (o : Choice) → IsOption o list → Member (b ++ o ∷ []) (keys_of b list)
key_in b [] o h = absurd h
key_in b (x ∷ list) o (inl e) = inl (ap (λ c. b ++ c ∷ []) e)
key_in b (x ∷ list) o (inr h) = inr (key_in b list o h)

in_key : (b list : List Choice) (k : List Choice) → Member k (keys_of b list) → (o : Choice) × IsOption o list × (k ≡ b ++ o ∷ [])
in_key b [] k h = absurd h
in_key b (x ∷ list) k (inl e) = (x, inl refl, e)
in_key b (x ∷ list) k (inr h) = let z = in_key b list k h in (z.0, inr z.1, z.2)

taken_are : (b taken : List Choice) (n : Stored) → ((o : Choice) → IsOption o taken ↔ IsTried n o) → AreTaken b n (issued_onto b taken [])
taken_are b taken n h k = (
  (λ i. let z = in_key b taken k (none_else b taken k i) in (z.0, z.2, (h z.0).0 z.1)),
  λ i. into b taken [] k (inl (subst (λ t. Member t (keys_of b taken)) (sym i.1) (key_in b taken i.0 ((h i.0).1 i.2)))),
)

-- ---- what is to be tried

key_out : (nodes : List Node) (n : Node) (place : ℕ) (list : List Node) (k : List Choice) → EachNode (Opens n) list → Member k (map (key_at nodes) (map (at_place place) list))
    → (o : Choice) × (k ≡ chosen_to place nodes ++ o ∷ []) × IsOpen n o
key_out nodes n place [] k e h = absurd h
key_out nodes n place (x ∷ list) k e (inl f) = ((seen x).present, f, e.0.gone_on.opened)
key_out nodes n place (x ∷ list) k e (inr h) = key_out nodes n place list k e.1 h

open_are : (nodes : List Node) (n : Node) (place : ℕ) (b : List Choice) (list : List Node) → chosen_to place nodes ≡ b → AreOpenings n list
    → AreOpen b (seen n) (map (key_at nodes) (map (at_place place) list))
open_are nodes n place b list e are k = (
  (λ i. let z = key_out nodes n place list k are.each i in (z.0, z.1 ∙ ap (λ t. t ++ z.0 ∷ []) e, z.2.0, z.2.1)),
  λ i. subst (λ t. Member t (map (key_at nodes) (map (at_place place) list))) (ap (λ t. t ++ i.0 ∷ []) e ∙ sym i.1)
      (of_key nodes (map (at_place place) list) place i.0 (chosen_listed place i.0 list (are.all i.0 (i.2, i.3)))),
)

-- ---- places

pub chosen_front : (b e : List Choice) (nodes : List Node) → choices (stored nodes) ≡ b ++ e → chosen_to (length b) nodes ≡ b
chosen_front [] e nodes h = refl
chosen_front (c ∷ b) e [] h = absurd (cc h)
chosen_front (c ∷ b) e (n ∷ nodes) h =
    let first : (seen n).present ≡ c = cc h in
    ap₂ (λ (x : Choice) (t : List Choice). x ∷ t) first (chosen_front b e nodes (cc h))

pub placed_open : (nodes : List Node) (n : Node) (place : ℕ) (list : List Node) → slice_get nodes place ≡ Some n → EachNode (Opens n) list → EachOpening (OpensAt nodes) (map (at_place place) list)
placed_open nodes n place [] at h = tt
placed_open nodes n place (x ∷ list) at h = ((n, at, h.0), placed_open nodes n place list at h.1)

low_of : (nodes : List Node) (place : ℕ) (b : List Choice) (c : Choice) (list : List Node) → chosen_to place nodes ≡ b
    → EachOpening (λ opening. IsBelow (chosen_to opening.place nodes) (b ++ c ∷ [])) (map (at_place place) list)
low_of nodes place b c [] e = tt
low_of nodes place b c (x ∷ list) e = ((c, [], ap (λ t. t ++ c ∷ []) (sym e)), low_of nodes place b c list e)

module _ (xs : List Kept) (ts : List (Vec Choice Global)) (i : ℕ) (part : Kept) (node : Node) (taken : List Choice) (found : List Node) (at : slice_get xs i ≡ Some part)
    (past : slice_get part.path.nodes (length part.base.items) ≡ Some node)
    (tried : (o : Choice) → IsOption o taken ↔ IsTried (seen node) o) (are : AreOpenings node found)
    (ps qs : List Kept) (us vs : List (Vec Choice Global)) (removed : ps ≡ remove xs i) (issued : keys us ≡ issued_onto part.base.items taken (keys ts)) where
  -- whoever makes the runs
  module _ (P : List Part → List Part → List (List Choice) → List (List Choice) → Type 0) (steps : AreSteps P) (each : HandsEach P ps us qs vs part.path.nodes (map (at_place (length part.base.items)) found))
      (spent : List Part) (begins : (e : List Choice) × (choices (stored part.path.nodes) ≡ part.base.items ++ e)) (now : P (views xs) spent (keys ts) []) where
    pub cut_so : (x : Kept) → x.path.nodes ≡ part.path.nodes → x.base.items ≡ part.base.items ++ (seen node).present ∷ [] → P (views (qs ++ x ∷ [])) spent (keys vs) []
    cut_so x same base = subst (λ t. P t spent (keys vs) []) (ap (λ t. t ∷ views qs) (sym same_part) ∙ sym (views_snoc qs x [])) handed
      where
        here : chosen_to (length part.base.items) part.path.nodes ≡ part.base.items
        here = chosen_front part.base.items begins.0 part.path.nodes begins.1

        there : node_at (stored part.path.nodes) part.base.items ≡ Some (seen node)
        there = subst (λ t. node_at (stored part.path.nodes) t ≡ Some (seen node)) here (stands_at part.path.nodes (length part.base.items) node past).0

        raised : P (record { base = part.base.items ++ (seen node).present ∷ []; path = stored part.path.nodes } ∷ views ps) spent (keys us) (map (key_at part.path.nodes) (map (at_place (length part.base.items)) found))
        raised =
            subst (λ t. P (record { base = part.base.items ++ (seen node).present ∷ []; path = stored part.path.nodes } ∷ views ps) spent t (map (key_at part.path.nodes) (map (at_place (length part.base.items)) found)))
            (sym (issued ∙ issued_join part.base.items taken (keys ts)))
            (subst (λ t. P (record { base = part.base.items ++ (seen node).present ∷ []; path = stored part.path.nodes } ∷ views ps) spent (issued_onto part.base.items taken [] ++ keys ts) t)
            (append-nil (map (key_at part.path.nodes) (map (at_place (length part.base.items)) found)))
            (steps.raises part.base.items (stored part.path.nodes) (seen node) (views ps) spent (keys ts) [] (issued_onto part.base.items taken [])
            (map (key_at part.path.nodes) (map (at_place (length part.base.items)) found)) (fronted xs ts i part ps at removed P steps spent now) there
            (taken_are part.base.items taken (seen node) tried) (open_are part.path.nodes node (length part.base.items) part.base.items found here are)))

        handed : P (record { base = part.base.items ++ (seen node).present ∷ []; path = stored part.path.nodes } ∷ views qs) spent (keys vs) []
        handed =
            each (record { base = part.base.items ++ (seen node).present ∷ []; path = stored part.path.nodes } ∷ []) spent
            (record { base = part.base.items ++ (seen node).present ∷ []; path = stored part.path.nodes }) raised (record { known = inl (inl refl); path = refl })
            (low_of part.path.nodes (length part.base.items) part.base.items (seen node).present found here)

        same_part : part_of x ≡ record { base = part.base.items ++ (seen node).present ∷ []; path = stored part.path.nodes }
        same_part = ap₂ (λ (t : List Choice) (p : List Stored). record { base = t; path = p }) base (ap stored same)

  -- one machine does
  pub cut_goes : (each : Each ps us qs vs part.path.nodes (map (at_place (length part.base.items)) found)) (m : Machine) (made : List (List Choice)) → IsMachine m → (now : Now m made xs ts)
      → (x : Kept) → x.path.nodes ≡ part.path.nodes → x.base.items ≡ part.base.items ++ (seen node).present ∷ [] → Now m made (qs ++ x ∷ []) vs
  cut_goes each m made w now x same base = (now.0, cut_so (Work m made) (work_steps m made) (each m made) now.0 begins now.1 x same base)
    where
      begins : (e : List Choice) × (choices (stored part.path.nodes) ≡ part.base.items ++ e)
      begins =
          (order_of m made (part_of part ∷ views ps) now.0 (keys ts) [] w (fronted xs ts i part ps at removed (Work m made) (work_steps m made) now.0 now.1) (part_of part) (inl refl)).begins

  -- or each is made in its own way
  pub cut_spreads : (m : Machine) (left : List (List Stored)) (each : HandsEach (Spread m left) ps us qs vs part.path.nodes (map (at_place (length part.base.items)) found)) (spent : List Part)
      → Spread m left (views xs) spent (keys ts) [] → (x : Kept) → x.path.nodes ≡ part.path.nodes → x.base.items ≡ part.base.items ++ (seen node).present ∷ [] → Spread m left (views (qs ++ x ∷ [])) spent (keys vs) []
  cut_spreads m left each spent now x same base =
      cut_so (Spread m left) (spread_steps m left) each spent
      ((holds m left (part_of part ∷ views ps) spent (keys ts) [] (fronted xs ts i part ps at removed (Spread m left) (spread_steps m left) spent now)).kept (part_of part) (inl (inl refl))).begins now x same base
