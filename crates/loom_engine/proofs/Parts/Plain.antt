-- A plain search that has come to some path, as one part of which nothing is fixed.
use Rattle.std.proofs.Common.{◌≡◌, List, [], ◌∷◌, Vec, inl, inr, ap, sym, ◌∙◌, subst}
use Rattle.std.proofs.lemmas.List.{append-nil}
use Rattle.std.specs.declared.alloc.Global.{Global}
use Rattle.loom_objects.specs.declared.choice.Choice.{Choice}
use Rattle.loom_engine.specs.Walk.Machine.{Machine}
use Rattle.loom_engine.specs.Walk.Path.{Stored}
use Rattle.loom_engine.specs.Walk.Sound.{IsMachine}
use Rattle.loom_engine.specs.Path.Nodes.{stored}
use Rattle.loom_engine.specs.Parts.Cuts.{Part, IsBelow}
use Rattle.loom_engine.specs.Parts.Works.{Gathers, Work, begin}
use Rattle.loom_engine.specs.Parts.Keeping.{views, keys, HasComeTo}
use Rattle.loom_engine.specs.declared.rt.parts.Part.{Part as Kept}
use Rattle.loom_engine.proofs.Parts.Giving.{Now}
use Rattle.loom_engine.proofs.Parts.Slices.{slice_law}

none_below : (before : List Choice) → IsBelow before [] → ⊥
none_below [] h = cc h.2
none_below (c ∷ before) h = cc h.2

nothing : (p : List Stored) → Gathers [] p [] [] []
nothing p = record { only = λ k h. absurd h; old = λ k h. absurd h; each = λ k h. absurd (none_below h.before h.low) }

worked : (m : Machine) (runs : List (List Choice)) (p : List Stored) → IsMachine m → HasComeTo m runs p → Work m runs (record { base = []; path = p } ∷ []) [] [] []
worked m runs p w (inl h) =
    subst (λ (l : List (List Choice)). Work m l (record { base = []; path = p } ∷ []) [] [] []) (sym h.0)
    (subst (λ (q : List Stored). Work m [] (record { base = []; path = q } ∷ []) [] [] []) (sym h.1) begin)
worked m runs p w (inr s) =
    subst (λ (l : List (List Choice)). Work m l (record { base = []; path = p } ∷ []) [] [] []) (append-nil runs)
    ((slice_law m [] runs [] [] p [] [] [] [] [] w begin (nothing p)).0 s)

pub comes_to : (xs : List Kept) (x : Kept) (ts : List (Vec Choice Global)) → xs ≡ x ∷ [] → x.base.items ≡ [] → ts ≡ []
    → (m : Machine) (runs : List (List Choice)) → IsMachine m → HasComeTo m runs (stored x.path.nodes) → Now m runs xs ts
comes_to xs x ts one base none m runs w come =
    let is : views xs ≡ record { base = []; path = stored x.path.nodes } ∷ [] = ap views one ∙ ap (λ (b : List Choice). record { base = b; path = stored x.path.nodes } ∷ []) base in
    ([], subst (λ (l : List Part). Work m runs l [] (keys ts) []) (sym is) (subst (λ (l : List (Vec Choice Global)). Work m runs (record { base = []; path = stored x.path.nodes } ∷ []) [] (keys l) []) (sym none) (worked m runs (stored x.path.nodes) w come)))
