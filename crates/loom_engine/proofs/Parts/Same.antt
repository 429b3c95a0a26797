-- A search in parts makes the runs of the search that isn't cut, and as many.
use Rattle.std.proofs.Common.{◌≡◌, ◌≤◌, ◌⊎◌, ◌↔◌, suc, List, [], ◌∷◌, length, refl, ap, sym, ◌∙◌, subst, inl, inr, arith}
use Rattle.loom_objects.specs.declared.choice.Choice.{Choice}
use Rattle.loom_engine.specs.Walk.Runs.{Reachable}
use Rattle.loom_engine.specs.Walk.Lists.{Member, IsOnce, IsWalkList}
use Rattle.loom_engine.specs.Walk.Path.{Rest}
use Rattle.loom_engine.proofs.Walk.Round.{fresh_law}
use Rattle.loom_engine.proofs.Walk.Together.{complete_law}
use Rattle.loom_engine.specs.Parts.Floors.{SameLaw}
use Rattle.loom_engine.proofs.Parts.Search.{search_law}

-- the list without one of its members
record Without (x : List Choice) (list : List (List Choice)) : Type 0 where
  less : List (List Choice)
  shorter : length list ≡ suc (length less)
  others : (y : List Choice) → Member y list → (y ≡ x) ⊎ Member y less

without : (x : List Choice) (list : List (List Choice)) → Member x list → Without x list
without x [] h = absurd h
without x (z ∷ list) (inl e) = record { less = list; shorter = refl; others = λ y g. elim g [ inl f ↦ inl (f ∙ sym e) | inr f ↦ inr f ] }
without x (z ∷ list) (inr h) =
    let r = without x list h in
    record {
      less = z ∷ r.less;
      shorter = ap suc r.shorter;
      others = λ y g. elim g [ inl f ↦ inr (inl f) | inr f ↦ elim (r.others y f) [ inl i ↦ inl i | inr i ↦ inr (inr i) ] ];
    }

-- a list that holds each member once, all of them members of another, is no longer than that
no_longer : (a list : List (List Choice)) → IsOnce a → ((x : List Choice) → Member x a → Member x list) → length a ≤ length list
no_longer [] list once h = omega arith
no_longer (x ∷ a) list once h =
    let r = without x list (h x (inl refl)) in
    let ih = no_longer a r.less once.1 (λ y g. elim (r.others y (h y (inr g))) [ inl e ↦ absurd (once.0 (subst (λ t. Member t a) e g)) | inr e ↦ e ]) in
    omega (arith, ih, r.shorter)

pub same_law : SameLaw
same_law m list made parts issued notes w c s = (no_longer made list law.0 (λ x j. (runs x).0 (law.1 x j)), over)
  where
    law : IsOnce made × ((x : List Choice) → Member x made → Reachable m x) × (parts ≡ [] → notes ≡ [] → (x : List Choice) → Reachable m x ↔ Member x made)
    law = search_law m made parts issued notes w s

    whole : IsWalkList (Rest m []) list
    whole = (complete_law m [] list w (fresh_law m w).0 c).0

    runs : (x : List Choice) → Reachable m x ↔ Member x list
    runs x = ((λ d. (whole.members x).0 (((fresh_law m w).1 x).1 d)), λ j. ((fresh_law m w).1 x).0 ((whole.members x).1 j))

    over : parts ≡ [] → notes ≡ [] → ((x : List Choice) → Member x made ↔ Member x list) × (length made ≡ length list)
    over e f =
        let ends = law.2 e f in
        let there : length made ≤ length list = no_longer made list law.0 (λ x j. (runs x).0 (law.1 x j)) in
        let back : length list ≤ length made = no_longer list made whole.once (λ x j. (ends x).0 ((runs x).1 j)) in (
          (λ x. ((λ j. (runs x).0 (law.1 x j)), λ j. (ends x).0 ((runs x).1 j))),
          omega (arith, there, back),
        )
