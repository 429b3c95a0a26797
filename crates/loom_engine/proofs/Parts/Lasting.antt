-- What always holds of a program's list of parts.
use Rattle.std.proofs.Common.{◌≡◌, ℕ, List, [], ◌∷◌, ◌++◌, Some, refl, ap, sym, subst, inl, inr}
use Rattle.std.specs.Prelude.{slice_get}
use Rattle.loom_engine.specs.declared.rt.parts.Part.{Part as Kept}
use Rattle.loom_engine.specs.Parts.Cuts.{Part, IsIn}
use Rattle.loom_engine.specs.Parts.Keeping.{part_of, views, keys, PartsLaw}
use Rattle.loom_engine.proofs.Parts.Keeping.{among}
use Rattle.loom_engine.proofs.Parts.Works.{work_law, order_of}

in_middle : (front : List Part) (q : Part) (back : List Part) → IsIn q (front ++ q ∷ back)
in_middle [] q back = inl refl
in_middle (x ∷ front) q back = inr (in_middle front q back)

pub in_views : (xs : List Kept) (i : ℕ) (x : Kept) → slice_get xs i ≡ Some x → IsIn (part_of x) (views xs)
in_views xs i x h = let z = among xs i x [] h in subst (λ l. IsIn (part_of x) l) (sym z.whole) (in_middle z.front (part_of x) z.back)

pub parts_law : PartsLaw
parts_law m made parts w at =
    let law = work_law m made (views parts.list.items) at.0 (keys parts.trunk.items) [] w at.1 in (
      law.1,
      law.2,
      (λ number q h. (order_of m made (views parts.list.items) at.0 (keys parts.trunk.items) [] w at.1 (part_of q) (in_views parts.list.items number q h)).resting),
      λ e. (law.1, law.3 (ap views e) refl),
    )
