-- Arrays as lists.
use Rattle.std.proofs.Common.{◌≡◌, ℕ, zero, suc, ◌+◌, List, [], ◌∷◌, ◌++◌, map, take, Option, Some, None, option_map, Vec, Global, Bor, slice_get, add-one, refl, ap}
use Rattle.std.proofs.lemmas.List.{map-append}
use Rattle.serde_json.specs.Data.{Data, Items, no_items, item}
use Rattle.serde_json.specs.View.{view, items_of, items_view}
use Rattle.serde_json.specs.declared.value.Value.{Value}
use Rattle.loom_engine.specs.Checkpoint.Reader.{list_of}

pub list_of-items_of : (ds : List Data) → list_of (items_of ds) ≡ ds
list_of-items_of [] = refl
list_of-items_of (d ∷ ds) = ap (λ es. d ∷ es) (list_of-items_of ds)

pub items_of-list_of : (is : Items) → items_of (list_of is) ≡ is
items_of-list_of no_items = refl
items_of-list_of (item d is) = ap (item d) (items_of-list_of is)

pub list_of_viewed : (r : Option (Bor (Vec Value Global))) → option_map list_of (option_map (λ v. items_view v.now.items) r) ≡ option_map (λ v. map view v.now.items) r
list_of_viewed None = refl
list_of_viewed (Some v) = ap Some (list_of-items_of (map view v.now.items))

take_got : {A : Type 0} (xs : List A) (k : ℕ) (x : A) → slice_get xs k ≡ Some x → take (suc k) xs ≡ take k xs ++ x ∷ []
take_got [] k x e = cc
take_got (y ∷ xs) zero x e = let p : y ≡ x = cc in rw p refl
take_got (y ∷ xs) (suc k) x e = ap (λ l. y ∷ l) (take_got xs k x e)

-- one element more was written
pub written_more : {A B C : Type 0} (f : A → C) (g : B → C) (xs : List A) (ys zs : List B) (k : ℕ) (x : A) (y : B)
    → map g ys ≡ map f (take k xs) → slice_get xs k ≡ Some x → g y ≡ f x → zs ≡ ys ++ y ∷ [] → map g zs ≡ map f (take (k + 1) xs)
written_more f g xs ys zs k x y so_far got same pushed = rw (pushed, add-one, take_got xs k x got, map-append, map-append, so_far, same) refl
