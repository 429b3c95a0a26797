-- A shown vector counts raising points, and no count is above the most that is counted.
use Rattle.std.proofs.Common.{zero, suc, ◌≡◌, ℕ, ◌<◌, ◌≤◌, max, Bool, List, [], ◌∷◌, length, get_or, refl, ap, ◌∙◌, arith, ⊎_elim}
use Rattle.std.specs.List.{filter}
use Rattle.std.proofs.lemmas.Bool.{cases_Bool, cases_lt}
use Rattle.loom_views.specs.Graph.{Graph, reaches, raised, count, version, counts, Shows}
use Rattle.loom_views.specs.Versions.{IsCounted}

pub counts-at : (g : Graph) (k t : ℕ) → t < 5 → get_or (counts g k) t 0 ≡ version g k t
unfolding counts
counts-at g k zero l = refl
counts-at g k (suc zero) l = refl
counts-at g k (suc (suc zero)) l = refl
counts-at g k (suc (suc (suc zero))) l = refl
counts-at g k (suc (suc (suc (suc zero)))) l = refl
counts-at g k (suc (suc (suc (suc (suc t))))) l = absurd (omega arith)

count-filter : {X : Type 0} (p : X → Bool) (xs : List X) → count p xs ≡ length (filter p xs)
count-filter p [] = refl
count-filter p (x ∷ xs) = ⊎_elim (λ e. rw e (ap suc (count-filter p xs))) (λ e. rw e (count-filter p xs)) (cases_Bool (p x))

version-filter : (g : Graph) (k t : ℕ) → version g k t ≡ length (filter (λ i. reaches g i k) (raised g t))
unfolding version
version-filter g k t = count-filter (λ i. reaches g i k) (raised g t)

pub counted-is : (g : Graph) (k t : ℕ) (vs : List ℕ) → t < 5 → Shows g k vs → get_or vs t 0 ≡ length (filter (λ i. reaches g i k) (raised g t))
counted-is g k t vs l s = ap (λ ws. get_or ws t 0) s.counted ∙ counts-at g k t l ∙ version-filter g k t

-- each count is one of another vector's, or the larger of two
pub counted-joined : (us vs ws : List ℕ) (i : ℕ) → IsCounted vs → IsCounted ws → ((k : ℕ) → k < i → get_or us k 0 ≡ max (get_or vs k 0) (get_or ws k 0)) → ((k : ℕ) → i ≤ k → get_or us k 0 ≡ get_or vs k 0) → IsCounted us
counted-joined us vs ws i a b joined rest k = ⊎_elim (λ l. let e = joined k l in let p = a k in let q = b k in omega arith) (λ l. let e = rest k l in let p = a k in omega arith) (cases_lt k i)
