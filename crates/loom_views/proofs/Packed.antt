-- One object more, in little room.
use Rattle.std.proofs.Common.{◌≡◌, ◌≤◌, ◌<◌, ◌+◌, ◌-◌, ℕ, zero, suc, arith, List, [], ◌∷◌, ◌++◌, length, take, drop, replicate, refl, ap, ap₂, sym, ◌∙◌, subst, append-nil}
use Rattle.std.proofs.lemmas.List.{drop-append-le, length-append, length-drop, length-take-le, take-append-drop, take-append-le, take_all}
use Rattle.loom_views.specs.declared.rt.atomic.Head.{Head}
use Rattle.loom_views.specs.declared.rt.atomic.State.{State}
use Rattle.loom_views.specs.declared.rt.atomic.Store.{Store}
use Rattle.loom_views.specs.declared.rt.views.Kept.{Kept}
use Rattle.loom_views.specs.declared.rt.views.Kept.TheVariants as kept
use Rattle.loom_views.specs.declared.rt.views.packed.Packed.{Packed}
use Rattle.loom_views.specs.declared.rt.views.packed.Packed.TheVariants.{Point, Atomic, Cell}
use Rattle.loom_views.specs.Atomic.Ring.{store_at}
use Rattle.loom_views.specs.Atomic.Touches.{untouched}
use Rattle.loom_views.specs.InOrder.{PairAll, PairsStores, PairsTouches, PairsVectors}
use Rattle.loom_views.specs.Packed.{all_stores, empty_store, unpacked, whole}
use Rattle.loom_views.specs.Versions.{zeros}

pub all_pushed : (list : List Packed) (one : Packed) → all_stores (list ++ one ∷ []) ≡ all_stores list + all_stores (one ∷ [])
all_pushed [] one = omega arith
all_pushed (Point view ∷ list) one = all_pushed list one
all_pushed (Cell records ∷ list) one = all_pushed list one
all_pushed (Atomic head ∷ list) one = let h = all_pushed list one in omega (arith, h)

-- behind others, which have all of these stores
pub pushed : (list : List Packed) (stores more : List Store) (one : Packed) → all_stores list ≡ length stores → unpacked (list ++ one ∷ []) (stores ++ more) ≡ unpacked list stores ++ unpacked (one ∷ []) more
pushed [] [] more one e = refl
pushed [] (s ∷ stores) more one e = absurd (omega (arith, e))
pushed (Point view ∷ list) stores more one e = ap (λ (l : List Kept). kept.Point view ∷ l) (pushed list stores more one e)
pushed (Cell records ∷ list) stores more one e = ap (λ (l : List Kept). kept.Cell records ∷ l) (pushed list stores more one e)
pushed (Atomic head ∷ list) stores more one e =
    let few : head.kept ≤ length stores = omega (arith, e) in
    let left : all_stores list ≡ length (drop head.kept stores) = (let l = length-drop head.kept stores in omega (arith, e, l)) in
    ap₂ (λ (xs : List Store) (l : List Kept). kept.Atomic (whole head xs) ∷ l) (take-append-le head.kept stores more few)
    (ap (λ (xs : List Store). unpacked (list ++ one ∷ []) xs) (drop-append-le head.kept stores more few) ∙ pushed list (drop head.kept stores) more one left)

-- an atomic behind them
pub atomic_pushed : (list : List Packed) (stores more : List Store) (head : Head) (state : State) → all_stores list ≡ length stores → head.kept ≡ length more → whole head more ≡ state
    → unpacked (list ++ Atomic head ∷ []) (stores ++ more) ≡ unpacked list stores ++ kept.Atomic state ∷ []
atomic_pushed list stores more head state e size is =
    pushed list stores more (Atomic head) e
    ∙ ap (λ (l : List Kept). unpacked list stores ++ l)
    (ap (λ (xs : List Store). kept.Atomic (whole head xs) ∷ []) (take_all head.kept more (omega (arith, size))) ∙ ap (λ (s : State). kept.Atomic s ∷ []) is)

pub atomic_counted : (list : List Packed) (stores more : List Store) (head : Head) → all_stores list ≡ length stores → head.kept ≡ length more → all_stores (list ++ Atomic head ∷ []) ≡ length (stores ++ more)
atomic_counted list stores more head e size = let a = all_pushed list (Atomic head) in let b = length-append stores more in omega (arith, e, size, a, b)

-- another one, which has no stores
pub other_pushed : (list : List Packed) (stores : List Store) (one : Packed) → all_stores list ≡ length stores → unpacked (list ++ one ∷ []) stores ≡ unpacked list stores ++ unpacked (one ∷ []) []
other_pushed list stores one e = ap (λ (xs : List Store). unpacked (list ++ one ∷ []) xs) (sym (append-nil stores)) ∙ pushed list stores [] one e

pub other_counted : (list : List Packed) (stores : List Store) (one : Packed) → all_stores list ≡ length stores → all_stores (one ∷ []) ≡ 0 → all_stores (list ++ one ∷ []) ≡ length stores
other_counted list stores one e none = let a = all_pushed list one in omega (arith, e, none, a)

pub packed_same : (list other : List Packed) (stores others : List Store) → list ≡ other → stores ≡ others → unpacked list stores ≡ unpacked other others
packed_same list other stores others e f = ap₂ unpacked e f

-- stores behind which nothing is stored
pub filled_so : (stores : List Store) (k : ℕ) → length stores ≡ 7 → k ≤ 7 → drop k stores ≡ replicate (length (drop k stores)) empty_store → stores ≡ take k stores ++ replicate (7 - k) empty_store
filled_so stores k size few rest =
    let left : length (drop k stores) ≡ 7 - k = (let l = length-drop k stores in omega (arith, size, few, l)) in
    sym (take-append-drop k stores) ∙ ap (λ (l : List Store). take k stores ++ l) (rest ∙ ap (λ (n : ℕ). replicate n empty_store) left)

pub counted_so : (stores : List Store) (k : ℕ) → length stores ≡ 7 → k ≤ 7 → length (take k stores) ≡ k
counted_so stores k size few = length-take-le k stores (omega (arith, size, few))

pub filled_all : (stores : List Store) → length stores ≡ 7 → stores ≡ take 7 stores ++ replicate (7 - 7) empty_store
filled_all stores size = sym (append-nil (take 7 stores) ∙ take_all 7 stores (omega (arith, size)))

pub empty_more : (stores tail : List Store) (first : Store) → stores ≡ first ∷ tail → first ≡ empty_store → tail ≡ replicate (length tail) empty_store → stores ≡ replicate (length stores) empty_store
empty_more stores tail first split same rest = split ∙ ap₂ (λ (s : Store) (l : List Store). s ∷ l) same rest ∙ sym (ap (λ (l : List Store). replicate (length l) empty_store) split)

-- ---- by ranks

zero_counts : (R : ℕ → ℕ → ℕ → Type 0) → ((t : ℕ) → t < 5 → R t 0 0) → PairsVectors R zeros zeros
zero_counts R none zero l = none 0 l
zero_counts R none (suc zero) l = none 1 l
zero_counts R none (suc (suc zero)) l = none 2 l
zero_counts R none (suc (suc (suc zero))) l = none 3 l
zero_counts R none (suc (suc (suc (suc zero)))) l = none 4 l
zero_counts R none (suc (suc (suc (suc (suc t))))) l = absurd (omega (arith, l))

no_touches : (R : ℕ → ℕ → ℕ → Type 0) → PairsTouches R untouched untouched
no_touches R zero l = tt
no_touches R (suc zero) l = tt
no_touches R (suc (suc zero)) l = tt
no_touches R (suc (suc (suc zero))) l = tt
no_touches R (suc (suc (suc (suc zero)))) l = tt
no_touches R (suc (suc (suc (suc (suc t))))) l = absurd (omega (arith, l))

-- where nothing is stored it stays so
empty_pair : (R : ℕ → ℕ → ℕ → Type 0) → ((t : ℕ) → t < 5 → R t 0 0) → PairsStores R empty_store empty_store
empty_pair R none = record { value = refl; order = zero_counts R none; sync = zero_counts R none; seq_cst = refl; first_seen = no_touches R }

empties_pair : (R : ℕ → ℕ → ℕ → Type 0) → ((t : ℕ) → t < 5 → R t 0 0) → (n i : ℕ) → i < n → PairsStores R (store_at (replicate n empty_store) i) (store_at (replicate n empty_store) i)
empties_pair R none zero i l = absurd (omega (arith, l))
empties_pair R none (suc n) zero l = empty_pair R none
empties_pair R none (suc n) (suc i) l = empties_pair R none n i (omega (arith, l))

behind_pair : (R : ℕ → ℕ → ℕ → Type 0) (stores more rest : List Store) → PairAll R (PairsStores R) stores more → (n : ℕ) → ((i : ℕ) → i < n → PairsStores R (store_at rest i) (store_at rest i)) → (i : ℕ) → i < length stores + n
    → PairsStores R (store_at (stores ++ rest) i) (store_at (more ++ rest) i)
behind_pair R [] [] rest h n same i l = let k : i < n = omega (arith, l) in same i k
behind_pair R [] (m ∷ more) rest h n same i l = absurd (let e = h.count in omega (arith, e))
behind_pair R (s ∷ stores) [] rest h n same i l = absurd (let e = h.count in omega (arith, e))
behind_pair R (s ∷ stores) (m ∷ more) rest h n same zero l = h.each 0
behind_pair R (s ∷ stores) (m ∷ more) rest h n same (suc i) l = behind_pair R stores more rest (record { count = (let e = h.count in omega (arith, e)); each = λ k. h.each (suc k) }) n same i (omega (arith, l))

-- an atomic's stores pair with those that are put behind others by ranks
pub stores_pair : (R : ℕ → ℕ → ℕ → Type 0) → ((t : ℕ) → t < 5 → R t 0 0) → (stores more : List Store) (k : ℕ) → k ≤ 7 → length (take k stores) ≡ k → stores ≡ take k stores ++ replicate (7 - k) empty_store → PairAll R (PairsStores R) (take k stores) more
    → (i : ℕ) → i < 7 → PairsStores R (store_at stores i) (store_at (more ++ replicate (7 - length more) empty_store) i)
stores_pair R none stores more k few size filled pairs i l =
    let so : length more ≡ k = sym pairs.count ∙ size in
    subst (λ (xs : List Store). PairsStores R (store_at xs i) (store_at (more ++ replicate (7 - length more) empty_store) i)) (sym filled)
    (subst (λ (n : ℕ). PairsStores R (store_at (take k stores ++ replicate (7 - k) empty_store) i) (store_at (more ++ replicate (7 - n) empty_store) i)) (sym so)
    (behind_pair R (take k stores) more (replicate (7 - k) empty_store) pairs (7 - k) (empties_pair R none (7 - k)) i (omega (arith, l, size, few))))
