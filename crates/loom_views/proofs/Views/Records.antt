-- The joined views of the accesses of one kind, and which of them race.
use Rattle.std.proofs.Common.{suc, ◌≡◌, ℕ, ◌<◌, max, Bool, true, false, not, ◌||◌, ◌&&◌, List, [], ◌∷◌, ◌++◌, length, map, refl, ap, sym, ◌∙◌, arith}
use Rattle.std.specs.Prelude.{leb}
use Rattle.std.specs.List.{list_any, list_all, AllByRecursion}
use Rattle.std.proofs.lemmas.Bool.{and_from, and_parts, le-leb}
use Rattle.loom_views.specs.Graph.{Point, Graph, version, counts, inside, Shows, IsChained}
use Rattle.loom_views.specs.Versions.{zeros, join, join_all, within}
use Rattle.loom_views.specs.VersionOrder.{within-transitive}
use Rattle.loom_views.specs.AccessRecords.{races, ShowsRecord}
use Rattle.loom_views.proofs.Views.Counting.{all-weaker}
use Rattle.loom_views.proofs.Views.VersionLists.{join-bound}
use Rattle.loom_views.proofs.Views.Views.{counts-old, within-counts}

counts_map-old : (p : Point) (g : Graph) (ks : List ℕ) → AllByRecursion (λ k. k < length g) ks → map (counts (p ∷ g)) ks ≡ map (counts g) ks
counts_map-old p g [] h = refl
counts_map-old p g (k ∷ ks) h = ap (λ vs. vs ∷ map (counts (p ∷ g)) ks) (counts-old p g k h.0) ∙ ap (λ vss. counts g k ∷ vss) (counts_map-old p g ks h.1)

pub record-old : (p : Point) (g : Graph) (ks : List ℕ) (vs : List ℕ) → ShowsRecord g ks vs → ShowsRecord (p ∷ g) ks vs
record-old p g ks vs h = record {
  made = all-weaker (λ k. k < length g) (λ k. k < suc (length g)) ks (λ k l. omega arith) h.made;
  joined = h.joined ∙ ap (join_all zeros) (sym (counts_map-old p g ks h.made));
}

same_tests : (a b : Bool) → (a ≡ true → b ≡ true) → (b ≡ true → a ≡ true) → a ≡ b
same_tests true b f h = sym (f refl)
same_tests false true f h = h refl
same_tests false false f h = refl

-- a joined vector is inside another just where both parts are
within-join : (us vs ws : List ℕ) → length us ≡ length vs → within (join us vs) ws ≡ (within us ws && within vs ws)
within-join us vs ws e =
    let b = join-bound us vs e in
    same_tests (within (join us vs) ws) (within us ws && within vs ws)
    (λ h. and_from (within us ws) (within vs ws) (within-transitive us (join us vs) ws b.left h) (within-transitive vs (join us vs) ws b.right h))
    (λ h. let p = and_parts (within us ws) (within vs ws) h in b.least ws p.0 p.1)

length-counts : (g : Graph) (k : ℕ) → length (counts g k) ≡ 5
unfolding counts
length-counts g k = refl

length-join : (us vs : List ℕ) → length us ≡ length vs → length (join us vs) ≡ length us
length-join [] vs e = refl
length-join (u ∷ us) [] e = absurd (omega arith)
length-join (u ∷ us) (v ∷ vs) e = ap suc (length-join us vs (omega arith))

and_assoc : (a b c : Bool) → ((a && b) && c) ≡ (a && (b && c))
and_assoc true b c = refl
and_assoc false b c = refl

within-joined : (g : Graph) (a : ℕ) (us : List ℕ) (ks : List ℕ) → IsChained g → length us ≡ 5 → within (join_all us (map (counts g) ks)) (counts g a) ≡ (within us (counts g a) && list_all (λ k. inside g k a) ks)
within-joined g a us [] c e = and_true (within us (counts g a))
  where
    and_true : (b : Bool) → b ≡ (b && true)
    and_true true = refl
    and_true false = refl
within-joined g a us (k ∷ ks) c e =
    within-joined g a (join us (counts g k)) ks c (length-join us (counts g k) (e ∙ sym (length-counts g k)) ∙ e)
    ∙ ap (λ b. b && list_all (λ k. inside g k a) ks) (within-join us (counts g k) (counts g a) (e ∙ sym (length-counts g k)) ∙ ap (λ b. within us (counts g a) && b) (within-counts g k a c))
    ∙ and_assoc (within us (counts g a)) (inside g k a) (list_all (λ k. inside g k a) ks)

zeros-within : (v0 v1 v2 v3 v4 : ℕ) → within zeros (v0 ∷ v1 ∷ v2 ∷ v3 ∷ v4 ∷ []) ≡ true
zeros-within v0 v1 v2 v3 v4 = and_from (leb 0 v0) _ (le-leb 0 v0 (omega arith)) (and_from (leb 0 v1) _ (le-leb 0 v1 (omega arith)) (and_from (leb 0 v2) _ (le-leb 0 v2 (omega arith)) (and_from (leb 0 v3) _ (le-leb 0 v3 (omega arith)) (and_from (leb 0 v4) true (le-leb 0 v4 (omega arith)) refl))))

zeros-counts : (g : Graph) (a : ℕ) → within zeros (counts g a) ≡ true
unfolding counts
zeros-counts g a = zeros-within (version g a 0) (version g a 1) (version g a 2) (version g a 3) (version g a 4)

none-outside : (p : ℕ → Bool) (ks : List ℕ) → list_all p ks ≡ not (list_any (λ k. not (p k)) ks)
none-outside p [] = refl
none-outside p (k ∷ ks) = ap (λ b. p k && b) (none-outside p ks) ∙ step (p k) (list_any (λ k. not (p k)) ks)
  where
    step : (a b : Bool) → (a && not b) ≡ not (not a || b)
    step true b = refl
    step false b = refl

-- the joined vector of the accesses of a kind is inside the present one just where none of them races
pub races-is : (g : Graph) (a : ℕ) (ks : List ℕ) (vs ws : List ℕ) → IsChained g → ShowsRecord g ks vs → Shows g a ws → within vs ws ≡ not (races g ks a)
unfolding races
races-is g a ks vs ws c r s = rw (r.joined, s.counted, within-joined g a zeros ks c refl, zeros-counts g a) (none-outside (λ k. inside g k a) ks)

join_all-append : (vs : List ℕ) (wss : List (List ℕ)) (ws : List ℕ) → join_all vs (wss ++ ws ∷ []) ≡ join (join_all vs wss) ws
join_all-append vs [] ws = refl
join_all-append vs (us ∷ wss) ws = join_all-append (join vs us) wss ws

map-push : (f : ℕ → List ℕ) (xs : List ℕ) (n : ℕ) → map f (xs ++ n ∷ []) ≡ map f xs ++ f n ∷ []
map-push f [] n = refl
map-push f (x ∷ xs) n = ap (λ ys. f x ∷ ys) (map-push f xs n)

all_push : (P : ℕ → Type 0) (n : ℕ) (xs : List ℕ) → AllByRecursion P xs → P n → AllByRecursion P (xs ++ n ∷ [])
all_push P n [] a b = (b, tt)
all_push P n (x ∷ xs) a b = (a.0, all_push P n xs a.1 b)

-- one more access of a kind
pub record-more : (g : Graph) (a : ℕ) (ks : List ℕ) (vs ws : List ℕ) → ShowsRecord g ks vs → Shows g a ws → ShowsRecord g (ks ++ a ∷ []) (join vs ws)
record-more g a ks vs ws r s = record {
  made = all_push (λ k. k < length g) a ks r.made s.made;
  joined = rw (r.joined, s.counted, map-push (counts g) ks a) (sym (join_all-append zeros (map (counts g) ks) (counts g a)));
}

pub zeros-join : (g : Graph) (k : ℕ) → join zeros (counts g k) ≡ counts g k
unfolding counts
zeros-join g k = rw (max-zero (version g k 0), max-zero (version g k 1), max-zero (version g k 2), max-zero (version g k 3), max-zero (version g k 4)) refl
  where
    max-zero : (n : ℕ) → max 0 n ≡ n
    max-zero n = omega arith

-- the first access of a kind
pub record-one : (g : Graph) (k : ℕ) (ws : List ℕ) → Shows g k ws → ShowsRecord g (k ∷ []) ws
record-one g k ws s = record { made = (s.made, tt); joined = s.counted ∙ sym (zeros-join g k) }
