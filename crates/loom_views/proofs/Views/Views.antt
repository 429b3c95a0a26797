-- The counts of a view: what a new point does to them, and that they determine the view.
use Rattle.std.proofs.Common.{suc, subst, ◌≡◌, ℕ, ◌<◌, max, Bool, true, false, not, ◌||◌, ◌&&◌, List, [], ◌∷◌, length, map, zero, refl, ap, sym, ◌∙◌, arith, add-one, inl, ⊎_elim}
use Rattle.std.specs.Prelude.{◌==◌, leb, Option, Some, None, if◌then◌else◌}
use Rattle.std.specs.List.{list_any, list_all, find, AllByRecursion, AllZip}
use Rattle.std.specs.Option.{option_map_or}
use Rattle.std.proofs.lemmas.Bool.{cases_Bool, cond-true, cond-false, true≢false, eqb-true, ne_eqb, or_left, or_right, or_cases, and_parts, and_from, false≢true}
use Rattle.loom_views.specs.Graph.{Point, Graph, threads, reaches, raises_version, raised, count, version, counts, inside, IsChain, IsChained, IsPresent, moved, moved_raising, Shows}
use Rattle.loom_views.specs.Versions.{zeros, join, join_all, within, raised_at}
use Rattle.loom_views.proofs.Views.Reaching.{reaches-itself, reaches-new, reaches-old, reaches-more, reaches-none, reaches-transitive}
use Rattle.loom_views.proofs.Views.Counting.{IsDownward, count-agree, count-any, count-no, count-yes, count-all, inside-counts, first-counts, all-weaker, all-each, most}

-- every raising point is there
pub raised-bounds : (g : Graph) (t : ℕ) → AllByRecursion (λ i. i < length g) (raised g t)
unfolding raised
raised-bounds [] t = tt
raised-bounds (p ∷ g) t =
    let more : AllByRecursion (λ i. i < suc (length g)) (raised g t) = all-weaker (λ i. i < length g) (λ i. i < suc (length g)) (raised g t) (λ i h. omega arith) (raised-bounds g t) in
    ⊎_elim (λ e. rw e (omega arith, more)) (λ e. rw e more) (cases_Bool (raises_version p.raises t))

-- a chain stays one when points are added
pub chain-more : (p : Point) (g : Graph) (xs : List ℕ) → IsChain g xs → IsChain (p ∷ g) xs
chain-more p g [] h = tt
chain-more p g (x ∷ xs) h = (all-weaker (λ i. reaches g i x ≡ true) (λ i. reaches (p ∷ g) i x ≡ true) xs (λ i e. reaches-more p g i x e) h.0, chain-more p g xs h.1)

-- what a point has in its view of a chain is downward closed
pub chain-downward : (g : Graph) (xs : List ℕ) → IsChain g xs → (k : ℕ) → IsDownward (λ i. reaches g i k) xs
chain-downward g [] h k = tt
chain-downward g (x ∷ xs) h k = (λ e. all-weaker (λ i. reaches g i x ≡ true) (λ i. reaches g i k ≡ true) xs (λ i f. reaches-transitive g i x k f e) h.0, chain-downward g xs h.1 k)

pub raised-yes : (p : Point) (g : Graph) (t : ℕ) → raises_version p.raises t ≡ true → raised (p ∷ g) t ≡ length g ∷ raised g t
unfolding raised
raised-yes p g t e = cond-true (raises_version p.raises t) _ _ e

pub raised-no : (p : Point) (g : Graph) (t : ℕ) → raises_version p.raises t ≡ false → raised (p ∷ g) t ≡ raised g t
unfolding raised
raised-no p g t e = cond-false (raises_version p.raises t) _ _ e

-- a new point leaves the versions of the old points as they were
pub version-old : (p : Point) (g : Graph) (k t : ℕ) → k < length g → version (p ∷ g) k t ≡ version g k t
unfolding version
version-old p g k t h = ⊎_elim yes no (cases_Bool (raises_version p.raises t))
  where
    same : count (λ i. reaches (p ∷ g) i k) (raised g t) ≡ count (λ i. reaches g i k) (raised g t)
    same = count-agree (λ i. reaches (p ∷ g) i k) (λ i. reaches g i k) (raised g t) (all-each (λ i. reaches (p ∷ g) i k ≡ reaches g i k) (raised g t) (λ i. reaches-old p g i k h))

    yes : raises_version p.raises t ≡ true → version (p ∷ g) k t ≡ version g k t
    yes e = ap (count (λ i. reaches (p ∷ g) i k)) (raised-yes p g t e) ∙ count-no (λ i. reaches (p ∷ g) i k) (length g) (raised g t) (reaches-old p g (length g) k h ∙ reaches-none g (length g) k (inl h)) ∙ same

    no : raises_version p.raises t ≡ false → version (p ∷ g) k t ≡ version g k t
    no e = ap (count (λ i. reaches (p ∷ g) i k)) (raised-no p g t e) ∙ same

-- the versions of a new point
pub version-new : (js : List ℕ) (r : Option ℕ) (g : Graph) (t : ℕ) → IsChain g (raised g t) → version (record { after = js; raises = r } ∷ g) (length g) t ≡ (if raises_version r t then suc (most (map (λ j. version g j t) js)) else most (map (λ j. version g j t) js))
unfolding version
version-new js r g t h = ⊎_elim yes no (cases_Bool (raises_version r t))
  where
    p : Point
    p = record { after = js; raises = r }

    old : (i : ℕ) → i < length g → reaches (p ∷ g) i (length g) ≡ list_any (λ j. reaches g i j) js
    old i b = reaches-new p g i ∙ ap (λ t. t || list_any (λ j. reaches g i j) js) (ne_eqb i (length g) (omega arith))

    joined : count (λ i. reaches (p ∷ g) i (length g)) (raised g t) ≡ most (map (λ j. version g j t) js)
    joined = count-agree (λ i. reaches (p ∷ g) i (length g)) (λ i. list_any (λ j. reaches g i j) js) (raised g t) (all-weaker (λ i. i < length g) (λ i. reaches (p ∷ g) i (length g) ≡ list_any (λ j. reaches g i j) js) (raised g t) old (raised-bounds g t)) ∙ count-any (λ i j. reaches g i j) js (raised g t) (λ j. chain-downward g (raised g t) h j)

    yes : raises_version r t ≡ true → version (p ∷ g) (length g) t ≡ (if raises_version r t then suc (most (map (λ j. version g j t) js)) else most (map (λ j. version g j t) js))
    yes e = ap (count (λ i. reaches (p ∷ g) i (length g))) (raised-yes p g t e) ∙ count-yes (λ i. reaches (p ∷ g) i (length g)) (length g) (raised g t) (reaches-itself (p ∷ g) (length g) (omega arith)) ∙ ap suc joined ∙ sym (cond-true (raises_version r t) _ _ e)

    no : raises_version r t ≡ false → version (p ∷ g) (length g) t ≡ (if raises_version r t then suc (most (map (λ j. version g j t) js)) else most (map (λ j. version g j t) js))
    no e = ap (count (λ i. reaches (p ∷ g) i (length g))) (raised-no p g t e) ∙ joined ∙ sym (cond-false (raises_version r t) _ _ e)

-- tests that agree on each number
list_all-agree : (p q : ℕ → Bool) (xs : List ℕ) → ((x : ℕ) → p x ≡ q x) → list_all p xs ≡ list_all q xs
list_all-agree p q [] h = refl
list_all-agree p q (x ∷ xs) h = ap (λ b. b && list_all p xs) (h x) ∙ ap (λ b. q x && b) (list_all-agree p q xs h)

-- one view is inside another just where no version is above the other's
pub inside-leb : (g : Graph) (i k : ℕ) → IsChained g → inside g i k ≡ list_all (λ t. leb (version g i t) (version g k t)) threads
unfolding inside version IsChained
inside-leb g i k h = list_all-agree (λ t. list_all (λ x. not (reaches g x i) || reaches g x k) (raised g t)) (λ t. leb (version g i t) (version g k t)) threads (λ t. inside-counts (λ x. reaches g x i) (λ x. reaches g x k) (raised g t) (chain-downward g (raised g t) (h t) i) (chain-downward g (raised g t) (h t) k))

-- the counts of two points are compared as their views are
pub within-counts : (g : Graph) (i k : ℕ) → IsChained g → within (counts g i) (counts g k) ≡ inside g i k
unfolding counts
within-counts g i k h = sym (inside-leb g i k h)

pub counts-old : (p : Point) (g : Graph) (k : ℕ) → k < length g → counts (p ∷ g) k ≡ counts g k
unfolding counts
counts-old p g k h = rw (version-old p g k 0 h, version-old p g k 1 h, version-old p g k 2 h, version-old p g k 3 h, version-old p g k 4 h) refl

pub shows-old : (p : Point) (g : Graph) (k : ℕ) (vs : List ℕ) → Shows g k vs → Shows (p ∷ g) k vs
shows-old p g k vs h = record { made = let a = h.made in omega arith; counted = h.counted ∙ sym (counts-old p g k h.made) }

-- the largest of a list that begins with n, taken from the left
pub most_from : (n : ℕ) (ns : List ℕ) → ℕ
most_from n [] = n
most_from n (m ∷ ns) = most_from (max n m) ns

pub most_from-is : (n : ℕ) (ns : List ℕ) → most_from n ns ≡ max n (most ns)
unfolding most_from
most_from-is n [] = omega arith
most_from-is n (m ∷ ns) = most_from-is (max n m) ns ∙ omega arith

pub join_all-versions : (g : Graph) (f : ℕ → ℕ) (js : List ℕ) → join_all (map f threads) (map (counts g) js) ≡ map (λ t. most_from (f t) (map (λ j. version g j t) js)) threads
unfolding counts most_from
join_all-versions g f [] = refl
join_all-versions g f (j ∷ js) = join_all-versions g (λ t. max (f t) (version g j t)) js

map-agree : {X : Type 0} (f h : ℕ → X) (xs : List ℕ) → ((x : ℕ) → f x ≡ h x) → map f xs ≡ map h xs
map-agree f h [] e = refl
map-agree f h (x ∷ xs) e = ap (λ y. y ∷ map f xs) (e x) ∙ ap (λ ys. h x ∷ ys) (map-agree f h xs e)

-- the counts of a new point are those of the points that it comes after, joined
pub counts-moved : (g : Graph) (a : ℕ) (js : List ℕ) → IsChained g → counts (moved g (a ∷ js)) (length g) ≡ join_all (counts g a) (map (counts g) js)
unfolding counts IsChained
counts-moved g a js h =
    map-agree (version (moved g (a ∷ js)) (length g)) (λ t. most_from (version g a t) (map (λ j. version g j t) js)) threads (λ t. version-new (a ∷ js) None g t (h t) ∙ sym (most_from-is (version g a t) (map (λ j. version g j t) js)))
    ∙ sym (join_all-versions g (version g a) js)

pub counts-start : (g : Graph) → IsChained g → counts (moved g []) (length g) ≡ zeros
unfolding counts IsChained
counts-start g h = map-agree (version (moved g []) (length g)) (λ t. 0) threads (λ t. version-new [] None g t (h t))

raised_at-map : (f : ℕ → ℕ) (t : ℕ) → t < 5 → raised_at (map f threads) t ≡ map (λ u. if (t == u) then suc (f u) else f u) threads
raised_at-map f zero l = simp add-one
raised_at-map f (suc zero) l = simp add-one
raised_at-map f (suc (suc zero)) l = simp add-one
raised_at-map f (suc (suc (suc zero))) l = simp add-one
raised_at-map f (suc (suc (suc (suc zero)))) l = simp add-one
raised_at-map f (suc (suc (suc (suc (suc t))))) l = absurd (omega arith)

pub counts-raised : (g : Graph) (a t : ℕ) → IsChained g → t < 5 → counts (moved_raising g (a ∷ []) t) (length g) ≡ raised_at (counts g a) t
unfolding counts IsChained
counts-raised g a t h l =
    map-agree (version (moved_raising g (a ∷ []) t) (length g)) (λ u. if (t == u) then suc (version g a u) else version g a u) threads (λ u. version-new (a ∷ []) (Some t) g u (h u) ∙ ap (λ n. if (t == u) then suc n else n) (let e : max (version g a u) 0 ≡ version g a u = omega arith in e))
    ∙ sym (raised_at-map (version g a) t l)

-- the moves keep that each thread's raising points form a chain
pub chained-moved : (g : Graph) (js : List ℕ) → IsChained g → IsChained (moved g js)
unfolding IsChained raised
chained-moved g js h t = chain-more (record { after = js; raises = None }) g (raised g t) (h t)

pub chained-raising : (g : Graph) (a t : ℕ) (js : List ℕ) → IsChained g → IsPresent g t a → IsChained (moved_raising g (a ∷ js) t)
unfolding IsChained IsPresent
chained-raising g a t js h p u = ⊎_elim yes no (cases_Bool (t == u))
  where
    q : Point
    q = record { after = a ∷ js; raises = Some t }

    led : AllByRecursion (λ i. reaches (q ∷ g) i (length g) ≡ true) (raised g t)
    led = all-weaker (λ i. reaches g i a ≡ true) (λ i. reaches (q ∷ g) i (length g) ≡ true) (raised g t) (λ i e. reaches-new q g i ∙ or_right (i == length g) _ (or_left (reaches g i a) _ e)) p

    yes : (t == u) ≡ true → IsChain (q ∷ g) (raised (q ∷ g) u)
    yes e = rw (raised-yes q g u e) (subst (λ v. AllByRecursion (λ i. reaches (q ∷ g) i (length g) ≡ true) (raised g v)) (eqb-true t u e) led, chain-more q g (raised g u) (h u))

    no : (t == u) ≡ false → IsChain (q ∷ g) (raised (q ∷ g) u)
    no e = rw (raised-no q g u e) (chain-more q g (raised g u) (h u))

-- a point that raises another thread or none leaves a thread's present point what it is
pub present-old : (p : Point) (g : Graph) (t k : ℕ) → raises_version p.raises t ≡ false → IsPresent g t k → IsPresent (p ∷ g) t k
unfolding IsPresent
present-old p g t k e h = rw (raised-no p g t e) (all-weaker (λ i. reaches g i k ≡ true) (λ i. reaches (p ∷ g) i k ≡ true) (raised g t) (λ i f. reaches-more p g i k f) h)

-- a new point after the present one is the present one
pub present-new : (js : List ℕ) (r : Option ℕ) (g : Graph) (t k : ℕ) → IsPresent g t k → IsPresent (record { after = k ∷ js; raises = r } ∷ g) t (length g)
unfolding IsPresent
present-new js r g t k h = ⊎_elim yes no (cases_Bool (raises_version r t))
  where
    q : Point
    q = record { after = k ∷ js; raises = r }

    led : AllByRecursion (λ i. reaches (q ∷ g) i (length g) ≡ true) (raised g t)
    led = all-weaker (λ i. reaches g i k ≡ true) (λ i. reaches (q ∷ g) i (length g) ≡ true) (raised g t) (λ i e. reaches-new q g i ∙ or_right (i == length g) _ (or_left (reaches g i k) _ e)) h

    yes : raises_version r t ≡ true → AllByRecursion (λ i. reaches (q ∷ g) i (length g) ≡ true) (raised (q ∷ g) t)
    yes e = rw (raised-yes q g t e) (reaches-itself (q ∷ g) (length g) (omega arith), led)

    no : raises_version r t ≡ false → AllByRecursion (λ i. reaches (q ∷ g) i (length g) ≡ true) (raised (q ∷ g) t)
    no e = rw (raised-no q g t e) led

-- the views' vectors of the moves
pub shows-moved : (g : Graph) (a : ℕ) (js : List ℕ) (vs : List ℕ) (wss : List (List ℕ)) → IsChained g → Shows g a vs → AllZip (Shows g) js wss → Shows (moved g (a ∷ js)) (length g) (join_all vs wss)
shows-moved g a js vs wss h s z = record { made = omega arith; counted = rw (s.counted, shown_list js wss z) (sym (counts-moved g a js h)) }
  where
    shown_list : (is : List ℕ) (vss : List (List ℕ)) → AllZip (Shows g) is vss → vss ≡ map (counts g) is
    shown_list [] [] t = refl
    shown_list [] (vs ∷ vss) t = elim t [ ]
    shown_list (i ∷ is) [] t = elim t [ ]
    shown_list (i ∷ is) (vs ∷ vss) t = ap (λ ws. ws ∷ vss) t.0.counted ∙ ap (λ wss. counts g i ∷ wss) (shown_list is vss t.1)

pub shows-joined : (g : Graph) (a b : ℕ) (vs ws : List ℕ) → IsChained g → Shows g a vs → Shows g b ws → Shows (moved g (a ∷ b ∷ [])) (length g) (join vs ws)
shows-joined g a b vs ws h s z = shows-moved g a (b ∷ []) vs (ws ∷ []) h s (z, tt)

pub shows-start : (g : Graph) → IsChained g → Shows (moved g []) (length g) zeros
shows-start g h = record { made = omega arith; counted = sym (counts-start g h) }

pub shows-copied : (g : Graph) (a : ℕ) (vs : List ℕ) → IsChained g → Shows g a vs → Shows (moved g (a ∷ [])) (length g) vs
shows-copied g a vs h s = shows-moved g a [] vs [] h s tt

pub shows-raised : (g : Graph) (a t : ℕ) (vs : List ℕ) → IsChained g → t < 5 → Shows g a vs → Shows (moved_raising g (a ∷ []) t) (length g) (raised_at vs t)
shows-raised g a t vs h l s = record { made = omega arith; counted = ap (λ ws. raised_at ws t) s.counted ∙ sym (counts-raised g a t h l) }

-- vectors are compared as the views are
pub shows-inside : (g : Graph) (i k : ℕ) (vs ws : List ℕ) → IsChained g → Shows g i vs → Shows g k ws → within vs ws ≡ inside g i k
shows-inside g i k vs ws h s z = rw (s.counted, z.counted) (within-counts g i k h)

pub list_any-at : (p : ℕ → Bool) (xs : List ℕ) → list_any p xs ≡ true → (Q : ℕ → Type 0) → AllByRecursion Q xs → (x : ℕ) × (p x ≡ true) × Q x
list_any-at p [] e Q h = absurd (true≢false (sym e))
list_any-at p (x ∷ xs) e Q h = ⊎_elim (λ a. (x, a, h.0)) (λ a. list_any-at p xs a Q h.1) (or_cases (p x) (list_any p xs) e)

list_all-each : (p : ℕ → Bool) (xs : List ℕ) → list_all p xs ≡ true → AllByRecursion (λ x. p x ≡ true) xs
list_all-each p [] e = tt
list_all-each p (x ∷ xs) e = let q = and_parts (p x) (list_all p xs) e in (q.0, list_all-each p xs q.1)

list_all-from : (p : ℕ → Bool) (xs : List ℕ) → ((x : ℕ) → p x ≡ true) → list_all p xs ≡ true
list_all-from p [] h = refl
list_all-from p (x ∷ xs) h = and_from (p x) (list_all p xs) (h x) (list_all-from p xs h)

implied : (a b : Bool) → (a ≡ true → b ≡ true) → (not a || b) ≡ true
implied true b f = f refl
implied false b f = refl

implies : (a b : Bool) → (not a || b) ≡ true → a ≡ true → b ≡ true
implies true b e h = e
implies false b e h = absurd (false≢true h)

-- a point's view is inside that of each point that it reaches
pub reaching-inside : (g : Graph) (i k : ℕ) → reaches g i k ≡ true → inside g i k ≡ true
unfolding inside
reaching-inside g i k e = list_all-from (λ t. list_all (λ x. not (reaches g x i) || reaches g x k) (raised g t)) threads (λ t. list_all-from (λ x. not (reaches g x i) || reaches g x k) (raised g t) (λ x. implied (reaches g x i) (reaches g x k) (λ f. reaches-transitive g x i k f e)))

-- and a raising point reaches each point whose view its own is inside of
pub raising-inside : (g : Graph) (i k t : ℕ) → list_any (λ u. u == t) threads ≡ true → list_any (λ x. x == i) (raised g t) ≡ true → inside g i k ≡ reaches g i k
unfolding inside
raising-inside g i k t five member = same_tests (inside g i k) (reaches g i k) forth (reaching-inside g i k)
  where
    forth : inside g i k ≡ true → reaches g i k ≡ true
    forth e =
        let a = list_any-at (λ u. u == t) threads five (λ u. list_all (λ x. not (reaches g x i) || reaches g x k) (raised g u) ≡ true) (list_all-each (λ u. list_all (λ x. not (reaches g x i) || reaches g x k) (raised g u)) threads e) in
        let at_t : list_all (λ x. not (reaches g x i) || reaches g x k) (raised g t) ≡ true = subst (λ u. list_all (λ x. not (reaches g x i) || reaches g x k) (raised g u) ≡ true) (eqb-true a.0 t a.1) a.2 in
        let bounded = raised-bounds g t in
        let b = list_any-at (λ x. x == i) (raised g t) member (λ x. (not (reaches g x i) || reaches g x k) ≡ true) (list_all-each (λ x. not (reaches g x i) || reaches g x k) (raised g t) at_t) in
        let c = list_any-at (λ x. x == i) (raised g t) member (λ x. x < length g) bounded in
        let made : i < length g = subst (λ x. x < length g) (eqb-true c.0 i c.1) c.2 in
        implies (reaches g i i) (reaches g i k) (subst (λ x. (not (reaches g x i) || reaches g x k) ≡ true) (eqb-true b.0 i b.1) b.2) (reaches-itself g i made)

    same_tests : (a b : Bool) → (a ≡ true → b ≡ true) → (b ≡ true → a ≡ true) → a ≡ b
    same_tests true b f h = sym (f refl)
    same_tests false true f h = h refl
    same_tests false false f h = refl

-- a thread's version in the view of its present point is how often it has raised
pub version-present : (g : Graph) (t k : ℕ) → IsPresent g t k → version g k t ≡ length (raised g t)
unfolding IsPresent version
version-present g t k h = count-all (λ i. reaches g i k) (raised g t) h

-- of a touch at point k, by the versions
pub touch-seen : (g : Graph) (t k a : ℕ) → IsChained g → option_map_or (λ x. reaches g x a) (find (λ i. reaches g i k) (raised g t)) true ≡ leb (version g k t) (version g a t)
unfolding IsChained version
touch-seen g t k a h = first-counts (λ i. reaches g i k) (λ i. reaches g i a) (raised g t) (chain-downward g (raised g t) (h t) k) (chain-downward g (raised g t) (h t) a)
