-- Lists of versions place by place.
use Rattle.std.proofs.Common.{zero, suc, ◌≡◌, ℕ, ◌<◌, ◌≤◌, max, Bool, true, false, List, [], ◌∷◌, length, refl, sym, ◌∙◌, arith, Option, Some, None, not, get_or}
use Rattle.std.specs.Prelude.{leb, ◌↔◌, IsTrue, MatchOption, is_some}
use Rattle.std.proofs.lemmas.Bool.{and_parts, and_from, le-leb, leb-true, true≢false, false≢true, false_from_ne_true, not-true, not-false}
use Rattle.loom_views.specs.Versions.{join, within, versions_eq, IsFirstAhead, IsLeastUpperBound}
use Rattle.loom_views.specs.VersionOrder.{within-itself}

pub join-from_places : (us vs ws : List ℕ) → length us ≡ length vs → length vs ≡ length ws → ((k : ℕ) → k < length vs → get_or us k 0 ≡ max (get_or vs k 0) (get_or ws k 0)) → us ≡ join vs ws
join-from_places [] [] ws a b h = refl
join-from_places [] (v ∷ vs) ws a b h = absurd (omega arith)
join-from_places (u ∷ us) [] ws a b h = absurd (omega arith)
join-from_places (u ∷ us) (v ∷ vs) [] a b h = absurd (omega arith)
join-from_places (u ∷ us) (v ∷ vs) (w ∷ ws) a b h =
    let e : u ≡ max v w = h zero (omega arith) in
    let r : us ≡ join vs ws = join-from_places us vs ws (omega arith) (omega arith) (λ k l. h (suc k) (omega arith)) in
    rw (e, r) refl

pub within-from_places : (vs ws : List ℕ) → length vs ≤ length ws → ((k : ℕ) → k < length vs → get_or vs k 0 ≤ get_or ws k 0) → within vs ws ≡ true
within-from_places [] ws a h = refl
within-from_places (v ∷ vs) [] a h = absurd (omega arith)
within-from_places (v ∷ vs) (w ∷ ws) a h = and_from (leb v w) (within vs ws) (le-leb v w (h zero (omega arith))) (within-from_places vs ws (omega arith) (λ k l. h (suc k) (omega arith)))

pub within-at : (vs ws : List ℕ) (k : ℕ) → within vs ws ≡ true → get_or vs k 0 ≤ get_or ws k 0
within-at [] ws k e = omega arith
within-at (v ∷ vs) [] k e = absurd (false≢true e)
within-at (v ∷ vs) (w ∷ ws) zero e = leb-true v w (and_parts (leb v w) (within vs ws) e).0
within-at (v ∷ vs) (w ∷ ws) (suc k) e = within-at vs ws k (and_parts (leb v w) (within vs ws) e).1

-- a version above the other's
pub within-ahead : (vs ws : List ℕ) (k : ℕ) → get_or ws k 0 < get_or vs k 0 → within vs ws ≡ false
within-ahead vs ws k h = false_from_ne_true (within vs ws) (λ e. absurd (omega (arith, within-at vs ws k e)))

-- what the search for a version that is ahead says of the order
pub within-from_ahead : (o : Option ℕ) (b : Bool) (vs ws : List ℕ) → MatchOption o (IsTrue (within vs ws)) (IsFirstAhead ws vs) → is_some o ≡ not b → b ≡ within vs ws
within-from_ahead None b vs ws h e = not-false b (sym e) ∙ sym h
within-from_ahead (Some t) b vs ws h e = not-true b (sym e) ∙ sym (within-ahead vs ws t h.larger)

join-left : (vs ws : List ℕ) → length vs ≡ length ws → within vs (join vs ws) ≡ true
join-left [] ws e = refl
join-left (v ∷ vs) [] e = absurd (omega arith)
join-left (v ∷ vs) (w ∷ ws) e = and_from (leb v (max v w)) (within vs (join vs ws)) (le-leb v (max v w) (omega arith)) (join-left vs ws (omega arith))

join-right : (vs ws : List ℕ) → length vs ≡ length ws → within ws (join vs ws) ≡ true
join-right vs [] e = refl
join-right [] (w ∷ ws) e = absurd (omega arith)
join-right (v ∷ vs) (w ∷ ws) e = and_from (leb w (max v w)) (within ws (join vs ws)) (le-leb w (max v w) (omega arith)) (join-right vs ws (omega arith))

join-least : (vs ws xs : List ℕ) → within vs xs ≡ true → within ws xs ≡ true → within (join vs ws) xs ≡ true
join-least [] ws xs a b = refl
join-least (v ∷ vs) [] xs a b = refl
join-least (v ∷ vs) (w ∷ ws) [] a b = absurd (false≢true a)
join-least (v ∷ vs) (w ∷ ws) (x ∷ xs) a b =
    let p = and_parts (leb v x) (within vs xs) a in
    let q = and_parts (leb w x) (within ws xs) b in
    and_from (leb (max v w) x) (within (join vs ws) xs) (le-leb (max v w) x (omega (arith, leb-true v x p.0, leb-true w x q.0))) (join-least vs ws xs p.1 q.1)

pub join-bound : (vs ws : List ℕ) → length vs ≡ length ws → IsLeastUpperBound vs ws (join vs ws)
join-bound vs ws e = record {
  left = join-left vs ws e;
  right = join-right vs ws e;
  least = join-least vs ws;
}

-- and of the counts, place by place
pub places-from_ahead : (o : Option ℕ) (b : Bool) (vs ws : List ℕ) → MatchOption o (IsTrue (within vs ws)) (IsFirstAhead ws vs) → is_some o ≡ not b → (IsTrue b ↔ ((t : ℕ) → t < 5 → get_or vs t 0 ≤ get_or ws t 0))
places-from_ahead None b vs ws h e = (λ _ t l. within-at vs ws t h, λ _. not-false b (sym e))
places-from_ahead (Some t) b vs ws h e = (λ y. absurd (true≢false (sym y ∙ not-true b (sym e))), λ all. let below = all t h.is_thread in let above = h.larger in absurd (omega arith))

-- vectors that are inside each other are the same
pub same-places : (vs ws : List ℕ) → length vs ≡ length ws → within vs ws ≡ true → within ws vs ≡ true → vs ≡ ws
same-places [] [] e a b = refl
same-places [] (w ∷ ws) e a b = absurd (omega arith)
same-places (v ∷ vs) [] e a b = absurd (omega arith)
same-places (v ∷ vs) (w ∷ ws) e a b =
    let p = and_parts (leb v w) (within vs ws) a in
    let q = and_parts (leb w v) (within ws vs) b in
    let first : v ≡ w = omega (arith, leb-true v w p.0, leb-true w v q.0) in
    let rest : vs ≡ ws = same-places vs ws (omega arith) p.1 q.1 in
    rw (first, rest) refl

pub equal-same : (vs ws : List ℕ) → length vs ≡ length ws → (IsTrue (versions_eq vs ws) ↔ (vs ≡ ws))
equal-same vs ws e = (
  λ h. let p = and_parts (within vs ws) (within ws vs) h in same-places vs ws e p.0 p.1,
  λ h. rw h (and_from (within ws ws) (within ws ws) (within-itself ws) (within-itself ws)),
)
