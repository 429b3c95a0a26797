-- A point that raises goes on raising, and where a raise leads.
use Rattle.std.proofs.Common.{zero, suc, subst, ◌≡◌, ℕ, ◌<◌, Bool, true, false, List, [], ◌∷◌, ◌++◌, length, refl, ap, sym, ◌∙◌, arith, ⊎_elim, Option, Some, None, Result, Ok, Err}
use Rattle.std.specs.Prelude.{◌==◌, nat_lt, if◌then◌else◌}
use Rattle.std.specs.List.{slice_get, list_any}
use Rattle.std.proofs.lemmas.Bool.{cases_Bool, eqb-true, eq-eqb, false≢true, or_left, or_right, or_cases}
use Rattle.std.proofs.lemmas.Option.{slice_get_within}
use Rattle.loom_views.specs.declared.rt.failure.FailureKind.{FailureKind}
use Rattle.loom_views.specs.declared.rt.failure.FailureKind.TheVariants.{TooManyVersions}
use Rattle.loom_views.specs.Graph.{Point, Graph, threads, is_among, raises_version, raised, moved_raising}
use Rattle.loom_views.specs.ThreadViews.{ThreadPoints, with_present, graph_after_raise}
use Rattle.loom_views.specs.Views.{Points, with_thread, raise_by, points_after_raise}
use Rattle.loom_views.proofs.Views.Reaching.{list_any-mono}
use Rattle.loom_views.proofs.Views.Views.{raised-yes, raised-no, raising-inside}
use Rattle.loom_views.proofs.Views.Growth.{GrownBy, same, quiet, raising}
use Rattle.loom_views.specs.Laws.Reaching.{Extends, StayingLaw, is_raising}

-- a graph that grew is the old one with points in front
pub extends-itself : (g : Graph) → Extends g g
extends-itself g = record { added = []; is = refl }

append-assoc : (xs ys zs : Graph) → xs ++ (ys ++ zs) ≡ (xs ++ ys) ++ zs
append-assoc [] ys zs = refl
append-assoc (x ∷ xs) ys zs = ap (λ (ws : Graph). x ∷ ws) (append-assoc xs ys zs)

pub extends-joined : (a b c : Graph) → Extends a b → Extends b c → Extends a c
extends-joined a b c h k = record { added = k.added ++ h.added; is = k.is ∙ ap (λ (g : Graph). k.added ++ g) h.is ∙ append-assoc k.added h.added a }

pub extends-more : (p : Point) (g g' : Graph) → Extends g g' → Extends g (p ∷ g')
extends-more p g g' h = record { added = p ∷ h.added; is = ap (λ (w : Graph). p ∷ w) h.is }

pub extends-grown : {t : ℕ} {g g' : Graph} → GrownBy t g g' → Extends g g'
extends-grown {g = g} same = extends-itself g
extends-grown {g = g} (quiet {g' = g'} js r) = extends-more (record { after = js; raises = None }) g g' (extends-grown r)
extends-grown {t} {g} (raising {g' = g'} js r) = extends-more (record { after = js; raises = Some t }) g g' (extends-grown r)

-- a point that raises still does when points are added
among-more : (p : Point) (g : Graph) (k t : ℕ) → is_among k (raised g t) ≡ true → is_among k (raised (p ∷ g) t) ≡ true
among-more p g k t h = ⊎_elim
    (λ e. rw (raised-yes p g t e) (or_right (length g == k) (is_among k (raised g t)) h))
    (λ e. rw (raised-no p g t e) h)
    (cases_Bool (raises_version p.raises t))

pub raising-more : (p : Point) (g : Graph) (k : ℕ) → is_raising g k ≡ true → is_raising (p ∷ g) k ≡ true
raising-more p g k h = list_any-mono (λ t. is_among k (raised g t)) (λ t. is_among k (raised (p ∷ g) t)) threads (λ t e. among-more p g k t e) h

raising-appended : (added g : Graph) (k : ℕ) → is_raising g k ≡ true → is_raising (added ++ g) k ≡ true
raising-appended [] g k h = h
raising-appended (p ∷ added) g k h = raising-more p (added ++ g) k (raising-appended added g k h)

pub raising-extends : (g g' : Graph) (k : ℕ) → Extends g g' → is_raising g k ≡ true → is_raising g' k ≡ true
raising-extends g g' k h e = rw h.is (raising-appended h.added g k e)

-- an element of a list that passes a test
pub member-passes : (p : ℕ → Bool) (xs : List ℕ) → list_any p xs ≡ true → (x : ℕ) × (is_among x xs ≡ true) × (p x ≡ true)
member-passes p [] h = absurd (false≢true h)
member-passes p (x ∷ xs) h = ⊎_elim
    (λ e. (x, or_left (x == x) (is_among x xs) (eq-eqb x x refl), e))
    (λ e. let m = member-passes p xs e in (m.0, or_right (x == m.0) (is_among m.0 xs) m.1, m.2))
    (or_cases (p x) (list_any p xs) h)

pub passes-member : (p : ℕ → Bool) (xs : List ℕ) (x : ℕ) → is_among x xs ≡ true → p x ≡ true → list_any p xs ≡ true
passes-member p [] x h e = absurd (false≢true h)
passes-member p (y ∷ xs) x h e = ⊎_elim
    (λ q. or_left (p y) (list_any p xs) (subst (λ z. p z ≡ true) (sym (eqb-true y x q)) e))
    (λ q. or_right (p y) (list_any p xs) (passes-member p xs x q e))
    (or_cases (y == x) (is_among x xs) h)

pub staying_law : StayingLaw
staying_law earlier later k h e =
    let raises = raising-extends earlier later k h e in
    let t = member-passes (λ t. is_among k (raised later t)) threads raises in
    record { raises = raises; reaching = λ a. raising-inside later k a t.0 t.1 t.2 }

pub is-thread : (t : ℕ) → t < 5 → is_among t threads ≡ true
is-thread zero l = refl
is-thread (suc zero) l = refl
is-thread (suc (suc zero)) l = refl
is-thread (suc (suc (suc zero))) l = refl
is-thread (suc (suc (suc (suc zero)))) l = refl
is-thread (suc (suc (suc (suc (suc t))))) l = absurd (omega arith)

-- the point that a raise makes raises
pub new-raises : (g : Graph) (js : List ℕ) (t : ℕ) → t < 5 → is_raising (moved_raising g js t) (length g) ≡ true
new-raises g js t l =
    let p : Point = record { after = js; raises = Some t } in
    let first : is_among (length g) (raised (p ∷ g) t) ≡ true = rw (raised-yes p g t (eq-eqb t t refl)) (or_left (length g == length g) (is_among (length g) (raised g t)) (eq-eqb (length g) (length g) refl)) in
    passes-member (λ u. is_among (length g) (raised (p ∷ g) u)) threads t (is-thread t l) first

-- where a raise leads
pub record Raised (p q : Points) (t : ℕ) : Type 0 where
  pub own : ThreadPoints
  pub is : slice_get p.threads t ≡ Some own
  pub there : t < length p.threads
  pub to : q ≡ with_thread p t (graph_after_raise p.graph own t) (with_present p.graph own)

pub raise-leads : (p q : Points) (t : ℕ) → points_after_raise p t ≡ Ok q → Raised p q t
raise-leads p q t = go (slice_get p.threads t) refl
  where
    tested : (own : ThreadPoints) → slice_get p.threads t ≡ Some own → (a : Bool) → ◌≡◌ {A = Result Points FailureKind} (if a then Ok (with_thread p t (graph_after_raise p.graph own t) (with_present p.graph own)) else Err TooManyVersions) (Ok q) → Raised p q t
    tested own e true h = record { own = own; is = e; there = slice_get_within p.threads t own e; to = cc }
    tested own e false h = absurd (cc)

    go : (o : Option ThreadPoints) → slice_get p.threads t ≡ o → raise_by p t o ≡ Ok q → Raised p q t
    go None e h = absurd (cc)
    go (Some own) e h = tested own e (nat_lt (length (raised p.graph t)) 65534) h
