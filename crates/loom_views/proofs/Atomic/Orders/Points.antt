-- The orders of an atomic's kept stores, as sets of raising points, in the graph and as it grows.
use Rattle.std.proofs.Common.{suc, ◌≡◌, ℕ, ◌+◌, ◌<◌, ◌≤◌, Bool, true, false, not, ◌||◌, List, [], ◌∷◌, ◌++◌, length, refl, ap, sym, ◌∙◌, arith, subst, inl, ⊎_elim, Option, Some, None}
use Rattle.std.specs.Prelude.{◌==◌}
use Rattle.std.specs.List.{list_all, find}
use Rattle.std.specs.Option.{option_map_or}
use Rattle.std.proofs.lemmas.Bool.{cases_Bool, eqb-true, eq-eqb, or_cases, or_left, or_right, and_parts, and_from, false≢true}
use Rattle.loom_views.specs.Graph.{Point, Graph, threads, is_among, reaches, raises_version, raised, inside, moved}
use Rattle.loom_views.specs.Laws.Reaching.{Extends, is_raising}
use Rattle.loom_views.specs.Atomic.Slots.{number_in_slot}
use Rattle.loom_views.specs.Atomic.History.{StorePoints, in_slot, last_raised, touch_of, is_touch_seen, is_seen}
use Rattle.loom_views.proofs.Views.Reaching.{reaches-bounds, reaches-old, reaches-none}
use Rattle.loom_views.proofs.Views.Views.{raised-yes, raised-no, raised-bounds, list_any-at}
use Rattle.loom_views.proofs.Views.Counting.{all-each}
use Rattle.loom_views.proofs.Atomic.Loops.{list_any-agree}
use Rattle.loom_views.proofs.Atomic.Reaching.Raising.{member-passes, passes-member, is-thread, raising-more}
use Rattle.loom_views.proofs.Atomic.Orders.Sets.{Holds, Ranked, ranked-same}

-- a store is kept in the slot
abbrev pub IsKept : List StorePoints → ℕ → Type 0
IsKept stores i = (i < 7) × (i < length stores)

-- the points that reach the order point of the store in a slot
abbrev pub View : Graph → List StorePoints → ℕ → ℕ → Type 0
View g stores i x = reaches g x (in_slot stores i).order ≡ true

abbrev pub Raising : Graph → ℕ → Type 0
Raising g x = is_raising g x ≡ true

-- the last raising point of each store's author, when it was made
abbrev pub mark_of : Graph → (ℕ → ℕ) → (ℕ → ℕ) → ℕ → Option ℕ
mark_of g author point i = last_raised g (author i) (point i)

-- who made the kept stores, and at which present points
pub record Authored (g : Graph) (stores : List StorePoints) (author point : ℕ → ℕ) : Type 0 where
  pub thread : (i : ℕ) → IsKept stores i → author i < 5
  pub there : (i : ℕ) → IsKept stores i → point i < length g
  pub touch : (i : ℕ) → IsKept stores i → touch_of (in_slot stores i) (author i) ≡ Some (point i)
  pub made : (i : ℕ) → IsKept stores i → (in_slot stores i).order < length g
  pub own : (i : ℕ) → IsKept stores i → Holds (mark_of g author point i) (View g stores i)

-- of two kept stores the later one's order contains that of the store of this number
pub record IsUnder (g : Graph) (stores : List StorePoints) (number : ℕ) : Type 0 where
  pub low : ℕ
  pub high : ℕ
  pub low_kept : IsKept stores low
  pub high_kept : IsKept stores high
  pub is : number_in_slot (length stores) low ≡ number
  pub newer : number < number_in_slot (length stores) high
  pub inner : inside g (in_slot stores low).order (in_slot stores high).order ≡ true

-- the store of this number was made, and as long as it is kept a later one's order contains its order
pub record IsPassed (g : Graph) (stores : List StorePoints) (number : ℕ) : Type 0 where
  pub made : number < length stores
  pub under : length stores ≤ number + 7 → IsUnder g stores number

-- the orders of the kept stores differ pairwise, since none has another's mark that has its own. The stores of these numbers have
-- been passed
pub record AreApart (D : ℕ → Type 0) (g : Graph) (stores : List StorePoints) : Type 0 where
  pub author : ℕ → ℕ
  pub point : ℕ → ℕ
  pub authored : Authored g stores author point
  pub ranked : Ranked (Raising g) (IsKept stores) (mark_of g author point) (View g stores)
  pub passed : (number : ℕ) → D number → IsPassed g stores number

-- the thread's last raising point at its present point is in no order
pub record Fresh (g : Graph) (stores : List StorePoints) (t present : ℕ) : Type 0 where
  pub thread : t < 5
  pub there : present < length g
  pub mark : ℕ
  pub older : List ℕ
  pub is : raised g t ≡ mark ∷ older
  pub raises : Raising g mark
  pub reaching : reaches g mark present ≡ true
  pub new : (i : ℕ) → IsKept stores i → View g stores i mark → ⊥

pub sooner : (a b : ℕ) → a < b → a < suc b
sooner a b l = omega arith

pub last-one : (a : ℕ) → a < suc a
last-one a = omega arith

-- of the elements of a list
all-among : (p : ℕ → Bool) (xs : List ℕ) → ((x : ℕ) → is_among x xs ≡ true → p x ≡ true) → list_all p xs ≡ true
all-among p [] h = refl
all-among p (x ∷ xs) h = and_from (p x) (list_all p xs) (h x (or_left (x == x) (is_among x xs) (eq-eqb x x refl))) (all-among p xs (λ y e. h y (or_right (x == y) (is_among y xs) e)))

each-among : (p : ℕ → Bool) (xs : List ℕ) (x : ℕ) → list_all p xs ≡ true → is_among x xs ≡ true → p x ≡ true
each-among p [] x a e = absurd (false≢true e)
each-among p (y ∷ xs) x a e =
    let q = and_parts (p y) (list_all p xs) a in
    ⊎_elim (λ s. subst (λ z. p z ≡ true) (eqb-true y x s) q.0) (λ s. each-among p xs x q.1 s) (or_cases (y == x) (is_among x xs) e)

implied : (a b : Bool) → (a ≡ true → b ≡ true) → (not a || b) ≡ true
implied true b f = f refl
implied false b f = refl

implies : (a b : Bool) → (not a || b) ≡ true → a ≡ true → b ≡ true
implies true b e h = e
implies false b e h = absurd (false≢true h)

-- a view is inside another just where each raising point of it is in the other
pub inside-from : (g : Graph) (a b : ℕ) → ((x : ℕ) → Raising g x → reaches g x a ≡ true → reaches g x b ≡ true) → inside g a b ≡ true
unfolding inside
inside-from g a b h =
    all-among (λ t. list_all (λ x. not (reaches g x a) || reaches g x b) (raised g t)) threads (λ t m.
    all-among (λ x. not (reaches g x a) || reaches g x b) (raised g t) (λ x e.
    implied (reaches g x a) (reaches g x b) (h x (passes-member (λ u. is_among x (raised g u)) threads t m e))))

pub inside-gives : (g : Graph) (a b x : ℕ) → inside g a b ≡ true → Raising g x → reaches g x a ≡ true → reaches g x b ≡ true
unfolding inside
inside-gives g a b x e r =
    let t = member-passes (λ u. is_among x (raised g u)) threads r in
    implies (reaches g x a) (reaches g x b) (each-among (λ y. not (reaches g y a) || reaches g y b) (raised g t.0) x (each-among (λ u. list_all (λ y. not (reaches g y a) || reaches g y b) (raised g u)) threads t.0 e t.1) t.2)

-- a raising point is there
pub raising-there : (g : Graph) (x : ℕ) → Raising g x → x < length g
raising-there g x r =
    let t = member-passes (λ u. is_among x (raised g u)) threads r in
    let y = list_any-at (λ z. z == x) (raised g t.0) t.2 (λ z. z < length g) (raised-bounds g t.0) in
    subst (λ z. z < length g) (eqb-true y.0 x y.1) y.2

-- what a new point raises is new
pub raising-old : (p : Point) (g : Graph) (x : ℕ) → x < length g → Raising (p ∷ g) x → Raising g x
raising-old p g x l r =
    let t = member-passes (λ u. is_among x (raised (p ∷ g) u)) threads r in
    passes-member (λ u. is_among x (raised g u)) threads t.0 t.1 (⊎_elim
    (λ e. ⊎_elim (λ s. absurd (let q : length g ≡ x = eqb-true (length g) x s in omega arith)) (λ s. s) (or_cases (length g == x) (is_among x (raised g t.0)) (subst (λ ys. is_among x ys ≡ true) (raised-yes p g t.0 e) t.2)))
    (λ e. subst (λ ys. is_among x ys ≡ true) (raised-no p g t.0 e) t.2)
    (cases_Bool (raises_version p.raises t.0)))

pub raising-quiet : (js : List ℕ) (g : Graph) (x : ℕ) → is_raising (moved g js) x ≡ is_raising g x
raising-quiet js g x = list_any-agree (λ t. is_among x (raised (moved g js) t)) (λ t. is_among x (raised g t)) threads (all-each (λ t. is_among x (raised (moved g js) t) ≡ is_among x (raised g t)) threads (λ t. ap (is_among x) (raised-no (record { after = js; raises = None }) g t refl)))

-- the first element that passes
pub find-yes : (p : ℕ → Bool) (x : ℕ) (xs : List ℕ) → p x ≡ true → find p (x ∷ xs) ≡ Some x
find-yes p x xs e = rw e refl

find-no : (p : ℕ → Bool) (x : ℕ) (xs : List ℕ) → p x ≡ false → find p (x ∷ xs) ≡ find p xs
find-no p x xs e = rw e refl

pub find-passes : (p : ℕ → Bool) (x : ℕ) (xs : List ℕ) → find p xs ≡ Some x → p x ≡ true
find-passes p x [] e = absurd (cc)
find-passes p x (y ∷ xs) e = ⊎_elim (λ b. let d : y ≡ x = one y (sym (find-yes p y xs b) ∙ e) in subst (λ z. p z ≡ true) d b) (λ b. find-passes p x xs (sym (find-no p y xs b) ∙ e)) (cases_Bool (p y))
  where
    one : (z : ℕ) → Some z ≡ Some x → z ≡ x
    one z f = cc

pub find-among : (p : ℕ → Bool) (x : ℕ) (xs : List ℕ) → find p xs ≡ Some x → is_among x xs ≡ true
find-among p x [] e = absurd (cc)
find-among p x (y ∷ xs) e = ⊎_elim (λ b. or_left (y == x) (is_among x xs) (eq-eqb y x (one y (sym (find-yes p y xs b) ∙ e)))) (λ b. or_right (y == x) (is_among x xs) (find-among p x xs (sym (find-no p y xs b) ∙ e))) (cases_Bool (p y))
  where
    one : (z : ℕ) → Some z ≡ Some x → z ≡ x
    one z f = cc

-- a mark raises
pub last-raising : (g : Graph) (t k e : ℕ) → t < 5 → last_raised g t k ≡ Some e → Raising g e
last-raising g t k e l h = passes-member (λ u. is_among e (raised g u)) threads t (is-thread t l) (find-among (λ i. reaches g i k) e (raised g t) h)

find-agree : (p q : ℕ → Bool) (xs : List ℕ) → ((x : ℕ) → p x ≡ q x) → find p xs ≡ find q xs
find-agree p q [] h = refl
find-agree p q (x ∷ xs) h = ⊎_elim (λ e. find-yes p x xs e ∙ sym (find-yes q x xs (sym (h x) ∙ e))) (λ e. find-no p x xs e ∙ find-agree p q xs h ∙ sym (find-no q x xs (sym (h x) ∙ e))) (cases_Bool (p x))

-- a new point leaves what a thread had raised at an old one
pub last-old : (p : Point) (g : Graph) (t k : ℕ) → k < length g → last_raised (p ∷ g) t k ≡ last_raised g t k
last-old p g t k l = ⊎_elim
    (λ e. ap (find (λ i. reaches (p ∷ g) i k)) (raised-yes p g t e) ∙ find-no (λ i. reaches (p ∷ g) i k) (length g) (raised g t) (reaches-old p g (length g) k l ∙ unreached) ∙ older)
    (λ e. ap (find (λ i. reaches (p ∷ g) i k)) (raised-no p g t e) ∙ older)
    (cases_Bool (raises_version p.raises t))
  where
    unreached : reaches g (length g) k ≡ false
    unreached = reaches-none g (length g) k (inl l)

    older : find (λ i. reaches (p ∷ g) i k) (raised g t) ≡ find (λ i. reaches g i k) (raised g t)
    older = find-agree (λ i. reaches (p ∷ g) i k) (λ i. reaches g i k) (raised g t) (λ i. reaches-old p g i k l)

-- where a store's author touched it, the store is seen from each point to which its mark has come
pub seen-by : (g : Graph) (store : StorePoints) (t k a : ℕ) → t < 5 → touch_of store t ≡ Some k → Holds (last_raised g t k) (λ x. reaches g x a ≡ true) → is_seen g store a ≡ true
unfolding is_seen
seen-by g store t k a l e h = passes-member (λ u. is_touch_seen g u (touch_of store u) a) threads t (is-thread t l) (ap (λ o. is_touch_seen g t o a) e ∙ come (last_raised g t k) h)
  where
    come : (o : Option ℕ) → Holds o (λ x. reaches g x a ≡ true) → option_map_or (λ x. reaches g x a) o true ≡ true
    come None q = refl
    come (Some x) q = q

-- the orders stay apart when a point is added
module _ (D : ℕ → Type 0) (p : Point) (g : Graph) (stores : List StorePoints) (a : AreApart D g stores) where
  same-view : (i x : ℕ) → IsKept stores i → reaches (p ∷ g) x (in_slot stores i).order ≡ reaches g x (in_slot stores i).order
  same-view i x k = reaches-old p g x (in_slot stores i).order (a.authored.made i k)

  same-mark : (i : ℕ) → IsKept stores i → mark_of (p ∷ g) a.author a.point i ≡ mark_of g a.author a.point i
  same-mark i k = last-old p g (a.author i) (a.point i) (a.authored.there i k)

  own-stays : (i : ℕ) → IsKept stores i → (o : Option ℕ) → Holds o (View g stores i) → Holds o (View (p ∷ g) stores i)
  own-stays i k None h = tt
  own-stays i k (Some e) h = same-view i e k ∙ h

  under-more : (number : ℕ) → IsUnder g stores number → IsUnder (p ∷ g) stores number
  under-more number u = record {
    low = u.low;
    high = u.high;
    low_kept = u.low_kept;
    high_kept = u.high_kept;
    is = u.is;
    newer = u.newer;
    inner = inside-from (p ∷ g) (in_slot stores u.low).order (in_slot stores u.high).order (λ x r h.
        let old : reaches g x (in_slot stores u.low).order ≡ true = sym (same-view u.low x u.low_kept) ∙ h in
        same-view u.high x u.high_kept ∙ inside-gives g (in_slot stores u.low).order (in_slot stores u.high).order x u.inner (raising-old p g x (let b = reaches-bounds g x (in_slot stores u.low).order old in omega arith) r) old);
  }

  pub apart-more : AreApart D (p ∷ g) stores
  apart-more = record {
    author = a.author;
    point = a.point;
    authored = record {
      thread = a.authored.thread;
      there = λ i k. let b = a.authored.there i k in omega arith;
      touch = a.authored.touch;
      made = λ i k. let b = a.authored.made i k in omega arith;
      own = λ i k. subst (λ o. Holds o (View (p ∷ g) stores i)) (sym (same-mark i k)) (own-stays i k (mark_of g a.author a.point i) (a.authored.own i k));
    };
    ranked = ranked-same (Raising g) (Raising (p ∷ g)) (IsKept stores) (IsKept stores) (mark_of g a.author a.point) (mark_of (p ∷ g) a.author a.point) (View g stores) (View (p ∷ g) stores) a.ranked (record {
      kept = λ i k. k;
      marks = same-mark;
      stays = λ i x k h. sym (same-view i x k) ∙ h;
      stood = λ i x k h. same-view i x k ∙ h;
      raising = λ x r. raising-more p g x r;
      raised = λ i x k r h. raising-old p g x (let b = reaches-bounds g x (in_slot stores i).order (sym (same-view i x k) ∙ h) in omega arith) r;
    });
    passed = λ number d. let q = a.passed number d in record { made = q.made; under = λ l. under-more number (q.under l) };
  }

apart-appended : (D : ℕ → Type 0) (added g : Graph) (stores : List StorePoints) → AreApart D g stores → AreApart D (added ++ g) stores
apart-appended D [] g stores a = a
apart-appended D (p ∷ added) g stores a = apart-more D p (added ++ g) stores (apart-appended D added g stores a)

pub apart-extends : (D : ℕ → Type 0) (g g' : Graph) (stores : List StorePoints) → Extends g g' → AreApart D g stores → AreApart D g' stores
apart-extends D g g' stores h a = rw h.is (apart-appended D h.added g stores a)
