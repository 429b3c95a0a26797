-- Making a store, by a thread that has just raised, keeps the orders of the kept stores apart.
use Rattle.std.proofs.Common.{suc, ◌≡◌, ◌≢◌, ℕ, ◌+◌, ◌%◌, ◌<◌, ◌≤◌, true, false, ◌||◌, List, [], ◌∷◌, ◌++◌, length, refl, ap, sym, ◌∙◌, arith, subst, ⊎_elim, Option, Some, None, length-append}
use Rattle.std.specs.Prelude.{◌==◌, if◌then◌else◌}
use Rattle.std.specs.List.{list_any, find}
use Rattle.std.proofs.lemmas.Bool.{cases_eq, eq-eqb, ne_eqb, or_cases, or_left, or_right, cond-true, cond-false}
use Rattle.loom_views.specs.Graph.{Point, Graph, reaches, raised, moved, moved_raising}
use Rattle.loom_views.specs.Atomic.Slots.{number_in_slot}
use Rattle.loom_views.specs.Atomic.History.{StorePoints, in_slot, last_raised, touch_of, is_seen, seen_orders}
use Rattle.loom_views.proofs.Views.Reaching.{reaches-bounds, reaches-new, reaches-old, reaches-itself}
use Rattle.loom_views.proofs.Views.Views.{raised-yes, raised-no}
use Rattle.loom_views.proofs.Atomic.SlotNumbers.{in_slot-new, in_slot-old, number-old}
use Rattle.loom_views.proofs.Atomic.Orders.Sets.{Holds, Inside, Makes, ranked-made, ranked-same, holds-inside}
use Rattle.loom_views.proofs.Atomic.Orders.Points.{IsKept, View, Raising, mark_of, IsUnder, AreApart, Fresh, sooner, last-one, raising-there, inside-from, inside-gives, raising-quiet, find-yes, find-passes, last-raising, last-old, seen-by}
use Rattle.loom_views.proofs.Atomic.Reaching.Raising.{raising-more, new-raises}
use Rattle.loom_views.proofs.Atomic.Orders.Reading.{seen-in, seen-out}

fresh-last : (g : Graph) (stores : List StorePoints) (t a : ℕ) (f : Fresh g stores t a) → last_raised g t a ≡ Some f.mark
fresh-last g stores t a f = ap (find (λ i. reaches g i a)) f.is ∙ find-yes (λ i. reaches g i a) f.mark f.older f.reaching

-- a slot whose store is still kept once another is made isn't the new one's
pub stays-old : (n i : ℕ) → i < 7 → i < n → suc n ≤ number_in_slot n i + 7 → i ≢ n % 7
unfolding number_in_slot
stays-old n i a b h = omega arith

-- a thread that has just raised
pub fresh-raised : (D : ℕ → Type 0) (g : Graph) (stores : List StorePoints) (t a : ℕ) → t < 5 → AreApart D g stores → Fresh (moved_raising g (a ∷ []) t) stores t (length g)
fresh-raised D g stores t a l p = record {
  thread = l;
  there = last-one (length g);
  mark = length g;
  older = raised g t;
  is = raised-yes new g t (eq-eqb t t refl);
  raises = new-raises g (a ∷ []) t l;
  reaching = reaches-itself (new ∷ g) (length g) (last-one (length g));
  new = λ i q h. let b = reaches-bounds (new ∷ g) (length g) (in_slot stores i).order h in let m = p.authored.made i q in omega arith;
}
  where
    new : Point
    new = record { after = a ∷ []; raises = Some t }

-- it acquires
pub fresh-acquired : (D : ℕ → Type 0) (g : Graph) (stores : List StorePoints) (t a k : ℕ) → AreApart D g stores → Fresh g stores t a → Fresh (moved g (a ∷ k ∷ [])) stores t (length g)
fresh-acquired D g stores t a k p f = record {
  thread = f.thread;
  there = last-one (length g);
  mark = f.mark;
  older = f.older;
  is = raised-no new g t refl ∙ f.is;
  raises = raising-quiet (a ∷ k ∷ []) g f.mark ∙ f.raises;
  reaching = reaches-new new g f.mark ∙ or_right (f.mark == length g) (reaches g f.mark a || (reaches g f.mark k || false)) (or_left (reaches g f.mark a) (reaches g f.mark k || false) f.reaching);
  new = λ i q h. f.new i q (sym (reaches-old new g f.mark (in_slot stores i).order (p.authored.made i q)) ∙ h);
}
  where
    new : Point
    new = record { after = a ∷ k ∷ []; raises = None }

module _ (D : ℕ → Type 0) (g : Graph) (stores : List StorePoints) (t a : ℕ) (store : StorePoints) (p : AreApart D g stores) (f : Fresh g stores t a)
    (order : store.order ≡ length g) (touched : touch_of store t ≡ Some a) where
  abbrev c : ℕ
  c = length stores % 7

  abbrev all : List StorePoints
  all = stores ++ store ∷ []

  abbrev new : Point
  new = record { after = a ∷ seen_orders g stores a None; raises = None }

  abbrev after : Graph
  after = moved g (a ∷ seen_orders g stores a None)

  abbrev author : ℕ → ℕ
  author i = if (i == c) then t else p.author i

  abbrev point : ℕ → ℕ
  point i = if (i == c) then a else p.point i

  kept-before : (i : ℕ) → i ≢ c → IsKept all i → IsKept stores i
  kept-before i n q = (q.0, below i q.0 q.1 n)
    where
      below : (i : ℕ) → i < 7 → i < length (stores ++ store ∷ []) → i ≢ length stores % 7 → i < length stores
      below i l m d = omega (arith, length-append stores (store ∷ []))

  in-new : (i : ℕ) → i ≡ c → in_slot all i ≡ store
  in-new i e = rw e (in_slot-new stores store)

  pub in-old : (i : ℕ) → i ≢ c → IsKept all i → in_slot all i ≡ in_slot stores i
  in-old i n q = in_slot-old stores store i q.0 (kept-before i n q).1 n

  author-new : (i : ℕ) → i ≡ c → author i ≡ t
  author-new i e = cond-true (i == c) t (p.author i) (eq-eqb i c e)

  author-old : (i : ℕ) → i ≢ c → author i ≡ p.author i
  author-old i n = cond-false (i == c) t (p.author i) (ne_eqb i c n)

  point-new : (i : ℕ) → i ≡ c → point i ≡ a
  point-new i e = cond-true (i == c) a (p.point i) (eq-eqb i c e)

  point-old : (i : ℕ) → i ≢ c → point i ≡ p.point i
  point-old i n = cond-false (i == c) a (p.point i) (ne_eqb i c n)

  abbrev old-mark : ℕ → Option ℕ
  old-mark = mark_of g p.author p.point

  -- the marks in the old graph
  abbrev next-mark : ℕ → Option ℕ
  next-mark = mark_of g author point

  mark-new : (i : ℕ) → i ≡ c → next-mark i ≡ Some f.mark
  mark-new i e = ap (λ u. last_raised g u (point i)) (author-new i e) ∙ ap (last_raised g t) (point-new i e) ∙ fresh-last g stores t a f

  mark-old : (i : ℕ) → i ≢ c → next-mark i ≡ old-mark i
  mark-old i n = ap (λ u. last_raised g u (point i)) (author-old i n) ∙ ap (last_raised g (p.author i)) (point-old i n)

  -- the orders in the new graph
  pub view-old : (i x : ℕ) → i ≢ c → IsKept all i → reaches after x (in_slot all i).order ≡ reaches g x (in_slot stores i).order
  view-old i x n q = ap (λ (other : StorePoints). reaches after x other.order) (in-old i n q) ∙ reaches-old new g x (in_slot stores i).order (p.authored.made i (kept-before i n q))

  pub view-new : (i x : ℕ) → i ≡ c → x < length g → reaches after x (in_slot all i).order ≡ (reaches g x a || list_any (λ m. reaches g x m) (seen_orders g stores a None))
  view-new i x e l = ap (λ (other : StorePoints). reaches after x other.order) (in-new i e) ∙ ap (λ m. reaches after x m) order ∙ reaches-new new g x ∙ ap (λ b. b || (reaches g x a || list_any (λ m. reaches g x m) (seen_orders g stores a None))) (ne_eqb x (length g) (omega arith))

  from-seen : (k x : ℕ) → IsKept stores k → is_seen g (in_slot stores k) a ≡ true → Raising g x → View g stores k x → View after all c x
  from-seen k x q s r v = view-new c x refl (raising-there g x r) ∙ or_right (reaches g x a) (list_any (λ m. reaches g x m) (seen_orders g stores a None)) (seen-in g stores a None k x q s v)

  -- a store whose mark has come to the thread, or to a store that it has seen, is inside the new one's order
  seen-inside : (i : ℕ) → IsKept stores i → Holds (old-mark i) (λ x. reaches g x a ≡ true) → Inside (Raising g) (View g stores i) (View after all c)
  seen-inside i q h x r v = from-seen i x q (seen-by g (in_slot stores i) (p.author i) (p.point i) a (p.authored.thread i q) (p.authored.touch i q) h) r v

  held-by : (i : ℕ) → IsKept stores i → (o : Option ℕ) → old-mark i ≡ o → Holds o (View after all c) → Inside (Raising g) (View g stores i) (View after all c)
  held-by i q None e h = seen-inside i q (subst (λ o. Holds o (λ x. reaches g x a ≡ true)) (sym e) tt)
  held-by i q (Some m) e h = ⊎_elim
      (λ b. seen-inside i q (subst (λ o. Holds o (λ x. reaches g x a ≡ true)) (sym e) b))
      (λ b. joined (seen-out g stores a None m b))
      (or_cases (reaches g m a) (list_any (λ k. reaches g m k) (seen_orders g stores a None)) (sym (view-new c m refl (raising-there g m (p.ranked.marked i m q e))) ∙ h))
    where
      joined : (k : ℕ) × IsKept stores k × (is_seen g (in_slot stores k) a ≡ true) × View g stores k m → Inside (Raising g) (View g stores i) (View after all c)
      joined s x r v = from-seen s.0 x s.1 s.2 r (p.ranked.closed i s.0 q s.1 (subst (λ o. Holds o (View g stores s.0)) (sym e) s.3) x r v)

  makes : Makes (Raising g) (IsKept stores) (IsKept all) old-mark next-mark (View g stores) (View after all) c
  makes = record {
    kept = kept-before;
    marks = λ i n. mark-old i n;
    stays = λ i x n q h. sym (view-old i x n q) ∙ h;
    stood = λ i x n q h. view-old i x n q ∙ h;
    mark = f.mark;
    is = mark-new c refl;
    raising = f.raises;
    new = λ i n q h. f.new i (kept-before i n q) (sym (view-old i f.mark n q) ∙ h);
    held = λ i n q h x r v. held-by i (kept-before i n q) (old-mark i) refl (subst (λ o. Holds o (View after all c)) (mark-old i n) h) x r (sym (view-old i x n q) ∙ v);
  }

  point-there : (i : ℕ) → IsKept all i → point i < length g
  point-there i q = ⊎_elim (λ e. subst (λ k. k < length g) (sym (point-new i e)) f.there) (λ n. subst (λ k. k < length g) (sym (point-old i n)) (p.authored.there i (kept-before i n q))) (cases_eq i c)

  mark-after : (i : ℕ) → IsKept all i → mark_of after author point i ≡ next-mark i
  mark-after i q = last-old new g (author i) (point i) (point-there i q)

  own-new : (i : ℕ) → IsKept all i → Holds (next-mark i) (View after all i)
  own-new i q = ⊎_elim
      (λ e. subst (λ o. Holds o (View after all i)) (sym (mark-new i e)) (view-new i f.mark e (raising-there g f.mark f.raises) ∙ or_left (reaches g f.mark a) (list_any (λ m. reaches g f.mark m) (seen_orders g stores a None)) f.reaching))
      (λ n. subst (λ o. Holds o (View after all i)) (sym (mark-old i n)) (holds-inside (Raising g) (old-mark i) (View g stores i) (View after all i) (λ e h. p.ranked.marked i e (kept-before i n q) h) (λ x r h. view-old i x n q ∙ h) (p.authored.own i (kept-before i n q))))
      (cases_eq i c)

  made-there : (i : ℕ) → IsKept all i → (in_slot all i).order < suc (length g)
  made-there i q = ⊎_elim
      (λ e. subst (λ (other : StorePoints). other.order < suc (length g)) (sym (in-new i e)) (subst (λ k. k < suc (length g)) (sym order) (last-one (length g))))
      (λ n. subst (λ (other : StorePoints). other.order < suc (length g)) (sym (in-old i n q)) (sooner (in_slot stores i).order (length g) (p.authored.made i (kept-before i n q))))
      (cases_eq i c)

  author-in : (i : ℕ) → IsKept all i → author i < 5
  author-in i q = ⊎_elim (λ e. subst (λ u. u < 5) (sym (author-new i e)) f.thread) (λ n. subst (λ u. u < 5) (sym (author-old i n)) (p.authored.thread i (kept-before i n q))) (cases_eq i c)

  author-touched : (i : ℕ) → IsKept all i → touch_of (in_slot all i) (author i) ≡ Some (point i)
  author-touched i q = ⊎_elim
      (λ e. ap (λ (other : StorePoints). touch_of other (author i)) (in-new i e) ∙ ap (touch_of store) (author-new i e) ∙ touched ∙ ap Some (sym (point-new i e)))
      (λ n. ap (λ (other : StorePoints). touch_of other (author i)) (in-old i n q) ∙ ap (touch_of (in_slot stores i)) (author-old i n) ∙ p.authored.touch i (kept-before i n q) ∙ ap Some (sym (point-old i n)))
      (cases_eq i c)

  pub all-length : length all ≡ suc (length stores)
  all-length = length-append stores (store ∷ []) ∙ omega arith

  under-made : (number : ℕ) → suc (length stores) ≤ number + 7 → IsUnder g stores number → IsUnder after all number
  under-made number l u = record {
    low = u.low;
    high = u.high;
    low_kept = kept-after u.low low_old u.low_kept;
    high_kept = kept-after u.high high_old u.high_kept;
    is = ap (λ n. number_in_slot n u.low) all-length ∙ number-old (length stores) u.low u.low_kept.0 u.low_kept.1 low_old ∙ u.is;
    newer = subst (λ n. number < n) (sym (ap (λ n. number_in_slot n u.high) all-length ∙ number-old (length stores) u.high u.high_kept.0 u.high_kept.1 high_old)) u.newer;
    inner = inside-from after (in_slot all u.low).order (in_slot all u.high).order (λ x r h.
        view-old u.high x high_old (kept-after u.high high_old u.high_kept)
        ∙ inside-gives g (in_slot stores u.low).order (in_slot stores u.high).order x u.inner (sym (raising-quiet (a ∷ seen_orders g stores a None) g x) ∙ r) (sym (view-old u.low x low_old (kept-after u.low low_old u.low_kept)) ∙ h));
  }
    where
      low_old : u.low ≢ length stores % 7
      low_old = stays-old (length stores) u.low u.low_kept.0 u.low_kept.1 (let e = u.is in omega arith)

      high_old : u.high ≢ length stores % 7
      high_old = stays-old (length stores) u.high u.high_kept.0 u.high_kept.1 (let e = u.newer in omega arith)

      kept-after : (i : ℕ) → i ≢ length stores % 7 → IsKept stores i → IsKept all i
      kept-after i n q = (q.0, subst (λ m. i < m) (sym all-length) (sooner i (length stores) q.1))

  pub apart-made : AreApart D after all
  apart-made = record {
    author = author;
    point = point;
    authored = record {
      thread = author-in;
      there = λ i q. sooner (point i) (length g) (point-there i q);
      touch = author-touched;
      made = made-there;
      own = λ i q. subst (λ o. Holds o (View after all i)) (sym (mark-after i q)) (own-new i q);
    };
    ranked = ranked-same (Raising g) (Raising after) (IsKept all) (IsKept all) next-mark (mark_of after author point) (View after all) (View after all)
        (ranked-made (Raising g) (IsKept stores) (IsKept all) old-mark next-mark (View g stores) (View after all) c p.ranked makes)
        (record {
          kept = λ i q. q;
          marks = mark-after;
          stays = λ i x q h. h;
          stood = λ i x q h. h;
          raising = λ x r. raising-more new g x r;
          raised = λ i x q r h. sym (raising-quiet (a ∷ seen_orders g stores a None) g x) ∙ r;
        });
    passed = λ number d. let q = p.passed number d in record {
      made = subst (λ n. number < n) (sym all-length) (sooner number (length stores) q.made);
      under = λ l. let m : suc (length stores) ≤ number + 7 = subst (λ n. n ≤ number + 7) all-length l in under-made number m (q.under (omega arith));
    };
  }

-- the first store of an atomic
module _ (D : ℕ → Type 0) (none : (number : ℕ) → D number → ⊥) (g : Graph) (t a : ℕ) (store : StorePoints) (l : t < 5) (b : a < length g) (order : store.order ≡ length g) (touched : touch_of store t ≡ Some a) where
  abbrev first : Point
  first = record { after = a ∷ []; raises = None }

  abbrev made : Graph
  made = moved g (a ∷ [])

  only : (i : ℕ) → IsKept (store ∷ []) i → i ≡ 0
  only i q = lowest i q.1
    where
      lowest : (i : ℕ) → i < 1 → i ≡ 0
      lowest i m = omega arith

  at-first : (i : ℕ) → IsKept (store ∷ []) i → in_slot (store ∷ []) i ≡ store
  at-first i q = rw (only i q) (in_slot-new [] store)

  first-view : (i x : ℕ) → IsKept (store ∷ []) i → reaches g x a ≡ true → View made (store ∷ []) i x
  first-view i x q h = ap (λ (other : StorePoints). reaches made x other.order) (at-first i q) ∙ ap (λ m. reaches made x m) order ∙ reaches-new first g x ∙ or_right (x == length g) (reaches g x a || false) (or_left (reaches g x a) false h)

  first-mark : last_raised made t a ≡ last_raised g t a
  first-mark = last-old first g t a b

  first-own : (i : ℕ) → IsKept (store ∷ []) i → (o : Option ℕ) → last_raised g t a ≡ o → Holds o (View made (store ∷ []) i)
  first-own i q None e = tt
  first-own i q (Some x) e = first-view i x q (find-passes (λ i. reaches g i a) x (raised g t) e)

  pub apart-first : AreApart D made (store ∷ [])
  apart-first = record {
    author = λ i. t;
    point = λ i. a;
    authored = record {
      thread = λ i q. l;
      there = λ i q. sooner a (length g) b;
      touch = λ i q. ap (λ (other : StorePoints). touch_of other t) (at-first i q) ∙ touched;
      made = λ i q. subst (λ (other : StorePoints). other.order < suc (length g)) (sym (at-first i q)) (subst (λ k. k < suc (length g)) (sym order) (last-one (length g)));
      own = λ i q. subst (λ o. Holds o (View made (store ∷ []) i)) (sym first-mark) (first-own i q (last_raised g t a) refl);
    };
    ranked = record {
      marked = λ i e q h. last-raising made t a e l h;
      closed = λ i j q w h. subst (λ m. Inside (Raising made) (View made (store ∷ []) i) (View made (store ∷ []) m)) (only i q ∙ sym (only j w)) (λ x r y. y);
      apart = λ i j q w n h v. n (only i q ∙ sym (only j w));
    };
    passed = λ number d. absurd (none number d);
  }
