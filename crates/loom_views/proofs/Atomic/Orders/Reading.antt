-- Reading a store that may be read keeps the orders of the kept stores apart.
use Rattle.std.proofs.Common.{suc, ◌≡◌, ◌≢◌, ℕ, ◌+◌, ◌<◌, ◌≤◌, Bool, true, false, not, ◌||◌, ◌&&◌, List, [], ◌∷◌, length, map, min, get_or, refl, ap, sym, ◌∙◌, arith, subst, inl, inr, ⊎_elim, Option, Some, None}
use Rattle.std.specs.Prelude.{◌==◌, is_some, ◌⊎◌}
use Rattle.std.specs.List.{list_any, filter, AllByRecursion}
use Rattle.std.proofs.lemmas.Bool.{cases_Bool, cases_eq, eq-eqb, ne_eqb, or_cases, or_left, or_right, and_parts, and_from, false≢true, true≢false}
use Rattle.std.proofs.lemmas.List.{get_or-set_same, get_or-set_other, length-set}
use Rattle.loom_views.specs.Graph.{Point, Graph, threads, is_among, reaches, raised, inside}
use Rattle.loom_views.specs.Laws.Reaching.{is_raising}
use Rattle.loom_views.specs.Atomic.Slots.{slots, number_in_slot}
use Rattle.loom_views.specs.Atomic.History.{StorePoints, Ordered, in_slot, last_raised, touch_of, touch, is_seen, is_order_seen_from, seen_orders, graph_after_read, stores_after_read, order_raised, orders_raised, is_order_above, slots_above, after_read}
use Rattle.loom_views.proofs.Views.Reaching.{reaches-new, reaches-old}
use Rattle.loom_views.proofs.Views.Views.{raised-no, list_any-at}
use Rattle.loom_views.proofs.Views.Counting.{all-each}
use Rattle.loom_views.proofs.Atomic.Loops.{list_any-agree, any_upto-hit}
use Rattle.loom_views.proofs.Atomic.Shown.{all_slots, filtered}
use Rattle.loom_views.proofs.Atomic.SlotNumbers.{in_slot-set_same, in_slot-set_other}
use Rattle.loom_views.proofs.Atomic.Growth.{raised-length}
use Rattle.loom_views.proofs.Atomic.SlotSets.{has-below}
use Rattle.loom_views.proofs.Atomic.Orders.Sets.{Holds, Inside, Raises, ranked-read, ranked-same, holds-inside}
use Rattle.loom_views.proofs.Atomic.Orders.Points.{IsKept, View, Raising, mark_of, IsUnder, AreApart, Fresh, sooner, last-one, inside-from, inside-gives, raising-there, last-old}

-- each order point is there
abbrev pub Bounded : Ordered → Type 0
Bounded o = (j : ℕ) → IsKept o.stores j → (in_slot o.stores j).order < length o.graph

-- a store's order is raised
module _ (k : ℕ) (o : Ordered) (i : ℕ) (kept : IsKept o.stores i) where
  abbrev written : StorePoints
  written = record (in_slot o.stores i) { order = length o.graph }

  as_many : length (order_raised k o i).stores ≡ length o.stores
  as_many = length-set o.stores (number_in_slot (length o.stores) i) written

  still-kept : (j : ℕ) → IsKept o.stores j → IsKept (order_raised k o i).stores j
  still-kept j q = (q.0, subst (λ n. j < n) (sym as_many) q.1)

  was-kept : (j : ℕ) → IsKept (order_raised k o i).stores j → IsKept o.stores j
  was-kept j q = (q.0, subst (λ n. j < n) as_many q.1)

  -- what is in a slot then
  in-same : (j : ℕ) → j ≡ i → in_slot (order_raised k o i).stores j ≡ written
  in-same j e = rw e (in_slot-set_same o.stores written i kept.1)

  in-other : (j : ℕ) → j < 7 → j ≢ i → in_slot (order_raised k o i).stores j ≡ in_slot o.stores j
  in-other j l n = in_slot-set_other o.stores written i j kept.0 l n

  step-bounded : Bounded o → Bounded (order_raised k o i)
  step-bounded b j q = ⊎_elim
      (λ e. subst (λ (store : StorePoints). store.order < suc (length o.graph)) (sym (in-same j e)) (last-one (length o.graph)))
      (λ n. subst (λ (store : StorePoints). store.order < suc (length o.graph)) (sym (in-other j q.0 n)) (sooner (in_slot o.stores j).order (length o.graph) (b j (was-kept j q))))
      (cases_eq j i)

  step-touched : (j : ℕ) → IsKept o.stores j → (in_slot (order_raised k o i).stores j).touched ≡ (in_slot o.stores j).touched
  step-touched j q = ⊎_elim
      (λ e. ap (λ (store : StorePoints). store.touched) (in-same j e) ∙ ap (λ m. (in_slot o.stores m).touched) (sym e))
      (λ n. ap (λ (store : StorePoints). store.touched) (in-other j q.0 n))
      (cases_eq j i)

  step-view : Bounded o → (j x : ℕ) → IsKept o.stores j → x < length o.graph → reaches (order_raised k o i).graph x (in_slot (order_raised k o i).stores j).order ≡ (reaches o.graph x (in_slot o.stores j).order || ((i == j) && reaches o.graph x k))
  step-view b j x q l = ⊎_elim same other (cases_eq j i)
    where
      new : Point
      new = record { after = (in_slot o.stores i).order ∷ k ∷ []; raises = None }

      two : (c d : Bool) → (c || (d || false)) ≡ (c || d)
      two true d = refl
      two false true = refl
      two false false = refl

      one : (c : Bool) → c ≡ (c || false)
      one true = refl
      one false = refl

      same : j ≡ i → reaches (order_raised k o i).graph x (in_slot (order_raised k o i).stores j).order ≡ (reaches o.graph x (in_slot o.stores j).order || ((i == j) && reaches o.graph x k))
      same e = ap (λ (store : StorePoints). reaches (new ∷ o.graph) x store.order) (in-same j e) ∙ reaches-new new o.graph x
          ∙ ap (λ c. c || (reaches o.graph x (in_slot o.stores i).order || (reaches o.graph x k || false))) (ne_eqb x (length o.graph) (omega arith))
          ∙ two (reaches o.graph x (in_slot o.stores i).order) (reaches o.graph x k)
          ∙ ap (λ c. reaches o.graph x (in_slot o.stores i).order || (c && reaches o.graph x k)) (sym (eq-eqb i j (sym e)))
          ∙ ap (λ m. reaches o.graph x (in_slot o.stores m).order || ((i == j) && reaches o.graph x k)) (sym e)

      other : j ≢ i → reaches (order_raised k o i).graph x (in_slot (order_raised k o i).stores j).order ≡ (reaches o.graph x (in_slot o.stores j).order || ((i == j) && reaches o.graph x k))
      other n = ap (λ (store : StorePoints). reaches (new ∷ o.graph) x store.order) (in-other j q.0 n) ∙ reaches-old new o.graph x (in_slot o.stores j).order (b j q)
          ∙ one (reaches o.graph x (in_slot o.stores j).order)
          ∙ ap (λ c. reaches o.graph x (in_slot o.stores j).order || (c && reaches o.graph x k)) (sym (ne_eqb i j (λ e. n (sym e))))

-- the orders in several slots are raised
all-kept : (k : ℕ) (o : Ordered) (i : ℕ) → IsKept o.stores i → (is : List ℕ) → AllByRecursion (IsKept o.stores) is → AllByRecursion (IsKept (order_raised k o i).stores) is
all-kept k o i q [] h = tt
all-kept k o i q (j ∷ is) h = (still-kept k o i q j h.0, all-kept k o i q is h.1)

pub raised-kept : (k : ℕ) (o : Ordered) (is : List ℕ) → AllByRecursion (IsKept o.stores) is → (j : ℕ) → IsKept (orders_raised k o is).stores j → IsKept o.stores j
raised-kept k o [] h j q = q
raised-kept k o (i ∷ is) h j q = was-kept k o i h.0 j (raised-kept k (order_raised k o i) is (all-kept k o i h.0 is h.1) j q)

pub raised-bounded : (k : ℕ) (o : Ordered) (is : List ℕ) → AllByRecursion (IsKept o.stores) is → Bounded o → Bounded (orders_raised k o is)
raised-bounded k o [] h b = b
raised-bounded k o (i ∷ is) h b = raised-bounded k (order_raised k o i) is (all-kept k o i h.0 is h.1) (step-bounded k o i h.0 b)

pub raised-touched : (k : ℕ) (o : Ordered) (is : List ℕ) → AllByRecursion (IsKept o.stores) is → (j : ℕ) → IsKept o.stores j → (in_slot (orders_raised k o is).stores j).touched ≡ (in_slot o.stores j).touched
raised-touched k o [] h j q = refl
raised-touched k o (i ∷ is) h j q = raised-touched k (order_raised k o i) is (all-kept k o i h.0 is h.1) j (still-kept k o i h.0 j q) ∙ step-touched k o i h.0 j q

pub raised-view : (k : ℕ) (o : Ordered) (is : List ℕ) → AllByRecursion (IsKept o.stores) is → Bounded o → k < length o.graph → (j x : ℕ) → IsKept o.stores j → x < length o.graph → reaches (orders_raised k o is).graph x (in_slot (orders_raised k o is).stores j).order ≡ (reaches o.graph x (in_slot o.stores j).order || (is_among j is && reaches o.graph x k))
raised-view k o [] h b m j x q l = one (reaches o.graph x (in_slot o.stores j).order)
  where
    one : (c : Bool) → c ≡ (c || false)
    one true = refl
    one false = refl
raised-view k o (i ∷ is) h b m j x q l =
    let next = order_raised k o i in
    raised-view k next is (all-kept k o i h.0 is h.1) (step-bounded k o i h.0 b) (sooner k (length o.graph) m) j x (still-kept k o i h.0 j q) (sooner x (length o.graph) l)
    ∙ ap (λ c. c || (is_among j is && reaches next.graph x k)) (step-view k o i h.0 b j x q l)
    ∙ ap (λ c. (reaches o.graph x (in_slot o.stores j).order || ((i == j) && reaches o.graph x k)) || (is_among j is && c)) (reaches-old (record { after = (in_slot o.stores i).order ∷ k ∷ []; raises = None }) o.graph x k m)
    ∙ regroup (reaches o.graph x (in_slot o.stores j).order) (i == j) (is_among j is) (reaches o.graph x k)
  where
    regroup : (a e f c : Bool) → ((a || (e && c)) || (f && c)) ≡ (a || ((e || f) && c))
    regroup true e f c = refl
    regroup false true f true = refl
    regroup false true true false = refl
    regroup false true false false = refl
    regroup false false f c = refl

-- no point that raises is added
pub raised-raised : (k : ℕ) (o : Ordered) (is : List ℕ) (t : ℕ) → raised (orders_raised k o is).graph t ≡ raised o.graph t
raised-raised k o [] t = refl
raised-raised k o (i ∷ is) t = raised-raised k (order_raised k o i) is t ∙ raised-no (record { after = (in_slot o.stores i).order ∷ k ∷ []; raises = None }) o.graph t refl

pub raised-last : (k : ℕ) (o : Ordered) (is : List ℕ) (t m : ℕ) → m < length o.graph → last_raised (orders_raised k o is).graph t m ≡ last_raised o.graph t m
raised-last k o [] t m l = refl
raised-last k o (i ∷ is) t m l = raised-last k (order_raised k o i) is t m (sooner m (length o.graph) l) ∙ last-old (record { after = (in_slot o.stores i).order ∷ k ∷ []; raises = None }) o.graph t m l

pub raised-longer : (k : ℕ) (o : Ordered) (is : List ℕ) (m : ℕ) → m < length o.graph → m < length (orders_raised k o is).graph
raised-longer k o [] m l = l
raised-longer k o (i ∷ is) m l = raised-longer k (order_raised k o i) is m (sooner m (length o.graph) l)

-- which orders of seen stores a point reaches
any-mapped : (p q : ℕ → Bool) (f : ℕ → ℕ) (xs : List ℕ) → list_any p (map f (filter q xs)) ≡ list_any (λ i. q i && p (f i)) xs
any-mapped p q f [] = refl
any-mapped p q f (x ∷ xs) = ⊎_elim
    (λ e. rw e (ap (λ b. p (f x) || b) (any-mapped p q f xs)))
    (λ e. rw e (any-mapped p q f xs))
    (cases_Bool (q x))

pub seen-in : (g : Graph) (stores : List StorePoints) (a : ℕ) (left_out : Option ℕ) (k x : ℕ) → IsKept stores k → is_order_seen_from g stores a left_out k ≡ true → View g stores k x → list_any (λ m. reaches g x m) (seen_orders g stores a left_out) ≡ true
seen-in g stores a left_out k x q s v =
    any-mapped (λ m. reaches g x m) (is_order_seen_from g stores a left_out) (λ i. (in_slot stores i).order) (slots (length stores))
    ∙ any_upto-hit (λ i. is_order_seen_from g stores a left_out i && reaches g x (in_slot stores i).order) (min (length stores) 7) k (let u = q.0 in let w = q.1 in omega arith) (and_from (is_order_seen_from g stores a left_out k) (reaches g x (in_slot stores k).order) s v)

pub seen-out : (g : Graph) (stores : List StorePoints) (a : ℕ) (left_out : Option ℕ) (x : ℕ) → list_any (λ m. reaches g x m) (seen_orders g stores a left_out) ≡ true → (k : ℕ) × IsKept stores k × (is_order_seen_from g stores a left_out k ≡ true) × View g stores k x
seen-out g stores a left_out x e =
    let r = list_any-at (λ i. is_order_seen_from g stores a left_out i && reaches g x (in_slot stores i).order) (slots (length stores))
    (sym (any-mapped (λ m. reaches g x m) (is_order_seen_from g stores a left_out) (λ i. (in_slot stores i).order) (slots (length stores))) ∙ e)
    (IsKept stores) (all_slots (IsKept stores) (length stores) (λ i u w. (u, w))) in
    let p = and_parts (is_order_seen_from g stores a left_out r.0) (reaches g x (in_slot stores r.0).order) r.1 in
    (r.0, r.2, p.0, p.1)

-- a touch stays the first
pub touch-stays : (ts : List (Option ℕ)) (t a u k : ℕ) → get_or ts u None ≡ Some k → get_or (touch ts t a) u None ≡ Some k
touch-stays ts t a u k e = ⊎_elim
    (λ b. rw b e)
    (λ b. rw b (get_or-set_other ts t u (Some a) None (λ d. true≢false (sym (ap is_some e) ∙ ap (λ m. is_some (get_or ts m None)) d ∙ b)) ∙ e))
    (cases_Bool (is_some (get_or ts t None)))

first-touch : (ts : List (Option ℕ)) (t a : ℕ) → t < length ts → get_or ts t None ≡ None → get_or (touch ts t a) t None ≡ Some a
first-touch ts t a l e = let b : is_some (get_or ts t None) ≡ false = ap is_some e in rw b (get_or-set_same ts t (Some a) None l)

-- the store in a slot is read by thread t from point a, and no other seen store is above it
module _ (D : ℕ → Type 0) (g : Graph) (t : ℕ) (stores : List StorePoints) (a slot : ℕ) (kept : IsKept stores slot) (p : AreApart D g stores)
    (free : (k : ℕ) → IsKept stores k → k ≢ slot → is_seen g (in_slot stores k) a ≡ true → inside g (in_slot stores slot).order (in_slot stores k).order ≡ true → inside g (in_slot stores k).order (in_slot stores slot).order ≡ true) where
  abbrev read : StorePoints
  read = in_slot stores slot

  abbrev touched : StorePoints
  touched = record read { order = length g; touched = touch read.touched t a }

  abbrev first : Ordered
  first = record { graph = graph_after_read g stores a slot; stores = stores_after_read g t stores a slot }

  abbrev last : Ordered
  last = after_read g t stores a slot

  abbrev new : Point
  new = record { after = read.order ∷ seen_orders g stores a (Some slot); raises = None }

  -- the stores that are read along
  abbrev Seen : ℕ → Type 0
  Seen k = IsKept stores k × (k ≢ slot) × (is_seen g (in_slot stores k) a ≡ true)

  abbrev up : ℕ → Bool
  up j = inside g read.order (in_slot stores j).order

  abbrev taken : ℕ → Bool
  taken x = reaches g x read.order || list_any (λ m. reaches g x m) (seen_orders g stores a (Some slot))

  first-length : length first.stores ≡ length stores
  first-length = length-set stores (number_in_slot (length stores) slot) touched

  first-kept : (j : ℕ) → IsKept stores j → IsKept first.stores j
  first-kept j q = (q.0, subst (λ n. j < n) (sym first-length) q.1)

  kept-first : (j : ℕ) → IsKept first.stores j → IsKept stores j
  kept-first j q = (q.0, subst (λ n. j < n) first-length q.1)

  first-same : (j : ℕ) → j ≡ slot → in_slot first.stores j ≡ touched
  first-same j e = rw e (in_slot-set_same stores touched slot kept.1)

  first-other : (j : ℕ) → j < 7 → j ≢ slot → in_slot first.stores j ≡ in_slot stores j
  first-other j l n = in_slot-set_other stores touched slot j kept.0 l n

  first-bounded : Bounded first
  first-bounded j q = ⊎_elim
      (λ e. subst (λ (store : StorePoints). store.order < suc (length g)) (sym (first-same j e)) (last-one (length g)))
      (λ n. subst (λ (store : StorePoints). store.order < suc (length g)) (sym (first-other j q.0 n)) (sooner (in_slot stores j).order (length g) (p.authored.made j (kept-first j q))))
      (cases_eq j slot)

  above : AllByRecursion (IsKept first.stores) (slots_above g stores slot)
  above = filtered (IsKept first.stores) (is_order_above g stores slot) (slots (length stores)) (all_slots (IsKept first.stores) (length stores) (λ i u w. first-kept i (u, w)))

  last-kept : (j : ℕ) → IsKept last.stores j → IsKept stores j
  last-kept j q = kept-first j (raised-kept (length g) first (slots_above g stores slot) above j q)

  up-itself : up slot ≡ true
  up-itself = inside-from g read.order read.order (λ x r h. h)

  new-view : (x : ℕ) → x < length g → reaches first.graph x (length g) ≡ taken x
  new-view x l = reaches-new new g x ∙ ap (λ c. c || taken x) (ne_eqb x (length g) (omega arith))

  is-above : (j : ℕ) → IsKept stores j → is_among j (slots_above g stores slot) ≡ (not (j == slot) && up j)
  is-above j q = has-below (is_order_above g stores slot) (min (length stores) 7) j (let u = q.0 in let w = q.1 in omega arith)

  read-view : (j x : ℕ) → IsKept stores j → x < length g → reaches last.graph x (in_slot last.stores j).order ≡ (reaches g x (in_slot stores j).order || (up j && taken x))
  read-view j x q l =
      raised-view (length g) first (slots_above g stores slot) above first-bounded (last-one (length g)) j x (first-kept j q) (sooner x (length g) l)
      ∙ ap (λ c. reaches first.graph x (in_slot first.stores j).order || (is_among j (slots_above g stores slot) && c)) (new-view x l)
      ∙ ap (λ c. reaches first.graph x (in_slot first.stores j).order || (c && taken x)) (is-above j q)
      ∙ ⊎_elim same other (cases_eq j slot)
    where
      at_slot : (c d : Bool) → ((c || d) || (false && (c || d))) ≡ (c || (true && (c || d)))
      at_slot true d = refl
      at_slot false true = refl
      at_slot false false = refl

      same : j ≡ slot → (reaches first.graph x (in_slot first.stores j).order || ((not (j == slot) && up j) && taken x)) ≡ (reaches g x (in_slot stores j).order || (up j && taken x))
      same e =
          ap (λ (store : StorePoints). reaches first.graph x store.order || ((not (j == slot) && up j) && taken x)) (first-same j e)
          ∙ ap (λ c. c || ((not (j == slot) && up j) && taken x)) (new-view x l)
          ∙ ap (λ c. taken x || ((not c && up j) && taken x)) (eq-eqb j slot e)
          ∙ at_slot (reaches g x read.order) (list_any (λ m. reaches g x m) (seen_orders g stores a (Some slot)))
          ∙ ap (λ c. reaches g x read.order || (c && taken x)) (sym up-itself)
          ∙ ap (λ m. reaches g x (in_slot stores m).order || (up m && taken x)) (sym e)

      other : j ≢ slot → (reaches first.graph x (in_slot first.stores j).order || ((not (j == slot) && up j) && taken x)) ≡ (reaches g x (in_slot stores j).order || (up j && taken x))
      other n =
          ap (λ (store : StorePoints). reaches first.graph x store.order || ((not (j == slot) && up j) && taken x)) (first-other j q.0 n)
          ∙ ap (λ c. c || ((not (j == slot) && up j) && taken x)) (reaches-old new g x (in_slot stores j).order (p.authored.made j q))
          ∙ ap (λ c. reaches g x (in_slot stores j).order || ((not c && up j) && taken x)) (ne_eqb j slot n)

  -- by what the read raises
  seen-left : (k : ℕ) → Seen k → is_order_seen_from g stores a (Some slot) k ≡ true
  seen-left k s = and_from (not (k == slot)) (is_seen g (in_slot stores k) a) (ap not (ne_eqb k slot s.1)) s.2

  left-seen : (k : ℕ) → IsKept stores k → is_order_seen_from g stores a (Some slot) k ≡ true → Seen k
  left-seen k q e =
      let b = and_parts (not (k == slot)) (is_seen g (in_slot stores k) a) e in
      (q, λ d. false≢true (sym (ap not (eq-eqb k slot d)) ∙ b.0), b.1)

  abbrev old-mark : ℕ → Option ℕ
  old-mark = mark_of g p.author p.point

  -- an order that contains the read store's isn't inside a seen one
  not-inside : (i k : ℕ) → IsKept stores i → Seen k → up i ≡ true → Inside (Raising g) (View g stores i) (View g stores k) → ⊥
  not-inside i k q s u h =
      let inner : inside g read.order (in_slot stores k).order ≡ true = inside-from g read.order (in_slot stores k).order (λ x r y. h x r (inside-gives g read.order (in_slot stores i).order x u r y)) in
      let outer : inside g (in_slot stores k).order read.order ≡ true = free k s.0 s.1 s.2 inner in
      p.ranked.apart slot k kept s.0 (λ e. s.1 (sym e))
      (holds-inside (Raising g) (old-mark slot) (View g stores slot) (View g stores k) (λ e f. p.ranked.marked slot e kept f) (λ x r y. inside-gives g read.order (in_slot stores k).order x inner r y) (p.authored.own slot kept))
      (holds-inside (Raising g) (old-mark k) (View g stores k) (View g stores slot) (λ e f. p.ranked.marked k e s.0 f) (λ x r y. inside-gives g (in_slot stores k).order read.order x outer r y) (p.authored.own k s.0))

  raises : Raises (Raising g) (IsKept stores) (View g stores) (View last.graph last.stores) Seen up
  raises = record {
    kept = λ k s. s.0;
    upward = λ i j q w u h. inside-from g read.order (in_slot stores j).order (λ x r y. h x r (inside-gives g read.order (in_slot stores i).order x u r y));
    free = not-inside;
    still = λ j x q r u h. still_view (reaches g x (in_slot stores j).order) (up j) (taken x) u (sym (read-view j x q (raising-there g x r)) ∙ h);
    more = λ j x q r h. read-view j x q (raising-there g x r) ∙ or_left (reaches g x (in_slot stores j).order) (up j && taken x) h;
    takes = λ j k x q r u s h. read-view j x q (raising-there g x r) ∙ or_right (reaches g x (in_slot stores j).order) (up j && taken x) (and_from (up j) (taken x) u (or_right (reaches g x read.order) (list_any (λ m. reaches g x m) (seen_orders g stores a (Some slot))) (seen-in g stores a (Some slot) k x s.0 (seen-left k s) h)));
    from = λ j x q r u h. ⊎_elim (λ v. inl v) (λ v. came j x r u (and_parts (up j) (taken x) v).1) (or_cases (reaches g x (in_slot stores j).order) (up j && taken x) (sym (read-view j x q (raising-there g x r)) ∙ h));
  }
    where
      still_view : (c u d : Bool) → u ≡ false → (c || (u && d)) ≡ true → c ≡ true
      still_view true u d e h = refl
      still_view false true d e h = absurd (true≢false e)
      still_view false false d e h = h

      came : (j x : ℕ) → Raising g x → up j ≡ true → taken x ≡ true → View g stores j x ⊎ ((k : ℕ) × Seen k × View g stores k x)
      came j x r u h = ⊎_elim
          (λ v. inl (inside-gives g read.order (in_slot stores j).order x u r v))
          (λ v. let s = seen-out g stores a (Some slot) x v in inr (s.0, left-seen s.0 s.1 s.2, s.3))
          (or_cases (reaches g x read.order) (list_any (λ m. reaches g x m) (seen_orders g stores a (Some slot))) h)

  -- in the graph after the read
  last-mark : (i : ℕ) → IsKept stores i → mark_of last.graph p.author p.point i ≡ old-mark i
  last-mark i q = raised-last (length g) first (slots_above g stores slot) (p.author i) (p.point i) (sooner (p.point i) (length g) (p.authored.there i q)) ∙ last-old new g (p.author i) (p.point i) (p.authored.there i q)

  last-raises : (x : ℕ) → is_raising last.graph x ≡ is_raising g x
  last-raises x = list_any-agree (λ u. is_among x (raised last.graph u)) (λ u. is_among x (raised g u)) threads (all-each (λ u. is_among x (raised last.graph u) ≡ is_among x (raised g u)) threads (λ u. ap (is_among x) (raised-raised (length g) first (slots_above g stores slot) u ∙ raised-no new g u refl)))

  last-touch : (i : ℕ) → IsKept stores i → (u k : ℕ) → touch_of (in_slot stores i) u ≡ Some k → touch_of (in_slot last.stores i) u ≡ Some k
  last-touch i q u k e = ap (λ ts. get_or ts u None) (raised-touched (length g) first (slots_above g stores slot) above i (first-kept i q)) ∙ ⊎_elim same other (cases_eq i slot)
    where
      same : i ≡ slot → touch_of (in_slot first.stores i) u ≡ Some k
      same d = ap (λ (store : StorePoints). touch_of store u) (first-same i d) ∙ touch-stays read.touched t a u k (ap (λ m. touch_of (in_slot stores m) u) (sym d) ∙ e)

      other : i ≢ slot → touch_of (in_slot first.stores i) u ≡ Some k
      other n = ap (λ (store : StorePoints). touch_of store u) (first-other i q.0 n) ∙ e

  last-length : length last.stores ≡ length stores
  last-length = raised-length (length g) first (slots_above g stores slot) ∙ first-length

  kept-last : (j : ℕ) → IsKept stores j → IsKept last.stores j
  kept-last j q = (q.0, subst (λ n. j < n) (sym last-length) q.1)

  -- an order that was inside another stays so
  inside-last : (i j x : ℕ) → IsKept stores i → IsKept stores j → inside g (in_slot stores i).order (in_slot stores j).order ≡ true → Raising g x → View last.graph last.stores i x → View last.graph last.stores j x
  inside-last i j x q w e r h = ⊎_elim
      (λ u. ⊎_elim
      (λ v. raises.more j x w r (inside-gives g (in_slot stores i).order (in_slot stores j).order x e r v))
      (λ s. raises.takes j s.0 x w r (raises.upward i j q w u (λ y m v. inside-gives g (in_slot stores i).order (in_slot stores j).order y e m v)) s.1 s.2)
      (raises.from i x q r u h))
      (λ u. raises.more j x w r (inside-gives g (in_slot stores i).order (in_slot stores j).order x e r (raises.still i x q r u h)))
      (cases_Bool (up i))

  under-last : (number : ℕ) → IsUnder g stores number → IsUnder last.graph last.stores number
  under-last number u = record {
    low = u.low;
    high = u.high;
    low_kept = kept-last u.low u.low_kept;
    high_kept = kept-last u.high u.high_kept;
    is = ap (λ n. number_in_slot n u.low) last-length ∙ u.is;
    newer = subst (λ n. number < number_in_slot n u.high) (sym last-length) u.newer;
    inner = inside-from last.graph (in_slot last.stores u.low).order (in_slot last.stores u.high).order (λ x r h. inside-last u.low u.high x u.low_kept u.high_kept u.inner (sym (last-raises x) ∙ r) h);
  }

  pub apart-read : AreApart D last.graph last.stores
  apart-read = record {
    author = p.author;
    point = p.point;
    authored = record {
      thread = λ i q. p.authored.thread i (last-kept i q);
      there = λ i q. raised-longer (length g) first (slots_above g stores slot) (p.point i) (sooner (p.point i) (length g) (p.authored.there i (last-kept i q)));
      touch = λ i q. last-touch i (last-kept i q) (p.author i) (p.point i) (p.authored.touch i (last-kept i q));
      made = raised-bounded (length g) first (slots_above g stores slot) above first-bounded;
      own = λ i q. subst (λ o. Holds o (View last.graph last.stores i)) (sym (last-mark i (last-kept i q)))
          (holds-inside (Raising g) (old-mark i) (View g stores i) (View last.graph last.stores i) (λ e f. p.ranked.marked i e (last-kept i q) f) (λ x r h. raises.more i x (last-kept i q) r h) (p.authored.own i (last-kept i q)));
    };
    ranked = ranked-same (Raising g) (Raising last.graph) (IsKept stores) (IsKept last.stores) old-mark (mark_of last.graph p.author p.point) (View last.graph last.stores) (View last.graph last.stores)
        (ranked-read (Raising g) (IsKept stores) old-mark (View g stores) (View last.graph last.stores) Seen up p.ranked raises)
        (record {
          kept = last-kept;
          marks = λ i q. last-mark i (last-kept i q);
          stays = λ i x q h. h;
          stood = λ i x q h. h;
          raising = λ x r. last-raises x ∙ r;
          raised = λ i x q r h. sym (last-raises x) ∙ r;
        });
    passed = λ number d. let q = p.passed number d in record {
      made = subst (λ n. number < n) (sym last-length) q.made;
      under = λ l. under-last number (q.under (subst (λ n. n ≤ number + 7) last-length l));
    };
  }

  -- a point that is in no order is in none after the read
  pub fresh-read : (e : ℕ) → Raising g e → ((i : ℕ) → IsKept stores i → View g stores i e → ⊥) → (i : ℕ) → IsKept last.stores i → View last.graph last.stores i e → ⊥
  fresh-read e r n i q h = ⊎_elim
      (λ v. n i (last-kept i q) v)
      (λ v. ⊎_elim (λ w. n slot kept w) (λ w. let s = seen-out g stores a (Some slot) e w in n s.0 s.1 s.3) (or_cases (reaches g e read.order) (list_any (λ m. reaches g e m) (seen_orders g stores a (Some slot))) (and_parts (up i) (taken e) v).1))
      (or_cases (reaches g e (in_slot stores i).order) (up i && taken e) (sym (read-view i e (last-kept i q) (raising-there g e r)) ∙ h))

  -- the thread has touched the store
  pub read-touched : t < length read.touched → (at : ℕ) × (touch_of (in_slot last.stores slot) t ≡ Some at)
  read-touched l = by (get_or read.touched t None) refl
    where
      stood : touch_of (in_slot last.stores slot) t ≡ get_or (touch read.touched t a) t None
      stood = ap (λ ts. get_or ts t None) (raised-touched (length g) first (slots_above g stores slot) above slot (first-kept slot kept)) ∙ ap (λ (store : StorePoints). touch_of store t) (first-same slot refl)

      by : (o : Option ℕ) → get_or read.touched t None ≡ o → (at : ℕ) × (touch_of (in_slot last.stores slot) t ≡ Some at)
      by (Some k) e = (k, stood ∙ touch-stays read.touched t a t k e)
      by None e = (a, stood ∙ first-touch read.touched t a l e)

  raised-reaches : (k : ℕ) (o : Ordered) (is : List ℕ) (x m : ℕ) → m < length o.graph → reaches (orders_raised k o is).graph x m ≡ reaches o.graph x m
  raised-reaches k o [] x m l = refl
  raised-reaches k o (i ∷ is) x m l = raised-reaches k (order_raised k o i) is x m (sooner m (length o.graph) l) ∙ reaches-old (record { after = (in_slot o.stores i).order ∷ k ∷ []; raises = None }) o.graph x m l

  -- a thread that has raised has still just raised
  pub fresh-kept : (u b : ℕ) → Fresh g stores u b → Fresh last.graph last.stores u b
  fresh-kept u b f = record {
    thread = f.thread;
    there = raised-longer (length g) first (slots_above g stores slot) b (sooner b (length g) f.there);
    mark = f.mark;
    older = f.older;
    is = raised-raised (length g) first (slots_above g stores slot) u ∙ raised-no new g u refl ∙ f.is;
    raises = last-raises f.mark ∙ f.raises;
    reaching = raised-reaches (length g) first (slots_above g stores slot) f.mark b (sooner b (length g) f.there) ∙ reaches-old new g f.mark b f.there ∙ f.reaching;
    new = fresh-read f.mark f.raises f.new;
  }
