-- The stores of an atomic: what is read, what may be read, and what reading and storing leave, where the same is seen.
use Rattle.std.proofs.Common.{zero, suc, ◌≡◌, ℕ, ◌+◌, ◌<◌, ◌≤◌, Bool, true, false, not, cond, ◌||◌, ◌&&◌, List, [], ◌∷◌, ◌++◌, length, map, set, get_or, refl, ap, sym, ◌∙◌, arith, subst, ⊎_elim, Option, Some, None}
use Rattle.std.specs.Prelude.{◌==◌, ◌-◌, drop, is_some, slice_get, slice_index_or, if◌then◌else◌}
use Rattle.std.specs.List.{filter, flat_map}
use Rattle.std.specs.declared.sync.atomic.Ordering.{Ordering}
use Rattle.std.proofs.lemmas.Bool.{cases_eq, cases_lt}
use Rattle.std.proofs.lemmas.List.{length-set, length_push, get_or-set_same, get_or-set_other, get_or_append_left, get_or_push, get_or_past, set_past}
use Rattle.loom_views.specs.declared.rt.atomic.reader.Reader.{Reader}
use Rattle.loom_views.specs.declared.rt.atomic.reader.Reader.TheVariants.{Load, Update}
use Rattle.loom_views.specs.Graph.{Graph, inside, moved}
use Rattle.loom_views.specs.Orderings.{is_release, is_seq_cst}
use Rattle.loom_views.specs.ThreadViews.{ThreadPoints, with_present, graph_after_acquire, graph_after_store}
use Rattle.loom_views.specs.Atomic.Slots.{slots, is_left_out, number_in_slot, readable_slots, has_equal_orders}
use Rattle.loom_views.specs.Atomic.Touches.{untouched}
use Rattle.loom_views.specs.Atomic.History.{StorePoints, blank, in_slot, is_touch_seen, is_touch_before, touch_of, is_seen, is_below, has_same_order, drops, drops_in_slot, has_same_order_in_slot, readable, fails_by_orders, is_order_seen_from, seen_orders, touch, graph_after_read, stores_after_read, Ordered, order_raised, orders_raised, is_order_above, slots_above, after_read, graph_with_order, graph_with_start, graph_after_make, stores_after_make, with_newest}
use Rattle.loom_views.specs.Atomic.Fences.{Standing, after_stores, kept_stores}
use Rattle.loom_views.specs.Views.{Place, Meets, Keeps, Records, stores_at}
use Rattle.loom_views.proofs.Atomic.SlotNumbers.{number-late}
use Rattle.loom_views.specs.InOrder.{IsRising}
use Rattle.loom_views.proofs.Sight.Fronts.{SameFront, SameTouch, no_touch, both_touch, Later, BothQuiet, both_quiet_then, both_quiet_step, step, appended, inside_same, touch_seen_same, touch_before_same, five_any}
use Rattle.loom_views.proofs.Sight.Shapes.{Both, no_one, both, SameThread, SameStore, SameStores, SamePlace, same_point, same_atomic, same_cell, front_later, thread_later, store_later, stores_later}
use Rattle.loom_views.proofs.Sight.Moves.{made, stored, thread_moved}

-- ---- lists

filter_same : (p q : ℕ → Bool) (xs : List ℕ) → ((x : ℕ) → p x ≡ q x) → filter p xs ≡ filter q xs
filter_same p q [] h = refl
filter_same p q (x ∷ xs) h = ap (λ b. cond b (x ∷ filter p xs) (filter p xs)) (h x) ∙ ap (λ ys. cond (q x) (x ∷ ys) ys) (filter_same p q xs h)

-- a slot's store is one of the last seven, or there is none
late : (n slot : ℕ) → n ≤ number_in_slot n slot + 7
unfolding number_in_slot
late n slot = ⊎_elim (number-late n slot) (λ l. omega arith) (cases_lt slot n)

module _ (R : ℕ → ℕ → ℕ → Type 0) (rising : IsRising R) where
  module _ (g h : Graph) where
    -- ---- writing stores

    pub store_set : (xs ys : List StorePoints) (k : ℕ) (x y : StorePoints) → SameStores R g h xs ys → SameStore R g h x y → SameStores R g h (set xs k x) (set ys k y)
    store_set xs ys k x y s r = record {
      count = length-set xs k x ∙ s.count ∙ sym (length-set ys k y);
      each = λ n l. at n (let e = length-set xs k x in omega arith);
    }
      where
        at : (n : ℕ) → length xs ≤ n + 7 → SameStore R g h (get_or (set xs k x) n blank) (get_or (set ys k y) n blank)
        at n l = ⊎_elim
            (λ (e : n ≡ k). ⊎_elim
            (λ (i : k < length xs). subst (λ m. SameStore R g h (get_or (set xs k x) m blank) (get_or (set ys k y) m blank)) (sym e) (rw (get_or-set_same xs k x blank i, get_or-set_same ys k y blank (let c = s.count in omega arith)) r))
            (λ (i : length xs ≤ k). rw (set_past xs k x i, set_past ys k y (let c = s.count in omega arith)) (s.each n l))
            (cases_lt k (length xs)))
            (λ (e : n ≡ k → ⊥). rw (get_or-set_other xs k n x blank e, get_or-set_other ys k n y blank e) (s.each n l))
            (cases_eq n k)

    pub store_push : (xs ys : List StorePoints) (x y : StorePoints) → SameStores R g h xs ys → SameStore R g h x y → SameStores R g h (xs ++ x ∷ []) (ys ++ y ∷ [])
    store_push xs ys x y s r = record {
      count = length_push xs x ∙ ap (λ n. n + 1) s.count ∙ sym (length_push ys y);
      each = λ n l. at n (let e = length_push xs x in omega arith);
    }
      where
        at : (n : ℕ) → length xs ≤ n + 7 → SameStore R g h (get_or (xs ++ x ∷ []) n blank) (get_or (ys ++ y ∷ []) n blank)
        at n l = ⊎_elim
            (λ (e : n ≡ length xs). rw (get_or_push xs x blank n (sym e), get_or_push ys y blank n (let c = s.count in omega arith)) r)
            (λ (e : n ≡ length xs → ⊥). ⊎_elim
            (λ (i : n < length xs). rw (get_or_append_left xs (x ∷ []) blank n i, get_or_append_left ys (y ∷ []) blank n (let c = s.count in omega arith)) (s.each n l))
            (λ (i : length xs ≤ n). let a = length_push xs x in let b = length_push ys y in let c = s.count in
            rw (get_or_past (xs ++ x ∷ []) n blank (omega arith), get_or_past (ys ++ y ∷ []) n blank (omega arith))
            (subst (λ z. SameStore R g h blank z) (get_or_past ys n blank (omega arith)) (subst (λ z. SameStore R g h z (get_or ys n blank)) (get_or_past xs n blank i) (s.each n l))))
            (cases_lt n (length xs)))
            (cases_eq n (length xs))

    pub none_stored : SameFront R g h (0 ∷ []) (0 ∷ []) → SameStores R g h [] []
    none_stored first = record { count = refl; each = λ n l. record { value = refl; order = first; sync = first; seq_cst = refl; touches = refl; touched = λ t i. no_touch } }

    -- ---- reading them

    pub in_slot_same : (xs ys : List StorePoints) → SameStores R g h xs ys → (i : ℕ) → SameStore R g h (in_slot xs i) (in_slot ys i)
    in_slot_same xs ys s i = subst (λ m. SameStore R g h (in_slot xs i) (get_or ys (number_in_slot m i) blank)) s.count (s.each (number_in_slot (length xs) i) (late (length xs) i))

    -- the store in a slot is written
    pub slot_set_same : (xs ys : List StorePoints) (i : ℕ) (x y : StorePoints) → SameStores R g h xs ys → SameStore R g h x y → SameStores R g h (set xs (number_in_slot (length xs) i) x) (set ys (number_in_slot (length ys) i) y)
    slot_set_same xs ys i x y s r = subst (λ m. SameStores R g h (set xs (number_in_slot (length xs) i) x) (set ys (number_in_slot m i) y)) s.count (store_set xs ys (number_in_slot (length xs) i) x y s r)

    pub newest_same : (xs ys : List StorePoints) → SameStores R g h xs ys → SameStore R g h (get_or xs (length xs - 1) blank) (get_or ys (length ys - 1) blank)
    newest_same xs ys s = subst (λ m. SameStore R g h (get_or xs (length xs - 1) blank) (get_or ys (m - 1) blank)) s.count (s.each (length xs - 1) (omega arith))

    with_value : (a b : StorePoints) (value : ℕ) → SameStore R g h a b → SameStore R g h (record a { value = value }) (record b { value = value })
    with_value a b value s = record { value = refl; order = s.order; sync = s.sync; seq_cst = s.seq_cst; touches = s.touches; touched = s.touched }

    pub with_newest_same : (xs ys : List StorePoints) (value : ℕ) → SameStores R g h xs ys → SameStores R g h (with_newest xs value) (with_newest ys value)
    with_newest_same xs ys value s =
        subst (λ m. SameStores R g h (with_newest xs value) (set ys (m - 1) (record (get_or ys (length ys - 1) blank) { value = value }))) s.count
        (store_set xs ys (length xs - 1) (record (get_or xs (length xs - 1) blank) { value = value }) (record (get_or ys (length ys - 1) blank) { value = value }) s (with_value (get_or xs (length xs - 1) blank) (get_or ys (length ys - 1) blank) value (newest_same xs ys s)))

    pub is_seen_same : (x y : StorePoints) (a b : ℕ) → SameStore R g h x y → SameFront R g h (a ∷ []) (b ∷ []) → is_seen g x a ≡ is_seen h y b
    unfolding is_seen
    is_seen_same x y a b s f = five_any (λ t. is_touch_seen g t (touch_of x t) a) (λ t. is_touch_seen h t (touch_of y t) b) (λ t l. touch_seen_same R rising g h t (touch_of x t) (touch_of y t) a b (s.touched t l) (f t l))

    is_below_same : (x y u v : StorePoints) → SameStore R g h x y → SameStore R g h u v → is_below g x u ≡ is_below h y v
    unfolding is_below
    is_below_same x y u v s r = ap (λ b. b && not (inside g u.order x.order)) (inside_same R rising g h x.order u.order y.order v.order s.order r.order) ∙ ap (λ b. inside h y.order v.order && not b) (inside_same R rising g h u.order x.order v.order y.order r.order s.order)

    has_same_order_same : (x y u v : StorePoints) → SameStore R g h x y → SameStore R g h u v → has_same_order g x u ≡ has_same_order h y v
    unfolding has_same_order
    has_same_order_same x y u v s r = ap (λ b. b && inside g u.order x.order) (inside_same R rising g h x.order u.order y.order v.order s.order r.order) ∙ ap (λ b. inside h y.order v.order && b) (inside_same R rising g h u.order x.order v.order y.order r.order s.order)

    drops_same : (t : ℕ) (a b : ThreadPoints) (reader : Reader) (x y u v : StorePoints) → t < 5 → SameThread R g h t a b → SameStore R g h x y → SameStore R g h u v → drops g t a reader x u ≡ drops h t b reader y v
    unfolding drops
    drops_same t a b Update x y u v l f s r = is_below_same x y u v s r
    drops_same t a b (Load order) x y u v l f s r =
        ap (λ c. c && (is_seen g u a.present || is_touch_before g t (touch_of x t) a.yielded || (is_seq_cst order && (x.seq_cst && u.seq_cst)))) (is_below_same x y u v s r)
        ∙ ap (λ c. is_below h y v && (c || is_touch_before g t (touch_of x t) a.yielded || (is_seq_cst order && (x.seq_cst && u.seq_cst)))) (is_seen_same u v a.present b.present r f.present)
        ∙ ap (λ c. is_below h y v && (is_seen h v b.present || c || (is_seq_cst order && (x.seq_cst && u.seq_cst)))) (touch_before_same R rising g h t (touch_of x t) (touch_of y t) a.yielded b.yielded (s.touched t l) f.yielded)
        ∙ ap (λ c. is_below h y v && (is_seen h v b.present || is_touch_before h t (touch_of y t) b.yielded || (is_seq_cst order && (c && u.seq_cst)))) s.seq_cst
        ∙ ap (λ c. is_below h y v && (is_seen h v b.present || is_touch_before h t (touch_of y t) b.yielded || (is_seq_cst order && (y.seq_cst && c)))) r.seq_cst

    module _ (t : ℕ) (a b : ThreadPoints) (reader : Reader) (xs ys : List StorePoints) (l : t < 5) (f : SameThread R g h t a b) (s : SameStores R g h xs ys) where
      slots_drop : drops_in_slot g t a reader xs ≡ drops_in_slot h t b reader ys
      slots_drop = λ e i j. drops_same t a b reader (in_slot xs i) (in_slot ys i) (in_slot xs j) (in_slot ys j) l f (in_slot_same xs ys s i) (in_slot_same xs ys s j) e

      slots_equal : has_same_order_in_slot g xs ≡ has_same_order_in_slot h ys
      slots_equal = λ e i j. has_same_order_same (in_slot xs i) (in_slot ys i) (in_slot xs j) (in_slot ys j) (in_slot_same xs ys s i) (in_slot_same xs ys s j) e

      pub readable_same : readable g t a reader xs ≡ readable h t b reader ys
      readable_same = ap (λ d. readable_slots d (length xs)) slots_drop ∙ ap (readable_slots (drops_in_slot h t b reader ys)) s.count

      pub fails_same : fails_by_orders g t a reader xs ≡ fails_by_orders h t b reader ys
      fails_same =
          ap (λ c. has_equal_orders c (drops_in_slot g t a reader xs) (length xs)) slots_equal ∙ ap (λ d. has_equal_orders (has_same_order_in_slot h ys) d (length xs)) slots_drop
          ∙ ap (has_equal_orders (has_same_order_in_slot h ys) (drops_in_slot h t b reader ys)) s.count

    -- ---- the orders that a thread sees

    module _ (xs ys : List StorePoints) (s : SameStores R g h xs ys) where
      orders_front : (is : List ℕ) → SameFront R g h [] [] → SameFront R g h (map (λ i. (in_slot xs i).order) is) (map (λ i. (in_slot ys i).order) is)
      orders_front [] none = none
      orders_front (i ∷ is) none = appended R rising g h ((in_slot xs i).order ∷ []) (map (λ i. (in_slot xs i).order) is) ((in_slot ys i).order ∷ []) (map (λ i. (in_slot ys i).order) is) (in_slot_same xs ys s i).order (orders_front is none)

      slots_seen : (a b : ℕ) (left_out : Option ℕ) → SameFront R g h (a ∷ []) (b ∷ []) → filter (is_order_seen_from g xs a left_out) (slots (length xs)) ≡ filter (is_order_seen_from h ys b left_out) (slots (length ys))
      slots_seen a b left_out f =
          filter_same (is_order_seen_from g xs a left_out) (is_order_seen_from h ys b left_out) (slots (length xs)) (λ i. ap (λ c. not (is_left_out left_out i) && c) (is_seen_same (in_slot xs i) (in_slot ys i) a b (in_slot_same xs ys s i) f))
          ∙ ap (λ n. filter (is_order_seen_from h ys b left_out) (slots n)) s.count

      pub seen_orders_same : (a b : ℕ) (left_out : Option ℕ) → SameFront R g h [] [] → SameFront R g h (a ∷ []) (b ∷ []) → SameFront R g h (seen_orders g xs a left_out) (seen_orders h ys b left_out)
      seen_orders_same a b left_out none f =
          subst (λ is. SameFront R g h (seen_orders g xs a left_out) (map (λ i. (in_slot ys i).order) is)) (slots_seen a b left_out f) (orders_front (filter (is_order_seen_from g xs a left_out) (slots (length xs))) none)

      pub slots_above_same : (slot : ℕ) → slots_above g xs slot ≡ slots_above h ys slot
      slots_above_same slot =
          filter_same (is_order_above g xs slot) (is_order_above h ys slot) (slots (length xs)) (λ i. ap (λ c. not (i == slot) && c) (inside_same R rising g h (in_slot xs slot).order (in_slot xs i).order (in_slot ys slot).order (in_slot ys i).order (in_slot_same xs ys s slot).order (in_slot_same xs ys s i).order))
          ∙ ap (λ n. filter (is_order_above h ys slot) (slots n)) s.count

    -- ---- first touches

    module _ (xs ys : List (Option ℕ)) (e : length xs ≡ length ys) (s : (t : ℕ) → t < 5 → SameTouch R g h t (slice_index_or xs t None) (slice_index_or ys t None)) (t a b : ℕ) (l : t < 5) (f : SameFront R g h (a ∷ []) (b ∷ [])) where
      touched_set : (u : ℕ) → u < 5 → SameTouch R g h u (get_or (set xs t (Some a)) u None) (get_or (set ys t (Some b)) u None)
      touched_set u i = ⊎_elim
          (λ (q : u ≡ t). ⊎_elim
          (λ (k : t < length xs). subst (λ m. SameTouch R g h m (get_or (set xs t (Some a)) m None) (get_or (set ys t (Some b)) m None)) (sym q) (rw (get_or-set_same xs t (Some a) None k, get_or-set_same ys t (Some b) None (omega arith)) (both_touch a b (f t l))))
          (λ (k : length xs ≤ t). rw (set_past xs t (Some a) k, set_past ys t (Some b) (omega arith)) (s u i))
          (cases_lt t (length xs)))
          (λ (q : u ≡ t → ⊥). rw (get_or-set_other xs t u (Some a) None q, get_or-set_other ys t u (Some b) None q) (s u i))
          (cases_eq u t)

      abbrev Touched : List (Option ℕ) → List (Option ℕ) → Type 0
      Touched us vs = (length us ≡ length vs) × ((u : ℕ) → u < 5 → SameTouch R g h u (slice_index_or us u None) (slice_index_or vs u None))

      touched_by : (o u : Option ℕ) → SameTouch R g h t o u → Touched (if is_some o then xs else set xs t (Some a)) (if is_some u then ys else set ys t (Some b))
      touched_by None None no_touch = (length-set xs t (Some a) ∙ e ∙ sym (length-set ys t (Some b)), touched_set)
      touched_by (Some k) (Some m) (both_touch _ _ r) = (e, s)
      touched_by None (Some m) r = elim r [ ]
      touched_by (Some k) None r = elim r [ ]

      pub touch_same : (length (touch xs t a) ≡ length (touch ys t b)) × ((u : ℕ) → u < 5 → SameTouch R g h u (slice_index_or (touch xs t a) u None) (slice_index_or (touch ys t b) u None))
      touch_same = touched_by (slice_index_or xs t None) (slice_index_or ys t None) (s t l)

  -- ---- what reading leaves: the graph and the stores, while order points move

  pub record SameOrdered (g h : Graph) (o u : Ordered) : Type 0 where
    pub later : Later R g h o.graph u.graph
    pub quiet : BothQuiet g h o.graph u.graph
    pub none : SameFront R o.graph u.graph [] []
    pub stores : SameStores R o.graph u.graph o.stores u.stores

  module _ (g h : Graph) where
    raised_one : (k m : ℕ) (o u : Ordered) (i : ℕ) → SameOrdered g h o u → SameFront R o.graph u.graph (k ∷ []) (m ∷ []) → SameOrdered g h (order_raised k o i) (order_raised m u i)
    raised_one k m o u i s f =
        let x = in_slot o.stores i in
        let y = in_slot u.stores i in
        let r : SameStore R o.graph u.graph x y = in_slot_same o.graph u.graph o.stores u.stores s.stores i in
        let j : SameFront R o.graph u.graph (x.order ∷ k ∷ []) (y.order ∷ m ∷ []) = appended R rising o.graph u.graph (x.order ∷ []) (k ∷ []) (y.order ∷ []) (m ∷ []) r.order f in
        let next : Graph = moved o.graph (x.order ∷ k ∷ []) in
        let next_too : Graph = moved u.graph (y.order ∷ m ∷ []) in
        let later : Later R o.graph u.graph next next_too = step R rising o.graph u.graph (x.order ∷ k ∷ []) (y.order ∷ m ∷ []) j in
        let old : SameStore R next next_too x y = store_later R o.graph u.graph next next_too later x y r in
        record {
          later = λ t l ks ms e. later t l ks ms (s.later t l ks ms e);
          quiet = both_quiet_then g h o.graph u.graph next next_too s.quiet (both_quiet_step o.graph u.graph (x.order ∷ k ∷ []) (y.order ∷ m ∷ []));
          none = front_later R o.graph u.graph next next_too later [] [] s.none;
          stores = slot_set_same next next_too o.stores u.stores i (record x { order = length o.graph }) (record y { order = length u.graph }) (stores_later R o.graph u.graph next next_too later o.stores u.stores s.stores)
              (record { value = old.value; order = made R rising o.graph u.graph s.none (x.order ∷ k ∷ []) (y.order ∷ m ∷ []) j; sync = old.sync; seq_cst = old.seq_cst; touches = old.touches; touched = old.touched });
        }

    -- what raising one order leaves of what was seen before
    raised_front : (k m : ℕ) (o u : Ordered) (i : ℕ) → SameOrdered g h o u → SameFront R o.graph u.graph (k ∷ []) (m ∷ []) → SameFront R (order_raised k o i).graph (order_raised m u i).graph (k ∷ []) (m ∷ [])
    raised_front k m o u i s f =
        let x = in_slot o.stores i in
        let y = in_slot u.stores i in
        let r : SameStore R o.graph u.graph x y = in_slot_same o.graph u.graph o.stores u.stores s.stores i in
        let j : SameFront R o.graph u.graph (x.order ∷ k ∷ []) (y.order ∷ m ∷ []) = appended R rising o.graph u.graph (x.order ∷ []) (k ∷ []) (y.order ∷ []) (m ∷ []) r.order f in
        front_later R o.graph u.graph (moved o.graph (x.order ∷ k ∷ [])) (moved u.graph (y.order ∷ m ∷ [])) (step R rising o.graph u.graph (x.order ∷ k ∷ []) (y.order ∷ m ∷ []) j) (k ∷ []) (m ∷ []) f

    raised_all : (k m : ℕ) (is : List ℕ) (o u : Ordered) → SameOrdered g h o u → SameFront R o.graph u.graph (k ∷ []) (m ∷ []) → SameOrdered g h (orders_raised k o is) (orders_raised m u is)
    raised_all k m [] o u s f = s
    raised_all k m (i ∷ is) o u s f = raised_all k m is (order_raised k o i) (order_raised m u i) (raised_one k m o u i s f) (raised_front k m o u i s f)

    module _ (t : ℕ) (xs ys : List StorePoints) (a b slot : ℕ) (l : t < 5) (none : SameFront R g h [] []) (s : SameStores R g h xs ys) (f : SameFront R g h (a ∷ []) (b ∷ [])) where
      abbrev one_read : StorePoints
      one_read = in_slot xs slot

      abbrev other_read : StorePoints
      other_read = in_slot ys slot

      reads_same : SameStore R g h one_read other_read
      reads_same = in_slot_same g h xs ys s slot

      reads_front : SameFront R g h (one_read.order ∷ seen_orders g xs a (Some slot)) (other_read.order ∷ seen_orders h ys b (Some slot))
      reads_front = appended R rising g h (one_read.order ∷ []) (seen_orders g xs a (Some slot)) (other_read.order ∷ []) (seen_orders h ys b (Some slot)) reads_same.order (seen_orders_same g h xs ys s a b (Some slot) none f)

      reads_later : Later R g h (graph_after_read g xs a slot) (graph_after_read h ys b slot)
      reads_later = step R rising g h (one_read.order ∷ seen_orders g xs a (Some slot)) (other_read.order ∷ seen_orders h ys b (Some slot)) reads_front

      new_order : SameFront R (graph_after_read g xs a slot) (graph_after_read h ys b slot) (length g ∷ []) (length h ∷ [])
      new_order = made R rising g h none (one_read.order ∷ seen_orders g xs a (Some slot)) (other_read.order ∷ seen_orders h ys b (Some slot)) reads_front

      read_store : SameStore R (graph_after_read g xs a slot) (graph_after_read h ys b slot) (record one_read { order = length g; touched = touch one_read.touched t a }) (record other_read { order = length h; touched = touch other_read.touched t b })
      read_store =
          let old : SameStore R (graph_after_read g xs a slot) (graph_after_read h ys b slot) one_read other_read = store_later R g h (graph_after_read g xs a slot) (graph_after_read h ys b slot) reads_later one_read other_read reads_same in
          let touches = touch_same (graph_after_read g xs a slot) (graph_after_read h ys b slot) one_read.touched other_read.touched old.touches old.touched t a b l (front_later R g h (graph_after_read g xs a slot) (graph_after_read h ys b slot) reads_later (a ∷ []) (b ∷ []) f) in
          record { value = old.value; order = new_order; sync = old.sync; seq_cst = old.seq_cst; touches = touches.0; touched = touches.1 }

      first_read : SameOrdered g h (record { graph = graph_after_read g xs a slot; stores = stores_after_read g t xs a slot }) (record { graph = graph_after_read h ys b slot; stores = stores_after_read h t ys b slot })
      first_read = record {
        later = reads_later;
        quiet = both_quiet_step g h (one_read.order ∷ seen_orders g xs a (Some slot)) (other_read.order ∷ seen_orders h ys b (Some slot));
        none = front_later R g h (graph_after_read g xs a slot) (graph_after_read h ys b slot) reads_later [] [] none;
        stores = slot_set_same (graph_after_read g xs a slot) (graph_after_read h ys b slot) xs ys slot (record one_read { order = length g; touched = touch one_read.touched t a }) (record other_read { order = length h; touched = touch other_read.touched t b })
            (stores_later R g h (graph_after_read g xs a slot) (graph_after_read h ys b slot) reads_later xs ys s) read_store;
      }

      pub after_read_same : SameOrdered g h (after_read g t xs a slot) (after_read h t ys b slot)
      after_read_same =
          subst (λ is. SameOrdered g h (after_read g t xs a slot) (orders_raised (length h) (record { graph = graph_after_read h ys b slot; stores = stores_after_read h t ys b slot }) is)) (slots_above_same g h xs ys s slot)
          (raised_all (length g) (length h) (slots_above g xs slot) (record { graph = graph_after_read g xs a slot; stores = stores_after_read g t xs a slot }) (record { graph = graph_after_read h ys b slot; stores = stores_after_read h t ys b slot }) first_read new_order)

  -- ---- a new store

  module _ (g h : Graph) (t : ℕ) (xs ys : List StorePoints) (a b : ThreadPoints) (value : ℕ) (order : Ordering) (l : t < 5) (none : SameFront R g h [] []) (s : SameStores R g h xs ys) (f : SameThread R g h t a b) where
    abbrev g₁ : Graph
    g₁ = graph_with_order g xs a

    abbrev h₁ : Graph
    h₁ = graph_with_order h ys b

    j₁ : SameFront R g h (a.present ∷ seen_orders g xs a.present None) (b.present ∷ seen_orders h ys b.present None)
    j₁ = appended R rising g h (a.present ∷ []) (seen_orders g xs a.present None) (b.present ∷ []) (seen_orders h ys b.present None) f.present (seen_orders_same g h xs ys s a.present b.present None none f.present)

    later₁ : Later R g h g₁ h₁
    later₁ = step R rising g h (a.present ∷ seen_orders g xs a.present None) (b.present ∷ seen_orders h ys b.present None) j₁

    none₁ : SameFront R g₁ h₁ [] []
    none₁ = front_later R g h g₁ h₁ later₁ [] [] none

    order₁ : SameFront R g₁ h₁ (length g ∷ []) (length h ∷ [])
    order₁ = made R rising g h none (a.present ∷ seen_orders g xs a.present None) (b.present ∷ seen_orders h ys b.present None) j₁

    -- the synchronization point's start
    record Started (c d : Option ℕ) : Type 0 where
      later : Later R g₁ h₁ (graph_with_start g₁ c) (graph_with_start h₁ d)
      quiet : BothQuiet g₁ h₁ (graph_with_start g₁ c) (graph_with_start h₁ d)
      start : SameFront R (graph_with_start g₁ c) (graph_with_start h₁ d) (length g₁ ∷ []) (length h₁ ∷ [])

    started : (c d : Option ℕ) → Both (λ k m. SameFront R g h (k ∷ []) (m ∷ [])) c d → Started c d
    started None None no_one = record { later = step R rising g₁ h₁ [] [] none₁; quiet = both_quiet_step g₁ h₁ [] []; start = made R rising g₁ h₁ none₁ [] [] none₁ }
    started (Some k) (Some m) (both _ _ i) =
        let j = front_later R g h g₁ h₁ later₁ (k ∷ []) (m ∷ []) i in
        record { later = step R rising g₁ h₁ (k ∷ []) (m ∷ []) j; quiet = both_quiet_step g₁ h₁ (k ∷ []) (m ∷ []); start = made R rising g₁ h₁ none₁ (k ∷ []) (m ∷ []) j }
    started None (Some m) i = elim i [ ]
    started (Some k) None i = elim i [ ]

    abbrev made_store : Graph → List StorePoints → ThreadPoints → Option ℕ → StorePoints
    made_store e zs own c = record { value = value; order = length e; sync = length (graph_with_start (graph_with_order e zs own) c); seq_cst = is_seq_cst order; touched = touch untouched t own.present }

    pub make_same : (c d : Option ℕ) → Both (λ k m. SameFront R g h (k ∷ []) (m ∷ [])) c d
        → SameOrdered g h (record { graph = graph_after_make g xs a c order; stores = stores_after_make g t xs a value c order }) (record { graph = graph_after_make h ys b d order; stores = stores_after_make h t ys b value d order })
    make_same c d i =
        let g₂ : Graph = graph_with_start g₁ c in
        let h₂ : Graph = graph_with_start h₁ d in
        let start : Started c d = started c d i in
        let later₂ : Later R g h g₂ h₂ = λ u k ks ms e. start.later u k ks ms (later₁ u k ks ms e) in
        let quiet₂ : BothQuiet g h g₂ h₂ = both_quiet_then g h g₁ h₁ g₂ h₂ (both_quiet_step g h (a.present ∷ seen_orders g xs a.present None) (b.present ∷ seen_orders h ys b.present None)) start.quiet in
        let none₂ : SameFront R g₂ h₂ [] [] = front_later R g h g₂ h₂ later₂ [] [] none in
        let f₂ : SameThread R g₂ h₂ t a b = thread_later R g h g₂ h₂ later₂ quiet₂ t a b l f in
        let j₃ = stored R rising g₂ h₂ none₂ a b (length g₁) (length h₁) order f₂.present f₂.released start.start in
        let js : List ℕ = length g₁ ∷ a.released ∷ (if is_release order then a.present ∷ [] else []) in
        let ls : List ℕ = length h₁ ∷ b.released ∷ (if is_release order then b.present ∷ [] else []) in
        let g₃ : Graph = graph_after_store g₂ a (length g₁) order in
        let h₃ : Graph = graph_after_store h₂ b (length h₁) order in
        let later₃ : Later R g₂ h₂ g₃ h₃ = step R rising g₂ h₂ js ls j₃ in
        let all : Later R g h g₃ h₃ = λ u k ks ms e. later₃ u k ks ms (later₂ u k ks ms e) in
        let beyond : Later R g₁ h₁ g₃ h₃ = λ u k ks ms e. later₃ u k ks ms (start.later u k ks ms e) in
        let touches = touch_same g₃ h₃ untouched untouched refl (nobody_touched g₃ h₃) t a.present b.present l (front_later R g h g₃ h₃ all (a.present ∷ []) (b.present ∷ []) f.present) in
        record {
          later = all;
          quiet = both_quiet_then g h g₂ h₂ g₃ h₃ quiet₂ (both_quiet_step g₂ h₂ js ls);
          none = front_later R g h g₃ h₃ all [] [] none;
          stores = store_push g₃ h₃ xs ys (made_store g xs a c) (made_store h ys b d) (stores_later R g h g₃ h₃ all xs ys s)
              (record { value = refl; order = front_later R g₁ h₁ g₃ h₃ beyond (length g ∷ []) (length h ∷ []) order₁; sync = made R rising g₂ h₂ none₂ js ls j₃; seq_cst = refl; touches = touches.0; touched = touches.1 });
        }
      where
        nobody_touched : (e k : Graph) → (u : ℕ) → u < 5 → SameTouch R e k u (slice_index_or untouched u None) (slice_index_or untouched u None)
        nobody_touched e k zero i = no_touch
        nobody_touched e k (suc zero) i = no_touch
        nobody_touched e k (suc (suc zero)) i = no_touch
        nobody_touched e k (suc (suc (suc zero))) i = no_touch
        nobody_touched e k (suc (suc (suc (suc zero)))) i = no_touch
        nobody_touched e k (suc (suc (suc (suc (suc u))))) i = absurd (omega arith)

  -- ---- acquire fences

  -- lists of stores of which the same is seen
  abbrev pub SameList : Graph → Graph → List StorePoints → List StorePoints → Type 0
  SameList g h [] [] = Unit {0}
  SameList g h [] (y ∷ ys) = ⊥
  SameList g h (x ∷ xs) [] = ⊥
  SameList g h (x ∷ xs) (y ∷ ys) = SameStore R g h x y × SameList g h xs ys

  module _ (g h : Graph) where
    list_append : (xs ys us vs : List StorePoints) → SameList g h xs ys → SameList g h us vs → SameList g h (xs ++ us) (ys ++ vs)
    list_append [] [] us vs a b = b
    list_append [] (y ∷ ys) us vs a b = absurd a
    list_append (x ∷ xs) [] us vs a b = absurd a
    list_append (x ∷ xs) (y ∷ ys) us vs a b = (a.0, list_append xs ys us vs a.1 b)

    list_from : (xs ys : List StorePoints) (m : ℕ) → length xs ≡ length ys → ((n : ℕ) → m ≤ n → n < length xs → SameStore R g h (get_or xs n blank) (get_or ys n blank)) → SameList g h (drop m xs) (drop m ys)
    list_from [] [] zero e f = tt
    list_from [] [] (suc m) e f = tt
    list_from [] (y ∷ ys) m e f = absurd (omega arith)
    list_from (x ∷ xs) [] m e f = absurd (omega arith)
    list_from (x ∷ xs) (y ∷ ys) zero e f = (f 0 (omega arith) (omega arith), list_from xs ys zero (omega arith) (λ n a b. f (suc n) (omega arith) (omega arith)))
    list_from (x ∷ xs) (y ∷ ys) (suc m) e f = list_from xs ys m (omega arith) (λ n a b. f (suc n) (omega arith) (omega arith))

    kept_same : (xs ys : List StorePoints) → SameStores R g h xs ys → SameList g h (kept_stores xs) (kept_stores ys)
    kept_same xs ys s = subst (λ n. SameList g h (kept_stores xs) (drop (n - 7) ys)) s.count (list_from xs ys (length xs - 7) s.count (λ n a b. s.each n (omega arith)))

    stores_at_same : (a b : Place) → SamePlace R g h a b → SameList g h (stores_at a) (stores_at b)
    stores_at_same (Meets k) (Meets m) (same_point _ _ s) = tt
    stores_at_same (Keeps a) (Keeps b) (same_atomic _ _ s) = kept_same a.stores b.stores s.stores
    stores_at_same (Records a) (Records b) (same_cell _ _ s r) = tt
    stores_at_same (Meets k) (Keeps b) s = elim s [ ]
    stores_at_same (Meets k) (Records b) s = elim s [ ]
    stores_at_same (Keeps a) (Meets m) s = elim s [ ]
    stores_at_same (Keeps a) (Records b) s = elim s [ ]
    stores_at_same (Records a) (Meets m) s = elim s [ ]
    stores_at_same (Records a) (Keeps b) s = elim s [ ]

    stores_there : (o u : Place) → Both (SamePlace R g h) (Some o) (Some u) → SameList g h (stores_at o) (stores_at u)
    stores_there o u (both _ _ s) = stores_at_same o u s

    pub places_stores : (xs ys : List Place) → length xs ≡ length ys → ((n : ℕ) → Both (SamePlace R g h) (slice_get xs n) (slice_get ys n)) → SameList g h (flat_map stores_at xs) (flat_map stores_at ys)
    places_stores [] [] e f = tt
    places_stores [] (y ∷ ys) e f = absurd (omega arith)
    places_stores (x ∷ xs) [] e f = absurd (omega arith)
    places_stores (x ∷ xs) (y ∷ ys) e f = list_append (stores_at x) (stores_at y) (flat_map stores_at xs) (flat_map stores_at ys) (stores_there x y (f 0)) (places_stores xs ys (omega arith) (λ n. f (suc n)))

  list_later : (g h g' h' : Graph) → Later R g h g' h' → (xs ys : List StorePoints) → SameList g h xs ys → SameList g' h' xs ys
  list_later g h g' h' later [] [] s = tt
  list_later g h g' h' later [] (y ∷ ys) s = absurd s
  list_later g h g' h' later (x ∷ xs) [] s = absurd s
  list_later g h g' h' later (x ∷ xs) (y ∷ ys) s = (store_later R g h g' h' later x y s.0, list_later g h g' h' later xs ys s.1)

  pub record SameStanding (g h : Graph) (t : ℕ) (s u : Standing) : Type 0 where
    pub later : Later R g h s.graph u.graph
    pub quiet : BothQuiet g h s.graph u.graph
    pub none : SameFront R s.graph u.graph [] []
    pub thread : SameThread R s.graph u.graph t s.thread u.thread

  module _ (g h : Graph) (t : ℕ) (l : t < 5) where
    -- one more acquire, or none, and what is seen of other stores then
    acquired : (c d : Bool) (s u : Standing) (k m : ℕ) → c ≡ d → SameStanding g h t s u → SameFront R s.graph u.graph (k ∷ []) (m ∷ []) → (xs ys : List StorePoints) → SameList s.graph u.graph xs ys
        → (r : (v w : Standing) → SameStanding g h t v w → SameList v.graph w.graph xs ys → SameStanding g h t (after_stores v xs) (after_stores w ys))
        → SameStanding g h t (after_stores (if c then record { graph = graph_after_acquire s.graph s.thread k; thread = with_present s.graph s.thread } else s) xs) (after_stores (if d then record { graph = graph_after_acquire u.graph u.thread m; thread = with_present u.graph u.thread } else u) ys)
    acquired true false s u k m e i f xs ys p r = absurd (cc e)
    acquired false true s u k m e i f xs ys p r = absurd (cc e)
    acquired false false s u k m e i f xs ys p r = r s u i p
    acquired true true s u k m e i f xs ys p r =
        let j : SameFront R s.graph u.graph (s.thread.present ∷ k ∷ []) (u.thread.present ∷ m ∷ []) = appended R rising s.graph u.graph (s.thread.present ∷ []) (k ∷ []) (u.thread.present ∷ []) (m ∷ []) i.thread.present f in
        let g' : Graph = graph_after_acquire s.graph s.thread k in
        let h' : Graph = graph_after_acquire u.graph u.thread m in
        let later : Later R s.graph u.graph g' h' = step R rising s.graph u.graph (s.thread.present ∷ k ∷ []) (u.thread.present ∷ m ∷ []) j in
        r (record { graph = g'; thread = with_present s.graph s.thread }) (record { graph = h'; thread = with_present u.graph u.thread })
        (record { later = λ a b ks ms q. later a b ks ms (i.later a b ks ms q); quiet = both_quiet_then g h s.graph u.graph g' h' i.quiet (both_quiet_step s.graph u.graph (s.thread.present ∷ k ∷ []) (u.thread.present ∷ m ∷ [])); none = front_later R s.graph u.graph g' h' later [] [] i.none; thread = thread_moved R rising s.graph u.graph i.none t s.thread u.thread k m l i.thread f })
        (list_later s.graph u.graph g' h' later xs ys p)

    pub after_stores_same : (xs ys : List StorePoints) (s u : Standing) → SameStanding g h t s u → SameList s.graph u.graph xs ys → SameStanding g h t (after_stores s xs) (after_stores u ys)
    after_stores_same [] [] s u i p = i
    after_stores_same [] (y ∷ ys) s u i p = absurd p
    after_stores_same (x ∷ xs) [] s u i p = absurd p
    after_stores_same (x ∷ xs) (y ∷ ys) s u i p =
        acquired (is_seen s.graph x s.thread.present) (is_seen u.graph y u.thread.present) s u x.sync y.sync (is_seen_same s.graph u.graph x y s.thread.present u.thread.present p.0 i.thread.present) i p.0.sync xs ys p.1
        (λ v w q f. after_stores_same xs ys v w q f)
