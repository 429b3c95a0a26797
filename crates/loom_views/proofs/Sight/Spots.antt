-- What is seen of points is the order of the counts at their spots.
use Rattle.std.proofs.Common.{zero, suc, ◌≡◌, ℕ, ◌+◌, ◌<◌, ◌≤◌, Bool, true, false, cond, ◌&&◌, List, [], ◌∷◌, length, get_or, refl, ap, ap₂, sym, ◌∙◌, arith, subst, subst₂, ◌⊎◌, inl, inr, ⊎_elim, Option, Some, None}
use Rattle.std.specs.Prelude.{◌==◌, nat_lt, nat_le, slice_get, is_some}
use Rattle.std.specs.List.{list_all, AllByRecursion}
use Rattle.std.specs.Option.{option_map, option_map_or}
use Rattle.std.proofs.lemmas.Bool.{cases_Bool, cases_lt, cond-true, cond-false, lt-ltb, le-ltb, le-leb, lt-leb, leb-true, and_parts, and_from, eq-eqb, ne_eqb, eqb-true}
use Rattle.std.proofs.lemmas.Option.{slice_get_past}
use Rattle.loom_views.specs.Graph.{Graph, threads, reaches, raised, IsChain}
use Rattle.loom_views.specs.ThreadViews.{ThreadPoints}
use Rattle.loom_views.specs.CellAccesses.{Accesses}
use Rattle.loom_views.specs.Atomic.History.{StorePoints, History, blank, touch_of}
use Rattle.loom_views.specs.Views.{Place, Meets, Keeps, Records, Points}
use Rattle.loom_views.specs.Sight.{ThreadSpot, Present, Released, Yielded, StoreSpot, Order, Sync, Touch, HistorySpot, Loads, Stored, UnsyncLoads, Mutations, OfStore, CellSpot, Reads, Writes, Spot, Nowhere, First, Global, OfThread, OfPoint, OfAtomic, OfCell, OfStamp, owned, thread_points, store_points, history_points, cell_points, at_point, at_atomic, at_cell, points_at, number, awaits, SeenStore, seen_store, SeenHistory, seen_history, SeenAtomic, seen_place, Sight, sight, is_chain, stands, are_of_run, seen}
use Rattle.loom_views.specs.InOrder.{IsRising}
use Rattle.loom_views.proofs.Sight.Fronts.{SameAt, SameFront, SameTouch, no_touch, both_touch, IsFull, number_most, five_same}
use Rattle.loom_views.proofs.Sight.Shapes.{Both, no_one, both, SameThread, SameStore, SameHistory, SamePlace, same_point, same_atomic, same_cell, SameStamp, Same, acting, by_place, by_thread}

-- ---- tests of runs

each_true : (p : ℕ → Bool) (xs : List ℕ) → list_all p xs ≡ true → AllByRecursion (λ x. p x ≡ true) xs
each_true p [] e = tt
each_true p (x ∷ xs) e = let parts = and_parts (p x) (list_all p xs) e in (parts.0, each_true p xs parts.1)

all_true : (p : ℕ → Bool) (xs : List ℕ) → AllByRecursion (λ x. p x ≡ true) xs → list_all p xs ≡ true
all_true p [] h = refl
all_true p (x ∷ xs) h = and_from (p x) (list_all p xs) h.0 (all_true p xs h.1)

chain_from : (g : Graph) (xs : List ℕ) → is_chain g xs ≡ true → IsChain g xs
chain_from g [] e = tt
chain_from g (x ∷ xs) e = let parts = and_parts (list_all (λ i. reaches g i x) xs) (is_chain g xs) e in (each_true (λ i. reaches g i x) xs parts.0, chain_from g xs parts.1)

chain_to : (g : Graph) (xs : List ℕ) → IsChain g xs → is_chain g xs ≡ true
chain_to g [] h = refl
chain_to g (x ∷ xs) h = and_from (list_all (λ i. reaches g i x) xs) (is_chain g xs) (all_true (λ i. reaches g i x) xs h.0) (chain_to g xs h.1)

five_each : (p : ℕ → Bool) → list_all p threads ≡ true → (t : ℕ) → t < 5 → p t ≡ true
five_each p e zero l = (each_true p threads e).0
five_each p e (suc zero) l = (each_true p threads e).1.0
five_each p e (suc (suc zero)) l = (each_true p threads e).1.1.0
five_each p e (suc (suc (suc zero))) l = (each_true p threads e).1.1.1.0
five_each p e (suc (suc (suc (suc zero)))) l = (each_true p threads e).1.1.1.1.0
five_each p e (suc (suc (suc (suc (suc t))))) l = absurd (omega arith)

module _ (p : Points) where
  -- the test of thread t
  abbrev passes : ℕ → Bool
  passes t = is_chain p.graph (raised p.graph t) && stands p.graph t (slice_get p.threads t)

  run_passes : are_of_run p ≡ true → (t : ℕ) → t < 5 → (is_chain p.graph (raised p.graph t) ≡ true) × (stands p.graph t (slice_get p.threads t) ≡ true)
  unfolding are_of_run
  run_passes e t l = and_parts (is_chain p.graph (raised p.graph t)) (stands p.graph t (slice_get p.threads t)) (five_each passes e t l)

  passes_run : ((t : ℕ) → t < 5 → passes t ≡ true) → are_of_run p ≡ true
  unfolding are_of_run
  passes_run h = five_same passes (λ t. true) h

  run_chain : are_of_run p ≡ true → (t : ℕ) → t < 5 → IsChain p.graph (raised p.graph t)
  run_chain e t l = chain_from p.graph (raised p.graph t) (run_passes e t l).0

  run_full : are_of_run p ≡ true → (t : ℕ) (own : ThreadPoints) → t < 5 → slice_get p.threads t ≡ Some own → IsFull p.graph t own.present
  run_full e t own l at = eqb-true (number p.graph (own.present ∷ []) t) (length (raised p.graph t)) (sym (ap (stands p.graph t) at) ∙ (run_passes e t l).1)

  run_absent : are_of_run p ≡ true → (t : ℕ) → t < 5 → length p.threads ≤ t → raised p.graph t ≡ []
  run_absent e t l i = empty (raised p.graph t) (eqb-true (length (raised p.graph t)) 0 (sym (ap (stands p.graph t) (slice_get_past p.threads t i)) ∙ (run_passes e t l).1))
    where
      empty : (xs : List ℕ) → length xs ≡ 0 → xs ≡ []
      empty [] e = refl
      empty (x ∷ xs) e = absurd (omega arith)

-- ---- what is seen says how the counts of the two pair

module _ (p q : Points) where
  -- the counts at one spot, or two that are as far beyond all
  pub data Paired (t a b : ℕ) : Type 0 where
    spotted : (spot : Spot) → t < 5 → a ≡ number p.graph (points_at p t spot) t → b ≡ number q.graph (points_at q t spot) t → Paired t a b
    beyond : (d : ℕ) → t < 5 → a ≡ suc (d + length (raised p.graph t)) → b ≡ suc (d + length (raised q.graph t)) → Paired t a b

  pub paired_next : (t : ℕ) → t < 5 → Paired t (suc (length (raised p.graph t))) (suc (length (raised q.graph t)))
  paired_next t l = beyond 0 l (omega arith) (omega arith)

  module _ (e : sight p ≡ sight q) where
    order_from : (t : ℕ) → t < 5 → (x y : Spot) → nat_le (number p.graph (points_at p t x) t) (number p.graph (points_at p t y) t) ≡ nat_le (number q.graph (points_at q t x) t) (number q.graph (points_at q t y) t)
    order_from t l x y =
        sym (ap (λ c. c && nat_le (number p.graph (points_at p t x) t) (number p.graph (points_at p t y) t)) (lt-ltb t 5 l)) ∙ ap (λ (s : Sight). s.order t x y) e
        ∙ ap (λ c. c && nat_le (number q.graph (points_at q t x) t) (number q.graph (points_at q t y) t)) (lt-ltb t 5 l)

    awaits_from : (t : ℕ) → t < 5 → (x : Spot) (n : ℕ) → awaits p.graph (points_at p t x) n ≡ awaits q.graph (points_at q t x) n
    awaits_from t l x n =
        sym (ap (λ c. c && awaits p.graph (points_at p t x) n) (lt-ltb t 5 l)) ∙ ap (λ (s : Sight). s.awaits t x n) e
        ∙ ap (λ c. c && awaits q.graph (points_at q t x) n) (lt-ltb t 5 l)

    pub paired_rising : IsRising Paired
    paired_rising t a b c d (spotted x l r s) (spotted y i u v) = ap₂ nat_le r u ∙ order_from t l x y ∙ sym (ap₂ nat_le s v)
    paired_rising t a b c d (spotted x l r s) (beyond n i u v) =
        let m = number_most p.graph (points_at p t x) t in
        let k = number_most q.graph (points_at q t x) t in
        le-leb a c (omega arith) ∙ sym (le-leb b d (omega arith))
    paired_rising t a b c d (beyond n l r s) (spotted y i u v) =
        let m = number_most p.graph (points_at p t y) t in
        let k = number_most q.graph (points_at q t y) t in
        lt-leb a c (omega arith) ∙ sym (lt-leb b d (omega arith))
    paired_rising t a b c d (beyond n l r s) (beyond m i u v) = ⊎_elim
        (λ f. lt-leb a c f ∙ sym (lt-leb b d (omega arith)))
        (λ f. le-leb a c f ∙ sym (le-leb b d (omega arith)))
        (cases_lt c a)

    module _ (run : are_of_run p ≡ true) (run_too : are_of_run q ≡ true) where
      abbrev At : ℕ → List ℕ → List ℕ → Type 0
      At t ks ms = SameAt Paired p.graph q.graph t ks ms

      spot_same : (t : ℕ) → t < 5 → (spot : Spot) → At t (points_at p t spot) (points_at q t spot)
      spot_same t l spot = record { pair = spotted spot l refl refl; awaits = awaits_from t l spot; chain = run_chain p run t l; chain_too = run_chain q run_too t l }

      spot_at : (t : ℕ) → t < 5 → (spot : Spot) (ks ms : List ℕ) → points_at p t spot ≡ ks → points_at q t spot ≡ ms → At t ks ms
      spot_at t l spot ks ms r s = subst₂ (At t) r s (spot_same t l spot)

      own_here : (t k : ℕ) → owned t t (Some k) ≡ k ∷ []
      own_here t k = cond-true (t == t) (k ∷ []) [] (eq-eqb t t refl)

      touch_from : (t : ℕ) → t < 5 → (spot : Spot) (o u : Option ℕ) → points_at p t spot ≡ owned t t o → points_at q t spot ≡ owned t t u → is_some o ≡ is_some u → SameTouch Paired p.graph q.graph t o u
      touch_from t l spot None None r s f = no_touch
      touch_from t l spot None (Some m) r s f = absurd (cc f)
      touch_from t l spot (Some k) None r s f = absurd (cc f)
      touch_from t l spot (Some k) (Some m) r s f = both_touch k m (spot_at t l spot (k ∷ []) (m ∷ []) (r ∙ own_here t k) (s ∙ own_here t m))

      abbrev has_yielded : ThreadPoints → Bool
      has_yielded own = is_some own.yielded

      thread_from : (t : ℕ) → t < 5 → (o u : Option ThreadPoints) → slice_get p.threads t ≡ o → slice_get q.threads t ≡ u → option_map has_yielded o ≡ option_map has_yielded u → Both (SameThread Paired p.graph q.graph t) o u
      thread_from t l None None r s f = no_one
      thread_from t l None (Some b) r s f = absurd (cc f)
      thread_from t l (Some a) None r s f = absurd (cc f)
      thread_from t l (Some a) (Some b) r s f =
          let at = λ (u : ℕ) (spot : ThreadSpot). ap (λ o. option_map_or (thread_points u t spot) o []) r in
          let at_too = λ (u : ℕ) (spot : ThreadSpot). ap (λ o. option_map_or (thread_points u t spot) o []) s in
          both a b (record {
            present = λ u i. spot_at u i (OfThread t Present) (a.present ∷ []) (b.present ∷ []) (at u Present) (at_too u Present);
            released = λ u i. spot_at u i (OfThread t Released) (a.released ∷ []) (b.released ∷ []) (at u Released) (at_too u Released);
            yielded = touch_from t l (OfThread t Yielded) a.yielded b.yielded (at t Yielded) (at_too t Yielded) (cc f);
            full = run_full p run t a l r;
            full_too = run_full q run_too t b l s;
          })

      -- of an atomic
      module _ (n : ℕ) (x y : History) (r : slice_get p.places n ≡ Some (Keeps x)) (s : slice_get q.places n ≡ Some (Keeps y)) where
        history_at : (spot : HistorySpot) (ks ms : ℕ → List ℕ) → ((t : ℕ) → history_points t spot x ≡ ks t) → ((t : ℕ) → history_points t spot y ≡ ms t) → (t : ℕ) → t < 5 → At t (ks t) (ms t)
        history_at spot ks ms f k t l = spot_at t l (OfAtomic n spot) (ks t) (ms t) (ap (at_atomic (history_points t spot)) r ∙ f t) (ap (at_atomic (history_points t spot)) s ∙ k t)

        store_from : (i : ℕ) → length x.stores ≤ i + 7 → length y.stores ≤ i + 7 → seen_store (get_or x.stores i blank) ≡ seen_store (get_or y.stores i blank) → SameStore Paired p.graph q.graph (get_or x.stores i blank) (get_or y.stores i blank)
        store_from i l l_too f =
            let a : StorePoints = get_or x.stores i blank in
            let b : StorePoints = get_or y.stores i blank in
            let kept = λ (t : ℕ) (spot : StoreSpot). cond-true (nat_le (length x.stores) (i + 7)) (store_points t spot a) [] (le-leb (length x.stores) (i + 7) l) in
            let kept_too = λ (t : ℕ) (spot : StoreSpot). cond-true (nat_le (length y.stores) (i + 7)) (store_points t spot b) [] (le-leb (length y.stores) (i + 7) l_too) in
            record {
              value = ap (λ (z : SeenStore). z.value) f;
              order = history_at (OfStore i Order) (λ t. a.order ∷ []) (λ t. b.order ∷ []) (λ t. kept t Order) (λ t. kept_too t Order);
              sync = history_at (OfStore i Sync) (λ t. a.sync ∷ []) (λ t. b.sync ∷ []) (λ t. kept t Sync) (λ t. kept_too t Sync);
              seq_cst = ap (λ (z : SeenStore). z.seq_cst) f;
              touches = ap (λ (z : SeenStore). z.touches) f;
              touched = λ t k. touch_from t k (OfAtomic n (OfStore i (Touch t))) (touch_of a t) (touch_of b t)
                  (ap (at_atomic (history_points t (OfStore i (Touch t)))) r ∙ kept t (Touch t)) (ap (at_atomic (history_points t (OfStore i (Touch t)))) s ∙ kept_too t (Touch t))
                  (sym (ap (λ c. c && is_some (touch_of a t)) (lt-ltb t 5 k)) ∙ ap (λ (z : SeenStore). z.touched t) f ∙ ap (λ c. c && is_some (touch_of b t)) (lt-ltb t 5 k));
            }

        kept_from : (m k i : ℕ) (a b : StorePoints) → m ≡ k → m ≤ i → cond {A = Option SeenStore} (nat_le m i) (Some (seen_store a)) None ≡ cond {A = Option SeenStore} (nat_le k i) (Some (seen_store b)) None → seen_store a ≡ seen_store b
        kept_from m k i a b f l g =
            let d : ◌≡◌ {A = Option SeenStore} (Some (seen_store a)) (Some (seen_store b)) = sym (cond-true (nat_le m i) (Some (seen_store a)) None (le-leb m i l)) ∙ g ∙ cond-true (nat_le k i) (Some (seen_store b)) None (le-leb k i (omega arith)) in
            cc d

        history_from : seen_history x ≡ seen_history y → SameHistory Paired p.graph q.graph x y
        history_from f =
            let count : length x.stores ≡ length y.stores = ap (λ (z : SeenHistory). z.count) f in
            record {
              stores = record { count = count; each = λ i l. store_from i l (omega arith) (kept_from (length x.stores) (length y.stores) (i + 7) (get_or x.stores i blank) (get_or y.stores i blank) count l (ap (λ (z : SeenHistory). z.stores i) f)) };
              loads = history_at Loads (λ t. x.loads) (λ t. y.loads) (λ t. refl) (λ t. refl);
              stored = history_at Stored (λ t. x.stored) (λ t. y.stored) (λ t. refl) (λ t. refl);
              unsync_loads = history_at UnsyncLoads (λ t. x.unsync_loads) (λ t. y.unsync_loads) (λ t. refl) (λ t. refl);
              mutations = history_at Mutations (λ t. x.mutations) (λ t. y.mutations) (λ t. refl) (λ t. refl);
              mutating = ap (λ (z : SeenHistory). z.mutating) f;
            }

      place_from : (n : ℕ) (o u : Option Place) → slice_get p.places n ≡ o → slice_get q.places n ≡ u → option_map seen_place o ≡ option_map seen_place u → Both (SamePlace Paired p.graph q.graph) o u
      place_from n None None r s f = no_one
      place_from n None (Some b) r s f = absurd (cc f)
      place_from n (Some a) None r s f = absurd (cc f)
      place_from n (Some (Meets k)) (Some (Meets m)) r s f = both (Meets k) (Meets m) (same_point k m (λ t l. spot_at t l (OfPoint n) (k ∷ []) (m ∷ []) (ap at_point r) (ap at_point s)))
      place_from n (Some (Meets k)) (Some (Keeps y)) r s f = absurd (cc f)
      place_from n (Some (Meets k)) (Some (Records y)) r s f = absurd (cc f)
      place_from n (Some (Keeps x)) (Some (Meets m)) r s f = absurd (cc f)
      place_from n (Some (Keeps x)) (Some (Keeps y)) r s f = let d : seen_history x ≡ seen_history y = cc f in both (Keeps x) (Keeps y) (same_atomic x y (history_from n x y r s d))
      place_from n (Some (Keeps x)) (Some (Records y)) r s f = absurd (cc f)
      place_from n (Some (Records x)) (Some (Meets m)) r s f = absurd (cc f)
      place_from n (Some (Records x)) (Some (Keeps y)) r s f = absurd (cc f)
      place_from n (Some (Records x)) (Some (Records y)) r s f =
          both (Records x) (Records y) (same_cell x y
          (λ t l. spot_at t l (OfCell n Reads) x.reads y.reads (ap (at_cell (cell_points Reads)) r) (ap (at_cell (cell_points Reads)) s))
          (λ t l. spot_at t l (OfCell n Writes) x.writes y.writes (ap (at_cell (cell_points Writes)) r) (ap (at_cell (cell_points Writes)) s)))

      stamp_from : (m : ℕ) (o u : Option ℕ) → slice_get p.stamps m ≡ o → slice_get q.stamps m ≡ u → is_some o ≡ is_some u → Both (SameStamp Paired p.graph q.graph) o u
      stamp_from m None None r s f = no_one
      stamp_from m None (Some j) r s f = absurd (cc f)
      stamp_from m (Some i) None r s f = absurd (cc f)
      stamp_from m (Some i) (Some j) r s f = both i j (λ t l. spot_at t l (OfStamp m) (i ∷ []) (j ∷ []) (ap (λ o. option_map_or (λ k. k ∷ []) o []) r) (ap (λ o. option_map_or (λ k. k ∷ []) o []) s))

      as_many_there : (xs ys : List ℕ) (m : ℕ) → length xs ≡ length ys → is_some (slice_get xs m) ≡ is_some (slice_get ys m)
      as_many_there [] [] m f = refl
      as_many_there [] (y ∷ ys) m f = absurd (omega arith)
      as_many_there (x ∷ xs) [] m f = absurd (omega arith)
      as_many_there (x ∷ xs) (y ∷ ys) zero f = refl
      as_many_there (x ∷ xs) (y ∷ ys) (suc m) f = as_many_there xs ys m (omega arith)

      sight_from : length p.threads ≤ 5 → Same Paired p q
      sight_from few =
          let threads : length p.threads ≡ length q.threads = ap (λ (x : Sight). x.threads) e in
          let stamps : length p.stamps ≡ length q.stamps = ap (λ (x : Sight). x.stamps) e in
          record {
            few = few;
            threads = threads;
            none = λ t l. spot_same t l Nowhere;
            first = λ t l. spot_same t l First;
            thread = λ t l. thread_from t l (slice_get p.threads t) (slice_get q.threads t) refl refl (ap (λ (x : Sight). x.yielded t) e);
            places = ap (λ (x : Sight). x.places) e;
            place = λ n. place_from n (slice_get p.places n) (slice_get q.places n) refl refl (ap (λ (x : Sight). x.place n) e);
            stamps = stamps;
            stamp = λ m. stamp_from m (slice_get p.stamps m) (slice_get q.stamps m) refl refl (as_many_there p.stamps q.stamps m stamps);
            global = λ t l. spot_same t l Global;
            absent = λ t l i. (run_absent p run t l i, run_absent q run_too t l (omega arith));
          }

-- ---- what is seen of two that pair

module _ (R : ℕ → ℕ → ℕ → Type 0) (rising : IsRising R) (p q : Points) (s : Same R p q) where
  abbrev At_so : ℕ → List ℕ → List ℕ → Type 0
  At_so t ks ms = SameAt R p.graph q.graph t ks ms

  owned_so : (u t : ℕ) → t < 5 → (o x : Option ℕ) → SameTouch R p.graph q.graph u o x → At_so t (owned u t o) (owned u t x)
  owned_so u t l None None no_touch = s.none t l
  owned_so u t l None (Some m) f = elim f [ ]
  owned_so u t l (Some k) None f = elim f [ ]
  owned_so u t l (Some k) (Some m) (both_touch _ _ f) = ⊎_elim
      (λ e. subst₂ (At_so t) (sym (cond-true (u == t) (k ∷ []) [] e)) (sym (cond-true (u == t) (m ∷ []) [] e)) (subst (λ v. At_so v (k ∷ []) (m ∷ [])) (eqb-true u t e) f))
      (λ e. subst₂ (At_so t) (sym (cond-false (u == t) (k ∷ []) [] e)) (sym (cond-false (u == t) (m ∷ []) [] e)) (s.none t l))
      (cases_Bool (u == t))

  thread_so : (t u : ℕ) → t < 5 → (spot : ThreadSpot) (a b : ThreadPoints) → SameThread R p.graph q.graph u a b → At_so t (thread_points t u spot a) (thread_points t u spot b)
  thread_so t u l Present a b r = r.present t l
  thread_so t u l Released a b r = r.released t l
  thread_so t u l Yielded a b r = owned_so u t l a.yielded b.yielded r.yielded

  store_so : (t : ℕ) → t < 5 → (spot : StoreSpot) (a b : StorePoints) → SameStore R p.graph q.graph a b → At_so t (store_points t spot a) (store_points t spot b)
  store_so t l Order a b r = r.order t l
  store_so t l Sync a b r = r.sync t l
  store_so t l (Touch u) a b r = ⊎_elim
      (λ i. owned_so u t l (touch_of a u) (touch_of b u) (r.touched u i))
      (λ i. subst₂ (At_so t) (sym (elsewhere u i (touch_of a u))) (sym (elsewhere u i (touch_of b u))) (s.none t l))
      (cases_lt u 5)
    where
      elsewhere : (u : ℕ) → 5 ≤ u → (o : Option ℕ) → owned u t o ≡ []
      elsewhere u i None = refl
      elsewhere u i (Some k) = cond-false (u == t) (k ∷ []) [] (ne_eqb u t (λ (e : u ≡ t). absurd (omega arith)))

  history_so : (t : ℕ) → t < 5 → (spot : HistorySpot) (a b : History) → SameHistory R p.graph q.graph a b → At_so t (history_points t spot a) (history_points t spot b)
  history_so t l Loads a b r = r.loads t l
  history_so t l Stored a b r = r.stored t l
  history_so t l UnsyncLoads a b r = r.unsync_loads t l
  history_so t l Mutations a b r = r.mutations t l
  history_so t l (OfStore i spot) a b r =
      let count = r.stores.count in
      let x : List ℕ = store_points t spot (get_or a.stores i blank) in
      let y : List ℕ = store_points t spot (get_or b.stores i blank) in
      ⊎_elim
      (λ k. subst₂ (At_so t) (sym (cond-false (nat_le (length a.stores) (i + 7)) x [] (lt-leb (length a.stores) (i + 7) k))) (sym (cond-false (nat_le (length b.stores) (i + 7)) y [] (lt-leb (length b.stores) (i + 7) (omega arith)))) (s.none t l))
      (λ k. subst₂ (At_so t) (sym (cond-true (nat_le (length a.stores) (i + 7)) x [] (le-leb (length a.stores) (i + 7) k))) (sym (cond-true (nat_le (length b.stores) (i + 7)) y [] (le-leb (length b.stores) (i + 7) (omega arith))))
      (store_so t l spot (get_or a.stores i blank) (get_or b.stores i blank) (r.stores.each i k)))
      (cases_lt (i + 7) (length a.stores))

  cell_so : (t : ℕ) → t < 5 → (spot : CellSpot) (a b : Accesses) → SameFront R p.graph q.graph a.reads b.reads → SameFront R p.graph q.graph a.writes b.writes → At_so t (cell_points spot a) (cell_points spot b)
  cell_so t l Reads a b f i = f t l
  cell_so t l Writes a b f i = i t l

  stamp_so : (t : ℕ) → t < 5 → (o u : Option ℕ) → Both (SameStamp R p.graph q.graph) o u → At_so t (option_map_or (λ k. k ∷ []) o []) (option_map_or (λ k. k ∷ []) u [])
  stamp_so t l None None no_one = s.none t l
  stamp_so t l None (Some m) f = elim f [ ]
  stamp_so t l (Some k) None f = elim f [ ]
  stamp_so t l (Some k) (Some m) (both _ _ f) = f t l

  spot_so : (t : ℕ) → t < 5 → (spot : Spot) → At_so t (points_at p t spot) (points_at q t spot)
  spot_so t l Nowhere = s.none t l
  spot_so t l First = s.first t l
  spot_so t l Global = s.global t l
  spot_so t l (OfThread u spot) =
      by_thread R p.graph q.graph u (λ o x. At_so t (option_map_or (thread_points t u spot) o []) (option_map_or (thread_points t u spot) x [])) (s.none t l) (λ a b i r. thread_so t u l spot a b r)
      (slice_get p.threads u) (slice_get q.threads u) (acting R p q s u)
  spot_so t l (OfPoint n) = by_place R p.graph q.graph (λ o x. At_so t (at_point o) (at_point x)) (s.none t l) (λ k m f. f t l) (λ a b f. s.none t l) (λ a b f i. s.none t l) (slice_get p.places n) (slice_get q.places n) (s.place n)
  spot_so t l (OfAtomic n spot) =
      by_place R p.graph q.graph (λ o x. At_so t (at_atomic (history_points t spot) o) (at_atomic (history_points t spot) x)) (s.none t l) (λ k m f. s.none t l) (λ a b f. history_so t l spot a b f) (λ a b f i. s.none t l)
      (slice_get p.places n) (slice_get q.places n) (s.place n)
  spot_so t l (OfCell n spot) =
      by_place R p.graph q.graph (λ o x. At_so t (at_cell (cell_points spot) o) (at_cell (cell_points spot) x)) (s.none t l) (λ k m f. s.none t l) (λ a b f. s.none t l) (λ a b f i. cell_so t l spot a b f i)
      (slice_get p.places n) (slice_get q.places n) (s.place n)
  spot_so t l (OfStamp m) = stamp_so t l (slice_get p.stamps m) (slice_get q.stamps m) (s.stamp m)

  -- of a thread that there may be
  when_thread : (t : ℕ) (a b : Bool) → (t < 5 → a ≡ b) → (nat_lt t 5 && a) ≡ (nat_lt t 5 && b)
  when_thread t a b f = ⊎_elim
      (λ l. ap (λ c. nat_lt t 5 && c) (f l))
      (λ l. ap (λ c. c && a) (le-ltb t 5 l) ∙ sym (ap (λ c. c && b) (le-ltb t 5 l)))
      (cases_lt t 5)

  touched_to : (t : ℕ) (o u : Option ℕ) → SameTouch R p.graph q.graph t o u → is_some o ≡ is_some u
  touched_to t None None no_touch = refl
  touched_to t None (Some m) f = elim f [ ]
  touched_to t (Some k) None f = elim f [ ]
  touched_to t (Some k) (Some m) (both_touch _ _ f) = refl

  store_to : (a b : StorePoints) → SameStore R p.graph q.graph a b → seen_store a ≡ seen_store b
  store_to a b r = λ i. record { value = r.value i; seq_cst = r.seq_cst i; touches = r.touches i; touched = λ t. when_thread t (is_some (touch_of a t)) (is_some (touch_of b t)) (λ l. touched_to t (touch_of a t) (touch_of b t) (r.touched t l)) i }

  kept_to : (m n k : ℕ) (a b : StorePoints) → m ≡ n → (m ≤ k → SameStore R p.graph q.graph a b) → cond {A = Option SeenStore} (nat_le m k) (Some (seen_store a)) None ≡ cond {A = Option SeenStore} (nat_le n k) (Some (seen_store b)) None
  kept_to m n k a b e f = ⊎_elim
      (λ l. cond-false (nat_le m k) (Some (seen_store a)) None (lt-leb m k l) ∙ sym (cond-false (nat_le n k) (Some (seen_store b)) None (lt-leb n k (omega arith))))
      (λ l. cond-true (nat_le m k) (Some (seen_store a)) None (le-leb m k l) ∙ ap Some (store_to a b (f l)) ∙ sym (cond-true (nat_le n k) (Some (seen_store b)) None (le-leb n k (omega arith))))
      (cases_lt k m)

  history_to : (a b : History) → SameHistory R p.graph q.graph a b → seen_history a ≡ seen_history b
  history_to a b r = λ i. record {
    count = r.stores.count i;
    stores = λ n. kept_to (length a.stores) (length b.stores) (n + 7) (get_or a.stores n blank) (get_or b.stores n blank) r.stores.count (r.stores.each n) i;
    mutating = r.mutating i;
  }

  place_to : (o u : Option Place) → Both (SamePlace R p.graph q.graph) o u → option_map seen_place o ≡ option_map seen_place u
  place_to o u r = by_place R p.graph q.graph (λ x y. option_map seen_place x ≡ option_map seen_place y) refl (λ k m f. refl) (λ a b f. ap (λ z. Some (SeenAtomic z)) (history_to a b f)) (λ a b f i. refl) o u r

  yielded_to : (t : ℕ) → option_map (λ (own : ThreadPoints). is_some own.yielded) (slice_get p.threads t) ≡ option_map (λ (own : ThreadPoints). is_some own.yielded) (slice_get q.threads t)
  yielded_to t =
      by_thread R p.graph q.graph t (λ o u. option_map (λ (own : ThreadPoints). is_some own.yielded) o ≡ option_map (λ (own : ThreadPoints). is_some own.yielded) u) refl
      (λ a b l r. ap Some (touched_to t a.yielded b.yielded r.yielded)) (slice_get p.threads t) (slice_get q.threads t) (acting R p q s t)

  order_to : (t : ℕ) → t < 5 → (x y : Spot) → nat_le (number p.graph (points_at p t x) t) (number p.graph (points_at p t y) t) ≡ nat_le (number q.graph (points_at q t x) t) (number q.graph (points_at q t y) t)
  order_to t l x y = rising t (number p.graph (points_at p t x) t) (number q.graph (points_at q t x) t) (number p.graph (points_at p t y) t) (number q.graph (points_at q t y) t) (spot_so t l x).pair (spot_so t l y).pair

  sight_to : sight p ≡ sight q
  sight_to = λ i. record {
    threads = s.threads i;
    yielded = λ t. yielded_to t i;
    places = s.places i;
    place = λ n. place_to (slice_get p.places n) (slice_get q.places n) (s.place n) i;
    stamps = s.stamps i;
    order = λ t x y. when_thread t (nat_le (number p.graph (points_at p t x) t) (number p.graph (points_at p t y) t)) (nat_le (number q.graph (points_at q t x) t) (number q.graph (points_at q t y) t)) (λ l. order_to t l x y) i;
    awaits = λ t x n. when_thread t (awaits p.graph (points_at p t x) n) (awaits q.graph (points_at q t x) n) (λ l. (spot_so t l x).awaits n) i;
  }

  stands_so : (g : Graph) (t : ℕ) (o : Option ThreadPoints) → ((own : ThreadPoints) → o ≡ Some own → IsFull g t own.present) → (o ≡ None → raised g t ≡ []) → stands g t o ≡ true
  stands_so g t None full absent = eq-eqb (length (raised g t)) 0 (ap length (absent refl))
  stands_so g t (Some own) full absent = eq-eqb (number g (own.present ∷ []) t) (length (raised g t)) (full own refl)

  thread_stands : (t : ℕ) → t < 5 → (o u : Option ThreadPoints) → slice_get p.threads t ≡ o → Both (SameThread R p.graph q.graph t) o u → (stands p.graph t o ≡ true) × (stands q.graph t u ≡ true)
  thread_stands t l None None e no_one =
      let none = s.absent t l (past p.threads t e) in
      (eq-eqb (length (raised p.graph t)) 0 (ap length none.0), eq-eqb (length (raised q.graph t)) 0 (ap length none.1))
    where
      past : {X : Type 0} (xs : List X) (n : ℕ) → slice_get xs n ≡ None → length xs ≤ n
      past [] n e = omega arith
      past (x ∷ xs) zero e = absurd (cc e)
      past (x ∷ xs) (suc n) e = let l = past xs n e in omega arith
  thread_stands t l None (Some b) e f = elim f [ ]
  thread_stands t l (Some a) None e f = elim f [ ]
  thread_stands t l (Some a) (Some b) e (both _ _ r) = (eq-eqb (number p.graph (a.present ∷ []) t) (length (raised p.graph t)) r.full, eq-eqb (number q.graph (b.present ∷ []) t) (length (raised q.graph t)) r.full_too)

  run_so : are_of_run p ≡ true
  run_so = passes_run p (λ t l. and_from (is_chain p.graph (raised p.graph t)) (stands p.graph t (slice_get p.threads t)) (chain_to p.graph (raised p.graph t) (s.none t l).chain) (thread_stands t l (slice_get p.threads t) (slice_get q.threads t) refl (s.thread t l)).0)

  run_so_too : are_of_run q ≡ true
  run_so_too = passes_run q (λ t l. and_from (is_chain q.graph (raised q.graph t)) (stands q.graph t (slice_get q.threads t)) (chain_to q.graph (raised q.graph t) (s.none t l).chain_too) (thread_stands t l (slice_get p.threads t) (slice_get q.threads t) refl (s.thread t l)).1)

  pub seen_to : seen p ≡ seen q
  seen_to =
      let few = s.few in
      let threads = s.threads in
      let left : seen p ≡ inl (sight p) = cond-true (nat_le (length p.threads) 5 && are_of_run p) (inl (sight p)) (inr p) (and_from (nat_le (length p.threads) 5) (are_of_run p) (le-leb (length p.threads) 5 few) run_so) in
      let right : seen q ≡ inl (sight q) = cond-true (nat_le (length q.threads) 5 && are_of_run q) (inl (sight q)) (inr q) (and_from (nat_le (length q.threads) 5) (are_of_run q) (le-leb (length q.threads) 5 (omega arith)) run_so_too) in
      left ∙ ap inl sight_to ∙ sym right

-- ---- the same is seen of two runs where their counts pair, or the points are equal

pub record Pair (p q : Points) : Type 0 where
  pub rising : IsRising (Paired p q)
  pub same : Same (Paired p q) p q

abbrev is_seen_in : Points → Bool
is_seen_in x = nat_le (length x.threads) 5 && are_of_run x

pub seen_from : (p q : Points) → seen p ≡ seen q → Pair p q ⊎ (p ≡ q)
seen_from p q e = by (cases_Bool (is_seen_in p)) (cases_Bool (is_seen_in q))
  where
    by : ((is_seen_in p ≡ true) ⊎ (is_seen_in p ≡ false)) → ((is_seen_in q ≡ true) ⊎ (is_seen_in q ≡ false)) → Pair p q ⊎ (p ≡ q)
    by (inl a) (inl b) =
        let d : ◌≡◌ {A = Sight ⊎ Points} (inl (sight p)) (inl (sight q)) = sym (cond-true (is_seen_in p) (inl (sight p)) (inr p) a) ∙ e ∙ cond-true (is_seen_in q) (inl (sight q)) (inr q) b in
        let same : sight p ≡ sight q = cc d in
        let one = and_parts (nat_le (length p.threads) 5) (are_of_run p) a in
        let two = and_parts (nat_le (length q.threads) 5) (are_of_run q) b in
        inl (record { rising = paired_rising p q same; same = sight_from p q same one.1 two.1 (leb-true (length p.threads) 5 one.0) })
    by (inl a) (inr b) =
        let d : ◌≡◌ {A = Sight ⊎ Points} (inl (sight p)) (inr q) = sym (cond-true (is_seen_in p) (inl (sight p)) (inr p) a) ∙ e ∙ cond-false (is_seen_in q) (inl (sight q)) (inr q) b in
        absurd (cc d)
    by (inr a) (inl b) =
        let d : ◌≡◌ {A = Sight ⊎ Points} (inr p) (inl (sight q)) = sym (cond-false (is_seen_in p) (inl (sight p)) (inr p) a) ∙ e ∙ cond-true (is_seen_in q) (inl (sight q)) (inr q) b in
        absurd (cc d)
    by (inr a) (inr b) =
        let d : ◌≡◌ {A = Sight ⊎ Points} (inr p) (inr q) = sym (cond-false (is_seen_in p) (inl (sight p)) (inr p) a) ∙ e ∙ cond-false (is_seen_in q) (inl (sight q)) (inr q) b in
        inr (cc d)
