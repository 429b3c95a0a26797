-- What is kept of a run says what is seen of its points.
use Rattle.std.proofs.Common.{zero, suc, ◌≡◌, ℕ, ◌+◌, ◌%◌, ◌<◌, ◌≤◌, max, false, ◌||◌, List, [], ◌∷◌, ◌++◌, length, length-append, map, get_or, refl, ap, sym, ◌∙◌, arith, subst, subst₂, ◌⊎◌, inl, inr, ⊎_elim, Option, Some, None}
use Rattle.std.specs.Prelude.{is_some, slice_get, slice_index, slice_index_or}
use Rattle.std.specs.List.{list_any, AllByRecursion}
use Rattle.std.proofs.lemmas.Bool.{cases_Bool, cases_lt, ne_eqb}
use Rattle.std.proofs.lemmas.List.{get_or_past}
use Rattle.std.proofs.lemmas.Option.{slice_get_past}
use Rattle.loom_views.specs.declared.rt.atomic.State.{State}
use Rattle.loom_views.specs.declared.rt.atomic.Store.{Store}
use Rattle.loom_views.specs.declared.rt.synchronize.ThreadViews.{ThreadViews}
use Rattle.loom_views.specs.declared.rt.views.Kept.{Kept}
use Rattle.loom_views.specs.declared.rt.views.Kept.TheVariants.{Point, Atomic, Cell}
use Rattle.loom_views.specs.Graph.{Graph, threads, reaches, raises_version, raised, count, version, IsChain, IsChained, IsPresent, Shows}
use Rattle.loom_views.specs.AccessRecords.{ShowsRecord}
use Rattle.loom_views.specs.ThreadViews.{ThreadPoints, ShowsTouch, ShowsThread}
use Rattle.loom_views.specs.Atomic.Slots.{number_in_slot}
use Rattle.loom_views.specs.Atomic.History.{StorePoints, History, blank, in_slot, touch_of}
use Rattle.loom_views.specs.Atomic.Shown.{ShowsStore, ShowsState}
use Rattle.loom_views.specs.Atomic.Ring.{store_at}
use Rattle.loom_views.specs.Views.{Place, Meets, Keeps, Records, Points, ShowsThreadAt, ShowsPlace, ShowsPlaceAt, ShowsStampAt, ShowsViews, opening}
use Rattle.loom_views.specs.Laws.Moves.{Leads}
use Rattle.loom_views.specs.Sight.{seen}
use Rattle.loom_views.proofs.Sight.InOrder.{Through, through_rising, through_views}
use Rattle.loom_views.specs.Laws.Reaching.{Extends}
use Rattle.loom_views.specs.Sight.{number, awaits}
use Rattle.loom_views.specs.Laws.Sight.{ShownLaw}
use Rattle.loom_views.proofs.Atomic.Reaching.Order.{adding_law}
use Rattle.loom_views.proofs.Views.Counted.{counts-at}
use Rattle.loom_views.proofs.Views.Reaching.{reaches-none}
use Rattle.loom_views.proofs.Views.Counting.{count-no, count-any, most}
use Rattle.loom_views.proofs.Views.Views.{chain-downward, version-present, join_all-versions, most_from, most_from-is}
use Rattle.loom_views.specs.declared.rt.views.Views.{Views}
use Rattle.loom_views.specs.InOrder.{IsRising, PairsVectors, PairsCounts, PairsThreads, PairsStores, PairsStates, PairsPlaces, PairsAt, PairsViews}
use Rattle.loom_views.proofs.Sight.Fronts.{SameAt, SameFront, SameTouch, no_touch, both_touch, IsFull, number_one}
use Rattle.loom_views.proofs.Sight.Shapes.{Both, no_one, both, SameThread, SameStore, SameStores, SameHistory, SamePlace, same_point, same_atomic, same_cell, SameStamp}
use Rattle.loom_views.proofs.Sight.Spots.{seen_to}
use Rattle.loom_views.proofs.Sight.Stores.{none_stored}

get_threads : (f : ℕ → ℕ) (t : ℕ) → t < 5 → get_or (map f threads) t 0 ≡ f t
get_threads f zero l = refl
get_threads f (suc zero) l = refl
get_threads f (suc (suc zero)) l = refl
get_threads f (suc (suc (suc zero))) l = refl
get_threads f (suc (suc (suc (suc zero)))) l = refl
get_threads f (suc (suc (suc (suc (suc t))))) l = absurd (omega arith)

-- the last seven stores are in the slots of their numbers
number_again : (m n : ℕ) → n < m → m ≤ n + 7 → number_in_slot m (n % 7) ≡ n
unfolding number_in_slot
number_again m n a b = omega arith

module _ (g : Graph) where
  -- how many points of thread t reach these, of which the views are joined
  counted : (c : IsChained g) (ks : List ℕ) (t : ℕ) → number g ks t ≡ most (map (λ k. version g k t) ks)
  unfolding number version IsChained
  counted c ks t = count-any (λ i k. reaches g i k) ks (raised g t) (λ k. chain-downward g (raised g t) (c t) k)

  chain_of : IsChained g → (t : ℕ) → IsChain g (raised g t)
  unfolding IsChained
  chain_of c t = c t

  version_shown : (k : ℕ) (vs : List ℕ) (t : ℕ) → t < 5 → Shows g k vs → version g k t ≡ get_or vs t 0
  version_shown k vs t l s = sym (counts-at g k t l) ∙ ap (λ ws. get_or ws t 0) (sym s.counted)

  record_shown : (ks vs : List ℕ) (t : ℕ) → t < 5 → ShowsRecord g ks vs → most (map (λ k. version g k t) ks) ≡ get_or vs t 0
  record_shown ks vs t l s =
      let e = most_from-is 0 (map (λ k. version g k t) ks) in
      let joined : get_or vs t 0 ≡ most_from 0 (map (λ k. version g k t) ks) = ap (λ ws. get_or ws t 0) (s.joined ∙ join_all-versions g (λ t. 0) ks) ∙ get_threads (λ t. most_from 0 (map (λ k. version g k t) ks)) t l in
      omega arith

  none_awaited : (ks : List ℕ) → AllByRecursion (λ k. k < length g) ks → (n : ℕ) → awaits g ks n ≡ false
  none_awaited [] h n = refl
  none_awaited (k ∷ ks) h n = ap (λ b. b || awaits g ks n) (ne_eqb k (n + length g) (λ e. let l = h.0 in absurd (omega arith))) ∙ none_awaited ks h.1 n

  present_full : (t k : ℕ) → IsPresent g t k → IsFull g t k
  present_full t k h = number_one g k t ∙ version-present g t k h

module _ (R : ℕ → ℕ → ℕ → Type 0) (rising : IsRising R) (zeros_pair : (t : ℕ) → t < 5 → R t 0 0) (g h : Graph) (c : IsChained g) (d : IsChained h) where
  -- points whose counts pair
  fronted : (t : ℕ) (ks ms : List ℕ) (a b : ℕ) → most (map (λ k. version g k t) ks) ≡ a → most (map (λ k. version h k t) ms) ≡ b → R t a b → AllByRecursion (λ k. k < length g) ks → AllByRecursion (λ k. k < length h) ms → SameAt R g h t ks ms
  fronted t ks ms a b e f r i j = record {
    pair = subst₂ (R t) (sym (counted g c ks t ∙ e)) (sym (counted h d ms t ∙ f)) r;
    awaits = λ n. none_awaited g ks i n ∙ sym (none_awaited h ms j n);
    chain = chain_of g c t;
    chain_too = chain_of h d t;
  }

  none_front : SameFront R g h [] []
  none_front t l = fronted t [] [] 0 0 refl refl (zeros_pair t l) tt tt

  point_front : (k m : ℕ) (vs ws : List ℕ) → Shows g k vs → Shows h m ws → PairsVectors R vs ws → SameFront R g h (k ∷ []) (m ∷ [])
  point_front k m vs ws s r e t l = fronted t (k ∷ []) (m ∷ []) (slice_index vs t) (slice_index ws t) (only (version g k t) ∙ version_shown g k vs t l s) (only (version h m t) ∙ version_shown h m ws t l r) (e t l) (s.made, tt) (r.made, tt)
    where
      only : (n : ℕ) → max n 0 ≡ n
      only n = omega arith

  record_front : (ks ms vs ws : List ℕ) → ShowsRecord g ks vs → ShowsRecord h ms ws → PairsVectors R vs ws → SameFront R g h ks ms
  record_front ks ms vs ws s r e t l = fronted t ks ms (slice_index vs t) (slice_index ws t) (record_shown g ks vs t l s) (record_shown h ms ws t l r) (e t l) s.made r.made

  touch_shown : (t : ℕ) (o u v w : Option ℕ) → t < 5 → ShowsTouch g t o v → ShowsTouch h t u w → PairsCounts R t v w → SameTouch R g h t o u
  touch_shown t None None v w l s r e = no_touch
  touch_shown t None (Some m) None None l s r e = absurd r
  touch_shown t None (Some m) None (Some j) l s r e = absurd e
  touch_shown t None (Some m) (Some i) w l s r e = absurd s
  touch_shown t (Some k) None None w l s r e = absurd s
  touch_shown t (Some k) None (Some i) None l s r e = absurd e
  touch_shown t (Some k) None (Some i) (Some j) l s r e = absurd r
  touch_shown t (Some k) (Some m) None w l s r e = absurd s
  touch_shown t (Some k) (Some m) (Some i) None l s r e = absurd e
  touch_shown t (Some k) (Some m) (Some i) (Some j) l s r e = both_touch k m (fronted t (k ∷ []) (m ∷ []) i j (only (version g k t) ∙ sym s.1) (only (version h m t) ∙ sym r.1) e (s.0, tt) (r.0, tt))
    where
      only : (n : ℕ) → max n 0 ≡ n
      only n = omega arith

  thread_shown : (t : ℕ) (a b : ThreadPoints) (v w : ThreadViews) → t < 5 → IsPresent g t a.present → IsPresent h t b.present → ShowsThread g t a v → ShowsThread h t b w → PairsThreads R t v w → SameThread R g h t a b
  thread_shown t a b v w l i k s r e = record {
    present = point_front a.present b.present v.present w.present s.present r.present e.present;
    released = point_front a.released b.released v.released w.released s.released r.released e.released;
    yielded = touch_shown t a.yielded b.yielded v.last_yield w.last_yield l s.yielded r.yielded e.last_yield;
    full = present_full g t a.present i;
    full_too = present_full h t b.present k;
  }

  store_shown : (a b : StorePoints) (v w : Store) → ShowsStore g a v → ShowsStore h b w → PairsStores R v w → SameStore R g h a b
  store_shown a b v w s r e = record {
    value = s.value ∙ e.value ∙ sym r.value;
    order = point_front a.order b.order v.order w.order s.order r.order e.order;
    sync = point_front a.sync b.sync v.sync w.sync s.sync r.sync e.sync;
    seq_cst = s.seq_cst ∙ e.seq_cst ∙ sym r.seq_cst;
    touches = s.five ∙ sym r.five;
    touched = λ t l. touch_shown t (touch_of a t) (touch_of b t) (slice_index_or v.first_seen.versions t None) (slice_index_or w.first_seen.versions t None) l (s.touched t l) (r.touched t l) (e.first_seen t l);
  }

  module _ (first : SameFront R g h (0 ∷ []) (0 ∷ [])) where
    stores_shown : (xs ys : List StorePoints) (v w : State) → length xs ≡ v.count → length ys ≡ w.count → PairsStates R v w
        → ((i : ℕ) → i < 7 → i < length xs → ShowsStore g (in_slot xs i) (store_at v.stores i)) → ((i : ℕ) → i < 7 → i < length ys → ShowsStore h (in_slot ys i) (store_at w.stores i)) → SameStores R g h xs ys
    stores_shown xs ys v w e f pairs s r = record { count = as_many; each = λ n l. kept n l (cases_lt n (length xs)) }
      where
        as_many : length xs ≡ length ys
        as_many = e ∙ pairs.count ∙ sym f

        there_so : (n : ℕ) → length xs ≤ n + 7 → n < length xs → SameStore R g h (get_or xs n blank) (get_or ys n blank)
        there_so n l i =
            let a : number_in_slot (length xs) (n % 7) ≡ n = number_again (length xs) n i l in
            let m = as_many in
            let b : number_in_slot (length ys) (n % 7) ≡ n = number_again (length ys) n (omega arith) (omega arith) in
            let one : SameStore R g h (in_slot xs (n % 7)) (in_slot ys (n % 7)) =
            store_shown (in_slot xs (n % 7)) (in_slot ys (n % 7)) (store_at v.stores (n % 7)) (store_at w.stores (n % 7)) (s (n % 7) (omega arith) (omega arith)) (r (n % 7) (omega arith) (omega arith)) (pairs.stores (n % 7) (omega arith)) in
            subst (λ k. SameStore R g h (get_or xs n blank) (get_or ys k blank)) b (subst (λ k. SameStore R g h (get_or xs k blank) (in_slot ys (n % 7))) a one)

        kept : (n : ℕ) → length xs ≤ n + 7 → ((n < length xs) ⊎ (length xs ≤ n)) → SameStore R g h (get_or xs n blank) (get_or ys n blank)
        kept n l (inl i) = there_so n l i
        kept n l (inr i) = let m = as_many in rw (get_or_past xs n blank i, get_or_past ys n blank (omega arith)) ((none_stored R rising g h first).each n (omega arith))

    history_shown : (a b : History) (v w : State) → ShowsState g a v → ShowsState h b w → PairsStates R v w → SameHistory R g h a b
    history_shown a b v w s r e = record {
      stores = stores_shown a.stores b.stores v w s.count r.count e s.stores r.stores;
      loads = record_front a.loads b.loads v.loaded_at w.loaded_at s.loads r.loads e.loaded_at;
      stored = record_front a.stored b.stored v.stored_at w.stored_at s.stored r.stored e.stored_at;
      unsync_loads = record_front a.unsync_loads b.unsync_loads v.unsync_loaded_at w.unsync_loaded_at s.unsync_loads r.unsync_loads e.unsync_loaded_at;
      mutations = record_front a.mutations b.mutations v.unsync_mut_at w.unsync_mut_at s.mutations r.mutations e.unsync_mut_at;
      mutating = s.mutating ∙ e.is_mutating ∙ sym r.mutating;
    }

    place_shown : (a b : Place) (v w : Kept) → ShowsPlace g a v → ShowsPlace h b w → PairsPlaces R v w → SamePlace R g h a b
    place_shown (Meets k) (Meets m) (Point v) (Point w) s r e = same_point k m (point_front k m v w s r e)
    place_shown (Keeps a) (Keeps b) (Atomic v) (Atomic w) s r e = same_atomic a b (history_shown a b v w s.0 r.0 e)
    place_shown (Records a) (Records b) (Cell v) (Cell w) s r e = same_cell a b (record_front a.reads b.reads v.reads w.reads s.reads r.reads e.reads) (record_front a.writes b.writes v.writes w.writes s.writes r.writes e.writes)
    place_shown (Meets k) b (Atomic v) w s r e = absurd s
    place_shown (Meets k) b (Cell v) w s r e = absurd s
    place_shown (Meets k) b (Point v) (Atomic w) s r e = absurd e
    place_shown (Meets k) b (Point v) (Cell w) s r e = absurd e
    place_shown (Meets k) (Keeps b) (Point v) (Point w) s r e = absurd r
    place_shown (Meets k) (Records b) (Point v) (Point w) s r e = absurd r
    place_shown (Keeps a) b (Point v) w s r e = absurd s
    place_shown (Keeps a) b (Cell v) w s r e = absurd s
    place_shown (Keeps a) b (Atomic v) (Point w) s r e = absurd e
    place_shown (Keeps a) b (Atomic v) (Cell w) s r e = absurd e
    place_shown (Keeps a) (Meets m) (Atomic v) (Atomic w) s r e = absurd r
    place_shown (Keeps a) (Records b) (Atomic v) (Atomic w) s r e = absurd r
    place_shown (Records a) b (Point v) w s r e = absurd s
    place_shown (Records a) b (Atomic v) w s r e = absurd s
    place_shown (Records a) b (Cell v) (Point w) s r e = absurd e
    place_shown (Records a) b (Cell v) (Atomic w) s r e = absurd e
    place_shown (Records a) (Meets m) (Cell v) (Cell w) s r e = absurd r
    place_shown (Records a) (Keeps b) (Cell v) (Cell w) s r e = absurd r

    place_at : (o u : Option Place) (v w : Option Kept) → ShowsPlaceAt g o v → ShowsPlaceAt h u w → PairsAt R (PairsPlaces R) v w → Both (SamePlace R g h) o u
    place_at None None v w s r e = no_one
    place_at None (Some b) None None s r e = absurd r
    place_at None (Some b) None (Some y) s r e = absurd e
    place_at None (Some b) (Some x) w s r e = absurd s
    place_at (Some a) u None w s r e = absurd s
    place_at (Some a) u (Some x) None s r e = absurd e
    place_at (Some a) None (Some x) (Some y) s r e = absurd r
    place_at (Some a) (Some b) (Some x) (Some y) s r e = both a b (place_shown a b x y s r e)

    stamp_at : (o u : Option ℕ) (v w : Option (List ℕ)) → ShowsStampAt g o v → ShowsStampAt h u w → PairsAt R (PairsVectors R) v w → Both (SameStamp R g h) o u
    stamp_at None None v w s r e = no_one
    stamp_at None (Some m) None None s r e = absurd r
    stamp_at None (Some m) None (Some y) s r e = absurd e
    stamp_at None (Some m) (Some x) w s r e = absurd s
    stamp_at (Some k) u None w s r e = absurd s
    stamp_at (Some k) u (Some x) None s r e = absurd e
    stamp_at (Some k) None (Some x) (Some y) s r e = absurd r
    stamp_at (Some k) (Some m) (Some x) (Some y) s r e = both k m (point_front k m x y s r e)

    thread_at : (t : ℕ) (o u : Option ThreadPoints) (v w : Option ThreadViews) → t < 5 → is_some o ≡ is_some u → ShowsThreadAt g t o v → ShowsThreadAt h t u w → PairsAt R (PairsThreads R t) v w → Both (SameThread R g h t) o u
    thread_at t None None v w l i s r e = no_one
    thread_at t None (Some b) v w l i s r e = absurd (cc i)
    thread_at t (Some a) None v w l i s r e = absurd (cc i)
    thread_at t (Some a) (Some b) None w l i s r e = absurd s
    thread_at t (Some a) (Some b) (Some x) None l i s r e = absurd e
    thread_at t (Some a) (Some b) (Some x) (Some y) l i s r e = both a b (thread_shown t a b x y l s.0 r.0 s.1 r.1 e)

as_many_there : {X : Type 0} (xs ys : List X) (n : ℕ) → length xs ≡ length ys → is_some (slice_get xs n) ≡ is_some (slice_get ys n)
as_many_there [] [] n e = refl
as_many_there [] (y ∷ ys) n e = absurd (omega arith)
as_many_there (x ∷ xs) [] n e = absurd (omega arith)
as_many_there (x ∷ xs) (y ∷ ys) zero e = refl
as_many_there (x ∷ xs) (y ∷ ys) (suc n) e = as_many_there xs ys n (omega arith)

-- who isn't there has raised nothing
absent_by : (g : Graph) (xs : List ThreadPoints) (t : ℕ) (w : Option ThreadViews) → length xs ≤ t → ShowsThreadAt g t (slice_get xs t) w → raised g t ≡ []
absent_by g xs t w l s = subst (λ o. ShowsThreadAt g t o w) (slice_get_past xs t l) s

-- No thread is raised by the first point of a run, so none of their raising points reaches it.
raised_later : (g : Graph) (t : ℕ) → AllByRecursion (λ i. 0 < i) (raised (g ++ opening.graph) t)
unfolding raised
raised_later [] t = tt
raised_later (x ∷ g) t =
    let more : length (g ++ opening.graph) ≡ length g + 3 = length-append g opening.graph in
    let rest : AllByRecursion (λ i. 0 < i) (raised (g ++ opening.graph) t) = raised_later g t in
    ⊎_elim (λ e. rw e (omega arith, rest)) (λ e. rw e rest) (cases_Bool (raises_version x.raises t))

none_at_first : (g : Graph) (xs : List ℕ) → AllByRecursion (λ i. 0 < i) xs → count (λ i. list_any (λ k. reaches g i k) (0 ∷ [])) xs ≡ 0
none_at_first g [] h = refl
none_at_first g (x ∷ xs) h = count-no (λ i. list_any (λ k. reaches g i k) (0 ∷ [])) x xs (ap (λ b. b || false) (reaches-none g x 0 (inl h.0))) ∙ none_at_first g xs h.1

first_number : (g : Graph) → Extends opening.graph g → (t : ℕ) → number g (0 ∷ []) t ≡ 0
unfolding number
first_number g e t = subst (λ f. number f (0 ∷ []) t ≡ 0) (sym e.is) (none_at_first (e.added ++ opening.graph) (raised (e.added ++ opening.graph) t) (raised_later e.added t))

first_there : (g : Graph) → Extends opening.graph g → 0 < length g
first_there g e = let more = length-append e.added opening.graph in let is = ap (λ (f : Graph). length f) e.is in omega arith

first_front : (R : ℕ → ℕ → ℕ → Type 0) → ((t : ℕ) → t < 5 → R t 0 0) → (g h : Graph) (c : IsChained g) (d : IsChained h) → Extends opening.graph g → Extends opening.graph h → SameFront R g h (0 ∷ []) (0 ∷ [])
first_front R zeros_pair g h c d e f t l = record {
  pair = subst₂ (R t) (sym (first_number g e t)) (sym (first_number h f t)) (zeros_pair t l);
  awaits = λ n. none_awaited g (0 ∷ []) (first_there g e, tt) n ∙ sym (none_awaited h (0 ∷ []) (first_there h f, tt) n);
  chain = chain_of g c t;
  chain_too = chain_of h d t;
}

as_many : (g : Graph) (xs : List Place) (kept : List Kept) → ((n : ℕ) → ShowsPlaceAt g (slice_get xs n) (slice_get kept n)) → length xs ≡ length kept
as_many g [] [] s = refl
as_many g [] (k ∷ kept) s = absurd (s 0)
as_many g (x ∷ xs) [] s = absurd (s 0)
as_many g (x ∷ xs) (k ∷ kept) s = ap suc (as_many g xs kept (λ n. s (suc n)))

module _ (R : ℕ → ℕ → ℕ → Type 0) (rising : IsRising R) (p q : Points) (v w : Views) (led : Leads opening p) (led_too : Leads opening q) (a : ShowsViews p v) (b : ShowsViews q w) (e : PairsViews R v w) where
  pairs_shown : seen p ≡ seen q
  pairs_shown =
      let g : Graph = p.graph in
      let h : Graph = q.graph in
      let threads : length p.threads ≡ length q.threads = a.count ∙ e.count ∙ sym b.count in
      let first : SameFront R g h (0 ∷ []) (0 ∷ []) = first_front R e.none g h a.chained b.chained (adding_law opening p (omega arith) led).graph (adding_law opening q (omega arith) led_too).graph in
      seen_to R rising p q (record {
        few = a.most;
        threads = threads;
        none = none_front R rising e.none g h a.chained b.chained;
        first = first;
        thread = λ t l. thread_at R rising e.none g h a.chained b.chained first t (slice_get p.threads t) (slice_get q.threads t) (slice_get v.threads t) (slice_get w.threads t) l (as_many_there p.threads q.threads t threads) (a.threads t l) (b.threads t l) (e.threads t l);
        places = as_many g p.places v.places a.places ∙ e.places.count ∙ sym (as_many h q.places w.places b.places);
        place = λ n. place_at R rising e.none g h a.chained b.chained first (slice_get p.places n) (slice_get q.places n) (slice_get v.places n) (slice_get w.places n) (a.places n) (b.places n) (e.places.each n);
        stamps = a.stamps.count ∙ e.stamps.count ∙ sym b.stamps.count;
        stamp = λ m. stamp_at R rising e.none g h a.chained b.chained first (slice_get p.stamps m) (slice_get q.stamps m) (slice_get v.stamps m) (slice_get w.stamps m) (a.stamps.each m) (b.stamps.each m) (e.stamps.each m);
        global = point_front R rising e.none g h a.chained b.chained p.global q.global v.global w.global a.global b.global e.global;
        absent = λ t l i. (absent_by g p.threads t (slice_get v.threads t) i (a.threads t l), absent_by h q.threads t (slice_get w.threads t) (omega arith) (b.threads t l));
      })

pub shown_law : ShownLaw
shown_law p q v w views led led_too a b one other =
    pairs_shown (Through (λ t m n. one.rank t m ≡ Some n) (λ t m n. other.rank t m ≡ Some n)) (through_rising (λ t m n. one.rank t m ≡ Some n) (λ t m n. other.rank t m ≡ Some n) one.rising other.rising) p q v w led led_too a b
    (through_views (λ t m n. one.rank t m ≡ Some n) (λ t m n. other.rank t m ≡ Some n) v w views one.views other.views)
