-- Threads, objects and whole runs of which the same is seen.
use Rattle.std.proofs.Common.{zero, suc, ◌≡◌, ℕ, ◌+◌, ◌<◌, ◌≤◌, List, [], ◌∷◌, ◌++◌, length, set, get_or, ap, sym, ◌∙◌, arith, subst, ⊎_elim, Option, Some, None}
use Rattle.std.specs.Prelude.{slice_get}
use Rattle.std.proofs.lemmas.Bool.{cases_eq, cases_lt}
use Rattle.std.proofs.lemmas.List.{length-set, length_push}
use Rattle.std.proofs.lemmas.Option.{slice_get_past}
use Rattle.loom_views.specs.Graph.{Graph, raised}
use Rattle.loom_views.specs.ThreadViews.{ThreadPoints}
use Rattle.loom_views.specs.CellAccesses.{Accesses}
use Rattle.loom_views.specs.Atomic.History.{StorePoints, History, blank, touch_of}
use Rattle.loom_views.specs.Views.{Place, Meets, Keeps, Records, Points}
use Rattle.loom_views.proofs.Atomic.Table.Lists.{get-set_same, get-set_other, get-append_same, get-append_other, set-past}
use Rattle.loom_views.proofs.Sight.Fronts.{SameFront, SameTouch, no_touch, both_touch, Later, BothQuiet, IsFull, full_later}

-- an element of a list is at a place in it
pub is_there : {X : Type 0} (xs : List X) (n : ℕ) (x : X) → slice_get xs n ≡ Some x → n < length xs
is_there [] n x e = absurd (cc e)
is_there (y ∷ xs) zero x e = omega arith
is_there (y ∷ xs) (suc n) x e = let l = is_there xs n x e in omega arith

-- both are there, and stand to each other so, or neither is there
pub data Both {X : Type 0} (R : X → X → Type 0) : Option X → Option X → Type 0 where
  no_one : Both R None None
  both : (x y : X) → R x y → Both R (Some x) (Some y)

pub both_more : {X : Type 0} (R S : X → X → Type 0) (o u : Option X) → ((x y : X) → R x y → S x y) → Both R o u → Both S o u
both_more R S None None f no_one = no_one
both_more R S None (Some y) f s = elim s [ ]
both_more R S (Some x) None f s = elim s [ ]
both_more R S (Some x) (Some y) f (both _ _ r) = both x y (f x y r)

module _ {X : Type 0} (R : ℕ → X → X → Type 0) (xs ys : List X) (e : length xs ≡ length ys) where
  pub both_set : (i n : ℕ) (x y : X) → R i x y → Both (R n) (slice_get xs n) (slice_get ys n) → Both (R n) (slice_get (set xs i x) n) (slice_get (set ys i y) n)
  both_set i n x y r old = ⊎_elim same other (cases_eq n i)
    where
      same : n ≡ i → Both (R n) (slice_get (set xs i x) n) (slice_get (set ys i y) n)
      same q = ⊎_elim
          (λ l. subst (λ m. Both (R m) (slice_get (set xs i x) m) (slice_get (set ys i y) m)) (sym q) (rw (get-set_same xs i x l, get-set_same ys i y (omega arith)) (both x y r)))
          (λ l. rw (set-past xs i x l, set-past ys i y (omega arith)) old)
          (cases_lt i (length xs))

      other : (n ≡ i → ⊥) → Both (R n) (slice_get (set xs i x) n) (slice_get (set ys i y) n)
      other q = rw (get-set_other xs i n x q, get-set_other ys i n y q) old

  pub both_push : (n : ℕ) (x y : X) → (n ≡ length xs → R n x y) → Both (R n) (slice_get xs n) (slice_get ys n) → Both (R n) (slice_get (xs ++ x ∷ []) n) (slice_get (ys ++ y ∷ []) n)
  both_push n x y r old = ⊎_elim same other (cases_eq n (length xs))
    where
      same : n ≡ length xs → Both (R n) (slice_get (xs ++ x ∷ []) n) (slice_get (ys ++ y ∷ []) n)
      same q = rw (get-append_same xs n x q, get-append_same ys n y (q ∙ e)) (both x y (r q))

      other : (n ≡ length xs → ⊥) → Both (R n) (slice_get (xs ++ x ∷ []) n) (slice_get (ys ++ y ∷ []) n)
      other q = rw (get-append_other xs n x q, get-append_other ys n y (λ f. q (f ∙ sym e))) old

-- ---- what is seen of parts

module _ (R : ℕ → ℕ → ℕ → Type 0) where
  module _ (g h : Graph) where
    pub record SameThread (t : ℕ) (a b : ThreadPoints) : Type 0 where
      pub present : SameFront R g h (a.present ∷ []) (b.present ∷ [])
      pub released : SameFront R g h (a.released ∷ []) (b.released ∷ [])
      pub yielded : SameTouch R g h t a.yielded b.yielded
      pub full : IsFull g t a.present
      pub full_too : IsFull h t b.present

    pub record SameStore (a b : StorePoints) : Type 0 where
      pub value : a.value ≡ b.value
      pub order : SameFront R g h (a.order ∷ []) (b.order ∷ [])
      pub sync : SameFront R g h (a.sync ∷ []) (b.sync ∷ [])
      pub seq_cst : a.seq_cst ≡ b.seq_cst
      pub touches : length a.touched ≡ length b.touched
      pub touched : (t : ℕ) → t < 5 → SameTouch R g h t (touch_of a t) (touch_of b t)

    -- as many stores, of which the last seven are the same
    pub record SameStores (xs ys : List StorePoints) : Type 0 where
      pub count : length xs ≡ length ys
      pub each : (n : ℕ) → length xs ≤ n + 7 → SameStore (get_or xs n blank) (get_or ys n blank)

    pub record SameHistory (a b : History) : Type 0 where
      pub stores : SameStores a.stores b.stores
      pub loads : SameFront R g h a.loads b.loads
      pub stored : SameFront R g h a.stored b.stored
      pub unsync_loads : SameFront R g h a.unsync_loads b.unsync_loads
      pub mutations : SameFront R g h a.mutations b.mutations
      pub mutating : a.mutating ≡ b.mutating

    pub data SamePlace : Place → Place → Type 0 where
      same_point : (k m : ℕ) → SameFront R g h (k ∷ []) (m ∷ []) → SamePlace (Meets k) (Meets m)
      same_atomic : (a b : History) → SameHistory a b → SamePlace (Keeps a) (Keeps b)
      same_cell : (a b : Accesses) → SameFront R g h a.reads b.reads → SameFront R g h a.writes b.writes → SamePlace (Records a) (Records b)

    abbrev pub SameStamp : ℕ → ℕ → Type 0
    SameStamp k m = SameFront R g h (k ∷ []) (m ∷ [])

    -- a thread that is in both runs, or in neither
    pub data Acting (t : ℕ) : Option ThreadPoints → Option ThreadPoints → Type 0 where
      nobody : Acting t None None
      acts : (a b : ThreadPoints) → t < 5 → SameThread t a b → Acting t (Some a) (Some b)

    acts_both : (t : ℕ) (o u : Option ThreadPoints) → t < 5 → Both (SameThread t) o u → Acting t o u
    acts_both t None None l no_one = nobody
    acts_both t None (Some b) l s = elim s [ ]
    acts_both t (Some a) None l s = elim s [ ]
    acts_both t (Some a) (Some b) l (both _ _ s) = acts a b l s

  -- the same is seen of two runs, of five threads at most
  pub record Same (p q : Points) : Type 0 where
    pub few : length p.threads ≤ 5
    pub threads : length p.threads ≡ length q.threads
    pub none : SameFront R p.graph q.graph [] []
    pub first : SameFront R p.graph q.graph (0 ∷ []) (0 ∷ [])
    pub thread : (t : ℕ) → t < 5 → Both (SameThread p.graph q.graph t) (slice_get p.threads t) (slice_get q.threads t)
    pub places : length p.places ≡ length q.places
    pub place : (n : ℕ) → Both (SamePlace p.graph q.graph) (slice_get p.places n) (slice_get q.places n)
    pub stamps : length p.stamps ≡ length q.stamps
    pub stamp : (m : ℕ) → Both (SameStamp p.graph q.graph) (slice_get p.stamps m) (slice_get q.stamps m)
    pub global : SameFront R p.graph q.graph (p.global ∷ []) (q.global ∷ [])
    -- who isn't there has raised nothing
    pub absent : (t : ℕ) → t < 5 → length p.threads ≤ t → (raised p.graph t ≡ []) × (raised q.graph t ≡ [])

  pub acting : (p q : Points) → Same p q → (t : ℕ) → Acting p.graph q.graph t (slice_get p.threads t) (slice_get q.threads t)
  acting p q s t = ⊎_elim
      (λ l. acts_both p.graph q.graph t (slice_get p.threads t) (slice_get q.threads t) l (s.thread t l))
      (λ l. let few = s.few in let threads = s.threads in rw (slice_get_past p.threads t (omega arith), slice_get_past q.threads t (omega arith)) nobody)
      (cases_lt t 5)

  -- what holds of two objects of which the same is seen, whatever they are
  module _ (g h : Graph) (P : Option Place → Option Place → Type 0) (absent : P None None) (points : (k m : ℕ) → SameFront R g h (k ∷ []) (m ∷ []) → P (Some (Meets k)) (Some (Meets m)))
      (atomics : (a b : History) → SameHistory g h a b → P (Some (Keeps a)) (Some (Keeps b))) (cells : (a b : Accesses) → SameFront R g h a.reads b.reads → SameFront R g h a.writes b.writes → P (Some (Records a)) (Some (Records b))) where
    kind_of : (a b : Place) → SamePlace g h a b → P (Some a) (Some b)
    kind_of (Meets k) (Meets m) (same_point _ _ s) = points k m s
    kind_of (Keeps a) (Keeps b) (same_atomic _ _ s) = atomics a b s
    kind_of (Records a) (Records b) (same_cell _ _ s r) = cells a b s r
    kind_of (Meets k) (Keeps b) s = elim s [ ]
    kind_of (Meets k) (Records b) s = elim s [ ]
    kind_of (Keeps a) (Meets m) s = elim s [ ]
    kind_of (Keeps a) (Records b) s = elim s [ ]
    kind_of (Records a) (Meets m) s = elim s [ ]
    kind_of (Records a) (Keeps b) s = elim s [ ]

    pub by_place : (o u : Option Place) → Both (SamePlace g h) o u → P o u
    by_place None None no_one = absent
    by_place (Some a) (Some b) (both _ _ s) = kind_of a b s
    by_place None (Some b) s = elim s [ ]
    by_place (Some a) None s = elim s [ ]

  -- what holds of a thread that is in both runs or in neither
  pub by_thread : (g h : Graph) (t : ℕ) (P : Option ThreadPoints → Option ThreadPoints → Type 0) → P None None → ((a b : ThreadPoints) → t < 5 → SameThread g h t a b → P (Some a) (Some b)) → (o u : Option ThreadPoints) → Acting g h t o u → P o u
  by_thread g h t P none some None None nobody = none
  by_thread g h t P none some (Some a) (Some b) (acts _ _ l s) = some a b l s
  by_thread g h t P none some None (Some b) s = elim s [ ]
  by_thread g h t P none some (Some a) None s = elim s [ ]

  -- ---- the graphs grow

  module _ (g h g' h' : Graph) (later : Later R g h g' h') where
    pub front_later : (ks ms : List ℕ) → SameFront R g h ks ms → SameFront R g' h' ks ms
    front_later ks ms s t l = later t l ks ms (s t l)

    pub touch_later : (t : ℕ) (o u : Option ℕ) → t < 5 → SameTouch R g h t o u → SameTouch R g' h' t o u
    touch_later t None None l no_touch = no_touch
    touch_later t None (Some m) l s = elim s [ ]
    touch_later t (Some k) None l s = elim s [ ]
    touch_later t (Some k) (Some m) l (both_touch _ _ s) = both_touch k m (later t l (k ∷ []) (m ∷ []) s)

    pub thread_later : BothQuiet g h g' h' → (t : ℕ) (a b : ThreadPoints) → t < 5 → SameThread g h t a b → SameThread g' h' t a b
    thread_later quiet t a b l s = record {
      present = front_later (a.present ∷ []) (b.present ∷ []) s.present;
      released = front_later (a.released ∷ []) (b.released ∷ []) s.released;
      yielded = touch_later t a.yielded b.yielded l s.yielded;
      full = full_later g g' quiet.0 t a.present s.full;
      full_too = full_later h h' quiet.1 t b.present s.full_too;
    }

    pub store_later : (a b : StorePoints) → SameStore g h a b → SameStore g' h' a b
    store_later a b s = record {
      value = s.value;
      order = front_later (a.order ∷ []) (b.order ∷ []) s.order;
      sync = front_later (a.sync ∷ []) (b.sync ∷ []) s.sync;
      seq_cst = s.seq_cst;
      touches = s.touches;
      touched = λ t l. touch_later t (touch_of a t) (touch_of b t) l (s.touched t l);
    }

    pub stores_later : (xs ys : List StorePoints) → SameStores g h xs ys → SameStores g' h' xs ys
    stores_later xs ys s = record { count = s.count; each = λ n l. store_later (get_or xs n blank) (get_or ys n blank) (s.each n l) }

    pub history_later : (a b : History) → SameHistory g h a b → SameHistory g' h' a b
    history_later a b s = record {
      stores = stores_later a.stores b.stores s.stores;
      loads = front_later a.loads b.loads s.loads;
      stored = front_later a.stored b.stored s.stored;
      unsync_loads = front_later a.unsync_loads b.unsync_loads s.unsync_loads;
      mutations = front_later a.mutations b.mutations s.mutations;
      mutating = s.mutating;
    }

    pub place_later : (a b : Place) → SamePlace g h a b → SamePlace g' h' a b
    place_later (Meets k) (Meets m) (same_point _ _ s) = same_point k m (front_later (k ∷ []) (m ∷ []) s)
    place_later (Meets k) (Keeps b) s = elim s [ ]
    place_later (Meets k) (Records b) s = elim s [ ]
    place_later (Keeps a) (Meets m) s = elim s [ ]
    place_later (Keeps a) (Records b) s = elim s [ ]
    place_later (Records a) (Meets m) s = elim s [ ]
    place_later (Records a) (Keeps b) s = elim s [ ]
    place_later (Keeps a) (Keeps b) (same_atomic _ _ s) = same_atomic a b (history_later a b s)
    place_later (Records a) (Records b) (same_cell _ _ s r) = same_cell a b (front_later a.reads b.reads s) (front_later a.writes b.writes r)

  pub points_later : (p q : Points) (g h : Graph) → Later R p.graph q.graph g h → BothQuiet p.graph q.graph g h → Same p q → Same (record p { graph = g }) (record q { graph = h })
  points_later p q g h later quiet s = record {
    few = s.few;
    threads = s.threads;
    none = front_later p.graph q.graph g h later [] [] s.none;
    first = front_later p.graph q.graph g h later (0 ∷ []) (0 ∷ []) s.first;
    thread = λ t l. both_more (SameThread p.graph q.graph t) (SameThread g h t) (slice_get p.threads t) (slice_get q.threads t) (λ a b r. thread_later p.graph q.graph g h later quiet t a b l r) (s.thread t l);
    places = s.places;
    place = λ n. both_more (SamePlace p.graph q.graph) (SamePlace g h) (slice_get p.places n) (slice_get q.places n) (place_later p.graph q.graph g h later) (s.place n);
    stamps = s.stamps;
    stamp = λ m. both_more (SameStamp p.graph q.graph) (SameStamp g h) (slice_get p.stamps m) (slice_get q.stamps m) (λ k n r. front_later p.graph q.graph g h later (k ∷ []) (n ∷ []) r) (s.stamp m);
    global = front_later p.graph q.graph g h later (p.global ∷ []) (q.global ∷ []) s.global;
    absent = λ t l i. (quiet.0.raises t ∙ (s.absent t l i).0, quiet.1.raises t ∙ (s.absent t l i).1);
  }

  -- so do the threads, which may be others then
  pub threads_later : (p q : Points) (g h : Graph) (xs ys : List ThreadPoints) → Later R p.graph q.graph g h → Same p q → length xs ≤ 5 → length xs ≡ length ys → ((t : ℕ) → t < 5 → Both (SameThread g h t) (slice_get xs t) (slice_get ys t))
      → ((t : ℕ) → t < 5 → length xs ≤ t → (raised g t ≡ []) × (raised h t ≡ [])) → Same (record p { graph = g; threads = xs }) (record q { graph = h; threads = ys })
  threads_later p q g h xs ys later s few as_many thread absent = record {
    few = few;
    threads = as_many;
    none = front_later p.graph q.graph g h later [] [] s.none;
    first = front_later p.graph q.graph g h later (0 ∷ []) (0 ∷ []) s.first;
    thread = thread;
    places = s.places;
    place = λ n. both_more (SamePlace p.graph q.graph) (SamePlace g h) (slice_get p.places n) (slice_get q.places n) (place_later p.graph q.graph g h later) (s.place n);
    stamps = s.stamps;
    stamp = λ m. both_more (SameStamp p.graph q.graph) (SameStamp g h) (slice_get p.stamps m) (slice_get q.stamps m) (λ k n r. front_later p.graph q.graph g h later (k ∷ []) (n ∷ []) r) (s.stamp m);
    global = front_later p.graph q.graph g h later (p.global ∷ []) (q.global ∷ []) s.global;
    absent = absent;
  }

  -- ---- one part is written

  module _ (p q : Points) (s : Same p q) where
    pub thread_set : (t : ℕ) (a b : ThreadPoints) → SameThread p.graph q.graph t a b → Same (record p { threads = set p.threads t a }) (record q { threads = set q.threads t b })
    thread_set t a b r = record {
      few = let few = s.few in let e = length-set p.threads t a in omega arith;
      threads = length-set p.threads t a ∙ s.threads ∙ sym (length-set q.threads t b);
      none = s.none;
      first = s.first;
      thread = λ u l. both_set (SameThread p.graph q.graph) p.threads q.threads s.threads t u a b r (s.thread u l);
      places = s.places;
      place = s.place;
      stamps = s.stamps;
      stamp = s.stamp;
      global = s.global;
      absent = λ u l i. s.absent u l (let e = length-set p.threads t a in omega arith);
    }

    pub place_set : (n : ℕ) (a b : Place) → SamePlace p.graph q.graph a b → Same (record p { places = set p.places n a }) (record q { places = set q.places n b })
    place_set n a b r = record {
      few = s.few;
      threads = s.threads;
      none = s.none;
      first = s.first;
      thread = s.thread;
      places = length-set p.places n a ∙ s.places ∙ sym (length-set q.places n b);
      place = λ m. both_set (λ i. SamePlace p.graph q.graph) p.places q.places s.places n m a b r (s.place m);
      stamps = s.stamps;
      stamp = s.stamp;
      global = s.global;
      absent = s.absent;
    }

    pub place_added : (a b : Place) → SamePlace p.graph q.graph a b → Same (record p { places = p.places ++ a ∷ [] }) (record q { places = q.places ++ b ∷ [] })
    place_added a b r = record {
      few = s.few;
      threads = s.threads;
      none = s.none;
      first = s.first;
      thread = s.thread;
      places = length_push p.places a ∙ ap (λ n. n + 1) s.places ∙ sym (length_push q.places b);
      place = λ m. both_push (λ i. SamePlace p.graph q.graph) p.places q.places s.places m a b (λ e. r) (s.place m);
      stamps = s.stamps;
      stamp = s.stamp;
      global = s.global;
      absent = s.absent;
    }

    pub stamp_set : (m k n : ℕ) → SameStamp p.graph q.graph k n → Same (record p { stamps = set p.stamps m k }) (record q { stamps = set q.stamps m n })
    stamp_set m k n r = record {
      few = s.few;
      threads = s.threads;
      none = s.none;
      first = s.first;
      thread = s.thread;
      places = s.places;
      place = s.place;
      stamps = length-set p.stamps m k ∙ s.stamps ∙ sym (length-set q.stamps m n);
      stamp = λ i. both_set (λ j. SameStamp p.graph q.graph) p.stamps q.stamps s.stamps m i k n r (s.stamp i);
      global = s.global;
      absent = s.absent;
    }

    pub stamp_added : (k n : ℕ) → SameStamp p.graph q.graph k n → Same (record p { stamps = p.stamps ++ k ∷ [] }) (record q { stamps = q.stamps ++ n ∷ [] })
    stamp_added k n r = record {
      few = s.few;
      threads = s.threads;
      none = s.none;
      first = s.first;
      thread = s.thread;
      places = s.places;
      place = s.place;
      stamps = length_push p.stamps k ∙ ap (λ m. m + 1) s.stamps ∙ sym (length_push q.stamps n);
      stamp = λ i. both_push (λ j. SameStamp p.graph q.graph) p.stamps q.stamps s.stamps i k n (λ e. r) (s.stamp i);
      global = s.global;
      absent = s.absent;
    }

    pub global_set : (k n : ℕ) → SameFront R p.graph q.graph (k ∷ []) (n ∷ []) → Same (record p { global = k }) (record q { global = n })
    global_set k n r = record {
      few = s.few;
      threads = s.threads;
      none = s.none;
      first = s.first;
      thread = s.thread;
      places = s.places;
      place = s.place;
      stamps = s.stamps;
      stamp = s.stamp;
      global = r;
      absent = s.absent;
    }
