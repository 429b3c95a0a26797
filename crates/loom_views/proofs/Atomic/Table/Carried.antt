-- What is kept of a run keeps showing its points, where a thread or an object takes a step.
use Rattle.std.proofs.Common.{zero, suc, subst, ◌≡◌, ◌≢◌, ℕ, ◌<◌, List, [], ◌∷◌, ◌++◌, length, get_or, set, refl, sym, ap, ◌∙◌, arith, ⊎_elim, Option, Some, None, Result, Ok, Err}
use Rattle.std.specs.Prelude.{OnOk}
use Rattle.std.specs.List.{slice_get}
use Rattle.std.proofs.lemmas.Bool.{cases_eq, ne_eqb}
use Rattle.std.proofs.lemmas.List.{length-set, length-append}
use Rattle.std.proofs.lemmas.Option.{slice_get-get_or}
use Rattle.loom_views.specs.declared.rt.atomic.State.{State}
use Rattle.loom_views.specs.declared.rt.cell.AccessRecords.{AccessRecords}
use Rattle.loom_views.specs.declared.rt.synchronize.ThreadViews.{ThreadViews}
use Rattle.loom_views.specs.declared.rt.views.Kept.{Kept}
use Rattle.loom_views.specs.declared.rt.views.Kept.TheVariants.{Point, Atomic, Cell}
use Rattle.loom_views.specs.declared.rt.views.Views.{Views}
use Rattle.loom_views.specs.Graph.{Graph, raised, Shows, IsChained, IsPresent}
use Rattle.loom_views.specs.ThreadViews.{ThreadPoints, ShowsThread, child_points}
use Rattle.loom_views.specs.Atomic.History.{History}
use Rattle.loom_views.specs.CellAccesses.{Accesses, ShowsAccesses}
use Rattle.loom_views.specs.Atomic.Shown.{ShowsState}
use Rattle.loom_views.specs.Views.{Place, Meets, Keeps, Records, Points, with_thread, with_place, with_new_place, ShowsThreadAt, ShowsThreads, ShowsPlace, ShowsPlaceAt, ShowsPlaces, ShowsStampAt, ShowsStamps, ShowsViews}
use Rattle.loom_views.proofs.Views.Views.{raised-no}
use Rattle.loom_views.proofs.Views.Cells.{accesses-grown}
use Rattle.loom_views.proofs.Views.Growth.{GrownBy, same, quiet, raising, shows-grown, thread-grown, present-grown}
use Rattle.loom_views.proofs.Atomic.Growth.{state-grown}
use Rattle.loom_views.proofs.Atomic.Table.Lists.{get-set_same, get-set_other, get-append_same, get-append_other}

-- another thread that has raised nothing has still raised nothing
pub none-grown : {t : ℕ} {g g' : Graph} → GrownBy t g g' → (u : ℕ) → t ≢ u → raised g u ≡ [] → raised g' u ≡ []
none-grown same u n h = h
none-grown (quiet {g' = g'} js r) u n h = raised-no (record { after = js; raises = None }) g' u refl ∙ none-grown r u n h
none-grown {t} (raising {g' = g'} js r) u n h = raised-no (record { after = js; raises = Some t }) g' u (ne_eqb t u n) ∙ none-grown r u n h

pub thread_at-grown : {t : ℕ} {g g' : Graph} → GrownBy t g g' → (u : ℕ) → t ≢ u → (o : Option ThreadPoints) (v : Option ThreadViews) → ShowsThreadAt g u o v → ShowsThreadAt g' u o v
thread_at-grown r u n None v h = none-grown r u n h
thread_at-grown r u n (Some own) None h = absurd h
thread_at-grown r u n (Some own) (Some views) h = (present-grown r u own.present n h.0, thread-grown r u own views h.1)

pub place-grown : {t : ℕ} {g g' : Graph} → GrownBy t g g' → (place : Place) (kept : Kept) → ShowsPlace g place kept → ShowsPlace g' place kept
place-grown r (Meets k) (Point view) h = shows-grown r k view h
place-grown r (Meets k) (Atomic state) h = absurd h
place-grown r (Meets k) (Cell records) h = absurd h
place-grown r (Keeps history) (Point view) h = absurd h
place-grown r (Keeps history) (Atomic state) h = (state-grown r history state h.0, h.1)
place-grown r (Keeps history) (Cell records) h = absurd h
place-grown r (Records cell) (Point view) h = absurd h
place-grown r (Records cell) (Atomic state) h = absurd h
place-grown r (Records cell) (Cell records) h = accesses-grown r cell records h

place_at-grown : {t : ℕ} {g g' : Graph} → GrownBy t g g' → (place : Option Place) (kept : Option Kept) → ShowsPlaceAt g place kept → ShowsPlaceAt g' place kept
place_at-grown r None None h = tt
place_at-grown r None (Some kept) h = absurd h
place_at-grown r (Some place) None h = absurd h
place_at-grown r (Some place) (Some kept) h = place-grown r place kept h

pub places-grown : {t : ℕ} {g g' : Graph} → GrownBy t g g' → (places : List Place) (kept : List Kept) → ShowsPlaces g places kept → ShowsPlaces g' places kept
places-grown r places kept h = λ n. place_at-grown r (slice_get places n) (slice_get kept n) (h n)

stamp_at-grown : {t : ℕ} {g g' : Graph} → GrownBy t g g' → (stamp : Option ℕ) (kept : Option (List ℕ)) → ShowsStampAt g stamp kept → ShowsStampAt g' stamp kept
stamp_at-grown r None None h = tt
stamp_at-grown r None (Some view) h = absurd h
stamp_at-grown r (Some k) None h = absurd h
stamp_at-grown r (Some k) (Some view) h = shows-grown r k view h

pub stamps-grown : {t : ℕ} {g g' : Graph} → GrownBy t g g' → (stamps : List ℕ) (kept : List (List ℕ)) → ShowsStamps g stamps kept → ShowsStamps g' stamps kept
stamps-grown r stamps kept h = record { count = h.count; each = λ m. stamp_at-grown r (slice_get stamps m) (slice_get kept m) (h.each m) }

-- points that raise no thread leave all threads as they were
pub threads-grown : {g g' : Graph} → GrownBy 5 g g' → (threads : List ThreadPoints) (kept : List ThreadViews) → ShowsThreads g threads kept → ShowsThreads g' threads kept
threads-grown r threads kept h = λ u m. thread_at-grown r u (omega arith) (slice_get threads u) (slice_get kept u) (h u m)

-- one thread takes a step
pub threads-set : {t : ℕ} {g g' : Graph} → GrownBy t g g' → (threads : List ThreadPoints) (kept : List ThreadViews) (own : ThreadPoints) (views : ThreadViews) → t < length threads → t < length kept → ShowsThreads g threads kept → IsPresent g' t own.present → ShowsThread g' t own views → ShowsThreads g' (set threads t own) (set kept t views)
threads-set {t} {g' = g'} r threads kept own views l m h i s = λ u b. ⊎_elim
    (λ e. subst (λ w. ShowsThreadAt g' w (slice_get (set threads t own) w) (slice_get (set kept t views) w)) (sym e) at)
    (λ n. rw (get-set_other threads t u own n, get-set_other kept t u views n) (thread_at-grown r u (λ e. n (sym e)) (slice_get threads u) (slice_get kept u) (h u b)))
    (cases_eq u t)
  where
    at : ShowsThreadAt g' t (slice_get (set threads t own) t) (slice_get (set kept t views) t)
    at = rw (get-set_same threads t own l, get-set_same kept t views m) (i, s)

-- one object takes a step
pub places-set : (g : Graph) (places : List Place) (kept : List Kept) (n : ℕ) (place : Place) (new : Kept) → n < length places → n < length kept → ShowsPlaces g places kept → ShowsPlace g place new → ShowsPlaces g (set places n place) (set kept n new)
places-set g places kept n place new l m h s = λ i. ⊎_elim
    (λ e. subst (λ w. ShowsPlaceAt g (slice_get (set places n place) w) (slice_get (set kept n new) w)) (sym e) at)
    (λ d. rw (get-set_other places n i place d, get-set_other kept n i new d) (h i))
    (cases_eq i n)
  where
    at : ShowsPlaceAt g (slice_get (set places n place) n) (slice_get (set kept n new) n)
    at = rw (get-set_same places n place l, get-set_same kept n new m) s

pub places-more : (g : Graph) (places : List Place) (kept : List Kept) (place : Place) (new : Kept) → ShowsPlaces g places kept → ShowsPlace g place new → ShowsPlaces g (places ++ place ∷ []) (kept ++ new ∷ [])
places-more g [] [] place new h s zero = s
places-more g [] [] place new h s (suc n) = tt
places-more g [] (k ∷ kept) place new h s n = absurd (h 0)
places-more g (p ∷ places) [] place new h s n = absurd (h 0)
places-more g (p ∷ places) (k ∷ kept) place new h s zero = h 0
places-more g (p ∷ places) (k ∷ kept) place new h s (suc n) = places-more g places kept place new (λ i. h (suc i)) s n

-- one stamp is written, or added
pub stamps-set : (g : Graph) (stamps : List ℕ) (kept : List (List ℕ)) (m k : ℕ) (view : List ℕ) → m < length kept → ShowsStamps g stamps kept → Shows g k view → ShowsStamps g (set stamps m k) (set kept m view)
stamps-set g stamps kept m k view l h s = record {
  count = length-set stamps m k ∙ h.count ∙ sym (length-set kept m view);
  each = λ i. ⊎_elim
      (λ e. subst (λ w. ShowsStampAt g (slice_get (set stamps m k) w) (slice_get (set kept m view) w)) (sym e) at)
      (λ d. rw (get-set_other stamps m i k d, get-set_other kept m i view d) (h.each i))
      (cases_eq i m);
}
  where
    at : ShowsStampAt g (slice_get (set stamps m k) m) (slice_get (set kept m view) m)
    at = let count = h.count in rw (get-set_same stamps m k (omega arith), get-set_same kept m view l) s

pub stamps-more : (g : Graph) (stamps : List ℕ) (kept : List (List ℕ)) (k : ℕ) (view : List ℕ) → ShowsStamps g stamps kept → Shows g k view → ShowsStamps g (stamps ++ k ∷ []) (kept ++ view ∷ [])
stamps-more g stamps kept k view h s = let count = h.count in record {
  count = length-append stamps (k ∷ []) ∙ omega (arith, length-append kept (view ∷ []));
  each = λ i. ⊎_elim
      (λ e. rw (get-append_same stamps i k e, get-append_same kept i view (e ∙ h.count)) s)
      (λ d. rw (get-append_other stamps i k d, get-append_other kept i view (λ e. d (e ∙ sym h.count))) (h.each i))
      (cases_eq i (length stamps));
}

-- a thread that is there, with the views that are kept of it
pub record Found (p : Points) (t : ℕ) (views : ThreadViews) : Type 0 where
  pub own : ThreadPoints
  pub is : slice_get p.threads t ≡ Some own
  pub there : t < length p.threads
  pub present : IsPresent p.graph t own.present
  pub shown : ShowsThread p.graph t own views

pub found : (p : Points) (v : Views) (t : ℕ) (d : ThreadViews) → t < v.count → t < 5 → ShowsViews p v → Found p t (get_or v.threads t d)
found p v t d l m z =
    let five = z.five in
    let count = z.count in
    let e = slice_get-get_or p.threads t (child_points []) (omega arith) in
    let f = slice_get-get_or v.threads t d (omega arith) in
    let h = z.threads t m in
    let s = rw (e, f) at h in
    record { own = get_or p.threads t (child_points []); is = e; there = omega arith; present = s.0; shown = s.1 }

-- an object that threads synchronize at
pub record FoundPoint (p : Points) (n : ℕ) (view : List ℕ) : Type 0 where
  pub point : ℕ
  pub is : slice_get p.places n ≡ Some (Meets point)
  pub shown : Shows p.graph point view

pub found_point : (p : Points) (v : Views) (n : ℕ) (view : List ℕ) → slice_get v.places n ≡ Some (Point view) → ShowsViews p v → FoundPoint p n view
found_point p v n view e z = let h = z.places n in go (slice_get p.places n) refl (rw e at h)
  where
    go : (o : Option Place) → slice_get p.places n ≡ o → ShowsPlaceAt p.graph o (Some (Point view)) → FoundPoint p n view
    go None q h = absurd h
    go (Some (Meets k)) q h = record { point = k; is = q; shown = h }
    go (Some (Keeps history)) q h = absurd h
    go (Some (Records cell)) q h = absurd h

-- an atomic
pub record FoundAtomic (p : Points) (n : ℕ) (state : State) : Type 0 where
  pub history : History
  pub is : slice_get p.places n ≡ Some (Keeps history)
  pub shown : ShowsState p.graph history state
  pub some : 0 < length history.stores

pub found_atomic : (p : Points) (v : Views) (n : ℕ) (state : State) → slice_get v.places n ≡ Some (Atomic state) → ShowsViews p v → FoundAtomic p n state
found_atomic p v n state e z = let h = z.places n in go (slice_get p.places n) refl (rw e at h)
  where
    go : (o : Option Place) → slice_get p.places n ≡ o → ShowsPlaceAt p.graph o (Some (Atomic state)) → FoundAtomic p n state
    go None q h = absurd h
    go (Some (Meets k)) q h = absurd h
    go (Some (Keeps history)) q h = record { history = history; is = q; shown = h.0; some = h.1 }
    go (Some (Records cell)) q h = absurd h

-- a cell
pub record FoundCell (p : Points) (n : ℕ) (records : AccessRecords) : Type 0 where
  pub cell : Accesses
  pub is : slice_get p.places n ≡ Some (Records cell)
  pub shown : ShowsAccesses p.graph cell records

pub found_cell : (p : Points) (v : Views) (n : ℕ) (records : AccessRecords) → slice_get v.places n ≡ Some (Cell records) → ShowsViews p v → FoundCell p n records
found_cell p v n records e z = let h = z.places n in go (slice_get p.places n) refl (rw e at h)
  where
    go : (o : Option Place) → slice_get p.places n ≡ o → ShowsPlaceAt p.graph o (Some (Cell records)) → FoundCell p n records
    go None q h = absurd h
    go (Some (Meets k)) q h = absurd h
    go (Some (Keeps history)) q h = absurd h
    go (Some (Records cell)) q h = record { cell = cell; is = q; shown = h }

-- a stamp
pub record FoundStamp (p : Points) (m : ℕ) (view : List ℕ) : Type 0 where
  pub point : ℕ
  pub is : slice_get p.stamps m ≡ Some point
  pub shown : Shows p.graph point view

pub found_stamp : (p : Points) (v : Views) (m : ℕ) (view : List ℕ) → slice_get v.stamps m ≡ Some view → ShowsViews p v → FoundStamp p m view
found_stamp p v m view e z = let h = z.stamps.each m in go (slice_get p.stamps m) refl (rw e at h)
  where
    go : (o : Option ℕ) → slice_get p.stamps m ≡ o → ShowsStampAt p.graph o (Some view) → FoundStamp p m view
    go None q h = absurd h
    go (Some k) q h = record { point = k; is = q; shown = h }

-- a step of thread t in a graph that it alone has grown
pub thread-stepped : (p : Points) (v : Views) (t : ℕ) (g : Graph) (own : ThreadPoints) (views : ThreadViews) → t < length p.threads → GrownBy t p.graph g → IsChained g → IsPresent g t own.present → ShowsThread g t own views → ShowsViews p v → ShowsViews (with_thread p t g own) (record v { threads = set v.threads t views })
thread-stepped p v t g own views l r c i s z =
    let five = z.five in
    let most = z.most in
    record {
      chained = c;
      count = length-set p.threads t own ∙ z.count;
      most = omega (arith, length-set p.threads t own);
      five = length-set v.threads t views ∙ z.five;
      threads = threads-set r p.threads v.threads own views l (omega arith) z.threads i s;
      places = places-grown r p.places v.places z.places;
      stamps = stamps-grown r p.stamps v.stamps z.stamps;
      global = shows-grown r p.global v.global z.global;
    }

-- a step on object n in a graph that has grown by points that raise no thread
pub place-stepped : (p : Points) (v : Views) (n : ℕ) (g : Graph) (place : Place) (kept : Kept) → n < length p.places → n < length v.places → GrownBy 5 p.graph g → IsChained g → ShowsPlace g place kept → ShowsViews p v → ShowsViews (with_place p n g place) (record v { places = set v.places n kept })
place-stepped p v n g place kept l m r c s z = record {
  chained = c;
  count = z.count;
  most = z.most;
  five = z.five;
  threads = threads-grown r p.threads v.threads z.threads;
  places = places-set g p.places v.places n place kept l m (places-grown r p.places v.places z.places) s;
  stamps = stamps-grown r p.stamps v.stamps z.stamps;
  global = shows-grown r p.global v.global z.global;
}

-- one more object, in such a graph
pub place-added : (p : Points) (v : Views) (g : Graph) (place : Place) (kept : Kept) → GrownBy 5 p.graph g → IsChained g → ShowsPlace g place kept → ShowsViews p v → ShowsViews (with_new_place p g place) (record v { places = v.places ++ kept ∷ [] })
place-added p v g place kept r c s z = record {
  chained = c;
  count = z.count;
  most = z.most;
  five = z.five;
  threads = threads-grown r p.threads v.threads z.threads;
  places = places-more g p.places v.places place kept (places-grown r p.places v.places z.places) s;
  stamps = stamps-grown r p.stamps v.stamps z.stamps;
  global = shows-grown r p.global v.global z.global;
}

-- stamp m becomes another point, in such a graph
pub stamp-stepped : (p : Points) (v : Views) (m : ℕ) (g : Graph) (k : ℕ) (view : List ℕ) → m < length v.stamps → GrownBy 5 p.graph g → IsChained g → Shows g k view → ShowsViews p v → ShowsViews (record p { graph = g; stamps = set p.stamps m k }) (record v { stamps = set v.stamps m view })
stamp-stepped p v m g k view l r c s z = record {
  chained = c;
  count = z.count;
  most = z.most;
  five = z.five;
  threads = threads-grown r p.threads v.threads z.threads;
  places = places-grown r p.places v.places z.places;
  stamps = stamps-set g p.stamps v.stamps m k view l (stamps-grown r p.stamps v.stamps z.stamps) s;
  global = shows-grown r p.global v.global z.global;
}

-- one more stamp, in such a graph
pub stamp-more : (p : Points) (v : Views) (g : Graph) (k : ℕ) (view : List ℕ) → GrownBy 5 p.graph g → IsChained g → Shows g k view → ShowsViews p v → ShowsViews (record p { graph = g; stamps = p.stamps ++ k ∷ [] }) (record v { stamps = v.stamps ++ view ∷ [] })
stamp-more p v g k view r c s z = record {
  chained = c;
  count = z.count;
  most = z.most;
  five = z.five;
  threads = threads-grown r p.threads v.threads z.threads;
  places = places-grown r p.places v.places z.places;
  stamps = stamps-more g p.stamps v.stamps k view (stamps-grown r p.stamps v.stamps z.stamps) s;
  global = shows-grown r p.global v.global z.global;
}

-- the global point moves on, in such a graph
pub global-stepped : (p : Points) (v : Views) (g : Graph) (k : ℕ) (view : List ℕ) → GrownBy 5 p.graph g → IsChained g → Shows g k view → ShowsViews p v → ShowsViews (record p { graph = g; global = k }) (record v { global = view })
global-stepped p v g k view r c s z = record {
  chained = c;
  count = z.count;
  most = z.most;
  five = z.five;
  threads = threads-grown r p.threads v.threads z.threads;
  places = places-grown r p.places v.places z.places;
  stamps = stamps-grown r p.stamps v.stamps z.stamps;
  global = s;
}

-- what holds of a value holds once it has been made
pub ok_as : {T E : Type 0} (r : Result T E) (P : Views → Type 0) (new made : Views) → OnOk r (new ≡ made) → P made → OnOk r (P new)
ok_as (Ok x) P new made e h = subst P (sym e) h
ok_as (Err x) P new made e h = tt

-- the same of the places alone
pub ok_placed : {T E : Type 0} (r : Result T E) (views : Views) (new made : List Kept) → OnOk r (new ≡ made) → OnOk r (◌≡◌ {A = Views} (record views { places = new }) (record views { places = made }))
ok_placed (Ok x) views new made e = ap (λ (places : List Kept). record views { places = places }) e
ok_placed (Err x) views new made e = tt
