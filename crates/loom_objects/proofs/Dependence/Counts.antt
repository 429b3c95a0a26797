-- How often each thread has raised, where the order isn't kept.
use Rattle.std.proofs.Common.{zero, suc, subst, ◌≡◌, ◌≢◌, ℕ, ◌+◌, ◌<◌, ◌≤◌, Bool, true, false, List, [], ◌∷◌, ◌++◌, length, length-append, get_or, set, refl, ap, sym, ◌∙◌, arith, append_assoc, ⊎_elim, Option, Some, None, Result, Ok, Err}
use Rattle.std.specs.Prelude.{nat_lt, OnOk, IfOk}
use Rattle.std.specs.List.{slice_get}
use Rattle.std.proofs.lemmas.Bool.{cases_eq, eq-eqb, ne_eqb, lt-ltb, le-ltb}
use Rattle.std.proofs.lemmas.List.{length-set, get_or-set_same}
use Rattle.std.proofs.lemmas.Option.{slice_get_within, slice_get_past}
use Rattle.loom_views.specs.declared.rt.failure.FailureKind.TheVariants.{Misuse, TooManyVersions}
use Rattle.loom_views.specs.Graph.{Graph, raised, moved, moved_raising}
use Rattle.loom_views.specs.Versions.{raised_at, zeros}
use Rattle.loom_views.proofs.Views.Views.{raised-no, raised-yes}
use Rattle.loom_views.proofs.Atomic.Table.Lists.{get-append_same, get-append_other, get-set_same, get-set_other}
use Rattle.loom_objects.specs.declared.rt.dependence.Dependence.{Dependence}
use Rattle.loom_objects.specs.declared.rt.dependence.Use.{Use}
use Rattle.loom_objects.specs.Dependence.Order.{Order, Access, opening, copies, children, grown, last_before, after_access, after_use}
use Rattle.loom_objects.specs.Dependence.Shown.{CountsThreadAt, CountsOrder, Keeps, KeepsAs}
use Rattle.loom_objects.proofs.Dependence.Grown.{opening-shown}
use Rattle.loom_objects.proofs.Dependence.Lists.{append-nil, length-copies}

none-past : {A : Type 0} (xs : List A) (k : ℕ) → slice_get xs k ≡ None → length xs ≤ k
none-past [] k e = omega arith
none-past (x ∷ xs) zero e = absurd (cc e)
none-past (x ∷ xs) (suc k) e = let h = none-past xs k e in omega arith

none-raised : (t : ℕ) → raised [] t ≡ []
unfolding raised
none-raised t = refl

-- at the start everything is kept
pub opening-kept : (is_ordered : Bool) → Keeps is_ordered opening (record { threads = zeros ∷ []; last = [] })
opening-kept true = opening-shown
opening-kept false = record { count = refl; threads = threads }
  where
    none : (t : ℕ) → raised (moved [] []) t ≡ []
    none t = raised-no (record { after = []; raises = None }) [] t refl ∙ none-raised t

    threads : (t : ℕ) → CountsThreadAt (moved [] []) t (slice_get (0 ∷ []) t) (slice_get (zeros ∷ []) t)
    threads zero = (refl, sym (ap length (none 0)))
    threads (suc t) = none (suc t)

-- a thread that is there
pub record CountedThread (o : Order) (t : ℕ) (view : List ℕ) : Type 0 where
  pub own : ℕ
  pub is : slice_get o.threads t ≡ Some own
  pub five : length view ≡ 5
  pub counts : get_or view t 0 ≡ length (raised o.graph t)

pub counted_thread : (o : Order) (d : Dependence) (t : ℕ) (view : List ℕ) → slice_get d.threads t ≡ Some view → CountsOrder o d → CountedThread o t view
counted_thread o d t view e z = let h = z.threads t in go (slice_get o.threads t) refl (rw e at h)
  where
    go : (own : Option ℕ) → slice_get o.threads t ≡ own → CountsThreadAt o.graph t own (Some view) → CountedThread o t view
    go None q h = absurd h
    go (Some own) q h = record { own = own; is = q; five = h.0; counts = h.1 }

-- a graph in which a thread has raised as often
as-often : (g to : Graph) (t : ℕ) → raised to t ≡ raised g t → (own : Option ℕ) (view : Option (List ℕ)) → CountsThreadAt g t own view → CountsThreadAt to t own view
as-often g to t e None None h = e ∙ h
as-often g to t e None (Some view) h = absurd h
as-often g to t e (Some own) None h = absurd h
as-often g to t e (Some own) (Some view) h = (h.0, h.1 ∙ sym (ap length e))

-- coming after an access raises nothing
after-raises : (g : Graph) (own t : ℕ) (access : Option Access) → raised (after_access g own access).0 t ≡ raised g t
after-raises g own t None = refl
after-raises g own t (Some access) = raised-no (record { after = own ∷ access.point ∷ []; raises = None }) g t refl

module _ (o : Order) (d new : Dependence) (t : ℕ) (used : Use) (g : Graph) (js : List ℕ) (accesses : List (List Access)) (view raised_view : List ℕ) (five : t < 5) (there : slice_get d.threads t ≡ Some view) (same : (u : ℕ) → raised g u ≡ raised o.graph u) (z : CountsOrder o d) (r : raised_view ≡ raised_at view t) (k : new.threads ≡ set d.threads t raised_view) where
  abbrev to : Graph
  to = moved_raising g js t

  own_count : CountsThreadAt to t (Some (length g)) (Some raised_view)
  own_count =
      let f = counted_thread o d t view there z in
      let long = length-set view t (get_or view t 0 + 1) in
      let more = get_or-set_same view t (get_or view t 0 + 1) 0 (omega (arith, f.five)) in
      let once : length (raised to t) ≡ suc (length (raised g t)) = ap length (raised-yes (record { after = js; raises = Some t }) g t (eq-eqb t t refl)) in
      let before : length (raised g t) ≡ length (raised o.graph t) = ap length (same t) in
      let counts = f.counts in
      rw r (omega (arith, f.five, long), omega (arith, more, once, before, counts))

  raised_threads : (u : ℕ) → CountsThreadAt to u (slice_get (set o.threads t (length g)) u) (slice_get new.threads u)
  raised_threads u = rw k (⊎_elim
      (λ e. subst (λ w. CountsThreadAt to w (slice_get (set o.threads t (length g)) w) (slice_get (set d.threads t raised_view) w)) (sym e) at)
      (λ n. rw (get-set_other o.threads t u (length g) n, get-set_other d.threads t u raised_view n)
      (as-often o.graph to u (raised-no (record { after = js; raises = Some t }) g u (ne_eqb t u (λ e. n (sym e))) ∙ same u) (slice_get o.threads u) (slice_get d.threads u) (z.threads u)))
      (cases_eq u t))
    where
      at : CountsThreadAt to t (slice_get (set o.threads t (length g)) t) (slice_get (set d.threads t raised_view) t)
      at =
          let count = z.count in
          let within = slice_get_within d.threads t view there in
          rw (get-set_same o.threads t (length g) (omega arith), get-set_same d.threads t raised_view within) own_count

  counted_on : CountsOrder (record { graph = to; threads = set o.threads t (length g); accesses = accesses }) new
  counted_on = record {
    count = let count = z.count in rw k (omega (arith, length-set o.threads t (length g), length-set d.threads t raised_view));
    threads = raised_threads;
  }

-- a use by a thread that is there
module _ (o : Order) (d : Dependence) (t : ℕ) (used : Use) (place : ℕ) (view : List ℕ) (five : t < 5) (there : slice_get d.threads t ≡ Some view) (z : CountsOrder o d) where
  abbrev after : (own : ℕ) → Graph × ℕ
  after own = after_access o.graph own (last_before o used)

  as-before : (own : ℕ) → length (raised (after own).0 t) ≡ length (raised o.graph t)
  as-before own = ap length (after-raises o.graph own t (last_before o used))

  pub use-counted : (new : Dependence) (raised_view : List ℕ) → raised_view ≡ raised_at view t → get_or view t 0 < 65534 → new.threads ≡ set d.threads t raised_view → KeepsAs false (after_use t used place o) (Ok tt) new
  use-counted new raised_view r l k =
      let f = counted_thread o d t view there z in
      let counts = f.counts in
      let e : nat_lt (length (raised (after f.own).0 t)) 65534 ≡ true = lt-ltb (length (raised (after f.own).0 t)) 65534 (omega (arith, as-before f.own, counts, l)) in
      rw (f.is, e) (
        refl,
        counted_on o d new t used (after f.own).0 ((after f.own).1 ∷ []) _ view raised_view five there (λ u. after-raises o.graph f.own u (last_before o used)) z r k,
      )

  pub use-counted-full : (new : Dependence) → get_or view t 0 ≡ 65534 → KeepsAs false (after_use t used place o) (Err TooManyVersions) new
  use-counted-full new l =
      let f = counted_thread o d t view there z in
      let counts = f.counts in
      let e : nat_lt (length (raised (after f.own).0 t)) 65534 ≡ false = le-ltb (length (raised (after f.own).0 t)) 65534 (omega (arith, as-before f.own, counts, l)) in
      rw (f.is, e) refl

-- a thread that isn't there
pub use-uncounted : (o : Order) (d new : Dependence) (t : ℕ) (used : Use) (place : ℕ) → length d.threads ≤ t → CountsOrder o d → KeepsAs false (after_use t used place o) (Err Misuse) new
use-uncounted o d new t used place l z =
    let count = z.count in
    rw (slice_get_past o.threads t (omega arith)) refl

-- ---- threads more

no-children : (own : Option ℕ) → children 0 own ≡ []
no-children None = refl
no-children (Some own) = refl

zero-at : (t : ℕ) → get_or zeros t 0 ≡ 0
zero-at zero = refl
zero-at (suc zero) = refl
zero-at (suc (suc zero)) = refl
zero-at (suc (suc (suc zero))) = refl
zero-at (suc (suc (suc (suc zero)))) = refl
zero-at (suc (suc (suc (suc (suc t))))) = refl

abbrev CountsThreads : Graph → List ℕ → List (List ℕ) → Type 0
CountsThreads g threads kept = (t : ℕ) → CountsThreadAt g t (slice_get threads t) (slice_get kept t)

-- one thread more, which has raised nothing
thread-more : (g : Graph) (threads : List ℕ) (kept : List (List ℕ)) (own : ℕ) → length threads ≡ length kept → CountsThreads g threads kept → CountsThreads g (threads ++ own ∷ []) (kept ++ zeros ∷ [])
thread-more g threads kept own l h t = ⊎_elim at before (cases_eq t (length threads))
  where
    at : t ≡ length threads → CountsThreadAt g t (slice_get (threads ++ own ∷ []) t) (slice_get (kept ++ zeros ∷ []) t)
    at e =
        let there = h t in
        let none = rw (slice_get_past threads t (omega arith), slice_get_past kept t (omega arith)) at there in
        rw (get-append_same threads t own e, get-append_same kept t zeros (e ∙ l)) (refl, zero-at t ∙ sym (ap length none))

    before : t ≢ length threads → CountsThreadAt g t (slice_get (threads ++ own ∷ []) t) (slice_get (kept ++ zeros ∷ []) t)
    before n = rw (get-append_other threads t own n, get-append_other kept t zeros (λ e. n (e ∙ sym l))) (h t)

threads-more : (g : Graph) (threads : List ℕ) (kept : List (List ℕ)) (n own : ℕ) → length threads ≡ length kept → CountsThreads g threads kept → CountsThreads g (threads ++ copies n own) (kept ++ copies n zeros)
threads-more g threads kept zero own l h = rw (append-nil threads, append-nil kept) h
threads-more g threads kept (suc n) own l h =
    let a : threads ++ own ∷ copies n own ≡ (threads ++ own ∷ []) ++ copies n own = sym (append_assoc threads (own ∷ []) (copies n own)) in
    let b : kept ++ zeros ∷ copies n zeros ≡ (kept ++ zeros ∷ []) ++ copies n zeros = sym (append_assoc kept (zeros ∷ []) (copies n zeros)) in
    rw (a, b) (threads-more g (threads ++ own ∷ []) (kept ++ zeros ∷ []) n own (omega (arith, l, length-append threads (own ∷ []), length-append kept (zeros ∷ []))) (thread-more g threads kept own l h))

-- by a parent that is there
pub grown-counted : (o : Order) (d new : Dependence) (parent threads objects : ℕ) → parent < length d.threads → new.threads ≡ d.threads ++ copies threads zeros → CountsOrder o d → CountsOrder (grown parent threads objects o) new
grown-counted o d new parent threads objects l e z = by (slice_get o.threads parent) refl
  where
    by : (own : Option ℕ) → slice_get o.threads parent ≡ own → CountsOrder (grown parent threads objects o) new
    by None q =
        let count = z.count in
        let past = none-past o.threads parent q in
        absurd (omega arith)
    by (Some own) q =
        let count = z.count in
        rw q (record {
          count = rw e (omega (arith, length-append o.threads (copies threads own), length-append d.threads (copies threads zeros), length-copies threads own, length-copies threads zeros));
          threads = rw e (threads-more o.graph o.threads d.threads threads own z.count z.threads);
        })

-- and by one that isn't
pub grown-uncounted : (o : Order) (d : Dependence) (parent threads objects : ℕ) → length d.threads ≤ parent → CountsOrder o d → CountsOrder (grown parent threads objects o) d
grown-uncounted o d parent threads objects l z =
    let count = z.count in
    rw (slice_get_past o.threads parent (omega arith), append-nil o.threads) (record { count = z.count; threads = z.threads })

-- by nobody
pub grown-nobody : (o : Order) (d : Dependence) (parent threads objects : ℕ) → threads ≡ 0 → CountsOrder o d → CountsOrder (grown parent threads objects o) d
grown-nobody o d parent threads objects e z =
    rw (e, no-children (slice_get o.threads parent), append-nil o.threads) (record { count = z.count; threads = z.threads })

-- once memory was given
pub grown-counts : {E : Type 0} (result : Result (Unit {0}) E) (o : Order) (d new : Dependence) (parent threads objects : ℕ) → parent < length d.threads → OnOk result (new.threads ≡ d.threads ++ copies threads zeros) → CountsOrder o d → IfOk result (λ _. CountsOrder (grown parent threads objects o) new)
grown-counts (Ok x) o d new parent threads objects l e z = grown-counted o d new parent threads objects l e z
grown-counts (Err x) o d new parent threads objects l e z = tt

-- ---- nothing more

pub grown-none : (is_ordered : Bool) (o : Order) (d : Dependence) (parent : ℕ) → Keeps is_ordered o d → Keeps is_ordered (grown parent 0 0 o) d
grown-none is_ordered o d parent h =
    rw (no-children (slice_get o.threads parent), append-nil o.threads, append-nil o.accesses) h
