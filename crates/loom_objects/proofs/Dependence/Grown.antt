-- What is kept keeps showing the order when points are added, and when threads and objects are.
use Rattle.std.proofs.Common.{zero, suc, ◌≡◌, ◌≢◌, ℕ, List, [], ◌∷◌, ◌++◌, length, refl, sym, ◌∙◌, arith, append_assoc, length-append, ⊎_elim, Option, Some, None, Result, Ok, Err}
use Rattle.std.specs.Prelude.{OnOk, IfOk}
use Rattle.std.specs.List.{slice_get}
use Rattle.std.proofs.lemmas.Bool.{cases_eq}
use Rattle.std.proofs.lemmas.Option.{slice_get_past}
use Rattle.loom_views.specs.Graph.{Graph, raised, Shows, IsChained, IsPresent, moved}
use Rattle.loom_views.specs.Versions.{zeros}
use Rattle.loom_views.proofs.Views.Views.{chained-moved, shows-start, raised-no}
use Rattle.loom_views.proofs.Views.Growth.{GrownBy, shows-grown, present-grown}
use Rattle.loom_views.proofs.Atomic.Table.Carried.{none-grown}
use Rattle.loom_views.proofs.Atomic.Table.Lists.{get-append_same, get-append_other}
use Rattle.loom_views.proofs.Atomic.Reaching.Raising.{raising-extends, extends-grown}
use Rattle.loom_objects.specs.declared.rt.dependence.Action.{Action}
use Rattle.loom_objects.specs.declared.rt.dependence.Action.TheVariants.{Read, Change, Increment, Decrement, Inspect, Send, Receive, Other}
use Rattle.loom_objects.specs.declared.rt.dependence.Dependence.{Dependence}
use Rattle.loom_objects.specs.declared.rt.access.LastAccess.{LastAccess}
use Rattle.loom_objects.specs.declared.rt.access.LastAccesses.{LastAccesses}
use Rattle.loom_objects.specs.Dependence.Order.{Order, Access, opening, copies, children, grown, last_dependent}
use Rattle.loom_objects.specs.Dependence.Shown.{ShowsThreadAt, ShowsLast, AreRaising, ShowsObject, ShowsOrder, nothing, slot_of, copies_of}
use Rattle.loom_objects.proofs.Dependence.Lists.{append-nil, length-copies, get_or-copies}

pub last-grown : {t : ℕ} {g g' : Graph} → GrownBy t g g' → (access : Option Access) (kept : Option LastAccess) → ShowsLast g access kept → ShowsLast g' access kept
last-grown r None None h = tt
last-grown r None (Some kept) h = absurd h
last-grown r (Some access) None h = absurd h
last-grown r (Some access) (Some kept) h = (shows-grown r access.point kept.view h.0, h.1)

-- a thread that doesn't raise
pub thread-grown : {t : ℕ} {g g' : Graph} → GrownBy t g g' → (u : ℕ) → t ≢ u → (own : Option ℕ) (view : Option (List ℕ)) → ShowsThreadAt g u own view → ShowsThreadAt g' u own view
thread-grown r u n None None h = none-grown r u n h
thread-grown r u n None (Some view) h = absurd h
thread-grown r u n (Some own) None h = absurd h
thread-grown r u n (Some own) (Some view) h = (present-grown r u own n h.0, shows-grown r own view h.1)

pub raising-grown : {t : ℕ} {g g' : Graph} → GrownBy t g g' → (accesses : List Access) → AreRaising g accesses → AreRaising g' accesses
raising-grown r [] h = tt
raising-grown {g = g} {g' = g'} r (access ∷ earlier) h = (raising-extends g g' access.point (extends-grown r) h.0, raising-grown r earlier h.1)

pub object-grown : {t : ℕ} {g g' : Graph} → GrownBy t g g' → (accesses : List Access) (kept : LastAccesses) → ShowsObject g accesses kept → ShowsObject g' accesses kept
object-grown r accesses kept h = record {
  raising = raising-grown r accesses h.raising;
  last = λ asked. last-grown r (last_dependent asked accesses) (slot_of asked kept) (h.last asked);
}

-- an object that no access was made to
pub object-nothing : (g : Graph) → ShowsObject g [] nothing
object-nothing g = record { raising = tt; last = none }
  where
    none : (asked : Action) → ShowsLast g None (slot_of asked nothing)
    none Read = tt
    none Change = tt
    none Increment = tt
    none Decrement = tt
    none Inspect = tt
    none Send = tt
    none Receive = tt
    none Other = tt

-- where a thread has raised nothing, every point is its present one
pub none-present : (g : Graph) (t k : ℕ) → raised g t ≡ [] → IsPresent g t k
unfolding IsPresent
none-present g t k e = rw e tt

none-chained : IsChained []
unfolding IsChained raised
none-chained = λ t. tt

none-raised : (t : ℕ) → raised [] t ≡ []
unfolding raised
none-raised t = refl

-- main alone
pub opening-shown : ShowsOrder opening (record { threads = zeros ∷ []; last = [] })
opening-shown = record {
  chained = chained-moved [] [] none-chained;
  count = refl;
  threads = threads;
  made = refl;
  objects = λ n. object-nothing (moved [] []);
}
  where
    none : (t : ℕ) → raised (moved [] []) t ≡ []
    none t = raised-no (record { after = []; raises = None }) [] t refl ∙ none-raised t

    threads : (t : ℕ) → ShowsThreadAt (moved [] []) t (slice_get (0 ∷ []) t) (slice_get (zeros ∷ []) t)
    threads zero = (none-present (moved [] []) 0 0 (none 0), shows-start [] none-chained)
    threads (suc t) = none (suc t)

abbrev ShowsThreads : Graph → List ℕ → List (List ℕ) → Type 0
ShowsThreads g threads kept = (t : ℕ) → ShowsThreadAt g t (slice_get threads t) (slice_get kept t)

-- one thread more, which begins at a point that is shown
thread-more : (g : Graph) (threads : List ℕ) (kept : List (List ℕ)) (own : ℕ) (view : List ℕ) → length threads ≡ length kept → Shows g own view → ShowsThreads g threads kept → ShowsThreads g (threads ++ own ∷ []) (kept ++ view ∷ [])
thread-more g threads kept own view l s h t = ⊎_elim at before (cases_eq t (length threads))
  where
    at : t ≡ length threads → ShowsThreadAt g t (slice_get (threads ++ own ∷ []) t) (slice_get (kept ++ view ∷ []) t)
    at e =
        let there = h t in
        let none = rw (slice_get_past threads t (omega arith), slice_get_past kept t (omega arith)) at there in
        rw (get-append_same threads t own e, get-append_same kept t view (e ∙ l)) (none-present g t own none, s)

    before : t ≢ length threads → ShowsThreadAt g t (slice_get (threads ++ own ∷ []) t) (slice_get (kept ++ view ∷ []) t)
    before n = rw (get-append_other threads t own n, get-append_other kept t view (λ e. n (e ∙ sym l))) (h t)

threads-more : (g : Graph) (threads : List ℕ) (kept : List (List ℕ)) (n own : ℕ) (view : List ℕ) → length threads ≡ length kept → Shows g own view → ShowsThreads g threads kept → ShowsThreads g (threads ++ copies n own) (kept ++ copies n view)
threads-more g threads kept zero own view l s h = rw (append-nil threads, append-nil kept) h
threads-more g threads kept (suc n) own view l s h =
    let a : threads ++ own ∷ copies n own ≡ (threads ++ own ∷ []) ++ copies n own = sym (append_assoc threads (own ∷ []) (copies n own)) in
    let b : kept ++ view ∷ copies n view ≡ (kept ++ view ∷ []) ++ copies n view = sym (append_assoc kept (view ∷ []) (copies n view)) in
    rw (a, b) (threads-more g (threads ++ own ∷ []) (kept ++ view ∷ []) n own view (omega (arith, length-append threads (own ∷ []), length-append kept (view ∷ []))) s (thread-more g threads kept own view l s h))

-- what a thread that is there, or not, has as its children
children-shown : (g : Graph) (threads : List ℕ) (kept : List (List ℕ)) (n parent : ℕ) → length threads ≡ length kept → ShowsThreads g threads kept → (own : Option ℕ) (view : Option (List ℕ)) → ShowsThreadAt g parent own view → (length (threads ++ children n own) ≡ length (kept ++ copies_of n view)) × ShowsThreads g (threads ++ children n own) (kept ++ copies_of n view)
children-shown g threads kept n parent l h None None s = rw (append-nil threads, append-nil kept) (l, h)
children-shown g threads kept n parent l h None (Some view) s = absurd s
children-shown g threads kept n parent l h (Some own) None s = absurd s
children-shown g threads kept n parent l h (Some own) (Some view) s = (
  omega (arith, length-append threads (copies n own), length-append kept (copies n view), length-copies n own, length-copies n view),
  threads-more g threads kept n own view l s.1 h,
)

-- threads and objects more
pub grown-shown : (o : Order) (d : Dependence) (parent threads objects : ℕ) → ShowsOrder o d → ShowsOrder (grown parent threads objects o) (record { threads = d.threads ++ copies_of threads (slice_get d.threads parent); last = d.last ++ copies objects nothing })
grown-shown o d parent threads objects z =
    let more = children-shown o.graph o.threads d.threads threads parent z.count z.threads (slice_get o.threads parent) (slice_get d.threads parent) (z.threads parent) in
    let made = z.made in
    record {
      chained = z.chained;
      count = more.0;
      threads = more.1;
      made = omega (arith, length-append o.accesses (copies objects []), length-append d.last (copies objects nothing), length-copies {A = List Access} objects [], length-copies objects nothing);
      objects = λ n. rw (get_or-copies o.accesses objects n [], get_or-copies d.last objects n nothing) (z.objects n);
    }

-- the same of what is kept once memory was given
pub grown-kept : {E : Type 0} (result : Result (Unit {0}) E) (o : Order) (d : Dependence) (parent threads objects : ℕ) (views : List (List ℕ)) (last : List LastAccesses) → views ≡ d.threads ++ copies_of threads (slice_get d.threads parent) → OnOk result (last ≡ d.last ++ copies objects nothing) → ShowsOrder o d → IfOk result (λ _. ShowsOrder (grown parent threads objects o) (record { threads = views; last = last }))
grown-kept (Ok x) o d parent threads objects views last e h z = rw (e, h) (grown-shown o d parent threads objects z)
grown-kept (Err x) o d parent threads objects views last e h z = tt
