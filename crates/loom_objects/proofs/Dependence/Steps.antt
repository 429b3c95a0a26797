-- A thread comes after an access, and raises.
use Rattle.std.proofs.Common.{subst, ◌≡◌, ◌≢◌, ℕ, ◌<◌, ◌≤◌, Bool, true, false, cond, List, [], ◌∷◌, length, get_or, set, refl, sym, arith, ⊎_elim, Option, Some, None, Ok, Err}
use Rattle.std.specs.Prelude.{nat_lt}
use Rattle.std.specs.List.{slice_get}
use Rattle.std.proofs.lemmas.Bool.{cases_eq, cases_lt, lt-ltb, le-ltb}
use Rattle.std.proofs.lemmas.List.{length-set, get_or-set_same, get_or-set_other, get_or_past}
use Rattle.std.proofs.lemmas.Option.{slice_get_within, slice_get_past}
use Rattle.loom_views.specs.declared.rt.failure.FailureKind.TheVariants.{Misuse, TooManyVersions}
use Rattle.loom_views.specs.Graph.{Graph, raised, Shows, IsChained, IsPresent, moved_raising}
use Rattle.loom_views.specs.Versions.{raised_at}
use Rattle.loom_views.proofs.Views.Views.{chained-moved, chained-raising, present-new, shows-joined, shows-raised}
use Rattle.loom_views.proofs.Views.ThreadMoves.{own-version}
use Rattle.loom_views.proofs.Views.Growth.{GrownBy, same, quiet, raising}
use Rattle.loom_views.proofs.Atomic.Table.Lists.{get-set_same, get-set_other}
use Rattle.loom_views.proofs.Atomic.Reaching.Raising.{new-raises}
use Rattle.loom_objects.specs.declared.rt.dependence.Action.{Action}
use Rattle.loom_objects.specs.declared.rt.dependence.Dependence.{Dependence}
use Rattle.loom_objects.specs.declared.rt.dependence.Use.{Use}
use Rattle.loom_objects.specs.declared.rt.access.LastAccess.{LastAccess}
use Rattle.loom_objects.specs.declared.rt.access.LastAccesses.{LastAccesses}
use Rattle.loom_objects.specs.Dependence.Order.{Order, Access, depends_on, last_dependent, accesses_to, last_before, after_access, after_use}
use Rattle.loom_objects.specs.Dependence.Shown.{ShowsThreadAt, ShowsLast, ShowsObject, ShowsOrder, KeepsAs, nothing, slot_of, joined_last}
use Rattle.loom_objects.proofs.Dependence.Grown.{last-grown, thread-grown, raising-grown, object-grown, object-nothing}

-- a thread that is there
pub record FoundThread (o : Order) (t : ℕ) (view : List ℕ) : Type 0 where
  pub own : ℕ
  pub is : slice_get o.threads t ≡ Some own
  pub present : IsPresent o.graph t own
  pub shown : Shows o.graph own view

pub found_thread : (o : Order) (d : Dependence) (t : ℕ) (view : List ℕ) → slice_get d.threads t ≡ Some view → ShowsOrder o d → FoundThread o t view
found_thread o d t view e z = let h = z.threads t in go (slice_get o.threads t) refl (rw e at h)
  where
    go : (own : Option ℕ) → slice_get o.threads t ≡ own → ShowsThreadAt o.graph t own (Some view) → FoundThread o t view
    go None q h = absurd h
    go (Some own) q h = record { own = own; is = q; present = h.0; shown = h.1 }

-- and one that isn't
pub no_thread : (o : Order) (d : Dependence) (t : ℕ) → length d.threads ≤ t → ShowsOrder o d → slice_get o.threads t ≡ None
no_thread o d t l z = let count = z.count in slice_get_past o.threads t (omega arith)

-- where a thread's point has moved to, in a graph that the thread has grown
pub record Moved (t : ℕ) (g to : Graph) (own : ℕ) (view : List ℕ) : Type 0 where
  pub grown : GrownBy t g to
  pub chained : IsChained to
  pub present : IsPresent to t own
  pub shown : Shows to own view

pub joined-moved : (t : ℕ) (g : Graph) (own : ℕ) (view : List ℕ) → IsChained g → IsPresent g t own → Shows g own view → (access : Option Access) (kept : Option LastAccess) → ShowsLast g access kept → Moved t g (after_access g own access).0 (after_access g own access).1 (joined_last view kept)
joined-moved t g own view c i s None None h = record { grown = same; chained = c; present = i; shown = s }
joined-moved t g own view c i s None (Some kept) h = absurd h
joined-moved t g own view c i s (Some access) None h = absurd h
joined-moved t g own view c i s (Some access) (Some kept) h = record {
  grown = quiet (own ∷ access.point ∷ []) same;
  chained = chained-moved g (own ∷ access.point ∷ []) c;
  present = present-new (access.point ∷ []) None g t own i;
  shown = shows-joined g own access.point view kept.view c s h.0;
}

-- an access in front of those that were made
by-test : (g : Graph) (b : Bool) (access : Access) (last : LastAccess) (earlier : Option Access) (kept : Option LastAccess) → Shows g access.point last.view → last.place ≡ access.place → ShowsLast g earlier kept → ShowsLast g (cond b (Some access) earlier) (cond b (Some last) kept)
by-test g true access last earlier kept s p h = (s, p)
by-test g false access last earlier kept s p h = h

noted-last : (g : Graph) (access : Access) (last : LastAccess) (asked : Action) (earlier : List Access) (kept new : LastAccesses) → Shows g access.point last.view → last.place ≡ access.place → slot_of asked new ≡ cond (depends_on asked access.action) (Some last) (slot_of asked kept) → ShowsLast g (last_dependent asked earlier) (slot_of asked kept) → ShowsLast g (last_dependent asked (access ∷ earlier)) (slot_of asked new)
noted-last g access last asked earlier kept new s p e h = rw e (by-test g (depends_on asked access.action) access last (last_dependent asked earlier) (slot_of asked kept) s p h)

-- what is kept once thread t has raised for its use of an object
pub record Noted (d new : Dependence) (t : ℕ) (used : Use) (view : List ℕ) (last : LastAccess) : Type 0 where
  pub threads : new.threads ≡ set d.threads t view
  pub made : length new.last ≡ length d.last
  pub others : (n : ℕ) → n ≢ used.object → get_or new.last n nothing ≡ get_or d.last n nothing
  pub noted : used.object < length d.last → (asked : Action) → slot_of asked (get_or new.last used.object nothing) ≡ cond (depends_on asked used.action) (Some last) (slot_of asked (get_or d.last used.object nothing))

module _ (o : Order) (d new : Dependence) (t : ℕ) (used : Use) (place : ℕ) (g : Graph) (own : ℕ) (view : List ℕ) (five : t < 5) (there : t < length d.threads) (z : ShowsOrder o d) (m : Moved t o.graph g own view) (k : Noted d new t used (raised_at view t) (record { view = raised_at view t; place = place })) where
  abbrev to : Graph
  to = moved_raising g (own ∷ []) t

  abbrev access : Access
  access = record { action = used.action; point = length g; place = place }

  grew : GrownBy t o.graph to
  grew = raising (own ∷ []) m.grown

  shown : Shows to (length g) (raised_at view t)
  shown = shows-raised g own t view m.chained five m.shown

  raised-threads : (u : ℕ) → ShowsThreadAt to u (slice_get (set o.threads t (length g)) u) (slice_get new.threads u)
  raised-threads u = rw k.threads (⊎_elim
      (λ e. subst (λ w. ShowsThreadAt to w (slice_get (set o.threads t (length g)) w) (slice_get (set d.threads t (raised_at view t)) w)) (sym e) at)
      (λ n. rw (get-set_other o.threads t u (length g) n, get-set_other d.threads t u (raised_at view t) n) (thread-grown grew u (λ e. n (sym e)) (slice_get o.threads u) (slice_get d.threads u) (z.threads u)))
      (cases_eq u t))
    where
      at : ShowsThreadAt to t (slice_get (set o.threads t (length g)) t) (slice_get (set d.threads t (raised_at view t)) t)
      at =
          let count = z.count in
          rw (get-set_same o.threads t (length g) (omega arith), get-set_same d.threads t (raised_at view t) there) (present-new [] (Some t) g t own m.present, shown)

  abbrev accesses : List (List Access)
  accesses = set o.accesses used.object (access ∷ accesses_to o used.object)

  -- the object that is used, if it is there
  used-object : ShowsObject to (get_or accesses used.object []) (get_or new.last used.object nothing)
  used-object = ⊎_elim is isnt (cases_lt used.object (length d.last))
    where
      is : used.object < length d.last → ShowsObject to (get_or accesses used.object []) (get_or new.last used.object nothing)
      is l =
          let made = z.made in
          let before = z.objects used.object in
          rw (get_or-set_same o.accesses used.object (access ∷ accesses_to o used.object) [] (omega arith)) (record {
            raising = (new-raises g (own ∷ []) t five, raising-grown grew (accesses_to o used.object) before.raising);
            last = λ asked. noted-last to access (record { view = raised_at view t; place = place }) asked (accesses_to o used.object) (get_or d.last used.object nothing) (get_or new.last used.object nothing) shown refl (k.noted l asked) (last-grown grew (last_dependent asked (accesses_to o used.object)) (slot_of asked (get_or d.last used.object nothing)) (before.last asked));
          })

      isnt : length d.last ≤ used.object → ShowsObject to (get_or accesses used.object []) (get_or new.last used.object nothing)
      isnt l =
          let made = z.made in
          let made_new = k.made in
          rw (get_or_past accesses used.object [] (omega (arith, length-set o.accesses used.object (access ∷ accesses_to o used.object))), get_or_past new.last used.object nothing (omega arith)) (object-nothing to)

  raised-objects : (n : ℕ) → ShowsObject to (get_or accesses n []) (get_or new.last n nothing)
  raised-objects n = ⊎_elim
      (λ e. subst (λ w. ShowsObject to (get_or accesses w []) (get_or new.last w nothing)) (sym e) used-object)
      (λ e. rw (get_or-set_other o.accesses used.object n (access ∷ accesses_to o used.object) [] e, k.others n e) (object-grown grew (accesses_to o n) (get_or d.last n nothing) (z.objects n)))
      (cases_eq n used.object)

  raised-shown : ShowsOrder (record { graph = to; threads = set o.threads t (length g); accesses = accesses }) new
  raised-shown = record {
    chained = chained-raising g own t [] m.chained m.present;
    count = let count = z.count in rw k.threads (omega (arith, length-set o.threads t (length g), length-set d.threads t (raised_at view t)));
    threads = raised-threads;
    made = let made = z.made in let made_new = k.made in omega (arith, length-set o.accesses used.object (access ∷ accesses_to o used.object));
    objects = raised-objects;
  }

-- a use by a thread that is there, with the thread's vector once it comes after the last access
module _ (o : Order) (d : Dependence) (t : ℕ) (used : Use) (place : ℕ) (own joined : List ℕ) (five : t < 5) (kept : slice_get d.threads t ≡ Some own) (is : joined ≡ joined_last own (slot_of used.action (get_or d.last used.object nothing))) (z : ShowsOrder o d) where
  moved-by : (f : FoundThread o t own) → Moved t o.graph (after_access o.graph f.own (last_before o used)).0 (after_access o.graph f.own (last_before o used)).1 joined
  moved-by f = rw is (joined-moved t o.graph f.own own z.chained f.present f.shown (last_before o used) (slot_of used.action (get_or d.last used.object nothing)) ((z.objects used.object).last used.action))

  pub use-moved : (new : Dependence) (raised_view : List ℕ) → raised_view ≡ raised_at joined t → get_or joined t 0 < 65534 → Noted d new t used raised_view (record { view = raised_view; place = place }) → KeepsAs true (after_use t used place o) (Ok tt) new
  use-moved new raised_view r l k =
      let f = found_thread o d t own kept z in
      let to = after_access o.graph f.own (last_before o used) in
      let m = moved-by f in
      let e : nat_lt (length (raised to.0 t)) 65534 ≡ true = lt-ltb (length (raised to.0 t)) 65534 (subst (λ n. n < 65534) (own-version to.0 t to.1 joined five m.present m.shown) l) in
      rw (f.is, e) (refl, raised-shown o d new t used place to.0 to.1 joined five (slice_get_within d.threads t own kept) z m (subst (λ v. Noted d new t used v (record { view = v; place = place })) r k))

  pub use-full : (new : Dependence) → get_or joined t 0 ≡ 65534 → KeepsAs true (after_use t used place o) (Err TooManyVersions) new
  use-full new l =
      let f = found_thread o d t own kept z in
      let to = after_access o.graph f.own (last_before o used) in
      let m = moved-by f in
      let own_version : get_or joined t 0 ≡ length (raised to.0 t) = own-version to.0 t to.1 joined five m.present m.shown in
      let e : nat_lt (length (raised to.0 t)) 65534 ≡ false = le-ltb (length (raised to.0 t)) 65534 (omega arith) in
      rw (f.is, e) refl

-- a thread that isn't there
pub use-misused : (o : Order) (d new : Dependence) (t : ℕ) (used : Use) (place : ℕ) → length d.threads ≤ t → ShowsOrder o d → KeepsAs true (after_use t used place o) (Err Misuse) new
use-misused o d new t used place l z = rw (no_thread o d t l z) refl
