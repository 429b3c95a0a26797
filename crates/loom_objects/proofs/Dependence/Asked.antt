-- What isn't ordered before a thread's point.
use Rattle.std.proofs.Common.{zero, suc, subst, ◌≡◌, ℕ, ◌+◌, ◌<◌, true, cond, List, [], ◌∷◌, length, get_or, refl, sym, ◌∙◌, arith, ⊎_elim, Option, Some, None}
use Rattle.std.specs.List.{slice_get}
use Rattle.std.proofs.lemmas.Bool.{cases_Bool}
use Rattle.std.proofs.lemmas.List.{ext_get_or}
use Rattle.loom_views.specs.Graph.{Graph, reaches, Shows, IsChained}
use Rattle.loom_views.specs.Versions.{within}
use Rattle.loom_views.proofs.Views.Views.{shows-inside}
use Rattle.loom_views.specs.Laws.Reaching.{is_raising}
use Rattle.loom_views.proofs.Atomic.Sweeping.{past-is}
use Rattle.loom_views.proofs.Atomic.Reaching.Raising.{staying_law, extends-itself}
use Rattle.loom_objects.specs.declared.rt.dependence.Action.{Action}
use Rattle.loom_objects.specs.declared.rt.dependence.Dependence.{Dependence}
use Rattle.loom_objects.specs.declared.rt.dependence.Use.{Use}
use Rattle.loom_objects.specs.declared.rt.access.LastAccess.{LastAccess}
use Rattle.loom_objects.specs.Dependence.Order.{Order, Access, depends_on, last_dependent, accesses_to, last_before, comes_before, unordered_place, unordered_by, unordered_from, unordered}
use Rattle.loom_objects.specs.Dependence.Shown.{ShowsLast, AreRaising, ShowsOrder, nothing, slot_of}
use Rattle.loom_objects.proofs.Dependence.Steps.{found_thread}

-- the last access that such a one depends on raises
pub last-raising : (g : Graph) (asked : Action) (accesses : List Access) (access : Access) → last_dependent asked accesses ≡ Some access → AreRaising g accesses → is_raising g access.point ≡ true
last-raising g asked [] access e h = absurd (cc)
last-raising g asked (first ∷ earlier) access e h = ⊎_elim
    (λ b. let q = rw b at e in let d : first ≡ access = cc in subst (λ (a : Access). is_raising g a.point ≡ true) d h.0)
    (λ b. last-raising g asked earlier access (rw b at e) h.1)
    (cases_Bool (depends_on asked first.action))

-- the point of an access reaches another just where its vector is inside that of the other
pub vectors-reach : (g : Graph) (i k : ℕ) (vs ws : List ℕ) → IsChained g → is_raising g i ≡ true → Shows g i vs → Shows g k ws → within vs ws ≡ reaches g i k
vectors-reach g i k vs ws c r s h = let known = staying_law g g i (extends-itself g) r in shows-inside g i k vs ws c s h ∙ known.reaching k

pub reaches-before : (g : Graph) (i k : ℕ) → reaches g i k ≡ comes_before g i k
unfolding comes_before
reaches-before g i k = past-is g i k

place-is : (g : Graph) (own : ℕ) (view : List ℕ) (access : Option Access) (kept : LastAccess) → IsChained g → ((found : Access) → access ≡ Some found → is_raising g found.point ≡ true) → Shows g own view → ShowsLast g access (Some kept) → unordered_place g (Some own) access ≡ cond {A = Option ℕ} (within kept.view view) None (Some kept.place)
place-is g own view None kept c r s h = absurd h
place-is g own view (Some access) kept c r s h = rw (vectors-reach g access.point own kept.view view c (r access refl) h.0 s ∙ reaches-before g access.point own, h.1) refl

-- a thread that is there, and a use that depends on an access
pub unordered-is : (o : Order) (d : Dependence) (t : ℕ) (used : Use) (view : List ℕ) (kept : LastAccess) → slice_get d.threads t ≡ Some view → slot_of used.action (get_or d.last used.object nothing) ≡ Some kept → ShowsOrder o d → unordered_by o t (Some used) ≡ cond {A = Option ℕ} (within kept.view view) None (Some kept.place)
unordered-is o d t used view kept e k z =
    let f = found_thread o d t view e z in
    let object = z.objects used.object in
    let h = object.last used.action in
    rw f.is (place-is o.graph f.own view (last_before o used) kept z.chained (λ found q. last-raising o.graph used.action (accesses_to o used.object) found q object.raising) f.shown (rw k at h))

-- the answer for each thread
pub unordered-at : (o : Order) (uses : List (Option Use)) (t k m : ℕ) → m ≡ t + k → k < length uses → get_or (unordered_from o t uses) k None ≡ unordered_by o m (get_or uses k None)
unordered-at o [] t k m e l = absurd (omega arith)
unordered-at o (used ∷ uses) t zero m e l = let q : m ≡ t = omega arith in rw q refl
unordered-at o (used ∷ uses) t (suc k) m e l = unordered-at o uses (suc t) k m (omega arith) (omega arith)

length-unordered : (o : Order) (uses : List (Option Use)) (t : ℕ) → length (unordered_from o t uses) ≡ length uses
length-unordered o [] t = refl
length-unordered o (used ∷ uses) t = let e = length-unordered o uses (suc t) in omega arith

pub unordered-from_places : (o : Order) (uses : List (Option Use)) (places : List (Option ℕ)) → length uses ≡ 5 → length places ≡ 5 → ((k : ℕ) → k < 5 → get_or places k None ≡ unordered_by o k (get_or uses k None)) → places ≡ unordered o uses
unordered-from_places o uses places a b h = ext_get_or None places (unordered o uses) (omega (arith, length-unordered o uses 0)) (λ k l. h k (omega arith) ∙ sym (unordered-at o uses 0 k k (omega arith) (omega arith)))
