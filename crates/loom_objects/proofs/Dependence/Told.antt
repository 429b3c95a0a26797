-- Vectors tell the order of accesses.
use Rattle.std.proofs.Common.{◌≡◌, ℕ, true, List, [], ◌∷◌, get_or, refl, subst, ◌∙◌, Option, Some, None}
use Rattle.std.specs.List.{AllByRecursion}
use Rattle.loom_views.specs.Graph.{Graph, Shows, IsChained}
use Rattle.loom_views.proofs.Views.Counted.{counted-is}
use Rattle.loom_views.specs.Laws.Reaching.{is_raising}
use Rattle.loom_objects.specs.declared.rt.access.LastAccess.{LastAccess}
use Rattle.loom_objects.specs.Dependence.Order.{Access, accesses_to, last_before}
use Rattle.loom_objects.specs.Dependence.Shown.{ShowsLast, AreRaising, nothing, slot_of}
use Rattle.loom_objects.specs.Dependence.Laws.{TellsOrder, TellsKept, VectorLaw}
use Rattle.loom_objects.proofs.Dependence.Steps.{found_thread}
use Rattle.loom_objects.proofs.Dependence.Asked.{last-raising, vectors-reach, reaches-before}

tells-made : (g : Graph) (own : ℕ) (view : List ℕ) (accesses : List Access) → IsChained g → Shows g own view → AreRaising g accesses → AllByRecursion (TellsOrder g own view) accesses
tells-made g own view [] c s h = tt
tells-made g own view (access ∷ earlier) c s h = (λ other shown. vectors-reach g access.point own other view c h.0 shown s, tells-made g own view earlier c s h.1)

tells-kept : (g : Graph) (own : ℕ) (view : List ℕ) (access : Option Access) (kept : Option LastAccess) → IsChained g → Shows g own view → ((found : Access) → access ≡ Some found → is_raising g found.point ≡ true) → ShowsLast g access kept → TellsKept g own view access kept
tells-kept g own view None None c s r h = tt
tells-kept g own view None (Some kept) c s r h = absurd h
tells-kept g own view (Some access) None c s r h = absurd h
tells-kept g own view (Some access) (Some kept) c s r h = (h.1, vectors-reach g access.point own kept.view view c (r access refl) h.0 s ∙ reaches-before g access.point own)

pub vector_law : VectorLaw
vector_law o d t own view z e k =
    let f = found_thread o d t view k z in
    let same : f.own ≡ own = cc in
    let shown : Shows o.graph own view = subst (λ n. Shows o.graph n view) same f.shown in
    record {
      counted = λ u l. counted-is o.graph own u view l shown;
      made = λ n. tells-made o.graph own view (accesses_to o n) z.chained shown (z.objects n).raising;
      kept = λ used. let object = z.objects used.object in tells-kept o.graph own view (last_before o used) (slot_of used.action (get_or d.last used.object nothing)) z.chained shown (λ found q. last-raising o.graph used.action (accesses_to o used.object) found q object.raising) (object.last used.action);
    }
