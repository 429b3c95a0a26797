-- A store is kept in each slot that is offered, and reading a slot leaves a store in it.
use Rattle.std.proofs.Common.{zero, suc, ◌≡◌, ℕ, ◌<◌, Bool, true, false, List, [], ◌∷◌, length, set, refl, subst, sym, Option, Some, None, Ok, Err}
use Rattle.std.specs.Prelude.{if◌then◌else◌}
use Rattle.std.specs.List.{slice_get, list_any}
use Rattle.std.proofs.lemmas.Option.{slice_get_within}
use Rattle.loom_views.specs.declared.rt.failure.FailureKind.TheVariants.{Race, OpenAccess}
use Rattle.loom_views.specs.ThreadViews.{ThreadPoints}
use Rattle.loom_views.specs.Atomic.History.{Scene, Answer, History, races, conflicts, scene_read, scene_recorded_load, update_read_step}
use Rattle.loom_views.specs.Views.{Place, Meets, Keeps, Records, Points, Accessed, IsSlotKept, has_slot, slot_set, scene_of, points_of, accessed, access_by}
use Rattle.loom_views.specs.Laws.Kept.{KeepingLaw, SlotsStayLaw}
use Rattle.loom_views.proofs.Atomic.Growth.{read-length}
use Rattle.loom_views.proofs.Atomic.Table.Accesses.{readable-kept}
use Rattle.loom_views.proofs.Atomic.Table.Lists.{get-set_same}

pub offered_slots_are_kept_law : KeepingLaw
offered_slots_are_kept_law p t n reader slots slot e h = readable-kept p t n reader slots slot e (at slot h)
  where
    at : (i : ℕ) → slice_get (slot_set slots) i ≡ Some true → has_slot slots i ≡ true
    at zero q = cc
    at (suc zero) q = cc
    at (suc (suc zero)) q = cc
    at (suc (suc (suc zero))) q = cc
    at (suc (suc (suc (suc zero)))) q = cc
    at (suc (suc (suc (suc (suc zero))))) q = cc
    at (suc (suc (suc (suc (suc (suc zero)))))) q = cc
    at (suc (suc (suc (suc (suc (suc (suc i))))))) q = absurd (cc)

-- an access whose tests pass leads to what it is to lead to
passed-after : (P : Accessed → Type 0) (s : Scene) (kinds : List (List ℕ)) (passed : Answer) (p : Points) (t n : ℕ) (after : Accessed) → accessed p t n (conflicts s kinds (Ok passed)) ≡ Ok after → P (record { points = points_of p t n passed.scene; value = passed.value }) → P after
passed-after P s kinds passed p t n after = tested s.history.mutating (list_any (λ points. races s.graph points s.thread.present) kinds)
  where
    tested : (a b : Bool) → accessed p t n (if a then Err OpenAccess else (if b then Err Race else Ok passed)) ≡ Ok after → P (record { points = points_of p t n passed.scene; value = passed.value }) → P after
    tested true b e h = absurd (cc)
    tested false true e h = absurd (cc)
    tested false false e h = let d : ◌≡◌ {A = Accessed} (record { points = points_of p t n passed.scene; value = passed.value }) after = cc in subst P d h

pub reading_keeps_slots_law : SlotsStayLaw
reading_keeps_slots_law p t n slot after = go (slice_get p.threads t) (slice_get p.places n) refl
  where
    go : (o : Option ThreadPoints) (q : Option Place) → slice_get p.places n ≡ q → access_by p t n (λ s. update_read_step t s slot) o q ≡ Ok after → IsSlotKept q slot → IsSlotKept (slice_get after.points.places n) slot
    go None q a e b = absurd (cc)
    go (Some own) None a e b = absurd (cc)
    go (Some own) (Some (Meets k)) a e b = absurd (cc)
    go (Some own) (Some (Records cell)) a e b = absurd (cc)
    go (Some own) (Some (Keeps history)) a e b =
        let s = scene_of p own history in
        let new : History = (scene_read t (scene_recorded_load s) slot).history in
        let there : slice_get (set p.places n (Keeps new)) n ≡ Some (Keeps new) = get-set_same p.places n (Keeps new) (slice_get_within p.places n (Keeps history) a) in
        let kept : slot < length new.stores = subst (λ m. slot < m) (sym (read-length t (scene_recorded_load s) slot)) b.1 in
        passed-after (λ made. IsSlotKept (slice_get made.points.places n) slot) s (history.mutations ∷ []) _ p t n after e (rw there (b.0, kept))
