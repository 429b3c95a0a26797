-- Two threads pass a message, or store and look at what the other stored, by computation over the definitions.
use Rattle.std.proofs.Common.{◌≡◌, ℕ, List, [], ◌∷◌, refl, Result, Ok, Err}
use Rattle.std.specs.declared.sync.atomic.Ordering.{Ordering}
use Rattle.std.specs.declared.sync.atomic.Ordering.TheVariants.{Relaxed, Release, AcqRel, SeqCst}
use Rattle.loom_views.specs.declared.rt.atomic.reader.Reader.TheVariants.{Load}
use Rattle.loom_views.specs.declared.rt.failure.FailureKind.{FailureKind}
use Rattle.loom_views.specs.declared.rt.failure.FailureKind.TheVariants.{Misuse}
use Rattle.loom_views.specs.Graph.{reaches, raised, inside}
use Rattle.loom_views.specs.Atomic.Slots.{number_in_slot}
use Rattle.loom_views.specs.AccessRecords.{races}
use Rattle.loom_views.specs.Atomic.History.{has_same_order, drops, is_below, is_seen}
use Rattle.loom_views.specs.Views.{Points, opening, points_after_raise, points_after_acquire, points_after_release, points_with_point, points_after_spawn, points_with_atomic, points_after_load, points_after_store, points_after_fence, readable_slots_of}

abbrev then : {A B : Type 0} → Result A FailureKind → (A → Result B FailureKind) → Result B FailureKind
then (Ok x) next = next x
then (Err kind) next = Err kind

-- main has a notifier (0) and an atomic (1), spawns a child, stores 7 and releases to the notifier
abbrev sent : Result Points FailureKind
sent =
    then (points_after_spawn (points_with_atomic (points_with_point opening) 0 5) 0) (λ p.
    then (points_after_raise p 0) (λ q.
    then (points_after_store q 0 1 7 Relaxed) (λ made. Ok (points_after_release made.points 0 0 Release))))

-- what the child may read, once it has raised
abbrev read : Points → Result (List ℕ) FailureKind
read p = then (points_after_raise p 1) (λ q. readable_slots_of q 1 1 (Load Relaxed))

-- with no acquire it may read either store
either_store : then sent read ≡ Ok (0 ∷ 1 ∷ [])
unfolding raised races inside reaches has_same_order number_in_slot drops is_below is_seen
either_store = refl

-- once it has acquired from the notifier it may read the second alone, and loads 7
second_store : then sent (λ p. read (points_after_acquire p 1 0)) ≡ Ok (1 ∷ [])
unfolding raised races inside reaches has_same_order number_in_slot drops is_below is_seen
second_store = refl

loads_7 : then sent (λ p. then (points_after_raise (points_after_acquire p 1 0) 1) (λ q. then (points_after_load q 1 1 1 Relaxed) (λ loaded. Ok loaded.value))) ≡ Ok 7
unfolding raised races inside reaches number_in_slot
loads_7 = refl

-- the notifier is no atomic
no_atomic : then sent (λ p. readable_slots_of p 1 0 (Load Relaxed)) ≡ Err Misuse
unfolding raised races inside reaches
no_atomic = refl

-- two atomics, of which a thread stores 1 to the one of its number, passes a fence, and is about to load
abbrev passed : Ordering → ℕ → Points → Result Points FailureKind
passed order t p =
    then (points_after_raise p t) (λ q.
    then (points_after_store q t t 1 Relaxed) (λ stored.
    then (points_after_raise stored.points t) (λ r. points_after_raise (points_after_fence r t order) t)))

-- main has made them and spawned a child, and both have passed their fences, main first
abbrev both : Ordering → Result Points FailureKind
both order = then (points_after_spawn (points_with_atomic (points_with_atomic opening 0 0) 0 0) 0) (λ p. then (passed order 0 p) (passed order 1))

-- past sequentially consistent fences the child sees what main stored, and main may miss what the child stored
seq_cst_child : then (both SeqCst) (λ p. readable_slots_of p 1 0 (Load Relaxed)) ≡ Ok (1 ∷ [])
unfolding raised races inside reaches has_same_order number_in_slot drops is_below is_seen
seq_cst_child = refl

seq_cst_main : then (both SeqCst) (λ p. readable_slots_of p 0 1 (Load Relaxed)) ≡ Ok (0 ∷ 1 ∷ [])
unfolding raised races inside reaches has_same_order number_in_slot drops is_below is_seen
seq_cst_main = refl

-- past weaker ones the child may miss it too
acq_rel_child : then (both AcqRel) (λ p. readable_slots_of p 1 0 (Load Relaxed)) ≡ Ok (0 ∷ 1 ∷ [])
unfolding raised races inside reaches has_same_order number_in_slot drops is_below is_seen
acq_rel_child = refl
