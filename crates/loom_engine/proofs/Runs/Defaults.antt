-- A schedule's question is sound, and the choices that are no threads are no options.
use Rattle.std.proofs.Common.{◌≡◌, ◌≤◌, ℕ, zero, suc, Bool, true, false, List, [], ◌∷◌, length, map, Option, Some, None, refl, ap, sym, subst, inl, inr, arith}
use Rattle.std.specs.Prelude.{slice_set}
use Rattle.loom_objects.specs.declared.rt.schedule.Ability.{Ability}
use Rattle.loom_objects.specs.declared.rt.schedule.Ability.TheVariants.{Able, Yielding, Unable}
use Rattle.loom_objects.specs.declared.choice.Choice.{Choice}
use Rattle.loom_objects.specs.declared.choice.Choice.TheVariants.{Thread, Load, Spurious}
use Rattle.loom_objects.specs.declared.rt.schedule.Offers.{Offers}
use Rattle.loom_objects.specs.Tree.Question.{Among, made_of, able_threads, thread_options}
use Rattle.loom_objects.specs.Tree.Sound.{IsSound}
use Rattle.loom_objects.specs.Tree.Stores.{slots_from}
use Rattle.loom_objects.specs.Schedule.Offers.{ability_in, offers, standings, with_able}
use Rattle.loom_objects.specs.World.{World}
use Rattle.loom_objects.proofs.Scene.Offering.{offers_sound}
use Rattle.loom_objects.specs.Tree.Asked.{which_thread, whether_spurious}
use Rattle.loom_engine.proofs.Asking.{which_is_sound}

pub set_length : {A : Type 0} (xs : List A) (k : ℕ) (a : A) → length (slice_set xs k a) ≡ length xs
set_length [] k a = refl
set_length (x ∷ xs) zero a = refl
set_length (x ∷ xs) (suc k) a = ap suc (set_length xs k a)

able_length : (default : Option ℕ) (abilities : List Ability) → length (with_able default abilities) ≡ length abilities
able_length None abilities = refl
able_length (Some k) abilities = set_length abilities k Able

-- whatever the threads are, the question which of them goes on is sound
pub offers_ask : {D : Type 0} (exploring : Bool) (w : World D) (places : List (Option ℕ)) → IsSound (which_thread exploring (offers w) places)
offers_ask exploring w places =
    let few = able_length (offers w).default (map ability_in (standings w)) in
    which_is_sound exploring (offers w) places (offers_sound w.active (standings w)) (omega (arith, few))

-- an option of a schedule is a thread
abbrev pub IsThreadChoice : Choice → Type 0
IsThreadChoice (Thread t) = Unit {0}
IsThreadChoice (Load slot) = ⊥
IsThreadChoice (Spurious answer) = ⊥

able_are_threads : (abilities : List Ability) (k : ℕ) (choice : Choice) → Among choice (able_threads k abilities) → IsThreadChoice choice
able_are_threads [] k choice h = absurd h
able_are_threads (Able ∷ rest) k choice (inl e) = subst IsThreadChoice (sym e) tt
able_are_threads (Able ∷ rest) k choice (inr h) = able_are_threads rest (suc k) choice h
able_are_threads (Yielding ∷ rest) k choice h = able_are_threads rest (suc k) choice h
able_are_threads (Unable ∷ rest) k choice h = able_are_threads rest (suc k) choice h

thread_options_are : (default : Option ℕ) (abilities : List Ability) (choice : Choice) → Among choice (thread_options default abilities) → IsThreadChoice choice
thread_options_are None abilities choice (inl e) = subst IsThreadChoice (sym e) tt
thread_options_are None abilities choice (inr h) = absurd h
thread_options_are (Some k) abilities choice h = able_are_threads abilities 0 choice h

pub options_are_threads : (exploring : Bool) (offers : Offers) (places : List (Option ℕ)) (choice : Choice) → Among choice (made_of (which_thread exploring offers places)).options → IsThreadChoice choice
options_are_threads exploring offers places choice h = thread_options_are offers.default offers.abilities choice h

-- ---- loads

abbrev pub IsLoadChoice : Choice → Type 0
IsLoadChoice (Thread k) = ⊥
IsLoadChoice (Load slot) = Unit {0}
IsLoadChoice (Spurious answer) = ⊥

pub options_are_loads : (numbers : List ℕ) (choice : Choice) → Among choice (map (λ slot. Load slot) numbers) → IsLoadChoice choice
options_are_loads [] choice h = absurd h
options_are_loads (slot ∷ numbers) choice (inl e) = subst IsLoadChoice (sym e) tt
options_are_loads (slot ∷ numbers) choice (inr h) = options_are_loads numbers choice h

-- no more slots than places
pub slots_few : (readable : List Bool) (k : ℕ) → length (slots_from k readable) ≤ length readable
slots_few [] k = omega arith
slots_few (true ∷ readable) k = let h = slots_few readable (suc k) in omega arith
slots_few (false ∷ readable) k = let h = slots_few readable (suc k) in omega arith

-- ---- spurious wake-ups

abbrev pub IsFlagChoice : Choice → Type 0
IsFlagChoice (Thread k) = ⊥
IsFlagChoice (Load slot) = ⊥
IsFlagChoice (Spurious answer) = Unit {0}

pub options_are_flags : (exploring : Bool) (choice : Choice) → Among choice (made_of (whether_spurious exploring)).options → IsFlagChoice choice
options_are_flags exploring choice (inl e) = subst IsFlagChoice (sym e) tt
options_are_flags exploring choice (inr (inl e)) = subst IsFlagChoice (sym e) tt
options_are_flags exploring choice (inr (inr h)) = absurd h
