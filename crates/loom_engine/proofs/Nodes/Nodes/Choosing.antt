-- A schedule's next choice, as a walk sees it.
use Rattle.std.proofs.Common.{◌≡◌, ℕ, suc, ◌+◌, ◌<◌, Bool, true, false, List, [], ◌∷◌, map, Option, Some, None, ◌⊎◌, refl, ap, sym, ◌∙◌, subst, inl, inr, arith}
use Rattle.std.specs.Prelude.{slice_get, slice_set, cond}
use Rattle.std.specs.List.{position_from}
use Rattle.std.specs.Option.{option_map}
use mathlib.Core.Path.{fun_ext}
use native.Mathlib.Decide.{ℕ_discrete}
use Rattle.loom_objects.specs.declared.choice.Choice.{Choice}
use Rattle.loom_objects.specs.declared.choice.Choice.TheVariants.{Thread, Load, Spurious}
use Rattle.loom_objects.specs.declared.rt.schedule.Ability.{Ability}
use Rattle.loom_objects.specs.Tree.Question.{Among, WhichThread, able_threads, made_of}
use Rattle.loom_engine.specs.Walk.Machine.{is_thread}
use Rattle.loom_engine.specs.Walk.Choices.{same, pick}
use Rattle.loom_engine.specs.Walk.Path.{Status as State, Closed, Skip as Skipped, Pending as ToTry, Active as Chosen, Visited as Tried, Stored, IsAtRest, first_pending, advance, choose}
use Rattle.loom_engine.specs.declared.rt.path.node.Status.{Status}
use Rattle.loom_engine.specs.declared.rt.path.node.Status.TheVariants.{Disabled, Skip, Yield, Pending, Active, Visited}
use Rattle.loom_engine.specs.Path.Nodes.{ability_of, state_at, thread_state, active_thread, with_status, seen_threads, is_active, is_pending, is_left}
use Rattle.loom_engine.proofs.Walk.Lists.{pick_same, pick_other}
use Rattle.loom_engine.proofs.Walk.Statuses.{Chosen as NowChosen, was_present, is_next, is_other, chosen_cases}
use Rattle.loom_engine.proofs.Nodes.Nodes.Statuses.{active_is, pending_is, is_open, left_able, state_there, open_there, get_put, get_else, state_put, state_else, offers_put, first_found, first_is}

-- ---- what is left

-- a schedule at rest without a default has nobody left
none_left : (statuses : List Status) (k : ℕ) (s : Status) → IsAtRest (seen_threads None true statuses) → slice_get statuses k ≡ Some s → is_left s ≡ true → ⊥
none_left statuses k s rest h l =
    elim (rest.closed (Thread (Some k)) (λ g. let there = open_there statuses k s h l in cc (g, there))) [ inl g ↦ cc g | inr g ↦ g ]

-- the place of the first pending thread is one at which a thread is pending
pub pending_there : (statuses : List Status) (k : ℕ) → position_from is_pending 0 statuses ≡ Some k → slice_get statuses k ≡ Some Pending
pending_there statuses k h =
    let r = first_found is_pending 0 statuses k h in
    let place : k ≡ r.0 = omega (arith, r.1) in
    ap (slice_get statuses) place ∙ r.2.here ∙ ap Some (pending_is r.2.it r.2.passes)

not_to_try : (s : Choice → State) (o : Choice) (rest : List Choice) (t : State) → s o ≡ t → (t ≡ ToTry → ⊥) → first_pending s (o ∷ rest) ≡ first_pending s rest
not_to_try s o rest t e f = ap here e ∙ go t f
  where
    here : State → Option Choice
    here a = elim a [ ToTry ↦ Some o | _ ↦ first_pending s rest ]

    go : (t : State) → (t ≡ ToTry → ⊥) → (elim t [ ToTry ↦ Some o | _ ↦ first_pending s rest ]) ≡ first_pending s rest
    go ToTry f = absurd (f refl)
    go Closed f = refl
    go Skipped f = refl
    go Chosen f = refl
    go Tried f = refl

to_try : (s : Choice → State) (o : Choice) (rest : List Choice) → s o ≡ ToTry → first_pending s (o ∷ rest) ≡ Some o
to_try s o rest e = ap here e
  where
    here : State → Option Choice
    here a = elim a [ ToTry ↦ Some o | _ ↦ first_pending s rest ]

-- the first pending thread is the first option that is to be tried
lowest_pending : (i : ℕ) (statuses : List Status) (s : Choice → State) → ((l : ℕ) → s (Thread (Some (i + l))) ≡ state_at statuses l)
    → first_pending s (able_threads i (map ability_of statuses)) ≡ option_map (λ k. Thread (Some k)) (position_from is_pending i statuses)
lowest_pending i [] s f = refl
lowest_pending i (x ∷ statuses) s f =
    let start : i ≡ i + 0 = omega arith in
    let after : suc i ≡ i + 1 = omega arith in
    go x (ap (λ l. s (Thread (Some l))) start ∙ f 0) (
    lowest_pending (suc i) statuses s (λ l. let place : suc i + l ≡ i + suc l = omega arith in ap (λ j. s (Thread (Some j))) place ∙ f (suc l))
    ∙ ap (λ j. option_map (λ k. Thread (Some k)) (position_from is_pending j statuses)) after
    )
  where
    go : (y : Status) → s (Thread (Some i)) ≡ state_at (y ∷ statuses) 0
        → first_pending s (able_threads (suc i) (map ability_of statuses)) ≡ option_map (λ k. Thread (Some k)) (position_from is_pending (i + 1) statuses)
        → first_pending s (able_threads i (map ability_of (y ∷ statuses))) ≡ option_map (λ k. Thread (Some k)) (position_from is_pending i (y ∷ statuses))
    go Disabled e later = later
    go Yield e later = later
    go Skip e later = not_to_try s (Thread (Some i)) (able_threads (suc i) (map ability_of statuses)) Skipped e (λ g. cc g) ∙ later
    go Pending e later = to_try s (Thread (Some i)) (able_threads (suc i) (map ability_of statuses)) e
    go Active e later = not_to_try s (Thread (Some i)) (able_threads (suc i) (map ability_of statuses)) Chosen e (λ g. cc g) ∙ later
    go Visited e later = not_to_try s (Thread (Some i)) (able_threads (suc i) (map ability_of statuses)) Tried e (λ g. cc g) ∙ later

-- ---- a node goes over to an open option

choose_at_rest : (n : Stored) (o : Choice) → IsAtRest n → n.made.exploring ≡ true → is_open (n.status o) ≡ true → IsAtRest (choose n o)
choose_at_rest n o w ex is =
    record {
      active = active (chosen_cases n o o);
      one = λ x h. one x h (chosen_cases n o x);
      default = default (chosen_cases n o n.made.default);
      opened = λ x am h. opened x am h (chosen_cases n o x);
      closed = λ x h. closed x h (chosen_cases n o x);
      values = λ t x h. values t x h (chosen_cases n o x);
      fixed = λ e. absurd (cc (e, ex));
    }
  where
    s : Choice → State
    s x = (choose n o).status x

    moved : o ≡ n.present → ⊥
    moved e = (let z = ap is_open (ap n.status e ∙ w.active) in cc (z, is))

    active : NowChosen n o o (s o) → s o ≡ Chosen
    active (was_present e f) = absurd (moved e)
    active (is_next ne e f) = f
    active (is_other ne no_ f) = absurd (no_ refl)

    one : (x : Choice) → s x ≡ Chosen → NowChosen n o x (s x) → x ≡ o
    one x h (was_present e f) = absurd (cc (h, f))
    one x h (is_next ne e f) = e
    one x h (is_other ne no_ f) = absurd (ne (w.one x (sym f ∙ h)))

    default : NowChosen n o n.made.default (s n.made.default) → (s n.made.default ≡ Chosen) ⊎ (s n.made.default ≡ Tried)
    default (was_present e f) = inr f
    default (is_next ne e f) = inl f
    default (is_other ne no_ f) = elim w.default [ inl d ↦ inl (f ∙ d) | inr d ↦ inr (f ∙ d) ]

    opened : (x : Choice) → Among x n.made.options → s x ≡ Closed → NowChosen n o x (s x) → ⊥
    opened x am h (was_present e f) = cc (h, f)
    opened x am h (is_next ne e f) = cc (h, f)
    opened x am h (is_other ne no_ f) = w.opened x am (sym f ∙ h)

    closed : (x : Choice) → (s x ≡ Closed → ⊥) → NowChosen n o x (s x) → Among x n.made.options
    closed x h (was_present e f) = subst (λ u. Among u n.made.options) (sym e) (w.closed n.present (λ g. cc (g, w.active)))
    closed x h (is_next ne e f) = subst (λ u. Among u n.made.options) (sym e) (w.closed o (λ g. let z = ap is_open g in cc (z, is)))
    closed x h (is_other ne no_ f) = w.closed x (λ g. h (f ∙ g))

    values : is_thread n.made.default ≡ false → (x : Choice) → s x ≡ Skipped → NowChosen n o x (s x) → ⊥
    values t x h (was_present e f) = cc (h, f)
    values t x h (is_next ne e f) = cc (h, f)
    values t x h (is_other ne no_ f) = w.values t x (sym f ∙ h)

-- ---- another thread is chosen

other_choice : (c d e : Choice) (s : State) → (c ≡ d → ⊥) → (c ≡ e → ⊥) → pick (same c d) Tried (pick (same c e) Chosen s) ≡ s
other_choice c d e s f g = pick_other c d Tried (pick (same c e) Chosen s) f ∙ pick_other c e Chosen s g

abbrev stored : Option ℕ → Bool → List Ability → Option ℕ → (Choice → State) → Stored
stored first exploring offers present status = record {
  made = made_of (WhichThread exploring (record { default = first; abilities = offers; unordered = [] }));
  present = Thread present;
  status = status;
}

module _ (first : ℕ) (exploring : Bool) (statuses : List Status) (a k : ℕ) (rest : IsAtRest (seen_threads (Some first) true statuses))
    (ia : active_thread statuses ≡ Some a) (s : Status) (left : is_left s ≡ true) (here : slice_get statuses k ≡ Some s) where
  active_there : slice_get statuses a ≡ Some Active
  active_there =
      let r = first_found is_active 0 statuses a ia in
      let place : a ≡ r.0 = omega (arith, r.1) in
      ap (slice_get statuses) place ∙ r.2.here ∙ ap Some (active_is r.2.it r.2.passes)

  apart : a ≡ k → ⊥
  apart e =
      let same_status : Active ≡ s = cc (active_there, here, ap (slice_get statuses) e) in
      let not_left = ap is_left same_status in
      cc (not_left, left)

  once : List Status
  once = slice_set statuses a Visited

  both : List Status
  both = slice_set once k Active

  still_left : slice_get once k ≡ Some s
  unfolding once
  still_left = get_else statuses a k Visited apart ∙ here

  new_present : active_thread both ≡ Some k
  unfolding once both
  new_present = first_is is_active 0 both k (record { it = Active; here = get_put once k Active s still_left; passes = refl; first = none }) ∙ ap Some (omega arith)
    where
      none : (l : ℕ) (t : Status) → l < k → slice_get both l ≡ Some t → is_active t ≡ false
      none l t h g = by_test (is_active t) refl
        where
          there : slice_get once l ≡ Some t
          there = sym (get_else once k l Active (λ e. omega (arith, e))) ∙ g

          not_so : t ≡ Active → Dec (a ≡ l) → ⊥
          not_so e (yes d) = (let v = get_put statuses a Visited Active active_there in cc (v, there, ap (slice_get once) d, e))
          not_so e (no d) =
              let old : slice_get statuses l ≡ Some Active = sym (get_else statuses a l Visited d) ∙ there ∙ ap Some e in
              let one : Thread (Some l) ≡ Thread (active_thread statuses) = rest.one (Thread (Some l)) (state_there statuses l Active old) in
              d (cc (one, ia))

          by_test : (b : Bool) → is_active t ≡ b → b ≡ false
          by_test true e = absurd (not_so (active_is t e) (ℕ_discrete a l))
          by_test false e = refl

  new_offers : map ability_of both ≡ map ability_of statuses
  unfolding once both
  new_offers = offers_put once k Active s still_left (sym (left_able s left)) ∙ offers_put statuses a Visited Active active_there refl

  new_state : (c : Choice) → thread_state (Some first) both c ≡ pick (same c (Thread (active_thread statuses))) Tried (pick (same c (Thread (Some k))) Chosen (thread_state (Some first) statuses c))
  unfolding once both
  new_state (Thread None) = sym (other_choice (Thread None) (Thread (active_thread statuses)) (Thread (Some k)) Closed (λ e. cc (e, ia)) (λ e. cc e))
  new_state (Load s) = sym (other_choice (Load s) (Thread (active_thread statuses)) (Thread (Some k)) Closed (λ e. cc e) (λ e. cc e))
  new_state (Spurious b) = sym (other_choice (Spurious b) (Thread (active_thread statuses)) (Thread (Some k)) Closed (λ e. cc e) (λ e. cc e))
  new_state (Thread (Some j)) = go (ℕ_discrete a j) (ℕ_discrete k j)
    where
      go : Dec (a ≡ j) → Dec (k ≡ j) → state_at both j ≡ pick (same (Thread (Some j)) (Thread (active_thread statuses))) Tried (pick (same (Thread (Some j)) (Thread (Some k))) Chosen (state_at statuses j))
      go (yes e) d =
          let at : Thread (active_thread statuses) ≡ Thread (Some j) = cc (ia, e) in
          state_else once k j Active (λ g. apart (e ∙ sym g)) ∙ ap (state_at once) (sym e) ∙ state_put statuses a Visited Active active_there
          ∙ sym (ap (λ (c : Choice). pick (same (Thread (Some j)) c) Tried (pick (same (Thread (Some j)) (Thread (Some k))) Chosen (state_at statuses j))) at ∙ pick_same (Thread (Some j)) Tried _)
      go (no d) (yes e) =
          let at : Thread (Some k) ≡ Thread (Some j) = cc e in
          ap (state_at both) (sym e) ∙ state_put once k Active s still_left
          ∙ sym (pick_other (Thread (Some j)) (Thread (active_thread statuses)) Tried _ (λ g. d (cc (g, ia)))
          ∙ ap (λ (c : Choice). pick (same (Thread (Some j)) c) Chosen (state_at statuses j)) at ∙ pick_same (Thread (Some j)) Chosen _)
      go (no d) (no e) =
          state_else once k j Active e ∙ state_else statuses a j Visited d
          ∙ sym (other_choice (Thread (Some j)) (Thread (active_thread statuses)) (Thread (Some k)) (state_at statuses j) (λ g. d (cc (g, ia))) (λ g. e (cc g)))

  chosen_by : seen_threads (Some first) exploring (slice_set (slice_set statuses a Visited) k Active) ≡ choose (seen_threads (Some first) exploring statuses) (Thread (Some k))
  unfolding once both
  chosen_by =
      ap (λ l. stored (Some first) exploring l (active_thread both) (thread_state (Some first) both)) new_offers
      ∙ ap (λ (o : Option ℕ). stored (Some first) exploring (map ability_of statuses) o (thread_state (Some first) both)) new_present
      ∙ ap (stored (Some first) exploring (map ability_of statuses) (Some k)) (fun_ext new_state)

-- the thread that was active is visited, and one that is left is active: it is the node with that choice
pub chosen_is : (first : Option ℕ) (exploring : Bool) (statuses : List Status) (k : ℕ) (s : Status) → IsAtRest (seen_threads first true statuses) → slice_get statuses k ≡ Some s → is_left s ≡ true
    → seen_threads first exploring (slice_set (with_status (active_thread statuses) Visited statuses) k Active) ≡ choose (seen_threads first exploring statuses) (Thread (Some k))
chosen_is None exploring statuses k s rest h l = absurd (none_left statuses k s rest h l)
chosen_is (Some first) exploring statuses k s rest h l = go (active_thread statuses) refl
  where
    go : (o : Option ℕ) → active_thread statuses ≡ o
        → seen_threads (Some first) exploring (slice_set (with_status o Visited statuses) k Active) ≡ choose (seen_threads (Some first) exploring statuses) (Thread (Some k))
    go None e = absurd (cc (rest.active, e))
    go (Some a) e = chosen_by first exploring statuses a k rest e s l h

-- and it is at rest, where the run explores
pub chosen_rests : (first : Option ℕ) (statuses : List Status) (k : ℕ) (s : Status) → IsAtRest (seen_threads first true statuses)
    → slice_get statuses k ≡ Some s → is_left s ≡ true → IsAtRest (choose (seen_threads first true statuses) (Thread (Some k)))
chosen_rests None statuses k s rest h l = absurd (none_left statuses k s rest h l)
chosen_rests (Some first) statuses k s rest h l = choose_at_rest (seen_threads (Some first) true statuses) (Thread (Some k)) rest refl (open_there statuses k s h l)

-- ---- the next choice

-- a node that explores goes on to its lowest pending thread
pub goes_on : (first : Option ℕ) (exploring : Bool) (statuses : List Status) (k : ℕ) → IsAtRest (seen_threads first true statuses) → exploring ≡ true
    → position_from is_pending 0 statuses ≡ Some k → advance (seen_threads first exploring statuses) ≡ Some (choose (seen_threads first exploring statuses) (Thread (Some k)))
goes_on None exploring statuses k rest e h = absurd (none_left statuses k Pending rest (pending_there statuses k h) refl)
goes_on (Some first) exploring statuses k rest e h =
    let n : Stored = seen_threads (Some first) exploring statuses in
    let lowest : first_pending n.status n.made.options ≡ Some (Thread (Some k)) =
    lowest_pending 0 statuses (thread_state (Some first) statuses) (λ l. ap (state_at statuses) (omega arith)) ∙ ap (option_map (λ k. Thread (Some k))) h in
    explores n e ∙ ap (next_of n) lowest
  where
    next_of : Stored → Option Choice → Option Stored
    next_of n o = elim o [ None ↦ None | Some x ↦ Some (choose n x) ]

    explores : (n : Stored) → n.made.exploring ≡ true → advance n ≡ next_of n (first_pending n.status n.made.options)
    explores n e = ap (λ b. cond b (next_of n (first_pending n.status n.made.options)) None) e

-- and none does where nobody is pending
pub ends_here : (first : Option ℕ) (exploring : Bool) (statuses : List Status) → position_from is_pending 0 statuses ≡ None → advance (seen_threads first exploring statuses) ≡ None
ends_here first false statuses h = refl
ends_here None true statuses h = refl
ends_here (Some first) true statuses h =
    let none : first_pending (thread_state (Some first) statuses) (able_threads 0 (map ability_of statuses)) ≡ None =
    lowest_pending 0 statuses (thread_state (Some first) statuses) (λ l. ap (state_at statuses) (omega arith)) ∙ ap (option_map (λ k. Thread (Some k))) h in
    rw none refl

-- nor does one that doesn't explore
pub stays : (first : Option ℕ) (exploring : Bool) (statuses : List Status) → exploring ≡ false → advance (seen_threads first exploring statuses) ≡ None
stays first exploring statuses e = ap (λ b. advance (seen_threads first b statuses)) e
