-- Adding a thread at a schedule, as a walk sees it.
use Rattle.std.proofs.Common.{◌≡◌, ◌≢◌, ℕ, zero, suc, ◌+◌, Bool, true, false, ◌&&◌, ◌||◌, List, [], ◌∷◌, length, map, Option, Some, None, refl, ap, sym, ◌∙◌, subst, arith, get_or}
use Rattle.std.specs.Prelude.{◌≤◌, ◌<◌, cond, slice_get, slice_set}
use Rattle.std.specs.List.{position_from}
use mathlib.Core.Path.{fun_ext}
use native.Mathlib.Decide.{ℕ_discrete}
use Rattle.loom_objects.specs.declared.choice.Choice.{Choice}
use Rattle.loom_objects.specs.declared.choice.Choice.TheVariants.{Thread, Load, Spurious}
use Rattle.loom_objects.specs.declared.rt.schedule.Ability.{Ability}
use Rattle.loom_objects.specs.declared.rt.schedule.Ability.TheVariants.{Able, Yielding, Unable}
use Rattle.loom_objects.specs.Tree.Question.{WhichThread, made_of}
use Rattle.loom_engine.specs.Walk.Choices.{same, pick}
use Rattle.loom_engine.specs.Walk.Machine.{Machine}
use Rattle.loom_engine.specs.Walk.Path.{Status as State, Closed, Skip as Skipped, Pending as ToTry, Active as Chosen, Visited as Tried, Stored, IsAtRest, mark_status}
use Rattle.loom_engine.specs.Trees.Marks.{is_unable, is_disabled, adds_there}
use Rattle.loom_engine.proofs.Walk.Lists.{pick_same, pick_other}
use Rattle.loom_engine.proofs.Walk.Resting.{mark_at_rest}
use Rattle.loom_engine.specs.declared.rt.path.node.Schedule.{Schedule}
use Rattle.loom_engine.specs.declared.rt.path.node.Status.{Status}
use Rattle.loom_engine.specs.declared.rt.path.node.Status.TheVariants.{Disabled, Skip, Yield, Pending, Active, Visited}
use Rattle.loom_engine.specs.Path.Nodes.{ability_of, state_of, state_at, thread_state, is_active, active_thread, marked_status, mark_added, seen_threads, seen_schedule, IsWellSchedule}
use Rattle.loom_engine.proofs.Nodes.Nodes.Statuses.{state_there, state_put, state_else, offers_put}

-- ---- a schedule with marks

abbrev stored_as : Option ℕ → Bool → List Ability → Option ℕ → (Choice → State) → Stored
stored_as first exploring offers present status = record {
  made = made_of (WhichThread exploring (record { default = first; abilities = offers; unordered = [] }));
  present = Thread present;
  status = status;
}

abbrev with_marks : (Choice → Bool) → Stored → Stored
with_marks marks n = record n { status = λ o. mark_status (marks o) (n.status o) }

marked_seen : (first : Option ℕ) (exploring : Bool) (ts us : List Status) (marks : Choice → Bool) → map ability_of us ≡ map ability_of ts → active_thread us ≡ active_thread ts
    → ((j : ℕ) → state_at us j ≡ mark_status (marks (Thread (Some j))) (state_at ts j)) → seen_threads first exploring us ≡ with_marks marks (seen_threads first exploring ts)
marked_seen first exploring ts us marks offers active state =
    ap (λ l. stored_as first exploring l (active_thread us) (thread_state first us)) offers
    ∙ ap (λ (o : Option ℕ). stored_as first exploring (map ability_of ts) o (thread_state first us)) active
    ∙ ap (stored_as first exploring (map ability_of ts) (active_thread ts)) (fun_ext (states first))
  where
    states : (first : Option ℕ) (c : Choice) → thread_state first us c ≡ mark_status (marks c) (thread_state first ts c)
    states None (Thread (Some j)) = state j
    states (Some f) (Thread (Some j)) = state j
    states None (Thread None) = refl
    states (Some f) (Thread None) = refl
    states None (Load j) = refl
    states (Some f) (Load j) = refl
    states None (Spurious b) = refl
    states (Some f) (Spurious b) = refl

-- ---- each thread that was to be skipped is pending

all_offers : (ts : List Status) → map ability_of (map marked_status ts) ≡ map ability_of ts
all_offers [] = refl
all_offers (Disabled ∷ ts) = ap (λ l. Unable ∷ l) (all_offers ts)
all_offers (Skip ∷ ts) = ap (λ l. Able ∷ l) (all_offers ts)
all_offers (Yield ∷ ts) = ap (λ l. Yielding ∷ l) (all_offers ts)
all_offers (Pending ∷ ts) = ap (λ l. Able ∷ l) (all_offers ts)
all_offers (Active ∷ ts) = ap (λ l. Able ∷ l) (all_offers ts)
all_offers (Visited ∷ ts) = ap (λ l. Able ∷ l) (all_offers ts)

all_active : (i : ℕ) (ts : List Status) → position_from is_active i (map marked_status ts) ≡ position_from is_active i ts
all_active i [] = refl
all_active i (Disabled ∷ ts) = all_active (i + 1) ts
all_active i (Skip ∷ ts) = all_active (i + 1) ts
all_active i (Yield ∷ ts) = all_active (i + 1) ts
all_active i (Pending ∷ ts) = all_active (i + 1) ts
all_active i (Active ∷ ts) = refl
all_active i (Visited ∷ ts) = all_active (i + 1) ts

all_states : (ts : List Status) (j : ℕ) → state_at (map marked_status ts) j ≡ mark_status true (state_at ts j)
all_states [] j = refl
all_states (Disabled ∷ ts) zero = refl
all_states (Skip ∷ ts) zero = refl
all_states (Yield ∷ ts) zero = refl
all_states (Pending ∷ ts) zero = refl
all_states (Active ∷ ts) zero = refl
all_states (Visited ∷ ts) zero = refl
all_states (x ∷ ts) (suc j) = all_states ts j

-- ---- whether a thread can go on

unable_there : (ts : List Status) (t : ℕ) (s : Status) → slice_get ts t ≡ Some s → is_unable (slice_get (map ability_of ts) t) ≡ is_unable (Some (ability_of s))
unable_there [] t s h = absurd (cc h)
unable_there (x ∷ ts) zero s h = let e : x ≡ s = cc h in ap (λ y. is_unable (Some (ability_of y))) e
unable_there (x ∷ ts) (suc t) s h = unable_there ts t s h

unable_past : (ts : List Status) (t : ℕ) → length ts ≤ t → is_unable (slice_get (map ability_of ts) t) ≡ false
unable_past [] t h = refl
unable_past (x ∷ ts) zero h = absurd (omega arith)
unable_past (x ∷ ts) (suc t) h = unable_past ts t (omega arith)

state_past : (ts : List Status) (t : ℕ) → length ts ≤ t → state_at ts t ≡ Closed
state_past [] t h = refl
state_past (x ∷ ts) zero h = absurd (omega arith)
state_past (x ∷ ts) (suc t) h = state_past ts t (omega arith)

active_put : (i : ℕ) (ts : List Status) (k : ℕ) → slice_get ts k ≡ Some Skip → position_from is_active i (slice_set ts k Pending) ≡ position_from is_active i ts
active_put i [] k h = absurd (cc h)
active_put i (x ∷ ts) zero h =
    let e : x ≡ Skip = cc h in
    sym (ap (λ (s : Status). cond (is_active s) (Some i) (position_from is_active (i + 1) ts)) e)
active_put i (x ∷ ts) (suc k) h = ap (λ (r : Option ℕ). cond (is_active x) (Some i) r) (active_put (i + 1) ts k h)

-- ---- marks that change nothing

pub unmarked : (s : State) → s ≡ mark_status false s
unmarked Closed = refl
unmarked Skipped = refl
unmarked ToTry = refl
unmarked Chosen = refl
unmarked Tried = refl

keeps : (b : Bool) (s : State) → s ≢ Skipped → s ≡ mark_status b s
keeps b Closed f = refl
keeps b Skipped f = absurd (f refl)
keeps b ToTry f = refl
keeps b Chosen f = refl
keeps b Tried f = refl

not_skipped : (s : Status) → (s ≡ Skip → ⊥) → state_of s ≢ Skipped
not_skipped Disabled f e = cc e
not_skipped Skip f e = f refl
not_skipped Yield f e = cc e
not_skipped Pending f e = cc e
not_skipped Active f e = cc e
not_skipped Visited f e = cc e

got : (ts : List Status) (t : ℕ) (s d : Status) → t < length ts → get_or ts t d ≡ s → slice_get ts t ≡ Some s
got [] t s d h e = absurd (omega arith)
got (x ∷ ts) zero s d h e = ap Some e
got (x ∷ ts) (suc t) s d h e = got ts t s d (omega arith) e

able : (s : Status) → (s ≡ Disabled → ⊥) → is_unable (Some (ability_of s)) ≡ false
able Disabled f = absurd (f refl)
able Skip f = refl
able Yield f = refl
able Pending f = refl
able Active f = refl
able Visited f = refl

-- ---- one thread is added at a schedule that explores

abbrev adds : List Status → ℕ → Choice → Bool
adds ts t o = is_unable (slice_get (map ability_of ts) t) || pick (same o (Thread (Some t))) true false

abbrev alone : List Status → ℕ → ℕ → Bool → State
alone ts t j b = mark_status (b || pick (same (Thread (Some j)) (Thread (Some t))) true false) (state_at ts j)

-- another thread is as it was
else_alone : (ts : List Status) (t j : ℕ) → (t ≡ j → ⊥) → state_at ts j ≡ alone ts t j false
else_alone ts t j f =
    unmarked (state_at ts j)
    ∙ sym (ap (λ b. mark_status b (state_at ts j)) (pick_other (Thread (Some j)) (Thread (Some t)) true false (λ g. f (cc g))))

here_alone : (ts : List Status) (t : ℕ) → alone ts t t false ≡ mark_status true (state_at ts t)
here_alone ts t = ap (λ b. mark_status b (state_at ts t)) (pick_same (Thread (Some t)) true false)

module _ (n : Schedule) (explores : n.exploring ≡ true) (t : ℕ) where
  abbrev ts : List Status
  ts = n.statuses

  -- what the schedule becomes with other statuses, if each option's state is that with the marks
  added_by : (us : List Status) → map ability_of us ≡ map ability_of ts → active_thread us ≡ active_thread ts
      → ((j : ℕ) → state_at us j ≡ alone ts t j (is_unable (slice_get (map ability_of ts) t))) → seen_schedule (record n { statuses = us }) ≡ mark_added t (seen_schedule n)
  added_by us offers active state =
      subst (λ (b : Bool). seen_threads n.first b us ≡ mark_added t (seen_threads n.first b ts)) (sym explores)
      (marked_seen n.first true ts us (adds ts t) offers active state)

  pub at_disabled : (d : Status) → t < length ts → get_or ts t d ≡ Disabled → seen_schedule (record n { statuses = map marked_status ts }) ≡ mark_added t (seen_schedule n)
  at_disabled d l h =
      added_by (map marked_status ts) (all_offers ts) (all_active 0 ts)
      (λ j. all_states ts j ∙ sym (ap (alone ts t j) (unable_there ts t Disabled (got ts t Disabled d l h))))

  pub at_skipped : (d : Status) → t < length ts → get_or ts t d ≡ Skip → seen_schedule (record n { statuses = slice_set ts t Pending }) ≡ mark_added t (seen_schedule n)
  at_skipped d l h = added_by (slice_set ts t Pending) (offers_put ts t Pending Skip there refl) (active_put 0 ts t there) (λ j. state j (ℕ_discrete t j))
    where
      there : slice_get ts t ≡ Some Skip
      there = got ts t Skip d l h

      state : (j : ℕ) → Dec (t ≡ j) → state_at (slice_set ts t Pending) j ≡ alone ts t j (is_unable (slice_get (map ability_of ts) t))
      state j (yes e) =
          ap (state_at (slice_set ts t Pending)) (sym e) ∙ state_put ts t Pending Skip there ∙ sym (ap (mark_status true) (state_there ts t Skip there)) ∙ sym (here_alone ts t)
          ∙ sym (ap (alone ts t t) (unable_there ts t Skip there)) ∙ ap (λ i. alone ts t i (is_unable (slice_get (map ability_of ts) t))) e
      state j (no f) = state_else ts t j Pending f ∙ else_alone ts t j f ∙ sym (ap (alone ts t j) (unable_there ts t Skip there))

  pub at_other : (d : Status) → t < length ts → (get_or ts t d ≡ Disabled → ⊥) → (get_or ts t d ≡ Skip → ⊥) → seen_schedule n ≡ mark_added t (seen_schedule n)
  at_other d l f g = added_by ts refl refl (λ j. state j (ℕ_discrete t j))
    where
      there : slice_get ts t ≡ Some (get_or ts t d)
      there = got ts t (get_or ts t d) d l refl

      state : (j : ℕ) → Dec (t ≡ j) → state_at ts j ≡ alone ts t j (is_unable (slice_get (map ability_of ts) t))
      state j (yes e) = keeps (adds ts t (Thread (Some j))) (state_at ts j) (λ k. not_skipped (get_or ts t d) g (sym (state_there ts t (get_or ts t d) there) ∙ ap (state_at ts) e ∙ k))
      state j (no x) = else_alone ts t j x ∙ sym (ap (alone ts t j) (unable_there ts t (get_or ts t d) there ∙ able (get_or ts t d) f))

  pub at_nobody : length ts ≤ t → seen_schedule n ≡ mark_added t (seen_schedule n)
  at_nobody h = added_by ts refl refl (λ j. state j (ℕ_discrete t j))
    where
      state : (j : ℕ) → Dec (t ≡ j) → state_at ts j ≡ alone ts t j (is_unable (slice_get (map ability_of ts) t))
      state j (yes e) = let none : state_at ts j ≡ Closed = ap (state_at ts) (sym e) ∙ state_past ts t h in keeps (adds ts t (Thread (Some j))) (state_at ts j) (λ k. cc (none, k))
      state j (no d) = else_alone ts t j d ∙ sym (ap (alone ts t j) (unable_past ts t h))

-- where the run doesn't explore nothing is added
pub at_fixed : (n : Schedule) → n.exploring ≡ false → (t : ℕ) → seen_schedule n ≡ mark_added t (seen_schedule n)
at_fixed n e t =
    subst (λ (b : Bool). seen_threads n.first b n.statuses ≡ mark_added t (seen_threads n.first b n.statuses)) (sym e)
    (marked_seen n.first false n.statuses n.statuses (λ o. false) refl refl (λ j. unmarked (state_at n.statuses j)))

-- ---- the marked schedule is at rest

marker : (Choice → Bool) → Machine
marker marks = record { limit = 0; reduce = true; node = λ c. None; every = λ c. false; marks = λ r k o. marks o; fails = λ c. false }

added_at_rest : (t : ℕ) (n : Stored) → IsAtRest n → IsAtRest (mark_added t n)
unfolding marker
added_at_rest t n w = mark_at_rest (marker (adds_there (Some (n.made, n.present)) t)) [] 0 n w (λ o h. explores n.made.exploring (is_disabled n.made t || pick (same o (Thread (Some t))) true false) h)
  where
    explores : (a b : Bool) → (a && b) ≡ true → a ≡ true
    explores true b h = refl
    explores false b h = absurd (cc h)

-- so is the schedule with other statuses, if adding gives these where it explores
pub added_rests : (t : ℕ) (n : Schedule) (us : List Status) → seen_threads n.first true us ≡ mark_added t (seen_threads n.first true n.statuses) → IsWellSchedule n
    → IsAtRest (seen_threads n.first true us)
added_rests t n us e w = subst IsAtRest (sym e) (added_at_rest t (seen_threads n.first true n.statuses) w)
