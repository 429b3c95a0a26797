-- A node is well formed where it is at rest, with a default.
use Rattle.std.proofs.Common.{◌≡◌, ◌≢◌, ◌<◌, ◌≤◌, ◌+◌, ℕ, zero, suc, Bool, true, false, ◌&&◌, ◌||◌, List, [], ◌∷◌, length, map, count_by, slice_index, Option, Some, None, ◌⊎◌, inl, inr, refl, ap, sym, ◌∙◌, arith, tests}
use Rattle.std.specs.Prelude.{slice_get, cond, nat_lt, slice_index_or, ◌↔◌}
use Rattle.std.proofs.lemmas.Bool.{false≢true, eqb-true, eq-eqb}
use Rattle.std.proofs.lemmas.List.Sums.{sum_by-cons}
use borrow.Author.Tests.{ltb-true}
use Rattle.loom_objects.specs.declared.choice.Choice.{Choice}
use Rattle.loom_objects.specs.declared.choice.Choice.TheVariants.{Thread, Load, Spurious}
use Rattle.loom_objects.specs.declared.rt.schedule.Ability.TheVariants.{Able}
use Rattle.loom_objects.specs.Tree.Question.{Made, Among, able_threads, made_of}
use Rattle.loom_objects.specs.Tree.Stores.{slots_from, slots, asked_store}
use Rattle.loom_engine.specs.Walk.Machine.{is_thread}
use Rattle.loom_engine.specs.Walk.Choices.{same, among, pick}
use Rattle.loom_engine.specs.Walk.Path.{Status as State, Closed, Skip as Skipped, Pending as ToTry, Active as Chosen, Visited as Tried, IsAtRest}
use Rattle.loom_engine.specs.Trees.Drive.{value_status}
use Rattle.loom_engine.proofs.Trees.Machines.{able_among}
use Rattle.loom_engine.specs.declared.rt.path.node.Status.{Status}
use Rattle.loom_engine.specs.declared.rt.path.node.Status.TheVariants.{Disabled, Skip, Yield, Pending, Active, Visited}
use Rattle.loom_engine.specs.declared.rt.path.node.Node.{Node}
use Rattle.loom_engine.specs.declared.rt.path.node.Node.TheVariants as node
use Rattle.loom_engine.specs.Path.Nodes.{ability_of, state_of, state_at, thread_state, active_thread, is_active, seen, seen_threads, in_turn, IsWell}
use Rattle.loom_engine.specs.Path.WellFormed.{is_tried, is_marked, is_at, is_well_formed_schedule, is_well_formed_spurious, is_well_formed_from, IsWellFormed, AreWellFormed, AreAtRest}
use Rattle.loom_engine.specs.Path.Nodes.{AreWell}
use Rattle.loom_engine.specs.Path.Route.{stored}
use Rattle.loom_engine.proofs.Nodes.Nodes.Statuses.{active_is, state_there, first_is}

-- ---- tests

pub both : (a b : Bool) → (a && b) ≡ true → (a ≡ true) × (b ≡ true)
both true b e = (refl, e)
both false b e = absurd (false≢true e)

and_true : (a b : Bool) → a ≡ true → b ≡ true → (a && b) ≡ true
and_true a b e f = rw (e, f) refl

or_true : (a b : Bool) → (a ≡ false → b ≡ true) → (a || b) ≡ true
or_true true b f = refl
or_true false b f = f refl

or_holds : (a b : Bool) → (a || b) ≡ true → a ≡ false → b ≡ true
or_holds true b e f = absurd (cc f)
or_holds false b e f = e

below_test : (a b : ℕ) → a < b → nat_lt a b ≡ true
below_test a b h = search (arith, tests)

-- ---- one status

tried_state : (s : Status) → is_tried s ≡ true → (state_of s ≡ Chosen) ⊎ (state_of s ≡ Tried)
tried_state Disabled h = absurd (false≢true h)
tried_state Skip h = absurd (false≢true h)
tried_state Yield h = absurd (false≢true h)
tried_state Pending h = absurd (false≢true h)
tried_state Active h = inl refl
tried_state Visited h = inr refl

state_tried : (s : Status) → (state_of s ≡ Chosen) ⊎ (state_of s ≡ Tried) → is_tried s ≡ true
state_tried Disabled h = elim h [ inl e ↦ absurd (cc e) | inr e ↦ absurd (cc e) ]
state_tried Skip h = elim h [ inl e ↦ absurd (cc e) | inr e ↦ absurd (cc e) ]
state_tried Yield h = elim h [ inl e ↦ absurd (cc e) | inr e ↦ absurd (cc e) ]
state_tried Pending h = elim h [ inl e ↦ absurd (cc e) | inr e ↦ absurd (cc e) ]
state_tried Active h = refl
state_tried Visited h = refl

active_state : (s : Status) → is_active s ≡ true → state_of s ≡ Chosen
active_state s h = ap state_of (active_is s h)

state_active : (s : Status) → state_of s ≡ Chosen → is_active s ≡ true
state_active Disabled h = absurd (cc h)
state_active Skip h = absurd (cc h)
state_active Yield h = absurd (cc h)
state_active Pending h = absurd (cc h)
state_active Active h = refl
state_active Visited h = absurd (cc h)

marked_state : (s : Status) → (state_of s ≡ ToTry) ⊎ (state_of s ≡ Tried) → is_marked s ≡ true
marked_state Disabled h = elim h [ inl e ↦ absurd (cc e) | inr e ↦ absurd (cc e) ]
marked_state Skip h = elim h [ inl e ↦ absurd (cc e) | inr e ↦ absurd (cc e) ]
marked_state Yield h = elim h [ inl e ↦ absurd (cc e) | inr e ↦ absurd (cc e) ]
marked_state Pending h = refl
marked_state Active h = elim h [ inl e ↦ absurd (cc e) | inr e ↦ absurd (cc e) ]
marked_state Visited h = refl

unmarked : (s : Status) → (state_of s ≡ ToTry → ⊥) → (state_of s ≡ Tried → ⊥) → is_marked s ≡ false
unmarked Disabled f g = refl
unmarked Skip f g = refl
unmarked Yield f g = refl
unmarked Pending f g = absurd (f refl)
unmarked Active f g = refl
unmarked Visited f g = absurd (g refl)

-- ---- the status at a place

-- the test of the status that a thread has
at_there : (p : Status → Bool) (k : ℕ) (ss : List Status) → is_at p k ss ≡ true → (s : Status) × (slice_get ss k ≡ Some s) × (p s ≡ true)
at_there p k [] e = absurd (false≢true e)
at_there p zero (s ∷ ss) e = (s, refl, e)
at_there p (suc k) (s ∷ ss) e = at_there p k ss e

there_at : (p : Status → Bool) (k : ℕ) (ss : List Status) (s : Status) → slice_get ss k ≡ Some s → p s ≡ true → is_at p k ss ≡ true
there_at p k [] s h e = absurd (cc h)
there_at p zero (x ∷ ss) s h e = (let is : x ≡ s = cc h in ap p is ∙ e)
there_at p (suc k) (x ∷ ss) s h e = there_at p k ss s h e

-- the thread whose option has a state
has_state : (ss : List Status) (k : ℕ) (a : State) → state_at ss k ≡ a → (a ≡ Closed → ⊥) → (s : Status) × (slice_get ss k ≡ Some s) × (state_of s ≡ a)
has_state [] k a e f = absurd (f (sym e))
has_state (s ∷ ss) zero a e f = (s, refl, e)
has_state (s ∷ ss) (suc k) a e f = has_state ss k a e f

able_open : (ss : List Status) (j : ℕ) → slice_get (map ability_of ss) j ≡ Some Able → state_at ss j ≡ Closed → ⊥
able_open [] j h e = cc h
able_open (Disabled ∷ ss) zero h e = cc h
able_open (Skip ∷ ss) zero h e = cc e
able_open (Yield ∷ ss) zero h e = cc h
able_open (Pending ∷ ss) zero h e = cc e
able_open (Active ∷ ss) zero h e = cc e
able_open (Visited ∷ ss) zero h e = cc e
able_open (s ∷ ss) (suc j) h e = able_open ss j h e

open_able : (ss : List Status) (j : ℕ) → (state_at ss j ≡ Closed → ⊥) → slice_get (map ability_of ss) j ≡ Some Able
open_able [] j f = absurd (f refl)
open_able (Disabled ∷ ss) zero f = absurd (f refl)
open_able (Skip ∷ ss) zero f = refl
open_able (Yield ∷ ss) zero f = absurd (f refl)
open_able (Pending ∷ ss) zero f = refl
open_able (Active ∷ ss) zero f = refl
open_able (Visited ∷ ss) zero f = refl
open_able (s ∷ ss) (suc j) f = open_able ss j f

option_open : (i : ℕ) (ss : List Status) (o : Choice) → Among o (able_threads i (map ability_of ss)) → (j : ℕ) × (o ≡ Thread (Some (i + j))) × (state_at ss j ≡ Closed → ⊥)
option_open i [] o h = absurd h
option_open i (s ∷ ss) o h = go s h (option_open (suc i) ss o)
  where
    later : (s : Status) → ((j : ℕ) × (o ≡ Thread (Some (suc i + j))) × (state_at ss j ≡ Closed → ⊥)) → (j : ℕ) × (o ≡ Thread (Some (i + j))) × (state_at (s ∷ ss) j ≡ Closed → ⊥)
    later s z = (let e : suc i + z.0 ≡ i + suc z.0 = omega arith in (suc z.0, z.1 ∙ ap (λ k. Thread (Some k)) e, z.2))

    here : o ≡ Thread (Some i) → o ≡ Thread (Some (i + 0))
    here e = (let f : i ≡ i + 0 = omega arith in e ∙ ap (λ k. Thread (Some k)) f)

    go : (s : Status) → Among o (able_threads i (map ability_of (s ∷ ss)))
        → (Among o (able_threads (suc i) (map ability_of ss)) → (j : ℕ) × (o ≡ Thread (Some (suc i + j))) × (state_at ss j ≡ Closed → ⊥))
        → (j : ℕ) × (o ≡ Thread (Some (i + j))) × (state_at (s ∷ ss) j ≡ Closed → ⊥)
    go Disabled h ih = later Disabled (ih h)
    go Yield h ih = later Yield (ih h)
    go Skip (inl e) ih = (0, here e, λ g. cc g)
    go Skip (inr h) ih = later Skip (ih h)
    go Pending (inl e) ih = (0, here e, λ g. cc g)
    go Pending (inr h) ih = later Pending (ih h)
    go Active (inl e) ih = (0, here e, λ g. cc g)
    go Active (inr h) ih = later Active (ih h)
    go Visited (inl e) ih = (0, here e, λ g. cc g)
    go Visited (inr h) ih = later Visited (ih h)

-- ---- counts

counted : (p : Status → Bool) (s : Status) (ss : List Status) → count_by p (s ∷ ss) ≡ cond (p s) 1 0 + count_by p ss
counted p s ss = sum_by-cons (λ y. cond (p y) 1 0) s ss

counted_yes : (p : Status → Bool) (s : Status) (ss : List Status) → p s ≡ true → count_by p (s ∷ ss) ≡ suc (count_by p ss)
counted_yes p s ss e = counted p s ss ∙ ap (λ b. cond b 1 0 + count_by p ss) e ∙ omega arith

counted_no : (p : Status → Bool) (s : Status) (ss : List Status) → p s ≡ false → count_by p (s ∷ ss) ≡ count_by p ss
counted_no p s ss e = counted p s ss ∙ ap (λ b. cond b 1 0 + count_by p ss) e ∙ omega arith

none_counted : (p : Status → Bool) (ss : List Status) → count_by p ss ≡ 0 → (j : ℕ) (s : Status) → slice_get ss j ≡ Some s → p s ≡ false
none_counted p [] e j s h = absurd (cc h)
none_counted p (x ∷ ss) e j s h = go (p x) refl j h (λ g i k. none_counted p ss g i s k)
  where
    go : (b : Bool) → p x ≡ b → (j : ℕ) → slice_get (x ∷ ss) j ≡ Some s → (count_by p ss ≡ 0 → (i : ℕ) → slice_get ss i ≡ Some s → p s ≡ false) → p s ≡ false
    go true f j h later = absurd (omega (arith, counted_yes p x ss f))
    go false f zero h later = (let is : x ≡ s = cc h in sym (ap p is) ∙ f)
    go false f (suc j) h later = later (sym (counted_no p x ss f) ∙ e) j h

count_none : (p : Status → Bool) (ss : List Status) → ((j : ℕ) (s : Status) → slice_get ss j ≡ Some s → p s ≡ false) → count_by p ss ≡ 0
count_none p [] f = refl
count_none p (x ∷ ss) f = counted_no p x ss (f 0 x refl) ∙ count_none p ss (λ j s h. f (suc j) s h)

-- the only status that passes the test
record IsOnly (p : Status → Bool) (ss : List Status) : Type 0 where
  place : ℕ
  it : Status
  there : slice_get ss place ≡ Some it
  passes : p it ≡ true
  only : (j : ℕ) (s : Status) → slice_get ss j ≡ Some s → p s ≡ true → j ≡ place

one_counted : (p : Status → Bool) (ss : List Status) → count_by p ss ≡ 1 → IsOnly p ss
one_counted p [] e = absurd (cc e)
one_counted p (x ∷ ss) e = go (p x) refl (one_counted p ss)
  where
    first : p x ≡ true → (j : ℕ) (s : Status) → slice_get (x ∷ ss) j ≡ Some s → p s ≡ true → j ≡ 0
    first f zero s h g = refl
    first f (suc j) s h g = absurd (false≢true (sym (none_counted p ss (omega (arith, counted_yes p x ss f)) j s h) ∙ g))

    next : p x ≡ false → (z : IsOnly p ss) → (j : ℕ) (s : Status) → slice_get (x ∷ ss) j ≡ Some s → p s ≡ true → j ≡ suc z.place
    next f z zero s h g = (let is : x ≡ s = cc h in absurd (false≢true (sym f ∙ ap p is ∙ g)))
    next f z (suc j) s h g = ap suc (z.only j s h g)

    go : (b : Bool) → p x ≡ b → (count_by p ss ≡ 1 → IsOnly p ss) → IsOnly p (x ∷ ss)
    go true f later = record { place = 0; it = x; there = refl; passes = f; only = first f }
    go false f later =
        let z = later (sym (counted_no p x ss f) ∙ e) in
        record { place = suc z.place; it = z.it; there = z.there; passes = z.passes; only = next f z }

count_one : (p : Status → Bool) (ss : List Status) (k : ℕ) (s : Status) → slice_get ss k ≡ Some s → p s ≡ true
    → ((j : ℕ) (x : Status) → slice_get ss j ≡ Some x → p x ≡ true → j ≡ k) → count_by p ss ≡ 1
count_one p [] k s h e f = absurd (cc h)
count_one p (x ∷ ss) zero s h e f =
    let is : x ≡ s = cc h in
    counted_yes p x ss (ap p is ∙ e) ∙ ap suc (count_none p ss (λ j y g. go j y g (p y) refl))
  where
    go : (j : ℕ) (y : Status) → slice_get ss j ≡ Some y → (b : Bool) → p y ≡ b → p y ≡ false
    go j y g true i = absurd (omega (arith, f (suc j) y g i))
    go j y g false i = i
count_one p (x ∷ ss) (suc k) s h e f = counted_no p x ss (go (p x) refl) ∙ count_one p ss k s h e (λ j y g i. omega (arith, f (suc j) y g i))
  where
    go : (b : Bool) → p x ≡ b → p x ≡ false
    go true i = absurd (omega (arith, f 0 x refl i))
    go false i = i

-- ---- schedules

module _ (first : ℕ) (exploring : Bool) (ss : List Status) where
  module _ (five : length ss ≡ 5) (one : IsOnly is_active ss) (tried : is_at is_tried first ss ≡ true)
      (fixed : exploring ≡ false → (is_at is_active first ss ≡ true) × (count_by is_marked ss ≡ 0)) where
    chosen_there : slice_get ss one.place ≡ Some Active
    chosen_there = one.there ∙ ap Some (active_is one.it one.passes)

    is_present : active_thread ss ≡ Some one.place
    is_present =
        let zero_more : 0 + one.place ≡ one.place = omega arith in
        first_is is_active 0 ss one.place (record { it = one.it; here = one.there; passes = one.passes; first = λ j s l h. before j s l h (is_active s) refl }) ∙ ap Some zero_more
      where
        before : (j : ℕ) (s : Status) → j < one.place → slice_get ss j ≡ Some s → (b : Bool) → is_active s ≡ b → is_active s ≡ false
        before j s l h true e = absurd (omega (arith, one.only j s h e))
        before j s l h false e = e

    chosen_one : (o : Choice) → thread_state (Some first) ss o ≡ Chosen → o ≡ Thread (active_thread ss)
    chosen_one (Thread (Some j)) h =
        let z = has_state ss j Chosen h (λ g. cc g) in
        ap (λ (k : ℕ). Thread (Some k)) (one.only j z.0 z.1 (state_active z.0 z.2)) ∙ ap Thread (sym is_present)
    chosen_one (Thread None) h = absurd (cc h)
    chosen_one (Load j) h = absurd (cc h)
    chosen_one (Spurious b) h = absurd (cc h)

    default_tried : (state_at ss first ≡ Chosen) ⊎ (state_at ss first ≡ Tried)
    default_tried =
        let z = at_there is_tried first ss tried in
        elim (tried_state z.0 z.2) [ inl e ↦ inl (state_there ss first z.0 z.1 ∙ e) | inr e ↦ inr (state_there ss first z.0 z.1 ∙ e) ]

    opened : (o : Choice) → Among o (able_threads 0 (map ability_of ss)) → thread_state (Some first) ss o ≡ Closed → ⊥
    opened o h e =
        let z = option_open 0 ss o h in
        let place : z.0 ≡ 0 + z.0 = omega arith in
        z.2 (ap (state_at ss) place ∙ sym (ap (thread_state (Some first) ss) z.1) ∙ e)

    closed : (o : Choice) → (thread_state (Some first) ss o ≡ Closed → ⊥) → Among o (able_threads 0 (map ability_of ss))
    closed (Thread (Some j)) f = able_among (map ability_of ss) j 0 j (omega arith) (open_able ss j f)
    closed (Thread None) f = absurd (f refl)
    closed (Load j) f = absurd (f refl)
    closed (Spurious b) f = absurd (f refl)

    unmarked_there : exploring ≡ false → (j : ℕ) → (state_at ss j ≡ ToTry) ⊎ (state_at ss j ≡ Tried) → ⊥
    unmarked_there e j (inl h) =
        let z = has_state ss j ToTry h (λ g. cc g) in
        false≢true (sym (none_counted is_marked ss (fixed e).1 j z.0 z.1) ∙ marked_state z.0 (inl z.2))
    unmarked_there e j (inr h) =
        let z = has_state ss j Tried h (λ g. cc g) in
        false≢true (sym (none_counted is_marked ss (fixed e).1 j z.0 z.1) ∙ marked_state z.0 (inr z.2))

    no_mark : exploring ≡ false → (o : Choice) → (thread_state (Some first) ss o ≡ ToTry) ⊎ (thread_state (Some first) ss o ≡ Tried) → ⊥
    no_mark e (Thread (Some j)) h = unmarked_there e j h
    no_mark e (Thread None) h = elim h [ inl g ↦ cc g | inr g ↦ cc g ]
    no_mark e (Load j) h = elim h [ inl g ↦ cc g | inr g ↦ cc g ]
    no_mark e (Spurious b) h = elim h [ inl g ↦ cc g | inr g ↦ cc g ]

    default_chosen : exploring ≡ false → Thread (active_thread ss) ≡ Thread (Some first)
    default_chosen e =
        let z = at_there is_active first ss (fixed e).0 in
        ap Thread (is_present ∙ ap (λ (k : ℕ). Some k) (sym (one.only first z.0 z.1 z.2)))

    schedule_rests : IsAtRest (seen_threads (Some first) exploring ss)
    schedule_rests = record {
      active = ap (thread_state (Some first) ss) (ap Thread is_present) ∙ state_there ss one.place Active chosen_there;
      one = chosen_one;
      default = default_tried;
      opened = opened;
      closed = closed;
      values = λ t. absurd (cc t);
      fixed = λ e. (default_chosen e, (λ o h. no_mark e o (inr h)), λ _ o h. no_mark e o (inl h));
    }

  pub formed_rests : is_well_formed_schedule first exploring ss ≡ true → IsAtRest (seen_threads (Some first) exploring ss)
  formed_rests w =
      let a = both _ _ w in
      let b = both _ _ a.0 in
      let c = both _ _ b.0 in
      schedule_rests (eqb-true (length ss) 5 c.0) (one_counted is_active ss (eqb-true (count_by is_active ss) 1 c.1)) b.1
      (λ e. let f = both _ _ (or_holds exploring _ a.1 e) in (f.0, eqb-true (count_by is_marked ss) 0 f.1))

  module _ (rest : IsAtRest (seen_threads (Some first) exploring ss)) where
    -- the one thread that is the choice
    pub present_is : (k : ℕ) × (s : Status) × (slice_get ss k ≡ Some s) × (is_active s ≡ true) × (active_thread ss ≡ Some k)
    present_is = go (active_thread ss) refl
      where
        go : (o : Option ℕ) → active_thread ss ≡ o → (k : ℕ) × (s : Status) × (slice_get ss k ≡ Some s) × (is_active s ≡ true) × (active_thread ss ≡ Some k)
        go None e = (let z : Closed ≡ Chosen = sym (ap (λ (o : Option ℕ). thread_state (Some first) ss (Thread o)) e) ∙ rest.active in absurd (cc z))
        go (Some k) e =
            let z = has_state ss k Chosen (sym (ap (λ (o : Option ℕ). thread_state (Some first) ss (Thread o)) e) ∙ rest.active) (λ g. cc g) in
            (k, z.0, z.1, state_active z.0 z.2, e)

    counts_one : count_by is_active ss ≡ 1
    counts_one = count_one is_active ss present_is.0 present_is.1 present_is.2 present_is.3 only
      where
        only : (j : ℕ) (x : Status) → slice_get ss j ≡ Some x → is_active x ≡ true → j ≡ present_is.0
        only j x h e =
            let z : Thread (Some j) ≡ Thread (active_thread ss) = rest.one (Thread (Some j)) (state_there ss j x h ∙ active_state x e) in
            let w : Thread (Some j) ≡ Thread (Some present_is.0) = z ∙ ap Thread present_is.4 in
            cc w

    default_at : is_at is_tried first ss ≡ true
    default_at = elim rest.default [ inl e ↦ go Chosen e (inl refl) (λ g. cc g) | inr e ↦ go Tried e (inr refl) (λ g. cc g) ]
      where
        go : (a : State) → state_at ss first ≡ a → (a ≡ Chosen) ⊎ (a ≡ Tried) → (a ≡ Closed → ⊥) → is_at is_tried first ss ≡ true
        go a e h f =
            let z = has_state ss first a e f in
            there_at is_tried first ss z.0 z.1 (state_tried z.0 (elim h [ inl g ↦ inl (z.2 ∙ g) | inr g ↦ inr (z.2 ∙ g) ]))

    default_active : exploring ≡ false → is_at is_active first ss ≡ true
    default_active e =
        let z : Thread (Some first) ≡ Thread (Some present_is.0) = sym (rest.fixed e).0 ∙ ap Thread present_is.4 in
        let place : first ≡ present_is.0 = cc z in
        there_at is_active first ss present_is.1 (ap (slice_get ss) place ∙ present_is.2) present_is.3

    counts_none : exploring ≡ false → count_by is_marked ss ≡ 0
    counts_none e = count_none is_marked ss (λ j s h.
        unmarked s (λ g. (rest.fixed e).2 refl (Thread (Some j)) (state_there ss j s h ∙ g)) (λ g. (rest.fixed e).1 (Thread (Some j)) (state_there ss j s h ∙ g)))

    pub rests_formed : length ss ≡ 5 → is_well_formed_schedule first exploring ss ≡ true
    rests_formed five =
        and_true _ _ (and_true _ _ (and_true _ _ (eq-eqb (length ss) 5 five) (eq-eqb (count_by is_active ss) 1 counts_one)) default_at)
        (or_true exploring _ (λ e. and_true _ _ (default_active e) (eq-eqb (count_by is_marked ss) 0 (counts_none e))))

-- what a node has where the run explores it has anyway
explored : (first : Option ℕ) (exploring : Bool) (ss : List Status) → IsAtRest (seen_threads first exploring ss) → IsAtRest (seen_threads first true ss)
explored first exploring ss w = record { active = w.active; one = w.one; default = w.default; opened = w.opened; closed = w.closed; values = w.values; fixed = λ e. absurd (cc e) }

-- ---- options that are tried in turn

data ValueState (y : Choice) (os : List Choice) (x o : Choice) (s : State) : Type 0 where
  is_it : y ≡ x → o ≡ x → s ≡ Chosen → ValueState y os x o s
  is_later : y ≡ x → (o ≡ x → ⊥) → Among o os → s ≡ ToTry → ValueState y os x o s
  is_none : y ≡ x → (o ≡ x → ⊥) → (Among o os → ⊥) → s ≡ Closed → ValueState y os x o s
  is_before : (y ≡ x → ⊥) → o ≡ y → s ≡ Tried → ValueState y os x o s
  is_after : (y ≡ x → ⊥) → (o ≡ y → ⊥) → s ≡ value_status os x o → ValueState y os x o s

value_cases : (y : Choice) (os : List Choice) (x o : Choice) → ValueState y os x o (value_status (y ∷ os) x o)
value_cases y os x o = go (same y x) (same o x) (among o os) (same o y)
  where
    go : (a : Dec (y ≡ x)) (b : Dec (o ≡ x)) (c : Dec (Among o os)) (d : Dec (o ≡ y)) → ValueState y os x o (pick a (pick b Chosen (pick c ToTry Closed)) (pick d Tried (value_status os x o)))
    go (yes e) (yes f) c d = is_it e f refl
    go (yes e) (no f) (yes g) d = is_later e f g refl
    go (yes e) (no f) (no g) d = is_none e f g refl
    go (no e) b c (yes f) = is_before e f refl
    go (no e) b c (no f) = is_after e f refl

value_active : (os : List Choice) (x : Choice) → Among x os → value_status os x x ≡ Chosen
value_active [] x a = absurd a
value_active (y ∷ os) x a =
    elim (value_cases y os x x) [
      | is_it e f g ↦ g
      | is_later e f b g ↦ absurd (f refl)
      | is_none e f b g ↦ absurd (f refl)
      | is_before f e g ↦ absurd (f (sym e))
      | is_after f h g ↦ g ∙ elim a [ inl e ↦ absurd (h e) | inr b ↦ value_active os x b ]
    ]

value_one : (os : List Choice) (x o : Choice) → value_status os x o ≡ Chosen → o ≡ x
value_one [] x o h = absurd (cc h)
value_one (y ∷ os) x o h =
    elim (value_cases y os x o) [
      | is_it e f g ↦ f
      | is_later e f b g ↦ absurd (cc (g, h))
      | is_none e f b g ↦ absurd (cc (g, h))
      | is_before f e g ↦ absurd (cc (g, h))
      | is_after f e g ↦ value_one os x o (sym g ∙ h)
    ]

value_opened : (os : List Choice) (x o : Choice) → Among x os → Among o os → value_status os x o ≡ Closed → ⊥
value_opened [] x o a b h = b
value_opened (y ∷ os) x o a b h =
    elim (value_cases y os x o) [
      | is_it e f g ↦ cc (g, h)
      | is_later e f c g ↦ cc (g, h)
      | is_none e f c g ↦ elim b [ inl i ↦ f (i ∙ e) | inr i ↦ c i ]
      | is_before f e g ↦ cc (g, h)
      | is_after f e g ↦ elim a [ inl i ↦ f (sym i) | inr i ↦ elim b [ inl j ↦ e j | inr j ↦ value_opened os x o i j (sym g ∙ h) ] ]
    ]

value_closed : (os : List Choice) (x o : Choice) → Among x os → (value_status os x o ≡ Closed → ⊥) → Among o os
value_closed [] x o a f = absurd (f refl)
value_closed (y ∷ os) x o a f =
    elim (value_cases y os x o) [
      | is_it e g h ↦ inl (g ∙ sym e)
      | is_later e g b h ↦ inr b
      | is_none e g b h ↦ absurd (f h)
      | is_before g e h ↦ inl e
      | is_after g e h ↦ elim a [ inl i ↦ absurd (g (sym i)) | inr i ↦ inr (value_closed os x o i (λ k. f (h ∙ k))) ]
    ]

value_skip : (os : List Choice) (x o : Choice) → value_status os x o ≡ Skipped → ⊥
value_skip [] x o h = cc h
value_skip (y ∷ os) x o h =
    elim (value_cases y os x o) [
      | is_it e f g ↦ cc (g, h)
      | is_later e f b g ↦ cc (g, h)
      | is_none e f b g ↦ cc (g, h)
      | is_before f e g ↦ cc (g, h)
      | is_after f e g ↦ value_skip os x o (sym g ∙ h)
    ]

value_first : (y : Choice) (os : List Choice) (o : Choice) → value_status (y ∷ os) y o ≡ Tried → ⊥
value_first y os o h =
    elim (value_cases y os y o) [
      | is_it e f g ↦ cc (g, h)
      | is_later e f b g ↦ cc (g, h)
      | is_none e f b g ↦ cc (g, h)
      | is_before f e g ↦ f refl
      | is_after f e g ↦ f refl
    ]

value_default : (y : Choice) (os : List Choice) (x : Choice) → (value_status (y ∷ os) x y ≡ Chosen) ⊎ (value_status (y ∷ os) x y ≡ Tried)
value_default y os x =
    elim (value_cases y os x y) [
      | is_it e f g ↦ inl g
      | is_later e f b g ↦ absurd (f e)
      | is_none e f b g ↦ absurd (f e)
      | is_before f e g ↦ inr g
      | is_after f e g ↦ absurd (e refl)
    ]

abbrev value_made : Bool → Choice → List Choice → Made
value_made exploring y os = record { exploring = exploring; default = y; options = y ∷ os; offers = [] }

value_rests : (exploring : Bool) (y : Choice) (os : List Choice) (x : Choice) → is_thread y ≡ false → Among x (y ∷ os) → (exploring ≡ false → x ≡ y)
    → IsAtRest (record { made = value_made exploring y os; present = x; status = value_status (y ∷ os) x })
value_rests exploring y os x t a f = record {
  active = value_active (y ∷ os) x a;
  one = λ o h. value_one (y ∷ os) x o h;
  default = value_default y os x;
  opened = λ o b h. value_opened (y ∷ os) x o a b h;
  closed = λ o h. value_closed (y ∷ os) x o a h;
  values = λ _ o h. value_skip (y ∷ os) x o h;
  fixed = λ e. (f e, (λ o h. value_first y os o (ap (λ (c : Choice). value_status (y ∷ os) c o) (sym (f e)) ∙ h)), λ u. absurd (cc (u, t)));
}

-- ---- loads

slot_among : (xs : List ℕ) (p : ℕ) → p < length xs → Among (Load (slice_index xs p)) (map (λ slot. Load slot) xs)
slot_among [] p h = absurd (omega arith)
slot_among (x ∷ xs) zero h = inl refl
slot_among (x ∷ xs) (suc p) h = inr (slot_among xs p (omega arith))

slots_above : (readable : List Bool) (k p : ℕ) → p < length (slots_from k readable) → k ≤ slice_index (slots_from k readable) p
slots_above [] k p h = absurd (omega arith)
slots_above (true ∷ readable) k zero h = omega arith
slots_above (true ∷ readable) k (suc p) h = omega (arith, slots_above readable (suc k) p (omega arith))
slots_above (false ∷ readable) k p h = omega (arith, slots_above readable (suc k) p h)

lowest_first : (readable : List Bool) (k p : ℕ) → p < length (slots_from k readable) → slice_index (slots_from k readable) p ≡ slice_index (slots_from k readable) 0 → p ≡ 0
lowest_first [] k p h e = absurd (omega arith)
lowest_first (true ∷ readable) k zero h e = refl
lowest_first (true ∷ readable) k (suc p) h e = (let least = slots_above readable (suc k) p (omega arith) in absurd (omega (arith, least, e)))
lowest_first (false ∷ readable) k p h e = lowest_first readable (suc k) p h e

load_rests : (exploring : Bool) (xs : List ℕ) (p : ℕ) → p < length xs → (exploring ≡ false → p ≡ 0) → IsAtRest (in_turn (asked_store exploring xs) (Load (slice_index xs p)))
load_rests exploring [] p h f = absurd (omega arith)
load_rests exploring (x ∷ xs) p h f =
    value_rests exploring (Load x) (map (λ slot. Load slot) xs) (Load (slice_index (x ∷ xs) p)) refl (slot_among (x ∷ xs) p h)
    (λ e. ap (λ (i : ℕ). Load (slice_index (x ∷ xs) i)) (f e))

load_default : (exploring : Bool) (xs : List ℕ) → (made_of (asked_store exploring xs)).default ≢ Thread None
load_default exploring [] e = cc e
load_default exploring (x ∷ xs) e = cc e

load_fixed : (exploring : Bool) (xs : List ℕ) (p : ℕ) → 0 < length xs → IsAtRest (in_turn (asked_store exploring xs) (Load (slice_index xs p))) → exploring ≡ false
    → slice_index xs p ≡ slice_index xs 0
load_fixed exploring [] p h rest e = absurd (omega arith)
load_fixed exploring (x ∷ xs) p h rest e = (let same' : Load (slice_index (x ∷ xs) p) ≡ Load x = (rest.fixed e).0 in cc same')

-- ---- nodes

spurious_among : (b : Bool) → Among (Spurious b) (Spurious false ∷ Spurious true ∷ [])
spurious_among false = inl refl
spurious_among true = inr (inl refl)

spurious_still : (exploring answer : Bool) → is_well_formed_spurious exploring answer ≡ true → exploring ≡ false → Spurious answer ≡ Spurious false
spurious_still exploring false w e = refl
spurious_still exploring true w e = absurd (false≢true (or_holds exploring false w e))

spurious_formed : (exploring answer : Bool) → (exploring ≡ false → Spurious answer ≡ Spurious false) → is_well_formed_spurious exploring answer ≡ true
spurious_formed true answer f = refl
spurious_formed false false f = refl
spurious_formed false true f = (let e = f refl in absurd (cc e))

schedule_resting : (first : Option ℕ) (exploring : Bool) (ss : List Status) → is_well_formed_from first exploring ss ≡ true
    → (IsAtRest (seen_threads first true ss) × (length ss ≡ 5)) × IsAtRest (seen_threads first exploring ss) × (Thread first ≢ Thread None)
schedule_resting None exploring ss w = absurd (false≢true w)
schedule_resting (Some f) exploring ss w =
    let rest = formed_rests f exploring ss w in
    ((explored (Some f) exploring ss rest, eqb-true (length ss) 5 (both _ _ (both _ _ (both _ _ w).0).0).0), rest, λ e. cc e)

schedule_formed : (first : Option ℕ) (exploring : Bool) (ss : List Status) → length ss ≡ 5 → IsAtRest (seen_threads first exploring ss) → Thread first ≢ Thread None
    → is_well_formed_from first exploring ss ≡ true
schedule_formed None exploring ss five rest f = absurd (f refl)
schedule_formed (Some f) exploring ss five rest g = rests_formed f exploring ss rest five

-- What a well-formed node is to a walk: at rest, with a default.
abbrev pub IsSettled : Node → Type 0
IsSettled n = IsWell n × IsAtRest (seen n) × ((seen n).made.default ≢ Thread None)

pub formed_resting : (n : Node) → IsWellFormed n → IsSettled n
formed_resting (node.Schedule n) w = schedule_resting n.first n.exploring n.statuses w
formed_resting (node.Load n) w =
    let a = both _ _ w in
    let b = both _ _ a.0 in
    let within = ltb-true _ _ b.1 in (
      (within, eqb-true (length n.readable) 7 b.0),
      load_rests n.exploring (slots n.readable) n.position within (λ e. eqb-true n.position 0 (or_holds n.exploring _ a.1 e)),
      load_default n.exploring (slots n.readable),
    )
formed_resting (node.Spurious n) w = (
  tt,
  value_rests n.exploring (Spurious false) (Spurious true ∷ []) (Spurious n.answer) refl (spurious_among n.answer) (spurious_still n.exploring n.answer w),
  λ e. cc e,
)

pub resting_formed : (n : Node) → IsSettled n → IsWellFormed n
resting_formed (node.Schedule n) r = schedule_formed n.first n.exploring n.statuses r.0.1 r.1 r.2
resting_formed (node.Load n) r =
    and_true _ _ (and_true _ _ (eq-eqb (length n.readable) 7 r.0.1) (below_test n.position (length (slots n.readable)) r.0.0))
    (or_true n.exploring _ (λ e.
    eq-eqb n.position 0 (lowest_first n.readable 0 n.position r.0.0 (load_fixed n.exploring (slots n.readable) n.position (omega (arith, r.0.0)) r.1 e))))
resting_formed (node.Spurious n) r = spurious_formed n.exploring n.answer (λ e. (r.1.fixed e).0)

-- ---- paths

pub formed_well : (nodes : List Node) → AreWellFormed nodes → AreWell nodes
formed_well [] w = tt
formed_well (n ∷ nodes) w = ((formed_resting n w.0).0, formed_well nodes w.1)

pub formed_at_rest : (nodes : List Node) → AreWell nodes → AreWellFormed nodes ↔ AreAtRest (stored nodes)
formed_at_rest [] w = (λ f. tt, λ r. tt)
formed_at_rest (n ∷ nodes) w =
    let later = formed_at_rest nodes w.1 in (
      λ f. let z = formed_resting n f.0 in (z.1, z.2, later.0 f.1),
      λ r. (resting_formed n (w.0, r.0, r.1), later.1 r.2),
    )

pub formed_there : (nodes : List Node) (i : ℕ) (other : Node) → i < length nodes → AreWellFormed nodes → IsWell (slice_index_or nodes i other)
formed_there [] i other h w = absurd (omega arith)
formed_there (n ∷ nodes) zero other h w = (formed_resting n w.0).0
formed_there (n ∷ nodes) (suc i) other h w = formed_there nodes i other (omega arith) w.1
