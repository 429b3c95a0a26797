-- New schedules, as a walk sees them.
use Rattle.std.proofs.Common.{◌≡◌, ◌≢◌, ℕ, zero, suc, ◌+◌, ◌<◌, Bool, true, false, not, ◌&&◌, List, [], ◌∷◌, length, map, Option, Some, None, refl, ap, sym, ◌∙◌, subst, inl, inr, arith}
use Rattle.std.specs.Prelude.{slice_get, slice_set, cond}
use Rattle.std.specs.List.{position_from}
use mathlib.Core.Path.{fun_ext}
use Rattle.loom_objects.specs.declared.choice.Choice.{Choice}
use Rattle.loom_objects.specs.declared.choice.Choice.TheVariants.{Thread, Load, Spurious}
use Rattle.loom_objects.specs.declared.rt.schedule.Ability.{Ability}
use Rattle.loom_objects.specs.declared.rt.schedule.Ability.TheVariants.{Able, Yielding, Unable}
use Rattle.loom_objects.specs.Tree.Question.{Made, Among, Question, WhichThread, able_threads, thread_options, made_of}
use Rattle.loom_objects.specs.Tree.Sound.{IsSoundDefault, AreSoundOffers}
use Rattle.loom_objects.specs.declared.rt.schedule.Offers.{Offers}
use Rattle.loom_engine.specs.Walk.Machine.{is_thread}
use Rattle.loom_engine.specs.Walk.Choices.{same, among, pick}
use Rattle.loom_engine.specs.Walk.Path.{Status as State, Closed, Skip as Skipped, Pending as ToTry, Active as Chosen, Stored, IsAtRest, fresh, choose}
use Rattle.loom_engine.specs.Trees.Drive.{value_status, made_at, new_node}
use Rattle.loom_engine.specs.declared.rt.path.node.Status.{Status}
use Rattle.loom_engine.specs.declared.rt.path.node.Status.TheVariants.{Active}
use Rattle.loom_engine.specs.Path.Nodes.{ability_of, made_status, with_status, state_of, state_at, thread_state, active_thread, is_active, seen_threads}
use Rattle.loom_objects.specs.Tree.Tree.{Tree, Gives, Asks}
use Rattle.loom_engine.specs.Trees.Sound.{IsSoundTree}
use Rattle.loom_engine.specs.Trees.Meeting.{machine_of}
use Rattle.loom_objects.specs.Tree.Asked.{which_thread}
use Rattle.loom_engine.proofs.Walk.Resting.{fresh_at_rest}
use Rattle.loom_engine.proofs.Trees.Machines.{able_among, machine_law}
use Rattle.loom_engine.proofs.Nodes.Nodes.Picks.{pick_yes, pick_no}
use Rattle.loom_engine.proofs.Nodes.Nodes.Statuses.{state_there, state_else, get_put, get_else, offers_put, first_is}

-- ---- what threads offer

default_is_able : (default : Option ℕ) (abilities : List Ability) → AreSoundOffers default abilities → IsSoundDefault default abilities
default_is_able None abilities sound = tt
default_is_able (Some k) abilities sound = sound

none_is_able : (default : Option ℕ) (abilities : List Ability) → AreSoundOffers default abilities → default ≡ None → (j : ℕ) → slice_get abilities j ≢ Some Able
none_is_able default abilities sound none = subst (λ (o : Option ℕ). AreSoundOffers o abilities) none sound

-- ---- the statuses as they are made

offers_made : (every : Bool) (a : Ability) → ability_of (made_status every a) ≡ a
offers_made true Able = refl
offers_made false Able = refl
offers_made every Yielding = refl
offers_made every Unable = refl

made_idle : (every : Bool) (a : Ability) → is_active (made_status every a) ≡ false
made_idle true Able = refl
made_idle false Able = refl
made_idle every Yielding = refl
made_idle every Unable = refl

-- the state of a thread that isn't the choice
abbrev state_made : Bool → Option Ability → State
state_made every None = Closed
state_made every (Some Able) = cond every ToTry Skipped
state_made every (Some Yielding) = Closed
state_made every (Some Unable) = Closed

state_one : (every : Bool) (a : Ability) → state_of (made_status every a) ≡ state_made every (Some a)
state_one true Able = refl
state_one false Able = refl
state_one every Yielding = refl
state_one every Unable = refl

closed_by : (every : Bool) (o : Option Ability) → o ≢ Some Able → state_made every o ≡ Closed
closed_by every None f = refl
closed_by every (Some Able) f = absurd (f refl)
closed_by every (Some Yielding) f = refl
closed_by every (Some Unable) f = refl

module _ (every : Bool) where
  offers_map : (abilities : List Ability) → map ability_of (map (made_status every) abilities) ≡ abilities
  offers_map [] = refl
  offers_map (a ∷ abilities) = ap (λ x. x ∷ map ability_of (map (made_status every) abilities)) (offers_made every a) ∙ ap (λ l. a ∷ l) (offers_map abilities)

  pub get_map : (abilities : List Ability) (k : ℕ) (a : Ability) → slice_get abilities k ≡ Some a → slice_get (map (made_status every) abilities) k ≡ Some (made_status every a)
  get_map [] k a h = absurd (cc h)
  get_map (b ∷ abilities) zero a h = (let e : b ≡ a = cc h in ap (λ x. Some (made_status every x)) e)
  get_map (b ∷ abilities) (suc k) a h = get_map abilities k a h

  -- nobody is the choice yet
  none_active : (i : ℕ) (abilities : List Ability) → position_from is_active i (map (made_status every) abilities) ≡ None
  none_active i [] = refl
  none_active i (a ∷ abilities) =
      ap (λ b. cond b (Some i) (position_from is_active (i + 1) (map (made_status every) abilities))) (made_idle every a) ∙ none_active (i + 1) abilities

  all_idle : (abilities : List Ability) (j : ℕ) (s : Status) → slice_get (map (made_status every) abilities) j ≡ Some s → is_active s ≡ false
  all_idle [] j s h = absurd (cc h)
  all_idle (a ∷ abilities) zero s h = (let e : made_status every a ≡ s = cc h in ap is_active (sym e) ∙ made_idle every a)
  all_idle (a ∷ abilities) (suc j) s h = all_idle abilities j s h

  one_active : (abilities : List Ability) (k : ℕ) (old : Status) → slice_get (map (made_status every) abilities) k ≡ Some old
      → active_thread (slice_set (map (made_status every) abilities) k Active) ≡ Some k
  one_active abilities k old h =
      first_is is_active 0 (slice_set (map (made_status every) abilities) k Active) k (record { it = Active; here = get_put (map (made_status every) abilities) k Active old h; passes = refl; first = idle })
      ∙ ap Some (omega arith)
    where
      idle : (j : ℕ) (s : Status) → j < k → slice_get (slice_set (map (made_status every) abilities) k Active) j ≡ Some s → is_active s ≡ false
      idle j s l e = all_idle abilities j s (sym (get_else (map (made_status every) abilities) k j Active (λ g. omega (arith, g))) ∙ e)

  state_map : (abilities : List Ability) (j : ℕ) → state_at (map (made_status every) abilities) j ≡ state_made every (slice_get abilities j)
  state_map [] j = refl
  state_map (a ∷ abilities) zero = state_one every a
  state_map (a ∷ abilities) (suc j) = state_map abilities j

-- ---- options

-- an option among the threads is an able one
record AbleAt (i : ℕ) (abilities : List Ability) (o : Choice) : Type 0 where
  place : ℕ
  is : o ≡ Thread (Some (i + place))
  able : slice_get abilities place ≡ Some Able

able_on : (i : ℕ) (a : Ability) (abilities : List Ability) (o : Choice) → AbleAt (suc i) abilities o → AbleAt i (a ∷ abilities) o
able_on i a abilities o z =
    let e : suc i + z.place ≡ i + suc z.place = omega arith in
    record { place = suc z.place; is = z.is ∙ ap (λ n. Thread (Some n)) e; able = z.able }

among_able : (i : ℕ) (abilities : List Ability) (o : Choice) → Among o (able_threads i abilities) → AbleAt i abilities o
among_able i [] o h = absurd h
among_able i (Able ∷ abilities) o (inl e) = (let f : i ≡ i + 0 = omega arith in record { place = 0; is = e ∙ ap (λ n. Thread (Some n)) f; able = refl })
among_able i (Able ∷ abilities) o (inr h) = able_on i Able abilities o (among_able (suc i) abilities o h)
among_able i (Yielding ∷ abilities) o h = able_on i Yielding abilities o (among_able (suc i) abilities o h)
among_able i (Unable ∷ abilities) o h = able_on i Unable abilities o (among_able (suc i) abilities o h)

-- ---- the new node

abbrev stored : Bool → Option ℕ → List Ability → Option ℕ → (Choice → State) → Stored
stored exploring first offers present status = record {
  made = made_of (WhichThread exploring (record { default = first; abilities = offers; unordered = [] }));
  present = Thread present;
  status = status;
}

module _ (every : Bool) where
  -- a choice that is no thread is closed
  no_thread : (k : ℕ) (abilities : List Ability) (o : Choice) → ((j : ℕ) → o ≡ Thread (Some j) → ⊥) → Closed ≡ pick (same o (Thread (Some k))) Chosen (pick (among o (able_threads 0 abilities)) (cond every ToTry Skipped) Closed)
  no_thread k abilities o f = go (same o (Thread (Some k))) (among o (able_threads 0 abilities))
    where
      go : (d : Dec (o ≡ Thread (Some k))) (a : Dec (Among o (able_threads 0 abilities))) → Closed ≡ pick d Chosen (pick a (cond every ToTry Skipped) Closed)
      go (yes e) a = absurd (f k e)
      go (no g) (yes a) = (let z = among_able 0 abilities o a in absurd (f (0 + z.place) z.is))
      go (no g) (no h) = refl

  some_state : (abilities : List Ability) (k : ℕ) (o : Choice) → slice_get abilities k ≡ Some Able
      → thread_state (Some k) (slice_set (map (made_status every) abilities) k Active) o ≡ pick (same o (Thread (Some k))) Chosen (pick (among o (able_threads 0 abilities)) (cond every ToTry Skipped) Closed)
  some_state abilities k (Thread (Some j)) h = go (same (Thread (Some j)) (Thread (Some k))) (among (Thread (Some j)) (able_threads 0 abilities))
    where
      other : (Thread (Some j) ≡ Thread (Some k) → ⊥) → state_at (slice_set (map (made_status every) abilities) k Active) j ≡ state_made every (slice_get abilities j)
      other f = state_else (map (made_status every) abilities) k j Active (λ e. f (ap (λ n. Thread (Some n)) (sym e))) ∙ state_map every abilities j

      go : (d : Dec (Thread (Some j) ≡ Thread (Some k))) (a : Dec (Among (Thread (Some j)) (able_threads 0 abilities)))
          → state_at (slice_set (map (made_status every) abilities) k Active) j ≡ pick d Chosen (pick a (cond every ToTry Skipped) Closed)
      go (yes e) a =
          let f : j ≡ k = cc e in
          ap (state_at (slice_set (map (made_status every) abilities) k Active)) f
          ∙ state_there (slice_set (map (made_status every) abilities) k Active) k Active (get_put (map (made_status every) abilities) k Active (made_status every Able) (get_map every abilities k Able h))
      go (no f) (yes a) =
          let z = among_able 0 abilities (Thread (Some j)) a in
          let e : j ≡ 0 + z.place = cc z.is in
          let at : z.place ≡ j = omega arith in
          other f ∙ ap (state_made every) (ap (slice_get abilities) (sym at) ∙ z.able)
      go (no f) (no g) = other f ∙ closed_by every (slice_get abilities j) (λ e. g (able_among abilities j 0 j (omega arith) e))
  some_state abilities k (Thread None) h = no_thread k abilities (Thread None) (λ j e. cc e)
  some_state abilities k (Load s) h = no_thread k abilities (Load s) (λ j e. cc e)
  some_state abilities k (Spurious b) h = no_thread k abilities (Spurious b) (λ j e. cc e)

  none_state : (abilities : List Ability) (o : Choice) → ((j : ℕ) → slice_get abilities j ≢ Some Able)
      → thread_state None (map (made_status every) abilities) o ≡ pick (same o (Thread None)) Chosen (pick (among o (Thread None ∷ [])) (cond every ToTry Skipped) Closed)
  none_state abilities o h = go o (same o (Thread None)) (among o (Thread None ∷ []))
    where
      not_other : (o : Choice) → (o ≡ Thread None → ⊥) → thread_state None (map (made_status every) abilities) o ≡ Closed
      not_other (Thread (Some j)) f = state_map every abilities j ∙ closed_by every (slice_get abilities j) (h j)
      not_other (Thread None) f = absurd (f refl)
      not_other (Load s) f = refl
      not_other (Spurious b) f = refl

      go : (o : Choice) (d : Dec (o ≡ Thread None)) (a : Dec (Among o (Thread None ∷ []))) → thread_state None (map (made_status every) abilities) o ≡ pick d Chosen (pick a (cond every ToTry Skipped) Closed)
      go o (yes e) a = ap (thread_state None (map (made_status every) abilities)) e
      go o (no f) (yes a) = elim a [ inl e ↦ absurd (f e) | inr e ↦ absurd e ]
      go o (no f) (no g) = not_other o f

  made_with : (exploring : Bool) (first : Option ℕ) (abilities : List Ability) → IsSoundDefault first abilities → (first ≡ None → (j : ℕ) → slice_get abilities j ≢ Some Able)
      → seen_threads first exploring (with_status first Active (map (made_status every) abilities)) ≡ fresh every (made_of (WhichThread exploring (record { default = first; abilities = abilities; unordered = [] })))
  made_with exploring None abilities h g =
      ap (λ l. stored exploring None l (active_thread (map (made_status every) abilities)) (thread_state None (map (made_status every) abilities))) (offers_map every abilities)
      ∙ ap (λ (o : Option ℕ). stored exploring None abilities o (thread_state None (map (made_status every) abilities))) (none_active every 0 abilities)
      ∙ ap (stored exploring None abilities None) (fun_ext (λ o. none_state abilities o (g refl)))
  made_with exploring (Some k) abilities h g =
      let statuses = slice_set (map (made_status every) abilities) k Active in
      let there : slice_get (map (made_status every) abilities) k ≡ Some (made_status every Able) = get_map every abilities k Able h in
      ap (λ l. stored exploring (Some k) l (active_thread statuses) (thread_state (Some k) statuses)) (offers_put (map (made_status every) abilities) k Active (made_status every Able) there (sym (offers_made every Able)) ∙ offers_map every abilities)
      ∙ ap (λ (o : Option ℕ). stored exploring (Some k) abilities o (thread_state (Some k) statuses)) (one_active every abilities k (made_status every Able) there)
      ∙ ap (stored exploring (Some k) abilities (Some k)) (fun_ext (λ o. some_state abilities k o h))

  -- a schedule with the default active and each other thread that is able pending is what a walk calls fresh
  pub made_is : (exploring : Bool) (offers : Offers) (places : List (Option ℕ)) → AreSoundOffers offers.default offers.abilities
      → seen_threads offers.default exploring (with_status offers.default Active (map (made_status every) offers.abilities)) ≡ fresh every (made_of (which_thread exploring offers places))
  made_is exploring offers places sound = made_with exploring offers.default offers.abilities (default_is_able offers.default offers.abilities sound) (none_is_able offers.default offers.abilities sound)

-- a run that asks one question and ends
one_question : Question → Tree (Unit {0})
one_question question = Asks question (λ choice. Gives tt)

-- and it is at rest, where the run explores
pub fresh_rests : (every : Bool) (offers : Offers) → AreSoundOffers offers.default offers.abilities → length offers.abilities ≡ 5 → IsAtRest (fresh every (made_of (which_thread true offers [])))
unfolding one_question
fresh_rests every offers is_sound size = go every
  where
    sound : IsSoundTree (one_question (which_thread true offers []))
    sound = ((default_is_able offers.default offers.abilities is_sound, omega arith), λ choice a. tt)

    rests : (reduce : Bool) → IsAtRest (fresh (not reduce && true && true) (made_of (which_thread true offers [])))
    rests reduce =
        fresh_at_rest (machine_of (record { reduce = reduce; bound = None; max_branches = 1 }) (λ passes question k o. false) (one_question (which_thread true offers [])))
        (machine_law (record { reduce = reduce; bound = None; max_branches = 1 }) (λ passes question k o. false) (one_question (which_thread true offers [])) sound (λ passes question k o e. absurd (cc e)))
        [] (made_of (which_thread true offers [])) refl

    go : (b : Bool) → IsAtRest (fresh b (made_of (which_thread true offers [])))
    go true = rests false
    go false = rests true

pub default_offered : (offers : Offers) → AreSoundOffers offers.default offers.abilities → Among (Thread offers.default) (thread_options offers.default offers.abilities)
default_offered offers sound = offered offers.default offers.abilities sound
  where
    offered : (first : Option ℕ) (abilities : List Ability) → AreSoundOffers first abilities → Among (Thread first) (thread_options first abilities)
    offered None abilities h = inl refl
    offered (Some k) abilities h = able_among abilities k 0 k (omega arith) h

-- ---- a new node at a choice that was given

module _ (every : Bool) where
  -- the default
  pub given_default : (n : Made) (x : Choice) → x ≡ n.default → Among n.default n.options → new_node every n (Some x) ≡ Some (fresh every n)
  given_default n x e a =
      pick_yes (among x n.options) (Some (made_at every n x)) None (subst (λ o. Among o n.options) (sym e) a)
      ∙ ap Some (pick_yes (same x n.default) (fresh every n) _ e)

  -- a thread that can go on
  pub given_other : (n : Made) (x : Choice) → is_thread n.default ≡ true → (x ≡ n.default → ⊥) → Among x n.options → new_node every n (Some x) ≡ Some (choose (fresh every n) x)
  given_other n x t f a =
      pick_yes (among x n.options) (Some (made_at every n x)) None a ∙ ap Some (pick_no (same x n.default) (fresh every n) _ f)
      ∙ ap (λ b. Some (cond b (choose (fresh every n) x) (record { made = n; present = x; status = value_status n.options x }))) t

  -- no option
  pub given_none : (n : Made) (x : Choice) → (Among x n.options → ⊥) → new_node every n (Some x) ≡ None
  given_none n x h = pick_no (among x n.options) (Some (made_at every n x)) None h
