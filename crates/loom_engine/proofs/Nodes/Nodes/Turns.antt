-- Options that are tried in turn: a new node, one at a choice that was given, and its next choice.
use Rattle.std.proofs.Common.{◌≡◌, ◌≢◌, ℕ, zero, suc, Bool, true, false, List, [], ◌∷◌, Option, Some, None, refl, ap, sym, ◌∙◌, subst, inl, inr}
use Rattle.std.specs.Prelude.{slice_get, cond}
use mathlib.Core.Path.{fun_ext}
use Rattle.loom_objects.specs.declared.choice.Choice.{Choice}
use Rattle.loom_objects.specs.declared.rt.schedule.Ability.{Ability}
use Rattle.loom_objects.specs.Tree.Question.{Made, Among}
use Rattle.loom_engine.specs.Walk.Machine.{is_thread}
use Rattle.loom_engine.specs.Walk.Choices.{same, among, pick}
use Rattle.loom_engine.specs.Walk.Path.{Status as State, Closed, Skip as Skipped, Pending as ToTry, Active as Chosen, Visited as Tried, Stored, fresh, first_pending, advance, choose}
use Rattle.loom_engine.specs.Trees.Drive.{value_status, made_at, new_node}
use Rattle.loom_engine.proofs.Nodes.Nodes.Picks.{pick_yes, pick_no}

-- each option is in the list once
unfoldable pub Distinct : List Choice → Type 0
Distinct [] = Unit {0}
Distinct (x ∷ options) = (Among x options → ⊥) × Distinct options

abbrev stored : Made → Choice → (Choice → State) → Stored
stored made present status = record { made = made; present = present; status = status }

-- the node at this choice
abbrev pub turn : Made → Choice → Stored
turn n x = stored n x (value_status n.options x)

-- a node whose default is the first of these options
abbrev pub made_with : Bool → Choice → List Choice → List Ability → Made
made_with exploring x options offers = record { exploring = exploring; default = x; options = x ∷ options; offers = offers }

pub get_among : (options : List Choice) (p : ℕ) (x : Choice) → slice_get options p ≡ Some x → Among x options
get_among [] p x h = absurd (cc h)
get_among (y ∷ options) zero x h = inl (let e : y ≡ x = cc h in sym e)
get_among (y ∷ options) (suc p) x h = inr (get_among options p x h)

-- ---- a new node

first_value : (x : Choice) (options : List Choice) (o : Choice) → value_status (x ∷ options) x o ≡ pick (same o x) Chosen (pick (among o (x ∷ options)) ToTry Closed)
first_value x options o =
    pick_yes (same x x) (pick (same o x) Chosen (pick (among o options) ToTry Closed)) (pick (same o x) Tried (value_status options x o)) refl
    ∙ go (same o x) (among o options) (among o (x ∷ options))
  where
    go : (d : Dec (o ≡ x)) (a : Dec (Among o options)) (b : Dec (Among o (x ∷ options))) → pick d Chosen (pick a ToTry Closed) ≡ pick d Chosen (pick b ToTry Closed)
    go (yes e) a b = refl
    go (no f) (yes a) (yes b) = refl
    go (no f) (yes a) (no b) = absurd (b (inr a))
    go (no f) (no a) (yes b) = elim b [ inl e ↦ absurd (f e) | inr e ↦ absurd (a e) ]
    go (no f) (no a) (no b) = refl

-- a new node stands at the first of its options
pub turn_fresh : (exploring : Bool) (x : Choice) (options : List Choice) (offers : List Ability) → turn (made_with exploring x options offers) x ≡ fresh true (made_with exploring x options offers)
turn_fresh exploring x options offers = ap (stored (made_with exploring x options offers) x) (fun_ext (first_value x options))

-- at an option that was given
pub turn_given : (exploring : Bool) (x : Choice) (options : List Choice) (offers : List Ability) (o : Choice) → is_thread x ≡ false → Among o (x ∷ options)
    → Some (turn (made_with exploring x options offers) o) ≡ new_node true (made_with exploring x options offers) (Some o)
turn_given exploring x options offers o t a =
    let n : Made = made_with exploring x options offers in
    sym (pick_yes (among o (x ∷ options)) (Some (made_at true n o)) None a ∙ ap Some (go (same o x)))
  where
    go : (d : Dec (o ≡ x))
        → pick d (fresh true (made_with exploring x options offers)) (cond (is_thread x) (choose (fresh true (made_with exploring x options offers)) o) (turn (made_with exploring x options offers) o))
        ≡ turn (made_with exploring x options offers) o
    go (yes e) = sym (turn_fresh exploring x options offers) ∙ ap (turn (made_with exploring x options offers)) (sym e)
    go (no f) = ap (λ b. cond b (choose (fresh true (made_with exploring x options offers)) o) (turn (made_with exploring x options offers) o)) t

-- what is no option isn't taken
pub not_given : (n : Made) (o : Choice) → (Among o n.options → ⊥) → ◌≡◌ {A = Option Stored} None (new_node true n (Some o))
not_given n o f = sym (pick_no (among o n.options) (Some (made_at true n o)) None f)

-- the new node is the one that is asked for
pub new_is_made : (n : Made) (given : Option Choice) (s : Stored) → Some s ≡ new_node true n given → s.made ≡ n
new_is_made n None s h = (let e : s ≡ fresh true n = cc h in ap (λ (k : Stored). k.made) e)
new_is_made n (Some o) s h = go (among o n.options) (same o n.default) (is_thread n.default) h
  where
    go : (a : Dec (Among o n.options)) (d : Dec (o ≡ n.default)) (b : Bool) → Some s ≡ pick a (Some (pick d (fresh true n) (cond b (choose (fresh true n) o) (turn n o)))) None → s.made ≡ n
    go (no f) d b e = absurd (cc e)
    go (yes a) (yes d) b e = (let g : s ≡ fresh true n = cc e in ap (λ (k : Stored). k.made) g)
    go (yes a) (no d) true e = (let g : s ≡ choose (fresh true n) o = cc e in ap (λ (k : Stored). k.made) g)
    go (yes a) (no d) false e = (let g : s ≡ turn n o = cc e in ap (λ (k : Stored). k.made) g)

-- ---- the next choice

-- the states while the option at a place is the choice
state_by_place : List Choice → ℕ → Choice → State
state_by_place [] p o = Closed
state_by_place (x ∷ options) zero o = pick (same o x) Chosen (pick (among o options) ToTry Closed)
state_by_place (x ∷ options) (suc p) o = pick (same o x) Tried (state_by_place options p o)

by_place : (options : List Choice) (p : ℕ) (x : Choice) → Distinct options → slice_get options p ≡ Some x → (o : Choice) → value_status options x o ≡ state_by_place options p o
unfolding Distinct state_by_place
by_place [] p x d h o = refl
by_place (y ∷ options) zero x d h o =
    let e : y ≡ x = cc h in
    pick_yes (same y x) (pick (same o x) Chosen (pick (among o options) ToTry Closed)) (pick (same o y) Tried (value_status options x o)) e
    ∙ ap (λ (z : Choice). pick (same o z) Chosen (pick (among o options) ToTry Closed)) (sym e)
by_place (y ∷ options) (suc p) x d h o =
    pick_no (same y x) (pick (same o x) Chosen (pick (among o options) ToTry Closed)) (pick (same o y) Tried (value_status options x o))
    (λ e. d.0 (subst (λ u. Among u options) (sym e) (get_among options p x h)))
    ∙ ap (λ (s : State). pick (same o y) Tried s) (by_place options p x d.1 h o)

-- only the states of the options themselves count
first_pending_same : (s t : Choice → State) (options : List Choice) → ((o : Choice) → Among o options → s o ≡ t o) → first_pending s options ≡ first_pending t options
first_pending_same s t [] h = refl
first_pending_same s t (x ∷ options) h = go (s x) (t x) (h x (inl refl)) (first_pending_same s t options (λ o a. h o (inr a)))
  where
    go : (a b : State) → a ≡ b → first_pending s options ≡ first_pending t options
        → ◌≡◌ {A = Option Choice} (elim a [ ToTry ↦ Some x | _ ↦ first_pending s options ]) (elim b [ ToTry ↦ Some x | _ ↦ first_pending t options ])
    go a b e f =
        subst (λ z. ◌≡◌ {A = Option Choice} (elim a [ ToTry ↦ Some x | _ ↦ first_pending s options ]) (elim z [ ToTry ↦ Some x | _ ↦ first_pending t options ])) e
        (ap (λ (w : Option Choice). elim a [ ToTry ↦ Some x | _ ↦ w ]) f)

first_skips : (s : Choice → State) (x : Choice) (options : List Choice) → s x ≢ ToTry → first_pending s (x ∷ options) ≡ first_pending s options
first_skips s x options h = go (s x) h
  where
    go : (a : State) → a ≢ ToTry → ◌≡◌ {A = Option Choice} (elim a [ ToTry ↦ Some x | _ ↦ first_pending s options ]) (first_pending s options)
    go ToTry f = absurd (f refl)
    go Closed f = refl
    go Skipped f = refl
    go Chosen f = refl
    go Tried f = refl

first_takes : (s : Choice → State) (x : Choice) (options : List Choice) → s x ≡ ToTry → first_pending s (x ∷ options) ≡ Some x
first_takes s x options h = rw (h, first_pending) refl

state_first : (x : Choice) (options : List Choice) → state_by_place (x ∷ options) zero x ≡ Chosen
unfolding state_by_place
state_first x options = pick_yes (same x x) Chosen (pick (among x options) ToTry Closed) refl

state_before : (x : Choice) (options : List Choice) (p : ℕ) → state_by_place (x ∷ options) (suc p) x ≡ Tried
unfolding state_by_place
state_before x options p = pick_yes (same x x) Tried (state_by_place options p x) refl

beyond : (x : Choice) (options : List Choice) (p : ℕ) → Distinct (x ∷ options) → (o : Choice) → Among o options → state_by_place (x ∷ options) (suc p) o ≡ state_by_place options p o
unfolding Distinct state_by_place
beyond x options p d o a = pick_no (same o x) Tried (state_by_place options p o) (λ e. d.0 (subst (λ u. Among u options) e a))

next_place : (options : List Choice) (p : ℕ) (y : Choice) → Distinct options → slice_get options (suc p) ≡ Some y → first_pending (state_by_place options p) options ≡ Some y
unfolding Distinct state_by_place
next_place [] p y d h = absurd (cc h)
next_place (x ∷ []) p y d h = absurd (cc h)
next_place (x ∷ z ∷ options) zero y d h =
    let e : z ≡ y = cc h in
    let other : z ≡ x → ⊥ = λ g. d.0 (inl (sym g)) in
    first_skips (state_by_place (x ∷ z ∷ options) zero) x (z ∷ options) (λ g. cc (g, state_first x (z ∷ options)))
    ∙ first_takes (state_by_place (x ∷ z ∷ options) zero) z options
    (pick_no (same z x) Chosen (pick (among z (z ∷ options)) ToTry Closed) other ∙ pick_yes (among z (z ∷ options)) ToTry Closed (inl refl))
    ∙ ap Some e
next_place (x ∷ z ∷ options) (suc p) y d h =
    first_skips (state_by_place (x ∷ z ∷ options) (suc p)) x (z ∷ options) (λ g. cc (g, state_before x (z ∷ options) p))
    ∙ first_pending_same (state_by_place (x ∷ z ∷ options) (suc p)) (state_by_place (z ∷ options) p) (z ∷ options) (beyond x (z ∷ options) p d)
    ∙ next_place (z ∷ options) p y d.1 h

no_place : (options : List Choice) (p : ℕ) → Distinct options → slice_get options (suc p) ≡ None → first_pending (state_by_place options p) options ≡ None
unfolding Distinct state_by_place
no_place [] p d h = refl
no_place (x ∷ []) zero d h = first_skips (state_by_place (x ∷ []) zero) x [] (λ g. cc (g, state_first x []))
no_place (x ∷ []) (suc p) d h = first_skips (state_by_place (x ∷ []) (suc p)) x [] (λ g. cc (g, state_before x [] p))
no_place (x ∷ z ∷ options) zero d h = absurd (cc h)
no_place (x ∷ z ∷ options) (suc p) d h =
    first_skips (state_by_place (x ∷ z ∷ options) (suc p)) x (z ∷ options) (λ g. cc (g, state_before x (z ∷ options) p))
    ∙ first_pending_same (state_by_place (x ∷ z ∷ options) (suc p)) (state_by_place (z ∷ options) p) (z ∷ options) (beyond x (z ∷ options) p d)
    ∙ no_place (z ∷ options) p d.1 h

among_rest : (o y : Choice) (options : List Choice) → (o ≡ y → ⊥) → pick (among o (y ∷ options)) ToTry Closed ≡ pick (among o options) ToTry Closed
among_rest o y options f = go (among o (y ∷ options)) (among o options)
  where
    go : (a : Dec (Among o (y ∷ options))) (b : Dec (Among o options)) → pick a ToTry Closed ≡ pick b ToTry Closed
    go (yes a) (yes b) = refl
    go (no a) (no b) = refl
    go (yes (inl e)) (no b) = absurd (f e)
    go (yes (inr e)) (no b) = absurd (b e)
    go (no a) (yes b) = absurd (a (inr b))

moved : (options : List Choice) (p : ℕ) (x y : Choice) → Distinct options → slice_get options p ≡ Some x → slice_get options (suc p) ≡ Some y → (o : Choice)
    → pick (same o x) Tried (pick (same o y) Chosen (state_by_place options p o)) ≡ state_by_place options (suc p) o
unfolding Distinct state_by_place
moved [] p x y d h g o = absurd (cc h)
moved (a ∷ []) p x y d h g o = absurd (cc g)
moved (a ∷ b ∷ options) zero x y d h g o =
    let e : a ≡ x = cc h in
    let f : b ≡ y = cc g in
    ap (λ (z : Choice). pick (same o z) Tried (pick (same o y) Chosen (pick (same o a) Chosen (pick (among o (b ∷ options)) ToTry Closed)))) (sym e)
    ∙ ap (λ (z : Choice). pick (same o a) Tried (pick (same o z) Chosen (pick (same o a) Chosen (pick (among o (b ∷ options)) ToTry Closed)))) (sym f)
    ∙ go (same o a) (same o b)
  where
    go : (c : Dec (o ≡ a)) (d : Dec (o ≡ b)) → pick c Tried (pick d Chosen (pick c Chosen (pick (among o (b ∷ options)) ToTry Closed))) ≡ pick c Tried (pick d Chosen (pick (among o options) ToTry Closed))
    go (yes e) d = refl
    go (no e) (yes f) = refl
    go (no e) (no f) = among_rest o b options f
moved (a ∷ b ∷ options) (suc p) x y d h g o = go (same o a) (moved (b ∷ options) p x y d.1 h g o)
  where
    go : (c : Dec (o ≡ a)) → pick (same o x) Tried (pick (same o y) Chosen (state_by_place (b ∷ options) p o)) ≡ state_by_place (b ∷ options) (suc p) o
        → pick (same o x) Tried (pick (same o y) Chosen (pick c Tried (state_by_place (b ∷ options) p o))) ≡ pick c Tried (state_by_place (b ∷ options) (suc p) o)
    go (no e) ih = ih
    go (yes e) ih =
        ap (λ (u : State). pick (same o x) Tried u) (pick_no (same o y) Chosen Tried (λ f. d.0 (subst (λ u. Among u (b ∷ options)) (sym f ∙ e) (get_among (b ∷ options) (suc p) y g))))
        ∙ both (same o x)
      where
        both : {A : Type 0} (c : Dec A) → pick c Tried Tried ≡ Tried
        both (yes e) = refl
        both (no e) = refl

next_of : Stored → Option Choice → Option Stored
next_of n o = elim o [ None ↦ None | Some x ↦ Some (choose n x) ]

explores : (n : Stored) → n.made.exploring ≡ true → advance n ≡ next_of n (first_pending n.status n.made.options)
unfolding next_of
explores n e = ap (λ b. cond b (next_of n (first_pending n.status n.made.options)) None) e

-- where the run doesn't explore nothing is next
pub turn_stays : (n : Stored) → n.made.exploring ≡ false → advance n ≡ None
unfolding next_of
turn_stays n e = ap (λ b. cond b (next_of n (first_pending n.status n.made.options)) None) e

module _ (n : Made) (p : ℕ) (x : Choice) (distinct : Distinct n.options) (here : slice_get n.options p ≡ Some x) where
  placed : turn n x ≡ stored n x (state_by_place n.options p)
  placed = ap (stored n x) (fun_ext (by_place n.options p x distinct here))

  -- the option after the choice is the next one
  pub turn_next : (y : Choice) → n.exploring ≡ true → slice_get n.options (suc p) ≡ Some y → advance (turn n x) ≡ Some (turn n y)
  unfolding next_of
  turn_next y e there =
      ap advance placed ∙ explores (stored n x (state_by_place n.options p)) e
      ∙ ap (next_of (stored n x (state_by_place n.options p))) (next_place n.options p y distinct there)
      ∙ ap (λ (s : Choice → State). Some (stored n y s)) (fun_ext (λ o. moved n.options p x y distinct here there o ∙ sym (by_place n.options (suc p) y distinct there o)))

  -- the last option has none after it
  pub turn_last : slice_get n.options (suc p) ≡ None → advance (turn n x) ≡ None
  unfolding next_of
  turn_last there = ap advance placed ∙ go n.exploring refl
    where
      go : (b : Bool) → n.exploring ≡ b → advance (stored n x (state_by_place n.options p)) ≡ None
      go true e = explores (stored n x (state_by_place n.options p)) e ∙ ap (next_of (stored n x (state_by_place n.options p))) (no_place n.options p distinct there)
      go false e = turn_stays (stored n x (state_by_place n.options p)) e
