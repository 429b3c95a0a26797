-- The options of a node that were tried.
use Rattle.std.proofs.Common.{◌≡◌, ◌⊎◌, ◌↔◌, ◌<◌, ◌≤◌, ◌+◌, ℕ, zero, suc, Bool, true, false, List, [], ◌∷◌, ◌++◌, map, take, length, Option, Some, None, refl, ap, sym, ◌∙◌, subst, inl, inr, arith}
use Rattle.std.specs.Prelude.{slice_get, slice_index}
use native.Mathlib.Decide.{ℕ_discrete}
use Rattle.loom_objects.specs.declared.choice.Choice.{Choice}
use Rattle.loom_objects.specs.declared.choice.Choice.TheVariants as choice
use Rattle.loom_objects.specs.declared.choice.Choice.TheVariants.{Thread}
use Rattle.loom_objects.specs.Tree.Question.{Among, made_of}
use Rattle.loom_objects.specs.Tree.Stores.{slots, slots_from, asked_store}
use Rattle.loom_engine.specs.Walk.Choices.{same, among, pick}
use Rattle.loom_engine.specs.Walk.Path.{Status as State, Closed, Pending as ToTry, Active as Chosen, Visited as Tried}
use Rattle.loom_engine.specs.Trees.Drive.{value_status}
use Rattle.loom_engine.specs.Parts.Cuts.{IsTried}
use Rattle.loom_engine.specs.declared.rt.path.node.Load.{Load}
use Rattle.loom_engine.specs.declared.rt.path.node.Schedule.{Schedule}
use Rattle.loom_engine.specs.declared.rt.path.node.Spurious.{Spurious}
use Rattle.loom_engine.specs.declared.rt.path.node.Status.{Status}
use Rattle.loom_engine.specs.declared.rt.path.node.Status.TheVariants.{Disabled, Skip, Yield, Pending, Active, Visited}
use Rattle.loom_engine.specs.Path.Nodes.{state_of, state_at, thread_state, seen_schedule, seen_load, seen_spurious, IsWellLoad}
use Rattle.loom_engine.specs.Path.WellFormed.{is_tried}

abbrev HasTried : State → Type 0
HasTried s = (s ≡ Chosen) ⊎ (s ≡ Tried)

-- ---- lists of options

pub among_snoc : (xs : List Choice) (x o : Choice) → Among o (xs ++ x ∷ []) ↔ (Among o xs ⊎ (o ≡ x))
among_snoc [] x o = ((λ h. elim h [ inl e ↦ inr e | inr e ↦ inl e ]), λ h. elim h [ inl e ↦ absurd e | inr e ↦ inl e ])
among_snoc (y ∷ xs) x o =
    let ih = among_snoc xs x o in (
      (λ h. elim h [ inl e ↦ inl (inl e) | inr e ↦ elim (ih.0 e) [ inl i ↦ inl (inr i) | inr i ↦ inr i ] ]),
      λ h. elim h [ inl e ↦ elim e [ inl i ↦ inl i | inr i ↦ inr (ih.1 (inl i)) ] | inr e ↦ inr (ih.1 (inr e)) ],
    )

-- ---- threads

tried_state : (s : Status) → is_tried s ≡ true → HasTried (state_of s)
tried_state Disabled h = absurd (cc h)
tried_state Skip h = absurd (cc h)
tried_state Yield h = absurd (cc h)
tried_state Pending h = absurd (cc h)
tried_state Active h = inl refl
tried_state Visited h = inr refl

state_tried : (s : Status) → HasTried (state_of s) → is_tried s ≡ true
state_tried Disabled h = elim h [ inl e ↦ absurd (cc e) | inr e ↦ absurd (cc e) ]
state_tried Skip h = elim h [ inl e ↦ absurd (cc e) | inr e ↦ absurd (cc e) ]
state_tried Yield h = elim h [ inl e ↦ absurd (cc e) | inr e ↦ absurd (cc e) ]
state_tried Pending h = elim h [ inl e ↦ absurd (cc e) | inr e ↦ absurd (cc e) ]
state_tried Active h = refl
state_tried Visited h = refl

-- the thread is the choice, or was tried
abbrev IsTriedAt : List Status → ℕ → Type 0
IsTriedAt ss k = (s : Status) × (slice_get ss k ≡ Some s) × (is_tried s ≡ true)

at_state : (ss : List Status) (k : ℕ) → IsTriedAt ss k → HasTried (state_at ss k)
at_state [] k h = absurd (cc h.1)
at_state (x ∷ ss) zero h = let e : x ≡ h.0 = cc h.1 in tried_state x (ap is_tried e ∙ h.2)
at_state (x ∷ ss) (suc k) h = at_state ss k h

state_at_is : (ss : List Status) (k : ℕ) → HasTried (state_at ss k) → IsTriedAt ss k
state_at_is [] k h = elim h [ inl e ↦ absurd (cc e) | inr e ↦ absurd (cc e) ]
state_at_is (x ∷ ss) zero h = (x, refl, state_tried x h)
state_at_is (x ∷ ss) (suc k) h = state_at_is ss k h

within : (ss : List Status) (k : ℕ) → IsTriedAt ss k → k < length ss
within [] k h = absurd (cc h.1)
within (x ∷ ss) zero h = omega arith
within (x ∷ ss) (suc k) h = (let i = within ss k h in omega (arith, i))

-- the option is one of the threads up to this one, or none
pub data Upto (first : Option ℕ) (ss : List Status) (t : ℕ) (o : Choice) : Type 0 where
  is_none : o ≡ Thread None → first ≡ None → Upto first ss t o
  is_thread : (k : ℕ) → o ≡ Thread (Some k) → k < t → IsTriedAt ss k → Upto first ss t o

abbrev pub AreUpto : Option ℕ → List Status → ℕ → List Choice → Type 0
AreUpto first ss t list = (o : Choice) → Among o list ↔ Upto first ss t o

pub upto_none : (first : Option ℕ) (ss : List Status) (list : List Choice) → first ≡ None → list ≡ Thread None ∷ [] → AreUpto first ss 0 list
upto_none first ss list e f o =
    ((λ h. is_none (elim (subst (Among o) f h) [ inl i ↦ i | inr i ↦ absurd i ]) e), λ h. subst (Among o) (sym f) (inl (go h)))
  where
    go : Upto first ss 0 o → o ≡ Thread None
    go (is_none i j) = i
    go (is_thread k i l a) = absurd (omega (arith, l))

pub upto_nothing : (first : Option ℕ) (ss : List Status) (list : List Choice) (k : ℕ) → first ≡ Some k → list ≡ [] → AreUpto first ss 0 list
upto_nothing first ss list k e f o = ((λ h. absurd (subst (Among o) f h)), λ h. absurd (go h))
  where
    go : Upto first ss 0 o → ⊥
    go (is_none i j) = cc (e, j)
    go (is_thread k i l a) = omega (arith, l)

upto_wider : (first : Option ℕ) (ss : List Status) (t : ℕ) (o : Choice) → Upto first ss t o → Upto first ss (t + 1) o
upto_wider first ss t o (is_none e f) = is_none e f
upto_wider first ss t o (is_thread k e l a) = is_thread k e (omega (arith, l)) a

pub upto_more : (first : Option ℕ) (ss : List Status) (t : ℕ) (s : Status) (list more : List Choice) → AreUpto first ss t list → slice_get ss t ≡ Some s → is_tried s ≡ true
    → more ≡ list ++ Thread (Some t) ∷ [] → AreUpto first ss (t + 1) more
upto_more first ss t s list more h at tried e o = (
  (λ i. elim ((among_snoc list (Thread (Some t)) o).0 (subst (Among o) e i)) [
    | inl j ↦ upto_wider first ss t o ((h o).0 j)
    | inr j ↦ is_thread t j (omega arith) (s, at, tried)
  ]),
  λ i. subst (Among o) (sym e) ((among_snoc list (Thread (Some t)) o).1 (back i)),
)
  where
    back : Upto first ss (t + 1) o → Among o list ⊎ (o ≡ Thread (Some t))
    back (is_none f g) = inl ((h o).1 (is_none f g))
    back (is_thread k f l a) = go (ℕ_discrete k t)
      where
        go : Dec (k ≡ t) → Among o list ⊎ (o ≡ Thread (Some t))
        go (yes g) = inr (f ∙ ap (λ x. Thread (Some x)) g)
        go (no g) = inl ((h o).1 (is_thread k f (omega (arith, l, g)) a))

pub upto_same : (first : Option ℕ) (ss : List Status) (t : ℕ) (s : Status) (list : List Choice) → AreUpto first ss t list → slice_get ss t ≡ Some s → is_tried s ≡ false → AreUpto first ss (t + 1) list
upto_same first ss t s list h at tried o = ((λ i. upto_wider first ss t o ((h o).0 i)), λ i. (h o).1 (back i))
  where
    back : Upto first ss (t + 1) o → Upto first ss t o
    back (is_none f g) = is_none f g
    back (is_thread k f l a) = is_thread k f (less k l a) a
      where
        less : (k : ℕ) → k < t + 1 → IsTriedAt ss k → k < t
        less k l a = go (ℕ_discrete k t)
          where
            go : Dec (k ≡ t) → k < t
            go (yes g) = (let there : a.0 ≡ s = cc (a.1, at, ap (slice_get ss) g) in let z = a.2 in absurd (cc (z, tried, ap is_tried there)))
            go (no g) = omega (arith, l, g)

-- one thread more was looked at
pub upto_step : (first : Option ℕ) (ss : List Status) (t : ℕ) (list more : List Choice) → AreUpto first ss t list → ((s : Status) → slice_get ss t ≡ Some s → is_tried s ≡ true) → t < length ss
    → more ≡ list ++ Thread (Some t) ∷ [] → AreUpto first ss (t + 1) more
upto_step first ss t list more h tried l e = let z = got ss t l in upto_more first ss t z.0 list more h z.1 (tried z.0 z.1) e
  where
    got : (ss : List Status) (t : ℕ) → t < length ss → (s : Status) × (slice_get ss t ≡ Some s)
    got [] t l = absurd (omega arith)
    got (x ∷ ss) zero l = (x, refl)
    got (x ∷ ss) (suc t) l = got ss t (omega arith)

pub upto_pass : (first : Option ℕ) (ss : List Status) (t : ℕ) (list : List Choice) → AreUpto first ss t list → ((s : Status) → slice_get ss t ≡ Some s → is_tried s ≡ false) → t < length ss → AreUpto first ss (t + 1) list
upto_pass first ss t list h tried l = let z = got ss t l in upto_same first ss t z.0 list h z.1 (tried z.0 z.1)
  where
    got : (ss : List Status) (t : ℕ) → t < length ss → (s : Status) × (slice_get ss t ≡ Some s)
    got [] t l = absurd (omega arith)
    got (x ∷ ss) zero l = (x, refl)
    got (x ∷ ss) (suc t) l = got ss t (omega arith)

pub upto_all : (s : Schedule) (t : ℕ) (list : List Choice) → length s.statuses ≤ t → AreUpto s.first s.statuses t list → (o : Choice) → Among o list ↔ IsTried (seen_schedule s) o
upto_all s t list all h o = ((λ i. there o ((h o).0 i)), λ i. (h o).1 (back o i))
  where
    there : (o : Choice) → Upto s.first s.statuses t o → IsTried (seen_schedule s) o
    there o (is_none e f) =
        inl (ap (λ c. thread_state s.first s.statuses c) e ∙ ap (λ first. thread_state first s.statuses (Thread None)) f)
    there o (is_thread k e l a) = subst (λ c. HasTried (thread_state s.first s.statuses c)) (sym e) (at_state s.statuses k a)

    back : (o : Choice) → IsTried (seen_schedule s) o → Upto s.first s.statuses t o
    back (Thread (Some k)) i = (let a = state_at_is s.statuses k i in let l = within s.statuses k a in is_thread k refl (omega (arith, l, all)) a)
    back (Thread None) i = go s.first refl i
      where
        go : (first : Option ℕ) → s.first ≡ first → HasTried (thread_state first s.statuses (Thread None)) → Upto s.first s.statuses t (Thread None)
        go None e i = is_none refl e
        go (Some k) e i = elim i [ inl f ↦ absurd (cc f) | inr f ↦ absurd (cc f) ]
    back (choice.Load slot) i = elim i [ inl f ↦ absurd (cc f) | inr f ↦ absurd (cc f) ]
    back (choice.Spurious answer) i = elim i [ inl f ↦ absurd (cc f) | inr f ↦ absurd (cc f) ]

-- ---- options that are tried in turn

Distinct : List Choice → Type 0
Distinct [] = Unit {0}
Distinct (x ∷ options) = (Among x options → ⊥) × Distinct options

get_among : (options : List Choice) (p : ℕ) (x : Choice) → slice_get options p ≡ Some x → Among x options
get_among [] p x h = absurd (cc h)
get_among (y ∷ options) zero x h = inl (let e : y ≡ x = cc h in sym e)
get_among (y ∷ options) (suc p) x h = inr (get_among options p x h)

in_turn_tried : (options : List Choice) (p : ℕ) (x : Choice) → Distinct options → slice_get options p ≡ Some x → (o : Choice) → HasTried (value_status options x o) ↔ Among o (take (suc p) options)
unfolding Distinct
in_turn_tried [] p x d h o = absurd (cc h)
in_turn_tried (y ∷ os) zero x d h o = go (same y x) (same o x) (among o os)
  where
    e : y ≡ x
    e = cc h

    go : (a : Dec (y ≡ x)) (b : Dec (o ≡ x)) (c : Dec (Among o os)) → HasTried (pick a (pick b Chosen (pick c ToTry Closed)) (pick (same o y) Tried (value_status os x o))) ↔ Among o (y ∷ [])
    go (no f) b c = absurd (f e)
    go (yes f) (yes g) c = ((λ i. inl (g ∙ sym e)), λ i. inl refl)
    go (yes f) (no g) (yes c) = ((λ i. elim i [ inl j ↦ absurd (cc j) | inr j ↦ absurd (cc j) ]), λ i. elim i [ inl j ↦ absurd (g (j ∙ e)) | inr j ↦ absurd j ])
    go (yes f) (no g) (no c) = ((λ i. elim i [ inl j ↦ absurd (cc j) | inr j ↦ absurd (cc j) ]), λ i. elim i [ inl j ↦ absurd (g (j ∙ e)) | inr j ↦ absurd j ])
in_turn_tried (y ∷ os) (suc p) x d h o = go (same y x) (same o y) (in_turn_tried os p x d.1 h o)
  where
    go : (a : Dec (y ≡ x)) (b : Dec (o ≡ y)) → HasTried (value_status os x o) ↔ Among o (take (suc p) os)
        → HasTried (pick a (pick (same o x) Chosen (pick (among o os) ToTry Closed)) (pick b Tried (value_status os x o))) ↔ Among o (y ∷ take (suc p) os)
    go (yes f) b ih = absurd (d.0 (subst (λ u. Among u os) (sym f) (get_among os p x h)))
    go (no f) (yes g) ih = ((λ i. inl g), λ i. inr refl)
    go (no f) (no g) ih = ((λ i. inr (ih.0 i)), λ i. elim i [ inl j ↦ absurd (g j) | inr j ↦ ih.1 j ])

-- ---- slots

abbrev pub loads : List ℕ → List Choice
loads xs = map (λ (slot : ℕ). choice.Load slot) xs

above : (readable : List Bool) (k j : ℕ) → Among (choice.Load j) (loads (slots_from k readable)) → k ≤ j
above [] k j h = absurd h
above (true ∷ readable) k j (inl e) = (let f : j ≡ k = cc e in omega (arith, f))
above (true ∷ readable) k j (inr h) = (let i = above readable (suc k) j h in omega (arith, i))
above (false ∷ readable) k j h = (let i = above readable (suc k) j h in omega (arith, i))

distinct : (readable : List Bool) (k : ℕ) → Distinct (loads (slots_from k readable))
unfolding Distinct
distinct [] k = tt
distinct (true ∷ readable) k = ((λ a. let i = above readable (suc k) k a in omega (arith, i)), distinct readable (suc k))
distinct (false ∷ readable) k = distinct readable (suc k)

get_load : (xs : List ℕ) (p : ℕ) → p < length xs → slice_get (loads xs) p ≡ Some (choice.Load (slice_index xs p))
get_load [] p h = absurd (omega arith)
get_load (x ∷ xs) zero h = refl
get_load (x ∷ xs) (suc p) h = get_load xs p (omega arith)

has_loads : (exploring : Bool) (xs : List ℕ) → 0 < length xs → (made_of (asked_store exploring xs)).options ≡ loads xs
has_loads exploring [] h = absurd (omega arith)
has_loads exploring (x ∷ xs) h = refl

take_loads : (k : ℕ) (xs : List ℕ) → take k (loads xs) ≡ loads (take k xs)
take_loads zero xs = refl
take_loads (suc k) [] = refl
take_loads (suc k) (x ∷ xs) = ap (λ t. choice.Load x ∷ t) (take_loads k xs)

one_more : (xs : List ℕ) (k : ℕ) → k < length xs → loads (take k xs) ++ choice.Load (slice_index xs k) ∷ [] ≡ loads (take (suc k) xs)
one_more [] k h = absurd (omega arith)
one_more (x ∷ xs) zero h = refl
one_more (x ∷ xs) (suc k) h = ap (λ t. choice.Load x ∷ t) (one_more xs k (omega arith))

pub one_load : (xs : List ℕ) (k : ℕ) → k < length xs → loads (take k xs) ++ choice.Load (slice_index xs k) ∷ [] ≡ loads (take (k + 1) xs)
one_load xs k h = (let next : suc k ≡ k + 1 = omega arith in one_more xs k h ∙ ap (λ j. loads (take j xs)) next)

pub slots_tried : (n : Load) (list : List Choice) → IsWellLoad n → list ≡ loads (take (n.position + 1) (slots n.readable)) → (o : Choice) → Among o list ↔ IsTried (seen_load n) o
slots_tried n list w e o =
    let xs = slots n.readable in
    let next : suc n.position ≡ n.position + 1 = omega arith in
    let options = has_loads n.exploring (slots n.readable) (omega (arith, w)) in
    let z = in_turn_tried (loads (slots n.readable)) n.position (choice.Load (slice_index (slots n.readable) n.position)) (distinct n.readable 0) (get_load (slots n.readable) n.position w) o in
    let same_list : list ≡ take (suc n.position) (loads (slots n.readable)) = e ∙ ap (λ k. loads (take k (slots n.readable))) (sym next) ∙ sym (take_loads (suc n.position) (slots n.readable)) in (
      (λ i. subst (λ os. HasTried (value_status os (choice.Load (slice_index (slots n.readable) n.position)) o)) (sym options) (z.1 (subst (Among o) same_list i))),
      λ i. subst (Among o) (sym same_list) (z.0 (subst (λ os. HasTried (value_status os (choice.Load (slice_index (slots n.readable) n.position)) o)) options i)),
    )

-- ---- answers

two : Distinct (choice.Spurious false ∷ choice.Spurious true ∷ [])
unfolding Distinct
two = ((λ a. elim a [ inl e ↦ cc e | inr e ↦ e ]), ((λ a. a), tt))

pub answer_no : (n : Spurious) (list : List Choice) → n.answer ≡ false → list ≡ choice.Spurious false ∷ [] → (o : Choice) → Among o list ↔ IsTried (seen_spurious n) o
answer_no n list e f o =
    let z = in_turn_tried (choice.Spurious false ∷ choice.Spurious true ∷ []) 0 (choice.Spurious false) two refl o in (
      (λ i. subst (λ b. HasTried (value_status (choice.Spurious false ∷ choice.Spurious true ∷ []) (choice.Spurious b) o)) (sym e) (z.1 (subst (Among o) f i))),
      λ i. subst (Among o) (sym f) (z.0 (subst (λ b. HasTried (value_status (choice.Spurious false ∷ choice.Spurious true ∷ []) (choice.Spurious b) o)) e i)),
    )

pub answer_yes : (n : Spurious) (list : List Choice) → n.answer ≡ true → list ≡ choice.Spurious false ∷ choice.Spurious true ∷ [] → (o : Choice) → Among o list ↔ IsTried (seen_spurious n) o
answer_yes n list e f o =
    let z = in_turn_tried (choice.Spurious false ∷ choice.Spurious true ∷ []) 1 (choice.Spurious true) two refl o in (
      (λ i. subst (λ b. HasTried (value_status (choice.Spurious false ∷ choice.Spurious true ∷ []) (choice.Spurious b) o)) (sym e) (z.1 (subst (Among o) f i))),
      λ i. subst (Among o) (sym f) (z.0 (subst (λ b. HasTried (value_status (choice.Spurious false ∷ choice.Spurious true ∷ []) (choice.Spurious b) o)) e i)),
    )
