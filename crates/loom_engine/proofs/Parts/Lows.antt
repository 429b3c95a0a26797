-- The nodes below the floor of a path, through runs, steps and branches.
use Rattle.std.proofs.Common.{◌≡◌, ◌≢◌, ◌⊎◌, ◌<◌, ℕ, zero, suc, Bool, true, false, ◌&&◌, List, [], ◌∷◌, ◌++◌, length, Option, Some, None, refl, ap, sym, ◌∙◌, subst, inl, inr, arith, append_assoc, length-append, ap₂, take}
use Rattle.loom_objects.specs.declared.choice.Choice.{Choice}
use Rattle.loom_objects.specs.Tree.Question.{Made, Among}
use Rattle.loom_engine.specs.Walk.Choices.{same, pick}
use Rattle.loom_engine.specs.Walk.Machine.{Machine, is_thread}
use Rattle.loom_engine.specs.Walk.Sound.{IsMachine}
use Rattle.loom_engine.specs.Walk.Runs.{Alternative}
use Rattle.loom_engine.specs.Walk.Path.{Status, Closed, Skip, Pending, Active, Visited, Stored, choices, node_at, IsAtRest, IsResting, mark}
use Rattle.loom_engine.specs.Walk.Lists.{Member}
use Rattle.loom_engine.proofs.Walk.Lists.{node_chooses, chooses_node, node_on}
use Rattle.loom_engine.proofs.Walk.Defaults.{goes_on}
use Rattle.loom_engine.proofs.Walk.Statuses.{both_true, true_both, kept_pending, made_pending, was_pending, was_active, was_visited}
use Rattle.loom_engine.proofs.Walk.After.{IsNodeAfter, was_there, is_new, IsAfter, node_in}
use Rattle.loom_engine.proofs.Walk.Stepping.{Steps, step_some}
use Rattle.loom_engine.specs.Parts.Cuts.{IsBelow, IsTried, AreNotes}
use Rattle.loom_engine.specs.Parts.Floors.{step_above}
use Rattle.loom_engine.specs.Parts.Works.{IsNotedIn, Gathers}

-- what holds of a part's path below its floor
pub record InOrder (m : Machine) (b : List Choice) (p : List Stored) (issued notes : List (List Choice)) : Type 0 where
  pub resting : IsResting m p
  pub begins : (e : List Choice) × (choices p ≡ b ++ e)
  pub tried : (before : List Choice) (n : Stored) (o : Choice) → IsBelow before b → node_at p before ≡ Some n → is_thread n.made.default ≡ true → IsTried n o
      → Member (before ++ o ∷ []) issued
  pub noted : (k : List Choice) → IsNotedIn b p k → Member k issued ⊎ Member k notes

pub more_issued : (m : Machine) (b : List Choice) (p : List Stored) (issued notes wider more : List (List Choice)) → InOrder m b p issued notes
    → ((k : List Choice) → Member k issued → Member k wider) → ((k : List Choice) → Member k notes → Member k wider ⊎ Member k more) → InOrder m b p wider more
more_issued m b p issued notes wider more h f g = record {
  resting = h.resting;
  begins = h.begins;
  tried = λ before n o low at th t. f (before ++ o ∷ []) (h.tried before n o low at th t);
  noted = λ k i. elim (h.noted k i) [ inl j ↦ inl (f k j) | inr j ↦ g k j ];
}

pub low_node : (m : Machine) (b : List Choice) (p : List Stored) (issued notes : List (List Choice)) → InOrder m b p issued notes → (before : List Choice) → IsBelow before b
    → (n : Stored) × (node_at p before ≡ Some n)
low_node m b p issued notes h before (c, f, i) =
    let y = h.begins in
    let z = chooses_node p before c (f ++ y.0) (y.1 ∙ ap (λ t. t ++ y.0) i ∙ append_assoc before (c ∷ f) y.0) in
    (z.0, z.1)

-- a step above the floor leaves the nodes below it as they are
pub low_same : (k : ℕ) (q next : List Stored) → step_above k q ≡ Some next → (before : List Choice) → length before < k → node_at next before ≡ node_at q before
unfolding step_above node_at
low_same zero q next h before l = absurd (omega arith)
low_same (suc k) [] next h before l = absurd (cc h)
low_same (suc k) (n ∷ q) next h before l = go (step_above k q) refl h (λ d e b g. low_same k q d e b g)
  where
    go : (x : Option (List Stored)) → step_above k q ≡ x → elim x [ Some deeper ↦ Some (n ∷ deeper) | None ↦ None ] ≡ Some next
        → ((d : List Stored) → step_above k q ≡ Some d → (b : List Choice) → length b < k → node_at d b ≡ node_at q b) → node_at next before ≡ node_at (n ∷ q) before
    go None e g ih = absurd (cc g)
    go (Some d) e g ih = let f : n ∷ d ≡ next = cc g in subst (λ t. node_at t before ≡ node_at (n ∷ q) before) f (on before l)
      where
        on : (before : List Choice) → length before < suc k → node_at (n ∷ d) before ≡ node_at (n ∷ q) before
        on [] u = refl
        on (c ∷ rest) u = ap (λ t. pick (same c n.present) t None) (ih d e rest (omega arith))

deeper : (n : Stored) (q d : List Stored) → Steps q d → Steps (n ∷ q) (n ∷ d)
unfolding Steps node_at
deeper n q d (branch, k, o, s) = (
  n.present ∷ branch,
  k,
  o,
  record {
    at = node_on n q n.present branch refl ∙ s.at;
    exploring = s.exploring;
    first = s.first;
    pending = s.pending;
    chosen = ap (λ t. n.present ∷ t) s.chosen;
    here = node_on n d n.present branch refl ∙ s.here;
    above = above;
    below = λ e x g. s.below e x (node_in n q n.present (branch ++ k.present ∷ e) x g).1;
  },
)
  where
    above : (before : List Choice) (c : Choice) (e : List Choice) → n.present ∷ branch ≡ before ++ c ∷ e → node_at (n ∷ d) before ≡ node_at (n ∷ q) before
    above [] c e g = refl
    above (b ∷ before) c e g =
        let first : b ≡ n.present = cc g in
        node_on n d b before first ∙ s.above before c e (cc g) ∙ sym (node_on n q b before first)

-- it is a step as any other
pub steps_above : (k : ℕ) (q next : List Stored) → step_above k q ≡ Some next → Steps q next
unfolding step_above
steps_above zero q next h = step_some q next h
steps_above (suc k) [] next h = absurd (cc h)
steps_above (suc k) (n ∷ q) next h = go (step_above k q) refl h (λ d e. steps_above k q d e)
  where
    go : (x : Option (List Stored)) → step_above k q ≡ x → elim x [ Some deeper ↦ Some (n ∷ deeper) | None ↦ None ] ≡ Some next
        → ((d : List Stored) → step_above k q ≡ Some d → Steps q d) → Steps (n ∷ q) next
    go None e g ih = absurd (cc g)
    go (Some d) e g ih = let f : n ∷ d ≡ next = cc g in subst (λ t. Steps (n ∷ q) t) f (deeper n q d (ih d e))

pub below_length : (before b : List Choice) → IsBelow before b → length before < length b
below_length before b (c, e, h) = let l : length b ≡ length (before ++ c ∷ e) = ap length h in omega (arith, l, length-append before (c ∷ e))

-- the first nodes of a path
pub take_back : (k : ℕ) (q : List Stored) (before : List Choice) (n : Stored) → node_at (take k q) before ≡ Some n → node_at q before ≡ Some n
unfolding node_at
take_back zero q before n h = absurd (cc h)
take_back (suc k) [] before n h = absurd (cc h)
take_back (suc k) (x ∷ q) [] n h = h
take_back (suc k) (x ∷ q) (c ∷ before) n h = let z = node_in x (take k q) c before n h in node_on x q c before z.0 ∙ take_back k q before n z.1

pub take_same : (k : ℕ) (q : List Stored) (before : List Choice) → length before < k → node_at (take k q) before ≡ node_at q before
unfolding node_at
take_same zero q before l = absurd (omega arith)
take_same (suc k) [] before l = refl
take_same (suc k) (x ∷ q) [] l = refl
take_same (suc k) (x ∷ q) (c ∷ before) l = ap (λ t. pick (same c x.present) t None) (take_same k q before (omega arith))

pub take_begins : (b e : List Choice) (q : List Stored) → choices q ≡ b ++ e → choices (take (length b) q) ≡ b ++ []
take_begins [] e q h = refl
take_begins (c ∷ b) e [] h = absurd (cc h)
take_begins (c ∷ b) e (n ∷ q) h =
    let first : n.present ≡ c = cc h in
    ap₂ (λ (x : Choice) (t : List Choice). x ∷ t) first (take_begins b e q (cc h))

-- what is noted below the floor is the same in two paths with the same nodes there
pub noted_same : (b : List Choice) (p q : List Stored) → ((before : List Choice) → IsBelow before b → node_at q before ≡ node_at p before) → (k : List Choice) → IsNotedIn b q k → IsNotedIn b p k
noted_same b p q same_low k i =
    record {
      before = i.before;
      option = i.option;
      node = i.node;
      splits = i.splits;
      low = i.low;
      stands = sym (same_low i.before i.low) ∙ i.stands;
      exploring = i.exploring;
      thread = i.thread;
      pending = i.pending;
    }

module _ (m : Machine) (w : IsMachine m) (b : List Choice) (p : List Stored) (issued notes : List (List Choice)) (h : InOrder m b p issued notes)
    (q : List Stored) (r : List Choice) (a : IsAfter m p q r) (rest : IsResting m q) (more : List (List Choice)) (gathers : Gathers b q issued notes more) where
  low_after : (before : List Choice) (x : Stored) → IsBelow before b → node_at q before ≡ Some x → (n : Stored) × (node_at p before ≡ Some n) × (x ≡ mark m r (length before) n)
  low_after before x low g = go (a.each before x g)
    where
      go : IsNodeAfter m p r before x → (n : Stored) × (node_at p before ≡ Some n) × (x ≡ mark m r (length before) n)
      go (was_there n i f) = (n, i, f)
      go (is_new made i met f dr) = let z = low_node m b p issued notes h before low in absurd (cc (i, z.1))

  -- what is to be tried below the floor is an alternative of the run, unless it was there before
  only : (k : List Choice) → IsNotedIn b q k
      → Member k notes ⊎ ((before : List Choice) × (o : Choice) × (k ≡ before ++ o ∷ []) × IsBelow before b × (Member k issued ⊎ Alternative m r before o))
  only k i = go z.0 z.1 z.2
    where
      z : (n : Stored) × (node_at p i.before ≡ Some n) × (i.node ≡ mark m r (length i.before) n)
      z = low_after i.before i.node i.low i.stands

      go : (n : Stored) → node_at p i.before ≡ Some n → i.node ≡ mark m r (length i.before) n
          → Member k notes ⊎ ((before : List Choice) × (o : Choice) × (k ≡ before ++ o ∷ []) × IsBelow before b × (Member k issued ⊎ Alternative m r before o))
      go n g f = elim (was_pending (m.reduce && m.marks r (length i.before) i.option) (n.status i.option) (sym (ap (λ (y : Stored). y.status i.option) f) ∙ i.pending)) [
        | inl s ↦ elim (h.noted k (stood s)) [ inl j ↦ inr (i.before, i.option, i.splits, i.low, inl j) | inr j ↦ inl j ]
        | inr s ↦ inr (i.before, i.option, i.splits, i.low, inr (marked s.0 (both_true m.reduce (m.marks r (length i.before) i.option) s.1)))
      ]
        where
          made_same : i.node.made ≡ n.made
          made_same = ap (λ (y : Stored). y.made) f

          explores : n.made.exploring ≡ true
          explores = sym (ap (λ (y : Made). y.exploring) made_same) ∙ i.exploring

          stood : n.status i.option ≡ Pending → IsNotedIn b p k
          stood s = record {
            before = i.before;
            option = i.option;
            node = n;
            splits = i.splits;
            low = i.low;
            stands = g;
            exploring = explores;
            thread = sym (ap (λ (y : Made). is_thread y.default) made_same) ∙ i.thread;
            pending = s;
          }

          node : IsAtRest n
          node = h.resting.rest i.before n g

          at : (after : List Choice) × (choices q ≡ i.before ++ i.node.present ∷ after)
          at = node_chooses q i.before i.node i.stands

          present_same : i.node.present ≡ n.present
          present_same = ap (λ (y : Stored). y.present) f

          marked : n.status i.option ≡ Skip → ((m.reduce ≡ true) × (m.marks r (length i.before) i.option ≡ true)) → Alternative m r i.before i.option
          marked s l = record {
            chosen = i.node.present;
            after = at.0;
            made = n.made;
            splits = sym a.whole ∙ at.1;
            met = h.resting.meets i.before n g;
            exploring = explores;
            option = node.closed i.option (λ e. cc (s, e));
            other = λ e. cc (s, node.active, ap n.status (e ∙ present_same));
            called = inr (l.0, l.1, λ e. elim node.default [ inl d ↦ cc (s, d, ap n.status e) | inr d ↦ cc (s, d, ap n.status e) ]);
          }

  each : (before : List Choice) (o : Choice) → IsBelow before b → Alternative m r before o → m.every before ≡ false → Member (before ++ o ∷ []) more ⊎ Member (before ++ o ∷ []) issued
  each before o low alt ev = go z.0 z.1 z.2
    where
      found : (n : Stored) × (node_at q before ≡ Some n) × (n.present ≡ alt.chosen)
      found = chooses_node q before alt.chosen alt.after (a.whole ∙ alt.splits)

      x : Stored
      x = found.0

      same_made : alt.made ≡ x.made
      same_made = cc (alt.met, rest.meets before x found.1)

      z : (n : Stored) × (node_at p before ≡ Some n) × (x ≡ mark m r (length before) n)
      z = low_after before x low found.1

      thread : (v : Bool) → is_thread x.made.default ≡ v → is_thread x.made.default ≡ true
      thread true e = e
      thread false e = let y = w.values before x.made (rest.meets before x found.1) e in absurd (cc (y, ev))

      noted : x.status o ≡ Pending → Member (before ++ o ∷ []) more ⊎ Member (before ++ o ∷ []) issued
      noted s = gathers.each (before ++ o ∷ []) (record {
        before = before;
        option = o;
        node = x;
        splits = refl;
        low = low;
        stands = found.1;
        exploring = sym (ap (λ (y : Made). y.exploring) same_made) ∙ alt.exploring;
        thread = thread (is_thread x.made.default) refl;
        pending = s;
      })

      go : (n : Stored) → node_at p before ≡ Some n → x ≡ mark m r (length before) n → Member (before ++ o ∷ []) more ⊎ Member (before ++ o ∷ []) issued
      go n g f = by_status (n.status o) refl
        where
          made_same : x.made ≡ n.made
          made_same = ap (λ (y : Stored). y.made) f

          call : n.status o ≡ Skip → ((m.every before ≡ true) ⊎ ((m.reduce ≡ true) × (m.marks r (length before) o ≡ true) × (o ≢ alt.made.default))) → x.status o ≡ Pending
          call s (inl e) = absurd (cc (e, ev))
          call s (inr e) =
              ap (λ (y : Stored). y.status o) f
              ∙ made_pending (m.reduce && m.marks r (length before) o) (n.status o) s (true_both m.reduce (m.marks r (length before) o) e.0 e.1)

          by_status : (s : Status) → n.status o ≡ s → Member (before ++ o ∷ []) more ⊎ Member (before ++ o ∷ []) issued
          by_status Closed s = absurd ((h.resting.rest before n g).opened o (subst (λ (u : Made). Among o u.options) (same_made ∙ made_same) alt.option) s)
          by_status Skip s = noted (call s alt.called)
          by_status Pending s = noted (ap (λ (y : Stored). y.status o) f ∙ kept_pending (m.reduce && m.marks r (length before) o) (n.status o) s)
          by_status Active s =
              absurd (alt.other ((h.resting.rest before n g).one o s ∙ sym (ap (λ (y : Stored). y.present) f) ∙ found.2))
          by_status Visited s = inr (h.tried before n o low g (sym (ap (λ (y : Made). is_thread y.default) made_same) ∙ thread (is_thread x.made.default) refl) (inr s))

  pub notes_are : AreNotes m b r issued notes more
  notes_are = record { only = λ k i. elim (gathers.only k i) [ inl j ↦ inl j | inr j ↦ only k j ]; old = gathers.old; each = each }

  pub tried_after : (before : List Choice) (x : Stored) (o : Choice) → IsBelow before b → node_at q before ≡ Some x → is_thread x.made.default ≡ true → IsTried x o → Member (before ++ o ∷ []) issued
  tried_after before x o low g th t =
      let z = low_after before x low g in
      h.tried before z.0 o low z.1 (sym (ap (λ (y : Stored). is_thread y.made.default) z.2) ∙ th) (elim t [
        | inl s ↦ inl (was_active (m.reduce && m.marks r (length before) o) (z.0.status o) (sym (ap (λ (y : Stored). y.status o) z.2) ∙ s))
        | inr s ↦ inr (was_visited (m.reduce && m.marks r (length before) o) (z.0.status o) (sym (ap (λ (y : Stored). y.status o) z.2) ∙ s))
      ])

  pub order_after : InOrder m b q issued more
  order_after = record {
    resting = rest;
    begins = begins;
    tried = tried_after;
    noted = λ k i. elim (gathers.each k i) [ inl j ↦ inr j | inr j ↦ inl j ];
  }
    where
      begins : (e : List Choice) × (choices q ≡ b ++ e)
      begins =
          let y = h.begins in
          let z = goes_on m (choices p) r a.run in
          (y.0 ++ z.0, a.whole ∙ z.1 ∙ ap (λ t. t ++ z.0) y.1 ∙ append_assoc b y.0 z.0)

-- the nodes below the floor are in order by themselves
pub order_taken : (m : Machine) (b : List Choice) (p : List Stored) (issued notes : List (List Choice)) → InOrder m b p issued notes → InOrder m b (take (length b) p) issued notes
order_taken m b p issued notes h = record {
  resting = record { meets = λ before n g. h.resting.meets before n (take_back (length b) p before n g); rest = λ before n g. h.resting.rest before n (take_back (length b) p before n g) };
  begins = (let y = h.begins in ([], take_begins b y.0 p y.1));
  tried = λ before n o low g th t. h.tried before n o low (take_back (length b) p before n g) th t;
  noted = λ k i. h.noted k (noted_same b p (take (length b) p) (λ before l. take_same (length b) p before (below_length before b l)) k i);
}
