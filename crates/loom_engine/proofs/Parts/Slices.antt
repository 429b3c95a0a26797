-- Slices are runs one after another.
use Rattle.std.proofs.Common.{◌≡◌, ◌⊎◌, ◌<◌, ℕ, zero, suc, Bool, true, false, cond, ◌&&◌, List, [], ◌∷◌, ◌++◌, map, length, Option, Some, None, refl, ap, sym, ◌∙◌, subst, inl, inr, arith, append_assoc, append-nil, length-append, take}
use Rattle.loom_objects.specs.declared.choice.Choice.{Choice}
use Rattle.loom_objects.specs.Tree.Question.{Among}
use Rattle.loom_engine.specs.Walk.Machine.{Machine, is_thread}
use Rattle.loom_engine.specs.Walk.Sound.{IsMachine}
use Rattle.loom_engine.specs.Walk.Path.{Status, Closed, Skip, Pending, Active, Visited, Stored, choices, node_at, IsResting, mark, after_run}
use Rattle.loom_engine.specs.Walk.Walks.{run_of}
use Rattle.loom_engine.specs.Walk.Lists.{Member}
use Rattle.loom_engine.proofs.Walk.Lists.{node_chooses, node_on}
use Rattle.loom_engine.proofs.Walk.Statuses.{both_true, true_both, kept_pending}
use Rattle.loom_engine.proofs.Walk.After.{after_run_is, node_in}
use Rattle.loom_engine.proofs.Walk.Defaults.{goes_on}
use Rattle.loom_engine.proofs.Walk.Resting.{after_resting}
use Rattle.loom_engine.proofs.Walk.Stepping.{Steps}
use Rattle.loom_engine.proofs.Walk.Left.{next_resting}
use Rattle.loom_engine.proofs.Walk.Together.{TwoBeginnings, within, past, two_beginnings}
use Rattle.loom_engine.specs.Parts.Cuts.{Part, IsBelow}
use Rattle.loom_engine.specs.Parts.Floors.{step_above}
use Rattle.loom_engine.specs.Parts.Works.{IsNotedIn, Gathers, Work, one_run, last_run}
use Rattle.loom_engine.specs.Parts.Slices.{Slice, first, further, Ended, at_once, after, SliceLaw}
use Rattle.loom_engine.proofs.Parts.Lists.{in_front, in_back, in_either}
use Rattle.loom_engine.proofs.Parts.Lows.{steps_above, low_same, take_same, take_begins, below_length, noted_same}
use Rattle.loom_engine.proofs.Parts.Works.{order_of}

-- the options that are to be tried
abbrev pub pending_of : (Choice → Status) → List Choice → List Choice
pending_of status [] = []
pending_of status (o ∷ os) = elim (status o) [ Pending ↦ o ∷ pending_of status os | _ ↦ pending_of status os ]

-- what is noted at a schedule, after these choices
abbrev pub noted_at : List Choice → Stored → List (List Choice)
noted_at before n = cond (n.made.exploring && is_thread n.made.default) (map (λ o. before ++ o ∷ []) (pending_of n.status n.made.options)) []

-- and at the first nodes of a path, so many of them
abbrev pub noted_in : List Choice → ℕ → List Stored → List (List Choice)
noted_in before zero p = []
noted_in before (suc k) [] = []
noted_in before (suc k) (n ∷ p) = noted_at before n ++ noted_in (before ++ n.present ∷ []) k p

-- lists of options
pub data IsKey (before : List Choice) (os : List Choice) (k : List Choice) : Type 0 where
  is_key : (o : Choice) → k ≡ before ++ o ∷ [] → Among o os → IsKey before os k

key_of : (before os k : List Choice) → Member k (map (λ o. before ++ o ∷ []) os) → IsKey before os k
key_of before [] k h = absurd h
key_of before (o ∷ os) k (inl e) = is_key o e (inl refl)
key_of before (o ∷ os) k (inr h) = elim (key_of before os k h) [ is_key x e a ↦ is_key x e (inr a) ]

of_key : (before os : List Choice) (o : Choice) → Among o os → Member (before ++ o ∷ []) (map (λ x. before ++ x ∷ []) os)
of_key before [] o h = absurd h
of_key before (x ∷ os) o (inl e) = inl (ap (λ t. before ++ t ∷ []) e)
of_key before (x ∷ os) o (inr h) = inr (of_key before os o h)

pending_is : (s : Choice → Status) (os : List Choice) (o : Choice) → Among o (pending_of s os) → s o ≡ Pending
pending_is s [] o h = absurd h
pending_is s (x ∷ os) o h = go (s x) refl h (λ a. pending_is s os o a)
  where
    go : (t : Status) → s x ≡ t → Among o (elim t [ Pending ↦ x ∷ pending_of s os | _ ↦ pending_of s os ]) → (Among o (pending_of s os) → s o ≡ Pending) → s o ≡ Pending
    go Pending e (inl a) ih = ap s a ∙ e
    go Pending e (inr a) ih = ih a
    go Closed e a ih = ih a
    go Skip e a ih = ih a
    go Active e a ih = ih a
    go Visited e a ih = ih a

is_pending_of : (s : Choice → Status) (os : List Choice) (o : Choice) → Among o os → s o ≡ Pending → Among o (pending_of s os)
is_pending_of s [] o h p = absurd h
is_pending_of s (x ∷ os) o h p = go (s x) refl h (λ a. is_pending_of s os o a p)
  where
    go : (t : Status) → s x ≡ t → ((o ≡ x) ⊎ Among o os) → (Among o os → Among o (pending_of s os)) → Among o (elim t [ Pending ↦ x ∷ pending_of s os | _ ↦ pending_of s os ])
    go Pending e (inl a) ih = inl a
    go Pending e (inr a) ih = inr (ih a)
    go Closed e (inl a) ih = absurd (cc (e, p, ap s a))
    go Closed e (inr a) ih = ih a
    go Skip e (inl a) ih = absurd (cc (e, p, ap s a))
    go Skip e (inr a) ih = ih a
    go Active e (inl a) ih = absurd (cc (e, p, ap s a))
    go Active e (inr a) ih = ih a
    go Visited e (inl a) ih = absurd (cc (e, p, ap s a))
    go Visited e (inr a) ih = ih a

-- what is noted at the first nodes, after the choices a
record Found (a : List Choice) (k : ℕ) (p : List Stored) (key : List Choice) : Type 0 where
  before : List Choice
  option : Choice
  node : Stored
  splits : key ≡ (a ++ before) ++ option ∷ []
  low : length before < k
  stands : node_at p before ≡ Some node
  exploring : node.made.exploring ≡ true
  thread : is_thread node.made.default ≡ true
  pending : node.status option ≡ Pending

found_at : (a : List Choice) (k : ℕ) (n : Stored) (p : List Stored) (key : List Choice) → Member key (noted_at a n) → Found a (suc k) (n ∷ p) key
unfolding node_at
found_at a k n p key h = go (n.made.exploring && is_thread n.made.default) refl h
  where
    go : (v : Bool) → (n.made.exploring && is_thread n.made.default) ≡ v → Member key (cond v (map (λ o. a ++ o ∷ []) (pending_of n.status n.made.options)) []) → Found a (suc k) (n ∷ p) key
    go true e h =
        let z = both_true n.made.exploring (is_thread n.made.default) e in
        elim (key_of a (pending_of n.status n.made.options) key h) [
          | is_key o f i ↦ record {
            before = [];
            option = o;
            node = n;
            splits = f ∙ ap (λ t. t ++ o ∷ []) (sym (append-nil a));
            low = omega arith;
            stands = refl;
            exploring = z.0;
            thread = z.1;
            pending = pending_is n.status n.made.options o i;
          }
        ]
    go false e h = absurd h

found_on : (a : List Choice) (k : ℕ) (n : Stored) (p : List Stored) (key : List Choice) → Found (a ++ n.present ∷ []) k p key → Found a (suc k) (n ∷ p) key
found_on a k n p key f =
    let l = f.low in
    record {
      before = n.present ∷ f.before;
      option = f.option;
      node = f.node;
      splits = f.splits ∙ ap (λ t. t ++ f.option ∷ []) (append_assoc a (n.present ∷ []) f.before);
      low = omega (arith, l);
      stands = node_on n p n.present f.before refl ∙ f.stands;
      exploring = f.exploring;
      thread = f.thread;
      pending = f.pending;
    }

found : (a : List Choice) (k : ℕ) (p : List Stored) (key : List Choice) → Member key (noted_in a k p) → Found a k p key
found a zero p key h = absurd h
found a (suc k) [] key h = absurd h
found a (suc k) (n ∷ p) key h = elim (in_either key (noted_at a n) (noted_in (a ++ n.present ∷ []) k p) h) [
  | inl i ↦ found_at a k n p key i
  | inr i ↦ found_on a k n p key (found (a ++ n.present ∷ []) k p key i)
]

finds : (a : List Choice) (k : ℕ) (p : List Stored) (d : List Choice) (n : Stored) (o : Choice) → length d < k → node_at p d ≡ Some n → n.made.exploring ≡ true → is_thread n.made.default ≡ true
    → n.status o ≡ Pending → Among o n.made.options → Member ((a ++ d) ++ o ∷ []) (noted_in a k p)
unfolding node_at
finds a zero p d n o l at ex th pe am = absurd (omega arith)
finds a (suc k) [] d n o l at ex th pe am = absurd (cc at)
finds a (suc k) (x ∷ p) [] n o l at ex th pe am =
    let e : x ≡ n = cc at in
    in_front ((a ++ []) ++ o ∷ []) (noted_at a x) (noted_in (a ++ x.present ∷ []) k p)
    (subst (λ t. Member ((a ++ []) ++ o ∷ []) (noted_at a t)) (sym e)
    (subst (λ t. Member (t ++ o ∷ []) (noted_at a n)) (sym (append-nil a))
    (subst (λ v. Member (a ++ o ∷ []) (cond v (map (λ y. a ++ y ∷ []) (pending_of n.status n.made.options)) [])) (sym (true_both n.made.exploring (is_thread n.made.default) ex th))
    (of_key a (pending_of n.status n.made.options) o (is_pending_of n.status n.made.options o am pe)))))
finds a (suc k) (x ∷ p) (c ∷ d) n o l at ex th pe am =
    let z = node_in x p c d n at in
    let place : (a ++ x.present ∷ []) ++ d ≡ a ++ c ∷ d = append_assoc a (x.present ∷ []) d ∙ ap (λ t. a ++ t ∷ d) (sym z.0) in
    in_back ((a ++ c ∷ d) ++ o ∷ []) (noted_at a x) (noted_in (a ++ x.present ∷ []) k p)
    (subst (λ t. Member (t ++ o ∷ []) (noted_in (a ++ x.present ∷ []) k p)) place (finds (a ++ x.present ∷ []) k p d n o (omega arith) z.1 ex th pe am))

-- the list is what is noted below the floor
pub noted_is : (b e : List Choice) (p : List Stored) → choices p ≡ b ++ e → (k : List Choice) → Member k (noted_in [] (length b) p) → IsNotedIn b p k
noted_is b e p h k i = go (found [] (length b) p k i)
  where
    go : Found [] (length b) p k → IsNotedIn b p k
    go f = place (two_beginnings b e f.before f.node.present z.0 (sym h ∙ z.1))
      where
        z : (after : List Choice) × (choices p ≡ f.before ++ f.node.present ∷ after)
        z = node_chooses p f.before f.node f.stands

        place : TwoBeginnings b f.before f.node.present → IsNotedIn b p k
        place (within g j) = let l : length f.before ≡ length (b ++ g) = ap length j in let u = f.low in absurd (omega (arith, l, u, length-append b g))
        place (past g j) = record {
          before = f.before;
          option = f.option;
          node = f.node;
          splits = f.splits;
          low = (f.node.present, g, j);
          stands = f.stands;
          exploring = f.exploring;
          thread = f.thread;
          pending = f.pending;
        }

pub is_noted : (m : Machine) (b : List Choice) (p : List Stored) → IsResting m p → (k : List Choice) → IsNotedIn b p k → Member k (noted_in [] (length b) p)
is_noted m b p rest k i =
    subst (λ t. Member t (noted_in [] (length b) p)) (sym i.splits)
    (finds [] (length b) p i.before i.node i.option (below_length i.before b i.low) i.stands i.exploring i.thread i.pending
    ((rest.rest i.before i.node i.stands).closed i.option (λ e. let z = i.pending in cc (e, z))))

-- a step above the floor keeps the base
keeps_base : (b e : List Choice) (q next : List Stored) → choices q ≡ b ++ e → step_above (length b) q ≡ Some next → (f : List Choice) × (choices next ≡ b ++ f)
unfolding step_above
keeps_base [] e q next h s = (choices next, refl)
keeps_base (c ∷ b) e [] next h s = absurd (cc s)
keeps_base (c ∷ b) e (n ∷ q) next h s = go (step_above (length b) q) refl s (λ d t. keeps_base b e q d (cc h) t)
  where
    go : (x : Option (List Stored)) → step_above (length b) q ≡ x → elim x [ Some deeper ↦ Some (n ∷ deeper) | None ↦ None ] ≡ Some next
        → ((d : List Stored) → step_above (length b) q ≡ Some d → (f : List Choice) × (choices d ≡ b ++ f)) → (f : List Choice) × (choices next ≡ c ∷ b ++ f)
    go None t g ih = absurd (cc g)
    go (Some d) t g ih =
        let f : n ∷ d ≡ next = cc g in
        let first_choice : n.present ≡ c = cc h in
        let z = ih d t in
        (z.0, ap choices (sym f) ∙ ap (λ x. n.present ∷ x) z.1 ∙ ap (λ x. x ∷ b ++ z.0) first_choice)

-- a path at rest that begins with the base
record Stands (m : Machine) (b : List Choice) (p : List Stored) : Type 0 where
  resting : IsResting m p
  begins : (e : List Choice) × (choices p ≡ b ++ e)

after_stands : (m : Machine) → IsMachine m → (b : List Choice) (p : List Stored) → Stands m b p → Stands m b (after_run m p)
after_stands m w b p h =
    let a = after_run_is m w p in
    let y = h.begins in
    let z = goes_on m (choices p) (run_of m p) a.run in
    record {
      resting = after_resting m w p (after_run m p) (run_of m p) h.resting a;
      begins = (y.0 ++ z.0, a.whole ∙ z.1 ∙ ap (λ t. t ++ z.0) y.1 ∙ append_assoc b y.0 z.0);
    }

next_stands : (m : Machine) → IsMachine m → (b : List Choice) (p q : List Stored) → Stands m b p → step_above (length b) (after_run m p) ≡ Some q → Stands m b q
unfolding Steps
next_stands m w b p q h s = record { resting = go (steps_above (length b) (after_run m p) q s); begins = (let y = after.begins in keeps_base b y.0 (after_run m p) q y.1 s) }
  where
    after : Stands m b (after_run m p)
    after = after_stands m w b p h

    go : Steps (after_run m p) q → IsResting m q
    go (branch, n, o, t) = next_resting m w p (after_run m p) (run_of m p) (after_run_is m w p) after.resting q branch n o t

slice_stands : (m : Machine) → IsMachine m → (b : List Choice) (p : List Stored) → Stands m b p → (runs : List (List Choice)) (q : List Stored) → Slice m (length b) p runs q → Stands m b q
slice_stands m w b p h runs q (first _ s) = next_stands m w b p q h s
slice_stands m w b p h runs q (further list x _ t s) = next_stands m w b x q (slice_stands m w b p h list x t) s

-- what is noted before a run is noted after it
still_noted : (m : Machine) → IsMachine m → (b : List Choice) (q : List Stored) (k : List Choice) → IsNotedIn b q k → IsNotedIn b (after_run m q) k
still_noted m w b q k i =
    let a = after_run_is m w q in
    let r = run_of m q in
    record {
      before = i.before;
      option = i.option;
      node = mark m r (length i.before) i.node;
      splits = i.splits;
      low = i.low;
      stands = a.kept i.before i.node i.stands;
      exploring = i.exploring;
      thread = i.thread;
      pending = kept_pending (m.reduce && m.marks r (length i.before) i.option) (i.node.status i.option) i.pending;
    }

module _ (m : Machine) (w : IsMachine m) (made : List (List Choice)) (b : List Choice) (p : List Stored) (parts spent : List Part) (issued notes : List (List Choice))
    (s : Work m made (record { base = b; path = p } ∷ parts) spent issued notes) where
  start : Stands m b p
  start = let o = order_of m made (record { base = b; path = p } ∷ parts) spent issued notes w s (record { base = b; path = p }) (inl refl) in record { resting = o.resting; begins = o.begins }

  gathers_so_far : (q : List Stored) → Stands m b q → Gathers b q issued notes (noted_in [] (length b) q ++ notes)
  gathers_so_far q h = record {
    only = λ k j. elim (in_either k (noted_in [] (length b) q) notes j) [ inl i ↦ inr (let y = h.begins in noted_is b y.0 q y.1 k i) | inr i ↦ inl i ];
    old = λ k j. inl (in_back k (noted_in [] (length b) q) notes j);
    each = λ k i. inl (in_front k (noted_in [] (length b) q) notes (is_noted m b q h.resting k i));
  }

  -- gathered in the path that comes next, or in the one that the run left
  earlier : (q next : List Stored) → ((before : List Choice) → IsBelow before b → node_at next before ≡ node_at q before) → (before_notes more : List (List Choice)) → Gathers b next issued before_notes more
      → Gathers b q issued before_notes more
  earlier q next low before_notes more g = record {
    only = λ k j. elim (g.only k j) [ inl i ↦ inl i | inr i ↦ inr (noted_same b q next low k i) ];
    old = g.old;
    each = λ k i. g.each k (noted_same b next q (λ d l. sym (low d l)) k i);
  }

  -- what is gathered of a path after some runs, on top of what it had before the last one
  on_top : (q : List Stored) → Stands m b q → (more : List (List Choice)) → Gathers b (after_run m q) issued notes more → Gathers b (after_run m q) issued (noted_in [] (length b) q ++ notes) more
  on_top q h more g = record {
    only = λ k j. elim (g.only k j) [ inl i ↦ inl (in_back k (noted_in [] (length b) q) notes i) | inr i ↦ inr i ];
    old = λ k j. elim (in_either k (noted_in [] (length b) q) notes j) [ inl i ↦ g.each k (still_noted m w b q k (let y = h.begins in noted_is b y.0 q y.1 k i)) | inr i ↦ g.old k i ];
    each = g.each;
  }

  low : (q next : List Stored) → step_above (length b) q ≡ Some next → (before : List Choice) → IsBelow before b → node_at next before ≡ node_at q before
  low q next t before l = low_same (length b) q next t before (below_length before b l)

  slice_works : (runs : List (List Choice)) (q : List Stored) → Slice m (length b) p runs q → (more : List (List Choice)) → Gathers b q issued notes more
      → Work m (runs ++ made) (record { base = b; path = q } ∷ parts) spent issued more
  slice_works runs q (first _ t) more g = one_run made b p q parts spent issued notes more s t (earlier (after_run m p) q (low (after_run m p) q t) notes more g)
  slice_works runs q (further list x _ d t) more g =
      let h = slice_stands m w b p start list x d in
      one_run (list ++ made) b x q parts spent issued (noted_in [] (length b) x ++ notes) more
      (slice_works list x d (noted_in [] (length b) x ++ notes) (gathers_so_far x h)) t
      (on_top x h more (earlier (after_run m x) q (low (after_run m x) q t) notes more g))

  taken : (q : List Stored) (before : List Choice) → IsBelow before b → node_at (take (length b) q) before ≡ node_at q before
  taken q before l = take_same (length b) q before (below_length before b l)

  ended_works : (runs : List (List Choice)) (q : List Stored) → Ended m (length b) p runs q → (more : List (List Choice)) → Gathers b q issued notes more
      → Work m (runs ++ made) parts (record { base = b; path = q } ∷ spent) issued more
  ended_works runs q (at_once t) more g = last_run made b p parts spent issued notes more s t (earlier (after_run m p) (take (length b) (after_run m p)) (taken (after_run m p)) notes more g)
  ended_works runs q (after list x d t) more g =
      let h = slice_stands m w b p start list x d in
      last_run (list ++ made) b x parts spent issued (noted_in [] (length b) x ++ notes) more
      (slice_works list x d (noted_in [] (length b) x ++ notes) (gathers_so_far x h)) t
      (on_top x h more (earlier (after_run m x) (take (length b) (after_run m x)) (taken (after_run m x)) notes more g))

pub slice_law : SliceLaw
slice_law m made runs b p q parts spent issued notes more w s g = (
  (λ d. slice_works m w made b p parts spent issued notes s runs q d more g),
  λ d. ended_works m w made b p parts spent issued notes s runs q d more g,
)

-- a path that some runs of a part have left begins with the part's base
pub left_begins : (m : Machine) (w : IsMachine m) (made : List (List Choice)) (b : List Choice) (p : List Stored) (parts spent : List Part) (issued notes : List (List Choice))
    → Work m made (record { base = b; path = p } ∷ parts) spent issued notes → (runs : List (List Choice)) (q : List Stored) → Slice m (length b) p runs q → (e : List Choice) × (choices q ≡ b ++ e)
left_begins m w made b p parts spent issued notes s runs q d = (slice_stands m w b p (start m w made b p parts spent issued notes s) runs q d).begins

pub done_begins : (m : Machine) (w : IsMachine m) (made : List (List Choice)) (b : List Choice) (p : List Stored) (parts spent : List Part) (issued notes : List (List Choice))
    → Work m made (record { base = b; path = p } ∷ parts) spent issued notes → (runs : List (List Choice)) (q : List Stored) → Ended m (length b) p runs q → (e : List Choice) × (choices q ≡ b ++ e)
done_begins m w made b p parts spent issued notes s runs q (at_once t) =
    let y = (after_stands m w b p (start m w made b p parts spent issued notes s)).begins in ([], take_begins b y.0 (after_run m p) y.1)
done_begins m w made b p parts spent issued notes s runs q (after list x d t) =
    let y = (after_stands m w b x (slice_stands m w b p (start m w made b p parts spent issued notes s) list x d)).begins in ([], take_begins b y.0 (after_run m x) y.1)
