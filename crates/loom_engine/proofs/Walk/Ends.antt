-- A walk ends: each round adds one to the number of tried options at a node, and drops only what is behind it.
use Rattle.std.proofs.Common.{◌≡◌, ◌⊎◌, ℕ, zero, suc, ◌+◌, ◌*◌, ◌^◌, ◌<◌, ◌≤◌, Bool, true, false, ◌&&◌, List, [], ◌∷◌, ◌++◌, length, Option, Some, None, refl, ap, ap₂, sym, ◌∙◌, subst, inl, inr, arith, length-append, mul-le-mul_right, pow-suc, mul_comm}
use native.Mathlib.Decide.{dec_le}
use Rattle.loom_objects.specs.declared.choice.Choice.{Choice}
use Rattle.loom_objects.specs.Tree.Question.{Made, Among}
use Rattle.loom_engine.specs.Walk.Machine.{Machine, run}
use Rattle.loom_engine.specs.Walk.Sound.{IsMachine}
use Rattle.loom_engine.specs.Walk.Path.{Status, Closed, Skip, Pending, Active, Visited, Stored, choices, IsAtRest, IsResting, node_at, step, next, after_run, new_nodes, fresh, first_status, mark, mark_all, choose, advance}
use Rattle.loom_engine.specs.Walk.Walks.{run_of, Completes, last_round, one_round, Rounds, stay, go_on, LeavesRest, visited_in, digits, progress, EndsLaw}
use Rattle.loom_engine.proofs.Walk.Lists.{node_on}
use Rattle.loom_engine.proofs.Walk.Statuses.{was_visited, kept_visited, goes_to_pending, first_is_pending, FirstStatus, is_default, is_pending, is_skipped, is_closed, fresh_cases, Chosen, was_present, is_next, is_other, chosen_cases}
use Rattle.loom_engine.proofs.Walk.After.{after_run_is}
use Rattle.loom_engine.proofs.Walk.Resting.{after_resting}
use Rattle.loom_engine.proofs.Walk.Stepping.{Steps, step_some}
use Rattle.loom_engine.proofs.Walk.Round.{round_law}

pub visited_most : (s : Choice → Status) (os : List Choice) → visited_in s os ≤ length os
visited_most s [] = omega arith
visited_most s (o ∷ os) = go (s o) (visited_most s os)
  where
    go : (t : Status) → visited_in s os ≤ length os → (elim t [ Visited ↦ suc (visited_in s os) | _ ↦ visited_in s os ]) ≤ suc (length os)
    go Visited h = omega arith
    go Closed h = omega arith
    go Skip h = omega arith
    go Pending h = omega arith
    go Active h = omega arith

visited_same : (s t : Choice → Status) (os : List Choice) → ((o : Choice) → s o ≡ Visited → t o ≡ Visited) → ((o : Choice) → t o ≡ Visited → s o ≡ Visited) → visited_in s os ≡ visited_in t os
visited_same s t [] h g = refl
visited_same s t (o ∷ os) h g = go (s o) (t o) (h o) (g o) (visited_same s t os h g)
  where
    go : (x y : Status) → (x ≡ Visited → y ≡ Visited) → (y ≡ Visited → x ≡ Visited) → visited_in s os ≡ visited_in t os
        → ◌≡◌ {A = ℕ} (elim x [ Visited ↦ suc (visited_in s os) | _ ↦ visited_in s os ]) (elim y [ Visited ↦ suc (visited_in t os) | _ ↦ visited_in t os ])
    go Visited Visited a b e = ap suc e
    go Visited Closed a b e = absurd (cc (a refl))
    go Visited Skip a b e = absurd (cc (a refl))
    go Visited Pending a b e = absurd (cc (a refl))
    go Visited Active a b e = absurd (cc (a refl))
    go Closed Visited a b e = absurd (cc (b refl))
    go Skip Visited a b e = absurd (cc (b refl))
    go Pending Visited a b e = absurd (cc (b refl))
    go Active Visited a b e = absurd (cc (b refl))
    go Closed Closed a b e = e
    go Closed Skip a b e = e
    go Closed Pending a b e = e
    go Closed Active a b e = e
    go Skip Closed a b e = e
    go Skip Skip a b e = e
    go Skip Pending a b e = e
    go Skip Active a b e = e
    go Pending Closed a b e = e
    go Pending Skip a b e = e
    go Pending Pending a b e = e
    go Pending Active a b e = e
    go Active Closed a b e = e
    go Active Skip a b e = e
    go Active Pending a b e = e
    go Active Active a b e = e

-- one more is visited, and none less
visited_grows : (s t : Choice → Status) (os : List Choice) → ((o : Choice) → s o ≡ Visited → t o ≡ Visited) → visited_in s os ≤ visited_in t os
visited_grows s t [] h = omega arith
visited_grows s t (o ∷ os) h = go (s o) (t o) (h o) (visited_grows s t os h)
  where
    other : (y : Status) → visited_in s os ≤ visited_in t os → visited_in s os ≤ (elim y [ Visited ↦ suc (visited_in t os) | _ ↦ visited_in t os ])
    other Visited e = omega arith
    other Closed e = e
    other Skip e = e
    other Pending e = e
    other Active e = e

    go : (x y : Status) → (x ≡ Visited → y ≡ Visited) → visited_in s os ≤ visited_in t os
        → (elim x [ Visited ↦ suc (visited_in s os) | _ ↦ visited_in s os ]) ≤ (elim y [ Visited ↦ suc (visited_in t os) | _ ↦ visited_in t os ])
    go Visited Visited a e = omega arith
    go Visited Closed a e = absurd (cc (a refl))
    go Visited Skip a e = absurd (cc (a refl))
    go Visited Pending a e = absurd (cc (a refl))
    go Visited Active a e = absurd (cc (a refl))
    go Closed y a e = other y e
    go Skip y a e = other y e
    go Pending y a e = other y e
    go Active y a e = other y e

pub visited_more : (s t : Choice → Status) (os : List Choice) (c : Choice) → ((o : Choice) → s o ≡ Visited → t o ≡ Visited) → Among c os → s c ≡ Active → t c ≡ Visited
    → visited_in s os < visited_in t os
visited_more s t [] c h am a v = elim am [ ]
visited_more s t (o ∷ os) c h (inl e) a v = at (ap s (sym e) ∙ a) (ap t (sym e) ∙ v) (visited_grows s t os h)
  where
    at : s o ≡ Active → t o ≡ Visited → visited_in s os ≤ visited_in t os → visited_in s (o ∷ os) < visited_in t (o ∷ os)
    at a v g = rw (a, v, visited_in) (omega arith)
visited_more s t (o ∷ os) c h (inr k) a v = go (s o) (t o) (h o) (visited_more s t os c h k a v)
  where
    other : (y : Status) → visited_in s os < visited_in t os → visited_in s os < (elim y [ Visited ↦ suc (visited_in t os) | _ ↦ visited_in t os ])
    other Visited e = omega arith
    other Closed e = e
    other Skip e = e
    other Pending e = e
    other Active e = e

    go : (x y : Status) → (x ≡ Visited → y ≡ Visited) → visited_in s os < visited_in t os
        → (elim x [ Visited ↦ suc (visited_in s os) | _ ↦ visited_in s os ]) < (elim y [ Visited ↦ suc (visited_in t os) | _ ↦ visited_in t os ])
    go Visited Visited a e = omega arith
    go Visited Closed a e = absurd (cc (a refl))
    go Visited Skip a e = absurd (cc (a refl))
    go Visited Pending a e = absurd (cc (a refl))
    go Visited Active a e = absurd (cc (a refl))
    go Closed y a e = other y e
    go Skip y a e = other y e
    go Pending y a e = other y e
    go Active y a e = other y e

AreFew : List Stored → Type 0
AreFew p = (before : List Choice) (n : Stored) → node_at p before ≡ Some n → length n.made.options ≤ 7

few_on : (n : Stored) (p : List Stored) → AreFew (n ∷ p) → AreFew p
unfolding AreFew
few_on n p h before x g = h (n.present ∷ before) x (node_on n p n.present before refl ∙ g)

few_first : (n : Stored) (p : List Stored) → AreFew (n ∷ p) → length n.made.options ≤ 7
unfolding AreFew node_at
few_first n p h = h [] n refl

digit_less : (a b w x : ℕ) → a < b → x < w → a * w + x < b * w
digit_less a b w x h g = omega (arith, mul-le-mul_right w h)

eight_more : (k : ℕ) → 8 ^ suc k ≡ 8 * 8 ^ k
eight_more k = pow-suc 8 k ∙ mul_comm (8 ^ k) 8

eight_pos : (k : ℕ) → 0 < 8 ^ k
eight_pos zero = omega arith
eight_pos (suc k) = omega (arith, eight_more k, eight_pos k)

below_all : (k : ℕ) (p : List Stored) → AreFew p → digits k p < 8 ^ k
unfolding digits
below_all zero p h = omega arith
below_all (suc k) [] h = eight_pos (suc k)
below_all (suc k) (n ∷ p) h =
    let first = few_first n p h in
    let less = digit_less (visited_in n.status n.made.options) 8 (8 ^ k) (digits k p) (omega (arith, visited_most n.status n.made.options)) (below_all k p (few_on n p h)) in
    omega (arith, less, eight_more k)

no_digits : (k : ℕ) → digits k [] ≡ 0
unfolding digits
no_digits zero = refl
no_digits (suc k) = refl

digits_mark : (m : Machine) (r : List Choice) (i k : ℕ) (p : List Stored) → digits k (mark_all m r i p) ≡ digits k p
unfolding digits
digits_mark m r i zero p = refl
digits_mark m r i (suc k) [] = refl
digits_mark m r i (suc k) (n ∷ p) =
    let b : Choice → Bool = λ o. m.reduce && m.marks r i o in
    ap₂ (λ x y. x * 8 ^ k + y)
    (sym (visited_same n.status (mark m r i n).status n.made.options (λ o h. kept_visited (b o) (n.status o) h) (λ o h. was_visited (b o) (n.status o) h)))
    (digits_mark m r (suc i) k p)

-- a new node has tried nothing
fresh_visited : (every : Bool) (n : Made) (os : List Choice) → visited_in (first_status every n) os ≡ 0
fresh_visited every n [] = refl
fresh_visited every n (o ∷ os) = go (first_status every n o) (fresh_cases every n o) (fresh_visited every n os)
  where
    go : (s : Status) → FirstStatus every n o s → visited_in (first_status every n) os ≡ 0
        → ◌≡◌ {A = ℕ} (elim s [ Visited ↦ suc (visited_in (first_status every n) os) | _ ↦ visited_in (first_status every n) os ]) 0
    go Visited (is_default e f) h = absurd (cc f)
    go Visited (is_pending nd am ev f) h = absurd (cc f)
    go Visited (is_skipped nd am ev f) h = absurd (cc f)
    go Visited (is_closed nd na f) h = absurd (cc f)
    go Closed c h = h
    go Skip c h = h
    go Pending c h = h
    go Active c h = h

digits_new : (m : Machine) (fuel k : ℕ) (c : List Choice) → digits k (new_nodes m fuel c) ≡ 0
unfolding digits new_nodes
digits_new m zero k c = no_digits k
digits_new m (suc fuel) k c = go k (m.node c) (λ j d. digits_new m fuel j (c ++ d ∷ []))
  where
    go : (k : ℕ) (x : Option Made) → ((j : ℕ) (d : Choice) → digits j (new_nodes m fuel (c ++ d ∷ [])) ≡ 0)
        → digits k (elim x [ None ↦ [] | Some n ↦ fresh (m.every c) n ∷ new_nodes m fuel (c ++ n.default ∷ []) ]) ≡ 0
    go k None ih = no_digits k
    go zero (Some n) ih = refl
    go (suc k) (Some n) ih = rw (fresh_visited (m.every c) n n.options, ih k n.default) (omega arith)

digits_append : (k : ℕ) (p q : List Stored) → ((j : ℕ) → digits j q ≡ 0) → digits k (p ++ q) ≡ digits k p
unfolding digits
digits_append zero p q h = refl
digits_append (suc k) [] q h = h (suc k)
digits_append (suc k) (n ∷ p) q h = ap (λ y. visited_in n.status n.made.options * 8 ^ k + y) (digits_append k p q h)

after_progress : (m : Machine) (p : List Stored) → progress m (after_run m p) ≡ progress m p
after_progress m p =
    digits_mark m (run m (choices p)) zero m.limit (p ++ new_nodes m m.limit (choices p))
    ∙ digits_append m.limit p (new_nodes m m.limit (choices p)) (λ j. digits_new m m.limit j (choices p))

AreAtRest : List Stored → Type 0
AreAtRest p = (before : List Choice) (n : Stored) → node_at p before ≡ Some n → IsAtRest n

rest_on : (n : Stored) (p : List Stored) → AreAtRest (n ∷ p) → AreAtRest p
unfolding AreAtRest
rest_on n p h before x g = h (n.present ∷ before) x (node_on n p n.present before refl ∙ g)

rest_first : (n : Stored) (p : List Stored) → AreAtRest (n ∷ p) → IsAtRest n
unfolding AreAtRest node_at
rest_first n p h = h [] n refl

advance_more : (n later : Stored) → IsAtRest n → advance n ≡ Some later → visited_in n.status n.made.options < visited_in later.status later.made.options
advance_more n later w h =
    let z = goes_to_pending n later h in
    go z.0 z.1 (first_is_pending n.status n.made.options z.0 z.3).0
  where
    kept : (o c : Choice) → n.status o ≡ Pending → n.status c ≡ Visited → Chosen n o c ((choose n o).status c) → (choose n o).status c ≡ Visited
    kept o c p v (was_present e f) = f
    kept o c p v (is_next ne e f) = absurd (cc (p, v, ap n.status e))
    kept o c p v (is_other ne no_ f) = f ∙ v

    taken : (o : Choice) → Chosen n o n.present ((choose n o).status n.present) → (choose n o).status n.present ≡ Visited
    taken o (was_present e f) = f
    taken o (is_next ne e f) = absurd (ne refl)
    taken o (is_other ne no_ f) = absurd (ne refl)

    go : (o : Choice) → later ≡ choose n o → n.status o ≡ Pending → visited_in n.status n.made.options < visited_in later.status later.made.options
    go o e p =
        subst (λ (y : Stored). visited_in n.status n.made.options < visited_in y.status y.made.options) (sym e)
        (visited_more n.status (choose n o).status n.made.options n.present (λ c v. kept o c p v (chosen_cases n o c))
        (w.closed n.present (λ g. cc (g, w.active))) w.active (taken o (chosen_cases n o n.present)))

step_more : (k : ℕ) (q next : List Stored) → AreFew q → AreAtRest q → step q ≡ Some next → length next ≤ k → digits k q < digits k next
unfolding digits step
step_more k [] next few rest h le = absurd (cc h)
step_more k (n ∷ q) next few rest h le = go (step q) (advance n) refl refl h (λ j d e g. step_more j q d (few_on n q few) (rest_on n q rest) e g)
  where
    deeper_more : (j : ℕ) (d : List Stored) → length (n ∷ d) ≤ j → ((i : ℕ) → length d ≤ i → digits i q < digits i d) → digits j (n ∷ q) < digits j (n ∷ d)
    deeper_more zero d g ih = absurd (omega arith)
    deeper_more (suc j) d g ih = omega (arith, ih j (omega arith))

    here_more : (j : ℕ) (x : Stored) → length (x ∷ []) ≤ j → visited_in n.status n.made.options < visited_in x.status x.made.options → digits j (n ∷ q) < digits j (x ∷ [])
    here_more zero x g v = absurd (omega arith)
    here_more (suc j) x g v =
        omega (arith, no_digits j, digit_less (visited_in n.status n.made.options) (visited_in x.status x.made.options) (8 ^ j) (digits j q) v (below_all j q (few_on n q few)))

    go : (s : Option (List Stored)) (a : Option Stored) → step q ≡ s → advance n ≡ a
        → (◌≡◌ {A = Option (List Stored)} (elim s [ Some deeper ↦ Some (n ∷ deeper) | None ↦ elim a [ None ↦ None | Some next ↦ Some (next ∷ []) ] ]) (Some next))
        → ((j : ℕ) (d : List Stored) → step q ≡ Some d → length d ≤ j → digits j q < digits j d) → digits k (n ∷ q) < digits k next
    go (Some d) a e f h ih =
        let g : n ∷ d ≡ next = cc h in
        subst (λ t. digits k (n ∷ q) < digits k t) g (deeper_more k d (subst (λ t. length t ≤ k) (sym g) le) (λ i l. ih i d e l))
    go None (Some x) e f h ih =
        let g : x ∷ [] ≡ next = cc h in
        subst (λ t. digits k (n ∷ q) < digits k t) g (here_more k x (subst (λ t. length t ≤ k) (sym g) le) (advance_more n x (rest_first n q rest) f))
    go None None e f h ih = absurd (cc h)

few_of : (m : Machine) → IsMachine m → (p : List Stored) → IsResting m p → AreFew p
unfolding AreFew
few_of m w p rest before n h = w.few before n.made (rest.meets before n h)

length_choices : (p : List Stored) → length (choices p) ≡ length p
length_choices [] = refl
length_choices (n ∷ p) = ap suc (length_choices p)

not_too_long : (m : Machine) → IsMachine m → (q later : List Stored) → IsResting m q → Steps q later → length later ≤ m.limit
unfolding Steps
not_too_long m w q later rest (branch, n, o, s) = go (dec_le (length later) m.limit)
  where
    long : length later ≡ suc (length branch)
    long = sym (length_choices later) ∙ (ap length s.chosen ∙ (length-append branch (o ∷ []) ∙ omega arith))

    go : Dec (length later ≤ m.limit) → length later ≤ m.limit
    go (yes h) = h
    go (no f) = absurd (cc (rest.meets branch n s.at, w.ends branch (omega (arith, long))))

makes_progress : (m : Machine) → IsMachine m → (p later : List Stored) → IsResting m p → next m p ≡ Some later → progress m p < progress m later
unfolding AreAtRest
makes_progress m w p later rest h =
    let q = after_run m p in
    let after = after_resting m w p q (run_of m p) rest (after_run_is m w p) in
    let more = step_more m.limit q later (few_of m w q after) after.rest h (not_too_long m w q later after (step_some q later h)) in
    omega (arith, more, after_progress m p)

comes_to_an_end : (m : Machine) → IsMachine m → (fuel : ℕ) (p : List Stored) → IsResting m p → 8 ^ m.limit ≤ fuel + progress m p
    → ((list : List (List Choice)) × Completes m p list) ⊎ ((list : List (List Choice)) × (p' : List Stored) × Rounds m p list p' × (m.fails (run_of m p') ≡ true))
comes_to_an_end m w zero p rest h = absurd (omega (arith, below_all m.limit p (few_of m w p rest)))
comes_to_an_end m w (suc fuel) p rest h = go (m.fails (run_of m p)) (next m p) refl refl (λ q r g. comes_to_an_end m w fuel q r g)
  where
    Ends : List Stored → Type 0
    Ends p = ((list : List (List Choice)) × Completes m p list) ⊎ ((list : List (List Choice)) × (p' : List Stored) × Rounds m p list p' × (m.fails (run_of m p') ≡ true))

    first : (later : List Stored) → m.fails (run_of m p) ≡ false → next m p ≡ Some later → Ends later → Ends p
    first later f e (inl z) = inl (run_of m p ∷ z.0, one_round p later z.0 f e z.1)
    first later f e (inr z) = inr (run_of m p ∷ z.0, z.1, go_on p later z.1 z.0 f e z.2, z.3)

    go : (f : Bool) (x : Option (List Stored)) → m.fails (run_of m p) ≡ f → next m p ≡ x → ((q : List Stored) → IsResting m q → 8 ^ m.limit ≤ fuel + progress m q → Ends q) → Ends p
    go true x e g ih = inr ([], p, stay p, e)
    go false None e g ih = inl (run_of m p ∷ [], last_round p e g)
    go false (Some later) e g ih =
        let law : LeavesRest m p (Some later) = subst (λ u. LeavesRest m p u) g (round_law m p w rest) in
        first later e g (ih later law.0 (omega (arith, makes_progress m w p later rest g)))

pub ends_law : EndsLaw
ends_law m p w rest =
    (below_all m.limit p (few_of m w p rest), (λ p' h. makes_progress m w p p' rest h), comes_to_an_end m w (8 ^ m.limit) p rest (omega arith))
