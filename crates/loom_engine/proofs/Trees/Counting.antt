-- Preemptions are counted along a run, and which runs are reachable.
use Rattle.std.proofs.Common.{◌≡◌, ◌≢◌, ◌⊎◌, ℕ, zero, suc, ◌<◌, ◌≤◌, Bool, true, false, ◌&&◌, ◌||◌, not, List, [], ◌∷◌, ◌++◌, length, Option, Some, None, refl, ap, sym, ◌∙◌, subst, inl, inr, arith, append_assoc}
use Rattle.std.specs.Prelude.{slice_get, cond, nat_lt, IsSomeAnd, Result, Ok, Err}
use Rattle.std.proofs.lemmas.Option.{slice_get_within}
use Rattle.loom_objects.specs.declared.choice.Choice.{Choice}
use Rattle.loom_objects.specs.Tree.Question.{Made, Among, Question, made_of}
use Rattle.loom_engine.specs.Walk.Machine.{Machine, is_thread}
use Rattle.loom_engine.specs.Walk.Choices.{among, pick}
use Rattle.loom_engine.specs.Walk.Walks.{ExploresAll}
use Rattle.loom_engine.specs.Walk.Bound.{IsCount}
use Rattle.loom_engine.proofs.Walk.Lists.{pick_same}
use Rattle.loom_engine.proofs.Walk.Bound.{bound_law as walk_bound}
use Rattle.loom_engine.proofs.Walk.EveryRun.{every_run_law as walk_every}
use Rattle.loom_views.specs.declared.rt.failure.FailureKind.{FailureKind}
use Rattle.loom_views.specs.declared.rt.failure.FailureKind.TheVariants.{TooManyBranches}
use Rattle.loom_objects.specs.Tree.Tree.{Tree, Gives, Fails, Closes, Asks}
use Rattle.loom_engine.specs.Trees.Outcomes.{met, outcome, passed}
use Rattle.loom_engine.specs.Trees.Sound.{IsQuiet, IsSoundTree}
use Rattle.loom_engine.specs.Trees.Meeting.{Settings, Tally, start, is_last, preempts, tally_thread, tally_one, tally, count, is_below, every_at, every_met, Marking, front_of, marked_too, marks_of, no_marks, machine_of}
use Rattle.loom_engine.specs.Trees.Machines.{IsMarking, IsMarkingBelow, BoundLaw, EveryRunLaw}
use Rattle.loom_engine.specs.Trees.Exploring.{ExploresTree}
use Rattle.loom_engine.proofs.Trees.Machines.{machine_law}
use Rattle.loom_engine.proofs.Trees.Checking.{allowed_by}

-- ---- one node more

pub tally_more : (t : Tally) (passes : List (Made × Choice)) (pass : Made × Choice) → tally t (passes ++ pass ∷ []) ≡ tally_one (tally t passes) pass
tally_more t [] pass = refl
tally_more t (x ∷ passes) pass = tally_more (tally_one t x) passes pass

one_default : (t : Tally) (thread : Bool) (d : Choice) → (cond thread (tally_thread t d d) t).next ≤ t.next
one_default t false d = omega arith
one_default t true d = go (preempts t.last d d) (pick_same d false (is_last t.last d))
  where
    go : (b : Bool) → b ≡ false → cond b (suc t.next) t.next ≤ t.next
    go true e = absurd (cc e)
    go false e = omega arith

one_value : (t : Tally) (thread : Bool) (d x : Choice) → thread ≡ false → (cond thread (tally_thread t d x) t).next ≤ t.next
one_value t true d x e = absurd (cc e)
one_value t false d x e = omega arith

one_thread : (t : Tally) (thread : Bool) (d x : Choice) → (cond thread (tally_thread t d x) t).next ≤ suc t.next
one_thread t false d x = omega arith
one_thread t true d x = go (preempts t.last d x)
  where
    go : (b : Bool) → cond b (suc t.next) t.next ≤ suc t.next
    go true = omega arith
    go false = omega arith

module _ {A : Type 0} where
  none_passed : (tree : Tree A) → passed tree [] ≡ []
  none_passed (Gives value) = refl
  none_passed (Fails failure) = refl
  none_passed (Closes rest) = refl
  none_passed (Asks question branches) = refl

  one_passed : (tree : Tree A) (room : ℕ) (c : List Choice) (n : Made) (x : Choice) → met room tree c ≡ Some n → passed tree (c ++ x ∷ []) ≡ passed tree c ++ (n, x) ∷ []
  one_passed (Gives value) room c n x h = absurd (cc h)
  one_passed (Fails failure) room c n x h = absurd (cc h)
  one_passed (Closes rest) room c n x h = absurd (cc h)
  one_passed (Asks question branches) zero c n x h = absurd (cc h)
  one_passed (Asks question branches) (suc room) [] n x h =
      let e : made_of question ≡ n = cc h in
      ap (λ l. (made_of question, x) ∷ l) (none_passed (branches x)) ∙ ap (λ (y : Made). (y, x) ∷ []) e
  one_passed (Asks question branches) (suc room) (y ∷ c) n x h = go (among y (made_of question).options) h (λ e. one_passed (branches y) room c n x e)
    where
      go : (d : Dec (Among y (made_of question).options)) → pick d (met room (branches y) c) None ≡ Some n
          → (met room (branches y) c ≡ Some n → passed (branches y) (c ++ x ∷ []) ≡ passed (branches y) c ++ (n, x) ∷ [])
          → (made_of question, y) ∷ passed (branches y) (c ++ x ∷ []) ≡ (made_of question, y) ∷ (passed (branches y) c ++ (n, x) ∷ [])
      go (yes a) e ih = ap (λ l. (made_of question, y) ∷ l) (ih e)
      go (no f) e ih = absurd (cc e)

  front_passed : (tree : Tree A) (before : List Choice) (x : Choice) (after : List Choice) → front_of (length before) (passed tree (before ++ x ∷ after)) ≡ passed tree before
  front_passed (Gives value) [] x after = refl
  front_passed (Gives value) (y ∷ before) x after = refl
  front_passed (Fails failure) [] x after = refl
  front_passed (Fails failure) (y ∷ before) x after = refl
  front_passed (Closes rest) [] x after = refl
  front_passed (Closes rest) (y ∷ before) x after = refl
  front_passed (Asks question branches) [] x after = refl
  front_passed (Asks question branches) (y ∷ before) x after = ap (λ l. (made_of question, y) ∷ l) (front_passed (branches y) before x after)

front_more : (k : ℕ) (passes more : List (Made × Choice)) → k < length passes → front_of k (passes ++ more) ≡ front_of k passes
front_more zero passes more h = refl
front_more (suc k) [] more h = absurd (omega arith)
front_more (suc k) (pass ∷ passes) more h = ap (λ l. pass ∷ l) (front_more k passes more (omega arith))

made_early : (adds : Marking) → IsMarking adds → (passes : List (Made × Choice)) (question : Question) (k : ℕ) (o : Choice) → adds passes question k o ≡ true → k < length passes
made_early adds fair passes question k o h = go (slice_get passes k) refl (fair passes question k o h)
  where
    go : (x : Option (Made × Choice)) → slice_get passes k ≡ x → IsSomeAnd x (λ pass. pass.0.exploring ≡ true) → k < length passes
    go None e f = absurd f
    go (Some pass) e f = slice_get_within passes k pass e

either_true : (a b : Bool) → (a || b) ≡ true → (a ≡ true) ⊎ (b ≡ true)
either_true true b h = inl refl
either_true false b h = inr h

module _ (adds : Marking) (fair : IsMarking adds) (bound : ℕ) (below : IsMarkingBelow bound adds) where
  now_below : (question : Question) (passes more : List (Made × Choice)) (k : ℕ) (o : Choice) → adds passes question k o ≡ true → count (front_of k (passes ++ more)) ≢ bound
  now_below question passes more k o h = λ e. below passes question k o h (ap count (sym (front_more k passes more (made_early adds fair passes question k o h))) ∙ e)

  module _ {A : Type 0} where
    marks_below : (tree : Tree A) (marks : ℕ → Choice → Bool) (passes : List (Made × Choice)) (c : List Choice) (k : ℕ) (o : Choice)
        → marks_of adds marks passes tree c k o ≡ true → (marks k o ≡ true) ⊎ (count (front_of k (passes ++ passed tree c)) ≢ bound)
    marks_below (Gives value) marks passes c k o h = inl h
    marks_below (Fails failure) marks passes c k o h = inl h
    marks_below (Closes rest) marks passes c k o h = inl h
    marks_below (Asks question branches) marks passes [] k o h = elim (either_true (adds passes question k o) (marks k o) h) [
      | inl e ↦ inr (now_below question passes [] k o e)
      | inr e ↦ inl e
    ]
    marks_below (Asks question branches) marks passes (x ∷ c) k o h =
        go (marks_below (branches x) (marked_too (adds passes question) marks) (passes ++ (made_of question, x) ∷ []) c k o h)
      where
        go : (marked_too (adds passes question) marks k o ≡ true) ⊎ (count (front_of k ((passes ++ (made_of question, x) ∷ []) ++ passed (branches x) c)) ≢ bound)
            → (marks k o ≡ true) ⊎ (count (front_of k (passes ++ (made_of question, x) ∷ passed (branches x) c)) ≢ bound)
        go (inl e) = elim (either_true (adds passes question k o) (marks k o) e) [
          | inl f ↦ inr (now_below question passes ((made_of question, x) ∷ passed (branches x) c) k o f)
          | inr f ↦ inl f
        ]
        go (inr e) = inr (subst (λ l. count (front_of k l) ≢ bound) (append_assoc passes ((made_of question, x) ∷ []) (passed (branches x) c)) e)

below_by : (thread reduce exploring below : Bool) → cond thread (not reduce && exploring && below) true ≡ true → thread ≡ true → below ≡ true
below_by false reduce exploring below h e = absurd (cc e)
below_by true true exploring below h e = absurd (cc h)
below_by true false false below h e = absurd (cc h)
below_by true false true below h e = h

below_bound : (o : Option ℕ) (bound n : ℕ) → o ≡ Some bound → is_below o n ≡ true → n < bound
below_bound None bound n e h = absurd (cc e)
below_bound (Some b) bound n e h = (let f : b ≡ bound = cc e in let g : nat_lt n b ≡ true = h in grind arith)

every_below : (s : Settings) (passes : List (Made × Choice)) (o : Option Made) (n : Made) (bound : ℕ) → s.bound ≡ Some bound → o ≡ Some n → is_thread n.default ≡ true → every_met s passes o ≡ true → count passes < bound
every_below s passes None n bound b e f h = absurd (cc e)
every_below s passes (Some k) n bound b e f h =
    let same_node : k ≡ n = cc e in
    let g : every_at s passes n ≡ true = subst (λ (x : Made). every_at s passes x ≡ true) same_node h in
    below_bound s.bound bound (count passes) b (below_by (is_thread n.default) s.reduce n.exploring (is_below s.bound (count passes)) g f)

pub every_by : (thread reduce exploring below : Bool) → reduce ≡ false → exploring ≡ true → below ≡ true → cond thread (not reduce && exploring && below) true ≡ true
every_by true reduce exploring below e f g = rw (e, f, g) refl
every_by false reduce exploring below e f g = refl

unbounded : (o : Option ℕ) (n : ℕ) → o ≡ None → is_below o n ≡ true
unbounded None n e = refl
unbounded (Some b) n e = absurd (cc e)

every_met_by : (s : Settings) (passes : List (Made × Choice)) (o : Option Made) (n : Made) → s.reduce ≡ false → s.bound ≡ None → n.exploring ≡ true → o ≡ Some n → every_met s passes o ≡ true
every_met_by s passes None n r b x e = absurd (cc e)
every_met_by s passes (Some k) n r b x e =
    let same_node : n ≡ k = cc e in
    subst (λ (y : Made). every_at s passes y ≡ true) same_node (every_by (is_thread n.default) s.reduce n.exploring (is_below s.bound (count passes)) r x (unbounded s.bound (count passes) b))

module _ {A : Type 0} where
  pub is_count : (s : Settings) (adds : Marking) (tree : Tree A) (bound : ℕ) → IsMarking adds → s.bound ≡ Some bound → IsMarkingBelow bound adds
      → IsCount (machine_of s adds tree) (λ c. count (passed tree c)) bound
  is_count s adds tree bound fair b below = record {
    start = ap count (none_passed tree);
    by_default = λ c n h. let t = tally start (passed tree c) in let e = grown c n n.default h in omega (arith, e, one_default t (is_thread n.default) n.default);
    by_value = λ c n o h f. let t = tally start (passed tree c) in let e = grown c n o h in omega (arith, e, one_value t (is_thread n.default) n.default o f);
    by_thread = λ c n o h. let t = tally start (passed tree c) in let e = grown c n o h in omega (arith, e, one_thread t (is_thread n.default) n.default o);
    below = λ c n h f g. every_below s (passed tree c) (met s.max_branches tree c) n bound b h f g;
    marked = λ before x after o h. not_bound before x after o h;
  }
    where
      grown : (c : List Choice) (n : Made) (x : Choice) → met s.max_branches tree c ≡ Some n → count (passed tree (c ++ x ∷ [])) ≡ (tally_one (tally start (passed tree c)) (n, x)).next
      grown c n x h = ap count (one_passed tree s.max_branches c n x h) ∙ ap (λ (y : Tally). y.next) (tally_more start (passed tree c) (n, x))

      not_bound : (before : List Choice) (x : Choice) (after : List Choice) (o : Choice) → marks_of adds no_marks [] tree (before ++ x ∷ after) (length before) o ≡ true → count (passed tree before) ≢ bound
      not_bound before x after o h = elim (marks_below adds fair bound below tree no_marks [] (before ++ x ∷ after) (length before) o h) [
        | inl e ↦ absurd (cc e)
        | inr e ↦ λ f. e (ap count (front_passed tree before x after) ∙ f)
      ]

  pub bound_law : BoundLaw A
  bound_law s adds tree bound sound fair b below x h before rest e =
      walk_bound (machine_of s adds tree) (λ c. count (passed tree c)) bound (machine_law s adds tree sound fair) (is_count s adds tree bound fair b below) x h before rest e

  -- ---- every run

  met_explores : (tree : Tree A) (room : ℕ) (c : List Choice) (n : Made) → ExploresTree tree → met room tree c ≡ Some n → n.exploring ≡ true
  met_explores (Gives value) room c n k h = absurd (cc h)
  met_explores (Fails failure) room c n k h = absurd (cc h)
  met_explores (Closes rest) room c n k h = absurd (cc h)
  met_explores (Asks question branches) zero c n k h = absurd (cc h)
  met_explores (Asks question branches) (suc room) [] n k h = (let e : made_of question ≡ n = cc h in subst (λ (y : Made). y.exploring ≡ true) e k.0)
  met_explores (Asks question branches) (suc room) (x ∷ c) n k h = go (among x (made_of question).options) h (λ a e. met_explores (branches x) room c n (k.1 x a) e)
    where
      go : (d : Dec (Among x (made_of question).options)) → pick d (met room (branches x) c) None ≡ Some n
          → (Among x (made_of question).options → met room (branches x) c ≡ Some n → n.exploring ≡ true) → n.exploring ≡ true
      go (yes a) e ih = ih a e
      go (no f) e ih = absurd (cc e)

  explores_all : (s : Settings) (adds : Marking) (tree : Tree A) → s.reduce ≡ false → s.bound ≡ None → ExploresTree tree → ExploresAll (machine_of s adds tree)
  explores_all s adds tree r b k = record {
    whole = r;
    exploring = λ c n a h. met_explores tree s.max_branches c n k h;
    every = λ c n a h. every_met_by s (passed tree c) (met s.max_branches tree c) n r b (met_explores tree s.max_branches c n k h) h;
  }

  -- a run that has an outcome is over
  outcome_over : (tree : Tree A) (room : ℕ) (c : List Choice) (o : Result A FailureKind) → outcome room tree c ≡ Some o → met room tree c ≡ None
  outcome_over (Gives value) room c o h = refl
  outcome_over (Fails failure) room c o h = refl
  outcome_over (Closes rest) room c o h = refl
  outcome_over (Asks question branches) zero c o h = refl
  outcome_over (Asks question branches) (suc room) [] o h = absurd (cc h)
  outcome_over (Asks question branches) (suc room) (x ∷ c) o h = go (among x (made_of question).options) h (λ e. outcome_over (branches x) room c o e)
    where
      go : (d : Dec (Among x (made_of question).options)) → pick d (outcome room (branches x) c) None ≡ Some o → (outcome room (branches x) c ≡ Some o → met room (branches x) c ≡ None)
          → pick d (met room (branches x) c) None ≡ None
      go (yes a) e ih = ih e
      go (no f) e ih = refl

  Comes : ℕ → Tree A → List Choice → Type 0
  Comes room tree c = (o : Result A FailureKind) × (outcome room tree c ≡ Some o)

  quiet_comes : (tree : Tree A) (room : ℕ) → IsQuiet tree → Comes room tree []
  unfolding Comes
  quiet_comes (Gives value) room h = (Ok value, refl)
  quiet_comes (Fails failure) room h = (Err failure, refl)
  quiet_comes (Closes rest) room h = quiet_comes rest room h
  quiet_comes (Asks question branches) room h = absurd h

  MayTake : ℕ → Tree A → List Choice → Type 0
  MayTake room tree c = (before : List Choice) (x : Choice) (after : List Choice) → c ≡ before ++ x ∷ after → (n : Made) × (met room tree before ≡ Some n) × Among x n.options

  -- a run of options that is over has an outcome
  over_comes : (tree : Tree A) (room : ℕ) (c : List Choice) → IsSoundTree tree → MayTake room tree c → met room tree c ≡ None → Comes room tree c
  unfolding Comes MayTake
  over_comes (Gives value) room [] k a h = (Ok value, refl)
  over_comes (Gives value) room (x ∷ c) k a h = absurd (cc (a [] x c refl).1)
  over_comes (Fails failure) room [] k a h = (Err failure, refl)
  over_comes (Fails failure) room (x ∷ c) k a h = absurd (cc (a [] x c refl).1)
  over_comes (Closes rest) room [] k a h = quiet_comes rest room k
  over_comes (Closes rest) room (x ∷ c) k a h = absurd (cc (a [] x c refl).1)
  over_comes (Asks question branches) zero [] k a h = (Err TooManyBranches, refl)
  over_comes (Asks question branches) zero (x ∷ c) k a h = absurd (cc (a [] x c refl).1)
  over_comes (Asks question branches) (suc room) [] k a h = absurd (cc h)
  over_comes (Asks question branches) (suc room) (x ∷ c) k a h =
      let first = a [] x c refl in
      let is : made_of question ≡ first.0 = cc first.1 in
      let option : Among x (made_of question).options = subst (λ (y : Made). Among x y.options) (sym is) first.2 in
      go (among x (made_of question).options) option h (λ before y after e. a (x ∷ before) y after (ap (λ l. x ∷ l) e)) (λ b e. over_comes (branches x) room c (k.1 x option) b e)
    where
      go : (d : Dec (Among x (made_of question).options)) → Among x (made_of question).options → pick d (met room (branches x) c) None ≡ None
          → ((before : List Choice) (y : Choice) (after : List Choice) → c ≡ before ++ y ∷ after → (n : Made) × (pick d (met room (branches x) before) None ≡ Some n) × Among y n.options)
          → (MayTake room (branches x) c → met room (branches x) c ≡ None → Comes room (branches x) c)
          → (o : Result A FailureKind) × (pick d (outcome room (branches x) c) None ≡ Some o)
      go (yes b) option e a ih = ih a e
      go (no f) option e a ih = absurd (f option)

  pub every_run_law : EveryRunLaw A
  unfolding Comes MayTake
  every_run_law s adds tree sound fair r b k x =
      let m : Machine = machine_of s adds tree in
      let w = (walk_every m (machine_law s adds tree sound fair) (explores_all s adds tree r b k)).1 x in (
        λ h. let z = w.0 h in over_comes tree s.max_branches x sound z.0 z.1,
        λ h. w.1 (allowed_by s adds tree x h.0 sound h.1, outcome_over tree s.max_branches x h.0 h.1),
      )
