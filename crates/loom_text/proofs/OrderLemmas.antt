-- What is counted of results doesn't depend on their order, nor on whether they are told one by one.
use Rattle.std.proofs.Common.{◌≡◌, ℕ, ◌+◌, Bool, true, false, not, cond, List, [], ◌∷◌, ◌++◌, map, take, refl, sym, ap, ◌∙◌, subst, inl, inr, ◌⊎◌, arith, eq-eqb}
use Rattle.std.proofs.lemmas.Bool.{cases_Bool, false≢true}
use Rattle.loom_text.specs.Run.Counted.{Counted, Tallied}
use Rattle.loom_text.specs.Run.States.{added, counted, counts, is_before, is_positive, is_same, more_often, once, put, told, told_all, told_each, told_more}
use Rattle.loom_text.proofs.LawLemmas.{before_total, before_trans, not_before_itself, same_is}

-- ---- the order of numbers

same_itself : (numbers : List ℕ) → is_same numbers numbers ≡ true
same_itself [] = refl
same_itself (n ∷ numbers) = rw (eq-eqb n n refl) (same_itself numbers)

-- one is before the other, or they are the same
abbrev Compared : List ℕ → List ℕ → Type 0
Compared a b = (is_before a b ≡ true) ⊎ (a ≡ b) ⊎ (is_before b a ≡ true)

compared : (a b : List ℕ) → Compared a b
compared a b = elim (cases_Bool (is_before a b)) [
  | inl e ↦ inl e
  | inr e ↦ elim (cases_Bool (is_same a b)) [
    | inl same ↦ inr (inl (same_is a b same))
    | inr other ↦ inr (inr (before_total a b e other))
  ]
]

not_back : (a b : List ℕ) → is_before a b ≡ true → is_before b a ≡ false
not_back a b h = elim (cases_Bool (is_before b a)) [
  | inl e ↦ absurd (false≢true (sym (not_before_itself a) ∙ before_trans a b a h e))
  | inr e ↦ e
]

not_same : (a b : List ℕ) → is_before b a ≡ true → is_same a b ≡ false
not_same a b h = elim (cases_Bool (is_same a b)) [
  | inl e ↦ absurd (false≢true (sym (not_before_itself b) ∙ subst (λ x. is_before b x ≡ true) (same_is a b e) h))
  | inr e ↦ e
]

-- ---- where runs are put

put_later : (m s : Counted) (states : List Counted) → is_before s.numbers m.numbers ≡ true → put m (s ∷ states) ≡ s ∷ put m states
put_later m s states h = rw h refl

put_here : (m s : Counted) (states : List Counted) → s.numbers ≡ m.numbers → put m (s ∷ states) ≡ more_often m.runs s ∷ states
put_here m s states is =
    let not_before : is_before s.numbers m.numbers ≡ false = ap (λ x. is_before s.numbers x) (sym is) ∙ not_before_itself s.numbers in
    let same : is_same s.numbers m.numbers ≡ true = ap (λ x. is_same s.numbers x) (sym is) ∙ same_itself s.numbers in
    rw (not_before, same) refl

put_first : (m s : Counted) (states : List Counted) → is_before m.numbers s.numbers ≡ true → put m (s ∷ states) ≡ m ∷ s ∷ states
put_first m s states h = rw (not_back m.numbers s.numbers h, not_same s.numbers m.numbers h) refl

-- ---- runs are put in any order

-- both before the states that are there
put_firsts : (m n : Counted) (states : List Counted) → put m (n ∷ states) ≡ n ∷ put m states → put m states ≡ m ∷ states → put n states ≡ n ∷ states
    → is_before n.numbers m.numbers ≡ true → put m (put n states) ≡ put n (put m states)
put_firsts m n states later first second h =
    ap (put m) second ∙ later ∙ ap (λ xs. n ∷ xs) first ∙ sym (ap (put n) first ∙ put_first n m states h)

put_sames : (m n : Counted) (states : List Counted) → m.numbers ≡ n.numbers → put m states ≡ m ∷ states → put n states ≡ n ∷ states
    → put m (put n states) ≡ put n (put m states)
put_sames m n states is first second =
    let one : put m (n ∷ states) ≡ more_often m.runs n ∷ states = put_here m n states (sym is) in
    let other : put n (m ∷ states) ≡ more_often n.runs m ∷ states = put_here n m states is in
    let runs : n.runs + m.runs ≡ m.runs + n.runs = omega arith in
    let joined : more_often m.runs n ≡ more_often n.runs m = cc (is, runs) in
    ap (put m) second ∙ one ∙ ap (λ (s : Counted). s ∷ states) joined ∙ sym (ap (put n) first ∙ other)

put_both : (m n : Counted) (states : List Counted) → put m states ≡ m ∷ states → put n states ≡ n ∷ states → put m (put n states) ≡ put n (put m states)
put_both m n states first second = elim (compared n.numbers m.numbers) [
  | inl h ↦ put_firsts m n states (put_later m n states h) first second h
  | inr z ↦ elim z [
    | inl is ↦ put_sames m n states (sym is) first second
    | inr h ↦ sym (put_firsts n m states (put_later n m states h) second first h)
  ]
]

-- the one is put behind the first state, which is where the other is put, or is behind it too
put_apart : (m n s : Counted) (states : List Counted) → is_before s.numbers m.numbers ≡ true → put m (put n states) ≡ put n (put m states) → Compared s.numbers n.numbers
    → put m (put n (s ∷ states)) ≡ put n (put m (s ∷ states))
put_apart m n s states h rest (inl k) =
    ap (put m) (put_later n s states k) ∙ put_later m s (put n states) h ∙ ap (λ xs. s ∷ xs) rest ∙ sym (ap (put n) (put_later m s states h) ∙ put_later n s (put m states) k)
put_apart m n s states h rest (inr (inl is)) =
    ap (put m) (put_here n s states is) ∙ put_later m (more_often n.runs s) states h ∙ sym (ap (put n) (put_later m s states h) ∙ put_here n s (put m states) is)
put_apart m n s states h rest (inr (inr k)) =
    ap (put m) (put_first n s states k) ∙ put_later m n (s ∷ states) (before_trans n.numbers s.numbers m.numbers k h) ∙ ap (λ xs. n ∷ xs) (put_later m s states h)
    ∙ sym (ap (put n) (put_later m s states h) ∙ put_first n s (put m states) k)

-- the one has the numbers of the first state, and the other isn't put behind it
put_at : (m n s : Counted) (states : List Counted) → s.numbers ≡ m.numbers → (s.numbers ≡ n.numbers) ⊎ (is_before n.numbers s.numbers ≡ true)
    → put m (put n (s ∷ states)) ≡ put n (put m (s ∷ states))
put_at m n s states is (inl too) =
    let runs : (s.runs + n.runs) + m.runs ≡ (s.runs + m.runs) + n.runs = omega arith in
    let joined : more_often m.runs (more_often n.runs s) ≡ more_often n.runs (more_often m.runs s) = ap (λ r. record s { runs = r }) runs in
    ap (put m) (put_here n s states too) ∙ put_here m (more_often n.runs s) states is ∙ ap (λ (x : Counted). x ∷ states) joined
    ∙ sym (ap (put n) (put_here m s states is) ∙ put_here n (more_often m.runs s) states too)
put_at m n s states is (inr k) =
    let before : is_before n.numbers m.numbers ≡ true = subst (λ x. is_before n.numbers x ≡ true) is k in
    ap (put m) (put_first n s states k) ∙ put_later m n (s ∷ states) before ∙ ap (λ xs. n ∷ xs) (put_here m s states is)
    ∙ sym (ap (put n) (put_here m s states is) ∙ put_first n (more_often m.runs s) states k)

put_twice : (m n : Counted) (states : List Counted) → put m (put n states) ≡ put n (put m states)
put_twice m n [] = put_both m n [] refl refl
put_twice m n (s ∷ states) = go (put_twice m n states) (compared s.numbers m.numbers) (compared s.numbers n.numbers)
  where
    go : put m (put n states) ≡ put n (put m states) → Compared s.numbers m.numbers → Compared s.numbers n.numbers → put m (put n (s ∷ states)) ≡ put n (put m (s ∷ states))
    go rest (inl h) k = put_apart m n s states h rest k
    go rest (inr h) (inl k) = sym (put_apart n m s states k (sym rest) (inr h))
    go rest (inr (inl is)) (inr k) = put_at m n s states is k
    go rest (inr (inr h)) (inr (inl is)) = sym (put_at n m s states is (inr h))
    go rest (inr (inr h)) (inr (inr k)) = put_both m n (s ∷ states) (put_first m s states h) (put_first n s states k)

-- runs with the same numbers are put together
put_again : (m n : Counted) (states : List Counted) → n.numbers ≡ m.numbers → put m (put n states) ≡ put (more_often m.runs n) states
put_again m n [] is = put_here m n [] is
put_again m n (s ∷ states) is = go (put_again m n states is) (compared s.numbers n.numbers)
  where
    go : put m (put n states) ≡ put (more_often m.runs n) states → Compared s.numbers n.numbers → put m (put n (s ∷ states)) ≡ put (more_often m.runs n) (s ∷ states)
    go rest (inl h) =
        ap (put m) (put_later n s states h) ∙ put_later m s (put n states) (subst (λ x. is_before s.numbers x ≡ true) is h) ∙ ap (λ xs. s ∷ xs) rest
        ∙ sym (put_later (more_often m.runs n) s states h)
    go rest (inr (inl too)) =
        let runs : (s.runs + n.runs) + m.runs ≡ s.runs + (n.runs + m.runs) = omega arith in
        ap (put m) (put_here n s states too) ∙ put_here m (more_often n.runs s) states (too ∙ is) ∙ ap (λ r. record s { runs = r } ∷ states) runs
        ∙ sym (put_here (more_often m.runs n) s states too)
    go rest (inr (inr h)) = ap (put m) (put_first n s states h) ∙ put_here m n (s ∷ states) is ∙ sym (put_first (more_often m.runs n) s states h)

-- ---- results are told in any order

told_so : (t : Tallied) (states states' : List Counted) (p p' n n' : ℕ) → states ≡ states' → p ≡ p' → n ≡ n'
    → (record t { states = states; positive = p; negative = n }) ≡ (record t { states = states'; positive = p'; negative = n' })
told_so t states states' p p' n n' a b c = cc (a, b, c)

-- it counts, or it doesn't
does_count : (t : Tallied) (m : Counted) → counts t.test t.layout m.numbers ≡ true → told_more t m ≡ counted t m
does_count t m h = rw h refl

counts_not : (t : Tallied) (m : Counted) → counts t.test t.layout m.numbers ≡ false → told_more t m ≡ t
counts_not t m h = rw h refl

counted_twice : (t : Tallied) (m n : Counted) → counted (counted t m) n ≡ counted (counted t n) m
counted_twice t m n =
    told_so t _ _ _ _ _ _ (put_twice (record n { numbers = take t.layout.shown n.numbers }) (record m { numbers = take t.layout.shown m.numbers }) t.states) (omega arith) (omega arith)

-- the one doesn't count
told_one : (t : Tallied) (m n : Counted) → counts t.test t.layout m.numbers ≡ false → told_more (told_more t m) n ≡ told_more (told_more t n) m
told_one t m n h = elim (cases_Bool (counts t.test t.layout n.numbers)) [
  | inl k ↦ ap (λ (x : Tallied). told_more x n) (counts_not t m h) ∙ sym (ap (λ (x : Tallied). told_more x m) (does_count t n k) ∙ counts_not (counted t n) m h ∙ sym (does_count t n k))
  | inr k ↦ ap (λ (x : Tallied). told_more x n) (counts_not t m h) ∙ counts_not t n k ∙ sym (ap (λ (x : Tallied). told_more x m) (counts_not t n k) ∙ counts_not t m h)
]

pub told_twice : (t : Tallied) (m n : Counted) → told_more (told_more t m) n ≡ told_more (told_more t n) m
told_twice t m n = elim (cases_Bool (counts t.test t.layout m.numbers)) [
  | inl h ↦ elim (cases_Bool (counts t.test t.layout n.numbers)) [
    | inl k ↦
        ap (λ (x : Tallied). told_more x n) (does_count t m h) ∙ does_count (counted t m) n k ∙ counted_twice t m n
        ∙ sym (ap (λ (x : Tallied). told_more x m) (does_count t n k) ∙ does_count (counted t n) m h)
    | inr k ↦ sym (told_one t n m k)
  ]
  | inr h ↦ told_one t m n h
]

runs_if : (is_so : Bool) (a b : ℕ) → cond is_so a 0 + cond is_so b 0 ≡ cond is_so (a + b) 0
runs_if true a b = refl
runs_if false a b = refl

counted_again : (t : Tallied) (numbers : List ℕ) (a b : ℕ)
    → counted (counted t (record { numbers = numbers; runs = a })) (record { numbers = numbers; runs = b }) ≡ counted t (record { numbers = numbers; runs = a + b })
counted_again t numbers a b =
    let met = runs_if (is_positive t.test t.layout numbers) a b in
    let unmet = runs_if (not (is_positive t.test t.layout numbers)) a b in
    told_so t _ _ _ _ _ _ (put_again (record { numbers = take t.layout.shown numbers; runs = b }) (record { numbers = take t.layout.shown numbers; runs = a }) t.states refl)
    (omega (arith, met)) (omega (arith, unmet))

-- those with the same numbers together
told_again : (t : Tallied) (numbers : List ℕ) (a b : ℕ)
    → told_more (told_more t (record { numbers = numbers; runs = a })) (record { numbers = numbers; runs = b }) ≡ told_more t (record { numbers = numbers; runs = a + b })
told_again t numbers a b =
    let m : Counted = record { numbers = numbers; runs = a } in
    let n : Counted = record { numbers = numbers; runs = b } in
    let both : Counted = record { numbers = numbers; runs = a + b } in
    elim (cases_Bool (counts t.test t.layout numbers)) [
      | inl h ↦ ap (λ (x : Tallied). told_more x n) (does_count t m h) ∙ does_count (counted t m) n h ∙ counted_again t numbers a b ∙ sym (does_count t both h)
      | inr h ↦ ap (λ (x : Tallied). told_more x n) (counts_not t m h) ∙ counts_not t n h ∙ sym (counts_not t both h)
    ]

-- ---- results that were counted before

each_later : (t : Tallied) (m : Counted) (results : List Counted) → told_each (told_more t m) results ≡ told_more (told_each t results) m
each_later t m [] = refl
each_later t m (s ∷ results) = ap (λ (x : Tallied). told_each x results) (told_twice t m s) ∙ each_later (told_more t s) m results

-- one result more is told among them, or behind them
pub each_added : (t : Tallied) (numbers : List ℕ) (results : List Counted) → told_each t (added numbers results) ≡ told (told_each t results) numbers
each_added t numbers [] = refl
each_added t numbers (s ∷ results) = elim (cases_Bool (is_before s.numbers numbers)) [
  | inl e ↦ rw e (each_added (told_more t s) numbers results)
  | inr e ↦ elim (cases_Bool (is_same s.numbers numbers)) [
    | inl same ↦
        let is : s.numbers ≡ numbers = same_is s.numbers numbers same in
        let again : told_more (told_more t s) (once numbers) ≡ told_more t (more_often 1 s) = subst (λ v. told_more (told_more t s) (once v) ≡ told_more t (more_often 1 s)) is (told_again t s.numbers s.runs 1) in
        rw (e, same) (ap (λ (x : Tallied). told_each x results) (sym again) ∙ each_later (told_more t s) (once numbers) results)
    | inr other ↦
        rw (e, other) (ap (λ (x : Tallied). told_each x results) (told_twice t (once numbers) s) ∙ each_later (told_more t s) (once numbers) results)
  ]
]

-- ---- lists of results

all_later : (t : Tallied) (numbers : List ℕ) (results : List (List ℕ)) → told_all (told t numbers) results ≡ told (told_all t results) numbers
all_later t numbers [] = refl
all_later t numbers (v ∷ results) = ap (λ (x : Tallied). told_all x results) (told_twice t (once numbers) (once v)) ∙ all_later (told t v) numbers results

all_both : (t : Tallied) (results more : List (List ℕ)) → told_all (told_all t results) more ≡ told_all (told_all t more) results
all_both t [] more = refl
all_both t (v ∷ results) more = all_both (told t v) results more ∙ ap (λ (x : Tallied). told_all x results) (all_later t v more)

module _ {A : Type 0} (result : A → List ℕ) where
  all_append : (t : Tallied) (runs more : List A) → told_all t (map result (runs ++ more)) ≡ told_all (told_all t (map result runs)) (map result more)
  all_append t [] more = refl
  all_append t (run ∷ runs) more = all_append (told t (result run)) runs more

  -- those of some runs, and then those of others in front of them
  pub all_in_front : (t : Tallied) (runs more : List A) → told_all (told_all t (map result runs)) (map result more) ≡ told_all t (map result (more ++ runs))
  all_in_front t runs more = all_both t (map result runs) (map result more) ∙ sym (all_append t more runs)

  -- the newest is first
  pub all_newest : (t : Tallied) (run : A) (runs : List A) → told (told_all t (map result runs)) (result run) ≡ told_all t (map result (run ∷ runs))
  all_newest t run runs = sym (all_later t (result run) (map result runs))
