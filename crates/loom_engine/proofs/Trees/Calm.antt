-- A walk that takes no run for a failure goes on where a check stopped.
use Rattle.std.proofs.Common.{◌≡◌, ℕ, zero, suc, false, List, [], ◌∷◌, ◌++◌, Option, Some, None, refl, ap, ap₂, sym, ◌∙◌, subst, inl, inr}
use Rattle.loom_objects.specs.declared.choice.Choice.{Choice}
use Rattle.loom_objects.specs.Tree.Question.{Made}
use Rattle.loom_engine.specs.Walk.Machine.{Machine, extend, run}
use Rattle.loom_engine.specs.Walk.Sound.{IsMachine}
use Rattle.loom_engine.specs.Walk.Runs.{Alternative}
use Rattle.loom_engine.specs.Walk.Path.{Stored, choices, IsResting, Rest, by_path, by_pending, by_alternative, fresh, new_nodes, mark, mark_all, after_run, next, step}
use Rattle.loom_engine.specs.Walk.Walks.{run_of, Rounds, stay, go_on, Completes, last_round, one_round}
use Rattle.loom_engine.specs.Walk.Lists.{Each, IsWalkList, Precedes, IsInOrder}
use Rattle.loom_engine.proofs.Walk.Together.{complete_law as walk_complete, resumed}
use Rattle.loom_engine.proofs.Walk.Ends.{ends_law as walk_ends}
use Rattle.loom_engine.proofs.Walk.Order.{order_law as walk_order}

-- ---- the machine without failures

-- no run of it fails
abbrev calm : Machine → Machine
calm m = record m { fails = λ c. false }

calm_machine : (m : Machine) → IsMachine m → IsMachine (calm m)
calm_machine m is = record { ends = is.ends; default = is.default; few = is.few; full = is.full; values = is.values; marked = is.marked }

-- its runs, its paths and what they leave are the same
calm_extend : (m : Machine) (fuel : ℕ) (c : List Choice) → extend (calm m) fuel c ≡ extend m fuel c
unfolding extend
calm_extend m zero c = refl
calm_extend m (suc fuel) c = go (m.node c) (λ d. calm_extend m fuel (c ++ d ∷ []))
  where
    go : (x : Option Made) → ((d : Choice) → extend (calm m) fuel (c ++ d ∷ []) ≡ extend m fuel (c ++ d ∷ []))
        → ◌≡◌ {A = List Choice} (elim x [ None ↦ c | Some n ↦ extend (calm m) fuel (c ++ n.default ∷ []) ]) (elim x [ None ↦ c | Some n ↦ extend m fuel (c ++ n.default ∷ []) ])
    go None ih = refl
    go (Some n) ih = ih n.default

calm_run : (m : Machine) (c : List Choice) → run (calm m) c ≡ run m c
unfolding run
calm_run m c = calm_extend m m.limit c

calm_new : (m : Machine) (fuel : ℕ) (c : List Choice) → new_nodes (calm m) fuel c ≡ new_nodes m fuel c
unfolding new_nodes
calm_new m zero c = refl
calm_new m (suc fuel) c = go (m.node c) (λ d. calm_new m fuel (c ++ d ∷ []))
  where
    go : (x : Option Made) → ((d : Choice) → new_nodes (calm m) fuel (c ++ d ∷ []) ≡ new_nodes m fuel (c ++ d ∷ []))
        → ◌≡◌ {A = List Stored} (elim x [ None ↦ [] | Some n ↦ fresh (m.every c) n ∷ new_nodes (calm m) fuel (c ++ n.default ∷ []) ])
        (elim x [ None ↦ [] | Some n ↦ fresh (m.every c) n ∷ new_nodes m fuel (c ++ n.default ∷ []) ])
    go None ih = refl
    go (Some n) ih = ap (λ l. fresh (m.every c) n ∷ l) (ih n.default)

calm_marks : (m : Machine) (r : List Choice) (k : ℕ) (p : List Stored) → mark_all (calm m) r k p ≡ mark_all m r k p
calm_marks m r k [] = refl
calm_marks m r k (n ∷ p) = ap (λ l. mark m r k n ∷ l) (calm_marks m r (suc k) p)

calm_after : (m : Machine) (p : List Stored) → after_run (calm m) p ≡ after_run m p
calm_after m p =
    ap₂ (λ r l. mark_all (calm m) r zero (p ++ l)) (calm_run m (choices p)) (calm_new m m.limit (choices p))
    ∙ calm_marks m (run m (choices p)) zero (p ++ new_nodes m m.limit (choices p))

calm_next : (m : Machine) (p : List Stored) → next (calm m) p ≡ next m p
calm_next m p = ap step (calm_after m p)

calm_rests : (m : Machine) (p : List Stored) → IsResting m p → IsResting (calm m) p
calm_rests m p rests = record { meets = rests.meets; rest = rests.rest }

-- the same runs call for the same others
calm_alternative : (m : Machine) (r before : List Choice) (o : Choice) → Alternative m r before o → Alternative (calm m) r before o
calm_alternative m r before o a = record {
  chosen = a.chosen;
  after = a.after;
  made = a.made;
  splits = a.splits;
  met = a.met;
  exploring = a.exploring;
  option = a.option;
  other = a.other;
  called = a.called;
}

back_alternative : (m : Machine) (r before : List Choice) (o : Choice) → Alternative (calm m) r before o → Alternative m r before o
back_alternative m r before o a = record {
  chosen = a.chosen;
  after = a.after;
  made = a.made;
  splits = a.splits;
  met = a.met;
  exploring = a.exploring;
  option = a.option;
  other = a.other;
  called = a.called;
}

-- the same is left from a path
calm_left : (m : Machine) (p : List Stored) (x : List Choice) → Rest m p x → Rest (calm m) p x
calm_left m p x by_path = subst (Rest (calm m) p) (calm_run m (choices p)) by_path
calm_left m p x (by_pending before n o h e f) = subst (Rest (calm m) p) (calm_run m (before ++ o ∷ [])) (by_pending before n o h e f)
calm_left m p x (by_alternative r before o d a out) =
    subst (Rest (calm m) p) (calm_run m (before ++ o ∷ [])) (by_alternative r before o (calm_left m p r d) (calm_alternative m r before o a) out)

back_left : (m : Machine) (p : List Stored) (x : List Choice) → Rest (calm m) p x → Rest m p x
back_left m p x by_path = subst (Rest m p) (sym (calm_run m (choices p))) by_path
back_left m p x (by_pending before n o h e f) = subst (Rest m p) (sym (calm_run m (before ++ o ∷ []))) (by_pending before n o h e f)
back_left m p x (by_alternative r before o d a out) =
    subst (Rest m p) (sym (calm_run m (before ++ o ∷ []))) (by_alternative r before o (back_left m p r d) (back_alternative m r before o a) out)

calm_rounds : (m : Machine) (p : List Stored) (list : List (List Choice)) (last : List Stored) → Rounds m p list last → Rounds (calm m) p list last
calm_rounds m p list last (stay _) = stay p
calm_rounds m p list last (go_on _ later _ others f e c) =
    subst (λ r. Rounds (calm m) p (r ∷ others) last) (calm_run m (choices p)) (go_on p later last others refl (calm_next m p ∙ e) (calm_rounds m later others last c))

-- the order is the same
back_precedes : (m : Machine) (x y : List Choice) → Precedes (calm m) x y → Precedes m x y
back_precedes m x y z = record {
  before = z.before;
  a = z.a;
  b = z.b;
  after_a = z.after_a;
  after_b = z.after_b;
  made = z.made;
  first = z.first;
  second = z.second;
  differ = z.differ;
  met = z.met;
  comes = z.comes;
}

back_each : (m : Machine) (x : List Choice) (list : List (List Choice)) → Each (Precedes (calm m) x) list → Each (Precedes m x) list
back_each m x [] h = tt
back_each m x (y ∷ list) h = (back_precedes m x y h.0, back_each m x list h.1)

back_order : (m : Machine) (list : List (List Choice)) → IsInOrder (calm m) list → IsInOrder m list
back_order m [] h = tt
back_order m (x ∷ list) h = (back_each m x list h.0, back_order m list h.1)

-- ---- what was not made yet

-- the runs that were made, then the last path's run, and others after it are all that was left from the first path
pub record Goes (m : Machine) (p : List Stored) (list : List (List Choice)) (last : List Stored) : Type 0 where
  pub more : List (List Choice)
  pub walk : IsWalkList (Rest m p) (list ++ run_of m last ∷ more)
  pub in_order : p ≡ [] → m.reduce ≡ false → IsInOrder m (list ++ run_of m last ∷ more)

-- the first of them is the path's run
first_of : (m : Machine) (p : List Stored) (list : List (List Choice)) → Completes (calm m) p list → (more : List (List Choice)) × (list ≡ run_of m p ∷ more)
first_of m p list (last_round _ f e) = ([], ap (λ r. r ∷ []) (calm_run m (choices p)))
first_of m p list (one_round _ later others f e c) = (others, ap (λ r. r ∷ others) (calm_run m (choices p)))

-- all the walk's runs are all that was left
all_made : (m : Machine) → IsMachine m → (p : List Stored) (list : List (List Choice)) → IsResting m p → Completes (calm m) p list → IsWalkList (Rest m p) list
all_made m is p list rests made =
    let w = (walk_complete (calm m) p list (calm_machine m is) (calm_rests m p rests) made).0 in
    record { members = λ x. (λ h. (w.members x).0 (calm_left m p x h), λ h. back_left m p x ((w.members x).1 h)); once = w.once; together = w.together }

-- rounds reach such a place
pub goes_from : (m : Machine) → IsMachine m → (p : List Stored) (list : List (List Choice)) (last : List Stored) → IsResting m p → IsResting m last → Rounds m p list last
    → Goes m p list last
goes_from m is p list last begins rests rounds = elim (walk_ends (calm m) last (calm_machine m is) (calm_rests m last rests)).2 [
  | inl z ↦ joined z.0 z.1 (first_of m last z.0 z.1)
  | inr z ↦ absurd (cc z.3)
]
  where
    joined : (others : List (List Choice)) → Completes (calm m) last others → ((more : List (List Choice)) × (others ≡ run_of m last ∷ more)) → Goes m p list last
    joined others ends f =
        let c : Completes (calm m) p (list ++ others) = resumed (calm m) p last list others (calm_rounds m p list last rounds) ends in
        let e : list ++ others ≡ list ++ run_of m last ∷ f.0 = ap (λ l. list ++ l) f.1 in
        record {
          more = f.0;
          walk = subst (IsWalkList (Rest m p)) e (all_made m is p (list ++ others) begins c);
          in_order = λ none unreduced. subst (IsInOrder m) e
              (back_order m (list ++ others) (walk_order (calm m) (list ++ others) (calm_machine m is) unreduced (subst (λ q. Completes (calm m) q (list ++ others)) none c)));
        }
