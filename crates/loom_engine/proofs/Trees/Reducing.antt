-- A reduced search makes no other runs than the search with the same bound that isn't reduced.
use Rattle.std.proofs.Common.{◌≡◌, ◌≢◌, ◌⊎◌, ℕ, zero, suc, ◌<◌, ◌≤◌, Bool, true, false, ◌&&◌, not, List, [], ◌∷◌, ◌++◌, length, Option, Some, None, refl, sym, ◌∙◌, subst, inl, inr, arith}
use Rattle.std.specs.Prelude.{cond}
use Rattle.loom_objects.specs.declared.choice.Choice.{Choice}
use Rattle.loom_objects.specs.Tree.Question.{Made}
use Rattle.loom_objects.specs.Tree.Tree.{Tree}
use Rattle.loom_engine.specs.Walk.Machine.{Machine, is_thread, extend, run}
use Rattle.loom_engine.specs.Walk.Runs.{Alternative, Reachable, by_default, by_alternative}
use Rattle.loom_engine.specs.Walk.Bound.{IsCount}
use Rattle.loom_engine.specs.Trees.Outcomes.{met, passed}
use Rattle.loom_engine.specs.Trees.Sound.{IsSoundTree}
use Rattle.loom_engine.specs.Trees.Meeting.{Settings, Marking, count, is_below, every_at, every_met, machine_of}
use Rattle.loom_engine.specs.Trees.Machines.{IsMarking, IsMarkingBelow, unreduced, ReducedLaw}
use Rattle.loom_engine.proofs.Walk.Defaults.{extend_over, extend_on}
use Rattle.loom_engine.proofs.Trees.Counting.{is_count, bound_law, every_by}

-- the node is below the bound, if there is one
below_if : (o : Option ℕ) (n : ℕ) → ((bound : ℕ) → o ≡ Some bound → n < bound) → is_below o n ≡ true
below_if None n h = refl
below_if (Some bound) n h = (let e = h bound refl in grind arith)

every_if : (s : Settings) (passes : List (Made × Choice)) (o : Option Made) (n : Made) → o ≡ Some n → n.exploring ≡ true
    → (is_thread n.default ≡ true → is_below s.bound (count passes) ≡ true) → every_met (unreduced s) passes o ≡ true
every_if s passes None n e x h = absurd (cc e)
every_if s passes (Some k) n e x h =
    let same_node : n ≡ k = cc e in
    subst (λ (y : Made). every_at (unreduced s) passes y ≡ true) same_node (go (is_thread n.default) refl)
  where
    go : (thread : Bool) → is_thread n.default ≡ thread → cond thread (not false && n.exploring && is_below s.bound (count passes)) true ≡ true
    go true f = every_by true false n.exploring (is_below s.bound (count passes)) refl x (h f)
    go false f = refl

module _ {A : Type 0} (s : Settings) (adds : Marking) (tree : Tree A) where
  some : Machine
  some = machine_of s adds tree

  all : Machine
  all = machine_of (unreduced s) adds tree

  same_extend : (fuel : ℕ) (c : List Choice) → extend some fuel c ≡ extend all fuel c
  unfolding extend some all
  same_extend zero c = refl
  same_extend (suc fuel) c = go (met s.max_branches tree c) refl (λ d. same_extend fuel (c ++ d ∷ []))
    where
      go : (x : Option Made) → met s.max_branches tree c ≡ x → ((d : Choice) → extend some fuel (c ++ d ∷ []) ≡ extend all fuel (c ++ d ∷ []))
          → extend some (suc fuel) c ≡ extend all (suc fuel) c
      go None e ih = extend_over some fuel c e ∙ sym (extend_over all fuel c e)
      go (Some n) e ih = extend_on some fuel c n e ∙ ih n.default ∙ sym (extend_on all fuel c n e)

  same_run : (c : List Choice) → run some c ≡ run all c
  unfolding run some all
  same_run c = same_extend s.max_branches c

  module _ (sound : IsSoundTree tree) (fair : IsMarking adds) (below : (bound : ℕ) → s.bound ≡ Some bound → IsMarkingBelow bound adds) where
    -- where a run calls for another the count is below the bound
    called_below : (r before : List Choice) (o : Choice) → Reachable some r → (alt : Alternative some r before o) → is_thread alt.made.default ≡ true
        → (bound : ℕ) → s.bound ≡ Some bound → count (passed tree before) < bound
    unfolding some
    called_below r before o d alt f bound b = go alt.called
      where
        counts : IsCount (machine_of s adds tree) (λ c. count (passed tree c)) bound
        counts = is_count s adds tree bound fair b (below bound b)

        within : count (passed tree before) ≤ bound
        within = bound_law s adds tree bound sound fair b (below bound b) r d before (alt.chosen ∷ alt.after) alt.splits

        go : (some.every before ≡ true) ⊎ ((some.reduce ≡ true) × (some.marks r (length before) o ≡ true) × (o ≢ alt.made.default)) → count (passed tree before) < bound
        go (inl e) = counts.below before alt.made alt.met f e
        go (inr e) =
            let off = counts.marked before alt.chosen alt.after o (subst (λ u. some.marks u (length before) o ≡ true) alt.splits e.1) in
            omega (arith, within, off)

    called_there : (r before : List Choice) (o : Choice) → Reachable some r → Alternative some r before o → Alternative all r before o
    unfolding some all
    called_there r before o d alt = record {
      chosen = alt.chosen;
      after = alt.after;
      made = alt.made;
      splits = alt.splits;
      met = alt.met;
      exploring = alt.exploring;
      option = alt.option;
      other = alt.other;
      called = inl (every_if s (passed tree before) (met s.max_branches tree before) alt.made alt.met alt.exploring
          (λ f. below_if s.bound (count (passed tree before)) (called_below r before o d alt f)));
    }

    reached_there : (x : List Choice) → Reachable some x → Reachable all x
    reached_there x by_default = subst (Reachable all) (sym (same_run [])) by_default
    reached_there x (by_alternative r before o d alt) =
        subst (Reachable all) (sym (same_run (before ++ o ∷ []))) (by_alternative r before o (reached_there r d) (called_there r before o d alt))

module _ {A : Type 0} where
  pub reduced_law : ReducedLaw A
  unfolding some all
  reduced_law s adds tree sound fair below x d = reached_there s adds tree sound fair below x d
