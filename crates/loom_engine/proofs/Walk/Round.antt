-- One round, and rounds that are stopped.
use Rattle.std.proofs.Common.{◌≡◌, ◌↔◌, List, [], Option, Some, None, refl, sym, subst, inl, inr}
use Rattle.loom_objects.specs.declared.choice.Choice.{Choice}
use Rattle.loom_engine.specs.Walk.Runs.{Reachable, by_default, by_alternative as by_other}
use Rattle.loom_engine.specs.Walk.Path.{Stored, IsResting, node_at, step, next, after_run, Rest, by_path, by_pending, by_alternative}
use Rattle.loom_engine.specs.Walk.Walks.{run_of, LeavesRest, RoundLaw, FreshLaw, LeastLaw}
use Rattle.loom_engine.proofs.Walk.After.{IsAfter, after_run_is}
use Rattle.loom_engine.proofs.Walk.Marked.{rest_after, rest_before}
use Rattle.loom_engine.proofs.Walk.Resting.{after_resting}
use Rattle.loom_engine.proofs.Walk.Stepping.{Steps, step_some}
use Rattle.loom_engine.proofs.Walk.Left.{run_alone, next_resting, run_or_next, next_joined, run_not_left}

pub round_law : RoundLaw
unfolding Steps
round_law m p w rest = go (next m p) refl
  where
    r : List Choice
    r = run_of m p

    q : List Stored
    q = after_run m p

    a : IsAfter m p q r
    a = after_run_is m w p

    after : IsResting m q
    after = after_resting m w p q r rest a

    alone : step q ≡ None → (x : List Choice) → Rest m p x ↔ (x ≡ run_of m p)
    alone h x = ((λ d. run_alone m w p q r a after h x (rest_after m w p q r a x d)), λ e. subst (Rest m p) (sym e) by_path)

    parts : (p' : List Stored) → Steps q p' → LeavesRest m p (Some p')
    parts p' (branch, n, o, s) = (
      next_resting m w p q r a after p' branch n o s,
      (λ x. (
        (λ d. run_or_next m w p q r a after p' branch n o s x (rest_after m w p q r a x d)),
        λ d. elim d [ inl e ↦ subst (Rest m p) (sym e) by_path | inr f ↦ rest_before m w p q r rest a x (next_joined m w p q r a after p' branch n o s x f) ],
      )),
      run_not_left m w p q r a after p' branch n o s,
    )

    go : (x : Option (List Stored)) → step q ≡ x → LeavesRest m p x
    go None h = alone h
    go (Some p') h = parts p' (step_some q p' h)

pub fresh_law : FreshLaw
unfolding node_at
fresh_law m w = (record { meets = λ before n h. absurd (cc h); rest = λ before n h. absurd (cc h) }, λ x. (there x, back x))
  where
    there : (x : List Choice) → Rest m [] x → Reachable m x
    there x by_path = by_default
    there x (by_pending before n o h ex s) = absurd (cc h)
    there x (by_alternative r before o d alt out) = by_other r before o (there r d) alt

    back : (x : List Choice) → Reachable m x → Rest m [] x
    back x by_default = by_path
    back x (by_other r before o d alt) = by_alternative r before o (back r d) alt (λ l. l)

pub least_law : LeastLaw
least_law m holds first others x by_default = first
least_law m holds first others x (by_other r before o d alt) = others r before o (least_law m holds first others r d) alt
