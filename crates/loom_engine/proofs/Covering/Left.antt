-- What holds of the path that comes next, and of one without nodes.
use Rattle.std.proofs.Common.{◌≡◌, Bool, true, List, [], Some, ap, sym, ◌∙◌, subst}
use Rattle.loom_objects.specs.declared.choice.Choice.{Choice}
use Rattle.loom_objects.specs.Tree.Question.{Made}
use Rattle.loom_engine.specs.Walk.Machine.{Machine}
use Rattle.loom_engine.specs.Walk.Path.{Skip, Visited, Stored, node_at, IsAtRest, IsResting, first_status, choose}
use Rattle.loom_engine.proofs.Walk.Statuses.{FirstStatus, is_default, is_pending, is_skipped, is_closed, fresh_cases, Chosen, was_present, is_next, is_other, chosen_cases}
use Rattle.loom_engine.proofs.Walk.Resting.{choose_at_rest}
use Rattle.loom_engine.proofs.Walk.Stepping.{Steps}
use Rattle.loom_engine.proofs.Walk.Left.{NextPlace, above_next, at_next, next_place}
use Rattle.loom_engine.specs.Covering.Covered.{SkipsNone}

pub none_visited : (every : Bool) (n : Made) (o : Choice) → first_status every n o ≡ Visited → ⊥
none_visited every n o h = go (fresh_cases every n o)
  where
    go : FirstStatus every n o (first_status every n o) → ⊥
    go (is_default e f) = cc (h, f)
    go (is_pending ne a e f) = cc (h, f)
    go (is_skipped ne a e f) = cc (h, f)
    go (is_closed ne na f) = cc (h, f)

pub none_skipped : (every : Bool) (n : Made) (o : Choice) → every ≡ true → first_status every n o ≡ Skip → ⊥
none_skipped every n o t h = go (fresh_cases every n o)
  where
    go : FirstStatus every n o (first_status every n o) → ⊥
    go (is_default e f) = cc (h, f)
    go (is_pending ne a e f) = cc (h, f)
    go (is_skipped ne a e f) = cc (t, e)
    go (is_closed ne na f) = cc (h, f)

pub step_rests : (m : Machine) (q later : List Stored) → Steps q later → IsResting m q → IsResting m later
unfolding Steps
step_rests m q later (branch, n, c, s) rests = record {
  meets = λ before y h. meets before y (next_place q later branch n c s before y h);
  rest = λ before y h. rest before y (next_place q later branch n c s before y h);
}
  where
    meets : (before : List Choice) (y : Stored) → NextPlace q branch n c before y → m.node before ≡ Some y.made
    meets before y (above_next h) = rests.meets before y h
    meets before y (at_next i j) = ap m.node i ∙ rests.meets branch n s.at ∙ ap (λ (z : Stored). Some z.made) (sym j)

    rest : (before : List Choice) (y : Stored) → NextPlace q branch n c before y → IsAtRest y
    rest before y (above_next h) = rests.rest before y h
    rest before y (at_next i j) = subst IsAtRest (sym j) (choose_at_rest n c (rests.rest branch n s.at) s.exploring s.pending)

pub step_skips_none : (q later : List Stored) → Steps q later → SkipsNone q → SkipsNone later
unfolding Steps
step_skips_none q later (branch, n, c, s) old before y o h ex skip = go (next_place q later branch n c s before y h)
  where
    here : y ≡ choose n c → Chosen n c o ((choose n c).status o) → ⊥
    here j (was_present f g) = cc (g, skip, ap (λ (z : Stored). z.status o) j)
    here j (is_next f g k) = cc (k, skip, ap (λ (z : Stored). z.status o) j)
    here j (is_other f g k) = old branch n o s.at s.exploring (sym k ∙ sym (ap (λ (z : Stored). z.status o) j) ∙ skip)

    go : NextPlace q branch n c before y → ⊥
    go (above_next g) = old before y o g ex skip
    go (at_next i j) = here j (chosen_cases n c o)

pub empty_skips_none : SkipsNone []
unfolding node_at
empty_skips_none before n o h ex skip = absurd (cc h)
