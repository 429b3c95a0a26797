-- The runs that a bound on preemptions leaves in.
use Rattle.std.proofs.Common.{◌≡◌, ℕ, zero, suc, ◌<◌, Bool, true, false, ◌&&◌, not, List, [], ◌∷◌, Option, Some, None, refl, ap, sym, ◌∙◌, subst, arith}
use Rattle.std.specs.Prelude.{cond, Result, Err}
use Rattle.loom_views.specs.declared.rt.failure.FailureKind.{FailureKind}
use Rattle.loom_objects.specs.declared.choice.Choice.{Choice}
use Rattle.loom_objects.specs.Tree.Question.{Made, Among, made_of}
use Rattle.loom_objects.specs.Tree.Tree.{Tree, Gives, Fails, Closes, Asks}
use Rattle.loom_engine.specs.Walk.Choices.{among, pick}
use Rattle.loom_engine.specs.Walk.Bound.{IsCount}
use Rattle.loom_engine.specs.Walk.Lists.{IsAllowed}
use Rattle.loom_engine.specs.Walk.Machine.{Machine, is_thread}
use Rattle.loom_engine.specs.Walk.Runs.{Reachable}
use Rattle.loom_engine.specs.Walk.Sound.{IsMachine}
use Rattle.loom_engine.specs.Trees.Machines.{IsMarking}
use Rattle.loom_engine.specs.Trees.Marks.{marking}
use Rattle.loom_engine.specs.Trees.Meeting.{Settings, Marking, count, is_below, every_at, every_met, machine_of}
use Rattle.loom_engine.specs.Trees.Outcomes.{met, outcome, passed}
use Rattle.loom_engine.specs.Trees.Sound.{IsSoundTree}
use Rattle.loom_engine.proofs.Walk.Defaults.{over, run_is}
use Rattle.loom_engine.proofs.Trees.Checking.{allowed_by}
use Rattle.loom_engine.proofs.Trees.Counting.{is_count, every_by}
use Rattle.loom_engine.proofs.Trees.Machines.{machine_law}
use Rattle.loom_engine.proofs.Trees.Marks.{marking_law}
use Rattle.loom_engine.proofs.Trees.Replaying.{replay_law}
use Rattle.loom.specs.Model.Called.{IsCalled}
use Rattle.loom.specs.Model.Within.{IsWithin, Ends, WithinLaw, NoFailureLaw, RisingLaw, whole_below}
use Rattle.loom.proofs.ModelLemmas.Called.{called_runs_law}

below_if : (o : Option ℕ) (bound n : ℕ) → o ≡ Some bound → n < bound → is_below o n ≡ true
below_if None bound n e h = absurd (cc e)
below_if (Some b) bound n e h = (let f : b ≡ bound = cc e in grind arith)

-- below the bound each option is to be tried where the run explores
every_if : (s : Settings) (passes : List (Made × Choice)) (o : Option Made) (n : Made) (bound : ℕ) → s.reduce ≡ false → s.bound ≡ Some bound → o ≡ Some n → n.exploring ≡ true
    → (is_thread n.default ≡ true → count passes < bound) → every_met s passes o ≡ true
every_if s passes None n bound r b e x h = absurd (cc e)
every_if s passes (Some k) n bound r b e x h =
    let same_node : n ≡ k = cc e in
    subst (λ (y : Made). every_at s passes y ≡ true) same_node (go (is_thread n.default) refl)
  where
    go : (thread : Bool) → is_thread n.default ≡ thread → cond thread (not s.reduce && n.exploring && is_below s.bound (count passes)) true ≡ true
    go true f = every_by true s.reduce n.exploring (is_below s.bound (count passes)) r x (below_if s.bound bound (count passes) b (h f))
    go false f = refl

module _ {A : Type 0} where
  -- a run with an outcome is over
  outcome_over : (tree : Tree A) (room : ℕ) (c : List Choice) (o : Result A FailureKind) → outcome room tree c ≡ Some o → met room tree c ≡ None
  outcome_over (Gives value) room c o h = refl
  outcome_over (Fails failure) room c o h = refl
  outcome_over (Closes rest) room c o h = refl
  outcome_over (Asks question branches) zero c o h = refl
  outcome_over (Asks question branches) (suc room) [] o h = absurd (cc h)
  outcome_over (Asks question branches) (suc room) (x ∷ c) o h = go (among x (made_of question).options) h (λ e. outcome_over (branches x) room c o e)
    where
      go : (d : Dec (Among x (made_of question).options)) → pick d (outcome room (branches x) c) None ≡ Some o → (outcome room (branches x) c ≡ Some o → met room (branches x) c ≡ None)
          → pick d (met room (branches x) c) None ≡ None
      go (yes a) e ih = ih e
      go (no f) e ih = refl

  module _ (s : Settings) (adds : Marking) (tree : Tree A) (bound : ℕ) (sound : IsSoundTree tree) (fair : IsMarking adds) (r : s.reduce ≡ false) (b : s.bound ≡ Some bound) where
    abbrev m : Machine
    m = machine_of s adds tree

    is_machine : IsMachine m
    is_machine = machine_law s adds tree sound fair

    -- a run of options that is over has an outcome
    comes : (x : List Choice) → IsAllowed m x → m.node x ≡ None → Ends s.max_branches tree x
    comes x h e =
        let z = replay_law s adds tree x sound fair h in
        (_, ap (outcome s.max_branches tree) (sym (run_is m is_machine x x (over x e))) ∙ z.1)

    counts : IsCount (machine_of s (marking s.bound) tree) (λ c. count (passed tree c)) bound
    counts = is_count s (marking s.bound) tree bound (marking_law s.bound).0 b ((marking_law s.bound).1 bound b)

    called_within : (x : List Choice) → IsCalled m x → IsWithin bound s.max_branches tree x
    called_within x h before o after n e met other = (let g = h before o after n e met other in (g.0, λ f. counts.below before n met f g.1))

    within_called : (x : List Choice) → IsWithin bound s.max_branches tree x → IsCalled m x
    within_called x h before o after n e is other =
        let g = h before o after n e is other in
        (g.0, every_if s (passed tree before) (met s.max_branches tree before) n bound r b is g.0 g.1)

    pub within_at : (x : List Choice) → (Reachable m x → Ends s.max_branches tree x × IsWithin bound s.max_branches tree x)
        × (Ends s.max_branches tree x × IsWithin bound s.max_branches tree x → Reachable m x)
    within_at x =
        let z = called_runs_law m is_machine r x in (
          λ d. let y = z.0 d in (comes x y.0 y.1, called_within x y.2),
          λ h. z.1 (allowed_by s adds tree x h.0.0 sound h.0.1, outcome_over tree s.max_branches x h.0.0 h.0.1, within_called x h.1),
        )

  pub within_law : WithinLaw A
  within_law s adds tree bound sound fair r b x = within_at s adds tree bound sound fair r b x

  pub no_failure_law : NoFailureLaw A
  no_failure_law s adds tree bound sound fair r b none x failure h fails =
      let z = none x ((within_at s adds tree bound sound fair r b x).1 ((Err failure, fails), h)) in
      cc (z.1, fails)

  pub rising_law : RisingLaw A
  rising_law max_branches low high tree sound le x d =
      let z = (within_at (whole_below max_branches low) (marking (Some low)) tree low sound (marking_law (Some low)).0 refl refl x).0 d in
      (within_at (whole_below max_branches high) (marking (Some high)) tree high sound (marking_law (Some high)).0 refl refl x).1
      (z.0, λ before o after n e met other. let g = z.1 before o after n e met other in (g.0, λ f. omega (arith, g.1 f, le)))
