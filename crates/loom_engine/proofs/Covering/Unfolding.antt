-- The runs of a body go from schedule to schedule.
use Rattle.std.proofs.Common.{◌≡◌, ℕ, zero, suc, List, Option, Some, None, refl, ap, sym, ◌∙◌}
use Rattle.std.specs.Prelude.{Result, Ok, Err, slice_get, slice_set}
use mathlib.Core.Path.{fun_ext}
use Rattle.loom_views.specs.declared.rt.failure.FailureKind.{FailureKind}
use Rattle.loom_views.specs.declared.rt.failure.FailureKind.TheVariants.{Misuse}
use Rattle.loom_objects.specs.declared.choice.Choice.{Choice}
use Rattle.loom_objects.specs.declared.operation.Reply.{Reply}
use Rattle.loom_objects.specs.declared.operation.Reply.TheVariants as reply
use Rattle.loom_objects.specs.declared.operation.Turn.{Turn}
use Rattle.loom_objects.specs.declared.operation.Turn.TheVariants as turn
use Rattle.loom_objects.specs.declared.rt.exploring.Exploring.{Exploring}
use Rattle.loom_objects.specs.declared.rt.run.Entry.{Entry}
use Rattle.loom_objects.specs.declared.rt.run.Entry.TheVariants.{Answered, AtBranch, Explores, Spurious as AtSpurious}
use Rattle.loom_objects.specs.declared.rt.run.Passed.{Passed}
use Rattle.loom_objects.specs.declared.rt.run.Passed.TheVariants as passed
use Rattle.loom_objects.specs.Exploring.{is_on, switched}
use Rattle.loom_objects.specs.Operation.Labelled.{Op}
use Rattle.loom_objects.specs.Operation.Plain.{plain, started}
use Rattle.loom_objects.specs.Rules.Steps.{begins, enters_wait}
use Rattle.loom_objects.specs.Schedule.Offers.{offers}
use Rattle.loom_objects.specs.Tree.Asked.{which_thread, whether_spurious}
use Rattle.loom_objects.specs.Tree.Tree.{Tree, Gives, Fails, Closes, Asks, ◌>>=◌, came, found}
use Rattle.loom_engine.specs.Runs.Body.{Meaning, at_turn, handed, play, with_child}
use Rattle.loom_engine.specs.Runs.Course.{Course, carried, grown_from, one_passed, unordered_in}
use Rattle.loom_engine.specs.Runs.Machine.{chooses, flag_of, further, goes_on, schedule, waits}
use Rattle.loom_engine.specs.Covering.Moments.{Moment, Next, RunEnds, Stands, at_next, at_schedule, entered, from_schedule, gone_on, handing, to_schedule, woken}

-- ---- one tree after another

pub bound : {A B C : Type 0} (t : Tree A) (f : A → Tree B) (g : B → Tree C) → (t >>= f) >>= g ≡ t >>= (λ a. f a >>= g)
bound (Gives a) f g = refl
bound (Fails kind) f g = refl
bound (Closes rest) f g = ap Closes (bound rest f g)
bound (Asks question branches) f g = ap (Asks question) (fun_ext (λ o. bound (branches o) f g))

pub then_same : {A B : Type 0} (t : Tree A) (f g : A → Tree B) → ((a : A) → f a ≡ g a) → t >>= f ≡ t >>= g
then_same t f g h = ap (λ k. t >>= k) (fun_ext h)

module _ {D S : Type 0} (next : Meaning D S) where
  -- what comes after a turn
  abbrev pub onward : ℕ → List S → Turn D × Course D → Tree D
  onward left bodies turned = at_turn (play next left bodies turned.1) (λ value. Gives value) turned.0

  -- the runs that go on from there
  abbrev pub runs_from : Next D S → Tree D
  runs_from (RunEnds value) = Gives value
  runs_from (Stands m) = schedule m.more m.course >>= onward m.left m.bodies

  module _ (left : ℕ) (bodies : List S) (ih : (c : Course D) (thread : ℕ) (answer : Reply D) → play next left bodies c thread answer ≡ to_schedule next left bodies c thread answer >>= runs_from) where
    woken_runs : (n : ℕ) (c : Course D) (choice : Choice) → waits n c choice >>= onward left bodies ≡ woken left bodies n c choice >>= runs_from
    woken_runs n c choice =
        bound (flag_of choice) _ _
        ∙ then_same (flag_of choice) _ _ (λ b. bound (carried (one_passed c) (enters_wait b n c.world)) _ _ ∙ sym (bound (carried (one_passed c) (enters_wait b n c.world)) _ _))
        ∙ sym (bound (flag_of choice) _ _)

    switched_runs : (c : Course D) (r : Result Exploring FailureKind)
        → (came r >>= (λ x. Gives (turn.Reply c.world.active reply.Done, record c { exploring = x }))) >>= onward left bodies
        ≡ (came r >>= (λ x. to_schedule next left bodies (record c { exploring = x }) c.world.active reply.Done)) >>= runs_from
    switched_runs c (Ok x) = ih (record c { exploring = x }) c.world.active reply.Done
    switched_runs c (Err kind) = refl

    entered_runs : (entry : Entry D) (c : Course D) → goes_on (entry, c) >>= onward left bodies ≡ entered (to_schedule next left bodies) left bodies (entry, c) >>= runs_from
    entered_runs (Answered answer) c = ih c c.world.active answer
    entered_runs AtBranch c = refl
    entered_runs (AtSpurious n) c = ap (Asks (whether_spurious (is_on c.exploring))) (fun_ext (λ choice. woken_runs n c choice))
    entered_runs (Explores todo) c = switched_runs c (switched todo c.exploring)

  found_runs : (left : ℕ) → ((bodies : List S) (c : Course D) (thread : ℕ) (answer : Reply D) → play next left bodies c thread answer ≡ to_schedule next left bodies c thread answer >>= runs_from)
      → (bodies : List S) (c : Course D) (thread : ℕ) (answer : Reply D) (body : Option S)
      → found body Misuse >>= (λ b. handed (play next left) bodies c thread (next b answer)) ≡ (found body Misuse >>= (λ b. handing (to_schedule next left) left bodies c thread (next b answer))) >>= runs_from
  found_runs left ih bodies c thread answer None = refl
  found_runs left ih bodies c thread answer (Some b) = by (next b answer).0 (next b answer).1
    where
      by : (after : S) (op : Op D S) → handed (play next left) bodies c thread (after, op) ≡ handing (to_schedule next left) left bodies c thread (after, op) >>= runs_from
      by after op =
          let now : List S = with_child (slice_set bodies thread after) (started op) in
          bound (carried c (begins (plain op) c.world)) _ _
          ∙ then_same (carried c (begins (plain op) c.world)) _ _ (λ begun. entered_runs left now (ih now) begun.0 (grown_from c.world begun.1))
          ∙ sym (bound (carried c (begins (plain op) c.world)) _ _)

  -- the runs go to the first schedule, and on from there
  pub play_runs : (left : ℕ) (bodies : List S) (c : Course D) (thread : ℕ) (answer : Reply D) → play next left bodies c thread answer ≡ to_schedule next left bodies c thread answer >>= runs_from
  unfolding play to_schedule
  play_runs zero bodies c thread answer = refl
  play_runs (suc left) bodies c thread answer = found_runs left (λ b d t a. play_runs left b d t a) bodies c thread answer (slice_get bodies thread)

  module _ (m : Moment D S) (again : Course D → Tree (Turn D × Course D)) (h : (c : Course D) → again c >>= onward m.left m.bodies ≡ at_next next m c m.more >>= runs_from) where
    gone_runs : (after : Passed D × Course D) → further again after >>= onward m.left m.bodies ≡ gone_on next m after >>= runs_from
    gone_runs (passed.Turn (turn.Reply thread answer), c) = play_runs m.left m.bodies c thread answer
    gone_runs (passed.Turn (turn.Start thread), c) = play_runs m.left m.bodies c thread reply.Start
    gone_runs (passed.Turn (turn.Ended value), c) = refl
    gone_runs (passed.AtBranch, c) = h c

    chosen_runs : (choice : Choice) → (chooses m.course choice >>= further again) >>= onward m.left m.bodies ≡ from_schedule next m choice >>= runs_from
    chosen_runs choice = bound (chooses m.course choice) _ _ ∙ then_same (chooses m.course choice) _ _ gone_runs ∙ sym (bound (chooses m.course choice) _ _)

  schedule_runs : (bodies : List S) (c : Course D) (left more : ℕ)
      → runs_from (Stands (record { bodies = bodies; course = c; more = more; left = left })) ≡ at_schedule next (record { bodies = bodies; course = c; more = more; left = left }) >>= runs_from
  unfolding schedule
  schedule_runs bodies c left zero =
      ap (Asks (which_thread (is_on c.exploring) (offers c.world) (unordered_in c))) (fun_ext (λ choice. chosen_runs (record { bodies = bodies; course = c; more = zero; left = left }) (λ v. Fails Misuse) (λ d. refl) choice))
  schedule_runs bodies c left (suc more) =
      ap (Asks (which_thread (is_on c.exploring) (offers c.world) (unordered_in c))) (fun_ext (λ choice. chosen_runs (record { bodies = bodies; course = c; more = suc more; left = left }) (schedule more) (λ d. refl) choice))

  -- what comes at a schedule is asked there
  pub asked_runs : (m : Moment D S) → runs_from (Stands m) ≡ at_schedule next m >>= runs_from
  asked_runs m = schedule_runs m.bodies m.course m.left m.more
