-- Each operation that is handed over is an event, in each state of the machine.
use Rattle.std.proofs.Common.{◌≤◌, ℕ, zero, suc, Bool, true, false, List, [], ◌∷◌, length, Option, Some, None, arith}
use Rattle.std.specs.Prelude.{Result, Ok, Err, ⊤}
use Rattle.loom_views.specs.declared.rt.failure.FailureKind.{FailureKind}
use Rattle.loom_views.specs.declared.rt.failure.FailureKind.TheVariants.{Deadlock, ExploreSwitch, Misuse}
use Rattle.loom_objects.specs.declared.choice.Choice.{Choice}
use Rattle.loom_objects.specs.declared.choice.Choice.TheVariants as choice
use Rattle.loom_objects.specs.declared.operation.ExploreOp.{ExploreOp}
use Rattle.loom_objects.specs.declared.operation.ExploreOp.TheVariants as explore_op
use Rattle.loom_objects.specs.declared.operation.Request.{Request}
use Rattle.loom_objects.specs.declared.operation.Reply.{Reply}
use Rattle.loom_objects.specs.declared.operation.Turn.{Turn}
use Rattle.loom_objects.specs.declared.rt.exploring.Exploring.{Exploring}
use Rattle.loom_objects.specs.declared.rt.exploring.Exploring.TheVariants.{On, Off, Skipping}
use Rattle.loom_objects.specs.declared.rt.run.Entry.{Entry}
use Rattle.loom_objects.specs.declared.rt.run.Entry.TheVariants.{Answered, AtBranch, Explores, Spurious as AtSpurious}
use Rattle.loom_objects.specs.declared.rt.run.Loading.{Loading}
use Rattle.loom_objects.specs.declared.rt.run.Passed.{Passed}
use Rattle.loom_objects.specs.declared.rt.run.Passed.TheVariants as passed
use Rattle.loom_objects.specs.declared.rt.run.Resumed.{Resumed}
use Rattle.loom_objects.specs.declared.rt.run.Resumed.TheVariants as resumed
use Rattle.loom_objects.specs.Rules.Atomic.{reads}
use Rattle.loom_objects.specs.Rules.Tables.{chosen, counted}
use Rattle.loom_objects.specs.Rules.Ending.{all_ended, end_of}
use Rattle.loom_objects.specs.Exploring.{is_on, switched}
use Rattle.loom_objects.specs.Rules.Notify.{enters_wait as entered}
use Rattle.loom_objects.specs.Tree.Question.{Among, made_of}
use Rattle.loom_objects.specs.Tree.Stores.{slots}
use Rattle.loom_objects.specs.Schedule.Offers.{chooses as chooses_thread, offers}
use Rattle.loom_objects.specs.Rules.Steps.{asked, asks_slot, begins, ends, read_slot, resumes, slot_of, told, turned}
use Rattle.loom_objects.specs.Tree.Tree.{Tree, Closes, ◌>>=◌, came, check}
use Rattle.loom_objects.specs.World.{World}
use Rattle.loom_objects.specs.Tree.Asked.{which_thread}
use Rattle.loom_engine.specs.Runs.Course.{Course, carried, grown_from, one_passed, unordered_in}
use Rattle.loom_engine.specs.Runs.Machine.{chooses, closes as closes_run, further, further_branches, goes_by, goes_on, passes, schedule, submit, switches, waits}
use Rattle.loom_engine.proofs.Runs.Answering.{Answers, PassesActive, TellsActive, anything, answers_then, end_over}
use Rattle.loom_engine.proofs.Runs.Kinds.Atomics.{reads_keeping}
use Rattle.loom_engine.proofs.Runs.Carrying.{accesses_event, carried_event, carried_settles}
use Rattle.loom_engine.proofs.Runs.Defaults.{offers_ask, options_are_flags, options_are_loads, options_are_threads, slots_few, IsFlagChoice, IsLoadChoice}
use Rattle.loom_engine.proofs.Runs.Events.{Anything, GoesOn, HasEnded, IsEvent, IsOpen, IsOver, IsPass, IsShut, Settles, StaysOpen, asks, check_event, closes, event_after, event_open, shut_then, fails, fails_by_itself, goes, settles_at, then_event, turned_pass}
use Rattle.loom_engine.proofs.Runs.Tables.{Choosing, Ending, chosen_choosing, counted_entering, end_ending}
use Rattle.loom_engine.proofs.Runs.Kinds.Notifiers.{enters_wait_keeping}
use Rattle.loom_engine.specs.Runs.Histories.{returned_by}
use Rattle.loom_engine.proofs.Runs.Ruling.{Entering, Freely, Onward, freely}
use Rattle.loom_engine.proofs.Runs.Kinds.{effect_tells}
use Rattle.loom_objects.specs.declared.operation.Turn.TheVariants as turn

-- a rule without a choice settles: it gives something, or fails as itself
came_settles : {A : Type 0} {P : A → Type 0} (Q : A → Type 0) (r : Result A FailureKind) → Freely Q r → Answers P r → Settles P (came r)
came_settles Q (Ok answered) kept h = settles_at answered h
came_settles Q (Err kind) fair h = fails_by_itself kind fair

-- a switch that would change nothing is a failure of its own
switched_settles : (todo : ExploreOp) (exploring : Exploring) → Settles Anything (came (switched todo exploring))
switched_settles explore_op.Explore On = fails_by_itself ExploreSwitch (λ e. cc)
switched_settles explore_op.Explore Off = settles_at On tt
switched_settles explore_op.Explore Skipping = settles_at Skipping tt
switched_settles explore_op.StopExploring On = settles_at Off tt
switched_settles explore_op.StopExploring Off = fails_by_itself ExploreSwitch (λ e. cc)
switched_settles explore_op.StopExploring Skipping = settles_at Skipping tt
switched_settles explore_op.SkipBranch exploring = settles_at Skipping tt

module _ {D : Type 0} where
  -- ---- accesses

  told_goes : (answered : Reply D × World D) → IsEvent (told answered)
  told_goes answered = goes _ tt

  read_event : (load : Loading) (w : World D) (slot : ℕ) → IsEvent (read_slot load w slot)
  read_event load w slot =
      then_event {Q = Anything} (came (reads load.access w slot)) told (came_settles (Onward w) (reads load.access w slot) (freely (Onward w) _ (reads_keeping load.access w slot)) (anything (reads load.access w slot))) (λ answered q. told_goes answered)

  read_passes : (load : Loading) (w : World D) (slot : ℕ) → IsPass (read_slot load w slot >>= turned)
  read_passes load w slot = turned_pass _ (read_event load w slot)

  slot_passes : (load : Loading) (w : World D) (o : Choice) → IsLoadChoice o → IsPass (slot_of o >>= (λ slot. read_slot load w slot >>= turned))
  slot_passes load w (choice.Load slot) h = read_passes load w slot
  slot_passes load w (choice.Thread t) h = absurd h
  slot_passes load w (choice.Spurious answer) h = absurd h

  slot_open : (load : Loading) (w : World D) (o : Choice) → StaysOpen GoesOn (slot_of o >>= (λ slot. read_slot load w slot >>= turned))
  slot_open load w (choice.Load slot) = event_open _ (read_passes load w slot)
  slot_open load w (choice.Thread t) = tt
  slot_open load w (choice.Spurious answer) = tt

  asks_pass : (exploring : Bool) (load : Loading) (w : World D) (numbers : List ℕ) → length numbers ≤ 7 → IsPass (asks_slot exploring numbers >>= (λ slot. read_slot load w slot >>= turned))
  asks_pass exploring load w [] few = fails Misuse (λ f. cc)
  asks_pass exploring load w (lowest ∷ others) few =
      asks _ _ (omega arith) (λ o h. slot_passes load w o (options_are_loads (lowest ∷ others) o h)) (slot_open load w) (λ e. absurd (cc e))

  -- the active thread goes on
  active_goes : (after : Passed D × World D) → PassesActive after → GoesOn after
  active_goes (passed.Turn (turn.Reply t reply), w) h = tt
  active_goes (passed.Turn (turn.Start t), w) h = tt
  active_goes (passed.Turn (turn.Ended value), w) h = absurd h
  active_goes (passed.AtBranch, w) h = tt

  asked_pass : (exploring : Bool) (answered : Resumed D × World D) → TellsActive answered → IsPass (asked exploring answered)
  asked_pass exploring (resumed.Passed passed, w) told = goes (passed, w) (active_goes (passed, w) told)
  asked_pass exploring (resumed.Load load, w) seven = let few = slots_few load.readable 0 in asks_pass exploring load w (slots load.readable) (omega arith)

  chosen_tells : (t : ℕ) (w : World D) → Answers TellsActive (chosen t w)
  chosen_tells t w = answers_then TellsActive (chooses_thread t w) _ (λ ready. effect_tells ready.0 ready.1)

  resumes_event : (exploring : Bool) (t : ℕ) (w : World D) → IsPass (resumes exploring t w)
  resumes_event exploring t w = then_event {Q = TellsActive} (came (chosen t w)) (asked exploring) (came_settles (Choosing w) (chosen t w) (chosen_choosing t w) (chosen_tells t w)) (asked_pass exploring)

  ends_settles : (w : World D) → Settles IsOver (ends w)
  ends_settles w = came_settles (Ending w) (end_of w) (freely (Ending w) _ (end_ending w)) (end_over w)

  -- ---- schedules

  closes_event : (c : Course D) → IsEvent (closes_run c)
  closes_event c = check_event (all_ended c.world) Deadlock _ (λ e. cc) (closes _ (carried_settles c (ends c.world) (ends_settles c.world)))

  goes_by_event : (t : ℕ) (c : Course D) → IsPass (goes_by t c)
  goes_by_event t c = carried_event (one_passed c) (resumes (is_on c.exploring) t c.world) (resumes_event (is_on c.exploring) t c.world)

  chosen_event : (c : Course D) (o : Option ℕ) → IsPass (chooses c (choice.Thread o))
  chosen_event c (Some t) = accesses_event t c (goes_by t) (λ order. goes_by_event t (record c { order = order }))
  chosen_event c None = turned_pass _ (closes_event (one_passed c))

  option_event : (c : Course D) (o : Choice) → Among o (made_of (which_thread (is_on c.exploring) (offers c.world) (unordered_in c))).options → IsPass (chooses c o)
  option_event c (choice.Thread o) h = chosen_event c o
  option_event c (choice.Load slot) h = absurd (options_are_threads (is_on c.exploring) (offers c.world) (unordered_in c) (choice.Load slot) h)
  option_event c (choice.Spurious answer) h = absurd (options_are_threads (is_on c.exploring) (offers c.world) (unordered_in c) (choice.Spurious answer) h)

  choice_open : (c : Course D) (o : Choice) → StaysOpen GoesOn (chooses c o)
  choice_open c (choice.Thread o) = event_open _ (chosen_event c o)
  choice_open c (choice.Load slot) = tt
  choice_open c (choice.Spurious answer) = tt

  closes_shut : (c : Course D) → IsShut (closes_run c)
  closes_shut c = by_test (all_ended c.world)
    where
      by_test : (passes : Bool) → IsShut (check passes Deadlock >>= (λ u. Closes (carried c (ends c.world))))
      by_test true = tt
      by_test false = tt

  none_shut : (c : Course D) → IsShut (chooses c (choice.Thread None))
  none_shut c = shut_then (closes_run (one_passed c)) _ (closes_shut (one_passed c))

  passes_event : (c : Course D) → IsPass (passes c)
  passes_event c = asks _ _ (offers_ask (is_on c.exploring) c.world (unordered_in c)) (option_event c) (choice_open c) (λ e. none_shut c)

  module _ (again : Course D → Tree (Turn D × Course D)) where
    further_over : (after : Passed D × Course D) → HasEnded after → Settles IsOver (further again after)
    further_over (passed.Turn turn, c) over = settles_at (turn, c) over
    further_over (passed.AtBranch, c) over = absurd over

    further_event : ((v : Course D) → IsEvent (again v)) → (c : Course D) → IsEvent (passes c >>= further again)
    further_event h c = event_after (further again) going further_over (passes c) (passes_event c)
      where
        going : (after : Passed D × Course D) → GoesOn after → IsEvent (further again after)
        going (passed.Turn turn, v) goes_on = goes (turn, v) goes_on
        going (passed.AtBranch, v) goes_on = h v

  schedule_event : (more : ℕ) (c : Course D) → IsEvent (schedule more c)
  unfolding schedule
  schedule_event zero c = further_event _ (λ v. fails Misuse (λ f. cc)) c
  schedule_event (suc more) c = further_event (schedule more) (schedule_event more) c

  waits_event : (n : ℕ) (c : Course D) (o : Choice) → IsFlagChoice o → IsEvent (waits n c o)
  waits_event n c (choice.Spurious answer) h = then_event {Q = Anything} _ _
      (carried_settles (one_passed c) _ (came_settles (Onward c.world) (entered answer n c.world) (freely (Onward c.world) _ (enters_wait_keeping answer n c.world)) (anything (entered answer n c.world))))
      (λ after q. schedule_event further_branches after.1)
  waits_event n c (choice.Thread t) h = absurd h
  waits_event n c (choice.Load slot) h = absurd h

  waits_open : (n : ℕ) (c : Course D) (o : Choice) → IsOpen (waits n c o)
  waits_open n c (choice.Spurious answer) = event_open _ (waits_event n c (choice.Spurious answer) tt)
  waits_open n c (choice.Thread t) = tt
  waits_open n c (choice.Load slot) = tt

  switches_event : (todo : ExploreOp) (c : Course D) → IsEvent (switches todo c)
  switches_event todo c = then_event {Q = Anything} (came (switched todo c.exploring)) _ (switched_settles todo c.exploring) (λ exploring q. goes _ tt)

  goes_on_event : (entered : Entry D × Course D) → IsEvent (goes_on entered)
  goes_on_event (Answered reply, c) = goes _ tt
  goes_on_event (AtBranch, c) = schedule_event further_branches c
  goes_on_event (AtSpurious n, c) = asks _ _ tt (λ o h. waits_event n c o (options_are_flags (is_on c.exploring) o h)) (waits_open n c) (λ e. absurd (cc e))
  goes_on_event (Explores todo, c) = switches_event todo c

  pub submit_event : (todo : Request D ⊤) (c : Course D) → IsEvent (submit todo c)
  submit_event todo c = then_event (carried c (begins todo c.world)) _
      (carried_settles c (begins todo c.world) (came_settles (Entering (returned_by todo) c.world) (counted todo c.world) (freely (Entering (returned_by todo) c.world) _ (counted_entering todo c.world)) (anything (counted todo c.world))))
      (λ entered q. goes_on_event (entered.0, grown_from c.world entered.1))
