-- Each operation keeps locks sound, so every history does.
use Rattle.std.proofs.Common.{◌≡◌, ℕ, zero, suc, Bool, List, [], ◌∷◌, Some, None}
use Rattle.std.specs.Prelude.{slice_get, Result, Ok, Err, ⊤}
use Rattle.loom_views.specs.declared.rt.failure.FailureKind.{FailureKind}
use Rattle.loom_objects.specs.declared.choice.Choice.{Choice}
use Rattle.loom_objects.specs.declared.choice.Choice.TheVariants as choice
use Rattle.loom_objects.specs.declared.operation.Request.{Request}
use Rattle.loom_objects.specs.declared.operation.Reply.{Reply}
use Rattle.loom_objects.specs.declared.operation.Turn.{Turn}
use Rattle.loom_objects.specs.declared.rt.run.Entry.{Entry}
use Rattle.loom_objects.specs.declared.rt.run.Entry.TheVariants.{Answered, AtBranch, Explores, Spurious as AtSpurious}
use Rattle.loom_objects.specs.declared.rt.run.Loading.{Loading}
use Rattle.loom_objects.specs.declared.rt.run.Passed.{Passed}
use Rattle.loom_objects.specs.declared.rt.run.Passed.TheVariants as passed
use Rattle.loom_objects.specs.declared.rt.run.Resumed.{Resumed}
use Rattle.loom_objects.specs.declared.rt.run.Resumed.TheVariants as resumed
use Rattle.loom_objects.specs.Rules.Atomic.{reads}
use Rattle.loom_objects.specs.Rules.Tables.{chosen, counted}
use Rattle.loom_objects.specs.Rules.Ending.{all_ended, end_of}
use Rattle.loom_objects.specs.Exploring.{is_on, switched}
use Rattle.loom_objects.specs.Rules.Notify.{enters_wait as entered}
use Rattle.loom_objects.specs.Tree.Stores.{slots}
use Rattle.loom_objects.specs.Rules.Steps.{asked, asks_slot, begins, ends, enters_wait, read_slot, resumes, slot_of, told, turned}
use Rattle.loom_objects.specs.Tree.Tree.{Tree, ◌>>=◌, came}
use Rattle.loom_objects.specs.World.{World, main_thread}
use Rattle.loom_engine.specs.Runs.Course.{Course, carried, grown_from, one_passed, opening}
use Rattle.loom_engine.specs.Runs.Histories.{IsReached, at_first, later, LocksLaw, returned_by, opened_by}
use Rattle.loom_engine.specs.Runs.Machine.{chooses, closes as closes_run, further, further_branches, goes_by, goes_on, passes, schedule, submit, waits}
use Rattle.loom_engine.proofs.Runs.Keeping.{Keeps, gives, fails, closes, asks as questions, kept_value, then_keeps, check_keeps, all_exclusive}
use Rattle.loom_engine.proofs.Runs.Tables.{Choosing, Ending, chosen_choosing, counted_entering, counted_opening, end_ending}
use Rattle.loom_objects.specs.declared.operation.Turn.TheVariants as turn
use Rattle.loom_engine.proofs.Runs.Kinds.Atomics.{reads_keeping}
use Rattle.loom_engine.proofs.Runs.Events.{Anything}
use Rattle.loom_engine.proofs.Runs.Carrying.{InWorld, accesses_keeps, carried_keeps}
use Rattle.loom_engine.proofs.Runs.Kinds.Notifiers.{enters_wait_keeping}
use Rattle.loom_engine.proofs.Runs.States.{Aim, Kept, Out, Ready, Soundness, Taken, Told, TurnTo, freed_at}
use Rattle.loom_engine.proofs.Runs.Ruling.{Entered, Entering, Freely, Onward, freely, Opened, Opening, PassedTo, ResumedTo, Telling}
use Rattle.loom_engine.proofs.Runs.Replies.{reads_quiet, tells}

came_keeps : {A : Type 0} {P : A → Type 0} (Q : A → Type 0) (r : Result A FailureKind) → Freely Q r → ((a : A) → Q a → P a) → Keeps P (came r)
came_keeps Q (Ok a) q h = gives a (h a q)
came_keeps Q (Err kind) fair h = fails kind

came_anything : {A : Type 0} (r : Result A FailureKind) → Keeps Anything (came r)
came_anything (Ok a) = gives a tt
came_anything (Err kind) = fails kind

module _ {D : Type 0} (out : Aim) where
  told_kept : (answered : Reply D × World D) → Told out answered → Keeps (TurnTo out) (told answered)
  told_kept (reply, w) k = gives _ k

  turned_kept : (tree : Tree (Turn D × World D)) → Keeps (TurnTo out) tree → Keeps (PassedTo out) (tree >>= turned)
  turned_kept tree h = then_keeps {Q = TurnTo out} tree turned h (λ (turn, w) q. gives _ q)

  -- ---- an access that reads

  module _ (load : Loading) (w : World D) (k : Ready out w) where
    read_kept : (slot : ℕ) → Keeps (PassedTo out) (read_slot load w slot >>= turned)
    read_kept slot =
        let told_so : Keeps (Told out) (came (reads load.access w slot)) =
        came_keeps (Telling w) (reads load.access w slot) (freely (Telling w) _ (tells w _ (reads_keeping load.access w slot) (reads_quiet load.access w slot))) (λ answered q. q out k) in
        turned_kept _ (then_keeps {Q = Told out} (came (reads load.access w slot)) told told_so told_kept)

    slot_kept : (o : Choice) → Keeps (PassedTo out) (slot_of o >>= (λ slot. read_slot load w slot >>= turned))
    slot_kept (choice.Load slot) = read_kept slot
    slot_kept (choice.Thread t) = fails _
    slot_kept (choice.Spurious answer) = fails _

    slots_kept : (exploring : Bool) (numbers : List ℕ) → Keeps (PassedTo out) (asks_slot exploring numbers >>= (λ slot. read_slot load w slot >>= turned))
    slots_kept exploring [] = fails _
    slots_kept exploring (lowest ∷ others) = questions _ _ slot_kept

  asked_kept : (exploring : Bool) (answered : Resumed D × World D) → ResumedTo out answered → Keeps (PassedTo out) (asked exploring answered)
  asked_kept exploring (resumed.Passed passed, w) k = gives _ k
  asked_kept exploring (resumed.Load load, w) k = slots_kept load w k exploring (slots load.readable)

  resumes_kept : (exploring : Bool) (t : ℕ) (w : World D) → Kept out w → Keeps (PassedTo out) (resumes exploring t w)
  resumes_kept exploring t w k =
      then_keeps {Q = ResumedTo out} (came (chosen t w)) (asked exploring) (came_keeps (Choosing w) (chosen t w) (chosen_choosing t w) (λ answered q. q out k)) (asked_kept exploring)

  -- ---- schedules, events, and histories

  closes_kept : (c : Course D) → Kept out c.world → Keeps (InWorld (TurnTo out)) (closes_run c)
  closes_kept c k = check_keeps (all_ended c.world) _ _ (λ e. closes _ (carried_keeps c (ends c.world) (came_keeps (Ending c.world) (end_of c.world) (freely (Ending c.world) _ (end_ending c.world)) (λ answered q. q out k))))

  goes_by_kept : (t : ℕ) (c : Course D) → Kept out c.world → Keeps (InWorld (PassedTo out)) (goes_by t c)
  goes_by_kept t c k = carried_keeps (one_passed c) (resumes (is_on c.exploring) t c.world) (resumes_kept (is_on c.exploring) t c.world k)

  chooses_kept : (c : Course D) (o : Choice) → Kept out c.world → Keeps (InWorld (PassedTo out)) (chooses c o)
  chooses_kept c (choice.Thread (Some t)) k = accesses_keeps t c (goes_by t) (λ order. goes_by_kept t (record c { order = order }) k)
  chooses_kept c (choice.Thread None) k = then_keeps {Q = InWorld (TurnTo out)} (closes_run (one_passed c)) _ (closes_kept (one_passed c) k) (λ (turn, v) q. gives _ q)
  chooses_kept c (choice.Load slot) k = fails _
  chooses_kept c (choice.Spurious answer) k = fails _

  passes_kept : (c : Course D) → Kept out c.world → Keeps (InWorld (PassedTo out)) (passes c)
  passes_kept c k = questions _ _ (λ o. chooses_kept c o k)

  further_kept : (again : Course D → Tree (Turn D × Course D)) → ((v : Course D) → Kept out v.world → Keeps (InWorld (TurnTo out)) (again v))
      → (c : Course D) → Kept out c.world → Keeps (InWorld (TurnTo out)) (passes c >>= further again)
  further_kept again h c k = then_keeps {Q = InWorld (PassedTo out)} (passes c) (further again) (passes_kept c k) onward
    where
      onward : (after : Passed D × Course D) → InWorld (PassedTo out) after → Keeps (InWorld (TurnTo out)) (further again after)
      onward (passed.Turn turn, v) q = gives _ q
      onward (passed.AtBranch, v) q = h v q.kept

  schedule_kept : (more : ℕ) (c : Course D) → Kept out c.world → Keeps (InWorld (TurnTo out)) (schedule more c)
  unfolding schedule
  schedule_kept zero c k = further_kept _ (λ v q. fails _) c k
  schedule_kept (suc more) c k = further_kept (schedule more) (schedule_kept more) c k

  waits_kept : (n : ℕ) (c : Course D) (o : Choice) → Ready out c.world → Keeps (InWorld (TurnTo out)) (waits n c o)
  waits_kept n c (choice.Spurious answer) k =
      then_keeps {Q = InWorld (λ after. Ready out after.1)} (carried (one_passed c) (enters_wait answer n c.world)) _
      (carried_keeps (one_passed c) (enters_wait answer n c.world) (came_keeps (Onward c.world) (entered answer n c.world) (freely (Onward c.world) _ (enters_wait_keeping answer n c.world)) (λ after q. q out k)))
      (λ (_, v) q. schedule_kept further_branches v q.kept)
  waits_kept n c (choice.Thread t) k = fails _
  waits_kept n c (choice.Load slot) k = fails _

  goes_on_kept : (entered : Entry D × Course D) → InWorld (Entered out) entered → Keeps (InWorld (TurnTo out)) (goes_on entered)
  goes_on_kept (Answered reply, c) k = gives _ k
  goes_on_kept (AtBranch, c) k = schedule_kept further_branches c k
  goes_on_kept (AtSpurious n, c) k = questions _ _ (λ o. waits_kept n c o k)
  goes_on_kept (Explores todo, c) k = then_keeps {Q = Anything} (came (switched todo c.exploring)) _ (came_anything (switched todo c.exploring)) (λ exploring q. gives _ (k, λ n e. absurd (cc e)))

  -- an operation that doesn't give back the mutex that is out
  pub submit_kept : (todo : Request D ⊤) (c : Course D) → ((m : ℕ) → out ≡ Out m → returned_by todo ≡ Some m → ⊥) → Ready out c.world → Keeps (InWorld (TurnTo out)) (submit todo c)
  submit_kept todo c other k =
      then_keeps {Q = InWorld (Entered out)} (carried c (begins todo c.world)) _
      (carried_keeps c (begins todo c.world) (came_keeps (Entering (returned_by todo) c.world) (counted todo c.world) (freely (Entering (returned_by todo) c.world) _ (counted_entering todo c.world)) (λ answered q. q out other k)))
      (λ (entry, v) q. goes_on_kept (entry, grown_from c.world v) q)

  -- one that takes the data of a mutex out at once
  opens_kept : (n : ℕ) (entered : Entry D × Course D) → InWorld (Opened out n) entered → Keeps (λ turned. Taken out n turned.1.world) (goes_on entered)
  opens_kept n (Answered reply, c) k = gives _ k.1.1
  opens_kept n (AtBranch, c) k = absurd k
  opens_kept n (AtSpurious m, c) k = absurd k
  opens_kept n (Explores todo, c) k = absurd k

  pub submit_opens : (todo : Request D ⊤) (n : ℕ) (c : Course D) → opened_by todo ≡ Some n → Ready out c.world → Keeps (λ turned. Taken out n turned.1.world) (submit todo c)
  submit_opens todo n c e k =
      then_keeps {Q = InWorld (Opened out n)} (carried c (begins todo c.world)) _
      (carried_keeps c (begins todo c.world) (came_keeps (Opening n c.world) (counted todo c.world) (freely (Opening n c.world) _ (counted_opening todo n c.world e)) (λ answered q. q out k)))
      (λ (entry, v) q. opens_kept n (entry, grown_from c.world v) q)

-- main isn't about to wait
first_frees : (D : Type 0) (t m : ℕ) → freed_at (slice_get (main_thread {D = D} ∷ []) t) ≡ Some m → ⊥
first_frees D zero m e = cc e
first_frees D (suc t) m e = cc e

module _ {D : Type 0} where
  -- nothing is out before the first operation
  pub opening_ready : (out : Aim) (explores : Bool) (max_threads max_steps : ℕ) → ((n : ℕ) → out ≡ Out n → ⊥) → Ready {D = D} out (opening explores max_threads max_steps).world
  opening_ready out explores max_threads max_steps nothing = record {
    kept = record {
      sound = tt;
      held = λ f t m e. absurd (first_frees D t m e);
      empty = λ n e. absurd (nothing n e);
      unfreed = λ t n e f. nothing n e;
    };
    idle = λ f m e. first_frees D 0 m e;
  }

  -- where just sound locks are followed, a state is as good as one in which a thread has its turn
  sound_ready : (answered : Turn D × Course D) → InWorld (TurnTo Soundness) answered → Ready Soundness answered.1.world
  sound_ready (turn.Reply t reply, c) k = k.0
  sound_ready (turn.Start t, c) k = k
  sound_ready (turn.Ended value, c) k = record { kept = k; idle = λ f. absurd f }

  reached_kept : (max_threads max_steps : ℕ) (c : Course D) → IsReached max_threads max_steps c → Ready Soundness c.world
  reached_kept max_threads max_steps c (at_first explores) = opening_ready Soundness explores max_threads max_steps (λ n e. cc e)
  reached_kept max_threads max_steps c (later old event v reached comes) =
      sound_ready (event.turn, v) (kept_value (submit event.op old) event.choices (event.turn, v) (submit_kept Soundness event.op old (λ n e f. cc e) (reached_kept max_threads max_steps old reached)) comes)

pub locks_law : {D : Type 0} → LocksLaw D
locks_law max_threads max_steps c reached = all_exclusive c.world.objects (reached_kept max_threads max_steps c reached).kept.sound
