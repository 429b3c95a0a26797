-- What the rules keep, from one state of the machine to the next, holds of each event.
use Rattle.std.proofs.Common.{ℕ, zero, suc, Bool, List, [], ◌∷◌, Some, None}
use Rattle.std.specs.Prelude.{Result, Ok, Err, ⊤}
use Rattle.loom_views.specs.declared.rt.failure.FailureKind.{FailureKind}
use Rattle.loom_objects.specs.declared.choice.Choice.{Choice}
use Rattle.loom_objects.specs.declared.choice.Choice.TheVariants as choice
use Rattle.loom_objects.specs.declared.operation.Request.{Request}
use Rattle.loom_objects.specs.declared.operation.Reply.{Reply}
use Rattle.loom_objects.specs.declared.operation.Reply.TheVariants as reply
use Rattle.loom_objects.specs.declared.operation.Turn.{Turn}
use Rattle.loom_objects.specs.declared.operation.Turn.TheVariants as turn
use Rattle.loom_objects.specs.declared.rt.run.Entry.{Entry}
use Rattle.loom_objects.specs.declared.rt.run.Entry.TheVariants.{Answered, AtBranch, Explores, Spurious as AtSpurious}
use Rattle.loom_objects.specs.declared.rt.run.Loading.{Loading}
use Rattle.loom_objects.specs.declared.rt.run.Passed.{Passed}
use Rattle.loom_objects.specs.declared.rt.run.Passed.TheVariants as passed
use Rattle.loom_objects.specs.declared.rt.run.Resumed.{Resumed}
use Rattle.loom_objects.specs.declared.rt.run.Resumed.TheVariants as resumed
use Rattle.loom_objects.specs.Rules.Atomic.{reads}
use Rattle.loom_objects.specs.Rules.Tables.{chosen, counted}
use Rattle.loom_objects.specs.Rules.Ending.{all_ended, end_of}
use Rattle.loom_objects.specs.Exploring.{is_on, switched}
use Rattle.loom_objects.specs.Rules.Notify.{enters_wait as entered}
use Rattle.loom_objects.specs.Tree.Stores.{slots}
use Rattle.loom_objects.specs.Rules.Steps.{asked, asks_slot, begins, ends, enters_wait, read_slot, resumes, slot_of, told, turned}
use Rattle.loom_objects.specs.Tree.Tree.{Tree, ◌>>=◌, came}
use Rattle.loom_objects.specs.World.{World}
use Rattle.loom_engine.specs.Runs.Course.{Course, carried, grown_from, one_passed}
use Rattle.loom_engine.specs.Runs.Machine.{chooses, closes as closes_run, further, further_branches, goes_by, goes_on, passes, schedule, submit, waits}
use Rattle.loom_engine.proofs.Runs.Answering.{Answers}
use Rattle.loom_engine.proofs.Runs.Carrying.{InWorld, accesses_keeps, carried_keeps}
use Rattle.loom_engine.proofs.Runs.Events.{Anything}
use Rattle.loom_engine.proofs.Runs.Keeping.{Keeps, gives, fails, closes, asks as questions, then_keeps, check_keeps}

pub answers_keeps : {A : Type 0} {P : A → Type 0} (r : Result A FailureKind) → Answers P r → Keeps P (came r)
answers_keeps (Ok a) h = gives a h
answers_keeps (Err kind) h = fails kind

pub came_anything : {A : Type 0} (r : Result A FailureKind) → Keeps Anything (came r)
came_anything (Ok a) = gives a tt
came_anything (Err kind) = fails kind

-- what holds where a schedule is asked, and of a turn; where a thread's access reads, and where one is to wait
module _ {D : Type 0} (Kept : World D → Type 0) (TurnTo : Turn D × World D → Type 0) where
  -- the active thread is told so
  abbrev pub ReplyTo : Reply D × World D → Type 0
  ReplyTo (reply, w) = TurnTo (turn.Reply w.active reply, w)

  abbrev pub PassedTo : Passed D × World D → Type 0
  PassedTo (passed.Turn turn, w) = TurnTo (turn, w)
  PassedTo (passed.AtBranch, w) = Kept w

  abbrev pub ResumedTo : Resumed D × World D → Type 0
  ResumedTo (resumed.Passed passed, w) = PassedTo (passed, w)
  ResumedTo (resumed.Load load, w) = (slot : ℕ) → Answers ReplyTo (reads load.access w slot)

  abbrev pub Waiting : ℕ → World D → Type 0
  Waiting n w = (is_spurious : Bool) → Answers (λ after. Kept after.1) (entered is_spurious n w)

  abbrev pub EnteredTo : Entry D × World D → Type 0
  EnteredTo (Answered reply, w) = ReplyTo (reply, w)
  EnteredTo (AtBranch, w) = Kept w
  EnteredTo (AtSpurious n, w) = Waiting n w
  EnteredTo (Explores todo, w) = ReplyTo (reply.Done, w)

  told_kept : (answered : Reply D × World D) → ReplyTo answered → Keeps TurnTo (told answered)
  told_kept (reply, w) k = gives _ k

  turned_kept : (tree : Tree (Turn D × World D)) → Keeps TurnTo tree → Keeps PassedTo (tree >>= turned)
  turned_kept tree h = then_keeps {Q = TurnTo} tree turned h (λ (turn, w) q. gives _ q)

  module _ (load : Loading) (w : World D) (k : (slot : ℕ) → Answers ReplyTo (reads load.access w slot)) where
    read_kept : (slot : ℕ) → Keeps PassedTo (read_slot load w slot >>= turned)
    read_kept slot = turned_kept _ (then_keeps {Q = ReplyTo} (came (reads load.access w slot)) told (answers_keeps (reads load.access w slot) (k slot)) told_kept)

    slot_kept : (o : Choice) → Keeps PassedTo (slot_of o >>= (λ slot. read_slot load w slot >>= turned))
    slot_kept (choice.Load slot) = read_kept slot
    slot_kept (choice.Thread t) = fails _
    slot_kept (choice.Spurious answer) = fails _

    slots_kept : (exploring : Bool) (numbers : List ℕ) → Keeps PassedTo (asks_slot exploring numbers >>= (λ slot. read_slot load w slot >>= turned))
    slots_kept exploring [] = fails _
    slots_kept exploring (lowest ∷ others) = questions _ _ slot_kept

  asked_kept : (exploring : Bool) (answered : Resumed D × World D) → ResumedTo answered → Keeps PassedTo (asked exploring answered)
  asked_kept exploring (resumed.Passed passed, w) k = gives _ k
  asked_kept exploring (resumed.Load load, w) k = slots_kept load w k exploring (slots load.readable)

  -- the rules that a schedule goes on by keep it
  module _ (choosing : (t : ℕ) (w : World D) → Kept w → Answers ResumedTo (chosen t w)) (ending : (w : World D) → Kept w → Answers TurnTo (end_of w)) where
    resumes_kept : (exploring : Bool) (t : ℕ) (w : World D) → Kept w → Keeps PassedTo (resumes exploring t w)
    resumes_kept exploring t w k = then_keeps {Q = ResumedTo} (came (chosen t w)) (asked exploring) (answers_keeps (chosen t w) (choosing t w k)) (asked_kept exploring)

    closes_kept : (c : Course D) → Kept c.world → Keeps (InWorld TurnTo) (closes_run c)
    closes_kept c k = check_keeps (all_ended c.world) _ _ (λ e. closes _ (carried_keeps c (ends c.world) (answers_keeps (end_of c.world) (ending c.world k))))

    goes_by_kept : (t : ℕ) (c : Course D) → Kept c.world → Keeps (InWorld PassedTo) (goes_by t c)
    goes_by_kept t c k = carried_keeps (one_passed c) (resumes (is_on c.exploring) t c.world) (resumes_kept (is_on c.exploring) t c.world k)

    chooses_kept : (c : Course D) (o : Choice) → Kept c.world → Keeps (InWorld PassedTo) (chooses c o)
    chooses_kept c (choice.Thread (Some t)) k = accesses_keeps t c (goes_by t) (λ order. goes_by_kept t (record c { order = order }) k)
    chooses_kept c (choice.Thread None) k = then_keeps {Q = InWorld TurnTo} (closes_run (one_passed c)) _ (closes_kept (one_passed c) k) (λ (turn, v) q. gives _ q)
    chooses_kept c (choice.Load slot) k = fails _
    chooses_kept c (choice.Spurious answer) k = fails _

    further_kept : (again : Course D → Tree (Turn D × Course D)) → ((v : Course D) → Kept v.world → Keeps (InWorld TurnTo) (again v))
        → (c : Course D) → Kept c.world → Keeps (InWorld TurnTo) (passes c >>= further again)
    further_kept again h c k = then_keeps {Q = InWorld PassedTo} (passes c) (further again) (questions _ _ (λ o. chooses_kept c o k)) onward
      where
        onward : (after : Passed D × Course D) → InWorld PassedTo after → Keeps (InWorld TurnTo) (further again after)
        onward (passed.Turn turn, v) q = gives _ q
        onward (passed.AtBranch, v) q = h v q

    pub schedule_kept : (more : ℕ) (c : Course D) → Kept c.world → Keeps (InWorld TurnTo) (schedule more c)
    unfolding schedule
    schedule_kept zero c k = further_kept _ (λ v q. fails _) c k
    schedule_kept (suc more) c k = further_kept (schedule more) (schedule_kept more) c k

    waits_kept : (n : ℕ) (c : Course D) (o : Choice) → Waiting n c.world → Keeps (InWorld TurnTo) (waits n c o)
    waits_kept n c (choice.Spurious answer) k =
        then_keeps {Q = InWorld (λ after. Kept after.1)} (carried (one_passed c) (enters_wait answer n c.world)) _
        (carried_keeps (one_passed c) (enters_wait answer n c.world) (answers_keeps (entered answer n c.world) (k answer)))
        (λ (_, v) q. schedule_kept further_branches v q)
    waits_kept n c (choice.Thread t) k = fails _
    waits_kept n c (choice.Load slot) k = fails _

    goes_on_kept : (entered : Entry D × Course D) → InWorld EnteredTo entered → Keeps (InWorld TurnTo) (goes_on entered)
    goes_on_kept (Answered reply, c) k = gives _ k
    goes_on_kept (AtBranch, c) k = schedule_kept further_branches c k
    goes_on_kept (AtSpurious n, c) k = questions _ _ (λ o. waits_kept n c o k)
    goes_on_kept (Explores todo, c) k = then_keeps {Q = Anything} (came (switched todo c.exploring)) _ (came_anything (switched todo c.exploring)) (λ exploring q. gives _ k)

    -- an operation that begins so leads to such a turn
    pub event_kept : (todo : Request D ⊤) (c : Course D) → Answers EnteredTo (counted todo c.world) → Keeps (InWorld TurnTo) (submit todo c)
    event_kept todo c h =
        then_keeps {Q = InWorld EnteredTo} (carried c (begins todo c.world)) _ (carried_keeps c (begins todo c.world) (answers_keeps (counted todo c.world) h))
        (λ (entry, v) q. goes_on_kept (entry, grown_from c.world v) q)
