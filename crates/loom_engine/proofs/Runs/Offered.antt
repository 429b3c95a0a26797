-- What the rules keep holds of each event whose choices are options, and of its failures: an access reads no slot but one that it may.
use Rattle.std.proofs.Common.{◌≡◌, ◌+◌, ℕ, zero, suc, Bool, true, false, List, [], ◌∷◌, map, Option, Some, None, refl, sym, subst, inl, inr, arith}
use Rattle.std.specs.Prelude.{slice_get, Result, Ok, Err, ⊤}
use Rattle.loom_views.specs.declared.rt.failure.FailureKind.{FailureKind}
use Rattle.loom_views.specs.declared.rt.failure.FailureKind.TheVariants.{Deadlock, Misuse}
use Rattle.loom_objects.specs.Dependence.Order.{Order}
use Rattle.loom_objects.specs.declared.choice.Choice.{Choice}
use Rattle.loom_objects.specs.declared.choice.Choice.TheVariants as choice
use Rattle.loom_objects.specs.declared.operation.ExploreOp.{ExploreOp}
use Rattle.loom_objects.specs.declared.operation.ExploreOp.TheVariants as explore_op
use Rattle.loom_objects.specs.declared.operation.Request.{Request}
use Rattle.loom_objects.specs.declared.operation.Reply.{Reply}
use Rattle.loom_objects.specs.declared.operation.Reply.TheVariants as reply
use Rattle.loom_objects.specs.declared.operation.Turn.{Turn}
use Rattle.loom_objects.specs.declared.operation.Turn.TheVariants as turn
use Rattle.loom_objects.specs.declared.rt.exploring.Exploring.{Exploring}
use Rattle.loom_objects.specs.declared.rt.exploring.Exploring.TheVariants.{On, Off, Skipping}
use Rattle.loom_objects.specs.declared.rt.run.Entry.{Entry}
use Rattle.loom_objects.specs.declared.rt.run.Entry.TheVariants.{Answered, AtBranch, Explores, Spurious as AtSpurious}
use Rattle.loom_objects.specs.declared.rt.run.Loading.{Loading}
use Rattle.loom_objects.specs.declared.rt.run.Passed.{Passed}
use Rattle.loom_objects.specs.declared.rt.run.Passed.TheVariants as passed
use Rattle.loom_objects.specs.declared.rt.run.Resumed.{Resumed}
use Rattle.loom_objects.specs.declared.rt.run.Resumed.TheVariants as resumed
use Rattle.loom_objects.specs.Exploring.{is_on, switched}
use Rattle.loom_objects.specs.Rules.Atomic.{reads}
use Rattle.loom_objects.specs.Rules.Ending.{all_ended, end_of}
use Rattle.loom_objects.specs.Rules.Notify.{enters_wait as entered}
use Rattle.loom_objects.specs.Rules.Steps.{asked, asks_slot, ends, enters_wait, read_slot, resumes, slot_of, told, turned}
use Rattle.loom_objects.specs.Rules.Tables.{chosen, counted}
use Rattle.loom_objects.specs.Schedule.Offers.{offers}
use Rattle.loom_objects.specs.Rules.Uses.{use_at}
use Rattle.loom_objects.specs.Tree.Question.{Among, Question, made_of}
use Rattle.loom_objects.specs.Tree.Stores.{slots, slots_from}
use Rattle.loom_objects.specs.Tree.Tree.{Tree, Gives, Fails, Closes, Asks, ◌>>=◌, came, check}
use Rattle.loom_objects.specs.World.{World}
use Rattle.loom_engine.specs.Runs.Course.{Course, accesses, carried, grown_from, one_passed, unordered_in, used_in, with_order}
use Rattle.loom_engine.specs.Runs.Histories.{ComesBy}
use Rattle.loom_engine.specs.Runs.Loads.{AreOptions}
use Rattle.loom_engine.specs.Runs.Machine.{chooses, closes as closes_run, further, further_branches, goes_by, goes_on, passes, schedule, submit, waits}
use Rattle.loom_engine.proofs.Runs.Answering.{Answers}
use Rattle.loom_engine.proofs.Runs.Carrying.{InWorld, used_fair}
use Rattle.loom_engine.proofs.Runs.Defaults.{options_are_flags, options_are_loads, options_are_threads, IsFlagChoice, IsLoadChoice, IsThreadChoice}
use Rattle.loom_engine.proofs.Runs.Events.{Anything}
use Rattle.loom_engine.proofs.Runs.Fairness.{AnswersBy, IsFairResult, IsOwn}
use Rattle.loom_engine.proofs.Runs.Lifting.{EnteredTo, PassedTo, ReplyTo}
use Rattle.loom_engine.proofs.Runs.Ruling.{misuse}

-- ---- trees

-- whatever is chosen of the options, from this last choice on, the one holds of the last choice and of what it gives, and the other of
-- its failure
pub data Offers {A : Type 0} (F : FailureKind → Type 0) (P : Option Choice → A → Type 0) : Option Choice → Tree A → Type 0 where
  gives : (last : Option Choice) (value : A) → P last value → Offers F P last (Gives value)
  fails : (last : Option Choice) (kind : FailureKind) → F kind → Offers F P last (Fails kind)
  closes : (last : Option Choice) (rest : Tree A) → Offers F P last rest → Offers F P last (Closes rest)
  asks : (last : Option Choice) (question : Question) (branches : Choice → Tree A) → ((choice : Choice) → Among choice (made_of question).options → Offers F P (Some choice) (branches choice)) → Offers F P last (Asks question branches)

-- it may fail in any way
abbrev pub AnyWay : FailureKind → Type 0
AnyWay kind = Unit {0}

-- the last of these choices after that one
abbrev pub last_of : Option Choice → List Choice → Option Choice
last_of last [] = last
last_of last (choice ∷ choices) = last_of (Some choice) choices

module _ {A : Type 0} {F : FailureKind → Type 0} {P : Option Choice → A → Type 0} where
  pub offered_value : (last : Option Choice) (tree : Tree A) (choices : List Choice) (a : A) → Offers F P last tree → AreOptions tree choices → ComesBy tree choices a → P (last_of last choices) a
  offered_value last tree [] a (gives l value h) options comes = subst (P last) comes h
  offered_value last tree (choice ∷ choices) a (gives l value h) options comes = absurd comes
  offered_value last tree choices a (fails l kind f) options comes = absurd comes
  offered_value last tree choices a (closes l rest h) options comes = offered_value last rest choices a h options comes
  offered_value last tree [] a (asks l question branches h) options comes = absurd comes
  offered_value last tree (choice ∷ choices) a (asks l question branches h) options comes = offered_value (Some choice) (branches choice) choices a (h choice options.0) options.1 comes

module _ {A B : Type 0} {F : FailureKind → Type 0} {P : Option Choice → B → Type 0} where
  then_offers : {Q : Option Choice → A → Type 0} (last : Option Choice) (tree : Tree A) (next : A → Tree B) → Offers F Q last tree → ((now : Option Choice) (a : A) → Q now a → Offers F P now (next a)) → Offers F P last (tree >>= next)
  then_offers last tree next (gives l a q) h = h last a q
  then_offers last tree next (fails l kind f) h = fails last kind f
  then_offers last tree next (closes l rest k) h = closes last _ (then_offers last rest next k h)
  then_offers last tree next (asks l question branches k) h = asks last question _ (λ choice among. then_offers (Some choice) (branches choice) next (k choice among) h)

check_offers : {B : Type 0} {F : FailureKind → Type 0} {P : Option Choice → B → Type 0} (last : Option Choice) (passes : Bool) (kind : FailureKind) (next : ⊤ → Tree B) → F kind → Offers F P last (next tt)
    → Offers F P last (check passes kind >>= next)
check_offers last true kind next f h = h
check_offers last false kind next f h = fails last kind f

-- a rule without a choice
answers_offer : {A : Type 0} {F : FailureKind → Type 0} {P : Option Choice → A → Type 0} (last : Option Choice) (r : Result A FailureKind) → AnswersBy F (P last) r → Offers F P last (came r)
answers_offer last (Ok a) h = gives last a h
answers_offer last (Err kind) h = fails last kind h

-- a switch that would change nothing fails by itself
switched_own : (todo : ExploreOp) (exploring : Exploring) → AnswersBy IsOwn Anything (switched todo exploring)
switched_own explore_op.Explore On = λ e. cc
switched_own explore_op.Explore Off = tt
switched_own explore_op.Explore Skipping = tt
switched_own explore_op.StopExploring On = tt
switched_own explore_op.StopExploring Off = λ e. cc
switched_own explore_op.StopExploring Skipping = tt
switched_own explore_op.SkipBranch exploring = tt

-- a slot that is offered is in the set
slot_in : (readable : List Bool) (k slot : ℕ) → Among (choice.Load slot) (map (λ s. choice.Load s) (slots_from k readable)) → (j : ℕ) × ((slot ≡ k + j) × (slice_get readable j ≡ Some true))
slot_in [] k slot h = absurd h
slot_in (true ∷ readable) k slot (inl e) = let f : slot ≡ k = cc e in (0, (omega arith, refl))
slot_in (true ∷ readable) k slot (inr h) = let r = slot_in readable (suc k) slot h in (suc r.0, (let e = r.1.0 in omega arith, r.1.1))
slot_in (false ∷ readable) k slot h = let r = slot_in readable (suc k) slot h in (suc r.0, (let e = r.1.0 in omega arith, r.1.1))

pub slot_offered : (readable : List Bool) (slot : ℕ) → Among (choice.Load slot) (map (λ s. choice.Load s) (slots readable)) → slice_get readable slot ≡ Some true
slot_offered readable slot h = let r = slot_in readable 0 slot h in let same : r.0 ≡ slot = (let e = r.1.0 in omega arith) in subst (λ j. slice_get readable j ≡ Some true) same r.1.1

module _ {D : Type 0} {F : FailureKind → Type 0} where
  carried_offers : {A : Type 0} {P : Option Choice → A × World D → Type 0} (last : Option Choice) (c : Course D) (tree : Tree (A × World D)) → Offers F P last tree → Offers F (λ now. InWorld (P now)) last (carried c tree)
  carried_offers last c tree (gives l (a, w) h) = gives last _ h
  carried_offers last c tree (fails l kind f) = fails last kind f
  carried_offers last c tree (closes l rest h) = closes last _ (carried_offers last c rest h)
  carried_offers last c tree (asks l question branches h) = asks last question _ (λ choice among. carried_offers (Some choice) (one_passed c) (branches choice) (h choice among))

  accesses_offer : {A : Type 0} {P : Option Choice → A → Type 0} (own : (kind : FailureKind) → IsOwn kind → F kind) (last : Option Choice) (t : ℕ) (c : Course D) (next : Course D → Tree A)
      → ((order : Order) → Offers F P last (next (record c { order = order }))) → Offers F P last (came (accesses t c) >>= next)
  accesses_offer {P = P} own last t c next h = by_order (used_in t c (use_at c.world.threads t)) (used_fair t c (use_at c.world.threads t))
    where
      by_order : (r : Result Order FailureKind) → IsFairResult r → Offers F P last (came (with_order c r) >>= next)
      by_order (Ok order) fair = h order
      by_order (Err kind) fair = fails last kind (own kind fair)

-- what holds where a schedule is asked, and of a turn and the last choice before it; where a thread's access reads a slot that it may, and
-- where one is to wait. What fails by itself may do so
module _ {D : Type 0} (F : FailureKind → Type 0) (own : (kind : FailureKind) → IsOwn kind → F kind) (Kept : World D → Type 0) (TurnTo : Option Choice → Turn D × World D → Type 0) where
  -- once thread t is chosen
  abbrev pub ResumedSo : ℕ → Resumed D × World D → Type 0
  ResumedSo t (resumed.Passed passed, w) = PassedTo Kept (TurnTo (Some (choice.Thread (Some t)))) (passed, w)
  ResumedSo t (resumed.Load load, w) = (slot : ℕ) → slice_get load.readable slot ≡ Some true → AnswersBy F (ReplyTo Kept (TurnTo (Some (choice.Load slot)))) (reads load.access w slot)

  abbrev pub EnteredSo : Entry D × World D → Type 0
  EnteredSo (Answered reply, w) = ReplyTo Kept (TurnTo None) (reply, w)
  EnteredSo (AtBranch, w) = Kept w
  EnteredSo (AtSpurious n, w) = (is_spurious : Bool) → AnswersBy F (λ after. Kept after.1) (entered is_spurious n w)
  EnteredSo (Explores todo, w) = ReplyTo Kept (TurnTo None) (reply.Done, w)

  -- a turn, or another branch point, after this last choice
  abbrev PassedSo : Option Choice → Passed D × World D → Type 0
  PassedSo last = PassedTo Kept (TurnTo last)

  told_kept : (last : Option Choice) (answered : Reply D × World D) → ReplyTo Kept (TurnTo last) answered → Offers F TurnTo last (told answered)
  told_kept last (reply, w) k = gives last _ k

  turned_kept : (last : Option Choice) (tree : Tree (Turn D × World D)) → Offers F TurnTo last tree → Offers F PassedSo last (tree >>= turned)
  turned_kept last tree h = then_offers {Q = TurnTo} last tree turned h (λ now (turn, w) q. gives now _ q)

  module _ (load : Loading) (w : World D) (k : (slot : ℕ) → slice_get load.readable slot ≡ Some true → AnswersBy F (ReplyTo Kept (TurnTo (Some (choice.Load slot)))) (reads load.access w slot)) where
    read_kept : (slot : ℕ) → slice_get load.readable slot ≡ Some true → Offers F PassedSo (Some (choice.Load slot)) (read_slot load w slot >>= turned)
    read_kept slot may =
        turned_kept (Some (choice.Load slot)) _ (then_offers {Q = λ now. ReplyTo Kept (TurnTo now)} (Some (choice.Load slot)) (came (reads load.access w slot)) told (answers_offer (Some (choice.Load slot)) (reads load.access w slot) (k slot may)) told_kept)

    slot_kept : (o : Choice) → IsLoadChoice o → Among o (map (λ s. choice.Load s) (slots load.readable)) → Offers F PassedSo (Some o) (slot_of o >>= (λ slot. read_slot load w slot >>= turned))
    slot_kept (choice.Load slot) h among = read_kept slot (slot_offered load.readable slot among)
    slot_kept (choice.Thread t) h among = absurd h
    slot_kept (choice.Spurious answer) h among = absurd h

    slots_kept : (last : Option Choice) (exploring : Bool) (numbers : List ℕ) → slots load.readable ≡ numbers → Offers F PassedSo last (asks_slot exploring numbers >>= (λ slot. read_slot load w slot >>= turned))
    slots_kept last exploring [] e = fails last Misuse (own Misuse misuse)
    slots_kept last exploring (lowest ∷ others) e =
        asks last _ _ (λ o among. slot_kept o (options_are_loads (lowest ∷ others) o among) (subst (λ numbers. Among o (map (λ s. choice.Load s) numbers)) (sym e) among))

  asked_kept : (exploring : Bool) (t : ℕ) (answered : Resumed D × World D) → ResumedSo t answered → Offers F PassedSo (Some (choice.Thread (Some t))) (asked exploring answered)
  asked_kept exploring t (resumed.Passed passed, w) k = gives _ _ k
  asked_kept exploring t (resumed.Load load, w) k = slots_kept load w k (Some (choice.Thread (Some t))) exploring (slots load.readable) refl

  -- the rules that a schedule goes on by keep it
  module _ (choosing : (t : ℕ) (w : World D) → Kept w → AnswersBy F (ResumedSo t) (chosen t w)) (ending : (w : World D) → Kept w → AnswersBy F (TurnTo (Some (choice.Thread None))) (end_of w)) where
    resumes_kept : (exploring : Bool) (t : ℕ) (w : World D) → Kept w → Offers F PassedSo (Some (choice.Thread (Some t))) (resumes exploring t w)
    resumes_kept exploring t w k = by_answer (chosen t w) (choosing t w k)
      where
        by_answer : (r : Result (Resumed D × World D) FailureKind) → AnswersBy F (ResumedSo t) r → Offers F PassedSo (Some (choice.Thread (Some t))) (came r >>= asked exploring)
        by_answer (Ok answered) h = asked_kept exploring t answered h
        by_answer (Err kind) h = fails _ kind h

    closes_kept : (c : Course D) → Kept c.world → Offers F (λ now. InWorld (TurnTo now)) (Some (choice.Thread None)) (closes_run c)
    closes_kept c k =
        check_offers _ (all_ended c.world) Deadlock _ (own Deadlock (λ e. cc))
        (closes _ _ (carried_offers {P = TurnTo} (Some (choice.Thread None)) c (ends c.world) (answers_offer (Some (choice.Thread None)) (end_of c.world) (ending c.world k))))

    goes_by_kept : (t : ℕ) (c : Course D) → Kept c.world → Offers F (λ now. InWorld (PassedSo now)) (Some (choice.Thread (Some t))) (goes_by t c)
    goes_by_kept t c k = carried_offers (Some (choice.Thread (Some t))) (one_passed c) (resumes (is_on c.exploring) t c.world) (resumes_kept (is_on c.exploring) t c.world k)

    chooses_kept : (c : Course D) (o : Choice) → IsThreadChoice o → Kept c.world → Offers F (λ now. InWorld (PassedSo now)) (Some o) (chooses c o)
    chooses_kept c (choice.Thread (Some t)) h k = accesses_offer own _ t c (goes_by t) (λ order. goes_by_kept t (record c { order = order }) k)
    chooses_kept c (choice.Thread None) h k = then_offers {Q = λ now. InWorld (TurnTo now)} (Some (choice.Thread None)) (closes_run (one_passed c)) _ (closes_kept (one_passed c) k) (λ now (turn, v) q. gives now _ q)
    chooses_kept c (choice.Load slot) h k = absurd h
    chooses_kept c (choice.Spurious answer) h k = absurd h

    further_kept : (again : Course D → Tree (Turn D × Course D)) → ((last : Option Choice) (v : Course D) → Kept v.world → Offers F (λ now. InWorld (TurnTo now)) last (again v))
        → (last : Option Choice) (c : Course D) → Kept c.world → Offers F (λ now. InWorld (TurnTo now)) last (passes c >>= further again)
    further_kept again h last c k =
        then_offers {Q = λ now. InWorld (PassedSo now)} last (passes c) (further again)
        (asks last _ _ (λ o among. chooses_kept c o (options_are_threads (is_on c.exploring) (offers c.world) (unordered_in c) o among) k)) onward
      where
        onward : (now : Option Choice) (after : Passed D × Course D) → InWorld (PassedSo now) after → Offers F (λ later. InWorld (TurnTo later)) now (further again after)
        onward now (passed.Turn turn, v) q = gives now _ q
        onward now (passed.AtBranch, v) q = h now v q

    schedule_kept : (more : ℕ) (last : Option Choice) (c : Course D) → Kept c.world → Offers F (λ now. InWorld (TurnTo now)) last (schedule more c)
    unfolding schedule
    schedule_kept zero last c k = further_kept _ (λ now v q. fails now Misuse (own Misuse misuse)) last c k
    schedule_kept (suc more) last c k = further_kept (schedule more) (schedule_kept more) last c k

    waits_kept : (n : ℕ) (c : Course D) (o : Choice) → IsFlagChoice o → ((is_spurious : Bool) → AnswersBy F (λ after. Kept after.1) (entered is_spurious n c.world)) → Offers F (λ now. InWorld (TurnTo now)) (Some o) (waits n c o)
    waits_kept n c (choice.Spurious answer) h k =
        then_offers {Q = λ now. InWorld (λ after. Kept after.1)} (Some (choice.Spurious answer)) (carried (one_passed c) (enters_wait answer n c.world)) _
        (carried_offers {P = λ now after. Kept after.1} (Some (choice.Spurious answer)) (one_passed c) (enters_wait answer n c.world) (answers_offer (Some (choice.Spurious answer)) (entered answer n c.world) (k answer)))
        (λ now (_, v) q. schedule_kept further_branches now v q)
    waits_kept n c (choice.Thread t) h k = absurd h
    waits_kept n c (choice.Load slot) h k = absurd h

    goes_on_kept : (entry : Entry D × Course D) → InWorld EnteredSo entry → Offers F (λ now. InWorld (TurnTo now)) None (goes_on entry)
    goes_on_kept (Answered reply, c) k = gives None _ k
    goes_on_kept (AtBranch, c) k = schedule_kept further_branches None c k
    goes_on_kept (AtSpurious n, c) k = asks None _ _ (λ o among. waits_kept n c o (options_are_flags (is_on c.exploring) o among) k)
    goes_on_kept (Explores todo, c) k = by_switch (switched todo c.exploring) (switched_own todo c.exploring)
      where
        by_switch : (r : Result Exploring FailureKind) → AnswersBy IsOwn Anything r
            → Offers F (λ now. InWorld (TurnTo now)) None (came r >>= (λ exploring. Gives (turn.Reply c.world.active reply.Done, record c { exploring = exploring })))
        by_switch (Ok exploring) h = gives None _ k
        by_switch (Err kind) h = fails None kind (own kind h)

    -- an operation that begins so comes by options to such a turn, or to such a failure
    pub event_offers_so : (todo : Request D ⊤) (c : Course D) → AnswersBy F EnteredSo (counted todo c.world) → Offers F (λ now. InWorld (TurnTo now)) None (submit todo c)
    event_offers_so todo c h = by_entry (counted todo c.world) h
      where
        by_entry : (r : Result (Entry D × World D) FailureKind) → AnswersBy F EnteredSo r → Offers F (λ now. InWorld (TurnTo now)) None (carried c (came r) >>= (λ (entry, after). goes_on (entry, grown_from c.world after)))
        by_entry (Ok (entry, w)) k = goes_on_kept (entry, grown_from c.world (record c { world = w })) k
        by_entry (Err kind) k = fails None kind k

-- ---- where nothing is said of failures

pub any_way : {A : Type 0} (P : A → Type 0) (r : Result A FailureKind) → Answers P r → AnswersBy AnyWay P r
any_way P (Ok a) h = h
any_way P (Err kind) h = tt

module _ {D : Type 0} (Kept : World D → Type 0) (TurnTo : Turn D × World D → Type 0) where
  abbrev pub ResumedBy : Resumed D × World D → Type 0
  ResumedBy (resumed.Passed passed, w) = PassedTo Kept TurnTo (passed, w)
  ResumedBy (resumed.Load load, w) = (slot : ℕ) → slice_get load.readable slot ≡ Some true → Answers (ReplyTo Kept TurnTo) (reads load.access w slot)

  any_resumed : (t : ℕ) (r : Result (Resumed D × World D) FailureKind) → Answers ResumedBy r → AnswersBy AnyWay (ResumedSo AnyWay (λ kind own. tt) Kept (λ last. TurnTo) t) r
  any_resumed t (Ok (resumed.Passed passed, w)) h = h
  any_resumed t (Ok (resumed.Load load, w)) h = λ slot may. any_way (ReplyTo Kept TurnTo) _ (h slot may)
  any_resumed t (Err kind) h = tt

  any_entered : (r : Result (Entry D × World D) FailureKind) → Answers (EnteredTo Kept TurnTo) r → AnswersBy AnyWay (EnteredSo AnyWay (λ kind own. tt) Kept (λ last. TurnTo)) r
  any_entered (Ok (Answered reply, w)) h = h
  any_entered (Ok (AtBranch, w)) h = h
  any_entered (Ok (AtSpurious n, w)) h = λ is_spurious. any_way (λ after. Kept after.1) _ (h is_spurious)
  any_entered (Ok (Explores todo, w)) h = h
  any_entered (Err kind) h = tt

  -- an operation that begins so comes by options to such a turn
  pub event_offers : ((t : ℕ) (w : World D) → Kept w → Answers ResumedBy (chosen t w)) → ((w : World D) → Kept w → Answers TurnTo (end_of w)) → (todo : Request D ⊤) (c : Course D)
      → Answers (EnteredTo Kept TurnTo) (counted todo c.world) → Offers AnyWay (λ last. InWorld TurnTo) None (submit todo c)
  event_offers choosing ending todo c h =
      event_offers_so AnyWay (λ kind own. tt) Kept (λ last. TurnTo) (λ t w k. any_resumed t (chosen t w) (choosing t w k)) (λ w k. any_way TurnTo (end_of w) (ending w k)) todo c (any_entered (counted todo c.world) h)
