-- The runs of a body that never switches explore at each node.
use Rattle.std.proofs.Common.{◌≡◌, ℕ, zero, suc, Bool, true, false, List, [], ◌∷◌, Option, Some, None, refl, ap}
use Rattle.std.specs.Prelude.{slice_get, Result, Ok, Err, ⊤}
use Rattle.loom_views.specs.declared.rt.failure.FailureKind.{FailureKind}
use Rattle.loom_views.specs.declared.rt.failure.FailureKind.TheVariants.{Deadlock, Misuse, TooManySteps}
use Rattle.loom_objects.specs.Dependence.Order.{Order}
use Rattle.loom_objects.specs.declared.choice.Choice.{Choice}
use Rattle.loom_objects.specs.declared.choice.Choice.TheVariants as choice
use Rattle.loom_objects.specs.declared.operation.Request.{Request}
use Rattle.loom_objects.specs.declared.operation.Request.TheVariants as op
use Rattle.loom_objects.specs.declared.operation.Reply.{Reply}
use Rattle.loom_objects.specs.declared.operation.Turn.{Turn}
use Rattle.loom_objects.specs.declared.operation.Turn.TheVariants as turn
use Rattle.loom_objects.specs.declared.rt.exploring.Exploring.TheVariants.{On}
use Rattle.loom_objects.specs.declared.rt.run.Entry.{Entry}
use Rattle.loom_objects.specs.declared.rt.run.Entry.TheVariants as entry
use Rattle.loom_objects.specs.declared.rt.run.Loading.{Loading}
use Rattle.loom_objects.specs.declared.rt.run.Passed.{Passed}
use Rattle.loom_objects.specs.declared.rt.run.Passed.TheVariants as passed
use Rattle.loom_objects.specs.declared.rt.run.Resumed.{Resumed}
use Rattle.loom_objects.specs.declared.rt.run.Resumed.TheVariants as resumed
use Rattle.loom_objects.specs.Rules.Atomic.{reads}
use Rattle.loom_objects.specs.Rules.Tables.{chosen, counted}
use Rattle.loom_objects.specs.Rules.Ending.{all_ended}
use Rattle.loom_objects.specs.Exploring.{is_on, is_switch}
use Rattle.loom_objects.specs.Rules.Notify.{enters_wait as entered}
use Rattle.loom_objects.specs.Operation.Plain.{plain, plain_request}
use Rattle.loom_objects.specs.Tree.Question.{Question, made_of}
use Rattle.loom_objects.specs.Tree.Stores.{slots}
use Rattle.loom_objects.specs.Rules.Rule.{check as checks}
use Rattle.loom_objects.specs.Rules.Steps.{asked, asks_slot, begins, ends, enters_wait, read_slot, resumes, slot_of, told, turned}
use Rattle.loom_objects.specs.Tree.Tree.{Tree, Gives, Fails, Closes, Asks, ◌>>=◌, came, check, found}
use Rattle.loom_objects.specs.Rules.Uses.{use_at}
use Rattle.loom_objects.specs.World.{World}
use Rattle.loom_engine.specs.Trees.Exploring.{ExploresTree}
use Rattle.loom_engine.specs.Runs.Course.{Course, accesses, carried, grown_from, one_passed, used_in, with_order}
use Rattle.loom_engine.specs.Runs.Machine.{chooses, closes as closes_run, further, further_branches, goes_by, goes_on, passes, schedule, submit, waits}
use Rattle.loom_engine.specs.Runs.Body.{Meaning, at_turn, play}
use Rattle.loom_engine.specs.Runs.Sound.{ExploresLaw}
use Rattle.loom_engine.proofs.Runs.Answering.{Answers}
use Rattle.loom_engine.proofs.Runs.Events.{Anything}
use Rattle.loom_engine.proofs.Runs.Replies.{IsNoSwitch, Unswitched, unswitched}
use Rattle.loom_engine.proofs.Runs.Kinds.{begins_unswitched}

-- whatever is chosen, each question explores, and this holds of what the tree gives
pub data Explores {A : Type 0} (P : A → Type 0) : Tree A → Type 0 where
  gives : (value : A) → P value → Explores P (Gives value)
  fails : (kind : FailureKind) → Explores P (Fails kind)
  closes : (rest : Tree A) → Explores P (Closes rest)
  asks : (question : Question) (branches : Choice → Tree A) → (made_of question).exploring ≡ true → ((choice : Choice) → Explores P (branches choice)) → Explores P (Asks question branches)

module _ {A B : Type 0} {Q : A → Type 0} where
  then_explores : {P : B → Type 0} (tree : Tree A) (next : A → Tree B) → Explores Q tree → ((a : A) → Q a → Explores P (next a)) → Explores P (tree >>= next)
  then_explores tree next (gives a q) h = h a q
  then_explores tree next (fails kind) h = fails kind
  then_explores tree next (closes rest) h = closes _
  then_explores tree next (asks question branches e k) h = asks question _ e (λ choice. then_explores (branches choice) next (k choice) h)

  explores_then : (tree : Tree A) (next : A → Tree B) → Explores Q tree → ((a : A) → Q a → ExploresTree (next a)) → ExploresTree (tree >>= next)
  explores_then tree next (gives a q) h = h a q
  explores_then tree next (fails kind) h = tt
  explores_then tree next (closes rest) h = tt
  explores_then tree next (asks question branches e k) h = (e, λ choice among. explores_then (branches choice) next (k choice) h)

came_explores : {A : Type 0} {P : A → Type 0} (r : Result A FailureKind) → Answers P r → Explores P (came r)
came_explores (Ok a) h = gives a h
came_explores (Err kind) h = fails kind

any_explores : {A : Type 0} (r : Result A FailureKind) → Explores Anything (came r)
any_explores (Ok a) = gives a tt
any_explores (Err kind) = fails kind

-- ---- operations that are no switch

module _ {D : Type 0} where
  pub counted_unswitched : (todo : Request D ⊤) (w : World D) → is_switch todo ≡ false → Answers Unswitched (counted todo w)
  counted_unswitched todo w h = unswitched (checks _ TooManySteps) _ (λ u. begins_unswitched todo _ h)

pub plain_unswitched : {D S : Type 0} (todo : Request D S) → is_switch todo ≡ false → is_switch (plain_request todo) ≡ false
plain_unswitched (op.Explore todo) h = h
plain_unswitched _ h = refl

-- ---- steps

module _ {D : Type 0} (load : Loading) (w : World D) where
  read_explores : (slot : ℕ) → Explores Anything (read_slot load w slot >>= turned)
  read_explores slot =
      then_explores {Q = Anything} (read_slot load w slot) turned (then_explores {Q = Anything} (came (reads load.access w slot)) told (any_explores (reads load.access w slot)) (λ answered q. gives _ tt)) (λ answered q. gives _ tt)

  slot_explores : (o : Choice) → Explores Anything (slot_of o >>= (λ slot. read_slot load w slot >>= turned))
  slot_explores (choice.Load slot) = read_explores slot
  slot_explores (choice.Thread t) = fails _
  slot_explores (choice.Spurious answer) = fails _

  slots_explore : (exploring : Bool) (numbers : List ℕ) → exploring ≡ true → Explores Anything (asks_slot exploring numbers >>= (λ slot. read_slot load w slot >>= turned))
  slots_explore exploring [] h = fails _
  slots_explore exploring (lowest ∷ others) h = asks _ _ h slot_explores

module _ {D : Type 0} where
  asked_explores : (exploring : Bool) (answered : Resumed D × World D) → exploring ≡ true → Explores Anything (asked exploring answered)
  asked_explores exploring (resumed.Passed passed, w) h = gives _ tt
  asked_explores exploring (resumed.Load load, w) h = slots_explore load w exploring (slots load.readable) h

  resumes_explores : (exploring : Bool) (t : ℕ) (w : World D) → exploring ≡ true → Explores Anything (resumes exploring t w)
  resumes_explores exploring t w h = then_explores {Q = Anything} (came (chosen t w)) (asked exploring) (any_explores (chosen t w)) (λ answered q. asked_explores exploring answered h)

  -- the search explores from there on, and this holds of what is beside
  abbrev pub StaysOn : {A : Type 0} → (A → Type 0) → A × Course D → Type 0
  StaysOn P (a, c) = P a × (c.exploring ≡ On)

  carried_explores : {A : Type 0} (P : A → Type 0) (c : Course D) (tree : Tree (A × World D)) → c.exploring ≡ On → Explores (λ answered. P answered.0) tree → Explores (StaysOn P) (carried c tree)
  carried_explores P c tree h (gives (a, w) p) = gives _ (p, h)
  carried_explores P c tree h (fails kind) = fails kind
  carried_explores P c tree h (closes rest) = closes _
  carried_explores P c tree h (asks question branches e k) = asks question _ e (λ choice. carried_explores P (one_passed c) (branches choice) h (k choice))

  accesses_explores : {A : Type 0} {P : A → Type 0} (t : ℕ) (c : Course D) (next : Course D → Tree A) → ((order : Order) → Explores P (next (record c { order = order }))) → Explores P (came (accesses t c) >>= next)
  accesses_explores {P = P} t c next h = by_order (used_in t c (use_at c.world.threads t))
    where
      by_order : (r : Result Order FailureKind) → Explores P (came (with_order c r) >>= next)
      by_order (Ok order) = h order
      by_order (Err kind) = fails kind

  -- ---- events

  goes_by_explores : (t : ℕ) (c : Course D) → c.exploring ≡ On → Explores (StaysOn Anything) (goes_by t c)
  goes_by_explores t c h = carried_explores Anything (one_passed c) (resumes (is_on c.exploring) t c.world) h (resumes_explores (is_on c.exploring) t c.world (ap is_on h))

  closes_explores : (c : Course D) → Explores (StaysOn Anything) (closes_run c)
  closes_explores c = by_test (all_ended c.world)
    where
      by_test : (passes : Bool) → Explores (StaysOn Anything) (check passes Deadlock >>= (λ u. Closes (carried c (ends c.world))))
      by_test true = closes _
      by_test false = fails _

  chooses_explores : (c : Course D) (o : Choice) → c.exploring ≡ On → Explores (StaysOn Anything) (chooses c o)
  chooses_explores c (choice.Thread (Some t)) h = accesses_explores t c (goes_by t) (λ order. goes_by_explores t (record c { order = order }) h)
  chooses_explores c (choice.Thread None) h = then_explores {Q = StaysOn Anything} (closes_run (one_passed c)) _ (closes_explores (one_passed c)) (λ (turn, v) q. gives _ q)
  chooses_explores c (choice.Load slot) h = fails _
  chooses_explores c (choice.Spurious answer) h = fails _

  passes_explores : (c : Course D) → c.exploring ≡ On → Explores (StaysOn Anything) (passes c)
  passes_explores c h = asks _ _ (ap is_on h) (λ o. chooses_explores c o h)

  further_explores : (again : Course D → Tree (Turn D × Course D)) → ((v : Course D) → v.exploring ≡ On → Explores (StaysOn Anything) (again v))
      → (c : Course D) → c.exploring ≡ On → Explores (StaysOn Anything) (passes c >>= further again)
  further_explores again h c on = then_explores {Q = StaysOn Anything} (passes c) (further again) (passes_explores c on) onward
    where
      onward : (after : Passed D × Course D) → StaysOn Anything after → Explores (StaysOn Anything) (further again after)
      onward (passed.Turn turn, v) q = gives _ q
      onward (passed.AtBranch, v) q = h v q.1

  schedule_explores : (more : ℕ) (c : Course D) → c.exploring ≡ On → Explores (StaysOn Anything) (schedule more c)
  unfolding schedule
  schedule_explores zero c h = further_explores _ (λ v q. fails _) c h
  schedule_explores (suc more) c h = further_explores (schedule more) (schedule_explores more) c h

  waits_explores : (n : ℕ) (c : Course D) (o : Choice) → c.exploring ≡ On → Explores (StaysOn Anything) (waits n c o)
  waits_explores n c (choice.Spurious answer) h =
      then_explores {Q = StaysOn Anything} (carried (one_passed c) (enters_wait answer n c.world)) _
      (carried_explores Anything (one_passed c) (enters_wait answer n c.world) h (any_explores (entered answer n c.world))) (λ (_, v) q. schedule_explores further_branches v q.1)
  waits_explores n c (choice.Thread t) h = fails _
  waits_explores n c (choice.Load slot) h = fails _

  goes_on_explores : (entered : Entry D × Course D) → StaysOn IsNoSwitch entered → Explores (StaysOn Anything) (goes_on entered)
  goes_on_explores (entry.Answered reply, c) k = gives _ (tt, k.1)
  goes_on_explores (entry.AtBranch, c) k = schedule_explores further_branches c k.1
  goes_on_explores (entry.Spurious n, c) k = asks _ _ (ap is_on k.1) (λ o. waits_explores n c o k.1)
  goes_on_explores (entry.Explores todo, c) k = absurd k.0

  submit_explores : (todo : Request D ⊤) (c : Course D) → is_switch todo ≡ false → c.exploring ≡ On → Explores (StaysOn Anything) (submit todo c)
  submit_explores todo c stays h =
      then_explores {Q = StaysOn IsNoSwitch} (carried c (begins todo c.world)) _
      (carried_explores IsNoSwitch c (begins todo c.world) h (came_explores (counted todo c.world) (counted_unswitched todo c.world stays)))
      (λ (begun, v) q. goes_on_explores (begun, grown_from c.world v) q)

-- ---- runs

found_explores : {A R : Type 0} (o : Option A) (kind : FailureKind) (next : A → Tree R) → ((a : A) → ExploresTree (next a)) → ExploresTree (found o kind >>= next)
found_explores None kind next h = tt
found_explores (Some a) kind next h = h a

turn_explores : {D R : Type 0} (turn : Turn D) (go : ℕ → Reply D → Tree R) (stop : D → Tree R) → ((t : ℕ) (answer : Reply D) → ExploresTree (go t answer)) → ((value : D) → ExploresTree (stop value)) → ExploresTree (at_turn go stop turn)
turn_explores (turn.Reply t answer) go stop h i = h t answer
turn_explores (turn.Start t) go stop h i = h t _
turn_explores (turn.Ended value) go stop h i = i value

module _ {D S : Type 0} (next : Meaning D S) (never : (state : S) (reply : Reply D) → is_switch (next state reply).1.request ≡ false) where
  play_explores : (left : ℕ) (bodies : List S) (c : Course D) (thread : ℕ) (answer : Reply D) → c.exploring ≡ On → ExploresTree (play next left bodies c thread answer)
  unfolding play
  play_explores zero bodies c thread answer on = tt
  play_explores (suc left) bodies c thread answer on =
      found_explores (slice_get bodies thread) Misuse _ (λ body.
      explores_then {Q = StaysOn Anything} (submit (plain (next body answer).1) c) _ (submit_explores (plain (next body answer).1) c (plain_unswitched (next body answer).1.request (never body answer)) on)
      (λ (turned, v) q. turn_explores turned _ _ (λ t r. play_explores left _ v t r q.1) (λ value. tt)))

pub explores_law : {D S : Type 0} → ExploresLaw D S
explores_law next max_threads max_steps body never = play_explores next never _ _ _ _ _ refl
