-- A body that never switches whether the search explores has the runs, and the states, of one that fails in place of each switch. That one
-- switches nothing, whatever state it is in.
use Rattle.std.proofs.Common.{◌≡◌, ℕ, zero, suc, Bool, true, false, cond, List, [], ◌∷◌, ◌++◌, Option, Some, None, refl, ap, ◌∙◌, subst}
use Rattle.std.specs.Prelude.{slice_get, slice_set}
use mathlib.Core.Path.{fun_ext}
use Rattle.loom_views.specs.declared.rt.failure.FailureKind.TheVariants.{Misuse}
use Rattle.loom_objects.specs.declared.choice.Choice.{Choice}
use Rattle.loom_objects.specs.declared.operation.Reply.{Reply}
use Rattle.loom_objects.specs.declared.operation.Reply.TheVariants as reply
use Rattle.loom_objects.specs.declared.operation.Request.TheVariants as requests
use Rattle.loom_objects.specs.declared.operation.Turn.TheVariants as turn
use Rattle.loom_objects.specs.declared.rt.run.Entry.{Entry}
use Rattle.loom_objects.specs.declared.rt.run.Entry.TheVariants.{Answered, AtBranch, Explores, Spurious as AtSpurious}
use Rattle.loom_objects.specs.declared.rt.run.Passed.{Passed}
use Rattle.loom_objects.specs.declared.rt.run.Passed.TheVariants as passed
use Rattle.loom_objects.specs.Exploring.{is_switch, switched}
use Rattle.loom_objects.specs.Operation.Labelled.{Op}
use Rattle.loom_objects.specs.Operation.Plain.{plain, started}
use Rattle.loom_objects.specs.Operation.Switching.{ComesOf, NeverSwitches, becomes, itself, starts}
use Rattle.loom_objects.specs.Rules.Steps.{begins, enters_wait}
use Rattle.loom_objects.specs.Tree.Tree.{Tree, Gives, Fails, Closes, Asks, ◌>>=◌, came, found}
use Rattle.loom_objects.specs.World.{World}
use Rattle.loom_engine.specs.Runs.Body.{Meaning, handed, play, runs, with_child}
use Rattle.loom_engine.specs.Runs.Course.{Course, carried, grown_from, one_passed, opening}
use Rattle.loom_engine.specs.Runs.Machine.{chooses, flag_of}
use Rattle.loom_engine.specs.Covering.Moments.{Moment, Next, RunEnds, Stand, Stands, at_next, at_schedule, by_choice, entered, first_part, first_stand, gone_on, handing, question_at, settled, stand_after, to_schedule}
use Rattle.loom_engine.specs.Covering.States.{seen_in, state_after}
use Rattle.loom_engine.proofs.Covering.Unfolding.{then_same}

module _ {D S : Type 0} where
  -- a failure in place of a switch
  abbrev pub unswitched_op : Op D S → Op D S
  unswitched_op op = cond (is_switch op.request) (record op { request = requests.Fail }) op

  -- the body with a failure in place of each switch
  abbrev pub unswitched : Meaning D S → Meaning D S
  unswitched next state answer = ((next state answer).0, unswitched_op (next state answer).1)

  -- it never switches
  pub never_switches : (next : Meaning D S) (state : S) (answer : Reply D) → is_switch (unswitched next state answer).1.request ≡ false
  never_switches next state answer = of_op (next state answer).1
    where
      of_op : (op : Op D S) → is_switch (unswitched_op op).request ≡ false
      of_op op = by (is_switch op.request) refl
        where
          by : (b : Bool) → is_switch op.request ≡ b → is_switch (cond b (record op { request = requests.Fail }) op).request ≡ false
          by true e = refl
          by false e = e

  same_op : (op : Op D S) → is_switch op.request ≡ false → unswitched_op op ≡ op
  same_op op e = ap (λ (b : Bool). cond b (record op { request = requests.Fail }) op) e

module _ {D S : Type 0} (next : Meaning D S) (first : S) (never : NeverSwitches next first) where
  -- ---- bodies that come of the first one

  abbrev AllCome : List S → Type 0
  AllCome [] = Unit {0}
  AllCome (body ∷ bodies) = ComesOf next first body × AllCome bodies

  come_at : (bodies : List S) (t : ℕ) (body : S) → AllCome bodies → slice_get bodies t ≡ Some body → ComesOf next first body
  come_at [] t body all e = absurd (cc e)
  come_at (b ∷ bodies) zero body all e = subst (ComesOf next first) (cc e) all.0
  come_at (b ∷ bodies) (suc t) body all e = come_at bodies t body all.1 e

  come_set : (bodies : List S) (t : ℕ) (body : S) → AllCome bodies → ComesOf next first body → AllCome (slice_set bodies t body)
  come_set [] t body all h = tt
  come_set (b ∷ bodies) zero body all h = (h, all.1)
  come_set (b ∷ bodies) (suc t) body all h = (all.0, come_set bodies t body all.1 h)

  come_more : (bodies : List S) (child : S) → AllCome bodies → ComesOf next first child → AllCome (bodies ++ child ∷ [])
  come_more [] child all h = (h, tt)
  come_more (b ∷ bodies) child all h = (all.0, come_more bodies child all.1 h)

  come_child : (bodies : List S) (child : Option S) → AllCome bodies → ((c : S) → child ≡ Some c → ComesOf next first c) → AllCome (with_child bodies child)
  come_child bodies None all h = all
  come_child bodies (Some c) all h = come_more bodies c all (h c refl)

  all_after : (bodies : List S) (t : ℕ) (body : S) (answer : Reply D) → AllCome bodies → ComesOf next first body → AllCome (with_child (slice_set bodies t (next body answer).0) (started (next body answer).1))
  all_after bodies t body answer all h =
      come_child (slice_set bodies t (next body answer).0) (started (next body answer).1) (come_set bodies t (next body answer).0 all (becomes body answer h)) (λ c e. starts body answer c h e)

  same_next : (body : S) (answer : Reply D) → ComesOf next first body → unswitched next body answer ≡ next body answer
  same_next body answer h = ap (λ (op : Op D S). ((next body answer).0, op)) (same_op (next body answer).1 (never body answer h))

  -- ---- the runs

  played_same : (left : ℕ) → ((bodies : List S) (c : Course D) (t : ℕ) (answer : Reply D) → AllCome bodies → play (unswitched next) left bodies c t answer ≡ play next left bodies c t answer)
      → (bodies : List S) (c : Course D) (t : ℕ) (answer : Reply D) → AllCome bodies → (body : Option S) → slice_get bodies t ≡ body
      → found body Misuse >>= (λ b. handed (play (unswitched next) left) bodies c t (unswitched next b answer)) ≡ found body Misuse >>= (λ b. handed (play next left) bodies c t (next b answer))
  played_same left ih bodies c t answer all None e = refl
  played_same left ih bodies c t answer all (Some b) e =
      let h = come_at bodies t b all e in
      ap (λ (x : S × Op D S). handed (play (unswitched next) left) bodies c t x) (same_next b answer h) ∙ by (next b answer).0 (next b answer).1 (all_after bodies t b answer all h)
    where
      by : (after : S) (op : Op D S) → AllCome (with_child (slice_set bodies t after) (started op)) → handed (play (unswitched next) left) bodies c t (after, op) ≡ handed (play next left) bodies c t (after, op)
      by after op now =
          ap (λ (rest : Course D → ℕ → Reply D → Tree D). handed (λ (bodies : List S). rest) bodies c t (after, op))
          (fun_ext (λ (d : Course D). fun_ext (λ (u : ℕ). fun_ext (λ (told : Reply D). ih (with_child (slice_set bodies t after) (started op)) d u told now))))

  play_same : (left : ℕ) (bodies : List S) (c : Course D) (t : ℕ) (answer : Reply D) → AllCome bodies → play (unswitched next) left bodies c t answer ≡ play next left bodies c t answer
  unfolding play
  play_same zero bodies c t answer all = refl
  play_same (suc left) bodies c t answer all = played_same left (λ b d u a h. play_same left b d u a h) bodies c t answer all (slice_get bodies t) refl

  pub runs_same : (explores : Bool) (max_threads max_steps : ℕ) → runs (unswitched next) explores max_threads max_steps first ≡ runs next explores max_threads max_steps first
  runs_same explores max_threads max_steps = play_same (suc max_steps) (first ∷ []) (opening explores max_threads max_steps) 0 reply.Start (itself, tt)

  -- ---- up to the next schedule

  handed_same : (left : ℕ) → ((bodies : List S) (c : Course D) (t : ℕ) (answer : Reply D) → AllCome bodies → to_schedule (unswitched next) left bodies c t answer ≡ to_schedule next left bodies c t answer)
      → (bodies : List S) (c : Course D) (t : ℕ) (answer : Reply D) → AllCome bodies → (body : Option S) → slice_get bodies t ≡ body
      → found body Misuse >>= (λ b. handing (to_schedule (unswitched next) left) left bodies c t (unswitched next b answer)) ≡ found body Misuse >>= (λ b. handing (to_schedule next left) left bodies c t (next b answer))
  handed_same left ih bodies c t answer all None e = refl
  handed_same left ih bodies c t answer all (Some b) e =
      let h = come_at bodies t b all e in
      ap (λ (x : S × Op D S). handing (to_schedule (unswitched next) left) left bodies c t x) (same_next b answer h) ∙ by (next b answer).0 (next b answer).1 (all_after bodies t b answer all h)
    where
      by : (after : S) (op : Op D S) → AllCome (with_child (slice_set bodies t after) (started op)) → handing (to_schedule (unswitched next) left) left bodies c t (after, op) ≡ handing (to_schedule next left) left bodies c t (after, op)
      by after op now =
          ap (λ (rest : Course D → ℕ → Reply D → Tree (Next D S)). handing (λ (bodies : List S). rest) left bodies c t (after, op))
          (fun_ext (λ (d : Course D). fun_ext (λ (u : ℕ). fun_ext (λ (told : Reply D). ih (with_child (slice_set bodies t after) (started op)) d u told now))))

  schedule_same : (left : ℕ) (bodies : List S) (c : Course D) (t : ℕ) (answer : Reply D) → AllCome bodies → to_schedule (unswitched next) left bodies c t answer ≡ to_schedule next left bodies c t answer
  unfolding to_schedule
  schedule_same zero bodies c t answer all = refl
  schedule_same (suc left) bodies c t answer all = handed_same left (λ b d u a h. schedule_same left b d u a h) bodies c t answer all (slice_get bodies t) refl

  -- the bodies of each schedule that comes next come of the first one
  abbrev AllStand : Tree (Next D S) → Type 0
  AllStand (Gives (RunEnds value)) = Unit {0}
  AllStand (Gives (Stands m)) = AllCome m.bodies
  AllStand (Fails kind) = Unit {0}
  AllStand (Closes rest) = AllStand rest
  AllStand (Asks question branches) = (o : Choice) → AllStand (branches o)

  stand_then : {A : Type 0} (t : Tree A) (f : A → Tree (Next D S)) → ((a : A) → AllStand (f a)) → AllStand (t >>= f)
  stand_then (Gives a) f h = h a
  stand_then (Fails kind) f h = tt
  stand_then (Closes rest) f h = stand_then rest f h
  stand_then (Asks question branches) f h = λ o. stand_then (branches o) f h

  module _ (left : ℕ) (bodies : List S) (all : AllCome bodies) (rest : Course D → ℕ → Reply D → Tree (Next D S)) (h : (c : Course D) (t : ℕ) (answer : Reply D) → AllStand (rest c t answer)) where
    entered_stand : (entry : Entry D) (c : Course D) → AllStand (entered rest left bodies (entry, c))
    entered_stand (Answered answer) c = h c c.world.active answer
    entered_stand AtBranch c = all
    entered_stand (AtSpurious n) c = λ o. stand_then (flag_of o) _ (λ b. stand_then (carried (one_passed c) (enters_wait b n c.world)) _ (λ after. all))
    entered_stand (Explores todo) c = stand_then (came (switched todo c.exploring)) _ (λ x. h (record c { exploring = x }) c.world.active reply.Done)

  handed_stand : (left : ℕ) → ((bodies : List S) (c : Course D) (t : ℕ) (answer : Reply D) → AllCome bodies → AllStand (to_schedule next left bodies c t answer))
      → (bodies : List S) (c : Course D) (t : ℕ) (answer : Reply D) → AllCome bodies → (body : Option S) → slice_get bodies t ≡ body
      → AllStand (found body Misuse >>= (λ b. handing (to_schedule next left) left bodies c t (next b answer)))
  handed_stand left ih bodies c t answer all None e = tt
  handed_stand left ih bodies c t answer all (Some b) e = by (next b answer).0 (next b answer).1 (all_after bodies t b answer all (come_at bodies t b all e))
    where
      by : (after : S) (op : Op D S) → AllCome (with_child (slice_set bodies t after) (started op)) → AllStand (handing (to_schedule next left) left bodies c t (after, op))
      by after op now =
          let more : List S = with_child (slice_set bodies t after) (started op) in
          stand_then (carried c (begins (plain op) c.world)) (λ begun. entered (to_schedule next left more) left more (begun.0, grown_from c.world begun.1))
          (λ begun. entered_stand left more now (to_schedule next left more) (λ d u told. ih more d u told now) begun.0 (grown_from c.world begun.1))

  schedule_stand : (left : ℕ) (bodies : List S) (c : Course D) (t : ℕ) (answer : Reply D) → AllCome bodies → AllStand (to_schedule next left bodies c t answer)
  unfolding to_schedule
  schedule_stand zero bodies c t answer all = tt
  schedule_stand (suc left) bodies c t answer all = handed_stand left (λ b d u a h. schedule_stand left b d u a h) bodies c t answer all (slice_get bodies t) refl

  -- ---- at a schedule

  next_same : (m : Moment D S) (c : Course D) (more : ℕ) → at_next (unswitched next) m c more ≡ at_next next m c more
  next_same m c zero = refl
  next_same m c (suc more) = refl

  next_stand : (m : Moment D S) (c : Course D) (more : ℕ) → AllCome m.bodies → AllStand (at_next next m c more)
  next_stand m c zero all = tt
  next_stand m c (suc more) all = all

  gone_same : (m : Moment D S) → AllCome m.bodies → (after : Passed D × Course D) → gone_on (unswitched next) m after ≡ gone_on next m after
  gone_same m all (passed.Turn (turn.Reply t answer), c) = schedule_same m.left m.bodies c t answer all
  gone_same m all (passed.Turn (turn.Start t), c) = schedule_same m.left m.bodies c t reply.Start all
  gone_same m all (passed.Turn (turn.Ended value), c) = refl
  gone_same m all (passed.AtBranch, c) = next_same m c m.more

  gone_stand : (m : Moment D S) → AllCome m.bodies → (after : Passed D × Course D) → AllStand (gone_on next m after)
  gone_stand m all (passed.Turn (turn.Reply t answer), c) = schedule_stand m.left m.bodies c t answer all
  gone_stand m all (passed.Turn (turn.Start t), c) = schedule_stand m.left m.bodies c t reply.Start all
  gone_stand m all (passed.Turn (turn.Ended value), c) = tt
  gone_stand m all (passed.AtBranch, c) = next_stand m c m.more all

  at_same : (m : Moment D S) → AllCome m.bodies → at_schedule (unswitched next) m ≡ at_schedule next m
  at_same m all = ap (Asks (question_at next m)) (fun_ext (λ (o : Choice). then_same (chooses m.course o) (gone_on (unswitched next) m) (gone_on next m) (gone_same m all)))

  at_stand : (m : Moment D S) → AllCome m.bodies → AllStand (at_schedule next m)
  at_stand m all = λ o. stand_then (chooses m.course o) (gone_on next m) (gone_stand m all)

  settled_same : (last : Option (Moment D S)) (since : List Choice) (t : Tree (Next D S)) → AllStand t → settled (unswitched next) last since t ≡ settled next last since t
  settled_same last since (Gives (Stands m)) h = ap (λ (t : Tree (Next D S)). let s : Stand D S = record { last = Some m; since = []; ahead = t } in s) (at_same m h)
  settled_same last since (Gives (RunEnds value)) h = refl
  settled_same last since (Fails kind) h = refl
  settled_same last since (Closes rest) h = refl
  settled_same last since (Asks question branches) h = refl

  settled_stand : (last : Option (Moment D S)) (since : List Choice) (t : Tree (Next D S)) → AllStand t → AllStand (settled next last since t).ahead
  settled_stand last since (Gives (Stands m)) h = at_stand m h
  settled_stand last since (Gives (RunEnds value)) h = tt
  settled_stand last since (Fails kind) h = tt
  settled_stand last since (Closes rest) h = h
  settled_stand last since (Asks question branches) h = h

  choice_same : (o : Choice) (s : Stand D S) (t : Tree (Next D S)) → AllStand t → by_choice (unswitched next) o s t ≡ by_choice next o s t
  choice_same o s (Asks question branches) h = settled_same s.last (s.since ++ o ∷ []) (branches o) (h o)
  choice_same o s (Gives value) h = refl
  choice_same o s (Fails kind) h = refl
  choice_same o s (Closes rest) h = refl

  choice_stand : (o : Choice) (s : Stand D S) (t : Tree (Next D S)) → AllStand t → AllStand s.ahead → AllStand (by_choice next o s t).ahead
  choice_stand o s (Asks question branches) h all = settled_stand s.last (s.since ++ o ∷ []) (branches o) (h o)
  choice_stand o s (Gives value) h all = all
  choice_stand o s (Fails kind) h all = all
  choice_stand o s (Closes rest) h all = all

  after_same : (c : List Choice) (s : Stand D S) → AllStand s.ahead → stand_after (unswitched next) s c ≡ stand_after next s c
  after_same [] s h = refl
  after_same (o ∷ c) s h =
      ap (λ (r : Stand D S). stand_after (unswitched next) r c) (choice_same o s s.ahead h)
      ∙ after_same c (by_choice next o s s.ahead) (choice_stand o s s.ahead h h)

  module _ (explores : Bool) (max_threads max_steps : ℕ) where
    first_part_same : first_part (unswitched next) explores max_threads max_steps first ≡ first_part next explores max_threads max_steps first
    first_part_same = schedule_same (suc max_steps) (first ∷ []) (opening explores max_threads max_steps) 0 reply.Start (itself, tt)

    first_part_stand : AllStand (first_part next explores max_threads max_steps first)
    first_part_stand = schedule_stand (suc max_steps) (first ∷ []) (opening explores max_threads max_steps) 0 reply.Start (itself, tt)

    first_same : first_stand (unswitched next) explores max_threads max_steps first ≡ first_stand next explores max_threads max_steps first
    first_same =
        ap (λ (t : Tree (Next D S)). settled (unswitched next) None [] t) first_part_same
        ∙ settled_same None [] (first_part next explores max_threads max_steps first) first_part_stand

    -- the states after the same choices are the same
    pub states_same : {K : Type 0} (look : Bool → World D → K) → state_after look (unswitched next) explores max_threads max_steps first ≡ state_after look next explores max_threads max_steps first
    states_same {K} look = fun_ext (λ (c : List Choice). ap (seen_in look) (one c))
      where
        one : (c : List Choice) → stand_after (unswitched next) (first_stand (unswitched next) explores max_threads max_steps first) c ≡ stand_after next (first_stand next explores max_threads max_steps first) c
        one c =
            ap (λ (s : Stand D S). stand_after (unswitched next) s c) first_same
            ∙ after_same c (first_stand next explores max_threads max_steps first) (settled_stand None [] (first_part next explores max_threads max_steps first) first_part_stand)
