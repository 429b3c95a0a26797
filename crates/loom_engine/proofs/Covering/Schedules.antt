-- From one schedule to the next: where what is seen is the same, the same comes, limits aside.
use Rattle.std.proofs.Common.{◌≡◌, ◌⊎◌, arith, ℕ, zero, suc, Bool, true, false, List, [], ◌∷◌, ◌++◌, length, Option, Some, None, refl, ap, ap₂, sym, ◌∙◌, subst, inl, inr}
use Rattle.std.specs.Prelude.{◌-◌, cond, slice_get, slice_set, Result, Ok, Err}
use Rattle.loom_views.specs.Graph.{Graph}
use Rattle.loom_views.specs.declared.rt.failure.FailureKind.{FailureKind}
use Rattle.loom_views.specs.declared.rt.failure.FailureKind.TheVariants.{Deadlock, Misuse, TooManySteps, TooManyVersions}
use Rattle.loom_objects.specs.Dependence.Order.{Order, after_raise, children, copies, used_by}
use Rattle.loom_objects.specs.declared.choice.Choice.{Choice}
use Rattle.loom_objects.specs.declared.choice.Choice.TheVariants as choice
use Rattle.loom_objects.specs.declared.operation.ExploreOp.{ExploreOp}
use Rattle.loom_objects.specs.declared.operation.Reply.{Reply}
use Rattle.loom_objects.specs.declared.operation.Reply.TheVariants as reply
use Rattle.loom_objects.specs.declared.operation.Turn.{Turn}
use Rattle.loom_objects.specs.declared.operation.Turn.TheVariants as turn
use Rattle.loom_objects.specs.declared.rt.dependence.Use.{Use}
use Rattle.loom_objects.specs.declared.rt.exploring.Exploring.{Exploring}
use Rattle.loom_objects.specs.declared.rt.run.Entry.{Entry}
use Rattle.loom_objects.specs.declared.rt.run.Entry.TheVariants.{Answered, AtBranch, Explores, Spurious as AtSpurious}
use Rattle.loom_objects.specs.declared.rt.run.Passed.{Passed}
use Rattle.loom_objects.specs.declared.rt.run.Passed.TheVariants as passed
use Rattle.loom_objects.specs.Exploring.{is_on, is_switch, switched}
use Rattle.loom_objects.specs.Operation.Labelled.{Op}
use Rattle.loom_objects.specs.Operation.Plain.{plain, started}
use Rattle.loom_objects.specs.Rules.Ending.{all_ended, end_of}
use Rattle.loom_objects.specs.Rules.Steps.{begins, ends, enters_wait, resumes}
use Rattle.loom_objects.specs.Rules.Tables.{counted}
use Rattle.loom_objects.specs.Rules.Uses.{use_at}
use Rattle.loom_objects.specs.Schedule.Offers.{offers}
use Rattle.loom_objects.specs.Tree.Asked.{which_thread}
use Rattle.loom_objects.specs.Tree.Question.{made_of}
use Rattle.loom_objects.specs.Tree.Tree.{Tree, Gives, Closes, ◌>>=◌, came, check, found}
use Rattle.loom_objects.specs.World.{World}
use Rattle.loom_engine.specs.Runs.Body.{Meaning, with_child}
use Rattle.loom_engine.specs.Runs.Course.{Course, accesses, carried, grown_from, one_passed, used_in, with_order}
use Rattle.loom_engine.specs.Runs.Machine.{chooses, closes, further_branches, goes_by, turned}
use Rattle.loom_engine.specs.Covering.Sound.{OffersSame}
use Rattle.loom_engine.specs.Covering.Alike.{AreAlike}
use Rattle.loom_engine.specs.Covering.Moments.{Moment, Next, RunEnds, Stands, at_branch, at_next, at_schedule, entered, from_schedule, gone_on, handing, question_at, to_schedule, woken}
use Rattle.loom_engine.specs.Covering.States.{State, state_of, BothAlike, EndsAlike, KeepsAlike, end_alone, turn_of, TellsFuture, AreLimits}
use Rattle.loom_engine.proofs.Covering.Alike.{limit_left, limit_right, then_alike, weaker, CoursesAlike, WithCourses, carried_alike, carried_too}
use Rattle.loom_engine.proofs.Runs.Answering.{Answers}
use Rattle.loom_engine.proofs.Runs.Exploring.{counted_unswitched, plain_unswitched}
use Rattle.loom_engine.proofs.Runs.Replies.{IsNoSwitch, Unswitched}

-- ---- how many threads there are accesses of

appended : {A B : Type 0} (xs us : List A) (ys vs : List B) → length xs ≡ length ys → length us ≡ length vs → length (xs ++ us) ≡ length (ys ++ vs)
appended [] us [] vs h g = g
appended [] us (y ∷ ys) vs h g = absurd (omega (arith, h))
appended (x ∷ xs) us [] vs h g = absurd (omega (arith, h))
appended (x ∷ xs) us (y ∷ ys) vs h g = ap suc (appended xs us ys vs (omega (arith, h)) g)

copied : (n a b : ℕ) → length (copies n a) ≡ length (copies n b)
copied zero a b = refl
copied (suc n) a b = ap suc (copied n a b)

set_length : {A : Type 0} (xs : List A) (t : ℕ) (a : A) → length (slice_set xs t a) ≡ length xs
set_length [] t a = refl
set_length (x ∷ xs) zero a = refl
set_length (x ∷ xs) (suc t) a = ap suc (set_length xs t a)

-- both are there, or neither is
abbrev BothThere : {A B : Type 0} → Option A → Option B → Type 0
BothThere None None = Unit {0}
BothThere None (Some b) = ⊥
BothThere (Some a) None = ⊥
BothThere (Some a) (Some b) = Unit {0}

both_there : {A B : Type 0} (xs : List A) (ys : List B) (t : ℕ) → length xs ≡ length ys → BothThere (slice_get xs t) (slice_get ys t)
both_there [] [] t h = tt
both_there [] (y ∷ ys) t h = absurd (omega (arith, h))
both_there (x ∷ xs) [] t h = absurd (omega (arith, h))
both_there (x ∷ xs) (y ∷ ys) zero h = tt
both_there (x ∷ xs) (y ∷ ys) (suc t) h = both_there xs ys t (omega (arith, h))

grown_children : (n : ℕ) (a b : Option ℕ) → BothThere a b → length (children n a) ≡ length (children n b)
grown_children n None None h = refl
grown_children n None (Some b) h = absurd h
grown_children n (Some a) None h = absurd h
grown_children n (Some a) (Some b) h = copied n a b

module _ (limits : FailureKind → Bool) (are : AreLimits limits) where
  abbrev SameCount : Order → Order → Type 0
  SameCount o p = length o.threads ≡ length p.threads

  -- an access fails by a limit alone, or as the other does
  abbrev OrdersAlike : Result Order FailureKind → Result Order FailureKind → Type 0
  OrdersAlike r s = AreAlike limits SameCount (came r) (came s)

  counted_alike : (a b : Bool) (o p : Order) → SameCount o p → OrdersAlike (cond a (Ok o) (Err TooManyVersions)) (cond b (Ok p) (Err TooManyVersions))
  counted_alike true true o p e = e
  counted_alike true false o p e = are.versions
  counted_alike false true o p e = are.versions
  counted_alike false false o p e = inl refl

  raised_alike : (t : ℕ) (used : Use) (place there : ℕ) (o p : Order) (g h : Graph × ℕ) → SameCount o p → OrdersAlike (after_raise t used place o g) (after_raise t used there p h)
  raised_alike t used place there o p (g, own) (h, own_too) e = counted_alike _ _ _ _ (set_length o.threads t _ ∙ e ∙ sym (set_length p.threads t _))

  used_alike : (t : ℕ) (used : Use) (place there : ℕ) (o p : Order) (a b : Option ℕ) → BothThere a b → SameCount o p → OrdersAlike (used_by t used place o a) (used_by t used there p b)
  used_alike t used place there o p None None h e = inl refl
  used_alike t used place there o p None (Some b) h e = absurd h
  used_alike t used place there o p (Some a) None h e = absurd h
  used_alike t used place there o p (Some a) (Some b) h e = raised_alike t used place there o p _ _ e

  module _ {D K : Type 0} (look : Bool → World D → K) (Alike : Bool → World D → World D → Type 0) (tells : TellsFuture limits look Alike) where
    abbrev Courses : Course D → Course D → Type 0
    Courses c d = CoursesAlike limits Alike c d

    -- what comes next in a run is the same: the same result, or the same state
    abbrev pub NextAlike : {S : Type 0} → Next D S → Next D S → Type 0
    NextAlike (RunEnds value) (RunEnds other) = value ≡ other
    NextAlike (RunEnds value) (Stands n) = ⊥
    NextAlike (Stands m) (RunEnds other) = ⊥
    NextAlike {S} (Stands m) (Stands n) = state_of {S = S} look m ≡ state_of look n

    -- both are about to choose: what is seen is the same
    record Facing (c d : Course D) : Type 0 where
      exploring : c.exploring ≡ d.exploring
      ordered : length c.order.threads ≡ length d.order.threads
      seen : look (is_on c.exploring) c.world ≡ look (is_on c.exploring) d.world

    in_used : (t : ℕ) (c d : Course D) (u : Option Use) → length c.order.threads ≡ length d.order.threads → OrdersAlike (used_in t c u) (used_in t d u)
    in_used t c d None e = e
    in_used t c d (Some used) e = used_alike t used c.passed d.passed c.order d.order (slice_get c.order.threads t) (slice_get d.order.threads t) (both_there c.order.threads d.order.threads t e) e

    -- the courses with another order
    abbrev WithOrders : Course D → Course D → Course D → Course D → Type 0
    WithOrders c d e f = (o : Order) × (p : Order) × (e ≡ record c { order = o }) × (f ≡ record d { order = p }) × (length o.threads ≡ length p.threads)

    orders_alike : (c d : Course D) (r s : Result Order FailureKind) → OrdersAlike r s → AreAlike limits (WithOrders c d) (came (with_order c r)) (came (with_order d s))
    orders_alike c d (Ok o) (Ok p) h = (o, p, refl, refl, h)
    orders_alike c d (Ok o) (Err kind) h = h
    orders_alike c d (Err kind) (Ok p) h = h
    orders_alike c d (Err kind) (Err other) h = h

    accesses_alike : (t : ℕ) (c d : Course D) → Facing c d → AreAlike limits (WithOrders c d) (came (accesses t c)) (came (accesses t d))
    accesses_alike t c d f =
        orders_alike c d (used_in t c (use_at c.world.threads t)) (used_in t d (use_at d.world.threads t))
        (subst (λ u. OrdersAlike (used_in t c (use_at c.world.threads t)) (used_in t d u)) (tells.uses (is_on c.exploring) c.world d.world f.seen t) (in_used t c d (use_at c.world.threads t) f.ordered))

    -- the chosen thread goes on
    goes_alike : (t : ℕ) (c d : Course D) → Facing c d → AreAlike limits (WithCourses limits Alike) (goes_by t c) (goes_by t d)
    goes_alike t c d f =
        carried_alike limits Alike (one_passed c) (one_passed d) (resumes (is_on c.exploring) t c.world) (resumes (is_on d.exploring) t d.world) f.exploring f.ordered
        (subst (λ x. AreAlike limits (BothAlike (Alike (is_on c.exploring))) (resumes (is_on c.exploring) t c.world) (resumes (is_on x) t d.world)) f.exploring (tells.resumes (is_on c.exploring) t c.world d.world f.seen))

    with_orders : (t : ℕ) (c d e f : Course D) → Facing c d → WithOrders c d e f → AreAlike limits (WithCourses limits Alike) (goes_by t e) (goes_by t f)
    with_orders t c d e f z (o, p, g, h, n) =
        subst (λ y. AreAlike limits (WithCourses limits Alike) (goes_by t e) (goes_by t y)) (sym h)
        (subst (λ y. AreAlike limits (WithCourses limits Alike) (goes_by t y) (goes_by t (record d { order = p }))) (sym g)
        (goes_alike t (record c { order = o }) (record d { order = p }) (record { exploring = z.exploring; ordered = n; seen = z.seen })))

    -- no thread can go on: both runs end with the same result
    abbrev BothEnd : Passed D × Course D → Passed D × Course D → Type 0
    BothEnd (a, e) (b, f) = (value : D) × (a ≡ passed.Turn (turn.Ended value)) × (b ≡ passed.Turn (turn.Ended value))

    abbrev PassedAlike : Passed D × Course D → Passed D × Course D → Type 0
    PassedAlike x y = WithCourses limits Alike x y ⊎ BothEnd x y

    ended_alike : (c d : Course D) (r s : Result (Turn D × World D) FailureKind) → EndsAlike limits (turn_of r) (turn_of s) → AreAlike limits PassedAlike (Closes (carried c (came r)) >>= turned) (Closes (carried d (came s)) >>= turned)
    ended_alike c d (Ok (a, w)) (Ok (b, v)) h = inr (h.0, ap passed.Turn h.1, ap passed.Turn h.2)
    ended_alike c d (Ok (a, w)) (Err kind) h = h
    ended_alike c d (Err kind) (Ok (b, v)) h = h
    ended_alike c d (Err kind) (Err other) h = h

    closes_by : (b : Bool) (c d : Course D) → EndsAlike limits (end_alone c.world) (end_alone d.world)
        → AreAlike limits PassedAlike ((check b Deadlock >>= (λ u. Closes (carried c (ends c.world)))) >>= turned) ((check b Deadlock >>= (λ u. Closes (carried d (ends d.world)))) >>= turned)
    closes_by true c d h = ended_alike c d (end_of c.world) (end_of d.world) h
    closes_by false c d h = inl refl

    closes_alike : (c d : Course D) → Facing c d → AreAlike limits PassedAlike (closes c >>= turned) (closes d >>= turned)
    closes_alike c d f =
        subst (λ b. AreAlike limits PassedAlike (closes c >>= turned) ((check b Deadlock >>= (λ u. Closes (carried d (ends d.world)))) >>= turned)) (tells.all_ended (is_on c.exploring) c.world d.world f.seen)
        (closes_by (all_ended c.world) c d (tells.ends (is_on c.exploring) c.world d.world f.seen))

    chooses_alike : (c d : Course D) (o : Choice) → Facing c d → AreAlike limits PassedAlike (chooses c o) (chooses d o)
    chooses_alike c d (choice.Thread (Some t)) f =
        then_alike limits (WithOrders c d) PassedAlike (came (accesses t c)) (came (accesses t d)) (goes_by t) (goes_by t) (accesses_alike t c d f)
        (λ e g h. weaker limits (WithCourses limits Alike) PassedAlike (goes_by t e) (goes_by t g) (λ x y i. inl i) (with_orders t c d e g f h))
    chooses_alike c d (choice.Thread None) f = closes_alike (one_passed c) (one_passed d) (record { exploring = f.exploring; ordered = f.ordered; seen = f.seen })
    chooses_alike c d (choice.Load slot) f = inl refl
    chooses_alike c d (choice.Spurious answer) f = inl refl

    -- what an operation makes is there from then on
    grown_alike : (c d e f : Course D) → Courses c d → Courses e f → Courses (grown_from c.world e) (grown_from d.world f)
    grown_alike c d e f h g = record {
      world = g.world;
      exploring = g.exploring;
      ordered = appended e.order.threads _ f.order.threads _ g.ordered (by (length e.world.threads - length c.world.threads) (length f.world.threads - length d.world.threads) as_many c.world.active d.world.active (tells.active (is_on c.exploring) c.world d.world h.world));
    }
      where
        as_many : length e.world.threads - length c.world.threads ≡ length f.world.threads - length d.world.threads
        as_many = ap₂ (λ x y. x - y) (tells.threads (is_on e.exploring) e.world f.world g.world) (tells.threads (is_on c.exploring) c.world d.world h.world)

        by : (n k : ℕ) → n ≡ k → (t u : ℕ) → t ≡ u → length (children n (slice_get e.order.threads t)) ≡ length (children k (slice_get f.order.threads u))
        by n k i t u j =
            grown_children n (slice_get e.order.threads t) (slice_get f.order.threads t) (both_there e.order.threads f.order.threads t g.ordered)
            ∙ ap₂ (λ x y. length (children x (slice_get f.order.threads y))) i j

    -- states that are alike where the search explores, or where it doesn't, are so in both
    abbrev InBoth : Type 0
    InBoth = (explores to : Bool) (w v : World D) → Alike explores w v → Alike to w v

    -- it is so, or the operation switches nothing
    abbrev Keeps : Entry D → Type 0
    Keeps entry = InBoth ⊎ IsNoSwitch entry

    module _ {S : Type 0} where
      abbrev Segments : Tree (Next D S) → Tree (Next D S) → Type 0
      Segments t u = AreAlike limits NextAlike t u

      abbrev state_with : List S → K → Exploring → ℕ → ℕ → State S K
      state_with bodies seen exploring more ordered = record { bodies = bodies; seen = seen; exploring = exploring; more = more; ordered = ordered }

      stands_alike : (bodies : List S) (more left left_too : ℕ) (c d : Course D) → Courses c d
          → state_of look (record { bodies = bodies; course = c; more = more; left = left }) ≡ state_of look (record { bodies = bodies; course = d; more = more; left = left_too })
      stands_alike bodies more left left_too c d h = by (look (is_on c.exploring) c.world) (look (is_on d.exploring) d.world) seen c.exploring d.exploring h.exploring (length c.order.threads) (length d.order.threads) h.ordered
        where
          seen : look (is_on c.exploring) c.world ≡ look (is_on d.exploring) d.world
          seen = tells.looks (is_on c.exploring) c.world d.world h.world ∙ ap (λ x. look (is_on x) d.world) h.exploring

          by : (a b : K) → a ≡ b → (x y : Exploring) → x ≡ y → (n k : ℕ) → n ≡ k → state_with bodies a x more n ≡ state_with bodies b y more k
          by a b i x y j n k l = ap (λ z. state_with bodies z x more n) i ∙ ap (λ z. state_with bodies b z more n) j ∙ ap (λ z. state_with bodies b y more z) l

      woken_alike : (left left_too : ℕ) (bodies : List S) (n : ℕ) (c d : Course D) (o : Choice) → Courses c d → Segments (woken left bodies n c o) (woken left_too bodies n d o)
      woken_alike left left_too bodies n c d (choice.Spurious answer) h =
          then_alike limits (WithCourses limits Alike) NextAlike (carried (one_passed c) (enters_wait answer n c.world)) (carried (one_passed d) (enters_wait answer n d.world))
          (λ after. Gives (at_branch left bodies after.1)) (λ after. Gives (at_branch left_too bodies after.1))
          (carried_alike limits Alike (one_passed c) (one_passed d) (enters_wait answer n c.world) (enters_wait answer n d.world) h.exploring h.ordered (tells.waits (is_on c.exploring) answer n c.world d.world h.world))
          (λ (a, e) (b, f) g. stands_alike bodies further_branches left left_too e f g.1)
      woken_alike left left_too bodies n c d (choice.Thread t) h = inl refl
      woken_alike left left_too bodies n c d (choice.Load slot) h = inl refl

      op_keeps : (op : Op D S) (w : World D) → InBoth ⊎ (is_switch op.request ≡ false) → Answers (λ (x : Entry D × World D). Keeps x.0) (counted (plain op) w)
      op_keeps op w (inl both) = every (counted (plain op) w)
        where
          every : (r : Result (Entry D × World D) FailureKind) → Answers (λ (x : Entry D × World D). Keeps x.0) r
          every (Ok (entry, v)) = inl both
          every (Err kind) = tt
      op_keeps op w (inr never) = by (counted (plain op) w) (counted_unswitched (plain op) w (plain_unswitched op.request never))
        where
          by : (r : Result (Entry D × World D) FailureKind) → Answers Unswitched r → Answers (λ (x : Entry D × World D). Keeps x.0) r
          by (Ok (entry, v)) h = inr h
          by (Err kind) h = tt

      -- what comes after an operation that is answered at once is alike
      abbrev RestsAlike : (List S → Course D → ℕ → Reply D → Tree (Next D S)) → (List S → Course D → ℕ → Reply D → Tree (Next D S)) → Type 0
      RestsAlike rest other = (bodies : List S) (c d : Course D) (t : ℕ) (answer : Reply D) → Courses c d → Segments (rest bodies c t answer) (other bodies d t answer)

      module _ (rest other : List S → Course D → ℕ → Reply D → Tree (Next D S)) (ih : RestsAlike rest other) (left left_too : ℕ) where
        told_alike : (bodies : List S) (c d : Course D) (answer : Reply D) → Courses c d → Segments (rest bodies c c.world.active answer) (other bodies d d.world.active answer)
        told_alike bodies c d answer h =
            subst (λ t. Segments (rest bodies c c.world.active answer) (other bodies d t answer)) (tells.active (is_on c.exploring) c.world d.world h.world) (ih bodies c d c.world.active answer h)

        switched_alike : InBoth → (todo : ExploreOp) (bodies : List S) (c d : Course D) (r : Result Exploring FailureKind) → Courses c d
            → Segments (came r >>= (λ x. rest bodies (record c { exploring = x }) c.world.active reply.Done)) (came r >>= (λ x. other bodies (record d { exploring = x }) d.world.active reply.Done))
        switched_alike both todo bodies c d (Ok x) h =
            told_alike bodies (record c { exploring = x }) (record d { exploring = x }) reply.Done (record { world = both (is_on c.exploring) (is_on x) c.world d.world h.world; exploring = refl; ordered = h.ordered })
        switched_alike both todo bodies c d (Err kind) h = inl refl

        entered_alike : (bodies : List S) (entry : Entry D) (c d : Course D) → Keeps entry → Courses c d → Segments (entered (rest bodies) left bodies (entry, c)) (entered (other bodies) left_too bodies (entry, d))
        entered_alike bodies (Answered answer) c d keeps h = told_alike bodies c d answer h
        entered_alike bodies AtBranch c d keeps h = stands_alike bodies further_branches left left_too c d h
        entered_alike bodies (AtSpurious n) c d keeps h = ((refl, ap is_on h.exploring, λ e. refl), λ o a. woken_alike left left_too bodies n c d o h)
        entered_alike bodies (Explores todo) c d (inr never) h = absurd never
        entered_alike bodies (Explores todo) c d (inl both) h =
            subst (λ x. Segments (entered (rest bodies) left bodies (Explores todo, c)) (came (switched todo x) >>= (λ x. other bodies (record d { exploring = x }) d.world.active reply.Done)))
            h.exploring (switched_alike both todo bodies c d (switched todo c.exploring) h)

        handing_alike : (bodies : List S) (c d : Course D) (thread : ℕ) (after : S) (op : Op D S) → InBoth ⊎ (is_switch op.request ≡ false) → Courses c d
            → Segments (handing rest left bodies c thread (after, op)) (handing other left_too bodies d thread (after, op))
        handing_alike bodies c d thread after op keeps h =
            then_alike limits (λ x y. WithCourses limits Alike x y × Keeps x.0) NextAlike (carried c (begins (plain op) c.world)) (carried d (begins (plain op) d.world)) _ _
            (carried_too limits Alike Keeps c (counted (plain op) c.world) (carried d (begins (plain op) d.world)) (op_keeps op c.world keeps)
            (carried_alike limits Alike c d (begins (plain op) c.world) (begins (plain op) d.world) h.exploring h.ordered (tells.begins (is_on c.exploring) (plain op) c.world d.world h.world)))
            (λ (entry, e) (other_entry, f) g. let both = g.0 in go entry other_entry e f g.1 both.0 both.1)
          where
            go : (entry other_entry : Entry D) (e f : Course D) → Keeps entry → entry ≡ other_entry → Courses e f → Segments (entered (rest (with_child (slice_set bodies thread after) (started op))) left (with_child (slice_set bodies thread after) (started op)) (entry, grown_from c.world e)) (entered (other (with_child (slice_set bodies thread after) (started op))) left_too (with_child (slice_set bodies thread after) (started op)) (other_entry, grown_from d.world f))
            go entry other_entry e f k i g =
                subst (λ y. Segments (entered (rest (with_child (slice_set bodies thread after) (started op))) left (with_child (slice_set bodies thread after) (started op)) (entry, grown_from c.world e)) (entered (other (with_child (slice_set bodies thread after) (started op))) left_too (with_child (slice_set bodies thread after) (started op)) (y, grown_from d.world f)))
                i (entered_alike (with_child (slice_set bodies thread after) (started op)) entry (grown_from c.world e) (grown_from d.world f) k (grown_alike c d e f h g))

      module _ (next : Meaning D S) (keeps : KeepsAlike next Alike) where
        found_alike : (rest other : List S → Course D → ℕ → Reply D → Tree (Next D S)) → RestsAlike rest other → (left left_too : ℕ) (bodies : List S) (c d : Course D) (t : ℕ) (answer : Reply D) (body : Option S) → Courses c d
            → Segments (found body Misuse >>= (λ b. handing rest left bodies c t (next b answer))) (found body Misuse >>= (λ b. handing other left_too bodies d t (next b answer)))
        found_alike rest other ih left left_too bodies c d t answer None h = inl refl
        found_alike rest other ih left left_too bodies c d t answer (Some b) h = handing_alike rest other ih left left_too bodies c d t (next b answer).0 (next b answer).1 (keeps b answer) h

        pub to_schedule_alike : (left left_too : ℕ) (bodies : List S) (c d : Course D) (t : ℕ) (answer : Reply D) → Courses c d → Segments (to_schedule next left bodies c t answer) (to_schedule next left_too bodies d t answer)
        unfolding to_schedule
        to_schedule_alike zero left_too bodies c d t answer h = limit_left limits NextAlike TooManySteps (to_schedule next left_too bodies d t answer) are.steps
        to_schedule_alike (suc left) zero bodies c d t answer h = limit_right limits NextAlike (to_schedule next (suc left) bodies c t answer) TooManySteps are.steps
        to_schedule_alike (suc left) (suc left_too) bodies c d t answer h =
            found_alike (to_schedule next left) (to_schedule next left_too) (λ b e f u a g. to_schedule_alike left left_too b e f u a g) left left_too bodies c d t answer (slice_get bodies t) h

        -- ---- at a schedule

        module _ (m n : Moment D S) (same : state_of look m ≡ state_of look n) where
          same_bodies : m.bodies ≡ n.bodies
          same_bodies = ap (λ (s : State S K). s.bodies) same

          same_exploring : m.course.exploring ≡ n.course.exploring
          same_exploring = ap (λ (s : State S K). s.exploring) same

          facing : Facing m.course n.course
          facing = record {
            exploring = same_exploring;
            ordered = ap (λ (s : State S K). s.ordered) same;
            seen = ap (λ (s : State S K). s.seen) same ∙ ap (λ x. look (is_on x) n.course.world) (sym same_exploring);
          }

          next_alike : (e f : Course D) (more : ℕ) → Courses e f → Segments (at_next next m e more) (at_next next n f more)
          next_alike e f zero h = inl refl
          next_alike e f (suc more) h =
              subst (λ b. state_of look (record { bodies = m.bodies; course = e; more = more; left = m.left }) ≡ state_of look (record { bodies = b; course = f; more = more; left = n.left }))
              same_bodies (stands_alike m.bodies more m.left n.left e f h)

          told_on : (t : ℕ) (answer : Reply D) (e f : Course D) → Courses e f → Segments (to_schedule next m.left m.bodies e t answer) (to_schedule next n.left n.bodies f t answer)
          told_on t answer e f h = subst (λ b. Segments (to_schedule next m.left m.bodies e t answer) (to_schedule next n.left b f t answer)) same_bodies (to_schedule_alike m.left n.left m.bodies e f t answer h)

          gone_alike : (passed : Passed D) (e f : Course D) → Courses e f → Segments (gone_on next m (passed, e)) (gone_on next n (passed, f))
          gone_alike (passed.Turn (turn.Reply t answer)) e f h = told_on t answer e f h
          gone_alike (passed.Turn (turn.Start t)) e f h = told_on t reply.Start e f h
          gone_alike (passed.Turn (turn.Ended value)) e f h = refl
          gone_alike passed.AtBranch e f h =
              subst (λ k. Segments (at_next next m e m.more) (at_next next n f k)) (ap (λ (s : State S K). s.more) same) (next_alike e f m.more h)

          passed_alike : (a b : Passed D) (e f : Course D) → PassedAlike (a, e) (b, f) → Segments (gone_on next m (a, e)) (gone_on next n (b, f))
          passed_alike a b e f (inl h) = subst (λ y. Segments (gone_on next m (a, e)) (gone_on next n (y, f))) h.0 (gone_alike a e f h.1)
          passed_alike a b e f (inr (value, i, j)) =
              subst (λ x. Segments (gone_on next m (x, e)) (gone_on next n (b, f))) (sym i) (subst (λ y. Segments (gone_on next m (passed.Turn (turn.Ended value), e)) (gone_on next n (y, f))) (sym j) refl)

          from_schedule_alike : (o : Choice) → Segments (from_schedule next m o) (from_schedule next n o)
          from_schedule_alike o =
              then_alike limits PassedAlike NextAlike (chooses m.course o) (chooses n.course o) (gone_on next m) (gone_on next n) (chooses_alike m.course n.course o facing)
              (λ (a, e) (b, f) h. passed_alike a b e f h)

          offers_alike : OffersSame (made_of (question_at next m)) (made_of (question_at next n))
          offers_alike =
              subst (λ x. OffersSame (made_of (which_thread (is_on m.course.exploring) (offers m.course.world) [])) (made_of (which_thread (is_on x) (offers n.course.world) []))) same_exploring
              (tells.offers (is_on m.course.exploring) m.course.world n.course.world facing.seen)

          -- what comes at a schedule is alike
          pub at_schedule_alike : Segments (at_schedule next m) (at_schedule next n)
          at_schedule_alike = (offers_alike, λ o a. from_schedule_alike o)
