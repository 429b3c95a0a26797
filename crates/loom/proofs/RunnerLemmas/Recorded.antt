-- A recording that is true of a function, and threads at its places.
use Rattle.std.proofs.Common.{◌≡◌, ◌+◌, ℕ, zero, suc, List, [], ◌∷◌, ◌++◌, length, refl, sym, ap, ◌∙◌, subst, arith, append_assoc, length-append}
use Rattle.std.specs.Prelude.{◌⊎◌, ⊤, Option, Some, None, Result, Ok, Err, IfSome, MatchOption, option_map, slice_get, slice_set}
use Rattle.std.proofs.Common.{inl, inr, ◌<◌, get_or}
use Rattle.std.proofs.lemmas.Option.{slice_get-get_or}
use Rattle.loom_objects.specs.Operation.Plain.{map_thread, plain_request, plain_thread, started_request, started_thread}
use Rattle.loom_objects.specs.declared.operation.Request.{Request}
use Rattle.loom_objects.specs.declared.operation.Request.TheVariants.{Thread}
use Rattle.loom_objects.specs.declared.operation.ThreadOp.{ThreadOp}
use Rattle.loom_objects.specs.declared.operation.ThreadOp.TheVariants.{Spawn, Join, Current, Park, Unpark, Yield, Finish, Exit, End}
use Rattle.loom_objects.specs.declared.failure.Failure.{Failure}
use Rattle.loom_objects.specs.declared.operation.Reply.{Reply}
use Rattle.loom_objects.specs.declared.operation.Reply.TheVariants as reply
use Rattle.loom_objects.specs.declared.operation.Turn.{Turn}
use Rattle.loom_objects.specs.declared.operation.Turn.TheVariants as turn
use Rattle.loom_engine.specs.Runs.Body.{with_child}
use Rattle.loom.specs.declared.runner.history.event.Event.{Event}
use Rattle.loom.specs.declared.runner.recorded.adding.Answered.TheVariants.{So}
use Rattle.loom.specs.declared.runner.recorded.recording.Answer.{Answer}
use Rattle.loom.specs.Runner.Recorded.{Does, Function, GoesOn, Word, begun_by, spawned, starting, tells}
use Rattle.loom.specs.Runner.Recording.{Answers, AreAt, HandsOver, HasAnswered, HasChild, IsAsked, IsAt, IsFound, IsLonger, IsTrueAnswer, IsTrueOf, told_next}

-- ---- an operation, and what it starts

plain_starting_thread : {D S : Type 0} (child : S) (op : ThreadOp D ⊤) → plain_thread (map_thread (λ none. child) op) ≡ op
plain_starting_thread child (Spawn none name) = refl
plain_starting_thread child (Join thread notifier) = refl
plain_starting_thread child Current = refl
plain_starting_thread child Park = refl
plain_starting_thread child (Unpark thread) = refl
plain_starting_thread child Yield = refl
plain_starting_thread child (Finish value) = refl
plain_starting_thread child Exit = refl
plain_starting_thread child End = refl

pub plain_starting : {D S : Type 0} (child : S) (op : Request D ⊤) → plain_request (starting child op) ≡ op
plain_starting child (Thread op) = ap Thread (plain_starting_thread child op)
plain_starting child _ = refl

started_starting_thread : {D S : Type 0} (child : S) (op : ThreadOp D ⊤) → started_thread (map_thread (λ none. child) op) ≡ option_map (λ none. child) (started_thread op)
started_starting_thread child (Spawn none name) = refl
started_starting_thread child (Join thread notifier) = refl
started_starting_thread child Current = refl
started_starting_thread child Park = refl
started_starting_thread child (Unpark thread) = refl
started_starting_thread child Yield = refl
started_starting_thread child (Finish value) = refl
started_starting_thread child Exit = refl
started_starting_thread child End = refl

pub started_starting : {D S : Type 0} (child : S) (op : Request D ⊤) → started_request (starting child op) ≡ option_map (λ none. child) (started_request op)
started_starting child (Thread op) = started_starting_thread child op
started_starting child _ = refl

-- ---- lists

module _ {A : Type 0} where
  -- what is in a list is in a longer one
  pub stands : (xs ys : List A) (n : ℕ) (x : A) → slice_get xs n ≡ Some x → slice_get (xs ++ ys) n ≡ Some x
  stands [] ys n x e = cc e
  stands (y ∷ xs) ys zero x e = e
  stands (y ∷ xs) ys (suc n) x e = stands xs ys n x e

  pub stands_last : (xs ys : List A) (x : A) → slice_get (xs ++ x ∷ ys) (length xs) ≡ Some x
  stands_last [] ys x = refl
  stands_last (y ∷ xs) ys x = stands_last xs ys x

  pub stands_next : (xs : List A) (x y : A) → slice_get (xs ++ x ∷ y ∷ []) (length xs + 1) ≡ Some y
  stands_next xs x y =
      let place : length xs + 1 ≡ length (xs ++ x ∷ []) = omega (arith, length-append xs (x ∷ [])) in
      ap (λ (l : List A). slice_get l (length xs + 1)) (sym (append_assoc xs (x ∷ []) (y ∷ []))) ∙ ap (slice_get ((xs ++ x ∷ []) ++ y ∷ [])) place ∙ stands_last (xs ++ x ∷ []) [] y

  -- what a slice lends is in the list that it is of
  pub lent_stands : (xs ys : List A) (n : ℕ) (x : A) → xs ≡ ys → n < length xs → x ≡ get_or xs n x → slice_get ys n ≡ Some x
  lent_stands xs ys n x same within at = ap (λ (l : List A). slice_get l n) (sym same) ∙ slice_get-get_or xs n x within ∙ ap Some (sym at)

  -- what is in a list that is longer by one was in it, or is that
  pub stood : (xs : List A) (y : A) (n : ℕ) (x : A) → slice_get (xs ++ y ∷ []) n ≡ Some x → (slice_get xs n ≡ Some x) ⊎ (x ≡ y)
  stood [] y zero x e = inr cc
  stood [] y (suc n) x e = absurd (cc e)
  stood (z ∷ xs) y zero x e = inl e
  stood (z ∷ xs) y (suc n) x e = stood xs y n x e

-- ---- threads at places

module _ {D : Type 0} where
  -- where more was told they are still there
  pub are_at_more : (words more : List (Word D)) (places : List ℕ) (told : List (Word D)) → AreAt words places told → AreAt (words ++ more) places told
  are_at_more words more [] [] z = tt
  are_at_more words more [] (w ∷ told) z = absurd z
  are_at_more words more (p ∷ places) [] z = absurd z
  are_at_more words more (p ∷ places) (w ∷ told) z = (stands words more p w z.0, are_at_more words more places told z.1)

  -- the thread at a place was told what was told there
  pub at_place : (words : List (Word D)) (places : List ℕ) (told : List (Word D)) (n p : ℕ) → AreAt words places told → slice_get places n ≡ Some p
      → (w : Word D) × (slice_get told n ≡ Some w) × IsAt words p w
  at_place words [] told n p z e = absurd (cc e)
  at_place words (q ∷ places) [] n p z e = absurd z
  at_place words (q ∷ places) (w ∷ told) zero p z e = (let same : q ≡ p = cc in (w, refl, subst (λ (k : ℕ). IsAt words k w) same z.0))
  at_place words (q ∷ places) (w ∷ told) (suc n) p z e = at_place words places told n p z.1 e

  -- a thread goes on to another place
  are_at_set : (words : List (Word D)) (places : List ℕ) (told : List (Word D)) (n p : ℕ) (w : Word D) → AreAt words places told → IsAt words p w
      → AreAt words (slice_set places n p) (slice_set told n w)
  are_at_set words [] [] n p w z at = z
  are_at_set words [] (v ∷ told) n p w z at = absurd z
  are_at_set words (q ∷ places) [] n p w z at = absurd z
  are_at_set words (q ∷ places) (v ∷ told) zero p w z at = (at, z.1)
  are_at_set words (q ∷ places) (v ∷ told) (suc n) p w z at = (z.0, are_at_set words places told n p w z.1 at)

  -- a thread more
  are_at_push : (words : List (Word D)) (places : List ℕ) (told : List (Word D)) (p : ℕ) (w : Word D) → AreAt words places told → IsAt words p w
      → AreAt words (places ++ p ∷ []) (told ++ w ∷ [])
  are_at_push words [] [] p w z at = (at, tt)
  are_at_push words [] (v ∷ told) p w z at = absurd z
  are_at_push words (q ∷ places) [] p w z at = absurd z
  are_at_push words (q ∷ places) (v ∷ told) p w z at = (z.0, are_at_push words places told p w z.1 at)

  -- where nothing is recorded, that is true of each function
  pub none_is_true : (does : Function D) (r : Answers D) → r.answers ≡ [] → r.places ≡ 1 → IsTrueOf does ([] ∷ []) r
  none_is_true does r none one = record {
    main = refl;
    all = sym one;
    answers = λ k a e. absurd (nothing k a (ap (λ (l : List (Answer D)). slice_get l k) (sym none) ∙ e));
  }
    where
      nothing : (k : ℕ) (a : Answer D) → slice_get [] k ≡ Some a → ⊥
      nothing k a e = cc e

  -- main is at its place, and was told nothing
  pub main_alone : (does : Function D) (words : List (Word D)) (r : Answers D) (none places : List ℕ) → IsTrueOf does words r → places ≡ none ++ 0 ∷ [] → none ≡ [] → AreAt words places ([] ∷ [])
  main_alone does words r none places z more empty = rw (more, empty) (z.main, tt)

  module _ (does : Function D) where
    true_more : (words more : List (Word D)) (a : Answer D) → IsTrueAnswer does words a → IsTrueAnswer does (words ++ more) a
    true_more words more a z = record {
      word = z.word;
      from = stands words more a.from z.word z.from;
      asks = z.asks;
      after = stands words more a.after (tells a.reply ∷ z.word) z.after;
      child = child_more a.child z.child;
    }
      where
        child_more : (child : Option ℕ)
            → MatchOption child (started_request a.op ≡ None) (λ place. (started_request a.op ≡ Some tt) × IsAt words place (spawned ∷ tells a.reply ∷ z.word))
            → MatchOption child (started_request a.op ≡ None) (λ place. (started_request a.op ≡ Some tt) × IsAt (words ++ more) place (spawned ∷ tells a.reply ∷ z.word))
        child_more None h = h
        child_more (Some place) h = (h.0, stands words more place (spawned ∷ tells a.reply ∷ z.word) h.1)

    -- the thread goes on by an answer that is true
    goes_by : (words : List (Word D)) (a : Answer D) (z : IsTrueAnswer does words a) (places : List ℕ) (told : List (Word D)) (n : ℕ) → AreAt words places told
        → AreAt words (with_child (slice_set places n a.after) a.child) (with_child (slice_set told n (tells a.reply ∷ z.word)) (begun_by a.op (tells a.reply ∷ z.word)))
    goes_by words a z places told n at = go a.child z.child
      where
        set_there : AreAt words (slice_set places n a.after) (slice_set told n (tells a.reply ∷ z.word))
        set_there = are_at_set words places told n a.after (tells a.reply ∷ z.word) at z.after

        go : (child : Option ℕ)
            → MatchOption child (started_request a.op ≡ None) (λ place. (started_request a.op ≡ Some tt) × IsAt words place (spawned ∷ tells a.reply ∷ z.word))
            → AreAt words (with_child (slice_set places n a.after) child) (with_child (slice_set told n (tells a.reply ∷ z.word)) (begun_by a.op (tells a.reply ∷ z.word)))
        go None h = rw h set_there
        go (Some place) h =
            rw h.0 (are_at_push words (slice_set places n a.after) (slice_set told n (tells a.reply ∷ z.word)) place (spawned ∷ tells a.reply ∷ z.word) set_there h.1)

    -- a thread at a place whose reply has a recorded answer goes on by that
    pub hands_over_there : (words : List (Word D)) (r : Answers D) (places places' : List ℕ) (told : List (Word D)) (n p k : ℕ) (answer : Reply D) (a : Answer D)
        → IsTrueOf does words r → AreAt words places told → slice_get places n ≡ Some p → IsFound r p answer k → slice_get r.answers k ≡ Some a
        → places' ≡ with_child (slice_set places n a.after) a.child → HandsOver does words told n answer a.op places'
    hands_over_there words r places places' told n p k answer a true_of at here found is next =
        let same : a ≡ found.found = (let one = found.at in cc) in
        let true_answer = true_of.answers k a is in
        let there = at_place words places told n p at here in
        let from : a.from ≡ p = ap (λ (b : Answer D). b.from) same ∙ found.from_so in
        let reply : a.reply ≡ answer = ap (λ (b : Answer D). b.reply) same ∙ found.reply_so in
        let word : true_answer.word ≡ there.0 = (let one : slice_get words p ≡ Some true_answer.word = subst (λ (q : ℕ). slice_get words q ≡ Some true_answer.word) from true_answer.from in let other : slice_get words p ≡ Some there.0 = there.2 in cc) in
        let base : AreAt words places' (with_child (slice_set told n (tells a.reply ∷ true_answer.word)) (begun_by a.op (tells a.reply ∷ true_answer.word))) =
        subst (λ (l : List ℕ). AreAt words l (with_child (slice_set told n (tells a.reply ∷ true_answer.word)) (begun_by a.op (tells a.reply ∷ true_answer.word)))) (sym next) (goes_by words a true_answer places told n at) in
        record {
          word = there.0;
          at = there.1;
          asks =
              subst (λ (w : Word D). does (tells answer ∷ w) ≡ a.op) word
              (subst (λ (r : Reply D). does (tells r ∷ true_answer.word) ≡ a.op) reply true_answer.asks);
          goes =
              subst (λ (w : Word D). AreAt words places' (with_child (slice_set told n (tells answer ∷ w)) (begun_by a.op (tells answer ∷ w)))) word
              (subst (λ (r : Reply D). AreAt words places' (with_child (slice_set told n (tells r ∷ true_answer.word)) (begun_by a.op (tells r ∷ true_answer.word)))) reply base);
        }

    -- an answer was added at a place, which the function gives there
    pub longer_is_true : (words : List (Word D)) (old new : Answers D) (p k : ℕ) (answer : Reply D) (op : Request D ⊤) (word : Word D)
        → IsTrueOf does words old → IsLonger old p answer op k new → IsAt words p word → does (tells answer ∷ word) ≡ op
        → (more : List (Word D)) × IsTrueOf does (words ++ more) new
    longer_is_true words old new p k answer op word z longer at asks = go longer.added.child longer.child_so refl
      where
        after : Word D
        after = tells answer ∷ word

        all_true : (more : List (Word D)) → IsTrueAnswer does (words ++ more) longer.added → (n : ℕ) (b : Answer D) → slice_get new.answers n ≡ Some b → IsTrueAnswer does (words ++ more) b
        all_true more last n b e = here (stood old.answers longer.added n b (ap (λ (l : List (Answer D)). slice_get l n) (sym longer.answers_so) ∙ e))
          where
            here : (slice_get old.answers n ≡ Some b) ⊎ (b ≡ longer.added) → IsTrueAnswer does (words ++ more) b
            here (inl before) = true_more words more b (z.answers n b before)
            here (inr is) = subst (IsTrueAnswer does (words ++ more)) (sym is) last

        go : (child : Option ℕ) → HasChild op old.places child new.places → longer.added.child ≡ child → (more : List (Word D)) × IsTrueOf does (words ++ more) new
        go None h is = (
          after ∷ [],
          record {
            main = stands words (after ∷ []) 0 [] z.main;
            all = (let size = length-append words (after ∷ []) in let told = z.all in let more = h.1 in omega arith);
            answers = all_true (after ∷ []) (record {
              word = word;
              from = rw longer.from_so (stands words (after ∷ []) p word at);
              asks = rw (longer.reply_so, longer.op_so) asks;
              after = rw (longer.reply_so, longer.after_so, ← z.all) (stands_last words [] after);
              child = rw (is, longer.op_so) h.0;
            });
          },
        )
        go (Some child) h is = (
          after ∷ (spawned ∷ after) ∷ [],
          record {
            main = stands words (after ∷ (spawned ∷ after) ∷ []) 0 [] z.main;
            all = (let size = length-append words (after ∷ (spawned ∷ after) ∷ []) in let told = z.all in let more = h.2 in omega arith);
            answers = all_true (after ∷ (spawned ∷ after) ∷ []) (record {
              word = word;
              from = rw longer.from_so (stands words (after ∷ (spawned ∷ after) ∷ []) p word at);
              asks = rw (longer.reply_so, longer.op_so) asks;
              after = rw (longer.reply_so, longer.after_so, ← z.all) (stands_last words ((spawned ∷ after) ∷ []) after);
              child = rw (is, longer.op_so, longer.reply_so) (h.0, rw (h.1, ← z.all) (stands_next words after (spawned ∷ after)));
            });
          },
        )

    -- the event is recorded
    pub event_recorded : (words : List (Word D)) (old new : Answers D) (places places' : List ℕ) (told : List (Word D)) (n p k : ℕ) (answer : Reply D) (asked : Request D ⊤) (a : Answer D)
        → IsTrueOf does words old → AreAt words places told → slice_get places n ≡ Some p → IsAsked does told n answer asked → HasAnswered old p answer asked new (So k) → slice_get new.answers k ≡ Some a
        → places' ≡ with_child (slice_set places n a.after) a.child → (more : List (Word D)) × IsTrueOf does more new × HandsOver does more told n answer asked places'
    event_recorded words old new places places' told n p k answer asked a z at here is_asked (inl (found, op, same)) is next =
        let true_of : IsTrueOf does words new = subst (IsTrueOf does words) (sym same) z in
        let found_now : IsFound new p answer k = subst (λ (r : Answers D). IsFound r p answer k) (sym same) found in
        let there : slice_get new.answers k ≡ Some found.found = subst (λ (r : Answers D). slice_get r.answers k ≡ Some found.found) (sym same) found.at in
        let one : a ≡ found.found = cc in
        let asks : a.op ≡ asked = ap (λ (b : Answer D). b.op) one ∙ op in
        (words, true_of, subst (λ (o : Request D ⊤). HandsOver does words told n answer o places') asks (hands_over_there words new places places' told n p k answer a true_of at here found_now is next))
    event_recorded words old new places places' told n p k answer asked a z at here is_asked (inr longer) is next =
        let there = at_place words places told n p at here in
        let asks : does (tells answer ∷ there.0) ≡ asked = subst (λ (o : Option (Word D)). IfSome o (λ word. does (tells answer ∷ word) ≡ asked)) there.1 is_asked in
        let grown = longer_is_true words old new p k answer asked there.0 z longer there.2 asks in
        let last : slice_get new.answers k ≡ Some longer.added =
        ap (λ (l : List (Answer D)). slice_get l k) longer.answers_so ∙ ap (slice_get (old.answers ++ longer.added ∷ [])) longer.number_so ∙ stands_last old.answers [] longer.added in
        let found : IsFound new p answer k = record { found = longer.added; at = last; from_so = longer.from_so; reply_so = longer.reply_so } in
        let one : a ≡ longer.added = cc in
        let same : a.op ≡ asked = ap (λ (b : Answer D). b.op) one ∙ longer.op_so in
        let more : List (Word D) = words ++ grown.0 in
        (more, grown.1, subst (λ (o : Request D ⊤). HandsOver does more told n answer o places') same (hands_over_there more new places places' told n p k answer a grown.1 (are_at_more words grown.0 places told at) here found is next))

    -- ---- the events of a run

    turn_is : (one other : ℕ × Reply D) → Some one ≡ Some other → one ≡ other
    turn_is one other e = cc e

    goes_next : (rest : List (Word D) → ℕ → Reply D → Type 0) (told : List (Word D)) (out : Result (Turn D) Failure) (n : ℕ) (answer : Reply D) → GoesOn rest told out → told_next out ≡ Some (n, answer) → rest told n answer
    goes_next rest told (Ok (turn.Reply thread said)) n answer goes e = subst (λ (t : ℕ × Reply D). rest told t.0 t.1) (turn_is (thread, said) (n, answer) e) goes
    goes_next rest told (Ok (turn.Start thread)) n answer goes e = subst (λ (t : ℕ × Reply D). rest told t.0 t.1) (turn_is (thread, reply.Start) (n, answer) e) goes
    goes_next rest told (Ok (turn.Ended value)) n answer goes e = absurd (cc e)
    goes_next rest told (Err failure) n answer goes e = absurd (cc e)

    -- the first event is what the function hands over
    pub is_asked_first : (event : Event D) (events rest : List (Event D)) (told : List (Word D)) (n : ℕ) (answer : Reply D) → rest ≡ event ∷ events → Does does rest told n answer → IsAsked does told n answer event.op
    is_asked_first event events rest told n answer at d = go (slice_get told n) (subst (λ (l : List (Event D)). Does does l told n answer) at d)
      where
        go : (o : Option (Word D)) → IfSome o (λ word. (does (tells answer ∷ word) ≡ event.op) × GoesOn (Does does events) (with_child (slice_set told n (tells answer ∷ word)) (begun_by event.op (tells answer ∷ word))) event.outcome)
            → IfSome o (λ word. does (tells answer ∷ word) ≡ event.op)
        go None h = tt
        go (Some word) h = h.0

    -- and then comes the rest
    pub does_rest : (words : List (Word D)) (event : Event D) (events rest : List (Event D)) (told : List (Word D)) (n n' : ℕ) (answer answer' : Reply D) (places : List ℕ) → rest ≡ event ∷ events
        → Does does rest told n answer → (h : HandsOver does words told n answer event.op places) → told_next event.outcome ≡ Some (n', answer')
        → Does does events (with_child (slice_set told n (tells answer ∷ h.word)) (begun_by event.op (tells answer ∷ h.word))) n' answer'
    does_rest words event events rest told n n' answer answer' places at d h next =
        let whole : Does does (event ∷ events) told n answer = subst (λ (l : List (Event D)). Does does l told n answer) at d in
        let here : (does (tells answer ∷ h.word) ≡ event.op) × GoesOn (Does does events) (with_child (slice_set told n (tells answer ∷ h.word)) (begun_by event.op (tells answer ∷ h.word))) event.outcome =
        subst (λ (o : Option (Word D)). IfSome o (λ word. (does (tells answer ∷ word) ≡ event.op) × GoesOn (Does does events) (with_child (slice_set told n (tells answer ∷ word)) (begun_by event.op (tells answer ∷ word))) event.outcome)) h.at whole in
        goes_next (Does does events) (with_child (slice_set told n (tells answer ∷ h.word)) (begun_by event.op (tells answer ∷ h.word))) event.outcome n' answer' here.1 next
