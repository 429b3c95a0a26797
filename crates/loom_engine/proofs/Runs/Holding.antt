-- The data of a lock that is out is given to no thread before it is given back.
use Rattle.std.proofs.Common.{◌≡◌, ℕ, Bool, true, false, List, [], ◌∷◌, ◌++◌, Option, Some, None, refl}
use Rattle.std.proofs.lemmas.Bool.{eq-eqb}
use Rattle.std.specs.Prelude.{◌||◌, ◌==◌}
use Rattle.std.specs.List.{list_any}
use Rattle.loom_objects.specs.declared.operation.Turn.{Turn}
use Rattle.loom_objects.specs.declared.operation.Turn.TheVariants as turn
use Rattle.loom_objects.specs.Rules.Moves.{is_number}
use Rattle.loom_objects.specs.Schedule.Defaults.{or_else}
use Rattle.loom_engine.specs.Runs.Course.{Course, opening}
use Rattle.loom_engine.specs.Runs.Histories.{Event, Happens, IsHistory, MayFollow, OneHolderLaw, given_out, gives_back, locked_by, locked_by_turn, opened_by, returned_by}
use Rattle.loom_engine.specs.Runs.Machine.{submit}
use Rattle.loom_engine.proofs.Runs.Exclusive.{opening_ready, submit_kept, submit_opens}
use Rattle.loom_engine.proofs.Runs.Keeping.{kept_value}
use Rattle.loom_engine.proofs.Runs.States.{Aim, Holding, Out, Ready, Taken, TurnTo}

isnt_number : (o : Option ℕ) (n : ℕ) → is_number o n ≡ false → o ≡ Some n → ⊥
isnt_number None n h e = cc e
isnt_number (Some m) n h e = let same : m ≡ n = cc e in let own : (n == n) ≡ true = eq-eqb n n refl in cc (h, same, own)

module _ {D : Type 0} where
  -- what an event leads to that doesn't give back the lock that is out
  abbrev pub Comes : Aim → Event D → Course D → Type 0
  Comes out event v = TurnTo out (event.turn, v.world) × ((n : ℕ) → opened_by event.op ≡ Some n → Taken out n v.world)

  comes_so : (out : Aim) (event : Event D) (c v : Course D) → ((m : ℕ) → out ≡ Out m → returned_by event.op ≡ Some m → ⊥) → Ready out c.world
      → Happens c event v → Comes out event v
  comes_so out event c v other k comes = (
    kept_value (submit event.op c) event.choices (event.turn, v) (submit_kept out event.op c other k) comes,
    λ n e. kept_value (submit event.op c) event.choices (event.turn, v) (submit_opens out event.op n c e k) comes,
  )

  -- a lock whose data is given out is out
  taken_by : (out : Aim) (given : Turn D) (opened : Option ℕ) (v : Course D) (n : ℕ) → TurnTo out (given, v.world) → ((m : ℕ) → opened ≡ Some m → Taken out m v.world)
      → or_else (locked_by_turn given) opened ≡ Some n → Taken out n v.world
  taken_by out (turn.Reply t reply) opened v n k o e = by_reply (locked_by reply) k.1 e
    where
      by_reply : (locked : Option ℕ) → ((m : ℕ) → locked ≡ Some m → Taken out m v.world) → or_else locked opened ≡ Some n → Taken out n v.world
      by_reply None h f = o n f
      by_reply (Some m) h f = h n f
  taken_by out (turn.Start t) opened v n k o e = o n e
  taken_by out (turn.Ended value) opened v n k o e = o n e

  given_taken : (out : Aim) (event : Event D) (v : Course D) (n : ℕ) → Comes out event v → given_out event ≡ Some n → Taken out n v.world
  given_taken out event v n k e = taken_by out event.turn (opened_by event.op) v n k.0 k.1 e

  -- another event follows
  on_ready : (out : Aim) (given : Turn D) (v : Course D) (next : Event D) (events : List (Event D)) → TurnTo out (given, v.world) → MayFollow given (next ∷ events) → Ready out v.world
  on_ready out (turn.Reply t reply) v next events k follows = k.0
  on_ready out (turn.Start t) v next events k follows = k
  on_ready out (turn.Ended value) v next events k follows = absurd follows

  on_before : (out : Aim) (given : Turn D) (v : Course D) (events : List (Event D)) (next : Event D) (rest : List (Event D)) → TurnTo out (given, v.world) → MayFollow given (events ++ next ∷ rest) → Ready out v.world
  on_before out given v [] next rest k follows = on_ready out given v next rest k follows
  on_before out given v (event ∷ events) next rest k follows = on_ready out given v event (events ++ next ∷ rest) k follows

  not_back : (n : ℕ) (event : Event D) → gives_back n event ≡ false → (m : ℕ) → Out n ≡ Out m → returned_by event.op ≡ Some m → ⊥
  not_back n event h m e f = let same : n ≡ m = cc e in isnt_number (returned_by event.op) n h (cc (f, same))

  -- from where the data of a lock is out, up to where it is given out, it is given back
  out_until : (n : ℕ) (between after : List (Event D)) (second : Event D) (c : Course D) → Ready (Out n) c.world → IsHistory c (between ++ second ∷ after) → given_out second ≡ Some n
      → list_any (gives_back n) (between ++ second ∷ []) ≡ true
  out_until n [] after second c k history e = by_back (gives_back n second) refl
    where
      by_back : (b : Bool) → gives_back n second ≡ b → (b || false) ≡ true
      by_back true h = refl
      by_back false h =
          let comes : Comes (Out n) second history.0 = comes_so (Out n) second c history.0 (not_back n second h) k history.1.0 in
          absurd ((given_taken (Out n) second history.0 n comes e tt).0 refl)
  out_until n (event ∷ between) after second c k history e =
      by_back (gives_back n event) refl (λ ready. out_until n between after second history.0 ready history.1.1.1 e)
    where
      by_back : (b : Bool) → gives_back n event ≡ b → (Ready (Out n) history.0.world → list_any (gives_back n) (between ++ second ∷ []) ≡ true) → (b || list_any (gives_back n) (between ++ second ∷ [])) ≡ true
      by_back true h later = refl
      by_back false h later =
          let comes : Comes (Out n) event history.0 = comes_so (Out n) event c history.0 (not_back n event h) k history.1.0 in
          later (on_before (Out n) event.turn history.0 between second after comes.0 history.1.1.0)

  -- up to the first of the two events
  from_ready : (n : ℕ) (before between after : List (Event D)) (first second : Event D) (c : Course D) → Ready Holding c.world
      → IsHistory c (before ++ first ∷ (between ++ second ∷ after)) → given_out first ≡ Some n → given_out second ≡ Some n → list_any (gives_back n) (between ++ second ∷ []) ≡ true
  from_ready n [] between after first second c k history e f =
      let comes : Comes Holding first history.0 = comes_so Holding first c history.0 (λ m h. absurd (cc h)) k history.1.0 in
      out_until n between after second history.0 (given_taken Holding first history.0 n comes e tt).1 history.1.1.1 f
  from_ready n (event ∷ before) between after first second c k history e f =
      let comes : Comes Holding event history.0 = comes_so Holding event c history.0 (λ m h. absurd (cc h)) k history.1.0 in
      from_ready n before between after first second history.0 (on_before Holding event.turn history.0 before first (between ++ second ∷ after) comes.0 history.1.1.0) history.1.1.1 e f

pub one_holder : {D : Type 0} → OneHolderLaw D
one_holder explores max_threads max_steps n before between after first second history e f =
    from_ready n before between after first second (opening explores max_threads max_steps) (opening_ready Holding explores max_threads max_steps (λ m h. cc h)) history e f
