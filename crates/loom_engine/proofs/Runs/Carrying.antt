-- A step of the machine on the way of a run: what holds of the step holds of the course.
use Rattle.std.proofs.Common.{ℕ, Bool, true, false, Option, Some, None}
use Rattle.std.specs.Prelude.{cond, slice_get, Result, Ok, Err}
use Rattle.loom_views.specs.declared.rt.failure.FailureKind.{FailureKind}
use Rattle.loom_views.specs.declared.rt.failure.FailureKind.TheVariants.{TooManyVersions}
use Rattle.loom_objects.specs.Dependence.Order.{Order, used_by}
use Rattle.loom_objects.specs.declared.rt.dependence.Use.{Use}
use Rattle.loom_objects.specs.declared.choice.Choice.TheVariants.{Thread}
use Rattle.loom_objects.specs.Tree.Tree.{Tree, Gives, Fails, Closes, Asks, ◌>>=◌, came}
use Rattle.loom_objects.specs.Rules.Uses.{use_at}
use Rattle.loom_objects.specs.World.{World}
use Rattle.loom_engine.specs.Runs.Course.{Course, accesses, carried, one_passed, used_in, with_order}
use Rattle.loom_engine.proofs.Runs.Events.{EventOf, IsShut, Settles, StaysOpen, asks, closes, fails, fails_by_itself, goes, settles_at}
use Rattle.loom_engine.proofs.Runs.Fairness.{IsFairResult, own_met}
use Rattle.loom_engine.proofs.Runs.Keeping.{Keeps}
use Rattle.loom_engine.proofs.Runs.Keeping as keeping

module _ {D : Type 0} where
  -- this holds of the state of the machine
  abbrev pub InWorld : {A : Type 0} → (A × World D → Type 0) → A × Course D → Type 0
  InWorld P (a, c) = P (a, c.world)

  carried_open : {A : Type 0} (P : A × World D → Type 0) (c : Course D) (tree : Tree (A × World D)) → StaysOpen P tree → StaysOpen (InWorld P) (carried c tree)
  carried_open P c (Gives (a, w)) opens = opens
  carried_open P c (Fails kind) opens = tt
  carried_open P c (Closes rest) opens = tt
  carried_open P c (Asks question branches) opens = λ choice. carried_open P (one_passed c) (branches choice) (opens choice)

  carried_shut : {A : Type 0} (c : Course D) (tree : Tree (A × World D)) → IsShut tree → IsShut (carried c tree)
  carried_shut c (Gives answered) shut = absurd shut
  carried_shut c (Fails kind) shut = tt
  carried_shut c (Closes rest) shut = tt
  carried_shut c (Asks question branches) shut = absurd shut

  pub carried_settles : {A : Type 0} {P : A × World D → Type 0} (c : Course D) (tree : Tree (A × World D)) → Settles P tree → Settles (InWorld P) (carried c tree)
  carried_settles c tree (settles_at (a, w) h) = settles_at _ h
  carried_settles c tree (fails_by_itself kind fair) = fails_by_itself kind fair

  module _ {A : Type 0} {P : A × World D → Type 0} where
    pub carried_event : {Over : A × World D → Type 0} (c : Course D) (tree : Tree (A × World D)) → EventOf P Over tree → EventOf (InWorld P) (InWorld Over) (carried c tree)
    carried_event c tree (goes (a, w) h) = goes _ h
    carried_event c tree (fails kind fair) = fails kind fair
    carried_event c tree (closes rest h) = closes _ (carried_settles c rest h)
    carried_event c tree (asks question branches sound options opens shut) =
        asks question _ sound (λ choice among. carried_event (one_passed c) (branches choice) (options choice among))
        (λ choice. carried_open P (one_passed c) (branches choice) (opens choice)) (λ none. carried_shut (one_passed c) (branches (Thread None)) (shut none))

    pub carried_keeps : (c : Course D) (tree : Tree (A × World D)) → Keeps P tree → Keeps (InWorld P) (carried c tree)
    carried_keeps c tree (keeping.gives (a, w) h) = keeping.gives _ h
    carried_keeps c tree (keeping.fails kind) = keeping.fails kind
    carried_keeps c tree (keeping.closes rest h) = keeping.closes _ (carried_keeps c rest h)
    carried_keeps c tree (keeping.asks question branches h) = keeping.asks question _ (λ choice. carried_keeps (one_passed c) (branches choice) (h choice))

  -- ---- accesses

  pub used_fair : (t : ℕ) (c : Course D) (o : Option Use) → IsFairResult (used_in t c o)
  used_fair t c None = tt
  used_fair t c (Some used) = by_thread (slice_get c.order.threads t)
    where
      by_count : (few : Bool) (order : Order) → IsFairResult (cond few (Ok order) (Err TooManyVersions))
      by_count true order = tt
      by_count false order = λ e. cc

      by_thread : (o : Option ℕ) → IsFairResult (used_by t used c.passed c.order o)
      by_thread None = λ e. cc
      by_thread (Some own) = by_count _ _

  module _ {A : Type 0} (t : ℕ) (c : Course D) (next : Course D → Tree A) where
    -- an access changes the order alone, and doesn't fail because a path isn't met
    pub accesses_event : {Goes Over : A → Type 0} → ((order : Order) → EventOf Goes Over (next (record c { order = order }))) → EventOf Goes Over (came (accesses t c) >>= next)
    accesses_event {Goes} {Over} h = by_order (used_in t c (use_at c.world.threads t)) (used_fair t c (use_at c.world.threads t))
      where
        by_order : (r : Result Order FailureKind) → IsFairResult r → EventOf Goes Over (came (with_order c r) >>= next)
        by_order (Ok order) fair = h order
        by_order (Err kind) fair = fails kind (own_met kind fair)

    pub accesses_keeps : {P : A → Type 0} → ((order : Order) → Keeps P (next (record c { order = order }))) → Keeps P (came (accesses t c) >>= next)
    accesses_keeps {P} h = by_order (used_in t c (use_at c.world.threads t))
      where
        by_order : (r : Result Order FailureKind) → Keeps P (came (with_order c r) >>= next)
        by_order (Ok order) = h order
        by_order (Err kind) = keeping.fails kind
