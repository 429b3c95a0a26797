-- A property of points that moves keep is kept by each event, since each rule keeps it.
use Rattle.std.proofs.Common.{◌≡◌, ℕ, Bool, List}
use Rattle.std.specs.Prelude.{◌-◌, nat_lt, slice_get, Result, Ok, Err, ⊤}
use Rattle.loom_views.specs.Atomic.Slots.{slot_set}
use Rattle.loom_views.specs.Laws.Moves.{Moves}
use Rattle.loom_views.specs.Views.{Points, readable_slots_of}
use Rattle.loom_views.specs.declared.rt.atomic.reader.Reader.{Reader}
use Rattle.loom_views.specs.declared.rt.failure.FailureKind.{FailureKind}
use Rattle.loom_views.specs.declared.rt.failure.FailureKind.TheVariants.{Misuse, TooManySteps}
use Rattle.loom_objects.specs.declared.operation.Request.{Request}
use Rattle.loom_objects.specs.declared.rt.run.Entry.{Entry}
use Rattle.loom_objects.specs.declared.rt.run.Entry.TheVariants.{Answered, AtBranch, Explores, Spurious as AtSpurious}
use Rattle.loom_objects.specs.declared.rt.run.Resumed.{Resumed}
use Rattle.loom_objects.specs.declared.rt.run.Resumed.TheVariants as resumed
use Rattle.loom_objects.specs.declared.rt.thread.Task.{Task}
use Rattle.loom_objects.specs.declared.rt.thread.Task.TheVariants as task
use Rattle.loom_objects.specs.Rules.Rule.{◌>>=◌, check, found}
use Rattle.loom_objects.specs.Rules.Tables.{chosen, counted, takes_effect}
use Rattle.loom_objects.specs.Schedule.Offers.{chooses}
use Rattle.loom_objects.specs.World.{World}
use Rattle.loom_engine.specs.Runs.Course.{Course}
use Rattle.loom_engine.specs.Runs.Machine.{submit}
use Rattle.loom_engine.proofs.Runs.Answering.{Answers}
use Rattle.loom_engine.proofs.Runs.Carrying.{InWorld}
use Rattle.loom_engine.proofs.Runs.Keeping.{Keeps}
use Rattle.loom_engine.proofs.Runs.Kinds.{begins_points, effect_points}
use Rattle.loom_engine.proofs.Runs.Lifting.{EnteredTo, ResumedTo, event_kept}
use Rattle.loom_engine.proofs.Runs.Pointing.{At, Does, In, MayBegin, MayBy, MayTake, Reading, ResumedIf, Storing, end_points, enters_wait_points, onward}

-- A property of points that moves keep which may be made.
module _ (D : Type 0) (P : Points → Type 0) (May : Does → Type 0) (step : (p q : Points) (move : Moves p q) → MayBy May move → P p → P q) where
  may_take : May Storing → (todo : Task D) → MayTake D P May step todo
  may_take m (task.Access access) = m
  may_take m _ = tt

  -- an access that reads may read each slot that is such a one, of those that it is offered
  module _ (Offered : List Bool → ℕ → Type 0)
      (may_read : (raised : Points) (t n : ℕ) (reads : Reader) (slots : List ℕ) (slot : ℕ) → readable_slots_of raised t n reads ≡ Ok slots → Offered (slot_set slots) slot → May (Reading raised t n reads slot)) where
    pub chosen_points : May Storing → (t : ℕ) (w : World D) → P w.points → Answers (ResumedIf D P May step Offered may_read) (chosen t w)
    chosen_points m t w s = by_chosen (chooses t w) (onward D P May step (found (slice_get w.threads t) Misuse) _ (λ thread. s))
      where
        by_chosen : (r : Result (Task D × World D) FailureKind) → Answers (In D P May step) r → Answers (ResumedIf D P May step Offered may_read) (r >>= (λ ready. takes_effect ready.0 ready.1))
        by_chosen (Ok ready) h = effect_points D P May step Offered may_read ready.0 ready.1 (may_take m ready.0) h
        by_chosen (Err kind) h = tt

  pub by_entry : (r : Result (Entry D × World D) FailureKind) → Answers (In D P May step) r → Answers (EnteredTo (At D P May step) (In D P May step)) r
  by_entry (Ok (Answered reply, v)) h = h
  by_entry (Ok (AtBranch, v)) h = h
  by_entry (Ok (AtSpurious n, v)) h = λ is_spurious. enters_wait_points D P May step is_spurious n v h
  by_entry (Ok (Explores todo, v)) h = h
  by_entry (Err kind) h = tt

  -- where any slot may be read
  module _ (any : (raised : Points) (t n : ℕ) (reads : Reader) (slot : ℕ) → May (Reading raised t n reads slot)) where
    abbrev pub Any : List Bool → ℕ → Type 0
    Any readable slot = Unit {0}

    pub any_read : (raised : Points) (t n : ℕ) (reads : Reader) (slots : List ℕ) (slot : ℕ) → readable_slots_of raised t n reads ≡ Ok slots → Any (slot_set slots) slot → May (Reading raised t n reads slot)
    any_read raised t n reads slots slot e offered = any raised t n reads slot

    pub to_any : (r : Result (Resumed D × World D) FailureKind) → Answers (ResumedIf D P May step Any any_read) r → Answers (ResumedTo (At D P May step) (In D P May step)) r
    to_any (Ok (resumed.Passed passed, w)) h = h
    to_any (Ok (resumed.Load loading, w)) h = λ slot. h slot tt
    to_any (Err kind) h = tt

    pub effect_any : (todo : Task D) (w : World D) → MayTake D P May step todo → P w.points → Answers (ResumedTo (At D P May step) (In D P May step)) (takes_effect todo w)
    effect_any todo w may s = to_any (takes_effect todo w) (effect_points D P May step Any any_read todo w may s)

    pub event_points : (todo : Request D ⊤) (c : Course D) → May Storing → MayBegin D P May step todo → P c.world.points → Keeps (InWorld (In D P May step)) (submit todo c)
    event_points todo c m f s =
        event_kept (At D P May step) (In D P May step) (λ t w k. to_any (chosen t w) (chosen_points Any any_read m t w k)) (end_points D P May step) todo c
        (by_entry (counted todo c.world) (onward D P May step (check (nat_lt 0 c.world.steps_left) TooManySteps) _ (λ u. begins_points D P May step todo (record c.world { steps_left = c.world.steps_left - 1 }) f s)))
