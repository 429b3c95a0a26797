-- Moves lead to the points of a run at its branch points too.
use Rattle.std.proofs.Common.{◌≡◌, ℕ, Bool, true, false, subst}
use Rattle.std.specs.Prelude.{◌-◌, cond, nat_lt, Result, Ok, Err, ⊤}
use Rattle.loom_views.specs.declared.rt.failure.FailureKind.{FailureKind}
use Rattle.loom_views.specs.declared.rt.failure.FailureKind.TheVariants.{NotDeterministic, TooManySteps}
use Rattle.loom_views.specs.Laws.Moves.{Leads}
use Rattle.loom_views.specs.Views.{opening as first_points}
use Rattle.loom_objects.specs.declared.choice.Choice.{Choice}
use Rattle.loom_objects.specs.declared.choice.Choice.TheVariants as choice
use Rattle.loom_objects.specs.declared.operation.Request.{Request}
use Rattle.loom_objects.specs.declared.operation.Turn.{Turn}
use Rattle.loom_objects.specs.declared.rt.run.Entry.{Entry}
use Rattle.loom_objects.specs.declared.rt.run.Entry.TheVariants.{Answered, AtBranch, Explores, Spurious as AtSpurious}
use Rattle.loom_objects.specs.Exploring.{switched}
use Rattle.loom_objects.specs.Rules.Notify.{enters_wait as entered}
use Rattle.loom_objects.specs.Rules.Rule.{check}
use Rattle.loom_objects.specs.Rules.Steps.{begins, enters_wait}
use Rattle.loom_objects.specs.Rules.Tables.{chosen, counted}
use Rattle.loom_objects.specs.Tree.Tree.{Tree, ◌>>=◌, came}
use Rattle.loom_engine.specs.declared.rt.execution.Begun.{Begun}
use Rattle.loom_engine.specs.Begun.{answered, begins_at, comes_to, woken_at}
use Rattle.loom_engine.specs.Runs.Course.{Course, carried, grown_from, one_passed}
use Rattle.loom_engine.specs.Runs.Machine.{schedule, switches}
use Rattle.loom_engine.specs.Covering.UnderWay.{IsLed}
use Rattle.loom_engine.specs.Trees.Meeting.{Marking, Settings}
use Rattle.loom_engine.specs.Trees.Drive.{Answer, Trail, backtrack, branch, drive, drive_on, is_used_up}
use Rattle.loom_engine.proofs.Runs.Advancing.{by_entry, chosen_points, to_any, Any, any_read}
use Rattle.loom_engine.proofs.Runs.Carrying.{InWorld, carried_keeps}
use Rattle.loom_engine.proofs.Runs.Events.{Anything}
use Rattle.loom_engine.proofs.Runs.Keeping.{Keeps, gives, fails, closes, asks as questions, then_keeps}
use Rattle.loom_engine.proofs.Runs.Kinds.{begins_points}
use Rattle.loom_engine.proofs.Runs.Lifting.{EnteredTo, Waiting, answers_keeps, came_anything, schedule_kept}
use Rattle.loom_engine.proofs.Runs.Pointing.{At, In, Does, end_points, onward}
use Rattle.loom_engine.proofs.Runs.Viewing.{any_op, leads_on}
use Rattle.loom_engine.proofs.Covering.Parts.{not_both, same_value}

-- ---- what holds of all that a tree comes to holds of what a path comes to

module _ {A : Type 0} (s : Settings) (adds : Marking) (x : A) (after : Trail) where
  used_by : (b : Bool) (path : Trail) (d : Result A FailureKind × Trail) → cond b d (Err NotDeterministic, path) ≡ (Ok x, after) → d ≡ (Ok x, after)
  used_by true path d e = e
  used_by false path d e = absurd (not_both NotDeterministic x path after e)

  module _ (P : A → Type 0) where
    answered_by : (branches : Choice → Tree A) (answer : Answer) → drive_on (λ o mid. drive s adds (branches o) mid) answer ≡ (Ok x, after)
        → ((o : Choice) (mid : Trail) → drive s adds (branches o) mid ≡ (Ok x, after) → P x) → P x
    answered_by branches (Ok o, mid) e ih = ih o mid e
    answered_by branches (Err kind, mid) e ih = absurd (not_both kind x mid after e)

    kept_along : (t : Tree A) (path : Trail) → Keeps P t → drive s adds t path ≡ (Ok x, after) → P x
    kept_along t path (gives value h) e = subst P (same_value value x path after e) h
    kept_along t path (fails kind) e = absurd (not_both kind x path after e)
    kept_along t path (closes rest h) e = kept_along rest path h (used_by (is_used_up path) path (drive s adds rest path) e)
    kept_along t path (questions question branches h) e =
        answered_by branches (branch s (backtrack s adds path question) question) e (λ o mid d. kept_along (branches o) mid (h o) d)

-- ---- moves

-- any
abbrev AnyMove : Does → Type 0
AnyMove does = Unit {0}

module _ {D : Type 0} where
  -- moves lead to where it came
  abbrev BegunLed : Begun D × Course D → Type 0
  BegunLed came = IsLed came.1

  schedule_led : (more : ℕ) (c : Course D) → IsLed c → Keeps (InWorld (In D (Leads first_points) AnyMove (leads_on first_points))) (schedule more c)
  schedule_led more c h =
      schedule_kept (At D (Leads first_points) AnyMove (leads_on first_points)) (In D (Leads first_points) AnyMove (leads_on first_points))
      (λ t w k. to_any D (Leads first_points) AnyMove (leads_on first_points) (λ raised t n reads slot. tt) (chosen t w)
      (chosen_points D (Leads first_points) AnyMove (leads_on first_points) (Any D (Leads first_points) AnyMove (leads_on first_points) (λ raised t n reads slot. tt)) (any_read D (Leads first_points) AnyMove (leads_on first_points) (λ raised t n reads slot. tt)) tt t w k))
      (end_points D (Leads first_points) AnyMove (leads_on first_points)) more c h

  woken_led : (n : ℕ) (c : Course D) (o : Choice) → Waiting (At D (Leads first_points) AnyMove (leads_on first_points)) (In D (Leads first_points) AnyMove (leads_on first_points)) n c.world → Keeps BegunLed (woken_at n c o)
  woken_led n c (choice.Spurious answer) k =
      then_keeps {Q = InWorld (λ after. Leads first_points after.1.points)} (carried (one_passed c) (enters_wait answer n c.world)) _
      (carried_keeps (one_passed c) (enters_wait answer n c.world) (answers_keeps (entered answer n c.world) (k answer)))
      (λ (u, v) q. gives _ q)
  woken_led n c (choice.Thread t) k = fails _
  woken_led n c (choice.Load slot) k = fails _

  switched_led : (c : Course D) → IsLed c → (t : Tree (Turn D × Course D)) → Keeps (λ (turned : Turn D × Course D). IsLed turned.1) t → Keeps BegunLed (t >>= answered)
  switched_led c h t k = then_keeps {Q = λ (turned : Turn D × Course D). IsLed turned.1} t answered k (λ (turn, v) q. gives _ q)

  comes_led : (entry : Entry D) (c : Course D) → InWorld (EnteredTo (At D (Leads first_points) AnyMove (leads_on first_points)) (In D (Leads first_points) AnyMove (leads_on first_points))) (entry, c) → Keeps BegunLed (comes_to (entry, c))
  comes_led (Answered reply) c k = gives _ k
  comes_led AtBranch c k = gives _ k
  comes_led (AtSpurious n) c k = questions _ _ (λ o. woken_led n c o k)
  comes_led (Explores todo) c k =
      switched_led c k (switches todo c) (then_keeps {Q = Anything} (came (switched todo c.exploring)) _ (came_anything (switched todo c.exploring)) (λ exploring q. gives _ k))

  begun_led : (todo : Request D ⊤) (c : Course D) → IsLed c → Keeps BegunLed (begins_at todo c)
  begun_led todo c h =
      then_keeps {Q = InWorld (EnteredTo (At D (Leads first_points) AnyMove (leads_on first_points)) (In D (Leads first_points) AnyMove (leads_on first_points)))} (carried c (begins todo c.world)) _
      (carried_keeps c (begins todo c.world) (answers_keeps (counted todo c.world)
      (by_entry D (Leads first_points) AnyMove (leads_on first_points) (counted todo c.world)
      (onward D (Leads first_points) AnyMove (leads_on first_points) (check (nat_lt 0 c.world.steps_left) TooManySteps) _
      (λ u. begins_points D (Leads first_points) AnyMove (leads_on first_points) todo (record c.world { steps_left = c.world.steps_left - 1 }) (any_op first_points todo) h)))))
      (λ (entry, v) q. comes_led entry (grown_from c.world v) q)

  module _ (s : Settings) (adds : Marking) (path after : Trail) (c : Course D) (led : IsLed c) where
    -- up to its branch point
    pub begun_along : (todo : Request D ⊤) (came : Begun D × Course D) → drive s adds (begins_at todo c) path ≡ (Ok came, after) → IsLed came.1
    begun_along todo came e = kept_along s adds came after BegunLed (begins_at todo c) path (begun_led todo c led) e

    -- and from there to a turn
    pub schedule_along : (more : ℕ) (turn : Turn D) (v : Course D) → drive s adds (schedule more c) path ≡ (Ok (turn, v), after) → IsLed v
    schedule_along more turn v e = kept_along s adds (turn, v) after (InWorld (In D (Leads first_points) AnyMove (leads_on first_points))) (schedule more c) path (schedule_led more c led) e
