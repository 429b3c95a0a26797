-- The course of a run: the state of the machine, the order of the accesses so far, how many nodes the run has passed, and
-- whether the search explores at those that come.
use Rattle.std.specs.Prelude.{ℕ, suc, Bool, ◌-◌, List, length, Option, Some, None, Result, Ok, Err}
use Rattle.loom_views.specs.declared.rt.failure.FailureKind.{FailureKind}
use Rattle.loom_objects.specs.Dependence.Order.{Order, opening as no_accesses, grown, unordered, after_use}
use Rattle.loom_objects.specs.declared.rt.dependence.Use.{Use}
use Rattle.loom_objects.specs.Exploring.{initially}
use Rattle.loom_objects.specs.declared.rt.exploring.Exploring.{Exploring}
use Rattle.loom_objects.specs.Tree.Tree.{Tree, Gives, Fails, Closes, Asks}
use Rattle.loom_objects.specs.Rules.Uses.{use_at, uses}
use Rattle.loom_objects.specs.World.{World, opening as first_world}

pub record Course (D : Type 0) : Type 0 where
  pub world : World D
  pub order : Order
  pub passed : ℕ
  pub exploring : Exploring

module _ {D : Type 0} where
  -- main is about to hand over its first operation; the run begins to explore, or doesn't
  abbrev pub opening : Bool → ℕ → ℕ → Course D
  opening explores max_threads max_steps = record { world = first_world max_threads max_steps; order = no_accesses; passed = 0; exploring = initially explores }

  -- A step of the machine, on the way of a run: each question is a node that the run passes.
  abbrev pub one_passed : Course D → Course D
  one_passed c = record c { passed = suc c.passed }

  abbrev pub carried : {A : Type 0} → Course D → Tree (A × World D) → Tree (A × Course D)
  carried c (Gives (a, w)) = Gives (a, record c { world = w })
  carried c (Fails kind) = Fails kind
  carried c (Closes rest) = Closes (carried c rest)
  carried c (Asks question branches) = Asks question (λ choice. carried (one_passed c) (branches choice))

  -- from this state on the machine has made threads and objects, to which there are no accesses yet
  abbrev pub grown_from : World D → Course D → Course D
  grown_from old c = record c {
    order = grown old.active (length c.world.threads - length old.threads) (length c.world.objects - length old.objects) c.order;
  }

  -- for each thread the place of the last access that what it is about to do depends on, if it isn't ordered after that access
  abbrev pub unordered_in : Course D → List (Option ℕ)
  unordered_in c = unordered c.order (uses c.world)

  -- thread t is chosen at the node that comes now: what it is about to do is an access, unless that is on no object
  abbrev pub used_in : ℕ → Course D → Option Use → Result Order FailureKind
  used_in t c None = Ok c.order
  used_in t c (Some used) = after_use t used c.passed c.order

  abbrev pub with_order : Course D → Result Order FailureKind → Result (Course D) FailureKind
  with_order c (Ok order) = Ok (record c { order = order })
  with_order c (Err kind) = Err kind

  abbrev pub accesses : ℕ → Course D → Result (Course D) FailureKind
  accesses t c = with_order c (used_in t c (use_at c.world.threads t))
