-- What is measured: names, the steps that they mean, how these are checked, and how often; and the script of many runs.
use Rattle.std.specs.Prelude.{ℕ, Bool, true, false, List, [], ◌∷◌, Option, None, codes, map}
use Rattle.std.specs.declared.sync.atomic.Ordering.TheVariants.{Relaxed}
use Rattle.loom_views.specs.declared.rt.num.Numbers.TheVariants as numbers
use Rattle.loom_objects.specs.declared.operation.AtomicOp.TheVariants as atomic
use Rattle.loom_objects.specs.declared.operation.Request.TheVariants as op
use Rattle.loom_objects.specs.declared.operation.ThreadOp.TheVariants as threads
use Rattle.loom_examples.specs.Scripts.Written.{Written, Do, Label, JumpTo, SpawnAt, written}
use Rattle.loom_examples.specs.declared.scripts.step.Value.TheVariants.{Plain}
use Rattle.loom_examples.specs.Rows.Settings.{defaults}
use Rattle.loom_examples.specs.Rows.Steps.{exit, end}
use Rattle.loom_examples.specs.declared.measured.Measured.{Measured}
use Rattle.loom_examples.specs.declared.rows.settings.Settings.{Settings}

-- a name, the steps that it means, how they are checked, and how often
pub record Named : Type 0 where
  pub name : List ℕ
  pub steps : List Written
  pub settings : Settings
  pub checks : ℕ

abbrev pub named : Measured → Named
named body = record { name = body.name.now; steps = map written body.steps.now; settings = body.settings; checks = body.checks }

-- a search of runs with so many nodes at most, reduced or not, and with a bound on preemptions, if there is one
abbrev pub search : ℕ → Bool → Option ℕ → Settings
search max_branches reduce bound =
    record defaults { max_branches = max_branches; preemption_bound = bound; reduce = reduce }

abbrev pub measured : List ℕ → List Written → ℕ → Settings → Named
measured name steps checks settings = record { name = name; steps = steps; settings = settings; checks = checks }

-- the thread finishes with 0
abbrev pub finish : Written
finish = Do 0 (op.Thread (threads.Finish (Plain 0)))

-- stores to the atomics that three threads have for themselves
abbrev pub store_main : Written
store_main = Do 0 (op.Atomic (atomic.Store 0 1 Relaxed))

abbrev pub store_first : Written
store_first = Do 0 (op.Atomic (atomic.Store 1 1 Relaxed))

abbrev pub store_second : Written
store_second = Do 0 (op.Atomic (atomic.Store 2 1 Relaxed))

-- Three threads store to an atomic each: main five times, and the others three times. Main joins them.
abbrev pub stores_apart : List Written
stores_apart =
    Do 0 (op.Atomic (atomic.New numbers.U64 0)) ∷ Do 1 (op.Atomic (atomic.New numbers.U64 0)) ∷
    Do 2 (op.Atomic (atomic.New numbers.U64 0)) ∷ SpawnAt 3 (codes "first") ∷ SpawnAt 4 (codes "second") ∷
    store_main ∷ store_main ∷ store_main ∷ store_main ∷ store_main ∷ Do 0 (op.Thread (threads.Join 3 3)) ∷
    Do 0 (op.Thread (threads.Join 4 4)) ∷ JumpTo (codes "finish") ∷ Label (codes "first") ∷ store_first ∷
    store_first ∷ store_first ∷ JumpTo (codes "finish") ∷ Label (codes "second") ∷ store_second ∷ store_second ∷
    store_second ∷ Label (codes "finish") ∷ finish ∷ exit ∷ end ∷ []

-- many runs
abbrev pub many : List Named
many =
    measured (codes "stores_apart") stores_apart 1 (search 1000 false None) ∷
    measured (codes "stores_apart reduced") stores_apart 1 (search 1000 true None) ∷ []
