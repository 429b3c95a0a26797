-- What counted references do.
use Rattle.std.specs.Prelude.{ℕ, ◌+◌, ◌-◌, ◌==◌, ◌&&◌, Bool, true, false, nat_lt, cond, if◌then◌else◌, length, is_none, Option, Some, None, Result, Ok, Err, ⊤}
use Rattle.loom_views.specs.declared.rt.failure.FailureKind.{FailureKind}
use Rattle.loom_views.specs.declared.rt.failure.FailureKind.TheVariants.{Misuse, TooManySteps}
use Rattle.loom_views.specs.Limits.{highest_count}
use Rattle.loom_objects.specs.declared.operation.ArcOp.{ArcOp}
use Rattle.loom_objects.specs.declared.operation.ArcOp.TheVariants.{New, Clone, Drop, Get, GetMut, Put, TryUnwrap, StrongCount}
use Rattle.loom_objects.specs.declared.operation.Reply.{Reply}
use Rattle.loom_objects.specs.declared.operation.Reply.TheVariants as reply
use Rattle.loom_objects.specs.declared.operation.Turn.TheVariants as turn
use Rattle.loom_objects.specs.declared.rt.object.Object.TheVariants as object
use Rattle.loom_objects.specs.declared.rt.run.Entry.{Entry}
use Rattle.loom_objects.specs.declared.rt.run.Entry.TheVariants.{Answered, AtBranch}
use Rattle.loom_objects.specs.declared.rt.run.Passed.{Passed}
use Rattle.loom_objects.specs.declared.rt.run.Passed.TheVariants as passed
use Rattle.loom_objects.specs.declared.rt.arc.Arc.{Arc}
use Rattle.loom_objects.specs.declared.rt.thread.Counting.{Counting}
use Rattle.loom_objects.specs.declared.rt.thread.Counting.TheVariants as counting
use Rattle.loom_objects.specs.declared.rt.thread.Task.{Task}
use Rattle.loom_objects.specs.declared.rt.thread.Task.TheVariants as task
use Rattle.loom_objects.specs.Lent.{kept, value_in, handed_out, lent_to, put_back, where_in}
use Rattle.loom_objects.specs.Rules.Rule.{◌>>=◌, check, found}
use Rattle.loom_objects.specs.World.{World}
use Rattle.loom_objects.specs.Rules.Moves.{an_arc, acquires, is_number, pends, releases, with_new, with_object}

module _ {D : Type 0} where
  -- a reference is left, and no thread has the value out
  abbrev pub is_free : Arc D → Bool
  is_free arc = nat_lt 0 arc.count && is_none arc.content.lent

  -- a run ends before there are 2^64 references, since each is an operation
  abbrev pub may_grow : Arc D → Result ⊤ FailureKind
  may_grow arc = if is_free arc then (if nat_lt arc.count highest_count then Ok tt else Err TooManySteps) else Err Misuse

  -- the value, if there is one reference alone
  abbrev pub sole_value : Arc D → Result (Option D) FailureKind
  sole_value arc = if is_free arc then Ok (cond (arc.count == 1) (value_in arc.content) None) else Err Misuse

  abbrev pub with_one_fewer : Arc D → Arc D
  with_one_fewer arc = if arc.count == 1 then record arc { count = 0; content = where_in handed_out arc.content } else record arc { count = arc.count - 1 }

  -- the thread has the value, if there is one reference alone
  abbrev pub lent_alone : ℕ → Arc D → Arc D
  lent_alone t arc = if arc.count == 1 then record arc { content = where_in (lent_to t) arc.content } else arc

  -- a value with one reference
  abbrev pub arc_new : D → World D → Result (Entry D × World D) FailureKind
  arc_new value w = Ok (Answered (reply.Arc (length w.objects)), with_new (object.Arc (record { count = 1; content = kept value })) w)

  abbrev pub with_arc : ℕ → Arc D → World D → World D
  with_arc n arc w = with_object n (object.Arc arc) w

  -- a copy of the value
  abbrev pub arc_get : ℕ → World D → Result (Entry D × World D) FailureKind
  arc_get n w = do
    arc ← an_arc n w
    _ ← check (is_free arc) Misuse
    value ← found (value_in arc.content) Misuse
    Ok (Answered (reply.Data value), w)

  -- the thread that has the value out puts one back
  abbrev pub arc_put : ℕ → D → World D → Result (Entry D × World D) FailureKind
  arc_put n value w = do
    arc ← an_arc n w
    _ ← check (is_number arc.content.lent w.active) Misuse
    Ok (Answered reply.Done, with_arc n (record arc { content = put_back value arc.content }) w)

  -- at any other operation the thread reaches a branch point, where it is to do this
  abbrev pub comes_to : Task D → ℕ → World D → Result (Entry D × World D) FailureKind
  comes_to todo n w = do
    arc ← an_arc n w
    _ ← check (nat_lt 0 arc.count) Misuse
    Ok (AtBranch, pends todo false w)

  abbrev pub count_begins : Counting → ℕ → World D → Result (Entry D × World D) FailureKind
  count_begins counting n w = comes_to (task.Count counting n) n w

  abbrev pub unwrap_begins : ℕ → World D → Result (Entry D × World D) FailureKind
  unwrap_begins n w = comes_to (task.TryUnwrap n) n w

  abbrev pub arc_begins : ArcOp D → World D → Result (Entry D × World D) FailureKind
  arc_begins (New value) w = arc_new value w
  arc_begins (Get n) w = arc_get n w
  arc_begins (Put n value) w = arc_put n value w
  arc_begins (Clone n) w = count_begins counting.Clone n w
  arc_begins (Drop n) w = count_begins counting.Drop n w
  arc_begins (GetMut n) w = count_begins counting.GetMut n w
  arc_begins (StrongCount n) w = count_begins counting.StrongCount n w
  arc_begins (TryUnwrap n) w = unwrap_begins n w

  -- ---- once the thread is chosen

  -- one reference more
  abbrev pub increments : ℕ → World D → Result (Reply D × World D) FailureKind
  increments n w = do
    arc ← an_arc n w
    _ ← may_grow arc
    Ok (reply.Done, with_arc n (record arc { count = arc.count + 1 }) w)

  -- who drops the last reference acquires, and has the value
  abbrev pub drops_last : Option D → ℕ → World D → Result (Reply D × World D) FailureKind
  drops_last None n w = Ok (reply.Done, w)
  drops_last (Some value) n w = Ok (reply.Data value, acquires n w)

  -- the thread releases to the reference that it drops
  abbrev pub decrements : ℕ → World D → Result (Reply D × World D) FailureKind
  decrements n w = do
    arc ← an_arc n w
    value ← sole_value arc
    drops_last value n (releases n (with_arc n (with_one_fewer arc) w))

  abbrev pub shared_unless : Option D → Reply D
  shared_unless None = reply.Shared
  shared_unless (Some value) = reply.Data value

  -- the thread acquires, and has the value if nobody shares it
  abbrev pub takes_out : ℕ → World D → Result (Reply D × World D) FailureKind
  takes_out n w = do
    arc ← an_arc n w
    value ← sole_value arc
    Ok (shared_unless value, acquires n (with_arc n (lent_alone w.active arc) w))

  -- it acquires, and tells how many references there are
  abbrev pub tells_count : ℕ → World D → Result (Reply D × World D) FailureKind
  tells_count n w = do
    arc ← an_arc n w
    _ ← check (is_free arc) Misuse
    Ok (reply.Value arc.count, acquires n w)

  -- the first stage: the thread acquires, and reaches a second branch point, if it has the one reference alone
  abbrev pub unwraps_if : Bool → ℕ → World D → Result (Passed D × World D) FailureKind
  unwraps_if false n w = Ok (passed.Turn (turn.Reply w.active reply.Shared), w)
  unwraps_if true n w = do
    Ok (passed.AtBranch, pends (task.Count counting.Unwrap n) false w)

  abbrev pub tries_unwrap : ℕ → World D → Result (Passed D × World D) FailureKind
  tries_unwrap n w = do
    arc ← an_arc n w
    _ ← check (is_free arc) Misuse
    unwraps_if (arc.count == 1) n (acquires n w)

  -- the second one: it drops that reference
  abbrev pub unwraps : ℕ → World D → Result (Reply D × World D) FailureKind
  unwraps n w = do
    arc ← an_arc n w
    _ ← check (arc.count == 1) Misuse
    decrements n w

  abbrev pub counts : Counting → ℕ → World D → Result (Reply D × World D) FailureKind
  counts counting.Clone n w = increments n w
  counts counting.Drop n w = decrements n w
  counts counting.GetMut n w = takes_out n w
  counts counting.Unwrap n w = unwraps n w
  counts counting.StrongCount n w = tells_count n w

  -- memory may be refused where a counted reference is made, or its value is copied
  abbrev pub needs_memory : ArcOp D → Bool
  needs_memory (New value) = true
  needs_memory (Get n) = true
  needs_memory _ = false
