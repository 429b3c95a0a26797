-- Two cells exchange their data, once both are written.
use Rattle.std.specs.Prelude.{ℕ, None, Result, Ok, ⊤}
use Rattle.loom_views.specs.declared.rt.failure.FailureKind.{FailureKind}
use Rattle.loom_objects.specs.declared.operation.Reply.TheVariants as reply
use Rattle.loom_objects.specs.declared.rt.run.Entry.{Entry}
use Rattle.loom_objects.specs.declared.rt.run.Entry.TheVariants.{Answered}
use Rattle.loom_objects.specs.Rules.Cell.{holding, records_write, with_cell}
use Rattle.loom_objects.specs.Rules.Moves.{a_cell}
use Rattle.loom_objects.specs.Rules.Rule.{◌>>=◌}
use Rattle.loom_objects.specs.World.{World}

module _ {D : Type 0} where
  -- the active thread writes both, the later one first
  abbrev pub writes_both : ℕ → ℕ → World D → Result (⊤ × World D) FailureKind
  writes_both n m w = do
    written ← records_write m w
    ended ← records_write n written
    Ok (tt, ended)

  -- each holds what the other one held
  abbrev pub exchanges_data : ℕ → ℕ → World D → Result (Entry D × World D) FailureKind
  exchanges_data n m w = do
    one ← a_cell n w
    other ← a_cell m w
    Ok (Answered reply.Done, with_cell n (holding other.content.value None one) (with_cell m (holding one.content.value None other) w))
