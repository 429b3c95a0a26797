-- What is done to tracked values keeps locks sound.
use Rattle.std.proofs.Common.{ℕ}
use Rattle.loom_views.specs.declared.rt.failure.FailureKind.TheVariants.{Misuse}
use Rattle.loom_objects.specs.declared.operation.TrackOp.{TrackOp}
use Rattle.loom_objects.specs.declared.operation.TrackOp.TheVariants as track_op
use Rattle.loom_objects.specs.Lent.{value_in}
use Rattle.loom_objects.specs.Rules.Moves.{a_track, is_number}
use Rattle.loom_objects.specs.Rules.Alloc.{track_begins, track_take}
use Rattle.loom_objects.specs.World.{World}
use Rattle.loom_engine.proofs.Runs.Ruling.{Keeping, check_keeping, fair_keeping, found_keeping, misuse, new_keeping, set_keeping, track_fair}

module _ {D : Type 0} where
  takes_track_keeping : (n : ℕ) (w : World D) → Keeping w (track_take n w)
  takes_track_keeping n w = fair_keeping (a_track n w) _ w (track_fair n w) (λ track. found_keeping (value_in track.content) Misuse _ w misuse (λ value e out k. set_keeping w n _ tt out k))

  pub track_begins_keeping : (todo : TrackOp D) (w : World D) → Keeping w (track_begins todo w)
  track_begins_keeping (track_op.New value) w = λ out k. new_keeping w _ tt out k
  track_begins_keeping (track_op.GetRef n) w = fair_keeping (a_track n w) _ w (track_fair n w) (λ track. found_keeping (value_in track.content) Misuse _ w misuse (λ value e out k. k))
  track_begins_keeping (track_op.GetMut n) w = fair_keeping (a_track n w) _ w (track_fair n w) (λ track. found_keeping (value_in track.content) Misuse _ w misuse (λ value e out k. set_keeping w n _ tt out k))
  track_begins_keeping (track_op.Put n value) w =
      fair_keeping (a_track n w) _ w (track_fair n w) (λ track. check_keeping (is_number track.content.lent w.active) Misuse _ w misuse (λ e out k. set_keeping w n _ tt out k))
  track_begins_keeping (track_op.IntoInner n) w = takes_track_keeping n w
  track_begins_keeping (track_op.Drop n) w = takes_track_keeping n w
