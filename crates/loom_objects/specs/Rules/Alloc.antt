-- What tracked values do.
use Rattle.std.specs.Prelude.{ℕ, true, false, length, Bool, Result, Ok}
use Rattle.loom_views.specs.declared.rt.failure.FailureKind.{FailureKind}
use Rattle.loom_views.specs.declared.rt.failure.FailureKind.TheVariants.{Misuse}
use Rattle.loom_objects.specs.declared.operation.Reply.TheVariants as reply
use Rattle.loom_objects.specs.declared.operation.TrackOp.{TrackOp}
use Rattle.loom_objects.specs.declared.operation.TrackOp.TheVariants.{New, GetRef, GetMut, Put, IntoInner, Drop}
use Rattle.loom_objects.specs.declared.rt.object.Object.TheVariants as object
use Rattle.loom_objects.specs.declared.rt.run.Entry.{Entry}
use Rattle.loom_objects.specs.declared.rt.run.Entry.TheVariants.{Answered}
use Rattle.loom_objects.specs.declared.rt.alloc.Track.{Track}
use Rattle.loom_objects.specs.Lent.{kept, value_in, lent_to, put_back, taken_apart}
use Rattle.loom_objects.specs.Rules.Rule.{◌>>=◌, check, found}
use Rattle.loom_objects.specs.World.{World}
use Rattle.loom_objects.specs.Rules.Moves.{a_track, is_number, with_new, with_object}

module _ {D : Type 0} where
  -- a value that is tracked from now on
  abbrev pub track_new : D → World D → Result (Entry D × World D) FailureKind
  track_new value w = Ok (Answered (reply.Track (length w.objects)), with_new (object.Track (record { content = kept value })) w)

  abbrev pub with_track : ℕ → Track D → World D → World D
  with_track n track w = with_object n (object.Track track) w

  -- a copy of the value
  abbrev pub track_get_ref : ℕ → World D → Result (Entry D × World D) FailureKind
  track_get_ref n w = do
    track ← a_track n w
    value ← found (value_in track.content) Misuse
    Ok (Answered (reply.Data value), w)

  -- the value goes out
  abbrev pub track_get_mut : ℕ → World D → Result (Entry D × World D) FailureKind
  track_get_mut n w = do
    track ← a_track n w
    value ← found (value_in track.content) Misuse
    Ok (Answered (reply.Data value), with_track n (record { content = lent_to w.active track.content }) w)

  -- the thread that has the value out puts one back
  abbrev pub track_put : ℕ → D → World D → Result (Entry D × World D) FailureKind
  track_put n value w = do
    track ← a_track n w
    _ ← check (is_number track.content.lent w.active) Misuse
    Ok (Answered reply.Done, with_track n (record { content = put_back value track.content }) w)

  -- the value is given back
  abbrev pub track_take : ℕ → World D → Result (Entry D × World D) FailureKind
  track_take n w = do
    track ← a_track n w
    value ← found (value_in track.content) Misuse
    Ok (Answered (reply.Data value), with_track n (record { content = taken_apart track.content }) w)

  abbrev pub track_begins : TrackOp D → World D → Result (Entry D × World D) FailureKind
  track_begins (New value) w = track_new value w
  track_begins (GetRef n) w = track_get_ref n w
  track_begins (GetMut n) w = track_get_mut n w
  track_begins (Put n value) w = track_put n value w
  track_begins (IntoInner n) w = track_take n w
  track_begins (Drop n) w = track_take n w

  -- memory may be refused where a tracked value is made or copied
  abbrev pub needs_memory : TrackOp D → Bool
  needs_memory (New value) = true
  needs_memory (GetRef n) = true
  needs_memory _ = false
