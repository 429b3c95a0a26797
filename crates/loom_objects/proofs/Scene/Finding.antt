-- An object that is found by its number stands there.
use Rattle.std.proofs.Common.{◌≡◌, ◌∙◌, ap, refl, sym}
use Rattle.std.specs.Prelude.{ℕ, List, slice_get, slice_set, Bool, true, false, cond, Option, Some, None, Ok, Err}
use Rattle.loom_views.specs.declared.rt.failure.FailureKind.TheVariants.{Misuse}
use Rattle.loom_views.proofs.Atomic.Table.Lists.{set-same}
use Rattle.loom_objects.specs.declared.rt.object.Object.{Object}
use Rattle.loom_objects.specs.declared.rt.object.Object.TheVariants as object
use Rattle.loom_objects.specs.declared.rt.atomic_waker.AtomicWaker.{AtomicWaker}
use Rattle.loom_objects.specs.declared.rt.cell.Cell.{Cell}
use Rattle.loom_objects.specs.declared.rt.mpsc.Channel.{Channel}
use Rattle.loom_objects.specs.Scene.Lookup.{atomic_waker_in, cell_in, channel_in, looked_up, object_at}

module _ {D : Type 0} where
  there : (o : Option (Object D)) (object : Object D) → Ok object ≡ looked_up Ok o → o ≡ Some object
  there None object e = absurd (cc)
  there (Some other) object e = cc

  -- written back as it was found, it leaves the objects as they were
  pub object_kept : (objects : List (Object D)) (n : ℕ) (object : Object D) → Ok object ≡ object_at n objects → slice_set objects n object ≡ objects
  object_kept objects n object at = set-same objects n object (there (slice_get objects n) object at)

  whole : (cell c : Cell D) (taken : Bool) → cell.content.is_taken ≡ taken → cond taken (Err Misuse) (Ok cell) ≡ Ok c → (Some (object.Cell cell) ≡ Some (object.Cell c)) × (c.content.is_taken ≡ false)
  whole cell c true is e = absurd (cc)
  whole cell c false is e = let same : cell ≡ c = cc in (ap (λ (x : Cell D). Some (object.Cell x)) same, ap (λ (x : Cell D). x.content.is_taken) (sym same) ∙ is)

  -- a cell wasn't taken apart
  pub cell_stands : (o : Option (Object D)) (c : Cell D) → looked_up cell_in o ≡ Ok c → (o ≡ Some (object.Cell c)) × (c.content.is_taken ≡ false)
  cell_stands None c e = absurd (cc)
  cell_stands (Some (object.Cell cell)) c e = whole cell c cell.content.is_taken refl e
  cell_stands (Some _) c e = absurd (cc)

  pub channel_stands : (o : Option (Object D)) (channel : Channel D) → looked_up channel_in o ≡ Ok channel → o ≡ Some (object.Channel channel)
  channel_stands None channel e = absurd (cc)
  channel_stands (Some (object.Channel other)) channel e = cc
  channel_stands (Some _) channel e = absurd (cc)

  pub place_stands : (o : Option (Object D)) (place : AtomicWaker) → looked_up atomic_waker_in o ≡ Ok place → o ≡ Some (object.AtomicWaker place)
  place_stands None place e = absurd (cc)
  place_stands (Some (object.AtomicWaker other)) place e = cc
  place_stands (Some _) place e = absurd (cc)
