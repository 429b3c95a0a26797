-- Bodies that never switch whether the search explores.
use Rattle.std.specs.Prelude.{◌≡◌, false, Some}
use Rattle.loom_objects.specs.declared.operation.Reply.{Reply}
use Rattle.loom_objects.specs.Exploring.{is_switch}
use Rattle.loom_objects.specs.Operation.Labelled.{Op}
use Rattle.loom_objects.specs.Operation.Plain.{started}

module _ {D S : Type 0} (next : S → Reply D → S × Op D S) where
  -- A body comes of the first one: it is that, or what one that comes of it becomes by a reply, or what such a one starts.
  pub data ComesOf (first : S) : S → Type 0 where
    itself : ComesOf first first
    becomes : (body : S) (answer : Reply D) → ComesOf first body → ComesOf first (next body answer).0
    starts : (body : S) (answer : Reply D) (child : S) → ComesOf first body → started (next body answer).1 ≡ Some child → ComesOf first child

  -- No body that comes of this one hands over such a switch.
  abbrev pub NeverSwitches : S → Type 0
  NeverSwitches first = (body : S) (answer : Reply D) → ComesOf first body → is_switch (next body answer).1.request ≡ false
