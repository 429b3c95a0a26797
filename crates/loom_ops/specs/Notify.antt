-- The notifiers that replies hold.
use Rattle.std.specs.Prelude.{Option, Some, None}
use Rattle.loom_objects.specs.declared.operation.Reply.{Reply}
use Rattle.loom_objects.specs.declared.operation.Reply.TheVariants.{Notify as NotifyMade}
use Rattle.loom_ops.specs.declared.sync.notify.Notify.{Notify}

module _ {D : Type 0} where
  -- the notifier that was made
  abbrev pub notify_handle : Reply D → Option Notify
  notify_handle (NotifyMade number) = Some (record { number = number })
  notify_handle _ = None
